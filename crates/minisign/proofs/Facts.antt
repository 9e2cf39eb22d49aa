-- Known values of the definitions: examples of RFC 4648, the published key and signature, and a
-- damaged text for each error. A wrong character or byte makes the proof fail. The digest and the
-- decoded bytes come from other programs.
use Rattle.std.proofs.Common.{◌≡◌, refl, ℕ, true, false, ◌&&◌, ◌||◌, Result, Ok, Err, List, [], ◌∷◌, ◌++◌}
use Rattle.std.proofs.Common.{codes, drop, take, replicate, bytes_eq}
use Rattle.std.specs.Str.{trim_start, trim_end, chars}
use Rattle.std.specs.Int.{to_le_bytes, w64}
use lib.Utf8.{encode}
use Rattle.base64.specs.Rfc4648.{encode_symbols}
use Rattle.base64.specs.Decode.{groups_bytes, scan_steps}
use Rattle.minisign_hash.specs.Blake2b.{blake2b_digest, padded_block, compress, iv, mix, round, rounds, sigma}
use Rattle.minisign_hash.specs.Blake2b.{state_after, work_vector}
use Rattle.minisign_hash.specs.Words.{bytes_of_words64, words64_of}
use Rattle.minisign_base.specs.Fault.{Fault, Named}
use Rattle.minisign_base.specs.declared.faults.NamedFault.TheVariants as named
use Rattle.minisign.specs.Records.{PublicKeyRecord}
use Rattle.minisign.specs.Texts.{line, base64_of, base64_bytes, is_base64, untrusted_comment_label}
use Rattle.minisign.specs.KeyTexts.{read_public_key, read_bare_public_key, read_secret_key}
use Rattle.minisign.specs.SignatureText.{comment_offset, SignatureTextRecord, read_signature}
use Rattle.minisign.specs.SignatureText.{trusted_comment_label}
use Rattle.minisign.specs.Acceptance.{Verifier}
use Rattle.minisign.specs.Headline.{verdict}

-- Two names for lists of definitions: unfolding `readers`, for the facts about parsing, or `verdicts`, for
-- those about verdicts, unfolds all definitions of its list.
unfoldable readers : ℕ
unfolding read_public_key read_bare_public_key read_signature read_secret_key untrusted_comment_label
    trusted_comment_label base64_of base64_bytes is_base64 encode_symbols groups_bytes scan_steps trim_start
    trim_end chars encode
readers = 0

unfoldable verdicts : ℕ
unfolding readers verdict blake2b_digest state_after padded_block compress work_vector rounds round mix iv
    sigma words64_of bytes_of_words64
verdicts = 0

-- == Base64: the examples of RFC 4648, section 10, and all characters in order ==

pub base64_of_nothing : base64_of [] ≡ []
unfolding readers
base64_of_nothing = refl

pub base64_of_f : base64_of (codes "f") ≡ codes "Zg=="
unfolding readers
base64_of_f = refl

pub base64_of_fo : base64_of (codes "fo") ≡ codes "Zm8="
unfolding readers
base64_of_fo = refl

pub base64_of_foo : base64_of (codes "foo") ≡ codes "Zm9v"
unfolding readers
base64_of_foo = refl

pub base64_of_foob : base64_of (codes "foob") ≡ codes "Zm9vYg=="
unfolding readers
base64_of_foob = refl

pub base64_of_fooba : base64_of (codes "fooba") ≡ codes "Zm9vYmE="
unfolding readers
base64_of_fooba = refl

pub base64_of_foobar : base64_of (codes "foobar") ≡ codes "Zm9vYmFy"
unfolding readers
base64_of_foobar = refl

pub base64_of_all_characters : base64_of (
    0x00 ∷ 0x10 ∷ 0x83 ∷ 0x10 ∷ 0x51 ∷ 0x87 ∷ 0x20 ∷ 0x92 ∷ 0x8b ∷ 0x30 ∷ 0xd3 ∷ 0x8f ∷ 0x41 ∷ 0x14 ∷ 0x93 ∷
    0x51 ∷ 0x55 ∷ 0x97 ∷ 0x61 ∷ 0x96 ∷ 0x9b ∷ 0x71 ∷ 0xd7 ∷ 0x9f ∷ 0x82 ∷ 0x18 ∷ 0xa3 ∷ 0x92 ∷ 0x59 ∷ 0xa7 ∷
    0xa2 ∷ 0x9a ∷ 0xab ∷ 0xb2 ∷ 0xdb ∷ 0xaf ∷ 0xc3 ∷ 0x1c ∷ 0xb3 ∷ 0xd3 ∷ 0x5d ∷ 0xb7 ∷ 0xe3 ∷ 0x9e ∷ 0xbb ∷
    0xf3 ∷ 0xdf ∷ 0xbf ∷ []
    ) ≡ codes "ABCDEFGHIJKLMNOPQRSTUVWXYZabcdefghijklmnopqrstuvwxyz0123456789+/"
unfolding readers
base64_of_all_characters = refl

-- == The key that was published with the Rust crate: tests/corpus/published.pub ==

abbrev key_comment : List ℕ
key_comment = codes "untrusted comment: minisign public key E7620F1842B4E81F"

abbrev key_line : List ℕ
key_line = codes "RWQf6LRCGA9i53mlYecO4IzT51TGPpvWucNSCh1CBM0QTaLn73Y7GFO3"

abbrev published_key : PublicKeyRecord
published_key = record {
  algorithm = codes "Ed";
  keynum = to_le_bytes w64 0xE7620F1842B4E81F;
  key =
      0x79 ∷ 0xa5 ∷ 0x61 ∷ 0xe7 ∷ 0x0e ∷ 0xe0 ∷ 0x8c ∷ 0xd3 ∷ 0xe7 ∷ 0x54 ∷ 0xc6 ∷ 0x3e ∷ 0x9b ∷ 0xd6 ∷ 0xb9 ∷
      0xc3 ∷ 0x52 ∷ 0x0a ∷ 0x1d ∷ 0x42 ∷ 0x04 ∷ 0xcd ∷ 0x10 ∷ 0x4d ∷ 0xa2 ∷ 0xe7 ∷ 0xef ∷ 0x76 ∷ 0x3b ∷ 0x18 ∷
      0x53 ∷ 0xb7 ∷ [];
}

pub key_of_text : read_public_key (line key_comment ++ line key_line) ≡ Ok published_key
unfolding readers
key_of_text = refl

pub key_of_bare_base64 : read_bare_public_key key_line ≡ Ok published_key
unfolding readers
key_of_bare_base64 = refl

-- A text for each error.
pub key_without_comment : read_public_key [] ≡ Err (Named named.MissingPublicKeyComment)
unfolding readers
key_without_comment = refl

pub key_without_second_line : read_public_key (line key_comment) ≡ Err (Named named.MissingEncodedPublicKey)
unfolding readers
key_without_second_line = refl

pub key_line_with_space :
    read_public_key (line key_comment ++ line (key_line ++ codes " "))
    ≡ Err (Named named.PublicKeyLineLength)
unfolding readers
key_line_with_space = refl

pub key_line_with_star :
    read_public_key (line key_comment ++ line (codes "*" ++ drop 1 key_line))
    ≡ Err (Named named.PublicKeyLineNotBase64)
unfolding readers
key_line_with_star = refl

pub key_line_of_41_bytes :
    read_public_key (line key_comment ++ line (take 54 key_line ++ codes "M="))
    ≡ Err (Named named.RecordTooShort)
unfolding readers
key_line_of_41_bytes = refl

pub bare_key_cut_off : read_bare_public_key (take 55 key_line) ≡ Err (Named named.BarePublicKeyLength)
unfolding readers
bare_key_cut_off = refl

pub bare_key_with_space :
    read_bare_public_key (key_line ++ codes " ")
    ≡ Err (Named named.BarePublicKeyNotBase64)
unfolding readers
bare_key_with_space = refl

-- == The signature that was published with it, of the four bytes `test`: tests/corpus/published.minisig ==

abbrev untrusted_line : List ℕ
untrusted_line = codes "untrusted comment: signature from minisign secret key"

abbrev signature_line : List ℕ
signature_line = codes "RUQf6LRCGA9i559r3g7V1qNyJDApGip8MfqcadIgT9CuhV3EMhHoN1mGTkUidF/z7SrlQgXdy8ofjb7bNJJylDOocrCo8KLzZwo="

abbrev trusted_comment : List ℕ
trusted_comment = codes "timestamp:1556193335\tfile:test"

abbrev trusted_line : List ℕ
trusted_line = codes "trusted comment: " ++ trusted_comment

abbrev comment_signature_line : List ℕ
comment_signature_line =
    codes "y/rUw2y8/hOUYjZU71eHp/Wo1KZ40fGy2VJEDl34XMJM+TX48Ss/17u3IvIfbVR1FkZZSNCisQbuQY+bHwhEBg=="

-- The text of the signature: three lines, and a last one without a line feed.
abbrev text_of : List ℕ → List ℕ → List ℕ → List ℕ → List ℕ
text_of first second third fourth = line first ++ line second ++ line third ++ fourth

abbrev published_signature : SignatureTextRecord
published_signature = record {
  signature = record {
    algorithm = codes "ED";
    keynum = to_le_bytes w64 0xE7620F1842B4E81F;
    signature =
        0x9f ∷ 0x6b ∷ 0xde ∷ 0x0e ∷ 0xd5 ∷ 0xd6 ∷ 0xa3 ∷ 0x72 ∷ 0x24 ∷ 0x30 ∷ 0x29 ∷ 0x1a ∷ 0x2a ∷ 0x7c ∷ 0x31
        ∷
        0xfa ∷ 0x9c ∷ 0x69 ∷ 0xd2 ∷ 0x20 ∷ 0x4f ∷ 0xd0 ∷ 0xae ∷ 0x85 ∷ 0x5d ∷ 0xc4 ∷ 0x32 ∷ 0x11 ∷ 0xe8 ∷ 0x37
        ∷
        0x59 ∷ 0x86 ∷ 0x4e ∷ 0x45 ∷ 0x22 ∷ 0x74 ∷ 0x5f ∷ 0xf3 ∷ 0xed ∷ 0x2a ∷ 0xe5 ∷ 0x42 ∷ 0x05 ∷ 0xdd ∷ 0xcb
        ∷
        0xca ∷ 0x1f ∷ 0x8d ∷ 0xbe ∷ 0xdb ∷ 0x34 ∷ 0x92 ∷ 0x72 ∷ 0x94 ∷ 0x33 ∷ 0xa8 ∷ 0x72 ∷ 0xb0 ∷ 0xa8 ∷ 0xf0
        ∷
        0xa2 ∷ 0xf3 ∷ 0x67 ∷ 0x0a ∷ [];
  };
  comments = record {
    untrusted = codes "signature from minisign secret key";
    trusted = trusted_comment;
    signature =
        0xcb ∷ 0xfa ∷ 0xd4 ∷ 0xc3 ∷ 0x6c ∷ 0xbc ∷ 0xfe ∷ 0x13 ∷ 0x94 ∷ 0x62 ∷ 0x36 ∷ 0x54 ∷ 0xef ∷ 0x57 ∷ 0x87
        ∷
        0xa7 ∷ 0xf5 ∷ 0xa8 ∷ 0xd4 ∷ 0xa6 ∷ 0x78 ∷ 0xd1 ∷ 0xf1 ∷ 0xb2 ∷ 0xd9 ∷ 0x52 ∷ 0x44 ∷ 0x0e ∷ 0x5d ∷ 0xf8
        ∷
        0x5c ∷ 0xc2 ∷ 0x4c ∷ 0xf9 ∷ 0x35 ∷ 0xf8 ∷ 0xf1 ∷ 0x2b ∷ 0x3f ∷ 0xd7 ∷ 0xbb ∷ 0xb7 ∷ 0x22 ∷ 0xf2 ∷ 0x1f
        ∷
        0x6d ∷ 0x54 ∷ 0x75 ∷ 0x16 ∷ 0x46 ∷ 0x59 ∷ 0x48 ∷ 0xd0 ∷ 0xa2 ∷ 0xb1 ∷ 0x06 ∷ 0xee ∷ 0x41 ∷ 0x8f ∷ 0x9b
        ∷
        0x1f ∷ 0x08 ∷ 0x44 ∷ 0x06 ∷ [];
  };
}

pub signature_of_text :
    read_signature (text_of untrusted_line signature_line trusted_line comment_signature_line)
    ≡ Ok published_signature
unfolding readers
signature_of_text = refl

-- The offset of the trusted comment. With a carriage return at the end of each line, the lines
-- before it are longer. Two spaces before the comment are not part of it.
pub comment_of_text : comment_offset
    (text_of untrusted_line signature_line trusted_line comment_signature_line) ≡ 172
unfolding readers comment_offset
comment_of_text = refl

pub comment_after_spaces :
    comment_offset (text_of (untrusted_line ++ 13 ∷ []) (signature_line ++ 13 ∷ [])
    (codes "trusted comment:   x " ++ 13 ∷ [])
    comment_signature_line) ≡ 176
unfolding readers comment_offset
comment_after_spaces = refl

-- A text for each error.
pub signature_without_first_line : read_signature [] ≡ Err (Named named.MissingUntrustedComment)
unfolding readers
signature_without_first_line = refl

pub signature_without_second_line : read_signature (line untrusted_line) ≡ Err (Named named.MissingSignature)
unfolding readers
signature_without_second_line = refl

pub signature_without_third_line :
    read_signature (line untrusted_line ++ line signature_line)
    ≡ Err (Named named.MissingTrustedComment)
unfolding readers
signature_without_third_line = refl

pub signature_without_fourth_line :
    read_signature (line untrusted_line ++ line signature_line ++ line trusted_line)
    ≡ Err (Named named.MissingGlobalSignature)
unfolding readers
signature_without_fourth_line = refl

pub signature_without_label :
    read_signature (text_of (drop 1 untrusted_line) signature_line trusted_line comment_signature_line)
    ≡ Err (Named named.UntrustedCommentPrefix)
unfolding readers
signature_without_label = refl

pub signature_without_first_character :
    read_signature (text_of untrusted_line (drop 1 signature_line) trusted_line comment_signature_line)
    ≡ Err (Named named.SignatureNotBase64)
unfolding readers
signature_without_first_character = refl

pub signature_of_73_bytes :
    read_signature (text_of untrusted_line (take 96 signature_line ++ codes "Zw==") trusted_line
    comment_signature_line)
    ≡ Err (Named named.RecordTooShort)
unfolding readers
signature_of_73_bytes = refl

pub signature_without_trusted_label :
    read_signature (text_of untrusted_line signature_line (drop 1 trusted_line) comment_signature_line)
    ≡ Err (Named named.TrustedCommentPrefix)
unfolding readers
signature_without_trusted_label = refl

pub signature_of_algorithm_ET :
    read_signature (text_of untrusted_line (codes "RVQf" ++ drop 4 signature_line) trusted_line
    comment_signature_line)
    ≡ Err (Named named.UnsupportedSignatureAlgorithm)
unfolding readers
signature_of_algorithm_ET = refl

pub comment_signature_without_first_character :
    read_signature (text_of untrusted_line signature_line trusted_line (drop 1 comment_signature_line))
    ≡ Err (Named named.SignatureNotBase64)
unfolding readers
comment_signature_without_first_character = refl

-- == Secret keys: a text for each error ==

pub secret_key_without_comment : read_secret_key [] ≡ Err (Named named.MissingSecretKeyComment)
unfolding readers
secret_key_without_comment = refl

pub secret_key_without_second_line :
    read_secret_key (line (codes "comment"))
    ≡ Err (Named named.MissingEncodedSecretKey)
unfolding readers
secret_key_without_second_line = refl

pub secret_key_with_space :
    read_secret_key (line (codes "comment") ++ line (codes "Zm9v "))
    ≡ Err (Named named.SecretKeyNotBase64)
unfolding readers
secret_key_with_space = refl

pub secret_key_of_157_bytes :
    read_secret_key (line (codes "comment") ++ line (base64_of (replicate 157 0)))
    ≡ Err (Named named.RecordTooShort)
unfolding readers
secret_key_of_157_bytes = refl

-- == The verdict on these texts ==

-- The two Ed25519 checks that must succeed, because the author of Minisign made these signatures: that of
-- the signature for the digest of `test`, and that of the comment signature for the signature followed by
-- the trusted comment.
abbrev digest : List ℕ
digest =
    0xa7 ∷ 0x10 ∷ 0x79 ∷ 0xd4 ∷ 0x28 ∷ 0x53 ∷ 0xde ∷ 0xa2 ∷ 0x6e ∷ 0x45 ∷ 0x30 ∷ 0x04 ∷ 0x33 ∷ 0x86 ∷ 0x70 ∷
    0xa5 ∷ 0x38 ∷ 0x14 ∷ 0xb7 ∷ 0x81 ∷ 0x37 ∷ 0xff ∷ 0xbe ∷ 0xd0 ∷ 0x76 ∷ 0x03 ∷ 0xa4 ∷ 0x1d ∷ 0x76 ∷ 0xa4 ∷
    0x83 ∷ 0xaa ∷ 0x9b ∷ 0xc3 ∷ 0x3b ∷ 0x58 ∷ 0x2f ∷ 0x77 ∷ 0xd3 ∷ 0x0a ∷ 0x65 ∷ 0xe6 ∷ 0xf2 ∷ 0x9a ∷ 0x89 ∷
    0x6c ∷ 0x04 ∷ 0x11 ∷ 0xf3 ∷ 0x83 ∷ 0x12 ∷ 0xe1 ∷ 0xd6 ∷ 0x6e ∷ 0x0b ∷ 0xf1 ∷ 0x63 ∷ 0x86 ∷ 0xc8 ∷ 0x6a ∷
    0x89 ∷ 0xbe ∷ 0xa5 ∷ 0x72 ∷ []

abbrev accepts_signature : Verifier
accepts_signature message key signature =
    bytes_eq message digest && bytes_eq key published_key.key
    && bytes_eq signature published_signature.signature.signature

abbrev accepts_comment : Verifier
accepts_comment message key signature =
    bytes_eq message (published_signature.signature.signature ++ trusted_comment)
    && bytes_eq key published_key.key
    && bytes_eq signature published_signature.comments.signature

abbrev accepts_both : Verifier
accepts_both message key signature =
    accepts_signature message key signature || accepts_comment message key signature

-- The verdict on a key and a signature with these lines, for data.
abbrev verdict_on : Verifier → List ℕ → List ℕ → List ℕ → Result (List ℕ) Fault
verdict_on accepts key signature message =
    verdict accepts (line key_comment ++ line key)
    (text_of untrusted_line signature trusted_line comment_signature_line) message false

pub verdict_if_all_is_accepted : verdict_on (λ _ _ _. true) key_line signature_line [] ≡ Ok trusted_comment
unfolding verdicts
verdict_if_all_is_accepted = refl

pub verdict_if_both_are_accepted :
    verdict_on accepts_both key_line signature_line (codes "test")
    ≡ Ok trusted_comment
unfolding verdicts
verdict_if_both_are_accepted = refl

pub verdict_under_another_key_id :
    verdict_on (λ _ _ _. true) (codes "RWQg" ++ drop 4 key_line) signature_line []
    ≡ Err (Named (named.DifferentKeyIds
    (to_le_bytes w64 0xE7620F1842B4E81F) (to_le_bytes w64 0xE7620F1842B4E820)))
unfolding verdicts
verdict_under_another_key_id = refl

pub verdict_on_a_legacy_signature :
    verdict_on (λ _ _ _. true) key_line (codes "RWQf" ++ drop 4 signature_line) []
    ≡ Err (Named named.LegacyNotAccepted)
unfolding verdicts
verdict_on_a_legacy_signature = refl

pub verdict_on_other_data :
    verdict_on accepts_both key_line signature_line (codes "tess")
    ≡ Err (Named named.SignatureRefused)
unfolding verdicts
verdict_on_other_data = refl

pub verdict_if_the_comment_is_rejected :
    verdict_on accepts_signature key_line signature_line (codes "test")
    ≡ Err (Named named.CommentSignatureRefused)
unfolding verdicts
verdict_if_the_comment_is_rejected = refl
