-- The struct that holds a signature: how it is read from a file, and how it is compared with the file later.
use Rattle.std.specs.Prelude.{◌≡◌, ◌==◌, ◌≤◌, ◌+◌, ◌&&◌, ℕ, nat_le, Bool, if◌then◌else◌, bytes_eq, List}
use Rattle.std.specs.Prelude.{length, take, drop, Result, Ok, Err}
use Rattle.std.specs.Str.{IsUtf8, is_utf8}
use Rattle.minisign_hash.specs.Blake2b.{blake2b_digest}
use Rattle.minisign_base.specs.Fault.{Fault}
use Rattle.minisign.specs.SignatureText.{IsAtOffset, comment_offset, SignatureTextRecord, read_signature}
use Rattle.minisign.specs.Records.{SignatureRecord, is_prehashed}
use Rattle.minisign.specs.Texts.{map_ok}
use Rattle.minisign_external.specs.Numbers.{fault_number}
use Rattle.minisign_external.specs.PublicKeys.{read_utf8}
use Rattle.minisign_external.specs.Questions.{has_whole_signature, comment_signature_or_zeros}
use Rattle.minisign_external.specs.declared.signatures.SignatureValue.{SignatureValue}
use Rattle.minisign_external.specs.declared.state.Misuse.{Misuse}
use Rattle.minisign_external.specs.declared.state.Misuse.TheVariants.{OtherSignatureText, SignatureNotRead}

-- The mark of a signature that was read: "minisigv".
abbrev pub signature_mark : ℕ
signature_mark = 8531903963487693165

-- The struct for a parsed signature file.
abbrev pub signature_value : List ℕ → SignatureTextRecord → SignatureValue
signature_value text t = record {
  mark = signature_mark;
  key_id = t.signature.keynum;
  signature = t.signature.signature;
  comment_signature = comment_signature_or_zeros t.comments;
  comment_offset = comment_offset text;
  comment_len = length t.comments.trusted;
  text_digest = blake2b_digest 32 text;
  algorithm = t.signature.algorithm;
  legacy = if is_prehashed t.signature then 0 else 1;
  whole = if has_whole_signature t.comments then 1 else 0;
  reserved = 0;
}

-- Parses a signature file, which must be UTF-8, to a struct.
abbrev pub read_signature_value : List ℕ → Result SignatureValue Fault
read_signature_value text = map_ok (signature_value text) (read_utf8 read_signature text)

-- The outcome for other languages of a call that reads a signature: 0 or the error number, and the struct
-- afterwards, which is unchanged after an error.
abbrev pub signature_outcome : Result SignatureValue Fault → SignatureValue → ℕ × SignatureValue
signature_outcome (Ok s) old = (0, s)
signature_outcome (Err e) old = (fault_number e, old)

-- The struct was read from this text, which parses to this signature: the trusted comment is in the text at
-- the position that the struct gives, it is UTF-8, and it is at least 64 bytes shorter than the text.
pub record IsReadFrom (s : SignatureValue) (text : List ℕ) (t : SignatureTextRecord) : Type 0 where
  pub read : read_utf8 read_signature text ≡ Ok t
  pub value : s ≡ signature_value text t
  pub comment : IsAtOffset t.comments.trusted text s.comment_offset
  pub utf8 : IsUtf8 t.comments.trusted
  pub room : 64 + length t.comments.trusted ≤ length text

-- The signature in a struct.
abbrev pub signature_of_value : SignatureValue → SignatureRecord
signature_of_value s = record { algorithm = s.algorithm; keynum = s.key_id; signature = s.signature }

-- The bytes of a text at the position of the trusted comment that a struct gives.
abbrev pub comment_bytes : SignatureValue → List ℕ → List ℕ
comment_bytes s text = take s.comment_len (drop s.comment_offset text)

-- The text is accepted as the one that the struct was read from: it has the recorded digest, is long enough
-- for the position of the trusted comment, and has UTF-8 there. Two texts with the same digest cannot be
-- distinguished.
abbrev pub is_text_of : SignatureValue → List ℕ → Bool
is_text_of s text =
    bytes_eq (blake2b_digest 32 text) s.text_digest && nat_le (s.comment_offset + s.comment_len) (length text)
    && is_utf8 (comment_bytes s text)

-- The trusted comment in the text that the struct was read from. It is API misuse if no signature file was
-- read into the struct, or if the text is a different one.
abbrev pub comment_of : SignatureValue → List ℕ → Result (List ℕ) Misuse
comment_of s text =
    if s.mark == signature_mark then if is_text_of s text then Ok (comment_bytes s text) else
    Err OtherSignatureText
    else Err SignatureNotRead
