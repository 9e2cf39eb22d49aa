-- The conditions under which a signature box is valid for data under a public key: as a record, and as a
-- function that gives the first condition that fails. Also the status lines for a valid signature.
use Rattle.std.specs.Prelude.{◌≡◌, ⊤, ℕ, Bool, true, IsTrue, ◌⊎◌, ◌||◌, ◌&&◌, if◌then◌else◌, nat_le, List, []}
use Rattle.std.specs.Prelude.{◌++◌, length, take, Option, Result, Ok, codes, bytes_eq, option_map}
use Rattle.std.specs.Option.{option_map_or}
use Rattle.minisign_hash.specs.Blake2b.{blake2b_digest}
use Rattle.minisign_base.specs.Fault.{Fault}
use Rattle.minisign.specs.Texts.{line, and_then, require}
use Rattle.minisign.specs.declared.options.VerifyOptions.{VerifyOptions}
use Rattle.minisign.specs.Records.{PublicKeyRecord, SignatureRecord, SignatureBoxRecord, is_prehashed}
use Rattle.minisign.specs.Records.{prehashed_algorithm}
use Rattle.minisign_base.specs.declared.faults.NamedFault.TheVariants as named

-- A signature scheme's check: true if it accepts the signature of the message under the public key.
-- The arguments are message, public key and signature.
abbrev pub Verifier : Type 0
Verifier = List ℕ → List ℕ → List ℕ → Bool

-- The options with the flags quiet, output and allow_legacy.
abbrev pub options_of : Bool → Bool → Bool → VerifyOptions
options_of quiet output legacy = record { quiet = quiet; output = output; allow_legacy = legacy }

-- The bytes that the signature signs: the 64-byte Blake2b digest of the message (prehashed), or the
-- message itself (legacy).
abbrev pub signed_bytes : SignatureBoxRecord → List ℕ → List ℕ
signed_bytes x message = if is_prehashed x.signature then blake2b_digest 64 message else message

-- The comment signature has at least 64 bytes, and the scheme accepts the first 64 for the signature
-- followed by the trusted comment. A bare signature has no comment signature and passes.
abbrev pub accepts_comments : Verifier → PublicKeyRecord → SignatureBoxRecord → Bool
accepts_comments accepts pk x = option_map_or (λ c. nat_le 64 (length c.signature)
    && accepts (x.signature.signature ++ c.trusted) pk.key (take 64 c.signature)) x.comments true

-- The signature box is valid for the message under the public key. `legacy` is true if legacy signatures,
-- which sign the message itself, are allowed.
pub record Vouches (accepts : Verifier) (pk : PublicKeyRecord) (x : SignatureBoxRecord) (message : List ℕ)
    (legacy : Bool) : Type 0 where
  pub same_key : x.signature.keynum ≡ pk.keynum
  pub allowed : (x.signature.algorithm ≡ prehashed_algorithm) ⊎ IsTrue legacy
  pub signed : IsTrue (accepts (signed_bytes x message) pk.key x.signature.signature)
  pub comment_signed : IsTrue (accepts_comments accepts pk x)

-- The checks that need no signature scheme, in this order: the signature has this key ID, and it is
-- prehashed or legacy signatures are allowed.
abbrev pub judge_key : List ℕ → SignatureRecord → Bool → Result ⊤ Fault
judge_key key_id s legacy =
    require (bytes_eq s.keynum key_id) (named.DifferentKeyIds s.keynum key_id)
    (require (is_prehashed s || legacy) named.LegacyNotAccepted
    (Ok tt))

-- The checks of the scheme's two results, in this order: for the signature, and for the comment
-- signature.
abbrev pub judge_answers : Bool → Bool → Result ⊤ Fault
judge_answers signature comments =
    require signature named.SignatureRefused
    (require comments named.CommentSignatureRefused
    (Ok tt))

-- All checks of a signature box, in order: success if the box is valid for the message under the
-- public key, and otherwise the error of the first check that fails.
abbrev pub judge : Verifier → PublicKeyRecord → SignatureBoxRecord → List ℕ → Bool → Result ⊤ Fault
judge accepts pk x message legacy =
    and_then (judge_key pk.keynum x.signature legacy) (λ _.
    judge_answers (accepts (signed_bytes x message) pk.key x.signature.signature)
    (accepts_comments accepts pk x))

-- The box is valid for the message under every public key with these 32 key bytes and this key ID.
abbrev pub VouchesUnderEachKey : Verifier → List ℕ → List ℕ → List ℕ → SignatureBoxRecord → Type 0
VouchesUnderEachKey accepts key keynum message x =
    (pk : PublicKeyRecord) (legacy : Bool) → pk.key ≡ key → pk.keynum ≡ keynum
    → judge accepts pk x message legacy ≡ Ok tt

-- The parts of a public key and a box that a verdict depends on. The key's algorithm, the untrusted
-- comment, and the bytes of the comment signature after the 64th are not among them.
abbrev pub judged_parts : PublicKeyRecord → SignatureBoxRecord
    → List ℕ × List ℕ × SignatureRecord × Option (List ℕ × List ℕ)
judged_parts pk x =
    (pk.keynum, pk.key, x.signature, option_map (λ c. (c.trusted, take 64 c.signature)) x.comments)

unfoldable pub verified_text : List ℕ
verified_text = codes "Signature and comment signature verified"

unfoldable pub trusted_comment_text : List ℕ
trusted_comment_text = codes "Trusted comment: "

-- The status lines for a valid box.
abbrev pub status_lines : SignatureBoxRecord → List ℕ
status_lines x = line verified_text
    ++ option_map_or (λ c. line (trusted_comment_text ++ c.trusted)) x.comments []
