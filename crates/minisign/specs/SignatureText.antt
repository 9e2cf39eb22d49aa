-- Signature files: the function that parses a text to a signature with its comments or gives the
-- first check that fails, the same grammar as a relation, the text that is written for a box, and
-- the position of the trusted comment in a text.
use Rattle.std.specs.Prelude.{◌≡◌, ◌≢◌, ◌||◌, ◌-◌, ℕ, List, [], ◌∷◌, ◌++◌, length, take, drop, slice_index}
use Rattle.std.specs.Prelude.{nat_eq, nat_le, slice_index_or, bytes_eq, Some, Result, Ok, Err, codes}
use Rattle.std.specs.Prelude.{if◌then◌else◌, Option, None, option_map, ◌≤◌, ◌+◌, ◌==◌}
use Rattle.std.specs.Str.{trim, trim_start}
use Rattle.std.specs.Str.Iter.{LacksByte}
use Rattle.std.specs.Str.Lines.{lines, strip_carriage_return}
use Rattle.minisign_base.specs.Fault.{Fault, Named}
use Rattle.std.specs.List.{starts_with, after_first}
use Rattle.minisign.specs.Texts.{line, Encodes, IsBase64Of, base64_of, base64_bytes, is_base64, map_ok}
use Rattle.minisign.specs.Texts.{require, untrusted_comment_label}
use Rattle.minisign.specs.Records.{CommentsRecord, SignatureRecord, SignatureBoxRecord, ReadsSignature}
use Rattle.minisign.specs.Records.{IsKnownAlgorithm, signature_bytes, legacy_algorithm, prehashed_algorithm}
use Rattle.minisign_base.specs.declared.faults.NamedFault.TheVariants as named

unfoldable pub trusted_comment_label : List ℕ
trusted_comment_label = codes "trusted comment: "

-- == Reading ==

-- A parsed signature text: the signature and its comments.
pub record SignatureTextRecord : Type 0 where
  pub signature : SignatureRecord
  pub comments : CommentsRecord

-- The signature box with this signature and these comments.
abbrev pub box_of : SignatureTextRecord → SignatureBoxRecord
box_of t = record { signature = t.signature; comments = Some t.comments }

-- A signature text has four lines; later lines are ignored. The first and the third line are a
-- label and a comment; the trusted comment is trimmed. The second and the fourth line, trimmed, are
-- base64. The bytes of the second line begin with the 74 bytes of a signature with a known
-- algorithm.
abbrev pub signature_in_lines : List (List ℕ) → Result SignatureTextRecord Fault
signature_in_lines [] = Err (Named named.MissingUntrustedComment)
signature_in_lines (first ∷ []) = Err (Named named.MissingSignature)
signature_in_lines (first ∷ second ∷ []) = Err (Named named.MissingTrustedComment)
signature_in_lines (first ∷ second ∷ third ∷ []) = Err (Named named.MissingGlobalSignature)
signature_in_lines (first ∷ second ∷ third ∷ fourth ∷ later) =
    let bytes = base64_bytes (trim second) in
    let algorithm = take 2 bytes in
    require (starts_with nat_eq first untrusted_comment_label) named.UntrustedCommentPrefix
    (require (is_base64 (trim second)) named.SignatureNotBase64
    (require (nat_le 74 (length bytes)) named.RecordTooShort
    (require (starts_with nat_eq third trusted_comment_label) named.TrustedCommentPrefix
    (require (bytes_eq algorithm legacy_algorithm || bytes_eq algorithm prehashed_algorithm)
    named.UnsupportedSignatureAlgorithm
    (require (is_base64 (trim fourth)) named.SignatureNotBase64
    (Ok (record {
      signature = record {
        algorithm = algorithm;
        keynum = take 8 (drop 2 bytes);
        signature = take 64 (drop 8 (drop 2 bytes));
      };
      comments = record {
        untrusted = drop (length untrusted_comment_label) first;
        trusted = trim (drop (length trusted_comment_label) third);
        signature = base64_bytes (trim fourth);
      };
    })))))))

-- The signature and its comments in a text, or the error of the first check that fails.
unfoldable pub read_signature : List ℕ → Result SignatureTextRecord Fault
read_signature text = signature_in_lines (lines text)

-- The signature box in a text, or the error of the first check that fails.
abbrev pub read_signature_box : List ℕ → Result SignatureBoxRecord Fault
read_signature_box text = map_ok box_of (read_signature text)

-- == The grammar as a relation ==

-- A parsed signature text from its parts: the signature, the untrusted comment, the trusted comment
-- and the comment signature.
abbrev pub with_comments : SignatureRecord → List ℕ → List ℕ → List ℕ → SignatureTextRecord
with_comments s untrusted trusted signature = record {
  signature = s;
  comments = record { untrusted = untrusted; trusted = trusted; signature = signature };
}

-- The grammar of signature files as a relation: a label and the untrusted comment, the base64 of
-- the signature, a label and the trusted comment, and the base64 of the comment signature, each in
-- one line. The base64 and the trusted comment are trimmed.
pub record SignatureText (text : List ℕ) (t : SignatureTextRecord) : Type 0 where
  pub first : List ℕ
  pub second : List ℕ
  pub third : List ℕ
  pub fourth : List ℕ
  pub later : List (List ℕ)
  pub cut : lines text ≡ first ∷ second ∷ third ∷ fourth ∷ later
  pub untrusted_comment : first ≡ untrusted_comment_label ++ t.comments.untrusted
  pub signature : Encodes ReadsSignature (trim second) t.signature
  pub algorithm : IsKnownAlgorithm t.signature.algorithm
  pub trusted_comment : (comment : List ℕ)
      × (third ≡ trusted_comment_label ++ comment) × (trim comment ≡ t.comments.trusted)
  pub comment_signature : IsBase64Of (trim fourth) t.comments.signature

-- == Writing ==

-- The text of a signature with comments: four lines, each ended by a line feed.
abbrev pub signature_text : SignatureRecord → CommentsRecord → List ℕ
signature_text s c = line (untrusted_comment_label ++ c.untrusted) ++ (line (base64_of (signature_bytes s))
    ++ (line (trusted_comment_label ++ c.trusted) ++ line (base64_of c.signature)))

-- Neither comment has a line feed, and the trusted comment is trimmed.
pub record AreOneLine (untrusted trusted : List ℕ) : Type 0 where
  pub untrusted_one_line : LacksByte 10 untrusted
  pub trusted_one_line : LacksByte 10 trusted
  pub trusted_trimmed : trim trusted ≡ trusted

-- The comments, and the box, as they are read back from a text if AreOneLine holds: one carriage
-- return at the end of the untrusted comment is dropped.
abbrev pub comments_read_back : CommentsRecord → CommentsRecord
comments_read_back c = record c { untrusted = strip_carriage_return c.untrusted }

abbrev pub box_read_back : SignatureBoxRecord → SignatureBoxRecord
box_read_back x = record x { comments = option_map comments_read_back x.comments }

-- The comments are read back exactly as they were written: AreOneLine holds, and the untrusted
-- comment does not end in a carriage return.
pub record AreReadBack (untrusted trusted : List ℕ) : Type 0 where
  pub one_line : AreOneLine untrusted trusted
  pub untrusted_end : slice_index untrusted (length untrusted - 1) ≢ 13

-- The first 64 bytes, or none if there are fewer.
abbrev pub first_64 : List ℕ → Option (List ℕ)
first_64 bytes = if nat_le 64 (length bytes) then Some (take 64 bytes) else None

-- A signature text parsed in place: the signature, its comments, and the first 64 bytes of the
-- comment signature, or none if it is shorter.
pub record SignatureViewRecord : Type 0 where
  pub signature : SignatureRecord
  pub untrusted : List ℕ
  pub trusted : List ℕ
  pub comment_signature : Option (List ℕ)

-- The view of a parsed signature text.
abbrev pub view_of : SignatureTextRecord → SignatureViewRecord
view_of t = record {
  signature = t.signature;
  untrusted = t.comments.untrusted;
  trusted = t.comments.trusted;
  comment_signature = first_64 t.comments.signature;
}

-- == The position of the trusted comment ==

-- The text after its first line feed.
abbrev pub after_first_line : List ℕ → List ℕ
after_first_line text = after_first (λ b. b == 10) text

-- The number of bytes before the trusted comment in its line: the label and white space.
abbrev pub comment_start : List ℕ → ℕ
comment_start line = length line - length (trim_start (drop (length trusted_comment_label) line))

-- The number of bytes before the trusted comment in a text: two lines and the beginning of the third.
unfoldable pub comment_offset : List ℕ → ℕ
comment_offset text =
    let third = after_first_line (after_first_line text) in
    length text - length third + comment_start (slice_index_or (lines third) 0 [])

-- The bytes are in the text, at this offset.
pub record IsAtOffset (bytes text : List ℕ) (offset : ℕ) : Type 0 where
  pub within : offset + length bytes ≤ length text
  pub bytes_at_offset : take (length bytes) (drop offset text) ≡ bytes
