-- The fields of a trusted comment that describe an update.
use Rattle.std.specs.Prelude.{◌≡◌, ◌⊎◌, ℕ, ◌^◌, ◌<◌, ◌≤◌, Bool, true, false, not, List, [], ◌∷◌, ◌==◌, map}
use Rattle.std.specs.Prelude.{filter, length, Option, Some, None, if◌then◌else◌, codes, filter_map, slice_get}
use Rattle.std.specs.List.{slice_split}
use Rattle.std.specs.Char.{is_ascii_whitespace, to_ascii_lowercase}
use Rattle.std.specs.Str.Parse.{IsNumeral, digits_value}
pub use Rattle.minisign_install.specs.declared.comments.Numbering.{Numbering}
pub use Rattle.minisign_install.specs.declared.comments.Numbering.TheVariants.{Timestamp, Version}
use Rattle.minisign_install.specs.Faults.{InstallFault, BadExpiry, Expired, NoExpiry}

-- The fields of a comment, which are separated by tabs.
abbrev pub fields : List ℕ → List (List ℕ)
fields comment = slice_split (λ b. b == 9) comment

-- The text after the label, if the text begins with the label.
abbrev pub strip : List ℕ → List ℕ → Option (List ℕ)
strip [] text = Some text
strip (b ∷ label) [] = None
strip (b ∷ label) (c ∷ text) = if c == b then strip label text else None

-- The values of all fields with this label.
abbrev pub values_of : List ℕ → List ℕ → List (List ℕ)
values_of label comment = filter_map (strip label) (fields comment)

-- The value of the first field with this label.
abbrev pub value_of : List ℕ → List ℕ → Option (List ℕ)
value_of label comment = slice_get (values_of label comment) 0

-- The text is this number in decimal digits, without a sign and below 2^64.
pub record IsNumberText (text : List ℕ) (n : ℕ) : Type 0 where
  pub numeral : IsNumeral 10 text
  pub value_is : digits_value 10 text ≡ n
  pub bound : n < 2 ^ 64

-- The label of the field with the name of the file.
abbrev pub file_label : List ℕ
file_label = codes "file:"

-- The label of the field with the version number.
abbrev pub number_label : Numbering → List ℕ
number_label Timestamp = codes "timestamp:"
number_label Version = codes "version:"

-- The comment has this version number.
pub record HasNumber (comment : List ℕ) (numbering : Numbering) (n : ℕ) : Type 0 where
  pub value : List ℕ
  pub numbered : value_of (number_label numbering) comment ≡ Some value
  pub number : IsNumberText value n

-- The label of the field with the time at which the update expires, in seconds since the beginning of 1970.
abbrev pub expiry_label : List ℕ
expiry_label = codes "expires:"

-- The text without ASCII white space, in lower case.
abbrev pub folded : List ℕ → List ℕ
folded text = map to_ascii_lowercase (filter (λ b. not (is_ascii_whitespace b)) text)

-- The value of a field that says when the update expires. If the comment must have such a field, this
-- includes a field that differs from `expires:` only in white space or case; ExpiresAt does not accept its
-- spelling.
abbrev pub expiry_in : Bool → List ℕ → Option (List ℕ)
expiry_in must field = strip expiry_label (if must then folded field else field)

-- The values of all fields of the comment that say when the update expires.
abbrev pub expiries : Bool → List ℕ → List (List ℕ)
expiries must comment = filter_map (expiry_in must) (fields comment)

-- The comment has exactly one field that says when the update expires, its label is spelled exactly
-- `expires:`, and its value is this time.
pub record ExpiresAt (must : Bool) (comment : List ℕ) (until : ℕ) : Type 0 where
  pub value : List ℕ
  pub single_value : length (expiries must comment) ≡ 1
  pub labelled : value_of expiry_label comment ≡ Some value
  pub number : IsNumberText value until

-- The update has not expired at this time. If `must` is false, the comment may also have no field that says
-- when the update expires.
abbrev pub IsUnexpired : Bool → ℕ → List ℕ → Type 0
IsUnexpired must time comment =
    ((must ≡ false) × (expiries must comment ≡ []))
    ⊎ ((until : ℕ) × ExpiresAt must comment until × (time < until))

-- The comment is rejected at this time because of the fields that say when the update expires. `e` is the
-- reason: the update has expired (Expired); or such a field is required and missing (NoExpiry); or there are
-- several of them, or a single one that is not spelled exactly `expires:` or whose value is not a number
-- (BadExpiry).
abbrev pub IsExpiryRefused : Bool → ℕ → List ℕ → InstallFault → Type 0
IsExpiryRefused must time comment e =
    ((e ≡ Expired) × ((until : ℕ) × ExpiresAt must comment until × (until ≤ time)))
    ⊎ ((e ≡ NoExpiry) × (must ≡ true) × (expiries must comment ≡ []))
    ⊎ ((e ≡ BadExpiry) × ¬ (expiries must comment ≡ []) × ((until : ℕ) → ¬ (ExpiresAt must comment until)))

-- The label of the field with the length of the data in bytes.
abbrev pub size_label : List ℕ
size_label = codes "size:"

-- The comment has exactly one field `size:`, and its value is this length.
pub record SizedAs (comment : List ℕ) (size : ℕ) : Type 0 where
  pub value : List ℕ
  pub single_value : values_of size_label comment ≡ value ∷ []
  pub number : IsNumberText value size

-- The comment has exactly one field `size:`, with this length, or no such field if the length is None.
abbrev pub HasSize : List ℕ → Option ℕ → Type 0
HasSize comment (Some size) = SizedAs comment size
HasSize comment None = values_of size_label comment ≡ []

-- The comment has several fields `size:`, or one whose value is not a number.
abbrev pub IsBadlySized : List ℕ → Type 0
IsBadlySized comment = ¬ (values_of size_label comment ≡ []) × ((size : ℕ) → ¬ (SizedAs comment size))
