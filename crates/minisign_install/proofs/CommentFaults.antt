-- Lemmas for the contracts of the functions that check a trusted comment: each returns the result of the
-- definition with its name.
use Rattle.std.specs.Prelude.{◌≡◌, ℕ, List, [], ◌∷◌, Option, Some, None, Err, MatchOption}
use Rattle.std.specs.Str.{IsUtf8}
use Rattle.std.proofs.Common.{refl, sym, ap, ◌∙◌}
use Rattle.std.proofs.lemmas.Str.{is_utf8-from_IsUtf8}
use Rattle.minisign_install.specs.Comments.{IsNumberText, Numbering}
use Rattle.minisign_install.specs.Decisions.{first_fault, judge_comment_only, judge_comment, number_in}
use Rattle.minisign_install.specs.Faults.{InstallFault, Library, Named, NotUtf8}
use Rattle.minisign_install.proofs.Decisions.{number_reads, reads_number}
use Rattle.minisign_install.proofs.SignatureFiles.{not_utf8}

-- If the text is not a number, `number_in` returns None.
none_read : (text : List ℕ) (o : Option ℕ) → number_in text ≡ o → ((n : ℕ) → ¬ (IsNumberText text n))
    → None ≡ o
none_read text None is none = refl
none_read text (Some n) is none = absurd (none n (reads_number text n is))

-- If a result satisfies the contract of reading a number, it is that of `number_in`.
pub number_is : (text : List ℕ) (r : Option ℕ)
    → MatchOption r ((n : ℕ) → ¬ (IsNumberText text n)) (IsNumberText text) → r ≡ number_in text
number_is text None none = none_read text _ refl none
number_is text (Some n) is = sym (number_reads text n is)

-- == The first of several errors ==

-- If the first check fails, its error is the first one.
pub first_fails : (first : Option InstallFault) (more : List (Option InstallFault)) (e : InstallFault)
    → Some e ≡ first → Some e ≡ first_fault (first ∷ more)
first_fails first more e is = ap (λ (o : Option InstallFault). first_fault (o ∷ more)) is

-- If the first check passes, the first error is that of the other checks.
pub first_passes : (first : Option InstallFault) (more : List (Option InstallFault)) (r : Option InstallFault)
    → None ≡ first → r ≡ first_fault more → r ≡ first_fault (first ∷ more)
first_passes first more r none is = is ∙ ap (λ (o : Option InstallFault). first_fault (o ∷ more)) none

-- If there is only one check, the first error is its error, if it has one.
only_check : (o : Option InstallFault) → o ≡ first_fault (o ∷ [])
only_check None = refl
only_check (Some e) = refl

-- A result that is the error of the last check, or None, is the first error of a list with only this check.
pub last_check : (o r : Option InstallFault) → r ≡ o → r ≡ first_fault (o ∷ [])
last_check o r is = only_check r ∙ ap (λ (x : Option InstallFault). first_fault (x ∷ [])) is

-- == Checking only a comment ==

-- If the comment and the file name are UTF-8, `judge_comment` judges them as texts.
pub both_utf8 : (numbering : Numbering) (time least : ℕ) (file comment name text : List ℕ) → text ≡ comment
    → IsUtf8 comment → name ≡ file → IsUtf8 file
    → judge_comment_only name numbering time least text ≡ judge_comment file numbering time least comment
both_utf8 numbering time least file comment name text same utf8 named name_utf8 =
    rw (same, named, is_utf8-from_IsUtf8 comment utf8, is_utf8-from_IsUtf8 file name_utf8) refl

-- If the comment is not UTF-8, the error is NotUtf8.
pub comment_not_utf8 : (numbering : Numbering) (time least : ℕ) (file comment : List ℕ) → ¬ (IsUtf8 comment)
    → Err (Library (Named NotUtf8)) ≡ judge_comment file numbering time least comment
comment_not_utf8 numbering time least file comment is = rw (not_utf8 comment is) refl

-- If the file name is not UTF-8, the error is NotUtf8.
pub file_not_utf8 : (numbering : Numbering) (time least : ℕ) (file comment : List ℕ) → IsUtf8 comment
    → ¬ (IsUtf8 file) → Err (Library (Named NotUtf8)) ≡ judge_comment file numbering time least comment
file_not_utf8 numbering time least file comment utf8 is =
    rw (is_utf8-from_IsUtf8 comment utf8, not_utf8 file is) refl
