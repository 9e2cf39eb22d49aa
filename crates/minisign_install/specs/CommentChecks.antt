-- Conditions on the fields of a trusted comment under which the comment is accepted, or rejected with an
-- error. The law `any_comment_is_judged` says that the results of `comment_fault` satisfy these conditions.
use Rattle.std.specs.Prelude.{◌≡◌, ◌≢◌, ◌⊎◌, ◌<◌, ◌-◌, ◌^◌, ℕ, List, Option, Some}
use Rattle.std.specs.Option.{unwrap_or}
use Rattle.minisign_install.specs.Comments.{HasNumber, HasSize, IsBadlySized, IsExpiryRefused, IsNumberText}
use Rattle.minisign_install.specs.Comments.{IsUnexpired, file_label, number_label, value_of}
use Rattle.minisign_install.specs.Decisions.{Options}
use Rattle.minisign_install.specs.Faults.{BadSize, InstallFault, NoNumber, OlderUpdate, OtherFile}

-- The time at which the comment is checked. A time before 1970 (None) is replaced by the latest time, so that
-- every update that has an expiry time has expired.
abbrev pub time_that_applies : Option ℕ → ℕ
time_that_applies time = unwrap_or time (2 ^ 64 - 1)

-- The comment names the file, has this version number, has not expired at this time, and has no field `size:`
-- or exactly one, whose value is a number.
pub record CommentSays (o : Options) (time : Option ℕ) (comment : List ℕ) (n : ℕ) : Type 0 where
  pub value : List ℕ
  pub named : value_of file_label comment ≡ Some o.file
  pub numbered : value_of (number_label o.numbering) comment ≡ Some value
  pub number : IsNumberText value n
  pub unexpired : IsUnexpired o.must_expire (time_that_applies time) comment
  pub size : Option ℕ
  pub sized : HasSize comment size

-- The comment fails the check that belongs to this error, and has passed all checks before it. The checks
-- are, in this order: it names the file; it has a version number; it has not expired, has an expiry time if
-- one is required, and no malformed or repeated one; it has no malformed or repeated field `size:`; and its
-- version is not below the recorded one.
abbrev pub IsCommentRefused : Options → Option ℕ → Option ℕ → List ℕ → InstallFault → Type 0
IsCommentRefused o recorded time comment e =
    ((e ≡ OtherFile) × (value_of file_label comment ≢ Some o.file))
    ⊎ ((e ≡ NoNumber) × (value_of file_label comment ≡ Some o.file)
    × ((n : ℕ) → ¬ (HasNumber comment o.numbering n)))
    ⊎ ((value_of file_label comment ≡ Some o.file) × ((n : ℕ) × HasNumber comment o.numbering n)
    × IsExpiryRefused o.must_expire (time_that_applies time) comment e)
    ⊎ ((e ≡ BadSize) × (value_of file_label comment ≡ Some o.file)
    × ((n : ℕ) × HasNumber comment o.numbering n)
    × IsUnexpired o.must_expire (time_that_applies time) comment × IsBadlySized comment)
    ⊎ ((e ≡ OlderUpdate) × ((n : ℕ) × (k : ℕ) × CommentSays o time comment n × (recorded ≡ Some k) × (n < k)))
