-- Proves that the functions in Decisions.antt decide the properties of comments and records in
-- CommentChecks.antt and RecordTexts.antt.
use Rattle.std.specs.Prelude.{◌≡◌, ◌≢◌, ◌⊎◌, ◌<◌, ◌≤◌, ◌^◌, ℕ, Bool, true, false, List, [], ◌∷◌, length}
use Rattle.std.specs.Prelude.{Option, Some, None, nat_lt, ◌&&◌, ◌-◌, not, is_some, bytes_eq, if◌then◌else◌}
use Rattle.std.specs.Option.{unwrap_or}
use Rattle.std.proofs.lemmas.Slice.Eq.{bytes_eq-Decides}
use Rattle.std.proofs.Common.{refl, inl, inr, sym, ap, ◌∙◌, arith, lt-ltb, ltb-true, ltb-false, true≢false}
use Rattle.std.proofs.lemmas.Option.{none-some, same_Some}
use Rattle.std.specs.Char.{digit_value}
use Rattle.std.specs.Str.Parse.{AllDigits, digits_value}
use Rattle.minisign_install.specs.CommentChecks.{CommentSays, IsCommentRefused}
use Rattle.minisign_install.specs.Comments.{HasNumber, HasSize, IsBadlySized, IsExpiryRefused}
use Rattle.minisign_install.specs.Comments.{IsNumberText, IsUnexpired, Numbering, expiries}
use Rattle.minisign_install.specs.Comments.{expiry_label, file_label, number_label, size_label, value_of}
use Rattle.minisign_install.specs.Comments.{values_of}
use Rattle.minisign_install.specs.Decisions.{Options, are_digits, comment_fault, expiry_fault, first_fault}
use Rattle.minisign_install.specs.Decisions.{is_below, is_named, is_number, is_too_old, number_in}
use Rattle.minisign_install.specs.Decisions.{number_of, size_fault, unless, version_in}
use Rattle.minisign_install.specs.Faults.{BadExpiry, BadSize, Expired, InstallFault, NoExpiry, NoNumber}
use Rattle.minisign_install.specs.Faults.{OlderUpdate, OtherFile}

bytes_eq-same : (a b : List ℕ) → bytes_eq a b ≡ true → a ≡ b
bytes_eq-same a b is = (bytes_eq-Decides a b).0 is

false_if_not : (b : Bool) → not b ≡ true → b ≡ false
false_if_not true is = absurd (true≢false (sym is))
false_if_not false is = refl

-- == Numbers ==

and_parts : (a b : Bool) → (a && b) ≡ true → (a ≡ true) × (b ≡ true)
and_parts true b is = (refl, is)
and_parts false b is = absurd (true≢false (sym is))

digits_are : (text : List ℕ) → are_digits text ≡ true → AllDigits 10 text
digits_are [] is = tt
digits_are (c ∷ text) is =
    let (one, more) = and_parts (nat_lt (digit_value c) 10) (are_digits text) is in
    (ltb-true (digit_value c) 10 one, digits_are text more)

all_digits : (text : List ℕ) → AllDigits 10 text → are_digits text ≡ true
all_digits [] is = refl
all_digits (c ∷ text) (one, more) = rw (lt-ltb (digit_value c) 10 one) (all_digits text more)

is_number_text : (text : List ℕ) → is_number text ≡ true → IsNumberText text (digits_value 10 text)
is_number_text [] is = absurd (true≢false (sym is))
is_number_text (c ∷ text) is =
    let (digits, bound) =
    and_parts (are_digits (c ∷ text)) (nat_lt (digits_value 10 (c ∷ text)) (2 ^ 64)) is in
    record {
      numeral = (omega arith, digits_are (c ∷ text) digits);
      value_is = refl;
      bound = ltb-true (digits_value 10 (c ∷ text)) (2 ^ 64) bound;
    }

is_a_number : (text : List ℕ) (n : ℕ) → IsNumberText text n → is_number text ≡ true
is_a_number [] n is = absurd (omega (arith, is.numeral.0))
is_a_number (c ∷ text) n is =
    rw (all_digits (c ∷ text) is.numeral.1) (lt-ltb (digits_value 10 (c ∷ text)) (2 ^ 64) (omega
    (arith, is.value_is, is.bound)))

value_if_chosen : {A : Type 0} (b : Bool) (x y : A) → (if b then Some x else None) ≡ Some y → (b ≡ true)
    × (x ≡ y)
value_if_chosen true x y is = (refl, same_Some x y is)
value_if_chosen false x y is = absurd (none-some y is)

-- `number_in` returns a number exactly if the text is this number; number_reads is the other direction.
pub reads_number : (text : List ℕ) (n : ℕ) → number_in text ≡ Some n → IsNumberText text n
reads_number text n is =
    let (number, same) = value_if_chosen (is_number text) (digits_value 10 text) n is in
    rw (sym same) (is_number_text text number)

pub number_reads : (text : List ℕ) (n : ℕ) → IsNumberText text n → number_in text ≡ Some n
number_reads text n is = rw (is_a_number text n is, is.value_is) refl

value_read : (value : Option (List ℕ)) (n : ℕ) → number_of value ≡ Some n
    → (text : List ℕ) × (value ≡ Some text) × IsNumberText text n
value_read None n is = absurd (none-some n is)
value_read (Some text) n is = (text, refl, reads_number text n is)

-- `version_in` returns a number exactly if the comment has it; version_reads is the other direction.
pub reads_version : (numbering : Numbering) (comment : List ℕ) (n : ℕ)
    → version_in numbering comment ≡ Some n
    → HasNumber comment numbering n
reads_version numbering comment n is =
    let (value, present, number) = value_read (value_of (number_label numbering) comment) n is in
    record { value = value; numbered = present; number = number }

pub version_reads : (numbering : Numbering) (comment : List ℕ) (n : ℕ) → HasNumber comment numbering n
    → version_in numbering comment ≡ Some n
version_reads numbering comment n is = rw is.numbered (number_reads is.value n is.number)

-- == The checks of a comment ==

-- If no check of a list fails, the first one passes, and so do the others.
both_pass : (first : Option InstallFault) (more : List (Option InstallFault))
    → first_fault (first ∷ more) ≡ None
    → (first ≡ None) × (first_fault more ≡ None)
both_pass None more is = (refl, is)
both_pass (Some f) more is = absurd (none-some f (sym is))

-- If a check has no error, its condition holds.
passes_without_fault : (holds : Bool) (fault : InstallFault) → unless holds fault ≡ None → holds ≡ true
passes_without_fault true fault is = refl
passes_without_fault false fault is = absurd (none-some fault (sym is))

names_file : (file : List ℕ) (value : Option (List ℕ)) → is_named file value ≡ true → value ≡ Some file
names_file file None is = absurd (true≢false (sym is))
names_file file (Some name) is = ap (λ (x : List ℕ). Some x) (bytes_eq-same name file is)

some_number : (number : Option ℕ) → is_some number ≡ true → (n : ℕ) × (number ≡ Some n)
some_number None is = absurd (true≢false (sym is))
some_number (Some n) is = (n, refl)

-- The time is before the expiry time.
before_expiry : (time : Option ℕ) (until : ℕ) → is_below time (Some until) ≡ true
    → unwrap_or time (2 ^ 64 - 1) < until
before_expiry None until is = absurd (true≢false (sym is))
before_expiry (Some now) until is = ltb-true now until is

-- If the fields `expires:` are not rejected, the update has not expired.
unexpired : (must : Bool) (time : Option ℕ) (comment : List ℕ) (fields : List (List ℕ)) (until : Option ℕ)
    → expiries must comment ≡ fields → number_of (value_of expiry_label comment) ≡ until
    → expiry_fault must time fields until ≡ None → IsUnexpired must (unwrap_or time (2 ^ 64 - 1)) comment
unexpired true time comment [] until are is none = absurd (none-some NoExpiry (sym none))
unexpired false time comment [] until are is none = inl (refl, are)
unexpired must time comment (field ∷ []) None are is none = absurd (none-some BadExpiry (sym none))
unexpired must time comment (field ∷ []) (Some until) are is none =
    let (value, present, number) = value_read (value_of expiry_label comment) until is in
    inr (
      until,
      record { value = value; single_value = ap length are; labelled = present; number = number },
      before_expiry time until (passes_without_fault _ _ none),
    )
unexpired must time comment (field ∷ other ∷ more) until are is none = absurd (none-some BadExpiry
    (sym none))

-- If the fields `size:` are not rejected, there is none, or exactly one with a number.
sized : (comment : List ℕ) (fields : List (List ℕ)) → values_of size_label comment ≡ fields
    → size_fault fields ≡ None → (size : Option ℕ) × HasSize comment size
sized comment [] are none = (None, are)
sized comment (field ∷ []) are none =
    let (n, is) = some_number (number_in field) (passes_without_fault _ _ none) in
    (Some n, record { value = field; single_value = are; number = reads_number field n is })
sized comment (field ∷ other ∷ more) are none = absurd (none-some BadSize (sym none))

-- If the four checks that need no record pass, the comment says what CommentSays requires.
says_without_faults : (o : Options) (time : Option ℕ) (comment : List ℕ)
    → unless (is_named o.file (value_of file_label comment)) OtherFile ≡ None
    → unless (is_some (version_in o.numbering comment)) NoNumber ≡ None
    → expiry_fault o.must_expire time (expiries o.must_expire comment)
    (number_of (value_of expiry_label comment)) ≡ None
    → size_fault (values_of size_label comment) ≡ None
    → (n : ℕ) × (version_in o.numbering comment ≡ Some n) × CommentSays o time comment n
says_without_faults o time comment file number expiry size =
    let (n, is) = some_number (version_in o.numbering comment) (passes_without_fault _ _ number) in
    let has = reads_version o.numbering comment n is in (
      n,
      is,
      record {
        value = has.value;
        named = names_file o.file _ (passes_without_fault _ _ file);
        numbered = has.numbered;
        number = has.number;
        unexpired = unexpired o.must_expire time comment _ _ refl refl expiry;
        size = (sized comment _ refl size).0;
        sized = (sized comment _ refl size).1;
      },
    )

-- A comment that is not rejected names the file, has a version number and has not expired (CommentSays), and
-- the version is not too old.
pub comment_says : (o : Options) (recorded time : Option ℕ) (comment : List ℕ)
    → comment_fault o recorded time comment ≡ None
    → (n : ℕ) × (version_in o.numbering comment ≡ Some n) × CommentSays o time comment n
    × (is_too_old o recorded (Some n) ≡ false)
comment_says o recorded time comment none =
    let (file, rest) = both_pass _ _ none in
    let (number, rest) = both_pass _ _ rest in
    let (expiry, rest) = both_pass _ _ rest in
    let (size, rest) = both_pass _ _ rest in
    let young : unless (not (is_too_old o recorded (version_in o.numbering comment))) OlderUpdate ≡ None =
    (both_pass _ _ rest).0 in
    let (n, is, says) = says_without_faults o time comment file number expiry size in
    (n, is, says, false_if_not _ (passes_without_fault _ _ (rw is at young)))

-- If a check of a list fails, it is the first one, or the first one passes and a later one fails.
first_or_later_fails : (first : Option InstallFault) (more : List (Option InstallFault)) (e : InstallFault)
    → first_fault (first ∷ more) ≡ Some e → (first ≡ Some e) ⊎ ((first ≡ None) × (first_fault more ≡ Some e))
first_or_later_fails None more e is = inr (refl, is)
first_or_later_fails (Some f) more e is = inl is

-- If a check has an error, its condition does not hold.
fails_with_fault : (holds : Bool) (fault e : InstallFault) → unless holds fault ≡ Some e → (holds ≡ false)
    × (e ≡ fault)
fails_with_fault true fault e is = absurd (none-some e is)
fails_with_fault false fault e is = (refl, sym (same_Some fault e is))

not_named : (file : List ℕ) (value : Option (List ℕ)) → is_named file value ≡ false → value ≢ Some file
not_named file None is some = absurd (none-some file some)
not_named file (Some name) is some =
    true≢false (sym ((bytes_eq-Decides name file).1 (same_Some name file some)) ∙ is)

no_number : (numbering : Numbering) (comment : List ℕ) → is_some (version_in numbering comment) ≡ false
    → (n : ℕ) → ¬ (HasNumber comment numbering n)
no_number numbering comment none n has =
    true≢false (sym (ap is_some (version_reads numbering comment n has)) ∙ none)

-- The time is not before the expiry time.
is_expired : (time : Option ℕ) (until : ℕ) → until < 2 ^ 64 → is_below time (Some until) ≡ false
    → until ≤ unwrap_or time (2 ^ 64 - 1)
is_expired None until bound is = omega (arith, bound)
is_expired (Some now) until bound is = ltb-false now until is

expiry_refused : (must : Bool) (time : Option ℕ) (comment : List ℕ) (fields : List (List ℕ))
    (until : Option ℕ)
    (e : InstallFault) → expiries must comment ≡ fields → number_of (value_of expiry_label comment) ≡ until
    → expiry_fault must time fields until ≡ Some e
    → IsExpiryRefused must (unwrap_or time (2 ^ 64 - 1)) comment e
expiry_refused true time comment [] until e are is some =
    inr (inl (sym (same_Some NoExpiry e some), refl, are))
expiry_refused false time comment [] until e are is some = absurd (none-some e some)
expiry_refused must time comment (field ∷ []) None e are is some =
    inr (inr (
      sym (same_Some BadExpiry e some),
      λ none. cc (sym none ∙ are),
      λ u expires.
          absurd (none-some u (sym is ∙ rw expires.labelled (number_reads expires.value u expires.number))),
    ))
expiry_refused must time comment (field ∷ []) (Some until) e are is some =
    let (value, present, number) = value_read (value_of expiry_label comment) until is in
    let (late, fault) = fails_with_fault (is_below time (Some until)) Expired e some in
    inl (
      fault,
      (
        until,
        record { value = value; single_value = ap length are; labelled = present; number = number },
        is_expired time until number.bound late,
      ),
    )
expiry_refused must time comment (field ∷ other ∷ more) until e are is some =
    inr (inr (
      sym (same_Some BadExpiry e some),
      λ none. cc (sym none ∙ are),
      λ u expires.
          absurd (omega (arith, sym (ap length are) ∙ expires.single_value)),
    ))

badly_sized : (comment : List ℕ) (fields : List (List ℕ)) (e : InstallFault)
    → values_of size_label comment ≡ fields → size_fault fields ≡ Some e
    → (e ≡ BadSize) × IsBadlySized comment
badly_sized comment [] e are some = absurd (none-some e some)
badly_sized comment (field ∷ []) e are some =
    let (none, fault) = fails_with_fault (is_some (number_in field)) BadSize e some in (
      fault,
      (
        λ no. cc (sym no ∙ are),
        λ size sized.
            let same : field ∷ [] ≡ sized.value ∷ [] = sym are ∙ sized.single_value in
            let is : field ≡ sized.value = cc same in
            true≢false (sym (ap is_some (ap number_in is ∙ number_reads sized.value size sized.number))
            ∙ none),
      ),
    )
badly_sized comment (field ∷ other ∷ more) e are some = (
  sym (same_Some BadSize e some),
  (
    λ no. cc (sym no ∙ are),
    λ size sized.
        let same : field ∷ other ∷ more ≡ sized.value ∷ [] = sym are ∙ sized.single_value in
        absurd (omega (arith, ap length same)),
  ),
)

-- The version is below the recorded one.
is_older : (o : Options) (recorded : Option ℕ) (n : ℕ) → is_too_old o recorded (Some n) ≡ true
    → (k : ℕ) × (recorded ≡ Some k) × (n < k)
is_older o None n is = absurd (true≢false (sym is))
is_older o (Some k) n is = (k, refl, ltb-true n k (and_parts (nat_lt n k) (not o.roll_back) is).0)

true_if_not : (b : Bool) → not b ≡ false → b ≡ true
true_if_not true is = refl
true_if_not false is = absurd (true≢false is)

only_check_fails : (first : Option InstallFault) (e : InstallFault) → first_fault (first ∷ []) ≡ Some e
    → first ≡ Some e
only_check_fails None e is = absurd (none-some e is)
only_check_fails (Some f) e is = is

-- If a comment is rejected, it fails the check that belongs to the error, and has passed all checks before
-- it.
pub comment_refused : (o : Options) (recorded time : Option ℕ) (comment : List ℕ) (e : InstallFault)
    → comment_fault o recorded time comment ≡ Some e
    → IsCommentRefused o recorded time comment e
comment_refused o recorded time comment e some = elim (first_or_later_fails _ _ e some) [
  | inl file ↦
      let (not, fault) = fails_with_fault _ _ e file in inl (fault, not_named o.file _ not)
  | inr (file, rest) ↦ elim (first_or_later_fails _ _ e rest) [
    | inl number ↦
        let (not, fault) = fails_with_fault _ _ e number in
        inr (inl (
          fault,
          names_file o.file _ (passes_without_fault _ _ file),
          no_number o.numbering comment
              not,
        ))
    | inr (number, rest) ↦
        let (n, is) = some_number (version_in o.numbering comment) (passes_without_fault _ _ number) in
        let has : (m : ℕ) × HasNumber comment o.numbering m = (n, reads_version o.numbering comment n is) in
        let is_named = names_file o.file _ (passes_without_fault _ _ file) in
        elim (first_or_later_fails _ _ e rest) [
          | inl expiry ↦
              inr (inr (inl (
                is_named,
                has,
                expiry_refused o.must_expire time comment _ _ e refl refl
                    expiry,
              )))
          | inr (expiry, rest) ↦
              let fresh = unexpired o.must_expire time comment _ _ refl refl expiry in
              elim (first_or_later_fails _ _ e rest) [
                | inl size ↦
                    let (fault, badly) = badly_sized comment _ e refl size in
                    inr (inr (inr (inl (fault, is_named, has, fresh, badly))))
                | inr (size, rest) ↦
                    let old : unless (not (is_too_old o recorded
                    (version_in o.numbering comment))) OlderUpdate
                    ≡ Some e = only_check_fails _ e rest in
                    let (not, fault) = fails_with_fault _ _ e old in
                    let says = says_without_faults o time comment file number expiry size in
                    let (k, present, below) = is_older o recorded says.0 (true_if_not _ (rw says.1 at not)) in
                    inr (inr (inr (inr (fault, (says.0, k, says.2, present, below)))))
              ]
        ]
  ]
]
