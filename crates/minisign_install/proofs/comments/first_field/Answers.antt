-- Proves the goals of `first_field` that the prover leaves open.
use Rattle.std.specs.Prelude.{filter_map}
use Rattle.std.proofs.Common.{◌≡◌, ◌==◌, ◌∙◌, [], List, ℕ, None, false, ap, get_or, lit<, refl, sym}
use Rattle.std.proofs.lemmas.List.Elements.{All-from_get_or}
use Rattle.std.specs.List.{cons_option}
use Rattle.std.proofs.lemmas.Str.Pattern.{find_char}
use Rattle.std.proofs.lemmas.Bool.{ne_eqb}
use Rattle.std.proofs.lemmas.List.Splits.{slice_split_first, slice_split_none}
use Rattle.minisign_install.specs.Comments.{strip, expiry_in}
use Rattle.minisign_install.proofs.Fields.{no_expiry, nothing}
use Rattle.minisign_install.proofs.comments.first_field.Goals as goal

pub returns-in-Some-clause-field : goal.returns-in-Some-clause-field
returns-in-Some-clause-field c = λ label some.
    let (front, back, within) = c.in-Some.ensures.byte (lit< tt) (λ w o h. h) in
    let cut = slice_split_first (λ b. b == 9) c.args.comment.now 0 within in
    ap (filter_map (strip label)) (rw (← front, ← back) at cut)

pub returns-in-None-clause-field : goal.returns-in-None-clause-field
returns-in-None-clause-field c = λ label some.
    let comment : List ℕ = c.args.comment.now in
    let no_tab = find_char 9 comment None c.in-None.ensures.cases (lit< tt) in
    let whole =
    slice_split_none (λ b. b == 9) comment
    (All-from_get_or (λ b. (b == 9) ≡ false) comment 0 (λ i l. ne_eqb (get_or comment i 0) 9 (no_tab i l))) in
    ap (filter_map (strip label)) whole
    ∙ ap (cons_option (strip label comment)) (sym (nothing label [] some refl))

pub returns-in-Some-clause-expiry : goal.returns-in-Some-clause-expiry
returns-in-Some-clause-expiry c = λ must.
    let (front, back, within) = c.in-Some.ensures.byte (lit< tt) (λ w o h. h) in
    let cut = slice_split_first (λ b. b == 9) c.args.comment.now 0 within in
    ap (filter_map (expiry_in must)) (rw (← front, ← back) at cut)

pub returns-in-None-clause-expiry : goal.returns-in-None-clause-expiry
returns-in-None-clause-expiry c = λ must.
    let comment : List ℕ = c.args.comment.now in
    let no_tab = find_char 9 comment None c.in-None.ensures.cases (lit< tt) in
    let whole =
    slice_split_none (λ b. b == 9) comment
    (All-from_get_or (λ b. (b == 9) ≡ false) comment 0 (λ i l. ne_eqb (get_or comment i 0) 9 (no_tab i l))) in
    ap (filter_map (expiry_in must)) whole
    ∙ ap (cons_option (expiry_in must comment)) (sym (no_expiry must [] refl))
