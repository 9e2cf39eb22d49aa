-- Proves the goals of `first_expiry` that the prover leaves open.
use Rattle.std.proofs.Common.{◌∙◌, ap, rules, sym}
use Rattle.std.specs.List.{cons_option}
use Rattle.minisign_install.specs.Comments.{expiries}
use Rattle.minisign_install.proofs.Fields.{none_of, some_of}
use Rattle.minisign_install.proofs.comments.first_expiry.Goals as goal

pub returns-then-begins : goal.returns-then-begins
returns-then-begins c =
    let (v, reads) = some_of _ (sym c.begins.ensures ∙ c.if-begins.true) in (
      v,
      c.fields.invariant.1 ∙ c.first_field.ensures.expiry c.args.must_expire
          ∙ ap (λ r. cons_option r (expiries c.args.must_expire c.first_field.result.1.now)) reads,
    )

pub fields-preserved : goal.fields-preserved
fields-preserved c =
    let none = none_of _ (sym c.begins.ensures ∙ c.if-begins.false) in (
      search rules,
      c.fields.invariant.1 ∙ c.first_field.ensures.expiry c.args.must_expire
          ∙ ap (λ r. cons_option r (expiries c.args.must_expire c.first_field.result.1.now)) none,
    )
