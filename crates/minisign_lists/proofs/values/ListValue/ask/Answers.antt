-- Proves the goals of `ListValue::ask` that the prover leaves open.
use Rattle.std.proofs.Common.{◌∙◌, Bool, List, ℕ, Ok, ap, option_map}
use Rattle.minisign_external.specs.declared.state.Questions.{Questions}
use Rattle.minisign_lists.specs.Values.{asked_list}
use Rattle.minisign_lists.proofs.AskedLists.{comment_after, comment_held}
use Rattle.minisign_lists.proofs.values.ListValue.ask.Goals as goal

pub returns-in-Ok-true-clause-asked : goal.returns-in-Ok-true-clause-asked
returns-in-Ok-true-clause-asked c = λ is t from.
    let a = c.args in
    let (read, asked) = c.in-Ok-true.ensures.asked (ap (λ
    (b : Bool). Ok b) c.in-Ok-true.field-0-test) t from in
    let comment = comment_after a.signature.now a.sig_text.now t from _ a.key.now _ asked in (
      read,
      record {
        questions = ap (λ (q : Questions). record q { digest = c.digest_of-digest.result }) asked.0;
        message = asked.1;
      },
      c.digest_of-digest.ensures,
      c.asked_list.ensures a.text.now c.digest_of-digest.ensures
          ∙ ap (λ (trusted : List ℕ). asked_list a.key.now a.signature.now (option_map
          (λ n. n.now) a.list_name)
          a.text.now trusted) comment,
    )

pub returns-in-Ok-true-clause-list : goal.returns-in-Ok-true-clause-list
returns-in-Ok-true-clause-list c = λ is comment read.
    let a = c.args in
    let (len, fits, message) = c.in-Ok-true.ensures.message (ap (λ
    (b : Bool). Ok b) c.in-Ok-true.field-0-test) comment read in
    c.asked_list.ensures a.text.now c.digest_of-digest.ensures
    ∙ ap (λ (trusted : List ℕ). asked_list a.key.now a.signature.now (option_map (λ n. n.now) a.list_name)
    a.text.now trusted) (comment_held a.signature.now comment _ len fits message)
