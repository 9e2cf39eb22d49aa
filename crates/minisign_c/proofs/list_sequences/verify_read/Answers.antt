-- Proves the goals of `verify_read` that the prover leaves open.
use Rattle.std.proofs.Common.{◌≡◌, ◌∙◌, ◌<◌, ap, arith, length, Some}
use Rattle.minisign_lists.specs.declared.values.ListValue.{ListValue}
use Rattle.minisign_c.proofs.ListVerdicts.{list_answered, strict_list_number, failed_ask_number}
use Rattle.minisign_c.proofs.ListVerdicts.{verified_text_of}
use Rattle.minisign_c.proofs.list_sequences.verify_read.Goals as goal

pub returns-then-number-ne0-clause-number : goal.returns-then-number-ne0-clause-number
returns-then-number-ne0-clause-number g c =
    let (t, from) = c.requires.read in
    let some : 0 < c.minisign_list_ask-number.result = omega arith in
    failed_ask_number
    (g.S.Scheme.accepts c.args.scheme.now) c.args.key.now c.args.sig_text.now c.args.list.now
    (Some c.args.list_name.now) (length c.args.room.now) t from.read (omega
    (arith, from.room, c.requires.room))
    _ c.requires.key (c.minisign_list_ask-number.ensures.text t from) some

pub returns-clause-number : goal.returns-clause-number
returns-clause-number g c =
    let (t, from) = c.requires.read in
    let accepts = g.S.Scheme.accepts c.args.scheme.now in
    let name = Some c.args.list_name.now in
    let none : c.minisign_list_ask-number.result ≡ 0 = omega arith in
    let (read, (are, digest), is) = c.minisign_list_ask-number.ensures.asked none t from in
    let answers = list_answered accepts c.args.key.now c.args.sig_text.now c.args.list.now _ t _ read are
    digest
    _ _ (c.answer_of-first_answer.ensures.yes_if_accepted ∙ c.verify-first.ensures)
    (c.answer_of-second_answer.ensures.yes_if_accepted ∙ c.verify-second.ensures) in
    c.minisign_list_verdict.ensures.verdict c.args.key.now c.args.sig_text.now c.args.list.now name accepts
    (record {
      asked = record {
        signature = c.args.signature.now;
        signed = t;
        parsed = from;
        read = read;
        list_value = is;
      };
      first_known = c.answer_of-first_answer.ensures.is_answer;
      second_known = c.answer_of-second_answer.ensures.is_answer;
      answers = answers;
    })
    ∙ strict_list_number accepts c.args.key.now c.args.sig_text.now c.args.list.now name t read
    (c.minisign_list_ask-number.ensures.strict none t from)

pub returns-clause-verified : goal.returns-clause-verified
returns-clause-verified g c = λ zero.
    let (t, from) = c.requires.read in
    let none : c.minisign_list_ask-number.result ≡ 0 = omega arith in
    let (read, (are, digest), is) = c.minisign_list_ask-number.ensures.asked none t from in
    verified_text_of c.minisign_list_ask-number.new.list c.minisign_list_verdict.new.list
    c.answer_of-first_answer.result c.answer_of-second_answer.result c.minisign_list_verdict.result
    c.args.list.now c.minisign_list_verdict.ensures.number zero
    (ap (λ (x : ListValue). x.text_digest) is)
