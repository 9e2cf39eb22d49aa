-- Proves the goals of `make_text` that the prover leaves open.
use Rattle.std.proofs.Common.{inr}
use Rattle.std.proofs.lemmas.Result.{IfOk-weaker, MatchResult-weaker}
use Rattle.minisign.specs.Reading.{ReadsWhole}
use Rattle.minisign_tool.proofs.sign.make_text.Goals as goal

pub returns-clause-headline : goal.returns-clause-headline
returns-clause-headline g c =
    let read : ReadsWhole g.K.Source c.args.devices.now.sk_file c.read_text.new.source c.deref.result.now = rw
    c.deref.ensures c.in_ok-sk_text.ensures.text in
    IfOk-weaker c.sign_texts.result _ _
    (λ t h. record {
      sk_text = c.deref.result.now;
      message = h.1;
      key = h.0;
      sk_text_known = read.known_bytes;
      message_known = h.2;
      key_of_text = h.3;
      vouched = λ seed genuine. h.4 seed genuine c.default_comments_are_read_back.ensures.one_line;
    })
    c.sign_texts.ensures.headline

pub returns-clause-signed : goal.returns-clause-signed
returns-clause-signed g c =
    IfOk-weaker c.sign_texts.result _ _
    (λ t h. record {
      sk_text = c.deref.result.now;
      read = rw c.deref.ensures c.in_ok-sk_text.ensures.text;
      signs = record {
        key = h.0;
        message = h.2.0;
        key_given = h.1;
        read = h.2.1;
        signed = h.2.2.0;
        vouched = λ seed genuine. h.2.2.1 seed genuine c.default_comments_are_read_back.ensures.one_line;
      };
    })
    c.sign_texts.ensures.signed

pub returns-clause-refused : goal.returns-clause-refused
returns-clause-refused g c =
    let read : ReadsWhole g.K.Source c.args.devices.now.sk_file c.read_text.new.source c.deref.result.now = rw
    c.deref.ensures c.in_ok-sk_text.ensures.text in
    MatchResult-weaker c.sign_texts.result c.sign_texts.ensures.refused (λ t ok. ok) (λ e h. inr (_, read, h))
