-- Proves the goals of `first_unlawful_line` that the prover leaves open.
use Rattle.std.proofs.Common.{arith, refl, rules, take_all}
use Rattle.minisign_install.specs.Installations.{options_by}
use Rattle.minisign_install.specs.Traces.{world_of}
use Rattle.minisign_install.proofs.FullTraces.{not_at_first, same_room}
use Rattle.minisign_install.proofs.Tracing.{arrives, goes_on_at, unlawful, starts}
use Rattle.minisign_install.proofs.traces.first_unlawful_line.Goals as goal

pub lines-init : goal.lines-init
lines-init c = (
  omega arith,
  λ m present. starts c.args.inputs.now _ m _ c.args.message.now
      (record {
        stored = c.in-Ok.ensures.1 c.args.file.now;
        read = refl;
        seen = present;
        asked = λ some t is. absurd (omega (arith, some));
        whole = λ at. absurd (not_at_first _ at);
      }) refl,
)

pub lines-preserved : goal.lines-preserved
lines-preserved c =
    let (within, reached) = c.lines.invariant in (
      omega (arith, c.lines-test.true),
      λ m present. goes_on_at c.args.inputs.now _ m c.lines.follower c.line.new.self c.lines.message
          c.line.new.message c.args.trace.now c.lines.at c.lines-test.true (reached m present)
          (c.line.ensures.sound (search rules)),
    )

pub returns-then-not-line-clause-before : goal.returns-then-not-line-clause-before
returns-then-not-line-clause-before c = λ m present.
    arrives c.args.inputs.now _ m c.lines.follower c.lines.message _ (c.lines.invariant.1 m present)

pub returns-then-not-line-clause-unlawful : goal.returns-then-not-line-clause-unlawful
returns-then-not-line-clause-unlawful c = λ valid room m present.
    let o = options_by c.args.key.now c.args.other.now c.args.choices.now c.args.file.now in
    unlawful c.args.inputs.now o m c.lines.follower c.lines.message c.args.trace.now c.lines.at
    c.lines-test.true (c.lines.invariant.1 m present)
    (same_room (world_of c.args.inputs.now) c.lines.message c.args.message.now c.lines.auto.message room)
    c.if-not-line.ensures.complete

pub returns-clause-lawful : goal.returns-clause-lawful
returns-clause-lawful c = λ is m present.
    let o = options_by c.args.key.now c.args.other.now c.args.choices.now c.args.file.now in
    let all = take_all c.lines.at c.args.trace.now c.lines-test.false in
    rw all at
    (arrives c.args.inputs.now o m c.lines.follower c.lines.message _ (c.lines.invariant.1 m present))
