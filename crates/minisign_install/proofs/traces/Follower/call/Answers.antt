-- Proves the goals of `Follower::call` that the prover leaves open.
use Rattle.std.proofs.Common.{◌∙◌, ap, rules, sym}
use Rattle.std.proofs.Common.{if◌then◌else◌, [], List, ℕ}
use Rattle.minisign_install.specs.Step.{step}
use Rattle.minisign_install.specs.Traces.{event_of, installs, world_of}
use Rattle.minisign_install.proofs.FullTraces.{can_grow, read_from}
use Rattle.minisign_install.proofs.Tracing.{read_is}
use Rattle.minisign_install.proofs.traces.Follower.call.Goals as goal

pub returns-clause-sound : goal.returns-clause-sound
returns-clause-sound c = λ done s m knows follows.
    let w = world_of c.args.inputs.now in
    let e = event_of c.args.report.now in
    let opened = c.open_target.ensures.follows w c.args.message.now s m follows in
    let performs = c.has_performed.ensures.sound (search rules) c.args.file.now s m knows opened in
    let taken = c.reports.ensures.sound (search rules) w s m _ knows opened performs in
    let t = (step s e).1 in (
      (taken.fits, performs),
      record {
        stored = rw c.keep_read.ensures.unchanged.0 taken.stored;
        read = c.keep_read.ensures.read t taken.stored
            ∙ ap (λ (l : List ℕ). if installs t.due then [] else l)
            (c.in-Some-now_read.ensures.sound c.args.message.now s m opened) ∙ sym (read_is s e taken.fits);
        seen = rw c.keep_read.ensures.unchanged.1 (c.in-Some.ensures.sound c.args.message.now s m opened);
        asked = rw c.keep_read.ensures.unchanged.2 taken.asked;
        whole = rw c.keep_read.ensures.unchanged.2 taken.whole;
      },
      rw (c.keep_read.ensures.unchanged.3, c.reports.ensures.unchanged.2)
          (c.open_target.ensures.source w c.args.message.now s m follows),
    )

pub returns-then-not-has_performed-clause-complete : goal.returns-then-not-has_performed-clause-complete
returns-then-not-has_performed-clause-complete c = λ s m knows follows room next noted.
    let w = world_of c.args.inputs.now in
    let source = c.open_target.ensures.source w c.args.message.now s m follows in
    c.if-not-has_performed.ensures.complete c.args.file.now s m knows
    (c.open_target.ensures.follows w c.args.message.now s m follows) next.1 (rw source noted)

pub returns-in_default-clause-complete : goal.returns-in_default-clause-complete
returns-in_default-clause-complete c = λ s m knows follows room next noted.
    let w = world_of c.args.inputs.now in
    let opened = c.open_target.ensures.follows w c.args.message.now s m follows in
    c.in_default.ensures.complete s opened.stored
    (can_grow c.args.inputs.now s c.open_target.new.self.files m _ c.args.report.now c.args.effect.now _
    opened.seen next.1 noted)

pub returns-in_default-now_read-clause-complete : goal.returns-in_default-now_read-clause-complete
returns-in_default-now_read-clause-complete c = λ s m knows follows room next noted.
    let w = world_of c.args.inputs.now in
    let source = c.open_target.ensures.source w c.args.message.now s m follows in
    c.in_default-now_read.ensures.complete c.args.message.now s m _
    (c.open_target.ensures.follows w c.args.message.now s m follows) next.1
    (rw source (read_from c.args.inputs.now s m _ c.args.report.now c.args.effect.now noted))

pub returns-then-not-reports-clause-complete : goal.returns-then-not-reports-clause-complete
returns-then-not-reports-clause-complete c = λ s m knows follows room next noted.
    let w = world_of c.args.inputs.now in
    c.if-not-reports.ensures.complete w s m _ knows
    (c.open_target.ensures.follows w c.args.message.now s m follows) next.1 next.0 room
