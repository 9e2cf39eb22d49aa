-- Proves the goals of `line_size` that the prover leaves open.
use Rattle.std.specs.Prelude.{Some}
use Rattle.std.proofs.Common.{◌≡◌, ◌∙◌, ◌+◌, ◌-◌, ◌<◌, ◌≤◌, ap, arith, length, refl, rules, sym}
use Rattle.std.proofs.lemmas.Bool.{le-leb, lt-leb}
use Rattle.minisign_lists.specs.Writing.{written_line}
use Rattle.minisign_lists.proofs.WrittenLine.{line_length}
use Rattle.minisign_lists.proofs.writing.line_size.Goals as goal

pub returns-then-room-extra : goal.returns-then-room-extra
returns-then-room-extra c =
    let name = c.args.name.now in
    let line = written_line c.args.digest name in
    let size : length line ≡ c.extra_size-extra.result + length name =
    line_length c.args.digest name ∙ ap (λ n. n + length name) (sym c.extra_size-extra.ensures.value) in
    elim c.then-room-extra.branch [
      | goal.then-room-extra-via-then-room-extra w ↦
          let short : c.args.room < c.extra_size-extra.result = search rules in
          rw (lt-leb (length line) c.args.room (omega (arith, size, short))) refl
      | goal.then-room-extra-via-else-room-extra+then-room-extra-2 w ↦
          let some : c.extra_size-extra.result ≤ c.args.room = search rules in
          let short : c.args.room - c.extra_size-extra.result < length name = search rules in
          rw (lt-leb (length line) c.args.room (omega (arith, size, some, short))) refl
    ]

pub returns : goal.returns
returns c =
    let name = c.args.name.now in
    let line = written_line c.args.digest name in
    let size : length line ≡ c.extra_size-extra.result + length name =
    line_length c.args.digest name ∙ ap (λ n. n + length name) (sym c.extra_size-extra.ensures.value) in
    let some : c.extra_size-extra.result ≤ c.args.room = search rules in
    let fits : length name ≤ c.args.room - c.extra_size-extra.result = search rules in
    rw (le-leb (length line) c.args.room (omega (arith, size, some, fits))) (ap Some (sym size))
