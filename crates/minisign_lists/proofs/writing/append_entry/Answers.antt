-- Proves the goal of `append_entry` that the prover leaves open.
use Rattle.std.specs.Prelude.{Option, Some, None, nat_le}
use Rattle.std.proofs.Common.{◌≡◌, ◌∙◌, ◌-◌, ℕ, Bool, true, false, ap, cond, length}
use Rattle.minisign_lists.specs.Writing.{written_line}
use Rattle.minisign_lists.proofs.WrittenLine.{line_length}
use Rattle.minisign_lists.proofs.writing.append_entry.Goals as goal

abbrev value : Option ℕ → ℕ
value (Some n) = n
value None = 0

size_of : (b : Bool) (n size : ℕ) → Some size ≡ cond b (Some n) None → size ≡ n
size_of true n size h = ap value h
size_of false n size h = absurd (cc h)

pub write_line-requires : goal.write_line-requires
write_line-requires c =
    let name = c.without_dot-name.result.now in
    let line = written_line c.args.digest name in
    let size = size_of (nat_le (length line) (length c.args.text.now - c.args.len))
    (length line) c.in-Some.size c.in-Some.ensures in
    c.split_at_mut-line.ensures.front_len ∙ size ∙ line_length c.args.digest name
