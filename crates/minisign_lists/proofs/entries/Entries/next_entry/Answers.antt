-- Proves the goal of `Entries::next_entry` that the prover leaves open.
use Rattle.std.specs.Prelude.{Some, Ok}
use Rattle.std.proofs.Common.{◌≡◌, ◌∙◌, ◌+◌, ◌∷◌, ℕ, List, refl, rules, sym}
use Rattle.minisign_lists.specs.Faults.{map_ok}
use Rattle.minisign_lists.specs.Lines.{Entry, LongDigest, read_line}
use Rattle.minisign_lists.specs.Lists.{read_entries}
use Rattle.minisign_lists.proofs.entries.Entries.next_entry.Goals as goal

-- If the first line has the entry e, the list has e and the entries of the lines after it.
step : (long : LongDigest) (n : ℕ) (line : List ℕ) (all more : List (List ℕ)) (e : Entry) → all ≡ line ∷ more
    → read_line long n line ≡ Ok (Some e)
    → read_entries long n all ≡ map_ok (λ es. e ∷ es) (read_entries long (n + 1) more)
step long n line all more e cut read = rw (cut, read) refl

pub returns-in-Some-2-clause-entry : goal.returns-in-Some-2-clause-entry
returns-in-Some-2-clause-entry c =
    let n = c.lines.self.line + 1 in
    let line = c.in-Some.line.now in
    let entry = c.in-Some-2.entry in
    let read : read_line c.lines.self.long n line ≡ Ok (Some entry) = search rules in
    sym c.lines.invariant.0 ∙ step c.lines.self.long n line _ _ entry c.in-Some.ensures.some read
