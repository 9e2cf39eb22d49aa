-- Schedules of failures: which call of a device fails, and the schedule after each call.
use Rattle.std.specs.Prelude.{ℕ, ◌-◌, Bool, true, false, cond, ltb, Option, Some, None}
use Rattle.minisign_fixtures.specs.declared.devices.turn.Turn.{Turn}

-- The schedule in which no call fails.
abbrev pub no_failure : Turn
no_failure = record { passing = None; is_for_good = false }

-- The schedule in which this number of calls succeeds and the next one fails. If `for_good` is true, all
-- later calls fail too; otherwise they succeed.
abbrev pub failure_after : ℕ → Bool → Turn
failure_after calls for_good = record { passing = Some calls; is_for_good = for_good }

-- True if the next call succeeds, given the number of calls that succeed before the first failure.
abbrev pub succeeds : Option ℕ → Bool
succeeds None = true
succeeds (Some passing) = ltb 0 passing

-- The number of calls that succeed before the first failure after the next call.
abbrev pub passing_after : Option ℕ → Bool → Option ℕ
passing_after None for_good = None
passing_after (Some passing) for_good =
    cond (ltb 0 passing) (Some (passing - 1)) (cond for_good (Some 0) None)

-- True if the next call succeeds.
abbrev pub next_succeeds : Turn → Bool
next_succeeds turn = succeeds turn.passing

-- The schedule after the next call.
abbrev pub after_call : Turn → Turn
after_call turn = record {
  passing = passing_after turn.passing turn.is_for_good;
  is_for_good = turn.is_for_good;
}
