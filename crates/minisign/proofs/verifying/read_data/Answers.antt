-- Proves the goals of `read_data` that the prover leaves open.
use Rattle.std.proofs.Common.{[], refl}
use Rattle.minisign.proofs.Common.{MatchResult-weaker}
use Rattle.minisign.proofs.ErrorsAndPrefixes.{passed_up}
use Rattle.minisign.proofs.VerifyingStages.{mark_stops, read_ends}
use Rattle.minisign.proofs.verifying.read_data.Goals as goal

pub returns-in_err-mark_place-clause-refused : goal.returns-in_err-mark_place-clause-refused
returns-in_err-mark_place-clause-refused g c =
    rw (← c.reads_again.ensures) (passed_up _ _ _ c.from_residual.ensures.1
    (mark_stops _ _ _ c.args.data_reader.now _ _ _ c.in_err-mark_place.ensures.refused))

pub returns-clause-held : goal.returns-clause-held
returns-clause-held g c =
    rw (← c.reads_again.ensures) (MatchResult-weaker c.read_signed_data.result c.read_signed_data.ensures.held
    (λ d (message, whole, holds). (
      message,
      holds,
      read_ends g.R.Source g.R.Rereader.steady c.args.data_reader.now _ _ _ c.mark_place.ensures.unmarked
          c.in_ok-mark_place.ensures.marked _ _
          ((whole, c.read_signed_data.ensures.is_marked_unchanged), refl, refl),
    )) (λ _ _. tt))

pub returns-clause-refused : goal.returns-clause-refused
returns-clause-refused g c =
    rw (← c.reads_again.ensures) (MatchResult-weaker c.read_signed_data.result c.read_signed_data.ensures.held
    (λ _ _. tt) (λ e failed. (
      [],
      read_ends g.R.Source g.R.Rereader.steady c.args.data_reader.now _ _ _ c.mark_place.ensures.unmarked
          c.in_ok-mark_place.ensures.marked [] _ (
            (
              (failed, c.read_signed_data.ensures.prefix_removed),
              c.read_signed_data.ensures.is_marked_unchanged,
            ),
            refl,
            refl,
          ),
    )))
