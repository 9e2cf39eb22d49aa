-- Proves the goals of `copy_again` that the prover leaves open.
use Rattle.std.proofs.Common.{[], ◌∷◌, inl, inr, refl, sym, ◌∙◌, true≢false}
use Rattle.minisign.proofs.Common.{bytes_eq-Decides, rereader_call, sink_call, no_sink}
use Rattle.minisign.specs.Verifying.{Compare, Copy, Devices, Flush, Return}
use Rattle.minisign.proofs.VerifyingStages.{OneEnds, last_step, next_step}
use Rattle.minisign.proofs.ErrorsAndPrefixes.{err_is}
use Rattle.minisign.proofs.copying.copy_again.Goals as goal

pub returns-in_err-second : goal.returns-in_err-second
returns-in_err-second g c =
    let (second, copies) = c.in_err-second.ensures.refused in
    rw (err_is _ _ c.from_residual-in_err-second.ensures.1) (
      second,
      inr (
        record { reader = c.go_back.new.data_reader; status = tt; out = c.args.out.now },
        (c.in_ok-go_back.ensures, refl, refl),
        inl (copies, refl),
      ),
    )

pub returns : goal.returns
returns g c =
    let (second, digest, copies) = c.in_ok-second.ensures.copied in
    let end = c.copy_hashed.new.data_reader in
    let ends = OneEnds (rereader_call g.R.Source g.R.Rereader.steady c.args.data_reader.now end) no_sink
    (sink_call g.O.Sink c.args.out.now c.flush.new.out) in
    let taken : Devices _ _ _ = record { reader = end; status = tt; out = c.copy_hashed.new.out } in (
      second,
      next_step ends Return (Copy second ∷ Compare c.args.digest.now second ∷ Flush ∷ []) _
          (record { reader = c.go_back.new.data_reader; status = tt; out = c.args.out.now }) _ c.flush.result
          (c.in_ok-go_back.ensures, refl, refl)
          (next_step ends (Copy second) (Compare c.args.digest.now second ∷ Flush ∷ []) _ taken _
          c.flush.result (copies, refl)
          (next_step ends (Compare c.args.digest.now second) (Flush ∷ []) _ taken _ c.flush.result
          (sym digest ∙ (bytes_eq-Decides _ _).0 c.in_ok-check_same.ensures, refl, refl, refl)
          (last_step ends Flush _ _ c.flush.result (c.flush.ensures, refl, refl)))),
    )

pub returns-in_err-check_same : goal.returns-in_err-check_same
returns-in_err-check_same g c =
    let (second, digest, copies) = c.in_ok-second.ensures.copied in
    let (fault, unlike) = c.in_err-check_same.ensures in
    rw (err_is _ _ c.from_residual-in_err-check_same.ensures.1) (
      second,
      inr (
        record { reader = c.go_back.new.data_reader; status = tt; out = c.args.out.now },
        (c.in_ok-go_back.ensures, refl, refl),
        inr (
          record { reader = c.copy_hashed.new.data_reader; status = tt; out = c.copy_hashed.new.out },
          (copies, refl),
          inl (
            (fault, λ same. true≢false (sym ((bytes_eq-Decides _ _).1 (digest ∙ same)) ∙ unlike)),
            refl,
            refl,
            refl,
          ),
        ),
      ),
    )
