-- Proves the goal of `Progress::begin` that the prover leaves open.
use Rattle.std.proofs.Common.{[], None, ◌∙◌, refl, subst, sym}
use Rattle.std.specs.Prelude.{Option, ◌==◌}
use Rattle.minisign_install.specs.Installations.{WasRead}
use Rattle.minisign_install.proofs.HeldListings.{no_algorithm}
use Rattle.minisign_lists.specs.declared.digests.Algorithm.{Algorithm}
use Rattle.minisign_install.specs.Installations.{options_by}
use Rattle.minisign_install.specs.Step.{begin}
use Rattle.minisign_install.proofs.installation.progress.Progress.begin.Goals as goal

pub returns : goal.returns
returns c = λ file.
    let o = options_by c.args.key.now c.args.other.now c.args.choices.now file in
    record {
      file = file;
      read = [];
      fault = None;
      error = None;
      state =
          let first = sym (c.number-due.ensures ∙ c.first_operation.ensures) in
          let listing = sym c.none.ensures.listing in
          λ i. record (begin o) { due = first i; listing = listing i };
      fault_number = refl;
      error_number = refl;
      fed = subst (λ (a : Option Algorithm). WasRead a c.begin.result [])
          (sym (no_algorithm (c.args.choices.now.is_list == 1) c.none.result.hash c.none.ensures.hash))
          c.begin.ensures;
    }
