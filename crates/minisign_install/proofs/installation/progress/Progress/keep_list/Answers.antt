-- Proves the goal of `Progress::keep_list` that the prover leaves open.
use Rattle.std.specs.Prelude.{[], ◌≡◌}
use Rattle.std.specs.Option.{unwrap_or}
use Rattle.std.proofs.Common.{ap, sym, subst, ◌∙◌}
use Rattle.minisign_install.specs.Installations.{HoldsState, listing_of}
use Rattle.minisign_install.specs.Listings.{Listing, judge_list}
use Rattle.minisign_install.specs.Step.{CheckList}
use Rattle.minisign_install.proofs.HeldListings.{mode_is, with_listing}
use Rattle.minisign_lists.specs.declared.lines.LongDigest.{LongDigest}
use Rattle.minisign_lists.specs.declared.lines.LongDigest.TheVariants as long
use Rattle.std.specs.Prelude.{Option}
use Rattle.minisign_install.proofs.installation.progress.Progress.keep_list.Goals as goal

pub returns : goal.returns
returns c = λ s state_held.
    let p = c.args.self.now in
    let is : listing_of c.of-self.result
    ≡ judge_list (unwrap_or s.options.list long.Rejected) c.args.list.now c.args.name.now =
    c.of-self.ensures
    ∙ ap (λ (d : LongDigest). judge_list d c.args.list.now c.args.name.now)
    (c.long_digest.ensures
    ∙ ap (λ (m : Option LongDigest). unwrap_or m long.Rejected) (sym (mode_is p s state_held))) in
    subst (λ (l : Listing).
    HoldsState c.go.new.self (record s { due = CheckList; listing = l; read = [] })) is
    (c.go.ensures _ (with_listing p s _ _ state_held (rw c.reading_for.ensures at c.begin-self.ensures)))
