-- Proves the goal of `ListingValue::found` that the prover leaves open.
use Rattle.std.specs.Prelude.{Ok, replicate, length, ◌≡◌}
use Rattle.std.proofs.Common.{ap, arith, sym, ◌∙◌}
use Rattle.minisign_install.proofs.HeldListings.{front_is}
use Rattle.minisign_install.specs.Installations.{listing_of}
use Rattle.minisign_install.specs.Listings.{Listing}
use Rattle.minisign_lists.specs.declared.digests.ListedDigest.{ListedDigest}
use Rattle.minisign_lists.specs.declared.digests.ListedDigest.TheVariants.{Sha256}
use Rattle.minisign_install.proofs.installation.listing.ListingValue.found.Goals as goal

pub returns-in-Sha256 : goal.returns-in-Sha256
returns-in-Sha256 c =
    let listed : ListedDigest → Listing =
    λ d. record { digest = c.args.list_digest; listed = Ok d; line = 0 } in
    let size : length c.in-Sha256.bytes ≡ 32 = omega arith in
    ap listing_of c.with.ensures
    ∙ ap (λ b. listed (Sha256 b)) (front_is 32 _ _ (replicate 32 0) size c.widened_32.ensures)
    ∙ ap listed (sym c.in-Sha256.is)
