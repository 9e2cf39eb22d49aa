-- Lemmas about the list that a run has read: its digest, and the digest that it has for the name.
use Rattle.std.specs.Prelude.{◌≡◌, ◌&&◌, ◌++◌, Bool, true, false, if◌then◌else◌, List, [], ◌∷◌, ℕ}
use Rattle.std.specs.Prelude.{is_some, length, take}
use Rattle.std.specs.Prelude.{Option, Some, None, Result, Ok, Err}
use Rattle.std.specs.Option.{unwrap_or}
use Rattle.std.proofs.Common.{refl, sym, ap, ◌∙◌, true≢false}
use Rattle.minisign_hash.specs.Blake2b.{blake2b_digest}
use Rattle.minisign_install.specs.Decisions.{Options}
use Rattle.minisign_install.specs.Faults.{InstallFault}
use Rattle.minisign_install.specs.Listings.{Listing, digest_found, digest_to_sign, entry_in, fits_list}
use Rattle.minisign_install.specs.Listings.{fits_listed, has_listed, judge_list}
use Rattle.hex.specs.Hex.{IsBytes}
use Rattle.minisign.specs.SignatureText.{SignatureTextRecord}
use Rattle.minisign_external.specs.declared.public_keys.PublicKeyValue.{PublicKeyValue}
use Rattle.minisign_install.proofs.RecordTexts.{digest_bytes, length_digest}
use Rattle.minisign_install.specs.Step.{State, is_listed, key_of, signed_digest}
use Rattle.minisign_install.specs.StepRuns.{HasListing, IsUpdate, World, first_signer}
use Rattle.std.proofs.lemmas.Option.{none-some, same_Some}
use Rattle.minisign_lists.specs.declared.digests.ListedDigest.{ListedDigest}
use Rattle.minisign_lists.specs.declared.lines.LongDigest.{LongDigest}
use Rattle.minisign_lists.specs.declared.lines.LongDigest.TheVariants as long

-- If the signature is that of a list, the listing has the contents of this list for this name.
abbrev IsListingOf : Option LongDigest → Listing → List ℕ → List ℕ → Type 0
IsListingOf mode l list name = is_some mode ≡ true → l ≡ judge_list (unwrap_or mode long.Rejected) list name

fits_at : (mode : Option LongDigest) (l : Listing) (list name m : List ℕ) → IsListingOf mode l list name
    → fits_listed mode l.listed m ≡ fits_list mode list name m
fits_at None l list name m is = refl
fits_at (Some long) l list name m is = ap (λ (x : Listing). has_listed x.listed m) (is refl)

digest_at : (mode : Option LongDigest) (l : Listing) (list name m : List ℕ) → IsListingOf mode l list name
    → (if is_some mode then l.digest else blake2b_digest 64 m) ≡ digest_to_sign mode list m
digest_at None l list name m is = refl
digest_at (Some long) l list name m is = ap (λ (x : Listing). x.digest) (is refl)

-- The state has the result of looking up the name in the list, so it accepts the same files.
pub listed_is : (w : World) (o : Options) (s : State) → s.options ≡ o → HasListing w o s
    → is_listed s ≡ fits_list o.list w.list w.name s.read
listed_is w o s same is =
    ap (λ (x : Options). fits_listed x.list s.listing.listed s.read) same
    ∙ fits_at o.list s.listing w.list w.name s.read is

-- The digest that has to be signed is that of the list or, without a list, of the data.
pub digest_is : (w : World) (o : Options) (s : State) → s.options ≡ o → HasListing w o s
    → signed_digest s ≡ digest_to_sign o.list w.list s.read
digest_is w o s same is =
    ap (λ (x : Options). if is_some x.list then s.listing.digest else blake2b_digest 64 s.read) same
    ∙ digest_at o.list s.listing w.list w.name s.read is

-- If the flag says that there is a value, there is one.
pub value_if_some : {A : Type 0} (a : Option A) → is_some a ≡ true → (x : A) × (a ≡ Some x)
value_if_some (Some x) is = (x, refl)
value_if_some None is = absurd (true≢false (sym is))

-- Both sides of a true conjunction are true, and the other direction (and_true).
pub both_true : (a b : Bool) → (a && b) ≡ true → (a ≡ true) × (b ≡ true)
both_true true b is = (refl, is)
both_true false b is = absurd (true≢false (sym is))

pub and_true : (a b : Bool) → a ≡ true → b ≡ true → (a && b) ≡ true
and_true a b one other = rw (one, other) refl

-- The list of numbers has the form of a BLAKE2b digest: 64 bytes.
abbrev pub IsDigest : List ℕ → Type 0
IsDigest digest = (length digest ≡ 64) × IsBytes digest

-- The digest that has to be signed has this form. It is also written to the record.
pub update_digest : (w : World) (o : Options) (s : State) → IsUpdate w o s → IsDigest (signed_digest s)
update_digest w o s update =
    rw (digest_is w o s update.same_options update.listing) (length_digest _, digest_bytes _)

-- The key that has signed the comment is the first signer.
pub signer_is : (w : World) (t : SignatureTextRecord) (key : List ℕ) (signers : List PublicKeyValue)
    → true ≡ w.accepts (t.signature.signature ++ t.comments.trusted) (key_of signers)
    (take 64 t.comments.signature) → first_signer w t signers ≡ Some key → key_of signers ≡ key
signer_is w t key [] accepted is = absurd (none-some key is)
signer_is w t key (v ∷ more) accepted is = same_Some v.key key (rw (sym accepted) at is)

ok_of : (r : Result ListedDigest InstallFault) (m : List ℕ) → has_listed r m ≡ true
    → (digest : ListedDigest) × (r ≡ Ok digest)
ok_of (Ok digest) m is = (digest, refl)
ok_of (Err fault) m is = absurd (true≢false (sym is))

-- If some data is listed, the list has a digest for the name.
listed_digest_at : (mode : Option LongDigest) (l : Listing) (list name m : List ℕ) → is_some mode ≡ true
    → IsListingOf mode l list name → fits_list mode list name m ≡ true
    → (digest : ListedDigest) × (l.listed ≡ Ok digest)
listed_digest_at None l list name m some is fits = absurd (true≢false (sym some))
listed_digest_at (Some long) l list name m some is fits =
    let (digest, ok) = ok_of (digest_found (entry_in long list name)) m fits in
    (digest, ap (λ (x : Listing). x.listed) (is refl) ∙ ok)

-- If the data is listed, the state has its digest.
pub listed_digest_of : (w : World) (o : Options) (s : State) (m : List ℕ) → is_some o.list ≡ true
    → HasListing w o s → fits_list o.list w.list w.name m ≡ true
    → (digest : ListedDigest) × (s.listing.listed ≡ Ok digest)
listed_digest_of w o s m some listing fits =
    listed_digest_at o.list s.listing w.list w.name m some listing fits

-- The digest of the list does not depend on the data.
pub same_digest : (mode : Option LongDigest) (list m n : List ℕ) → is_some mode ≡ true
    → digest_to_sign mode list m ≡ digest_to_sign mode list n
same_digest mode list m n some = rw some refl

-- With a list, the digest that has to be signed is that of the list.
pub list_digest : (mode : Option LongDigest) (list m : List ℕ) (h : LongDigest) → mode ≡ Some h
    → digest_to_sign mode list m ≡ blake2b_digest 64 list
list_digest mode list m h is = rw is refl

-- Looking up the name in the list gives the digest in the state, or the error there.
pub listed_as : (w : World) (o : Options) (s : State) (h : LongDigest) → o.list ≡ Some h → HasListing w o s
    → digest_found (entry_in h w.list w.name) ≡ s.listing.listed
listed_as w o s h is listing =
    ap (λ (m : Option LongDigest). digest_found (entry_in (unwrap_or m long.Rejected) w.list w.name)) (sym is)
    ∙ sym (ap (λ (l : Listing). l.listed) (listing (ap is_some is)))
