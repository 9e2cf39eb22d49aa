-- Lemmas about the struct Progress and the state that it represents, if the signature is that of a list.
use Rattle.std.specs.Prelude.{◌≡◌, ◌==◌, ◌++◌, Bool, true, false, if◌then◌else◌, List, [], ℕ, is_some}
use Rattle.std.specs.Prelude.{length, take}
use Rattle.std.specs.Prelude.{Option, Some, None, Result, Ok, Err}
use Rattle.std.specs.Option.{unwrap_or}
use Rattle.std.proofs.Common.{refl, sym, ap, ◌∙◌, subst}
use Rattle.std.proofs.Math.Seq.{take-append_seam}
use Rattle.minisign_hash.specs.Blake2b.{blake2b_digest}
use Rattle.minisign_hash.specs.Stored.{WasFed}
use Rattle.minisign_install.proofs.HeldStates.{read_is}
use Rattle.minisign_install.specs.Faults.{InstallFault}
use Rattle.minisign_install.specs.Installations.{HoldsState, WasRead, list_of, listed_of}
use Rattle.minisign_install.specs.Installations.{listing_of, reading_for, when}
use Rattle.minisign_install.specs.Faults.{Named, NotUtf8}
use Rattle.minisign_install.specs.Listings.{Listing, entry_in, fits_listed}
use Rattle.minisign_lists.specs.Lines.{Entry}
use Rattle.minisign_lists.specs.Lists.{listed_entry}
use Rattle.minisign_lists.specs.declared.faults.ListFault.{ListFault}
use Rattle.minisign_lists.specs.declared.faults.ListFault.TheVariants as lists
use Rattle.std.specs.Str.{is_utf8}
use Rattle.minisign_install.specs.Step.{State, is_listed, line_at_fault, signed_digest}
use Rattle.minisign_install.specs.declared.installation.listing.ListingValue.{ListingValue}
use Rattle.minisign_install.specs.declared.installation.progress.Progress.{Progress}
use Rattle.minisign_install.specs.declared.installation.reading.Reading.{Reading}
use Rattle.minisign_lists.specs.Digests.{has_digest}
use Rattle.minisign_lists.specs.declared.digests.Algorithm.{Algorithm}
use Rattle.minisign_lists.specs.declared.digests.ListedDigest.{ListedDigest}
use Rattle.minisign_lists.specs.declared.lines.LongDigest.{LongDigest}
use Rattle.minisign_lists.specs.Values.{algorithm_numbered, algorithm_of, digest_of_padded, long_numbered}
use Rattle.minisign_lists.specs.declared.lines.LongDigest.TheVariants as long
use Rattle.minisign_lists.specs.declared.digests.Algorithm.TheVariants as algorithm

-- == The options for a list ==

-- The flag and the number in the struct are the option for a list in the state.
pub mode_is : (p : Progress) (s : State) → HoldsState p s
    → s.options.list ≡ list_of p.chosen.is_list p.chosen.long_digest
mode_is p s held = ap (λ (x : State). x.options.list) held.state

-- `when` returns a value exactly if its condition is true.
some_when : (b : Bool) (x : LongDigest) → is_some (when b x) ≡ b
some_when true x = refl
some_when false x = refl

-- The flag `is_list` of the struct is 1 exactly if the state has a list.
pub has_list : (p : Progress) (s : State) → HoldsState p s → is_some s.options.list ≡ (p.chosen.is_list == 1)
has_list p s held = ap is_some (mode_is p s held) ∙ some_when (p.chosen.is_list == 1) _

-- The listing of the state is the one that the struct represents.
listing_is : (p : Progress) (s : State) → HoldsState p s → s.listing ≡ listing_of p.listing
listing_is p s held = ap (λ (x : State). x.listing) held.state

-- == The list ==

-- Storing the contents of a list and a new state of the hash function: the struct represents the state with
-- this listing and no bytes read.
pub with_listing : (p : Progress) (s : State) (l : ListingValue) (r : Reading) → HoldsState p s
    → WasRead (reading_for p.chosen l) r []
    → HoldsState (record p { listing = l; reading = r }) (record s { listing = listing_of l; read = [] })
with_listing p s l r held begun = record {
  file = held.file;
  read = [];
  fault = held.fault;
  error = held.error;
  state = ap (λ (x : State). record x { listing = listing_of l; read = [] }) held.state;
  fault_number = held.fault_number;
  error_number = held.error_number;
  fed = begun;
}

-- Storing the state of the hash function after these bytes: the struct represents the state in which they
-- were read.
pub with_reading : (p : Progress) (s : State) (r : Reading) (read : List ℕ) → HoldsState p s
    → WasRead (reading_for p.chosen p.listing) r read
    → HoldsState (record p { reading = r }) (record s { read = read })
with_reading p s r read held fed = record {
  file = held.file;
  read = read;
  fault = held.fault;
  error = held.error;
  state = ap (λ (x : State). record x { read = read }) held.state;
  fault_number = held.fault_number;
  error_number = held.error_number;
  fed = fed;
}

-- == The digest that has to be signed ==

-- With a list, the digest that has to be signed is that of the list.
pub digest_of_list : (p : Progress) (s : State) → HoldsState p s → (p.chosen.is_list == 1) ≡ true
    → p.listing.list_digest ≡ signed_digest s
digest_of_list p s held is =
    rw (has_list p s held ∙ is) (sym (ap (λ (l : Listing). l.digest) (listing_is p s held)))

-- Without a list, the bytes are hashed with BLAKE2b.
pub blake2b_read : (p : Progress) (s : State) (held : HoldsState p s) → (p.chosen.is_list == 1) ≡ false
    → WasFed p.reading.blake2b held.read
blake2b_read p s held is = rw is at held.fed

-- Without a list, the digest that has to be signed is that of the bytes that were read.
pub digest_of_data : (p : Progress) (s : State) (held : HoldsState p s) (digest : List ℕ)
    → (p.chosen.is_list == 1) ≡ false → digest ≡ blake2b_digest 64 held.read → digest ≡ signed_digest s
digest_of_data p s held digest is same =
    rw (has_list p s held ∙ is) (same ∙ ap (blake2b_digest 64) (sym (read_is p s held)))

-- == The listed digest ==

-- A digest that was stored for a hash function is read back for this hash function.
of_padded : (a : Algorithm) (bytes : List ℕ) → algorithm_of (digest_of_padded a bytes) ≡ a
of_padded algorithm.Sha256 bytes = refl
of_padded algorithm.Sha512 bytes = refl
of_padded algorithm.Blake2b bytes = refl

abbrev ok : ListedDigest → Result ListedDigest InstallFault
ok digest = Ok digest

-- Equal results contain equal digests.
same_ok : (one other : ListedDigest) → ok one ≡ ok other → one ≡ other
same_ok one other is = cc is

-- If the struct has a listed digest, its hash function is that of the digest.
algorithm_is : (a : Option Algorithm) (bytes : List ℕ) (fault : ℕ) (digest : ListedDigest)
    → listed_of a bytes fault ≡ Ok digest → a ≡ Some (algorithm_of digest)
algorithm_is (Some a) bytes fault digest is =
    ap (λ (x : Algorithm). Some x)
    (sym (of_padded a bytes) ∙ ap algorithm_of (same_ok (digest_of_padded a bytes) digest is))
algorithm_is None bytes fault digest is = cc is

-- With a list, the bytes are hashed with the hash function of the listed digest.
pub read_for : (p : Progress) (s : State) (held : HoldsState p s) (digest : ListedDigest)
    → (p.chosen.is_list == 1) ≡ true → Ok digest ≡ (listing_of p.listing).listed
    → WasRead (Some (algorithm_of digest)) p.reading held.read
read_for p s held digest is found =
    subst (λ (a : Option Algorithm). WasRead a p.reading held.read)
    (algorithm_is _ p.listing.digest p.listing.fault digest (sym found)) (rw is at held.fed)

-- Without a list, every file is accepted.
pub unlisted : (p : Progress) (s : State) → HoldsState p s → (p.chosen.is_list == 1) ≡ false
    → true ≡ is_listed s
unlisted p s held is = rw (mode_is p s held, is) refl

-- With a list, the file is accepted exactly if it has the listed digest.
pub listed_found : (p : Progress) (s : State) (held : HoldsState p s) (digest : ListedDigest) (b : Bool)
    → (p.chosen.is_list == 1) ≡ true → Ok digest ≡ (listing_of p.listing).listed
    → b ≡ has_digest digest held.read → b ≡ is_listed s
listed_found p s held digest b is found same =
    let digest_mode : LongDigest = unwrap_or (long_numbered p.chosen.long_digest) long.Rejected in
    let mode : s.options.list ≡ Some digest_mode =
    mode_is p s held ∙ ap (λ (x : Bool). when x digest_mode) is in
    let listed = ap (λ (l : Listing). l.listed) (listing_is p s held) ∙ sym found in
    let read = read_is p s held in
    same ∙ sym (λ i. fits_listed (mode i) (listed i) (read i))

-- With a list, no file is accepted if looking up the name failed.
pub listed_missing : (p : Progress) (s : State) (held : HoldsState p s) (fault : InstallFault)
    → (p.chosen.is_list == 1) ≡ true → Err fault ≡ (listing_of p.listing).listed → false ≡ is_listed s
listed_missing p s held fault is missing =
    let digest_mode : LongDigest = unwrap_or (long_numbered p.chosen.long_digest) long.Rejected in
    let mode : s.options.list ≡ Some digest_mode =
    mode_is p s held ∙ ap (λ (x : Bool). when x digest_mode) is in
    let listed = ap (λ (l : Listing). l.listed) (listing_is p s held) ∙ sym missing in
    sym (λ i. fits_listed (mode i) (listed i) s.read)

-- The result of looking up the name is the same in the struct and in the state.
pub listed_at : (p : Progress) (s : State) → HoldsState p s → s.listing.listed ≡ (listing_of p.listing).listed
listed_at p s held = ap (λ (l : Listing). l.listed) (listing_is p s held)

-- == After the signature of the list was checked ==

-- The new struct represents the state in which the list is signed.
pub list_signed : (p : Progress) (s : State) → HoldsState p s
    → HoldsState (record p { is_list_signed = 1 }) (record s { is_list_signed = true })
list_signed p s held = record {
  file = held.file;
  read = held.read;
  fault = held.fault;
  error = held.error;
  state = ap (λ (x : State). record x { is_list_signed = true }) held.state;
  fault_number = held.fault_number;
  error_number = held.error_number;
  fed = held.fed;
}

-- The number of the line that caused the error of the lookup is the same in the struct and in the state.
pub line_is : (p : Progress) (s : State) → HoldsState p s
    → (if p.is_list_signed == 1 then p.listing.line else 0) ≡ line_at_fault s
line_is p s held =
    sym (ap (λ (x : State). if x.is_list_signed then x.listing.line else 0) held.state)

-- == Buffers ==

-- If a longer buffer begins with n bytes, its first n bytes are these bytes.
pub front_is : (n : ℕ) (bytes wide rest : List ℕ) → length bytes ≡ n → wide ≡ bytes ++ rest
    → take n wide ≡ bytes
front_is n bytes wide rest size is = rw (is, sym size) (take-append_seam bytes rest)

-- Before a list was read, no hash function of a listed digest is stored, so files are hashed with BLAKE2b.
pub no_algorithm : (b : Bool) (n : ℕ) → n ≡ 0 → (if b then algorithm_numbered n else None) ≡ None
no_algorithm true n is = rw is refl
no_algorithm false n is = refl

-- == Texts ==

-- If the list and the name are UTF-8, the name is looked up in the list.
pub looked_up : (h : LongDigest) (list name t n : List ℕ) → t ≡ list → n ≡ name → is_utf8 list ≡ true
    → is_utf8 name ≡ true → listed_entry h t n ≡ entry_in h list name
looked_up h list name t n one other utf8 also = rw (one, other, utf8, also) refl

-- The result of looking up a name if the list or the name is not UTF-8.
abbrev missing : Result Entry ListFault
missing = Err (lists.Library (Named NotUtf8))

-- If the name is not UTF-8, looking it up has the error NotUtf8.
pub no_name_text : (h : LongDigest) (list name : List ℕ) → is_utf8 list ≡ true → is_utf8 name ≡ false
    → entry_in h list name ≡ missing
no_name_text h list name utf8 not = rw (utf8, not) refl

-- If the list is not UTF-8, looking up a name has the error NotUtf8.
pub no_list_text : (h : LongDigest) (list name : List ℕ) → is_utf8 list ≡ false
    → entry_in h list name ≡ missing
no_list_text h list name not = rw not refl
