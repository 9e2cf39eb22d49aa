-- Proves that the recorded version does not decrease over any sequence of runs, complete or interrupted, and
-- of crashes.
use Rattle.std.specs.Prelude.{◌≡◌, ◌<◌, ◌≤◌, ◌^◌, ◌&&◌, ◌||◌, ◌⊎◌, ℕ, Bool, true, false, List, [], ◌∷◌}
use Rattle.std.specs.Prelude.{Option, Some, None, Result, Ok, Err, if◌then◌else◌, length, take, drop, ◌-◌}
use Rattle.std.specs.Option.{unwrap_or}
use Rattle.std.proofs.Common.{refl, inl, inr, subst, sym, ap, ◌∙◌, arith, true≢false}
use Rattle.std.proofs.lemmas.Option.{none-some, same_Some}
use Rattle.hex.specs.Hex.{decode_sized}
use Rattle.hex.specs.declared.error.FromHexError.{FromHexError}
use Rattle.hex.proofs.HexLemmas.{decode_of-ok, decode_sized-ok, decode_sized-twice}
use Rattle.minisign_install.specs.Applications.{Applies, Call, Crashes, File, IsSynced, RecordMayBe}
use Rattle.minisign_install.specs.Applications.{CrashMayLeave, CrashMayLeaveOneOf, Snapshot, content}
use Rattle.minisign_install.specs.Comments.{Numbering, number_label, strip, value_of}
use Rattle.minisign_install.specs.Decisions.{Options, Recorded, judge_record, judge_version}
use Rattle.minisign_install.specs.Decisions.{names_other_key, nothing_recorded, number_in, number_of}
use Rattle.minisign_install.specs.Decisions.{recorded_version}
use Rattle.minisign_install.specs.Faults.{InstallFault}
use Rattle.minisign_install.specs.Histories.{AcceptsWholeKeys, IsHistory, HasVersionFrom, HistoryEvent}
use Rattle.minisign_install.specs.Histories.{Crashed, IsUpdateRecord, IsVersionFrom, KeepsVersion}
use Rattle.minisign_install.specs.Histories.{OthersChangeFiles}
use Rattle.minisign_install.specs.Histories.{OthersKeepVersion, Runs, UpdaterRun}
use Rattle.minisign_install.specs.RecordTexts.{decoded, has_last_lines, record_key, record_text}
use Rattle.minisign_install.specs.Step.{State, begin, is_rolling_back, key_of, new_key, new_record}
use Rattle.minisign_install.specs.Step.{new_version}
use Rattle.minisign_install.specs.Step.{step}
use Rattle.minisign_install.specs.StepRuns.{ComparesNoVersion, IsUpdate, World, count}
use Rattle.minisign_install.proofs.Decisions.{reads_number}
use Rattle.minisign_install.proofs.SafeCalls.{Invariant, Safe, begins, next, safe_now}
use Rattle.minisign_install.proofs.StepRecords.{new_version_reads, next_run_reads}
use Rattle.minisign_install.specs.Step.{signed_digest}
use Rattle.minisign_install.proofs.Listings.{update_digest}

-- == Versions and keys in records ==

-- A version number is below 2^64.
number_bound : (text : List ℕ) (n : ℕ) → number_in text ≡ Some n → n < 2 ^ 64
number_bound text n is = (reads_number text n is).bound

bound_or : (o : Option ℕ) → ((n : ℕ) → o ≡ Some n → n < 2 ^ 64) → unwrap_or o 0 < 2 ^ 64
bound_or None bounds = omega arith
bound_or (Some n) bounds = bounds n refl

signed_bound : (text : Option (List ℕ)) → unwrap_or (number_of text) 0 < 2 ^ 64
signed_bound None = omega arith
signed_bound (Some text) = bound_or (number_in text) (number_bound text)

-- The version number that is recorded next is below 2^64.
whichever : (b : Bool) (r : Option ℕ) (v : ℕ) → v < 2 ^ 64 → ((k : ℕ) → r ≡ Some k → k < 2 ^ 64)
    → (if b then unwrap_or r v else v) < 2 ^ 64
whichever false r v bound bounds = bound
whichever true None v bound bounds = bound
whichever true (Some k) v bound bounds = bounds k refl

-- The key that is recorded next has 32 bytes.
whole_key : (b : Bool) (r : Option (List ℕ)) (key : List ℕ) → length key ≡ 32
    → ((k : List ℕ) → r ≡ Some k → length k ≡ 32) → length (if b then unwrap_or r key else key) ≡ 32
whole_key false r key whole wholes = whole
whole_key true None key whole wholes = whole
whole_key true (Some k) key whole wholes = wholes k refl

-- A key in a record has 32 bytes.
decoded_length : (text : List ℕ) (r : Result (List ℕ) FromHexError) (key : List ℕ)
    → decode_sized text 32 ≡ r → decoded r ≡ Some key → length key ≡ 32
decoded_length text (Err e) key is has = absurd (none-some key has)
decoded_length text (Ok bytes) key is has =
    let long = decode_sized-ok text 32 bytes is in
    let whole : decode_sized text 32 ≡ Ok bytes = is in
    let all = decode_of-ok text bytes (sym (decode_sized-twice text 32 long) ∙ whole) in
    let same : bytes ≡ key = same_Some bytes key has in
    ap length (sym same) ∙ omega (arith, long, all.2)

decoded_key : (marked : Bool) (text key : List ℕ)
    → (if marked then decoded (decode_sized text 32) else None) ≡ Some key → length key ≡ 32
decoded_key true text key is = decoded_length text (decode_sized text 32) key refl is
decoded_key false text key is = absurd (none-some key is)

recorded_key_length : (bytes key : List ℕ) → record_key bytes ≡ Some key → length key ≡ 32
recorded_key_length bytes key is =
    decoded_key (has_last_lines bytes) (take 64 (drop (length bytes - 193) bytes)) key is

-- The key in the contents of a record.
abbrev key_in : Result Recorded InstallFault → Option (List ℕ)
key_in (Ok r) = r.key
key_in (Err e) = None

no_key : (first : Bool) (e : InstallFault) (key : List ℕ)
    → key_in (if first then Ok nothing_recorded else Err e) ≡ Some key → length key ≡ 32
no_key true e key is = absurd (none-some key is)
no_key false e key is = absurd (none-some key is)

used_record_key : (compares_none : Bool) (n : ℕ) (bytes : List ℕ) (digest : Option (List ℕ)) (key : List ℕ)
    → key_in (if compares_none then Ok nothing_recorded
    else Ok (record { version = Some n; key = record_key bytes; digest = digest })) ≡ Some key
    → length key ≡ 32
used_record_key true n bytes digest key is = absurd (none-some key is)
used_record_key false n bytes digest key is = recorded_key_length bytes key is

judged_key : (o : Options) (bytes : List ℕ) (version : Option ℕ) (key : List ℕ)
    → key_in (judge_version o bytes version) ≡ Some key → length key ≡ 32
judged_key o bytes None key is = no_key o.first _ key is
judged_key o bytes (Some n) key is =
    used_record_key ((o.first || o.new_key) && names_other_key o bytes) n bytes _ key is

read_key : (o : Options) (found : Option (List ℕ)) (key : List ℕ) → key_in (judge_record o found) ≡ Some key
    → length key ≡ 32
read_key o None key is = no_key o.first _ key is
read_key o (Some bytes) key is = judged_key o bytes (recorded_version o.numbering bytes) key is

module _ (w : World) (o : Options) (accepts_whole : AcceptsWholeKeys w.accepts) where
  -- The key of the new record has 32 bytes, and its version number is below 2^64 (next_bound).
  next_key_length : (s : State) → IsUpdate w o s → length (new_key s) ≡ 32
  next_key_length s update =
      whole_key (is_rolling_back s) s.recorded.key (key_of s.signers)
      (accepts_whole _ _ _ update.signed_comment)
      (λ key is. read_key o w.found_record key (ap key_in update.record_applies ∙ is))

  recorded_bound : (s : State) → IsUpdate w o s → (k : ℕ) → s.recorded.version ≡ Some k → k < 2 ^ 64
  recorded_bound s update k is =
      let (bytes, at, holds) = (update.not_older k is).0 in
      let text = unwrap_or (strip (number_label o.numbering) (record_text bytes)) (record_text bytes) in
      number_bound text k holds

  next_bound : (s : State) → IsUpdate w o s → new_version s < 2 ^ 64
  next_bound s update =
      whichever (is_rolling_back s) s.recorded.version s.version
      (rw update.version (signed_bound (value_of (number_label o.numbering) update.text.comments.trusted)))
      (recorded_bound s update)

  -- recorded_version returns the version number that the record of an update was written with.
  pub update_reads : (s : State) → IsUpdate w o s
      → recorded_version o.numbering (new_record s) ≡ Some (new_version s)
  update_reads s update =
      rw (sym (ap (λ (x : Options). x.numbering) update.same_options))
      (new_version_reads s (next_bound s update) (next_key_length s update) (update_digest w o s update))

  -- The next run with these options, unless they include --first or --new-key, reads the version number and
  -- the digest that this run has recorded.
  pub own_record : (s : State) → IsUpdate w o s → o.first ≡ false → o.new_key ≡ false
      → judge_record o (Some (new_record s)) ≡ Ok (record {
        version = Some (new_version s);
        key = record_key (new_record s);
        digest = Some (signed_digest s);
      })
  own_record s update not_first not_new =
      next_run_reads o s not_first not_new (sym (ap (λ (x : Options). x.numbering) update.same_options))
      (next_bound s update) (next_key_length s update) (update_digest w o s update)

  -- A later run reads them too, even with other keys and other options, unless these include --first or
  -- --new-key.
  pub later_record : (p : Options) (s : State) → IsUpdate w o s → p.numbering ≡ o.numbering → p.first ≡ false
      → p.new_key ≡ false
      → judge_record p (Some (new_record s)) ≡ Ok (record {
        version = Some (new_version s);
        key = record_key (new_record s);
        digest = Some (signed_digest s);
      })
  later_record p s update same not_first not_new =
      next_run_reads p s not_first not_new (same
      ∙ sym (ap (λ (x : Options). x.numbering) update.same_options))
      (next_bound s update) (next_key_length s update) (update_digest w o s update)

  -- == A step ==

  module _ (k : ℕ) where
    -- The record that the run reads has a version number that is at least k.
    abbrev ComparesVersion : Type 0
    ComparesVersion = IsVersionFrom o.numbering k w.found_record

    module _ (compares : (bytes : List ℕ) → w.found_record ≡ Some bytes → (o.first || o.new_key) ≡ true
        → names_other_key o bytes ≡ false) where
      -- Then the run compares the update with a recorded version.
      version_compared : (found : Option (List ℕ)) → w.found_record ≡ found → ComparesVersion
          → ComparesNoVersion o found → ⊥
      version_compared None at (bytes, version, is, reads, least) compares_none =
          none-some bytes (sym at ∙ is)
      version_compared (Some other) at (bytes, version, is, reads, least) (inl (first, none)) =
          let same : bytes ≡ other = same_Some bytes other (sym is ∙ at) in
          none-some version (sym none ∙ ap (recorded_version o.numbering) (sym same) ∙ reads)
      version_compared (Some other) at (bytes, version, is, reads, least) (inr (given, others)) =
          true≢false (sym others ∙ compares other at given)

      -- The version number that is recorded next is at least k, because the recorded one is.
      no_less : (s : State) → IsUpdate w o s → ComparesVersion → (r : Option ℕ) → s.recorded.version ≡ r
          → k ≤ new_version s
      no_less s update from None none =
          absurd (version_compared w.found_record refl from (update.not_compared none))
      no_less s update (bytes, version, is, reads, least) (Some j) some =
          let ((other, at, holds), more) = update.not_older j some in
          let same : bytes ≡ other = same_Some bytes other (sym is ∙ at) in
          let equal : version ≡ j = same_Some version j
          (sym reads ∙ ap (recorded_version o.numbering) same ∙ holds) in
          omega (arith, least, more, equal)

      -- The record of an update has a version number that is at least k.
      recorded_from : (found : Option (List ℕ)) → ComparesVersion → IsUpdateRecord w o found
          → IsVersionFrom o.numbering k found
      recorded_from found from (s, update, is) = (
        new_record s,
        new_version s,
        is,
        update_reads s update,
        no_less s update from s.recorded.version refl,
      )

      either_from : (old : Snapshot) (found : Option (List ℕ)) → HasVersionFrom o.numbering k old
          → RecordMayBe old found ⊎ (ComparesVersion × IsUpdateRecord w o found)
          → IsVersionFrom o.numbering k found
      either_from old found has (inl is) = has found is
      either_from old found has (inr (from, update)) = recorded_from found from update

      -- A safe operation does not decrease the recorded version.
      keeps_version : (old new : Snapshot) → HasVersionFrom o.numbering k old
          → Safe w o ComparesVersion ⊥ old new
          → HasVersionFrom o.numbering k new
      keeps_version old new has safe found is = either_from old found has (safe.1 found is)

      -- A crash may leave a file unchanged.
      remains : (place : Option File) → CrashMayLeave place (content place)
      remains (Some file) = (file.bytes, refl, λ synced. refl)
      remains None = refl

      -- No run of an application decreases it.
      run_keeps : (n : ℕ) (s : State) (m : Snapshot) (calls : List Call) (t : State) (end : Snapshot)
          → Invariant w o ComparesVersion ⊥ n s m → HasVersionFrom o.numbering k m → Applies w s m calls t end
          → OthersKeepVersion o.numbering m calls → HasVersionFrom o.numbering k end
      run_keeps n s m [] t end known has (is, same) others = rw same has
      run_keeps n s m (c ∷ more) t end known has (rest, fits, is, run) (keep, others) =
          let before = keep k has in
          let read : IsVersionFrom o.numbering k (content c.before.recorded) =
          before (content c.before.recorded) (inl (remains c.before.recorded)) in
          let reads : content c.before.recorded ≡ w.found_record → ComparesVersion =
          λ found. subst (IsVersionFrom o.numbering k) found read in
          run_keeps (count n c.event) (step s c.event).1 c.after more t end
          (next w o ComparesVersion ⊥ n s m c known rest (λ q. absurd q) fits is reads)
          (keeps_version c.before c.after before
          (safe_now w o ComparesVersion ⊥ n s m c known rest (λ q. absurd q) is)) run others

-- == Histories ==

-- No run in a history decreases it.
updater_keeps : (numbering : Numbering) (r : UpdaterRun numbering) → KeepsVersion numbering r.begun r.ended
updater_keeps numbering r k has =
    let o = r.options in
    let from : HasVersionFrom o.numbering k r.begun =
    subst (λ x. HasVersionFrom x k r.begun) (sym r.field) has in
    let others : OthersKeepVersion o.numbering r.begun r.calls =
    subst (λ x. OthersKeepVersion x r.begun r.calls) (sym r.field) r.others_keep in
    subst (λ x. HasVersionFrom x k r.ended) r.field
    (run_keeps r.world o r.accepts_whole k r.compares 0 (begin o) r.begun r.calls r.state r.ended
    (begins r.world o (IsVersionFrom o.numbering k r.world.found_record) ⊥ r.begun) from r.applies others)

-- A crash does not change a file that is synced.
synced_stays : (place : Option File) (found : Option (List ℕ)) → IsSynced place → CrashMayLeave place found
    → found ≡ content place
synced_stays (Some file) found synced (bytes, is, same) = is ∙ ap (λ x. Some x) (same synced)
synced_stays None found synced is = is

-- What is found at the record after a crash, and after further crashes, could be found there before.
found_after_crash : (old new : Snapshot) (left : List (Option File)) (found : Option (List ℕ))
    → Crashes old new
    → new.recorded_left ≡ left → CrashMayLeaveOneOf (new.recorded ∷ left) found → RecordMayBe old found
found_after_crash old new [] found crash none (inl is) =
    rw (synced_stays new.recorded found crash.record_on_disk is) crash.record_remains
found_after_crash old new [] found crash none (inr is) = absurd is
found_after_crash old new (x ∷ more) found crash none is =
    let empty : x ∷ more ≡ [] = sym none ∙ crash.record_sure in cc empty

-- A crash does not decrease the recorded version.
crash_keeps : (numbering : Numbering) (old new : Snapshot) → Crashes old new → KeepsVersion numbering old new
crash_keeps numbering old new crash k has found is =
    has found (found_after_crash old new new.recorded_left found crash refl is)

-- The recorded version does not decrease over any history.
pub versions_keep : (numbering : Numbering) (old new : Snapshot) (events : List (HistoryEvent numbering))
    → IsHistory numbering old events new → KeepsVersion numbering old new
versions_keep numbering old new [] is k has = rw is has
versions_keep numbering old new (Runs r ∷ later) (on, rest) k has =
    let begun : HasVersionFrom numbering k r.begun = rw (on.record_stays, on.record_left_stays) has in
    versions_keep numbering r.ended new later rest k (updater_keeps numbering r k begun)
versions_keep numbering old new (Crashed m ∷ later) (crash, rest) k has =
    versions_keep numbering m new later rest k (crash_keeps numbering old m crash k has)
versions_keep numbering old new (OthersChangeFiles m ∷ later) (op_keeps, rest) k has =
    versions_keep numbering m new later rest k (op_keeps k has)
