-- Lemmas about the stages of verification: stages that do not use the status sink or the output sink
-- end in the same way with any other sink; the parts of `verify` run the stages in order; and what
-- follows if the stages succeed or fail. Here `the status` and `the output` are these two sinks.
use Rattle.std.proofs.Common.{◌≡◌, ◌≢◌, ◌⊎◌, ℕ, Bool, true, false, Vec, List, [], ◌∷◌, ◌++◌, Option, None}
use Rattle.std.proofs.Common.{Some, IfErr, IfSome, IsSome, OnOk, inl, inr, ⊎_elim, refl, sym, ap, subst, ◌∙◌}
use Rattle.std.proofs.Common.{Result, Ok, Err, true≢false, ◌&&◌}
use Rattle.minisign.proofs.Common.{and_parts, bytes_eq-Decides, ⊤, Appends, IsAtEnd, blake2b_digest}
use Rattle.minisign.proofs.Common.{ErrorCountRises}
use Rattle.minisign.proofs.Common.{Fault, Named, GoingBackFailed, OutOfMemory, IsSteady, FlushesNothing}
use Rattle.minisign.proofs.Common.{IsWritingFault, Marks, RereaderCall, SinkCall, SinkFails}
use Rattle.minisign.proofs.Common.{SinkHasNoNewFault, SourceFails, SourceHasNoNewFault, SinkReceives}
use Rattle.minisign.proofs.Common.{SinkReceivesPrefix}
use Rattle.minisign.proofs.Common.{rereader_call, sink_call, no_sink, first_stopped, second_ends}
use Rattle.minisign.proofs.Common.{StepsEnd}
use Rattle.minisign.proofs.Common.{AllByRecursion, Keeps}
use Rattle.minisign_base.specs.Members.{SinkOf, SourceOf}
use Rattle.minisign.specs.declared.signed_data.SignedData.{SignedData}
use Rattle.minisign.specs.declared.signed_data.SignedData.TheVariants.{Digest, Message, NoData}
use Rattle.minisign_base.specs.declared.faults.NamedFault.TheVariants.{ReadingFailed}
use Rattle.minisign.specs.Reading.{HasFailed, KnownBytesAre, IsReadFault}
use Rattle.minisign.specs.Records.{PublicKeyRecord, SignatureBoxRecord, is_prehashed}
use Rattle.minisign.specs.Acceptance.{Verifier, Vouches, accepts_comments, judge, judge_answers, judge_key}
use Rattle.minisign.specs.Acceptance.{options_of, signed_bytes, status_lines}
use Rattle.minisign.specs.Verifying.{HoldsSigned, held_copy_stages, held_bytes, Devices, StagesEnd, Flush}
use Rattle.minisign.specs.Verifying.{Judge, Put, Stage, StageEnds, copying_stages, second_copy_stages}
use Rattle.minisign.specs.Verifying.{is_reread, reading_stages, reporting_stages, Compare, Copy, Mark, Read}
use Rattle.minisign.specs.Verifying.{Report, Return, HasCopy, VerifyingFails, VerifyingSucceeds}
use Rattle.minisign.specs.Verifying.{status_unless_quiet}
use Rattle.minisign.specs.Texts.{IsValueOrNoMemory, and_then}
use Rattle.minisign.proofs.Copies.{received_and_kept}
use Rattle.minisign.proofs.Verdicts.{AreSigned, judged_held, judged_or_not}

-- The stage does not use the status.
abbrev IsWithoutStatus : Stage → Type 0
IsWithoutStatus (Report _) = ⊥
IsWithoutStatus _ = ⊤

abbrev UseNoStatus : List Stage → Type 0
UseNoStatus stages = AllByRecursion IsWithoutStatus stages

-- The stage does not use the output.
abbrev IsWithoutOutput : Stage → Type 0
IsWithoutOutput (Copy _) = ⊥
IsWithoutOutput (Put _) = ⊥
IsWithoutOutput Flush = ⊥
IsWithoutOutput _ = ⊤

abbrev UseNoOutput : List Stage → Type 0
UseNoOutput stages = AllByRecursion IsWithoutOutput stages

-- == Steps of a call ==

-- Steps end in the same way with other devices, if each step does.
module _ {Step D F E : Type 0} (Ends : Step → D → D → Result ⊤ E → Type 0)
    (Others : Step → F → F → Result ⊤ E → Type 0) (other : D → F) (Uses : Step → Type 0)
    (one : (step : Step) (old new : D) (answer : Result ⊤ E) → Uses step → Ends step old new answer
    → Others step (other old) (other new) answer) where
  steps_beside : (steps : List Step) (old new : D) (answer : Result ⊤ E) → AllByRecursion Uses steps
      → StepsEnd Ends steps old new answer → StepsEnd Others steps (other old) (other new) answer
  steps_beside [] _ _ (Ok _) u same = ap other same
  steps_beside [] _ _ (Err e) u h = absurd h
  steps_beside (step ∷ later) old _ (Ok _) (u, us) (d, done, ran) =
      (other d, one step old d (Ok tt) u done, steps_beside later d _ _ us ran)
  steps_beside (step ∷ _) old new (Err e) (u, _) (inl h) = inl (one step old new (Err e) u h)
  steps_beside (step ∷ later) old new (Err e) (u, us) (inr (d, done, h)) =
      inr (other d, one step old d (Ok tt) u done, steps_beside later d new (Err e) us h)

module _ {Step D E : Type 0} (Ends : Step → D → D → Result ⊤ E → Type 0) where
  -- If the steps of two joined lists stop with an error, either those of the first list do, or those of
  -- the first list succeed and those of the second stop with the error.
  stopped_in : (first second : List Step) (old new : D) (e : E)
      → StepsEnd Ends (first ++ second) old new (Err e)
      → StepsEnd Ends first old new (Err e)
      ⊎ ((between : D) × StepsEnd Ends first old between (Ok tt) × StepsEnd Ends second between new (Err e))
  stopped_in [] _ old _ e h = inr (old, refl, h)
  stopped_in (_ ∷ _) _ _ _ e (inl h) = inl (inl h)
  stopped_in (_ ∷ first) _ _ _ e (inr (d, done, h)) =
      ⊎_elim (λ a. inl (inr (d, done, a))) (λ (between, a, b). inr (between, (d, done, a), b))
      (stopped_in first _ d _ e h)

  -- If a step succeeds, it and the later steps end with the result of the later steps.
  pub next_step : (step : Step) (later : List Step) (old between new : D) (answer : Result ⊤ E)
      → Ends step old between (Ok tt) → StepsEnd Ends later between new answer
      → StepsEnd Ends (step ∷ later) old new answer
  next_step _ _ _ between _ (Ok u) done ran = (between, done, ran)
  next_step _ _ _ between _ (Err e) done ran = inr (between, done, ran)

  -- A list of one step ends as this step does.
  pub last_step : (step : Step) (old new : D) (answer : Result ⊤ E) → Ends step old new answer
      → StepsEnd Ends (step ∷ []) old new answer
  last_step _ _ new (Ok u) done = (new, done, refl)
  last_step _ _ _ (Err e) stopped = inl stopped

  last_step_succeeds : (step : Step) (old new : D) → StepsEnd Ends (step ∷ []) old new (Ok tt)
      → Ends step old new (Ok tt)
  last_step_succeeds _ _ _ (d, done, same) = rw (sym same) at done

-- == The stages of verification ==

module _ {R W O : Type 0} (reader : RereaderCall R) (status : SinkCall W) (out : SinkCall O) where
  -- The end of a stage that changes the devices from one state to another.
  abbrev pub OneEnds : Stage → Devices R W O → Devices R W O → Result ⊤ Fault → Type 0
  OneEnds stage old new =
      StageEnds (record reader { old = old.reader; new = new.reader })
      (record status { old = old.status; new = new.status })
      (record out { old = old.out; new = new.out }) stage

  -- The devices at the beginning and at the end.
  abbrev begun : Devices R W O
  begun = record { reader = reader.old; status = status.old; out = out.old }

  abbrev ended : Devices R W O
  ended = record { reader = reader.new; status = status.new; out = out.new }

-- A stage that does not use a sink ends in the same way with any other sink that is unchanged.
module _ {R W O V : Type 0} (sink : SinkOf V) (v : V)
    (reader : RereaderCall R) (status : SinkCall W) (out : SinkCall O) where
  abbrev other_status : Devices R W O → Devices R V O
  other_status d = record { reader = d.reader; status = v; out = d.out }

  one_beside_status : (stage : Stage) (old new : Devices R W O) (answer : Result ⊤ Fault)
      → IsWithoutStatus stage
      → OneEnds reader status out stage old new answer
      → OneEnds reader (sink_call sink v v) out stage (other_status old) (other_status new) answer
  one_beside_status Mark _ _ _ u h = (h.0, refl, h.2)
  one_beside_status (Read _) _ _ _ u h = (h.0, refl, h.2)
  one_beside_status (Judge _ _ x _ _) _ _ _ u h = (h.0, h.1, refl, h.3)
  one_beside_status (Report _) _ _ _ u h = absurd u
  one_beside_status Return _ _ _ u h = (h.0, refl, h.2)
  one_beside_status (Copy _) _ _ _ u h = (h.0, refl)
  one_beside_status (Compare _ _) _ _ _ u h = (h.0, h.1, refl, h.3)
  one_beside_status (Put _) _ _ _ u h = (h.0, h.1, refl)
  one_beside_status Flush _ _ _ u h = (h.0, h.1, refl)

  beside_status : (stages : List Stage) (answer : Result ⊤ Fault) → UseNoStatus stages
      → StagesEnd reader status out stages answer
      → StagesEnd reader (sink_call sink v v) out stages answer
  beside_status _ answer =
      steps_beside (OneEnds reader status out) (OneEnds reader (sink_call sink v v) out) other_status _
      one_beside_status _ (begun reader status out) (ended reader status out) answer

  abbrev other_output : Devices R W O → Devices R W V
  other_output d = record { reader = d.reader; status = d.status; out = v }

  one_beside_output : (stage : Stage) (old new : Devices R W O) (answer : Result ⊤ Fault)
      → IsWithoutOutput stage
      → OneEnds reader status out stage old new answer
      → OneEnds reader status (sink_call sink v v) stage (other_output old) (other_output new) answer
  one_beside_output Mark _ _ _ u h = (h.0, h.1, refl)
  one_beside_output (Read _) _ _ _ u h = (h.0, h.1, refl)
  one_beside_output (Judge _ _ x _ _) _ _ _ u h = (h.0, h.1, h.2, refl)
  one_beside_output (Report _) _ _ _ u h = (h.0, h.1, refl)
  one_beside_output Return _ _ _ u h = (h.0, h.1, refl)
  one_beside_output (Copy _) _ _ _ u h = absurd u
  one_beside_output (Compare _ _) _ _ _ u h = (h.0, h.1, h.2, refl)
  one_beside_output (Put _) _ _ _ u h = absurd u
  one_beside_output Flush _ _ _ u h = absurd u

  beside_output : (stages : List Stage) (answer : Result ⊤ Fault) → UseNoOutput stages
      → StagesEnd reader status out stages answer
      → StagesEnd reader status (sink_call sink v v) stages answer
  beside_output _ answer =
      steps_beside (OneEnds reader status out) (OneEnds reader status (sink_call sink v v)) other_output
      _ one_beside_output _ (begun reader status out) (ended reader status out) answer

-- Reading uses neither sink, and copying does not use the status. Quiet verification does not use
-- the status either.
reading_uses_no_status : (again : Bool) (message : List ℕ) → UseNoStatus (reading_stages again message)
reading_uses_no_status true _ = (tt, (tt, tt))
reading_uses_no_status false _ = (tt, tt)

reading_uses_no_output : (again : Bool) (message : List ℕ) → UseNoOutput (reading_stages again message)
reading_uses_no_output true _ = (tt, (tt, tt))
reading_uses_no_output false _ = (tt, tt)

copying_uses_no_status : (output hashed : Bool) (message second : List ℕ)
    → UseNoStatus (copying_stages output hashed message second)
copying_uses_no_status false _ _ _ = tt
copying_uses_no_status true true _ _ = (tt, (tt, (tt, (tt, tt))))
copying_uses_no_status true false _ _ = (tt, (tt, tt))

module _ {R W O : Type 0} (accepts : Verifier) (pk : PublicKeyRecord) (x : SignatureBoxRecord) (legacy : Bool)
    (reader : RereaderCall R) (status : SinkCall W) (out : SinkCall O) (e : Fault) where
  quiet_stages : (output again : Bool) (message second : List ℕ) → UseNoStatus (reading_stages again message
      ++ (Judge accepts pk x legacy message ∷ copying_stages output (is_prehashed x.signature) message
      second))
  quiet_stages _ true _ _ =
      (tt, (tt, (tt, copying_uses_no_status _ _ _ _)))
  quiet_stages _ false _ _ =
      (tt, (tt, copying_uses_no_status _ _ _ _))

  -- Verification that reports and copies nothing does not use the output.
  pub fails_without_output : VerifyingFails accepts pk x (options_of false false legacy) reader status out e
      → VerifyingFails accepts pk x (options_of false false legacy) reader status no_sink e
  fails_without_output (message, second, h) = (
    message,
    second,
    beside_output no_sink.sink tt reader _ out (Read message ∷ Judge accepts pk x legacy message
        ∷ Report (status_lines x) ∷ []) (Err e) (tt, (tt, (tt, tt))) h,
  )

  -- Quiet verification does not use the status.
  pub fails_without_status : (output : Bool)
      → VerifyingFails accepts pk x (options_of true output legacy) reader status out e
      → VerifyingFails accepts pk x (options_of true output legacy) reader no_sink out e
  fails_without_status _ (message, second, h) = (
    message,
    second,
    beside_status no_sink.sink tt reader status out _ (Err e) (quiet_stages _ _ _ _) h,
  )

  -- Quiet verification that copies nothing uses neither sink.
  pub fails_without_sinks : VerifyingFails accepts pk x (options_of true false legacy) reader status out e
      → VerifyingFails accepts pk x (options_of true false legacy) reader no_sink no_sink e
  fails_without_sinks h =
      let (message, second, stages) = fails_without_status false h in (
        message,
        second,
        beside_output no_sink.sink tt reader no_sink out (Read message ∷ Judge accepts pk x legacy message
            ∷ [])
            (Err e) (tt, (tt, tt)) stages,
      )

-- After going back to a mark, the bytes that were unread when it was set are unread again.
bytes_at_mark : (first behind returned : Option (List ℕ)) (second : List ℕ) → behind ≡ first
    → IfSome behind (λ xs. returned ≡ Some xs) → KnownBytesAre returned second
    → IfSome first (λ xs. second ≡ xs)
bytes_at_mark None _ _ _ _ _ _ = tt
bytes_at_mark (Some _) _ _ _ marked same given =
    let back = rw marked at same in
    sym (rw back at given)

-- If the first bytes are known and both readings returned them, the second reading returned the
-- message.
both_known : (first : Option (List ℕ)) (message second : List ℕ) → IsSome first
    → IfSome first (λ xs. second ≡ xs) → KnownBytesAre first message → second ≡ message
both_known None _ _ some _ _ = absurd (true≢false (sym some))
both_known (Some _) _ _ _ same given = same ∙ given

-- The bytes that are kept in memory are those that the signature signs, if such a signature is allowed.
judged_signed : (bytes : List ℕ) (signed : SignedData) (x : SignatureBoxRecord) (legacy : Bool)
    (message : List ℕ) → bytes ≡ held_bytes signed
    → HoldsSigned signed x legacy message → AreSigned bytes x legacy message
judged_signed _ (Digest _) x _ _ is holds _ = is ∙ rw holds.0 holds.1
judged_signed _ (Message _) x _ _ is holds _ = is ∙ rw holds.0 holds.1
judged_signed _ NoData x _ _ _ holds allowed =
    absurd (true≢false (sym allowed ∙ rw (holds.0, holds.1) refl))

module _ {R : Type 0} (source : SourceOf R) (steady : R → Type 0) (old mid new : R) where
  abbrev between : R → R → RereaderCall R
  between = rereader_call source steady

  -- If the place cannot be marked, the stages that read the data end with this error.
  pub mark_stops : (again : Bool) (e : Fault)
      → (again ≡ true) × (e ≡ Named GoingBackFailed) × Marks (between old new) (Err tt)
      → (message : List ℕ) × StagesEnd (between old new) no_sink no_sink (reading_stages again message)
      (Err e)
  mark_stops true e (_, is, fails) = ([], inl ((is, fails), refl, refl))
  mark_stops false e (is_requested, _, _) = absurd (true≢false (sym is_requested))

  -- If marking succeeded or was not needed, the stages that read the data end as the reading does.
  pub read_ends : (again : Bool) → (again ≡ false → mid ≡ old)
      → (again ≡ true → Marks (between old mid) (Ok tt)) → (message : List ℕ) (answer : Result ⊤ Fault)
      → StageEnds (between mid new) no_sink no_sink (Read message) answer
      → StagesEnd (between old new) no_sink no_sink (reading_stages again message) answer
  read_ends true _ marked message _ read =
      next_step (OneEnds (between old new) no_sink no_sink) Mark (Read message ∷ []) _
      (record { reader = mid; status = tt; out = tt }) _ _ (marked refl, refl, refl)
      (last_step (OneEnds (between old new) no_sink no_sink) (Read message) _ _ _ read)
  read_ends false unmarked _ message answer read =
      subst (λ r. StagesEnd (between r new) no_sink no_sink (Read message ∷ []) answer)
      (unmarked refl)
      (last_step (OneEnds (between old new) no_sink no_sink) (Read message) _ _ answer read)

-- The data was read to its end without an error and is this message. If it will be read again, its
-- start is marked; otherwise the mark is unchanged.
record FirstPass {R : Type 0} (again : Bool) (reader : RereaderCall R) (message : List ℕ) : Type 0 where
  pub known_bytes : KnownBytesAre (reader.source.ahead reader.old) message
  pub end : IsAtEnd (reader.source.ahead reader.new)
  pub no_new_fault : SourceHasNoNewFault reader
  pub mark : again ≡ false → reader.source.behind reader.new ≡ reader.source.behind reader.old
  pub marked : again ≡ true → IsSteady reader → reader.source.behind reader.new
      ≡ reader.source.ahead reader.old

-- Consequences of the stages of a call.
module _ {R W O : Type 0} (reader : RereaderCall R) (status : SinkCall W) (out : SinkCall O) where
  first_pass : (again : Bool) (message : List ℕ)
      → StagesEnd reader status out (reading_stages again message) (Ok tt)
      → FirstPass again reader message × (status.new ≡ status.old) × (out.new ≡ out.old)
  first_pass true message (d, (marked, s, o), read) =
      let ((whole, same), s2, o2) = last_step_succeeds (OneEnds reader status out) (Read message) d
      (ended reader status out) read in (
        record {
          known_bytes = subst (λ known. KnownBytesAre known message) marked.bytes whole.known_bytes;
          end = whole.end;
          no_new_fault = whole.no_new_fault ∙ marked.no_new_fault;
          mark = λ once. absurd (true≢false once);
          marked = λ again steady. whole.mark ∙ marked.mark steady;
        },
        s2 ∙ s,
        o2 ∙ o,
      )
  first_pass false message read =
      let ((whole, same), s, o) = last_step_succeeds (OneEnds reader status out) (Read message)
      (begun reader status out) (ended reader status out) read in (
        record {
          known_bytes = whole.known_bytes;
          end = whole.end;
          no_new_fault = whole.no_new_fault;
          mark = λ once. whole.mark;
          marked = λ again steady. absurd (true≢false (sym again));
        },
        s,
        o,
      )

  -- If writing the status lines fails, the stages that report end with this error.
  say_stops : (quiet : Bool) (x : SignatureBoxRecord) (e : Fault) → reader.new ≡ reader.old
      → out.new ≡ out.old
      → (quiet ≡ false) × (((e ≡ Named OutOfMemory) × (status.new ≡ status.old)) ⊎ IsWritingFault status e)
      → SinkReceivesPrefix status (status_unless_quiet quiet x) → FlushesNothing status
      → StagesEnd reader status out (reporting_stages quiet x) (Err e)
  say_stops true x e r o (is_requested, _) _ _ = absurd (true≢false is_requested)
  say_stops false x e r o (_, why) front unflushed =
      inl (⊎_elim inl (λ failed. inr ((failed, front), unflushed)) why, r, o)

  -- If the status lines are written, or `quiet` is set, the stages that report succeed.
  say_runs : (quiet : Bool) (x : SignatureBoxRecord) → reader.new ≡ reader.old → out.new ≡ out.old
      → (quiet ≡ true → status.new ≡ status.old) → SinkReceives status (status_unless_quiet quiet x)
      → SinkHasNoNewFault status → FlushesNothing status
      → StagesEnd reader status out (reporting_stages quiet x) (Ok tt)
  say_runs true x r o unsaid _ _ _ =
      λ i. record { reader = r i; status = unsaid refl i; out = o i }
  say_runs false x r o _ said no_new_fault unflushed =
      (ended reader status out, (inr ((said, no_new_fault), unflushed), r, o), refl)

-- The stages that copy the data of a legacy signature write it from memory and flush it.
pub copying_from_memory : (output : Bool) (signed : SignedData) (bytes : Vec ℕ _) (second : List ℕ)
    → output ≡ true
    → signed ≡ Message bytes
    → Put bytes.items ∷ Flush ∷ [] ≡ held_copy_stages output signed second
copying_from_memory _ _ _ _ is_requested is = rw (is_requested, is) refl

-- The effects of a call after it has copied the data. `mid` is its reader after the data was read, before it
-- is read again for the copy.
record Copied {R O : Type 0} (accepts : Verifier) (pk : PublicKeyRecord) (x : SignatureBoxRecord)
    (output legacy : Bool) (reader : RereaderCall R) (mid : R) (out : SinkCall O) (message : List ℕ)
    : Type 0 where
  pub end : IsAtEnd (reader.source.ahead reader.new)
  pub no_new_fault : reader.source.faults reader.new ≡ reader.source.faults mid
  pub mark : is_reread output x ≡ false → reader.source.behind reader.new ≡ reader.source.behind mid
  pub copied : output ≡ true → HasCopy accepts pk x legacy reader out message
  pub out_no_new_fault : SinkHasNoNewFault out

module _ (accepts : Verifier) (pk : PublicKeyRecord) (x : SignatureBoxRecord) (legacy : Bool)
    (message : List ℕ) (vouches : Vouches accepts pk x message legacy) where
  -- If legacy signatures are not allowed, the signature is prehashed, because the box is valid.
  unallowed : is_prehashed x.signature ≡ false → legacy ≡ false → ⊥
  unallowed kept unwanted = ⊎_elim (λ alike. true≢false (sym ((bytes_eq-Decides _ _).1 alike) ∙ kept))
      (λ is_requested. true≢false (sym is_requested ∙ unwanted)) vouches.allowed

  -- A box is valid for all data that gives the same signed bytes.
  vouches_alike : (copy : List ℕ) → signed_bytes x copy ≡ signed_bytes x message
      → Vouches accepts pk x copy legacy
  vouches_alike _ same = record {
    same_key = vouches.same_key;
    allowed = vouches.allowed;
    signed = rw (sym same) at vouches.signed;
    comment_signed = vouches.comment_signed;
  }

  -- The stages that copy from what is kept in memory are the copying stages of verification.
  copying_is : (second : List ℕ) (output : Bool) (signed : SignedData) → HoldsSigned signed x legacy message
      → held_copy_stages output signed second
      ≡ copying_stages output (is_prehashed x.signature) message second
  copying_is _ false _ _ = refl
  copying_is _ true (Digest _) holds = rw (holds.0, holds.1) refl
  copying_is _ true (Message _) holds = rw (holds.0, holds.1) refl
  copying_is _ true NoData holds = absurd (unallowed holds.0 holds.1)

  -- If the stages that copy succeed, Copied holds.
  module _ {R O : Type 0} (reader : RereaderCall R) (mid : R) (out : SinkCall O) where
    copied : (output : Bool) (signed : SignedData) → HoldsSigned signed x legacy message
        → StagesEnd (record reader { new = mid }) no_sink no_sink (reading_stages
        (is_reread output x) message)
        (Ok tt)
        → FirstPass (is_reread output x) (record reader { new = mid }) message
        → (second : List ℕ) → StagesEnd (record reader { old = mid }) no_sink out
        (held_copy_stages output signed second) (Ok tt)
        → Copied accepts pk x output legacy reader mid out message
    copied false _ _ _ pass _ same = record {
      end = rw (sym (ap (λ d. d.reader) same)) at pass.end;
      no_new_fault = ap (λ d. reader.source.faults d.reader) same;
      mark = λ once. ap (λ d. reader.source.behind d.reader) same;
      copied = λ is_requested. absurd (true≢false (sym is_requested));
      out_no_new_fault = ap (λ d. out.sink.sink_faults d.out) same;
    }
    copied true (Digest _) holds read pass second
        (d1, (back, s1, o1), (d2, (copy, s2), (d3, (equal, r3, s3, o3), last))) =
        let (flushed, r4, s4) =
        last_step_succeeds (OneEnds reader no_sink out) Flush d3 (ended reader no_sink out)
        last in
        let digests = equal ∙ holds.1 in
        let same : signed_bytes x second ≡ signed_bytes x message = rw holds.0 digests in
        record {
          end = subst (λ r. IsAtEnd (reader.source.ahead r)) (sym (r4 ∙ r3)) copy.read.end;
          no_new_fault = ap reader.source.faults (r4 ∙ r3) ∙ copy.read.no_new_fault ∙ back.no_new_fault;
          mark = λ once. absurd (true≢false (sym holds.0 ∙ once));
          copied = λ is_requested. record {
            copy = second;
            received = received_and_kept _ (out.sink.taken d2.out) _ second
                (subst (λ o. Appends (out.sink.taken o) (out.sink.taken d2.out) second) o1 copy.received)
                (subst (λ o. Keeps (out.sink.taken o) (out.sink.taken out.new)) o3 flushed.bytes);
            flushed = flushed.all_flushed;
            read_twice = λ hashed. second_ends (OneEnds reader no_sink out) (reading_stages true message)
                (second_copy_stages (blake2b_digest 64 message) second) (begun reader no_sink out)
                (record { reader = mid; status = tt; out = out.old }) (ended reader no_sink out) (Ok tt)
                (beside_output out.sink out.old (record reader { new = mid }) no_sink no_sink
                (reading_stages true message) (Ok tt) (reading_uses_no_output true message)
                (rw hashed at read))
                (d1, (back, s1, o1), (d2, (copy, s2), (d3, (digests, r3, s3, o3), last)));
            vouched = vouches_alike _ same;
            signed_same = same;
            legacy_same = λ kept. absurd (true≢false (sym holds.0 ∙ kept));
            steady_same = λ held known_data. both_known _ _ _ known_data
                (bytes_at_mark _ _ _ _
                (pass.marked holds.0 held) back.bytes copy.read.known_bytes) pass.known_bytes;
          };
          out_no_new_fault = flushed.no_new_fault ∙ ap out.sink.sink_faults o3 ∙ copy.no_new_fault
              ∙ ap out.sink.sink_faults o1;
        }
    copied true (Message bytes) holds _ pass _ (d1, (((all, no_new_fault), _), r1, _), last) =
        let (flushed, r2, s2) =
        last_step_succeeds (OneEnds reader no_sink out) Flush d1 (ended reader no_sink out)
        last in
        let same = ap (signed_bytes x) holds.1 in
        record {
          end = subst (λ r. IsAtEnd (reader.source.ahead r)) (sym (r2 ∙ r1)) pass.end;
          no_new_fault = ap reader.source.faults (r2 ∙ r1);
          mark = λ once. ap reader.source.behind (r2 ∙ r1);
          copied = λ is_requested. record {
            copy = bytes.items;
            received = received_and_kept _ _ _ bytes.items all flushed.bytes;
            flushed = flushed.all_flushed;
            read_twice = λ hashed. absurd (true≢false (sym hashed ∙ holds.0));
            vouched = vouches_alike bytes.items same;
            signed_same = same;
            legacy_same = λ kept. holds.1;
            steady_same = λ held known_data. holds.1;
          };
          out_no_new_fault = flushed.no_new_fault ∙ no_new_fault;
        }
    copied true NoData holds _ _ _ _ = absurd (unallowed holds.0 holds.1)

module _ {R W O : Type 0} (accepts : Verifier) (pk : PublicKeyRecord) (x : SignatureBoxRecord)
    (quiet output legacy : Bool)
    (reader : RereaderCall R) (status : SinkCall W) (out : SinkCall O) where
  -- Verification fails and leaves the three devices in these states.
  abbrev Fails : R → W → O → Fault → Type 0
  Fails r w o e = VerifyingFails accepts pk x (options_of quiet output legacy) (record reader { new = r })
      (record status { new = w }) (record out { new = o }) e

  -- The devices after only the reader was used.
  abbrev at : R → Devices R W O
  at r = record { reader = r; status = status.old; out = out.old }

  -- The stages that read the data end in the same way if both sinks are unchanged.
  beside_sinks : (r : R) (message : List ℕ) (answer : Result ⊤ Fault)
      → StagesEnd (record reader { new = r }) no_sink no_sink (reading_stages (is_reread output x) message)
      answer
      → StepsEnd (OneEnds reader status out) (reading_stages (is_reread output x) message) (at reader.old)
      (at r) answer
  beside_sinks r _ answer read =
      beside_output out.sink out.old (record reader { new = r }) (record status { new = status.old }) no_sink
      _ answer (reading_uses_no_output _ _)
      (beside_status status.sink status.old (record reader { new = r }) no_sink no_sink
      _ answer (reading_uses_no_status _ _) read)

  -- If reading fails, verification fails, with both sinks unchanged.
  pub unread : (e : Fault) → (message : List ℕ) × StagesEnd reader no_sink no_sink
      (reading_stages (is_reread output x) message) (Err e)
      → Fails reader.new status.old out.old e
  unread e (message, h) = (
    message,
    [],
    first_stopped (OneEnds reader status out) _ _ (at reader.old) (at reader.new) e (beside_sinks _ _ _ h),
  )

  -- In this module, the data was read, and `bytes` is what is kept of it in memory.
  module _ (mid : R) (signed : SignedData) (held : (message : List ℕ) × HoldsSigned signed x legacy message
      × StagesEnd (record reader { new = mid }) no_sink no_sink (reading_stages (is_reread output x) message)
      (Ok tt)) (bytes : List ℕ) (is : bytes ≡ held_bytes signed) where
    abbrev Judged : Result ⊤ Fault → Type 0
    Judged answer = IsValueOrNoMemory answer (and_then (judge_key pk.keynum x.signature legacy)
        (λ _. judge_answers (accepts bytes pk.key x.signature.signature) (accepts_comments accepts pk x)))

    judged : (answer : Result ⊤ Fault) → Judged answer
        → IsValueOrNoMemory answer (judge accepts pk x held.0 legacy)
    judged = judged_held accepts pk x _ _ _ (judged_signed _ _ x _ _ is held.1)

    abbrev copying : List ℕ → List Stage
    copying second = copying_stages output (is_prehashed x.signature) held.0 second

    -- If a stage after reading fails, verification fails.
    after_reading : (second : List ℕ) (w : W) (o : O) (r : R) (e : Fault)
        → StepsEnd (OneEnds reader status out)
        (Judge accepts pk x legacy held.0 ∷ (reporting_stages quiet x ++ copying second)) (at mid)
        (record { reader = r; status = w; out = o }) (Err e) → Fails r w o e
    after_reading second w o r e h = (
      held.0,
      second,
      second_ends (OneEnds reader status out) _ _
          (at reader.old) (at mid) (record { reader = r; status = w; out = o }) (Err e)
          (beside_sinks _ _ _ held.2) h,
    )

    -- If the box is rejected or an allocation fails, verification fails, with both sinks unchanged.
    pub unjudged : (e : Fault) → Judged (Err e) → Fails mid status.old out.old e
    unjudged e why = after_reading [] _ _ _ e (inl (judged _ why, refl, refl, refl))

    module _ (accepted : Judged (Ok tt)) where
      vouches : Vouches accepts pk x held.0 legacy
      vouches = judged_or_not _ pk x _ _ tt (judged _ accepted)

      -- If the box is accepted and a later stage fails, verification fails.
      after_judging : (second : List ℕ) (w : W) (o : O) (r : R) (e : Fault)
          → StepsEnd (OneEnds reader status out) (reporting_stages quiet x ++ copying second) (at mid)
          (record { reader = r; status = w; out = o }) (Err e) → Fails r w o e
      after_judging _ w o r e h = after_reading _ w o r e
          (inr (at mid, (judged _ accepted, refl, refl, refl), h))

      -- If writing the status lines fails, verification fails, with the output unchanged.
      pub unsaid : (e : Fault)
          → (quiet ≡ false) × (((e ≡ Named OutOfMemory) × (status.new ≡ status.old)) ⊎ IsWritingFault status
          e)
          → SinkReceivesPrefix status (status_unless_quiet quiet x) → FlushesNothing status
          → Fails mid status.new out.old e
      unsaid e why front unflushed = after_judging [] status.new out.old mid e
          (first_stopped (OneEnds reader status out) (reporting_stages quiet x) (copying []) (at mid)
          (record { reader = mid; status = status.new; out = out.old }) e
          (say_stops (record reader { old = mid; new = mid }) status (record out { new = out.old }) quiet x e
          refl refl why front unflushed))

      -- If the status lines are written, verification ends with the result of copying.
      pub copying_ends : (quiet ≡ true → status.new ≡ status.old)
          → SinkReceives status (status_unless_quiet quiet x)
          → SinkHasNoNewFault status → FlushesNothing status → (answer : Result ⊤ Fault)
          → (second : List ℕ) × StagesEnd (record reader { old = mid }) no_sink out
          (held_copy_stages output signed second) answer
          → OnOk answer (VerifyingSucceeds accepts pk x (options_of quiet output legacy) reader status out)
          × IfErr answer (VerifyingFails accepts pk x (options_of quiet output legacy) reader status out)
      copying_ends _ said no_new_fault unflushed (Ok _) (second, run) =
          let pass = (first_pass (record reader { new = mid }) no_sink no_sink (is_reread output x) held.0
          held.2).0 in
          let done = copied accepts pk x legacy held.0 vouches reader mid out output signed held.1 held.2
          pass second run in (
            record {
              message = held.0;
              known_bytes = pass.known_bytes;
              vouches = vouches;
              end = done.end;
              no_new_fault = done.no_new_fault ∙ pass.no_new_fault;
              mark = λ once. done.mark once ∙ pass.mark once;
              status_received = said;
              status_no_new_fault = no_new_fault;
              status_unflushed = unflushed;
              copied = done.copied;
              out_no_new_fault = done.out_no_new_fault;
            },
            tt,
          )
      copying_ends silent said no_new_fault unflushed (Err e) (second, run) = (
        tt,
        after_judging second status.new out.new reader.new e
            (second_ends (OneEnds reader status out) (reporting_stages quiet x) (copying second) (at mid)
            (record { reader = mid; status = status.new; out = out.old }) (ended reader status out) (Err e)
            (say_runs (record reader { old = mid; new = mid }) status (record out { new = out.old }) quiet x
            refl refl silent said no_new_fault unflushed)
            (beside_status status.sink status.new (record reader { old = mid }) no_sink out
            (copying second) (Err e) (copying_uses_no_status _ _ _ _)
            (subst (λ stages. StagesEnd (record reader { old = mid }) no_sink out stages (Err e))
            (copying_is accepts pk x legacy held.0 vouches second output signed held.1) run))),
      )

-- == Why verification fails ==

-- The second reading has a different digest from the message. For a steady source with known bytes, the
-- second reading returned the bytes that were unread at first.
pub record IsOther {R : Type 0} (reader : RereaderCall R) (message : List ℕ) : Type 0 where
  pub second : List ℕ
  pub second_is_data : IsSteady reader → IfSome (reader.source.ahead reader.old) (λ xs. second ≡ xs)
  pub changed : blake2b_digest 64 second ≢ blake2b_digest 64 message

-- The errors of verification: an allocation failed; the place could not be marked; the data could not be
-- read; the box is rejected; the status failed; or copying failed, because the source failed, the output
-- failed or the data changed.
abbrev pub IsReason : {R W O : Type 0} → Verifier → PublicKeyRecord → SignatureBoxRecord → Bool → Bool → Bool
    → RereaderCall R → SinkCall W → SinkCall O → Fault → Type 0
IsReason accepts pk x quiet output legacy reader status out e = (e ≡ Named OutOfMemory)
    ⊎ ((output ≡ true) × SourceFails reader)
    ⊎ HasFailed ReadingFailed reader.source.faults reader.old reader.new e
    ⊎ ((message : List ℕ) × KnownBytesAre (reader.source.ahead reader.old) message
    × (judge accepts pk x message legacy ≡ Err e))
    ⊎ ((quiet ≡ false) × SinkFails status) ⊎ ((output ≡ true) × SinkFails out)
    ⊎ ((output ≡ true) × ((message : List ℕ) × KnownBytesAre (reader.source.ahead reader.old) message
    × IsOther reader message))

module _ {R W O : Type 0} (accepts : Verifier) (pk : PublicKeyRecord) (x : SignatureBoxRecord)
    (quiet output legacy : Bool)
    (reader : RereaderCall R) (status : SinkCall W) (out : SinkCall O) (e : Fault) where
  -- The error has one of the reasons of IsReason.
  abbrev HasReason : Type 0
  HasReason = IsReason accepts pk x quiet output legacy reader status out e

  -- From this state on, these stages were run and one of them failed.
  abbrev Stops : List Stage → Devices R W O → Type 0
  Stops stages d = StepsEnd (OneEnds reader status out) stages d (ended reader status out) (Err e)

  -- If a read fails and the source had not failed before, this is one of the reasons.
  read_fault : (r : R) → reader.source.faults r ≡ reader.source.faults reader.old
      → IsReadFault reader.source r reader.new e → HasReason
  read_fault r _ (inl memory) = inl memory.0
  read_fault r no_new_fault (inr failed) =
      inr (inr (inl (record {
        fault = failed.fault;
        rose = rw no_new_fault at failed.rose;
      })))

  out_fault : output ≡ true → (o : O) → out.sink.sink_faults o ≡ out.sink.sink_faults out.old
      → IsWritingFault (record out { old = o }) e → HasReason
  out_fault is_requested o no_new_fault (_, rose) =
      inr (inr (inr (inr (inr (inl (is_requested, rw no_new_fault at rose))))))

  mark_fault : output ≡ true → (r : R) → reader.source.faults r ≡ reader.source.faults reader.old
      → ErrorCountRises (reader.source.faults r) (reader.source.faults reader.new) → HasReason
  mark_fault is_requested r no_new_fault rose = inr (inl (is_requested, rw no_new_fault at rose))

  why_unread : (again : Bool) (message : List ℕ) → (again ≡ true → output ≡ true)
      → Stops (reading_stages again message) (begun reader status out) → HasReason
  why_unread true _ is_requested (inl ((_, fails), s, o)) =
      mark_fault (is_requested refl) _ refl fails.fault
  why_unread true _ _ (inr (d, (marked, s, o), inl (((fails, _), _), _, _))) =
      read_fault _ marked.no_new_fault fails
  why_unread true _ _ (inr (d, _, inr (_, _, h))) = absurd h
  why_unread false _ _ (inl (((fails, _), _), s, o)) = read_fault _ refl fails
  why_unread false _ _ (inr (d, _, h)) = absurd h

  why_unsaid : (is_requested : Bool) → is_requested ≡ quiet → (d : Devices R W O) → d.status ≡ status.old
      → Stops (reporting_stages is_requested x) d → HasReason
  why_unsaid true _ d _ h = absurd h
  why_unsaid false _ d _ (inl (inl memory, r, o)) = inl memory.0
  why_unsaid false is d same (inl (inr (((_, rose), _), _), r, o)) =
      inr (inr (inr (inr (inl (
        sym is,
        rw same at rose,
      )))))
  why_unsaid false _ d _ (inr (_, _, h)) = absurd h

  -- Reporting leaves the other devices unchanged.
  report_keeps_others : (is_requested : Bool) (d d2 : Devices R W O)
      → StepsEnd (OneEnds reader status out) (reporting_stages is_requested x) d d2 (Ok tt)
      → (d2.reader ≡ d.reader) × (d2.out ≡ d.out)
  report_keeps_others true d _ is = (ap (λ d. d.reader) is, ap (λ d. d.out) is)
  report_keeps_others false d d2 ran =
      let (said, r, o) =
      last_step_succeeds (OneEnds reader status out) (Report (status_lines x)) d d2 ran in (r, o)

  module _ (message second : List ℕ) (d : Devices R W O) (same : d.out ≡ out.old) where
    why_uncopied : (copies hashed : Bool) → copies ≡ output
        → FirstPass (copies && hashed) (record reader { new = d.reader }) message
        → Stops (copying_stages copies hashed message second) d → HasReason
    why_uncopied false _ _ _ h = absurd h
    why_uncopied true true is pass (inl ((fault, fails), s, o)) =
        mark_fault (sym is) _ pass.no_new_fault fails.fault
    why_uncopied true true is pass (inr (_, (at, _, o2), inl (not, _))) =
        ⊎_elim (λ memory. inl memory.0)
        (⊎_elim (λ failed. read_fault _ (at.no_new_fault ∙ pass.no_new_fault) (inr failed))
        (out_fault (sym is) _ (ap out.sink.sink_faults (o2 ∙ same)))) not.failed
    why_uncopied true true is pass
        (inr (_, (at, _, _), inr (_, (put, _), inl ((changed, unlike), r, _, _)))) =
        inr (inr (inr (inr (inr (inr (
          sym is,
          (
            message,
            pass.known_bytes,
            record {
              second = second;
              second_is_data =
                  λ steady. bytes_at_mark _ _ _ _ (pass.marked refl steady) at.bytes put.read.known_bytes;
              changed = unlike;
            },
          ),
        ))))))
    why_uncopied true true is _
        (inr (_, (_, _, o2), inr (_, (put, _), inr (_, (_, _, _, o4), inl ((fault, fails), r, s)))))
        =
        out_fault (sym is) _ (ap out.sink.sink_faults o4 ∙ put.no_new_fault ∙ ap out.sink.sink_faults
        (o2 ∙ same)) (fault, fails.fault)
    why_uncopied true true _ _ (inr (_, _, inr (_, _, inr (_, _, inr (_, _, h))))) =
        absurd h
    why_uncopied true false is _ (inl (((fails, _), _), r, s)) =
        out_fault (sym is) _ (ap out.sink.sink_faults same) fails
    why_uncopied true false is _ (inr (_, (((_, no_new_fault), _), _, _), inl ((fault, fails), r, s))) =
        out_fault (sym is) _ (no_new_fault ∙ ap out.sink.sink_faults same) (fault, fails.fault)
    why_uncopied true false _ _ (inr (_, _, inr (_, _, h))) = absurd h

  why_after : (hashed : Bool) (message second : List ℕ) (d : Devices R W O)
      → FirstPass (output && hashed) (record reader { new = d.reader }) message → (d.status ≡ status.old)
      → (d.out ≡ out.old)
      → Stops (Judge accepts pk x legacy message
      ∷ (reporting_stages quiet x ++ copying_stages output hashed message second)) d → HasReason
  why_after _ message _ d pass s o (inl (inl refuses, r, _, _)) =
      inr (inr (inr (inl (message, pass.known_bytes, sym refuses))))
  why_after hashed message second d pass s o (inl (inr memory, r, s2, o2)) = inl (cc memory)
  why_after _ _ _ d pass s o (inr (d2, (_, r2, s2, o2), h)) =
      ⊎_elim (why_unsaid _ refl d2 (s2 ∙ s)) (λ (d3, said, h3).
      let (r3, o3) = report_keeps_others _ d2 d3 said in
      why_uncopied _ _ d3 (o3 ∙ o2 ∙ o) _ _ refl (rw (sym (r3 ∙ r2)) at pass) h3)
      (stopped_in (OneEnds reader status out) _ _ d2 (ended reader status out) e h)

  -- If verification fails, the error has one of these reasons.
  pub why_it_fails : VerifyingFails accepts pk x (options_of quiet output legacy) reader status out e
      → HasReason
  why_it_fails (message, second, h) =
      ⊎_elim (why_unread (is_reread output x) message
      (λ both. (and_parts _ (is_prehashed x.signature) both).0)) (λ (d, read, h2).
      let (pass, s, o) = first_pass _ (record status { new = d.status })
      (record out { new = d.out }) _ message read in
      why_after (is_prehashed x.signature) _ second d pass s o h2)
      (stopped_in (OneEnds reader status out) (reading_stages (is_reread output x) message)
      (Judge accepts pk x legacy message
      ∷ (reporting_stages quiet x ++ copying_stages output (is_prehashed x.signature) message second))
      (begun reader status out) (ended reader status out) e h)
