-- Lemmas about verification with devices, which are a reader of the signed data, an output for status lines
-- and an output for a copy of the data. If no device fails, the result is that of the function judge. If the
-- caller passes the texts of a public key and a signature, it is the result of judge for the key and the
-- signature (the box) that they parse to. A returned comment is the trusted comment of the signature text.
use Rattle.std.proofs.Common.{◌≡◌, ℕ, true, List, inl, inr, sym, ap, ◌∙◌, IfErr, IsErrAnd, OnOk}
use Rattle.std.proofs.Common.{IfSome, ◌⊎◌, ⊎_elim, false, refl, [], Option, None, Some, IfOk, Result, Ok}
use Rattle.std.proofs.Common.{Err, true≢false, IsSome, Bool}
use Rattle.minisign.proofs.Common.{⊤, blake2b_digest, RereaderCall, SinkCall, no_sink, Fault, Named}
use Rattle.minisign.proofs.Common.{IfErr-weaker, IsSteady, SinkFails, SourceFails, bytes_eq-Decides}
use Rattle.minisign.proofs.Common.{OutOfMemory}
use Rattle.minisign.specs.Texts.{IsValueOrNoMemory, map_ok}
use Rattle.minisign.specs.Records.{PublicKeyRecord, SignatureBoxRecord, is_prehashed, prehashed_algorithm}
use Rattle.minisign.specs.Acceptance.{Verifier, Vouches, judge, options_of}
use Rattle.minisign.specs.declared.options.VerifyOptions.{VerifyOptions}
use Rattle.minisign_base.specs.declared.faults.NamedFault.TheVariants.{ReadingFailed}
use Rattle.minisign.specs.Reading.{HasFailed, KnownBytesAre, IsReadFromFile, ReadsWhole}
use Rattle.minisign.specs.Verifying.{VerifyingFails, VerifyingSucceeds, VerifyingTextsFails}
use Rattle.minisign.specs.Verifying.{VerifyingTextsSucceeds, read_texts}
use Rattle.minisign.specs.Headline.{CopyIsVouchedFor, IfNothingFails, verdict, CopyIsVouchedWith}
use Rattle.minisign.specs.Headline.{TextsVouchWith, TextsVouchFor}
use Rattle.minisign.proofs.VerifyingStages.{IsReason, why_it_fails, fails_without_sinks, fails_without_status}
use Rattle.minisign.proofs.Verdicts.{both_read, vouches_judged, judged_verdict, signed_comment, text_refused}
use Rattle.minisign.proofs.Verdicts.{trusted_of, vouched_verdict}
use Rattle.minisign.specs.SignatureText.{read_signature}

-- If verification with two texts succeeds, the texts are valid for each message for which the parsed box is
-- valid under the parsed key.
both_vouch : {R W O : Type 0} {accepts : Verifier} {pk sig : List ℕ} {options : VerifyOptions}
    (reader : RereaderCall R) (status : SinkCall W) (out : SinkCall O) {message : List ℕ} {legacy : Bool}
    (h : VerifyingTextsSucceeds accepts pk sig options reader status out)
    → Vouches accepts h.key h.box message legacy → TextsVouchFor accepts pk sig message legacy
both_vouch _ _ _ h vouches =
    record { key = h.key; box = h.box; key_read = h.key_read; box_read = h.box_read; vouches = vouches }

-- If verification with two texts and an output succeeds, the signature is valid for the bytes that the output
-- received.
pub copy_vouched : {R W O T : Type 0} (accepts : Verifier) (pk sig : List ℕ) (options : VerifyOptions)
    (reader : RereaderCall R) (status : SinkCall W) (out : SinkCall O)
    (r : Result T Fault) → OnOk r (VerifyingTextsSucceeds accepts pk sig options reader status out)
    → options.output ≡ true
    → OnOk r (CopyIsVouchedFor accepts pk sig options.allow_legacy out)
copy_vouched _ _ _ _ _ _ _ (Ok v) h is_requested =
    let copied = h.verified.copied is_requested in
    record {
      copy = copied.copy;
      copy_received = copied.received;
      flushed = copied.flushed;
      vouched = both_vouch _ _ _ h copied.vouched;
    }
copy_vouched _ _ _ _ _ _ _ (Err e) h _ = tt

module _ {R W O : Type 0} (accepts : Verifier) (pk sig : List ℕ) (options : VerifyOptions)
    (reader : RereaderCall R) (status : SinkCall W) (out : SinkCall O)
    (key : PublicKeyRecord) (box : SignatureBoxRecord) (read : read_texts pk sig ≡ Ok (key, box)) where
  -- If the two texts parse to a key and a box, and verification with these succeeded as specified, then
  -- verification with the texts succeeded as specified.
  pub succeeds_with : {T : Type 0} (r : Result T Fault)
      → OnOk r (VerifyingSucceeds accepts key box options reader status out)
      → OnOk r (VerifyingTextsSucceeds accepts pk sig options reader status out)
  succeeds_with (Ok x) h = let (key_read, box_read) = both_read pk _ _ _ read in
      record { key = key; box = box; key_read = key_read; box_read = box_read; verified = h }
  succeeds_with (Err e) h = tt

  -- The same for verification that failed.
  pub fails_with : {T : Type 0} (r : Result T Fault)
      → IfErr r (VerifyingFails accepts key box options reader status out)
      → IfErr r (VerifyingTextsFails accepts pk sig options reader status out)
  fails_with (Ok x) h = tt
  fails_with (Err e) h = inr (key, box, read, h)

module _ {R W O : Type 0} (accepts : Verifier) (key : PublicKeyRecord) (box : SignatureBoxRecord)
    (options : VerifyOptions)
    (reader : RereaderCall R) (status : SinkCall W) (out : SinkCall O) where
  -- If the unread bytes are known, the message is these bytes.
  the_message : (m message : List ℕ) → reader.source.ahead reader.old ≡ Some message
      → KnownBytesAre (reader.source.ahead reader.old) m → m ≡ message
  the_message m _ known_data given = let same =
      rw known_data at given in sym same

  module _ (message : List ℕ) (known_data : reader.source.ahead reader.old ≡ Some message)
      (no_new_fault : ¬ (SourceFails reader)) (status_no_new_fault : ¬ (SinkFails status))
      (out_no_new_fault : ¬ (SinkFails out)) (again : options.output ≡ true → IsSteady reader) where
    -- If no device fails, each reason for which verification fails is the error of judge, or memory ran out.
    refused_for : (e : Fault) → IsReason accepts key box options.quiet options.output options.allow_legacy
        reader status out e
        → IsValueOrNoMemory {V = ⊤} (Err e) (judge accepts key box message options.allow_legacy)
    refused_for e (inl is) = inr (ap Err is)
    refused_for e (inr (inl (_, rose))) = absurd (no_new_fault rose)
    refused_for e (inr (inr (inl failed))) = absurd (no_new_fault failed.rose)
    refused_for e (inr (inr (inr (inl (m, given, down))))) =
        inl (sym (rw (the_message m message known_data given) at down))
    refused_for e (inr (inr (inr (inr (inl (_, rose)))))) = absurd (status_no_new_fault rose)
    refused_for e (inr (inr (inr (inr (inr (inl (_, rose))))))) = absurd (out_no_new_fault rose)
    refused_for e (inr (inr (inr (inr (inr (inr (is_requested, (m, given, other)))))))) =
        let same = rw known_data at (other.second_is_data (again is_requested)) in
        absurd (other.changed (ap (blake2b_digest 64) (same ∙ sym (the_message m _ known_data given))))

  -- If no device fails, the result is that of the function judge.
  pub judged_exactly : (r : Result ⊤ Fault)
      → OnOk r (VerifyingSucceeds accepts key box options reader status out)
      → IfErr r (VerifyingFails accepts key box options reader status out)
      → IfNothingFails options.output reader status out r
      (λ message. judge accepts key box message options.allow_legacy)
  judged_exactly (Ok u) ok _ _ known_data _ _ _ _ =
      inl (sym (vouches_judged _ _ _ _ _ (rw (the_message _ _ known_data ok.known_bytes) at ok.vouches)))
  judged_exactly (Err e) _ err message known_data no_new_fault status_no_new_fault out_no_new_fault again =
      refused_for message known_data no_new_fault status_no_new_fault out_no_new_fault again e
      (why_it_fails accepts key box options.quiet options.output options.allow_legacy reader status out e err)

  -- If no device fails and an error is passed on, the result is that of the function judge.
  pub refused_exactly : (r : Result ⊤ Fault) (e : Fault) → IsErrAnd r (λ y. y ≡ e)
      → IfErr r (VerifyingFails accepts key box options reader status out)
      → IfNothingFails options.output reader status out r
      (λ message. judge accepts key box message options.allow_legacy)
  refused_exactly (Ok u) e is _ = absurd is
  refused_exactly (Err y) e _ err = judged_exactly (Err y) tt err

-- The comment is the trusted comment of the signature text.
abbrev IsCommentOf : List ℕ → List ℕ → Type 0
IsCommentOf sig comment = map_ok trusted_of (read_signature sig) ≡ Ok comment

-- A sink that no stage uses.
abbrev pub silent : {O : Type 0} → O → O → SinkCall O
silent old new = record {
  sink = record { taken = λ _. None; flushed = λ _. None; sink_faults = λ _. 0 };
  old = old;
  new = new;
}

-- A source may say which bytes are unread (`Some`), or may not say it (`None`). In both cases there is a
-- message that agrees with what it says.
some_ahead : (known : Option (List ℕ)) → (message : List ℕ) × KnownBytesAre known message
some_ahead None = ([], tt)
some_ahead (Some xs) = (xs, refl)

-- The three kinds of error that are possible if nothing is reported or copied: out of memory, a failed
-- source, or the error of the verdict.
abbrev IsQuietFault : {R : Type 0} → Verifier → List ℕ → List ℕ → RereaderCall R → Fault → Type 0
IsQuietFault accepts pk sig reader e = (e ≡ Named OutOfMemory)
    ⊎ HasFailed ReadingFailed reader.source.faults reader.old reader.new e
    ⊎ ((message : List ℕ) × KnownBytesAre (reader.source.ahead reader.old) message
    × (verdict accepts pk sig message false ≡ Err e))

module _ {R W O : Type 0} (accepts : Verifier) (pk sig : List ℕ) (reader : RereaderCall R)
    (status : SinkCall W) (out : SinkCall O)
    (key : PublicKeyRecord) (box : SignatureBoxRecord) (e : Fault) (read : read_texts pk sig ≡ Ok (key, box))
  where
    -- Each reason for which verification fails is one of these three kinds, if nothing is reported or copied.
    ahead_reason : IsReason accepts key box true false false reader status out e
        → IsQuietFault accepts pk sig reader e
    ahead_reason (inl memory) = inl memory
    ahead_reason (inr (inl (is_requested, _))) = absurd (true≢false (sym is_requested))
    ahead_reason (inr (inr (inl failed))) = inr (inl failed)
    ahead_reason (inr (inr (inr (inl (message, given, down))))) =
        inr (inr (message, given, judged_verdict _ _ _ _ _ _ _ read _ down))
    ahead_reason (inr (inr (inr (inr (inl (loud, _)))))) = absurd (true≢false loud)
    ahead_reason (inr (inr (inr (inr (inr (inl (is_requested, _))))))) = absurd (true≢false
        (sym is_requested))
    ahead_reason (inr (inr (inr (inr (inr (inr (is_requested, _))))))) = absurd (true≢false
        (sym is_requested))

-- The result of verifying data in an opened file is the verdict on a message that agrees with what is known
-- of the unread bytes, or an error of reading the file, or memory ran out.
pub file_verdict : {T R : Type 0} (bytes : T → List ℕ) (accepts : Verifier) (pk sig : List ℕ)
    (reader : RereaderCall R) (r : Result T Fault)
    → IfOk r (λ t. (message : List ℕ) × ReadsWhole reader.source reader.old reader.new message
    × TextsVouchWith accepts pk sig message false (bytes t))
    → IfErr r (IsQuietFault accepts pk sig reader)
    → (message : List ℕ) × IsReadFromFile (λ sig. verdict accepts pk sig message false) (map_ok bytes r)
file_verdict _ _ _ sig _ (Ok t) (message, _, vouched) _ =
    (message, inl (sig, sym (vouched_verdict _ _ _ _ _ _ vouched)))
file_verdict _ _ _ sig _ (Err e) _ refused =
    ⊎_elim (λ memory. ([], inr (inl memory)))
    (λ more. ⊎_elim (λ failed. ([], inr (inr (inl failed.fault))))
    (λ (message, given, why). (message, inl (sig, sym why))) more) refused

-- If the copy is equal to the message whenever the unread bytes are known, it is equal to the known bytes.
same_ahead : (known : Option (List ℕ)) (message copy : List ℕ) → KnownBytesAre known message
    → (IsSome known → copy ≡ message) → IfSome known (λ xs. copy ≡ xs)
same_ahead None _ _ _ _ = tt
same_ahead (Some _) _ _ given same = same refl ∙ sym given

-- If legacy signatures are rejected, a valid box is prehashed.
prehashed : (accepts : Verifier) (key : PublicKeyRecord) (box : SignatureBoxRecord) (message : List ℕ)
    → Vouches accepts key box message false → is_prehashed box.signature ≡ true
prehashed _ _ box _ vouches =
    ⊎_elim (bytes_eq-Decides box.signature.algorithm prehashed_algorithm).1
    (λ legacy. absurd (true≢false (sym legacy))) vouches.allowed

-- The consequences of quiet verification for two texts.
module _ {R W O : Type 0} (accepts : Verifier) (pk sig : List ℕ) (reader : RereaderCall R)
    (status : SinkCall W) (out : SinkCall O) where
  -- If quiet verification succeeds, all data that was unread before the call was read, the signature is valid
  -- for it, and the returned bytes are the trusted comment.
  pub ahead_vouched : {T : Type 0} (bytes : T → List ℕ) (r : Result T Fault)
      → OnOk r (VerifyingTextsSucceeds accepts pk sig (options_of true false false) reader status out)
      → IfOk r (λ t. IsCommentOf sig (bytes t))
      → IfOk r (λ t. (message : List ℕ) × ReadsWhole reader.source reader.old reader.new message
      × TextsVouchWith accepts pk sig message false (bytes t))
  ahead_vouched bytes (Ok t) ok said = (
    ok.verified.message,
    record {
      known_bytes = ok.verified.known_bytes;
      end = ok.verified.end;
      mark = ok.verified.mark refl;
      no_new_fault = ok.verified.no_new_fault;
    },
    signed_comment _ _ _ _ _ _ (both_vouch _ _ _ ok ok.verified.vouches) said,
  )
  ahead_vouched _ (Err e) _ _ = tt

  -- An error is one of the three kinds of IsQuietFault.
  pub ahead_refused : {T : Type 0} (r : Result T Fault)
      → IfErr r (VerifyingTextsFails accepts pk sig (options_of true false false) reader status out)
      → IfErr r (IsQuietFault accepts pk sig reader)
  ahead_refused (Ok t) _ = tt
  ahead_refused (Err e) (inl (why, _, _, _)) =
      let (message, ahead) = some_ahead (reader.source.ahead reader.old) in
      ⊎_elim (λ is. inr (inr (message, ahead, sym is))) (λ memory. inl (cc memory))
      (text_refused accepts pk sig message false e why)
  ahead_refused (Err e) (inr (key, box, read, h)) =
      ahead_reason accepts pk sig reader status out key box e read
      (why_it_fails accepts key box true false false reader status out e h)

  -- Verification that fails does so at a stage that uses neither sink.
  pub reader_refused : {T : Type 0} (r : Result T Fault)
      → IfErr r (VerifyingTextsFails accepts pk sig (options_of true false false) reader status out)
      → IfErr r (VerifyingTextsFails accepts pk sig (options_of true false false) reader no_sink no_sink)
  reader_refused r = IfErr-weaker r _ _ (λ e. ⊎_elim
      (λ (why, unread, unsaid, uncopied). inl (why, unread, refl, refl)) (λ (key, box, read, h). inr (
        key,
        box,
        read,
        fails_without_sinks accepts key box false reader status out e h,
      )))

  -- If quiet verification with an output succeeds, the signature is valid for the copy, and the returned
  -- bytes are the trusted comment.
  pub copied_with : {T : Type 0} (bytes : T → List ℕ) (r : Result T Fault)
      → OnOk r (VerifyingTextsSucceeds accepts pk sig (options_of true true false) reader status out)
      → IfOk r (λ t. IsCommentOf sig (bytes t))
      → IfOk r (λ t. CopyIsVouchedWith accepts pk sig reader out (bytes t))
  copied_with bytes (Ok t) ok said =
      let copied = ok.verified.copied refl in
      record {
        copy = copied.copy;
        copy_received = copied.received;
        flushed = copied.flushed;
        message = ok.verified.message;
        read_twice = copied.read_twice (prehashed _ _ _ _ ok.verified.vouches);
        vouched = signed_comment _ _ _ _ _ _ (both_vouch _ _ _ ok copied.vouched) said;
        copy_is_data = λ steady. same_ahead (reader.source.ahead reader.old) ok.verified.message copied.copy
            ok.verified.known_bytes (copied.steady_same steady);
      }
  copied_with _ (Err e) _ _ = tt

  -- A quiet call that copies does not use the status sink when it fails.
  pub copy_refused : {T : Type 0} (r : Result T Fault)
      → IfErr r (VerifyingTextsFails accepts pk sig (options_of true true false) reader status out)
      → IfErr r (VerifyingTextsFails accepts pk sig (options_of true true false) reader no_sink out)
  copy_refused r = IfErr-weaker r _ _ (λ e. ⊎_elim
      (λ (why, unread, unsaid, uncopied). inl (why, unread, refl, uncopied)) (λ (key, box, read, h). inr (
        key,
        box,
        read,
        fails_without_status accepts key box false reader status out e true h,
      )))
