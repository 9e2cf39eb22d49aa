-- Lemmas about verdicts: the functions judge and verdict agree with the records of conditions, and some parts
-- of keys and signatures do not change a verdict.
use Rattle.std.proofs.Common.{◌≡◌, ◌↔◌, ◌||◌, ℕ, Bool, true, false, List, length, refl, sym, ap, subst, ◌∙◌}
use Rattle.std.proofs.Common.{inl, inr, ⊎_elim, [], Option, None, Some, take, min, nat_le, arith}
use Rattle.std.proofs.Common.{Result, Ok, Err, length-take, option_map}
use Rattle.minisign.proofs.Common.{⊤, option_map_or, or_cases, or_left, or_right, bytes_eq-Decides}
use Rattle.minisign.proofs.Common.{Fault, NamedFault, nat_tests}
use Rattle.minisign.specs.Acceptance.{Verifier, Vouches, accepts_comments, judge}
use Rattle.minisign.specs.Acceptance.{judge_answers, judge_key, signed_bytes, judged_parts}
use Rattle.minisign.specs.Headline.{TextsVouchWith, TextsVouchFor, verdict}
use Rattle.minisign.specs.KeyTexts.{read_public_key}
use Rattle.minisign.specs.Records.{CommentsRecord, PublicKeyRecord, SignatureBoxRecord, SignatureRecord}
use Rattle.minisign.specs.Records.{is_prehashed, prehashed_algorithm}
use Rattle.minisign.specs.SignatureText.{SignatureTextRecord, box_of, read_signature, read_signature_box}
use Rattle.minisign.specs.Texts.{IsValueOrNoMemory, IsReading, and_then, map_ok, require}
use Rattle.minisign.specs.Verifying.{read_texts}
use Rattle.minisign.proofs.ReadTexts.{passed, read_before, read_value}

-- == Parsing in two steps ==

-- If map_ok gives a value, its argument is a value that f maps to it.
pub value_before_map : {V W : Type 0} (f : V → W) (r : Result V Fault) (w : W) → map_ok f r ≡ Ok w
    → (v : V) × (r ≡ Ok v) × (f v ≡ w)
value_before_map f (Ok v) w h = (v, refl, cc h)
value_before_map f (Err e) w h = cc h

-- If map_ok gives an error, its argument is this error.
pub error_before_map : {V W : Type 0} (f : V → W) (r : Result V Fault) (e : Fault) → Err e ≡ map_ok f r
    → r ≡ Err e
error_before_map f (Ok v) e h = cc h
error_before_map f (Err d) e h = cc h

-- == The function judge ==

-- These bytes are those that the signature signs, if such a signature is allowed.
abbrev pub AreSigned : List ℕ → SignatureBoxRecord → Bool → List ℕ → Type 0
AreSigned bytes x legacy message = (is_prehashed x.signature || legacy) ≡ true
    → bytes ≡ signed_bytes x message

-- Two results after the same two checks agree if they agree when the second check holds.
judged_alike : (same allowed : Bool) (other unallowed : NamedFault) (a b : Result ⊤ Fault)
    → (allowed ≡ true → a ≡ b)
    → and_then {V = ⊤} (require same other (require allowed unallowed (Ok tt))) (λ _. a)
    ≡ and_then {V = ⊤} (require same other (require allowed unallowed (Ok tt))) (λ _. b)
judged_alike true true _ _ a b equal = equal refl
judged_alike true false _ _ a b _ = refl
judged_alike false _ _ _ a b _ = refl

module _ (accepts : Verifier) (pk : PublicKeyRecord) (x : SignatureBoxRecord) (message : List ℕ)
    (legacy : Bool) where
  pub judged_vouches : (u : ⊤) → judge accepts pk x message legacy ≡ Ok u
      → Vouches accepts pk x message legacy
  judged_vouches u h =
      let (v, keys, answers) = read_before _ _ u h in
      let (same, more) = passed _ _ _ _ keys in
      let (allowed, rest) = passed _ _ _ _ more in
      let (signed, others) = passed _ _ _ _ answers in
      let (comments, end) = passed _ _ _ _ others in
      record {
        same_key = (bytes_eq-Decides _ _).0 same;
        allowed = ⊎_elim (λ hashed. inl ((bytes_eq-Decides _ _).0 hashed)) inr (or_cases _ _ allowed);
        signed = signed;
        comment_signed = comments;
      }

  pub vouches_judged : Vouches accepts pk x message legacy → judge accepts pk x message legacy ≡ Ok tt
  vouches_judged v =
      let same = (bytes_eq-Decides _ _).1 v.same_key in
      let allowed =
      ⊎_elim (λ hashed. or_left _ _ ((bytes_eq-Decides _ prehashed_algorithm).1 hashed))
      (or_right (is_prehashed x.signature) legacy) v.allowed in
      rw (same, allowed, v.signed, v.comment_signed) refl

  -- The function judge accepts a box exactly if Vouches holds.
  pub judge_decided : (judge accepts pk x message legacy ≡ Ok tt) ↔ Vouches accepts pk x message legacy
  judge_decided = (judged_vouches tt, vouches_judged)

  -- A box that is accepted by a check that may also run out of memory is valid.
  pub judged_or_not : (u : ⊤) → IsValueOrNoMemory (Ok u) (judge accepts pk x message legacy)
      → Vouches accepts pk x message legacy
  judged_or_not u judged = judged_vouches u (read_value u _ judged)

  -- Checking the bytes that an allowed signature signs has the same result as checking the message.
  pub judged_held : (bytes : List ℕ) → AreSigned bytes x legacy message → (r : Result ⊤ Fault)
      → IsValueOrNoMemory r (and_then (judge_key pk.keynum x.signature legacy)
      (λ _. judge_answers (accepts bytes pk.key x.signature.signature) (accepts_comments accepts pk x)))
      → IsValueOrNoMemory r (judge accepts pk x message legacy)
  judged_held _ held r =
      subst (IsValueOrNoMemory r)
      (judged_alike _ _ _ _ _ _ (λ allowed. ap (λ b. judge_answers (accepts b pk.key x.signature.signature)
      (accepts_comments accepts pk x)) (held allowed)))

-- map_ok does not change an error.
pub kept_refusal : {V W : Type 0} (f : V → W) (e : Fault) (r : Result V Fault) → IsValueOrNoMemory (Err e) r
    → IsValueOrNoMemory (Err e) (map_ok f r)
kept_refusal f e r (inl is) = inl (ap (map_ok f) is)
kept_refusal f e r (inr memory) = inr (cc memory)

-- == Parsing two texts ==

read_both : (pk_text sig_text : List ℕ) (key : PublicKeyRecord) (box : SignatureBoxRecord)
    → read_public_key pk_text ≡ Ok key → read_signature_box sig_text ≡ Ok box
    → read_texts pk_text sig_text ≡ Ok (key, box)
read_both _ sig_text key _ key_read box_read =
    ap (λ k. and_then k (λ key. map_ok (λ x. (key, x)) (read_signature_box sig_text))) key_read
    ∙ ap (map_ok (λ x. (key, x))) box_read

-- If two texts parse to a key and a box, each text parses.
pub both_read : (pk_text sig_text : List ℕ) (key : PublicKeyRecord) (box : SignatureBoxRecord)
    → read_texts pk_text sig_text ≡ Ok (key, box)
    → (read_public_key pk_text ≡ Ok key) × (read_signature_box sig_text ≡ Ok box)
both_read _ _ _ _ read =
    let (k, key_read, more) = read_before _ _ _ read in
    let (x, box_read, same) = value_before_map _ _ _ more in (
      key_read ∙ ap (λ both. Ok both.0) same,
      box_read
          ∙ ap (λ both. Ok both.1) same,
    )

-- The trusted comment of a text, and of a box.
abbrev pub trusted_of : SignatureTextRecord → List ℕ
trusted_of t = t.comments.trusted

abbrev comment_of : SignatureBoxRecord → List ℕ
comment_of x = option_map_or (λ c. c.trusted) x.comments []

-- == The verdict ==

module _ (accepts : Verifier) (pk_text sig_text message : List ℕ) (legacy : Bool) where
  abbrev answer : Result (List ℕ) Fault
  answer = verdict accepts pk_text sig_text message legacy

  -- The verdict if both texts parse.
  pub read_verdict : (key : PublicKeyRecord) (t : SignatureTextRecord) → read_public_key pk_text ≡ Ok key
      → read_signature sig_text ≡ Ok t
      → (r : Result ⊤ Fault) → r ≡ judge accepts key (box_of t) message legacy
      → answer ≡ and_then r (λ _. Ok t.comments.trusted)
  unfolding verdict
  read_verdict _ t key_read signature_read r judged =
      rw (key_read, signature_read) (ap (λ r. and_then r (λ _. Ok t.comments.trusted)) (sym judged))

  pub key_refused : (e : Fault) → read_public_key pk_text ≡ Err e → answer ≡ Err e
  unfolding verdict
  key_refused e refused = rw refused refl

  pub signature_refused : (key : PublicKeyRecord) (e : Fault) → read_public_key pk_text ≡ Ok key
      → read_signature sig_text ≡ Err e → answer ≡ Err e
  unfolding verdict
  signature_refused _ e read refused = rw (read, refused) refl

  -- The verdict if the texts parse to this key and this box.
  abbrev left : PublicKeyRecord × SignatureBoxRecord → Result (List ℕ) Fault
  left both = and_then (judge accepts both.0 both.1 message legacy) (λ _. Ok (comment_of both.1))

  in_parts : (k : Result PublicKeyRecord Fault) (s : Result SignatureTextRecord Fault)
      → and_then k (λ key. and_then s
      (λ t. and_then (judge accepts key (box_of t) message legacy) (λ _. Ok t.comments.trusted)))
      ≡ and_then (and_then k (λ key. map_ok (λ box. (key, box)) (map_ok box_of s))) left
  in_parts (Ok _) (Ok t) = refl
  in_parts (Ok _) (Err e) = refl
  in_parts (Err e) s = refl

  -- The verdict is a function of what both texts parse to.
  of_texts : (r : Result (PublicKeyRecord × SignatureBoxRecord) Fault) → read_texts pk_text sig_text ≡ r
      → answer ≡ and_then r left
  unfolding verdict
  of_texts r read = in_parts (read_public_key pk_text) (read_signature sig_text)
      ∙ ap (λ r. and_then r left) read

  -- If an error is that of parsing the texts or out of memory, it is the error of the verdict or out of
  -- memory.
  pub text_refused : (e : Fault) → IsValueOrNoMemory (Err e) (read_texts pk_text sig_text)
      → IsValueOrNoMemory (Err e) answer
  text_refused e (inl refused) = inl (sym (of_texts _ (sym refused)))
  text_refused e (inr memory) = inr (cc memory)

  module _ (key : PublicKeyRecord) (box : SignatureBoxRecord)
      (read : read_texts pk_text sig_text ≡ Ok (key, box)) where
    -- If both texts parse, the verdict is the result of checking the box, with its trusted comment.
    pub judged_verdict : (r : Result ⊤ Fault) → judge accepts key box message legacy ≡ r
        → answer ≡ and_then r (λ _. Ok (comment_of box))
    judged_verdict r judged = of_texts _ read ∙ ap (λ r. and_then r (λ _. Ok (comment_of box))) judged

    without_comment : (r : Result ⊤ Fault) → map_ok (λ _. tt) (and_then r (λ _. Ok (comment_of box))) ≡ r
    without_comment (Ok u) = refl
    without_comment (Err e) = refl

    pub verdict_without_comment : (r : Result ⊤ Fault)
        → IsValueOrNoMemory r (judge accepts key box message legacy)
        → IsValueOrNoMemory r (map_ok (λ _. tt) answer)
    verdict_without_comment r (inl judged) = inl (sym (ap (map_ok (λ _. tt)) (judged_verdict r (sym judged))
        ∙ without_comment r))
    verdict_without_comment r (inr memory) = inr memory

    pub verdict_of_success : (comment : List ℕ) → map_ok trusted_of (read_signature sig_text) ≡ Ok comment
        → (u : ⊤)
        → IsValueOrNoMemory (Ok u) (judge accepts key box message legacy)
        → IsValueOrNoMemory (Ok comment) answer
    verdict_of_success comment said u judged =
        let (t, signature_read, same) = value_before_map _ _ _ (both_read _ _ _ box read).1 in
        let same_comment : t.comments.trusted ≡ comment = let is = sym (ap (map_ok trusted_of) signature_read)
        ∙ said in cc is in
        inl (sym (judged_verdict (Ok u) (read_value u _ judged) ∙ ap Ok (ap comment_of (sym same)
        ∙ same_comment)))

    pub verdict_of_error : (e : Fault) → IsValueOrNoMemory {V = ⊤} (Err e) (judge accepts key box message
        legacy)
        → IsValueOrNoMemory (Err e) answer
    verdict_of_error e (inl judged) = inl (sym (judged_verdict _ (sym judged)))
    verdict_of_error e (inr memory) = inr (cc memory)

  -- The verdict on valid texts is the comment of the box.
  pub vouching_verdict : (v : TextsVouchFor accepts pk_text sig_text message legacy)
      → answer ≡ Ok (comment_of v.box)
  vouching_verdict v =
      judged_verdict v.key v.box (read_both pk_text sig_text v.key v.box v.key_read v.box_read) _
      (vouches_judged _ _ _ _ _ v.vouches)

  pub vouched : (comment : List ℕ) → answer ≡ Ok comment
      → TextsVouchWith accepts pk_text sig_text message legacy comment
  unfolding verdict
  vouched comment h =
      let (key, key_read, more) = read_before _ _ _ h in
      let (signed, signed_read, rest) = read_before _ _ _ more in
      let (u, judged, said) = read_before _ _ _ rest in
      record {
        vouched = record {
          key = key;
          box = box_of signed;
          key_read = key_read;
          box_read = ap (map_ok box_of) signed_read;
          vouches = judged_vouches _ _ _ _ _ u judged;
        };
        comments = signed.comments;
        has_comments = refl;
        trusted = cc said;
      }

  pub vouched_verdict : (comment : List ℕ) → TextsVouchWith accepts pk_text sig_text message legacy comment
      → answer ≡ Ok comment
  vouched_verdict _ v = vouching_verdict v.vouched
      ∙ ap Ok (ap (λ c. option_map_or (λ c. c.trusted) c []) v.has_comments ∙ v.trusted)

  -- The function verdict agrees with the record TextsVouchWith.
  pub verdict_decided : IsReading (TextsVouchWith accepts pk_text sig_text message legacy) answer
  verdict_decided = record { value = λ comment. (vouched _, vouched_verdict _) }

  -- If the texts are valid for the message, the trusted comment of the text is signed with it.
  pub signed_comment : (comment : List ℕ) → TextsVouchFor accepts pk_text sig_text message legacy
      → map_ok trusted_of (read_signature sig_text) ≡ Ok comment
      → TextsVouchWith accepts pk_text sig_text message legacy comment
  signed_comment comment v said =
      let (t, signature_read, same) = value_before_map _ _ _ v.box_read in
      record {
        vouched = v;
        comments = t.comments;
        has_comments = ap (λ x. x.comments) (sym same);
        trusted = let same_comment = sym (ap (map_ok trusted_of) signature_read) ∙ said in cc same_comment;
      }

-- If two numbers have the same minimum with 64, either both are at least 64 or neither is.
at_least : (m n : ℕ) → min 64 n ≡ min 64 m → nat_le 64 n ≡ nat_le 64 m
at_least m n same = grind (arith, nat_tests)

-- If two lists have the same first 64 bytes, either both have at least 64 bytes or neither has.
long_enough : (a b : List ℕ) → take 64 b ≡ take 64 a → nat_le 64 (length b) ≡ nat_le 64 (length a)
long_enough a b same = let lengths = sym (length-take 64 b)
    ∙ ap length same ∙ length-take 64 a in at_least _ _ lengths

-- The parts of comments on which a verdict depends.
abbrev judged_comment : CommentsRecord → List ℕ × List ℕ
judged_comment c = (c.trusted, take 64 c.signature)

same_comments : (accepts : Verifier) (pk other : PublicKeyRecord) (s t : SignatureRecord)
    (c d : Option CommentsRecord)
    → other.key ≡ pk.key → t ≡ s → option_map judged_comment d ≡ option_map judged_comment c
    → accepts_comments accepts other (record { signature = t; comments = d }) ≡ accepts_comments accepts pk
    (record { signature = s; comments = c })
same_comments _ _ _ s t None None _ _ _ = refl
same_comments accepts pk other s t None (Some d) key signature same = cc same
same_comments accepts pk other s t (Some c) None key signature same = cc same
same_comments accepts pk other s t (Some c) (Some d) key signature same =
    let both : judged_comment d ≡ judged_comment c = cc same in
    let trusted = ap (λ p. p.0) both in
    let front = ap (λ (p : List ℕ × List ℕ). p.1) both in
    rw (signature, key, long_enough c.signature d.signature front, trusted, front) refl

abbrev Parts : Type 0
Parts = List ℕ × List ℕ × SignatureRecord × Option (List ℕ × List ℕ)

pub unvouched_same : (accepts : Verifier) (pk other : PublicKeyRecord) (x y : SignatureBoxRecord)
    (message : List ℕ) (legacy : Bool)
    → judged_parts other y ≡ judged_parts pk x → judge accepts other y message legacy
    ≡ judge accepts pk x message legacy
unvouched_same accepts pk other x y _ _ same =
    let keynum = ap (λ p. p.0) same in
    let key = ap (λ p. p.1) same in
    let signature = ap (λ p. p.2) same in
    rw (
      same_comments accepts pk other x.signature y.signature x.comments y.comments key signature
          (ap (λ (p : Parts). p.3) same),
      signature,
      keynum,
      key,
    ) refl
