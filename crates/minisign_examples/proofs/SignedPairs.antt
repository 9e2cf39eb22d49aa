-- A lemma about signing with the key of a genuine pair.
use Rattle.std.specs.Prelude.{ℕ, List, false, Result, Ok, Err, IfErr, IfOk, MatchResult}
use Rattle.std.proofs.Common.{◌≡◌, inl, inr, sym, ◌∙◌}
use Rattle.std.proofs.lemmas.Bool.{true≢false}
use Rattle.minisign.specs.Fault.{Fault}
use Rattle.minisign.specs.DeviceCalls.{RandomCall}
use Rattle.minisign.specs.Acceptance.{Verifier, Vouches}
use Rattle.minisign.specs.Generation.{IsGenuinePair}
use Rattle.minisign.specs.Signing.{SigningHeadline, BytesSigningFails, AreChosenReadBack, ChosenComments}
use Rattle.minisign.specs.Records.{PublicKeyRecord, SecretKeyRecord, SignatureBoxRecord}
use Rattle.minisign.specs.SignatureText.{read_signature_box}
use Rattle.minisign.proofs.Laws.{judged_vouches}
use Rattle.minisign_examples.specs.Releasing.{IsMemoryOrRandomFault}

-- Signing with the secret key of a genuine pair gives a text that is valid for the message under
-- the public key of the pair. The only errors are a failed allocation and a failing random source.
pub signed_by_pair : {T Z : Type 0} (bytes : T → List ℕ) (r : Result T Fault) (accepts : Verifier)
    (public_of : List ℕ → List ℕ) (pk : PublicKeyRecord) (sk : SecretKeyRecord)
    (message : List ℕ) (chosen : ChosenComments) (z : RandomCall Z) → IsGenuinePair public_of pk sk
    → AreChosenReadBack chosen
    → IfOk r (λ t. SigningHeadline accepts public_of sk message chosen (bytes t))
    → IfErr r (BytesSigningFails sk z)
    → MatchResult r (λ t. (x : SignatureBoxRecord) × (read_signature_box (bytes t) ≡ Ok x)
    × Vouches accepts pk x message false) IsMemoryOrRandomFault
signed_by_pair bytes (Ok t) accepts public_of pk sk message chosen z pair kept signed fails =
    let (x, read, each) = signed pair.seed pair.genuine kept.one_line in
    (x, read, judged_vouches accepts pk x message false tt (each pk false pair.key pair.keynum))
signed_by_pair bytes (Err e) accepts public_of pk sk message chosen z pair kept signed
    (inl (fault, sealed, undrawn)) =
    absurd (true≢false (sym sealed ∙ pair.genuine.opened))
signed_by_pair bytes (Err e) accepts public_of pk sk message chosen z pair kept signed
    (inr (opened, inl memory)) = inl memory.0
signed_by_pair bytes (Err e) accepts public_of pk sk message chosen z pair kept signed
    (inr (opened, inr draw)) = inr draw.fault
