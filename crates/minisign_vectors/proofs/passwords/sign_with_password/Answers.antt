-- Proves the goal of `sign_with_password` that the prover leaves open.
use Rattle.std.proofs.Common.{◌≡◌, ◌⊎◌, ◌∙◌, ℕ, true, false, List, None, string_bytes, inl, inr, subst, sym}
use Rattle.std.specs.declared.result.Result.TheVariants.{Ok}
use Rattle.std.proofs.lemmas.Result.{IfOk-weaker}
use Rattle.minisign.specs.Signing.{SigningHeadline}
use Rattle.minisign.specs.Sealing.{IsOpenedOrNoMemory, is_sealed_text, key_with_password, open_key}
use Rattle.minisign.specs.Sealing.{read_unencrypted_key}
use Rattle.minisign.specs.Reading.{KnownBytesAre}
use Rattle.minisign.specs.Records.{SecretKeyRecord}
use Rattle.minisign_vectors.proofs.passwords.sign_with_password.Goals as goal

same_read : (text : List ℕ) (sk key : SecretKeyRecord) → IsOpenedOrNoMemory text None (Ok sk) (Ok key)
    → sk ≡ key
same_read text sk key (inl same) = cc same
same_read text sk key (inr memory) = cc memory.0

-- If the text gives a key under the password, this key is the one that signed. The hypothesis about
-- sk is `GivesKey` for a given password.
same_key : {P : Type 0} (old new : P) (text password : List ℕ) (sk key : SecretKeyRecord)
    → ((is_sealed_text text ≡ true)
    × ((new ≡ old) × IsOpenedOrNoMemory text None (Ok sk) (open_key text password None)))
    ⊎ ((is_sealed_text text ≡ false) × (new ≡ old) × (Ok sk ≡ read_unencrypted_key text))
    → key_with_password text password ≡ Ok key → sk ≡ key
same_key old new text password sk key (inl (sealed, (same, h))) opens =
    same_read text sk key (subst (IsOpenedOrNoMemory text None (Ok sk)) (rw sealed at opens) h)
same_key old new text password sk key (inr (plain, same, h)) opens =
    same_read text sk key (inl (h ∙ rw plain at opens))

pub returns : goal.returns
returns g c = λ key opened.
    IfOk-weaker c.sign_texts.result _ _
    (λ t (sk, given, (message, read, (signed, headline))).
    let same = subst (λ known. KnownBytesAre known message) c.new.ensures.ahead read.known_bytes in
    let this = same_key _ _ c.args.sk_text.now (string_bytes c.args.password) sk key given opened in
    subst (λ k. SigningHeadline (g.S.Scheme.accepts c.args.scheme.now)
    (g.S.Scheme.public_of c.args.scheme.now) k c.args.message.now _ _) this
    (subst (λ m. SigningHeadline (g.S.Scheme.accepts c.args.scheme.now)
    (g.S.Scheme.public_of c.args.scheme.now) sk m _ _) (sym same) headline))
    c.sign_texts.ensures.signed
