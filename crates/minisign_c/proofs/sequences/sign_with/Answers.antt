-- Proves the goals of `sign_with` that the prover leaves open.
use Rattle.std.proofs.Common.{◌≡◌, ◌∙◌, ◌++◌, ◌&&◌, Bool, List, None, ap, arith, inl, inr, refl, subst}
use Rattle.std.proofs.Common.{true, false, ℕ}
use Rattle.minisign_external.specs.Signing.{HoldsSignatureFile, IsWritingRefusal, comments_of}
use Rattle.minisign_external.specs.Signing.{first_signature, joined}
use Rattle.minisign_external.specs.Signing.{second_signature}
use Rattle.minisign_external.specs.StrictCalls.{strict}
use Rattle.minisign_external.specs.StrictEd25519.{is_strict}
use Rattle.minisign_external.specs.declared.state.Misuse.TheVariants.{KeyNotOpened}
use Rattle.minisign_external.specs.declared.state.Refusal.TheVariants.{WrongUse}
use Rattle.minisign_c.proofs.sequences.sign_with.Goals as goal

both_hold : (a b : Bool) → a ≡ true → b ≡ true → (a && b) ≡ true
both_hold true b x y = y
both_hold false b x y = cc x

pub returns-clause-verifies : goal.returns-clause-verifies
returns-clause-verifies g c = λ none seed w pair public signs.
    let message = joined c.args.pieces.now in
    let public_key = g.S.Scheme.public_of c.args.scheme.now seed in
    let sign = g.S.Scheme.signature_of c.args.scheme.now in
    let secret = c.args.key.now.secret in
    let trusted = c.args.trusted.now in
    let first_is : c.sign_first-first.result ≡ first_signature sign secret message =
    c.sign_first-first.ensures.signed_by_scheme
    ∙ ap (λ (digest : List ℕ). sign digest secret None) c.digest_of-number.ensures.1 in
    let second_is : c.sign_second-number.new.second ≡ second_signature sign secret message trusted =
    c.sign_second-number.ensures.signed_by_scheme.1
    ∙ ap (λ (first : List ℕ). sign (first ++ trusted) secret None) first_is in
    let first_holds = both_hold _ _ (ap (is_strict public_key) first_is ∙ signs.0)
    (c.sign_first-first.ensures.accepted seed pair) in
    let second_holds = both_hold _ _ (ap (is_strict public_key) second_is ∙ signs.1)
    (c.sign_second-number.ensures.accepted seed pair) in
    let (opened, half, same_id) = c.public_half-number.ensures.success (omega arith) in
    let (read, holds) = c.minisign_signed_text.ensures.text none in
    let chosen = comments_of trusted c.args.untrusted.now in
    let holds_own = subst (λ (id : List ℕ). HoldsSignatureFile id chosen c.sign_first-first.result
    c.sign_second-number.new.second c.minisign_signed_text.new.text c.minisign_signed_text.new.text_len)
    same_id holds in
    c.results_decide_verdict.ensures.signed_file_verifies (strict (g.S.Scheme.accepts c.args.scheme.now))
    (g.S.Scheme.public_of c.args.scheme.now) seed c.args.key.now w pair opened public message _
    trusted c.args.untrusted.now _ _ _ _ c.digest_of-number.ensures.1 (omega arith) holds_own
    (first_holds, second_holds)

pub returns-clause-refused : goal.returns-clause-refused
returns-clause-refused g c = λ some.
    let message = joined c.args.pieces.now in
    let sign = g.S.Scheme.signature_of c.args.scheme.now in
    let secret = c.args.key.now.secret in
    let trusted = c.args.trusted.now in
    let chosen = comments_of trusted c.args.untrusted.now in
    let first_is : c.sign_first-first.result ≡ first_signature sign secret message =
    c.sign_first-first.ensures.signed_by_scheme
    ∙ ap (λ (digest : List ℕ). sign digest secret None) c.digest_of-number.ensures.1 in
    let second_is : c.sign_second-number.new.second ≡ second_signature sign secret message trusted =
    c.sign_second-number.ensures.signed_by_scheme.1
    ∙ ap (λ (first : List ℕ). sign (first ++ trusted) secret None) first_is in
    let (opened, half, same_id) = c.public_half-number.ensures.success (omega arith) in
    let (r, number, refused) = c.minisign_signed_text.ensures.refused some in (
      r,
      number,
      inr (
        c.public_half-number.new.public_key,
        half,
        subst (λ (first : List ℕ). IsWritingRefusal c.public_half-number.new.public_key chosen first
            (second_signature sign secret message trusted) c.args.text.now r) first_is
            (subst (λ (second : List ℕ). IsWritingRefusal c.public_half-number.new.public_key chosen
            c.sign_first-first.result second c.args.text.now r) second_is refused),
      ),
    )

pub returns-then-number-ne0-clause-refused : goal.returns-then-number-ne0-clause-refused
returns-then-number-ne0-clause-refused g c = λ some.
    let (number, closed) = c.public_half-number.ensures.refused some in
    (WrongUse KeyNotOpened, number, inl (refl, closed))
