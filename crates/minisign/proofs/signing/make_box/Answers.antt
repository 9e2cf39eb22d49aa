-- Proves the goal of `make_box` that the prover leaves open.
use Rattle.std.proofs.Common.{◌≡◌, ℕ, List, ◌++◌, length, string_bytes, arith, ap, ◌∙◌, rules}
use Rattle.minisign.proofs.Common.{common_steps}
use Rattle.minisign_base.specs.Scheme.{IsBytes}
use Rattle.minisign.specs.Signing.{ChosenComments}
use Rattle.minisign.proofs.SignedBoxes.{made_box, genuine_box}
use Rattle.minisign.proofs.signing.make_box.Goals as goal

pub returns-clause-signed : goal.returns-clause-signed
returns-clause-signed g c = λ message same_digest.
    let sign = g.S.Scheme.signature_of c.args.scheme.now in
    let trusted : List ℕ = string_bytes c.args.trusted_comment in
    let chosen : ChosenComments = record
    { trusted = trusted; untrusted = string_bytes c.args.untrusted_comment } in
    let keynum = ap (λ k. k.keynum) c.sk.view_is in
    let secret : c.sk.inside.keynum_sk.sk ≡ c.args.sk.now.secret = ap (λ k. k.secret) c.sk.view_is in
    let signature = rw (same_digest, secret) at c.signature-sig.ensures in
    let signed : c.deref.result.now ≡ c.signature-sig.result ++ trusted =
    c.deref.ensures.value ∙ c.in_ok-signed.ensures.bytes ∙ ap (λ t. c.signature-sig.result ++ t)
    c.as_str.ensures.value in
    let global = c.in_ok-from_slice.ensures.items ∙ rw (signed, secret) at c.signature-global_sig.ensures in
    let digest_bytes : IsBytes c.args.digest.now = search rules in
    let signed_bytes : IsBytes (c.signature-sig.result ++ trusted) = rw (← signed, c.deref.ensures.value)
    c.in_ok-signed.ensures.are_bytes in
    let long : length c.in_ok-from_slice.field-0.items ≡ 64 = grind (arith, common_steps) in (
      record {
        first = c.in_ok-first.first;
        second = c.in_ok-first.second;
        first_random = c.in_ok-first.ensures.first;
        second_random = c.in_ok-first.ensures.second;
        drawn = c.in_ok-first.ensures.drawn;
        box = made_box sign c.args.sk.now message chosen c.in_ok-first.first c.in_ok-first.second
            c.sk.inside.keynum_sk.keynum c.signature-sig.result c.in_ok-from_slice.field-0.items
            keynum signature global;
      },
      genuine_box (g.S.Scheme.accepts c.args.scheme.now) sign (g.S.Scheme.public_of c.args.scheme.now)
          (g.met.S.Scheme.accepts_own c.args.scheme.now) c.args.sk.now message chosen
          c.in_ok-first.first c.in_ok-first.second c.sk.inside.keynum_sk.keynum c.signature-sig.result
          c.in_ok-from_slice.field-0.items
          keynum signature global (rw same_digest at digest_bytes) signed_bytes
          c.in_ok-first.ensures.first c.in_ok-first.ensures.second long,
    )
