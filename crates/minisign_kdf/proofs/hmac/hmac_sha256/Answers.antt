-- Proves the goal of `hmac_sha256` that the prover leaves open.
use Rattle.std.proofs.Common.{◌≡◌, ℕ, List, ◌++◌, map, take, bit_xor, ap, ◌∙◌, arith}
use Rattle.std.proofs.lemmas.List.{take_all}
use Rattle.std.specs.List.{flat_map}
use Rattle.sha2.specs.Sha256.{sha256}
use Rattle.minisign_kdf.specs.Hmac.{hmac, key_block}
use Rattle.minisign_kdf.proofs.hmac.hmac_sha256.Goals as goal

pub returns : goal.returns
unfolding hmac
returns c =
    let padded_key : ℕ → List ℕ = λ pad. map (λ b. bit_xor b pad) (key_block c.args.key.now) in
    let text : List ℕ = flat_map (λ part. part.now) c.args.parts.now in
    let all : take c.parts.part-index c.args.parts.now
    ≡ c.args.parts.now = take_all c.parts.part-index c.args.parts.now (omega arith) in
    let ipad : map (λ b. bit_xor b 0x36) c.key_block-block.result
    ≡ padded_key 0x36 = ap (map (λ (b : ℕ). bit_xor b 0x36)) c.key_block-block.ensures in
    let opad : c.xor_pad-2.result ≡ padded_key 0x5c = c.xor_pad-2.ensures
    ∙ ap (map (λ (b : ℕ). bit_xor b 0x5c)) c.key_block-block.ensures in
    let inner : c.finalize-digest.result ≡ sha256 (padded_key 0x36 ++ text) =
    c.finalize-digest.ensures _ c.parts.invariant
    ∙ (λ t. sha256 (ipad t ++ flat_map (λ part. part.now) (all t))) in
    c.finalize.ensures _ (c.update-3.ensures _ (c.update-2.ensures _ c.new-outer.ensures))
    ∙ (λ t. sha256 (opad t ++ inner t))
