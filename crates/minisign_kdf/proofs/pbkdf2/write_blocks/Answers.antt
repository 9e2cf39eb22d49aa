-- Proves the goals of `write_blocks` that the prover leaves open.
use Rattle.std.proofs.Common.{◌≡◌, ℕ, ◌+◌, ◌*◌, ◌++◌, sym, ap, ◌∙◌, arith}
use Rattle.std.proofs.lemmas.List.{take_all}
use Rattle.minisign_kdf.specs.Blocks.{joined_lists}
use Rattle.std.specs.Int.{w32, to_be_bytes}
use Rattle.minisign_kdf.specs.Hmac.{hmac}
use Rattle.minisign_kdf.proofs.Joined.{joined_lists_none}
use Rattle.minisign_kdf.proofs.Parts.{appended_next}
use Rattle.minisign_kdf.proofs.pbkdf2.write_blocks.Goals as goal

pub whole-init : goal.whole-init
whole-init c = sym (joined_lists_none _)

pub whole-preserved : goal.whole-preserved
whole-preserved c =
    appended_next (λ (j : ℕ). hmac c.args.password.now (c.args.salt.now ++ to_be_bytes w32 (j + 1))) 32
    c.whole.i _ c.whole.out _ c.whole.invariant
    (c.copy_from_slice.ensures.after ∙ c.derived_block.ensures) (omega arith) (omega arith)

pub returns : goal.returns
returns c =
    let e : c.whole.i ≡ c.args.count = omega arith in
    sym (take_all (32 * c.whole.i) c.whole.out (omega arith)) ∙ c.whole.invariant ∙ ap
    (joined_lists (λ (j : ℕ). hmac c.args.password.now (c.args.salt.now ++ to_be_bytes w32 (j + 1)))) e
