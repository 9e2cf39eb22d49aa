-- Proves the goal of `joined` that the prover leaves open.
use Rattle.std.proofs.Common.{◌≡◌, ◌++◌, arith}
use Rattle.minisign.proofs.Common.{common_steps}
use Rattle.minisign.proofs.Base64Texts.{both_bytes}
use Rattle.minisign.proofs.signature.joined.Goals as goal

pub returns-clause-are_bytes : goal.returns-clause-are_bytes
returns-clause-are_bytes c =
    let items : c.extend_from_slice-2.new.self.items ≡ c.args.front.now ++ c.args.back.now = grind
    (arith, common_steps) in
    rw items (both_bytes _ c.args.back.now (λ i. omega (arith, c.type_inv.front i))
    (λ i. omega (arith, c.type_inv.back i)))
