-- Proves the goal of `sign_pieces` that the prover leaves open.
use Rattle.std.proofs.Common.{Result, IfOk, Ok, Err, ℕ, List, arith, subst}
use Rattle.minisign_external.specs.Signing.{HoldsSignatureFile, comments_of}
use Rattle.std.specs.List.{flat_map}
use Rattle.minisign_external.proofs.SignedFiles.{own_verdict}
use Rattle.minisign_external.proofs.pieces.sign_pieces.Goals as goal

returned : {T E : Type 0} {P Q : T → Type 0} (r : Result T E) → IfOk r P → ((v : T) → P v → Q v) → IfOk r Q
returned (Ok v) p more = more v p
returned (Err e) p more = tt

pub returns-clause-verifies : goal.returns-clause-verifies
returns-clause-verifies g c = returned c.write_signed_text.result c.write_signed_text.ensures.text
    (λ len (read, holds) seed w pair public.
    let (opened, half, same_id) = c.in_ok-public_key.ensures.success in
    let chosen = comments_of c.args.trusted.now c.args.untrusted.now in
    let holds_own =
    subst (λ (id : List ℕ). HoldsSignatureFile id chosen c.in_ok-first.first c.in_ok-first.second
    c.write_signed_text.new.to len) same_id holds in
    let message = flat_map (λ piece. piece.now) c.args.pieces.now in
    own_verdict (g.S.Scheme.accepts c.args.scheme.now) (g.S.Scheme.public_of c.args.scheme.now) seed
    c.args.key.now w pair opened public
    message _ c.args.trusted.now c.args.untrusted.now _ _ _ len c.in_ok-digest.ensures (omega arith) holds_own
    (c.in_ok-first.ensures.accepted seed pair))
