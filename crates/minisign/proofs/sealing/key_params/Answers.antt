-- Proves the goals of `key_params` that the prover leaves open.
use Rattle.std.proofs.Common.{rules, length, take, sym, ap, ◌∙◌, arith, w64}
use Rattle.minisign.proofs.Common.{from_le_bytes}
use Rattle.minisign.proofs.SealingLimits.{read_limits}
use Rattle.minisign.proofs.sealing.key_params.Goals as goal

pub returns-then-memlimit-gt-MEMLIMIT_MAX : goal.returns-then-memlimit-gt-MEMLIMIT_MAX
returns-then-memlimit-gt-MEMLIMIT_MAX c =
    let read =
    read_limits c.args.sk.now _ _ (ap (λ k. length k.memory_limit) (sym c.sk.view_is) ∙ omega arith)
    (ap (λ k. length k.operations_limit) (sym c.sk.view_is) ∙ omega arith)
    (c.load_u64_le-memlimit.ensures ∙ ap (λ k. from_le_bytes w64 (take 8 k.memory_limit)) c.sk.view_is)
    (c.load_u64_le-opslimit.ensures ∙ ap (λ k. from_le_bytes w64 (take 8 k.operations_limit))
    c.sk.view_is) in
    rw read (search (rules, c.into.ensures, c.if-memlimit-gt-MEMLIMIT_MAX.true))

pub returns : goal.returns
returns c =
    let read =
    read_limits c.args.sk.now _ _ (ap (λ k. length k.memory_limit) (sym c.sk.view_is) ∙ omega arith)
    (ap (λ k. length k.operations_limit) (sym c.sk.view_is) ∙ omega arith)
    (c.load_u64_le-memlimit.ensures ∙ ap (λ k. from_le_bytes w64 (take 8 k.memory_limit)) c.sk.view_is)
    (c.load_u64_le-opslimit.ensures ∙ ap (λ k. from_le_bytes w64 (take 8 k.operations_limit))
    c.sk.view_is) in
    rw read (search (rules, c.raw_scrypt_params.ensures.outcome, c.if-memlimit-gt-MEMLIMIT_MAX.false))
