-- The loop invariant of `xor_bytes`.
use Rattle.std.proofs.Common.{◌≡◌, ℕ, ◌≤◌, get_or, take, bit_xor}
use Rattle.minisign.proofs.Common.{zip2}
use Rattle.minisign.proofs.sealing.xor_bytes.Given as goal

abbrev pub invariant-bytes : goal.invariant-bytes
invariant-bytes l = record {
  done : take l.i l.bytes ≡ take l.i (zip2 bit_xor l.initial.bytes l.stream);
  rest : (k : ℕ) → l.i ≤ k → get_or l.bytes k 0 ≡ get_or l.initial.bytes k 0;
}
