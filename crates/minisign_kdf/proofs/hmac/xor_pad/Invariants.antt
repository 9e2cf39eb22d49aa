-- The loop invariant of `xor_pad`.
use Rattle.std.proofs.Common.{◌≡◌, length, take, map, bit_xor}
use Rattle.minisign_kdf.proofs.hmac.xor_pad.Given as goal

abbrev pub invariant-bytes : goal.invariant-bytes
invariant-bytes l = (length l.xored ≡ 64)
    × (take l.i l.xored ≡ take l.i (map (λ b. bit_xor b l.pad) l.block))
