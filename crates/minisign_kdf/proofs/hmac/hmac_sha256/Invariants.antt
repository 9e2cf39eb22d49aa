-- The loop invariant of `hmac_sha256`.
use Rattle.std.proofs.Common.{◌++◌, take, map, bit_xor}
use Rattle.std.specs.List.{flat_map}
use Rattle.sha2.specs.Hashers.{Holds256}
use Rattle.minisign_kdf.proofs.hmac.hmac_sha256.Given as goal

abbrev pub invariant-parts : goal.invariant-parts
invariant-parts l = Holds256 l.inner
    (map (λ b. bit_xor b 0x36) l.block ++ flat_map (λ part. part.now) (take l.part-index l.parts))
