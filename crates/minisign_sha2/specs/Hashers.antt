-- The messages that hashers hold, in memory and stored. Callers use these definitions without
-- unfolding them.
use Rattle.std.specs.Prelude.{◌+◌, ◌*◌, ◌^◌, ℕ, List}
use Rattle.sha2.specs.Sha256.{initial_hash_256}
use Rattle.sha2.specs.Sha512.{initial_hash_512}
use Rattle.minisign_sha2.specs.Fed256 as fed256
use Rattle.minisign_sha2.specs.Fed512 as fed512
use Rattle.minisign_sha2.specs.declared.Sha256.{Sha256}
use Rattle.minisign_sha2.specs.declared.Sha512.{Sha512}
use Rattle.minisign_sha2.specs.declared.stored.StoredSha256.{StoredSha256}
use Rattle.minisign_sha2.specs.declared.stored.StoredSha512.{StoredSha512}
use Rattle.minisign_sha2.specs.declared.block256.Core256.{Core256}
use Rattle.minisign_sha2.specs.declared.block512.Core512.{Core512}

-- The hasher was fed the message m.
unfoldable pub IsFed256 : Sha256 → List ℕ → Type 0
IsFed256 s m = fed256.Holds initial_hash_256 s.core m

unfoldable pub IsFed512 : Sha512 → List ℕ → Type 0
IsFed512 s m = fed512.Holds initial_hash_512 s.core m

-- The stored hasher was fed the message m.
unfoldable pub WasFed256 : StoredSha256 → List ℕ → Type 0
WasFed256 s m =
    fed256.Holds initial_hash_256 (record { h = s.h; buffer = s.buffer; total = s.count }) m

unfoldable pub WasFed512 : StoredSha512 → List ℕ → Type 0
WasFed512 s m =
    fed512.Holds initial_hash_512
    (record { h = s.h; buffer = s.buffer; total = 2 ^ 64 * s.count_high + s.count_low }) m
