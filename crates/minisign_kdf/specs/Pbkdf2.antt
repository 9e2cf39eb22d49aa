-- PBKDF2 (RFC 8018, section 5.2) with one iteration of HMAC with SHA-256.
use Rattle.std.specs.Prelude.{ℕ, ◌+◌, ◌-◌, ◌*◌, ◌/◌, ◌^◌, List, ◌++◌, take}
use Rattle.std.specs.Int.{w32, to_be_bytes}
use Rattle.minisign_kdf.specs.Blocks.{joined_lists}
use Rattle.minisign_kdf.specs.Hmac.{hmac}

-- The greatest length of a derived key: 2 ^ 32 - 1 blocks of 32 bytes.
abbrev pub longest_key : ℕ
longest_key = (2 ^ 32 - 1) * 32

-- The derived key: T_1, .., T_l joined and cut to len bytes, with l = len / 32 rounded up. With one
-- iteration, T_i is U_1: the HMAC of the salt followed by i as four bytes, most significant byte
-- first.
unfoldable pub pbkdf2 : List ℕ → List ℕ → ℕ → List ℕ
pbkdf2 password salt len =
    take len (joined_lists (λ i. hmac password (salt ++ to_be_bytes w32 (i + 1))) ((len + 31) / 32))
