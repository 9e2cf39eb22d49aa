-- HMAC with SHA-256 (RFC 2104, section 2). B, the block length of the hash, is 64.
use Rattle.std.specs.Prelude.{ℕ, ◌-◌, List, ◌++◌, length, replicate, map, bit_xor, nat_lt, if◌then◌else◌}
use Rattle.sha2.specs.Sha256.{sha256}

-- K: the key, or its digest if it is longer than a block, padded with zeros to the length of a
-- block.
unfoldable pub key_block : List ℕ → List ℕ
key_block key =
    let short = if nat_lt 64 (length key) then sha256 key else key in
    short ++ replicate (64 - length short) 0

-- HMAC: H(K xor opad, H(K xor ipad, text)). Each byte of ipad is 0x36, and each byte of opad is
-- 0x5c.
unfoldable pub hmac : List ℕ → List ℕ → List ℕ
hmac key text =
    let padded = λ (pad : ℕ). map (λ b. bit_xor b pad) (key_block key) in
    sha256 (padded 0x5c ++ sha256 (padded 0x36 ++ text))
