-- The parameters that scrypt accepts: the cost N = 2 ^ n_log2, the block size r and the parallelization p
-- (RFC 7914, section 2).
use Rattle.std.specs.Prelude.{ℕ, ◌*◌, ◌^◌, ◌<◌, ◌≤◌, Bool, ◌&&◌, nat_lt, nat_le}

-- The parameters: the cost N as its base-2 logarithm, the block size r and the parallelization p.
pub record Numbers : Type 0 where
  pub n_log2 : ℕ
  pub r : ℕ
  pub p : ℕ

-- The six conditions on parameters.
pub record IsAccepted (v : Numbers) : Type 0 where
  pub cost : 1 ≤ v.n_log2
  pub block_size : 1 ≤ v.r
  pub parallelization : 1 ≤ v.p
  -- N below 2 ^ (128 * r / 8).
  pub cost_bound : v.n_log2 < 16 * v.r
  -- p at most (2 ^ 32 - 1) * 32 / (128 * r).
  pub product : v.r * v.p < 2 ^ 30
  -- The number of bytes in the rows of a part fits into 64 bits.
  pub table : 128 * v.r * 2 ^ v.n_log2 < 2 ^ 64

-- True if the parameters meet the six conditions of `IsAccepted`.
abbrev pub is_accepted : Numbers → Bool
is_accepted v =
    nat_le 1 v.n_log2 && nat_le 1 v.r && nat_le 1 v.p && nat_lt v.n_log2 (16 * v.r)
    && nat_lt (v.r * v.p) (2 ^ 30)
    && nat_lt (128 * v.r * 2 ^ v.n_log2) (2 ^ 64)
