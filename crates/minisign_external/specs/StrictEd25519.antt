-- The public keys and signatures that strict Ed25519 rejects for their bytes, whatever the message is, called
-- weak (RFC 8032, section 5.1).
use Rattle.std.specs.Prelude.{ℕ, Bool, List, [], ◌∷◌, ◌+◌, ◌-◌, ◌^◌, ◌%◌, ◌==◌, ◌&&◌, not, nat_lt, take, drop}
use Rattle.std.specs.List.{list_any}
use Rattle.std.specs.Simd.Lanes.{number_l}

-- The prime of the field.
abbrev pub field_prime : ℕ
field_prime = 2 ^ 255 - 19

-- The order of the group.
abbrev pub group_order : ℕ
group_order = 2 ^ 252 + 27742317777372353535851937790883648493

-- The number that bytes encode, the least significant byte first.
abbrev pub number_of : List ℕ → ℕ
number_of bytes = number_l 256 bytes

-- The y coordinate of the point that 32 bytes encode (section 5.1.2). The highest bit is the sign of x.
abbrev pub y_of : List ℕ → ℕ
y_of point = number_of point % 2 ^ 255

-- A y coordinate of points of order 8: d * y^4 + 2 * y^2 = 1, with the d of the curve.
abbrev pub order_eight_y : ℕ
order_eight_y = 0x7a03ac9277fdc74ec6cc392cfa53202a0f67100d760b3cba4fd84d3d706a17c7

-- The y coordinates of the eight points of small order: one point of order 1, one of order 2, two of order 4,
-- which have the same y, and four of order 8, which have two.
abbrev pub small_order_ys : List ℕ
small_order_ys = 1 ∷ (field_prime - 1) ∷ 0 ∷ order_eight_y ∷ (field_prime - order_eight_y) ∷ []

-- The y coordinate in the encoding of a point is canonical, which means below the prime (section 5.1.3), and
-- not that of a point of small order. (To encode x = 0 with the sign bit 1 is not canonical either, but all
-- points with x = 0 have small order.)
abbrev pub is_strict_point : List ℕ → Bool
is_strict_point point =
    nat_lt (y_of point) field_prime && not (list_any (λ y. y_of point == y) small_order_ys)

-- The first half of a signature, R, passes the test of `is_strict_point`, and the second half, S, is below
-- the group order (section 5.1.7).
abbrev pub is_strict_signature : List ℕ → Bool
is_strict_signature signature =
    is_strict_point (take 32 signature) && nat_lt (number_of (drop 32 signature)) group_order

-- Neither the public key nor the signature is weak.
abbrev pub is_strict : List ℕ → List ℕ → Bool
is_strict key signature = is_strict_point key && is_strict_signature signature
