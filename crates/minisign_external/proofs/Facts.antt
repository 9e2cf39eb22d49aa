-- Facts that test the definitions against values from other sources: the points that libsodium rejects, the
-- public key and the signature of RFC 8032 (section 7.1, test 1), and the equations that points of small
-- order meet.
use Rattle.std.proofs.Common.{◌≡◌, refl, ℕ, ◌+◌, ◌-◌, ◌*◌, ◌^◌, ◌%◌, nat_le, Bool, if◌then◌else◌, List, []}
use Rattle.std.proofs.Common.{◌∷◌, ◌++◌, codes, map}
use Rattle.minisign_external.specs.StrictEd25519.{field_prime, group_order, is_strict_point}
use Rattle.minisign_external.specs.StrictEd25519.{is_strict_signature, number_of, order_eight_y}

-- The value of a hexadecimal digit.
abbrev digit : ℕ → ℕ
digit c = if nat_le 97 c then c - 87 else c - 48

-- The bytes for these hexadecimal digits.
abbrev hex : List ℕ → List ℕ
hex (a ∷ b ∷ rest) = (16 * digit a + digit b) ∷ hex rest
hex rest = []

-- The letter "y" for a point or signature that passes the strict test, otherwise "n".
abbrev letter : Bool → ℕ
letter is = if is then 121 else 110

-- The y coordinate of a point of order 8, and its negative. Doubling the point gives a point with the y
-- coordinate 0, so d * y^4 + 2 * y^2 = 1, with d = -121665 / 121666 (RFC 8032, section 5.1)
pub order_eight : 2 * 121666 * order_eight_y ^ 2 % field_prime
    ≡ (121665 * order_eight_y ^ 4 + 121666) % field_prime
order_eight = refl

pub order_eight_negated : 2 * 121666 * (field_prime - order_eight_y) ^ 2 % field_prime
    ≡ (121665 * (field_prime - order_eight_y) ^ 4 + 121666) % field_prime
order_eight_negated = refl

-- The bytes of the group order in libsodium encode the group order of the definition.
pub group_order-bytes : group_order
    ≡ number_of (hex (codes "edd3f55c1a631258d69cf7a2def9de1400000000000000000000000000000010"))
group_order-bytes = refl

-- Points: those that libsodium rejects because of their order or as not canonical, most of them without and
-- with the sign bit; two points with the y coordinates 2 and the prime minus 2, which are accepted although
-- their neighbours are rejected; and the public key of RFC 8032.
abbrev points : List (List ℕ)
points =
    hex (codes "0000000000000000000000000000000000000000000000000000000000000000")
    ∷ hex (codes "0100000000000000000000000000000000000000000000000000000000000000")
    ∷ hex (codes "26e8958fc2b227b045c3f489f2ef98f0d5dfac05d3c63339b13802886d53fc05")
    ∷ hex (codes "c7176a703d4dd84fba3c0b760d10670f2a2053fa2c39ccc64ec7fd7792ac037a")
    ∷ hex (codes "ecffffffffffffffffffffffffffffffffffffffffffffffffffffffffffff7f")
    ∷ hex (codes "edffffffffffffffffffffffffffffffffffffffffffffffffffffffffffff7f")
    ∷ hex (codes "eeffffffffffffffffffffffffffffffffffffffffffffffffffffffffffff7f")
    ∷ hex (codes "0000000000000000000000000000000000000000000000000000000000000080")
    ∷ hex (codes "0100000000000000000000000000000000000000000000000000000000000080")
    ∷ hex (codes "26e8958fc2b227b045c3f489f2ef98f0d5dfac05d3c63339b13802886d53fc85")
    ∷ hex (codes "c7176a703d4dd84fba3c0b760d10670f2a2053fa2c39ccc64ec7fd7792ac03fa")
    ∷ hex (codes "ecffffffffffffffffffffffffffffffffffffffffffffffffffffffffffffff")
    ∷ hex (codes "ffffffffffffffffffffffffffffffffffffffffffffffffffffffffffffffff")
    ∷ hex (codes "0200000000000000000000000000000000000000000000000000000000000000")
    ∷ hex (codes "ebffffffffffffffffffffffffffffffffffffffffffffffffffffffffffff7f")
    ∷ hex (codes "d75a980182b10ab7d54bfed3c964073a0ee172f3daa62325af021a68f707511a")
    ∷ []

pub points-judged : map (λ point. letter (is_strict_point point)) points ≡ codes "nnnnnnnnnnnnnyyy"
points-judged = refl

-- Signatures: the one of RFC 8032; its first half with the greatest second half that is allowed, with that
-- number plus 1, and with the greatest number; a first half of small order; and a first half that is not
-- canonical.
abbrev first_half : List ℕ
first_half = hex (codes "e5564300c360ac729086e2cc806e828a84877f1eb8e5d974d873e06522490155")

abbrev second_half : List ℕ
second_half = hex (codes "5fb8821590a33bacc61e39701cf9b46bd25bf5f0595bbe24655141438e7a100b")

abbrev signatures : List (List ℕ)
signatures =
    (first_half ++ second_half)
    ∷ (first_half ++ hex (codes "ecd3f55c1a631258d69cf7a2def9de1400000000000000000000000000000010"))
    ∷ (first_half ++ hex (codes "edd3f55c1a631258d69cf7a2def9de1400000000000000000000000000000010"))
    ∷ (first_half ++ hex (codes "ffffffffffffffffffffffffffffffffffffffffffffffffffffffffffffffff"))
    ∷ (hex (codes "0100000000000000000000000000000000000000000000000000000000000000") ++ second_half)
    ∷ (hex (codes "f0ffffffffffffffffffffffffffffffffffffffffffffffffffffffffffffff") ++ second_half)
    ∷ []

pub signatures-judged : map (λ signature. letter (is_strict_signature signature)) signatures
    ≡ codes "yynnnn"
signatures-judged = refl
