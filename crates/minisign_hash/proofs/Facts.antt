-- Known values of the definitions: the square roots from which the initialization vector comes, and digests
-- of 64 and of 32 bytes, which Python's hashlib and b2sum also give. A wrong constant or step in a
-- definition, or a wrong byte here, makes the proof fail.
use Rattle.std.proofs.Common.{◌≡◌, refl, ℕ, ◌+◌, ◌-◌, ◌*◌, ◌^◌, ◌&&◌, nat_le, nat_lt, Bool, true}
use Rattle.std.proofs.Common.{if◌then◌else◌, List, [], ◌∷◌, ◌++◌, codes, slice_index}
use Prim.Native.String.{String}
use Rattle.std.specs.List.{list_all, range_with_len}
use Rattle.minisign_hash.specs.Blake2b.{blake2b_digest, padded_block, compress, iv, mix, round, rounds, sigma}
use Rattle.minisign_hash.specs.Blake2b.{state_after, work_vector}
use Rattle.minisign_hash.specs.Words.{bytes_of_words64, words64_of}

-- The first eight primes, and the integer parts of their square roots.
abbrev primes : List ℕ
primes = 2 ∷ 3 ∷ 5 ∷ 7 ∷ 11 ∷ 13 ∷ 17 ∷ 19 ∷ []

abbrev whole_roots : List ℕ
whole_roots = 1 ∷ 1 ∷ 2 ∷ 2 ∷ 3 ∷ 3 ∷ 4 ∷ 4 ∷ []

-- k is the integer part of the square root of p, and x the first 64 bits of its fractional part.
abbrev is_root : ℕ → ℕ → ℕ → Bool
is_root p k x =
    let root = k * 2 ^ 64 + x in
    nat_le (root ^ 2) (p * 2 ^ 128) && nat_lt (p * 2 ^ 128) ((root + 1) ^ 2) && nat_lt x (2 ^ 64)

-- The words of the initialization vector are these bits for the first eight primes (RFC 7693,
-- section 2.6), like the first words of SHA-512.
pub iv-square_roots :
    list_all (λ i. is_root (slice_index primes i) (slice_index whole_roots i) (slice_index iv i))
    (range_with_len 0 8)
    ≡ true
unfolding iv
iv-square_roots = refl

-- Bytes as RFC 7693 prints them, two digits each.
abbrev digit : ℕ → ℕ
digit c = if nat_le 65 c then c - 55 else c - 48

abbrev spelled : List ℕ → List ℕ
spelled (a ∷ b ∷ []) = (16 * digit a + digit b) ∷ []
spelled (a ∷ b ∷ space ∷ rest) = (16 * digit a + digit b) ∷ spelled rest
spelled _ = []

abbrev hex : String → List ℕ
hex text = spelled (codes text)

-- Unfolding this name unfolds all definitions that the facts about digests need.
unfoldable digests : ℕ
unfolding blake2b_digest state_after padded_block compress work_vector rounds round mix iv sigma words64_of
    bytes_of_words64
digests = 0

pub digest_of_nothing : blake2b_digest 64 [] ≡
    hex "78 6A 02 F7 42 01 59 03 C6 C6 FD 85 25 52 D2 72 91 2F 47 40 E1 58 47 61 8A 86 E2 17 F7 1F 54 19" ++
    hex "D2 5E 10 31 AF EE 58 53 13 89 64 44 93 4E B0 4B 90 3A 68 5B 14 48 B7 55 D5 6F 70 1A FE 9B E2 CE"
unfolding digests
digest_of_nothing = refl

-- The digest of "abc" (RFC 7693, appendix A).
pub digest_of_abc : blake2b_digest 64 (codes "abc") ≡
    hex "BA 80 A5 3F 98 1C 4D 0D 6A 27 97 B6 9F 12 F6 E9 4C 21 2F 14 68 5A C4 B7 4B 12 BB 6F DB FF A2 D1" ++
    hex "7D 87 C5 39 2A AB 79 2D C2 52 D5 DE 45 33 CC 95 18 D3 8A A8 DB F1 92 5A B9 23 86 ED D4 00 99 23"
unfolding digests
digest_of_abc = refl

-- The message of the bytes 0 to 127: one whole block, which is also the last block.
pub digest_of_one_block : blake2b_digest 64 (range_with_len 0 128) ≡
    hex "23 19 E3 78 9C 47 E2 DA A5 FE 80 7F 61 BE C2 A1 A6 53 7F A0 3F 19 FF 32 E8 7E EC BF D6 4B 7E 0E" ++
    hex "8C CF F4 39 AC 33 3B 04 0F 19 B0 C4 DD D1 1A 61 E2 4A C1 FE 0F 10 A0 39 80 6C 5D CC 0D A3 D1 15"
unfolding digests
digest_of_one_block = refl

-- The message of the bytes 0 to 128: the last byte is in a second block.
pub digest_of_two_blocks : blake2b_digest 64 (range_with_len 0 129) ≡
    hex "F5 97 11 D4 4A 03 1D 5F 97 A9 41 3C 06 5D 1E 61 4C 41 7E DE 99 85 90 32 5F 49 BA D2 FD 44 4D 3E" ++
    hex "44 18 BE 19 AE C4 E1 14 49 AC 1A 57 20 78 98 BC 57 D7 6A 1B CF 35 66 29 2C 20 C6 83 A5 C4 64 8F"
unfolding digests
digest_of_two_blocks = refl

pub short_digest_of_nothing : blake2b_digest 32 [] ≡
    hex "0E 57 51 C0 26 E5 43 B2 E8 AB 2E B0 60 99 DA A1 D1 E5 DF 47 77 8F 77 87 FA AB 45 CD F1 2F E3 A8"
unfolding digests
short_digest_of_nothing = refl

pub short_digest_of_abc : blake2b_digest 32 (codes "abc") ≡
    hex "BD DD 81 3C 63 42 39 72 31 71 EF 3F EE 98 57 9B 94 96 4E 3B B1 CB 3E 42 72 62 C8 C0 68 D5 23 19"
unfolding digests
short_digest_of_abc = refl

pub short_digest_of_one_block : blake2b_digest 32 (range_with_len 0 128) ≡
    hex "C3 58 2F 71 EB B2 BE 66 FA 5D D7 50 F8 0B AA E9 75 54 F3 B0 15 66 3C 8B E3 77 CF CB 24 88 C1 D1"
unfolding digests
short_digest_of_one_block = refl

pub short_digest_of_two_blocks : blake2b_digest 32 (range_with_len 0 129) ≡
    hex "F7 F3 C4 6B A2 56 4F F4 C4 C1 62 DA 1F 5B 60 5F 9F 1C 4A A6 A2 06 52 A9 F9 A3 37 C1 A2 F5 B9 C9"
unfolding digests
short_digest_of_two_blocks = refl
