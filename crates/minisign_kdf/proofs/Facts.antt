-- Known values of the definitions, from the standards. A wrong constant or step in a definition, or
-- a wrong byte here, makes the proof fail.
use Rattle.std.proofs.Common.{◌≡◌, ◌∙◌, ap, refl, ℕ, ◌+◌, ◌*◌, ◌-◌, if◌then◌else◌, nat_le}
use Rattle.std.proofs.Common.{List, [], ◌∷◌, ◌++◌, codes}
use Prim.Native.String.{String}
use Rattle.std.proofs.lemmas.List.{append-nil}
use Rattle.sha2.specs.Sha256.{compress, digest_bytes, first_words, hash_after, rounds, schedule, sha256}
use Rattle.minisign_kdf.specs.Blocks.{block, joined_lists}
use Rattle.minisign_kdf.specs.Hmac.{hmac, key_block}
use Rattle.minisign_kdf.specs.Pbkdf2.{pbkdf2}
use Rattle.minisign_kdf.specs.Salsa20.{double_round, quarter_at, quarter_round, salsa20_8}
use Rattle.minisign_kdf.specs.Scrypt.{block_mix, mixed_block, rom_mix, scrypt}
use Rattle.minisign_kdf.proofs.RowsOnce.{mixed, rom_mix-once, rows}

-- Bytes as the standards print them, two digits each.
abbrev digit : ℕ → ℕ
digit c = if nat_le 97 c then c - 87 else c - 48

abbrev spelled : List ℕ → List ℕ
spelled (a ∷ b ∷ []) = (16 * digit a + digit b) ∷ []
spelled (a ∷ b ∷ space ∷ rest) = (16 * digit a + digit b) ∷ spelled rest
spelled _ = []

abbrev hex : String → List ℕ
hex text = spelled (codes text)

-- Unfolding `hashes` unfolds all definitions that the facts about HMAC and PBKDF2 need. Unfolding
-- `mixes` unfolds those that the facts about mixing need.
unfoldable hashes : ℕ
unfolding pbkdf2 joined_lists hmac key_block first_words schedule rounds compress hash_after digest_bytes
    sha256
hashes = 0

unfoldable mixes : ℕ
unfolding block_mix mixed_block joined_lists salsa20_8 double_round quarter_at quarter_round
mixes = 0

-- HMAC with SHA-256 (RFC 4231, section 4.3).
pub hmac_of_jefe : hmac (codes "Jefe") (codes "what do ya want for nothing?") ≡
    hex "5b dc c1 46 bf 60 75 4e 6a 04 24 26 08 95 75 c7 5a 00 3f 08 9d 27 39 83 9d ec 58 b9 64 ec 38 43"
unfolding hashes
hmac_of_jefe = refl

-- PBKDF2 with HMAC with SHA-256 and one iteration (RFC 7914, section 11).
pub pbkdf2_of_passwd : pbkdf2 (codes "passwd") (codes "salt") 64 ≡
    hex "55 ac 04 6e 56 e3 08 9f ec 16 91 c2 25 44 b6 05 f9 41 85 21 6d de 04 65 e6 8b 9d 57 c2 0d ac bc" ++
    hex "49 ca 9c cc f1 79 b6 45 99 16 64 b3 9d 77 ef 31 7c 71 b8 45 b1 e3 0b d5 09 11 20 41 d3 a1 97 83"
unfolding hashes
pbkdf2_of_passwd = refl

-- Salsa20/8 (RFC 7914, section 8).
pub salsa20_8_of_vector : salsa20_8 (
    hex "7e 87 9a 21 4f 3e c9 86 7c a9 40 e6 41 71 8f 26 ba ee 55 5b 8c 61 c1 b5 0d f8 46 11 6d cd 3b 1d" ++
    hex "ee 24 f3 19 df 9b 3d 85 14 12 1e 4b 5a c5 aa 32 76 02 1d 29 09 c7 48 29 ed eb c6 8d b8 b8 c2 5e"
    ) ≡
    hex "a4 1f 85 9c 66 08 cc 99 3b 81 ca cb 02 0c ef 05 04 4b 21 81 a2 fd 33 7d fd 7b 1c 63 96 68 2f 29" ++
    hex "b4 39 31 68 e3 c9 e6 bc fe 6b c5 b7 a0 6d 96 ba e4 24 cc 10 2c 91 74 5c 24 ad 67 3d c7 61 8f 81"
unfolding mixes
salsa20_8_of_vector = refl

-- B in sections 9 and 10 of RFC 7914. For an empty password and salt, scrypt also has it before
-- mixing (section 12).
abbrev vector : List ℕ
vector =
    hex "f7 ce 0b 65 3d 2d 72 a4 10 8c f5 ab e9 12 ff dd 77 76 16 db bb 27 a7 0e 82 04 f3 ae 2d 0f 6f ad" ++
    hex "89 f6 8f 48 11 d1 e8 7b cc 3b d7 40 0a 9f fd 29 09 4f 01 84 63 95 74 f3 9a e5 a1 31 52 17 bc d7" ++
    hex "89 49 91 44 72 13 bb 22 6c 25 b5 4d a8 63 70 fb cd 98 43 80 37 46 66 bb 8f fc b5 bf 40 c2 54 b0" ++
    hex "67 d2 7c 51 ce 4a d5 fe d8 29 c9 0b 50 5a 57 1b 7f 4d 1c ad 6a 52 3c da 77 0e 67 bc ea af 7e 89"

pub pbkdf2_of_nothing : pbkdf2 [] [] 128 ≡ vector
unfolding hashes
pbkdf2_of_nothing = refl

-- scryptBlockMix with r = 1 (RFC 7914, section 9).
pub block_mix_of_vector : block_mix 1 vector ≡
    hex "a4 1f 85 9c 66 08 cc 99 3b 81 ca cb 02 0c ef 05 04 4b 21 81 a2 fd 33 7d fd 7b 1c 63 96 68 2f 29" ++
    hex "b4 39 31 68 e3 c9 e6 bc fe 6b c5 b7 a0 6d 96 ba e4 24 cc 10 2c 91 74 5c 24 ad 67 3d c7 61 8f 81" ++
    hex "20 ed c9 75 32 38 81 a8 05 40 f6 4c 16 2d cd 3c 21 07 7c fe 5f 8d 5f e2 b1 a4 16 8f 95 36 78 b7" ++
    hex "7d 3b 3d 80 3b 60 e4 ab 92 09 96 e5 9b 4d 53 b6 5d 2a 22 58 77 d5 ed f5 84 2c b9 f1 4e ef e4 25"
unfolding mixes
block_mix_of_vector = refl

-- The result of scryptROMix in section 10.
abbrev mixed_vector : List ℕ
mixed_vector =
    hex "79 cc c1 93 62 9d eb ca 04 7f 0b 70 60 4b f6 b6 2c e3 dd 4a 96 26 e3 55 fa fc 61 98 e6 ea 2b 46" ++
    hex "d5 84 13 67 3b 99 b0 29 d6 65 c3 57 60 1f b4 26 a0 b2 f4 bb a2 00 ee 9f 0a 43 d1 9b 57 1a 9c 71" ++
    hex "ef 11 42 e6 5d 5a 26 6f dd ca 83 2c e5 9f aa 7c ac 0b 9c f1 be 2b ff ca 30 0d 01 ee 38 76 19 c4" ++
    hex "ae 12 fd 44 38 f2 03 a0 e4 e1 c4 7e c3 14 86 1f 4e 90 87 cb 33 39 6a 68 73 e8 f9 d2 53 9a 4b 8e"

mixed_of_vector : mixed (rows 17 vector) ≡ mixed_vector
unfolding mixes
mixed_of_vector = refl

-- scryptROMix with r = 1 and N = 16 (RFC 7914, section 10).
pub rom_mix_of_vector : rom_mix 1 16 vector ≡ mixed_vector
rom_mix_of_vector = rom_mix-once vector ∙ mixed_of_vector

one_part : joined_lists (λ i. rom_mix 1 16 (block 128 vector i)) 1 ≡ rom_mix 1 16 vector
unfolding joined_lists
one_part = append-nil _

last_pass : pbkdf2 [] mixed_vector 64 ≡
    hex "77 d6 57 62 38 65 7b 20 3b 19 ca 42 c1 8a 04 97 f1 6b 48 44 e3 07 4a e8 df df fa 3f ed e2 14 42" ++
    hex "fc d0 06 9d ed 09 48 f8 32 6a 75 3a 0f c8 1f 17 e8 d3 e0 fb 2e 0d 36 28 cf 35 e2 0c 38 d1 89 06"
unfolding hashes
last_pass = refl

-- scrypt of an empty password and salt with N = 16, r = 1 and p = 1 (RFC 7914, section 12).
pub scrypt_of_nothing : scrypt [] [] 16 1 1 64 ≡
    hex "77 d6 57 62 38 65 7b 20 3b 19 ca 42 c1 8a 04 97 f1 6b 48 44 e3 07 4a e8 df df fa 3f ed e2 14 42" ++
    hex "fc d0 06 9d ed 09 48 f8 32 6a 75 3a 0f c8 1f 17 e8 d3 e0 fb 2e 0d 36 28 cf 35 e2 0c 38 d1 89 06"
unfolding scrypt
scrypt_of_nothing =
    ap (λ b. pbkdf2 [] (joined_lists (λ i. rom_mix 1 16 (block 128 b i)) 1) 64) pbkdf2_of_nothing
    ∙ (ap (λ x. pbkdf2 [] x 64) (one_part ∙ rom_mix_of_vector) ∙ last_pass)
