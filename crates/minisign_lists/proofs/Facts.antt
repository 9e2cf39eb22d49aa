-- Lines that tools write for a file with the bytes "abc", and their entries. The digests are those
-- of FIPS 180-4 and of RFC 7693, appendix A. The lines were written by GNU coreutils 9.1
-- (sha256sum, sha512sum, b2sum, cksum -a), OpenSSL 3.0 (dgst -r) and shasum 6.02.
use Rattle.std.proofs.Common.{◌≡◌, refl, ℕ, true, false, List, [], ◌∷◌, ◌++◌, codes}
use Rattle.std.specs.Prelude.{Option, Some, Result, Ok, Err}
use Rattle.hex.specs.Hex.{decode_pairs, encode_with}
use Rattle.minisign_lists.specs.Comments.{names_list}
use Rattle.minisign_lists.specs.Digests.{ListedDigest}
use Rattle.minisign_lists.specs.declared.digests.ListedDigest.TheVariants as listed
use Rattle.minisign_lists.specs.Faults.{ListFault, MalformedLine}
use Rattle.minisign_lists.specs.Lines.{Entry, read_line}
use Rattle.minisign_lists.specs.declared.lines.LongDigest.TheVariants as long
use Rattle.minisign_lists.specs.Names.{is_name, is_path}
use Rattle.minisign_lists.specs.Positions.{line_start}
use Rattle.minisign_lists.specs.Writing.{written_line}

-- FIPS 180-4, example of SHA-256.
abbrev sha256_of_abc : List ℕ
sha256_of_abc =
    0xBA ∷ 0x78 ∷ 0x16 ∷ 0xBF ∷ 0x8F ∷ 0x01 ∷ 0xCF ∷ 0xEA ∷ 0x41 ∷ 0x41 ∷ 0x40 ∷ 0xDE ∷ 0x5D ∷
    0xAE ∷ 0x22 ∷ 0x23 ∷ 0xB0 ∷ 0x03 ∷ 0x61 ∷ 0xA3 ∷ 0x96 ∷ 0x17 ∷ 0x7A ∷ 0x9C ∷ 0xB4 ∷ 0x10 ∷
    0xFF ∷ 0x61 ∷ 0xF2 ∷ 0x00 ∷ 0x15 ∷ 0xAD ∷ []

abbrev sha256_digits : List ℕ
sha256_digits = codes "ba7816bf8f01cfea414140de5dae2223b00361a396177a9cb410ff61f20015ad"

-- FIPS 180-4, example of SHA-512.
abbrev sha512_of_abc : List ℕ
sha512_of_abc =
    0xDD ∷ 0xAF ∷ 0x35 ∷ 0xA1 ∷ 0x93 ∷ 0x61 ∷ 0x7A ∷ 0xBA ∷ 0xCC ∷ 0x41 ∷ 0x73 ∷ 0x49 ∷ 0xAE ∷
    0x20 ∷ 0x41 ∷ 0x31 ∷ 0x12 ∷ 0xE6 ∷ 0xFA ∷ 0x4E ∷ 0x89 ∷ 0xA9 ∷ 0x7E ∷ 0xA2 ∷ 0x0A ∷ 0x9E ∷
    0xEE ∷ 0xE6 ∷ 0x4B ∷ 0x55 ∷ 0xD3 ∷ 0x9A ∷ 0x21 ∷ 0x92 ∷ 0x99 ∷ 0x2A ∷ 0x27 ∷ 0x4F ∷ 0xC1 ∷
    0xA8 ∷ 0x36 ∷ 0xBA ∷ 0x3C ∷ 0x23 ∷ 0xA3 ∷ 0xFE ∷ 0xEB ∷ 0xBD ∷ 0x45 ∷ 0x4D ∷ 0x44 ∷ 0x23 ∷
    0x64 ∷ 0x3C ∷ 0xE8 ∷ 0x0E ∷ 0x2A ∷ 0x9A ∷ 0xC9 ∷ 0x4F ∷ 0xA5 ∷ 0x4C ∷ 0xA4 ∷ 0x9F ∷ []

abbrev sha512_digits : List ℕ
sha512_digits =
    codes "ddaf35a193617abacc417349ae20413112e6fa4e89a97ea20a9eeee64b55d39a" ++
    codes "2192992a274fc1a836ba3c23a3feebbd454d4423643ce80e2a9ac94fa54ca49f"

-- RFC 7693, appendix A.
abbrev blake2b_of_abc : List ℕ
blake2b_of_abc =
    0xBA ∷ 0x80 ∷ 0xA5 ∷ 0x3F ∷ 0x98 ∷ 0x1C ∷ 0x4D ∷ 0x0D ∷ 0x6A ∷ 0x27 ∷ 0x97 ∷ 0xB6 ∷ 0x9F ∷
    0x12 ∷ 0xF6 ∷ 0xE9 ∷ 0x4C ∷ 0x21 ∷ 0x2F ∷ 0x14 ∷ 0x68 ∷ 0x5A ∷ 0xC4 ∷ 0xB7 ∷ 0x4B ∷ 0x12 ∷
    0xBB ∷ 0x6F ∷ 0xDB ∷ 0xFF ∷ 0xA2 ∷ 0xD1 ∷ 0x7D ∷ 0x87 ∷ 0xC5 ∷ 0x39 ∷ 0x2A ∷ 0xAB ∷ 0x79 ∷
    0x2D ∷ 0xC2 ∷ 0x52 ∷ 0xD5 ∷ 0xDE ∷ 0x45 ∷ 0x33 ∷ 0xCC ∷ 0x95 ∷ 0x18 ∷ 0xD3 ∷ 0x8A ∷ 0xA8 ∷
    0xDB ∷ 0xF1 ∷ 0x92 ∷ 0x5A ∷ 0xB9 ∷ 0x23 ∷ 0x86 ∷ 0xED ∷ 0xD4 ∷ 0x00 ∷ 0x99 ∷ 0x23 ∷ []

abbrev blake2b_digits : List ℕ
blake2b_digits =
    codes "ba80a53f981c4d0d6a2797b69f12f6e94c212f14685ac4b74b12bb6fdbffa2d1" ++
    codes "7d87c5392aab792dc252d5de4533cc9518d38aa8dbf1925ab92386edd4009923"

-- The entry of line 1, whose name has no escapes.
abbrev entry : ListedDigest → List ℕ → ℕ → Result (Option Entry) ListFault
entry digest name start =
    Ok (Some (record { line = 1; digest = digest; name = name; start = start; escaped = false }))

-- sha256sum, shasum -a 256, cksum -a sha256 --untagged
pub plain_line : read_line long.Rejected 1 (sha256_digits ++ codes "  a b") ≡
    entry (listed.Sha256 sha256_of_abc) (codes "a b") 66
unfolding decode_pairs
plain_line = refl

-- sha256sum -b, openssl dgst -r -sha256
pub binary_line : read_line long.Rejected 1 (sha256_digits ++ codes " *a b") ≡
    entry (listed.Sha256 sha256_of_abc) (codes "a b") 66
unfolding decode_pairs
binary_line = refl

-- sha256sum --tag, cksum -a sha256: a name that contains the characters that end names
pub tagged_line : read_line long.Rejected 1 (codes "SHA256 (p) = q) = " ++ sha256_digits) ≡
    entry (listed.Sha256 sha256_of_abc) (codes "p) = q") 8
unfolding decode_pairs
tagged_line = refl

-- sha512sum --tag
pub tagged_line_of_sha512 : read_line long.Rejected 1 (codes "SHA512 (a b) = " ++ sha512_digits) ≡
    entry (listed.Sha512 sha512_of_abc) (codes "a b") 8
unfolding decode_pairs
tagged_line_of_sha512 = refl

-- b2sum --tag, cksum -a blake2b
pub tagged_line_of_blake2b : read_line long.Rejected 1 (codes "BLAKE2b (a b) = " ++ blake2b_digits) ≡
    entry (listed.Blake2b blake2b_of_abc) (codes "a b") 9
unfolding decode_pairs
tagged_line_of_blake2b = refl

-- Lines of sha512sum and b2sum, for which the caller chooses the hash function of 128 digits.
pub long_line_of_sha512 : read_line long.Sha512 1 (sha512_digits ++ codes "  a") ≡
    entry (listed.Sha512 sha512_of_abc) (codes "a") 130
unfolding decode_pairs
long_line_of_sha512 = refl

pub long_line_of_blake2b : read_line long.Blake2b 1 (blake2b_digits ++ codes "  a") ≡
    entry (listed.Blake2b blake2b_of_abc) (codes "a") 130
unfolding decode_pairs
long_line_of_blake2b = refl

pub rejected_long_line : read_line long.Rejected 7 (sha512_digits ++ codes "  a") ≡ Err (MalformedLine 7)
unfolding decode_pairs
rejected_long_line = refl

-- sha256sum, of a name with a line feed
pub escaped_line : read_line long.Rejected 1 (92 ∷ sha256_digits ++ codes "  x" ++ 92 ∷ codes "ny") ≡
    Ok (Some (record {
      line = 1;
      digest = listed.Sha256 sha256_of_abc;
      name = codes "x" ++ 92 ∷ codes "ny";
      start = 67;
      escaped = true;
    }))
unfolding decode_pairs
escaped_line = refl

-- find . | xargs sha256sum
pub line_with_dot : read_line long.Rejected 1 (sha256_digits ++ codes "  ./d/a") ≡
    entry (listed.Sha256 sha256_of_abc) (codes "d/a") 68
unfolding decode_pairs
line_with_dot = refl

-- cksum -a md5, and b2sum --tag -l 256
pub line_of_md5 : read_line long.Sha512 2 (codes "MD5 (a b) = 900150983cd24fb0d6963f7d28e17f72") ≡
    Err (MalformedLine 2)
line_of_md5 = refl

pub line_of_short_blake2b : read_line long.Sha512 2 (codes "BLAKE2b-256 (a b) = bddd813c634239723171ef3fee98579b" ++
    codes "94964e3bb1cb3e427262c8c068d52319") ≡ Err (MalformedLine 2)
line_of_short_blake2b = refl

-- Paths that lead out of the directory, or name a file in a second way.
pub path_with_two_dots : is_path (codes "a/../b") ≡ false
path_with_two_dots = refl

pub path_from_the_root : is_path (codes "/a") ≡ false
path_from_the_root = refl

pub path_with_an_empty_part : is_path (codes "a//b") ≡ false
path_with_an_empty_part = refl

pub path_of_a_directory : is_path (codes "a/") ≡ false
path_of_a_directory = refl

pub path_below : is_path (codes "..a/-/b c") ≡ true
path_below = refl

pub name_with_one_dot : is_name (codes "./a b/c") ≡ true
name_with_one_dot = refl

pub name_with_two_dots : is_name (codes "././a") ≡ false
name_with_two_dots = refl

-- The trusted comment that Minisign writes for a file of this name.
pub named_list : names_list (codes "SHA256SUMS") (codes "timestamp:1700000000" ++ 9 ∷ codes "file:SHA256SUMS" ++
    9 ∷ codes "hashed") ≡ true
named_list = refl

pub other_named_list : names_list (codes "SHA256SUMS") (codes "timestamp:1700000000" ++ 9 ∷ codes "file:MALWARE" ++
    9 ∷ codes "file:SHA256SUMS") ≡ false
other_named_list = refl

-- The line that is written for a file, which is that of sha256sum --tag.
pub written_line_of_sha256 : written_line (listed.Sha256 sha256_of_abc) (codes "a b") ≡
    codes "SHA256 (a b) = " ++ (sha256_digits ++ 10 ∷ [])
unfolding encode_with
written_line_of_sha256 = refl

-- The positions of lines.
pub first_line_start : line_start 1 (codes "ab" ++ 10 ∷ codes "cd") ≡ 0
first_line_start = refl

pub second_line_start : line_start 2 (codes "ab" ++ 10 ∷ codes "cd") ≡ 3
second_line_start = refl
