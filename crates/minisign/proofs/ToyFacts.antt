-- The definitions applied to one example: a key of 42 bytes and a signature of 74, as the command
-- `verify-raw` of minisign_tool reads them, are parsed into their fields, and the signature is accepted
-- for its message and rejected for another. The bytes were computed with Python's Blake2b.
use Rattle.std.proofs.Common.{◌≡◌, ℕ, false, List, [], ◌∷◌, ◌++◌, None, codes, replicate, refl, Ok, Err}
use Rattle.minisign.proofs.Common.{blake2b_digest, padded_block, compress, iv, mix, round, rounds, sigma}
use Rattle.minisign.proofs.Common.{state_after, work_vector, Named, SignatureRefused}
use Rattle.minisign_hash.specs.Words.{bytes_of_words64, words64_of}
use Rattle.minisign_base.specs.Toy.{fold_of, toy_accepts}
use Rattle.minisign.specs.Records.{PublicKeyRecord, SignatureRecord, SignatureBoxRecord, ReadsPublicKey}
use Rattle.minisign.specs.Records.{ReadsSignature}
use Rattle.minisign.specs.Acceptance.{judge}

abbrev key_id : List ℕ
key_id = 1 ∷ 2 ∷ 3 ∷ 4 ∷ 5 ∷ 6 ∷ 7 ∷ 8 ∷ []

abbrev second_half : List ℕ
second_half =
    0x9D ∷ 0x5D ∷ 0x3A ∷ 0x5C ∷ 0xE8 ∷ 0xED ∷ 0x6E ∷ 0x7A ∷ 0xF2 ∷ 0x2F ∷ 0x18 ∷ 0x32 ∷ 0x80 ∷ 0x7B ∷ 0x60
    ∷ 0x26 ∷
    0x0E ∷ 0xA8 ∷ 0xFF ∷ 0xE6 ∷ 0xE9 ∷ 0xF1 ∷ 0x0C ∷ 0xB7 ∷ 0xA8 ∷ 0x6B ∷ 0x67 ∷ 0xD8 ∷ 0x55 ∷ 0xA5 ∷ 0x61
    ∷ 0xA8 ∷ []

-- The key of a seed of zeros.
abbrev key : PublicKeyRecord
key = record { algorithm = codes "Ed"; keynum = key_id; key = replicate 32 0x5A }

abbrev signature : SignatureRecord
signature = record { algorithm = codes "ED"; keynum = key_id; signature = replicate 32 0 ++ second_half }

abbrev box : SignatureBoxRecord
box = record { signature = signature; comments = None }

pub reads_key : ReadsPublicKey (codes "Ed" ++ key_id ++ replicate 32 0x5A) key
reads_key = record { algorithm_length = refl; keynum_length = refl; key_length = refl; front = ([], refl) }

pub reads_signature : ReadsSignature (codes "ED" ++ key_id ++ replicate 32 0 ++ second_half) signature
reads_signature = record {
  algorithm_length = refl;
  keynum_length = refl;
  signature_length = refl;
  front =
      ([], refl);
}

pub accepted : judge toy_accepts key box (codes "abc") false ≡ Ok tt
unfolding blake2b_digest state_after padded_block compress work_vector rounds round mix iv sigma words64_of
    bytes_of_words64 fold_of
accepted = refl

pub refused : judge toy_accepts key box [] false ≡ Err (Named SignatureRefused)
unfolding blake2b_digest state_after padded_block compress work_vector rounds round mix iv sigma words64_of
    bytes_of_words64 fold_of
refused = refl
