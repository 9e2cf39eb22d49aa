-- An example of a good update, which shows that the laws about good updates do not hold vacuously.
use Rattle.std.specs.Prelude.{◌≡◌, ◌<◌, ℕ, true, false, List, [], ◌∷◌, ◌++◌, codes, replicate, Option, Some}
use Rattle.std.specs.Prelude.{None, Ok}
use Rattle.std.specs.Str.{chars, is_utf8}
use lib.Utf8.{encode}
use Rattle.std.proofs.Common.{refl, arith}
use Rattle.std.proofs.lemmas.Option.{none-some, same_Some}
use Rattle.minisign.specs.Records.{prehashed_algorithm}
use Rattle.minisign.specs.SignatureText.{SignatureTextRecord}
use Rattle.minisign_external.specs.declared.public_keys.PublicKeyValue.{PublicKeyValue}
use Rattle.minisign_install.specs.Comments.{Version}
use Rattle.minisign_install.specs.Decisions.{Options, comment_fault, judge_text}
use Rattle.minisign_install.specs.RecordTexts.{record_digest, record_key}
use Rattle.minisign_install.specs.StepRuns.{IsGoodUpdate, World}

-- Any key serves as an example, because the world below accepts every signature, and the checks only compare
-- key IDs. So the key ID has one byte, and the mark is 0.
abbrev key : PublicKeyValue
key = record { mark = 0; key = replicate 32 0; key_id = 1 ∷ [] }

-- The options `--numbering version`.
abbrev options : Options
options = record {
  keys = key ∷ [];
  file = codes "app";
  numbering = Version;
  first = false;
  again = false;
  check = false;
  must_expire = false;
  new_key = false;
  roll_back = false;
  list = None;
}

abbrev signature_file : SignatureTextRecord
signature_file = record {
  signature = record { algorithm = prehashed_algorithm; keynum = 1 ∷ []; signature = replicate 64 5 };
  comments = record {
    untrusted = [];
    trusted = codes "version:3" ++ 9 ∷ codes "file:app";
    signature = replicate 64 6;
  };
}

-- A record with version 2, a key of zeros and a digest of bytes 0x22.
abbrev recorded_2 : List ℕ
recorded_2 = codes "version:2" ++ 10 ∷ replicate 64 48 ++ 10 ∷ replicate 128 50

-- The scheme accepts every signature, and the data is one byte. The update is newer than the record.
abbrev world : World
world = record {
  accepts = λ message key signature. true;
  found_record = Some recorded_2;
  text = Ok signature_file;
  update = 7 ∷ [];
  list = [];
  name = [];
  max_size = 0;
}

-- The signature file passes the checks that need no Ed25519.
passes : judge_text options (Ok signature_file) ≡ Ok (signature_file, key ∷ [])
unfolding is_utf8 chars encode
passes = refl

newer_than_2 : (k : ℕ) → Some 2 ≡ Some k → k < 3
newer_than_2 k same = omega (arith, same_Some 2 k same)

abbrev good : IsGoodUpdate world options
good = record {
  installs = refl;
  recorded = record {
    version = Some 2;
    key = record_key recorded_2;
    digest = record_digest recorded_2;
  };
  record_applies = refl;
  text = signature_file;
  parsed = refl;
  keys = key ∷ [];
  passed = passes;
  key = replicate 32 0;
  signed_comment = refl;
  signed_data = refl;
  listed = refl;
  version = 3;
  numbered = refl;
  newer = newer_than_2;
  sized = λ size signed. absurd (none-some size signed);
}

pub good_update_exists : (w : World) × (o : Options) × (g : IsGoodUpdate w o) × (time : Option ℕ)
    × (comment_fault o g.recorded.version time g.text.comments.trusted ≡ None)
good_update_exists = (world, options, good, None, refl)
