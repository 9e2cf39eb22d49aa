-- Opening the struct that was read from a secret key file gives the same result as opening the file.
use Rattle.std.proofs.Common.{◌≡◌, ℕ, Bool, true, false, List, Result, Ok, ap, sym}
use Rattle.std.specs.Str.{is_utf8}
use Rattle.minisign_base.specs.Fault.{Fault}
use Rattle.minisign_base.specs.declared.faults.NamedFault.{NamedFault}
use Rattle.minisign_base.specs.declared.faults.NamedFault.TheVariants.{NotUtf8}
use Rattle.minisign.specs.KeyTexts.{read_secret_key}
use Rattle.minisign.specs.Texts.{and_then, require}
use Rattle.minisign_external.specs.PublicKeys.{read_utf8}
use Rattle.minisign_external.specs.SecretKeys.{OpensLikeFile, open_unsealed, open_within, unopened_record}
use Rattle.minisign_external.specs.declared.unopened_keys.UnopenedKeyValue.{UnopenedKeyValue}

required : {V : Type 0} (b : Bool) (f : NamedFault) (r : Result V Fault) (v : V) → require b f r ≡ Ok v
    → r ≡ Ok v
required true f r v h = h
required false f r v h = cc h

pub opens_as : (v : UnopenedKeyValue) (text : List ℕ) → read_utf8 read_secret_key text
    ≡ Ok (unopened_record v) → OpensLikeFile v text
opens_as v text read =
    let same : read_secret_key text ≡ Ok (unopened_record v) = required (is_utf8 text) NotUtf8
    (read_secret_key text) (unopened_record v) read in (
      sym (ap (λ x. and_then x open_unsealed) same),
      λ password most_rows. sym (ap (λ x. and_then x (λ k. open_within k password most_rows)) same),
    )
