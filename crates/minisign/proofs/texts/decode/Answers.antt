-- Proves the goals of `decode` that the prover leaves open.
use Rattle.std.proofs.Common.{◌∙◌, sym, refl}
use Rattle.minisign.specs.Texts.{base64_of}
use Rattle.minisign.proofs.Base64Texts.{not_read}
use Rattle.minisign.proofs.texts.decode.Goals as goal

pub returns-in-Ok-clause-bytes : goal.returns-in-Ok-clause-bytes
unfolding base64_of
returns-in-Ok-clause-bytes c = record {
  each = c.in-Ok.ensures.bytes;
  encoded = sym c.as_bytes.ensures.value ∙ c.in-Ok.ensures.exact (refl, refl);
}

pub returns-in-Err-DecodeError-clause-none : goal.returns-in-Err-DecodeError-clause-none
returns-in-Err-DecodeError-clause-none c =
    not_read _ _ _ _ c.as_bytes.ensures.value c.in-Err-DecodeError.ensures.err c.in-Err-DecodeError.field-0-is
