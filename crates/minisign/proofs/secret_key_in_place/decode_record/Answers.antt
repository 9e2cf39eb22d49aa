-- Proves the goals of `decode_record` that the prover leaves open.
use Rattle.std.proofs.Common.{Ok, ap, sym, ◌∙◌}
use Rattle.minisign.specs.KeyTexts.{secret_key_of_bytes}
use Rattle.minisign.proofs.SecretKeyTexts.{front_read, front_refused}
use Rattle.minisign.proofs.secret_key_in_place.decode_record.Goals as goal

pub returns-then-count-lt158 : goal.returns-then-count-lt158
returns-then-count-lt158 c =
    let (bytes, base64, count, fits, front) = c.in-Some.ensures in
    let read = rw c.as_bytes.ensures.value at base64 in
    rw c.into-then-count-lt158.ensures (front_refused _ _ bytes _ read count fits c.if-count-lt158.true)

pub returns : goal.returns
returns c =
    let (bytes, base64, count, fits, front) = c.in-Some.ensures in
    let read = rw c.as_bytes.ensures.value at base64 in
    front_read c.args.encoded.now _ bytes _ read count fits front c.if-count-lt158.false
    ∙ ap (λ x. Ok (secret_key_of_bytes x)) (sym (c.copy_from_slice.ensures.after ∙ c.split_at.ensures.front))
