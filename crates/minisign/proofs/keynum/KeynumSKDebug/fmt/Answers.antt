-- Proves the goals of `fmt` that the prover leaves open.
use Rattle.std.proofs.Common.{◌≡◌, ℕ, ◌+◌, ◌<◌, List, [], ◌∷◌, ◌++◌, length, take, get_or, false, arith}
use Rattle.std.proofs.Common.{rules, ap, ◌∙◌, sym, append-nil, flat_map, take_all}
use Rattle.minisign.proofs.Common.{digits, flat_map-append, take_more}
use Rattle.std.proofs.Output.{has_written_append, has_written_of_eq}
use Rattle.minisign.specs.Records.{secret_text}
use Rattle.minisign.proofs.keynum.KeynumSKDebug.fmt.Goals as goal

-- The text of the first i + 1 bytes is that of the first i followed by the digits of the next byte.
text_of_next_byte : (bytes : List ℕ) (i : ℕ) → i < length bytes → secret_text (take i bytes)
    ++ digits 16 false (get_or bytes i 0) ≡ secret_text (take (i + 1) bytes)
text_of_next_byte bytes i below =
    sym (ap (flat_map (digits 16 false)) (take_more bytes i 0 below) ∙ flat_map-append (digits 16 false)
    (take i bytes) (get_or bytes i 0 ∷ [])
    ∙ ap (λ l. secret_text (take i bytes) ++ l) (append-nil (digits 16 false (get_or bytes i 0))))

pub bytes-init : goal.bytes-init
bytes-init g c = λ plain. search rules

pub bytes-preserved : goal.bytes-preserved
bytes-preserved g c = λ plain. has_written_of_eq _ _ _ _ _ (text_of_next_byte _ _ (omega arith))
    (has_written_append _ _ _ _ _ _ (c.bytes.invariant plain) (search rules))

pub returns : goal.returns
returns g c = record {
  writes = λ plain _. has_written_of_eq _ _ _ _ _ (ap secret_text (take_all _ _ (omega arith)))
      (c.bytes.invariant plain);
}
