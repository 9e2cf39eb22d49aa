-- Proves the goals of `write_u64v_le` that the prover leaves open.
use Rattle.std.proofs.Common.{◌≡◌, ◌+◌, ◌*◌, ℕ, List, length, take, refl, sym, ap, ◌∙◌, arith}
use Rattle.std.proofs.lemmas.List.{take_all}
use Rattle.std.proofs.lemmas.Slice.{take-put_mid}
use Rattle.minisign_hash.specs.Words.{bytes_of_words64}
use Rattle.minisign_hash.proofs.Lists.{bytes_of_words64_more}
use Rattle.minisign_hash.proofs.cryptoutil.write_u64v_le.Goals as goal

pub words-init : goal.words-init
unfolding bytes_of_words64
words-init c = refl

pub words-preserved : goal.words-preserved
words-preserved c =
    let i : ℕ = c.words.i in
    let xs : List ℕ = c.args.input.now in
    take-put_mid (8 * i) _ c.words.dst _ (8 * (i + 1)) (omega arith) (omega arith)
    ∙ rw (c.words.invariant, c.write_u64_le.ensures) (sym (bytes_of_words64_more xs i (omega arith)))

pub returns : goal.returns
returns c =
    let xs : List ℕ = c.args.input.now in
    let end : c.words.i ≡ length xs = omega arith in
    let whole : take (8 * c.words.i) c.words.dst ≡ bytes_of_words64 (take c.words.i xs) = c.words.invariant in
    sym (take_all (8 * c.words.i) c.words.dst (omega arith)) ∙ whole
    ∙ ap bytes_of_words64 (take_all c.words.i xs (omega arith))
