-- Proves the goals of `is_base64` that the prover leaves open.
use Rattle.std.proofs.Common.{◌≡◌, ◌*◌, ◌/◌, length, sym, ◌∙◌, arith}
use Rattle.minisign.proofs.Base64Texts.{judged, piece_judged, piece_refused, piece_padded, rejoined}
use Rattle.minisign.proofs.base64_front.is_base64.Goals as goal

pub returns-in_default : goal.returns-in_default
returns-in_default c =
    let is = rejoined c.pieces.rest.now _ _ 64 c.split_at.ensures.front c.split_at.ensures.back in
    let long : length c.split_at.result.0.now ≡ 64 = omega arith in
    sym (c.pieces.invariant ∙ piece_refused _ _ _ is (omega (arith, long)) (omega arith) c.in_default.ensures)

pub returns-then-count-ne-PIECE_BYTES : goal.returns-then-count-ne-PIECE_BYTES
returns-then-count-ne-PIECE_BYTES c =
    let is = rejoined c.pieces.rest.now _ _ 64 c.split_at.ensures.front c.split_at.ensures.back in
    let long : length c.split_at.result.0.now ≡ 64 = omega arith in
    let (bytes, read, count, _, _) = c.in-Some.ensures in
    let whole : length c.split_at.result.0.now / 4 * 3 ≡ 48 = omega (arith, long) in
    sym (c.pieces.invariant ∙ piece_padded _ _ _ is (omega (arith, long)) (omega arith) bytes _ read count
    (λ e. c.if-count-ne-PIECE_BYTES.true (e ∙ whole)))

pub pieces-preserved : goal.pieces-preserved
pieces-preserved c =
    let is = rejoined c.pieces.rest.now _ _ 64 c.split_at.ensures.front c.split_at.ensures.back in
    let long : length c.split_at.result.0.now ≡ 64 = omega arith in
    let (bytes, read, count, _, _) = c.in-Some.ensures in
    let whole : length c.split_at.result.0.now / 4 * 3 ≡ 48 = omega (arith, long) in
    c.pieces.invariant ∙ piece_judged _ _ _ is (omega (arith, long)) (omega arith) bytes read
    (sym count ∙ c.if-count-ne-PIECE_BYTES.false ∙ sym whole)

pub returns : goal.returns
returns c = c.is_some.ensures ∙ judged c.pieces.rest.now _ c.decode_piece-2.result c.decode_piece-2.ensures
    ∙ sym c.pieces.invariant
