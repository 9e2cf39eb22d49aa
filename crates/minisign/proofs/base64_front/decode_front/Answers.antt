-- Proves the goals of `decode_front` that the prover leaves open.
use Rattle.std.proofs.Common.{◌≡◌, ◌%◌, ◌*◌, ◌/◌, ◌++◌, length, sym, ◌∙◌, arith, length-append, take_at}
use Rattle.minisign.specs.Texts.{base64_bytes}
use Rattle.minisign.proofs.Base64Texts.{reads, joined, piece_refused, piece_padded, rest_refused, rejoined}
use Rattle.minisign.proofs.base64_front.decode_front.Goals as goal

pub returns-in_default : goal.returns-in_default
returns-in_default c =
    let is = rejoined _ _ _ _ c.split_at.ensures.front c.split_at.ensures.back in
    let long : length c.split_at.result.0.now ≡ length c.args.room.now / 3 * 4 = omega arith in
    piece_refused _ _ _ is (omega (arith, long)) (omega arith) c.in_default.ensures

pub returns-then-count-room : goal.returns-then-count-room
returns-then-count-room c =
    let is = rejoined _ _ _ _ c.split_at.ensures.front c.split_at.ensures.back in
    let long : length c.split_at.result.0.now ≡ length c.args.room.now / 3 * 4 = omega arith in
    let (bytes, read, count, _, _) = c.in-Some.ensures in
    let same : length c.decode_piece-2.new.room ≡ length c.args.room.now = omega arith in
    let whole : length c.split_at.result.0.now / 4 * 3 ≡ length c.args.room.now = omega (arith, long) in
    piece_padded _ _ _ is (omega (arith, long)) (omega arith) _ _ read count
    (λ e. c.if-count-room.true (e ∙ whole ∙ sym same))

pub returns-then-is_base64 : goal.returns-then-is_base64
returns-then-is_base64 c =
    let is = rejoined _ _ _ _ c.split_at.ensures.front c.split_at.ensures.back in
    let (bytes, read, count, fits, front) = c.in-Some.ensures in
    let same : length c.decode_piece-2.new.room ≡ length c.args.room.now = omega arith in
    let rest = reads _ (sym c.is_base64.ensures ∙ c.if-is_base64.true) in
    let whole : length bytes % 3 ≡ 0 = omega (arith, sym count ∙ c.if-count-room.false) in
    let back = base64_bytes c.split_at.result.1.now in (
      bytes ++ back,
      rw (sym is) at (joined _ _ bytes back read rest whole),
      omega (arith, length-append bytes back, count, c.if-count-room.false),
      fits,
      front ∙ sym (take_at _ _ _ (sym count)),
    )

pub returns-else-is_base64 : goal.returns-else-is_base64
returns-else-is_base64 c =
    let is = rejoined _ _ _ _ c.split_at.ensures.front c.split_at.ensures.back in
    let long : length c.split_at.result.0.now ≡ length c.args.room.now / 3 * 4 = omega arith in
    rest_refused _ c.split_at.result.1.now c.args.text.now is (omega (arith, long))
    (omega arith) (sym c.is_base64.ensures ∙ c.if-is_base64.false)
