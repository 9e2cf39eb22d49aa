-- Proves the goals of `decode_piece` that the prover leaves open.
use Rattle.std.proofs.Common.{length, take, drop, sym, ap, ◌∙◌, arith, take_at, length-append}
use Rattle.minisign.proofs.Common.{standard, decoded_bytes_of}
use Rattle.minisign.proofs.Base64Texts.{piece_read, piece_unread}
use Rattle.minisign.proofs.base64_front.decode_piece.Goals as goal

pub returns-in-Ok : goal.returns-in-Ok
returns-in-Ok c =
    let (read, count) = piece_read _ _ _ _ c.requires
    (λ i. let f = c.type_inv.text i in omega arith) c.in-Ok.ensures.bytes c.decode_slice.ensures.value
    c.in-Ok.is in
    let written = c.in-Ok.ensures.written in (
      _,
      read,
      sym count,
      omega (
        arith,
        ap length written,
        count,
        length-append (decoded_bytes_of standard c.args.text.now)
            (drop (length (decoded_bytes_of standard c.args.text.now)) c.args.room.now),
      ),
      ap (take c.in-Ok.count) written ∙ take_at _ _ _ count,
    )

pub returns-in-Err : goal.returns-in-Err
returns-in-Err c = piece_unread _ _ _ _ c.requires c.decode_slice.ensures.value c.in-Err.is
