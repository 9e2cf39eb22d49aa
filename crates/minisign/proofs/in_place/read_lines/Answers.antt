-- Proves the goals of `read_lines` that the prover leaves open.
use Rattle.std.proofs.Common.{◌≡◌, true, false, rules, arith, drop, length, sym, ap, ◌∙◌, ⊎_elim}
use Rattle.std.proofs.Common.{length-append}
use Rattle.minisign.proofs.Common.{trim, drop-append_seam}
use Rattle.minisign.specs.Texts.{is_base64, base64_bytes, untrusted_comment_label}
use Rattle.minisign.specs.SignatureText.{trusted_comment_label}
use Rattle.minisign.proofs.SignatureTexts.{long_enough}
use Rattle.minisign.proofs.ErrorsAndPrefixes.{err_is}
use Rattle.minisign.proofs.SignatureTexts as texts
use Rattle.minisign.proofs.in_place.read_lines.Goals as goal

pub returns-in_err-untrusted_comment-clause-refused : goal.returns-in_err-untrusted_comment-clause-refused
returns-in_err-untrusted_comment-clause-refused c =
    let refused = c.in_err-untrusted_comment.ensures in
    rw (err_is _ _ c.from_residual.ensures.1, refused.0)
    (texts.other_label _ _ _ _ (texts.begins_not _ _ refused.1))

pub returns-in_err-signature-clause-refused : goal.returns-in_err-signature-clause-refused
returns-in_err-signature-clause-refused c =
    let label = texts.begins _ untrusted_comment_label _ c.in_ok-untrusted_comment.ensures in
    let trimmed = c.trim.ensures.trim in
    rw (err_is _ _ c.from_residual-in_err-signature.ensures.1) (⊎_elim
    (λ n. rw n.0 (texts.no_base64 _ _ _ _ label (ap is_base64 (sym trimmed) ∙ n.1)))
    (λ n. rw n.0 (texts.too_short _ _ _ _ label (ap is_base64 (sym trimmed) ∙ n.1) (rw trimmed at n.2)))
    c.in_err-signature.ensures)

pub returns-in_err-trusted_comment-clause-refused : goal.returns-in_err-trusted_comment-clause-refused
returns-in_err-trusted_comment-clause-refused c =
    let label = texts.begins _ untrusted_comment_label _ c.in_ok-untrusted_comment.ensures in
    let encodes = rw c.trim.ensures.trim at c.in_ok-signature.ensures in
    let refused = c.in_err-trusted_comment.ensures in
    rw (err_is _ _ c.from_residual-in_err-trusted_comment.ensures.1, refused.0)
    (texts.other_trusted_label _ _ _ _ label _ encodes (texts.begins_not _ _ refused.1))

pub returns-in_err-signature-2-clause-refused : goal.returns-in_err-signature-2-clause-refused
returns-in_err-signature-2-clause-refused c =
    let label = texts.begins _ untrusted_comment_label _ c.in_ok-untrusted_comment.ensures in
    let encodes = rw c.trim.ensures.trim at c.in_ok-signature.ensures in
    let trusted = texts.begins _ trusted_comment_label _ c.in_ok-trusted_comment.ensures in
    let refused = c.in_err-signature-2.ensures in
    rw (err_is _ _ c.from_residual-in_err-signature-2.ensures.1, refused.0)
    (texts.unknown _ _ _ _ label _ encodes trusted refused.1)

pub returns-then-not-is_base64-clause-refused : goal.returns-then-not-is_base64-clause-refused
returns-then-not-is_base64-clause-refused c =
    let label = texts.begins _ untrusted_comment_label _ c.in_ok-untrusted_comment.ensures in
    let encodes = rw c.trim.ensures.trim at c.in_ok-signature.ensures in
    let trusted = texts.begins _ trusted_comment_label _ c.in_ok-trusted_comment.ensures in
    let same = c.in_ok-signature-2.ensures in
    let algorithm = texts.known_is_accepted _ (rw same.0 at same.1) in
    let other : is_base64 c.trim-comment_signature.result.now ≡ false = search rules in
    rw c.into.ensures (texts.no_comment_base64 _ _ _ _ label _ encodes trusted algorithm
    (ap is_base64 (sym c.trim-comment_signature.ensures.trim) ∙ other))

pub returns-clause-read : goal.returns-clause-read
returns-clause-read c =
    let label = texts.begins _ untrusted_comment_label _ c.in_ok-untrusted_comment.ensures in
    let same = c.in_ok-signature-2.ensures in
    let encoded = rw c.trim.ensures.trim at c.in_ok-signature.ensures in
    let encodes = rw (sym same.0) at encoded in
    let trusted = texts.begins _ trusted_comment_label _ c.in_ok-trusted_comment.ensures in
    let algorithm = texts.known_is_accepted _ same.1 in
    let signed : is_base64 c.trim-comment_signature.result.now ≡ true = search rules in
    texts.all_passed _ _ _ _ label _ encodes trusted algorithm _ _ _
    (ap is_base64 (sym c.trim-comment_signature.ensures.trim) ∙ signed)
    (ap (drop (length untrusted_comment_label)) c.in_ok-untrusted_comment.ensures
    ∙ drop-append_seam untrusted_comment_label _)
    (ap (λ l. trim (drop (length trusted_comment_label) l)) c.in_ok-trusted_comment.ensures
    ∙ ap trim (drop-append_seam trusted_comment_label _) ∙ sym c.trim-2.ensures.trim)
    (ap base64_bytes (sym c.trim-comment_signature.ensures.trim))

pub returns-clause-parts : goal.returns-clause-parts
returns-clause-parts c =
    let long = long_enough _ _ c.in_ok-signature.ensures in
    let comment = ap length c.in_ok-trusted_comment.ensures in (
      search rules,
      c.in_ok-signature-2.ensures.1,
      omega (
        arith,
        long,
        c.trim.ensures.bound,
        c.trim-2.ensures.bound,
        comment,
        length-append trusted_comment_label c.in_ok-trusted_comment.trusted_comment.now,
      ),
    )
