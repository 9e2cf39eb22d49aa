-- Proves the goals of `entry_in` that the prover leaves open.
use Rattle.std.proofs.Common.{ap, sym, Err, ◌∙◌}
use Rattle.std.proofs.lemmas.Str.{is_utf8-from_IsUtf8}
use Rattle.minisign_install.proofs.HeldListings.{looked_up, no_list_text, no_name_text}
use Rattle.minisign_install.proofs.SignatureFiles.{not_utf8}
use Rattle.minisign_install.proofs.installation.listing.entry_in.Goals as goal

pub returns-in-Ok-from_utf8 : goal.returns-in-Ok-from_utf8
returns-in-Ok-from_utf8 c =
    let (same, utf8) = c.in-Ok.ensures.cases in
    let (named, also) = c.in-Ok-from_utf8.ensures.cases in
    c.find_listed.ensures
    ∙ looked_up _ _ _ _ _ same named (is_utf8-from_IsUtf8 c.args.list.now utf8)
    (is_utf8-from_IsUtf8 c.args.name.now also)

pub returns-in-Err-from_utf8 : goal.returns-in-Err-from_utf8
returns-in-Err-from_utf8 c =
    let (same, utf8) = c.in-Ok.ensures.cases in
    ap (λ e. Err e) c.into.ensures
    ∙ sym (no_name_text _ _ _ (is_utf8-from_IsUtf8 c.args.list.now utf8)
    (not_utf8 c.args.name.now c.in-Err-from_utf8.ensures.cases.0))

pub returns-in-Err : goal.returns-in-Err
returns-in-Err c =
    ap (λ e. Err e) c.into-in-Err.ensures
    ∙ sym (no_list_text _ _ _ (not_utf8 c.args.list.now c.in-Err.ensures.cases.0))
