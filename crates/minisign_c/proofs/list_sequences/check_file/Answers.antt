-- Proves the goals of `check_file` that the prover leaves open.
use Rattle.std.proofs.Common.{◌≡◌, ◌∙◌, ◌<◌, arith, refl}
use Rattle.minisign_external.specs.Signing.{joined}
use Rattle.minisign_lists.specs.Values.{long_numbered}
use Rattle.minisign_c.specs.ListSequences.{lookup_of}
use Rattle.minisign_c.proofs.ListVerdicts.{data_of_found, found_by_lookup, not_found_number}
use Rattle.minisign_c.proofs.list_sequences.check_file.Goals as goal

pub returns-then-number-ne0 : goal.returns-then-number-ne0
returns-then-number-ne0 c = λ list_name.
    let x = lookup_of list_name c.args.list.now c.args.long_digest c.args.name.now in
    let some : 0 < c.minisign_list_find-number.result = omega arith in
    not_found_number c.args.verified.now x c.requires (long_numbered c.args.long_digest) refl _ _ _ _
    (joined c.args.pieces.now) c.minisign_list_find-number.ensures.number some

pub returns : goal.returns
returns c = λ list_name.
    let x = lookup_of list_name c.args.list.now c.args.long_digest c.args.name.now in
    let none : c.minisign_list_find-number.result ≡ 0 = omega arith in
    let f = found_by_lookup c.args.verified.now x (long_numbered c.args.long_digest) refl _ _ _ _
    c.minisign_list_find-number.ensures.number none in
    c.check_data.ensures f.entry.digest
    (c.minisign_list_find-number.ensures.digest none f.long f.entry f.has_long f.found)
    ∙ data_of_found c.args.verified.now x (joined c.args.pieces.now) c.requires f
