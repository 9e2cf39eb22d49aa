-- Proves the goals of `Progress::write_new_record` that the prover leaves open.
use Rattle.std.proofs.Common.{◌≡◌, ◌<◌, ◌^◌, ◌∙◌, ℕ, arith, length, rules, sym}
use Rattle.hex.specs.Hex.{IsBytes}
use Rattle.minisign_install.proofs.HeldStates.{new_record_is, numbering_is, record_same, is_written}
use Rattle.minisign_install.proofs.installation.progress.Progress.write_new_record.Goals as goal

pub returns-clause-written : goal.returns-clause-written
returns-clause-written c = λ s state_held first.
    is_written _ _ _ _ _ (record_same (c.numbering.ensures ∙ sym (numbering_is c.args.self.now s state_held))
    (c.new_version-version.ensures s state_held) (c.new_key.ensures s state_held first)
    (c.digest.ensures s state_held))
    c.write_record.ensures.written c.write_record.ensures.rest_unchanged c.write_record.ensures.unwritten

pub returns-clause-reads_back : goal.returns-clause-reads_back
returns-clause-reads_back c =
    let bytes : IsBytes c.new_key.result = search rules in
    let digits : IsBytes c.digest.result = search rules in
    λ s state_held first some.
    let (fits, is) = c.write_record.ensures.written some in
    let m : ℕ = c.new_version-version.result in
    let bound : m < 2 ^ 64 = omega arith in
    let whole : length c.new_key.result ≡ 32 = omega arith in
    let long : length c.digest.result ≡ 64 = omega arith in
    new_record_is s _ _ _ _ (sym (c.numbering.ensures ∙ sym (numbering_is c.args.self.now s state_held)))
    (sym (c.new_version-version.ensures s state_held)) (sym (c.new_key.ensures s state_held first))
    (sym (c.digest.ensures s state_held)) bound whole bytes long digits is
