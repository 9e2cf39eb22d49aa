-- The loop invariant of `mix_parts`.
use Rattle.std.proofs.Common.{◌≡◌, ◌^◌, ◌*◌, ◌<◌, ◌≤◌, length}
use Rattle.std.specs.Int.{div_ceil}
use Rattle.minisign_kdf.specs.Scrypt.{rom_mix}
use Rattle.minisign_kdf.proofs.Parts.{AreChanged}
use Rattle.minisign_kdf.proofs.key_derivation.mix_parts.Given as goal

abbrev pub invariant-parts : goal.invariant-parts
invariant-parts g l =
    AreChanged (rom_mix l.r (2 ^ l.n_log2)) l.len l.i l.fn.parts l.parts
    × (g.S.RowMemory.room l.fn.rows ≤ g.S.RowMemory.room l.rows)
    × (0 < l.i → length (g.S.RowMemory.words l.rows) ≡ 32 * l.r * div_ceil (2 ^ l.n_log2) l.k)
