-- Two texts that are read from files.
use Rattle.std.specs.Prelude.{◌≡◌, ℕ, ◌⊎◌, List}
use Rattle.minisign.specs.Fault.{Fault}
use Rattle.minisign.specs.DeviceCalls.{SourceCall}
use Rattle.minisign.specs.Reading.{ReadsWhole, IsTextFault}

-- Two files were read whole, and these are their texts.
pub record ReadsBoth {P Q : Type 0} (first : SourceCall P) (second : SourceCall Q)
    (first_text second_text : List ℕ) : Type 0 where
  pub first_read : ReadsWhole first.source first.old first.new first_text
  pub second_read : ReadsWhole second.source second.old second.new second_text

-- One of two files could not be read as a text. If it is the first, the second is unchanged.
abbrev pub EitherFails : {P Q : Type 0} → SourceCall P → SourceCall Q → Fault → Type 0
EitherFails first second e =
    (IsTextFault first.source first.old first.new e × (second.new ≡ second.old))
    ⊎ ((first_text : List ℕ) × ReadsWhole first.source first.old first.new first_text
    × IsTextFault second.source second.old second.new e)
