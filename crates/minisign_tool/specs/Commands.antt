-- The commands and their arguments.
use Rattle.std.specs.Prelude.{◌≡◌, ℕ, ◌⊎◌, List, [], ◌∷◌, Option, Some, None, codes}
use Rattle.minisign_tool.specs.declared.commands.Command.{Command}
use Rattle.minisign_tool.specs.declared.commands.Command.TheVariants.{Cat, Keygen, Sign, Usage, Verify}
use Rattle.minisign_tool.specs.declared.commands.Command.TheVariants.{VerifyRaw}

-- The words are this name and two paths.
abbrev pub NamesTwo : List (List ℕ) → List ℕ → Type 0
NamesTwo words name = (first second : List ℕ) × (words ≡ name ∷ first ∷ second ∷ [])

-- The words are this name and three paths.
abbrev pub NamesThree : List (List ℕ) → List ℕ → Type 0
NamesThree words name = (first second third : List ℕ) × (words ≡ name ∷ first ∷ second ∷ third ∷ [])

-- The words have one of the five forms.
abbrev pub IsForm : List (List ℕ) → Type 0
IsForm words =
    NamesTwo words (codes "keygen") ⊎ NamesThree words (codes "sign") ⊎ NamesThree words (codes "verify")
    ⊎ NamesTwo words (codes "verify-raw") ⊎ NamesThree words (codes "cat")

-- The words ask for this command with these paths. Words of none of the five forms ask for the
-- usage.
abbrev pub AsksFor : List (List ℕ) → Command → Type 0
AsksFor words (Keygen pk sk) = words ≡ codes "keygen" ∷ pk.now ∷ sk.now ∷ []
AsksFor words (Sign sk file sig) = words ≡ codes "sign" ∷ sk.now ∷ file.now ∷ sig.now ∷ []
AsksFor words (Verify pk file sig) = words ≡ codes "verify" ∷ pk.now ∷ file.now ∷ sig.now ∷ []
AsksFor words (VerifyRaw pk sig) = words ≡ codes "verify-raw" ∷ pk.now ∷ sig.now ∷ []
AsksFor words (Cat pk file sig) = words ≡ codes "cat" ∷ pk.now ∷ file.now ∷ sig.now ∷ []
AsksFor words Usage = ¬ (IsForm words)

-- The arguments after the program's path ask for this command. They ask for the usage if one of
-- them is not UTF-8.
abbrev pub ReadAsksFor : Option (List (List ℕ)) → Command → Type 0
ReadAsksFor None command = command ≡ Usage
ReadAsksFor (Some words) command = AsksFor words command
