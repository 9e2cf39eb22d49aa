-- The new contents of a file, the place where it is, and the errors of replacing one.
use Rattle.std.specs.Prelude.{◌≡◌, ◌⊎◌, ◌++◌, ℕ, Bool, true, false, List, codes}
use Rattle.minisign.specs.Fault.{Fault, Named}
use Rattle.minisign.specs.NamedFaults.{OutOfMemory, WritingFailed}
use Rattle.minisign_tool.specs.declared.replacing.Contents.{Contents}
use Rattle.minisign_tool.specs.declared.replacing.Place.{Place}
use Rattle.minisign_tool.specs.declared.replacing.Place.TheVariants.{File, Stream}

-- The permission bits of a new file that everybody may read and write, 0o666, and of one that only
-- its owner may read and write, 0o600.
abbrev pub mode_for_all : ℕ
mode_for_all = 438

abbrev pub mode_for_owner : ℕ
mode_for_owner = 384

-- The contents are for the file at this path: these bytes, and these permission bits if the file is
-- new.
pub record HoldsContents (c : Contents) (path : List ℕ) (mode : ℕ) (bytes : List ℕ) : Type 0 where
  pub path_given : c.path.now ≡ path
  pub mode_given : c.mode ≡ mode
  pub bytes_given : c.bytes.now ≡ bytes

-- The error is out of memory, for a failed allocation, or writing failed, for a failed system call.
abbrev pub IsWriteFault : Fault → Type 0
IsWriteFault e = (e ≡ Named OutOfMemory) ⊎ (e ≡ Named WritingFailed)

-- True if a regular file is at the place, or no file yet.
abbrev pub is_file : Place → Bool
is_file (File place) = true
is_file Stream = false

-- The joined path is the other path in the directory of the first one, or else the other path itself.
abbrev pub IsBeside : List ℕ → List ℕ → List ℕ → Type 0
IsBeside path other joined = (joined ≡ other) ⊎ ((directory name : List ℕ)
    × (path ≡ directory ++ codes "/" ++ name) × (joined ≡ directory ++ codes "/" ++ other))

-- The name of a temporary file: `.minisign_tool-`, and a number.
abbrev pub IsTemporaryName : List ℕ → Type 0
IsTemporaryName name = (number : List ℕ) × (name ≡ codes ".minisign_tool-" ++ number)
