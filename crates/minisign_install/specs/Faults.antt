-- The errors of an installation: the number that applications in other languages see, the kind, and the text
-- that programs print.
use Rattle.std.specs.Prelude.{◌≡◌, ◌≢◌, Bool, ℕ, List, codes, false, true}
use Rattle.minisign_base.specs.Fault.{kind_of, text_of}
use Rattle.minisign_base.specs.Faults.{FaultRow, row}
use Rattle.minisign_base.specs.declared.errors.ErrorKind.TheVariants.{Io, Misc, Verify}
pub use Rattle.minisign_base.specs.Fault.{Fault, Named}
pub use Rattle.minisign_base.specs.Devices.{ErrorCountRises}
pub use Rattle.minisign_base.specs.declared.faults.NamedFault.TheVariants.{NotUtf8, OutOfMemory}
pub use Rattle.minisign_base.specs.declared.faults.NamedFault.TheVariants.{RandomSourceFailed, ReadingFailed}
pub use Rattle.minisign_base.specs.declared.faults.NamedFault.TheVariants.{WritingFailed}
use Rattle.minisign_external.specs.Numbers.{IsListedMeaning, IsUnlisted, fault_number, unknown_text}
pub use Rattle.minisign_install.specs.declared.faults.InstallFault.{InstallFault}
pub use Rattle.minisign_install.specs.declared.faults.InstallFault.TheVariants.{Library, TargetInUse}
pub use Rattle.minisign_install.specs.declared.faults.InstallFault.TheVariants.{NoRecord, DamagedRecord}
pub use Rattle.minisign_install.specs.declared.faults.InstallFault.TheVariants.{KeptByTimestamp}
pub use Rattle.minisign_install.specs.declared.faults.InstallFault.TheVariants.{KeptByVersion, OtherFile}
pub use Rattle.minisign_install.specs.declared.faults.InstallFault.TheVariants.{NoNumber, OlderUpdate}
pub use Rattle.minisign_install.specs.declared.faults.InstallFault.TheVariants.{DirectoryNotSynced, Expired}
pub use Rattle.minisign_install.specs.declared.faults.InstallFault.TheVariants.{BadExpiry, SameNumber}
pub use Rattle.minisign_install.specs.declared.faults.InstallFault.TheVariants.{NoExpiry, BadSize, OtherSize}
pub use Rattle.minisign_install.specs.declared.faults.InstallFault.TheVariants.{BadName, MalformedLine}
pub use Rattle.minisign_install.specs.declared.faults.InstallFault.TheVariants.{NotListed, ListedTwice}
pub use Rattle.minisign_install.specs.declared.faults.InstallFault.TheVariants.{DigestMismatch}

-- The number, the kind and the text of each error.
abbrev pub install_row : InstallFault → FaultRow
install_row (Library fault) = row (fault_number fault) (kind_of fault) (text_of fault)
install_row TargetInUse = row 46 Io (codes "another installation of this file is running")
install_row NoRecord = row 47 Io (codes "no version is recorded yet")
install_row DamagedRecord = row 48 Io (codes "the version record is damaged")
install_row OtherFile = row 49 Verify (codes "the trusted comment does not name the file to install")
install_row NoNumber = row 50 Verify (codes "the trusted comment has no valid version number")
install_row OlderUpdate = row 51 Verify (codes "the update is older than the recorded version")
install_row DirectoryNotSynced =
    row 52 Io (codes "the update is installed, but the directory could not be synced to disk")
install_row KeptByTimestamp =
    row 53 Io (codes "the version record holds a timestamp, not a version")
install_row KeptByVersion =
    row 54 Io (codes "the version record holds a version, not a timestamp")
install_row Expired = row 55 Verify (codes "the update has expired")
install_row BadExpiry =
    row 56 Verify (codes "the trusted comment has an invalid or repeated expires: field")
install_row SameNumber =
    row 57 Verify (codes "this version is already recorded, but the installed file is different")
install_row NoExpiry = row 58 Verify (codes "the trusted comment does not say when the update expires")
install_row BadSize =
    row 59 Verify (codes "the trusted comment has an invalid or repeated size: field")
install_row OtherSize = row 60 Verify (codes "the size of the data is not the one in the trusted comment")
install_row BadName = row 90 Misc (codes "a list can only contain relative paths without .. or special characters")
install_row MalformedLine = row 91 Misc (codes "a line of the list is malformed")
install_row NotListed = row 92 Verify (codes "the list does not contain this name")
install_row ListedTwice = row 93 Verify (codes "the list contains this name twice")
install_row DigestMismatch = row 94 Verify (codes "the digest of the data is not the one in the list")

-- The number of an error. An error of the library keeps its number.
abbrev pub install_number : InstallFault → ℕ
install_number e = (install_row e).number

-- The error is an installation error, not one of the library.
abbrev pub is_installer_fault : InstallFault → Bool
is_installer_fault (Library fault) = false
is_installer_fault e = true

-- The text for this error number: the text of the installation error or of the library's error (without key
-- IDs) with this number, or the text for an unknown number.
pub record IsErrorText (n : ℕ) (text : List ℕ) : Type 0 where
  pub library : IsListedMeaning n text
  pub installer : (e : InstallFault) → is_installer_fault e ≡ true → n ≡ install_number e
      → text ≡ (install_row e).summary
  pub unknown : IsUnlisted n → ((e : InstallFault) → is_installer_fault e ≡ true → n ≢ install_number e)
      → text ≡ unknown_text
