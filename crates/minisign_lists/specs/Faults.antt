-- The errors of checking a file against a signed list, and functions on results with these errors.
use Rattle.std.specs.Prelude.{Bool, ℕ, ◌==◌, codes, false, true, Option, Some, None, Result, Ok, Err}
use Rattle.std.specs.Prelude.{if◌then◌else◌}
use Rattle.minisign_base.specs.Fault.{Fault, kind_of, text_of}
use Rattle.minisign_base.specs.Faults.{FaultRow, row}
use Rattle.minisign_base.specs.declared.errors.ErrorKind.TheVariants.{Misc, Verify}
use Rattle.minisign_external.specs.Numbers.{fault_number}
pub use Rattle.minisign_lists.specs.declared.faults.ListFault.{ListFault}
pub use Rattle.minisign_lists.specs.declared.faults.ListFault.TheVariants.{Library, OtherList, BadName}
pub use Rattle.minisign_lists.specs.declared.faults.ListFault.TheVariants.{MalformedLine, NotListed}
pub use Rattle.minisign_lists.specs.declared.faults.ListFault.TheVariants.{ListedTwice}
pub use Rattle.minisign_lists.specs.declared.faults.ListFault.TheVariants.{DigestMismatch}

-- Applies a function that may fail to the value, or returns the error.
abbrev pub and_then : {V W : Type 0} → Result V ListFault → (V → Result W ListFault) → Result W ListFault
and_then (Ok v) more = more v
and_then (Err e) more = Err e

-- Wraps the error of the library in an error of this crate.
abbrev pub wrap_library_error : {V : Type 0} → Result V Fault → Result V ListFault
wrap_library_error (Ok v) = Ok v
wrap_library_error (Err e) = Err (Library e)

-- Applies a function to the value, or returns the error.
abbrev pub map_ok : {V W : Type 0} → (V → W) → Result V ListFault → Result W ListFault
map_ok f (Ok v) = Ok (f v)
map_ok f (Err e) = Err e

-- The result without its value.
abbrev pub checked : {V : Type 0} → Result V ListFault → Result Unit ListFault
checked (Ok v) = Ok tt
checked (Err e) = Err e

-- The number, the kind and the text of each error.
abbrev pub list_row : ListFault → FaultRow
list_row (Library fault) = row (fault_number fault) (kind_of fault) (text_of fault)
list_row OtherList = row 89 Verify (codes "the trusted comment does not name the list")
list_row BadName = row 90 Misc (codes "a list can only contain relative paths without .. or special characters")
list_row (MalformedLine line) = row 91 Misc (codes "a line of the list is malformed")
list_row NotListed = row 92 Verify (codes "the list does not contain this name")
list_row (ListedTwice line) = row 93 Verify (codes "the list contains this name twice")
list_row DigestMismatch = row 94 Verify (codes "the digest of the data is not the one in the list")

-- The number of an error.
abbrev pub list_number : ListFault → ℕ
list_number e = (list_row e).number

-- The list error with this number. Its line is 0.
abbrev pub list_fault_numbered : ℕ → Option ListFault
list_fault_numbered n =
    if n == 89 then Some OtherList
    else if n == 90 then Some BadName
    else if n == 91 then Some (MalformedLine 0)
    else if n == 92 then Some NotListed
    else if n == 93 then Some (ListedTwice 0)
    else if n == 94 then Some DigestMismatch else None

-- The error is a list error, not one of the library.
abbrev pub is_list_error : ListFault → Bool
is_list_error (Library fault) = false
is_list_error e = true

-- The number of the line at fault, or 0 if no line is at fault.
abbrev pub line_of_fault : ListFault → ℕ
line_of_fault (MalformedLine line) = line
line_of_fault (ListedTwice line) = line
line_of_fault e = 0
