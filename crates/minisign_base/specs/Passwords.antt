-- The password in a typed line.
use Rattle.std.specs.Prelude.{ℕ, ◌+◌, min, nat_lt, ◌==◌, not, List, [], length, take, Result, Ok, Err}
use Rattle.std.specs.Prelude.{if◌then◌else◌}
use Rattle.std.specs.List.{position_or_len}
use Rattle.std.specs.Result.{result_unwrap_or}
use Rattle.std.specs.Str.{is_utf8}
use Rattle.std.specs.Str.Lines.{strip_carriage_return}
use Rattle.minisign_base.specs.Fault.{Fault, Named}
use Rattle.minisign_base.specs.declared.faults.NamedFault.TheVariants.{EndOfInput, NotUtf8, PasswordTooLong}

-- The number of bytes before the first line feed, or of all bytes if there is none.
abbrev pub line_length : List ℕ → ℕ
line_length bytes = position_or_len (λ b. b == 10) bytes

-- The first line, without its line feed and without one carriage return before the line feed.
unfoldable pub first_line : List ℕ → List ℕ
first_line bytes =
    let line = take (line_length bytes) bytes in
    if nat_lt (line_length bytes) (length bytes) then strip_carriage_return line else line

-- The number of bytes that are read: the line and its line feed, but at most 1026.
abbrev pub read_count : List ℕ → ℕ
read_count bytes = min 1026 (line_length bytes + 1)

-- The line as a password. It must be UTF-8 of at most 1024 bytes.
unfoldable pub accepted_line : List ℕ → Result (List ℕ) Fault
accepted_line line =
    if not (is_utf8 line) then Err (Named NotUtf8)
    else (if nat_lt 1024 (length line) then Err (Named PasswordTooLong)
    else Ok line)

-- The password in the typed bytes, or the first error: no bytes at all, no line feed in 1026 bytes,
-- or a line that is not a valid password.
unfoldable pub password_of : List ℕ → Result (List ℕ) Fault
password_of bytes =
    if length bytes == 0 then Err (Named EndOfInput)
    else (if nat_lt 1025 (line_length bytes) then Err (Named PasswordTooLong)
    else accepted_line (first_line bytes))

-- The password in the typed bytes, or the empty list if there is none.
abbrev pub typed_password : List ℕ → List ℕ
typed_password bytes = result_unwrap_or (password_of bytes) []
