-- Known values of the definitions, so that a wrong definition makes the proof fail.
use Rattle.std.proofs.Common.{◌≡◌, ℕ, [], ◌∷◌, ◌++◌, drop, replicate, Ok, Err, codes, refl}
use Rattle.std.specs.Fmt.{char_count, digits, padded_integral}
use Rattle.std.specs.Str.{chars, is_utf8}
use lib.Utf8.{encode}
use Rattle.minisign_base.specs.KeyIds.{key_id_text}
use Rattle.minisign_base.specs.Fault.{Named}
use Rattle.minisign_base.specs.declared.faults.NamedFault.TheVariants.{EndOfInput, InvalidParameters, NotUtf8}
use Rattle.minisign_base.specs.declared.faults.NamedFault.TheVariants.{ParametersTooHigh, PasswordTooLong}
use Rattle.minisign_base.specs.Limits.{cost_log2, limits, numbers, sealing_limits}
use Rattle.minisign_base.specs.Passwords.{accepted_line, first_line, password_of, read_count}

-- The text of a key ID has its last byte first.
pub key_id_of_counted_bytes : key_id_text (1 ∷ 2 ∷ 3 ∷ 4 ∷ 5 ∷ 6 ∷ 7 ∷ 8 ∷ []) ≡ codes "0807060504030201"
unfolding key_id_text padded_integral digits char_count
key_id_of_counted_bytes = refl

-- Leading zeros are written: the text always has 16 digits.
pub key_id_of_one_byte : key_id_text (0xab ∷ 0 ∷ 0 ∷ 0 ∷ 0 ∷ 0 ∷ 0 ∷ 0 ∷ []) ≡ codes "00000000000000AB"
unfolding key_id_text padded_integral digits char_count
key_id_of_one_byte = refl

-- The limits of generated keys. The memory limit comes first in all these calls, then the operations limit.
pub limits_of_generated_keys : sealing_limits 33554432 1048576 ≡ Ok (record { n_log2 = 15; r = 8; p = 1 })
unfolding limits numbers cost_log2
limits_of_generated_keys = refl

-- The limits with which the C program minisign encrypts keys.
pub limits_of_sensitive_keys : sealing_limits 1073741824 33554432 ≡ Ok (record { n_log2 = 20; r = 8; p = 1 })
unfolding limits numbers cost_log2
limits_of_sensitive_keys = refl

-- With few operations for the memory, the operations limit determines N.
pub limits_of_few_operations : limits (numbers 2147483648 0) 20 ≡ Ok (record { n_log2 = 10; r = 8; p = 1 })
unfolding limits numbers cost_log2
limits_of_few_operations = refl

-- Encrypting and decrypting keys reject memory limits above 1073741824 bytes, although N would be allowed.
pub memory_limit_above_the_maximum : sealing_limits 2147483648 0 ≡ Err (Named ParametersTooHigh)
unfolding limits numbers cost_log2
memory_limit_above_the_maximum = refl

-- N is at most 2 to the power of the given bound.
pub limits_above_the_bound : limits (numbers 33554432 1048576) 14 ≡ Err (Named ParametersTooHigh)
unfolding limits numbers cost_log2
limits_above_the_bound = refl

-- The operations limit divided by 4 * N is reduced to its low 32 bits, which are zeros here. So p is 0, which
-- scrypt rejects.
pub limits_without_parallelization : limits (numbers 0 1099511627776) 20 ≡ Err (Named InvalidParameters)
unfolding limits numbers cost_log2
limits_without_parallelization = refl

-- A password ends before the first line feed, or before one carriage return that is directly before the line
-- feed.
pub password_before_line_feed : password_of (codes "password" ++ 10 ∷ codes "more") ≡ Ok (codes "password")
unfolding password_of first_line accepted_line is_utf8 chars encode
password_before_line_feed = refl

-- Only one carriage return before the line feed is dropped.
pub password_before_carriage_return : password_of (97 ∷ 13 ∷ 13 ∷ 10 ∷ []) ≡ Ok (97 ∷ 13 ∷ [])
unfolding password_of first_line accepted_line is_utf8 chars encode
password_before_carriage_return = refl

-- Without a line feed, a carriage return belongs to the password.
pub password_of_carriage_return_at_the_end : password_of (13 ∷ []) ≡ Ok (13 ∷ [])
unfolding password_of first_line accepted_line is_utf8 chars encode
password_of_carriage_return_at_the_end = refl

-- An empty line is an empty password.
pub password_of_empty_lines : (password_of (10 ∷ []) ≡ Ok []) × (password_of (13 ∷ 10 ∷ []) ≡ Ok [])
unfolding password_of first_line accepted_line is_utf8 chars encode
password_of_empty_lines = (refl, refl)

-- No input at all is an error.
pub password_of_no_input : password_of [] ≡ Err (Named EndOfInput)
unfolding password_of
password_of_no_input = refl

-- A line that is not UTF-8 is an error.
pub password_not_utf8 : password_of (255 ∷ 10 ∷ []) ≡ Err (Named NotUtf8)
unfolding password_of first_line accepted_line is_utf8 chars encode
password_not_utf8 = refl

-- A password may have 1024 bytes, not counting the carriage return and the line feed.
pub password_of_1024_letters : password_of (replicate 1024 97 ++ 13 ∷ 10 ∷ []) ≡ Ok (replicate 1024 97)
unfolding password_of first_line accepted_line is_utf8 chars encode
password_of_1024_letters = refl

-- 1024 letters and a carriage return, but no line feed, are a password of 1025 bytes, which is too long.
pub password_of_1025_bytes : password_of (replicate 1024 97 ++ 13 ∷ []) ≡ Err (Named PasswordTooLong)
unfolding password_of first_line accepted_line is_utf8 chars encode
password_of_1025_bytes = refl

-- 1025 letters and a carriage return are 1026 bytes, the most that are read. The line feed after them is left
-- unread.
pub password_of_1026_bytes : (password_of (replicate 1025 97 ++ 13 ∷ 10 ∷ []) ≡ Err (Named PasswordTooLong))
    × (drop {A = ℕ} (read_count (replicate 1025 97 ++ 13 ∷ 10 ∷ [])) (replicate 1025 97 ++ 13 ∷ 10 ∷ []) ≡ 10
    ∷ [])
unfolding password_of
password_of_1026_bytes = (refl, refl)

-- If 1026 bytes have no line feed, the error is PasswordTooLong, even if they are not UTF-8. For 1025 such
-- bytes the error is NotUtf8, because UTF-8 is checked before the length of the line.
pub password_of_long_input_not_utf8 : (password_of (replicate 1026 255) ≡ Err (Named PasswordTooLong))
    × (password_of (replicate 1025 255) ≡ Err (Named NotUtf8))
unfolding password_of first_line accepted_line is_utf8 chars encode
password_of_long_input_not_utf8 = (refl, refl)
