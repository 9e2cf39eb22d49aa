-- Known conversations (docs/FORMATS.md), so that a wrong definition makes the proof fail: what they
-- write, and which passwords differ.
use Rattle.std.proofs.Common.{◌≡◌, ℕ, List, [], ◌∷◌, ◌++◌, None, Some, codes, refl}
use Rattle.minisign.proofs.Common.{chars, is_utf8, Named, PasswordsDiffer, written, accepted_line, first_line}
use Rattle.minisign.proofs.Common.{password_of, typed_password}
use lib.Utf8.{encode}
use Rattle.minisign.specs.Generation.{choosing_steps, password_difference, sealing_steps, purpose_line}
use Rattle.minisign.specs.Generation.{sealing_text}
use Rattle.minisign.specs.Generation.{second_question}
use Rattle.minisign.specs.Sealing.{asking_text, deriving_text, done_text, opening_steps}
use Rattle.minisign.specs.Records.{SecretKeyRecord}

-- A line and its line feed.
abbrev typing : List ℕ → List ℕ
typing line = line ++ 10 ∷ []

-- A key is encrypted under a password that is typed twice.
pub written_while_sealing : written
    (choosing_steps (typing (codes "one")) (typing (codes "one")) ++ sealing_steps)
    ≡ codes "Please enter a password to protect the secret key.\nPassword: Password (one more time): Deriving a key from the password in order to encrypt the secret key... done\n"
unfolding password_of first_line accepted_line is_utf8 chars encode purpose_line asking_text second_question
    sealing_text done_text
written_while_sealing = refl

-- An empty password is reported each time.
pub written_for_empty_passwords : written (choosing_steps (typing []) (typing []))
    ≡ codes "Please enter a password to protect the secret key.\nPassword: <empty>\nPassword (one more time): <empty>\n"
unfolding password_of first_line accepted_line is_utf8 chars encode purpose_line asking_text second_question
written_for_empty_passwords = refl

-- A key is decrypted.
pub written_while_opening : (k : SecretKeyRecord) → written (opening_steps k None (typing (codes "one")))
    ≡ codes "Password: Deriving a key from the password and decrypting the secret key... done\n"
unfolding password_of first_line accepted_line is_utf8 chars encode asking_text deriving_text done_text
written_while_opening k = refl

-- The second password is a different one.
pub other_password : password_difference (typed_password (typing (codes "one")))
    (typed_password (typing (codes "two"))) ≡ Some (Named PasswordsDiffer)
unfolding password_of first_line accepted_line is_utf8 chars encode
other_password = refl

pub same_password : password_difference (typed_password (typing (codes "one")))
    (typed_password (typing (codes "one")))
    ≡ None
unfolding password_of first_line accepted_line is_utf8 chars encode
same_password = refl
