-- The permissions of a new file that replaces an old one.
use Rattle.std.specs.Prelude.{◌≡◌, ◌/◌, ◌%◌, ◌<◌, ◌^◌, ℕ, bit_and}

-- The three permission bits for the owner in a file's mode, those for the group, and those for all
-- others.
abbrev pub owner_bits : ℕ → ℕ
owner_bits mode = mode / 64 % 8

abbrev pub group_bits : ℕ → ℕ
group_bits mode = mode / 8 % 8

abbrev pub other_bits : ℕ → ℕ
other_bits mode = mode % 8

-- The mode has these bits for the owner, for the group and for all others, and no other bit.
pub record HasBits (mode of_owner of_group of_others : ℕ) : Type 0 where
  pub owner : owner_bits mode ≡ of_owner
  pub group : group_bits mode ≡ of_group
  pub others : other_bits mode ≡ of_others
  pub nothing_else : mode < 2 ^ 9

-- The owner and all others have the bits of the old mode. The group has those of its old bits that
-- all others have too.
abbrev pub KeepsPermissions : ℕ → ℕ → Type 0
KeepsPermissions older new =
    HasBits new (owner_bits older) (bit_and (group_bits older) (other_bits older)) (other_bits older)

-- The permissions of a file that could not get the group of the old one: the owner has its old
-- bits, the group has none, and all others have those that the group had too.
abbrev pub LosesGroup : ℕ → ℕ → Type 0
LosesGroup older new = HasBits new (owner_bits older) 0 (bit_and (group_bits older) (other_bits older))
