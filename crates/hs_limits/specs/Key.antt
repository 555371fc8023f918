-- Keys of retention roots.
use Rattle.std.specs.Prelude.{ℕ, Bool, List, length, nat_le, ◌==◌, ◌&&◌, ◌||◌}
use Rattle.std.specs.List.{list_all}

-- one of a-z 0-9 . _ -
abbrev pub is_key_byte : ℕ → Bool
is_key_byte b = (((nat_le 97 b && nat_le b 122) || (nat_le 48 b && nat_le b 57)) || b == 46) || b == 95 || b == 45

-- 1 to 64 bytes of a-z 0-9 . _ -
abbrev pub is_key : List ℕ → Bool
is_key bytes = (nat_le 1 (length bytes) && nat_le (length bytes) 64) && list_all is_key_byte bytes
