-- Namings: which address belongs to a block's spelling.
use Rattle.std.specs.Prelude.{ℕ, ◌-◌, List, ◌++◌, length, drop, replicate}
use Rattle.hs_limits.specs.declared.address.Address.{Address}
use Rattle.sha2.specs.Sha256.{sha256}

-- the SHA-256 digest
abbrev pub sha_name : List ℕ → Address
sha_name bytes = record { 0 = sha256 bytes }

-- the last 32 bytes, behind zeros where there are fewer
abbrev pub tail_name : List ℕ → Address
tail_name bytes = record { 0 = replicate (32 - length bytes) 0 ++ drop (length bytes - 32) bytes }
