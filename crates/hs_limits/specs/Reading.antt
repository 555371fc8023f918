-- Reading a block from its bytes, with the first fault that is met.
use Rattle.std.specs.Prelude.{ℕ, zero, suc, ◌*◌, ◌-◌, List, [], ◌∷◌, length, take, drop, Result, Ok, nat_le, ◌==◌}
use Rattle.std.specs.Int.{w16, w32}
use Rattle.hs_limits.specs.declared.address.Address.{Address}
use Rattle.hs_limits.specs.declared.spelling.SpellingFault.{SpellingFault}
use Rattle.hs_limits.specs.declared.spelling.TheConstants.{MOST_POINTERS, MOST_BYTES}
use Rattle.hs_limits.specs.declared.spelling.SpellingFault.TheVariants.{Short, BadVersion, TooMany, TooLong, Trailing}
use Rattle.hs_limits.specs.Block.{Block}
use Rattle.hs_limits.specs.Fields.{◌>>=◌, check, byte_at, bytes_at, number_at}

-- so many addresses, 32 bytes each
unfoldable pub addresses : ℕ → List ℕ → List Address
addresses zero bytes = []
addresses (suc n) bytes = record { 0 = take 32 bytes } ∷ addresses n (drop 32 bytes)

-- the block at the front of an input of whole bytes, and the bytes behind it
unfoldable pub block_at : ℕ → List ℕ → Result (Block × List ℕ) SpellingFault
block_at whole bytes = do
  version ← byte_at (Short whole) bytes
  known ← check (version.0 == 1) (BadVersion version.0)
  count ← number_at (Short whole) w16 version.1
  few ← check (nat_le count.0 MOST_POINTERS) (TooMany count.0)
  pointers ← bytes_at (Short whole) (32 * count.0) count.1
  len ← number_at (Short whole) w32 pointers.1
  small ← check (nat_le len.0 MOST_BYTES) (TooLong len.0)
  content ← bytes_at (Short whole) len.0 len.1
  Ok (record { pointers = addresses count.0 pointers.0; bytes = content.0 }, content.1)

-- the block that the bytes spell, all of them
unfoldable pub read_block : List ℕ → Result Block SpellingFault
read_block bytes = do
  block ← block_at (length bytes) bytes
  ended ← check (length block.1 == 0) (Trailing (length bytes - length block.1))
  Ok block.0
