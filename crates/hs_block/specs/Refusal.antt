-- Why no block is made or read.
use Rattle.std.specs.Prelude.{◌≡◌, ℕ, ◌<◌, ◌≤◌, ⊤, List, length, Result, Ok, Err, IsOk}
use Rattle.hs_limits.specs.declared.address.Address.{Address}
use Rattle.hs_limits.specs.declared.spelling.SpellingFault.{SpellingFault}
use Rattle.hs_limits.specs.declared.spelling.TheConstants.{MOST_POINTERS, MOST_BYTES}
use Rattle.hs_limits.specs.declared.spelling.SpellingFault.TheVariants as reasons
use Rattle.hs_limits.specs.Block.{Block}
use Rattle.hs_block.specs.declared.fault.BlockFault.{BlockFault}
use Rattle.hs_block.specs.declared.fault.BlockFault.TheVariants.{Short, BadVersion, TooMany, TooLong, Trailing, NoMemory}

-- the fault has this cause in the pointers and bytes, and gives the number found there
abbrev pub IsCause : BlockFault → List Address → List ℕ → Type 0
IsCause (TooMany found) pointers bytes = (MOST_POINTERS < length pointers) × (found ≡ length pointers)
IsCause (TooLong found) pointers bytes =
    (length pointers ≤ MOST_POINTERS) × (MOST_BYTES < length bytes) × (found ≡ length bytes)
IsCause NoMemory pointers bytes = ⊤
IsCause (Short at) pointers bytes = ⊥
IsCause (BadVersion found) pointers bytes = ⊥
IsCause (Trailing at) pointers bytes = ⊥

-- the fault that says the same
abbrev pub block_fault : SpellingFault → BlockFault
block_fault (reasons.Short at) = Short at
block_fault (reasons.BadVersion found) = BadVersion found
block_fault (reasons.TooMany found) = TooMany found
block_fault (reasons.TooLong found) = TooLong found
block_fault (reasons.Trailing at) = Trailing at

-- what was answered is what reading gives, a block or the first fault; without memory there was a block to read
abbrev pub IsReading : Result Block BlockFault → Result Block SpellingFault → Type 0
IsReading (Ok block) read = read ≡ Ok block
IsReading (Err (Short at)) read = read ≡ Err (reasons.Short at)
IsReading (Err (BadVersion found)) read = read ≡ Err (reasons.BadVersion found)
IsReading (Err (TooMany found)) read = read ≡ Err (reasons.TooMany found)
IsReading (Err (TooLong found)) read = read ≡ Err (reasons.TooLong found)
IsReading (Err (Trailing at)) read = read ≡ Err (reasons.Trailing at)
IsReading (Err NoMemory) read = IsOk read
