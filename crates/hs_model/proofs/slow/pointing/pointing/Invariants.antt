use Rattle.std.proofs.Common.{◌≡◌, map, take}
use Rattle.hs_model.specs.Plain.{entry_of}
use Rattle.hs_model.specs.Pointing.{pointers_in}
use Rattle.hs_model.proofs.slow.pointing.pointing.Given as goal

-- what the blocks so far point to
abbrev pub invariant-loop-block : goal.invariant-loop-block
invariant-loop-block l = l.pointing.entries ≡ pointers_in (map entry_of (take l.block-index l.blocks))
