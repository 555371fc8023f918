use Rattle.std.proofs.Common.{◌↔◌, [], drop, map, take}
use Rattle.hs_journal.specs.Deeds.{as_deed}
use Rattle.hs_model.specs.Deeds.{AreDeeds}
use Rattle.hs_plain.proofs.memory_store.MemoryStore.replay.Given as goal

-- the rest are deeds from here on where all of them were from the start
abbrev pub invariant-loop-at : goal.invariant-loop-at
invariant-loop-at l =
    AreDeeds l.limits l.self (map as_deed (take l.at l.entries)) (map as_deed (drop l.at l.entries)) ↔ AreDeeds l.limits l.fn.self [] (map as_deed l.entries)
