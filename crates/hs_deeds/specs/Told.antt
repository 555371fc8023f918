-- What was judged, and what a shard did by itself, as entries of a journal.
use Rattle.std.specs.Prelude.{ℕ, List, [], ◌∷◌, Some, None}
use Rattle.hs_model.specs.Deeds.{DeedEntry, deed_store}
use Rattle.hs_model.specs.Judge.{Judged}
use Rattle.hs_model.specs.Store.{Store}

-- an operation was answered so under its line
abbrev pub answered_as : ℕ → Judged → DeedEntry
answered_as line judged = record { line = Some line; deed = judged.deed; reply = judged.reply }

-- a shard did so by itself
abbrev pub happened_as : Judged → DeedEntry
happened_as judged = record { line = None; deed = judged.deed; reply = judged.reply }

-- the store after some deeds
abbrev pub store_after : Store → List DeedEntry → Store
store_after s [] = s
store_after s (e ∷ es) = store_after (deed_store s e.deed) es
