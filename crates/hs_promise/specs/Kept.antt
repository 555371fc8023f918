-- Clause 2, what is kept.
use Rattle.std.specs.Prelude.{ℕ}
use Rattle.hs_model.specs.Store.{Store}
use Rattle.hs_promise.specs.Answers.{store_before}
use Rattle.hs_laws.specs.Kept.{KeepsAll}
use Rattle.hs_promise.specs.Run.{Ran, Script}

-- so it is behind each front of the journal
abbrev pub KeepsAlong : Script → Store → Ran → Type 0
KeepsAlong S entry r = (place : ℕ) → KeepsAll (store_before S entry r.journal place)
