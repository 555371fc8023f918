-- Changes beside a run; what is told at once of an entry that takes effect, and what an operation waits for that may go on, are hs_anatomy's.
use Rattle.std.specs.Map.{values_of}
use Rattle.std.specs.Prelude.{◌≡◌, ℕ, ◌++◌, true, All, Contains}
pub use Rattle.hs_anatomy.specs.Effect.{tells_at_once, told_at_once}
pub use Rattle.hs_anatomy.specs.Once.{IsIdle}
use Rattle.hs_core_words.specs.Looking.{front_of, group_of, shape_of}
use Rattle.hs_core_words.specs.State.{Core}
use Rattle.hs_events.specs.Alone.{is_round}

-- ---- a change beside a run

-- it changes no catalogue, no list, no session, no operation, and tells nothing; each Round under way was under way before
pub record IsBeside (a b : Core) : Type 0 where
  pub limits : b.limits ≡ a.limits
  pub shape : shape_of b ≡ shape_of a
  pub catalogues : b.catalogues ≡ a.catalogues
  pub sessions : b.sessions ≡ a.sessions
  pub operations : b.operations ≡ a.operations
  pub told : (b.journal ++ b.refused) ++ b.entries ≡ (a.journal ++ a.refused) ++ a.entries
  pub waiting : (g : ℕ) → (group_of g b).waiting ≡ (group_of g a).waiting
  pub front : (g : ℕ) → front_of g b ≡ front_of g a
  pub rounds : All (λ m. is_round m ≡ true → Contains (values_of a.pool.messages) m) (values_of b.pool.messages)
