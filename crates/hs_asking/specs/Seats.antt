-- A client alone: what its session holds, and what it can rely on.
use Rattle.std.specs.List.{AllByRecursion}
use Rattle.std.specs.Prelude.{ℕ, ◌+◌, ◌≡◌, ◌≤◌, List, [], ◌∷◌, Some, slice_index}
use Rattle.hs_asking.specs.Lawful.{AreBlocks}
use Rattle.hs_laws.specs.Distinct.{HasDistinctAddresses}
use Rattle.hs_laws.specs.Valid.{IsValid}
use Rattle.hs_limits.specs.declared.address.Held.{Held}
use Rattle.hs_model.specs.Store.{Store, session_at}

-- a valid store of blocks, no two of which have one address
pub record IsSane (s : Store) : Type 0 where
  pub valid : IsValid s
  pub distinct : HasDistinctAddresses s
  pub blocks : AreBlocks s

-- the numbers of some handles ascend from low, and stay below next
abbrev pub Ascend : ℕ → List (ℕ × Held) → ℕ → Type 0
Ascend low [] next = low ≤ next
Ascend low (e ∷ es) next = (low ≤ e.0) × Ascend (e.0 + 1) es next

-- a session has these handles, each of which may be used as long as shard 0 stays in its epoch, and next is the number of the next one
pub record HasSeat (s : Store) (name : List ℕ) (next : ℕ) (held : List (ℕ × Held)) : Type 0 where
  pub sane : IsSane s
  pub opened : session_at s name ≡ Some (record { next = next; handles = held })
  pub ascend : Ascend 0 held next
  pub fresh : AllByRecursion (λ e. slice_index s.epochs 0 ≤ e.1.epoch + 1) held

-- some handles in a row, from a number on
abbrev pub numbered : ℕ → List Held → List (ℕ × Held)
numbered n [] = []
numbered n (held ∷ rest) = (n, held) ∷ numbered (n + 1) rest
