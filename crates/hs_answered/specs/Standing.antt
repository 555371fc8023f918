-- The plain store of a core: that of the folds which its catalogues are, with its sessions.
use Rattle.std.specs.Prelude.{◌≡◌, ℕ, ◌+◌, List, [], ◌∷◌, IsSome, length}
use Rattle.hs_core_words.specs.Looking.{shape_of}
use Rattle.hs_core_words.specs.State.{Core}
use Rattle.hs_fold.specs.Runs.Facts.{Catalogue as Folded}
use Rattle.hs_fold.specs.Runs.Opened.{store_of}
use Rattle.hs_fold.specs.Runs.Own.{AreOwn}
use Rattle.hs_limits.specs.declared.shape.Shape.{Shape}
use Rattle.hs_limits.specs.Shape.{IsShape}
use Rattle.hs_memory.specs.Forget.{forget}
use Rattle.hs_model.specs.declared.op.Op.{Op}
use Rattle.hs_model.specs.declared.op.Op.TheVariants as op
use Rattle.hs_model.specs.Store.{Store, with_sessions}
use Rattle.hs_shard.specs.Facts.{Catalogue}
use Rattle.hs_shown.specs.Showing.{as_sessions}
use Rattle.hs_tokens.specs.Seats.{Seats, held_at, seat_of}

-- some folds as memory has them, from a shard on
abbrev pub forget_all : Shape → ℕ → List Folded → List Catalogue
forget_all shape shard [] = []
forget_all shape shard (c ∷ cs) = forget shape shard c ∷ forget_all shape (shard + 1) cs

-- the plain store of some folds, where these sessions are open
abbrev pub store_with : List Folded → Seats → Store
store_with cs seats = with_sessions (store_of cs) (as_sessions seats)

-- the catalogues of a core are these folds, one for each shard, each of its shard, in order, and with no key retained twice
pub record IsFolded (core : Core) (cs : List Folded) : Type 0 where
  pub valid : IsShape (shape_of core)
  pub shards : length cs ≡ (shape_of core).shards
  pub own : AreOwn (shape_of core).shards 0 cs
  pub catalogues : core.catalogues ≡ forget_all (shape_of core) 0 cs

-- an operation has the address of the block that it looks at: a write was given one, and the handle of a read is held
abbrev pub IsAddressed : Seats → Op → Type 0
IsAddressed seats (op.Write name payload handles address) = IsSome address
IsAddressed seats (op.Read name handle) = IsSome (held_at (seat_of name seats) handle)
IsAddressed seats other = Unit {0}
