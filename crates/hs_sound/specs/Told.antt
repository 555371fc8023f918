-- What a round that is kept as sent tells which shard.
use Rattle.std.specs.Prelude.{◌≡◌, ℕ, length, All, Some, slice_get}
use Rattle.hs_limits.specs.Shape.{shard_of}
use Rattle.hs_rounds.specs.declared.body.RoundBody.{RoundBody}
use Rattle.hs_rounds.specs.declared.sending.SentRound.{SentRound}
use Rattle.hs_fold.specs.Runs.Facts.{Catalogue}

-- it tells each of so many shards something, and none of another one's blocks
pub record TellsEachItsOwn (shards : ℕ) (kept : SentRound) : Type 0 where
  pub each : length kept.bodies ≡ shards
  pub own : (to : ℕ) (told : RoundBody) → slice_get kept.bodies to ≡ Some told → All (λ d. shard_of shards d.address ≡ to) told.deltas

-- so does each round that a catalogue keeps
abbrev pub KeptTellEachItsOwn : ℕ → Catalogue → Type 0
KeptTellEachItsOwn shards c = All (TellsEachItsOwn shards) c.sent
