-- Catalogues of all shards beside the machine that the same entries make.
use Rattle.std.specs.Prelude.{◌≡◌, ℕ, ◌+◌, ◌<◌, List, length, Contains, Some, slice_get}
use Rattle.hs_rounds.specs.declared.body.RoundBody.{RoundBody}
use Rattle.hs_rounds.specs.declared.sending.SentRound.{SentRound}
use Rattle.hs_deletion.specs.Clocks.{label_of}
use Rattle.hs_deletion.specs.Machine.{Layout, ShardState, Machine}
use Rattle.hs_deletion.specs.Following.{IsSent, IsFollowed}
use Rattle.hs_fold.specs.Runs.Facts.{Catalogue}
use Rattle.hs_fold.specs.Runs.Fits.{catalogue_at}
use Rattle.hs_fold.specs.Runs.Own.{AreOwn}
use Rattle.hs_fold.specs.Shards.Setting.{Setting}
use Rattle.hs_joint.specs.Seen.{layout_of, seen_round, all_seen}

-- each round that a shard keeps as sent told each shard what the machine's shard has sent under its label
abbrev pub IsSentSo : Layout → Machine → ℕ → List SentRound → Type 0
IsSentSo layout m shard sent = (kept : SentRound) → Contains sent kept → (to : ℕ) (told : RoundBody) → slice_get kept.bodies to ≡ Some told
    → IsSent layout m.states to shard kept.epoch kept.round (seen_round kept.round told)

-- a round that is kept at a place, the last one at place 0, is the row so far before the end
pub record IsOfRow (layout : Layout) (states : ℕ → ShardState) (sent place : ℕ) (kept : SentRound) : Type 0 where
  pub row : ℕ
  pub back : row + (place + 1) ≡ sent
  pub epoch : (label_of layout states row).epoch ≡ kept.epoch
  pub round : (label_of layout states row).round ≡ kept.round

-- the last two rounds that the machine's shard has sent are kept, and no others
pub record KeepsTheLast (layout : Layout) (m : Machine) (shard : ℕ) (sent : List SentRound) : Type 0 where
  pub rows : (place : ℕ) (kept : SentRound) → slice_get sent place ≡ Some kept → IsOfRow layout m.states (m.states shard).sent place kept
  pub there : (place : ℕ) → place < 2 → place < (m.states shard).sent → (kept : SentRound) × (slice_get sent place ≡ Some kept)

-- the catalogues of all shards follow a machine that some lawful history makes, and keep as sent the last two rounds that it sent
pub record AreJoined (set : Setting) (some : 0 < set.shape.shards) (cs : List Catalogue) (m : Machine) : Type 0 where
  pub each : length cs ≡ set.shape.shards
  pub own : AreOwn set.shape.shards 0 cs
  pub followed : IsFollowed (layout_of set.shape.shards some) m (all_seen cs)
  pub sent : (shard : ℕ) → shard < set.shape.shards → IsSentSo (layout_of set.shape.shards some) m shard (catalogue_at cs shard).sent
  pub last : (shard : ℕ) → shard < set.shape.shards → KeepsTheLast (layout_of set.shape.shards some) m shard (catalogue_at cs shard).sent
