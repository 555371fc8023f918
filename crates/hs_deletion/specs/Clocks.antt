-- How the rounds of all shards run in step.
use Rattle.std.specs.Prelude.{zero, suc, ◌==◌, ◌&&◌, if◌then◌else◌, nat_le, ◌≡◌, ◌⊎◌, ℕ, ◌+◌, ◌≤◌, ◌<◌, []}
use Rattle.hs_deletion.specs.Machine.{Layout, ShardState, empty_round}
use Rattle.hs_deletion.specs.Rounds.{total_in}

-- ---- which row is of which round

-- the epoch and the round of a row
pub record Label : Type 0 where
  pub epoch : ℕ
  pub round : ℕ

-- the label of the row after one: a row of nothing is the last of its run, but for round 0
abbrev pub label_after : ℕ → Label → Label
label_after total label =
    if nat_le 1 label.round && total == 0
    then record { epoch = label.epoch + 1; round = 0 }
    else record { epoch = label.epoch; round = label.round + 1 }

-- the label of each row; row 0 begins the run of epoch 2
unfoldable pub label_of : Layout → (ℕ → ShardState) → ℕ → Label
label_of layout states zero = record { epoch = 2; round = 0 }
label_of layout states (suc n) = label_after (total_in layout states n) (label_of layout states n)

-- ---- shards

-- a shard in a run has sent the row that it completes next, which is of its epoch and its round
pub record IsRunning (layout : Layout) (states : ℕ → ShardState) (s : ShardState) : Type 0 where
  pub unswept : s.epoch ≡ s.swept + 1
  pub ahead : s.sent ≡ s.completed + 1
  pub of_epoch : (label_of layout states s.completed).epoch ≡ s.epoch
  pub of_round : (label_of layout states s.completed).round ≡ s.round

-- an idle shard has completed what it sent, and the next row begins the next run
pub record IsIdle (layout : Layout) (states : ℕ → ShardState) (s : ShardState) : Type 0 where
  pub is_swept : s.epoch ≡ s.swept
  pub level : s.sent ≡ s.completed
  pub of_epoch : (label_of layout states s.completed).epoch ≡ s.epoch + 1
  pub of_round : (label_of layout states s.completed).round ≡ 0

-- a shard runs or is idle; it completed no row that another has not sent; what it has not sent says nothing; it raises only in
-- rounds 0, and lowers only in later ones whose total is not 0
pub record IsClockRight (layout : Layout) (states : ℕ → ShardState) (s : ShardState) : Type 0 where
  pub phase : IsRunning layout states s ⊎ IsIdle layout states s
  pub come : (other : ℕ) → other < layout.shards → s.completed ≤ (states other).sent
  pub unsent : (n : ℕ) → s.sent ≤ n → s.rounds n ≡ empty_round
  pub raises : (n : ℕ) → ((s.rounds n).raises ≡ []) ⊎ ((label_of layout states n).round ≡ 0)
  pub lowers : (n : ℕ) → ((s.rounds n).lowers ≡ []) ⊎ (1 ≤ (label_of layout states n).round) × (1 ≤ (s.rounds n).total)

-- so it is with every shard
abbrev pub AreClocksRight : Layout → (ℕ → ShardState) → Type 0
AreClocksRight layout states = (shard : ℕ) → shard < layout.shards → IsClockRight layout states (states shard)
