-- What the entries of clients do to the machine, and what a shard does that enters an epoch, searches or sweeps.
use Rattle.std.specs.Prelude.{ℕ, ◌+◌, not, ◌&&◌, List, ◌∷◌, map, filter}
use Rattle.hs_limits.specs.declared.address.Address.{Address}
use Rattle.hs_model.specs.Reach.{is_same}
use Rattle.hs_deletion.specs.Records.{BlockRecord, RootRecord, change_if, new_block, given_in, new_root, is_under, dropped_in, entered, root_entered, recounted, searched, is_released, is_removed, spared}
use Rattle.hs_deletion.specs.Machine.{Layout, Round, ShardState, Machine, set_at, is_at, is_root_at}
use Rattle.hs_deletion.specs.Rounds.{first_round, next_round, raised_in, lowered_in}

-- ---- clients

-- a write stores an absent block
abbrev pub after_store : Layout → Address → List Address → Machine → Machine
after_store layout a pointers m = record m { blocks = new_block a pointers (m.states (layout.home a)).epoch ∷ m.blocks }

-- a write gives a present block
abbrev pub after_mark : Layout → Address → Machine → Machine
after_mark layout a m =
    let epoch : ℕ = (m.states (layout.home a)).epoch in
    record m { blocks = map (change_if (λ b. is_same b.address a) (given_in epoch)) m.blocks }

-- a root is put
abbrev pub after_root : ℕ → List ℕ → List Address → Machine → Machine
after_root shard key addresses m = record m { roots = new_root shard key addresses (m.states shard).epoch ∷ m.roots }

-- a retained root is dropped
abbrev pub after_drop : ℕ → List ℕ → Machine → Machine
after_drop shard key m =
    let epoch : ℕ = (m.states shard).epoch in
    record m { roots = map (change_if (λ r. is_root_at shard r && is_under key r) (dropped_in epoch)) m.roots }

-- ---- a shard

-- its blocks
abbrev pub blocks_at : Layout → ℕ → List BlockRecord → List BlockRecord
blocks_at layout shard blocks = filter (is_at layout shard) blocks

-- its roots
abbrev pub roots_at : ℕ → List RootRecord → List RootRecord
roots_at shard roots = filter (is_root_at shard) roots

-- its state with one more round sent
abbrev pub with_sent : Round → ShardState → ShardState
with_sent round s = record s { sent = s.sent + 1; rounds = set_at s.sent round s.rounds }

-- its state where it has entered its next epoch: round 0 is sent
abbrev pub state_entered : Layout → ℕ → Machine → ShardState
state_entered layout shard m =
    let s : ShardState = m.states shard in
    let round : Round = first_round (s.epoch + 1) (blocks_at layout shard m.blocks) (roots_at shard m.roots) in
    record (with_sent round s) { epoch = s.epoch + 1; round = 0 }

-- it enters its next epoch: what is older begins to count
abbrev pub after_enter : Layout → ℕ → Machine → Machine
after_enter layout shard m =
    let epoch : ℕ = (m.states shard).epoch + 1 in
    record {
      blocks = map (change_if (is_at layout shard) (entered epoch)) m.blocks;
      roots = map (change_if (is_root_at shard) (root_entered epoch)) m.roots;
      states = set_at shard (state_entered layout shard m) m.states;
    }

-- a block of it whose count has what the next row says
abbrev pub recounted_at : Layout → ℕ → Machine → BlockRecord → BlockRecord
recounted_at layout shard m =
    let row : ℕ = (m.states shard).completed in
    recounted (raised_in layout m.states row) (lowered_in layout m.states row)

-- its state where it has completed a row that isn't the last of its run: the next round is sent
abbrev pub state_searched : Layout → ℕ → Machine → ShardState
state_searched layout shard m =
    let s : ShardState = m.states shard in
    let round : Round = next_round s.round s.epoch (map (recounted_at layout shard m) (blocks_at layout shard m.blocks)) (roots_at shard m.roots) in
    record (with_sent round s) { round = s.round + 1; completed = s.completed + 1 }

-- it completes such a row: its blocks are counted anew, new zero blocks are found, and old dropped roots are gone
abbrev pub after_search : Layout → ℕ → Machine → Machine
after_search layout shard m =
    let s : ShardState = m.states shard in
    record {
      blocks = map (change_if (is_at layout shard) (λ b. searched s.epoch (recounted_at layout shard m b))) m.blocks;
      roots = filter (λ r. not (is_root_at shard r && is_released s.round s.epoch r)) m.roots;
      states = set_at shard (state_searched layout shard m) m.states;
    }

-- its state where it has completed the last row of its run
abbrev pub state_swept : ShardState → ShardState
state_swept s = record s { swept = s.epoch; completed = s.completed + 1 }

-- it completes the last row: zero blocks that no write gave are gone, and the others are spared
abbrev pub after_sweep : Layout → ℕ → Machine → Machine
after_sweep layout shard m =
    let epoch : ℕ = (m.states shard).epoch in
    record m {
      blocks = map (change_if (is_at layout shard) spared) (filter (λ b. not (is_at layout shard b && is_removed epoch b)) m.blocks);
      states = set_at shard (state_swept (m.states shard)) m.states;
    }
