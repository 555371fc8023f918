-- What a shard does by itself: it enters an epoch, and it sweeps one.
use Rattle.std.specs.Prelude.{ℕ, ◌+◌, Bool, true, not, ◌==◌, ◌&&◌, ◌||◌, List, map, slice_index, slice_set, filter, nat_le, nat_lt}
use Rattle.std.specs.List.{list_all}
use Rattle.std.specs.Option.{option_map_or}
use Rattle.hs_limits.specs.declared.address.Address.{Address}
use Rattle.hs_model.specs.declared.store.StoredBlock.{StoredBlock}
use Rattle.hs_model.specs.Reach.{is_among, is_swept}
use Rattle.hs_model.specs.Store.{Store, Root}

-- no shard's epoch is below a number
abbrev pub none_below : Store → ℕ → Bool
none_below s epoch = list_all (λ e. nat_le epoch e) s.epochs

-- a shard may enter the next epoch where it has swept its own and no shard is behind it; one other than shard 0 only behind shard 0
abbrev pub may_enter : Store → ℕ → Bool
may_enter s shard =
    let epoch : ℕ = slice_index s.epochs shard in
    (slice_index s.swept shard == epoch && none_below s epoch) && (shard == 0 || slice_index s.epochs 0 == epoch + 1)

-- a root that is not dropped stays, and one that was dropped in the epoch before the least or later
abbrev pub stays : Store → Root → Bool
stays s root = option_map_or (λ dropped. not (none_below s (dropped + 2))) root.dropped true

-- the same by the epochs alone
abbrev pub stays_in : List ℕ → Root → Bool
stays_in epochs root = option_map_or (λ dropped. not (list_all (λ e. nat_le (dropped + 2) e) epochs)) root.dropped true

-- the shard's epoch is one higher, and the roots that count in no epoch any more are gone
abbrev pub enter : Store → ℕ → Store
enter s shard =
    let entered : Store = record s { epochs = slice_set s.epochs shard (slice_index s.epochs shard + 1) } in
    record entered { roots = filter (stays entered) s.roots }

-- a shard may sweep its epoch where it has not yet and no shard is behind it
abbrev pub may_sweep : Store → ℕ → Bool
may_sweep s shard =
    let epoch : ℕ = slice_index s.epochs shard in
    nat_lt (slice_index s.swept shard) epoch && none_below s epoch

-- the blocks that the sweep removes are gone, with what was given there, and the shard has swept its epoch
abbrev pub sweep : Store → ℕ → Store
sweep s shard =
    let epoch : ℕ = slice_index s.epochs shard in
    let kept : List (Address × StoredBlock) = filter (λ e. not (is_swept s epoch shard e)) s.blocks in
    record s {
      blocks = kept;
      given = filter (λ e. is_among (map (λ b. b.0) kept) e.0) s.given;
      swept = slice_set s.swept shard epoch;
    }
