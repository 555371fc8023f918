-- The text of an audit.
use Rattle.std.specs.Fmt.{decimal}
use Rattle.std.specs.List.{flat_map, range_with_len}
use Rattle.std.specs.Prelude.{ℕ, ◌+◌, ◌++◌, ◌∷◌, List, [], Option, codes, length, map, slice_index, unwrap_or}
use Rattle.hex.specs.Hex.{encode_lower}
use Rattle.hs_fold.specs.Runs.Opened.{opened}
use Rattle.hs_fold.specs.Shards.Setting.{Numbered, Setting}
use Rattle.hs_limits.specs.declared.address.Address.{Address}
use Rattle.hs_model.specs.Reach.{unreachable}
use Rattle.hs_model.specs.Store.{Store, blocks_in, roots_in}
use Rattle.hs_audit.specs.Missing.{missing}

-- how many blocks of a shard the sweep of its next run would remove, as the store stands
abbrev pub garbage_in : Store → ℕ → ℕ
garbage_in s shard = length (unreachable s (slice_index s.epochs shard + 1) shard)

-- a shard's epoch, the last one that it swept, its blocks, its retained roots, and its garbage
unfoldable pub shard_line : Store → ℕ → List ℕ
shard_line s shard =
    codes "shard " ++ (decimal shard ++ (codes " epoch " ++ (decimal (slice_index s.epochs shard) ++ (codes " swept " ++ (decimal (slice_index s.swept shard)
    ++ (codes " blocks " ++ (decimal (blocks_in s shard) ++ (codes " roots " ++ (decimal (roots_in s shard) ++ (codes " garbage " ++ (decimal (garbage_in s shard) ++ 10 ∷ [])))))))))))

-- an address that is not present
abbrev pub missing_line : Address → List ℕ
missing_line a = codes "missing " ++ (encode_lower a.0 ++ 10 ∷ [])

-- whether any is missing, and how many
abbrev pub last_line : List Address → List ℕ
last_line [] = codes "audit ok\n"
last_line (a ∷ rest) = codes "audit bad " ++ (decimal (length (a ∷ rest)) ++ 10 ∷ [])

-- a line for each shard from 0, one for each address that is missing, and the last one
unfoldable pub report : Store → List ℕ
report s = flat_map (shard_line s) (range_with_len 0 (length s.epochs)) ++ (flat_map missing_line (missing s) ++ last_line (missing s))

-- ---- of lists

-- the text of an audit of a store whose peers have these lists
abbrev pub audit_text : Setting → List Numbered → List ℕ
audit_text set lists = report (opened set lists)

-- the lists of so many peers, where a disk without a log counts as blank
abbrev pub lists_by : ℕ → (ℕ → Option Numbered) → List Numbered
lists_by peers log = map (λ peer. unwrap_or (log peer) []) (range_with_len 0 peers)
