-- How many of some entries are of each kind: for private clauses.
use Rattle.std.specs.BTreeMap.{is_at}
use Rattle.std.specs.Map.{lookup}
use Rattle.std.specs.Option.{option_map_or}
use Rattle.std.specs.Ordering.{nat_cmp}
use Rattle.std.specs.Prelude.{◌≡◌, ℕ, ◌+◌, ◌≤◌, ◌==◌, ◌&&◌, Bool, not, List, Option, cond, count_by, nat_lt}
use Rattle.hs_entry.specs.declared.entry.Entry.{Entry}
use Rattle.hs_replica.specs.declared.kinds.Kinds.{Kinds}
use Rattle.hs_replica.specs.Kinds.{enters, is_block, is_got, is_root, stores_for}
use Rattle.hs_rounds.specs.declared.place.Place.{Place}
use Rattle.hs_rounds.specs.Rounds.{place_cmp}
use Rattle.hs_waits.specs.Lines.{has}

-- how often a place was counted
abbrev pub count_at : List (Place × ℕ) → Place → ℕ
count_at counts place = option_map_or (λ n. n) (lookup (is_at (place_cmp place)) counts) 0

-- once for this place, and for no other
abbrev pub once : Place → Place → ℕ
once place other = cond (is_at (place_cmp place) other) 1 0

-- the new counts have this at the place, and nothing else is different
abbrev pub Differs : Place → Option ℕ → List (Place × ℕ) → List (Place × ℕ) → Type 0
Differs place found old new =
    (other : Place) → lookup (is_at (place_cmp other)) new ≡ cond (is_at (place_cmp place) other) found (lookup (is_at (place_cmp other)) old)

-- where an Enter of this epoch, or a Block of this line, is counted
abbrev pub at_epoch : ℕ → Place
at_epoch epoch = record { epoch = epoch; round = 0; from = 0 }

-- ---- lines in order

-- whether a line stands among these
abbrev pub is_listed : List (ℕ × ℕ) → ℕ → Bool
is_listed lines line = has nat_cmp lines 0 line

-- whether a line was counted
abbrev pub is_counted : List (Place × ℕ) → ℕ → Bool
is_counted counts line = nat_lt 0 (count_at counts (at_epoch line))

-- the lines are those that were counted
abbrev pub AreFiled : List (Place × ℕ) → List (ℕ × ℕ) → Type 0
AreFiled counts lines = (n : ℕ) → is_listed lines n ≡ is_counted counts n

-- the new lines are the old ones, but without this one where it was not counted
abbrev pub IsCleared : List (Place × ℕ) → ℕ → List (ℕ × ℕ) → List (ℕ × ℕ) → Type 0
IsCleared counts line old new = (n : ℕ) → is_listed new n ≡ (not (line == n && not (is_counted counts line)) && is_listed old n)

-- ---- entries

-- these are the numbers of the entries
pub record Counts (kinds : Kinds) (entries : List Entry) : Type 0 where
  pub blocks : kinds.blocks ≡ count_by is_block entries
  pub roots : kinds.roots ≡ count_by is_root entries
  pub stores : (line : ℕ) → count_at kinds.stores (at_epoch line) ≡ count_by (stores_for line) entries
  pub enters : (epoch : ℕ) → count_at kinds.enters (at_epoch epoch) ≡ count_by (enters epoch) entries
  pub gots : (from epoch round : ℕ) → count_at kinds.gots (record { epoch = epoch; round = round; from = from }) ≡ count_by (is_got from epoch round) entries

-- 1 where it holds
abbrev pub weight : Bool → ℕ
weight b = cond b 1 0

-- the second counts this entry beside what the first counts
pub record Adds (entry : Entry) (less more : Kinds) : Type 0 where
  pub blocks : more.blocks ≡ weight (is_block entry) + less.blocks
  pub roots : more.roots ≡ weight (is_root entry) + less.roots
  pub stores : (line : ℕ) → count_at more.stores (at_epoch line) ≡ weight (stores_for line entry) + count_at less.stores (at_epoch line)
  pub enters : (epoch : ℕ) → count_at more.enters (at_epoch epoch) ≡ weight (enters epoch entry) + count_at less.enters (at_epoch epoch)
  pub gots : (place : Place) → count_at more.gots place ≡ weight (is_got place.from place.epoch place.round entry) + count_at less.gots place

-- this entry was counted
pub record Holds (entry : Entry) (kinds : Kinds) : Type 0 where
  pub blocks : weight (is_block entry) ≤ kinds.blocks
  pub roots : weight (is_root entry) ≤ kinds.roots
  pub stores : (line : ℕ) → weight (stores_for line entry) ≤ count_at kinds.stores (at_epoch line)
  pub enters : (epoch : ℕ) → weight (enters epoch entry) ≤ count_at kinds.enters (at_epoch epoch)
  pub gots : (place : Place) → weight (is_got place.from place.epoch place.round entry) ≤ count_at kinds.gots place
