-- Blocks and roots as deletion sees them: what a run asks of one, and how it changes one.
use Rattle.std.specs.Prelude.{ℕ, ◌+◌, ◌-◌, Bool, true, false, not, ◌==◌, ◌&&◌, if◌then◌else◌, List, Option, Some, None, is_none, nat_le, nat_lt, bytes_eq}
use Rattle.std.specs.Option.{option_map_or}
use Rattle.hs_limits.specs.declared.address.Address.{Address}

-- a present block: its mark is the last epoch in which a write gave it; where it is counted its pointers count; a zero block was
-- found to be named by nothing that counts; its count is how often its shard knows it to be named
pub record BlockRecord : Type 0 where
  pub address : Address
  pub pointers : List Address
  pub born : ℕ
  pub mark : ℕ
  pub counted : Bool
  pub zero : Bool
  pub count : ℕ

-- a root of a shard; where it is counted its addresses count
pub record RootRecord : Type 0 where
  pub home : ℕ
  pub key : List ℕ
  pub addresses : List Address
  pub created : ℕ
  pub counted : Bool
  pub dropped : Option ℕ

-- what passes a test is changed, and all else stays
abbrev pub change_if : {X : Type 0} → (X → Bool) → (X → X) → X → X
change_if test change x = if test x then change x else x

-- ---- what clients do

-- a block that is written first in an epoch
abbrev pub new_block : Address → List Address → ℕ → BlockRecord
new_block a pointers epoch = record {
  address = a;
  pointers = pointers;
  born = epoch;
  mark = epoch;
  counted = false;
  zero = false;
  count = 0;
}

-- a block that is given in an epoch
abbrev pub given_in : ℕ → BlockRecord → BlockRecord
given_in epoch b = record b { mark = epoch }

-- a root that is put in an epoch
abbrev pub new_root : ℕ → List ℕ → List Address → ℕ → RootRecord
new_root shard key addresses epoch = record {
  home = shard;
  key = key;
  addresses = addresses;
  created = epoch;
  counted = false;
  dropped = None;
}

-- whether a root is retained under a key
abbrev pub is_under : List ℕ → RootRecord → Bool
is_under key r = is_none r.dropped && bytes_eq r.key key

-- a root that is dropped in an epoch
abbrev pub dropped_in : ℕ → RootRecord → RootRecord
dropped_in epoch r = record r { dropped = Some epoch }

-- ---- entering an epoch

-- whether a block begins to count: it is uncounted, and older than the epoch
abbrev pub begins : ℕ → BlockRecord → Bool
begins epoch b = not b.counted && nat_lt b.born epoch

-- whether a root does
abbrev pub root_begins : ℕ → RootRecord → Bool
root_begins epoch r = not r.counted && nat_lt r.created epoch

-- a block of a shard that entered the epoch
abbrev pub entered : ℕ → BlockRecord → BlockRecord
entered epoch = change_if (begins epoch) (λ b. record b { counted = true })

-- a root of it
abbrev pub root_entered : ℕ → RootRecord → RootRecord
root_entered epoch = change_if (root_begins epoch) (λ r. record r { counted = true })

-- ---- searching

-- a block whose count was raised and lowered by what rounds say of its address
abbrev pub recounted : (Address → ℕ) → (Address → ℕ) → BlockRecord → BlockRecord
recounted raised lowered b = record b { count = (b.count + raised b.address) - lowered b.address }

-- whether a block is a new zero block: it is counted, nothing names it, and no write gave it in the epoch before or later
abbrev pub is_found : ℕ → BlockRecord → Bool
is_found epoch b = b.counted && (not b.zero && (b.count == 0 && nat_le (b.mark + 2) epoch))

-- a block after the search for new zero blocks
abbrev pub searched : ℕ → BlockRecord → BlockRecord
searched epoch = change_if (is_found epoch) (λ b. record b { zero = true })

-- whether a drop is old in a run: it was two epochs before or earlier
abbrev pub is_old_drop : ℕ → Option ℕ → Bool
is_old_drop epoch dropped = option_map_or (λ d. nat_le (d + 2) epoch) dropped false

-- whether the end of a round releases a root: it is round 0, and the root is counted and its drop is old
abbrev pub is_released : ℕ → ℕ → RootRecord → Bool
is_released round epoch r = round == 0 && (r.counted && is_old_drop epoch r.dropped)

-- ---- sweeping

-- whether a sweep removes a block: it is a zero block that no write gave in the epoch
abbrev pub is_removed : ℕ → BlockRecord → Bool
is_removed epoch b = b.zero && nat_lt b.mark epoch

-- a block that is as a new one: uncounted, and no zero block
abbrev pub renewed : BlockRecord → BlockRecord
renewed b = record b { counted = false; zero = false }

-- a block that stays: a zero block is as a new one, and each other as it was
abbrev pub spared : BlockRecord → BlockRecord
spared = change_if (λ b. b.zero) renewed
