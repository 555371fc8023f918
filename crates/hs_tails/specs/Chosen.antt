-- Which lists may be chosen where a store of several copies of a shard stops, and what is known of them.
use Rattle.std.specs.Option.{option_map_or}
use Rattle.std.specs.Prelude.{◌≡◌, ℕ, ◌<◌, ◌≤◌, Bool, true, List, [], Some, drop, length, map, take}
use Rattle.hs_awaiting.specs.declared.waiting.Waiting.{Waiting}
use Rattle.hs_core_words.specs.Looking.{front_of, lead_of, operation_of}
use Rattle.hs_core_words.specs.State.{Core}
use Rattle.hs_entry.specs.declared.entry.Entry.{Entry}
use Rattle.hs_entry.specs.Entries.{IsPrefix}
use Rattle.hs_events.specs.Whole.{Whole, counts, reach}
use Rattle.hs_fold.specs.Prefix.{IsNumbered}
use Rattle.hs_fold.specs.Runs.Facts.{Catalogue as Folded}
use Rattle.hs_fold.specs.Shards.Images.{Stop}
use Rattle.hs_fold.specs.Shards.Setting.{Numbered, Setting}
use Rattle.hs_fold.specs.Shards.Sound.{HasRisingViews}
use Rattle.hs_journal.specs.declared.entry.JournalEntry.{JournalEntry}
use Rattle.hs_limits.specs.declared.shape.Shape.{Shape}
use Rattle.hs_limits.specs.Shape.{IsShape}
use Rattle.hs_members.specs.Members.{home_of}
use Rattle.hs_standing.specs.Left.{TookEffect}
use Rattle.hs_standing.specs.Lists.{Lists, settled_catalogues, whole_from}
use Rattle.hs_standing.specs.Start.{IsAwaited, Start}
use Rattle.hs_tails.specs.Tails.{HasOpenLines, TailRests}

-- ---- lists

-- by peer the longest list that its disk may have, and whether its disk counts
pub record Disks : Type 0 where
  pub reach : ℕ → Numbered
  pub counts : ℕ → Bool

-- of a whole, and by shard the lead's list and how much of it took effect
abbrev pub disks_of : Whole → Disks
disks_of c = record { reach = reach c; counts = counts c }

abbrev pub lead_lists : Whole → Lists
lead_lists c = record { whole = λ shard. option_map_or (reach c) (lead_of shard c.core) []; front = λ shard. front_of shard c.core }

-- ---- which may be chosen

-- what took effect of a shard
abbrev pub took_of : Lists → ℕ → Numbered
took_of lists shard = take (lists.front shard) (lists.whole shard)

-- a list that a stop may leave to be chosen of a shard: it begins what the disk of one of its peers may have, which counts, and has all that took effect
pub record MayBeChosen (shape : Shape) (disks : Disks) (lists : Lists) (shard : ℕ) (list : Numbered) : Type 0 where
  pub peer : ℕ
  pub home : home_of shape peer ≡ shard
  pub counts : disks.counts peer ≡ true
  pub begins : IsPrefix list (disks.reach peer)
  pub has : IsPrefix (took_of lists shard) list

-- one is chosen of each shard
abbrev pub AreChosen : Shape → Disks → Lists → (ℕ → Numbered) → Type 0
AreChosen shape disks lists chosen = (shard : ℕ) → shard < shape.shards → MayBeChosen shape disks lists shard (chosen shard)

abbrev pub with_chosen : Lists → (ℕ → Numbered) → Lists
with_chosen lists chosen = record { whole = chosen; front = lists.front }

-- those of all shards
abbrev pub lists_chosen : Start → Lists → (ℕ → Numbered) → List Numbered
lists_chosen start lists chosen = whole_from (with_chosen lists chosen) 0 start.set.shape.shards

-- ---- what is known of them

-- the entries of a list behind so many
abbrev pub tail_behind : ℕ → Numbered → List Entry
tail_behind front list = map (λ e. e.1) (drop front list)

-- a list is numbered, its views never fall, and what it has behind all that took effect rests on what is there, and is of open lines
pub record IsGoodToChoose (set : Setting) (core : Core) (cs : List Folded) (shard front : ℕ) (list : Numbered) : Type 0 where
  pub numbered : IsNumbered list
  pub views : HasRisingViews list
  pub rests : TailRests set cs shard front (tail_behind front list)
  pub lines : HasOpenLines core shard (tail_behind front list)

-- what took effect of the lead's lists is what the journal tells; each operation without an answer is awaited; and what disks may have and has all that took effect is good to choose
pub record TailsStand (start : Start) (stop : Stop) (journal : List JournalEntry) (disks : Disks) (lists : Lists) (core : Core) : Type 0 where
  pub shape : IsShape start.set.shape
  pub within : (shard : ℕ) → shard < start.set.shape.shards → lists.front shard ≤ length (lists.whole shard)
  pub took : TookEffect start journal lists
  pub awaited : (line : ℕ) (w : Waiting) → operation_of line core ≡ Some w → IsAwaited start stop journal line
  pub tails : (peer shard : ℕ) → home_of start.set.shape peer ≡ shard → shard < start.set.shape.shards → disks.counts peer ≡ true → IsPrefix (took_of lists shard) (disks.reach peer)
      → IsGoodToChoose start.set core (settled_catalogues start.set lists) shard (lists.front shard) (disks.reach peer)
