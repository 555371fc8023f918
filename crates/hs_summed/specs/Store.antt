-- That the store which a load leaves is that of its deeds.
use Rattle.std.specs.Prelude.{◌≡◌, ℕ, List, [], Option, count_by, is_none, length, map}
use Rattle.hs_answered.specs.Standing.{store_with}
use Rattle.hs_cluster.specs.Opens.{Finds}
use Rattle.hs_deeds.specs.Told.{store_after}
use Rattle.hs_events.specs.Found.{Found}
use Rattle.hs_events.specs.Taken.{taken_lists}
use Rattle.hs_fold.specs.Shards.Setting.{Numbered}
use Rattle.hs_journal.specs.declared.entry.JournalEntry.{JournalEntry}
use Rattle.hs_journal.specs.Deeds.{as_deed}
use Rattle.hs_limits.specs.declared.address.Address.{Address}
use Rattle.hs_limits.specs.declared.limits.Limits.{Limits}
use Rattle.hs_limits.specs.declared.shape.Shape.{Shape}
use Rattle.hs_load.specs.Judged.{Load}
use Rattle.hs_load.specs.Loaded.{Close, Handed, IsLoaded, close_of, handed_of, load_of}
use Rattle.hs_load.specs.Reached.{EachIsReached}
use Rattle.hs_load.specs.Tallied.{blocks_in, roots_in}
use Rattle.hs_model.specs.Deeds.{AreDeeds}
use Rattle.hs_model.specs.Hollow.{hollow}
use Rattle.hs_model.specs.Store.{Store}
use Rattle.hs_peerlog.specs.Lists.{Keeping}
use Rattle.hs_ports.specs.Fault.{HasRisen}
use Rattle.hs_promise.specs.Run.{Ran}
use Rattle.hs_promise.specs.declared.status.Status.TheVariants as status
use Rattle.hs_side.specs.Current.{list_in}
use Rattle.hs_sound.specs.Stay.{AreSoundAlong}
use Rattle.hs_standing.specs.Held.{GivesAddresses}
use Rattle.hs_standing.specs.Lists.{whole_from}
use Rattle.hs_standing.specs.Opening.{opened_folds, opened_lists}
use Rattle.hs_summed.specs.Fit.{FitsLoaded}
use Rattle.hs_summed.specs.Summed.{SumsUp}
use Rattle.hs_taking.specs.Disks.{DiskSeen, seen_at}

-- a journal is one of deeds from a store on; they leave so many blocks and so many retained roots, and no block that these do not reach
pub record LeavesStore (limits : Limits) (start : Store) (journal : List JournalEntry) (many kept : ℕ) : Type 0 where
  pub deeds : AreDeeds limits start [] (map as_deed journal)
  pub blocks : length (store_after start (map as_deed journal)).blocks ≡ many
  pub roots : count_by (λ root. is_none root.dropped) (store_after start (map as_deed journal)).roots ≡ kept
  pub reached : EachIsReached (store_after start (map as_deed journal))

-- what disks read as, by peer
abbrev pub logs_in : List DiskSeen → List (Option Numbered)
logs_in disks = map (λ disk. list_in disk.stands.seen) disks

-- the summary was put; and where the disks tell their contents, and the lists with which the load opened are sound, it is of the store that the journal leaves, which is one of deeds from the store of these lists. Where no disk failed before the first turn they are those of greatest rank at entry
pub record SumsUpStore (tells : Type 0) (load : Load) (before : ℕ) (old : List DiskSeen) (h : Handed) (c : Close) : Type 0 where
  pub sums : SumsUp load.writers h c
  pub found : Found
  pub disks : List DiskSeen
  pub slots : List (Option Keeping)
  pub at_entry : tells → ((peer : ℕ) → HasRisen (seen_at old peer).faults (seen_at disks peer).faults → ⊥)
      → taken_lists load.set.shape (logs_in old) ≡ whole_from (opened_lists load.set found) 0 load.set.shape.shards
  pub finds : Finds tells load.set (record { before = before; now = found.opened; old = old; new = disks }) found slots
  pub leaves : tells → GivesAddresses load.set.name → AreSoundAlong load.set (whole_from (opened_lists load.set found) 0 load.set.shape.shards)
      → LeavesStore load.set.limits (hollow (store_with (opened_folds load.set found) [])) h.journal (blocks_in sums.last) (roots_in sums.last)

-- a load went so; its last lines were begun, but for a cause; and where it is done it has summed up its store
pub record LoadsStore (tells : Type 0) (name : List ℕ → Address) (shape : Shape) (seed writers files : ℕ) (r : Ran) : Type 0 where
  pub loaded : IsLoaded tells name shape seed writers files r
  pub fits : FitsLoaded tells name shape seed writers files r loaded
  pub store : r.ending ≡ status.Done → SumsUpStore tells (load_of name shape seed writers files) r.old.moment loaded.old (handed_of r) (close_of r)
