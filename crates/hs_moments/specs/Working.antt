-- What a store of one copy a shard owes to those who do its jobs and keep its disks.
use Rattle.std.specs.Prelude.{◌≡◌, ℕ, ◌+◌, true, ◌∷◌, ◌++◌, [], Some, None, take}
use Rattle.hs_core_words.specs.Looking.{first_job}
use Rattle.hs_desk.specs.declared.done.Done.{Done}
use Rattle.hs_desk.specs.declared.done.Done.TheVariants as done
use Rattle.hs_desk.specs.declared.job.Job.{Job}
use Rattle.hs_desk.specs.declared.job.Job.TheVariants as job
use Rattle.hs_entry.specs.declared.entry.Entry.{Entry}
use Rattle.hs_fold.specs.Shards.Setting.{Numbered}
use Rattle.hs_events.specs.Sane.{appended_of}
use Rattle.hs_events.specs.Whole.{Whole, counts, floor, reach}
use Rattle.hs_moments.specs.WholeMachine.{IsFrontOf}

-- this entry comes next on a peer's disk: it stands in the list behind what is sealed
pub record IsNextEntry (c : Whole) (peer number : ℕ) (entry : Entry) : Type 0 where
  pub next : number ≡ floor c peer + 1
  pub list : take number (reach c peer) ≡ take (floor c peer) (reach c peer) ++ (number, entry) ∷ []

-- the entry of a Seal is the one that was appended
pub record SealsNext (c : Whole) (peer number : ℕ) : Type 0 where
  pub entry : Entry
  pub appended : appended_of peer c.core ≡ Some entry
  pub next : IsNextEntry c peer number entry

-- what a first job asks for; no disk is emptied, none is copied, and none reclaims
abbrev pub NextJob : Whole → ℕ → Job → Type 0
NextJob c peer (job.Append number entry) = IsNextEntry c peer number entry × (appended_of peer c.core ≡ None)
NextJob c peer (job.Seal number) = SealsNext c peer number
NextJob c peer (job.Read number) = appended_of peer c.core ≡ None
NextJob c peer job.Reset = ⊥
NextJob c peer (job.Copy from number) = ⊥
NextJob c peer job.Reclaim = ⊥

-- how much is sealed, and what stands unsealed, behind a report
abbrev pub HasReported : Whole → Whole → ℕ → Done → Type 0
HasReported c new peer (done.Stored number) = (floor new peer ≡ floor c peer) × ((entry : Entry) → first_job peer c.core ≡ Some (job.Append number entry) → appended_of peer new.core ≡ Some entry)
HasReported c new peer (done.Sealed number) = (floor new peer ≡ number) × (appended_of peer new.core ≡ None)
HasReported c new peer (done.Bytes number bytes) = (floor new peer ≡ floor c peer) × (appended_of peer new.core ≡ None)
HasReported c new peer (done.Gone number) = (floor new peer ≡ floor c peer) × (appended_of peer new.core ≡ None)
HasReported c new peer done.Emptied = ⊥
HasReported c new peer (done.Copied number) = ⊥
HasReported c new peer (done.Stepped switched) = ⊥
HasReported c new peer (done.Failed disk) = floor new peer ≡ 0

-- and whatever begins its list begins it still
pub record IsBehind (c new : Whole) (peer : ℕ) (done : Done) : Type 0 where
  pub told : HasReported c new peer done
  pub counted : counts new peer ≡ true → counts c peer ≡ true
  pub front : (list : Numbered) → IsFrontOf peer list (reach c peer) → IsFrontOf peer list (reach new peer)
