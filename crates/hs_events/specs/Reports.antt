-- What reports tell: failures of disks, and what was read.
use Rattle.std.specs.Option.{option_map_or}
use Rattle.std.specs.Prelude.{Bool, Contains, IfSome, List, Option, Some, [], false, if◌then◌else◌, not, true, ℕ, ⊤, ◌&&◌, ◌+◌, ◌==◌, ◌||◌, ◌∷◌, ◌≡◌}
use Rattle.hs_core_words.specs.Looking.{first_job}
use Rattle.hs_core_words.specs.State.{Core}
use Rattle.hs_core_words.specs.Step.{step}
use Rattle.hs_core_words.specs.declared.event.Event.{Event}
use Rattle.hs_desk.specs.declared.done.Done.{Done}
use Rattle.hs_desk.specs.declared.done.Done.TheVariants as done
use Rattle.hs_desk.specs.declared.job.Job.{Job}
use Rattle.hs_desk.specs.declared.job.Job.TheVariants as job
use Rattle.hs_entry.specs.declared.entry.Entry.{Entry}
use Rattle.hs_entry.specs.declared.entry.Entry.TheVariants as kind
use Rattle.hs_fold.specs.Shards.Setting.{Numbered}
use Rattle.hs_events.specs.Asked.{failed_disk, report_in}
use Rattle.hs_events.specs.Due.{Events}

-- whether a job only reads a disk; a copy reads that of the lead. Where it finds no log that counts as a failure, which a disk that tells its contents never gives
abbrev pub only_reads : ℕ → Job → Bool
only_reads disk (job.Append number entry) = false
only_reads disk (job.Seal number) = false
only_reads disk (job.Read number) = true
only_reads disk job.Reset = false
only_reads disk (job.Copy from number) = from == disk
only_reads disk job.Reclaim = false

-- whether an event reports that a call of this disk failed, so that its count must show it
abbrev pub costs : Bool → ℕ → Core → Event → Bool
costs tells disk core e = option_map_or is_failure (report_in e) false
  where
    is_failure : ℕ × Done → Bool
    is_failure (peer, done) = option_map_or (λ d. d == disk) (failed_disk done) false && (tells || not (option_map_or (only_reads disk) (first_job peer core) false))

-- how many of some events do
abbrev pub failures : Bool → ℕ → Core → Events → ℕ
failures tells disk core [] = 0
failures tells disk core (e ∷ es) = (if costs tells disk core e.0 then 1 else 0) + failures tells disk (step e.0 e.1 core) es

-- a list has the Block of a number, with these bytes
pub record HasBlock (number : ℕ) (bytes : List ℕ) (list : Option Numbered) : Type 0 where
  pub entries : Numbered
  pub listed : list ≡ Some entries
  pub line : ℕ
  pub least : ℕ
  pub block : Contains entries (number, kind.Block line least bytes)

-- it has no entry of a number
abbrev pub LacksEntry : ℕ → Option Numbered → Type 0
LacksEntry number list = IfSome list (λ entries. (entry : Entry) → Contains entries (number, entry) → ⊥)

-- a Read tells the bytes of the block of its number, or that no such entry is kept; what the other jobs came to clause 3 shows
abbrev pub TellsOf : Done → Option Numbered → Type 0
TellsOf (done.Stored number) list = ⊤
TellsOf (done.Sealed number) list = ⊤
TellsOf (done.Bytes number bytes) list = HasBlock number bytes list
TellsOf (done.Gone number) list = LacksEntry number list
TellsOf done.Emptied list = ⊤
TellsOf (done.Copied number) list = ⊤
TellsOf (done.Stepped switched) list = ⊤
TellsOf (done.Failed disk) list = ⊤
