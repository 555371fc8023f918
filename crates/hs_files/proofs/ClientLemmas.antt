-- The run of the machine beneath a command, and what the command has of it.
use Rattle.std.specs.List.{AllByRecursion}
use Rattle.std.proofs.Common.{◌≡◌, ◌⊎◌, inl, inr, ◌∙◌, ap, sym, subst, refl, ℕ, ◌≤◌, List, [], Option, None, Err, length, map}
use Rattle.hs_asker.specs.Going.{AtEntry}
use Rattle.hs_asker.specs.Lines.{IsOfAsker, command_at, ops_of}
use Rattle.hs_asker.specs.Shows.{Asking, shows_of}
use Rattle.hs_asker.specs.Silent.{IsOpenFault, asking_script, silent, silent_run, status_by}
use Rattle.hs_cluster.specs.Disks.{DiskSeen}
use Rattle.hs_cluster.specs.declared.fault.ClusterFault.{ClusterFault}
use Rattle.hs_cluster.specs.declared.fault.ClusterFault.TheVariants as cluster
use Rattle.hs_desk.specs.declared.fault.CoreFault.{CoreFault}
use Rattle.hs_journal.specs.declared.entry.JournalEntry.{JournalEntry}
use Rattle.hs_limits.specs.declared.address.Address.{Address}
use Rattle.hs_limits.specs.declared.shape.Shape.{Shape}
use Rattle.hs_limits.specs.Limits.{greatest_limits}
use Rattle.hs_model.specs.declared.command.Command.{Command}
use Rattle.hs_model.specs.declared.course.CourseItem.{CourseItem}
use Rattle.hs_ports.specs.Disk.{Standing}
use Rattle.hs_ports.specs.Objects.{KeepsTime, Objects, handed}
use Rattle.hs_promise.specs.Run.{Ran, Script, ran_of}
use Rattle.hs_promise.specs.declared.outcome.Outcome.{Outcome}
use Rattle.hs_promise.specs.declared.status.Status.{Status}
use Rattle.hs_promise.specs.declared.status.Status.TheVariants as status
use Rattle.hs_run.proofs.DisksLemmas.{handed_counts, handed_stands}
use Rattle.hs_run.specs.Machine.{AreHanded, IsOfCluster}
use Rattle.hs_run.specs.Stopping.{of_cluster, status_of}
use Rattle.hs_files.specs.Client.{AsksAsClient, HasOtherShape, RunsNoLoad, beneath, client_script, disks_alone}

-- ---- objects

module _ {X : Type 0} (f : X → DiskSeen) (h : X → Standing × ℕ) (stands : (x : X) → (f x).stands ≡ (h x).0) (faults : (x : X) → (f x).faults ≡ (h x).1) where
  pub silent_is : (moment now : ℕ) (xs : List X) (sink : Option (List (ℕ × ℕ)) × ℕ) (source : Option (List ℕ) × ℕ) → silent moment (map f xs) ≡ disks_alone moment (handed now (map h xs) sink source)
  silent_is moment now xs sink source = λ i. record {
    moment = moment;
    disks = handed_stands f h stands xs i;
    got = None;
    left = None;
    disk_faults = handed_counts f h faults xs i;
    sink_faults = 0;
    source_faults = 0;
  }

-- what an outcome says beside its status
pub record IsToldAs (o : Outcome) (lines : ℕ) (answered full : List JournalEntry) (items : List CourseItem) : Type 0 where
  pub line : o.line ≡ lines
  pub journal : o.journal.entries ≡ answered
  pub kept : o.kept ≡ []
  pub stored : o.stored ≡ []
  pub refused : o.refused ≡ full
  pub course : o.course ≡ items

pub run_is : (o : Outcome) (ending : Status) (line until : ℕ) (journal refused : List JournalEntry) (course : List CourseItem) (old new was is : Objects) → IsToldAs o line journal refused course
    → was ≡ disks_alone old.moment old → is ≡ disks_alone until new → silent_run ending line journal refused course was is ≡ beneath (ran_of o old new) until ending
run_is o ending line until journal refused course old new was is told first last = λ i. record {
  ending = ending;
  line = sym told.line i;
  journal = sym told.journal i;
  kept = sym told.kept i;
  stored = sym told.stored i;
  refused = sym told.refused i;
  course = sym told.course i;
  old = first i;
  new = last i;
}

-- ---- what a command has of it

pub no_load_of : (tells : Type 0) (S : Script) (r : Ran) (until : ℕ) (ending : Status) → IsOfCluster tells S (beneath r until ending) → until ≤ r.new.moment → KeepsTime r.old r.new
    → r.old.sink_faults ≤ r.new.sink_faults → r.old.source_faults ≤ r.new.source_faults → RunsNoLoad r
no_load_of tells S r until ending machine later time sink source = record {
  no_load = record { kept = machine.served.no_load.kept; stored = machine.served.no_load.stored };
  handed_back = machine.served.handed_back;
  time = time;
  counts = record { disks = machine.served.counts.disks; sink = sink; source = source };
}

pub moment_of : (tells : Type 0) (S : Script) (r : Ran) (until : ℕ) (ending : Status) → IsOfCluster tells S (beneath r until ending) → r.old.moment ≤ until
moment_of tells S r until ending machine = machine.served.time.later

-- why no core was opened
pub closed_as : (fault : ClusterFault) → IsOpenFault fault → HasOtherShape (status_of (Err (of_cluster fault)) 0) ⊎ (status_of (Err (of_cluster fault)) 0 ≡ status.NoMemory)
closed_as (cluster.WrongShape peer found) h = inl (record { peer = peer; found = found; is = refl })
closed_as (cluster.ShardLost shard) h = absurd h
closed_as cluster.OpsFull h = absurd h
closed_as cluster.NoMemory h = inr refl

pub closed_begun : (fault : ClusterFault) → status_of (Err (of_cluster fault)) 0 ≡ status.Usage → ⊥
closed_begun (cluster.WrongShape peer found) is = absurd cc
closed_begun (cluster.ShardLost shard) is = absurd cc
closed_begun cluster.OpsFull is = absurd cc
closed_begun cluster.NoMemory is = absurd cc

-- ---- over the disks that were handed over

module _ {X : Type 0} (f : X → DiskSeen) (h : X → Standing × ℕ) (stands : (x : X) → (f x).stands ≡ (h x).0) (faults : (x : X) → (f x).faults ≡ (h x).1)
    (tells : Type 0) (name : List ℕ → Address) (shape : Shape) (entry : AtEntry) (before : ℕ) (xs : List X) (is : entry ≡ record { set = record { name = name; limits = greatest_limits; shape = shape }; moment = before; disks = map f xs })
    (o : Outcome) (sink sink' : Option (List (ℕ × ℕ)) × ℕ) (source source' : Option (List ℕ) × ℕ) where
  -- the machine's run, from what an asker hands back to an outcome
  beneath_of : (ending : Status) (lines : ℕ) (answered full : List JournalEntry) (items : List CourseItem) (commands : ℕ → Option Command) (until now : ℕ) (ys : List X)
      → IsOfCluster tells (record { set = entry.set; commands = commands }) (silent_run ending lines answered full items (silent entry.moment entry.disks) (silent until (map f ys)))
      → IsToldAs o lines answered full items
      → IsOfCluster tells (client_script name shape commands) (beneath (ran_of o (handed before (map h xs) sink source) (handed now (map h ys) sink' source')) until ending)
  beneath_of ending lines answered full items commands until now ys ran told =
      subst (λ (r : Ran). IsOfCluster tells (client_script name shape commands) r)
      (run_is o ending lines until answered full items (handed before (map h xs) sink source) (handed now (map h ys) sink' source') (silent before (map f xs)) (silent until (map f ys)) told
      (silent_is f h stands faults before before xs sink source) (silent_is f h stands faults until now ys sink' source'))
      (subst (λ (e : AtEntry). IsOfCluster tells (record { set = e.set; commands = commands }) (silent_run ending lines answered full items (silent e.moment e.disks) (silent until (map f ys)))) is ran)

  pub closed_ran : (ending : Status) (now : ℕ) (ys : List X)
      → (commands : ℕ → Option Command) × IsOfCluster tells (record { set = entry.set; commands = commands }) (silent_run ending 0 [] [] [] (silent entry.moment entry.disks) (silent now (map f ys)))
      → IsToldAs o 0 [] [] []
      → (commands : ℕ → Option Command) × IsOfCluster tells (client_script name shape commands) (beneath (ran_of o (handed before (map h xs) sink source) (handed now (map h ys) sink' source')) now ending)
  closed_ran ending now ys ran told = (ran.0, beneath_of ending 0 [] [] [] ran.0 now now ys ran.1 told)

  pub asks_of : (start behind : Asking) (ended : Option CoreFault) (lines : ℕ) (answered full : List JournalEntry) (items : List CourseItem) (until now : ℕ) (ys : List X)
      → start.said ≡ [] → ended ≡ behind.ended → answered ≡ behind.journal → until ≤ now → (behind.ended ≡ None → lines ≡ length behind.said) → AllByRecursion IsOfAsker behind.said
      → IsOfCluster tells (asking_script entry.set behind.said) (silent_run (status_by ended) lines answered full items (silent entry.moment entry.disks) (silent until (map f ys)))
      → IsToldAs o lines answered full items
      → (asks : AsksAsClient tells name shape (ran_of o (handed before (map h xs) sink source) (handed now (map h ys) sink' source')) entry (shows_of tells entry start) (shows_of tells entry behind)) × (asks.until ≡ until)
  asks_of start behind ended lines answered full items until now ys none same journal later begun askers ran told = (
    record {
      set = ap (λ (e : AtEntry). e.set) is;
      moment = ap (λ (e : AtEntry). e.moment) is;
      disks = subst (λ (ds : List DiskSeen). AreHanded (handed before (map h xs) sink source) ds) (sym (ap (λ (e : AtEntry). e.disks) is)) (record { stands = handed_stands f h stands xs; counts = handed_counts f h faults xs });
      first = ap ops_of none;
      began = refl;
      started = ap command_at none;
      said = behind.said;
      askers = askers;
      asked = refl;
      commands = refl;
      lines = λ going. told.line ∙ begun going;
      journal = told.journal ∙ journal;
      until = until;
      later = later;
      machine = subst (λ (was : Option CoreFault). IsOfCluster tells (client_script name shape (command_at behind.said)) (beneath (ran_of o (handed before (map h xs) sink source) (handed now (map h ys) sink' source')) until (status_by was))) same
          (beneath_of (status_by ended) lines answered full items (command_at behind.said) until now ys ran told);
    },
    refl,
  )
