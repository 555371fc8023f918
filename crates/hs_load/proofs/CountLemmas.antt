-- No count of faults falls in a load.
use Rattle.std.proofs.Common.{◌≡◌, ◌≢◌, inl, inr, ap, sym, subst, ℕ, ◌≤◌, List, [], ◌∷◌, Option, Some, None, Result, Ok, Err, get_or, arith}
use Rattle.std.specs.Prelude.{⊤}
use Rattle.hs_book.specs.Book.{Book}
use Rattle.hs_cluster.proofs.CountLemmas.{falls_same, falls_then, falls_within}
use Rattle.hs_cluster.specs.Begins.{HasOpened}
use Rattle.hs_cluster.specs.Counts.{NoneFalls}
use Rattle.hs_cluster.specs.Running.{Running}
use Rattle.hs_cluster.specs.declared.fault.ClusterFault.{ClusterFault}
use Rattle.hs_core_words.specs.State.{Core}
use Rattle.hs_fold.specs.Shards.Setting.{Setting}
use Rattle.hs_limits.specs.declared.address.Address.{Address}
use Rattle.hs_model.specs.declared.command.Command.{Command}
use Rattle.hs_peerlog.specs.Lists.{Keeping}
use Rattle.hs_promise.specs.declared.load.Stored.{Stored}
use Rattle.hs_promise.specs.declared.status.Status.TheVariants as status
use Rattle.hs_script.specs.declared.sums.WriterSum.{WriterSum}
use Rattle.hs_taking.specs.Disks.{DiskSeen, log_at, seen_at}
use Rattle.hs_taking.specs.Shares.{Span}
use Rattle.hs_workers.specs.Work.{WorkEnds}
use Rattle.hs_workers.specs.declared.fault.WorkFault.{WorkFault}
use Rattle.hs_load.specs.Judged.{HaveWorked, Load, Team}
use Rattle.hs_load.specs.Loaded.{Close, Cut, Empty, EndsLoad, EndsTeam, EndsWork, Full, Handed, Judged, Put, PutsSummary, RunsAll, RunsLast, Shut, Stand, Summed, Unopened, Unput, Unagreed, Unfit, Unsummed, Unworked, Wanting, Worked, begun_at, last_lines}
use Rattle.hs_load.specs.Team.{PeerEnds, Task, bench_at, end_by, fresh_slip, stored_of}

-- ---- of disks

module _ (tells : Type 0) where
  one_falls : (peer : ℕ) (slot : Option Keeping) (old new : DiskSeen) (kept : Option Keeping) (told : Stored) (stop : Option WorkFault) → PeerEnds tells peer slot old new kept told stop → old.faults ≤ new.faults
  one_falls peer None old new kept told stop ends = let same : new.faults ≡ old.faults = ap (λ (d : DiskSeen). d.faults) ends.same in omega (arith, same)
  one_falls peer (Some log) old new kept told stop ends = go stop ends.came
    where
      go : (o : Option WorkFault) → WorkEnds tells (fresh_slip peer) ends.slip (bench_at log old) (bench_at ends.left new) (end_by o) → old.faults ≤ new.faults
      go None came = elim came.1 [
        | inl rests ↦ (let calm : new.faults ≡ old.faults = rests.0.done.calm in omega (arith, calm))
        | inr fails ↦ (let calm : fails.between.faults ≡ old.faults = fails.grows.done.calm in let later : fails.between.faults ≤ new.faults = fails.later in omega (arith, calm, later))
      ]
      go (Some why) came = let calm : came.between.faults ≡ old.faults = came.grows.done.calm in let later : came.between.faults ≤ new.faults = came.later in omega (arith, calm, later)

  -- while a team worked
  team_falls : (task : Task) (slots : List (Option Keeping)) (disks left : List DiskSeen) (team : Team) → HaveWorked tells task slots disks left team → NoneFalls disks left
  team_falls task slots disks left team worked = falls_within disks left (λ disk low.
      one_falls disk (log_at slots disk) (seen_at disks disk) (seen_at left disk) (log_at team.logs disk) (get_or team.stored disk (stored_of (fresh_slip disk))) (get_or team.stops disk None)
      (worked.peers disk (stored_of (fresh_slip disk)) None low))

  -- along some lines
  lines_fall : (name : List ℕ → Address) (asked : List Command) (old new : Stand) (did : Result ⊤ ClusterFault) → RunsAll tells name asked old new did → NoneFalls old.disks new.disks
  lines_fall name [] old new did runs = subst (λ (at : Stand). NoneFalls old.disks at.disks) (sym runs.0) (falls_same old.disks)
  lines_fall name (a ∷ asked) old new (Ok x) runs = falls_then old.disks runs.0.disks new.disks runs.1.runs.kept.counted.later (lines_fall name asked runs.0 new (Ok x) runs.2)
  lines_fall name (a ∷ asked) old new (Err f) runs = elim runs [
    | inl cut ↦ cut.runs.kept.counted.later
    | inr on ↦ falls_then old.disks on.0.disks new.disks on.1.runs.kept.counted.later (lines_fall name asked on.0 new (Err f) on.2)
  ]

  last_fall : (load : Load) (book : Book) (team : Team) (left new : List DiskSeen) (core : Core) (did : Result ⊤ ClusterFault) → RunsLast tells load book team left new core did → NoneFalls left new
  last_fall load book team left new core did last = subst (λ (ds : List DiskSeen). NoneFalls left ds) (sym last.disks) (lines_fall load.set.name last_lines (begun_at book team left last.now) last.end did last.runs)

  -- behind the joins
  work_falls : (load : Load) (book : Book) (team : Team) (left new : List DiskSeen) (core : Core) (c : Close) → EndsWork tells load book team left new core c → NoneFalls left new
  work_falls load book team left new core c (Wanting is none same calm) = subst (λ (ds : List DiskSeen). NoneFalls left ds) (sym calm) (falls_same left)
  work_falls load book team left new core c (Unfit same unfit is none at calm) = subst (λ (ds : List DiskSeen). NoneFalls left ds) (sym calm) (falls_same left)
  work_falls load book team left new core c (Judged rested judged none same calm) = subst (λ (ds : List DiskSeen). NoneFalls left ds) (sym calm) (falls_same left)
  work_falls load book team left new core c (Cut f same runs is none) = last_fall load book team left new core (Err f) runs
  work_falls load book team left new core c (Summed same runs puts) = last_fall load book team left new core (Ok tt) runs

  whole_falls : (load : Load) (start : Core) (slots : List (Option Keeping)) (disks new : List DiskSeen) (h : Handed) (c : Close) → EndsTeam tells load start slots disks new h c → c.ending ≢ status.NoMemory → NoneFalls disks new
  whole_falls load start slots disks new h c (Unworked is none kept stored) other = absurd (other is)
  whole_falls load start slots disks new h c (Worked w) other = falls_then disks w.left new (team_falls _ slots disks w.left w.team w.worked) (work_falls load w.book w.team w.left new w.last c w.ends)

  open_falls : (set : Setting) (span : Span) (cluster : Running) (done : Result ⊤ ClusterFault) → HasOpened tells set span cluster done → NoneFalls span.old span.new
  open_falls set span cluster done opened = falls_then span.old opened.disks span.new opened.begins.falls opened.turned.shows.counted.later

  pub load_falls : (load : Load) (before : ℕ) (old new : List DiskSeen) (h : Handed) (c : Close) → EndsLoad tells load before old new h c → c.ending ≢ status.NoMemory → NoneFalls old new
  load_falls load before old new h c (Unopened f closed falls is none same) other = falls
  load_falls load before old new h c (Shut now cluster f opened is none same) other = open_falls load.set _ cluster (Err f) opened
  load_falls load before old new h c (Full now cluster opened some is none same) other = open_falls load.set _ cluster (Ok tt) opened
  load_falls load before old new h c (Empty now cluster disks opened blocks roots team) other =
      falls_then old disks new (open_falls load.set _ cluster (Ok tt) opened) (whole_falls load cluster.core cluster.logs disks new h c team other)

-- ---- of the sink

same_later : (a b : ℕ) → b ≡ a → a ≤ b
same_later a b is = omega (arith, is)

put_later : (writers : ℕ) (ends : List (Result WriterSum WorkFault)) (core : Core) (line : ℕ) (c : Close) → PutsSummary writers ends core line c → c.old_faults ≤ c.new_faults
put_later writers ends core line c (Unsummed is none) = same_later c.old_faults c.new_faults none.1
put_later writers ends core line c (Unagreed sums are differs is none) = same_later c.old_faults c.new_faults none.1
put_later writers ends core line c (Put sums are tallied is put later) = later
put_later writers ends core line c (Unput sums are tallied is put risen later) = later

work_later : (tells : Type 0) (load : Load) (book : Book) (team : Team) (left new : List DiskSeen) (core : Core) (c : Close) → EndsWork tells load book team left new core c → c.old_faults ≤ c.new_faults
work_later tells load book team left new core c (Wanting is none same calm) = same_later c.old_faults c.new_faults none.1
work_later tells load book team left new core c (Unfit same unfit is none at calm) = same_later c.old_faults c.new_faults none.1
work_later tells load book team left new core c (Judged rested judged none same calm) = same_later c.old_faults c.new_faults none.1
work_later tells load book team left new core c (Cut f same runs is none) = same_later c.old_faults c.new_faults none.1
work_later tells load book team left new core c (Summed same runs puts) = put_later load.writers team.ends core book.core.progress.last_line c puts

team_later : (tells : Type 0) (load : Load) (start : Core) (slots : List (Option Keeping)) (disks new : List DiskSeen) (h : Handed) (c : Close) → EndsTeam tells load start slots disks new h c → c.old_faults ≤ c.new_faults
team_later tells load start slots disks new h c (Unworked is none kept stored) = same_later c.old_faults c.new_faults none.1
team_later tells load start slots disks new h c (Worked w) = work_later tells load w.book w.team w.left new w.last c w.ends

pub load_later : (tells : Type 0) (load : Load) (before : ℕ) (old new : List DiskSeen) (h : Handed) (c : Close) → EndsLoad tells load before old new h c → c.old_faults ≤ c.new_faults
load_later tells load before old new h c (Unopened f closed falls is none same) = same_later c.old_faults c.new_faults none.1
load_later tells load before old new h c (Shut now cluster f opened is none same) = same_later c.old_faults c.new_faults none.1
load_later tells load before old new h c (Full now cluster opened some is none same) = same_later c.old_faults c.new_faults none.1
load_later tells load before old new h c (Empty now cluster disks opened blocks roots team) = team_later tells load cluster.core cluster.logs disks new h c team
