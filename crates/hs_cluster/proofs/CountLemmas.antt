-- Counts of faults: of a job, of an event, and of one run of them behind another.
use Rattle.std.proofs.Common.{◌≡◌, ◌∙◌, ◌⊎◌, inl, inr, ap, sym, subst, ℕ, zero, suc, ◌+◌, ◌-◌, ◌^◌, ◌<◌, ◌≤◌, ◌&&◌, Bool, true, false, List, [], ◌∷◌, ◌++◌, length, map, not, Option, Some, None, refl, arith}
use Rattle.std.proofs.lemmas.Bool.{cases_eq, cases_lt}
use Rattle.std.specs.Option.{option_map_or}
use Rattle.std.specs.Prelude.{◌==◌, ◌||◌, ⊤, IfErr, IfOk, IfSome, Result, Ok, Err, if◌then◌else◌, min, slice_index_or, slice_set}
use Rattle.hs_cluster.specs.Calls.{done_of, ran_out}
use Rattle.hs_cluster.specs.Counts.{AllStandUntold, AreAllCounted, AreCounted, HasAllPaid, HasPaid, HasRisenTold, IsCopyPaid, IsPaid, NoneFalls, NoneRises, StandsUntold, UntoldStand}
use Rattle.hs_cluster.specs.declared.fault.ClusterFault.{ClusterFault}
use Rattle.hs_cluster.specs.Disks.{DiskSeen, seen_at}
use Rattle.hs_core_words.specs.declared.event.Event.{Event}
use Rattle.hs_core_words.specs.declared.event.Event.TheVariants as event
use Rattle.hs_core_words.specs.Looking.{first_job}
use Rattle.hs_core_words.specs.State.{Core}
use Rattle.hs_core_words.specs.Step.{step}
use Rattle.hs_desk.specs.declared.done.Done.{Done}
use Rattle.hs_desk.specs.declared.done.Done.TheVariants as done
use Rattle.hs_desk.specs.declared.job.Job.{Job}
use Rattle.hs_desk.specs.declared.job.Job.TheVariants as job
use Rattle.hs_events.specs.Asked.{failed_disk, report_in}
use Rattle.hs_events.specs.Course.{steps}
use Rattle.hs_events.specs.Due.{Events}
use Rattle.hs_events.specs.Reports.{costs, failures, only_reads}
use Rattle.hs_peerlog.specs.Caused.{IsCalm, IsCaused, IsOutside}
use Rattle.hs_peerlog.specs.declared.fault.LogFault.{LogFault}
use Rattle.hs_peerlog.specs.declared.fault.LogFault.TheVariants as log
use Rattle.hs_ports.specs.Fault.{HasRisen}
use Rattle.hs_ports.specs.Objects.{RoseBy}
use Rattle.hs_taking.proofs.DiskLemmas.{seen_here, seen_is, seen_there}

no_truth : false ≡ true → ⊥
no_truth e = grind arith

some_is_not : {A : Type 0} (x : A) → Some x ≡ None → ⊥
some_is_not x e = grind arith

same_number : (a b : ℕ) → (a == b) ≡ true → a ≡ b
same_number a b h = grind arith

equal_number : (n : ℕ) → (n == n) ≡ true
equal_number n = grind arith

-- ---- a count that rose; top: at which it stands still

-- by nothing
pub rose_none : (top a b : ℕ) → a ≤ b → min (a + 0) top ≤ b
rose_none top a b low = omega (arith, low)

pub rose_then : (top a b c n m : ℕ) → min (a + n) top ≤ b → min (b + m) top ≤ c → min (a + (n + m)) top ≤ c
rose_then top a b c n m one two = omega (arith, one, two)

risen_from : (top a b c : ℕ) → a ≤ b → min (b + 1) top ≤ c → min (a + 1) top ≤ c
risen_from top a b c later rose = omega (arith, later, rose)

-- ---- what a job came to

-- it is no failure
pub paid_fine : (peer before now : ℕ) (done : Done) → failed_disk done ≡ None → IsPaid peer before now done
paid_fine peer before now done fine = subst (λ o. IfSome o (λ disk. (disk ≡ peer) × HasRisen before now)) (sym fine) tt

-- it is one of its disk, or memory ran out
pub paid_failed : (peer before now : ℕ) → HasRisen before now → IsPaid peer before now (done.Failed peer)
paid_failed peer before now rose = (refl, rose)

-- a fault of a call that is no want of memory is one of its disk
pub rose_outside : {T : Type 0} (before now : ℕ) (fault : LogFault) (result : Result T LogFault) → result ≡ Err fault → (fault ≡ log.NoMemory → ⊥) → IfErr result IsOutside → IsCaused before now result → HasRisen before now
rose_outside {T = T} before now (log.NotALog at) result is there outside cause = absurd (subst (λ (r : Result T LogFault). IfErr r IsOutside) is outside)
rose_outside {T = T} before now (log.WrongShape found) result is there outside cause = absurd (subst (λ (r : Result T LogFault). IfErr r IsOutside) is outside)
rose_outside {T = T} before now log.Disk result is there outside cause = (subst (λ (r : Result T LogFault). IsCaused before now r) is cause).failed refl
rose_outside {T = T} before now log.NoMemory result is there outside cause = absurd (there refl)

-- so of a copy, whatever failed
pub copied_paid : (from peer first before now : ℕ) (done : Done) → first ≤ before → IsPaid peer before now done → IsCopyPaid from peer first now done
copied_paid from peer first before now done later paid = go (failed_disk done) paid
  where
    go : (o : Option ℕ) → IfSome o (λ disk. (disk ≡ peer) × HasRisen before now) → IfSome o (λ disk. (disk ≡ from) ⊎ ((disk ≡ peer) × HasRisen first now))
    go None h = tt
    go (Some disk) h = inr (h.0, risen_from (2 ^ 64 - 1) first before now later h.1)

pub copied_results : {E : Type 0} (from peer first before now : ℕ) (result : Result Done E) → first ≤ before → IfOk result (IsPaid peer before now) → IfOk result (IsCopyPaid from peer first now)
copied_results from peer first before now (Ok done) later paid = copied_paid from peer first before now done later paid
copied_results from peer first before now (Err fault) later paid = tt

pub read_failed : (from peer before now : ℕ) → IsCopyPaid from peer before now (done.Failed from)
read_failed from peer before now = inl refl

-- ---- one disk of several

-- one of them had a call, and no other
pub falls_not : {A : Type 0} (f : A → DiskSeen) (disks : List A) (peer : ℕ) (d disk : A) → peer < length disks → (f (slice_index_or disks peer d)).faults ≤ (f disk).faults → NoneFalls (map f disks) (map f (slice_set disks peer disk))
falls_not f disks peer d disk low later = λ at. elim (cases_eq at peer) [
  | inl same ↦ subst (λ p. (seen_at (map f disks) p).faults ≤ (seen_at (map f (slice_set disks peer disk)) p).faults) (sym same) here
  | inr differs ↦ let is = ap (λ (s : DiskSeen). s.faults) (seen_there f disks peer at disk differs) in omega (arith, is)
]
  where
    here : (seen_at (map f disks) peer).faults ≤ (seen_at (map f (slice_set disks peer disk)) peer).faults
    here =
        let before = ap (λ (s : DiskSeen). s.faults) (seen_is f disks peer d low) in
        let after = ap (λ (s : DiskSeen). s.faults) (seen_here f disks peer disk low) in
        omega (arith, before, after, later)

pub falls_same : (disks : List DiskSeen) → NoneFalls disks disks
falls_same disks = λ at. omega arith

-- past the last disk there is no count
seen_past : (disks : List DiskSeen) (at : ℕ) → length disks ≤ at → (seen_at disks at).faults ≡ 0
seen_past [] at past = refl
seen_past (d ∷ disks) zero past = absurd (omega (arith, past))
seen_past (d ∷ disks) (suc at) past = seen_past disks at (omega (arith, past))

pub falls_within : (old new : List DiskSeen) → ((disk : ℕ) → disk < length old → (seen_at old disk).faults ≤ (seen_at new disk).faults) → NoneFalls old new
falls_within old new within = λ disk. elim (cases_lt disk (length old)) [
  | inl low ↦ within disk low
  | inr past ↦ let none = seen_past old disk past in omega (arith, none)
]

pub falls_then : (old mid new : List DiskSeen) → NoneFalls old mid → NoneFalls mid new → NoneFalls old new
falls_then old mid new one two = λ at. let a = one at in let b = two at in omega (arith, a, b)

-- ---- what a report costs

both_true : (a b : Bool) → (a && b) ≡ true → (a ≡ true) × (b ≡ true)
both_true true true h = (refl, refl)
both_true true false h = (refl, h)
both_true false b h = absurd (no_truth h)

-- of which disk, and that the job not only reads it
pub costs_of : (disk peer : ℕ) (core : Core) (done : Done) → costs false disk core (event.Report peer done) ≡ true
    → (failed_disk done ≡ Some disk) × (option_map_or (only_reads disk) (first_job peer core) false ≡ false)
costs_of disk peer core done h = go (failed_disk done) (option_map_or (only_reads disk) (first_job peer core) false) h
  where
    go : (o : Option ℕ) (reads : Bool) → (option_map_or (λ d. d == disk) o false && (false || not reads)) ≡ true → (o ≡ Some disk) × (reads ≡ false)
    go None reads h = absurd (no_truth h)
    go (Some d) true h = absurd (no_truth (both_true (d == disk) false h).1)
    go (Some d) false h = (ap (λ n. Some n) (same_number d disk (both_true (d == disk) true h).0), refl)

-- whose failed call is told, whatever the job
all_costs_of : (disk peer : ℕ) (core : Core) (done : Done) → costs true disk core (event.Report peer done) ≡ true → failed_disk done ≡ Some disk
all_costs_of disk peer core done h = go (failed_disk done) (option_map_or (only_reads disk) (first_job peer core) false) h
  where
    go : (o : Option ℕ) (reads : Bool) → (option_map_or (λ d. d == disk) o false && (true || not reads)) ≡ true → o ≡ Some disk
    go None reads h = absurd (no_truth h)
    go (Some d) reads h = ap (λ n. Some n) (same_number d disk (both_true (d == disk) (true || not reads) h).0)

pub told_paid_result : {E : Type 0} (core : Core) (peer : ℕ) (result : Result Done E) (old new : List DiskSeen) → IfOk result (λ done. HasRisenTold done old new) → IfOk result (λ done. HasAllPaid core peer done old new)
told_paid_result core peer (Ok done) old new risen = λ disk cost. risen disk (all_costs_of disk peer core done cost)
told_paid_result core peer (Err fault) old new risen = tt

-- a job on the disk of its peer alone, behind calls of which no count fell
pub risen_result : {E : Type 0} (peer : ℕ) (result : Result Done E) (old mid new : List DiskSeen) → NoneFalls old mid → IfOk result (IsPaid peer (seen_at mid peer).faults (seen_at new peer).faults) → IfOk result (λ done. HasRisenTold done old new)
risen_result peer (Ok done) old mid new falls paid = λ disk fails.
    let both = subst (λ o. IfSome o (λ d. (d ≡ peer) × HasRisen (seen_at mid peer).faults (seen_at new peer).faults)) fails paid in
    subst (λ p. HasRisen (seen_at old p).faults (seen_at new p).faults) (sym both.0)
    (risen_from (2 ^ 64 - 1) (seen_at old peer).faults (seen_at mid peer).faults (seen_at new peer).faults (falls peer) both.1)
risen_result peer (Err fault) old mid new falls paid = tt

-- one that was given up since a disk failed
pub risen_told : (from : ℕ) (old new : List DiskSeen) → HasRisen (seen_at old from).faults (seen_at new from).faults → HasRisenTold (done.Failed from) old new
risen_told from old new rose = λ disk fails. let same : from ≡ disk = cc fails in subst (λ p. HasRisen (seen_at old p).faults (seen_at new p).faults) same rose

pub failed_risen : {T E : Type 0} (from : ℕ) (fault : LogFault) (before now : ℕ) (r : Result Done E) (old new : List DiskSeen) → IsOutside fault → IsCaused {T = T} before now (Err fault)
    → (HasRisen before now → HasRisen (seen_at old from).faults (seen_at new from).faults) → IfOk r (λ told. told ≡ done.Failed from) → IfOk r (λ told. fault ≡ log.NoMemory → ⊥) → IfOk r (λ told. HasRisenTold told old new)
failed_risen {T = T} from fault before now (Ok told) old new outside cause there is no_memory =
    subst (λ t. HasRisenTold t old new) (sym is) (risen_told from old new (there (rose_outside {T = T} before now fault (Err fault) refl no_memory outside cause)))
failed_risen from fault before now (Err other) old new outside cause there is no_memory = tt

-- the one disk of several that had a call
pub risen_at : {A : Type 0} (f : A → DiskSeen) (disks : List A) (at place : ℕ) (d disk : A) → place ≡ at → place < length disks → HasRisen (f (slice_index_or disks place d)).faults (f disk).faults
    → HasRisen (seen_at (map f disks) at).faults (seen_at (map f (slice_set disks place disk)) at).faults
risen_at f disks at place d disk same low rose =
    subst (λ p. HasRisen (seen_at (map f disks) p).faults (seen_at (map f (slice_set disks place disk)) p).faults) same
    (subst (λ n. HasRisen n (seen_at (map f (slice_set disks place disk)) place).faults) (ap (λ (s : DiskSeen). s.faults) (sym (seen_is f disks place d low)))
    (subst (λ n. HasRisen (f (slice_index_or disks place d)).faults n) (ap (λ (s : DiskSeen). s.faults) (sym (seen_here f disks place disk low))) rose))

-- a job of whatever kind on the disk of its peer alone
pub all_paid : (core : Core) (peer : ℕ) (done : Done) (old new : List DiskSeen) → IsPaid peer (seen_at old peer).faults (seen_at new peer).faults done → HasAllPaid core peer done old new
all_paid core peer done old new paid = λ disk cost.
    let both = subst (λ o. IfSome o (λ d. (d ≡ peer) × HasRisen (seen_at old peer).faults (seen_at new peer).faults)) (all_costs_of disk peer core done cost) paid in
    subst (λ p. HasRisen (seen_at old p).faults (seen_at new p).faults) (sym both.0) both.1

pub all_paid_result : {E : Type 0} (core : Core) (peer : ℕ) (result : Result Done E) (old new : List DiskSeen) → IfOk result (IsPaid peer (seen_at old peer).faults (seen_at new peer).faults)
    → IfOk result (λ done. HasAllPaid core peer done old new)
all_paid_result core peer (Ok done) old new paid = all_paid core peer done old new paid
all_paid_result core peer (Err fault) old new paid = tt

-- a job that is done on the disk of its peer alone
pub job_paid : (core : Core) (peer : ℕ) (j : Job) (done : Done) (old new : List DiskSeen) → first_job peer core ≡ Some j
    → ((disk : ℕ) → only_reads disk j ≡ false → IsPaid peer (seen_at old peer).faults (seen_at new peer).faults done) → HasPaid core peer done old new
job_paid core peer j done old new first paid = λ disk cost.
    let cost_of = costs_of disk peer core done cost in
    let both = subst (λ o. IfSome o (λ d. (d ≡ peer) × HasRisen (seen_at old peer).faults (seen_at new peer).faults)) cost_of.0
    (paid disk (ap (λ o. option_map_or (only_reads disk) o false) (sym first) ∙ cost_of.1)) in
    subst (λ p. HasRisen (seen_at old p).faults (seen_at new p).faults) (sym both.0) both.1

-- a copy, whose failed read costs nothing
pub copy_paid : (core : Core) (peer from number : ℕ) (done : Done) (old new : List DiskSeen) → first_job peer core ≡ Some (job.Copy from number)
    → IsCopyPaid from peer (seen_at old peer).faults (seen_at new peer).faults done → HasPaid core peer done old new
copy_paid core peer from number done old new first paid = λ disk cost.
    let cost_of = costs_of disk peer core done cost in
    let reads : (from == disk) ≡ false = ap (λ o. option_map_or (only_reads disk) o false) (sym first) ∙ cost_of.1 in
    let either = subst (λ o. IfSome o (λ d. (d ≡ from) ⊎ ((d ≡ peer) × HasRisen (seen_at old peer).faults (seen_at new peer).faults))) cost_of.0 paid in
    elim either [
      | inl same ↦ absurd (no_truth (sym reads ∙ ap (λ d. from == d) same ∙ equal_number from))
      | inr both ↦ subst (λ p. HasRisen (seen_at old p).faults (seen_at new p).faults) (sym both.0) both.1
    ]

-- whatever it came to
pub job_paid_result : {E : Type 0} (core : Core) (peer : ℕ) (j : Job) (result : Result Done E) (old new : List DiskSeen) → first_job peer core ≡ Some j
    → ((disk : ℕ) → only_reads disk j ≡ false → IfOk result (IsPaid peer (seen_at old peer).faults (seen_at new peer).faults)) → IfOk result (λ done. HasPaid core peer done old new)
job_paid_result core peer j (Ok done) old new first paid = job_paid core peer j done old new first paid
job_paid_result core peer j (Err fault) old new first paid = tt

pub copy_paid_result : {E : Type 0} (core : Core) (peer from number : ℕ) (result : Result Done E) (old new : List DiskSeen) → first_job peer core ≡ Some (job.Copy from number)
    → IfOk result (IsCopyPaid from peer (seen_at old peer).faults (seen_at new peer).faults) → IfOk result (λ done. HasPaid core peer done old new)
copy_paid_result core peer from number (Ok done) old new first paid = copy_paid core peer from number done old new first paid
copy_paid_result core peer from number (Err fault) old new first paid = tt

-- as it was paid on the disk itself, which has this place
pub paid_at : {E A : Type 0} (f : A → DiskSeen) (disks : List A) (peer place : ℕ) (d disk : A) (result : Result Done E) → place ≡ peer → place < length disks → IfOk result (IsPaid peer (f (slice_index_or disks place d)).faults (f disk).faults)
    → IfOk result (IsPaid peer (seen_at (map f disks) peer).faults (seen_at (map f (slice_set disks place disk)) peer).faults)
paid_at {E = E} f disks peer place d disk result same low paid =
    subst (λ p. IfOk {E = E} result (IsPaid peer (seen_at (map f disks) p).faults (seen_at (map f (slice_set disks place disk)) p).faults)) same
    (subst (λ n. IfOk {E = E} result (IsPaid peer n (seen_at (map f (slice_set disks place disk)) place).faults)) (ap (λ (s : DiskSeen). s.faults) (sym (seen_is f disks place d low)))
    (subst (λ n. IfOk {E = E} result (IsPaid peer (f (slice_index_or disks place d)).faults n)) (ap (λ (s : DiskSeen). s.faults) (sym (seen_here f disks place disk low))) paid))

-- a read only reads
pub read_only : (disk number : ℕ) (j : Job) → j ≡ job.Read number → only_reads disk j ≡ false → ⊥
read_only disk number j is only = no_truth (sym only ∙ ap (λ x. only_reads disk x) is)

-- want of memory alone
pub outside_memory : {T : Type 0} (result : Result T LogFault) → IfErr result (λ fault. fault ≡ log.NoMemory) → IfErr result IsOutside
outside_memory (Ok x) h = tt
outside_memory (Err fault) h = subst (λ f. IsOutside f) (sym h) tt

-- a fault of the disk alone
pub outside_disk : {T : Type 0} (result : Result T LogFault) → IfErr result (λ fault. fault ≡ log.Disk) → IfErr result IsOutside
outside_disk (Ok x) h = tt
outside_disk (Err fault) h = subst (λ f. IsOutside f) (sym h) tt

-- ---- a job whose count stands

-- of whatever was answered, where the count stands
pub calm_still : {T : Type 0} (before now : ℕ) (result : Result T LogFault) → now ≡ before → IsCalm before now result
calm_still before now (Ok x) still = still
calm_still before now (Err (log.NotALog at)) still = still
calm_still before now (Err (log.WrongShape found)) still = still
calm_still before now (Err log.Disk) still = tt
calm_still before now (Err log.NoMemory) still = tt

-- one of several disks had a call that did not fail
pub rises_not : {A : Type 0} (f : A → DiskSeen) (disks : List A) (place : ℕ) (d disk : A) → place < length disks → (f disk).faults ≡ (f (slice_index_or disks place d)).faults → NoneRises (map f disks) (map f (slice_set disks place disk))
rises_not f disks place d disk low still = λ at. elim (cases_eq at place) [
  | inl same ↦ subst (λ p. (seen_at (map f (slice_set disks place disk)) p).faults ≡ (seen_at (map f disks) p).faults) (sym same)
      (ap (λ (s : DiskSeen). s.faults) (seen_here f disks place disk low) ∙ still ∙ sym (ap (λ (s : DiskSeen). s.faults) (seen_is f disks place d low)))
  | inr differs ↦ ap (λ (s : DiskSeen). s.faults) (seen_there f disks place at disk differs)
]

-- it failed, and that is told of its peer, which has its place
pub stand_failed : {A : Type 0} (f : A → DiskSeen) (disks : List A) (peer place : ℕ) (disk : A) → place ≡ peer → AllStandUntold (done.Failed peer) (map f disks) (map f (slice_set disks place disk))
stand_failed f disks peer place disk same = λ at other. ap (λ (s : DiskSeen). s.faults) (seen_there f disks place at disk (λ is. other (ap (λ n. Some n) (sym (is ∙ same)))))

-- whatever it came to
pub stand_at : {E A : Type 0} (f : A → DiskSeen) (disks : List A) (peer place : ℕ) (d disk : A) (result : Result Done E) → place ≡ peer → place < length disks
    → IfOk result (StandsUntold peer (f (slice_index_or disks place d)).faults (f disk).faults) → IfOk result (λ told. AllStandUntold told (map f disks) (map f (slice_set disks place disk)))
stand_at f disks peer place d disk (Err fault) same low stands = tt
stand_at f disks peer place d disk (Ok told) same low stands = λ at other. elim (cases_eq at place) [
  | inl is ↦ subst (λ p. (seen_at (map f (slice_set disks place disk)) p).faults ≡ (seen_at (map f disks) p).faults) (sym is)
      (ap (λ (s : DiskSeen). s.faults) (seen_here f disks place disk low)
      ∙ stands (λ fails. other (fails ∙ ap (λ n. Some n) (sym (is ∙ same))))
      ∙ sym (ap (λ (s : DiskSeen). s.faults) (seen_is f disks place d low)))
  | inr differs ↦ ap (λ (s : DiskSeen). s.faults) (seen_there f disks place at disk differs)
]

-- behind calls that did not fail
pub stand_then : {E : Type 0} (old mid new : List DiskSeen) (result : Result Done E) → NoneRises old mid → IfOk result (λ told. AllStandUntold told mid new) → IfOk result (λ told. AllStandUntold told old new)
stand_then old mid new (Ok told) first stands = λ at other. stands at other ∙ first at
stand_then old mid new (Err fault) first stands = tt

-- where none failed
pub stand_all : (told : Done) (old new : List DiskSeen) → failed_disk told ≡ None → AllStandUntold told old new → NoneRises old new
stand_all told old new fine stands = λ at. stands at (λ fails. some_is_not at (sym fails ∙ fine))

pub rises_then : (old mid new : List DiskSeen) → NoneRises old mid → NoneRises mid new → NoneRises old new
rises_then old mid new one two = λ at. two at ∙ one at

-- past the last disk no count rises
pub rises_within : (old new : List DiskSeen) → length new ≡ length old → ((disk : ℕ) → disk < length old → (seen_at new disk).faults ≡ (seen_at old disk).faults) → NoneRises old new
rises_within old new same within = λ disk. elim (cases_lt disk (length old)) [
  | inl low ↦ within disk low
  | inr past ↦ seen_past new disk (omega (arith, past, same)) ∙ sym (seen_past old disk past)
]

-- ---- events

-- nothing happened
pub counted_none : (core : Core) (old new : List DiskSeen) → NoneFalls old new → AreCounted core [] old new
counted_none core old new later = record { later = later; failed = λ disk. rose_none (2 ^ 64 - 1) (seen_at old disk).faults (seen_at new disk).faults (later disk) }

pub counted_still : (core : Core) (disks : List DiskSeen) → AreCounted core [] disks disks
counted_still core disks = counted_none core disks disks (falls_same disks)

-- so of reads too
pub all_none : (core : Core) (old new : List DiskSeen) → NoneFalls old new → AreAllCounted core [] old new
all_none core old new later = λ disk. rose_none (2 ^ 64 - 1) (seen_at old disk).faults (seen_at new disk).faults (later disk)

pub all_still : (core : Core) (disks : List DiskSeen) → AreAllCounted core [] disks disks
all_still core disks = all_none core disks disks (falls_same disks)

-- one event, unless memory ran out before it
rose_one : (tells : Bool) (core : Core) (e : Event) (now : ℕ) (r : Result ⊤ ClusterFault) (old new : List DiskSeen) → NoneFalls old new
    → ((disk : ℕ) → costs tells disk core e ≡ true → HasRisen (seen_at old disk).faults (seen_at new disk).faults)
    → (disk : ℕ) → RoseBy (failures tells disk core (done_of r (e, now))) (seen_at old disk).faults (seen_at new disk).faults
rose_one tells core e now r old new later paid = λ disk. by disk (ran_out r)
  where
    one : (disk : ℕ) (b : Bool) → costs tells disk core e ≡ b → RoseBy ((if b then 1 else 0) + 0) (seen_at old disk).faults (seen_at new disk).faults
    one disk true cost = paid disk cost
    one disk false cost = rose_none (2 ^ 64 - 1) (seen_at old disk).faults (seen_at new disk).faults (later disk)

    by : (disk : ℕ) (b : Bool) → RoseBy (failures tells disk core (if b then [] else (e, now) ∷ [])) (seen_at old disk).faults (seen_at new disk).faults
    by disk true = rose_none (2 ^ 64 - 1) (seen_at old disk).faults (seen_at new disk).faults (later disk)
    by disk false = one disk (costs tells disk core e) refl

pub counted_one : (core : Core) (e : Event) (now : ℕ) (r : Result ⊤ ClusterFault) (old new : List DiskSeen) → NoneFalls old new
    → ((disk : ℕ) → costs false disk core e ≡ true → HasRisen (seen_at old disk).faults (seen_at new disk).faults) → AreCounted core (done_of r (e, now)) old new
counted_one core e now r old new later paid = record { later = later; failed = rose_one false core e now r old new later paid }

pub all_one : (core : Core) (e : Event) (now : ℕ) (r : Result ⊤ ClusterFault) (old new : List DiskSeen) → NoneFalls old new
    → ((disk : ℕ) → costs true disk core e ≡ true → HasRisen (seen_at old disk).faults (seen_at new disk).faults) → AreAllCounted core (done_of r (e, now)) old new
all_one core e now r old new later paid = rose_one true core e now r old new later paid

-- one that is no report
quiet_costs : (tells : Bool) (disk : ℕ) (core : Core) (e : Event) → report_in e ≡ None → costs tells disk core e ≡ false
quiet_costs tells disk core (event.Line line o) quiet = refl
quiet_costs tells disk core (event.Report peer done) quiet = absurd (some_is_not (peer, done) quiet)
quiet_costs tells disk core (event.Turn line peer) quiet = refl
quiet_costs tells disk core (event.Deliver line message) quiet = refl
quiet_costs tells disk core (event.Lose line message) quiet = refl
quiet_costs tells disk core (event.Repeat line message) quiet = refl
quiet_costs tells disk core (event.Nudge line peer) quiet = refl
quiet_costs tells disk core (event.Fail line peer) quiet = refl
quiet_costs tells disk core (event.Start line peer) quiet = refl

pub counted_quiet : (core : Core) (e : Event) (now : ℕ) (r : Result ⊤ ClusterFault) (disks : List DiskSeen) → report_in e ≡ None → AreCounted core (done_of r (e, now)) disks disks
counted_quiet core e now r disks quiet = counted_one core e now r disks disks (falls_same disks) (λ disk cost. absurd (no_truth (sym (quiet_costs false disk core e quiet) ∙ cost)))

pub all_quiet : (core : Core) (e : Event) (now : ℕ) (r : Result ⊤ ClusterFault) (disks : List DiskSeen) → report_in e ≡ None → AreAllCounted core (done_of r (e, now)) disks disks
all_quiet core e now r disks quiet = all_one core e now r disks disks (falls_same disks) (λ disk cost. absurd (no_truth (sym (quiet_costs true disk core e quiet) ∙ cost)))

-- some behind others
pub failures_append : (tells : Bool) (disk : ℕ) (core : Core) (es fs : Events) → failures tells disk core (es ++ fs) ≡ failures tells disk core es + failures tells disk (steps core es) fs
failures_append tells disk core [] fs = none (failures tells disk core fs)
  where
    none : (n : ℕ) → n ≡ 0 + n
    none n = omega arith
failures_append tells disk core (e ∷ es) fs =
    ap (λ n. (if costs tells disk core e.0 then 1 else 0) + n) (failures_append tells disk (step e.0 e.1 core) es fs)
    ∙ shift (if costs tells disk core e.0 then 1 else 0) (failures tells disk (step e.0 e.1 core) es) (failures tells disk (steps (step e.0 e.1 core) es) fs)
  where
    shift : (a b c : ℕ) → a + (b + c) ≡ (a + b) + c
    shift a b c = omega arith

rose_both : (tells : Bool) (core mid : Core) (es fs : Events) (disks between left : List DiskSeen) → mid ≡ steps core es
    → ((disk : ℕ) → RoseBy (failures tells disk core es) (seen_at disks disk).faults (seen_at between disk).faults)
    → ((disk : ℕ) → RoseBy (failures tells disk mid fs) (seen_at between disk).faults (seen_at left disk).faults)
    → (disk : ℕ) → RoseBy (failures tells disk core (es ++ fs)) (seen_at disks disk).faults (seen_at left disk).faults
rose_both tells core mid es fs disks between left is one two = λ disk.
    subst (λ n. RoseBy n (seen_at disks disk).faults (seen_at left disk).faults) (sym (failures_append tells disk core es fs))
    (rose_then (2 ^ 64 - 1) (seen_at disks disk).faults (seen_at between disk).faults (seen_at left disk).faults (failures tells disk core es) (failures tells disk (steps core es) fs)
    (one disk) (subst (λ (c : Core). RoseBy (failures tells disk c fs) (seen_at between disk).faults (seen_at left disk).faults) is (two disk)))

pub all_then : (core mid : Core) (es fs : Events) (disks between left : List DiskSeen) → mid ≡ steps core es → AreAllCounted core es disks between → AreAllCounted mid fs between left → AreAllCounted core (es ++ fs) disks left
all_then core mid es fs disks between left is one two = rose_both true core mid es fs disks between left is one two

pub counted_then : (core mid : Core) (es fs : Events) (disks between left : List DiskSeen) → mid ≡ steps core es → AreCounted core es disks between → AreCounted mid fs between left → AreCounted core (es ++ fs) disks left
counted_then core mid es fs disks between left is one two = record {
  later = falls_then disks between left one.later two.later;
  failed = rose_both false core mid es fs disks between left is one.failed two.failed;
}

-- ---- counts that stand

-- an event that is no report, or nothing
pub untold_same : (core : Core) (es : Events) (disks : List DiskSeen) → UntoldStand core es disks disks
untold_same core es disks = λ disk none. refl

-- the report of a job, where its call that failed is told
pub untold_reported : (core : Core) (peer now : ℕ) (told : Done) (r : Result ⊤ ClusterFault) (old new : List DiskSeen) → AllStandUntold told old new → ran_out r ≡ false → UntoldStand core (done_of r (event.Report peer told, now)) old new
untold_reported core peer now told r old new stands out = λ disk none.
    let one : (if costs true disk core (event.Report peer told) then 1 else 0) + 0 ≡ 0 = subst (λ (b : Bool). failures true disk core (if b then [] else (event.Report peer told, now) ∷ []) ≡ 0) out none in
    stands disk (λ fails. some_cost disk one fails)
  where
    cost_of : (disk : ℕ) → failed_disk told ≡ Some disk → costs true disk core (event.Report peer told) ≡ true
    cost_of disk fails =
        subst (λ o. (option_map_or (λ d. d == disk) o false && (true || not (option_map_or (only_reads disk) (first_job peer core) false))) ≡ true) (sym fails) (ap (λ b. b && true) (equal_number disk))

    some_cost : (disk : ℕ) → (if costs true disk core (event.Report peer told) then 1 else 0) + 0 ≡ 0 → failed_disk told ≡ Some disk → ⊥
    some_cost disk none fails =
        let one : 1 + 0 ≡ 0 = subst (λ (b : Bool). (if b then 1 else 0) + 0 ≡ 0) (cost_of disk fails) none in
        omega (arith, one)

-- some behind others
pub untold_then : (core mid : Core) (es fs : Events) (disks between left : List DiskSeen) → mid ≡ steps core es → UntoldStand core es disks between → UntoldStand mid fs between left → UntoldStand core (es ++ fs) disks left
untold_then core mid es fs disks between left is one two = λ disk none.
    let sum = sym (failures_append true disk core es fs) ∙ none in
    two disk (ap (λ (c : Core). failures true disk c fs) is ∙ none_right (failures true disk core es) (failures true disk (steps core es) fs) sum) ∙ one disk (none_left (failures true disk core es) (failures true disk (steps core es) fs) sum)
  where
    none_left : (a b : ℕ) → a + b ≡ 0 → a ≡ 0
    none_left a b h = omega (arith, h)

    none_right : (a b : ℕ) → a + b ≡ 0 → b ≡ 0
    none_right a b h = omega (arith, h)

-- so from earlier disks too, where no count fell on the way
pub counted_before : (core : Core) (es : Events) (first old new : List DiskSeen) → NoneFalls first old → AreCounted core es old new → AreCounted core es first new
counted_before core es first old new falls counted = counted_then core core [] es first old new refl (counted_none core first old falls) counted

-- the count of a disk is that of its place among all counts
pub faults_seen : (disks : List DiskSeen) (disk : ℕ) → slice_index_or (map (λ (d : DiskSeen). d.faults) disks) disk 0 ≡ (seen_at disks disk).faults
faults_seen [] disk = refl
faults_seen (d ∷ disks) zero = refl
faults_seen (d ∷ disks) (suc disk) = faults_seen disks disk
