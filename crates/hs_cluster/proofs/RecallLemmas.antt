-- A Read that is told from the cache, and what is cached behind a job.
use Rattle.std.proofs.Common.{◌≡◌, ◌∙◌, ◌⊎◌, inl, inr, ap, sym, subst, ℕ, ◌≤◌, true, false, List, [], Contains, Option, Some, None, refl, arith}
use Rattle.std.specs.Option.{option_map, option_map_or}
use Rattle.std.specs.Prelude.{◌==◌, Bool, Ok}
use Rattle.hs_cache.proofs.RecentLemmas.{put_there}
use Rattle.hs_cache.specs.Cached.{Cached, HasNoMore, Key, pairs_of, with_pair}
use Rattle.hs_cluster.proofs.CopyLemmas.{alone_fine, works_own}
use Rattle.hs_cluster.proofs.JobLemmas.{Since, stays_all, stays_one}
use Rattle.hs_cluster.proofs.ReadLemmas.{some_log}
use Rattle.hs_cluster.specs.Cached.{AreBlocks, IsRecalled, KeepsRead, WasRead}
use Rattle.hs_cluster.specs.Counts.{HasAllPaid, HasPaid}
use Rattle.hs_cluster.specs.Disks.{DiskSeen, log_at, stands_of}
use Rattle.hs_cluster.specs.Jobs.{Leaves, LeavesLog, ReadsLog, TellsBytes, Try, Works, WorksAlone, is_own}
use Rattle.hs_core_words.specs.declared.event.Event.TheVariants as event
use Rattle.hs_core_words.specs.Looking.{first_job, home}
use Rattle.hs_core_words.specs.State.{Core}
use Rattle.hs_desk.specs.Answers.{answers}
use Rattle.hs_desk.specs.declared.done.Done.{Done}
use Rattle.hs_desk.specs.declared.done.Done.TheVariants as done
use Rattle.hs_desk.specs.declared.job.Job.{Job}
use Rattle.hs_desk.specs.declared.job.Job.TheVariants as job
use Rattle.hs_entry.specs.declared.entry.Entry.{Entry}
use Rattle.hs_events.specs.Asked.{failed_disk}
use Rattle.hs_events.specs.Due.{is_answer}
use Rattle.hs_events.specs.Reports.{TellsOf, costs}
use Rattle.hs_fold.specs.Shards.Setting.{Numbered}
use Rattle.hs_peerlog.specs.Lists.{IsKept, Keeping}
use Rattle.hs_ports.specs.Moments.{disk_at}
use Rattle.hs_side.specs.declared.header.Header.{Header}

none_is_not : {A : Type 0} (x : A) → None ≡ Some x → ⊥
none_is_not x e = cc e

some_is : {A : Type 0} (x y : A) → Some x ≡ Some y → x ≡ y
some_is x y e = cc

false_is_not : false ≡ true → ⊥
false_is_not e = cc e

-- ---- what is cached behind a job

-- nothing more
pub keeps_less : (shard front : ℕ) (told : Done) (old new : Option Cached) → HasNoMore old new → KeepsRead shard front told old new
keeps_less shard front told old new fewer = λ pair there. inl (fewer pair there)

pub keeps_same : (shard front : ℕ) (told : Done) (old : Option Cached) → KeepsRead shard front told old old
keeps_same shard front told old = λ pair there. inl there

pub keeps_then : (shard front : ℕ) (told : Done) (old mid new : Option Cached) → HasNoMore old mid → KeepsRead shard front told mid new → KeepsRead shard front told old new
keeps_then shard front told old mid new fewer keeps = λ pair there. elim (keeps pair there) [
  | inl was ↦ inl (fewer pair was)
  | inr read ↦ inr read
]

-- with what was read
pub keeps_pair : (shard front number : ℕ) (bytes : List ℕ) (told : Done) (old new : Option Cached) → told ≡ done.Bytes number bytes → number ≤ front
    → (new ≡ option_map (with_pair shard number bytes) old) ⊎ (new ≡ old) → KeepsRead shard front told old new
keeps_pair shard front number bytes told old new is within made = λ pair there. elim made [
  | inl put ↦ by old pair (subst (λ o. Contains (pairs_of o) pair) put there)
  | inr same ↦ inl (subst (λ o. Contains (pairs_of o) pair) same there)
]
  where
    read : (pair : Key × List ℕ) → pair ≡ ((shard, number), bytes) → WasRead shard front told pair
    read pair e = record {
      of = ap (λ (p : Key × List ℕ). p.0.0) e;
      is = is ∙ ap (λ (p : Key × List ℕ). done.Bytes p.0.1 p.1) (sym e);
      within = subst (λ n. n ≤ front) (sym (ap (λ (p : Key × List ℕ). p.0.1) e)) within;
    }

    by : (o : Option Cached) (pair : Key × List ℕ) → Contains (pairs_of (option_map (with_pair shard number bytes) o)) pair → Contains (pairs_of o) pair ⊎ WasRead shard front told pair
    by None pair there = inl there
    by (Some cache) pair there = elim (put_there cache shard number bytes pair there) [
      | inl was ↦ inl was
      | inr e ↦ inr (read pair e)
    ]

-- ---- a Read that is told from the cache

no_cost : (b : Bool) (disk peer number : ℕ) (bytes : List ℕ) (core : Core) → costs b disk core (event.Report peer (done.Bytes number bytes)) ≡ true → ⊥
no_cost b disk peer number bytes core h = false_is_not h

module _ (core : Core) (logs : List (Option Keeping)) (cache : Option Cached) (peer : ℕ) (told : Done) (recalled : IsRecalled core logs cache peer told) where
  pub recalled_answer : is_answer core peer told ≡ true
  recalled_answer = subst (λ d. is_answer core peer d ≡ true) (sym recalled.is)
      (subst (λ o. option_map_or (λ j. answers peer j (done.Bytes recalled.number recalled.bytes)) o false ≡ true) (sym recalled.first) (itself recalled.number))
    where
      itself : (n : ℕ) → (n == n) ≡ true
      itself n = grind arith

  pub recalled_bytes : TellsBytes told
  recalled_bytes = subst (λ d. TellsBytes d) (sym recalled.is) recalled.fits

  pub recalled_fine : failed_disk told ≡ None
  recalled_fine = ap failed_disk recalled.is

  pub recalled_own : is_own (first_job peer core) ≡ true
  recalled_own = ap is_own recalled.first

  pub recalled_paid : (disks : List DiskSeen) → HasPaid core peer told disks disks
  recalled_paid disks = λ disk h. absurd (no_cost false disk peer recalled.number recalled.bytes core (subst (λ d. costs false disk core (event.Report peer d) ≡ true) recalled.is h))

  pub recalled_all_paid : (disks : List DiskSeen) → HasAllPaid core peer told disks disks
  recalled_all_paid disks = λ disk h. absurd (no_cost true disk peer recalled.number recalled.bytes core (subst (λ d. costs true disk core (event.Report peer d) ≡ true) recalled.is h))

  -- it is the block of its number in a list that has the blocks that are cached
  pub recalled_tells : (list : Numbered) → ((number : ℕ) → first_job peer core ≡ Some (job.Read number) → AreBlocks cache (home peer core) list) → TellsOf told (Some list)
  recalled_tells list blocks = subst (λ d. TellsOf d (Some list)) (sym recalled.is) (blocks recalled.number recalled.first recalled.number recalled.bytes recalled.kept)

  module _ (disks : List DiskSeen) where
    read_is : (j : Job) → first_job peer core ≡ Some j → j ≡ job.Read recalled.number
    read_is j at = some_is j (job.Read recalled.number) (sym at ∙ recalled.first)

    pub recalled_reads : (list : Numbered) (waiting : Option Entry) → ((keeping : Keeping) → log_at logs peer ≡ Some keeping → IsKept keeping ((disk_at (stands_of disks) peer).seen keeping.log.side) list waiting)
        → (j : Job) → first_job peer core ≡ Some j → ReadsLog (failed_disk told) (log_at logs peer) (disk_at (stands_of disks) peer) j list waiting
    recalled_reads list waiting each j at =
        let log = some_log (log_at logs peer) recalled.used in
        subst (λ k. ReadsLog (failed_disk told) (log_at logs peer) (disk_at (stands_of disks) peer) k list waiting) (sym (read_is j at))
        (subst (λ o. ReadsLog o (log_at logs peer) (disk_at (stands_of disks) peer) (job.Read recalled.number) list waiting) (sym recalled_fine) (log.0, log.1, each log.0 log.1))

    -- nothing is done on a disk
    pub recalled_works : {E : Type 0} (head : Header) (now : ℕ) → Since (disk_at (stands_of disks) peer)
        → Works {E = E} head (record { peer = peer; before = now; now = now; logs = logs; after = logs; disks = disks; left = disks }) (first_job peer core) (Ok told)
    recalled_works {E = E} head now since = works_own head _ (first_job peer core) (Ok told) recalled_own alone (alone_fine peer told recalled_fine)
      where
        no_log : (log_at logs peer ≡ None) → ⊥
        no_log none = let log = some_log (log_at logs peer) recalled.used in none_is_not log.0 (sym none ∙ log.1)

        no_job : (first_job peer core ≡ None) → ⊥
        no_job none = none_is_not (job.Read recalled.number) (sym none ∙ recalled.first)

        alone : WorksAlone {E = E} (record { peer = peer; before = now; now = now; logs = logs; after = logs; disks = disks; left = disks }) (first_job peer core) (Ok told)
        alone = record {
          tries = λ last. record {
            idle = λ h. stays_all (disk_at (stands_of disks) peer) now last since;
            cut = λ h. elim h [
              | inl none ↦ no_job none
              | inr none ↦ no_log none
            ];
            each = λ j keeping at there list waiting has_log. subst (λ k. Leaves {E = E} trying k list waiting (Ok told)) (sym (read_is j at)) (record {
              moments = stays_one (disk_at (stands_of disks) peer) now list list last since has_log.leaves;
              log = subst (λ o. LeavesLog o trying (job.Read recalled.number) list waiting) (sym recalled_fine) (keeping, there, has_log);
            });
          };
          count = refl;
          logs = λ p differs. refl;
          others = λ p differs. refl;
        }
          where
            trying : Try
            trying = record { before = now; now = now; slot = log_at logs peer; kept = log_at logs peer; old = disk_at (stands_of disks) peer; new = disk_at (stands_of disks) peer }
