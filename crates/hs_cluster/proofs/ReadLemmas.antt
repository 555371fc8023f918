-- What reads of the logs give behind an event, whatever a stop leaves.
use Rattle.std.proofs.Common.{◌≡◌, ◌≢◌, ◌∙◌, inl, inr, ap, sym, subst, ℕ, true, false, List, Option, Some, None, refl}
use Rattle.std.proofs.lemmas.Bool.{cases_eq}
use Rattle.std.specs.Option.{option_map_or}
use Rattle.std.specs.Prelude.{IsSome}
use Rattle.hs_cluster.proofs.HeldLemmas.{HasKept, done_is, sealed_beside, sealed_stays}
use Rattle.hs_cluster.specs.Disks.{DiskSeen, log_at, stands_of}
use Rattle.hs_cluster.specs.Jobs.{ReadsLog, list_after}
use Rattle.hs_cluster.specs.Kept.{CanGoOn, CanRead, ReadsLogs, sealed_front}
use Rattle.hs_core_words.specs.declared.event.Event.{Event}
use Rattle.hs_core_words.specs.declared.event.Event.TheVariants as event
use Rattle.hs_core_words.specs.Looking.{first_job}
use Rattle.hs_core_words.specs.State.{Core}
use Rattle.hs_core_words.specs.Step.{step}
use Rattle.hs_desk.specs.Answers.{answers}
use Rattle.hs_desk.specs.declared.done.Done.{Done}
use Rattle.hs_desk.specs.declared.job.Job.{Job}
use Rattle.hs_entry.specs.declared.entry.Entry.{Entry}
use Rattle.hs_events.proofs.GoingLemmas.{step_goes}
use Rattle.hs_events.specs.Asked.{failed_disk, report_in}
use Rattle.hs_events.specs.Due.{is_answer}
use Rattle.hs_events.specs.Sane.{IsSane, appended_of}
use Rattle.hs_events.specs.Whole.{Whole, step_whole}
use Rattle.hs_fold.specs.Shards.Setting.{Numbered}
use Rattle.hs_limits.specs.declared.shape.Shape.{Shape}
use Rattle.hs_members.specs.Members.{IsPeer}
use Rattle.hs_peerlog.specs.Lists.{IsKept, Keeping}
use Rattle.hs_ports.specs.Disk.{Standing}
use Rattle.hs_ports.specs.Moments.{disk_at}

none_is_not : {A : Type 0} (x : A) → None ≡ Some x → ⊥
none_is_not x e = cc e

some_is : {A : Type 0} (x y : A) → Some x ≡ Some y → x ≡ y
some_is x y e = cc

-- there is a log, where it is told that there is
pub some_log : (o : Option Keeping) → IsSome o → (keeping : Keeping) × (o ≡ Some keeping)
some_log None some = absurd (never some)
  where
    never : false ≡ true → ⊥
    never e = cc e
some_log (Some keeping) some = (keeping, refl)

-- a report answers a job
pub some_job : (core : Core) (peer : ℕ) (done : Done) → is_answer core peer done ≡ true → (j : Job) × (first_job peer core ≡ Some j)
some_job core peer done answer = go (first_job peer core) refl answer
  where
    never : false ≡ true → ⊥
    never e = cc e

    go : (o : Option Job) → first_job peer core ≡ o → option_map_or (λ j. answers peer j done) o false ≡ true → (j : Job) × (first_job peer core ≡ Some j)
    go None is h = absurd (never h)
    go (Some j) is h = (j, is)

-- what whatever a stop leaves has is read too
pub read_of : (c : Whole) (logs : List (Option Keeping)) (disks : List DiskSeen) (now : ℕ) → CanGoOn c logs disks now → CanRead c logs disks
read_of c logs disks now can = record { sane = can.sane; listed = record { each = λ peer keeping is at. (can.listed.each peer keeping is at).kept } }

-- an event without a call
pub quiet_reads : (c : Whole) (e : Event) (now : ℕ) (logs fewer : List (Option Keeping)) (disks : List DiskSeen) → IsSane c → c.core.ended ≡ None → report_in e ≡ None → (step e now c.core).ended ≡ None
    → ((p : ℕ) (keeping : Keeping) → log_at fewer p ≡ Some keeping → log_at logs p ≡ Some keeping) → ReadsLogs c logs disks → ReadsLogs (step_whole e now c) fewer disks
quiet_reads c e now logs fewer disks sane was quiet going less reads = record {
  each = λ p keeping low at.
      let there : IsPeer c.core.members.shape p = subst (λ (s : Shape). IsPeer s p) (step_goes e now c.core was).shape low in
      let stays = sealed_stays c e now p sane there quiet going in
      subst (λ l. IsKept keeping ((disk_at (stands_of disks) p).seen keeping.log.side) l (appended_of p (step e now c.core))) (sym stays.sealed)
      (subst (λ w. IsKept keeping ((disk_at (stands_of disks) p).seen keeping.log.side) (sealed_front c p) w) (sym stays.appended) (reads.each p keeping there (less p keeping at)));
}

-- the report of a job
module _ (c : Whole) (peer at : ℕ) (logs after : List (Option Keeping)) (disks left : List DiskSeen) (sane : IsSane c) (is : IsPeer c.core.members.shape peer) (reads : ReadsLogs c logs disks) (done : Done) (answer : is_answer c.core peer done ≡ true)
    (j : Job) (first : first_job peer c.core ≡ Some j) (had : IsSome (log_at logs peer))
    (own_reads : ReadsLog (failed_disk done) (log_at after peer) (disk_at (stands_of left) peer) j (sealed_front c peer) (appended_of peer c.core))
    (others_logs : (p : ℕ) → p ≢ peer → log_at after p ≡ log_at logs p) (others : (p : ℕ) → p ≢ peer → disk_at (stands_of left) p ≡ disk_at (stands_of disks) p)
    (was : c.core.ended ≡ None) (going : (step (event.Report peer done) at c.core).ended ≡ None) where
  abbrev new : Whole
  new = step_whole (event.Report peer done) at c

  abbrev list : Numbered
  list = sealed_front c peer

  abbrev waiting : Option Entry
  waiting = appended_of peer c.core

  kept_by : HasKept c peer
  kept_by = let log = some_log (log_at logs peer) had in record { keeping = log.0; seen = (disk_at (stands_of disks) peer).seen log.0.log.side; kept = reads.each peer log.0 is log.1 }

  own_log : (keeping : Keeping) → log_at after peer ≡ Some keeping → (o : Option ℕ) → failed_disk done ≡ o → ReadsLog o (log_at after peer) (disk_at (stands_of left) peer) j list waiting
      → IsKept keeping ((disk_at (stands_of left) peer).seen keeping.log.side) (sealed_front new peer) (appended_of peer new.core)
  own_log keeping kept None fine log =
      let is_then = done_is c peer at j done sane is kept_by first answer fine going in
      subst (λ (k : Keeping). IsKept k ((disk_at (stands_of left) peer).seen k.log.side) (sealed_front new peer) (appended_of peer new.core)) (some_is log.0 keeping (sym log.1 ∙ kept))
      (subst (λ l. IsKept log.0 ((disk_at (stands_of left) peer).seen log.0.log.side) l (appended_of peer new.core)) (sym is_then.0)
      (subst (λ e. IsKept log.0 ((disk_at (stands_of left) peer).seen log.0.log.side) (list_after j list waiting) e) (sym is_then.1) log.2))
  own_log keeping kept (Some disk) fails log = absurd (none_is_not keeping (sym log ∙ kept))

  own : (p : ℕ) (keeping : Keeping) → p ≡ peer → log_at after p ≡ Some keeping → IsKept keeping ((disk_at (stands_of left) p).seen keeping.log.side) (sealed_front new p) (appended_of p new.core)
  own p keeping same kept =
      subst (λ q. IsKept keeping ((disk_at (stands_of left) q).seen keeping.log.side) (sealed_front new q) (appended_of q new.core)) (sym same)
      (own_log keeping (ap (λ q. log_at after q) (sym same) ∙ kept) (failed_disk done) refl own_reads)

  other : (p : ℕ) (keeping : Keeping) → p ≢ peer → IsPeer c.core.members.shape p → log_at after p ≡ Some keeping → IsKept keeping ((disk_at (stands_of left) p).seen keeping.log.side) (sealed_front new p) (appended_of p new.core)
  other p keeping differs low kept =
      let stays = sealed_beside c done at peer p sane low answer differs going in
      subst (λ (d : Standing). IsKept keeping (d.seen keeping.log.side) (sealed_front new p) (appended_of p new.core)) (sym (others p differs))
      (subst (λ l. IsKept keeping ((disk_at (stands_of disks) p).seen keeping.log.side) l (appended_of p new.core)) (sym stays.sealed)
      (subst (λ e. IsKept keeping ((disk_at (stands_of disks) p).seen keeping.log.side) (sealed_front c p) e) (sym stays.appended) (reads.each p keeping low (sym (others_logs p differs) ∙ kept))))

  pub report_reads : ReadsLogs new after left
  report_reads = record {
    each = λ p keeping low has. elim (cases_eq p peer) [
      | inl same ↦ own p keeping same has
      | inr differs ↦ other p keeping differs (subst (λ (s : Shape). IsPeer s p) (step_goes (event.Report peer done) at c.core was).shape low) has
    ];
  }
