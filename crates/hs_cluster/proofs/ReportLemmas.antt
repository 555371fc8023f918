-- The first job of a peer on its disk, and the report of it, for the lists of the peers.
use Rattle.std.proofs.Common.{◌≡◌, ◌≢◌, ◌∙◌, ◌⊎◌, inl, inr, ap, sym, subst, ℕ, true, false, List, [], ◌∷◌, length, Option, Some, None, refl, arith, suc}
use Rattle.std.proofs.lemmas.Bool.{cases_eq}
use Rattle.std.specs.Prelude.{Result, Ok}
use Rattle.hs_cluster.proofs.HeldLemmas.{HasKept, MayHave, after_may, done_is, done_may, failed_may, floor_in, sealed_beside, sealed_may}
use Rattle.hs_cluster.specs.Disks.{DiskSeen, log_at, stands_of}
use Rattle.hs_cluster.specs.Jobs.{Leaves, LeavesLog, Tries, Working, WorksAlone, list_after, try_of}
use Rattle.hs_cluster.specs.Kept.{KeepsLogs, sealed_front}
use Rattle.hs_events.specs.Sane.{IsSane, appended_of}
use Rattle.hs_core_words.specs.declared.event.Event.TheVariants as event
use Rattle.hs_core_words.specs.Looking.{first_job}
use Rattle.hs_core_words.specs.Step.{step}
use Rattle.hs_desk.specs.declared.done.Done.{Done}
use Rattle.hs_desk.specs.declared.job.Job.{Job}
use Rattle.hs_entry.specs.declared.entry.Entry.{Entry}
use Rattle.hs_events.proofs.GoingLemmas.{step_goes}
use Rattle.hs_events.specs.Asked.{failed_disk}
use Rattle.hs_events.specs.Course.{is_refused}
use Rattle.hs_events.specs.Due.{is_answer}
use Rattle.hs_events.specs.Whole.{Whole, counts, step_whole}
use Rattle.hs_fold.specs.Shards.Setting.{Numbered}
use Rattle.hs_limits.specs.declared.shape.Shape.{Shape}
use Rattle.hs_members.specs.Members.{IsPeer}
use Rattle.hs_moments.proofs.WorkLemmas.{next_job}
use Rattle.hs_moments.specs.Moments.{EachImageOfOne, GivesFine, IsStanding, Keeps}
use Rattle.hs_moments.specs.WholeMachine.{whole_machine}
use Rattle.hs_peerlog.specs.Images.{GivesList, IsOne, LeavesAll, LeavesEach}
use Rattle.hs_peerlog.specs.Lists.{HasLog, Keeping}
use Rattle.hs_ports.specs.declared.disk.Side.{Side}
use Rattle.hs_ports.specs.Disk.{Standing}
use Rattle.hs_ports.specs.Moments.{disk_at}
use Rattle.hs_side.specs.Current.{list_in}

none_is_not : {A : Type 0} (x : A) → None ≡ Some x → ⊥
none_is_not x e = grind arith

some_is : {A : Type 0} (x y : A) → Some x ≡ Some y → x ≡ y
some_is x y e = cc

-- ---- one disk of several

pub one_of_each : (before now peer : ℕ) (disks left : List Standing) (Q : Numbered → Type 0) (P : (Side → List ℕ) → Type 0) → length left ≡ length disks → ((p : ℕ) → p ≢ peer → disk_at left p ≡ disk_at disks p)
    → LeavesEach before now (disk_at disks peer) (disk_at left peer) Q → ((image : Side → List ℕ) → GivesList Q image → P image) → EachImageOfOne before now peer disks left P
one_of_each before now peer disks left Q P count others run f = record {
  later = run.later;
  count = count;
  last = run.last;
  earlier = run.earlier;
  each = λ m above fits image l. f image (run.each m above fits image l.sides);
  standing = λ image l. f image (run.standing image (record { sides = l.sides }));
  others = others;
}

pub one_of_all : (before now peer : ℕ) (disks left : List Standing) (P : (Side → List ℕ) → Type 0) → length left ≡ length disks → ((p : ℕ) → p ≢ peer → disk_at left p ≡ disk_at disks p)
    → LeavesAll before now (disk_at disks peer) (disk_at left peer) → ((image : Side → List ℕ) → IsStanding (disk_at disks peer) image → P image) → EachImageOfOne before now peer disks left P
one_of_all before now peer disks left P count others run f = record {
  later = run.later;
  count = count;
  last = run.last;
  earlier = run.earlier;
  each = λ m above fits image l. f image (record { sides = λ side. run.each side m above fits (image side) (l.sides side) });
  standing = λ image l. f image (record { sides = λ side. run.standing side (image side) (l.sides side) });
  others = others;
}

pub fine_by : (c : Whole) (peer : ℕ) (image : Side → List ℕ) (list : Numbered) → list_in image ≡ Some list → MayHave c peer list → GivesFine whole_machine c peer image
fine_by c peer image list read may = record { list = list; read = read; front = may.front; long = may.long }

pub length_stands : (disks : List DiskSeen) → length (stands_of disks) ≡ length disks
length_stands [] = refl
length_stands (d ∷ disks) = ap (λ n. suc n) (length_stands disks)

module _ (c : Whole) (w : Working) (sane : IsSane c) (is : IsPeer c.core.members.shape w.peer) (logs : KeepsLogs c w.logs w.disks) (keeps : Keeps whole_machine c w.before (stands_of w.disks)) where
  abbrev Fine : Whole → (Side → List ℕ) → Type 0
  Fine s image = GivesFine whole_machine s w.peer image

  -- what is on the disk before the job, and the entry that waits
  abbrev list : Numbered
  list = sealed_front c w.peer

  abbrev waiting : Option Entry
  waiting = appended_of w.peer c.core

  count_stands : length w.left ≡ length w.disks → length (stands_of w.left) ≡ length (stands_of w.disks)
  count_stands e = length_stands w.left ∙ e ∙ sym (length_stands w.disks)

  -- either of two lists that the peer may have
  one_fine : (s : Whole) (a b : Numbered) → MayHave s w.peer a → MayHave s w.peer b → (image : Side → List ℕ) → GivesList (IsOne a b) image → Fine s image
  one_fine s a b may next image g = elim g.holds [
    | inl same ↦ fine_by s w.peer image g.list g.read (subst (λ l. MayHave s w.peer l) (sym same) may)
    | inr same ↦ fine_by s w.peer image g.list g.read (subst (λ l. MayHave s w.peer l) (sym same) next)
  ]

  -- ---- the call

  pub call_fine : {E : Type 0} (result : Result Done E) → WorksAlone w (first_job w.peer c.core) result
      → EachImageOfOne w.before w.now w.peer (stands_of w.disks) (stands_of w.left) (λ image. counts c w.peer ≡ true → Fine c image)
  call_fine result works = go (first_job w.peer c.core) refl (log_at w.logs w.peer) refl
    where
      tries : Tries (try_of w) (first_job w.peer c.core) result
      tries = works.tries (keeps.called w.peer)

      idle : (first_job w.peer c.core ≡ None) ⊎ (log_at w.logs w.peer ≡ None) → EachImageOfOne w.before w.now w.peer (stands_of w.disks) (stands_of w.left) (λ image. counts c w.peer ≡ true → Fine c image)
      idle h = one_of_all w.before w.now w.peer (stands_of w.disks) (stands_of w.left) (λ image. counts c w.peer ≡ true → Fine c image) (count_stands works.count) works.others (tries.idle h)
          (λ image stands counted. keeps.fine w.peer counted image stands)

      go : (todo : Option Job) → first_job w.peer c.core ≡ todo → (slot : Option Keeping) → log_at w.logs w.peer ≡ slot
          → EachImageOfOne w.before w.now w.peer (stands_of w.disks) (stands_of w.left) (λ image. counts c w.peer ≡ true → Fine c image)
      go None first slot at = idle (inl first)
      go (Some j) first None at = idle (inr at)
      go (Some j) first (Some keeping) at =
          let has = logs.each w.peer keeping is at in
          let leaves = tries.each j keeping first at list waiting has in
          one_of_each w.before w.now w.peer (stands_of w.disks) (stands_of w.left) (IsOne list (list_after j list waiting)) (λ image. counts c w.peer ≡ true → Fine c image) (count_stands works.count) works.others leaves.moments
          (λ image g counted. one_fine c list (list_after j list waiting) (sealed_may c w.peer (floor_in c w.peer sane is) has.kept.numbered) (after_may c w.peer j (floor_in c w.peer sane is) (record { keeping = keeping; seen = (disk_at (stands_of w.disks) w.peer).seen keeping.log.side; kept = has.kept }) (next_job c w.peer j sane first)) image g)

  -- ---- its report

  module _ (done : Done) (at : ℕ) (E : Type 0) (works : WorksAlone {E = E} w (first_job w.peer c.core) (Ok done)) (answer : is_answer c.core w.peer done ≡ true) where
    abbrev after : Whole
    after = step_whole (event.Report w.peer done) at c

    -- there was a job, and a log
    record Did : Type 0 where
      j : Job
      keeping : Keeping
      first : first_job w.peer c.core ≡ Some j
      has : HasLog keeping (disk_at (stands_of w.disks) w.peer) list waiting
      leaves : Leaves {E = E} (try_of w) j list waiting (Ok done)

    did : Did
    did = go (first_job w.peer c.core) refl (log_at w.logs w.peer) refl
      where
        tries : Tries {E = E} (try_of w) (first_job w.peer c.core) (Ok done)
        tries = works.tries (keeps.called w.peer)

        go : (todo : Option Job) → first_job w.peer c.core ≡ todo → (slot : Option Keeping) → log_at w.logs w.peer ≡ slot → Did
        go None first slot s = absurd (tries.cut (inl first))
        go (Some j) first None s = absurd (tries.cut (inr s))
        go (Some j) first (Some keeping) s =
            let has = logs.each w.peer keeping is s in
            record { j = j; keeping = keeping; first = first; has = has; leaves = tries.each j keeping first s list waiting has }

    kept_by : HasKept c w.peer
    kept_by = record { keeping = did.keeping; seen = (disk_at (stands_of w.disks) w.peer).seen did.keeping.log.side; kept = did.has.kept }

    pub report_fine : is_refused (step (event.Report w.peer done) at c.core).ended ≡ false → (image : Side → List ℕ) → IsStanding (disk_at (stands_of w.left) w.peer) image → Fine after image
    report_fine there image stands = go (failed_disk done) refl did.leaves.log
      where
        go : (o : Option ℕ) → failed_disk done ≡ o → LeavesLog o (try_of w) did.j list waiting → Fine after image
        go None fine log =
            fine_by after w.peer image (list_after did.j list waiting) (log.2.leaves image (record { sides = stands.sides })) (done_may c w.peer at did.j done sane is kept_by did.first answer fine there)
        go (Some disk) fails log =
            one_fine after list (list_after did.j list waiting)
            (failed_may c w.peer at disk done list sane answer fails there (sealed_may c w.peer (floor_in c w.peer sane is) did.has.kept.numbered))
            (failed_may c w.peer at disk done (list_after did.j list waiting) sane answer fails there (after_may c w.peer did.j (floor_in c w.peer sane is) kept_by (next_job c w.peer did.j sane did.first)))
            image (did.leaves.moments.standing image (record { sides = stands.sides }))

    pub report_logs : c.core.ended ≡ None → (step (event.Report w.peer done) at c.core).ended ≡ None → KeepsLogs after w.after w.left
    report_logs was going = record {
      each = λ p keeping low has. elim (cases_eq p w.peer) [
        | inl same ↦ own p keeping same has
        | inr differs ↦ other p keeping differs (subst (λ (s : Shape). IsPeer s p) (step_goes (event.Report w.peer done) at c.core was).shape low) has
      ];
    }
      where
        own_log : (keeping : Keeping) → log_at w.after w.peer ≡ Some keeping → (o : Option ℕ) → failed_disk done ≡ o → LeavesLog o (try_of w) did.j list waiting
            → HasLog keeping (disk_at (stands_of w.left) w.peer) (sealed_front after w.peer) (appended_of w.peer after.core)
        own_log keeping kept None fine log =
            let is_then = done_is c w.peer at did.j done sane is kept_by did.first answer fine going in
            subst (λ k. HasLog k (disk_at (stands_of w.left) w.peer) (sealed_front after w.peer) (appended_of w.peer after.core)) (some_is log.0 keeping (sym log.1 ∙ kept))
            (subst (λ l. HasLog log.0 (disk_at (stands_of w.left) w.peer) l (appended_of w.peer after.core)) (sym is_then.0)
            (subst (λ e. HasLog log.0 (disk_at (stands_of w.left) w.peer) (list_after did.j list waiting) e) (sym is_then.1) log.2))
        own_log keeping kept (Some disk) fails log = absurd (none_is_not keeping (sym log ∙ kept))

        own : (p : ℕ) (keeping : Keeping) → p ≡ w.peer → log_at w.after p ≡ Some keeping → HasLog keeping (disk_at (stands_of w.left) p) (sealed_front after p) (appended_of p after.core)
        own p keeping same kept =
            subst (λ q. HasLog keeping (disk_at (stands_of w.left) q) (sealed_front after q) (appended_of q after.core)) (sym same)
            (own_log keeping (ap (λ q. log_at w.after q) (sym same) ∙ kept) (failed_disk done) refl did.leaves.log)

        other : (p : ℕ) (keeping : Keeping) → p ≢ w.peer → IsPeer c.core.members.shape p → log_at w.after p ≡ Some keeping → HasLog keeping (disk_at (stands_of w.left) p) (sealed_front after p) (appended_of p after.core)
        other p keeping differs low kept =
            let stays = sealed_beside c done at w.peer p sane low answer differs going in
            subst (λ d. HasLog keeping d (sealed_front after p) (appended_of p after.core)) (sym (works.others p differs))
            (subst (λ l. HasLog keeping (disk_at (stands_of w.disks) p) l (appended_of p after.core)) (sym stays.sealed)
            (subst (λ e. HasLog keeping (disk_at (stands_of w.disks) p) (sealed_front c p) e) (sym stays.appended) (logs.each p keeping low (sym (works.logs p differs) ∙ kept))))
