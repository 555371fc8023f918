-- A job that needs the log of its peer, and maybe that of another: what it leaves of the logs and the disks of all.
use Rattle.std.proofs.Common.{◌≡◌, ◌≢◌, ◌∙◌, ◌⊎◌, inl, inr, ap, sym, subst, ℕ, ◌+◌, ◌<◌, ◌≤◌, Bool, true, false, List, [], ◌∷◌, Option, Some, None, map, length, refl, arith}
use Rattle.std.proofs.lemmas.Bool.{cases_eq, eq-eqb}
use Rattle.std.proofs.lemmas.List.{get_or-set_same, get_or-set_other}
use Rattle.std.specs.Option.{option_map, option_or}
use Rattle.std.specs.Prelude.{◌==◌, ◌||◌, ◌&&◌, IfOk, Result, Ok, Err, if◌then◌else◌, is_none, is_some, nat_lt, not, slice_index_or, slice_set}
use Rattle.hs_cluster.proofs.DiskLemmas.{length_map, length_set, stands_at, stands_other, stands_set}
use Rattle.hs_cluster.proofs.JobLemmas.{Since}
use Rattle.hs_cluster.specs.Disks.{DiskSeen, log_at, seen_at, stands_of}
use Rattle.hs_cluster.specs.Jobs.{Empties, FailsAlone, HasCopied, IsAnyOrNone, LeavesCopy, StandsBeside, Try, WithCopy, Working, Works, WorksAlone, is_own}
use Rattle.hs_core_words.specs.Asking.{no_peer, not_up, with_up}
use Rattle.hs_core_words.specs.declared.event.Event.TheVariants as event
use Rattle.hs_core_words.specs.Looking.{first_job, oldest_message}
use Rattle.hs_core_words.specs.State.{Core}
use Rattle.hs_core_words.specs.Step.{begin_event, end_event, step}
use Rattle.hs_desk.specs.Answers.{answers}
use Rattle.hs_desk.specs.declared.done.Done.{Done}
use Rattle.hs_desk.specs.declared.done.Done.TheVariants as done
use Rattle.hs_desk.specs.declared.job.Job.{Job}
use Rattle.hs_desk.specs.declared.job.Job.TheVariants as job
use Rattle.hs_entry.specs.declared.entry.Entry.{Entry}
use Rattle.hs_events.specs.Asked.{failed_disk}
use Rattle.hs_events.specs.declared.due.Due.{Due}
use Rattle.hs_events.specs.declared.due.Due.TheVariants.{Handling, Reporting}
use Rattle.hs_events.specs.Due.{peer_due, turn_behind, turn_of}
use Rattle.hs_fold.specs.Shards.Setting.{Numbered}
use Rattle.hs_peerlog.specs.Images.{GivesList, IsStanding, LeavesAny, LeavesEach}
use Rattle.hs_peerlog.specs.Lists.{HasLog, IsKept, Keeping, numbered_entry}
use Rattle.hs_ports.specs.declared.disk.Side.{Side}
use Rattle.hs_ports.specs.Disk.{IsImage, Standing}
use Rattle.hs_ports.specs.Moments.{disk_at}
use Rattle.hs_model.specs.declared.reply.Reply.{Reply}
use Rattle.hs_model.specs.Refusals.{first}
use Rattle.hs_post.specs.Pool.{is_empty}
use Rattle.hs_side.specs.declared.header.Header.{Header}
use Rattle.hs_taking.proofs.DiskLemmas.{seen_here, seen_is, seen_there}
use Rattle.hs_taking.proofs.HeadLemmas.{heads_still}
use Rattle.hs_taking.proofs.PastLemmas.{past_still}

none_is_not : {A : Type 0} (x : A) → None ≡ Some x → ⊥
none_is_not x e = cc e

some_is : {A : Type 0} (x y : A) → Some x ≡ Some y → x ≡ y
some_is x y e = cc

false_is_not : false ≡ true → ⊥
false_is_not e = cc e

-- ---- which call failed

pub alone_fine : (peer : ℕ) (done : Done) → failed_disk done ≡ None → FailsAlone peer done
alone_fine peer done fine = λ disk at. absurd (none_is_not disk (sym fine ∙ at))

pub alone_failed : (peer : ℕ) → FailsAlone peer (done.Failed peer)
alone_failed peer = λ disk at. sym (some_is peer disk at)

-- it is told
-- a job is one job
pub usual_not : (todo : Option Job) (j k : Job) → todo ≡ Some j → is_own (Some j) ≡ true → todo ≡ Some k → is_own (Some k) ≡ false → ⊥
usual_not todo j k one own other out = never (sym own ∙ ap is_own (sym one ∙ other) ∙ out)
  where
    never : true ≡ false → ⊥
    never e = cc e

pub copy_not_reset : (todo : Option Job) (from number : ℕ) → todo ≡ Some (job.Copy from number) → todo ≡ Some job.Reset → ⊥
copy_not_reset todo from number one other = never (sym one ∙ other)
  where
    never : Some (job.Copy from number) ≡ Some job.Reset → ⊥
    never e = cc e

pub copy_same : (todo : Option Job) (from number at n : ℕ) → todo ≡ Some (job.Copy from number) → todo ≡ Some (job.Copy at n) → (from ≡ at) × (number ≡ n)
copy_same todo from number at n one other = both (sym one ∙ other)
  where
    both : Some (job.Copy from number) ≡ Some (job.Copy at n) → (from ≡ at) × (number ≡ n)
    both e = (cc e, cc e)

pub told_as : {E : Type 0} (r : Result Done E) (x : Done) (P : Done → Type 0) → P x → IfOk r (λ told. told ≡ x) → IfOk r P
told_as (Ok told) x P p is = subst P (sym is) p
told_as (Err fault) x P p is = tt

-- a call of the lead's disk answers a copying step
pub lead_answers : {E : Type 0} (peer from number : ℕ) (r : Result Done E) → IfOk r (λ told. told ≡ done.Failed from) → IfOk r (λ told. answers peer (job.Copy from number) told ≡ true)
lead_answers peer from number r is = told_as r (done.Failed from) (λ told. answers peer (job.Copy from number) told ≡ true) (either from peer) is
  where
    either : (a b : ℕ) → (a == b || a == a) ≡ true
    either a b = grind arith

abbrev pub LogsStay : {E : Type 0} → ℕ → List (Option Keeping) → List (Option Keeping) → Result Done E → Type 0
LogsStay peer logs after result = IfOk result (λ done. (p : ℕ) → p ≢ peer → (failed_disk done ≢ Some p → log_at after p ≡ log_at logs p) × (failed_disk done ≡ Some p → log_at after p ≡ None))

-- of its own disk, and of no log of another
pub logs_alone : {E : Type 0} (peer : ℕ) (logs after : List (Option Keeping)) (result : Result Done E) → ((p : ℕ) → p ≢ peer → log_at after p ≡ log_at logs p) → IfOk result (FailsAlone peer) → LogsStay peer logs after result
logs_alone peer logs after (Err fault) same fails = tt
logs_alone peer logs after (Ok done) same fails = λ p differs. (λ other. same p differs, λ failed. absurd (differs (fails p failed)))

-- ---- a job of its peer alone

pub usual_own : (j : Job) → ((n : ℕ) × (e : Entry) × (j ≡ job.Append n e)) ⊎ (((n : ℕ) × (j ≡ job.Seal n)) ⊎ (((n : ℕ) × (j ≡ job.Read n)) ⊎ (j ≡ job.Reclaim))) → is_own (Some j) ≡ true
usual_own j h = elim h [
  | inl appends ↦ ap (λ k. is_own (Some k)) appends.2
  | inr rest ↦ elim rest [
    | inl seals ↦ ap (λ k. is_own (Some k)) seals.1
    | inr more ↦ elim more [
      | inl reads ↦ ap (λ k. is_own (Some k)) reads.1
      | inr reclaims ↦ ap (λ k. is_own (Some k)) reclaims
    ]
  ]
]

-- it is neither an emptying nor a copying step
pub works_own : {E : Type 0} (head : Header) (w : Working) (todo : Option Job) (result : Result Done E) → is_own todo ≡ true → WorksAlone w todo result → IfOk result (FailsAlone w.peer) → Works head w todo result
works_own head w todo result own works fails = record {
  alone = λ is. works;
  empties = λ is last. absurd (false_is_not (sym (ap is_own is) ∙ own));
  copies = λ from number is differs last. absurd (false_is_not (sym (ap is_own is) ∙ own));
  count = works.count;
  others = works.others;
  logs = logs_alone w.peer w.logs w.after result works.logs fails;
}

-- ---- an emptying

pub works_reset : {A E : Type 0} (head : Header) (logs : List (Option Keeping)) (disks : List A) (f : A → DiskSeen) (peer before now : ℕ) (slot kept : Option Keeping) (d disk : A) (todo : Option Job) (result : Result Done E)
    → slot ≡ log_at logs peer → peer < length logs → peer < length disks → todo ≡ Some job.Reset
    → ((f (slice_index_or disks peer d)).stands.last ≤ before → Empties head (record { before = before; now = now; slot = slot; kept = kept; old = (f (slice_index_or disks peer d)).stands; new = (f disk).stands }) result)
    → IfOk result (FailsAlone peer)
    → Works head (record { peer = peer; before = before; now = now; logs = logs; after = slice_set logs peer kept; disks = map f disks; left = map f (slice_set disks peer disk) }) todo result
works_reset head logs disks f peer before now slot kept d disk todo result is low within first empties fails = record {
  alone = λ own. absurd (false_is_not (sym (ap is_own first) ∙ own));
  empties = λ at last. subst (λ (t : Try). Empties head t result) same (empties (subst (λ (s : Standing). s.last ≤ before) old_is last));
  copies = λ from number at differs last. absurd (other from number (sym first ∙ at));
  count = length_map f (slice_set disks peer disk) ∙ length_set disks peer disk ∙ sym (length_map f disks);
  others = λ p differs. stands_other f disks peer p disk differs;
  logs = logs_alone peer logs (slice_set logs peer kept) result (λ p differs. get_or-set_other logs peer p kept None differs) fails;
}
  where
    other : (from number : ℕ) → Some job.Reset ≡ Some (job.Copy from number) → ⊥
    other from number e = cc e

    old_is : disk_at (stands_of (map f disks)) peer ≡ (f (slice_index_or disks peer d)).stands
    old_is = stands_at f disks peer d within

    trying : Option Keeping → Option Keeping → Standing → Standing → Try
    trying s k o n = record { before = before; now = now; slot = s; kept = k; old = o; new = n }

    same : trying slot kept (f (slice_index_or disks peer d)).stands (f disk).stands
        ≡ trying (log_at logs peer) (log_at (slice_set logs peer kept) peer) (disk_at (stands_of (map f disks)) peer) (disk_at (stands_of (map f (slice_set disks peer disk))) peer)
    same =
        ap (λ s. trying s kept (f (slice_index_or disks peer d)).stands (f disk).stands) is
        ∙ ap (λ k. trying (log_at logs peer) k (f (slice_index_or disks peer d)).stands (f disk).stands) (sym (get_or-set_same logs peer kept None low))
        ∙ ap (λ o. trying (log_at logs peer) (log_at (slice_set logs peer kept) peer) o (f disk).stands) (sym old_is)
        ∙ ap (λ n. trying (log_at logs peer) (log_at (slice_set logs peer kept) peer) (disk_at (stands_of (map f disks)) peer) n) (sym (stands_set f disks peer disk within))

-- ---- a disk that was only read

same_stands : {A : Type 0} (f : A → DiskSeen) (disks : List A) (k p : ℕ) (d disk : A) → k < length disks → (f disk).stands ≡ (f (slice_index_or disks k d)).stands → disk_at (stands_of (map f (slice_set disks k disk))) p ≡ disk_at (stands_of (map f disks)) p
same_stands f disks k p d disk low same = elim (cases_eq p k) [
  | inl is ↦ subst (λ q. disk_at (stands_of (map f (slice_set disks k disk))) q ≡ disk_at (stands_of (map f disks)) q) (sym is) (stands_set f disks k disk low ∙ same ∙ sym (stands_at f disks k d low))
  | inr differs ↦ stands_other f disks k p disk differs
]

-- it leaves its list
stays_with : (now : ℕ) (disk : Standing) (list : Numbered) (Q : Numbered → Type 0) → disk.last ≤ now → Since disk → ((image : Side → List ℕ) → IsStanding disk image → GivesList Q image) → LeavesEach now now disk disk Q
stays_with now disk list Q last since leaves = record {
  later = omega arith;
  last = last;
  earlier = λ side m low fits. refl;
  each = λ m high fits image left. leaves image (record { sides = λ side. subst (λ l. IsImage l (image side)) (since side m (omega (arith, last, high))) (left side) });
  standing = λ image left. leaves image left;
}

one_gives : (number : ℕ) (keeping : Keeping) (disk : Standing) (source list : Numbered) (waiting : Option Entry) → HasLog keeping disk list waiting → (image : Side → List ℕ) → IsStanding disk image → GivesList (λ l. (l ≡ list) ⊎ WithCopy number source list l) image
one_gives number keeping disk source list waiting has image left = record { list = list; read = has.leaves image left; holds = inl refl }

any_gives : (disk : Standing) (lists : ℕ → Numbered) → LeavesAny disk lists → (image : Side → List ℕ) → IsStanding disk image → GivesList (IsAnyOrNone lists) image
any_gives disk lists leaves image left = let g = leaves image left in record { list = g.list; read = g.read; holds = inl g.holds }

-- ---- nothing was done

-- memory ran out, or the lead's call failed
pub works_read : {A E : Type 0} (head : Header) (logs : List (Option Keeping)) (disks : List A) (f : A → DiskSeen) (peer from source number now : ℕ) (slot : Option Keeping) (d disk : A) (result : Result Done E)
    → source ≡ from → from < length logs → source < length disks → (f disk).stands ≡ (f (slice_index_or disks source d)).stands → slot ≡ None → IfOk result (λ told. told ≡ done.Failed from) → Since (disk_at (stands_of (map f disks)) peer)
    → Works head (record { peer = peer; before = now; now = now; logs = logs; after = slice_set logs source slot; disks = map f disks; left = map f (slice_set disks source disk) }) (Some (job.Copy from number)) result
works_read {A = A} {E = E} head logs disks f peer from source number now slot d disk result is in_logs low same out told since = record {
  alone = λ own. absurd (false_is_not own);
  empties = λ at last. absurd (other at);
  copies = λ k n at differs last lead keeping list_of_lead list ahead waiting lead_at lead_has at_peer has. copied k n (same_from from number k n (some_is (job.Copy from number) (job.Copy k n) at)) (same_number from number k n (some_is (job.Copy from number) (job.Copy k n) at)) differs keeping list_of_lead list waiting last has;
  count = length_map f (slice_set disks source disk) ∙ length_set disks source disk ∙ sym (length_map f disks);
  others = λ p differs. same_stands f disks source p d disk low same;
  logs = which result told;
}
  where
    other : Some (job.Copy from number) ≡ Some job.Reset → ⊥
    other e = cc e

    same_from : (a b c e : ℕ) → job.Copy a b ≡ job.Copy c e → a ≡ c
    same_from a b c e h = cc

    same_number : (a b c e : ℕ) → job.Copy a b ≡ job.Copy c e → b ≡ e
    same_number a b c e h = cc

    left_is : (p : ℕ) → disk_at (stands_of (map f (slice_set disks source disk))) p ≡ disk_at (stands_of (map f disks)) p
    left_is p = same_stands f disks source p d disk low same

    which : (r : Result Done E) → IfOk r (λ told. told ≡ done.Failed from) → LogsStay peer logs (slice_set logs source slot) r
    which (Err fault) e = tt
    which (Ok told) e = λ p differs. (
      λ other. get_or-set_other logs source p slot None (λ at. other (ap failed_disk e ∙ ap (λ n. Some n) (sym (at ∙ is)))),
      λ failed. subst (λ q. log_at (slice_set logs source slot) q ≡ None) (is ∙ some_is from p (sym (ap failed_disk e) ∙ failed)) (get_or-set_same logs source slot None (subst (λ q. q < length logs) (sym is) in_logs) ∙ out),
    )

    copied : (k n : ℕ) → from ≡ k → number ≡ n → k ≢ peer → (keeping : Keeping) (theirs list : Numbered) (waiting : Option Entry) → (disk_at (stands_of (map f disks)) peer).last ≤ now → HasLog keeping (disk_at (stands_of (map f disks)) peer) list waiting
        → HasCopied (record { before = now; now = now; slot = log_at logs peer; kept = log_at (slice_set logs source slot) peer; old = disk_at (stands_of (map f disks)) peer; new = disk_at (stands_of (map f (slice_set disks source disk))) peer }) peer k n theirs list result
    copied k n from_is number_is differs keeping theirs list waiting last has = record {
      log = done_is result told;
      moments = subst (λ (s : Standing). LeavesEach now now (disk_at (stands_of (map f disks)) peer) s (λ l. (l ≡ list) ⊎ WithCopy n theirs list l)) (sym (left_is peer))
          (stays_with now (disk_at (stands_of (map f disks)) peer) list (λ l. (l ≡ list) ⊎ WithCopy n theirs list l) last since (one_gives n keeping (disk_at (stands_of (map f disks)) peer) theirs list waiting has));
    }
      where
        t : Try
        t = record { before = now; now = now; slot = log_at logs peer; kept = log_at (slice_set logs source slot) peer; old = disk_at (stands_of (map f disks)) peer; new = disk_at (stands_of (map f (slice_set disks source disk))) peer }

        done_is : (r : Result Done E) → IfOk r (λ told. told ≡ done.Failed from) → IfOk r (λ done. LeavesCopy (failed_disk done) t peer k n theirs list)
        done_is (Err fault) e = tt
        done_is (Ok told) e = subst (λ o. LeavesCopy o t peer k n theirs list) (sym (ap failed_disk e))
            (inl (from_is, get_or-set_other logs source peer slot None (λ at. differs (sym from_is ∙ sym is ∙ sym at)), left_is peer))

-- ---- the copy was written, or not

pub works_copied : {A E : Type 0} (head : Header) (logs : List (Option Keeping)) (disks : List A) (f : A → DiskSeen) (peer from source place number before now : ℕ) (slot one kept : Option Keeping) (d e disk new : A) (entry : Entry) (result : Result Done E)
    → source ≡ from → place ≡ peer → slot ≡ log_at logs source → one ≡ slot → source < length logs → source < length disks → place < length logs → place < length disks
    → (f disk).stands ≡ (f (slice_index_or disks source d)).stands
    → ((keeping : Keeping) (list : Numbered) (waiting : Option Entry) → slot ≡ Some keeping → IsKept keeping ((f (slice_index_or disks source d)).stands.seen keeping.log.side) list waiting → numbered_entry list number ≡ Some entry)
    → ((theirs list : Numbered) (waiting : Option Entry) (keeping : Keeping) → (f (slice_index_or (slice_set disks source disk) place e)).stands.last ≤ before → numbered_entry theirs number ≡ Some entry
    → log_at (slice_set logs source one) place ≡ Some keeping → HasLog keeping (f (slice_index_or (slice_set disks source disk) place e)).stands list waiting
    → HasCopied (record { before = before; now = now; slot = log_at (slice_set logs source one) place; kept = kept; old = (f (slice_index_or (slice_set disks source disk) place e)).stands; new = (f new).stands }) peer from number theirs list result)
    → IfOk result (FailsAlone peer)
    → Works head (record { peer = peer; before = before; now = now; logs = logs; after = slice_set (slice_set logs source one) place kept; disks = map f disks; left = map f (slice_set (slice_set disks source disk) place new) }) (Some (job.Copy from number)) result
works_copied {A = A} {E = E} head logs disks f peer from source place number before now slot one kept d e disk new entry result is at item stays low_logs low place_logs place_low same found writes fails = record {
  alone = λ own. absurd (false_is_not own);
  empties = λ h last. absurd (other h);
  copies = λ k n h differs last lead keeping theirs list ahead waiting lead_at lead_has at_peer has.
      subst (λ q. HasCopied t peer q n theirs list result) (same_from from number k n (some_is (job.Copy from number) (job.Copy k n) h))
      (subst (λ q. HasCopied t peer from q theirs list result) (same_number from number k n (some_is (job.Copy from number) (job.Copy k n) h))
      (copied (λ z. differs (sym (same_from from number k n (some_is (job.Copy from number) (job.Copy k n) h)) ∙ z)) last lead keeping theirs list ahead waiting
      (subst (λ q. log_at logs q ≡ Some lead) (sym (same_from from number k n (some_is (job.Copy from number) (job.Copy k n) h))) lead_at)
      (subst (λ q. IsKept lead ((disk_at (stands_of (map f disks)) q).seen lead.log.side) theirs ahead) (sym (same_from from number k n (some_is (job.Copy from number) (job.Copy k n) h))) lead_has) at_peer has));
  count = length_map f (slice_set (slice_set disks source disk) place new) ∙ length_set (slice_set disks source disk) place new ∙ length_set disks source disk ∙ sym (length_map f disks);
  others = λ p differs. stands_other f (slice_set disks source disk) place p new (λ z. differs (z ∙ at)) ∙ mid_is p;
  logs = logs_alone peer logs (slice_set (slice_set logs source one) place kept) result (λ p differs. get_or-set_other (slice_set logs source one) place p kept None (λ z. differs (z ∙ at)) ∙ logs_is p) fails;
}
  where
    other : Some (job.Copy from number) ≡ Some job.Reset → ⊥
    other h = cc h

    same_from : (a b c e : ℕ) → job.Copy a b ≡ job.Copy c e → a ≡ c
    same_from a b c e h = cc

    same_number : (a b c e : ℕ) → job.Copy a b ≡ job.Copy c e → b ≡ e
    same_number a b c e h = cc

    mid_low : place < length (slice_set disks source disk)
    mid_low = subst (λ n. place < n) (sym (length_set disks source disk)) place_low

    logs_low : place < length (slice_set logs source one)
    logs_low = subst (λ n. place < n) (sym (length_set logs source one)) place_logs

    mid_is : (p : ℕ) → disk_at (stands_of (map f (slice_set disks source disk))) p ≡ disk_at (stands_of (map f disks)) p
    mid_is p = same_stands f disks source p d disk low same

    logs_is : (p : ℕ) → log_at (slice_set logs source one) p ≡ log_at logs p
    logs_is p = elim (cases_eq p source) [
      | inl here ↦ subst (λ q. log_at (slice_set logs source one) q ≡ log_at logs q) (sym here) (get_or-set_same logs source one None low_logs ∙ stays ∙ item)
      | inr differs ↦ get_or-set_other logs source p one None differs
    ]

    t : Try
    t = record { before = before; now = now; slot = log_at logs peer; kept = log_at (slice_set (slice_set logs source one) place kept) peer; old = disk_at (stands_of (map f disks)) peer; new = disk_at (stands_of (map f (slice_set (slice_set disks source disk) place new))) peer }

    trying : Option Keeping → Option Keeping → Standing → Standing → Try
    trying s k o n = record { before = before; now = now; slot = s; kept = k; old = o; new = n }

    old_is : (f (slice_index_or (slice_set disks source disk) place e)).stands ≡ disk_at (stands_of (map f disks)) place
    old_is = sym (stands_at f (slice_set disks source disk) place e mid_low) ∙ mid_is place

    t_is : trying (log_at (slice_set logs source one) place) kept (f (slice_index_or (slice_set disks source disk) place e)).stands (f new).stands ≡ trying (log_at logs place) (log_at (slice_set (slice_set logs source one) place kept) place) (disk_at (stands_of (map f disks)) place) (disk_at (stands_of (map f (slice_set (slice_set disks source disk) place new))) place)
    t_is =
        ap (λ s. trying s kept (f (slice_index_or (slice_set disks source disk) place e)).stands (f new).stands) (logs_is place)
        ∙ ap (λ k. trying (log_at logs place) k (f (slice_index_or (slice_set disks source disk) place e)).stands (f new).stands) (sym (get_or-set_same (slice_set logs source one) place kept None logs_low))
        ∙ ap (λ o. trying (log_at logs place) (log_at (slice_set (slice_set logs source one) place kept) place) o (f new).stands) old_is
        ∙ ap (λ n. trying (log_at logs place) (log_at (slice_set (slice_set logs source one) place kept) place) (disk_at (stands_of (map f disks)) place) n) (sym (stands_set f (slice_set disks source disk) place new mid_low))

    at_peer_is : trying (log_at logs place) (log_at (slice_set (slice_set logs source one) place kept) place) (disk_at (stands_of (map f disks)) place) (disk_at (stands_of (map f (slice_set (slice_set disks source disk) place new))) place) ≡ t
    at_peer_is = ap (λ p. trying (log_at logs p) (log_at (slice_set (slice_set logs source one) place kept) p) (disk_at (stands_of (map f disks)) p) (disk_at (stands_of (map f (slice_set (slice_set disks source disk) place new))) p)) at

    copied : from ≢ peer → (disk_at (stands_of (map f disks)) peer).last ≤ before → (lead keeping : Keeping) (theirs list : Numbered) (ahead waiting : Option Entry)
        → log_at logs from ≡ Some lead → IsKept lead ((disk_at (stands_of (map f disks)) from).seen lead.log.side) theirs ahead → log_at logs peer ≡ Some keeping → HasLog keeping (disk_at (stands_of (map f disks)) peer) list waiting
        → HasCopied t peer from number theirs list result
    copied differs last lead keeping theirs list ahead waiting lead_at lead_has at_peer has =
        let told : numbered_entry theirs number ≡ Some entry = found lead theirs ahead (item ∙ ap (λ p. log_at logs p) is ∙ lead_at)
        (subst (λ (s : Standing). IsKept lead (s.seen lead.log.side) theirs ahead) (ap (λ p. disk_at (stands_of (map f disks)) p) (sym is) ∙ stands_at f disks source d low) lead_has) in
        let here : disk_at (stands_of (map f disks)) peer ≡ (f (slice_index_or (slice_set disks source disk) place e)).stands = ap (λ p. disk_at (stands_of (map f disks)) p) (sym at) ∙ sym old_is in
        subst (λ (x : Try). HasCopied x peer from number theirs list result) (t_is ∙ at_peer_is)
        (writes theirs list waiting keeping (subst (λ (s : Standing). s.last ≤ before) here last) told (logs_is place ∙ ap (λ p. log_at logs p) at ∙ at_peer)
        (subst (λ (s : Standing). HasLog keeping s list waiting) here has))

-- ---- without a job, or where no log of another is there

pub works_cut : {A E : Type 0} (head : Header) (logs : List (Option Keeping)) (disks : List A) (f : A → DiskSeen) (peer now : ℕ) (todo : Option Job) (fault : E) → Since (disk_at (stands_of (map f disks)) peer)
    → (is_own todo ≡ true → WorksAlone {E = E} (record { peer = peer; before = now; now = now; logs = logs; after = logs; disks = map f disks; left = map f disks }) todo (Err fault))
    → Works {E = E} head (record { peer = peer; before = now; now = now; logs = logs; after = logs; disks = map f disks; left = map f disks }) todo (Err fault)
works_cut head logs disks f peer now todo fault since works = record {
  alone = works;
  empties = λ at last. record {
    log = tt;
    own = tt;
    moments = λ lists leaves headed. stays_with now (disk_at (stands_of (map f disks)) peer) [] (IsAnyOrNone lists) last since (any_gives (disk_at (stands_of (map f disks)) peer) lists leaves);
    headed = λ headed. (heads_still head now now (disk_at (stands_of (map f disks)) peer) (omega arith) last since headed).keeps;
    past = past_still now now (disk_at (stands_of (map f disks)) peer) (omega arith) last;
  };
  copies = λ from number at differs last lead keeping theirs list ahead waiting lead_at lead_has at_peer has. record {
    log = tt;
    moments = stays_with now (disk_at (stands_of (map f disks)) peer) list (λ l. (l ≡ list) ⊎ WithCopy number theirs list l) last since (one_gives number keeping (disk_at (stands_of (map f disks)) peer) theirs list waiting has);
  };
  count = refl;
  others = λ p differs. refl;
  logs = tt;
}

-- nothing is emptied
pub nothing_emptied : (now : ℕ) (disk : Standing) (lists : ℕ → Numbered) → disk.last ≤ now → Since disk → LeavesAny disk lists → LeavesEach now now disk disk (IsAnyOrNone lists)
nothing_emptied now disk lists last since leaves = stays_with now disk [] (IsAnyOrNone lists) last since (any_gives disk lists leaves)

-- ---- every other disk

pub beside_same : (tells : Type 0) (peer : ℕ) (todo : Option Job) (disks : List DiskSeen) → StandsBeside tells peer todo disks disks
beside_same tells peer todo disks = record { same = λ disk differs none. refl; stands = λ told disk differs. refl }

pub beside_then : (tells : Type 0) (peer : ℕ) (todo : Option Job) (a b c : List DiskSeen) → StandsBeside tells peer todo a b → StandsBeside tells peer todo b c → StandsBeside tells peer todo a c
beside_then tells peer todo a b c one two = record {
  same = λ disk differs none. two.same disk differs none ∙ one.same disk differs none;
  stands = λ told disk differs. two.stands told disk differs ∙ one.stands told disk differs;
}

-- where that of its peer had a call
pub beside_one : {A : Type 0} (tells : Type 0) (f : A → DiskSeen) (disks : List A) (peer place : ℕ) (disk : A) (todo : Option Job) → place ≡ peer → StandsBeside tells peer todo (map f disks) (map f (slice_set disks place disk))
beside_one tells f disks peer place disk todo is = record {
  same = λ q differs none. seen_there f disks place q disk (λ e. differs (e ∙ is));
  stands = λ told q differs. ap (λ (s : DiskSeen). s.stands) (seen_there f disks place q disk (λ e. differs (e ∙ is)));
}

-- and where that of the lead was read
pub beside_read : {A : Type 0} (tells : Type 0) (f : A → DiskSeen) (disks : List A) (peer from source number : ℕ) (d disk : A) → source ≡ from → source < length disks → (tells → (f disk).stands ≡ (f (slice_index_or disks source d)).stands)
    → StandsBeside tells peer (Some (job.Copy from number)) (map f disks) (map f (slice_set disks source disk))
beside_read tells f disks peer from source number d disk is low same = record {
  same = λ q differs none. seen_there f disks source q disk (λ e. true_is_not (sym (eq-eqb q from (e ∙ is)) ∙ none));
  stands = λ told q differs. elim (cases_eq q source) [
    | inl here ↦ subst (λ p. (seen_at (map f (slice_set disks source disk)) p).stands ≡ (seen_at (map f disks) p).stands) (sym here)
        (ap (λ (s : DiskSeen). s.stands) (seen_here f disks source disk low) ∙ same told ∙ sym (ap (λ (s : DiskSeen). s.stands) (seen_is f disks source d low)))
    | inr there ↦ ap (λ (s : DiskSeen). s.stands) (seen_there f disks source q disk there)
  ];
}
  where
    true_is_not : true ≡ false → ⊥
    true_is_not e = cc e

-- ---- the first job behind a line that asks for a turn

turn_begins : (line at peer : ℕ) (c : Core) → first_job peer (begin_event line at c) ≡ first_job peer c
turn_begins line at peer c = go ((c.progress.event_line == 0 && not (line == 0)) && is_empty c.pool) refl
  where
    go : (b : Bool) → ((c.progress.event_line == 0 && not (line == 0)) && is_empty c.pool) ≡ b → first_job peer (begin_event line at c) ≡ first_job peer c
    go true e = rw e refl
    go false e = rw e refl

turn_asks : (line p peer : ℕ) (c : Core) → first_job peer (with_up line p (λ core. core) c) ≡ first_job peer c
turn_asks line p peer c = go (first (no_peer p c ∷ not_up p c ∷ [])) refl
  where
    go : (o : Option Reply) → first (no_peer p c ∷ not_up p c ∷ []) ≡ o → first_job peer (with_up line p (λ core. core) c) ≡ first_job peer c
    go (Some refusal) e = rw e refl
    go None e = rw e refl

turn_ends : (peer : ℕ) (c : Core) → first_job peer (end_event c) ≡ first_job peer c
turn_ends peer c = go (nat_lt c.limits.ops (length c.journal + length c.entries)) refl
  where
    go : (b : Bool) → nat_lt c.limits.ops (length c.journal + length c.entries) ≡ b → first_job peer (end_event c) ≡ first_job peer c
    go true e = rw e refl
    go false e = rw e refl

pub turn_same : (line p at peer : ℕ) (c : Core) → first_job peer (step (event.Turn line p) at c) ≡ first_job peer c
turn_same line p at peer c = go (is_none c.ended) refl
  where
    go : (b : Bool) → is_none c.ended ≡ b → first_job peer (step (event.Turn line p) at c) ≡ first_job peer c
    go true e = rw e (turn_ends peer (with_up line p (λ core. core) (begin_event line at c)) ∙ turn_asks line p peer (begin_event line at c) ∙ turn_begins line at peer c)
    go false e = rw e refl

-- a turn that is due then is of its peer
pub turn_of_peer : (peer : ℕ) (c : Core) (due : Due) → turn_behind peer c ≡ Some due → peer_due due ≡ peer
turn_of_peer peer c due is = go (is_some c.ended || is_some (first (no_peer peer c ∷ not_up peer c ∷ []))) is
  where
    by : (j : Option Job) (m : Option ℕ) → option_or (option_map (λ job. Reporting peer) j) (option_map (Handling peer) m) ≡ Some due → peer_due due ≡ peer
    by (Some job) m e = ap peer_due (sym (some_is (Reporting peer) due e))
    by None (Some message) e = ap peer_due (sym (some_is (Handling peer message) due e))
    by None None e = absurd (none_is_not due e)

    go : (b : Bool) → (if b then None else turn_of c peer) ≡ Some due → peer_due due ≡ peer
    go true e = absurd (none_is_not due e)
    go false e = by (first_job peer c) (oldest_message peer c) e
