-- Logs and disks of several peers, of which one has a call.
use Rattle.std.proofs.Common.{◌≡◌, ◌≢◌, ◌∙◌, ap, sym, subst, ℕ, zero, suc, ◌<◌, ◌≤◌, true, false, List, [], ◌∷◌, Option, Some, None, map, length, refl, arith}
use Rattle.std.proofs.lemmas.List.{get_or-set_same, get_or-set_other}
use Rattle.std.specs.Prelude.{IfOk, OnOk, Result, Ok, Err, slice_index_or, slice_set}
use Rattle.hs_cluster.specs.Disks.{AreReady, DiskSeen, log_at, stands_of}
use Rattle.hs_cluster.proofs.JobLemmas.{Since, leaves_err, stays_all, stays_one}
use Rattle.hs_cluster.specs.Jobs.{HasStored, ReadsOn, Tries, Try, WorksAlone, is_own, list_after}
use Rattle.hs_desk.specs.declared.done.Done.{Done}
use Rattle.hs_desk.specs.declared.job.Job.{Job}
use Rattle.hs_entry.specs.declared.entry.Entry.{Entry}
use Rattle.hs_fold.specs.Shards.Setting.{Numbered}
use Rattle.hs_peerlog.specs.Lists.{IsKept, Keeping}
use Rattle.hs_moments.specs.Moments.{Since as SinceAll}
use Rattle.hs_ports.specs.declared.disk.Side.{Side}
use Rattle.hs_ports.specs.Disk.{Standing}
use Rattle.hs_ports.specs.MemoryDisk.{untold}
use Rattle.hs_ports.specs.Moments.{disk_at}
use Rattle.hs_shard.specs.Facts.{Catalogue}
pub use Rattle.hs_taking.proofs.DiskLemmas.{ready_slot, slot_at}

abbrev no_disk : DiskSeen
no_disk = record { size = λ side. 0; stands = untold; faults = 0 }

some_is : {A : Type 0} (x y : A) → Some x ≡ Some y → x ≡ y
some_is x y e = cc

none_is_not : {A : Type 0} (x : A) → None ≡ Some x → ⊥
none_is_not x e = grind arith

-- the logs that are kept still may go on
pub ready_fewer : (tells : Type 0) (logs fewer : List (Option Keeping)) (disks : List DiskSeen) → AreReady tells logs disks
    → ((peer : ℕ) (keeping : Keeping) → log_at fewer peer ≡ Some keeping → log_at logs peer ≡ Some keeping) → AreReady tells fewer disks
ready_fewer tells logs fewer disks ready h = record { each = λ peer keeping is. ready.each peer keeping (h peer keeping is) }

-- a log that is put out of use is kept no more
pub dropped_fewer : (logs : List (Option Keeping)) (at peer : ℕ) (keeping : Keeping) → log_at (slice_set logs at None) peer ≡ Some keeping → log_at logs peer ≡ Some keeping
dropped_fewer [] at peer keeping h = h
dropped_fewer (log ∷ logs) zero zero keeping h = absurd (none_is_not keeping h)
dropped_fewer (log ∷ logs) zero (suc peer) keeping h = h
dropped_fewer (log ∷ logs) (suc at) zero keeping h = h
dropped_fewer (log ∷ logs) (suc at) (suc peer) keeping h = dropped_fewer logs at peer keeping h

pub dropped_own : (logs : List (Option Keeping)) (at : ℕ) → log_at (slice_set logs at None) at ≡ None
dropped_own [] at = refl
dropped_own (log ∷ logs) zero = refl
dropped_own (log ∷ logs) (suc at) = dropped_own logs at

pub dropped_past : (logs : List (Option Keeping)) (at : ℕ) → length logs ≤ at → log_at logs at ≡ None
dropped_past [] at past = refl
dropped_past (log ∷ logs) zero past = absurd (omega (arith, past))
dropped_past (log ∷ logs) (suc at) past = dropped_past logs at (omega (arith, past))

-- and no other
pub dropped_other : (logs : List (Option Keeping)) (at peer : ℕ) → peer ≢ at → log_at (slice_set logs at None) peer ≡ log_at logs peer
dropped_other logs at peer differs = get_or-set_other logs at peer None None differs

-- ---- at Ok

pub at_ok : {T E : Type 0} {P Q : Type 0} (r : Result T E) → OnOk r P → (P → Q) → OnOk r Q
at_ok (Ok x) p f = f p
at_ok (Err e) p f = tt

pub always_ok : {T E : Type 0} {Q : Type 0} (r : Result T E) → Q → OnOk r Q
always_ok (Ok x) q = q
always_ok (Err e) q = tt

-- ---- a job on one of the disks

pub stands_at : {A : Type 0} (f : A → DiskSeen) (disks : List A) (k : ℕ) (d : A) → k < length disks → disk_at (stands_of (map f disks)) k ≡ (f (slice_index_or disks k d)).stands
stands_at f [] k d low = absurd (omega (arith, low))
stands_at f (x ∷ xs) zero d low = refl
stands_at f (x ∷ xs) (suc k) d low = stands_at f xs k d (omega (arith, low))

pub length_set : {A : Type 0} (xs : List A) (k : ℕ) (x : A) → length (slice_set xs k x) ≡ length xs
length_set [] k x = refl
length_set (y ∷ xs) zero x = refl
length_set (y ∷ xs) (suc k) x = ap (λ n. suc n) (length_set xs k x)

pub length_map : {A B : Type 0} (f : A → B) (xs : List A) → length (map f xs) ≡ length xs
length_map f [] = refl
length_map f (x ∷ xs) = ap (λ n. suc n) (length_map f xs)

pub stands_set : {A : Type 0} (f : A → DiskSeen) (disks : List A) (k : ℕ) (disk : A) → k < length disks → disk_at (stands_of (map f (slice_set disks k disk))) k ≡ (f disk).stands
stands_set f disks k disk low =
    stands_at f (slice_set disks k disk) k disk (subst (λ n. k < n) (sym (length_set disks k disk)) low) ∙ ap (λ d. (f d).stands) (get_or-set_same disks k disk disk low)

pub stands_other : {A : Type 0} (f : A → DiskSeen) (disks : List A) (k p : ℕ) (disk : A) → p ≢ k → disk_at (stands_of (map f (slice_set disks k disk))) p ≡ disk_at (stands_of (map f disks)) p
stands_other f [] k p disk differs = refl
stands_other f (x ∷ xs) zero zero disk differs = absurd (differs refl)
stands_other f (x ∷ xs) zero (suc p) disk differs = refl
stands_other f (x ∷ xs) (suc k) zero disk differs = refl
stands_other f (x ∷ xs) (suc k) (suc p) disk differs = stands_other f xs k p disk (λ e. differs (ap (λ n. suc n) e))

-- what was tried on the disk of a peer was tried there, and all others stay
pub works_at : {A E : Type 0} (logs : List (Option Keeping)) (disks : List A) (f : A → DiskSeen) (peer before now : ℕ) (slot kept : Option Keeping) (d disk : A) (had todo : Option Job) (result : Result Done E)
    → slot ≡ log_at logs peer → peer < length logs → peer < length disks → had ≡ todo
    → ((f (slice_index_or disks peer d)).stands.last ≤ before → Tries (record { before = before; now = now; slot = slot; kept = kept; old = (f (slice_index_or disks peer d)).stands; new = (f disk).stands }) had result)
    → WorksAlone (record { peer = peer; before = before; now = now; logs = logs; after = slice_set logs peer kept; disks = map f disks; left = map f (slice_set disks peer disk) }) todo result
works_at logs disks f peer before now slot kept d disk had todo result is low within job_is tries = record {
  tries = λ last. subst (λ (t : Try). Tries t todo result) same (subst (λ o. Tries (trying slot kept (f (slice_index_or disks peer d)).stands (f disk).stands) o result) job_is (tries (subst (λ (s : Standing). s.last ≤ before) old_is last)));
  count = length_map f (slice_set disks peer disk) ∙ length_set disks peer disk ∙ sym (length_map f disks);
  logs = λ p differs. get_or-set_other logs peer p kept None differs;
  others = λ p differs. stands_other f disks peer p disk differs;
}
  where
    old_is : disk_at (stands_of (map f disks)) peer ≡ (f (slice_index_or disks peer d)).stands
    old_is = stands_at f disks peer d within

    trying : Option Keeping → Option Keeping → Standing → Standing → Try
    trying s k o n = record { before = before; now = now; slot = s; kept = k; old = o; new = n }

    same : trying slot kept (f (slice_index_or disks peer d)).stands (f disk).stands
        ≡ trying (log_at logs peer) (log_at (slice_set logs peer kept) peer) (disk_at (stands_of (map f disks)) peer) (disk_at (stands_of (map f (slice_set disks peer disk))) peer)
    same =
        ap (λ s. trying s kept (f (slice_index_or disks peer d)).stands (f disk).stands) is
        ∙ ap (λ k. trying (log_at logs peer) k (f (slice_index_or disks peer d)).stands (f disk).stands) (sym (get_or-set_same logs peer kept None low))
        ∙ ap (λ o. trying (log_at logs peer) (log_at (slice_set logs peer kept) peer) o (f disk).stands) (sym old_is)
        ∙ ap (λ n. trying (log_at logs peer) (log_at (slice_set logs peer kept) peer) (disk_at (stands_of (map f disks)) peer) n) (sym (stands_set f disks peer disk within))

-- the log of the disk of a peer reads as is told of it by place
pub log_read : {A : Type 0} (f : A → DiskSeen) (logs : List (Option Keeping)) (disks : List A) (peer place : ℕ) (slot : Option Keeping) (d : A) (list : Numbered) (waiting : Option Entry) → place ≡ peer → place < length disks → slot ≡ log_at logs place
    → ((keeping : Keeping) → log_at logs peer ≡ Some keeping → IsKept keeping ((disk_at (stands_of (map f disks)) peer).seen keeping.log.side) list waiting)
    → (keeping : Keeping) → slot ≡ Some keeping → IsKept keeping ((f (slice_index_or disks place d)).stands.seen keeping.log.side) list waiting
log_read f logs disks peer place slot d list waiting same low is has keeping at =
    subst (λ (s : Standing). IsKept keeping (s.seen keeping.log.side) list waiting) (stands_at f disks place d low)
    (subst (λ p. IsKept keeping ((disk_at (stands_of (map f disks)) p).seen keeping.log.side) list waiting) (sym same) (has keeping (ap (λ p. log_at logs p) (sym same) ∙ sym is ∙ at)))

-- and behind a job of it
pub reads_at : {A E : Type 0} (f : A → DiskSeen) (logs : List (Option Keeping)) (disks : List A) (peer place : ℕ) (kept : Option Keeping) (disk : A) (k j : Job) (list : Numbered) (waiting : Option Entry) (result : Result Done E)
    → place ≡ peer → place < length logs → place < length disks → Some k ≡ Some j → IfOk result (ReadsOn kept (f disk).stands k list waiting)
    → IfOk result (ReadsOn (log_at (slice_set logs place kept) peer) (disk_at (stands_of (map f (slice_set disks place disk))) peer) j list waiting)
reads_at f logs disks peer place kept disk k j list waiting (Err fault) same in_logs low is reads = tt
reads_at f logs disks peer place kept disk k j list waiting (Ok done) same in_logs low is reads =
    subst (λ p. ReadsOn (log_at (slice_set logs place kept) p) (disk_at (stands_of (map f (slice_set disks place disk))) p) j list waiting done) same
    (subst (λ o. ReadsOn o (disk_at (stands_of (map f (slice_set disks place disk))) place) j list waiting done) (sym (get_or-set_same logs place kept None in_logs))
    (subst (λ s. ReadsOn kept s j list waiting done) (sym (stands_set f disks place disk low))
    (subst (λ x. ReadsOn kept (f disk).stands x list waiting done) (some_is k j is) reads)))

-- what is to be read is in a list, by the job and the catalogue that are at hand
pub stored_as : (todo had : Option Job) (told held : Catalogue) (list : Numbered) → had ≡ todo → held ≡ told → HasStored todo told.blocks list → HasStored had held.blocks list
stored_as todo had told held list job_is is stored =
    subst (λ o. HasStored o held.blocks list) (sym job_is) (subst (λ (c : Catalogue). HasStored todo c.blocks list) (sym is) stored)

-- a job that is not done on the disk of its peer alone
pub not_own : (todo : Option Job) (j : Job) → todo ≡ Some j → is_own (Some j) ≡ false → is_own todo ≡ true → ⊥
not_own todo j is not own = never (sym not ∙ ap is_own (sym is) ∙ own)
  where
    never : false ≡ true → ⊥
    never e = cc e

-- nothing was tried
pub works_nothing : {A E : Type 0} (logs : List (Option Keeping)) (disks : List A) (f : A → DiskSeen) (peer now : ℕ) (todo : Option Job) (fault : E) → Since (disk_at (stands_of (map f disks)) peer)
    → WorksAlone {E = E} (record { peer = peer; before = now; now = now; logs = logs; after = logs; disks = map f disks; left = map f disks }) todo (Err fault)
works_nothing logs disks f peer now todo fault since = record {
  tries = λ last. record {
    idle = λ h. stays_all (disk_at (stands_of (map f disks)) peer) now last since;
    cut = λ h. tt;
    each = λ j keeping first at list waiting has. leaves_err _ j list waiting (Err fault) fault refl (stays_one (disk_at (stands_of (map f disks)) peer) now list (list_after j list waiting) last since has.leaves);
  };
  count = refl;
  logs = λ p differs. refl;
  others = λ p differs. refl;
}

-- at a moment behind its last call each disk leaves what it leaves now
pub since_of : {A : Type 0} (f : A → DiskSeen) (disks : List A) → ((disk : A) (side : Side) (m : ℕ) → (f disk).stands.last < m → (f disk).stands.past m side ≡ (f disk).stands.loose side) → SinceAll (stands_of (map f disks))
since_of f [] h k side m low = refl
since_of f (d ∷ disks) h zero side m low = h d side m low
since_of f (d ∷ disks) h (suc k) side m low = since_of f disks h k side m low
