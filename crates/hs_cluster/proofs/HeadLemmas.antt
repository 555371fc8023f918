-- Whose header a stop leaves on a disk: by calls of its log, and by those one after another.
use Rattle.std.proofs.Common.{◌≡◌, ◌≢◌, ◌∙◌, inl, inr, sym, subst, ℕ, ◌<◌, ◌≤◌, List, Option, Some, None, map, length, refl, arith}
use Rattle.std.proofs.lemmas.Bool.{cases_eq, cases_lt}
use Rattle.std.proofs.lemmas.List.{get_or-set_same, get_or-set_other}
use Rattle.std.specs.Option.{option_map}
use Rattle.std.specs.Prelude.{OnOk, Result, Ok, Err, slice_index_or, slice_set, ⊤}
use Rattle.hs_cluster.proofs.DiskLemmas.{stands_at, stands_other, stands_set}
use Rattle.hs_cluster.proofs.JobLemmas.{Since, none_waits, told_waits}
use Rattle.hs_cluster.specs.declared.fault.ClusterFault.{ClusterFault}
use Rattle.hs_cluster.specs.Disks.{DiskSeen, log_at, stands_of}
use Rattle.hs_cluster.specs.Headed.{HasHeaded, IsHeaded, IsHeadedAt, KeepsHeads, LeavesHeaded, LeavesHeads, LeavesItsHeader, StaysHeaded, StaysHeadedAt}
use Rattle.hs_entry.specs.declared.entry.Entry.{Entry}
use Rattle.hs_entry.specs.declared.rank.Rank.{Rank}
use Rattle.hs_fold.specs.Shards.Setting.{Numbered}
use Rattle.hs_peerlog.specs.Heads.{KeepsHeader}
use Rattle.hs_peerlog.specs.Lists.{HasLog, Keeping, with_waiting}
use Rattle.hs_ports.specs.Disk.{IsImage, Standing}
use Rattle.hs_ports.specs.Moments.{disk_at}
use Rattle.hs_side.specs.declared.header.Header.{Header}
use Rattle.hs_taking.proofs.HeadLemmas.{heads_still, heads_then}
use Rattle.hs_taking.proofs.PastLemmas.{past_still, past_then, past_wait}
use Rattle.hs_taking.specs.Past.{PastStays}

none_is_not : {A : Type 0} (x : A) → None ≡ Some x → ⊥
none_is_not x e = cc e

pub none_there : {A P : Type 0} (x : A) → None ≡ Some x → P
none_there x e = absurd (none_is_not x e)

some_is : {A : Type 0} (x y : A) → Some x ≡ Some y → x ≡ y
some_is x y e = cc

-- ---- with its log

-- the log is out of use, or nothing was called
pub headed_still : (header : Header) (now : ℕ) (slot kept : Option Keeping) (disk : Standing) → Since disk → IsHeaded header now slot disk → ((keeping : Keeping) → kept ≡ Some keeping → slot ≡ Some keeping) → StaysHeaded header now now disk disk kept
headed_still header now slot kept disk since headed less = record {
  disk = heads_still header now now disk (omega arith) headed.called since headed.leaves;
  log = λ keeping at. headed.log keeping (less keeping at);
}

pub headed_gone : (header : Header) (before now : ℕ) (old new : Standing) (kept : Option Keeping) → kept ≡ None → KeepsHeads header before now old new → StaysHeaded header before now old new kept
headed_gone header before now old new kept gone disk = record { disk = disk; log = λ keeping at. absurd (none_is_not keeping (sym gone ∙ at)) }

-- behind calls it is so again
pub headed_behind : (header : Header) (before now : ℕ) (old new : Standing) (kept : Option Keeping) → StaysHeaded header before now old new kept → IsHeaded header now kept new
headed_behind header before now old new kept stays = record { called = stays.disk.past.last; leaves = stays.disk.keeps.standing; log = stays.log }

pub headed_then : (header : Header) (before mid now : ℕ) (a b c : Standing) (between kept : Option Keeping) → StaysHeaded header before mid a b between → (IsHeaded header mid between b → StaysHeaded header mid now b c kept) → StaysHeaded header before now a c kept
headed_then header before mid now a b c between kept one next =
    let two : StaysHeaded header mid now b c kept = next (headed_behind header before mid a b between one) in
    record { disk = heads_then header before mid now a b c one.disk two.disk; log = two.log }

-- of a log in use
pub headed_log : (header : Header) (now : ℕ) (slot : Option Keeping) (log : Keeping) (disk : Standing) → slot ≡ Some log → IsHeaded header now slot disk → IsHeaded header now (Some log) disk
headed_log header now slot log disk is headed = subst (λ o. IsHeaded header now o disk) is headed

pub headed_ok : (header : Header) (before now : ℕ) (old new : Standing) (keeping : Keeping) → KeepsHeads header before now old new → HasHeaded header keeping new → StaysHeaded header before now old new (Some keeping)
headed_ok header before now old new keeping disk has = record { disk = disk; log = λ k at. subst (λ x. HasHeaded header x new) (some_is keeping k at) has }

-- ---- a call of the log

has_then : {T E : Type 0} (header : Header) (keeping after : Keeping) (new : Standing) (generation : ℕ) (list : Numbered) (waiting : Option Entry) (result : Result T E) → keeping.log.head ≡ Some (header, generation)
    → OnOk result (after.log.head ≡ keeping.log.head) → OnOk result (HasLog after new list waiting) → OnOk result (HasHeaded header after new)
has_then header keeping after new generation list waiting (Ok x) head same has = record { generation = generation; head = same ∙ head; some = record { list = list; waiting = waiting; has = has } }
has_then header keeping after new generation list waiting (Err fault) head same has = tt

-- an append
pub headed_append : {T E : Type 0} (header : Header) (before now : ℕ) (old new : Standing) (keeping after : Keeping) (entry : Entry) (result : Result T E) → IsHeaded header before (Some keeping) old → keeping.waits ≡ None
    → PastStays before now old new → ((list : Numbered) → HasLog keeping old list None → (head : Header × ℕ) → keeping.log.head ≡ Some head → KeepsHeader before new head.0)
    → OnOk result (after.log.head ≡ keeping.log.head) → ((list : Numbered) → HasLog keeping old list None → OnOk result (HasLog after new list (Some entry))) → LeavesHeaded header before now old new after result
headed_append header before now old new keeping after entry result headed none past keeps same lists = record {
  disk = record { past = past; keeps = keeps own.some.list has (header, own.generation) own.head };
  log = has_then header keeping after new own.generation own.some.list (Some entry) result own.head same (lists own.some.list has);
}
  where
    own : HasHeaded header keeping old
    own = headed.log keeping refl

    has : HasLog keeping old own.some.list None
    has = subst (λ w. HasLog keeping old own.some.list w) (none_waits keeping (old.seen keeping.log.side) own.some.list own.some.waiting own.some.has.kept none) own.some.has

-- a seal
pub headed_seal : {T E : Type 0} (header : Header) (before now : ℕ) (old new : Standing) (keeping after : Keeping) (number : ℕ) (result : Result T E) → IsHeaded header before (Some keeping) old → option_map (λ (rank : Rank). rank.number) keeping.waits ≡ Some number
    → PastStays before now old new → ((list : Numbered) (entry : Entry) → HasLog keeping old list (Some entry) → (head : Header × ℕ) → keeping.log.head ≡ Some head → KeepsHeader before new head.0)
    → OnOk result (after.log.head ≡ keeping.log.head) → ((list : Numbered) (entry : Entry) → HasLog keeping old list (Some entry) → OnOk result (HasLog after new (with_waiting list entry) None)) → LeavesHeaded header before now old new after result
headed_seal header before now old new keeping after number result headed some past keeps same lists = record {
  disk = record { past = past; keeps = keeps own.some.list waits.0 has (header, own.generation) own.head };
  log = has_then header keeping after new own.generation (with_waiting own.some.list waits.0) None result own.head same (lists own.some.list waits.0 has);
}
  where
    own : HasHeaded header keeping old
    own = headed.log keeping refl

    waits : (entry : Entry) × (own.some.waiting ≡ Some entry)
    waits = told_waits keeping (old.seen keeping.log.side) own.some.list own.some.waiting own.some.has.kept number some

    has : HasLog keeping old own.some.list (Some waits.0)
    has = subst (λ w. HasLog keeping old own.some.list w) waits.1 own.some.has

-- nothing was called, or the disk was only read
pub headed_read : {T E : Type 0} (header : Header) (now : ℕ) (old new : Standing) (keeping : Keeping) (result : Result T E) → new ≡ old → Since old → IsHeaded header now (Some keeping) old → LeavesHeaded header now now old new keeping result
headed_read header now old new keeping result same since headed = subst (λ d. LeavesHeaded header now now old d keeping result) (sym same) (record {
  disk = heads_still header now now old (omega arith) headed.called since headed.leaves;
  log = on_any result (headed.log keeping refl);
})
  where
    on_any : {T E P : Type 0} (r : Result T E) → P → OnOk r P
    on_any (Ok x) p = p
    on_any (Err e) p = tt

-- one call, and then another
pub headed_next : {T E : Type 0} (header : Header) (before mid now : ℕ) (a b c : Standing) (between after : Keeping) (result : Result T E) → KeepsHeads header before mid a b → HasHeaded header between b
    → (IsHeaded header mid (Some between) b → LeavesHeaded header mid now b c after result) → LeavesHeaded header before now a c after result
headed_next header before mid now a b c between after result disk has next =
    let two = next (headed_behind header before mid a b (Some between) (headed_ok header before mid a b between disk has)) in
    record { disk = heads_then header before mid now a b c disk two.disk; log = two.log }

-- it did not come to its end
pub headed_err : {T E : Type 0} (header : Header) (before now : ℕ) (old new : Standing) (keeping : Keeping) (result : Result T E) (fault : E) → result ≡ Err fault → KeepsHeads header before now old new → LeavesHeaded header before now old new keeping result
headed_err {T = T} {E = E} header before now old new keeping result fault is disk = subst (λ (r : Result T E). LeavesHeaded header before now old new keeping r) (sym is) (record { disk = disk; log = tt })

-- ---- the disks of all peers

pub heads_stay : (header : Header) (now : ℕ) (logs after : List (Option Keeping)) (disks : List DiskSeen) (peer : ℕ) → Since (disk_at (stands_of disks) peer) → ((keeping : Keeping) → log_at after peer ≡ Some keeping → log_at logs peer ≡ Some keeping)
    → IsHeadedAt header now logs disks peer → StaysHeadedAt header now now disks after disks peer
heads_stay header now logs after disks peer since less headed = headed_still header now (log_at logs peer) (log_at after peer) (disk_at (stands_of disks) peer) since headed less

-- on the disk of one of them something was done
pub heads_at : {A : Type 0} (header : Header) (before now : ℕ) (logs : List (Option Keeping)) (disks : List A) (f : A → DiskSeen) (place : ℕ) (slot kept : Option Keeping) (d disk : A) (peer : ℕ) → before ≤ now → Since (disk_at (stands_of (map f disks)) peer)
    → slot ≡ log_at logs place → place < length logs → place < length disks
    → (place ≡ peer → IsHeaded header before slot (f (slice_index_or disks place d)).stands → StaysHeaded header before now (f (slice_index_or disks place d)).stands (f disk).stands kept)
    → IsHeadedAt header before logs (map f disks) peer → StaysHeadedAt header before now (map f disks) (slice_set logs place kept) (map f (slice_set disks place disk)) peer
heads_at header before now logs disks f place slot kept d disk peer up since is low within done headed = elim (cases_eq peer place) [
  | inl same ↦ subst (λ p. StaysHeadedAt header before now (map f disks) (slice_set logs place kept) (map f (slice_set disks place disk)) p) (sym same) (here (done (sym same)) (subst (λ p. IsHeadedAt header before logs (map f disks) p) same headed))
  | inr differs ↦ there differs
]
  where
    here : (IsHeaded header before slot (f (slice_index_or disks place d)).stands → StaysHeaded header before now (f (slice_index_or disks place d)).stands (f disk).stands kept)
        → IsHeadedAt header before logs (map f disks) place → StaysHeadedAt header before now (map f disks) (slice_set logs place kept) (map f (slice_set disks place disk)) place
    here call h =
        let one : IsHeaded header before slot (f (slice_index_or disks place d)).stands =
        subst (λ x. IsHeaded header before slot x) (stands_at f disks place d within) (subst (λ s. IsHeaded header before s (disk_at (stands_of (map f disks)) place)) (sym is) h) in
        subst (λ k. StaysHeaded header before now (disk_at (stands_of (map f disks)) place) (disk_at (stands_of (map f (slice_set disks place disk))) place) k) (sym (get_or-set_same logs place kept None low))
        (subst (λ x. StaysHeaded header before now x (disk_at (stands_of (map f (slice_set disks place disk))) place) kept) (sym (stands_at f disks place d within))
        (subst (λ x. StaysHeaded header before now (f (slice_index_or disks place d)).stands x kept) (sym (stands_set f disks place disk within)) (call one)))

    there : peer ≢ place → StaysHeadedAt header before now (map f disks) (slice_set logs place kept) (map f (slice_set disks place disk)) peer
    there differs =
        subst (λ x. StaysHeaded header before now (disk_at (stands_of (map f disks)) peer) x (log_at (slice_set logs place kept) peer)) (sym (stands_other f disks place peer disk differs))
        (subst (λ k. StaysHeaded header before now (disk_at (stands_of (map f disks)) peer) (disk_at (stands_of (map f disks)) peer) k) (sym (get_or-set_other logs place peer kept None differs))
        (record { disk = heads_still header before now (disk_at (stands_of (map f disks)) peer) up headed.called since headed.leaves; log = headed.log }))

pub heads_on : (header : Header) (before mid now : ℕ) (between after : List (Option Keeping)) (disks middle left : List DiskSeen) (peer : ℕ) → StaysHeadedAt header before mid disks between middle peer
    → (IsHeadedAt header mid between middle peer → StaysHeadedAt header mid now middle after left peer) → StaysHeadedAt header before now disks after left peer
heads_on header before mid now between after disks middle left peer one next =
    headed_then header before mid now (disk_at (stands_of disks) peer) (disk_at (stands_of middle) peer) (disk_at (stands_of left) peer) (log_at between peer) (log_at after peer) one next

-- ---- what some calls show of a disk

-- time went on
pub header_wait : (header : Header) (before mid now : ℕ) (a b : Standing) → mid ≤ now → Since b → LeavesItsHeader header before mid a b → LeavesItsHeader header before now a b
header_wait header before mid now a b up since leaves = record {
  past = past_wait before mid now a b up leaves.past;
  each = λ m low high fits image here. elim (cases_lt mid m) [
    | inl above ↦ leaves.leaves image (record { sides = λ side. subst (λ l. IsImage l (image side)) (since side m (let last = leaves.past.last in omega (arith, last, above))) (here side) })
    | inr le ↦ leaves.each m low le fits image here
  ];
  leaves = leaves.leaves;
}

-- some calls, and then some
pub header_next : (header : Header) (before mid now : ℕ) (a b c : Standing) → LeavesItsHeader header before mid a b → LeavesItsHeader header mid now b c → LeavesItsHeader header before now a c
header_next header before mid now a b c one two = record {
  past = past_then before mid now a b c one.past two.past;
  each = λ m low high fits image here. elim (cases_lt mid m) [
    | inl above ↦ two.each m above high fits image here
    | inr up ↦ one.each m low up fits image (λ side. subst (λ l. IsImage l (image side)) (two.past.earlier side m up fits) (here side))
  ];
  leaves = two.leaves;
}

-- calls that keep it do
pub header_shown : (header : Header) (before now : ℕ) (a b : Standing) → KeepsHeads header before now a b → LeavesItsHeader header before now a b
header_shown header before now a b keeps = record { past = keeps.past; each = λ m low high fits image here. keeps.keeps.each m low fits image here; leaves = keeps.keeps.standing }

on_ok : {T E P : Type 0} (r : Result T E) → P → OnOk r P
on_ok (Ok x) p = p
on_ok (Err e) p = tt

-- nothing was called
pub heads_quiet : (header : Header) (now : ℕ) (logs fewer : List (Option Keeping)) (disks : List DiskSeen) (r : Result ⊤ ClusterFault) (peer : ℕ) → ((keeping : Keeping) → log_at fewer peer ≡ Some keeping → log_at logs peer ≡ Some keeping)
    → IsHeadedAt header now logs disks peer → LeavesHeads header now now disks disks fewer r peer
heads_quiet header now logs fewer disks r peer less headed = record {
  disk = record {
    past = past_still now now (disk_at (stands_of disks) peer) (omega arith) headed.called;
    each = λ m low high fits image left. absurd (omega (arith, low, high));
    leaves = headed.leaves;
  };
  log = on_ok r (λ keeping at. headed.log keeping (less keeping at));
}

-- it was given up
pub heads_cut : (header : Header) (before now : ℕ) (disks left : List DiskSeen) (logs after : List (Option Keeping)) (r : Result ⊤ ClusterFault) (fault : ClusterFault) (peer : ℕ) → LeavesHeads header before now disks left logs r peer → LeavesHeads header before now disks left after (Err fault) peer
heads_cut header before now disks left logs after r fault peer leaves = record { disk = leaves.disk; log = tt }

-- a job was done
pub heads_shown : (header : Header) (before now : ℕ) (disks left : List DiskSeen) (after logs : List (Option Keeping)) (r : Result ⊤ ClusterFault) (peer : ℕ) → logs ≡ after → StaysHeadedAt header before now disks after left peer → LeavesHeads header before now disks left logs r peer
heads_shown header before now disks left after logs r peer kept stays = record {
  disk = header_shown header before now (disk_at (stands_of disks) peer) (disk_at (stands_of left) peer) stays.disk;
  log = on_ok r (λ keeping at. stays.log keeping (subst (λ l. log_at l peer ≡ Some keeping) kept at));
}

-- behind calls that came to their end it is so again
pub heads_behind : (header : Header) (before now : ℕ) (disks left : List DiskSeen) (logs : List (Option Keeping)) (peer : ℕ) → LeavesHeads header before now disks left logs (Ok tt) peer → IsHeadedAt header now logs left peer
heads_behind header before now disks left logs peer leaves = record { called = leaves.disk.past.last; leaves = leaves.disk.leaves; log = leaves.log }

pub heads_next : (header : Header) (before mid now : ℕ) (disks between left : List DiskSeen) (logs : List (Option Keeping)) (r : Result ⊤ ClusterFault) (peer : ℕ) → LeavesItsHeader header before mid (disk_at (stands_of disks) peer) (disk_at (stands_of between) peer)
    → LeavesHeads header mid now between left logs r peer → LeavesHeads header before now disks left logs r peer
heads_next header before mid now disks between left logs r peer one two = record {
  disk = header_next header before mid now (disk_at (stands_of disks) peer) (disk_at (stands_of between) peer) (disk_at (stands_of left) peer) one two.disk;
  log = two.log;
}
