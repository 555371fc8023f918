-- What calls one after another leave of lists; what recovering a disk refuses, and what an emptying and a copying step leave.
use Rattle.std.proofs.Common.{◌≡◌, ◌∙◌, ◌⊎◌, inl, inr, ap, sym, subst, ℕ, ◌+◌, ◌==◌, ◌&&◌, true, false, List, [], ◌∷◌, ◌++◌, Option, Some, None, refl, arith}
use Rattle.std.proofs.lemmas.Bool.{cases_lt}
use Rattle.std.specs.Prelude.{IfOk, IsSome, Result, Ok, Err, if◌then◌else◌}
use Rattle.hs_cluster.proofs.JobLemmas.{weaker}
use Rattle.hs_cluster.specs.Jobs.{HasCopied, IsAnyOrNone, Try, WithCopy, sealed_list}
use Rattle.hs_desk.specs.declared.done.Done.TheVariants as done
use Rattle.hs_entry.specs.declared.entry.Entry.{Entry}
use Rattle.hs_entry.specs.declared.rank.Rank.{Rank}
use Rattle.hs_fold.specs.Shards.Setting.{Numbered}
use Rattle.hs_limits.specs.declared.shape.Shape.{Shape}
use Rattle.hs_peerlog.specs.Caused.{IsOutside}
use Rattle.hs_peerlog.specs.declared.fault.LogFault.{LogFault}
use Rattle.hs_peerlog.specs.declared.fault.LogFault.TheVariants as log
use Rattle.hs_peerlog.specs.Heads.{IsBlankOrOf, LeavesHeader}
use Rattle.hs_peerlog.specs.Images.{GivesList, Is, IsAny, IsOne, LeavesAny, LeavesEach}
use Rattle.hs_peerlog.specs.Lists.{HasLog, Keeping, last_of, numbered_entry, with_waiting}
use Rattle.hs_peerlog.specs.Opening.{IsRefusal, is_own, refusal_in, refused_head, refused_log}
use Rattle.hs_ports.specs.declared.disk.Side.{Side}
use Rattle.hs_ports.specs.Disk.{IsImage, Standing}
use Rattle.hs_side.specs.Current.{current, header_in, list_in}
use Rattle.hs_side.specs.declared.header.Header.{Header}
use Rattle.hs_side.specs.Headers.{own_header}
use Rattle.hs_side.specs.Reading.{Log, log_of}
use Rattle.hs_taking.proofs.ViewLemmas.{no_list}

none_is_not : {A : Type 0} (x : A) → None ≡ Some x → ⊥
none_is_not x e = cc e

some_is : {A : Type 0} (x y : A) → Some x ≡ Some y → x ≡ y
some_is x y e = cc

-- ---- calls, and then others

gives : (P Q : Numbered → Type 0) → ((list : Numbered) → P list → Q list) → (image : Side → List ℕ) → GivesList P image → GivesList Q image
gives P Q f image g = record { list = g.list; read = g.read; holds = f g.list g.holds }

pub each_then : (before mid now : ℕ) (a b c : Standing) (P Q R : Numbered → Type 0) → ((list : Numbered) → P list → R list) → ((list : Numbered) → Q list → R list)
    → LeavesEach before mid a b P → LeavesEach mid now b c Q → LeavesEach before now a c R
each_then before mid now a b c P Q R f g one two = record {
  later = let l = one.later in let m = two.later in omega (arith, l, m);
  last = two.last;
  earlier = λ side m low fits. two.earlier side m (let l = one.later in omega (arith, low, l)) fits ∙ one.earlier side m low fits;
  each = λ m above fits image left. elim (cases_lt mid m) [
    | inl high ↦ gives Q R g image (two.each m high fits image left)
    | inr low ↦ gives P R f image (one.each m above fits image (λ side. subst (λ l. IsImage l (image side)) (two.earlier side m low fits) (left side)))
  ];
  standing = λ image left. gives Q R g image (two.standing image left);
}

-- ---- what is refused

-- a disk that gives a list is a log
list_seen : (disk : Standing) (lists : ℕ → Numbered) → ((side : Side) → IsImage (disk.loose side) (disk.seen side)) → LeavesAny disk lists → (at : ℕ) × (list_in disk.seen ≡ Some (lists at))
list_seen disk lists stays leaves =
    let g = leaves disk.seen (record { sides = stays }) in
    (g.holds.at, g.read ∙ ap (λ (l : Numbered). Some l) g.holds.same)

log_there : (shape : Shape) (peer at : ℕ) (seen : Side → List ℕ) (list : Numbered) → list_in seen ≡ Some list → refusal_in shape peer seen ≡ Some (log.NotALog at) → ⊥
log_there shape peer at seen list is refused = none_is_not list (sym (no_list shape peer at seen refused) ∙ is)

-- and where it has this peer's header, it is of no other store
own_passes : (shape : Shape) (peer : ℕ) → is_own shape peer (own_header shape peer) ≡ true
own_passes shape peer = same shape.shards shape.copies peer
  where
    same : (a b c : ℕ) → ((a == a && b == b) && c == c) ≡ true
    same a b c = grind arith

head_passes : (shape : Shape) (peer : ℕ) (bytes : List ℕ) → IsBlankOrOf (own_header shape peer) bytes → refused_head shape peer (header_in bytes) ≡ None
head_passes shape peer bytes own = elim own.one [
  | inl blank ↦ ap (refused_head shape peer) blank
  | inr is ↦ ap (refused_head shape peer) is ∙ ap (λ b. if b then None else Some (log.WrongShape (own_header shape peer))) (own_passes shape peer)
]

own_there : (shape : Shape) (peer : ℕ) (found : Header) (disk : Standing) → ((side : Side) → IsImage (disk.loose side) (disk.seen side)) → LeavesHeader disk (own_header shape peer) → refusal_in shape peer disk.seen ≡ Some (log.WrongShape found) → ⊥
own_there shape peer found disk stays leaves refused =
    other (log_of (disk.seen (current disk.seen))) (sym (ap (λ o. refused_log o (log_of (disk.seen (current disk.seen)))) (head_passes shape peer (disk.seen (current disk.seen)) (leaves disk.seen (record { sides = stays })))) ∙ refused)
  where
    other : (r : Result (Option Log) ℕ) → refused_log None r ≡ Some (log.WrongShape found) → ⊥
    other (Err at) e = cc e
    other (Ok l) e = cc e

-- so recovering it gives its log, but where the disk fails or memory runs out
pub not_refused : {P : Type 0} (shape : Shape) (peer : ℕ) (disk : Standing) (lists : ℕ → Numbered) (fault : LogFault) → ((side : Side) → IsImage (disk.loose side) (disk.seen side)) → LeavesAny disk lists → LeavesHeader disk (own_header shape peer)
    → IsRefusal fault (refusal_in shape peer disk.seen) → (IsOutside fault → ⊥) → P
not_refused shape peer disk lists (log.NotALog at) stays leaves headed refused not = let there = list_seen disk lists stays leaves in absurd (log_there shape peer at disk.seen (lists there.0) there.1 refused)
not_refused shape peer disk lists (log.WrongShape found) stays leaves headed refused not = absurd (own_there shape peer found disk stays headed refused)
not_refused shape peer disk lists log.Disk stays leaves headed refused not = absurd (not tt)
not_refused shape peer disk lists log.NoMemory stays leaves headed refused not = absurd (not tt)

-- ---- an emptying

-- a list that recovering found, and emptying leaves
pub recovered_moments : (before mid now : ℕ) (a b c : Standing) (lists : ℕ → Numbered) (list : Numbered) → ((side : Side) → IsImage (a.loose side) (a.seen side)) → LeavesAny a lists → list_in a.seen ≡ Some list
    → LeavesEach before mid a b (IsAny lists) → LeavesEach mid now b c (IsOne list []) → LeavesEach before now a c (IsAnyOrNone lists)
recovered_moments before mid now a b c lists list stays leaves is one two = each_then before mid now a b c (IsAny lists) (IsOne list []) (IsAnyOrNone lists) (λ l h. inl h) either one two
  where
    there : (at : ℕ) × (list_in a.seen ≡ Some (lists at))
    there = list_seen a lists stays leaves

    either : (l : Numbered) → IsOne list [] l → IsAnyOrNone lists l
    either l h = elim h [
      | inl same ↦ inl (record { at = there.0; same = same ∙ some_is list (lists there.0) (sym is ∙ there.1) })
      | inr none ↦ inr none
    ]

pub failed_moments : (before now : ℕ) (a b : Standing) (lists : ℕ → Numbered) → LeavesEach before now a b (IsAny lists) → LeavesEach before now a b (IsAnyOrNone lists)
failed_moments before now a b lists one = weaker before now a b (IsAny lists) (IsAnyOrNone lists) (λ l h. inl h) one

-- under its peer's header
pub own_emptied : {E : Type 0} (header : Header) (generation : ℕ) (log : Keeping) (result : Result Keeping E) → log.log.head ≡ Some (header, generation) → IfOk result (λ emptied. emptied.log.head ≡ log.log.head)
    → IfOk result (λ emptied. (generation : ℕ) × (emptied.log.head ≡ Some (header, generation)))
own_emptied header generation log (Ok emptied) head same = (generation, same ∙ head)
own_emptied header generation log (Err fault) head same = tt

-- some list was found
pub list_found : (P : Type 0) (o : Option Numbered) → IsSome o → ((list : Numbered) → o ≡ Some list → P) → P
list_found P None some f = absurd (false_is_not some)
  where
    false_is_not : false ≡ true → ⊥
    false_is_not e = cc e
list_found P (Some list) some f = f list refl

-- ---- a copy that is written

-- an append, and then the seal
pub written_moments : (before mid now number last : ℕ) (a b c : Standing) (list : Numbered) (entry : Entry) → number ≡ last → LeavesEach before mid a b (Is list) → LeavesEach mid now b c (IsOne list (sealed_list list (Some entry)))
    → LeavesEach before now a c (λ l. (l ≡ list) ⊎ (number ≡ last) × (l ≡ with_waiting list entry))
written_moments before mid now number last a b c list entry next one two =
    each_then before mid now a b c (Is list) (IsOne list (sealed_list list (Some entry))) (λ l. (l ≡ list) ⊎ (number ≡ last) × (l ≡ with_waiting list entry))
    (λ l h. inl h) (λ l h. elim h [ inl same ↦ inl same | inr longer ↦ inr (next, longer) ]) one two

pub unwritten_moments : (before now number last : ℕ) (a b : Standing) (list : Numbered) (entry : Entry) → LeavesEach before now a b (Is list) → LeavesEach before now a b (λ l. (l ≡ list) ⊎ (number ≡ last) × (l ≡ with_waiting list entry))
unwritten_moments before now number last a b list entry one = weaker before now a b (Is list) (λ l. (l ≡ list) ⊎ (number ≡ last) × (l ≡ with_waiting list entry)) (λ l h. inl h) one

-- the rank of a log is that of its list
next_of : (number : ℕ) (keeping : Keeping) (disk : Standing) (list : Numbered) (waiting : Option Entry) → HasLog keeping disk list waiting → number ≡ keeping.rank.number + 1 → number ≡ last_of list + 1
next_of number keeping disk list waiting has next = next ∙ ap (λ (r : Rank). r.number + 1) has.kept.rank

with_copy : (number : ℕ) (source list l : Numbered) (entry : Entry) → numbered_entry source number ≡ Some entry → number ≡ last_of list + 1 → l ≡ with_waiting list entry → WithCopy number source list l
with_copy number source list l entry found next same = record {
  entry = entry;
  found = found;
  behind = next;
  same = same ∙ ap (λ n. list ++ (n, entry) ∷ []) (sym next);
}

pub copied_moments : (before now number : ℕ) (keeping : Keeping) (a b : Standing) (source list : Numbered) (waiting : Option Entry) (entry : Entry) → numbered_entry source number ≡ Some entry → HasLog keeping a list waiting
    → LeavesEach before now a b (λ l. (l ≡ list) ⊎ (number ≡ keeping.rank.number + 1) × (l ≡ with_waiting list entry)) → LeavesEach before now a b (λ l. (l ≡ list) ⊎ WithCopy number source list l)
copied_moments before now number keeping a b source list waiting entry found has run =
    weaker before now a b (λ l. (l ≡ list) ⊎ (number ≡ keeping.rank.number + 1) × (l ≡ with_waiting list entry)) (λ l. (l ≡ list) ⊎ WithCopy number source list l)
    (λ l h. elim h [ inl same ↦ inl same | inr longer ↦ inr (with_copy number source list l entry found (next_of number keeping a list waiting has longer.0) longer.1) ]) run

pub write_ok : {E : Type 0} (t : Try) (peer from number : ℕ) (keeping after : Keeping) (source list : Numbered) (waiting : Option Entry) (entry : Entry) → numbered_entry source number ≡ Some entry → HasLog keeping t.old list waiting
    → number ≡ keeping.rank.number + 1 → t.kept ≡ Some after → HasLog after t.new (with_waiting list entry) None
    → LeavesEach t.before t.now t.old t.new (λ l. (l ≡ list) ⊎ (number ≡ keeping.rank.number + 1) × (l ≡ with_waiting list entry)) → HasCopied {E = E} t peer from number source list (Ok (done.Copied number))
write_ok t peer from number keeping after source list waiting entry found has next kept done run = record {
  log = (after, with_waiting list entry, kept, with_copy number source list (with_waiting list entry) entry found (next_of number keeping t.old list waiting has next) refl, done);
  moments = copied_moments t.before t.now number keeping t.old t.new source list waiting entry found has run;
}

-- where it was not, the peer is out of use, or memory ran out
pub write_failed : {E : Type 0} (t : Try) (peer from number : ℕ) (keeping : Keeping) (source list : Numbered) (waiting : Option Entry) (entry : Entry) → numbered_entry source number ≡ Some entry → HasLog keeping t.old list waiting → t.kept ≡ None
    → LeavesEach t.before t.now t.old t.new (λ l. (l ≡ list) ⊎ (number ≡ keeping.rank.number + 1) × (l ≡ with_waiting list entry)) → HasCopied {E = E} t peer from number source list (Ok (done.Failed peer))
write_failed t peer from number keeping source list waiting entry found has kept run = record {
  log = inr (refl, kept);
  moments = copied_moments t.before t.now number keeping t.old t.new source list waiting entry found has run;
}

pub write_cut : {E : Type 0} (t : Try) (peer from number : ℕ) (keeping : Keeping) (source list : Numbered) (waiting : Option Entry) (entry : Entry) (fault : E) → numbered_entry source number ≡ Some entry → HasLog keeping t.old list waiting
    → LeavesEach t.before t.now t.old t.new (λ l. (l ≡ list) ⊎ (number ≡ keeping.rank.number + 1) × (l ≡ with_waiting list entry)) → HasCopied {E = E} t peer from number source list (Err fault)
write_cut t peer from number keeping source list waiting entry fault found has run = record {
  log = tt;
  moments = copied_moments t.before t.now number keeping t.old t.new source list waiting entry found has run;
}

-- the log that was in use
pub log_taken : (slot result : Option Keeping) (log keeping : Keeping) (disk : Standing) (list : Numbered) (waiting : Option Entry) → result ≡ slot → result ≡ Some log → slot ≡ Some keeping → HasLog keeping disk list waiting → HasLog log disk list waiting
log_taken slot result log keeping disk list waiting value is at has = subst (λ k. HasLog k disk list waiting) (some_is keeping log (sym at ∙ sym value ∙ is)) has
