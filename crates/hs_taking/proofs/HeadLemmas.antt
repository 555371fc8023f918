-- Whose header a stop leaves on a disk: by no call, by calls one after another, and on one disk of several; and that of a log.
use Rattle.std.proofs.Common.{◌≡◌, ◌≢◌, ◌∙◌, inl, inr, ap, sym, subst, ℕ, ◌+◌, ◌<◌, ◌≤◌, Bool, List, [], Option, Some, None, map, length, arith}
use Rattle.std.proofs.lemmas.Bool.{cases_eq, cases_lt}
use Rattle.std.proofs.lemmas.List.{get_or-set_same, get_or-set_other}
use Rattle.std.specs.Prelude.{slice_index_or, slice_set}
use Rattle.hs_fold.specs.Shards.Setting.{Numbered}
use Rattle.hs_limits.specs.declared.shape.Shape.{Shape}
use Rattle.hs_limits.specs.Shape.{peer_of}
use Rattle.hs_peerlog.proofs.ImageLemmas.{Since}
use Rattle.hs_peerlog.specs.Heads.{KeepsHeader, LeavesHeader, own_head}
use Rattle.hs_peerlog.specs.Lists.{HasLog, IsKept, IsReady, Keeping}
use Rattle.hs_peerlog.specs.Views.{Viewing}
use Rattle.hs_ports.specs.declared.disk.Side.{Side}
use Rattle.hs_ports.specs.Disk.{IsImage, Standing}
use Rattle.hs_side.specs.declared.header.Header.{Header}
use Rattle.hs_side.specs.Headers.{own_header}
use Rattle.hs_taking.proofs.PastLemmas.{past_all, past_still, past_then, past_wait}
use Rattle.hs_taking.proofs.RunLemmas.{log_slot, of_or, view_slot}
use Rattle.hs_taking.specs.declared.slot.Slot.{Slot}
use Rattle.hs_taking.specs.declared.slot.Slot.TheVariants.{Aside, Viewed, Equal, Kept}
use Rattle.hs_taking.specs.declared.slot.Source.{Source}
use Rattle.hs_taking.specs.declared.slot.Source.TheVariants as source
use Rattle.hs_taking.specs.Disks.{DiskSeen, log_at, seen_at}
use Rattle.hs_taking.specs.Evens.{log_of, slot_of}
use Rattle.hs_taking.specs.Headed.{IsUnder, KeepsHeads, KeepsItsHeader, KeepTheirHeaders, OwnsLog, OwnTheirLogs}
use Rattle.hs_taking.specs.Pairs.{IsStill}
use Rattle.hs_taking.specs.Past.{PastStays}
use Rattle.hs_taking.specs.Slots.{AreSorted, IsSorted, IsSourceRun, log_in, slot_at}
use Rattle.hs_taking.specs.Viewed.{IsOnlyRead}

-- ---- a disk

-- nothing was called
pub header_still : (header : Header) (before : ℕ) (disk : Standing) → disk.last ≤ before → Since disk → LeavesHeader disk header → KeepsHeader before disk header
header_still header before disk last since leaves = record {
  each = λ m high fits image left. leaves image (record { sides = λ side. subst (λ l. IsImage l (image side)) (since side m (omega (arith, last, high))) (left side) });
  standing = leaves;
}

-- some calls, and then some
pub header_then : (header : Header) (before mid now : ℕ) (a b : Standing) → PastStays mid now a b → KeepsHeader before a header → KeepsHeader mid b header → KeepsHeader before b header
header_then header before mid now a b past one two = record {
  each = λ m high fits image left. elim (cases_lt mid m) [
    | inl above ↦ two.each m above fits image left
    | inr low ↦ one.each m high fits image (λ side. subst (λ l. IsImage l (image side)) (past.earlier side m low fits) (left side))
  ];
  standing = two.standing;
}

-- with its past
pub heads_still : (header : Header) (before now : ℕ) (disk : Standing) → before ≤ now → disk.last ≤ before → Since disk → LeavesHeader disk header → KeepsHeads header before now disk disk
heads_still header before now disk up last since leaves = record { past = past_still before now disk up last; keeps = header_still header before disk last since leaves }

pub heads_then : (header : Header) (before mid now : ℕ) (a b c : Standing) → KeepsHeads header before mid a b → KeepsHeads header mid now b c → KeepsHeads header before now a c
heads_then header before mid now a b c one two = record { past = past_then before mid now a b c one.past two.past; keeps = header_then header before mid now b c two.past one.keeps two.keeps }

-- ---- from where a stop left it so

pub its_none : (tells : Type 0) (header : Header) (now : ℕ) (disk : DiskSeen) → (tells → Since disk.stands) → KeepsItsHeader tells header now now disk disk
its_none tells header now disk since told last leaves = heads_still header now now disk.stands (omega arith) last (since told) leaves

pub its_then : (tells : Type 0) (header : Header) (before mid now : ℕ) (a b c : DiskSeen) → KeepsItsHeader tells header before mid a b → KeepsItsHeader tells header mid now b c → KeepsItsHeader tells header before now a c
its_then tells header before mid now a b c one two told last leaves =
    let first = one told last leaves in
    heads_then header before mid now a.stands b.stands c.stands first (two told first.past.last first.keeps.standing)

-- and then it was only read, while time went on
pub its_still : (tells : Type 0) (header : Header) (before mid now : ℕ) (a b c : DiskSeen) → mid ≤ now → KeepsItsHeader tells header before mid a b → IsStill tells b c → KeepsItsHeader tells header before now a c
its_still tells header before mid now a b c up one still told last leaves =
    let first = one told last leaves in
    subst (λ d. KeepsHeads header before now a.stands d) (sym (still.same told)) (record { past = past_wait before mid now a.stands b.stands up first.past; keeps = first.keeps })

pub its_read : (tells : Type 0) (header : Header) (before now : ℕ) (a b : DiskSeen) → IsOnlyRead tells before now a b → KeepsItsHeader tells header before now a b
its_read tells header before now a b read told last leaves =
    let all = read.moments told last in
    record {
      past = past_all before now a.stands b.stands all;
      keeps = record {
        each = λ m high fits image left. leaves image (record { sides = λ side. all.each side m high fits (image side) (left side) });
        standing = λ image left. leaves image (record { sides = λ side. all.standing side (image side) (left.sides side) });
      };
    }

-- ---- the disks of all peers

pub their_none : (tells : Type 0) (shape : Shape) (now : ℕ) (disks : List DiskSeen) → ((peer : ℕ) → tells → Since (seen_at disks peer).stands) → KeepTheirHeaders tells shape now now disks disks
their_none tells shape now disks since = record { each = λ peer. its_none tells (own_header shape peer) now (seen_at disks peer) (since peer) }

pub their_then : (tells : Type 0) (shape : Shape) (before mid now : ℕ) (old via new : List DiskSeen) → KeepTheirHeaders tells shape before mid old via → KeepTheirHeaders tells shape mid now via new → KeepTheirHeaders tells shape before now old new
their_then tells shape before mid now old via new one two = record {
  each = λ peer. its_then tells (own_header shape peer) before mid now (seen_at old peer) (seen_at via peer) (seen_at new peer) (one.each peer) (two.each peer);
}

-- each was only read
pub their_still : (tells : Type 0) (shape : Shape) (before mid now : ℕ) (old via new : List DiskSeen) → mid ≤ now → KeepTheirHeaders tells shape before mid old via → ((peer : ℕ) → IsStill tells (seen_at via peer) (seen_at new peer)) → KeepTheirHeaders tells shape before now old new
their_still tells shape before mid now old via new up one still = record {
  each = λ peer. its_still tells (own_header shape peer) before mid now (seen_at old peer) (seen_at via peer) (seen_at new peer) up (one.each peer) (still peer);
}

-- one was called, and each other one only read
pub their_called : (tells : Type 0) (shape : Shape) (before mid now : ℕ) (old via new : List DiskSeen) (place : ℕ) → mid ≤ now → KeepTheirHeaders tells shape before mid old via → KeepsItsHeader tells (own_header shape place) mid now (seen_at via place) (seen_at new place)
    → ((peer : ℕ) → peer ≢ place → IsStill tells (seen_at via peer) (seen_at new peer)) → KeepTheirHeaders tells shape before now old new
their_called tells shape before mid now old via new place up one called still = record {
  each = λ peer. elim (cases_eq peer place) [
    | inl same ↦ subst (λ p. KeepsItsHeader tells (own_header shape p) before now (seen_at old p) (seen_at new p)) (sym same)
        (its_then tells (own_header shape place) before mid now (seen_at old place) (seen_at via place) (seen_at new place) (one.each place) called)
    | inr differs ↦ its_still tells (own_header shape peer) before mid now (seen_at old peer) (seen_at via peer) (seen_at new peer) up (one.each peer) (still peer differs)
  ];
}

-- ---- logs

some_is : {A : Type 0} (x y : A) → Some x ≡ Some y → x ≡ y
some_is x y e = cc e

none_is_not : {A : Type 0} (x : A) → None ≡ Some x → ⊥
none_is_not x e = cc e

pub owns_none : (header : Header) → OwnsLog header None
owns_none header keeping at = absurd (none_is_not keeping at)

pub owns_some : (header : Header) (log : Keeping) → IsUnder header log → OwnsLog header (Some log)
owns_some header log own keeping at = subst (λ k. IsUnder header k) (some_is log keeping at) own

-- as it was recovered
pub under_found : (shape : Shape) (peer : ℕ) (seen : Side → List ℕ) (log : Keeping) → log.log.head ≡ Some (own_head shape peer seen) → IsUnder (own_header shape peer) log
under_found shape peer seen log head = ((own_head shape peer seen).1, head)

-- a log that may go on, and has nothing to seal, has some list
pub ready_kept : (tells : Type 0) (keeping : Keeping) (size : ℕ) (disk : Standing) → IsReady tells keeping size disk → keeping.waits ≡ None → tells → (list : Numbered) × IsKept keeping (disk.seen keeping.log.side) list None
ready_kept tells keeping size disk ready none told =
    let some = ready.told told in
    (some.list, go some.waiting some.kept)
  where
    go : (waiting : _) → IsKept keeping (disk.seen keeping.log.side) (ready.told told).list waiting → IsKept keeping (disk.seen keeping.log.side) (ready.told told).list None
    go None kept = kept
    go (Some entry) kept = absurd (none_is_not _ (sym none ∙ kept.waits.rank))

-- one slot was set
pub owns_set : (tells : Type 0) (shape : Shape) (slots : List Slot) (place : ℕ) (slot : Slot) → place < length slots → OwnTheirLogs tells shape (λ p. log_of (slot_at slots p)) → (tells → OwnsLog (own_header shape place) (log_of slot)) → OwnTheirLogs tells shape (λ p. log_of (slot_at (slice_set slots place slot) p))
owns_set tells shape slots place slot low owns own = record {
  each = λ told peer. elim (cases_eq peer place) [
    | inl same ↦ subst (λ p. OwnsLog (own_header shape p) (log_of (slot_at (slice_set slots place slot) p))) (sym same)
        (subst (λ (s : Slot). OwnsLog (own_header shape place) (log_of s)) (sym (get_or-set_same slots place slot Aside low)) (own told))
    | inr differs ↦ subst (λ (s : Slot). OwnsLog (own_header shape peer) (log_of s)) (sym (get_or-set_other slots place peer slot Aside differs)) (owns.each told peer)
  ];
}

-- views that were compared
pub owns_sorted : (tells T : Type 0) (header : Header) (a b b' : DiskSeen) (lost : _) (old new : Slot) → IsSorted tells a b b' lost old new → (T → OwnsLog header (log_of old)) → T → OwnsLog header (log_of new)
owns_sorted tells T header a b b' lost Aside new sorted owns told = subst (λ (s : Slot). OwnsLog header (log_of s)) (sym sorted) (owns told)
owns_sorted tells T header a b b' lost (Equal view) new sorted owns told = subst (λ (s : Slot). OwnsLog header (log_of s)) (sym sorted) (owns told)
owns_sorted tells T header a b b' lost (Kept log) new sorted owns told = subst (λ (s : Slot). OwnsLog header (log_of s)) (sym sorted) (owns told)
owns_sorted tells T header a b b' lost (Viewed view) Aside sorted owns told = owns told
owns_sorted tells T header a b b' lost (Viewed view) (Viewed same) sorted owns told = owns told
owns_sorted tells T header a b b' lost (Viewed view) (Equal same) sorted owns told = owns told
owns_sorted tells T header a b b' lost (Viewed view) (Kept log) sorted owns told = absurd sorted

-- ---- a log that was emptied, and got the entries of another

pub filled_headed : (tells : Type 0) (shape : Shape) (peer before mid now size : ℕ) (source : Standing) (a b c : DiskSeen) (taken copy : Keeping) → IsReady tells taken size source → taken.waits ≡ None
    → KeepsItsHeader tells (own_header shape peer) before mid a b → (tells → IsUnder (own_header shape peer) copy) → (tells → a.stands.last ≤ before → HasLog copy b.stands [] None)
    → (tells → b.stands.last ≤ mid → PastStays mid now b.stands c.stands)
    → (tells → b.stands.last ≤ mid → (list : Numbered) → IsKept taken (source.seen taken.log.side) list None → HasLog copy b.stands [] None → (head : Header × ℕ) → copy.log.head ≡ Some head → KeepsHeader mid c.stands head.0)
    → KeepsItsHeader tells (own_header shape peer) before now a c
filled_headed tells shape peer before mid now size source a b c taken copy ready none one own has past filled told last leaves =
    let first = one told last leaves in
    let kept = ready_kept tells taken size source ready none told in
    let under = own told in
    heads_then (own_header shape peer) before mid now a.stands b.stands c.stands first
    (record { past = past told first.past.last; keeps = filled told first.past.last kept.0 kept.1 (has told last) (own_header shape peer, under.0) under.1 })

-- ---- slots

-- of copies that were compared
pub owns_compared : (tells : Type 0) (shape : Shape) (shard from : ℕ) (old new : List DiskSeen) (slots slots' : List Slot) (lost : Bool) → AreSorted tells shape shard from (peer_of shape shard 0 + shape.copies) old new slots slots' lost
    → OwnTheirLogs tells shape (λ p. log_of (slot_at slots p)) → OwnTheirLogs tells shape (λ p. log_of (slot_at slots' p))
owns_compared tells shape shard from old new slots slots' lost sorted owns = record {
  each = λ told peer. elim (of_or shape shard peer) [
    | inl of ↦ owns_sorted tells tells (own_header shape peer) (seen_at old from) (seen_at old peer) (seen_at new peer) lost (slot_at slots peer) (slot_at slots' peer) (sorted.each peer of of.to) (λ told. owns.each told peer) told
    | inr not ↦ subst (λ (s : Slot). OwnsLog (own_header shape peer) (log_of s)) (sym (sorted.outside peer not).0) (owns.each told peer)
  ];
}

-- the taken log stays, or is lost
pub owns_source : (tells : Type 0) (header : Header) (before now : ℕ) (a a' : DiskSeen) (first last : Source) → IsSourceRun tells before now a a' first last → OwnsLog header (log_in first) → OwnsLog header (log_in last)
owns_source tells header before now a a' (source.Kept log) (source.Kept same) run owns = subst (λ k. OwnsLog header (Some k)) (sym run.0) owns
owns_source tells header before now a a' (source.Kept log) (source.Lost moment) run owns = owns_none header
owns_source tells header before now a a' (source.Lost moment) (source.Kept log) run owns = absurd run
owns_source tells header before now a a' (source.Lost moment) (source.Lost same) run owns = owns_none header

-- before any log was recovered
pub owns_views : (tells : Type 0) (shape : Shape) (views : List (Option Viewing)) → OwnTheirLogs tells shape (λ p. log_of (slot_at (map slot_of views) p))
owns_views tells shape views = record {
  each = λ told peer. subst (λ (s : Slot). OwnsLog (own_header shape peer) (log_of s)) (sym (view_slot views peer)) (none (own_header shape peer) (slice_index_or views peer None));
}
  where
    none : (header : Header) (view : Option Viewing) → OwnsLog header (log_of (slot_of view))
    none header None = owns_none header
    none header (Some view) = owns_none header

-- and behind all
pub owns_logs : (tells : Type 0) (shape : Shape) (slots : List Slot) (logs : List (Option Keeping)) → logs ≡ map log_of slots → OwnTheirLogs tells shape (λ p. log_of (slot_at slots p)) → OwnTheirLogs tells shape (λ p. log_at logs p)
owns_logs tells shape slots logs are owns = record {
  each = λ told peer. subst (λ o. OwnsLog (own_header shape peer) o) (sym (ap (λ ls. log_at ls peer) are ∙ log_slot slots peer)) (owns.each told peer);
}
