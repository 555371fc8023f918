-- Calls on a disk, one after another, and an empty log that gets the entries of another.
use Rattle.std.proofs.Common.{◌≡◌, ◌∙◌, ap, sym, subst, inl, inr, ℕ, ◌+◌, ◌<◌, ◌≤◌, [], ◌∷◌, ◌++◌, take, Option, Some, None, refl, arith}
use Rattle.std.proofs.lemmas.Bool.{cases_lt}
use Rattle.std.specs.Prelude.{Err, Ok, Result}
use Rattle.hs_entry.specs.declared.entry.Entry.{Entry}
use Rattle.hs_entry.specs.declared.entry.Entry.TheVariants as kind
use Rattle.hs_entry.specs.declared.rank.Rank.{Rank}
use Rattle.hs_entry.specs.Entries.{rank_after, rank_of}
use Rattle.hs_entry.specs.Reading.{IsReadable}
use Rattle.hs_fold.specs.Shards.Setting.{Numbered}
use Rattle.hs_peerlog.proofs.ImageLemmas.{Since, image-is, list-same}
use Rattle.hs_peerlog.proofs.StayLemmas.{stays}
use Rattle.hs_peerlog.specs.Images.{GivesList, IsAlone, IsAny, IsOne, LeavesEach, LeavesOnly}
use Rattle.hs_peerlog.specs.Lists.{HasLog, IsKept, IsNumbered, Keeping, numbered_entry, with_waiting}
use Rattle.hs_ports.specs.declared.disk.Side.{Side}
use Rattle.hs_ports.specs.Disk.{IsImage, Standing}
use Rattle.hs_ports.specs.Fault.{HasRisen, IsCausedBy}
use Rattle.hs_peerlog.specs.Caused.{IsOutside}
use Rattle.hs_peerlog.specs.declared.fault.LogFault.{LogFault}
use Rattle.hs_peerlog.specs.declared.fault.LogFault.TheVariants.{NotALog, WrongShape, Disk, NoMemory}
use Rattle.hs_side.specs.Current.{list_in}
use Rattle.hs_taking.proofs.PairLemmas.{still_none}
use Rattle.hs_taking.proofs.PastLemmas.{past_then}
use Rattle.hs_taking.specs.declared.pair.PairFault.{PairFault}
use Rattle.hs_taking.specs.declared.pair.PairFault.TheVariants as pair
use Rattle.hs_taking.specs.Pairs.{HasEmptied, HasFilled, HasMadeEqual, IsPairFault, other_fault, taken_fault}
use Rattle.hs_taking.specs.Past.{PastStays}
use Rattle.hs_taking.proofs.LoadLemmas.{count_is, next_is, none_past}
use Rattle.hs_taking.specs.Copies.{IsOwnOrFront, fronts}
use Rattle.hs_taking.specs.Disks.{DiskSeen}

-- ---- calls one after another

pub each_weak : {before now : ℕ} {a b : Standing} {P Q : Numbered → Type 0} → ((list : Numbered) → P list → Q list) → LeavesEach before now a b P → LeavesEach before now a b Q
each_weak {P = P} {Q = Q} weak one = record {
  later = one.later;
  last = one.last;
  earlier = one.earlier;
  each = λ m high fits image left. gives image (one.each m high fits image left);
  standing = λ image left. gives image (one.standing image left);
}
  where
    gives : (image : _) → GivesList P image → GivesList Q image
    gives image g = record { list = g.list; read = g.read; holds = weak g.list g.holds }

pub each_then : {before mid now : ℕ} {a b c : Standing} {P : Numbered → Type 0} → LeavesEach before mid a b P → LeavesEach mid now b c P → LeavesEach before now a c P
each_then {before} {mid} {now} {a} {b} {c} {P} one two = record {
  later = let l = one.later in let m = two.later in omega (arith, l, m);
  last = two.last;
  earlier = λ side m low fits. two.earlier side m (let l = one.later in omega (arith, low, l)) fits ∙ one.earlier side m low fits;
  each = λ m high fits image left. elim (cases_lt mid m) [
    | inl above ↦ two.each m above fits image left
    | inr le ↦ one.each m high fits image (λ side. subst (λ l. IsImage l (image side)) (two.earlier side m le fits) (left side))
  ];
  standing = two.standing;
}

-- ---- entries

pub readable_number : (rank : Rank) (number : ℕ) (entry : Entry) → IsReadable entry → (rank_after rank number entry).number ≡ number
readable_number rank number (kind.View view) r = refl
readable_number rank number (kind.Block op least bytes) r = refl
readable_number rank number (kind.Mark op least block address) r = refl
readable_number rank number (kind.Root op held address key) r = refl
readable_number rank number (kind.Drop op key) r = refl
readable_number rank number (kind.Enter op epoch) r = refl
readable_number rank number (kind.Got sender epoch round total deltas) r = refl
readable_number rank number (kind.Base view epoch swept round frames) r = absurd r
readable_number rank number (kind.KeptBlock born mark flags count bytes) r = absurd r
readable_number rank number (kind.KeptRoot created dropped counted address key) r = absurd r
readable_number rank number (kind.KeptRound way other epoch round total deltas) r = absurd r

-- there is one of each number up to the last
pub entry_there : (list : Numbered) (i : ℕ) → IsNumbered list → i < (rank_of list).number → (entry : Entry) × (numbered_entry list (i + 1) ≡ Some entry)
entry_there list i numbered low = go (numbered_entry list (i + 1)) refl
  where
    go : (o : Option Entry) → numbered_entry list (i + 1) ≡ o → (entry : Entry) × (numbered_entry list (i + 1) ≡ Some entry)
    go (Some entry) is = (entry, is)
    go None is = let l = none_past list i numbered is in let c = count_is list numbered in absurd (omega (arith, low, l, c))

pub none_listed : (list : Numbered) → IsNumbered list → (rank_of list).number ≡ 0 → list ≡ []
none_listed [] numbered e = refl
none_listed (x ∷ xs) numbered e = let c = count_is (x ∷ xs) numbered in absurd (omega (arith, c, e))

-- an entry more
pub front_more : (list : Numbered) (i : ℕ) (entry : Entry) → IsNumbered list → numbered_entry list (i + 1) ≡ Some entry → (rank_of (take i list)).number ≡ i → with_waiting (take i list) entry ≡ take (i + 1) list
front_more list i entry numbered is last = ap (λ n. take i list ++ (n + 1, entry) ∷ []) last ∙ sym (next_is list i entry numbered is)

pub front_at : (list : Numbered) (n : ℕ) → IsAny (fronts list) (take n list)
front_at list n = record { at = n; same = refl }

pub one_of_fronts : (list : Numbered) (i : ℕ) (next l : Numbered) → next ≡ take (i + 1) list → IsOne (take i list) next l → IsAny (fronts list) l
one_of_fronts list i next l is (inl own) = record { at = i; same = own }
one_of_fronts list i next l is (inr more) = record { at = i + 1; same = more ∙ is }

-- what leaves one of a list and the empty one leaves the list or a front
pub own_or_empty : (own list l : Numbered) → IsOne own [] l → IsOwnOrFront own list l
own_or_empty own list l (inl same) = inl same
own_or_empty own list l (inr none) = inr (record { at = 0; same = none })

-- an empty log has the first front
pub none_filled : (now : ℕ) (disk : Standing) (list : Numbered) → disk.last ≤ now → Since disk → LeavesOnly disk [] → LeavesEach now now disk disk (IsAny (fronts list))
none_filled now disk list last since leaves = stays disk now [] (IsAny (fronts list)) last since leaves (front_at list 0)

-- what is kept of the entries in the log of a copy
pub has_last : (copy : Keeping) (disk : Standing) (list : Numbered) (i : ℕ) → HasLog copy disk list None → copy.rank.number ≡ i → (rank_of list).number ≡ i
has_last copy disk list i has is = ap (λ (r : Rank). r.number) (sym has.kept.rank) ∙ is

-- a disk that stands as it was viewed leaves the list that it reads as
pub viewed_only : (side : Side) (disk : Standing) (list : Numbered) → IsAlone side disk → list_in disk.seen ≡ Some list → LeavesOnly disk list
viewed_only side disk list alone e image left = list-same disk.seen image (image-is disk image alone.settled left.sides) ∙ e

-- ---- what makes a log equal to the taken one

abbrev failed : {T : Type 0} → LogFault → Result T LogFault
failed fault = Err fault

-- the other disk failed, and the first was not called
pub other_fails : {T : Type 0} (tells : Type 0) (a b b' : DiskSeen) (fault : LogFault) → (tells → IsOutside fault) → IsCausedBy Disk b.faults b'.faults (failed {T = T} fault) → IsPairFault tells a a b b' (other_fault fault)
other_fails tells a b b' (NotALog at) out cause = (refl, λ told. absurd (out told))
other_fails tells a b b' (WrongShape found) out cause = (refl, λ told. absurd (out told))
other_fails tells a b b' Disk out cause = (refl, λ told. cause.failed refl)
other_fails tells a b b' NoMemory out cause = tt

pub taken_fails : {T : Type 0} (tells : Type 0) (a a' b b' : DiskSeen) (fault : LogFault) → (tells → IsOutside fault) → IsCausedBy Disk a.faults a'.faults (failed {T = T} fault) → IsPairFault tells a a' b b' (taken_fault fault)
taken_fails tells a a' b b' (NotALog at) out cause = λ told. absurd (out told)
taken_fails tells a a' b b' (WrongShape found) out cause = λ told. absurd (out told)
taken_fails tells a a' b b' Disk out cause = λ told. cause.failed refl
taken_fails tells a a' b b' NoMemory out cause = tt

-- a fault behind calls that had none
pub fault_then : (tells : Type 0) (a a' b m b' : DiskSeen) (fault : PairFault) → m.faults ≡ b.faults → IsPairFault tells a a' m b' fault → IsPairFault tells a a' b b' fault
fault_then tells a a' b m b' pair.Taken calm is = is
fault_then tells a a' b m b' pair.Other calm is = (is.0, λ told. subst (λ n. HasRisen n b'.faults) calm (is.1 told))
fault_then tells a a' b m b' pair.NoMemory calm is = tt

-- it was emptied, and that failed
pub made_none : (tells : Type 0) (before now : ℕ) (a b b' : DiskSeen) (taken : Keeping) (fault : LogFault) (told : PairFault) → told ≡ other_fault fault → HasEmptied tells before now b b' (Err fault) → (tells → IsOutside fault)
    → IsCausedBy Disk b.faults b'.faults (failed {T = Keeping} fault) → before ≤ now → HasMadeEqual tells before now a a b b' taken (Err told)
made_none tells before now a b b' taken fault said is emptied out cause ticks = record {
  source = still_none tells a;
  has = tt;
  ready = tt;
  moments = λ told last list kept own e. each_weak (λ l one. own_or_empty own list l one) (emptied.moments told last own e);
  past = emptied.past;
  counted = cause.later;
  calm = tt;
  cause = subst (λ f. IsPairFault tells a a b b' f) (sym is) (other_fails {T = Keeping} tells a b b' fault out cause);
  ticks = ticks;
}

-- it was emptied and then filled, as far as that came
module _ (tells : Type 0) (before mid now : ℕ) (a a' b m b' : DiskSeen) (taken copy : Keeping) (emptied : HasEmptied tells before mid b m (Ok copy)) (filled : HasFilled tells mid now a a' m b' taken copy) where
  pub made_moments : tells → b.stands.last ≤ before → (list : Numbered) → IsKept taken (a.stands.seen taken.log.side) list None → (own : Numbered) → list_in b.stands.seen ≡ Some own
      → LeavesEach before now b.stands b'.stands (IsOwnOrFront own list)
  made_moments told last list kept own e =
      let first = emptied.moments told last own e in
      each_then (each_weak (λ l one. own_or_empty own list l one) first) (each_weak (λ l one. inr one) (filled.moments told first.last list kept (emptied.has told last)))

  pub made_past : tells → b.stands.last ≤ before → PastStays before now b.stands b'.stands
  made_past told last = let first = emptied.past told last in past_then before mid now b.stands m.stands b'.stands first (filled.past told first.last)
