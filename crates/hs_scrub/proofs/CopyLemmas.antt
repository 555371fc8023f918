-- Giving a disk the list of another.
use Rattle.std.proofs.Common.{◌≡◌, ◌≢◌, ◌∙◌, inl, inr, ap, sym, subst, ℕ, zero, suc, ◌+◌, ◌<◌, ◌≤◌, ◌++◌, List, [], ◌∷◌, take, map, length, Some, None, refl, arith}
use Rattle.std.proofs.lemmas.Bool.{cases_lt}
use Rattle.std.specs.Prelude.{slice_index_or, slice_set}
use Rattle.hs_entry.specs.declared.entry.Entry.{Entry}
use Rattle.hs_entry.specs.Entries.{IsPrefix}
use Rattle.hs_peerlog.proofs.ImageLemmas.{Since}
use Rattle.hs_peerlog.proofs.StayLemmas.{stays}
use Rattle.hs_peerlog.specs.Caused.{IsOutside}
use Rattle.hs_peerlog.specs.declared.fault.LogFault.{LogFault}
use Rattle.hs_peerlog.specs.declared.fault.LogFault.TheVariants as log
use Rattle.hs_peerlog.specs.Images.{GivesList, Is, IsOne, LeavesEach}
use Rattle.hs_peerlog.specs.Lists.{HasLog, Keeping, last_of, numbered_entry, with_waiting}
use Rattle.hs_peerlog.specs.Past.{PastStays}
use Rattle.hs_peerlog.specs.Views.{HasView, Viewing}
use Rattle.hs_ports.specs.declared.disk.Side.{Side}
use Rattle.hs_ports.specs.Disk.{IsImage, Standing}
use Rattle.hs_ports.specs.Fault.{HasRisen}
use Rattle.hs_scrub.proofs.StillLemmas.{still_none, still_then}
use Rattle.hs_scrub.specs.CopySteps.{AreCalm, Calls, IsFront, IsStopped}
use Rattle.hs_scrub.specs.declared.mark.PeerMark.{PeerMark}
use Rattle.hs_scrub.specs.declared.mark.PeerMark.TheVariants.{Same, Behind, Differs, NoLog, Fault}
use Rattle.hs_scrub.specs.Steps.{Counts, IsStill, mark_of}
use Rattle.hs_taking.proofs.DiskLemmas.{seen_here, seen_is, seen_there}
use Rattle.hs_taking.proofs.LoadLemmas.{next_is}
use Rattle.hs_taking.specs.Disks.{DiskSeen, seen_at}

-- ---- moments

gives_weaker : (P R : List (ℕ × Entry) → Type 0) → ((es : List (ℕ × Entry)) → P es → R es) → (image : Side → List ℕ) → GivesList P image → GivesList R image
gives_weaker P R f image g = record { list = g.list; read = g.read; holds = f g.list g.holds }

pub each_weaker : {before now : ℕ} {a b : Standing} (P R : List (ℕ × Entry) → Type 0) → ((es : List (ℕ × Entry)) → P es → R es) → LeavesEach before now a b P → LeavesEach before now a b R
each_weaker P R f one = record {
  later = one.later;
  last = one.last;
  earlier = one.earlier;
  each = λ m high fits image left. gives_weaker P R f image (one.each m high fits image left);
  standing = λ image left. gives_weaker P R f image (one.standing image left);
}

-- calls and then others
pub each_then : {before mid now : ℕ} {a b c : Standing} (R : List (ℕ × Entry) → Type 0) → LeavesEach before mid a b R → LeavesEach mid now b c R → LeavesEach before now a c R
each_then {before} {mid} R one two = record {
  later = let l = one.later in let m = two.later in omega (arith, l, m);
  last = two.last;
  earlier = λ side m low fits. two.earlier side m (let l = one.later in omega (arith, low, l)) fits ∙ one.earlier side m low fits;
  each = λ m high fits image left. elim (cases_lt mid m) [
    | inl above ↦ two.each m above fits image left
    | inr le ↦ one.each m high fits image (λ side. subst (λ l. IsImage l (image side)) (two.earlier side m le fits) (left side))
  ];
  standing = two.standing;
}

pub past_none : (now : ℕ) (disk : Standing) → disk.last ≤ now → PastStays now now disk disk
past_none now disk last = record { later = omega arith; last = last; earlier = λ side m low fits. refl }

pub past_then : {before mid now : ℕ} {a b c : Standing} → PastStays before mid a b → PastStays mid now b c → PastStays before now a c
past_then one two = record {
  later = let l = one.later in let m = two.later in omega (arith, l, m);
  last = two.last;
  earlier = λ side m low fits. two.earlier side m (let l = one.later in omega (arith, low, l)) fits ∙ one.earlier side m low fits;
}

-- ---- one disk

-- the old list, or that with one entry more
one_old : (list more es : List (ℕ × Entry)) → Is list es → IsOne list more es
one_old list more es is = inl is

pub append_each : {before now : ℕ} {a b : Standing} (list more : List (ℕ × Entry)) → LeavesEach before now a b (Is list) → LeavesEach before now a b (IsOne list more)
append_each list more one = each_weaker (Is list) (IsOne list more) (one_old list more) one

pub put_each : {before mid now : ℕ} {a b c : Standing} (list more : List (ℕ × Entry)) → LeavesEach before mid a b (Is list) → LeavesEach mid now b c (IsOne list more) → LeavesEach before now a c (IsOne list more)
put_each list more one two = each_then (IsOne list more) (append_each list more one) two

-- ---- fronts of a list

nothing_behind : (list : List (ℕ × Entry)) → list ++ [] ≡ list
nothing_behind [] = refl
nothing_behind (x ∷ list) = ap (λ ys. x ∷ ys) (nothing_behind list)

pub front_take : (n : ℕ) (whole : List (ℕ × Entry)) → IsPrefix (take n whole) whole
front_take zero whole = (whole, refl)
front_take (suc n) [] = ([], refl)
front_take (suc n) (x ∷ whole) = let f = front_take n whole in (f.0, ap (λ ys. x ∷ ys) f.1)

-- the entry behind the first ones
pub take_more : (whole : List (ℕ × Entry)) (index : ℕ) (e : Entry) (keeping : Keeping) (disk : Standing) (view : Viewing) (seen : Side → List ℕ) → HasView view seen whole → HasLog keeping disk (take index whole) None → index ≡ keeping.rank.number
    → numbered_entry whole (index + 1) ≡ Some e → with_waiting (take index whole) e ≡ take (index + 1) whole
take_more whole index e keeping disk view seen has own is found =
    let l : last_of (take index whole) ≡ index = sym (ap (λ r. r.number) own.kept.rank) ∙ sym is in
    ap (λ n. take index whole ++ (n + 1, e) ∷ []) l ∙ sym (next_is whole index e has.numbered found)

is_front : (whole list : List (ℕ × Entry)) (n : ℕ) → list ≡ take n whole → IsFront whole list
is_front whole list n is = record { front = subst (λ es. IsPrefix es whole) (sym is) (front_take n whole) }

pub front_one : (whole more : List (ℕ × Entry)) (index : ℕ) → more ≡ take (index + 1) whole → (es : List (ℕ × Entry)) → IsOne (take index whole) more es → IsFront whole es
front_one whole more index is es (inl same) = is_front whole es index same
front_one whole more index is es (inr same) = is_front whole es (index + 1) (same ∙ is)

pub front_is : (whole : List (ℕ × Entry)) (index : ℕ) → IsFront whole (take index whole)
front_is whole index = is_front whole (take index whole) index refl

-- ---- the disks

pub calls_none : (tells : Type 0) (from place now : ℕ) (disks : List DiskSeen) → Calls tells from place now now disks disks
calls_none tells from place now disks = record {
  source = still_none tells (seen_at disks from);
  read = omega arith;
  others = λ peer a b. refl;
  past = λ told last. past_none now (seen_at disks place).stands last;
  counted = omega arith;
  later = omega arith;
}

pub calls_then : (tells : Type 0) (from place before mid now : ℕ) (a b c : List DiskSeen) → Calls tells from place before mid a b → Calls tells from place mid now b c → Calls tells from place before now a c
calls_then tells from place before mid now a b c one two = record {
  source = still_then tells (seen_at a from) (seen_at b from) (seen_at c from) one.source two.source;
  read = let l = one.read in let m = two.read in omega (arith, l, m);
  others = λ peer x y. two.others peer x y ∙ one.others peer x y;
  past = λ told last. let p = one.past told last in past_then p (two.past told p.last);
  counted = let l = one.counted in let m = two.counted in omega (arith, l, m);
  later = let l = one.later in let m = two.later in omega (arith, l, m);
}

pub calm_both : (from place : ℕ) (a b c : List DiskSeen) → AreCalm from place a b → AreCalm from place b c → AreCalm from place a c
calm_both from place a b c one two = record { source = two.source ∙ one.source; target = two.target ∙ one.target }

-- a read of the source
pub calls_read : (tells : Type 0) (from place now : ℕ) (a b : List DiskSeen) → (from ≡ place → ⊥) → IsStill tells (seen_at a from) (seen_at b from) → (seen_at a from).faults ≤ (seen_at b from).faults
    → ((peer : ℕ) → peer ≢ from → seen_at b peer ≡ seen_at a peer) → Calls tells from place now now a b
calls_read tells from place now a b differ still up rest =
    let same : seen_at b place ≡ seen_at a place = rest place (λ is. differ (sym is)) in
    record {
      source = still;
      read = up;
      others = λ peer x y. rest peer x;
      past = λ told last. subst (λ (d : DiskSeen). PastStays now now (seen_at a place).stands d.stands) (sym same) (past_none now (seen_at a place).stands last);
      counted = let e = ap (λ (d : DiskSeen). d.faults) same in omega (arith, e);
      later = omega arith;
    }

-- calls on the disk that gets the list
pub calls_put : {A : Type 0} (f : A → DiskSeen) (tells : Type 0) (from place before now : ℕ) (disks : List A) (x d : A) → (from ≡ place → ⊥) → place < length disks
    → (tells → (f (slice_index_or disks place d)).stands.last ≤ before → PastStays before now (f (slice_index_or disks place d)).stands (f x).stands) → (f (slice_index_or disks place d)).faults ≤ (f x).faults → before ≤ now
    → Calls tells from place before now (map f disks) (map f (slice_set disks place x))
calls_put f tells from place before now disks x d differ low past up later =
    let was : f (slice_index_or disks place d) ≡ seen_at (map f disks) place = sym (seen_is f disks place d low) in
    let is : seen_at (map f (slice_set disks place x)) place ≡ f x = seen_here f disks place x low in
    let stays : seen_at (map f (slice_set disks place x)) from ≡ seen_at (map f disks) from = seen_there f disks place from x differ in
    record {
      source = subst (λ (s : DiskSeen). IsStill tells (seen_at (map f disks) from) s) (sym stays) (still_none tells (seen_at (map f disks) from));
      read = let e = ap (λ (s : DiskSeen). s.faults) stays in omega (arith, e);
      others = λ peer a b. seen_there f disks place peer x b;
      past = λ told last.
          subst (λ (s : DiskSeen). PastStays before now (seen_at (map f disks) place).stands s.stands) (sym is)
          (subst (λ (s : DiskSeen). PastStays before now s.stands (f x).stands) was (past told (subst (λ (s : DiskSeen). s.stands.last ≤ before) (sym was) last)));
      counted = let a = ap (λ (s : DiskSeen). s.faults) was in let b = ap (λ (s : DiskSeen). s.faults) is in omega (arith, a, b, up);
      later = later;
    }

-- what stopped it
pub stopped_by : (tells : Type 0) (has : List (ℕ × Entry) → Type 0) (before now : ℕ) (fault : LogFault) (mark : PeerMark) → mark_of fault ≡ Some mark → Counts before now fault → (tells → (list : List (ℕ × Entry)) → has list → IsOutside fault)
    → IsStopped tells has before now mark
stopped_by tells has before now fault mark is counts outside = go fault is counts outside
  where
    mark_is : (x y : PeerMark) → Some x ≡ Some y → x ≡ y
    mark_is x y e = cc e

    no_mark : (x : PeerMark) → None ≡ Some x → ⊥
    no_mark x e = cc e

    go : (f : LogFault) → mark_of f ≡ Some mark → Counts before now f → (tells → (list : List (ℕ × Entry)) → has list → IsOutside f) → IsStopped tells has before now mark
    go (log.NotALog at) e c out = subst (λ k. IsStopped tells has before now k) (mark_is (NoLog at) mark e) (c, λ told list h. out told list h)
    go (log.WrongShape found) e c out = subst (λ k. IsStopped tells has before now k) (mark_is (NoLog 6) mark e) (c, λ told list h. out told list h)
    go log.Disk e c out = subst (λ k. IsStopped tells has before now k) (mark_is Fault mark e) c
    go log.NoMemory e c out = absurd (no_mark mark e)

-- a stop behind other reads
pub stopped_then : (tells : Type 0) (P Q : List (ℕ × Entry) → Type 0) (before mid now : ℕ) (mark : PeerMark) → mid ≡ before → ((list : List (ℕ × Entry)) → tells → Q list → P list) → IsStopped tells P mid now mark → IsStopped tells Q before now mark
stopped_then tells P Q before mid now Same same from h = h
stopped_then tells P Q before mid now (Behind count) same from h = h
stopped_then tells P Q before mid now (Differs number) same from h = h
stopped_then tells P Q before mid now (NoLog at) same from h = (h.0 ∙ same, λ told list q. h.1 told list (from list told q))
stopped_then tells P Q before mid now Fault same from h = subst (λ n. HasRisen n now) same h

-- nothing was called
pub front_stays : (whole : List (ℕ × Entry)) (index : ℕ) (keeping : Keeping) (disk : Standing) (now : ℕ) → disk.last ≤ now → Since disk → HasLog keeping disk (take index whole) None → LeavesEach now now disk disk (IsFront whole)
front_stays whole index keeping disk now last since own = stays disk now (take index whole) (IsFront whole) last since own.leaves (front_is whole index)
