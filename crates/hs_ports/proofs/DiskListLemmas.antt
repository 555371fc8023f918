-- How what calls leave at every moment is put together over several disks under one watch.
use Rattle.std.proofs.Common.{◌≡◌, ◌≢◌, ◌∙◌, ◌⊎◌, inl, inr, ℕ, ◌<◌, ◌≤◌, List, [], ◌∷◌, length, map, zero, suc, get_or, refl, ap, arith}
use Rattle.std.specs.Prelude.{slice_set}
use Rattle.std.proofs.lemmas.List.{get_or-set_same, get_or-set_other, get_or-map, length-map, map-set}
use Rattle.std.proofs.Math.ListN.{length-set}
use Rattle.hs_ports.specs.declared.disk.Side.{Side}
use Rattle.hs_ports.specs.Disk.{IsImage, Standing}
use Rattle.hs_ports.specs.MemoryDisk.{untold}
use Rattle.hs_ports.specs.Moments.{EachMoment, EachMomentOfOne, EachMomentOfAll, disk_at}
use Rattle.hs_ports.proofs.MomentLemmas.{stayed, then_run, weaker}

-- at a moment after its last call each disk of a list has what it may leave now
pub since_all : {D : Type 0} (stands : D → Standing) (disks : List D)
    → ((disk : D) (s : Side) (m : ℕ) → (stands disk).last < m → (stands disk).past m s ≡ (stands disk).loose s)
    → (k : ℕ) (s : Side) (m : ℕ) → (disk_at (map stands disks) k).last < m
    → (disk_at (map stands disks) k).past m s ≡ (disk_at (map stands disks) k).loose s
since_all stands [] since k s m later = refl
since_all stands (disk ∷ disks) since zero s m later = since disk s m later
since_all stands (disk ∷ disks) since (suc k) s m later = since_all stands disks since k s m later

-- one disk of the list was replaced by what it became
pub of_one : (before now i : ℕ) (side : Side) (old new : List Standing) (disk : Standing)
    (P : List ℕ → Type 0)
    → i < length old
    → new ≡ slice_set old i disk
    → EachMoment before now side (disk_at old i) disk P
    → EachMomentOfOne before now i side old new P
of_one before now i side old new disk P low is run = rw is (record {
  count = length-set old i disk;
  acts = rw (get_or-set_same old i disk untold low) run;
  others = λ k differs. get_or-set_other old i k disk untold differs;
})

-- one run on a disk and then another on the same
pub one_then : (first middle last i : ℕ) (side : Side) (a b c : List Standing) (P : List ℕ → Type 0)
    → EachMomentOfOne first middle i side a b P
    → EachMomentOfOne middle last i side b c P
    → EachMomentOfOne first last i side a c P
one_then first middle last i side a b c P one two = record {
  count = two.count ∙ one.count;
  acts = then_run two.acts one.acts;
  others = λ k differs. two.others k differs ∙ one.others k differs;
}

-- nothing was called yet on any of them
pub all_begun : (now : ℕ) (side : ℕ → Side) (disks : List Standing) (P : ℕ → List ℕ → Type 0)
    → ((k : ℕ) → k < length disks → (disk_at disks k).last ≤ now)
    → ((k : ℕ) (s : Side) (m : ℕ) → (disk_at disks k).last < m
    → (disk_at disks k).past m s ≡ (disk_at disks k).loose s)
    → ((k : ℕ) → k < length disks → (c : List ℕ) → IsImage ((disk_at disks k).loose (side k)) c → P k c)
    → EachMomentOfAll now now side disks disks P
all_begun now side disks P last since holds = record {
  count = refl;
  later = omega arith;
  each = λ k low. stayed (omega arith) (last k low) (since k (side k)) (holds k low);
}

same_or_not : (m n : ℕ) → (m ≡ n) ⊎ (m ≢ n)
same_or_not m n = grind arith

-- calls on one of them more
pub all_go_on : (before mid now i : ℕ) (side : ℕ → Side) (old disks new : List Standing) (P : ℕ → List ℕ → Type 0)
    → EachMomentOfAll before mid side old disks P
    → EachMomentOfOne mid now i (side i) disks new (P i)
    → ((k : ℕ) (s : Side) (m : ℕ) → (disk_at disks k).last < m
    → (disk_at disks k).past m s ≡ (disk_at disks k).loose s)
    → EachMomentOfAll before now side old new P
all_go_on before mid now i side old disks new P run one since =
    let later = run.later in
    let on = one.acts.later in
    let goes : (k : ℕ) → k < length old → EachMoment mid now (side k) (disk_at disks k) (disk_at new k) (P k) = λ k low.
    elim (same_or_not k i) [
      | inl is ↦ rw is one.acts
      | inr differs ↦ rw (one.others k differs) (stayed on (run.each k low).last (since k (side k)) (run.each k low).standing)
    ] in
    record {
      count = one.count ∙ run.count;
      later = omega arith;
      each = λ k low. then_run (goes k low) (run.each k low);
    }

-- one run on all of them and then another
pub all_then : (first middle last : ℕ) (side : ℕ → Side) (a b c : List Standing) (P : ℕ → List ℕ → Type 0)
    → EachMomentOfAll first middle side a b P
    → EachMomentOfAll middle last side b c P
    → EachMomentOfAll first last side a c P
all_then first middle last side a b c P one two =
    let later = one.later in
    let on = two.later in
    let same = one.count in
    record {
      count = two.count ∙ one.count;
      later = omega arith;
      each = λ k low. then_run (two.each k (omega arith)) (one.each k low);
    }

-- what has P has Q
pub all_weaker : (before now : ℕ) (side : ℕ → Side) (old new : List Standing) (P Q : ℕ → List ℕ → Type 0)
    → ((k : ℕ) (c : List ℕ) → P k c → Q k c)
    → EachMomentOfAll before now side old new P
    → EachMomentOfAll before now side old new Q
all_weaker before now side old new P Q follows run = record {
  count = run.count;
  later = run.later;
  each = λ k low. weaker (run.each k low) (follows k);
}

-- the disk of a list that is lent to a run; `other` is any disk
pub lent : {D : Type 0} (stands : D → Standing) (disks : List D) (i : ℕ) (other : D)
    → i < length disks
    → disk_at (map stands disks) i ≡ stands (get_or disks i other)
lent stands disks i other low = get_or-map stands disks i other untold low

-- and put back as it became
pub of_lent : {D : Type 0} (stands : D → Standing) (before now i : ℕ) (side : Side) (disks disks' : List D)
    (other disk' : D) (P : List ℕ → Type 0)
    → i < length disks
    → disks' ≡ slice_set disks i disk'
    → EachMoment before now side (stands (get_or disks i other)) (stands disk') P
    → EachMomentOfOne before now i side (map stands disks) (map stands disks') P
of_lent stands before now i side disks disks' other disk' P low put run =
    let size = length-map disks stands in
    let set_there : map stands disks' ≡ slice_set (map stands disks) i (stands disk')
    = ap (map stands) put ∙ map-set stands disks i disk' in
    of_one before now i side (map stands disks) (map stands disks') (stands disk') P (rw size low) set_there
    (rw (lent stands disks i other low) run)
