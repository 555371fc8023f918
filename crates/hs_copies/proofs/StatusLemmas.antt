-- What a new status changes: that peer, and the view of its shard where a peer becomes good or ceases to be.
use Rattle.std.proofs.Common.{◌≡◌, ◌≢◌, ℕ, suc, ◌+◌, ◌*◌, ◌-◌, ◌/◌, ◌≤◌, ◌<◌, Bool, true, false, if◌then◌else◌, refl, arith, length, ap, ◌∙◌}
use Rattle.std.proofs.Math.Nat.{div-mul-le_self, lt-div-mul-add}
use Rattle.std.proofs.lemmas.List.{get_or-set_other, get_or-set_same, length-set}
use Rattle.std.proofs.lemmas.Nat.{div-mul-add}
use Rattle.std.specs.Prelude.{slice_index, slice_set}
use Rattle.hs_limits.specs.declared.limits.PeerStatus.{PeerStatus}
use Rattle.hs_limits.specs.declared.limits.PeerStatus.TheVariants.{Down}
use Rattle.hs_members.specs.Members.{IsMembers, IsPeer, IsShard, Members, become, changes_good, home_of, status, view_of}
use Rattle.hs_replica.specs.Group.{Group, IsHome, first_peer}

-- a peer of the shard is a peer of the store, and the shard is its home
pub home_peer : (group : Group) (p : ℕ) → IsShard group.shape group.shard → IsHome group p → IsPeer group.shape p
home_peer group p s h =
    omega (arith, h.1, rows group.shape.shards group.shard group.shape.copies s)
  where
    rows : (n k w : ℕ) → k < n → k * w + w ≤ n * w
    rows n k w l = grind (arith, l)

pub home_shard : (group : Group) (p : ℕ) → IsHome group p → home_of group.shape p ≡ group.shard
home_shard group p h =
    let e : p ≡ group.shard * group.shape.copies + (p - first_peer group) = omega (arith, h.0) in
    ap (λ k. k / group.shape.copies) e ∙ div-mul-add group.shard group.shape.copies (p - first_peer group) (omega (arith, h.0, h.1))

pub other_shard : (group : Group) (p : ℕ) → 0 < group.shape.copies → (IsHome group p → ⊥) → home_of group.shape p ≢ group.shard
other_shard group p some n e =
    let low : group.shard * group.shape.copies ≤ p = rw e at (div-mul-le_self p group.shape.copies) in
    let high : p < group.shard * group.shape.copies + group.shape.copies = rw e at (lt-div-mul-add {a = p} {b = group.shape.copies} some) in
    n (omega (arith, low), omega (arith, high))

-- ---- a new status

pub become_members : (p : ℕ) (new : PeerStatus) (m : Members) → IsMembers m → IsMembers (become p new m)
become_members p new m k = record { shape = k.shape; views = which (changes_good (status p m) new); statuses = length-set m.statuses p new ∙ k.statuses }
  where
    which : (b : Bool) → length (if b then slice_set m.views (home_of m.shape p) (view_of (home_of m.shape p) m + 1) else m.views) ≡ m.shape.shards
    which true = length-set m.views _ _ ∙ k.views
    which false = k.views

pub become_here : (p : ℕ) (new : PeerStatus) (m : Members) → IsMembers m → IsPeer m.shape p → status p (become p new m) ≡ new
become_here p new m k h = get_or-set_same m.statuses p new Down (omega (arith, h, k.statuses))

pub become_other : (p q : ℕ) (new : PeerStatus) (m : Members) → q ≢ p → status q (become p new m) ≡ status q m
become_other p q new m n = get_or-set_other m.statuses p q new Down n

-- the view of a shard where a peer of it becomes good or ceases to be
pub view_rises : (p shard : ℕ) (new : PeerStatus) (m : Members) → IsMembers m → IsShard m.shape shard → home_of m.shape p ≡ shard
    → changes_good (status p m) new ≡ true → view_of shard (become p new m) ≡ suc (view_of shard m)
view_rises p shard new m k s e t =
    rw (t, e) (get_or-set_same m.views shard (view_of shard m + 1) 0 (omega (arith, s, k.views)) ∙ omega arith)

pub view_stays : (p shard : ℕ) (new : PeerStatus) (m : Members) → changes_good (status p m) new ≡ false → view_of shard (become p new m) ≡ view_of shard m
view_stays p shard new m t = rw t refl

pub view_elsewhere : (p shard : ℕ) (new : PeerStatus) (m : Members) → shard ≢ home_of m.shape p → view_of shard (become p new m) ≡ view_of shard m
view_elsewhere p shard new m n = which (changes_good (status p m) new)
  where
    which : (b : Bool) → slice_index (if b then slice_set m.views (home_of m.shape p) (view_of (home_of m.shape p) m + 1) else m.views) shard ≡ slice_index m.views shard
    which true = get_or-set_other m.views (home_of m.shape p) shard (view_of (home_of m.shape p) m + 1) 0 n
    which false = refl
