-- The least known number, and that it never falls.
use Rattle.std.proofs.Common.{◌≡◌, ℕ, zero, suc, ◌+◌, ◌-◌, ◌<◌, ◌≤◌, Bool, true, false, List, [], ◌∷◌, length, max, Option, Some, None, slice_index_or, slice_set, arith, refl, ap, sym, ◌∙◌, if◌then◌else◌}
use Rattle.std.specs.Option.{IfSome, IsSome, option_map_or}
use Rattle.hs_entry.specs.declared.entry.Entry.{Entry}
use Rattle.hs_entry.specs.declared.entry.Entry.TheVariants.{View}
use Rattle.hs_members.specs.Members.{Members, is_good_status, status, view_of}
use Rattle.hs_replica.specs.declared.replica.Replica.{Replica}
use Rattle.hs_replica.specs.Front.{HaveSealed}
use Rattle.hs_replica.specs.Group.{Group, IsGroup, commit_front, committed, copy_of, first_peer, hears, is_peer, lead, lead_takes, least_known, lower, no_copy, on_append, on_copied, on_emptied, on_have, on_sealed, on_view, propose, renew, take_committed, takes, tell_from}

-- ---- one copy changes

-- another copy that is good alike and known alike
same_at : (cs : List Replica) (i : ℕ) (new : Replica) → new.good ≡ (slice_index_or cs i no_copy).good → new.known ≡ (slice_index_or cs i no_copy).known
    → least_known (slice_set cs i new) ≡ least_known cs
same_at [] i new g k = refl
same_at (c ∷ cs) zero new g k = rw (g, k) refl
same_at (c ∷ cs) (suc i) new g k = ap (λ r. if c.good then Some (lower c.known r) else r) (same_at cs i new g k)

-- a number stays or rises, if there is one
abbrev NoLower : Option ℕ → Option ℕ → Type 0
NoLower None None = Unit
NoLower None (Some y) = ⊥
NoLower (Some x) None = ⊥
NoLower (Some x) (Some y) = x ≤ y

no_lower_same : (o : Option ℕ) → NoLower o o
no_lower_same None = tt
no_lower_same (Some x) = omega arith

no_lower_least : (x y : ℕ) (o p : Option ℕ) → x ≤ y → NoLower o p → lower x o ≤ lower y p
no_lower_least x y None None l n = l
no_lower_least x y (Some a) (Some b) l n = omega (arith, l, n)
no_lower_least x y None (Some b) l n = absurd n
no_lower_least x y (Some a) None l n = absurd n

no_lower_front : (o p : Option ℕ) → NoLower o p → option_map_or (λ n. n) o 0 ≤ option_map_or (λ n. n) p 0
no_lower_front None None n = omega arith
no_lower_front (Some a) (Some b) n = n
no_lower_front None (Some b) n = absurd n
no_lower_front (Some a) None n = absurd n

-- another copy that is good alike and of which no less is known
rise_at : (cs : List Replica) (i : ℕ) (new : Replica) → new.good ≡ (slice_index_or cs i no_copy).good → (slice_index_or cs i no_copy).known ≤ new.known
    → NoLower (least_known cs) (least_known (slice_set cs i new))
rise_at [] i new g k = tt
rise_at (c ∷ cs) zero new g k = rw g (go c.good)
  where
    go : (b : Bool) → NoLower (if b then Some (lower c.known (least_known cs)) else least_known cs) (if b then Some (lower new.known (least_known cs)) else least_known cs)
    go true = no_lower_least c.known new.known (least_known cs) (least_known cs) k (no_lower_same (least_known cs))
    go false = no_lower_same (least_known cs)
rise_at (c ∷ cs) (suc i) new g k = go c.good (rise_at cs i new g k)
  where
    go : (b : Bool) → NoLower (least_known cs) (least_known (slice_set cs i new))
        → NoLower (if b then Some (lower c.known (least_known cs)) else least_known cs) (if b then Some (lower c.known (least_known (slice_set cs i new))) else least_known (slice_set cs i new))
    go true n = no_lower_least c.known c.known (least_known cs) (least_known (slice_set cs i new)) (omega arith) n
    go false n = n

-- ---- the calls

abbrev front_of : List Replica → ℕ
front_of cs = option_map_or (λ n. n) (least_known cs) 0

lead_takes_front : (o : Option ℕ) (entry : Entry) (group : Group) → commit_front (lead_takes o entry group) ≡ commit_front group
lead_takes_front None entry group = refl
lead_takes_front (Some l) entry group = ap (λ o. option_map_or (λ n. n) o 0) (same_at group.copies (l - first_peer group) _ refl refl)

pub proposed_front : (entry : Entry) (group : Group) → commit_front (propose entry group) ≡ commit_front group
proposed_front entry group = lead_takes_front (lead group) entry group

pub appended_front : (peer view number : ℕ) (entry : Entry) (group : Group) → commit_front (on_append peer view number entry group) ≡ commit_front group
appended_front peer view number entry group = go (takes peer view number group) refl
  where
    go : (b : Bool) → takes peer view number group ≡ b → commit_front (on_append peer view number entry group) ≡ commit_front group
    go true e = rw e (lead_takes_front (Some peer) entry group)
    go false e = rw e refl

pub sealed_front : (peer number : ℕ) (group : Group) → commit_front group ≤ commit_front (on_sealed peer number group)
sealed_front peer number group = no_lower_front _ _ (rise_at group.copies (peer - first_peer group) _ refl (go (is_peer peer (lead group))))
  where
    go : (b : Bool) → (copy_of group peer).known ≤ (if b then max (copy_of group peer).known number else (copy_of group peer).known)
    go true = omega arith
    go false = omega arith

pub heard_front : (peer view sealed : ℕ) (group : Group) → commit_front group ≤ commit_front (on_have peer view sealed group)
heard_front peer view sealed group = go (hears peer view group) refl
  where
    go : (b : Bool) → hears peer view group ≡ b → commit_front group ≤ commit_front (on_have peer view sealed group)
    go true e = rw e (no_lower_front _ _ (rise_at group.copies (peer - first_peer group) _ refl (omega arith)))
    go false e = rw e (omega arith)

pub taken_front : (group : Group) → commit_front (take_committed group) ≡ commit_front group
taken_front group = go (committed group) refl
  where
    go : (o : Option (ℕ × Entry)) → committed group ≡ o → commit_front (take_committed group) ≡ commit_front group
    go None e = rw e refl
    go (Some x) e = rw e refl

pub emptied_front : (peer : ℕ) (group : Group) → commit_front (on_emptied peer group) ≡ commit_front group
emptied_front peer group = ap (λ o. option_map_or (λ n. n) o 0) (same_at group.copies (peer - first_peer group) _ refl refl)

pub copied_front : (peer number : ℕ) (group : Group) → commit_front (on_copied peer number group) ≡ commit_front group
copied_front peer number group = ap (λ o. option_map_or (λ n. n) o 0) (same_at group.copies (peer - first_peer group) _ refl refl)

-- ---- a new view

lower_low : (f x : ℕ) (o : Option ℕ) → f ≤ x → IfSome o (λ n. f ≤ n) → f ≤ lower x o
lower_low f x None l h = l
lower_low f x (Some y) l h = omega (arith, l, h)

-- where each good one has sealed up to there, so much is known of each
all_low : (members : Members) (peer f : ℕ) (cs : List Replica)
    → ((i p : ℕ) → p ≡ peer + i → i < length cs → is_good_status (status p members) ≡ true → f ≤ (slice_index_or cs i no_copy).sealed)
    → IfSome (least_known (tell_from members peer cs)) (λ n. f ≤ n)
all_low members peer f [] h = tt
all_low members peer f (c ∷ cs) h = go (is_good_status (status peer members)) refl (all_low members (peer + 1) f cs (λ i p e l t. h (suc i) p (omega arith) (omega arith) t))
  where
    go : (b : Bool) → is_good_status (status peer members) ≡ b → IfSome (least_known (tell_from members (peer + 1) cs)) (λ n. f ≤ n)
        → IfSome (least_known (tell_from members peer (c ∷ cs))) (λ n. f ≤ n)
    go true e r = rw e (lower_low f c.sealed (least_known (tell_from members (peer + 1) cs)) (h 0 peer (omega arith) (omega arith) e) r)
    go false e r = rw e r

-- where one is good there is a least
one_found : (members : Members) (peer i p : ℕ) (cs : List Replica) → p ≡ peer + i → i < length cs → is_good_status (status p members) ≡ true
    → IsSome (least_known (tell_from members peer cs))
one_found members peer i p [] e l t = absurd (omega arith)
one_found members peer zero p (c ∷ cs) e l t =
    let here : p ≡ peer = omega arith in let good : is_good_status (status peer members) ≡ true = rw here at t in rw good refl
one_found members peer (suc i) p (c ∷ cs) e l t = go (is_good_status (status peer members)) refl (one_found members (peer + 1) i p cs (omega arith) (omega arith) t)
  where
    go : (b : Bool) → is_good_status (status peer members) ≡ b → IsSome (least_known (tell_from members (peer + 1) cs))
        → IsSome (least_known (tell_from members peer (c ∷ cs)))
    go true f r = rw f refl
    go false f r = rw f r

low_front : (f : ℕ) (o : Option ℕ) → IsSome o → IfSome o (λ n. f ≤ n) → f ≤ option_map_or (λ n. n) o 0
low_front f None s h = let wrong : false ≡ true = s in cc
low_front f (Some x) s h = h

pub view_front : (members : Members) (group : Group) → IsGroup group → HaveSealed members group → commit_front group ≤ commit_front (on_view members group)
view_front members group valid h =
    let same : commit_front (on_view members group) ≡ commit_front (renew members group) = proposed_front (View (view_of group.shard members)) (renew members group) in
    rw same (low_front (commit_front group) (least_known (tell_from members (first_peer group) group.copies))
    (one_found members (first_peer group) (h.peer - first_peer group) h.peer group.copies (omega (arith, h.some.home.0)) (omega (arith, valid.copies, h.some.home.0, h.some.home.1)) h.some.good)
    (all_low members (first_peer group) (commit_front group) group.copies (λ i p e l t. all i p e l t)))
  where
    all : (i p : ℕ) → p ≡ first_peer group + i → i < length group.copies → is_good_status (status p members) ≡ true
        → commit_front group ≤ (slice_index_or group.copies i no_copy).sealed
    all i p e l t =
        let place : p - first_peer group ≡ i = omega arith in
        rw place at (h.all p (record { home = (omega (arith, e), omega (arith, e, l, valid.copies)); good = t }))
