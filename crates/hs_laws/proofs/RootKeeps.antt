-- Other roots keep a store valid.
use Rattle.std.proofs.Common.{◌≡◌, ℕ, ◌+◌, ◌⊎◌, inl, inr, List, [], ◌∷◌, Bool, true, false, cond, Option, Some, None, is_none, refl, sym, ap, ◌∙◌, subst, nat_le, find, is_gt, bytes_eq}
use Rattle.std.proofs.lemmas.Bool.{and_parts}
use Rattle.std.proofs.lemmas.Slice.Eq.{bytes_eq-Decides}
use Rattle.hs_limits.specs.declared.address.Address.{Address}
use Rattle.hs_model.specs.Judge.{roots_with, drop_root}
use Rattle.hs_model.specs.Reach.{anchors, counts_in}
use Rattle.hs_model.specs.Store.{Store, Root, root_cmp, root_epoch, place_root, without_first, is_retained, retained_at, with_roots}
use Rattle.hs_laws.specs.Valid.{least_epoch, rests_on, stands_in}
use Rattle.hs_model.proofs.Members.{Member}
use Rattle.hs_laws.proofs.PromiseLemmas.{root_anchored}
use Rattle.hs_model.proofs.ReachLemmas.{start, Reaches}
use Rattle.hs_laws.proofs.ValidLemmas.{starts-root, starts-given, starts-each, Reaches-more, Valid}

-- ---- members of placed and left roots

pub member_of_place : (root : Root) (roots : List Root) (x : Root) → Member x (place_root root roots) → (x ≡ root) ⊎ Member x roots
member_of_place root [] x (inl e) = inl e
member_of_place root [] x (inr n) = elim n [ ]
member_of_place root (r ∷ roots) x n = go (member_of_place root roots x) (is_gt (root_cmp root r)) n
  where
    go : (Member x (place_root root roots) → (x ≡ root) ⊎ Member x roots) → (b : Bool) → Member x (cond b (r ∷ place_root root roots) (root ∷ r ∷ roots)) → (x ≡ root) ⊎ Member x (r ∷ roots)
    go ih true (inl e) = inr (inl e)
    go ih true (inr k) = elim (ih k) [ inl e ↦ inl e | inr q ↦ inr (inr q) ]
    go ih false (inl e) = inl e
    go ih false (inr k) = inr k

pub place-has : (root : Root) (roots : List Root) → Member root (place_root root roots)
place-has root [] = inl refl
place-has root (r ∷ roots) = go (place-has root roots) (is_gt (root_cmp root r))
  where
    go : Member root (place_root root roots) → (b : Bool) → Member root (cond b (r ∷ place_root root roots) (root ∷ r ∷ roots))
    go ih true = inr ih
    go ih false = inl refl

pub place-keeps : (root : Root) (roots : List Root) (x : Root) → Member x roots → Member x (place_root root roots)
place-keeps root [] x n = elim n [ ]
place-keeps root (r ∷ roots) x n = go (place-keeps root roots x) (is_gt (root_cmp root r)) n
  where
    go : (Member x roots → Member x (place_root root roots)) → (b : Bool) → Member x (r ∷ roots) → Member x (cond b (r ∷ place_root root roots) (root ∷ r ∷ roots))
    go ih true (inl e) = inl e
    go ih true (inr k) = inr (ih k)
    go ih false k = inr k

member_of_without : (test : Root → Bool) (roots : List Root) (x : Root) → Member x (without_first test roots) → Member x roots
member_of_without test [] x n = n
member_of_without test (r ∷ roots) x n = go (member_of_without test roots x) (test r) n
  where
    go : (Member x (without_first test roots) → Member x roots) → (b : Bool) → Member x (cond b roots (r ∷ without_first test roots)) → Member x (r ∷ roots)
    go ih true k = inr k
    go ih false (inl e) = inl e
    go ih false (inr k) = inr (ih k)

pub without-keeps : (test : Root → Bool) (roots : List Root) (x : Root) → Member x roots → Member x (without_first test roots) ⊎ (find test roots ≡ Some x)
without-keeps test [] x n = elim n [ ]
without-keeps test (r ∷ roots) x n = go (without-keeps test roots x) (test r) n
  where
    go : (Member x roots → Member x (without_first test roots) ⊎ (find test roots ≡ Some x)) → (b : Bool) → Member x (r ∷ roots) → Member x (cond b roots (r ∷ without_first test roots)) ⊎ (cond b (Some r) (find test roots) ≡ Some x)
    go ih true (inl e) = inr (ap (λ z. Some z) (sym e))
    go ih true (inr k) = inl k
    go ih false (inl e) = inl (inl e)
    go ih false (inr k) = elim (ih k) [ inl q ↦ inl (inr q) | inr q ↦ inr q ]

pub found_root : (test : Root → Bool) (roots : List Root) (x : Root) → find test roots ≡ Some x → Member x roots × (test x ≡ true)
found_root test [] x h = cc
found_root test (r ∷ roots) x h = go (found_root test roots x) (test r) refl h
  where
    go : (find test roots ≡ Some x → Member x roots × (test x ≡ true)) → (b : Bool) → test r ≡ b → cond b (Some r) (find test roots) ≡ Some x → Member x (r ∷ roots) × (test x ≡ true)
    go ih true t e = let same : r ≡ x = cc e in (inl (sym same), subst (λ z. test z ≡ true) same t)
    go ih false t e = let q = ih e in (inr q.0, q.1)

-- a retained root has its key, and is not dropped
pub record Retained (s : Store) (key : List ℕ) (root : Root) : Type 0 where
  pub member : Member root s.roots
  pub standing : root.dropped ≡ None
  pub its_key : root.key ≡ key

none_from : {X : Type 0} (o : Option X) → is_none o ≡ true → o ≡ None
none_from None e = refl
none_from (Some x) e = cc e

pub retained_is : (s : Store) (key : List ℕ) (root : Root) → retained_at s key ≡ Some root → Retained s key root
retained_is s key root h =
    let m = found_root (is_retained key) s.roots root h in
    let both = and_parts (is_none root.dropped) (bytes_eq root.key key) m.1 in
    record { member = m.0; standing = none_from root.dropped both.0; its_key = (bytes_eq-Decides root.key key).0 both.1 }

-- ---- other roots

pub roots_valid : (s : Store) → Valid s → (roots : List Root) → ((root : Root) → Member root roots → counts_in (least_epoch s) root ≡ true → Reaches s.blocks (anchors s (least_epoch s)) root.address) → ((root : Root) (epoch : ℕ) → Member root s.roots → nat_le epoch (stands_in s root) ≡ true → Member root.address (rests_on (with_roots s roots) epoch)) → Valid (with_roots s roots)
roots_valid s v roots f g = record {
  epochs = record { some_shard = v.epochs.some_shard; swept_each = v.epochs.swept_each; not_ahead = v.epochs.not_ahead; not_behind = v.epochs.not_behind; swept_not_ahead = v.epochs.swept_not_ahead; swept_not_behind = v.epochs.swept_not_behind; swept_entered = v.epochs.swept_entered };
  anchored = λ a r. v.anchored a (Reaches-more s.blocks (anchors (with_roots s roots) (least_epoch s)) (anchors s (least_epoch s)) (starts-each (λ a. Reaches s.blocks (anchors s (least_epoch s)) a) (counts_in (least_epoch s)) (λ e. nat_le (least_epoch s) (e.1 + 1)) roots s.given f (λ e n t. start (starts-given (counts_in (least_epoch s)) (λ e. nat_le (least_epoch s) (e.1 + 1)) s.roots s.given e n t))) a r);
  held = λ held i l. Reaches-more s.blocks (rests_on s held.epoch) (rests_on (with_roots s roots) held.epoch) (λ a n. start (starts-each (λ a. Member a (rests_on (with_roots s roots) held.epoch)) (λ root. nat_le held.epoch (stands_in s root)) (λ e. nat_le held.epoch e.1) s.roots s.given (λ root k t. g root held.epoch k t) (λ e k t. starts-given (λ root. nat_le held.epoch (stands_in s root)) (λ e. nat_le held.epoch e.1) roots s.given e k t) a n)) held.address (v.held held i l);
  given = record { given_present = v.given.given_present; present_given = v.given.present_given; born = v.given.born; now = v.given.now };
}

-- a root that still counts is an anchor
old_anchor : (s : Store) (root : Root) → Member root s.roots → counts_in (least_epoch s) root ≡ true → Reaches s.blocks (anchors s (least_epoch s)) root.address
old_anchor s root m t = start (starts-root (counts_in (least_epoch s)) (λ e. nat_le (least_epoch s) (e.1 + 1)) s.roots s.given root m t)

rest : (s : Store) (roots : List Root) (root : Root) (epoch : ℕ) → Member root roots → nat_le epoch (stands_in s root) ≡ true → Member root.address (rests_on (with_roots s roots) epoch)
rest s roots root epoch m t = starts-root (λ root. nat_le epoch (stands_in s root)) (λ e. nat_le epoch e.1) roots s.given root m t

pub rooted_valid : (s : Store) → Valid s → (key : List ℕ) (a : Address) → Reaches s.blocks (anchors s (least_epoch s)) a → Valid (with_roots s (roots_with (retained_at s key) s.roots (record { key = key; address = a; dropped = None })))
rooted_valid s v key a r = go (retained_at s key)
  where
    new : (root x : Root) → root.address ≡ a → counts_in (least_epoch s) x ≡ true → (x ≡ root) ⊎ Member x s.roots → Reaches s.blocks (anchors s (least_epoch s)) x.address
    new root x same t (inl e) = subst (λ z. Reaches s.blocks (anchors s (least_epoch s)) z) (sym (ap (λ z. z.address) e ∙ same)) r
    new root x same t (inr n) = old_anchor s x n t

    go : (found : Option Root) → Valid (with_roots s (roots_with found s.roots (record { key = key; address = a; dropped = None })))
    go (Some root) = roots_valid s v s.roots (old_anchor s) (λ x epoch n t. rest s s.roots x epoch n t)
    go None =
        let root : Root = record { key = key; address = a; dropped = None } in
        roots_valid s v (place_root root s.roots) (λ x n t. new root x refl t (member_of_place root s.roots x n)) (λ x epoch n t. rest s (place_root root s.roots) x epoch (place-keeps root s.roots x n) t)

pub dropped_valid : (s : Store) → Valid s → (key : List ℕ) → Valid (with_roots s (drop_root (retained_at s key) s.roots key (root_epoch s key)))
dropped_valid s v key = go (retained_at s key) refl
  where
    go : (found : Option Root) → retained_at s key ≡ found → Valid (with_roots s (drop_root found s.roots key (root_epoch s key)))
    go None h = roots_valid s v s.roots (old_anchor s) (λ x epoch n t. rest s s.roots x epoch n t)
    go (Some root) h =
        let is = retained_is s key root h in
        let new : Root = record root { dropped = Some (root_epoch s key) } in
        let others : List Root = without_first (is_retained key) s.roots in
        let anchored : Reaches s.blocks (anchors s (least_epoch s)) root.address = start (root_anchored s (least_epoch s) root is.member is.standing) in
        let stands : stands_in s root ≡ root_epoch s key = rw (is.standing, is.its_key) in
        roots_valid s v (place_root new others) (λ x n t. elim (member_of_place new others x n) [ inl e ↦ subst (λ z. Reaches s.blocks (anchors s (least_epoch s)) z) (sym (ap (λ z. z.address) e)) anchored | inr k ↦ old_anchor s x (member_of_without (is_retained key) s.roots x k) t ]) (λ x epoch n t. elim (without-keeps (is_retained key) s.roots x n) [ inl k ↦ rest s (place_root new others) x epoch (place-keeps new others x k) t | inr k ↦ let same : x ≡ root = cc (h, k) in let now : nat_le epoch (root_epoch s key) ≡ true = rw stands at (subst (λ z. nat_le epoch (stands_in s z) ≡ true) same t) in subst (λ z. Member z (rests_on (with_roots s (place_root new others)) epoch)) (sym (ap (λ z. z.address) same)) (rest s (place_root new others) new epoch (place-has new others) now) ])
