-- What stays when blocks that nothing holds are taken away again and again.
use Rattle.std.proofs.Common.{◌≡◌, ℕ, ◌<◌, ◌≤◌, ◌⊎◌, inl, inr, List, [], ◌∷◌, length, Option, Some, None, Bool, true, false, cond, ◌||◌, not, refl, sym, ap, ◌∙◌, subst, map, filter, Contains, IsTrue, is_some, arith, ◌==◌, Less}
use Rattle.std.proofs.lemmas.Bool.{false≢true}
use Rattle.std.proofs.lemmas.Bool.Decides.{nat_tests}
use Rattle.std.proofs.lemmas.Grind.{common_steps}
use Rattle.std.specs.BTreeMap.{is_at}
use Rattle.std.specs.List.{flat_map, IsDistinct, AllByRecursion}
use Rattle.std.specs.List.Sorted.{IsStrictlySortedBy}
use Rattle.std.specs.Map.{lookup, keys_of}
use Rattle.hs_limits.specs.declared.address.Address.{Address}
use Rattle.hs_model.specs.declared.plain.PlainBlock.{PlainBlock}
use Rattle.hs_model.specs.declared.store.StoredBlock.{StoredBlock}
use Rattle.hs_model.specs.Listed.{IsListOf, IsPresent}
use Rattle.hs_model.specs.Peel.{IsSupported, IsStaying}
use Rattle.hs_model.specs.Plain.{entry_of}
use Rattle.hs_model.specs.Pointing.{Pointing, pointers_in, is_kept}
use Rattle.hs_model.specs.Reach.{is_same, is_among, pointers_of}
use Rattle.hs_model.specs.Store.{Store, address_cmp, block_at}
use Rattle.hs_model.proofs.Members.{Member, contains_from_member, member_from_contains, member-append_left, member-append_right, member-append, member-map, member_of_map, member-filter, member_of_filter, same-refl, same_from, at_is_same, among_from_member, member_from_among}
use Rattle.hs_model.proofs.ReachLemmas.{found_from_distinct}

-- ---- entries by address

pub member_of_found : {V : Type 0} (es : List (Address × V)) (a : Address) (v : V) → lookup (is_at (address_cmp a)) es ≡ Some v → Member (a, v) es
member_of_found [] a v h = cc
member_of_found (e ∷ es) a v h = go (member_of_found es a v) (is_same a e.0) refl
  where
    go : (lookup (is_at (address_cmp a)) es ≡ Some v → Member (a, v) es) → (b : Bool) → is_same a e.0 ≡ b → Member (a, v) (e ∷ es)
    go ih true t =
        let found : Some e.1 ≡ Some v = rw (at_is_same a e.0, t) at h in
        let value : v ≡ e.1 = cc found in
        inl (λ i. (same_from a e.0 t i, value i))
    go ih false t = inr (ih (rw (at_is_same a e.0, t) at h))

pub some_of_member : {V : Type 0} (es : List (Address × V)) (e : Address × V) → Member e es → is_some (lookup (is_at (address_cmp e.0)) es) ≡ true
some_of_member [] e m = elim m [ ]
some_of_member (x ∷ es) e (inl h) = subst (λ z. is_some (lookup (is_at (address_cmp z.0)) (x ∷ es)) ≡ true) (sym h) (rw (at_is_same x.0 x.0, same-refl x.0))
some_of_member (x ∷ es) e (inr m) = go (some_of_member es e m) (is_same e.0 x.0) refl
  where
    go : is_some (lookup (is_at (address_cmp e.0)) es) ≡ true → (b : Bool) → is_same e.0 x.0 ≡ b → is_some (lookup (is_at (address_cmp e.0)) (x ∷ es)) ≡ true
    go ih true t = rw (at_is_same e.0 x.0, t)
    go ih false t = rw (at_is_same e.0 x.0, t) ih

pub member_of_some : {V : Type 0} (es : List (Address × V)) (a : Address) → is_some (lookup (is_at (address_cmp a)) es) ≡ true → Member a (keys_of es)
member_of_some {V = V} es a h = go (lookup (is_at (address_cmp a)) es) refl h
  where
    go : (o : Option V) → lookup (is_at (address_cmp a)) es ≡ o → is_some o ≡ true → Member a (keys_of es)
    go None e t = cc t
    go (Some v) e t = member-map (λ (e : Address × V). e.0) (a, v) es (member_of_found es a v e)

pub some_of_key : {V : Type 0} (es : List (Address × V)) (a : Address) → Member a (keys_of es) → is_some (lookup (is_at (address_cmp a)) es) ≡ true
some_of_key {V = V} es a m =
    let e = member_of_map (λ (e : Address × V). e.0) a es m in
    subst (λ z. is_some (lookup (is_at (address_cmp z)) es) ≡ true) (sym e.2) (some_of_member es e.0 e.1)

-- ---- what all of some entries point to

among_pointers : (es : Pointing) (a : Address) → Member a (flat_map (λ e. e.1) es) → (e : Address × List Address) × Member e es × Member a e.1
among_pointers [] a m = elim m [ ]
among_pointers (e ∷ es) a m = elim (member-append a e.1 (flat_map (λ e. e.1) es) m) [ inl n ↦ (e, inl refl, n) | inr n ↦ (let r = among_pointers es a n in (r.0, inr r.1, r.2)) ]

pointers_among : (es : Pointing) (e : Address × List Address) (a : Address) → Member e es → Member a e.1 → Member a (flat_map (λ e. e.1) es)
pointers_among [] e a m n = elim m [ ]
pointers_among (x ∷ es) e a (inl h) n = member-append_left a x.1 (flat_map (λ e. e.1) es) (subst (λ z. Member a z.1) h n)
pointers_among (x ∷ es) e a (inr m) n = member-append_right a x.1 (flat_map (λ e. e.1) es) (pointers_among es e a m n)

kept_cases : (p q : Bool) → (p || q) ≡ true → (p ≡ true) ⊎ (q ≡ true)
kept_cases true q h = inl refl
kept_cases false q h = inr h

kept_left : (p q : Bool) → p ≡ true → (p || q) ≡ true
kept_left p q h = rw h

kept_right : (p q : Bool) → q ≡ true → (p || q) ≡ true
kept_right true q h = refl
kept_right false q h = h

-- ---- supported lists by members

abbrev Holds : Store → List Address → List Address → Address → Type 0
Holds s anchors list a = Member a anchors ⊎ ((b : Address) × Member b list × Member a (pointers_of (block_at s b)))

pub record Supports (s : Store) (anchors list : List Address) : Type 0 where
  pub present : (a : Address) → Member a list → IsPresent s a
  pub held : (a : Address) → Member a list → Holds s anchors list a

pub supports_from_is : (s : Store) (anchors list : List Address) → IsSupported s anchors list → Supports s anchors list
supports_from_is s anchors list u = record { present = λ a m. u.present a (contains_from_member a list m); held = λ a m. go a (u.held a (contains_from_member a list m)) }
  where
    go : (a : Address) → Contains anchors a ⊎ ((b : Address) × Contains list b × Contains (pointers_of (block_at s b)) a) → Holds s anchors list a
    go a (inl m) = inl (member_from_contains a anchors m)
    go a (inr r) = inr (r.0, member_from_contains r.0 list r.1, member_from_contains a (pointers_of (block_at s r.0)) r.2)

pub is_from_supports : (s : Store) (anchors list : List Address) → Supports s anchors list → IsSupported s anchors list
is_from_supports s anchors list u = record { present = λ a m. u.present a (member_from_contains a list m); held = λ a m. go a (u.held a (member_from_contains a list m)) }
  where
    go : (a : Address) → Holds s anchors list a → Contains anchors a ⊎ ((b : Address) × Contains list b × Contains (pointers_of (block_at s b)) a)
    go a (inl m) = inl (contains_from_member a anchors m)
    go a (inr r) = inr (r.0, contains_from_member r.0 list r.1, contains_from_member a (pointers_of (block_at s r.0)) r.2)

stays_from : (s : Store) (anchors list : List Address) (a : Address) → Supports s anchors list → Member a list → IsStaying s anchors a
stays_from s anchors list a u m = record { list = list; supported = is_from_supports s anchors list u; listed = contains_from_member a list m }

-- ---- one round

-- the entries that are left are of the store, and all that stays is among them
pub record IsLeft (s : Store) (anchors : List Address) (left : Pointing) : Type 0 where
  pub of_store : (e : Address × List Address) → Member e left → Member e (pointers_in s.blocks)
  pub staying : (a : Address) → IsStaying s anchors a → Member a (keys_of left)

pub all_left : (s : Store) (anchors : List Address) → IsLeft s anchors (pointers_in s.blocks)
all_left s anchors = record { of_store = λ e m. m; staying = λ a t. go a (supports_from_is s anchors t.list t.supported) (member_from_contains a t.list t.listed) }
  where
    key : (a : Address) → Member a (keys_of s.blocks) → Member a (keys_of (pointers_in s.blocks))
    key a m =
        let e = member_of_map (λ (e : Address × StoredBlock). e.0) a s.blocks m in
        subst (λ z. Member z (keys_of (pointers_in s.blocks))) (sym e.2) (member-map (λ (e : Address × List Address). e.0) (e.0.0, e.0.1.pointers) (pointers_in s.blocks) (member-map (λ (e : Address × StoredBlock). (e.0, e.1.pointers)) e.0 s.blocks e.1))

    go : (a : Address) {list : List Address} → Supports s anchors list → Member a list → Member a (keys_of (pointers_in s.blocks))
    go a u m = key a (member_of_some s.blocks a (u.present a m))

module _ (s : Store) (anchors : List Address) (d : IsDistinct is_same (keys_of s.blocks)) where
  -- an entry of the store has the pointers of its block, which is present
  entry_block : (e : Address × List Address) → Member e (pointers_in s.blocks) → (stored : StoredBlock) × (block_at s e.0 ≡ Some stored) × (e.1 ≡ stored.pointers)
  entry_block e m =
      let b = member_of_map (λ (x : Address × StoredBlock). (x.0, x.1.pointers)) e s.blocks m in
      let found : block_at s e.0 ≡ Some b.0.1 = subst (λ z. block_at s z ≡ Some b.0.1) (sym (ap (λ x. x.0) b.2)) (found_from_distinct s.blocks d b.0 b.1) in
      (b.0.1, found, ap (λ x. x.1) b.2)

  entry_pointers : (e : Address × List Address) → Member e (pointers_in s.blocks) → e.1 ≡ pointers_of (block_at s e.0)
  entry_pointers e m = let b = entry_block e m in b.2 ∙ ap (λ o. pointers_of o) (sym b.1)

  kept_key : (held : List Address) (left : Pointing) (a : Address) → Member a (keys_of left) → is_kept held left a ≡ true → Member a (keys_of (filter (λ e. is_kept held left e.0) left))
  kept_key held left a m t =
      let e = member_of_map (λ (e : Address × List Address). e.0) a left m in
      subst (λ z. Member z (keys_of (filter (λ e. is_kept held left e.0) left))) (sym e.2) (member-map (λ (e : Address × List Address). e.0) e.0 (filter (λ e. is_kept held left e.0) left) (member-filter (λ (e : Address × List Address). is_kept held left e.0) e.0 left e.1 (subst (λ z. is_kept held left z ≡ true) e.2 t)))

  pub still_left : (held : List Address) (left : Pointing) → ((a : Address) → is_among held a ≡ is_among anchors a) → IsLeft s anchors left → IsLeft s anchors (filter (λ e. is_kept held left e.0) left)
  still_left held left h l = record { of_store = λ e m. l.of_store e (member_of_filter (λ (e : Address × List Address). is_kept held left e.0) e left m).0; staying = λ a t. kept_key held left a (l.staying a t) (kept a t) }
    where
      holds : (a : Address) (t : IsStaying s anchors a) → Holds s anchors t.list a → is_kept held left a ≡ true
      holds a t (inl m) = kept_left (is_among held a) (is_among (flat_map (λ e. e.1) left) a) (h a ∙ among_from_member a anchors m)
      holds a t (inr r) =
          let u : IsStaying s anchors r.0 = record { list = t.list; supported = t.supported; listed = contains_from_member r.0 t.list r.1 } in
          let e = member_of_map (λ (e : Address × List Address). e.0) r.0 left (l.staying r.0 u) in
          let points : Member a e.0.1 = subst (λ z. Member a z) (sym (entry_pointers e.0 (l.of_store e.0 e.1))) (subst (λ z. Member a (pointers_of (block_at s z))) e.2 r.2) in
          kept_right (is_among held a) (is_among (flat_map (λ e. e.1) left) a) (among_from_member a (flat_map (λ e. e.1) left) (pointers_among left e.0 a e.1 points))

      kept : (a : Address) → IsStaying s anchors a → is_kept held left a ≡ true
      kept a t = holds a t ((supports_from_is s anchors t.list t.supported).held a (member_from_contains a t.list t.listed))

  -- where each entry is kept all of them stay
  pub all_stay : (held : List Address) (left : Pointing) → ((a : Address) → is_among held a ≡ is_among anchors a) → IsLeft s anchors left → ((e : Address × List Address) → Member e left → is_kept held left e.0 ≡ true) → (a : Address) → Member a (keys_of left) → IsStaying s anchors a
  all_stay held left h l k a m = stays_from s anchors (keys_of left) a (record { present = present; held = λ b n. holds b n }) m
    where
      present : (b : Address) → Member b (keys_of left) → IsPresent s b
      present b n =
          let e = member_of_map (λ (e : Address × List Address). e.0) b left n in
          let f = entry_block e.0 (l.of_store e.0 e.1) in
          subst (λ z. IsPresent s z) (sym e.2) (ap (λ o. is_some o) f.1)

      go : (b : Address) → (is_among held b ≡ true) ⊎ (is_among (flat_map (λ e. e.1) left) b ≡ true) → Holds s anchors (keys_of left) b
      go b (inl t) = inl (member_from_among b anchors (sym (h b) ∙ t))
      go b (inr t) =
          let r = among_pointers left b (member_from_among b (flat_map (λ e. e.1) left) t) in
          inr (r.0.0, member-map (λ (e : Address × List Address). e.0) r.0 left r.1, subst (λ z. Member b z) (entry_pointers r.0 (l.of_store r.0 r.1)) r.2)

      holds : (b : Address) → Member b (keys_of left) → Holds s anchors (keys_of left) b
      holds b n =
          let e = member_of_map (λ (e : Address × List Address). e.0) b left n in
          go b (kept_cases (is_among held b) (is_among (flat_map (λ e. e.1) left) b) (subst (λ z. is_kept held left z ≡ true) (sym e.2) (k e.0 e.1)))

-- ---- a filter that leaves nothing out

pub filter_le : {X : Type 0} (p : X → Bool) (xs : List X) → length (filter p xs) ≤ length xs
filter_le p [] = omega arith
filter_le p (x ∷ xs) = go (filter_le p xs) (p x)
  where
    go : length (filter p xs) ≤ length xs → (b : Bool) → length (cond b (x ∷ filter p xs) (filter p xs)) ≤ length (x ∷ xs)
    go ih true = grind (arith, common_steps, ih)
    go ih false = grind (arith, common_steps, ih)

pub filter_all : {X : Type 0} (p : X → Bool) (xs : List X) → length (filter p xs) ≡ length xs → (x : X) → Member x xs → p x ≡ true
filter_all {X = X} p [] h x m = elim m [ ]
filter_all {X = X} p (y ∷ xs) h x m = go (filter_all {X = X} p xs) (p y) refl h m
  where
    go : (length (filter p xs) ≡ length xs → (x : X) → Member x xs → p x ≡ true) → (b : Bool) → p y ≡ b → length (cond b (y ∷ filter p xs) (filter p xs)) ≡ length (y ∷ xs) → Member x (y ∷ xs) → p x ≡ true
    go ih true t e (inl q) = ap p q ∙ t
    go ih true t e (inr n) = ih (grind (arith, common_steps, e)) x n
    go ih false t e n = absurd (grind (arith, common_steps, e, filter_le p xs))

pub filter_same_length : {X : Type 0} (p : X → Bool) (xs : List X) → length (filter p xs) ≡ length xs → filter p xs ≡ xs
filter_same_length p [] h = refl
filter_same_length p (x ∷ xs) h = go (filter_same_length p xs) (p x) h
  where
    go : (length (filter p xs) ≡ length xs → filter p xs ≡ xs) → (b : Bool) → length (cond b (x ∷ filter p xs) (filter p xs)) ≡ length (x ∷ xs) → cond b (x ∷ filter p xs) (filter p xs) ≡ x ∷ xs
    go ih true e = ap (λ z. x ∷ z) (ih (grind (arith, common_steps, e)))
    go ih false e = absurd (grind (arith, common_steps, e, filter_le p xs))

pub fewer : {X : Type 0} (p : X → Bool) (xs ys : List X) (b : Bool) → ys ≡ filter p xs → b ≡ not (length ys == length xs) → b ≡ true → length ys < length xs
fewer p xs ys b e f t =
    let le : length ys ≤ length xs = subst (λ z. length z ≤ length xs) (sym e) (filter_le p xs) in
    grind (arith, nat_tests)

pub as_many : (m n : ℕ) (b : Bool) → b ≡ not (m == n) → b ≡ false → m ≡ n
as_many m n b f t = grind (arith, nat_tests)

-- after the last round all that is left stays
pub peeled : (s : Store) (anchors : List Address) (d : IsDistinct is_same (keys_of s.blocks)) (held : List Address) (old new : Pointing) → ((a : Address) → is_among held a ≡ is_among anchors a) → IsLeft s anchors old → new ≡ filter (λ e. is_kept held old e.0) old → length new ≡ length old → IsLeft s anchors new × ((a : Address) → Member a (keys_of new) → IsStaying s anchors a)
peeled s anchors d held old new h l e n =
    let k = subst (λ z. length z ≡ length old) e n in
    let same : new ≡ old = e ∙ filter_same_length (λ (e : Address × List Address). is_kept held old e.0) old k in
    (subst (λ z. IsLeft s anchors z) (sym same) l, λ a m. all_stay s anchors d held old h l (filter_all (λ (e : Address × List Address). is_kept held old e.0) old k) a (subst (λ z. Member a (keys_of z)) same m))

all_of_filter : (P : Address → Type 0) (p : PlainBlock → Bool) (blocks : List PlainBlock) → AllByRecursion P (keys_of (map entry_of blocks)) → AllByRecursion P (map (λ (block : PlainBlock). block.address) (filter p blocks))
all_of_filter P p [] h = tt
all_of_filter P p (b ∷ blocks) h = go (all_of_filter P p blocks h.1) (p b)
  where
    go : AllByRecursion P (map (λ (block : PlainBlock). block.address) (filter p blocks)) → (t : Bool) → AllByRecursion P (map (λ (block : PlainBlock). block.address) (cond t (b ∷ filter p blocks) (filter p blocks)))
    go ih true = (h.0, ih)
    go ih false = ih

pub filter_ascends : (p : PlainBlock → Bool) (blocks : List PlainBlock) → IsStrictlySortedBy address_cmp (keys_of (map entry_of blocks)) → IsStrictlySortedBy address_cmp (map (λ (block : PlainBlock). block.address) (filter p blocks))
unfolding IsStrictlySortedBy
filter_ascends p [] d = tt
filter_ascends p (b ∷ blocks) d = go (filter_ascends p blocks d.1) (p b)
  where
    go : IsStrictlySortedBy address_cmp (map (λ (block : PlainBlock). block.address) (filter p blocks)) → (t : Bool) → IsStrictlySortedBy address_cmp (map (λ (block : PlainBlock). block.address) (cond t (b ∷ filter p blocks) (filter p blocks)))
    go ih true = (all_of_filter (λ y. address_cmp b.address y ≡ Less) p blocks d.0, ih)
    go ih false = ih

-- ---- what the result has

module _ (s : Store) (anchors : List Address) (blocks : List PlainBlock) (left : Pointing) (list : List Address) (same : s.blocks ≡ map entry_of blocks) (is : list ≡ map (λ (block : PlainBlock). block.address) (filter (λ (block : PlainBlock). not (is_some (lookup (is_at (address_cmp block.address)) left))) blocks)) (l : IsLeft s anchors left) (stay : (a : Address) → Member a (keys_of left) → IsStaying s anchors a) where
  block_of_present : (a : Address) → IsPresent s a → (b : PlainBlock) × Member b blocks × (a ≡ b.address)
  block_of_present a p =
      let m = member_of_map (λ (e : Address × StoredBlock). e.0) a s.blocks (member_of_some s.blocks a p) in
      let n = member_of_map entry_of m.0 blocks (subst (λ z. Member m.0 z) same m.1) in
      (n.0, n.1, m.2 ∙ ap (λ x. x.0) n.2)

  present_of_block : (b : PlainBlock) → Member b blocks → IsPresent s b.address
  present_of_block b m = some_of_member s.blocks (entry_of b) (subst (λ z. Member (entry_of b) z) (sym same) (member-map entry_of b blocks m))

  gone_listed : (a : Address) → IsPresent s a → is_some (lookup (is_at (address_cmp a)) left) ≡ false → is_among list a ≡ true
  gone_listed a p f =
      let b = block_of_present a p in
      let g = subst (λ z. not (is_some (lookup (is_at (address_cmp z)) left)) ≡ true) b.2 (ap (λ z. not z) f) in
      subst (λ z. is_among list z ≡ true) (sym b.2) (among_from_member b.0.address list (subst (λ z. Member b.0.address z) (sym is) (member-map (λ (block : PlainBlock). block.address) b.0 (filter (λ (block : PlainBlock). not (is_some (lookup (is_at (address_cmp block.address)) left))) blocks) (member-filter (λ (block : PlainBlock). not (is_some (lookup (is_at (address_cmp block.address)) left))) b.0 blocks b.1 g))))

  listed_gone : (a : Address) → is_among list a ≡ true → IsPresent s a × ¬ IsStaying s anchors a
  listed_gone a t =
      let m = member_of_map (λ (block : PlainBlock). block.address) a (filter (λ (block : PlainBlock). not (is_some (lookup (is_at (address_cmp block.address)) left))) blocks) (subst (λ z. Member a z) is (member_from_among a list t)) in
      let n = member_of_filter (λ (block : PlainBlock). not (is_some (lookup (is_at (address_cmp block.address)) left))) m.0 blocks m.1 in
      (subst (λ z. IsPresent s z) (sym m.2) (present_of_block m.0 n.0), λ u. (let k = some_of_key left m.0.address (subst (λ z. Member z (keys_of left)) m.2 (l.staying a u)) in absurd (false≢true (sym (ap (λ z. not z) k) ∙ n.1))))

  pub gone_is : IsListOf list (λ a. IsPresent s a × ¬ IsStaying s anchors a)
  gone_is a = (listed_gone a, λ h. go h (is_some (lookup (is_at (address_cmp a)) left)) refl)
    where
      go : IsPresent s a × ¬ IsStaying s anchors a → (b : Bool) → is_some (lookup (is_at (address_cmp a)) left) ≡ b → is_among list a ≡ true
      go h true t = absurd (h.1 (stay a (member_of_some left a t)))
      go h false f = gone_listed a h.0 f

  pub stay_is : (a : Address) → IsPresent s a → ¬ IsTrue (is_among list a) → IsStaying s anchors a
  stay_is a p n = go (is_some (lookup (is_at (address_cmp a)) left)) refl
    where
      go : (b : Bool) → is_some (lookup (is_at (address_cmp a)) left) ≡ b → IsStaying s anchors a
      go true t = stay a (member_of_some left a t)
      go false f = absurd (n (gone_listed a p f))
