-- How a course begins: with whose Good, and where nobody's, that no peer was good.
use Rattle.std.proofs.Common.{◌≡◌, ◌≢◌, ◌⊎◌, inl, inr, ◌∙◌, ap, sym, ℕ, zero, suc, ◌+◌, ◌-◌, ◌*◌, ◌<◌, ◌≤◌, ◌==◌, ◌&&◌, ◌||◌, ◌++◌, Bool, true, false, List, [], ◌∷◌, Option, Some, None, refl, arith, map, nat_lt}
use Rattle.std.proofs.lemmas.Bool.{cases_eq, eq-eqb, eqb-true}
use Rattle.std.proofs.lemmas.List.{append_assoc}
use Rattle.std.proofs.lemmas.Nat.{div_below}
use Rattle.std.specs.List.{AllByRecursion, list_any, range_with_len}
use Rattle.std.specs.Option.{option_map_or}
use Rattle.std.specs.Prelude.{find, flat_map, if◌then◌else◌, length, take}
use Rattle.hs_settled.proofs.CausesListLemmas.{any_none, both_nil, flat_all, flat_nil, not_both, range_all, range_each, some_is, take_all}
use Rattle.hs_settled.proofs.ListLemmas.{take_back}
use Rattle.hs_entry.specs.Entries.{rank_of}
use Rattle.hs_events.specs.Beginning.{first_items}
use Rattle.hs_events.specs.Course.{change_item}
use Rattle.hs_events.specs.Found.{Found, starts_good}
use Rattle.hs_events.specs.Taken.{is_best, is_taken, taken_items, taken_list, taken_peer}
use Rattle.hs_fold.specs.Shards.Course.{begins, is_good_below, is_good_of, was_good}
use Rattle.hs_fold.specs.Shards.Setting.{Numbered}
use Rattle.hs_limits.specs.declared.shape.Shape.{Shape}
use Rattle.hs_limits.specs.Shape.{peer_of}
use Rattle.hs_quiet.proofs.FallenLemmas.{home_is}
use Rattle.hs_members.specs.Members.{all_peers, home_of}
use Rattle.hs_model.specs.declared.course.CourseItem.{CourseItem}
use Rattle.hs_model.specs.declared.course.CourseItem.TheVariants as item
use Rattle.hs_settled.proofs.NotingLemmas.{all_append, all_weaker}

pub which_peer : (o : Option ℕ) → (o ≡ None) ⊎ ((p : ℕ) × (o ≡ Some p))
which_peer None = inl refl
which_peer (Some p) = inr (p, refl)

clash : {A : Type 0} (xs : List A) (y : A) (ys : List A) → xs ≡ [] → xs ≡ y ∷ ys → ⊥
clash xs y ys none some = let bad : [] ≡ y ∷ ys = sym none ∙ some in cc bad

-- ---- nothing begins it

change_none : (t g : Bool) (peer at : ℕ) → change_item t (t || g) peer at ≡ [] → (t ≡ true) ⊎ (g ≡ false)
change_none true g peer at e = inl refl
change_none false true peer at e = absurd (cc e)
change_none false false peer at e = inr refl

pub nothing_good : (shape : Shape) (found : Found) (entry : ℕ) → 0 < shape.copies → first_items shape found entry ≡ [] → (x : ℕ) → x < shape.shards * shape.copies → starts_good found x ≡ false
nothing_good shape found entry some none x low = elim (change_none (is_taken shape found.logs x) (starts_good found x) x found.opened here) [
  | inl taken ↦ absurd (untaken taken)
  | inr bad ↦ bad
]
  where
    parts : (taken_items shape found.logs entry ≡ [])
        × ((map (λ (peer : ℕ × ℕ). item.Bad peer.0 peer.1) found.lost ++ flat_map (λ peer. change_item (is_taken shape found.logs peer) (is_taken shape found.logs peer || starts_good found peer) peer found.opened) (all_peers shape)) ≡ [])
    parts = both_nil (taken_items shape found.logs entry) _ none

    changes : flat_map (λ peer. change_item (is_taken shape found.logs peer) (is_taken shape found.logs peer || starts_good found peer) peer found.opened) (all_peers shape) ≡ []
    changes = (both_nil (map (λ (peer : ℕ × ℕ). item.Bad peer.0 peer.1) found.lost) _ parts.1).1

    here : change_item (is_taken shape found.logs x) (is_taken shape found.logs x || starts_good found x) x found.opened ≡ []
    here = range_each (λ peer. change_item (is_taken shape found.logs peer) (is_taken shape found.logs peer || starts_good found peer) peer found.opened ≡ []) (shape.shards * shape.copies) 0 x
        (flat_nil (λ peer. change_item (is_taken shape found.logs peer) (is_taken shape found.logs peer || starts_good found peer) peer found.opened) (all_peers shape) changes) (omega arith) (omega (arith, low))

    home : home_of shape x < shape.shards
    home = div_below x shape.copies shape.shards some low

    untaken : is_taken shape found.logs x ≡ true → ⊥
    untaken taken = elim (which_peer (taken_peer shape found.logs (home_of shape x))) [
      | inl nobody ↦ not_both (sym taken ∙ ap (λ o. option_map_or (λ p. p == x) o false) nobody)
      | inr peer ↦ clash _ (item.Good peer.0 entry) (item.Took (home_of shape x) (rank_of (taken_list shape found.logs (home_of shape x))).number entry ∷ [])
          (range_each _ shape.shards 0 (home_of shape x) (flat_nil _ (range_with_len 0 shape.shards) parts.0) (omega arith) (omega (arith, home))) (rw peer.1 refl)
    ]

pub any_left : {X : Type 0} (p : X → Bool) (xs ys : List X) → list_any p xs ≡ true → list_any p (xs ++ ys) ≡ true
any_left p [] ys e = absurd (cc e)
any_left p (x ∷ xs) ys e = go (λ k. any_left p xs ys k) (p x) e
  where
    go : (list_any p xs ≡ true → list_any p (xs ++ ys) ≡ true) → (b : Bool) → (b || list_any p xs) ≡ true → (b || list_any p (xs ++ ys)) ≡ true
    go ih true k = refl
    go ih false k = ih k

pub any_right : {X : Type 0} (p : X → Bool) (xs ys : List X) → list_any p ys ≡ true → list_any p (xs ++ ys) ≡ true
any_right p [] ys e = e
any_right p (x ∷ xs) ys e = go (any_right p xs ys e) (p x)
  where
    go : list_any p (xs ++ ys) ≡ true → (b : Bool) → (b || list_any p (xs ++ ys)) ≡ true
    go ih true = refl
    go ih false = ih

pub record InRange (low count k : ℕ) : Type 0 where
  pub from : low ≤ k
  pub to : k < low + count

pub find_in : (p : ℕ → Bool) (n from x : ℕ) → find p (range_with_len from n) ≡ Some x → InRange from n x
find_in p zero from x e = absurd cc
find_in p (suc n) from x e = go (λ k. find_in p n (from + 1) x k) (p from) e
  where
    go : (find p (range_with_len (from + 1) n) ≡ Some x → InRange (from + 1) n x) → (b : Bool) → (if b then Some from else find p (range_with_len (from + 1) n)) ≡ Some x → InRange from (suc n) x
    go ih true k = let same : from ≡ x = some_is from x k in record { from = omega (arith, same); to = omega (arith, same) }
    go ih false k = let r = ih k in let a = r.from in let b = r.to in record { from = omega (arith, a); to = omega (arith, b) }

-- the Good of the peer whose log was taken begins the course
ranged_begins : (p : CourseItem → Bool) (f : ℕ → List CourseItem) → ((g : ℕ) → length (f g) ≤ 2) → (n from g most : ℕ) → n + n ≤ most → from ≤ g → g < from + n → list_any p (f g) ≡ true → (rest : List CourseItem)
    → list_any p (take most (flat_map f (range_with_len from n) ++ rest)) ≡ true
ranged_begins p f few zero from g most room low high e rest = absurd (omega (arith, low, high))
ranged_begins p f few (suc n) from g most room low high e rest =
    ap (λ (xs : List CourseItem). list_any p (take most xs)) (append_assoc (f from) (flat_map f (range_with_len (from + 1) n)) rest)
    ∙ ap (list_any p) (take_back (f from) (flat_map f (range_with_len (from + 1) n) ++ rest) most (most - length (f from)) (let l = few from in omega (arith, l, room)))
    ∙ by_place (λ apart. ranged_begins p f few n (from + 1) g (most - length (f from)) (let l = few from in omega (arith, l, room)) (omega (arith, low, apart)) (omega (arith, high)) e rest) (cases_eq g from)
  where
    by_place : (g ≢ from → list_any p (take (most - length (f from)) (flat_map f (range_with_len (from + 1) n) ++ rest)) ≡ true) → (g ≡ from) ⊎ (g ≢ from) → list_any p (f from ++ take (most - length (f from)) (flat_map f (range_with_len (from + 1) n) ++ rest)) ≡ true
    by_place ih (inl same) = any_left p (f from) (take (most - length (f from)) (flat_map f (range_with_len (from + 1) n) ++ rest)) (ap (λ k. list_any p (f k)) (sym same) ∙ e)
    by_place ih (inr apart) = any_right p (f from) (take (most - length (f from)) (flat_map f (range_with_len (from + 1) n) ++ rest)) (ih apart)

pub taken_begins : (shape : Shape) (logs : List (Option Numbered)) (entry peer g : ℕ) → g < shape.shards → taken_peer shape logs g ≡ Some peer → (rest : List CourseItem) → begins shape.shards (taken_items shape logs entry ++ rest) peer ≡ true
taken_begins shape logs entry peer g low is rest =
    ranged_begins (is_good_of peer) _
    (λ shard. elim (which_peer (taken_peer shape logs shard)) [
      | inl nobody ↦ rw nobody (omega arith)
      | inr taken ↦ rw taken.1 (omega arith)
    ])
    shape.shards 0 g (shape.shards + shape.shards) (omega arith) (omega arith) (omega (arith, low)) (rw is (ap (λ b. b || false) (eq-eqb peer peer refl))) rest

-- ---- whose Good is not there

abbrev pub IsNotOf : ℕ → CourseItem → Type 0
IsNotOf peer i = is_good_of peer i ≡ false

bads : (peer : ℕ) (lost : List (ℕ × ℕ)) → AllByRecursion (IsNotOf peer) (map (λ (p : ℕ × ℕ). item.Bad p.0 p.1) lost)
bads peer [] = tt
bads peer (p ∷ lost) = (refl, bads peer lost)

other : (p q : ℕ) → (p ≡ q → ⊥) → (p == q) ≡ false
other p q d = go (p == q) refl
  where
    go : (b : Bool) → (p == q) ≡ b → (p == q) ≡ false
    go true t = absurd (d (eqb-true p q t))
    go false t = t

change_of : (peer x at : ℕ) (t g : Bool) → (g ≡ true → x ≡ peer → ⊥) → AllByRecursion (IsNotOf peer) (change_item t (t || g) x at)
change_of peer x at true g h = tt
change_of peer x at false true h = (other x peer (h refl), tt)
change_of peer x at false false h = tt

-- a peer whose log was not taken, which did not start good
pub no_good : (shape : Shape) (found : Found) (entry peer : ℕ) → is_taken shape found.logs peer ≡ false → starts_good found peer ≡ false → AllByRecursion (IsNotOf peer) (first_items shape found entry)
no_good shape found entry peer untaken bad =
    all_append (IsNotOf peer) (taken_items shape found.logs entry) _
    (flat_all (IsNotOf peer) _ (range_with_len 0 shape.shards) (range_all _ shape.shards 0 (λ shard from to.
    elim (which_peer (taken_peer shape found.logs shard)) [
      | inl nobody ↦ rw nobody tt
      | inr taken ↦ rw taken.1 (other taken.0 peer (differs shard taken.0 taken.1), (refl, tt))
    ])))
    (all_append (IsNotOf peer) (map (λ (p : ℕ × ℕ). item.Bad p.0 p.1) found.lost) _ (bads peer found.lost)
    (flat_all (IsNotOf peer) (λ x. change_item (is_taken shape found.logs x) (is_taken shape found.logs x || starts_good found x) x found.opened) (all_peers shape)
    (range_all (λ x. AllByRecursion (IsNotOf peer) (change_item (is_taken shape found.logs x) (is_taken shape found.logs x || starts_good found x) x found.opened)) (shape.shards * shape.copies) 0
    (λ x from to. change_of peer x found.opened (is_taken shape found.logs x) (starts_good found x) (λ good same. not_both (sym good ∙ ap (starts_good found) same ∙ bad))))))
  where
    differs : (shard p : ℕ) → taken_peer shape found.logs shard ≡ Some p → p ≡ peer → ⊥
    differs shard p is same =
        let at : InRange (peer_of shape shard 0) shape.copies p = find_in (is_best shape found.logs shard) shape.copies (peer_of shape shard 0) p is in
        let home : home_of shape peer ≡ shard = ap (home_of shape) (sym same) ∙ home_is p shard shape.copies at.from at.to in
        let taken : is_taken shape found.logs peer ≡ true = ap (λ g. option_map_or (λ q. q == peer) (taken_peer shape found.logs g) false) home ∙ ap (λ o. option_map_or (λ q. q == peer) o false) is ∙ eq-eqb p peer same in
        not_both (sym taken ∙ untaken)

-- so that its Good does not begin a course that has nothing more
pub not_begins : (shards peer : ℕ) (course : List CourseItem) → AllByRecursion (IsNotOf peer) course → begins shards course peer ≡ false
not_begins shards peer course all = any_none (is_good_of peer) _ (take_all (IsNotOf peer) (shards + shards) course all)

not_below : (peer moment : ℕ) (i : CourseItem) → IsNotOf peer i → is_good_below moment peer i ≡ false
not_below peer moment (item.Good p m) none = ap (λ b. b && nat_lt m moment) none
not_below peer moment (item.Bad p m) none = refl
not_below peer moment (item.Begun line m) none = refl
not_below peer moment (item.Took shard number m) none = refl

-- and it was not good at any time
pub never_good : (peer moment : ℕ) (course : List CourseItem) → AllByRecursion (IsNotOf peer) course → was_good course moment peer ≡ false
never_good peer moment course all = any_none (is_good_below moment peer) course (all_weaker (IsNotOf peer) (λ i. is_good_below moment peer i ≡ false) (not_below peer moment) course all)
