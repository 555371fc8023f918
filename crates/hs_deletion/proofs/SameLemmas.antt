-- Lists that have the same in any order, and the blocks and roots of one shard after a step.
use Rattle.std.proofs.Common.{◌≡◌, Bool, true, false, cond, List, [], ◌∷◌, ◌⊎◌, inl, inr, refl, sym, ◌∙◌, ap, arith, map, filter}
use Rattle.std.proofs.lemmas.Bool.{cases_Bool}
use Rattle.std.proofs.lemmas.List.{map-id}
use Rattle.std.proofs.lemmas.List.Sums.{sum_by-cons}
use Rattle.hs_model.proofs.Members.{member-map, member_of_map, member-filter, member_of_filter}
use Rattle.hs_deletion.specs.Following.{HasSame}
use Rattle.hs_deletion.proofs.SumLemmas.{sum_by_map, sum_by_filter}

-- ---- the same in any order

pub same_none : {X : Type 0} → HasSame {X = X} [] []
same_none = record { into = λ x k. k; back = λ x k. k; sums = λ w. refl }

pub same_cons : {X : Type 0} (x : X) (xs ys : List X) → HasSame xs ys → HasSame (x ∷ xs) (x ∷ ys)
same_cons x xs ys s = record {
  into = λ z k. elim k [ inl e ↦ inl e | inr m ↦ inr (s.into z m) ];
  back = λ z k. elim k [ inl e ↦ inl e | inr m ↦ inr (s.back z m) ];
  sums = λ w. omega (arith, sum_by-cons w x xs, sum_by-cons w x ys, s.sums w);
}

pub same_map : {X Y : Type 0} (f : X → Y) (xs ys : List X) → HasSame xs ys → HasSame (map f xs) (map f ys)
same_map f xs ys s = record {
  into = λ y k. (let p = member_of_map f y xs k in rw (p.2) (member-map f p.0 ys (s.into p.0 p.1)));
  back = λ y k. (let p = member_of_map f y ys k in rw (p.2) (member-map f p.0 xs (s.back p.0 p.1)));
  sums = λ w. sum_by_map w f xs ∙ s.sums (λ x. w (f x)) ∙ sym (sum_by_map w f ys);
}

pub same_filter : {X : Type 0} (test : X → Bool) (xs ys : List X) → HasSame xs ys → HasSame (filter test xs) (filter test ys)
same_filter test xs ys s = record {
  into = λ x k. (let p = member_of_filter test x xs k in member-filter test x ys (s.into x p.0) p.1);
  back = λ x k. (let p = member_of_filter test x ys k in member-filter test x xs (s.back x p.0) p.1);
  sums = λ w. sum_by_filter w test xs ∙ s.sums (λ x. cond (test x) (w x) 0) ∙ sym (sum_by_filter w test ys);
}

-- ---- those that pass, after a change

-- where a change leaves in what passes, and does there as another does, and leaves out what does not
pub filter_map_agree : {X : Type 0} (p : X → Bool) (F G : X → X) → ((x : X) → p x ≡ true → (p (F x) ≡ true) × (F x ≡ G x)) → ((x : X) → p x ≡ false → p (F x) ≡ false) → (xs : List X) → filter p (map F xs) ≡ map G (filter p xs)
filter_map_agree p F G pass fail [] = refl
filter_map_agree {X = X} p F G pass fail (x ∷ xs) = go (cases_Bool (p x)) (filter_map_agree p F G pass fail xs)
  where
    go : (p x ≡ true) ⊎ (p x ≡ false) → filter p (map F xs) ≡ map G (filter p xs) → cond (p (F x)) (F x ∷ filter p (map F xs)) (filter p (map F xs)) ≡ map G (cond (p x) (x ∷ filter p xs) (filter p xs))
    go (inl t) ih = let y = pass x t in rw (t, y.0, y.1, ih) refl
    go (inr f) ih = rw (f, fail x f, ih) refl

-- a change that passes by what passes
pub filter_map_other : {X : Type 0} (p : X → Bool) (F : X → X) → ((x : X) → p x ≡ true → F x ≡ x) → ((x : X) → p x ≡ false → p (F x) ≡ false) → (xs : List X) → filter p (map F xs) ≡ filter p xs
filter_map_other p F pass fail xs = filter_map_agree p F (λ x. x) (λ x t. (ap p (pass x t) ∙ t, pass x t)) fail xs ∙ map-id (filter p xs)

-- where one test is another in what passes
pub filter_filter_agree : {X : Type 0} (p q r : X → Bool) → ((x : X) → p x ≡ true → q x ≡ r x) → (xs : List X) → filter p (filter q xs) ≡ filter r (filter p xs)
filter_filter_agree p q r agree [] = refl
filter_filter_agree {X = X} p q r agree (x ∷ xs) = go (cases_Bool (p x)) (filter_filter_agree p q r agree xs)
  where
    go : (p x ≡ true) ⊎ (p x ≡ false) → filter p (filter q xs) ≡ filter r (filter p xs) → filter p (cond (q x) (x ∷ filter q xs) (filter q xs)) ≡ filter r (cond (p x) (x ∷ filter p xs) (filter p xs))
    go (inl t) ih = rw (t, agree x t) (inner (r x) refl ih)
      where
        inner : (b : Bool) → r x ≡ b → filter p (filter q xs) ≡ filter r (filter p xs) → filter p (cond b (x ∷ filter q xs) (filter q xs)) ≡ cond b (x ∷ filter r (filter p xs)) (filter r (filter p xs))
        inner true e ih = rw (t, ih) refl
        inner false e ih = ih
    go (inr f) ih = rw f (inner (q x) ih)
      where
        inner : (b : Bool) → filter p (filter q xs) ≡ filter r (filter p xs) → filter p (cond b (x ∷ filter q xs) (filter q xs)) ≡ filter r (filter p xs)
        inner true ih = rw f ih
        inner false ih = ih

filter_everything : {X : Type 0} (xs : List X) → filter (λ x. true) xs ≡ xs
filter_everything [] = refl
filter_everything (x ∷ xs) = ap (λ zs. x ∷ zs) (filter_everything xs)

-- a test that passes all that passes
pub filter_filter_other : {X : Type 0} (p q : X → Bool) → ((x : X) → p x ≡ true → q x ≡ true) → (xs : List X) → filter p (filter q xs) ≡ filter p xs
filter_filter_other p q all xs = filter_filter_agree p q (λ x. true) all xs ∙ filter_everything (filter p xs)
