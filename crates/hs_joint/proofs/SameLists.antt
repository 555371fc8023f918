-- Lists that have the same, in any order.
use Rattle.std.proofs.Common.{◌≡◌, ℕ, zero, suc, List, [], ◌∷◌, map, inl, inr, refl, sym, ap, ◌∙◌, subst, arith}
use Rattle.std.specs.List.{insert}
use Rattle.std.specs.Prelude.{sum_by}
use Rattle.std.proofs.lemmas.List.Sums.{sum_by-cons}
use Rattle.hs_deletion.specs.Reached.{Member}
use Rattle.hs_deletion.specs.Following.{HasSame}

pub same_as : {X : Type 0} (xs ys : List X) → xs ≡ ys → HasSame xs ys
same_as xs ys e = record {
  into = λ x k. subst (λ l. Member x l) e k;
  back = λ x k. subst (λ l. Member x l) (sym e) k;
  sums = λ w. ap (λ l. sum_by w l) e;
}

pub same_then : {X : Type 0} (xs ys zs : List X) → HasSame xs ys → HasSame ys zs → HasSame xs zs
same_then xs ys zs s t = record {
  into = λ x k. t.into x (s.into x k);
  back = λ x k. s.back x (t.back x k);
  sums = λ w. s.sums w ∙ t.sums w;
}

pub same_swap : {X : Type 0} (x y : X) (xs ys : List X) → HasSame xs (y ∷ ys) → HasSame (x ∷ xs) (y ∷ x ∷ ys)
same_swap x y xs ys h = record {
  into = λ z k. elim k [ inl e ↦ inr (inl e) | inr q ↦ elim (h.into z q) [ inl e ↦ inl e | inr r ↦ inr (inr r) ] ];
  back = λ z k. elim k [ inl e ↦ inr (h.back z (inl e)) | inr (inl e) ↦ inl e | inr (inr r) ↦ inr (h.back z (inr r)) ];
  sums = λ w. omega (arith, sum_by-cons w x xs, sum_by-cons w y (x ∷ ys), sum_by-cons w x ys, sum_by-cons w y ys, h.sums w);
}

-- what is put anywhere may stand first
pub same_inserted : {X Y : Type 0} (f : X → Y) (xs : List X) (i : ℕ) (x : X) → HasSame (map f (insert xs i x)) (f x ∷ map f xs)
same_inserted f [] zero x = same_as (f x ∷ []) (f x ∷ []) refl
same_inserted f [] (suc i) x = same_as (f x ∷ []) (f x ∷ []) refl
same_inserted f (y ∷ xs) zero x = same_as (f x ∷ f y ∷ map f xs) (f x ∷ f y ∷ map f xs) refl
same_inserted f (y ∷ xs) (suc i) x = same_swap (f y) (f x) (map f (insert xs i x)) (map f xs) (same_inserted f xs i x)
