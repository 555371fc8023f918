-- Lists that have some of the elements of others, in their order.
use Rattle.std.proofs.Common.{◌≡◌, ◌⊎◌, inl, inr, List, [], ◌∷◌, ◌++◌, refl, sym, ap, subst}
use Rattle.std.specs.List.{AllByRecursion}
use Rattle.hs_fold.proofs.Shards.LawfulLemmas.{PairsBy}

abbrev pub Thins : {X : Type 0} → List X → List X → Type 0
Thins xs [] = xs ≡ []
Thins {X} xs (y ∷ ys) = Thins xs ys ⊎ ((rest : List X) × (xs ≡ y ∷ rest) × Thins rest ys)

module _ {X : Type 0} where
  pub thins_none : (ys : List X) → Thins [] ys
  thins_none [] = refl
  thins_none (y ∷ ys) = inl (thins_none ys)

  pub thins_front : (xs more : List X) → Thins xs (xs ++ more)
  thins_front [] more = thins_none more
  thins_front (x ∷ xs) more = inr (xs, refl, thins_front xs more)

  pub thins_append : (xs ys us vs : List X) → Thins xs ys → Thins us vs → Thins (xs ++ us) (ys ++ vs)
  thins_append xs [] us vs t u = subst (λ zs. Thins (zs ++ us) vs) (sym t) u
  thins_append xs (y ∷ ys) us vs (inl t) u = inl (thins_append xs ys us vs t u)
  thins_append xs (y ∷ ys) us vs (inr t) u = inr (t.0 ++ us, ap (λ zs. zs ++ us) t.1, thins_append t.0 ys us vs t.2 u)

  pub thins_each : (P : X → Type 0) (xs ys : List X) → Thins xs ys → AllByRecursion P ys → AllByRecursion P xs
  thins_each P xs [] t h = subst (λ zs. AllByRecursion P zs) (sym t) tt
  thins_each P xs (y ∷ ys) (inl t) h = thins_each P xs ys t h.1
  thins_each P xs (y ∷ ys) (inr t) h = subst (λ zs. AllByRecursion P zs) (sym t.1) (h.0, thins_each P t.0 ys t.2 h.1)

  pub thins_pairs : (R : X → X → Type 0) (xs ys : List X) → Thins xs ys → PairsBy R ys → PairsBy R xs
  thins_pairs R xs [] t h = subst (λ zs. PairsBy R zs) (sym t) tt
  thins_pairs R xs (y ∷ ys) (inl t) h = thins_pairs R xs ys t h.1
  thins_pairs R xs (y ∷ ys) (inr t) h = subst (λ zs. PairsBy R zs) (sym t.1) (thins_each (R y) t.0 ys t.2 h.0, thins_pairs R t.0 ys t.2 h.1)
