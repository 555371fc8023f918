-- Places in lists, and sums over the shards from the first one on.
use Rattle.std.proofs.Common.{◌≡◌, inl, inr, ℕ, zero, suc, ◌+◌, ◌<◌, List, [], ◌∷◌, length, take, Some, refl, sym, subst, arith, slice_set}
use Rattle.std.proofs.lemmas.Grind.{common_steps}
use Rattle.std.specs.List.{AllByRecursion}
use Rattle.std.specs.Prelude.{slice_get}
use Rattle.hs_model.proofs.Members.{Member}
use Rattle.hs_deletion.specs.Machine.{sum_below}
use Rattle.hs_fold.specs.Runs.Facts.{Catalogue, empty_catalogue}
use Rattle.hs_fold.specs.Runs.Fits.{catalogue_at}

-- ---- lists

pub stands_at : {X : Type 0} (xs : List X) (k : ℕ) → k < length xs → (x : X) × (slice_get xs k ≡ Some x)
stands_at [] k l = absurd (omega (arith, l))
stands_at (x ∷ xs) zero l = (x, refl)
stands_at (x ∷ xs) (suc k) l = stands_at xs k (grind (arith, common_steps, l))

pub each_member : {X : Type 0} (P : X → Type 0) (xs : List X) → ((x : X) → Member x xs → P x) → AllByRecursion P xs
each_member P [] h = tt
each_member P (x ∷ xs) h = (h x (inl refl), each_member P xs (λ y k. h y (inr k)))

pub each_of : {X : Type 0} (P : X → Type 0) (xs : List X) → AllByRecursion P xs → (x : X) → Member x xs → P x
each_of P [] h x m = elim m [ ]
each_of P (y ∷ ys) h x (inl e) = subst P (sym e) h.0
each_of P (y ∷ ys) h x (inr m) = each_of P ys h.1 x m

pub take_each : {X : Type 0} (P : X → Type 0) (k : ℕ) (xs : List X) → AllByRecursion P xs → AllByRecursion P (take k xs)
take_each P zero [] h = tt
take_each P zero (x ∷ xs) h = tt
take_each P (suc k) [] h = tt
take_each P (suc k) (x ∷ xs) h = (h.0, take_each P k xs h.1)

-- ---- catalogues of all shards

pub each_at : (P : Catalogue → Type 0) (cs : List Catalogue) → ((k : ℕ) → k < length cs → P (catalogue_at cs k)) → AllByRecursion P cs
each_at P [] h = tt
each_at P (c ∷ cs) h = (h 0 (omega arith), each_at P cs (λ k low. h (suc k) (omega (arith, low))))

pub set_each : (P : Catalogue → Type 0) (cs : List Catalogue) (k : ℕ) (d : Catalogue) → AllByRecursion P cs → P d → AllByRecursion P (slice_set cs k d)
set_each P [] k d h p = tt
set_each P (c ∷ cs) zero d h p = (p, h.1)
set_each P (c ∷ cs) (suc k) d h p = (h.0, set_each P cs k d h.1 p)

pub here_each : (P : Catalogue → Type 0) (cs : List Catalogue) → AllByRecursion P cs → P empty_catalogue → (k : ℕ) → P (catalogue_at cs k)
here_each P [] h none k = none
here_each P (c ∷ cs) h none zero = h.0
here_each P (c ∷ cs) h none (suc k) = here_each P cs h.1 none k

-- ---- sums

pub sum_below_zero : (f : ℕ → ℕ) → sum_below 0 f ≡ 0
unfolding sum_below
sum_below_zero f = refl

pub sum_below_front : (n : ℕ) (f : ℕ → ℕ) → sum_below (suc n) f ≡ f 0 + sum_below n (λ k. f (suc k))
unfolding sum_below
sum_below_front zero f = refl
sum_below_front (suc n) f = let rest = sum_below_front n f in omega (arith, rest)

pub sum_below_plus : (n : ℕ) (f h : ℕ → ℕ) → sum_below n (λ k. f k + h k) ≡ sum_below n f + sum_below n h
unfolding sum_below
sum_below_plus zero f h = refl
sum_below_plus (suc n) f h = let rest = sum_below_plus n f h in omega (arith, rest)
