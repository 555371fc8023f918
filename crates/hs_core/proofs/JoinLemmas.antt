-- Changes by each of those that pass a test.
use Rattle.std.proofs.Common.{◌≡◌, refl, arith, ℕ, ◌+◌, ◌-◌, Bool, true, false, List, [], ◌∷◌, filter}
use Rattle.std.specs.List.{range_with_len}
use Rattle.hs_awaiting.specs.Words.{change_if, each}

pub each_filter : {A B : Type 0} (p : B → Bool) (f : B → A → A) (ys : List B) (x : A) → each (filter p ys) f x ≡ each ys (λ y. change_if (p y) (f y)) x
each_filter p f [] x = refl
each_filter {A = A} p f (y ∷ ys) x = go (p y) refl (each_filter p f ys)
  where
    go : (b : Bool) → p y ≡ b → ((z : A) → each (filter p ys) f z ≡ each ys (λ w. change_if (p w) (f w)) z)
        → each (filter p (y ∷ ys)) f x ≡ each (y ∷ ys) (λ z. change_if (p z) (f z)) x
    go true e rest = rw e (rest (f y x))
    go false e rest = rw e (rest x)

-- so many numbers from one on
pub range_from : (first n : ℕ) → range_with_len first (first + n - first) ≡ range_with_len first n
range_from first n =
    let e : first + n - first ≡ n = omega arith in
    rw e refl
