-- Disks put at the end of others, and whether another run has them.
use Rattle.std.proofs.Common.{◌≡◌, Bool, true, false, List, [], ◌∷◌, ◌++◌, refl}
use Rattle.std.specs.List.{list_all, list_any}
use Rattle.std.proofs.lemmas.List.Folds.{list_all-append, list_any-append}

-- where the test fails on all it fails with one more on which it fails
pub any_pushed : {X : Type 0} (test : X → Bool) (xs : List X) (x : X) → list_any test xs ≡ false → test x ≡ false → list_any test (xs ++ x ∷ []) ≡ false
any_pushed test xs x none e = rw (list_any-append test xs (x ∷ []), none, e) refl

-- where it holds on all it holds with one more on which it holds
pub all_pushed : {X : Type 0} (test : X → Bool) (xs : List X) (x : X) → list_all test xs ≡ true → test x ≡ true → list_all test (xs ++ x ∷ []) ≡ true
all_pushed test xs x all e = rw (list_all-append test xs (x ∷ []), all, e) refl

-- where it fails on all of two it fails on both together
pub none_of_both : {X : Type 0} (test : X → Bool) (xs ys : List X) → list_any test xs ≡ false → list_any test ys ≡ false → list_any test (xs ++ ys) ≡ false
none_of_both test xs ys none none' = rw (list_any-append test xs ys, none, none') refl
