-- Words drawn one after another.
use Rattle.std.proofs.Common.{◌≡◌, ◌<◌, ℕ, suc, ◌-◌, ◌+◌, ◌%◌, List, [], ◌∷◌, ◌++◌, map, sym, subst, ◌∙◌, arith, append_assoc}
use Rattle.rand_core.specs.Stream.{Stream, next_u64}
use Rattle.hs_script.specs.Plans.{drawn_words}

-- one word more is a leaf more, and one less is left to draw
pub one_more : (n k x : ℕ) (xs zs : List ℕ) (s t : Stream) → k < n → (x, t) ≡ next_u64 s
    → xs ++ map (λ word. word % 4096) (drawn_words (n - k) s) ≡ zs
    → (xs ++ (x % 4096) ∷ []) ++ map (λ word. word % 4096) (drawn_words (n - (k + 1)) t) ≡ zs
one_more n k x xs zs s t below next so_far =
    let e : n - k ≡ suc (n - (k + 1)) = omega arith in
    let f : xs ++ map (λ word. word % 4096) (drawn_words (suc (n - (k + 1))) s) ≡ zs = subst (λ (m : ℕ). xs ++ map (λ word. word % 4096) (drawn_words m s) ≡ zs) e so_far in
    append_assoc xs ((x % 4096) ∷ []) (map (λ word. word % 4096) (drawn_words (n - (k + 1)) t))
    ∙ (subst (λ (p : ℕ × Stream). xs ++ (p.0 % 4096) ∷ map (λ word. word % 4096) (drawn_words (n - (k + 1)) p.1) ≡ zs) (sym next) f)
