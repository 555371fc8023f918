-- Lines of writers, one after another.
use Rattle.std.proofs.Common.{◌≡◌, ◌<◌, ℕ, zero, suc, ◌+◌, List, [], ◌∷◌, ◌++◌, length, get_or, take, ap, sym, ◌∙◌, arith, append_assoc}
use Rattle.std.specs.List.{enumerate_from, flat_map}
use Rattle.std.proofs.lemmas.List.{append-nil}
use Rattle.hs_script.specs.declared.sums.WriterSum.{WriterSum}
use Rattle.hs_script.specs.Summary.{writer_text}

-- the lines of some writers, whose first has this number
abbrev pub lines_from : ℕ → List WriterSum → List ℕ
lines_from n sums = flat_map (λ w. writer_text w.0 w.1) (enumerate_from n sums)

-- one writer more is its line more
lines_suc : (n k : ℕ) (sums : List WriterSum) (d : WriterSum) → k < length sums
    → lines_from n (take (suc k) sums) ≡ lines_from n (take k sums) ++ writer_text (n + k) (get_or sums k d)
lines_suc n k [] d below = absurd (omega arith)
lines_suc n zero (sum ∷ sums) d below =
    let e : n ≡ n + 0 = omega arith in append-nil (writer_text n sum) ∙ ap (λ m. writer_text m sum) e
lines_suc n (suc k) (sum ∷ sums) d below =
    let e : n + 1 + k ≡ n + suc k = omega arith in
    ap (λ t. writer_text n sum ++ t) (lines_suc (n + 1) k sums d (omega arith) ∙ ap (λ m. lines_from (n + 1) (take k sums) ++ writer_text m (get_or sums k d)) e)
    ∙ sym (append_assoc (writer_text n sum) (lines_from (n + 1) (take k sums)) (writer_text (n + suc k) (get_or sums k d)))

-- the same from 0, behind what stood there
pub lines_more : (k : ℕ) (sums : List WriterSum) (d : WriterSum) (start out : List ℕ) → k < length sums
    → out ≡ start ++ lines_from 0 (take k sums)
    → out ++ writer_text k (get_or sums k d) ≡ start ++ lines_from 0 (take (k + 1) sums)
lines_more k sums d start out below so_far =
    let on : suc k ≡ k + 1 = omega arith in
    let from : k ≡ 0 + k = omega arith in
    ap (λ t. t ++ writer_text k (get_or sums k d)) so_far
    ∙ append_assoc start (lines_from 0 (take k sums)) (writer_text k (get_or sums k d))
    ∙ ap (λ t. start ++ t) (ap (λ m. lines_from 0 (take k sums) ++ writer_text m (get_or sums k d)) from ∙ (sym (lines_suc 0 k sums d below) ∙ ap (λ m. lines_from 0 (take m sums)) on))
