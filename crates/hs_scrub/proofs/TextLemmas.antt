-- Lines of peers, one after another.
use Rattle.std.proofs.Common.{◌≡◌, ◌<◌, ℕ, zero, suc, ◌+◌, ◌/◌, List, [], ◌∷◌, ◌++◌, length, get_or, take, ap, sym, ◌∙◌, arith, append_assoc}
use Rattle.std.specs.Prelude.{slice_index_or}
use Rattle.std.specs.List.{enumerate_from, flat_map}
use Rattle.std.proofs.lemmas.List.{append-nil}
use Rattle.hs_scrub.specs.declared.mark.PeerMark.{PeerMark}
use Rattle.hs_scrub.specs.Text.{line_of, lines_of}

module _ (copies : ℕ) (lengths : List ℕ) where
  abbrev one : ℕ → PeerMark → List ℕ
  one peer mark = line_of (slice_index_or lengths (peer / copies) 0) peer mark

  -- the lines of some peers, whose first has this number
  abbrev lines_from : ℕ → List PeerMark → List ℕ
  lines_from n marks = flat_map (λ x. line_of (slice_index_or lengths (x.0 / copies) 0) x.0 x.1) (enumerate_from n marks)

  -- one peer more is its line more
  lines_suc : (n k : ℕ) (marks : List PeerMark) (d : PeerMark) → k < length marks
      → lines_from n (take (suc k) marks) ≡ lines_from n (take k marks) ++ one (n + k) (get_or marks k d)
  lines_suc n k [] d below = absurd (omega arith)
  lines_suc n zero (mark ∷ marks) d below =
      let e : n ≡ n + 0 = omega arith in append-nil (one n mark) ∙ ap (λ m. one m mark) e
  lines_suc n (suc k) (mark ∷ marks) d below =
      let e : n + 1 + k ≡ n + suc k = omega arith in
      ap (λ t. one n mark ++ t) (lines_suc (n + 1) k marks d (omega arith) ∙ ap (λ m. lines_from (n + 1) (take k marks) ++ one m (get_or marks k d)) e)
      ∙ sym (append_assoc (one n mark) (lines_from (n + 1) (take k marks)) (one (n + suc k) (get_or marks k d)))

  -- the same from 0, behind what stood there
  pub lines_more : (k n : ℕ) (marks : List PeerMark) (d : PeerMark) (start out : List ℕ) → k < length marks → n ≡ slice_index_or lengths (k / copies) 0
      → out ≡ start ++ lines_of copies lengths (take k marks)
      → out ++ line_of n k (get_or marks k d) ≡ start ++ lines_of copies lengths (take (k + 1) marks)
  lines_more k n marks d start out below is so_far =
      let on : suc k ≡ k + 1 = omega arith in
      let from : k ≡ 0 + k = omega arith in
      ap (λ m. out ++ line_of m k (get_or marks k d)) is
      ∙ ap (λ t. t ++ one k (get_or marks k d)) so_far
      ∙ append_assoc start (lines_from 0 (take k marks)) (one k (get_or marks k d))
      ∙ ap (λ t. start ++ t) (ap (λ m. lines_from 0 (take k marks) ++ one m (get_or marks k d)) from ∙ (sym (lines_suc 0 k marks d below) ∙ ap (λ m. lines_from 0 (take m marks)) on))
