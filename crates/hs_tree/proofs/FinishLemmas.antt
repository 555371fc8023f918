-- A gathered file is finished: its top is the only block that is held.
use Rattle.std.proofs.Common.{◌≡◌, ◌⊎◌, inl, inr, ℕ, ◌+◌, ◌*◌, ◌-◌, ◌<◌, ◌≤◌, List, [], ◌∷◌, ◌++◌, zero, suc, refl, sym, ap, ◌∙◌, subst, length, arith, append-nil, length-append}
use Rattle.std.specs.List.{concat, flat_map}
use Rattle.hs_asking.specs.Shown.{Shown}
use Rattle.hs_limits.specs.declared.address.Address.{Address}
use Rattle.hs_tree.proofs.RunsLemmas.{concat-last, full_cut_last, height-0, height-1, height-2, length-full, runs-concat, span-0, span-1}
use Rattle.hs_tree.proofs.StoreLemmas.{no_length, places-count, places-last}
use Rattle.hs_tree.specs.Growing.{HasTop, IsGrown, places_at, run_at, tree_below}
use Rattle.hs_tree.specs.Steps.{IsRun}
use Rattle.hs_tree.specs.Storing.{IsCut, IsGathered}
use Rattle.hs_tree.specs.Trees.{height, runs, stored_cut, tree_of}
use Rattle.hs_tree.specs.declared.grow.Node.{Node}

pub cut-most : (n : ℕ) (cs : List (List ℕ)) → IsCut n cs → length (concat cs) ≤ n * length cs
cut-most n [] h = omega arith
cut-most n (c ∷ []) h =
    let k : length c ≤ n = h.1 in
    let e : length (c ++ []) ≡ length c + 0 = length-append c [] in
    omega (arith, k, e)
cut-most n (c ∷ d ∷ cs) h =
    let k : length c ≡ n = h.0 in
    let rest : length (concat (d ∷ cs)) ≤ n * length (d ∷ cs) = cut-most n (d ∷ cs) h.1 in
    let e : length (c ++ concat (d ∷ cs)) ≡ length c + length (concat (d ∷ cs)) = length-append c (concat (d ∷ cs)) in
    omega (arith, k, rest, e)

pub cut-some : (n : ℕ) (cs : List (List ℕ)) → 0 < n → IsCut n cs → 0 < length cs → 0 < length (concat cs)
cut-some n [] p h l = absurd (omega (arith, l))
cut-some n (c ∷ []) p h l =
    let k : 0 < length c = h.0 in
    let e : length (c ++ []) ≡ length c + 0 = length-append c [] in
    omega (arith, k, e)
cut-some n (c ∷ d ∷ cs) p h l =
    let k : length c ≡ n = h.0 in
    let e : length (c ++ concat (d ∷ cs)) ≡ length c + length (concat (d ∷ cs)) = length-append c (concat (d ∷ cs)) in
    omega (arith, k, p, e)

cut-more : (n : ℕ) (cs : List (List ℕ)) → 0 < n → IsCut n cs → 2 ≤ length cs → n < length (concat cs)
cut-more n [] p h l = absurd (omega (arith, l))
cut-more n (c ∷ []) p h l = absurd (omega (arith, l))
cut-more n (c ∷ d ∷ cs) p h l =
    let k : length c ≡ n = h.0 in
    let rest : 0 < length (concat (d ∷ cs)) = cut-some n (d ∷ cs) p h.1 (omega arith) in
    let e : length (c ++ concat (d ∷ cs)) ≡ length c + length (concat (d ∷ cs)) = length-append c (concat (d ∷ cs)) in
    omega (arith, k, rest, e)

module _ {tells : Type 0} (name : List ℕ → Address) (session : List ℕ) (start old : Shown tells) (upper lower : List Node) (file : List ℕ) (g : IsGathered name session start old upper lower file) (fits : length file ≤ 67108864) where
  pub counted_tops : length file ≡ 4194304 * length g.tops + length (concat g.pieces)
  counted_tops =
      let t : length (concat g.tops) ≡ 4194304 * length g.tops = length-full 4194304 g.tops g.full_tops in
      let both : length (concat g.tops ++ concat g.pieces) ≡ length (concat g.tops) + length (concat g.pieces) = length-append (concat g.tops) (concat g.pieces) in
      let whole : length (concat g.tops ++ concat g.pieces) ≡ length file = ap (λ z. length z) g.whole in
      omega (arith, t, both, whole)

  pub few_tops : length upper ≤ 16
  few_tops = let c = counted_tops in let u : length upper ≡ length g.tops = g.uppers in omega (arith, c, u, fits)

  -- what is below the open pieces
  pub below_is : length file - length upper * 4194304 ≡ length (concat g.pieces)
  below_is = let c = counted_tops in let u : length upper ≡ length g.tops = g.uppers in omega (arith, c, u)

  -- a file of one piece
  pub alone : (n : Node) → upper ≡ [] → lower ≡ n ∷ [] → HasTop name session start old n file
  alone n none one = go g.tops g.pieces g.grown g.cut g.whole (sym g.uppers ∙ ap (λ z. length z) none) (sym g.lowers ∙ ap (λ z. length z) one)
    where
      go : (tops pieces : List (List ℕ)) → IsGrown name session start old (upper ++ lower) (places_at 1 tops ++ places_at 0 pieces) → IsCut 65536 pieces ⊎ (tops ≡ []) × (pieces ≡ [] ∷ []) → concat tops ++ concat pieces ≡ file → length tops ≡ 0 → length pieces ≡ 1 → HasTop name session start old n file
      go (t ∷ tops) pieces grown cut whole a b = absurd (omega (arith, a))
      go [] [] grown cut whole a b = absurd (omega (arith, b))
      go [] (c ∷ d ∷ cs) grown cut whole a b = absurd (omega (arith, b))
      go [] (c ∷ []) grown cut whole a b =
          let file_is : c ≡ file = sym (append-nil c) ∙ whole in
          let short : length c ≤ 65536 = elim cut [ inl h ↦ h.1 | inr h ↦ one_short c h.1 ] in
          let level : 0 ≡ height stored_cut (length file) = sym (height-0 (length file) (subst (λ z. length z ≤ 65536) file_is short)) in
          let nodes : upper ++ lower ≡ n ∷ [] = λ i. none i ++ one i in
          let place : record { height = 0; bytes = c } ≡ record { height = height stored_cut (length file); bytes = file } = λ i. record { height = level i; bytes = file_is i } in
          subst (λ z. IsGrown name session start old (n ∷ []) (z ∷ [])) place (subst (λ z. IsGrown name session start old z (record { height = 0; bytes = c } ∷ [])) nodes grown)
        where
          one_short : (c : List ℕ) → c ∷ [] ≡ [] ∷ [] → length c ≤ 65536
          one_short c e = let k : c ≡ [] = cc e in let l : length c ≡ 0 = ap (λ z. length z) k in omega (arith, l)

  -- the pieces are a run
  module _ (more : (length upper ≡ 0) → (length lower ≡ 1) → ⊥) where
    is_cut : IsCut 65536 g.pieces
    is_cut = elim g.cut [ inl h ↦ h | inr h ↦ absurd (more (g.uppers ∙ ap (λ z. length z) h.0) (g.lowers ∙ ap (λ z. length z) h.1)) ]

    pub last_run : IsRun upper (places_at 1 g.tops) 0 g.pieces (length (concat g.pieces))
    last_run = record {
      counted = g.uppers ∙ sym (places-count 1 g.tops);
      cut = ap (λ n. runs n (concat g.pieces)) span-0 ∙ runs-concat 65536 g.pieces (omega arith) is_cut;
      below = refl;
    }

    abbrev pub tops : List (List ℕ)
    tops = g.tops ++ concat g.pieces ∷ []

    whole_tops : concat tops ≡ file
    whole_tops = concat-last g.tops (concat g.pieces) ∙ g.whole

    tops_cut : IsCut 4194304 tops
    tops_cut =
        let some : 0 < length (concat g.pieces) = cut-some 65536 g.pieces (omega arith) is_cut g.some in
        let most : length (concat g.pieces) ≤ 65536 * length g.pieces = cut-most 65536 g.pieces is_cut in
        let few : length g.pieces ≤ 64 = g.few in
        full_cut_last 4194304 g.tops (concat g.pieces) g.full_tops some (omega (arith, most, few))

    -- it is longer than a piece
    pub several_pieces : 65536 < length file
    several_pieces =
        let c = counted_tops in
        let u : length upper ≡ length g.tops = g.uppers in
        let l : length lower ≡ length g.pieces = g.lowers in
        go g.tops g.pieces is_cut g.some c (λ a b. more (u ∙ a) (l ∙ b))
      where
        go : (tops pieces : List (List ℕ)) → IsCut 65536 pieces → 0 < length pieces → length file ≡ 4194304 * length tops + length (concat pieces) → (length tops ≡ 0 → length pieces ≡ 1 → ⊥) → 65536 < length file
        go (t ∷ tops) pieces cut some c none = omega (arith, c)
        go [] [] cut some c none = absurd (omega (arith, some))
        go [] (p ∷ []) cut some c none = absurd (none refl refl)
        go [] (p ∷ q ∷ ps) cut some c none = let k : 65536 < length (concat (p ∷ q ∷ ps)) = cut-more 65536 (p ∷ q ∷ ps) (omega arith) cut (omega arith) in omega (arith, c, k)

    pub runs_tops : runs 4194304 file ≡ tops ++ []
    runs_tops = ap (λ z. runs 4194304 z) (sym whole_tops) ∙ (runs-concat 4194304 tops (omega arith) tops_cut ∙ sym (append-nil tops))

    -- after it is closed
    module _ (mid : Shown tells) (after : List Node) (grown : IsGrown name session start mid after (places_at 1 g.tops ++ run_at 0 g.pieces ∷ [])) (counted : length after ≡ length upper + 1) where
      pub second : (n : Node) → after ≡ n ∷ [] → HasTop name session start mid n file
      second n one =
          let u : length upper ≡ length g.tops = g.uppers in
          let l : length lower ≡ length g.pieces = g.lowers in
          let single : length after ≡ 1 = ap (λ z. length z) one in
          let none : g.tops ≡ [] = no_length g.tops (omega (arith, counted, u, single)) in
          let none_length : length g.tops ≡ 0 = ap (λ z. length z) none in
          let file_is : concat g.pieces ≡ file = ap (λ z. concat z ++ concat g.pieces) (sym none) ∙ g.whole in
          let upper_none : length upper ≡ 0 = u ∙ none_length in
          let several : 2 ≤ length g.pieces = two (length g.pieces) g.some (λ e. more upper_none (l ∙ e)) in
          let above : 65536 < length (concat g.pieces) = cut-more 65536 g.pieces (omega arith) is_cut several in
          let most : length (concat g.pieces) ≤ 65536 * length g.pieces = cut-most 65536 g.pieces is_cut in
          let few : length g.pieces ≤ 64 = g.few in
          let same : length (concat g.pieces) ≡ length file = ap (λ z. length z) file_is in
          let level : 1 ≡ height stored_cut (length file) = sym (height-1 (length file) (omega (arith, above, same)) (omega (arith, most, few, same))) in
          let place : places_at 1 g.tops ++ run_at 0 g.pieces ∷ [] ≡ record { height = height stored_cut (length file); bytes = file } ∷ [] = ap (λ z. places_at 1 z ++ run_at 0 g.pieces ∷ []) none ∙ (λ i. record { height = level i; bytes = file_is i } ∷ []) in
          subst (λ z. IsGrown name session start mid z (record { height = height stored_cut (length file); bytes = file } ∷ [])) one (subst (λ z. IsGrown name session start mid after z) place grown)
        where
          two : (n : ℕ) → 0 < n → (n ≡ 1 → ⊥) → 2 ≤ n
          two zero p q = absurd (omega (arith, p))
          two (suc zero) p q = absurd (q refl)
          two (suc (suc n)) p q = omega arith

      pub grown_tops : IsGrown name session start mid ([] ++ after) ([] ++ places_at 1 tops)
      grown_tops = subst (λ z. IsGrown name session start mid after z) (sym (places-last 1 g.tops (concat g.pieces))) grown

      pub top_run : IsRun [] [] 1 tops (length file)
      top_run = record {
        counted = refl;
        cut = ap (λ n. runs n (concat tops)) span-1 ∙ runs-concat 4194304 tops (omega arith) tops_cut;
        below = ap (λ z. length z) (sym whole_tops);
      }

      third_place : 2 ≤ length after → run_at 1 tops ≡ record { height = height stored_cut (length file); bytes = file }
      third_place several =
          let u : length upper ≡ length g.tops = g.uppers in
          let c = counted_tops in
          let some : 0 < length (concat g.pieces) = cut-some 65536 g.pieces (omega arith) is_cut g.some in
          let level : 2 ≡ height stored_cut (length file) = sym (height-2 (length file) (omega (arith, c, u, counted, several, some))) in
          let file_is : concat tops ≡ file = whole_tops in
          λ i. record { height = level i; bytes = file_is i }

      -- the top above it is the last block of the tree
      pub third_front : 2 ≤ length after → flat_map (tree_below name) ([] ++ run_at 1 tops ∷ []) ≡ tree_of stored_cut name file
      unfolding tree_of
      third_front several = append-nil (tree_below name (run_at 1 tops)) ∙ ap (λ z. tree_below name z) (third_place several)

      pub third : (new : Shown tells) (n : Node) (last : List Node) → IsGrown name session start new last ([] ++ run_at 1 tops ∷ []) → last ≡ n ∷ [] → 2 ≤ length after → HasTop name session start new n file
      third new n last there one several =
          subst (λ z. IsGrown name session start new z (record { height = height stored_cut (length file); bytes = file } ∷ [])) one (subst (λ z. IsGrown name session start new last (z ∷ [])) (third_place several) there)
