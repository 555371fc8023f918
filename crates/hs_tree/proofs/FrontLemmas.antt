-- What is written while a file is stored is a front of the blocks of its whole tree, however it goes on.
use Rattle.std.proofs.Common.{◌≡◌, ◌⊎◌, inl, inr, ℕ, ◌+◌, ◌*◌, ◌<◌, ◌≤◌, List, [], ◌∷◌, ◌++◌, zero, suc, refl, sym, ap, ◌∙◌, subst, length, take, drop, arith, append-nil, append_assoc, length-append}
use Rattle.std.proofs.lemmas.Grind.{flat_map-append}
use Rattle.std.specs.List.{concat, flat_map}
use Rattle.hs_asking.specs.Shown.{Shown}
use Rattle.hs_limits.specs.Block.{Block}
use Rattle.hs_limits.specs.declared.address.Address.{Address}
use Rattle.hs_tree.proofs.FinishLemmas.{cut-most, cut-some}
use Rattle.hs_tree.proofs.RunsLemmas.{concat-last, full_cut_last, height-0, height-1, height-2, length-full, runs-concat, runs-cons, runs-one, span-0, span-1}
use Rattle.hs_tree.proofs.StoreLemmas.{file-count, no_length, places-last}
use Rattle.hs_tree.specs.Growing.{piece_at, places_at, run_at, tree_below}
use Rattle.hs_tree.specs.Storing.{AreFull, IsCut, IsGathering}
use Rattle.hs_tree.specs.Trees.{height, node, runs, runs_in, span, stored_cut, tree, tree_of}
use Rattle.hs_tree.specs.declared.grow.Node.{Node}

le_or : (m n : ℕ) → (m ≤ n) ⊎ (n < m)
le_or zero n = inl (omega arith)
le_or (suc m) zero = inr (omega arith)
le_or (suc m) (suc n) = go (le_or m n)
  where
    go : (m ≤ n) ⊎ (n < m) → (suc m ≤ suc n) ⊎ (suc n < suc m)
    go (inl h) = inl (omega (arith, h))
    go (inr h) = inr (omega (arith, h))

-- ---- runs of a list in which whole runs come first

runs-full : (n : ℕ) (cs : List (List ℕ)) (rest : List ℕ) → 0 < n → AreFull n cs → runs n (concat cs ++ rest) ≡ cs ++ runs n rest
runs-full n [] rest p h = refl
runs-full n (c ∷ cs) rest p h = ap (λ z. runs n z) (append_assoc c (concat cs) rest) ∙ (runs-cons n c (concat cs ++ rest) p h.0 ∙ ap (λ z. c ∷ z) (runs-full n cs rest p h.1))

-- the first run
runs-first : (n : ℕ) (xs : List ℕ) → 0 < length xs → (rest : List (List ℕ)) × (runs n xs ≡ take n xs ∷ rest)
unfolding runs
runs-first n [] p = absurd (omega (arith, p))
runs-first n (x ∷ xs) p = (runs_in (length xs) n (drop n (x ∷ xs)), refl)

take-over : (n : ℕ) (xs more : List ℕ) → length xs ≤ n → (m : ℕ) × (take n (xs ++ more) ≡ xs ++ take m more)
take-over n [] more h = (n, refl)
take-over zero (x ∷ xs) more h = absurd (omega (arith, h))
take-over (suc n) (x ∷ xs) more h = let r = take-over n xs more (omega (arith, h)) in (r.0, ap (λ z. x ∷ z) r.1)

-- ---- fronts of trees

abbrev pub IsFront : List Block → List Block → Type 0
IsFront blocks all = (rest : List Block) × (blocks ++ rest ≡ all)

module _ (name : List ℕ → Address) where
  pub places_trees : (h : ℕ) (cs : List (List ℕ)) → flat_map (tree_below name) (places_at h cs) ≡ flat_map (tree stored_cut name h) cs
  places_trees h [] = refl
  places_trees h (c ∷ cs) = ap (λ z. tree stored_cut name h c ++ z) (places_trees h cs)

  tree_at : (file : List ℕ) (h : ℕ) → height stored_cut (length file) ≡ h → tree_of stored_cut name file ≡ tree stored_cut name h file
  unfolding tree_of
  tree_at file h e = ap (λ z. tree stored_cut name z file) e

  tree-suc : (h : ℕ) (file : List ℕ) → tree stored_cut name (suc h) file ≡ flat_map (tree stored_cut name h) (runs (span stored_cut h) file) ++ node stored_cut name (suc h) file ∷ []
  unfolding tree
  tree-suc h file = refl

  -- the trees of the first runs
  front_below : (h : ℕ) (file : List ℕ) (ps qs : List (List ℕ)) → runs (span stored_cut h) file ≡ ps ++ qs → IsFront (flat_map (tree stored_cut name h) ps) (tree stored_cut name (suc h) file)
  front_below h file ps qs e =
      let last : List Block = node stored_cut name (suc h) file ∷ [] in
      let f : List (List ℕ) → List Block = flat_map (tree stored_cut name h) in (
        f qs ++ last,
        sym (append_assoc (f ps) (f qs) last) ∙ (ap (λ z. z ++ last) (sym (flat_map-append (tree stored_cut name h) ps qs) ∙ ap f (sym e)) ∙ sym (tree-suc h file)),
      )

  -- and those of the first pieces of the next run
  front_within : (file : List ℕ) (tops : List (List ℕ)) (c : List ℕ) (rest ps qs : List (List ℕ)) → runs 4194304 file ≡ tops ++ c ∷ rest → runs 65536 c ≡ ps ++ qs → IsFront (flat_map (tree stored_cut name 1) tops ++ flat_map (tree stored_cut name 0) ps) (tree stored_cut name 2 file)
  front_within file tops c rest ps qs e k =
      let f : List (List ℕ) → List Block = flat_map (tree stored_cut name 1) in
      let ft : List Block = f tops in
      let fp : List Block = flat_map (tree stored_cut name 0) ps in
      let last : List Block = node stored_cut name 2 file ∷ [] in
      let within : IsFront fp (tree stored_cut name 1 c) = front_below 0 c ps qs (ap (λ n. runs n c) span-0 ∙ k) in
      let end : List Block = f rest ++ last in
      let all : f tops ++ f (c ∷ rest) ≡ f (runs (span stored_cut 1) file) = sym (flat_map-append (tree stored_cut name 1) tops (c ∷ rest)) ∙ ap f (sym e ∙ ap (λ n. runs n file) (sym span-1)) in
      let near : (ft ++ fp) ++ (within.0 ++ end) ≡ ft ++ ((fp ++ within.0) ++ end) = append_assoc ft fp (within.0 ++ end) ∙ ap (λ z. ft ++ z) (sym (append_assoc fp within.0 end)) in
      let same : ft ++ ((fp ++ within.0) ++ end) ≡ ft ++ (tree stored_cut name 1 c ++ end) = ap (λ z. ft ++ (z ++ end)) within.1 in
      let far : ft ++ (tree stored_cut name 1 c ++ end) ≡ (ft ++ f (c ∷ rest)) ++ last = ap (λ z. ft ++ z) (sym (append_assoc (tree stored_cut name 1 c) (f rest) last)) ∙ sym (append_assoc ft (tree stored_cut name 1 c ++ f rest) last) in
      (within.0 ++ end, near ∙ (same ∙ (far ∙ (ap (λ z. z ++ last) all ∙ sym (tree-suc 1 file)))))

  -- of one run, the first pieces
  front_low : (file : List ℕ) (ps qs : List (List ℕ)) → 0 < length file → length file ≤ 4194304 → runs 65536 file ≡ ps ++ qs → IsFront (flat_map (tree stored_cut name 0) ps) (tree_of stored_cut name file)
  front_low file ps qs some few e = elim (le_or (length file) 65536) [
    | inl short ↦ (
      flat_map (tree stored_cut name 0) qs,
      sym (flat_map-append (tree stored_cut name 0) ps qs) ∙ (ap (λ z. flat_map (tree stored_cut name 0) z) (sym e ∙ runs-one 65536 file some short) ∙ (append-nil (tree stored_cut name 0 file) ∙ sym (tree_at file 0 (height-0 (length file) short)))),
    )
    | inr long ↦ subst (λ z. IsFront (flat_map (tree stored_cut name 0) ps) z) (sym (tree_at file 1 (height-1 (length file) long few))) (front_below 0 file ps qs (ap (λ n. runs n file) span-0 ∙ e))
  ]

  -- whole runs
  pub front_tops : (file : List ℕ) (tops rest : List (List ℕ)) → runs 4194304 file ≡ tops ++ rest → (0 < length tops → 65536 < length file) → IsFront (flat_map (tree stored_cut name 1) tops) (tree_of stored_cut name file)
  front_tops file [] rest e long = (tree_of stored_cut name file, refl)
  front_tops file (t ∷ ts) rest e long = let more : 65536 < length file = long (omega arith) in elim (le_or (length file) 4194304) [
    | inl few ↦ (
      flat_map (tree stored_cut name 1) rest,
      sym (flat_map-append (tree stored_cut name 1) (t ∷ ts) rest) ∙ (ap (λ z. flat_map (tree stored_cut name 1) z) (sym e ∙ runs-one 4194304 file (omega (arith, more)) few) ∙ (append-nil (tree stored_cut name 1 file) ∙ sym (tree_at file 1 (height-1 (length file) more few)))),
    )
    | inr many ↦ subst (λ z. IsFront (flat_map (tree stored_cut name 1) (t ∷ ts)) z) (sym (tree_at file 2 (height-2 (length file) many))) (front_below 1 file (t ∷ ts) rest (ap (λ n. runs n file) span-1 ∙ e))
  ]

  one_run : (file : List ℕ) (tops : List (List ℕ)) (c : List ℕ) (rest : List (List ℕ)) → file ∷ [] ≡ tops ++ c ∷ rest → (tops ≡ []) × (c ≡ file)
  one_run file [] c rest e = (refl, let k : file ≡ c = cc e in sym k)
  one_run file (t ∷ []) c rest e = cc e
  one_run file (t ∷ u ∷ ts) c rest e = cc e

  no_run : (tops : List (List ℕ)) (c : List ℕ) (rest : List (List ℕ)) → [] ≡ tops ++ c ∷ rest → ⊥
  no_run [] c rest e = cc e
  no_run (t ∷ ts) c rest e = cc e

  runs-nil : (xs : List ℕ) → length xs ≡ 0 → runs 4194304 xs ≡ []
  unfolding runs
  runs-nil [] e = refl
  runs-nil (x ∷ xs) e = absurd (omega (arith, e))

  -- whole runs, and the first pieces of the next one
  pub front_pieces : (file : List ℕ) (tops : List (List ℕ)) (c : List ℕ) (rest ps qs : List (List ℕ)) → runs 4194304 file ≡ tops ++ c ∷ rest → runs 65536 c ≡ ps ++ qs → IsFront (flat_map (tree stored_cut name 1) tops ++ flat_map (tree stored_cut name 0) ps) (tree_of stored_cut name file)
  front_pieces [] tops c rest ps qs e k = absurd (no_run tops c rest (sym (runs-nil [] refl) ∙ e))
  front_pieces (x ∷ xs) tops c rest ps qs e k = elim (le_or (length (x ∷ xs)) 4194304) [
    | inl few ↦
        let one = one_run (x ∷ xs) tops c rest (sym (runs-one 4194304 (x ∷ xs) (omega arith) few) ∙ e) in
        subst (λ z. IsFront (flat_map (tree stored_cut name 1) z ++ flat_map (tree stored_cut name 0) ps) (tree_of stored_cut name (x ∷ xs))) (sym one.0) (front_low (x ∷ xs) ps qs (omega arith) few (ap (λ z. runs 65536 z) (sym one.1) ∙ k))
    | inr many ↦ subst (λ z. IsFront (flat_map (tree stored_cut name 1) tops ++ flat_map (tree stored_cut name 0) ps) z) (sym (tree_at (x ∷ xs) 2 (height-2 (length (x ∷ xs)) many))) (front_within (x ∷ xs) tops c rest ps qs e k)
  ]

  trees_of : (tops pieces : List (List ℕ)) → flat_map (tree_below name) (places_at 1 tops ++ places_at 0 pieces) ≡ flat_map (tree stored_cut name 1) tops ++ flat_map (tree stored_cut name 0) pieces
  trees_of tops pieces = flat_map-append (tree_below name) (places_at 1 tops) (places_at 0 pieces) ∙ (λ i. places_trees 1 tops i ++ places_trees 0 pieces i)

  -- ---- of a file that is being taken

  -- however it goes on
  pub front_so_far : (tops pieces : List (List ℕ)) (more : List ℕ) → AreFull 4194304 tops → AreFull 65536 pieces → length pieces ≤ 64 → IsFront (flat_map (tree_below name) (places_at 1 tops ++ places_at 0 pieces)) (tree_of stored_cut name ((concat tops ++ concat pieces) ++ more))
  front_so_far tops [] more full none few =
      let file : List ℕ = concat tops ++ ([] ++ more) in
      let is : file ≡ (concat tops ++ []) ++ more = sym (append_assoc (concat tops) [] more) in
      let count : length file ≡ length (concat tops) + length more = length-append (concat tops) more in
      let whole : length (concat tops) ≡ 4194304 * length tops = length-full 4194304 tops full in
      subst (λ z. IsFront z (tree_of stored_cut name ((concat tops ++ []) ++ more))) (sym (trees_of tops [] ∙ append-nil (flat_map (tree stored_cut name 1) tops)))
      (subst (λ z. IsFront (flat_map (tree stored_cut name 1) tops) (tree_of stored_cut name z)) is (front_tops file tops (runs 4194304 more) (runs-full 4194304 tops more (omega arith) full) (λ p. omega (arith, count, whole, p))))
  front_so_far tops (p ∷ ps) more full whole few =
      let pieces : List (List ℕ) = p ∷ ps in
      let last_bytes : List ℕ = concat pieces in
      let is : concat tops ++ (last_bytes ++ more) ≡ (concat tops ++ last_bytes) ++ more = sym (append_assoc (concat tops) last_bytes more) in
      let size : length last_bytes ≡ 65536 * length pieces = length-full 65536 pieces whole in
      let count : length (last_bytes ++ more) ≡ length last_bytes + length more = length-append last_bytes more in
      let first = runs-first 4194304 (last_bytes ++ more) (omega (arith, size, count)) in
      let over = take-over 4194304 last_bytes more (omega (arith, size, few)) in
      subst (λ z. IsFront z (tree_of stored_cut name ((concat tops ++ last_bytes) ++ more))) (sym (trees_of tops pieces))
      (subst (λ z. IsFront (flat_map (tree stored_cut name 1) tops ++ flat_map (tree stored_cut name 0) pieces) (tree_of stored_cut name z)) is
      (front_pieces (concat tops ++ (last_bytes ++ more)) tops (take 4194304 (last_bytes ++ more)) first.0 pieces (runs 65536 (take over.0 more))
      (runs-full 4194304 tops (last_bytes ++ more) (omega arith) full ∙ ap (λ z. tops ++ z) first.1)
      (ap (λ z. runs 65536 z) over.1 ∙ runs-full 65536 pieces (take over.0 more) (omega arith) whole)))

  -- where its last piece is written
  pub front_piece : (tops pieces : List (List ℕ)) → AreFull 4194304 tops → IsCut 65536 pieces → 0 < length pieces → length pieces ≤ 64 → IsFront (flat_map (tree_below name) (places_at 1 tops ++ places_at 0 pieces)) (tree_of stored_cut name (concat tops ++ concat pieces))
  front_piece tops pieces full cut some few =
      let last_bytes : List ℕ = concat pieces in
      let bytes : 0 < length last_bytes = cut-some 65536 pieces (omega arith) cut some in
      let most : length last_bytes ≤ 65536 * length pieces = cut-most 65536 pieces cut in
      let all : concat (tops ++ last_bytes ∷ []) ≡ concat tops ++ last_bytes = concat-last tops last_bytes in
      let parts : runs 4194304 (concat tops ++ last_bytes) ≡ tops ++ last_bytes ∷ [] = ap (λ z. runs 4194304 z) (sym all) ∙ runs-concat 4194304 (tops ++ last_bytes ∷ []) (omega arith) (full_cut_last 4194304 tops last_bytes full bytes (omega (arith, most, few))) in
      subst (λ z. IsFront z (tree_of stored_cut name (concat tops ++ last_bytes))) (sym (trees_of tops pieces))
      (front_pieces (concat tops ++ last_bytes) tops last_bytes [] pieces [] parts (runs-concat 65536 pieces (omega arith) cut ∙ sym (append-nil pieces)))

  -- where its runs are closed
  pub front_closed : (tops : List (List ℕ)) (c : List ℕ) → (file : List ℕ) (rest : List (List ℕ)) → runs 4194304 file ≡ (tops ++ c ∷ []) ++ rest → 65536 < length file → IsFront (flat_map (tree_below name) (places_at 1 tops ++ record { height = 1; bytes = c } ∷ [])) (tree_of stored_cut name file)
  front_closed tops c file rest parts long =
      let trees : flat_map (tree_below name) (places_at 1 tops ++ record { height = 1; bytes = c } ∷ []) ≡ flat_map (tree stored_cut name 1) (tops ++ c ∷ []) = ap (λ z. flat_map (tree_below name) z) (sym (places-last 1 tops c)) ∙ places_trees 1 (tops ++ c ∷ []) in
      subst (λ z. IsFront z (tree_of stored_cut name file)) (sym trees) (front_tops file (tops ++ c ∷ []) rest parts (λ p. long))

  -- ---- the same of a storing

  module _ {tells : Type 0} (session : List ℕ) (start now : Shown tells) (upper lower : List Node) (file : List ℕ) (g : IsGathering name session start now upper lower file) where
    pub front_taking : (more : List ℕ) → IsFront (flat_map (tree_below name) (places_at 1 g.tops ++ places_at 0 g.pieces)) (tree_of stored_cut name (file ++ more))
    front_taking more = subst (λ z. IsFront (flat_map (tree_below name) (places_at 1 g.tops ++ places_at 0 g.pieces)) (tree_of stored_cut name (z ++ more))) g.whole (front_so_far g.tops g.pieces more g.full_tops g.full_pieces g.few)

    no_piece : (tops pieces : List (List ℕ)) → tops ≡ [] → pieces ≡ [] → flat_map (tree_below name) ((places_at 1 tops ++ places_at 0 pieces) ++ piece_at [] ∷ []) ≡ tree stored_cut name 0 []
    no_piece tops pieces e f = ap (λ z. flat_map (tree_below name) ((places_at 1 z ++ places_at 0 pieces) ++ piece_at [] ∷ [])) e ∙ (ap (λ z. flat_map (tree_below name) (places_at 0 z ++ piece_at [] ∷ [])) f ∙ append-nil (tree stored_cut name 0 []))

    -- a piece is added
    pub front_adding : (piece : List ℕ) → length g.pieces < 64 → length piece ≤ 65536 → (length piece ≡ 0 → length file ≡ 0) → IsFront (flat_map (tree_below name) ((places_at 1 g.tops ++ places_at 0 g.pieces) ++ piece_at piece ∷ [])) (tree_of stored_cut name (file ++ piece))
    front_adding [] room short first =
        let count = file-count name session start now upper lower file g in
        let empty : length file ≡ 0 = first refl in
        let none : file ≡ [] = no_length file empty in
        let tops : g.tops ≡ [] = no_length g.tops (omega (arith, count, empty)) in
        let pieces : g.pieces ≡ [] = no_length g.pieces (omega (arith, count, empty)) in
        let is : tree_of stored_cut name (file ++ []) ≡ tree stored_cut name 0 [] = ap (λ z. tree_of stored_cut name (z ++ [])) none ∙ tree_at [] 0 (height-0 0 (omega arith)) in
        ([], append-nil (flat_map (tree_below name) ((places_at 1 g.tops ++ places_at 0 g.pieces) ++ piece_at [] ∷ [])) ∙ (no_piece g.tops g.pieces tops pieces ∙ sym is))
    front_adding (x ∷ xs) room short first =
        let piece : List ℕ = x ∷ xs in
        let pieces : List (List ℕ) = g.pieces ++ piece ∷ [] in
        let more : length pieces ≡ length g.pieces + 1 = length-append g.pieces (piece ∷ []) in
        let places : (places_at 1 g.tops ++ places_at 0 g.pieces) ++ piece_at piece ∷ [] ≡ places_at 1 g.tops ++ places_at 0 pieces = append_assoc (places_at 1 g.tops) (places_at 0 g.pieces) (piece_at piece ∷ []) ∙ ap (λ z. places_at 1 g.tops ++ z) (sym (places-last 0 g.pieces piece)) in
        let whole : concat g.tops ++ concat pieces ≡ file ++ piece = ap (λ z. concat g.tops ++ z) (concat-last g.pieces piece) ∙ (sym (append_assoc (concat g.tops) (concat g.pieces) piece) ∙ ap (λ z. z ++ piece) g.whole) in
        subst (λ z. IsFront (flat_map (tree_below name) z) (tree_of stored_cut name (file ++ piece))) (sym places)
        (subst (λ z. IsFront (flat_map (tree_below name) (places_at 1 g.tops ++ places_at 0 pieces)) (tree_of stored_cut name z)) whole
        (front_piece g.tops pieces g.full_tops (full_cut_last 65536 g.pieces piece g.full_pieces (omega arith) short) (omega (arith, more)) (omega (arith, more, room))))

    -- a whole run is closed
    pub front_closing : (more : List ℕ) → length g.pieces ≡ 64 → IsFront (flat_map (tree_below name) (places_at 1 g.tops ++ run_at 0 g.pieces ∷ [])) (tree_of stored_cut name (file ++ more))
    front_closing more full =
        let last_bytes : List ℕ = concat g.pieces in
        let size : length last_bytes ≡ 65536 * length g.pieces = length-full 65536 g.pieces g.full_pieces in
        let tops : List (List ℕ) = g.tops ++ last_bytes ∷ [] in
        let all : concat tops ≡ file = concat-last g.tops last_bytes ∙ g.whole in
        let full_tops : AreFull 4194304 tops = full_last g.tops last_bytes g.full_tops (omega (arith, size, full)) in
        let parts : runs 4194304 (file ++ more) ≡ tops ++ runs 4194304 more = ap (λ z. runs 4194304 (z ++ more)) (sym all) ∙ runs-full 4194304 tops more (omega arith) full_tops in
        let count = file-count name session start now upper lower file g in
        let longer : length (file ++ more) ≡ length file + length more = length-append file more in
        front_closed g.tops last_bytes (file ++ more) (runs 4194304 more) parts (omega (arith, count, full, longer))
      where
        full_last : (cs : List (List ℕ)) (c : List ℕ) → AreFull 4194304 cs → length c ≡ 4194304 → AreFull 4194304 (cs ++ c ∷ [])
        full_last [] c h e = (e, tt)
        full_last (d ∷ cs) c h e = (h.0, full_last cs c h.1 e)
