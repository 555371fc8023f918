-- Of a shard's peers the log of greatest rank is taken, and the first of equals: where some peer has one there is such a peer, and it stays so where other logs count as blank.
use Rattle.std.proofs.Common.{◌≡◌, ◌∙◌, ◌⊎◌, inl, inr, ap, sym, subst, ℕ, zero, suc, ◌+◌, ◌*◌, ◌-◌, ◌<◌, ◌≤◌, not, Bool, true, false, cond, List, [], ◌∷◌, Option, Some, None, refl, length, drop, take, get_or, arith}
use Rattle.std.proofs.lemmas.Bool.{cases_eq}
use Rattle.std.proofs.lemmas.Bool.Decides.{nat_tests}
use Rattle.std.proofs.lemmas.List.{get_or-drop, get_or-map, get_or-take, length-drop, length-map, length-take-le}
use Rattle.std.specs.List.{enumerate_from, range_with_len}
use Rattle.std.specs.Option.{option_map_or}
use Rattle.std.specs.Prelude.{find, if◌then◌else◌, slice_index_or, unwrap_or}
use Rattle.hs_cluster.proofs.TakenLemmas.{above_or_least, chosen_at as chosen_of_shard, none_above, none_below}
use Rattle.hs_entry.specs.declared.rank.Rank.{Rank}
use Rattle.hs_entry.specs.Entries.{rank_of}
use Rattle.hs_events.specs.Sane.{IsFromOne}
use Rattle.hs_events.specs.Taken.{is_best, or_blank, taken_list}
use Rattle.hs_fold.specs.Opened.{chosen, chosen_each, outranks}
use Rattle.hs_fold.specs.Shards.Setting.{Numbered}
use Rattle.hs_limits.specs.declared.shape.Shape.{Shape}
use Rattle.hs_limits.specs.Shape.{peer_of}
use Rattle.hs_moments.proofs.WorkLemmas.{last_is}
use Rattle.hs_taking.proofs.ChoiceLemmas.{shard_within}
use Rattle.hs_taking.proofs.ChosenLemmas.{chosen_at}
use Rattle.hs_taking.proofs.GreatestLemmas.{not_above_back}

-- ---- the first of a range that passes

pub record FoundFirst (p : ℕ → Bool) (a c : ℕ) : Type 0 where
  pub at : ℕ
  pub is : find p (range_with_len a c) ≡ Some at
  pub from : a ≤ at
  pub to : at < a + c
  pub passes : p at ≡ true
  pub first : (j : ℕ) → a ≤ j → j < at → p j ≡ false

pub find_there : (p : ℕ → Bool) (a c j : ℕ) → a ≤ j → j < a + c → p j ≡ true → FoundFirst p a c
find_there p a zero j low high is = absurd (omega (arith, low, high))
find_there p a (suc c) j low high is = go (p a) refl (λ next. find_there p (a + 1) c j next (omega (arith, high)) is)
  where
    other : (q : ℕ) → p a ≡ false → p q ≡ true → (a ≡ q → ⊥)
    other q misses passes same = let both : true ≡ false = sym passes ∙ ap p (sym same) ∙ misses in cc both

    go : (b : Bool) → p a ≡ b → (a + 1 ≤ j → FoundFirst p (a + 1) c) → FoundFirst p a (suc c)
    go true e rest = record {
      at = a;
      is = ap (λ b. if b then Some a else find p (range_with_len (a + 1) c)) e;
      from = omega arith;
      to = omega arith;
      passes = e;
      first = λ k from to. absurd (omega (arith, from, to));
    }
    go false e rest =
        let differs : a ≡ j → ⊥ = other j e is in
        let later : FoundFirst p (a + 1) c = rest (omega (arith, low, differs)) in
        let f = later.from in
        let t = later.to in
        record {
          at = later.at;
          is = ap (λ b. if b then Some a else find p (range_with_len (a + 1) c)) e ∙ later.is;
          from = omega (arith, f);
          to = omega (arith, t);
          passes = later.passes;
          first = λ k from to. elim (cases_eq a k) [
            | inl here ↦ ap p (sym here) ∙ e
            | inr differs ↦ later.first k (omega (arith, from, differs)) to
          ];
        }

-- ---- ranks

not_true : (b : Bool) → not b ≡ true → b ≡ false
not_true true e = cc e
not_true false e = refl

pub not_false : (b : Bool) → not b ≡ false → b ≡ true
not_false true e = refl
not_false false e = cc e

-- what is not above one that is not above a third is not above that
below_further : (a b c : Rank) → outranks a b ≡ false → outranks b c ≡ false → outranks a c ≡ false
below_further a b c one two = grind (arith, nat_tests, one, two)

-- what one is above that is not above another, that other is above
above_other : (t a b : Rank) → outranks t a ≡ true → outranks t b ≡ false → outranks b a ≡ true
above_other t a b one two = grind (arith, nat_tests, one, two)

-- none is above the one that counts
greatest : (lists : List Numbered) (i : ℕ) → i < length lists → outranks (rank_of (get_or lists i [])) (rank_of (chosen lists)) ≡ false
greatest [] i low = absurd (omega (arith, low))
greatest (l ∷ ls) i low = go (outranks (rank_of (chosen ls)) (rank_of l)) refl i low (λ k below. greatest ls k below)
  where
    go : (b : Bool) → outranks (rank_of (chosen ls)) (rank_of l) ≡ b → (i : ℕ) → i < length (l ∷ ls) → ((k : ℕ) → k < length ls → outranks (rank_of (get_or ls k [])) (rank_of (chosen ls)) ≡ false)
        → outranks (rank_of (get_or (l ∷ ls) i [])) (rank_of (cond b (chosen ls) l)) ≡ false
    go true e zero low ih = not_above_back (rank_of (chosen ls)) (rank_of l) e
    go true e (suc k) low ih = ih k (omega (arith, low))
    go false e zero low ih = none_above (rank_of l)
    go false e (suc k) low ih = below_further (rank_of (get_or ls k [])) (rank_of (chosen ls)) (rank_of l) (ih k (omega (arith, low))) e

-- of the least rank a list that is numbered from 1 on has no entries
least_empty : (list : Numbered) → IsFromOne list → rank_of list ≡ record { view = 0; number = 0 } → list ≡ []
least_empty list one least =
    let count : (rank_of list).number ≡ length one.entries = ap (λ (es : Numbered). (rank_of es).number) one.counted ∙ last_is one.entries one.plain in
    let none : length one.entries ≡ 0 = sym count ∙ ap (λ (r : Rank). r.number) least in
    one.counted ∙ ap (λ es. enumerate_from 1 es) (no_entries one.entries none)
  where
    no_entries : {X : Type 0} (xs : List X) → length xs ≡ 0 → xs ≡ []
    no_entries [] e = refl
    no_entries (x ∷ xs) e = absurd (omega (arith, e))

-- ---- a shard

module _ (shape : Shape) (logs : List (Option Numbered)) (count : length logs ≡ shape.shards * shape.copies) (shard : ℕ) (low : shard < shape.shards) where
  abbrev start : ℕ
  start = peer_of shape shard 0

  -- the list of a peer, blank where it has no log
  abbrev pub list_by : ℕ → Numbered
  list_by peer = unwrap_or (slice_index_or logs peer None) []

  pub within : start + shape.copies ≤ shape.shards * shape.copies
  within = let w = shard_within shape shard low in omega (arith, w)

  -- the lists of its peers, of all lists
  abbrev pub part : List Numbered → List Numbered
  part lists = take shape.copies (drop (shard * shape.copies) lists)

  module _ (lists : List Numbered) (all : length lists ≡ shape.shards * shape.copies) where
    pub part_long : length (part lists) ≡ shape.copies
    part_long =
        let d = length-drop (shard * shape.copies) lists in
        let w = within in
        length-take-le shape.copies (drop (shard * shape.copies) lists) (omega (arith, d, w, all))

    pub part_at : (i : ℕ) → i < shape.copies → get_or (part lists) i [] ≡ slice_index_or lists (start + i) []
    part_at i less =
        get_or-take shape.copies (drop (shard * shape.copies) lists) i [] less ∙ get_or-drop (shard * shape.copies) lists i []
        ∙ ap (λ k. slice_index_or lists k []) (let same : shard * shape.copies + i ≡ start + i = omega arith in same)

  blank_long : length (or_blank logs) ≡ shape.shards * shape.copies
  blank_long = length-map logs (λ (log : Option Numbered). unwrap_or log []) ∙ count

  blank_at : (peer : ℕ) → peer < shape.shards * shape.copies → slice_index_or (or_blank logs) peer [] ≡ list_by peer
  blank_at peer less = get_or-map (λ (log : Option Numbered). unwrap_or log []) logs peer None [] (omega (arith, less, count))

  -- the one that counts
  abbrev pub top : Numbered
  top = chosen (part (or_blank logs))

  pub top_is : taken_list shape logs shard ≡ top
  top_is = chosen_of_shard shape.shards shard shape.copies (or_blank logs) low

  -- none is above it
  pub below_top : (peer : ℕ) → start ≤ peer → peer < start + shape.copies → outranks (rank_of (list_by peer)) (rank_of top) ≡ false
  below_top peer from to =
      let back : start + (peer - start) ≡ peer = omega (arith, from) in
      let w = within in
      let at : get_or (part (or_blank logs)) (peer - start) [] ≡ list_by peer =
      part_at (or_blank logs) blank_long (peer - start) (omega (arith, from, to)) ∙ ap (λ k. slice_index_or (or_blank logs) k []) back ∙ blank_at peer (omega (arith, to, w)) in
      subst (λ (l : Numbered). outranks (rank_of l) (rank_of top) ≡ false) at
      (greatest (part (or_blank logs)) (peer - start) (let long = part_long (or_blank logs) blank_long in omega (arith, long, from, to)))

  -- a peer with a log that it does not outrank is one whose log may be taken
  best_by : (peer : ℕ) (list : Numbered) → slice_index_or logs peer None ≡ Some list → outranks (rank_of top) (rank_of list) ≡ false → is_best shape logs shard peer ≡ true
  best_by peer list at below =
      ap (λ (o : Option Numbered). option_map_or (λ log. not (outranks (rank_of (taken_list shape logs shard)) (rank_of log))) o false) at
      ∙ ap (λ (l : Numbered). not (outranks (rank_of l) (rank_of list))) top_is
      ∙ ap not below

  -- the one that counts is of some peer, or is blank
  top_of : (top ≡ []) ⊎ ((i : ℕ) × (i < length (part (or_blank logs))) × (top ≡ get_or (part (or_blank logs)) i []))
  top_of = among (part (or_blank logs))
    where
      among : (lists : List Numbered) → (chosen lists ≡ []) ⊎ ((i : ℕ) × (i < length lists) × (chosen lists ≡ get_or lists i []))
      among [] = inl refl
      among (l ∷ ls) = go (outranks (rank_of (chosen ls)) (rank_of l)) (among ls)
        where
          go : (b : Bool) → (chosen ls ≡ []) ⊎ ((i : ℕ) × (i < length ls) × (chosen ls ≡ get_or ls i [])) → (cond b (chosen ls) l ≡ []) ⊎ ((i : ℕ) × (i < length (l ∷ ls)) × (cond b (chosen ls) l ≡ get_or (l ∷ ls) i []))
          go false ih = inr (0, omega arith, refl)
          go true (inl none) = inl none
          go true (inr some) = let less = some.1 in inr (suc some.0, omega (arith, less), some.2)

  -- where some peer has a log one is taken
  pub taken_there : (peer : ℕ) (list : Numbered) → start ≤ peer → peer < start + shape.copies → slice_index_or logs peer None ≡ Some list → FoundFirst (is_best shape logs shard) start shape.copies
  taken_there peer list from to at = elim top_of [
    | inl none ↦ here none
    | inr some ↦ by_log some.0 (let long = part_long (or_blank logs) blank_long in let less = some.1 in omega (arith, less, long)) some.2 (slice_index_or logs (start + some.0) None) refl
  ]
    where
      here : top ≡ [] → FoundFirst (is_best shape logs shard) start shape.copies
      here none = find_there (is_best shape logs shard) start shape.copies peer from to
          (best_by peer list at (ap (λ (l : Numbered). outranks (rank_of l) (rank_of list)) none ∙ none_below (rank_of list)))

      by_log : (i : ℕ) → i < shape.copies → top ≡ get_or (part (or_blank logs)) i [] → (o : Option Numbered) → slice_index_or logs (start + i) None ≡ o → FoundFirst (is_best shape logs shard) start shape.copies
      by_log i less is None e = here (top_at ∙ ap (λ (o : Option Numbered). unwrap_or o []) e)
        where
          top_at : top ≡ list_by (start + i)
          top_at = is ∙ part_at (or_blank logs) blank_long i less ∙ blank_at (start + i) (let w = within in omega (arith, less, w))
      by_log i less is (Some l) e =
          let top_at : top ≡ l = is ∙ part_at (or_blank logs) blank_long i less ∙ blank_at (start + i) (let w = within in omega (arith, less, w)) ∙ ap (λ (o : Option Numbered). unwrap_or o []) e in
          find_there (is_best shape logs shard) start shape.copies (start + i) (omega arith) (omega (arith, less))
          (best_by (start + i) l e (ap (λ (x : Numbered). outranks (rank_of x) (rank_of l)) top_at ∙ none_above (rank_of l)))

  -- ---- of lists each of which is its peer's or blank, and that of the taken peer its own, the taken one counts

  module _ (numbered : (peer : ℕ) → start ≤ peer → peer < start + shape.copies → IsFromOne (list_by peer)) (found : FoundFirst (is_best shape logs shard) start shape.copies)
      (lists : List Numbered) (all : length lists ≡ shape.shards * shape.copies) (own : slice_index_or lists found.at [] ≡ list_by found.at)
      (each : (peer : ℕ) → start ≤ peer → peer < start + shape.copies → (slice_index_or lists peer [] ≡ list_by peer) ⊎ (slice_index_or lists peer [] ≡ [])) where
    abbrev best : ℕ
    best = found.at

    -- it is not below the one that counts
    not_below : outranks (rank_of top) (rank_of (list_by best)) ≡ false
    not_below = by_log (slice_index_or logs best None) refl found.passes
      where
        by_log : (o : Option Numbered) → slice_index_or logs best None ≡ o → option_map_or (λ log. not (outranks (rank_of (taken_list shape logs shard)) (rank_of log))) o false ≡ true → outranks (rank_of top) (rank_of (list_by best)) ≡ false
        by_log None e h = cc h
        by_log (Some list) e h =
            ap (λ (o : Option Numbered). outranks (rank_of top) (rank_of (unwrap_or o []))) e
            ∙ ap (λ (l : Numbered). outranks (rank_of l) (rank_of list)) (sym top_is)
            ∙ not_true (outranks (rank_of (taken_list shape logs shard)) (rank_of list)) h

    -- none is above it
    up : (peer : ℕ) → start ≤ peer → peer < start + shape.copies → outranks (rank_of (list_by peer)) (rank_of (list_by best)) ≡ false
    up peer from to = below_further (rank_of (list_by peer)) (rank_of top) (rank_of (list_by best)) (below_top peer from to) not_below

    above_blank : (outranks (rank_of (list_by best)) (rank_of []) ≡ true) ⊎ (list_by best ≡ [])
    above_blank = elim (above_or_least (rank_of (list_by best))) [
      | inl above ↦ inl above
      | inr least ↦ inr (least_empty (list_by best) (numbered best found.from found.to) least)
    ]

    -- it is above each before it, or equal to it
    before_own : (peer : ℕ) → start ≤ peer → peer < best → (outranks (rank_of (list_by best)) (rank_of (list_by peer)) ≡ true) ⊎ (list_by peer ≡ list_by best)
    before_own peer from less = by_log (slice_index_or logs peer None) refl (found.first peer from less)
      where
        by_log : (o : Option Numbered) → slice_index_or logs peer None ≡ o → option_map_or (λ log. not (outranks (rank_of (taken_list shape logs shard)) (rank_of log))) o false ≡ false
            → (outranks (rank_of (list_by best)) (rank_of (list_by peer)) ≡ true) ⊎ (list_by peer ≡ list_by best)
        by_log None e h = elim above_blank [
          | inl above ↦ inl (ap (λ (o : Option Numbered). outranks (rank_of (list_by best)) (rank_of (unwrap_or o []))) e ∙ above)
          | inr none ↦ inr (ap (λ (o : Option Numbered). unwrap_or o []) e ∙ sym none)
        ]
        by_log (Some list) e h =
            let above : outranks (rank_of top) (rank_of list) ≡ true =
            ap (λ (l : Numbered). outranks (rank_of l) (rank_of list)) (sym top_is) ∙ not_false (outranks (rank_of (taken_list shape logs shard)) (rank_of list)) h in
            inl (ap (λ (o : Option Numbered). outranks (rank_of (list_by best)) (rank_of (unwrap_or o []))) e ∙ above_other (rank_of top) (rank_of list) (rank_of (list_by best)) above not_below)

    -- the place of a peer among those of its shard
    at : (i : ℕ) → i < shape.copies → get_or (part lists) i [] ≡ slice_index_or lists (start + i) []
    at i less = part_at lists all i less

    place : ℕ
    place = best - start

    there : get_or (part lists) (best - start) [] ≡ list_by best
    there =
        let from = found.from in
        let to = found.to in
        let back : start + (best - start) ≡ best = omega (arith, from) in
        at (best - start) (omega (arith, from, to)) ∙ ap (λ k. slice_index_or lists k []) back ∙ own

    before : (i : ℕ) → i < best - start → (outranks (rank_of (get_or (part lists) (best - start) [])) (rank_of (get_or (part lists) i [])) ≡ true) ⊎ (get_or (part lists) i [] ≡ get_or (part lists) (best - start) [])
    before i less =
        let from = found.from in
        let to = found.to in
        let here : get_or (part lists) i [] ≡ slice_index_or lists (start + i) [] = at i (omega (arith, less, from, to)) in
        subst (λ (l : Numbered). (outranks (rank_of l) (rank_of (get_or (part lists) i [])) ≡ true) ⊎ (get_or (part lists) i [] ≡ l)) (sym there)
        (subst (λ (l : Numbered). (outranks (rank_of (list_by best)) (rank_of l) ≡ true) ⊎ (l ≡ list_by best)) (sym here)
        (elim (each (start + i) (omega arith) (omega (arith, less, from, to))) [
          | inl same ↦ subst (λ (l : Numbered). (outranks (rank_of (list_by best)) (rank_of l) ≡ true) ⊎ (l ≡ list_by best)) (sym same) (before_own (start + i) (omega arith) (omega (arith, less, from)))
          | inr none ↦ subst (λ (l : Numbered). (outranks (rank_of (list_by best)) (rank_of l) ≡ true) ⊎ (l ≡ list_by best)) (sym none) (blank above_blank)
        ]))
      where
        blank : (outranks (rank_of (list_by best)) (rank_of []) ≡ true) ⊎ (list_by best ≡ []) → (outranks (rank_of (list_by best)) (rank_of []) ≡ true) ⊎ ([] ≡ list_by best)
        blank (inl above) = inl above
        blank (inr none) = inr (sym none)

    all_up : (i : ℕ) → i < length (part lists) → outranks (rank_of (get_or (part lists) i [])) (rank_of (get_or (part lists) (best - start) [])) ≡ false
    all_up i less =
        let long = part_long lists all in
        let here : get_or (part lists) i [] ≡ slice_index_or lists (start + i) [] = at i (omega (arith, less, long)) in
        subst (λ (l : Numbered). outranks (rank_of (get_or (part lists) i [])) (rank_of l) ≡ false) (sym there)
        (subst (λ (l : Numbered). outranks (rank_of l) (rank_of (list_by best)) ≡ false) (sym here)
        (elim (each (start + i) (omega arith) (omega (arith, less, long))) [
          | inl same ↦ subst (λ (l : Numbered). outranks (rank_of l) (rank_of (list_by best)) ≡ false) (sym same) (up (start + i) (omega arith) (omega (arith, less, long)))
          | inr none ↦ subst (λ (l : Numbered). outranks (rank_of l) (rank_of (list_by best)) ≡ false) (sym none) (none_below (rank_of (list_by best)))
        ]))

    pub counts_still : slice_index_or (chosen_each shape.shards shape.copies lists) shard [] ≡ list_by found.at
    counts_still =
        let from = found.from in
        let to = found.to in
        let long = part_long lists all in
        chosen_of_shard shape.shards shard shape.copies lists low ∙ chosen_at (part lists) (best - start) (omega (arith, from, to, long)) before all_up ∙ there
