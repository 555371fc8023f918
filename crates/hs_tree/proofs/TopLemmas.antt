-- The top of a gathered file, from what closing its runs does.
use Rattle.std.proofs.Common.{◌≡◌, ℕ, ◌+◌, ◌*◌, ◌-◌, ◌<◌, ◌≤◌, List, [], ◌∷◌, ◌++◌, zero, suc, refl, sym, ap, ◌∙◌, subst, length, get_or, arith, tests, length-append, true, false, ◌==◌}
use Rattle.std.specs.List.{concat, flat_map}
use Rattle.hs_asking.specs.Shown.{Shown}
use Rattle.hs_limits.specs.declared.address.Address.{Address}
use Rattle.hs_tree.proofs.FinishLemmas.{alone, below_is, counted_tops, few_tops, grown_tops, last_run, runs_tops, second, several_pieces, third, third_front, top_run}
use Rattle.hs_tree.proofs.FrontLemmas.{front_closed}
use Rattle.hs_tree.proofs.PartLemmas.{grown_named}
use Rattle.hs_tree.specs.Growing.{HasTop, IsGrown, IsHalted, IsNamedBy, places_at, run_at, tree_below}
use Rattle.hs_tree.proofs.StopLemmas.{halts_within}
use Rattle.hs_tree.specs.Steps.{CloseStops, ClosesRun, IsRun}
use Rattle.hs_tree.specs.Storing.{IsGathered, IsWhole}
use Rattle.hs_tree.specs.Trees.{stored_cut, tree_of}
use Rattle.hs_tree.specs.declared.fault.TreeFault.{TreeFault}
use Rattle.hs_tree.specs.declared.grow.Node.{Node}

pub one_is : (xs : List Node) (n : Node) → length xs ≡ 1 → n ≡ get_or xs 0 n → xs ≡ n ∷ []
one_is [] n e k = absurd (omega (arith, e))
one_is (x ∷ []) n e k = ap (λ z. z ∷ []) (sym k)
one_is (x ∷ y ∷ xs) n e k = absurd (omega (arith, e))

pub zero_from : (n : ℕ) → (n == 0) ≡ true → n ≡ 0
zero_from n h = grind (arith, tests, h)

pub not_zero : (n : ℕ) → (n == 0) ≡ false → n ≡ 0 → ⊥
not_zero n h e = let k : (n == 0) ≡ true = grind (arith, tests, e) in cc (h, k)

two : (n : ℕ) → 0 < n → (n ≡ 1 → ⊥) → 2 ≤ n
two zero p q = absurd (omega (arith, p))
two (suc zero) p q = absurd (q refl)
two (suc (suc n)) p q = omega arith

-- of every file that was gathered
abbrev pub Ends : {tells : Type 0} → (List ℕ → Address) → List ℕ → Shown tells → Shown tells → List Node → List Node → ℕ → Node → Type 0
Ends {tells} name session old new upper lower bytes n = (start : Shown tells) (file : List ℕ) → IsGathered name session start old upper lower file → bytes ≡ length file → HasTop name session start new n file

abbrev pub EndStops : {tells : Type 0} → (List ℕ → Address) → List ℕ → Shown tells → Shown tells → List Node → List Node → ℕ → TreeFault → Type 0
EndStops {tells} name session old new upper lower bytes f = (key : List ℕ) (start : Shown tells) (file : List ℕ) → IsGathered name session start old upper lower file → bytes ≡ length file → IsHalted name session key start new (tree_of stored_cut name file) f

module _ {tells : Type 0} (name : List ℕ → Address) (session : List ℕ) (old : Shown tells) (upper lower : List Node) (bytes : ℕ) (whole : IsWhole name session old upper lower bytes) where
  fits : (file : List ℕ) → bytes ≡ length file → length file ≤ 67108864
  fits file e = let k : bytes ≤ 67108864 = whole.fits in omega (arith, k, e)

  pub whole_named : IsNamedBy name session old lower
  whole_named = grown_named name session whole.start old upper lower (places_at 1 whole.gathered.tops ++ places_at 0 whole.gathered.pieces) whole.gathered.grown

  pub whole_few : length upper ≤ 16
  whole_few = few_tops name session whole.start old upper lower whole.file whole.gathered (fits whole.file whole.counted)

  pub whole_least : length upper * 4194304 ≤ bytes
  whole_least =
      let e : length whole.file - length upper * 4194304 ≡ length (concat whole.gathered.pieces) = below_is name session whole.start old upper lower whole.file whole.gathered (fits whole.file whole.counted) in
      let c = counted_tops name session whole.start old upper lower whole.file whole.gathered (fits whole.file whole.counted) in
      let k : bytes ≡ length whole.file = whole.counted in
      omega (arith, c, k)

  pub whole_lower : length lower ≤ 64
  whole_lower = let l : length lower ≡ length whole.gathered.pieces = whole.gathered.lowers in let f : length whole.gathered.pieces ≤ 64 = whole.gathered.few in omega (arith, l, f)

  pub ends_alone : (n : Node) → upper ≡ [] → length lower ≡ 1 → n ≡ get_or lower 0 n → Ends name session old old upper lower bytes n
  ends_alone n none one at start file g e = alone name session start old upper lower file g (fits file e) n none (one_is lower n one at)

  module _ (more : length upper ≡ 0 → length lower ≡ 1 → ⊥) (below : ℕ) (is : below ≡ bytes - length upper * 4194304) where
    run_is : (start : Shown tells) (file : List ℕ) (g : IsGathered name session start old upper lower file) → bytes ≡ length file → IsRun upper (places_at 1 g.tops) 0 g.pieces below
    run_is start file g e =
        let r = last_run name session start old upper lower file g (fits file e) more in
        let b : length file - length upper * 4194304 ≡ length (concat g.pieces) = below_is name session start old upper lower file g (fits file e) in
        record { counted = r.counted; cut = r.cut; below = is ∙ (ap (λ z. z - length upper * 4194304) e ∙ b) }

    room : length (upper ++ lower) + 1 ≤ 81
    room = let a = whole_few in let b = whole_lower in let c : length (upper ++ lower) ≡ length upper + length lower = length-append upper lower in omega (arith, a, b, c)

    pub first_stops : (new : Shown tells) (f : TreeFault) → CloseStops name session old new below lower upper f → EndStops name session old new upper lower bytes f
    first_stops new f h key start file g e =
        halts_within name session key start new (flat_map (tree_below name) (places_at 1 g.tops ++ run_at 0 g.pieces ∷ [])) (tree_of stored_cut name file) f
        (front_closed name g.tops (concat g.pieces) file [] (runs_tops name session start old upper lower file g (fits file e) more) (several_pieces name session start old upper lower file g (fits file e) more))
        (h key start (places_at 1 g.tops) 0 g.pieces (run_is start file g e) room g.grown)

    module _ (mid : Shown tells) (after : List Node) (closes : ClosesRun name session old mid below lower upper after) (one : length after ≡ length upper + 1) where
      grown : (start : Shown tells) (file : List ℕ) (g : IsGathered name session start old upper lower file) → bytes ≡ length file → IsGrown name session start mid after (places_at 1 g.tops ++ run_at 0 g.pieces ∷ [])
      grown start file g e = closes start (places_at 1 g.tops) 0 g.pieces (run_is start file g e) room g.grown

      pub ends_second : (n : Node) → length after ≡ 1 → n ≡ get_or after 0 n → Ends name session old mid upper lower bytes n
      ends_second n single at start file g e = second name session start old upper lower file g (fits file e) more mid after (grown start file g e) one n (one_is after n single at)

      pub few_after : length after ≤ 64
      few_after = let a = whole_few in omega (arith, a, one)

      pub named_after : IsNamedBy name session mid after
      named_after = grown_named name session whole.start mid [] after (places_at 1 whole.gathered.tops ++ run_at 0 whole.gathered.pieces ∷ []) (grown whole.start whole.file whole.gathered whole.counted)

      top_is : (start : Shown tells) (file : List ℕ) (g : IsGathered name session start old upper lower file) → (e : bytes ≡ length file) → IsRun [] [] 1 (g.tops ++ concat g.pieces ∷ []) bytes
      top_is start file g e =
          let r = top_run name session start old upper lower file g (fits file e) more mid after (grown start file g e) one in
          record { counted = r.counted; cut = r.cut; below = e ∙ r.below }

      room_after : length ([] ++ after) + 1 ≤ 81
      room_after = let a = few_after in omega (arith, a)

      pub second_stops : (none : List Node) → none ≡ [] → (length after ≡ 1 → ⊥) → (new : Shown tells) (f : TreeFault) → CloseStops name session mid new bytes after none f → EndStops name session old new upper lower bytes f
      second_stops none n several new f h key start file g e =
          subst (λ z. IsHalted name session key start new z f) (third_front name session start old upper lower file g (fits file e) more mid after (grown start file g e) one (two (length after) (omega (arith, one)) several))
          ((subst (λ z. CloseStops name session mid new bytes after z f) n h) key start [] 1 (g.tops ++ concat g.pieces ∷ []) (top_is start file g e) room_after (grown_tops name session start old upper lower file g (fits file e) more mid after (grown start file g e) one))

      pub ends_third : (none : List Node) → none ≡ [] → (new : Shown tells) (last : List Node) (top : Node) → ClosesRun name session mid new bytes after none last → length last ≡ length none + 1 → (length after ≡ 1 → ⊥) → top ≡ get_or last 0 top → Ends name session old new upper lower bytes top
      ends_third none n new last top h single several at start file g e =
          let closes : ClosesRun name session mid new bytes after [] last = subst (λ z. ClosesRun name session mid new bytes after z last) n h in
          let there = closes start [] 1 (g.tops ++ concat g.pieces ∷ []) (top_is start file g e) room_after (grown_tops name session start old upper lower file g (fits file e) more mid after (grown start file g e) one) in
          let empty : length none ≡ 0 = ap (λ z. length z) n in
          third name session start old upper lower file g (fits file e) more mid after (grown start file g e) one new top last there (one_is last top (omega (arith, single, empty)) at) (two (length after) (omega (arith, one)) several)
