-- One entry more takes effect: what took effect goes on as the journal tells, and what waits waits still.
use Rattle.std.proofs.Common.{◌≡◌, ◌≢◌, inl, inr, ℕ, zero, suc, ◌+◌, ◌<◌, ◌≤◌, ◌==◌, Bool, true, false, cond, [], ◌∷◌, ◌++◌, length, take, drop, refl, sym, ap, ◌∙◌, subst, arith, length-append}
use Rattle.std.proofs.Math.Seq.{drop-append-add, drop-append_seam, take-append-add}
use Rattle.std.proofs.lemmas.Bool.{cases_eq, eq-eqb, ne_eqb}
use Rattle.std.proofs.lemmas.List.{take-append-drop, length-take-le, drop-take}
use Rattle.hs_entry.specs.declared.entry.Entry.{Entry}
use Rattle.hs_fold.specs.Shards.Setting.{Numbered}
use Rattle.hs_waiting.specs.Lists.{deeds_of, pending_deeds}
use Rattle.hs_standing.specs.Effect.{deed_of, one_more}
use Rattle.hs_standing.specs.Left.{AreFronts}
use Rattle.hs_standing.specs.Lists.{Lists, settled_from, waiting}
use Rattle.hs_standing.proofs.PartLemmas.{parted}

-- a front of a front leaves nothing
pub front_gone : (n : ℕ) (xs : Numbered) → drop n (take n xs) ≡ []
front_gone n xs = ap (λ m. drop n (take m xs)) (zero_right n) ∙ drop-take n 0 xs
  where
    zero_right : (m : ℕ) → m ≡ m + 0
    zero_right m = omega arith

module _ (lists : Lists) (g : ℕ) (e : ℕ × Entry) (rest : Numbered) (is : waiting lists g ≡ e ∷ rest) (long : lists.front g ≤ length (lists.whole g)) where
  abbrev later : Lists
  later = one_more lists g

  abbrev done : Numbered
  done = take (lists.front g) (lists.whole g)

  there : (k : ℕ) → k ≢ g → later.front k ≡ lists.front k
  there k differs = ap (λ b. cond b (lists.front k + 1) (lists.front k)) (ne_eqb k g differs)

  here : later.front g ≡ lists.front g + 1
  here = ap (λ b. cond b (lists.front g + 1) (lists.front g)) (eq-eqb g g refl)

  whole_is : lists.whole g ≡ done ++ (e ∷ rest)
  whole_is = sym (take-append-drop (lists.front g) (lists.whole g)) ∙ ap (λ es. done ++ es) is

  count : length done ≡ lists.front g
  count = length-take-le (lists.front g) (lists.whole g) long

  at : later.front g ≡ length done + 1
  at = here ∙ ap (λ n. n + 1) (sym count)

  pub later_done : take (later.front g) (lists.whole g) ≡ done ++ e ∷ []
  later_done = ap (λ n. take n (lists.whole g)) at ∙ ap (λ es. take (length done + 1) es) whole_is ∙ take-append-add done (e ∷ rest) 1

  pub later_back : waiting later g ≡ rest
  later_back = ap (λ n. drop n (lists.whole g)) at ∙ ap (λ es. drop (length done + 1) es) whole_is ∙ drop-append-add done (e ∷ rest) 1

  pub back_there : (k : ℕ) → k ≢ g → waiting later k ≡ waiting lists k
  back_there k differs = ap (λ n. drop n (lists.whole k)) (there k differs)

  -- ---- what took effect then is a front of each list

  gone_there : (k : ℕ) → k ≢ g → drop (lists.front k) (take (later.front k) (lists.whole k)) ≡ []
  gone_there k differs = ap (λ n. drop (lists.front k) (take n (lists.whole k))) (there k differs) ∙ front_gone (lists.front k) (lists.whole k)

  one_here : drop (lists.front g) (take (later.front g) (lists.whole g)) ≡ e ∷ []
  one_here = ap (λ es. drop (lists.front g) es) later_done ∙ ap (λ n. drop n (done ++ e ∷ [])) (sym count) ∙ drop-append_seam done (e ∷ [])

  none_above : (k n : ℕ) → g < k → pending_deeds k (parted lists k (settled_from later k n)) ≡ []
  none_above k zero high = refl
  none_above k (suc n) high = ap (λ es. deeds_of k es ++ pending_deeds (k + 1) (parted lists (k + 1) (settled_from later (k + 1) n))) (gone_there k (λ same. absurd (omega (arith, same, high)))) ∙ none_above (k + 1) n (omega (arith, high))

  pub one_deed : (k n : ℕ) → k ≤ g → g < k + n → pending_deeds k (parted lists k (settled_from later k n)) ≡ deed_of g e ∷ []
  one_deed k zero low high = absurd (omega (arith, low, high))
  one_deed k (suc n) low high = elim (cases_eq k g) [
    | inl same ↦ subst (λ j. pending_deeds j (parted lists j (settled_from later j (suc n))) ≡ deed_of g e ∷ []) (sym same) this
    | inr differs ↦ ap (λ es. deeds_of k es ++ pending_deeds (k + 1) (parted lists (k + 1) (settled_from later (k + 1) n))) (gone_there k differs) ∙ one_deed (k + 1) n (omega (arith, low, differs)) (omega (arith, high))
  ]
    where
      this : pending_deeds g (parted lists g (settled_from later g (suc n))) ≡ deed_of g e ∷ []
      this =
          ap (λ es. deeds_of g es ++ pending_deeds (g + 1) (parted lists (g + 1) (settled_from later (g + 1) n))) one_here
          ∙ ap (λ ds. deed_of g e ∷ ds) (none_above (g + 1) n (omega arith))

  front_low : (k : ℕ) → lists.front k ≤ length (lists.whole k) → lists.front k ≤ length (take (later.front k) (lists.whole k))
  front_low k high = elim (cases_eq k g) [
    | inl same ↦ subst (λ j. lists.front j ≤ length (take (later.front j) (lists.whole j))) (sym same) this
    | inr differs ↦ (let n = ap (λ m. length (take m (lists.whole k))) (there k differs) ∙ length-take-le (lists.front k) (lists.whole k) high in omega (arith, n))
  ]
    where
      this : lists.front g ≤ length (take (later.front g) (lists.whole g))
      this = let n = ap (λ (es : Numbered). length es) later_done ∙ length-append done (e ∷ []) in let c = count in omega (arith, n, c)

  pub later_fronts : (k n : ℕ) → ((j : ℕ) → j < k + n → lists.front j ≤ length (lists.whole j)) → AreFronts lists k (settled_from later k n)
  later_fronts k zero h = tt
  later_fronts k (suc n) h = (
    ((drop (later.front k) (lists.whole k), sym (take-append-drop (later.front k) (lists.whole k))), front_low k (h k (omega arith))),
    later_fronts (k + 1) n (λ j low. h j (omega (arith, low))),
  )

pub settled_count : (lists : Lists) (k n : ℕ) → length (settled_from lists k n) ≡ n
settled_count lists k zero = refl
settled_count lists k (suc n) = ap (λ m. suc m) (settled_count lists (k + 1) n)

pub there_low : (lists : Lists) (g k : ℕ) → lists.front k ≤ (one_more lists g).front k
there_low lists g k = go (k == g)
  where
    go : (b : Bool) → lists.front k ≤ cond b (lists.front k + 1) (lists.front k)
    go true = omega arith
    go false = omega arith
