-- The first of the greatest ranks, rank by rank.
use Rattle.std.proofs.Common.{◌≡◌, ℕ, ◌+◌, ◌<◌, Bool, true, false, List, [], ◌∷◌, length, get_or, Option, Some, None, is_some, zero, suc, ◌&&◌, ◌||◌, sym, arith, refl, below_more}
use Rattle.std.proofs.lemmas.Bool.Decides.{nat_tests}
use Rattle.std.proofs.lemmas.Bool.{le-ltb, lt-ltb}
use Rattle.std.proofs.lemmas.List.Sums.{position_or_len_is}
use Rattle.std.specs.List.{list_all, list_any, position_or_len}
use Rattle.std.specs.Option.{MatchOption, option_map}
use Rattle.std.specs.Prelude.{⊤}
use Rattle.hs_entry.specs.declared.rank.Rank.{Rank}
use Rattle.hs_coldstart.specs.Choose.{better, choose, is_above, is_greatest, is_up_to}

-- no rank is above itself
not_above_itself : (a : Rank) → is_above a a ≡ false
not_above_itself a = grind (arith, nat_tests)

-- what is not above a rank is below all that are
above_further : (a b c : Rank) → is_above a b ≡ true → is_above c b ≡ false → is_above a c ≡ true
above_further a b c above up = grind (arith, nat_tests)

not_above_back : (a b : Rank) → is_above a b ≡ true → is_above b a ≡ false
not_above_back a b above = grind (arith, nat_tests)

-- a rank that is not there, or is below this one
abbrev pub IsBelow : Rank → Option Rank → Type 0
IsBelow rank o = MatchOption o ⊤ (λ other. is_above rank other ≡ true)

-- of the first i ranks, this one at its place is the first of the greatest
pub record IsBest (ranks : List (Option Rank)) (i : ℕ) (best : ℕ × Rank) : Type 0 where
  pub within : best.0 < i
  pub there : get_or ranks best.0 None ≡ Some best.1
  pub greatest : (k : ℕ) → k < i → is_up_to best.1 (get_or ranks k None) ≡ true
  pub first : (k : ℕ) → k < best.0 → IsBelow best.1 (get_or ranks k None)

-- none is there, or one is best
abbrev pub IsSoFar : List (Option Rank) → ℕ → Option (ℕ × Rank) → Type 0
IsSoFar ranks i best = MatchOption best ((k : ℕ) → k < i → get_or ranks k None ≡ None) (IsBest ranks i)

-- ---- one rank more

-- a rank that is up to one is up to each that is above it, and below it
up_further : (a b : Rank) (o : Option Rank) → is_above a b ≡ true → is_up_to b o ≡ true → is_up_to a o ≡ true
up_further a b None above up = refl
up_further a b (Some c) above up = grind (arith, nat_tests)

below_further : (a b : Rank) (o : Option Rank) → is_above a b ≡ true → is_up_to b o ≡ true → IsBelow a o
below_further a b None above up = tt
below_further a b (Some c) above up = grind (arith, nat_tests)

still_best : (ranks : List (Option Rank)) (i : ℕ) (best : ℕ × Rank) → IsBest ranks i best → is_up_to best.1 (get_or ranks i None) ≡ true → IsBest ranks (i + 1) best
still_best ranks i best h up = record {
  within = omega (arith, h.within);
  there = h.there;
  greatest = below_more (λ k. is_up_to best.1 (get_or ranks k None) ≡ true) i h.greatest up;
  first = h.first;
}

first_there : (ranks : List (Option Rank)) (i : ℕ) (rank : Rank) → ((k : ℕ) → k < i → get_or ranks k None ≡ None) → get_or ranks i None ≡ Some rank → IsBest ranks (i + 1) (i, rank)
first_there ranks i rank none e = record {
  within = omega arith;
  there = e;
  greatest = below_more (λ k. is_up_to rank (get_or ranks k None) ≡ true) i (λ k l. rw (none k l) refl) (rw (e, not_above_itself rank) refl);
  first = λ k l. rw (none k l) tt;
}

above_best : (ranks : List (Option Rank)) (i : ℕ) (best : ℕ × Rank) (rank : Rank) → IsBest ranks i best → get_or ranks i None ≡ Some rank → is_above rank best.1 ≡ true → IsBest ranks (i + 1) (i, rank)
above_best ranks i best rank h e above = record {
  within = omega arith;
  there = e;
  greatest = below_more (λ k. is_up_to rank (get_or ranks k None) ≡ true) i (λ k l. up_further rank best.1 (get_or ranks k None) above (h.greatest k l)) (rw (e, not_above_itself rank) refl);
  first = λ k l. below_further rank best.1 (get_or ranks k None) above (h.greatest k l);
}

pub so_far_more : (ranks : List (Option Rank)) (i : ℕ) (best : Option (ℕ × Rank)) → IsSoFar ranks i best → IsSoFar ranks (i + 1) (better best i (get_or ranks i None))
so_far_more ranks i best h = go best (get_or ranks i None) refl h
  where
    chosen : (best : ℕ × Rank) (rank : Rank) (b : Bool) → is_above rank best.1 ≡ b → get_or ranks i None ≡ Some rank → IsBest ranks i best → IsSoFar ranks (i + 1) (better (Some best) i (Some rank))
    chosen best rank true f e h = rw f (above_best ranks i best rank h e f)
    chosen best rank false f e h = rw f (still_best ranks i best h (rw (e, f) refl))

    go : (best : Option (ℕ × Rank)) (o : Option Rank) → get_or ranks i None ≡ o → IsSoFar ranks i best → IsSoFar ranks (i + 1) (better best i o)
    go None None e h = below_more (λ k. get_or ranks k None ≡ None) i h e
    go None (Some rank) e h = first_there ranks i rank h e
    go (Some best) None e h = still_best ranks i best h (rw e refl)
    go (Some best) (Some rank) e h = chosen best rank (is_above rank best.1) refl e h

-- ---- at the end

all_pass : (test : Option Rank → Bool) (xs : List (Option Rank)) → ((k : ℕ) → k < length xs → test (get_or xs k None) ≡ true) → list_all test xs ≡ true
all_pass test [] h = refl
all_pass test (x ∷ xs) h = rw (h 0 (omega arith)) (all_pass test xs (λ k l. h (suc k) (omega arith)))

one_fails : (test : Option Rank → Bool) (xs : List (Option Rank)) (k : ℕ) → k < length xs → test (get_or xs k None) ≡ false → list_all test xs ≡ false
one_fails test [] k l e = absurd (omega arith)
one_fails test (x ∷ xs) zero l e = rw e refl
one_fails test (x ∷ xs) (suc k) l e = both (test x) (one_fails test xs k (omega arith) e)
  where
    both : (b : Bool) → list_all test xs ≡ false → (b && list_all test xs) ≡ false
    both true f = f
    both false f = refl

one_there : (xs : List (Option Rank)) (k : ℕ) (rank : Rank) → get_or xs k None ≡ Some rank → list_any (λ x. is_some x) xs ≡ true
one_there [] k rank e = cc
one_there (x ∷ xs) zero rank e = rw e refl
one_there (x ∷ xs) (suc k) rank e = either (is_some x) (one_there xs k rank e)
  where
    either : (b : Bool) → list_any (λ y. is_some y) xs ≡ true → (b || list_any (λ y. is_some y) xs) ≡ true
    either true f = refl
    either false f = f

none_there : (xs : List (Option Rank)) → ((k : ℕ) → k < length xs → get_or xs k None ≡ None) → list_any (λ x. is_some x) xs ≡ false
none_there [] h = refl
none_there (x ∷ xs) h = rw (h 0 (omega arith)) (none_there xs (λ k l. h (suc k) (omega arith)))

-- a rank that the greatest is above is not greatest
below_fails : (ranks : List (Option Rank)) (best : ℕ × Rank) (o : Option Rank) → best.0 < length ranks → get_or ranks best.0 None ≡ Some best.1 → IsBelow best.1 o → is_greatest ranks o ≡ false
below_fails ranks best None l e below = refl
below_fails ranks best (Some other) l e below = one_fails (is_up_to other) ranks best.0 l (rw (e, below) refl)

best_is_chosen : (ranks : List (Option Rank)) (best : ℕ × Rank) → IsBest ranks (length ranks) best → choose ranks ≡ Some best.0
best_is_chosen ranks best h =
    let within : best.0 < length ranks = h.within in
    let passes : is_greatest ranks (get_or ranks best.0 None) ≡ true = rw h.there (all_pass (is_up_to best.1) ranks h.greatest) in
    let at : position_or_len (is_greatest ranks) ranks ≡ best.0 =
    position_or_len_is (is_greatest ranks) ranks best.0 None (omega arith) (λ k l. below_fails ranks best (get_or ranks k None) within h.there (h.first k l)) (λ l. passes) in
    rw (at, lt-ltb best.0 (length ranks) within) refl

none_is_chosen : (ranks : List (Option Rank)) → ((k : ℕ) → k < length ranks → get_or ranks k None ≡ None) → choose ranks ≡ None
none_is_chosen ranks none =
    let at : position_or_len (is_greatest ranks) ranks ≡ length ranks =
    position_or_len_is (is_greatest ranks) ranks (length ranks) None (omega arith) (λ k l. rw (none k l) refl) (λ l. absurd (omega arith)) in
    rw (at, le-ltb (length ranks) (length ranks) (omega arith)) refl

-- what was found after all ranks is what `choose` says
pub chosen_at_end : (ranks : List (Option Rank)) (i : ℕ) (best : Option (ℕ × Rank)) → i ≡ length ranks → IsSoFar ranks i best → option_map (λ x. x.0) best ≡ choose ranks
chosen_at_end ranks i best e h = go best (rw e at h)
  where
    go : (o : Option (ℕ × Rank)) → IsSoFar ranks (length ranks) o → option_map (λ x. x.0) o ≡ choose ranks
    go None h = sym (none_is_chosen ranks h)
    go (Some x) h = sym (best_is_chosen ranks x h)

pub found_at_end : (ranks : List (Option Rank)) (i : ℕ) (best : Option (ℕ × Rank)) → i ≡ length ranks → IsSoFar ranks i best → is_some best ≡ list_any (λ x. is_some x) ranks
found_at_end ranks i best e h = go best (rw e at h)
  where
    go : (o : Option (ℕ × Rank)) → IsSoFar ranks (length ranks) o → is_some o ≡ list_any (λ x. is_some x) ranks
    go None h = sym (none_there ranks h)
    go (Some x) h = sym (one_there ranks x.0 x.1 h.there)
