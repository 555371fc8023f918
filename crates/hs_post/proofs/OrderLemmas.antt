-- Messages in the order of their numbers.
use Rattle.std.proofs.Common.{◌≡◌, ◌≢◌, ℕ, ◌<◌, ◌≤◌, Bool, true, false, cond, List, [], ◌∷◌, length, filter, Option, Some, None, ap, sym, ◌∙◌, arith, refl, subst, ◌⊎◌, inl, inr, ⊎_elim}
use Rattle.std.proofs.lemmas.Bool.{cases_eq}
use Rattle.std.proofs.lemmas.Cmp.{nat_cmp_total, tied_itself}
use Rattle.std.proofs.lemmas.List.Elements.{All-contains}
use Rattle.std.proofs.lemmas.Map.Keys.{sorted_tail}
use Rattle.std.proofs.lemmas.Map.Lookups.{exact_unsigned}
use Rattle.std.proofs.lemmas.Map.Views.{All-after_first, Contains-keys_from_lookup, tells_apart}
use Rattle.std.specs.BTreeMap.{is_at}
use Rattle.std.specs.Cmp.{ranks}
use Rattle.std.specs.List.{find}
use Rattle.std.specs.List.Sorted.{IsStrictlySortedBy}
use Rattle.std.specs.Map.{keys_of, lookup, remove_entry}
use Rattle.std.specs.Option.{IsSome, option_map, option_map_or}
use Rattle.std.specs.Ordering.{is_eq, nat_cmp}
use Rattle.std.specs.Prelude.{not}
use Rattle.std.specs.declared.cmp.Ordering.{Ordering}
use Rattle.std.specs.declared.cmp.Ordering.TheVariants.{Less, Equal}
use Rattle.hs_post.proofs.FirstLemmas.{first_alike}
use Rattle.hs_post.specs.First.{IsFirst}

module _ {X : Type 0} (q : X → Bool) where
  -- whether what has this number passes
  abbrev pub finds : List (ℕ × X) → ℕ → Bool
  finds es n = option_map_or q (lookup (is_at (nat_cmp n)) es) false

  pub finds_here : (es : List (ℕ × X)) (k : ℕ) (x : X) → finds ((k, x) ∷ es) k ≡ q x
  finds_here es k x = rw (tied_itself nat_cmp_total k) refl

  pub finds_there : (es : List (ℕ × X)) (k n : ℕ) (x : X) → n ≢ k → finds ((k, x) ∷ es) n ≡ finds es n
  finds_there es k n x apart = go (is_at (nat_cmp n) k) refl
    where
      go : (b : Bool) → is_at (nat_cmp n) k ≡ b → finds ((k, x) ∷ es) n ≡ finds es n
      go false e = rw e refl
      go true e = absurd (apart (tells_apart exact_unsigned n k e))

  pub some_where : (o : Option X) → option_map_or q o false ≡ true → IsSome o
  some_where None e = cc
  some_where (Some x) e = refl

  -- what stands behind a number is above it
  pub above_first : (es : List (ℕ × X)) (k n : ℕ) → IsStrictlySortedBy nat_cmp (k ∷ keys_of es) → finds es n ≡ true → k < n
  above_first es k n sorted found =
      let less : nat_cmp k n ≡ Less = All-contains (λ j. nat_cmp k j ≡ Less) (keys_of es) n (All-after_first nat_cmp k (keys_of es) sorted)
      (Contains-keys_from_lookup {eq = λ a b. is_eq (nat_cmp a b)} (tells_apart exact_unsigned) n es (some_where (lookup (is_at (nat_cmp n)) es) found)) in
      rw less at (ranks k n)

  -- a number is not found behind itself
  pub not_behind : (es : List (ℕ × X)) (k : ℕ) → IsStrictlySortedBy nat_cmp (k ∷ keys_of es) → finds es k ≡ false
  not_behind es k sorted = go (finds es k) refl
    where
      go : (b : Bool) → finds es k ≡ b → b ≡ false
      go false e = refl
      go true e = let up : k < k = above_first es k k sorted e in absurd (omega arith)

  -- a first that does not pass changes nothing
  skips : (es : List (ℕ × X)) (k : ℕ) (x : X) → IsStrictlySortedBy nat_cmp (k ∷ keys_of es) → q x ≡ false → (n : ℕ) → finds ((k, x) ∷ es) n ≡ finds es n
  skips es k x sorted fails n = ⊎_elim (λ at. subst (λ m. finds ((k, x) ∷ es) m ≡ finds es m) (sym at) (finds_here es k x ∙ fails ∙ sym (not_behind es k sorted))) (λ apart. finds_there es k n x apart) (cases_eq n k)

  -- one that passes has the least number
  leads : (es : List (ℕ × X)) (k : ℕ) (x : X) → IsStrictlySortedBy nat_cmp (k ∷ keys_of es) → q x ≡ true → IsFirst (finds ((k, x) ∷ es)) (Some k)
  leads es k x sorted passes = (finds_here es k x ∙ passes, λ n found. least n found (cases_eq n k))
    where
      least : (n : ℕ) → finds ((k, x) ∷ es) n ≡ true → (n ≡ k) ⊎ (n ≡ k → ⊥) → k ≤ n
      least n found (inl at) = omega arith
      least n found (inr apart) = let up : k < n = above_first es k n sorted (sym (finds_there es k n x apart) ∙ found) in omega arith

  -- the first that passes has the least number
  pub first_found : (es : List (ℕ × X)) → IsStrictlySortedBy nat_cmp (keys_of es) → IsFirst (finds es) (option_map (λ e. e.0) (find (λ e. q e.1) es))
  first_found [] sorted = λ n. refl
  first_found ((k, x) ∷ es) sorted = go (q x) refl (first_found es (sorted_tail nat_cmp k (keys_of es) sorted))
    where
      go : (b : Bool) → q x ≡ b → IsFirst (finds es) (option_map (λ e. e.0) (find (λ e. q e.1) es))
          → IsFirst (finds ((k, x) ∷ es)) (option_map (λ e. e.0) (find (λ e. q e.1) ((k, x) ∷ es)))
      go true e h = rw e (leads es k x sorted e)
      go false e h = rw e (first_alike (finds es) (finds ((k, x) ∷ es)) _ (skips es k x sorted e) h)

  -- where none passes, all stay
  pub all_stay : (es : List (ℕ × X)) → IsStrictlySortedBy nat_cmp (keys_of es) → ((n : ℕ) → finds es n ≡ false) → filter (λ e. not (q e.1)) es ≡ es
  all_stay [] sorted none = refl
  all_stay ((k, x) ∷ es) sorted none =
      let fails : q x ≡ false = sym (finds_here es k x) ∙ none k in
      rw fails (ap (λ rest. (k, x) ∷ rest) (all_stay es (sorted_tail nat_cmp k (keys_of es) sorted) (λ n. sym (skips es k x sorted fails n) ∙ none n)))

  -- one that passes makes no difference to those that do not
  pub gone_already : (es : List (ℕ × X)) (n : ℕ) → finds es n ≡ true → filter (λ e. not (q e.1)) (remove_entry (is_at (nat_cmp n)) es) ≡ filter (λ e. not (q e.1)) es
  gone_already [] n found = refl
  gone_already ((k, x) ∷ es) n found = go (is_at (nat_cmp n) k) refl (gone_already es n)
    where
      go : (b : Bool) → is_at (nat_cmp n) k ≡ b → (finds es n ≡ true → filter (λ e. not (q e.1)) (remove_entry (is_at (nat_cmp n)) es) ≡ filter (λ e. not (q e.1)) es)
          → filter (λ e. not (q e.1)) (remove_entry (is_at (nat_cmp n)) ((k, x) ∷ es)) ≡ filter (λ e. not (q e.1)) ((k, x) ∷ es)
      go true e h = let passes : q x ≡ true = rw e at found in rw (e, passes) refl
      go false e h = let further : finds es n ≡ true = rw e at found in rw e (ap (λ rest. cond (not (q x)) ((k, x) ∷ rest) rest) (h further))

-- one that is found leaves fewer
pub fewer : {X : Type 0} (test : ℕ → Bool) (es : List (ℕ × X)) → IsSome (lookup test es) → length (remove_entry test es) < length es
fewer test [] found = cc
fewer test ((k, x) ∷ es) found = go (test k) refl (fewer test es)
  where
    go : (b : Bool) → test k ≡ b → (IsSome (lookup test es) → length (remove_entry test es) < length es) → length (remove_entry test ((k, x) ∷ es)) < length ((k, x) ∷ es)
    go true e h = rw e (omega arith)
    go false e h = let further : IsSome (lookup test es) = rw e at found in let less : length (remove_entry test es) < length es = h further in rw e (omega arith)
