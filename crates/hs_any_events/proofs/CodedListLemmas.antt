-- Lists whose items are changed one by one: what is found in them, and what changes of one item leave.
use Rattle.std.proofs.Common.{◌≡◌, ◌∙◌, ap, ℕ, zero, suc, ◌+◌, Bool, true, false, cond, ◌||◌, List, [], ◌∷◌, drop, fold, map, Some, refl, Ordering, Less, Equal, Greater}
use Rattle.std.specs.BTreeMap.{insert_entry}
use Rattle.std.specs.List.{find, list_any}
use Rattle.std.specs.Map.{remove_entry, set_value}
use Rattle.std.specs.Option.{option_map}
use Rattle.std.specs.Ordering.{match_ordering}
use Rattle.std.specs.Prelude.{slice_index_or, slice_set}

module _ {X Y : Type 0} (f : X → Y) where
  -- ---- by place

  pub index-map : (xs : List X) (k : ℕ) (none : X) → slice_index_or (map f xs) k (f none) ≡ f (slice_index_or xs k none)
  index-map [] k none = refl
  index-map (x ∷ xs) zero none = refl
  index-map (x ∷ xs) (suc k) none = index-map xs k none

  pub set-map : (xs : List X) (k : ℕ) (x : X) → map f (slice_set xs k x) ≡ slice_set (map f xs) k (f x)
  set-map [] k x = refl
  set-map (y ∷ xs) zero x = refl
  set-map (y ∷ xs) (suc k) x = ap (λ (ys : List Y). f y ∷ ys) (set-map xs k x)

  pub first-map : (xs : List X) → map f (drop 1 xs) ≡ drop 1 (map f xs)
  first-map [] = refl
  first-map (x ∷ xs) = refl

  -- nothing is made of nothing alone
  pub nil_from-map : (xs : List X) → [] ≡ map f xs → [] ≡ xs
  nil_from-map [] e = refl
  nil_from-map (x ∷ xs) e = absurd (cc e)

  -- ---- tests that an item and what is made of it pass alike

  module _ (p : X → Bool) (q : Y → Bool) (alike : (x : X) → p x ≡ q (f x)) where
    pub any-map : (xs : List X) → list_any p xs ≡ list_any q (map f xs)
    any-map [] = refl
    any-map (x ∷ xs) = ap (λ (b : Bool). b || list_any p xs) (alike x) ∙ ap (λ (b : Bool). q (f x) || b) (any-map xs)

    pub count-map : (n : ℕ) (xs : List X) → fold (λ a x. a + cond (p x) 1 0) n xs ≡ fold (λ a y. a + cond (q y) 1 0) n (map f xs)
    count-map n [] = refl
    count-map n (x ∷ xs) = ap (λ (b : Bool). fold (λ a x. a + cond (p x) 1 0) (n + cond b 1 0) xs) (alike x) ∙ count-map (n + cond (q (f x)) 1 0) xs

  -- ---- by key, where the values are changed

  abbrev values : List (ℕ × X) → List (ℕ × Y)
  values es = map (λ (e : ℕ × X). (e.0, f e.1)) es

  pub set_value-map : (test : ℕ → Bool) (es : List (ℕ × X)) (x : X) → set_value test (values es) (f x) ≡ values (set_value test es x)
  set_value-map test [] x = refl
  set_value-map test (e ∷ es) x = by (test e.0) (set_value-map test es x)
    where
      by : (b : Bool) → set_value test (values es) (f x) ≡ values (set_value test es x) → cond b ((e.0, f x) ∷ values es) ((e.0, f e.1) ∷ set_value test (values es) (f x)) ≡ values (cond b ((e.0, x) ∷ es) (e ∷ set_value test es x))
      by true later = refl
      by false later = ap (λ (ys : List (ℕ × Y)). (e.0, f e.1) ∷ ys) later

  pub remove_entry-map : (test : ℕ → Bool) (es : List (ℕ × X)) → remove_entry test (values es) ≡ values (remove_entry test es)
  remove_entry-map test [] = refl
  remove_entry-map test (e ∷ es) = by (test e.0) (remove_entry-map test es)
    where
      by : (b : Bool) → remove_entry test (values es) ≡ values (remove_entry test es) → cond b (values es) ((e.0, f e.1) ∷ remove_entry test (values es)) ≡ values (cond b es (e ∷ remove_entry test es))
      by true later = refl
      by false later = ap (λ (ys : List (ℕ × Y)). (e.0, f e.1) ∷ ys) later

  pub insert_entry-map : (cmp : ℕ → ℕ → Ordering) (es : List (ℕ × X)) (k : ℕ) (x : X) → insert_entry cmp (values es) k (f x) ≡ values (insert_entry cmp es k x)
  insert_entry-map cmp [] k x = refl
  insert_entry-map cmp (e ∷ es) k x = by (cmp k e.0) (insert_entry-map cmp es k x)
    where
      by : (o : Ordering) → insert_entry cmp (values es) k (f x) ≡ values (insert_entry cmp es k x) → match_ordering o ((k, f x) ∷ (e.0, f e.1) ∷ values es) ((e.0, f x) ∷ values es) ((e.0, f e.1) ∷ insert_entry cmp (values es) k (f x))
          ≡ values (match_ordering o ((k, x) ∷ e ∷ es) ((e.0, x) ∷ es) (e ∷ insert_entry cmp es k x))
      by Less later = refl
      by Equal later = refl
      by Greater later = ap (λ (ys : List (ℕ × Y)). (e.0, f e.1) ∷ ys) later

  -- an item is found where what is made of it is
  pub find-map : (p : ℕ × X → Bool) (q : ℕ × Y → Bool) → ((e : ℕ × X) → q (e.0, f e.1) ≡ p e) → (es : List (ℕ × X)) → option_map (λ (e : ℕ × Y). e.0) (find q (values es)) ≡ option_map (λ (e : ℕ × X). e.0) (find p es)
  find-map p q alike [] = refl
  find-map p q alike (e ∷ es) = ap (λ (b : Bool). option_map (λ (e : ℕ × Y). e.0) (cond b (Some (e.0, f e.1)) (find q (values es)))) (alike e) ∙ by (p e) (find-map p q alike es)
    where
      by : (b : Bool) → option_map (λ (e : ℕ × Y). e.0) (find q (values es)) ≡ option_map (λ (e : ℕ × X). e.0) (find p es) → option_map (λ (e : ℕ × Y). e.0) (cond b (Some (e.0, f e.1)) (find q (values es))) ≡ option_map (λ (e : ℕ × X). e.0) (cond b (Some e) (find p es))
      by true later = refl
      by false later = later
