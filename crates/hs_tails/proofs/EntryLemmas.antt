-- Lists of items, with numbers and as entries.
use Rattle.std.proofs.Common.{◌≡◌, ◌∙◌, ap, sym, refl, ℕ, zero, suc, ◌+◌, false, List, [], ◌∷◌, ◌++◌, append_assoc, length}
use Rattle.std.proofs.lemmas.List.{map-append}
use Rattle.std.proofs.lemmas.List.Elements.{All-head, All-tail}
use Rattle.std.specs.List.{enumerate_from}
use Rattle.std.specs.Prelude.{drop, map}
use Rattle.hs_copies.specs.Lists.{IsFront, Item}
use Rattle.hs_core_copies.proofs.UnsealedLemmas.{numbered_append}
use Rattle.hs_core_copies.specs.Lists.{numbered}
use Rattle.hs_entry.specs.declared.entry.Entry.{Entry}
use Rattle.hs_entry.specs.Entries.{IsPrefix, is_of_base}
use Rattle.hs_fold.specs.Prefix.{GoOn, IsNumbered}
use Rattle.hs_fold.specs.Shards.Setting.{Numbered}
use Rattle.hs_whole_copies.proofs.AddedLemmas.{front_rest}
use Rattle.hs_whole_copies.specs.Whole.{ArePlain}
use Rattle.hs_tails.specs.Chosen.{tail_behind}

abbrev pub what : Item Entry → Entry
what x = x.what

abbrev pub entry_in : ℕ × Entry → Entry
entry_in e = e.1

-- ---- numbers

pub entries_are : (n : ℕ) (es : List Entry) → map entry_in (enumerate_from n es) ≡ es
entries_are n [] = refl
entries_are n (x ∷ es) = ap (λ ys. x ∷ ys) (entries_are (n + 1) es)

pub dropped_map : {X Y : Type 0} (f : X → Y) (n : ℕ) (xs : List X) → drop n (map f xs) ≡ map f (drop n xs)
dropped_map f zero xs = refl
dropped_map f (suc n) [] = refl
dropped_map f (suc n) (x ∷ xs) = dropped_map f n xs

pub dropped_first : {X : Type 0} (xs ys : List X) → drop (length xs) (xs ++ ys) ≡ ys
dropped_first [] ys = refl
dropped_first (x ∷ xs) ys = dropped_first xs ys

-- what a list with numbers has behind so many
pub tail_is : (n : ℕ) (xs : List (Item Entry)) → tail_behind n (numbered xs) ≡ drop n (map what xs)
tail_is n xs = sym (dropped_map entry_in n (numbered xs)) ∙ ap (λ es. drop n es) (entries_are 1 (map what xs))

pub numbered_from : (n : ℕ) (es : List Entry) → ArePlain es → GoOn n (enumerate_from (n + 1) es)
numbered_from n [] plain = tt
numbered_from n (x ∷ es) plain = (refl, All-head (λ e. is_of_base e ≡ false) x es plain, numbered_from (n + 1) es (All-tail (λ e. is_of_base e ≡ false) x es plain))

pub is_numbered : (xs : List (Item Entry)) → ArePlain (map what xs) → IsNumbered (numbered xs)
is_numbered xs plain = numbered_from 0 (map what xs) plain

-- ---- fronts

pub front_prefix : (xs ys : List (Item Entry)) → IsFront xs ys → IsPrefix (numbered xs) (numbered ys)
front_prefix xs ys f =
    let rest : List (Item Entry) = drop (length xs) ys in (
      enumerate_from (1 + length (map what xs)) (map what rest),
      ap numbered (sym (front_rest xs ys f)) ∙ ap (λ es. enumerate_from 1 es) (map-append what xs rest) ∙ numbered_append 1 (map what xs) (map what rest),
    )

pub prefix_trans : (xs ys zs : Numbered) → IsPrefix xs ys → IsPrefix ys zs → IsPrefix xs zs
prefix_trans xs ys zs p q = (p.0 ++ q.0, q.1 ∙ ap (λ es. es ++ q.0) p.1 ∙ append_assoc xs p.0 q.0)

-- as entries
pub prefix_entries : (xs ys : List (Item Entry)) → IsPrefix (numbered xs) (numbered ys) → (rest : List Entry) × (map what ys ≡ map what xs ++ rest)
prefix_entries xs ys p = (
  map entry_in p.0,
  sym (entries_are 1 (map what ys)) ∙ ap (λ (es : Numbered). map entry_in es) p.1 ∙ map-append entry_in (numbered xs) p.0 ∙ ap (λ es. es ++ map entry_in p.0) (entries_are 1 (map what xs)),
)

-- what a list has behind so many begins with what a front of it has there
pub front_behind : {X : Type 0} (n : ℕ) (xs ys : List X) → IsFront xs ys → (more : List X) × (drop n ys ≡ drop n xs ++ more)
front_behind zero xs ys f = (drop (length xs) ys, sym (front_rest xs ys f))
front_behind (suc n) [] ys f = (drop (suc n) ys, refl)
front_behind (suc n) (x ∷ xs) [] f = absurd f
front_behind (suc n) (x ∷ xs) (y ∷ ys) f = front_behind n xs ys f.1
