-- Where nothing is nothing of a core, its store is level, and no operation is without an answer.
use Rattle.std.proofs.Common.{◌≡◌, ◌∙◌, sym, ap, subst, ℕ, zero, suc, ◌+◌, ◌<◌, ◌≤◌, ◌==◌, ◌||◌, Bool, true, false, not, List, [], ◌∷◌, refl, length, map, arith, tests, nat_lt, slice_index}
use Rattle.std.proofs.lemmas.Bool.{ne_eqb}
use Rattle.std.proofs.Math.Nat.{le-max_left, le-max_right}
use Rattle.std.proofs.lemmas.List.Elements.{All-from_get_or}
use Rattle.std.specs.List.{list_any}
use Rattle.std.specs.Prelude.{fold, max}
use Rattle.hs_answered.specs.Standing.{IsFolded, forget_all, store_with}
use Rattle.hs_core_words.specs.Looking.{shape_of, status_of, top_epoch}
use Rattle.hs_core_words.specs.State.{Core}
use Rattle.hs_fold.specs.Runs.Facts.{Catalogue as Folded}
use Rattle.hs_fold.specs.Runs.Opened.{store_of}
use Rattle.hs_laws.specs.Valid.{IsValid}
use Rattle.hs_limits.specs.declared.shape.Shape.{Shape}
use Rattle.hs_members.specs.Members.{all_peers, is_joining}
use Rattle.hs_model.specs.Store.{Store}
use Rattle.hs_replica.specs.Group.{Group}
use Rattle.hs_settled.proofs.LevelLemmas.{Level}
use Rattle.hs_settled.specs.Settled.{NothingOpen}
use Rattle.hs_shard.specs.Facts.{Catalogue}

or_left : (a b : Bool) → (a || b) ≡ false → a ≡ false
or_left true b e = absurd (cc e)
or_left false b e = refl

or_right : (a b : Bool) → (a || b) ≡ false → b ≡ false
or_right true b e = absurd (cc e)
or_right false b e = e

-- ---- what is not nothing

no_items : {X : Type 0} (xs : List X) → not (length xs == 0) ≡ false → xs ≡ []
no_items [] e = refl
no_items (x ∷ xs) e = let both : true ≡ false = sym (ap (λ b. not b) (ne_eqb (length (x ∷ xs)) 0 (λ z. omega (arith, z)))) ∙ e in absurd (cc both)

module _ (core : Core) (nothing : NothingOpen core) where
  abbrev waits : Bool
  waits = list_any (λ (group : Group). not (length group.waiting == 0)) core.groups

  abbrev unswept : Bool
  unswept = list_any (λ (c : Catalogue). nat_lt c.swept (top_epoch core)) core.catalogues

  abbrev joins : Bool
  joins = list_any (λ (peer : ℕ). is_joining (status_of peer core)) (all_peers (shape_of core))

  pub none_ask : core.operations ≡ []
  none_ask = no_items core.operations (or_left (not (length core.operations == 0)) (waits || (unswept || joins)) nothing)

  all_swept : list_any (λ (c : Catalogue). nat_lt c.swept (top_epoch core)) core.catalogues ≡ false
  all_swept = or_left unswept joins (or_right waits (unswept || joins) (or_right (not (length core.operations == 0)) (waits || (unswept || joins)) nothing))

-- ---- the greatest epoch

greatest : ℕ → List Catalogue → ℕ
greatest a cs = fold (λ top c. max top c.epoch) a cs

greatest_from : (a : ℕ) (cs : List Catalogue) → a ≤ fold (λ top c. max top c.epoch) a cs
greatest_from a [] = omega arith
greatest_from a (c ∷ cs) = let one = le-max_left a c.epoch in let rest = greatest_from (max a c.epoch) cs in omega (arith, one, rest)

pub epoch_low : (a : ℕ) (cs : List Catalogue) (k : ℕ) → k < length cs → slice_index (map (λ (c : Catalogue). c.epoch) cs) k ≤ fold (λ top c. max top c.epoch) a cs
epoch_low a [] k low = absurd (omega (arith, low))
epoch_low a (c ∷ cs) zero low = let one = le-max_right a c.epoch in let rest = greatest_from (max a c.epoch) cs in omega (arith, one, rest)
epoch_low a (c ∷ cs) (suc k) low = epoch_low (max a c.epoch) cs k (omega (arith, low))

pub swept_high : (top : ℕ) (cs : List Catalogue) (k : ℕ) → list_any (λ (c : Catalogue). nat_lt c.swept top) cs ≡ false → k < length cs → top ≤ slice_index (map (λ (c : Catalogue). c.swept) cs) k
swept_high top [] k none low = absurd (omega (arith, low))
swept_high top (c ∷ cs) zero none low = let e = or_left (nat_lt c.swept top) (list_any (λ (d : Catalogue). nat_lt d.swept top) cs) none in grind (arith, tests, e)
swept_high top (c ∷ cs) (suc k) none low = swept_high top cs k (or_right (nat_lt c.swept top) (list_any (λ (d : Catalogue). nat_lt d.swept top) cs) none) (omega (arith, low))

-- ---- in the plain store

pub epochs_are : (shape : Shape) (from : ℕ) (cs : List Folded) → map (λ (c : Catalogue). c.epoch) (forget_all shape from cs) ≡ (store_of cs).epochs
epochs_are shape from [] = refl
epochs_are shape from (c ∷ cs) = ap (λ rest. c.epoch ∷ rest) (epochs_are shape (from + 1) cs)

pub swept_are : (shape : Shape) (from : ℕ) (cs : List Folded) → map (λ (c : Catalogue). c.swept) (forget_all shape from cs) ≡ (store_of cs).swept
swept_are shape from [] = refl
swept_are shape from (c ∷ cs) = ap (λ rest. c.swept ∷ rest) (swept_are shape (from + 1) cs)

length_epochs : (cs : List Catalogue) → length (map (λ (c : Catalogue). c.epoch) cs) ≡ length cs
length_epochs [] = refl
length_epochs (c ∷ cs) = ap (λ n. suc n) (length_epochs cs)

module _ (core : Core) (cs : List Folded) (folded : IsFolded core cs) (valid : IsValid (store_with cs core.sessions)) (nothing : NothingOpen core) where
  abbrev s : Store
  s = store_with cs core.sessions

  epochs : map (λ (c : Catalogue). c.epoch) core.catalogues ≡ (store_with cs core.sessions).epochs
  epochs = ap (λ (xs : List Catalogue). map (λ (c : Catalogue). c.epoch) xs) folded.catalogues ∙ epochs_are (shape_of core) 0 cs

  swept : map (λ (c : Catalogue). c.swept) core.catalogues ≡ (store_with cs core.sessions).swept
  swept = ap (λ (xs : List Catalogue). map (λ (c : Catalogue). c.swept) xs) folded.catalogues ∙ swept_are (shape_of core) 0 cs

  many : length core.catalogues ≡ length (store_with cs core.sessions).epochs
  many = sym (length_epochs core.catalogues) ∙ ap (λ (xs : List ℕ). length xs) epochs

  abbrev top : ℕ
  top = top_epoch core

  not_above : (k : ℕ) → k < length s.epochs → slice_index s.epochs k ≤ top_epoch core
  not_above k low = subst (λ (xs : List ℕ). slice_index xs k ≤ top_epoch core) epochs (epoch_low 0 core.catalogues k (let e = many in omega (arith, low, e)))

  not_below : (k : ℕ) → k < length s.epochs → top_epoch core ≤ slice_index s.swept k
  not_below k low = subst (λ (xs : List ℕ). top_epoch core ≤ slice_index xs k) swept (swept_high (top_epoch core) core.catalogues k (all_swept core nothing) (let e = many in omega (arith, low, e)))

  pub open_level : Level (store_with cs core.sessions)
  open_level = record {
    level = record {
      epoch = top_epoch core;
      entered = All-from_get_or (λ e. e ≡ top_epoch core) s.epochs 0
          (λ k low. let a = not_above k low in let b = not_below k low in let c = valid.epochs.swept_not_ahead k low in omega (arith, a, b, c));
      swept = All-from_get_or (λ e. e ≡ top_epoch core) s.swept 0
          (λ k low. let here : k < length s.epochs = (let e = valid.epochs.swept_each in omega (arith, low, e)) in let a = not_above k here in let b = not_below k here in let c = valid.epochs.swept_not_ahead k here in omega (arith, a, b, c));
    };
    each = valid.epochs.swept_each;
  }
