-- The lines by the blocks that their Blocks store tell what is coming.
use Rattle.std.proofs.Common.{◌≡◌, ◌∙◌, sym, ap, ℕ, ◌<◌, ◌≤◌, Bool, true, false, List, [], ◌∷◌, Option, Some, None, option_and_then, refl, ◌||◌, ◌⊎◌, inl, inr, arith, bytes_eq}
use Rattle.std.proofs.lemmas.Bool.{cases_lt, eq-eqb, eqb-true}
use Rattle.std.proofs.lemmas.Slice.Eq.{bytes_eq-Decides}
use Rattle.std.specs.List.{list_any}
use Rattle.std.specs.Option.{is_some, option_map_or}
use Rattle.hs_awaiting.specs.declared.waiting.Waiting.{Waiting}
use Rattle.hs_awaiting.specs.Indexing.{passes, store_cause, stores}
use Rattle.hs_model.specs.Op.{written_address}
use Rattle.hs_core_words.specs.Looking.{operation_of}
use Rattle.hs_core_words.specs.Pending.{is_address, stored}
use Rattle.hs_core_words.specs.State.{Core}
use Rattle.hs_core_state.specs.Waking.{AreMet, stands}
use Rattle.hs_entry.specs.declared.entry.Entry.{Entry}
use Rattle.hs_entry.specs.declared.entry.Entry.TheVariants as kind
use Rattle.hs_limits.specs.declared.address.Address.{Address}
use Rattle.hs_model.specs.declared.op.Op.{Op}
use Rattle.hs_model.specs.declared.op.Op.TheVariants as op
use Rattle.hs_replica.specs.Kinds.{stores_for}
use Rattle.hs_waits.specs.Causes.{is_same}
use Rattle.hs_waits.specs.declared.cause.Cause.TheVariants as cause
use Rattle.hs_waits.specs.Lines.{IsFirstFrom}

-- ---- one line after another: those of Blocks, and those of operations from there on

module _ (p q : ℕ → Bool) (from : ℕ) (low : (n : ℕ) → n < from → p n ≡ true → q n ≡ false) where
  -- no Block is left
  pub none_left : IsFirstFrom from p None → (n : ℕ) → p n ≡ true → q n ≡ false
  none_left h n found = go (cases_lt n from)
    where
      go : (n < from) ⊎ (from ≤ n) → q n ≡ false
      go (inl less) = low n less found
      go (inr far) = let wrong : true ≡ false = sym found ∙ h n far in cc

  -- no operation is left
  pub none_further : (block : ℕ) → IsFirstFrom from p (Some block) → IsFirstFrom block q None → (n : ℕ) → p n ≡ true → q n ≡ false
  none_further block first h n found = go (cases_lt n from)
    where
      go : (n < from) ⊎ (from ≤ n) → q n ≡ false
      go (inl less) = low n less found
      go (inr far) = h n (first.2 n far found)

  -- both are there
  pub both_there : (block line : ℕ) → IsFirstFrom from p (Some block) → IsFirstFrom block q (Some line) → line ≡ block → (p line ≡ true) × (q line ≡ true)
  both_there block line first next same = (ap p same ∙ first.1, next.1)

  -- below the operation there is none
  pub none_below : (block line : ℕ) → IsFirstFrom from p (Some block) → IsFirstFrom block q (Some line) → (n : ℕ) → n < line → p n ≡ true → q n ≡ false
  none_below block line first next n less found = go (cases_lt n from)
    where
      passed : (b : Bool) → q n ≡ b → block ≤ n → b ≡ false
      passed false e far = refl
      passed true e far = let above : line ≤ n = next.2 n far e in absurd (omega (arith, above, less))

      go : (n < from) ⊎ (from ≤ n) → q n ≡ false
      go (inl under) = low n under found
      go (inr far) = passed (q n) refl (first.2 n far found)

-- ---- what is coming

same_bool : (a b : Bool) → (a ≡ true → b ≡ true) → (b ≡ true → a ≡ true) → a ≡ b
same_bool true b f g = sym (f refl)
same_bool false true f g = g refl
same_bool false false f g = refl

turned : (xs ys : List ℕ) → bytes_eq xs ys ≡ true → bytes_eq ys xs ≡ true
turned xs ys h = (bytes_eq-Decides ys xs).1 (sym ((bytes_eq-Decides xs ys).0 h))

alike : (xs ys : List ℕ) → bytes_eq xs ys ≡ bytes_eq ys xs
alike xs ys = same_bool (bytes_eq xs ys) (bytes_eq ys xs) (turned xs ys) (turned ys xs)

-- by the operation
stored_so : (a : Address) (o : Op) → option_map_or (λ d. is_same d (cause.Block 0 a)) (store_cause o) false ≡ is_address a (written_address o)
stored_so a (op.Write name payload handles (Some b)) = alike b.0 a.0
stored_so a (op.Write name payload handles None) = refl
stored_so a (op.Read name handle) = refl
stored_so a (op.Open name) = refl
stored_so a (op.Close name) = refl
stored_so a (op.Look name key) = refl
stored_so a (op.Root name key handle) = refl
stored_so a (op.Drop key) = refl
stored_so a (op.Forget name handle) = refl
stored_so a (op.Name name handle) = refl
stored_so a op.Delete = refl
stored_so a op.Stat = refl

module _ (core : Core) (a : Address) where
  -- whether the Block of a line is of this address
  abbrev names : ℕ → Bool
  names n = is_address a (option_and_then (λ w. written_address w.operation.op) (operation_of n core))

  abbrev test : Entry → Bool
  test e = is_address a (stored e core)

  by_write : (n : ℕ) → passes (stores (cause.Block 0 a)) core.operations n ≡ names n
  by_write n = go (operation_of n core)
    where
      go : (o : Option Waiting) → option_map_or (stores (cause.Block 0 a)) o false ≡ is_address a (option_and_then (λ w. written_address w.operation.op) o)
      go None = refl
      go (Some w) = stored_so a w.operation.op

  -- an entry that is no Block of a line of this address
  fails : (e : Entry) → ((n : ℕ) → stores_for n e ≡ true → names n ≡ false) → test e ≡ false
  fails (kind.Block line least bytes) none = none line (eq-eqb line line refl)
  fails (kind.View view) none = refl
  fails (kind.Mark line least block b) none = refl
  fails (kind.Root line held kept key) none = refl
  fails (kind.Drop line key) none = refl
  fails (kind.Enter line epoch) none = refl
  fails (kind.Got sender epoch round total deltas) none = refl
  fails (kind.Base view epoch swept round frames) none = refl
  fails (kind.KeptBlock born mark flags count bytes) none = refl
  fails (kind.KeptRoot created dropped counted address key) none = refl
  fails (kind.KeptRound way other epoch round total deltas) none = refl

  -- and one that is
  holds : (e : Entry) (n : ℕ) → stores_for n e ≡ true → names n ≡ true → test e ≡ true
  holds (kind.Block line least bytes) n at is = ap names (eqb-true line n at) ∙ is
  holds (kind.View view) n at is = let wrong : false ≡ true = at in cc
  holds (kind.Mark line least block b) n at is = let wrong : false ≡ true = at in cc
  holds (kind.Root line held kept key) n at is = let wrong : false ≡ true = at in cc
  holds (kind.Drop line key) n at is = let wrong : false ≡ true = at in cc
  holds (kind.Enter line epoch) n at is = let wrong : false ≡ true = at in cc
  holds (kind.Got sender epoch round total deltas) n at is = let wrong : false ≡ true = at in cc
  holds (kind.Base view epoch swept round frames) n at is = let wrong : false ≡ true = at in cc
  holds (kind.KeptBlock born mark flags count bytes) n at is = let wrong : false ≡ true = at in cc
  holds (kind.KeptRoot created dropped counted address key) n at is = let wrong : false ≡ true = at in cc
  holds (kind.KeptRound way other epoch round total deltas) n at is = let wrong : false ≡ true = at in cc

  or_left : (x y : Bool) → x ≡ true → (x || y) ≡ true
  or_left true y e = refl
  or_left false y e = cc e

  or_right : (x y : Bool) → y ≡ true → (x || y) ≡ true
  or_right true y e = refl
  or_right false y e = e

  or_none : (x y : Bool) → x ≡ false → y ≡ false → (x || y) ≡ false
  or_none x y e f = rw (e, f) refl

  -- of all entries
  none_coming : (entries : List Entry) → ((n : ℕ) → stands entries n ≡ true → names n ≡ false) → list_any test entries ≡ false
  none_coming [] none = refl
  none_coming (e ∷ es) none =
      or_none (test e) (list_any test es) (fails e (λ n at. none n (or_left (stores_for n e) (stands es n) at)))
      (none_coming es (λ n at. none n (or_right (stores_for n e) (stands es n) at)))

  some_coming : (entries : List Entry) (n : ℕ) → stands entries n ≡ true → names n ≡ true → list_any test entries ≡ true
  some_coming [] n found is = let wrong : false ≡ true = found in cc
  some_coming (e ∷ es) n found is = go (stores_for n e) refl (λ further. some_coming es n further is)
    where
      go : (b : Bool) → stores_for n e ≡ b → (stands es n ≡ true → list_any test es ≡ true) → list_any test (e ∷ es) ≡ true
      go true here ih = or_left (test e) (list_any test es) (holds e n here is)
      go false here ih = let further : stands es n ≡ true = rw here at found in or_right (test e) (list_any test es) (ih further)

  -- it is told by a line of both
  pub coming_met : (entries : List Entry) (write : Option ℕ) → AreMet (cause.Block 0 a) entries core.operations write → is_some write ≡ list_any test entries
  coming_met entries None writes = sym (none_coming entries (λ n at. sym (by_write n) ∙ writes n at))
  coming_met entries (Some n) writes = sym (some_coming entries n writes.0 (sym (by_write n) ∙ writes.1))
