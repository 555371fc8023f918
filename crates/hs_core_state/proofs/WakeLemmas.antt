-- What an entry wakes is among what may be woken.
use Rattle.std.proofs.Common.{◌≡◌, ◌∙◌, sym, ap, ℕ, Bool, true, false, ◌&&◌, ◌||◌, List, [], ◌∷◌, Option, Some, None, option_map, bytes_eq, refl, cond, unwrap_or}
use Rattle.std.specs.Option.{option_map_or}
use Rattle.std.proofs.lemmas.Slice.Eq.{bytes_eq-Decides}
use Rattle.std.specs.Prelude.{◌==◌}
use Rattle.hs_awaiting.specs.declared.wait.Wait.{Wait}
use Rattle.hs_awaiting.specs.declared.wait.Wait.TheVariants as wait
use Rattle.hs_awaiting.specs.declared.waiting.Waiting.{Waiting}
use Rattle.hs_awaiting.specs.Indexing.{block_cause, found_in, passes, waits_for}
use Rattle.hs_awaiting.specs.Kinds.{puts_root, writes_block}
use Rattle.hs_model.specs.Op.{written_address}
use Rattle.hs_core_words.specs.Effects.{is_for_view, wakes}
use Rattle.hs_core_words.specs.Pending.{is_address}
use Rattle.hs_core_words.specs.State.{Core}
use Rattle.hs_core_state.specs.Waking.{may_wake, may_wake_by_block, waits_for_block}
use Rattle.hs_entry.specs.declared.entry.Entry.{Entry}
use Rattle.hs_entry.specs.declared.entry.Entry.TheVariants as kind
use Rattle.hs_limits.specs.declared.address.Address.{Address}
use Rattle.hs_model.specs.declared.op.Op.{Op}
use Rattle.hs_model.specs.declared.op.Op.TheVariants as op
use Rattle.hs_ops.specs.Operations.{Operation}
use Rattle.hs_ops.specs.Speaking.{wanted_address}
use Rattle.hs_tokens.specs.Seats.{Seats}
use Rattle.hs_waits.specs.Causes.{is_same}
use Rattle.hs_waits.specs.declared.cause.Cause.{Cause}
use Rattle.hs_waits.specs.declared.cause.Cause.TheVariants as cause
use Rattle.hs_waits.specs.Lines.{IsFirstFrom}

-- ---- tests

first_holds : (x y : Bool) → (x && y) ≡ true → x ≡ true
first_holds true y h = refl
first_holds false y h = h

second_holds : (x y : Bool) → (x && y) ≡ true → y ≡ true
second_holds true y h = h
second_holds false y h = cc h

left_alone : (x y : Bool) → y ≡ false → (x || y) ≡ true → x ≡ true
left_alone true y e h = refl
left_alone false y e h = cc

or_last : (x y z : Bool) → z ≡ true → (x || (y || z)) ≡ true
or_last true y z h = refl
or_last false true z h = refl
or_last false false z h = h

or_middle : (x y z : Bool) → y ≡ true → (x || (y || z)) ≡ true
or_middle true y z h = refl
or_middle false true z h = refl
or_middle false false z h = cc h

or_first : (x y : Bool) → x ≡ true → (x || y) ≡ true
or_first true y h = refl
or_first false y h = cc h

both : (x y : Bool) → x ≡ true → y ≡ true → (x && y) ≡ true
both x y e f = rw (e, f) refl

turned : (xs ys : List ℕ) → bytes_eq xs ys ≡ true → bytes_eq ys xs ≡ true
turned xs ys h = (bytes_eq-Decides ys xs).1 (sym ((bytes_eq-Decides xs ys).0 h))

-- ---- what a Block wakes

own_wanted : (seats : Seats) (o : Op) (a : Address) → written_address o ≡ Some a → wanted_address seats o ≡ Some a
own_wanted seats (op.Open name) a h = cc h
own_wanted seats (op.Close name) a h = cc h
own_wanted seats (op.Write name payload handles address) a h = h
own_wanted seats (op.Read name handle) a h = cc h
own_wanted seats (op.Look name key) a h = cc h
own_wanted seats (op.Root name key handle) a h = cc h
own_wanted seats (op.Drop key) a h = cc h
own_wanted seats (op.Forget name handle) a h = cc h
own_wanted seats (op.Name name handle) a h = cc h
own_wanted seats op.Delete a h = cc h
own_wanted seats op.Stat a h = cc h

module _ (shard : ℕ) (core : Core) (o : Operation) (s : ℕ) where
  abbrev made : Wait → Waiting
  made x = record { operation = o; shard = s; wait = x }

  -- one that waits for a Block
  for_block : (a : Option Address) → (s == shard && option_map_or (λ a. is_address a (wanted_address core.sessions o.op)) a false) ≡ true → may_wake_by_block shard a (made wait.Address) ≡ true
  for_block a h = go (written_address o.op) refl
    where
      named : (a : Option Address) (b : Address) → written_address o.op ≡ Some b → option_map_or (λ a. is_address a (wanted_address core.sessions o.op)) a false ≡ true
          → waits_for_block shard a (made wait.Address) ≡ true
      named None b e h = cc h
      named (Some a) b e test =
          let want : wanted_address core.sessions o.op ≡ Some b = own_wanted core.sessions o.op b e in
          let same : bytes_eq a.0 b.0 ≡ true = rw want at test in
          rw e (both (s == shard) (bytes_eq b.0 a.0) (first_holds (s == shard) _ h) (turned a.0 b.0 same))

      go : (own : Option Address) → written_address o.op ≡ own → may_wake_by_block shard a (made wait.Address) ≡ true
      go None e = or_last (waits_for (cause.BlockRoom shard) (made wait.Address)) (waits_for_block shard a (made wait.Address)) (waits_for (cause.Other shard) (made wait.Address)) (rw e (first_holds (s == shard) _ h))
      go (Some b) e = or_middle (waits_for (cause.BlockRoom shard) (made wait.Address)) (waits_for_block shard a (made wait.Address)) (waits_for (cause.Other shard) (made wait.Address)) (named a b e (second_holds (s == shard) _ h))

  for_room : (a : Option Address) → (s == shard && writes_block o.op) ≡ true → may_wake_by_block shard a (made wait.Room) ≡ true
  for_room a h = or_first (waits_for (cause.BlockRoom shard) (made wait.Room)) (waits_for_block shard a (made wait.Room) || waits_for (cause.Other shard) (made wait.Room))
      (rw (second_holds (s == shard) (writes_block o.op) h) (first_holds (s == shard) (writes_block o.op) h))

  by_block : (a : Option Address) (line least : ℕ) (bytes : List ℕ) (x : Wait) → (s == shard && wakes (kind.Block line least bytes) a core (made x)) ≡ true → may_wake_by_block shard a (made x) ≡ true
  by_block a line least bytes wait.View h = let wrong : false ≡ true = second_holds (s == shard) false h in cc
  by_block a line least bytes wait.Address h =
      for_block a (both (s == shard) (option_map_or (λ a. is_address a (wanted_address core.sessions o.op)) a false) (first_holds (s == shard) _ h) (left_alone _ false refl (second_holds (s == shard) _ h)))
  by_block a line least bytes wait.Room h = for_room a h
  by_block a line least bytes (wait.Bytes number) h = let wrong : false ≡ true = second_holds (s == shard) false h in cc
  by_block a line least bytes (wait.Entry number) h = let wrong : false ≡ true = second_holds (s == shard) false h in cc

  -- ---- what a Root wakes

  no_write : (q : Op) → puts_root q ≡ true → writes_block q ≡ false
  no_write (op.Open name) h = refl
  no_write (op.Close name) h = refl
  no_write (op.Write name payload handles address) h = cc h
  no_write (op.Read name handle) h = refl
  no_write (op.Look name key) h = refl
  no_write (op.Root name key handle) h = refl
  no_write (op.Drop key) h = refl
  no_write (op.Forget name handle) h = refl
  no_write (op.Name name handle) h = refl
  no_write op.Delete h = refl
  no_write op.Stat h = refl

  by_root : (a : Option Address) (line : ℕ) (held : ℕ) (kept : Address) (key : List ℕ) (x : Wait) → (s == shard && wakes (kind.Root line held kept key) a core (made x)) ≡ true → waits_for (cause.RootRoom shard) (made x) ≡ true
  by_root a line held kept key wait.View h = let wrong : false ≡ true = second_holds (s == shard) false h in cc
  by_root a line held kept key wait.Address h = let wrong : false ≡ true = second_holds (s == shard) false h in cc
  by_root a line held kept key wait.Room h =
      let puts : puts_root o.op ≡ true = second_holds (s == shard) (puts_root o.op) h in
      rw (no_write o.op puts, puts) (first_holds (s == shard) (puts_root o.op) h)
  by_root a line held kept key (wait.Bytes number) h = let wrong : false ≡ true = second_holds (s == shard) false h in cc
  by_root a line held kept key (wait.Entry number) h = let wrong : false ≡ true = second_holds (s == shard) false h in cc

-- of any entry
pub among_woken : (shard : ℕ) (entry : Entry) (a : Option Address) (core : Core) (w : Waiting) → (w.shard == shard && wakes entry a core w) ≡ true → may_wake shard entry a w ≡ true
among_woken shard (kind.Block line least bytes) a core w h = by_block shard core w.operation w.shard a line least bytes w.wait h
among_woken shard (kind.Root line held kept key) a core w h = by_root shard core w.operation w.shard a line held kept key w.wait h
among_woken shard (kind.View view) a core w h = second_holds (w.shard == shard) false h
among_woken shard (kind.Mark line least block b) a core w h = second_holds (w.shard == shard) false h
among_woken shard (kind.Drop line key) a core w h = second_holds (w.shard == shard) false h
among_woken shard (kind.Enter line epoch) a core w h = second_holds (w.shard == shard) false h
among_woken shard (kind.Got sender epoch round total deltas) a core w h = second_holds (w.shard == shard) false h
among_woken shard (kind.Base view epoch swept round frames) a core w h = second_holds (w.shard == shard) false h
among_woken shard (kind.KeptBlock born mark flags count bytes) a core w h = second_holds (w.shard == shard) false h
among_woken shard (kind.KeptRoot created dropped counted address key) a core w h = second_holds (w.shard == shard) false h
among_woken shard (kind.KeptRound way other epoch round total deltas) a core w h = second_holds (w.shard == shard) false h

-- ---- what waits for a View

viewing_at : (shard : ℕ) (o : Operation) (s : ℕ) (x : Wait) → (s == shard && is_for_view (record { operation = o; shard = s; wait = x })) ≡ waits_for (cause.View shard) (record { operation = o; shard = s; wait = x })
viewing_at shard o s wait.View = alone (s == shard)
  where
    alone : (x : Bool) → (x && true) ≡ x
    alone true = refl
    alone false = refl
viewing_at shard o s wait.Address = none (s == shard) (written_address o.op)
  where
    none : (x : Bool) (a : Option Address) → (x && false) ≡ is_same (unwrap_or (option_map (λ a. cause.Block s a) a) (cause.Other s)) (cause.View shard)
    none true None = refl
    none false None = refl
    none true (Some a) = refl
    none false (Some a) = refl
viewing_at shard o s wait.Room = none (s == shard) (writes_block o.op) (puts_root o.op)
  where
    none : (x b c : Bool) → (x && false) ≡ option_map_or (λ d. is_same d (cause.View shard)) (cond b (Some (cause.BlockRoom s)) (cond c (Some (cause.RootRoom s)) None)) false
    none true true c = refl
    none true false true = refl
    none true false false = refl
    none false true c = refl
    none false false true = refl
    none false false false = refl
viewing_at shard o s (wait.Bytes number) = none (s == shard)
  where
    none : (x : Bool) → (x && false) ≡ false
    none true = refl
    none false = refl
viewing_at shard o s (wait.Entry number) = none (s == shard)
  where
    none : (x : Bool) → (x && false) ≡ false
    none true = refl
    none false = refl

pub viewing : (shard : ℕ) (w : Waiting) → (w.shard == shard && is_for_view w) ≡ waits_for (cause.View shard) w
viewing shard w = viewing_at shard w.operation w.shard w.wait

pub viewed_alone : (shard : ℕ) (w : Waiting) → (w.shard == shard && is_for_view w) ≡ true → waits_for (cause.View shard) w ≡ true
viewed_alone shard w h = sym (viewing shard w) ∙ h

-- ---- the first of several

pub first_alike : (from : ℕ) (p q : ℕ → Bool) (first : Option ℕ) → ((n : ℕ) → q n ≡ p n) → IsFirstFrom from p first → IsFirstFrom from q first
first_alike from p q None same h = λ n far. same n ∙ h n far
first_alike from p q (Some k) same h = (h.0, same k ∙ h.1, λ n far found. h.2 n far (sym (same n) ∙ found))

pub passes_either : (c d : Waiting → Bool) (es : List (ℕ × Waiting)) (n : ℕ) → passes (λ w. c w || d w) es n ≡ (passes c es n || passes d es n)
passes_either c d es n = go (found_in es n)
  where
    go : (o : Option Waiting) → option_map_or (λ w. c w || d w) o false ≡ (option_map_or c o false || option_map_or d o false)
    go None = refl
    go (Some w) = refl

pub passes_none : (es : List (ℕ × Waiting)) (n : ℕ) → passes (λ w. false) es n ≡ false
passes_none es n = go (found_in es n)
  where
    go : (o : Option Waiting) → option_map_or (λ w. false) o false ≡ false
    go None = refl
    go (Some w) = refl
