-- A level store stays level while no client's line is answered and shard 0 does not enter by itself.
use Rattle.std.proofs.Common.{◌≡◌, ◌∙◌, ◌⊎◌, inl, inr, sym, ap, subst, ℕ, zero, suc, ◌+◌, ◌<◌, ◌≤◌, ◌==◌, ◌&&◌, ◌||◌, ◌++◌, Bool, true, false, List, [], ◌∷◌, Option, Some, None, refl, length, arith, tests, nat_lt, slice_index}
use Rattle.std.proofs.lemmas.Bool.{and_parts, ne_eqb}
use Rattle.std.proofs.lemmas.List.{set_past}
use Rattle.std.proofs.lemmas.List.Elements.{All-get_or}
use Rattle.std.specs.List.{AllByRecursion}
use Rattle.std.specs.Prelude.{All, IsTrue, slice_set}
use Rattle.hs_answered.proofs.TellingLemmas.{nobodys_event}
use Rattle.hs_answered.specs.Telling.{Judging, events_in}
use Rattle.hs_journal.specs.declared.entry.JournalEntry.{JournalEntry}
use Rattle.hs_journal.specs.declared.entry.Who.{Who}
use Rattle.hs_journal.specs.declared.entry.Who.TheVariants as who
use Rattle.hs_journal.specs.Events.{client_op, event_at, line_event, store_by, with_event}
use Rattle.hs_laws.specs.Kept.{IsLevel}
use Rattle.hs_model.specs.declared.command.Command.{Command}
use Rattle.hs_model.specs.declared.deed.Deed.{Deed}
use Rattle.hs_model.specs.declared.deed.Deed.TheVariants as deed
use Rattle.hs_model.specs.Inner.{enter, may_enter, may_sweep, none_below}
use Rattle.hs_model.specs.Run.{Event, IsLegal, enters, run, step, sweeps}
use Rattle.hs_model.specs.Store.{Store}
use Rattle.hs_settled.specs.Settled.{IsNoFirst}

-- an entry of no client's line, nor one that shard 0 entered an epoch by itself
pub record IsCalm (commands : ℕ → Option Command) (e : JournalEntry) : Type 0 where
  pub nobody : (n : ℕ) → e.who ≡ who.Line n → client_op (commands n) ≡ None
  pub first : IsNoFirst e

-- a store whose shards are in one epoch, which each has swept
pub record Level (s : Store) : Type 0 where
  pub level : IsLevel s
  pub each : length s.swept ≡ length s.epochs

-- ---- numbers of a list

past_end : (xs : List ℕ) (i : ℕ) → length xs ≤ i → slice_index xs i ≡ 0
past_end [] i h = refl
past_end (x ∷ xs) zero h = absurd (omega (arith, h))
past_end (x ∷ xs) (suc i) h = past_end xs i (omega (arith, h))

pub le_or : (m n : ℕ) → (m ≤ n) ⊎ (n < m)
le_or zero n = inl (omega arith)
le_or (suc m) zero = inr (omega arith)
le_or (suc m) (suc n) = go (le_or m n)
  where
    go : (m ≤ n) ⊎ (n < m) → (suc m ≤ suc n) ⊎ (suc n < suc m)
    go (inl h) = inl (omega (arith, h))
    go (inr h) = inr (omega (arith, h))

module _ (s : Store) (l : Level s) where
  epoch_at : (g : ℕ) → g < length s.epochs → slice_index s.epochs g ≡ l.level.epoch
  epoch_at g low = All-get_or (λ e. e ≡ l.level.epoch) s.epochs g 0 low l.level.entered

  swept_at : (g : ℕ) → g < length s.epochs → slice_index s.swept g ≡ l.level.epoch
  swept_at g low = All-get_or (λ e. e ≡ l.level.epoch) s.swept g 0 (let e = l.each in omega (arith, low, e)) l.level.swept

  -- nothing can be swept
  no_sweep : (g : ℕ) → IsTrue (may_sweep s g) → ⊥
  no_sweep g may = by_place (le_or (length s.epochs) g)
    where
      below : nat_lt (slice_index s.swept g) (slice_index s.epochs g) ≡ true
      below = (and_parts (nat_lt (slice_index s.swept g) (slice_index s.epochs g)) (none_below s (slice_index s.epochs g)) may).0

      less : slice_index s.swept g < slice_index s.epochs g
      less = let b = below in grind (arith, tests, b)

      by_place : (length s.epochs ≤ g) ⊎ (g < length s.epochs) → ⊥
      by_place (inl out) = let none = past_end s.epochs g out in let b = less in omega (arith, none, b)
      by_place (inr low) = let e = epoch_at g low in let w = swept_at g low in let b = less in omega (arith, e, w, b)

  -- and no shard but the first can enter: that of a number past the end changes nothing
  level_enters : (g : ℕ) → (g ≡ 0 → ⊥) → IsTrue (may_enter s g) → Level (enter s g)
  level_enters g other may = by_place (le_or (length s.epochs) g)
    where
      behind_first : slice_index s.epochs 0 ≡ slice_index s.epochs g + 1
      behind_first = by_first (g == 0) (ne_eqb g 0 other) (and_parts ((slice_index s.swept g == slice_index s.epochs g) && none_below s (slice_index s.epochs g)) (g == 0 || slice_index s.epochs 0 == slice_index s.epochs g + 1) may).1
        where
          by_first : (b : Bool) → b ≡ false → (b || slice_index s.epochs 0 == slice_index s.epochs g + 1) ≡ true → slice_index s.epochs 0 ≡ slice_index s.epochs g + 1
          by_first true is e = absurd (cc is)
          by_first false is e = grind (arith, tests, e)

      by_place : (length s.epochs ≤ g) ⊎ (g < length s.epochs) → Level (enter s g)
      by_place (inl out) =
          let same : slice_set s.epochs g (slice_index s.epochs g + 1) ≡ s.epochs = set_past s.epochs g (slice_index s.epochs g + 1) out in
          record {
            level = record { epoch = l.level.epoch; entered = subst (λ (xs : List ℕ). All (λ e. e ≡ l.level.epoch) xs) (sym same) l.level.entered; swept = l.level.swept };
            each = l.each ∙ ap (λ (xs : List ℕ). length xs) (sym same);
          }
      by_place (inr low) =
          let one = epoch_at 0 (omega (arith, low)) in
          let here = epoch_at g low in
          let b = behind_first in
          absurd (omega (arith, one, here, b))

-- ---- along a journal

module _ (by : Judging) where
  -- what a calm entry may be: nothing, an Enter of another shard than the first, or a sweep
  abbrev Kind : Option Event → Type 0
  Kind o = (o ≡ None) ⊎ (((g : ℕ) × (g ≡ 0 → ⊥) × (o ≡ Some (enters g))) ⊎ ((g : ℕ) × (o ≡ Some (sweeps g))))

  kind_of : (s : Store) (x : JournalEntry) (w : Who) (d : Deed) → ((n : ℕ) → w ≡ who.Line n → client_op (by.commands n) ≡ None) → ((epoch : ℕ) → w ≡ who.Shard 0 → d ≡ deed.Entered epoch → ⊥)
      → Kind (event_at by.commands by.name s (record x { who = w; deed = d }))
  kind_of s x (who.Line n) d nobody first = inl (ap (λ o. line_event by.name s o x.reply) (nobody n refl) ∙ nobodys_event by.name s x.reply)
  kind_of s x (who.Shard zero) (deed.Entered epoch) nobody first = absurd (first epoch refl refl)
  kind_of s x (who.Shard (suc g)) (deed.Entered epoch) nobody first = inr (inl (suc g, (λ e. omega (arith, e)), refl))
  kind_of s x (who.Shard g) (deed.Swept shard) nobody first = inr (inr (g, refl))
  kind_of s x (who.Shard g) other nobody first = inl refl
  kind_of s x who.Store d nobody first = inl refl

  level_more : (s : Store) (more : List JournalEntry) → AllByRecursion (IsCalm by.commands) more → IsLegal by.limits s (events_in by s more) → Level s → Level (run by.limits s (events_in by s more))
  level_more s [] calm legal l = l
  level_more s (x ∷ more) calm legal l = by_kind (λ t g k. level_more t more calm.1 g k) (event_at by.commands by.name s x) (kind_of s x x.who x.deed calm.0.nobody calm.0.first) legal
    where
      Again : Type 0
      Again = (t : Store) → IsLegal by.limits t (events_in by t more) → Level t → Level (run by.limits t (events_in by t more))

      Behind : Option Event → Type 0
      Behind o = IsLegal by.limits s (with_event o (events_in by (store_by by.limits s o) more)) → Level (run by.limits s (with_event o (events_in by (store_by by.limits s o) more)))

      by_kind : Again → (o : Option Event) → Kind o → Behind o
      by_kind again o (inl none) = subst (λ (p : Option Event). Behind p) (sym none) (λ g. again s g l)
      by_kind again o (inr (inl (g, other, is))) = subst (λ (p : Option Event). Behind p) (sym is) (λ h. again (enter s g) h.1 (level_enters s l g other h.0))
      by_kind again o (inr (inr (g, is))) = subst (λ (p : Option Event). Behind p) (sym is) (λ h. absurd (no_sweep s l g h.0))

  -- behind a front that leaves it level
  pub level_along : (s : Store) (front more : List JournalEntry) → AllByRecursion (IsCalm by.commands) more → IsLegal by.limits s (events_in by s (front ++ more))
      → Level (run by.limits s (events_in by s front)) → Level (run by.limits s (events_in by s (front ++ more)))
  level_along s [] more calm legal l = level_more s more calm legal l
  level_along s (x ∷ front) more calm legal l = by_event (λ t g k. level_along t front more calm g k) (event_at by.commands by.name s x) legal l
    where
      by_event : ((t : Store) → IsLegal by.limits t (events_in by t (front ++ more)) → Level (run by.limits t (events_in by t front)) → Level (run by.limits t (events_in by t (front ++ more))))
          → (o : Option Event) → IsLegal by.limits s (with_event o (events_in by (store_by by.limits s o) (front ++ more)))
          → Level (run by.limits s (with_event o (events_in by (store_by by.limits s o) front)))
          → Level (run by.limits s (with_event o (events_in by (store_by by.limits s o) (front ++ more))))
      by_event again None g k = again s g k
      by_event again (Some event) g k = again (step by.limits s event).store g.1 k

  -- a front of what is legal is
  pub legal_front : (s : Store) (front more : List JournalEntry) → IsLegal by.limits s (events_in by s (front ++ more)) → IsLegal by.limits s (events_in by s front)
  legal_front s [] more h = tt
  legal_front s (x ∷ front) more h = by_event (λ t g. legal_front t front more g) (event_at by.commands by.name s x) h
    where
      by_event : ((t : Store) → IsLegal by.limits t (events_in by t (front ++ more)) → IsLegal by.limits t (events_in by t front))
          → (o : Option Event) → IsLegal by.limits s (with_event o (events_in by (store_by by.limits s o) (front ++ more)))
          → IsLegal by.limits s (with_event o (events_in by (store_by by.limits s o) front))
      by_event again None k = again s k
      by_event again (Some event) k = (k.0, again (step by.limits s event).store k.1)
