-- What one entry of a journal does to the epochs of the plain store.
use Rattle.std.proofs.Common.{◌≡◌, ◌∙◌, sym, ap, subst, ◌⊎◌, inl, inr, ℕ, zero, suc, ◌+◌, ◌<◌, ◌≤◌, Bool, true, false, List, [], ◌∷◌, length, Option, Some, None, refl, arith, tests, slice_index, slice_set, nat_lt}
use Rattle.std.proofs.lemmas.Bool.{and_parts}
use Rattle.std.specs.List.{AllByRecursion}
use Rattle.hs_settled.proofs.EndsCountLemmas.{AllAbove, above_set, many, one, set_long, total, total_set}
use Rattle.hs_settled.specs.Calm.{AreLed, IsNotAlone}
use Rattle.hs_journal.specs.declared.entry.JournalEntry.{JournalEntry}
use Rattle.hs_journal.specs.declared.entry.Who.{Who}
use Rattle.hs_journal.specs.declared.entry.Who.TheVariants as who
use Rattle.hs_journal.specs.Events.{addressed, client_op, event_at, line_event, shard_event, store_by, with_event}
use Rattle.hs_laws.proofs.JudgeKeeps.{step_valid}
use Rattle.hs_laws.proofs.ValidLemmas.{is_from_valid, valid_from_is}
use Rattle.hs_laws.specs.Valid.{IsValid}
use Rattle.hs_limits.specs.declared.limits.Limits.{Limits}
use Rattle.hs_model.specs.declared.deed.Deed.{Deed}
use Rattle.hs_model.specs.declared.deed.Deed.TheVariants as deed
use Rattle.hs_model.specs.declared.op.Op.{Op}
use Rattle.hs_model.specs.declared.op.Op.TheVariants as op
use Rattle.hs_model.specs.declared.reply.Reply.{Reply}
use Rattle.hs_model.specs.declared.reply.Reply.TheVariants as reply
use Rattle.hs_model.specs.Inner.{enter, none_below, sweep}
use Rattle.hs_model.specs.Judge.{granted, judge, judged, refusals}
use Rattle.hs_model.specs.Refusals.{first}
use Rattle.hs_model.specs.Run.{Event, IsAllowed, IsLegal, asks, enters, run, sweeps}
use Rattle.hs_model.specs.Store.{Session, Store, put_session}
use Rattle.hs_promise.specs.Answers.{IsEntry, events_in}
use Rattle.hs_promise.specs.Run.{Script}
use Rattle.hs_swept.proofs.ExactLemmas.{run_with}

-- ---- entries

abbrev pub is_enter_deed : Deed → Bool
is_enter_deed (deed.Entered g) = true
is_enter_deed other = false

abbrev pub is_sweep_deed : Deed → Bool
is_sweep_deed (deed.Swept g) = true
is_sweep_deed other = false

abbrev entered_by : Who → Deed → Bool
entered_by (who.Line n) d = false
entered_by (who.Shard g) d = is_enter_deed d
entered_by who.Store d = false

abbrev swept_by : Who → Deed → Bool
swept_by (who.Line n) d = false
swept_by (who.Shard g) d = is_sweep_deed d
swept_by who.Store d = false

-- an operation is a deletion
abbrev pub is_deletion : Option Op → Bool
is_deletion (Some op.Delete) = true
is_deletion other = false

abbrev of_line : (Option Op → Bool) → Script → Who → Bool
of_line test S (who.Line n) = test (client_op (S.commands n))
of_line test S (who.Shard g) = false
of_line test S who.Store = false

-- a shard tells that it entered, or that it swept; a line asks for what passes a test, and for a deletion
abbrev pub is_entered : JournalEntry → Bool
is_entered e = entered_by e.who e.deed

abbrev pub is_swept : JournalEntry → Bool
is_swept e = swept_by e.who e.deed

abbrev pub is_of_line : (Option Op → Bool) → Script → JournalEntry → Bool
is_of_line test S e = of_line test S e.who

abbrev pub is_delete : Script → JournalEntry → Bool
is_delete S e = is_of_line is_deletion S e

-- ---- a step of the store

-- from one store to the next: epochs and sweeps add up, shard 0 enters by deletions alone, and nothing is swept less than it was
pub record Steps (s t : Store) (entered swept deletions : ℕ) : Type 0 where
  pub valid : IsValid t
  pub long : length t.epochs ≡ length s.epochs
  pub more : total s.epochs + entered ≤ total t.epochs
  pub cleaner : total s.swept + swept ≤ total t.swept
  pub lead : slice_index t.epochs 0 ≤ slice_index s.epochs 0 + deletions
  pub still : (q : ℕ) → AllAbove q s.swept → AllAbove q t.swept

pub stays : (s : Store) → IsValid s → (deletions : ℕ) → Steps s s 0 0 deletions
stays s v deletions = record { valid = v; long = refl; more = omega arith; cleaner = omega arith; lead = omega arith; still = λ q all. all }

pub goes_on : (s t u : Store) (a b c d e f : ℕ) → Steps s t a b c → Steps t u d e f → Steps s u (a + d) (b + e) (c + f)
goes_on s t u a b c d e f x y = record {
  valid = y.valid;
  long = y.long ∙ x.long;
  more = omega (arith, x.more, y.more);
  cleaner = omega (arith, x.cleaner, y.cleaner);
  lead = omega (arith, x.lead, y.lead);
  still = λ q all. y.still q (x.still q all);
}

-- ---- what a client asks

-- the epochs and what is swept are as they were
record Same (s t : Store) : Type 0 where
  epochs : t.epochs ≡ s.epochs
  swept : t.swept ≡ s.swept

same_put : (s : Store) (name : List ℕ) (o : Option Session) → Same s (put_session s name o)
same_put s name None = record { epochs = refl; swept = refl }
same_put s name (Some session) = record { epochs = refl; swept = refl }

same_granted : (s : Store) (o : Op) → is_deletion (Some o) ≡ false → Same s (granted s o).store
unfolding granted
same_granted s (op.Open name) e = record { epochs = refl; swept = refl }
same_granted s (op.Close name) e = record { epochs = refl; swept = refl }
same_granted s (op.Write name payload handles address) e =
    let put = same_put _ name _ in record { epochs = put.epochs; swept = put.swept }
same_granted s (op.Read name handle) e = same_put s name _
same_granted s (op.Look name key) e = same_put s name _
same_granted s (op.Root name key handle) e = record { epochs = refl; swept = refl }
same_granted s (op.Drop key) e = record { epochs = refl; swept = refl }
same_granted s (op.Forget name handle) e = same_put s name _
same_granted s (op.Name name handle) e = record { epochs = refl; swept = refl }
same_granted s op.Delete e = cc e
same_granted s op.Stat e = record { epochs = refl; swept = refl }

-- they are, or shard 0 has entered its next epoch
record Judges (s t : Store) (deletion : Bool) : Type 0 where
  epochs : (t.epochs ≡ s.epochs) ⊎ (deletion ≡ true) × (t.epochs ≡ slice_set s.epochs 0 (slice_index s.epochs 0 + 1))
  swept : t.swept ≡ s.swept

deletion_judges : (s : Store) (x : Op) → is_deletion (Some x) ≡ true → Judges s (granted s x).store (is_deletion (Some x))
unfolding granted
deletion_judges s op.Delete f = record { epochs = inr (refl, refl); swept = refl }
deletion_judges s (op.Open name) f = cc f
deletion_judges s (op.Close name) f = cc f
deletion_judges s (op.Write name payload handles address) f = cc f
deletion_judges s (op.Read name handle) f = cc f
deletion_judges s (op.Look name key) f = cc f
deletion_judges s (op.Root name key handle) f = cc f
deletion_judges s (op.Drop key) f = cc f
deletion_judges s (op.Forget name handle) f = cc f
deletion_judges s (op.Name name handle) f = cc f
deletion_judges s op.Stat f = cc f

judges : (limits : Limits) (s : Store) (o : Op) → Judges s (judge limits s o).store (is_deletion (Some o))
unfolding judge
judges limits s o = go (first (refusals limits s o))
  where
    kept : (b : Bool) → is_deletion (Some o) ≡ b → Judges s (granted s o).store (is_deletion (Some o))
    kept false e = let same : Same s (granted s o).store = same_granted s o e in record { epochs = inl same.epochs; swept = same.swept }
    kept true e = deletion_judges s o e

    go : (x : Option Reply) → Judges s (judged s o x).store (is_deletion (Some o))
    go None = kept (is_deletion (Some o)) refl
    go (Some r) = record { epochs = inl refl; swept = refl }

addressed_deletes : (S : Script) (s : Store) (o : Op) → is_deletion (Some (addressed S.set.name s o)) ≡ is_deletion (Some o)
addressed_deletes S s (op.Write name payload handles address) = refl
addressed_deletes S s other = refl

set_first : (xs : List ℕ) (v : ℕ) → 0 < length xs → slice_index (slice_set xs 0 v) 0 ≡ v
set_first [] v low = absurd (omega (arith, low))
set_first (x ∷ xs) v low = refl

set_other : (xs : List ℕ) (i v : ℕ) → (i ≡ 0 → ⊥) → slice_index (slice_set xs i v) 0 ≡ slice_index xs 0
set_other [] i v apart = refl
set_other (x ∷ xs) zero v apart = absurd (apart refl)
set_other (x ∷ xs) (suc i) v apart = refl

module _ (S : Script) (s : Store) (valid : IsValid s) where
  asked_steps : (o : Op) → Steps s (judge S.set.limits s o).store 0 0 (one (is_deletion (Some o)))
  asked_steps o = go j.epochs
    where
      t : Store
      t = (judge S.set.limits s o).store

      j : Judges s (judge S.set.limits s o).store (is_deletion (Some o))
      j = judges S.set.limits s o

      next : IsValid (judge S.set.limits s o).store
      next = is_from_valid _ (step_valid S.set.limits s (valid_from_is s valid) (asks o) tt)

      swept_is : total s.swept ≡ total (judge S.set.limits s o).store.swept
      swept_is = ap (λ xs. total xs) (sym j.swept)

      go : ((judge S.set.limits s o).store.epochs ≡ s.epochs) ⊎ (is_deletion (Some o) ≡ true) × ((judge S.set.limits s o).store.epochs ≡ slice_set s.epochs 0 (slice_index s.epochs 0 + 1))
          → Steps s (judge S.set.limits s o).store 0 0 (one (is_deletion (Some o)))
      go (inl same) =
          let sums : total s.epochs ≡ total (judge S.set.limits s o).store.epochs = ap (λ xs. total xs) (sym same) in
          let leads : slice_index (judge S.set.limits s o).store.epochs 0 ≡ slice_index s.epochs 0 = ap (λ xs. slice_index xs 0) same in
          record {
            valid = next;
            long = ap (λ (xs : List ℕ). length xs) same;
            more = omega (arith, sums);
            cleaner = omega (arith, swept_is);
            lead = omega (arith, leads);
            still = λ q all. subst (λ xs. AllAbove q xs) (sym j.swept) all;
          }
      go (inr set) =
          let some : 0 < length s.epochs = valid.epochs.some_shard in
          let sums : total (judge S.set.limits s o).store.epochs ≡ total (slice_set s.epochs 0 (slice_index s.epochs 0 + 1)) = ap (λ xs. total xs) set.1 in
          let one_more : total (slice_set s.epochs 0 (slice_index s.epochs 0 + 1)) + slice_index s.epochs 0 ≡ total s.epochs + (slice_index s.epochs 0 + 1) = total_set s.epochs 0 (slice_index s.epochs 0 + 1) some in
          let leads : slice_index (judge S.set.limits s o).store.epochs 0 ≡ slice_index s.epochs 0 + 1 = ap (λ xs. slice_index xs 0) set.1 ∙ set_first s.epochs (slice_index s.epochs 0 + 1) some in
          let counts : one (is_deletion (Some o)) ≡ 1 = ap (λ b. one b) set.0 in
          record {
            valid = next;
            long = ap (λ (xs : List ℕ). length xs) set.1 ∙ set_long s.epochs 0 (slice_index s.epochs 0 + 1);
            more = omega (arith, sums, one_more);
            cleaner = omega (arith, swept_is);
            lead = omega (arith, leads, counts);
            still = λ q all. subst (λ xs. AllAbove q xs) (sym j.swept) all;
          }

  line_steps : (o : Option Op) (r : Reply) → Steps s (store_by S.set.limits s (line_event S.set.name s o r)) 0 0 (one (is_deletion o))
  line_steps o (reply.Busy line) = stays s valid (one (is_deletion o))
  line_steps None other = stays s valid (one (is_deletion None))
  line_steps (Some o) other =
      subst (λ b. Steps s (judge S.set.limits s (addressed S.set.name s o)).store 0 0 (one b)) (addressed_deletes S s o) (asked_steps (addressed S.set.name s o))

  -- ---- what a shard does

  enter_steps : (g : ℕ) → g < length s.epochs → (g ≡ 0 → ⊥) → IsAllowed s (enters g) → Steps s (enter s g) 1 0 0
  enter_steps g low other may =
      let one_more : total (slice_set s.epochs g (slice_index s.epochs g + 1)) + slice_index s.epochs g ≡ total s.epochs + (slice_index s.epochs g + 1) = total_set s.epochs g (slice_index s.epochs g + 1) low in
      let leads : slice_index (slice_set s.epochs g (slice_index s.epochs g + 1)) 0 ≡ slice_index s.epochs 0 = set_other s.epochs g (slice_index s.epochs g + 1) other in
      record {
        valid = is_from_valid _ (step_valid S.set.limits s (valid_from_is s valid) (enters g) may);
        long = set_long s.epochs g (slice_index s.epochs g + 1);
        more = omega (arith, one_more);
        cleaner = omega arith;
        lead = omega (arith, leads);
        still = λ q all. all;
      }

  sweep_steps : (g : ℕ) → g < length s.epochs → IsAllowed s (sweeps g) → Steps s (sweep s g) 0 1 0
  sweep_steps g low may =
      let parts = and_parts (nat_lt (slice_index s.swept g) (slice_index s.epochs g)) (none_below s (slice_index s.epochs g)) may in
      let behind : slice_index s.swept g < slice_index s.epochs g = grind (arith, tests, parts.0) in
      let within : g < length s.swept = let same = valid.epochs.swept_each in omega (arith, low, same) in
      let sums : total (slice_set s.swept g (slice_index s.epochs g)) + slice_index s.swept g ≡ total s.swept + slice_index s.epochs g = total_set s.swept g (slice_index s.epochs g) within in
      record {
        valid = is_from_valid _ (step_valid S.set.limits s (valid_from_is s valid) (sweeps g) may);
        long = refl;
        more = omega arith;
        cleaner = omega (arith, sums, behind);
        lead = omega arith;
        still = λ q all. above_set q s.swept g (slice_index s.epochs g) (omega (arith, behind)) all;
      }

-- ---- an entry

abbrev pub IsMet : Store → Option Event → Type 0
IsMet s None = Unit {0}
IsMet s (Some event) = IsAllowed s event

abbrev pub event_in : Script → Store → JournalEntry → Option Event
event_in S s e = event_at S.commands S.set.name s e

abbrev pub next_store : Script → Store → JournalEntry → Store
next_store S s e = store_by S.set.limits s (event_at S.commands S.set.name s e)

module _ (S : Script) (last : ℕ) (s : Store) (valid : IsValid s) (shards : length s.epochs ≡ S.set.shape.shards) where
  shard_steps : (g : ℕ) (d : Deed) → g < S.set.shape.shards → (d ≡ deed.Entered g) ⊎ (d ≡ deed.Swept g) → (g ≡ 0 → d ≡ deed.Entered 0 → ⊥) → IsMet s (shard_event g d)
      → Steps s (store_by S.set.limits s (shard_event g d)) (one (is_enter_deed d)) (one (is_sweep_deed d)) 0
  shard_steps g d low (inl is) alone met =
      subst (λ x. IsMet s (shard_event g x) → Steps s (store_by S.set.limits s (shard_event g x)) (one (is_enter_deed x)) (one (is_sweep_deed x)) 0) (sym is)
      (λ may. enter_steps S s valid g (omega (arith, low, shards)) (λ zeroth. alone zeroth (is ∙ ap (λ k. deed.Entered k) zeroth)) may) met
  shard_steps g d low (inr is) alone met =
      subst (λ x. IsMet s (shard_event g x) → Steps s (store_by S.set.limits s (shard_event g x)) (one (is_enter_deed x)) (one (is_sweep_deed x)) 0) (sym is)
      (λ may. sweep_steps S s valid g (omega (arith, low, shards)) may) met

  parts_step : (w : Who) (m : ℕ) (d : Deed) (r : Reply) → IsEntry S last (record { who = w; moment = m; deed = d; reply = r }) → IsNotAlone (record { who = w; moment = m; deed = d; reply = r })
      → IsMet s (event_in S s (record { who = w; moment = m; deed = d; reply = r }))
      → Steps s (next_store S s (record { who = w; moment = m; deed = d; reply = r })) (one (entered_by w d)) (one (swept_by w d)) (one (of_line is_deletion S w))
  parts_step (who.Line n) m d r is alone met = line_steps S s valid (client_op (S.commands n)) r
  parts_step (who.Shard g) m d r is alone met = shard_steps g d is.0 is.1 (λ zeroth did. alone (ap (λ k. who.Shard k) zeroth) did) met
  parts_step who.Store m d r is alone met = stays s valid 0

  pub entry_steps : (e : JournalEntry) → IsEntry S last e → IsNotAlone e → IsMet s (event_in S s e) → Steps s (next_store S s e) (one (is_entered e)) (one (is_swept e)) (one (is_delete S e))
  entry_steps e is alone met = parts_step e.who e.moment e.deed e.reply is alone met

-- ---- a journal

-- entries from a valid store on
pub record Fits (S : Script) (last : ℕ) (s : Store) (entries : List JournalEntry) : Type 0 where
  pub valid : IsValid s
  pub shards : length s.epochs ≡ S.set.shape.shards
  pub legal : IsLegal S.set.limits s (events_in S s entries)
  pub each : AllByRecursion (IsEntry S last) entries
  pub led : AreLed entries

legal_parts : (limits : Limits) (s : Store) (event : Option Event) (events : List Event) → IsLegal limits s (with_event event events) → IsMet s event × IsLegal limits (store_by limits s event) events
legal_parts limits s None events legal = (tt, legal)
legal_parts limits s (Some event) events legal = legal

module _ (S : Script) (last : ℕ) (s : Store) (e : JournalEntry) (entries : List JournalEntry) (fits : Fits S last s (e ∷ entries)) where
  abbrev rest : List Event
  rest = events_in S (next_store S s e) entries

  parted : IsMet s (event_in S s e) × IsLegal S.set.limits (next_store S s e) (events_in S (next_store S s e) entries)
  parted = legal_parts S.set.limits s (event_in S s e) (events_in S (next_store S s e) entries) fits.legal

  pub fits_head : Steps s (next_store S s e) (one (is_entered e)) (one (is_swept e)) (one (is_delete S e))
  fits_head = entry_steps S last s fits.valid fits.shards e fits.each.0 fits.led.0 parted.0

  pub fits_tail : Fits S last (next_store S s e) entries
  fits_tail = record { valid = fits_head.valid; shards = fits_head.long ∙ fits.shards; legal = parted.1; each = fits.each.1; led = fits.led.1 }

pub journal_steps : (S : Script) (last : ℕ) (s : Store) (entries : List JournalEntry) → Fits S last s entries
    → Steps s (run S.set.limits s (events_in S s entries)) (many is_entered entries) (many is_swept entries) (many (is_delete S) entries)
journal_steps S last s [] fits = stays s fits.valid 0
journal_steps S last s (e ∷ entries) fits =
    subst (λ t. Steps s t (many is_entered (e ∷ entries)) (many is_swept (e ∷ entries)) (many (is_delete S) (e ∷ entries)))
    (sym (run_with S.set.limits s (event_in S s e) (events_in S (next_store S s e) entries)))
    (goes_on s (next_store S s e) (run S.set.limits (next_store S s e) (events_in S (next_store S s e) entries)) _ _ _ _ _ _
    (fits_head S last s e entries fits) (journal_steps S last (next_store S s e) entries (fits_tail S last s e entries fits)))
