-- Each sweep of a journal that tells a run is exact.
use Rattle.std.proofs.Common.{◌≡◌, ◌∙◌, sym, ap, subst, ℕ, zero, suc, List, [], ◌∷◌, Option, Some, None, refl, slice_index, take}
use Rattle.std.specs.Option.{option_map_or}
use Rattle.hs_answered.specs.Telling.{Judging, Tells, events_in}
use Rattle.hs_journal.specs.declared.entry.JournalEntry.{JournalEntry}
use Rattle.hs_journal.specs.declared.entry.Who.{Who}
use Rattle.hs_journal.specs.declared.entry.Who.TheVariants as who
use Rattle.hs_journal.specs.Events.{HasAnswer, IsAnswered, event_at, store_by, with_event}
use Rattle.hs_journal.specs.Order.{IsAt}
use Rattle.hs_laws.specs.Distinct.{HasDistinctAddresses}
use Rattle.hs_laws.specs.Kept.{SweepIsExact}
use Rattle.hs_laws.specs.Unreached.{KeepsItsGiven, KeepsTheRest}
use Rattle.hs_limits.specs.declared.limits.Limits.{Limits}
use Rattle.hs_model.specs.declared.deed.Deed.{Deed}
use Rattle.hs_model.specs.declared.deed.Deed.TheVariants as deed
use Rattle.hs_model.specs.declared.reply.Reply.{Reply}
use Rattle.hs_model.specs.Inner.{sweep}
use Rattle.hs_model.specs.Run.{Event, run, step}
use Rattle.hs_model.specs.Store.{Store}
use Rattle.hs_swept.specs.Swept.{ShardsSweep, SweepsExactly, store_before}

-- ---- plain facts

pub none_is_some : {A : Type 0} (x : A) → None ≡ Some x → ⊥
none_is_some x same = cc same

pub some_is : {A : Type 0} (a b : A) → Some a ≡ Some b → a ≡ b
some_is a b same = ap (λ o. option_map_or (λ x. x) o a) same

abbrev pub swept_by : Deed → ℕ
swept_by (deed.Swept shard) = shard
swept_by other = 0

-- an entry of which the subject and the deed are known
pub shaped : (e : JournalEntry) (w : Who) (d : Deed) → e.who ≡ w → e.deed ≡ d → e ≡ record { who = w; moment = e.moment; deed = d; reply = e.reply }
shaped e w d by did =
    ap (λ (x : Who). record { who = x; moment = e.moment; deed = e.deed; reply = e.reply }) by
    ∙ ap (λ (x : Deed). record { who = w; moment = e.moment; deed = x; reply = e.reply }) did

pub run_with : (limits : Limits) (s : Store) (e : Option Event) (events : List Event) → run limits s (with_event e events) ≡ run limits (store_by limits s e) events
run_with limits s None events = refl
run_with limits s (Some event) events = refl

-- ---- what the laws of the plain store say

abbrev pub Blocks : Type 0
Blocks = (s : Store) (shard : ℕ) → HasDistinctAddresses s → KeepsTheRest s (slice_index s.epochs shard) shard (sweep s shard)

abbrev pub Given : Type 0
Given = (s : Store) (shard : ℕ) → KeepsItsGiven s (sweep s shard)

abbrev pub Distinct : Type 0
Distinct = (limits : Limits) (s : Store) (event : Event) → HasDistinctAddresses s → HasDistinctAddresses (step limits s event).store

module _ (blocks : Blocks) (given : Given) (distinct : Distinct) (by : Judging) where
  still_distinct : (s : Store) (e : Option Event) → HasDistinctAddresses s → HasDistinctAddresses (store_by by.limits s e)
  still_distinct s None h = h
  still_distinct s (Some event) h = distinct by.limits s event h

  -- the sweep of a shard, with its answer
  shaped_exact : (s : Store) (g shard moment : ℕ) (r : Reply) → HasDistinctAddresses s
      → HasAnswer by.limits s (record { who = who.Shard g; moment = moment; deed = deed.Swept shard; reply = r }) (event_at by.commands by.name s (record { who = who.Shard g; moment = moment; deed = deed.Swept shard; reply = r }))
      → SweepIsExact s shard r
  shaped_exact s g shard moment r apart has =
      subst (λ n. SweepIsExact s n r) (sym (ap (λ d. swept_by d) has.1))
      (record { exact = blocks s g apart; given = given s g; number = has.0 })

  here_exact : (s : Store) (e : JournalEntry) (g shard : ℕ) → HasDistinctAddresses s → HasAnswer by.limits s e (event_at by.commands by.name s e)
      → e.who ≡ who.Shard g → e.deed ≡ deed.Swept shard → SweepIsExact s shard e.reply
  here_exact s e g shard apart has told swept =
      shaped_exact s g shard e.moment e.reply apart
      (subst (λ (x : JournalEntry). HasAnswer by.limits s x (event_at by.commands by.name s x)) (shaped e (who.Shard g) (deed.Swept shard) told swept) has)

  place_exact : (start : Store) (entries : List JournalEntry) (place g shard : ℕ) (e : JournalEntry) → HasDistinctAddresses start → IsAnswered by.commands by.name by.limits start entries
      → IsAt entries place e → e.who ≡ who.Shard g → e.deed ≡ deed.Swept shard → SweepIsExact (store_before by start entries place) shard e.reply
  place_exact start [] place g shard e apart has at told swept = absurd (none_is_some e at)
  place_exact start (x ∷ xs) zero g shard e apart has at told swept =
      here_exact start e g shard apart (subst (λ (y : JournalEntry). HasAnswer by.limits start y (event_at by.commands by.name start y)) (some_is x e at) has.0) told swept
  place_exact start (x ∷ xs) (suc place) g shard e apart has at told swept =
      let event : Option Event = event_at by.commands by.name start x in
      let next : Store = store_by by.limits start event in
      subst (λ s. SweepIsExact s shard e.reply) (sym (run_with by.limits start event (events_in by next (take place xs))))
      (place_exact next xs place g shard e (still_distinct start event apart) has.1 at told swept)

  pub sweeps_exactly : (start : Store) (entries : List JournalEntry) (after : Store) → HasDistinctAddresses start → ShardsSweep entries → Tells by start entries after → SweepsExactly by start entries
  sweeps_exactly start entries after apart shards tells place shard e at swept =
      let told : (g : ℕ) × (e.who ≡ who.Shard g) = shards place shard e at swept in
      place_exact start entries place told.0 shard e apart tells.answered at told.1 swept
