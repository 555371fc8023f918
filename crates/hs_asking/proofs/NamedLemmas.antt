-- Each block stands at its name, whatever a journal tells.
use Rattle.std.proofs.Common.{◌≡◌, ◌∙◌, inl, inr, ℕ, ◌≤◌, ◌&&◌, Bool, true, List, [], ◌∷◌, Option, Some, None, refl, sym, ap, subst, arith, tests, length, map, is_none, is_some, nat_le, slice_index}
use Rattle.std.specs.BTreeMap.{is_at}
use Rattle.std.specs.List.{list_all}
use Rattle.std.specs.Map.{lookup}
use Rattle.std.specs.Prelude.{if◌then◌else◌}
use Rattle.hs_asking.proofs.SaneLemmas.{not_above}
use Rattle.hs_asking.proofs.SeatLemmas.{put-blocks, was_or_put}
use Rattle.hs_asking.specs.Lawful.{AreAnswersOf, StandNamed}
use Rattle.hs_asking.specs.Shown.{Began, Shown, store_now}
use Rattle.hs_journal.specs.Events.{address_of, addressed, client_op, event_at, events_of, has_block, line_event, shard_event, store_by, with_event}
use Rattle.hs_journal.specs.declared.entry.JournalEntry.{JournalEntry}
use Rattle.hs_journal.specs.declared.entry.Who.{Who}
use Rattle.hs_journal.specs.declared.entry.Who.TheVariants as who
use Rattle.hs_laws.proofs.DistinctLemmas.{step-distinct}
use Rattle.hs_laws.proofs.JudgeKeeps.{AllNone, all_none}
use Rattle.hs_laws.proofs.SweepLemmas.{stays_spared}
use Rattle.hs_laws.specs.Distinct.{HasDistinctAddresses}
use Rattle.hs_limits.specs.Block.{Block, spell}
use Rattle.hs_limits.specs.declared.address.Address.{Address}
use Rattle.hs_limits.specs.declared.address.Held.{Held}
use Rattle.hs_limits.specs.declared.limits.Limits.{Limits}
use Rattle.hs_limits.specs.declared.spelling.TheConstants.{MOST_BYTES, MOST_POINTERS}
use Rattle.hs_model.proofs.JudgeLemmas.{judge_granted, judge_refused}
use Rattle.hs_model.specs.Judge.{given_address, granted, judge, refusals, written}
use Rattle.hs_model.specs.Refusals.{first, no_handle_in, no_such_handle, refused_when}
use Rattle.hs_model.specs.Run.{Event, run}
use Rattle.hs_model.specs.Store.{Session, Store, address_cmp, epoch_at, held_in, session_at, with_block}
use Rattle.hs_model.specs.declared.command.Command.{Command}
use Rattle.hs_model.specs.declared.deed.Deed.{Deed}
use Rattle.hs_model.specs.declared.deed.Deed.TheVariants as deed
use Rattle.hs_model.specs.declared.op.Op.{Op}
use Rattle.hs_model.specs.declared.op.Op.TheVariants as op
use Rattle.hs_model.specs.declared.reply.Reply.{Reply}
use Rattle.hs_model.specs.declared.reply.Reply.TheVariants as reply

-- ---- a write that is done has a block

and_from : (a b : Bool) → a ≡ true → b ≡ true → (a && b) ≡ true
and_from a b e f = rw (e, f) refl

le-true : (a b : ℕ) → a ≤ b → nat_le a b ≡ true
le-true a b h = grind (arith, tests, h)

held_or : (o : Option Held) (r : Reply) → refused_when (is_none o) r ≡ None → is_some o ≡ true
held_or None r e = cc e
held_or (Some x) r e = refl

all_held : (session : Option Session) (handles : List ℕ) → AllNone (map (λ handle. no_such_handle session handle) handles) → list_all (λ handle. is_some (held_in session handle)) handles ≡ true
all_held session [] h = refl
all_held session (handle ∷ handles) h =
    and_from (is_some (held_in session handle)) (list_all (λ handle. is_some (held_in session handle)) handles) (held_or (held_in session handle) (reply.NoHandle handle) h.0) (all_held session handles h.1)

has_from : (limits : Limits) (s : Store) (name payload handles : List ℕ) (address : Option Address) → first (refusals limits s (op.Write name payload handles address)) ≡ None → has_block s name payload handles ≡ true
unfolding refusals no_handle_in
has_from limits s name payload handles address e =
    let none = all_none (refusals limits s (op.Write name payload handles address)) e in
    let held = all_held (session_at s name) handles (all_none (map (λ handle. no_such_handle (session_at s name) handle) handles) none.1.1.1.0) in
    let few : length handles ≤ MOST_POINTERS = not_above (length handles) MOST_POINTERS _ none.1.1.0 in
    let short : length payload ≤ MOST_BYTES = not_above (length payload) MOST_BYTES _ none.1.0 in
    and_from (list_all (λ handle. is_some (held_in (session_at s name) handle)) handles && nat_le (length handles) MOST_POINTERS) (nat_le (length payload) MOST_BYTES)
    (and_from (list_all (λ handle. is_some (held_in (session_at s name) handle)) handles) (nat_le (length handles) MOST_POINTERS) held (le-true (length handles) MOST_POINTERS few))
    (le-true (length payload) MOST_BYTES short)

-- ---- one event

module _ (name : List ℕ → Address) where
  same_named : (s u : Store) → u.blocks ≡ s.blocks → StandNamed name s → StandNamed name u
  same_named s u e named a y p = named a y (sym (ap (λ x. lookup (is_at (address_cmp a)) x) e) ∙ p)

  module _ (limits : Limits) (s : Store) (named : StandNamed name s) where
    granted_named : (o : Op) → first (refusals limits s (addressed name s o)) ≡ None → StandNamed name (granted s (addressed name s o)).store
    unfolding granted
    granted_named (op.Open session) e = same_named s (granted s (op.Open session)).store refl named
    granted_named (op.Close session) e = same_named s (granted s (op.Close session)).store refl named
    granted_named (op.Write session payload handles address) e =
        let has : has_block s session payload handles ≡ true = has_from limits s session payload handles (if has_block s session payload handles then Some (address_of name (written s session payload handles)) else None) e in
        let block : Block = written s session payload handles in
        let a : Address = given_address (if has_block s session payload handles then Some (address_of name block) else None) in
        let at : a ≡ name (spell block) = ap (λ c. given_address (if c then Some (address_of name block) else None)) has in
        λ b y p. elim (was_or_put s (granted s (addressed name s (op.Write session payload handles address))).store a block (epoch_at s a) (put-blocks (with_block s a block) session _) b y p) [
          | inl q ↦ named b y q
          | inr q ↦ q.0 ∙ (at ∙ ap (λ z. name (spell z)) (sym q.1))
        ]
    granted_named (op.Read session handle) e = same_named s (granted s (op.Read session handle)).store (put-blocks s session _) named
    granted_named (op.Look session key) e = same_named s (granted s (op.Look session key)).store (put-blocks s session _) named
    granted_named (op.Root session key handle) e = same_named s (granted s (op.Root session key handle)).store refl named
    granted_named (op.Drop key) e = same_named s (granted s (op.Drop key)).store refl named
    granted_named (op.Forget session handle) e = same_named s (granted s (op.Forget session handle)).store (put-blocks s session _) named
    granted_named (op.Name session handle) e = same_named s (granted s (op.Name session handle)).store refl named
    granted_named op.Delete e = same_named s (granted s op.Delete).store refl named
    granted_named op.Stat e = same_named s (granted s op.Stat).store refl named

    -- an operation as a journal has it judged
    judge_named : (o : Op) → StandNamed name (judge limits s (addressed name s o)).store
    judge_named o = go (first (refusals limits s (addressed name s o))) refl
      where
        go : (found : Option Reply) → first (refusals limits s (addressed name s o)) ≡ found → StandNamed name (judge limits s (addressed name s o)).store
        go (Some r) e = same_named s (judge limits s (addressed name s o)).store (ap (λ x. x.store.blocks) (judge_refused limits s (addressed name s o) r e)) named
        go None e = subst (λ z. StandNamed name z.store) (sym (judge_granted limits s (addressed name s o) e)) (granted_named o e)

    -- ---- an entry

    by_line : (o : Option Op) (r : Reply) → StandNamed name (store_by limits s (line_event name s o r))
    by_line o (reply.Busy line) = named
    by_line None other = named
    by_line (Some o) other = judge_named o

    by_deed : HasDistinctAddresses s → (shard : ℕ) (d : Deed) → StandNamed name (store_by limits s (shard_event shard d))
    by_deed distinct shard (deed.Entered g) = same_named s (store_by limits s (shard_event shard (deed.Entered g))) refl named
    by_deed distinct shard (deed.Swept g) = λ a y p. named a y (stays_spared s (slice_index s.epochs shard) shard a y distinct p).0
    by_deed distinct shard other = named

    entry_named : (commands : ℕ → Option Command) (x : JournalEntry) → HasDistinctAddresses s → StandNamed name (store_by limits s (event_at commands name s x))
    entry_named commands x distinct = go x.who refl
      where
        go : (w : Who) → x.who ≡ w → StandNamed name (store_by limits s (event_at commands name s x))
        go (who.Line n) e = rw e (by_line (client_op (commands n)) x.reply)
        go (who.Shard g) e = rw e (by_deed distinct g x.deed)
        go who.Store e = rw e named

  -- ---- a journal

  journal_named : (commands : ℕ → Option Command) (limits : Limits) (s : Store) (xs : List JournalEntry) → HasDistinctAddresses s → StandNamed name s → StandNamed name (run limits s (events_of commands name limits s xs))
  journal_named commands limits s [] distinct named = named
  journal_named commands limits s (x ∷ xs) distinct named = go (event_at commands name s x) (λ e d h. journal_named commands limits (store_by limits s e) xs d h) (entry_named limits s named commands x distinct)
    where
      go : (e : Option Event) → ((f : Option Event) → HasDistinctAddresses (store_by limits s f) → StandNamed name (store_by limits s f) → StandNamed name (run limits (store_by limits s f) (events_of commands name limits (store_by limits s f) xs)))
          → StandNamed name (store_by limits s e) → StandNamed name (run limits s (with_event e (events_of commands name limits (store_by limits s e) xs)))
      go None ih h = ih None distinct h
      go (Some ev) ih h = ih (Some ev) (step-distinct limits s ev distinct) h

-- so does each of an asker's store, at each time
pub answers_named : {tells : Type 0} → (b : Began) (s : Shown tells) → AreAnswersOf b s → StandNamed b.name (store_now b s)
answers_named b s law = journal_named b.name s.commands b.limits b.store s.journal law.distinct law.named
