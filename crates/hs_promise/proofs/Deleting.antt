-- A deletion run of an empty store deletes as promised: its sweep is exact, and `done` stands directly behind it.
use Rattle.std.proofs.lemmas.Bool.{false≢true}
use Rattle.std.proofs.lemmas.List.Elements.{All-cons, All-nil}
use Rattle.std.specs.Option.{option_map_or}
use Rattle.std.proofs.Common.{ap, arith, subst, ◌∙◌}
use Rattle.std.specs.Prelude.{◌≡◌, refl, ℕ, zero, suc, ◌+◌, ◌≤◌, List, [], ◌∷◌, Option, Some, None, is_some, slice_get}
use Rattle.hs_journal.specs.declared.entry.JournalEntry.{JournalEntry}
use Rattle.hs_journal.specs.declared.entry.Who.TheVariants as who
use Rattle.hs_journal.specs.Order.{IsAt}
use Rattle.hs_model.specs.declared.deed.Deed.{Deed}
use Rattle.hs_model.specs.declared.deed.Deed.TheVariants as deed
use Rattle.hs_model.specs.declared.op.Op.TheVariants as op
use Rattle.hs_model.specs.declared.command.Command.TheVariants as command
use Rattle.hs_model.specs.declared.reply.Reply.{Reply}
use Rattle.hs_model.specs.declared.reply.Reply.TheVariants as reply
use Rattle.hs_model.specs.Judge.{granted, judge, refusals}
use Rattle.hs_model.specs.Store.{Store, empty_store}
use Rattle.hs_promise.specs.declared.status.Status.TheVariants as status
use Rattle.hs_promise.specs.Answers.{store_before}
use Rattle.hs_promise.specs.Deletes.{Deletes, EndsRun, IsDoneAt}
use Rattle.hs_laws.specs.Kept.{AllSwept, SweepIsExact}
use Rattle.hs_promise.specs.Run.{Ran, Script}
use Rattle.hs_promise.proofs.Rejoining.{nothing}
use Rattle.hs_promise.proofs.Stopping.{one_block}

-- one line that asks for a deletion, of one shard
abbrev deleting : Script
deleting = record one_block { commands = λ n. Some (command.Client op.Delete) }

-- it is answered, the shard sweeps, and the run is done
abbrev the_sweep : JournalEntry
the_sweep = record { who = who.Shard 0; moment = 9; deed = deed.Swept 0; reply = reply.Sweep 2 0 }

abbrev told : List JournalEntry
told = record { who = who.Line 1; moment = 3; deed = deed.Entered 0; reply = reply.Run 2 } ∷ the_sweep
    ∷ record { who = who.Store; moment = 9; deed = deed.Nothing; reply = reply.Done 2 } ∷ []

abbrev deleted : Ran
deleted = record { ending = status.Done; line = 1; journal = told; kept = []; stored = []; refused = []; course = []; old = nothing; new = nothing }

-- ---- which of its entries is a sweep, and which tells that a run is done

abbrev swept_by : Deed → Option ℕ
swept_by (deed.Swept shard) = Some shard
swept_by other = None

abbrev done_by : Reply → Option ℕ
done_by (reply.Done epoch) = Some epoch
done_by other = None

deed_at : (place : ℕ) (e : JournalEntry) → IsAt told place e → option_map_or (λ x. swept_by x.deed) (slice_get told place) None ≡ swept_by e.deed
deed_at place e at = ap (λ o. option_map_or (λ x. swept_by x.deed) o None) at

reply_at : (place : ℕ) (e : JournalEntry) → IsAt told place e → option_map_or (λ x. done_by x.reply) (slice_get told place) None ≡ done_by e.reply
reply_at place e at = ap (λ o. option_map_or (λ x. done_by x.reply) o None) at

none_is_some : {A : Type 0} (x : A) → None ≡ Some x → ⊥
none_is_some x same = false≢true (ap (λ o. is_some o) same)

some_is : {A : Type 0} (a b : A) → Some a ≡ Some b → a ≡ b
some_is a b same = ap (λ o. option_map_or (λ x. x) o a) same

-- ---- the sweep

-- it removes nothing of nothing
abbrev swept_store : Store
swept_store = store_before deleting (empty_store 1) told 1

it_is_exact : SweepIsExact swept_store 0 (reply.Sweep 2 0)
unfolding judge refusals granted
it_is_exact = record {
  exact = λ a stored. ((λ here. absurd (none_is_some stored here)), (λ here. absurd (none_is_some stored here.0)));
  given = λ a epoch. ((λ here. absurd (omega (arith, here.1))), (λ here. absurd (omega (arith, here.0.1))));
  number = refl;
}

each_is : (place shard : ℕ) (e : JournalEntry) → IsAt told place e → e.deed ≡ deed.Swept shard → SweepIsExact (store_before deleting (empty_store 1) told place) shard e.reply
unfolding judge refusals granted
each_is zero shard e at swept = absurd (none_is_some shard (deed_at 0 e at ∙ ap (λ d. swept_by d) swept))
each_is (suc zero) shard e at swept =
    subst (λ (x : JournalEntry). SweepIsExact swept_store shard x.reply) (some_is the_sweep e at)
    (subst (λ g. SweepIsExact swept_store g (reply.Sweep 2 0)) (some_is 0 shard (deed_at 1 e at ∙ ap (λ d. swept_by d) swept)) it_is_exact)
each_is (suc (suc zero)) shard e at swept = absurd (none_is_some shard (deed_at 2 e at ∙ ap (λ d. swept_by d) swept))
each_is (suc (suc (suc place))) shard e at swept = absurd (none_is_some shard (deed_at (suc (suc (suc place))) e at ∙ ap (λ d. swept_by d) swept))

-- ---- `done`

-- the epoch that every shard has swept behind the sweep and not before is 2
it_ends : (epoch : ℕ) → (AllSwept (store_before deleting (empty_store 1) told 1) epoch → ⊥) → AllSwept (store_before deleting (empty_store 1) told 2) epoch → IsDoneAt deleted 2 epoch
unfolding judge refusals granted
it_ends zero before after = absurd (before (All-cons (λ e. 0 ≤ e) 1 [] (omega arith) (All-nil (λ e. 0 ≤ e))))
it_ends (suc zero) before after = absurd (before (All-cons (λ e. 1 ≤ e) 1 [] (omega arith) (All-nil (λ e. 1 ≤ e))))
it_ends (suc (suc zero)) before after = record { entry = record { who = who.Store; moment = 9; deed = deed.Nothing; reply = reply.Done 2 }; at = refl; tells = refl }
it_ends (suc (suc (suc epoch))) before after = absurd (omega (arith, after 0 0 (omega arith)))

is_done : (place epoch : ℕ) → EndsRun deleting (empty_store 1) deleted place epoch → IsDoneAt deleted (place + 1) epoch
unfolding judge refusals granted
is_done zero epoch ends = absurd (none_is_some ends.shard (deed_at 0 ends.sweeping ends.at ∙ ap (λ d. swept_by d) ends.swept))
is_done (suc zero) epoch ends = it_ends epoch ends.before ends.after
is_done (suc (suc zero)) epoch ends = absurd (none_is_some ends.shard (deed_at 2 ends.sweeping ends.at ∙ ap (λ d. swept_by d) ends.swept))
is_done (suc (suc (suc place))) epoch ends = absurd (none_is_some ends.shard (deed_at (suc (suc (suc place))) ends.sweeping ends.at ∙ ap (λ d. swept_by d) ends.swept))

the_run_ends : EndsRun deleting (empty_store 1) deleted 1 2
unfolding judge refusals granted
the_run_ends = record {
  shard = 0;
  sweeping = the_sweep;
  at = refl;
  swept = refl;
  before = λ all. absurd (omega (arith, all 0 0 (omega arith)));
  after = All-cons (λ e. 2 ≤ e) 2 [] (omega arith) (All-nil (λ e. 2 ≤ e));
}

only_there : (place epoch : ℕ) → IsDoneAt deleted place epoch → (before : ℕ) × (place ≡ before + 1) × EndsRun deleting (empty_store 1) deleted before epoch
unfolding judge refusals granted
only_there zero epoch done = absurd (none_is_some epoch (reply_at 0 done.entry done.at ∙ ap (λ r. done_by r) done.tells))
only_there (suc zero) epoch done = absurd (none_is_some epoch (reply_at 1 done.entry done.at ∙ ap (λ r. done_by r) done.tells))
only_there (suc (suc zero)) epoch done =
    (1, refl, subst (λ e. EndsRun deleting (empty_store 1) deleted 1 e) (some_is 2 epoch (reply_at 2 done.entry done.at ∙ ap (λ r. done_by r) done.tells)) the_run_ends)
only_there (suc (suc (suc place))) epoch done = absurd (none_is_some epoch (reply_at (suc (suc (suc place))) done.entry done.at ∙ ap (λ r. done_by r) done.tells))

the_run_keeps_clause_4 : Deletes deleting (empty_store 1) deleted
the_run_keeps_clause_4 = record { sweeps = each_is; done = is_done; only_done = only_there }
