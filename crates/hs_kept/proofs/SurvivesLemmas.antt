-- A file that is stored stays so in a run of which no line drops its key.
use Rattle.std.proofs.Common.{◌≡◌, ap, sym, subst, refl, ℕ, zero, suc, ◌+◌, Bool, true, false, List, [], ◌∷◌, Option, Some, None, if◌then◌else◌}
use Rattle.std.specs.List.{AllByRecursion}
use Rattle.std.specs.Prelude.{drop, take}
use Rattle.hs_asking.specs.Seats.{IsSane}
use Rattle.hs_asking.specs.Staying.{NeverDrops, NotDropping}
use Rattle.hs_clauses.specs.Shown.{IsToldRun}
use Rattle.hs_entry.specs.Entries.{rank_of}
use Rattle.hs_events.specs.Taken.{or_blank, taken_lists}
use Rattle.hs_fold.specs.Opened.{chosen, chosen_each, outranks}
use Rattle.hs_fold.specs.Shards.Setting.{Numbered}
use Rattle.hs_founded.specs.Spelled.{AreSpelled, HoldBytes}
use Rattle.hs_journal.specs.Events.{addressed, client_op, event_at, events_of, line_event, shard_event, store_by, with_event}
use Rattle.hs_journal.specs.declared.entry.JournalEntry.{JournalEntry}
use Rattle.hs_journal.specs.declared.entry.Who.{Who}
use Rattle.hs_journal.specs.declared.entry.Who.TheVariants as who
use Rattle.hs_limits.specs.declared.address.Address.{Address}
use Rattle.hs_limits.specs.declared.limits.Limits.{Limits}
use Rattle.hs_model.specs.Run.{Event}
use Rattle.hs_model.specs.Store.{Store}
use Rattle.hs_model.specs.declared.command.Command.{Command}
use Rattle.hs_model.specs.declared.deed.Deed.{Deed}
use Rattle.hs_model.specs.declared.deed.Deed.TheVariants as deed
use Rattle.hs_model.specs.declared.op.Op.{Op}
use Rattle.hs_model.specs.declared.op.Op.TheVariants as op
use Rattle.hs_model.specs.declared.reply.Reply.{Reply}
use Rattle.hs_model.specs.declared.reply.Reply.TheVariants as reply
use Rattle.hs_ports.specs.Disk.{Standing}
use Rattle.hs_promise.specs.Entry.{entry_logs, entry_store, is_aside, logs_from}
use Rattle.hs_promise.specs.Run.{Ran, Script}
use Rattle.hs_side.specs.Current.{list_in}
use Rattle.hs_tree.proofs.LawLemmas.{stored_stays}
use Rattle.hs_kept.proofs.NobodyLemmas.{none_asked}
use Rattle.hs_kept.proofs.LawLemmas.{Laws}
use Rattle.hs_kept.specs.Survives.{NoneDrops, OpensSound, SurvivesRun}

-- ---- its events

not_dropping : (name : List ℕ → Address) (key : List ℕ) (s : Store) (o : Op) → ((taken : List ℕ) → o ≡ op.Drop taken → taken ≡ key → ⊥) → NotDropping key (addressed name s o)
not_dropping name key s (op.Drop taken) h = h taken refl
not_dropping name key s other h = tt

module _ (commands : ℕ → Option Command) (name : List ℕ → Address) (limits : Limits) (key : List ℕ) (none : NoneDrops commands key) where
  abbrev Never : Option Event → Type 0
  Never None = Unit {0}
  Never (Some e) = NeverDrops key e

  by_op : (s : Store) (o : Op) → ((taken : List ℕ) → o ≡ op.Drop taken → taken ≡ key → ⊥) → (told : Reply) → Never (line_event name s (Some o) told)
  by_op s o h (reply.Busy line) = tt
  by_op s o h other = not_dropping name key s o h

  by_line : (s : Store) (o : Option Op) → ((taken : List ℕ) → o ≡ Some (op.Drop taken) → taken ≡ key → ⊥) → (told : Reply) → Never (line_event name s o told)
  by_line s None h told = subst (λ (event : Option Event). Never event) (sym (none_asked name s told)) tt
  by_line s (Some o) h told = by_op s o (λ taken is. h taken (ap (λ (x : Op). Some x) is)) told

  by_deed : (shard : ℕ) (d : Deed) → Never (shard_event shard d)
  by_deed shard (deed.Entered g) = tt
  by_deed shard (deed.Swept g) = tt
  by_deed shard other = tt

  by_who : (s : Store) (x : JournalEntry) (w : Who) → x.who ≡ w → Never (event_at commands name s x)
  by_who s x (who.Line n) is = subst (λ (event : Option Event). Never event) (sym (ap (λ (w : Who). event_at commands name s (record x { who = w })) is)) (by_line s (client_op (commands n)) (none n) x.reply)
  by_who s x (who.Shard g) is = subst (λ (event : Option Event). Never event) (sym (ap (λ (w : Who). event_at commands name s (record x { who = w })) is)) (by_deed g x.deed)
  by_who s x who.Store is = subst (λ (event : Option Event). Never event) (sym (ap (λ (w : Who). event_at commands name s (record x { who = w })) is)) tt

  pub never_all : (s : Store) (xs : List JournalEntry) → AllByRecursion (NeverDrops key) (events_of commands name limits s xs)
  never_all s [] = tt
  never_all s (x ∷ xs) = go (event_at commands name s x) (by_who s x x.who refl) (λ t. never_all t xs)
    where
      go : (event : Option Event) → Never event → ((t : Store) → AllByRecursion (NeverDrops key) (events_of commands name limits t xs)) → AllByRecursion (NeverDrops key) (with_event event (events_of commands name limits (store_by limits s event) xs))
      go None n rest = rest s
      go (Some e) n rest = (n, rest (store_by limits s (Some e)))

-- ---- the store at entry

logs_spelled : (laws : Laws) (S : Script) (r : Ran) (k : ℕ) (disks : List Standing) → HoldBytes disks → AllByRecursion AreSpelled (or_blank (logs_from S r k disks))
logs_spelled laws S r k [] bytes = tt
logs_spelled laws S r k (disk ∷ disks) bytes = go (is_aside S r k) (logs_spelled laws S r (k + 1) disks bytes.1)
  where
    go : (b : Bool) → AllByRecursion AreSpelled (or_blank (logs_from S r (k + 1) disks)) → AllByRecursion AreSpelled (or_blank ((if b then None else list_in disk.seen) ∷ logs_from S r (k + 1) disks))
    go true rest = (tt, rest)
    go false rest = (laws.spelled disk.seen bytes.0, rest)

-- of lists of which something is so, and of none, it is so of each that counts
module _ (P : Numbered → Type 0) (none : P []) where
  one_chosen : (lists : List Numbered) → AllByRecursion P lists → P (chosen lists)
  one_chosen [] all = none
  one_chosen (l ∷ ls) all = go (outranks (rank_of (chosen ls)) (rank_of l)) (one_chosen ls all.1)
    where
      go : (b : Bool) → P (chosen ls) → P (if b then chosen ls else l)
      go true h = h
      go false h = all.0

  all_take : (n : ℕ) (lists : List Numbered) → AllByRecursion P lists → AllByRecursion P (take n lists)
  all_take zero lists all = tt
  all_take (suc n) [] all = tt
  all_take (suc n) (l ∷ ls) all = (all.0, all_take n ls all.1)

  all_drop : (n : ℕ) (lists : List Numbered) → AllByRecursion P lists → AllByRecursion P (drop n lists)
  all_drop zero lists all = all
  all_drop (suc n) [] all = tt
  all_drop (suc n) (l ∷ ls) all = all_drop n ls all.1

  pub all_chosen : (n copies : ℕ) (lists : List Numbered) → AllByRecursion P lists → AllByRecursion P (chosen_each n copies lists)
  all_chosen zero copies lists all = tt
  all_chosen (suc n) copies lists all = (one_chosen (take copies lists) (all_take copies lists all), all_chosen n copies (drop copies lists) (all_drop copies lists all))

module _ (laws : Laws) (S : Script) (r : Ran) (run : IsToldRun S r) (opens : OpensSound S r) where
  spelled : AllByRecursion AreSpelled (taken_lists S.set.shape (entry_logs S r))
  spelled = all_chosen AreSpelled tt S.set.shape.shards S.set.shape.copies (or_blank (entry_logs S r)) (logs_spelled laws S r 0 r.old.disks opens.bytes)

  sane : IsSane (entry_store S r)
  sane = record {
    valid = opens.sound.sound.valid;
    distinct = laws.distinct S.set (taken_lists S.set.shape (entry_logs S r));
    blocks = λ a stored at. (laws.named S.set (taken_lists S.set.shape (entry_logs S r)) run.on.shape opens.sound spelled a stored at).bounds;
  }

  pub survives : SurvivesRun S r
  survives key file none stored =
      stored_stays S.set.name S.set.limits (entry_store S r) (events_of S.commands S.set.name S.set.limits (entry_store S r) r.journal) key file sane
      (laws.answers S r run opens.sound).legal (never_all S.commands S.set.name S.set.limits key none (entry_store S r) r.journal) stored
