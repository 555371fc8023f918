-- A store that was opened for a client has no session before the client asks.
use Rattle.std.proofs.Common.{◌≡◌, ◌∙◌, ap, sym, subst, refl, ℕ, List, [], ◌∷◌, Option, Some, None}
use Rattle.hs_asker.specs.Going.{AtEntry}
use Rattle.hs_asker.specs.Lines.{command_at}
use Rattle.hs_asker.specs.Shows.{Asking, IsTold, began_by, shows_of}
use Rattle.hs_asking.specs.Shown.{store_now}
use Rattle.hs_fold.specs.Shards.Setting.{Setting}
use Rattle.hs_journal.specs.Events.{client_op, event_at, events_of, line_event, shard_event, store_by, with_event}
use Rattle.hs_journal.specs.declared.entry.JournalEntry.{JournalEntry}
use Rattle.hs_journal.specs.declared.entry.Who.{Who}
use Rattle.hs_journal.specs.declared.entry.Who.TheVariants as who
use Rattle.hs_limits.specs.Limits.{greatest_limits}
use Rattle.hs_limits.specs.declared.address.Address.{Address}
use Rattle.hs_limits.specs.declared.limits.Limits.{Limits}
use Rattle.hs_limits.specs.declared.shape.Shape.{Shape}
use Rattle.hs_model.specs.Run.{Event, run}
use Rattle.hs_model.specs.Store.{Store}
use Rattle.hs_model.specs.declared.command.Command.{Command}
use Rattle.hs_model.specs.declared.deed.Deed.{Deed}
use Rattle.hs_model.specs.declared.deed.Deed.TheVariants as deed
use Rattle.hs_model.specs.declared.op.Op.{Op}
use Rattle.hs_model.specs.declared.reply.Reply.{Reply}
use Rattle.hs_model.specs.declared.reply.Reply.TheVariants as reply
use Rattle.hs_tree.specs.Fetching.{IsAlone}
use Rattle.hs_tree.specs.Storing.{IsIdle}

-- ---- what shards do leaves the sessions

none_asked : (name : List ℕ → Address) (s : Store) (told : Reply) → line_event name s None told ≡ None
none_asked name s (reply.Busy line) = refl
none_asked name s other = refl

module _ (commands : ℕ → Option Command) (nobody : (n : ℕ) → client_op (commands n) ≡ None) (name : List ℕ → Address) (limits : Limits) where
  abbrev KeepsSessions : Store → Option Event → Type 0
  KeepsSessions s event = (store_by limits s event).sessions ≡ s.sessions

  by_deed : (s : Store) (shard : ℕ) (d : Deed) → KeepsSessions s (shard_event shard d)
  by_deed s shard (deed.Entered g) = refl
  by_deed s shard (deed.Swept g) = refl
  by_deed s shard other = refl

  by_who : (s : Store) (entry : JournalEntry) (w : Who) → entry.who ≡ w → KeepsSessions s (event_at commands name s entry)
  by_who s entry (who.Line n) is =
      let none : event_at commands name s entry ≡ None = ap (λ (w : Who). event_at commands name s (record entry { who = w })) is ∙ ap (λ (o : Option Op). line_event name s o entry.reply) (nobody n) ∙ none_asked name s entry.reply in
      subst (λ (event : Option Event). KeepsSessions s event) (sym none) refl
  by_who s entry (who.Shard g) is = subst (λ (event : Option Event). KeepsSessions s event) (sym (ap (λ (w : Who). event_at commands name s (record entry { who = w })) is)) (by_deed s g entry.deed)
  by_who s entry who.Store is = subst (λ (event : Option Event). KeepsSessions s event) (sym (ap (λ (w : Who). event_at commands name s (record entry { who = w })) is)) refl

  with_sessions : (s : Store) (event : Option Event) (events : List Event) → (run limits s (with_event event events)).sessions ≡ (run limits (store_by limits s event) events).sessions
  with_sessions s None events = refl
  with_sessions s (Some event) events = refl

  pub still_none : (s : Store) (journal : List JournalEntry) → (run limits s (events_of commands name limits s journal)).sessions ≡ s.sessions
  still_none s [] = refl
  still_none s (entry ∷ journal) =
      with_sessions s (event_at commands name s entry) (events_of commands name limits (store_by limits s (event_at commands name s entry)) journal)
      ∙ still_none (store_by limits s (event_at commands name s entry)) journal
      ∙ by_who s entry entry.who refl

-- ---- an asker that was opened

module _ (tells : Type 0) (name : List ℕ → Address) (shape : Shape) (e : AtEntry) (set : e.set ≡ record { name = name; limits = greatest_limits; shape = shape }) (a : Asking) (none : a.said ≡ []) where
  none_open : (store_now (began_by e) (shows_of tells e a)).sessions ≡ []
  none_open = still_none (command_at a.said) (λ n. ap (λ (said : List Command). client_op (command_at said n)) none) e.set.name e.set.limits (began_by e).store a.journal

  pub idle_first : IsTold tells e → IsIdle name (began_by e) (shows_of tells e a)
  idle_first told = record { none_open = none_open; limits = ap (λ (s : Setting). s.limits) set; named = ap (λ (s : Setting). s.name) set }

  pub alone_first : IsTold tells e → IsAlone (began_by e) (shows_of tells e a)
  alone_first told = record { none_open = none_open; limits = ap (λ (s : Setting). s.limits) set }
