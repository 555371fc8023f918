-- A core that opens has told at most that peers are down.
use Rattle.std.proofs.Common.{sym, subst, ℕ, List, [], ◌∷◌}
use Rattle.std.specs.List.{AllByRecursion}
use Rattle.hs_answered.specs.Telling.{Judging}
use Rattle.hs_core_words.specs.Changing.{note}
use Rattle.hs_core_words.specs.Opening.{Taken, begin_views, new_core, note_down, open_core}
use Rattle.hs_core_words.specs.State.{Core}
use Rattle.hs_settled.proofs.DeletesEndLemmas.{ended_quiet}
use Rattle.hs_settled.proofs.DeletesEventLemmas.{whole_told}
use Rattle.hs_settled.proofs.RuleLemmas.{all_front, others_swept}
use Rattle.hs_settled.proofs.SaidLemmas.{noted_told, view_told}
use Rattle.hs_settled.specs.Deletion.{IsMereRefusal, TellsDeletion}
use Rattle.hs_journal.specs.declared.entry.JournalEntry.{JournalEntry}
use Rattle.hs_journal.specs.declared.entry.Who.TheVariants as who
use Rattle.hs_standing.specs.Telling.{told_so_far}
use Rattle.hs_limits.specs.declared.limits.Limits.{Limits}
use Rattle.hs_limits.specs.declared.shape.Shape.{Shape}
use Rattle.hs_model.specs.declared.deed.Deed.TheVariants as deed
use Rattle.hs_model.specs.declared.reply.Reply.TheVariants as reply
use Rattle.hs_model.specs.Store.{Store}
use Rattle.hs_settled.proofs.NotingLemmas.{all_append, all_weaker}
use Rattle.hs_standing.proofs.FirstLemmas.{KeepsFirst, first_held}
use Rattle.hs_swept.specs.Swept.{IsOther}
use Rattle.hs_told.specs.InTurn.{told_of}

-- it has told of no sweep, and of no run that is done
abbrev AreOthers : Core → Type 0
AreOthers c = AllByRecursion IsOther (told_so_far c)

downed_others : (peer : ℕ) (c : Core) → AreOthers c → AreOthers (note who.Store deed.Nothing (reply.Down peer 0) c)
downed_others peer c p =
    subst (λ (es : List JournalEntry). AllByRecursion IsOther es) (sym (noted_told who.Store deed.Nothing (reply.Down peer 0) c))
    (all_append IsOther (told_so_far c) (record { who = who.Store; moment = c.moment; deed = deed.Nothing; reply = reply.Down peer 0 } ∷ []) p (record { no_sweep = λ g is. cc is; no_done = λ n is. cc is }, tt))

keeps_others : KeepsFirst AreOthers
keeps_others = record {
  beside = λ a b beside p. subst (λ (es : List JournalEntry). AllByRecursion IsOther es) (sym beside.told) p;
  downed = downed_others;
  views = λ shard c low none p. subst (λ (es : List JournalEntry). AllByRecursion IsOther es) (sym (view_told shard c)) p;
}

module _ (shape : Shape) (limits : Limits) (taken : Taken) (moment : ℕ) where
  pub opened_others : AllByRecursion IsOther (told_of (open_core shape limits taken moment))
  opened_others =
      subst (λ (es : List JournalEntry). AllByRecursion IsOther es) (whole_told (open_core shape limits taken moment) (ended_quiet (note_down (begin_views (new_core shape limits taken moment)))))
      (first_held AreOthers keeps_others shape limits taken moment tt)

  pub opens_deletes : (by : Judging) (start : Store) → TellsDeletion by start (open_core shape limits taken moment)
  opens_deletes by start =
      let c : Core = open_core shape limits taken moment in
      record {
        journal = others_swept by start c.journal (all_front IsOther c.journal c.refused opened_others);
        told = others_swept by start (told_of c) opened_others;
        refusals = all_weaker IsOther (IsMereRefusal by.commands) (λ e other line of nobody. other) (told_of c) opened_others;
      }
