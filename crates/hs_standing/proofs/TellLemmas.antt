-- What is told from one core to another, as a run of the plain store from one to the other's.
use Rattle.std.proofs.Common.{◌≡◌, ◌∙◌, sym, ap, subst, ℕ, Bool, true, false, cond, List, [], ◌∷◌, ◌++◌, Some, None, refl, append_assoc, append-nil, nat_le}
use Rattle.std.specs.List.{list_all}
use Rattle.hs_answered.proofs.TellingLemmas.{tells_event, tells_join, tells_judged, tells_none}
use Rattle.hs_answered.specs.Judged.{IsJudged, entry_of, judged_at}
use Rattle.hs_answered.specs.Standing.{store_with}
use Rattle.hs_answered.specs.Telling.{Judging, Tells}
use Rattle.hs_core_words.specs.State.{Core}
use Rattle.hs_effects.specs.Answered.{HasAnswer, IsAnsweredBy}
use Rattle.hs_effects.specs.Telling.{HasHappened, done_entries, shard_entry}
use Rattle.hs_effects.specs.Telling.{event_at as done_at}
use Rattle.hs_fold.specs.Runs.Facts.{Catalogue as Folded}
use Rattle.hs_journal.specs.declared.entry.JournalEntry.{JournalEntry}
use Rattle.hs_journal.specs.declared.entry.Who.TheVariants as who
use Rattle.hs_journal.specs.Events.{event_at}
use Rattle.hs_standing.specs.Commands.{AreCommanded, IsOfCommand}
use Rattle.hs_standing.specs.Telling.{IsTelling, told_so_far}
use Rattle.hs_limits.specs.declared.limits.Limits.{Limits}
use Rattle.hs_model.specs.declared.deed.Deed.TheVariants as deed
use Rattle.hs_model.specs.declared.op.Op.{Op}
use Rattle.hs_model.specs.declared.reply.Reply.TheVariants as reply
use Rattle.hs_model.specs.Judge.{judge}
use Rattle.hs_model.specs.Run.{Event, step}
use Rattle.hs_model.specs.Store.{Store}

-- what stood in the journal stays there, and more is told, which leads from the store of one core to that of the other
pub record TellsOn (by : Judging) (cs behind : List Folded) (before after : Core) : Type 0 where
  pub more : List JournalEntry
  pub journal : after.journal ≡ before.journal
  pub refused : after.refused ≡ before.refused
  pub told : after.entries ≡ before.entries ++ more
  pub tells : Tells by (store_with cs before.sessions) more (store_with behind after.sessions)

-- a journal that tells a run tells one with more behind it
pub telling_on : (by : Judging) (start : Store) (cs behind : List Folded) (a b : Core) → TellsOn by cs behind a b → IsTelling by start a cs → IsTelling by start b behind
telling_on by start cs behind a b on before =
    subst (λ (entries : List JournalEntry). Tells by start entries (store_with behind b.sessions)) (sym all)
    (tells_join by (told_so_far a) on.more start (store_with cs a.sessions) (store_with behind b.sessions) before on.tells)
  where
    all : told_so_far b ≡ told_so_far a ++ on.more
    all =
        ap (λ (j : List JournalEntry). (j ++ b.refused) ++ b.entries) on.journal
        ∙ ap (λ (r : List JournalEntry). (a.journal ++ r) ++ b.entries) on.refused
        ∙ ap (λ (es : List JournalEntry). (a.journal ++ a.refused) ++ es) on.told
        ∙ sym (append_assoc (a.journal ++ a.refused) a.entries on.more)

-- ---- nothing is told

pub silent_on : (by : Judging) (cs behind : List Folded) (a b : Core) → b.journal ≡ a.journal → b.refused ≡ a.refused → b.entries ≡ a.entries → store_with behind b.sessions ≡ store_with cs a.sessions → TellsOn by cs behind a b
silent_on by cs behind a b journal refused same left = record {
  more = [];
  journal = journal;
  refused = refused;
  told = same ∙ sym (append-nil a.entries);
  tells = subst (λ (s : Store). Tells by (store_with cs a.sessions) [] s) (sym left) (tells_none by (store_with cs a.sessions));
}

pub same_on : (by : Judging) (cs : List Folded) (a : Core) → TellsOn by cs cs a a
same_on by cs a = silent_on by cs cs a a refl refl refl refl

-- where the store of the first core is that of other folds, it leads on from those
pub from_folds : (by : Judging) (cs ds behind : List Folded) (a b : Core) → store_with ds a.sessions ≡ store_with cs a.sessions → TellsOn by ds behind a b → TellsOn by cs behind a b
from_folds by cs ds behind a b same on = record {
  more = on.more;
  journal = on.journal;
  refused = on.refused;
  told = on.told;
  tells = subst (λ (s : Store). Tells by s on.more (store_with behind b.sessions)) same on.tells;
}

-- ---- an operation is answered as the judge says

pub answered_on : (by : Judging) (cs behind : List Folded) (a b : Core) (line : ℕ) (o : Op) → a.limits ≡ by.limits → IsOfCommand by a.sessions line o → IsAnsweredBy cs behind a b line o
    → b.journal ≡ a.journal → b.refused ≡ a.refused → TellsOn by cs behind a b
answered_on by cs behind a b line o limits says its journal refused = record {
  more = entry_of line a.moment (judged_at cs a o) ∷ [];
  journal = journal;
  refused = refused;
  told = its.told;
  tells =
      subst (λ (s : Store). Tells by (store_with cs a.sessions) (entry_of line a.moment (judged_at cs a o) ∷ []) s) (sym its.left)
      (subst (λ (l : Limits). Tells by (store_with cs a.sessions) (entry_of line a.moment (judge l (store_with cs a.sessions) o) ∷ []) (judge l (store_with cs a.sessions) o).store) (sym limits)
      (tells_judged by (store_with cs a.sessions) line a.moment says.said o says.asks (says.same cs)));
}

-- so it is where no catalogue has changed
pub judged_on : (by : Judging) (cs : List Folded) (a b : Core) (line : ℕ) (o : Op) → a.limits ≡ by.limits → IsOfCommand by a.sessions line o → IsJudged cs a b line o
    → b.journal ≡ a.journal → b.refused ≡ a.refused → TellsOn by cs cs a b
judged_on by cs a b line o limits says its journal refused = answered_on by cs cs a b line o limits says (record { told = its.told; left = its.left; folded = its.folded }) journal refused

-- and where the operation of a line was, whatever it was
pub has_answer_on : (by : Judging) (cs behind : List Folded) (a b : Core) (line : ℕ) → a.limits ≡ by.limits → AreCommanded by a → HasAnswer cs behind a b line → b.journal ≡ a.journal → b.refused ≡ a.refused → TellsOn by cs behind a b
has_answer_on by cs behind a b line limits commands h journal refused =
    answered_on by cs behind a b line h.waiting.operation.op limits (commands line h.waiting h.at).says h.answered journal refused

-- ---- a shard's own event

-- what is told of no event
pub tells_done : (by : Judging) (moment epoch : ℕ) (s t : Store) → Tells by s (done_entries moment epoch t) s
tells_done by moment epoch s t = go (list_all (λ (e : ℕ). nat_le epoch e) t.swept)
  where
    go : (b : Bool) → Tells by s (cond b (record { who = who.Store; moment = moment; deed = deed.Nothing; reply = reply.Done epoch } ∷ []) []) s
    go true = tells_event by s (record { who = who.Store; moment = moment; deed = deed.Nothing; reply = reply.Done epoch }) None refl tt tt
    go false = tells_none by s

module _ (by : Judging) (cs behind : List Folded) (a b : Core) (shard : ℕ) (event : Event) (more : List JournalEntry) where
  -- the entry tells of the event
  abbrev pub TellsOfIt : Type 0
  TellsOfIt = (limits : Limits) (s : Store) → event_at by.commands by.name s (shard_entry shard a.moment (step limits s event)) ≡ Some event

  pub happened_on : a.limits ≡ by.limits → TellsOfIt → ((s : Store) → Tells by s more s) → HasHappened cs behind a b shard event more → b.journal ≡ a.journal → b.refused ≡ a.refused → TellsOn by cs behind a b
  happened_on limits tells_it nothing its journal refused = record {
    more = shard_entry shard a.moment (done_at cs a event) ∷ more;
    journal = journal;
    refused = refused;
    told = its.told;
    tells =
        subst (λ (t : Store). Tells by s (shard_entry shard a.moment (done_at cs a event) ∷ more) t) (sym its.left)
        (subst (λ (l : Limits). Tells by s (shard_entry shard a.moment (step l s event) ∷ more) (step l s event).store) (sym limits)
        (tells_join by (shard_entry shard a.moment (step by.limits s event) ∷ []) more s (step by.limits s event).store (step by.limits s event).store one (nothing (step by.limits s event).store)));
  }
    where
      s : Store
      s = store_with cs a.sessions

      one : Tells by s (shard_entry shard a.moment (step by.limits s event) ∷ []) (step by.limits s event).store
      one = tells_event by s (shard_entry shard a.moment (step by.limits s event)) (Some event) (tells_it by.limits s) its.allowed (refl, refl)
