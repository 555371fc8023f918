-- What a run tells, with what found its journal full: shard 0 is led by lines.
use Rattle.std.proofs.Common.{◌≡◌, ◌∙◌, sym, ap, subst, ℕ, Bool, true, false, List, [], ◌∷◌, ◌++◌, Some, if◌then◌else◌}
use Rattle.std.specs.List.{AllByRecursion}
use Rattle.hs_core_words.specs.Changing.{note}
use Rattle.hs_core_words.specs.Opening.{Taken, open_core}
use Rattle.hs_core_words.specs.State.{Core}
use Rattle.hs_core_words.specs.Views.{begin_view}
use Rattle.hs_settled.proofs.RuleLemmas.{all_front}
use Rattle.hs_settled.proofs.DeletesRunLemmas.{steps_ended}
use Rattle.hs_settled.proofs.SaidLemmas.{noted_told, view_told}
use Rattle.hs_desk.specs.declared.fault.CoreFault.{CoreFault}
use Rattle.hs_settled.specs.Calm.{AreLed, IsNotAlone}
use Rattle.hs_events.specs.Found.{first_core, opens_with}
use Rattle.hs_journal.specs.declared.entry.JournalEntry.{JournalEntry}
use Rattle.hs_journal.specs.declared.entry.Who.TheVariants as who
use Rattle.hs_standing.specs.Telling.{told_so_far}
use Rattle.hs_limits.specs.declared.limits.Limits.{Limits}
use Rattle.hs_limits.specs.declared.shape.Shape.{Shape}
use Rattle.hs_model.specs.declared.deed.Deed.TheVariants as deed
use Rattle.hs_model.specs.declared.reply.Reply.TheVariants as reply
use Rattle.hs_settled.proofs.NotingLemmas.{all_append}
use Rattle.hs_promise.specs.Ending.{ending_of}
use Rattle.hs_promise.specs.Machine.{NeverOpened, Went}
use Rattle.hs_promise.specs.Run.{Ran, Script}
use Rattle.hs_promise.specs.Story.{Story, all_events, last_core}
use Rattle.hs_settled.specs.Settled.{IsNoFirst}
use Rattle.hs_standing.proofs.FirstLemmas.{KeepsFirst, first_held}
use Rattle.hs_told.specs.InTurn.{told_of}

-- where no entry tells that shard 0 entered some epoch by itself, shard 0 is led by lines
pub led_by : (es : List JournalEntry) → AllByRecursion IsNoFirst es → AreLed es
led_by [] all = tt
led_by (e ∷ es) all = (all.0 0, led_by es all.1)

-- ---- as a core opens

-- no entry so far tells that shard 0 entered by itself
abbrev TellsLed : Core → Type 0
TellsLed c = AllByRecursion IsNotAlone (told_so_far c)

same_led : (a b : Core) → told_so_far b ≡ told_so_far a → TellsLed a → TellsLed b
same_led a b same all = subst (λ (es : List JournalEntry). AllByRecursion IsNotAlone es) (sym same) all

downed_led : (peer : ℕ) (c : Core) → TellsLed c → TellsLed (note who.Store deed.Nothing (reply.Down peer 0) c)
downed_led peer c all =
    let e : JournalEntry = record { who = who.Store; moment = c.moment; deed = deed.Nothing; reply = reply.Down peer 0 } in
    subst (λ (es : List JournalEntry). AllByRecursion IsNotAlone es) (sym (noted_told who.Store deed.Nothing (reply.Down peer 0) c)) (all_append IsNotAlone (told_so_far c) (e ∷ []) all ((λ of did. cc of), tt))

opens_keep : KeepsFirst TellsLed
opens_keep = record {
  beside = λ a b beside all. same_led a b beside.told all;
  downed = λ peer c all. downed_led peer c all;
  views = λ shard c low none all. same_led c (begin_view shard c) (view_told shard c) all;
}

opened_led : (shape : Shape) (limits : Limits) (taken : Taken) (moment : ℕ) → TellsLed (open_core shape limits taken moment)
opened_led shape limits taken moment = first_held TellsLed opens_keep shape limits taken moment tt

-- what was told, with what found the journal full
led_of : (c : Core) → TellsLed c → AreLed (told_of c)
led_of c all = all_front IsNotAlone (told_of c) c.entries all

-- ---- in the words of the promise

-- what a run hands on of what found its journal full
handed : (b : Bool) (journal refused : List JournalEntry) → AreLed (journal ++ refused) → AreLed (journal ++ (if b then refused else []))
handed true journal refused all = all
handed false journal refused all = all_append IsNotAlone journal [] (all_front IsNotAlone journal refused all) tt

module _ (S : Script) (r : Ran) (story : Story) (went : Went S r story) where
  same_told : r.journal ++ r.refused ≡ (last_core S story).journal ++ (if (ending_of r.ending).full then (last_core S story).refused else [])
  same_told = ap (λ (es : List JournalEntry). es ++ r.refused) went.journal ∙ ap (λ (es : List JournalEntry). (last_core S story).journal ++ es) went.refused

  pub led_went : AreLed (told_of (last_core S story)) → AreLed (r.journal ++ r.refused)
  led_went all = subst AreLed (sym same_told) (handed (ending_of r.ending).full (last_core S story).journal (last_core S story).refused all)

  module _ (fault : CoreFault) (over : (first_core S.set story.found).ended ≡ Some fault) where
    stays : last_core S story ≡ first_core S.set story.found
    stays = steps_ended (first_core S.set story.found) (all_events story) fault over

    pub led_ended : AreLed (r.journal ++ r.refused)
    led_ended = led_went (subst (λ (c : Core). AreLed (told_of c)) (sym stays) (led_of (first_core S.set story.found) (opened_led S.set.shape S.set.limits (opens_with S.set story.found) story.found.opened)))

nothing_told : (r : Ran) → NeverOpened r → [] ≡ r.journal ++ r.refused
nothing_told r never = sym (ap (λ (es : List JournalEntry). es ++ r.refused) never.journal ∙ never.refused)

pub led_never : (r : Ran) → NeverOpened r → AreLed (r.journal ++ r.refused)
led_never r never = subst AreLed (nothing_told r never) tt
