-- What an Enter that takes effect tells, where no operation asked for it.
use Rattle.std.proofs.Common.{◌≡◌, ◌∙◌, sym, ap, subst, ℕ, ◌+◌, Bool, true, false, cond, ◌==◌, List, [], Option, Some, None, IsTrue, is_some, refl, slice_index}
use Rattle.std.proofs.lemmas.Bool.{eqb-true}
use Rattle.hs_answered.specs.Standing.{store_with}
use Rattle.hs_awaiting.specs.declared.waiting.Waiting.{Waiting}
use Rattle.hs_core_words.specs.Effects.{note_enter, take_effect, tell_operation}
use Rattle.hs_core_words.specs.Looking.{catalogue_of, operation_of}
use Rattle.hs_core_words.specs.State.{Core}
use Rattle.hs_desk.specs.declared.what.What.{What}
use Rattle.hs_desk.specs.declared.what.What.TheVariants as what
use Rattle.hs_effects.specs.Lawful.{IsLawful, MayFollow}
use Rattle.hs_effects.specs.Taking.{done_by, folds_behind, next_deed, setting_of, taken}
use Rattle.hs_effects.specs.Telling.{HasHappened, IsSilent}
use Rattle.hs_effects.proofs.EndingLemmas.{enter_did}
use Rattle.hs_effects.proofs.FoldLemmas.{memory_at}
use Rattle.hs_effects.proofs.QuietLemmas.{resumed_none}
use Rattle.hs_effects.proofs.SweepLemmas.{ByViews, allowed, entered_index, epoch_before, left_of, store_is}
use Rattle.hs_entry.specs.declared.entry.Entry.{Entry}
use Rattle.hs_entry.specs.declared.entry.Entry.TheVariants as kind
use Rattle.hs_fold.specs.Runs.Facts.{Catalogue as Folded}
use Rattle.hs_fold.specs.Runs.Fits.{catalogue_at}
use Rattle.hs_fold.specs.Runs.Opened.{store_of}
use Rattle.hs_fold.specs.Runs.Rounds.{may_enter}
use Rattle.hs_fold.specs.Shards.Happening.{Happening, happen_by}
use Rattle.hs_fold.specs.Shards.Happening.{enters as entering}
use Rattle.hs_joint.specs.Along.{MayHappenBy, happening_by}
use Rattle.hs_limits.specs.declared.address.Address.{Address}
use Rattle.hs_model.specs.Inner.{enter}
use Rattle.hs_model.specs.Inner.{may_enter as store_may_enter}
use Rattle.hs_model.specs.Run.{enters}
use Rattle.hs_model.specs.Store.{Store, with_sessions}
use Rattle.hs_shard.specs.Facts.{Catalogue}
use Rattle.hs_shard.specs.Rounds.{may_enter as memory_may_enter}
use Rattle.hs_shown.specs.Showing.{as_sessions}

module _ (views : ByViews) (name : List ℕ → Address) (cs : List Folded) (core : Core) (shard line epoch : ℕ) (alone : operation_of line core ≡ None) where
  abbrev asked : Entry
  asked = kind.Enter line epoch

  module _ (its : IsLawful name core cs) (may : MayFollow (setting_of name core) cs (next_deed shard asked core)) where
    abbrev store : Store
    store = store_with cs core.sessions

    abbrev later : Store
    later = store_with (folds_behind name cs shard asked core) core.sessions

    abbrev here : Core
    here = taken shard asked core

    abbrev enters_now : Bool
    enters_now = may_enter (catalogue_at cs shard) epoch

    -- what is told of it
    told_is : take_effect shard asked core ≡ note_enter shard (cond enters_now (what.Entered epoch) what.Refused) here
    told_is =
        resumed_none shard (cond (is_some (operation_of line here)) (tell_operation line (done_by shard asked core).effect.what here) (note_enter shard (done_by shard asked core).effect.what here))
        ∙ ap (λ (o : Option Waiting). cond (is_some o) (tell_operation line (done_by shard asked core).effect.what here) (note_enter shard (done_by shard asked core).effect.what here)) alone
        ∙ ap (λ (did : What). note_enter shard did here) (enter_did epoch (catalogue_of shard core))
        ∙ ap (λ (c : Catalogue). note_enter shard (cond (memory_may_enter epoch c) (what.Entered epoch) what.Refused) here) (memory_at name cs core shard asked its.folded may.of)

    store_by : (h : Option Happening) → happening_by (setting_of name core) cs (next_deed shard asked core) ≡ h → later ≡ with_sessions (happen_by (store_of cs) h) (as_sessions core.sessions)
    store_by h e = store_is views name cs core shard asked its may refl ∙ ap (λ (x : Option Happening). with_sessions (happen_by (store_of cs) x) (as_sessions core.sessions)) e

    pub quiet : happening_by (setting_of name core) cs (next_deed shard asked core) ≡ None → IsSilent cs (folds_behind name cs shard asked core) core (take_effect shard asked core)
    quiet stays = subst (λ (x : Core). IsSilent cs (folds_behind name cs shard asked core) core x) (sym told_is) (go enters_now stays)
      where
        go : (b : Bool) → cond b (Some (entering shard)) None ≡ None → IsSilent cs (folds_behind name cs shard asked core) core (note_enter shard (cond b (what.Entered epoch) what.Refused) here)
        go true e = absurd (cc e)
        go false e = record { told = refl; left = store_by None stays }

    pub entered : happening_by (setting_of name core) cs (next_deed shard asked core) ≡ Some (entering shard) → HasHappened cs (folds_behind name cs shard asked core) core (take_effect shard asked core) shard (enters shard) []
    entered comes = subst (λ (x : Core). HasHappened cs (folds_behind name cs shard asked core) core x shard (enters shard) []) (sym told_is) (go enters_now refl comes)
      where
        may_here : IsTrue (store_may_enter store shard)
        may_here = subst (λ (h : Option Happening). MayHappenBy (store_of cs) h) comes (allowed views name cs core shard asked its may refl)

        next_is : enters_now ≡ true → epoch ≡ slice_index (enter store shard).epochs shard
        next_is e =
            eqb-true epoch ((catalogue_at cs shard).epoch + 1) (left_of (epoch == (catalogue_at cs shard).epoch + 1) _ e)
            ∙ ap (λ (c : Catalogue). c.epoch + 1) (sym (memory_at name cs core shard asked its.folded may.of))
            ∙ ap (λ (n : ℕ). n + 1) (sym (epoch_before views name cs core shard asked its may refl))
            ∙ sym (entered_index views name cs core shard asked its may refl)

        go : (b : Bool) → enters_now ≡ b → cond b (Some (entering shard)) None ≡ Some (entering shard)
            → HasHappened cs (folds_behind name cs shard asked core) core (note_enter shard (cond b (what.Entered epoch) what.Refused) here) shard (enters shard) []
        go false e n = absurd (cc n)
        go true e n = record {
          allowed = may_here;
          told = ap (λ (k : ℕ). (note_enter shard (what.Entered k) here).entries) (next_is e);
          left = store_by (Some (entering shard)) comes;
        }
