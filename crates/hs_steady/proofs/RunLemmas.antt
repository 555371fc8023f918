-- A store in step is steady along any events, and so is one that opens.
use Rattle.std.proofs.Common.{◌≡◌, ◌∙◌, ap, sym, refl, ℕ, [], ◌∷◌, Option, Some, None, is_none}
use Rattle.hs_awaiting.specs.Words.{change_if}
use Rattle.hs_cluster.specs.Steady.{AreSteady, StepsSteadily}
use Rattle.hs_copies.specs.Machine.{Copies}
use Rattle.hs_core_words.specs.declared.event.Event.{Event}
use Rattle.hs_core_words.specs.State.{Core}
use Rattle.hs_core_words.specs.Step.{run_event, step}
use Rattle.hs_desk.specs.declared.fault.CoreFault.{CoreFault}
use Rattle.hs_entry.specs.declared.entry.Entry.{Entry}
use Rattle.hs_events.specs.Due.{Events}
use Rattle.hs_events.specs.Found.{Found, first_core}
use Rattle.hs_events.specs.Whole.{Whole, open_whole, step_whole}
use Rattle.hs_fold.specs.Shards.Setting.{Setting}
use Rattle.hs_whole_copies.proofs.AllLemmas.{all_stay}
use Rattle.hs_whole_copies.proofs.OpenLemmas.{opens_whole}
use Rattle.hs_whole_copies.specs.Opening.{MayOpenWhole}
use Rattle.hs_whole_copies.specs.Whole.{IsWholeInStep, StaysWhole}
use Rattle.hs_steady.proofs.AlongLemmas.{goes_along}
use Rattle.hs_steady.proofs.LostLemmas.{grows_lost}
use Rattle.hs_steady.proofs.SteadyLemmas.{steady}

pub steps_steadily : (c : Whole) (e : Event × ℕ) (machines : ℕ → Copies Entry) → IsWholeInStep c machines → StepsSteadily c e
steps_steadily c e machines w = record {
  on = λ on. goes_along c e.0 e.1 machines w on;
  lost = λ fault is told. grows_lost c e.0 e.1 machines w fault is told;
}

-- a core that has ended does nothing more
over_steady : (c : Whole) (f : CoreFault) (es : Events) → c.core.ended ≡ Some f → AreSteady c es
over_steady c f [] over = λ on. let wrong : None ≡ Some f = sym on ∙ over in absurd (cc wrong)
over_steady c f (e ∷ es) over =
    let same : step e.0 e.1 c.core ≡ c.core = ap (λ o. change_if (is_none o) (run_event e.0 e.1) c.core) over in (
      λ on. (let wrong : None ≡ Some f = sym on ∙ over in absurd (cc wrong)),
      over_steady (step_whole e.0 e.1 c) f es (ap (λ (y : Core). y.ended) same ∙ over),
    )

pub are_steady : (c : Whole) (es : Events) (machines : ℕ → Copies Entry) → IsWholeInStep c machines → AreSteady c es
are_steady c [] machines w = λ on. steady c machines w
are_steady c (e ∷ es) machines w = (λ on. (steady c machines w, steps_steadily c e machines w), go (step e.0 e.1 c.core).ended refl (λ k. are_steady (step_whole e.0 e.1 c) es k.machines k.keeps))
  where
    go : (o : Option CoreFault) → (step e.0 e.1 c.core).ended ≡ o → (StaysWhole (step_whole e.0 e.1 c) machines → AreSteady (step_whole e.0 e.1 c) es) → AreSteady (step_whole e.0 e.1 c) es
    go None on rest = rest (all_stay c e.0 e.1 machines w on)
    go (Some f) over rest = over_steady (step_whole e.0 e.1 c) f es over

pub opens_steady : (set : Setting) (found : Found) (es : Events) → MayOpenWhole set found → AreSteady (open_whole set found) es
opens_steady set found es may = go (first_core set found).ended refl
  where
    go : (o : Option CoreFault) → (first_core set found).ended ≡ o → AreSteady (open_whole set found) es
    go None on = let k = opens_whole set found may on in are_steady (open_whole set found) es k.0 k.1
    go (Some f) over = over_steady (open_whole set found) f es over
