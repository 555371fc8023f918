-- Along events a core that has ended is asked nothing, and a sane store of one copy a shard knows its copies.
use Rattle.std.proofs.Common.{◌≡◌, ◌∙◌, sym, subst, [], ◌∷◌, Option, Some, None, refl}
use Rattle.hs_core_words.specs.State.{Core}
use Rattle.hs_core_words.specs.Step.{step}
use Rattle.hs_desk.specs.declared.fault.CoreFault.{CoreFault}
use Rattle.hs_events.specs.Due.{Events}
use Rattle.hs_events.specs.Sane.{IsSane}
use Rattle.hs_events.specs.Whole.{Whole, step_whole}
use Rattle.hs_moments.proofs.SaneLemmas.{sane_stays}
use Rattle.hs_standing.proofs.LinesStepLemmas.{step_ended}
use Rattle.hs_standing.proofs.SaneKnownLemmas.{sane_knows, sane_seated}
use Rattle.hs_standing.specs.Copies.{AllKnowTheirCopies}
use Rattle.hs_standing.specs.Run.{IsRunning, RunsBefore}
use Rattle.hs_standing.specs.Start.{Start}

pub knows_ended : (c : Core) (es : Events) (f : CoreFault) → c.ended ≡ Some f → AllKnowTheirCopies c es
knows_ended c [] f over = tt
knows_ended c (e ∷ es) f over = (
  (λ going. let wrong : None ≡ Some f = sym going ∙ over in absurd (cc wrong)),
  subst (λ (x : Core). AllKnowTheirCopies x es) (sym (step_ended e.0 e.1 c f over)) (knows_ended c es f over),
)

pub sane_along : (c : Whole) → IsSane c → (es : Events) → AllKnowTheirCopies c.core es
sane_along c h [] = tt
sane_along c h (e ∷ es) = (
  (λ going. (sane_seated c h, sane_knows c h)),
  by (λ on. sane_along (step_whole e.0 e.1 c) (sane_stays c e.0 e.1 h on) es) (step e.0 e.1 c.core).ended refl,
)
  where
    by : ((step e.0 e.1 c.core).ended ≡ None → AllKnowTheirCopies (step e.0 e.1 c.core) es) → (o : Option CoreFault) → (step e.0 e.1 c.core).ended ≡ o → AllKnowTheirCopies (step e.0 e.1 c.core) es
    by later None on = later on
    by later (Some f) over = knows_ended (step e.0 e.1 c.core) es f over

-- so a run that opened well with one copy a shard is one before any events
pub runs_before : (start : Start) (c : Whole) → IsRunning start c → (es : Events) → RunsBefore start c.core es
runs_before start c r es = record {
  names = r.names;
  valid = r.valid;
  turn = r.stands.whole.turn;
  folds = r.stands.whole.cs;
  stands = r.stands.holds;
  few = λ going. r.stands.whole.few;
  known = sane_along c r.stands.whole.sane es;
}
