-- Whatever is open of a core goes on, from opening on and behind each event; and a settle leaves nothing open.
use Rattle.std.proofs.Common.{◌≡◌, ap, sym, subst, ℕ, ◌<◌, true, List, [], ◌∷◌, None, refl, length}
use Rattle.hs_answered.specs.Telling.{Judging}
use Rattle.hs_core_copies.proofs.SettledRunLemmas.{settled_in_run}
use Rattle.hs_core_copies.proofs.StepsLemmas.{was_going}
use Rattle.hs_core_words.specs.declared.event.Event.{Event}
use Rattle.hs_core_words.specs.Looking.{shape_of}
use Rattle.hs_core_words.specs.State.{Core}
use Rattle.hs_core_words.specs.Step.{step}
use Rattle.hs_effects.specs.Logged.{IsOrderly, MayBegin, MayBeginAll}
use Rattle.hs_events.specs.Course.{steps}
use Rattle.hs_events.specs.Due.{Events, is_walk, next_due}
use Rattle.hs_events.specs.Found.{Found, first_core, opens_with}
use Rattle.hs_events.specs.Taken.{peer_count}
use Rattle.hs_fold.specs.Runs.Facts.{Catalogue as Folded}
use Rattle.hs_fold.specs.Shards.Setting.{Setting}
use Rattle.hs_laws.specs.Valid.{IsValid}
use Rattle.hs_limits.specs.declared.address.Address.{Address}
use Rattle.hs_limits.specs.declared.shape.Shape.{Shape}
use Rattle.hs_limits.specs.Shape.{IsShape}
use Rattle.hs_members.specs.Members.{Members}
use Rattle.hs_model.specs.Store.{Store}
use Rattle.hs_quiet.proofs.CausedLemmas.{step_caused}
use Rattle.hs_quiet.proofs.LeftLemmas.{no_operations}
use Rattle.hs_quiet.proofs.NothingLemmas.{left_open}
use Rattle.hs_quiet.proofs.OpeningLemmas.{opened_members}
use Rattle.hs_quiet.proofs.OpensLemmas.{opened_caused}
use Rattle.hs_quiet.proofs.RunLemmas.{going_before}
use Rattle.hs_quiet.proofs.SettleLemmas.{IsGoing, goes_on, settle_left}
use Rattle.hs_quiet.proofs.StepLemmas.{step_shape}
use Rattle.hs_quiet.proofs.SweptLemmas.{Below}
use Rattle.hs_quiet.specs.Causes.{AreCaused}
use Rattle.hs_quiet.specs.Settled.{HaveRounds, IsLeft}
use Rattle.hs_settled.proofs.LossLemmas.{first_tuned, first_up, logs}
use Rattle.hs_settled.specs.Moving.{IsMoving}
use Rattle.hs_settled.specs.Opened.{OpensRanked}
use Rattle.hs_settled.specs.Settled.{NothingOpen}
use Rattle.hs_standing.specs.Legal.{IsStanding}

-- as a core opens
pub first_moving : (name : List ℕ → Address) (set : Setting) (found : Found) → length found.good ≡ peer_count set.shape → OpensRanked set found → (first_core set found).ended ≡ None → IsMoving name (first_core set found)
first_moving name set found count opens on = record {
  shape = subst (λ (z : Shape). IsShape z) (sym shape_is) opens.shape;
  in_step = first_tuned set found count opens on;
  keeps_up = first_up set found count opens;
  fronts = λ g low. (let k = logs set found count opens g (subst (λ (z : Shape). g < z.shards) shape_is low) in
      settled_in_run set.shape set.limits (opens_with set found) found.opened g k.0 [] (first_core set found) k.1 refl on);
  orderly = caused.0;
  caused = caused.1;
}
  where
    shape_is : shape_of (first_core set found) ≡ set.shape
    shape_is = ap (λ (m : Members). m.shape) (opened_members set.shape set.limits (opens_with set found) found.opened)

    caused : IsOrderly name (first_core set found) × AreCaused name (first_core set found)
    caused = opened_caused set.shape set.limits (opens_with set found) found.opened name on

-- behind an event
pub step_moving : (name : List ℕ → Address) (e : Event) (at : ℕ) (c : Core) → IsMoving name c → MayBegin name e c → (step e at c).ended ≡ None → IsMoving name (step e at c)
step_moving name e at c m may on =
    let going : IsGoing (step e at c) = goes_on e at c (record { all = m.in_step; up = m.keeps_up; fronts = m.fronts; going = was_going e at c on }) on in
    let caused = step_caused name e at c m.in_step m.shape m.orderly m.caused may on in
    record {
      shape = subst (λ (z : Shape). IsShape z) (sym (step_shape e at c on)) m.shape;
      in_step = going.all;
      keeps_up = going.up;
      fronts = going.fronts;
      orderly = caused.0;
      caused = caused.1;
    }

pub steps_moving : (name : List ℕ → Address) (c : Core) (es : Events) → IsMoving name c → MayBeginAll name es c → (steps c es).ended ≡ None → IsMoving name (steps c es)
steps_moving name c [] m may on = m
steps_moving name c (e ∷ es) m may on = steps_moving name (step e.0 e.1 c) es (step_moving name e.0 e.1 c m may.0 (going_before es (step e.0 e.1 c) on)) may.1 on

-- where the events of a settle were due one after another, and nothing is due any more
pub settle_rests : Below → (by : Judging) (start : Store) (line : ℕ) (c : Core) (es : Events) → IsValid start → IsMoving by.name c → MayBeginAll by.name es c → HaveRounds c es → is_walk next_due true line c es ≡ true → (steps c es).ended ≡ None
    → (cs : List Folded) → IsStanding by start (steps c es) cs → IsLeft (steps c es) × NothingOpen (steps c es)
settle_rests below by start line c es valid m may rounds walks on cs stands =
    let left : IsLeft (steps c es) = settle_left line c es walks on rounds m.in_step m.keeps_up m.fronts in
    let later : IsMoving by.name (steps c es) = steps_moving by.name c es m may on in
    (left, left_open below by start (steps c es) cs valid stands later.in_step left (no_operations by.name (steps c es) later.shape later.orderly later.caused left.jobs left.lists))
