-- Events of the core one after another.
use Rattle.std.proofs.Common.{◌≡◌, ◌∙◌, ap, sym, refl, arith, ℕ, ◌≤◌, true, List, [], ◌∷◌, Option, Some, None, is_none, length}
use Rattle.hs_awaiting.specs.Words.{change_if}
use Rattle.hs_copies.proofs.CoreLemmas.{front_within, good_stamps}
use Rattle.hs_copies.proofs.ListLemmas.{front_append, front_length, front_refl, front_trans}
use Rattle.hs_copies.proofs.OpenedLemmas.{has_effects, lineage_right}
use Rattle.hs_copies.proofs.StandLemmas.{good_peer}
use Rattle.hs_copies.specs.Invariant.{reach}
use Rattle.hs_copies.specs.Lists.{IsAtMost, IsFront, Item, rank_by_stamps}
use Rattle.hs_copies.specs.Machine.{Cleared, Copied, Copies, CopyComes, CopyEvent, Copying, Fail, GiveUp, Good as GoodStage, HaveComes, Join, Propose, Sealed, Send, Start, TakesEffect, after_event, after_events}
use Rattle.hs_core_words.specs.declared.event.Event.{Event}
use Rattle.hs_core_words.specs.Looking.{front_of, group_of, lead_of, status_of}
use Rattle.hs_core_words.specs.State.{Core}
use Rattle.hs_core_words.specs.Step.{run_event, step}
use Rattle.hs_desk.specs.declared.fault.CoreFault.{CoreFault}
use Rattle.hs_entry.specs.declared.entry.Entry.{Entry}
use Rattle.hs_limits.specs.declared.limits.PeerStatus.TheVariants.{Good}
use Rattle.hs_members.specs.Members.{is_good_status}
use Rattle.hs_replica.specs.Group.{IsHome, copy_of, length_of}
use Rattle.hs_core_copies.proofs.BesideLemmas.{home_of_peer}
use Rattle.hs_core_copies.proofs.GoingLemmas.{goes_on_of, moves_same, on_after}
use Rattle.hs_core_copies.proofs.LeadLemmas.{good_as_told}
use Rattle.hs_core_copies.proofs.StepLemmas.{lead_in_step}
use Rattle.hs_core_copies.proofs.StepsLemmas.{steps_on}
use Rattle.hs_core_copies.specs.InStep.{GoesOn, IsInStep, IsOf, copies_in}
use Rattle.hs_core_copies.specs.Runs.{KeepsEffects, core_after}

-- ---- a core that has ended stays

ended_step : (e : Event) (at : ℕ) (c : Core) (f : CoreFault) → c.ended ≡ Some f → step e at c ≡ c
ended_step e at c f i = ap (λ o. change_if (is_none o) (run_event e at) c) i

ended_stays : (es : List (Event × ℕ)) (c : Core) (f : CoreFault) → c.ended ≡ Some f → (core_after es c).ended ≡ Some f
ended_stays [] c f i = i
ended_stays (e ∷ es) c f i = ended_stays es (step e.0 e.1 c) f (ap (λ (y : Core). y.ended) (ended_step e.0 e.1 c f i) ∙ i)

pub not_ended : (es : List (Event × ℕ)) (c : Core) → (core_after es c).ended ≡ None → c.ended ≡ None
not_ended es c on = go c.ended refl
  where
    go : (o : Option CoreFault) → c.ended ≡ o → c.ended ≡ None
    go None i = i
    go (Some f) i = let wrong : Some f ≡ None = sym (ended_stays es c f i) ∙ on in absurd (cc wrong)

-- ---- all of some events

pub goes_along : (g : ℕ) (es : List (Event × ℕ)) (c : Core) (s : Copies Entry) → IsInStep g c s → (core_after es c).ended ≡ None → GoesOn g (core_after es c) s
goes_along g [] c s st on = goes_on_of g c s (moves_same g c s st)
goes_along g (e ∷ es) c s st on =
    let b : Core = step e.0 e.1 c in
    let one : GoesOn g b s = steps_on g e.0 e.1 c s st (not_ended es b on) in
    on_after g b (core_after es b) s one (goes_along g es b (after_events s one.events) one.keeps on)

-- ---- what took effect

effect_stays : (e : CopyEvent Entry) (s : Copies Entry) → IsFront s.took (after_event e s).took
effect_stays (Propose lead x) s = front_refl s.took
effect_stays (Send m) s = front_refl s.took
effect_stays (CopyComes to place x) s = front_refl s.took
effect_stays (Sealed p n) s = front_refl s.took
effect_stays (HaveComes p n) s = front_refl s.took
effect_stays (TakesEffect x) s = front_append s.took (x ∷ [])
effect_stays (Fail p lead again x) s = front_refl s.took
effect_stays (GiveUp p) s = front_refl s.took
effect_stays (Start p) s = front_refl s.took
effect_stays (Cleared p n) s = front_refl s.took
effect_stays (Copying p more) s = front_refl s.took
effect_stays (Copied p) s = front_refl s.took
effect_stays (Join p lead x) s = front_refl s.took

pub effects_stay : (es : List (CopyEvent Entry)) (s : Copies Entry) → IsFront s.took (after_events s es).took
effects_stay [] s = front_refl s.took
effects_stay (e ∷ es) s = front_trans s.took (after_event e s).took (after_events (after_event e s) es).took (effect_stays e s) (effects_stay es (after_event e s))

pub keeps_effects : (g : ℕ) (a b : Core) (s : Copies Entry) → IsInStep g a s → GoesOn g b s → KeepsEffects g a b s
keeps_effects g a b s st k = record {
  goes_on = k;
  stays = effects_stay k.events s;
  counted = omega (arith, st.stands.front, k.keeps.stands.front, front_length s.took (after_events s k.events).took (effects_stay k.events s));
}

-- ---- what is so of a core in step

module _ (g : ℕ) (c : Core) (s : Copies Entry) (st : IsInStep g c s) where
  is_good : (p : ℕ) → IsHome (group_of g c) p → status_of p c ≡ Good → (copy_of (group_of g c) p).good ≡ true
  is_good p h e = good_as_told (copies_in g st.sent c) s st.stands p h ∙ ap is_good_status e

  pub stamps_in_step : (p l : ℕ) → IsOf c.members.shape g p → status_of p c ≡ Good → lead_of g c ≡ Some l → IsFront (copy_of (group_of g c) p).stamps (copy_of (group_of g c) l).stamps
  stamps_in_step p l own e leads =
      let h : IsHome (group_of g c) p = home_of_peer g c s st p own in
      good_stamps (copies_in g st.sent c) s st.stands p l h (is_good p h e) (sym (lead_in_step g c s st) ∙ leads)

  pub front_in_step : (p : ℕ) → IsOf c.members.shape g p → status_of p c ≡ Good → front_of g c ≤ length_of (group_of g c) p
  front_in_step p own e =
      let h : IsHome (group_of g c) p = home_of_peer g c s st p own in
      front_within (copies_in g st.sent c) s st.stands p h (is_good p h e)

  stage_good : (p : ℕ) → IsOf c.members.shape g p → status_of p c ≡ Good → (s.peers p).stage ≡ GoodStage
  stage_good p own e =
      let h : IsHome (group_of g c) p = home_of_peer g c s st p own in
      good_peer (copies_in g st.sent c) s st.stands p h (is_good p h e)

  pub lineage_in_step : (p y : ℕ) (front other : List (Item Entry)) → IsOf c.members.shape g p → status_of p c ≡ Good → IsFront front (s.peers p).list → IsFront other (reach (s.peers y))
      → IsAtMost (rank_by_stamps front) (rank_by_stamps other) → IsFront front other
  lineage_in_step p y front other own e a b r = lineage_right s st.stands.faithful p y front other (stage_good p own e) a b r

  pub rank_in_step : (p y : ℕ) (front other : List (Item Entry)) → IsOf c.members.shape g p → status_of p c ≡ Good → IsFront front (s.peers p).list
      → (copy_of (group_of g c) p).sealed ≤ length front → IsFront other (reach (s.peers y))
      → IsAtMost (rank_by_stamps front) (rank_by_stamps other) → IsFront s.took other
  rank_in_step p y front other own e a long b r =
      let h : IsHome (group_of g c) p = home_of_peer g c s st p own in
      let stage = stage_good p own e in
      has_effects s st.stands.faithful p y front other stage a (omega (arith, long, (st.stands.peers.each p h).sealed, (st.stands.faithful.good p stage).told)) b r
