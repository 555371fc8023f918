-- What each of the changes keeps, and a view that begins, each event keeps, for any number of copies; with one copy a shard no view begins.
use Rattle.std.proofs.Common.{◌≡◌, ◌∙◌, sym, ap, subst, ℕ, zero, suc, ◌+◌, ◌<◌, ◌==◌, ◌&&◌, Bool, true, false, cond, List, [], ◌∷◌, Option, Some, None, refl, arith, length, nat_lt, not, take}
use Rattle.hs_anatomy.proofs.EventLemmas.{does_acts}
use Rattle.hs_anatomy.proofs.StepLemmas.{step_is}
use Rattle.hs_anatomy.specs.Acts.{Acts, begun}
use Rattle.hs_awaiting.specs.declared.waiting.Waiting.{Waiting}
use Rattle.hs_awaiting.specs.Words.{change_if}
use Rattle.hs_core_words.specs.declared.event.Event.{Event}
use Rattle.hs_core_words.specs.declared.event.Event.TheVariants as event
use Rattle.hs_core_words.specs.Looking.{shape_of}
use Rattle.hs_core_words.specs.Records.{HasRecordRoom}
use Rattle.hs_core_words.specs.State.{Core}
use Rattle.hs_core_words.specs.Step.{do_event, end_event, keep_entries, line_of, refuse_entries, step}
use Rattle.hs_desk.specs.declared.done.Done.{Done}
use Rattle.hs_desk.specs.declared.done.Done.TheVariants as done
use Rattle.hs_desk.specs.declared.fault.CoreFault.{CoreFault}
use Rattle.hs_events.proofs.FrameLemmas.{Frame, frame_does}
use Rattle.hs_events.specs.Course.{steps}
use Rattle.hs_events.specs.Due.{Events}
use Rattle.hs_events.specs.Sane.{IsSane}
use Rattle.hs_events.specs.Whole.{Whole}
use Rattle.hs_limits.specs.declared.shape.Shape.{Shape}
use Rattle.hs_model.specs.declared.op.Op.{Op}
use Rattle.hs_post.specs.Pool.{is_empty, message_at, restart_numbers}
use Rattle.hs_standing.proofs.ActLemmas.{acts_go}
use Rattle.hs_standing.proofs.BesideLemmas.{beside_begun, beside_ended}
use Rattle.hs_standing.proofs.LinesStepLemmas.{step_ended}
use Rattle.hs_standing.proofs.SaneKnownLemmas.{sane_knows, sane_seated}
use Rattle.hs_standing.specs.Copies.{AllComeOn, ComesOn, IsSeated, KnowsCopies, KnowsItsCopies}
use Rattle.hs_standing.specs.Walks.{MayEvent, MayReport, Walks, WalksViews}

-- ---- what found the journal full

pub do_refuses : (e : Event) (c : Core) → (do_event e c).refused ≡ c.refused
do_refuses e c = ap (λ (f : Frame). f.refused) (frame_does e c)

-- ---- what is known of copies, as it has begun

pub seated_begun : (e : Event) (at : ℕ) (c : Core) → IsSeated c → IsSeated (begun e at c)
seated_begun e at c h = record { lists = h.lists; peers = h.peers; copies = h.copies }

pub knows_begun : (e : Event) (at : ℕ) (c : Core) → KnowsItsCopies c → KnowsItsCopies (begun e at c)
knows_begun e at c h = record {
  each = λ shard low. of shard (h.each shard low);
  seals = h.seals;
  haves = λ number shard from to view sealed there. h.haves number shard from to view sealed (sym (same ((c.progress.event_line == 0 && not (line_of e == 0)) && is_empty c.pool) number) ∙ there);
  joining = h.joining;
}
  where
    of : (shard : ℕ) → KnowsCopies shard c → KnowsCopies shard (begun e at c)
    of shard k = record { same_shape = k.same_shape; same_shard = k.same_shard; copies = k.copies; led = k.led; known = k.known; sealed = k.sealed }

    same : (b : Bool) (number : ℕ) → message_at number (change_if b restart_numbers c.pool) ≡ message_at number c.pool
    same true number = refl
    same false number = refl

-- ---- along events

-- where a core goes on its journal had room, and all is told
record IsClean (c : Core) : Type 0 where
  refused : c.refused ≡ []
  told : c.entries ≡ []

clean_on : (e : Event) (at : ℕ) (c : Core) → c.ended ≡ None → c.refused ≡ [] → (step e at c).ended ≡ None → IsClean (step e at c)
clean_on e at c going clean on =
    subst IsClean (sym (step_is e at c going)) (go (nat_lt b.limits.ops (length b.journal + length b.entries)) (ap (λ (x : Core). x.ended) (sym (step_is e at c going)) ∙ on))
  where
    b : Core
    b = do_event e (begun e at c)

    go : (full : Bool) → (cond full (refuse_entries b) (keep_entries b)).ended ≡ None → IsClean (cond full (refuse_entries b) (keep_entries b))
    go true over = absurd (cc over)
    go false over = record { refused = do_refuses e (begun e at c) ∙ clean; told = refl }

-- behind its end a core stays as it is
pub steps_over : (es : Events) (c : Core) (fault : CoreFault) → c.ended ≡ Some fault → steps c es ≡ c
steps_over [] c fault over = refl
steps_over (e ∷ es) c fault over = ap (λ (x : Core). steps x es) (step_ended e.0 e.1 c fault over) ∙ steps_over es c fault over

-- what each event keeps, all of them keep, and that all is told stays
pub along : (May : Event → Core → Type 0) (P : Core → Type 0) → ((e : Event) (at : ℕ) (c : Core) → c.ended ≡ None → c.refused ≡ [] → c.entries ≡ [] → ComesOn May e c → P c → P (step e at c))
    → (es : Events) (c : Core) → c.refused ≡ [] → c.entries ≡ [] → AllComeOn May c es → P c → P (steps c es)
along May P next [] c clean told may p = p
along May P next (e ∷ es) c clean told may p =
    begins (λ h q. along May P next es (step e.0 e.1 c) h.refused h.told may.1 q) c.ended refl
  where
    begins : (IsClean (step e.0 e.1 c) → P (step e.0 e.1 c) → P (steps (step e.0 e.1 c) es)) → (o : Option CoreFault) → c.ended ≡ o → P (steps (step e.0 e.1 c) es)
    begins later (Some fault) over = subst P (sym (steps_over (e ∷ es) c fault over)) p
    begins later None going = ends (step e.0 e.1 c).ended refl
      where
        q : P (step e.0 e.1 c)
        q = next e.0 e.1 c going clean told (may.0 going) p

        ends : (o : Option CoreFault) → (step e.0 e.1 c).ended ≡ o → P (steps (step e.0 e.1 c) es)
        ends None on = later (clean_on e.0 e.1 c going clean on) q
        ends (Some fault) over = subst P (sym (steps_over es (step e.0 e.1 c) fault over)) q

-- so does each front of them come
pub come_front : (May : Event → Core → Type 0) (n : ℕ) (es : Events) (c : Core) → AllComeOn May c es → AllComeOn May c (take n es)
come_front May zero es c may = tt
come_front May (suc n) [] c may = tt
come_front May (suc n) (e ∷ es) c may = (may.0, come_front May n es (step e.0 e.1 c) may.1)

-- ---- each event

module _ {MayLine : ℕ → Op → Core → Type 0} {MayTell : ℕ → Option (List ℕ) → Waiting → Core → Type 0} {MayRefuse : ℕ → Type 0} {Q : Core → Type 0} (W : Walks MayLine MayTell MayRefuse Q) where
  -- ---- what is asked, as it has begun

  may_report : (p : ℕ) (d : Done) (e : Event) (at : ℕ) (c : Core) → MayReport MayTell p d c → MayReport MayTell p d (begun e at c)
  may_report p (done.Stored number) e at c may = tt
  may_report p (done.Sealed number) e at c may = tt
  may_report p (done.Bytes number bytes) e at c may = λ w r. W.tell_beside number (Some bytes) w c (begun e at c) (beside_begun e at c) (may w (record { line = r.line; first = r.first; at = r.at; waits = r.waits }))
  may_report p (done.Gone number) e at c may = λ w r. W.tell_beside number None w c (begun e at c) (beside_begun e at c) (may w (record { line = r.line; first = r.first; at = r.at; waits = r.waits }))
  may_report p done.Emptied e at c may = tt
  may_report p (done.Copied number) e at c may = tt
  may_report p (done.Stepped switched) e at c may = tt
  may_report p (done.Failed disk) e at c may = tt

  pub may_begun : (e : Event) (at : ℕ) (c : Core) → MayEvent MayLine MayTell MayRefuse e c → MayEvent MayLine MayTell MayRefuse e (begun e at c)
  may_begun (event.Line line o) at c may = W.line_beside line o c (begun (event.Line line o) at c) (beside_begun (event.Line line o) at c) may
  may_begun (event.Report p d) at c may = may_report p d (event.Report p d) at c may
  may_begun (event.Turn line p) at c may = may
  may_begun (event.Deliver line number) at c may = may
  may_begun (event.Lose line number) at c may = may
  may_begun (event.Repeat line number) at c may = may
  may_begun (event.Nudge line p) at c may = may
  may_begun (event.Fail line p) at c may = may
  may_begun (event.Start line p) at c may = may

  -- ---- one event at a moment

  -- between any two acts
  pub acts_keep_it : (c : Core) → WalksViews (shape_of c) Q → (e : Event) (at : ℕ) → IsSeated c → KnowsItsCopies c → HasRecordRoom c → MayEvent MayLine MayTell MayRefuse e c → Q c → (b : Core) → Acts (begun e at c) (Some e) b → Q b
  acts_keep_it c views e at seated known room may q b xs =
      acts_go W (shape_of c) views (begun e at c) e refl (may_begun e at c may) (seated_begun e at c seated) (knows_begun e at c known) room (W.beside c (begun e at c) (beside_begun e at c) q) b xs

  pub copies_step : (c : Core) → WalksViews (shape_of c) Q → (e : Event) (at : ℕ) → c.ended ≡ None → IsSeated c → KnowsItsCopies c
      → HasRecordRoom c → c.refused ≡ [] → MayEvent MayLine MayTell MayRefuse e c → Q c → Q (step e at c)
  copies_step c views e at going seated known room none may q =
      let x : Core = begun e at c in
      let b : Core = do_event e x in
      let q_b : Q b = acts_keep_it c views e at seated known room may q b (does_acts x e) in
      subst Q (sym (step_is e at c going)) (W.beside b (end_event b) (beside_ended b (do_refuses e x ∙ none)) q_b)

  -- and some, one after another
  pub copies_steps : ((shape : Shape) → WalksViews shape Q) → (es : Events) (c : Core) → c.refused ≡ [] → c.entries ≡ [] → AllComeOn (MayEvent MayLine MayTell MayRefuse) c es → Q c → Q (steps c es)
  copies_steps views es c clean told may q =
      along (MayEvent MayLine MayTell MayRefuse) Q (λ e at a going none quiet comes q_a. copies_step a (views (shape_of a)) e at going comes.seated comes.known comes.room none comes.may q_a) es c clean told may q

  -- with one copy a shard no view begins
  pub walks_step : (c : Whole) (e : Event) (at : ℕ) → IsSane c → HasRecordRoom c.core → c.core.refused ≡ [] → MayEvent MayLine MayTell MayRefuse e c.core → Q c.core → Q (step e at c.core)
  walks_step c e at h room none may q =
      copies_step c.core (λ shard a same low more q_a. absurd (alone a same more)) e at h.going (sane_seated c h) (sane_knows c h) room none may q
    where
      alone : (a : Core) → shape_of a ≡ shape_of c.core → 1 < (shape_of a).copies → ⊥
      alone a same more =
          let one : (shape_of a).copies ≡ 1 = ap (λ (x : Shape). x.copies) same ∙ h.alone.copies in
          omega (arith, one, more)
