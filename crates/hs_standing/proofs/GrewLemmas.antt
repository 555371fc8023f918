-- What an event leaves of the list of each shard, while the core goes on.
use Rattle.std.proofs.Common.{◌≡◌, ◌∙◌, ap, sym, subst, inl, inr, ℕ, ◌+◌, ◌-◌, ◌<◌, ◌≤◌, Bool, true, false, List, [], ◌∷◌, ◌++◌, Option, Some, None, refl, arith, length, take, append-nil, length-append, length-take, length-take-le, eqb-true}
use Rattle.std.proofs.lemmas.Bool.{cases_eq}
use Rattle.std.specs.Option.{option_map_or}
use Rattle.std.specs.Prelude.{if◌then◌else◌, slice_index_or}
use Rattle.hs_core_words.specs.declared.event.Event.{Event}
use Rattle.hs_core_words.specs.declared.event.Event.TheVariants as event
use Rattle.hs_core_words.specs.Looking.{first_job, front_of, group_of, home, shape_of}
use Rattle.hs_core_words.specs.State.{Core}
use Rattle.hs_core_words.specs.Step.{end_event, step}
use Rattle.hs_desk.specs.Answers.{answers}
use Rattle.hs_desk.specs.declared.done.Done.{Done}
use Rattle.hs_desk.specs.declared.done.Done.TheVariants as done
use Rattle.hs_desk.specs.declared.fault.CoreFault.{CoreFault}
use Rattle.hs_desk.specs.declared.job.Job.{Job}
use Rattle.hs_desk.specs.declared.job.Job.TheVariants as job
use Rattle.hs_entry.specs.Entries.{IsPrefix}
use Rattle.hs_events.specs.Asked.{report_in}
use Rattle.hs_events.specs.Course.{is_refused}
use Rattle.hs_events.specs.Due.{is_answer}
use Rattle.hs_events.specs.Sane.{IsSane}
use Rattle.hs_events.specs.Whole.{Whole, floor, grown, reach, step_whole, taken_report, told_list}
use Rattle.hs_fold.specs.Shards.Setting.{Numbered}
use Rattle.hs_members.specs.Members.{Members}
use Rattle.hs_moments.proofs.AloneEventLemmas.{begun, ends, step_is}
use Rattle.hs_moments.proofs.AloneReportLemmas.{reports_not}
use Rattle.hs_moments.proofs.SaneLemmas.{after_reports, appended_beside, appended_stays, growing_beside, growing_without_call}
use Rattle.hs_moments.proofs.WorkLemmas.{floor_alone, floor_within, next_job, reach_sane}
use Rattle.hs_moments.specs.Moments.{Grows}
use Rattle.hs_moments.specs.WholeMachine.{IsFrontOf, whole_machine}
use Rattle.hs_moments.specs.Working.{HasReported, IsBehind, IsNextEntry, NextJob}
use Rattle.hs_replica.specs.Group.{Group, entries_above, length_of, new_group}
use Rattle.hs_standing.proofs.SaneLemmas.{front_within}

-- a shard's list begins with the old one, and of it nothing took effect that stands behind that
pub record Grew (c new : Whole) (shard : ℕ) : Type 0 where
  pub begins : IsPrefix (reach c shard) (reach new shard)
  pub front : front_of shard new.core ≤ length (reach c shard)

module _ (c : Whole) (e : Event) (at : ℕ) (h : IsSane c) (behind : IsSane (step_whole e at c)) (going : (step e at c.core).ended ≡ None) where
  abbrev new : Whole
  new = step_whole e at c

  not_refused : is_refused (step e at c.core).ended ≡ false
  not_refused = ap (λ (o : Option CoreFault). is_refused o) going

  -- what a peer has sealed took effect
  floor_is : (g : ℕ) → g < (step e at c.core).members.shape.shards → floor (step_whole e at c) g ≡ front_of g (step e at c.core)
  floor_is g low = floor_alone (step_whole e at c) g behind.alone low ∙ (behind.settled g low).settled

  -- where no more is sealed, or what is sealed is within the list
  grew_by : (g : ℕ) → g < (step e at c.core).members.shape.shards → ((list : Numbered) → IsFrontOf g list (reach c g) → IsFrontOf g list (reach (step_whole e at c) g)) → floor (step_whole e at c) g ≤ length (reach c g) → Grew c (step_whole e at c) g
  grew_by g low front within = record {
    begins = front (reach c g) ([], sym (append-nil (reach c g)));
    front = let is = floor_is g low in omega (arith, is, within);
  }

  grew_quiet : (g : ℕ) → g < c.core.members.shape.shards → g < (step e at c.core).members.shape.shards → report_in e ≡ None → Grew c (step_whole e at c) g
  grew_quiet g old low none =
      let a : Grows whole_machine c (step_whole e at c) g = growing_without_call c e at g h none not_refused in
      let same : floor (step_whole e at c) g ≡ floor c g = (appended_stays c e at g h none going).1 in
      let within = floor_within c g h old in
      grew_by g low a.front (omega (arith, same, within))

-- ---- a report

-- the number that a Seal reports is within the list
sealed_within : (c : Whole) (p n : ℕ) → IsSane c → p < c.core.members.shape.shards → is_answer c.core p (done.Sealed n) ≡ true → n ≤ length (reach c p)
sealed_within c p n h low is = by_job (first_job p c.core) refl is
  where
    next_within : (number : ℕ) → n ≡ number → NextJob c p (job.Seal number) → n ≤ length (reach c p)
    next_within number same next =
        let it : IsNextEntry c p number next.entry = next.next in
        let within = floor_within c p h low in
        let number_is = it.next in
        let long : length (take number (reach c p)) ≡ length (take (floor c p) (reach c p)) + 1 = ap (λ (es : Numbered). length es) it.list ∙ length-append (take (floor c p) (reach c p)) ((number, next.entry) ∷ []) in
        let count : length (take (floor c p) (reach c p)) ≡ floor c p = length-take-le (floor c p) (reach c p) within in
        let cut = length-take number (reach c p) in
        omega (arith, same, within, number_is, long, count, cut)

    by_job : (o : Option Job) → first_job p c.core ≡ o → option_map_or (λ j. answers p j (done.Sealed n)) o false ≡ true → n ≤ length (reach c p)
    by_job None e f = absurd (cc f)
    by_job (Some (job.Append number entry)) e f = absurd (cc f)
    by_job (Some (job.Seal number)) e f = next_within number (eqb-true n number f) (next_job c p (job.Seal number) h e)
    by_job (Some (job.Read number)) e f = absurd (cc f)
    by_job (Some job.Reset) e f = absurd (cc f)
    by_job (Some (job.Copy from number)) e f = absurd (cc f)
    by_job (Some job.Reclaim) e f = absurd (cc f)

module _ (c : Whole) (p : ℕ) (at : ℕ) (h : IsSane c) where
  -- of the peer itself: how much is sealed then
  floor_told : (d : Done) → p < c.core.members.shape.shards → is_answer c.core p d ≡ true → HasReported c (step_whole (event.Report p d) at c) p d → floor (step_whole (event.Report p d) at c) p ≤ length (reach c p)
  floor_told (done.Stored n) low is told = let same = told.0 in let within = floor_within c p h low in omega (arith, same, within)
  floor_told (done.Sealed n) low is told = let same = told.0 in let within = sealed_within c p n h low is in omega (arith, same, within)
  floor_told (done.Bytes n bytes) low is told = let same = told.0 in let within = floor_within c p h low in omega (arith, same, within)
  floor_told (done.Gone n) low is told = let same = told.0 in let within = floor_within c p h low in omega (arith, same, within)
  floor_told done.Emptied low is told = absurd told
  floor_told (done.Copied n) low is told = absurd told
  floor_told (done.Stepped switched) low is told = absurd told
  floor_told (done.Failed disk) low is told = omega (arith, told)

  module _ (d : Done) (behind : IsSane (step_whole (event.Report p d) at c)) (going : (step (event.Report p d) at c.core).ended ≡ None) where
    abbrev e : Event
    e = event.Report p d

    refused_not : is_refused (step (event.Report p d) at c.core).ended ≡ false
    refused_not = ap (λ (o : Option CoreFault). is_refused o) going

    grew_answered : (g : ℕ) → g < c.core.members.shape.shards → g < (step (event.Report p d) at c.core).members.shape.shards → is_answer c.core p d ≡ true → Grew c (step_whole (event.Report p d) at c) g
    grew_answered g old low is = elim (cases_eq g p) [
      | inl same ↦ subst (λ k. Grew c (step_whole (event.Report p d) at c) k) (sym same) (here (subst (λ k. k < c.core.members.shape.shards) same old) (subst (λ k. k < (step (event.Report p d) at c.core).members.shape.shards) same low))
      | inr differs ↦
          let a : Grows whole_machine c (step_whole (event.Report p d) at c) g = growing_beside c d at p g h is differs refused_not in
          let still : floor (step_whole (event.Report p d) at c) g ≡ floor c g = (appended_beside c d at p g h is differs going).1 in
          let within = floor_within c g h old in
          grew_by c (event.Report p d) at h behind going g low a.front (omega (arith, still, within))
    ]
      where
        here : p < c.core.members.shape.shards → p < (step (event.Report p d) at c.core).members.shape.shards → Grew c (step_whole (event.Report p d) at c) p
        here old low =
            let b : IsBehind c (step_whole (event.Report p d) at c) p d = after_reports c d at p h is refused_not in
            grew_by c (event.Report p d) at h behind going p low b.front (floor_told d old is b.told)

    -- a report that answers nothing changes nothing
    after_is : is_answer c.core p d ≡ false → step (event.Report p d) at c.core ≡ end_event (begun (event.Report p d) at c.core)
    after_is unasked = step_is (event.Report p d) at c.core h.going ∙ ap (λ x. end_event x) (reports_not p d (begun (event.Report p d) at c.core) unasked)

    group_is : is_answer c.core p d ≡ false → (g : ℕ) → group_of g (step (event.Report p d) at c.core) ≡ group_of g c.core
    group_is unasked g =
        let x : Core = begun (event.Report p d) at c.core in
        ap (λ (y : Core). group_of g y) (after_is unasked)
        ∙ ap (λ (gs : List Group). slice_index_or gs g (new_group (shape_of (end_event x)) g 0 0 [])) (ends x).groups
        ∙ ap (λ (m : Members). slice_index_or c.core.groups g (new_group m.shape g 0 0 [])) (ends x).members

    grew_not : (g : ℕ) → g < c.core.members.shape.shards → is_answer c.core p d ≡ false → Grew c (step_whole (event.Report p d) at c) g
    grew_not g old unasked = record {
      begins = (take (length_of group g - length (c.lists g)) (entries_above (length (c.lists g)) group), reach_is);
      front = (let same : front_of g (step (event.Report p d) at c.core) ≡ front_of g c.core = ap (λ (y : Group). y.front) (group_is unasked g) in let within = front_within c g h old in omega (arith, same, within));
    }
      where
        group : Group
        group = group_of (home g (step (event.Report p d) at c.core)) (step (event.Report p d) at c.core)

        list_is : told_list c g (taken_report c.core (event.Report p d)) ≡ c.lists g
        list_is = ap (λ (b : Bool). told_list c g (if b then Some (p, d) else None)) unasked

        reach_is : reach (step_whole (event.Report p d) at c) g ≡ reach c g ++ take (length_of group g - length (c.lists g)) (entries_above (length (c.lists g)) group)
        reach_is =
            reach_sane (step_whole (event.Report p d) at c) g behind
            ∙ ap (λ (es : Numbered). grown group g es) list_is
            ∙ ap (λ (es : Numbered). es ++ take (length_of group g - length (c.lists g)) (entries_above (length (c.lists g)) group)) (sym (reach_sane c g h))

    pub grew_report : (g : ℕ) → g < c.core.members.shape.shards → g < (step (event.Report p d) at c.core).members.shape.shards → Grew c (step_whole (event.Report p d) at c) g
    grew_report g old low = by_answer (is_answer c.core p d) refl
      where
        by_answer : (b : Bool) → is_answer c.core p d ≡ b → Grew c (step_whole (event.Report p d) at c) g
        by_answer true is = grew_answered g old low is
        by_answer false is = grew_not g old is

-- ---- any event

pub grew : (c : Whole) (e : Event) (at : ℕ) → IsSane c → IsSane (step_whole e at c) → (step e at c.core).ended ≡ None → (g : ℕ) → g < c.core.members.shape.shards → g < (step e at c.core).members.shape.shards → Grew c (step_whole e at c) g
grew c (event.Line line o) at h behind going g old low = grew_quiet c (event.Line line o) at h behind going g old low refl
grew c (event.Report p d) at h behind going g old low = grew_report c p at h d behind going g old low
grew c (event.Turn line p) at h behind going g old low = grew_quiet c (event.Turn line p) at h behind going g old low refl
grew c (event.Deliver line number) at h behind going g old low = grew_quiet c (event.Deliver line number) at h behind going g old low refl
grew c (event.Lose line number) at h behind going g old low = grew_quiet c (event.Lose line number) at h behind going g old low refl
grew c (event.Repeat line number) at h behind going g old low = grew_quiet c (event.Repeat line number) at h behind going g old low refl
grew c (event.Nudge line p) at h behind going g old low = grew_quiet c (event.Nudge line p) at h behind going g old low refl
grew c (event.Fail line p) at h behind going g old low = grew_quiet c (event.Fail line p) at h behind going g old low refl
grew c (event.Start line p) at h behind going g old low = grew_quiet c (event.Start line p) at h behind going g old low refl
