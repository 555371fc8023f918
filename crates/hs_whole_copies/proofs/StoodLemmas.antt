-- What takes effect by an event stood in the lead's list as it came.
use Rattle.std.proofs.Common.{◌≡◌, ◌∙◌, ap, sym, subst, refl, inl, inr, arith, ℕ, ◌==◌, Bool, true, false, if◌then◌else◌, List, [], ◌∷◌, ◌++◌, Option, Some, None, length}
use Rattle.std.proofs.lemmas.Bool.{and_parts, eqb-true}
use Rattle.std.specs.Option.{option_map_or}
use Rattle.std.specs.Prelude.{drop, take}
use Rattle.hs_copies.proofs.ListLemmas.{behind_less, front_append, front_both, front_trans, view_ap}
use Rattle.hs_copies.proofs.PeerLemmas.{put_cases}
use Rattle.hs_copies.specs.Invariant.{AreFaithful, reach}
use Rattle.hs_copies.specs.Lists.{IsBehind, IsFront, Item}
use Rattle.hs_copies.specs.Machine.{Copies, Following, Good, after_events, put_at}
use Rattle.hs_core_copies.proofs.GoingLemmas.{GoesTold}
use Rattle.hs_core_copies.proofs.NextLemmas.{first_is_next}
use Rattle.hs_core_copies.proofs.ReportLemmas.{copy_is, reset_is}
use Rattle.hs_core_copies.specs.InStep.{IsInStep, IsOf}
use Rattle.hs_core_copies.specs.Lists.{AreHeld, is_taken, list_by, lists_told}
use Rattle.hs_core_copies.specs.Next.{IsNextToCopy, IsNextToEmpty}
use Rattle.hs_core_words.specs.declared.event.Event.{Event}
use Rattle.hs_core_words.specs.declared.event.Event.TheVariants as event
use Rattle.hs_core_words.specs.Looking.{first_job, home}
use Rattle.hs_core_words.specs.State.{Core}
use Rattle.hs_core_words.specs.Step.{step}
use Rattle.hs_desk.specs.Answers.{answers}
use Rattle.hs_desk.specs.declared.done.Done.{Done}
use Rattle.hs_desk.specs.declared.done.Done.TheVariants as done
use Rattle.hs_desk.specs.declared.job.Job.{Job}
use Rattle.hs_desk.specs.declared.job.Job.TheVariants as job
use Rattle.hs_entry.specs.declared.entry.Entry.{Entry}

-- a list that goes with two others which part nowhere before it is a front of the first
cross : {X : Type 0} (fs log longer bs : List (Item X)) → IsBehind fs log → IsFront log longer → IsBehind longer bs → IsFront fs bs → IsFront fs log
cross [] log longer bs b f c g = tt
cross (f ∷ fs) [] longer bs b k c g = absurd b
cross (f ∷ fs) (a ∷ log) [] bs b k c g = absurd k
cross (f ∷ fs) (a ∷ log) (l ∷ longer) [] b k c g = absurd g
cross (f ∷ fs) (a ∷ log) (l ∷ longer) (z ∷ bs) (inl b) k (inl c) g = (b.0, cross fs log longer bs b.1 k.1 c.1 g.1)
cross (f ∷ fs) (a ∷ log) (l ∷ longer) (z ∷ bs) (inl b) k (inr c) g = absurd (omega (arith, view_ap f a b.0, view_ap a l k.0, view_ap f z g.0, c.0))
cross (f ∷ fs) (a ∷ log) (l ∷ longer) (z ∷ bs) (inr b) k (inl c) g = absurd (omega (arith, b.0, view_ap a l k.0, view_ap l z c.0, view_ap f z g.0))
cross (f ∷ fs) (a ∷ log) (l ∷ longer) (z ∷ bs) (inr b) k (inr c) g = absurd (omega (arith, b.0, view_ap a l k.0, view_ap f z g.0, c.0))

-- a list with the next of the log is a front of it
one_more : {X : Type 0} (xs log : List X) → IsFront xs log → IsFront (xs ++ take 1 (drop (length xs) log)) log
one_more [] [] f = tt
one_more [] (l ∷ log) f = (refl, tt)
one_more (x ∷ xs) [] f = absurd f
one_more (x ∷ xs) (l ∷ log) f = (f.0, one_more xs log f.1)

front_none : {X : Type 0} (xs ys : List X) → IsFront xs [] → IsFront xs ys
front_none [] ys f = tt
front_none (x ∷ xs) ys f = absurd f

-- a list that is told is as it was, or the peer was not good: it is empty, or a front of the lead's
pub data IsTold (s : Copies Entry) (p : ℕ) (told : List (Item Entry)) : Type 0 where
  AsItWas : told ≡ (s.peers p).list → IsTold s p told
  IsEmpty : ((s.peers p).stage ≡ Good → ⊥) → told ≡ [] → IsTold s p told
  IsOfLead : ((s.peers p).stage ≡ Good → ⊥) → IsFront told s.log → IsTold s p told

module _ (g : ℕ) (c : Core) (s : Copies Entry) (st : IsInStep g c s) where
  no_joiner : (p : ℕ) → (s.peers p).stage ≡ Following → (s.peers p).stage ≡ Good → ⊥
  no_joiner p a b = let wrong : Following ≡ Good = sym a ∙ b in cc wrong

  job_of : (p : ℕ) (d : Done) (o : Option Job) → option_map_or (λ job. answers p job d) o false ≡ true → (j : Job) × (o ≡ Some j) × (answers p j d ≡ true)
  job_of p d None e = absurd (cc e)
  job_of p d (Some j) e = (j, refl, e)

  emptied_told : (p : ℕ) → IsOf c.members.shape g p → (j : Job) → first_job p c ≡ Some j → answers p j done.Emptied ≡ true → (s.peers p).stage ≡ Good → ⊥
  emptied_told p own j first a good =
      let is : j ≡ job.Reset = reset_is j a in
      let next : IsNextToEmpty c s p = first_is_next g p c s job.Reset st own (first ∙ ap (λ k. Some k) is) in
      (let wrong = sym next.clears ∙ good in cc wrong)

  copied_told : (p number : ℕ) → IsOf c.members.shape g p → (j : Job) → first_job p c ≡ Some j → answers p j (done.Copied number) ≡ true → (s.peers p).stage ≡ Following
  copied_told p number own j first a =
      let is = copy_is number j a in
      let next : IsNextToCopy g c s p number = first_is_next g p c s (job.Copy is.0 number) st own (first ∙ ap (λ k. Some k) is.1) in
      next.follows

  by_done : (p : ℕ) (d : Done) → is_taken g p d c ≡ true → IsTold s p (list_by s p d)
  by_done p (done.Stored number) is = AsItWas refl
  by_done p (done.Sealed number) is = AsItWas refl
  by_done p (done.Bytes number bytes) is = AsItWas refl
  by_done p (done.Gone number) is = AsItWas refl
  by_done p done.Emptied is =
      let both = and_parts (home p c == g) (option_map_or (λ job. answers p job done.Emptied) (first_job p c) false) is in
      let own : IsOf c.members.shape g p = eqb-true (home p c) g both.0 in
      let j = job_of p done.Emptied (first_job p c) both.1 in
      IsEmpty (emptied_told p own j.0 j.1 j.2) refl
  by_done p (done.Copied number) is =
      let both = and_parts (home p c == g) (option_map_or (λ job. answers p job (done.Copied number)) (first_job p c) false) is in
      let own : IsOf c.members.shape g p = eqb-true (home p c) g both.0 in
      let j = job_of p (done.Copied number) (first_job p c) both.1 in
      let follows : (s.peers p).stage ≡ Following = copied_told p number own j.0 j.1 j.2 in
      let front : IsFront (s.peers p).list s.log = front_trans (s.peers p).list (reach (s.peers p)) s.log (front_append (s.peers p).list (s.peers p).adding) (st.stands.faithful.following p follows).0 in
      IsOfLead (no_joiner p follows) (one_more (s.peers p).list s.log front)
  by_done p (done.Stepped switched) is = AsItWas refl
  by_done p (done.Failed disk) is = AsItWas refl

  by_report : (p : ℕ) (d : Done) (b : Bool) → is_taken g p d c ≡ b → (q : ℕ) → IsTold s q ((if b then put_at p (list_by s p d) (λ k. (s.peers k).list) else (λ k. (s.peers k).list)) q)
  by_report p d true is q = put_cases (λ (xs : List (Item Entry)). IsTold s q xs) p (list_by s p d) (λ k. (s.peers k).list) q (λ e. subst (λ k. IsTold s k (list_by s p d)) (sym e) (by_done p d is)) (λ n. AsItWas refl)
  by_report p d false is q = AsItWas refl

  told_is : (e : Event) (q : ℕ) → IsTold s q (lists_told g e c s q)
  told_is (event.Line line o) q = AsItWas refl
  told_is (event.Report p d) q = by_report p d (is_taken g p d c) refl q
  told_is (event.Turn line p) q = AsItWas refl
  told_is (event.Deliver line number) q = AsItWas refl
  told_is (event.Lose line number) q = AsItWas refl
  told_is (event.Repeat line number) q = AsItWas refl
  told_is (event.Nudge line p) q = AsItWas refl
  told_is (event.Fail line p) q = AsItWas refl
  told_is (event.Start line p) q = AsItWas refl

  -- the list of the lead is as it was
  lead_told : (l : ℕ) → (s.peers l).stage ≡ Good → (told : List (Item Entry)) → IsTold s l told → told ≡ (s.peers l).list
  lead_told l good told (AsItWas is) = is
  lead_told l good told (IsEmpty not is) = absurd (not good)
  lead_told l good told (IsOfLead not is) = absurd (not good)

  module _ (e : Event) (at : ℕ) (held : AreHeld s) (k : GoesTold g (step e at c) s (lists_told g e c s)) where
    abbrev t : Copies Entry
    t = after_events s k.events

    after : AreFaithful (after_events s k.events)
    after = k.keeps.stands.faithful

    -- the lead behind it, and the one before
    abbrev lead : ℕ
    lead = after.led.0

    abbrev told : List (Item Entry)
    told = lists_told g e c s lead

    told_front : IsFront told (after_events s k.events).log
    told_front = subst (λ xs. IsFront told xs) after.led.2 (k.tells.lists lead)

    took_told : IsFront (after_events s k.events).took told
    took_told =
        let good = after.good lead after.led.1 in
        let sealed = k.tells.seals held lead in
        front_both (after_events s k.events).took told (after_events s k.events).log after.took told_front (omega (arith, good.front, good.told, sealed))

    abbrev before : ℕ
    before = st.stands.faithful.led.0

    log_stays : IsFront s.log ((after_events s k.events).peers before).list
    log_stays =
        let same : lists_told g e c s before ≡ s.log = lead_told before st.stands.faithful.led.1 (lists_told g e c s before) (told_is e before) ∙ st.stands.faithful.led.2 in
        subst (λ xs. IsFront xs ((after_events s k.events).peers before).list) same (k.tells.lists before)

    stood_by : IsTold s lead told → IsFront (after_events s k.events).took s.log
    stood_by (AsItWas is) =
        let own : IsFront (after_events s k.events).took (reach (s.peers lead)) =
        front_trans (after_events s k.events).took (s.peers lead).list (reach (s.peers lead)) (subst (λ xs. IsFront (after_events s k.events).took xs) is took_told) (front_append (s.peers lead).list (s.peers lead).adding) in
        cross (after_events s k.events).took s.log ((after_events s k.events).peers before).list (after_events s k.events).log
        (behind_less (after_events s k.events).took (reach (s.peers lead)) s.log own (st.stands.faithful.behind lead))
        log_stays
        (behind_less ((after_events s k.events).peers before).list (reach ((after_events s k.events).peers before)) (after_events s k.events).log (front_append ((after_events s k.events).peers before).list ((after_events s k.events).peers before).adding) (after.behind before))
        after.took
    stood_by (IsEmpty not is) = front_none (after_events s k.events).took s.log (subst (λ xs. IsFront (after_events s k.events).took xs) is took_told)
    stood_by (IsOfLead not is) = front_trans (after_events s k.events).took told s.log took_told is

    pub stood : IsFront (after_events s k.events).took s.log
    stood = stood_by (told_is e lead)
