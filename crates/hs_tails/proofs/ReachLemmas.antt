-- What a disk may have behind an event is a front of the lead's list, or what it might have had before.
use Rattle.std.proofs.Common.{◌≡◌, ◌⊎◌, ◌∙◌, ap, sym, subst, refl, inl, inr, arith, ℕ, suc, ◌+◌, ◌-◌, ◌==◌, ◌&&◌, eqb-true, Bool, true, false, if◌then◌else◌, List, [], ◌∷◌, ◌++◌, Option, Some, None, append-nil, length}
use Rattle.std.proofs.lemmas.List.{length-map}
use Rattle.std.specs.List.{enumerate_from}
use Rattle.std.specs.Option.{option_map}
use Rattle.std.specs.Prelude.{drop, map, take, unwrap_or}
use Rattle.hs_copies.proofs.ListLemmas.{front_append, front_trans}
use Rattle.hs_copies.proofs.PeerLemmas.{put_cases}
use Rattle.hs_copies.proofs.StandLemmas.{HasLead, stands_lead}
use Rattle.hs_copies.specs.Invariant.{reach as machine_reach}
use Rattle.hs_copies.specs.Lists.{IsFront, Item}
use Rattle.hs_copies.specs.Machine.{Copies, Following, Good as GoodStage, after_events, put_at}
use Rattle.hs_copies.specs.Standing.{stage_of}
use Rattle.hs_core_copies.proofs.BesideLemmas.{home_of_peer}
use Rattle.hs_core_copies.proofs.GoingLemmas.{GoesTold}
use Rattle.hs_core_copies.proofs.StepLemmas.{lead_in_step}
use Rattle.hs_core_copies.proofs.StepsLemmas.{steps_tell, was_going}
use Rattle.hs_core_copies.specs.InStep.{IsInStep, IsOf, copies_in, rejoin_at}
use Rattle.hs_core_copies.specs.Lists.{list_by, lists_told, numbered}
use Rattle.hs_core_words.specs.declared.event.Event.{Event}
use Rattle.hs_core_words.specs.declared.event.Event.TheVariants as event
use Rattle.hs_core_words.specs.declared.task.Task.{Task}
use Rattle.hs_core_words.specs.Looking.{first_job, first_task, group_of, home, lead_of, rejoin_of, sealed_of, status_of}
use Rattle.hs_core_words.specs.State.{Core}
use Rattle.hs_core_words.specs.Step.{step}
use Rattle.hs_desk.specs.Answers.{answers}
use Rattle.hs_desk.specs.declared.done.Done.{Done}
use Rattle.hs_desk.specs.declared.done.Done.TheVariants as done
use Rattle.hs_desk.specs.declared.job.Job.{Job}
use Rattle.hs_desk.specs.declared.job.Job.TheVariants as job
use Rattle.hs_entry.specs.declared.entry.Entry.{Entry}
use Rattle.hs_events.specs.Due.{is_answer}
use Rattle.hs_events.specs.Whole.{Whole, added_by, adds_after, grown, lists_after, reach, reported, step_whole, taken_report, told_list}
use Rattle.hs_fold.specs.Shards.Setting.{Numbered}
use Rattle.hs_limits.specs.declared.limits.PeerStatus.{PeerStatus}
use Rattle.hs_limits.specs.declared.limits.PeerStatus.TheVariants.{Down, Good, Joining}
use Rattle.hs_members.specs.Members.{home_of}
use Rattle.hs_rejoin.specs.Rejoin.{Rejoin, new_rejoin, next_job}
use Rattle.hs_replica.specs.Group.{Group, entries_above, length_of}
use Rattle.hs_whole_copies.proofs.AddedLemmas.{is_resting}
use Rattle.hs_whole_copies.proofs.AllLemmas.{shape_after}
use Rattle.hs_whole_copies.proofs.ReachLemmas.{copies_not}
use Rattle.hs_whole_copies.proofs.ReportedLemmas.{IsOn, TellsList, reported_on}
use Rattle.hs_whole_copies.specs.Whole.{IsShardInStep, added_to, is_copying, longest}

-- ---- lists

-- a front of a list with the next of it is a front of it
with_next : {X : Type 0} (xs log : List X) → IsFront xs log → IsFront (xs ++ take 1 (drop (length xs) log)) log
with_next [] [] f = tt
with_next [] (l ∷ log) f = (refl, tt)
with_next (x ∷ xs) [] f = absurd f
with_next (x ∷ xs) (l ∷ log) f = (f.0, with_next xs log f.1)

-- ---- of a good peer, and of one that follows, it is a front of the lead's

module _ (g q : ℕ) (c : Core) (s : Copies Entry) (st : IsInStep g c s) (own : IsOf c.members.shape g q) where
  stage_at : (s.peers q).stage ≡ stage_of (status_of q c) (rejoin_at c q).empty
  stage_at = st.stands.peers.stage q (home_of_peer g c s st q own)

  pub good_stage : status_of q c ≡ Good → (s.peers q).stage ≡ GoodStage
  good_stage good = stage_at ∙ ap (λ x. stage_of x (rejoin_at c q).empty) good

  -- a good peer's disk may have no more than its list
  pub good_longest : status_of q c ≡ Good → longest q c s ≡ (s.peers q).list
  good_longest good =
      let idle : is_copying (first_job q c) ≡ false = copies_not g q c s st own (λ j. let wrong : Good ≡ Joining = sym good ∙ j in cc wrong) in
      let added : added_to q c s ≡ [] =
      ap (λ b. if b then take 1 (drop (length (s.peers q).list) s.log) else (s.peers q).adding) idle ∙ (st.stands.faithful.good q (good_stage good)).nothing in
      ap (λ xs. (s.peers q).list ++ xs) added ∙ append-nil (s.peers q).list

  pub good_front : status_of q c ≡ Good → IsFront (longest q c s) s.log
  good_front good = subst (λ xs. IsFront xs s.log) (sym (good_longest good)) (st.stands.faithful.good q (good_stage good)).prefix

  pub following_front : status_of q c ≡ Joining → (rejoin_at c q).empty ≡ false → IsFront (longest q c s) s.log
  following_front joins done = go (is_copying (first_job q c)) refl
    where
      stage : (s.peers q).stage ≡ Following
      stage = stage_at ∙ ap (λ x. stage_of x (rejoin_at c q).empty) joins ∙ ap (λ b. stage_of Joining b) done

      whole : IsFront (machine_reach (s.peers q)) s.log
      whole = (st.stands.faithful.following q stage).0

      own_front : IsFront (s.peers q).list s.log
      own_front = front_trans (s.peers q).list (machine_reach (s.peers q)) s.log (front_append (s.peers q).list (s.peers q).adding) whole

      go : (b : Bool) → is_copying (first_job q c) ≡ b → IsFront (longest q c s) s.log
      go true e = rw e (with_next (s.peers q).list s.log own_front)
      go false e = rw e whole

-- ---- of any other it stays

module _ (g : ℕ) (e : Event) (at : ℕ) (c : Whole) (s : Copies Entry) (k : IsShardInStep g c s) (on : (step e at c.core).ended ≡ None) (t : Copies Entry) (kt : IsShardInStep g (step_whole e at c) t)
    (q : ℕ) (own : IsOf (step e at c.core).members.shape g q) where
  abbrev after : Core
  after = step e at c.core

  own_before : IsOf c.core.members.shape g q
  own_before = ap (λ x. home_of x q) (sym (shape_after e at c.core on)) ∙ own

  st : IsInStep g (step e at c.core) t
  st = kt.in_step

  abbrev Rests : Type 0
  Rests = is_resting (stage_of (status_of q (step e at c.core)) (rejoin_at (step e at c.core) q).empty) ≡ true

  rests_off : Rests → IsOn q (step e at c.core) → ⊥
  rests_off r (inl good) = let wrong : false ≡ true = sym (ap (λ x. is_resting (stage_of x (rejoin_at (step e at c.core) q).empty)) good) ∙ r in cc wrong
  rests_off r (inr f) =
      let wrong : false ≡ true = sym (ap (λ x. is_resting (stage_of x (rejoin_at (step e at c.core) q).empty)) f.0 ∙ ap (λ b. is_resting (stage_of Joining b)) f.1) ∙ r in
      cc wrong

  answered : (d : Done) → is_answer c.core q d ≡ true → (task : Task) × (first_task q c.core ≡ Some task) × (answers q task.job d ≡ true)
  answered d a = go (first_task q c.core) refl
    where
      go : (o : Option Task) → first_task q c.core ≡ o → (task : Task) × (first_task q c.core ≡ Some task) × (answers q task.job d ≡ true)
      go None f = let wrong : false ≡ true = rw f at a in absurd (cc wrong)
      go (Some task) f = (task, f, rw f at a)

  -- its report told of no list
  tells_not : Rests → (d : Done) → e ≡ event.Report q d → is_answer c.core q d ≡ true → TellsList d → ⊥
  tells_not r d i a tells =
      let on_now : (step (event.Report q d) at c.core).ended ≡ None = subst (λ (x : Event). (step x at c.core).ended ≡ None) i on in
      let t = answered d a in
      rests_off r (subst (λ (x : Event). IsOn q (step x at c.core)) (sym i) (reported_on g q d at c.core s k.in_step own_before tells t.0 t.1 t.2 on_now))

  told_whole : Rests → told_list c q (taken_report c.core e) ≡ c.lists q
  told_whole r = go e refl
    where
      by_done : (d : Done) → e ≡ event.Report q d → is_answer c.core q d ≡ true → reported c q d ≡ c.lists q
      by_done (done.Stored number) i a = refl
      by_done (done.Sealed number) i a = refl
      by_done (done.Bytes number bytes) i a = refl
      by_done (done.Gone number) i a = refl
      by_done done.Emptied i a = absurd (tells_not r done.Emptied i a tt)
      by_done (done.Copied number) i a = absurd (tells_not r (done.Copied number) i a tt)
      by_done (done.Stepped switched) i a = refl
      by_done (done.Failed disk) i a = refl

      here : (p : ℕ) (d : Done) → e ≡ event.Report p d → is_answer c.core p d ≡ true → (b : Bool) → (p == q) ≡ b → (if b then reported c q d else c.lists q) ≡ c.lists q
      here p d i a false n = refl
      here p d i a true n =
          let is : p ≡ q = eqb-true p q n in
          by_done d (i ∙ ap (λ x. event.Report x d) is) (ap (λ x. is_answer c.core x d) (sym is) ∙ a)

      taken : (p : ℕ) (d : Done) → e ≡ event.Report p d → (a : Bool) → is_answer c.core p d ≡ a → told_list c q (if a then Some (p, d) else None) ≡ c.lists q
      taken p d i false f = refl
      taken p d i true f = here p d i f (p == q) refl

      go : (x : Event) → e ≡ x → told_list c q (taken_report c.core x) ≡ c.lists q
      go (event.Line line o) i = refl
      go (event.Report p d) i = taken p d i (is_answer c.core p d) refl
      go (event.Turn line p) i = refl
      go (event.Deliver line number) i = refl
      go (event.Lose line number) i = refl
      go (event.Repeat line number) i = refl
      go (event.Nudge line p) i = refl
      go (event.Fail line p) i = refl
      go (event.Start line p) i = refl

  told_machine : Rests → lists_told g e c.core s q ≡ (s.peers q).list
  told_machine r = go e refl
    where
      by_done : (d : Done) → e ≡ event.Report q d → is_answer c.core q d ≡ true → list_by s q d ≡ (s.peers q).list
      by_done (done.Stored number) i a = refl
      by_done (done.Sealed number) i a = refl
      by_done (done.Bytes number bytes) i a = refl
      by_done (done.Gone number) i a = refl
      by_done done.Emptied i a = absurd (tells_not r done.Emptied i a tt)
      by_done (done.Copied number) i a = absurd (tells_not r (done.Copied number) i a tt)
      by_done (done.Stepped switched) i a = refl
      by_done (done.Failed disk) i a = refl

      by_home : (p : ℕ) (d : Done) → e ≡ event.Report p d → (b a : Bool) → is_answer c.core p d ≡ a
          → (if b && a then put_at p (list_by s p d) (λ x. (s.peers x).list) else (λ x. (s.peers x).list)) q ≡ (s.peers q).list
      by_home p d i false a f = refl
      by_home p d i true false f = refl
      by_home p d i true true f = put_cases (λ (l : List (Item Entry)). l ≡ (s.peers q).list) p (list_by s p d) (λ x. (s.peers x).list) q
          (λ is. rw (← is) (by_done d (i ∙ ap (λ x. event.Report x d) (sym is)) (ap (λ x. is_answer c.core x d) is ∙ f)))
          (λ n. refl)

      go : (x : Event) → e ≡ x → lists_told g x c.core s q ≡ (s.peers q).list
      go (event.Line line o) i = refl
      go (event.Turn line p) i = refl
      go (event.Deliver line number) i = refl
      go (event.Lose line number) i = refl
      go (event.Repeat line number) i = refl
      go (event.Nudge line p) i = refl
      go (event.Fail line p) i = refl
      go (event.Start line p) i = refl
      go (event.Report p d) i = by_home p d i (home p c.core == g) (is_answer c.core p d) refl

  -- ---- its own list

  goes : GoesTold g (step e at c.core) s (lists_told g e c.core s)
  goes = steps_tell g e at c.core s k.in_step (was_going e at c.core on) on

  own_long : Rests → length_of (group_of g (step e at c.core)) q ≡ length (c.lists q)
  own_long r = elim (goes.tells.idle q) [
    | inl same ↦
        let copy = goes.keeps.stands.peers.each q (home_of_peer g (step e at c.core) (after_events s goes.events) goes.keeps q own) in
        let stamps = ap (λ (xs : List ℕ). length xs) copy.stamps ∙ length-map ((after_events s goes.events).peers q).list (λ (x : Item Entry). x.view) in
        let list = ap (λ (xs : List (Item Entry)). length xs) (same ∙ told_machine r) in
        stamps ∙ list ∙ sym (numbered_long (s.peers q).list) ∙ ap (λ (xs : Numbered). length xs) (sym (k.lists q own_before))
    | inr good ↦
        let stage = stage_at g q (step e at c.core) (after_events s goes.events) goes.keeps own in
        let wrong : false ≡ true = sym (ap is_resting (sym stage ∙ good)) ∙ r in absurd (cc wrong)
  ]
    where
      long_from : (n : ℕ) (es : List Entry) → length (enumerate_from n es) ≡ length es
      long_from n [] = refl
      long_from n (x ∷ es) = ap (λ m. suc m) (long_from (n + 1) es)

      numbered_long : (xs : List (Item Entry)) → length (numbered xs) ≡ length xs
      numbered_long xs = long_from 1 (map (λ (x : Item Entry). x.what) xs) ∙ length-map xs (λ (x : Item Entry). x.what)

  list_stays : Rests → lists_after e c (step e at c.core) q ≡ c.lists q
  list_stays r =
      let told = told_whole r in
      let group : Group = group_of (home q (step e at c.core)) (step e at c.core) in
      let long : length_of (group_of (home q (step e at c.core)) (step e at c.core)) q ≡ length (c.lists q) = ap (λ x. length_of (group_of x (step e at c.core)) q) own ∙ own_long r in
      ap (λ (xs : Numbered). grown group q xs) told
      ∙ ap (λ n. c.lists q ++ take n (entries_above (length (c.lists q)) group)) (none_left (length_of group q) (length (c.lists q)) long)
      ∙ append-nil (c.lists q)
    where
      none_left : (n m : ℕ) → n ≡ m → n - m ≡ 0
      none_left n m e = omega (arith, e)

  -- ---- what was added behind it

  map_job : (o : Option Job) → option_map (λ (t : Task). t.job) (option_map (λ j. record { job = j; line = 0 }) o) ≡ o
  map_job None = refl
  map_job (Some j) = refl

  lead_now : HasLead (copies_in g st.sent (step e at c.core)) t
  lead_now = stands_lead (copies_in g st.sent (step e at c.core)) t st.stands

  leads_now : lead_of g (step e at c.core) ≡ Some lead_now.peer
  leads_now = lead_in_step g (step e at c.core) t st ∙ lead_now.is

  step_job : (r : Rejoin) → status_of q (step e at c.core) ≡ Joining → rejoin_of q (step e at c.core) ≡ Some r → first_job q (step e at c.core) ≡ next_job (sealed_of lead_now.peer (step e at c.core)) r
  step_job r joins came =
      let leads : lead_of (home q (step e at c.core)) (step e at c.core) ≡ Some lead_now.peer = ap (λ x. lead_of x (step e at c.core)) own ∙ leads_now in
      rw (joins, leads, came) (map_job (next_job (sealed_of lead_now.peer (step e at c.core)) r))

  abbrev Lists : ℕ → Numbered
  Lists = lists_after e c (step e at c.core)

  adds_down : status_of q (step e at c.core) ≡ Down → adds_after c (step e at c.core) Lists q ≡ c.adds q
  adds_down down = ap (λ x. added_by (c.adds q) Lists x (rejoin_of q (step e at c.core)) (first_job q (step e at c.core))) down

  adds_none : status_of q (step e at c.core) ≡ Joining → rejoin_of q (step e at c.core) ≡ None → adds_after c (step e at c.core) Lists q ≡ c.adds q
  adds_none joins came = rw (joins, came) refl

  adds_reset : (r : Rejoin) → status_of q (step e at c.core) ≡ Joining → rejoin_of q (step e at c.core) ≡ Some r → r.empty ≡ true → adds_after c (step e at c.core) Lists q ≡ c.adds q
  adds_reset r joins came due =
      let first : first_job q (step e at c.core) ≡ Some job.Reset = step_job r joins came ∙ rw due refl in
      ap (λ x. added_by (c.adds q) Lists x (rejoin_of q (step e at c.core)) (first_job q (step e at c.core))) joins
      ∙ ap (λ x. added_by (c.adds q) Lists Joining x (first_job q (step e at c.core))) came
      ∙ ap (λ x. added_by (c.adds q) Lists Joining (Some r) x) first

  -- ---- both

  rests_same : Rests → adds_after c (step e at c.core) Lists q ≡ c.adds q → reach (step_whole e at c) q ≡ reach c q
  rests_same r adds = ap (λ (xs : Numbered). xs ++ adds_after c (step e at c.core) Lists q) (list_stays r) ∙ ap (λ (xs : Numbered). c.lists q ++ xs) adds

  pub reach_now : IsFront (longest q (step e at c.core) t) t.log ⊎ (reach (step_whole e at c) q ≡ reach c q)
  reach_now = by_status (status_of q (step e at c.core)) refl
    where
      at_is : (o : Option Rejoin) → rejoin_of q (step e at c.core) ≡ o → rejoin_at (step e at c.core) q ≡ unwrap_or o (new_rejoin 0)
      at_is o came = ap (λ x. unwrap_or x (new_rejoin 0)) came

      rests_joining : status_of q (step e at c.core) ≡ Joining → (rejoin_at (step e at c.core) q).empty ≡ true → Rests
      rests_joining joins due = ap (λ x. is_resting (stage_of x (rejoin_at (step e at c.core) q).empty)) joins ∙ ap (λ b. is_resting (stage_of Joining b)) due

      by_empty : (r : Rejoin) → status_of q (step e at c.core) ≡ Joining → rejoin_of q (step e at c.core) ≡ Some r → (b : Bool) → r.empty ≡ b → IsFront (longest q (step e at c.core) t) t.log ⊎ (reach (step_whole e at c) q ≡ reach c q)
      by_empty r joins came false over = inl (following_front g q (step e at c.core) t st own joins (ap (λ (x : Rejoin). x.empty) (at_is (Some r) came) ∙ over))
      by_empty r joins came true due = inr (rests_same (rests_joining joins (ap (λ (x : Rejoin). x.empty) (at_is (Some r) came) ∙ due)) (adds_reset r joins came due))

      by_rejoin : status_of q (step e at c.core) ≡ Joining → (o : Option Rejoin) → rejoin_of q (step e at c.core) ≡ o → IsFront (longest q (step e at c.core) t) t.log ⊎ (reach (step_whole e at c) q ≡ reach c q)
      by_rejoin joins (Some r) came = by_empty r joins came r.empty refl
      by_rejoin joins None came = inr (rests_same (rests_joining joins (ap (λ (x : Rejoin). x.empty) (at_is None came))) (adds_none joins came))

      by_status : (x : PeerStatus) → status_of q (step e at c.core) ≡ x → IsFront (longest q (step e at c.core) t) t.log ⊎ (reach (step_whole e at c) q ≡ reach c q)
      by_status Good good = inl (good_front g q (step e at c.core) t st own good)
      by_status Joining joins = by_rejoin joins (rejoin_of q (step e at c.core)) refl
      by_status Down down = inr (rests_same (ap (λ x. is_resting (stage_of x (rejoin_at (step e at c.core) q).empty)) down) (adds_down down))
