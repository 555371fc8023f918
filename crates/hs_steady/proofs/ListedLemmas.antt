-- What an event makes of a peer's list: what its report tells of it, and what has come behind; and what a disk may have behind that.
use Rattle.std.proofs.Common.{◌≡◌, ◌≢◌, ◌⊎◌, ◌∙◌, ap, sym, refl, inl, inr, ℕ, ◌-◌, ◌==◌, ◌&&◌, eqb-true, Bool, true, false, if◌then◌else◌, List, [], ◌++◌, Option, Some, None, length, map, arith}
use Rattle.std.proofs.lemmas.List.{append-nil, length-map}
use Rattle.std.proofs.lemmas.List.FromFn.{length-enumerate_from}
use Rattle.std.specs.Option.{option_map, option_map_or}
use Rattle.std.specs.Prelude.{drop, take, unwrap_or}
use Rattle.hs_copies.proofs.NewViewLemmas.{good_status}
use Rattle.hs_copies.proofs.PeerLemmas.{put_cases}
use Rattle.hs_copies.proofs.StandLemmas.{HasLead, length_is, stage_good, stands_lead}
use Rattle.hs_copies.specs.Lists.{Item}
use Rattle.hs_copies.specs.Machine.{Copies, Good as GoodStage, after_events, put_at}
use Rattle.hs_copies.specs.Standing.{is_good_stage}
use Rattle.hs_core_copies.proofs.BesideLemmas.{home_of_peer}
use Rattle.hs_core_copies.proofs.GoingLemmas.{GoesTold}
use Rattle.hs_core_copies.proofs.LeadLemmas.{good_only}
use Rattle.hs_core_copies.proofs.ReportLemmas.{same_number}
use Rattle.hs_core_copies.proofs.StepLemmas.{lead_in_step}
use Rattle.hs_core_copies.proofs.StepsLemmas.{steps_tell, was_going}
use Rattle.hs_core_copies.specs.InStep.{IsOf, copies_in, rejoin_at}
use Rattle.hs_core_copies.specs.Lists.{list_by, lists_told, numbered}
use Rattle.hs_core_words.specs.declared.task.Task.{Task}
use Rattle.hs_core_words.specs.declared.event.Event.{Event}
use Rattle.hs_core_words.specs.declared.event.Event.TheVariants as event
use Rattle.hs_core_words.specs.Looking.{first_job, group_of, home, lead_of, rejoin_of, sealed_of, status_of}
use Rattle.hs_core_words.specs.State.{Core}
use Rattle.hs_core_words.specs.Step.{step}
use Rattle.hs_desk.specs.Answers.{answers}
use Rattle.hs_desk.specs.declared.done.Done.{Done}
use Rattle.hs_desk.specs.declared.done.Done.TheVariants as done
use Rattle.hs_desk.specs.declared.job.Job.{Job}
use Rattle.hs_desk.specs.declared.job.Job.TheVariants as job
use Rattle.hs_entry.specs.declared.entry.Entry.{Entry}
use Rattle.hs_events.specs.Due.{is_answer}
use Rattle.hs_events.specs.Whole.{Whole, added_by, grown, reach, reported, step_whole, taken_report, told_list}
use Rattle.hs_fold.specs.Shards.Setting.{Numbered}
use Rattle.hs_limits.specs.declared.limits.PeerStatus.{PeerStatus}
use Rattle.hs_limits.specs.declared.limits.PeerStatus.TheVariants.{Down, Good, Joining}
use Rattle.hs_members.specs.Members.{is_good_status}
use Rattle.hs_moments.specs.WholeMachine.{IsFrontOf}
use Rattle.hs_rejoin.specs.Rejoin.{Rejoin, new_rejoin, next_job}
use Rattle.hs_replica.specs.Group.{Group, entries_above, length_of}
use Rattle.hs_whole_copies.proofs.ReportedLemmas.{IsOn}
use Rattle.hs_whole_copies.specs.Whole.{IsShardInStep, is_copying, longest}

-- ---- who reports

-- nothing is told of a peer by an event
abbrev pub IsUntold : ℕ → Event → Core → Type 0
IsUntold q e c = (d : Done) → taken_report c e ≢ Some (q, d)

pub none_taken : (q : ℕ) (e : Event) (c : Core) → IsUntold q e c → (d : Done) → e ≡ event.Report q d → is_answer c q d ≡ true → ⊥
none_taken q e c n d is a = n d (ap (taken_report c) is ∙ ap (λ b. if b then Some (q, d) else None) a)

pub record IsReport (q : ℕ) (d : Done) (e : Event) (c : Core) : Type 0 where
  pub is : e ≡ event.Report q d
  pub answer : is_answer c q d ≡ true

pub report_is : (q : ℕ) (d : Done) (e : Event) (c : Core) → taken_report c e ≡ Some (q, d) → IsReport q d e c
report_is q d (event.Line line o) c t = let wrong : None ≡ Some (q, d) = t in absurd (cc wrong)
report_is q d (event.Turn line p) c t = let wrong : None ≡ Some (q, d) = t in absurd (cc wrong)
report_is q d (event.Deliver line number) c t = let wrong : None ≡ Some (q, d) = t in absurd (cc wrong)
report_is q d (event.Lose line number) c t = let wrong : None ≡ Some (q, d) = t in absurd (cc wrong)
report_is q d (event.Repeat line number) c t = let wrong : None ≡ Some (q, d) = t in absurd (cc wrong)
report_is q d (event.Nudge line p) c t = let wrong : None ≡ Some (q, d) = t in absurd (cc wrong)
report_is q d (event.Fail line p) c t = let wrong : None ≡ Some (q, d) = t in absurd (cc wrong)
report_is q d (event.Start line p) c t = let wrong : None ≡ Some (q, d) = t in absurd (cc wrong)
report_is q d (event.Report p x) c t = go (is_answer c p x) refl t
  where
    go : (b : Bool) → is_answer c p x ≡ b → if◌then◌else◌ {A = Option (ℕ × Done)} b (Some (p, x)) None ≡ Some (q, d) → IsReport q d (event.Report p x) c
    go false a h = let wrong : None ≡ Some (q, d) = h in absurd (cc wrong)
    go true a h =
        let pair : (p, x) ≡ (q, d) = cc h in
        let peer : p ≡ q = ap (λ (y : ℕ × Done). y.0) pair in
        let told : x ≡ d = ap (λ (y : ℕ × Done). y.1) pair in
        record { is = ap (λ i. event.Report i x) peer ∙ ap (event.Report q) told; answer = ap (λ y. is_answer c q y) (sym told) ∙ ap (λ i. is_answer c i x) (sym peer) ∙ a }

-- ---- what is told of a list

pub list_untold : (q : ℕ) (e : Event) (c : Whole) → IsUntold q e c.core → told_list c q (taken_report c.core e) ≡ c.lists q
list_untold q e c n = go (taken_report c.core e) refl
  where
    go : (o : Option (ℕ × Done)) → taken_report c.core e ≡ o → told_list c q o ≡ c.lists q
    go None t = refl
    go (Some r) t = by (r.0 == q) refl
      where
        by : (b : Bool) → (r.0 == q) ≡ b → (if b then reported c q r.1 else c.lists q) ≡ c.lists q
        by false f = refl
        by true f = absurd (n r.1 (t ∙ ap (λ i. Some (i, r.1)) (eqb-true r.0 q f)))

pub list_told : (q : ℕ) (d : Done) (e : Event) (c : Whole) → taken_report c.core e ≡ Some (q, d) → told_list c q (taken_report c.core e) ≡ reported c q d
list_told q d e c t = ap (told_list c q) t ∙ ap (λ b. if b then reported c q d else c.lists q) (same_number q)

numbered_long : (xs : List (Item Entry)) → length (numbered xs) ≡ length xs
numbered_long xs = length-enumerate_from 1 (map (λ (x : Item Entry). x.what) xs) ∙ length-map xs (λ (x : Item Entry). x.what)

copy_answered : (o : Option Job) (n p : ℕ) → option_map_or (λ j. answers p j (done.Copied n)) o false ≡ true → is_copying o ≡ true
copy_answered None n p e = e
copy_answered (Some (job.Append number entry)) n p e = e
copy_answered (Some (job.Seal number)) n p e = e
copy_answered (Some (job.Read number)) n p e = e
copy_answered (Some job.Reset) n p e = e
copy_answered (Some (job.Copy from number)) n p e = refl
copy_answered (Some job.Reclaim) n p e = e

module _ (g q : ℕ) (e : Event) (c : Whole) (s : Copies Entry) (k : IsShardInStep g c s) (own : IsOf c.core.members.shape g q) where
  long_list : length (c.lists q) ≡ length (s.peers q).list
  long_list = ap (λ (xs : Numbered). length xs) (k.lists q own) ∙ numbered_long (s.peers q).list

  -- as long as the machine's
  long_done : (d : Done) → is_answer c.core q d ≡ true → length (reported c q d) ≡ length (list_by s q d)
  long_done (done.Stored number) a = long_list
  long_done (done.Sealed number) a = long_list
  long_done (done.Bytes number bytes) a = long_list
  long_done (done.Gone number) a = long_list
  long_done done.Emptied a = refl
  long_done (done.Copied number) a =
      ap (λ (xs : Numbered). length xs) (k.reaches q own) ∙ numbered_long (longest q c.core s)
      ∙ ap (λ b. length ((s.peers q).list ++ (if b then take 1 (drop (length (s.peers q).list) s.log) else (s.peers q).adding))) (copy_answered (first_job q c.core) number q a)
  long_done (done.Stepped switched) a = long_list
  long_done (done.Failed disk) a = long_list

  long_told : length (told_list c q (taken_report c.core e)) ≡ length (lists_told g e c.core s q)
  long_told = go e
    where
      go : (x : Event) → length (told_list c q (taken_report c.core x)) ≡ length (lists_told g x c.core s q)
      go (event.Line line o) = long_list
      go (event.Turn line p) = long_list
      go (event.Deliver line number) = long_list
      go (event.Lose line number) = long_list
      go (event.Repeat line number) = long_list
      go (event.Nudge line p) = long_list
      go (event.Fail line p) = long_list
      go (event.Start line p) = long_list
      go (event.Report p d) = by (home p c.core == g) refl (is_answer c.core p d) refl
        where
          here : q ≡ p → is_answer c.core p d ≡ true → length (if p == q then reported c q d else c.lists q) ≡ length (list_by s p d)
          here f a =
              ap (λ b. length (if b then reported c q d else c.lists q)) (ap (λ j. j == q) (sym f) ∙ same_number q) ∙ long_done d (ap (λ j. is_answer c.core j d) f ∙ a) ∙ ap (λ j. length (list_by s j d)) f

          apart : q ≢ p → length (if p == q then reported c q d else c.lists q) ≡ length (s.peers q).list
          apart n = other (p == q) refl
            where
              other : (b : Bool) → (p == q) ≡ b → length (if b then reported c q d else c.lists q) ≡ length (s.peers q).list
              other true f = absurd (n (sym (eqb-true p q f)))
              other false f = long_list

          by : (a : Bool) → (home p c.core == g) ≡ a → (b : Bool) → is_answer c.core p d ≡ b
              → length (told_list c q (if b then Some (p, d) else None)) ≡ length ((if a && b then put_at p (list_by s p d) (λ r. (s.peers r).list) else (λ r. (s.peers r).list)) q)
          by true f false j = long_list
          by false f false j = long_list
          by true f true j = put_cases (λ (l : List (Item Entry)). length (if p == q then reported c q d else c.lists q) ≡ length l) p (list_by s p d) (λ r. (s.peers r).list) q (λ same. here same j) apart
          by false f true j = apart (λ same. let wrong : true ≡ false = sym (same_number g) ∙ ap (λ x. x == g) (sym own ∙ ap (λ x. home x c.core) same) ∙ f in cc wrong)

-- ---- behind the event

-- what is added behind the list of one that is not good, and does not follow
pub adds_off : (c : Whole) (after : Core) (lists : ℕ → Numbered) (q : ℕ) → (IsOn q after → ⊥) → ((r : Rejoin) → status_of q after ≡ Joining → rejoin_of q after ≡ Some r → r.empty ≡ true → first_job q after ≡ Some job.Reset)
    → added_by (c.adds q) lists (status_of q after) (rejoin_of q after) (first_job q after) ≡ c.adds q
adds_off c after lists q off due = by_status (status_of q after) refl
  where
    by_empty : status_of q after ≡ Joining → (r : Rejoin) → rejoin_of q after ≡ Some r → (b : Bool) → r.empty ≡ b → added_by (c.adds q) lists (status_of q after) (rejoin_of q after) (first_job q after) ≡ c.adds q
    by_empty joins r came true e =
        ap (λ x. added_by (c.adds q) lists x (rejoin_of q after) (first_job q after)) joins
        ∙ ap (λ x. added_by (c.adds q) lists Joining x (first_job q after)) came
        ∙ ap (λ x. added_by (c.adds q) lists Joining (Some r) x) (due r joins came e)
    by_empty joins r came false e = absurd (off (inr (joins, ap (λ (o : Option Rejoin). (unwrap_or o (new_rejoin 0)).empty) came ∙ e)))

    by_rejoin : status_of q after ≡ Joining → (o : Option Rejoin) → rejoin_of q after ≡ o → added_by (c.adds q) lists (status_of q after) (rejoin_of q after) (first_job q after) ≡ c.adds q
    by_rejoin joins None came = ap (λ x. added_by (c.adds q) lists x (rejoin_of q after) (first_job q after)) joins ∙ ap (λ x. added_by (c.adds q) lists Joining x (first_job q after)) came
    by_rejoin joins (Some r) came = by_empty joins r came r.empty refl

    by_status : (x : PeerStatus) → status_of q after ≡ x → added_by (c.adds q) lists (status_of q after) (rejoin_of q after) (first_job q after) ≡ c.adds q
    by_status Good e = absurd (off (inl e))
    by_status Down e = ap (λ x. added_by (c.adds q) lists x (rejoin_of q after) (first_job q after)) e
    by_status Joining e = by_rejoin e (rejoin_of q after) refl

pub map_job : (o : Option Job) → option_map (λ (t : Task). t.job) (option_map (λ j. record { job = j; line = 0 }) o) ≡ o
map_job None = refl
map_job (Some j) = refl

pub next_reset : (n : ℕ) (r : Rejoin) → r.empty ≡ true → next_job n r ≡ Some job.Reset
next_reset n r due = rw due refl

-- an emptying that is due comes first
reset_first : (g q : ℕ) (c : Whole) (s : Copies Entry) → IsShardInStep g c s → IsOf c.core.members.shape g q → (r : Rejoin) → status_of q c.core ≡ Joining → rejoin_of q c.core ≡ Some r → r.empty ≡ true → first_job q c.core ≡ Some job.Reset
reset_first g q c s k own r joins came due =
    let d : HasLead (copies_in g k.in_step.sent c.core) s = stands_lead (copies_in g k.in_step.sent c.core) s k.in_step.stands in
    let leads : lead_of (home q c.core) c.core ≡ Some d.peer = ap (λ x. lead_of x c.core) own ∙ lead_in_step g c.core s k.in_step ∙ d.is in
    rw (joins, leads, came) (map_job (next_job (sealed_of d.peer c.core) r)) ∙ next_reset (sealed_of d.peer c.core) r due

module _ (g q : ℕ) (e : Event) (at : ℕ) (c : Whole) (s t : Copies Entry) (k : IsShardInStep g c s) (own : IsOf c.core.members.shape g q) (on : (step e at c.core).ended ≡ None)
    (k' : IsShardInStep g (step_whole e at c) t) (own' : IsOf (step e at c.core).members.shape g q) where
  abbrev new : Whole
  new = step_whole e at c

  -- what is told of it stands at its front
  pub front_told : (xs : Numbered) → told_list c q (taken_report c.core e) ≡ xs → (more : Numbered) × ((step_whole e at c).lists q ≡ xs ++ more)
  front_told xs is =
      let x : Group = group_of (home q (step e at c.core)) (step e at c.core) in
      (take (length_of x q - length xs) (entries_above (length xs) x), ap (grown x q) is)

  -- and is all of it, where it is not good
  pub all_told : status_of q (step e at c.core) ≢ Good → (xs : Numbered) → told_list c q (taken_report c.core e) ≡ xs → (step_whole e at c).lists q ≡ xs
  all_told bad xs is =
      let x : Group = group_of (home q (step e at c.core)) (step e at c.core) in
      let none : length_of x q - length xs ≡ 0 = omega (arith, short) in
      ap (grown x q) is ∙ ap (λ n. xs ++ take n (entries_above (length xs) x)) none ∙ append-nil xs
    where
      goes : GoesTold g (step e at c.core) s (lists_told g e c.core s)
      goes = steps_tell g e at c.core s k.in_step (was_going e at c.core on) on

      idle : (((after_events s goes.events).peers q).list ≡ lists_told g e c.core s q) ⊎ (((after_events s goes.events).peers q).stage ≡ GoodStage) → ((after_events s goes.events).peers q).list ≡ lists_told g e c.core s q
      idle (inl same) = same
      idle (inr good) =
          let now : Copies Entry = after_events s goes.events in
          let stage : is_good_stage (now.peers q).stage ≡ is_good_status (status_of q (step e at c.core)) =
          ap is_good_stage (goes.keeps.stands.peers.stage q (home_of_peer g (step e at c.core) now goes.keeps q own')) ∙ good_status (status_of q (step e at c.core)) (rejoin_at (step e at c.core) q).empty in
          absurd (bad (good_only (status_of q (step e at c.core)) (sym stage ∙ stage_good (now.peers q).stage good)))

      short : length_of (group_of (home q (step e at c.core)) (step e at c.core)) q ≡ length xs
      short =
          let now : Copies Entry = after_events s goes.events in
          ap (λ i. length_of (group_of i (step e at c.core)) q) own' ∙ length_is (copies_in g goes.keeps.sent (step e at c.core)) now goes.keeps.stands q (home_of_peer g (step e at c.core) now goes.keeps q own')
          ∙ ap (λ (l : List (Item Entry)). length l) (idle (goes.tells.idle q)) ∙ sym (long_told g q e c s k own) ∙ ap (λ (l : Numbered). length l) is

  -- where its log is told of no more, what began its list does still
  pub begins_off : told_list c q (taken_report c.core e) ≡ c.lists q → (IsOn q (step e at c.core) → ⊥) → IsFrontOf q (reach c q) (reach (step_whole e at c) q)
  begins_off is off =
      let lists : (step_whole e at c).lists q ≡ c.lists q = all_told (λ good. off (inl good)) (c.lists q) is in
      let adds : (step_whole e at c).adds q ≡ c.adds q = adds_off c (step e at c.core) (step_whole e at c).lists q off (reset_first g q (step_whole e at c) t k' own') in
      ([], ap (λ xs. xs ++ (step_whole e at c).adds q) lists ∙ ap (λ xs. c.lists q ++ xs) adds ∙ sym (append-nil (reach c q)))
