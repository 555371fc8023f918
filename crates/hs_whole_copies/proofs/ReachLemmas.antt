-- A shard's whole lists stay those of a machine behind an event.
use Rattle.std.proofs.Common.{◌≡◌, ◌≢◌, ◌⊎◌, ◌∙◌, ap, sym, subst, refl, inl, inr, arith, ℕ, zero, suc, ◌+◌, ◌-◌, ◌*◌, ◌<◌, ◌≤◌, ◌==◌, ◌&&◌, nat_lt, eqb-true, Bool, true, false, if◌then◌else◌, List, [], ◌∷◌, ◌++◌, Option, Some, None, length, map}
use Rattle.std.proofs.lemmas.List.{length-map, map-append}
use Rattle.std.proofs.lemmas.List.Elements.{All-cons, All-head, All-nil, All-tail}
use Rattle.std.specs.List.{All, enumerate_from}
use Rattle.std.specs.Option.{option_map, option_map_or}
use Rattle.std.specs.Prelude.{drop, take, unwrap_or}
use Rattle.hs_copies.proofs.ListLemmas.{front_append, front_refl, front_trans}
use Rattle.hs_copies.proofs.PeerLemmas.{put_cases, put_other}
use Rattle.hs_copies.proofs.StandLemmas.{HasLead, stands_lead}
use Rattle.hs_copies.specs.Invariant.{reach}
use Rattle.hs_copies.specs.Lists.{IsFront, Item}
use Rattle.hs_copies.specs.Machine.{Clearing, Copies, Down as DownStage, Following, Good as GoodStage, PeerCopy, Stage, after_events, put_at}
use Rattle.hs_copies.specs.Standing.{stage_of}
use Rattle.hs_core_copies.proofs.BesideLemmas.{home_of_peer}
use Rattle.hs_core_copies.proofs.GoingLemmas.{GoesTold}
use Rattle.hs_core_copies.proofs.LeadLemmas.{lead_is}
use Rattle.hs_core_copies.proofs.ListsLemmas.{all_held, told_lists}
use Rattle.hs_core_copies.proofs.NextLemmas.{first_is_next, map_take}
use Rattle.hs_core_copies.proofs.ReportLemmas.{same_number}
use Rattle.hs_core_copies.proofs.RunLemmas.{effects_stay}
use Rattle.hs_core_copies.proofs.SettledRunLemmas.{settled_by}
use Rattle.hs_core_copies.proofs.StepLemmas.{has_peer, lead_in_step}
use Rattle.hs_core_copies.proofs.StepsLemmas.{steps_tell, was_going}
use Rattle.hs_core_copies.proofs.UnsealedLemmas.{numbered_append, numbered_drop, numbered_take}
use Rattle.hs_core_copies.specs.InStep.{IsInStep, IsOf, copies_in, rejoin_at}
use Rattle.hs_core_copies.specs.Lists.{AreHeld, list_by, lists_told, numbered}
use Rattle.hs_core_words.specs.declared.task.Task.{Task}
use Rattle.hs_core_words.specs.declared.event.Event.{Event}
use Rattle.hs_core_words.specs.declared.event.Event.TheVariants as event
use Rattle.hs_core_words.specs.Looking.{first_job, first_task, group_of, home, lead_of, rejoin_of, sealed_of, status_of}
use Rattle.hs_core_words.specs.State.{Core}
use Rattle.hs_core_words.specs.Step.{step}
use Rattle.hs_desk.specs.Answers.{answers}
use Rattle.hs_desk.specs.declared.done.Done.{Done}
use Rattle.hs_desk.specs.declared.done.Done.TheVariants as done
use Rattle.hs_desk.specs.declared.job.Job.{Job}
use Rattle.hs_desk.specs.declared.job.Job.TheVariants as job
use Rattle.hs_entry.specs.declared.entry.Entry.{Entry}
use Rattle.hs_entry.specs.Entries.{is_of_base}
use Rattle.hs_events.specs.Due.{is_answer}
use Rattle.hs_fold.specs.Shards.Setting.{Numbered}
use Rattle.hs_events.specs.Whole.{Whole, added_by, adds_after, grown, lists_after, reported, step_whole, taken_report, told_list}
use Rattle.hs_limits.specs.declared.limits.PeerStatus.{PeerStatus}
use Rattle.hs_limits.specs.declared.limits.PeerStatus.TheVariants.{Down, Good, Joining}
use Rattle.hs_limits.specs.declared.shape.Shape.{Shape}
use Rattle.hs_members.specs.Members.{home_of}
use Rattle.hs_rejoin.specs.Rejoin.{Rejoin, new_rejoin, next_job}
use Rattle.hs_replica.specs.Group.{Group, IsHome, entries_above, length_of}
use Rattle.hs_whole_copies.proofs.AddedLemmas.{IsSameCopy, IsTakenFrom, is_resting, kept_cases, kept_taken, more_cases, more_put, more_taken, front_rest, same_copy, stands_from, with_kept, with_more}
use Rattle.hs_whole_copies.proofs.PlainLemmas.{plain_take}
use Rattle.hs_whole_copies.proofs.ReportedLemmas.{IsOn, TellsList, reported_on}
use Rattle.hs_whole_copies.proofs.StoodLemmas.{stood}
use Rattle.hs_whole_copies.specs.Whole.{ArePlain, FollowsLead, IsShardInStep, StaysInStep, added_to, is_copying, longest}

-- ---- jobs that copy

pub copying_is : (o : Option Job) → is_copying o ≡ true → (from : ℕ) × ((number : ℕ) × (o ≡ Some (job.Copy from number)))
copying_is None e = let wrong : false ≡ true = e in absurd (cc wrong)
copying_is (Some (job.Append number entry)) e = let wrong : false ≡ true = e in absurd (cc wrong)
copying_is (Some (job.Seal number)) e = let wrong : false ≡ true = e in absurd (cc wrong)
copying_is (Some (job.Read number)) e = let wrong : false ≡ true = e in absurd (cc wrong)
copying_is (Some job.Reset) e = let wrong : false ≡ true = e in absurd (cc wrong)
copying_is (Some (job.Copy from number)) e = (from, (number, refl))
copying_is (Some job.Reclaim) e = let wrong : false ≡ true = e in absurd (cc wrong)

-- who copies joins
copies_joins : (g q : ℕ) (c : Core) (s : Copies Entry) → IsInStep g c s → IsOf c.members.shape g q → is_copying (first_job q c) ≡ true → status_of q c ≡ Joining
copies_joins g q c s st own e =
    let k = copying_is (first_job q c) e in
    (first_is_next g q c s (job.Copy k.0 k.1.0) st own k.1.1).joins

pub copies_not : (g q : ℕ) (c : Core) (s : Copies Entry) → IsInStep g c s → IsOf c.members.shape g q → status_of q c ≢ Joining → is_copying (first_job q c) ≡ false
copies_not g q c s st own n = go (is_copying (first_job q c)) refl
  where
    go : (b : Bool) → is_copying (first_job q c) ≡ b → is_copying (first_job q c) ≡ false
    go true e = absurd (n (copies_joins g q c s st own e))
    go false e = e

-- ---- lists

abbrev what : Item Entry → Entry
what x = x.what

numbered_more : (xs ys : List (Item Entry)) → numbered (xs ++ ys) ≡ numbered xs ++ enumerate_from (1 + length xs) (map what ys)
numbered_more xs ys =
    ap (enumerate_from 1) (map-append what xs ys) ∙ numbered_append 1 (map what xs) (map what ys) ∙ ap (λ k. numbered xs ++ enumerate_from (1 + k) (map what ys)) (length-map xs what)

-- the next of a list, with its number
next_numbered : (k : ℕ) (log : List (Item Entry)) → take 1 (drop k (numbered log)) ≡ enumerate_from (1 + k) (map what (take 1 (drop k log)))
next_numbered k log =
    ap (take 1) (numbered_drop k 1 (map what log)) ∙ numbered_take 1 (1 + k) (drop k (map what log))
    ∙ ap (λ es. enumerate_from (1 + k) (take 1 es)) (map_drop k log) ∙ ap (enumerate_from (1 + k)) (map_take what 1 (drop k log))
  where
    map_drop : (n : ℕ) (xs : List (Item Entry)) → drop n (map what xs) ≡ map what (drop n xs)
    map_drop zero xs = refl
    map_drop (suc n) [] = refl
    map_drop (suc n) (x ∷ xs) = map_drop n xs

front_next : {X : Type 0} (n : ℕ) (xs ys : List X) → IsFront xs ys → IsFront (xs ++ take n (drop (length xs) ys)) ys
front_next zero [] ys f = tt
front_next (suc n) [] [] f = tt
front_next (suc n) [] (y ∷ ys) f = (refl, front_next n [] ys tt)
front_next n (x ∷ xs) [] f = absurd f
front_next n (x ∷ xs) (y ∷ ys) f = (f.0, front_next n xs ys f.1)

-- the longest list that a disk may have is a front of one of the machine's
pub longest_front : (g q : ℕ) (c : Core) (s : Copies Entry) → IsInStep g c s → IsOf c.members.shape g q → (y : ℕ) × IsFront (longest q c s) (reach (s.peers y))
longest_front g q c s st own = go (is_copying (first_job q c)) refl
  where
    go : (b : Bool) → is_copying (first_job q c) ≡ b → (y : ℕ) × IsFront (longest q c s) (reach (s.peers y))
    go false e = (q, rw e (front_refl (reach (s.peers q))))
    go true e =
        let k = copying_is (first_job q c) e in
        let next = first_is_next g q c s (job.Copy k.0 k.1.0) st own k.1.1 in
        let r = st.stands.faithful in
        let front : IsFront (s.peers q).list s.log = front_trans (s.peers q).list (reach (s.peers q)) s.log (front_append (s.peers q).list (s.peers q).adding) (r.following q next.follows).0 in
        let led : IsFront s.log (reach (s.peers r.led.0)) = subst (λ (xs : List (Item Entry)). IsFront xs (reach (s.peers r.led.0))) r.led.2 (front_append (s.peers r.led.0).list (s.peers r.led.0).adding) in
        (r.led.0, rw e (front_trans ((s.peers q).list ++ take 1 (drop (length (s.peers q).list) s.log)) s.log (reach (s.peers r.led.0)) (front_next 1 (s.peers q).list s.log front) led))

-- ---- lists without a Base

pub fine_numbered : (n : ℕ) (xs : List Entry) → ArePlain xs → All (λ x. is_of_base x.1 ≡ false) (enumerate_from n xs)
fine_numbered n [] h = All-nil (λ (x : ℕ × Entry). is_of_base x.1 ≡ false)
fine_numbered n (x ∷ xs) h =
    All-cons (λ (y : ℕ × Entry). is_of_base y.1 ≡ false) (n, x) (enumerate_from (n + 1) xs) (All-head (λ y. is_of_base y ≡ false) x xs h) (fine_numbered (n + 1) xs (All-tail (λ y. is_of_base y ≡ false) x xs h))

pub plain_items : (n : ℕ) (xs : List Entry) → All (λ x. is_of_base x.1 ≡ false) (enumerate_from n xs) → ArePlain xs
plain_items n [] h = All-nil (λ x. is_of_base x ≡ false)
plain_items n (x ∷ xs) h =
    All-cons (λ y. is_of_base y ≡ false) x xs (All-head (λ (y : ℕ × Entry). is_of_base y.1 ≡ false) (n, x) (enumerate_from (n + 1) xs) h)
    (plain_items (n + 1) xs (All-tail (λ (y : ℕ × Entry). is_of_base y.1 ≡ false) (n, x) (enumerate_from (n + 1) xs) h))

pub fine_both : (xs ys : Numbered) → All (λ x. is_of_base x.1 ≡ false) xs → All (λ x. is_of_base x.1 ≡ false) ys → All (λ x. is_of_base x.1 ≡ false) (xs ++ ys)
fine_both [] ys h k = k
fine_both (x ∷ xs) ys h k =
    All-cons (λ (y : ℕ × Entry). is_of_base y.1 ≡ false) x (xs ++ ys) (All-head (λ (y : ℕ × Entry). is_of_base y.1 ≡ false) x xs h) (fine_both xs ys (All-tail (λ (y : ℕ × Entry). is_of_base y.1 ≡ false) x xs h) k)

fine_left : (xs ys : Numbered) → All (λ x. is_of_base x.1 ≡ false) (xs ++ ys) → All (λ x. is_of_base x.1 ≡ false) xs
fine_left [] ys h = All-nil (λ (x : ℕ × Entry). is_of_base x.1 ≡ false)
fine_left (x ∷ xs) ys h =
    All-cons (λ (y : ℕ × Entry). is_of_base y.1 ≡ false) x xs (All-head (λ (y : ℕ × Entry). is_of_base y.1 ≡ false) x (xs ++ ys) h) (fine_left xs ys (All-tail (λ (y : ℕ × Entry). is_of_base y.1 ≡ false) x (xs ++ ys) h))

pub fine_take : (n : ℕ) (xs : Numbered) → All (λ x. is_of_base x.1 ≡ false) xs → All (λ x. is_of_base x.1 ≡ false) (take n xs)
fine_take zero xs h = All-nil (λ (x : ℕ × Entry). is_of_base x.1 ≡ false)
fine_take (suc n) [] h = h
fine_take (suc n) (x ∷ xs) h =
    All-cons (λ (y : ℕ × Entry). is_of_base y.1 ≡ false) x (take n xs) (All-head (λ (y : ℕ × Entry). is_of_base y.1 ≡ false) x xs h) (fine_take n xs (All-tail (λ (y : ℕ × Entry). is_of_base y.1 ≡ false) x xs h))

pub fine_drop : (n : ℕ) (xs : Numbered) → All (λ x. is_of_base x.1 ≡ false) xs → All (λ x. is_of_base x.1 ≡ false) (drop n xs)
fine_drop zero xs h = h
fine_drop (suc n) [] h = h
fine_drop (suc n) (x ∷ xs) h = fine_drop n xs (All-tail (λ (y : ℕ × Entry). is_of_base y.1 ≡ false) x xs h)

plain_both : (xs ys : List Entry) → ArePlain xs → ArePlain ys → ArePlain (xs ++ ys)
plain_both [] ys h k = k
plain_both (x ∷ xs) ys h k = All-cons (λ y. is_of_base y ≡ false) x (xs ++ ys) (All-head (λ y. is_of_base y ≡ false) x xs h) (plain_both xs ys (All-tail (λ y. is_of_base y ≡ false) x xs h) k)

plain_right : (xs ys : List (Item Entry)) → ArePlain (map what (xs ++ ys)) → ArePlain (map what ys)
plain_right [] ys h = h
plain_right (x ∷ xs) ys h = plain_right xs ys (All-tail (λ y. is_of_base y ≡ false) x.what (map what (xs ++ ys)) h)

plain_dropped : (n : ℕ) (xs : List (Item Entry)) → ArePlain (map what xs) → ArePlain (map what (drop n xs))
plain_dropped zero xs h = h
plain_dropped (suc n) [] h = h
plain_dropped (suc n) (x ∷ xs) h = plain_dropped n xs (All-tail (λ y. is_of_base y ≡ false) x.what (map what xs) h)

-- ---- beside the lists that disks may have

abbrev beyond : Core → ℕ
beyond c = c.members.shape.shards * c.members.shape.copies

abbrev is_own : ℕ → Core → ℕ → Bool
is_own g c q = home_of c.members.shape q == g

abbrev kept_list : ℕ → Core → Copies Entry → ℕ → List (Item Entry)
kept_list g c s q = if is_own g c q then longest q c s else []

abbrev beside : ℕ → Core → Copies Entry → Copies Entry
beside g c s = record s { peers = with_kept (beyond c) (kept_list g c s) s.peers }

apart_numbers : (p q : ℕ) → q ≢ p → (p == q) ≡ false
apart_numbers p q n = go (p == q) refl
  where
    go : (b : Bool) → (p == q) ≡ b → (p == q) ≡ false
    go true e = absurd (n (sym (eqb-true p q e)))
    go false e = e

own_is : (g q : ℕ) (c : Core) → IsOf c.members.shape g q → is_own g c q ≡ true
own_is g q c own = ap (λ k. k == g) own ∙ same_number g

is_within : (g q : ℕ) (c : Core) (s : Copies Entry) → IsInStep g c s → IsOf c.members.shape g q → q < beyond c
is_within g q c s st own = has_peer g c s st q (home_of_peer g c s st q own)

not_home : (g z : ℕ) (c : Core) (s : Copies Entry) → IsInStep g c s → beyond c ≤ z → IsHome (group_of g c) z → ⊥
not_home g z c s st high h = let low = has_peer g c s st z h in omega (arith, high, low)

module _ (g : ℕ) (c : Core) (s : Copies Entry) (st : IsInStep g c s) where
  fronts : (q : ℕ) → (y : ℕ) × IsFront (kept_list g c s q) (reach (s.peers y))
  fronts q = go (is_own g c q) refl
    where
      go : (b : Bool) → is_own g c q ≡ b → (y : ℕ) × IsFront (kept_list g c s q) (reach (s.peers y))
      go true e = let f = longest_front g q c s st (eqb-true (home_of c.members.shape q) g e) in (f.0, rw e f.1)
      go false e = (0, rw e tt)

  taken : IsTakenFrom s.peers (with_kept (beyond c) (kept_list g c s) s.peers)
  taken = kept_taken (beyond c) (kept_list g c s) s (λ p high. st.stands.peers.elsewhere p (not_home g p c s st high)) fronts

  same_here : (q : ℕ) → q < beyond c → with_kept (beyond c) (kept_list g c s) s.peers q ≡ s.peers q
  same_here q low = kept_cases (λ (k : PeerCopy Entry). k ≡ s.peers q) (beyond c) (kept_list g c s) s.peers q (λ high. absurd (omega (arith, low, high))) (λ h. refl)

  pub beside_in_step : IsInStep g c (beside g c s)
  beside_in_step = record {
    seated = st.seated;
    here = st.here;
    sent = st.sent;
    stands = stands_from (copies_in g st.sent c) s (with_kept (beyond c) (kept_list g c s) s.peers) taken
        (λ q h. rw (same_here q (has_peer g c s st q h)) (same_copy (s.peers q)))
        (λ q n. kept_cases (λ (k : PeerCopy Entry). k.stage ≡ DownStage) (beyond c) (kept_list g c s) s.peers q (λ high. refl) (λ low. st.stands.peers.elsewhere q n))
        st.stands;
    under_way = st.under_way;
    jobs = st.jobs;
  }

  pub beside_held : AreHeld s → AreHeld (beside g c s)
  beside_held held q = kept_cases (λ (k : PeerCopy Entry). k.sealed ≤ length k.list) (beyond c) (kept_list g c s) s.peers q (λ high. omega arith) (λ low. held q)

  pub beside_list : (q : ℕ) → IsOf c.members.shape g q → (with_kept (beyond c) (kept_list g c s) s.peers q).list ≡ (s.peers q).list
  beside_list q own = ap (λ (k : PeerCopy Entry). k.list) (same_here q (is_within g q c s st own))

  pub beside_kept : (q : ℕ) → IsOf c.members.shape g q → (with_kept (beyond c) (kept_list g c s) s.peers (beyond c + q)).list ≡ longest q c s
  beside_kept q own =
      let place : beyond c + q - beyond c ≡ q = omega arith in
      kept_cases (λ (k : PeerCopy Entry). k.list ≡ longest q c s) (beyond c) (kept_list g c s) s.peers (beyond c + q)
      (λ high. ap (kept_list g c s) place ∙ ap (λ b. if b then longest q c s else []) (own_is g q c own)) (λ low. absurd (omega (arith, low)))

-- ---- what an event tells of a list

answer_job : (o : Option Job) (n p : ℕ) → option_map_or (λ j. answers p j (done.Copied n)) o false ≡ true → is_copying o ≡ true
answer_job None n p e = e
answer_job (Some (job.Append number entry)) n p e = e
answer_job (Some (job.Seal number)) n p e = e
answer_job (Some (job.Read number)) n p e = e
answer_job (Some job.Reset) n p e = e
answer_job (Some (job.Copy from number)) n p e = refl
answer_job (Some job.Reclaim) n p e = e

-- a peer's list by its report, which is taken
reported_same : (g q : ℕ) (d : Done) (c : Whole) (s : Copies Entry) → IsShardInStep g c s → IsOf c.core.members.shape g q → is_answer c.core q d ≡ true → reported c q d ≡ numbered (list_by s q d)
reported_same g q (done.Stored number) c s k own a = k.lists q own
reported_same g q (done.Sealed number) c s k own a = k.lists q own
reported_same g q (done.Bytes number bytes) c s k own a = k.lists q own
reported_same g q (done.Gone number) c s k own a = k.lists q own
reported_same g q done.Emptied c s k own a = refl
reported_same g q (done.Copied number) c s k own a = k.reaches q own ∙ ap (λ b. numbered ((s.peers q).list ++ (if b then take 1 (drop (length (s.peers q).list) s.log) else (s.peers q).adding))) (answer_job (first_job q c.core) number q a)
reported_same g q (done.Stepped switched) c s k own a = k.lists q own
reported_same g q (done.Failed disk) c s k own a = k.lists q own

-- the machine's lists as the report tells them, beside those that are kept
list_same : (s t : Copies Entry) (q : ℕ) (d : Done) → t.log ≡ s.log → (t.peers q).list ≡ (s.peers q).list → list_by t q d ≡ list_by s q d
list_same s t q (done.Stored number) l e = e
list_same s t q (done.Sealed number) l e = e
list_same s t q (done.Bytes number bytes) l e = e
list_same s t q (done.Gone number) l e = e
list_same s t q done.Emptied l e = refl
list_same s t q (done.Copied number) l e = rw (l, e) refl
list_same s t q (done.Stepped switched) l e = e
list_same s t q (done.Failed disk) l e = e

module _ (g : ℕ) (c : Whole) (s : Copies Entry) (k : IsShardInStep g c s) where
  abbrev kept : Copies Entry
  kept = beside g c.core s

  abbrev told : Event → ℕ → List (Item Entry)
  told e = lists_told g e c.core (beside g c.core s)

  -- the list that is told of a peer, by both
  told_same : (e : Event) (q : ℕ) → IsOf c.core.members.shape g q → told_list c q (taken_report c.core e) ≡ numbered (told e q)
  told_same (event.Line line o) q own = k.lists q own ∙ ap numbered (sym (beside_list g c.core s k.in_step q own))
  told_same (event.Turn line p) q own = k.lists q own ∙ ap numbered (sym (beside_list g c.core s k.in_step q own))
  told_same (event.Deliver line number) q own = k.lists q own ∙ ap numbered (sym (beside_list g c.core s k.in_step q own))
  told_same (event.Lose line number) q own = k.lists q own ∙ ap numbered (sym (beside_list g c.core s k.in_step q own))
  told_same (event.Repeat line number) q own = k.lists q own ∙ ap numbered (sym (beside_list g c.core s k.in_step q own))
  told_same (event.Nudge line p) q own = k.lists q own ∙ ap numbered (sym (beside_list g c.core s k.in_step q own))
  told_same (event.Fail line p) q own = k.lists q own ∙ ap numbered (sym (beside_list g c.core s k.in_step q own))
  told_same (event.Start line p) q own = k.lists q own ∙ ap numbered (sym (beside_list g c.core s k.in_step q own))
  told_same (event.Report p d) q own = go (home p c.core == g) refl (is_answer c.core p d) refl
    where
      here : (a : Bool) → is_answer c.core p d ≡ a → home p c.core ≡ g → told_list c q (if a then Some (p, d) else None) ≡ numbered ((if true && a then put_at p (list_by kept p d) (λ r. (kept.peers r).list) else (λ r. (kept.peers r).list)) q)
      here false i of = k.lists q own ∙ ap numbered (sym (beside_list g c.core s k.in_step q own))
      here true i of = put_cases (λ (l : List (Item Entry)). (if p == q then reported c q d else c.lists q) ≡ numbered l) p (list_by kept p d) (λ r. (kept.peers r).list) q
          (λ e. rw (e, same_number p) (reported_same g p d c s k of i ∙ ap numbered (sym (list_same s kept p d refl (beside_list g c.core s k.in_step p of)))))
          (λ n. rw (apart_numbers p q n) (k.lists q own ∙ ap numbered (sym (beside_list g c.core s k.in_step q own))))

      other : (a : Bool) → home p c.core ≢ g → told_list c q (if a then Some (p, d) else None) ≡ numbered (kept.peers q).list
      other false n = k.lists q own ∙ ap numbered (sym (beside_list g c.core s k.in_step q own))
      other true n =
          let ne : (p == q) ≡ false = apart_numbers p q (λ e. n (ap (λ r. home r c.core) (sym e) ∙ own)) in
          rw ne (k.lists q own ∙ ap numbered (sym (beside_list g c.core s k.in_step q own)))

      go : (b : Bool) → (home p c.core == g) ≡ b → (a : Bool) → is_answer c.core p d ≡ a → told_list c q (taken_report c.core (event.Report p d)) ≡ numbered (told (event.Report p d) q)
      go true e a i = rw (e, i) (here a i (eqb-true (home p c.core) g e))
      go false e a i = rw (e, i) (other a (λ of. (let wrong : true ≡ false = sym (same_number g) ∙ ap (λ x. x == g) (sym of) ∙ e in cc wrong)))

-- ---- behind the event

is_good_stage_of : (k : PeerStatus) (due : Bool) → k ≡ Good → stage_of k due ≡ GoodStage
is_good_stage_of k due e = rw e refl

rests_down : (st : Stage) → st ≡ DownStage → is_resting st ≡ true
rests_down st e = rw e refl

rests_clearing : (st : Stage) → st ≡ Clearing → is_resting st ≡ true
rests_clearing st e = rw e refl

resting_apart : (st : Stage) → is_resting st ≡ true → st ≡ GoodStage → ⊥
resting_apart st r e = let wrong : false ≡ true = sym (ap is_resting e) ∙ r in cc wrong

module _ (g : ℕ) (e : Event) (at : ℕ) (c : Whole) (s : Copies Entry) (k : IsShardInStep g c s) (on : (step e at c.core).ended ≡ None) (shape : (step e at c.core).members.shape ≡ c.core.members.shape) where
  abbrev after : Core
  after = step e at c.core

  goes : GoesTold g (step e at c.core) (beside g c.core s) (lists_told g e c.core (beside g c.core s))
  goes = steps_tell g e at c.core (beside g c.core s) (beside_in_step g c.core s k.in_step) (was_going e at c.core on) on

  abbrev now : Copies Entry
  now = after_events (beside g c.core s) goes.events

  now_held : AreHeld now
  now_held = all_held goes.events (beside g c.core s) goes.allowed (beside_held g c.core s k.in_step k.held)

  -- the peers of the shard are those that it had
  was_own : (q : ℕ) → IsOf (step e at c.core).members.shape g q → IsOf c.core.members.shape g q
  was_own q own = ap (λ x. home_of x q) (sym shape) ∙ own

  home_now : (q : ℕ) → IsOf (step e at c.core).members.shape g q → IsHome (group_of g (step e at c.core)) q
  home_now q own = home_of_peer g (step e at c.core) now goes.keeps q own

  -- the lists that were kept beside are there still
  told_beyond : (x : Event) (q : ℕ) → lists_told g x c.core (beside g c.core s) (beyond c.core + q) ≡ ((beside g c.core s).peers (beyond c.core + q)).list
  told_beyond (event.Line line o) q = refl
  told_beyond (event.Turn line p) q = refl
  told_beyond (event.Deliver line number) q = refl
  told_beyond (event.Lose line number) q = refl
  told_beyond (event.Repeat line number) q = refl
  told_beyond (event.Nudge line p) q = refl
  told_beyond (event.Fail line p) q = refl
  told_beyond (event.Start line p) q = refl
  told_beyond (event.Report p d) q = go (home p c.core == g) refl (is_answer c.core p d)
    where
      go : (b : Bool) → (home p c.core == g) ≡ b → (a : Bool)
          → (if b && a then put_at p (list_by (beside g c.core s) p d) (λ r. ((beside g c.core s).peers r).list) else (λ r. ((beside g c.core s).peers r).list)) (beyond c.core + q) ≡ ((beside g c.core s).peers (beyond c.core + q)).list
      go false i a = refl
      go true i false = refl
      go true i true =
          let low : p < beyond c.core = is_within g p c.core s k.in_step (eqb-true (home p c.core) g i) in
          put_other p (list_by (beside g c.core s) p d) (λ r. ((beside g c.core s).peers r).list) (beyond c.core + q) (λ same. omega (arith, same, low))

  kept_down : (q : ℕ) → (now.peers (beyond c.core + q)).stage ≡ DownStage
  kept_down q =
      let same : beyond (step e at c.core) ≡ beyond c.core = ap (λ (x : Shape). x.shards * x.copies) shape in
      goes.keeps.stands.peers.elsewhere (beyond c.core + q) (not_home g (beyond c.core + q) (step e at c.core) now goes.keeps (omega (arith, same)))

  kept_now : (q : ℕ) → IsOf c.core.members.shape g q → (now.peers (beyond c.core + q)).list ≡ longest q c.core s
  kept_now q own = elim (goes.tells.idle (beyond c.core + q)) [
    | inl same ↦ same ∙ told_beyond e q ∙ beside_kept g c.core s k.in_step q own
    | inr good ↦ absurd (down_apart (now.peers (beyond c.core + q)).stage (kept_down q) good)
  ]
    where
      down_apart : (x : Stage) → x ≡ DownStage → x ≡ GoodStage → ⊥
      down_apart x a b = cc (a, b)

  -- a peer that is neither good nor follows has the list that it had
  rests_off : (q : ℕ) → IsOf (step e at c.core).members.shape g q → is_resting (now.peers q).stage ≡ true → IsOn q (step e at c.core) → ⊥
  rests_off q own r (inl good) =
      resting_apart (now.peers q).stage r (goes.keeps.stands.peers.stage q (home_now q own) ∙ is_good_stage_of (status_of q (step e at c.core)) (rejoin_at (step e at c.core) q).empty good)
  rests_off q own r (inr f) =
      let stage : (now.peers q).stage ≡ Following = goes.keeps.stands.peers.stage q (home_now q own) ∙ ap (λ x. stage_of x (rejoin_at (step e at c.core) q).empty) f.0 ∙ ap (λ b. stage_of Joining b) f.1 in
      let wrong : false ≡ true = sym (ap is_resting stage) ∙ r in cc wrong

  told_or : (d : Done) → TellsList d ⊎ ((t : Copies Entry) (q : ℕ) → list_by t q d ≡ (t.peers q).list)
  told_or (done.Stored number) = inr (λ t q. refl)
  told_or (done.Sealed number) = inr (λ t q. refl)
  told_or (done.Bytes number bytes) = inr (λ t q. refl)
  told_or (done.Gone number) = inr (λ t q. refl)
  told_or done.Emptied = inl tt
  told_or (done.Copied number) = inl tt
  told_or (done.Stepped switched) = inr (λ t q. refl)
  told_or (done.Failed disk) = inr (λ t q. refl)

  answered : (q : ℕ) (d : Done) → is_answer c.core q d ≡ true → (task : Task) × (first_task q c.core ≡ Some task) × (answers q task.job d ≡ true)
  answered q d a = go (first_task q c.core) refl
    where
      go : (o : Option Task) → first_task q c.core ≡ o → (task : Task) × (first_task q c.core ≡ Some task) × (answers q task.job d ≡ true)
      go None f = let wrong : false ≡ true = rw f at a in absurd (cc wrong)
      go (Some task) f = (task, f, rw f at a)

  rests_told : (q : ℕ) → IsOf (step e at c.core).members.shape g q → is_resting (now.peers q).stage ≡ true → lists_told g e c.core (beside g c.core s) q ≡ (s.peers q).list
  rests_told q own r = go e refl
    where
      same : ((beside g c.core s).peers q).list ≡ (s.peers q).list
      same = beside_list g c.core s k.in_step q (was_own q own)

      tells_not : (d : Done) → e ≡ event.Report q d → is_answer c.core q d ≡ true → TellsList d → ⊥
      tells_not d i a tells =
          let on_now : (step (event.Report q d) at c.core).ended ≡ None = subst (λ (x : Event). (step x at c.core).ended ≡ None) i on in
          let t = answered q d a in
          rests_off q own r (subst (λ (x : Event). IsOn q (step x at c.core)) (sym i) (reported_on g q d at c.core s k.in_step (was_own q own) tells t.0 t.1 t.2 on_now))

      by_done : (d : Done) → e ≡ event.Report q d → is_answer c.core q d ≡ true → list_by (beside g c.core s) q d ≡ (s.peers q).list
      by_done d i a = elim (told_or d) [
        | inl tells ↦ absurd (tells_not d i a tells)
        | inr quiet ↦ quiet (beside g c.core s) q ∙ same
      ]

      go : (x : Event) → e ≡ x → lists_told g x c.core (beside g c.core s) q ≡ (s.peers q).list
      go (event.Line line o) i = same
      go (event.Turn line p) i = same
      go (event.Deliver line number) i = same
      go (event.Lose line number) i = same
      go (event.Repeat line number) i = same
      go (event.Nudge line p) i = same
      go (event.Fail line p) i = same
      go (event.Start line p) i = same
      go (event.Report p d) i = by_home (home p c.core == g) (is_answer c.core p d) refl
        where
          by_home : (b a : Bool) → is_answer c.core p d ≡ a
              → (if b && a then put_at p (list_by (beside g c.core s) p d) (λ x. ((beside g c.core s).peers x).list) else (λ x. ((beside g c.core s).peers x).list)) q ≡ (s.peers q).list
          by_home false a f = same
          by_home true false f = same
          by_home true true f = put_cases (λ (l : List (Item Entry)). l ≡ (s.peers q).list) p (list_by (beside g c.core s) p d) (λ x. ((beside g c.core s).peers x).list) q
              (λ is. rw (← is) (by_done d (i ∙ ap (λ x. event.Report x d) (sym is)) (ap (λ x. is_answer c.core x d) is ∙ f)))
              (λ n. same)

  rests_list : (q : ℕ) → IsOf (step e at c.core).members.shape g q → is_resting (now.peers q).stage ≡ true → (now.peers q).list ≡ (s.peers q).list
  rests_list q own r = elim (goes.tells.idle q) [
    | inl same ↦ same ∙ rests_told q own r
    | inr good ↦ absurd (resting_apart (now.peers q).stage r good)
  ]

  -- ---- the machine, with what disks may have

  is_of : (q : ℕ) → is_own g c.core q ≡ true → IsOf (step e at c.core).members.shape g q
  is_of q o = ap (λ x. home_of x q) shape ∙ eqb-true (home_of c.core.members.shape q) g o

  more : IsTakenFrom now.peers (with_more (is_own g c.core) (beyond c.core) now.peers)
  more = more_taken (is_own g c.core) (beyond c.core) now
      (λ q o r. rw (rests_list q (is_of q o) r, kept_now q (was_own q (is_of q o))) (front_append (s.peers q).list (added_to q c.core s)))

  abbrev machine : Copies Entry
  machine = record now { peers = with_more (is_own g c.core) (beyond c.core) now.peers }

  list_more : (q : ℕ) → (machine.peers q).list ≡ (now.peers q).list
  list_more q = more_cases (λ (x : PeerCopy Entry). x.list ≡ (now.peers q).list) (is_own g c.core) (beyond c.core) now.peers q (λ o r. refl) refl

  stage_more : (q : ℕ) → (machine.peers q).stage ≡ (now.peers q).stage
  stage_more q = more_cases (λ (x : PeerCopy Entry). x.stage ≡ (now.peers q).stage) (is_own g c.core) (beyond c.core) now.peers q (λ o r. refl) refl

  machine_in_step : IsInStep g (step e at c.core) machine
  machine_in_step = record {
    seated = goes.keeps.seated;
    here = goes.keeps.here;
    sent = goes.keeps.sent;
    stands = stands_from (copies_in g goes.keeps.sent (step e at c.core)) now (with_more (is_own g c.core) (beyond c.core) now.peers) more
        (λ q h. more_cases (λ (x : PeerCopy Entry). IsSameCopy (now.peers q) x) (is_own g c.core) (beyond c.core) now.peers q (λ o r. record { stage = refl; list = refl; sealed = refl; known = refl }) (same_copy (now.peers q)))
        (λ q n. stage_more q ∙ goes.keeps.stands.peers.elsewhere q n)
        goes.keeps.stands;
    under_way = goes.keeps.under_way;
    jobs = goes.keeps.jobs;
  }

  machine_held : AreHeld machine
  machine_held q = more_cases (λ (x : PeerCopy Entry). x.sealed ≤ length x.list) (is_own g c.core) (beyond c.core) now.peers q (λ o r. now_held q) (now_held q)

  -- ---- its lists

  lists_now : (q : ℕ) → IsOf (step e at c.core).members.shape g q → lists_after e c (step e at c.core) q ≡ numbered (machine.peers q).list
  lists_now q own =
      ap (λ x. grown (group_of x (step e at c.core)) q (told_list c q (taken_report c.core e))) own
      ∙ ap (grown (group_of g (step e at c.core)) q) (told_same g c s k e q (was_own q own))
      ∙ sym (told_lists g (step e at c.core) (beside g c.core s) (lists_told g e c.core (beside g c.core s)) (beside_held g c.core s k.in_step k.held) goes q own) ∙ ap numbered (sym (list_more q))

  -- of one that is down, or is to be emptied, it is what it was
  reach_is : (q : ℕ) → IsOf (step e at c.core).members.shape g q → is_resting (now.peers q).stage ≡ true → reach (machine.peers q) ≡ longest q c.core s
  reach_is q own r =
      let front : IsFront (now.peers q).list (now.peers (beyond c.core + q)).list = rw (rests_list q own r, kept_now q (was_own q own)) (front_append (s.peers q).list (added_to q c.core s)) in
      ap reach (more_put (is_own g c.core) (beyond c.core) now.peers q (own_is g q c.core (was_own q own)) r)
      ∙ front_rest (now.peers q).list (now.peers (beyond c.core + q)).list front ∙ kept_now q (was_own q own)

  -- ---- and what disks may have

  abbrev Reaches : ℕ → Type 0
  Reaches q = lists_after e c (step e at c.core) q ++ adds_after c (step e at c.core) (lists_after e c (step e at c.core)) q ≡ numbered (longest q (step e at c.core) machine)

  -- where what is added is so
  adds_up : (q : ℕ) → IsOf (step e at c.core).members.shape g q
      → adds_after c (step e at c.core) (lists_after e c (step e at c.core)) q ≡ enumerate_from (1 + length (machine.peers q).list) (map what (added_to q (step e at c.core) machine)) → Reaches q
  adds_up q own h =
      ap (λ xs. xs ++ adds_after c (step e at c.core) (lists_after e c (step e at c.core)) q) (lists_now q own)
      ∙ ap (λ xs. numbered (machine.peers q).list ++ xs) h
      ∙ sym (numbered_more (machine.peers q).list (added_to q (step e at c.core) machine))

  not_copying : (q : ℕ) → is_copying (first_job q (step e at c.core)) ≡ false → added_to q (step e at c.core) machine ≡ (machine.peers q).adding
  not_copying q i = rw i refl

  module _ (q : ℕ) (own : IsOf (step e at c.core).members.shape g q) where
    home_q : IsHome (group_of g (step e at c.core)) q
    home_q = home_now q own

    stage_is : (machine.peers q).stage ≡ stage_of (status_of q (step e at c.core)) (rejoin_at (step e at c.core) q).empty
    stage_is = machine_in_step.stands.peers.stage q home_q

    -- a good peer
    reaches_good : status_of q (step e at c.core) ≡ Good → Reaches q
    reaches_good good =
        let none : adds_after c (step e at c.core) (lists_after e c (step e at c.core)) q ≡ [] =
        ap (λ x. added_by (c.adds q) (lists_after e c (step e at c.core)) x (rejoin_of q (step e at c.core)) (first_job q (step e at c.core))) good in
        let stage : (machine.peers q).stage ≡ GoodStage = stage_is ∙ is_good_stage_of (status_of q (step e at c.core)) (rejoin_at (step e at c.core) q).empty good in
        let idle : is_copying (first_job q (step e at c.core)) ≡ false = copies_not g q (step e at c.core) machine machine_in_step own (λ j. let wrong : Good ≡ Joining = sym good ∙ j in cc wrong) in
        let added : added_to q (step e at c.core) machine ≡ [] = not_copying q idle ∙ (machine_in_step.stands.faithful.good q stage).nothing in
        adds_up q own (none ∙ sym (ap (λ xs. enumerate_from (1 + length (machine.peers q).list) (map what xs)) added))

    -- one that is down, or is to be emptied
    reaches_resting : is_resting (now.peers q).stage ≡ true → adds_after c (step e at c.core) (lists_after e c (step e at c.core)) q ≡ c.adds q → Reaches q
    reaches_resting r adds =
        let idle : is_copying (first_job q (step e at c.core)) ≡ false = not_so (is_copying (first_job q (step e at c.core))) refl in
        let all : reach (machine.peers q) ≡ longest q c.core s = reach_is q own r in
        let lists : lists_after e c (step e at c.core) q ≡ c.lists q = lists_now q own ∙ ap numbered (list_more q ∙ rests_list q own r) ∙ sym (k.lists q (was_own q own)) in
        ap (λ xs. xs ++ adds_after c (step e at c.core) (lists_after e c (step e at c.core)) q) lists ∙ ap (λ xs. c.lists q ++ xs) adds
        ∙ k.reaches q (was_own q own) ∙ ap numbered (sym all) ∙ ap (λ xs. numbered ((machine.peers q).list ++ xs)) (sym (not_copying q idle))
      where
        not_so : (b : Bool) → is_copying (first_job q (step e at c.core)) ≡ b → is_copying (first_job q (step e at c.core)) ≡ false
        not_so false i = i
        not_so true i =
            let j = copying_is (first_job q (step e at c.core)) i in
            let next = first_is_next g q (step e at c.core) machine (job.Copy j.0 j.1.0) machine_in_step own j.1.1 in
            let wrong : true ≡ false = sym r ∙ ap is_resting (sym (stage_more q) ∙ next.follows) in
            absurd (cc wrong)

    -- the step of a joining peer
    map_job : (o : Option Job) → option_map (λ (t : Task). t.job) (option_map (λ j. record { job = j; line = 0 }) o) ≡ o
    map_job None = refl
    map_job (Some j) = refl

    lead_now : HasLead (copies_in g machine_in_step.sent (step e at c.core)) machine
    lead_now = stands_lead (copies_in g machine_in_step.sent (step e at c.core)) machine machine_in_step.stands

    leads_now : lead_of g (step e at c.core) ≡ Some lead_now.peer
    leads_now = lead_in_step g (step e at c.core) machine machine_in_step ∙ lead_now.is

    step_job : (r : Rejoin) → status_of q (step e at c.core) ≡ Joining → rejoin_of q (step e at c.core) ≡ Some r → first_job q (step e at c.core) ≡ next_job (sealed_of lead_now.peer (step e at c.core)) r
    step_job r joins came =
        let leads : lead_of (home q (step e at c.core)) (step e at c.core) ≡ Some lead_now.peer = ap (λ x. lead_of x (step e at c.core)) own ∙ leads_now in
        rw (joins, leads, came) (map_job (next_job (sealed_of lead_now.peer (step e at c.core)) r))

    step_none : status_of q (step e at c.core) ≡ Joining → rejoin_of q (step e at c.core) ≡ None → added_by (c.adds q) (lists_after e c (step e at c.core)) (status_of q (step e at c.core)) (rejoin_of q (step e at c.core)) (first_job q (step e at c.core)) ≡ c.adds q
    step_none joins came = rw (joins, came) refl

    adds_joining : (r : Rejoin) → status_of q (step e at c.core) ≡ Joining → rejoin_of q (step e at c.core) ≡ Some r → (o : Option Job) → first_job q (step e at c.core) ≡ o
        → adds_after c (step e at c.core) (lists_after e c (step e at c.core)) q ≡ added_by (c.adds q) (lists_after e c (step e at c.core)) Joining (Some r) o
    adds_joining r joins came o f =
        ap (λ x. added_by (c.adds q) (lists_after e c (step e at c.core)) x (rejoin_of q (step e at c.core)) (first_job q (step e at c.core))) joins
        ∙ ap (λ x. added_by (c.adds q) (lists_after e c (step e at c.core)) Joining x (first_job q (step e at c.core))) came
        ∙ ap (λ x. added_by (c.adds q) (lists_after e c (step e at c.core)) Joining (Some r) x) f

    -- one that follows the lead's list
    reaches_following : FollowsLead g (step e at c.core) → (r : Rejoin) → status_of q (step e at c.core) ≡ Joining → rejoin_of q (step e at c.core) ≡ Some r → r.empty ≡ false → Reaches q
    reaches_following follow r joins came done = go (nat_lt r.len (sealed_of lead_now.peer (step e at c.core))) refl
      where
        at_q : rejoin_at (step e at c.core) q ≡ r
        at_q = ap (λ (o : Option Rejoin). unwrap_or o (new_rejoin 0)) came

        stage : (machine.peers q).stage ≡ Following
        stage = stage_is ∙ ap (λ x. stage_of x (rejoin_at (step e at c.core) q).empty) joins ∙ ap (λ b. stage_of Joining b) (ap (λ (x : Rejoin). x.empty) at_q ∙ done)

        counted : r.len ≡ length (machine.peers q).list
        counted = ap (λ (x : Rejoin). x.len) (sym at_q) ∙ machine_in_step.stands.peers.counted q home_q stage

        adds_by : (o : Option Job) → first_job q (step e at c.core) ≡ o
            → adds_after c (step e at c.core) (lists_after e c (step e at c.core)) q ≡ added_by (c.adds q) (lists_after e c (step e at c.core)) Joining (Some r) o
        adds_by o f = adds_joining r joins came o f

        from_is : r.from ≡ lead_now.peer
        from_is = let same : Some r.from ≡ Some lead_now.peer = sym (follow q r own joins came) ∙ leads_now in cc same

        lead_own : IsOf (step e at c.core).members.shape g lead_now.peer
        lead_own = (lead_is g (step e at c.core) lead_now.peer (machine_in_step.seated.placed g).few leads_now).own

        -- it copies the next entry of the lead's list
        copies : first_job q (step e at c.core) ≡ Some (job.Copy r.from (r.len + 1)) → Reaches q
        copies f =
            let place : r.len + 1 - 1 ≡ length (machine.peers q).list = omega (arith, counted) in
            let list : lists_after e c (step e at c.core) r.from ≡ numbered machine.log = ap (lists_after e c (step e at c.core)) from_is ∙ lists_now lead_now.peer lead_own ∙ ap numbered lead_now.whole in
            let entry : adds_after c (step e at c.core) (lists_after e c (step e at c.core)) q ≡ take 1 (drop (r.len + 1 - 1) (lists_after e c (step e at c.core) r.from)) = adds_by (Some (job.Copy r.from (r.len + 1))) f in
            let next : take 1 (drop (r.len + 1 - 1) (lists_after e c (step e at c.core) r.from)) ≡ take 1 (drop (length (machine.peers q).list) (numbered machine.log)) =
            ap (λ n. take 1 (drop n (lists_after e c (step e at c.core) r.from))) place ∙ ap (λ xs. take 1 (drop (length (machine.peers q).list) xs)) list in
            let added : added_to q (step e at c.core) machine ≡ take 1 (drop (length (machine.peers q).list) machine.log) =
            ap (λ (o : Option Job). if is_copying o then take 1 (drop (length (machine.peers q).list) machine.log) else (machine.peers q).adding) f in
            adds_up q own (entry ∙ next ∙ next_numbered (length (machine.peers q).list) machine.log ∙ sym (ap (λ xs. enumerate_from (1 + length (machine.peers q).list) (map what xs)) added))

        -- or it has all that the lead has sealed
        waits : first_job q (step e at c.core) ≡ None → Reaches q
        waits f =
            let none : adds_after c (step e at c.core) (lists_after e c (step e at c.core)) q ≡ [] = adds_by None f in
            let added : added_to q (step e at c.core) machine ≡ [] =
            ap (λ (o : Option Job). if is_copying o then take 1 (drop (length (machine.peers q).list) machine.log) else (machine.peers q).adding) f ∙ machine_in_step.stands.peers.still q home_q stage in
            adds_up q own (none ∙ sym (ap (λ xs. enumerate_from (1 + length (machine.peers q).list) (map what xs)) added))

        go : (b : Bool) → nat_lt r.len (sealed_of lead_now.peer (step e at c.core)) ≡ b → Reaches q
        go true low = copies (step_job r joins came ∙ rw (done, low) refl)
        go false high = waits (step_job r joins came ∙ rw (done, high) refl)

    rests_at : (due : Bool) → status_of q (step e at c.core) ≡ Joining → (rejoin_at (step e at c.core) q).empty ≡ true → is_resting (now.peers q).stage ≡ true
    rests_at due joins empty =
        let stage : (now.peers q).stage ≡ Clearing = sym (stage_more q) ∙ stage_is ∙ ap (λ x. stage_of x (rejoin_at (step e at c.core) q).empty) joins ∙ ap (λ b. stage_of Joining b) empty in
        rests_clearing (now.peers q).stage stage

    -- any peer of the shard
    reaches_now : FollowsLead g (step e at c.core) → Reaches q
    reaches_now follow = by_status (status_of q (step e at c.core)) refl
      where
        adds_down : status_of q (step e at c.core) ≡ Down → adds_after c (step e at c.core) (lists_after e c (step e at c.core)) q ≡ c.adds q
        adds_down down = ap (λ x. added_by (c.adds q) (lists_after e c (step e at c.core)) x (rejoin_of q (step e at c.core)) (first_job q (step e at c.core))) down

        adds_reset : (r : Rejoin) → status_of q (step e at c.core) ≡ Joining → rejoin_of q (step e at c.core) ≡ Some r → r.empty ≡ true → adds_after c (step e at c.core) (lists_after e c (step e at c.core)) q ≡ c.adds q
        adds_reset r joins came due =
            let f : first_job q (step e at c.core) ≡ Some job.Reset = step_job r joins came ∙ rw due refl in
            adds_joining r joins came (Some job.Reset) f

        by_empty : (r : Rejoin) → status_of q (step e at c.core) ≡ Joining → rejoin_of q (step e at c.core) ≡ Some r → (b : Bool) → r.empty ≡ b → Reaches q
        by_empty r joins came false done = reaches_following follow r joins came done
        by_empty r joins came true due =
            reaches_resting (rests_at true joins (ap (λ (o : Option Rejoin). (unwrap_or o (new_rejoin 0)).empty) came ∙ due)) (adds_reset r joins came due)

        by_rejoin : status_of q (step e at c.core) ≡ Joining → (o : Option Rejoin) → rejoin_of q (step e at c.core) ≡ o → Reaches q
        by_rejoin joins (Some r) came = by_empty r joins came r.empty refl
        by_rejoin joins None came = reaches_resting (rests_at true joins (ap (λ (o : Option Rejoin). (unwrap_or o (new_rejoin 0)).empty) came)) (step_none joins came)

        by_status : (x : PeerStatus) → status_of q (step e at c.core) ≡ x → Reaches q
        by_status Good good = reaches_good good
        by_status Joining joins = by_rejoin joins (rejoin_of q (step e at c.core)) refl
        by_status Down down =
            let stage : (now.peers q).stage ≡ DownStage = sym (stage_more q) ∙ stage_is ∙ ap (λ x. stage_of x (rejoin_at (step e at c.core) q).empty) down in
            reaches_resting (rests_down (now.peers q).stage stage) (adds_down down)

  -- ---- no Base

  abbrev Fine : Numbered → Type 0
  Fine entries = All (λ x. is_of_base x.1 ≡ false) entries

  old_list : (q : ℕ) → IsOf c.core.members.shape g q → Fine (c.lists q)
  old_list q own = fine_left (c.lists q) (c.adds q) (old_reach q own)
    where
      old_reach : (q : ℕ) → IsOf c.core.members.shape g q → Fine (c.lists q ++ c.adds q)
      old_reach q own = subst (λ (xs : Numbered). All (λ x. is_of_base x.1 ≡ false) xs) (sym (k.reaches q own)) (fine_numbered 1 (map what (longest q c.core s)) (k.plain q own))

  old_all : (q : ℕ) → IsOf c.core.members.shape g q → Fine (c.lists q ++ c.adds q)
  old_all q own = subst (λ (xs : Numbered). All (λ x. is_of_base x.1 ≡ false) xs) (sym (k.reaches q own)) (fine_numbered 1 (map what (longest q c.core s)) (k.plain q own))

  fine_told : (q : ℕ) → IsOf c.core.members.shape g q → Fine (told_list c q (taken_report c.core e))
  fine_told q own = go e
    where
      by_done : (d : Done) → Fine (reported c q d)
      by_done (done.Stored number) = old_list q own
      by_done (done.Sealed number) = old_list q own
      by_done (done.Bytes number bytes) = old_list q own
      by_done (done.Gone number) = old_list q own
      by_done done.Emptied = All-nil (λ (x : ℕ × Entry). is_of_base x.1 ≡ false)
      by_done (done.Copied number) = old_all q own
      by_done (done.Stepped switched) = old_list q own
      by_done (done.Failed disk) = old_list q own

      taken : (p : ℕ) (d : Done) (a : Bool) → Fine (told_list c q (if a then Some (p, d) else None))
      taken p d false = old_list q own
      taken p d true = here (p == q)
        where
          here : (b : Bool) → Fine (if b then reported c q d else c.lists q)
          here true = by_done d
          here false = old_list q own

      go : (x : Event) → Fine (told_list c q (taken_report c.core x))
      go (event.Line line o) = old_list q own
      go (event.Report p d) = taken p d (is_answer c.core p d)
      go (event.Turn line p) = old_list q own
      go (event.Deliver line number) = old_list q own
      go (event.Lose line number) = old_list q own
      go (event.Repeat line number) = old_list q own
      go (event.Nudge line p) = old_list q own
      go (event.Fail line p) = old_list q own
      go (event.Start line p) = old_list q own

  module _ (waits : ArePlain (group_of g (step e at c.core)).waiting) where
    list_plain : (q : ℕ) → IsOf (step e at c.core).members.shape g q → ArePlain (map what (machine.peers q).list)
    list_plain q own =
        let x : Group = group_of (home q (step e at c.core)) (step e at c.core) in
        let told : Numbered = told_list c q (taken_report c.core e) in
        let waits_here : ArePlain x.waiting = subst (λ i. ArePlain (group_of i (step e at c.core)).waiting) (sym own) waits in
        let more : Fine (take (length_of x q - length told) (entries_above (length told) x)) =
        fine_take (length_of x q - length told) (entries_above (length told) x) (fine_drop (length told - x.front) (enumerate_from (x.front + 1) x.waiting) (fine_numbered (x.front + 1) x.waiting waits_here)) in
        plain_items 1 (map what (machine.peers q).list)
        (subst (λ (xs : Numbered). All (λ y. is_of_base y.1 ≡ false) xs) (lists_now q own) (fine_both told (take (length_of x q - length told) (entries_above (length told) x)) (fine_told q (was_own q own)) more))

    added_plain : (q : ℕ) → IsOf (step e at c.core).members.shape g q → ArePlain (map what (added_to q (step e at c.core) machine))
    added_plain q own = go (is_copying (first_job q (step e at c.core))) refl
      where
        d : HasLead (copies_in g machine_in_step.sent (step e at c.core)) machine
        d = stands_lead (copies_in g machine_in_step.sent (step e at c.core)) machine machine_in_step.stands

        leads : lead_of g (step e at c.core) ≡ Some d.peer
        leads = lead_in_step g (step e at c.core) machine machine_in_step ∙ d.is

        log : ArePlain (map what machine.log)
        log = subst (λ (xs : List (Item Entry)). ArePlain (map what xs)) d.whole (list_plain d.peer (lead_is g (step e at c.core) d.peer (machine_in_step.seated.placed g).few leads).own)

        rest : ArePlain (map what (machine.peers q).adding)
        rest = by_stage (is_resting (now.peers q).stage) refl
          where
            by_stage : (b : Bool) → is_resting (now.peers q).stage ≡ b → ArePlain (map what (machine.peers q).adding)
            by_stage true r = plain_right (machine.peers q).list (machine.peers q).adding
                (subst (λ (xs : List (Item Entry)). ArePlain (map what xs)) (sym (reach_is q own r)) (k.plain q (was_own q own)))
            by_stage false r = subst (λ (xs : List (Item Entry)). ArePlain (map what xs)) (sym (nothing (now.peers q).stage refl r)) (All-nil (λ (x : Entry). is_of_base x ≡ false))
              where
                nothing : (x : Stage) → (now.peers q).stage ≡ x → is_resting (now.peers q).stage ≡ false → (machine.peers q).adding ≡ []
                nothing GoodStage i r = (machine_in_step.stands.faithful.good q (stage_more q ∙ i)).nothing
                nothing Following i r = machine_in_step.stands.peers.still q (home_now q own) (stage_more q ∙ i)
                nothing Clearing i r = let wrong : true ≡ false = sym (ap is_resting i) ∙ r in absurd (cc wrong)
                nothing DownStage i r = let wrong : true ≡ false = sym (ap is_resting i) ∙ r in absurd (cc wrong)

        go : (b : Bool) → is_copying (first_job q (step e at c.core)) ≡ b → ArePlain (map what (added_to q (step e at c.core) machine))
        go true i = rw i (subst (λ (xs : List Entry). ArePlain xs) (map_take what 1 (drop (length (machine.peers q).list) machine.log)) (plain_take 1 (map what (drop (length (machine.peers q).list) machine.log)) (plain_dropped (length (machine.peers q).list) machine.log log)))
        go false i = rw i rest

    plain_now : (q : ℕ) → IsOf (step e at c.core).members.shape g q → ArePlain (map what (longest q (step e at c.core) machine))
    plain_now q own = subst (λ (xs : List Entry). ArePlain xs) (sym (map-append what (machine.peers q).list (added_to q (step e at c.core) machine))) (plain_both (map what (machine.peers q).list) (map what (added_to q (step e at c.core) machine)) (list_plain q own) (added_plain q own))

  took_stays : IsFront s.took machine.took
  took_stays = effects_stay goes.events (beside g c.core s)

  took_stood : IsFront machine.took s.log
  took_stood = stood g c.core (beside g c.core s) (beside_in_step g c.core s k.in_step) e at (beside_held g c.core s k.in_step k.held) goes

  pub stays_by : FollowsLead g (step e at c.core) → ArePlain (group_of g (step e at c.core)).waiting → StaysInStep g (step_whole e at c) s
  stays_by follow waits = record {
    copies = machine;
    took = took_stays;
    stood = took_stood;
    keeps = record {
      in_step = machine_in_step;
      held = machine_held;
      lists = lists_now;
      reaches = λ q own. reaches_now q own follow;
      plain = plain_now waits;
      waits = waits;
      settled = settled_by g e at c.core s k.in_step k.settled on;
      follows = follow;
    };
  }
