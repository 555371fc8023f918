-- A good peer that fails and a joining peer that is good, in the core and in the machine.
use Rattle.std.proofs.Common.{◌≡◌, ◌≢◌, ℕ, zero, suc, ◌+◌, ◌≤◌, ◌<◌, Bool, true, false, if◌then◌else◌, eqb-true, not, [], ◌++◌, inl, inr, refl, sym, arith, length, Some, ap, ◌∙◌, Option}
use Rattle.std.proofs.lemmas.Bool.Decides.{nat_tests}
use Rattle.std.specs.List.{list_any, range_with_len}
use Rattle.std.specs.Prelude.{◌==◌}
use Rattle.hs_entry.specs.declared.entry.Entry.{Entry}
use Rattle.hs_entry.specs.declared.entry.Entry.TheVariants.{View}
use Rattle.hs_limits.specs.declared.limits.PeerStatus.{PeerStatus}
use Rattle.hs_limits.specs.declared.limits.PeerStatus.TheVariants as is
use Rattle.hs_members.specs.Members.{IsPeer, Members, become, has_good, home_of, is_good_status, status, view_of}
use Rattle.hs_rejoin.specs.Rejoin.{Rejoin, is_level, new_rejoin}
use Rattle.hs_replica.specs.Group.{Group, IsHome, copy_of, first_peer, is_peer, lead, length_of, on_view, told, view_messages}
use Rattle.hs_copies.specs.CoreCopies.{CoreCopies, begin_with, core_fail, core_join, core_view}
use Rattle.hs_copies.specs.Lists.{IsFront}
use Rattle.hs_copies.specs.Machine.{Copies, Down, Fail, Following, Good, CanCome, Join, PeerCopy, Stage, begin_again, put_at, stage_again}
use Rattle.hs_copies.specs.Standing.{IsAlike, StandsFor, is_good_stage, stage_of}
use Rattle.hs_copies.proofs.HomeLemmas.{Leads, lead_found}
use Rattle.hs_copies.proofs.ListLemmas.{front_left, front_length}
use Rattle.hs_copies.proofs.QuietLemmas.{Falling, Quietly, becomes_falling, becomes_quietly}
use Rattle.hs_copies.proofs.NewViewLemmas.{good_status, new_view, before, led_anew, told_good, told_length, told_long}
use Rattle.hs_copies.proofs.OpenedLemmas.{took_good}
use Rattle.hs_copies.proofs.PeerLemmas.{put_cases}
use Rattle.hs_copies.proofs.StandLemmas.{and_left, and_right, good_home, good_stage, length_is, not_good_following, same_or_other, stage_good, stands_lead}
use Rattle.hs_copies.proofs.StatusLemmas.{become_here, become_members, become_other, home_peer, home_shard, other_shard, view_elsewhere, view_rises}

-- ---- the peers of a shard that are good

any_found : (test : ℕ → Bool) (n k : ℕ) → list_any test (range_with_len n k) ≡ true → (q : ℕ) × (n ≤ q) × (q < n + k) × (test q ≡ true)
any_found test n zero e = let wrong : false ≡ true = e in absurd (cc wrong)
any_found test n (suc k) e = go (test n) refl (λ f. any_found test (n + 1) k f)
  where
    go : (b : Bool) → test n ≡ b → (list_any test (range_with_len (n + 1) k) ≡ true → (q : ℕ) × (n + 1 ≤ q) × (q < n + 1 + k) × (test q ≡ true))
        → (q : ℕ) × (n ≤ q) × (q < n + suc k) × (test q ≡ true)
    go true f h = (n, omega arith, omega arith, f)
    go false f h =
        let k : list_any test (range_with_len (n + 1) k) ≡ true = rw f at e in
        let g = h k in (g.0, omega (arith, g.1), omega (arith, g.2), g.3)

pub good_found : (group : Group) (m : Members) → m.shape ≡ group.shape → has_good group.shard m ≡ true → (q : ℕ) × IsHome group q × (is_good_status (status q m) ≡ true)
good_found group m s e =
    let k : list_any (λ peer. is_good_status (status peer m)) (range_with_len (first_peer group) group.shape.copies) ≡ true = rw s at e in
    let f = any_found (λ peer. is_good_status (status peer m)) (first_peer group) group.shape.copies k in
    (f.0, (f.1, f.2), f.3)

-- ---- peers with another one in a place

again_list : (again : Bool) (k : PeerCopy Entry) → (begin_again again k).list ≡ k.list
again_list true k = refl
again_list false k = refl

again_sealed : (again : Bool) (k : PeerCopy Entry) → (begin_again again k).sealed ≡ k.sealed
again_sealed true k = refl
again_sealed false k = refl

again_adding : (again : Bool) (k : PeerCopy Entry) → (begin_again again k).adding ≡ k.adding
again_adding true k = refl
again_adding false k = refl

again_down : (again : Bool) (k : PeerCopy Entry) → k.stage ≡ Down → (begin_again again k).stage ≡ Down
again_down true k e = rw e refl
again_down false k e = e

-- only the stage is another
abbrev staged : (p : ℕ) (k : Stage) (peers : ℕ → PeerCopy Entry) → ℕ → PeerCopy Entry
staged p k peers = put_at p (record (peers p) { stage = k }) peers

staged_list : (p : ℕ) (k : Stage) (peers : ℕ → PeerCopy Entry) (q : ℕ) → (staged p k peers q).list ≡ (peers q).list
staged_list p k peers q = put_cases (λ j. j.list ≡ (peers q).list) p (record (peers p) { stage = k }) peers q (λ e. rw e refl) (λ n. refl)

staged_sealed : (p : ℕ) (k : Stage) (peers : ℕ → PeerCopy Entry) (q : ℕ) → (staged p k peers q).sealed ≡ (peers q).sealed
staged_sealed p k peers q = put_cases (λ j. j.sealed ≡ (peers q).sealed) p (record (peers p) { stage = k }) peers q (λ e. rw e refl) (λ n. refl)

staged_adding : (p : ℕ) (k : Stage) (peers : ℕ → PeerCopy Entry) (q : ℕ) → (staged p k peers q).adding ≡ (peers q).adding
staged_adding p k peers q = put_cases (λ j. j.adding ≡ (peers q).adding) p (record (peers p) { stage = k }) peers q (λ e. rw e refl) (λ n. refl)

-- ---- a good peer fails

-- where the lead failed each joining peer begins again
clears : (k : PeerStatus) (due : Bool) → stage_again (stage_of k due) ≡ stage_of k true
clears is.Good due = refl
clears is.Joining true = refl
clears is.Joining false = refl
clears is.Down due = refl

never_follows : (k : PeerStatus) → stage_of k true ≡ Following → ⊥
never_follows is.Good e = cc e
never_follows is.Joining e = cc e
never_follows is.Down e = cc e

good_only : (k : PeerStatus) (due : Bool) → is_good_status k ≡ true → stage_of k due ≡ Good
good_only is.Good due e = refl
good_only is.Joining due e = let wrong : false ≡ true = e in cc
good_only is.Down due e = let wrong : false ≡ true = e in cc

module _ {line : Entry → Option ℕ} (c : CoreCopies) (s : Copies Entry) (st : StandsFor line c s) (p : ℕ) (own : IsHome c.group p) (was : status p c.members ≡ is.Good)
    (left : has_good c.group.shard (become p is.Down c.members) ≡ true) where
  m : Members
  m = become p is.Down c.members

  own_peer : IsPeer c.members.shape p
  own_peer = rw st.shape (home_peer c.group p st.shard own)

  own_shard : home_of c.members.shape p ≡ c.group.shard
  own_shard = rw st.shape (home_shard c.group p own)

  here : status p (become p is.Down c.members) ≡ is.Down
  here = become_here p is.Down c.members st.members own_peer

  good_before : (s.peers p).stage ≡ Good
  good_before = st.peers.stage p own ∙ ap (λ k. stage_of k (c.rejoins p).empty) was

  rises : view_of c.group.shard (become p is.Down c.members) ≡ suc s.view
  rises =
      let n : length c.members.views ≡ c.members.shape.shards = st.members.views in
      view_rises p c.group.shard is.Down c.members st.members (rw st.shape st.shard) own_shard (rw was refl) ∙ ap suc st.of_members

  record HasNewLead (l : ℕ) : Type 0 where
    chosen : lead (told (become p is.Down c.members) c.group) ≡ Some l
    leads : Leads (told (become p is.Down c.members) c.group) l
    other : l ≢ p
    good : (s.peers l).stage ≡ Good

  new_lead : (l : ℕ) × HasNewLead l
  new_lead =
      let q = good_found c.group (become p is.Down c.members) st.shape left in
      let n : length (told (become p is.Down c.members) c.group).copies ≡ c.group.shape.copies = told_length (become p is.Down c.members) c.group ∙ st.copies in
      let f = lead_found (told (become p is.Down c.members) c.group) q.0 n q.1 (told_good (become p is.Down c.members) c.group q.0 st.copies q.1 ∙ q.2) in
      let k : Leads (told (become p is.Down c.members) c.group) f.0 = f.2 in
      let g : is_good_status (status f.0 (become p is.Down c.members)) ≡ true = sym (told_good (become p is.Down c.members) c.group f.0 st.copies k.home) ∙ k.good in
      let apart : f.0 ≢ p = λ e. (let down : is_good_status (status f.0 (become p is.Down c.members)) ≡ false = rw (e, here) refl in let wrong : true ≡ false = sym g ∙ down in cc wrong) in (
        f.0,
        record {
          chosen = f.1;
          leads = k;
          other = apart;
          good = st.peers.stage f.0 k.home ∙ good_only (status f.0 c.members) (c.rejoins f.0).empty (ap is_good_status (sym (become_other p f.0 is.Down c.members apart)) ∙ g);
        },
      )

  module _ (l : ℕ) (d : HasNewLead l) where
    longest_left : (q : ℕ) → q ≢ p → (s.peers q).stage ≡ Good → length (s.peers q).list ≤ length (s.peers l).list
    longest_left q n g =
        let h = good_home c s st q g in
        let k : (copy_of (told (become p is.Down c.members) c.group) q).good ≡ true =
        told_good (become p is.Down c.members) c.group q st.copies h ∙ ap is_good_status (become_other p q is.Down c.members n)
        ∙ sym (good_status (status q c.members) (c.rejoins q).empty) ∙ ap is_good_stage (sym (st.peers.stage q h)) ∙ stage_good (s.peers q).stage g in
        omega (arith, d.leads.longest q h k, told_long (become p is.Down c.members) c.group q st.copies h, told_long (become p is.Down c.members) c.group l st.copies d.leads.home, length_is c s st q h, length_is c s st l d.leads.home)

    whole_left : is_peer p (lead c.group) ≡ false → length (s.peers l).list ≡ length s.log
    whole_left e =
        let k = stands_lead c s st in
        let apart : k.peer ≢ p = λ i. (let t : is_peer p (lead c.group) ≡ true = ap (is_peer p) k.is ∙ same_peer k.peer i in let wrong : true ≡ false = sym t ∙ e in cc wrong) in
        omega (arith, longest_left k.peer apart k.good, ap (λ j. length j) k.whole, front_length (s.peers l).list s.log (st.faithful.good l d.good).prefix)
      where
        same_peer : (k : ℕ) → k ≡ p → is_peer p (Some k) ≡ true
        same_peer k e = rw e (grind (arith, nat_tests))

    failing : CanCome s (Fail p l (is_peer p (lead c.group)) (View (view_of c.group.shard (become p is.Down c.members))))
    failing = (d.other, good_before, d.good, longest_left, whole_left)

    stages : (again : Bool) (dues : ℕ → Rejoin) → ((q : ℕ) → again ≡ true → (dues q).empty ≡ true) → ((q : ℕ) → again ≡ false → dues q ≡ c.rejoins q)
        → (q : ℕ) → IsHome c.group q → (begin_again again (staged p Down s.peers q)).stage ≡ stage_of (status q (become p is.Down c.members)) (dues q).empty
    stages true dues all none q h =
        put_cases (λ k. stage_again k.stage ≡ stage_of (status q (become p is.Down c.members)) (dues q).empty) p (record (s.peers p) { stage = Down }) s.peers q
        (λ e. rw (e, here) refl)
        (λ n. rw (all q refl, become_other p q is.Down c.members n, st.peers.stage q h) (clears (status q c.members) (c.rejoins q).empty))
    stages false dues all none q h =
        put_cases (λ k. k.stage ≡ stage_of (status q (become p is.Down c.members)) (dues q).empty) p (record (s.peers p) { stage = Down }) s.peers q
        (λ e. rw (e, here) refl)
        (λ n. rw (none q refl, become_other p q is.Down c.members n) (st.peers.stage q h))

    -- a peer that follows yet did so before
    followed : (again : Bool) (dues : ℕ → Rejoin) → ((q : ℕ) → again ≡ true → (dues q).empty ≡ true) → ((q : ℕ) → again ≡ false → dues q ≡ c.rejoins q)
        → (q : ℕ) → IsHome c.group q → (begin_again again (staged p Down s.peers q)).stage ≡ Following → (again ≡ false) × ((s.peers q).stage ≡ Following)
    followed true dues all none q h e =
        absurd (never_follows (status q (become p is.Down c.members)) (let k = stages true dues all none q h in rw (all q refl) at (sym k ∙ e)))
    followed false dues all none q h e =
        (refl, put_cases (λ k. k.stage ≡ Following → (s.peers q).stage ≡ Following) p (record (s.peers p) { stage = Down }) s.peers q (λ i f. let wrong : Down ≡ Following = f in absurd (cc wrong)) (λ n f. f) e)

    module _ (dues : ℕ → Rejoin) (all : (q : ℕ) → is_peer p (lead c.group) ≡ true → (dues q).empty ≡ true) (none : (q : ℕ) → is_peer p (lead c.group) ≡ false → dues q ≡ c.rejoins q) where
      again : Bool
      again = is_peer p (lead c.group)

      left_list : (q : ℕ) → (begin_again (is_peer p (lead c.group)) (staged p Down s.peers q)).list ≡ (s.peers q).list
      left_list q = again_list (is_peer p (lead c.group)) (staged p Down s.peers q) ∙ staged_list p Down s.peers q

      left_sealed : (q : ℕ) → (begin_again (is_peer p (lead c.group)) (staged p Down s.peers q)).sealed ≡ (s.peers q).sealed
      left_sealed q = again_sealed (is_peer p (lead c.group)) (staged p Down s.peers q) ∙ staged_sealed p Down s.peers q

      left_counted : (q : ℕ) → IsHome c.group q → (begin_again (is_peer p (lead c.group)) (staged p Down s.peers q)).stage ≡ Following
          → (dues q).len ≡ length (begin_again (is_peer p (lead c.group)) (staged p Down s.peers q)).list
      left_counted q h e =
          let k = followed (is_peer p (lead c.group)) dues all none q h e in
          ap (λ r. r.len) (none q k.0) ∙ st.peers.counted q h k.1 ∙ ap (λ j. length j) (sym (left_list q))

      left_still : (q : ℕ) → IsHome c.group q → (begin_again (is_peer p (lead c.group)) (staged p Down s.peers q)).stage ≡ Following
          → (begin_again (is_peer p (lead c.group)) (staged p Down s.peers q)).adding ≡ []
      left_still q h e =
          let k = followed (is_peer p (lead c.group)) dues all none q h e in
          again_adding (is_peer p (lead c.group)) (staged p Down s.peers q) ∙ staged_adding p Down s.peers q ∙ st.peers.still q h k.1

      left_elsewhere : (q : ℕ) → (IsHome c.group q → ⊥) → (begin_again (is_peer p (lead c.group)) (staged p Down s.peers q)).stage ≡ Down
      left_elsewhere q n =
          again_down (is_peer p (lead c.group)) (staged p Down s.peers q)
          (put_cases (λ k. k.stage ≡ Down) p (record (s.peers p) { stage = Down }) s.peers q (λ e. refl) (λ i. st.peers.elsewhere q n))

      left_good : (begin_again (is_peer p (lead c.group)) (staged p Down s.peers l)).stage ≡ Good
      left_good =
          good_stage (begin_again (is_peer p (lead c.group)) (staged p Down s.peers l)).stage
          (ap is_good_stage (stages (is_peer p (lead c.group)) dues all none l d.leads.home) ∙ good_status (status l (become p is.Down c.members)) (dues l).empty
          ∙ sym (told_good (become p is.Down c.members) c.group l st.copies d.leads.home) ∙ d.leads.good)

      left_within : IsFront (begin_again (is_peer p (lead c.group)) (staged p Down s.peers l)).list s.log
      left_within = rw (left_list l) (st.faithful.good l d.good).prefix

      left_has : length s.took ≤ length (begin_again (is_peer p (lead c.group)) (staged p Down s.peers l)).list
      left_has = rw (left_list l) (front_length s.took (s.peers l).list (took_good s st.faithful l d.good))

      failed_with : Falling line (record c { group = on_view (become p is.Down c.members) c.group; members = become p is.Down c.members; rejoins = dues; sent = view_messages (become p is.Down c.members) c.group ++ c.sent }) s
      failed_with =
          becomes_falling (record c { group = on_view (become p is.Down c.members) c.group; members = become p is.Down c.members; rejoins = dues; sent = view_messages (become p is.Down c.members) c.group ++ c.sent }) s
          (Fail p l (is_peer p (lead c.group)) (View (view_of c.group.shard (become p is.Down c.members)))) tt
          (new_view c s st (become p is.Down c.members) dues (λ q. begin_again (is_peer p (lead c.group)) (staged p Down s.peers q)) l
          (Fail p l (is_peer p (lead c.group)) (View (view_of c.group.shard (become p is.Down c.members))))
          failing refl (λ v. rises) (st.views (view_of c.group.shard (become p is.Down c.members))) st.shape (become_members p is.Down c.members st.members) rises left_list left_sealed
          (stages (is_peer p (lead c.group)) dues all none) left_counted left_still left_elsewhere d.chosen d.leads.home left_good left_within left_has)

      led_after : (k : ℕ) × (lead (on_view (become p is.Down c.members) c.group) ≡ Some k)
      led_after =
          led_anew c s (before c s st) (become p is.Down c.members) dues (λ q. begin_again (is_peer p (lead c.group)) (staged p Down s.peers q)) l
          st.shape (become_members p is.Down c.members st.members) rises left_list left_sealed
          (stages (is_peer p (lead c.group)) dues all none) left_counted left_still left_elsewhere d.chosen d.leads.home left_good left_within left_has

pub failed : {line : Entry → Option ℕ} (c : CoreCopies) (s : Copies Entry) → StandsFor line c s → (p : ℕ) → IsHome c.group p → status p c.members ≡ is.Good
    → has_good c.group.shard (become p is.Down c.members) ≡ true → Falling line (core_fail p c) s
failed {line = line} c s st p own was left = go (is_peer p (lead c.group)) refl
  where
    d : (l : ℕ) × HasNewLead c s st p own was left l
    d = new_lead c s st p own was left

    m : Members
    m = become p is.Down c.members

    dues : Bool → ℕ → Rejoin
    dues true q = begin_with (lead (on_view (become p is.Down c.members) c.group)) (c.rejoins q)
    dues false q = c.rejoins q

    fail_if : (b : Bool) → is_peer p (lead c.group) ≡ b
        → core_fail p c ≡ record c { group = on_view (become p is.Down c.members) c.group; members = become p is.Down c.members; rejoins = dues b; sent = view_messages (become p is.Down c.members) c.group ++ c.sent }
    fail_if true e =
        ap (λ t. if t then record (core_view (become p is.Down c.members) c) { rejoins = λ q. begin_with (lead (on_view (become p is.Down c.members) c.group)) (c.rejoins q) } else core_view (become p is.Down c.members) c) e
    fail_if false e =
        ap (λ t. if t then record (core_view (become p is.Down c.members) c) { rejoins = λ q. begin_with (lead (on_view (become p is.Down c.members) c.group)) (c.rejoins q) } else core_view (become p is.Down c.members) c) e

    go : (b : Bool) → is_peer p (lead c.group) ≡ b → Falling line (core_fail p c) s
    go true e =
        let blank : ℕ → Rejoin = λ q. new_rejoin p in
        let k = led_after c s st p own was left d.0 d.1 blank (λ q t. refl) (λ q f. let wrong : true ≡ false = sym e ∙ f in absurd (cc wrong)) in
        let due : (q : ℕ) → is_peer p (lead c.group) ≡ true → (begin_with (lead (on_view (become p is.Down c.members) c.group)) (c.rejoins q)).empty ≡ true =
        λ q t. ap (λ o. (begin_with o (c.rejoins q)).empty) k.1 in
        rw (fail_if true e)
        (failed_with c s st p own was left d.0 d.1 (dues true) due (λ q f. let wrong : true ≡ false = sym e ∙ f in absurd (cc wrong)))
    go false e =
        rw (fail_if false e)
        (failed_with c s st p own was left d.0 d.1 c.rejoins (λ q t. let wrong : true ≡ false = sym t ∙ e in absurd (cc wrong)) (λ q f. refl))

-- ---- a joining peer is good

module _ {line : Entry → Option ℕ} (c : CoreCopies) (s : Copies Entry) (st : StandsFor line c s) (p : ℕ) (own : IsHome c.group p) (joins : status p c.members ≡ is.Joining)
    (done : (c.rejoins p).empty ≡ false) (level : (c.rejoins p).len ≡ length s.log) where
  joiner : IsPeer c.members.shape p
  joiner = rw st.shape (home_peer c.group p st.shard own)

  joiner_shard : home_of c.members.shape p ≡ c.group.shard
  joiner_shard = rw st.shape (home_shard c.group p own)

  good_now : status p (become p is.Good c.members) ≡ is.Good
  good_now = become_here p is.Good c.members st.members joiner

  follows : (s.peers p).stage ≡ Following
  follows = st.peers.stage p own ∙ ap (λ k. stage_of k (c.rejoins p).empty) joins ∙ ap (λ b. stage_of is.Joining b) done

  long : length (s.peers p).list ≡ length s.log
  long = sym (st.peers.counted p own follows) ∙ level

  joiner_front : IsFront (s.peers p).list s.log
  joiner_front = front_left (s.peers p).list (s.peers p).adding s.log (st.faithful.following p follows).0

  join_rises : view_of c.group.shard (become p is.Good c.members) ≡ suc s.view
  join_rises = view_rises p c.group.shard is.Good c.members st.members (rw st.shape st.shard) joiner_shard (rw joins refl) ∙ ap suc st.of_members

  join_stages : (q : ℕ) → IsHome c.group q → (staged p Good s.peers q).stage ≡ stage_of (status q (become p is.Good c.members)) (c.rejoins q).empty
  join_stages q h =
      put_cases (λ k. k.stage ≡ stage_of (status q (become p is.Good c.members)) (c.rejoins q).empty) p (record (s.peers p) { stage = Good }) s.peers q
      (λ e. rw (e, good_now) refl)
      (λ n. rw (become_other p q is.Good c.members n) (st.peers.stage q h))

  join_counted : (q : ℕ) → IsHome c.group q → (staged p Good s.peers q).stage ≡ Following → (c.rejoins q).len ≡ length (staged p Good s.peers q).list
  join_counted q h =
      put_cases (λ k. k.stage ≡ Following → (c.rejoins q).len ≡ length k.list) p (record (s.peers p) { stage = Good }) s.peers q
      (λ e f. absurd (not_good_following Good refl f)) (λ n. st.peers.counted q h)

  join_still : (q : ℕ) → IsHome c.group q → (staged p Good s.peers q).stage ≡ Following → (staged p Good s.peers q).adding ≡ []
  join_still q h =
      put_cases (λ k. k.stage ≡ Following → k.adding ≡ []) p (record (s.peers p) { stage = Good }) s.peers q
      (λ e f. absurd (not_good_following Good refl f)) (λ n. st.peers.still q h)

  join_elsewhere : (q : ℕ) → (IsHome c.group q → ⊥) → (staged p Good s.peers q).stage ≡ Down
  join_elsewhere q n =
      put_cases (λ k. k.stage ≡ Down) p (record (s.peers p) { stage = Good }) s.peers q
      (λ e. absurd (n (rw e own))) (λ i. st.peers.elsewhere q n)

  record HasJoinLead (l : ℕ) : Type 0 where
    chosen : lead (told (become p is.Good c.members) c.group) ≡ Some l
    leads : Leads (told (become p is.Good c.members) c.group) l

  join_lead : (l : ℕ) × HasJoinLead l
  join_lead =
      let n : length (told (become p is.Good c.members) c.group).copies ≡ c.group.shape.copies = told_length (become p is.Good c.members) c.group ∙ st.copies in
      let f = lead_found (told (become p is.Good c.members) c.group) p n own (told_good (become p is.Good c.members) c.group p st.copies own ∙ ap is_good_status good_now) in
      (f.0, record { chosen = f.1; leads = f.2 })

  module _ (l : ℕ) (d : HasJoinLead l) where
    good_other : l ≢ p → (s.peers l).stage ≡ Good
    good_other n =
        st.peers.stage l d.leads.home
        ∙ good_only (status l c.members) (c.rejoins l).empty
        (ap is_good_status (sym (become_other p l is.Good c.members n)) ∙ sym (told_good (become p is.Good c.members) c.group l st.copies d.leads.home) ∙ d.leads.good)

    within_log : IsFront (s.peers l).list s.log
    within_log = elim (same_or_other l p) [ inl e ↦ rw e joiner_front | inr n ↦ (st.faithful.good l (good_other n)).prefix ]

    lead_whole : length (s.peers l).list ≡ length s.log
    lead_whole =
        let k : (copy_of (told (become p is.Good c.members) c.group) p).good ≡ true = told_good (become p is.Good c.members) c.group p st.copies own ∙ ap is_good_status good_now in
        omega (
          arith,
          d.leads.longest p own k,
          told_long (become p is.Good c.members) c.group p st.copies own,
          told_long (become p is.Good c.members) c.group l st.copies d.leads.home,
          length_is c s st p own,
          length_is c s st l d.leads.home,
          long,
          front_length (s.peers l).list s.log within_log,
        )

    joining : CanCome s (Join p l (View (view_of c.group.shard (become p is.Good c.members))))
    joining = (follows, st.peers.still p own follows, long, (good_other, lead_whole))

    lead_good : (staged p Good s.peers l).stage ≡ Good
    lead_good =
        put_cases (λ k. k.stage ≡ Good) p (record (s.peers p) { stage = Good }) s.peers l (λ e. refl) good_other

    lead_within : IsFront (staged p Good s.peers l).list s.log
    lead_within = rw (staged_list p Good s.peers l) within_log

    lead_has : length s.took ≤ length (staged p Good s.peers l).list
    lead_has = omega (arith, ap (λ k. length k) (staged_list p Good s.peers l), lead_whole, front_length s.took s.log st.faithful.took)

    joined_with : Quietly line (core_join p c) s
    joined_with =
        becomes_quietly (core_join p c) s (Join p l (View (view_of c.group.shard (become p is.Good c.members)))) tt tt
        (new_view c s st (become p is.Good c.members) c.rejoins (staged p Good s.peers) l
        (Join p l (View (view_of c.group.shard (become p is.Good c.members))))
        joining refl (λ v. join_rises) (st.views (view_of c.group.shard (become p is.Good c.members))) st.shape (become_members p is.Good c.members st.members) join_rises (staged_list p Good s.peers) (staged_sealed p Good s.peers)
        join_stages join_counted join_still join_elsewhere d.chosen d.leads.home lead_good lead_within lead_has)

pub joined : {line : Entry → Option ℕ} (c : CoreCopies) (s : Copies Entry) → StandsFor line c s → (p l : ℕ) → IsHome c.group p → status p c.members ≡ is.Joining
    → lead c.group ≡ Some l → is_level (length_of c.group l) (c.rejoins p) ≡ true → Quietly line (core_join p c) s
joined {line = line} c s st p l own joins e level =
    let k = stands_lead c s st in
    let same : k.peer ≡ l = let i : Some k.peer ≡ Some l = sym k.is ∙ e in cc i in
    let n : length_of c.group l ≡ length s.log = rw (← same) (length_is c s st k.peer k.leads.home ∙ ap (λ j. length j) k.whole) in
    let done : (c.rejoins p).empty ≡ false = not_due (c.rejoins p).empty (and_left (not (c.rejoins p).empty) ((c.rejoins p).len == length_of c.group l) level) in
    let long : (c.rejoins p).len ≡ length s.log = eqb-true (c.rejoins p).len (length_of c.group l) (and_right (not (c.rejoins p).empty) ((c.rejoins p).len == length_of c.group l) level) ∙ n in
    let d = join_lead c s st p own joins done long in
    joined_with c s st p own joins done long d.0 d.1
  where
    not_due : (b : Bool) → not b ≡ true → b ≡ false
    not_due false e = refl
    not_due true e = let wrong : false ≡ true = e in cc

-- ---- what doesn't concern the shard

pub alike_stands : {line : Entry → Option ℕ} (c : CoreCopies) (s : Copies Entry) → StandsFor line c s → (m : Members) (rejoins : ℕ → Rejoin) → IsAlike c m rejoins
    → StandsFor line (record c { members = m; rejoins = rejoins }) s
alike_stands {line = line} c s st m rejoins a =
    record {
      shape = a.shape ∙ st.shape;
      members = a.valid;
      shard = st.shard;
      copies = st.copies;
      view = st.view;
      of_members = a.view ∙ st.of_members;
      peers = record {
        each = st.peers.each;
        stage = λ q h. rw (a.statuses q h, a.empties q h) (st.peers.stage q h);
        counted = λ q h f. a.counts q h ∙ st.peers.counted q h f;
        still = st.peers.still;
        elsewhere = st.peers.elsewhere;
      };
      front = st.front;
      waiting = st.waiting;
      sent = st.sent;
      faithful = st.faithful;
      views = st.views;
      lines = st.lines;
      begun = st.begun;
      begun_at = st.begun_at;
      told = st.told;
    }

pub elsewhere_stands : {line : Entry → Option ℕ} (c : CoreCopies) (s : Copies Entry) → StandsFor line c s → (p : ℕ) (new : PeerStatus) → 0 < c.group.shape.copies → (IsHome c.group p → ⊥)
    → StandsFor line (record c { members = become p new c.members }) s
elsewhere_stands {line = line} c s st p new some n =
    let apart : c.group.shard ≢ home_of c.members.shape p = λ e. other_shard c.group p some n (rw st.shape at (sym e)) in
    alike_stands c s st (become p new c.members) c.rejoins
    (record {
      shape = refl;
      valid = become_members p new c.members st.members;
      view = view_elsewhere p c.group.shard new c.members apart;
      statuses = λ q h. become_other p q new c.members (λ e. n (rw (← e) h));
      empties = λ q h. refl;
      counts = λ q h. refl;
    })
