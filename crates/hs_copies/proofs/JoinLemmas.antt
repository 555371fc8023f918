-- What the core does with a joining peer is events of the machine.
use Rattle.std.proofs.Common.{◌≡◌, ◌≢◌, ℕ, zero, suc, ◌+◌, ◌-◌, ◌≤◌, ◌<◌, Bool, true, false, List, [], ◌∷◌, ◌++◌, refl, sym, arith, length, Some, ap, ◌∙◌, Option}
use Rattle.std.proofs.lemmas.List.{length-append, length-set, map-append}
use Rattle.std.specs.Option.{option_map_or}
use Rattle.std.specs.Prelude.{slice_get, slice_index_or}
use Rattle.hs_entry.specs.declared.entry.Entry.{Entry}
use Rattle.hs_limits.specs.declared.limits.PeerStatus.TheVariants as is
use Rattle.hs_members.specs.Members.{IsPeer, become, changes_good, status}
use Rattle.hs_rejoin.specs.Rejoin.{Rejoin, copied, emptied}
use Rattle.hs_replica.specs.declared.replica.Replica.{Replica}
use Rattle.hs_replica.specs.Group.{Group, IsHome, change_copy, copy_of, lead, length_of, on_copied, on_emptied, view_after}
use Rattle.hs_copies.specs.CoreCopies.{CoreCopies, begin_with, core_copied, core_empty, core_give_up, core_start}
use Rattle.hs_copies.specs.Lists.{IsFront, Item}
use Rattle.hs_copies.specs.Machine.{Clearing, Cleared, Copied, Copies, Copying, Down, Following, GiveUp, Good, CanCome, PeerCopy, Stage, Start, after_event, put_at}
use Rattle.hs_copies.specs.Standing.{IsCopyingStep, StandsFor, is_good_stage, stage_of, stamps_of}
use Rattle.hs_copies.proofs.HomeLemmas.{set_other, set_same}
use Rattle.hs_copies.proofs.LineLemmas.{lines_after}
use Rattle.hs_copies.proofs.ListLemmas.{front_left, front_step}
use Rattle.hs_copies.proofs.PeerLemmas.{put_here, put_other}
use Rattle.hs_copies.proofs.QuietLemmas.{GetsList, Quietly, quiet_event}
use Rattle.hs_copies.proofs.StampLemmas.{tells_after}
use Rattle.hs_copies.proofs.StandLemmas.{length_is, not_good_following, one_changes, stands_lead}
use Rattle.hs_copies.proofs.StatusLemmas.{become_here, become_members, become_other, home_peer, view_stays}
use Rattle.hs_copies.proofs.ViewKeeps.{after_right}

joining_not_good : (due : Bool) → is_good_stage (stage_of is.Joining due) ≡ false
joining_not_good true = refl
joining_not_good false = refl

not_good : (k : Stage) → is_good_stage k ≡ false → k ≢ Good
not_good k e f = let wrong : true ≡ false = rw f at e in cc wrong

not_down_following : (k : Stage) → k ≡ Down → k ≡ Following → ⊥
not_down_following k a b = cc (a, b)

not_clearing_following : (k : Stage) → k ≡ Clearing → k ≡ Following → ⊥
not_clearing_following k a b = cc (a, b)

module _ {line : Entry → Option ℕ} (c : CoreCopies) (s : Copies Entry) (st : StandsFor line c s) (p : ℕ) (own : IsHome c.group p) where
  own_peer : IsPeer c.members.shape p
  own_peer = rw st.shape (home_peer c.group p st.shard own)

  -- ---- a joining peer goes down

  module _ (joins : status p c.members ≡ is.Joining) where
    joining : is_good_stage (s.peers p).stage ≡ false
    joining = ap is_good_stage (st.peers.stage p own) ∙ ap (λ k. is_good_stage (stage_of k (c.rejoins p).empty)) joins ∙ joining_not_good (c.rejoins p).empty

    giving_up : CanCome s (GiveUp p)
    giving_up = not_good (s.peers p).stage joining

    no_change : changes_good (status p c.members) is.Down ≡ false
    no_change = rw joins refl

    gave_up_stands : StandsFor line (core_give_up p c) (after_event (GiveUp p) s)
    gave_up_stands =
        let new : PeerCopy Entry = record (s.peers p) { stage = Down } in
        let k = st.peers.each p own in
        record {
          shape = st.shape;
          members = become_members p is.Down c.members st.members;
          shard = st.shard;
          copies = st.copies;
          view = st.view;
          of_members = view_stays p c.group.shard is.Down c.members no_change ∙ st.of_members;
          peers = one_changes (IsHome c.group) (copy_of c.group) (copy_of c.group) (λ q. status q c.members) (λ q. status q (become p is.Down c.members))
              c.rejoins c.rejoins s.peers (put_at p new s.peers) p st.peers own
              (λ q h n. refl) (λ q h n. become_other p q is.Down c.members n) (λ q n. refl) (λ q n. put_other p new s.peers q n)
              (rw (put_here p new s.peers) (record { good = k.good ∙ joining; stamps = k.stamps; sealed = k.sealed; known = k.known }))
              (rw (put_here p new s.peers, become_here p is.Down c.members st.members own_peer) refl)
              (rw (put_here p new s.peers) (λ f. absurd (not_down_following Down refl f)))
              (rw (put_here p new s.peers) (λ f. absurd (not_down_following Down refl f)));
          front = st.front;
          waiting = st.waiting;
          sent = st.sent;
          faithful = after_right s st.faithful (GiveUp p) giving_up;
          views = st.views;
          lines = lines_after s c.waits st.faithful st.lines (GiveUp p) giving_up tt;
          begun = st.begun;
          begun_at = st.begun_at;
          told = tells_after view_after st.begun st.begun_at s st.faithful st.told (GiveUp p) giving_up tt;
        }

    pub gave_up : Quietly line (core_give_up p c) s
    gave_up = quiet_event (core_give_up p c) s (GiveUp p) tt tt giving_up gave_up_stands

  -- ---- a peer that is down begins to join

  module _ (lies : status p c.members ≡ is.Down) where
    down : (s.peers p).stage ≡ Down
    down = st.peers.stage p own ∙ ap (λ k. stage_of k (c.rejoins p).empty) lies

    starting : CanCome s (Start p)
    starting = not_good (s.peers p).stage (ap is_good_stage down)

    no_good_change : changes_good (status p c.members) is.Joining ≡ false
    no_good_change = rw lies refl

    started_stands : StandsFor line (core_start p c) (after_event (Start p) s)
    started_stands =
        let d = stands_lead c s st in
        let new : PeerCopy Entry = record (s.peers p) { stage = Clearing } in
        let k = st.peers.each p own in
        let begun : Rejoin = begin_with (lead c.group) (c.rejoins p) in
        let due : begun.empty ≡ true = ap (λ o. (begin_with o (c.rejoins p)).empty) d.is in
        record {
          shape = st.shape;
          members = become_members p is.Joining c.members st.members;
          shard = st.shard;
          copies = st.copies;
          view = st.view;
          of_members = view_stays p c.group.shard is.Joining c.members no_good_change ∙ st.of_members;
          peers = one_changes (IsHome c.group) (copy_of c.group) (copy_of c.group) (λ q. status q c.members) (λ q. status q (become p is.Joining c.members))
              c.rejoins (put_at p begun c.rejoins) s.peers (put_at p new s.peers) p st.peers own
              (λ q h n. refl) (λ q h n. become_other p q is.Joining c.members n) (λ q n. put_other p begun c.rejoins q n) (λ q n. put_other p new s.peers q n)
              (rw (put_here p new s.peers) (record { good = k.good ∙ ap is_good_stage down; stamps = k.stamps; sealed = k.sealed; known = k.known }))
              (rw (put_here p new s.peers, become_here p is.Joining c.members st.members own_peer, put_here p begun c.rejoins, due) refl)
              (rw (put_here p new s.peers) (λ f. absurd (not_clearing_following Clearing refl f)))
              (rw (put_here p new s.peers) (λ f. absurd (not_clearing_following Clearing refl f)));
          front = st.front;
          waiting = st.waiting;
          sent = st.sent;
          faithful = after_right s st.faithful (Start p) starting;
          views = st.views;
          lines = lines_after s c.waits st.faithful st.lines (Start p) starting tt;
          begun = st.begun;
          begun_at = st.begun_at;
          told = tells_after view_after st.begun st.begun_at s st.faithful st.told (Start p) starting tt;
        }

    pub started : Quietly line (core_start p c) s
    started = quiet_event (core_start p c) s (Start p) tt tt starting started_stands

  -- ---- its disk was emptied

  module _ (joins : status p c.members ≡ is.Joining) (due : (c.rejoins p).empty ≡ true) where
    clearing : (s.peers p).stage ≡ Clearing
    clearing = st.peers.stage p own ∙ ap (λ k. stage_of k (c.rejoins p).empty) joins ∙ ap (λ b. stage_of is.Joining b) due

    emptying : CanCome s (Cleared p 0)
    emptying = (clearing, tt)

    emptied_stands : StandsFor line (core_empty p c) (after_event (Cleared p 0) s)
    emptied_stands =
        let new : PeerCopy Entry = record (s.peers p) { stage = Following; list = []; adding = []; sealed = 0 } in
        let k = st.peers.each p own in
        let next : Rejoin = emptied (c.rejoins p) in
        record {
          shape = st.shape;
          members = st.members;
          shard = st.shard;
          copies = length-set c.group.copies _ _ ∙ st.copies;
          view = st.view;
          of_members = st.of_members;
          peers = one_changes (IsHome c.group) (copy_of c.group) (copy_of (on_emptied p c.group)) (λ q. status q c.members) (λ q. status q c.members)
              c.rejoins (put_at p next c.rejoins) s.peers (put_at p new s.peers) p st.peers own
              (λ q h n. set_other c.group p q (λ r. record r { stamps = []; sealed = 0 }) own h n) (λ q h n. refl) (λ q n. put_other p next c.rejoins q n) (λ q n. put_other p new s.peers q n)
              (rw (put_here p new s.peers, set_same c.group p (λ r. record r { stamps = []; sealed = 0 }) st.copies own)
              (record { good = k.good ∙ ap is_good_stage clearing; stamps = refl; sealed = refl; known = k.known }))
              (rw (put_here p new s.peers, joins, put_here p next c.rejoins) refl)
              (rw (put_here p new s.peers, put_here p next c.rejoins) (λ f. refl))
              (rw (put_here p new s.peers) (λ f. refl));
          front = st.front;
          waiting = st.waiting;
          sent = st.sent;
          faithful = after_right s st.faithful (Cleared p 0) emptying;
          views = st.views;
          lines = lines_after s c.waits st.faithful st.lines (Cleared p 0) emptying tt;
          begun = st.begun;
          begun_at = st.begun_at;
          told = tells_after view_after st.begun st.begun_at s st.faithful st.told (Cleared p 0) emptying tt;
        }

    pub emptied_core : GetsList line (core_empty p c) s p []
    emptied_core =
        let new : PeerCopy Entry = record (s.peers p) { stage = Following; list = []; adding = []; sealed = 0 } in
        record {
          events = Cleared p 0 ∷ [];
          allowed = (emptying, tt);
          stands = emptied_stands;
          here = ap (λ (k : PeerCopy Entry). k.list) (put_here p new s.peers);
          sealed = ap (λ (k : PeerCopy Entry). k.sealed) (put_here p new s.peers);
          others = λ q n. put_other p new s.peers q n;
        }

-- ---- an entry was copied to it

copied_is : (p number l : ℕ) (group : Group) → lead group ≡ Some l
    → on_copied p number group ≡ change_copy p (λ c. record c { stamps = c.stamps ++ slice_index_or (copy_of group l).stamps (number - 1) 0 ∷ []; sealed = number }) group
copied_is p number l group e =
    ap (λ o. change_copy p (λ c. record c { stamps = c.stamps ++ slice_index_or (option_map_or (λ l. (copy_of group l).stamps) o []) (number - 1) 0 ∷ []; sealed = number }) group) e

stamp_of_item : (xs : List (Item Entry)) (n : ℕ) (x : Item Entry) → slice_get xs n ≡ Some x → slice_index_or (stamps_of xs) n 0 ≡ x.view
stamp_of_item [] n x e = absurd (cc e)
stamp_of_item (y ∷ xs) zero x e = let k : y ≡ x = cc e in ap (λ (z : Item Entry). z.view) k
stamp_of_item (y ∷ xs) (suc n) x e = stamp_of_item xs n x e

pub item_at : {X : Type 0} (xs : List X) (n : ℕ) → n < length xs → (x : X) × (slice_get xs n ≡ Some x)
item_at [] n l = absurd (omega (arith, l))
item_at (y ∷ xs) zero l = (y, refl)
item_at (y ∷ xs) (suc n) l = item_at xs n (omega (arith, l))

module _ {line : Entry → Option ℕ} (c : CoreCopies) (s : Copies Entry) (st : StandsFor line c s) (p number : ℕ) (own : IsHome c.group p) (joins : status p c.members ≡ is.Joining)
    (done : (c.rejoins p).empty ≡ false) (next : number ≡ (c.rejoins p).len + 1)
    (x : Item Entry) (here : slice_get s.log (length (s.peers p).list) ≡ Some x) where
  pub following : (s.peers p).stage ≡ Following
  following = st.peers.stage p own ∙ ap (λ k. stage_of k (c.rejoins p).empty) joins ∙ ap (λ b. stage_of is.Joining b) done

  pub counts : (c.rejoins p).len ≡ length (s.peers p).list
  counts = st.peers.counted p own following

  front : IsFront (s.peers p).list s.log
  front = front_left (s.peers p).list (s.peers p).adding s.log (st.faithful.following p following).0

  pub copying : CanCome s (Copying p (x ∷ []))
  copying = (following, front_step (s.peers p).list s.log x front here, st.peers.still p own following)

  new : PeerCopy Entry
  new = record (s.peers p) { adding = x ∷ [] }

  newer : PeerCopy Entry
  newer = record (put_at p (record (s.peers p) { adding = x ∷ [] }) s.peers p) {
    list = (put_at p (record (s.peers p) { adding = x ∷ [] }) s.peers p).list ++ (put_at p (record (s.peers p) { adding = x ∷ [] }) s.peers p).adding;
    adding = [];
    sealed = length ((put_at p (record (s.peers p) { adding = x ∷ [] }) s.peers p).list ++ (put_at p (record (s.peers p) { adding = x ∷ [] }) s.peers p).adding);
  }

  whole : PeerCopy Entry
  whole = record (s.peers p) { list = (s.peers p).list ++ x ∷ []; adding = []; sealed = length ((s.peers p).list ++ x ∷ []) }

  is_whole : newer ≡ whole
  unfolding newer whole
  is_whole = rw (put_here p (record (s.peers p) { adding = x ∷ [] }) s.peers) refl

  s1 : Copies Entry
  s1 = after_event (Copying p (x ∷ [])) s

  copy_done : CanCome (after_event (Copying p (x ∷ [])) s) (Copied p)
  copy_done = rw (put_here p (record (s.peers p) { adding = x ∷ [] }) s.peers) following

  number_is : number ≡ length ((s.peers p).list ++ x ∷ [])
  number_is = omega (arith, next, counts, length-append (s.peers p).list (x ∷ []))

  stamp_is : (l : ℕ) → IsHome c.group l → (s.peers l).list ≡ s.log → slice_index_or (copy_of c.group l).stamps (number - 1) 0 ≡ x.view
  stamp_is l h w =
      let n : number - 1 ≡ length (s.peers p).list = omega (arith, next, counts) in
      let k : (copy_of c.group l).stamps ≡ stamps_of s.log = (st.peers.each l h).stamps ∙ ap stamps_of w in
      rw (n, k) (stamp_of_item s.log (length (s.peers p).list) x here)

  -- the copy of the group
  with_one : ℕ → Replica → Replica
  with_one view r = record r { stamps = r.stamps ++ view ∷ []; sealed = number }

  copied_stands : StandsFor line (record c { group = change_copy p (λ r. record r { stamps = r.stamps ++ x.view ∷ []; sealed = number }) c.group; rejoins = put_at p (copied number (c.rejoins p)) c.rejoins })
      (after_event (Copied p) (after_event (Copying p (x ∷ [])) s))
  unfolding newer whole
  copied_stands =
      let k = st.peers.each p own in
      let f : Replica → Replica = λ r. record r { stamps = r.stamps ++ x.view ∷ []; sealed = number } in
      let counted : Rejoin = copied number (c.rejoins p) in
      let mid = after_right s st.faithful (Copying p (x ∷ [])) copying in
      let opened = lines_after s c.waits st.faithful st.lines (Copying p (x ∷ [])) copying tt in
      let mid_told = tells_after view_after st.begun st.begun_at s st.faithful st.told (Copying p (x ∷ [])) copying tt in
      let first : PeerCopy Entry = record (s.peers p) { adding = x ∷ [] } in
      let becomes_whole : put_at p newer (put_at p first s.peers) p ≡ whole = put_here p newer (put_at p first s.peers) ∙ is_whole in
      record {
        shape = st.shape;
        members = st.members;
        shard = st.shard;
        copies = length-set c.group.copies _ _ ∙ st.copies;
        view = st.view;
        of_members = st.of_members;
        peers = one_changes (IsHome c.group) (copy_of c.group) (copy_of (change_copy p f c.group)) (λ q. status q c.members) (λ q. status q c.members)
            c.rejoins (put_at p counted c.rejoins) s.peers (put_at p newer (put_at p first s.peers)) p st.peers own
            (λ q h n. set_other c.group p q f own h n) (λ q h n. refl) (λ q n. put_other p counted c.rejoins q n)
            (λ q n. put_other p newer (put_at p first s.peers) q n ∙ put_other p first s.peers q n)
            (rw (becomes_whole, set_same c.group p f st.copies own)
            (record { good = k.good; stamps = ap (λ j. j ++ x.view ∷ []) k.stamps ∙ sym (map-append (λ y. y.view) (s.peers p).list (x ∷ [])); sealed = number_is; known = k.known }))
            (rw (becomes_whole, joins, put_here p counted c.rejoins, done) following)
            (rw (becomes_whole, put_here p counted c.rejoins) (λ f. number_is))
            (rw becomes_whole (λ f. refl));
        front = st.front;
        waiting = st.waiting;
        sent = st.sent;
        faithful = after_right (after_event (Copying p (x ∷ [])) s) mid (Copied p) copy_done;
        views = st.views;
        lines = lines_after (after_event (Copying p (x ∷ [])) s) c.waits mid opened (Copied p) copy_done tt;
        begun = st.begun;
        begun_at = st.begun_at;
        told = tells_after view_after st.begun st.begun_at (after_event (Copying p (x ∷ [])) s) mid mid_told (Copied p) copy_done tt;
      }

  pub copied_one : GetsList line (core_copied p number c) s p ((s.peers p).list ++ x ∷ [])
  unfolding newer whole
  copied_one =
      let d = stands_lead c s st in
      rw (copied_is p number d.peer c.group d.is, stamp_is d.peer d.leads.home d.whole)
      (record {
        events = Copying p (x ∷ []) ∷ Copied p ∷ [];
        allowed = (copying, (copy_done, tt));
        stands = copied_stands;
        here = ap (λ (k : PeerCopy Entry). k.list) becomes;
        sealed = ap (λ (k : PeerCopy Entry). k.sealed) becomes;
        others = λ q n. put_other p newer (put_at p (record (s.peers p) { adding = x ∷ [] }) s.peers) q n ∙ put_other p (record (s.peers p) { adding = x ∷ [] }) s.peers q n;
      })
    where
      becomes : put_at p newer (put_at p (record (s.peers p) { adding = x ∷ [] }) s.peers) p ≡ whole
      becomes = put_here p newer (put_at p (record (s.peers p) { adding = x ∷ [] }) s.peers) ∙ is_whole

  -- ---- the step is broken off

  broken_off : CanCome (after_event (Copying p (x ∷ [])) s) (GiveUp p)
  broken_off = rw (put_here p (record (s.peers p) { adding = x ∷ [] }) s.peers) (λ e. not_good_following (s.peers p).stage e following)

  lies : PeerCopy Entry
  lies = record (put_at p (record (s.peers p) { adding = x ∷ [] }) s.peers p) { stage = Down }

  broken : PeerCopy Entry
  broken = record (s.peers p) { adding = x ∷ []; stage = Down }

  is_broken : lies ≡ broken
  unfolding lies broken
  is_broken = rw (put_here p (record (s.peers p) { adding = x ∷ [] }) s.peers) refl

  broken_stands : StandsFor line (core_give_up p c) (after_event (GiveUp p) (after_event (Copying p (x ∷ [])) s))
  unfolding lies broken
  broken_stands =
      let k = st.peers.each p own in
      let peer : IsPeer c.members.shape p = rw st.shape (home_peer c.group p st.shard own) in
      let mid = after_right s st.faithful (Copying p (x ∷ [])) copying in
      let opened = lines_after s c.waits st.faithful st.lines (Copying p (x ∷ [])) copying tt in
      let mid_told = tells_after view_after st.begun st.begun_at s st.faithful st.told (Copying p (x ∷ [])) copying tt in
      let first : PeerCopy Entry = record (s.peers p) { adding = x ∷ [] } in
      let becomes_broken : put_at p lies (put_at p first s.peers) p ≡ broken = put_here p lies (put_at p first s.peers) ∙ is_broken in
      record {
        shape = st.shape;
        members = become_members p is.Down c.members st.members;
        shard = st.shard;
        copies = st.copies;
        view = st.view;
        of_members = view_stays p c.group.shard is.Down c.members (rw joins refl) ∙ st.of_members;
        peers = one_changes (IsHome c.group) (copy_of c.group) (copy_of c.group) (λ q. status q c.members) (λ q. status q (become p is.Down c.members))
            c.rejoins c.rejoins s.peers (put_at p lies (put_at p first s.peers)) p st.peers own
            (λ q h n. refl) (λ q h n. become_other p q is.Down c.members n) (λ q n. refl)
            (λ q n. put_other p lies (put_at p first s.peers) q n ∙ put_other p first s.peers q n)
            (rw becomes_broken (record { good = k.good ∙ ap is_good_stage following; stamps = k.stamps; sealed = k.sealed; known = k.known }))
            (rw (becomes_broken, become_here p is.Down c.members st.members peer) refl)
            (rw becomes_broken (λ f. absurd (not_down_following Down refl f)))
            (rw becomes_broken (λ f. absurd (not_down_following Down refl f)));
        front = st.front;
        waiting = st.waiting;
        sent = st.sent;
        faithful = after_right (after_event (Copying p (x ∷ [])) s) mid (GiveUp p) broken_off;
        views = st.views;
        lines = lines_after (after_event (Copying p (x ∷ [])) s) c.waits mid opened (GiveUp p) broken_off tt;
        begun = st.begun;
        begun_at = st.begun_at;
        told = tells_after view_after st.begun st.begun_at (after_event (Copying p (x ∷ [])) s) mid mid_told (GiveUp p) broken_off tt;
      }

  pub under_way : IsCopyingStep line c s p
  under_way =
      record {
        item = x;
        next = here;
        begins = copying;
        breaks = broken_off;
        broken = broken_stands;
      }

pub copied_core : {line : Entry → Option ℕ} (c : CoreCopies) (s : Copies Entry) → StandsFor line c s → (p number l : ℕ) → IsHome c.group p → status p c.members ≡ is.Joining
    → (c.rejoins p).empty ≡ false → number ≡ (c.rejoins p).len + 1 → lead c.group ≡ Some l → number ≤ length_of c.group l
    → (x : Item Entry) × (slice_get s.log (length (s.peers p).list) ≡ Some x) × GetsList line (core_copied p number c) s p ((s.peers p).list ++ x ∷ [])
copied_core {line = line} c s st p number l own joins done next e low =
    let d = stands_lead c s st in
    let same : d.peer ≡ l = let k : Some d.peer ≡ Some l = sym d.is ∙ e in cc k in
    let f : (s.peers p).stage ≡ Following = st.peers.stage p own ∙ ap (λ k. stage_of k (c.rejoins p).empty) joins ∙ ap (λ b. stage_of is.Joining b) done in
    let n : length_of c.group l ≡ length s.log = rw (← same) (length_is c s st d.peer d.leads.home ∙ ap (λ k. length k) d.whole) in
    let k = item_at s.log (length (s.peers p).list) (omega (arith, next, low, n, st.peers.counted p own f)) in
    (k.0, k.1, copied_one c s st p number own joins done next k.0 k.1)

pub step_under_way : {line : Entry → Option ℕ} (c : CoreCopies) (s : Copies Entry) → StandsFor line c s → (p number l : ℕ) → IsHome c.group p → status p c.members ≡ is.Joining
    → (c.rejoins p).empty ≡ false → number ≡ (c.rejoins p).len + 1 → lead c.group ≡ Some l → number ≤ length_of c.group l → IsCopyingStep line c s p
step_under_way {line = line} c s st p number l own joins done next e low =
    let d = stands_lead c s st in
    let same : d.peer ≡ l = let k : Some d.peer ≡ Some l = sym d.is ∙ e in cc k in
    let f : (s.peers p).stage ≡ Following = st.peers.stage p own ∙ ap (λ k. stage_of k (c.rejoins p).empty) joins ∙ ap (λ b. stage_of is.Joining b) done in
    let n : length_of c.group l ≡ length s.log = rw (← same) (length_is c s st d.peer d.leads.home ∙ ap (λ k. length k) d.whole) in
    let k = item_at s.log (length (s.peers p).list) (omega (arith, next, low, n, st.peers.counted p own f)) in
    under_way c s st p number own joins done next k.0 k.1
