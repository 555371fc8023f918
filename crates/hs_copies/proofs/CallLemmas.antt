-- What the core does with a shard's copies in one view is events of the machine.
use Rattle.std.proofs.Common.{◌≡◌, ◌≢◌, ℕ, zero, suc, ◌+◌, ◌-◌, ◌≤◌, ◌<◌, max, min, Bool, true, false, if◌then◌else◌, eqb-true, List, [], ◌∷◌, ◌++◌, ◌⊎◌, inl, inr, refl, sym, arith, length, Option, Some, None, ap, ◌∙◌, map, drop, take}
use Rattle.std.proofs.lemmas.Bool.Decides.{nat_tests}
use Rattle.std.proofs.lemmas.List.{take-map, drop-append-le, length-append, length-map, length-set, map-append, length-drop}
use Rattle.std.specs.List.{enumerate_from}
use Rattle.std.specs.Option.{option_map, option_map_or, option_to_list}
use Rattle.std.specs.Prelude.{slice_get, slice_index_or, ◌==◌, ◌&&◌, nat_lt}
use Rattle.hs_entry.specs.declared.entry.Entry.{Entry}
use Rattle.hs_members.specs.Members.{status}
use Rattle.hs_post.specs.declared.message.Message.TheVariants as message
use Rattle.hs_replica.specs.declared.replica.Replica.{Replica}
use Rattle.hs_replica.specs.Group.{Group, IsHome, change_copy, commit_front, committed, copy_of, first_peer, have, hears, is_peer, last_number, last_view, lead, lead_takes, least_known, length_of, lower, no_copy, on_append, on_have, on_sealed, others, proposal, propose, resend, stamp, take_committed, take_entry, takes, view_after, copies_above}
use Rattle.hs_copies.specs.CoreCopies.{CoreCopies, core_answer, core_append, core_begin, core_commit, core_have, core_nudge, core_propose, core_seal}
use Rattle.hs_copies.specs.Invariant.{AreFaithful}
use Rattle.hs_copies.specs.Lists.{IsAmong, IsFront, Item, end_view}
use Rattle.hs_copies.specs.Machine.{Copies, CopyComes, CopyEvent, EntryNotice, Good, HaveComes, CanCome, PeerCopy, Propose, SealedNotice, Sealed, TakesEffect, after_event, after_events, item, put_at}
use Rattle.hs_copies.specs.Standing.{ArePeers, Continues, IsCopyOf, TellsNoView, HasMessage, StandsFor, stamps_of}
use Rattle.hs_copies.specs.Stamps.{view_told}
use Rattle.hs_copies.proofs.HomeLemmas.{le_or_lt, set_other, set_same}
use Rattle.hs_copies.specs.Lines.{Answer, AnswerBy, Begin, set_waits}
use Rattle.hs_copies.proofs.LineLemmas.{does_owned, lines_after}
use Rattle.hs_copies.proofs.ListLemmas.{front_length, front_step}
use Rattle.hs_copies.proofs.OpenedLemmas.{took_good}
use Rattle.hs_copies.proofs.PeerLemmas.{put_here, put_other}
use Rattle.hs_copies.proofs.QuietLemmas.{Quietly, SealsSome, becomes_quietly, known_list, known_sealed, no_quiet, quiet_event, same_stays, sealed_list, sealed_number, sealed_other, stays_alike}
use Rattle.hs_copies.proofs.SendLemmas.{Each, HaveTold, IsOfLog, MayTell, copies_may, each_flat_map, each_map, one_and_tell, tell_all, waiting_of_log, drop_cons}
use Rattle.hs_copies.proofs.StampLemmas.{log_tells, stamped_last, stamped_prefix, tells_after}
use Rattle.hs_copies.proofs.StandLemmas.{and_left, and_right, end_view_any, good_copy, good_home, good_peer, last_stamp, length_is, none_waits, not_good_following, one_changes, stands_lead}
use Rattle.hs_copies.proofs.ViewKeeps.{after_right}

-- ---- a peer of the group changes

-- one good peer has another copy, and all else stands as before
module _ {line : Entry → Option ℕ} (c : CoreCopies) (s : Copies Entry) (st : StandsFor line c s) (p : ℕ) (own : IsHome c.group p) (good : (s.peers p).stage ≡ Good)
    (f : Replica → Replica) (peers2 : ℕ → PeerCopy Entry)
    (same : (q : ℕ) → q ≢ p → peers2 q ≡ s.peers q)
    (each : IsCopyOf (f (copy_of c.group p)) (peers2 p))
    (stage : (peers2 p).stage ≡ Good) where
  pub good_changes : ArePeers (IsHome c.group) (copy_of (change_copy p f c.group)) (λ q. status q c.members) c.rejoins peers2
  good_changes =
      one_changes (IsHome c.group) (copy_of c.group) (copy_of (change_copy p f c.group)) (λ q. status q c.members) (λ q. status q c.members)
      c.rejoins c.rejoins s.peers peers2 p st.peers own
      (λ q h n. set_other c.group p q f own h n) (λ q h n. refl) (λ q n. refl) same
      (rw (set_same c.group p f st.copies own) each)
      (stage ∙ sym good ∙ st.peers.stage p own)
      (λ k. absurd (not_good_following (peers2 p).stage stage k))
      (λ k. absurd (not_good_following (peers2 p).stage stage k))

-- ---- proposing

pub propose_is : (entry : Entry) (group : Group) (l : ℕ) → lead group ≡ Some l
    → propose entry group ≡ record (take_entry l entry group) { waiting = group.waiting ++ entry ∷ [] }
propose_is entry group l e = ap (λ o. record (lead_takes o entry group) { waiting = group.waiting ++ entry ∷ [] }) e

pub get_end : {X : Type 0} (xs : List X) (x : X) → slice_get (xs ++ x ∷ []) (length xs) ≡ Some x
get_end [] x = refl
get_end (y ∷ xs) x = get_end xs x

module _ {line : Entry → Option ℕ} (c : CoreCopies) (s : Copies Entry) (st : StandsFor line c s) (entry : Entry) (plain : TellsNoView entry)
    (fresh : (k : ℕ) → line entry ≡ Some k → (c.waits k ≡ true) × ((x : Entry) → IsAmong x c.group.waiting → line x ≡ Some k → ⊥)) where
  r : AreFaithful s
  r = st.faithful

  l : ℕ
  l = (stands_lead c s st).peer

  proposing : CanCome s (Propose (stands_lead c s st).peer entry)
  proposing = ((stands_lead c s st).good, (stands_lead c s st).whole)

  grown : List (Item Entry)
  grown = s.log ++ item s.view entry ∷ []

  took_low : length s.took ≤ length s.log
  took_low = front_length s.took s.log st.faithful.took

  waits_long : length c.group.waiting ≡ length s.log - length s.took
  waits_long =
      ap (λ k. length k) st.waiting ∙ length-map (drop (length s.took) s.log) (λ x. x.what) ∙ length-drop (length s.took) s.log

  new_stamps : stamp entry (copy_of c.group (stands_lead c s st).peer).stamps ≡ stamps_of (s.log ++ item s.view entry ∷ [])
  new_stamps =
      let d = stands_lead c s st in
      let k : (copy_of c.group d.peer).stamps ≡ stamps_of s.log = (st.peers.each d.peer d.leads.home).stamps ∙ ap (λ j. stamps_of j) d.whole in
      let v : view_after (last_view (stamps_of s.log)) entry ≡ s.view = plain (last_view (stamps_of s.log)) ∙ last_stamp s.log ∙ st.told.current 0 in
      rw k (rw v (sym (map-append (λ x. x.view) s.log (item s.view entry ∷ []))))

  proposed_waiting : c.group.waiting ++ entry ∷ [] ≡ map (λ x. x.what) (drop (length s.took) (s.log ++ item s.view entry ∷ []))
  proposed_waiting =
      rw (drop-append-le (length s.took) s.log (item s.view entry ∷ []) took_low, map-append (λ (x : Item Entry). x.what) (drop (length s.took) s.log) (item s.view entry ∷ []), st.waiting) refl

  proposed_stands : StandsFor line (record c { group = record (take_entry (stands_lead c s st).peer entry c.group) { waiting = c.group.waiting ++ entry ∷ [] } }) (after_event (Propose (stands_lead c s st).peer entry) s)
  proposed_stands =
      let d = stands_lead c s st in
      let new : PeerCopy Entry = record (s.peers d.peer) { list = s.log ++ item s.view entry ∷ [] } in
      let k = st.peers.each d.peer d.leads.home in
      record {
        shape = st.shape;
        members = st.members;
        shard = st.shard;
        copies = length-set c.group.copies _ _ ∙ st.copies;
        view = st.view;
        of_members = st.of_members;
        peers = good_changes c s st d.peer d.leads.home d.good (λ x. record x { stamps = stamp entry x.stamps }) (put_at d.peer new s.peers)
            (λ q n. put_other d.peer new s.peers q n)
            (rw (put_here d.peer new s.peers) (record { good = k.good; stamps = new_stamps; sealed = k.sealed; known = k.known }))
            (rw (put_here d.peer new s.peers) d.good);
        front = st.front;
        waiting = proposed_waiting;
        sent = st.sent;
        faithful = after_right s st.faithful (Propose d.peer entry) proposing;
        views = st.views;
        lines = lines_after s c.waits st.faithful st.lines (Propose d.peer entry) proposing (λ k e. ((fresh k e).0, none_waits c s st k (fresh k e).1));
        begun = st.begun;
        begun_at = st.begun_at;
        told = tells_after view_after st.begun st.begun_at s st.faithful st.told (Propose d.peer entry) proposing (plain s.view);
      }

  proposal_may : (peers : ℕ → PeerCopy Entry) → Each (MayTell s.view (s.log ++ item s.view entry ∷ []) peers) (proposal entry c.group)
  proposal_may peers =
      let n : last_number c.group + 1 - 1 ≡ length s.log = omega (arith, st.front, waits_long, took_low) in
      each_map (MayTell s.view (s.log ++ item s.view entry ∷ []) peers) (λ x. message.Copy c.group.shard x.0 c.group.view (last_number c.group + 1) entry) (others c.group)
      (λ x. (omega arith, st.view, (item s.view entry, refl, rw n (get_end s.log (item s.view entry)))))

  pub proposed : Quietly line (core_propose entry c) s
  proposed =
      let d = stands_lead c s st in
      rw (propose_is entry c.group d.peer d.is)
      (becomes_quietly (record c { group = record (take_entry d.peer entry c.group) { waiting = c.group.waiting ++ entry ∷ [] }; sent = proposal entry c.group ++ c.sent }) s (Propose d.peer entry) tt tt
      (one_and_tell (record c { group = record (take_entry d.peer entry c.group) { waiting = c.group.waiting ++ entry ∷ [] } }) s (Propose d.peer entry) proposing
      proposed_stands (proposal entry c.group) (proposal_may (put_at d.peer (record (s.peers d.peer) { list = s.log ++ item s.view entry ∷ [] }) s.peers))))

-- nothing happens
pub no_event : {line : Entry → Option ℕ} (c : CoreCopies) (s : Copies Entry) → StandsFor line c s → Continues line c s
no_event c s st = record { events = []; allowed = tt; stands = st }

-- one event
pub one_event : {line : Entry → Option ℕ} (c : CoreCopies) (s : Copies Entry) (e : CopyEvent Entry) → CanCome s e → StandsFor line c (after_event e s) → Continues line c s
one_event c s e a st = record { events = e ∷ []; allowed = (a, tt); stands = st }

-- ---- a Copy comes

module _ {line : Entry → Option ℕ} (c : CoreCopies) (s : Copies Entry) (st : StandsFor line c s) (p : ℕ) (own : IsHome c.group p) (good : (s.peers p).stage ≡ Good)
    (x : Item Entry) (k : IsAmong (EntryNotice p s.view (length (s.peers p).list) x) s.sent) where
  coming : CanCome s (CopyComes p (length (s.peers p).list) x)
  coming = (good, refl, k)

  here : slice_get s.log (length (s.peers p).list) ≡ Some x
  here = (st.faithful.sent (EntryNotice p s.view (length (s.peers p).list) x) k).1 refl

  longer_front : IsFront ((s.peers p).list ++ x ∷ []) s.log
  longer_front = front_step (s.peers p).list s.log x (st.faithful.good p good).prefix here

  begun_length : length st.begun ≤ length (s.peers p).list
  begun_length = omega (arith, front_length st.begun s.took st.told.opening, front_length s.took (s.peers p).list (took_good s st.faithful p good))

  no_list : length (s.peers p).list ≡ 0 → 0 ≡ st.begun_at
  no_list e = none st.begun (omega (arith, begun_length, e)) st.told.ends
    where
      none : (start : List (Item Entry)) → length start ≡ 0 → view_told view_after 0 start ≡ st.begun_at → 0 ≡ st.begun_at
      none [] l f = f
      none (y ∷ ys) l f = absurd (omega (arith, l))

  last_told : view_after (last_view (stamps_of (s.peers p).list)) x.what ≡ x.view
  last_told =
      let all = log_tells view_after st.begun st.begun_at s st.faithful st.told in
      let v = stamped_last view_after (length st.begun) st.begun_at (s.peers p).list x begun_length
      (stamped_prefix view_after (length st.begun) st.begun_at ((s.peers p).list ++ x ∷ []) s.log longer_front all) in
      ap (λ w. view_after w x.what) (last_stamp (s.peers p).list ∙ end_view_any 0 st.begun_at (s.peers p).list no_list) ∙ sym v

  pub taken_stands : StandsFor line (record c { group = take_entry p x.what c.group }) (after_event (CopyComes p (length (s.peers p).list) x) s)
  taken_stands =
      let new : PeerCopy Entry = record (s.peers p) { list = (s.peers p).list ++ x ∷ [] } in
      let k = st.peers.each p own in
      record {
        shape = st.shape;
        members = st.members;
        shard = st.shard;
        copies = length-set c.group.copies _ _ ∙ st.copies;
        view = st.view;
        of_members = st.of_members;
        peers = good_changes c s st p own good (λ r. record r { stamps = stamp x.what r.stamps }) (put_at p new s.peers)
            (λ q n. put_other p new s.peers q n)
            (rw (put_here p new s.peers) (record { good = k.good; stamps = rw (k.stamps, last_told) (sym (map-append (λ y. y.view) (s.peers p).list (x ∷ []))); sealed = k.sealed; known = k.known }))
            (rw (put_here p new s.peers) good);
        front = st.front;
        waiting = st.waiting;
        sent = st.sent;
        faithful = after_right s st.faithful (CopyComes p (length (s.peers p).list) x) coming;
        views = st.views;
        lines = lines_after s c.waits st.faithful st.lines (CopyComes p (length (s.peers p).list) x) coming tt;
        begun = st.begun;
        begun_at = st.begun_at;
        told = tells_after view_after st.begun st.begun_at s st.faithful st.told (CopyComes p (length (s.peers p).list) x) coming tt;
      }

  pub taken_continues : Quietly line (record c { group = take_entry p x.what c.group }) s
  taken_continues = quiet_event (record c { group = take_entry p x.what c.group }) s (CopyComes p (length (s.peers p).list) x) tt tt coming taken_stands

append_if : (peer view number : ℕ) (entry : Entry) (group : Group) (b : Bool) → takes peer view number group ≡ b
    → on_append peer view number entry group ≡ (if b then take_entry peer entry group else group)
append_if peer view number entry group b e = ap (λ t. if t then take_entry peer entry group else group) e

pub appended : {line : Entry → Option ℕ} (c : CoreCopies) (s : Copies Entry) → StandsFor line c s → (shard peer view number : ℕ) (entry : Entry) → IsHome c.group peer
    → IsAmong (message.Copy shard peer view number entry) c.sent → Quietly line (core_append peer view number entry c) s
appended {line = line} c s st shard peer view number entry own k = go (takes peer view number c.group) refl
  where
    told : HasMessage s.sent (message.Copy shard peer view number entry)
    told = st.sent (message.Copy shard peer view number entry) k

    place_it : (x : Item Entry) → view ≡ s.view → number - 1 ≡ length (s.peers peer).list → IsAmong (EntryNotice peer view (number - 1) x) s.sent
        → IsAmong (EntryNotice peer s.view (length (s.peers peer).list) x) s.sent
    place_it x v n k = rw (← v, ← n) k

    take_it : (s.peers peer).stage ≡ Good → (x : Item Entry) → x.what ≡ entry → IsAmong (EntryNotice peer s.view (length (s.peers peer).list) x) s.sent
        → Quietly line (record c { group = take_entry peer entry c.group }) s
    take_it good x w k = rw (← w) (taken_continues c s st peer own good x k)

    go : (b : Bool) → takes peer view number c.group ≡ b → Quietly line (core_append peer view number entry c) s
    go false e = rw (append_if peer view number entry c.group false e) (no_quiet c s st)
    go true e =
        let both = and_left ((copy_of c.group peer).good && view == c.group.view) (number == length_of c.group peer + 1) e in
        let n : number ≡ length_of c.group peer + 1 = eqb-true number (length_of c.group peer + 1) (and_right ((copy_of c.group peer).good && view == c.group.view) (number == length_of c.group peer + 1) e) in
        let good = good_peer c s st peer own (and_left (copy_of c.group peer).good (view == c.group.view) both) in
        let v : view ≡ s.view = eqb-true view c.group.view (and_right (copy_of c.group peer).good (view == c.group.view) both) ∙ st.view in
        let place : number - 1 ≡ length (s.peers peer).list = omega (arith, n, length_is c s st peer own) in
        rw (append_if peer view number entry c.group true e) (take_it good told.1.0 told.1.1 (place_it told.1.0 v place told.1.2))

-- ---- a peer has sealed

seal_if : (peer number : ℕ) (group : Group) (b : Bool) → is_peer peer (lead group) ≡ b
    → on_sealed peer number group ≡ change_copy peer (λ c. record c { sealed = number; known = if b then max c.known number else c.known }) group
seal_if peer number group b e = ap (λ t. change_copy peer (λ c. record c { sealed = number; known = if t then max c.known number else c.known }) group) e

have_may : (group : Group) (now : ℕ) (log : List (Item Entry)) (peers : ℕ → PeerCopy Entry) (peer number : ℕ) → group.view ≡ now
    → (peers peer).stage ≡ Good → number ≤ (peers peer).sealed → Each (MayTell now log peers) (have peer number group)
have_may group now log peers peer number v g n = go (is_peer peer (lead group))
  where
    go : (b : Bool) → Each (MayTell now log peers) (if b then [] else map (λ l. message.Have group.shard peer l group.view number) (option_to_list (lead group)))
    go true = tt
    go false = each_map (MayTell now log peers) (λ l. message.Have group.shard peer l group.view number) (option_to_list (lead group)) (λ l. (v, g, n))

module _ {line : Entry → Option ℕ} (c : CoreCopies) (s : Copies Entry) (st : StandsFor line c s) (p number : ℕ) (own : IsHome c.group p) (good : (s.peers p).stage ≡ Good)
    (low : (s.peers p).sealed ≤ number) (high : number ≤ length (s.peers p).list) where
  sealing : CanCome s (Sealed p number)
  sealing = (good, low, high)

  sealed_stands : StandsFor line (record c { group = change_copy p (λ r. record r { sealed = number; known = r.known }) c.group }) (after_event (Sealed p number) s)
  sealed_stands =
      let new : PeerCopy Entry = record (s.peers p) { sealed = number } in
      let k = st.peers.each p own in
      record {
        shape = st.shape;
        members = st.members;
        shard = st.shard;
        copies = length-set c.group.copies _ _ ∙ st.copies;
        view = st.view;
        of_members = st.of_members;
        peers = good_changes c s st p own good (λ r. record r { sealed = number; known = r.known }) (put_at p new s.peers)
            (λ q n. put_other p new s.peers q n)
            (rw (put_here p new s.peers) (record { good = k.good; stamps = k.stamps; sealed = refl; known = k.known }))
            (rw (put_here p new s.peers) good);
        front = st.front;
        waiting = st.waiting;
        sent = st.sent;
        faithful = after_right s st.faithful (Sealed p number) sealing;
        views = st.views;
        lines = lines_after s c.waits st.faithful st.lines (Sealed p number) sealing tt;
        begun = st.begun;
        begun_at = st.begun_at;
        told = tells_after view_after st.begun st.begun_at s st.faithful st.told (Sealed p number) sealing tt;
      }

  -- the lead knows its own at once
  s1 : Copies Entry
  s1 = after_event (Sealed p number) s

  known_too : CanCome (after_event (Sealed p number) s) (HaveComes p (max (s.peers p).known number))
  known_too =
      let new : PeerCopy Entry = record (s.peers p) { sealed = number } in
      let g = st.faithful.good p good in
      rw (put_here p new s.peers) (omega arith, inl (good, omega (arith, g.told, low)))

  known_stands : StandsFor line (record c { group = change_copy p (λ r. record r { sealed = number; known = max r.known number }) c.group })
      (after_event (HaveComes p (max (s.peers p).known number)) (after_event (Sealed p number) s))
  known_stands =
      let new : PeerCopy Entry = record (s.peers p) { sealed = number } in
      let newer : PeerCopy Entry = record (put_at p new s.peers p) { known = max (s.peers p).known number } in
      let k = st.peers.each p own in
      let opened = lines_after s c.waits st.faithful st.lines (Sealed p number) sealing tt in
      let f = after_right s st.faithful (Sealed p number) sealing in
      let t = tells_after view_after st.begun st.begun_at s st.faithful st.told (Sealed p number) sealing tt in
      record {
        shape = st.shape;
        members = st.members;
        shard = st.shard;
        copies = length-set c.group.copies _ _ ∙ st.copies;
        view = st.view;
        of_members = st.of_members;
        peers = good_changes c s st p own good (λ r. record r { sealed = number; known = max r.known number }) (put_at p newer (put_at p new s.peers))
            (λ q n. put_other p newer (put_at p new s.peers) q n ∙ put_other p new s.peers q n)
            (rw (put_here p newer (put_at p new s.peers), put_here p new s.peers) (record { good = k.good; stamps = k.stamps; sealed = refl; known = λ e. ap (λ j. max j number) (k.known e) }))
            (rw (put_here p newer (put_at p new s.peers), put_here p new s.peers) good);
        front = st.front;
        waiting = st.waiting;
        sent = st.sent;
        faithful = after_right (after_event (Sealed p number) s) f (HaveComes p (max (s.peers p).known number)) known_too;
        views = st.views;
        lines = lines_after (after_event (Sealed p number) s) c.waits f opened (HaveComes p (max (s.peers p).known number)) known_too tt;
        begun = st.begun;
        begun_at = st.begun_at;
        told = tells_after view_after st.begun st.begun_at (after_event (Sealed p number) s) f t (HaveComes p (max (s.peers p).known number)) known_too tt;
      }

  pub seals_core : SealsSome line (core_seal p number c) s p number
  seals_core = go (is_peer p (lead c.group)) refl
    where
      new : PeerCopy Entry
      new = record (s.peers p) { sealed = number }

      told : HaveTold line (record c { group = change_copy p (λ r. record r { sealed = number; known = r.known }) c.group }) (after_event (Sealed p number) s) (have p number c.group)
      told = tell_all (record c { group = change_copy p (λ r. record r { sealed = number; known = r.known }) c.group }) (after_event (Sealed p number) s) sealed_stands (have p number c.group)
          (have_may c.group s.view s.log (put_at p new s.peers) p number st.view (rw (put_here p new s.peers) good) (rw (put_here p new s.peers) (omega arith)))

      go : (b : Bool) → is_peer p (lead c.group) ≡ b → SealsSome line (core_seal p number c) s p number
      go false e =
          rw (seal_if p number c.group false e)
          (record {
            events = Sealed p number ∷ told.events;
            allowed = (sealing, told.allowed);
            stands = told.stands;
            lists = λ q. ap (λ (ps : ℕ → PeerCopy Entry). (ps q).list) told.peers ∙ sealed_list p number s q;
            here = ap (λ (ps : ℕ → PeerCopy Entry). (ps p).sealed) told.peers ∙ sealed_number p number s;
            others = λ q n. ap (λ (ps : ℕ → PeerCopy Entry). (ps q).sealed) told.peers ∙ sealed_other p number s q n;
          })
      go true e =
          let none : have p number c.group ≡ [] = ap (λ t. if t then [] else map (λ l. message.Have c.group.shard p l c.group.view number) (option_to_list (lead c.group))) e in
          rw (seal_if p number c.group true e, none)
          (record {
            events = Sealed p number ∷ HaveComes p (max (s.peers p).known number) ∷ [];
            allowed = (sealing, (known_too, tt));
            stands = known_stands;
            lists = λ q. known_list p (max (s.peers p).known number) (after_event (Sealed p number) s) q ∙ sealed_list p number s q;
            here = known_sealed p (max (s.peers p).known number) (after_event (Sealed p number) s) p ∙ sealed_number p number s;
            others = λ q n. known_sealed p (max (s.peers p).known number) (after_event (Sealed p number) s) q ∙ sealed_other p number s q n;
          })

-- ---- a Have comes

have_if : (peer view sealed : ℕ) (group : Group) (b : Bool) → hears peer view group ≡ b
    → on_have peer view sealed group ≡ (if b then change_copy peer (λ c. record c { known = max c.known sealed }) group else group)
have_if peer view sealed group b e = ap (λ t. if t then change_copy peer (λ c. record c { known = max c.known sealed }) group else group) e

module _ {line : Entry → Option ℕ} (c : CoreCopies) (s : Copies Entry) (st : StandsFor line c s) (p sealed : ℕ) (own : IsHome c.group p) (good : (s.peers p).stage ≡ Good)
    (k : IsAmong (SealedNotice p s.view sealed) s.sent) where
  hearing : CanCome s (HaveComes p (max (s.peers p).known sealed))
  hearing = (omega arith, which (le_or_lt (s.peers p).known sealed))
    where
      which : ((s.peers p).known ≤ sealed) ⊎ (sealed < (s.peers p).known)
          → (((s.peers p).stage ≡ Good) × (max (s.peers p).known sealed ≤ (s.peers p).sealed)) ⊎ IsAmong (SealedNotice p s.view (max (s.peers p).known sealed)) s.sent
      which (inl l) = let e : max (s.peers p).known sealed ≡ sealed = omega (arith, l) in inr (rw e k)
      which (inr l) = inl (good, omega (arith, l, (st.faithful.good p good).told))

  heard_stands : StandsFor line (record c { group = change_copy p (λ r. record r { known = max r.known sealed }) c.group }) (after_event (HaveComes p (max (s.peers p).known sealed)) s)
  heard_stands =
      let new : PeerCopy Entry = record (s.peers p) { known = max (s.peers p).known sealed } in
      let k = st.peers.each p own in
      record {
        shape = st.shape;
        members = st.members;
        shard = st.shard;
        copies = length-set c.group.copies _ _ ∙ st.copies;
        view = st.view;
        of_members = st.of_members;
        peers = good_changes c s st p own good (λ r. record r { known = max r.known sealed }) (put_at p new s.peers)
            (λ q n. put_other p new s.peers q n)
            (rw (put_here p new s.peers) (record { good = k.good; stamps = k.stamps; sealed = k.sealed; known = λ e. ap (λ j. max j sealed) (k.known e) }))
            (rw (put_here p new s.peers) good);
        front = st.front;
        waiting = st.waiting;
        sent = st.sent;
        faithful = after_right s st.faithful (HaveComes p (max (s.peers p).known sealed)) hearing;
        views = st.views;
        lines = lines_after s c.waits st.faithful st.lines (HaveComes p (max (s.peers p).known sealed)) hearing tt;
        begun = st.begun;
        begun_at = st.begun_at;
        told = tells_after view_after st.begun st.begun_at s st.faithful st.told (HaveComes p (max (s.peers p).known sealed)) hearing tt;
      }

  pub heard_continues : Quietly line (record c { group = change_copy p (λ r. record r { known = max r.known sealed }) c.group }) s
  heard_continues = quiet_event (record c { group = change_copy p (λ r. record r { known = max r.known sealed }) c.group }) s (HaveComes p (max (s.peers p).known sealed)) tt tt hearing heard_stands

pub heard : {line : Entry → Option ℕ} (c : CoreCopies) (s : Copies Entry) → StandsFor line c s → (shard from to view sealed : ℕ) → IsHome c.group from
    → IsAmong (message.Have shard from to view sealed) c.sent → Quietly line (core_have from view sealed c) s
heard {line = line} c s st shard from to view sealed own k = go (hears from view c.group) refl
  where
    told : IsAmong (SealedNotice from view sealed) s.sent
    told = st.sent (message.Have shard from to view sealed) k

    go : (b : Bool) → hears from view c.group ≡ b → Quietly line (core_have from view sealed c) s
    go false e = rw (have_if from view sealed c.group false e) (no_quiet c s st)
    go true e =
        let v : view ≡ s.view = eqb-true view c.group.view (and_left (view == c.group.view) (copy_of c.group from).good e) ∙ st.view in
        let good = good_peer c s st from own (and_right (view == c.group.view) (copy_of c.group from).good e) in
        rw (have_if from view sealed c.group true e) (heard_continues c s st from sealed own good (rw v at told))

-- ---- an entry takes effect

-- each good copy is known to have sealed at least the least
least_found : (cs : List Replica) (i : ℕ) → i < length cs → (slice_index_or cs i no_copy).good ≡ true
    → (m : ℕ) × (least_known cs ≡ Some m) × (m ≤ (slice_index_or cs i no_copy).known)
least_found [] i l g = absurd (omega (arith, l))
least_found (c ∷ cs) zero l g = (lower c.known (least_known cs), ap (λ b. if b then Some (lower c.known (least_known cs)) else least_known cs) g, low (least_known cs))
  where
    low : (o : Option ℕ) → lower c.known o ≤ c.known
    low None = omega arith
    low (Some y) = omega arith
least_found (c ∷ cs) (suc i) l g = go c.good refl (least_found cs i (omega (arith, l)) g)
  where
    go : (b : Bool) → c.good ≡ b → (m : ℕ) × (least_known cs ≡ Some m) × (m ≤ (slice_index_or cs i no_copy).known)
        → (m : ℕ) × (least_known (c ∷ cs) ≡ Some m) × (m ≤ (slice_index_or cs i no_copy).known)
    go false e h = (h.0, ap (λ b. if b then Some (lower c.known (least_known cs)) else least_known cs) e ∙ h.1, h.2)
    go true e h =
        (min c.known h.0, ap (λ b. if b then Some (lower c.known (least_known cs)) else least_known cs) e ∙ ap (λ o. Some (lower c.known o)) h.1, omega (arith, h.2))

least_low : (group : Group) (p : ℕ) → length group.copies ≡ group.shape.copies → IsHome group p → (copy_of group p).good ≡ true → commit_front group ≤ (copy_of group p).known
least_low group p n h g =
    let k = least_found group.copies (p - first_peer group) (omega (arith, n, h.0, h.1)) g in
    rw k.1 k.2

commit_if : (group : Group) (o : Option (ℕ × Entry)) → committed group ≡ o
    → take_committed group ≡ option_map_or (λ x. record group { front = x.0; waiting = drop 1 group.waiting }) o group
commit_if group o e = ap (λ o. option_map_or (λ x. record group { front = x.0; waiting = drop 1 group.waiting }) o group) e

-- what is committed is the first that waits, and all good peers are known to have sealed it
committed_tells : (group : Group) (x : ℕ × Entry) → committed group ≡ Some x
    → (group.front < commit_front group) × (x.0 ≡ group.front + 1) × (slice_get group.waiting 0 ≡ Some x.1)
committed_tells group x e = go (nat_lt group.front (commit_front group)) refl
  where
    with_first : (o : Option Entry) → option_map (λ entry. (group.front + 1, entry)) o ≡ Some x → (x.0 ≡ group.front + 1) × (o ≡ Some x.1)
    with_first None f = absurd (cc f)
    with_first (Some w) f = let k : (group.front + 1, w) ≡ x = cc f in (sym (ap (λ y. y.0) k), ap (λ y. Some y.1) k)

    committed_if : (b : Bool) → nat_lt group.front (commit_front group) ≡ b
        → committed group ≡ (if b then option_map (λ entry. (group.front + 1, entry)) (slice_get group.waiting 0) else None)
    committed_if b f = ap (λ t. if t then option_map (λ entry. (group.front + 1, entry)) (slice_get group.waiting 0) else None) f

    go : (b : Bool) → nat_lt group.front (commit_front group) ≡ b
        → (group.front < commit_front group) × (x.0 ≡ group.front + 1) × (slice_get group.waiting 0 ≡ Some x.1)
    go false f = let wrong : None ≡ Some x = sym (committed_if false f) ∙ e in absurd (cc wrong)
    go true f = let k = with_first (slice_get group.waiting 0) (sym (committed_if true f) ∙ e) in (grind (arith, nat_tests), k.0, k.1)

first_of : (ws : List (Item Entry)) (entry : Entry) → slice_get (map (λ x. x.what) ws) 0 ≡ Some entry
    → (x : Item Entry) × (rest : List (Item Entry)) × (ws ≡ x ∷ rest)
first_of [] entry e = absurd (cc e)
first_of (x ∷ rest) entry e = (x, rest, refl)

module _ {line : Entry → Option ℕ} (c : CoreCopies) (s : Copies Entry) (st : StandsFor line c s) (y : ℕ × Entry) (e : committed c.group ≡ Some y) (x : Item Entry) (rest : List (Item Entry))
    (f : drop (length s.took) s.log ≡ x ∷ rest) where
  tells : (c.group.front < commit_front c.group) × (y.0 ≡ c.group.front + 1) × (slice_get c.group.waiting 0 ≡ Some y.1)
  tells = committed_tells c.group y e

  all_known : (q : ℕ) → (s.peers q).stage ≡ Good → length s.took < (s.peers q).known
  all_known q g =
      let h = good_home c s st q g in
      let k = good_copy c s st q h g in
      omega (arith, st.front, tells.0, least_low c.group q st.copies h k, (st.peers.each q h).known k)

  taking : CanCome s (TakesEffect x)
  taking = ((drop_cons (length s.took) s.log x rest f).0, all_known)

  rest_waits : drop 1 c.group.waiting ≡ map (λ x. x.what) (drop (length (s.took ++ x ∷ [])) s.log)
  rest_waits =
      let n : length (s.took ++ x ∷ []) ≡ suc (length s.took) = omega (arith, length-append s.took (x ∷ [])) in
      rw (n, (drop_cons (length s.took) s.log x rest f).1, st.waiting, f) refl

  committed_stands : StandsFor line (record c { group = record c.group { front = y.0; waiting = drop 1 c.group.waiting } }) (after_event (TakesEffect x) s)
  committed_stands =
      record {
        shape = st.shape;
        members = st.members;
        shard = st.shard;
        copies = st.copies;
        view = st.view;
        of_members = st.of_members;
        peers = st.peers;
        front = omega (arith, tells.1, st.front, length-append s.took (x ∷ []));
        waiting = rest_waits;
        sent = st.sent;
        faithful = after_right s st.faithful (TakesEffect x) taking;
        views = st.views;
        lines = lines_after s c.waits st.faithful st.lines (TakesEffect x) taking tt;
        begun = st.begun;
        begun_at = st.begun_at;
        told = tells_after view_after st.begun st.begun_at s st.faithful st.told (TakesEffect x) taking tt;
      }

  pub commits : Quietly line (record c { group = record c.group { front = y.0; waiting = drop 1 c.group.waiting } }) s
  commits = quiet_event (record c { group = record c.group { front = y.0; waiting = drop 1 c.group.waiting } }) s (TakesEffect x) tt tt taking committed_stands

  -- and its line is answered
  module _ (k : ℕ) (of_line : line y.1 ≡ Some k) where
    line_of_x : line x.what ≡ Some k
    line_of_x =
        let g : Some x.what ≡ Some y.1 = rw (st.waiting, f) at tells.2 in
        let h : x.what ≡ y.1 = cc g in
        ap line h ∙ of_line

    answered_stands : StandsFor line (record c { group = record c.group { front = y.0; waiting = drop 1 c.group.waiting }; waits = set_waits k false c.waits }) (after_event (TakesEffect x) s)
    answered_stands =
        let b = committed_stands in
        record {
          shape = b.shape;
          members = b.members;
          shard = b.shard;
          copies = b.copies;
          view = b.view;
          of_members = b.of_members;
          peers = b.peers;
          front = b.front;
          waiting = b.waiting;
          sent = b.sent;
          views = st.views;
          lines = (does_owned line (record { copies = s; waits = c.waits }) (AnswerBy x k) st.faithful st.lines (taking, line_of_x)).1;
          faithful = b.faithful;
          begun = b.begun;
          begun_at = b.begun_at;
          told = b.told;
        }

    pub commits_and_answers : Continues line (record c { group = record c.group { front = y.0; waiting = drop 1 c.group.waiting }; waits = set_waits k false c.waits }) s
    commits_and_answers =
        one_event (record c { group = record c.group { front = y.0; waiting = drop 1 c.group.waiting }; waits = set_waits k false c.waits }) s (TakesEffect x) taking answered_stands

pub took_effect : {line : Entry → Option ℕ} (c : CoreCopies) (s : Copies Entry) → StandsFor line c s → Quietly line (core_commit c) s
took_effect {line = line} c s st = go (committed c.group) refl
  where
    go : (o : Option (ℕ × Entry)) → committed c.group ≡ o → Quietly line (core_commit c) s
    go None e = rw (commit_if c.group None e) (no_quiet c s st)
    go (Some y) e =
        let k = first_of (drop (length s.took) s.log) y.1 (rw st.waiting at (committed_tells c.group y e).2) in
        rw (commit_if c.group (Some y) e) (commits c s st y e k.0 k.1 k.2)

pub answered_by : {line : Entry → Option ℕ} (c : CoreCopies) (s : Copies Entry) → StandsFor line c s → (y : ℕ × Entry) (k : ℕ) → committed c.group ≡ Some y → line y.1 ≡ Some k
    → Continues line (core_answer k (core_commit c)) s
answered_by c s st y k e of_line =
    let f = first_of (drop (length s.took) s.log) y.1 (rw st.waiting at (committed_tells c.group y e).2) in
    rw (commit_if c.group (Some y) e) (commits_and_answers c s st y e f.0 f.1 f.2 k of_line)

-- ---- lines

pub begins_line : {line : Entry → Option ℕ} (c : CoreCopies) (s : Copies Entry) → StandsFor line c s → (k : ℕ) → Continues line (core_begin k c) s
begins_line {line = line} c s st k =
    no_event (core_begin k c) s
    (record {
      shape = st.shape;
      members = st.members;
      shard = st.shard;
      copies = st.copies;
      view = st.view;
      of_members = st.of_members;
      peers = st.peers;
      front = st.front;
      waiting = st.waiting;
      sent = st.sent;
      views = st.views;
      lines = (does_owned line (record { copies = s; waits = c.waits }) (Begin k) st.faithful st.lines tt).1;
      faithful = st.faithful;
      begun = st.begun;
      begun_at = st.begun_at;
      told = st.told;
    })

front_taken : {X : Type 0} (xs ys : List X) → IsFront xs ys → xs ≡ take (length xs) ys
front_taken [] ys p = refl
front_taken (x ∷ xs) [] p = absurd p
front_taken (x ∷ xs) (y ∷ ys) p = let e = front_taken xs ys p.1 in let f = p.0 in cc (e, f)

pub answers_line : {line : Entry → Option ℕ} (c : CoreCopies) (s : Copies Entry) → StandsFor line c s → (k l : ℕ) → lead c.group ≡ Some l
    → last_view (take c.group.front (copy_of c.group l).stamps) ≡ c.group.view → ((x : Entry) → IsAmong x c.group.waiting → line x ≡ Some k → ⊥)
    → Continues line (core_answer k c) s
answers_line {line = line} c s st k l e v none =
    let d = stands_lead c s st in
    let same : d.peer ≡ l = let g : Some d.peer ≡ Some l = sym d.is ∙ e in cc g in
    let stamps : (copy_of c.group l).stamps ≡ stamps_of s.log = rw (← same) ((st.peers.each d.peer d.leads.home).stamps ∙ ap stamps_of d.whole) in
    let took : stamps_of s.took ≡ take c.group.front (copy_of c.group l).stamps =
    rw (stamps, st.front) (ap stamps_of (front_taken s.took s.log st.faithful.took) ∙ sym (take-map (λ (x : Item Entry). x.view) (length s.took) s.log)) in
    let settled : end_view 0 s.took ≡ s.view = sym (last_stamp s.took) ∙ ap last_view took ∙ v ∙ st.view in
    no_event (core_answer k c) s
    (record {
      shape = st.shape;
      members = st.members;
      shard = st.shard;
      copies = st.copies;
      view = st.view;
      of_members = st.of_members;
      peers = st.peers;
      front = st.front;
      waiting = st.waiting;
      sent = st.sent;
      views = st.views;
      lines = (does_owned line (record { copies = s; waits = c.waits }) (Answer k) st.faithful st.lines (settled, none_waits c s st k none)).1;
      faithful = st.faithful;
      begun = st.begun;
      begun_at = st.begun_at;
      told = st.told;
    })

-- ---- a nudge

all_waiting : {line : Entry → Option ℕ} (c : CoreCopies) (s : Copies Entry) → StandsFor line c s → Each (IsOfLog s.log) (enumerate_from (c.group.front + 1) c.group.waiting)
all_waiting {line = line} c s st = waiting_of_log s.log c.group.front c.group.waiting (rw st.front st.waiting)

pub nudged : {line : Entry → Option ℕ} (c : CoreCopies) (s : Copies Entry) → StandsFor line c s → (p : ℕ) → IsHome c.group p → (copy_of c.group p).good ≡ true → Quietly line (core_nudge p c) s
nudged {line = line} c s st p own k =
    let t = tell_all c s st (resend p c.group) (may (is_peer p (lead c.group)) refl) in
    record {
      events = t.events;
      allowed = t.allowed;
      stands = t.stands;
      stays = stays_alike s s (after_events s t.events) t.peers (same_stays s);
    }
  where
    may : (b : Bool) → is_peer p (lead c.group) ≡ b → Each (MayTell s.view s.log s.peers) (resend p c.group)
    may true e =
        rw e (each_flat_map (MayTell s.view s.log s.peers) (λ x. copies_above x.0 x.1.known c.group) (others c.group)
        (λ x. copies_may c.group s.view s.log s.peers st.view (all_waiting c s st) x.0 x.1.known))
    may false e =
        rw e
        (each_map (MayTell s.view s.log s.peers) (λ l. message.Have c.group.shard p l c.group.view (copy_of c.group p).sealed) (option_to_list (lead c.group))
        (λ l. (st.view, good_peer c s st p own k, omega (arith, (st.peers.each p own).sealed))))
