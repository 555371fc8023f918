-- A new view of the core's copies is a new view of the machine.
use Rattle.std.proofs.Common.{◌≡◌, ℕ, zero, suc, ◌+◌, ◌-◌, ◌≤◌, ◌<◌, Bool, true, false, List, [], ◌∷◌, ◌++◌, refl, sym, arith, length, Some, ap, ◌∙◌, map, drop, take, Option, None}
use Rattle.std.proofs.lemmas.List.{drop-append-le, drop-take, length-drop, length-map, length-set, map-append, take-map}
use Rattle.std.proofs.lemmas.List.FromFn.{length-enumerate_from}
use Rattle.std.specs.List.{enumerate_from}
use Rattle.std.specs.Option.{option_map_or}
use Rattle.std.specs.Prelude.{slice_index_or}
use Rattle.hs_entry.specs.declared.entry.Entry.{Entry}
use Rattle.hs_entry.specs.declared.entry.Entry.TheVariants.{View}
use Rattle.hs_limits.specs.declared.limits.PeerStatus.{PeerStatus}
use Rattle.hs_limits.specs.declared.limits.PeerStatus.TheVariants as is
use Rattle.hs_members.specs.Members.{IsMembers, IsShard, Members, is_good_status, status, view_of}
use Rattle.hs_post.specs.declared.message.Message.{Message}
use Rattle.hs_post.specs.declared.message.Message.TheVariants as message
use Rattle.hs_rejoin.specs.Rejoin.{Rejoin}
use Rattle.hs_replica.specs.declared.replica.Replica.{Replica}
use Rattle.hs_replica.specs.Group.{Group, IsHome, copies_above, copy_of, first_peer, last_number, lead, length_of, no_copy, on_view, others, proposal, propose, renew, renewal, stamp, take_entry, tell, tell_from, told, view_after, view_messages}
use Rattle.hs_copies.specs.CoreCopies.{CoreCopies}
use Rattle.hs_copies.specs.Invariant.{AreFaithful}
use Rattle.hs_copies.specs.Lists.{IsAmong, IsFront, Item}
use Rattle.hs_copies.specs.Machine.{Copies, CopyEvent, Down, Following, Good, CanCome, PeerCopy, after_event, item, put_at, told_copy, with_new_view}
use Rattle.hs_copies.specs.Stamps.{AreStampsTold, TellsView}
use Rattle.hs_copies.specs.Standing.{ArePeers, IsCopyOf, HasMessage, StandsFor, is_good_stage, stage_of, stamps_of}
use Rattle.hs_copies.proofs.CallLemmas.{get_end, propose_is}
use Rattle.hs_copies.proofs.HomeLemmas.{change_each, lead_found, set_same}
use Rattle.hs_copies.specs.Lines.{AreLinesOpen, ProposesRightly}
use Rattle.hs_copies.proofs.LineLemmas.{lines_after}
use Rattle.hs_copies.proofs.ListLemmas.{get_more}
use Rattle.hs_copies.proofs.PeerLemmas.{put_cases}
use Rattle.hs_copies.proofs.QuietLemmas.{Becomes}
use Rattle.hs_copies.proofs.SendLemmas.{Each, IsOfLog, MayTell, copies_may, each_append, each_flat_map, each_map, one_and_tell, waiting_of_log}
use Rattle.hs_copies.proofs.StampLemmas.{tells_after}
use Rattle.hs_copies.proofs.StandLemmas.{not_good_following}
use Rattle.hs_copies.proofs.ViewKeeps.{after_right}

pub good_status : (k : PeerStatus) (due : Bool) → is_good_stage (stage_of k due) ≡ is_good_status k
good_status is.Good due = refl
good_status is.Joining true = refl
good_status is.Joining false = refl
good_status is.Down due = refl

-- ---- the copies are told

get_told : (m : Members) (n : ℕ) (cs : List Replica) (i p : ℕ) → i < length cs → p ≡ n + i
    → slice_index_or (tell_from m n cs) i no_copy ≡ tell (is_good_status (status p m)) (slice_index_or cs i no_copy)
get_told m n [] i p l e = absurd (omega (arith, l))
get_told m n (c ∷ cs) zero p l e = let k : p ≡ n = omega (arith, e) in rw k refl
get_told m n (c ∷ cs) (suc i) p l e = get_told m (n + 1) cs i p (omega (arith, l)) (omega (arith, e))

pub told_length : (m : Members) (group : Group) → length (told m group).copies ≡ length group.copies
told_length m group =
    length-map (enumerate_from (first_peer group) group.copies) (λ x. tell (is_good_status (status x.0 m)) x.1) ∙ length-enumerate_from (first_peer group) group.copies

pub told_copy_of : (m : Members) (group : Group) (q : ℕ) → length group.copies ≡ group.shape.copies → IsHome group q
    → copy_of (told m group) q ≡ tell (is_good_status (status q m)) (copy_of group q)
told_copy_of m group q n h = get_told m (first_peer group) group.copies (q - first_peer group) q (omega (arith, n, h.0, h.1)) (omega (arith, h.0))

pub told_long : (m : Members) (group : Group) (q : ℕ) → length group.copies ≡ group.shape.copies → IsHome group q → length_of (told m group) q ≡ length_of group q
told_long m group q n h = ap (λ r. length r.stamps) (told_copy_of m group q n h)

pub told_good : (m : Members) (group : Group) (q : ℕ) → length group.copies ≡ group.shape.copies → IsHome group q → (copy_of (told m group) q).good ≡ is_good_status (status q m)
told_good m group q n h = ap (λ r. r.good) (told_copy_of m group q n h)

-- ---- the group in the new view

-- what waits above the new lead's list is gone
abbrev cut : Members → ℕ → Group → Group
cut m l group = record (told m group) { waiting = take (length_of (told m group) l - group.front) group.waiting }

renew_is : (m : Members) (group : Group) (l : ℕ) → lead (told m group) ≡ Some l → renew m group ≡ cut m l group
renew_is m group l e =
    ap (λ o. record (told m group) { waiting = take (option_map_or (length_of (told m group)) o 0 - group.front) group.waiting }) e

-- its lead proposes the View
abbrev pub viewed : Members → ℕ → Group → Group
viewed m l group = record (take_entry l (View (view_of group.shard m)) (told m group)) {
  waiting = take (length_of (told m group) l - group.front) group.waiting ++ View (view_of group.shard m) ∷ [];
}

pub view_is : (m : Members) (group : Group) (l : ℕ) → lead (told m group) ≡ Some l → on_view m group ≡ viewed m l group
view_is m group l e =
    ap (propose (View (view_of group.shard m))) (renew_is m group l e) ∙ propose_is (View (view_of group.shard m)) (cut m l group) l e

messages_are : (m : Members) (group : Group) (l : ℕ) → lead (told m group) ≡ Some l
    → view_messages m group ≡ renewal (cut m l group) ++ proposal (View (view_of group.shard m)) (cut m l group)
messages_are m group l e = ap (λ g. renewal g ++ proposal (View (view_of group.shard m)) g) (renew_is m group l e)

front_take : {X : Type 0} (xs ys : List X) → IsFront xs ys → xs ≡ take (length xs) ys
front_take [] ys p = refl
front_take (x ∷ xs) [] p = absurd p
front_take (x ∷ xs) (y ∷ ys) p = let e = front_take xs ys p.1 in let f = p.0 in cc (e, f)

each_more : (log : List (Item Entry)) (more : List (Item Entry)) (es : List (ℕ × Entry)) → Each (IsOfLog log) es → Each (IsOfLog (log ++ more)) es
each_more log more [] h = tt
each_more log more (e ∷ es) h = ((h.0.0, (h.0.1.0, h.0.1.1, get_more log more (e.0 - 1) h.0.1.0 h.0.1.2)), each_more log more es h.1)

-- what stands before a new view
pub record Before (c : CoreCopies) (s : Copies Entry) : Type 0 where
  pub shard : IsShard c.group.shape c.group.shard
  pub copies : length c.group.copies ≡ c.group.shape.copies
  pub each : (q : ℕ) → IsHome c.group q → IsCopyOf (copy_of c.group q) (s.peers q)
  pub front : c.group.front ≡ length s.took
  pub waiting : c.group.waiting ≡ map (λ x. x.what) (drop (length s.took) s.log)
  pub sent : (n : Message) → IsAmong n c.sent → HasMessage s.sent n

pub before : {line : Entry → Option ℕ} (c : CoreCopies) (s : Copies Entry) → StandsFor line c s → Before c s
before c s st =
    record { shard = st.shard; copies = st.copies; each = st.peers.each; front = st.front; waiting = st.waiting; sent = st.sent }

module _ (c : CoreCopies) (s : Copies Entry) (b : Before c s) (m : Members) (dues : ℕ → Rejoin) (peers : ℕ → PeerCopy Entry) (l : ℕ)
    (shape : m.shape ≡ c.group.shape)
    (valid : IsMembers m)
    (rises : view_of c.group.shard m ≡ suc s.view)
    (lists : (q : ℕ) → (peers q).list ≡ (s.peers q).list)
    (seals : (q : ℕ) → (peers q).sealed ≡ (s.peers q).sealed)
    (stages : (q : ℕ) → IsHome c.group q → (peers q).stage ≡ stage_of (status q m) (dues q).empty)
    (counted : (q : ℕ) → IsHome c.group q → (peers q).stage ≡ Following → (dues q).len ≡ length (peers q).list)
    (still : (q : ℕ) → IsHome c.group q → (peers q).stage ≡ Following → (peers q).adding ≡ [])
    (elsewhere : (q : ℕ) → (IsHome c.group q → ⊥) → (peers q).stage ≡ Down)
    (leads : lead (told m c.group) ≡ Some l)
    (own : IsHome c.group l)
    (good : (peers l).stage ≡ Good)
    (within : IsFront (peers l).list s.log)
    (has : length s.took ≤ length (peers l).list) where
  is_told : (q : ℕ) → IsHome c.group q → IsCopyOf (copy_of (told m c.group) q) (told_copy (peers q))
  is_told q h =
      let k = b.each q h in
      rw (told_copy_of m c.group q b.copies h)
      (record {
        good = sym (ap is_good_stage (stages q h) ∙ good_status (status q m) (dues q).empty);
        stamps = k.stamps ∙ ap stamps_of (sym (lists q));
        sealed = k.sealed ∙ sym (seals q);
        known = λ g. rw g (k.sealed ∙ sym (seals q));
      })

  top : PeerCopy Entry
  top = record (told_copy (peers l)) { list = (peers l).list ++ item (suc s.view) (View (view_of c.group.shard m)) ∷ [] }

  stamps_too : (stamps : List ℕ) → stamps ≡ stamps_of (peers l).list
      → stamp (View (view_of c.group.shard m)) stamps ≡ stamps_of ((peers l).list ++ item (suc s.view) (View (view_of c.group.shard m)) ∷ [])
  stamps_too stamps k = rw (map-append (λ (x : Item Entry). x.view) (peers l).list (item (suc s.view) (View (view_of c.group.shard m)) ∷ []), rises, k) refl

  new_peers : ArePeers (IsHome c.group) (copy_of (take_entry l (View (view_of c.group.shard m)) (told m c.group))) (λ q. status q m) dues
      (put_at l (record (told_copy (peers l)) { list = (peers l).list ++ item (suc s.view) (View (view_of c.group.shard m)) ∷ [] }) (λ q. told_copy (peers q)))
  unfolding top
  new_peers =
      let k = is_told l own in
      record {
        each = change_each (told m c.group) (λ q. told_copy (peers q)) l (λ r. record r { stamps = stamp (View (view_of c.group.shard m)) r.stamps }) top
            (told_length m c.group ∙ b.copies) own
            (record { good = k.good; stamps = stamps_too (copy_of (told m c.group) l).stamps k.stamps; sealed = k.sealed; known = k.known })
            is_told;
        stage = λ q h. put_cases (λ p. p.stage ≡ stage_of (status q m) (dues q).empty) l top (λ q. told_copy (peers q)) q (λ i. rw i (stages l own)) (λ n. stages q h);
        counted = λ q h. put_cases (λ p. p.stage ≡ Following → (dues q).len ≡ length p.list) l top (λ q. told_copy (peers q)) q (λ i f. absurd (not_good_following (peers l).stage good f)) (λ n. counted q h);
        still = λ q h. put_cases (λ p. p.stage ≡ Following → p.adding ≡ []) l top (λ q. told_copy (peers q)) q (λ i f. absurd (not_good_following (peers l).stage good f)) (λ n. still q h);
        elsewhere = λ q h. put_cases (λ p. p.stage ≡ Down) l top (λ q. told_copy (peers q)) q (λ i. absurd (h (rw i own))) (λ n. elsewhere q h);
      }

  lead_long : length_of (told m c.group) l ≡ length (peers l).list
  lead_long =
      told_long m c.group l b.copies own ∙ ap (λ k. length k) (b.each l own).stamps ∙ length-map (s.peers l).list (λ x. x.view) ∙ ap (λ k. length k) (sym (lists l))

  -- what waits is the lead's list above what took effect
  cut_waits : take (length_of (told m c.group) l - c.group.front) c.group.waiting ≡ map (λ x. x.what) (drop (length s.took) (peers l).list)
  cut_waits =
      let n : length_of (told m c.group) l - c.group.front ≡ length (peers l).list - length s.took = omega (arith, lead_long, b.front) in
      let whole : (peers l).list ≡ take (length (peers l).list) s.log = front_take (peers l).list s.log within in
      let split : length (peers l).list ≡ length s.took + (length (peers l).list - length s.took) = omega (arith, has) in
      let part : take (length (peers l).list - length s.took) (drop (length s.took) s.log) ≡ drop (length s.took) (peers l).list =
      sym (drop-take (length s.took) (length (peers l).list - length s.took) s.log) ∙ ap (λ k. drop (length s.took) (take k s.log)) (sym split) ∙ ap (λ k. drop (length s.took) k) (sym whole) in
      rw (n, b.waiting) (take-map (λ (x : Item Entry). x.what) (length (peers l).list - length s.took) (drop (length s.took) s.log) ∙ ap (λ (k : List (Item Entry)). map (λ x. x.what) k) part)

  view_waits : take (length_of (told m c.group) l - c.group.front) c.group.waiting ++ View (view_of c.group.shard m) ∷ []
      ≡ map (λ x. x.what) (drop (length s.took) ((peers l).list ++ item (suc s.view) (View (view_of c.group.shard m)) ∷ []))
  view_waits =
      rw (
        drop-append-le (length s.took) (peers l).list (item (suc s.view) (View (view_of c.group.shard m)) ∷ []) has,
        map-append (λ (x : Item Entry). x.what) (drop (length s.took) (peers l).list) (item (suc s.view) (View (view_of c.group.shard m)) ∷ []),
        cut_waits,
      ) refl

  pub view_stands : (line : Entry → Option ℕ) → ((view : ℕ) → line (View view) ≡ None) → AreLinesOpen line c.waits (with_new_view l (View (view_of c.group.shard m)) peers s)
      → AreFaithful (with_new_view l (View (view_of c.group.shard m)) peers s) → (begun : List (Item Entry)) (begun_at : ℕ)
      → AreStampsTold view_after begun begun_at (with_new_view l (View (view_of c.group.shard m)) peers s)
      → StandsFor line (record c { group = viewed m l c.group; members = m; rejoins = dues }) (with_new_view l (View (view_of c.group.shard m)) peers s)
  view_stands line views opened faithful begun begun_at stamped =
      record {
        shape = shape;
        members = valid;
        shard = b.shard;
        copies = length-set (told m c.group).copies _ _ ∙ told_length m c.group ∙ b.copies;
        view = rises;
        of_members = rises;
        peers = new_peers;
        front = b.front;
        waiting = view_waits;
        sent = b.sent;
        faithful = faithful;
        views = views;
        lines = opened;
        begun = begun;
        begun_at = begun_at;
        told = stamped;
      }

  -- ---- what is sent

  after_peers : ℕ → PeerCopy Entry
  after_peers = (with_new_view l (View (view_of c.group.shard m)) peers s).peers

  renewal_may : Each (MayTell (suc s.view) ((peers l).list ++ item (suc s.view) (View (view_of c.group.shard m)) ∷ []) after_peers) (renewal (cut m l c.group))
  renewal_may =
      let log : List (Item Entry) = (peers l).list ++ item (suc s.view) (View (view_of c.group.shard m)) ∷ [] in
      let waits : Each (IsOfLog (peers l).list) (enumerate_from (c.group.front + 1) (take (length_of (told m c.group) l - c.group.front) c.group.waiting)) =
      waiting_of_log (peers l).list c.group.front (take (length_of (told m c.group) l - c.group.front) c.group.waiting) (rw (cut_waits, b.front) refl) in
      each_flat_map (MayTell (suc s.view) log after_peers) (λ x. copies_above x.0 (length x.1.stamps) (cut m l c.group)) (others (cut m l c.group))
      (λ x. copies_may (cut m l c.group) (suc s.view) log after_peers rises
      (each_more (peers l).list (item (suc s.view) (View (view_of c.group.shard m)) ∷ []) (enumerate_from (c.group.front + 1) (take (length_of (told m c.group) l - c.group.front) c.group.waiting)) waits)
      x.0 (length x.1.stamps))

  view_may : Each (MayTell (suc s.view) ((peers l).list ++ item (suc s.view) (View (view_of c.group.shard m)) ∷ []) after_peers) (proposal (View (view_of c.group.shard m)) (cut m l c.group))
  view_may =
      let log : List (Item Entry) = (peers l).list ++ item (suc s.view) (View (view_of c.group.shard m)) ∷ [] in
      let long : length (take (length_of (told m c.group) l - c.group.front) c.group.waiting) ≡ length (peers l).list - length s.took =
      ap (λ k. length k) cut_waits ∙ length-map (drop (length s.took) (peers l).list) (λ x. x.what) ∙ length-drop (length s.took) (peers l).list in
      let n : last_number (cut m l c.group) + 1 - 1 ≡ length (peers l).list = omega (arith, b.front, long, has) in
      each_map (MayTell (suc s.view) log after_peers) (λ x. message.Copy c.group.shard x.0 (view_of c.group.shard m) (last_number (cut m l c.group) + 1) (View (view_of c.group.shard m))) (others (cut m l c.group))
      (λ x. (omega arith, rises, (item (suc s.view) (View (view_of c.group.shard m)), refl, rw n (get_end (peers l).list (item (suc s.view) (View (view_of c.group.shard m)))))))

  pub viewed_messages : Each (MayTell (suc s.view) ((peers l).list ++ item (suc s.view) (View (view_of c.group.shard m)) ∷ []) (with_new_view l (View (view_of c.group.shard m)) peers s).peers) (view_messages m c.group)
  unfolding after_peers
  viewed_messages =
      rw (messages_are m c.group l leads)
      (each_append (MayTell (suc s.view) ((peers l).list ++ item (suc s.view) (View (view_of c.group.shard m)) ∷ []) after_peers) (renewal (cut m l c.group))
      (proposal (View (view_of c.group.shard m)) (cut m l c.group)) renewal_may view_may)

  -- there is a lead in it
  pub led_anew : (k : ℕ) × (lead (on_view m c.group) ≡ Some k)
  led_anew =
      let g : Group = viewed m l c.group in
      let n : length g.copies ≡ g.shape.copies = length-set (told m c.group).copies _ _ ∙ told_length m c.group ∙ b.copies in
      let here : (copy_of g l).good ≡ true =
      ap (λ r. r.good) (set_same (told m c.group) l (λ r. record r { stamps = stamp (View (view_of c.group.shard m)) r.stamps }) (told_length m c.group ∙ b.copies) own)
      ∙ (is_told l own).good ∙ ap is_good_stage good in
      let f = lead_found g l n own here in
      (f.0, ap lead (view_is m c.group l leads) ∙ f.1)

-- the core's new view is the event
pub new_view : {line : Entry → Option ℕ} (c : CoreCopies) (s : Copies Entry) → StandsFor line c s → (m : Members) (dues : ℕ → Rejoin) (peers : ℕ → PeerCopy Entry) (l : ℕ)
    → (e : CopyEvent Entry)
    → CanCome s e
    → after_event e s ≡ with_new_view l (View (view_of c.group.shard m)) peers s
    → TellsView view_after s e
    → ProposesRightly line (record { copies = s; waits = c.waits }) e
    → m.shape ≡ c.group.shape
    → IsMembers m
    → view_of c.group.shard m ≡ suc s.view
    → ((q : ℕ) → (peers q).list ≡ (s.peers q).list)
    → ((q : ℕ) → (peers q).sealed ≡ (s.peers q).sealed)
    → ((q : ℕ) → IsHome c.group q → (peers q).stage ≡ stage_of (status q m) (dues q).empty)
    → ((q : ℕ) → IsHome c.group q → (peers q).stage ≡ Following → (dues q).len ≡ length (peers q).list)
    → ((q : ℕ) → IsHome c.group q → (peers q).stage ≡ Following → (peers q).adding ≡ [])
    → ((q : ℕ) → (IsHome c.group q → ⊥) → (peers q).stage ≡ Down)
    → lead (told m c.group) ≡ Some l
    → IsHome c.group l
    → (peers l).stage ≡ Good
    → IsFront (peers l).list s.log
    → length s.took ≤ length (peers l).list
    → Becomes line (record c { group = on_view m c.group; members = m; rejoins = dues; sent = view_messages m c.group ++ c.sent }) s e
new_view {line = line} c s st m dues peers l e allowed becomes tells right shape valid rises lists seals stages counted still elsewhere leads own good within has =
    let opened : AreLinesOpen line c.waits (with_new_view l (View (view_of c.group.shard m)) peers s) =
    rw (← becomes) (lines_after s c.waits st.faithful st.lines e allowed right) in
    let f : AreFaithful (with_new_view l (View (view_of c.group.shard m)) peers s) = rw (← becomes) (after_right s st.faithful e allowed) in
    let t : AreStampsTold view_after st.begun st.begun_at (with_new_view l (View (view_of c.group.shard m)) peers s) =
    rw (← becomes) (tells_after view_after st.begun st.begun_at s st.faithful st.told e allowed tells) in
    let k = view_stands c s (before c s st) m dues peers l shape valid rises lists seals stages counted still elsewhere leads own good within has line st.views opened f st.begun st.begun_at t in
    rw (view_is m c.group l leads)
    (one_and_tell (record c { group = viewed m l c.group; members = m; rejoins = dues }) s e allowed (rw becomes k) (view_messages m c.group)
    (rw becomes (viewed_messages c s (before c s st) m dues peers l shape valid rises lists seals stages counted still elsewhere leads own good within has)))
