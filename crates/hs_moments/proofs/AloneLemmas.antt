-- What the calls on a group make of one that stands alone: it leads, and nothing is sent.
use Rattle.std.proofs.Common.{◌≡◌, ◌∙◌, ap, sym, ℕ, ◌+◌, ◌-◌, ◌*◌, ◌<◌, ◌≤◌, ◌==◌, true, false, List, [], ◌∷◌, ◌++◌, Some, refl, arith, length, map, max, nat_lt}
use Rattle.std.proofs.lemmas.Bool.{eq-eqb, lt-ltb, le-ltb}
use Rattle.std.specs.List.{flat_map}
use Rattle.std.specs.Option.{option_map, option_map_or}
use Rattle.std.specs.Prelude.{filter, if◌then◌else◌, slice_index_or, slice_set, take}
use Rattle.hs_entry.specs.declared.entry.Entry.{Entry}
use Rattle.hs_limits.specs.declared.limits.PeerStatus.TheVariants.{Good}
use Rattle.hs_limits.specs.declared.shape.Shape.{Shape}
use Rattle.hs_members.specs.Members.{Members, is_good_status, lead_by, longest, status, view_of}
use Rattle.hs_post.specs.declared.message.Message.TheVariants.{Copy}
use Rattle.hs_replica.specs.declared.replica.Replica.{Replica}
use Rattle.hs_replica.specs.Group.{Group, change_copy, commit_front, committed, copies_above, copy_of, first_peer, have, is_peer, last_number, lead, lead_takes, length_of, no_copy, on_sealed, others, others_from, proposal, propose, renew, renewal, resend, stamp, take_committed, tell, told}
use Rattle.hs_events.specs.Alone.{IsAlone, own}

-- ---- a group that is written out

first_is : (shape : Shape) (g : ℕ) → shape.copies ≡ 1 → g * shape.copies + 0 ≡ g
first_is shape g one = ap (λ n. g * n + 0) one ∙ omega arith

place_is : (shape : Shape) (g : ℕ) → shape.copies ≡ 1 → g - (g * shape.copies + 0) ≡ 0
place_is shape g one = let e = first_is shape g one in omega (arith, e)

abbrev pub alone : Shape → ℕ → ℕ → ℕ → List Entry → Replica → Group
alone shape g view front waiting c = record { shape = shape; shard = g; view = view; copies = c ∷ []; front = front; waiting = waiting }

is_written : (shape : Shape) (g : ℕ) (group : Group) → IsAlone shape g group → group ≡ alone shape g group.view group.front group.waiting (own group)
is_written shape g group h = λ i. record { shape = h.same_shape i; shard = h.same_shard i; view = group.view; copies = h.copies i; front = group.front; waiting = group.waiting }

pub is_alone : (shape : Shape) (g view front : ℕ) (waiting : List Entry) (c : Replica) → c.good ≡ true → c.known ≡ c.sealed → front ≤ c.sealed → c.sealed ≤ front + length waiting → length c.stamps ≡ front + length waiting
    → IsAlone shape g (alone shape g view front waiting c)
is_alone shape g view front waiting c good known handed within long = record { same_shape = refl; same_shard = refl; copies = refl; good = good; known = known; handed = handed; within = within; long = long }

module _ (shape : Shape) (g view front : ℕ) (waiting : List Entry) (c : Replica) (one : shape.copies ≡ 1) (good : c.good ≡ true) where
  abbrev x : Group
  x = alone shape g view front waiting c

  lead_x : lead x ≡ Some g
  lead_x = rw good (ap Some (first_is shape g one))

  leads_x : is_peer g (lead x) ≡ true
  leads_x = ap (is_peer g) lead_x ∙ eq-eqb g g refl

  copy_x : copy_of x g ≡ c
  copy_x = ap (λ p. slice_index_or (c ∷ []) p no_copy) (place_is shape g one)

  others_x : others x ≡ []
  others_x =
      let same : g == first_peer x ≡ true = eq-eqb g (first_peer x) (sym (first_is shape g one)) in
      ap (λ l. others_from l (first_peer x) (c ∷ [])) lead_x ∙ rw (good, same) refl

  proposal_x : (entry : Entry) → proposal entry x ≡ []
  proposal_x entry = ap (map (λ (y : ℕ × Replica). Copy g y.0 view (last_number x + 1) entry)) others_x

  renewal_x : renewal x ≡ []
  renewal_x = ap (flat_map (λ (y : ℕ × Replica). copies_above y.0 (length y.1.stamps) x)) others_x

  resend_x : resend g x ≡ []
  resend_x =
      ap (λ b. if b then flat_map (λ (y : ℕ × Replica). copies_above y.0 y.1.known x) (others x) else have g (copy_of x g).sealed x) leads_x
      ∙ ap (flat_map (λ (y : ℕ × Replica). copies_above y.0 y.1.known x)) others_x

  have_x : (n : ℕ) → have g n x ≡ []
  have_x n = rw leads_x refl

  propose_x : (entry : Entry) → propose entry x ≡ alone shape g view front (waiting ++ entry ∷ []) (record c { stamps = stamp entry c.stamps })
  propose_x entry =
      ap (λ l. record (lead_takes l entry x) { waiting = waiting ++ entry ∷ [] }) lead_x
      ∙ ap (λ p. record x { copies = slice_set (c ∷ []) p (record (slice_index_or (c ∷ []) p no_copy) { stamps = stamp entry (slice_index_or (c ∷ []) p no_copy).stamps }); waiting = waiting ++ entry ∷ [] }) (place_is shape g one)

  front_x : commit_front x ≡ c.known
  front_x = rw good refl

  sealed_x : (n : ℕ) → on_sealed g n x ≡ alone shape g view front waiting (record c { sealed = n; known = max c.known n })
  sealed_x n =
      ap (λ b. change_copy g (λ (d : Replica). record d { sealed = n; known = if b then max d.known n else d.known }) x) leads_x
      ∙ ap (λ p. record x { copies = slice_set (c ∷ []) p (record (slice_index_or (c ∷ []) p no_copy) { sealed = n; known = max (slice_index_or (c ∷ []) p no_copy).known n }) }) (place_is shape g one)

told_x : (shape : Shape) (g view front : ℕ) (waiting : List Entry) (c : Replica) (m : Members) → shape.copies ≡ 1 → status g m ≡ Good → told m (alone shape g view front waiting c) ≡ alone shape g (view_of g m) front waiting (tell true c)
told_x shape g view front waiting c m one is_good =
    ap (λ p. alone shape g (view_of g m) front waiting (tell (is_good_status (status p m)) c)) (first_is shape g one)
    ∙ ap (λ s. alone shape g (view_of g m) front waiting (tell (is_good_status s) c)) is_good

renew_x : (shape : Shape) (g view front : ℕ) (waiting : List Entry) (c : Replica) (m : Members) → shape.copies ≡ 1 → status g m ≡ Good
    → renew m (alone shape g view front waiting c) ≡ alone shape g (view_of g m) front (take (length c.stamps - front) waiting) (tell true c)
renew_x shape g view front waiting c m one is_good =
    let new : Group = alone shape g (view_of g m) front waiting (tell true c) in
    ap (λ (t : Group). record t { waiting = take (option_map_or (length_of t) (lead t) 0 - t.front) t.waiting }) (told_x shape g view front waiting c m one is_good)
    ∙ ap (λ l. record new { waiting = take (option_map_or (length_of new) l 0 - front) waiting }) (lead_x shape g (view_of g m) front waiting (tell true c) one refl)
    ∙ ap (λ (d : Replica). record new { waiting = take (length d.stamps - front) waiting }) (copy_x shape g (view_of g m) front waiting (tell true c) one refl)

-- by the members too
pub lead_by_alone : (m : Members) (g len : ℕ) → m.shape.copies ≡ 1 → status g m ≡ Good → lead_by g (len ∷ []) m ≡ Some g
lead_by_alone m g len one is_good =
    ap (λ p. option_map (λ (y : ℕ × ℕ). y.0) (longest (filter (λ (y : ℕ × ℕ). is_good_status (status y.0 m)) ((p, len) ∷ [])))) (first_is m.shape g one)
    ∙ ap (λ s. option_map (λ (y : ℕ × ℕ). y.0) (longest (if is_good_status s then (g, len) ∷ [] else []))) is_good

-- ---- a group that stands alone

module _ (shape : Shape) (g : ℕ) (group : Group) (one : shape.copies ≡ 1) (h : IsAlone shape g group) where
  written : group ≡ alone shape g group.view group.front group.waiting (own group)
  written = is_written shape g group h

  pub copy_alone : copy_of group g ≡ own group
  copy_alone = ap (λ y. copy_of y g) written ∙ copy_x shape g group.view group.front group.waiting (own group) one h.good

  pub proposal_alone : (entry : Entry) → proposal entry group ≡ []
  proposal_alone entry = ap (proposal entry) written ∙ proposal_x shape g group.view group.front group.waiting (own group) one h.good entry

  pub renewal_alone : renewal group ≡ []
  renewal_alone = ap renewal written ∙ renewal_x shape g group.view group.front group.waiting (own group) one h.good

  pub resend_alone : resend g group ≡ []
  resend_alone = ap (resend g) written ∙ resend_x shape g group.view group.front group.waiting (own group) one h.good

  pub have_alone : (n : ℕ) → have g n group ≡ []
  have_alone n = ap (have g n) written ∙ have_x shape g group.view group.front group.waiting (own group) one h.good n

  pub front_alone : commit_front group ≡ (own group).sealed
  front_alone = ap commit_front written ∙ front_x shape g group.view group.front group.waiting (own group) one h.good ∙ h.known

  pub propose_alone : (entry : Entry) → propose entry group ≡ alone shape g group.view group.front (group.waiting ++ entry ∷ []) (record (own group) { stamps = stamp entry (own group).stamps })
  propose_alone entry = ap (propose entry) written ∙ propose_x shape g group.view group.front group.waiting (own group) one h.good entry

  pub sealed_alone : (n : ℕ) → on_sealed g n group ≡ alone shape g group.view group.front group.waiting (record (own group) { sealed = n; known = max (own group).known n })
  sealed_alone n = ap (on_sealed g n) written ∙ sealed_x shape g group.view group.front group.waiting (own group) one h.good n

  pub renew_alone : (m : Members) → status g m ≡ Good → renew m group ≡ alone shape g (view_of g m) group.front (take (length (own group).stamps - group.front) group.waiting) (tell true (own group))
  renew_alone m is_good = ap (renew m) written ∙ renew_x shape g group.view group.front group.waiting (own group) m one is_good

-- ---- one entry is handed out

-- the first that waits
pub record HandsOut (group : Group) : Type 0 where
  pub entry : Entry
  pub rest : List Entry
  pub waits : group.waiting ≡ entry ∷ rest
  pub next : committed group ≡ Some (group.front + 1, entry)
  pub front : commit_front group ≡ (own group).sealed
  pub is : take_committed group ≡ record group { front = group.front + 1; waiting = rest }

hand_out : (group : Group) (entry : Entry) (rest : List Entry) → group.waiting ≡ entry ∷ rest → nat_lt group.front (commit_front group) ≡ true → take_committed group ≡ record group { front = group.front + 1; waiting = rest }
hand_out group entry rest waits lt = rw (lt, waits) refl

hand_next : (group : Group) (entry : Entry) (rest : List Entry) → group.waiting ≡ entry ∷ rest → nat_lt group.front (commit_front group) ≡ true → committed group ≡ Some (group.front + 1, entry)
hand_next group entry rest waits lt = rw (lt, waits) refl

pub hands_out : (shape : Shape) (g : ℕ) (group : Group) → shape.copies ≡ 1 → IsAlone shape g group → group.front < (own group).sealed → HandsOut group
hands_out shape g group one h lt = go group.waiting refl
  where
    front : commit_front group ≡ (own group).sealed
    front = front_alone shape g group one h

    below : nat_lt group.front (commit_front group) ≡ true
    below = ap (nat_lt group.front) front ∙ lt-ltb group.front (own group).sealed lt

    go : (ws : List Entry) → group.waiting ≡ ws → HandsOut group
    go [] e = let within = h.within in let none = ap length e in absurd (omega (arith, within, none, lt))
    go (entry ∷ rest) e = record { entry = entry; rest = rest; waits = e; next = hand_next group entry rest e below; front = front; is = hand_out group entry rest e below }

pub hands_nothing : (shape : Shape) (g : ℕ) (group : Group) → shape.copies ≡ 1 → IsAlone shape g group → (own group).sealed ≤ group.front → take_committed group ≡ group
hands_nothing shape g group one h le =
    let above : nat_lt group.front (commit_front group) ≡ false = ap (nat_lt group.front) (front_alone shape g group one h) ∙ le-ltb group.front (own group).sealed le in
    rw above refl

pub dummy : (n : ℕ) → n ≡ n
dummy n = refl
