-- The last good peer of a shard goes down: what is left of it, and of the others.
use Rattle.std.proofs.Common.{◌≡◌, ◌≢◌, ◌⊎◌, ◌∙◌, ap, sym, refl, inl, inr, ℕ, zero, suc, ◌+◌, ◌-◌, ◌*◌, ◌/◌, ◌<◌, ◌≤◌, Bool, true, false, List, [], ◌∷◌, Option, Some, None, length, arith}
use Rattle.std.proofs.lemmas.Bool.{cases_eq, cases_lt}
use Rattle.std.proofs.lemmas.List.{get_or_past, length-set, set_past}
use Rattle.std.proofs.lemmas.Nat.{div-mul-add}
use Rattle.std.specs.List.{range_with_len}
use Rattle.std.specs.Option.{option_map}
use Rattle.std.specs.Prelude.{filter, slice_index_or}
use Rattle.hs_awaiting.specs.Words.{change_if, each, ◌▸◌}
use Rattle.hs_cluster.proofs.TakenLemmas.{any_there}
use Rattle.hs_copies.proofs.FailLemmas.{good_found}
use Rattle.hs_copies.proofs.StatusLemmas.{become_here, become_members, become_other}
use Rattle.hs_copies.specs.Lists.{IsAmong}
use Rattle.hs_core_copies.proofs.FallLemmas.{IsBegunAnew, anew, down_by, in_peers}
use Rattle.hs_core_copies.proofs.LeadLemmas.{good_only}
use Rattle.hs_core_copies.proofs.PlaceLemmas.{rejoin_here, rejoin_other}
use Rattle.hs_core_copies.proofs.ReportLemmas.{same_number}
use Rattle.hs_core_words.specs.Changing.{set_status, set_tasks}
use Rattle.hs_core_words.specs.Effects.{commit}
use Rattle.hs_core_words.specs.Failing.{commit_rest, go_down, leave}
use Rattle.hs_core_words.specs.Joining.{begin_joining, joining_peers}
use Rattle.hs_core_words.specs.Looking.{group_of, home, lead_of, rejoin_of, status_of}
use Rattle.hs_core_words.specs.State.{Core}
use Rattle.hs_core_words.specs.Views.{begin_view}
use Rattle.hs_limits.specs.declared.limits.PeerStatus.TheVariants.{Down, Good, Joining}
use Rattle.hs_limits.specs.declared.shape.Shape.{Shape}
use Rattle.hs_limits.specs.Shape.{peer_of}
use Rattle.hs_members.specs.Members.{Members, become, has_good, is_good_status, is_joining, peers_of, status}
use Rattle.hs_rejoin.specs.Rejoin.{new_rejoin}
use Rattle.hs_replica.specs.Group.{IsHome, first_peer, is_peer}
use Rattle.hs_whole_copies.proofs.FollowLemmas.{IsSized, IsTold, home_own, lead_good, status_apart, within}
use Rattle.hs_steady.proofs.LeavesLemmas.{Leaves, leaves_fall}

-- ---- who is good

-- a good peer of a shard makes it one that has a good peer
pub good_there : (x q : ℕ) (c : Core) (m : Members) → IsSized x c → m.shape ≡ c.members.shape → IsHome (group_of x c) q → status q m ≡ Good → has_good x m ≡ true
good_there x q c m k shape h good =
    let first : peer_of m.shape x 0 ≡ first_peer (group_of x c) = ap (λ (s : Shape). peer_of s x 0) (shape ∙ k.shape) ∙ ap (λ i. peer_of (group_of x c).shape i 0) (sym k.shard) in
    let count : m.shape.copies ≡ (group_of x c).shape.copies = ap (λ (s : Shape). s.copies) (shape ∙ k.shape) in
    any_there (λ p. is_good_status (status p m)) (peer_of m.shape x 0) m.shape.copies q (omega (arith, first, h.0)) (omega (arith, first, count, h.1)) (ap is_good_status good)

-- where none is, none leads
pub no_lead : (x : ℕ) (c : Core) → IsSized x c → has_good x c.members ≡ false → lead_of x c ≡ None
no_lead x c k none = go (lead_of x c) refl
  where
    go : (o : Option ℕ) → lead_of x c ≡ o → lead_of x c ≡ None
    go None e = e
    go (Some l) e =
        let d = lead_good x c k l e in
        let wrong : true ≡ false = sym (good_there x l c c.members k refl d.0 d.1) ∙ none in
        absurd (cc wrong)

-- ---- joining peers begin again

-- one of the shard, where none leads
pub begins_none : (x q : ℕ) (ps : List ℕ) (c : Core) → home q c ≡ x → lead_of x c ≡ None → IsAmong q ps ⊎ (rejoin_of q c ≡ None) → rejoin_of q (each ps begin_joining c) ≡ None
begins_none x q [] c own none (inl k) = absurd k
begins_none x q [] c own none (inr e) = e
begins_none x q (p ∷ ps) c own none h = begins_none x q ps (begin_joining p c) own none (next h)
  where
    here : q ≡ p → rejoin_of q (begin_joining p c) ≡ None
    here e = elim (cases_lt p (length c.progress.rejoins)) [
      | inl low ↦ ap (λ i. rejoin_of i (begin_joining p c)) e ∙ rejoin_here p (option_map new_rejoin (lead_of (home p c) c)) c low ∙ ap (λ i. option_map new_rejoin (lead_of (home i c) c)) (sym e) ∙ ap (λ i. option_map new_rejoin (lead_of i c)) own ∙ ap (option_map new_rejoin) none
      | inr high ↦ ap (λ i. rejoin_of i (begin_joining p c)) e ∙ ap (λ all. slice_index_or all p None) (set_past c.progress.rejoins p (option_map new_rejoin (lead_of (home p c) c)) high) ∙ past high
    ]
      where
        past : length c.progress.rejoins ≤ p → rejoin_of p c ≡ None
        past high = get_or_past c.progress.rejoins p None high

    next : IsAmong q (p ∷ ps) ⊎ (rejoin_of q c ≡ None) → IsAmong q ps ⊎ (rejoin_of q (begin_joining p c) ≡ None)
    next (inl (inl e)) = inr (here e)
    next (inl (inr k)) = inl k
    next (inr e) = elim (cases_eq q p) [
      | inl i ↦ inr (here i)
      | inr n ↦ inr (rejoin_other p q (option_map new_rejoin (lead_of (home p c) c)) c n ∙ e)
    ]

-- another one
pub begins_other : (q : ℕ) (ps : List ℕ) (c : Core) → (IsAmong q ps → ⊥) → rejoin_of q (each ps begin_joining c) ≡ rejoin_of q c
begins_other q [] c n = refl
begins_other q (p ∷ ps) c n = begins_other q ps (begin_joining p c) (λ k. n (inr k)) ∙ rejoin_other p q (option_map new_rejoin (lead_of (home p c) c)) c (λ e. n (inl e))

among_passes : (test : ℕ → Bool) (q : ℕ) (qs : List ℕ) → test q ≡ true → IsAmong q qs → IsAmong q (filter test qs)
among_passes test q [] e k = absurd k
among_passes test q (p ∷ qs) e k = go (test p) refl k (λ rest. among_passes test q qs e rest)
  where
    go : (b : Bool) → test p ≡ b → IsAmong q (p ∷ qs) → (IsAmong q qs → IsAmong q (filter test qs)) → IsAmong q (filter test (p ∷ qs))
    go true i (inl same) h = rw i (inl same)
    go true i (inr rest) h = rw i (inr (h rest))
    go false i (inl same) h = let wrong : true ≡ false = sym e ∙ ap test same ∙ i in absurd (cc wrong)
    go false i (inr rest) h = rw i (h rest)

among_kept : (test : ℕ → Bool) (q : ℕ) (qs : List ℕ) → IsAmong q (filter test qs) → IsAmong q qs
among_kept test q [] k = absurd k
among_kept test q (p ∷ qs) k = go (test p) refl k (λ rest. among_kept test q qs rest)
  where
    go : (b : Bool) → test p ≡ b → IsAmong q (filter test (p ∷ qs)) → (IsAmong q (filter test qs) → IsAmong q qs) → IsAmong q (p ∷ qs)
    go true i k h = both (rw i at k)
      where
        both : IsAmong q (p ∷ filter test qs) → IsAmong q (p ∷ qs)
        both (inl same) = inl same
        both (inr rest) = inr (h rest)
    go false i k h = let rest : IsAmong q (filter test qs) = rw i at k in inr (h rest)

in_range : (q n k : ℕ) → IsAmong q (range_with_len n k) → (n ≤ q) × (q < n + k)
in_range q n zero a = absurd a
in_range q n (suc k) (inl e) = (omega (arith, e), omega (arith, e))
in_range q n (suc k) (inr a) = let r = in_range q (n + 1) k a in (omega (arith, r.0), omega (arith, r.1))

-- the peers of a shard keep a copy of it
pub joining_own : (x q : ℕ) (c : Core) → IsAmong q (joining_peers x c) → home q c ≡ x
joining_own x q c a =
    let r = in_range q (peer_of c.members.shape x 0) c.members.shape.copies (among_kept (λ p. is_joining (status_of p c)) q (peers_of c.members.shape x) a) in
    let e : q ≡ x * c.members.shape.copies + (q - x * c.members.shape.copies) = omega (arith, r.0) in
    ap (λ k. k / c.members.shape.copies) e ∙ div-mul-add x c.members.shape.copies (q - x * c.members.shape.copies) (omega (arith, r.0, r.1))

-- ---- the last good peer goes down

-- members and groups tell who leads
pub lead_by_both : (y : ℕ) (a b : Core) → b.members ≡ a.members → b.groups ≡ a.groups → lead_of y b ≡ lead_of y a
lead_by_both y a b members groups = rw (members, groups) refl

-- what is left then of whom the shards' groups told before
module _ (x l : ℕ) (c : Core) (k : IsTold x c) (own : home l c ≡ x) (leads : lead_of x c ≡ Some l) (lost : has_good x (go_down l c).members ≡ false) where
  good_l : status_of l c ≡ Good
  good_l = (lead_good x c k.sized l leads).1

  none_now : has_good x (become l Down c.members) ≡ false
  none_now = go (has_good x (become l Down c.members)) refl
    where
      go : (b : Bool) → has_good x (become l Down c.members) ≡ b → has_good x (become l Down c.members) ≡ false
      go false e = e
      go true e =
          let f = good_found (group_of x c) (become l Down c.members) k.sized.shape (rw k.sized.shard e) in
          let good : status f.0 (become l Down c.members) ≡ Good = good_only (status f.0 (become l Down c.members)) f.2 in
          let down : status l (become l Down c.members) ≡ Down = become_here l Down c.members k.sized.valid (within x c k.sized l own) in
          let apart : f.0 ≢ l = λ i. (let wrong : Down ≡ Good = sym down ∙ ap (λ j. status j (become l Down c.members)) (sym i) ∙ good in cc wrong) in
          let lv : Leaves f.0 c (go_down l c) = leaves_fall f.0 l c apart in
          let still : status_of f.0 (go_down l c) ≡ Good = lv.status ∙ sym (become_other l f.0 Down c.members apart) ∙ good in
          let wrong : true ≡ false = sym (good_there x f.0 c (go_down l c).members k.sized lv.work.shape f.1 still) ∙ lost in
          absurd (cc wrong)

  -- no view begins, and nothing takes effect
  pub fallen_is : go_down l c ≡ each (joining_peers x (leave l c)) begin_joining (leave l c)
  fallen_is =
      let d : Core = each (joining_peers x (leave l c)) begin_joining (leave l c) in
      let led : is_peer l (lead_of x c) ≡ true = ap (is_peer l) leads ∙ same_number l in
      let none3 : has_good x d.members ≡ false = ap (has_good x) (anew (joining_peers x (leave l c)) (leave l c)).members ∙ none_now in
      ap (λ i. down_by (is_good_status (status_of l c)) (is_peer l (lead_of i c)) i l c) own
      ∙ ap (λ t. down_by t (is_peer l (lead_of x c)) x l c) (ap is_good_status good_l) ∙ ap (λ t. down_by true t x l c) led
      ∙ ap (λ t. change_if true (commit_rest x) (change_if true (λ core. core ▸ each (joining_peers x core) begin_joining) (change_if t (begin_view x) (leave l c)))) none_now
      ∙ ap (λ t. change_if t (commit x) d) none3

  same : IsBegunAnew (leave l c) (each (joining_peers x (leave l c)) begin_joining (leave l c))
  same = anew (joining_peers x (leave l c)) (leave l c)

  pub fallen_groups : (go_down l c).groups ≡ c.groups
  fallen_groups = ap (λ (y : Core). y.groups) fallen_is ∙ same.groups

  pub fallen_members : (go_down l c).members ≡ become l Down c.members
  fallen_members = ap (λ (y : Core). y.members) fallen_is ∙ same.members

  left_none : lead_of x (leave l c) ≡ None
  left_none = no_lead x (leave l c) (record {
    inside = k.sized.inside;
    low = k.sized.low;
    shape = k.sized.shape;
    shard = k.sized.shard;
    long = k.sized.long;
    some = k.sized.some;
    valid = become_members l Down c.members k.sized.valid;
    rejoins = length-set c.progress.rejoins l None ∙ k.sized.rejoins;
  }) none_now

  -- a joining peer of the shard has nobody to copy from
  pub fallen_joins : (q : ℕ) → home q c ≡ x → status_of q (go_down l c) ≡ Joining → rejoin_of q (go_down l c) ≡ None
  fallen_joins q of joins =
      let now : status_of q (leave l c) ≡ Joining = ap (status q) (sym fallen_members) ∙ joins in
      let among : IsAmong q (joining_peers x (leave l c)) =
      among_passes (λ p. is_joining (status_of p (leave l c))) q (peers_of c.members.shape x) (ap is_joining now) (in_peers c.members.shape x (group_of x c) q k.sized.shape k.sized.shard (home_own x c k.sized q of)) in
      ap (rejoin_of q) fallen_is ∙ begins_none x q (joining_peers x (leave l c)) (leave l c) of left_none (inl among)

  -- one of another shard is as it was
  pub fallen_rejoin : (q : ℕ) → home q c ≢ x → rejoin_of q (go_down l c) ≡ rejoin_of q c
  fallen_rejoin q n =
      ap (rejoin_of q) fallen_is ∙ begins_other q (joining_peers x (leave l c)) (leave l c) (λ a. n (joining_own x q (leave l c) a))
      ∙ rejoin_other l q None (set_tasks l [] (set_status l Down c)) (λ e. n (ap (λ i. home i c) e ∙ own))

  pub fallen_lead : (y d : ℕ) → y ≢ x → IsTold y c → lead_of y c ≡ Some d → lead_of y (go_down l c) ≡ Some d
  fallen_lead y d n told e =
      ap (lead_of y) fallen_is ∙ lead_by_both y (leave l c) (each (joining_peers x (leave l c)) begin_joining (leave l c)) same.members same.groups ∙ (status_apart y l Down c (λ of. n (sym of ∙ own)) told).1.lead d e
