-- The next copying steps of peers, from what they are made of, and after a change.
use Rattle.std.proofs.Common.{◌≡◌, ◌≢◌, ◌∙◌, sym, ap, refl, arith, ℕ, suc, ◌+◌, ◌-◌, ◌*◌, ◌/◌, ◌%◌, ◌<◌, ◌≤◌, Bool, true, false, List, [], ◌∷◌, Option, Some, None, length, map, filter}
use Rattle.std.proofs.Math.Decide.{ℕ_discrete}
use Rattle.std.proofs.lemmas.List.{get_or-set_other, get_or-set_same, get_or_past, length-map, length-set, set-get_or}
use Rattle.std.proofs.Math.Nat.{mul-le-mul_right, suc-mul}
use native.Mathlib.Decide.{dec_lt}
use Rattle.std.proofs.lemmas.Nat.{div-add-mod', div-mul-add, div_below, mod_below}
use Rattle.std.specs.List.{enumerate_from}
use Rattle.std.specs.Option.{IfSome, option_map}
use Rattle.std.specs.Prelude.{if◌then◌else◌, nat_le, slice_index_or, slice_set}
use Rattle.hs_awaiting.specs.Words.{change_if}
use Rattle.hs_core_state.proofs.LeadLemmas.{peer_within}
use Rattle.hs_core_words.specs.Changing.{change_group}
use Rattle.hs_core_state.specs.Keeping.{AreFronts, AreSteps, IsCore, IsOf, kept_step}
use Rattle.hs_core_words.specs.Looking.{group_of, home, lead_of, rejoin_of, shape_of, status_of}
use Rattle.hs_core_state.specs.Renewing.{Renews, lead_in, lead_sealed, step_at}
use Rattle.hs_core_words.specs.State.{Core}
use Rattle.hs_desk.specs.declared.job.Job.{Job}
use Rattle.hs_entry.specs.declared.entry.Entry.{Entry}
use Rattle.hs_limits.specs.declared.shape.Shape.{Shape}
use Rattle.hs_limits.specs.Shape.{peer_of}
use Rattle.hs_members.specs.Members.{IsPeer, IsShard, Members, home_of, is_good_status, is_joining, lead_by, longer, longest, status}
use Rattle.hs_rejoin.specs.Rejoin.{Rejoin, next_job}
use Rattle.hs_replica.specs.Group.{Group, committed, copy_of, first_peer, new_group, no_copy, on_append, take_committed, take_entry, takes}
use Rattle.hs_replica.specs.Keeping.{KeepsFront}

-- ---- peers of a shard

pub home_in : (shape : Shape) (shard copy : ℕ) → copy < shape.copies → home_of shape (peer_of shape shard copy) ≡ shard
home_in shape shard copy h = div-mul-add shard shape.copies copy h

pub home_low : (shape : Shape) (peer : ℕ) → peer_of shape (home_of shape peer) 0 ≤ peer
home_low shape peer =
    let e : peer / shape.copies * shape.copies + peer % shape.copies ≡ peer = div-add-mod' peer shape.copies in
    omega (arith, e)

pub home_high : (shape : Shape) (peer : ℕ) → 0 < shape.copies → peer < peer_of shape (home_of shape peer) 0 + shape.copies
home_high shape peer h =
    let e : peer / shape.copies * shape.copies + peer % shape.copies ≡ peer = div-add-mod' peer shape.copies in
    let m : peer % shape.copies < shape.copies = mod_below peer shape.copies h in
    omega (arith, e, m)

-- a peer between the first and the last is of the shard
pub home_between : (shape : Shape) (shard peer : ℕ) → peer_of shape shard 0 ≤ peer → peer < peer_of shape shard 0 + shape.copies → home_of shape peer ≡ shard
home_between shape shard peer l h =
    let e : peer_of shape shard (peer - peer_of shape shard 0) ≡ peer = omega (arith, l) in
    ap (home_of shape) (sym e) ∙ home_in shape shard (peer - peer_of shape shard 0) (omega (arith, l, h))

-- and it is a peer of the store
pub peer_between : (shape : Shape) (shard peer : ℕ) → IsShard shape shard → peer_of shape shard 0 ≤ peer → peer < peer_of shape shard 0 + shape.copies → IsPeer shape peer
peer_between shape shard peer s l h = peer_within shape shard (peer - peer_of shape shard 0) peer (omega (arith, l)) s (omega (arith, l, h))

-- ---- steps written one after another

-- those of the shard up to this peer
pub one_inside : (shape : Shape) (shard peer : ℕ) (ss : List (Option Job)) (v : Option Job) (f : ℕ → Option Job) → peer < length ss → v ≡ f peer
    → ((k : ℕ) → home_of shape k ≡ shard → k < peer → slice_index_or ss k None ≡ f k)
    → (k : ℕ) → home_of shape k ≡ shard → k < peer + 1 → slice_index_or (slice_set ss peer v) k None ≡ f k
one_inside shape shard peer ss v f l e before k at h = elim (ℕ_discrete k peer) [
  | yes q ↦ rw q (get_or-set_same ss peer v None l ∙ e)
  | no d ↦ get_or-set_other ss peer k v None d ∙ before k at (omega (arith, h, d))
]

-- those of other shards
pub one_outside : (shape : Shape) (shard peer k : ℕ) (ss : List (Option Job)) (v : Option Job) → home_of shape peer ≡ shard → home_of shape k ≢ shard
    → slice_index_or (slice_set ss peer v) k None ≡ slice_index_or ss k None
one_outside shape shard peer k ss v at d = get_or-set_other ss peer k v None (λ e. d (ap (home_of shape) e ∙ at))

-- ---- the lead

-- the longest of some peers is one of them
longest_within : (p : ℕ × ℕ → Bool) (n : ℕ) (xs : List ℕ) → IfSome (longest (filter p (enumerate_from n xs))) (λ x. (n ≤ x.0) × (x.0 < n + length xs))
longest_within p n [] = tt
longest_within p n (y ∷ ys) = go (p (n, y)) refl (longest (filter p (enumerate_from (n + 1) ys))) refl (longest_within p (n + 1) ys)
  where
    choose : (b : Bool) (z : ℕ × ℕ) → (n + 1 ≤ z.0) × (z.0 < n + 1 + length ys)
        → (n ≤ (if b then (n, y) else z).0) × ((if b then (n, y) else z).0 < n + length (y ∷ ys))
    choose true z h = (omega arith, omega arith)
    choose false z h = (omega (arith, h.0), omega (arith, h.1))

    pick : (r : Option (ℕ × ℕ)) → IfSome r (λ x. (n + 1 ≤ x.0) × (x.0 < n + 1 + length ys))
        → (n ≤ (longer (n, y) r).0) × ((longer (n, y) r).0 < n + length (y ∷ ys))
    pick None h = (omega arith, omega arith)
    pick (Some z) h = choose (nat_le z.1 y) z h

    wider : (r : Option (ℕ × ℕ)) → IfSome r (λ x. (n + 1 ≤ x.0) × (x.0 < n + 1 + length ys)) → IfSome r (λ x. (n ≤ x.0) × (x.0 < n + length (y ∷ ys)))
    wider None h = tt
    wider (Some z) h = (omega (arith, h.0), omega (arith, h.1))

    go : (b : Bool) → p (n, y) ≡ b → (r : Option (ℕ × ℕ)) → longest (filter p (enumerate_from (n + 1) ys)) ≡ r → IfSome r (λ x. (n + 1 ≤ x.0) × (x.0 < n + 1 + length ys))
        → IfSome (longest (filter p (enumerate_from n (y ∷ ys)))) (λ x. (n ≤ x.0) × (x.0 < n + length (y ∷ ys)))
    go true e r q h = rw (e, q) (pick r h)
    go false e r q h = rw (e, q) (wider r h)

-- the lead of a shard is of the shard
pub lead_is_home : (m : Members) (shard lead : ℕ) (lens : List ℕ) → length lens ≡ m.shape.copies → lead_by shard lens m ≡ Some lead → home_of m.shape lead ≡ shard
lead_is_home m shard lead lens l e = found (longest (filter (λ x. is_good_status (status x.0 m)) (enumerate_from (peer_of m.shape shard 0) lens))) (longest_within (λ x. is_good_status (status x.0 m)) (peer_of m.shape shard 0) lens) e
  where
    some : (x : ℕ × ℕ) → (peer_of m.shape shard 0 ≤ x.0) × (x.0 < peer_of m.shape shard 0 + length lens) → x.0 ≡ lead → home_of m.shape lead ≡ shard
    some x h q = rw (← q) (home_between m.shape shard x.0 h.0 (omega (arith, h.1, l)))

    found : (r : Option (ℕ × ℕ)) → IfSome r (λ x. (peer_of m.shape shard 0 ≤ x.0) × (x.0 < peer_of m.shape shard 0 + length lens)) → option_map (λ x. x.0) r ≡ Some lead → home_of m.shape lead ≡ shard
    found None h q = let wrong : None ≡ Some lead = q in cc
    found (Some x) h q = let at : x.0 ≡ lead = cc in some x h at

-- it depends on the statuses of the shard's peers alone
same_good : (p q : ℕ → Bool) (n : ℕ) (xs : List ℕ) → ((k : ℕ) → n ≤ k → k < n + length xs → p k ≡ q k) → filter (λ (x : ℕ × ℕ). p x.0) (enumerate_from n xs) ≡ filter (λ (x : ℕ × ℕ). q x.0) (enumerate_from n xs)
same_good p q n [] h = refl
same_good p q n (y ∷ ys) h =
    let first : p n ≡ q n = h n (omega arith) (omega arith) in
    let rest : filter (λ (x : ℕ × ℕ). p x.0) (enumerate_from (n + 1) ys) ≡ filter (λ (x : ℕ × ℕ). q x.0) (enumerate_from (n + 1) ys)
    = same_good p q (n + 1) ys (λ k l u. h k (omega arith) (omega arith)) in
    rw (first, rest) refl

same_lead : (m w : Members) (shard : ℕ) (lens : List ℕ) → w.shape ≡ m.shape → ((k : ℕ) → peer_of m.shape shard 0 ≤ k → k < peer_of m.shape shard 0 + length lens → status k w ≡ status k m) → lead_by shard lens w ≡ lead_by shard lens m
same_lead m w shard lens e h =
    rw e (ap (λ xs. option_map (λ x. x.0) (longest xs))
    (same_good (λ k. is_good_status (status k w)) (λ k. is_good_status (status k m)) (peer_of m.shape shard 0) lens (λ k l u. ap is_good_status (h k l u))))

-- ---- one step

-- the step that is kept is that of the peer's status, lead and progress
pub kept_step_at : (core : Core) (peer : ℕ) → IsOf (shape_of core) (home peer core) (group_of (home peer core) core)
    → kept_step peer core ≡ step_at core.members (lead_of (home peer core) core) (lead_sealed (lead_of (home peer core) core) (group_of (home peer core) core)) core.progress.rejoins peer
kept_step_at core peer is = go (is_joining (status_of peer core)) refl (lead_of (home peer core) core) refl (rejoin_of peer core) refl
  where
    go : (b : Bool) → is_joining (status_of peer core) ≡ b → (lead : Option ℕ) → lead_of (home peer core) core ≡ lead → (r : Option Rejoin) → rejoin_of peer core ≡ r
        → kept_step peer core ≡ step_at core.members (lead_of (home peer core) core) (lead_sealed (lead_of (home peer core) core) (group_of (home peer core) core)) core.progress.rejoins peer
    go false e lead p r q = rw e refl
    go true e None p r q = rw (e, p) refl
    go true e (Some l) p None q = rw (e, p, q) refl
    go true e (Some l) p (Some r) q =
        let at : home l core ≡ home peer core = lead_is_home core.members (home peer core) l (map (λ copy. length copy.stamps) (group_of (home peer core) core).copies) (length-map (group_of (home peer core) core).copies _ ∙ is.copies) p in
        rw (e, p, q) (ap (λ s. next_job (copy_of (group_of s core) l).sealed r) at)

-- it stays where the statuses of the shard's peers and the peer's progress do
parts_elsewhere : (m w : Members) (g : Group) (rs ss : List (Option Rejoin)) (shard peer : ℕ) → length g.copies ≡ m.shape.copies → w.shape ≡ m.shape → home_of m.shape peer ≡ shard
    → ((k : ℕ) → home_of m.shape k ≡ shard → status k w ≡ status k m) → slice_index_or ss peer None ≡ slice_index_or rs peer None
    → step_at w (lead_in w g shard) (lead_sealed (lead_in w g shard) g) ss peer ≡ step_at m (lead_in m g shard) (lead_sealed (lead_in m g shard) g) rs peer
parts_elsewhere m w g rs ss shard peer l e at sts r =
    let count : length (map (λ copy. length copy.stamps) g.copies) ≡ m.shape.copies = length-map g.copies _ ∙ l in
    let lead : lead_in w g shard ≡ lead_in m g shard = same_lead m w shard (map (λ copy. length copy.stamps) g.copies) e
    (λ k low high. sts k (home_between m.shape shard k low (omega (arith, high, count)))) in
    let own : status peer w ≡ status peer m = sts peer at in
    rw (own, lead, r) refl

-- the steps of peers of other shards stay
step_elsewhere : (old new : Core) (peer : ℕ) → IsOf (shape_of old) (home peer old) (group_of (home peer old) old) → IsOf (shape_of new) (home peer new) (group_of (home peer new) new)
    → new.members.shape ≡ old.members.shape → group_of (home peer old) new ≡ group_of (home peer old) old
    → ((k : ℕ) → home_of (shape_of old) k ≡ home peer old → status_of k new ≡ status_of k old) → rejoin_of peer new ≡ rejoin_of peer old
    → kept_step peer new ≡ kept_step peer old
step_elsewhere old new peer is isn e g sts r =
    let s : ℕ = home peer old in
    let at : home peer new ≡ s = ap (λ shape. home_of shape peer) e in
    kept_step_at new peer isn
    ∙ ap (λ t. step_at new.members (lead_of t new) (lead_sealed (lead_of t new) (group_of t new)) new.progress.rejoins peer) at
    ∙ ap (λ x. step_at new.members (lead_in new.members x s) (lead_sealed (lead_in new.members x s) x) new.progress.rejoins peer) g
    ∙ parts_elsewhere old.members new.members (group_of s old) old.progress.rejoins new.progress.rejoins s peer is.copies e refl sts r
    ∙ sym (kept_step_at old peer is)

-- ---- all steps

home_within : (shape : Shape) (peer : ℕ) → 0 < shape.copies → IsPeer shape peer → IsShard shape (home_of shape peer)
home_within shape peer c h = div_below peer shape.copies shape.shards c h

-- what is known of the group of a peer's shard
pub of_home : (core : Core) (peer : ℕ) → IsCore core → IsPeer (shape_of core) peer → IsOf (shape_of core) (home peer core) (group_of (home peer core) core)
of_home core peer is h = is.each (home peer core) (home_within (shape_of core) peer is.members.shape.some_copy h)

-- the steps of one shard's peers are renewed, and nothing changes that the others depend on
pub steps_renewed : (old new : Core) (shard : ℕ) (ss ts : List (Option Job)) → IsCore old → IsCore new → AreSteps old ss → new.members.shape ≡ old.members.shape
    → Renews new.members (group_of shard new) new.progress.rejoins shard ss ts
    → ((s : ℕ) → s ≢ shard → group_of s new ≡ group_of s old)
    → ((k : ℕ) → home_of (shape_of old) k ≢ shard → status_of k new ≡ status_of k old)
    → ((k : ℕ) → home_of (shape_of old) k ≢ shard → rejoin_of k new ≡ rejoin_of k old)
    → AreSteps new ts
steps_renewed old new shard ss ts io iw are e renews gs sts rs = record {
  length = renews.length ∙ are.length ∙ ap (λ shape. shape.shards * shape.copies) (sym e);
  each = each_of;
}
  where
    same_home : (peer : ℕ) → home peer new ≡ home peer old
    same_home peer = ap (λ shape. home_of shape peer) e

    old_peer : (peer : ℕ) → IsPeer (shape_of new) peer → IsPeer (shape_of old) peer
    old_peer peer h = rw (← e) h

    each_of : (peer : ℕ) → IsPeer (shape_of new) peer → slice_index_or ts peer None ≡ kept_step peer new
    each_of peer h = elim (ℕ_discrete (home peer new) shard) [
      | yes q ↦ renews.inside peer h q
          ∙ ap (λ t. step_at new.members (lead_of t new) (lead_sealed (lead_of t new) (group_of t new)) new.progress.rejoins peer) (sym q)
          ∙ sym (kept_step_at new peer (of_home new peer iw h))
      | no d ↦ renews.outside peer d ∙ are.each peer (old_peer peer h)
          ∙ sym (step_elsewhere old new peer (of_home old peer io (old_peer peer h)) (of_home new peer iw h) e
          (gs (home peer old) (λ q. d (same_home peer ∙ q)))
          (λ k at. sts k (λ q. d (same_home peer ∙ sym at ∙ q)))
          (rs peer (λ q. d (same_home peer ∙ q))))
    ]

-- ---- one group changes

-- another group of the same shard
pub of_kept : (shape : Shape) (shard : ℕ) (g h : Group) → IsOf shape shard g → KeepsFront g h → IsOf shape shard h
of_kept shape shard g h is kept = record {
  valid = is.valid;
  within = is.within;
  same_shape = kept.shape ∙ is.same_shape;
  same_shard = kept.shard ∙ is.same_shard;
  copies = kept.copies ∙ is.copies;
}

pub each_after : (shape : Shape) (gs : List Group) (shard : ℕ) (g : Group) → length gs ≡ shape.shards → IsShard shape shard
    → ((s : ℕ) → IsShard shape s → IsOf shape s (slice_index_or gs s (new_group shape s 0 0 [])))
    → IsOf shape shard g
    → (s : ℕ) → IsShard shape s → IsOf shape s (slice_index_or (slice_set gs shard g) s (new_group shape s 0 0 []))
each_after shape gs shard g l within each is s h = elim (ℕ_discrete s shard) [
  | yes e ↦ rw e (rw (get_or-set_same gs shard g (new_group shape shard 0 0 []) (rw l within)) is)
  | no d ↦ rw (get_or-set_other gs shard s g (new_group shape s 0 0 []) d) (each s h)
]

-- a group of a core after a change of one
group_after : (old new : Core) (shard : ℕ) (g : Group) → new.members ≡ old.members → new.groups ≡ slice_set old.groups shard g → shard < length old.groups → group_of shard new ≡ g
group_after old new shard g m gs h = rw (m, gs) (get_or-set_same old.groups shard g (new_group (shape_of old) shard 0 0 []) h)

group_beside : (old new : Core) (shard s : ℕ) (g : Group) → new.members ≡ old.members → new.groups ≡ slice_set old.groups shard g → s ≢ shard → group_of s new ≡ group_of s old
group_beside old new shard s g m gs d = rw (m, gs) (get_or-set_other old.groups shard s g (new_group (shape_of old) s 0 0 []) d)

-- a core after a change of a group
pub core_after : (old new : Core) (shard : ℕ) (g : Group) → IsCore old → IsShard (shape_of old) shard → KeepsFront (group_of shard old) g
    → new.members ≡ old.members → new.groups ≡ slice_set old.groups shard g
    → length new.catalogues ≡ length old.catalogues → length new.progress.viewed ≡ length old.progress.viewed → length new.tasks ≡ length old.tasks → length new.progress.rejoins ≡ length old.progress.rejoins
    → IsCore new
core_after old new shard g is within kept m gs cs vs ts rs = record {
  members = rw m is.members;
  catalogues = cs ∙ is.catalogues ∙ shards;
  groups = rw gs (length-set old.groups shard g) ∙ is.groups ∙ shards;
  viewed = vs ∙ is.viewed ∙ shards;
  tasks = ts ∙ is.tasks ∙ peers;
  rejoins = rs ∙ is.rejoins ∙ peers;
  each = λ s h. rw (m, gs) (each_after (shape_of old) old.groups shard g is.groups within is.each (of_kept (shape_of old) shard (group_of shard old) g (is.each shard within) kept) s (rw (← m) h));
}
  where
    shards : (shape_of old).shards ≡ (shape_of new).shards
    shards = ap (λ (x : Members). x.shape.shards) (sym m)

    peers : (shape_of old).shards * (shape_of old).copies ≡ (shape_of new).shards * (shape_of new).copies
    peers = ap (λ (x : Members). x.shape.shards * x.shape.copies) (sym m)

-- its fronts, where the group keeps its front
pub fronts_after : (old new : Core) (shard : ℕ) (g : Group) (fs : List ℕ) → IsCore old → IsShard (shape_of old) shard → AreFronts old fs → KeepsFront (group_of shard old) g
    → new.members ≡ old.members → new.groups ≡ slice_set old.groups shard g → AreFronts new fs
fronts_after old new shard g fs is within are kept m gs = record {
  length = are.length ∙ ap (λ (x : Members). x.shape.shards) (sym m);
  each = λ s h. elim (ℕ_discrete s shard) [
    | yes e ↦ rw e (are.each shard within ∙ sym kept.front ∙ ap (λ (x : Group). x.front) (sym (group_after old new shard g m gs long)))
    | no d ↦ are.each s (rw (← m) h) ∙ ap (λ (x : Group). x.front) (sym (group_beside old new shard s g m gs d))
  ];
}
  where
    long : shard < length old.groups
    long = rw is.groups within

-- and where another front is told
pub fronts_told : (old new : Core) (shard : ℕ) (g : Group) (fs : List ℕ) → IsCore old → IsShard (shape_of old) shard → AreFronts old fs
    → new.members ≡ old.members → new.groups ≡ slice_set old.groups shard g → AreFronts new (slice_set fs shard g.front)
fronts_told old new shard g fs is within are m gs = record {
  length = length-set fs shard g.front ∙ are.length ∙ ap (λ (x : Members). x.shape.shards) (sym m);
  each = λ s h. elim (ℕ_discrete s shard) [
    | yes e ↦ rw e (get_or-set_same fs shard g.front 0 (rw are.length within) ∙ ap (λ (x : Group). x.front) (sym (group_after old new shard g m gs long)))
    | no d ↦ get_or-set_other fs shard s g.front 0 d ∙ are.each s (rw (← m) h) ∙ ap (λ (x : Group). x.front) (sym (group_beside old new shard s g m gs d))
  ];
}
  where
    long : shard < length old.groups
    long = rw is.groups within

-- its steps, where they were renewed and only peers of the shard have gone on
pub steps_after : (old new : Core) (shard : ℕ) (g : Group) (ss ts : List (Option Job)) → IsCore old → IsCore new → IsShard (shape_of old) shard → AreSteps old ss
    → new.members ≡ old.members → new.groups ≡ slice_set old.groups shard g
    → Renews new.members g new.progress.rejoins shard ss ts
    → ((k : ℕ) → home_of (shape_of old) k ≢ shard → rejoin_of k new ≡ rejoin_of k old)
    → AreSteps new ts
steps_after old new shard g ss ts io iw within are m gs renews rs =
    let long : shard < length old.groups = rw io.groups within in
    let put : group_of shard new ≡ g = group_after old new shard g m gs long in
    steps_renewed old new shard ss ts io iw are (ap (λ (x : Members). x.shape) m)
    (rw put renews)
    (λ s d. group_beside old new shard s g m gs d)
    (λ k d. ap (status k) m)
    rs

-- another progress of one peer
pub rejoin_beside : (rs : List (Option Rejoin)) (shape : Shape) (peer shard k : ℕ) (r : Option Rejoin) → home_of shape peer ≡ shard → home_of shape k ≢ shard
    → slice_index_or (slice_set rs peer r) k None ≡ slice_index_or rs k None
rejoin_beside rs shape peer shard k r at d = get_or-set_other rs peer k r None (λ e. d (ap (home_of shape) e ∙ at))

-- ---- what took effect

-- a step does not depend on how many entries were handed out
taken_parts : (m : Members) (g : Group) (rs : List (Option Rejoin)) (shard peer : ℕ)
    → step_at m (lead_in m (take_committed g) shard) (lead_sealed (lead_in m (take_committed g) shard) (take_committed g)) rs peer
    ≡ step_at m (lead_in m g shard) (lead_sealed (lead_in m g shard) g) rs peer
taken_parts m g rs shard peer = go (committed g) refl
  where
    go : (o : Option (ℕ × Entry)) → committed g ≡ o
        → step_at m (lead_in m (take_committed g) shard) (lead_sealed (lead_in m (take_committed g) shard) (take_committed g)) rs peer
        ≡ step_at m (lead_in m g shard) (lead_sealed (lead_in m g shard) g) rs peer
    go None e = rw e refl
    go (Some x) e = rw e refl

-- the core after the next entry of a shard was handed out
pub steps_taken : (old new : Core) (shard : ℕ) (ss : List (Option Job)) → IsCore old → IsCore new → IsShard (shape_of old) shard → AreSteps old ss
    → new.members ≡ old.members → new.groups ≡ slice_set old.groups shard (take_committed (group_of shard old)) → new.progress.rejoins ≡ old.progress.rejoins → AreSteps new ss
steps_taken old new shard ss io iw within are m gs rs = record {
  length = are.length ∙ ap (λ (x : Members). x.shape.shards * x.shape.copies) (sym m);
  each = each_of;
}
  where
    g : Group
    g = group_of shard old

    same_home : (peer : ℕ) → home peer new ≡ home peer old
    same_home peer = ap (λ (x : Members). home_of x.shape peer) m

    old_peer : (peer : ℕ) → IsPeer (shape_of new) peer → IsPeer (shape_of old) peer
    old_peer peer h = rw (← m) h

    put : group_of shard new ≡ take_committed g
    put = group_after old new shard (take_committed g) m gs (rw io.groups within)

    inside : (peer : ℕ) → IsPeer (shape_of new) peer → home peer new ≡ shard → kept_step peer new ≡ kept_step peer old
    inside peer h q =
        let at : home peer old ≡ shard = sym (same_home peer) ∙ q in
        kept_step_at new peer (of_home new peer iw h)
        ∙ ap (λ t. step_at new.members (lead_of t new) (lead_sealed (lead_of t new) (group_of t new)) new.progress.rejoins peer) q
        ∙ ap (λ x. step_at new.members (lead_in new.members x shard) (lead_sealed (lead_in new.members x shard) x) new.progress.rejoins peer) put
        ∙ taken_parts new.members g new.progress.rejoins shard peer
        ∙ ap (λ x. step_at x (lead_in x g shard) (lead_sealed (lead_in x g shard) g) new.progress.rejoins peer) m
        ∙ ap (λ x. step_at old.members (lead_in old.members g shard) (lead_sealed (lead_in old.members g shard) g) x peer) rs
        ∙ ap (λ t. step_at old.members (lead_of t old) (lead_sealed (lead_of t old) (group_of t old)) old.progress.rejoins peer) (sym at)
        ∙ sym (kept_step_at old peer (of_home old peer io (old_peer peer h)))

    each_of : (peer : ℕ) → IsPeer (shape_of new) peer → slice_index_or ss peer None ≡ kept_step peer new
    each_of peer h = elim (ℕ_discrete (home peer new) shard) [
      | yes q ↦ are.each peer (old_peer peer h) ∙ sym (inside peer h q)
      | no d ↦ are.each peer (old_peer peer h)
          ∙ sym (step_elsewhere old new peer (of_home old peer io (old_peer peer h)) (of_home new peer iw h) (ap (λ (x : Members). x.shape) m)
          (group_beside old new shard (home peer old) (take_committed g) m gs (λ q. d (same_home peer ∙ q)))
          (λ k at. ap (status k) m)
          (ap (λ x. slice_index_or x peer None) rs))
    ]

-- what taking leaves: the shard and its copies
taken_of : (shape : Shape) (shard : ℕ) (g : Group) → IsOf shape shard g → IsOf shape shard (take_committed g)
taken_of shape shard g is = go (committed g) refl
  where
    go : (o : Option (ℕ × Entry)) → committed g ≡ o → IsOf shape shard (take_committed g)
    go None e = rw e is
    go (Some x) e = rw e (record { valid = is.valid; within = is.within; same_shape = is.same_shape; same_shard = is.same_shard; copies = is.copies })

pub core_taken : (old new : Core) (shard : ℕ) → IsCore old → IsShard (shape_of old) shard
    → new.members ≡ old.members → new.groups ≡ slice_set old.groups shard (take_committed (group_of shard old))
    → length new.catalogues ≡ length old.catalogues → length new.progress.viewed ≡ length old.progress.viewed → length new.tasks ≡ length old.tasks → length new.progress.rejoins ≡ length old.progress.rejoins
    → IsCore new
core_taken old new shard is within m gs cs vs ts rs = record {
  members = rw m is.members;
  catalogues = cs ∙ is.catalogues ∙ shards;
  groups = rw gs (length-set old.groups shard (take_committed (group_of shard old))) ∙ is.groups ∙ shards;
  viewed = vs ∙ is.viewed ∙ shards;
  tasks = ts ∙ is.tasks ∙ peers;
  rejoins = rs ∙ is.rejoins ∙ peers;
  each = λ s h. rw (m, gs) (each_after (shape_of old) old.groups shard (take_committed (group_of shard old)) is.groups within is.each (taken_of (shape_of old) shard (group_of shard old) (is.each shard within)) s (rw (← m) h));
}
  where
    shards : (shape_of old).shards ≡ (shape_of new).shards
    shards = ap (λ (x : Members). x.shape.shards) (sym m)

    peers : (shape_of old).shards * (shape_of old).copies ≡ (shape_of new).shards * (shape_of new).copies
    peers = ap (λ (x : Members). x.shape.shards * x.shape.copies) (sym m)

-- the number of an entry that is handed out is the new front
pub taken_number : (g : Group) (number : ℕ) (entry : Entry) → committed g ≡ Some (number, entry) → (take_committed g).front ≡ number
taken_number g number entry e = rw e refl

-- ---- a Copy

-- a peer that takes a Copy is a peer of the store
pub takes_peer : (shape : Shape) (shard peer view number : ℕ) (g : Group) → IsOf shape shard g → takes peer view number g ≡ true → IsPeer shape peer
takes_peer shape shard peer view number g is e = elim (dec_lt (peer - first_peer g) (length g.copies)) [
  | yes l ↦
      let first : first_peer g ≡ peer_of shape shard 0 = rw (is.same_shape, is.same_shard) refl in
      let low : peer < peer_of shape shard 0 + shape.copies = omega (arith, l, first, is.copies) in
      let m : suc shard * shape.copies ≤ shape.shards * shape.copies = mul-le-mul_right shape.copies (omega (arith, is.within)) in
      let d : suc shard * shape.copies ≡ shard * shape.copies + shape.copies = suc-mul shard shape.copies in
      omega (arith, low, m, d)
  | no n ↦
      let past : copy_of g peer ≡ no_copy = get_or_past g.copies (peer - first_peer g) no_copy (omega (arith, n)) in
      let wrong : false ≡ true = rw past at e in cc
]

-- where it is not taken nothing changes
pub append_is : (shard peer view number : ℕ) (entry : Entry) (core : Core)
    → change_group shard (on_append peer view number entry) core ≡ change_if (takes peer view number (group_of shard core)) (change_group shard (take_entry peer entry)) core
append_is shard peer view number entry core = go (takes peer view number (group_of shard core)) refl
  where
    go : (b : Bool) → takes peer view number (group_of shard core) ≡ b
        → change_group shard (on_append peer view number entry) core ≡ change_if (takes peer view number (group_of shard core)) (change_group shard (take_entry peer entry)) core
    go true e = rw e refl
    go false e = rw e (ap (λ gs. record core { groups = gs }) (set-get_or core.groups shard (new_group (shape_of core) shard 0 0 [])))

-- a shard that there isn't takes none
pub takes_nowhere : (shard peer view number : ℕ) (core : Core) → length core.groups ≤ shard → takes peer view number (group_of shard core) ≡ false
takes_nowhere shard peer view number core h =
    let none : group_of shard core ≡ new_group (shape_of core) shard 0 0 [] = get_or_past core.groups shard (new_group (shape_of core) shard 0 0 []) h in
    rw none refl
