-- As a store opens each good peer's log has the list that its shard opens with, and nothing waits there.
use Rattle.std.proofs.Common.{◌≡◌, ◌∙◌, ap, sym, subst, refl, inl, inr, ℕ, ◌+◌, ◌-◌, ◌*◌, ◌/◌, ◌<◌, ◌≤◌, not, Bool, true, false, if◌then◌else◌, List, [], ◌++◌, Some, None, flat_map, length, arith}
use Rattle.std.proofs.Math.ListN.{get_or-map}
use Rattle.std.proofs.Math.Nat.{div-mul-le_self, lt-div-mul-add}
use Rattle.std.proofs.lemmas.Bool.{cases_lt}
use Rattle.std.proofs.lemmas.List.{get_or-drop, get_or-replicate, get_or-take, get_or_past, take_at}
use Rattle.std.proofs.lemmas.List.FromFn.{get_or-map-range_with_len, length-enumerate_from}
use Rattle.std.specs.Prelude.{drop, slice_index, slice_index_or, take}
use Rattle.hs_cluster.specs.Opens.{OpensLists}
use Rattle.hs_cluster.specs.PeerLogs.{log_of_peer}
use Rattle.hs_cluster.specs.Sealed.{sealed_front}
use Rattle.hs_copies.specs.Machine.{Copies}
use Rattle.hs_core_copies.proofs.WalkLemmas.{keeps_each, keeps_if}
use Rattle.hs_core_copies.specs.Jobs.{tasks_for}
use Rattle.hs_core_words.specs.Changing.{note}
use Rattle.hs_core_words.specs.Looking.{group_of, home, sealed_of, shape_of, shards_of, status_of}
use Rattle.hs_core_words.specs.Opening.{Taken, begin_views, good_copies, new_core, note_down, note_if_down, taken_group}
use Rattle.hs_core_words.specs.State.{Core}
use Rattle.hs_core_words.specs.Step.{end_event}
use Rattle.hs_core_words.specs.Views.{change_view}
use Rattle.hs_entry.specs.declared.entry.Entry.{Entry}
use Rattle.hs_entry.specs.Entries.{rank_of}
use Rattle.hs_events.specs.Found.{Found, first_core, opened_list, opens_with, starts_good}
use Rattle.hs_events.specs.Sane.{IsFromOne, appended_of}
use Rattle.hs_events.specs.Taken.{peer_count}
use Rattle.hs_events.specs.Whole.{counts, floor, grown, open_whole, reach}
use Rattle.hs_fold.specs.Shards.Setting.{Numbered, Setting}
use Rattle.hs_journal.specs.declared.entry.Who.TheVariants as who
use Rattle.hs_limits.specs.declared.limits.PeerStatus.TheVariants.{Down, Good, Joining}
use Rattle.hs_limits.specs.declared.shape.Shape.{Shape}
use Rattle.hs_limits.specs.Shape.{peer_of}
use Rattle.hs_members.specs.Members.{IsPeer, IsShard, all_peers, home_of, is_good_status}
use Rattle.hs_model.specs.declared.deed.Deed.TheVariants as deed
use Rattle.hs_model.specs.declared.reply.Reply.TheVariants as reply
use Rattle.hs_moments.proofs.WorkLemmas.{last_is}
use Rattle.hs_moments.specs.WholeMachine.{IsFrontOf, last_of}
use Rattle.hs_replica.specs.declared.replica.Replica.{Replica}
use Rattle.hs_replica.specs.Group.{Group, copy_of, entries_above, length_of, new_group, no_copy, whole_copy}
use Rattle.hs_whole_copies.proofs.OpenLemmas.{opens_whole}
use Rattle.hs_whole_copies.specs.Opening.{MayOpenWhole}
use Rattle.hs_whole_copies.specs.Whole.{IsShardInStep, IsWholeInStep}
use Rattle.hs_steady.proofs.FaresLemmas.{leaves_end}
use Rattle.hs_steady.proofs.LeavesLemmas.{Leaves, leaves_both, leaves_quiet, leaves_view, steps_leave}
use Rattle.hs_steady.proofs.PeerLemmas.{FollowsOn, IsGood, IsOff, LogSeen, floor_good, log_good, log_seen, reach_good}
use Rattle.hs_steady.proofs.QueueLemmas.{queue_none}
use Rattle.hs_steady.proofs.SteadyLemmas.{home_low, its_shard}

-- views begin, and peers that are not good are told of
leaves_opening : (q : ℕ) (c : Core) → Leaves q c (end_event (note_down (begin_views c)))
leaves_opening q c =
    let one : Core = begin_views c in
    let two : Core = note_down one in
    leaves_both q c one (end_event two) (keeps_each (steps_leave q) (shards_of c) change_view c (λ x y. leaves_view q x y))
    (leaves_both q one two (end_event two)
    (keeps_each (steps_leave q) (all_peers (shape_of one)) note_if_down one
    (λ p y. keeps_if (steps_leave q) (not (is_good_status (status_of p y))) (note who.Store deed.Nothing (reply.Down p 0)) y (λ z. leaves_quiet q z (note who.Store deed.Nothing (reply.Down p 0) z) refl refl refl refl)))
    (leaves_end q two))

-- the copy of a good peer has all of a log sealed
sealed_new : (shape : Shape) (goods : List Bool) (v n g q : ℕ) → 1 ≤ shape.copies → home_of shape q ≡ g → slice_index_or goods q false ≡ true
    → (copy_of (new_group shape g v n (good_copies shape goods g)) q).sealed ≡ n
sealed_new shape goods v n g q some own good =
    ap (λ (r : Replica). r.sealed) (get_or-map (λ b. if b then whole_copy v n else no_copy) (good_copies shape goods g) (q - peer_of shape g 0) false ∙ ap (λ b. if b then whole_copy v n else no_copy) there)
  where
    low : g * shape.copies ≤ q
    low = let l : q / shape.copies * shape.copies ≤ q = div-mul-le_self q shape.copies in let e : q / shape.copies * shape.copies ≡ g * shape.copies = ap (λ k. k * shape.copies) own in omega (arith, l, e)

    high : q < g * shape.copies + shape.copies
    high = let l : q < q / shape.copies * shape.copies + shape.copies = lt-div-mul-add {a = q} {b = shape.copies} some in let e : q / shape.copies * shape.copies ≡ g * shape.copies = ap (λ k. k * shape.copies) own in omega (arith, l, e)

    there : slice_index_or (good_copies shape goods g) (q - peer_of shape g 0) false ≡ true
    there =
        let place : peer_of shape g 0 + (q - peer_of shape g 0) ≡ q = omega (arith, low) in
        get_or-take shape.copies (drop (peer_of shape g 0) goods) (q - peer_of shape g 0) false (omega (arith, low, high)) ∙ get_or-drop (peer_of shape g 0) goods (q - peer_of shape g 0) false ∙ ap (λ k. slice_index_or goods k false) place ∙ good

module _ (set : Setting) (found : Found) (may : MayOpenWhole set found) (on : (first_core set found).ended ≡ None) where
  abbrev taken : Taken
  taken = opens_with set found

  abbrev fresh : Core
  fresh = new_core set.shape set.limits (opens_with set found) found.opened

  lv : (q : ℕ) → Leaves q (new_core set.shape set.limits (opens_with set found) found.opened) (first_core set found)
  lv q = leaves_opening q (new_core set.shape set.limits (opens_with set found) found.opened)

  status_at : (q : ℕ) → status_of q (first_core set found) ≡ (if starts_good found q then Good else Down)
  status_at q = (lv q).status ∙ get_or-map (λ b. if b then Good else Down) found.good q false

  shape_is : (first_core set found).members.shape ≡ set.shape
  shape_is = (lv 0).work.shape

  whole : (machines : ℕ → Copies Entry) × IsWholeInStep (open_whole set found) machines
  whole = opens_whole set found may on

  good_low : (q : ℕ) → starts_good found q ≡ true → IsPeer set.shape q
  good_low q good = elim (cases_lt q (peer_count set.shape)) [
    | inl low ↦ low
    | inr high ↦ (let n = may.count in let wrong : false ≡ true = sym (get_or_past found.good q false (omega (arith, n, high))) ∙ good in absurd (cc wrong))
  ]

  -- ---- a good peer

  module _ (q : ℕ) (starts : starts_good found q ≡ true) where
    low : IsPeer set.shape q
    low = good_low q starts

    low_g : IsShard set.shape (home_of set.shape q)
    low_g = home_low set.shape q low

    good : status_of q (first_core set found) ≡ Good
    good = status_at q ∙ ap (λ b. if b then Good else Down) starts

    from_one : IsFromOne (opened_list set found (home_of set.shape q))
    from_one = may.lists (home_of set.shape q) low_g

    last_long : last_of (opened_list set found (home_of set.shape q)) ≡ length (opened_list set found (home_of set.shape q))
    last_long =
        ap (λ (xs : Numbered). (rank_of xs).number) from_one.counted ∙ last_is from_one.entries from_one.plain
        ∙ sym (length-enumerate_from 1 from_one.entries) ∙ ap (λ (xs : Numbered). length xs) (sym from_one.counted)

    long : slice_index (opens_with set found).lengths (home_of set.shape q) ≡ length (opened_list set found (home_of set.shape q))
    long = get_or-map-range_with_len (λ shard. (rank_of (opened_list set found shard)).number) 0 set.shape.shards (home_of set.shape q) (home_of set.shape q) 0 low_g (omega arith) ∙ last_long

    sealed : sealed_of q (first_core set found) ≡ length (opened_list set found (home_of set.shape q))
    sealed =
        let g : ℕ = home_of set.shape q in
        let group : group_of (home_of set.shape q) (new_core set.shape set.limits (opens_with set found) found.opened) ≡ taken_group set.shape (opens_with set found) (home_of set.shape q) =
        get_or-map-range_with_len (taken_group set.shape (opens_with set found)) 0 set.shape.shards g g (new_group set.shape g 0 0 []) low_g (omega arith) in
        (lv q).work.sealed ∙ ap (λ (x : Group). (copy_of x q).sealed) group
        ∙ sealed_new set.shape found.good (slice_index (opens_with set found).views g) (slice_index (opens_with set found).lengths g) g q may.shape.some_copy refl starts ∙ long

    none_waits : appended_of q (first_core set found) ≡ None
    none_waits =
        queue_none q (first_core set found) (lv q).work.queue good
        ((lv q).work.tasks ∙ ap (λ ts. ts ++ flat_map tasks_for (lv q).work.queue) (get_or-replicate (set.shape.shards * set.shape.copies) q [] [] low))

    list_is : (more : Numbered) × ((open_whole set found).lists q ≡ opened_list set found (home_of set.shape q) ++ more)
    list_is =
        let h : ℕ = home q (first_core set found) in
        let x : Group = group_of h (first_core set found) in
        let same : opened_list set found (home q (first_core set found)) ≡ opened_list set found (home_of set.shape q) = ap (λ (s : Shape). opened_list set found (home_of s q)) shape_is in (
          take (length_of x q - length (opened_list set found (home_of set.shape q))) (entries_above (length (opened_list set found (home_of set.shape q))) x),
          ap (λ b. if b then grown (group_of (home q (first_core set found)) (first_core set found)) q (opened_list set found (home q (first_core set found))) else []) starts ∙ ap (grown x q) same,
        )

    shard_q : IsShardInStep (home q (first_core set found)) (open_whole set found) (whole.0 (home q (first_core set found)))
    shard_q = its_shard (open_whole set found) whole.0 whole.1 q (subst (λ (s : Shape). IsPeer s q) (sym shape_is) low)

    begins : IsFrontOf q (opened_list set found (home_of set.shape q)) (reach (open_whole set found) q)
    begins = (list_is.0, reach_good (home q (first_core set found)) q (open_whole set found) (whole.0 (home q (first_core set found))) shard_q refl good ∙ list_is.1)

    front : sealed_front (open_whole set found) q ≡ opened_list set found (home_of set.shape q)
    front =
        let list : Numbered = opened_list set found (home_of set.shape q) in
        ap (λ n. take n (reach (open_whole set found) q)) (floor_good (open_whole set found) q good ∙ sealed) ∙ ap (take (length list)) begins.1 ∙ take_at list begins.0 (length list) refl

    log_is : log_of_peer (open_whole set found) q ≡ Some (opened_list set found (home_of set.shape q))
    log_is = log_good (open_whole set found) q good ∙ ap Some front

  -- whose log is told of started as good
  told_good : (q : ℕ) (list : Numbered) → log_of_peer (open_whole set found) q ≡ Some list → starts_good found q ≡ true
  told_good q list there = go (starts_good found q) refl
    where
      off : starts_good found q ≡ false → status_of q (first_core set found) ≡ Down
      off e = status_at q ∙ ap (λ b. if b then Good else Down) e

      by : status_of q (first_core set found) ≡ Down → LogSeen (open_whole set found) q → ⊥
      by down (IsGood is seen) = let wrong : Down ≡ Good = sym down ∙ is in cc wrong
      by down (FollowsOn joins done seen) = let wrong : Down ≡ Joining = sym down ∙ joins in cc wrong
      by down (IsOff none seen) = let wrong : None ≡ Some list = sym seen ∙ there in cc wrong

      go : (b : Bool) → starts_good found q ≡ b → starts_good found q ≡ true
      go true e = e
      go false e = absurd (by (off e) (log_seen (open_whole set found) q))

  some_is : {X : Type 0} (x y : X) → Some x ≡ Some y → x ≡ y
  some_is x y e = cc e

  counted_good : (q : ℕ) → counts (open_whole set found) q ≡ true → starts_good found q ≡ true
  counted_good q e = go (starts_good found q) e
    where
      go : (b : Bool) → not (not b) ≡ true → b ≡ true
      go true i = refl
      go false i = let wrong : false ≡ true = i in absurd (cc wrong)

  pub opens_lists : OpensLists set found (open_whole set found)
  opens_lists = record {
    core = refl;
    good = λ q list low there. told_good q list there;
    listed = λ q list low there. some_is list (opened_list set found (home_of set.shape q)) (sym there ∙ log_is q (told_good q list there));
    none = λ q list low there. none_waits q (told_good q list there);
    counted = counted_good;
    front = λ q counted. begins q (counted_good q counted);
    long = λ q counted.
        let starts : starts_good found q ≡ true = counted_good q counted in
        let same : floor (open_whole set found) q ≡ last_of (opened_list set found (home_of set.shape q)) = floor_good (open_whole set found) q (good q starts) ∙ sealed q starts ∙ sym (last_long q starts) in
        omega (arith, same);
  }
