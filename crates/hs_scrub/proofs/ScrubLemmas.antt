-- What a scrub tells of all shards.
use Rattle.std.proofs.Common.{◌≡◌, ◌∙◌, inl, inr, ap, sym, subst, ℕ, suc, ◌+◌, ◌*◌, ◌<◌, ◌≤◌, true, false, List, [], ◌∷◌, ◌++◌, take, drop, length, Option, Some, None, IsSome, refl, arith}
use Rattle.std.proofs.lemmas.Bool.{cases_eq}
use Rattle.std.proofs.lemmas.List.{get_or_push}
use Rattle.std.proofs.Math.ListN.{get_or-append}
use Rattle.std.proofs.Math.Nat.{mul-le-mul_right, suc-mul}
use Rattle.std.specs.Prelude.{slice_index_or, unwrap_or}
use Rattle.hs_coldstart.specs.Choose.{is_above}
use Rattle.hs_entry.specs.declared.entry.Entry.{Entry}
use Rattle.hs_entry.specs.declared.rank.Rank.{Rank}
use Rattle.hs_entry.specs.Entries.{rank_of}
use Rattle.hs_limits.specs.declared.shape.Shape.{Shape}
use Rattle.hs_limits.specs.Shape.{peer_of}
use Rattle.hs_peerlog.specs.Images.{LeavesAll}
use Rattle.hs_peerlog.specs.Lists.{last_of}
use Rattle.hs_peerlog.specs.Views.{Viewing}
use Rattle.hs_ports.specs.Disk.{Standing}
use Rattle.hs_scrub.proofs.ShardLemmas.{walks_none, walks_then}
use Rattle.hs_scrub.specs.declared.mark.PeerMark.{PeerMark}
use Rattle.hs_scrub.specs.declared.mark.PeerMark.TheVariants.{Same, Behind, Differs, NoLog, Fault}
use Rattle.hs_scrub.specs.Marks.{IsMarked, is_read}
use Rattle.hs_scrub.specs.Scrubbed.{AreScrubbed, HasCause, IsListed, IsOf, IsScrubbed, mark_at}
use Rattle.hs_scrub.specs.Steps.{AreDone, AreKept, AreLooked, AreViews, Fits, IsDone, IsLooked, IsLost, IsStill, Settles, State, view_at}
use Rattle.hs_side.specs.Current.{list_in}
use Rattle.hs_taking.specs.Disks.{DiskSeen, seen_at}
use Rattle.hs_taking.specs.Viewed.{HasViewed, IsOnlyRead}

-- ---- shard after shard

-- what is done of peers stays where others are marked
done_stays : (tells : Type 0) (begun : List DiskSeen) (u v : List (Option Viewing)) (k l : List PeerMark) (low high from to count : ℕ) → high ≤ from → AreKept from to u v k l → IsDone tells begun u k low high count → IsDone tells begun v l low high count
done_stays tells begun u v k l low high from to count before kept (inr none) = inr (record {
  none = λ peer a b. kept.view peer (inl (omega (arith, b, before))) ∙ none.none peer a b;
  empty = none.empty;
})
done_stays tells begun u v k l low high from to count before kept (inl m) = inl (record {
  taken = m.taken;
  own = m.own;
  greatest = record {
    low = m.greatest.low;
    high = m.greatest.high;
    own = view m.taken m.greatest.high ∙ m.greatest.own;
    greatest = λ other its a b is. m.greatest.greatest other its a b (sym (view other b) ∙ is);
    lowest = λ other its a b is. let top = m.greatest.high in m.greatest.lowest other its a b (sym (view other (omega (arith, b, top))) ∙ is);
  };
  same = mark m.taken m.greatest.high ∙ m.same;
  long = m.long;
  fits = λ peer a b.
      subst (λ o. Fits tells (seen_at begun m.taken) (seen_at begun peer) o (mark_at l peer)) (sym (view peer b))
      (subst (λ o. Fits tells (seen_at begun m.taken) (seen_at begun peer) (view_at u peer) o) (sym (mark peer b)) (m.fits peer a b));
})
  where
    view : (peer : ℕ) → peer < high → view_at v peer ≡ view_at u peer
    view peer b = kept.view peer (inl (omega (arith, b, before)))

    mark : (peer : ℕ) → peer < high → mark_at l peer ≡ mark_at k peer
    mark peer b = kept.mark peer (inl (omega (arith, b, before)))

-- the peers of a shard come before those of a later one
shards_ascend : (shape : Shape) (one other : ℕ) → one < other → peer_of shape one 0 + shape.copies ≤ peer_of shape other 0
shards_ascend shape one other less =
    let m : suc one * shape.copies ≤ other * shape.copies = mul-le-mul_right shape.copies (omega (arith, less)) in
    let d : suc one * shape.copies ≡ one * shape.copies + shape.copies = suc-mul one shape.copies in
    omega (arith, m, d)

pub shard_within : (shape : Shape) (shard : ℕ) → shard < shape.shards → peer_of shape shard 0 + shape.copies ≤ shape.shards * shape.copies
shard_within shape shard low = let a = shards_ascend shape shard shape.shards low in omega (arith, a)

long : {A : Type 0} (xs : List A) (x : A) → length (xs ++ x ∷ []) ≡ length xs + 1
long [] x = refl
long (y ∷ xs) x = let e = long xs x in omega (arith, e)

pub done_none : (tells : Type 0) (shape : Shape) (lengths : List ℕ) (a : State) → AreViews tells a.views a.disks → AreDone tells shape 0 lengths a a
done_none tells shape lengths a ready = record { walks = walks_none tells a ready; done = λ shard low. absurd (omega (arith, low)) }

pub done_more : (tells : Type 0) (shape : Shape) (shard from to count : ℕ) (lengths : List ℕ) (a b c : State) → shard < shape.shards → length lengths ≡ shard → from ≡ peer_of shape shard 0 → to ≡ from + shape.copies
    → AreDone tells shape shard lengths a b → Settles tells from to count b c → AreDone tells shape (shard + 1) (lengths ++ count ∷ []) a c
done_more tells shape shard from to count lengths a b c low long_is from_is to_is so_far one = record {
  walks = walks_then tells a b c so_far.walks one.walks;
  done = λ other less of begun total looked up. elim (cases_eq other shard) [
    | inl same ↦
        subst (λ s. IsDone tells begun c.views c.marks (peer_of shape s 0) (peer_of shape s 0 + shape.copies) (slice_index_or (lengths ++ count ∷ []) s 0)) (sym same)
        (subst (λ n. IsDone tells begun c.views c.marks (peer_of shape shard 0) (peer_of shape shard 0 + shape.copies) n) (sym (get_or_push lengths count 0 shard long_is))
        (subst (λ n. IsDone tells begun c.views c.marks n (n + shape.copies) count) from_is
        (subst (λ n. IsDone tells begun c.views c.marks from n count) to_is
        (one.done of begun total (so_far.walks.looked of begun total looked) (let w = shard_within shape shard low in omega (arith, w, from_is, to_is, up))))))
    | inr differs ↦
        let before : other < shard = omega (arith, less, differs) in
        subst (λ n. IsDone tells begun c.views c.marks (peer_of shape other 0) (peer_of shape other 0 + shape.copies) n) (sym (get_or-append lengths (count ∷ []) 0 other (omega (arith, before, long_is))))
        (done_stays tells begun b.views c.views b.marks c.marks (peer_of shape other 0) (peer_of shape other 0 + shape.copies) from to (slice_index_or lengths other 0)
        (let s = shards_ascend shape other shard before in omega (arith, s, from_is)) one.kept (so_far.done other before of begun total looked up))
  ];
}

-- ---- what is told

listed_of : (o : Option (List (ℕ × Entry))) → IsSome o → o ≡ Some (unwrap_or o [])
listed_of None h = cc h
listed_of (Some list) h = refl

none_last : last_of [] ≡ 0
unfolding rank_of
none_last = refl

module _ (tells : Type 0) (shape : Shape) (old new : List DiskSeen) (views : List (Option Viewing)) (marks : List PeerMark) (total : ℕ) (looked : AreLooked tells shape old new views marks total) where
  true_is_not : false ≡ true → ⊥
  true_is_not e = cc e

  none_is_not : (v : Viewing) → None ≡ Some v → ⊥
  none_is_not v e = cc e

  -- a peer without a view
  lost_cause : (peer : ℕ) (list : List (ℕ × Entry)) (mark : PeerMark) → IsLost tells shape peer (seen_at old peer) (seen_at new peer) mark → HasCause tells shape peer (seen_at old peer) (seen_at new peer) list mark
  lost_cause peer list Same h = absurd h
  lost_cause peer list (Behind count) h = absurd h
  lost_cause peer list (Differs number) h = absurd h
  lost_cause peer list (NoLog at) h = h
  lost_cause peer list Fault h = h

  lost_unread : (peer : ℕ) (mark : PeerMark) → IsLost tells shape peer (seen_at old peer) (seen_at new peer) mark → is_read mark ≡ false
  lost_unread peer Same h = absurd h
  lost_unread peer (Behind count) h = absurd h
  lost_unread peer (Differs number) h = absurd h
  lost_unread peer (NoLog at) h = refl
  lost_unread peer Fault h = refl

  lost_at : (peer : ℕ) → peer < total → view_at views peer ≡ None → IsLost tells shape peer (seen_at old peer) (seen_at new peer) (mark_at marks peer)
  lost_at peer low is = subst (λ o. IsLooked tells shape peer (seen_at old peer) (seen_at new peer) o (mark_at marks peer)) is (looked.each peer low)

  viewed_at : (peer : ℕ) (view : Viewing) → peer < total → view_at views peer ≡ Some view → HasViewed tells shape peer (seen_at old peer) (seen_at new peer) view
  viewed_at peer view low is = subst (λ o. IsLooked tells shape peer (seen_at old peer) (seen_at new peer) o (mark_at marks peer)) is (looked.each peer low)

  -- a peer whose mark is that of a list has a view
  view_of_read : (peer : ℕ) → peer < total → is_read (mark_at marks peer) ≡ true → (o : Option Viewing) → view_at views peer ≡ o → (view : Viewing) × (view_at views peer ≡ Some view)
  view_of_read peer low read (Some view) is = (view, is)
  view_of_read peer low read None is = absurd (true_is_not (sym (lost_unread peer (mark_at marks peer) (lost_at peer low is)) ∙ read))

  -- its list, and its rank
  list_at : (peer : ℕ) → List (ℕ × Entry)
  list_at peer = unwrap_or (list_in (seen_at old peer).stands.seen) []

  read_at : (peer : ℕ) (view : Viewing) → peer < total → view_at views peer ≡ Some view → tells → list_in (seen_at old peer).stands.seen ≡ Some (list_at peer)
  unfolding list_at
  read_at peer view low is told = listed_of (list_in (seen_at old peer).stands.seen) ((viewed_at peer view low is).listed told)

  rank_at : (peer : ℕ) (view : Viewing) (list : List (ℕ × Entry)) → peer < total → view_at views peer ≡ Some view → tells → list_in (seen_at old peer).stands.seen ≡ Some list → view.rank ≡ rank_of list
  rank_at peer view list low is told e = ((viewed_at peer view low is).has told list e).rank

  -- a peer with one
  read_cause : (peer : ℕ) (view : Viewing) (list : List (ℕ × Entry)) (mark : PeerMark) → peer < total → view_at views peer ≡ Some view → is_read mark ≡ true
      → (tells → IsMarked list mark (list_at peer)) → HasCause tells shape peer (seen_at old peer) (seen_at new peer) list mark
  read_cause peer view list mark low is read marked = go mark read marked
    where
      h : HasViewed tells shape peer (seen_at old peer) (seen_at new peer) view
      h = viewed_at peer view low is

      so : (mark : PeerMark) → (tells → IsMarked list mark (list_at peer)) → IsListed tells shape peer (seen_at old peer) (seen_at new peer) (IsMarked list mark)
      so mark marked = record {
        calm = h.calm;
        accepted = h.accepted;
        durable = h.durable;
        gives = λ told. record { list = list_at peer; read = read_at peer view low is told; holds = marked told };
      }

      go : (mark : PeerMark) → is_read mark ≡ true → (tells → IsMarked list mark (list_at peer)) → HasCause tells shape peer (seen_at old peer) (seen_at new peer) list mark
      go Same read marked = so Same marked
      go (Behind count) read marked = so (Behind count) marked
      go (Differs number) read marked = so (Differs number) marked
      go (NoLog at) read marked = absurd (true_is_not read)
      go Fault read marked = absurd (true_is_not read)

  module _ (shard count : ℕ) (within : peer_of shape shard 0 + shape.copies ≤ total) where
    abbrev from : ℕ
    from = peer_of shape shard 0

    abbrev to : ℕ
    to = from + shape.copies

    low : (peer : ℕ) → IsOf shape shard peer → peer < total
    low peer own = let b = own.to in omega (arith, b, within)

    pub scrubbed_of : IsDone tells old views marks from to count → IsScrubbed tells shape shard old new marks count
    scrubbed_of (inr none) = record {
      list = [];
      taken = λ told. inr (record { none = λ peer own. lost_unread peer (mark_at marks peer) (lost_at peer (low peer own) (none.none peer own.from own.to)); empty = refl });
      length = λ told. none.empty ∙ sym none_last;
      each = λ peer own. lost_cause peer [] (mark_at marks peer) (lost_at peer (low peer own) (none.none peer own.from own.to));
    }
    scrubbed_of (inl m) = record {
      list = list_at m.taken;
      taken = λ told. inl (record {
        peer = m.taken;
        own = taken_own;
        same = m.same;
        read = read_at m.taken m.own taken_low m.greatest.own told;
        greatest = λ other its own read e.
            let v = view_of_read other (low other own) read (view_at views other) refl in
            subst (λ r. is_above r (rank_of (list_at m.taken)) ≡ false) (rank_at other v.0 its (low other own) v.1 told e)
            (subst (λ r. is_above v.0.rank r ≡ false) (taken_rank told) (m.greatest.greatest other v.0 own.from own.to v.1));
        lowest = λ other its own read less e.
            let v = view_of_read other (low other own) read (view_at views other) refl in
            subst (λ r. is_above (rank_of (list_at m.taken)) r ≡ true) (rank_at other v.0 its (low other own) v.1 told e)
            (subst (λ r. is_above r v.0.rank ≡ true) (taken_rank told) (m.greatest.lowest other v.0 own.from less v.1));
      });
      length = λ told. m.long ∙ ap (λ (r : Rank). r.number) (taken_rank told);
      each = λ peer own. cause peer own (view_at views peer) refl;
    }
      where
        taken_own : IsOf shape shard m.taken
        taken_own = record { from = m.greatest.low; to = m.greatest.high }

        taken_low : m.taken < total
        taken_low = low m.taken taken_own

        taken_rank : tells → m.own.rank ≡ rank_of (list_at m.taken)
        taken_rank told = rank_at m.taken m.own (list_at m.taken) taken_low m.greatest.own told (read_at m.taken m.own taken_low m.greatest.own told)

        cause : (peer : ℕ) → IsOf shape shard peer → (o : Option Viewing) → view_at views peer ≡ o → HasCause tells shape peer (seen_at old peer) (seen_at new peer) (list_at m.taken) (mark_at marks peer)
        cause peer own None is = lost_cause peer (list_at m.taken) (mark_at marks peer) (lost_at peer (low peer own) is)
        cause peer own (Some view) is =
            let fits = subst (λ o. Fits tells (seen_at old m.taken) (seen_at old peer) o (mark_at marks peer)) is (m.fits peer own.from own.to) in
            read_cause peer view (list_at m.taken) (mark_at marks peer) (low peer own) is fits.0
            (λ told. fits.1 told (list_at m.taken) (list_at peer) (read_at m.taken m.own taken_low m.greatest.own told) (read_at peer view (low peer own) is told))

-- ---- nothing is written

pub only_called : (tells : Type 0) (before now : ℕ) (a b c : DiskSeen) → IsOnlyRead tells before now a b → IsStill tells b c → b.faults ≤ c.faults → IsOnlyRead tells before now a c
only_called tells before now a b c one still up = record {
  seen = λ told side. ap (λ (d : Standing). d.seen side) (still.stands told) ∙ one.seen told side;
  moments = λ told last. subst (λ (d : Standing). LeavesAll before now a.stands d) (sym (still.stands told)) (one.moments told last);
  counted = let k = one.counted in omega (arith, k, up);
}

-- what a call that was lent a whole list wrote back
pub written_back : {A : Type 0} (new old : List A) (n : ℕ) → length new ≡ length old → n ≡ length old → take n (new ++ drop (length new) old) ≡ new
written_back {A = A} new old n same is = ap (λ k. take k (new ++ drop (length new) old)) (is ∙ sym same) ∙ go new old same
  where
    go : (new old : List A) → length new ≡ length old → take (length new) (new ++ drop (length new) old) ≡ new
    go [] old same = refl
    go (x ∷ new) [] same = absurd (omega (arith, same))
    go (x ∷ new) (y ∷ old) same = ap (λ xs. x ∷ xs) (go new old (omega (arith, same)))

-- all that is told of some disks
pub scrubbed_so : (tells : Type 0) (shape : Shape) (old mid new : List DiskSeen) (views : List (Option Viewing)) (marks : List PeerMark) (lengths : List ℕ) (views' : List (Option Viewing)) (marks' : List PeerMark) (total : ℕ) → total ≡ shape.shards * shape.copies → length marks' ≡ total → length lengths ≡ shape.shards
    → AreLooked tells shape old mid views marks total → AreDone tells shape shape.shards lengths (record { disks = mid; views = views; marks = marks }) (record { disks = new; views = views'; marks = marks' }) → AreScrubbed tells shape old new marks' lengths
scrubbed_so tells shape old mid new views marks lengths views' marks' total total_is many shards looked done = record {
  peers = many ∙ total_is;
  shards = shards;
  each = λ shard low.
      let w = shard_within shape shard low in
      scrubbed_of tells shape old new views' marks' total (done.walks.looked shape old total looked) shard (slice_index_or lengths shard 0) (omega (arith, w, total_is))
      (done.done shard low shape old total looked (omega (arith, total_is)));
}
