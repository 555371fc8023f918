-- Marking the peers of a shard.
use Rattle.std.proofs.Common.{◌≡◌, ◌≢◌, ◌⊎◌, ◌∙◌, inl, inr, ap, sym, subst, ℕ, zero, suc, ◌+◌, ◌-◌, ◌<◌, ◌≤◌, true, false, not, eqb, List, [], ◌∷◌, length, Option, Some, None, IsSome, refl, arith}
use Rattle.std.proofs.lemmas.Bool.{cases_eq}
use Rattle.std.proofs.lemmas.Bool.Decides.{eqb_tells}
use Rattle.std.proofs.lemmas.List.{get_or-set_other, get_or-set_same}
use Rattle.std.specs.Prelude.{slice_index_or, slice_set}
use Rattle.hs_entry.specs.declared.entry.Entry.{Entry}
use Rattle.hs_limits.specs.declared.shape.Shape.{Shape}
use Rattle.hs_peerlog.specs.Caused.{IsOutside}
use Rattle.hs_peerlog.specs.declared.fault.LogFault.{LogFault}
use Rattle.hs_peerlog.specs.declared.fault.LogFault.TheVariants as log
use Rattle.hs_peerlog.specs.Views.{HasView, Viewing}
use Rattle.hs_ports.specs.Disk.{Standing}
use Rattle.hs_ports.specs.Fault.{HasRisen}
use Rattle.hs_scrub.proofs.StillLemmas.{calm_none, has_still, lost_called, stands_still, still_called, still_then}
use Rattle.hs_scrub.specs.declared.mark.PeerMark.{PeerMark}
use Rattle.hs_scrub.specs.declared.mark.PeerMark.TheVariants.{Same, Behind, Differs, NoLog, Fault}
use Rattle.hs_scrub.specs.Marks.{IsMarked, is_read}
use Rattle.hs_scrub.specs.Scrubbed.{mark_at}
use Rattle.hs_scrub.specs.Steps.{AreFewer, AreKept, AreLooked, AreStill, AreViews, Counts, Ends, Fits, Goes, IsGreatest, IsLooked, IsLost, IsLostBy, IsStill, Settles, State, Touches, Walks, mark_of, view_at}
use Rattle.hs_side.specs.Current.{list_in}
use Rattle.hs_taking.proofs.PairLemmas.{viewed_still as as_viewed_still}
use Rattle.hs_taking.specs.Disks.{DiskSeen, seen_at}
use Rattle.hs_taking.specs.Viewed.{HasViewed}

false_is_not : false ≡ true → ⊥
false_is_not e = cc e

-- what is at a place does not rest on what stands for no place
pub any_other : {A : Type 0} (xs : List A) (k : ℕ) (c d : A) → k < length xs → slice_index_or xs k c ≡ slice_index_or xs k d
any_other [] k c d low = absurd (omega (arith, low))
any_other (x ∷ xs) zero c d low = refl
any_other (x ∷ xs) (suc k) c d low = any_other xs k c d (omega (arith, low))

-- ---- a peer whose disk stands

viewed_still : (tells : Type 0) (shape : Shape) (peer : ℕ) (old a b : DiskSeen) (view : Viewing) → IsStill tells a b → b.faults ≡ a.faults → HasViewed tells shape peer old a view → HasViewed tells shape peer old b view
viewed_still tells shape peer old a b view still same h = record {
  stands = stands_still tells view.log a b still h.stands;
  viewed = as_viewed_still tells view a b (record { same = still.stands; size = still.size; counted = omega (arith, same) }) h.viewed;
  listed = h.listed;
  has = λ told list e. has_still tells a b view list still told (h.has told list e);
  accepted = h.accepted;
  durable = λ told side. ap (λ (d : Standing). d.loose side) (still.stands told) ∙ h.durable told side;
  calm = same ∙ h.calm;
}

lost_still : (tells : Type 0) (shape : Shape) (peer : ℕ) (old a b : DiskSeen) (mark : PeerMark) → b.faults ≡ a.faults → IsLost tells shape peer old a mark → IsLost tells shape peer old b mark
lost_still tells shape peer old a b Same same h = h
lost_still tells shape peer old a b (Behind count) same h = h
lost_still tells shape peer old a b (Differs number) same h = h
lost_still tells shape peer old a b (NoLog at) same h = record { calm = same ∙ h.calm; refused = h.refused }
lost_still tells shape peer old a b Fault same h = subst (λ n. HasRisen old.faults n) (sym same) h

pub looked_still : (tells : Type 0) (shape : Shape) (peer : ℕ) (old a b : DiskSeen) (view : Option Viewing) (mark : PeerMark) → IsStill tells a b → b.faults ≡ a.faults
    → IsLooked tells shape peer old a view mark → IsLooked tells shape peer old b view mark
looked_still tells shape peer old a b None mark still same h = lost_still tells shape peer old a b mark same h
looked_still tells shape peer old a b (Some view) mark still same h = viewed_still tells shape peer old a b view still same h

-- the mark of a peer with a view says nothing yet
looked_mark : (tells : Type 0) (shape : Shape) (peer : ℕ) (old a : DiskSeen) (view : Option Viewing) (mark other : PeerMark) → IsSome view → IsLooked tells shape peer old a view mark → IsLooked tells shape peer old a view other
looked_mark tells shape peer old a None mark other some h = absurd (false_is_not some)
looked_mark tells shape peer old a (Some view) mark other some h = h

pub views_still : (tells : Type 0) (views : List (Option Viewing)) (a b : List DiskSeen) → ((peer : ℕ) → IsStill tells (seen_at a peer) (seen_at b peer)) → AreViews tells views a → AreViews tells views b
views_still tells views a b still h = record { each = λ peer view is. stands_still tells view.log (seen_at a peer) (seen_at b peer) (still peer) (h.each peer view is) }

-- what is known of a peer with a view
looked_view : (tells : Type 0) (shape : Shape) (peer : ℕ) (old new : DiskSeen) (view : Option Viewing) (mark : PeerMark) (v : Viewing) → view ≡ Some v → IsLooked tells shape peer old new view mark → HasViewed tells shape peer old new v
looked_view tells shape peer old new view mark v is h = subst (λ o. IsLooked tells shape peer old new o mark) is h

listed_of : (o : Option (List (ℕ × Entry))) → IsSome o → (list : List (ℕ × Entry)) × (o ≡ Some list)
listed_of None h = cc h
listed_of (Some list) h = (list, refl)

module _ (tells : Type 0) (shape : Shape) (begun a : List DiskSeen) (views : List (Option Viewing)) (marks : List PeerMark) (count : ℕ) (looked : AreLooked tells shape begun a views marks count) where
  viewed_at : (peer : ℕ) (v : Viewing) → peer < count → view_at views peer ≡ Some v → HasViewed tells shape peer (seen_at begun peer) (seen_at a peer) v
  viewed_at peer v low is = looked_view tells shape peer (seen_at begun peer) (seen_at a peer) (view_at views peer) (mark_at marks peer) v is (looked.each peer low)

  pub fits_of : (taken place : ℕ) (whole own : Viewing) (mark : PeerMark) → taken < count → place < count → view_at views taken ≡ Some whole → view_at views place ≡ Some own → is_read mark ≡ true
      → (tells → (w l : List (ℕ × Entry)) → HasView whole (seen_at a taken).stands.seen w → HasView own (seen_at a place).stands.seen l → IsMarked w mark l)
      → Fits tells (seen_at begun taken) (seen_at begun place) (view_at views place) mark
  fits_of taken place whole own mark low under whole_is own_is read marked =
      let t = viewed_at taken whole low whole_is in
      let o = viewed_at place own under own_is in
      subst (λ v. Fits tells (seen_at begun taken) (seen_at begun place) v mark) (sym own_is) (read, λ told w l one two. marked told w l (t.has told w one) (o.has told l two))

  -- its disk gives some list
  pub has_some : (peer : ℕ) (v : Viewing) → peer < count → view_at views peer ≡ Some v → tells → (list : List (ℕ × Entry)) × HasView v (seen_at a peer).stands.seen list
  has_some peer v low is told =
      let t = viewed_at peer v low is in
      let l = listed_of (list_in (seen_at begun peer).stands.seen) (t.listed told) in
      (l.0, t.has told l.0 l.1)

-- the view and the mark of one peer are others
module _ (views : List (Option Viewing)) (q : ℕ) (v : Option Viewing) where
  view_here : q < length views → view_at (slice_set views q v) q ≡ v
  view_here low = get_or-set_same views q v None low

  view_there : (p : ℕ) → p ≢ q → view_at (slice_set views q v) p ≡ view_at views p
  view_there p differs = get_or-set_other views q p v None differs

module _ (marks : List PeerMark) (q : ℕ) (m : PeerMark) where
  mark_here : q < length marks → mark_at (slice_set marks q m) q ≡ m
  mark_here low = get_or-set_same marks q m Fault low

  mark_there : (p : ℕ) → p ≢ q → mark_at (slice_set marks q m) p ≡ mark_at marks p
  mark_there p differs = get_or-set_other marks q p m Fault differs

-- ---- one peer is marked

abbrev pub state : List DiskSeen → List (Option Viewing) → List PeerMark → State
state disks views marks = record { disks = disks; views = views; marks = marks }

module _ (tells : Type 0) (a b : List DiskSeen) (views : List (Option Viewing)) (marks : List PeerMark) (ready : AreViews tells views a) where
  -- nothing was to be marked
  pub touch_none : (at : ℕ) → AreStill tells a b → Touches tells at (state a views marks) (state b views marks)
  touch_none at still = record {
    walks = record {
      called = still_called tells a b still;
      views = views_still tells views a b still.still ready;
      looked = λ shape begun count h. record {
        each = λ peer within. looked_still tells shape peer (seen_at begun peer) (seen_at a peer) (seen_at b peer) (view_at views peer) (mark_at marks peer) (still.still peer) (still.calm peer) (h.each peer within);
      };
      fewer = λ peer. inl refl;
    };
    view = λ peer differs. refl;
    mark = λ peer differs. refl;
  }

  pub touch_mark : (at : ℕ) (m : PeerMark) → IsSome (view_at views at) → AreStill tells a b → Touches tells at (state a views marks) (state b views (slice_set marks at m))
  touch_mark at m some still = record {
    walks = record {
      called = still_called tells a b still;
      views = views_still tells views a b still.still ready;
      looked = λ shape begun count h. record {
        each = λ peer within.
            let one = looked_still tells shape peer (seen_at begun peer) (seen_at a peer) (seen_at b peer) (view_at views peer) (mark_at marks peer) (still.still peer) (still.calm peer) (h.each peer within) in
            elim (cases_eq peer at) [
              | inl same ↦ looked_mark tells shape peer (seen_at begun peer) (seen_at b peer) (view_at views peer) (mark_at marks peer) (mark_at (slice_set marks at m) peer) (subst (λ p. IsSome (view_at views p)) (sym same) some) one
              | inr differs ↦ subst (λ k. IsLooked tells shape peer (seen_at begun peer) (seen_at b peer) (view_at views peer) k) (sym (mark_there marks at m peer differs)) one
            ];
      };
      fewer = λ peer. inl refl;
    };
    view = λ peer differs. refl;
    mark = λ peer differs. mark_there marks at m peer differs;
  }

  -- a log was lost
  module _ (q : ℕ) (m : PeerMark) (fault : LogFault) (low : q < length views) (under : q < length marks) (some : IsSome (view_at views q)) (is : mark_of fault ≡ Some m) (lost : IsLostBy tells a b q fault)
      (outside : (shape : Shape) (begun : List DiskSeen) (count : ℕ) → AreLooked tells shape begun a views marks count → q < count → tells → IsOutside fault) where
    lost_here : (shape : Shape) (begun : List DiskSeen) (view : Option Viewing) (old : PeerMark) → IsSome view → (tells → IsOutside fault) → IsLooked tells shape q (seen_at begun q) (seen_at a q) view old → IsLost tells shape q (seen_at begun q) (seen_at b q) m
    lost_here shape begun None old some out h = absurd (false_is_not some)
    lost_here shape begun (Some view) old some out h = go fault m is out lost.counts
      where
        mark_is : (x y : PeerMark) → Some x ≡ Some y → x ≡ y
        mark_is x y e = cc e

        no_mark : (x : PeerMark) → None ≡ Some x → ⊥
        no_mark x e = cc e

        go : (f : LogFault) (x : PeerMark) → mark_of f ≡ Some x → (tells → IsOutside f) → Counts (seen_at a q).faults (seen_at b q).faults f → IsLost tells shape q (seen_at begun q) (seen_at b q) x
        go (log.NotALog at) x e out c = subst (λ k. IsLost tells shape q (seen_at begun q) (seen_at b q) k) (mark_is (NoLog at) x e) (record { calm = c ∙ h.calm; refused = λ told. absurd (out told) })
        go (log.WrongShape found) x e out c = subst (λ k. IsLost tells shape q (seen_at begun q) (seen_at b q) k) (mark_is (NoLog 6) x e) (record { calm = c ∙ h.calm; refused = λ told. absurd (out told) })
        go log.Disk x e out c = subst (λ k. IsLost tells shape q (seen_at begun q) (seen_at b q) k) (mark_is Fault x e) (subst (λ n. HasRisen n (seen_at b q).faults) h.calm c)
        go log.NoMemory x e out c = absurd (no_mark x e)

    pub touch_lost : Touches tells q (state a views marks) (state b (slice_set views q None) (slice_set marks q m))
    touch_lost = record {
      walks = record {
        called = lost_called tells a b q fault lost;
        views = record {
          each = λ peer view e. elim (cases_eq peer q) [
            | inl same ↦ absurd (gone view (sym (view_here views q None low) ∙ ap (λ p. view_at (slice_set views q None) p) (sym same) ∙ e))
            | inr differs ↦ stands_still tells view.log (seen_at a peer) (seen_at b peer) (lost.still peer) (ready.each peer view (sym (view_there views q None peer differs) ∙ e))
          ];
        };
        looked = λ shape begun count h. record {
          each = λ peer within. elim (cases_eq peer q) [
            | inl same ↦
                let low_q : q < count = subst (λ p. p < count) same within in
                subst (λ p. IsLooked tells shape p (seen_at begun p) (seen_at b p) (view_at (slice_set views q None) p) (mark_at (slice_set marks q m) p)) (sym same)
                (subst (λ v. IsLooked tells shape q (seen_at begun q) (seen_at b q) v (mark_at (slice_set marks q m) q)) (sym (view_here views q None low))
                (subst (λ k. IsLost tells shape q (seen_at begun q) (seen_at b q) k) (sym (mark_here marks q m under))
                (lost_here shape begun (view_at views q) (mark_at marks q) some (outside shape begun count h low_q) (h.each q low_q))))
            | inr differs ↦
                subst (λ v. IsLooked tells shape peer (seen_at begun peer) (seen_at b peer) v (mark_at (slice_set marks q m) peer)) (sym (view_there views q None peer differs))
                (subst (λ k. IsLooked tells shape peer (seen_at begun peer) (seen_at b peer) (view_at views peer) k) (sym (mark_there marks q m peer differs))
                (looked_still tells shape peer (seen_at begun peer) (seen_at a peer) (seen_at b peer) (view_at views peer) (mark_at marks peer) (lost.still peer) (lost.calm peer differs) (h.each peer within)))
          ];
        };
        fewer = λ peer. elim (cases_eq peer q) [
          | inl same ↦ inr (ap (λ p. view_at (slice_set views q None) p) same ∙ view_here views q None low)
          | inr differs ↦ inl (view_there views q None peer differs)
        ];
      };
      view = λ peer differs. view_there views q None peer differs;
      mark = λ peer differs. mark_there marks q m peer differs;
    }
      where
        gone : (view : Viewing) → None ≡ Some view → ⊥
        gone view e = cc e

-- ---- all peers of a shard are marked

pub walks_none : (tells : Type 0) (s : State) → AreViews tells s.views s.disks → Walks tells s s
walks_none tells s ready = record {
  called = still_called tells s.disks s.disks (calm_none tells s.disks);
  views = ready;
  looked = λ shape begun count h. h;
  fewer = λ peer. inl refl;
}

pub walks_then : (tells : Type 0) (a b c : State) → Walks tells a b → Walks tells b c → Walks tells a c
walks_then tells a b c one two = record {
  called = record {
    still = λ peer. still_then tells (seen_at a.disks peer) (seen_at b.disks peer) (seen_at c.disks peer) (one.called.still peer) (two.called.still peer);
    counted = λ peer. omega (arith, one.called.counted peer, two.called.counted peer);
  };
  views = two.views;
  looked = λ shape begun count h. two.looked shape begun count (one.looked shape begun count h);
  fewer = λ peer. elim (two.fewer peer) [
    | inl same ↦ elim (one.fewer peer) [ inl before ↦ inl (same ∙ before) | inr gone ↦ inr (same ∙ gone) ]
    | inr gone ↦ inr gone
  ];
}

kept_then : (from to : ℕ) (u v w : List (Option Viewing)) (k l m : List PeerMark) → AreKept from to u v k l → AreKept from to v w l m → AreKept from to u w k m
kept_then from to u v w k l m one two = record { view = λ peer out. two.view peer out ∙ one.view peer out; mark = λ peer out. two.mark peer out ∙ one.mark peer out }

outside_of : (from to at peer : ℕ) → from ≤ at → at < to → (peer < from) ⊎ (to ≤ peer) → peer ≢ at
outside_of from to at peer low high (inl under) same = omega (arith, low, under, same)
outside_of from to at peer low high (inr above) same = omega (arith, high, above, same)

touch_kept : (tells : Type 0) (from to at : ℕ) (a b : State) → from ≤ at → at < to → Touches tells at a b → AreKept from to a.views b.views a.marks b.marks
touch_kept tells from to at a b low high one = record {
  view = λ peer out. one.view peer (outside_of from to at peer low high out);
  mark = λ peer out. one.mark peer (outside_of from to at peer low high out);
}

-- the taken peer has its own list
some_is : (a b : List (ℕ × Entry)) → Some a ≡ Some b → a ≡ b
some_is a b e = cc e

pub fits_own : (tells : Type 0) (disk : DiskSeen) (view : Option Viewing) (mark : PeerMark) → mark ≡ Same → Fits tells disk disk view mark
fits_own tells disk None mark is = tt
fits_own tells disk (Some view) mark is = subst (λ m. Fits tells disk disk (Some view) m) (sym is) (refl, λ told whole list one two. some_is list whole (sym two ∙ one))

pub goes_begin : (tells : Type 0) (from to taken : ℕ) (disks : List DiskSeen) (views : List (Option Viewing)) (marks : List PeerMark) → AreViews tells views disks → IsSome (view_at views taken) → from ≤ taken → taken < to → taken < length marks
    → Goes tells from from to taken (state disks views marks) (state disks views (slice_set marks taken Same))
goes_begin tells from to taken disks views marks ready some low high under =
    let one = touch_mark tells disks disks views marks ready taken Same some (calm_none tells disks) in
    record {
      walks = one.walks;
      kept = touch_kept tells from to taken (state disks views marks) (state disks views (slice_set marks taken Same)) low high one;
      view = refl;
      same = mark_here marks taken Same under;
      fits = λ shape begun count h up peer a b. absurd (omega (arith, a, b));
    }

-- another one is marked, or the taken one passed over
pub goes_more : (tells : Type 0) (from to taken place : ℕ) (a b c : State) → from ≤ place → place < to → taken < to → Goes tells from place to taken a b → Touches tells place b c
    → (view_at c.views taken ≡ view_at b.views taken) × (mark_at c.marks taken ≡ Same)
    → ((shape : Shape) (begun : List DiskSeen) (count : ℕ) → AreLooked tells shape begun b.disks b.views b.marks count → taken < count → place < count → Fits tells (seen_at begun taken) (seen_at begun place) (view_at c.views place) (mark_at c.marks place))
    → Goes tells from (place + 1) to taken a c
goes_more tells from to taken place a b c low high within so_far one own fits = record {
  walks = walks_then tells a b c so_far.walks one.walks;
  kept = kept_then from to a.views b.views c.views a.marks b.marks c.marks so_far.kept (touch_kept tells from to place b c low high one);
  view = own.0 ∙ so_far.view;
  same = own.1;
  fits = λ shape begun count h up peer from_is upto. elim (cases_eq peer place) [
    | inl same ↦ subst (λ p. Fits tells (seen_at begun taken) (seen_at begun p) (view_at c.views p) (mark_at c.marks p)) (sym same)
        (fits shape begun count (so_far.walks.looked shape begun count h) (omega (arith, within, up)) (omega (arith, high, up)))
    | inr differs ↦
        subst (λ v. Fits tells (seen_at begun taken) (seen_at begun peer) v (mark_at c.marks peer)) (sym (one.view peer differs))
        (subst (λ m. Fits tells (seen_at begun taken) (seen_at begun peer) (view_at b.views peer) m) (sym (one.mark peer differs))
        (so_far.fits shape begun count h up peer from_is (omega (arith, upto, differs))))
  ];
}

pub goes_all : (tells : Type 0) (from to taken place : ℕ) (a b : State) → to ≤ place → Goes tells from place to taken a b → Goes tells from to to taken a b
goes_all tells from to taken place a b all so_far = record {
  walks = so_far.walks;
  kept = so_far.kept;
  view = so_far.view;
  same = so_far.same;
  fits = λ shape begun count h up peer low high. so_far.fits shape begun count h up peer low (omega (arith, high, all));
}

-- the taken log was lost
pub ends_so : (tells : Type 0) (from to taken place : ℕ) (a b c : State) → from ≤ taken → taken < to → Goes tells from place to taken a b → Touches tells taken b c → view_at c.views taken ≡ None → Ends tells from to taken a c
ends_so tells from to taken place a b c low high so_far one gone = record {
  walks = walks_then tells a b c so_far.walks one.walks;
  kept = kept_then from to a.views b.views c.views a.marks b.marks c.marks so_far.kept (touch_kept tells from to taken b c low high one);
  gone = gone;
}

-- what stays of views that are seen
pub some_stays : (views others : List (Option Viewing)) (peer : ℕ) → view_at others peer ≡ view_at views peer → IsSome (view_at views peer) → IsSome (view_at others peer)
some_stays views others peer same some = subst (λ (v : Option Viewing). IsSome v) (sym same) some

-- ---- rounds

abbrev left_one : Option Viewing → ℕ
left_one None = 0
left_one (Some view) = 1

-- how many of so many peers, of which this is the first, have a view
abbrev pub left_of : List (Option Viewing) → ℕ → ℕ → ℕ
left_of views from zero = 0
left_of views from (suc n) = left_one (view_at views (from + n)) + left_of views from n

left_fewer : (old new : List (Option Viewing)) (from n : ℕ) → AreFewer old new → left_of new from n ≤ left_of old from n
left_fewer old new from zero fewer = omega arith
left_fewer old new from (suc n) fewer = let rest = left_fewer old new from n fewer in elim (fewer (from + n)) [
  | inl same ↦ let e = ap left_one same in omega (arith, rest, e)
  | inr gone ↦ let e = ap left_one gone in omega (arith, rest, e)
]

left_gone : (old new : List (Option Viewing)) (from n taken : ℕ) → AreFewer old new → from ≤ taken → taken < from + n → IsSome (view_at old taken) → view_at new taken ≡ None → left_of new from n + 1 ≤ left_of old from n
left_gone old new from zero taken fewer low high some gone = absurd (omega (arith, low, high))
left_gone old new from (suc n) taken fewer low high some gone = elim (cases_eq taken (from + n)) [
  | inl same ↦
      let rest = left_fewer old new from n fewer in
      let a : left_one (view_at new (from + n)) ≡ 0 = ap left_one (ap (λ p. view_at new p) (sym same) ∙ gone) in
      let b : left_one (view_at old (from + n)) ≡ 1 = one_is (view_at old (from + n)) (subst (λ p. IsSome (view_at old p)) same some) in
      omega (arith, rest, a, b)
  | inr differs ↦
      let rest = left_gone old new from n taken fewer low (omega (arith, high, differs)) some gone in
      elim (fewer (from + n)) [
        | inl kept ↦ let e = ap left_one kept in omega (arith, rest, e)
        | inr lost ↦ let e = ap left_one lost in omega (arith, rest, e)
      ]
]
  where
    one_is : (v : Option Viewing) → IsSome v → left_one v ≡ 1
    one_is None h = cc h
    one_is (Some v) h = refl

left_bound : (views : List (Option Viewing)) (from n : ℕ) → left_of views from n ≤ n
left_bound views from zero = omega arith
left_bound views from (suc n) = let rest = left_bound views from n in let one = at_most (view_at views (from + n)) in omega (arith, rest, one)
  where
    at_most : (v : Option Viewing) → left_one v ≤ 1
    at_most None = omega arith
    at_most (Some v) = omega arith

left_none : (views : List (Option Viewing)) (from n peer : ℕ) → left_of views from n ≡ 0 → from ≤ peer → peer < from + n → view_at views peer ≡ None
left_none views from zero peer e low high = absurd (omega (arith, low, high))
left_none views from (suc n) peer e low high = elim (cases_eq peer (from + n)) [
  | inl same ↦ ap (λ p. view_at views p) same ∙ none_is (view_at views (from + n)) (omega (arith, e))
  | inr differs ↦ left_none views from n peer (omega (arith, e)) low (omega (arith, high, differs))
]
  where
    none_is : (v : Option Viewing) → left_one v ≡ 0 → v ≡ None
    none_is None h = refl
    none_is (Some v) h = absurd (omega (arith, h))

-- of so many peers some lost their logs: one at least in each round
pub record Rounds (tells : Type 0) (from to round : ℕ) (a b : State) : Type 0 where
  pub walks : Walks tells a b
  pub kept : AreKept from to a.views b.views a.marks b.marks
  pub left : left_of b.views from (to - from) + round ≤ to - from

pub rounds_none : (tells : Type 0) (from to : ℕ) (a : State) → AreViews tells a.views a.disks → Rounds tells from to 0 a a
rounds_none tells from to a ready = record {
  walks = walks_none tells a ready;
  kept = record { view = λ peer out. refl; mark = λ peer out. refl };
  left = let l = left_bound a.views from (to - from) in omega (arith, l);
}

pub rounds_more : (tells : Type 0) (from to round taken : ℕ) (a b c : State) → from ≤ taken → taken < to → IsSome (view_at b.views taken) → Rounds tells from to round a b → Ends tells from to taken b c → Rounds tells from to (round + 1) a c
rounds_more tells from to round taken a b c low high some so_far end = record {
  walks = walks_then tells a b c so_far.walks end.walks;
  kept = kept_then from to a.views b.views c.views a.marks b.marks c.marks so_far.kept end.kept;
  left = let l = left_gone b.views c.views from (to - from) taken end.walks.fewer low (omega (arith, low, high)) some end.gone in let k = so_far.left in omega (arith, l, k);
}

-- ---- a shard is done

pub settles_none : (tells : Type 0) (from to round : ℕ) (a b : State) → Rounds tells from to round a b → ((peer : ℕ) → from ≤ peer → peer < to → view_at b.views peer ≡ None) → Settles tells from to 0 a b
settles_none tells from to round a b so_far none = record {
  walks = so_far.walks;
  kept = so_far.kept;
  done = λ shape begun count h up. inr (record { none = none; empty = refl });
}

pub settles_over : (tells : Type 0) (from to round : ℕ) (a b : State) → from ≤ to → to - from ≤ round → Rounds tells from to round a b → Settles tells from to 0 a b
settles_over tells from to round a b order all so_far = settles_none tells from to round a b so_far
    (λ peer low high. let k = so_far.left in left_none b.views from (to - from) peer (omega (arith, k, all)) low (omega (arith, order, low, high)))

pub settles_one : (tells : Type 0) (from to round taken count : ℕ) (view : Viewing) (a b c : State) → Rounds tells from to round a b → IsGreatest b.views from to taken view → Goes tells from to to taken b c → count ≡ view.rank.number
    → Settles tells from to count a c
settles_one tells from to round taken many view a b c so_far greatest goes long = record {
  walks = walks_then tells a b c so_far.walks goes.walks;
  kept = kept_then from to a.views b.views c.views a.marks b.marks c.marks so_far.kept goes.kept;
  done = λ shape begun count h up. inl (record {
    taken = taken;
    own = view;
    greatest = record {
      low = greatest.low;
      high = greatest.high;
      own = goes.view ∙ greatest.own;
      greatest = λ other its from_is to_is is. greatest.greatest other its from_is to_is (was other its is);
      lowest = λ other its from_is less is. greatest.lowest other its from_is less (was other its is);
    };
    same = goes.same;
    long = long;
    fits = goes.fits shape begun count (so_far.walks.looked shape begun count h) up;
  });
}
  where
    none_is_not : (v : Viewing) → None ≡ Some v → ⊥
    none_is_not v e = cc e

    was : (other : ℕ) (its : Viewing) → view_at c.views other ≡ Some its → view_at b.views other ≡ Some its
    was other its is = elim (goes.walks.fewer other) [
      | inl same ↦ sym same ∙ is
      | inr gone ↦ absurd (none_is_not its (sym gone ∙ is))
    ]

-- a test of two numbers
pub not_equal : (a b : ℕ) → not (eqb a b) ≡ true → a ≢ b
not_equal a b e same = elim (eqb_tells a b) [
  | inl is ↦ false_is_not (sym (ap not is.0) ∙ e)
  | inr differ ↦ differ.1 same
]

pub is_equal : (a b : ℕ) → not (eqb a b) ≡ false → a ≡ b
is_equal a b e = elim (eqb_tells a b) [
  | inl is ↦ is.1
  | inr differ ↦ absurd (false_is_not (sym e ∙ ap not differ.0))
]

pub gone_at : (views : List (Option Viewing)) (q : ℕ) → q < length views → view_at (slice_set views q None) q ≡ None
gone_at views q low = view_here views q None low

pub view_else : (views : List (Option Viewing)) (q : ℕ) (v : Option Viewing) (p : ℕ) → p ≢ q → view_at (slice_set views q v) p ≡ view_at views p
view_else views q v p differs = view_there views q v p differs

pub mark_else : (marks : List PeerMark) (q : ℕ) (m : PeerMark) (p : ℕ) → p ≢ q → mark_at (slice_set marks q m) p ≡ mark_at marks p
mark_else marks q m p differs = mark_there marks q m p differs
