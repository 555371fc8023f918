-- Copying a list to the peers of a shard, one after another.
use Rattle.std.proofs.Common.{◌≡◌, ◌⊎◌, ◌∙◌, inl, inr, ap, sym, subst, ℕ, ◌+◌, ◌<◌, ◌≤◌, ◌++◌, List, [], ◌∷◌, Some, None, refl, arith, append_assoc}
use Rattle.std.proofs.lemmas.Bool.{cases_eq}
use Rattle.std.proofs.lemmas.Grind.{flat_map-append}
use Rattle.std.proofs.lemmas.List.{append-nil}
use Rattle.std.proofs.lemmas.List.Elements.{Contains-append_left, Contains-push, Contains-push_cases}
use Rattle.std.specs.Prelude.{Contains, flat_map}
use Rattle.hs_entry.specs.declared.entry.Entry.{Entry}
use Rattle.hs_limits.specs.declared.shape.Shape.{Shape}
use Rattle.hs_peerlog.proofs.ImageLemmas.{Since}
use Rattle.hs_peerlog.proofs.StayLemmas.{stays}
use Rattle.hs_peerlog.specs.Images.{LeavesEach, LeavesOnly}
use Rattle.hs_peerlog.specs.Views.{HasView, Viewing}
use Rattle.hs_ports.specs.Disk.{Standing}
use Rattle.hs_scrub.proofs.CopyLemmas.{each_then, stopped_then}
use Rattle.hs_scrub.proofs.StillLemmas.{has_still, still_none, still_then}
use Rattle.hs_scrub.specs.Copied.{AreBeside, IsLeft, IsOldOrFront}
use Rattle.hs_scrub.specs.CopySteps.{Calls, Copies, CopyFronts, HasGiven, HasGot, Leaves, OneGiven, Skips, Spares, Takes}
use Rattle.hs_scrub.specs.declared.mark.PeerMark.{PeerMark}
use Rattle.hs_scrub.specs.declared.mark.PeerMark.TheVariants.{Fault}
use Rattle.hs_scrub.specs.Text.{line_of}
use Rattle.hs_taking.specs.Disks.{DiskSeen, seen_at}

-- time went on
pub each_wait : {before mid now : ℕ} {a b : Standing} (R : List (ℕ × Entry) → Type 0) → mid ≤ now → LeavesEach before mid a b R → LeavesEach before now a b R
each_wait R up one = record {
  later = let l = one.later in omega (arith, l, up);
  last = let l = one.last in omega (arith, l, up);
  earlier = one.earlier;
  each = one.each;
  standing = one.standing;
}

-- a disk that was not called
pub fronts_still : (tells : Type 0) (source : Viewing) (before now : ℕ) (from disk : DiskSeen) → before ≤ now → (tells → Since disk.stands) → CopyFronts tells source before now from disk disk
fronts_still tells source before now from disk up since = λ told last whole has held leaves.
    each_wait (IsOldOrFront held whole) up (stays disk.stands before held (IsOldOrFront held whole) last (since told) leaves (record { one = inl refl }))

pub spares_none : (tells : Type 0) (shape : Shape) (source : Viewing) (from now total : ℕ) (disks : List DiskSeen) → ((peer : ℕ) → peer < total → tells → Since (seen_at disks peer).stands) → Spares tells shape source from now now total disks disks
spares_none tells shape source from now total disks since = record {
  still = still_none tells (seen_at disks from);
  read = omega arith;
  others = λ peer out. refl;
  fronts = λ peer low differ. fronts_still tells source now now (seen_at disks from) (seen_at disks peer) (omega arith) (since peer low);
  counted = λ peer. omega arith;
  later = omega arith;
}

module _ (tells : Type 0) (shape : Shape) (source : Viewing) (from before mid now peer total : ℕ) (old cur new : List DiskSeen) (so_far : Spares tells shape source from before mid total old cur) (calls : Calls tells from peer mid now cur new)
    (spared : (AreBeside shape from peer → ⊥) → seen_at new peer ≡ seen_at cur peer) (fronts : (peer ≡ from → ⊥) → CopyFronts tells source mid now (seen_at cur from) (seen_at cur peer) (seen_at new peer))
    (same : (peer ≡ from → ⊥) → seen_at cur peer ≡ seen_at old peer) where
  own : AreBeside shape from from
  own = refl

  not_from : (q : ℕ) → (AreBeside shape from q → ⊥) → q ≡ from → ⊥
  not_from q out is = out (subst (λ p. AreBeside shape from p) (sym is) own)

  counted_more : (q : ℕ) → (seen_at old q).faults ≤ (seen_at new q).faults
  counted_more q = elim (cases_eq q peer) [
    | inl is ↦ subst (λ (p : ℕ). (seen_at old p).faults ≤ (seen_at new p).faults) (sym is) (let l = so_far.counted peer in let m = calls.counted in omega (arith, l, m))
    | inr differs ↦ elim (cases_eq q from) [
      | inl own ↦ subst (λ (p : ℕ). (seen_at old p).faults ≤ (seen_at new p).faults) (sym own) (let l = so_far.read in let m = calls.read in omega (arith, l, m))
      | inr other ↦ let l = so_far.counted q in let e = ap (λ (s : DiskSeen). s.faults) (calls.others q other differs) in omega (arith, l, e)
    ]
  ]

  pub spares_more : Spares tells shape source from before now total old new
  spares_more = record {
    still = still_then tells (seen_at old from) (seen_at cur from) (seen_at new from) so_far.still calls.source;
    read = let l = so_far.read in let m = calls.read in omega (arith, l, m);
    others = λ q out. elim (cases_eq q peer) [
      | inl is ↦ ap (λ p. seen_at new p) is ∙ spared (subst (λ p. AreBeside shape from p → ⊥) is out) ∙ ap (λ p. seen_at cur p) (sym is) ∙ so_far.others q out
      | inr differs ↦ calls.others q (not_from q out) differs ∙ so_far.others q out
    ];
    fronts = λ q low differ. elim (cases_eq q peer) [
      | inl is ↦ subst (λ p. CopyFronts tells source before now (seen_at old from) (seen_at old p) (seen_at new p)) (sym is) (here (subst (λ p. p < total) is low) (λ e. differ (is ∙ e)))
      | inr differs ↦ λ told last whole has held leaves.
          subst (λ (s : DiskSeen). LeavesEach before now (seen_at old q).stands s.stands (IsOldOrFront held whole)) (sym (calls.others q differ differs))
          (each_wait (IsOldOrFront held whole) calls.later (so_far.fronts q low differ told last whole has held leaves))
    ];
    counted = counted_more;
    later = let l = so_far.later in let m = calls.later in omega (arith, l, m);
  }
    where
      here : peer < total → (peer ≡ from → ⊥) → CopyFronts tells source before now (seen_at old from) (seen_at old peer) (seen_at new peer)
      here low differ = λ told last whole has held leaves.
          let one = so_far.fronts peer low differ told last whole has held leaves in
          let is = same differ in
          each_then (IsOldOrFront held whole) one
          (fronts differ told one.last whole (has_still tells (seen_at old from) (seen_at cur from) source whole so_far.still told has) held (subst (λ (s : DiskSeen). LeavesOnly s.stands held) (sym is) leaves))

pub copies_none : (tells : Type 0) (shape : Shape) (source : Viewing) (from now total : ℕ) (disks : List DiskSeen) (out : List ℕ) → ((peer : ℕ) → peer < total → tells → Since (seen_at disks peer).stands) → Copies tells shape source from now now 0 total disks disks out out
copies_none tells shape source from now total disks out since = record {
  spares = spares_none tells shape source from now total disks since;
  calm = refl;
  left = [];
  text = sym (append-nil out);
  low = λ peer in_it. absurd (none_in peer in_it);
  told = λ peer in_it. absurd (none_in peer in_it);
  done = λ peer low. absurd (omega (arith, low));
  rest = λ peer high differ. refl;
}
  where
    none_in : (peer : ℕ) → Contains {X = ℕ} [] peer → ⊥
    none_in peer h = let l = h.1 in absurd (omega (arith, l))

module _ (tells : Type 0) (shape : Shape) (source : Viewing) (from before mid now peer total : ℕ) (old cur new : List DiskSeen) (out out' out'' : List ℕ) (so_far : Copies tells shape source from before mid peer total old cur out out') (calls : Calls tells from peer mid now cur new)
    (spared : (AreBeside shape from peer → ⊥) → seen_at new peer ≡ seen_at cur peer) (fronts : (peer ≡ from → ⊥) → CopyFronts tells source mid now (seen_at cur from) (seen_at cur peer) (seen_at new peer)) where
  unmoved : (peer ≡ from → ⊥) → seen_at cur peer ≡ seen_at old peer
  unmoved differ = so_far.rest peer (omega arith) differ

  pub all_spares : Spares tells shape source from before now total old new
  all_spares = spares_more tells shape source from before mid now peer total old cur new so_far.spares calls spared fronts unmoved

  -- the peers before stay
  kept : (q : ℕ) → q < peer → (q ≡ from → ⊥) → seen_at new q ≡ seen_at cur q
  kept q low differ = calls.others q differ (λ is. omega (arith, low, is))

  rest_more : (q : ℕ) → peer + 1 ≤ q → (q ≡ from → ⊥) → seen_at new q ≡ seen_at old q
  rest_more q high differ = calls.others q differ (λ is. omega (arith, high, is)) ∙ so_far.rest q (omega (arith, high)) differ

  told_more : (q : ℕ) → Contains so_far.left q → AreBeside shape from q × (q ≡ from → ⊥) × IsLeft tells shape q (seen_at old q) (seen_at new q)
  told_more q in_it =
      let t = so_far.told q in_it in
      (t.0, t.1, subst (λ (s : DiskSeen). IsLeft tells shape q (seen_at old q) s) (sym (kept q (so_far.low q in_it) t.1)) t.2)

  done_more : (q : ℕ) → q < peer → AreBeside shape from q → (q ≡ from → ⊥) → Contains so_far.left q ⊎ HasGot tells source before (seen_at old from) (seen_at old q) (seen_at new q)
  done_more q low beside differ = subst (λ (s : DiskSeen). Contains so_far.left q ⊎ HasGot tells source before (seen_at old from) (seen_at old q) s) (sym (kept q low differ)) (so_far.done q low beside differ)

  -- one more is as it should be
  one_more : (so : (AreBeside shape from peer → (peer ≡ from → ⊥) → HasGot tells source before (seen_at old from) (seen_at old peer) (seen_at new peer))) → (seen_at new from).faults ≡ (seen_at cur from).faults → out'' ≡ out' → Copies tells shape source from before now (peer + 1) total old new out out''
  one_more so calm text = record {
    spares = all_spares;
    calm = calm ∙ so_far.calm;
    left = so_far.left;
    text = text ∙ so_far.text;
    low = λ q in_it. let l = so_far.low q in_it in omega (arith, l);
    told = told_more;
    done = λ q low beside differ. elim (cases_eq q peer) [
      | inl is ↦ inr (subst (λ p. HasGot tells source before (seen_at old from) (seen_at old p) (seen_at new p)) (sym is) (so (subst (λ p. AreBeside shape from p) is beside) (λ e. differ (is ∙ e))))
      | inr differs ↦ done_more q (omega (arith, low, differs)) beside differ
    ];
    rest = rest_more;
  }

  skipped : Skips shape from peer cur new out' out'' → Copies tells shape source from before now (peer + 1) total old new out out''
  skipped h = one_more (λ beside differ. absurd (h.other beside differ)) (ap (λ (ds : List DiskSeen). (seen_at ds from).faults) h.same) h.text

  took : Takes tells shape source from peer mid cur new out' out'' → Copies tells shape source from before now (peer + 1) total old new out out''
  took h = one_more (λ beside differ. record {
    calm = h.calm.target ∙ ap (λ (s : DiskSeen). s.faults) (unmoved differ);
    got = record {
      list = λ told last whole has.
          h.got.list told (subst (λ (s : DiskSeen). s.stands.last ≤ mid) (sym (unmoved differ)) (let l = so_far.spares.later in omega (arith, last, l))) whole
          (has_still tells (seen_at old from) (seen_at cur from) source whole so_far.spares.still told has);
    };
  }) h.calm.source h.text

  left_so : Leaves tells shape from peer cur new out' out'' → Copies tells shape source from before now (peer + 1) total old new out out''
  left_so h = record {
    spares = all_spares;
    calm = h.calm ∙ so_far.calm;
    left = so_far.left ++ peer ∷ [];
    text = h.text ∙ ap (λ o. o ++ line_of 0 peer Fault) so_far.text ∙ append_assoc out (flat_map (λ p. line_of 0 p Fault) so_far.left) (line_of 0 peer Fault)
        ∙ ap (λ t. out ++ t) (ap (λ t. flat_map (λ p. line_of 0 p Fault) so_far.left ++ t) (sym (append-nil (line_of 0 peer Fault))) ∙ sym (flat_map-append (λ p. line_of 0 p Fault) so_far.left (peer ∷ [])));
    low = λ q in_it. elim (Contains-push_cases so_far.left peer q in_it) [ inl before ↦ (let l = so_far.low q before in omega (arith, l)) | inr is ↦ omega (arith, is) ];
    told = λ q in_it. elim (Contains-push_cases so_far.left peer q in_it) [
      | inl before ↦ told_more q before
      | inr is ↦ subst (λ p. AreBeside shape from p × (p ≡ from → ⊥) × IsLeft tells shape p (seen_at old p) (seen_at new p)) is
          (h.beside, h.differ, subst (λ (s : DiskSeen). IsLeft tells shape peer s (seen_at new peer)) (unmoved h.differ) h.left)
    ];
    done = λ q low beside differ. elim (cases_eq q peer) [
      | inl is ↦ inl (subst (λ p. Contains (so_far.left ++ peer ∷ []) p) (sym is) (Contains-push so_far.left peer))
      | inr differs ↦ elim (done_more q (omega (arith, low, differs)) beside differ) [ inl before ↦ inl (Contains-append_left so_far.left (peer ∷ []) q before) | inr got ↦ inr got ]
    ];
    rest = rest_more;
  }

  pub copies_more : OneGiven tells shape source from peer mid cur new out' out'' None → Copies tells shape source from before now (peer + 1) total old new out out''
  copies_more (inl h) = skipped h
  copies_more (inr (inl h)) = took h
  copies_more (inr (inr h)) = left_so h

  -- the copying ended
  pub given_ended : (mark : PeerMark) (last : List ℕ) → OneGiven tells shape source from peer mid cur new out' out'' (Some mark) → last ≡ out'' ++ line_of 0 from mark → HasGiven tells shape source from before total old new out last
  given_ended mark last h text = record {
    left = so_far.left;
    ended = Some mark;
    text = text ∙ ap (λ o. o ++ line_of 0 from mark) (h.1 ∙ so_far.text) ∙ append_assoc out (flat_map (λ p. line_of 0 p Fault) so_far.left) (line_of 0 from mark);
    told = told_more;
    stopped = stopped_then tells (HasView source (seen_at cur from).stands.seen) (HasView source (seen_at old from).stands.seen) (seen_at old from).faults (seen_at cur from).faults (seen_at new from).faults mark so_far.calm
        (λ list told has. has_still tells (seen_at old from) (seen_at cur from) source list so_far.spares.still told has) h.0;
    done = λ e. absurd (some_not mark e);
  }
    where
      some_not : (mark : PeerMark) → Some mark ≡ None → ⊥
      some_not mark e = cc e

pub given_all : (tells : Type 0) (shape : Shape) (source : Viewing) (from before now upto total : ℕ) (old new : List DiskSeen) (out out' : List ℕ) → total ≤ upto → Copies tells shape source from before now upto total old new out out' → HasGiven tells shape source from before total old new out out'
given_all tells shape source from before now upto total old new out out' all h = record {
  left = h.left;
  ended = None;
  text = h.text ∙ ap (λ t. out ++ t) (sym (append-nil (flat_map (λ p. line_of 0 p Fault) h.left)));
  told = h.told;
  stopped = tt;
  done = λ e peer low beside differ. h.done peer (omega (arith, low, all)) beside differ;
}
