-- The views of a shard's peers are compared with that of the taken log, one after another.
use Rattle.std.proofs.Common.{◌≡◌, ◌≢◌, ◌∙◌, ap, sym, subst, inl, inr, ℕ, ◌+◌, ◌<◌, Bool, true, false, List, length, refl, arith}
use Rattle.std.proofs.lemmas.Bool.{cases_eq}
use Rattle.std.proofs.lemmas.List.{get_or-set_same, get_or-set_other}
use Rattle.std.specs.Prelude.{slice_set}
use Rattle.hs_limits.specs.declared.shape.Shape.{Shape}
use Rattle.hs_limits.specs.Shape.{peer_of}
use Rattle.hs_ports.specs.Disk.{Standing}
use Rattle.hs_side.specs.Current.{list_in}
use Rattle.hs_peerlog.specs.Views.{IsAsViewed, Viewing}
use Rattle.hs_taking.proofs.PairLemmas.{still_none, still_then, viewed_still}
use Rattle.hs_taking.specs.Copies.{IsOf}
use Rattle.hs_taking.specs.declared.slot.Slot.{Slot}
use Rattle.hs_taking.specs.declared.slot.Slot.TheVariants.{Aside, Viewed, Equal, Kept}
use Rattle.hs_taking.specs.Disks.{DiskSeen, seen_at}
use Rattle.hs_taking.specs.Pairs.{IsStill}
use Rattle.hs_taking.specs.Slots.{AreSorted, HasTried, IsSlot, IsSorted, slot_at}

-- of a disk that is not written what was read stays so
pub sorted_from : (tells : Type 0) (a0 a b b' : DiskSeen) (lost : Bool) (old new : Slot) → IsStill tells a0 a → IsSorted tells a b b' lost old new → IsSorted tells a0 b b' lost old new
sorted_from tells a0 a b b' lost Aside new still s = s
sorted_from tells a0 a b b' lost (Equal view) new still s = s
sorted_from tells a0 a b b' lost (Kept log) new still s = s
sorted_from tells a0 a b b' lost (Viewed view) Aside still s = s
sorted_from tells a0 a b b' lost (Viewed view) (Viewed same) still s = (s.0, s.1, elim s.2 [ inl gone ↦ inl gone | inr differs ↦ inr (λ told e. differs told (e ∙ ap (λ (d : Standing). list_in d.seen) (sym (still.same told)))) ])
sorted_from tells a0 a b b' lost (Viewed view) (Equal same) still s = (s.0, s.1, λ told. s.2 told ∙ ap (λ (d : Standing). list_in d.seen) (still.same told))
sorted_from tells a0 a b b' lost (Viewed view) (Kept log) still s = s

-- and where the taken log was lost since
pub sorted_later : (tells : Type 0) (a b b' : DiskSeen) (lost later : Bool) (old new : Slot) → (lost ≡ true → later ≡ true) → IsSorted tells a b b' lost old new → IsSorted tells a b b' later old new
sorted_later tells a b b' lost later Aside new up s = s
sorted_later tells a b b' lost later (Equal view) new up s = s
sorted_later tells a b b' lost later (Kept log) new up s = s
sorted_later tells a b b' lost later (Viewed view) Aside up s = elim s [ inl gone ↦ inl (up gone) | inr rose ↦ inr rose ]
sorted_later tells a b b' lost later (Viewed view) (Viewed same) up s = (s.0, s.1, elim s.2 [ inl gone ↦ inl (up gone) | inr differs ↦ inr differs ])
sorted_later tells a b b' lost later (Viewed view) (Equal same) up s = s
sorted_later tells a b b' lost later (Viewed view) (Kept log) up s = s

-- what stood aside does so whatever its disk
pub sorted_aside : (tells : Type 0) (a b b' c c' d : DiskSeen) (lost later : Bool) (old new : Slot) → old ≡ Aside → IsSorted tells a b b' lost old new → IsSorted tells d c c' later old new
sorted_aside tells a b b' c c' d lost later old new is s =
    let here : new ≡ Aside = subst (λ (o : Slot). IsSorted tells a b b' lost o new) is s in
    subst (λ (o : Slot). IsSorted tells d c c' later o new) (sym is) here

-- none was compared yet
pub none_sorted : (tells : Type 0) (shape : Shape) (shard from : ℕ) (disks : List DiskSeen) (slots : List Slot) → AreSorted tells shape shard from (peer_of shape shard 0) disks disks slots slots false
none_sorted tells shape shard from disks slots = record {
  each = λ peer home low. absurd (let f = home.from in omega (arith, f, low));
  rest = λ peer high. refl;
  untouched = λ peer high differs. refl;
  outside = λ peer not. (refl, refl);
  still = λ peer. still_none tells (seen_at disks peer);
  calm = λ no_loss. refl;
  failed = λ gone. absurd (never gone);
}
  where
    never : false ≡ true → ⊥
    never e = cc e

-- one more
pub sort_more : (tells : Type 0) (shape : Shape) (shard from place : ℕ) (old now new : List DiskSeen) (slots so_far : List Slot) (slot : Slot) (lost later : Bool) → IsOf shape shard place → IsOf shape shard from → place < length so_far → slot_at slots from ≡ Aside
    → AreSorted tells shape shard from place old now slots so_far lost → IsSorted tells (seen_at now from) (seen_at now place) (seen_at new place) later (slot_at so_far place) slot → HasTried tells (seen_at now from) (seen_at new from) lost later
    → IsStill tells (seen_at now from) (seen_at new from) → IsStill tells (seen_at now place) (seen_at new place) → ((peer : ℕ) → peer ≢ from → peer ≢ place → seen_at new peer ≡ seen_at now peer)
    → AreSorted tells shape shard from (place + 1) old new slots (slice_set so_far place slot) later
sort_more tells shape shard from place old now new slots so_far slot lost later home from_home within aside inv sorted tried source disk rest = record {
  each = λ peer of low. elim (cases_eq peer place) [
    | inl same ↦ subst (λ p. IsSorted tells (seen_at old from) (seen_at old p) (seen_at new p) later (slot_at slots p) (slot_at (slice_set so_far place slot) p)) (sym same) here
    | inr differs ↦ there peer of (omega (arith, low, differs)) differs
  ];
  rest = λ peer high. slot_there peer (λ same. omega (arith, same, high)) ∙ inv.rest peer (omega (arith, high));
  untouched = λ peer high differs. rest peer differs (λ same. omega (arith, same, high)) ∙ inv.untouched peer (omega (arith, high)) differs;
  outside = λ peer not.
      let a : peer ≢ from = λ same. not (subst (λ p. IsOf shape shard p) (sym same) from_home) in
      let b : peer ≢ place = λ same. not (subst (λ p. IsOf shape shard p) (sym same) home) in
      let o = inv.outside peer not in
      (slot_there peer b ∙ o.0, rest peer a b ∙ o.1);
  still = λ peer. elim (cases_eq peer place) [
    | inl same ↦ subst (λ p. IsStill tells (seen_at old p) (seen_at new p)) (sym same) (still_then tells (seen_at old place) (seen_at now place) (seen_at new place) (inv.still place) disk)
    | inr differs ↦ elim (cases_eq peer from) [
      | inl same ↦ subst (λ p. IsStill tells (seen_at old p) (seen_at new p)) (sym same) (still_then tells (seen_at old from) (seen_at now from) (seen_at new from) (inv.still from) source)
      | inr other ↦ subst (λ (s : DiskSeen). IsStill tells (seen_at old peer) s) (sym (rest peer other differs)) (inv.still peer)
    ]
  ];
  calm = λ none. tried.calm none ∙ inv.calm (before none);
  failed = λ gone told. elim (tried.failed gone) [
    | inl was ↦ let r = inv.failed was told in let c = source.counted in omega (arith, r, c)
    | inr rose ↦ let r = rose told in let c = (inv.still from).counted in omega (arith, r, c)
  ];
}
  where
    slot_there : (peer : ℕ) → peer ≢ place → slot_at (slice_set so_far place slot) peer ≡ slot_at so_far peer
    slot_there peer differs = get_or-set_other so_far place peer slot Aside differs

    slot_here : slot_at (slice_set so_far place slot) place ≡ slot
    slot_here = get_or-set_same so_far place slot Aside within

    before : later ≡ false → lost ≡ false
    before none = go lost refl
      where
        go : (b : Bool) → lost ≡ b → lost ≡ false
        go false e = e
        go true e = cc (sym (tried.still e) ∙ none)

    was : slot_at so_far place ≡ slot_at slots place
    was = inv.rest place (omega arith)

    one : IsSorted tells (seen_at old from) (seen_at now place) (seen_at new place) later (slot_at slots place) slot
    one = subst (λ (o : Slot). IsSorted tells (seen_at old from) (seen_at now place) (seen_at new place) later o slot) was (sorted_from tells (seen_at old from) (seen_at now from) (seen_at now place) (seen_at new place) later (slot_at so_far place) slot (inv.still from) sorted)

    here : IsSorted tells (seen_at old from) (seen_at old place) (seen_at new place) later (slot_at slots place) (slot_at (slice_set so_far place slot) place)
    here = subst (λ (s : Slot). IsSorted tells (seen_at old from) (seen_at old place) (seen_at new place) later (slot_at slots place) s) (sym slot_here) (elim (cases_eq place from) [
      | inl same ↦ sorted_aside tells (seen_at old from) (seen_at now place) (seen_at new place) (seen_at old place) (seen_at new place) (seen_at old from) later later (slot_at slots place) slot (ap (λ p. slot_at slots p) same ∙ aside) one
      | inr differs ↦ subst (λ (s : DiskSeen). IsSorted tells (seen_at old from) s (seen_at new place) later (slot_at slots place) slot) (inv.untouched place (omega arith) differs) one
    ])

    there : (peer : ℕ) → IsOf shape shard peer → peer < place → peer ≢ place → IsSorted tells (seen_at old from) (seen_at old peer) (seen_at new peer) later (slot_at slots peer) (slot_at (slice_set so_far place slot) peer)
    there peer of low differs =
        let s = sorted_later tells (seen_at old from) (seen_at old peer) (seen_at now peer) lost later (slot_at slots peer) (slot_at so_far peer) tried.still (inv.each peer of low) in
        subst (λ (x : Slot). IsSorted tells (seen_at old from) (seen_at old peer) (seen_at new peer) later (slot_at slots peer) x) (sym (slot_there peer differs)) (elim (cases_eq peer from) [
          | inl same ↦ sorted_aside tells (seen_at old from) (seen_at old peer) (seen_at now peer) (seen_at old peer) (seen_at new peer) (seen_at old from) later later (slot_at slots peer) (slot_at so_far peer) (ap (λ p. slot_at slots p) same ∙ aside) s
          | inr other ↦ subst (λ (x : DiskSeen). IsSorted tells (seen_at old from) (seen_at old peer) x later (slot_at slots peer) (slot_at so_far peer)) (sym (rest peer other differs)) s
        ])

-- a view that is compared is of its disk as it is then
pub sort_viewed : (tells : Type 0) (shape : Shape) (shard from place : ℕ) (old now : List DiskSeen) (slots so_far : List Slot) (lost : Bool) (slot : Slot) → AreSorted tells shape shard from place old now slots so_far lost → slot ≡ slot_at so_far place
    → IsSlot tells shape place (seen_at old place) (slot_at slots place) → (view : Viewing) → slot ≡ Viewed view → IsAsViewed tells view ((seen_at now place).size view.log.side) (seen_at now place).stands
sort_viewed tells shape shard from place old now slots so_far lost slot inv at is view viewed =
    let of : IsSlot tells shape place (seen_at old place) (Viewed view) = subst (λ (s : Slot). IsSlot tells shape place (seen_at old place) s) (sym (inv.rest place (omega arith)) ∙ sym at ∙ viewed) is in
    viewed_still tells view (seen_at old place) (seen_at now place) (inv.still place) of.viewed
