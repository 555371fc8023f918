-- The logs of one shard after another.
use Rattle.std.proofs.Common.{◌≡◌, ◌∙◌, ◌⊎◌, ap, sym, subst, inl, inr, ℕ, zero, suc, ◌+◌, ◌*◌, ◌<◌, ◌≤◌, List, [], ◌∷◌, ◌++◌, length, map, Option, Some, None, refl, arith, Contains}
use Rattle.std.proofs.lemmas.Bool.{cases_eq, cases_lt}
use Rattle.std.proofs.lemmas.Grind.{flat_map-append}
use Rattle.std.proofs.lemmas.List.{append-nil, get_or_push}
use Rattle.std.proofs.lemmas.List.Elements.{Contains-append_cases, Contains-get_or}
use Rattle.std.proofs.lemmas.List.Quantifiers.{all_pairs_push}
use Rattle.std.proofs.Math.ListN.{get_or-append}
use Rattle.std.proofs.Math.Nat.{mul-le-mul_right, suc-mul}
use Rattle.std.specs.List.{AllPairs}
use Rattle.std.specs.Option.{option_map_or}
use Rattle.std.specs.Prelude.{IfSome, flat_map, slice_index_or}
use Rattle.hs_fold.specs.Shards.Setting.{Numbered, Setting}
use Rattle.hs_limits.specs.declared.shape.Shape.{Shape}
use Rattle.hs_limits.specs.Shape.{peer_of}
use Rattle.hs_memory.specs.Forget.{apply_all}
use Rattle.hs_peerlog.proofs.ImageLemmas.{Since}
use Rattle.hs_peerlog.specs.Lists.{IsReady, Keeping}
use Rattle.hs_peerlog.specs.Views.{Viewing}
use Rattle.hs_shard.specs.Facts.{empty_catalogue}
use Rattle.hs_side.specs.Current.{list_in}
use Rattle.hs_taking.proofs.CarryLemmas.{carried}
use Rattle.hs_taking.proofs.ChoiceLemmas.{shard_within}
use Rattle.hs_taking.proofs.KeepLemmas.{keeps_none, keeps_then, keeps_wait}
use Rattle.hs_taking.specs.Copies.{IsOf}
use Rattle.hs_taking.specs.declared.shares.Share.{Share}
use Rattle.hs_taking.specs.declared.slot.Slot.{Slot}
use Rattle.hs_taking.specs.declared.slot.Slot.TheVariants.{Aside, Viewed, Equal, Kept}
use Rattle.hs_taking.specs.Disks.{AreReady, DiskSeen, log_at, seen_at}
use Rattle.hs_taking.specs.Evens.{AreMoved, IsEvenedAs, IsFresh, IsMovedAs, IsTaken, TakesAll, TakesFrom, TakesShard, chosen_peer, log_of, slot_of}
use Rattle.hs_taking.specs.Shares.{IsLater, KeepsDisk, lost_of, no_share}
use Rattle.hs_taking.specs.Slots.{IsSlot, slot_at}
use Rattle.hs_taking.specs.Viewed.{IsViewOf}

-- ---- the views of all disks

pub view_slot : (views : List (Option Viewing)) (peer : ℕ) → slot_at (map slot_of views) peer ≡ slot_of (slice_index_or views peer None)
view_slot [] peer = refl
view_slot (v ∷ views) zero = refl
view_slot (v ∷ views) (suc k) = view_slot views k

fresh_of : (view : Option Viewing) → IsFresh (slot_of view)
fresh_of None = tt
fresh_of (Some view) = tt

pub fresh_views : (views : List (Option Viewing)) (peer : ℕ) → IsFresh (slot_at (map slot_of views) peer)
fresh_views views peer = subst (λ (s : Slot). IsFresh s) (sym (view_slot views peer)) (fresh_of (slice_index_or views peer None))

stands_of : (tells : Type 0) (shape : Shape) (peer : ℕ) (disk : DiskSeen) (view : Option Viewing) → IfSome view (IsViewOf tells shape peer disk) → IsSlot tells shape peer disk (slot_of view)
stands_of tells shape peer disk None is = tt
stands_of tells shape peer disk (Some view) is = is

pub views_stand : (tells : Type 0) (shape : Shape) (peer : ℕ) (disk : DiskSeen) (views : List (Option Viewing)) → IfSome (slice_index_or views peer None) (IsViewOf tells shape peer disk) → IsSlot tells shape peer disk (slot_at (map slot_of views) peer)
views_stand tells shape peer disk views is = subst (λ (s : Slot). IsSlot tells shape peer disk s) (sym (view_slot views peer)) (stands_of tells shape peer disk (slice_index_or views peer None) is)

pub log_slot : (slots : List Slot) (peer : ℕ) → log_at (map log_of slots) peer ≡ log_of (slot_at slots peer)
log_slot [] peer = refl
log_slot (s ∷ slots) zero = refl
log_slot (s ∷ slots) (suc k) = log_slot slots k

-- ---- the peers of a shard

pub of_or : (shape : Shape) (shard peer : ℕ) → IsOf shape shard peer ⊎ (IsOf shape shard peer → ⊥)
of_or shape shard peer = elim (cases_lt peer (peer_of shape shard 0)) [
  | inl below ↦ inr (λ of. let f = of.from in omega (arith, below, f))
  | inr from ↦ elim (cases_lt peer (peer_of shape shard 0 + shape.copies)) [
    | inl to ↦ inl (record { from = from; to = to })
    | inr above ↦ inr (λ of. let t = of.to in omega (arith, above, t))
  ]
]

pub of_below : (shape : Shape) (shard next peer : ℕ) → shard < next → IsOf shape shard peer → peer < next * shape.copies
of_below shape shard next peer less of =
    let m : suc shard * shape.copies ≤ next * shape.copies = mul-le-mul_right shape.copies (omega (arith, less)) in
    let d : suc shard * shape.copies ≡ shard * shape.copies + shape.copies = suc-mul shard shape.copies in
    let t = of.to in
    omega (arith, m, d, t)

-- ---- the first shards

abbrev pub at_shard : List Share → ℕ → Share
at_shard shares shard = slice_index_or shares shard no_share

abbrev pub TakesAt : Type 0 → Setting → ℕ → ℕ → List DiskSeen → List DiskSeen → List (Option Viewing) → List Slot → ℕ → Share → Type 0
TakesAt tells set before now old new views slots shard share =
    TakesFrom tells (apply_all set.name (empty_catalogue set.shape shard)) set.shape shard share.peer before now old new (map slot_of views) slots share (slot_at (map slot_of views) share.peer)

-- so many shards were taken, and the disks of the others were not called
pub record TakesSome (tells : Type 0) (set : Setting) (before now : ℕ) (old new : List DiskSeen) (views : List (Option Viewing)) (slots : List Slot) (shares : List Share) : Type 0 where
  pub chosen : (shard : ℕ) → shard < length shares → (at_shard shares shard).peer ≡ chosen_peer set.shape views shard
  pub home : (shard : ℕ) → shard < length shares → IsOf set.shape shard (at_shard shares shard).peer
  pub numbered : (shard : ℕ) → shard < length shares → (at_shard shares shard).shard ≡ shard
  pub each : (shard : ℕ) → shard < length shares → TakesAt tells set before now old new views slots shard (at_shard shares shard)
  pub lost : (x : ℕ × ℕ) → Contains (flat_map lost_of shares) x → (x.0 < length shares * set.shape.copies) × (x.1 ≤ now)
  pub once : AllPairs IsLater (flat_map lost_of shares)
  pub rest : (peer : ℕ) → length shares * set.shape.copies ≤ peer → (slot_at slots peer ≡ slot_at (map slot_of views) peer) × (seen_at new peer ≡ seen_at old peer)
  pub ready : (peer : ℕ) (log : Keeping) → slot_at slots peer ≡ Kept log → IsReady tells log ((seen_at new peer).size log.log.side) (seen_at new peer).stands
  pub counted : (peer : ℕ) → (seen_at old peer).faults ≤ (seen_at new peer).faults
  pub keeps : set.shape.copies ≡ 1 → (peer : ℕ) → KeepsDisk tells before now (seen_at old peer) (seen_at new peer)

fresh_kept : (slot : Slot) (log : Keeping) → IsFresh slot → slot ≡ Kept log → ⊥
fresh_kept Aside log fresh e = cc e
fresh_kept (Viewed view) log fresh e = cc e
fresh_kept (Equal view) log fresh e = absurd fresh
fresh_kept (Kept other) log fresh e = absurd fresh

pub takes_none : (tells : Type 0) (set : Setting) (now : ℕ) (disks : List DiskSeen) (views : List (Option Viewing)) → ((peer : ℕ) → tells → Since (seen_at disks peer).stands) → TakesSome tells set now now disks disks views (map slot_of views) []
takes_none tells set now disks views since = record {
  chosen = λ shard low. absurd (omega (arith, low));
  home = λ shard low. absurd (omega (arith, low));
  numbered = λ shard low. absurd (omega (arith, low));
  each = λ shard low. absurd (omega (arith, low));
  lost = λ x has. absurd (nothing x has);
  once = λ i j d less low. absurd (omega (arith, low));
  rest = λ peer high. (refl, refl);
  ready = λ peer log is. absurd (fresh_kept (slot_at (map slot_of views) peer) log (fresh_views views peer) is);
  counted = λ peer. omega arith;
  keeps = λ one peer. keeps_none tells now (seen_at disks peer) (since peer);
}
  where
    nothing : (x : ℕ × ℕ) → Contains [] x → ⊥
    nothing x has = omega (arith, has.1)

contains_one : (y x : ℕ × ℕ) → Contains (y ∷ []) x → y ≡ x
contains_one y x (zero, low, is) = is
contains_one y x (suc k, low, is) = absurd (omega (arith, low))

none_some : (m : ℕ) → None ≡ Some m → ⊥
none_some m e = cc e

-- ---- one shard more

module _ (tells : Type 0) (set : Setting) (before mid now shard from : ℕ) (old cur next : List DiskSeen) (views : List (Option Viewing)) (slots : List Slot) (shares : List Share) (count : length shares ≡ shard) (up : before ≤ mid) (on : mid ≤ now)
    (so_far : TakesSome tells set before mid old cur views slots shares) (home : IsOf set.shape shard from) (moved : AreMoved tells set.shape shard from mid now cur next slots) where
  -- its disks were not called before
  rest_of : (peer : ℕ) → IsOf set.shape shard peer → (slot_at slots peer ≡ slot_at (map slot_of views) peer) × (seen_at cur peer ≡ seen_at old peer)
  rest_of peer of =
      let f = of.from in
      let same : length shares * set.shape.copies ≡ shard * set.shape.copies = ap (λ n. n * set.shape.copies) count in
      so_far.rest peer (omega (arith, f, same))

  fresh_of_shard : (peer : ℕ) → IsOf set.shape shard peer → IsFresh (slot_at slots peer)
  fresh_of_shard peer of = subst (λ (s : Slot). IsFresh s) (sym (rest_of peer of).0) (fresh_views views peer)

  counted_by : (b b' : DiskSeen) (P : Numbered → Type 0) (slot : Slot) → IsFresh slot → IsMovedAs tells mid now b b' P slot → b.faults ≤ b'.faults
  counted_by b b' P Aside fresh m = m.counted
  counted_by b b' P (Viewed view) fresh m = m.counted
  counted_by b b' P (Equal view) fresh m = absurd fresh
  counted_by b b' P (Kept log) fresh m = absurd fresh

  counted_next : (peer : ℕ) → (seen_at cur peer).faults ≤ (seen_at next peer).faults
  counted_next peer = elim (of_or set.shape shard peer) [
    | inr not ↦ let e = ap (λ (d : DiskSeen). d.faults) (moved.outside peer not) in omega (arith, e)
    | inl of ↦ elim (cases_eq peer from) [
      | inl same ↦ subst (λ p. (seen_at cur p).faults ≤ (seen_at next p).faults) (sym same) moved.disk.counted
      | inr differs ↦ counted_by (seen_at cur peer) (seen_at next peer) (λ list. list_in (seen_at cur from).stands.seen ≡ Some list) (slot_at slots peer) (fresh_of_shard peer of) (moved.each peer of differs)
    ]
  ]

  pub counted_since : (peer : ℕ) → (seen_at old peer).faults ≤ (seen_at next peer).faults
  counted_since peer = let a = so_far.counted peer in let b = counted_next peer in omega (arith, a, b)

  pub keeps_since : set.shape.copies ≡ 1 → (peer : ℕ) → KeepsDisk tells before now (seen_at old peer) (seen_at next peer)
  keeps_since one peer = elim (of_or set.shape shard peer) [
    | inr not ↦ subst (λ (d : DiskSeen). KeepsDisk tells before now (seen_at old peer) d) (sym (moved.outside peer not)) (keeps_wait tells before mid now (seen_at old peer) (seen_at cur peer) on (so_far.keeps one peer))
    | inl of ↦
        let a = of.from in
        let b = of.to in
        let c = home.from in
        let d = home.to in
        let same : peer ≡ from = omega (arith, a, b, c, d, one) in
        keeps_then tells before mid now (seen_at old peer) (seen_at cur peer) (seen_at next peer) (so_far.keeps one peer) (subst (λ p. KeepsDisk tells mid now (seen_at cur p) (seen_at next p)) (sym same) moved.disk)
  ]

  module _ (slots' : List Slot) (share : Share) (is : from ≡ chosen_peer set.shape views shard) (within : shard < set.shape.shards) (since : (peer : ℕ) → tells → Since (seen_at old peer).stands) (since_cur : (peer : ℕ) → tells → Since (seen_at cur peer).stands)
      (stand : (peer : ℕ) → peer < set.shape.shards * set.shape.copies → IsSlot tells set.shape peer (seen_at old peer) (slot_at (map slot_of views) peer))
      (step : TakesShard tells (apply_all set.name (empty_catalogue set.shape shard)) set.shape shard from mid now cur next slots slots' share) (shard_as : share.shard ≡ shard) (peer_as : share.peer ≡ from) where
    abbrev more : List Share
    more = shares ++ share ∷ []

    long : length more ≡ length shares + 1
    long = go shares
      where
        go : (xs : List Share) → length (xs ++ share ∷ []) ≡ length xs + 1
        go [] = refl
        go (s ∷ xs) = let e = go xs in omega (arith, e)

    share_there : (k : ℕ) → k < length shares → at_shard more k ≡ at_shard shares k
    share_there k low = get_or-append shares (share ∷ []) no_share k low

    share_here : at_shard more shard ≡ share
    share_here = get_or_push shares share no_share shard count

    stand_of : (k peer : ℕ) → k < set.shape.shards → IsOf set.shape k peer → IsSlot tells set.shape peer (seen_at old peer) (slot_at (map slot_of views) peer)
    stand_of k peer low of =
        let t = of.to in
        let w = shard_within set.shape k low in
        stand peer (omega (arith, t, w))

    here : TakesAt tells set before now old next views slots' shard share
    here =
        let first = (rest_of from home).0 in
        let one = carried tells set.shape shard from before mid now now cur next old next slots slots' (map slot_of views) slots' up (omega arith) home (λ peer of. sym (rest_of peer of).1) (λ peer of. refl) (λ peer of. sym (rest_of peer of).0) (λ peer of. refl) since_cur
        (λ peer of. subst (λ (d : DiskSeen). IsSlot tells set.shape peer d (slot_at slots peer)) (sym (rest_of peer of).1) (subst (λ (s : Slot). IsSlot tells set.shape peer (seen_at old peer) s) (sym (rest_of peer of).0) (stand_of shard peer within of)))
        (apply_all set.name (empty_catalogue set.shape shard)) share (slot_at slots from) step.from_slot in
        subst (λ p. TakesFrom tells (apply_all set.name (empty_catalogue set.shape shard)) set.shape shard p before now old next (map slot_of views) slots' share (slot_at (map slot_of views) p)) (sym peer_as)
        (subst (λ (s : Slot). TakesFrom tells (apply_all set.name (empty_catalogue set.shape shard)) set.shape shard from before now old next (map slot_of views) slots' share s) first one)

    -- what was taken before stays
    apart : (k peer : ℕ) → k < shard → IsOf set.shape k peer → IsOf set.shape shard peer → ⊥
    apart k peer less of other =
        let b = of_below set.shape k shard peer less of in
        let f = other.from in
        omega (arith, b, f)

    there : (k : ℕ) → k < length shares → TakesAt tells set before now old next views slots' k (at_shard shares k)
    there k low =
        let less : k < shard = omega (arith, low, count) in
        carried tells set.shape k (at_shard shares k).peer before before mid now old cur old next (map slot_of views) slots (map slot_of views) slots' (omega arith) on (so_far.home k low) (λ peer of. refl)
        (λ peer of. moved.outside peer (apart k peer less of)) (λ peer of. refl) (λ peer of. step.outside peer (apart k peer less of)) since
        (λ peer of. stand_of k peer (omega (arith, less, within)) of)
        (apply_all set.name (empty_catalogue set.shape k)) (at_shard shares k) (slot_at (map slot_of views) (at_shard shares k).peer) (so_far.each k low)

    each : (k : ℕ) → k < length more → TakesAt tells set before now old next views slots' k (at_shard more k)
    each k low = elim (cases_eq k shard) [
      | inl same ↦ subst (λ n. TakesAt tells set before now old next views slots' n (at_shard more n)) (sym same) (subst (λ (s : Share). TakesAt tells set before now old next views slots' shard s) (sym share_here) here)
      | inr differs ↦
          let l = long in
          let low' : k < length shares = omega (arith, low, l, differs, count) in
          subst (λ (s : Share). TakesAt tells set before now old next views slots' k s) (sym (share_there k low')) (there k low')
    ]

    -- ---- its logs

    taken_ready : (a a' : DiskSeen) (slot : Slot) (lost : Option ℕ) (log : Keeping) → IsTaken tells mid now a a' slot lost → slot ≡ Kept log → IsReady tells log (a'.size log.log.side) a'.stands
    taken_ready a a' (Kept same) None log t e = subst (λ (k : Keeping). IsReady tells k (a'.size k.log.side) a'.stands) (kept_is same log e) t.good.ready
      where
        kept_is : (x y : Keeping) → Kept x ≡ Kept y → x ≡ y
        kept_is x y same = cc same
    taken_ready a a' (Kept same) (Some moment) log t e = absurd t
    taken_ready a a' Aside lost log t e = cc e
    taken_ready a a' (Viewed view) lost log t e = absurd t
    taken_ready a a' (Equal view) lost log t e = absurd t

    aside_kept : (slot : Slot) (log : Keeping) → slot ≡ Aside → slot ≡ Kept log → ⊥
    aside_kept slot log e k = cc (sym e ∙ k)

    evened_ready : (b b' : DiskSeen) (P : Numbered → Type 0) (first slot : Slot) (lost : Option ℕ) (log : Keeping) → IsFresh first → IsEvenedAs tells mid now b b' P first slot lost → slot ≡ Kept log → IsReady tells log (b'.size log.log.side) b'.stands
    evened_ready b b' P Aside slot lost log fresh h e = absurd (aside_kept slot log h.0 e)
    evened_ready b b' P (Viewed view) slot lost log fresh h e = (h.good log e).ready
    evened_ready b b' P (Equal view) slot lost log fresh h e = absurd fresh
    evened_ready b b' P (Kept other) slot lost log fresh h e = absurd fresh

    own_ready : (peer : ℕ) (log : Keeping) (slot : Slot) → IsFresh slot → IsOf set.shape shard peer → slot_at slots' peer ≡ Kept log
        → TakesFrom tells (apply_all set.name (empty_catalogue set.shape shard)) set.shape shard from mid now cur next slots slots' share slot → IsReady tells log ((seen_at next peer).size log.log.side) (seen_at next peer).stands
    own_ready peer log (Equal view) fresh of e t = absurd fresh
    own_ready peer log (Kept other) fresh of e t = absurd fresh
    own_ready peer log Aside fresh of e t = elim (cases_eq peer from) [
      | inl same ↦ absurd (aside_kept (slot_at slots' from) log t.own (ap (λ p. slot_at slots' p) (sym same) ∙ e))
      | inr differs ↦ absurd (fresh_kept (slot_at slots peer) log (fresh_of_shard peer of) (sym (t.others peer of differs) ∙ e))
    ]
    own_ready peer log (Viewed view) fresh of e t = elim (cases_eq peer from) [
      | inl same ↦ subst (λ p. IsReady tells log ((seen_at next p).size log.log.side) (seen_at next p).stands) (sym same)
          (taken_ready (seen_at cur from) (seen_at next from) (slot_at slots' from) share.lost log t.copies.taken (ap (λ p. slot_at slots' p) (sym same) ∙ e))
      | inr differs ↦ evened_ready (seen_at cur peer) (seen_at next peer) (λ list. list_in (seen_at cur from).stands.seen ≡ Some list) (slot_at slots peer) (slot_at slots' peer) share.lost log (fresh_of_shard peer of) (t.copies.each peer of differs) e
    ]

    ready : (peer : ℕ) (log : Keeping) → slot_at slots' peer ≡ Kept log → IsReady tells log ((seen_at next peer).size log.log.side) (seen_at next peer).stands
    ready peer log e = elim (of_or set.shape shard peer) [
      | inl of ↦ own_ready peer log (slot_at slots from) (fresh_of_shard from home) of e step.from_slot
      | inr not ↦ subst (λ (d : DiskSeen). IsReady tells log (d.size log.log.side) d.stands) (sym (moved.outside peer not)) (so_far.ready peer log (sym (step.outside peer not) ∙ e))
    ]

    -- ---- where its taken log was lost

    moment_of : (slot : Slot) (a a' : DiskSeen) (lost : Option ℕ) (m : ℕ) → lost ≡ Some m → IsTaken tells mid now a a' slot lost → (mid ≤ m) × (m ≤ now)
    moment_of (Kept log) a a' lost m e t = absurd (subst (λ o. IsTaken tells mid now a a' (Kept log) o) e t)
    moment_of Aside a a' lost m e t = let h : IsTaken tells mid now a a' Aside (Some m) = subst (λ o. IsTaken tells mid now a a' Aside o) e t in (h.0, h.1)
    moment_of (Viewed view) a a' lost m e t = absurd t
    moment_of (Equal view) a a' lost m e t = absurd t

    moment_from : (slot : Slot) (m : ℕ) → share.lost ≡ Some m → TakesFrom tells (apply_all set.name (empty_catalogue set.shape shard)) set.shape shard from mid now cur next slots slots' share slot → (mid ≤ m) × (m ≤ now)
    moment_from (Viewed view) m e t = moment_of (slot_at slots' from) (seen_at cur from) (seen_at next from) share.lost m e t.copies.taken
    moment_from Aside m e t = absurd (none_some m (sym t.lost ∙ e))
    moment_from (Equal view) m e t = absurd (none_some m (sym t.lost ∙ e))
    moment_from (Kept log) m e t = absurd (none_some m (sym t.lost ∙ e))

    moment : (m : ℕ) → share.lost ≡ Some m → (mid ≤ m) × (m ≤ now)
    moment m e = moment_from (slot_at slots from) m e step.from_slot

    record Lists : Type 0 where
      bound : (x : ℕ × ℕ) → Contains (flat_map lost_of more) x → (x.0 < length more * set.shape.copies) × (x.1 ≤ now)
      once : AllPairs IsLater (flat_map lost_of more)

    split : flat_map lost_of more ≡ flat_map lost_of shares ++ (lost_of share ++ [])
    split = flat_map-append lost_of shares (share ∷ [])

    total : length more * set.shape.copies ≡ shard * set.shape.copies + set.shape.copies
    total =
        let l = long in
        let e : length more ≡ suc shard = omega (arith, l, count) in
        ap (λ n. n * set.shape.copies) e ∙ suc-mul shard set.shape.copies

    old_bound : (x : ℕ × ℕ) → Contains (flat_map lost_of shares) x → (x.0 < shard * set.shape.copies) × (x.1 ≤ mid)
    old_bound x has = let b = so_far.lost x has in (subst (λ n. x.0 < n * set.shape.copies) count b.0, b.1)

    lists : (o : Option ℕ) → share.lost ≡ o → Lists
    lists None e =
        let same : flat_map lost_of more ≡ flat_map lost_of shares = split ∙ ap (λ z. flat_map lost_of shares ++ (option_map_or (λ m. (share.peer, m) ∷ []) z [] ++ [])) e ∙ append-nil (flat_map lost_of shares) in
        record {
          bound = λ x has.
              let b = old_bound x (subst (λ ys. Contains ys x) same has) in
              let low = b.0 in
              let high = b.1 in
              let t = total in
              (omega (arith, low, t), omega (arith, high, on));
          once = subst (λ ys. AllPairs IsLater ys) (sym same) so_far.once;
        }
    lists (Some m) e =
        let w = moment m e in
        let low = w.0 in
        let high = w.1 in
        let t = total in
        let a = home.from in
        let b = home.to in
        let same : flat_map lost_of more ≡ flat_map lost_of shares ++ (from, m) ∷ [] =
        split ∙ ap (λ z. flat_map lost_of shares ++ (option_map_or (λ m. (share.peer, m) ∷ []) z [] ++ [])) e ∙ ap (λ p. flat_map lost_of shares ++ (p, m) ∷ []) peer_as in
        record {
          bound = λ x has. elim (Contains-append_cases (flat_map lost_of shares) ((from, m) ∷ []) x (subst (λ ys. Contains ys x) same has)) [
            | inl was ↦ let o = old_bound x was in let p = o.0 in let q = o.1 in (omega (arith, p, t), omega (arith, q, on))
            | inr now_lost ↦ subst (λ (z : ℕ × ℕ). (z.0 < length more * set.shape.copies) × (z.1 ≤ now)) (contains_one (from, m) x now_lost) (omega (arith, b, t), high)
          ];
          once = subst (λ ys. AllPairs IsLater ys) (sym same) (all_pairs_push IsLater (flat_map lost_of shares) (from, m) so_far.once (λ k z less.
              let o = old_bound (slice_index_or (flat_map lost_of shares) k z) (Contains-get_or (flat_map lost_of shares) k z less) in
              let p = o.0 in
              let q = o.1 in
              (omega (arith, q, low), λ eq. omega (arith, p, a, eq))));
        }

    pub takes_more : TakesSome tells set before now old next views slots' more
    takes_more =
        let ls : Lists = lists share.lost refl in
        let l = long in
        record {
          chosen = λ k low. elim (cases_eq k shard) [
            | inl same ↦ subst (λ n. (at_shard more n).peer ≡ chosen_peer set.shape views n) (sym same) (ap (λ (s : Share). s.peer) share_here ∙ peer_as ∙ is)
            | inr differs ↦ let low' : k < length shares = omega (arith, low, l, differs, count) in ap (λ (s : Share). s.peer) (share_there k low') ∙ so_far.chosen k low'
          ];
          home = λ k low. elim (cases_eq k shard) [
            | inl same ↦ subst (λ n. IsOf set.shape n (at_shard more n).peer) (sym same) (subst (λ p. IsOf set.shape shard p) (sym (ap (λ (s : Share). s.peer) share_here ∙ peer_as)) home)
            | inr differs ↦ let low' : k < length shares = omega (arith, low, l, differs, count) in subst (λ (s : Share). IsOf set.shape k s.peer) (sym (share_there k low')) (so_far.home k low')
          ];
          numbered = λ k low. elim (cases_eq k shard) [
            | inl same ↦ subst (λ n. (at_shard more n).shard ≡ n) (sym same) (ap (λ (s : Share). s.shard) share_here ∙ shard_as)
            | inr differs ↦ let low' : k < length shares = omega (arith, low, l, differs, count) in ap (λ (s : Share). s.shard) (share_there k low') ∙ so_far.numbered k low'
          ];
          each = each;
          lost = ls.bound;
          once = ls.once;
          rest = λ peer high.
              let t = total in
              let not : IsOf set.shape shard peer → ⊥ = λ of. let e = of.to in omega (arith, high, t, e) in
              let c : length shares * set.shape.copies ≡ shard * set.shape.copies = ap (λ n. n * set.shape.copies) count in
              let was = so_far.rest peer (omega (arith, high, t, c)) in
              (step.outside peer not ∙ was.0, moved.outside peer not ∙ was.1);
          ready = ready;
          counted = counted_since;
          keeps = keeps_since;
        }

-- ---- all of them

pub takes_all : (tells : Type 0) (set : Setting) (before now : ℕ) (old new : List DiskSeen) (views : List (Option Viewing)) (slots : List Slot) (shares : List Share) (logs : List (Option Keeping)) → logs ≡ map log_of slots → TakesSome tells set before now old new views slots shares
    → TakesAll tells set before now old new views (record { logs = logs; shares = shares })
takes_all tells set before now old new views slots shares logs are some = record {
  slots = slots;
  logs = are;
  chosen = some.chosen;
  home = some.home;
  numbered = some.numbered;
  each = some.each;
  once = some.once;
}

pub logs_ready : (tells : Type 0) (set : Setting) (before now : ℕ) (old new : List DiskSeen) (views : List (Option Viewing)) (slots : List Slot) (shares : List Share) (logs : List (Option Keeping)) → logs ≡ map log_of slots → TakesSome tells set before now old new views slots shares → AreReady tells logs new
logs_ready tells set before now old new views slots shares logs are some = record {
  each = λ peer keeping is. by peer keeping (slot_at slots peer) refl (sym (log_slot slots peer) ∙ ap (λ ls. log_at ls peer) (sym are) ∙ is);
}
  where
    none_is : (keeping : Keeping) → None ≡ Some keeping → ⊥
    none_is keeping e = cc e

    some_is : (x y : Keeping) → Some x ≡ Some y → x ≡ y
    some_is x y e = cc e

    by : (peer : ℕ) (keeping : Keeping) (slot : Slot) → slot_at slots peer ≡ slot → log_of slot ≡ Some keeping → IsReady tells keeping ((seen_at new peer).size keeping.log.side) (seen_at new peer).stands
    by peer keeping Aside e is = absurd (none_is keeping is)
    by peer keeping (Viewed view) e is = absurd (none_is keeping is)
    by peer keeping (Equal view) e is = absurd (none_is keeping is)
    by peer keeping (Kept log) e is = subst (λ (k : Keeping). IsReady tells k ((seen_at new peer).size k.log.side) (seen_at new peer).stands) (some_is log keeping is) (some.ready peer log e)
