-- Taking the log of one disk.
use Rattle.std.proofs.Common.{◌≡◌, ◌∙◌, ap, sym, ℕ, ◌+◌, ◌<◌, ◌≤◌, ◌==◌, ◌&&◌, ◌||◌, Bool, true, false, cond, List, [], ◌∷◌, Option, Some, None, is_some, IsSome, refl, arith, inl, inr, if◌then◌else◌}
use Rattle.std.proofs.lemmas.Bool.Decides.{eqb_tells}
use Rattle.std.specs.List.{list_any, range_with_len}
use Rattle.std.specs.Prelude.{Result, Err, zero, suc}
use Rattle.hs_entry.specs.declared.entry.Entry.TheVariants as kind
use Rattle.hs_entry.specs.declared.rank.Rank.{Rank}
use Rattle.hs_entry.specs.Entries.{rank_of}
use Rattle.hs_fold.specs.Shards.Setting.{Numbered}
use Rattle.hs_limits.specs.declared.shape.Shape.{Shape}
use Rattle.hs_limits.specs.Shape.{peer_of}
use Rattle.hs_peerlog.proofs.ImageLemmas.{Since}
use Rattle.hs_peerlog.proofs.StayLemmas.{stays}
use Rattle.hs_peerlog.specs.Caused.{IsOutside}
use Rattle.hs_peerlog.specs.declared.fault.LogFault.{LogFault}
use Rattle.hs_peerlog.specs.declared.fault.LogFault.TheVariants.{NotALog, WrongShape, Disk, NoMemory}
use Rattle.hs_peerlog.specs.Images.{Is}
use Rattle.hs_peerlog.specs.Views.{HasView, Viewing}
use Rattle.hs_ports.specs.Fault.{HasRisen, IsCausedBy}
use Rattle.hs_shard.specs.Facts.{Catalogue}
use Rattle.hs_side.specs.Current.{list_in}
use Rattle.hs_taking.proofs.NameLemmas.{pick_blank, pick_log, pick_ranked, name_told}
use Rattle.hs_taking.proofs.PastLemmas.{past_still}
use Rattle.hs_taking.specs.Copies.{IsOf}
use Rattle.hs_taking.specs.declared.loading.Loaded.{Loaded}
use Rattle.hs_taking.specs.declared.shares.Share.{Share}
use Rattle.hs_taking.specs.declared.slot.Slot.{Slot}
use Rattle.hs_taking.specs.declared.slot.Slot.TheVariants.{Aside, Viewed, Equal, Kept}
use Rattle.hs_taking.specs.Disks.{DiskSeen, seen_at}
use Rattle.hs_taking.specs.Evens.{AreEvened, IsFresh, TakesView, has_kept, log_of}
use Rattle.hs_taking.specs.Loaded.{IsLoaded, is_memory}
use Rattle.hs_taking.specs.Shares.{KeepsDisk}
use Rattle.hs_taking.specs.Slots.{slot_at}
use Rattle.hs_taking.specs.Viewed.{IsViewOf}

none_is_not : {A : Type 0} (x : A) → None ≡ Some x → ⊥
none_is_not x e = cc e

false_is_not : false ≡ true → ⊥
false_is_not e = cc e

some_is : {A : Type 0} (x y : A) → Some x ≡ Some y → x ≡ y
some_is x y e = cc

pub still_kept : (tells : Type 0) (now : ℕ) (disk : DiskSeen) → (tells → Since disk.stands) → KeepsDisk tells now now disk disk
still_kept tells now disk since = record {
  moments = λ told last list leaves. stays disk.stands now list (Is list) last (since told) leaves refl;
  past = λ told last. past_still now now disk.stands (omega arith) last;
  counted = omega arith;
}

-- the list that a disk reads as
listed_of : (o : Option Numbered) → IsSome o → (list : Numbered) × (o ≡ Some list)
listed_of None h = cc h
listed_of (Some list) h = (list, refl)

-- ---- a list of some rank

pub empty_rank : record { view = 0; number = 0 } ≡ rank_of []
unfolding rank_of
empty_rank = refl

abbrev stand_in : Rank → Numbered
stand_in rank = (rank.number, kind.View rank.view) ∷ []

-- a list of this rank: the one that is read, where it is one
pub pick : Option Numbered → Rank → Numbered
pick None rank = stand_in rank
pick (Some list) rank = if (rank_of list).view == rank.view && (rank_of list).number == rank.number then list else stand_in rank

stand_in_rank : (rank : Rank) → rank_of (stand_in rank) ≡ rank
unfolding rank_of
stand_in_rank rank = refl

rank_same : (a b : Rank) → a.view ≡ b.view → a.number ≡ b.number → a ≡ b
rank_same a b view number = ap (λ (v : ℕ). record { view = v; number = a.number }) view ∙ ap (λ (n : ℕ). record { view = b.view; number = n }) number

pub pick_rank : (read : Option Numbered) (rank : Rank) → rank_of (pick read rank) ≡ rank
unfolding pick
pick_rank None rank = stand_in_rank rank
pick_rank (Some list) rank = elim (eqb_tells (rank_of list).view rank.view) [
  | inr differ ↦ ap (λ b. rank_of (cond (b && (rank_of list).number == rank.number) list (stand_in rank))) differ.0 ∙ stand_in_rank rank
  | inl view ↦ elim (eqb_tells (rank_of list).number rank.number) [
    | inl number ↦ ap (λ b. rank_of (cond (b && (rank_of list).number == rank.number) list (stand_in rank))) view.0 ∙ ap (λ b. rank_of (cond (true && b) list (stand_in rank))) number.0 ∙ rank_same (rank_of list) rank view.1 number.1
    | inr differ ↦ ap (λ b. rank_of (cond (b && (rank_of list).number == rank.number) list (stand_in rank))) view.0 ∙ ap (λ b. rank_of (cond (true && b) list (stand_in rank))) differ.0 ∙ stand_in_rank rank
  ]
]

pub pick_is : (list : Numbered) (rank : Rank) → rank ≡ rank_of list → pick (Some list) rank ≡ list
unfolding pick
pick_is list rank is = elim (eqb_tells (rank_of list).view rank.view) [
  | inr differ ↦ absurd (differ.1 (ap (λ (r : Rank). r.view) (sym is)))
  | inl view ↦ elim (eqb_tells (rank_of list).number rank.number) [
    | inl number ↦ ap (λ b. cond (b && (rank_of list).number == rank.number) list (stand_in rank)) view.0 ∙ ap (λ b. cond (true && b) list (stand_in rank)) number.0
    | inr differ ↦ absurd (differ.1 (ap (λ (r : Rank). r.number) (sym is)))
  ]
]

-- of a view the list that its disk reads as, where it tells that
pub pick_told : (tells : Type 0) (shape : Shape) (peer : ℕ) (disk : DiskSeen) (view : Viewing) → IsViewOf tells shape peer disk view → tells → list_in disk.stands.seen ≡ Some (pick (list_in disk.stands.seen) view.rank)
pick_told tells shape peer disk view viewed told =
    let l = listed_of (list_in disk.stands.seen) (viewed.listed told) in
    l.1 ∙ ap (λ x. Some x) (sym (pick_is l.0 view.rank (viewed.has told l.0 l.1).rank)) ∙ ap (λ o. Some (pick o view.rank)) (sym l.1)

-- ---- whether a log of a shard is kept

any_none : (p : ℕ → Bool) (from n : ℕ) → ((k : ℕ) → from ≤ k → k < from + n → p k ≡ false) → list_any p (range_with_len from n) ≡ false
any_none p from zero none = refl
any_none p from (suc n) none =
    ap (λ b. b || list_any p (range_with_len (from + 1) n)) (none from (omega arith) (omega arith)) ∙ any_none p (from + 1) n (λ k low high. none k (omega (arith, low)) (omega (arith, high)))

fresh_none : (slot : Slot) → IsFresh slot → is_some (log_of slot) ≡ false
fresh_none Aside fresh = refl
fresh_none (Viewed view) fresh = refl
fresh_none (Equal view) fresh = refl
fresh_none (Kept log) fresh = absurd fresh

pub none_kept : (shape : Shape) (shard : ℕ) (slots : List Slot) → ((peer : ℕ) → IsOf shape shard peer → IsFresh (slot_at slots peer)) → has_kept shape slots shard ≡ false
none_kept shape shard slots fresh = any_none (λ k. is_some (log_of (slot_at slots k))) (peer_of shape shard 0) shape.copies (λ k low high. fresh_none (slot_at slots k) (fresh k (record { from = low; to = high })))

-- of the first one none is kept
pub any_less : (p : ℕ → Bool) (from next n m : ℕ) → next ≡ from + 1 → n ≡ suc m → p from ≡ false → list_any p (range_with_len from n) ≡ list_any p (range_with_len next m)
any_less p from next n m after more none = ap (λ k. list_any p (range_with_len from k)) more ∙ ap (λ b. b || list_any p (range_with_len (from + 1) m)) none ∙ ap (λ k. list_any p (range_with_len k m)) (sym after)

pub any_here : (p : ℕ → Bool) (from n m : ℕ) → n ≡ suc m → p from ≡ true → list_any p (range_with_len from n) ≡ true
any_here p from n m more some = ap (λ k. list_any p (range_with_len from k)) more ∙ ap (λ b. b || list_any p (range_with_len (from + 1) m)) some

-- ---- what a shard opens with

module _ (tells : Type 0) (fold : Numbered → Catalogue) (shape : Shape) (shard from before now : ℕ) (old new : List DiskSeen) (slots slots' : List Slot) (view : Viewing) (share : Share)
    (viewed : IsViewOf tells shape from (seen_at old from) view) (took : share.took ≡ Some view.rank.number) (copies : AreEvened tells shape shard from before now old new slots slots' share.lost) where
  -- its taken log was lost as it was loaded
  pub lost_takes : has_kept shape slots' shard ≡ false → share.catalogue ≡ fold [] → share.rank ≡ record { view = 0; number = 0 } → TakesView tells fold shape shard from before now old new slots slots' view share
  lost_takes none catalogue rank = record {
    log = log;
    ranked = pick_ranked (list_in (seen_at old from).stands.seen) view.rank;
    blank = pick_blank (list_in (seen_at old from).stands.seen) view.rank;
    told = λ told.
        let l = listed_of (list_in (seen_at old from).stands.seen) (viewed.listed told) in
        let has = viewed.has told l.0 l.1 in
        name_told (list_in (seen_at old from).stands.seen) view.rank l.0 l.1 has.numbered has.rank;
    took = took ∙ ap (λ (r : Rank). Some r.number) (sym (pick_ranked (list_in (seen_at old from).stands.seen) view.rank));
    catalogue = catalogue ∙ ap (λ (b : Bool). fold (if b then log else [])) (sym none);
    rank = rank ∙ empty_rank ∙ ap (λ (b : Bool). rank_of (if b then log else [])) (sym none);
    copies = copies;
  }
    where
      log : Numbered
      log = pick_log (list_in (seen_at old from).stands.seen) view.rank

  -- it was loaded
  module _ (loaded : Loaded) (is : IsLoaded tells fold (HasView view (seen_at old from).stands.seen) loaded) (ranked : loaded.rank ≡ view.rank) where
    list_told : tells → list_in (seen_at old from).stands.seen ≡ Some is.list
    list_told told = let l = listed_of (list_in (seen_at old from).stands.seen) (viewed.listed told) in l.1 ∙ ap (λ x. Some x) (sym (is.told told l.0 (viewed.has told l.0 l.1)))

    pub view_takes : (kept : Bool) → has_kept shape slots' shard ≡ kept → share.catalogue ≡ (if kept then loaded.catalogue else fold []) → share.rank ≡ (if kept then loaded.rank else record { view = 0; number = 0 }) → TakesView tells fold shape shard from before now old new slots slots' view share
    view_takes true kept catalogue rank = record {
      log = is.list;
      ranked = sym is.rank ∙ ranked;
      blank = λ zeros. is.blank (ap (λ (r : Rank). r.number) (is.rank ∙ zeros));
      told = list_told;
      took = took ∙ ap (λ (r : Rank). Some r.number) (sym ranked ∙ is.rank);
      catalogue = catalogue ∙ is.catalogue ∙ ap (λ (b : Bool). fold (if b then is.list else [])) (sym kept);
      rank = rank ∙ is.rank ∙ ap (λ (b : Bool). rank_of (if b then is.list else [])) (sym kept);
      copies = copies;
    }
    view_takes false kept catalogue rank = record {
      log = is.list;
      ranked = sym is.rank ∙ ranked;
      blank = λ zeros. is.blank (ap (λ (r : Rank). r.number) (is.rank ∙ zeros));
      told = list_told;
      took = took ∙ ap (λ (r : Rank). Some r.number) (sym ranked ∙ is.rank);
      catalogue = catalogue ∙ ap (λ (b : Bool). fold (if b then is.list else [])) (sym kept);
      rank = rank ∙ empty_rank ∙ ap (λ (b : Bool). rank_of (if b then is.list else [])) (sym kept);
      copies = copies;
    }

-- ---- why it was lost

abbrev failed : {T : Type 0} → LogFault → Result T LogFault
failed fault = Err fault

-- a disk that tells its contents was lost only where it failed
pub lost_rises : {T : Type 0} (tells : Type 0) (shape : Shape) (peer : ℕ) (disk : DiskSeen) (view : Viewing) (before now : ℕ) (fault : LogFault) → IsViewOf tells shape peer disk view → is_memory fault ≡ false
    → (tells → (list : Numbered) → HasView view disk.stands.seen list → IsOutside fault) → IsCausedBy Disk before now (failed {T = T} fault) → tells → HasRisen before now
lost_rises {T = T} tells shape peer disk view before now fault viewed some outside cause told = go fault (outside told l.0 (viewed.has told l.0 l.1)) some cause
  where
    l : (list : Numbered) × (list_in disk.stands.seen ≡ Some list)
    l = listed_of (list_in disk.stands.seen) (viewed.listed told)

    go : (f : LogFault) → IsOutside f → is_memory f ≡ false → IsCausedBy Disk before now (failed {T = T} f) → HasRisen before now
    go (NotALog at) out not c = absurd out
    go (WrongShape found) out not c = absurd out
    go Disk out not c = c.failed refl
    go NoMemory out not c = cc not
