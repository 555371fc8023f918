-- The logs of a shard's copies are recovered, or made equal to the taken one, one after another.
use Rattle.std.proofs.Common.{◌≡◌, ◌≢◌, ◌∙◌, ap, sym, subst, inl, inr, ℕ, ◌+◌, ◌<◌, ◌≤◌, Bool, true, false, List, length, map, None, Some, refl, arith}
use Rattle.std.proofs.lemmas.Bool.{cases_eq, cases_lt}
use Rattle.std.proofs.lemmas.List.{get_or-set_same, get_or-set_other}
use Rattle.std.specs.Prelude.{IsSome, Result, slice_index_or, slice_set}
use Rattle.hs_fold.specs.Shards.Setting.{Numbered}
use Rattle.hs_limits.specs.declared.shape.Shape.{Shape}
use Rattle.hs_limits.specs.Shape.{peer_of}
use Rattle.hs_peerlog.proofs.ImageLemmas.{Since}
use Rattle.hs_peerlog.proofs.StayLemmas.{all-each}
use Rattle.hs_peerlog.specs.Images.{LeavesEach, LeavesOnly}
use Rattle.hs_peerlog.specs.Opening.{refusal_in}
use Rattle.hs_peerlog.specs.Lists.{IsKept, IsReady, Keeping, KeepsSome}
use Rattle.hs_peerlog.specs.Views.{HasView, Viewing}
use Rattle.hs_ports.specs.Disk.{Standing}
use Rattle.hs_ports.specs.Fault.{HasRisen}
use Rattle.hs_side.specs.Current.{list_in}
use Rattle.hs_side.specs.Standing.{HasBytes, HasRoom}
use Rattle.hs_taking.proofs.DiskLemmas.{seen_here, seen_is}
use Rattle.hs_taking.proofs.EvenLemmas.{each_then}
use Rattle.hs_taking.proofs.KeepLemmas.{keeps_none}
use Rattle.hs_taking.proofs.PairLemmas.{still_none, still_then, viewed_still}
use Rattle.hs_taking.proofs.PastLemmas.{past_still, past_then, past_wait}
use Rattle.hs_taking.proofs.ShareLemmas.{keeps_before, keeps_wait, quiet}
use Rattle.hs_taking.specs.Copies.{IsOf, IsOwnOrFront}
use Rattle.hs_taking.specs.declared.slot.Slot.{Slot}
use Rattle.hs_taking.specs.declared.slot.Slot.TheVariants.{Aside, Viewed, Equal, Kept}
use Rattle.hs_taking.specs.declared.slot.Source.{Source}
use Rattle.hs_taking.specs.declared.slot.Source.TheVariants as source
use Rattle.hs_taking.specs.Disks.{DiskSeen, seen_at}
use Rattle.hs_taking.specs.declared.pair.PairFault.{PairFault}
use Rattle.hs_taking.specs.Pairs.{HasMadeEqual, IsStill}
use Rattle.hs_taking.specs.Shares.{KeepsDisk}
use Rattle.hs_taking.specs.Slots.{AreMade, HasMoved, IsGood, IsGoodView, IsKeptOr, IsMade, IsMoved, IsSlot, IsSource, IsSourceOf, IsSourceRun, IsSourceStep, is_lost, slot_at}
use Rattle.hs_taking.specs.Viewed.{IsViewOf}

-- ---- calls that come later

-- calls on a disk that had none for a while
pub each_before : {before mid now : ℕ} {b b' : Standing} {P : Numbered → Type 0} (own : Numbered) → P own → LeavesOnly b own → Since b → b.last ≤ before → before ≤ mid → LeavesEach mid now b b' P → LeavesEach before now b b' P
each_before {before} {mid} {now} {b} {b'} {P} own p leaves since last up run = each_then (all-each own P (quiet before mid b up last since) leaves p) run

pub moved_before : (tells : Type 0) (shape : Shape) (peer before mid now : ℕ) (b b' : DiskSeen) (view : Viewing) (P Q : Numbered → Type 0) → before ≤ mid → (tells → Since b.stands) → IsViewOf tells shape peer b view → ((list : Numbered) → tells → Q list → P list)
    → HasMoved tells mid now b b' P → HasMoved tells before now b b' Q
moved_before tells shape peer before mid now b b' view P Q up since viewed weak moved = record {
  moments = λ told last list q own e. each_before own (inl refl) (viewed.only told own e) (since told) last up (moved.moments told (omega (arith, last, up)) list (weak list told q) own e);
  past = λ told last. past_then before mid now b.stands b.stands b'.stands (past_still before mid b.stands up last) (moved.past told (omega (arith, last, up)));
  counted = moved.counted;
}

pub moved_none : (tells : Type 0) (shape : Shape) (peer before now : ℕ) (b : DiskSeen) (view : Viewing) (Q : Numbered → Type 0) → before ≤ now → (tells → Since b.stands) → IsViewOf tells shape peer b view → HasMoved tells before now b b Q
moved_none tells shape peer before now b view Q up since viewed = record {
  moments = λ told last list q own e. all-each own (IsOwnOrFront own list) (quiet before now b.stands up last (since told)) (viewed.only told own e) (inl refl);
  past = λ told last. past_still before now b.stands up last;
  counted = omega arith;
}

pub moved_wait : (tells : Type 0) (before mid now : ℕ) (b b' : DiskSeen) (Q : Numbered → Type 0) → mid ≤ now → HasMoved tells before mid b b' Q → HasMoved tells before now b b' Q
moved_wait tells before mid now b b' Q up moved = record {
  moments = λ told last list q own e. let run = moved.moments told last list q own e in record {
    later = omega (arith, run.later, up);
    last = omega (arith, run.last, up);
    earlier = run.earlier;
    each = run.each;
    standing = run.standing;
  };
  past = λ told last. past_wait before mid now b.stands b'.stands up (moved.past told last);
  counted = moved.counted;
}

-- by what was kept of the disk
pub is_moved_wait : (tells : Type 0) (before mid now : ℕ) (b b' : DiskSeen) (first : Source) (Q : Numbered → Type 0) (slot : Slot) → mid ≤ now → IsMoved tells before mid b b' first Q slot → IsMoved tells before now b b' first Q slot
is_moved_wait tells before mid now b b' first Q Aside up m = m
is_moved_wait tells before mid now b b' first Q (Viewed view) up m = (moved_wait tells before mid now b b' Q up m.0, m.1)
is_moved_wait tells before mid now b b' first Q (Equal view) up m = keeps_wait tells before mid now b b' up m
is_moved_wait tells before mid now b b' first Q (Kept log) up m = m

-- nothing was done
pub is_unmoved : (tells : Type 0) (shape : Shape) (peer before now : ℕ) (b b' : DiskSeen) (first : Source) (Q : Numbered → Type 0) (slot : Slot) → before ≤ now → (tells → Since b.stands) → IsSlot tells shape peer b slot → b' ≡ b → IsMoved tells before now b b' first Q slot
is_unmoved tells shape peer before now b b' first Q Aside up since is same = same
is_unmoved tells shape peer before now b b' first Q (Viewed view) up since is same = (subst (λ (s : DiskSeen). HasMoved tells before now b s Q) (sym same) (moved_none tells shape peer before now b view Q up since is), λ lost. same)
is_unmoved tells shape peer before now b b' first Q (Equal view) up since is same = subst (λ (s : DiskSeen). KeepsDisk tells before now b s) (sym same) (keeps_wait tells before before now b b up (keeps_none tells before b since))
is_unmoved tells shape peer before now b b' first Q (Kept log) up since is same = same

-- ---- the taken log

lost_not : false ≡ true → ⊥
lost_not e = cc e

-- what it has it had, or it is lost
pub source_has : (tells : Type 0) (before mid : ℕ) (a a' : DiskSeen) (first now : Source) → IsStill tells a a' → IsSourceRun tells before mid a a' first now → is_lost now ≡ false → (list : Numbered) → tells → IsSourceOf first a list → IsSourceOf now a' list
source_has tells before mid a a' (source.Kept log) (source.Kept same) still run there list told has =
    subst (λ (k : Keeping). IsKept k (a'.stands.seen k.log.side) list None) (sym run.0) (subst (λ (d : Standing). IsKept log (d.seen log.log.side) list None) (sym (still.same told)) has)
source_has tells before mid a a' (source.Kept log) (source.Lost moment) still run there list told has = absurd (lost_not (sym there))
source_has tells before mid a a' (source.Lost moment) now still run there list told has = absurd has

pub source_run : (tells : Type 0) (before mid now : ℕ) (a c a' : DiskSeen) (first source later : Source) → before ≤ mid → mid ≤ now → a.faults ≤ c.faults → c.faults ≤ a'.faults → IsSourceRun tells before mid a c first source → IsSourceStep tells now c a' source later → IsSourceRun tells before now a a' first later
source_run tells before mid now a c a' (source.Kept log) (source.Kept same) (source.Kept more) up on lo hi run step = (step.0 ∙ run.0, step.1 ∙ run.1)
source_run tells before mid now a c a' (source.Kept log) (source.Kept same) (source.Lost moment) up on lo hi run step = let e = step.0 in (omega (arith, e, up, on), omega (arith, e), λ told. let r = step.1 told in omega (arith, r, lo))
source_run tells before mid now a c a' (source.Kept log) (source.Lost moment) (source.Kept more) up on lo hi run step = absurd step
source_run tells before mid now a c a' (source.Kept log) (source.Lost moment) (source.Lost same) up on lo hi run step = let e = step in let f = run.0 in let h = run.1 in (omega (arith, e, f), omega (arith, e, h, on), λ told. let r = run.2 told in omega (arith, r, hi))
source_run tells before mid now a c a' (source.Lost moment) (source.Kept same) later up on lo hi run step = absurd run
source_run tells before mid now a c a' (source.Lost moment) (source.Lost same) (source.Kept more) up on lo hi run step = absurd step
source_run tells before mid now a c a' (source.Lost moment) (source.Lost same) (source.Lost more) up on lo hi run step = step ∙ run

pub step_lost : (tells : Type 0) (now : ℕ) (c a' : DiskSeen) (source later : Source) → IsSourceStep tells now c a' source later → is_lost source ≡ true → is_lost later ≡ true
step_lost tells now c a' (source.Kept log) later step gone = absurd (lost_not gone)
step_lost tells now c a' (source.Lost moment) (source.Kept log) step gone = absurd step
step_lost tells now c a' (source.Lost moment) (source.Lost same) step gone = refl

pub run_lost : (tells : Type 0) (before mid : ℕ) (a c : DiskSeen) (first source : Source) → IsSourceRun tells before mid a c first source → is_lost first ≡ true → is_lost source ≡ true
run_lost tells before mid a c (source.Kept log) source run gone = absurd (lost_not gone)
run_lost tells before mid a c (source.Lost moment) (source.Kept log) run gone = absurd run
run_lost tells before mid a c (source.Lost moment) (source.Lost same) run gone = refl

-- ---- what is kept of a disk

good_before : (tells : Type 0) (before mid : ℕ) (b b' : DiskSeen) (P Q : Numbered → Type 0) (log : Keeping) → before ≤ mid → ((list : Numbered) → tells → Q list → P list) → IsGood tells mid b b' P log → IsGood tells before b b' Q log
good_before tells before mid b b' P Q log up weak good = record {
  ready = good.ready;
  calm = good.calm;
  has = λ told last list q. good.has told (omega (arith, last, up)) list (weak list told q);
}

-- from the moment of the call to that of the first one, and from what the taken log has now to what it had; where it was lost by then, nothing is kept
pub made_before : (tells : Type 0) (before mid : ℕ) (b b' : DiskSeen) (source later : Source) (P Q : Numbered → Type 0) (old new : Slot) → before ≤ mid → (is_lost source ≡ false → (list : Numbered) → tells → Q list → P list) → (is_lost source ≡ true → is_lost later ≡ true)
    → IsMade tells mid b b' source later P old new → IsMade tells before b b' source later Q old new
made_before tells before mid b b' source later P Q Aside new up weak lost made = made
made_before tells before mid b b' source later P Q (Kept log) new up weak lost made = made
made_before tells before mid b b' source later P Q (Equal view) Aside up weak lost made = made
made_before tells before mid b b' source later P Q (Equal view) (Viewed same) up weak lost made = made
made_before tells before mid b b' source later P Q (Equal view) (Equal same) up weak lost made = made
made_before tells before mid b b' source later P Q (Equal view) (Kept log) up weak lost made = record {
  good = good_before tells before mid b b' (λ list. list_in b.stands.seen ≡ Some list) (λ list. list_in b.stands.seen ≡ Some list) log up (λ list told e. e) made.good;
  sealed = made.sealed;
  reads = made.reads;
}
made_before tells before mid b b' source later P Q (Viewed view) Aside up weak lost made = made
made_before tells before mid b b' source later P Q (Viewed view) (Viewed same) up weak lost made = made
made_before tells before mid b b' source later P Q (Viewed view) (Equal same) up weak lost made = made
made_before tells before mid b b' source later P Q (Viewed view) (Kept log) up weak lost made = (go (is_lost source) refl, made.1)
  where
    not_kept : Kept log ≡ Aside → ⊥
    not_kept e = cc e

    go : (b0 : Bool) → is_lost source ≡ b0 → IsGood tells before b b' Q log
    go true e = absurd (not_kept (made.1 e))
    go false e = good_before tells before mid b b' P Q log up (weak e) made.0

made_first : (tells : Type 0) (before : ℕ) (b b' : DiskSeen) (source first later : Source) (Q : Numbered → Type 0) (old new : Slot) → (is_lost first ≡ true → is_lost source ≡ true) → IsMade tells before b b' source later Q old new → IsMade tells before b b' first later Q old new
made_first tells before b b' source first later Q Aside new up made = made
made_first tells before b b' source first later Q (Kept log) new up made = made
made_first tells before b b' source first later Q (Equal view) new up made = made
made_first tells before b b' source first later Q (Viewed view) new up made = (made.0, λ gone. made.1 (up gone))

made_later : (tells : Type 0) (before : ℕ) (b b' : DiskSeen) (first later last : Source) (Q : Numbered → Type 0) (old new : Slot) → (is_lost later ≡ true → is_lost last ≡ true) → IsMade tells before b b' first later Q old new → IsMade tells before b b' first last Q old new
made_later tells before b b' first later last Q Aside new up made = made
made_later tells before b b' first later last Q (Kept log) new up made = made
made_later tells before b b' first later last Q (Equal view) new up made = made
made_later tells before b b' first later last Q (Viewed view) Aside up made = (elim made.0 [ inl gone ↦ inl (up gone) | inr rose ↦ inr rose ], made.1)
made_later tells before b b' first later last Q (Viewed view) (Viewed same) up made = made
made_later tells before b b' first later last Q (Viewed view) (Equal same) up made = made
made_later tells before b b' first later last Q (Viewed view) (Kept log) up made = made

-- what stood aside does so whatever its disk
made_aside : (tells : Type 0) (before mid : ℕ) (b b' c c' : DiskSeen) (first later last : Source) (P Q : Numbered → Type 0) (old new : Slot) → old ≡ Aside → IsMade tells mid b b' first later P old new → IsMade tells before c c' first last Q old new
made_aside tells before mid b b' c c' first later last P Q old new is made =
    let here : new ≡ Aside = subst (λ (o : Slot). IsMade tells mid b b' first later P o new) is made in
    subst (λ (o : Slot). IsMade tells before c c' first last Q o new) (sym is) here

-- and what became of the disk: where the taken log was lost by then nothing was done
moved_from : (tells : Type 0) (shape : Shape) (peer before mid now : ℕ) (b b' : DiskSeen) (source first : Source) (P Q : Numbered → Type 0) (old : Slot) → before ≤ mid → mid ≤ now → (tells → Since b.stands) → IsSlot tells shape peer b old
    → (is_lost source ≡ false → (list : Numbered) → tells → Q list → P list) → (is_lost first ≡ true → is_lost source ≡ true) → IsMoved tells mid now b b' source P old → IsMoved tells before now b b' first Q old
moved_from tells shape peer before mid now b b' source first P Q Aside up on since is weak lost moved = moved
moved_from tells shape peer before mid now b b' source first P Q (Kept log) up on since is weak lost moved = moved
moved_from tells shape peer before mid now b b' source first P Q (Equal view) up on since is weak lost moved = keeps_before tells before mid now b b' up since moved
moved_from tells shape peer before mid now b b' source first P Q (Viewed view) up on since is weak lost moved = go (is_lost source) refl
  where
    go : (b0 : Bool) → is_lost source ≡ b0 → IsMoved tells before now b b' first Q (Viewed view)
    go true e = is_unmoved tells shape peer before now b b' first Q (Viewed view) (omega (arith, up, on)) since is (moved.1 e)
    go false e = (moved_before tells shape peer before mid now b b' view P Q up since is (weak e) moved.0, λ gone. moved.1 (lost gone))

-- ---- one after another

pub none_made : (tells : Type 0) (shape : Shape) (shard from now : ℕ) (disks : List DiskSeen) (slots : List Slot) (first : Source) → AreMade tells shape shard from (peer_of shape shard 0) now now disks disks slots slots first first
none_made tells shape shard from now disks slots first = record {
  each = λ peer home low. absurd (let f = home.from in omega (arith, f, low));
  moved = λ peer home low differs. absurd (let f = home.from in omega (arith, f, low));
  rest = λ peer high. refl;
  untouched = λ peer high differs. refl;
  outside = λ peer not. (refl, refl);
  still = still_none tells (seen_at disks from);
  source = same first;
}
  where
    same : (s : Source) → IsSourceRun tells now now (seen_at disks from) (seen_at disks from) s s
    same (source.Kept log) = (refl, refl)
    same (source.Lost moment) = refl

module _ (tells : Type 0) (shape : Shape) (shard from place before mid now : ℕ) (old cur new : List DiskSeen) (slots so_far : List Slot) (slot : Slot) (first source later : Source)
    (home : IsOf shape shard place) (from_home : IsOf shape shard from) (within : place < length so_far) (aside : slot_at slots from ≡ Aside) (up : before ≤ mid) (on : mid ≤ now)
    (since : (peer : ℕ) → tells → Since (seen_at old peer).stands) (is_slot : place ≢ from → IsSlot tells shape place (seen_at old place) (slot_at slots place))
    (inv : AreMade tells shape shard from place before mid old cur slots so_far first source)
    (moved : IsMoved tells mid now (seen_at cur place) (seen_at new place) source (IsSourceOf source (seen_at cur from)) (slot_at so_far place))
    (still : IsStill tells (seen_at cur from) (seen_at new from)) (rest : (peer : ℕ) → peer ≢ from → peer ≢ place → seen_at new peer ≡ seen_at cur peer) where
  abbrev P : Numbered → Type 0
  P = IsSourceOf source (seen_at cur from)

  abbrev Q : Numbered → Type 0
  Q = IsSourceOf first (seen_at old from)

  was : slot_at so_far place ≡ slot_at slots place
  was = inv.rest place (omega arith)

  weak : is_lost source ≡ false → (list : Numbered) → tells → Q list → P list
  weak there = source_has tells before mid (seen_at old from) (seen_at cur from) first source inv.still inv.source there

  gone : is_lost first ≡ true → is_lost source ≡ true
  gone = run_lost tells before mid (seen_at old from) (seen_at cur from) first source inv.source

  -- what became of each disk
  pub moved_here : place ≢ from → IsMoved tells before now (seen_at old place) (seen_at new place) first Q (slot_at slots place)
  moved_here differs =
      let b = inv.untouched place (omega arith) differs in
      moved_from tells shape place before mid now (seen_at old place) (seen_at new place) source first P Q (slot_at slots place) up on (since place) (is_slot differs) weak gone
      (subst (λ (s : DiskSeen). IsMoved tells mid now s (seen_at new place) source P (slot_at slots place)) b (subst (λ (s : Slot). IsMoved tells mid now (seen_at cur place) (seen_at new place) source P s) was moved))

  pub moved_there : (peer : ℕ) → IsOf shape shard peer → peer < place → peer ≢ from → IsMoved tells before now (seen_at old peer) (seen_at new peer) first Q (slot_at slots peer)
  moved_there peer of low differs =
      subst (λ (s : DiskSeen). IsMoved tells before now (seen_at old peer) s first Q (slot_at slots peer)) (sym (rest peer differs (λ same. omega (arith, same, low))))
      (is_moved_wait tells before mid now (seen_at old peer) (seen_at cur peer) first Q (slot_at slots peer) on (inv.moved peer of low differs))

  -- and of those that come after
  pub moved_after : (peer : ℕ) → place < peer → peer ≢ from → IsSlot tells shape peer (seen_at old peer) (slot_at slots peer) → IsMoved tells before now (seen_at old peer) (seen_at new peer) first Q (slot_at slots peer)
  moved_after peer high differs is =
      is_unmoved tells shape peer before now (seen_at old peer) (seen_at new peer) first Q (slot_at slots peer) (omega (arith, up, on)) (since peer) is
      (rest peer differs (λ same. omega (arith, same, high)) ∙ inv.untouched peer (omega (arith, high)) differs)

  pub moved_each : (peer : ℕ) → IsOf shape shard peer → peer ≢ from → IsSlot tells shape peer (seen_at old peer) (slot_at slots peer) → IsMoved tells before now (seen_at old peer) (seen_at new peer) first Q (slot_at slots peer)
  moved_each peer of differs is = elim (cases_eq peer place) [
    | inl same ↦ subst (λ p. IsMoved tells before now (seen_at old p) (seen_at new p) first Q (slot_at slots p)) (sym same) (moved_here (λ e. differs (same ∙ e)))
    | inr other ↦ elim (cases_lt peer place) [
      | inl low ↦ moved_there peer of low differs
      | inr high ↦ moved_after peer (omega (arith, high, other)) differs is
    ]
  ]

  pub still_here : IsStill tells (seen_at old from) (seen_at new from)
  still_here = still_then tells (seen_at old from) (seen_at cur from) (seen_at new from) inv.still still

  pub outside_here : (peer : ℕ) → (IsOf shape shard peer → ⊥) → seen_at new peer ≡ seen_at old peer
  outside_here peer not = rest peer (λ same. not (subst (λ p. IsOf shape shard p) (sym same) from_home)) (λ same. not (subst (λ p. IsOf shape shard p) (sym same) home)) ∙ (inv.outside peer not).1

  pub level_more : IsMade tells mid (seen_at cur place) (seen_at new place) source later P (slot_at so_far place) slot → IsSourceStep tells now (seen_at cur from) (seen_at new from) source later
      → AreMade tells shape shard from (place + 1) before now old new slots (slice_set so_far place slot) first later
  level_more made step = record {
    each = λ peer of low. elim (cases_eq peer place) [
      | inl same ↦ subst (λ p. IsMade tells before (seen_at old p) (seen_at new p) first later Q (slot_at slots p) (slot_at (slice_set so_far place slot) p)) (sym same) here
      | inr differs ↦ there peer of (omega (arith, low, differs)) differs
    ];
    moved = λ peer of low not_from. elim (cases_eq peer place) [
      | inl same ↦ subst (λ p. IsMoved tells before now (seen_at old p) (seen_at new p) first Q (slot_at slots p)) (sym same) (moved_here (λ e. not_from (same ∙ e)))
      | inr differs ↦ moved_there peer of (omega (arith, low, differs)) not_from
    ];
    rest = λ peer high. slot_there peer (λ same. omega (arith, same, high)) ∙ inv.rest peer (omega (arith, high));
    untouched = λ peer high differs. rest peer differs (λ same. omega (arith, same, high)) ∙ inv.untouched peer (omega (arith, high)) differs;
    outside = λ peer not. (slot_there peer (λ same. not (subst (λ p. IsOf shape shard p) (sym same) home)) ∙ (inv.outside peer not).0, outside_here peer not);
    still = still_here;
    source = source_run tells before mid now (seen_at old from) (seen_at cur from) (seen_at new from) first source later up on inv.still.counted still.counted inv.source step;
  }
    where
      slot_there : (peer : ℕ) → peer ≢ place → slot_at (slice_set so_far place slot) peer ≡ slot_at so_far peer
      slot_there peer differs = get_or-set_other so_far place peer slot Aside differs

      slot_here : slot_at (slice_set so_far place slot) place ≡ slot
      slot_here = get_or-set_same so_far place slot Aside within

      lost_on : is_lost source ≡ true → is_lost later ≡ true
      lost_on = step_lost tells now (seen_at cur from) (seen_at new from) source later step

      one : IsMade tells before (seen_at cur place) (seen_at new place) first later Q (slot_at slots place) slot
      one = made_first tells before (seen_at cur place) (seen_at new place) source first later Q (slot_at slots place) slot gone
          (made_before tells before mid (seen_at cur place) (seen_at new place) source later P Q (slot_at slots place) slot up weak lost_on (subst (λ (s : Slot). IsMade tells mid (seen_at cur place) (seen_at new place) source later P s slot) was made))

      here : IsMade tells before (seen_at old place) (seen_at new place) first later Q (slot_at slots place) (slot_at (slice_set so_far place slot) place)
      here = subst (λ (s : Slot). IsMade tells before (seen_at old place) (seen_at new place) first later Q (slot_at slots place) s) (sym slot_here) (elim (cases_eq place from) [
        | inl same ↦ made_aside tells before before (seen_at cur place) (seen_at new place) (seen_at old place) (seen_at new place) first later later Q Q (slot_at slots place) slot (ap (λ p. slot_at slots p) same ∙ aside) one
        | inr differs ↦ subst (λ (s : DiskSeen). IsMade tells before s (seen_at new place) first later Q (slot_at slots place) slot) (inv.untouched place (omega arith) differs) one
      ])

      there : (peer : ℕ) → IsOf shape shard peer → peer < place → peer ≢ place → IsMade tells before (seen_at old peer) (seen_at new peer) first later Q (slot_at slots peer) (slot_at (slice_set so_far place slot) peer)
      there peer of low differs =
          let s = made_later tells before (seen_at old peer) (seen_at cur peer) first source later Q (slot_at slots peer) (slot_at so_far peer) lost_on (inv.each peer of low) in
          subst (λ (x : Slot). IsMade tells before (seen_at old peer) (seen_at new peer) first later Q (slot_at slots peer) x) (sym (slot_there peer differs)) (elim (cases_eq peer from) [
            | inl same ↦ made_aside tells before before (seen_at old peer) (seen_at cur peer) (seen_at old peer) (seen_at new peer) first later later Q Q (slot_at slots peer) (slot_at so_far peer) (ap (λ p. slot_at slots p) same ∙ aside) s
            | inr other ↦ subst (λ (x : DiskSeen). IsMade tells before (seen_at old peer) x first later Q (slot_at slots peer) (slot_at so_far peer)) (sym (rest peer other differs)) s
          ])

-- ---- as the loop goes on

pub ready_still : (tells : Type 0) (keeping : Keeping) (a b : DiskSeen) → IsStill tells a b → IsReady tells keeping (a.size keeping.log.side) a.stands → IsReady tells keeping (b.size keeping.log.side) b.stands
ready_still tells keeping a b still ready = record {
  stands = record {
    room = subst (λ n. HasRoom keeping.log n) (sym (still.size keeping.log.side)) ready.stands.room;
    told = λ told. subst (λ (d : Standing). HasBytes 0xa5 keeping.log (d.seen keeping.log.side) (d.loose keeping.log.side)) (sym (still.same told)) (ready.stands.told told);
  };
  begun = ready.begun;
  waits = ready.waits;
  counted = ready.counted;
  next = ready.next;
  told = λ told. subst (λ (d : Standing). KeepsSome keeping (d.seen keeping.log.side)) (sym (still.same told)) (ready.told told);
}

pub source_ready : (tells : Type 0) (now : ℕ) (c a' : DiskSeen) (source later : Source) → IsStill tells c a' → IsSourceStep tells now c a' source later → IsSource tells c source → IsSource tells a' later
source_ready tells now c a' (source.Kept log) (source.Kept same) still step is =
    (subst (λ (k : Keeping). IsReady tells k (a'.size k.log.side) a'.stands) (sym step.0) (ready_still tells log c a' still is.0), ap (λ (k : Keeping). k.waits) step.0 ∙ is.1)
source_ready tells now c a' (source.Kept log) (source.Lost moment) still step is = tt
source_ready tells now c a' (source.Lost moment) (source.Kept log) still step is = absurd step
source_ready tells now c a' (source.Lost moment) (source.Lost same) still step is = tt

pub level_slot : (tells : Type 0) (shape : Shape) (shard from place before mid : ℕ) (old cur : List DiskSeen) (slots so_far : List Slot) (first source : Source) (slot : Slot) → AreMade tells shape shard from place before mid old cur slots so_far first source → slot ≡ slot_at so_far place → place ≢ from
    → IsSlot tells shape place (seen_at old place) (slot_at slots place) → IsSlot tells shape place (seen_at cur place) slot
level_slot tells shape shard from place before mid old cur slots so_far first source slot inv at differs is =
    subst (λ (s : Slot). IsSlot tells shape place (seen_at cur place) s) (sym (inv.rest place (omega arith)) ∙ sym at)
    (subst (λ (d : DiskSeen). IsSlot tells shape place d (slot_at slots place)) (sym (inv.untouched place (omega arith) differs)) is)

-- what was made equal to the taken log
pub made_moves : (tells : Type 0) (before now : ℕ) (a a' b b' : DiskSeen) (log : Keeping) (r : Result Keeping PairFault) (taken : Source) → HasMadeEqual tells before now a a' b b' log r → taken ≡ source.Kept log → HasMoved tells before now b b' (IsSourceOf taken a)
made_moves tells before now a a' b b' log r taken made is = subst (λ (s : Source). HasMoved tells before now b b' (IsSourceOf s a)) (sym is) (record { moments = made.moments; past = made.past; counted = made.counted })

-- a view whose peer is not that of the taken log
pub slot_apart : (place from : ℕ) (slot held : Slot) → (place ≡ from → slot ≡ Aside) → held ≡ slot → (held ≡ Aside → ⊥) → place ≢ from
slot_apart place from slot held apart is some same = some (is ∙ apart same)

pub view_apart : (tells : Type 0) (shape : Shape) (peer place from : ℕ) (disk : DiskSeen) (slot held : Slot) → (place ≡ from → slot ≡ Aside) → (place ≢ from → IsSlot tells shape peer disk slot) → held ≡ slot → (held ≡ Aside → ⊥) → IsSlot tells shape peer disk held
view_apart tells shape peer place from disk slot held apart viewed is some = subst (λ (s : Slot). IsSlot tells shape peer disk s) (sym is) (viewed (slot_apart place from slot held apart is some))

pub view_still : (tells : Type 0) (shape : Shape) (peer : ℕ) (a b : DiskSeen) (view : Viewing) → IsStill tells a b → IsViewOf tells shape peer a view → IsViewOf tells shape peer b view
view_still tells shape peer a b view still viewed =
    let now = viewed_still tells view a b still viewed.viewed in
    record {
      stands = now.stands;
      viewed = now;
      listed = λ told. subst (λ (d : Standing). IsSome (list_in d.seen)) (sym (still.same told)) (viewed.listed told);
      has = λ told. subst (λ (d : Standing). (list : Numbered) → list_in d.seen ≡ Some list → HasView view d.seen list) (sym (still.same told)) (viewed.has told);
      accepted = λ told. subst (λ (d : Standing). refusal_in shape peer d.seen ≡ None) (sym (still.same told)) (viewed.accepted told);
      only = λ told. subst (λ (d : Standing). (list : Numbered) → list_in d.seen ≡ Some list → LeavesOnly d list) (sym (still.same told)) (viewed.only told);
    }

pub step_none : (tells : Type 0) (now : ℕ) (a a' : DiskSeen) (held : Source) → a' ≡ a → IsSourceStep tells now a a' held held
step_none tells now a a' (source.Kept log) same = (refl, ap (λ (d : DiskSeen). d.faults) same)
step_none tells now a a' (source.Lost moment) same = refl

pub still_same : (tells : Type 0) (a a' : DiskSeen) → a' ≡ a → IsStill tells a a'
still_same tells a a' same = subst (λ (d : DiskSeen). IsStill tells a d) (sym same) (still_none tells a)

-- a view that was found equal was recovered, on its own disk
module _ {A : Type 0} (f : A → DiskSeen) (tells : Type 0) (before now place from : ℕ) (disks : List A) (x d : A) (low : place < length disks) (view : Viewing) (slot : Slot) (is : slot ≡ Equal view) where
  abbrev next : List DiskSeen
  next = map f (slice_set disks place x)

  both : (R : DiskSeen → DiskSeen → Type 0) → R (f (slice_index_or disks place d)) (f x) → R (seen_at (map f disks) place) (seen_at next place)
  both R h = subst (λ (s : DiskSeen). R s (seen_at next place)) (sym (seen_is f disks place d low)) (subst (λ (s : DiskSeen). R (f (slice_index_or disks place d)) s) (sym (seen_here f disks place x low)) h)

  pub equal_moved : (first : Source) (Q : Numbered → Type 0) → KeepsDisk tells before now (f (slice_index_or disks place d)) (f x) → IsMoved tells before now (seen_at (map f disks) place) (seen_at next place) first Q slot
  equal_moved first Q keeps = subst (λ (s : Slot). IsMoved tells before now (seen_at (map f disks) place) (seen_at next place) first Q s) (sym is) (both (λ a b. KeepsDisk tells before now a b) keeps)

  pub equal_made : (first last : Source) (Q : Numbered → Type 0) (new : Slot) → IsKeptOr (IsGoodView tells before (f (slice_index_or disks place d)) (f x)) (tells → HasRisen (f (slice_index_or disks place d)).faults (f x).faults) new
      → IsMade tells before (seen_at (map f disks) place) (seen_at next place) first last Q slot new
  equal_made first last Q new kept = subst (λ (s : Slot). IsMade tells before (seen_at (map f disks) place) (seen_at next place) first last Q s new) (sym is)
      (both (λ a b. IsKeptOr (IsGoodView tells before a b) (tells → HasRisen a.faults b.faults) new) kept)
