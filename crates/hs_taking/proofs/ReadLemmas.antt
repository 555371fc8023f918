-- From what was taken of a store to what it opens with.
use Rattle.std.proofs.Common.{◌≡◌, ◌≢◌, ◌∙◌, ◌⊎◌, ap, sym, subst, inl, inr, ℕ, ◌+◌, ◌<◌, ◌≤◌, ◌==◌, ◌&&◌, Bool, true, false, not, cond, List, [], length, map, Option, Some, None, is_some, refl, arith, if◌then◌else◌, unwrap_or}
use Rattle.std.proofs.lemmas.Bool.{cases_eq}
use Rattle.std.proofs.lemmas.Bool.Decides.{eqb_tells}
use Rattle.std.specs.Option.{option_map}
use Rattle.std.specs.Prelude.{IfSome, slice_index_or}
use Rattle.hs_entry.specs.Entries.{rank_of}
use Rattle.hs_fold.specs.Shards.Setting.{Numbered, Setting}
use Rattle.hs_limits.specs.declared.shape.Shape.{Shape}
use Rattle.hs_limits.specs.Shape.{peer_of}
use Rattle.hs_memory.specs.Forget.{apply_all}
use Rattle.hs_peerlog.proofs.ImageLemmas.{Since}
use Rattle.hs_peerlog.proofs.StayLemmas.{then-each}
use Rattle.hs_peerlog.specs.Images.{IsStanding, LeavesAll, LeavesOnly}
use Rattle.hs_peerlog.specs.Lists.{HasLog, IsKept, Keeping}
use Rattle.hs_peerlog.specs.Views.{Viewing}
use Rattle.hs_ports.proofs.Images.{settled_image}
use Rattle.hs_ports.specs.declared.disk.Side.{Side}
use Rattle.hs_ports.specs.Disk.{IsImage, Standing, settled}
use Rattle.hs_ports.specs.Fault.{HasRisen}
use Rattle.hs_shard.specs.Facts.{empty_catalogue}
use Rattle.hs_side.specs.Current.{list_in}
use Rattle.hs_taking.proofs.CarryLemmas.{any_same}
use Rattle.hs_taking.proofs.EvenLemmas.{each_weak}
use Rattle.hs_taking.proofs.FirstLemmas.{is_first}
use Rattle.hs_taking.proofs.KeepLemmas.{keeps_read, keeps_then}
use Rattle.hs_taking.proofs.LevelLemmas.{still_same}
use Rattle.hs_taking.proofs.PastLemmas.{past_all, past_then}
use Rattle.hs_taking.proofs.MovedLemmas.{taken_moved}
use Rattle.hs_taking.proofs.OpeningLemmas.{leaves_all}
use Rattle.hs_taking.proofs.PickLemmas.{picked, picked_none, picked_own, picked_ranked, picked_some}
use Rattle.hs_taking.proofs.RunLemmas.{log_slot, view_slot, views_stand}
use Rattle.hs_taking.proofs.ShardLemmas.{still_keeps}
use Rattle.hs_taking.proofs.TakeLemmas.{pick, pick_told}
use Rattle.hs_taking.specs.Copies.{HasShard, IsCopy, IsFirst, IsOf, IsOwnOrFront, KeepsCopy, begun_list, is_kept}
use Rattle.hs_taking.specs.declared.shares.Share.{Share}
use Rattle.hs_taking.specs.declared.slot.Slot.{Slot}
use Rattle.hs_taking.specs.declared.slot.Slot.TheVariants.{Aside, Viewed, Equal, Kept}
use Rattle.hs_taking.specs.Disks.{DiskSeen, log_at, seen_at}
use Rattle.hs_taking.specs.Evens.{HaveMoved, IsEvened, IsEvenedAs, IsTaken, TakesFrom, TakesNone, TakesView, chosen_peer, has_kept, log_of, slot_of}
use Rattle.hs_taking.specs.Pairs.{IsStill}
use Rattle.hs_taking.specs.Shares.{KeepsDisk, Span, Taken, share_at}
use Rattle.hs_taking.specs.Slots.{slot_at}
use Rattle.hs_taking.specs.Viewed.{HasViewed, IsOnlyRead, IsUnread, IsViewed, IsViewOf}

risen_then : (a b c : ℕ) → HasRisen a b → b ≤ c → HasRisen a c
risen_then a b c h low = omega (arith, h, low)

then_risen : (a b c : ℕ) → a ≤ b → HasRisen b c → HasRisen a c
then_risen a b c low h = omega (arith, h, low)

pub leaves_read : (before mid : ℕ) (old via : Standing) (list : Numbered) → LeavesAll before mid old via → LeavesOnly old list → LeavesOnly via list
leaves_read before mid old via list all leaves image left = leaves image (record { sides = λ s. all.standing s (image s) (left.sides s) })

abbrev empty_list : Numbered
empty_list = []

not_some : false ≡ true → ⊥
not_some e = cc e

none_log : (keeping : Keeping) → None ≡ Some keeping → ⊥
none_log keeping e = cc e

slot_kept : (slot : Slot) (keeping : Keeping) → log_of slot ≡ Some keeping → slot ≡ Kept keeping
slot_kept Aside keeping e = absurd (none_log keeping e)
slot_kept (Viewed view) keeping e = absurd (none_log keeping e)
slot_kept (Equal view) keeping e = absurd (none_log keeping e)
slot_kept (Kept log) keeping e = ap (λ k. Kept k) (some_log log keeping e)
  where
    some_log : (x y : Keeping) → Some x ≡ Some y → x ≡ y
    some_log x y e = cc e

keeping_of : (o : Option Keeping) → is_some o ≡ true → (keeping : Keeping) × (o ≡ Some keeping)
keeping_of None e = cc e
keeping_of (Some keeping) e = (keeping, refl)

-- a peer whose log is not in use though the taken one was not lost counts as having none: its disk failed
abbrev pub put_out : Option Keeping → Bool → Option Numbered → Option Numbered
put_out (Some keeping) lost log = log
put_out None true log = log
put_out None false log = None

never_list : (list : Numbered) → None ≡ Some list → ⊥
never_list list e = cc e

one_list : (x y : Numbered) → Some x ≡ Some y → x ≡ y
one_list x y e = cc e

put_none : (o : Option Keeping) (lost : Bool) → put_out o lost None ≡ None
put_none (Some keeping) lost = refl
put_none None true = refl
put_none None false = refl

put_some : (o : Option Keeping) (lost : Bool) (log : Option Numbered) (list : Numbered) → put_out o lost log ≡ Some list → log ≡ Some list
put_some (Some keeping) lost log list e = e
put_some None true log list e = e
put_some None false log list e = cc e

-- ---- one peer

keeps_copy : (tells : Type 0) (before now : ℕ) (old new : DiskSeen) (taken : Numbered) → KeepsDisk tells before now old new → KeepsCopy tells before now old new taken
keeps_copy tells before now old new taken keeps = record {
  moments = λ told last own leaves. each_weak (λ l same. inl same) (keeps.moments told last own leaves);
  past = keeps.past;
  counted = keeps.counted;
}

module _ (tells : Type 0) (shape : Shape) (peer before mid now : ℕ) (old via new : DiskSeen) (taken : Numbered) (lost : Option ℕ) (read : IsOnlyRead tells before mid old via) where
  seen_same : tells → list_in via.stands.seen ≡ list_in old.stands.seen
  seen_same told =
      let same : via.stands.seen ≡ old.stands.seen = λ i side. read.seen told side i in
      ap (λ (s : Side → List ℕ). list_in s) same

  pub keeps_from : KeepsDisk tells mid now via new → KeepsDisk tells before now old new
  keeps_from keeps = keeps_then tells before mid now old via new (keeps_read tells before mid old via read) keeps

  -- it has no view
  pub none_copy : (slot : Slot) → slot ≡ Aside → IsUnread tells old via → KeepsDisk tells mid now via new → IsCopy tells before now old new None taken (log_of slot) (is_some lost)
  none_copy slot is unread keeps =
      let all = keeps_from keeps in
      let none : log_of slot ≡ None = ap (λ (s : Slot). log_of s) is in
      let nothing : (keeping : Keeping) → log_of slot ≡ Some keeping → ⊥ = λ keeping e. none_log keeping (sym none ∙ e) in
      let not : is_some (log_of slot) ≡ true → ⊥ = λ some. not_some (sym (ap (λ (o : Option Keeping). is_some o) none) ∙ some) in
      record {
        read = λ told. elim unread [
          | inl rose ↦ inr (refl, risen_then old.faults via.faults new.faults rose keeps.counted)
          | inr is_none ↦ inl (sym (is_none told))
        ];
        kept = λ some. absurd (not some);
        aside = λ e. inl refl;
        calm = λ some. absurd (not some);
        has = λ told last keeping e. absurd (nothing keeping e);
        reads = λ told keeping e. absurd (nothing keeping e);
        disk = keeps_copy tells before now old new taken all;
        even = λ told e. all;
      }

  -- it has one
  module _ (view : Viewing) (viewed : HasViewed tells shape peer old via view) (log : Numbered) (told_as : tells → list_in via.stands.seen ≡ Some log) where
    seen_list : tells → Some log ≡ list_in old.stands.seen
    seen_list told = sym (told_as told) ∙ seen_same told

    -- what a stop leaves is what it reads as
    stands_seen : tells → IsStanding via.stands via.stands.seen
    stands_seen told = record {
      sides = λ side.
          let loose : via.stands.loose side ≡ settled (via.stands.seen side) = viewed.durable told side ∙ ap (λ b. settled b) (sym (read.seen told side)) in
          subst (λ l. IsImage l (via.stands.seen side)) (sym loose) (settled_image (via.stands.seen side));
    }

    evened_copy : (P : Numbered → Type 0) (slot : Slot) → (tells → P taken) → IsEvened tells mid now via new P slot lost → IsCopy tells before now old new (put_out (log_of slot) (is_some lost) (Some log)) taken (log_of slot) (is_some lost)
    evened_copy P slot has e = by (log_of slot) refl (is_some lost) refl
      where
        disk : KeepsCopy tells before now old new taken
        disk = record {
          moments = λ told last own leaves.
              let one = read.moments told last in
              let own_is = leaves_read before mid old.stands via.stands own one leaves via.stands.seen (stands_seen told) in
              then-each own (IsOwnOrFront own taken) (e.moved.moments told one.last taken (has told) own own_is) one leaves (inl refl);
          past = λ told last.
              let one = read.moments told last in
              past_then before mid now old.stands via.stands new.stands (past_all before mid old.stands via.stands one) (e.moved.past told one.last);
          counted = let a = read.counted in let b = e.moved.counted in omega (arith, a, b);
        }

        even : tells → list_in old.stands.seen ≡ Some taken → KeepsDisk tells before now old new
        even told listed = keeps_from (e.even told taken (has told) (seen_same told ∙ listed))

        some_not : (k : Keeping) → Some k ≡ None → ⊥
        some_not k e = cc e

        rose_or : (b : Bool) → is_some lost ≡ b → b ≡ false → (is_some lost ≡ true) ⊎ (tells → HasRisen via.faults new.faults) → tells → HasRisen old.faults new.faults
        rose_or b is none why told = elim why [
          | inl was ↦ absurd (not_some (sym (is ∙ none) ∙ was))
          | inr rose ↦ then_risen old.faults via.faults new.faults read.counted (rose told)
        ]

        by : (o : Option Keeping) → log_of slot ≡ o → (b : Bool) → is_some lost ≡ b → IsCopy tells before now old new (put_out o b (Some log)) taken o b
        by (Some k) is b gone = record {
          read = λ told. inl (seen_list told);
          kept = λ some. refl;
          aside = λ none. absurd (some_not k none);
          calm = λ some. (e.good k (slot_kept slot k is)).calm ∙ viewed.calm;
          has = λ told last keeping same. (e.good keeping (slot_kept slot keeping (is ∙ same))).has told (read.moments told last).last taken (has told);
          reads = λ told keeping same listed. e.reads told keeping (slot_kept slot keeping (is ∙ same)) taken (has told) (seen_same told ∙ listed);
          disk = disk;
          even = even;
        }
        by None is true gone = record {
          read = λ told. inl (seen_list told);
          kept = λ some. refl;
          aside = λ none. inr (inr refl);
          calm = λ some. absurd (not_some some);
          has = λ told last keeping same. absurd (none_log keeping same);
          reads = λ told keeping same. absurd (none_log keeping same);
          disk = disk;
          even = even;
        }
        by None is false gone = record {
          read = λ told. inr (refl, rose_or false gone refl (e.out is) told);
          kept = λ some. absurd (not_some some);
          aside = λ none. inl refl;
          calm = λ some. absurd (not_some some);
          has = λ told last keeping same. absurd (none_log keeping same);
          reads = λ told keeping same. absurd (none_log keeping same);
          disk = disk;
          even = even;
        }

    -- the taken one
    taken_copy : (slot : Slot) → taken ≡ log → KeepsDisk tells mid now via new → IsTaken tells mid now via new slot lost → IsCopy tells before now old new (Some log) taken (log_of slot) (is_some lost)
    taken_copy slot same keeps t = by slot lost t
      where
        all : KeepsDisk tells before now old new
        all = keeps_from keeps

        has_list : tells → list_in via.stands.seen ≡ Some taken
        has_list told = told_as told ∙ ap (λ x. Some x) (sym same)

        some_not : (k : Keeping) → Some k ≡ None → ⊥
        some_not k e = cc e

        keeping_is : (x y : Keeping) → Some x ≡ Some y → x ≡ y
        keeping_is x y e = cc e

        by : (s : Slot) (o : Option ℕ) → IsTaken tells mid now via new s o → IsCopy tells before now old new (Some log) taken (log_of s) (is_some o)
        by (Kept k) None h = record {
          read = λ told. inl (seen_list told);
          kept = λ some. refl;
          aside = λ none. absurd (some_not k none);
          calm = λ some. h.good.calm ∙ viewed.calm;
          has = λ told last keeping is. subst (λ (x : Keeping). HasLog x new.stands taken None) (keeping_is k keeping is) (h.good.has told (read.moments told last).last taken (has_list told));
          reads = λ told keeping is listed. subst (λ (x : Keeping). IsKept x (new.stands.seen x.log.side) taken None) (keeping_is k keeping is) (h.reads told taken (has_list told));
          disk = keeps_copy tells before now old new taken all;
          even = λ told listed. all;
        }
        by (Kept k) (Some moment) h = absurd h
        by Aside None h = absurd h
        by Aside (Some moment) h = record {
          read = λ told. inl (seen_list told);
          kept = λ some. refl;
          aside = λ none. inr (inr refl);
          calm = λ some. absurd (not_some some);
          has = λ told last keeping is. absurd (none_log keeping is);
          reads = λ told keeping is. absurd (none_log keeping is);
          disk = keeps_copy tells before now old new taken all;
          even = λ told listed. all;
        }
        by (Viewed v) o h = absurd h
        by (Equal v) o h = absurd h

-- ---- a shard

module _ (tells : Type 0) (set : Setting) (before mid now : ℕ) (old via new : List DiskSeen) (views : List (Option Viewing)) (taken : Taken) (slots : List Slot) (up : before ≤ mid) (on : mid ≤ now) (total : ℕ)
    (read : (peer : ℕ) → peer < total → IsOnlyRead tells before mid (seen_at old peer) (seen_at via peer)) (viewed : (peer : ℕ) → peer < total → IsViewed tells set.shape peer (seen_at old peer) (seen_at via peer) (slice_index_or views peer None))
    (stand : (peer : ℕ) → peer < total → IfSome (slice_index_or views peer None) (IsViewOf tells set.shape peer (seen_at via peer))) (since : (peer : ℕ) → tells → Since (seen_at via peer).stands)
    (logs_are : taken.logs ≡ map log_of slots) where
  abbrev whole : Span
  whole = record { before = before; now = now; old = old; new = new }

  -- of the taken log the list that was applied
  pub with_taken : ℕ → Option Numbered → Bool → ℕ → Option Numbered
  with_taken from log lost peer = cond (peer == from) log (put_out (log_of (slot_at slots peer)) lost (picked via views peer))

  with_here : (from : ℕ) (log : Option Numbered) (lost : Bool) → with_taken from log lost from ≡ log
  unfolding with_taken
  with_here from log lost = elim (eqb_tells from from) [
    | inl same ↦ ap (λ b. cond b log (put_out (log_of (slot_at slots from)) lost (picked via views from))) same.0
    | inr differs ↦ absurd (differs.1 refl)
  ]

  with_there : (from : ℕ) (log : Option Numbered) (lost : Bool) (peer : ℕ) → peer ≢ from → with_taken from log lost peer ≡ put_out (log_of (slot_at slots peer)) lost (picked via views peer)
  unfolding with_taken
  with_there from log lost peer differs = elim (eqb_tells peer from) [
    | inl same ↦ absurd (differs same.1)
    | inr not ↦ ap (λ b. cond b log (put_out (log_of (slot_at slots peer)) lost (picked via views peer))) not.0
  ]

  log_is : (peer : ℕ) → log_at taken.logs peer ≡ log_of (slot_at slots peer)
  log_is peer = ap (λ ls. log_at ls peer) logs_are ∙ log_slot slots peer

  kept_is : (shard : ℕ) → is_kept set.shape taken.logs shard ≡ has_kept set.shape slots shard
  kept_is shard = any_same (λ peer. is_some (log_at taken.logs peer)) (λ peer. is_some (log_of (slot_at slots peer))) (peer_of set.shape shard 0) set.shape.copies (λ k low high. ap (λ (o : Option Keeping). is_some o) (log_is k))

  -- a peer that has no view, and one that has
  module _ (from : ℕ) (lost : Option ℕ) (list : Numbered) where
    abbrev Copy : ℕ → Option Numbered → Type 0
    Copy peer log = IsCopy tells before now (seen_at old peer) (seen_at new peer) log list (log_at taken.logs peer) (is_some lost)

    copy_at : (peer : ℕ) (log : Option Numbered) → IsCopy tells before now (seen_at old peer) (seen_at new peer) log list (log_of (slot_at slots peer)) (is_some lost) → Copy peer log
    copy_at peer log is = subst (λ o. IsCopy tells before now (seen_at old peer) (seen_at new peer) log list o (is_some lost)) (sym (log_is peer)) is

    keeps_still : (peer : ℕ) → IsStill tells (seen_at via peer) (seen_at new peer) → KeepsDisk tells mid now (seen_at via peer) (seen_at new peer)
    keeps_still peer still = still_keeps tells mid now (seen_at via peer) (seen_at new peer) on (since peer) still

    unseen : (peer : ℕ) → peer < total → slice_index_or views peer None ≡ None → slot_at slots peer ≡ Aside → IsStill tells (seen_at via peer) (seen_at new peer) → Copy peer (picked via views peer)
    unfolding picked
    unseen peer low none aside still = copy_at peer (picked via views peer)
        (subst (λ (o : Option Viewing). IsCopy tells before now (seen_at old peer) (seen_at new peer) (option_map (λ v. pick (list_in (seen_at via peer).stands.seen) v.rank) o) list (log_of (slot_at slots peer)) (is_some lost)) (sym none)
        (none_copy tells set.shape peer before mid now (seen_at old peer) (seen_at via peer) (seen_at new peer) list lost (read peer low) (slot_at slots peer) aside ((viewed peer low).none none) (keeps_still peer still)))

    evened_by : (P : Numbered → Type 0) (peer : ℕ) → peer < total → (tells → P list) → (view : Option Viewing) → slice_index_or views peer None ≡ view → IsViewed tells set.shape peer (seen_at old peer) (seen_at via peer) view → IfSome view (IsViewOf tells set.shape peer (seen_at via peer))
        → IsEvenedAs tells mid now (seen_at via peer) (seen_at new peer) P (slot_of view) (slot_at slots peer) lost → Copy peer (put_out (log_of (slot_at slots peer)) (is_some lost) (picked via views peer))
    unfolding picked
    evened_by P peer low has None is seen stands e =
        subst (λ o. Copy peer o) (picked_none via views peer is ∙ sym (put_none (log_of (slot_at slots peer)) (is_some lost)) ∙ ap (λ o. put_out (log_of (slot_at slots peer)) (is_some lost) o) (sym (picked_none via views peer is))) (unseen peer low is e.0 e.1)
    evened_by P peer low has (Some view) is seen stands e = copy_at peer (put_out (log_of (slot_at slots peer)) (is_some lost) (picked via views peer))
        (subst (λ (o : Option Viewing). IsCopy tells before now (seen_at old peer) (seen_at new peer) (put_out (log_of (slot_at slots peer)) (is_some lost) (option_map (λ v. pick (list_in (seen_at via peer).stands.seen) v.rank) o)) list (log_of (slot_at slots peer)) (is_some lost)) (sym is)
        (evened_copy tells set.shape peer before mid now (seen_at old peer) (seen_at via peer) (seen_at new peer) list lost (read peer low) view seen.some (pick (list_in (seen_at via peer).stands.seen) view.rank) (pick_told tells set.shape peer (seen_at via peer) view stands) P (slot_at slots peer) has e))

  module _ (shard : ℕ) (within : (peer : ℕ) → IsOf set.shape shard peer → peer < total) (chosen : (share_at taken shard).peer ≡ chosen_peer set.shape views shard) (home : IsOf set.shape shard (share_at taken shard).peer) (long : peer_of set.shape shard 0 + set.shape.copies ≤ length views)
      (numbered : (share_at taken shard).shard ≡ shard) where
    abbrev share : Share
    share = share_at taken shard

    abbrev from : ℕ
    from = share.peer

    same_if : (b : Bool) → [] ≡ (if b then empty_list else empty_list)
    same_if true = refl
    same_if false = refl

    view_of_slot : (peer : ℕ) (view : Option Viewing) → slice_index_or views peer None ≡ view → slot_at (map slot_of views) peer ≡ slot_of view
    view_of_slot peer view is = view_slot views peer ∙ ap (λ v. slot_of v) is

    -- no peer has a view
    none_shard : slice_index_or views from None ≡ None → HaveMoved tells set.shape shard from mid now via new (map slot_of views) → TakesNone (apply_all set.name (empty_catalogue set.shape shard)) set.shape shard from via new (map slot_of views) slots share
        → HasShard tells set whole taken shard
    none_shard is moved t = record {
      logs = picked via views;
      first = first;
      blank = λ list has zeros. absurd (never_list list (sym none ∙ has));
      each = λ peer of. unseen from share.lost (unwrap_or (picked via views from) []) peer (within peer of) (unseen_all peer of (slice_index_or views peer None) refl) (aside peer of) (still peer of);
      disk = keeps_from tells set.shape from before mid now (seen_at old from) (seen_at via from) (seen_at new from) [] None (read from (within from home)) (keeps_still from share.lost [] from (still from home));
      leaves = leaves_all tells set.shape before mid now old via new views total on read stand since (picked via views) shard from within home (λ peer view of some. absurd (none_view view (sym (unseen_all peer of (slice_index_or views peer None) refl) ∙ some))) moved;
      shard_is = numbered;
      took = t.took ∙ ap (λ (o : Option Numbered). option_map (λ list. (rank_of list).number) o) (sym none);
      lost = ap (λ (o : Option ℕ). is_some o) t.lost ∙ sym (ap (λ (o : Option ℕ). is_some o && not (is_some (log_at taken.logs from))) t.took);
      catalogue = t.catalogue ∙ ap (λ l. apply_all set.name (empty_catalogue set.shape shard) l) begun;
      rank = t.rank ∙ ap (λ l. rank_of l) begun;
    }
      where
        none_view : (view : Viewing) → None ≡ Some view → ⊥
        none_view view e = cc e

        none : picked via views from ≡ None
        none = picked_none via views from is

        first : IsFirst set.shape (picked via views) shard from
        first = is_first set.shape views shard from (picked via views) chosen home long (λ other of list e. picked_ranked via views other list e) (picked_own via views from)

        begun : [] ≡ begun_list set.shape taken (picked via views from) shard
        begun = same_if (is_kept set.shape taken.logs shard) ∙ ap (λ (o : Option Numbered). if is_kept set.shape taken.logs shard then unwrap_or o [] else []) (sym none)

        unseen_all : (peer : ℕ) → IsOf set.shape shard peer → (view : Option Viewing) → slice_index_or views peer None ≡ view → slice_index_or views peer None ≡ None
        unseen_all peer of None e = e
        unseen_all peer of (Some view) e = absurd (not_some (sym (ap (λ (o : Option Numbered). is_some o) none) ∙ first.some peer of (picked_some via views peer view e)))

        aside : (peer : ℕ) → IsOf set.shape shard peer → slot_at slots peer ≡ Aside
        aside peer of = elim (cases_eq peer from) [
          | inl same ↦ ap (λ p. slot_at slots p) same ∙ t.own
          | inr differs ↦ t.others peer of differs ∙ view_of_slot peer None (unseen_all peer of (slice_index_or views peer None) refl)
        ]

        still : (peer : ℕ) → IsOf set.shape shard peer → IsStill tells (seen_at via peer) (seen_at new peer)
        still peer of = still_same tells (seen_at via peer) (seen_at new peer) (t.disks peer of)

    -- the view of the taken log
    some_shard : (view : Viewing) → slice_index_or views from None ≡ Some view → HaveMoved tells set.shape shard from mid now via new (map slot_of views) → TakesView tells (apply_all set.name (empty_catalogue set.shape shard)) set.shape shard from mid now via new (map slot_of views) slots view share → HasShard tells set whole taken shard
    some_shard view is moved t = record {
      logs = logs;
      blank = λ list has zeros. let e : t.log ≡ list = one_list t.log list (sym here ∙ has) in sym e ∙ t.blank (ap (λ (l : Numbered). rank_of l) e ∙ zeros);
      first = is_first set.shape views shard from logs chosen home long ranked (λ rank e. ap (λ (o : Option Numbered). is_some o) here);
      each = each;
      disk = keeps_from tells set.shape from before mid now (seen_at old from) (seen_at via from) (seen_at new from) [] None (read from (within from home)) t.copies.disk;
      leaves = leaves_all tells set.shape before mid now old via new views total on read stand since logs shard from within home (λ peer view of some told. told_list told) moved;
      shard_is = numbered;
      took = t.took ∙ ap (λ (o : Option Numbered). option_map (λ list. (rank_of list).number) o) (sym here);
      lost = lost_is (slot_at slots from) share.lost t.copies.taken ∙ ap (λ (o : Option Keeping). true && not (is_some o)) (sym (log_is from)) ∙ ap (λ (o : Option ℕ). is_some o && not (is_some (log_at taken.logs from))) (sym t.took);
      catalogue = t.catalogue ∙ ap (λ l. apply_all set.name (empty_catalogue set.shape shard) l) begun;
      rank = t.rank ∙ ap (λ l. rank_of l) begun;
    }
      where
        logs : ℕ → Option Numbered
        logs = with_taken from (Some t.log) (is_some share.lost)

        here : logs from ≡ Some t.log
        here = with_here from (Some t.log) (is_some share.lost)

        list_is : unwrap_or (logs from) [] ≡ t.log
        list_is = ap (λ (o : Option Numbered). unwrap_or o []) here

        some_list : (x y : Numbered) → Some x ≡ Some y → x ≡ y
        some_list x y e = cc e

        ranked : (other : ℕ) → IsOf set.shape shard other → (list : Numbered) → logs other ≡ Some list → option_map (λ v. v.rank) (slice_index_or views other None) ≡ Some (rank_of list)
        ranked other of list e = elim (cases_eq other from) [
          | inl same ↦
              let mine : t.log ≡ list = some_list t.log list (sym here ∙ ap (λ p. logs p) (sym same) ∙ e) in
              ap (λ p. option_map (λ (v : Viewing). v.rank) (slice_index_or views p None)) same ∙ ap (λ (o : Option Viewing). option_map (λ v. v.rank) o) is ∙ ap (λ r. Some r) (sym t.ranked ∙ ap rank_of mine)
          | inr differs ↦ picked_ranked via views other list (put_some (log_of (slot_at slots other)) (is_some share.lost) (picked via views other) list (sym (with_there from (Some t.log) (is_some share.lost) other differs) ∙ e))
        ]

        begun : (if has_kept set.shape slots shard then t.log else []) ≡ begun_list set.shape taken (logs from) shard
        begun = ap (λ (b : Bool). if b then t.log else []) (sym (kept_is shard)) ∙ ap (λ (l : Numbered). if is_kept set.shape taken.logs shard then l else []) (sym list_is)

        lost_is : (slot : Slot) (lost : Option ℕ) → IsTaken tells mid now (seen_at via from) (seen_at new from) slot lost → is_some lost ≡ (true && not (is_some (log_of slot)))
        lost_is (Kept log) None h = refl
        lost_is (Kept log) (Some moment) h = absurd h
        lost_is Aside None h = absurd h
        lost_is Aside (Some moment) h = refl
        lost_is (Viewed v) lost h = absurd h
        lost_is (Equal v) lost h = absurd h

        told_list : tells → list_in (seen_at via from).stands.seen ≡ Some (unwrap_or (logs from) [])
        told_list told = t.told told ∙ ap (λ l. Some l) (sym list_is)

        own : IsCopy tells before now (seen_at old from) (seen_at new from) (logs from) (unwrap_or (logs from) []) (log_at taken.logs from) (is_some share.lost)
        own =
            let low = within from home in
            let seen = subst (λ v. IsViewed tells set.shape from (seen_at old from) (seen_at via from) v) is (viewed from low) in
            subst (λ o. IsCopy tells before now (seen_at old from) (seen_at new from) o (unwrap_or (logs from) []) (log_at taken.logs from) (is_some share.lost)) (sym here)
            (copy_at from share.lost (unwrap_or (logs from) []) from (Some t.log)
            (taken_copy tells set.shape from before mid now (seen_at old from) (seen_at via from) (seen_at new from) (unwrap_or (logs from) []) share.lost (read from low) view seen.some t.log t.told (slot_at slots from) list_is t.copies.disk t.copies.taken))

        each : (peer : ℕ) → IsOf set.shape shard peer → IsCopy tells before now (seen_at old peer) (seen_at new peer) (logs peer) (unwrap_or (logs from) []) (log_at taken.logs peer) (is_some share.lost)
        each peer of = elim (cases_eq peer from) [
          | inl same ↦ subst (λ p. IsCopy tells before now (seen_at old p) (seen_at new p) (logs p) (unwrap_or (logs from) []) (log_at taken.logs p) (is_some share.lost)) (sym same) own
          | inr differs ↦
              let low = within peer of in
              subst (λ o. IsCopy tells before now (seen_at old peer) (seen_at new peer) o (unwrap_or (logs from) []) (log_at taken.logs peer) (is_some share.lost)) (sym (with_there from (Some t.log) (is_some share.lost) peer differs))
              (evened_by from share.lost (unwrap_or (logs from) []) (λ list. list_in (seen_at via from).stands.seen ≡ Some list) peer low told_list (slice_index_or views peer None) refl (viewed peer low) (stand peer low)
              (subst (λ (s : Slot). IsEvenedAs tells mid now (seen_at via peer) (seen_at new peer) (λ list. list_in (seen_at via from).stands.seen ≡ Some list) s (slot_at slots peer) share.lost) (view_slot views peer) (t.copies.each peer of differs)))
        ]

    pub shard_read : TakesFrom tells (apply_all set.name (empty_catalogue set.shape shard)) set.shape shard from mid now via new (map slot_of views) slots share (slot_at (map slot_of views) from) → HasShard tells set whole taken shard
    shard_read t = by (slice_index_or views from None) refl
      where
        moved : HaveMoved tells set.shape shard from mid now via new (map slot_of views)
        moved = taken_moved tells (apply_all set.name (empty_catalogue set.shape shard)) set.shape shard from mid now via new (map slot_of views) slots share on home since (λ peer of. views_stand tells set.shape peer (seen_at via peer) views (stand peer (within peer of))) (slot_at (map slot_of views) from) refl t

        by : (view : Option Viewing) → slice_index_or views from None ≡ view → HasShard tells set whole taken shard
        by None is = none_shard is moved (subst (λ (s : Slot). TakesFrom tells (apply_all set.name (empty_catalogue set.shape shard)) set.shape shard from mid now via new (map slot_of views) slots share s) (view_of_slot from None is) t)
        by (Some view) is = some_shard view is moved (subst (λ (s : Slot). TakesFrom tells (apply_all set.name (empty_catalogue set.shape shard)) set.shape shard from mid now via new (map slot_of views) slots share s) (view_of_slot from (Some view) is) t)
