-- What a stop leaves of the disks of a shard while a store opens.
use Rattle.std.proofs.Common.{◌≡◌, ◌≢◌, ◌∙◌, ◌⊎◌, ap, sym, subst, inl, inr, ℕ, ◌+◌, ◌<◌, ◌≤◌, List, [], length, map, Option, Some, None, is_some, true, refl, arith, unwrap_or}
use Rattle.std.proofs.lemmas.Bool.{cases_eq}
use Rattle.std.specs.Prelude.{IfSome, slice_index_or}
use Rattle.hs_fold.specs.Shards.Setting.{Numbered}
use Rattle.hs_limits.specs.declared.shape.Shape.{Shape}
use Rattle.hs_limits.specs.Shape.{peer_of}
use Rattle.hs_peerlog.proofs.ImageLemmas.{Since}
use Rattle.hs_peerlog.specs.Images.{IsAny}
use Rattle.hs_peerlog.specs.Views.{Viewing}
use Rattle.hs_ports.specs.declared.disk.Side.{Side}
use Rattle.hs_ports.specs.Fault.{HasRisen}
use Rattle.hs_side.specs.Current.{list_in}
use Rattle.hs_taking.proofs.FirstLemmas.{is_first}
use Rattle.hs_taking.proofs.GreatestLemmas.{some_first}
use Rattle.hs_taking.proofs.LeaveLemmas.{PastBy, kept_past, leaves_front, leaves_kept, leaves_moved, leaves_read, leaves_still, moved_past, read_past, still_past}
use Rattle.hs_taking.proofs.PickLemmas.{picked, picked_none, picked_own, picked_ranked, picked_some, picked_told}
use Rattle.hs_taking.proofs.RunLemmas.{view_slot}
use Rattle.hs_taking.specs.Copies.{IsFirst, IsHadOrFront, IsOf, LeavesBy, LeavesWhileOpening}
use Rattle.hs_taking.specs.declared.slot.Slot.{Slot}
use Rattle.hs_taking.specs.Disks.{DiskSeen, seen_at}
use Rattle.hs_taking.specs.Evens.{HaveMoved, IsKeptAs, IsMovedAs, chosen_peer, slot_of}
use Rattle.hs_taking.specs.Opening.{LeavesShard}
use Rattle.hs_taking.specs.Shares.{Span}
use Rattle.hs_taking.specs.Viewed.{IsOnlyRead, IsViewed, IsViewOf}

-- ---- the disks were read, and then its log was taken

module _ (tells : Type 0) (shape : Shape) (before mid now : ℕ) (old via new : List DiskSeen) (views : List (Option Viewing)) (total : ℕ) (on : mid ≤ now) (read : (peer : ℕ) → peer < total → IsOnlyRead tells before mid (seen_at old peer) (seen_at via peer))
    (stand : (peer : ℕ) → peer < total → IfSome (slice_index_or views peer None) (IsViewOf tells shape peer (seen_at via peer))) (since : (peer : ℕ) → tells → Since (seen_at via peer).stands) where
  abbrev whole : Span
  whole = record { before = before; now = now; old = old; new = new }

  abbrev Had : ℕ → Type 0
  Had peer = LeavesBy tells before now (seen_at old peer) (seen_at new peer) IsAny

  -- one disk, by its view
  own_leaves : (peer : ℕ) → peer < total → (view : Option Viewing) → IfSome view (IsViewOf tells shape peer (seen_at via peer)) → IsKeptAs tells mid now (seen_at via peer) (seen_at new peer) (slot_of view) → Had peer
  own_leaves peer low None stands kept = leaves_still tells before mid now (seen_at old peer) (seen_at via peer) (seen_at new peer) (read peer low) on (since peer) kept
  own_leaves peer low (Some view) stands kept = leaves_kept tells before mid now (seen_at old peer) (seen_at via peer) (seen_at new peer) (read peer low) shape peer view stands kept

  other_leaves : (peer : ℕ) → peer < total → (P : Numbered → Type 0) (taken : Numbered) (view : Option Viewing) → ((v : Viewing) → view ≡ Some v → tells → P taken) → IfSome view (IsViewOf tells shape peer (seen_at via peer)) → IsMovedAs tells mid now (seen_at via peer) (seen_at new peer) P (slot_of view)
      → LeavesBy tells before now (seen_at old peer) (seen_at new peer) (IsHadOrFront taken)
  other_leaves peer low P taken None has stands moved =
      leaves_front tells before now (seen_at old peer) (seen_at new peer) taken (leaves_still tells before mid now (seen_at old peer) (seen_at via peer) (seen_at new peer) (read peer low) on (since peer) moved)
  other_leaves peer low P taken (Some view) has stands moved = leaves_moved tells before mid now (seen_at old peer) (seen_at via peer) (seen_at new peer) (read peer low) shape peer view stands P taken (has view refl) moved

  own_past : (peer : ℕ) → peer < total → (view : Option Viewing) → IfSome view (IsViewOf tells shape peer (seen_at via peer)) → IsKeptAs tells mid now (seen_at via peer) (seen_at new peer) (slot_of view) → PastBy tells before now (seen_at old peer) (seen_at new peer)
  own_past peer low None stands kept = still_past tells before mid now (seen_at old peer) (seen_at via peer) (seen_at new peer) (read peer low) on kept
  own_past peer low (Some view) stands kept = kept_past tells before mid now (seen_at old peer) (seen_at via peer) (seen_at new peer) (read peer low) shape peer view stands kept

  other_past : (peer : ℕ) → peer < total → (P : Numbered → Type 0) (view : Option Viewing) → IfSome view (IsViewOf tells shape peer (seen_at via peer)) → IsMovedAs tells mid now (seen_at via peer) (seen_at new peer) P (slot_of view) → PastBy tells before now (seen_at old peer) (seen_at new peer)
  other_past peer low P None stands moved = still_past tells before mid now (seen_at old peer) (seen_at via peer) (seen_at new peer) (read peer low) on moved
  other_past peer low P (Some view) stands moved = moved_past tells before mid now (seen_at old peer) (seen_at via peer) (seen_at new peer) (read peer low) shape peer view stands P moved

  -- all of a shard
  pub leaves_all : (logs : ℕ → Option Numbered) (shard from : ℕ) → ((peer : ℕ) → IsOf shape shard peer → peer < total) → IsOf shape shard from
      → ((peer : ℕ) (view : Viewing) → IsOf shape shard peer → slice_index_or views peer None ≡ Some view → tells → list_in (seen_at via from).stands.seen ≡ Some (unwrap_or (logs from) []))
      → HaveMoved tells shape shard from mid now via new (map slot_of views) → LeavesWhileOpening tells shape whole logs shard from
  leaves_all logs shard from within home has moved = record {
    taken = own;
    others = λ peer of. elim (cases_eq peer from) [
      | inl same ↦ subst (λ p. LeavesBy tells before now (seen_at old p) (seen_at new p) (IsHadOrFront (unwrap_or (logs from) []))) (sym same) (leaves_front tells before now (seen_at old from) (seen_at new from) (unwrap_or (logs from) []) own)
      | inr differs ↦
          other_leaves peer (within peer of) (λ list. list_in (seen_at via from).stands.seen ≡ Some list) (unwrap_or (logs from) []) (slice_index_or views peer None) (λ v is. has peer v of is) (stand peer (within peer of))
          (other_moved peer of differs)
    ];
    past = λ peer of. elim (cases_eq peer from) [
      | inl same ↦ subst (λ p. PastBy tells before now (seen_at old p) (seen_at new p)) (sym same) (own_past from (within from home) (slice_index_or views from None) (stand from (within from home)) own_kept)
      | inr differs ↦ other_past peer (within peer of) (λ list. list_in (seen_at via from).stands.seen ≡ Some list) (slice_index_or views peer None) (stand peer (within peer of)) (other_moved peer of differs)
    ];
  }
    where
      own_kept : IsKeptAs tells mid now (seen_at via from) (seen_at new from) (slot_of (slice_index_or views from None))
      own_kept = subst (λ (s : Slot). IsKeptAs tells mid now (seen_at via from) (seen_at new from) s) (view_slot views from) moved.own

      other_moved : (peer : ℕ) → IsOf shape shard peer → peer ≢ from → IsMovedAs tells mid now (seen_at via peer) (seen_at new peer) (λ list. list_in (seen_at via from).stands.seen ≡ Some list) (slot_of (slice_index_or views peer None))
      other_moved peer of differs = subst (λ (s : Slot). IsMovedAs tells mid now (seen_at via peer) (seen_at new peer) (λ list. list_in (seen_at via from).stands.seen ≡ Some list) s) (view_slot views peer) (moved.each peer of differs)

      own : Had from
      own = own_leaves from (within from home) (slice_index_or views from None) (stand from (within from home)) own_kept

  -- whatever was answered
  pub leaves_moved_shard : (shard : ℕ) → ((peer : ℕ) → IsOf shape shard peer → peer < total) → IsOf shape shard (chosen_peer shape views shard) → peer_of shape shard 0 + shape.copies ≤ length views
      → ((peer : ℕ) → peer < total → IsViewed tells shape peer (seen_at old peer) (seen_at via peer) (slice_index_or views peer None)) → ((peer : ℕ) → peer < total → (seen_at via peer).faults ≤ (seen_at new peer).faults)
      → HaveMoved tells shape shard (chosen_peer shape views shard) mid now via new (map slot_of views) → LeavesShard tells shape whole shard
  leaves_moved_shard shard within home long viewed counted moved = record {
    logs = picked via views;
    from = chosen_peer shape views shard;
    first = first;
    read = λ peer of told. was_read peer (within peer of) told (slice_index_or views peer None) refl;
    leaves = leaves_all (picked via views) shard (chosen_peer shape views shard) within home has moved;
  }
    where
      first : IsFirst shape (picked via views) shard (chosen_peer shape views shard)
      first = is_first shape views shard (chosen_peer shape views shard) (picked via views) refl home long (λ other of list e. picked_ranked via views other list e) (picked_own via views (chosen_peer shape views shard))

      seen_same : (peer : ℕ) → peer < total → tells → list_in (seen_at via peer).stands.seen ≡ list_in (seen_at old peer).stands.seen
      seen_same peer low told =
          let same : (seen_at via peer).stands.seen ≡ (seen_at old peer).stands.seen = λ i side. (read peer low).seen told side i in
          ap (λ (s : Side → List ℕ). list_in s) same

      was_read : (peer : ℕ) → peer < total → tells → (view : Option Viewing) → slice_index_or views peer None ≡ view
          → (picked via views peer ≡ list_in (seen_at old peer).stands.seen) ⊎ ((picked via views peer ≡ None) × HasRisen (seen_at old peer).faults (seen_at new peer).faults)
      was_read peer low told None is =
          let c = counted peer low in
          elim ((viewed peer low).none is) [
            | inl rose ↦ inr (picked_none via views peer is, omega (arith, rose, c))
            | inr none ↦ inl (picked_none via views peer is ∙ sym (none told))
          ]
      was_read peer low told (Some view) is = inl (sym (picked_told tells shape via views peer view is (stand peer low) told) ∙ seen_same peer low told)

      some_list : (o : Option Numbered) → is_some o ≡ true → o ≡ Some (unwrap_or o [])
      some_list None e = cc e
      some_list (Some list) e = refl

      has : (peer : ℕ) (view : Viewing) → IsOf shape shard peer → slice_index_or views peer None ≡ Some view → tells → list_in (seen_at via (chosen_peer shape views shard)).stands.seen ≡ Some (unwrap_or (picked via views (chosen_peer shape views shard)) [])
      has peer view of is told = by (slice_index_or views (chosen_peer shape views shard) None) refl
        where
          there : is_some (picked via views (chosen_peer shape views shard)) ≡ true
          there = first.some peer of (picked_some via views peer view is)

          by : (o : Option Viewing) → slice_index_or views (chosen_peer shape views shard) None ≡ o → list_in (seen_at via (chosen_peer shape views shard)).stands.seen ≡ Some (unwrap_or (picked via views (chosen_peer shape views shard)) [])
          by None e = cc (sym (ap (λ (x : Option Numbered). is_some x) (picked_none via views (chosen_peer shape views shard) e)) ∙ there)
          by (Some v) e = picked_told tells shape via views (chosen_peer shape views shard) v e (stand (chosen_peer shape views shard) (within (chosen_peer shape views shard) home)) told ∙ some_list (picked via views (chosen_peer shape views shard)) there

-- ---- they were only read

pub leaves_read_shard : (tells : Type 0) (shape : Shape) (span : Span) (shard : ℕ) → 0 < shape.copies → ((peer : ℕ) → IsOf shape shard peer → IsOnlyRead tells span.before span.now (seen_at span.old peer) (seen_at span.new peer)) → LeavesShard tells shape span shard
leaves_read_shard tells shape span shard copies read =
    let f = some_first shape (λ peer. list_in (seen_at span.old peer).stands.seen) shard copies in
    record {
      logs = λ peer. list_in (seen_at span.old peer).stands.seen;
      from = f.0;
      first = f.1;
      read = λ peer of told. inl refl;
      leaves = record {
        taken = leaves_read tells span.before span.now (seen_at span.old f.0) (seen_at span.new f.0) (read f.0 f.1.home);
        others = λ peer of. leaves_front tells span.before span.now (seen_at span.old peer) (seen_at span.new peer) (unwrap_or (list_in (seen_at span.old f.0).stands.seen) [])
            (leaves_read tells span.before span.now (seen_at span.old peer) (seen_at span.new peer) (read peer of));
        past = λ peer of. read_past tells span.before span.now (seen_at span.old peer) (seen_at span.new peer) (read peer of);
      };
    }
