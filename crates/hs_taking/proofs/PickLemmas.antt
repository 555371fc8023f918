-- By peer what its disk was read as, or a list of its rank.
use Rattle.std.proofs.Common.{◌≡◌, ◌∙◌, ap, sym, ℕ, true, List, Option, Some, None, is_some, refl}
use Rattle.std.specs.Option.{option_map}
use Rattle.std.specs.Prelude.{IfSome, slice_index_or}
use Rattle.hs_entry.specs.Entries.{rank_of}
use Rattle.hs_entry.specs.declared.rank.Rank.{Rank}
use Rattle.hs_fold.specs.Shards.Setting.{Numbered}
use Rattle.hs_limits.specs.declared.shape.Shape.{Shape}
use Rattle.hs_peerlog.specs.Views.{Viewing}
use Rattle.hs_side.specs.Current.{list_in}
use Rattle.hs_taking.proofs.TakeLemmas.{pick, pick_rank, pick_told}
use Rattle.hs_taking.specs.Disks.{DiskSeen, seen_at}
use Rattle.hs_taking.specs.Viewed.{IsViewOf}

unfoldable pub picked : List DiskSeen → List (Option Viewing) → ℕ → Option Numbered
picked via views peer = option_map (λ view. pick (list_in (seen_at via peer).stands.seen) view.rank) (slice_index_or views peer None)

ranked_by : (via : List DiskSeen) (peer : ℕ) (view : Option Viewing) (list : Numbered) → option_map (λ v. pick (list_in (seen_at via peer).stands.seen) v.rank) view ≡ Some list → option_map (λ v. v.rank) view ≡ Some (rank_of list)
ranked_by via peer None list e = cc e
ranked_by via peer (Some view) list e = ap (λ r. Some r) (sym (pick_rank (list_in (seen_at via peer).stands.seen) view.rank) ∙ ap rank_of (some_list (pick (list_in (seen_at via peer).stands.seen) view.rank) list e))
  where
    some_list : (x y : Numbered) → Some x ≡ Some y → x ≡ y
    some_list x y e = cc e

pub picked_ranked : (via : List DiskSeen) (views : List (Option Viewing)) (peer : ℕ) (list : Numbered) → picked via views peer ≡ Some list → option_map (λ v. v.rank) (slice_index_or views peer None) ≡ Some (rank_of list)
unfolding picked
picked_ranked via views peer list e = ranked_by via peer (slice_index_or views peer None) list e

pub picked_own : (via : List DiskSeen) (views : List (Option Viewing)) (peer : ℕ) (rank : Rank) → option_map (λ v. v.rank) (slice_index_or views peer None) ≡ Some rank → is_some (picked via views peer) ≡ true
unfolding picked
picked_own via views peer rank e = by (slice_index_or views peer None) e
  where
    by : (view : Option Viewing) → option_map (λ v. v.rank) view ≡ Some rank → is_some (option_map (λ v. pick (list_in (seen_at via peer).stands.seen) v.rank) view) ≡ true
    by None e = cc e
    by (Some view) e = refl

pub picked_none : (via : List DiskSeen) (views : List (Option Viewing)) (peer : ℕ) → slice_index_or views peer None ≡ None → picked via views peer ≡ None
unfolding picked
picked_none via views peer is = ap (λ (o : Option Viewing). option_map (λ v. pick (list_in (seen_at via peer).stands.seen) v.rank) o) is

pub picked_some : (via : List DiskSeen) (views : List (Option Viewing)) (peer : ℕ) (view : Viewing) → slice_index_or views peer None ≡ Some view → is_some (picked via views peer) ≡ true
unfolding picked
picked_some via views peer view is = ap (λ (o : Option Viewing). is_some (option_map (λ v. pick (list_in (seen_at via peer).stands.seen) v.rank) o)) is

-- where the disk tells it is what that reads as
pub picked_told : (tells : Type 0) (shape : Shape) (via : List DiskSeen) (views : List (Option Viewing)) (peer : ℕ) (view : Viewing) → slice_index_or views peer None ≡ Some view → IfSome (slice_index_or views peer None) (IsViewOf tells shape peer (seen_at via peer)) → tells → list_in (seen_at via peer).stands.seen ≡ picked via views peer
unfolding picked
picked_told tells shape via views peer view is stands told = by (slice_index_or views peer None) is stands
  where
    none_is : None ≡ Some view → ⊥
    none_is e = cc e

    by : (o : Option Viewing) → o ≡ Some view → IfSome o (IsViewOf tells shape peer (seen_at via peer)) → list_in (seen_at via peer).stands.seen ≡ option_map (λ v. pick (list_in (seen_at via peer).stands.seen) v.rank) o
    by None e s = absurd (none_is e)
    by (Some v) e s = pick_told tells shape peer (seen_at via peer) v s told
