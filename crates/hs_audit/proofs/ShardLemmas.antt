-- Of the views of a shard that of greatest rank has the list that counts.
use Rattle.std.proofs.Common.{◌≡◌, ◌∙◌, ◌+◌, ◌*◌, ◌<◌, ◌≤◌, ap, sym, subst, ℕ, List, [], Option, None, Some, length, map, refl, arith, is_some, take, drop, get_or, if◌then◌else◌}
use Rattle.std.proofs.lemmas.Bool.{false≢true}
use Rattle.std.proofs.lemmas.List.{get_or-drop, get_or-map, get_or-take, length-map, length-take-le, length-drop}
use Rattle.std.proofs.lemmas.List.FromFn.{get_or-map-range_with_len, length-map-range_with_len}
use Rattle.std.specs.Option.{option_map}
use Rattle.std.specs.Prelude.{IfSome, IsSome, unwrap_or}
use Rattle.hs_audit.proofs.ChosenLemmas.{Ranks, chosen_counts, none_ranked}
use Rattle.hs_audit.specs.Rereading.{AreViewsOf, HasNoShardView, shard_lists, viewing_at, viewed_list}
use Rattle.hs_coldstart.specs.Choose.{choose}
use Rattle.hs_entry.specs.declared.rank.Rank.{Rank}
use Rattle.hs_fold.specs.Opened.{chosen}
use Rattle.hs_fold.specs.Shards.Setting.{Numbered}
use Rattle.hs_limits.specs.declared.shape.Shape.{Shape}
use Rattle.hs_limits.specs.Shape.{peer_of}
use Rattle.hs_peerlog.specs.Views.{Viewing}
use Rattle.hs_side.specs.Current.{list_in}
use Rattle.hs_taking.proofs.ChoiceLemmas.{shard_within}
use Rattle.hs_taking.specs.Disks.{DiskSeen, seen_at}
use Rattle.hs_taking.specs.Viewed.{IsViewOf}

abbrev rank_in : Option Viewing → Option Rank
rank_in view = option_map (λ (v : Viewing). v.rank) view

no_rank_in : (o : Option Viewing) → rank_in o ≡ None → o ≡ None
no_rank_in None e = refl
no_rank_in (Some v) e = absurd (some_is_not e)
  where
    some_is_not : {r : Rank} → Some r ≡ None → ⊥
    some_is_not e = grind arith

-- the list of a view is that of its disk
list_of_view : (tells : Type 0) (shape : Shape) (peer : ℕ) (disk : DiskSeen) (view : Option Viewing) → tells → IfSome view (IsViewOf tells shape peer disk)
    → Ranks (rank_in view) (if is_some view then unwrap_or (list_in disk.stands.seen) [] else [])
list_of_view tells shape peer disk None told is = refl
list_of_view tells shape peer disk (Some v) told is = go (list_in disk.stands.seen) refl (is.listed told)
  where
    go : (o : Option Numbered) → list_in disk.stands.seen ≡ o → IsSome o → Ranks (Some v.rank) (unwrap_or o [])
    go None e h = absurd (none_is h)
      where
        none_is : IsSome {T = Numbered} None → ⊥
        none_is h = false≢true h
    go (Some list) e h = let has = is.has told list e in (sym has.rank, has.numbered)

module _ (shape : Shape) (shard : ℕ) (in_shape : shard < shape.shards) (views : List (Option Viewing)) (ranks : List (Option Rank)) (long : length views ≡ shape.shards * shape.copies)
    (ranked : ranks ≡ map (λ (view : Option Viewing). option_map (λ (v : Viewing). v.rank) view) views) where
  abbrev first : ℕ
  first = peer_of shape shard 0

  abbrev own : List (Option Rank)
  own = take shape.copies (drop first ranks)

  within : first + shape.copies ≤ shape.shards * shape.copies
  within = let w = shard_within shape shard in_shape in omega (arith, w)

  count : length ranks ≡ shape.shards * shape.copies
  count = ap (λ (z : List (Option Rank)). length z) ranked ∙ length-map views rank_in ∙ long

  own_long : length own ≡ shape.copies
  own_long = length-take-le shape.copies (drop first ranks) (let d = length-drop first ranks in omega (arith, d, count, within))

  own_at : (i : ℕ) → i < shape.copies → get_or own i None ≡ rank_in (viewing_at views (first + i))
  own_at i low =
      get_or-take shape.copies (drop first ranks) i None low ∙ get_or-drop first ranks i None
      ∙ ap (λ (z : List (Option Rank)). get_or z (first + i) None) ranked
      ∙ get_or-map rank_in views (first + i) None None (omega (arith, low, within, long))

  module _ (place : ℕ) (is : place ≡ peer_of shape shard (unwrap_or (choose own) 0)) (to : place < first + shape.copies) where
    abbrev copy : ℕ
    copy = unwrap_or (choose own) 0

    pub copy_within : copy < shape.copies
    copy_within = omega (arith, is, to)

    place_is : first + copy ≡ place
    place_is = omega (arith, is)

    rank_there : get_or own copy None ≡ rank_in (viewing_at views place)
    rank_there = own_at copy copy_within ∙ ap (λ n. rank_in (viewing_at views n)) place_is

    -- where it has no view, no copy has one
    pub none_viewed : viewing_at views place ≡ None → HasNoShardView shape views shard
    none_viewed none = λ i low.
        let no = none_ranked own copy refl (rank_there ∙ ap rank_in none) i (omega (arith, low, own_long)) in
        let e : first + i ≡ peer_of shape shard i = omega arith in
        no_rank_in (viewing_at views (peer_of shape shard i)) (ap (λ n. rank_in (viewing_at views n)) (sym e) ∙ sym (own_at i low) ∙ no)

    -- where it has one, its list counts
    pub taken_counts : (tells : Type 0) (disks : List DiskSeen) → tells → AreViewsOf tells shape disks views → (v : Viewing) → viewing_at views place ≡ Some v → (list : Numbered) → list_in (seen_at disks place).stands.seen ≡ Some list
        → list ≡ chosen (shard_lists shape disks views shard)
    taken_counts tells disks told are v there list listed =
        let lists : List Numbered = shard_lists shape disks views shard in
        let lists_long : length lists ≡ shape.copies = length-map-range_with_len (viewed_list disks views) first shape.copies in
        let list_at : (i : ℕ) → i < shape.copies → get_or lists i [] ≡ viewed_list disks views (first + i) = λ i low. get_or-map-range_with_len (viewed_list disks views) first shape.copies i (first + i) [] low refl in
        let each : (i : ℕ) → i < length lists → Ranks (get_or own i None) (get_or lists i []) = λ i low.
        let less : i < shape.copies = omega (arith, low, lists_long) in
        subst (λ l. Ranks (get_or own i None) l) (sym (list_at i less))
        (subst (λ o. Ranks o (viewed_list disks views (first + i))) (sym (own_at i less))
        (list_of_view tells shape (first + i) (seen_at disks (first + i)) (viewing_at views (first + i)) told (are (first + i) (omega (arith, less, within))))) in
        let here : get_or lists copy [] ≡ list =
        list_at copy copy_within ∙ ap (λ n. viewed_list disks views n) place_is
        ∙ ap (λ (o : Option Viewing). if is_some o then unwrap_or (list_in (seen_at disks place).stands.seen) [] else []) there
        ∙ ap (λ (o : Option Numbered). unwrap_or o []) listed in
        sym (chosen_counts own lists (own_long ∙ sym lists_long) each copy v.rank refl (omega (arith, copy_within, lists_long)) (rank_there ∙ ap rank_in there) ∙ here)
