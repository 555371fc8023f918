-- Catalogues put one after another are those of all shards at once.
use Rattle.std.proofs.Common.{◌≡◌, ℕ, suc, ◌+◌, ◌<◌, length, replicate, List, [], ◌∷◌, ◌++◌, map, Bool, true, false, refl, sym, ap, subst, ◌∙◌, arith, append_assoc}
use Rattle.std.proofs.lemmas.Grind.{common_steps}
use Rattle.std.specs.BTreeMap.{insert_entry}
use Rattle.std.specs.List.{AllByRecursion, IsDistinct}
use Rattle.std.specs.List.Sorted.{IsStrictlySortedBy}
use Rattle.std.specs.Map.{keys_of}
use Rattle.std.specs.Prelude.{slice_set}
use Rattle.hs_fold.specs.Catalogue.{Present}
use Rattle.hs_fold.specs.Opened.{both}
use Rattle.hs_fold.specs.Runs.Facts.{Catalogue as Folded, Facts as FoldedFacts, RootFacts, plain, roots_of}
use Rattle.hs_fold.specs.Runs.Own.{AreOwn}
use Rattle.hs_fold.specs.Shards.Opened.{all_present, all_roots, both_roots, store_of}
use Rattle.hs_fold.proofs.Shards.BlockLemmas.{insert-commute}
use Rattle.hs_fold.proofs.Shards.RootLemmas.{both-place, place-commute}
use Rattle.hs_limits.specs.declared.address.Address.{Address}
use Rattle.hs_limits.specs.declared.shape.Shape.{Shape}
use Rattle.hs_limits.specs.Shape.{shard_of}
use Rattle.hs_memory.specs.Forget.{forget, known_of, record_of}
use Rattle.hs_memory.specs.Whole.{add_folds}
use Rattle.hs_model.specs.declared.store.StoredBlock.{StoredBlock}
use Rattle.hs_model.specs.Hollow.{hollow, hollow_blocks, without_bytes}
use Rattle.hs_model.specs.Reach.{is_same}
use Rattle.hs_model.specs.Store.{Root, Store, address_cmp, empty_store, place_root}
use Rattle.hs_model.proofs.MapLemmas.{map-insert_entry}
use Rattle.hs_model.proofs.Members.{same_from}
use Rattle.hs_model.proofs.SetLemmas.{distinct_from_sorted}
use Rattle.hs_shard.specs.Plain.{add_blocks, add_given, add_roots, add_shard}

-- none of some addresses is this one
abbrev Misses : Address → List Address → Type 0
Misses a ks = AllByRecursion (λ k. is_same a k ≡ false) ks

-- each is none of some others
abbrev AreApart : List Address → List Address → Type 0
AreApart ks others = AllByRecursion (λ k. Misses k others) ks

-- ---- entries put from the left and from the right

module _ {V : Type 0} where
  abbrev left : List (Address × V) → List (Address × V) → List (Address × V)
  left [] others = others
  left (e ∷ es) others = left es (insert_entry address_cmp others e.0 e.1)

  abbrev right : List (Address × V) → List (Address × V) → List (Address × V)
  right [] others = others
  right (e ∷ es) others = insert_entry address_cmp (right es others) e.0 e.1

  left_past : (es others : List (Address × V)) (a : Address) (v : V) → Misses a (keys_of es) → left es (insert_entry address_cmp others a v) ≡ insert_entry address_cmp (left es others) a v
  left_past [] others a v m = refl
  left_past (e ∷ es) others a v m = ap (λ z. left es z) (insert-commute others a e.0 v e.1 m.0) ∙ left_past es (insert_entry address_cmp others e.0 e.1) a v m.1

  left_is_right : (es others : List (Address × V)) → IsDistinct is_same (keys_of es) → left es others ≡ right es others
  unfolding IsDistinct
  left_is_right [] others d = refl
  left_is_right (e ∷ es) others d = left_past es others e.0 e.1 d.0 ∙ ap (λ z. insert_entry address_cmp z e.0 e.1) (left_is_right es others d.1)

  left_over : (es fs others : List (Address × V)) → AreApart (keys_of es) (keys_of fs) → left fs (right es others) ≡ right es (left fs others)
  left_over [] fs others a = refl
  left_over (e ∷ es) fs others a = left_past fs (right es others) e.0 e.1 a.0 ∙ ap (λ z. insert_entry address_cmp z e.0 e.1) (left_over es fs others a.1)

-- ---- one part of all blocks: the stored block, or the epoch in which it was given

module _ {V : Type 0} (part : Present → V) where
  abbrev parts : List (Address × FoldedFacts) → List (Address × V)
  parts es = map (λ e. (e.0, part e.1.present)) es

  keys_parts : (es : List (Address × FoldedFacts)) → keys_of (parts es) ≡ keys_of (map (λ e. (e.0, e.1.present)) es)
  keys_parts [] = refl
  keys_parts (e ∷ es) = ap (λ ks. e.0 ∷ ks) (keys_parts es)

  abbrev each_left : List Folded → List (Address × V) → List (Address × V)
  each_left [] others = others
  each_left (c ∷ cs) others = each_left cs (left (parts c.blocks) others)

  abbrev each_right : List Folded → List (Address × V)
  each_right [] = []
  each_right (c ∷ cs) = right (parts c.blocks) (each_right cs)

  of_both : (es : List (Address × FoldedFacts)) (others : List (Address × Present)) → map (λ e. (e.0, part e.1)) (both (map (λ e. (e.0, e.1.present)) es) others) ≡ right (parts es) (map (λ e. (e.0, part e.1)) others)
  of_both [] others = refl
  of_both (e ∷ es) others =
      map-insert_entry part address_cmp (both (map (λ e. (e.0, e.1.present)) es) others) e.0 e.1.present
      ∙ ap (λ z. insert_entry address_cmp z e.0 (part e.1.present)) (of_both es others)

  of_all : (cs : List Folded) → map (λ e. (e.0, part e.1)) (all_present (map plain cs)) ≡ each_right cs
  of_all [] = refl
  of_all (c ∷ cs) = of_both c.blocks (all_present (map plain cs)) ∙ ap (λ z. right (parts c.blocks) z) (of_all cs)

  -- of one shard, and of later ones
  miss_of : (shards shard : ℕ) (a : Address) (ks : List Address) (later : ℕ) → shard_of shards a ≡ shard → shard < later → AllByRecursion (λ k. shard_of shards k ≡ later) ks → Misses a ks
  miss_of shards shard a [] later e l h = tt
  miss_of shards shard a (k ∷ ks) later e l h = (go (is_same a k) refl, miss_of shards shard a ks later e l h.1)
    where
      go : (b : Bool) → is_same a k ≡ b → b ≡ false
      go false s = refl
      go true s =
          let one : shard_of shards a ≡ shard_of shards k = ap (λ z. shard_of shards z) (same_from a k s) in
          absurd (omega (arith, one, e, h.0, l))

  apart_of : (shards shard : ℕ) (ks others : List Address) (later : ℕ) → AllByRecursion (λ k. shard_of shards k ≡ shard) ks → shard < later → AllByRecursion (λ k. shard_of shards k ≡ later) others → AreApart ks others
  apart_of shards shard [] others later h l g = tt
  apart_of shards shard (k ∷ ks) others later h l g = (miss_of shards shard k others later h.0 l g, apart_of shards shard ks others later h.1 l g)

  over_later : (shards shard from : ℕ) (es : List (Address × FoldedFacts)) (cs : List Folded) (others : List (Address × V)) → AllByRecursion (λ a. shard_of shards a ≡ shard) (keys_of (map (λ e. (e.0, e.1.present)) es)) → shard < from → AreOwn shards from cs
      → each_left cs (right (parts es) others) ≡ right (parts es) (each_left cs others)
  over_later shards shard from es [] others h l own = refl
  over_later shards shard from es (c ∷ cs) others h l own =
      let mine : AllByRecursion (λ a. shard_of shards a ≡ shard) (keys_of (parts es)) = subst (λ ks. AllByRecursion (λ a. shard_of shards a ≡ shard) ks) (sym (keys_parts es)) h in
      let theirs : AllByRecursion (λ a. shard_of shards a ≡ from) (keys_of (parts c.blocks)) = subst (λ ks. AllByRecursion (λ a. shard_of shards a ≡ from) ks) (sym (keys_parts c.blocks)) own.0.mine.blocks in
      ap (λ z. each_left cs z) (left_over (parts es) (parts c.blocks) others (apart_of shards shard (keys_of (parts es)) (keys_of (parts c.blocks)) from mine l theirs))
      ∙ over_later shards shard (from + 1) es cs (left (parts c.blocks) others) h (omega (arith, l)) own.1

  each_is : (shards from : ℕ) (cs : List Folded) → AreOwn shards from cs → each_left cs [] ≡ each_right cs
  each_is shards from [] own = refl
  each_is shards from (c ∷ cs) own =
      let sorted : IsStrictlySortedBy address_cmp (keys_of (parts c.blocks)) = subst (λ ks. IsStrictlySortedBy address_cmp ks) (sym (keys_parts c.blocks)) own.0.mine.ordered in
      ap (λ z. each_left cs z) (left_is_right (parts c.blocks) [] (distinct_from_sorted (keys_of (parts c.blocks)) sorted))
      ∙ over_later shards from (from + 1) c.blocks cs [] own.0.mine.blocks (omega arith) own.1
      ∙ ap (λ z. right (parts c.blocks) z) (each_is shards (from + 1) cs own.1)

-- ---- what a catalogue adds

abbrev marked : Present → ℕ
marked p = p.mark

abbrev bared : Present → StoredBlock
bared p = without_bytes p.stored

blocks_added : (es : List (Address × FoldedFacts)) (others : List (Address × StoredBlock)) → add_blocks (map (λ e. (e.0, known_of e.1)) es) others ≡ left (parts bared es) others
blocks_added [] others = refl
blocks_added (e ∷ es) others = blocks_added es (insert_entry address_cmp others e.0 (bared e.1.present))

given_added : (es : List (Address × FoldedFacts)) (others : List (Address × ℕ)) → add_given (map (λ e. (e.0, known_of e.1)) es) others ≡ left (parts marked es) others
given_added [] others = refl
given_added (e ∷ es) others = given_added es (insert_entry address_cmp others e.0 e.1.present.mark)

-- ---- roots

roots_past : (rs : List RootFacts) (others : List Root) (r : Root) → add_roots (map record_of rs) (place_root r others) ≡ place_root r (add_roots (map record_of rs) others)
roots_past [] others r = refl
roots_past (x ∷ rs) others r = ap (λ z. add_roots (map record_of rs) z) (place-commute others x.root r) ∙ roots_past rs (place_root x.root others) r

roots_added : (rs : List RootFacts) (others : List Root) → add_roots (map record_of rs) others ≡ both_roots (roots_of rs) others
roots_added [] others = refl
roots_added (x ∷ rs) others = roots_past rs others x.root ∙ ap (λ z. place_root x.root z) (roots_added rs others)

abbrev each_roots : List Folded → List Root → List Root
each_roots [] others = others
each_roots (c ∷ cs) others = each_roots cs (add_roots (map record_of c.roots) others)

roots_later : (cs : List Folded) (others : List Root) (r : Root) → each_roots cs (place_root r others) ≡ place_root r (each_roots cs others)
roots_later [] others r = refl
roots_later (c ∷ cs) others r = ap (λ z. each_roots cs z) (roots_past c.roots others r) ∙ roots_later cs (add_roots (map record_of c.roots) others) r

roots_over : (rs : List Root) (cs : List Folded) (others : List Root) → each_roots cs (both_roots rs others) ≡ both_roots rs (each_roots cs others)
roots_over [] cs others = refl
roots_over (r ∷ rs) cs others = roots_later cs (both_roots rs others) r ∙ ap (λ z. place_root r z) (roots_over rs cs others)

in_order : (rs others : List Root) → both_roots (both_roots rs []) others ≡ both_roots rs others
in_order [] others = refl
in_order (r ∷ rs) others = both-place (both_roots rs []) others r ∙ ap (λ z. place_root r z) (in_order rs others)

roots_are : (cs : List Folded) → each_roots cs [] ≡ all_roots (map plain cs)
roots_are [] = refl
roots_are (c ∷ cs) =
    ap (λ z. each_roots cs z) (roots_added c.roots [])
    ∙ roots_over (roots_of c.roots) cs []
    ∙ ap (λ z. both_roots (roots_of c.roots) z) (roots_are cs)
    ∙ sym (in_order (roots_of c.roots) (all_roots (map plain cs)))

-- ---- one number for each shard

module _ (number : Folded → ℕ) where
  abbrev each_number : ℕ → List Folded → List ℕ → List ℕ
  each_number shard [] numbers = numbers
  each_number shard (c ∷ cs) numbers = each_number (shard + 1) cs (slice_set numbers shard (number c))

  set_next : (front : List ℕ) (n v : ℕ) → slice_set (front ++ replicate (suc n) 1) (length front) v ≡ (front ++ v ∷ []) ++ replicate n 1
  set_next [] n v = refl
  set_next (x ∷ front) n v = ap (λ z. x ∷ z) (set_next front n v)

  numbers_from : (cs : List Folded) (front : List ℕ) → each_number (length front) cs (front ++ replicate (length cs) 1) ≡ front ++ map number cs
  numbers_from [] front = refl
  numbers_from (c ∷ cs) front =
      let more : length (front ++ number c ∷ []) ≡ length front + 1 = grind (arith, common_steps) in
      ap (λ z. each_number (length front + 1) cs z) (set_next front (length cs) (number c))
      ∙ ap (λ i. each_number i cs ((front ++ number c ∷ []) ++ replicate (length cs) 1)) (sym more)
      ∙ numbers_from cs (front ++ number c ∷ [])
      ∙ append_assoc front (number c ∷ []) (map number cs)

-- ---- all parts

added : (shape : Shape) (shard : ℕ) (cs : List Folded) (s : Store) → add_folds shape shard cs s ≡ record s {
  blocks = each_left bared cs s.blocks;
  given = each_left marked cs s.given;
  roots = each_roots cs s.roots;
  epochs = each_number (λ c. c.epoch) shard cs s.epochs;
  swept = each_number (λ c. c.swept) shard cs s.swept;
}
added shape shard [] s = refl
added shape shard (c ∷ cs) s =
    let next : Store = add_shard (forget shape shard c) s in
    let blocks : next.blocks ≡ left (parts bared c.blocks) s.blocks = blocks_added c.blocks s.blocks in
    let given : next.given ≡ left (parts marked c.blocks) s.given = given_added c.blocks s.given in
    let with_both : List (Address × StoredBlock) → List (Address × ℕ) → Store = λ bs gs. record next {
      blocks = each_left bared cs bs;
      given = each_left marked cs gs;
      roots = each_roots cs next.roots;
      epochs = each_number (λ c. c.epoch) (shard + 1) cs next.epochs;
      swept = each_number (λ c. c.swept) (shard + 1) cs next.swept;
    } in
    added shape (shard + 1) cs next ∙ ap (λ bs. with_both bs next.given) blocks ∙ ap (λ gs. with_both (left (parts bared c.blocks) s.blocks) gs) given

hollowed : (es : List (Address × Present)) → map (λ e. (e.0, bared e.1)) es ≡ hollow_blocks (map (λ e. (e.0, e.1.stored)) es)
hollowed [] = refl
hollowed (e ∷ es) = ap (λ z. (e.0, bared e.1) ∷ z) (hollowed es)

epochs_plain : (cs : List Folded) → map (λ (c : Folded). c.epoch) cs ≡ map (λ c. c.epoch) (map plain cs)
epochs_plain [] = refl
epochs_plain (c ∷ cs) = ap (λ z. c.epoch ∷ z) (epochs_plain cs)

swept_plain : (cs : List Folded) → map (λ (c : Folded). c.swept) cs ≡ map (λ c. c.swept) (map plain cs)
swept_plain [] = refl
swept_plain (c ∷ cs) = ap (λ z. c.swept ∷ z) (swept_plain cs)

pub whole : (shape : Shape) (cs : List Folded) → AreOwn shape.shards 0 cs → add_folds shape 0 cs (empty_store (length cs)) ≡ hollow (store_of (map plain cs))
whole shape cs own =
    let present : List (Address × Present) = all_present (map plain cs) in
    let blocks : each_left bared cs [] ≡ hollow_blocks (map (λ e. (e.0, e.1.stored)) present) = each_is bared shape.shards 0 cs own ∙ sym (of_all bared cs) ∙ hollowed present in
    let given : each_left marked cs [] ≡ map (λ e. (e.0, e.1.mark)) present = each_is marked shape.shards 0 cs own ∙ sym (of_all marked cs) in
    let roots : each_roots cs [] ≡ all_roots (map plain cs) = roots_are cs in
    let epochs : each_number (λ c. c.epoch) 0 cs (replicate (length cs) 1) ≡ map (λ c. c.epoch) (map plain cs) = numbers_from (λ c. c.epoch) cs [] ∙ epochs_plain cs in
    let swept : each_number (λ c. c.swept) 0 cs (replicate (length cs) 1) ≡ map (λ c. c.swept) (map plain cs) = numbers_from (λ c. c.swept) cs [] ∙ swept_plain cs in
    added shape 0 cs (empty_store (length cs)) ∙ (λ i. record { blocks = blocks i; given = given i; roots = roots i; epochs = epochs i; swept = swept i; sessions = [] })
