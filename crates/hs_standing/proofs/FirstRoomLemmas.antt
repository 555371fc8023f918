-- A core that opens with sound lists has room for root records.
use Rattle.std.proofs.Common.{◌≡◌, ◌∙◌, inl, inr, ap, sym, subst, ℕ, zero, suc, ◌+◌, ◌<◌, ◌≤◌, cond, List, [], ◌∷◌, None, refl, length, map, arith}
use Rattle.std.proofs.lemmas.Bool.{cases_eq, cases_lt}
use Rattle.std.proofs.lemmas.List.{get_or_past, length-map}
use Rattle.std.proofs.lemmas.List.Elements.{recursion_from_All}
use Rattle.std.proofs.lemmas.List.FromFn.{get_or-map-range_with_len, length-map-range_with_len}
use Rattle.std.proofs.lemmas.List.Sums.{sum_by-cons}
use Rattle.std.specs.List.{AllByRecursion, range_with_len}
use Rattle.std.specs.Prelude.{count_by, slice_index_or}
use Rattle.hs_core_words.specs.Looking.{catalogue_of, front_of, group_of, shape_of}
use Rattle.hs_core_words.specs.Opening.{new_core, taken_group}
use Rattle.hs_core_words.specs.Records.{HasRecordRoom}
use Rattle.hs_core_words.specs.State.{Core}
use Rattle.hs_entry.specs.declared.entry.Entry.{Entry}
use Rattle.hs_entry.specs.Entries.{rank_of}
use Rattle.hs_events.specs.Found.{Found, first_core, opened_catalogue, opened_list, opens_with}
use Rattle.hs_fold.specs.Runs.Catalogue.{catalogue_of as folded_of}
use Rattle.hs_fold.specs.Runs.Facts.{Catalogue as Folded}
use Rattle.hs_fold.specs.Runs.Opened.{catalogues}
use Rattle.hs_fold.specs.Runs.Sound.{HasRoom}
use Rattle.hs_fold.specs.Shards.Setting.{Setting, shard_in}
use Rattle.hs_members.specs.Members.{Members}
use Rattle.hs_memory.specs.Forget.{record_of}
use Rattle.hs_replica.specs.Group.{Group, new_group}
use Rattle.hs_replica.specs.Kinds.{is_root}
use Rattle.hs_shard.specs.Facts.{Catalogue, empty_catalogue}
use Rattle.hs_sound.specs.Stay.{AreSoundAlong}
use Rattle.hs_standing.proofs.FirstLemmas.{first_held}
use Rattle.hs_standing.proofs.LegalOpenLemmas.{began_like}
use Rattle.hs_standing.proofs.TakenLemmas.{FoldsInMemory}
use Rattle.hs_standing.proofs.ViewLemmas.{IsFirstView, OpensOn, opens_on}
use Rattle.hs_standing.specs.Lists.{Lists, whole_from}
use Rattle.hs_standing.specs.Opening.{opened_lists}

zero_left : (a : ℕ) → 0 + a ≡ a
zero_left a = omega arith

no_roots : (m : Members) (g : ℕ) (es : List Entry) → AllByRecursion (IsFirstView m g) es → count_by is_root es ≡ 0
no_roots m g [] h = refl
no_roots m g (x ∷ es) h =
    sum_by-cons (λ (e : Entry). cond (is_root e) 1 0) x es
    ∙ ap (λ (e : Entry). cond (is_root e) 1 0 + count_by is_root es) h.0
    ∙ zero_left (count_by is_root es) ∙ no_roots m g es h.1

room_at : (set : Setting) (lists : Lists) (k n : ℕ) → AllByRecursion (λ (c : Folded). HasRoom c) (catalogues set k (whole_from lists k n)) → (j : ℕ) → k ≤ j → j < k + n → HasRoom (folded_of (shard_in set j) (lists.whole j))
room_at set lists k zero h j low high = absurd (omega (arith, low, high))
room_at set lists k (suc n) h j low high = elim (cases_eq k j) [
  | inl same ↦ subst (λ i. HasRoom (folded_of (shard_in set i) (lists.whole i))) same h.0
  | inr differs ↦ room_at set lists (k + 1) n h.1 j (omega (arith, low, differs)) (omega (arith, high))
]

module _ (set : Setting) (found : Found) where
  abbrev fresh : Core
  fresh = new_core set.shape set.limits (opens_with set found) found.opened

  none_waits : (g : ℕ) → (group_of g fresh).waiting ≡ []
  none_waits g = none_of (range_with_len 0 set.shape.shards) g
    where
      none_of : (shards : List ℕ) (i : ℕ) → (slice_index_or (map (taken_group set.shape (opens_with set found)) shards) i (new_group set.shape g 0 0 [])).waiting ≡ []
      none_of [] i = refl
      none_of (s ∷ shards) zero = refl
      none_of (s ∷ shards) (suc i) = none_of shards i

  -- members, what took effect, and what waits
  pub opens : OpensOn (new_core set.shape set.limits (opens_with set found) found.opened) (first_core set found)
  opens = opens_on set.shape set.limits (opens_with set found) found.opened none_waits

  -- all of the opened list
  pub front_first : (g : ℕ) → g < set.shape.shards → front_of g (first_core set found) ≡ (rank_of (opened_list set found g)).number
  front_first g low =
      opens.front g
      ∙ ap (λ (y : Group). y.front) (get_or-map-range_with_len (taken_group set.shape (opens_with set found)) 0 set.shape.shards g g (new_group set.shape g 0 0 []) low (omega arith))
      ∙ get_or-map-range_with_len (λ shard. (rank_of (opened_list set found shard)).number) 0 set.shape.shards g g 0 low (omega arith)

  first_catalogues : (first_core set found).catalogues ≡ (opens_with set found).catalogues
  first_catalogues =
      first_held (λ core. core.catalogues ≡ (opens_with set found).catalogues)
      (record {
        beside = λ a b beside is. beside.catalogues ∙ is;
        downed = λ peer c is. is;
        views = λ shard c low none is. (began_like (record { commands = λ line. None; name = set.name; limits = set.limits }) shard c).catalogues ∙ is;
      })
      set.shape set.limits (opens_with set found) found.opened refl

  module _ (memory : FoldsInMemory) (sound : AreSoundAlong set (whole_from (opened_lists set found) 0 set.shape.shards)) where
    roots_in : (g : ℕ) → g < set.shape.shards → length (opened_catalogue set found g).roots ≤ 16777216
    roots_in g low =
        let same : length (opened_catalogue set found g).roots ≡ length (folded_of (shard_in set g) (opened_list set found g)).roots =
        ap (λ (c : Catalogue). length c.roots) (memory set.name set.shape g (opened_list set found g)) ∙ length-map (folded_of (shard_in set g) (opened_list set found g)).roots record_of in
        let few : length (folded_of (shard_in set g) (opened_list set found g)).roots ≤ 16777216 =
        (room_at set (opened_lists set found) 0 set.shape.shards (recursion_from_All (λ (c : Folded). HasRoom c) (catalogues set 0 (whole_from (opened_lists set found) 0 set.shape.shards)) sound.sound.room) g (omega arith) (omega (arith, low))).records in
        omega (arith, same, few)

    few_roots : (g : ℕ) → length (catalogue_of g (first_core set found)).roots ≤ 16777216
    few_roots g = elim (cases_lt g set.shape.shards) [
      | inl low ↦
          let is : catalogue_of g (first_core set found) ≡ opened_catalogue set found g =
          ap (λ (cs : List Catalogue). slice_index_or cs g (empty_catalogue (shape_of (first_core set found)) g)) first_catalogues
          ∙ get_or-map-range_with_len (opened_catalogue set found) 0 set.shape.shards g g (empty_catalogue (shape_of (first_core set found)) g) low (omega arith) in
          subst (λ (c : Catalogue). length c.roots ≤ 16777216) (sym is) (roots_in g low)
      | inr high ↦
          let past : catalogue_of g (first_core set found) ≡ empty_catalogue (shape_of (first_core set found)) g =
          ap (λ (cs : List Catalogue). slice_index_or cs g (empty_catalogue (shape_of (first_core set found)) g)) first_catalogues
          ∙ get_or_past (opens_with set found).catalogues g (empty_catalogue (shape_of (first_core set found)) g) (let n = length-map-range_with_len (opened_catalogue set found) 0 set.shape.shards in omega (arith, n, high)) in
          subst (λ (c : Catalogue). length c.roots ≤ 16777216) (sym past) (omega arith)
    ]

    pub first_room : HasRecordRoom (first_core set found)
    first_room g =
        let none : count_by is_root (group_of g (first_core set found)).waiting ≡ 0 = no_roots (new_core set.shape set.limits (opens_with set found) found.opened).members g (group_of g (first_core set found)).waiting (opens.views g) in
        let few : length (catalogue_of g (first_core set found)).roots ≤ 16777216 = few_roots g in
        omega (arith, none, few)
