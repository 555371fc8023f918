-- As a core opens with lists that are numbered from 1 on, each block is of an entry that took effect.
use Rattle.std.proofs.Common.{◌≡◌, ◌∙◌, sym, ap, subst, ◌⊎◌, inl, inr, ℕ, ◌+◌, ◌<◌, ◌≤◌, List, [], ◌∷◌, arith, length}
use Rattle.std.proofs.lemmas.Bool.{cases_lt}
use Rattle.std.proofs.lemmas.List.{get_or_past}
use Rattle.std.proofs.lemmas.List.FromFn.{get_or-map-range_with_len, length-map-range_with_len}
use Rattle.std.specs.List.{enumerate_from}
use Rattle.hs_core_words.specs.Looking.{catalogue_of, front_of}
use Rattle.hs_core_words.specs.Opening.{Taken, begin_views, new_core, note_down, open_core, taken_group}
use Rattle.hs_core_words.specs.State.{Core}
use Rattle.hs_entry.specs.declared.entry.Entry.{Entry}
use Rattle.hs_entry.specs.Entries.{rank_of}
use Rattle.hs_events.specs.Found.{Found, first_core, opened_catalogue, opened_list, opens_with}
use Rattle.hs_events.specs.Sane.{IsFromOne}
use Rattle.hs_fold.specs.Shards.Setting.{Numbered, Setting}
use Rattle.hs_limits.specs.declared.address.Address.{Address}
use Rattle.hs_limits.specs.declared.limits.Limits.{Limits}
use Rattle.hs_limits.specs.declared.shape.Shape.{Shape}
use Rattle.hs_memory.specs.Forget.{apply_all, named}
use Rattle.hs_moments.proofs.WorkLemmas.{last_is}
use Rattle.hs_replica.specs.Group.{Group, new_group}
use Rattle.hs_shard.specs.Apply.{apply}
use Rattle.hs_shard.specs.Facts.{Catalogue, empty_catalogue}
use Rattle.hs_clauses.proofs.EventLemmas.{numbers_end, numbers_opening}
use Rattle.hs_clauses.proofs.NumberLemmas.{within_applied}
use Rattle.hs_clauses.specs.Numbered.{AreNumbered, AreWithin}

-- ---- first views and notes

opens_numbered : (shape : Shape) (limits : Limits) (found : Taken) (moment : ℕ) → AreNumbered (new_core shape limits found moment) → AreNumbered (open_core shape limits found moment)
opens_numbered shape limits found moment its =
    let first : Core = new_core shape limits found moment in
    numbers_end (note_down (begin_views first)) (numbers_opening first its)

-- ---- the lists

-- the numbers of a list that is read from its first on
counted_within : (name : List ℕ → Address) (m top : ℕ) (es : List Entry) (c : Catalogue) → 1 ≤ m → m + length es ≤ top + 1 → AreWithin top c.blocks → AreWithin top (apply_all name c (enumerate_from m es)).blocks
counted_within name m top [] c some few its = its
counted_within name m top (x ∷ es) c some few its =
    counted_within name (m + 1) top es (apply m x (named name x) c).catalogue (omega (arith, some)) (omega (arith, few)) (within_applied top m x (named name x) c some (omega (arith, few)) its)

module _ (set : Setting) (found : Found) (lists : (shard : ℕ) → shard < set.shape.shards → IsFromOne (opened_list set found shard)) where
  abbrev taken : Taken
  taken = opens_with set found

  abbrev start : Core
  start = new_core set.shape set.limits (opens_with set found) found.opened

  -- ---- a shard of the store

  module _ (k : ℕ) (low : k < set.shape.shards) where
    list : IsFromOne (opened_list set found k)
    list = lists k low

    front : front_of k (new_core set.shape set.limits (opens_with set found) found.opened) ≡ length list.entries
    front =
        ap (λ (g : Group). g.front) (get_or-map-range_with_len (taken_group set.shape (opens_with set found)) 0 set.shape.shards k k (new_group set.shape k 0 0 []) low (omega arith))
        ∙ get_or-map-range_with_len (λ shard. (rank_of (opened_list set found shard)).number) 0 set.shape.shards k k 0 low (omega arith)
        ∙ ap (λ (es : Numbered). (rank_of es).number) list.counted ∙ last_is list.entries list.plain

    within : AreWithin (length list.entries) (opened_catalogue set found k).blocks
    within =
        subst (λ (es : Numbered). AreWithin (length list.entries) (apply_all set.name (empty_catalogue set.shape k) es).blocks) (sym list.counted)
        (counted_within set.name 1 (length list.entries) list.entries (empty_catalogue set.shape k) (omega arith) (omega arith) tt)

    here_within : AreWithin (front_of k (new_core set.shape set.limits (opens_with set found) found.opened)) (catalogue_of k (new_core set.shape set.limits (opens_with set found) found.opened)).blocks
    here_within =
        let is : catalogue_of k start ≡ opened_catalogue set found k =
        get_or-map-range_with_len (opened_catalogue set found) 0 set.shape.shards k k (empty_catalogue set.shape k) low (omega arith) in
        subst (λ (x : Catalogue). AreWithin (front_of k start) x.blocks) (sym is) (subst (λ n. AreWithin n (opened_catalogue set found k).blocks) (sym front) within)

  -- ---- all of them

  start_numbered : AreNumbered (new_core set.shape set.limits (opens_with set found) found.opened)
  start_numbered k = by (cases_lt k set.shape.shards)
    where
      by : (k < set.shape.shards) ⊎ (set.shape.shards ≤ k) → AreWithin (front_of k start) (catalogue_of k start).blocks
      by (inl low) = here_within k low
      by (inr high) =
          let past : catalogue_of k start ≡ empty_catalogue set.shape k =
          get_or_past taken.catalogues k (empty_catalogue set.shape k) (let n = length-map-range_with_len (opened_catalogue set found) 0 set.shape.shards in omega (arith, n, high)) in
          subst (λ (x : Catalogue). AreWithin (front_of k start) x.blocks) (sym past) tt

  pub first_numbered : AreNumbered (first_core set found)
  first_numbered = opens_numbered set.shape set.limits (opens_with set found) found.opened start_numbered
