-- With any number of copies the lists with which a run opens whose core goes on are those of its disks at entry.
use Rattle.std.proofs.Common.{◌≡◌, ◌∙◌, ◌⊎◌, inl, inr, ap, sym, subst, ℕ, zero, suc, ◌+◌, ◌<◌, ◌≤◌, Bool, true, false, List, [], ◌∷◌, Option, Some, None, refl, length, drop, arith, if◌then◌else◌}
use Rattle.std.proofs.lemmas.Bool.{false≢true}
use Rattle.std.proofs.lemmas.List.{get_or-map, length-map}
use Rattle.std.specs.Prelude.{IsSome, slice_index_or, unwrap_or}
use Rattle.hs_clauses.proofs.AsideLemmas.{EachTaken, TellsDown, each_taken, set_aside, some_good, taken_at, taken_counts, taken_log, tells_down}
use Rattle.hs_clauses.proofs.EntryLemmas.{entry_count, entry_log}
use Rattle.hs_clauses.proofs.GreatestLemmas.{FoundFirst, counts_still, within}
use Rattle.hs_clauses.proofs.ReadLemmas.{from_empty, read_from_one}
use Rattle.hs_events.specs.Found.{first_core, opened_list, starts_good}
use Rattle.hs_events.specs.Sane.{IsFromOne}
use Rattle.hs_events.specs.Taken.{is_best, is_taken, or_blank, peer_count, taken_list, taken_lists}
use Rattle.hs_fold.specs.Opened.{chosen_each}
use Rattle.hs_fold.specs.Shards.Setting.{Numbered}
use Rattle.hs_limits.specs.Shape.{IsShape, peer_of}
use Rattle.hs_ports.specs.declared.disk.Side.{Side}
use Rattle.hs_ports.specs.Moments.{disk_at}
use Rattle.hs_promise.specs.Entry.{entry_logs, is_aside}
use Rattle.hs_promise.specs.Found.{IsReadAs}
use Rattle.hs_promise.specs.Machine.{Went}
use Rattle.hs_promise.specs.Run.{Ran, Script}
use Rattle.hs_promise.specs.Story.{Story}
use Rattle.hs_side.specs.Current.{list_in}
use Rattle.hs_standing.specs.Lists.{Lists, whole_from}
use Rattle.hs_standing.specs.Opening.{opened_lists}

-- the lists with which a run opens are those at entry
abbrev pub OpensAtEntry : Script → Ran → Story → Type 0
OpensAtEntry S r story = taken_lists S.set.shape (entry_logs S r) ≡ whole_from (opened_lists S.set story.found) 0 S.set.shape.shards

-- the taken list of each shard, all of which took effect
abbrev pub taken_whole : Script → Story → Lists
taken_whole S story = record { whole = λ shard. taken_list S.set.shape story.found.logs shard; front = λ shard. length (taken_list S.set.shape story.found.logs shard) }

-- ---- lists by shard

pub chosen_long : (n copies : ℕ) (lists : List Numbered) → length (chosen_each n copies lists) ≡ n
chosen_long zero copies lists = refl
chosen_long (suc n) copies lists = ap (λ k. suc k) (chosen_long n copies (drop copies lists))

-- lists are the whole lists of so many shards where each is
pub as_whole : (lists : Lists) (xs : List Numbered) (k n : ℕ) → length xs ≡ n → ((j p : ℕ) → j < n → p ≡ k + j → slice_index_or xs j [] ≡ lists.whole p) → xs ≡ whole_from lists k n
as_whole lists [] k zero long h = refl
as_whole lists [] k (suc n) long h = absurd (omega (arith, long))
as_whole lists (x ∷ xs) k zero long h = absurd (omega (arith, long))
as_whole lists (x ∷ xs) k (suc n) long h =
    let first : x ≡ lists.whole k = h 0 k (omega arith) (omega arith) in
    let rest : xs ≡ whole_from lists (k + 1) n = as_whole lists xs (k + 1) n (omega (arith, long)) (λ j p low e. h (suc j) p (omega (arith, low)) (omega (arith, e))) in
    λ i. first i ∷ rest i

-- ---- a run

module _ (S : Script) (r : Ran) (story : Story) (went : Went S r story) (read : (peer : ℕ) → peer < peer_count S.set.shape → IsReadAs r story peer) (shape : IsShape S.set.shape) (disks : length r.old.disks ≡ peer_count S.set.shape)
    (tops : EachTaken S story.found) (down : TellsDown S r story) where
  -- the list of a peer, as it was read
  abbrev read_list : ℕ → Numbered
  read_list p = unwrap_or (slice_index_or story.found.logs p None) []

  one_read : (p : ℕ) → p < peer_count S.set.shape → IsFromOne (read_list p)
  one_read p low = elim (read p low) [
    | inl same ↦ subst (λ (o : Option Numbered). IsFromOne (unwrap_or o [])) (sym same) (seen (disk_at r.old.disks p).seen)
    | inr failed ↦ subst (λ (o : Option Numbered). IsFromOne (unwrap_or o [])) (sym failed.0) from_empty
  ]
    where
      seen : (sides : Side → List ℕ) → IsFromOne (unwrap_or (list_in sides) [])
      seen sides = go (list_in sides) refl
        where
          go : (o : Option Numbered) → list_in sides ≡ o → IsFromOne (unwrap_or o [])
          go None e = from_empty
          go (Some list) e = read_from_one sides list e

  -- what counts at entry of a peer
  blank_entry : (p : ℕ) → p < peer_count S.set.shape → slice_index_or (or_blank (entry_logs S r)) p [] ≡ unwrap_or (if is_aside S r p then None else list_in (disk_at r.old.disks p).seen) []
  blank_entry p low =
      get_or-map (λ (log : Option Numbered). unwrap_or log []) (entry_logs S r) p None [] (let n = entry_count S r in omega (arith, n, disks, low))
      ∙ ap (λ (o : Option Numbered). unwrap_or o []) (entry_log S r p (omega (arith, low, disks)))

  -- that which was read, or nothing
  each_entry : (p : ℕ) → p < peer_count S.set.shape → (slice_index_or (or_blank (entry_logs S r)) p [] ≡ read_list p) ⊎ (slice_index_or (or_blank (entry_logs S r)) p [] ≡ [])
  each_entry p low = by_aside (is_aside S r p) refl
    where
      Each : Type 0
      Each = (slice_index_or (or_blank (entry_logs S r)) p [] ≡ read_list p) ⊎ (slice_index_or (or_blank (entry_logs S r)) p [] ≡ [])

      none_some : (o : Option Numbered) → IsSome o → o ≡ None → ⊥
      none_some None some e = cc some
      none_some (Some list) some e = cc e

      by_failed : is_aside S r p ≡ false → slice_index_or story.found.logs p None ≡ None → (t g : Bool) → is_taken S.set.shape story.found.logs p ≡ t → starts_good story.found p ≡ g → Each
      by_failed counts none true g taken good = absurd (taken_log S story.found shape tops p low taken none)
      by_failed counts none false true untaken good = absurd (none_some (slice_index_or story.found.logs p None) (went.found.kept p good) none)
      by_failed counts none false false untaken bad = absurd (false≢true (sym counts ∙ set_aside S r story went shape tops down p low untaken bad))

      by_aside : (b : Bool) → is_aside S r p ≡ b → Each
      by_aside true aside = inr (blank_entry p low ∙ ap (λ b. unwrap_or (if b then None else list_in (disk_at r.old.disks p).seen) []) aside)
      by_aside false counts = elim (read p low) [
        | inl same ↦ inl (blank_entry p low ∙ ap (λ b. unwrap_or (if b then None else list_in (disk_at r.old.disks p).seen) []) counts ∙ ap (λ (o : Option Numbered). unwrap_or o []) (sym same))
        | inr failed ↦ by_failed counts failed.0 (is_taken S.set.shape story.found.logs p) (starts_good story.found p) refl refl
      ]

  -- ---- by shard

  module _ (shard : ℕ) (low : shard < S.set.shape.shards) where
    abbrev taken : FoundFirst (is_best S.set.shape story.found.logs shard) (peer_of S.set.shape shard 0) S.set.shape.copies
    taken = tops shard low

    inside : (p : ℕ) → peer_of S.set.shape shard 0 ≤ p → p < peer_of S.set.shape shard 0 + S.set.shape.copies → p < peer_count S.set.shape
    inside p from to = let w = within S.set.shape story.found.logs went.found.logs shard low in omega (arith, to, w)

    numbered : (p : ℕ) → peer_of S.set.shape shard 0 ≤ p → p < peer_of S.set.shape shard 0 + S.set.shape.copies → IsFromOne (read_list p)
    numbered p from to = one_read p (inside p from to)

    -- of what was read
    blank_read : (p : ℕ) → p < peer_count S.set.shape → slice_index_or (or_blank story.found.logs) p [] ≡ read_list p
    blank_read p less = get_or-map (λ (log : Option Numbered). unwrap_or log []) story.found.logs p None [] (let n = went.found.logs in omega (arith, n, less))

    pub taken_is : taken_list S.set.shape story.found.logs shard ≡ read_list taken.at
    taken_is =
        counts_still S.set.shape story.found.logs went.found.logs shard low numbered taken (or_blank story.found.logs)
        (length-map story.found.logs (λ (log : Option Numbered). unwrap_or log []) ∙ went.found.logs) (blank_read taken.at (inside taken.at taken.from taken.to))
        (λ p from to. inl (blank_read p (inside p from to)))

    -- of what counts at entry
    own : slice_index_or (or_blank (entry_logs S r)) taken.at [] ≡ read_list taken.at
    own = elim (read taken.at (inside taken.at taken.from taken.to)) [
      | inl same ↦ blank_entry taken.at (inside taken.at taken.from taken.to) ∙ ap (λ b. unwrap_or (if b then None else list_in (disk_at r.old.disks taken.at).seen) []) counts ∙ ap (λ (o : Option Numbered). unwrap_or o []) (sym same)
      | inr failed ↦ absurd (taken_log S story.found shape tops taken.at (inside taken.at taken.from taken.to) there failed.0)
    ]
      where
        there : is_taken S.set.shape story.found.logs taken.at ≡ true
        there = taken_at S story.found shape tops shard low

        counts : is_aside S r taken.at ≡ false
        counts = taken_counts S r story went shape tops taken.at (inside taken.at taken.from taken.to) there

    pub entry_is : slice_index_or (taken_lists S.set.shape (entry_logs S r)) shard [] ≡ taken_list S.set.shape story.found.logs shard
    entry_is =
        counts_still S.set.shape story.found.logs went.found.logs shard low numbered taken (or_blank (entry_logs S r))
        (length-map (entry_logs S r) (λ (log : Option Numbered). unwrap_or log []) ∙ entry_count S r ∙ disks) own
        (λ p from to. each_entry p (inside p from to))
        ∙ sym taken_is

  -- so are those of all shards
  pub taken_at_entry : taken_lists S.set.shape (entry_logs S r) ≡ whole_from (taken_whole S story) 0 S.set.shape.shards
  taken_at_entry =
      as_whole (taken_whole S story) (taken_lists S.set.shape (entry_logs S r)) 0 S.set.shape.shards (chosen_long S.set.shape.shards S.set.shape.copies (or_blank (entry_logs S r)))
      (λ j p low e. entry_is j low ∙ ap (taken_list S.set.shape story.found.logs) (let same : j ≡ p = omega (arith, e) in same))

-- where the core goes on

module _ (S : Script) (r : Ran) (story : Story) (went : Went S r story) (read : (peer : ℕ) → peer < peer_count S.set.shape → IsReadAs r story peer) (shape : IsShape S.set.shape) (disks : length r.old.disks ≡ peer_count S.set.shape)
    (going : (first_core S.set story.found).ended ≡ None) where
  opened_is : (shard : ℕ) → shard < S.set.shape.shards → opened_list S.set story.found shard ≡ taken_list S.set.shape story.found.logs shard
  opened_is shard low = ap (λ b. if b then taken_list S.set.shape story.found.logs shard else []) (some_good S story.found shape went.found.logs went.found.kept going shard low)

  pub opens_at_entry : OpensAtEntry S r story
  opens_at_entry =
      as_whole (opened_lists S.set story.found) (taken_lists S.set.shape (entry_logs S r)) 0 S.set.shape.shards (chosen_long S.set.shape.shards S.set.shape.copies (or_blank (entry_logs S r)))
      (λ j p low e.
      entry_is S r story went read shape disks (each_taken S story.found shape went.found.logs went.found.kept going) (tells_down S r story went shape going) j low
      ∙ sym (opened_is j low) ∙ ap (opened_list S.set story.found) (let same : j ≡ p = omega (arith, e) in same))
