-- A run on disks that tell their contents opens with lists that tell no view where they have no entry.
use Rattle.std.proofs.Common.{◌≡◌, inl, inr, ◌∙◌, ap, sym, ℕ, zero, suc, ◌<◌, Bool, true, false, List, [], ◌∷◌, Option, Some, None, IfSome, refl, arith, length, take, drop}
use Rattle.std.specs.List.{AllByRecursion, list_any}
use Rattle.std.specs.Prelude.{if◌then◌else◌, slice_index_or, unwrap_or}
use Rattle.hs_clauses.proofs.ReadLemmas.{read_numbered}
use Rattle.hs_entry.specs.Entries.{rank_of}
use Rattle.hs_events.specs.Found.{starts_good}
use Rattle.hs_events.specs.Taken.{or_blank, peer_count, taken_list}
use Rattle.hs_fold.specs.Opened.{chosen, chosen_each, outranks}
use Rattle.hs_fold.specs.Shards.Setting.{Numbered}
use Rattle.hs_limits.specs.Shape.{IsShape}
use Rattle.hs_members.specs.Members.{peers_of}
use Rattle.hs_ports.specs.Moments.{disk_at}
use Rattle.hs_promise.specs.Machine.{Went, WentAs}
use Rattle.hs_promise.specs.Run.{Ran, Script}
use Rattle.hs_promise.specs.Story.{Story}
use Rattle.hs_run.specs.Machine.{HasReadDisks}
use Rattle.hs_settled.specs.Opened.{OpensRanked}
use Rattle.hs_side.specs.Current.{list_in}
use Rattle.hs_taking.proofs.EvenLemmas.{none_listed}

-- a list without an entry tells no view
abbrev IsRanked : Numbered → Type 0
IsRanked list = (rank_of list).number ≡ 0 → (rank_of list).view ≡ 0

blank_ranked : IsRanked []
unfolding rank_of
blank_ranked none = refl

blank_number : (rank_of []).number ≡ 0
unfolding rank_of
blank_number = refl

-- ---- of the lists of a shard one is chosen

chosen_ranked : (lists : List Numbered) → AllByRecursion IsRanked lists → IsRanked (chosen lists)
chosen_ranked [] all = blank_ranked
chosen_ranked (list ∷ lists) all = go (outranks (rank_of (chosen lists)) (rank_of list)) (chosen_ranked lists all.1)
  where
    go : (b : Bool) → IsRanked (chosen lists) → IsRanked (if b then chosen lists else list)
    go true rest = rest
    go false rest = all.0

take_ranked : (n : ℕ) (lists : List Numbered) → AllByRecursion IsRanked lists → AllByRecursion IsRanked (take n lists)
take_ranked zero lists all = tt
take_ranked (suc n) [] all = tt
take_ranked (suc n) (list ∷ lists) all = (all.0, take_ranked n lists all.1)

drop_ranked : (n : ℕ) (lists : List Numbered) → AllByRecursion IsRanked lists → AllByRecursion IsRanked (drop n lists)
drop_ranked zero lists all = all
drop_ranked (suc n) [] all = tt
drop_ranked (suc n) (list ∷ lists) all = drop_ranked n lists all.1

each_ranked : (shards copies g : ℕ) (lists : List Numbered) → AllByRecursion IsRanked lists → IsRanked (slice_index_or (chosen_each shards copies lists) g [])
each_ranked zero copies g lists all = blank_ranked
each_ranked (suc shards) copies zero lists all = chosen_ranked (take copies lists) (take_ranked copies lists all)
each_ranked (suc shards) copies (suc g) lists all = each_ranked shards copies g (drop copies lists) (drop_ranked copies lists all)

-- ---- as disks were read

logs_ranked : (logs : List (Option Numbered)) → ((peer : ℕ) → peer < length logs → IsRanked (unwrap_or (slice_index_or logs peer None) [])) → AllByRecursion IsRanked (or_blank logs)
logs_ranked [] h = tt
logs_ranked (log ∷ logs) h = (h 0 (omega arith), logs_ranked logs (λ peer low. h (suc peer) (omega (arith, low))))

module _ (S : Script) (r : Ran) (story : Story) (shape : IsShape S.set.shape) (went : Went S r story) (read : HasReadDisks S r story) where
  log_ranked : (peer : ℕ) → peer < peer_count S.set.shape → IsRanked (unwrap_or (slice_index_or story.found.logs peer None) [])
  log_ranked peer low = elim (read.read peer low) [
    | inl seen ↦ by_seen (slice_index_or story.found.logs peer None) seen
    | inr failed ↦ (λ none. ap (λ (o : Option Numbered). (rank_of (unwrap_or o [])).view) failed.0 ∙ blank_ranked (ap (λ (o : Option Numbered). (rank_of (unwrap_or o [])).number) (sym failed.0) ∙ none))
  ]
    where
      by_seen : (o : Option Numbered) → o ≡ list_in (disk_at r.old.disks peer).seen → IsRanked (unwrap_or o [])
      by_seen None e none = blank_ranked none
      by_seen (Some list) e none =
          ap (λ (xs : Numbered). (rank_of xs).view) (none_listed list (read_numbered (disk_at r.old.disks peer).seen list (sym e)) none) ∙ blank_ranked blank_number

  opens_ranked : OpensRanked S.set story.found
  opens_ranked = record { shape = shape; blank = λ g low. by_good g (list_any (starts_good story.found) (peers_of S.set.shape g)) }
    where
      by_good : (g : ℕ) (b : Bool) → IsRanked (if b then taken_list S.set.shape story.found.logs g else [])
      by_good g true = each_ranked S.set.shape.shards S.set.shape.copies g (or_blank story.found.logs) (logs_ranked story.found.logs (λ peer low. log_ranked peer (let n = went.found.logs in omega (arith, low, n))))
      by_good g false = blank_ranked

pub ranked_by : (S : Script) (r : Ran) (how : Option Story) → IsShape S.set.shape → WentAs S r how → IfSome how (HasReadDisks S r) → IfSome how (λ story. OpensRanked S.set story.found)
ranked_by S r None shape went read = tt
ranked_by S r (Some story) shape went read = opens_ranked S r story shape went read
