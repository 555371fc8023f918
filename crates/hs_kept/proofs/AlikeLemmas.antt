-- Where the logs that a shard has are one list, that list is taken, whichever of its peers have none.
use Rattle.std.proofs.Common.{◌≡◌, ◌∙◌, inl, ap, ℕ, zero, suc, ◌+◌, ◌*◌, ◌<◌, ◌≤◌, true, false, List, [], ◌∷◌, Option, Some, None, refl, length, drop, arith}
use Rattle.std.proofs.lemmas.List.{get_or-map, length-map}
use Rattle.std.specs.Option.{option_map_or}
use Rattle.std.specs.Prelude.{not, slice_index_or, unwrap_or}
use Rattle.hs_clauses.proofs.GreatestLemmas.{FoundFirst, counts_still, taken_there, within}
use Rattle.hs_entry.specs.Entries.{rank_of}
use Rattle.hs_events.specs.Sane.{IsFromOne}
use Rattle.hs_events.specs.Taken.{is_best, or_blank, taken_list, taken_lists}
use Rattle.hs_fold.specs.Opened.{chosen_each, outranks}
use Rattle.hs_fold.specs.Shards.Setting.{Numbered}
use Rattle.hs_limits.specs.Shape.{peer_of}
use Rattle.hs_limits.specs.declared.shape.Shape.{Shape}

-- ---- a shard

module _ (shape : Shape) (logs : List (Option Numbered)) (count : length logs ≡ shape.shards * shape.copies) (shard : ℕ) (low : shard < shape.shards)
    (numbered : (peer : ℕ) → peer_of shape shard 0 ≤ peer → peer < peer_of shape shard 0 + shape.copies → IsFromOne (unwrap_or (slice_index_or logs peer None) []))
    (peer : ℕ) (list : Numbered) (from : peer_of shape shard 0 ≤ peer) (to : peer < peer_of shape shard 0 + shape.copies) (at : slice_index_or logs peer None ≡ Some list)
    (same : (other : ℕ) (its : Numbered) → peer_of shape shard 0 ≤ other → other < peer_of shape shard 0 + shape.copies → slice_index_or logs other None ≡ Some its → its ≡ list) where
  found : FoundFirst (is_best shape logs shard) (peer_of shape shard 0) shape.copies
  found = taken_there shape logs count shard low peer list from to at

  blank : (p : ℕ) → p < peer_of shape shard 0 + shape.copies → slice_index_or (or_blank logs) p [] ≡ unwrap_or (slice_index_or logs p None) []
  blank p less = get_or-map (λ (log : Option Numbered). unwrap_or log []) logs p None [] (let w = within shape logs count shard low in omega (arith, less, w, count))

  log_there : (o : Option Numbered) → slice_index_or logs found.at None ≡ o → option_map_or (λ log. not (outranks (rank_of (taken_list shape logs shard)) (rank_of log))) o false ≡ true → unwrap_or (slice_index_or logs found.at None) [] ≡ list
  log_there None e h = cc h
  log_there (Some its) e h = ap (λ (o : Option Numbered). unwrap_or o []) e ∙ same found.at its found.from found.to e

  pub taken_is_one : slice_index_or (taken_lists shape logs) shard [] ≡ list
  taken_is_one =
      counts_still shape logs count shard low numbered found (or_blank logs) (length-map logs (λ (log : Option Numbered). unwrap_or log []) ∙ count) (blank found.at found.to) (λ p low high. inl (blank p high))
      ∙ log_there (slice_index_or logs found.at None) refl found.passes

-- ---- all shards

chosen_long : (n copies : ℕ) (lists : List Numbered) → length (chosen_each n copies lists) ≡ n
chosen_long zero copies lists = refl
chosen_long (suc n) copies lists = ap (λ k. suc k) (chosen_long n copies (drop copies lists))

alike_each : (xs ys : List Numbered) → length xs ≡ length ys → ((i : ℕ) → i < length xs → slice_index_or xs i [] ≡ slice_index_or ys i []) → xs ≡ ys
alike_each [] [] long h = refl
alike_each [] (y ∷ ys) long h = absurd (omega (arith, long))
alike_each (x ∷ xs) [] long h = absurd (omega (arith, long))
alike_each (x ∷ xs) (y ∷ ys) long h =
    let first : x ≡ y = h 0 (omega arith) in
    let rest : xs ≡ ys = alike_each xs ys (omega (arith, long)) (λ i low. h (suc i) (omega (arith, low))) in
    λ i. first i ∷ rest i

-- logs of which the same list is taken of each shard
pub taken_alike : (shape : Shape) (one other : List (Option Numbered)) → ((shard : ℕ) → shard < shape.shards → slice_index_or (taken_lists shape one) shard [] ≡ slice_index_or (taken_lists shape other) shard []) → taken_lists shape one ≡ taken_lists shape other
taken_alike shape one other h =
    let a : length (taken_lists shape one) ≡ shape.shards = chosen_long shape.shards shape.copies (or_blank one) in
    let b : length (taken_lists shape other) ≡ shape.shards = chosen_long shape.shards shape.copies (or_blank other) in
    alike_each (taken_lists shape one) (taken_lists shape other) (omega (arith, a, b)) (λ i low. h i (omega (arith, low, a)))
