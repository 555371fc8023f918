-- Of one copy each, the log of a shard is that of its peer, where that has one.
use Rattle.std.proofs.Common.{◌≡◌, ◌∙◌, ap, ℕ, ◌+◌, ◌*◌, ◌/◌, ◌<◌, ◌==◌, ◌&&◌, ◌||◌, not, Bool, true, false, List, [], ◌∷◌, Option, Some, None, refl, length, is_some, arith, nat_lt, if◌then◌else◌}
use Rattle.std.proofs.lemmas.Bool.{eq-eqb}
use Rattle.std.proofs.lemmas.Bool.Decides.{nat_tests}
use Rattle.std.proofs.lemmas.List.{get_or-map, length-map}
use Rattle.std.specs.List.{range_with_len}
use Rattle.std.specs.Option.{option_map_or}
use Rattle.std.specs.Prelude.{find, slice_index_or, unwrap_or}
use Rattle.hs_entry.specs.declared.rank.Rank.{Rank}
use Rattle.hs_entry.specs.Entries.{rank_of}
use Rattle.hs_events.specs.Taken.{is_best, is_taken, or_blank, taken_list, taken_lists, taken_peer}
use Rattle.hs_fold.specs.Opened.{outranks}
use Rattle.hs_fold.specs.Shards.Setting.{Numbered}
use Rattle.hs_limits.specs.declared.shape.Shape.{Shape}
use Rattle.hs_members.specs.Members.{home_of, peers_of}
use Rattle.hs_standing.proofs.ImageLemmas.{chosen_of}

-- ---- small words

none_above : (rank : Rank) → outranks rank rank ≡ false
none_above rank = low rank.view rank.number
  where
    low : (view number : ℕ) → (nat_lt view view || (view == view && nat_lt number number)) ≡ false
    low view number = grind (arith, nat_tests)

blank_count : (logs : List (Option Numbered)) → length (or_blank logs) ≡ length logs
blank_count logs = length-map logs (λ (log : Option Numbered). unwrap_or log [])

-- the log of a peer, and whether it has one
abbrev pub log_at : List (Option Numbered) → ℕ → Option Numbered
log_at logs p = slice_index_or logs p None

abbrev pub has_log : List (Option Numbered) → ℕ → Bool
has_log logs p = is_some (slice_index_or logs p None)

module _ (shape : Shape) (logs : List (Option Numbered)) (one : shape.copies ≡ 1) (many : length logs ≡ shape.shards) where
  pub lists_are : taken_lists shape logs ≡ or_blank logs
  lists_are = chosen_of shape.shards shape.copies (or_blank logs) one (blank_count logs ∙ many)

  pub list_is : (p : ℕ) → p < shape.shards → taken_list shape logs p ≡ unwrap_or (slice_index_or logs p None) []
  list_is p low =
      ap (λ (lists : List Numbered). slice_index_or lists p []) lists_are
      ∙ get_or-map (λ (log : Option Numbered). unwrap_or log []) logs p None [] (let long = many in omega (arith, low, long))

  pub peers_are : (p : ℕ) → peers_of shape p ≡ p ∷ []
  peers_are p = ap (λ n. range_with_len (p * n + 0) n) one ∙ ap (λ k. k ∷ []) (omega arith)

  best : (p : ℕ) → p < shape.shards → is_best shape logs p p ≡ is_some (slice_index_or logs p None)
  best p low = go (slice_index_or logs p None) refl
    where
      go : (o : Option Numbered) → slice_index_or logs p None ≡ o → is_best shape logs p p ≡ is_some o
      go None e = ap (λ (o : Option Numbered). option_map_or (λ log. not (outranks (rank_of (taken_list shape logs p)) (rank_of log))) o false) e
      go (Some list) e =
          ap (λ (o : Option Numbered). option_map_or (λ log. not (outranks (rank_of (taken_list shape logs p)) (rank_of log))) o false) e
          ∙ ap (λ (l : Numbered). not (outranks (rank_of l) (rank_of list))) (list_is p low ∙ ap (λ (o : Option Numbered). unwrap_or o []) e)
          ∙ ap not (none_above (rank_of list))

  pub peer_is : (p : ℕ) → p < shape.shards → taken_peer shape logs p ≡ (if is_some (slice_index_or logs p None) then Some p else None)
  peer_is p low = ap (find (is_best shape logs p)) (peers_are p) ∙ ap (λ b. if b then Some p else None) (best p low)

  home_is : (p : ℕ) → home_of shape p ≡ p
  home_is p = ap (λ n. p / n) one ∙ omega arith

  -- its log is the taken one, where it has one
  pub taken_is : (p : ℕ) → p < shape.shards → is_taken shape logs p ≡ is_some (slice_index_or logs p None)
  taken_is p low =
      ap (λ g. option_map_or (λ q. q == p) (taken_peer shape logs g) false) (home_is p)
      ∙ ap (λ o. option_map_or (λ q. q == p) o false) (peer_is p low)
      ∙ go (is_some (slice_index_or logs p None))
    where
      go : (b : Bool) → option_map_or (λ q. q == p) (if b then Some p else None) false ≡ b
      go true = eq-eqb p p refl
      go false = refl
