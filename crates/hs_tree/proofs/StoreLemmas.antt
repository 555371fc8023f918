-- A file's pieces gathered, closed and finished.
use Rattle.std.proofs.Common.{◌≡◌, ◌⊎◌, inl, inr, ℕ, ◌+◌, ◌*◌, ◌<◌, ◌≤◌, List, [], ◌∷◌, ◌++◌, refl, sym, ap, ◌∙◌, subst, length, arith, append-nil, append_assoc, length-append}
use Rattle.std.proofs.lemmas.List.{length-map, map-append}
use Rattle.std.specs.List.{concat}
use Rattle.hs_asking.proofs.HandLemmas.{all_append}
use Rattle.hs_asking.specs.Shown.{Shown}
use Rattle.hs_limits.specs.declared.address.Address.{Address}
use Rattle.hs_tree.proofs.RunsLemmas.{concat-last, full_cut, full_cut_last, length-full, runs-concat, span-0}
use Rattle.hs_tree.specs.Growing.{IsGrown, piece_at, places_at, run_at}
use Rattle.hs_tree.specs.Steps.{AddsPiece, ClosesRun, IsFitting, IsRun}
use Rattle.hs_tree.specs.Storing.{HasAdded, IsCut, IsGathered, IsGathering, IsTaking}
use Rattle.hs_tree.specs.Trees.{runs, span, stored_cut}
use Rattle.hs_tree.specs.declared.grow.Node.{Node}

-- ---- counts

pub places-count : (h : ℕ) (cs : List (List ℕ)) → length (places_at h cs) ≡ length cs
places-count h cs = length-map cs (λ c. record { height = h; bytes = c })

pub places-last : (h : ℕ) (cs : List (List ℕ)) (c : List ℕ) → places_at h (cs ++ c ∷ []) ≡ places_at h cs ++ record { height = h; bytes = c } ∷ []
places-last h cs c = map-append (λ (c : List ℕ). record { height = h; bytes = c }) cs (c ∷ [])

pub no_length : {A : Type 0} (xs : List A) → length xs ≡ 0 → xs ≡ []
no_length [] e = refl
no_length (x ∷ xs) e = absurd (omega (arith, e))

module _ {tells : Type 0} (name : List ℕ → Address) (session : List ℕ) (start : Shown tells) where
  pub file-count : (now : Shown tells) (upper lower : List Node) (file : List ℕ) (g : IsGathering name session start now upper lower file) → length file ≡ 4194304 * length g.tops + 65536 * length g.pieces
  file-count now upper lower file g =
      let t : length (concat g.tops) ≡ 4194304 * length g.tops = length-full 4194304 g.tops g.full_tops in
      let p : length (concat g.pieces) ≡ 65536 * length g.pieces = length-full 65536 g.pieces g.full_pieces in
      let both : length (concat g.tops ++ concat g.pieces) ≡ length (concat g.tops) + length (concat g.pieces) = length-append (concat g.tops) (concat g.pieces) in
      let whole : length (concat g.tops ++ concat g.pieces) ≡ length file = ap (λ z. length z) g.whole in
      omega (arith, t, p, both, whole)

  pub fitting : (now : Shown tells) (upper lower : List Node) (file : List ℕ) (g : IsGathering name session start now upper lower file) → length file ≤ 67108864 → IsFitting upper lower (places_at 1 g.tops ++ places_at 0 g.pieces)
  fitting now upper lower file g h =
      let nodes : length (upper ++ lower) ≡ length upper + length lower = length-append upper lower in
      let places : length (places_at 1 g.tops ++ places_at 0 g.pieces) ≡ length (places_at 1 g.tops) + length (places_at 0 g.pieces) = length-append (places_at 1 g.tops) (places_at 0 g.pieces) in
      let u : length upper ≡ length g.tops = g.uppers in
      let l : length lower ≡ length g.pieces = g.lowers in
      let a : length (places_at 1 g.tops) ≡ length g.tops = places-count 1 g.tops in
      let b : length (places_at 0 g.pieces) ≡ length g.pieces = places-count 0 g.pieces in
      let count = file-count now upper lower file g in
      let few : length g.pieces ≤ 64 = g.few in
      record { counted = omega (arith, nodes, places, u, l, a, b); room = omega (arith, nodes, u, l, count, h, few) }

  -- a whole run is closed
  pub closed : (old mid : Shown tells) (upper lower after : List Node) (file : List ℕ) (g : IsGathering name session start old upper lower file) → length file ≤ 67108864 → length lower ≡ 64 → ClosesRun name session old mid 4194304 lower upper after → length after ≡ length upper + 1
      → IsGathering name session start mid after [] file
  closed old mid upper lower after file g fits full closes counted =
      let fit = fitting old upper lower file g fits in
      let pieces_are : length g.pieces ≡ 64 = sym g.lowers ∙ full in
      let bytes : 4194304 ≡ length (concat g.pieces) = let p : length (concat g.pieces) ≡ 65536 * length g.pieces = length-full 65536 g.pieces g.full_pieces in omega (arith, p, pieces_are) in
      let cut : runs (span stored_cut 0) (concat g.pieces) ≡ g.pieces = ap (λ n. runs n (concat g.pieces)) span-0 ∙ runs-concat 65536 g.pieces (omega arith) (full_cut 65536 g.pieces (omega arith) g.full_pieces) in
      let run : IsRun upper (places_at 1 g.tops) 0 g.pieces 4194304 = record { counted = g.uppers ∙ sym (places-count 1 g.tops); cut = cut; below = bytes } in
      let grown : IsGrown name session start mid after (places_at 1 g.tops ++ run_at 0 g.pieces ∷ []) = closes start (places_at 1 g.tops) 0 g.pieces run fit.room g.grown in
      let tops : List (List ℕ) = g.tops ++ concat g.pieces ∷ [] in
      let places : places_at 1 g.tops ++ run_at 0 g.pieces ∷ [] ≡ places_at 1 tops ++ places_at 0 [] = sym (places-last 1 g.tops (concat g.pieces)) ∙ sym (append-nil (places_at 1 tops)) in
      let nodes : after ≡ after ++ [] = sym (append-nil after) in
      let more : length tops ≡ length g.tops + 1 = length-append g.tops (concat g.pieces ∷ []) in
      let u : length upper ≡ length g.tops = g.uppers in
      record {
        tops = tops;
        pieces = [];
        grown = subst (λ z. IsGrown name session start mid z (places_at 1 tops ++ places_at 0 [])) nodes (subst (λ z. IsGrown name session start mid after z) places grown);
        uppers = omega (arith, counted, u, more);
        lowers = refl;
        few = omega arith;
        full_tops = all_append (λ (c : List ℕ). length c ≡ 4194304) g.tops (concat g.pieces ∷ []) g.full_tops (sym bytes, tt);
        full_pieces = tt;
        whole = append-nil (concat tops) ∙ (concat-last g.tops (concat g.pieces) ∙ g.whole);
      }

  -- a piece is added
  pub added : (old new : Shown tells) (upper lower after : List Node) (file piece : List ℕ) (g : IsGathering name session start old upper lower file) → length file ≤ 67108864 → length lower < 64 → length piece ≤ 65536 → (length piece ≡ 0 → file ≡ []) → AddsPiece name session old new piece lower after → length after ≡ length lower + 1
      → HasAdded name session start new upper after file piece
  added old new upper lower after file piece g fits room_left short first adds counted =
      let fit = fitting old upper lower file g fits in
      let grown : IsGrown name session start new (upper ++ after) ((places_at 1 g.tops ++ places_at 0 g.pieces) ++ piece_at piece ∷ []) = adds start upper (places_at 1 g.tops ++ places_at 0 g.pieces) fit g.grown in
      let pieces : List (List ℕ) = g.pieces ++ piece ∷ [] in
      let places : (places_at 1 g.tops ++ places_at 0 g.pieces) ++ piece_at piece ∷ [] ≡ places_at 1 g.tops ++ places_at 0 pieces = append_assoc (places_at 1 g.tops) (places_at 0 g.pieces) (piece_at piece ∷ []) ∙ ap (λ z. places_at 1 g.tops ++ z) (sym (places-last 0 g.pieces piece)) in
      let there : IsGrown name session start new (upper ++ after) (places_at 1 g.tops ++ places_at 0 pieces) = subst (λ z. IsGrown name session start new (upper ++ after) z) places grown in
      let more : length pieces ≡ length g.pieces + 1 = length-append g.pieces (piece ∷ []) in
      let l : length lower ≡ length g.pieces = g.lowers in
      let whole : concat g.tops ++ concat pieces ≡ file ++ piece = ap (λ z. concat g.tops ++ z) (concat-last g.pieces piece) ∙ (sym (append_assoc (concat g.tops) (concat g.pieces) piece) ∙ ap (λ z. z ++ piece) g.whole) in
      let few : length pieces ≤ 64 = omega (arith, more, l, room_left) in
      let some : 0 < length pieces = omega (arith, more) in
      let lowers : length after ≡ length pieces = omega (arith, counted, l, more) in
      record {
        gathered = record { tops = g.tops; pieces = pieces; grown = there; uppers = g.uppers; lowers = lowers; few = few; some = some; full_tops = g.full_tops; cut = cut_of piece refl; whole = whole };
        going_on = λ full room. record {
          gathering = record { tops = g.tops; pieces = pieces; grown = there; uppers = g.uppers; lowers = lowers; few = few; full_tops = g.full_tops; full_pieces = all_append (λ (c : List ℕ). length c ≡ 65536) g.pieces (piece ∷ []) g.full_pieces (full, tt); whole = whole };
          some = λ h. some;
          fits = room;
        };
      }
    where
      none : length piece ≡ 0 → (g.tops ≡ []) × (g.pieces ≡ [])
      none e =
          let count = file-count old upper lower file g in
          let empty : length file ≡ 0 = ap (λ z. length z) (first e) in
          (no_length g.tops (omega (arith, count, empty)), no_length g.pieces (omega (arith, count, empty)))

      cut_of : (p : List ℕ) → piece ≡ p → IsCut 65536 (g.pieces ++ piece ∷ []) ⊎ (g.tops ≡ []) × (g.pieces ++ piece ∷ [] ≡ [] ∷ [])
      cut_of [] e = let n = none (ap (λ z. length z) e) in inr (n.0, λ i. n.1 i ++ e i ∷ [])
      cut_of (x ∷ xs) e = inl (full_cut_last 65536 g.pieces piece g.full_pieces (let k : length piece ≡ length (x ∷ xs) = ap (λ z. length z) e in omega (arith, k)) short)

  -- nothing more came
  pub ended : (now : Shown tells) (upper lower : List Node) (file : List ℕ) → IsTaking name session start now upper lower file → 0 < length file → IsGathered name session start now upper lower (file ++ [])
  ended now upper lower file t p =
      let g = t.gathering in
      record { tops = g.tops; pieces = g.pieces; grown = g.grown; uppers = g.uppers; lowers = g.lowers; few = g.few; some = t.some p; full_tops = g.full_tops; cut = inl (full_cut 65536 g.pieces (omega arith) g.full_pieces); whole = g.whole ∙ sym (append-nil file) }
