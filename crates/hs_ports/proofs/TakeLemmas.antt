-- A piece from the front of what is left.
use Rattle.std.proofs.Common.{◌≡◌, ◌∙◌, ℕ, ◌+◌, ◌-◌, ◌<◌, ◌≤◌, List, ◌++◌, length, take, drop, Some, min, refl, ap, arith, append_assoc, add-zero, drop-drop, length-take-le}
use Rattle.std.proofs.Math.Seq.{take-append_seam}
use Rattle.std.proofs.lemmas.List.{take-append-drop, length-append, length-drop, append-nil, nil_from_length}
use Rattle.hs_ports.specs.Source.{Took}

-- the piece, and then the rest
pub piece_and_rest : (at n : ℕ) (bytes : List ℕ) → take n (drop at bytes) ++ drop (at + n) bytes ≡ drop at bytes
piece_and_rest at n bytes = rw (← drop-drop n at bytes) (take-append-drop n (drop at bytes))

-- a piece goes from the front of what is left to the end of what is held
pub took_piece : (at n max : ℕ) (bytes held held' : List ℕ) → at ≤ length bytes → n ≡ min max (length bytes - at) → 0 < max → held' ≡ held ++ take (at + n - at) (drop at bytes) → Took (Some (drop at bytes)) held (Some (drop (at + n) bytes)) held' max n
took_piece at n max bytes held held' in_range n_is some more =
    let short : n ≤ length (drop at bytes) = rw (length-drop at bytes) (omega arith) in
    let from_at : at + n - at ≡ n = omega arith in
    let new : held' ≡ held ++ take n (drop at bytes) = rw (more, from_at) refl in
    let size : length (take n (drop at bytes)) ≡ n = length-take-le n (drop at bytes) short in
    record {
      stream = rw new (ap Some (append_assoc held (take n (drop at bytes)) (drop (at + n) bytes) ∙ ap (λ (l : List ℕ). held ++ l) (piece_and_rest at n bytes)));
      front = rw new (take-append_seam held (take n (drop at bytes)));
      count = rw (new, length-append held (take n (drop at bytes)), size) refl;
      bound = omega arith;
      ended = λ none. nil_from_length (drop at bytes) (rw (length-drop at bytes) (omega arith));
      held_stays = λ none. rw (new, none) (append-nil held);
      left_stays = λ none. rw (none, add-zero at) refl;
    }
