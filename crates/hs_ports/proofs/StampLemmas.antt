-- Bytes beside their moments.
use Rattle.std.proofs.Common.{◌≡◌, ℕ, List, [], ◌∷◌, ◌++◌, length, take, drop, map, refl, ap, arith, take_all, length-append}
use Rattle.std.specs.Prelude.{replicate, Some}
use Rattle.std.proofs.lemmas.Slice.Zip.{firsts-zip}
use Rattle.std.specs.List.{zip}
use Rattle.std.proofs.lemmas.List.{append-nil, drop_all, length-replicate}
use Rattle.hs_ports.specs.Sink.{stamped, Put}

-- one moment beside each byte
pub zip-replicate : (moment : ℕ) (piece : List ℕ) → zip piece (replicate (length piece) moment) ≡ stamped moment piece
zip-replicate moment [] = refl
zip-replicate moment (x ∷ piece) = ap (λ rest. (x, moment) ∷ rest) (zip-replicate moment piece)

pub stamping : (bytes moments : List ℕ) (moment : ℕ) (piece : List ℕ) → length moments ≡ length bytes → zip (bytes ++ piece) (moments ++ replicate (length piece) moment) ≡ zip bytes moments ++ stamped moment piece
stamping [] [] moment piece same = zip-replicate moment piece
stamping [] (m ∷ moments) moment piece same = absurd (omega arith)
stamping (b ∷ bytes) [] moment piece same = absurd (omega arith)
stamping (b ∷ bytes) (m ∷ moments) moment piece same = ap (λ rest. (b, m) ∷ rest) (stamping bytes moments moment piece (omega arith))

-- the bytes of a list of stamped bytes
pub firsts : (bytes moments : List ℕ) → length moments ≡ length bytes → map (λ (stamp : ℕ × ℕ). stamp.0) (zip bytes moments) ≡ bytes
firsts bytes moments same = firsts-zip bytes moments same

-- a whole piece was put
pub put_whole : (bytes moments piece bytes' moments' : List ℕ) (moment : ℕ) → length moments ≡ length bytes → bytes' ≡ bytes ++ piece → moments' ≡ moments ++ replicate (length piece) moment → Put (Some (zip bytes moments)) (Some (zip bytes' moments')) moment piece (length piece)
put_whole bytes moments piece bytes' moments' moment same more_bytes more_moments =
    let whole : take (length piece) piece ≡ piece = take_all (length piece) piece (omega arith) in
    let none_left : drop (length piece) piece ≡ [] = drop_all (length piece) piece (omega arith) in
    let even : length moments' ≡ length bytes' = rw (more_bytes, more_moments) (simp (length-append, length-replicate, same)) in
    record {
      front = rw (more_bytes, more_moments, whole) (ap Some (stamping bytes moments moment piece same));
      bytes = rw (whole, firsts bytes' moments' even, firsts bytes moments same, more_bytes) refl;
      stream = rw (none_left, append-nil, firsts bytes' moments' even, firsts bytes moments same, more_bytes) refl;
      bound = omega arith;
      some = λ h. h;
    }
