-- What a crash may make of bytes that weren't synced.
use Rattle.std.proofs.Common.{◌≡◌, ◌∙◌, ◌⊎◌, inl, inr, ℕ, ◌+◌, ◌-◌, ◌<◌, ◌≤◌, min, List, ◌++◌, length, take, drop, sym, arith, length-append, length-drop, length-take}
use Rattle.std.proofs.lemmas.List.{get_or-take, get_or-drop, get_or-append_right, get_or_past}
use Rattle.std.proofs.Math.ListN.{get_or-append}
use Rattle.hs_ports.specs.Disk.{Loose, IsImage, byte_at, written, shortened, overwritten}
use Rattle.hs_ports.specs.Image.{Filled}
use Rattle.hs_ports.specs.ReplayLaws.{overwritten_image}

pub overwritten_length : (c bytes : List ℕ) (at : ℕ)
    → length (overwritten at bytes c) ≡ min at (length c) + length bytes + (length c - (at + length bytes))
overwritten_length c bytes at =
    let front : length (take at c) ≡ min at (length c) = length-take at c in
    let both : length (take at c ++ bytes) ≡ length (take at c) + length bytes = length-append (take at c) bytes in
    let rest : length (drop (at + length bytes) c) ≡ length c - (at + length bytes) = length-drop (at + length bytes) c in
    let all : length (overwritten at bytes c) ≡ length (take at c ++ bytes) + length (drop (at + length bytes) c)
    = length-append (take at c ++ bytes) (drop (at + length bytes) c) in
    omega arith

pub overwritten_before : (c bytes : List ℕ) (at i : ℕ) → i < at → i < length c
    → byte_at (overwritten at bytes c) i ≡ byte_at c i
overwritten_before c bytes at i before inside =
    let front : length (take at c) ≡ min at (length c) = length-take at c in
    let both : length (take at c ++ bytes) ≡ length (take at c) + length bytes = length-append (take at c) bytes in
    let low : i < length (take at c) = omega arith in
    get_or-append (take at c ++ bytes) (drop (at + length bytes) c) 0 i (omega arith)
    ∙ get_or-append (take at c) bytes 0 i low
    ∙ get_or-take at c i 0 before

pub overwritten_behind : (c bytes : List ℕ) (at i : ℕ) → at ≤ length c → at + length bytes ≤ i
    → byte_at (overwritten at bytes c) i ≡ byte_at c i
overwritten_behind c bytes at i inside after =
    let front : length (take at c) ≡ min at (length c) = length-take at c in
    let both : length (take at c ++ bytes) ≡ length (take at c) + length bytes = length-append (take at c) bytes in
    let seam : length (take at c ++ bytes) ≡ at + length bytes = omega arith in
    let same : at + length bytes + (i - (at + length bytes)) ≡ i = omega arith in
    let one = rw same at (get_or-drop (at + length bytes) c (i - (at + length bytes)) 0) in
    get_or-append_right (take at c ++ bytes) (drop (at + length bytes) c) (at + length bytes) i 0 seam after ∙ one

where_is : (i n : ℕ) → (i < n) ⊎ (n ≤ i)
where_is i n = grind arith

-- a piece of k bytes within what is there
pub filled_of : (c piece : List ℕ) (at n : ℕ) → length piece ≤ n → length piece ≤ length c - at
    → Filled at n c (overwritten at piece c)
filled_of c piece at n short within =
    let size : length (overwritten at piece c) ≡ min at (length c) + length piece + (length c - (at + length piece)) = overwritten_length c piece at in
    let same : length (overwritten at piece c) ≡ length c = omega arith in
    let past : (i : ℕ) → length c ≤ i → byte_at (overwritten at piece c) i ≡ byte_at c i = λ i high.
    get_or_past (overwritten at piece c) i 0 (omega arith) ∙ sym (get_or_past c i 0 high) in
    record {
      size = same;
      outside = λ i out. elim (where_is i (length c)) [
        | inr high ↦ past i high
        | inl low ↦ elim out [
          | inl before ↦ overwritten_before c piece at i before low
          | inr after ↦ overwritten_behind c piece at i (omega arith) (omega arith)
        ]
      ];
    }

-- a write that failed may leave its range filled
pub filled_written : (l : Loose) (c d : List ℕ) (at n : ℕ) → IsImage l c → Filled at n c d → IsImage (written at n l) d
filled_written l c d at n image filled =
    let size = filled.size in
    let shorter = image.no_shorter in
    let longer = image.no_longer in
    record {
      no_shorter = omega arith;
      no_longer = omega arith;
      kept = λ i low out. filled.outside i out.0 ∙ image.kept i low out.1;
    }

-- a cut that failed may leave all past its length filled
pub filled_shortened : (l : Loose) (c d : List ℕ) (len n : ℕ) → IsImage l c → Filled len n c d → IsImage (shortened len l) d
filled_shortened l c d len n image filled =
    let size = filled.size in
    let shorter = image.no_shorter in
    let longer = image.no_longer in
    record {
      no_shorter = omega arith;
      no_longer = omega arith;
      kept = λ i low out. filled.outside i (inl (omega arith)) ∙ image.kept i (omega arith) out;
    }

-- a write may leave the first part of its bytes, and any bytes past the end for the rest
pub half_written : (l : Loose) (c half rest : List ℕ) (at n : ℕ) → IsImage l c
    → length half ≤ n
    → length rest ≡ n - min n (length (overwritten at half c) - min (length c) at)
    → IsImage (written at n l) (overwritten at half c ++ rest)
half_written l c half rest at n image short padded =
    let size : length (overwritten at half c) ≡ min at (length c) + length half + (length c - (at + length half)) = overwritten_length c half at in
    let all : length (overwritten at half c ++ rest) ≡ length (overwritten at half c) + length rest = length-append (overwritten at half c) rest in
    let shorter = image.no_shorter in
    let longer = image.no_longer in
    let written_half = overwritten_image l c half at image in
    record {
      no_shorter = omega arith;
      no_longer = omega arith;
      kept = λ i low out.
          get_or-append (overwritten at half c) rest 0 i (omega arith)
          ∙ written_half.kept i low (elim out.0 [ inl before ↦ inl before | inr after ↦ inr (omega arith) ], out.1);
    }
