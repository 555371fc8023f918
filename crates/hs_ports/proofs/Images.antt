-- What a crash may leave, call by call: what a read gives is always one of its contents.
use Rattle.std.proofs.Common.{◌≡◌, ◌∙◌, inl, inr, ℕ, ◌+◌, ◌-◌, ◌<◌, ◌≤◌, List, ◌++◌, length, take, drop, get_or, refl, ap, sym, arith, append_assoc, length-append, length-drop, length-take-le, take_all}
use Rattle.std.proofs.Math.Seq.{take-append_seam, drop-append_seam}
use Rattle.std.proofs.lemmas.List.{ext_get_or, get_or-take, get_or-drop}
use Rattle.hs_ports.specs.ReplayLaws.{written_image, shortened_image}
use Rattle.hs_ports.specs.Disk.{Loose, IsImage, byte_at, settled, written, shortened, overwritten, Torn, Clipped}

-- two contents with one front have its bytes
same_front : (n i : ℕ) (c d : List ℕ) → take n d ≡ take n c → i < n → byte_at d i ≡ byte_at c i
same_front n i c d e h = sym (get_or-take n d i 0 h) ∙ ap (λ (l : List ℕ). get_or l i 0) e ∙ get_or-take n c i 0 h

-- two contents with one back have its bytes
same_back : (n i : ℕ) (c d : List ℕ) → drop n d ≡ drop n c → n ≤ i → byte_at d i ≡ byte_at c i
same_back n i c d e h =
    let at_i : n + (i - n) ≡ i = omega arith in
    let one = rw at_i at (get_or-drop n d (i - n) 0) in
    let two = rw at_i at (get_or-drop n c (i - n) 0) in
    sym one ∙ ap (λ (l : List ℕ). get_or l (i - n) 0) e ∙ two

-- after a sync that succeeded a crash may leave what a read gives
pub settled_image : (c : List ℕ) → IsImage (settled c) c
settled_image c = record { no_shorter = omega arith; no_longer = omega arith; kept = λ i low out. refl }

-- and nothing else
pub settled_only : (c d : List ℕ) → IsImage (settled c) d → d ≡ c
settled_only c d image = ext_get_or 0 d c (omega arith) (λ i low. image.kept i (omega arith) tt)

-- after a write that failed, and so after one that was done, it may leave what a read gives
pub torn_image : (l : Loose) (c d : List ℕ) (at n : ℕ) → IsImage l c → Torn at n c d → IsImage (written at n l) d
torn_image l c d at n image torn = record {
  no_shorter = omega arith;
  no_longer = omega arith;
  kept = λ i low out. elim out.0 [ inl before ↦ same_front at i c d torn.front before ∙ image.kept i low out.1 | inr after ↦ same_back (at + n) i c d torn.back after ∙ image.kept i low out.1 ];
}

-- a write that was done is one of the ways in which one may fail
pub overwritten_torn : (c bytes : List ℕ) (at : ℕ) → at ≤ length c → Torn at (length bytes) c (overwritten at bytes c)
overwritten_torn c bytes at h =
    let size : length (take at c) ≡ at = length-take-le at c h in
    let front_size : length (take at c ++ bytes) ≡ at + length bytes = length-append (take at c) bytes ∙ ap (λ (m : ℕ). m + length bytes) size in
    let whole : length (overwritten at bytes c) ≡ at + length bytes + (length c - (at + length bytes)) = length-append (take at c ++ bytes) (drop (at + length bytes) c) ∙ rw (front_size, length-drop (at + length bytes) c) refl in
    let front : take (length (take at c)) (take at c ++ (bytes ++ drop (at + length bytes) c)) ≡ take at c = take-append_seam (take at c) (bytes ++ drop (at + length bytes) c) in
    let back : drop (length (take at c ++ bytes)) (take at c ++ bytes ++ drop (at + length bytes) c) ≡ drop (at + length bytes) c = drop-append_seam (take at c ++ bytes) (drop (at + length bytes) c) in
    record {
      front = rw append_assoc (rw size at front);
      back = rw front_size at back;
      no_shorter = rw whole (omega arith);
      no_longer = rw whole (omega arith);
    }

-- after a cut that failed, and so after one that was done, it may leave what a read gives
pub clipped_image : (l : Loose) (c d : List ℕ) (len : ℕ) → IsImage l c → Clipped len c d → IsImage (shortened len l) d
clipped_image l c d len image clipped = record {
  no_shorter = omega arith;
  no_longer = omega arith;
  kept = λ i low out. same_front len i c d clipped.front (omega arith) ∙ image.kept i (omega arith) out;
}

-- a cut that was done is one of the ways in which one may fail
pub take_clipped : (c : List ℕ) (len : ℕ) → len ≤ length c → Clipped len c (take len c)
take_clipped c len h =
    let size : length (take len c) ≡ len = length-take-le len c h in
    record { front = take_all len (take len c) (omega arith); no_shorter = omega arith; no_longer = omega arith }

-- what may be left before a write may be left after it too
pub written_wider : (l : Loose) (c : List ℕ) (at n : ℕ) → IsImage l c → IsImage (written at n l) c
written_wider l c at n image = written_image l c at n image

-- and before a cut after it too
pub shortened_wider : (l : Loose) (c : List ℕ) (len : ℕ) → IsImage l c → IsImage (shortened len l) c
shortened_wider l c len image = shortened_image l c len image
