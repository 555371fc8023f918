-- Laws of one side of a disk in memory: what the laws of `Disk` ask of it.
use Rattle.std.proofs.Common.{◌≡◌, ◌∙◌, inl, inr, ℕ, ◌+◌, ◌-◌, ◌<◌, ◌≤◌, min, Bool, true, false, not, ◌&&◌, nat_eq, List, [], ◌∷◌, ◌++◌, length, take, drop, refl, arith, length-append, length-drop, length-take}
use Rattle.std.proofs.lemmas.Bool.{lt-ltb, le-ltb}
use Rattle.std.proofs.lemmas.Bool.Decides.{nat_tests}
use Rattle.std.proofs.lemmas.List.{get_or-take, get_or-drop, get_or-append_right}
use Rattle.std.proofs.Math.ListN.{get_or-append}
use Rattle.hs_ports.specs.declared.change.Deed.{Deed}
use Rattle.hs_ports.specs.declared.change.Deed.TheVariants as deed
use Rattle.hs_ports.specs.Disk.{Loose, IsImage, settled, written, shortened, overwritten}
use Rattle.hs_ports.specs.Replay.{seen_after, loose_after, loose_during, seen_by, loose_by, last_by, is_earlier, past_by}
use Rattle.hs_ports.specs.Called.{Called}

-- a write that was done leaves one of the contents that it may leave
pub overwritten_image : (l : Loose) (c bytes : List ℕ) (at : ℕ) → IsImage l c
    → IsImage (written at (length bytes) l) (overwritten at bytes c)
overwritten_image l c bytes at image =
    let front : length (take at c) ≡ min at (length c) = length-take at c in
    let both : length (take at c ++ bytes) ≡ length (take at c) + length bytes = length-append (take at c) bytes in
    let rest : length (drop (at + length bytes) c) ≡ length c - (at + length bytes) = length-drop (at + length bytes) c in
    let all : length (overwritten at bytes c) ≡ length (take at c ++ bytes) + length (drop (at + length bytes) c)
    = length-append (take at c ++ bytes) (drop (at + length bytes) c) in
    let longer = image.no_longer in
    let shorter = image.no_shorter in
    record {
      no_shorter = omega arith;
      no_longer = omega arith;
      kept = λ i low out. elim out.0 [
        | inl before ↦
            let in_front : i < length (take at c) = omega arith in
            get_or-append (take at c ++ bytes) (drop (at + length bytes) c) 0 i (omega arith)
            ∙ get_or-append (take at c) bytes 0 i in_front
            ∙ get_or-take at c i 0 before ∙ image.kept i low out.1
        | inr after ↦
            let seam : length (take at c ++ bytes) ≡ at + length bytes = omega arith in
            let same : at + length bytes + (i - (at + length bytes)) ≡ i = omega arith in
            let one = rw same at (get_or-drop (at + length bytes) c (i - (at + length bytes)) 0) in
            get_or-append_right (take at c ++ bytes) (drop (at + length bytes) c) (at + length bytes) i 0 seam after
            ∙ one ∙ image.kept i low out.1
      ];
    }

-- a cut that was done leaves one of the contents that it may leave
pub cut_image : (l : Loose) (c : List ℕ) (len : ℕ) → IsImage l c → IsImage (shortened len l) (take len c)
cut_image l c len image =
    let size : length (take len c) ≡ min len (length c) = length-take len c in
    let longer = image.no_longer in
    let shorter = image.no_shorter in
    record {
      no_shorter = omega arith;
      no_longer = omega arith;
      kept = λ i low out. get_or-take len c i 0 (omega arith) ∙ image.kept i (omega arith) out;
    }

-- what may be left before a write may be left after it
pub written_image : (l : Loose) (c : List ℕ) (at n : ℕ) → IsImage l c → IsImage (written at n l) c
written_image l c at n image =
    record { no_shorter = image.no_shorter; no_longer = omega arith; kept = λ i low out. image.kept i low out.1 }

-- and before a cut after it
pub shortened_image : (l : Loose) (c : List ℕ) (len : ℕ) → IsImage l c → IsImage (shortened len l) c
shortened_image l c len image =
    let shorter = image.no_shorter in
    record { no_shorter = omega arith; no_longer = image.no_longer; kept = λ i low out. image.kept i (omega arith) out }

-- what was synced is what is left
pub settled_image : (c : List ℕ) → IsImage (settled c) c
settled_image c = record { no_shorter = omega arith; no_longer = omega arith; kept = λ i low out. refl }

-- after each deed what a read gives is one of the contents that a crash may leave
pub deed_image : (deed : Deed) (l : Loose) (c : List ℕ) → IsImage l c → IsImage (loose_after deed c l) (seen_after deed c)
deed_image (deed.Wrote at bytes) l c image = overwritten_image l c bytes at image
deed_image (deed.Cut len) l c image = cut_image l c len image
deed_image deed.Synced l c image = settled_image c
deed_image (deed.WriteFailed at len) l c image = written_image l c at len image
deed_image (deed.CutFailed len) l c image = shortened_image l c len image
deed_image deed.SyncFailed l c image = image

pub stays_by : (first : List ℕ) (calls : List Called) → IsImage (loose_by first calls) (seen_by first calls)
unfolding seen_by loose_by
stays_by first [] = settled_image first
stays_by first (call ∷ older) = deed_image call.deed (loose_by first older) (seen_by first older) (stays_by first older)

-- at a moment below a call's nothing changed
pub earlier_below : (call : Called) (older : List Called) (m : ℕ) → m < call.moment → is_earlier call older m ≡ true
earlier_below call older m low = rw (lt-ltb m call.moment low) refl

-- at a moment after all calls the last one counts
pub earlier_above : (call : Called) (older : List Called) (m : ℕ) → call.moment ≤ m → last_by older < m → is_earlier call older m ≡ false
earlier_above call older m high later =
    rw (le-ltb m call.moment high, le-ltb m (last_by older + 1) (omega arith)) (off call.kept)
  where
    off : (b : Bool) → (not b && false) ≡ false
    off true = refl
    off false = refl

pub past_earlier : (first : List ℕ) (call : Called) (older : List Called) (m : ℕ)
    → is_earlier call older m ≡ true → past_by first (call ∷ older) m ≡ past_by first older m
unfolding past_by
past_earlier first call older m is = rw is refl

same_number : (m : ℕ) → nat_eq m m ≡ true
same_number m = grind (arith, nat_tests)

differs : (m n : ℕ) → n < m → nat_eq m n ≡ false
differs m n h = grind (arith, nat_tests)

pub past_here : (first : List ℕ) (call : Called) (older : List Called)
    → is_earlier call older call.moment ≡ false
    → past_by first (call ∷ older) call.moment ≡ loose_during call.deed (loose_by first older)
unfolding past_by
past_here first call older is = rw (is, same_number call.moment) refl

pub past_above : (first : List ℕ) (call : Called) (older : List Called) (m : ℕ)
    → is_earlier call older m ≡ false → call.moment < m
    → past_by first (call ∷ older) m ≡ loose_by first (call ∷ older)
unfolding past_by loose_by
past_above first call older m is above = rw (is, differs m call.moment above) refl

-- at a moment after the last call a crash leaves what it may leave now
pub since_by : (first : List ℕ) (calls : List Called) (m : ℕ) → last_by calls < m → past_by first calls m ≡ loose_by first calls
unfolding last_by past_by loose_by
since_by first [] m later = refl
since_by first (call ∷ older) m later = past_above first call older m (earlier_above call older m (omega arith) (omega arith)) (omega arith)
