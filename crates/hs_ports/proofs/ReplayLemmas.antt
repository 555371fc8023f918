-- A record is done again, call by call.
use Rattle.std.proofs.Common.{◌≡◌, ◌∙◌, ℕ, ◌+◌, ◌<◌, ◌≤◌, Bool, true, false, cond, nat_lt, nat_eq, List, [], ◌∷◌, ◌++◌, length, take, get_or, refl, ap, sym, arith, length-take-le}
use Rattle.std.proofs.lemmas.List.{take_more}
use Rattle.hs_ports.specs.declared.change.Change.{Change}
use Rattle.hs_ports.specs.Disk.{settled}
use Rattle.hs_ports.specs.Image.{is_sync, told_onto, told_all, shown_with, shown_from}
use Rattle.hs_ports.specs.Replay.{seen_by, loose_by, seen_after, loose_after}
use Rattle.hs_ports.specs.Called.{Called, told}

-- one call more at the end is the newest
pub told_snoc : (older : List Called) (changes : List Change) (change : Change)
    → told_onto older (changes ++ change ∷ []) ≡ told change true ∷ told_onto older changes
unfolding told_onto
told_snoc older [] change = refl
told_snoc older (first ∷ changes) change = told_snoc (told first true ∷ older) changes change

pub shown_snoc : (m i n : ℕ) (changes : List Change) (change : Change)
    → shown_from m i n (changes ++ change ∷ []) ≡ shown_with m (i + length changes) (shown_from m i n changes) change
unfolding shown_from
shown_snoc m i n [] change = ap (λ (j : ℕ). shown_with m j n change) (omega arith)
shown_snoc m i n (first ∷ changes) change =
    shown_snoc m (i + 1) (shown_with m i n first) changes change
    ∙ ap (λ (j : ℕ). shown_with m j (shown_from m (i + 1) (shown_with m i n first) changes) change) (omega arith)

pub shown_with_bound : (m i n : ℕ) (change : Change) → n ≤ i → shown_with m i n change ≤ i + 1
shown_with_bound m i n change h = bound (nat_lt change.moment m) (nat_eq change.moment m) (is_sync change.deed)
  where
    bound : (a b s : Bool) → cond a (i + 1) (cond b (cond s i (i + 1)) n) ≤ i + 1
    bound true b s = omega arith
    bound false true true = omega arith
    bound false true false = omega arith
    bound false false s = omega arith

pub shown_bound : (m i n : ℕ) (changes : List Change) → n ≤ i → shown_from m i n changes ≤ i + length changes
unfolding shown_from
shown_bound m i n [] h = omega arith
shown_bound m i n (change ∷ changes) h =
    let rest = shown_bound m (i + 1) (shown_with m i n change) changes (shown_with_bound m i n change h) in
    omega (arith, rest)

pub shown_none : (m : ℕ) → 0 ≡ shown_from m 0 0 []
unfolding shown_from
shown_none m = refl

-- one call more of a record
pub shown_more : (m i n result : ℕ) (changes : List Change) (change : Change)
    → i < length changes
    → change ≡ get_or changes i change
    → n ≡ shown_from m 0 0 (take i changes)
    → result ≡ shown_with m i n change
    → result ≡ shown_from m 0 0 (take (i + 1) changes)
shown_more m i n result changes change low is so_far next =
    let size : length (take i changes) ≡ i = length-take-le i changes (omega arith) in
    let more : take (i + 1) changes ≡ take i changes ++ change ∷ [] =
    take_more changes i change low ∙ ap (λ (c : Change). take i changes ++ c ∷ []) (sym is) in
    let place : 0 + length (take i changes) ≡ i = omega arith in
    next ∙ ap (λ (k : ℕ). shown_with m i k change) so_far
    ∙ sym (rw place at (shown_snoc m 0 0 (take i changes) change))
    ∙ ap (λ (cs : List Change). shown_from m 0 0 cs) (sym more)

pub told_more : (i : ℕ) (changes : List Change) (change : Change)
    → i < length changes
    → change ≡ get_or changes i change
    → told_all (take (i + 1) changes) ≡ told change true ∷ told_all (take i changes)
told_more i changes change low is =
    ap told_all (take_more changes i change low ∙ ap (λ (c : Change). take i changes ++ c ∷ []) (sym is))
    ∙ told_snoc [] (take i changes) change

-- before the first call
pub seen_none : (first : List ℕ) → seen_by first (told_all []) ≡ first
unfolding seen_by told_onto
seen_none first = refl

pub loose_none : (first : List ℕ) → loose_by first (told_all []) ≡ settled first
unfolding loose_by told_onto
loose_none first = refl

-- one call more
pub seen_more : (first : List ℕ) (changes : List Change) (i : ℕ) (change : Change)
    → i < length changes
    → change ≡ get_or changes i change
    → seen_by first (told_all (take (i + 1) changes)) ≡ seen_after change.deed (seen_by first (told_all (take i changes)))
unfolding seen_by
seen_more first changes i change low is = ap (seen_by first) (told_more i changes change low is)

pub loose_more : (first : List ℕ) (changes : List Change) (i : ℕ) (change : Change)
    → i < length changes
    → change ≡ get_or changes i change
    → loose_by first (told_all (take (i + 1) changes))
    ≡ loose_after change.deed (seen_by first (told_all (take i changes))) (loose_by first (told_all (take i changes)))
unfolding loose_by
loose_more first changes i change low is = ap (loose_by first) (told_more i changes change low is)
