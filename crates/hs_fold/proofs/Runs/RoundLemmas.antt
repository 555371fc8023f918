-- Rounds end as long as the open one is complete, and what a round tells a shard is no more than a shard takes.
use Rattle.std.proofs.Common.{◌≡◌, ℕ, zero, suc, ◌+◌, ◌<◌, ◌≤◌, ◌==◌, ◌||◌, Bool, true, false, cond, not, List, [], ◌∷◌, length, filter, min, Some, is_some, nat_lt, refl, ap, ◌∙◌, arith, Ordering, Less, Equal, Greater, is_eq, nat_cmp}
use Rattle.std.proofs.lemmas.Bool.{and_parts}
use Rattle.std.proofs.lemmas.Bool.Decides.{nat_tests}
use Rattle.std.proofs.lemmas.List.{length-take}
use Rattle.std.specs.BTreeMap.{is_at}
use Rattle.std.specs.List.{list_all, range_with_len}
use Rattle.std.specs.Map.{lookup}
use Rattle.std.specs.Ordering.{ordering_then}
use Rattle.hs_limits.specs.declared.delta.Delta.{Delta}
use Rattle.hs_limits.specs.Shape.{shard_of}
use Rattle.hs_rounds.specs.declared.body.RoundBody.{RoundBody}
use Rattle.hs_rounds.specs.declared.place.Place.{Place}
use Rattle.hs_rounds.specs.Rounds.{GotList, place_cmp, is_before, told_by, have_told, from_round, body_for}
use Rattle.hs_fold.specs.Runs.Facts.{Catalogue}
use Rattle.hs_fold.specs.Runs.Rounds.{is_running, is_complete, is_last, settled, search, sweep, end_round, advance, advanced}

pub no-more : {X : Type 0} (test : X → Bool) (xs : List X) → length (filter test xs) ≤ length xs
no-more test [] = omega arith
no-more test (x ∷ xs) = go (test x) (no-more test xs)
  where
    go : (b : Bool) → length (filter test xs) ≤ length xs → length (cond b (x ∷ filter test xs) (filter test xs)) ≤ suc (length xs)
    go true ih = omega (arith, ih)
    go false ih = omega (arith, ih)

fewer : (p : Place → Bool) (test : Place × RoundBody → Bool) (gs : GotList) → is_some (lookup p gs) ≡ true → ((g : Place × RoundBody) → p g.0 ≡ true → test g ≡ false) → length (filter test gs) < length gs
fewer p test [] found out = cc found
fewer p test (g ∷ gs) found out = go (p g.0) refl found (λ h. fewer p test gs h out)
  where
    later : (b : Bool) → length (filter test gs) < length gs → length (cond b (g ∷ filter test gs) (filter test gs)) < suc (length gs)
    later true ih = omega (arith, ih)
    later false ih = omega (arith, ih)

    go : (b : Bool) → p g.0 ≡ b → is_some (cond b (Some g.1) (lookup p gs)) ≡ true → (is_some (lookup p gs) ≡ true → length (filter test gs) < length gs) → length (cond (test g) (g ∷ filter test gs) (filter test gs)) < suc (length gs)
    go true e h ih = rw (out g e) (let all = no-more test gs in omega (arith, all))
    go false e h ih = later (test g) (ih h)

-- ---- a place of the open round is before the next one

then-equal : (a b : Ordering) → is_eq (ordering_then a b) ≡ true → (is_eq a ≡ true) × (is_eq b ≡ true)
then-equal Less b e = cc e
then-equal Equal b e = (refl, e)
then-equal Greater b e = cc e

nat-equal : (m n : ℕ) → is_eq (nat_cmp m n) ≡ true → m ≡ n
nat-equal m n e = go (nat_cmp m n) refl e
  where
    go : (o : Ordering) → nat_cmp m n ≡ o → is_eq o ≡ true → m ≡ n
    go Less h k = cc k
    go Equal h k = grind (arith, h)
    go Greater h k = cc k

out-of-round : (p : Place) (g : Place × RoundBody) → is_at (place_cmp p) g.0 ≡ true → not (is_before p.epoch (p.round + 1) g.0) ≡ false
out-of-round p g e =
    let parts = then-equal (nat_cmp p.epoch g.0.epoch) (ordering_then (nat_cmp p.round g.0.round) (nat_cmp p.from g.0.from)) e in
    let rest = then-equal (nat_cmp p.round g.0.round) (nat_cmp p.from g.0.from) parts.1 in
    let epoch : p.epoch ≡ g.0.epoch = nat-equal p.epoch g.0.epoch parts.0 in
    let round : p.round ≡ g.0.round = nat-equal p.round g.0.round rest.0 in
    let same : (g.0.epoch == p.epoch) ≡ true = grind (arith, nat_tests, epoch) in
    let low : nat_lt g.0.round (p.round + 1) ≡ true = grind (arith, nat_tests, round) in
    ap (λ b. not (nat_lt g.0.epoch p.epoch || b)) (rw (same, low) refl) ∙ go (nat_lt g.0.epoch p.epoch)
  where
    go : (b : Bool) → not (b || true) ≡ false
    go true = refl
    go false = refl

-- the end of a round takes a Got away
got-fewer : (n : ℕ) (c : Catalogue) → 0 < n → is_complete n c ≡ true → length (end_round n c).got < length c.got
got-fewer zero c some e = absurd (omega (arith, some))
got-fewer (suc n) c some e = go (is_last (suc n) c)
  where
    place : Place
    place = record { epoch = c.epoch; round = c.round; from = 0 }

    first : is_some (lookup (is_at (place_cmp place)) c.got) ≡ true
    first = (and_parts (is_some (told_by c.epoch c.round c.got 0)) (list_all (λ from. is_some (told_by c.epoch c.round c.got from)) (range_with_len (0 + 1) n)) (and_parts (is_running c) (have_told (suc n) c.epoch c.round c.got) e).1).0

    less : length (from_round c.epoch (c.round + 1) c.got) < length c.got
    less = fewer (is_at (place_cmp place)) (λ g. not (is_before c.epoch (c.round + 1) g.0)) c.got first (out-of-round place)

    go : (b : Bool) → length (cond b (sweep (settled (suc n) c)) (search (suc n) (settled (suc n) c))).got < length c.got
    go true = less
    go false = less

pub advanced-open : (n turns : ℕ) (c : Catalogue) → 0 < n → length c.got < turns → is_complete n (advance n turns c) ≡ false
advanced-open n zero c some few = absurd (omega (arith, few))
advanced-open n (suc turns) c some few = go (is_complete n c) refl (λ e. advanced-open n turns (end_round n c) some (let less = got-fewer n c some e in omega (arith, few, less)))
  where
    go : (b : Bool) → is_complete n c ≡ b → (is_complete n c ≡ true → is_complete n (advance n turns (end_round n c)) ≡ false) → is_complete n (cond b (advance n turns (end_round n c)) c) ≡ false
    go true e ih = ih e
    go false e ih = e

pub all-ended : (n : ℕ) (c : Catalogue) → 0 < n → is_complete n (advanced n c) ≡ false
all-ended n c some = advanced-open n (length c.got + 1) c some (omega arith)

pub told-few : (shards total : ℕ) (deltas : List Delta) (to : ℕ) → length (body_for shards total deltas to).deltas ≤ 16384
told-few shards total deltas to = least (length (filter (λ (d : Delta). shard_of shards d.address == to) deltas)) (length-take 16384 (filter (λ (d : Delta). shard_of shards d.address == to) deltas))
  where
    least : (m : ℕ) → length (body_for shards total deltas to).deltas ≡ min 16384 m → length (body_for shards total deltas to).deltas ≤ 16384
    least m e = grind (arith, e)
