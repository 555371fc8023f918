-- That a round has come from some shard.
use Rattle.std.proofs.Common.{◌≡◌, ◌∙◌, sym, ap, subst, ℕ, suc, zero, ◌+◌, ◌<◌, ◌≤◌, ◌⊎◌, inl, inr, Bool, true, false, cond, List, [], ◌∷◌, Option, Some, None, refl, arith}
use Rattle.std.proofs.lemmas.Bool.{and_from, and_parts, cases_eq, eq-eqb, eqb-true}
use Rattle.std.specs.BTreeMap.{is_at}
use Rattle.std.specs.List.{list_any, range_with_len}
use Rattle.std.specs.Option.{IfSome}
use Rattle.std.specs.Prelude.{is_some, ◌==◌, ◌&&◌, ◌||◌}
use Rattle.hs_rounds.specs.declared.body.RoundBody.{RoundBody}
use Rattle.hs_rounds.specs.declared.place.Place.{Place}
use Rattle.hs_rounds.specs.Rounds.{GotList, IsGot, IsRun, Run, body_at, has_come, place_cmp, told_by}
use Rattle.hs_rounds.proofs.PlaceLemmas.{same_place, tied_place}

-- ---- whether one of a list passes

first_any : {A : Type 0} (p : A → Bool) (x : A) (xs : List A) → p x ≡ true → list_any p (x ∷ xs) ≡ true
first_any p x xs h = rw h refl

later_any : {A : Type 0} (p : A → Bool) (x : A) (xs : List A) → list_any p xs ≡ true → list_any p (x ∷ xs) ≡ true
later_any p x xs h = rw h (or-true (p x))
  where
    or-true : (b : Bool) → b || true ≡ true
    or-true true = refl
    or-true false = refl

same_eqb : (n : ℕ) → (n == n) ≡ true
same_eqb n = eq-eqb n n refl

-- ---- Gots of a round

-- whether a Got is of a round
abbrev pub is_of : ℕ → ℕ → Place × RoundBody → Bool
is_of epoch round e = e.0.epoch == epoch && e.0.round == round

-- a round from a sender is in the list
told_first : (q : Place) (e : Place × RoundBody) (es : GotList) (b : Bool) → is_at (place_cmp q) e.0 ≡ b
    → (is_some (body_at q es) ≡ true → list_any (is_of q.epoch q.round) es ≡ true)
    → is_some (body_at q (e ∷ es)) ≡ true → list_any (is_of q.epoch q.round) (e ∷ es) ≡ true
told_first q e es true at rest h =
    let same : q ≡ e.0 = same_place q e.0 at in
    subst (λ (p : Place). list_any (is_of p.epoch p.round) (e ∷ es) ≡ true) (sym same) (first_any (is_of e.0.epoch e.0.round) e es (itself e))
  where
    itself : (e : Place × RoundBody) → is_of e.0.epoch e.0.round e ≡ true
    itself e = and_from _ _ (same_eqb e.0.epoch) (same_eqb e.0.round)
told_first q e es false at rest h = later_any (is_of q.epoch q.round) e es (rest (rw at at h))

come_told : (q : Place) (gots : GotList) → is_some (body_at q gots) ≡ true → list_any (is_of q.epoch q.round) gots ≡ true
come_told q [] h = cc
come_told q (e ∷ es) h = told_first q e es (is_at (place_cmp q) e.0) refl (come_told q es) h

-- and what is in the list came from a sender
abbrev Came : ℕ → ℕ → GotList → Type 0
Came epoch round gots = (q : Place) × (q.epoch ≡ epoch) × (q.round ≡ round) × (is_some (body_at q gots) ≡ true)

still_found : (q : Place) (e : Place × RoundBody) (es : GotList) (b : Bool) → is_at (place_cmp q) e.0 ≡ b → is_some (body_at q es) ≡ true → is_some (body_at q (e ∷ es)) ≡ true
still_found q e es true at h = rw at refl
still_found q e es false at h = rw at h

come_first : (epoch round : ℕ) (e : Place × RoundBody) (es : GotList) (b : Bool) → is_of epoch round e ≡ b
    → (list_any (is_of epoch round) es ≡ true → Came epoch round es)
    → list_any (is_of epoch round) (e ∷ es) ≡ true → Came epoch round (e ∷ es)
come_first epoch round e es true of rest h =
    let parts = and_parts (e.0.epoch == epoch) (e.0.round == round) of in
    (e.0, eqb-true _ _ parts.0, eqb-true _ _ parts.1, rw (tied_place e.0) refl)
come_first epoch round e es false of rest h =
    let found : Came epoch round es = rest (rw of at h) in
    (found.0, found.1, found.2, still_found found.0 e es (is_at (place_cmp found.0) e.0) refl found.3)

told_come : (epoch round : ℕ) (gots : GotList) → list_any (is_of epoch round) gots ≡ true → Came epoch round gots
told_come epoch round [] h = cc
told_come epoch round (e ∷ es) h = come_first epoch round e es (is_of epoch round e) refl (told_come epoch round es) h

-- ---- numbers of a range

range_any : (p : ℕ → Bool) (s n k : ℕ) → s ≤ k → k < s + n → p k ≡ true → list_any p (range_with_len s n) ≡ true
range_any p s zero k low high h = absurd (omega arith)
range_any p s (suc n) k low high h = elim (cases_eq s k) [
  | inl e ↦ first_any p s (range_with_len (s + 1) n) (ap p e ∙ h)
  | inr d ↦ later_any p s (range_with_len (s + 1) n) (range_any p (s + 1) n k (omega (arith, d)) (omega arith) h)
]

abbrev Passes : (ℕ → Bool) → Type 0
Passes p = (k : ℕ) × (p k ≡ true)

range_first : (p : ℕ → Bool) (s : ℕ) (ks : List ℕ) (b : Bool) → p s ≡ b → (list_any p ks ≡ true → Passes p) → list_any p (s ∷ ks) ≡ true → Passes p
range_first p s ks true e rest h = (s, e)
range_first p s ks false e rest h = rest (rw e at h)

any_range : (p : ℕ → Bool) (s n : ℕ) → list_any p (range_with_len s n) ≡ true → Passes p
any_range p s zero h = cc
any_range p s (suc n) h = range_first p s (range_with_len (s + 1) n) (p s) refl (any_range p (s + 1) n) h

-- ---- both at once

same_bool : (a b : Bool) → (a ≡ true → b ≡ true) → (b ≡ true → a ≡ true) → a ≡ b
same_bool true b f g = sym (f refl)
same_bool false true f g = g refl
same_bool false false f g = refl

if_found : {A : Type 0} (P : A → Type 0) (o : Option A) → IfSome o P → is_some o ≡ true → (x : A) × P x
if_found P None i h = cc
if_found P (Some x) i h = (x, i)

pub come_from_some : (run : Run) (epoch round : ℕ) → IsRun run
    → list_any (λ from. is_some (told_by epoch round run.gots from)) (range_with_len 0 run.shape.shards) ≡ has_come epoch round run
come_from_some run epoch round valid = same_bool _ _ there back
  where
    there : list_any (λ from. is_some (told_by epoch round run.gots from)) (range_with_len 0 run.shape.shards) ≡ true → has_come epoch round run ≡ true
    there h =
        let k = any_range (λ from. is_some (told_by epoch round run.gots from)) 0 run.shape.shards h in
        come_told (record { epoch = epoch; round = round; from = k.0 }) run.gots k.1

    back : has_come epoch round run ≡ true → list_any (λ from. is_some (told_by epoch round run.gots from)) (range_with_len 0 run.shape.shards) ≡ true
    back h =
        let q = told_come epoch round run.gots h in
        let kept = if_found (IsGot run q.0) (body_at q.0 run.gots) (valid.gots q.0) q.3 in
        let at : q.0 ≡ record { epoch = epoch; round = round; from = q.0.from } = λ i. record { epoch = q.1 i; round = q.2 i; from = q.0.from } in
        let told : is_some (told_by epoch round run.gots q.0.from) ≡ true = subst (λ (p : Place). is_some (body_at p run.gots) ≡ true) at q.3 in
        range_any (λ from. is_some (told_by epoch round run.gots from)) 0 run.shape.shards q.0.from (omega arith) (omega (arith, kept.1.sender)) told
