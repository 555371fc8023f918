-- Rounds that end one after another: each leaves fewer Gots, so that they come to an end.
use Rattle.std.proofs.Common.{◌≡◌, ◌<◌, ◌≤◌, ℕ, zero, suc, ◌+◌, List, [], ◌∷◌, ◌&&◌, ◌⊎◌, inl, inr, not, Bool, true, false, cond, Some, refl, sym, ap, subst, ◌∙◌, length, is_some, arith}
use Rattle.std.proofs.lemmas.Bool.{false≢true}
use Rattle.std.specs.BTreeMap.{is_at}
use Rattle.hs_limits.specs.declared.delta.Delta.{Delta}
use Rattle.hs_limits.specs.Shape.{IsShape}
use Rattle.hs_rounds.specs.declared.place.Place.{Place}
use Rattle.hs_rounds.specs.Rounds.{GotList, Run, body_at, complete, finish, from_round, go_on, have_told, is_before, place_cmp, told_by}
use Rattle.hs_rounds.proofs.PlaceLemmas.{same_place}
use Rattle.hs_shard.specs.Clients.{Applied}
use Rattle.hs_shard.specs.Rounds.{advance, end_open}

dropped : (epoch round : ℕ) (gots : GotList) → length (from_round epoch round gots) ≤ length gots
dropped epoch round [] = omega arith
dropped epoch round (e ∷ es) = go (dropped epoch round es) (is_before epoch round e.0)
  where
    go : length (from_round epoch round es) ≤ length es → (b : Bool) → length (cond (not b) (e ∷ from_round epoch round es) (from_round epoch round es)) ≤ suc (length es)
    go ih true = omega (arith, ih)
    go ih false = omega (arith, ih)

-- what came for a round before this one is dropped
drops_one : (epoch round : ℕ) (p : Place) (gots : GotList) → is_before epoch round p ≡ true → is_some (body_at p gots) ≡ true → length (from_round epoch round gots) < length gots
drops_one epoch round p [] before there = absurd (false≢true there)
drops_one epoch round p (e ∷ es) before there = go (drops_one epoch round p es before) (is_at (place_cmp p) e.0) refl (is_before epoch round e.0) refl
  where
    go : (is_some (body_at p es) ≡ true → length (from_round epoch round es) < length es) → (b : Bool) → is_at (place_cmp p) e.0 ≡ b → (c : Bool) → is_before epoch round e.0 ≡ c
        → length (cond (not c) (e ∷ from_round epoch round es) (from_round epoch round es)) < suc (length es)
    go ih true t true s = let le = dropped epoch round es in omega (arith, le)
    go ih true t false s = absurd (false≢true (sym s ∙ ap (λ q. is_before epoch round q) (sym (same_place p e.0 t)) ∙ before))
    go ih false t true s = let le = dropped epoch round es in omega (arith, le)
    go ih false t false s =
        let less : length (from_round epoch round es) < length es = ih (ap (λ b. is_some (cond b (Some e.1) (body_at p es))) (sym t) ∙ there) in
        omega (arith, less)

first_of : (a b : Bool) → (a && b) ≡ true → a ≡ true
first_of true b e = refl
first_of false b e = e

before_next : (epoch round : ℕ) → is_before epoch (round + 1) (record { epoch = epoch; round = round; from = 0 }) ≡ true
before_next epoch round = grind arith

-- a round that has come leaves fewer Gots when it is past
told_drops : (shards epoch round : ℕ) (gots : GotList) → 1 ≤ shards → have_told shards epoch round gots ≡ true → length (from_round epoch (round + 1) gots) < length gots
told_drops zero epoch round gots le told = absurd (omega (arith, le))
told_drops (suc n) epoch round gots le told =
    drops_one epoch (round + 1) (record { epoch = epoch; round = round; from = 0 }) gots (before_next epoch round) (first_of (is_some (told_by epoch round gots 0)) _ told)

some_shard : (shards : ℕ) → (shards ≡ 1) ⊎ (shards ≡ 2) ⊎ (shards ≡ 4) ⊎ (shards ≡ 8) → 1 ≤ shards
some_shard shards (inl e) = omega (arith, e)
some_shard shards (inr (inl e)) = omega (arith, e)
some_shard shards (inr (inr (inl e))) = omega (arith, e)
some_shard shards (inr (inr (inr e))) = omega (arith, e)

complete_drops : (run : Run) (epoch round : ℕ) → IsShape run.shape → run.opened ≡ Some (epoch, round) → complete run ≡ true → length (from_round epoch (round + 1) run.gots) < length run.gots
complete_drops run epoch round shape opened done = told_drops run.shape.shards epoch round run.gots (some_shard run.shape.shards shape.shards) (rw opened at done)

finished_gots : (run : Run) (epoch round : ℕ) → run.opened ≡ Some (epoch, round) → (finish run).gots ≡ from_round epoch (round + 1) run.gots
finished_gots run epoch round opened = rw opened refl

gone_on_gots : (total : ℕ) (run : Run) (epoch round : ℕ) (deltas : List Delta) → run.opened ≡ Some (epoch, round) → (go_on total deltas run).gots ≡ from_round epoch (round + 1) run.gots
gone_on_gots total run epoch round deltas opened = rw opened refl

-- the end of a round leaves fewer Gots
pub finished_fewer : (run : Run) (epoch round : ℕ) → IsShape run.shape → run.opened ≡ Some (epoch, round) → complete run ≡ true → length (finish run).gots < length run.gots
finished_fewer run epoch round shape opened done =
    subst (λ (gots : GotList). length gots < length run.gots) (sym (finished_gots run epoch round opened)) (complete_drops run epoch round shape opened done)

pub gone_on_fewer : (total : ℕ) (deltas : List Delta) (run : Run) (epoch round : ℕ) → IsShape run.shape → run.opened ≡ Some (epoch, round) → complete run ≡ true → length (go_on total deltas run).gots < length run.gots
gone_on_fewer total deltas run epoch round shape opened done =
    subst (λ (gots : GotList). length gots < length run.gots) (sym (gone_on_gots total run epoch round deltas opened)) (complete_drops run epoch round shape opened done)

-- ---- the steps of a loop

pub advance_more : (turns : ℕ) (a : Applied) → complete a.catalogue.run ≡ true → advance (suc turns) a ≡ advance turns (end_open a.catalogue.run.opened a)
advance_more turns a e = ap (λ (b : Bool). cond b (advance turns (end_open a.catalogue.run.opened a)) a) e

pub advance_done : (turns : ℕ) (a : Applied) → complete a.catalogue.run ≡ false → advance turns a ≡ a
advance_done zero a e = refl
advance_done (suc turns) a e = ap (λ (b : Bool). cond b (advance turns (end_open a.catalogue.run.opened a)) a) e

-- so many turns are left, more than there are Gots
abbrev pub Left : Applied → Applied → Type 0
Left a goal = (turns : ℕ) × (length a.catalogue.run.gots < turns) × (advance turns a ≡ goal)

pub advance_step : (a next goal : Applied) → Left a goal → complete a.catalogue.run ≡ true → next ≡ end_open a.catalogue.run.opened a
    → length next.catalogue.run.gots < length a.catalogue.run.gots → Left next goal
advance_step a next goal (zero, less, same) done e fewer = absurd (omega (arith, less))
advance_step a next goal (suc turns, less, same) done e fewer = (turns, omega (arith, less, fewer), ap (λ x. advance turns x) e ∙ sym (advance_more turns a done) ∙ same)

pub advance_over : (a goal : Applied) → Left a goal → complete a.catalogue.run ≡ false → a ≡ goal
advance_over a goal (turns, less, same) done = sym (advance_done turns a done) ∙ same
