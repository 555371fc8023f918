-- A round tells each shard its own, and of an address nothing but what it tells the address's shard.
use Rattle.std.proofs.Common.{◌≡◌, ◌≢◌, ℕ, zero, suc, ◌+◌, ◌==◌, List, [], ◌∷◌, filter, flat_map, Bool, true, false, cond, if◌then◌else◌, Some, refl, sym, ap, ◌∙◌, subst, arith}
use Rattle.std.proofs.lemmas.Bool.{eqb-true}
use Rattle.std.proofs.lemmas.List.Elements.{All-from_recursion}
use Rattle.std.proofs.lemmas.List.FromFn.{length-map-range_with_len}
use Rattle.std.specs.List.{AllByRecursion}
use Rattle.std.specs.Prelude.{All, slice_get}
use Rattle.hs_limits.specs.declared.address.Address.{Address}
use Rattle.hs_limits.specs.declared.delta.Delta.{Delta}
use Rattle.hs_limits.specs.Shape.{shard_of}
use Rattle.hs_model.specs.Reach.{is_same}
use Rattle.hs_model.proofs.Members.{same_from}
use Rattle.hs_rounds.specs.declared.body.RoundBody.{RoundBody}
use Rattle.hs_rounds.specs.Changes.{changes_for}
use Rattle.hs_rounds.specs.Rounds.{body_for, bodies_for}
use Rattle.hs_fold.specs.Runs.Counts.{amount_at}
use Rattle.hs_joint.proofs.AmountLemmas.{amount_append}
use Rattle.hs_joint.proofs.CutLemmas.{body_told}
use Rattle.hs_sound.specs.Told.{TellsEachItsOwn}
use Rattle.hs_sound.proofs.PlaceLemmas.{take_each}

abbrev own : ℕ → ℕ → Delta → Bool
own n to d = shard_of n d.address == to

abbrev pub IsOf : ℕ → ℕ → Delta → Type 0
IsOf n to d = shard_of n d.address ≡ to

filter_own : (n to : ℕ) (ds : List Delta) → AllByRecursion (IsOf n to) (filter (own n to) ds)
filter_own n to [] = tt
filter_own n to (d ∷ ds) = go (own n to d) refl (filter_own n to ds)
  where
    go : (b : Bool) → own n to d ≡ b → AllByRecursion (IsOf n to) (filter (own n to) ds) → AllByRecursion (IsOf n to) (cond b (d ∷ filter (own n to) ds) (filter (own n to) ds))
    go true e rest = (eqb-true (shard_of n d.address) to e, rest)
    go false e rest = rest

-- so does each round that is sent
pub sent_tells : (n epoch round total : ℕ) (deltas : List Delta) → TellsEachItsOwn n (record { epoch = epoch; round = round; bodies = bodies_for n total deltas })
sent_tells n epoch round total deltas = record {
  each = length-map-range_with_len (body_for n total deltas) 0 n;
  own = λ to told e. (
      let b = body_told n total deltas to told e in
      subst (λ (x : RoundBody). All (IsOf n to) x.deltas) b.1 (All-from_recursion (IsOf n to) (changes_for n deltas to) (take_each (IsOf n to) 16384 (filter (own n to) deltas) (filter_own n to deltas)))
      );
}

-- ---- an address of one shard

pub other_none : (n to : ℕ) (a : Address) (ds : List Delta) → AllByRecursion (IsOf n to) ds → (shard_of n a ≡ to → ⊥) → amount_at a ds ≡ 0
other_none n to a [] h o = refl
other_none n to a (d ∷ ds) h o = go (is_same d.address a) refl (other_none n to a ds h.1 o)
  where
    go : (b : Bool) → is_same d.address a ≡ b → amount_at a ds ≡ 0 → (if b then d.amount else 0) + amount_at a ds ≡ 0
    go true e rest = elim (o (ap (λ x. shard_of n x) (sym (same_from d.address a e)) ∙ h.0)) [ ]
    go false e rest = omega (arith, rest)

abbrev told_all : List RoundBody → List Delta
told_all bodies = flat_map (λ (body : RoundBody). body.deltas) bodies

none_told : (a : Address) (bodies : List RoundBody) → ((j : ℕ) (told : RoundBody) → slice_get bodies j ≡ Some told → amount_at a told.deltas ≡ 0) → amount_at a (told_all bodies) ≡ 0
none_told a [] h = refl
none_told a (b ∷ bs) h = amount_append a b.deltas (told_all bs) ∙ (let one = h 0 b refl in let rest = none_told a bs (λ j told e. h (suc j) told e) in omega (arith, one, rest))

pub one_told : (a : Address) (bodies : List RoundBody) (k : ℕ) (told : RoundBody) → slice_get bodies k ≡ Some told → ((j : ℕ) (other : RoundBody) → slice_get bodies j ≡ Some other → j ≢ k → amount_at a other.deltas ≡ 0)
    → amount_at a (told_all bodies) ≡ amount_at a told.deltas
one_told a [] k told e h = cc e
one_told a (b ∷ bs) zero told e h =
    amount_append a b.deltas (told_all bs)
    ∙ (
    let is : b ≡ told = cc e in
    let same : amount_at a b.deltas ≡ amount_at a told.deltas = ap (λ (x : RoundBody). amount_at a x.deltas) is in
    let rest = none_told a bs (λ j other q. h (suc j) other q (λ z. omega (arith, z))) in
    omega (arith, same, rest)
    )
one_told a (b ∷ bs) (suc k) told e h =
    amount_append a b.deltas (told_all bs)
    ∙ (
    let first = h 0 b refl (λ z. omega (arith, z)) in
    let rest = one_told a bs k told e (λ j other q o. h (suc j) other q (λ z. o (omega (arith, z)))) in
    omega (arith, first, rest)
    )
