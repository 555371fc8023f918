-- Deltas: one after another, and all of them.
use Rattle.std.proofs.Common.{◌≡◌, ℕ, zero, suc, ◌+◌, ◌-◌, ◌<◌, true, leb, List, [], ◌∷◌, ◌++◌, length, map, Option, None, Some, Result, Ok, Err, refl, sym, ap, subst, ◌∙◌, append_assoc, arith}
use Rattle.std.specs.declared.cmp.Ordering.{Ordering}
use Rattle.std.specs.declared.cmp.Ordering.TheVariants.{Less, Equal, Greater}
use Rattle.std.specs.Int.{w32}
use Rattle.std.specs.List.{flat_map, AllByRecursion}
use Rattle.std.specs.List.Sorted.{IsStrictlySortedBy}
use Rattle.std.specs.Ordering.{is_lt}
use Rattle.std.proofs.lemmas.Bool.{leb-true, le-leb}
use Rattle.std.proofs.lemmas.Cmp.{nat_list_cmp_total}
use Rattle.std.proofs.lemmas.List.{append-nil}
use Rattle.std.proofs.lemmas.List.Concat.{flat_map-cons}
use Rattle.hs_limits.specs.declared.address.Address.{Address}
use Rattle.hs_limits.specs.declared.delta.Delta.{Delta}
use Rattle.hs_limits.specs.Fields.{◌>>=◌, check, bytes_at, number_at}
use Rattle.hs_limits.proofs.FieldLemmas.{IsBytes, bind_ok, check_ok, ok_is, Takes, Takes-then, bytes_takes, bytes_again}
use Rattle.hs_entry.specs.declared.fault.EntryFault.{EntryFault}
use Rattle.hs_entry.specs.declared.fault.EntryFault.TheVariants.{Short, BadField}
use Rattle.hs_entry.specs.Payload.{four, delta_field}
use Rattle.hs_entry.specs.Reading.{address_cmp, IsDelta, comes_after, delta_at, with_deltas, deltas_at}
use Rattle.hs_entry.proofs.PartLemmas.{four_takes, four_again}

abbrev Read : Type 0
Read = Result (List Delta × List ℕ) EntryFault

pub with_deltas_nil : (read : Read) → read ≡ with_deltas [] read
with_deltas_nil (Ok more) = refl
with_deltas_nil (Err fault) = refl

pub with_deltas_append : (front back : List Delta) (read : Read) → with_deltas front (with_deltas back read) ≡ with_deltas (front ++ back) read
with_deltas_append front back (Ok more) = ap (λ (ds : List Delta). Ok (ds, more.1)) (sym (append_assoc front back more.0))
with_deltas_append front back (Err fault) = refl

-- one delta is read, and then the rest
pub deltas_at_suc : (whole at n : ℕ) (last : Option Address) (bytes : List ℕ) → 0 < n
    → deltas_at whole at n last bytes ≡ (delta_at whole at last bytes >>= λ delta. with_deltas (delta.0 ∷ []) (deltas_at whole (at + 36) (n - 1) (Some delta.0.address) delta.1))
unfolding deltas_at IsStrictlySortedBy
deltas_at_suc whole at zero last bytes low = absurd (omega (arith, low))
deltas_at_suc whole at (suc n) last bytes low =
    let one : n ≡ suc n - 1 = omega arith in
    ap (λ (k : ℕ). delta_at whole at last bytes >>= λ delta. with_deltas (delta.0 ∷ []) (deltas_at whole (at + 36) k (Some delta.0.address) delta.1)) one

-- one delta more
pub deltas_more : (whole at n : ℕ) (front : List Delta) (last : Option Address) (bytes : List ℕ) (all : Read) (delta : Delta) (more : List ℕ) → 0 < n
    → all ≡ with_deltas front (deltas_at whole at n last bytes) → delta_at whole at last bytes ≡ Ok (delta, more)
    → all ≡ with_deltas (front ++ delta ∷ []) (deltas_at whole (at + 36) (n - 1) (Some delta.address) more)
deltas_more whole at n front last bytes all delta more low is read =
    is ∙ ap (with_deltas front) (deltas_at_suc whole at n last bytes low ∙ ap (λ r. r >>= λ delta. with_deltas (delta.0 ∷ []) (deltas_at whole (at + 36) (n - 1) (Some delta.0.address) delta.1)) read)
    ∙ with_deltas_append front (delta ∷ []) (deltas_at whole (at + 36) (n - 1) (Some delta.address) more)

-- and no more
pub deltas_done : (whole at : ℕ) (front : List Delta) (last : Option Address) (bytes : List ℕ) (all : Read)
    → all ≡ with_deltas front (deltas_at whole at 0 last bytes) → all ≡ Ok (front, bytes)
unfolding deltas_at IsStrictlySortedBy
deltas_done whole at front last bytes all is = is ∙ ap (λ (ds : List Delta). Ok (ds, bytes)) (append-nil front)

-- ---- one delta

behind_amount : ℕ → List ℕ → ℕ × List ℕ → Result (Delta × List ℕ) EntryFault
behind_amount at address amount = check (leb 1 amount.0) (BadField (at + 32)) >>= λ _. Ok (record { address = record { 0 = address }; amount = amount.0 }, amount.1)

behind_address : ℕ → ℕ → Option Address → List ℕ × List ℕ → Result (Delta × List ℕ) EntryFault
behind_address whole at last address = check (comes_after last (record { 0 = address.0 })) (BadField at) >>= λ _. number_at (Short whole) w32 address.1 >>= behind_amount at address.0

pub record IsTaken (last : Option Address) (bytes : List ℕ) (delta : Delta) (rest : List ℕ) : Type 0 where
  pub taken : Takes bytes (delta_field delta) rest
  pub whole : IsDelta delta
  pub after : comes_after last delta.address ≡ true

delta_takes : (whole at : ℕ) (last : Option Address) (bytes : List ℕ) (x : Delta × List ℕ) → IsBytes bytes → delta_at whole at last bytes ≡ Ok x → IsTaken last bytes x.0 x.1
unfolding delta_at behind_address behind_amount
delta_takes whole at last bytes x fit e =
    let b1 = bind_ok (bytes_at (Short whole) 32 bytes) (behind_address whole at last) x e in
    let t1 = bytes_takes (Short whole) 32 bytes b1.0 fit b1.1 in
    let address : Address = record { 0 = b1.0.0 } in
    let c1 = check_ok (comes_after last address) (BadField at) (number_at (Short whole) w32 b1.0.1 >>= behind_amount at b1.0.0) x b1.2 in
    let b2 = bind_ok (number_at (Short whole) w32 b1.0.1) (behind_amount at b1.0.0) x c1.1 in
    let t2 = four_takes whole b1.0.1 b2.0 t1.0.rest_fits b2.1 in
    let delta : Delta = record { address = address; amount = b2.0.0 } in
    let c2 = check_ok (leb 1 b2.0.0) (BadField (at + 32)) (Ok (delta, b2.0.1)) x b2.2 in
    subst (λ (y : Delta × List ℕ). IsTaken last bytes y.0 y.1) (ok_is {E = EntryFault} (delta, b2.0.1) x c2.1)
    (record { taken = Takes-then bytes b1.0.0 b1.0.1 (four b2.0.0) b2.0.1 t1.0 t2.0; whole = record { whole = t1.1; some = leb-true _ _ c2.0; fits = t2.1 }; after = c1.0 })

delta_again : (whole at : ℕ) (last : Option Address) (delta : Delta) (rest : List ℕ) → IsDelta delta → comes_after last delta.address ≡ true → delta_at whole at last (delta_field delta ++ rest) ≡ Ok (delta, rest)
unfolding delta_at
delta_again whole at last delta rest is after =
    ap (delta_at whole at last) (append_assoc delta.address.0 (four delta.amount) rest)
    ∙ rw (bytes_again (Short whole) 32 delta.address.0 (four delta.amount ++ rest) is.whole, after, four_again whole delta.amount rest is.fits, le-leb 1 delta.amount is.some) refl

-- ---- all of them

pub record AreTaken (last : Option Address) (n : ℕ) (bytes : List ℕ) (deltas : List Delta) (rest : List ℕ) : Type 0 where
  pub taken : Takes bytes (flat_map delta_field deltas) rest
  pub count : length deltas ≡ n
  pub each : AllByRecursion IsDelta deltas
  pub ascend : IsStrictlySortedBy address_cmp (map (λ delta. delta.address) deltas)
  pub after : AllByRecursion (λ address. comes_after last address ≡ true) (map (λ delta. delta.address) deltas)

is_less : (o : Ordering) → is_lt o ≡ true → o ≡ Less
is_less Less e = refl
is_less Equal e = absurd cc
is_less Greater e = absurd cc

-- what comes after an address comes after the one before that
after_last : (last : Option Address) (first address : Address) → comes_after last first ≡ true → comes_after (Some first) address ≡ true → comes_after last address ≡ true
after_last None first address one two = refl
after_last (Some last) first address one two =
    ap is_lt (nat_list_cmp_total.trans last.0 first.0 address.0 (is_less _ one) (is_less _ two))

all_after : (last : Option Address) (first : Address) (addresses : List Address) → comes_after last first ≡ true
    → AllByRecursion (λ address. comes_after (Some first) address ≡ true) addresses → AllByRecursion (λ address. comes_after last address ≡ true) addresses
all_after last first [] one all = tt
all_after last first (a ∷ addresses) one all = (after_last last first a one all.0, all_after last first addresses one all.1)

all_less : (first : Address) (addresses : List Address) → AllByRecursion (λ address. comes_after (Some first) address ≡ true) addresses → AllByRecursion (λ address. address_cmp first address ≡ Less) addresses
all_less first [] all = tt
all_less first (a ∷ addresses) all = (is_less _ all.0, all_less first addresses all.1)

less_all : (first : Address) (addresses : List Address) → AllByRecursion (λ address. address_cmp first address ≡ Less) addresses → AllByRecursion (λ address. comes_after (Some first) address ≡ true) addresses
less_all first [] all = tt
less_all first (a ∷ addresses) all = (ap is_lt all.0, less_all first addresses all.1)

pub any_first : (addresses : List Address) → AllByRecursion (λ address. comes_after None address ≡ true) addresses
any_first [] = tt
any_first (a ∷ addresses) = (refl, any_first addresses)

pub deltas_take : (whole at n : ℕ) (last : Option Address) (bytes : List ℕ) (x : List Delta × List ℕ) → IsBytes bytes → deltas_at whole at n last bytes ≡ Ok x → AreTaken last n bytes x.0 x.1
unfolding deltas_at IsStrictlySortedBy
deltas_take whole at zero last bytes x fit e =
    subst (λ (y : List Delta × List ℕ). AreTaken last 0 bytes y.0 y.1) (ok_is {E = EntryFault} ([], bytes) x e)
    (record { taken = record { parts = refl; rest_fits = fit }; count = refl; each = tt; ascend = tt; after = tt })
deltas_take whole at (suc n) last bytes x fit e =
    let b1 = bind_ok (delta_at whole at last bytes) (λ delta. with_deltas (delta.0 ∷ []) (deltas_at whole (at + 36) n (Some delta.0.address) delta.1)) x e in
    let t1 = delta_takes whole at last bytes b1.0 fit b1.1 in
    let delta : Delta = b1.0.0 in
    let b2 = bind_ok (deltas_at whole (at + 36) n (Some delta.address) b1.0.1) (λ more. Ok (delta ∷ more.0, more.1)) x b1.2 in
    let t2 = deltas_take whole (at + 36) n (Some delta.address) b1.0.1 b2.0 t1.taken.rest_fits b2.1 in
    let all = Takes-then bytes (delta_field delta) b1.0.1 (flat_map delta_field b2.0.0) b2.0.1 t1.taken t2.taken in
    subst (λ (y : List Delta × List ℕ). AreTaken last (suc n) bytes y.0 y.1) (ok_is {E = EntryFault} (delta ∷ b2.0.0, b2.0.1) x b2.2)
    (record {
      taken = subst (λ (t : List ℕ). Takes bytes t b2.0.1) (sym (flat_map-cons delta_field delta b2.0.0)) all;
      count = ap suc t2.count;
      each = (t1.whole, t2.each);
      ascend = (all_less delta.address _ t2.after, t2.ascend);
      after = (t1.after, all_after last delta.address _ t1.after t2.after);
    })

pub deltas_again : (whole at : ℕ) (last : Option Address) (deltas : List Delta) (rest : List ℕ) → AllByRecursion IsDelta deltas → IsStrictlySortedBy address_cmp (map (λ delta. delta.address) deltas)
    → AllByRecursion (λ address. comes_after last address ≡ true) (map (λ delta. delta.address) deltas) → deltas_at whole at (length deltas) last (flat_map delta_field deltas ++ rest) ≡ Ok (deltas, rest)
unfolding deltas_at IsStrictlySortedBy
deltas_again whole at last [] rest each ascend after = refl
deltas_again whole at last (d ∷ deltas) rest each ascend after =
    let parts : flat_map delta_field (d ∷ deltas) ++ rest ≡ delta_field d ++ (flat_map delta_field deltas ++ rest) = ap (λ (t : List ℕ). t ++ rest) (flat_map-cons delta_field d deltas) ∙ append_assoc (delta_field d) (flat_map delta_field deltas) rest in
    ap (deltas_at whole at (suc (length deltas)) last) parts
    ∙ rw (delta_again whole at last d (flat_map delta_field deltas ++ rest) each.0 after.0, deltas_again whole (at + 36) (Some d.address) deltas rest each.1 ascend.1 (less_all d.address _ ascend.0)) refl
