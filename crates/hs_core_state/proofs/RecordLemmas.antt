-- Root records: where no shard has more than it takes, each has room.
use Rattle.std.proofs.Common.{◌≡◌, ◌∙◌, sym, ap, subst, ℕ, zero, suc, ◌+◌, ◌<◌, ◌≤◌, Bool, true, false, cond, [], arith, count_by, length, nat_lt, Option, Some, None, refl}
use Rattle.std.proofs.lemmas.Bool.{ltb-false, ltb-true}
use Rattle.std.proofs.lemmas.List.{get_or_past}
use Rattle.std.specs.List.{range_with_len}
use Rattle.std.specs.Prelude.{⊤, Err, Ok, OnOk, Result, find}
use Rattle.hs_core_state.specs.Keeping.{IsCore}
use Rattle.hs_core_words.specs.Looking.{catalogue_of, group_of, shape_of}
use Rattle.hs_core_words.specs.Records.{HasRecordRoom, is_overfull, most_records, overfull_shard, records_in}
use Rattle.hs_core_words.specs.State.{Core}
use Rattle.hs_core_words.specs.Step.{end_event, keep_entries, refuse_entries}
use Rattle.hs_desk.specs.declared.fault.CoreFault.{CoreFault}
use Rattle.hs_replica.specs.Group.{Group, new_group}
use Rattle.hs_replica.specs.Kinds.{is_root}
use Rattle.hs_shard.specs.Facts.{Catalogue, empty_catalogue}

-- ---- each shard

-- where no number of a range passes a test, each fails it
none_passes : (p : ℕ → Bool) (n s : ℕ) → find p (range_with_len s n) ≡ None → (i : ℕ) → i < n → p (s + i) ≡ false
none_passes p zero s e i h = absurd (omega (arith, h))
none_passes p (suc n) s e i h = go (p s) refl e (none_passes p n (s + 1)) i h
  where
    go : (b : Bool) → p s ≡ b → cond b (Some s) (find p (range_with_len (s + 1) n)) ≡ None
        → (find p (range_with_len (s + 1) n) ≡ None → (j : ℕ) → j < n → p (s + 1 + j) ≡ false)
        → (j : ℕ) → j < suc n → p (s + j) ≡ false
    go true is e rest j h = absurd (cc e)
    go false is e rest zero h =
        let at : s + zero ≡ s = omega arith in
        ap p at ∙ is
    go false is e rest (suc j) h =
        let at : s + suc j ≡ s + 1 + j = omega arith in
        ap p at ∙ rest e j (omega (arith, h))

nothing_fits : (a b most : ℕ) → a ≡ 0 → b ≡ 0 → a + b ≤ most
nothing_fits a b most x y = omega (arith, x, y)

-- what is no shard has no root records
none_outside : (shard : ℕ) (core : Core) → IsCore core → (shape_of core).shards ≤ shard → records_in shard core ≤ most_records
none_outside shard core is h =
    let catalogue : catalogue_of shard core ≡ empty_catalogue (shape_of core) shard = get_or_past core.catalogues shard (empty_catalogue (shape_of core) shard) (omega (arith, is.catalogues, h)) in
    let group : group_of shard core ≡ new_group (shape_of core) shard 0 0 [] = get_or_past core.groups shard (new_group (shape_of core) shard 0 0 []) (omega (arith, is.groups, h)) in
    nothing_fits (length (catalogue_of shard core).roots) (count_by is_root (group_of shard core).waiting) most_records
    (ap (λ (c : Catalogue). length c.roots) catalogue) (ap (λ (g : Group). count_by is_root g.waiting) group)

pub each_has_room : (core : Core) → IsCore core → overfull_shard core ≡ None → (shard : ℕ) → records_in shard core ≤ most_records
each_has_room core is none shard = go (nat_lt shard (shape_of core).shards) refl
  where
    go : (b : Bool) → nat_lt shard (shape_of core).shards ≡ b → records_in shard core ≤ most_records
    go true within =
        let at : 0 + shard ≡ shard = omega arith in
        ltb-false most_records (records_in shard core)
        (ap (λ g. is_overfull g core) (sym at) ∙ none_passes (λ g. is_overfull g core) (shape_of core).shards 0 none shard (ltb-true shard (shape_of core).shards within))
    go false past = none_outside shard core is (ltb-false shard (shape_of core).shards past)

-- ---- the end of an event

-- it changes no catalogue and no list
ends_with_room : (core : Core) → HasRecordRoom core → HasRecordRoom (end_event core)
ends_with_room core room = go (nat_lt core.limits.ops (length core.journal + length core.entries))
  where
    go : (b : Bool) → HasRecordRoom (cond b (refuse_entries core) (keep_entries core))
    go true = room
    go false = room

pub room_at_end : (core new : Core) → HasRecordRoom core → new ≡ end_event core → HasRecordRoom new
room_at_end core new room ends = subst HasRecordRoom (sym ends) (ends_with_room core room)

-- what holds anyway holds where a result is Ok
pub on_ok_anyway : (P : Type 0) (r : Result ⊤ CoreFault) → P → OnOk r P
on_ok_anyway P (Ok x) p = p
on_ok_anyway P (Err fault) p = tt
