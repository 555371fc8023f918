use Rattle.std.proofs.Common.{◌≡◌, ◌∙◌, ℕ, List, filter, refl, ap, sym, subst, arith, slice_index, slice_set}
use Rattle.std.proofs.lemmas.Grind.{common_steps}
use Rattle.std.specs.List.Sorted.{IsStrictlySortedBy}
use Rattle.std.specs.Map.{keys_of}
use Rattle.hs_limits.specs.declared.address.Address.{Address}
use Rattle.hs_model.specs.declared.slow.unreached.Run.{Run}
use Rattle.hs_plain.specs.contracts.memory_store.MemoryStore.{the_view}
use Rattle.hs_model.specs.declared.store.StoredBlock.{StoredBlock}
use Rattle.hs_model.specs.Pointing.{pointers_in}
use Rattle.hs_model.specs.Reach.{anchors, is_among}
use Rattle.hs_model.specs.Store.{Store, address_cmp}
use Rattle.hs_model.proofs.PointingLemmas.{reached_by_pointing}
use Rattle.hs_model.proofs.SetLemmas.{distinct_from_sorted}
use Rattle.hs_model.proofs.SweptLemmas.{listed_alike, sweep_is}
use Rattle.hs_plain.proofs.memory_store.MemoryStore.remove.Goals as goal

pub returns : goal.returns
returns c =
    let s : Store = the_view c.self.inside in
    let epoch = c.index-epoch.result.now in
    let run : Run = record { shape = c.self.inside.shape; epoch = epoch; shard = c.args.shard } in
    let seen = c.in_ok-seen.seen.keys in
    let same = λ (a : Address). ap (λ (z : List Address). is_among z a) c.as_slice.ensures.value ∙ c.in_ok-from.ensures a ∙ ap (λ (z : Store). is_among (anchors z epoch) a) (sym c.self.view_is) in
    let left = c.in_ok-left.ensures.pointers ∙ ap (λ (z : List (Address × StoredBlock)). pointers_in z) c.as_map.ensures in
    let found = reached_by_pointing s c.as_slice.result.now c.in_ok-left.left.entries seen left c.in_ok-seen.ensures in
    let listed = listed_alike s c.as_slice.result.now (anchors s epoch) seen same found in
    let ascending = subst (λ (z : List (Address × StoredBlock)). IsStrictlySortedBy address_cmp (keys_of z)) c.as_map.ensures c.in_ok-left.ensures.ascending in
    let given = c.remove_given.ensures ∙ ap (λ (z : List (Address × StoredBlock)). filter (λ (e : Address × ℕ). is_among (keys_of z) e.0) c.self.inside.given.entries) c.as_map-2.ensures in
    let now : epoch ≡ slice_index c.self.inside.epochs.items c.args.shard = grind (arith, common_steps) in
    let swept = ap (λ i. slice_set c.self.inside.swept.items i epoch) c.from-2.ensures in
    rw (← c.self.view_is) (sweep_is s _ run seen (distinct_from_sorted (keys_of s.blocks) ascending) c.self.invariant.epochs now listed c.sweep.ensures.entries given refl refl swept refl)
