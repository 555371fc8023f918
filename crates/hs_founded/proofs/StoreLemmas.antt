-- The store of sound lists whose Blocks spell their blocks: it is valid, each block stands at its name, and none leads back to itself.
use Rattle.std.proofs.Common.{◌≡◌, ◌∙◌, ap, sym, subst, ◌+◌, ◌<◌, List, map, Some}
use Rattle.std.specs.List.{AllByRecursion}
use Rattle.std.specs.Map.{keys_of}
use Rattle.hs_deletion.specs.Anchors.{PointsTo}
use Rattle.hs_deletion.specs.History.{IsMade}
use Rattle.hs_deletion.specs.Invariants.{IsRight}
use Rattle.hs_deletion.specs.Machine.{Layout, Machine}
use Rattle.hs_fold.specs.Catalogue.{Present}
use Rattle.hs_fold.specs.Lawful.{Deed}
use Rattle.hs_fold.specs.Runs.Facts.{Catalogue, facts_at, plain}
use Rattle.hs_fold.specs.Runs.Fits.{catalogue_at}
use Rattle.hs_fold.specs.Runs.History.{FitAll, follow_all, no_entries}
use Rattle.hs_fold.specs.Runs.Opened.{catalogues, store_of}
use Rattle.hs_fold.proofs.Shards.StoreLemmas.{all-sorted}
use Rattle.hs_fold.specs.Shards.Opened.{all_present}
use Rattle.hs_fold.specs.Shards.Setting.{Numbered, Setting}
use Rattle.hs_joint.proofs.HistoryLemmas.{shape_some}
use Rattle.hs_joint.proofs.KeyLemmas.{found-entry, sorted-values}
use Rattle.hs_joint.proofs.ListedLemmas.{in-present}
use Rattle.hs_joint.proofs.SendLemmas.{ordered_keys}
use Rattle.hs_joint.proofs.StandLemmas.{own_at}
use Rattle.hs_joint.specs.Along.{KeepFewRecords}
use Rattle.hs_joint.specs.Joined.{AreJoined}
use Rattle.hs_joint.specs.Seen.{layout_of}
use Rattle.hs_laws.proofs.SweepLemmas.{member_from_found}
use Rattle.hs_laws.specs.Distinct.{HasDistinctAddresses}
use Rattle.hs_limits.specs.Shape.{IsShape}
use Rattle.hs_limits.specs.declared.address.Address.{Address}
use Rattle.hs_model.proofs.Members.{member_of_map}
use Rattle.hs_model.proofs.SetLemmas.{distinct_from_sorted}
use Rattle.hs_model.specs.Peel.{IsAcyclic}
use Rattle.hs_model.specs.Store.{block_at}
use Rattle.hs_model.specs.declared.store.StoredBlock.{StoredBlock}
use Rattle.hs_sound.specs.Stay.{AreSoundAlong}
use Rattle.hs_founded.proofs.AcyclicLemmas.{none_cycles, there_points}
use Rattle.hs_founded.proofs.NamedLemmas.{lists_named}
use Rattle.hs_founded.specs.Spelled.{AreSpelled}
use Rattle.hs_founded.specs.Store.{IsAtItsName}

-- no address stands for two blocks, whatever the folds
pub store_distinct : (cs : List Catalogue) → HasDistinctAddresses (store_of cs)
store_distinct cs = distinct_from_sorted (keys_of (store_of cs).blocks) (sorted-values (λ (q : Present). q.stored) (all_present (map plain cs)) (all-sorted (map plain cs)))

-- the laws that this stands on
abbrev pub FollowsMachine : Type 0
FollowsMachine = (set : Setting) (history : List Deed) (some : 0 < set.shape.shards) → IsShape set.shape → FitAll set (no_entries set) history → KeepFewRecords set (no_entries set) history
    → (m : Machine) × AreJoined set some (follow_all set (no_entries set) history) m

abbrev pub StaysRight : Type 0
StaysRight = (layout : Layout) (m : Machine) → IsMade layout m → IsRight layout m

module _ (follows : FollowsMachine) (set : Setting) (lists : List Numbered) (shape : IsShape set.shape) (sound : AreSoundAlong set lists) where
  abbrev cs : List Catalogue
  cs = catalogues set 0 lists

  some : 0 < set.shape.shards
  some = shape_some set.shape shape

  joined : (m : Machine) × AreJoined set some cs m
  joined = subst (λ (folds : List Catalogue). (m : Machine) × AreJoined set some folds m) sound.sound.lawful.gives (follows set sound.sound.lawful.history some shape sound.sound.lawful.fits sound.records)

  pub store_acyclic : StaysRight → IsAcyclic (store_of (catalogues set 0 lists))
  store_acyclic right =
      let j : AreJoined set some cs joined.0 = joined.1 in
      none_cycles (store_of cs) (λ a b. PointsTo joined.0.blocks a b) (there_points set.shape.shards some cs j.each j.own joined.0 j.followed.each) (right (layout_of set.shape.shards some) joined.0 j.followed.made).founded

  pub store_named : AllByRecursion AreSpelled lists → (a : Address) (stored : StoredBlock) → block_at (store_of (catalogues set 0 lists)) a ≡ Some stored → IsAtItsName set.name a stored
  store_named spelled a stored e =
      let j : AreJoined set some cs joined.0 = joined.1 in
      let o = member_of_map (λ (x : Address × Present). (x.0, x.1.stored)) (a, stored) (all_present (map plain cs)) (member_from_found (store_of cs).blocks a stored e) in
      let b = in-present cs o.0 o.1 in
      let here : facts_at (catalogue_at cs b.shard) o.0.0 ≡ Some b.facts =
      found-entry (catalogue_at cs b.shard).blocks (ordered_keys set.shape.shards (0 + b.shard) (catalogue_at cs b.shard) (own_at set.shape.shards 0 cs j.own b.shard b.within)) (o.0.0, b.facts) b.kept in
      let is : IsAtItsName set.name o.0.0 b.facts.present.stored = lists_named set 0 lists spelled b.shard o.0.0 b.facts here in
      let at : o.0.0 ≡ a = ap (λ (x : Address × StoredBlock). x.0) (sym o.2) in
      let same : b.facts.present.stored ≡ stored = ap (λ (p : Present). p.stored) b.same ∙ sym (ap (λ (x : Address × StoredBlock). x.1) o.2) in
      subst (λ (x : Address). IsAtItsName set.name x stored) at (subst (λ (s : StoredBlock). IsAtItsName set.name o.0.0 s) same is)
