-- The laws of a run on which it stands that a client's store is told, as calls of them ensure them.
use Rattle.std.specs.List.{AllByRecursion}
use Rattle.std.specs.Prelude.{List, None, Some, [], unwrap_or, ℕ, ◌++◌, ◌≡◌}
use Rattle.hs_clauses.proofs.ReadyLemmas.{LawsHere}
use Rattle.hs_clauses.specs.Asked.{start_of}
use Rattle.hs_clauses.specs.Shown.{HasItsDisks, IsToldAs, IsToldRun, RunsSoundly}
use Rattle.hs_desk.specs.declared.fault.CoreFault.{CoreFault}
use Rattle.hs_events.specs.Found.{first_core}
use Rattle.hs_fold.specs.Runs.Opened.{catalogues, store_of}
use Rattle.hs_fold.specs.Shards.Setting.{Numbered, Setting}
use Rattle.hs_founded.specs.Spelled.{AreBytes, AreSpelled}
use Rattle.hs_founded.specs.Store.{IsAtItsName}
use Rattle.hs_laws.specs.Distinct.{HasDistinctAddresses}
use Rattle.hs_limits.specs.Shape.{IsShape}
use Rattle.hs_limits.specs.declared.address.Address.{Address}
use Rattle.hs_model.specs.Peel.{IsAcyclic}
use Rattle.hs_model.specs.Store.{block_at}
use Rattle.hs_model.specs.declared.store.StoredBlock.{StoredBlock}
use Rattle.hs_ports.specs.declared.disk.Side.{Side}
use Rattle.hs_promise.specs.Answers.{Answers}
use Rattle.hs_promise.specs.Entry.{IsSoundAtEntry, entry_store}
use Rattle.hs_promise.specs.Machine.{NeverOpened, Went}
use Rattle.hs_promise.specs.Run.{Ran, Script}
use Rattle.hs_promise.specs.Story.{Story, all_events}
use Rattle.hs_settled.proofs.BegunLemmas.{Told}
use Rattle.hs_settled.specs.Calm.{AreLed}
use Rattle.hs_side.specs.Current.{list_in}
use Rattle.hs_sound.specs.Stay.{AreSoundAlong}
use Rattle.hs_standing.specs.Run.{MayRun, RunBegins}
use Rattle.hs_standing.specs.Standing.{AllMayKeep}

pub record Laws : Type 0 where
  -- a run
  pub answers : (S : Script) (r : Ran) → IsToldRun S r → IsSoundAtEntry S r → Answers S (entry_store S r) r.journal
  pub soundly : (S : Script) (r : Ran) (story : Story) → HasItsDisks S r → IsToldAs S r story → IsSoundAtEntry S r → (first_core S.set story.found).ended ≡ None → RunsSoundly S r story
  pub events : (S : Script) (r : Ran) (story : Story) → RunsSoundly S r story → AllMayKeep (start_of S r) (MayRun (start_of S r)) (first_core S.set story.found) (all_events story)
  pub led : (S : Script) (r : Ran) (story : Story) → Went S r story → RunBegins (start_of S r) story.found → AllMayKeep (start_of S r) (MayRun (start_of S r)) (first_core S.set story.found) (all_events story) → AreLed (r.journal ++ r.refused)
  pub led_ended : (S : Script) (r : Ran) (story : Story) (fault : CoreFault) → Went S r story → (first_core S.set story.found).ended ≡ Some fault → AreLed (r.journal ++ r.refused)
  pub led_never : (r : Ran) → NeverOpened r → AreLed (r.journal ++ r.refused)
  -- its core
  pub told : Told
  pub here : LawsHere
  -- the store of sound lists
  pub distinct : (set : Setting) (lists : List Numbered) → HasDistinctAddresses (store_of (catalogues set 0 lists))
  pub acyclic : (set : Setting) (lists : List Numbered) → IsShape set.shape → AreSoundAlong set lists → IsAcyclic (store_of (catalogues set 0 lists))
  pub named : (set : Setting) (lists : List Numbered) → IsShape set.shape → AreSoundAlong set lists → AllByRecursion AreSpelled lists → (a : Address) (stored : StoredBlock) → block_at (store_of (catalogues set 0 lists)) a ≡ Some stored → IsAtItsName set.name a stored
  pub spelled : (seen : Side → List ℕ) → ((side : Side) → AreBytes (seen side)) → AreSpelled (unwrap_or (list_in seen) [])
