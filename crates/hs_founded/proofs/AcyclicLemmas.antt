-- The store of sound lists leads no block back to itself: the machine of deletion that its folds follow does not.
use Rattle.std.proofs.Common.{◌≡◌, ◌∙◌, ap, sym, subst, refl, ℕ, ◌<◌, List, [], ◌∷◌, length, map, Option, Some, None, arith}
use Rattle.hs_deletion.proofs.FoundedLemmas.{founded_none}
use Rattle.hs_deletion.specs.Anchors.{PointsTo}
use Rattle.hs_deletion.specs.Following.{AreFollowing}
use Rattle.hs_deletion.specs.Invariants.{IsFounded}
use Rattle.hs_deletion.specs.Machine.{Machine}
use Rattle.hs_fold.specs.Catalogue.{Present}
use Rattle.hs_fold.specs.Runs.Facts.{Catalogue, plain}
use Rattle.hs_fold.specs.Runs.Opened.{store_of}
use Rattle.hs_fold.specs.Runs.Own.{AreOwn}
use Rattle.hs_fold.specs.Shards.Opened.{all_present}
use Rattle.hs_joint.proofs.ListedLemmas.{in-present}
use Rattle.hs_joint.proofs.ReachedLemmas.{there_at}
use Rattle.hs_joint.specs.Seen.{all_seen, layout_of, seen_block}
use Rattle.hs_laws.proofs.SweepLemmas.{member_from_found}
use Rattle.hs_limits.specs.declared.address.Address.{Address}
use Rattle.hs_model.proofs.Members.{Member, contains_from_member, member_from_contains, member_of_map}
use Rattle.hs_model.specs.Peel.{IsAcyclic}
use Rattle.hs_model.specs.Reach.{Leads, pointers_of}
use Rattle.hs_model.specs.Store.{Store, block_at}
use Rattle.hs_model.specs.declared.store.StoredBlock.{StoredBlock}

-- ---- cycles

-- a block points to an address
abbrev Points : Store → Address → Address → Type 0
Points s a b = Member b (pointers_of (block_at s a))

-- the last step of a way, and the way up to it
record IsLastStep (s : Store) (a b : Address) : Type 0 where
  from : Address
  front : List Address
  leads : Leads s a front from
  points : Points s from b

last_step : (s : Store) (a next b : Address) (path : List Address) → Leads s a (next ∷ path) b → IsLastStep s a b
last_step s a next b [] l = record { from = a; front = []; leads = refl; points = subst (λ (x : Address). Points s a x) l.1 (member_from_contains next (pointers_of (block_at s a)) l.0) }
last_step s a next b (second ∷ path) l =
    let rest : IsLastStep s next b = last_step s next second b path l.1 in
    record { from = rest.from; front = next ∷ rest.front; leads = (l.0, rest.leads); points = rest.points }

-- an address leads back to itself
record IsOnCycle (s : Store) (a : Address) : Type 0 where
  next : Address
  path : List Address
  back : Leads s a (next ∷ path) a

-- so does the one before it on that way
before_it : (s : Store) (a : Address) → IsOnCycle s a → (c : Address) × IsOnCycle s c × Points s c a
before_it s a on =
    let last : IsLastStep s a a = last_step s a on.next a on.path on.back in
    (last.from, record { next = a; path = last.front; back = (contains_from_member a (pointers_of (block_at s last.from)) last.points, last.leads) }, last.points)

pub none_cycles : (s : Store) (Arrow : Address → Address → Type 0) → ((a b : Address) → Points s a b → Arrow a b) → ((a : Address) → IsFounded Arrow a) → IsAcyclic s
none_cycles s Arrow arrows founded a next path back =
    founded_none {P = Arrow} (λ (x : Address). IsOnCycle s x) (λ x on. (let b = before_it s x on in (b.0, b.1, arrows b.0 x b.2))) a (founded a) (record { next = next; path = path; back = back })

-- ---- the machine has each block of the store

module _ (n : ℕ) (some : 0 < n) (cs : List Catalogue) (each : length cs ≡ n) (own : AreOwn n 0 cs) (m : Machine) (follow : AreFollowing (layout_of n some) m (all_seen cs)) where
  pub there_points : (a b : Address) → Points (store_of cs) a b → PointsTo m.blocks a b
  there_points a b p = go (block_at (store_of cs) a) refl p
    where
      go : (found : Option StoredBlock) → block_at (store_of cs) a ≡ found → Member b (pointers_of found) → PointsTo m.blocks a b
      go None e q = elim q [ ]
      go (Some st) e q =
          let o = member_of_map (λ (x : Address × Present). (x.0, x.1.stored)) (a, st) (all_present (map plain cs)) (member_from_found (store_of cs).blocks a st e) in
          let f = in-present cs o.0 o.1 in
          let there = there_at n some cs each own m follow f.shard (let l = f.within in omega (arith, l, each)) (o.0.0, f.facts) f.kept in
          let same : f.facts.present.stored ≡ st = ap (λ (p : Present). p.stored) f.same ∙ sym (ap (λ (x : Address × StoredBlock). x.1) o.2) in
          record { block = seen_block (o.0.0, f.facts); stands = there.0; here = ap (λ (x : Address × StoredBlock). x.0) (sym o.2); pointer = subst (λ (y : StoredBlock). Member b y.pointers) (sym same) q }
