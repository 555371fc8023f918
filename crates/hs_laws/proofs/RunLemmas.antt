-- What a store has that a legal run leaves.
use Rattle.std.proofs.Common.{◌≡◌, [], ◌∷◌, None, Contains, subst}
use Rattle.hs_limits.specs.declared.address.Held.{Held}
use Rattle.hs_limits.specs.declared.limits.Limits.{Limits}
use Rattle.hs_model.specs.Store.{Store, Root, empty_store}
use Rattle.hs_laws.specs.Held.{IsHeld, IsFreshHeld}
use Rattle.hs_laws.specs.Reached.{IsWhole}
use Rattle.hs_laws.specs.Runs.{IsLeft}
use Rattle.hs_laws.proofs.JudgeKeeps.{run_valid}
use Rattle.hs_model.proofs.Members.{member_from_contains}
use Rattle.hs_laws.proofs.OrderKeeps.{Ordered, empty_ordered, run_ordered}
use Rattle.hs_laws.proofs.PromiseLemmas.{empty_valid, root_present, held_present}
use Rattle.hs_model.proofs.ReachLemmas.{reached_from_is}
use Rattle.hs_laws.proofs.ValidLemmas.{Valid, held_in_from}

pub left_valid : (limits : Limits) (s : Store) → IsLeft limits s → Valid s
left_valid limits s i = subst Valid i.leaves (run_valid limits (empty_store i.shards) (empty_valid i.shards i.some_shard) i.events i.legal)

pub left_ordered : (limits : Limits) (s : Store) → IsLeft limits s → Ordered s
left_ordered limits s i = subst Ordered i.leaves (run_ordered limits (empty_store i.shards) (empty_ordered i.shards) i.events)

pub root_whole : (s : Store) → Valid s → (root : Root) → Contains s.roots root → root.dropped ≡ None → IsWhole s root.address
root_whole s v root m e b r = root_present s v root (member_from_contains root s.roots m) e b (reached_from_is s (root.address ∷ []) b r)

pub held_whole : (s : Store) → Valid s → (held : Held) → IsHeld s held → IsFreshHeld s held → IsWhole s held.address
held_whole s v held i f b r = held_present s v held (held_in_from s held i) f b (reached_from_is s (held.address ∷ []) b r)
