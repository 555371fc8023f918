-- The turn that is due behind `turn P`.
use Rattle.std.proofs.Common.{◌≡◌, ap, ℕ, ◌<◌, ◌≤◌, Bool, true, false, [], ◌∷◌, None, length, refl, arith, is_some, nat_le}
use Rattle.std.proofs.lemmas.Bool.Decides.{nat_tests}
use Rattle.hs_events.specs.Due.{turn_behind, turn_of}
use Rattle.hs_core_words.specs.Asking.{no_peer, not_up}
use Rattle.hs_core_words.specs.Looking.{status_of}
use Rattle.hs_core_words.specs.State.{Core}
use Rattle.hs_limits.specs.declared.limits.PeerStatus.{PeerStatus}
use Rattle.hs_limits.specs.declared.limits.PeerStatus.TheVariants.{Good, Joining, Down}
use Rattle.hs_members.specs.Members.{is_down}
use Rattle.hs_model.specs.Refusals.{first}

le-is : (k m : ℕ) → k ≤ m → nat_le k m ≡ true
le-is k m h = grind (arith, nat_tests, h)

gt-is : (k m : ℕ) → m < k → nat_le k m ≡ false
gt-is k m h = grind (arith, nat_tests, h)

refused : (peer : ℕ) (core : Core) → is_some (first (no_peer peer core ∷ not_up peer core ∷ [])) ≡ true → turn_behind peer core ≡ None
refused peer core h = go (is_some core.ended) refl
  where
    go : (b : Bool) → is_some core.ended ≡ b → turn_behind peer core ≡ None
    go true e = rw e refl
    go false e = rw (e, h) refl

pub turn_beyond : (peer : ℕ) (core : Core) → length core.members.statuses ≤ peer → turn_behind peer core ≡ None
turn_beyond peer core h = refused peer core (rw (le-is (length core.members.statuses) peer h) refl)

down_is : (s : PeerStatus) → s ≡ Down → is_down s ≡ true
down_is s e = ap is_down e

pub turn_down : (peer : ℕ) (core : Core) → peer < length core.members.statuses → status_of peer core ≡ Down → turn_behind peer core ≡ None
turn_down peer core low down = refused peer core (rw (gt-is (length core.members.statuses) peer low, down_is (status_of peer core) down) refl)

up_is : (s : PeerStatus) → (s ≡ Down → ⊥) → is_down s ≡ false
up_is Good h = refl
up_is Joining h = refl
up_is Down h = absurd (h refl)

pub turn_up : (peer : ℕ) (core : Core) → core.ended ≡ None → peer < length core.members.statuses → (status_of peer core ≡ Down → ⊥) → turn_behind peer core ≡ turn_of core peer
turn_up peer core ended low up = rw (ap is_some ended, gt-is (length core.members.statuses) peer low, up_is (status_of peer core) up) refl
