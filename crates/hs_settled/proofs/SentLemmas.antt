-- Along a lawful history a machine is made that has sent all that some shard kept as sent behind a front of it.
use Rattle.std.proofs.Common.{◌≡◌, sym, subst, ℕ, ◌<◌, ◌≤◌, ◌++◌, List, [], ◌∷◌}
use Rattle.hs_deletion.specs.Following.{IsSent}
use Rattle.hs_deletion.specs.Machine.{Layout, Machine, Round}
use Rattle.hs_fold.specs.Lawful.{Deed}
use Rattle.hs_fold.specs.Runs.Facts.{Catalogue as Folded}
use Rattle.hs_fold.specs.Runs.Fits.{HasSent, catalogue_at}
use Rattle.hs_fold.specs.Runs.History.{FitAll, follow, follow_all}
use Rattle.hs_fold.specs.Shards.Setting.{Setting}
use Rattle.hs_joint.proofs.DeedLemmas.{Arrives, arrives}
use Rattle.hs_joint.proofs.StandLemmas.{was_sent}
use Rattle.hs_joint.proofs.StandLemmas.{IsStanding as StandsBeside}
use Rattle.hs_joint.specs.Along.{KeepFewRecords}
use Rattle.hs_joint.specs.Seen.{layout_of, seen_round}
use Rattle.hs_rounds.specs.declared.body.RoundBody.{RoundBody}

-- a later machine has sent all that one has
abbrev pub SentOn : Layout → Machine → Machine → Type 0
SentOn layout m later = (to sender epoch round : ℕ) (body : Round) → IsSent layout m.states to sender epoch round body → IsSent layout later.states to sender epoch round body

-- and all that some catalogues keep as sent
abbrev pub HaveSent : (set : Setting) → 0 < set.shape.shards → List Folded → Machine → Type 0
HaveSent set some cs m =
    (sender : ℕ) → sender < set.shape.shards → (to epoch round : ℕ) (told : RoundBody) → HasSent (catalogue_at cs sender).sent to epoch round told
    → IsSent (layout_of set.shape.shards some) m.states to sender epoch round (seen_round round told)

pub record Sends (set : Setting) (some : 0 < set.shape.shards) (cs : List Folded) (m : Machine) (deeds : List Deed) : Type 0 where
  pub later : Machine
  pub standing : StandsBeside set some (follow_all set cs deeds) later
  pub moves : SentOn (layout_of set.shape.shards some) m later
  pub sent : (front rest : List Deed) → front ++ rest ≡ deeds → HaveSent set some (follow_all set cs front) later

pub sends_all : (set : Setting) (some : 0 < set.shape.shards) → set.shape.shards ≤ 8 → (deeds : List Deed) (cs : List Folded) (m : Machine) → StandsBeside set some cs m → FitAll set cs deeds → KeepFewRecords set cs deeds → Sends set some cs m deeds
sends_all set some few [] cs m st fit records = record {
  later = m;
  standing = st;
  moves = λ to sender epoch round body sent. sent;
  sent = none;
}
  where
    none : (front rest : List Deed) → front ++ rest ≡ [] → HaveSent set some (follow_all set cs front) m
    none [] rest e = λ sender low to epoch round told sent. was_sent set some cs m st sender low to epoch round told sent
    none (deed ∷ front) rest e = absurd (cc e)
sends_all set some few (deed ∷ deeds) cs m st fit records =
    let one : Arrives set some cs m deed = arrives set some cs m st deed.shard fit.0 deed.number deed.entry few fit.1 records.0 in
    let rest : Sends set some (follow set cs deed) one.later deeds = sends_all set some few deeds (follow set cs deed) one.later one.standing fit.2 records.1 in
    let on : SentOn (layout_of set.shape.shards some) m rest.later = (λ to sender epoch round body sent. rest.moves to sender epoch round body (one.moves to sender epoch round body sent)) in
    record {
      later = rest.later;
      standing = rest.standing;
      moves = on;
      sent = λ front back e. by_front rest.later on rest.sent front back e;
    }
  where
    first_is : {x y : Deed} {xs ys : List Deed} → x ∷ xs ≡ y ∷ ys → x ≡ y
    first_is e = cc e

    rest_is : {x y : Deed} {xs ys : List Deed} → x ∷ xs ≡ y ∷ ys → xs ≡ ys
    rest_is e = cc e

    by_front : (later : Machine) → SentOn (layout_of set.shape.shards some) m later → ((front back : List Deed) → front ++ back ≡ deeds → HaveSent set some (follow_all set (follow set cs deed) front) later)
        → (front back : List Deed) → front ++ back ≡ deed ∷ deeds → HaveSent set some (follow_all set cs front) later
    by_front later on sent [] back e = λ sender low to epoch round told kept. on to sender epoch round (seen_round round told) (was_sent set some cs m st sender low to epoch round told kept)
    by_front later on sent (d ∷ front) back e = subst (λ (x : Deed). HaveSent set some (follow_all set (follow set cs x) front) later) (sym (first_is e)) (sent front back (rest_is e))
