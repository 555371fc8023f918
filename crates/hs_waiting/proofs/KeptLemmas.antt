-- What its sender kept, and a shard accepts later, its sender keeps still.
use Rattle.std.proofs.Common.{◌≡◌, ℕ, ◌<◌, ◌≤◌, List, [], ◌∷◌, true, sym, subst}
use Rattle.hs_limits.specs.Shape.{IsShape}
use Rattle.hs_rounds.specs.declared.body.RoundBody.{RoundBody}
use Rattle.hs_rounds.specs.declared.place.Place.{Place}
use Rattle.hs_deletion.specs.Machine.{Machine}
use Rattle.hs_fold.specs.Lawful.{Deed}
use Rattle.hs_fold.specs.Shards.Setting.{Setting}
use Rattle.hs_fold.specs.Runs.Facts.{Catalogue}
use Rattle.hs_fold.specs.Runs.Fits.{catalogue_at, HasSent}
use Rattle.hs_fold.specs.Runs.History.{applied, follow, follow_all, FitAll, no_entries}
use Rattle.hs_fold.specs.Runs.Rounds.{is_accepted}
use Rattle.hs_joint.specs.Along.{KeepFewRecords}
use Rattle.hs_joint.proofs.DeedLemmas.{arrives}
use Rattle.hs_joint.proofs.HistoryLemmas.{shape_some, shape_few, history_goes}
use Rattle.hs_joint.proofs.StandLemmas.{IsStanding, SendsOn, set_here, set_there}
use Rattle.hs_waiting.proofs.GotStayLemmas.{GotWaits, got_waits, accepted_is_kept, got_stays}

record StillWaits (set : Setting) (some : 0 < set.shape.shards) (cs : List Catalogue) (deeds : List Deed) (shard : ℕ) (place : Place) (told : RoundBody) : Type 0 where
  later : Machine
  standing : IsStanding set some (follow_all set cs deeds) later
  waits : GotWaits set some (follow_all set cs deeds) later standing shard place told

still_waits : (set : Setting) (some : 0 < set.shape.shards) → set.shape.shards ≤ 8 → (shard : ℕ) (place : Place) (told : RoundBody) (deeds : List Deed) (cs : List Catalogue) (m : Machine) (st : IsStanding set some cs m) → FitAll set cs deeds → KeepFewRecords set cs deeds → GotWaits set some cs m st shard place told
    → StillWaits set some cs deeds shard place told
still_waits set some few shard place told [] cs m st fit records w = record { later = m; standing = st; waits = w }
still_waits set some few shard place told (deed ∷ deeds) cs m st fit records w =
    let one = arrives set some cs m st deed.shard fit.0 deed.number deed.entry few fit.1 records.0 in
    let rest = still_waits set some few shard place told deeds (follow set cs deed) one.later one.standing fit.2 records.1
    (got_stays set some cs (follow set cs deed) m one.later st one.standing deed.shard fit.0 one.moves
    (subst (λ (x : Catalogue). SendsOn (catalogue_at cs deed.shard).sent x.sent (m.states deed.shard).sent (one.later.states deed.shard).sent) (sym (set_here set some cs m st deed.shard fit.0 (applied set cs deed) m)) one.sends)
    (λ k o. set_there set some cs m st deed.shard fit.0 (applied set cs deed) m k o) shard place told w) in
    record { later = rest.later; standing = rest.standing; waits = rest.waits }

pub kept_still : (set : Setting) (history deeds : List Deed) (shard : ℕ) (place : Place) (told : RoundBody) → IsShape set.shape → FitAll set (no_entries set) history → KeepFewRecords set (no_entries set) history
    → FitAll set (follow_all set (no_entries set) history) deeds → KeepFewRecords set (follow_all set (no_entries set) history) deeds → shard < set.shape.shards → place.from < set.shape.shards
    → HasSent (catalogue_at (follow_all set (no_entries set) history) place.from).sent shard place.epoch place.round told
    → is_accepted set.shape.shards (catalogue_at (follow_all set (follow_all set (no_entries set) history) deeds) shard) place ≡ true
    → HasSent (catalogue_at (follow_all set (follow_all set (no_entries set) history) deeds) place.from).sent shard place.epoch place.round told
kept_still set history deeds shard place told shape fit records more few_more l within h ok =
    let some = shape_some set.shape shape in
    let g = history_goes set some (shape_few set.shape shape) history fit records in
    let w = still_waits set some (shape_few set.shape shape) shard place told deeds (follow_all set (no_entries set) history) g.later g.standing more few_more (got_waits set some (follow_all set (no_entries set) history) g.later g.standing shard place told within h) in
    accepted_is_kept set some (follow_all set (follow_all set (no_entries set) history) deeds) w.later w.standing shard l place ok told w.waits
