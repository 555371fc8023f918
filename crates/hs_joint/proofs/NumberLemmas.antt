-- Along a lawful history rounds lose nothing.
use Rattle.std.proofs.Common.{◌≡◌, ℕ, ◌+◌, ◌<◌, ◌≤◌, true, cond, List, [], ◌∷◌, ap, ◌∙◌, arith}
use Rattle.std.specs.Prelude.{nat_lt}
use Rattle.std.proofs.lemmas.Bool.{and_parts, ltb-true}
use Rattle.hs_entry.specs.declared.entry.Entry.{Entry}
use Rattle.hs_entry.specs.declared.entry.Entry.TheVariants as kind
use Rattle.hs_rounds.specs.declared.body.RoundBody.{RoundBody}
use Rattle.hs_rounds.specs.declared.place.Place.{Place}
use Rattle.hs_deletion.specs.Machine.{Machine}
use Rattle.hs_fold.specs.Lawful.{Deed}
use Rattle.hs_fold.specs.Shards.Setting.{Setting}
use Rattle.hs_fold.specs.Runs.Facts.{Catalogue}
use Rattle.hs_fold.specs.Runs.Fits.{catalogue_at}
use Rattle.hs_fold.specs.Runs.History.{follow, FitAll}
use Rattle.hs_fold.specs.Runs.Rounds.{may_enter, enter_epoch, advanced}
use Rattle.hs_fold.specs.Runs.Rounds.{enter as enter_here}
use Rattle.hs_joint.specs.Along.{KeepFewRecords}
use Rattle.hs_joint.specs.Numbers.{GotLosesNothing, EntryLosesNothing, EachLosesNothing}
use Rattle.hs_joint.proofs.DeedLemmas.{Fits, arrives}
use Rattle.hs_joint.proofs.EnterLemmas.{enter_fits, first_whole}
use Rattle.hs_joint.proofs.GotLemmas.{advanced_epoch, got_differs, got_loses_nothing}
use Rattle.hs_joint.proofs.StandLemmas.{IsStanding, was_sent}

module _ (set : Setting) (some : 0 < set.shape.shards) (cs : List Catalogue) (m : Machine) (st : IsStanding set some cs m) (g : ℕ) (lg : g < set.shape.shards) (number : ℕ) where
  abbrev n : ℕ
  n = set.shape.shards

  abbrev c : Catalogue
  c = catalogue_at cs g

  abbrev deed : Entry → Deed
  deed entry = record { shard = g; number = number; entry = entry }

  pub enter_moves : (epoch : ℕ) → may_enter c epoch ≡ true → enter_here n epoch c ≡ c → ⊥
  enter_moves epoch e same =
      let is : enter_here n epoch c ≡ advanced n (enter_epoch n c) = ap (λ b. cond b (advanced n (enter_epoch n c)) c) e in
      let one : (enter_here n epoch c).epoch ≡ c.epoch + 1 = ap (λ (x : Catalogue). x.epoch) is ∙ advanced_epoch n (enter_epoch n c) in
      let two : (enter_here n epoch c).epoch ≡ c.epoch = ap (λ (x : Catalogue). x.epoch) same in
      omega (arith, one, two)

  got_loses : (place : Place) (told : RoundBody) → Fits set cs (deed (kind.Got place.from place.epoch place.round told.total told.deltas)) → GotLosesNothing n c place told
  got_loses place told fit ok whole =
      let may = fit (λ same. got_differs n place told c ok same) in
      let within : place.from < n = ltb-true place.from n (and_parts (nat_lt place.from n) _ ok).0 in
      got_loses_nothing set some cs m st g lg place told (was_sent set some cs m st place.from within g place.epoch place.round told may) whole

  pub loses : (entry : Entry) → Fits set cs (deed entry) → EntryLosesNothing n c entry
  loses (kind.View view) fit = tt
  loses (kind.Block op least bytes) fit = tt
  loses (kind.Mark op least block a) fit = tt
  loses (kind.Root op held a key) fit = tt
  loses (kind.Drop op key) fit = tt
  loses (kind.Enter op epoch) fit = λ e. first_whole set some cs m st g lg (enter_fits set some cs m st g lg (fit (λ same. enter_moves epoch e same)))
  loses (kind.Got sender epoch round total deltas) fit = got_loses (record { epoch = epoch; round = round; from = sender }) (record { total = total; deltas = deltas }) fit
  loses (kind.Base view epoch swept round frames) fit = tt
  loses (kind.KeptBlock born mark flags count bytes) fit = tt
  loses (kind.KeptRoot created dropped counted address key) fit = tt
  loses (kind.KeptRound way other epoch round total deltas) fit = tt

pub each_loses : (set : Setting) (some : 0 < set.shape.shards) → set.shape.shards ≤ 8 → (deeds : List Deed) (cs : List Catalogue) (m : Machine) → IsStanding set some cs m → FitAll set cs deeds → KeepFewRecords set cs deeds → EachLosesNothing set cs deeds
each_loses set some few [] cs m st fit records = tt
each_loses set some few (deed ∷ deeds) cs m st fit records =
    let one = arrives set some cs m st deed.shard fit.0 deed.number deed.entry few fit.1 records.0 in
    (loses set some cs m st deed.shard fit.0 deed.number deed.entry fit.1, each_loses set some few deeds (follow set cs deed) one.later one.standing fit.2 records.1)
