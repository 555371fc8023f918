-- What waits behind a lawful history waits still behind one entry more.
use Rattle.std.proofs.Common.{◌≡◌, ℕ, ◌<◌, ◌≤◌, List, ap, arith}
use Rattle.hs_limits.specs.Shape.{IsShape}
use Rattle.hs_entry.specs.declared.entry.Entry.{Entry}
use Rattle.hs_entry.specs.declared.entry.Entry.TheVariants as kind
use Rattle.hs_deletion.specs.Machine.{Machine}
use Rattle.hs_fold.specs.Lawful.{Deed}
use Rattle.hs_fold.specs.Shards.Parted.{NamesUpTo}
use Rattle.hs_fold.specs.Shards.Setting.{Setting}
use Rattle.hs_fold.specs.Runs.Facts.{Catalogue}
use Rattle.hs_fold.specs.Runs.Fits.{catalogue_at}
use Rattle.hs_fold.specs.Runs.History.{FitAll, follow, follow_all, no_entries}
use Rattle.hs_joint.specs.Along.{HaveFewRecords, KeepFewRecords}
use Rattle.hs_joint.proofs.DeedLemmas.{arrives}
use Rattle.hs_joint.proofs.HistoryLemmas.{history_goes, shape_few, shape_some}
use Rattle.hs_joint.proofs.StandLemmas.{IsStanding}
use Rattle.hs_waiting.specs.Waits.{EntryWaits}
use Rattle.hs_waiting.proofs.GotStayLemmas.{accepted_is_kept}
use Rattle.hs_waiting.proofs.RunLemmas.{beside, waits_fit}
use Rattle.hs_waiting.proofs.StayLemmas.{NamesAnother, WaitsBeside, waits_stay}
use Rattle.hs_standing.specs.Effect.{IsStillDue}

-- a Mark that names a block up to the front names none that comes behind it
pub names_another : (front : ℕ → ℕ) (g number k : ℕ) (entry : Entry) → front g < number → NamesUpTo (front k) entry → NamesAnother g number k entry
names_another front g number k (kind.Mark op least block a) above names = λ same is. (let here : front k ≡ front g = ap front same in omega (arith, above, names, is, here))
names_another front g number k other above names = tt

pub names_grow : (m n : ℕ) (entry : Entry) → m ≤ n → NamesUpTo m entry → NamesUpTo n entry
names_grow m n (kind.Mark op least block a) low names = omega (arith, low, names)
names_grow m n other low names = tt

-- beside the machine a Got that would be taken is what its sender keeps
alone : (set : Setting) (some : 0 < set.shape.shards) (cs : List Catalogue) (m : Machine) (st : IsStanding set some cs m) (shard : ℕ) → shard < set.shape.shards → (entry : Entry)
    → WaitsBeside set some cs m st shard entry → IsStillDue set.shape.shards (catalogue_at cs shard) entry → EntryWaits cs shard entry
alone set some cs m st shard low (kind.View view) w due = tt
alone set some cs m st shard low (kind.Block op least bytes) w due = w
alone set some cs m st shard low (kind.Mark op least block a) w due = w
alone set some cs m st shard low (kind.Root op held a key) w due = w
alone set some cs m st shard low (kind.Drop op key) w due = tt
alone set some cs m st shard low (kind.Enter op epoch) w due = w
alone set some cs m st shard low (kind.Got sender epoch round total deltas) w due =
    (let each = st.joined.each in let from = w.sender in omega (arith, each, from), accepted_is_kept set some cs m st shard low (record { epoch = epoch; round = round; from = sender }) due (record { total = total; deltas = deltas }) w)
alone set some cs m st shard low (kind.Base view epoch swept round frames) w due = tt
alone set some cs m st shard low (kind.KeptBlock born mark flags count bytes) w due = tt
alone set some cs m st shard low (kind.KeptRoot created dropped counted address key) w due = tt
alone set some cs m st shard low (kind.KeptRound way other epoch round total deltas) w due = tt

module _ (set : Setting) (history : List Deed) (shape : IsShape set.shape) (fit : FitAll set (no_entries set) history) (records : KeepFewRecords set (no_entries set) history) where
  abbrev cs : List Catalogue
  cs = follow_all set (no_entries set) history

  pub history_still : (deed : Deed) → deed.shard < set.shape.shards → EntryWaits cs deed.shard deed.entry → HaveFewRecords (follow set cs deed)
      → (shard : ℕ) → shard < set.shape.shards → (other : Entry) → NamesAnother deed.shard deed.number shard other → EntryWaits cs shard other → IsStillDue set.shape.shards (catalogue_at (follow set cs deed) shard) other
      → EntryWaits (follow set cs deed) shard other
  history_still deed of first few shard low other names waits due =
      let some = shape_some set.shape shape in
      let few8 = shape_few set.shape shape in
      let g = history_goes set some few8 history fit records in
      let fits = waits_fit set some cs g.later g.standing deed.shard of deed.number deed.entry (beside set some cs g.later g.standing deed.shard deed.entry first) in
      let one = arrives set some cs g.later g.standing deed.shard of deed.number deed.entry few8 fits few in
      let stays = waits_stay set some cs g.later g.standing g.valid deed.shard of deed.number deed.entry one shard low other names (beside set some cs g.later g.standing shard other waits) in
      alone set some (follow set cs deed) one.later one.standing shard low other stays due
