-- The run over all that waits.
use Rattle.std.proofs.Common.{◌≡◌, inl, inr, ℕ, ◌+◌, ◌<◌, ◌≤◌, ◌==◌, List, [], ◌∷◌, Bool, true, false, cond, refl, ap, arith}
use Rattle.std.proofs.lemmas.Bool.{and_parts, eqb-true}
use Rattle.hs_laws.proofs.ValidLemmas.{Valid, is_from_valid}
use Rattle.hs_entry.specs.declared.entry.Entry.{Entry}
use Rattle.hs_entry.specs.declared.entry.Entry.TheVariants as kind
use Rattle.hs_rounds.specs.declared.body.RoundBody.{RoundBody}
use Rattle.hs_rounds.specs.declared.place.Place.{Place}
use Rattle.hs_deletion.specs.Machine.{Machine}
use Rattle.hs_fold.specs.Lawful.{Deed}
use Rattle.hs_fold.specs.Shards.Parted.{NamesUpTo}
use Rattle.hs_fold.specs.Shards.Setting.{Setting}
use Rattle.hs_fold.specs.Runs.Facts.{Catalogue}
use Rattle.hs_fold.specs.Runs.Fits.{catalogue_at, MayCome}
use Rattle.hs_fold.specs.Runs.History.{follow, follow_all, FitAll}
use Rattle.hs_fold.specs.Runs.Opened.{store_of}
use Rattle.hs_fold.specs.Runs.Rounds.{may_enter, enter_epoch, is_accepted, advanced, log_got}
use Rattle.hs_joint.specs.Along.{KeepFewRecords, EachDoesItsPart}
use Rattle.hs_joint.proofs.DeedLemmas.{Arrives, Fits, arrives}
use Rattle.hs_joint.proofs.StandLemmas.{IsStanding}
use Rattle.hs_waiting.specs.Waits.{EnterWaits, EntryWaits, AllWait}
use Rattle.hs_waiting.proofs.GotStayLemmas.{GotWaits, got_waits, accepted_is_kept}
use Rattle.hs_waiting.proofs.StayLemmas.{NamesAnother, WaitsBeside, waits_stay}

-- ---- what waits may come where it changes something

module _ (set : Setting) (some : 0 < set.shape.shards) (cs : List Catalogue) (m : Machine) (st : IsStanding set some cs m) (g : ℕ) (lg : g < set.shape.shards) (number : ℕ) where
  abbrev n : ℕ
  n = set.shape.shards

  abbrev c : Catalogue
  c = catalogue_at cs g

  abbrev deed : Entry → Deed
  deed entry = record { shard = g; number = number; entry = entry }

  enter_fits : (op epoch : ℕ) → EnterWaits cs g epoch → Fits set cs (deed (kind.Enter op epoch))
  enter_fits op epoch w changed = elim w [
    | inr p ↦ p.1
    | inl over ↦ absurd (changed (ap (λ b. cond b (advanced n (enter_epoch n c)) c) (passed (may_enter c epoch) refl over)))
  ]
    where
      passed : (b : Bool) → may_enter c epoch ≡ b → epoch ≤ c.epoch → may_enter c epoch ≡ false
      passed false e over = e
      passed true e over = (let next = eqb-true epoch (c.epoch + 1) (and_parts (epoch == c.epoch + 1) (c.swept == c.epoch) e).0 in absurd (omega (arith, over, next)))

  got_fits : (place : Place) (told : RoundBody) → GotWaits set some cs m st g place told → Fits set cs (deed (kind.Got place.from place.epoch place.round told.total told.deltas))
  got_fits place told w changed = go (is_accepted n c place) refl
    where
      go : (b : Bool) → is_accepted n c place ≡ b → MayCome cs g (kind.Got place.from place.epoch place.round told.total told.deltas)
      go true e = accepted_is_kept set some cs m st g lg place e told w
      go false e = absurd (changed (ap (λ b. cond b (advanced n (log_got place told c)) c) e))

  pub waits_fit : (entry : Entry) → WaitsBeside set some cs m st g entry → Fits set cs (deed entry)
  waits_fit (kind.View view) w changed = tt
  waits_fit (kind.Block op least bytes) w changed = w
  waits_fit (kind.Mark op least block a) w changed = w
  waits_fit (kind.Root op held a key) w changed = w
  waits_fit (kind.Drop op key) w changed = tt
  waits_fit (kind.Enter op epoch) w changed = enter_fits op epoch w changed
  waits_fit (kind.Got sender epoch round total deltas) w changed = got_fits (record { epoch = epoch; round = round; from = sender }) (record { total = total; deltas = deltas }) w changed
  waits_fit (kind.Base view epoch swept round frames) w changed = tt
  waits_fit (kind.KeptBlock born mark flags count bytes) w changed = tt
  waits_fit (kind.KeptRoot created dropped counted address key) w changed = tt
  waits_fit (kind.KeptRound way other epoch round total deltas) w changed = tt

-- what waits where it took effect waits beside the machine
pub beside : (set : Setting) (some : 0 < set.shape.shards) (cs : List Catalogue) (m : Machine) (st : IsStanding set some cs m) (shard : ℕ) (entry : Entry) → EntryWaits cs shard entry → WaitsBeside set some cs m st shard entry
beside set some cs m st shard (kind.View view) w = tt
beside set some cs m st shard (kind.Block op least bytes) w = w
beside set some cs m st shard (kind.Mark op least block a) w = w
beside set some cs m st shard (kind.Root op held a key) w = w
beside set some cs m st shard (kind.Drop op key) w = tt
beside set some cs m st shard (kind.Enter op epoch) w = w
beside set some cs m st shard (kind.Got sender epoch round total deltas) w = got_waits set some cs m st shard (record { epoch = epoch; round = round; from = sender }) (record { total = total; deltas = deltas }) (let each = st.joined.each in let low = w.0 in omega (arith, low, each)) w.1
beside set some cs m st shard (kind.Base view epoch swept round frames) w = tt
beside set some cs m st shard (kind.KeptBlock born mark flags count bytes) w = tt
beside set some cs m st shard (kind.KeptRoot created dropped counted address key) w = tt
beside set some cs m st shard (kind.KeptRound way other epoch round total deltas) w = tt

-- ---- one after another

pub record IsBeside (set : Setting) (some : 0 < set.shape.shards) (front : ℕ → ℕ) (cs : List Catalogue) (m : Machine) (st : IsStanding set some cs m) (deed : Deed) : Type 0 where
  pub of : deed.shard < set.shape.shards
  pub above : front deed.shard < deed.number
  pub names : NamesUpTo (front deed.shard) deed.entry
  pub may : WaitsBeside set some cs m st deed.shard deed.entry

abbrev pub AllBeside : (set : Setting) (some : 0 < set.shape.shards) (front : ℕ → ℕ) (cs : List Catalogue) (m : Machine) → IsStanding set some cs m → List Deed → Type 0
AllBeside set some front cs m st [] = Unit {0}
AllBeside set some front cs m st (deed ∷ deeds) = IsBeside set some front cs m st deed × AllBeside set some front cs m st deeds

pub all_beside : (set : Setting) (some : 0 < set.shape.shards) (front : ℕ → ℕ) (cs : List Catalogue) (m : Machine) (st : IsStanding set some cs m) (deeds : List Deed) → AllWait set front cs deeds → AllBeside set some front cs m st deeds
all_beside set some front cs m st [] w = tt
all_beside set some front cs m st (deed ∷ deeds) w = (
  record { of = w.0.of; above = w.0.above; names = w.0.names; may = beside set some cs m st deed.shard deed.entry w.0.may },
  all_beside set some front cs m st deeds w.1,
)

-- a Mark that names a block up to the front names none that comes behind it
names_another : (front : ℕ → ℕ) (g number k : ℕ) (entry : Entry) → front g < number → NamesUpTo (front k) entry → NamesAnother g number k entry
names_another front g number k (kind.Mark op least block a) above names = λ same is. (let here : front k ≡ front g = ap front same in omega (arith, above, names, is, here))
names_another front g number k (kind.View view) above names = tt
names_another front g number k (kind.Block op least bytes) above names = tt
names_another front g number k (kind.Root op held a key) above names = tt
names_another front g number k (kind.Drop op key) above names = tt
names_another front g number k (kind.Enter op epoch) above names = tt
names_another front g number k (kind.Got sender epoch round total deltas) above names = tt
names_another front g number k (kind.Base view epoch swept round frames) above names = tt
names_another front g number k (kind.KeptBlock born mark flags count bytes) above names = tt
names_another front g number k (kind.KeptRoot created dropped counted address key) above names = tt
names_another front g number k (kind.KeptRound way other epoch round total deltas) above names = tt

stay_beside : (set : Setting) (some : 0 < set.shape.shards) (front : ℕ → ℕ) (cs : List Catalogue) (m : Machine) (st : IsStanding set some cs m) → Valid (store_of cs) → (deed : Deed) (l : deed.shard < set.shape.shards) → front deed.shard < deed.number → (one : Arrives set some cs m deed) (deeds : List Deed) → AllBeside set some front cs m st deeds
    → AllBeside set some front (follow set cs deed) one.later one.standing deeds
stay_beside set some front cs m st v deed l above one [] w = tt
stay_beside set some front cs m st v deed l above one (other ∷ deeds) w = (
  record {
    of = w.0.of;
    above = w.0.above;
    names = w.0.names;
    may = waits_stay set some cs m st v deed.shard l deed.number deed.entry one other.shard w.0.of other.entry (names_another front deed.shard deed.number other.shard other.entry above w.0.names) w.0.may;
  },
  stay_beside set some front cs m st v deed l above one deeds w.1,
)

pub record RunsAll (set : Setting) (some : 0 < set.shape.shards) (cs : List Catalogue) (deeds : List Deed) : Type 0 where
  pub fits : FitAll set cs deeds
  pub parts : EachDoesItsPart set cs deeds
  pub later : Machine
  pub standing : IsStanding set some (follow_all set cs deeds) later
  pub valid : Valid (store_of (follow_all set cs deeds))

pub runs_all : (set : Setting) (some : 0 < set.shape.shards) → set.shape.shards ≤ 8 → (front : ℕ → ℕ) (deeds : List Deed) (cs : List Catalogue) (m : Machine) (st : IsStanding set some cs m) → Valid (store_of cs) → AllBeside set some front cs m st deeds → KeepFewRecords set cs deeds → RunsAll set some cs deeds
runs_all set some few front [] cs m st v w records = record { fits = tt; parts = tt; later = m; standing = st; valid = v }
runs_all set some few front (deed ∷ deeds) cs m st v w records =
    let fit = waits_fit set some cs m st deed.shard w.0.of deed.number deed.entry w.0.may in
    let one = arrives set some cs m st deed.shard w.0.of deed.number deed.entry few fit records.0 in
    let kept = one.keeps v in
    let rest = runs_all set some few front deeds (follow set cs deed) one.later one.standing kept.0 (stay_beside set some front cs m st v deed w.0.of w.0.above one deeds w.1) records.1 in
    record {
      fits = (w.0.of, fit, rest.fits);
      parts = (record { store = one.store; allowed = one.allowed; valid = is_from_valid (store_of (follow set cs deed)) kept.0 }, rest.parts);
      later = rest.later;
      standing = rest.standing;
      valid = rest.valid;
    }
