-- Behind a lawful history: the entry that comes next may follow, and what waits waits still behind it.
use Rattle.std.proofs.Common.{◌≡◌, ◌≢◌, ◌∙◌, ap, subst, ℕ, zero, suc, ◌<◌, ◌≤◌, Bool, true, false, List, [], ◌∷◌, length, refl, arith}
use Rattle.std.proofs.lemmas.Grind.{common_steps}
use Rattle.std.proofs.lemmas.List.{length-map}
use Rattle.std.specs.Prelude.{slice_index_or}
use Rattle.hs_answered.specs.Standing.{IsFolded}
use Rattle.hs_core_words.specs.Looking.{catalogue_of, shape_of}
use Rattle.hs_core_words.specs.State.{Core}
use Rattle.hs_deletion.specs.Machine.{Machine}
use Rattle.hs_effects.specs.Lawful.{IsLawful, MayFollow}
use Rattle.hs_effects.specs.Taking.{IsNamed, folds_behind, next_deed, setting_of, taken}
use Rattle.hs_effects.proofs.FoldLemmas.{memory_at, taken_folds}
use Rattle.hs_entry.specs.declared.entry.Entry.{Entry}
use Rattle.hs_entry.specs.declared.entry.Entry.TheVariants as kind
use Rattle.hs_fold.specs.Lawful.{Deed}
use Rattle.hs_fold.specs.Runs.Facts.{Catalogue as Folded, empty_catalogue}
use Rattle.hs_fold.specs.Runs.Fits.{MayCome, catalogue_at}
use Rattle.hs_fold.specs.Runs.History.{FitAll, applied, follow, follow_all, no_entries}
use Rattle.hs_fold.specs.Shards.Parted.{NamesUpTo}
use Rattle.hs_fold.specs.Shards.Setting.{Setting}
use Rattle.hs_fold.specs.Shards.Sound.{most_records}
use Rattle.hs_joint.specs.Along.{HaveFewRecords, KeepFewRecords}
use Rattle.hs_joint.proofs.DeedLemmas.{Arrives, arrives}
use Rattle.hs_joint.proofs.HistoryLemmas.{GoesAll, history_goes, shape_few, shape_some}
use Rattle.hs_joint.proofs.StandLemmas.{IsStanding}
use Rattle.hs_limits.specs.declared.address.Address.{Address}
use Rattle.hs_limits.specs.Shape.{IsShape}
use Rattle.hs_memory.specs.Forget.{record_of}
use Rattle.hs_shard.specs.Facts.{Catalogue}
use Rattle.hs_waiting.specs.Waits.{EntryWaits}
use Rattle.hs_waiting.proofs.RunLemmas.{beside, waits_fit}
use Rattle.hs_waiting.proofs.StayLemmas.{NamesAnother, WaitsBeside, waits_stay}

-- ---- kinds

-- whether an entry is a Got
abbrev pub is_a_got : Entry → Bool
is_a_got (kind.Got sender epoch round total deltas) = true
is_a_got other = false

-- a Mark that names a block up to a front names none that comes behind it
pub names_no_later : (front number g k : ℕ) (entry : Entry) → front < number → NamesUpTo front entry → NamesAnother g number k entry
names_no_later front number g k (kind.Mark op least block a) above names = λ same is. omega (arith, above, names, is)
names_no_later front number g k (kind.View view) above names = tt
names_no_later front number g k (kind.Block op least bytes) above names = tt
names_no_later front number g k (kind.Root op held a key) above names = tt
names_no_later front number g k (kind.Drop op key) above names = tt
names_no_later front number g k (kind.Enter op epoch) above names = tt
names_no_later front number g k (kind.Got sender epoch round total deltas) above names = tt
names_no_later front number g k (kind.Base view epoch swept round frames) above names = tt
names_no_later front number g k (kind.KeptBlock born mark flags count bytes) above names = tt
names_no_later front number g k (kind.KeptRoot created dropped counted address key) above names = tt
names_no_later front number g k (kind.KeptRound way other epoch round total deltas) above names = tt

-- one of another shard names no block of this shard
pub names_elsewhere : (g number k : ℕ) (entry : Entry) → k ≢ g → NamesAnother g number k entry
names_elsewhere g number k (kind.Mark op least block a) apart = λ same. absurd (apart same)
names_elsewhere g number k (kind.View view) apart = tt
names_elsewhere g number k (kind.Block op least bytes) apart = tt
names_elsewhere g number k (kind.Root op held a key) apart = tt
names_elsewhere g number k (kind.Drop op key) apart = tt
names_elsewhere g number k (kind.Enter op epoch) apart = tt
names_elsewhere g number k (kind.Got sender epoch round total deltas) apart = tt
names_elsewhere g number k (kind.Base view epoch swept round frames) apart = tt
names_elsewhere g number k (kind.KeptBlock born mark flags count bytes) apart = tt
names_elsewhere g number k (kind.KeptRoot created dropped counted address key) apart = tt
names_elsewhere g number k (kind.KeptRound way other epoch round total deltas) apart = tt

pub names_grow : (m n : ℕ) (entry : Entry) → m ≤ n → NamesUpTo m entry → NamesUpTo n entry
names_grow m n (kind.Mark op least block a) low names = omega (arith, low, names)
names_grow m n (kind.View view) low names = tt
names_grow m n (kind.Block op least bytes) low names = tt
names_grow m n (kind.Root op held a key) low names = tt
names_grow m n (kind.Drop op key) low names = tt
names_grow m n (kind.Enter op epoch) low names = tt
names_grow m n (kind.Got sender epoch round total deltas) low names = tt
names_grow m n (kind.Base view epoch swept round frames) low names = tt
names_grow m n (kind.KeptBlock born mark flags count bytes) low names = tt
names_grow m n (kind.KeptRoot created dropped counted address key) low names = tt
names_grow m n (kind.KeptRound way other epoch round total deltas) low names = tt

-- what waits beside the machine, and is no Got, waits
alone : (set : Setting) (some : 0 < set.shape.shards) (cs : List Folded) (m : Machine) (st : IsStanding set some cs m) (shard : ℕ) (entry : Entry) → is_a_got entry ≡ false → WaitsBeside set some cs m st shard entry → EntryWaits cs shard entry
alone set some cs m st shard (kind.Got sender epoch round total deltas) none w = absurd (cc none)
alone set some cs m st shard (kind.View view) none w = tt
alone set some cs m st shard (kind.Block op least bytes) none w = w
alone set some cs m st shard (kind.Mark op least block a) none w = w
alone set some cs m st shard (kind.Root op held a key) none w = w
alone set some cs m st shard (kind.Drop op key) none w = tt
alone set some cs m st shard (kind.Enter op epoch) none w = w
alone set some cs m st shard (kind.Base view epoch swept round frames) none w = tt
alone set some cs m st shard (kind.KeptBlock born mark flags count bytes) none w = tt
alone set some cs m st shard (kind.KeptRoot created dropped counted address key) none w = tt
alone set some cs m st shard (kind.KeptRound way other epoch round total deltas) none w = tt

-- ---- behind a history

-- it may come where it changes something
abbrev pub Comes : Setting → List Folded → Deed → Type 0
Comes set cs deed = (applied set cs deed ≡ catalogue_at cs deed.shard → ⊥) → MayCome cs deed.shard deed.entry

module _ (set : Setting) (history : List Deed) (shape : IsShape set.shape) (fit : FitAll set (no_entries set) history) (records : KeepFewRecords set (no_entries set) history) where
  g : GoesAll set (shape_some set.shape shape) (no_entries set) history
  g = history_goes set (shape_some set.shape shape) (shape_few set.shape shape) history fit records

  pub history_comes : (deed : Deed) → deed.shard < set.shape.shards → EntryWaits (follow_all set (no_entries set) history) deed.shard deed.entry → Comes set (follow_all set (no_entries set) history) deed
  history_comes deed of waits =
      waits_fit set (shape_some set.shape shape) (follow_all set (no_entries set) history) g.later g.standing deed.shard of deed.number deed.entry
      (beside set (shape_some set.shape shape) (follow_all set (no_entries set) history) g.later g.standing deed.shard deed.entry waits)

  history_arrives : (deed : Deed) → deed.shard < set.shape.shards → Comes set (follow_all set (no_entries set) history) deed → HaveFewRecords (follow set (follow_all set (no_entries set) history) deed)
      → Arrives set (shape_some set.shape shape) (follow_all set (no_entries set) history) g.later deed
  history_arrives deed of comes few =
      arrives set (shape_some set.shape shape) (follow_all set (no_entries set) history) g.later g.standing deed.shard of deed.number deed.entry (shape_few set.shape shape) comes few

  -- an entry that waits, and is no Got, waits still
  pub history_stays : (deed : Deed) → deed.shard < set.shape.shards → Comes set (follow_all set (no_entries set) history) deed → HaveFewRecords (follow set (follow_all set (no_entries set) history) deed)
      → (shard : ℕ) → shard < set.shape.shards → (other : Entry) → is_a_got other ≡ false → NamesAnother deed.shard deed.number shard other → EntryWaits (follow_all set (no_entries set) history) shard other
      → EntryWaits (follow set (follow_all set (no_entries set) history) deed) shard other
  history_stays deed of comes few shard low other none names waits =
      let one = history_arrives deed of comes few in
      alone set (shape_some set.shape shape) (follow set (follow_all set (no_entries set) history) deed) one.later one.standing shard other none
      (waits_stay set (shape_some set.shape shape) (follow_all set (no_entries set) history) g.later g.standing g.valid deed.shard of deed.number deed.entry one shard low other names
      (beside set (shape_some set.shape shape) (follow_all set (no_entries set) history) g.later g.standing shard other waits))

-- ---- in a core

at_any : (cs : List Folded) (k : ℕ) (d e : Folded) → k < length cs → slice_index_or cs k d ≡ slice_index_or cs k e
at_any [] k d e l = absurd (omega (arith, l))
at_any (c ∷ cs) zero d e l = refl
at_any (c ∷ cs) (suc k) d e l = at_any cs k d e (grind (arith, common_steps, l))

module _ (name : List ℕ → Address) (cs : List Folded) (core : Core) (its : IsLawful name core cs) (shard : ℕ) (entry : Entry) (low : shard < (shape_of core).shards) (called : IsNamed name entry core) where
  abbrev behind : List Folded
  behind = folds_behind name cs shard entry core

  folded : IsFolded (taken shard entry core) (folds_behind name cs shard entry core)
  folded = taken_folds name cs core shard entry its.folded low called

  pub few_behind : ((g : ℕ) → length (catalogue_of g (taken shard entry core)).roots ≤ most_records) → HaveFewRecords (folds_behind name cs shard entry core)
  few_behind few k d l =
      let each = folded.shards in
      let l' : k < (shape_of (taken shard entry core)).shards = omega (arith, l, each) in
      let mem = memory_at name behind (taken shard entry core) k entry folded l' in
      let roots : length (catalogue_of k (taken shard entry core)).roots ≡ length (catalogue_at behind k).roots =
      ap (λ (c : Catalogue). length c.roots) mem ∙ length-map (catalogue_at behind k).roots record_of in
      let here : length (slice_index_or behind k d).roots ≡ length (catalogue_at behind k).roots = ap (λ (c : Folded). length c.roots) (at_any behind k d empty_catalogue l) in
      let up = few k in
      omega (arith, roots, here, up)

  pub may_follow : ((g : ℕ) → length (catalogue_of g (taken shard entry core)).roots ≤ most_records) → EntryWaits cs shard entry → MayFollow (setting_of name core) cs (next_deed shard entry core)
  may_follow few waits = record {
    of = low;
    rests =
        subst (λ ds. EntryWaits ds shard entry → Comes (setting_of name core) ds (next_deed shard entry core)) its.lawful.gives
        (λ w. history_comes (setting_of name core) its.lawful.history its.folded.valid its.lawful.fits its.lawful.records (next_deed shard entry core) low w) waits;
    records = few_behind few;
  }

  -- an entry that waits, and is no Got, waits still behind one that may follow
  pub stays_behind : MayFollow (setting_of name core) cs (next_deed shard entry core) → (k : ℕ) → k < (shape_of core).shards → (other : Entry) → is_a_got other ≡ false
      → NamesAnother shard (next_deed shard entry core).number k other → EntryWaits cs k other → EntryWaits (folds_behind name cs shard entry core) k other
  stays_behind may k l other none names waits =
      subst (λ ds. MayFollow (setting_of name core) ds (next_deed shard entry core) → EntryWaits ds k other → EntryWaits (follow (setting_of name core) ds (next_deed shard entry core)) k other) its.lawful.gives
      (λ m w. history_stays (setting_of name core) its.lawful.history its.folded.valid its.lawful.fits its.lawful.records (next_deed shard entry core) m.of m.rests m.records k l other none names w)
      may waits
