-- What a Got that takes effect tells.
use Rattle.std.proofs.Common.{◌≡◌, ◌∙◌, sym, ap, subst, ◌⊎◌, inl, inr, ℕ, zero, suc, ◌+◌, ◌-◌, ◌<◌, Bool, true, false, cond, ◌&&◌, List, [], ◌∷◌, ◌++◌, length, map, Option, Some, None, IsTrue, refl, arith, nat_le, nat_lt, slice_index, sum_by, append_assoc}
use Rattle.std.proofs.lemmas.Bool.{ltb-true}
use Rattle.std.proofs.lemmas.Grind.{common_steps}
use Rattle.std.proofs.lemmas.List.{get_or-map, length-map}
use Rattle.std.proofs.lemmas.List.Folds.{list_all-map}
use Rattle.std.proofs.lemmas.List.Sums.{sum_by-cons}
use Rattle.std.specs.List.{list_all}
use Rattle.std.specs.Prelude.{slice_index_or, slice_set}
use Rattle.hs_answered.specs.Standing.{IsAddressed, IsFolded, forget_all, store_with}
use Rattle.hs_awaiting.specs.Words.{change_if, change_with}
use Rattle.hs_core_words.specs.Changing.{note}
use Rattle.hs_core_words.specs.Effects.{note_sweep, take_effect}
use Rattle.hs_core_words.specs.Entering.{propose_due}
use Rattle.hs_core_words.specs.Looking.{catalogue_of, shape_of}
use Rattle.hs_core_words.specs.Seeing.{view_for}
use Rattle.hs_core_words.specs.State.{Core}
use Rattle.hs_effects.specs.Lawful.{IsLawful, MayFollow}
use Rattle.hs_effects.specs.Taking.{IsNamed, done_by, folds_behind, next_deed, setting_of, taken}
use Rattle.hs_effects.specs.Telling.{HasSwept, IsSilent}
use Rattle.hs_effects.proofs.EndingLemmas.{HasRemoved, IsSteady, OpensAbove, forget_opens, got_ends}
use Rattle.hs_effects.proofs.FoldLemmas.{memory_at, taken_folds}
use Rattle.hs_effects.proofs.LawfulLemmas.{entry_part}
use Rattle.hs_effects.proofs.QuietLemmas.{Mute, due_mute, resumed_none}
use Rattle.hs_entry.specs.declared.entry.Entry.{Entry}
use Rattle.hs_entry.specs.declared.entry.Entry.TheVariants as kind
use Rattle.hs_desk.specs.declared.what.What.TheVariants as what
use Rattle.hs_fold.specs.Runs.Facts.{Catalogue as Folded}
use Rattle.hs_fold.specs.Runs.Opened.{store_of}
use Rattle.hs_fold.specs.Shards.Happening.{Happening, happen_by}
use Rattle.hs_fold.specs.Shards.Happening.{sweeps as sweeping}
use Rattle.hs_fold.proofs.Shards.PlaceLemmas.{length-set, same-at}
use Rattle.hs_joint.specs.Along.{DoesItsPart, MayHappenBy, happening_by}
use Rattle.hs_fold.specs.Runs.Fits.{catalogue_at}
use Rattle.hs_shard.specs.declared.effect.Effect.{Effect}
use Rattle.hs_journal.specs.declared.entry.JournalEntry.{JournalEntry}
use Rattle.hs_journal.specs.declared.entry.Who.TheVariants as who
use Rattle.hs_limits.specs.declared.address.Address.{Address}
use Rattle.hs_limits.specs.declared.delta.Delta.{Delta}
use Rattle.hs_limits.specs.declared.shape.Shape.{Shape}
use Rattle.hs_model.specs.declared.deed.Deed.TheVariants as deed
use Rattle.hs_model.specs.declared.op.Op.{Op}
use Rattle.hs_model.specs.declared.op.Op.TheVariants as op
use Rattle.hs_model.specs.declared.reply.Reply.TheVariants as reply
use Rattle.hs_model.specs.Inner.{may_sweep, sweep}
use Rattle.hs_model.specs.Store.{Store, with_sessions}
use Rattle.hs_ops.specs.Speaking.{judging_shard}
use Rattle.hs_rounds.specs.declared.body.RoundBody.{RoundBody}
use Rattle.hs_rounds.specs.declared.place.Place.{Place}
use Rattle.hs_shard.specs.Clients.{only}
use Rattle.hs_shard.specs.Facts.{Catalogue, empty_catalogue}
use Rattle.hs_shown.specs.Showing.{Shows, as_sessions}

-- what hs_answered says of views
abbrev pub ByViews : Type 0
ByViews = (cs : List Folded) (core : Core) (o : Op) → IsFolded core cs → IsAddressed core.sessions o
    → Shows core.limits (store_with cs core.sessions) o (view_for (judging_shard (shape_of core).shards core.sessions o) o core)

-- ---- what the store has of the catalogues

sum_set : (f : Catalogue → ℕ) (none : Catalogue) (ks : List Catalogue) (k : ℕ) (d : Catalogue) → k < length ks → sum_by f (slice_set ks k d) + f (slice_index_or ks k none) ≡ sum_by f ks + f d
sum_set f none [] k d l = absurd (omega (arith, l))
sum_set f none (x ∷ ks) zero d l =
    let one = sum_by-cons f d ks in
    let two = sum_by-cons f x ks in
    omega (arith, one, two)
sum_set f none (x ∷ ks) (suc k) d l =
    let one = sum_by-cons f x (slice_set ks k d) in
    let two = sum_by-cons f x ks in
    let rest = sum_set f none ks k d (grind (arith, common_steps, l)) in
    omega (arith, one, two, rest)

length_forget : (shape : Shape) (from : ℕ) (cs : List Folded) → length (forget_all shape from cs) ≡ length cs
length_forget shape from [] = refl
length_forget shape from (c ∷ cs) = ap (λ n. suc n) (length_forget shape (from + 1) cs)

-- of a core the store has the epochs of its shards, those that they have swept, and all their blocks
pub record HasShards (core : Core) (s : Store) : Type 0 where
  pub epochs : map (λ (c : Catalogue). c.epoch) core.catalogues ≡ s.epochs
  pub swept : map (λ (c : Catalogue). c.swept) core.catalogues ≡ s.swept
  pub blocks : sum_by (λ (c : Catalogue). length c.blocks) core.catalogues ≡ length s.blocks

has_shards : ByViews → (cs : List Folded) (core : Core) → IsFolded core cs → HasShards core (store_with cs core.sessions)
has_shards views cs core folded =
    let shows = views cs core op.Stat folded tt in
    record { epochs = shows.epochs; swept = shows.swept; blocks = shows.blocks }

pub left_of : (a b : Bool) → (a && b) ≡ true → a ≡ true
left_of true b e = refl
left_of false b e = e

-- ---- a shard by itself

module _ (views : ByViews) (name : List ℕ → Address) (cs : List Folded) (core : Core) (shard : ℕ) (entry : Entry) (its : IsLawful name core cs) (may : MayFollow (setting_of name core) cs (next_deed shard entry core)) (called : IsNamed name entry core) where
  abbrev shape : Shape
  shape = shape_of core

  abbrev behind : List Folded
  behind = folds_behind name cs shard entry core

  abbrev here : Core
  here = taken shard entry core

  -- what its catalogue was, and what it is
  abbrev old : Catalogue
  old = catalogue_of shard core

  abbrev new : Catalogue
  new = (done_by shard entry core).catalogue

  -- the store before the entry, and behind it
  abbrev s : Store
  s = store_with cs core.sessions

  abbrev t : Store
  t = store_with behind core.sessions

  abbrev happens : Option Happening
  happens = happening_by (setting_of name core) cs (next_deed shard entry core)

  abbrev none : Catalogue
  none = empty_catalogue shape shard

  pub opens : OpensAbove old
  opens = subst (λ k. OpensAbove k) (sym (memory_at name cs core shard entry its.folded may.of)) (forget_opens shape shard (catalogue_at cs shard))

  part : DoesItsPart (setting_of name core) cs (next_deed shard entry core)
  part = entry_part name cs core shard entry its may

  low : shard < length core.catalogues
  low = subst (λ n. shard < n) (sym (ap (λ ks. length ks) its.folded.catalogues ∙ length_forget shape 0 cs ∙ its.folded.shards)) may.of

  low_here : shard < length here.catalogues
  low_here = subst (λ n. shard < n) (sym (length-set core.catalogues shard new)) low

  pub at_here : catalogue_of shard here ≡ new
  at_here = same-at none core.catalogues shard new low

  before : HasShards core s
  before = has_shards views cs core its.folded

  after : HasShards here t
  after = has_shards views behind here (taken_folds name cs core shard entry its.folded may.of called)

  pub store_is : t ≡ with_sessions (happen_by (store_of cs) happens) (as_sessions core.sessions)
  store_is = ap (λ (x : Store). with_sessions x (as_sessions core.sessions)) part.store

  pub allowed : MayHappenBy (store_of cs) happens
  allowed = part.allowed

  pub epoch_before : slice_index s.epochs shard ≡ old.epoch
  epoch_before = sym (ap (λ (ks : List ℕ). slice_index ks shard) before.epochs) ∙ get_or-map (λ (c : Catalogue). c.epoch) core.catalogues shard none 0 low

  -- the epoch of the shard before and behind it, as views have it
  pub epoch_seen : slice_index (map (λ (c : Catalogue). c.epoch) core.catalogues) shard ≡ old.epoch
  epoch_seen = get_or-map (λ (c : Catalogue). c.epoch) core.catalogues shard none 0 low

  pub epoch_left : slice_index (map (λ (c : Catalogue). c.epoch) here.catalogues) shard ≡ new.epoch
  epoch_left = get_or-map (λ (c : Catalogue). c.epoch) here.catalogues shard none 0 low_here ∙ ap (λ (c : Catalogue). c.epoch) at_here

  pub swept_before : slice_index s.swept shard ≡ old.swept
  swept_before = sym (ap (λ (ks : List ℕ). slice_index ks shard) before.swept) ∙ get_or-map (λ (c : Catalogue). c.swept) core.catalogues shard none 0 low

  pub swept_after : slice_index t.swept shard ≡ new.swept
  swept_after =
      sym (ap (λ (ks : List ℕ). slice_index ks shard) after.swept)
      ∙ get_or-map (λ (c : Catalogue). c.swept) here.catalogues shard none 0 low_here ∙ ap (λ (c : Catalogue). c.swept) at_here

  low_epochs : shard < length s.epochs
  low_epochs = subst (λ n. shard < n) (sym (length-map core.catalogues (λ (c : Catalogue). c.epoch)) ∙ ap (λ (ks : List ℕ). length ks) before.epochs) low

  low_swept : shard < length s.swept
  low_swept = subst (λ n. shard < n) (sym (length-map core.catalogues (λ (c : Catalogue). c.swept)) ∙ ap (λ (ks : List ℕ). length ks) before.swept) low

  pub entered_index : slice_index (slice_set s.epochs shard (slice_index s.epochs shard + 1)) shard ≡ slice_index s.epochs shard + 1
  entered_index = same-at 0 s.epochs shard (slice_index s.epochs shard + 1) low_epochs

  pub swept_index : slice_index (slice_set s.swept shard (slice_index s.epochs shard)) shard ≡ slice_index s.epochs shard
  swept_index = same-at 0 s.swept shard (slice_index s.epochs shard) low_swept

  pub removed_is : (count : ℕ) → count + length new.blocks ≡ length old.blocks → count ≡ length s.blocks - length t.blocks
  removed_is count e =
      let sum = sum_set (λ (c : Catalogue). length c.blocks) none core.catalogues shard new low in
      let one = before.blocks in
      let two = after.blocks in
      omega (arith, sum, one, two, e)

  pub all_swept : (epoch : ℕ) → list_all (λ (c : Catalogue). nat_le epoch c.swept) here.catalogues ≡ list_all (λ (e : ℕ). nat_le epoch e) t.swept
  all_swept epoch =
      sym (list_all-map (λ (e : ℕ). nat_le epoch e) (λ (c : Catalogue). c.swept) here.catalogues)
      ∙ ap (λ (ks : List ℕ). list_all (λ (e : ℕ). nat_le epoch e) ks) after.swept

-- ---- what is noted of a sweep

-- the journal so far, with a sweep of this epoch and number of blocks, and with what is told behind it
with_sweep : Core → ℕ → ℕ → ℕ → Bool → List JournalEntry
with_sweep core shard epoch removed all =
    core.entries ++ record { who = who.Shard shard; moment = core.moment; deed = deed.Swept shard; reply = reply.Sweep epoch removed }
    ∷ cond all (record { who = who.Store; moment = core.moment; deed = deed.Nothing; reply = reply.Done epoch } ∷ []) []

noted_sweep : (shard removed : ℕ) (c : Core) → (note_sweep shard removed c).entries
    ≡ with_sweep c shard (catalogue_of shard c).swept removed (list_all (λ (x : Catalogue). nat_le (catalogue_of shard c).swept x.swept) c.catalogues)
unfolding with_sweep
noted_sweep shard removed c = go (list_all (λ (x : Catalogue). nat_le epoch x.swept) c.catalogues)
  where
    epoch : ℕ
    epoch = (catalogue_of shard c).swept

    first : Core
    first = note (who.Shard shard) (deed.Swept shard) (reply.Sweep epoch removed) c

    go : (b : Bool) → (change_if b (note who.Store deed.Nothing (reply.Done epoch)) first).entries ≡ with_sweep c shard epoch removed b
    go true = append_assoc c.entries (record { who = who.Shard shard; moment = c.moment; deed = deed.Swept shard; reply = reply.Sweep epoch removed } ∷ [])
        (record { who = who.Store; moment = c.moment; deed = deed.Nothing; reply = reply.Done epoch } ∷ [])
    go false = refl

sweep_sessions : (shard removed : ℕ) (c : Core) → (note_sweep shard removed c).sessions ≡ c.sessions
sweep_sessions shard removed c = go (list_all (λ (x : Catalogue). nat_le epoch x.swept) c.catalogues)
  where
    epoch : ℕ
    epoch = (catalogue_of shard c).swept

    go : (b : Bool) → (change_if b (note who.Store deed.Nothing (reply.Done epoch)) (note (who.Shard shard) (deed.Swept shard) (reply.Sweep epoch removed) c)).sessions ≡ c.sessions
    go true = refl
    go false = refl

-- ---- a Got

module _ (views : ByViews) (name : List ℕ → Address) (cs : List Folded) (core : Core) (shard sender epoch round total : ℕ) (deltas : List Delta) where
  abbrev got : Entry
  got = kind.Got sender epoch round total deltas

  abbrev place : Place
  place = record { epoch = epoch; round = round; from = sender }

  abbrev body : RoundBody
  body = record { total = total; deltas = deltas }

  module _ (its : IsLawful name core cs) (may : MayFollow (setting_of name core) cs (next_deed shard got core)) where
    abbrev store : Store
    store = store_with cs core.sessions

    abbrev later : Store
    later = store_with (folds_behind name cs shard got core) core.sessions

    abbrev effect : Effect
    effect = (done_by shard got core).effect

    abbrev told : Core
    told = change_with effect.removed (note_sweep shard) (taken shard got core)

    -- all that comes behind what is told of it tells nothing
    mute : Mute told (take_effect shard got core)
    mute = subst (λ (x : Core). Mute told x) (sym (resumed_none shard (propose_due shard told))) (due_mute shard told)

    ended : IsSteady (only what.Nothing (catalogue_of shard core)) (done_by shard got core) ⊎ HasRemoved (only what.Nothing (catalogue_of shard core)) (done_by shard got core)
    ended = got_ends place body (catalogue_of shard core) (opens views name cs core shard got its may refl)

    -- where nothing happens
    pub quiet : happening_by (setting_of name core) cs (next_deed shard got core) ≡ None → IsSilent cs (folds_behind name cs shard got core) core (take_effect shard got core)
    quiet stays = by_end ended
      where
        same : later ≡ store
        same = store_is views name cs core shard got its may refl ∙ ap (λ (h : Option Happening). with_sessions (happen_by (store_of cs) h) (as_sessions core.sessions)) stays

        by_end : IsSteady (only what.Nothing (catalogue_of shard core)) (done_by shard got core) ⊎ HasRemoved (only what.Nothing (catalogue_of shard core)) (done_by shard got core)
            → IsSilent cs (folds_behind name cs shard got core) core (take_effect shard got core)
        by_end (inl steady) =
            let here : told ≡ taken shard got core = ap (λ (removed : Option ℕ). change_with removed (note_sweep shard) (taken shard got core)) steady.removed in
            record {
              told = mute.entries ∙ ap (λ (x : Core). x.entries) here;
              left = ap (λ seats. store_with (folds_behind name cs shard got core) seats) (mute.sessions ∙ ap (λ (x : Core). x.sessions) here) ∙ same;
            }
        by_end (inr gone) =
            let after = swept_after views name cs core shard got its may refl in
            let before = swept_before views name cs core shard got its may refl in
            let level : slice_index later.swept shard ≡ slice_index store.swept shard = ap (λ (x : Store). slice_index x.swept shard) same in
            let risen = gone.risen in
            absurd (omega (arith, after, before, level, risen))

    -- where the shard sweeps
    pub swept : happening_by (setting_of name core) cs (next_deed shard got core) ≡ Some (sweeping shard) → HasSwept cs (folds_behind name cs shard got core) core (take_effect shard got core) shard
    unfolding with_sweep
    swept comes = by_end ended
      where
        now : ℕ
        now = slice_index store.epochs shard

        is_sweep : later ≡ sweep store shard
        is_sweep = store_is views name cs core shard got its may refl ∙ ap (λ (h : Option Happening). with_sessions (happen_by (store_of cs) h) (as_sessions core.sessions)) comes

        may_here : IsTrue (may_sweep store shard)
        may_here = subst (λ (h : Option Happening). MayHappenBy (store_of cs) h) comes (allowed views name cs core shard got its may refl)

        behind_now : slice_index store.swept shard < now
        behind_now = ltb-true (slice_index store.swept shard) now (left_of (nat_lt (slice_index store.swept shard) now) _ may_here)

        now_is : (done_by shard got core).catalogue.swept ≡ now
        now_is = sym (swept_after views name cs core shard got its may refl) ∙ ap (λ (x : Store). slice_index x.swept shard) is_sweep ∙ swept_index views name cs core shard got its may refl

        noted : (removed : ℕ) → removed ≡ length store.blocks - length later.blocks
            → (note_sweep shard removed (taken shard got core)).entries ≡ with_sweep core shard now (length store.blocks - length (sweep store shard).blocks) (list_all (λ (e : ℕ). nat_le now e) (sweep store shard).swept)
        noted removed many =
            let at : (catalogue_of shard (taken shard got core)).swept ≡ now = ap (λ (c : Catalogue). c.swept) (at_here views name cs core shard got its may refl) ∙ now_is in
            noted_sweep shard removed (taken shard got core)
            ∙ ap (λ (k : ℕ). with_sweep core shard k removed (list_all (λ (x : Catalogue). nat_le k x.swept) (taken shard got core).catalogues)) at
            ∙ ap (λ (b : Bool). with_sweep core shard now removed b) (all_swept views name cs core shard got its may refl now)
            ∙ ap (λ (n : ℕ). with_sweep core shard now n (list_all (λ (e : ℕ). nat_le now e) later.swept)) many
            ∙ ap (λ (x : Store). with_sweep core shard now (length store.blocks - length x.blocks) (list_all (λ (e : ℕ). nat_le now e) x.swept)) is_sweep

        by_end : IsSteady (only what.Nothing (catalogue_of shard core)) (done_by shard got core) ⊎ HasRemoved (only what.Nothing (catalogue_of shard core)) (done_by shard got core)
            → HasSwept cs (folds_behind name cs shard got core) core (take_effect shard got core) shard
        by_end (inl steady) =
            let before = swept_before views name cs core shard got its may refl in
            let level = steady.swept in
            absurd (omega (arith, before, level, now_is, behind_now))
        by_end (inr gone) =
            let here : told ≡ note_sweep shard gone.count (taken shard got core) = ap (λ (removed : Option ℕ). change_with removed (note_sweep shard) (taken shard got core)) gone.removed in
            record {
              allowed = may_here;
              told = mute.entries ∙ ap (λ (x : Core). x.entries) here ∙ noted gone.count (removed_is views name cs core shard got its may refl gone.count gone.blocks);
              left =
                  ap (λ seats. store_with (folds_behind name cs shard got core) seats) (mute.sessions ∙ ap (λ (x : Core). x.sessions) here ∙ sweep_sessions shard gone.count (taken shard got core))
                  ∙ is_sweep;
            }
