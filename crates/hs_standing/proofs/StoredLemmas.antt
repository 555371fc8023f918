-- Each block that is present was stored by an entry that took effect: what single changes keep.
use Rattle.std.proofs.Common.{◌≡◌, ◌≢◌, ◌⊎◌, ◌∙◌, sym, ap, subst, inl, inr, ℕ, ◌+◌, ◌<◌, ◌≤◌, List, length, Some, arith}
use Rattle.std.proofs.lemmas.Bool.{cases_eq}
use Rattle.hs_standing.specs.Changes.{IsBeside, told_at_once}
use Rattle.hs_core_words.specs.Asking.{send_round}
use Rattle.hs_core_words.specs.Changing.{change_group, change_pool, note, refuse}
use Rattle.hs_core_words.specs.Looking.{catalogue_of, front_of, group_of, shape_of}
use Rattle.hs_core_words.specs.Operating.{begin_line, go_on_with, propose_entry}
use Rattle.hs_core_words.specs.State.{Core}
use Rattle.hs_core_words.specs.Views.{begin_view}
use Rattle.hs_effects.specs.Lawful.{IsLawful}
use Rattle.hs_effects.specs.Taking.{done_by, folds_behind, next_deed, setting_of, taken}
use Rattle.hs_effects.proofs.EffectLemmas.{taken_here}
use Rattle.hs_effects.proofs.GroupLemmas.{committed_first, group_changed}
use Rattle.hs_entry.specs.declared.entry.Entry.{Entry}
use Rattle.hs_entry.specs.declared.entry.Entry.TheVariants as kind
use Rattle.hs_fold.specs.Runs.Facts.{Catalogue as Folded, Facts as FoldedFacts, empty_catalogue, facts_at}
use Rattle.hs_fold.specs.Runs.Fits.{catalogue_at}
use Rattle.hs_fold.specs.Runs.History.{applied}
use Rattle.hs_fold.specs.Runs.Own.{IsOwn}
use Rattle.hs_fold.specs.Shards.Setting.{shard_in}
use Rattle.hs_fold.proofs.Shards.PlaceLemmas.{other-at, same-at}
use Rattle.hs_joint.proofs.StandLemmas.{own_at}
use Rattle.hs_journal.specs.declared.entry.Who.TheVariants as who
use Rattle.hs_limits.specs.declared.address.Address.{Address}
use Rattle.hs_limits.specs.declared.delta.Delta.{Delta}
use Rattle.hs_model.specs.declared.deed.Deed.TheVariants as deed
use Rattle.hs_model.specs.declared.op.Op.{Op}
use Rattle.hs_model.specs.declared.reply.Reply.{Reply}
use Rattle.hs_model.specs.declared.reply.Reply.TheVariants as reply
use Rattle.hs_ops.specs.Operations.{Operation}
use Rattle.hs_ops.specs.declared.step.OpStep.{OpStep}
use Rattle.hs_ops.specs.Views.{OpView}
use Rattle.hs_post.specs.Pool.{without}
use Rattle.hs_replica.specs.Group.{Group, committed, take_committed}
use Rattle.hs_standing.specs.Rests.{AreStored}
use Rattle.hs_standing.proofs.RestsListLemmas.{front_begun, front_goes, front_proposed, front_told, front_viewed, group_again}
use Rattle.hs_waiting.proofs.WasLemmas.{was-there}

-- fronts that are no lower have stored what was stored
pub stored_on : (cs : List Folded) (a b : Core) → ((g : ℕ) → front_of g b ≡ front_of g a) → AreStored a cs → AreStored b cs
stored_on cs a b same stored shard x facts at = subst (λ n. facts.present.number ≤ n) (sym (same shard)) (stored shard x facts at)

-- ---- changes beside

pub stored_beside : (cs : List Folded) (a b : Core) → AreStored a cs → IsBeside a b → AreStored b cs
stored_beside cs a b stored beside = stored_on cs a b beside.front stored

pub stored_downed : (cs : List Folded) (c : Core) → AreStored c cs → (peer line : ℕ) → AreStored (note who.Store deed.Nothing (reply.Down peer line) c) cs
stored_downed cs c stored peer line = stored

pub stored_refused : (cs : List Folded) (c : Core) → AreStored c cs → (line : ℕ) (refusal : Reply) → AreStored (refuse line refusal c) cs
stored_refused cs c stored line refusal = stored

pub stored_again : (cs : List Folded) (c : Core) → AreStored c cs → (back shard : ℕ) → AreStored (send_round back shard c) cs
stored_again cs c stored back shard = stored_on cs c (send_round back shard c) (λ g. ap (λ (x : Group). x.front) (group_again g back shard c)) stored

-- ---- operations that go on, and entries that are proposed

pub stored_line : (cs : List Folded) (c : Core) → AreStored c cs → (line : ℕ) (o : Op) → AreStored (begin_line line o c) cs
stored_line cs c stored line o = stored_on cs c (begin_line line o c) (λ g. front_begun g line o c) stored

-- whatever judges its step: that of goes, of told and of an entry
pub stored_goes : (cs : List Folded) (c : Core) → AreStored c cs → (next : OpView → Operation → OpStep) (line : ℕ) → AreStored (go_on_with next line c) cs
stored_goes cs c stored next line = stored_on cs c (go_on_with next line c) (λ g. front_goes g next line c) stored

pub stored_proposed : (cs : List Folded) (c : Core) → AreStored c cs → (shard : ℕ) (entry : Entry) → AreStored (propose_entry shard entry c) cs
stored_proposed cs c stored shard entry = stored_on cs c (propose_entry shard entry c) (λ g. front_proposed g shard entry c) stored

pub stored_due : (cs : List Folded) (c : Core) → AreStored c cs → (shard : ℕ) → AreStored (propose_entry shard (kind.Enter 0 ((catalogue_of shard c).epoch + 1)) c) cs
stored_due cs c stored shard = stored_proposed cs c stored shard (kind.Enter 0 ((catalogue_of shard c).epoch + 1))

pub stored_round : (cs : List Folded) (c : Core) → AreStored c cs → (number from to epoch round total : ℕ) (deltas : List Delta)
    → AreStored (propose_entry to (kind.Got from epoch round total deltas) (change_pool (without number) c)) cs
stored_round cs c stored number from to epoch round total deltas = stored_proposed cs (change_pool (without number) c) stored to (kind.Got from epoch round total deltas)

-- ---- an entry takes effect

zero_left : (k : ℕ) → 0 + k ≡ k
zero_left k = omega arith

module _ (name : List ℕ → Address) (cs : List Folded) (c : Core) (its : IsLawful name c cs) (stored : AreStored c cs) (shard number : ℕ) (entry : Entry) (low : shard < (shape_of c).shards) (leads : committed (group_of shard c) ≡ Some (number, entry)) where
  abbrev next : Folded
  next = applied (setting_of name c) cs (next_deed shard entry c)

  abbrev behind : List Folded
  behind = folds_behind name cs shard entry c

  here_low : shard < length cs
  here_low = let each = its.folded.shards in omega (arith, low, each)

  own : IsOwn (shape_of c).shards shard (catalogue_at cs shard)
  own = subst (λ k. IsOwn (shape_of c).shards k (catalogue_at cs shard)) (zero_left shard) (own_at (shape_of c).shards 0 cs its.folded.own shard here_low)

  front_here : front_of shard (taken shard entry c) ≡ front_of shard c + 1
  front_here = ap (λ (g : Group). g.front) (taken_here shard number entry c leads) ∙ (committed_first (group_of shard c) number entry leads).taken.front

  front_there : (g : ℕ) → g ≢ shard → front_of g (taken shard entry c) ≡ front_of g c
  front_there g apart = go (group_changed shard take_committed c g)
    where
      go : (group_of g (change_group shard take_committed c) ≡ group_of g c) ⊎ ((g ≡ shard) × (group_of g (change_group shard take_committed c) ≡ take_committed (group_of shard c))) → front_of g (taken shard entry c) ≡ front_of g c
      go (inl same) = ap (λ (x : Group). x.front) same
      go (inr is) = absurd (apart is.0)

  -- a block of its shard is that of the entry, or was there
  stored_here : (a : Address) (facts : FoldedFacts) → facts_at next a ≡ Some facts → facts.present.number ≤ front_of shard c + 1
  stored_here a facts at = elim (cases_eq facts.present.number (front_of shard c + 1)) [
    | inl is ↦ omega (arith, is)
    | inr other ↦ (
        let was = was-there (shard_in (setting_of name c) shard) (catalogue_at cs shard) own a facts (front_of shard c + 1) entry other at in
        let up = stored shard a was.old was.found in
        let same = was.number in
        omega (arith, up, same)
        )
  ]

  pub taken_stored : AreStored (taken shard entry c) (folds_behind name cs shard entry c)
  taken_stored g a facts at = elim (cases_eq g shard) [
    | inl is ↦ (
        let now : facts_at next a ≡ Some facts =
        ap (λ (x : Folded). facts_at x a) (sym (ap (λ k. catalogue_at behind k) is ∙ same-at empty_catalogue cs shard next here_low)) ∙ at in
        let up = stored_here a facts now in
        let front : front_of g (taken shard entry c) ≡ front_of shard c + 1 = ap (λ k. front_of k (taken shard entry c)) is ∙ front_here in
        omega (arith, up, front)
        )
    | inr apart ↦ (
        let was : facts_at (catalogue_at cs g) a ≡ Some facts = ap (λ (x : Folded). facts_at x a) (sym (other-at empty_catalogue cs shard g next apart)) ∙ at in
        let up = stored g a facts was in
        let front = front_there g apart in
        omega (arith, up, front)
        )
  ]

  pub stored_effect : AreStored (told_at_once shard entry c) (folds_behind name cs shard entry c)
  stored_effect = stored_on behind (taken shard entry c) (told_at_once shard entry c) (λ g. front_told g shard (taken shard entry c) entry (done_by shard entry c).effect) taken_stored

-- ---- a first view

pub stored_opens : (cs : List Folded) (c : Core) → AreStored c cs → (shard : ℕ) → AreStored (begin_view shard c) cs
stored_opens cs c stored shard = stored_on cs c (begin_view shard c) (λ g. front_viewed shard c g) stored
