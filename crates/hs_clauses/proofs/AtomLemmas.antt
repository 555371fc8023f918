-- Behind each single change the operations that wait for bytes wait for blocks that are there.
use Rattle.std.proofs.Common.{◌≡◌, ◌∙◌, sym, ap, subst, ℕ, ◌<◌, Bool, true, false, cond, map, List, [], Option, Some, is_some, refl}
use Rattle.hs_standing.specs.Changes.{IsBeside, told_at_once, tells_at_once}
use Rattle.hs_answered.specs.Standing.{IsFolded, store_with}
use Rattle.hs_awaiting.specs.declared.waiting.Waiting.{Waiting}
use Rattle.hs_awaiting.specs.Views.{restarted}
use Rattle.hs_core_words.specs.Asking.{send_round}
use Rattle.hs_core_words.specs.Changing.{change_group, change_pool, post, set_viewed}
use Rattle.hs_core_words.specs.Effects.{note_enter, tell_enter, tell_operation}
use Rattle.hs_core_words.specs.Looking.{group_of, operation_of, shape_of}
use Rattle.hs_core_words.specs.Operating.{go_on_with, propose_entry, resume}
use Rattle.hs_core_words.specs.Seeing.{view_for}
use Rattle.hs_core_words.specs.State.{Core}
use Rattle.hs_core_words.specs.Views.{begin_view, restart}
use Rattle.hs_desk.specs.declared.what.What.{What}
use Rattle.hs_effects.specs.Lawful.{IsLawful, MayFollow}
use Rattle.hs_effects.specs.Logged.{IsOrderly}
use Rattle.hs_effects.specs.Taking.{IsNamed, done_by, folds_behind, next_deed, setting_of, taken}
use Rattle.hs_entry.specs.declared.entry.Entry.{Entry}
use Rattle.hs_entry.specs.declared.entry.Entry.TheVariants as kind
use Rattle.hs_fold.specs.Runs.Facts.{Catalogue as Folded}
use Rattle.hs_fold.specs.Runs.Fits.{catalogue_at}
use Rattle.hs_laws.specs.Valid.{IsValid}
use Rattle.hs_standing.proofs.MuteLemmas.{Still, Words, entered_still, proposed_words, removed_still}
use Rattle.hs_standing.proofs.OrderLemmas.{again_alike, taken_orderly}
use Rattle.hs_limits.specs.declared.address.Address.{Address}
use Rattle.hs_limits.specs.Shape.{shard_of}
use Rattle.hs_members.specs.Members.{view_of}
use Rattle.hs_model.specs.declared.op.Op.{Op}
use Rattle.hs_model.specs.declared.op.Op.TheVariants as op
use Rattle.hs_ops.specs.Operations.{bytes_step, effect_step, go_step}
use Rattle.hs_ops.specs.Speaking.{judging_shard}
use Rattle.hs_post.specs.Pool.{without}
use Rattle.hs_clauses.proofs.AwaitLemmas.{awaiting_alike, awaiting_words, going_awaiting, none_awaiting, read_shard, shard_low}
use Rattle.hs_clauses.proofs.StepLemmas.{bytes_reads, effect_reads, step_reads}
use Rattle.hs_clauses.proofs.StillLemmas.{folded_then, there_still}
use Rattle.hs_clauses.specs.Awaiting.{AreAwaiting, AwaitsBlock}
use Rattle.hs_replica.specs.Group.{committed, last_number, renew, renewal}
use Rattle.hs_shard.specs.declared.effect.Effect.{Effect}

-- ---- changes beside, and operations

pub awaiting_beside : (cs : List Folded) (a b : Core) → AreAwaiting a cs → IsBeside a b → AreAwaiting b cs
awaiting_beside cs a b its beside = awaiting_alike a b cs beside.operations beside.sessions its

pub awaiting_goes : (name : List ℕ → Address) (cs : List Folded) (c : Core) → IsFolded c cs → IsOrderly name c → AreAwaiting c cs → (line : ℕ) → AreAwaiting (resume line c) cs
awaiting_goes name cs c folded order its line = going_awaiting name go_step c cs line folded order (λ w at. step_reads (view_for w.shard w.operation.op c) w.operation) its

pub awaiting_told : (name : List ℕ → Address) (cs : List Folded) (c : Core) → IsFolded c cs → IsOrderly name c → AreAwaiting c cs → (line : ℕ) (bytes : Option (List ℕ)) (pointers : List Address)
    → AreAwaiting (go_on_with (λ v o. bytes_step v bytes pointers o) line c) cs
awaiting_told name cs c folded order its line bytes pointers =
    going_awaiting name (λ v o. bytes_step v bytes pointers o) c cs line folded order (λ w at. bytes_reads (view_for w.shard w.operation.op c) bytes pointers w.operation) its

pub awaiting_due : (cs : List Folded) (c : Core) → AreAwaiting c cs → (shard : ℕ) (entry : Entry) → AreAwaiting (propose_entry shard entry c) cs
awaiting_due cs c its shard entry = awaiting_words c (propose_entry shard entry c) cs (proposed_words shard entry c) its

pub awaiting_round : (cs : List Folded) (c : Core) → AreAwaiting c cs → (number to : ℕ) (entry : Entry) → AreAwaiting (propose_entry to entry (change_pool (without number) c)) cs
awaiting_round cs c its number to entry = awaiting_due cs (change_pool (without number) c) its to entry

pub awaiting_again : (cs : List Folded) (c : Core) → AreAwaiting c cs → (back shard : ℕ) → AreAwaiting (send_round back shard c) cs
awaiting_again cs c its back shard = awaiting_alike c (send_round back shard c) cs (again_alike back shard c).operations (again_alike back shard c).sessions its

-- a first view, while there is no operation
pub awaiting_opens : (cs : List Folded) (shard : ℕ) (c : Core) → c.operations ≡ [] → AreAwaiting (begin_view shard c) cs
awaiting_opens cs shard c none =
    let cut : Core = change_group shard (renew c.members) (set_viewed shard false c) in
    let sent : Core = post (renewal (group_of shard (restart shard cut))) (restart shard cut) in
    none_awaiting (begin_view shard c) cs
    (ap (λ (x : Words). x.operations) (proposed_words shard (kind.View (view_of shard sent.members)) sent)
    ∙ ap (λ (es : List (ℕ × Waiting)). map (λ (e : ℕ × Waiting). (e.0, restarted shard (last_number (group_of shard cut)) e.1)) es) none)

-- ---- an entry takes effect

module _ (name : List ℕ → Address) (cs : List Folded) (c : Core) (its : IsLawful name c cs) (order : IsOrderly name c) (valid : IsValid (store_with cs c.sessions)) (shard number : ℕ) (entry : Entry)
    (low : shard < (shape_of c).shards) (leads : committed (group_of shard c) ≡ Some (number, entry)) (called : IsNamed name entry c) (may : MayFollow (setting_of name c) cs (next_deed shard entry c)) (waits : AreAwaiting c cs) where
  abbrev here : Core
  here = taken shard entry c

  abbrev behind : List Folded
  behind = folds_behind name cs shard entry c

  awaits_then : (line : ℕ) (w : Waiting) → operation_of line c ≡ Some w → (n : ℕ) (o : Op) → w.operation.op ≡ o → AwaitsBlock c.sessions (catalogue_at cs w.shard) n o → AwaitsBlock c.sessions (catalogue_at behind w.shard) n o
  awaits_then line w at n (op.Read session handle) is was = λ held stands fresh. (
      let place : w.shard ≡ shard_of (shape_of c).shards held.address =
      (order.pending line w at).judges ∙ ap (λ (p : Op). judging_shard (shape_of c).shards c.sessions p) is ∙ read_shard (shape_of c).shards c.sessions session handle held stands in
      there_still name cs c its valid shard entry low called may w.shard (subst (λ k. k < (shape_of c).shards) (sym place) (shard_low cs c its.folded held.address)) session handle held stands (sym place) n (was held stands) fresh
      )
  awaits_then line w at n (op.Open session) is was = tt
  awaits_then line w at n (op.Close session) is was = tt
  awaits_then line w at n (op.Write session payload handles address) is was = tt
  awaits_then line w at n (op.Look session key) is was = tt
  awaits_then line w at n (op.Root session key handle) is was = tt
  awaits_then line w at n (op.Drop key) is was = tt
  awaits_then line w at n (op.Forget session handle) is was = tt
  awaits_then line w at n (op.Name session handle) is was = tt
  awaits_then line w at n op.Delete is was = tt
  awaits_then line w at n op.Stat is was = tt

  taken_awaiting : AreAwaiting (taken shard entry c) (folds_behind name cs shard entry c)
  taken_awaiting line n w at for_bytes =
      let was = waits line n w at for_bytes in
      record { wanted = was.wanted; awaits = awaits_then line w at n w.operation.op refl was.awaits }

  -- ---- what is told of it

  folded : IsFolded (taken shard entry c) (folds_behind name cs shard entry c)
  folded = folded_then name cs c its valid shard entry low called may

  heard : (line : ℕ) (did : What) → AreAwaiting (tell_operation line did here) behind
  heard line did =
      going_awaiting name (λ v o. effect_step v did o) here behind line folded (taken_orderly name c order shard number entry leads) (λ w at. effect_reads (view_for w.shard w.operation.op here) did w.operation) taken_awaiting

  entered : (line : ℕ) (did : What) → AreAwaiting (tell_enter shard line did here) behind
  entered line did = by (is_some (operation_of line here))
    where
      by : (b : Bool) → AreAwaiting (cond b (tell_operation line did here) (note_enter shard did here)) behind
      by true = heard line did
      by false = let s : Still here (note_enter shard did here) = entered_still shard did here in awaiting_alike here (note_enter shard did here) behind s.operations s.sessions taken_awaiting

  tells : (e : Entry) (effect : Effect) → AreAwaiting (tells_at_once shard e effect here) behind
  tells (kind.View view) effect = taken_awaiting
  tells (kind.Block line least bytes) effect = heard line effect.what
  tells (kind.Mark line least block a) effect = heard line effect.what
  tells (kind.Root line held a key) effect = heard line effect.what
  tells (kind.Drop line key) effect = heard line effect.what
  tells (kind.Enter line epoch) effect = entered line effect.what
  tells (kind.Got from epoch round total deltas) effect =
      let s = removed_still shard effect.removed here in
      awaiting_alike here (tells_at_once shard (kind.Got from epoch round total deltas) effect here) behind s.operations s.sessions taken_awaiting
  tells (kind.Base view epoch swept round frames) effect = taken_awaiting
  tells (kind.KeptBlock born mark flags count bytes) effect = taken_awaiting
  tells (kind.KeptRoot created dropped counted address key) effect = taken_awaiting
  tells (kind.KeptRound way other epoch round total deltas) effect = taken_awaiting

  pub awaiting_effect : AreAwaiting (told_at_once shard entry c) (folds_behind name cs shard entry c)
  awaiting_effect = tells entry (done_by shard entry c).effect
