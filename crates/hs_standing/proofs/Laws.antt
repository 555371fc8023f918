-- The laws below on which this one stands, in one place: what steps answer, and what entries do that take effect.
use Rattle.std.proofs.Common.{◌≡◌, ℕ, ◌<◌, ◌≤◌, IsSome, List, [], Option, Some, None}
use Rattle.hs_answered.specs.Asked.{HasBytes, IsAsked, busy_with, first_step}
use Rattle.hs_answered.specs.Judged.{IsJudged}
use Rattle.hs_answered.specs.Standing.{IsAddressed, IsFolded, store_with}
use Rattle.hs_awaiting.specs.declared.waiting.Waiting.{Waiting}
use Rattle.hs_core_words.specs.Effects.{take_effect}
use Rattle.hs_core_words.specs.Looking.{catalogue_of, group_of, operation_of, shape_of}
use Rattle.hs_core_words.specs.Operating.{answer, begin_line, take_step}
use Rattle.hs_core_words.specs.Seeing.{pointers_for, view_for}
use Rattle.hs_core_words.specs.State.{Core}
use Rattle.hs_desk.specs.declared.what.What.TheVariants as what
use Rattle.hs_effects.specs.Answered.{HasAnswer, HoldAddresses, IsAnsweredBy, IsWritten, heard}
use Rattle.hs_effects.specs.Lawful.{IsLawful, MayFollow}
use Rattle.hs_effects.specs.Logged.{IsOrderly}
use Rattle.hs_effects.specs.Taking.{done_by, folds_behind, next_deed, setting_of}
use Rattle.hs_effects.specs.Telling.{HasHappened, HasSwept, IsSilent}
use Rattle.hs_entry.specs.declared.entry.Entry.TheVariants as kind
use Rattle.hs_fold.specs.Runs.Facts.{Catalogue as Folded}
use Rattle.hs_fold.specs.Shards.Happening.{enters as entering, sweeps as sweeping}
use Rattle.hs_joint.specs.Along.{happening_by}
use Rattle.hs_limits.specs.declared.address.Address.{Address}
use Rattle.hs_limits.specs.declared.delta.Delta.{Delta}
use Rattle.hs_model.specs.declared.op.Op.{Op}
use Rattle.hs_model.specs.declared.op.Op.TheVariants as op
use Rattle.hs_model.specs.declared.reply.Reply.{Reply}
use Rattle.hs_model.specs.Judge.{address_of, given_address}
use Rattle.hs_model.specs.Run.{enters}
use Rattle.hs_model.specs.Store.{block_at}
use Rattle.hs_ops.specs.declared.step.OpStep.TheVariants.{Answer}
use Rattle.hs_ops.specs.Going.{judged_in}
use Rattle.hs_ops.specs.Operations.{bytes_step, go_step, wanted_number}
use Rattle.hs_ops.specs.Speaking.{judging_shard}
use Rattle.hs_replica.specs.Group.{committed}
use Rattle.hs_roots.specs.Roots.{retained_of}

-- ---- steps

pub record Steps : Type 0 where
  pub first : (cs : List Folded) (core : Core) (line : ℕ) (o : Op) (r : Reply) → IsFolded core cs → IsAsked (store_with cs core.sessions) o → busy_with o core ≡ None → first_step line o core ≡ Answer r
      → IsJudged cs core (begin_line line o core) line o
  pub later : (cs : List Folded) (core : Core) (line : ℕ) (w : Waiting) (r : Reply) → IsFolded core cs → IsAddressed core.sessions w.operation.op
      → w.shard ≡ judging_shard (shape_of core).shards core.sessions w.operation.op → go_step (view_for w.shard w.operation.op core) w.operation ≡ Answer r
      → IsJudged cs core (take_step line w (Answer r) core) line w.operation.op
  pub answered : (cs : List Folded) (core : Core) (line : ℕ) (w : Waiting) (r : Reply) → IsFolded core cs → IsAddressed core.sessions w.operation.op
      → w.shard ≡ judging_shard (shape_of core).shards core.sessions w.operation.op → judged_in (view_for w.shard w.operation.op core) w.operation.op ≡ Some r
      → IsJudged cs core (answer line w r core) line w.operation.op
  pub read : (cs : List Folded) (core : Core) (line : ℕ) (bytes : Option (List ℕ)) (w : Waiting) (name : List ℕ) (handle : ℕ) (r : Reply) → IsFolded core cs → IsAddressed core.sessions w.operation.op
      → w.shard ≡ judging_shard (shape_of core).shards core.sessions w.operation.op → w.operation.op ≡ op.Read name handle
      → HasBytes (block_at (store_with cs core.sessions) (address_of (store_with cs core.sessions) name handle)) bytes
      → bytes_step (view_for w.shard w.operation.op core) bytes (pointers_for w.shard w.operation.op core) w.operation ≡ Answer r
      → IsJudged cs core (take_step line w (Answer r) core) line w.operation.op
  pub write : (cs : List Folded) (core : Core) (line : ℕ) (bytes : Option (List ℕ)) (w : Waiting) (name payload handles : List ℕ) (address : Option Address) (r : Reply) → IsFolded core cs → IsAddressed core.sessions w.operation.op
      → w.shard ≡ judging_shard (shape_of core).shards core.sessions w.operation.op → w.operation.op ≡ op.Write name payload handles address
      → ((view_for w.shard w.operation.op core).present ≡ Some (wanted_number w.operation.stage) → HasBytes (block_at (store_with cs core.sessions) (given_address address)) bytes)
      → bytes_step (view_for w.shard w.operation.op core) bytes (pointers_for w.shard w.operation.op core) w.operation ≡ Answer r
      → IsJudged cs core (take_step line w (Answer r) core) line w.operation.op

-- ---- entries that take effect

pub record Entries : Type 0 where
  pub stores : (name : List ℕ → Address) (cs : List Folded) (core : Core) (shard number line least : ℕ) (bytes : List ℕ) → IsLawful name core cs → IsOrderly name core → HoldAddresses core.sessions
      → committed (group_of shard core) ≡ Some (number, kind.Block line least bytes) → MayFollow (setting_of name core) cs (next_deed shard (kind.Block line least bytes) core)
      → (done_by shard (kind.Block line least bytes) core).effect.what ≡ what.Stored
      → HasAnswer cs (folds_behind name cs shard (kind.Block line least bytes) core) core (heard shard (kind.Block line least bytes) core) line
  pub marks : (name : List ℕ → Address) (cs : List Folded) (core : Core) (shard number line least block : ℕ) (a : Address) → IsLawful name core cs → IsOrderly name core → IsWritten cs core line a
      → committed (group_of shard core) ≡ Some (number, kind.Mark line least block a) → MayFollow (setting_of name core) cs (next_deed shard (kind.Mark line least block a) core)
      → (done_by shard (kind.Mark line least block a) core).effect.what ≡ what.Marked
      → HasAnswer cs (folds_behind name cs shard (kind.Mark line least block a) core) core (heard shard (kind.Mark line least block a) core) line
  pub roots : (name : List ℕ → Address) (cs : List Folded) (core : Core) (shard number line epoch : ℕ) (a : Address) (key : List ℕ) → IsLawful name core cs → IsOrderly name core
      → committed (group_of shard core) ≡ Some (number, kind.Root line epoch a key) → MayFollow (setting_of name core) cs (next_deed shard (kind.Root line epoch a key) core)
      → (done_by shard (kind.Root line epoch a key) core).effect.what ≡ what.Rooted
      → HasAnswer cs (folds_behind name cs shard (kind.Root line epoch a key) core) core (heard shard (kind.Root line epoch a key) core) line
  pub drops : (name : List ℕ → Address) (cs : List Folded) (core : Core) (shard number line : ℕ) (key : List ℕ) → IsLawful name core cs → IsOrderly name core
      → committed (group_of shard core) ≡ Some (number, kind.Drop line key) → MayFollow (setting_of name core) cs (next_deed shard (kind.Drop line key) core)
      → IsSome (retained_of key (catalogue_of shard core).roots)
      → IsAnsweredBy cs (folds_behind name cs shard (kind.Drop line key) core) core (heard shard (kind.Drop line key) core) line (op.Drop key)
  pub deletes : (name : List ℕ → Address) (cs : List Folded) (core : Core) (shard number line epoch : ℕ) → 1 ≤ line → IsLawful name core cs → IsOrderly name core
      → committed (group_of shard core) ≡ Some (number, kind.Enter line epoch) → MayFollow (setting_of name core) cs (next_deed shard (kind.Enter line epoch) core)
      → (done_by shard (kind.Enter line epoch) core).effect.what ≡ what.Entered epoch → (catalogue_of shard core).epoch < core.limits.epochs
      → IsAnsweredBy cs (folds_behind name cs shard (kind.Enter line epoch) core) core (heard shard (kind.Enter line epoch) core) line op.Delete
  pub enters_by_itself : (name : List ℕ → Address) (cs : List Folded) (core : Core) (shard line epoch : ℕ) → IsLawful name core cs → operation_of line core ≡ None
      → MayFollow (setting_of name core) cs (next_deed shard (kind.Enter line epoch) core) → happening_by (setting_of name core) cs (next_deed shard (kind.Enter line epoch) core) ≡ Some (entering shard)
      → HasHappened cs (folds_behind name cs shard (kind.Enter line epoch) core) core (take_effect shard (kind.Enter line epoch) core) shard (enters shard) []
  pub enters_nothing : (name : List ℕ → Address) (cs : List Folded) (core : Core) (shard line epoch : ℕ) → IsLawful name core cs → operation_of line core ≡ None
      → MayFollow (setting_of name core) cs (next_deed shard (kind.Enter line epoch) core) → happening_by (setting_of name core) cs (next_deed shard (kind.Enter line epoch) core) ≡ None
      → IsSilent cs (folds_behind name cs shard (kind.Enter line epoch) core) core (take_effect shard (kind.Enter line epoch) core)
  pub sweeps_last : (name : List ℕ → Address) (cs : List Folded) (core : Core) (shard sender epoch round total : ℕ) (deltas : List Delta) → IsLawful name core cs
      → MayFollow (setting_of name core) cs (next_deed shard (kind.Got sender epoch round total deltas) core)
      → happening_by (setting_of name core) cs (next_deed shard (kind.Got sender epoch round total deltas) core) ≡ Some (sweeping shard)
      → HasSwept cs (folds_behind name cs shard (kind.Got sender epoch round total deltas) core) core (take_effect shard (kind.Got sender epoch round total deltas) core) shard
  pub sweeps_nothing : (name : List ℕ → Address) (cs : List Folded) (core : Core) (shard sender epoch round total : ℕ) (deltas : List Delta) → IsLawful name core cs
      → MayFollow (setting_of name core) cs (next_deed shard (kind.Got sender epoch round total deltas) core)
      → happening_by (setting_of name core) cs (next_deed shard (kind.Got sender epoch round total deltas) core) ≡ None
      → IsSilent cs (folds_behind name cs shard (kind.Got sender epoch round total deltas) core) core (take_effect shard (kind.Got sender epoch round total deltas) core)
