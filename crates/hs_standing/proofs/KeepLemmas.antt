-- What every single change keeps of a core and its folds, where each shard has one copy: any P of which this holds is kept by every event.
use Rattle.std.specs.Prelude.{◌≡◌, ℕ, ◌+◌, ◌<◌, ◌≤◌, true, List, Option, Some, length}
use Rattle.hs_standing.specs.Changes.{IsBeside, IsIdle, told_at_once}
use Rattle.hs_awaiting.specs.declared.wait.Wait.TheVariants as wait
use Rattle.hs_awaiting.specs.declared.waiting.Waiting.{Waiting}
use Rattle.hs_core_words.specs.Asking.{send_round}
use Rattle.hs_core_words.specs.Changing.{change_pool, note, refuse}
use Rattle.hs_core_words.specs.Delivering.{is_new_round}
use Rattle.hs_core_words.specs.Entering.{is_enter_due}
use Rattle.hs_core_words.specs.Looking.{catalogue_of, group_of, operation_of, shape_of}
use Rattle.hs_core_words.specs.Operating.{begin_line, go_on_with, propose_entry, resume}
use Rattle.hs_core_words.specs.Seeing.{pointers_for}
use Rattle.hs_core_words.specs.State.{Core}
use Rattle.hs_effects.specs.Lawful.{MayFollow}
use Rattle.hs_effects.specs.Logged.{IsOrderly}
use Rattle.hs_effects.specs.Taking.{folds_behind, next_deed, setting_of, taken}
use Rattle.hs_entry.specs.declared.entry.Entry.{Entry}
use Rattle.hs_entry.specs.declared.entry.Entry.TheVariants as kind
use Rattle.hs_fold.specs.Runs.Facts.{Catalogue as Folded}
use Rattle.hs_fold.specs.Shards.Sound.{most_records}
use Rattle.hs_journal.specs.declared.entry.Who.TheVariants as who
use Rattle.hs_limits.specs.declared.address.Address.{Address}
use Rattle.hs_limits.specs.declared.delta.Delta.{Delta}
use Rattle.hs_model.specs.declared.deed.Deed.TheVariants as deed
use Rattle.hs_model.specs.declared.op.Op.{Op}
use Rattle.hs_model.specs.declared.reply.Reply.{Reply}
use Rattle.hs_model.specs.declared.reply.Reply.TheVariants as reply
use Rattle.hs_ops.specs.Operations.{bytes_step}
use Rattle.hs_post.specs.declared.message.Message.TheVariants as message
use Rattle.hs_post.specs.Pool.{message_at, without}
use Rattle.hs_replica.specs.Group.{committed}

-- by which an entry of a shard takes effect no shard has more root records than it takes
abbrev pub TakesFewRecords : ℕ → Entry → Core → Type 0
TakesFewRecords shard entry core = (g : ℕ) → length (catalogue_of g (taken shard entry core)).roots ≤ most_records

-- as Walks of hs_standing, of a core with folds: an entry that takes effect leads to the folds behind it, which it may follow; every other change leaves the folds
pub record Keeps (name : List ℕ → Address) (MayLine : ℕ → Op → Core → Type 0) (MayTell : ℕ → Option (List ℕ) → Waiting → Core → Type 0) (MayRefuse : ℕ → Type 0) (P : Core → List Folded → Type 0) : Type 0 where
  pub orderly : (c : Core) (cs : List Folded) → P c cs → IsOrderly name c
  pub line_beside : (line : ℕ) (o : Op) (a b : Core) → IsBeside a b → MayLine line o a → MayLine line o b
  pub tell_beside : (number : ℕ) (bytes : Option (List ℕ)) (w : Waiting) (a b : Core) → IsBeside a b → MayTell number bytes w a → MayTell number bytes w b
  pub beside : (a b : Core) (cs : List Folded) → IsBeside a b → P a cs → P b cs
  pub downed : (peer line : ℕ) (c : Core) (cs : List Folded) → P c cs → P (note who.Store deed.Nothing (reply.Down peer line) c) cs
  pub refused : (line : ℕ) (refusal : Reply) (c : Core) (cs : List Folded) → MayRefuse line → P c cs → P (refuse line refusal c) cs
  pub line : (line : ℕ) (o : Op) (c : Core) (cs : List Folded) → MayLine line o c → P c cs → P (begin_line line o c) cs
  pub goes : (line : ℕ) (c : Core) (cs : List Folded) → ((w : Waiting) → operation_of line c ≡ Some w → IsIdle w.wait) → P c cs → P (resume line c) cs
  pub told : (line number : ℕ) (bytes : Option (List ℕ)) (w : Waiting) (c : Core) (cs : List Folded) → operation_of line c ≡ Some w → w.wait ≡ wait.Bytes number → MayTell number bytes w c → P c cs
      → P (go_on_with (λ v o. bytes_step v bytes (pointers_for w.shard w.operation.op c) o) line c) cs
  pub follows : (shard number : ℕ) (entry : Entry) (c : Core) (cs : List Folded) → shard < (shape_of c).shards → committed (group_of shard c) ≡ Some (number, entry) → TakesFewRecords shard entry c → P c cs
      → MayFollow (setting_of name c) cs (next_deed shard entry c)
  pub effect : (shard number : ℕ) (entry : Entry) (c : Core) (cs : List Folded) → shard < (shape_of c).shards → committed (group_of shard c) ≡ Some (number, entry) → TakesFewRecords shard entry c → P c cs
      → P (told_at_once shard entry c) (folds_behind name cs shard entry c)
  pub due : (shard : ℕ) (c : Core) (cs : List Folded) → shard < (shape_of c).shards → is_enter_due shard c ≡ true → P c cs → P (propose_entry shard (kind.Enter 0 ((catalogue_of shard c).epoch + 1)) c) cs
  pub round : (number from to epoch round total : ℕ) (deltas : List Delta) (c : Core) (cs : List Folded) → to < (shape_of c).shards → message_at number c.pool ≡ Some (message.Round from to epoch round total deltas)
      → is_new_round to from epoch round (change_pool (without number) c) ≡ true → P c cs → P (propose_entry to (kind.Got from epoch round total deltas) (change_pool (without number) c)) cs
  pub again : (back shard : ℕ) (c : Core) (cs : List Folded) → P c cs → P (send_round back shard c) cs
