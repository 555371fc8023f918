-- Operations and the entries that they asked for stay in order along each single change.
use Rattle.std.proofs.Common.{◌≡◌, ◌∙◌, sym, ap, subst, ℕ, ◌+◌, cond, List, Option, Some, None, refl, slice_index_or}
use Rattle.hs_standing.specs.Changes.{IsBeside, IsIdle, tells_at_once, told_at_once}
use Rattle.hs_awaiting.specs.declared.wait.Wait.TheVariants as wait
use Rattle.hs_awaiting.specs.declared.waiting.Waiting.{Waiting}
use Rattle.hs_awaiting.specs.Words.{change_with}
use Rattle.hs_core_words.specs.Asking.{send_round}
use Rattle.hs_core_words.specs.Changing.{change_group, change_pool, note, post, refuse}
use Rattle.hs_core_words.specs.Effects.{note_sweep, round_messages}
use Rattle.hs_core_words.specs.Looking.{catalogue_of, front_of, group_of, operation_of, shape_of}
use Rattle.hs_core_words.specs.Operating.{begin_line, go_on_with, propose_entry, resume}
use Rattle.hs_core_words.specs.Seeing.{pointers_for}
use Rattle.hs_core_words.specs.State.{Core}
use Rattle.hs_effects.proofs.BeginLemmas.{begun_orderly}
use Rattle.hs_effects.proofs.EffectLemmas.{enter_orderly, sweep_alike, taken_free, taken_room, told_orderly}
use Rattle.hs_effects.proofs.GoingLemmas.{going_orderly, idle_free}
use Rattle.hs_effects.proofs.GoingLemmas.{IsIdle as IsFreeToGo}
use Rattle.hs_effects.proofs.OrderlyLemmas.{Alike, IsFree, alike_orderly, alike_same, asked_alike, committed_orderly, own_orderly, with_lists}
use Rattle.hs_effects.proofs.StepLemmas.{going_asks, told_asks}
use Rattle.hs_effects.specs.Logged.{IsNewLine, IsOrderly, asked_by}
use Rattle.hs_effects.specs.Taking.{done_by, taken}
use Rattle.hs_entry.specs.declared.entry.Entry.{Entry}
use Rattle.hs_entry.specs.declared.entry.Entry.TheVariants as kind
use Rattle.hs_journal.specs.declared.entry.Who.TheVariants as who
use Rattle.hs_limits.specs.declared.address.Address.{Address}
use Rattle.hs_limits.specs.declared.delta.Delta.{Delta}
use Rattle.hs_limits.specs.declared.shape.Shape.{Shape}
use Rattle.hs_model.specs.declared.deed.Deed.TheVariants as deed
use Rattle.hs_model.specs.declared.op.Op.{Op}
use Rattle.hs_model.specs.declared.reply.Reply.{Reply}
use Rattle.hs_model.specs.declared.reply.Reply.TheVariants as reply
use Rattle.hs_ops.specs.Operations.{bytes_step, go_step}
use Rattle.hs_post.specs.Pool.{without}
use Rattle.hs_replica.specs.Group.{committed, take_committed}
use Rattle.hs_rounds.specs.Rounds.{sent_back}
use Rattle.hs_shard.specs.declared.effect.Effect.{Effect}
use Rattle.hs_shard.specs.Facts.{Catalogue, empty_catalogue}
use Rattle.hs_shard.specs.Rounds.{messages}

-- a change beside a run, as hs_effects has it
pub beside_alike : (a b : Core) → IsBeside a b → Alike a b
beside_alike a b beside = record {
  operations = beside.operations;
  sessions = beside.sessions;
  limits = beside.limits;
  shape = beside.shape;
  waiting = beside.waiting;
  front = beside.front;
  catalogue = λ g.
      ap (λ (ks : List Catalogue). slice_index_or ks g (empty_catalogue (shape_of b) g)) beside.catalogues
      ∙ ap (λ (shape : Shape). slice_index_or a.catalogues g (empty_catalogue shape g)) beside.shape;
}

-- rounds that are sent again
pub again_alike : (back shard : ℕ) (c : Core) → Alike c (send_round back shard c)
again_alike back shard c = by_round (sent_back back (catalogue_of shard c).run)
  where
    by_round : (at : Option (ℕ × ℕ)) → Alike c (change_with at (λ r. post (round_messages shard (messages (catalogue_of shard c).shape.shards r.0 r.1 (catalogue_of shard c).run))) c)
    by_round None = alike_same c
    by_round (Some r) = record { operations = refl; sessions = refl; limits = refl; shape = refl; waiting = λ g. refl; front = λ g. refl; catalogue = λ g. refl }

module _ (name : List ℕ → Address) (c : Core) (its : IsOrderly name c) where
  pub orderly_beside : (b : Core) → IsBeside c b → IsOrderly name b
  orderly_beside b beside = alike_orderly name c b (beside_alike c b beside) its

  pub orderly_downed : (peer line : ℕ) → IsOrderly name (note who.Store deed.Nothing (reply.Down peer line) c)
  orderly_downed peer line =
      alike_orderly name c (note who.Store deed.Nothing (reply.Down peer line) c)
      (record { operations = refl; sessions = refl; limits = refl; shape = refl; waiting = λ g. refl; front = λ g. refl; catalogue = λ g. refl }) its

  pub orderly_refused : (line : ℕ) (refusal : Reply) → IsOrderly name (refuse line refusal c)
  orderly_refused line refusal =
      alike_orderly name c (refuse line refusal c)
      (record { operations = refl; sessions = refl; limits = refl; shape = refl; waiting = λ g. refl; front = λ g. refl; catalogue = λ g. refl }) its

  pub orderly_line : (line : ℕ) (o : Op) → IsNewLine name c line o → IsOrderly name (begin_line line o c)
  orderly_line line o fresh = begun_orderly name line o c its fresh.new fresh.counted fresh.called

  pub orderly_goes : (line : ℕ) → ((w : Waiting) → operation_of line c ≡ Some w → IsIdle w.wait) → IsOrderly name (resume line c)
  orderly_goes line idle = going_orderly go_step going_asks name line c its (idle_free name c line its (λ w at. (idle w at)))

  pub orderly_told : (line number : ℕ) (bytes : Option (List ℕ)) (w : Waiting) → operation_of line c ≡ Some w → w.wait ≡ wait.Bytes number
      → IsOrderly name (go_on_with (λ v o. bytes_step v bytes (pointers_for w.shard w.operation.op c) o) line c)
  orderly_told line number bytes w at waits =
      going_orderly (λ v o. bytes_step v bytes (pointers_for w.shard w.operation.op c) o) (told_asks bytes (pointers_for w.shard w.operation.op c)) name line c its
      (idle_free name c line its (λ u there. subst (λ (x : Waiting). IsFreeToGo x.wait) (some_waiting w u (sym at ∙ there)) (subst (λ x. IsFreeToGo x) (sym waits) tt)))
    where
      some_waiting : (x y : Waiting) → Some x ≡ Some y → x ≡ y
      some_waiting x y e = cc e

  pub orderly_due : (shard : ℕ) → IsOrderly name (propose_entry shard (kind.Enter 0 ((catalogue_of shard c).epoch + 1)) c)
  orderly_due shard = own_orderly name shard (kind.Enter 0 ((catalogue_of shard c).epoch + 1)) c refl its

  pub orderly_round : (number from to epoch round total : ℕ) (deltas : List Delta) → IsOrderly name (propose_entry to (kind.Got from epoch round total deltas) (change_pool (without number) c))
  orderly_round number from to epoch round total deltas =
      own_orderly name to (kind.Got from epoch round total deltas) (change_pool (without number) c) refl
      (alike_orderly name c (change_pool (without number) c) (record { operations = refl; sessions = refl; limits = refl; shape = refl; waiting = λ g. refl; front = λ g. refl; catalogue = λ g. refl }) its)

  pub orderly_again : (back shard : ℕ) → IsOrderly name (send_round back shard c)
  orderly_again back shard = alike_orderly name c (send_round back shard c) (again_alike back shard c) its

  -- ---- an entry takes effect

  module _ (shard number : ℕ) (entry : Entry) (leads : committed (group_of shard c) ≡ Some (number, entry)) where
    abbrev first : Core
    first = change_group shard take_committed c

    abbrev here : Core
    here = taken shard entry c

    first_orderly : IsOrderly name (change_group shard take_committed c)
    first_orderly = committed_orderly name shard c its

    pub taken_orderly : IsOrderly name (taken shard entry c)
    taken_orderly = with_lists name first here first_orderly refl refl refl refl
        (λ g place k x at by. asked_alike name first here g (front_of g first + 1 + place) (front_of g here + 1 + place) k x refl refl refl refl refl (first_orderly.asked g place k x at by))
        (taken_room name shard number entry c its leads)

    free : (line : ℕ) → asked_by entry ≡ Some line → IsFree (taken shard entry c) line
    free line of g place x at by = taken_free name shard number line entry c its leads of g place x at by

  told_by : (x : Core) → IsOrderly name x → (shard : ℕ) (entry : Entry) (effect : Effect) → ((line : ℕ) → asked_by entry ≡ Some line → IsFree x line) → IsOrderly name (tells_at_once shard entry effect x)
  told_by x order shard (kind.View view) effect free = order
  told_by x order shard (kind.Block line least bytes) effect free = told_orderly name shard x order line effect.what (free line refl)
  told_by x order shard (kind.Mark line least block a) effect free = told_orderly name shard x order line effect.what (free line refl)
  told_by x order shard (kind.Root line held a key) effect free = told_orderly name shard x order line effect.what (free line refl)
  told_by x order shard (kind.Drop line key) effect free = told_orderly name shard x order line effect.what (free line refl)
  told_by x order shard (kind.Enter line epoch) effect free = enter_orderly name shard x order line effect.what (λ e. free line (ap (λ b. cond b None (Some line)) e))
  told_by x order shard (kind.Got from epoch round total deltas) effect free = by_removed effect.removed
    where
      by_removed : (removed : Option ℕ) → IsOrderly name (change_with removed (note_sweep shard) x)
      by_removed None = order
      by_removed (Some n) = alike_orderly name x (note_sweep shard n x) (sweep_alike shard n x) order
  told_by x order shard (kind.Base view epoch swept round frames) effect free = order
  told_by x order shard (kind.KeptBlock born mark flags count bytes) effect free = order
  told_by x order shard (kind.KeptRoot created dropped counted address key) effect free = order
  told_by x order shard (kind.KeptRound way other epoch round total deltas) effect free = order

  pub orderly_effect : (shard number : ℕ) (entry : Entry) → committed (group_of shard c) ≡ Some (number, entry) → IsOrderly name (told_at_once shard entry c)
  orderly_effect shard number entry leads =
      told_by (taken shard entry c) (taken_orderly shard number entry leads) shard entry (done_by shard entry c).effect (λ line of g place x at by. free shard number entry leads line of g place x at by)
