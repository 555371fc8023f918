-- Each single change of a core that stands keeps the rule of sweeps and of `done`.
use Rattle.std.proofs.Common.{◌≡◌, sym, subst, inr, ℕ, ◌+◌, ◌<◌, ◌≤◌, List, length, Option, Some, IsSome, refl, true}
use Rattle.hs_standing.specs.Changes.{IsBeside, IsIdle, told_at_once}
use Rattle.hs_standing.specs.Walks.{Walks, WalksViews}
use Rattle.hs_answered.specs.Telling.{Judging}
use Rattle.hs_awaiting.specs.declared.wait.Wait.TheVariants as wait
use Rattle.hs_awaiting.specs.declared.waiting.Waiting.{Waiting}
use Rattle.hs_core_words.specs.Asking.{send_round}
use Rattle.hs_core_words.specs.Changing.{change_pool, note, refuse}
use Rattle.hs_core_words.specs.Delivering.{is_new_round}
use Rattle.hs_core_words.specs.Entering.{is_enter_due}
use Rattle.hs_core_words.specs.Looking.{catalogue_of, group_of, operation_of, shape_of}
use Rattle.hs_core_words.specs.Operating.{begin_line, go_on_with, propose_entry, resume}
use Rattle.hs_core_words.specs.Seeing.{pointers_for}
use Rattle.hs_core_words.specs.State.{Core}
use Rattle.hs_core_words.specs.Views.{begin_view}
use Rattle.hs_settled.proofs.GotLemmas.{got_rule}
use Rattle.hs_settled.proofs.RuleLemmas.{Rule, rule_on, rule_refused, rule_same}
use Rattle.hs_settled.proofs.SaidLemmas.{IsNoGot, IsPlain, again_told, effect_says, go_on_says, line_says, proposed_told, says_note, view_told}
use Rattle.hs_effects.proofs.SweepLemmas.{ByViews}
use Rattle.hs_effects.specs.Taking.{folds_behind, taken}
use Rattle.hs_entry.specs.declared.entry.Entry.{Entry}
use Rattle.hs_entry.specs.declared.entry.Entry.TheVariants as kind
use Rattle.hs_fold.specs.Runs.Facts.{Catalogue as Folded}
use Rattle.hs_fold.specs.Shards.Sound.{most_records}
use Rattle.hs_standing.specs.Held.{GivesAddresses}
use Rattle.hs_journal.specs.declared.entry.Who.TheVariants as who
use Rattle.hs_journal.specs.Events.{client_op}
use Rattle.hs_laws.specs.Valid.{IsValid}
use Rattle.hs_standing.proofs.Laws.{Entries, Steps}
use Rattle.hs_standing.proofs.LegalOpenLemmas.{standing_opens}
use Rattle.hs_standing.proofs.StandingLemmas.{line_beside, standing_again, standing_beside, standing_downed, standing_due, standing_effect, standing_goes, standing_line, standing_refused, standing_round, standing_told, tell_beside}
use Rattle.hs_standing.specs.Bytes.{TellsItsBlock}
use Rattle.hs_standing.specs.Commands.{AreCommanded, IsLineOf, IsNobodys}
use Rattle.hs_standing.specs.Legal.{IsStanding}
use Rattle.hs_limits.specs.declared.delta.Delta.{Delta}
use Rattle.hs_limits.specs.declared.shape.Shape.{Shape}
use Rattle.hs_model.specs.declared.deed.Deed.TheVariants as deed
use Rattle.hs_model.specs.declared.op.Op.{Op}
use Rattle.hs_model.specs.declared.reply.Reply.{Reply}
use Rattle.hs_model.specs.declared.reply.Reply.TheVariants as reply
use Rattle.hs_model.specs.Store.{Store}
use Rattle.hs_ops.specs.Operations.{bytes_step, go_step}
use Rattle.hs_post.specs.declared.message.Message.TheVariants as message
use Rattle.hs_post.specs.Pool.{message_at, without}
use Rattle.hs_replica.specs.Group.{committed}
use Rattle.hs_swept.proofs.ExactLemmas.{Blocks, Given}

-- a core stands for some folds, and what it has told keeps the rule
pub record IsSweeping (by : Judging) (start : Store) (c : Core) : Type 0 where
  pub cs : List Folded
  pub stands : IsStanding by start c cs
  pub rule : Rule by start c

-- an operation that waits is of a client's line
is_some_op : (o : Option Op) (said : Op) → o ≡ Some said → IsSome o
is_some_op o said e = subst (λ (x : Option Op). IsSome x) (sym e) refl

pub waits_of_client : (by : Judging) (c : Core) → AreCommanded by c → (line : ℕ) (w : Waiting) → operation_of line c ≡ Some w → IsSome (client_op (by.commands line))
waits_of_client by c commands line w at = let says = (commands line w at).says in is_some_op (client_op (by.commands line)) says.said says.asks

pub line_of_client : (by : Judging) (c : Core) (line : ℕ) (o : Op) → IsLineOf by c line o → IsSome (client_op (by.commands line))
line_of_client by c line o may = is_some_op (client_op (by.commands line)) may.says.said may.says.asks

module _ (blocks : Blocks) (given : Given) (views : ByViews) (steps : Steps) (laws : Entries) (by : Judging) (names : GivesAddresses by.name) (start : Store) (valid : IsValid start) where
  module _ (c : Core) (s : IsSweeping by start c) where
    client : (line : ℕ) (w : Waiting) → operation_of line c ≡ Some w → IsSome (client_op (by.commands line))
    client = waits_of_client by c s.stands.commands

    swept_beside : (b : Core) → IsBeside c b → IsSweeping by start b
    swept_beside b beside = record { cs = s.cs; stands = standing_beside views steps laws by names start valid c s.cs s.stands b beside; rule = rule_same by start c b beside.told s.rule }

    swept_downed : (peer line : ℕ) → IsSweeping by start (note who.Store deed.Nothing (reply.Down peer line) c)
    swept_downed peer line =
        let its : IsStanding by start (note who.Store deed.Nothing (reply.Down peer line) c) s.cs = standing_downed views steps laws by names start valid c s.cs s.stands peer line in
        record {
          cs = s.cs;
          stands = its;
          rule = rule_on by start c (note who.Store deed.Nothing (reply.Down peer line) c)
              (says_note (IsPlain by.commands) who.Store deed.Nothing (reply.Down peer line) c (inr (record { no_sweep = λ g is. cc is; no_done = λ n is. cc is }))) its.tells.answered s.rule;
        }

    swept_refused : (line : ℕ) (refusal : Reply) → IsNobodys by line → IsSweeping by start (refuse line refusal c)
    swept_refused line refusal nobody =
        let its : IsStanding by start (refuse line refusal c) s.cs = standing_refused views steps laws by names start valid c s.cs s.stands line refusal nobody in
        record { cs = s.cs; stands = its; rule = rule_refused by start line refusal c nobody its.tells.answered s.rule }

    swept_line : (line : ℕ) (o : Op) → IsLineOf by c line o → IsSweeping by start (begin_line line o c)
    swept_line line o may =
        let its : IsStanding by start (begin_line line o c) s.cs = standing_line views steps laws by names start valid c s.cs s.stands line o may in
        record { cs = s.cs; stands = its; rule = rule_on by start c (begin_line line o c) (line_says by.commands line o c (line_of_client by c line o may)) its.tells.answered s.rule }

    swept_goes : (line : ℕ) → ((w : Waiting) → operation_of line c ≡ Some w → IsIdle w.wait) → IsSweeping by start (resume line c)
    swept_goes line idle =
        let its : IsStanding by start (resume line c) s.cs = standing_goes views steps laws by names start valid c s.cs s.stands line idle in
        record { cs = s.cs; stands = its; rule = rule_on by start c (resume line c) (go_on_says by.commands go_step line c (client line)) its.tells.answered s.rule }

    swept_told : (line number : ℕ) (bytes : Option (List ℕ)) (w : Waiting) → operation_of line c ≡ Some w → w.wait ≡ wait.Bytes number → TellsItsBlock by start number bytes w c
        → IsSweeping by start (go_on_with (λ v o. bytes_step v bytes (pointers_for w.shard w.operation.op c) o) line c)
    swept_told line number bytes w at waits may =
        let its : IsStanding by start (go_on_with (λ v o. bytes_step v bytes (pointers_for w.shard w.operation.op c) o) line c) s.cs =
        standing_told views steps laws by names start valid c s.cs s.stands line number bytes w at waits may in
        record {
          cs = s.cs;
          stands = its;
          rule = rule_on by start c (go_on_with (λ v o. bytes_step v bytes (pointers_for w.shard w.operation.op c) o) line c)
              (go_on_says by.commands (λ v o. bytes_step v bytes (pointers_for w.shard w.operation.op c) o) line c (client line)) its.tells.answered s.rule;
        }

    swept_view : (shard : ℕ) → shard < (shape_of c).shards → IsSweeping by start (begin_view shard c)
    swept_view shard low = record {
      cs = s.cs;
      stands = standing_opens by shard c start s.cs s.stands low;
      rule = rule_same by start c (begin_view shard c) (view_told shard c) s.rule;
    }

    swept_due : (shard : ℕ) → shard < (shape_of c).shards → is_enter_due shard c ≡ true → IsSweeping by start (propose_entry shard (kind.Enter 0 ((catalogue_of shard c).epoch + 1)) c)
    swept_due shard low due = record {
      cs = s.cs;
      stands = standing_due views steps laws by names start valid c s.cs s.stands shard low due;
      rule = rule_same by start c (propose_entry shard (kind.Enter 0 ((catalogue_of shard c).epoch + 1)) c) (proposed_told shard (kind.Enter 0 ((catalogue_of shard c).epoch + 1)) c) s.rule;
    }

    swept_round : (number from to epoch round total : ℕ) (deltas : List Delta) → to < (shape_of c).shards → message_at number c.pool ≡ Some (message.Round from to epoch round total deltas)
        → is_new_round to from epoch round (change_pool (without number) c) ≡ true → IsSweeping by start (propose_entry to (kind.Got from epoch round total deltas) (change_pool (without number) c))
    swept_round number from to epoch round total deltas low at new = record {
      cs = s.cs;
      stands = standing_round views steps laws by names start valid c s.cs s.stands number from to epoch round total deltas low at new;
      rule = rule_same by start c (propose_entry to (kind.Got from epoch round total deltas) (change_pool (without number) c))
          (proposed_told to (kind.Got from epoch round total deltas) (change_pool (without number) c)) s.rule;
    }

    swept_again : (back shard : ℕ) → IsSweeping by start (send_round back shard c)
    swept_again back shard = record {
      cs = s.cs;
      stands = standing_again views steps laws by names start valid c s.cs s.stands back shard;
      rule = rule_same by start c (send_round back shard c) (again_told back shard c) s.rule;
    }

    -- ---- an entry takes effect

    module _ (shard number : ℕ) (low : shard < (shape_of c).shards) where
      plainly : (entry : Entry) → IsNoGot entry → IsStanding by start (told_at_once shard entry c) (folds_behind by.name s.cs shard entry c) → Rule by start (told_at_once shard entry c)
      plainly entry no_got its = rule_on by start c (told_at_once shard entry c) (effect_says by.commands shard entry c no_got client) its.tells.answered s.rule

      effect_rule : (entry : Entry) → committed (group_of shard c) ≡ Some (number, entry) → ((g : ℕ) → length (catalogue_of g (taken shard entry c)).roots ≤ most_records)
          → IsStanding by start (told_at_once shard entry c) (folds_behind by.name s.cs shard entry c) → Rule by start (told_at_once shard entry c)
      effect_rule (kind.View view) leads few its = plainly (kind.View view) tt its
      effect_rule (kind.Block line least bytes) leads few its = plainly (kind.Block line least bytes) tt its
      effect_rule (kind.Mark line least block a) leads few its = plainly (kind.Mark line least block a) tt its
      effect_rule (kind.Root line held a key) leads few its = plainly (kind.Root line held a key) tt its
      effect_rule (kind.Drop line key) leads few its = plainly (kind.Drop line key) tt its
      effect_rule (kind.Enter line epoch) leads few its = plainly (kind.Enter line epoch) tt its
      effect_rule (kind.Got from epoch round total deltas) leads few its =
          got_rule blocks given views steps laws by names start valid c s.cs s.stands shard number from epoch round total deltas low leads few s.rule
      effect_rule (kind.Base view epoch swept round frames) leads few its = plainly (kind.Base view epoch swept round frames) tt its
      effect_rule (kind.KeptBlock born mark flags count bytes) leads few its = plainly (kind.KeptBlock born mark flags count bytes) tt its
      effect_rule (kind.KeptRoot created dropped counted address key) leads few its = plainly (kind.KeptRoot created dropped counted address key) tt its
      effect_rule (kind.KeptRound way other epoch round total deltas) leads few its = plainly (kind.KeptRound way other epoch round total deltas) tt its

      swept_effect : (entry : Entry) → committed (group_of shard c) ≡ Some (number, entry) → ((g : ℕ) → length (catalogue_of g (taken shard entry c)).roots ≤ most_records) → IsSweeping by start (told_at_once shard entry c)
      swept_effect entry leads few =
          let its : IsStanding by start (told_at_once shard entry c) (folds_behind by.name s.cs shard entry c) = standing_effect views steps laws by names start valid c s.cs s.stands shard number entry low leads few in
          record { cs = folds_behind by.name s.cs shard entry c; stands = its; rule = effect_rule entry leads few its }

  -- ---- so every event keeps it

  pub views_sweeping : (shape : Shape) → WalksViews shape (λ c. IsSweeping by start c)
  views_sweeping shape = λ shard c same low more s. swept_view c s shard low

  pub walks_sweeping : Walks (λ line o c. IsLineOf by c line o) (TellsItsBlock by start) (IsNobodys by) (λ c. IsSweeping by start c)
  walks_sweeping = record {
    once = λ c s. s.stands.orderly.once;
    line_beside = λ line o a b beside may. line_beside by start line o a b beside may;
    tell_beside = λ number bytes w a b beside may. tell_beside by start number bytes w a b beside may;
    beside = λ a b beside s. swept_beside a s b beside;
    downed = λ peer line c s. swept_downed c s peer line;
    refused = λ line refusal c nobody s. swept_refused c s line refusal nobody;
    line = λ line o c may s. swept_line c s line o may;
    goes = λ line c idle s. swept_goes c s line idle;
    told = λ line number bytes w c at waits may s. swept_told c s line number bytes w at waits may;
    effect = λ shard number entry c low leads few s. swept_effect c s shard number low entry leads few;
    due = λ shard c low due s. swept_due c s shard low due;
    round = λ number from to epoch round total deltas c low at new s. swept_round c s number from to epoch round total deltas low at new;
    again = λ back shard c s. swept_again c s back shard;
  }
