-- A core whose folds are those of a lawful history, with all that keeps them so whatever its reports tell: each single change leaves such a core.
use Rattle.std.proofs.Common.{◌≡◌, ◌∙◌, sym, ap, subst, ◌⊎◌, inl, inr, ℕ, ◌+◌, ◌<◌, ◌≤◌, ◌==◌, ◌++◌, List, [], ◌∷◌, length, Option, Some, None, true, Bool, cond, refl, arith, if◌then◌else◌}
use Rattle.std.proofs.lemmas.Bool.{eq-eqb, ne_eqb}
use Rattle.std.specs.BTreeMap.{is_at}
use Rattle.std.specs.Map.{lookup}
use Rattle.std.specs.Ordering.{nat_cmp}
use Rattle.hs_answered.specs.Standing.{store_with}
use Rattle.hs_answered.specs.Telling.{Judging}
use Rattle.hs_any_events.proofs.BytesLemmas.{ReadsAnyBytes, told_valid}
use Rattle.hs_any_events.proofs.GivenLemmas.{given_valid}
use Rattle.hs_any_events.proofs.RefusedLemmas.{called_is, refused_commands, refused_seats, seen_at_line}
use Rattle.hs_awaiting.specs.declared.wait.Wait.TheVariants as wait
use Rattle.hs_awaiting.specs.declared.waiting.Waiting.{Waiting}
use Rattle.hs_awaiting.specs.Words.{change_with}
use Rattle.hs_core_words.specs.Asking.{send_round}
use Rattle.hs_core_words.specs.Changing.{change_pool, note, post, refuse}
use Rattle.hs_core_words.specs.Delivering.{is_new_round}
use Rattle.hs_core_words.specs.Effects.{round_messages}
use Rattle.hs_core_words.specs.Entering.{is_enter_due}
use Rattle.hs_core_words.specs.Looking.{catalogue_of, group_of, operation_of, shape_of}
use Rattle.hs_core_words.specs.Operating.{begin_line, go_on_with, propose_entry, resume}
use Rattle.hs_core_words.specs.Seeing.{pointers_for}
use Rattle.hs_core_words.specs.State.{Core}
use Rattle.hs_core_words.specs.Views.{begin_view}
use Rattle.hs_desk.specs.declared.what.What.{What}
use Rattle.hs_desk.specs.declared.what.What.TheVariants as what
use Rattle.hs_effects.proofs.EffectLemmas.{committed_named}
use Rattle.hs_effects.proofs.OrderlyLemmas.{Alike}
use Rattle.hs_effects.proofs.QuietLemmas.{going_quiet, proposed_quiet}
use Rattle.hs_effects.proofs.SweepLemmas.{ByViews}
use Rattle.hs_effects.proofs.ViewLemmas.{view_began}
use Rattle.hs_effects.specs.Lawful.{IsLawful, MayFollow}
use Rattle.hs_effects.specs.Logged.{IsCalled, IsNewLine, IsOrderly}
use Rattle.hs_effects.specs.Taking.{IsNamed, done_by, folds_behind, next_deed, setting_of, taken}
use Rattle.hs_entry.specs.declared.entry.Entry.{Entry}
use Rattle.hs_entry.specs.declared.entry.Entry.TheVariants as kind
use Rattle.hs_fold.specs.Runs.Facts.{Catalogue as Folded}
use Rattle.hs_fold.specs.Shards.Sound.{most_records}
use Rattle.hs_journal.specs.declared.entry.Who.TheVariants as who
use Rattle.hs_journal.specs.Events.{client_op}
use Rattle.hs_laws.specs.Valid.{IsValid}
use Rattle.hs_limits.specs.declared.address.Address.{Address}
use Rattle.hs_limits.specs.declared.delta.Delta.{Delta}
use Rattle.hs_limits.specs.declared.limits.Limits.{Limits}
use Rattle.hs_model.specs.declared.command.Command.{Command}
use Rattle.hs_model.specs.declared.command.Command.TheVariants as command
use Rattle.hs_model.specs.declared.deed.Deed.TheVariants as deed
use Rattle.hs_model.specs.declared.op.Op.{Op}
use Rattle.hs_model.specs.declared.reply.Reply.{Reply}
use Rattle.hs_model.specs.declared.reply.Reply.TheVariants as reply
use Rattle.hs_ops.specs.Operations.{bytes_step, go_step}
use Rattle.hs_ops.specs.Refusals.{refusal_of}
use Rattle.hs_post.specs.declared.message.Message.TheVariants as message
use Rattle.hs_post.specs.Pool.{message_at, without}
use Rattle.hs_replica.specs.Group.{committed}
use Rattle.hs_rounds.specs.Rounds.{sent_back}
use Rattle.hs_shard.specs.Rounds.{messages}
use Rattle.hs_standing.proofs.AskedLemmas.{line_comes}
use Rattle.hs_standing.proofs.AtomLemmas.{sent_again, sent_beside, sent_downed, sent_due, sent_effect, sent_goes, sent_line, sent_opens, sent_refused, sent_round, sent_told}
use Rattle.hs_standing.proofs.CommandLemmas.{apart_of, commands_go_on, commands_same}
use Rattle.hs_standing.proofs.EpochLemmas.{IsWithin, epochs_begin, epochs_go_on, epochs_propose, epochs_same, going_within, telling_within}
use Rattle.hs_standing.proofs.HandleLemmas.{hold_addresses}
use Rattle.hs_standing.proofs.HeldHeldLemmas.{held_again, held_beside, held_downed, held_due, held_effect, held_goes, held_line, held_refused, held_round, held_told}
use Rattle.hs_standing.proofs.HeldOpenLemmas.{held_opens}
use Rattle.hs_standing.proofs.HistoryLemmas.{Likewise, from_quiet, lawful_behind, lawful_on}
use Rattle.hs_standing.proofs.Laws.{Entries, Steps}
use Rattle.hs_standing.proofs.LegalEffectLemmas.{Ready, commands_effect, epochs_effect, tells_effect}
use Rattle.hs_standing.proofs.LegalLineLemmas.{begun_quiet, commands_line, tells_line}
use Rattle.hs_standing.proofs.LegalOpenLemmas.{began_commands, began_epochs, began_like, began_seats}
use Rattle.hs_standing.proofs.LegalStepLemmas.{IsQuiet, tells_goes}
use Rattle.hs_standing.proofs.MuteLemmas.{Words, at_once_quiet, proposed_words, words_of}
use Rattle.hs_standing.proofs.OrderLemmas.{again_alike, orderly_again, orderly_beside, orderly_downed, orderly_due, orderly_effect, orderly_goes, orderly_line, orderly_refused, orderly_round, orderly_told}
use Rattle.hs_standing.proofs.RestLemmas.{rests_again, rests_beside, rests_downed, rests_due, rests_effect, rests_follows, rests_goes, rests_line, rests_opens, rests_refused, rests_round, rests_told}
use Rattle.hs_standing.proofs.SameLemmas.{marked_or}
use Rattle.hs_standing.proofs.SentWaitLemmas.{got_waits}
use Rattle.hs_standing.proofs.StoredLemmas.{stored_again, stored_beside, stored_downed, stored_due, stored_effect, stored_goes, stored_line, stored_opens, stored_refused, stored_round}
use Rattle.hs_standing.proofs.TellLemmas.{TellsOn}
use Rattle.hs_standing.proofs.ValidLemmas.{told_valid as run_valid}
use Rattle.hs_standing.specs.Changes.{IsBeside, IsIdle, told_at_once}
use Rattle.hs_standing.specs.Commands.{AreCommanded, IsLineOf}
use Rattle.hs_standing.specs.Epochs.{HaveEpochs}
use Rattle.hs_standing.specs.Held.{AreAddressed, GivesAddresses}
use Rattle.hs_standing.specs.Rests.{AreResting, AreStored, GotsWait, IsGrounded}
use Rattle.hs_standing.specs.Sent.{AreSent}
use Rattle.hs_standing.specs.Walks.{Walks}
use Rattle.hs_tokens.specs.Seats.{Seats}

-- ---- what is known

abbrev pub judging : (ℕ → Option Command) → (List ℕ → Address) → Limits → Judging
judging commands name limits = record { commands = commands; name = name; limits = limits }

-- no operation that waits is of a line above the last one; what is said of the plain store is that it is valid, and nothing of what was told
pub record IsSteady (name : List ℕ → Address) (limits : Limits) (last : ℕ) (core : Core) (cs : List Folded) : Type 0 where
  pub commands : ℕ → Option Command
  pub none_above : (line : ℕ) → last < line → client_op (commands line) ≡ None
  pub limited : core.limits ≡ limits
  pub orderly : IsOrderly name core
  pub lawful : IsLawful name core cs
  pub sent : AreSent (setting_of name core) lawful.lawful.history core
  pub resting : AreResting core cs
  pub stored : AreStored core cs
  pub addressed : AreAddressed core
  pub commanded : AreCommanded (judging commands name limits) core
  pub epochs : HaveEpochs core
  pub valid : IsValid (store_with cs core.sessions)

-- a client's line is new, not above the last one, and a write comes with the address of its block, where it has one
pub record IsFreshLine (name : List ℕ → Address) (last line : ℕ) (o : Op) (core : Core) : Type 0 where
  pub new : operation_of line core ≡ None
  pub counted : 1 ≤ line
  pub until : line ≤ last
  pub called : IsCalled name core.sessions o

-- ---- plain facts

zero_line : (epoch l n : ℕ) → kind.Enter 0 epoch ≡ kind.Enter l n → l ≡ 0
zero_line epoch l n e = cc e

own_within : (limits : Limits) (epoch : ℕ) → IsWithin limits (kind.Enter 0 epoch)
own_within limits epoch l n is counted = let zero_is : l ≡ 0 = zero_line epoch l n is in absurd (omega (arith, zero_is, counted))

got_within : (limits : Limits) (from epoch round total : ℕ) (deltas : List Delta) → IsWithin limits (kind.Got from epoch round total deltas)
got_within limits from epoch round total deltas l n is counted = absurd (cc is)

none_some : (w : Waiting) → None ≡ Some w → ⊥
none_some w e = cc e

-- rounds that are sent again change the pool alone
pub again_like : (back shard : ℕ) (c : Core) → Likewise c (send_round back shard c)
again_like back shard c = by_round (sent_back back (catalogue_of shard c).run)
  where
    by_round : (at : Option (ℕ × ℕ)) → Likewise c (change_with at (λ r. post (round_messages shard (messages (catalogue_of shard c).shape.shards r.0 r.1 (catalogue_of shard c).run))) c)
    by_round None = record { limits = refl; shape = refl; catalogues = refl }
    by_round (Some r) = record { limits = refl; shape = refl; catalogues = refl }

-- ---- the command of a line more

abbrev with_command : ℕ → Op → (ℕ → Option Command) → ℕ → Option Command
with_command line o commands k = if k == line then Some (command.Client o) else commands k

its_command : (line : ℕ) (o : Op) (commands : ℕ → Option Command) → client_op (with_command line o commands line) ≡ Some o
its_command line o commands = ap (λ (b : Bool). client_op (cond b (Some (command.Client o)) (commands line))) (eq-eqb line line refl)

other_command : (line k : ℕ) (o : Op) (commands : ℕ → Option Command) → (k ≡ line → ⊥) → with_command line o commands k ≡ commands k
other_command line k o commands apart = ap (λ (b : Bool). cond b (Some (command.Client o)) (commands k)) (ne_eqb k line apart)

-- ---- one change

pub grounded_of : (name : List ℕ → Address) (limits : Limits) (last : ℕ) (c : Core) (cs : List Folded) → IsSteady name limits last c cs → IsGrounded name c cs
grounded_of name limits last c cs its = record {
  orderly = its.orderly;
  lawful = its.lawful;
  valid = its.valid;
  holds = hold_addresses c.sessions its.addressed.sessions;
  stored = its.stored;
  resting = its.resting;
}

module _ (views : ByViews) (steps : Steps) (reads : ReadsAnyBytes) (laws : Entries) (name : List ℕ → Address) (names : GivesAddresses name) (limits : Limits) (last : ℕ) where
  module _ (c : Core) (cs : List Folded) (its : IsSteady name limits last c cs) where
    abbrev by : Judging
    by = judging its.commands name limits

    grounded : IsGrounded name c cs
    grounded = grounded_of name limits last c cs its

    -- what is told on leads to a valid store
    led_on : (commands : ℕ → Option Command) (behind : List Folded) (after : Core) → TellsOn (judging commands name limits) cs behind c after → IsValid (store_with behind after.sessions)
    led_on commands behind after on = run_valid (judging commands name limits) (store_with cs c.sessions) on.more (store_with behind after.sessions) its.valid on.tells

    -- sessions that are the same
    same_seats : (after : Core) → after.sessions ≡ c.sessions → IsValid (store_with cs after.sessions)
    same_seats after same = subst (λ (seats : Seats). IsValid (store_with cs seats)) (sym same) its.valid

    steady_beside : (b : Core) → IsBeside c b → IsSteady name limits last b cs
    steady_beside b beside = record {
      commands = its.commands;
      none_above = its.none_above;
      limited = beside.limits ∙ its.limited;
      orderly = orderly_beside name c its.orderly b beside;
      lawful = lawful_on name c b cs (record { limits = beside.limits; shape = beside.shape; catalogues = beside.catalogues }) its.lawful;
      sent = sent_beside name its.lawful.lawful.history c b its.sent beside;
      resting = rests_beside cs c b its.resting beside;
      stored = stored_beside cs c b its.stored beside;
      addressed = held_beside c b beside its.addressed;
      commanded = commands_same by c b beside.operations beside.sessions its.commanded;
      epochs = epochs_same c b beside.limits beside.waiting its.epochs;
      valid = same_seats b beside.sessions;
    }

    steady_downed : (peer line : ℕ) → IsSteady name limits last (note who.Store deed.Nothing (reply.Down peer line) c) cs
    steady_downed peer line = record {
      commands = its.commands;
      none_above = its.none_above;
      limited = its.limited;
      orderly = orderly_downed name c its.orderly peer line;
      lawful = lawful_on name c (note who.Store deed.Nothing (reply.Down peer line) c) cs (record { limits = refl; shape = refl; catalogues = refl }) its.lawful;
      sent = sent_downed name its.lawful.lawful.history c its.sent peer line;
      resting = rests_downed cs c its.resting peer line;
      stored = stored_downed cs c its.stored peer line;
      addressed = held_downed c its.addressed peer line;
      commanded = its.commanded;
      epochs = its.epochs;
      valid = its.valid;
    }

    steady_refused : (line : ℕ) (refusal : Reply) → IsSteady name limits last (refuse line refusal c) cs
    steady_refused line refusal = record {
      commands = its.commands;
      none_above = its.none_above;
      limited = its.limited;
      orderly = orderly_refused name c its.orderly line refusal;
      lawful = lawful_on name c (refuse line refusal c) cs (record { limits = refl; shape = refl; catalogues = refl }) its.lawful;
      sent = sent_refused name its.lawful.lawful.history c its.sent line refusal;
      resting = rests_refused cs c its.resting line refusal;
      stored = stored_refused cs c its.stored line refusal;
      addressed = held_refused c its.addressed line refusal;
      commanded = its.commanded;
      epochs = its.epochs;
      valid = its.valid;
    }

    steady_opens : (shard : ℕ) → shard < (shape_of c).shards → IsSteady name limits last (begin_view shard c) cs
    steady_opens shard low = record {
      commands = its.commands;
      none_above = its.none_above;
      limited = (began_like by shard c).limits ∙ its.limited;
      orderly = view_began name shard c its.orderly;
      lawful = lawful_on name c (begin_view shard c) cs (began_like by shard c) its.lawful;
      sent = sent_opens name its.lawful.lawful.history c its.sent shard;
      resting = rests_opens cs c its.resting shard (subst (λ (n : ℕ). shard < n) (sym its.lawful.folded.shards) low);
      stored = stored_opens cs c its.stored shard;
      addressed = held_opens shard c its.addressed;
      commanded = began_commands by shard c its.commanded;
      epochs = began_epochs by shard c its.epochs;
      valid = same_seats (begin_view shard c) (began_seats by shard c);
    }

    -- ---- a client's line

    -- what of it depends on whether it is refused
    record LineGoes (after : Core) : Type 0 where
      pub commands : ℕ → Option Command
      pub none_above : (line : ℕ) → last < line → client_op (commands line) ≡ None
      pub commanded : AreCommanded (judging commands name limits) after
      pub valid : IsValid (store_with cs after.sessions)

    module _ (line : ℕ) (o : Op) (fresh : IsFreshLine name last line o c) where
      -- a line more has a command of its own: that of its operation
      abbrev commands : ℕ → Option Command
      commands = with_command line o its.commands

      waits_with : AreCommanded (judging (with_command line o its.commands) name limits) c
      waits_with k w at =
          let was = its.commanded k w at in
          let apart : k ≡ line → ⊥ = (λ is. none_some w (sym fresh.new ∙ subst (λ (j : ℕ). operation_of j c ≡ Some w) is at)) in
          record {
            says = record { said = was.says.said; asks = ap (λ (x : Option Command). client_op x) (other_command line k o its.commands apart) ∙ was.says.asks; same = was.says.same };
            has = was.has;
          }

      above_with : (k : ℕ) → last < k → client_op (with_command line o its.commands k) ≡ None
      above_with k up =
          let until = fresh.until in
          ap (λ (x : Option Command). client_op x) (other_command line k o its.commands (λ is. omega (arith, is, up, until))) ∙ its.none_above k up

      -- nothing refuses it
      free_goes : refusal_of (seen_at_line line o c) o ≡ None → LineGoes (begin_line line o c)
      free_goes free = record {
        commands = commands;
        none_above = above_with;
        commanded = commands_line (judging commands name limits) cs c its.orderly waits_with line o comes;
        valid = led_on commands cs (begin_line line o c) (tells_line (judging commands name limits) cs c its.orderly waits_with line o comes steps its.limited its.lawful.folded);
      }
        where
          comes : IsLineOf (judging (with_command line o its.commands) name limits) c line o
          comes =
              subst (λ (p : Op). IsLineOf (judging (with_command line o its.commands) name limits) c line p) (called_is name line c o fresh.called free)
              (line_comes (judging (with_command line o its.commands) name limits) c line o (its_command line o its.commands) fresh.new fresh.counted)

      -- it is refused
      refused_goes : (q : Reply) → refusal_of (seen_at_line line o c) o ≡ Some q → LineGoes (begin_line line o c)
      refused_goes q stops = record {
        commands = its.commands;
        none_above = its.none_above;
        commanded = refused_commands c its.orderly.once line o fresh.new q stops by its.commanded;
        valid = same_seats (begin_line line o c) (refused_seats c its.orderly.once line o fresh.new q stops);
      }

      line_goes : LineGoes (begin_line line o c)
      line_goes = by_refusal (refusal_of (seen_at_line line o c) o) refl
        where
          by_refusal : (x : Option Reply) → refusal_of (seen_at_line line o c) o ≡ x → LineGoes (begin_line line o c)
          by_refusal None free = free_goes free
          by_refusal (Some q) stops = refused_goes q stops

      like_begun : Likewise c (begin_line line o c)
      like_begun = from_quiet c (begin_line line o c) (begun_quiet line o c)

      newly : IsNewLine name c line o
      newly = record { new = fresh.new; counted = fresh.counted; called = fresh.called }

      steady_line : IsSteady name limits last (begin_line line o c) cs
      steady_line = record {
        commands = line_goes.commands;
        none_above = line_goes.none_above;
        limited = like_begun.limits ∙ its.limited;
        orderly = orderly_line name c its.orderly line o newly;
        lawful = lawful_on name c (begin_line line o c) cs like_begun its.lawful;
        sent = sent_line name its.lawful.lawful.history c its.sent line o fresh.called;
        resting = rests_line name cs c grounded line o;
        stored = stored_line cs c its.stored line o;
        addressed = held_line name names c its.addressed line o newly;
        commanded = line_goes.commanded;
        epochs = epochs_begin line o c its.epochs;
        valid = line_goes.valid;
      }

    steady_goes : (line : ℕ) → ((w : Waiting) → operation_of line c ≡ Some w → IsIdle w.wait) → IsSteady name limits last (resume line c) cs
    steady_goes line idle = record {
      commands = its.commands;
      none_above = its.none_above;
      limited = like.limits ∙ its.limited;
      orderly = orderly_goes name c its.orderly line idle;
      lawful = lawful_on name c (resume line c) cs like its.lawful;
      sent = sent_goes name its.lawful.lawful.history c its.orderly its.sent line;
      resting = rests_goes name cs c grounded line;
      stored = stored_goes cs c its.stored go_step line;
      addressed = held_goes name names c its.orderly its.addressed line;
      commanded = commands_go_on by go_step line c (apart_of name c its.orderly) its.commanded;
      epochs = epochs_go_on go_step going_within line c its.epochs;
      valid = led_on its.commands cs (resume line c) (tells_goes steps by cs c its.limited its.lawful.folded its.orderly its.commanded line);
    }
      where
        like : Likewise c (resume line c)
        like = from_quiet c (resume line c) (going_quiet go_step line c)

    steady_told : (line number : ℕ) (bytes : Option (List ℕ)) (w : Waiting) → operation_of line c ≡ Some w → w.wait ≡ wait.Bytes number
        → IsSteady name limits last (go_on_with (λ v o. bytes_step v bytes (pointers_for w.shard w.operation.op c) o) line c) cs
    steady_told line number bytes w at waits = record {
      commands = its.commands;
      none_above = its.none_above;
      limited = like.limits ∙ its.limited;
      orderly = orderly_told name c its.orderly line number bytes w at waits;
      lawful = lawful_on name c (go_on_with (λ v o. bytes_step v bytes (pointers_for w.shard w.operation.op c) o) line c) cs like its.lawful;
      sent = sent_told name its.lawful.lawful.history c its.orderly its.sent line bytes (pointers_for w.shard w.operation.op c);
      resting = rests_told name cs c grounded line bytes w at;
      stored = stored_goes cs c its.stored (λ v o. bytes_step v bytes (pointers_for w.shard w.operation.op c) o) line;
      addressed = held_told name names c its.orderly its.addressed line bytes w;
      commanded = commands_go_on by (λ v o. bytes_step v bytes (pointers_for w.shard w.operation.op c) o) line c (apart_of name c its.orderly) its.commanded;
      epochs = epochs_go_on (λ v o. bytes_step v bytes (pointers_for w.shard w.operation.op c) o) (telling_within bytes (pointers_for w.shard w.operation.op c)) line c its.epochs;
      valid = told_valid reads cs c its.lawful.folded its.valid line w (its.commanded line w at).has (its.orderly.pending line w at).judges bytes at;
    }
      where
        like : Likewise c (go_on_with (λ v o. bytes_step v bytes (pointers_for w.shard w.operation.op c) o) line c)
        like = from_quiet c (go_on_with (λ v o. bytes_step v bytes (pointers_for w.shard w.operation.op c) o) line c) (going_quiet (λ v o. bytes_step v bytes (pointers_for w.shard w.operation.op c) o) line c)

    -- ---- what is proposed and sent by no operation

    steady_due : (shard : ℕ) → shard < (shape_of c).shards → is_enter_due shard c ≡ true → IsSteady name limits last (propose_entry shard (kind.Enter 0 ((catalogue_of shard c).epoch + 1)) c) cs
    steady_due shard low due = record {
      commands = its.commands;
      none_above = its.none_above;
      limited = like.limits ∙ its.limited;
      orderly = orderly_due name c its.orderly shard;
      lawful = lawful_on name c (propose_entry shard (kind.Enter 0 ((catalogue_of shard c).epoch + 1)) c) cs like its.lawful;
      sent = sent_due name its.lawful.lawful.history c its.sent shard ((catalogue_of shard c).epoch + 1);
      resting = rests_due name cs c grounded shard low due;
      stored = stored_due cs c its.stored shard;
      addressed = held_due c its.addressed shard;
      commanded = commands_same by c (propose_entry shard (kind.Enter 0 ((catalogue_of shard c).epoch + 1)) c) (ap (λ (x : Words). x.operations) words) (ap (λ (x : Words). x.sessions) words) its.commanded;
      epochs = epochs_propose shard (kind.Enter 0 ((catalogue_of shard c).epoch + 1)) c (own_within c.limits ((catalogue_of shard c).epoch + 1)) its.epochs;
      valid = same_seats (propose_entry shard (kind.Enter 0 ((catalogue_of shard c).epoch + 1)) c) (ap (λ (x : Words). x.sessions) words);
    }
      where
        words : words_of (propose_entry shard (kind.Enter 0 ((catalogue_of shard c).epoch + 1)) c) ≡ words_of c
        words = proposed_words shard (kind.Enter 0 ((catalogue_of shard c).epoch + 1)) c

        like : Likewise c (propose_entry shard (kind.Enter 0 ((catalogue_of shard c).epoch + 1)) c)
        like = from_quiet c (propose_entry shard (kind.Enter 0 ((catalogue_of shard c).epoch + 1)) c) (proposed_quiet shard (kind.Enter 0 ((catalogue_of shard c).epoch + 1)) c)

    steady_again : (back shard : ℕ) → IsSteady name limits last (send_round back shard c) cs
    steady_again back shard = record {
      commands = its.commands;
      none_above = its.none_above;
      limited = same.limits ∙ its.limited;
      orderly = orderly_again name c its.orderly back shard;
      lawful = lawful_on name c (send_round back shard c) cs like its.lawful;
      sent = sent_again name cs c its.lawful its.sent back shard;
      resting = rests_again cs c its.resting back shard;
      stored = stored_again cs c its.stored back shard;
      addressed = held_again c its.addressed back shard;
      commanded = commands_same by c (send_round back shard c) same.operations same.sessions its.commanded;
      epochs = epochs_same c (send_round back shard c) same.limits same.waiting its.epochs;
      valid = same_seats (send_round back shard c) same.sessions;
    }
      where
        same : Alike c (send_round back shard c)
        same = again_alike back shard c

        like : Likewise c (send_round back shard c)
        like = again_like back shard c

  -- a new Round is proposed as a Got
  module _ (c : Core) (cs : List Folded) (its : IsSteady name limits last c cs) (number from to epoch round total : ℕ) (deltas : List Delta) (low : to < (shape_of c).shards)
      (at : message_at number c.pool ≡ Some (message.Round from to epoch round total deltas)) (new : is_new_round to from epoch round (change_pool (without number) c) ≡ true) where
    abbrev left : Core
    left = change_pool (without number) c

    abbrev got : Entry
    got = kind.Got from epoch round total deltas

    abbrev proposed : Core
    proposed = propose_entry to (kind.Got from epoch round total deltas) (change_pool (without number) c)

    like : Likewise c (propose_entry to (kind.Got from epoch round total deltas) (change_pool (without number) c))
    like =
        let q : Likewise left proposed = from_quiet left proposed (proposed_quiet to got left) in
        record { limits = q.limits; shape = q.shape; catalogues = q.catalogues }

    abbrev lawful_there : IsLawful name (propose_entry to (kind.Got from epoch round total deltas) (change_pool (without number) c)) cs
    lawful_there = lawful_on name c (propose_entry to (kind.Got from epoch round total deltas) (change_pool (without number) c)) cs like its.lawful

    sent_there : AreSent (setting_of name (propose_entry to (kind.Got from epoch round total deltas) (change_pool (without number) c))) its.lawful.lawful.history (propose_entry to (kind.Got from epoch round total deltas) (change_pool (without number) c))
    sent_there = sent_round name cs c its.lawful its.sent number from to epoch round total deltas at new

    gots : GotsWait (propose_entry to (kind.Got from epoch round total deltas) (change_pool (without number) c)) cs
    gots shard place f e r t ds there = got_waits name cs proposed lawful_there sent_there shard place f e r t ds there

    got_words : words_of (propose_entry to (kind.Got from epoch round total deltas) (change_pool (without number) c)) ≡ words_of (change_pool (without number) c)
    got_words = proposed_words to got left

    steady_round : IsSteady name limits last (propose_entry to (kind.Got from epoch round total deltas) (change_pool (without number) c)) cs
    steady_round = record {
      commands = its.commands;
      none_above = its.none_above;
      limited = like.limits ∙ its.limited;
      orderly = orderly_round name c its.orderly number from to epoch round total deltas;
      lawful = lawful_there;
      sent = sent_there;
      resting = rests_round name cs c (grounded c cs its) number from to epoch round total deltas low gots;
      stored = stored_round cs c its.stored number from to epoch round total deltas;
      addressed = held_round c its.addressed to got (without number);
      commanded = commands_same (judging its.commands name limits) c proposed (ap (λ (x : Words). x.operations) got_words) (ap (λ (x : Words). x.sessions) got_words) its.commanded;
      epochs = epochs_propose to got left (got_within c.limits from epoch round total deltas) its.epochs;
      valid = same_seats c cs its proposed (ap (λ (x : Words). x.sessions) got_words);
    }

  -- an entry takes effect
  module _ (c : Core) (cs : List Folded) (its : IsSteady name limits last c cs) (shard number : ℕ) (entry : Entry) (low : shard < (shape_of c).shards) (leads : committed (group_of shard c) ≡ Some (number, entry))
      (few : (g : ℕ) → length (catalogue_of g (taken shard entry c)).roots ≤ most_records) where
    abbrev behind : List Folded
    behind = folds_behind name cs shard entry c

    abbrev after : Core
    after = told_at_once shard entry c

    may : MayFollow (setting_of name c) cs (next_deed shard entry c)
    may = rests_follows name cs c (grounded c cs its) shard number entry low leads few

    called : IsNamed name entry c
    called = committed_named name c shard number entry its.orderly leads

    ready : Ready (judging its.commands name limits) c cs
    ready = record { limits = its.limited; orderly = its.orderly; lawful = its.lawful; holds = hold_addresses c.sessions its.addressed.sessions; commands = its.commanded; epochs = its.epochs }

    abbrev lawful_then : IsLawful name (told_at_once shard entry c) (folds_behind name cs shard entry c)
    lawful_then = lawful_behind name cs c shard entry its.lawful called may

    sent_then : AreSent (setting_of name (told_at_once shard entry c)) (its.lawful.lawful.history ++ next_deed shard entry c ∷ []) (told_at_once shard entry c)
    sent_then = sent_effect name cs c its.lawful its.sent its.orderly shard number entry low leads

    gots_then : GotsWait (told_at_once shard entry c) (folds_behind name cs shard entry c)
    gots_then g place f e r t ds there = got_waits name behind after lawful_then sent_then g place f e r t ds there

    -- where a Mark gives its block, what it writes is of no matter
    abbrev IsNoGift : Entry → Type 0
    IsNoGift x = (line least block : ℕ) (a : Address) → x ≡ kind.Mark line least block a → (done_by shard (kind.Mark line least block a) c).effect.what ≡ what.Marked → ⊥

    told_then : IsNoGift entry → IsValid (store_with (folds_behind name cs shard entry c) (told_at_once shard entry c).sessions)
    told_then none = led_on c cs its its.commands behind after (tells_effect views steps laws (judging its.commands name limits) cs c shard number ready entry leads may (λ line least block a is did. absurd (none line least block a is did)))

  module _ (c : Core) (cs : List Folded) (its : IsSteady name limits last c cs) (shard number : ℕ) (low : shard < (shape_of c).shards) where
    -- no more root records than a shard takes
    abbrev AreFew : Entry → Type 0
    AreFew entry = (g : ℕ) → length (catalogue_of g (taken shard entry c)).roots ≤ most_records

    abbrev IsValidThen : Entry → Type 0
    IsValidThen entry = IsValid (store_with (folds_behind name cs shard entry c) (told_at_once shard entry c).sessions)

    mark_then : (line least block : ℕ) (a : Address) → committed (group_of shard c) ≡ Some (number, kind.Mark line least block a) → AreFew (kind.Mark line least block a) → IsValidThen (kind.Mark line least block a)
    mark_then line least block a leads few = by_what (marked_or least block a (catalogue_of shard c))
      where
        by_what : ((done_by shard (kind.Mark line least block a) c).effect.what ≡ what.Marked) ⊎ IsQuiet (done_by shard (kind.Mark line least block a) c).effect.what → IsValidThen (kind.Mark line least block a)
        by_what (inl did) = given_valid views name cs c shard number line least block a its.lawful its.orderly leads (may c cs its shard number (kind.Mark line least block a) low leads few) did its.valid
        by_what (inr quiet) =
            told_then c cs its shard number (kind.Mark line least block a) low leads few
            (λ l k b m is did. subst (λ (x : What). IsQuiet x) did (subst (λ (x : Entry). IsQuiet (done_by shard x c).effect.what) is quiet))

    valid_then : (entry : Entry) → committed (group_of shard c) ≡ Some (number, entry) → AreFew entry → IsValidThen entry
    valid_then (kind.Mark line least block a) leads few = mark_then line least block a leads few
    valid_then (kind.View view) leads few = told_then c cs its shard number (kind.View view) low leads few (λ l k b m is did. cc is)
    valid_then (kind.Block line least bytes) leads few = told_then c cs its shard number (kind.Block line least bytes) low leads few (λ l k b m is did. cc is)
    valid_then (kind.Root line held a key) leads few = told_then c cs its shard number (kind.Root line held a key) low leads few (λ l k b m is did. cc is)
    valid_then (kind.Drop line key) leads few = told_then c cs its shard number (kind.Drop line key) low leads few (λ l k b m is did. cc is)
    valid_then (kind.Enter line epoch) leads few = told_then c cs its shard number (kind.Enter line epoch) low leads few (λ l k b m is did. cc is)
    valid_then (kind.Got from epoch round total deltas) leads few = told_then c cs its shard number (kind.Got from epoch round total deltas) low leads few (λ l k b m is did. cc is)
    valid_then (kind.Base view epoch swept round frames) leads few = told_then c cs its shard number (kind.Base view epoch swept round frames) low leads few (λ l k b m is did. cc is)
    valid_then (kind.KeptBlock born mark flags count bytes) leads few = told_then c cs its shard number (kind.KeptBlock born mark flags count bytes) low leads few (λ l k b m is did. cc is)
    valid_then (kind.KeptRoot created dropped counted address key) leads few = told_then c cs its shard number (kind.KeptRoot created dropped counted address key) low leads few (λ l k b m is did. cc is)
    valid_then (kind.KeptRound way other epoch round total deltas) leads few = told_then c cs its shard number (kind.KeptRound way other epoch round total deltas) low leads few (λ l k b m is did. cc is)

    steady_effect : (entry : Entry) → committed (group_of shard c) ≡ Some (number, entry) → AreFew entry → IsSteady name limits last (told_at_once shard entry c) (folds_behind name cs shard entry c)
    steady_effect entry leads few = record {
      commands = its.commands;
      none_above = its.none_above;
      limited = (at_once_quiet shard entry (done_by shard entry c).effect (taken shard entry c)).limits ∙ its.limited;
      orderly = orderly_effect name c its.orderly shard number entry leads;
      lawful = lawful_then c cs its shard number entry low leads few;
      sent = sent_then c cs its shard number entry low leads few;
      resting = rests_effect name cs c (grounded c cs its) shard number entry low leads few (gots_then c cs its shard number entry low leads few);
      stored = stored_effect name cs c its.lawful its.stored shard number entry low leads;
      addressed = held_effect name names c its.orderly its.addressed shard number entry leads;
      commanded = commands_effect (judging its.commands name limits) shard entry c its.orderly its.commanded;
      epochs = epochs_effect shard entry c its.epochs;
      valid = valid_then entry leads few;
    }

  -- ---- so each event keeps it

  pub views_steady : (shard : ℕ) (c : Core) → shard < (shape_of c).shards → (cs : List Folded) × IsSteady name limits last c cs → (cs : List Folded) × IsSteady name limits last (begin_view shard c) cs
  views_steady shard c low s = (s.0, steady_opens c s.0 s.1 shard low)

  pub walks_steady : Walks (λ line o c. IsFreshLine name last line o c) (λ number bytes w c. Unit {0}) (λ line. Unit {0}) (λ c. (cs : List Folded) × IsSteady name limits last c cs)
  walks_steady = record {
    once = λ c s. s.1.orderly.once;
    line_beside = λ line o a b beside fresh. record {
      new = ap (λ (es : List (ℕ × Waiting)). lookup (is_at (nat_cmp line)) es) beside.operations ∙ fresh.new;
      counted = fresh.counted;
      until = fresh.until;
      called = subst (λ (seats : Seats). IsCalled name seats o) (sym beside.sessions) fresh.called;
    };
    tell_beside = λ number bytes w a b beside may. tt;
    beside = λ a b beside s. (s.0, steady_beside a s.0 s.1 b beside);
    downed = λ peer line c s. (s.0, steady_downed c s.0 s.1 peer line);
    refused = λ line refusal c any s. (s.0, steady_refused c s.0 s.1 line refusal);
    line = λ line o c fresh s. (s.0, steady_line c s.0 s.1 line o fresh);
    goes = λ line c idle s. (s.0, steady_goes c s.0 s.1 line idle);
    told = λ line number bytes w c at waits any s. (s.0, steady_told c s.0 s.1 line number bytes w at waits);
    effect = λ shard number entry c low leads few s. (folds_behind name s.0 shard entry c, steady_effect c s.0 s.1 shard number low entry leads few);
    due = λ shard c low due s. (s.0, steady_due c s.0 s.1 shard low due);
    round = λ number from to epoch round total deltas c low at new s. (s.0, steady_round c s.0 s.1 number from to epoch round total deltas low at new);
    again = λ back shard c s. (s.0, steady_again c s.0 s.1 back shard);
  }
