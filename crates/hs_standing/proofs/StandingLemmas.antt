-- A core that stands so stands so behind each single change.
use Rattle.std.proofs.Common.{◌≡◌, ◌∙◌, sym, ap, subst, ℕ, ◌+◌, ◌<◌, ◌≤◌, ◌++◌, List, [], ◌∷◌, length, map, Option, Some, None, true, refl, arith}
use Rattle.std.specs.BTreeMap.{is_at}
use Rattle.std.specs.Map.{lookup}
use Rattle.std.specs.Option.{option_and_then, option_map, option_map_or}
use Rattle.std.specs.Ordering.{nat_cmp}
use Rattle.hs_standing.specs.Changes.{IsBeside, IsIdle, told_at_once}
use Rattle.hs_standing.specs.Walks.{Walks}
use Rattle.hs_answered.specs.Asked.{HasBytes}
use Rattle.hs_answered.specs.Standing.{store_with}
use Rattle.hs_answered.specs.Telling.{Judging, Tells, events_in}
use Rattle.hs_awaiting.specs.declared.wait.Wait.TheVariants as wait
use Rattle.hs_awaiting.specs.declared.waiting.Waiting.{Waiting}
use Rattle.hs_awaiting.specs.Words.{change_with}
use Rattle.hs_core_words.specs.Asking.{send_round}
use Rattle.hs_core_words.specs.Changing.{change_pool, note, post, refuse}
use Rattle.hs_core_words.specs.Delivering.{is_new_round}
use Rattle.hs_core_words.specs.Effects.{round_messages}
use Rattle.hs_core_words.specs.Entering.{is_enter_due}
use Rattle.hs_core_words.specs.Looking.{catalogue_of, group_of, operation_of, shape_of}
use Rattle.hs_core_words.specs.Operating.{begin_line, go_on_with, propose_entry, resume}
use Rattle.hs_core_words.specs.Seeing.{pointers_for, view_for}
use Rattle.hs_core_words.specs.State.{Core}
use Rattle.hs_effects.proofs.EffectLemmas.{committed_named}
use Rattle.hs_effects.proofs.QuietLemmas.{going_quiet, proposed_quiet}
use Rattle.hs_effects.proofs.SweepLemmas.{ByViews}
use Rattle.hs_effects.specs.Lawful.{IsLawful, MayFollow}
use Rattle.hs_effects.specs.Logged.{IsCalled}
use Rattle.hs_effects.specs.Taking.{IsNamed, done_by, folds_behind, next_deed, setting_of, taken}
use Rattle.hs_entry.specs.declared.entry.Entry.{Entry}
use Rattle.hs_entry.specs.declared.entry.Entry.TheVariants as kind
use Rattle.hs_fold.specs.Runs.Facts.{Catalogue as Folded}
use Rattle.hs_fold.specs.Shards.Sound.{most_records}
use Rattle.hs_standing.proofs.HandleLemmas.{hold_addresses}
use Rattle.hs_standing.proofs.HeldHeldLemmas.{held_again, held_beside, held_downed, held_due, held_effect, held_goes, held_line, held_refused, held_round, held_told}
use Rattle.hs_standing.proofs.HeldLineLemmas.{written_line}
use Rattle.hs_standing.proofs.ToldLemmas.{is_written, written_told}
use Rattle.hs_standing.proofs.WrittenLemmas.{written_again, written_beside, written_downed, written_due, written_effect, written_goes, written_refused, written_round}
use Rattle.hs_standing.specs.Held.{GivesAddresses}
use Rattle.hs_journal.specs.declared.entry.JournalEntry.{JournalEntry}
use Rattle.hs_journal.specs.declared.entry.Who.TheVariants as who
use Rattle.hs_laws.specs.Valid.{IsValid}
use Rattle.hs_standing.proofs.CommandLemmas.{apart_of, commands_go_on, commands_same}
use Rattle.hs_standing.proofs.LegalEffectLemmas.{Ready, WritesIt, commands_effect, epochs_effect, tells_effect}
use Rattle.hs_standing.proofs.EpochLemmas.{IsWithin, epochs_begin, epochs_go_on, epochs_propose, epochs_same, going_within, telling_within}
use Rattle.hs_standing.proofs.HistoryLemmas.{Likewise, from_quiet, lawful_behind, lawful_on}
use Rattle.hs_standing.proofs.Laws.{Entries, Steps}
use Rattle.hs_standing.proofs.LegalLineLemmas.{begun_quiet, commands_line, tells_line}
use Rattle.hs_standing.proofs.MuteLemmas.{Books, Words, at_once_quiet, proposed_books, proposed_words}
use Rattle.hs_standing.proofs.OrderLemmas.{again_alike, beside_alike, orderly_again, orderly_beside, orderly_downed, orderly_due, orderly_effect, orderly_goes, orderly_line, orderly_refused, orderly_round, orderly_told}
use Rattle.hs_standing.proofs.LegalStepLemmas.{tells_goes, tells_told}
use Rattle.hs_standing.proofs.TellLemmas.{TellsOn, silent_on, telling_on}
use Rattle.hs_standing.specs.Bytes.{AreOfBlock, TellsItsBlock}
use Rattle.hs_standing.specs.Commands.{IsLineOf, IsNobodys, IsOfCommand}
use Rattle.hs_standing.specs.Legal.{IsStanding}
use Rattle.hs_standing.specs.Telling.{told_so_far}
use Rattle.hs_limits.specs.declared.address.Address.{Address}
use Rattle.hs_limits.specs.declared.delta.Delta.{Delta}
use Rattle.hs_limits.specs.declared.limits.Limits.{Limits}
use Rattle.hs_model.specs.declared.deed.Deed.TheVariants as deed
use Rattle.hs_model.specs.declared.op.Op.{Op}
use Rattle.hs_model.specs.declared.op.Op.TheVariants as op
use Rattle.hs_model.specs.declared.reply.Reply.{Reply}
use Rattle.hs_model.specs.declared.reply.Reply.TheVariants as reply
use Rattle.hs_model.specs.Judge.{given_address}
use Rattle.hs_model.specs.Run.{run}
use Rattle.hs_model.specs.Store.{Store, block_at}
use Rattle.hs_answered.proofs.TellingLemmas.{tells_event, tells_nobody}
use Rattle.hs_ops.specs.Operations.{bytes_step, go_step, wanted_number}
use Rattle.hs_ops.specs.Refusals.{refusal_of, refusals_of}
use Rattle.hs_ops.specs.Speaking.{wanted_address}
use Rattle.hs_post.specs.declared.message.Message.TheVariants as message
use Rattle.hs_post.specs.Pool.{message_at, without}
use Rattle.hs_replica.specs.Group.{committed}
use Rattle.hs_standing.proofs.RestLemmas.{rests_again, rests_beside, rests_downed, rests_due, rests_effect, rests_follows, rests_goes, rests_line, rests_refused, rests_round, rests_told}
use Rattle.hs_standing.proofs.StoredLemmas.{stored_again, stored_beside, stored_downed, stored_due, stored_effect, stored_goes, stored_line, stored_refused, stored_round}
use Rattle.hs_standing.proofs.ValidLemmas.{told_valid}
use Rattle.hs_standing.specs.Rests.{GotsWait, IsGrounded}
use Rattle.hs_rounds.specs.Rounds.{sent_back}
use Rattle.hs_standing.proofs.AtomLemmas.{sent_again, sent_beside, sent_downed, sent_due, sent_effect, sent_goes, sent_line, sent_refused, sent_round, sent_told}
use Rattle.hs_standing.proofs.SentWaitLemmas.{got_waits}
use Rattle.hs_standing.specs.Sent.{AreSent}
use Rattle.hs_shard.specs.declared.facts.Facts.{Facts}
use Rattle.hs_shard.specs.Facts.{Catalogue, facts_at}
use Rattle.hs_shard.specs.Rounds.{messages}
use Rattle.hs_tokens.specs.Seats.{Seats}

-- ---- plain facts

zero_line : (epoch l n : ℕ) → kind.Enter 0 epoch ≡ kind.Enter l n → l ≡ 0
zero_line epoch l n e = cc e

-- an Enter that a shard proposes by itself is no client's
own_within : (limits : Limits) (epoch : ℕ) → IsWithin limits (kind.Enter 0 epoch)
own_within limits epoch l n is counted = let zero_is : l ≡ 0 = zero_line epoch l n is in absurd (omega (arith, zero_is, counted))

got_within : (limits : Limits) (from epoch round total : ℕ) (deltas : List Delta) → IsWithin limits (kind.Got from epoch round total deltas)
got_within limits from epoch round total deltas l n is counted = absurd (cc is)

-- rounds that are sent again change the pool alone
record IsAgain (a b : Core) : Type 0 where
  like : Likewise a b
  told : told_so_far b ≡ told_so_far a

is_again : (back shard : ℕ) (c : Core) → IsAgain c (send_round back shard c)
is_again back shard c = by_round (sent_back back (catalogue_of shard c).run)
  where
    by_round : (at : Option (ℕ × ℕ)) → IsAgain c (change_with at (λ r. post (round_messages shard (messages (catalogue_of shard c).shape.shards r.0 r.1 (catalogue_of shard c).run))) c)
    by_round None = record { like = record { limits = refl; shape = refl; catalogues = refl }; told = refl }
    by_round (Some r) = record { like = record { limits = refl; shape = refl; catalogues = refl }; told = refl }

told_limits : (shard : ℕ) (entry : Entry) (c : Core) → (told_at_once shard entry c).limits ≡ c.limits
told_limits shard entry c = (at_once_quiet shard entry (done_by shard entry c).effect (taken shard entry c)).limits

-- bytes of an operation's block are those of its write's
write_bytes : (s : Store) (c : Core) (bytes : Option (List ℕ)) (w : Waiting) (o : Op) → AreOfBlock s c bytes w o → (session payload handles : List ℕ) (address : Option Address) → o ≡ op.Write session payload handles address
    → (view_for w.shard w.operation.op c).present ≡ Some (wanted_number w.operation.stage) → HasBytes (block_at s (given_address address)) bytes
write_bytes s c bytes w o true_bytes session payload handles address is = subst (λ (p : Op). AreOfBlock s c bytes w p) is true_bytes

-- what an operation sees of its block rests on catalogues and sessions
present_beside : (a b : Core) → IsBeside a b → (shard : ℕ) (o : Op) → (view_for shard o b).present ≡ (view_for shard o a).present
present_beside a b beside shard o =
    ap (λ (c : Catalogue). option_map (λ (f : Facts). f.number) (option_and_then (λ x. facts_at x c) (wanted_address b.sessions o))) ((beside_alike a b beside).catalogue shard)
    ∙ ap (λ (seats : Seats). option_map (λ (f : Facts). f.number) (option_and_then (λ x. facts_at x (catalogue_of shard a)) (wanted_address seats o))) beside.sessions

pointers_beside : (a b : Core) → IsBeside a b → (shard : ℕ) (o : Op) → pointers_for shard o b ≡ pointers_for shard o a
pointers_beside a b beside shard o =
    ap (λ (c : Catalogue). option_map_or (λ (f : Facts). f.pointers) (option_and_then (λ x. facts_at x c) (wanted_address b.sessions o)) []) ((beside_alike a b beside).catalogue shard)
    ∙ ap (λ (seats : Seats). option_map_or (λ (f : Facts). f.pointers) (option_and_then (λ x. facts_at x (catalogue_of shard a)) (wanted_address seats o)) []) beside.sessions

-- a read is refused by limits, sessions, epochs, and how many pointers its block has
abbrev read_refusal : Limits → Seats → List ℕ → ℕ → ℕ → List ℕ → ℕ → Option Reply
read_refusal limits seats epochs shard pointers name handle =
    refusal_of (record {
      limits = limits;
      seats = seats;
      roots = [];
      retained = 0;
      blocks = 0;
      epochs = epochs;
      swept = [];
      shard = shard;
      present = None;
      pointers = pointers;
      room = true;
      pending = true;
      viewed = true;
      busy = None;
    }) (op.Read name handle)

read_beside : (a b : Core) → IsBeside a b → (shard : ℕ) (name : List ℕ) (handle : ℕ)
    → refusal_of (view_for shard (op.Read name handle) b) (op.Read name handle) ≡ refusal_of (view_for shard (op.Read name handle) a) (op.Read name handle)
unfolding refusals_of
read_beside a b beside shard name handle = λ i.
    read_refusal (beside.limits i) (beside.sessions i) (map (λ (c : Catalogue). c.epoch) (beside.catalogues i)) shard (length (pointers_beside a b beside shard (op.Read name handle) i)) name handle

module _ (s : Store) (a b : Core) (beside : IsBeside a b) (bytes : Option (List ℕ)) (w : Waiting) where
  block_beside : (o : Op) → AreOfBlock s a bytes w o → AreOfBlock s b bytes w o
  block_beside (op.Read name handle) h = λ free. h (sym (read_beside a b beside w.shard name handle) ∙ free)
  block_beside (op.Write name payload handles address) h = λ present. h (sym (present_beside a b beside w.shard w.operation.op) ∙ present)
  block_beside (op.Open name) h = tt
  block_beside (op.Close name) h = tt
  block_beside (op.Look name key) h = tt
  block_beside (op.Root name key handle) h = tt
  block_beside (op.Drop key) h = tt
  block_beside (op.Forget name handle) h = tt
  block_beside (op.Name name handle) h = tt
  block_beside op.Delete h = tt
  block_beside op.Stat h = tt

module _ (by : Judging) (start : Store) where
  pub tell_beside : (number : ℕ) (bytes : Option (List ℕ)) (w : Waiting) (a b : Core) → IsBeside a b → TellsItsBlock by start number bytes w a → TellsItsBlock by start number bytes w b
  tell_beside number bytes w a b beside h =
      subst (λ (entries : List JournalEntry). AreOfBlock (run by.limits start (events_in by start entries)) b bytes w w.operation.op) (sym beside.told)
      (block_beside (run by.limits start (events_in by start (told_so_far a))) a b beside bytes w w.operation.op h)

  pub line_beside : (line : ℕ) (o : Op) (a b : Core) → IsBeside a b → IsLineOf by a line o → IsLineOf by b line o
  line_beside line o a b beside its = record {
    fresh = record {
      new = ap (λ (es : List (ℕ × Waiting)). lookup (is_at (nat_cmp line)) es) beside.operations ∙ its.fresh.new;
      counted = its.fresh.counted;
      called = subst (λ (seats : Seats). IsCalled by.name seats o) (sym beside.sessions) its.fresh.called;
    };
    says = subst (λ (seats : Seats). IsOfCommand by seats line o) (sym beside.sessions) its.says;
  }

-- ---- one change

module _ (views : ByViews) (steps : Steps) (laws : Entries) (by : Judging) (names : GivesAddresses by.name) (start : Store) (valid : IsValid start) where
  module _ (c : Core) (cs : List Folded) (its : IsStanding by start c cs) where
    pub grounded : IsGrounded by.name c cs
    grounded = record {
      orderly = its.orderly;
      lawful = its.lawful;
      valid = told_valid by start (told_so_far c) (store_with cs c.sessions) valid its.tells;
      holds = hold_addresses c.sessions its.addressed.sessions;
      stored = its.stored;
      resting = its.resting;
    }

    -- an entry that is committed may come
    pub standing_follows : (shard number : ℕ) (entry : Entry) → shard < (shape_of c).shards → committed (group_of shard c) ≡ Some (number, entry) → ((g : ℕ) → length (catalogue_of g (taken shard entry c)).roots ≤ most_records)
        → MayFollow (setting_of by.name c) cs (next_deed shard entry c)
    standing_follows shard number entry low leads few = rests_follows by.name cs c grounded shard number entry low leads few

    pub standing_beside : (b : Core) → IsBeside c b → IsStanding by start b cs
    standing_beside b beside = record {
      limits = beside.limits ∙ its.limits;
      orderly = orderly_beside by.name c its.orderly b beside;
      lawful = lawful_on by.name c b cs (record { limits = beside.limits; shape = beside.shape; catalogues = beside.catalogues }) its.lawful;
      sent = sent_beside by.name its.lawful.lawful.history c b its.sent beside;
      resting = rests_beside cs c b its.resting beside;
      stored = stored_beside cs c b its.stored beside;
      addressed = held_beside c b beside its.addressed;
      written = written_beside cs c b beside its.written;
      commands = commands_same by c b beside.operations beside.sessions its.commands;
      epochs = epochs_same c b beside.limits beside.waiting its.epochs;
      tells = subst (λ (entries : List JournalEntry). Tells by start entries (store_with cs b.sessions)) (sym beside.told)
          (subst (λ (seats : Seats). Tells by start (told_so_far c) (store_with cs seats)) (sym beside.sessions) its.tells);
    }

    -- a note of a peer tells of no event, and so does what a line is told that is no client's
    tells_down : (peer line : ℕ) → TellsOn by cs cs c (note who.Store deed.Nothing (reply.Down peer line) c)
    tells_down peer line = record {
      more = record { who = who.Store; moment = c.moment; deed = deed.Nothing; reply = reply.Down peer line } ∷ [];
      journal = refl;
      refused = refl;
      told = refl;
      tells = tells_event by (store_with cs c.sessions) (record { who = who.Store; moment = c.moment; deed = deed.Nothing; reply = reply.Down peer line }) None refl tt tt;
    }

    pub standing_downed : (peer line : ℕ) → IsStanding by start (note who.Store deed.Nothing (reply.Down peer line) c) cs
    standing_downed peer line = record {
      limits = its.limits;
      orderly = orderly_downed by.name c its.orderly peer line;
      lawful = lawful_on by.name c (note who.Store deed.Nothing (reply.Down peer line) c) cs (record { limits = refl; shape = refl; catalogues = refl }) its.lawful;
      sent = sent_downed by.name its.lawful.lawful.history c its.sent peer line;
      resting = rests_downed cs c its.resting peer line;
      stored = stored_downed cs c its.stored peer line;
      addressed = held_downed c its.addressed peer line;
      written = written_downed cs c its.written peer line;
      commands = its.commands;
      epochs = its.epochs;
      tells = telling_on by start cs cs c (note who.Store deed.Nothing (reply.Down peer line) c) (tells_down peer line) its.tells;
    }

    tells_refusal : (line : ℕ) (refusal : Reply) → IsNobodys by line → TellsOn by cs cs c (refuse line refusal c)
    tells_refusal line refusal nobody = record {
      more = record { who = who.Line line; moment = c.moment; deed = deed.Nothing; reply = refusal } ∷ [];
      journal = refl;
      refused = refl;
      told = refl;
      tells = tells_nobody by (store_with cs c.sessions) line c.moment deed.Nothing refusal nobody;
    }

    pub standing_refused : (line : ℕ) (refusal : Reply) → IsNobodys by line → IsStanding by start (refuse line refusal c) cs
    standing_refused line refusal nobody = record {
      limits = its.limits;
      orderly = orderly_refused by.name c its.orderly line refusal;
      lawful = lawful_on by.name c (refuse line refusal c) cs (record { limits = refl; shape = refl; catalogues = refl }) its.lawful;
      sent = sent_refused by.name its.lawful.lawful.history c its.sent line refusal;
      resting = rests_refused cs c its.resting line refusal;
      stored = stored_refused cs c its.stored line refusal;
      addressed = held_refused c its.addressed line refusal;
      written = written_refused cs c its.written line refusal;
      commands = its.commands;
      epochs = its.epochs;
      tells = telling_on by start cs cs c (refuse line refusal c) (tells_refusal line refusal nobody) its.tells;
    }

    pub standing_line : (line : ℕ) (o : Op) → IsLineOf by c line o → IsStanding by start (begin_line line o c) cs
    standing_line line o may = record {
      limits = like.limits ∙ its.limits;
      orderly = orderly_line by.name c its.orderly line o may.fresh;
      lawful = lawful_on by.name c (begin_line line o c) cs like its.lawful;
      sent = sent_line by.name its.lawful.lawful.history c its.sent line o may.fresh.called;
      resting = rests_line by.name cs c grounded line o;
      stored = stored_line cs c its.stored line o;
      addressed = held_line by.name names c its.addressed line o may.fresh;
      written = written_line by.name cs c its.orderly its.written line o may.fresh;
      commands = commands_line by cs c its.orderly its.commands line o may;
      epochs = epochs_begin line o c its.epochs;
      tells = telling_on by start cs cs c (begin_line line o c) (tells_line by cs c its.orderly its.commands line o may steps its.limits its.lawful.folded) its.tells;
    }
      where
        like : Likewise c (begin_line line o c)
        like = from_quiet c (begin_line line o c) (begun_quiet line o c)

    pub standing_goes : (line : ℕ) → ((w : Waiting) → operation_of line c ≡ Some w → IsIdle w.wait) → IsStanding by start (resume line c) cs
    standing_goes line idle = record {
      limits = like.limits ∙ its.limits;
      orderly = orderly_goes by.name c its.orderly line idle;
      lawful = lawful_on by.name c (resume line c) cs like its.lawful;
      sent = sent_goes by.name its.lawful.lawful.history c its.orderly its.sent line;
      resting = rests_goes by.name cs c grounded line;
      stored = stored_goes cs c its.stored go_step line;
      addressed = held_goes by.name names c its.orderly its.addressed line;
      written = written_goes by.name cs c its.orderly its.written line idle;
      commands = commands_go_on by go_step line c (apart_of by.name c its.orderly) its.commands;
      epochs = epochs_go_on go_step going_within line c its.epochs;
      tells = telling_on by start cs cs c (resume line c) (tells_goes steps by cs c its.limits its.lawful.folded its.orderly its.commands line) its.tells;
    }
      where
        like : Likewise c (resume line c)
        like = from_quiet c (resume line c) (going_quiet go_step line c)

    pub standing_told : (line number : ℕ) (bytes : Option (List ℕ)) (w : Waiting) → operation_of line c ≡ Some w → w.wait ≡ wait.Bytes number → TellsItsBlock by start number bytes w c
        → IsStanding by start (go_on_with (λ v o. bytes_step v bytes (pointers_for w.shard w.operation.op c) o) line c) cs
    standing_told line number bytes w at waits may = record {
      limits = like.limits ∙ its.limits;
      orderly = orderly_told by.name c its.orderly line number bytes w at waits;
      lawful = lawful_on by.name c (go_on_with (λ v o. bytes_step v bytes (pointers_for w.shard w.operation.op c) o) line c) cs like its.lawful;
      sent = sent_told by.name its.lawful.lawful.history c its.orderly its.sent line bytes (pointers_for w.shard w.operation.op c);
      resting = rests_told by.name cs c grounded line bytes w at;
      stored = stored_goes cs c its.stored (λ v o. bytes_step v bytes (pointers_for w.shard w.operation.op c) o) line;
      addressed = held_told by.name names c its.orderly its.addressed line bytes w;
      written = written_told by.name cs c its.lawful.folded its.orderly its.addressed its.written line number bytes w at waits (write_bytes (store_with cs c.sessions) c bytes w w.operation.op true_bytes);
      commands = commands_go_on by (λ v o. bytes_step v bytes (pointers_for w.shard w.operation.op c) o) line c (apart_of by.name c its.orderly) its.commands;
      epochs = epochs_go_on (λ v o. bytes_step v bytes (pointers_for w.shard w.operation.op c) o) (telling_within bytes (pointers_for w.shard w.operation.op c)) line c its.epochs;
      tells = telling_on by start cs cs c (go_on_with (λ v o. bytes_step v bytes (pointers_for w.shard w.operation.op c) o) line c)
          (tells_told steps by cs c its.limits its.lawful.folded line w at (its.commands line w at) (its.orderly.pending line w at).judges bytes true_bytes) its.tells;
    }
      where
        like : Likewise c (go_on_with (λ v o. bytes_step v bytes (pointers_for w.shard w.operation.op c) o) line c)
        like = from_quiet c (go_on_with (λ v o. bytes_step v bytes (pointers_for w.shard w.operation.op c) o) line c) (going_quiet (λ v o. bytes_step v bytes (pointers_for w.shard w.operation.op c) o) line c)

        -- the plain store after the journal is that of the core
        true_bytes : AreOfBlock (store_with cs c.sessions) c bytes w w.operation.op
        true_bytes = subst (λ (s : Store). AreOfBlock s c bytes w w.operation.op) its.tells.left may

    -- ---- what is proposed and sent by no operation

    mute_proposal : (shard : ℕ) (entry : Entry) → TellsOn by cs cs c (propose_entry shard entry c)
    mute_proposal shard entry =
        silent_on by cs cs c (propose_entry shard entry c) (ap (λ (b : Books). b.journal) (proposed_books shard entry c)) (ap (λ (b : Books). b.refused) (proposed_books shard entry c))
        (ap (λ (x : Words). x.entries) (proposed_words shard entry c)) (ap (λ (x : Words). store_with cs x.sessions) (proposed_words shard entry c))

    pub standing_due : (shard : ℕ) → shard < (shape_of c).shards → is_enter_due shard c ≡ true → IsStanding by start (propose_entry shard (kind.Enter 0 ((catalogue_of shard c).epoch + 1)) c) cs
    standing_due shard low due = record {
      limits = like.limits ∙ its.limits;
      orderly = orderly_due by.name c its.orderly shard;
      lawful = lawful_on by.name c (propose_entry shard (kind.Enter 0 ((catalogue_of shard c).epoch + 1)) c) cs like its.lawful;
      sent = sent_due by.name its.lawful.lawful.history c its.sent shard ((catalogue_of shard c).epoch + 1);
      resting = rests_due by.name cs c grounded shard low due;
      stored = stored_due cs c its.stored shard;
      addressed = held_due c its.addressed shard;
      written = written_due cs c its.written shard;
      commands = commands_same by c (propose_entry shard (kind.Enter 0 ((catalogue_of shard c).epoch + 1)) c)
          (ap (λ (x : Words). x.operations) (proposed_words shard (kind.Enter 0 ((catalogue_of shard c).epoch + 1)) c)) (ap (λ (x : Words). x.sessions) (proposed_words shard (kind.Enter 0 ((catalogue_of shard c).epoch + 1)) c)) its.commands;
      epochs = epochs_propose shard (kind.Enter 0 ((catalogue_of shard c).epoch + 1)) c (own_within c.limits ((catalogue_of shard c).epoch + 1)) its.epochs;
      tells = telling_on by start cs cs c (propose_entry shard (kind.Enter 0 ((catalogue_of shard c).epoch + 1)) c) (mute_proposal shard (kind.Enter 0 ((catalogue_of shard c).epoch + 1))) its.tells;
    }
      where
        like : Likewise c (propose_entry shard (kind.Enter 0 ((catalogue_of shard c).epoch + 1)) c)
        like = from_quiet c (propose_entry shard (kind.Enter 0 ((catalogue_of shard c).epoch + 1)) c) (proposed_quiet shard (kind.Enter 0 ((catalogue_of shard c).epoch + 1)) c)

    pub standing_again : (back shard : ℕ) → IsStanding by start (send_round back shard c) cs
    standing_again back shard = record {
      limits = same.like.limits ∙ its.limits;
      orderly = orderly_again by.name c its.orderly back shard;
      lawful = lawful_on by.name c (send_round back shard c) cs same.like its.lawful;
      sent = sent_again by.name cs c its.lawful its.sent back shard;
      resting = rests_again cs c its.resting back shard;
      stored = stored_again cs c its.stored back shard;
      addressed = held_again c its.addressed back shard;
      written = written_again cs c its.written back shard;
      commands = commands_same by c (send_round back shard c) (again_alike back shard c).operations (again_alike back shard c).sessions its.commands;
      epochs = epochs_same c (send_round back shard c) (again_alike back shard c).limits (again_alike back shard c).waiting its.epochs;
      tells = subst (λ (seats : Seats). Tells by start (told_so_far (send_round back shard c)) (store_with cs seats)) (sym (again_alike back shard c).sessions)
          (subst (λ (entries : List JournalEntry). Tells by start entries (store_with cs c.sessions)) (sym same.told) its.tells);
    }
      where
        same : IsAgain c (send_round back shard c)
        same = is_again back shard c

  -- a new Round is proposed as a Got
  module _ (c : Core) (cs : List Folded) (its : IsStanding by start c cs) (number from to epoch round total : ℕ) (deltas : List Delta) (low : to < (shape_of c).shards)
      (at : message_at number c.pool ≡ Some (message.Round from to epoch round total deltas)) (new : is_new_round to from epoch round (change_pool (without number) c) ≡ true) where
    abbrev left : Core
    left = change_pool (without number) c

    abbrev got : Entry
    got = kind.Got from epoch round total deltas

    abbrev proposed : Core
    proposed = propose_entry to (kind.Got from epoch round total deltas) (change_pool (without number) c)

    like : Likewise c (propose_entry to (kind.Got from epoch round total deltas) (change_pool (without number) c))
    like =
        let q : Likewise left proposed = from_quiet left proposed (proposed_quiet to got left) in
        record { limits = q.limits; shape = q.shape; catalogues = q.catalogues }

    abbrev lawful_there : IsLawful by.name (propose_entry to (kind.Got from epoch round total deltas) (change_pool (without number) c)) cs
    lawful_there = lawful_on by.name c (propose_entry to (kind.Got from epoch round total deltas) (change_pool (without number) c)) cs like its.lawful

    sent_there : AreSent (setting_of by.name (propose_entry to (kind.Got from epoch round total deltas) (change_pool (without number) c))) its.lawful.lawful.history (propose_entry to (kind.Got from epoch round total deltas) (change_pool (without number) c))
    sent_there = sent_round by.name cs c its.lawful its.sent number from to epoch round total deltas at new

    gots : GotsWait (propose_entry to (kind.Got from epoch round total deltas) (change_pool (without number) c)) cs
    gots shard place f e r t ds there = got_waits by.name cs proposed lawful_there sent_there shard place f e r t ds there

    tells_got_on : TellsOn by cs cs c (propose_entry to (kind.Got from epoch round total deltas) (change_pool (without number) c))
    tells_got_on =
        silent_on by cs cs c proposed (ap (λ (b : Books). b.journal) (proposed_books to got left)) (ap (λ (b : Books). b.refused) (proposed_books to got left))
        (ap (λ (x : Words). x.entries) (proposed_words to got left)) (ap (λ (x : Words). store_with cs x.sessions) (proposed_words to got left))

    pub standing_round : IsStanding by start (propose_entry to (kind.Got from epoch round total deltas) (change_pool (without number) c)) cs
    standing_round = record {
      limits = like.limits ∙ its.limits;
      orderly = orderly_round by.name c its.orderly number from to epoch round total deltas;
      lawful = lawful_there;
      sent = sent_there;
      resting = rests_round by.name cs c (grounded c cs its) number from to epoch round total deltas low gots;
      stored = stored_round cs c its.stored number from to epoch round total deltas;
      addressed = held_round c its.addressed to got (without number);
      written = written_round cs c its.written from to epoch round total deltas (without number);
      commands = commands_same by c proposed (ap (λ (x : Words). x.operations) (proposed_words to got left)) (ap (λ (x : Words). x.sessions) (proposed_words to got left)) its.commands;
      epochs = epochs_propose to got left (got_within c.limits from epoch round total deltas) its.epochs;
      tells = telling_on by start cs cs c proposed tells_got_on its.tells;
    }

  -- an entry takes effect
  module _ (c : Core) (cs : List Folded) (its : IsStanding by start c cs) (shard number : ℕ) (entry : Entry) (low : shard < (shape_of c).shards) (leads : committed (group_of shard c) ≡ Some (number, entry))
      (few : (g : ℕ) → length (catalogue_of g (taken shard entry c)).roots ≤ most_records) where
    abbrev behind : List Folded
    behind = folds_behind by.name cs shard entry c

    abbrev after : Core
    after = told_at_once shard entry c

    may : MayFollow (setting_of by.name c) cs (next_deed shard entry c)
    may = standing_follows c cs its shard number entry low leads few

    called : IsNamed by.name entry c
    called = committed_named by.name c shard number entry its.orderly leads

    ready : Ready by c cs
    ready = record { limits = its.limits; orderly = its.orderly; lawful = its.lawful; holds = hold_addresses c.sessions its.addressed.sessions; commands = its.commands; epochs = its.epochs }

    -- a Mark that gives its block is of the write's
    writes : WritesIt cs c shard entry
    writes line least block a is did =
        is_written by.name cs c its.lawful.folded its.orderly its.written shard number line least block a low (leads ∙ ap (λ (e : Entry). Some (number, e)) is) did

    abbrev lawful_then : IsLawful by.name (told_at_once shard entry c) (folds_behind by.name cs shard entry c)
    lawful_then = lawful_behind by.name cs c shard entry its.lawful called may

    sent_then : AreSent (setting_of by.name (told_at_once shard entry c)) (its.lawful.lawful.history ++ next_deed shard entry c ∷ []) (told_at_once shard entry c)
    sent_then = sent_effect by.name cs c its.lawful its.sent its.orderly shard number entry low leads

    gots_then : GotsWait (told_at_once shard entry c) (folds_behind by.name cs shard entry c)
    gots_then g place f e r t ds there = got_waits by.name behind after lawful_then sent_then g place f e r t ds there

    pub standing_effect : IsStanding by start (told_at_once shard entry c) (folds_behind by.name cs shard entry c)
    standing_effect = record {
      limits = told_limits shard entry c ∙ its.limits;
      orderly = orderly_effect by.name c its.orderly shard number entry leads;
      lawful = lawful_then;
      sent = sent_then;
      resting = rests_effect by.name cs c (grounded c cs its) shard number entry low leads few gots_then;
      stored = stored_effect by.name cs c its.lawful its.stored shard number entry low leads;
      addressed = held_effect by.name names c its.orderly its.addressed shard number entry leads;
      written = written_effect by.name cs c its.lawful.folded its.orderly its.written shard number entry low leads (λ place e at. (its.resting shard place e at).names);
      commands = commands_effect by shard entry c its.orderly its.commands;
      epochs = epochs_effect shard entry c its.epochs;
      tells = telling_on by start cs behind c after (tells_effect views steps laws by cs c shard number ready entry leads may writes) its.tells;
    }

  -- ---- so every event keeps it

  pub walks_standing : Walks (λ line o c. IsLineOf by c line o) (TellsItsBlock by start) (IsNobodys by) (λ c. (cs : List Folded) × IsStanding by start c cs)
  walks_standing = record {
    once = λ c s. s.1.orderly.once;
    line_beside = λ line o a b beside may. line_beside by start line o a b beside may;
    tell_beside = λ number bytes w a b beside may. tell_beside by start number bytes w a b beside may;
    beside = λ a b beside s. (s.0, standing_beside a s.0 s.1 b beside);
    downed = λ peer line c s. (s.0, standing_downed c s.0 s.1 peer line);
    refused = λ line refusal c nobody s. (s.0, standing_refused c s.0 s.1 line refusal nobody);
    line = λ line o c may s. (s.0, standing_line c s.0 s.1 line o may);
    goes = λ line c idle s. (s.0, standing_goes c s.0 s.1 line idle);
    told = λ line number bytes w c at waits may s. (s.0, standing_told c s.0 s.1 line number bytes w at waits may);
    effect = λ shard number entry c low leads few s. (folds_behind by.name s.0 shard entry c, standing_effect c s.0 s.1 shard number entry low leads few);
    due = λ shard c low due s. (s.0, standing_due c s.0 s.1 shard low due);
    round = λ number from to epoch round total deltas c low at new s. (s.0, standing_round c s.0 s.1 number from to epoch round total deltas low at new);
    again = λ back shard c s. (s.0, standing_again c s.0 s.1 back shard);
  }
