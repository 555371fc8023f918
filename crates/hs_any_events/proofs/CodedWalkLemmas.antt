-- A core beside a steady one whose writes have payloads that tell their addresses: each single change leaves such a core, whatever addresses writes bring.
use Rattle.std.proofs.Common.{◌≡◌, ◌∙◌, sym, ap, subst, ℕ, ◌+◌, ◌<◌, ◌≤◌, true, List, [], ◌∷◌, length, map, Option, Some, None, refl}
use Rattle.std.specs.BTreeMap.{is_at}
use Rattle.std.specs.Map.{lookup}
use Rattle.std.specs.Option.{IsSomeAnd, option_map}
use Rattle.std.specs.Ordering.{nat_cmp}
use Rattle.hs_any_events.proofs.BytesLemmas.{ReadsAnyBytes}
use Rattle.hs_any_events.proofs.CodedBesideLemmas.{moved, moved_beside, moved_coded}
use Rattle.hs_any_events.proofs.CodedChangeLemmas.{again_coded, bytes_coded, due_alike, due_coded, effect_coded, goes_coded, line_coded, new_alike, round_coded, taken_coded}
use Rattle.hs_any_events.proofs.CodedCoreLemmas.{IsCoded, coded_waiting, group_alike, operation_is, same_catalogue, same_sessions}
use Rattle.hs_any_events.proofs.CodedEntryLemmas.{outline}
use Rattle.hs_any_events.proofs.CodedGroupLemmas.{IsCommitted, committed_alike}
use Rattle.hs_any_events.proofs.CodedLemmas.{Code, coded_name, coded_named, coded_op, short_coded}
use Rattle.hs_any_events.proofs.CodedOpLemmas.{coded_bytes}
use Rattle.hs_any_events.proofs.CodedPoolLemmas.{round_at}
use Rattle.hs_any_events.proofs.CodedStepLemmas.{told_coded}
use Rattle.hs_any_events.proofs.CodedViewLemmas.{begin_coded}
use Rattle.hs_any_events.proofs.SteadyLemmas.{IsFreshLine, IsSteady, views_steady, walks_steady}
use Rattle.hs_awaiting.specs.declared.wait.Wait.TheVariants as wait
use Rattle.hs_awaiting.specs.declared.waiting.Waiting.{Waiting}
use Rattle.hs_core_words.specs.Asking.{send_round}
use Rattle.hs_core_words.specs.Changing.{change_pool, note, refuse}
use Rattle.hs_core_words.specs.Delivering.{is_new_round}
use Rattle.hs_core_words.specs.Looking.{catalogue_of, group_of, operation_of, shape_of}
use Rattle.hs_core_words.specs.Operating.{begin_line, go_on_with, propose_entry, resume}
use Rattle.hs_core_words.specs.Seeing.{pointers_for}
use Rattle.hs_core_words.specs.State.{Core}
use Rattle.hs_core_words.specs.Views.{begin_view}
use Rattle.hs_effects.proofs.FreeLemmas.{are_addressed, is_bounded}
use Rattle.hs_effects.proofs.LookLemmas.{found_map}
use Rattle.hs_effects.proofs.SweepLemmas.{ByViews}
use Rattle.hs_effects.specs.Answered.{HoldAddresses}
use Rattle.hs_effects.specs.Logged.{AreOnce, HasBlock, IsCalled}
use Rattle.hs_effects.specs.Taking.{taken}
use Rattle.hs_entry.specs.declared.entry.Entry.{Entry}
use Rattle.hs_entry.specs.declared.entry.Entry.TheVariants as kind
use Rattle.hs_fold.specs.Runs.Facts.{Catalogue as Folded}
use Rattle.hs_fold.specs.Shards.Sound.{most_records}
use Rattle.hs_journal.specs.declared.entry.Who.TheVariants as who
use Rattle.hs_limits.specs.declared.address.Address.{Address}
use Rattle.hs_limits.specs.declared.delta.Delta.{Delta}
use Rattle.hs_limits.specs.declared.limits.Limits.{Limits}
use Rattle.hs_model.proofs.Members.{Member}
use Rattle.hs_model.specs.declared.deed.Deed.TheVariants as deed
use Rattle.hs_model.specs.declared.op.Op.{Op}
use Rattle.hs_model.specs.declared.op.Op.TheVariants as op
use Rattle.hs_model.specs.declared.reply.Reply.TheVariants as reply
use Rattle.hs_ops.specs.Operations.{bytes_step}
use Rattle.hs_ops.specs.Speaking.{asked_block, asked_pointers}
use Rattle.hs_post.specs.declared.message.Message.TheVariants as message
use Rattle.hs_post.specs.Pool.{message_at, without}
use Rattle.hs_replica.specs.Group.{committed}
use Rattle.hs_shard.specs.Facts.{Catalogue}
use Rattle.hs_limits.specs.declared.shape.Shape.{Shape}
use Rattle.hs_standing.proofs.HandleLemmas.{hold_addresses}
use Rattle.hs_standing.proofs.Laws.{Entries, Steps}
use Rattle.hs_standing.specs.Changes.{IsIdle, told_at_once}
use Rattle.hs_standing.specs.Held.{GivesAddresses}
use Rattle.hs_standing.specs.Walks.{Walks, WalksViews}
use Rattle.hs_tokens.specs.Seats.{Seats}

-- ---- what is asked of a line

-- a write, where it has a block, brings an address of the table
abbrev pub IsTabled : Code → Seats → Op → Type 0
IsTabled code seats (op.Write session payload handles address) = HasBlock seats session payload handles → IsSomeAnd address (λ a. Member a code.table)
IsTabled code seats other = Unit {0}

-- so does a client's line, which is new and not above the last one
pub record IsTabledLine (code : Code) (last line : ℕ) (o : Op) (core : Core) : Type 0 where
  pub new : operation_of line core ≡ None
  pub counted : 1 ≤ line
  pub until : line ≤ last
  pub tabled : IsTabled code core.sessions o

-- its address is the name of the block that it writes then
called_coded : (code : Code) (seats : Seats) → HoldAddresses seats → (o : Op) → IsTabled code seats o → IsCalled (coded_name code) seats (coded_op code o)
unfolding asked_block
called_coded code seats holds (op.Write session payload handles (Some a)) tabled = λ has.
    let was : HasBlock seats session payload handles = record { held = has.held; few = has.few; short = short_coded code a payload has.short } in
    ap (λ (x : Address). Some x)
    (sym (coded_named code a (asked_pointers seats session handles) payload (tabled was) (is_bounded seats session payload handles was).pointers (are_addressed seats session payload holds handles) was.short))
called_coded code seats holds (op.Write session payload handles None) tabled = λ has. absurd (tabled has)
called_coded code seats holds other tabled = tt

-- ---- what is known of a core

pub record IsCodedSteady (code : Code) (limits : Limits) (last : ℕ) (core : Core) : Type 0 where
  pub coded : Core
  pub beside : IsCoded code core coded
  pub steady : (cs : List Folded) × IsSteady (coded_name code) limits last coded cs

none_from : (f : Waiting → Waiting) (x : Option Waiting) → option_map f x ≡ None → x ≡ None
none_from f None e = refl
none_from f (Some w) e = absurd (cc e)

-- no line has two operations
once_from : (f : Waiting → Waiting) (es : List (ℕ × Waiting)) → AreOnce (map (λ (e : ℕ × Waiting). (e.0, f e.1)) es) → AreOnce es
once_from f [] once = tt
once_from f (e ∷ es) once = (none_from f (lookup (is_at (nat_cmp e.0)) es) (sym (found_map f (is_at (nat_cmp e.0)) es) ∙ once.0), once_from f es once.1)

module _ (code : Code) (limits : Limits) (last : ℕ) (c : Core) (s : IsCodedSteady code limits last c) where
  pub coded_once : AreOnce c.operations
  coded_once = once_from (coded_waiting code) c.operations (subst (λ (es : List (ℕ × Waiting)). AreOnce es) s.beside.operations s.steady.1.orderly.once)

  -- a line has no operation where it has none there
  pub coded_new : (line : ℕ) → operation_of line s.coded ≡ None → operation_of line c ≡ None
  coded_new line none = none_from (coded_waiting code) (operation_of line c) (sym (operation_is code c s.coded s.beside line) ∙ none)

  coded_holds : HoldAddresses s.coded.sessions
  coded_holds = hold_addresses s.coded.sessions s.steady.1.addressed.sessions

  holds : HoldAddresses c.sessions
  holds = subst (λ (seats : Seats). HoldAddresses seats) (same_sessions code c s.coded s.beside) coded_holds

  pub low_there : (shard : ℕ) → shard < (shape_of c).shards → shard < (shape_of s.coded).shards
  low_there shard low = subst (λ (x : Core). shard < (shape_of x).shards) (sym s.beside.same) low

  -- no more root records than a shard takes
  pub few_there : (shard : ℕ) (entry other : Entry) → outline other ≡ outline entry → ((g : ℕ) → length (catalogue_of g (taken shard entry c)).roots ≤ most_records)
      → (g : ℕ) → length (catalogue_of g (taken shard other s.coded)).roots ≤ most_records
  few_there shard entry other alike few g =
      subst (λ (x : Catalogue). length x.roots ≤ most_records) (sym (same_catalogue code (taken shard entry c) (taken shard other s.coded) (taken_coded code c s.coded s.beside shard entry other alike) g)) (few g)

  fresh : (line : ℕ) (o : Op) → IsTabledLine code last line o c → IsFreshLine (coded_name code) last line (coded_op code o) s.coded
  fresh line o may = record {
    new = operation_is code c s.coded s.beside line ∙ ap (λ (x : Option Waiting). option_map (coded_waiting code) x) may.new;
    counted = may.counted;
    until = may.until;
    called = called_coded code s.coded.sessions coded_holds o (subst (λ (seats : Seats). IsTabled code seats o) (sym (same_sessions code c s.coded s.beside)) may.tabled);
  }

  idle_there : (line : ℕ) → ((w : Waiting) → operation_of line c ≡ Some w → IsIdle w.wait) → (w : Waiting) → operation_of line s.coded ≡ Some w → IsIdle w.wait
  idle_there line idle w at = by (operation_of line c) refl (sym (operation_is code c s.coded s.beside line) ∙ at)
    where
      by : (x : Option Waiting) → operation_of line c ≡ x → option_map (coded_waiting code) x ≡ Some w → IsIdle w.wait
      by None there e = absurd (cc e)
      by (Some u) there e = let is : coded_waiting code u ≡ w = cc e in subst (λ (x : Waiting). IsIdle x.wait) is (idle u there)

module _ (views : ByViews) (steps : Steps) (reads : ReadsAnyBytes) (laws : Entries) (code : Code) (names : GivesAddresses (coded_name code)) (limits : Limits) (last : ℕ) where
  walks : Walks (λ line o c. IsFreshLine (coded_name code) last line o c) (λ number bytes w c. Unit {0}) (λ line. Unit {0}) (λ c. (cs : List Folded) × IsSteady (coded_name code) limits last c cs)
  walks = walks_steady views steps reads laws (coded_name code) names limits last

  -- an entry takes effect
  effect_there : (shard number : ℕ) (entry : Entry) (c : Core) (s : IsCodedSteady code limits last c) → shard < (shape_of c).shards → committed (group_of shard c) ≡ Some (number, entry)
      → ((g : ℕ) → length (catalogue_of g (taken shard entry c)).roots ≤ most_records) → IsCodedSteady code limits last (told_at_once shard entry c)
  effect_there shard number entry c s low leads few = record {
    coded = told_at_once shard its.other s.coded;
    beside = effect_coded code c s.coded s.beside (holds code limits last c s) shard entry its.other its.alike;
    steady = walks.effect shard number its.other s.coded (low_there code limits last c s shard low) its.leads (few_there code limits last c s shard entry its.other its.alike few) s.steady;
  }
    where
      its : IsCommitted (group_of shard c) (group_of shard s.coded) (group_alike code c s.coded s.beside shard) number entry
      its = committed_alike (group_of shard c) (group_of shard s.coded) (group_alike code c s.coded s.beside shard) number entry leads

  -- one that waits for bytes is told them
  told_there : (line number : ℕ) (bytes : Option (List ℕ)) (w : Waiting) (c : Core) → operation_of line c ≡ Some w → w.wait ≡ wait.Bytes number → IsCodedSteady code limits last c
      → IsCodedSteady code limits last (go_on_with (λ v o. bytes_step v bytes (pointers_for w.shard w.operation.op c) o) line c)
  told_there line number bytes w c at waits s = record {
    coded = go_on_with (λ v o. bytes_step v other (pointers_for w.shard (coded_op code w.operation.op) s.coded) o) line s.coded;
    beside = bytes_coded code c s.coded s.beside (holds code limits last c s) line bytes w at;
    steady = walks.told line number other (coded_waiting code w) s.coded at_there waits tt s.steady;
  }
    where
      other : Option (List ℕ)
      other = coded_bytes code c.sessions w.operation.op bytes

      at_there : operation_of line s.coded ≡ Some (coded_waiting code w)
      at_there = operation_is code c s.coded s.beside line ∙ ap (λ (x : Option Waiting). option_map (coded_waiting code) x) at

  -- a new Round is proposed as a Got
  round_there : (number from to epoch round total : ℕ) (deltas : List Delta) (c : Core) → to < (shape_of c).shards → message_at number c.pool ≡ Some (message.Round from to epoch round total deltas)
      → is_new_round to from epoch round (change_pool (without number) c) ≡ true → IsCodedSteady code limits last c → IsCodedSteady code limits last (propose_entry to (kind.Got from epoch round total deltas) (change_pool (without number) c))
  round_there number from to epoch round total deltas c low at new s = record {
    coded = propose_entry to (kind.Got from epoch round total deltas) (change_pool (without number) s.coded);
    beside = round_coded code c s.coded s.beside number to (kind.Got from epoch round total deltas);
    steady = walks.round number from to epoch round total deltas s.coded (low_there code limits last c s to low)
        (round_at c.pool s.coded.pool s.beside.pool number (message.Round from to epoch round total deltas) refl at)
        (new_alike code c s.coded s.beside number to from epoch round ∙ new) s.steady;
  }

  pub views_coded : (shape : Shape) → WalksViews shape (λ c. IsCodedSteady code limits last c)
  views_coded shape = λ shard c same low more s. record {
    coded = begin_view shard s.coded;
    beside = begin_coded code c s.coded shard s.beside;
    steady = views_steady views steps reads laws (coded_name code) names limits last shard s.coded (low_there code limits last c s shard low) s.steady;
  }

  pub walks_coded : Walks (λ line o c. IsTabledLine code last line o c) (λ number bytes w c. Unit {0}) (λ line. Unit {0}) (λ c. IsCodedSteady code limits last c)
  walks_coded = record {
    once = λ c s. coded_once code limits last c s;
    line_beside = λ line o a b beside may. record {
      new = ap (λ (es : List (ℕ × Waiting)). lookup (is_at (nat_cmp line)) es) beside.operations ∙ may.new;
      counted = may.counted;
      until = may.until;
      tabled = subst (λ (seats : Seats). IsTabled code seats o) (sym beside.sessions) may.tabled;
    };
    tell_beside = λ number bytes w a b beside may. tt;
    beside = λ a b beside s. record {
      coded = moved code a b beside s.coded s.beside;
      beside = moved_coded code a b beside s.coded s.beside;
      steady = walks.beside s.coded (moved code a b beside s.coded s.beside) (moved_beside code a b beside s.coded s.beside) s.steady;
    };
    downed = λ peer line c s. record {
      coded = note who.Store deed.Nothing (reply.Down peer line) s.coded;
      beside = told_coded code c s.coded (note who.Store deed.Nothing (reply.Down peer line) c).entries (note who.Store deed.Nothing (reply.Down peer line) s.coded).entries s.beside;
      steady = walks.downed peer line s.coded s.steady;
    };
    refused = λ line refusal c any s. record {
      coded = refuse line refusal s.coded;
      beside = told_coded code c s.coded (refuse line refusal c).entries (refuse line refusal s.coded).entries s.beside;
      steady = walks.refused line refusal s.coded any s.steady;
    };
    line = λ line o c may s. record {
      coded = begin_line line (coded_op code o) s.coded;
      beside = line_coded code c s.coded s.beside (holds code limits last c s) line o;
      steady = walks.line line (coded_op code o) s.coded (fresh code limits last c s line o may) s.steady;
    };
    goes = λ line c idle s. record {
      coded = resume line s.coded;
      beside = goes_coded code c s.coded s.beside (holds code limits last c s) line;
      steady = walks.goes line s.coded (idle_there code limits last c s line idle) s.steady;
    };
    told = λ line number bytes w c at waits any s. told_there line number bytes w c at waits s;
    effect = λ shard number entry c low leads few s. effect_there shard number entry c s low leads few;
    due = λ shard c low due s. record {
      coded = propose_entry shard (kind.Enter 0 ((catalogue_of shard s.coded).epoch + 1)) s.coded;
      beside = due_coded code c s.coded s.beside shard;
      steady = walks.due shard s.coded (low_there code limits last c s shard low) (due_alike code c s.coded s.beside shard ∙ due) s.steady;
    };
    round = λ number from to epoch round total deltas c low at new s. round_there number from to epoch round total deltas c low at new s;
    again = λ back shard c s. record {
      coded = send_round back shard s.coded;
      beside = again_coded code c s.coded s.beside back shard;
      steady = walks.again back shard s.coded s.steady;
    };
  }
