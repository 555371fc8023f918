-- Every event that is of its line keeps a core noted.
use Rattle.std.proofs.Common.{◌≡◌, ◌∙◌, sym, ap, subst, ◌⊎◌, inl, inr, ℕ, ◌+◌, ◌*◌, ◌<◌, ◌≤◌, ◌==◌, Bool, true, false, cond, List, [], ◌∷◌, length, Option, Some, None, IsSome, refl, arith, is_none, nat_le, nat_lt}
use Rattle.std.proofs.lemmas.Bool.{eqb-true, leb-false, leb-true}
use Rattle.std.specs.List.{AllByRecursion}
use Rattle.hs_model.specs.declared.op.Op.{Op}
use Rattle.hs_anatomy.specs.Strokes.{added, new_waiting}
use Rattle.hs_awaiting.specs.declared.waiting.Waiting.{Waiting}
use Rattle.hs_awaiting.specs.Words.{change_if}
use Rattle.hs_core_words.specs.Asking.{no_peer, unless_refused, with_message}
use Rattle.hs_core_words.specs.Changing.{change_pool, refuse}
use Rattle.hs_core_words.specs.declared.event.Event.{Event}
use Rattle.hs_core_words.specs.declared.event.Event.TheVariants as event
use Rattle.hs_core_words.specs.Looking.{operation_of, shape_of}
use Rattle.hs_core_words.specs.State.{Core}
use Rattle.hs_core_words.specs.Step.{begin_event, do_event, end_event, keep_entries, line_of, refuse_entries, run_event, step}
use Rattle.hs_desk.specs.declared.fault.CoreFault.{CoreFault}
use Rattle.hs_desk.specs.declared.fault.CoreFault.TheVariants as fault
use Rattle.hs_journal.specs.declared.entry.JournalEntry.{JournalEntry}
use Rattle.hs_journal.specs.declared.entry.Who.TheVariants as who
use Rattle.hs_journal.specs.Events.{client_op}
use Rattle.hs_journal.specs.Telling.{IsPeerRefusal, IsRefusalOf, MayTell}
use Rattle.hs_limits.specs.declared.limits.Limits.{Limits}
use Rattle.hs_limits.specs.declared.shape.Shape.{Shape}
use Rattle.hs_model.specs.declared.command.Command.{Command}
use Rattle.hs_model.specs.declared.command.Command.TheVariants as command
use Rattle.hs_model.specs.declared.deed.Deed.TheVariants as deed
use Rattle.hs_model.specs.declared.reply.Reply.{Reply}
use Rattle.hs_model.specs.declared.reply.Reply.TheVariants as reply
use Rattle.hs_model.specs.Refusals.{first, refused_when}
use Rattle.hs_settled.proofs.NotingLemmas.{During, all_append, all_later, during_tells, on_aside, on_begin, on_down, on_note}
use Rattle.hs_settled.proofs.NotedWalkLemmas.{tells_event}
use Rattle.hs_settled.specs.Noted.{AllAreOwn, IsNoted, IsOfPeer, IsOwnEvent, StandsFor, command_in}
use Rattle.hs_post.specs.declared.message.Message.{Message}
use Rattle.hs_post.specs.Pool.{is_full, message_at, restart_numbers}
use Rattle.hs_told.proofs.OrderLemmas.{same_refusal}
use Rattle.hs_told.specs.InTurn.{after_all, message_refusal, refusal_in, repeat_refusal}

reply_is : (q r : Reply) → Some q ≡ Some r → q ≡ r
reply_is q r e = cc e

command_is : (a b : Command) → Some a ≡ Some b → a ≡ b
command_is a b e = cc e

-- ---- what an event is refused by

module _ (commands : ℕ → Option Command) (shape : Shape) (limits : Limits) (last : ℕ) (c : Core) (p : During commands shape limits last c) where
  -- there is no such peer, or it is not as its line wants it
  peer_refusal : (peer : ℕ) (unfit r : Reply) (b : Bool) → first (no_peer peer c ∷ refused_when b unfit ∷ []) ≡ Some r → IsPeerRefusal shape peer unfit r
  peer_refusal peer unfit r b e = go (nat_le (length c.members.statuses) peer) refl b e
    where
      go : (a : Bool) → nat_le (length c.members.statuses) peer ≡ a → (b : Bool) → first (refused_when a (reply.NoPeer peer) ∷ refused_when b unfit ∷ []) ≡ Some r → IsPeerRefusal shape peer unfit r
      go true t b f = inl (subst (λ n. n ≤ peer) p.peers (leb-true (length c.members.statuses) peer t), sym (reply_is (reply.NoPeer peer) r f))
      go false t true f = inr (subst (λ n. peer < n) p.peers (leb-false (length c.members.statuses) peer t), sym (reply_is unfit r f))
      go false t false f = absurd (cc f)

  no_message : (number : ℕ) (m : Option Message) (r : Reply) → message_refusal number m ≡ Some r → r ≡ reply.NoMessage number
  no_message number None r e = sym (reply_is (reply.NoMessage number) r e)
  no_message number (Some m) r e = absurd (cc e)

  no_room : (number : ℕ) (m : Option Message) (r : Reply) → repeat_refusal number c m ≡ Some r → (r ≡ reply.NoMessage number) ⊎ (r ≡ reply.PoolFull limits.pool)
  no_room number None r e = inl (sym (reply_is (reply.NoMessage number) r e))
  no_room number (Some m) r e = go (is_full c.pool) e
    where
      go : (b : Bool) → cond b (Some (reply.PoolFull c.pool.limit)) None ≡ Some r → (r ≡ reply.NoMessage number) ⊎ (r ≡ reply.PoolFull limits.pool)
      go true f = inr (sym (reply_is (reply.PoolFull c.pool.limit) r f) ∙ ap (λ n. reply.PoolFull n) p.pool)
      go false f = absurd (cc f)

  fits : (e : Event) (r : Reply) (k : Command) → refusal_in e c ≡ Some r → command_in e ≡ Some k → IsRefusalOf shape limits k r
  fits (event.Line line o) r k s is = absurd (cc s)
  fits (event.Report peer d) r k s is = absurd (cc s)
  fits (event.Turn line peer) r k s is = subst (λ x. IsRefusalOf shape limits x r) (command_is (command.Turn peer) k is) (peer_refusal peer (reply.NotUp peer) r _ s)
  fits (event.Deliver line number) r k s is = subst (λ x. IsRefusalOf shape limits x r) (command_is (command.Deliver number) k is) (no_message number (message_at number c.pool) r s)
  fits (event.Lose line number) r k s is = subst (λ x. IsRefusalOf shape limits x r) (command_is (command.Lose number) k is) (no_message number (message_at number c.pool) r s)
  fits (event.Repeat line number) r k s is = subst (λ x. IsRefusalOf shape limits x r) (command_is (command.Repeat number) k is) (no_room number (message_at number c.pool) r s)
  fits (event.Nudge line peer) r k s is = subst (λ x. IsRefusalOf shape limits x r) (command_is (command.Nudge peer) k is) (peer_refusal peer (reply.NotUp peer) r _ s)
  fits (event.Fail line peer) r k s is = subst (λ x. IsRefusalOf shape limits x r) (command_is (command.Fail peer) k is) (peer_refusal peer (reply.NotUp peer) r _ s)
  fits (event.Start line peer) r k s is = subst (λ x. IsRefusalOf shape limits x r) (command_is (command.Start peer) k is) (peer_refusal peer (reply.NotDown peer) r _ s)

  -- so a refusal is of its line
  refusing : (e : Event) → line_of e ≤ last → (refusal_in e c ≡ None) ⊎ (commands (line_of e) ≡ command_in e) → (r : Reply) → refusal_in e c ≡ Some r → During commands shape limits last (refuse (line_of e) r c)
  refusing e low (inl free) r s = absurd (none r (sym free ∙ s))
    where
      none : (q : Reply) → None ≡ Some q → ⊥
      none q f = cc f
  refusing e low (inr own) r s =
      on_note commands shape limits last (record { who = who.Line (line_of e); moment = c.moment; deed = deed.Nothing; reply = r }) c (low, by_command (command_in e) refl) p
    where
      told : JournalEntry
      told = record { who = who.Line (line_of e); moment = c.moment; deed = deed.Nothing; reply = r }

      unknown : (e : Event) → command_in e ≡ None → refusal_in e c ≡ Some r → ⊥
      unknown (event.Line line o) n f = cc f
      unknown (event.Report peer d) n f = cc f
      unknown (event.Turn line peer) n f = cc n
      unknown (event.Deliver line number) n f = cc n
      unknown (event.Lose line number) n f = cc n
      unknown (event.Repeat line number) n f = cc n
      unknown (event.Nudge line peer) n f = cc n
      unknown (event.Fail line peer) n f = cc n
      unknown (event.Start line peer) n f = cc n

      by_command : (o : Option Command) → command_in e ≡ o → MayTell shape limits (commands (line_of e)) (record { who = who.Line (line_of e); moment = c.moment; deed = deed.Nothing; reply = r })
      by_command None n = absurd (unknown e n s)
      by_command (Some k) n = subst (λ x. MayTell shape limits x told) (sym (own ∙ n)) (inr (refl, fits e r k s n))

-- ---- rows and messages

pub by_rows : (P : Core → Type 0) (line : ℕ) (rows : List (Option Reply)) (f : Core → Core) (c : Core) → ((r : Reply) → first rows ≡ Some r → P (refuse line r c)) → P (f c) → P (unless_refused line rows f c)
by_rows P line rows f c refused does = go (first rows) refl
  where
    go : (o : Option Reply) → first rows ≡ o → P (unless_refused line rows f c)
    go (Some r) e = rw e (refused r e)
    go None e = rw e does

pub by_message : (P : Core → Type 0) (line number : ℕ) (f : Message → Core → Core) (c : Core) → (message_at number c.pool ≡ None → P (refuse line (reply.NoMessage number) c)) → ((m : Message) → message_at number c.pool ≡ Some m → P (f m c)) → P (with_message line number f c)
by_message P line number f c refused does = go (message_at number c.pool) refl
  where
    go : (o : Option Message) → message_at number c.pool ≡ o → P (with_message line number f c)
    go None e = rw e (refused e)
    go (Some m) e = rw e (does m e)

-- ---- an event is done

module _ (commands : ℕ → Option Command) (shape : Shape) (limits : Limits) (last : ℕ) where
  abbrev D : Core → Type 0
  D c = During commands shape limits last c

  -- what is asked of it when it has begun
  abbrev pub MayHere : Event → Core → Type 0
  MayHere (event.Line line o) c = (line ≤ last) × IsSome (client_op (commands line))
  MayHere (event.Report peer d) c = IsOfPeer shape d
  MayHere (event.Turn line peer) c = (line ≤ last) × ((refusal_in (event.Turn line peer) c ≡ None) ⊎ (commands line ≡ Some (command.Turn peer)))
  MayHere (event.Deliver line number) c = (line ≤ last) × ((refusal_in (event.Deliver line number) c ≡ None) ⊎ (commands line ≡ Some (command.Deliver number)))
  MayHere (event.Lose line number) c = (line ≤ last) × ((refusal_in (event.Lose line number) c ≡ None) ⊎ (commands line ≡ Some (command.Lose number)))
  MayHere (event.Repeat line number) c = (line ≤ last) × ((refusal_in (event.Repeat line number) c ≡ None) ⊎ (commands line ≡ Some (command.Repeat number)))
  MayHere (event.Nudge line peer) c = (line ≤ last) × ((refusal_in (event.Nudge line peer) c ≡ None) ⊎ (commands line ≡ Some (command.Nudge peer)))
  MayHere (event.Fail line peer) c = (line ≤ last) × ((refusal_in (event.Fail line peer) c ≡ None) ⊎ (commands line ≡ Some (command.Fail peer)))
  MayHere (event.Start line peer) c = (line ≤ last) × ((refusal_in (event.Start line peer) c ≡ None) ⊎ (commands line ≡ Some (command.Start peer)))

  upto : (n : ℕ) → n ≡ last → n ≤ last
  upto n e = omega (arith, e)

  -- a line that is refused is its own command's
  may_refuse : (e : Event) (c : Core) → MayHere e c → (r : Reply) → refusal_in e c ≡ Some r → (line_of e ≤ last) × ((refusal_in e c ≡ None) ⊎ (commands (line_of e) ≡ command_in e))
  may_refuse (event.Line line o) c may r why = absurd (cc why)
  may_refuse (event.Report peer d) c may r why = absurd (cc why)
  may_refuse (event.Turn line peer) c may r why = may
  may_refuse (event.Deliver line number) c may r why = may
  may_refuse (event.Lose line number) c may r why = may
  may_refuse (event.Repeat line number) c may r why = may
  may_refuse (event.Nudge line peer) c may r why = may
  may_refuse (event.Fail line peer) c may r why = may
  may_refuse (event.Start line peer) c may r why = may

  done_stays : (e : Event) (c : Core) → MayHere e c → D c → D (do_event e c)
  done_stays e c may p = tells_event (during_tells commands shape limits last) e c begins
      (λ r why. let m = may_refuse e c may r why in refusing commands shape limits last c p e m.0 m.1 r why)
      (λ by disk is x q. on_down commands shape limits last disk x.progress.event_line x (subst (λ (y : Event). MayHere y c) is may) (upto x.progress.event_line q.line) q) p
    where
      begins : (line : ℕ) (o : Op) → e ≡ event.Line line o → D (added line o c)
      begins line o is = on_begin commands shape limits last line (new_waiting line o c) (record c { progress = record c.progress { last_line = line } }) (subst (λ (y : Event). MayHere y c) is may)
          (on_aside commands shape limits last c (record c { progress = record c.progress { last_line = line } }) (record { limits = refl; shape = refl; groups = refl; peers = refl; pool = refl; line = refl; operations = refl; journal = refl; refused = refl; entries = refl }) p)

-- ---- an event ends

pub ended : (commands : ℕ → Option Command) (shape : Shape) (limits : Limits) (last : ℕ) (c : Core) → During commands shape limits last c → IsNoted commands (end_event c)
ended commands shape limits last c p = go (nat_lt c.limits.ops (length c.journal + length c.entries))
  where
    own : (es : List JournalEntry) → AllByRecursion (StandsFor commands shape limits last) es → AllByRecursion (StandsFor commands (shape_of c) c.limits c.progress.event_line) es
    own es h =
        subst (λ (z : Shape). AllByRecursion (StandsFor commands z c.limits c.progress.event_line) es) (sym p.shaped)
        (subst (λ (z : Limits). AllByRecursion (StandsFor commands shape z c.progress.event_line) es) (sym p.limited)
        (subst (λ n. AllByRecursion (StandsFor commands shape limits n) es) (sym p.line) h))

    groups : length c.groups ≡ (shape_of c).shards
    groups = p.groups ∙ ap (λ (z : Shape). z.shards) (sym p.shaped)

    peers : length c.members.statuses ≡ (shape_of c).shards * (shape_of c).copies
    peers = p.peers ∙ ap (λ (z : Shape). z.shards * z.copies) (sym p.shaped)

    pool : c.pool.limit ≡ c.limits.pool
    pool = p.pool ∙ ap (λ (z : Limits). z.pool) (sym p.limited)

    asking : (n : ℕ) (w : Waiting) → operation_of n c ≡ Some w → (n ≤ c.progress.event_line) × IsSome (client_op (commands n))
    asking n w at = subst (λ k. (n ≤ k) × IsSome (client_op (commands n))) (sym p.line) (p.asking n w at)

    full : Some fault.OpsFull ≡ None → ⊥
    full e = cc e

    nothing : AllByRecursion (StandsFor commands (shape_of c) c.limits c.progress.event_line) c.refused
    nothing = subst (λ (es : List JournalEntry). AllByRecursion (StandsFor commands (shape_of c) c.limits c.progress.event_line) es) (sym p.refused) tt

    go : (b : Bool) → IsNoted commands (cond b (refuse_entries c) (keep_entries c))
    go true = record { groups = groups; peers = peers; pool = pool; asking = asking; journal = own c.journal p.journal; refused = own c.entries p.entries; quiet = refl; going = λ e. absurd (full e) }
    go false = record {
      groups = groups;
      peers = peers;
      pool = pool;
      asking = asking;
      journal = all_append (StandsFor commands (shape_of c) c.limits c.progress.event_line) c.journal c.entries (own c.journal p.journal) (own c.entries p.entries);
      refused = nothing;
      quiet = refl;
      going = λ e. p.refused;
    }

-- ---- an event begins

-- the line that was the last one then
abbrev pub line_then : ℕ → Core → ℕ
line_then line core = cond (line == 0) core.progress.event_line line

itself : (n : ℕ) → n ≤ n
itself n = omega arith

line_below : (line : ℕ) (core : Core) → line ≤ line_then line core
line_below line core = go (line == 0) refl
  where
    go : (b : Bool) → (line == 0) ≡ b → line ≤ cond b core.progress.event_line line
    go true z = let e : line ≡ 0 = eqb-true line 0 z in omega (arith, e)
    go false z = itself line

module _ (commands : ℕ → Option Command) (core : Core) (its : IsNoted commands core) (goes : core.ended ≡ None) where
  over : (line : ℕ) → core.progress.event_line ≤ line → core.progress.event_line ≤ line_then line core
  over line low = go (line == 0)
    where
      go : (b : Bool) → core.progress.event_line ≤ cond b core.progress.event_line line
      go true = itself core.progress.event_line
      go false = low

  begun : (line moment : ℕ) → core.progress.event_line ≤ line_then line core → During commands (shape_of core) core.limits (line_then line core) (begin_event line moment core)
  begun line moment low = go _
    where
      up : (es : List JournalEntry) → AllByRecursion (StandsFor commands (shape_of core) core.limits core.progress.event_line) es → AllByRecursion (StandsFor commands (shape_of core) core.limits (line_then line core)) es
      up es h = all_later commands (shape_of core) core.limits core.progress.event_line (line_then line core) low es h

      none : AllByRecursion (StandsFor commands (shape_of core) core.limits (line_then line core)) core.entries
      none = subst (λ (es : List JournalEntry). AllByRecursion (StandsFor commands (shape_of core) core.limits (line_then line core)) es) (sym its.quiet) tt

      lift : (n : ℕ) → n ≤ core.progress.event_line → n ≤ line_then line core
      lift n h = omega (arith, h, low)

      go : (b : Bool) → During commands (shape_of core) core.limits (line_then line core) (record (change_if b (change_pool restart_numbers) core) { moment = moment; progress = record core.progress { event_line = cond (line == 0) core.progress.event_line line } })
      go true = record {
        shaped = refl;
        limited = refl;
        groups = its.groups;
        peers = its.peers;
        pool = its.pool;
        line = refl;
        asking = λ n w at. (lift n (its.asking n w at).0, (its.asking n w at).1);
        journal = up core.journal its.journal;
        refused = its.going goes;
        entries = none;
      }
      go false = record {
        shaped = refl;
        limited = refl;
        groups = its.groups;
        peers = its.peers;
        pool = its.pool;
        line = refl;
        asking = λ n w at. (lift n (its.asking n w at).0, (its.asking n w at).1);
        journal = up core.journal its.journal;
        refused = its.going goes;
        entries = none;
      }

  -- ---- any event

  here : (e : Event) (line moment : ℕ) → (refusal_in e core ≡ None) ⊎ (commands (line_of e) ≡ command_in e) → (refusal_in e (begin_event line moment core) ≡ None) ⊎ (commands (line_of e) ≡ command_in e)
  here e line moment (inl free) = inl (same_refusal e line moment core ∙ free)
  here e line moment (inr own) = inr own

  -- so it is when it has begun
  may_here : (e : Event) (moment : ℕ) → IsOwnEvent commands core e → MayHere commands (shape_of core) core.limits (line_then (line_of e) core) e (begin_event (line_of e) moment core)
  may_here (event.Line line o) moment may = (line_below line core, may.1)
  may_here (event.Report peer d) moment may = may
  may_here (event.Turn line peer) moment may = (line_below line core, here (event.Turn line peer) line moment may.1)
  may_here (event.Deliver line number) moment may = (line_below line core, here (event.Deliver line number) line moment may.1)
  may_here (event.Lose line number) moment may = (line_below line core, here (event.Lose line number) line moment may.1)
  may_here (event.Repeat line number) moment may = (line_below line core, here (event.Repeat line number) line moment may.1)
  may_here (event.Nudge line peer) moment may = (line_below line core, here (event.Nudge line peer) line moment may.1)
  may_here (event.Fail line peer) moment may = (line_below line core, here (event.Fail line peer) line moment may.1)
  may_here (event.Start line peer) moment may = (line_below line core, here (event.Start line peer) line moment may.1)

  -- the last line does not fall
  upward : (e : Event) → IsOwnEvent commands core e → core.progress.event_line ≤ line_then (line_of e) core
  upward (event.Line line o) may = over line may.0
  upward (event.Report peer d) may = itself core.progress.event_line
  upward (event.Turn line peer) may = over line may.0
  upward (event.Deliver line number) may = over line may.0
  upward (event.Lose line number) may = over line may.0
  upward (event.Repeat line number) may = over line may.0
  upward (event.Nudge line peer) may = over line may.0
  upward (event.Fail line peer) may = over line may.0
  upward (event.Start line peer) may = over line may.0

  run_noted : (e : Event) (moment : ℕ) → IsOwnEvent commands core e → IsNoted commands (run_event e moment core)
  run_noted e moment may =
      let last : ℕ = line_then (line_of e) core in
      let c : Core = begin_event (line_of e) moment core in
      ended commands (shape_of core) core.limits last (do_event e c)
      (done_stays commands (shape_of core) core.limits last e c (may_here e moment may) (begun (line_of e) moment (upward e may)))

pub step_noted : (commands : ℕ → Option Command) (e : Event) (moment : ℕ) (core : Core) → IsNoted commands core → (core.ended ≡ None → IsOwnEvent commands core e) → IsNoted commands (step e moment core)
step_noted commands e moment core its may = go core.ended refl
  where
    go : (x : Option CoreFault) → core.ended ≡ x → IsNoted commands (change_if (is_none x) (run_event e moment) core)
    go None f = run_noted commands core its f e moment (may f)
    go (Some found) f = its

pub all_noted : (commands : ℕ → Option Command) (core : Core) (es : List (Event × ℕ)) → IsNoted commands core → AllAreOwn commands core es → IsNoted commands (after_all core es)
all_noted commands core [] its may = its
all_noted commands core (e ∷ es) its may = all_noted commands (step e.0 e.1 core) es (step_noted commands e.0 e.1 core its may.0) may.1
