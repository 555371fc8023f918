-- Operations that go on, are begun or answered: those that wait for bytes wait for a block that is there.
use Rattle.std.proofs.Common.{◌≡◌, ◌∙◌, sym, ap, subst, ◌⊎◌, inl, inr, ℕ, ◌+◌, ◌<◌, Bool, true, false, not, List, [], Option, Some, None, refl, slice_index, unwrap_or}
use Rattle.std.proofs.Math.Nat.{mod-lt}
use Rattle.std.proofs.lemmas.Map.Made.{lookup-map_values}
use Rattle.std.specs.BTreeMap.{is_at}
use Rattle.std.specs.Map.{lookup}
use Rattle.std.specs.Option.{option_and_then, option_map}
use Rattle.std.specs.Ordering.{nat_cmp}
use Rattle.std.specs.Prelude.{if◌then◌else◌, slice_index_or}
use Rattle.hs_answered.specs.Standing.{IsFolded}
use Rattle.hs_awaiting.specs.declared.wait.Wait.TheVariants as wait
use Rattle.hs_awaiting.specs.declared.waiting.Waiting.{Waiting}
use Rattle.hs_awaiting.specs.Words.{change_with}
use Rattle.hs_core_words.specs.Changing.{add_operation, put_operation}
use Rattle.hs_core_words.specs.Looking.{catalogue_of, group_of, lead_of, operation_of, shape_of}
use Rattle.hs_core_words.specs.Operating.{add_read, answer, begin_line, busy_line, go_on_with, propose_entry, take_step, what_holds}
use Rattle.hs_core_words.specs.Pending.{is_coming}
use Rattle.hs_core_words.specs.Seeing.{pointers_for, view_for}
use Rattle.hs_core_words.specs.State.{Core}
use Rattle.hs_effects.proofs.BeginLemmas.{added, begin_is, seats_apart}
use Rattle.hs_effects.proofs.LookLemmas.{found_insert, found_set, gone, insert_other, number_exact, once_insert, one_or_other, remove_other, set_other}
use Rattle.hs_effects.proofs.OrderlyLemmas.{session_in}
use Rattle.hs_effects.proofs.SeatLemmas.{IsSameFor, seats_other}
use Rattle.hs_effects.specs.Logged.{IsNewLine, IsOrderly}
use Rattle.hs_fold.specs.Runs.Facts.{Catalogue as Folded, Facts as FoldedFacts}
use Rattle.hs_fold.specs.Runs.Facts.{facts_at as fold_at}
use Rattle.hs_fold.specs.Runs.Fits.{catalogue_at}
use Rattle.hs_joint.proofs.HistoryLemmas.{shape_some}
use Rattle.hs_journal.specs.Order.{session_of}
use Rattle.hs_standing.proofs.MuteLemmas.{Words, proposed_words, words_of, words_with}
use Rattle.hs_limits.specs.declared.address.Address.{Address}
use Rattle.hs_limits.specs.declared.address.Held.{Held}
use Rattle.hs_limits.specs.Shape.{shard_of}
use Rattle.hs_memory.specs.Forget.{forget, known_of}
use Rattle.hs_model.specs.declared.op.Op.{Op}
use Rattle.hs_model.specs.declared.op.Op.TheVariants as op
use Rattle.hs_model.specs.declared.reply.Reply.{Reply}
use Rattle.hs_model.specs.Store.{address_cmp}
use Rattle.hs_ops.specs.Answers.{gained, seats_after}
use Rattle.hs_ops.specs.declared.step.OpStep.{OpStep}
use Rattle.hs_ops.specs.declared.step.OpStep.TheVariants.{Answer, Compare, Propose}
use Rattle.hs_ops.specs.declared.step.OpStep.TheVariants as step
use Rattle.hs_ops.specs.Going.{judged_in}
use Rattle.hs_ops.specs.Operations.{Operation, after_step, go_step, new_operation}
use Rattle.hs_ops.specs.Speaking.{judging_shard, wanted_address}
use Rattle.hs_ops.specs.Views.{OpView}
use Rattle.hs_clauses.proofs.StepLemmas.{ReadsPresent, step_reads}
use Rattle.hs_clauses.specs.Awaiting.{AreAwaiting, AwaitsBlock, IsAwaiting, IsThere}
use Rattle.hs_replica.specs.Group.{last_number}
use Rattle.hs_shard.specs.declared.facts.Facts.{Facts}
use Rattle.hs_shard.specs.Facts.{Catalogue, empty_catalogue, facts_at}
use Rattle.hs_standing.proofs.SettleLemmas.{forget_at}
use Rattle.hs_tokens.specs.Seats.{Seat, Seats, held_at, seat_of}

some_is : {A : Type 0} (x y : A) → Some x ≡ Some y → x ≡ y
some_is x y e = cc e

some_not : {A : Type 0} (x : A) → None ≡ Some x → ⊥
some_not x e = cc e

-- ---- what an operation sees of its block is of the fold

pub memory_is : (cs : List Folded) (c : Core) → IsFolded c cs → (shard : ℕ) → shard < (shape_of c).shards → catalogue_of shard c ≡ forget (shape_of c) shard (catalogue_at cs shard)
memory_is cs c folded shard low =
    ap (λ (all : List Catalogue). slice_index_or all shard (empty_catalogue (shape_of c) shard)) folded.catalogues
    ∙ forget_at (shape_of c) cs shard (subst (λ n. shard < n) (sym folded.shards) low) (empty_catalogue (shape_of c) shard)

pub numbered : (d : Folded) (a : Address) (number : ℕ) (found : Option FoldedFacts) → fold_at d a ≡ found → option_map (λ (f : Facts). f.number) (option_map known_of found) ≡ Some number → IsThere d a number
numbered d a number None is e = absurd (some_not number e)
numbered d a number (Some f) is e = record { facts = f; found = is; numbered = some_is f.present.number number e }

pub there_is : (cs : List Folded) (c : Core) → IsFolded c cs → (shard : ℕ) → shard < (shape_of c).shards → (o : Op) (a : Address) → wanted_address c.sessions o ≡ Some a → (number : ℕ)
    → (view_for shard o c).present ≡ Some number → IsThere (catalogue_at cs shard) a number
there_is cs c folded shard low o a wants number present =
    numbered (catalogue_at cs shard) a number (fold_at (catalogue_at cs shard) a) refl
    (ap (λ (x : Option Facts). option_map (λ (f : Facts). f.number) x) (sym (lookup-map_values known_of (is_at (address_cmp a)) (catalogue_at cs shard).blocks))
    ∙ ap (λ (d : Catalogue). option_map (λ (f : Facts). f.number) (facts_at a d)) (sym (memory_is cs c folded shard low))
    ∙ ap (λ (w : Option Address). option_map (λ (f : Facts). f.number) (option_and_then (λ b. facts_at b (catalogue_of shard c)) w)) (sym wants) ∙ present)

-- ---- a read

pub read_wants : (seats : Seats) (name : List ℕ) (handle : ℕ) (held : Held) → held_at (seat_of name seats) handle ≡ Some held → wanted_address seats (op.Read name handle) ≡ Some held.address
read_wants seats name handle held is = ap (λ (x : Option Held). option_map (λ (h : Held). h.address) x) is

pub read_shard : (shards : ℕ) (seats : Seats) (name : List ℕ) (handle : ℕ) (held : Held) → held_at (seat_of name seats) handle ≡ Some held → judging_shard shards seats (op.Read name handle) ≡ shard_of shards held.address
read_shard shards seats name handle held is = ap (λ (x : Option Address). unwrap_or (option_map (shard_of shards) x) 0) (read_wants seats name handle held is)

pub shard_low : (cs : List Folded) (c : Core) → IsFolded c cs → (a : Address) → shard_of (shape_of c).shards a < (shape_of c).shards
shard_low cs c folded a = mod-lt (slice_index a.0 31) (shape_some (shape_of c) folded.valid)

-- it rests on its own session
awaits_on : (a b : Seats) (d : Folded) (number : ℕ) (o : Op) → IsSameFor o a b → AwaitsBlock a d number o → AwaitsBlock b d number o
awaits_on a b d number (op.Read name handle) same h = λ held is fresh. h held (sym (ap (λ (seat : Option Seat). held_at seat handle) (same name refl)) ∙ is) fresh
awaits_on a b d number (op.Open name) same h = tt
awaits_on a b d number (op.Close name) same h = tt
awaits_on a b d number (op.Write name payload handles address) same h = tt
awaits_on a b d number (op.Look name key) same h = tt
awaits_on a b d number (op.Root name key handle) same h = tt
awaits_on a b d number (op.Drop key) same h = tt
awaits_on a b d number (op.Forget name handle) same h = tt
awaits_on a b d number (op.Name name handle) same h = tt
awaits_on a b d number op.Delete same h = tt
awaits_on a b d number op.Stat same h = tt

-- ---- where operations and sessions are the same

pub awaiting_alike : (a b : Core) (cs : List Folded) → b.operations ≡ a.operations → b.sessions ≡ a.sessions → AreAwaiting a cs → AreAwaiting b cs
awaiting_alike a b cs operations sessions its line number w at waits =
    subst (λ (seats : Seats). IsAwaiting seats cs number w) (sym sessions) (its line number w (sym (ap (λ (es : List (ℕ × Waiting)). lookup (is_at (nat_cmp line)) es) operations) ∙ at) waits)

-- there is no operation
pub none_awaiting : (c : Core) (cs : List Folded) → c.operations ≡ [] → AreAwaiting c cs
none_awaiting c cs none line number w at waits = absurd (some_not w (sym (ap (λ (es : List (ℕ × Waiting)). lookup (is_at (nat_cmp line)) es) none) ∙ at))

words_operations : (a b : Core) → words_of b ≡ words_of a → b.operations ≡ a.operations
words_operations a b same = ap (λ (x : Words). x.operations) same

words_sessions : (a b : Core) → words_of b ≡ words_of a → b.sessions ≡ a.sessions
words_sessions a b same = ap (λ (x : Words). x.sessions) same

pub awaiting_words : (a b : Core) (cs : List Folded) → words_of b ≡ words_of a → AreAwaiting a cs → AreAwaiting b cs
awaiting_words a b cs same its = awaiting_alike a b cs (words_operations a b same) (words_sessions a b same) its

-- ---- one line's operation changes

-- and with it its session alone
record ChangesHere (a b : Core) (line : ℕ) : Type 0 where
  others : (l : ℕ) → (l ≡ line → ⊥) → operation_of l b ≡ operation_of l a
  seats : (l : ℕ) (v : Waiting) (q : List ℕ) → (l ≡ line → ⊥) → operation_of l a ≡ Some v → session_in v ≡ Some q → seat_of q b.sessions ≡ seat_of q a.sessions

changed_awaiting : (a b : Core) (cs : List Folded) (line : ℕ) → ChangesHere a b line → ((number : ℕ) (w : Waiting) → operation_of line b ≡ Some w → w.wait ≡ wait.Bytes number → IsAwaiting b.sessions cs number w) → AreAwaiting a cs → AreAwaiting b cs
changed_awaiting a b cs line ch here its l number w at waits = by (one_or_other l line)
  where
    by : (l ≡ line) ⊎ (l ≡ line → ⊥) → IsAwaiting b.sessions cs number w
    by (inl is) = here number w (subst (λ k. operation_of k b ≡ Some w) is at) waits
    by (inr d) =
        let was : operation_of l a ≡ Some w = sym (ch.others l d) ∙ at in
        let old : IsAwaiting a.sessions cs number w = its l number w was waits in
        record { wanted = old.wanted; awaits = awaits_on a.sessions b.sessions (catalogue_at cs w.shard) number w.operation.op (λ q s. ch.seats l w q d was s) old.awaits }

put_awaiting : (c : Core) (cs : List Folded) (line : ℕ) (x u : Waiting) → operation_of line c ≡ Some u → ((number : ℕ) → x.wait ≡ wait.Bytes number → IsAwaiting c.sessions cs number x) → AreAwaiting c cs → AreAwaiting (put_operation line x c) cs
put_awaiting c cs line x u at new its =
    changed_awaiting c (put_operation line x c) cs line
    (record { others = λ l d. set_other nat_cmp number_exact c.operations line l x d; seats = λ l v q d e s. refl })
    (λ number w e waits. (
    let same : x ≡ w = some_is x w (sym (found_set line c.operations u x at) ∙ e) in
    subst (λ (y : Waiting). IsAwaiting c.sessions cs number y) same (new number (ap (λ (y : Waiting). y.wait) same ∙ waits))
    )) its

-- ---- one step

entry_not : (m n : ℕ) → wait.Entry m ≡ wait.Bytes n → ⊥
entry_not m n e = cc e

bytes_is : (m n : ℕ) → wait.Bytes m ≡ wait.Bytes n → m ≡ n
bytes_is m n e = cc e

holds_not : (w : Waiting) (c : Core) (n : ℕ) → what_holds w c ≡ wait.Bytes n → ⊥
holds_not w c n = by (not (slice_index_or c.progress.viewed w.shard false)) (is_coming w.shard (wanted_address c.sessions w.operation.op) c)
  where
    by : (a b : Bool) → (if a then wait.View else (if b then wait.Address else wait.Room)) ≡ wait.Bytes n → ⊥
    by true b e = cc e
    by false true e = cc e
    by false false e = cc e

module _ (name : List ℕ → Address) (c : Core) (cs : List Folded) (folded : IsFolded c cs) (order : IsOrderly name c) (its : AreAwaiting c cs) (line : ℕ) (u : Waiting) (at : operation_of line c ≡ Some u) where
  answered : (w : Waiting) (told : Reply) → w.operation.op ≡ u.operation.op → AreAwaiting (answer line w told c) cs
  answered w told same = changed_awaiting c (answer line w told c) cs line (record {
    others = λ l d. remove_other nat_cmp number_exact c.operations line l d;
    seats = λ l v q d e s. seats_other (gained (view_for w.shard w.operation.op c) (pointers_for w.shard w.operation.op c) w.operation.op) w.operation.op told c.sessions q
        (λ t. d (order.alone l line v u q e at s (ap (λ o. session_of (Some o)) (sym same) ∙ t)));
  }) (λ number x e waits. absurd (some_not x (sym (gone line c.operations order.once) ∙ e))) its

  -- it asks for the bytes of the block that it sees
  awaits_by : (taken : OpStep) → ReadsPresent (view_for u.shard u.operation.op c) u.operation.op taken → (number : ℕ) → taken ≡ Compare number → (o : Op) → u.operation.op ≡ o → AwaitsBlock c.sessions (catalogue_at cs u.shard) number o
  awaits_by taken reads number asks (op.Read session handle) is = λ held stands fresh. (
      let place : u.shard ≡ shard_of (shape_of c).shards held.address =
      (order.pending line u at).judges ∙ ap (λ (p : Op). judging_shard (shape_of c).shards c.sessions p) is ∙ read_shard (shape_of c).shards c.sessions session handle held stands in
      there_is cs c folded u.shard (subst (λ k. k < (shape_of c).shards) (sym place) (shard_low cs c folded held.address)) u.operation.op held.address
      (ap (λ (p : Op). wanted_address c.sessions p) is ∙ read_wants c.sessions session handle held stands) number (reads session handle number is asks)
      )
  awaits_by taken reads number asks (op.Open session) is = tt
  awaits_by taken reads number asks (op.Close session) is = tt
  awaits_by taken reads number asks (op.Write session payload handles address) is = tt
  awaits_by taken reads number asks (op.Look session key) is = tt
  awaits_by taken reads number asks (op.Root session key handle) is = tt
  awaits_by taken reads number asks (op.Drop key) is = tt
  awaits_by taken reads number asks (op.Forget session handle) is = tt
  awaits_by taken reads number asks (op.Name session handle) is = tt
  awaits_by taken reads number asks op.Delete is = tt
  awaits_by taken reads number asks op.Stat is = tt

  pub stepped : (taken : OpStep) → ReadsPresent (view_for u.shard u.operation.op c) u.operation.op taken → AreAwaiting (take_step line u taken c) cs
  stepped (Answer told) reads = answered (record u { operation = after_step (Answer told) u.operation }) told refl
  stepped (Propose entry) reads =
      let w : Waiting = record u { operation = after_step (Propose entry) u.operation } in
      let x : Waiting = record w { wait = wait.Entry (last_number (group_of w.shard c) + 1) } in
      let waits : Core = put_operation line x c in
      awaiting_words waits (propose_entry w.shard entry waits) cs (proposed_words w.shard entry waits)
      (put_awaiting c cs line x u at (λ n e. absurd (entry_not (last_number (group_of w.shard c) + 1) n e)) its)
  stepped (Compare number) reads =
      let w : Waiting = record u { operation = after_step (Compare number) u.operation } in
      let x : Waiting = record w { wait = wait.Bytes number } in
      let waits : Core = put_operation line x c in
      awaiting_words waits (change_with (lead_of w.shard c) (add_read number line) waits) cs (words_with (lead_of w.shard c) (add_read number line) waits (λ peer y. refl))
      (put_awaiting c cs line x u at (λ n e. subst (λ (k : ℕ). IsAwaiting c.sessions cs k x) (bytes_is number n e)
      (record { wanted = refl; awaits = awaits_by (Compare number) reads number refl u.operation.op refl })) its)
  stepped step.Wait reads =
      let w : Waiting = record u { operation = after_step step.Wait u.operation } in
      put_awaiting c cs line (record w { wait = what_holds w c }) u at (λ n e. absurd (holds_not w c n e)) its

-- an operation goes on
pub going_awaiting : (name : List ℕ → Address) (next : OpView → Operation → OpStep) (c : Core) (cs : List Folded) (line : ℕ) → IsFolded c cs → IsOrderly name c
    → ((w : Waiting) → operation_of line c ≡ Some w → ReadsPresent (view_for w.shard w.operation.op c) w.operation.op (next (view_for w.shard w.operation.op c) w.operation)) → AreAwaiting c cs → AreAwaiting (go_on_with next line c) cs
going_awaiting name next c cs line folded order reads its = by (operation_of line c) refl
  where
    by : (o : Option Waiting) → operation_of line c ≡ o → AreAwaiting (change_with o (λ w. take_step line w (next (view_for w.shard w.operation.op c) w.operation)) c) cs
    by None at = its
    by (Some u) at = stepped name c cs folded order its line u at (next (view_for u.shard u.operation.op c) u.operation) (reads u at)

-- ---- a client's line

module _ (name : List ℕ → Address) (cs : List Folded) (line : ℕ) (o : Op) (c : Core) (folded : IsFolded c cs) (order : IsOrderly name c) (may : IsNewLine name c line o) (its : AreAwaiting c cs) where
  abbrev begun : Core
  begun = record c { progress = record c.progress { last_line = line } }

  abbrev shard : ℕ
  shard = judging_shard (shape_of c).shards c.sessions o

  abbrev w : Waiting
  w = record { operation = new_operation line o; shard = shard; wait = wait.View }

  abbrev v : OpView
  v = record (view_for shard o begun) { busy = busy_line o c }

  abbrev with_it : Core
  with_it = add_operation line w begun

  view_not : (n : ℕ) → wait.View ≡ wait.Bytes n → ⊥
  view_not n e = cc e

  added_awaiting : AreAwaiting with_it cs
  added_awaiting = changed_awaiting c with_it cs line
      (record { others = λ l d. insert_other nat_cmp number_exact c.operations line l w d; seats = λ l x q d at s. refl })
      (λ number x e waits. (
      let same : w ≡ x = some_is w x (sym (found_insert line c.operations w) ∙ e) in
      absurd (view_not number (ap (λ (y : Waiting). y.wait) same ∙ waits))
      )) its

  -- it is answered at its line: no other line has an operation of its session, or it is told that this is busy
  begun_answered : (x : Waiting) (r : Reply) → x.operation.op ≡ o → judged_in v o ≡ Some r → AreAwaiting (answer line x r with_it) cs
  unfolding seats_after
  begun_answered x r same j = changed_awaiting c (answer line x r with_it) cs line (record {
    others = λ l d. remove_other nat_cmp number_exact with_it.operations line l d ∙ insert_other nat_cmp number_exact c.operations line l w d;
    seats = seats_apart name line o c order may.new may.counted may.called x r same j;
  }) (λ number y e waits. absurd (some_not y (sym (gone line with_it.operations (once_insert line c.operations w may.new order.once)) ∙ e))) its

  with_folded : IsFolded with_it cs
  with_folded = record { valid = folded.valid; shards = folded.shards; own = folded.own; catalogues = folded.catalogues }

  line_awaiting : AreAwaiting (begin_line line o c) cs
  line_awaiting = by_judge (judged_in v o) refl
    where
      by_judge : (x : Option Reply) → judged_in v o ≡ x → AreAwaiting (begin_line line o c) cs
      by_judge (Some r) j =
          subst (λ taken. AreAwaiting (take_step line w taken with_it) cs) (sym (begin_is v line o r j))
          (begun_answered (record w { operation = after_step (Answer r) w.operation }) r refl j)
      by_judge None j =
          stepped name with_it cs with_folded (added name line o c order may.new may.counted may.called j) added_awaiting line w (found_insert line c.operations w)
          (go_step v w.operation) (step_reads v w.operation)

pub awaiting_line : (name : List ℕ → Address) (cs : List Folded) (c : Core) → IsFolded c cs → IsOrderly name c → AreAwaiting c cs → (line : ℕ) (o : Op) → IsNewLine name c line o → AreAwaiting (begin_line line o c) cs
awaiting_line name cs c folded order its line o may = line_awaiting name cs line o c folded order may its
