-- An operation at its own line keeps the order.
use Rattle.std.proofs.Common.{◌≡◌, ◌∙◌, sym, ap, subst, ℕ, ◌≤◌, Bool, true, false, cond, List, [], ◌∷◌, find, Option, Some, None, IsSome, refl, is_none, is_some, bytes_eq}
use Rattle.std.proofs.lemmas.Slice.Eq.{bytes_eq-Decides}
use Rattle.std.specs.BTreeMap.{is_at}
use Rattle.std.specs.Map.{lookup}
use Rattle.std.specs.Option.{option_map, option_map_or, option_or}
use Rattle.std.specs.Ordering.{nat_cmp}
use Rattle.hs_awaiting.specs.declared.wait.Wait.TheVariants as wait
use Rattle.hs_awaiting.specs.declared.waiting.Waiting.{Waiting}
use Rattle.hs_awaiting.specs.Kinds.{is_of}
use Rattle.hs_core_words.specs.Changing.{add_operation}
use Rattle.hs_core_words.specs.Looking.{operation_of, shape_of}
use Rattle.hs_core_words.specs.Operating.{answer, begin_line, busy_line, take_step}
use Rattle.hs_core_words.specs.Seeing.{pointers_for, view_for}
use Rattle.hs_core_words.specs.State.{Core}
use Rattle.hs_effects.specs.Logged.{AreOnce, IsCalled, IsEntryOf, IsOrderly, IsOwn, IsPending}
use Rattle.hs_effects.proofs.GoingLemmas.{stepped}
use Rattle.hs_effects.proofs.LookLemmas.{found_insert, gone, insert_other, number_exact, once_insert, once_remove, remove_other}
use Rattle.hs_effects.proofs.OrderlyLemmas.{IsFree, changed_orderly, session_in, some_is}
use Rattle.hs_effects.proofs.SeatLemmas.{seats_other}
use Rattle.hs_effects.proofs.RoomLemmas.{HasPlace, placed}
use Rattle.hs_effects.proofs.StepLemmas.{Passes, going_asks}
use Rattle.hs_entry.specs.declared.entry.Entry.{Entry}
use Rattle.hs_journal.specs.Order.{session_of}
use Rattle.hs_limits.specs.declared.address.Address.{Address}
use Rattle.hs_model.specs.declared.op.Op.{Op}
use Rattle.hs_model.specs.declared.op.Op.TheVariants as op
use Rattle.hs_model.specs.declared.reply.Reply.{Reply}
use Rattle.hs_model.specs.declared.reply.Reply.TheVariants as reply
use Rattle.hs_model.specs.Refusals.{first, refused_when}
use Rattle.hs_limits.specs.declared.address.Held.{Held}
use Rattle.hs_ops.specs.Answers.{gained, is_done, seated, seats_after}
use Rattle.hs_ops.specs.Going.{at_once, begin, go, judged_in}
use Rattle.hs_ops.specs.Operations.{after_step, go_step, new_operation}
use Rattle.hs_ops.specs.Refusals.{is_busy, not_open, open_already, refusal_of, refusals_of}
use Rattle.hs_ops.specs.Speaking.{judging_shard}
use Rattle.hs_ops.specs.Views.{OpView, as_session}
use Rattle.hs_ops.specs.declared.step.OpStep.TheVariants as step
use Rattle.hs_tokens.specs.Seats.{Seat, seat_of}

-- ---- what the first look says

name_is : (a b : List ℕ) → Some a ≡ Some b → a ≡ b
name_is a b e = cc e

head_none : (o : Option Reply) (rest : List (Option Reply)) → first (o ∷ rest) ≡ None → o ≡ None
head_none None rest e = refl
head_none (Some r) rest e = absurd (cc e)

rest_none : (o : Option Reply) (rest : List (Option Reply)) → first (o ∷ rest) ≡ None → first rest ≡ None
rest_none None rest e = e
rest_none (Some r) rest e = absurd (cc e)

-- the session is open, and has no other operation
pub record IsAlone (v : OpView) (q : List ℕ) : Type 0 where
  pub opened : IsSome (seat_of q v.seats)
  pub free : v.busy ≡ None

is_open : (v : OpView) (q : List ℕ) → not_open v q ≡ None → IsSome (seat_of q v.seats)
is_open v q e = go (seat_of q v.seats) e
  where
    go : (seat : Option Seat) → refused_when (is_none (option_map as_session seat)) (reply.NoSession q) ≡ None → IsSome seat
    go None n = absurd (cc n)
    go (Some seat) n = refl

is_free : (v : OpView) → is_busy v ≡ None → v.busy ≡ None
is_free v e = go v.busy e
  where
    go : (busy : Option ℕ) → option_map (λ line. reply.Busy line) busy ≡ None → busy ≡ None
    go None n = refl
    go (Some l) n = absurd (cc n)

alone_in : (v : OpView) (n q : List ℕ) (rest : List (Option Reply)) → first (not_open v n ∷ is_busy v ∷ rest) ≡ None → Some n ≡ Some q → IsAlone v q
alone_in v n q rest e s = record {
  opened = subst (λ k. IsSome (seat_of k v.seats)) (name_is n q s) (is_open v n (head_none (not_open v n) (is_busy v ∷ rest) e));
  free = is_free v (head_none (is_busy v) rest (rest_none (not_open v n) (is_busy v ∷ rest) e));
}

not_refused : (v : OpView) (o : Op) → judged_in v o ≡ None → refusal_of v o ≡ None
unfolding judged_in
not_refused v o e = go (refusal_of v o) e
  where
    go : (x : Option Reply) → option_or x (at_once v o) ≡ None → x ≡ None
    go None e = refl
    go (Some r) e = absurd (cc e)

-- one that isn't answered at once is of an open session that has no other
pub unanswered_alone : (v : OpView) (o : Op) (q : List ℕ) → judged_in v o ≡ None → session_of (Some o) ≡ Some q → IsAlone v q
unfolding judged_in refusals_of
unanswered_alone v (op.Open n) q e s = absurd (never (refusal_of v (op.Open n)) e)
  where
    never : (x : Option Reply) → option_or x (Some reply.Ok) ≡ None → ⊥
    never None f = cc f
    never (Some r) f = cc f
unanswered_alone v (op.Close n) q e s = alone_in v n q _ (not_refused v (op.Close n) e) s
unanswered_alone v (op.Write n payload handles address) q e s = alone_in v n q _ (not_refused v (op.Write n payload handles address) e) s
unanswered_alone v (op.Read n handle) q e s = alone_in v n q _ (not_refused v (op.Read n handle) e) s
unanswered_alone v (op.Look n key) q e s = alone_in v n q _ (not_refused v (op.Look n key) e) s
unanswered_alone v (op.Root n key handle) q e s = alone_in v n q _ (not_refused v (op.Root n key handle) e) s
unanswered_alone v (op.Drop key) q e s = absurd (cc s)
unanswered_alone v (op.Forget n handle) q e s = alone_in v n q _ (not_refused v (op.Forget n handle) e) s
unanswered_alone v (op.Name n handle) q e s = alone_in v n q _ (not_refused v (op.Name n handle) e) s
unanswered_alone v op.Delete q e s = absurd (cc s)
unanswered_alone v op.Stat q e s = absurd (cc s)

-- one of an open session that has another is refused
refused_by : (v : OpView) (o : Op) (r : Reply) → refusal_of v o ≡ Some r → judged_in v o ≡ Some r
unfolding judged_in
refused_by v o r e = ap (λ (x : Option Reply). option_or x (at_once v o)) e

busy_first : (v : OpView) (n q : List ℕ) (other : ℕ) (rest : List (Option Reply)) → IsSome (seat_of q v.seats) → v.busy ≡ Some other → Some n ≡ Some q → first (not_open v n ∷ is_busy v ∷ rest) ≡ Some (reply.Busy other)
busy_first v n q other rest opened busy s =
    ap (λ (b : Option ℕ). first (not_open v n ∷ option_map (λ line. reply.Busy line) b ∷ rest)) busy ∙ go (seat_of n v.seats) (subst (λ k. IsSome (seat_of k v.seats)) (sym (name_is n q s)) opened)
  where
    go : (seat : Option Seat) → IsSome seat → first (refused_when (is_none (option_map as_session seat)) (reply.NoSession n) ∷ Some (reply.Busy other) ∷ rest) ≡ Some (reply.Busy other)
    go None h = absurd (cc h)
    go (Some seat) h = refl

taken_first : (v : OpView) (n q : List ℕ) (rest : List (Option Reply)) → IsSome (seat_of q v.seats) → Some n ≡ Some q → first (open_already v n ∷ rest) ≡ Some (reply.SessionTaken n)
taken_first v n q rest opened s = go (seat_of n v.seats) (subst (λ k. IsSome (seat_of k v.seats)) (sym (name_is n q s)) opened)
  where
    go : (seat : Option Seat) → IsSome seat → first (refused_when (is_some (option_map as_session seat)) (reply.SessionTaken n) ∷ rest) ≡ Some (reply.SessionTaken n)
    go None h = absurd (cc h)
    go (Some seat) h = refl

pub busy_refused : (v : OpView) (o : Op) (q : List ℕ) (other : ℕ) → session_of (Some o) ≡ Some q → IsSome (seat_of q v.seats) → v.busy ≡ Some other → (r : Reply) → judged_in v o ≡ Some r → is_done r ≡ false
unfolding refusals_of
busy_refused v o q other s opened busy r e = by_op o s e
  where
    by : (p : Op) (x : Reply) → refusal_of v p ≡ Some x → is_done x ≡ false → judged_in v p ≡ Some r → is_done r ≡ false
    by p x f n j = subst (λ y. is_done y ≡ false) (some_is x r (sym (refused_by v p x f) ∙ j)) n

    by_op : (p : Op) → session_of (Some p) ≡ Some q → judged_in v p ≡ Some r → is_done r ≡ false
    by_op (op.Open n) t j = by (op.Open n) (reply.SessionTaken n) (taken_first v n q _ opened t) refl j
    by_op (op.Close n) t j = by (op.Close n) (reply.Busy other) (busy_first v n q other _ opened busy t) refl j
    by_op (op.Write n payload handles address) t j = by (op.Write n payload handles address) (reply.Busy other) (busy_first v n q other _ opened busy t) refl j
    by_op (op.Read n handle) t j = by (op.Read n handle) (reply.Busy other) (busy_first v n q other _ opened busy t) refl j
    by_op (op.Look n key) t j = by (op.Look n key) (reply.Busy other) (busy_first v n q other _ opened busy t) refl j
    by_op (op.Root n key handle) t j = by (op.Root n key handle) (reply.Busy other) (busy_first v n q other _ opened busy t) refl j
    by_op (op.Drop key) t j = absurd (cc t)
    by_op (op.Forget n handle) t j = by (op.Forget n handle) (reply.Busy other) (busy_first v n q other _ opened busy t) refl j
    by_op (op.Name n handle) t j = by (op.Name n handle) (reply.Busy other) (busy_first v n q other _ opened busy t) refl j
    by_op op.Delete t j = absurd (cc t)
    by_op op.Stat t j = absurd (cc t)

-- ---- a session that has an operation is busy

found_by : (test : Waiting → Bool) (m : ℕ) (w : Waiting) (es : List (ℕ × Waiting)) → lookup (is_at (nat_cmp m)) es ≡ Some w → test w ≡ true → IsSome (find (λ (e : ℕ × Waiting). test e.1) es)
found_by test m w [] at t = absurd (cc at)
found_by test m w (e ∷ es) at t = go (test e.1) refl (is_at (nat_cmp m) e.0) at (λ f. found_by test m w es f t)
  where
    go : (b : Bool) → test e.1 ≡ b → (here : Bool) → cond here (Some e.1) (lookup (is_at (nat_cmp m)) es) ≡ Some w
        → (lookup (is_at (nat_cmp m)) es ≡ Some w → IsSome (find (λ (x : ℕ × Waiting). test x.1) es)) → IsSome (cond b (Some e) (find (λ (x : ℕ × Waiting). test x.1) es))
    go true f here g ih = refl
    go false f true g ih = absurd (cc (sym f ∙ ap test (some_is e.1 w g) ∙ t))
    go false f false g ih = ih g

is_of_own : (q : List ℕ) (w : Waiting) → session_in w ≡ Some q → is_of q w ≡ true
is_of_own q w s = ap (λ (o : Option (List ℕ)). option_map_or (bytes_eq q) o false) s ∙ (bytes_eq-Decides q q).1 refl

line_is : (c : Core) (o : Op) (q : List ℕ) → session_of (Some o) ≡ Some q → busy_line o c ≡ option_map (λ (e : ℕ × Waiting). e.0) (find (λ (e : ℕ × Waiting). is_of q e.1) c.operations)
line_is c o q t = go o t
  where
    by : (n : List ℕ) → Some n ≡ Some q → option_map (λ (e : ℕ × Waiting). e.0) (find (λ (e : ℕ × Waiting). is_of n e.1) c.operations) ≡ option_map (λ (e : ℕ × Waiting). e.0) (find (λ (e : ℕ × Waiting). is_of q e.1) c.operations)
    by n t = ap (λ (k : List ℕ). option_map (λ (e : ℕ × Waiting). e.0) (find (λ (e : ℕ × Waiting). is_of k e.1) c.operations)) (name_is n q t)

    go : (p : Op) → session_of (Some p) ≡ Some q → busy_line p c ≡ option_map (λ (e : ℕ × Waiting). e.0) (find (λ (e : ℕ × Waiting). is_of q e.1) c.operations)
    go (op.Open n) t = by n t
    go (op.Close n) t = by n t
    go (op.Write n payload handles address) t = by n t
    go (op.Read n handle) t = by n t
    go (op.Look n key) t = by n t
    go (op.Root n key handle) t = by n t
    go (op.Drop key) t = absurd (cc t)
    go (op.Forget n handle) t = by n t
    go (op.Name n handle) t = by n t
    go op.Delete t = absurd (cc t)
    go op.Stat t = absurd (cc t)

pub busy_by : (c : Core) (m : ℕ) (w : Waiting) (o : Op) (q : List ℕ) → operation_of m c ≡ Some w → session_in w ≡ Some q → session_of (Some o) ≡ Some q → busy_line o c ≡ None → ⊥
busy_by c m w o q at s t none = clash (find (λ (e : ℕ × Waiting). is_of q e.1) c.operations) (found_by (is_of q) m w c.operations at (is_of_own q w s)) (sym (line_is c o q t) ∙ none)
  where
    clash : (found : Option (ℕ × Waiting)) → IsSome found → option_map (λ (e : ℕ × Waiting). e.0) found ≡ None → ⊥
    clash None h f = cc h
    clash (Some e) h f = cc f

-- ---- the line

pub begin_is : (v : OpView) (line : ℕ) (o : Op) (r : Reply) → judged_in v o ≡ Some r → begin v line o ≡ step.Answer r
unfolding begin
begin_is v line o r j = ap (λ (x : Option Reply). option_map_or step.Answer x (go v line o)) j

module _ (name : List ℕ → Address) (line : ℕ) (o : Op) (c : Core) (its : IsOrderly name c) (new : operation_of line c ≡ None) (counted : 1 ≤ line) (called : IsCalled name c.sessions o) where
  abbrev begun : Core
  begun = record c { progress = record c.progress { last_line = line } }

  abbrev shard : ℕ
  shard = judging_shard (shape_of c).shards c.sessions o

  abbrev w : Waiting
  w = record { operation = new_operation line o; shard = shard; wait = wait.View }

  abbrev v : OpView
  v = record (view_for shard o begun) { busy = busy_line o c }

  abbrev with_it : Core
  with_it = add_operation line w begun

  free : IsFree c line
  free = λ g place e at by. cc (sym new ∙ (its.asked g place line e at by).at)

  added_once : AreOnce with_it.operations
  added_once = once_insert line c.operations w new its.once

  -- it is answered at its line: no other line has an operation of its session, or it is told that this is busy
  pub seats_apart : (x : Waiting) (r : Reply) → x.operation.op ≡ o → judged_in v o ≡ Some r → (m : ℕ) (u : Waiting) (q : List ℕ) → (m ≡ line → ⊥) → operation_of m c ≡ Some u → session_in u ≡ Some q
      → seat_of q (answer line x r with_it).sessions ≡ seat_of q c.sessions
  unfolding seats_after
  seats_apart x r same j m u q d at s = by_session (session_of (Some o)) refl
    where
      gains : List Held
      gains = gained (view_for x.shard x.operation.op with_it) (pointers_for x.shard x.operation.op with_it) x.operation.op

      other : (session_of (Some o) ≡ Some q → ⊥) → seat_of q (answer line x r with_it).sessions ≡ seat_of q c.sessions
      other apart = seats_other gains x.operation.op r c.sessions q (λ t. apart (ap (λ p. session_of (Some p)) (sym same) ∙ t))

      mine : session_of (Some o) ≡ Some q → (b : Option ℕ) → busy_line o c ≡ b → seat_of q (answer line x r with_it).sessions ≡ seat_of q c.sessions
      mine t None e = absurd (busy_by c m u o q at s t e)
      mine t (Some l) e = ap (λ b. seat_of q (cond b (seated gains x.operation.op c.sessions) c.sessions)) (busy_refused v o q l t ((its.pending m u at).opened q s) e r j)

      by_name : (n : List ℕ) → session_of (Some o) ≡ Some n → (b : Bool) → bytes_eq n q ≡ b → seat_of q (answer line x r with_it).sessions ≡ seat_of q c.sessions
      by_name n t true e = mine (t ∙ ap (λ k. Some k) ((bytes_eq-Decides n q).0 e)) (busy_line o c) refl
      by_name n t false e = other (λ f. cc (sym e ∙ (bytes_eq-Decides n q).1 (name_is n q (sym t ∙ f))))

      by_session : (z : Option (List ℕ)) → session_of (Some o) ≡ z → seat_of q (answer line x r with_it).sessions ≡ seat_of q c.sessions
      by_session None t = other (λ f. cc (sym t ∙ f))
      by_session (Some n) t = by_name n t (bytes_eq n q) refl

  answered : (x : Waiting) (r : Reply) → x.operation.op ≡ o → judged_in v o ≡ Some r → IsOrderly name (answer line x r with_it)
  unfolding seats_after
  answered x r same j = changed_orderly name c (answer line x r with_it) line its free (record {
    limits = refl;
    shape = refl;
    waiting = λ g. refl;
    front = λ g. refl;
    catalogue = λ g. refl;
    others = λ l d. remove_other nat_cmp number_exact with_it.operations line l d ∙ insert_other nat_cmp number_exact c.operations line l w d;
    once = once_remove line with_it.operations added_once;
    here = λ y e. absurd (none y e);
    apart = λ m u y q d e f s t. none y f;
    seats = seats_apart x r same j;
  })
    where
      none : (y : Waiting) → operation_of line (answer line x r with_it) ≡ Some y → ⊥
      none y e = cc (sym (gone line with_it.operations added_once) ∙ e)

  pub added : judged_in v o ≡ None → IsOrderly name with_it
  added j = changed_orderly name c with_it line its free (record {
    limits = refl;
    shape = refl;
    waiting = λ g. refl;
    front = λ g. refl;
    catalogue = λ g. refl;
    others = λ l d. insert_other nat_cmp number_exact c.operations line l w d;
    once = added_once;
    here = λ u e. subst (λ x. IsPending name with_it line x) (is_it u e) pending;
    apart = λ m u x q d at e s t. by_mine m u q at s (ap (λ y. session_in y) (is_it x e) ∙ t);
    seats = λ m u q d at s. refl;
  })
    where
      is_it : (u : Waiting) → operation_of line with_it ≡ Some u → w ≡ u
      is_it u e = some_is w u (sym (found_insert line c.operations w) ∙ e)

      pending : IsPending name with_it line w
      pending = record { of_line = refl; counted = counted; opened = λ q s. (unanswered_alone v o q j s).opened; called = called; judges = refl }

      by_mine : (m : ℕ) (u : Waiting) (q : List ℕ) → operation_of m c ≡ Some u → session_in u ≡ Some q → session_of (Some o) ≡ Some q → ⊥
      by_mine m u q at s t = busy_by c m u o q at s t ((unanswered_alone v o q j t).free)

  soon : (entry : Entry) → IsEntryOf name c.sessions line o entry × IsOwn c.limits c.sessions o × Passes v entry → IsEntryOf name c.sessions line o entry × IsOwn c.limits c.sessions o × HasPlace with_it shard entry
  soon entry is =
      let p : HasPlace begun shard entry = placed name c.sessions line begun shard o entry is.0 is.2 in
      (is.0, is.1, record { blocks = p.blocks; roots = p.roots })

  pub begun_orderly : IsOrderly name (begin_line line o c)
  begun_orderly = by_judge (judged_in v o) refl
    where
      by_judge : (x : Option Reply) → judged_in v o ≡ x → IsOrderly name (begin_line line o c)
      by_judge (Some r) j =
          subst (λ taken. IsOrderly name (take_step line w taken with_it)) (sym (begin_is v line o r j))
          (answered (record w { operation = after_step (step.Answer r) w.operation }) r refl j)
      by_judge None j =
          stepped name with_it line (added j) (λ g place e at by. free g place e at by) w (found_insert line c.operations w) (go_step v w.operation)
          (λ entry e. soon entry (going_asks name v w.operation called entry e))
