-- Which operation a session has, by the line with which it is busy.
use Rattle.std.proofs.Common.{◌≡◌, ℕ, true, false, List, ◌∷◌, Option, Some, None, IsSome, refl, sym, ap, subst, ◌∙◌, is_none}
use Rattle.std.specs.BTreeMap.{is_at}
use Rattle.std.specs.Map.{lookup}
use Rattle.std.specs.Option.{option_and_then, option_map, option_map_or, option_or}
use Rattle.std.specs.Ordering.{nat_cmp}
use Rattle.std.specs.Prelude.{bytes_eq, find}
use Rattle.hs_answered.specs.Asked.{busy_with}
use Rattle.hs_awaiting.specs.declared.waiting.Waiting.{Waiting}
use Rattle.hs_awaiting.specs.Kinds.{is_of}
use Rattle.hs_core_words.specs.Operating.{busy_line}
use Rattle.hs_core_words.specs.State.{Core}
use Rattle.hs_journal.specs.Order.{IsOpen, IsPrompt, session_of}
use Rattle.hs_model.specs.declared.op.Op.{Op}
use Rattle.hs_model.specs.declared.op.Op.TheVariants as op
use Rattle.hs_model.specs.declared.reply.Reply.{Reply}
use Rattle.hs_model.specs.Refusals.{first, refused_when}
use Rattle.hs_ops.specs.Going.{at_once, judged_in}
use Rattle.hs_ops.specs.Refusals.{refusal_of, refusals_of}
use Rattle.hs_ops.specs.Views.{OpView, as_session}
use Rattle.hs_tokens.specs.Seats.{Seat, seat_of}
use Rattle.hs_told.proofs.DuringLemmas.{op_of}
use Rattle.hs_told.proofs.OperationLemmas.{found_at, none_at}
use Rattle.hs_told.proofs.SeatLemmas.{is_name, own_name}
use Rattle.hs_told.specs.Apart.{Apart}
use Rattle.hs_told.specs.Part.{asking}

-- ---- the line with which a session is busy

abbrev line_in : Core → List ℕ → Option ℕ
line_in core name = option_map (λ e. e.0) (find (λ e. is_of name e.1) core.operations)

-- an operation waits there, of the same session
pub record IsBusyWith (core : Core) (name : List ℕ) (other : ℕ) : Type 0 where
  pub o : Op
  pub at : asking core.operations other ≡ Some o
  pub same : session_of (Some o) ≡ Some name

session_from : (name : List ℕ) (session : Option (List ℕ)) → option_map_or (bytes_eq name) session false ≡ true → session ≡ Some name
session_from name None e = absurd (cc e)
session_from name (Some other) e = ap (λ x. Some x) (sym (is_name name other e))

busy_at : (core : Core) (name : List ℕ) (other : ℕ) → Apart core.operations → line_in core name ≡ Some other → IsBusyWith core name other
busy_at core name other apart e = go (find (λ e. is_of name e.1) core.operations) refl e
  where
    go : (found : Option (ℕ × Waiting)) → find (λ e. is_of name e.1) core.operations ≡ found → option_map (λ (x : ℕ × Waiting). x.0) found ≡ Some other → IsBusyWith core name other
    go None f h = absurd (cc h)
    go (Some x) f h =
        let it = found_at (λ (e : ℕ × Waiting). is_of name e.1) core.operations x apart f in
        record {
          o = x.1.operation.op;
          at = ap (asking core.operations) (sym (number x.0 h)) ∙ ap op_of it.0;
          same = session_from name (session_of (Some x.1.operation.op)) it.1;
        }
      where
        number : (n : ℕ) → Some n ≡ Some other → n ≡ other
        number n g = cc g

nobody_at : (core : Core) (name : List ℕ) (n : ℕ) (o : Op) → line_in core name ≡ None → asking core.operations n ≡ Some o → session_of (Some o) ≡ Some name → ⊥
nobody_at core name n o none h s = by_lookup (lookup (is_at (nat_cmp n)) core.operations) refl h
  where
    not_found : (found : Option (ℕ × Waiting)) → option_map (λ (x : ℕ × Waiting). x.0) found ≡ None → found ≡ None
    not_found None f = refl
    not_found (Some x) f = absurd (cc f)

    by_lookup : (w : Option Waiting) → lookup (is_at (nat_cmp n)) core.operations ≡ w → op_of w ≡ Some o → ⊥
    by_lookup None f g = cc g
    by_lookup (Some w) f g =
        none_at (λ (e : ℕ × Waiting). is_of name e.1) core.operations n w
        (λ m. ap (λ x. option_map_or (bytes_eq name) x false) (ap (λ (x : Op). session_of (Some x)) (op_is w.operation.op g) ∙ s) ∙ own_name name) (not_found (find (λ e. is_of name e.1) core.operations) none) f
      where
        op_is : (q : Op) → Some q ≡ Some o → q ≡ o
        op_is q x = cc x

pub busy_is : (core : Core) (o : Op) (name : List ℕ) → session_of (Some o) ≡ Some name → busy_line o core ≡ line_in core name
busy_is core o name s = ap (λ x. option_and_then (line_in core) x) s

-- one that isn't opening a session is refused so exactly there
pub busy_with_is : (core : Core) (o : Op) → (IsOpen (Some o) → ⊥) → busy_with o core ≡ busy_line o core
busy_with_is core (op.Open name) d = absurd (d tt)
busy_with_is core (op.Close name) d = refl
busy_with_is core (op.Write name payload handles address) d = refl
busy_with_is core (op.Read name handle) d = refl
busy_with_is core (op.Look name key) d = refl
busy_with_is core (op.Root name key handle) d = refl
busy_with_is core (op.Drop key) d = refl
busy_with_is core (op.Forget name handle) d = refl
busy_with_is core (op.Name name handle) d = refl
busy_with_is core op.Delete d = refl
busy_with_is core op.Stat d = refl

-- where it is busy it has a session, opens none, and another operation of the session waits
pub record Busy (core : Core) (o : Op) (other : ℕ) : Type 0 where
  pub name : List ℕ
  pub asks : session_of (Some o) ≡ Some name
  pub apart : IsOpen (Some o) → ⊥
  pub line : busy_line o core ≡ Some other
  pub by : IsBusyWith core name other

pub busy_from : (core : Core) (o : Op) (other : ℕ) → Apart core.operations → busy_with o core ≡ Some other → Busy core o other
busy_from core o other apart e = by_session (session_of (Some o)) refl
  where
    never_opens : (q : Op) → IsOpen (Some q) → busy_with q core ≡ None
    never_opens (op.Open name) h = refl
    never_opens (op.Close name) h = absurd h
    never_opens (op.Write name payload handles address) h = absurd h
    never_opens (op.Read name handle) h = absurd h
    never_opens (op.Look name key) h = absurd h
    never_opens (op.Root name key handle) h = absurd h
    never_opens (op.Drop key) h = absurd h
    never_opens (op.Forget name handle) h = absurd h
    never_opens (op.Name name handle) h = absurd h
    never_opens op.Delete h = absurd h
    never_opens op.Stat h = absurd h

    opens_none : IsOpen (Some o) → ⊥
    opens_none h = let f : busy_with o core ≡ None = never_opens o h in cc (e, f)

    line : busy_line o core ≡ Some other
    line = sym (busy_with_is core o opens_none) ∙ e

    by_session : (session : Option (List ℕ)) → session_of (Some o) ≡ session → Busy core o other
    by_session None f = let g : busy_line o core ≡ None = ap (λ x. option_and_then (line_in core) x) f in absurd (cc (line, g))
    by_session (Some name) f = record {
      name = name;
      asks = f;
      apart = opens_none;
      line = line;
      by = busy_at core name other apart (sym (busy_is core o name f) ∙ line);
    }

-- where it isn't, no operation of its session waits
pub free_from : (core : Core) (o : Op) (name : List ℕ) (n : ℕ) (p : Op) → (IsOpen (Some o) → ⊥) → busy_with o core ≡ None → session_of (Some o) ≡ Some name → asking core.operations n ≡ Some p → session_of (Some p) ≡ Some name → ⊥
free_from core o name n p d e s h t = nobody_at core name n p (sym (busy_is core o name s) ∙ sym (busy_with_is core o d) ∙ e) h t

-- ---- what is not answered by the view alone

pub unjudged_refusal : (v : OpView) (o : Op) → judged_in v o ≡ None → (refusal_of v o ≡ None) × (at_once v o ≡ None)
unfolding judged_in
unjudged_refusal v o e = go (refusal_of v o) e
  where
    go : (x : Option Reply) → option_or x (at_once v o) ≡ None → (x ≡ None) × (at_once v o ≡ None)
    go None f = (refl, f)
    go (Some q) f = absurd (cc f)

-- is of none that is answered in its own event
pub unjudged_waits : (v : OpView) (o : Op) → at_once v o ≡ None → IsPrompt (Some o) → ⊥
unjudged_waits v (op.Open name) e h = cc e
unjudged_waits v (op.Close name) e h = cc e
unjudged_waits v (op.Write name payload handles address) e h = h
unjudged_waits v (op.Read name handle) e h = h
unjudged_waits v (op.Look name key) e h = cc e
unjudged_waits v (op.Root name key handle) e h = h
unjudged_waits v (op.Drop key) e h = h
unjudged_waits v (op.Forget name handle) e h = cc e
unjudged_waits v (op.Name name handle) e h = cc e
unjudged_waits v op.Delete e h = h
unjudged_waits v op.Stat e h = cc e

-- and its session is open
open_first : (seat : Option Seat) (r : Reply) (rows : List (Option Reply)) → first (refused_when (is_none (option_map as_session seat)) r ∷ rows) ≡ None → IsSome seat
open_first None r rows e = absurd (cc e)
open_first (Some seat) r rows e = refl

pub unjudged_open : (v : OpView) (o : Op) (name : List ℕ) → refusal_of v o ≡ None → (IsPrompt (Some o) → ⊥) → session_of (Some o) ≡ Some name → IsSome (seat_of name v.seats)
unfolding refusals_of
unjudged_open v (op.Open n) name e d s = absurd (d tt)
unjudged_open v (op.Close n) name e d s = absurd (d tt)
unjudged_open v (op.Write n payload handles address) name e d s = named (open_first (seat_of n v.seats) _ _ e)
  where
    some_is : Some n ≡ Some name → n ≡ name
    some_is x = cc x

    named : IsSome (seat_of n v.seats) → IsSome (seat_of name v.seats)
    named h = subst (λ k. IsSome (seat_of k v.seats)) (some_is s) h
unjudged_open v (op.Read n handle) name e d s = named (open_first (seat_of n v.seats) _ _ e)
  where
    some_is : Some n ≡ Some name → n ≡ name
    some_is x = cc x

    named : IsSome (seat_of n v.seats) → IsSome (seat_of name v.seats)
    named h = subst (λ k. IsSome (seat_of k v.seats)) (some_is s) h
unjudged_open v (op.Look n key) name e d s = absurd (d tt)
unjudged_open v (op.Root n key handle) name e d s = named (open_first (seat_of n v.seats) _ _ e)
  where
    some_is : Some n ≡ Some name → n ≡ name
    some_is x = cc x

    named : IsSome (seat_of n v.seats) → IsSome (seat_of name v.seats)
    named h = subst (λ k. IsSome (seat_of k v.seats)) (some_is s) h
unjudged_open v (op.Drop key) name e d s = absurd (cc s)
unjudged_open v (op.Forget n handle) name e d s = absurd (d tt)
unjudged_open v (op.Name n handle) name e d s = absurd (d tt)
unjudged_open v op.Delete name e d s = absurd (cc s)
unjudged_open v op.Stat name e d s = absurd (cc s)
