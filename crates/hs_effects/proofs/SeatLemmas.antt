-- An answer changes its own session alone, and what an operation asks for rests on its own session alone.
use Rattle.std.proofs.Common.{◌≡◌, ◌∙◌, sym, ap, subst, inl, inr, ℕ, Bool, true, false, cond, map, List, Option, Some, None, refl, is_some, [], ◌∷◌, is_none}
use Rattle.std.specs.Option.{option_map, option_or}
use Rattle.std.specs.List.{list_all}
use Rattle.std.specs.Prelude.{unwrap_or}
use Rattle.hs_effects.specs.Logged.{IsCalled, IsEntryOf, IsOwn}
use Rattle.hs_effects.proofs.LookLemmas.{insert_other, name_exact, remove_other, set_other}
use Rattle.hs_entry.specs.declared.entry.Entry.{Entry}
use Rattle.hs_entry.specs.declared.entry.Entry.TheVariants as kind
use Rattle.hs_journal.specs.Order.{session_of}
use Rattle.hs_limits.specs.Block.{Block, spell}
use Rattle.hs_limits.specs.declared.address.Address.{Address}
use Rattle.hs_limits.specs.declared.address.Held.{Held}
use Rattle.hs_model.specs.declared.op.Op.{Op}
use Rattle.hs_model.specs.declared.op.Op.TheVariants as op
use Rattle.hs_model.specs.declared.reply.Reply.{Reply}
use Rattle.hs_model.specs.Judge.{given_address}
use Rattle.hs_ops.specs.Answers.{is_done, seated, seats_after}
use Rattle.hs_ops.specs.Speaking.{asked_block, helds, judging_shard, least_epoch}
use Rattle.hs_ops.specs.Views.{as_session}
use Rattle.hs_limits.specs.declared.limits.Limits.{Limits}
use Rattle.hs_limits.specs.declared.shape.Shape.{Shape}
use Rattle.hs_limits.specs.Shape.{shard_of}
use Rattle.hs_model.specs.declared.reply.Reply.TheVariants as reply
use Rattle.hs_model.specs.Refusals.{first, handles_full_in, no_handle_in, refused_when, too_long, too_many}
use Rattle.hs_tokens.specs.Seats.{Seat, Seats, held_at, name_cmp, new_seat, nothing, put_seat, seat_of}

some_differ : (a b : List ℕ) → (Some a ≡ Some b → ⊥) → b ≡ a → ⊥
some_differ a b d e = d (ap (λ x. Some x) (sym e))

put_other : (name q : List ℕ) (new : Option Seat) (seats : Seats) → (q ≡ name → ⊥) → seat_of q (put_seat name new seats) ≡ seat_of q seats
put_other name q None seats d = refl
put_other name q (Some seat) seats d = set_other name_cmp name_exact seats name q seat d

seated_other : (gains : List Held) (o : Op) (seats : Seats) (q : List ℕ) → (session_of (Some o) ≡ Some q → ⊥) → seat_of q (seated gains o seats) ≡ seat_of q seats
seated_other gains (op.Open name) seats q d = insert_other name_cmp name_exact seats name q new_seat (some_differ name q d)
seated_other gains (op.Close name) seats q d = remove_other name_cmp name_exact seats name q (some_differ name q d)
seated_other gains (op.Write name payload handles address) seats q d = put_other name q _ seats (some_differ name q d)
seated_other gains (op.Read name handle) seats q d = put_other name q _ seats (some_differ name q d)
seated_other gains (op.Look name key) seats q d = put_other name q _ seats (some_differ name q d)
seated_other gains (op.Root name key handle) seats q d = refl
seated_other gains (op.Drop key) seats q d = refl
seated_other gains (op.Forget name handle) seats q d = put_other name q _ seats (some_differ name q d)
seated_other gains (op.Name name handle) seats q d = refl
seated_other gains op.Delete seats q d = refl
seated_other gains op.Stat seats q d = refl

pub seats_other : (gains : List Held) (o : Op) (r : Reply) (seats : Seats) (q : List ℕ) → (session_of (Some o) ≡ Some q → ⊥) → seat_of q (seats_after gains o r seats) ≡ seat_of q seats
unfolding seats_after
seats_other gains o r seats q d = go (is_done r)
  where
    go : (b : Bool) → seat_of q (cond b (seated gains o seats) seats) ≡ seat_of q seats
    go true = seated_other gains o seats q d
    go false = refl

-- ---- what rests on a session

helds_in : Option Seat → List ℕ → List Held
helds_in seat handles = map (λ handle. unwrap_or (held_at seat handle) nothing) handles

block_in : Option Seat → List ℕ → List ℕ → Block
block_in seat payload handles = record { pointers = map (λ held. held.address) (helds_in seat handles); bytes = payload }

-- the session of an operation is the same
abbrev pub IsSameFor : Op → Seats → Seats → Type 0
IsSameFor o a b = (q : List ℕ) → session_of (Some o) ≡ Some q → seat_of q b ≡ seat_of q a

pub block_same : (a b : Seats) (name payload handles : List ℕ) → seat_of name b ≡ seat_of name a → asked_block a name payload handles ≡ asked_block b name payload handles
unfolding asked_block block_in helds_in
block_same a b name payload handles e = ap (λ seat. block_in seat payload handles) (sym e)

helds_same : (a b : Seats) (name handles : List ℕ) → seat_of name b ≡ seat_of name a → helds a name handles ≡ helds b name handles
unfolding helds_in
helds_same a b name handles e = ap (λ seat. helds_in seat handles) (sym e)

pub called_on : (name : List ℕ → Address) (a b : Seats) (o : Op) → IsSameFor o a b → IsCalled name a o → IsCalled name b o
called_on name a b (op.Write session payload handles address) same called = λ has.
    let e = same session refl in
    called (record { held = subst (λ seat. list_all (λ handle. is_some (held_at seat handle)) handles ≡ true) e has.held; few = has.few; short = has.short })
    ∙ ap (λ block. Some (name (spell block))) (block_same a b session payload handles e)
called_on name a b (op.Open session) same called = tt
called_on name a b (op.Close session) same called = tt
called_on name a b (op.Read session handle) same called = tt
called_on name a b (op.Look session key) same called = tt
called_on name a b (op.Root session key handle) same called = tt
called_on name a b (op.Drop key) same called = tt
called_on name a b (op.Forget session handle) same called = tt
called_on name a b (op.Name session handle) same called = tt
called_on name a b op.Delete same called = tt
called_on name a b op.Stat same called = tt

pub entry_on : (name : List ℕ → Address) (a b : Seats) (line : ℕ) (o : Op) (entry : Entry) → IsSameFor o a b → IsEntryOf name a line o entry → IsEntryOf name b line o entry
entry_on name a b line (op.Write session payload handles address) entry same asks = go asks
  where
    e : seat_of session b ≡ seat_of session a
    e = same session refl

    go : IsEntryOf name a line (op.Write session payload handles address) entry → IsEntryOf name b line (op.Write session payload handles address) entry
    go (inl is) = inl (
      (is.0 ∙ ap (λ hs. kind.Block line (least_epoch hs) (spell (asked_block a session payload handles))) (helds_same a b session handles e)
          ∙ ap (λ block. kind.Block line (least_epoch (helds b session handles)) (spell block)) (block_same a b session payload handles e)),
      (is.1 ∙ ap (λ block. Some (name (spell block))) (block_same a b session payload handles e)),
    )
    go (inr is) = inr (is.0, is.1 ∙ ap (λ hs. kind.Mark line (least_epoch hs) is.0 (given_address address)) (helds_same a b session handles e))
entry_on name a b line (op.Root session key handle) entry same asks =
    asks ∙ ap (λ seat. kind.Root line (unwrap_or (held_at seat handle) nothing).epoch (unwrap_or (held_at seat handle) nothing).address key) (sym (same session refl))
entry_on name a b line (op.Drop key) entry same asks = asks
entry_on name a b line op.Delete entry same asks = asks
entry_on name a b line (op.Open session) entry same asks = asks
entry_on name a b line (op.Close session) entry same asks = asks
entry_on name a b line (op.Read session handle) entry same asks = asks
entry_on name a b line (op.Look session key) entry same asks = asks
entry_on name a b line (op.Forget session handle) entry same asks = asks
entry_on name a b line (op.Name session handle) entry same asks = asks
entry_on name a b line op.Stat entry same asks = asks

judging_seats : (n : ℕ) (a b : Seats) (o : Op) → IsSameFor o a b → judging_shard n b o ≡ judging_shard n a o
judging_seats n a b (op.Open session) same = refl
judging_seats n a b (op.Close session) same = refl
judging_seats n a b (op.Write session payload handles address) same = refl
judging_seats n a b (op.Read session handle) same =
    ap (λ seat. unwrap_or (option_or None (option_map (shard_of n) (option_map (λ (held : Held). held.address) (held_at seat handle)))) 0) (same session refl)
judging_seats n a b (op.Look session key) same = refl
judging_seats n a b (op.Root session key handle) same = refl
judging_seats n a b (op.Drop key) same = refl
judging_seats n a b (op.Forget session handle) same = refl
judging_seats n a b (op.Name session handle) same = refl
judging_seats n a b op.Delete same = refl
judging_seats n a b op.Stat same = refl

pub judging_on : (x y : Shape) (a b : Seats) (o : Op) → IsSameFor o a b → y ≡ x → judging_shard y.shards b o ≡ judging_shard x.shards a o
judging_on x y a b o same e = ap (λ (z : Shape). judging_shard z.shards b o) e ∙ judging_seats x.shards a b o same

own_seats : (limits : Limits) (a b : Seats) (o : Op) → IsSameFor o a b → IsOwn limits a o → IsOwn limits b o
own_seats limits a b (op.Write session payload handles address) same own =
    subst (λ seat. first (refused_when (is_none (option_map as_session seat)) (reply.NoSession session) ∷ too_long payload ∷ too_many handles ∷ no_handle_in (option_map as_session seat) handles ∷ handles_full_in limits (option_map as_session seat) 1 ∷ []) ≡ None) (sym (same session refl)) own
own_seats limits a b (op.Root session key handle) same own =
    subst (λ seat. first (refused_when (is_none (option_map as_session seat)) (reply.NoSession session) ∷ no_handle_in (option_map as_session seat) (handle ∷ []) ∷ []) ≡ None) (sym (same session refl)) own
own_seats limits a b (op.Open session) same own = tt
own_seats limits a b (op.Close session) same own = tt
own_seats limits a b (op.Read session handle) same own = tt
own_seats limits a b (op.Look session key) same own = tt
own_seats limits a b (op.Drop key) same own = tt
own_seats limits a b (op.Forget session handle) same own = tt
own_seats limits a b (op.Name session handle) same own = tt
own_seats limits a b op.Delete same own = tt
own_seats limits a b op.Stat same own = tt

pub own_on : (k m : Limits) (a b : Seats) (o : Op) → IsSameFor o a b → m ≡ k → IsOwn k a o → IsOwn m b o
own_on k m a b o same e own = subst (λ (limits : Limits). IsOwn limits b o) (sym e) (own_seats k a b o same own)
