-- An operation without the address of its block is refused before the block is looked at.
use Rattle.std.proofs.Common.{◌≡◌, ◌⊎◌, inl, inr, ℕ, ◌&&◌, Bool, true, false, List, [], ◌∷◌, ◌++◌, length, map, Option, Some, None, IsSome, is_none, is_some, nat_le, nat_lt, refl, sym, ap, ◌∙◌, subst, arith}
use Rattle.std.proofs.lemmas.Bool.Decides.{nat_tests}
use Rattle.std.specs.List.{list_all}
use Rattle.std.specs.Option.{option_map}
use Rattle.hs_answered.proofs.AnswerLemmas.{session_is}
use Rattle.hs_answered.proofs.ShownLemmas.{held_is}
use Rattle.hs_answered.specs.Asked.{IsAsked}
use Rattle.hs_answered.specs.Standing.{IsAddressed}
use Rattle.hs_journal.specs.Events.{has_block}
use Rattle.hs_limits.specs.declared.address.Address.{Address}
use Rattle.hs_limits.specs.declared.address.Held.{Held}
use Rattle.hs_limits.specs.declared.limits.Limits.{Limits}
use Rattle.hs_limits.specs.declared.spelling.TheConstants.{MOST_BYTES, MOST_POINTERS}
use Rattle.hs_model.specs.declared.op.Op.{Op}
use Rattle.hs_model.specs.declared.op.Op.TheVariants as op
use Rattle.hs_model.specs.declared.reply.Reply.{Reply}
use Rattle.hs_model.specs.declared.reply.Reply.TheVariants as reply
use Rattle.hs_model.specs.Judge.{address_of, given_address, refusals, written}
use Rattle.hs_model.specs.Judge.{pointers_at}
use Rattle.hs_model.specs.Refusals.{collision, first, handles_full, no_handle_in, no_such_handle, refused_when, shard_full, stale, too_long, too_many}
use Rattle.hs_model.specs.Store.{Session, Store, epoch_at, held_in, session_at}
use Rattle.hs_ops.specs.Refusals.{is_busy, no_more_handles, no_room_for_block, not_held, not_open, outdated, refusal_of, refusals_of}
use Rattle.hs_ops.specs.Views.{OpView, open_in}
use Rattle.hs_shown.specs.Showing.{as_sessions}
use Rattle.hs_tokens.specs.Seats.{Seats, held_at, seat_of}

-- ---- rows

skip : (a b : Option Reply) (rows : List (Option Reply)) → b ≡ None → first (a ∷ b ∷ rows) ≡ first (a ∷ rows)
skip (Some q) b rows e = refl
skip None b rows e = ap (λ x. first (x ∷ rows)) e

-- what is behind a refusal is no matter
cut : (front rest others : List (Option Reply)) → IsSome (first front) → first (front ++ rest) ≡ first (front ++ others)
cut [] rest others some = cc some
cut (Some q ∷ front) rest others some = refl
cut (None ∷ front) rest others some = cut front rest others some

-- one of some rows refuses where a later one does
one_more : (a : Option Reply) (rows : List (Option Reply)) → IsSome (first rows) → IsSome (first (a ∷ rows))
one_more (Some q) rows some = refl
one_more None rows some = some

first_some : (t : Bool) (r : Reply) (rows : List (Option Reply)) → t ≡ true → IsSome (first (refused_when t r ∷ rows))
first_some t r rows e = rw e refl

none_test : {A : Type 0} (x : Option A) → is_some x ≡ false → is_none x ≡ true
none_test None e = refl
none_test (Some y) e = cc e

and_false : (a b : Bool) → (a && b) ≡ false → (a ≡ false) ⊎ (b ≡ false)
and_false false b e = inl refl
and_false true b e = inr e

above : (n most : ℕ) → nat_le n most ≡ false → nat_lt most n ≡ true
above n most e = grind (arith, nat_tests, e)

-- a handle that is not held is refused
some_unheld : (session : Option Session) (handles : List ℕ) → list_all (λ handle. is_some (held_in session handle)) handles ≡ false → IsSome (no_handle_in session handles)
unfolding no_handle_in
some_unheld session [] e = cc e
some_unheld session (handle ∷ handles) e = go (held_in session handle) refl (some_unheld session handles)
  where
    go : (held : Option Held) → held_in session handle ≡ held → (list_all (λ h. is_some (held_in session h)) handles ≡ false → IsSome (first (map (λ h. no_such_handle session h) handles))) → IsSome (first (refused_when (is_none (held_in session handle)) (reply.NoHandle handle) ∷ map (λ h. no_such_handle session h) handles))
    go None f later = rw f refl
    go (Some held) f later = rw f (later (rw f at e))

-- ---- an operation without its address

module _ (limits : Limits) (s : Store) (v : OpView) (same : s.sessions ≡ as_sessions v.seats) (free : v.busy ≡ None) where
  seen : (name : List ℕ) → open_in v name ≡ session_at s name
  seen name = sym (session_is s v.seats same name)

  no_busy : is_busy v ≡ None
  no_busy = ap (λ (b : Option ℕ). option_map (λ (line : ℕ). reply.Busy line) b) free

  -- it is refused by the view as the plain store refuses it
  pub record IsEarly (o : Op) : Type 0 where
    pub alike : refusal_of v o ≡ first (refusals limits s o)
    pub some : IsSome (first (refusals limits s o))

  read_early : (name : List ℕ) (handle : ℕ) → held_at (seat_of name v.seats) handle ≡ None → IsEarly (op.Read name handle)
  unfolding refusals refusals_of
  read_early name handle unheld = record {
    alike =
        skip (not_open v name) (is_busy v) (not_held v name (handle ∷ []) ∷ outdated v name (handle ∷ []) ∷ no_more_handles v name v.pointers ∷ []) no_busy
        ∙ ap (λ (session : Option Session). first (refused_when (is_none session) (reply.NoSession name) ∷ no_handle_in session (handle ∷ []) ∷ outdated v name (handle ∷ []) ∷ no_more_handles v name v.pointers ∷ [])) (seen name)
        ∙ cut (front (session_at s name)) _ (stale s name (epoch_at s a) (handle ∷ []) ∷ handles_full limits s name (length (pointers_at s a)) ∷ []) (refuses (session_at s name) nobody);
    some = subst (λ rows. IsSome rows) (cut (front (session_at s name)) [] (stale s name (epoch_at s a) (handle ∷ []) ∷ handles_full limits s name (length (pointers_at s a)) ∷ []) (refuses (session_at s name) nobody)) (refuses (session_at s name) nobody);
  }
    where
      a : Address
      a = address_of s name handle

      front : Option Session → List (Option Reply)
      front session = refused_when (is_none session) (reply.NoSession name) ∷ no_handle_in session (handle ∷ []) ∷ []

      nobody : held_in (session_at s name) handle ≡ None
      nobody = held_is s v.seats same name handle ∙ unheld

      refuses : (session : Option Session) → held_in session handle ≡ None → IsSome (first (front session))
      refuses session e = one_more (refused_when (is_none session) (reply.NoSession name)) (no_handle_in session (handle ∷ []) ∷ []) (later (no_handle_in session (handle ∷ [])) (some_unheld session (handle ∷ []) (rw e refl)))
        where
          later : (x : Option Reply) → IsSome x → IsSome (first (x ∷ []))
          later None some = cc some
          later (Some q) some = refl

  write_early : (name payload handles : List ℕ) → has_block s name payload handles ≡ false → IsEarly (op.Write name payload handles None)
  unfolding refusals refusals_of
  write_early name payload handles none = record {
    alike =
        skip (not_open v name) (is_busy v) (too_long payload ∷ too_many handles ∷ not_held v name handles ∷ behind) no_busy
        ∙ ap (λ (session : Option Session). first (refused_when (is_none session) (reply.NoSession name) ∷ too_long payload ∷ too_many handles ∷ no_handle_in session handles ∷ behind)) (seen name)
        ∙ cut front behind others refuses;
    some = subst (λ rows. IsSome rows) (cut front [] others refuses) refuses;
  }
    where
      a : Address
      a = given_address None

      behind : List (Option Reply)
      behind = no_more_handles v name 1 ∷ outdated v name handles ∷ no_room_for_block v ∷ []

      others : List (Option Reply)
      others = handles_full limits s name 1 ∷ stale s name (epoch_at s a) handles ∷ collision s a (written s name payload handles) ∷ shard_full limits s a ∷ []

      front : List (Option Reply)
      front = refused_when (is_none (session_at s name)) (reply.NoSession name) ∷ too_long payload ∷ too_many handles ∷ no_handle_in (session_at s name) handles ∷ []

      last : (x : Option Reply) → IsSome x → IsSome (first (x ∷ []))
      last None some = cc some
      last (Some q) some = refl

      by_parts : (x y z : Option Reply) (b c d : Bool) → ((d && c) && b) ≡ false → (b ≡ false → IsSome x) → (c ≡ false → IsSome y) → (d ≡ false → IsSome z) → IsSome (first (x ∷ y ∷ z ∷ []))
      by_parts x y z b c d e f g h = elim (and_false (d && c) b e) [
        | inl k ↦ elim (and_false d c k) [
          | inl l ↦ one_more x (y ∷ z ∷ []) (one_more y (z ∷ []) (last z (h l)))
          | inr l ↦ one_more x (y ∷ z ∷ []) (at_front y (z ∷ []) (g l))
        ]
        | inr k ↦ at_front x (y ∷ z ∷ []) (f k)
      ]
        where
          at_front : (u : Option Reply) (rows : List (Option Reply)) → IsSome u → IsSome (first (u ∷ rows))
          at_front None rows some = cc some
          at_front (Some q) rows some = refl

      long : nat_le (length payload) MOST_BYTES ≡ false → IsSome (too_long payload)
      long e = rw (above (length payload) MOST_BYTES e) refl

      many : nat_le (length handles) MOST_POINTERS ≡ false → IsSome (too_many handles)
      many e = rw (above (length handles) MOST_POINTERS e) refl

      refuses : IsSome (first front)
      refuses =
          one_more (refused_when (is_none (session_at s name)) (reply.NoSession name)) (too_long payload ∷ too_many handles ∷ no_handle_in (session_at s name) handles ∷ [])
          (by_parts (too_long payload) (too_many handles) (no_handle_in (session_at s name) handles) (nat_le (length payload) MOST_BYTES) (nat_le (length handles) MOST_POINTERS)
          (list_all (λ handle. is_some (held_in (session_at s name) handle)) handles) none long many (some_unheld (session_at s name) handles))

  -- so each operation has its address, or is refused early
  pub addressed_or_early : (o : Op) → IsAsked s o → IsAddressed v.seats o ⊎ IsEarly o
  addressed_or_early (op.Open name) asked = inl tt
  addressed_or_early (op.Close name) asked = inl tt
  addressed_or_early (op.Write name payload handles None) asked = inr (write_early name payload handles asked)
  addressed_or_early (op.Write name payload handles (Some a)) asked = inl refl
  addressed_or_early (op.Read name handle) asked = go (held_at (seat_of name v.seats) handle) refl
    where
      go : (held : Option Held) → held_at (seat_of name v.seats) handle ≡ held → IsAddressed v.seats (op.Read name handle) ⊎ IsEarly (op.Read name handle)
      go None e = inr (read_early name handle e)
      go (Some held) e = inl (subst (λ x. IsSome x) (sym e) refl)
  addressed_or_early (op.Look name key) asked = inl tt
  addressed_or_early (op.Root name key handle) asked = inl tt
  addressed_or_early (op.Drop key) asked = inl tt
  addressed_or_early (op.Forget name handle) asked = inl tt
  addressed_or_early (op.Name name handle) asked = inl tt
  addressed_or_early op.Delete asked = inl tt
  addressed_or_early op.Stat asked = inl tt

pub asked_from_address : (s : Store) (seats : Seats) (o : Op) → IsAddressed seats o → IsAsked s o
asked_from_address s seats (op.Open name) h = tt
asked_from_address s seats (op.Close name) h = tt
asked_from_address s seats (op.Write name payload handles None) h = cc h
asked_from_address s seats (op.Write name payload handles (Some a)) h = tt
asked_from_address s seats (op.Read name handle) h = tt
asked_from_address s seats (op.Look name key) h = tt
asked_from_address s seats (op.Root name key handle) h = tt
asked_from_address s seats (op.Drop key) h = tt
asked_from_address s seats (op.Forget name handle) h = tt
asked_from_address s seats (op.Name name handle) h = tt
asked_from_address s seats op.Delete h = tt
asked_from_address s seats op.Stat h = tt
