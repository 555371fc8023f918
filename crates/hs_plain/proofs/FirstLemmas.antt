-- The first refusal of a list of handles, handle by handle.
use Rattle.std.proofs.Common.{◌≡◌, ℕ, ◌+◌, ◌<◌, ◌≤◌, Bool, refl, List, [], ◌∷◌, ◌++◌, length, Option, Some, None, get_or, drop, ◌∙◌}
use Rattle.std.proofs.lemmas.List.{at_drop_more, at_drop_all}
use Rattle.hs_model.specs.declared.reply.Reply.{Reply}
use Rattle.hs_limits.specs.declared.address.Address.{Address}
use Rattle.hs_limits.specs.declared.limits.Limits.{Limits}
use Rattle.hs_model.specs.declared.op.Asked.TheVariants as asked
use Rattle.hs_model.specs.declared.reply.Reply.TheVariants as reply
use Rattle.hs_model.specs.Deeds.{is_too_long, refusals_told}
use Rattle.hs_model.specs.Judge.{given_address}
use Rattle.hs_model.specs.Refusals.{first, handles_full, handles_full_in, no_handle, no_session, no_such_handle, no_handle_in, refused_when, shard_full, stale, stale_handle, stale_in, too_many}
use Rattle.hs_model.specs.Store.{Session, Store, epoch_at, held_in, session_at}

-- a refusal at the head is the first, and none there leaves the rest
pub first-some : (o : Option Reply) (r : Reply) (rest : List (Option Reply)) → o ≡ Some r → first (o ∷ rest) ≡ Some r
first-some o r rest e = rw e

pub first-none : (o : Option Reply) (rest : List (Option Reply)) → o ≡ None → first (o ∷ rest) ≡ first rest
first-none o rest e = rw e

pub first-second : (o p : Option Reply) (r : Reply) (rest : List (Option Reply)) → o ≡ None → p ≡ Some r → first (o ∷ p ∷ rest) ≡ Some r
first-second o p r rest e f = rw (e, f)

pub no_handle_found : (session : Option Session) (handles : List ℕ) (i : ℕ) (r : Reply) → i < length handles → no_such_handle session (get_or handles i 0) ≡ Some r → no_handle_in session (drop i handles) ≡ Some r
unfolding no_handle_in
no_handle_found session handles i r h e =
    at_drop_more (no_handle_in session) handles i 0 h ∙ first-some (no_such_handle session (get_or handles i 0)) r _ e

pub no_handle_skips : (session : Option Session) (handles : List ℕ) (i : ℕ) → i < length handles → no_such_handle session (get_or handles i 0) ≡ None → no_handle_in session (drop i handles) ≡ no_handle_in session (drop (i + 1) handles)
unfolding no_handle_in
no_handle_skips session handles i h e =
    at_drop_more (no_handle_in session) handles i 0 h ∙ first-none (no_such_handle session (get_or handles i 0)) _ e

pub no_handle_ends : (session : Option Session) (handles : List ℕ) (i : ℕ) → length handles ≤ i → no_handle_in session (drop i handles) ≡ None
unfolding no_handle_in
no_handle_ends session handles i h = at_drop_all (no_handle_in session) handles i h

pub stale_found : (session : Option Session) (now : ℕ) (handles : List ℕ) (i : ℕ) (r : Reply) → i < length handles → stale_handle now (get_or handles i 0) (held_in session (get_or handles i 0)) ≡ Some r → stale_in session now (drop i handles) ≡ Some r
unfolding stale_in
stale_found session now handles i r h e =
    at_drop_more (stale_in session now) handles i 0 h ∙ first-some (stale_handle now (get_or handles i 0) (held_in session (get_or handles i 0))) r _ e

pub stale_skips : (session : Option Session) (now : ℕ) (handles : List ℕ) (i : ℕ) → i < length handles → stale_handle now (get_or handles i 0) (held_in session (get_or handles i 0)) ≡ None → stale_in session now (drop i handles) ≡ stale_in session now (drop (i + 1) handles)
unfolding stale_in
stale_skips session now handles i h e =
    at_drop_more (stale_in session now) handles i 0 h ∙ first-none (stale_handle now (get_or handles i 0) (held_in session (get_or handles i 0))) _ e

pub stale_ends : (session : Option Session) (now : ℕ) (handles : List ℕ) (i : ℕ) → length handles ≤ i → stale_in session now (drop i handles) ≡ None
unfolding stale_in
stale_ends session now handles i h = at_drop_all (stale_in session now) handles i h

-- ---- a write as it is told

pub write_told : (limits : Limits) (s : Store) (name : List ℕ) (bytes : ℕ) (handles : List ℕ) (now : ℕ) (session : Session) → session_at s name ≡ Some session → first (no_session s name ∷ is_too_long bytes ∷ too_many handles ∷ no_handle s name handles ∷ handles_full limits s name 1 ∷ stale s name now handles ∷ []) ≡ first (is_too_long bytes ∷ too_many handles ∷ no_handle_in (Some session) handles ∷ handles_full_in limits (Some session) 1 ∷ stale_in (Some session) now handles ∷ [])
write_told limits s name bytes handles now session e = rw e

pub first_one : (o : Option Reply) → first (o ∷ []) ≡ o
first_one None = refl
first_one (Some r) = refl

front_some : (xs ys : List (Option Reply)) (r : Reply) → first xs ≡ Some r → first (xs ++ ys) ≡ Some r
front_some [] ys r e = absurd (cc e)
front_some (Some q ∷ xs) ys r e = e
front_some (None ∷ xs) ys r e = front_some xs ys r e

front_none : (xs ys : List (Option Reply)) → first xs ≡ None → first (xs ++ ys) ≡ first ys
front_none [] ys e = refl
front_none (Some q ∷ xs) ys e = absurd (cc e)
front_none (None ∷ xs) ys e = front_none xs ys e

module _ (limits : Limits) (s : Store) (name : List ℕ) (bytes : ℕ) (handles : List ℕ) (address : Option Address) (collides : Bool) where
  abbrev of_session : List (Option Reply)
  of_session = no_session s name ∷ is_too_long bytes ∷ too_many handles ∷ no_handle s name handles ∷ handles_full limits s name 1 ∷ stale s name (epoch_at s (given_address address)) handles ∷ []

  abbrev of_block : List (Option Reply)
  of_block = refused_when collides reply.Collision ∷ shard_full limits s (given_address address) ∷ []

  pub told_of_session : (r : Reply) → first of_session ≡ Some r → first (refusals_told limits s (asked.Write name bytes handles address) collides) ≡ Some r
  unfolding refusals_told
  told_of_session r e = front_some of_session of_block r e

  pub told_of_block : first of_session ≡ None → first (refusals_told limits s (asked.Write name bytes handles address) collides) ≡ first of_block
  unfolding refusals_told
  told_of_block e = front_none of_session of_block e
