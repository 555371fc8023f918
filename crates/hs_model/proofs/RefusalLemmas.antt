-- The refusals of an operation whose session is open, and of a write in two parts.
use Rattle.std.proofs.Common.{◌≡◌, ℕ, List, [], ◌∷◌, ◌++◌, Option, Some, None, IsSome, is_none, length, refl, rules}
use Rattle.hs_limits.specs.declared.address.Address.{Address}
use Rattle.hs_limits.specs.declared.limits.Limits.{Limits}
use Rattle.hs_limits.specs.Block.{Block}
use Rattle.hs_model.specs.declared.op.Op.TheVariants as op
use Rattle.hs_model.specs.declared.reply.Reply.{Reply}
use Rattle.hs_model.specs.Judge.{refusals, address_of, pointers_at, given_address, written}
use Rattle.hs_model.specs.Refusals.{first, refused_when, no_session, too_long, too_many, no_handle, no_handle_in, handles_full, handles_full_in, stale, stale_in, collision, shard_full, no_key, key_taken, roots_full}
use Rattle.hs_model.proofs.JudgeLemmas.{root_refusals}
use Rattle.hs_model.specs.Store.{Store, Session, session_at, epoch_at, root_epoch}

-- ---- an open session

pub write_of_open : (limits : Limits) (s : Store) (name payload handles : List ℕ) (now : ℕ) (session : Session) → session_at s name ≡ Some session → first (no_session s name ∷ too_long payload ∷ too_many handles ∷ no_handle s name handles ∷ handles_full limits s name 1 ∷ stale s name now handles ∷ []) ≡ first (too_long payload ∷ too_many handles ∷ no_handle_in (Some session) handles ∷ handles_full_in limits (Some session) 1 ∷ stale_in (Some session) now handles ∷ [])
write_of_open limits s name payload handles now session e = rw e

pub read_of_open : (limits : Limits) (s : Store) (name : List ℕ) (handle : ℕ) (session : Session) (now more : ℕ) → session_at s name ≡ Some session → now ≡ epoch_at s (address_of s name handle) → more ≡ length (pointers_at s (address_of s name handle)) → first (refusals limits s (op.Read name handle)) ≡ first (no_handle_in (Some session) (handle ∷ []) ∷ stale_in (Some session) now (handle ∷ []) ∷ handles_full_in limits (Some session) more ∷ [])
unfolding refusals
read_of_open limits s name handle session now more e f g = rw (f, g, e)

-- what is not refused for its session has an open one
open-from_first : (session : Option Session) (r : Reply) (rest : List (Option Reply)) → first (refused_when (is_none session) r ∷ rest) ≡ None → IsSome session
open-from_first None r rest e = cc
open-from_first (Some session) r rest e = search rules

pub open-from_read : (limits : Limits) (s : Store) (name : List ℕ) (handle : ℕ) → first (refusals limits s (op.Read name handle)) ≡ None → IsSome (session_at s name)
unfolding refusals
open-from_read limits s name handle e = open-from_first (session_at s name) _ _ e

-- ---- the two parts of a write

first-append_some : (xs ys : List (Option Reply)) (r : Reply) → first xs ≡ Some r → first (xs ++ ys) ≡ Some r
first-append_some [] ys r e = cc
first-append_some (Some q ∷ xs) ys r e = e
first-append_some (None ∷ xs) ys r e = first-append_some xs ys r e

first-append_none : (xs ys : List (Option Reply)) → first xs ≡ None → first (xs ++ ys) ≡ first ys
first-append_none [] ys e = refl
first-append_none (Some q ∷ xs) ys e = cc
first-append_none (None ∷ xs) ys e = first-append_none xs ys e

abbrev of_session : Limits → Store → List ℕ → List ℕ → List ℕ → Address → List (Option Reply)
of_session limits s name payload handles a = no_session s name ∷ too_long payload ∷ too_many handles ∷ no_handle s name handles ∷ handles_full limits s name 1 ∷ stale s name (epoch_at s a) handles ∷ []

abbrev of_block : Limits → Store → Address → Block → List (Option Reply)
of_block limits s a block = collision s a block ∷ shard_full limits s a ∷ []

pub write_of_session : (limits : Limits) (s : Store) (name payload handles : List ℕ) (address : Option Address) (a : Address) (r : Reply) → a ≡ given_address address → first (of_session limits s name payload handles a) ≡ Some r → first (refusals limits s (op.Write name payload handles address)) ≡ Some r
unfolding refusals
write_of_session limits s name payload handles address a r e f =
    let g = rw e at f in
    first-append_some (of_session limits s name payload handles (given_address address)) (of_block limits s (given_address address) (written s name payload handles)) r g

pub write_of_block : (limits : Limits) (s : Store) (name payload handles : List ℕ) (address : Option Address) (a : Address) (block : Block) → a ≡ given_address address → block ≡ written s name payload handles → first (of_session limits s name payload handles a) ≡ None → first (refusals limits s (op.Write name payload handles address)) ≡ first (of_block limits s a block)
unfolding refusals
write_of_block limits s name payload handles address a block e d f =
    let g = rw e at f in
    rw (e, d) (first-append_none (of_session limits s name payload handles (given_address address)) (of_block limits s (given_address address) (written s name payload handles)) g)

-- ---- the other operations of an open session

first_one : (o : Option Reply) → first (o ∷ []) ≡ o
first_one None = refl
first_one (Some r) = refl

pub held_of_open : (s : Store) (name handles : List ℕ) (session : Session) → session_at s name ≡ Some session → first (no_session s name ∷ no_handle s name handles ∷ []) ≡ no_handle_in (Some session) handles
held_of_open s name handles session e = rw e (first_one (no_handle_in (Some session) handles))

pub look_full : (limits : Limits) (s : Store) (name key : List ℕ) (session : Session) (r : Reply) → session_at s name ≡ Some session → handles_full_in limits (Some session) 1 ≡ Some r → first (no_session s name ∷ handles_full limits s name 1 ∷ no_key s key ∷ []) ≡ Some r
look_full limits s name key session r e f = rw (e, f)

pub look_key : (limits : Limits) (s : Store) (name key : List ℕ) (session : Session) → session_at s name ≡ Some session → handles_full_in limits (Some session) 1 ≡ None → first (no_session s name ∷ handles_full limits s name 1 ∷ no_key s key ∷ []) ≡ no_key s key
look_key limits s name key session e f = rw (e, f) (first_one (no_key s key))

abbrev of_use : Session → ℕ → ℕ → List (Option Reply)
of_use session now handle = no_handle_in (Some session) (handle ∷ []) ∷ stale_in (Some session) now (handle ∷ []) ∷ []

abbrev of_key : Limits → Store → List ℕ → Address → List (Option Reply)
of_key limits s key a = key_taken s key a ∷ roots_full limits s key ∷ []

pub root_unused : (limits : Limits) (s : Store) (name key : List ℕ) (handle now : ℕ) (session : Session) (r : Reply) → session_at s name ≡ Some session → now ≡ root_epoch s key → first (of_use session now handle) ≡ Some r → first (root_refusals limits s name key handle) ≡ Some r
root_unused limits s name key handle now session r e f g =
    let h = rw f at g in
    rw e (first-append_some (of_use session (root_epoch s key) handle) (of_key limits s key (address_of s name handle)) r h)

pub root_used : (limits : Limits) (s : Store) (name key : List ℕ) (handle now : ℕ) (session : Session) (a : Address) → session_at s name ≡ Some session → now ≡ root_epoch s key → a ≡ address_of s name handle → first (of_use session now handle) ≡ None → first (root_refusals limits s name key handle) ≡ first (of_key limits s key a)
root_used limits s name key handle now session a e f d g =
    let h = rw f at g in
    rw d (rw e (first-append_none (of_use session (root_epoch s key) handle) (of_key limits s key (address_of s name handle)) h))
