-- Of which kinds of replies refusals are: none of them answers what was done, and the store refuses none as busy.
use Rattle.std.proofs.Common.{◌≡◌, ℕ, ◌+◌, Bool, true, false, List, [], ◌∷◌, map, Option, Some, None, is_none, nat_lt, refl, subst, sym}
use Rattle.std.specs.List.{AllByRecursion}
use Rattle.std.specs.Option.{option_map}
use Rattle.hs_limits.specs.declared.address.Held.{Held}
use Rattle.hs_limits.specs.declared.limits.Limits.{Limits}
use Rattle.hs_model.specs.declared.op.Op.{Op}
use Rattle.hs_model.specs.declared.op.Op.TheVariants as op
use Rattle.hs_model.specs.declared.reply.Reply.{Reply}
use Rattle.hs_model.specs.declared.reply.Reply.TheVariants as reply
use Rattle.hs_model.specs.Judge.{refusals}
use Rattle.hs_model.specs.Refusals.{first, no_handle_in, no_such_handle, refused_when, stale_handle, stale_in}
use Rattle.hs_model.specs.Store.{Session, Store, held_in}
use Rattle.hs_ops.specs.Answers.{is_done}
use Rattle.hs_ops.specs.Refusals.{is_busy, refusal_of, refusals_of}
use Rattle.hs_ops.specs.Views.{OpView}

-- a refusal, where there is one, is of a kind of replies
abbrev pub IsOfKind : (Reply → Type 0) → Option Reply → Type 0
IsOfKind P None = Unit {0}
IsOfKind P (Some r) = P r

-- no reply that answers what was done
abbrev pub Stops : Reply → Type 0
Stops r = is_done r ≡ false

-- no reply that a session is busy
abbrev pub IsNotBusy : Reply → Type 0
IsNotBusy (reply.Busy line) = ⊥
IsNotBusy other = Unit {0}

-- the replies of the plain store's refusals are of the kind
pub record Holds (P : Reply → Type 0) : Type 0 where
  pub no_session : (name : List ℕ) → P (reply.NoSession name)
  pub session_taken : (name : List ℕ) → P (reply.SessionTaken name)
  pub sessions_full : (limit : ℕ) → P (reply.SessionsFull limit)
  pub too_long : (found : ℕ) → P (reply.TooLong found)
  pub too_many : (found : ℕ) → P (reply.TooMany found)
  pub no_handle : (handle : ℕ) → P (reply.NoHandle handle)
  pub handles_full : (limit : ℕ) → P (reply.HandlesFull limit)
  pub stale : (handle held now : ℕ) → P (reply.Stale handle held now)
  pub collision : P reply.Collision
  pub shard_full : (limit : ℕ) → P (reply.ShardFull limit)
  pub key_taken : (key : List ℕ) → P (reply.KeyTaken key)
  pub no_key : (key : List ℕ) → P (reply.NoKey key)
  pub roots_full : (limit : ℕ) → P (reply.RootsFull limit)
  pub running : (epoch : ℕ) → P (reply.Running epoch)
  pub epoch_end : (limit : ℕ) → P (reply.EpochEnd limit)

pub they_stop : Holds Stops
they_stop = record {
  no_session = λ name. refl;
  session_taken = λ name. refl;
  sessions_full = λ limit. refl;
  too_long = λ found. refl;
  too_many = λ found. refl;
  no_handle = λ handle. refl;
  handles_full = λ limit. refl;
  stale = λ handle held now. refl;
  collision = refl;
  shard_full = λ limit. refl;
  key_taken = λ key. refl;
  no_key = λ key. refl;
  roots_full = λ limit. refl;
  running = λ epoch. refl;
  epoch_end = λ limit. refl;
}

pub not_busy : Holds IsNotBusy
not_busy = record {
  no_session = λ name. tt;
  session_taken = λ name. tt;
  sessions_full = λ limit. tt;
  too_long = λ found. tt;
  too_many = λ found. tt;
  no_handle = λ handle. tt;
  handles_full = λ limit. tt;
  stale = λ handle held now. tt;
  collision = tt;
  shard_full = λ limit. tt;
  key_taken = λ key. tt;
  no_key = λ key. tt;
  roots_full = λ limit. tt;
  running = λ epoch. tt;
  epoch_end = λ limit. tt;
}

module _ (P : Reply → Type 0) where
  -- ---- rows

  when : (t : Bool) (r : Reply) → P r → IsOfKind P (refused_when t r)
  when true r e = e
  when false r e = tt

  pub first_is : (rows : List (Option Reply)) → AllByRecursion (IsOfKind P) rows → IsOfKind P (first rows)
  first_is [] h = tt
  first_is (Some r ∷ rows) h = h.0
  first_is (None ∷ rows) h = first_is rows h.1

  each_is : (f : ℕ → Option Reply) → ((x : ℕ) → IsOfKind P (f x)) → (xs : List ℕ) → AllByRecursion (IsOfKind P) (map f xs)
  each_is f h [] = tt
  each_is f h (x ∷ xs) = (h x, each_is f h xs)

  module _ (its : Holds P) where
    not_held : (session : Option Session) (handles : List ℕ) → IsOfKind P (no_handle_in session handles)
    unfolding no_handle_in
    not_held session handles =
        first_is (map (λ handle. no_such_handle session handle) handles)
        (each_is (λ handle. no_such_handle session handle) (λ handle. when (is_none (held_in session handle)) (reply.NoHandle handle) (its.no_handle handle)) handles)

    outdated : (session : Option Session) (now : ℕ) (handles : List ℕ) → IsOfKind P (stale_in session now handles)
    unfolding stale_in
    outdated session now handles =
        first_is (map (λ handle. stale_handle now handle (held_in session handle)) handles)
        (each_is (λ handle. stale_handle now handle (held_in session handle)) (λ handle. one handle (held_in session handle)) handles)
      where
        one : (handle : ℕ) (held : Option Held) → IsOfKind P (stale_handle now handle held)
        one handle None = tt
        one handle (Some held) = when (nat_lt (held.epoch + 1) now) (reply.Stale handle held.epoch now) (its.stale _ _ _)

    -- ---- those of a view, where its session is not busy, or that is of the kind too

    pub view_refuses : (v : OpView) (o : Op) → IsOfKind P (is_busy v) → AllByRecursion (IsOfKind P) (refusals_of v o)
    unfolding refusals_of
    view_refuses v (op.Open name) busy = (when _ _ (its.session_taken _), (when _ _ (its.sessions_full _), tt))
    view_refuses v (op.Close name) busy = (when _ _ (its.no_session _), (busy, tt))
    view_refuses v (op.Write name payload handles address) busy = (
      when _ _ (its.no_session _),
      (
        busy,
        (
          when _ _ (its.too_long _),
          (when _ _ (its.too_many _), (not_held _ handles, (when _ _ (its.handles_full _), (outdated _ _ handles, (when _ _ (its.shard_full _), tt))))),
        ),
      ),
    )
    view_refuses v (op.Read name handle) busy =
        (when _ _ (its.no_session _), (busy, (not_held _ (handle ∷ []), (outdated _ _ (handle ∷ []), (when _ _ (its.handles_full _), tt)))))
    view_refuses v (op.Look name key) busy = (when _ _ (its.no_session _), (busy, (when _ _ (its.handles_full _), (when _ _ (its.no_key _), tt))))
    view_refuses v (op.Root name key handle) busy = (
      when _ _ (its.no_session _),
      (busy, (not_held _ (handle ∷ []), (outdated _ _ (handle ∷ []), (when _ _ (its.key_taken _), (when _ _ (its.roots_full _), tt))))),
    )
    view_refuses v (op.Drop key) busy = (when _ _ (its.no_key _), tt)
    view_refuses v (op.Forget name handle) busy = (when _ _ (its.no_session _), (busy, (not_held _ (handle ∷ []), tt)))
    view_refuses v (op.Name name handle) busy = (when _ _ (its.no_session _), (busy, (not_held _ (handle ∷ []), tt)))
    view_refuses v op.Delete busy = (when _ _ (its.running _), (when _ _ (its.epoch_end _), tt))
    view_refuses v op.Stat busy = tt

    pub view_stops : (v : OpView) (o : Op) → IsOfKind P (is_busy v) → IsOfKind P (refusal_of v o)
    view_stops v o busy = first_is (refusals_of v o) (view_refuses v o busy)

    -- ---- those of the plain store

    pub store_refuses : (limits : Limits) (s : Store) (o : Op) → AllByRecursion (IsOfKind P) (refusals limits s o)
    unfolding refusals
    store_refuses limits s (op.Open name) = (when _ _ (its.session_taken _), (when _ _ (its.sessions_full _), tt))
    store_refuses limits s (op.Close name) = (when _ _ (its.no_session _), tt)
    store_refuses limits s (op.Write name payload handles address) = (
      when _ _ (its.no_session _),
      (
        when _ _ (its.too_long _),
        (
          when _ _ (its.too_many _),
          (not_held _ handles, (when _ _ (its.handles_full _), (outdated _ _ handles, (when _ _ its.collision, (when _ _ (its.shard_full _), tt))))),
        ),
      ),
    )
    store_refuses limits s (op.Read name handle) =
        (when _ _ (its.no_session _), (not_held _ (handle ∷ []), (outdated _ _ (handle ∷ []), (when _ _ (its.handles_full _), tt))))
    store_refuses limits s (op.Look name key) = (when _ _ (its.no_session _), (when _ _ (its.handles_full _), (when _ _ (its.no_key _), tt)))
    store_refuses limits s (op.Root name key handle) = (
      when _ _ (its.no_session _),
      (not_held _ (handle ∷ []), (outdated _ _ (handle ∷ []), (when _ _ (its.key_taken _), (when _ _ (its.roots_full _), tt)))),
    )
    store_refuses limits s (op.Drop key) = (when _ _ (its.no_key _), tt)
    store_refuses limits s (op.Forget name handle) = (when _ _ (its.no_session _), (not_held _ (handle ∷ []), tt))
    store_refuses limits s (op.Name name handle) = (when _ _ (its.no_session _), (not_held _ (handle ∷ []), tt))
    store_refuses limits s op.Delete = (when _ _ (its.running _), (when _ _ (its.epoch_end _), tt))
    store_refuses limits s op.Stat = tt

    pub store_stops : (limits : Limits) (s : Store) (o : Op) → IsOfKind P (first (refusals limits s o))
    store_stops limits s o = first_is (refusals limits s o) (store_refuses limits s o)

-- ---- busy sessions

-- that a session is busy is no reply that answers what was done
pub busy_stops : (v : OpView) → IsOfKind Stops (is_busy v)
busy_stops v = go v.busy
  where
    go : (line : Option ℕ) → IsOfKind Stops (option_map (λ line. reply.Busy line) line)
    go None = tt
    go (Some line) = refl

-- nobody is told so where the session has no other operation
pub not_told_busy : (v : OpView) → v.busy ≡ None → IsOfKind IsNotBusy (is_busy v)
not_told_busy v free = subst (λ b. IsOfKind IsNotBusy (option_map (λ (line : ℕ). reply.Busy line) b)) (sym free) tt
