-- What an operation saw before its entry takes effect refuses nothing.
use Rattle.std.proofs.Common.{◌≡◌, ◌∙◌, ap, subst, ℕ, zero, suc, ◌+◌, ◌≤◌, ◌<◌, Bool, true, false, cond, not, List, [], ◌∷◌, fold, length, map, min, Option, Some, None, is_none, is_some, refl, arith, bytes_eq, nat_le, slice_index_or, unwrap_or}
use Rattle.std.proofs.lemmas.Bool.{leb-true, le-ltb, ltb-false}
use Rattle.std.proofs.lemmas.List.{length-map}
use Rattle.std.specs.Option.{option_map}
use Rattle.hs_effects.specs.Answered.{HoldAddresses}
use Rattle.hs_effects.specs.Logged.{HasBlock, IsOwn}
use Rattle.hs_effects.proofs.StepLemmas.{all_held, head_none, held_same, join_none, not_when, rest_none}
use Rattle.hs_limits.specs.Block.{HasAddresses, IsBlock}
use Rattle.hs_limits.specs.declared.address.Address.{Address}
use Rattle.hs_limits.specs.declared.address.Held.{Held}
use Rattle.hs_limits.specs.declared.limits.Limits.{Limits}
use Rattle.hs_limits.specs.declared.limits.TheConstants.{LAST_EPOCH}
use Rattle.hs_limits.specs.declared.spelling.TheConstants.{MOST_BYTES, MOST_POINTERS}
use Rattle.hs_model.specs.declared.op.Op.TheVariants as op
use Rattle.hs_model.specs.declared.reply.Reply.TheVariants as reply
use Rattle.hs_model.specs.Refusals.{first, no_handle_in, refused_when, stale_handle, stale_in, too_long, too_many}
use Rattle.hs_model.specs.Store.{Session, held_in}
use Rattle.hs_ops.specs.Refusals.{differs, is_busy, kept_otherwise, no_more_handles, no_room_for_block, no_room_for_root, not_held, not_open, outdated, refusal_of, refusals_of}
use Rattle.hs_ops.specs.Speaking.{asked_block, helds, least_epoch}
use Rattle.hs_ops.specs.Views.{OpView, as_session, kept_in, now_in, open_in}
use Rattle.hs_roots.specs.Refusals.{put_refusal}
use Rattle.hs_roots.specs.Roots.{Retention}
use Rattle.hs_roots.specs.declared.fault.RootFault.TheVariants.{KeyTaken}
use Rattle.hs_roots.specs.declared.root.RootRecord.{RootRecord}
use Rattle.hs_tokens.specs.Seats.{Seats, found, held_at, nothing, seat_of}

-- ---- handles that may be used

-- what a handle stands for was given late enough
not_stale : (seats : Seats) (session : List ℕ) (handle now : ℕ) → now ≤ (found seats session handle).epoch + 1
    → stale_handle now handle (held_in (option_map as_session (seat_of session seats)) handle) ≡ None
not_stale seats session handle now e = ap (λ x. stale_handle now handle x) (held_same (seat_of session seats) handle) ∙ go (held_at (seat_of session seats) handle) refl
  where
    go : (x : Option Held) → held_at (seat_of session seats) handle ≡ x → stale_handle now handle x ≡ None
    go None at = refl
    go (Some held) at = ap (λ b. refused_when b (reply.Stale handle held.epoch now)) (le-ltb (held.epoch + 1) now (subst (λ n. now ≤ n + 1) (by_found held at) e))
      where
        by_found : (held : Held) → held_at (seat_of session seats) handle ≡ Some held → (found seats session handle).epoch ≡ held.epoch
        by_found held at = ap (λ (y : Option Held). (unwrap_or y nothing).epoch) at

-- the least epoch of some is below that of each
least_below : (i : ℕ) (all : List Held) → fold (λ least (held : Held). min least held.epoch) i all ≤ i
least_below i [] = omega arith
least_below i (x ∷ xs) = let rest = least_below (min i x.epoch) xs in omega (arith, rest)

none_stale : (seats : Seats) (session : List ℕ) (now i : ℕ) (handles : List ℕ) → now ≤ fold (λ least (held : Held). min least held.epoch) i (helds seats session handles) + 1
    → first (map (λ handle. stale_handle now handle (held_in (option_map as_session (seat_of session seats)) handle)) handles) ≡ None
none_stale seats session now i [] e = refl
none_stale seats session now i (h ∷ handles) e =
    let low = least_below (min i (found seats session h).epoch) (helds seats session handles) in
    join_none (stale_handle now h (held_in (option_map as_session (seat_of session seats)) h)) (map (λ handle. stale_handle now handle (held_in (option_map as_session (seat_of session seats)) handle)) handles)
    (not_stale seats session h now (omega (arith, e, low)))
    (none_stale seats session now (min i (found seats session h).epoch) handles e)

-- ---- a root

not_otherwise : (set : Retention) (key : List ℕ) (a : Address) (x : Option RootRecord) → is_some (put_refusal set a x) ≡ false → refused_when (differs a x) (reply.KeyTaken key) ≡ None
not_otherwise set key a None e = refl
not_otherwise set key a (Some root) e = go (bytes_eq root.address.0 a.0) e
  where
    go : (b : Bool) → is_some (cond (not b) (Some KeyTaken) None) ≡ false → refused_when (not b) (reply.KeyTaken key) ≡ None
    go true e = refl
    go false e = absurd (cc e)

pub root_free : (v : OpView) (session key : List ℕ) (handle : ℕ) (set : Retention) → v.busy ≡ None → IsOwn v.limits v.seats (op.Root session key handle)
    → nat_le (now_in v) ((found v.seats session handle).epoch + 1) ≡ true → is_some (put_refusal set (found v.seats session handle).address (kept_in v key)) ≡ false
    → no_room_for_root v key ≡ None → refusal_of v (op.Root session key handle) ≡ None
unfolding refusals_of stale_in
root_free v session key handle set idle own fresh free room =
    let opened = head_none (not_open v session) _ own in
    let held = head_none (not_held v session (handle ∷ [])) [] (rest_none (not_open v session) _ own) in
    join_none (not_open v session) _ opened
    (join_none (is_busy v) _ (ap (λ (x : Option ℕ). option_map (λ line. reply.Busy line) x) idle)
    (join_none (not_held v session (handle ∷ [])) _ held
    (join_none (outdated v session (handle ∷ [])) _
    (join_none (stale_handle (now_in v) handle (held_in (open_in v session) handle)) [] (not_stale v.seats session handle (now_in v) (leb-true (now_in v) ((found v.seats session handle).epoch + 1) fresh)) refl)
    (join_none (kept_otherwise v key (found v.seats session handle).address) _ (not_otherwise set key (found v.seats session handle).address (kept_in v key) free)
    (join_none (no_room_for_root v key) [] room refl)))))

-- ---- a write

pub write_free : (v : OpView) (session payload handles : List ℕ) (address : Option Address) → v.busy ≡ None → IsOwn v.limits v.seats (op.Write session payload handles address)
    → nat_le (now_in v) (least_epoch (helds v.seats session handles) + 1) ≡ true → no_room_for_block v ≡ None → refusal_of v (op.Write session payload handles address) ≡ None
unfolding refusals_of stale_in least_epoch
write_free v session payload handles address idle own fresh room =
    let opened = head_none (not_open v session) _ own in
    let after_open = rest_none (not_open v session) _ own in
    let short = head_none (too_long payload) _ after_open in
    let after_long = rest_none (too_long payload) _ after_open in
    let few = head_none (too_many handles) _ after_long in
    let after_many = rest_none (too_many handles) _ after_long in
    let held = head_none (not_held v session handles) _ after_many in
    let more = head_none (no_more_handles v session 1) [] (rest_none (not_held v session handles) _ after_many) in
    join_none (not_open v session) _ opened
    (join_none (is_busy v) _ (ap (λ (x : Option ℕ). option_map (λ line. reply.Busy line) x) idle)
    (join_none (too_long payload) _ short
    (join_none (too_many handles) _ few
    (join_none (not_held v session handles) _ held
    (join_none (no_more_handles v session 1) _ more
    (join_none (outdated v session handles) _ (none_stale v.seats session (now_in v) LAST_EPOCH handles (leb-true (now_in v) (least_epoch (helds v.seats session handles) + 1) fresh))
    (join_none (no_room_for_block v) [] room refl)))))))

-- one that is not refused for what its session holds has a block
pub own_block : (limits : Limits) (seats : Seats) (session payload handles : List ℕ) (address : Option Address) → IsOwn limits seats (op.Write session payload handles address) → HasBlock seats session payload handles
unfolding no_handle_in
own_block limits seats session payload handles address own =
    let open_one : Option Session = option_map as_session (seat_of session seats) in
    let after_open = rest_none (refused_when (is_none open_one) (reply.NoSession session)) _ own in
    let after_long = rest_none (too_long payload) _ after_open in
    let held = head_none (no_handle_in open_one handles) _ (rest_none (too_many handles) _ after_long) in
    record {
      held = all_held (seat_of session seats) handles held;
      few = ltb-false MOST_POINTERS (length handles) (not_when _ _ (head_none (too_many handles) _ after_long));
      short = ltb-false MOST_BYTES (length payload) (not_when _ _ (head_none (too_long payload) _ after_open));
    }

-- it has the addresses of its handles
pub are_addressed : (seats : Seats) (session payload : List ℕ) → HoldAddresses seats → (handles : List ℕ) → HasAddresses (asked_block seats session payload handles)
unfolding asked_block
are_addressed seats session payload all handles = each handles
  where
    each : (hs : List ℕ) (k : ℕ) (d : Address) → k < length (map (λ held. held.address) (helds seats session hs)) → length (slice_index_or (map (λ held. held.address) (helds seats session hs)) k d).0 ≡ 32
    each [] k d less = absurd (omega (arith, less))
    each (h ∷ hs) zero d less = all session h
    each (h ∷ hs) (suc k) d less = each hs k d (omega (arith, less))

-- and is within its bounds
pub is_bounded : (seats : Seats) (session payload handles : List ℕ) → HasBlock seats session payload handles → IsBlock (asked_block seats session payload handles)
unfolding asked_block
is_bounded seats session payload handles its =
    let outer = length-map (helds seats session handles) (λ (held : Held). held.address) in
    let inner = length-map handles (λ handle. found seats session handle) in
    let few = its.few in
    record { pointers = omega (arith, outer, inner, few); bytes = its.short }
