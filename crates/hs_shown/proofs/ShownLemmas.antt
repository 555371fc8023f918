-- What a view shows of a plain store: sessions, handles, epochs, roots.
use Rattle.std.proofs.Common.{◌≡◌, ℕ, Bool, true, false, not, List, Option, Some, None, is_none, is_some, length, refl, sym, ap, ◌∙◌}
use Rattle.std.specs.BTreeMap.{is_at}
use Rattle.std.specs.Map.{lookup}
use Rattle.std.specs.Option.{option_map, option_map_or, option_or}
use Rattle.std.specs.Prelude.{bytes_eq, slice_index, unwrap_or}
use Rattle.std.proofs.Math.Nat.{zero-mod}
use Rattle.std.proofs.lemmas.List.{length-map}
use Rattle.std.proofs.lemmas.Map.Made.{lookup-map_values}
use Rattle.hs_limits.specs.Shape.{shard_of}
use Rattle.hs_limits.specs.declared.address.Address.{Address}
use Rattle.hs_limits.specs.declared.address.Held.{Held}
use Rattle.hs_limits.specs.declared.limits.Limits.{Limits}
use Rattle.hs_model.specs.Judge.{address_of, given_address, held_or, nothing}
use Rattle.hs_model.specs.Refusals.{keeps_other}
use Rattle.hs_model.specs.Store.{Root, Session, Store, epoch_at, held_in, retained_at, root_epoch, session_at, text_cmp}
use Rattle.hs_model.specs.declared.op.Op.{Op}
use Rattle.hs_model.specs.declared.op.Op.TheVariants as op
use Rattle.hs_ops.specs.Refusals.{differs}
use Rattle.hs_model.specs.Op.{named_key}
use Rattle.hs_ops.specs.Views.{OpView, as_session, kept_in, now_in, open_in}
use Rattle.hs_roots.specs.declared.root.RootRecord.{RootRecord}
use Rattle.hs_shown.specs.Showing.{Shows}
use Rattle.hs_tokens.specs.Seats.{Seat, found, held_at, seat_of}

-- ---- sessions and handles

pub session_is : (limits : Limits) (s : Store) (o : Op) (v : OpView) → Shows limits s o v → (name : List ℕ) → session_at s name ≡ open_in v name
session_is limits s o v shows name =
    ap (λ (sessions : List (List ℕ × Session)). lookup (is_at (text_cmp name)) sessions) shows.sessions ∙ lookup-map_values as_session (is_at (text_cmp name)) v.seats

pub sessions_count : (limits : Limits) (s : Store) (o : Op) (v : OpView) → Shows limits s o v → length s.sessions ≡ length v.seats
sessions_count limits s o v shows =
    ap (λ (sessions : List (List ℕ × Session)). length sessions) shows.sessions ∙ length-map v.seats (λ e. (e.0, as_session e.1))

held_is : (seat : Option Seat) (handle : ℕ) → held_in (option_map as_session seat) handle ≡ held_at seat handle
held_is None handle = refl
held_is (Some seat) handle = refl

pub found_is : (limits : Limits) (s : Store) (o : Op) (v : OpView) → Shows limits s o v → (name : List ℕ) (handle : ℕ) → held_or s name handle ≡ found v.seats name handle
found_is limits s o v shows name handle =
    ap (λ (held : Option Held). unwrap_or held nothing) (ap (λ (session : Option Session). held_in session handle) (session_is limits s o v shows name) ∙ held_is (seat_of name v.seats) handle)

pub address_is : (limits : Limits) (s : Store) (o : Op) (v : OpView) → Shows limits s o v → (name : List ℕ) (handle : ℕ) → address_of s name handle ≡ (found v.seats name handle).address
address_is limits s o v shows name handle = ap (λ (held : Held). held.address) (found_is limits s o v shows name handle)

-- ---- the epoch of the shard that judges

now_at : (limits : Limits) (s : Store) (o : Op) (v : OpView) → Shows limits s o v → (shard : ℕ) → v.shard ≡ shard → slice_index s.epochs shard ≡ now_in v
now_at limits s o v shows shard e =
    ap (λ (n : ℕ). slice_index s.epochs n) (sym e) ∙ ap (λ (epochs : List ℕ). slice_index epochs v.shard) (sym shows.epochs)

write_shard : (shards : ℕ) (address : Option Address) → unwrap_or (option_or None (option_map (shard_of shards) address)) 0 ≡ shard_of shards (given_address address)
write_shard shards (Some a) = refl
write_shard shards None = sym (zero-mod shards)

pub write_now : (limits : Limits) (s : Store) (v : OpView) (name payload handles : List ℕ) (address : Option Address) → Shows limits s (op.Write name payload handles address) v → epoch_at s (given_address address) ≡ now_in v
write_now limits s v name payload handles address shows =
    now_at limits s _ v shows (shard_of (length s.epochs) (given_address address)) (shows.judging ∙ write_shard (length s.epochs) address)

read_shard : (shards : ℕ) (held : Option Held) → unwrap_or (option_or None (option_map (shard_of shards) (option_map (λ h. h.address) held))) 0 ≡ shard_of shards (unwrap_or held nothing).address
read_shard shards (Some held) = refl
read_shard shards None = sym (zero-mod shards)

pub read_now : (limits : Limits) (s : Store) (v : OpView) (name : List ℕ) (handle : ℕ) → Shows limits s (op.Read name handle) v → epoch_at s (address_of s name handle) ≡ now_in v
read_now limits s v name handle shows =
    ap (λ (a : Address). epoch_at s a) (address_is limits s _ v shows name handle)
    ∙ now_at limits s _ v shows (shard_of (length s.epochs) (found v.seats name handle).address) (shows.judging ∙ read_shard (length s.epochs) (held_at (seat_of name v.seats) handle))

pub look_now : (limits : Limits) (s : Store) (v : OpView) (name key : List ℕ) → Shows limits s (op.Look name key) v → root_epoch s key ≡ now_in v
look_now limits s v name key shows = now_at limits s _ v shows _ shows.judging

pub root_now : (limits : Limits) (s : Store) (v : OpView) (name key : List ℕ) (handle : ℕ) → Shows limits s (op.Root name key handle) v → root_epoch s key ≡ now_in v
root_now limits s v name key handle shows = now_at limits s _ v shows _ shows.judging

-- ---- roots

none_mapped : {A B : Type 0} (f : A → B) (x : Option A) → is_none (option_map f x) ≡ is_none x
none_mapped f None = refl
none_mapped f (Some y) = refl

pub kept_none : (limits : Limits) (s : Store) (o : Op) (v : OpView) (key : List ℕ) → Shows limits s o v → named_key o ≡ Some key → is_none (retained_at s key) ≡ is_none (kept_in v key)
kept_none limits s o v key shows e =
    sym (none_mapped (λ (root : Root). root.address) (retained_at s key)) ∙ ap (λ (x : Option Address). is_none x) (sym (shows.kept key e)) ∙ none_mapped (λ (root : RootRecord). root.address) (kept_in v key)

abbrev other_than : Address → Option Address → Bool
other_than a kept = option_map_or (λ b. not (bytes_eq b.0 a.0)) kept false

keeps_is : (root : Option Root) (a : Address) → keeps_other root a ≡ other_than a (option_map (λ r. r.address) root)
keeps_is None a = refl
keeps_is (Some root) a = refl

differs_is : (root : Option RootRecord) (a : Address) → differs a root ≡ other_than a (option_map (λ r. r.address) root)
differs_is None a = refl
differs_is (Some root) a = refl

pub kept_differs : (limits : Limits) (s : Store) (o : Op) (v : OpView) (key : List ℕ) (a b : Address) → Shows limits s o v → named_key o ≡ Some key → a ≡ b → keeps_other (retained_at s key) a ≡ differs b (kept_in v key)
kept_differs limits s o v key a b shows e f =
    ap (λ (c : Address). keeps_other (retained_at s key) c) f ∙ keeps_is (retained_at s key) b ∙ ap (λ (x : Option Address). other_than b x) (sym (shows.kept key e)) ∙ sym (differs_is (kept_in v key) b)

-- ---- room

pub not_room : (full room : Bool) → room ≡ not full → full ≡ not room
not_room true room e = rw e refl
not_room false room e = rw e refl

pub none_is : {A B : Type 0} (x : Option A) (y : Option B) → is_some x ≡ is_some y → is_none y ≡ is_none x
none_is None None e = refl
none_is None (Some b) e = cc
none_is (Some a) None e = cc
none_is (Some a) (Some b) e = refl
