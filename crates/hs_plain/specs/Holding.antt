-- What a session holds, by tests over its handles.
use Rattle.std.specs.Prelude.{ℕ, ◌+◌, Bool, false, ◌==◌, ◌&&◌, List, Some, bytes_eq, is_none, length, nat_le}
use Rattle.std.specs.List.{list_all, list_any}
use Rattle.std.specs.Map.{keys_of}
use Rattle.std.specs.Option.{option_map_or}
use Rattle.hs_limits.specs.declared.address.Address.{Address}
use Rattle.hs_limits.specs.declared.address.Held.{Held}
use Rattle.hs_limits.specs.declared.limits.Limits.{Limits}
use Rattle.hs_limits.specs.declared.spelling.TheConstants.{MOST_POINTERS}
use Rattle.hs_model.specs.Refusals.{handles_full_in}
use Rattle.hs_model.specs.Store.{Session, Store, held_in, session_at}

-- whether what is held is an address, in an epoch that is fresh in another
abbrev pub is_fresh_of : ℕ → Address → Held → Bool
is_fresh_of now a held = bytes_eq held.address.0 a.0 && nat_le now (held.epoch + 1)

-- whether it is this
abbrev pub is_held : Held → Held → Bool
is_held wanted held = bytes_eq held.address.0 wanted.address.0 && held.epoch == wanted.epoch

-- whether a handle of a session stands for what passes a test
abbrev pub has_some : (Held → Bool) → Session → Bool
has_some test session = list_any (λ handle. option_map_or test (held_in (Some session) handle) false) (keys_of session.handles)

abbrev pub has_held : Session → Held → Bool
has_held session held = has_some (is_held held) session

abbrev pub has_fresh : Session → ℕ → Address → Bool
has_fresh session now a = has_some (is_fresh_of now a) session

-- whether it has each of some addresses in an epoch that is fresh in another
abbrev pub has_each : Session → ℕ → List Address → Bool
has_each session now addresses = list_all (has_fresh session now) addresses

-- and a handle is its next
abbrev pub may_mark : Session → ℕ → List Address → ℕ → Bool
may_mark session now pointers handle = has_each session now pointers && session.next == handle

-- whether it may write a block that points to some addresses, in an epoch
abbrev pub may_take : Limits → Session → ℕ → List Address → ℕ → Bool
may_take limits session now pointers handle = (may_mark session now pointers handle && nat_le (length pointers) MOST_POINTERS) && is_none (handles_full_in limits (Some session) 1)

-- whether a session is open and has an address in an epoch that is fresh in another
abbrev pub some_has : Store → ℕ → Address → List ℕ → Bool
some_has s now a name = option_map_or (λ session. has_fresh session now a) (session_at s name) false
