-- Whose the answers of a load are: a session's, or nobody's, which are the deleter's.
use Rattle.std.specs.List.{list_any, starts_with}
use Rattle.std.specs.Option.{option_map_or}
use Rattle.std.specs.Prelude.{ℕ, ◌==◌, ◌&&◌, ◌||◌, Bool, false, not, List, [], Option, Some, None, bytes_eq, codes, drop, if◌then◌else◌, length, nat_lt, slice_index_or}
use Rattle.hs_model.specs.declared.deed.Deed.{Deed}
use Rattle.hs_model.specs.declared.deed.Deed.TheVariants as deed
use Rattle.hs_model.specs.declared.op.Asked.{Asked}
use Rattle.hs_model.specs.declared.op.Asked.TheVariants as asked

-- the session that a refused operation names, and the key of one that names no session
abbrev pub asked_session : Asked → Option (List ℕ)
asked_session (asked.Open name) = Some name
asked_session (asked.Close name) = Some name
asked_session (asked.Write name length handles address) = Some name
asked_session (asked.Read name handle) = Some name
asked_session (asked.Look name key) = Some name
asked_session (asked.Root name key handle) = Some name
asked_session (asked.Drop key) = None
asked_session (asked.Forget name handle) = Some name
asked_session (asked.Name name handle) = Some name
asked_session asked.Delete = None
asked_session asked.Stat = None

abbrev pub asked_key : Asked → Option (List ℕ)
asked_key (asked.Open name) = None
asked_key (asked.Close name) = None
asked_key (asked.Write name length handles address) = None
asked_key (asked.Read name handle) = None
asked_key (asked.Look name key) = None
asked_key (asked.Root name key handle) = None
asked_key (asked.Drop key) = Some key
asked_key (asked.Forget name handle) = None
asked_key (asked.Name name handle) = None
asked_key asked.Delete = None
asked_key asked.Stat = None

-- the session that a deed names, and the key of one that names no session
abbrev pub deed_session : Deed → Option (List ℕ)
deed_session (deed.Opened name) = Some name
deed_session (deed.Closed name) = Some name
deed_session (deed.Wrote name address pointers handle) = Some name
deed_session (deed.Marked name address handle) = Some name
deed_session (deed.ReadBlock name address epoch handles) = Some name
deed_session (deed.Looked name key handle) = Some name
deed_session (deed.Rooted key address) = None
deed_session (deed.Dropped key) = None
deed_session (deed.Forgot name handle) = Some name
deed_session (deed.Entered shard) = None
deed_session (deed.Swept shard) = None
deed_session (deed.Refused told) = asked_session told
deed_session deed.Nothing = None

abbrev pub deed_key : Deed → Option (List ℕ)
deed_key (deed.Opened name) = None
deed_key (deed.Closed name) = None
deed_key (deed.Wrote name address pointers handle) = None
deed_key (deed.Marked name address handle) = None
deed_key (deed.ReadBlock name address epoch handles) = None
deed_key (deed.Looked name key handle) = None
deed_key (deed.Rooted key address) = Some key
deed_key (deed.Dropped key) = Some key
deed_key (deed.Forgot name handle) = None
deed_key (deed.Entered shard) = None
deed_key (deed.Swept shard) = None
deed_key (deed.Refused told) = asked_key told
deed_key deed.Nothing = None

-- a session's own keys begin with its name and .f
abbrev pub is_key_of : List ℕ → List ℕ → Bool
is_key_of session key = starts_with (λ a b. a == b) key session && starts_with (λ a b. a == b) (drop (length session) key) (codes ".f")

-- whether a deed names a session, or a key of its own
abbrev pub is_of_session : List ℕ → Deed → Bool
is_of_session session d = option_map_or (λ name. bytes_eq name session) (deed_session d) false || option_map_or (λ key. is_key_of session key) (deed_key d) false

-- whether it is that of one of these: of the session at a place, and behind the last of them of none
abbrev pub is_of : List (List ℕ) → ℕ → Deed → Bool
is_of sessions owner d =
    if nat_lt owner (length sessions)
    then is_of_session (slice_index_or sessions owner []) d
    else not (list_any (λ session. is_of_session session d) sessions)
