-- What an operation names: a session, a key, handles, and the address that a write was given.
use Rattle.std.specs.Prelude.{ℕ, List, [], ◌∷◌, Option, Some, None}
use Rattle.hs_limits.specs.declared.address.Address.{Address}
use Rattle.hs_model.specs.declared.op.Op.{Op}
use Rattle.hs_model.specs.declared.op.Op.TheVariants as op

-- the session that asks
abbrev pub session_of : Op → Option (List ℕ)
session_of (op.Open name) = Some name
session_of (op.Close name) = Some name
session_of (op.Write name payload handles address) = Some name
session_of (op.Read name handle) = Some name
session_of (op.Look name key) = Some name
session_of (op.Root name key handle) = Some name
session_of (op.Drop key) = None
session_of (op.Forget name handle) = Some name
session_of (op.Name name handle) = Some name
session_of op.Delete = None
session_of op.Stat = None

-- the key that it names
abbrev pub named_key : Op → Option (List ℕ)
named_key (op.Open name) = None
named_key (op.Close name) = None
named_key (op.Write name payload handles address) = None
named_key (op.Read name handle) = None
named_key (op.Look name key) = Some key
named_key (op.Root name key handle) = Some key
named_key (op.Drop key) = Some key
named_key (op.Forget name handle) = None
named_key (op.Name name handle) = None
named_key op.Delete = None
named_key op.Stat = None

-- the handles that it names
abbrev pub named_handles : Op → List ℕ
named_handles (op.Open name) = []
named_handles (op.Close name) = []
named_handles (op.Write name payload handles address) = handles
named_handles (op.Read name handle) = handle ∷ []
named_handles (op.Look name key) = []
named_handles (op.Root name key handle) = handle ∷ []
named_handles (op.Drop key) = []
named_handles (op.Forget name handle) = handle ∷ []
named_handles (op.Name name handle) = handle ∷ []
named_handles op.Delete = []
named_handles op.Stat = []

-- the address of the block that it writes
abbrev pub written_address : Op → Option Address
written_address (op.Open name) = None
written_address (op.Close name) = None
written_address (op.Write name payload handles address) = address
written_address (op.Read name handle) = None
written_address (op.Look name key) = None
written_address (op.Root name key handle) = None
written_address (op.Drop key) = None
written_address (op.Forget name handle) = None
written_address (op.Name name handle) = None
written_address op.Delete = None
written_address op.Stat = None
