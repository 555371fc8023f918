-- The payload of an entry: its one spelling.
use Rattle.std.specs.Prelude.{ℕ, Bool, true, false, List, [], ◌∷◌, ◌++◌, length}
use Rattle.std.specs.List.{flat_map}
use Rattle.std.specs.Int.{w32, w64, to_be_bytes}
use Rattle.hs_limits.specs.declared.delta.Delta.{Delta}
use Rattle.hs_entry.specs.declared.entry.Entry.{Entry}
use Rattle.hs_entry.specs.declared.entry.Entry.TheVariants.{View, Block, Mark, Root, Drop, Enter, Got, Base, KeptBlock, KeptRoot, KeptRound}

-- the first byte
abbrev pub kind_of : Entry → ℕ
kind_of (View view) = 1
kind_of (Block op least bytes) = 2
kind_of (Mark op least block address) = 3
kind_of (Root op held address key) = 4
kind_of (Drop op key) = 5
kind_of (Enter op epoch) = 6
kind_of (Got sender epoch round total deltas) = 7
kind_of (Base view epoch swept round frames) = 8
kind_of (KeptBlock born mark flags count bytes) = 9
kind_of (KeptRoot created dropped counted address key) = 10
kind_of (KeptRound way other epoch round total deltas) = 11

-- 4 and 8 bytes, high byte first
unfoldable pub four : ℕ → List ℕ
four n = to_be_bytes w32 n

unfoldable pub eight : ℕ → List ℕ
eight n = to_be_bytes w64 n

-- a byte of length, and the key
abbrev pub key_field : List ℕ → List ℕ
key_field key = length key ∷ key

-- the number of deltas, and the address and amount of each
abbrev pub delta_field : Delta → List ℕ
delta_field delta = delta.address.0 ++ four delta.amount

abbrev pub deltas_field : List Delta → List ℕ
deltas_field deltas = four (length deltas) ++ flat_map delta_field deltas

-- what stands behind kind and number
abbrev pub fields_of : Entry → List ℕ
fields_of (View view) = eight view
fields_of (Block op least bytes) = eight op ++ eight least ++ bytes
fields_of (Mark op least block address) = eight op ++ eight least ++ eight block ++ address.0
fields_of (Root op held address key) = eight op ++ eight held ++ address.0 ++ key_field key
fields_of (Drop op key) = eight op ++ key_field key
fields_of (Enter op epoch) = eight op ++ eight epoch
fields_of (Got sender epoch round total deltas) = sender ∷ eight epoch ++ four round ++ four total ++ deltas_field deltas
fields_of (Base view epoch swept round frames) = eight view ++ eight epoch ++ eight swept ++ four round ++ four frames
fields_of (KeptBlock born mark flags count bytes) = eight born ++ eight mark ++ (flags ∷ []) ++ four count ++ bytes
fields_of (KeptRoot created dropped counted address key) = eight created ++ eight dropped ++ (counted ∷ []) ++ address.0 ++ key_field key
fields_of (KeptRound way other epoch round total deltas) = way ∷ other ∷ eight epoch ++ four round ++ four total ++ deltas_field deltas

-- the kind, the number, the fields
abbrev pub payload : ℕ → Entry → List ℕ
payload number entry = kind_of entry ∷ eight number ++ fields_of entry

-- the entries whose payload runs to its end
abbrev pub runs_on : Entry → Bool
runs_on (View view) = false
runs_on (Block op least bytes) = true
runs_on (Mark op least block address) = false
runs_on (Root op held address key) = false
runs_on (Drop op key) = false
runs_on (Enter op epoch) = false
runs_on (Got sender epoch round total deltas) = false
runs_on (Base view epoch swept round frames) = false
runs_on (KeptBlock born mark flags count bytes) = true
runs_on (KeptRoot created dropped counted address key) = false
runs_on (KeptRound way other epoch round total deltas) = false
