-- Reading an entry from its payload, with the first fault that is met.
use Rattle.std.specs.Prelude.{◌≡◌, ℕ, zero, suc, ◌+◌, ◌*◌, ◌^◌, ◌<◌, ◌≤◌, ◌&&◌, ⊤, Bool, true, List, [], ◌∷◌, ◌++◌, length, map, Option, None, Some, Result, Ok, Err, is_ok, nat_le, nat_lt, ◌==◌, if◌then◌else◌, All, IsTrue}
use Rattle.std.specs.declared.cmp.Ordering.{Ordering}
use Rattle.std.specs.Cmp.Lexicographic.{slice_cmp}
use Rattle.std.specs.List.Sorted.{IsStrictlySortedBy}
use Rattle.std.specs.Ordering.{nat_cmp, is_lt}
use Rattle.std.specs.Int.{w32, w64}
use Rattle.hs_limits.specs.declared.address.Address.{Address}
use Rattle.hs_limits.specs.declared.delta.Delta.{Delta}
use Rattle.hs_limits.specs.Block.{IsSpelling}
use Rattle.hs_limits.specs.Key.{is_key}
use Rattle.hs_limits.specs.Fields.{◌>>=◌, check, byte_at, bytes_at, number_at}
use Rattle.hs_limits.specs.Reading.{read_block}
use Rattle.hs_entry.specs.declared.entry.Entry.{Entry}
use Rattle.hs_entry.specs.declared.entry.Entry.TheVariants.{View, Block, Mark, Root, Drop, Enter, Got, Base, KeptBlock, KeptRoot, KeptRound}
use Rattle.hs_entry.specs.declared.fault.EntryFault.{EntryFault}
use Rattle.hs_entry.specs.declared.fault.EntryFault.TheVariants.{Short, BadKind, BadField, Trailing, NoMemory}
use Rattle.hs_entry.specs.declared.rank.Rank.{Rank}
use Rattle.hs_entry.specs.Entries.{view_after}

-- the kinds that are read
abbrev pub is_kind : ℕ → Bool
is_kind kind = nat_le 1 kind && nat_le kind 7

-- epochs are 1 to 2^48-1
abbrev pub is_epoch : ℕ → Bool
is_epoch n = nat_le 1 n && nat_lt n (2 ^ 48)

-- addresses are in the order of their bytes
abbrev pub address_cmp : Address → Address → Ordering
address_cmp a b = slice_cmp nat_cmp a.0 b.0

-- an address of 32 bytes, and an amount of at least 1
pub record IsDelta (delta : Delta) : Type 0 where
  pub whole : length delta.address.0 ≡ 32
  pub some : 1 ≤ delta.amount
  pub fits : delta.amount < 2 ^ 32

-- no more deltas than a payload may have, each whole, strictly ascending by address
pub record AreDeltas (deltas : List Delta) : Type 0 where
  pub few : length deltas ≤ 16665
  pub each : All IsDelta deltas
  pub ascend : IsStrictlySortedBy address_cmp (map (λ delta. delta.address) deltas)

-- an entry of these kinds, within the bounds of its fields
abbrev pub IsReadable : Entry → Type 0
IsReadable (View view) = (1 ≤ view) × (view < 2 ^ 64)
IsReadable (Block op least bytes) = (op < 2 ^ 64) × (1 ≤ least) × (least < 2 ^ 48) × IsSpelling bytes
IsReadable (Mark op least block address) =
    (op < 2 ^ 64) × (1 ≤ least) × (least < 2 ^ 48) × (block < 2 ^ 64) × (length address.0 ≡ 32)
IsReadable (Root op held address key) =
    (op < 2 ^ 64) × (1 ≤ held) × (held < 2 ^ 48) × (length address.0 ≡ 32) × IsTrue (is_key key)
IsReadable (Drop op key) = (op < 2 ^ 64) × IsTrue (is_key key)
IsReadable (Enter op epoch) = (op < 2 ^ 64) × (1 ≤ epoch) × (epoch < 2 ^ 48)
IsReadable (Got sender epoch round total deltas) =
    (sender < 2 ^ 8) × (1 ≤ epoch) × (epoch < 2 ^ 48) × (round < 2 ^ 32) × (total < 2 ^ 32)
    × AreDeltas deltas
IsReadable (Base view epoch swept round frames) = ⊥
IsReadable (KeptBlock born mark flags count bytes) = ⊥
IsReadable (KeptRoot created dropped counted address key) = ⊥
IsReadable (KeptRound way other epoch round total deltas) = ⊥

-- an epoch, whose first byte is at this place
unfoldable pub epoch_at : ℕ → ℕ → List ℕ → Result (ℕ × List ℕ) EntryFault
epoch_at whole at bytes = do
  number ← number_at (Short whole) w64 bytes
  valid ← check (is_epoch number.0) (BadField at)
  Ok number

-- a key, whose byte of length is at this place
unfoldable pub key_at : ℕ → ℕ → List ℕ → Result (List ℕ × List ℕ) EntryFault
key_at whole at bytes = do
  len ← byte_at (Short whole) bytes
  sized ← check (nat_le 1 len.0 && nat_le len.0 64) (BadField at)
  key ← bytes_at (Short whole) len.0 len.1
  valid ← check (is_key key.0) (BadField (at + 1))
  Ok key

-- an address comes after the one before it, and any comes first
abbrev pub comes_after : Option Address → Address → Bool
comes_after None address = true
comes_after (Some last) address = is_lt (address_cmp last address)

-- the delta at this place, behind one of this address
unfoldable pub delta_at : ℕ → ℕ → Option Address → List ℕ → Result (Delta × List ℕ) EntryFault
delta_at whole at last bytes = do
  address ← bytes_at (Short whole) 32 bytes
  ordered ← check (comes_after last (record { 0 = address.0 })) (BadField at)
  amount ← number_at (Short whole) w32 address.1
  some ← check (nat_le 1 amount.0) (BadField (at + 32))
  Ok (record { address = record { 0 = address.0 }; amount = amount.0 }, amount.1)

-- these deltas, and then those that are read on
abbrev pub with_deltas : List Delta → Result (List Delta × List ℕ) EntryFault → Result (List Delta × List ℕ) EntryFault
with_deltas front read = read >>= λ more. Ok (front ++ more.0, more.1)

-- so many deltas from this place on, behind one of this address
unfoldable pub deltas_at : ℕ → ℕ → ℕ → Option Address → List ℕ → Result (List Delta × List ℕ) EntryFault
deltas_at whole at zero last bytes = Ok ([], bytes)
deltas_at whole at (suc n) last bytes = do
  delta ← delta_at whole at last bytes
  with_deltas (delta.0 ∷ []) (deltas_at whole (at + 36) n (Some delta.0.address) delta.1)

-- the fields of each kind, which begin at byte 9 of an input of whole bytes
unfoldable pub view_at : ℕ → List ℕ → Result Entry EntryFault
view_at whole bytes = do
  view ← number_at (Short whole) w64 bytes
  valid ← check (nat_le 1 view.0) (BadField 9)
  ended ← check (length view.1 == 0) (Trailing 17)
  Ok (View view.0)

unfoldable pub block_at : ℕ → List ℕ → Result Entry EntryFault
block_at whole bytes = do
  op ← number_at (Short whole) w64 bytes
  least ← epoch_at whole 17 op.1
  spelling ← check (is_ok (read_block least.1)) (BadField 25)
  Ok (Block op.0 least.0 least.1)

unfoldable pub mark_at : ℕ → List ℕ → Result Entry EntryFault
mark_at whole bytes = do
  op ← number_at (Short whole) w64 bytes
  least ← epoch_at whole 17 op.1
  block ← number_at (Short whole) w64 least.1
  address ← bytes_at (Short whole) 32 block.1
  ended ← check (length address.1 == 0) (Trailing 65)
  Ok (Mark op.0 least.0 block.0 (record { 0 = address.0 }))

unfoldable pub root_at : ℕ → List ℕ → Result Entry EntryFault
root_at whole bytes = do
  op ← number_at (Short whole) w64 bytes
  held ← epoch_at whole 17 op.1
  address ← bytes_at (Short whole) 32 held.1
  key ← key_at whole 57 address.1
  ended ← check (length key.1 == 0) (Trailing (58 + length key.0))
  Ok (Root op.0 held.0 (record { 0 = address.0 }) key.0)

unfoldable pub drop_at : ℕ → List ℕ → Result Entry EntryFault
drop_at whole bytes = do
  op ← number_at (Short whole) w64 bytes
  key ← key_at whole 17 op.1
  ended ← check (length key.1 == 0) (Trailing (18 + length key.0))
  Ok (Drop op.0 key.0)

unfoldable pub enter_at : ℕ → List ℕ → Result Entry EntryFault
enter_at whole bytes = do
  op ← number_at (Short whole) w64 bytes
  epoch ← epoch_at whole 17 op.1
  ended ← check (length epoch.1 == 0) (Trailing 25)
  Ok (Enter op.0 epoch.0)

unfoldable pub got_at : ℕ → List ℕ → Result Entry EntryFault
got_at whole bytes = do
  sender ← byte_at (Short whole) bytes
  epoch ← epoch_at whole 10 sender.1
  round ← number_at (Short whole) w32 epoch.1
  total ← number_at (Short whole) w32 round.1
  count ← number_at (Short whole) w32 total.1
  few ← check (nat_le count.0 16665) (BadField 26)
  deltas ← deltas_at whole 30 count.0 None count.1
  ended ← check (length deltas.1 == 0) (Trailing (30 + 36 * count.0))
  Ok (Got sender.0 epoch.0 round.0 total.0 deltas.0)

unfoldable pub fields_at : ℕ → ℕ → List ℕ → Result Entry EntryFault
fields_at kind whole bytes =
    if kind == 1 then view_at whole bytes else
    if kind == 2 then block_at whole bytes else
    if kind == 3 then mark_at whole bytes else
    if kind == 4 then root_at whole bytes else
    if kind == 5 then drop_at whole bytes else
    if kind == 6 then enter_at whole bytes else
    if kind == 7 then got_at whole bytes else
    Err (BadKind kind)

-- the number and the entry that the bytes spell, all of them
unfoldable pub entry_at : List ℕ → Result (ℕ × Entry) EntryFault
entry_at bytes = do
  kind ← byte_at (Short (length bytes)) bytes
  known ← check (is_kind kind.0) (BadKind kind.0)
  number ← number_at (Short (length bytes)) w64 kind.1
  entry ← fields_at kind.0 (length bytes) number.1
  Ok (number.0, entry)

-- of what was read, the view and the rank behind it
abbrev pub view_read : ℕ → Result Entry EntryFault → Result ℕ EntryFault
view_read before read = read >>= λ entry. Ok (view_after before entry)

abbrev pub rank_read : Rank → Result (ℕ × Entry) EntryFault → Result Rank EntryFault
rank_read before read =
    read >>= λ x. Ok (record { view = view_after before.view x.1; number = x.0 })

-- what a function returned, seen by view, is what reading gives, unless memory ran out
abbrev pub Fails : {Y : Type 0} → EntryFault → Result Y EntryFault → Type 0
Fails NoMemory read = ⊤
Fails (Short at) read = read ≡ Err (Short at)
Fails (BadKind found) read = read ≡ Err (BadKind found)
Fails (BadField at) read = read ≡ Err (BadField at)
Fails (Trailing at) read = read ≡ Err (Trailing at)

abbrev pub IsReading : {X Y : Type 0} → (X → Y) → Result X EntryFault → Result Y EntryFault → Type 0
IsReading view (Ok x) read = read ≡ Ok (view x)
IsReading view (Err fault) read = Fails fault read
