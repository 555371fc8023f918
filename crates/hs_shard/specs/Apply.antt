-- What an entry of any kind does to the catalogue of its shard.
use Rattle.std.specs.Prelude.{◌≡◌, ℕ, Option, None, IsSome, replicate, unwrap_or}
use Rattle.hs_desk.specs.declared.what.What.TheVariants.{Nothing, Viewed}
use Rattle.hs_entry.specs.declared.entry.Entry.{Entry}
use Rattle.hs_entry.specs.declared.entry.Entry.TheVariants as kind
use Rattle.hs_limits.specs.declared.address.Address.{Address}
use Rattle.hs_limits.specs.Reading.{read_block}
use Rattle.hs_rounds.specs.Changes.{AreChanges}
use Rattle.hs_shard.specs.Clients.{Applied, drop_root, mark_block, only, put_root, store_block}
use Rattle.hs_shard.specs.Facts.{Catalogue, pointers_at}
use Rattle.hs_shard.specs.Rounds.{enter, get_round}

-- the address of a Block's bytes, which comes with it
abbrev pub named_as : Option Address → Address
named_as named = unwrap_or named (record { 0 = replicate 32 0 })

-- an entry takes effect; a Block comes with the address of its bytes
abbrev pub apply : ℕ → Entry → Option Address → Catalogue → Applied
apply number (kind.View view) named c = only (Viewed view) (record c { view = view })
apply number (kind.Block op least bytes) named c = store_block number least (named_as named) (read_block bytes) c
apply number (kind.Mark op least block address) named c = mark_block least block address c
apply number (kind.Root op held address key) named c = put_root held address key c
apply number (kind.Drop op key) named c = drop_root key c
apply number (kind.Enter op epoch) named c = enter epoch c
apply number (kind.Got sender epoch round total deltas) named c =
    get_round (record { epoch = epoch; round = round; from = sender }) (record { total = total; deltas = deltas }) c
apply number (kind.Base view epoch swept round frames) named c = only Nothing c
apply number (kind.KeptBlock born mark flags count bytes) named c = only Nothing c
apply number (kind.KeptRoot created dropped counted address key) named c = only Nothing c
apply number (kind.KeptRound way other epoch round total deltas) named c = only Nothing c

-- what an entry needs: a Block its address, and a number of which no block is present; a Got its deltas in order
abbrev pub MayTake : ℕ → Entry → Option Address → Catalogue → Type 0
MayTake number (kind.View view) named c = Unit {0}
MayTake number (kind.Block op least bytes) named c = IsSome named × (pointers_at number c.blocks ≡ None)
MayTake number (kind.Mark op least block address) named c = Unit {0}
MayTake number (kind.Root op held address key) named c = Unit {0}
MayTake number (kind.Drop op key) named c = Unit {0}
MayTake number (kind.Enter op epoch) named c = Unit {0}
MayTake number (kind.Got sender epoch round total deltas) named c = AreChanges deltas
MayTake number (kind.Base view epoch swept round frames) named c = Unit {0}
MayTake number (kind.KeptBlock born mark flags count bytes) named c = Unit {0}
MayTake number (kind.KeptRoot created dropped counted address key) named c = Unit {0}
MayTake number (kind.KeptRound way other epoch round total deltas) named c = Unit {0}
