-- What an answer did, by the operation, its reply, and what the client holds.
use Rattle.std.specs.Prelude.{ℕ, List, map, slice_index_or}
use Rattle.hs_limits.specs.declared.address.Address.{Address}
use Rattle.hs_limits.specs.declared.address.Held.{Held}
use Rattle.hs_model.specs.declared.op.Asked.{Asked}
use Rattle.hs_model.specs.declared.op.Asked.TheVariants as asked
use Rattle.hs_model.specs.declared.deed.Deed.{Deed}
use Rattle.hs_model.specs.declared.deed.Deed.TheVariants as deed
use Rattle.hs_model.specs.declared.reply.Reply.{Reply}
use Rattle.hs_model.specs.declared.reply.Reply.TheVariants as reply
use Rattle.hs_model.specs.Judge.{given_address, nothing}

-- what a handle stands for, where handles are the places of a list
abbrev pub held_by : List Held → ℕ → Held
held_by held handle = slice_index_or held handle nothing

-- the address that it stands for
abbrev pub address_in : List Held → ℕ → Address
address_in held handle = (held_by held handle).address

-- the deed of an operation with a reply: twelve say what was done, each other one that it was refused
unfoldable pub deed_of : List Held → Asked → Reply → Deed
deed_of held (asked.Open name) reply.Ok = deed.Opened name
deed_of held (asked.Close name) reply.Ok = deed.Closed name
deed_of held (asked.Write name length handles address) (reply.New handle epoch) = deed.Wrote name (given_address address) (map (λ h. address_in held h) handles) handle
deed_of held (asked.Write name length handles address) (reply.Dup handle epoch) = deed.Marked name (given_address address) handle
deed_of held (asked.Read name handle) (reply.Bytes bytes handles) = deed.ReadBlock name (address_in held handle) (held_by held handle).epoch handles
deed_of held (asked.Look name key) (reply.Held handle epoch) = deed.Looked name key handle
deed_of held (asked.Root name key handle) reply.Ok = deed.Rooted key (address_in held handle)
deed_of held (asked.Drop key) reply.Ok = deed.Dropped key
deed_of held (asked.Forget name handle) reply.Ok = deed.Forgot name handle
deed_of held (asked.Name name handle) (reply.Name address) = deed.Nothing
deed_of held asked.Delete (reply.Run epoch) = deed.Entered 0
deed_of held asked.Stat (reply.Stat blocks roots sessions epochs swept) = deed.Nothing
deed_of held o other = deed.Refused o
