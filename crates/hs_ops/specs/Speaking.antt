-- What an operation speaks of: a block, and the shard that judges it.
use Rattle.std.specs.Prelude.{ℕ, List, Option, Some, None, fold, map, min, unwrap_or}
use Rattle.std.specs.Option.{option_map, option_or}
use Rattle.hs_limits.specs.Block.{Block}
use Rattle.hs_limits.specs.Shape.{shard_of, shard_of_key}
use Rattle.hs_limits.specs.declared.address.Address.{Address}
use Rattle.hs_limits.specs.declared.address.Held.{Held}
use Rattle.hs_limits.specs.declared.limits.TheConstants.{LAST_EPOCH}
use Rattle.hs_model.specs.Op.{named_key}
use Rattle.hs_model.specs.declared.op.Op.{Op}
use Rattle.hs_model.specs.declared.op.Op.TheVariants as op
use Rattle.hs_tokens.specs.Seats.{Seats, found, held_at, seat_of}

-- the address of the block that it writes or reads
abbrev pub wanted_address : Seats → Op → Option Address
wanted_address seats (op.Open name) = None
wanted_address seats (op.Close name) = None
wanted_address seats (op.Write name payload handles address) = address
wanted_address seats (op.Read name handle) = option_map (λ held. held.address) (held_at (seat_of name seats) handle)
wanted_address seats (op.Look name key) = None
wanted_address seats (op.Root name key handle) = None
wanted_address seats (op.Drop key) = None
wanted_address seats (op.Forget name handle) = None
wanted_address seats (op.Name name handle) = None
wanted_address seats op.Delete = None
wanted_address seats op.Stat = None

-- the shard that judges it: that of its key, else that of its block, else shard 0
abbrev pub judging_shard : ℕ → Seats → Op → ℕ
judging_shard shards seats o =
    unwrap_or (option_or (option_map (shard_of_key shards) (named_key o)) (option_map (shard_of shards) (wanted_address seats o))) 0

-- ---- a write

-- what its handles stand for
abbrev pub helds : Seats → List ℕ → List ℕ → List Held
helds seats name handles = map (λ handle. found seats name handle) handles

abbrev pub asked_pointers : Seats → List ℕ → List ℕ → List Address
asked_pointers seats name handles = map (λ held. held.address) (helds seats name handles)

-- the block that it asks for
unfoldable pub asked_block : Seats → List ℕ → List ℕ → List ℕ → Block
asked_block seats name payload handles = record { pointers = asked_pointers seats name handles; bytes = payload }

-- the least epoch of its handles, and the last epoch where there is none
unfoldable pub least_epoch : List Held → ℕ
least_epoch all = fold (λ least held. min least held.epoch) LAST_EPOCH all
