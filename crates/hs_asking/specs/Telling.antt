-- Which replies an operation may be told, by the table of replies.
use Rattle.std.specs.Prelude.{ℕ, Bool, true, false, ◌==◌, ◌||◌, List, [], ◌∷◌, IsTrue}
use Rattle.std.specs.List.{list_any}
use Rattle.hs_model.specs.declared.op.Op.{Op}
use Rattle.hs_model.specs.declared.op.Op.TheVariants as op
use Rattle.hs_model.specs.declared.reply.Reply.{Reply}
use Rattle.hs_model.specs.declared.reply.Reply.TheVariants as reply

-- ---- replies that say what was done

abbrev pub is_ok : Reply → Bool
is_ok reply.Ok = true
is_ok other = false

abbrev pub is_written : Reply → Bool
is_written (reply.New handle epoch) = true
is_written (reply.Dup handle epoch) = true
is_written other = false

abbrev pub is_bytes : Reply → Bool
is_bytes (reply.Bytes bytes handles) = true
is_bytes other = false

abbrev pub is_held : Reply → Bool
is_held (reply.Held handle epoch) = true
is_held other = false

abbrev pub is_name : Reply → Bool
is_name (reply.Name address) = true
is_name other = false

abbrev pub is_stat : Reply → Bool
is_stat (reply.Stat blocks roots sessions epochs swept) = true
is_stat other = false

abbrev pub is_run : Reply → Bool
is_run (reply.Run epoch) = true
is_run other = false

-- an operation that is not refused is told so
unfoldable pub grants : Op → Reply → Bool
grants (op.Open name) told = is_ok told
grants (op.Close name) told = is_ok told
grants (op.Write name payload handles address) told = is_written told
grants (op.Read name handle) told = is_bytes told
grants (op.Look name key) told = is_held told
grants (op.Root name key handle) told = is_ok told
grants (op.Drop key) told = is_ok told
grants (op.Forget name handle) told = is_ok told
grants (op.Name name handle) told = is_name told
grants op.Delete told = is_run told
grants op.Stat told = is_stat told

-- ---- refusals

-- the number of a refusal, and 0 of what is none
abbrev pub refusal_number : Reply → ℕ
refusal_number (reply.NoSession name) = 1
refusal_number (reply.SessionTaken name) = 2
refusal_number (reply.SessionsFull limit) = 3
refusal_number (reply.Busy line) = 4
refusal_number (reply.TooLong found) = 5
refusal_number (reply.TooMany found) = 6
refusal_number (reply.NoHandle handle) = 7
refusal_number (reply.HandlesFull limit) = 8
refusal_number (reply.Stale handle held now) = 9
refusal_number reply.Collision = 10
refusal_number (reply.ShardFull limit) = 11
refusal_number (reply.KeyTaken key) = 12
refusal_number (reply.NoKey key) = 13
refusal_number (reply.RootsFull limit) = 14
refusal_number (reply.Running epoch) = 15
refusal_number (reply.EpochEnd limit) = 16
refusal_number (reply.NoPeer peer) = 17
refusal_number (reply.NotUp peer) = 18
refusal_number (reply.NotDown peer) = 19
refusal_number (reply.NoMessage message) = 20
refusal_number (reply.PoolFull limit) = 21
refusal_number other = 0

-- the numbers of the refusals of an operation, in the order of its line; Busy is none of an asker's, who waits for each answer
abbrev pub refusal_numbers : Op → List ℕ
refusal_numbers (op.Open name) = 2 ∷ 3 ∷ []
refusal_numbers (op.Close name) = 1 ∷ []
refusal_numbers (op.Write name payload handles address) = 1 ∷ 5 ∷ 6 ∷ 7 ∷ 8 ∷ 9 ∷ 10 ∷ 11 ∷ []
refusal_numbers (op.Read name handle) = 1 ∷ 7 ∷ 9 ∷ 8 ∷ []
refusal_numbers (op.Look name key) = 1 ∷ 8 ∷ 13 ∷ []
refusal_numbers (op.Root name key handle) = 1 ∷ 7 ∷ 9 ∷ 12 ∷ 14 ∷ []
refusal_numbers (op.Drop key) = 13 ∷ []
refusal_numbers (op.Forget name handle) = 1 ∷ 7 ∷ []
refusal_numbers (op.Name name handle) = 1 ∷ 7 ∷ []
refusal_numbers op.Delete = 15 ∷ 16 ∷ []
refusal_numbers op.Stat = []

-- an operation may be told that it was done, or one of its line's refusals
unfoldable pub may_be_told : Op → Reply → Bool
may_be_told o told = grants o told || list_any (λ n. n == refusal_number told) (refusal_numbers o)

abbrev pub MayBeTold : Op → Reply → Type 0
MayBeTold o told = IsTrue (may_be_told o told)
