-- The load: what its threads ask of the store, by what they were answered.
use Rattle.std.specs.Prelude.{ℕ, ◌+◌, ◌%◌, ◌==◌, if◌then◌else◌, List, [], ◌∷◌, ◌++◌, codes, map, length, nat_lt, fold, Option, Some, None, slice_index}
use Rattle.std.specs.Fmt.{decimal}
use Rattle.std.specs.Int.{w64, to_be_bytes}
use Rattle.hs_limits.specs.declared.address.Address.{Address}
use Rattle.hs_limits.specs.Block.{Block, spell}
use Rattle.hs_model.specs.declared.op.Op.{Op}
use Rattle.hs_model.specs.declared.op.Op.TheVariants as op
use Rattle.hs_model.specs.declared.reply.Reply.{Reply}
use Rattle.hs_model.specs.declared.reply.Reply.TheVariants as reply
use Rattle.hs_script.specs.declared.plan.FilePlan.{FilePlan}
use Rattle.hs_script.specs.Plans.{plan_of}

-- ---- a writer

-- what a writer works by: the naming, its own number, the plan of each file, and how many files there are
pub record Writer : Type 0 where
  pub name : List ℕ → Address
  pub number : ℕ
  pub plan : ℕ → FilePlan
  pub files : ℕ

-- the writer of a number in the load of a seed, with so many files
abbrev pub writer_of : (List ℕ → Address) → ℕ → ℕ → ℕ → Writer
writer_of name seed number files = record { name = name; number = number; plan = plan_of seed number; files = files }

-- a leaf that was written: its handle and its address
abbrev pub Leaf : Type 0
Leaf = ℕ × Address

-- where a writer stands: it opens its session, writes a file behind the leaves so far, roots it, or drops it
pub data Stage : Type 0 where
  opening : Stage
  writing : ℕ → List Leaf → Stage
  rooting : ℕ → ℕ → Stage
  dropping : ℕ → Stage

-- ---- what it asks

-- its session: w and its number
abbrev pub session_name : ℕ → List ℕ
session_name number = codes "w" ++ decimal number

-- the key of a file: the session, .f and the file's number
abbrev pub file_key : ℕ → ℕ → List ℕ
file_key number file = session_name number ++ (codes ".f" ++ decimal file)

-- the block of a leaf: its number in 8 bytes
abbrev pub leaf_block : ℕ → Block
leaf_block leaf = record { pointers = []; bytes = to_be_bytes w64 leaf }

-- the last block of a file: it points to the leaves in order, and has the tag in 8 bytes
abbrev pub top_block : ℕ → List Leaf → Block
top_block tag leaves = record { pointers = map (λ leaf. leaf.1) leaves; bytes = to_be_bytes w64 tag }

-- a block is written, whose pointers have these handles
abbrev pub write_of : Writer → Block → List ℕ → Op
write_of w block handles = op.Write (session_name w.number) block.bytes handles (Some (w.name (spell block)))

-- the next block of a file: a leaf, or behind all leaves the last one
abbrev pub block_op : Writer → FilePlan → List Leaf → Op
block_op w plan leaves =
    if nat_lt (length leaves) (length plan.leaves)
    then write_of w (leaf_block (slice_index plan.leaves (length leaves))) []
    else write_of w (top_block plan.tag leaves) (map (λ leaf. leaf.0) leaves)

-- what a writer asks at a stage; nothing where all files are done
abbrev pub asked : Writer → Stage → Option Op
asked w opening = Some (op.Open (session_name w.number))
asked w (writing file leaves) = if nat_lt file w.files then Some (block_op w (w.plan file) leaves) else None
asked w (rooting file handle) = Some (op.Root (session_name w.number) (file_key w.number file) handle)
asked w (dropping file) = Some (op.Drop (file_key w.number file))

-- ---- what an answer makes of it

-- behind a block that was given a handle: the next leaf, or the root
abbrev pub behind_block : Writer → ℕ → List Leaf → ℕ → Stage
behind_block w file leaves handle =
    if nat_lt (length leaves) (length (w.plan file).leaves)
    then writing file (leaves ++ (handle, w.name (spell (leaf_block (slice_index (w.plan file).leaves (length leaves))))) ∷ [])
    else rooting file handle

-- behind a file that was rooted: each fourth is dropped
abbrev pub behind_root : ℕ → Stage
behind_root file = if file % 4 == 3 then dropping file else writing (file + 1) []

-- where it stands behind an answer: a file is begun again where it is stale, and left where it is refused otherwise
abbrev pub stage_after : Writer → Stage → Reply → Stage
stage_after w opening answer = writing 0 []
stage_after w (writing file leaves) (reply.New handle epoch) = behind_block w file leaves handle
stage_after w (writing file leaves) (reply.Dup handle epoch) = behind_block w file leaves handle
stage_after w (writing file leaves) (reply.Stale handle held now) = writing file []
stage_after w (writing file leaves) other = writing (file + 1) []
stage_after w (rooting file handle) reply.Ok = behind_root file
stage_after w (rooting file handle) (reply.Stale stale held now) = writing file []
stage_after w (rooting file handle) other = writing (file + 1) []
stage_after w (dropping file) answer = writing (file + 1) []

-- where it stands behind all answers so far
abbrev pub stage_behind : Writer → List Reply → Stage
stage_behind w replies = fold (λ stage answer. stage_after w stage answer) opening replies

-- what it asks behind them
abbrev pub asked_behind : Writer → List Reply → Option Op
asked_behind w replies = asked w (stage_behind w replies)

-- ---- the thread that deletes

-- what it asks behind so many answers: four deletions, and then nothing
abbrev pub deletion_asked : ℕ → Option Op
deletion_asked answers = if nat_lt answers 4 then Some op.Delete else None

-- one answer more, whatever it is
abbrev pub answers_after : ℕ → Reply → ℕ
answers_after answers answer = answers + 1

-- what it asks behind these answers
abbrev pub deletion_behind : List Reply → Option Op
deletion_behind replies = deletion_asked (fold answers_after 0 replies)
