-- What a load's threads ask, computed: a writer of five files of two leaves each, and the thread that deletes.
use Rattle.std.proofs.Common.{◌≡◌, ℕ, ◌+◌, List, [], ◌∷◌, ◌++◌, refl}
use Rattle.std.specs.Prelude.{Some, None, codes, fold, replicate}
use Rattle.std.specs.Fmt.{digits}
use Rattle.hs_limits.specs.declared.address.Address.{Address}
use Rattle.hs_block.specs.Names.{tail_name}
use Rattle.hs_model.specs.declared.op.Op.TheVariants as op
use Rattle.hs_model.specs.declared.reply.Reply.{Reply}
use Rattle.hs_model.specs.declared.reply.Reply.TheVariants as reply
use Rattle.rand_core.specs.Stream.{fill_bytes, next_u64}
use Rattle.rand_core.specs.Steps.{stream_of, u32_at, word_bytes}
use Rattle.hs_script.specs.Loads.{Stage, Writer, asked, asked_behind, deletion_behind, dropping, opening, rooting, stage_after, stage_behind, writer_of, writing}

-- writer 1: the leaves of a file are 16 and the file's number
abbrev w : Writer
w = record { name = tail_name; number = 1; plan = λ file. record { leaves = 16 ∷ file ∷ []; tag = 4294967296 + file }; files = 5 }

-- where it stands behind some answers more
abbrev goes_on : Stage → List Reply → Stage
goes_on stage replies = fold (λ s answer. stage_after w s answer) stage replies

-- the address of a small leaf
abbrev leaf_address : ℕ → Address
leaf_address leaf = record { 0 = replicate 17 0 ++ 1 ∷ 0 ∷ 0 ∷ 0 ∷ 0 ∷ 0 ∷ 8 ∷ 0 ∷ 0 ∷ 0 ∷ 0 ∷ 0 ∷ 0 ∷ 0 ∷ leaf ∷ [] }

-- the last 32 bytes of the last block of a small file: those of its last leaf, and the tag
abbrev top_address : ℕ → Address
top_address file = record { 0 = replicate 5 0 ++ 1 ∷ 0 ∷ 0 ∷ 0 ∷ 0 ∷ 0 ∷ 8 ∷ 0 ∷ 0 ∷ 0 ∷ 0 ∷ 0 ∷ 0 ∷ 0 ∷ file ∷ 0 ∷ 0 ∷ 0 ∷ 8 ∷ 0 ∷ 0 ∷ 0 ∷ 1 ∷ 0 ∷ 0 ∷ 0 ∷ file ∷ [] }

-- ---- a file that is written, rooted and kept

it_opens_its_session : asked_behind w [] ≡ Some (op.Open (codes "w1"))
unfolding digits
it_opens_its_session = refl

the_first_leaf : asked_behind w (reply.Ok ∷ []) ≡ Some (op.Write (codes "w1") (0 ∷ 0 ∷ 0 ∷ 0 ∷ 0 ∷ 0 ∷ 0 ∷ 16 ∷ []) [] (Some (leaf_address 16)))
unfolding digits
the_first_leaf = refl

the_second_leaf : asked_behind w (reply.Ok ∷ reply.New 0 1 ∷ []) ≡ Some (op.Write (codes "w1") (0 ∷ 0 ∷ 0 ∷ 0 ∷ 0 ∷ 0 ∷ 0 ∷ 0 ∷ []) [] (Some (leaf_address 0)))
unfolding digits
the_second_leaf = refl

the_last_block : asked_behind w (reply.Ok ∷ reply.New 0 1 ∷ reply.Dup 1 1 ∷ []) ≡ Some (op.Write (codes "w1") (0 ∷ 0 ∷ 0 ∷ 1 ∷ 0 ∷ 0 ∷ 0 ∷ 0 ∷ []) (0 ∷ 1 ∷ []) (Some (top_address 0)))
unfolding digits
the_last_block = refl

its_root : asked_behind w (reply.Ok ∷ reply.New 0 1 ∷ reply.Dup 1 1 ∷ reply.New 2 1 ∷ []) ≡ Some (op.Root (codes "w1") (codes "w1.f0") 2)
unfolding digits
its_root = refl

the_next_file : stage_behind w (reply.Ok ∷ reply.New 0 1 ∷ reply.Dup 1 1 ∷ reply.New 2 1 ∷ reply.Ok ∷ []) ≡ writing 1 []
the_next_file = refl

-- ---- each fourth file is dropped, whatever is answered then

the_fourth_is_dropped : asked w (goes_on (writing 3 []) (reply.New 9 1 ∷ reply.New 10 1 ∷ reply.New 11 1 ∷ reply.Ok ∷ [])) ≡ Some (op.Drop (codes "w1.f3"))
unfolding digits
the_fourth_is_dropped = refl

behind_a_drop : goes_on (dropping 3) (reply.Ok ∷ []) ≡ writing 4 []
behind_a_drop = refl

behind_a_drop_that_is_refused : goes_on (dropping 3) (reply.NoKey (codes "w1.f3") ∷ []) ≡ writing 4 []
behind_a_drop_that_is_refused = refl

nothing_is_left : asked w (goes_on (writing 4 []) (reply.Dup 9 1 ∷ reply.New 10 1 ∷ reply.New 11 1 ∷ reply.Ok ∷ [])) ≡ None
nothing_is_left = refl

-- ---- a file that is begun again, with the handles that are told then

a_stale_leaf : goes_on (writing 2 []) (reply.New 6 1 ∷ reply.Stale 6 1 2 ∷ []) ≡ writing 2 []
a_stale_leaf = refl

a_stale_top : asked w (goes_on (writing 2 []) (reply.New 6 1 ∷ reply.New 7 1 ∷ reply.Stale 6 1 2 ∷ reply.Dup 8 2 ∷ reply.Dup 9 2 ∷ [])) ≡ Some (op.Write (codes "w1") (0 ∷ 0 ∷ 0 ∷ 1 ∷ 0 ∷ 0 ∷ 0 ∷ 2 ∷ []) (8 ∷ 9 ∷ []) (Some (top_address 2)))
unfolding digits
a_stale_top = refl

a_stale_root : goes_on (rooting 3 8) (reply.Stale 8 1 2 ∷ []) ≡ writing 3 []
a_stale_root = refl

-- ---- a file that is left

a_leaf_that_is_refused : goes_on (writing 2 []) (reply.New 6 1 ∷ reply.ShardFull 4 ∷ []) ≡ writing 3 []
a_leaf_that_is_refused = refl

a_root_that_is_refused : goes_on (rooting 3 8) (reply.KeyTaken (codes "w1.f3") ∷ []) ≡ writing 4 []
a_root_that_is_refused = refl

a_session_that_is_refused : goes_on opening (reply.SessionTaken (codes "w1") ∷ reply.NoSession (codes "w1") ∷ []) ≡ writing 1 []
a_session_that_is_refused = refl

-- ---- a writer of a seed

the_first_of_a_seed : asked_behind (writer_of tail_name 7 0 1) (reply.Ok ∷ []) ≡ Some (op.Write (codes "w0") (0 ∷ 0 ∷ 0 ∷ 0 ∷ 0 ∷ 0 ∷ 14 ∷ 20 ∷ []) [] (Some (record { 0 = replicate 17 0 ++ 1 ∷ 0 ∷ 0 ∷ 0 ∷ 0 ∷ 0 ∷ 8 ∷ 0 ∷ 0 ∷ 0 ∷ 0 ∷ 0 ∷ 0 ∷ 14 ∷ 20 ∷ [] })))
unfolding digits fill_bytes next_u64 stream_of word_bytes u32_at
the_first_of_a_seed = refl

no_file : asked_behind (writer_of tail_name 7 0 0) (reply.Ok ∷ []) ≡ None
no_file = refl

-- ---- the thread that deletes

the_first_deletion : deletion_behind [] ≡ Some op.Delete
the_first_deletion = refl

the_fourth_deletion : deletion_behind (reply.Run 2 ∷ reply.Running 2 ∷ reply.Run 3 ∷ []) ≡ Some op.Delete
the_fourth_deletion = refl

no_fifth_deletion : deletion_behind (reply.Run 2 ∷ reply.Running 2 ∷ reply.Run 3 ∷ reply.Running 3 ∷ []) ≡ None
no_fifth_deletion = refl
