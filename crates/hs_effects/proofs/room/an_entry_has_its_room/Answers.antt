use Rattle.hs_effects.proofs.RoomyLemmas.{block_room, block_room_behind, root_room, root_room_behind}
use Rattle.hs_effects.proofs.room.an_entry_has_its_room.Goals as goal

pub returns-clause-blocks : goal.returns-clause-blocks
returns-clause-blocks c = λ name core shard number line least bytes session payload handles address its leads. block_room name core shard number line least bytes its leads session payload handles address

pub returns-clause-block_refused : goal.returns-clause-block_refused
returns-clause-block_refused c = λ name core shard number line least bytes session payload handles address its leads did. block_room_behind name core shard number line least bytes its leads session payload handles address did

pub returns-clause-roots : goal.returns-clause-roots
returns-clause-roots c = λ name core shard number line epoch a key session handle its leads. root_room name core shard number line epoch a key its leads session handle

pub returns-clause-root_refused : goal.returns-clause-root_refused
returns-clause-root_refused c = λ name core shard number line epoch a key session handle its leads did. root_room_behind name core shard number line epoch a key its leads session handle did
