-- From where on the other good peers are sent entries.
use Rattle.std.specs.Prelude.{ℕ, ◌&&◌, not, Option, List, length, flat_map, if◌then◌else◌}
use Rattle.hs_post.specs.declared.message.Message.{Message}
use Rattle.hs_post.specs.Pool.{Pool}
use Rattle.hs_replica.specs.declared.sending.Since.{Since}
use Rattle.hs_replica.specs.declared.sending.Since.TheVariants.{Length, Known}
use Rattle.hs_replica.specs.declared.replica.Replica.{Replica}
use Rattle.hs_replica.specs.Group.{Group, copies_above, is_peer, others, send_all}

-- the number above which a peer is sent entries
abbrev pub above : Since → Replica → ℕ
above Length copy = length copy.stamps
above Known copy = copy.known

-- Copies of them for every good peer but the lead
abbrev pub copies_since : Since → Group → List Message
copies_since since group = flat_map (λ x. copies_above x.0 (above since x.1) group) (others group)

-- the pool after Copies of them were sent to this peer with this copy, if it is good and not the lead
abbrev pub send_if_other : Group → Since → Option ℕ → ℕ → Replica → Pool → Pool
send_if_other group since lead peer copy pool =
    if copy.good && not (is_peer peer lead) then send_all (copies_above peer (above since copy) group) pool else pool
