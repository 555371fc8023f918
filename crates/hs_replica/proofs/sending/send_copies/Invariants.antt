use Rattle.std.proofs.Common.{◌≡◌, ◌+◌, drop, map}
use Rattle.std.specs.List.{enumerate_from}
use Rattle.hs_post.specs.declared.message.Message.TheVariants.{Copy}
use Rattle.hs_replica.specs.Group.{send_all}
use Rattle.hs_replica.proofs.sending.send_copies.Given as goal

-- what is left leads to what all lead to
abbrev pub invariant-loop-index : goal.invariant-loop-index
invariant-loop-index l =
    send_all (map (λ e. Copy l.sender.shard l.to l.sender.view e.0 e.1) (enumerate_from (l.number + l.index) (drop l.index l.entries))) l.pool
    ≡ send_all (map (λ e. Copy l.sender.shard l.to l.sender.view e.0 e.1) (enumerate_from l.number l.entries)) l.initial.pool
