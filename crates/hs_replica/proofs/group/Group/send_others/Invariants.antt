use Rattle.std.proofs.Common.{◌≡◌, ◌+◌, drop, map}
use Rattle.hs_post.specs.declared.message.Message.TheVariants.{Copy}
use Rattle.hs_replica.specs.Group.{first_peer, others_from, send_all}
use Rattle.hs_replica.proofs.group.Group.send_others.Given as goal

-- what is left leads to what all lead to
abbrev pub invariant-loop-index : goal.invariant-loop-index
invariant-loop-index l =
    send_all (map (λ x. Copy l.self.shard x.0 l.self.view l.number l.entry) (others_from l.leads (first_peer l.self + l.index) (drop l.index l.self.copies))) l.pool
    ≡ send_all (map (λ x. Copy l.self.shard x.0 l.self.view l.number l.entry) (others_from l.leads (first_peer l.self) l.self.copies)) l.initial.pool
