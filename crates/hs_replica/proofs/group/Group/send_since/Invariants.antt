use Rattle.std.proofs.Common.{◌≡◌, ◌+◌, drop, flat_map}
use Rattle.hs_replica.specs.Group.{copies_above, first_peer, others_from, send_all}
use Rattle.hs_replica.specs.Sending.{above}
use Rattle.hs_replica.proofs.group.Group.send_since.Given as goal

-- what is left leads to what all lead to
abbrev pub invariant-loop-index : goal.invariant-loop-index
invariant-loop-index l =
    send_all (flat_map (λ x. copies_above x.0 (above l.since x.1) l.self) (others_from l.lead (first_peer l.self + l.index) (drop l.index l.self.copies))) l.pool
    ≡ send_all (flat_map (λ x. copies_above x.0 (above l.since x.1) l.self) (others_from l.lead (first_peer l.self) l.self.copies)) l.initial.pool
