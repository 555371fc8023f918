use Rattle.std.proofs.Common.{rules, sym, ◌≡◌, ◌+◌, ◌∙◌, slice_index_or}
use Rattle.hs_replica.specs.Group.{first_peer, no_copy}
use Rattle.hs_replica.specs.Sending.{send_if_other}
use Rattle.hs_replica.proofs.SendLemmas.{since_next}
use Rattle.hs_replica.proofs.group.Group.send_since.Goals as goal

pub loop-index-preserved : goal.loop-index-preserved
loop-index-preserved c =
    let self = c.args.self.now in
    let sent : c.send_one_since.new.pool ≡ send_if_other self c.args.since c.lead-lead.result (first_peer self + c.loop-index.index) (slice_index_or self.copies c.loop-index.index no_copy) c.loop-index.pool = search rules in
    rw sent (sym (since_next self c.args.since c.lead-lead.result (first_peer self) c.loop-index.index self.copies c.loop-index.pool (search rules)) ∙ c.loop-index.invariant)
