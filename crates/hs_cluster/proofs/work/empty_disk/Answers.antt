use Rattle.hs_cluster.proofs.EmptyLemmas.{failed_moments, list_found, not_refused, own_emptied, recovered_moments}
use Rattle.hs_taking.proofs.HeadLemmas.{header_then, heads_then}
use Rattle.hs_peerlog.specs.Heads.{own_head}
use Rattle.hs_side.specs.Current.{list_in}
use Rattle.hs_side.specs.Headers.{own_header}
use Rattle.hs_taking.proofs.PastLemmas.{past_then}
use Rattle.hs_cluster.proofs.work.empty_disk.Goals as goal

pub returns-in-Ok-clause-list : goal.returns-in-Ok-clause-list
returns-in-Ok-clause-list g c = λ told last.
    let past = c.recover.ensures.past told last in
    list_found _ (list_in (g.D.Disk.stands c.args.disk.now).seen) (c.in-Ok.ensures.listed told) (λ list is.
    c.empty_log.ensures.list told past.last list (c.in-Ok.ensures.list told last list is))

pub returns-in-Ok-clause-any_moment : goal.returns-in-Ok-clause-any_moment
returns-in-Ok-clause-any_moment g c = λ told last lists leaves headed.
    let past = c.recover.ensures.past told last in
    list_found _ (list_in (g.D.Disk.stands c.args.disk.now).seen) (c.in-Ok.ensures.listed told) (λ list is.
    recovered_moments c.args.watch.now c.recover.new.watch c.empty_log.new.watch (g.D.Disk.stands c.args.disk.now) (g.D.Disk.stands c.recover.new.disk) (g.D.Disk.stands c.empty_log.new.disk) lists list (g.met.D.Disk.stays told c.args.disk.now) leaves is
    (c.recover.ensures.any_of told last lists leaves)
    (c.empty_log.ensures.any_moment told past.last list (c.in-Ok.ensures.list told last list is)))

pub returns-then-is_outside-clause-any_moment : goal.returns-then-is_outside-clause-any_moment
returns-then-is_outside-clause-any_moment g c = λ told last lists leaves headed.
    failed_moments c.args.watch.now c.recover.new.watch (g.D.Disk.stands c.args.disk.now) (g.D.Disk.stands c.recover.new.disk) lists (c.recover.ensures.any_of told last lists leaves)

pub returns-else-is_outside-clause-any_moment : goal.returns-else-is_outside-clause-any_moment
returns-else-is_outside-clause-any_moment g c = λ told last lists leaves headed.
    not_refused c.args.shape c.args.peer (g.D.Disk.stands c.args.disk.now) lists c.in-Err.fault (g.met.D.Disk.stays told c.args.disk.now) leaves headed (c.in-Err.ensures.refused told) (c.is_outside.ensures.no c.if-is_outside.false)

-- whose header it leaves

pub returns-in-Ok-clause-own : goal.returns-in-Ok-clause-own
returns-in-Ok-clause-own g c = λ told.
    own_emptied (own_header c.args.shape c.args.peer) (own_head c.args.shape c.args.peer (g.D.Disk.stands c.args.disk.now).seen).1 c.in-Ok.log c.empty_log.result (c.in-Ok.ensures.head told) c.empty_log.ensures.head

pub returns-in-Ok-clause-headed : goal.returns-in-Ok-clause-headed
returns-in-Ok-clause-headed g c = λ told last headed.
    let past = c.recover.ensures.past told last in
    list_found _ (list_in (g.D.Disk.stands c.args.disk.now).seen) (c.in-Ok.ensures.listed told) (λ list is.
    (heads_then (own_header c.args.shape c.args.peer) c.args.watch.now c.recover.new.watch c.empty_log.new.watch (g.D.Disk.stands c.args.disk.now) (g.D.Disk.stands c.recover.new.disk) (g.D.Disk.stands c.empty_log.new.disk)
    (record { past = past; keeps = c.recover.ensures.headed told last headed })
    (record {
      past = c.empty_log.ensures.past told past.last;
      keeps = c.empty_log.ensures.headed told past.last list (c.in-Ok.ensures.list told last list is) (own_head c.args.shape c.args.peer (g.D.Disk.stands c.args.disk.now).seen) (c.in-Ok.ensures.head told);
    })).keeps)

pub returns-then-is_outside-clause-headed : goal.returns-then-is_outside-clause-headed
returns-then-is_outside-clause-headed g c = λ told last headed. c.recover.ensures.headed told last headed

pub returns-else-is_outside-clause-headed : goal.returns-else-is_outside-clause-headed
returns-else-is_outside-clause-headed g c = λ told last headed.
    let past = c.recover.ensures.past told last in
    let keeps = c.recover.ensures.headed told last headed in
    header_then (own_header c.args.shape c.args.peer) c.args.watch.now c.recover.new.watch c.clear.new.watch (g.D.Disk.stands c.recover.new.disk) (g.D.Disk.stands c.clear.new.disk)
    (c.clear.ensures.past told past.last) keeps (c.clear.ensures.headed told past.last keeps.standing)

-- what is past of it stays

pub returns-in-Ok-clause-past : goal.returns-in-Ok-clause-past
returns-in-Ok-clause-past g c = λ told last.
    let past = c.recover.ensures.past told last in
    past_then c.args.watch.now c.recover.new.watch c.empty_log.new.watch (g.D.Disk.stands c.args.disk.now) (g.D.Disk.stands c.recover.new.disk) (g.D.Disk.stands c.empty_log.new.disk) past (c.empty_log.ensures.past told past.last)

pub returns-then-is_outside-clause-past : goal.returns-then-is_outside-clause-past
returns-then-is_outside-clause-past g c = λ told last. c.recover.ensures.past told last

pub returns-else-is_outside-clause-past : goal.returns-else-is_outside-clause-past
returns-else-is_outside-clause-past g c = λ told last.
    let past = c.recover.ensures.past told last in
    past_then c.args.watch.now c.recover.new.watch c.clear.new.watch (g.D.Disk.stands c.args.disk.now) (g.D.Disk.stands c.recover.new.disk) (g.D.Disk.stands c.clear.new.disk) past (c.clear.ensures.past told past.last)
