use Rattle.hs_peerlog.specs.Lists.{with_waiting}
use Rattle.hs_scrub.proofs.CopyLemmas.{append_each, put_each}
use Rattle.hs_scrub.proofs.giving.put_entry.Goals as goal

pub returns-in-Err-Disk-clause-any_moment : goal.returns-in-Err-Disk-clause-any_moment
returns-in-Err-Disk-clause-any_moment g c =
    λ told last list own. append_each list (with_waiting list c.args.entry.now) (c.append.ensures.any_moment told last list own)

pub returns-in-Err-NoMemory-clause-any_moment : goal.returns-in-Err-NoMemory-clause-any_moment
returns-in-Err-NoMemory-clause-any_moment g c =
    λ told last list own. append_each list (with_waiting list c.args.entry.now) (c.append.ensures.any_moment told last list own)

pub returns-in-Ok-seal-clause-any_moment : goal.returns-in-Ok-seal-clause-any_moment
returns-in-Ok-seal-clause-any_moment g c =
    λ told last list own.
    put_each list (with_waiting list c.args.entry.now) (c.append.ensures.any_moment told last list own)
    (c.seal.ensures.any_moment told (c.append.ensures.past told last).last list c.args.entry.now (c.in-Ok.ensures.list told last list own))

pub returns-in-Err-clause-any_moment : goal.returns-in-Err-clause-any_moment
returns-in-Err-clause-any_moment g c =
    λ told last list own.
    put_each list (with_waiting list c.args.entry.now) (c.append.ensures.any_moment told last list own)
    (c.seal.ensures.any_moment told (c.append.ensures.past told last).last list c.args.entry.now (c.in-Ok.ensures.list told last list own))
