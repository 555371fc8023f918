use Rattle.std.proofs.Common.{◌∙◌, ◌*◌, [], ap, arith, map, refl}
use Rattle.std.specs.List.{range_with_len}
use Rattle.hs_cluster.proofs.GrowingLemmas.{goes_same}
use Rattle.hs_cluster.proofs.ShowLemmas.{any_shows, none_shows}
use Rattle.hs_cluster.proofs.WalkLemmas.{nothing_due, raised_is}
use Rattle.hs_cluster.specs.declared.fault.ClusterFault.TheVariants.{NoMemory}
use Rattle.hs_cluster.specs.Disks.{DiskSeen, seen_as}
use Rattle.std.specs.Prelude.{Err}
use Rattle.hs_events.specs.Due.{place_after, raises_known}
use Rattle.hs_cluster.specs.Running.{Running}
use Rattle.hs_core_words.specs.Looking.{known_of}
use Rattle.hs_cluster.proofs.cluster.Cluster.move_on.Goals as goal

pub returns-clause-place : goal.returns-clause-place
returns-clause-place g c =
    let old = c.args.self.now.core in
    let shape = ap (λ (r : Running). r.core.members.shape) c.self-2.view_is ∙ c.do_due.ensures.shape in
    let knowns = c.as_slice.ensures.value ∙ c.in-Ok.ensures
    ∙ ap (λ (r : Running). map (λ peer. known_of peer r.core) (range_with_len 0 c.peers_of.result)) c.self.view_is
    ∙ ap (λ n. map (λ peer. known_of peer old) (range_with_len 0 n)) (c.peers_of.ensures.value ∙ ap (λ (r : Running). r.core.members.shape.shards * r.core.members.shape.copies) c.self.view_is) in
    c.place_after.ensures
    ∙ ap (λ b. place_after c.args.due b c.args.place.now)
    (c.raises_known-raised.ensures ∙ raised_is old c.self-2.inside.core c.as_slice.result.now shape knowns ∙ ap (λ (r : Running). raises_known old r.core) c.self-2.view_is)

pub returns-in_default-clause-does : goal.returns-in_default-clause-does
returns-in_default-clause-does g c =
    let f : g.row.D.Denot → DiskSeen = λ disk. seen_as (g.D.Disk.size disk) (g.D.Disk.stands disk) (g.D.Disk.faults disk) in
    let old = c.args.self.now in
    let now = c.args.watch.now in
    nothing_due c.args.line c.args.due now now old old _ c.requires.going (omega arith) refl refl
    (any_shows g.D.Disk.tells (record { before = now; now = now; old = old; new = old; disks = map f c.args.disks.now; left = map f c.args.disks.now }) (Err NoMemory) [] (none_shows now old old (map f c.args.disks.now)))

pub returns-in_default-clause-goes_on : goal.returns-in_default-clause-goes_on
returns-in_default-clause-goes_on g c = λ told p apart.
    let f : g.row.D.Denot → DiskSeen = λ disk. seen_as (g.D.Disk.size disk) (g.D.Disk.stands disk) (g.D.Disk.faults disk) in
    goes_same c.args.self.now.logs (map f c.args.disks.now) p
