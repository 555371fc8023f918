use Rattle.std.proofs.Common.{◌≡◌, ◌≤◌, List, length, map, refl, sym, subst, vec_len, arith}
use Rattle.hs_promise.specs.declared.load.Stored.{Stored}
use Rattle.hs_taking.specs.Disks.{AreReady, DiskSeen, seen_as}
use Rattle.hs_load.specs.Joined.{IsApart, team_of}
use Rattle.hs_load.specs.Judged.{HaveWorked}
use Rattle.hs_load.specs.Team.{Task}
use Rattle.hs_load.proofs.JoinLemmas.{can_begin}
use Rattle.hs_load.proofs.ListLemmas.{map_length}
use Rattle.hs_load.proofs.working.work_and_join.Goals as goal

pub work_over-requires-clause-seated : goal.work_over-requires-clause-seated
work_over-requires-clause-seated g c =
    let seen : g.row.D.Denot → DiskSeen = λ disk. seen_as (g.D.Disk.size disk) (g.D.Disk.stands disk) (g.D.Disk.faults disk) in
    let task : Task = record { name = g.A.Addresser.name c.args.naming.now; seed = c.args.seed; writers = c.args.writers; files = c.args.files } in
    λ lifetimes alive. can_begin g.D.Disk.tells g.D.Disk.size g.D.Disk.stands g.D.Disk.faults c.args.logs.items (map seen c.replace-taken.result.items) c.args.watch.now task
    (subst (λ v. AreReady g.D.Disk.tells c.args.logs.items (map seen v.items)) (sym c.replace-taken.ensures.value) c.requires.ready)
    c.in_ok-seated.seated.elements.items (c.in_ok-seated.ensures.seated task refl)

pub first_apart_of-apart-requires : goal.first_apart_of-apart-requires
first_apart_of-apart-requires g c =
    let seen : g.row.D.Denot → DiskSeen = λ disk. seen_as (g.D.Disk.size disk) (g.D.Disk.stands disk) (g.D.Disk.faults disk) in
    let task : Task = record { name = g.A.Addresser.name c.args.naming.now; seed = c.args.seed; writers = c.args.writers; files = c.args.files } in
    let taken = c.replace-taken.result in
    let count = c.in_ok-seated.ensures.count in
    let mapped = map_length seen taken.items in
    let worked = c.in_ok-peers.ensures.worked c.args.logs.items (map seen taken.items) c.args.watch.now task refl (omega (arith, count, mapped, taken.ok.0))
    (c.in_ok-book.ensures.came c.args.logs.items (map seen taken.items) c.args.watch.now c.args.writers (c.in_ok-seated.ensures.seated task refl)) c.in_ok-seated.ensures.back in
    let stored = worked.stored in
    let here = c.as_slice.ensures.len in
    let few : vec_len taken ≤ 256 = subst (λ v. vec_len v ≤ 256) (sym c.replace-taken.ensures.value) c.requires.few in
    omega (arith, stored, here, mapped, taken.ok.0, few, c.in_ok-peers.peers.stored.ok.0)

pub returns-clause-joined : goal.returns-clause-joined
returns-clause-joined g c =
    let seen : g.row.D.Denot → DiskSeen = λ disk. seen_as (g.D.Disk.size disk) (g.D.Disk.stands disk) (g.D.Disk.faults disk) in
    let task : Task = record { name = g.A.Addresser.name c.args.naming.now; seed = c.args.seed; writers = c.args.writers; files = c.args.files } in
    let taken = c.replace-taken.result in
    let count = c.in_ok-seated.ensures.count in
    let mapped = map_length seen taken.items in
    let worked : HaveWorked g.D.Disk.tells task c.args.logs.items (map seen taken.items) (map seen c.hand_all.new.disks.items) (team_of c.in_ok-peers.peers c.in_ok-peers.askers)
    = c.in_ok-peers.ensures.worked c.args.logs.items (map seen taken.items) c.args.watch.now task refl (omega (arith, count, mapped, taken.ok.0))
    (c.in_ok-book.ensures.came c.args.logs.items (map seen taken.items) c.args.watch.now c.args.writers (c.in_ok-seated.ensures.seated task refl)) c.in_ok-seated.ensures.back in
    record {
      book = c.in_ok-book.book;
      kept = record {
        is = c.into_core-core.ensures.book;
        core = c.into_core-core.ensures.core;
        ended = c.ended-ended.ensures;
        apart = subst (λ (xs : List Stored). IsApart xs c.in_ok-book.book c.first_apart_of-apart.result) c.as_slice.ensures.value c.first_apart_of-apart.ensures;
      };
      worked = subst (λ v. HaveWorked g.D.Disk.tells task c.args.logs.items (map seen v.items) (map seen c.hand_all.new.disks.items) (team_of c.in_ok-peers.peers c.in_ok-peers.askers)) c.replace-taken.ensures.value worked;
    }
