use Rattle.std.proofs.Common.{◌≡◌, ◌∙◌, ℕ, Some, false, map, sym}
use Rattle.std.specs.Prelude.{Err}
use Rattle.hs_cluster.proofs.CountLemmas.{falls_then}
use Rattle.hs_cluster.proofs.GoingOnLemmas.{opens_found}
use Rattle.hs_cluster.proofs.JoiningLemmas.{none_joins, opens_apart}
use Rattle.hs_cluster.proofs.TurnedLemmas.{not_turned, opened, opens_so_far, turned}
use Rattle.hs_cluster.specs.Begins.{opened_with}
use Rattle.hs_cluster.specs.Disks.{DiskSeen, seen_as}
use Rattle.hs_cluster.specs.Kept.{Span as Turns}
use Rattle.hs_core_words.specs.Looking.{status_of}
use Rattle.hs_fold.specs.Shards.Setting.{Setting}
use Rattle.hs_members.specs.Members.{is_joining}
use Rattle.hs_taking.specs.Shares.{Span}
use Rattle.hs_cluster.proofs.cluster.Cluster.open.Goals as goal

pub returns-in-Some-clause-opened : goal.returns-in-Some-clause-opened
returns-in-Some-clause-opened g c =
    let f : g.row.D.Denot → DiskSeen = λ disk. seen_as (g.D.Disk.size disk) (g.D.Disk.stands disk) (g.D.Disk.faults disk) in
    let set : Setting = record { name = g.A.Addresser.name c.args.naming.now; limits = c.args.limits; shape = c.args.shape } in
    let span : Span = record { before = c.args.watch.now; now = c.begin.new.watch; old = map f c.args.disks.now; new = map f c.begin.new.disks } in
    let is : c.in-Ok.cluster.core.ended ≡ Some c.in-Some.fault = sym c.ended.ensures ∙ c.in-Some.is in
    opened g.D.Disk.tells set span c.in-Ok.cluster c.in-Ok.cluster (Err c.from.result) c.begin.new.watch (map f c.begin.new.disks) c.in-Ok.ensures.begins
    (not_turned g.D.Disk.tells c.begin.new.watch c.in-Ok.cluster (map f c.begin.new.disks) c.in-Some.fault c.from.result is c.from.ensures
    (opens_so_far set.shape set.limits (opened_with c.in-Ok.ensures.begins.taken) c.begin.new.watch c.in-Ok.cluster.core c.in-Some.fault c.in-Ok.ensures.begins.core is))

pub returns-in-Some-clause-opens : goal.returns-in-Some-clause-opens
returns-in-Some-clause-opens g c =
    let f : g.row.D.Denot → DiskSeen = λ disk. seen_as (g.D.Disk.size disk) (g.D.Disk.stands disk) (g.D.Disk.faults disk) in
    let set : Setting = record { name = g.A.Addresser.name c.args.naming.now; limits = c.args.limits; shape = c.args.shape } in
    let span : Span = record { before = c.args.watch.now; now = c.begin.new.watch; old = map f c.args.disks.now; new = map f c.begin.new.disks } in
    let is : c.in-Ok.cluster.core.ended ≡ Some c.in-Some.fault = sym c.ended.ensures ∙ c.in-Some.is in
    opens_found g.D.Disk.tells set span c.in-Ok.cluster (Err c.from.result)
    (opened g.D.Disk.tells set span c.in-Ok.cluster c.in-Ok.cluster (Err c.from.result) c.begin.new.watch (map f c.begin.new.disks) c.in-Ok.ensures.begins
    (not_turned g.D.Disk.tells c.begin.new.watch c.in-Ok.cluster (map f c.begin.new.disks) c.in-Some.fault c.from.result is c.from.ensures
    (opens_so_far set.shape set.limits (opened_with c.in-Ok.ensures.begins.taken) c.begin.new.watch c.in-Ok.cluster.core c.in-Some.fault c.in-Ok.ensures.begins.core is)))

pub returns-clause-opened : goal.returns-clause-opened
returns-clause-opened g c =
    let f : g.row.D.Denot → DiskSeen = λ disk. seen_as (g.D.Disk.size disk) (g.D.Disk.stands disk) (g.D.Disk.faults disk) in
    let set : Setting = record { name = g.A.Addresser.name c.args.naming.now; limits = c.args.limits; shape = c.args.shape } in
    let span : Span = record { before = c.args.watch.now; now = c.settle-done.new.watch; old = map f c.args.disks.now; new = map f c.settle-done.new.disks } in
    let apart : (peer : ℕ) → is_joining (status_of peer c.in-Ok.cluster.core) ≡ false = λ peer. opens_apart set.shape set.limits (opened_with c.in-Ok.ensures.begins.taken) c.begin.new.watch peer c.in-Ok.cluster.core c.in-Ok.ensures.begins.core in
    let turns : Turns = record { before = c.begin.new.watch; now = c.settle-done.new.watch; old = c.in-Ok.cluster; new = c.settle-done.new.self; disks = map f c.begin.new.disks; left = map f c.settle-done.new.disks } in
    opened g.D.Disk.tells set span c.in-Ok.cluster c.settle-done.new.self c.settle-done.result c.begin.new.watch (map f c.begin.new.disks) c.in-Ok.ensures.begins
    (turned g.D.Disk.tells turns c.settle-done.result (sym c.ended.ensures ∙ c.in-None.is) c.settle-done.ensures.walks (λ told peer. c.settle-done.ensures.goes_on told peer (apart peer)))

pub returns-clause-opens : goal.returns-clause-opens
returns-clause-opens g c =
    let f : g.row.D.Denot → DiskSeen = λ disk. seen_as (g.D.Disk.size disk) (g.D.Disk.stands disk) (g.D.Disk.faults disk) in
    let set : Setting = record { name = g.A.Addresser.name c.args.naming.now; limits = c.args.limits; shape = c.args.shape } in
    let span : Span = record { before = c.args.watch.now; now = c.settle-done.new.watch; old = map f c.args.disks.now; new = map f c.settle-done.new.disks } in
    let apart : (peer : ℕ) → is_joining (status_of peer c.in-Ok.cluster.core) ≡ false = λ peer. opens_apart set.shape set.limits (opened_with c.in-Ok.ensures.begins.taken) c.begin.new.watch peer c.in-Ok.cluster.core c.in-Ok.ensures.begins.core in
    let turns : Turns = record { before = c.begin.new.watch; now = c.settle-done.new.watch; old = c.in-Ok.cluster; new = c.settle-done.new.self; disks = map f c.begin.new.disks; left = map f c.settle-done.new.disks } in
    opens_found g.D.Disk.tells set span c.settle-done.new.self c.settle-done.result
    (opened g.D.Disk.tells set span c.in-Ok.cluster c.settle-done.new.self c.settle-done.result c.begin.new.watch (map f c.begin.new.disks) c.in-Ok.ensures.begins
    (turned g.D.Disk.tells turns c.settle-done.result (sym c.ended.ensures ∙ c.in-None.is) c.settle-done.ensures.walks (λ told peer. c.settle-done.ensures.goes_on told peer (apart peer))))

pub returns-clause-counted : goal.returns-clause-counted
returns-clause-counted g c =
    let f : g.row.D.Denot → DiskSeen = λ disk. seen_as (g.D.Disk.size disk) (g.D.Disk.stands disk) (g.D.Disk.faults disk) in
    falls_then (map f c.args.disks.now) (map f c.begin.new.disks) (map f c.settle-done.new.disks) c.begin.ensures.counted c.settle-done.ensures.walks.kept.counted.later

pub returns-clause-joins : goal.returns-clause-joins
returns-clause-joins g c =
    let set : Setting = record { name = g.A.Addresser.name c.args.naming.now; limits = c.args.limits; shape = c.args.shape } in
    none_joins c.settle-done.result (λ peer. is_joining (status_of peer c.settle-done.new.self.core) ≡ false) (λ peer. c.settle-done.ensures.joins peer
    (opens_apart set.shape set.limits (opened_with c.in-Ok.ensures.begins.taken) c.begin.new.watch peer c.in-Ok.cluster.core c.in-Ok.ensures.begins.core))
