use Rattle.std.proofs.Common.{◌≡◌, ◌∙◌, ap, sym, refl, length, map, None, ◌<◌}
use Rattle.std.proofs.lemmas.List.{length-map}
use Rattle.std.specs.Prelude.{vec_capacity, vec_len}
use Rattle.hs_cluster.specs.Disks.{DiskSeen, seen_as}
use Rattle.hs_asker.specs.Going.{Inside}
use Rattle.hs_asker.specs.Shows.{Asking}
use Rattle.hs_asker.proofs.AskedLemmas.{asked_so, asker_on, begun_so, ops_on, room_on}
use Rattle.hs_asker.proofs.asker.ClusterAskerAsker.ask.Goals as goal

pub ask-requires : goal.ask-requires
ask-requires g c =
    let none = ap (λ (a : Asking). a.ended) c.self.view_is ∙ c.requires.going in
    record { going = none; room = c.self.invariant.0 none; ready = (c.self.invariant.1.going none).ready }

pub invariant_of-self : goal.invariant_of-self
invariant_of-self g c =
    let f : g.row.D.Denot → DiskSeen = λ disk. seen_as (g.D.Disk.size disk) (g.D.Disk.stands disk) (g.D.Disk.faults disk) in
    let s : Inside = record {
      said = map (λ said. said.value) c.self.inside.work.said.items;
      now = c.self.inside.work.watch;
      cluster = c.self.inside.work.cluster;
      disks = map f c.self.inside.work.disks.items;
      line = c.self.inside.work.line;
      ended = c.self.inside.work.ended;
    } in
    let next : Inside = record {
      said = map (λ said. said.value) c.ask.new.self.said.items;
      now = c.ask.new.self.watch;
      cluster = c.ask.new.self.cluster;
      disks = map f c.ask.new.self.disks.items;
      line = c.ask.new.self.line;
      ended = c.ask.new.self.ended;
    } in
    let none : s.ended ≡ None = ap (λ (a : Asking). a.ended) c.self.view_is ∙ c.requires.going in
    let count : length next.disks ≡ length s.disks = length-map c.ask.new.self.disks.items f ∙ c.ask.ensures.count ∙ sym (length-map c.self.inside.work.disks.items f) in (
      room_on c.ask.result c.ask.new.self.ended (vec_len c.ask.new.self.said < vec_capacity c.ask.new.self.said) c.ask.ensures.room c.ask.ensures.ended,
      asker_on g.D.Disk.tells (g.A.Addresser.name c.self.inside.naming.now) g.H.Handed.entry s c.args.op next c.self.invariant.1 none count c.ask.result c.ask.ensures.asks c.ask.ensures.ready c.ask.ensures.going c.ask.ensures.ended,
    )

pub returns-clause-told : goal.returns-clause-told
returns-clause-told g c =
    let f : g.row.D.Denot → DiskSeen = λ disk. seen_as (g.D.Disk.size disk) (g.D.Disk.stands disk) (g.D.Disk.faults disk) in
    let s : Inside = record {
      said = map (λ said. said.value) c.self.inside.work.said.items;
      now = c.self.inside.work.watch;
      cluster = c.self.inside.work.cluster;
      disks = map f c.self.inside.work.disks.items;
      line = c.self.inside.work.line;
      ended = c.self.inside.work.ended;
    } in
    let next : Inside = record {
      said = map (λ said. said.value) c.ask.new.self.said.items;
      now = c.ask.new.self.watch;
      cluster = c.ask.new.self.cluster;
      disks = map f c.ask.new.self.disks.items;
      line = c.ask.new.self.line;
      ended = c.ask.new.self.ended;
    } in
    let none : s.ended ≡ None = ap (λ (a : Asking). a.ended) c.self.view_is ∙ c.requires.going in
    let count : length next.disks ≡ length s.disks = length-map c.ask.new.self.disks.items f ∙ c.ask.ensures.count ∙ sym (length-map c.self.inside.work.disks.items f) in
    asked_so g.D.Disk.tells (g.A.Addresser.name c.self.inside.naming.now) g.H.Handed.entry s c.args.op next c.self.invariant.1 none count c.args.self.now _ (sym c.self.view_is) refl c.ask.result c.ask.ensures.asks

pub returns-clause-begun : goal.returns-clause-begun
returns-clause-begun g c =
    let f : g.row.D.Denot → DiskSeen = λ disk. seen_as (g.D.Disk.size disk) (g.D.Disk.stands disk) (g.D.Disk.faults disk) in
    let s : Inside = record {
      said = map (λ said. said.value) c.self.inside.work.said.items;
      now = c.self.inside.work.watch;
      cluster = c.self.inside.work.cluster;
      disks = map f c.self.inside.work.disks.items;
      line = c.self.inside.work.line;
      ended = c.self.inside.work.ended;
    } in
    let next : Inside = record {
      said = map (λ said. said.value) c.ask.new.self.said.items;
      now = c.ask.new.self.watch;
      cluster = c.ask.new.self.cluster;
      disks = map f c.ask.new.self.disks.items;
      line = c.ask.new.self.line;
      ended = c.ask.new.self.ended;
    } in
    let none : s.ended ≡ None = ap (λ (a : Asking). a.ended) c.self.view_is ∙ c.requires.going in
    let count : length next.disks ≡ length s.disks = length-map c.ask.new.self.disks.items f ∙ c.ask.ensures.count ∙ sym (length-map c.self.inside.work.disks.items f) in
    begun_so g.D.Disk.tells (g.A.Addresser.name c.self.inside.naming.now) g.H.Handed.entry s c.args.op next c.self.invariant.1 none count c.args.self.now _ (sym c.self.view_is) refl c.ask.result c.ask.ensures.asks

pub returns-clause-asked : goal.returns-clause-asked
returns-clause-asked g c =
    let f : g.row.D.Denot → DiskSeen = λ disk. seen_as (g.D.Disk.size disk) (g.D.Disk.stands disk) (g.D.Disk.faults disk) in
    let s : Inside = record {
      said = map (λ said. said.value) c.self.inside.work.said.items;
      now = c.self.inside.work.watch;
      cluster = c.self.inside.work.cluster;
      disks = map f c.self.inside.work.disks.items;
      line = c.self.inside.work.line;
      ended = c.self.inside.work.ended;
    } in
    let next : Inside = record {
      said = map (λ said. said.value) c.ask.new.self.said.items;
      now = c.ask.new.self.watch;
      cluster = c.ask.new.self.cluster;
      disks = map f c.ask.new.self.disks.items;
      line = c.ask.new.self.line;
      ended = c.ask.new.self.ended;
    } in
    let none : s.ended ≡ None = ap (λ (a : Asking). a.ended) c.self.view_is ∙ c.requires.going in
    let count : length next.disks ≡ length s.disks = length-map c.ask.new.self.disks.items f ∙ c.ask.ensures.count ∙ sym (length-map c.self.inside.work.disks.items f) in
    ops_on g.D.Disk.tells (g.A.Addresser.name c.self.inside.naming.now) g.H.Handed.entry s c.args.op next c.self.invariant.1 none count c.args.self.now _ (sym c.self.view_is) refl c.ask.result c.ask.ensures.asks
