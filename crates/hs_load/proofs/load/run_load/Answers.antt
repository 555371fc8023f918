use Rattle.std.proofs.Common.{◌≡◌, ℕ, map, refl, arith}
use Rattle.hs_ports.specs.Disk.{Standing}
use Rattle.hs_ports.specs.Objects.{handed}
use Rattle.hs_run.proofs.DisksLemmas.{falls_is, handed_counts, handed_stands}
use Rattle.hs_run.specs.Machine.{AreHanded}
use Rattle.hs_taking.specs.Disks.{DiskSeen, seen_as}
use Rattle.hs_load.proofs.CountLemmas.{load_falls, load_later}
use Rattle.hs_load.proofs.ListLemmas.{map_length}
use Rattle.hs_load.proofs.load.run_load.Goals as goal

pub returns-clause-loaded : goal.returns-clause-loaded
returns-clause-loaded g c = λ source.
    let seen : g.row.D.Denot → DiskSeen = λ disk. seen_as (g.D.Disk.size disk) (g.D.Disk.stands disk) (g.D.Disk.faults disk) in
    let told : g.row.D.Denot → Standing × ℕ = λ disk. (g.D.Disk.stands disk, g.D.Disk.faults disk) in
    let before : AreHanded (handed c.args.watch.now (map told c.args.disks.now.items) (g.K.Sink.got c.args.sink.now, g.K.Sink.faults c.args.sink.now) source) (map seen c.args.disks.now.items)
    = record { stands = handed_stands seen told (λ disk. refl) c.args.disks.now.items; counts = handed_counts seen told (λ disk. refl) c.args.disks.now.items } in
    let behind : AreHanded (handed c.load_on.new.watch (map told c.load_on.new.disks.items) (g.K.Sink.got c.load_on.new.sink, g.K.Sink.faults c.load_on.new.sink) source) (map seen c.load_on.new.disks.items)
    = record { stands = handed_stands seen told (λ disk. refl) c.load_on.new.disks.items; counts = handed_counts seen told (λ disk. refl) c.load_on.new.disks.items } in
    record {
      old = map seen c.args.disks.now.items;
      new = map seen c.load_on.new.disks.items;
      before = before;
      behind = behind;
      ends = c.load_on.ensures.ends;
      time = c.load_on.ensures.ticks;
      back = λ other. record {
        count = let here = c.load_on.ensures.count other in
            let long = map_length (λ (d : Standing × ℕ). d.0) (map told c.load_on.new.disks.items) in let more = map_length told c.load_on.new.disks.items in
            let first = map_length (λ (d : Standing × ℕ). d.0) (map told c.args.disks.now.items) in let second = map_length told c.args.disks.now.items in
            omega (arith, here, long, more, first, second, c.load_on.new.disks.ok.0, c.args.disks.now.ok.0);
        counts = record {
          disks = falls_is _ _ _ _ before behind (load_falls _ _ _ _ _ _ _ c.load_on.ensures.ends other);
          sink = load_later _ _ _ _ _ _ _ c.load_on.ensures.ends;
          source = omega arith;
        };
      };
      left = refl;
      line = c.load_on.ensures.line;
      course = c.load_on.ensures.course;
    }
