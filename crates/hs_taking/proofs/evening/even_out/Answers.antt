use Rattle.std.proofs.Common.{◌∙◌, arith}
use Rattle.hs_taking.proofs.EvenLemmas.{fault_then, made_moments, made_none, made_past}
use Rattle.hs_taking.specs.Disks.{DiskSeen, seen_as}
use Rattle.hs_taking.proofs.HeadLemmas.{filled_headed}
use Rattle.hs_taking.proofs.evening.even_out.Goals as goal

pub returns-in-Err-clause-made : goal.returns-in-Err-clause-made
returns-in-Err-clause-made g c =
    let seen : g.row.D.Denot → DiskSeen = λ disk. seen_as (g.D.Disk.size disk) (g.D.Disk.stands disk) (g.D.Disk.faults disk) in
    let e = c.in-Err.ensures in
    made_none g.D.Disk.tells c.args.watch.now c.empty_log.new.watch (seen c.args.source.now) (seen c.args.disk.now) (seen c.empty_log.new.disk) c.args.taken.now c.in-Err.fault c.other_fault.result c.other_fault.ensures e.emptied e.refused e.cause e.ticks

pub returns-in-Ok-fill_log-clause-made : goal.returns-in-Ok-fill_log-clause-made
returns-in-Ok-fill_log-clause-made g c =
    let seen : g.row.D.Denot → DiskSeen = λ disk. seen_as (g.D.Disk.size disk) (g.D.Disk.stands disk) (g.D.Disk.faults disk) in
    let one = c.in-Ok.ensures in
    let two = c.fill_log.ensures in
    let done = c.in-Ok-fill_log.ensures in
    record {
      source = two.filled.source;
      has = λ told last list kept. done.has told (one.emptied.past told last).last list kept (one.emptied.has told last);
      ready = done.ready;
      moments = made_moments g.D.Disk.tells c.args.watch.now c.empty_log.new.watch c.fill_log.new.watch (seen c.args.source.now) (seen c.fill_log.new.source) (seen c.args.disk.now) (seen c.empty_log.new.disk) (seen c.fill_log.new.disk) c.args.taken.now c.in-Ok.copy one.emptied two.filled;
      past = made_past g.D.Disk.tells c.args.watch.now c.empty_log.new.watch c.fill_log.new.watch (seen c.args.source.now) (seen c.fill_log.new.source) (seen c.args.disk.now) (seen c.empty_log.new.disk) (seen c.fill_log.new.disk) c.args.taken.now c.in-Ok.copy one.emptied two.filled;
      counted = let x = c.empty_log.ensures.cause.later in let y = two.filled.counted in omega (arith, x, y);
      calm = (done.calm.0, done.calm.1 ∙ one.calm);
      cause = tt;
      ticks = let x = one.ticks in let y = two.filled.ticks in omega (arith, x, y);
    }

pub returns-in-Err-fill_log-clause-made : goal.returns-in-Err-fill_log-clause-made
returns-in-Err-fill_log-clause-made g c =
    let seen : g.row.D.Denot → DiskSeen = λ disk. seen_as (g.D.Disk.size disk) (g.D.Disk.stands disk) (g.D.Disk.faults disk) in
    let one = c.in-Ok.ensures in
    let two = c.fill_log.ensures in
    record {
      source = two.filled.source;
      has = tt;
      ready = tt;
      moments = made_moments g.D.Disk.tells c.args.watch.now c.empty_log.new.watch c.fill_log.new.watch (seen c.args.source.now) (seen c.fill_log.new.source) (seen c.args.disk.now) (seen c.empty_log.new.disk) (seen c.fill_log.new.disk) c.args.taken.now c.in-Ok.copy one.emptied two.filled;
      past = made_past g.D.Disk.tells c.args.watch.now c.empty_log.new.watch c.fill_log.new.watch (seen c.args.source.now) (seen c.fill_log.new.source) (seen c.args.disk.now) (seen c.empty_log.new.disk) (seen c.fill_log.new.disk) c.args.taken.now c.in-Ok.copy one.emptied two.filled;
      counted = let x = c.empty_log.ensures.cause.later in let y = two.filled.counted in omega (arith, x, y);
      calm = tt;
      cause = fault_then g.D.Disk.tells (seen c.args.source.now) (seen c.fill_log.new.source) (seen c.args.disk.now) (seen c.empty_log.new.disk) (seen c.fill_log.new.disk) c.in-Err-fill_log.fault one.calm c.in-Err-fill_log.ensures.cause;
      ticks = let x = one.ticks in let y = two.filled.ticks in omega (arith, x, y);
    }

pub returns-in-Ok-fill_log-clause-headed : goal.returns-in-Ok-fill_log-clause-headed
returns-in-Ok-fill_log-clause-headed g c =
    let seen : g.row.D.Denot → DiskSeen = λ disk. seen_as (g.D.Disk.size disk) (g.D.Disk.stands disk) (g.D.Disk.faults disk) in
    let one = c.in-Ok.ensures in
    filled_headed g.D.Disk.tells c.args.shape c.args.peer c.args.watch.now c.empty_log.new.watch c.fill_log.new.watch (g.D.Disk.size c.args.source.now c.args.taken.now.log.side) (g.D.Disk.stands c.args.source.now) (seen c.args.disk.now) (seen c.empty_log.new.disk) (seen c.fill_log.new.disk) c.args.taken.now c.in-Ok.copy
    c.requires.taken c.requires.sealed one.headed one.own one.emptied.has c.fill_log.ensures.filled.past c.fill_log.ensures.headed

pub returns-in-Err-fill_log-clause-headed : goal.returns-in-Err-fill_log-clause-headed
returns-in-Err-fill_log-clause-headed g c =
    let seen : g.row.D.Denot → DiskSeen = λ disk. seen_as (g.D.Disk.size disk) (g.D.Disk.stands disk) (g.D.Disk.faults disk) in
    let one = c.in-Ok.ensures in
    filled_headed g.D.Disk.tells c.args.shape c.args.peer c.args.watch.now c.empty_log.new.watch c.fill_log.new.watch (g.D.Disk.size c.args.source.now c.args.taken.now.log.side) (g.D.Disk.stands c.args.source.now) (seen c.args.disk.now) (seen c.empty_log.new.disk) (seen c.fill_log.new.disk) c.args.taken.now c.in-Ok.copy
    c.requires.taken c.requires.sealed one.headed one.own one.emptied.has c.fill_log.ensures.filled.past c.fill_log.ensures.headed

pub returns-in-Ok-fill_log-clause-own : goal.returns-in-Ok-fill_log-clause-own
returns-in-Ok-fill_log-clause-own g c = λ told. ((c.in-Ok.ensures.own told).0, c.in-Ok-fill_log.ensures.head ∙ (c.in-Ok.ensures.own told).1)
