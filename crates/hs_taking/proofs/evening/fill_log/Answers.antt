use Rattle.std.proofs.Common.{◌∙◌, ◌<◌, ap, sym, subst, take, refl, arith, None}
use Rattle.hs_entry.specs.declared.rank.Rank.{Rank}
use Rattle.hs_fold.specs.Shards.Setting.{Numbered}
use Rattle.hs_peerlog.specs.Lists.{HasLog, IsKept, with_waiting}
use Rattle.hs_ports.specs.Disk.{Standing}
use Rattle.hs_taking.proofs.EvenLemmas.{each_then, each_weak, entry_there, front_more, has_last, none_filled, one_of_fronts}
use Rattle.hs_taking.proofs.PairLemmas.{still_none, still_then}
use Rattle.hs_taking.proofs.PastLemmas.{past_still, past_then}
use Rattle.hs_taking.specs.Disks.{DiskSeen, seen_as}
use Rattle.hs_taking.proofs.HeadLemmas.{header_still, header_then}
use Rattle.hs_taking.proofs.evening.fill_log.Goals as goal

pub entries-init : goal.entries-init
entries-init g c =
    let seen : g.row.D.Denot → DiskSeen = λ disk. seen_as (g.D.Disk.size disk) (g.D.Disk.stands disk) (g.D.Disk.faults disk) in
    record {
      source = still_none g.D.Disk.tells (seen c.args.source.now);
      source_calm = refl;
      disk_calm = refl;
      ready = c.requires.ready;
      sealed = c.requires.none;
      number = c.requires.empty;
      has = λ told last list kept has. has;
      moments = λ told last list kept has. none_filled c.args.watch.now (g.D.Disk.stands c.args.disk.now) list last (λ side m high. g.met.D.Disk.since told c.args.disk.now side m high) has.leaves;
      past = λ told last. past_still c.args.watch.now c.args.watch.now (g.D.Disk.stands c.args.disk.now) (omega arith) last;
      head = refl;
      headed = λ told last list kept has head is. header_still head.0 c.args.watch.now (g.D.Disk.stands c.args.disk.now) last (λ side m high. g.met.D.Disk.since told c.args.disk.now side m high) (has.headed head is);
      ticks = omega arith;
    }

pub entries-preserved : goal.entries-preserved
entries-preserved g c =
    let seen : g.row.D.Denot → DiskSeen = λ disk. seen_as (g.D.Disk.size disk) (g.D.Disk.stands disk) (g.D.Disk.faults disk) in
    let inv = c.entries.invariant in
    let step = c.fill_entry.ensures in
    let done = c.in-Ok.ensures in
    let low : c.entries.index < c.args.taken.now.rank.number = omega (arith, c.entries-test.true, c.last-index-end.ensures) in
    let there : g.D.Disk.tells → (list : Numbered) → IsKept c.args.taken.now ((g.D.Disk.stands c.args.source.now).seen c.args.taken.now.log.side) list None → IsKept c.args.taken.now ((g.D.Disk.stands c.entries.source).seen c.args.taken.now.log.side) list None
    = λ told list kept. subst (λ (d : Standing). IsKept c.args.taken.now (d.seen c.args.taken.now.log.side) list None) (sym (inv.source.same told)) kept in
    record {
      source = still_then g.D.Disk.tells (seen c.args.source.now) (seen c.entries.source) (seen c.fill_entry.new.source) inv.source step.source;
      source_calm = done.calm.0 ∙ inv.source_calm;
      disk_calm = done.calm.1 ∙ inv.disk_calm;
      ready = done.ready;
      sealed = done.sealed;
      number = done.rank;
      has = λ told last list kept empty.
          let so_far = inv.has told last list kept empty in
          let past = inv.past told last in
          let e = entry_there list c.entries.index kept.numbered (subst (λ n. c.entries.index < n) (ap (λ (r : Rank). r.number) kept.rank) low) in
          let more = front_more list c.entries.index e.0 kept.numbered e.1 (has_last c.entries.copy (g.D.Disk.stands c.entries.disk) (take c.entries.index list) c.entries.index so_far inv.number) in
          subst (λ (l : Numbered). HasLog c.fill_entry.new.copy (g.D.Disk.stands c.fill_entry.new.disk) l None) more (done.has told past.last list (take c.entries.index list) e.0 (there told list kept) e.1 so_far);
      moments = λ told last list kept empty.
          let so_far = inv.has told last list kept empty in
          let past = inv.past told last in
          let e = entry_there list c.entries.index kept.numbered (subst (λ n. c.entries.index < n) (ap (λ (r : Rank). r.number) kept.rank) low) in
          let more = front_more list c.entries.index e.0 kept.numbered e.1 (has_last c.entries.copy (g.D.Disk.stands c.entries.disk) (take c.entries.index list) c.entries.index so_far inv.number) in
          each_then (inv.moments told last list kept empty)
          (each_weak (λ l one. one_of_fronts list c.entries.index (with_waiting (take c.entries.index list) e.0) l more one) (step.moments told past.last list (take c.entries.index list) e.0 (there told list kept) e.1 so_far));
      past = λ told last. let past = inv.past told last in past_then c.args.watch.now c.entries.watch c.fill_entry.new.watch (g.D.Disk.stands c.args.disk.now) (g.D.Disk.stands c.entries.disk) (g.D.Disk.stands c.fill_entry.new.disk) past (step.past told past.last);
      head = done.head ∙ inv.head;
      headed = λ told last list kept empty head is.
          let past = inv.past told last in
          header_then head.0 c.args.watch.now c.entries.watch c.fill_entry.new.watch (g.D.Disk.stands c.entries.disk) (g.D.Disk.stands c.fill_entry.new.disk) (step.past told past.last) (inv.headed told last list kept empty head is)
          (step.headed told past.last (take c.entries.index list) (inv.has told last list kept empty) head (inv.head ∙ is));
      ticks = omega (arith, inv.ticks, step.ticks);
    }

pub returns-in-Err-clause-filled : goal.returns-in-Err-clause-filled
returns-in-Err-clause-filled g c =
    let seen : g.row.D.Denot → DiskSeen = λ disk. seen_as (g.D.Disk.size disk) (g.D.Disk.stands disk) (g.D.Disk.faults disk) in
    let inv = c.entries.invariant in
    let step = c.fill_entry.ensures in
    let low : c.entries.index < c.args.taken.now.rank.number = omega (arith, c.entries-test.true, c.last-index-end.ensures) in
    let there : g.D.Disk.tells → (list : Numbered) → IsKept c.args.taken.now ((g.D.Disk.stands c.args.source.now).seen c.args.taken.now.log.side) list None → IsKept c.args.taken.now ((g.D.Disk.stands c.entries.source).seen c.args.taken.now.log.side) list None
    = λ told list kept. subst (λ (d : Standing). IsKept c.args.taken.now (d.seen c.args.taken.now.log.side) list None) (sym (inv.source.same told)) kept in
    record {
      source = still_then g.D.Disk.tells (seen c.args.source.now) (seen c.entries.source) (seen c.fill_entry.new.source) inv.source step.source;
      moments = λ told last list kept empty.
          let so_far = inv.has told last list kept empty in
          let past = inv.past told last in
          let e = entry_there list c.entries.index kept.numbered (subst (λ n. c.entries.index < n) (ap (λ (r : Rank). r.number) kept.rank) low) in
          let more = front_more list c.entries.index e.0 kept.numbered e.1 (has_last c.entries.copy (g.D.Disk.stands c.entries.disk) (take c.entries.index list) c.entries.index so_far inv.number) in
          each_then (inv.moments told last list kept empty)
          (each_weak (λ l one. one_of_fronts list c.entries.index (with_waiting (take c.entries.index list) e.0) l more one) (step.moments told past.last list (take c.entries.index list) e.0 (there told list kept) e.1 so_far));
      past = λ told last. let past = inv.past told last in past_then c.args.watch.now c.entries.watch c.fill_entry.new.watch (g.D.Disk.stands c.args.disk.now) (g.D.Disk.stands c.entries.disk) (g.D.Disk.stands c.fill_entry.new.disk) past (step.past told past.last);
      counted = let a = step.counted in let b = inv.disk_calm in omega (arith, a, b);
      ticks = omega (arith, inv.ticks, step.ticks);
    }

pub returns-in-Err-clause-headed : goal.returns-in-Err-clause-headed
returns-in-Err-clause-headed g c =
    let inv = c.entries.invariant in
    let step = c.fill_entry.ensures in
    λ told last list kept empty head is.
    let past = inv.past told last in
    header_then head.0 c.args.watch.now c.entries.watch c.fill_entry.new.watch (g.D.Disk.stands c.entries.disk) (g.D.Disk.stands c.fill_entry.new.disk) (step.past told past.last) (inv.headed told last list kept empty head is)
    (step.headed told past.last (take c.entries.index list) (inv.has told last list kept empty) head (inv.head ∙ is))
