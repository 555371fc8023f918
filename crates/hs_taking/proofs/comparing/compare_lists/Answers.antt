use Rattle.std.proofs.Common.{◌≡◌, ◌∙◌, ◌+◌, ap, sym, subst, true, false, arith}
use Rattle.hs_entry.specs.declared.rank.Rank.{Rank}
use Rattle.hs_fold.specs.Shards.Setting.{Numbered}
use Rattle.hs_peerlog.specs.Lists.{numbered_entry}
use Rattle.hs_peerlog.specs.Views.{HasView}
use Rattle.hs_ports.specs.Disk.{Standing}
use Rattle.hs_taking.proofs.PairLemmas.{compared, number_same, same_all, same_more, still_then}
use Rattle.hs_taking.specs.Disks.{DiskSeen, seen_as}
use Rattle.hs_taking.proofs.comparing.compare_lists.Goals as goal

pub returns-in-Ok-false : goal.returns-in-Ok-false
returns-in-Ok-false g c =
    let seen : g.row.D.Denot → DiskSeen = λ disk. seen_as (g.D.Disk.size disk) (g.D.Disk.stands disk) (g.D.Disk.faults disk) in
    let inv = c.entries.invariant in
    let step = c.compare_entry.ensures in
    let told_calm = c.in-Ok-false.ensures.calm in
    compared g.D.Disk.tells c.args.view.now c.args.other.now (seen c.args.source.now) (seen c.compare_entry.new.source) (seen c.args.disk.now) (seen c.compare_entry.new.disk) false c.requires.source c.requires.disk
    (still_then g.D.Disk.tells (seen c.args.source.now) (seen c.entries.source) (seen c.compare_entry.new.source) inv.source step.source)
    (still_then g.D.Disk.tells (seen c.args.disk.now) (seen c.entries.disk) (seen c.compare_entry.new.disk) inv.disk step.disk)
    (told_calm.0 ∙ inv.source_calm) (told_calm.1 ∙ inv.disk_calm)
    (λ told whole own there here.
    let a = subst (λ (d : Standing). HasView c.args.view.now d.seen whole) (sym (inv.source.same told)) there in
    let b = subst (λ (d : Standing). HasView c.args.other.now d.seen own) (sym (inv.disk.same told)) here in
    let is = c.in-Ok-false.ensures.same told whole own a b in
    (λ y. absurd (no_truth' y), λ n same. let w = is.1 (ap (λ (l : Numbered). numbered_entry l (c.entries.index + 1)) same) in no_truth (sym w ∙ c.in-Ok-false.field-0-test)))
  where
    no_truth : true ≡ false → ⊥
    no_truth e = cc e

    no_truth' : false ≡ true → ⊥
    no_truth' e = cc e

pub entries-preserved : goal.entries-preserved
entries-preserved g c =
    let seen : g.row.D.Denot → DiskSeen = λ disk. seen_as (g.D.Disk.size disk) (g.D.Disk.stands disk) (g.D.Disk.faults disk) in
    let inv = c.entries.invariant in
    let step = c.compare_entry.ensures in
    let told_calm = c.in-Ok-true.ensures.calm in
    record {
      source = still_then g.D.Disk.tells (seen c.args.source.now) (seen c.entries.source) (seen c.compare_entry.new.source) inv.source step.source;
      disk = still_then g.D.Disk.tells (seen c.args.disk.now) (seen c.entries.disk) (seen c.compare_entry.new.disk) inv.disk step.disk;
      same = λ told whole own there here.
          let a = subst (λ (d : Standing). HasView c.args.view.now d.seen whole) (sym (inv.source.same told)) there in
          let b = subst (λ (d : Standing). HasView c.args.other.now d.seen own) (sym (inv.disk.same told)) here in
          let is = c.in-Ok-true.ensures.same told whole own a b in
          same_more own whole c.entries.index here.numbered there.numbered (is.0 c.in-Ok-true.field-0-test) (inv.same told whole own there here);
      source_calm = told_calm.0 ∙ inv.source_calm;
      disk_calm = told_calm.1 ∙ inv.disk_calm;
    }

pub returns : goal.returns
returns g c =
    let seen : g.row.D.Denot → DiskSeen = λ disk. seen_as (g.D.Disk.size disk) (g.D.Disk.stands disk) (g.D.Disk.faults disk) in
    let inv = c.entries.invariant in
    let all : c.entries.index ≡ c.args.view.now.rank.number = omega (arith, c.entries-test.false, c.entries.auto.index-end, c.last-index-end.ensures) in
    let numbers : c.args.other.now.rank.number ≡ c.args.view.now.rank.number =
    ap (λ (r : Rank). r.number) (sym c.rank.ensures) ∙ number_same c.rank.result.view c.rank-2.result.view c.rank.result.number c.rank-2.result.number c.ne.result c.ne.ensures c.if-ne.false ∙ ap (λ (r : Rank). r.number) c.rank-2.ensures in
    compared g.D.Disk.tells c.args.view.now c.args.other.now (seen c.args.source.now) (seen c.entries.source) (seen c.args.disk.now) (seen c.entries.disk) true c.requires.source c.requires.disk
    inv.source inv.disk inv.source_calm inv.disk_calm
    (λ told whole own there here. (λ y. same_all own whole c.entries.index here.numbered there.numbered (all ∙ sym numbers ∙ ap (λ (r : Rank). r.number) here.rank) (all ∙ ap (λ (r : Rank). r.number) there.rank) (inv.same told whole own there here), λ n same. absurd (no_truth n)))
  where
    no_truth : true ≡ false → ⊥
    no_truth e = cc e
