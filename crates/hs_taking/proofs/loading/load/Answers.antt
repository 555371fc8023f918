use Rattle.std.proofs.Common.{◌≡◌, ◌∙◌, ap, ◌<◌, ◌≤◌, refl, sym, subst, arith}
use Rattle.hs_entry.specs.declared.rank.Rank.{Rank}
use Rattle.hs_entry.specs.Entries.{rank_of}
use Rattle.hs_fold.specs.Shards.Setting.{Numbered}
use Rattle.hs_peerlog.specs.Views.{HasView}
use Rattle.hs_ports.specs.Disk.{Standing}
use Rattle.hs_shard.specs.Facts.{Catalogue, empty_catalogue}
use Rattle.hs_taking.proofs.LoadLemmas.{IsLoading, all_read, none_counted, none_loaded, none_wanting, numbers_same, one_loaded, ranks_differ}
use Rattle.hs_taking.proofs.loading.load.Goals as goal

pub entries-init : goal.entries-init
entries-init g c =
    let start = empty_catalogue c.args.shape c.args.shard in
    let name = g.A.Addresser.name c.args.naming.now in
    record {
      so_far = subst (λ (x : Catalogue). IsLoading g.D.Disk.tells name start (HasView c.args.view.now (g.D.Disk.stands c.args.disk.now).seen) 0 x (record { view = 0; number = 0 })) (sym c.new-catalogue.ensures)
          (none_loaded g.D.Disk.tells name start (HasView c.args.view.now (g.D.Disk.stands c.args.disk.now).seen));
      same = λ told. refl;
      same_size = λ s. refl;
      calm = refl;
    }

pub entries-preserved : goal.entries-preserved
entries-preserved g c =
    let inv = c.entries.invariant in
    let there : g.D.Disk.tells → (whole : Numbered) → HasView c.args.view.now (g.D.Disk.stands c.args.disk.now).seen whole → HasView c.args.view.now (g.D.Disk.stands c.entries.disk).seen whole
    = λ told whole has. subst (λ (d : Standing). HasView c.args.view.now d.seen whole) (sym (inv.same told)) has in
    record {
      so_far = one_loaded g.D.Disk.tells (g.A.Addresser.name c.args.naming.now) (empty_catalogue c.args.shape c.args.shard) (HasView c.args.view.now (g.D.Disk.stands c.args.disk.now).seen)
          c.entries.index c.entries.catalogue c.take_entry.new.catalogue c.entries.rank c.after-rank.result c.in-Some.entry inv.so_far (c.in-Ok-true.ensures.taken c.in-Ok-true.field-0-test) c.after-rank.ensures
          (λ told whole has. (has.numbered, sym (c.in-Ok.ensures.found told whole (there told whole has)) ∙ c.in-Some.is));
      same = λ told. c.entry.ensures.same told ∙ inv.same told;
      same_size = λ s. c.entry.ensures.same_size s ∙ inv.same_size s;
      calm = c.in-Ok.ensures.calm ∙ inv.calm;
    }

pub returns-in-Err-clause-refused : goal.returns-in-Err-clause-refused
returns-in-Err-clause-refused g c = λ told list has.
    c.in-Err.ensures.refused told list (subst (λ (d : Standing). HasView c.args.view.now d.seen list) (sym (c.entries.invariant.same told)) has)

pub returns-in-None-clause-refused : goal.returns-in-None-clause-refused
returns-in-None-clause-refused g c = λ told list has.
    let there = subst (λ (d : Standing). HasView c.args.view.now d.seen list) (sym (c.entries.invariant.same told)) has in
    let low : c.entries.index < c.args.view.now.rank.number = omega (arith, c.entries-test.true, c.last-index-end.ensures) in
    none_wanting c.args.view.now (g.D.Disk.stands c.entries.disk).seen list c.entries.index there low (sym (c.in-Ok.ensures.found told list there) ∙ c.in-None.is)

pub returns-clause-loaded : goal.returns-clause-loaded
returns-clause-loaded g c =
    let so_far = c.entries.invariant.so_far in
    let all : c.args.view.now.rank.number ≤ c.entries.index = omega (arith, c.entries-test.false, c.last-index-end.ensures) in
    record {
      list = so_far.list;
      catalogue = so_far.catalogue_is;
      rank = so_far.rank_is;
      told = λ told whole has. so_far.told told whole has ∙ all_read c.args.view.now (g.D.Disk.stands c.args.disk.now).seen whole c.entries.index has all;
      blank = λ none.
          let same = numbers_same c.entries.rank c.rank.result c.ne.result c.ne.ensures c.if-ne.false in
          let of_view : c.rank.result.number ≡ c.args.view.now.rank.number = ap (λ (r : Rank). r.number) c.rank.ensures in
          none_counted so_far.list (omega (arith, so_far.counted, c.entries.auto.index-end, c.last-index-end.ensures, none, same, of_view));
    }

pub returns-then-ne-clause-refused : goal.returns-then-ne-clause-refused
returns-then-ne-clause-refused g c = λ told list has.
    let so_far = c.entries.invariant.so_far in
    let all : c.args.view.now.rank.number ≤ c.entries.index = omega (arith, c.entries-test.false, c.last-index-end.ensures) in
    let same : c.entries.rank ≡ c.rank.result =
    so_far.rank_is ∙ ap rank_of (so_far.told told list has ∙ all_read c.args.view.now (g.D.Disk.stands c.args.disk.now).seen list c.entries.index has all) ∙ sym has.rank ∙ sym c.rank.ensures in
    ranks_differ c.entries.rank c.rank.result c.ne.result c.ne.ensures c.if-ne.true same
