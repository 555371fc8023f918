use Rattle.std.proofs.Common.{◌≡◌, ◌∙◌, [], ap, sym, subst, inl, None}
use Rattle.hs_entry.specs.declared.rank.Rank.{Rank}
use Rattle.hs_fold.specs.Shards.Setting.{Numbered}
use Rattle.hs_peerlog.specs.Lists.{HasLog}
use Rattle.hs_taking.proofs.EvenLemmas.{each_then, each_weak, none_listed, viewed_only}
use Rattle.hs_taking.proofs.PastLemmas.{past_then}
use Rattle.hs_taking.proofs.HeadLemmas.{heads_then, under_found}
use Rattle.hs_side.specs.Headers.{own_header}
use Rattle.hs_peerlog.specs.Heads.{own_head}
use Rattle.hs_taking.proofs.evening.empty_log.Goals as goal

pub returns-in-Err-clause-emptied : goal.returns-in-Err-clause-emptied
returns-in-Err-clause-emptied g c =
    record {
      has = tt;
      ready = tt;
      sealed = tt;
      empty = tt;
      moments = λ told last own e. each_weak (λ l same. inl same) (c.from_view.ensures.any_moment told last own (viewed_only c.args.view.log.side (g.D.Disk.stands c.args.disk.now) own (c.requires.viewed.alone told) e));
      past = c.from_view.ensures.past;
    }

pub returns-then-last-eq0-clause-emptied : goal.returns-then-last-eq0-clause-emptied
returns-then-last-eq0-clause-emptied g c =
    record {
      has = λ told last.
          let view = c.requires.viewed.told told in
          let has = c.in-Ok.ensures.list told last view.list view.has.listed in
          let none : view.list ≡ [] = none_listed view.list has.kept.numbered (ap (λ (r : Rank). r.number) (sym has.kept.rank) ∙ sym c.last.ensures ∙ c.if-last-eq0.true) in
          subst (λ (l : Numbered). HasLog c.in-Ok.log (g.D.Disk.stands c.from_view.new.disk) l None) none has;
      ready = c.in-Ok.ensures.ready;
      sealed = c.in-Ok.ensures.sealed;
      empty = sym c.last.ensures ∙ c.if-last-eq0.true;
      moments = λ told last own e. each_weak (λ l same. inl same) (c.from_view.ensures.any_moment told last own (viewed_only c.args.view.log.side (g.D.Disk.stands c.args.disk.now) own (c.requires.viewed.alone told) e));
      past = c.from_view.ensures.past;
    }

pub returns-clause-emptied : goal.returns-clause-emptied
returns-clause-emptied g c =
    record {
      has = λ told last.
          let view = c.requires.viewed.told told in
          let first = c.from_view.ensures.past told last in
          c.in-Ok-reset.ensures.list told first.last view.list None (c.in-Ok.ensures.list told last view.list view.has.listed);
      ready = c.in-Ok-reset.ensures.ready;
      sealed = c.in-Ok-reset.ensures.sealed;
      empty = sym c.last-2.ensures ∙ c.if-last-ne0.false;
      moments = λ told last own e.
          let first = c.from_view.ensures.any_moment told last own (viewed_only c.args.view.log.side (g.D.Disk.stands c.args.disk.now) own (c.requires.viewed.alone told) e) in
          each_then (each_weak (λ l same. inl same) first) (c.reset.ensures.any_moment told first.last own None (c.in-Ok.ensures.list told last own e));
      past = λ told last. let first = c.from_view.ensures.past told last in past_then c.args.watch.now c.from_view.new.watch c.reset.new.watch (g.D.Disk.stands c.args.disk.now) (g.D.Disk.stands c.from_view.new.disk) (g.D.Disk.stands c.reset.new.disk) first (c.reset.ensures.past told first.last);
    }

pub returns-in-Err-reset-clause-emptied : goal.returns-in-Err-reset-clause-emptied
returns-in-Err-reset-clause-emptied g c =
    record {
      has = tt;
      ready = tt;
      sealed = tt;
      empty = tt;
      moments = λ told last own e.
          let first = c.from_view.ensures.any_moment told last own (viewed_only c.args.view.log.side (g.D.Disk.stands c.args.disk.now) own (c.requires.viewed.alone told) e) in
          each_then (each_weak (λ l same. inl same) first) (c.reset.ensures.any_moment told first.last own None (c.in-Ok.ensures.list told last own e));
      past = λ told last. let first = c.from_view.ensures.past told last in past_then c.args.watch.now c.from_view.new.watch c.reset.new.watch (g.D.Disk.stands c.args.disk.now) (g.D.Disk.stands c.from_view.new.disk) (g.D.Disk.stands c.reset.new.disk) first (c.reset.ensures.past told first.last);
    }

pub returns-then-last-ne0-clause-emptied : goal.returns-then-last-ne0-clause-emptied
returns-then-last-ne0-clause-emptied g c =
    record {
      has = tt;
      ready = tt;
      sealed = tt;
      empty = tt;
      moments = λ told last own e.
          let first = c.from_view.ensures.any_moment told last own (viewed_only c.args.view.log.side (g.D.Disk.stands c.args.disk.now) own (c.requires.viewed.alone told) e) in
          each_then (each_weak (λ l same. inl same) first) (c.reset.ensures.any_moment told first.last own None (c.in-Ok.ensures.list told last own e));
      past = λ told last. let first = c.from_view.ensures.past told last in past_then c.args.watch.now c.from_view.new.watch c.reset.new.watch (g.D.Disk.stands c.args.disk.now) (g.D.Disk.stands c.from_view.new.disk) (g.D.Disk.stands c.reset.new.disk) first (c.reset.ensures.past told first.last);
    }

pub returns-in-Err-clause-headed : goal.returns-in-Err-clause-headed
returns-in-Err-clause-headed g c = λ told last leaves. record { past = c.from_view.ensures.past told last; keeps = c.from_view.ensures.headed told last leaves }

pub returns-then-last-eq0-clause-own : goal.returns-then-last-eq0-clause-own
returns-then-last-eq0-clause-own g c = λ told. under_found c.args.shape c.args.peer (g.D.Disk.stands c.args.disk.now).seen c.in-Ok.log (c.in-Ok.ensures.head told)

pub returns-then-last-eq0-clause-headed : goal.returns-then-last-eq0-clause-headed
returns-then-last-eq0-clause-headed g c = λ told last leaves. record { past = c.from_view.ensures.past told last; keeps = c.from_view.ensures.headed told last leaves }

pub returns-clause-own : goal.returns-clause-own
returns-clause-own g c = λ told. under_found c.args.shape c.args.peer (g.D.Disk.stands c.args.disk.now).seen c.reset.new.self (c.in-Ok-reset.ensures.head ∙ c.in-Ok.ensures.head told)

pub returns-clause-headed : goal.returns-clause-headed
returns-clause-headed g c = λ told last leaves.
    let first = c.from_view.ensures.past told last in
    let view = c.requires.viewed.told told in
    heads_then (own_header c.args.shape c.args.peer) c.args.watch.now c.from_view.new.watch c.reset.new.watch (g.D.Disk.stands c.args.disk.now) (g.D.Disk.stands c.from_view.new.disk) (g.D.Disk.stands c.reset.new.disk)
    (record { past = first; keeps = c.from_view.ensures.headed told last leaves })
    (record {
      past = c.reset.ensures.past told first.last;
      keeps = c.reset.ensures.headed told first.last view.list None (c.in-Ok.ensures.list told last view.list view.has.listed) (own_head c.args.shape c.args.peer (g.D.Disk.stands c.args.disk.now).seen) (c.in-Ok.ensures.head told);
    })

pub returns-in-Err-reset-clause-headed : goal.returns-in-Err-reset-clause-headed
returns-in-Err-reset-clause-headed g c = λ told last leaves.
    let first = c.from_view.ensures.past told last in
    let view = c.requires.viewed.told told in
    heads_then (own_header c.args.shape c.args.peer) c.args.watch.now c.from_view.new.watch c.reset.new.watch (g.D.Disk.stands c.args.disk.now) (g.D.Disk.stands c.from_view.new.disk) (g.D.Disk.stands c.reset.new.disk)
    (record { past = first; keeps = c.from_view.ensures.headed told last leaves })
    (record {
      past = c.reset.ensures.past told first.last;
      keeps = c.reset.ensures.headed told first.last view.list None (c.in-Ok.ensures.list told last view.list view.has.listed) (own_head c.args.shape c.args.peer (g.D.Disk.stands c.args.disk.now).seen) (c.in-Ok.ensures.head told);
    })

pub returns-then-last-ne0-clause-headed : goal.returns-then-last-ne0-clause-headed
returns-then-last-ne0-clause-headed g c = λ told last leaves.
    let first = c.from_view.ensures.past told last in
    let view = c.requires.viewed.told told in
    heads_then (own_header c.args.shape c.args.peer) c.args.watch.now c.from_view.new.watch c.reset.new.watch (g.D.Disk.stands c.args.disk.now) (g.D.Disk.stands c.from_view.new.disk) (g.D.Disk.stands c.reset.new.disk)
    (record { past = first; keeps = c.from_view.ensures.headed told last leaves })
    (record {
      past = c.reset.ensures.past told first.last;
      keeps = c.reset.ensures.headed told first.last view.list None (c.in-Ok.ensures.list told last view.list view.has.listed) (own_head c.args.shape c.args.peer (g.D.Disk.stands c.args.disk.now).seen) (c.in-Ok.ensures.head told);
    })
