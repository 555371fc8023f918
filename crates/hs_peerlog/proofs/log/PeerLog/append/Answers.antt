use Rattle.std.proofs.Common.{◌≡◌, ◌∙◌, ◌+◌, length, ap, sym, subst, Some, IsSome, is_some}
use Rattle.hs_entry.specs.declared.rank.Rank.{Rank}
use Rattle.hs_entry.specs.Entries.{rank_after}
use Rattle.hs_entry.specs.Payload.{payload}
use Rattle.hs_entry.proofs.RankLemmas.{rank_plain}
use Rattle.hs_side.specs.Standing.{SideState, MayCome}
use Rattle.hs_peerlog.specs.Images.{IsSole}
use Rattle.hs_peerlog.specs.Lists.{IsBlankBeside, Keeping}
use Rattle.hs_peerlog.proofs.AppendedLemmas.{append-header}
use Rattle.hs_peerlog.proofs.EntryLemmas.{last-length, may-come, readable-ordinary}
use Rattle.hs_peerlog.proofs.ListLemmas.{none-waits, appended, append-leaves, append-sole, append-only}
use Rattle.hs_peerlog.proofs.ShownLemmas.{side-past}
use Rattle.hs_peerlog.proofs.StayLemmas.{beside-stays}
use Rattle.hs_peerlog.proofs.log.PeerLog.append.Goals as goal

pub append_entry-requires-clause-comes : goal.append_entry-requires-clause-comes
append_entry-requires-clause-comes g c = λ told.
    let view : c.self.inside.log ≡ c.args.self.now.log = ap (λ (k : Keeping). k.log) c.self.view_is in
    let some = c.requires.ready.told told in
    let kept = none-waits c.args.self.now _ some c.requires.none in
    let number : c.args.number ≡ length some.list + 1 = c.requires.next ∙ ap (λ (r : Rank). r.number + 1) kept.rank ∙ ap (λ n. n + 1) (last-length some.list kept.numbered) in
    let comes = may-come c.args.self.now.log.places _ some.list c.args.number c.args.entry.now kept.listed kept.numbered number c.ranges.number.fits c.requires.readable in
    subst (λ (k : SideState). MayCome ((g.D.Disk.stands c.args.disk.now).seen k.side) (payload c.args.number c.args.entry.now)) (sym view) comes

pub returns-in_err-append_entry-clause-any_moment : goal.returns-in_err-append_entry-clause-any_moment
returns-in_err-append_entry-clause-any_moment g c = λ told last list has.
    let view : c.self.inside.log ≡ c.args.self.now.log = ap (λ (k : Keeping). k.log) c.self.view_is in
    append-leaves c.args.self.now.log.places list has.kept.listed last (g.met.D.Disk.since told c.args.disk.now) has.sole (g.met.D.Disk.stays told c.args.disk.now c.args.self.now.log.side) (rw view at (c.append_entry.ensures.any_moment told last))

pub returns-clause-any_moment : goal.returns-clause-any_moment
returns-clause-any_moment g c = λ told last list has.
    let view : c.self.inside.log ≡ c.args.self.now.log = ap (λ (k : Keeping). k.log) c.self.view_is in
    append-leaves c.args.self.now.log.places list has.kept.listed last (g.met.D.Disk.since told c.args.disk.now) has.sole (g.met.D.Disk.stays told c.args.disk.now c.args.self.now.log.side) (rw view at (c.append_entry.ensures.any_moment told last))

pub returns-clause-ready : goal.returns-clause-ready
returns-clause-ready g c =
    let view : c.self.inside.log ≡ c.args.self.now.log = ap (λ (k : Keeping). k.log) c.self.view_is in
    let value = rw view at c.in_ok-append_entry.ensures.value in
    let rank : c.self.inside.rank ≡ c.args.self.now.rank = ap (λ (k : Keeping). k.rank) c.self.view_is in
    let waits = ap (λ r. Some r) (c.after.ensures ∙ ap (λ r. rank_after r c.args.number c.args.entry.now) rank) in
    record {
      stands = c.in_ok-append_entry.ensures.stands;
      begun = subst (λ (k : SideState). IsSome k.head) (sym value) c.requires.ready.begun;
      waits = sym (ap (λ (k : SideState). is_some k.waiting) value);
      counted = ap (λ (r : Rank). r.number) rank ∙ c.requires.ready.counted ∙ sym (ap (λ (k : SideState). length k.places) value);
      next = ap (λ (r : Rank). r.number) (c.after.ensures ∙ rank_plain c.self.inside.rank c.args.number c.args.entry.now (readable-ordinary c.args.entry.now c.requires.readable)) ∙ c.requires.next ∙ ap (λ (r : Rank). r.number + 1) (sym rank);
      told = λ told.
          let some = c.requires.ready.told told in
          record {
            list = some.list;
            waiting = Some c.args.entry.now;
            kept = appended c.args.self.now _ (g.D.Disk.stands c.args.disk.now).seen (g.D.Disk.stands c.append_entry.new.disk).seen _ c.args.number some.list c.args.entry.now (none-waits c.args.self.now _ some c.requires.none)
                (readable-ordinary c.args.entry.now c.requires.readable) c.requires.next value rank waits (rw view at (c.in_ok-append_entry.ensures.same told)) (rw view at (c.in_ok-append_entry.ensures.later told));
          };
    }

pub returns-clause-list : goal.returns-clause-list
returns-clause-list g c = λ told last list has.
    let view : c.self.inside.log ≡ c.args.self.now.log = ap (λ (k : Keeping). k.log) c.self.view_is in
    let value = rw view at c.in_ok-append_entry.ensures.value in
    let rank : c.self.inside.rank ≡ c.args.self.now.rank = ap (λ (k : Keeping). k.rank) c.self.view_is in
    let waits = ap (λ r. Some r) (c.after.ensures ∙ ap (λ r. rank_after r c.args.number c.args.entry.now) rank) in
    let since = g.met.D.Disk.since told c.args.disk.now in
    let stays = g.met.D.Disk.stays told c.args.disk.now c.args.self.now.log.side in
    let run = rw view at (c.append_entry.ensures.any_moment told last) in
    record {
      kept = appended c.args.self.now _ (g.D.Disk.stands c.args.disk.now).seen (g.D.Disk.stands c.append_entry.new.disk).seen _ c.args.number list c.args.entry.now has.kept
          (readable-ordinary c.args.entry.now c.requires.readable) c.requires.next value rank waits (rw view at (c.in_ok-append_entry.ensures.same told)) (rw view at (c.in_ok-append_entry.ensures.later told));
      sole = subst (λ s. IsSole s (g.D.Disk.stands c.append_entry.new.disk)) (sym (ap (λ (k : SideState). k.side) value)) (append-sole c.args.self.now.log.places list has.kept.listed last since has.sole stays run);
      leaves = append-only c.args.self.now.log.places list has.kept.listed last since has.sole stays run;
      beside = subst (λ s. IsBlankBeside s (g.D.Disk.stands c.append_entry.new.disk)) (sym (ap (λ (k : SideState). k.side) value)) (beside-stays c.args.self.now.log.side (g.D.Disk.stands c.args.disk.now) (g.D.Disk.stands c.append_entry.new.disk) run.other has.beside);
      headed = λ head is.
          (append-header c.args.self.now.log.places list has.kept.listed has.sole (λ s. g.met.D.Disk.stays told c.args.disk.now s) head.0 (has.headed head (sym (ap (λ (k : SideState). k.head) value) ∙ is)) last since run).standing;
    }

pub returns-clause-reads : goal.returns-clause-reads
returns-clause-reads g c = λ told list kept.
    let view : c.self.inside.log ≡ c.args.self.now.log = ap (λ (k : Keeping). k.log) c.self.view_is in
    let value = rw view at c.in_ok-append_entry.ensures.value in
    let rank : c.self.inside.rank ≡ c.args.self.now.rank = ap (λ (k : Keeping). k.rank) c.self.view_is in
    let waits = ap (λ r. Some r) (c.after.ensures ∙ ap (λ r. rank_after r c.args.number c.args.entry.now) rank) in
    appended c.args.self.now _ (g.D.Disk.stands c.args.disk.now).seen (g.D.Disk.stands c.append_entry.new.disk).seen _ c.args.number list c.args.entry.now kept
    (readable-ordinary c.args.entry.now c.requires.readable) c.requires.next value rank waits (rw view at (c.in_ok-append_entry.ensures.same told)) (rw view at (c.in_ok-append_entry.ensures.later told))

pub returns-in_err-append_entry-clause-headed : goal.returns-in_err-append_entry-clause-headed
returns-in_err-append_entry-clause-headed g c = λ told last list has head is.
    let view : c.self.inside.log ≡ c.args.self.now.log = ap (λ (k : Keeping). k.log) c.self.view_is in
    append-header c.args.self.now.log.places list has.kept.listed has.sole (λ s. g.met.D.Disk.stays told c.args.disk.now s) head.0 (has.headed head is) last (g.met.D.Disk.since told c.args.disk.now) (rw view at (c.append_entry.ensures.any_moment told last))

pub returns-in_err-append_entry-clause-past : goal.returns-in_err-append_entry-clause-past
returns-in_err-append_entry-clause-past g c = λ told last. side-past (c.append_entry.ensures.any_moment told last)

pub returns-clause-headed : goal.returns-clause-headed
returns-clause-headed g c = λ told last list has head is.
    let view : c.self.inside.log ≡ c.args.self.now.log = ap (λ (k : Keeping). k.log) c.self.view_is in
    append-header c.args.self.now.log.places list has.kept.listed has.sole (λ s. g.met.D.Disk.stays told c.args.disk.now s) head.0 (has.headed head is) last (g.met.D.Disk.since told c.args.disk.now) (rw view at (c.append_entry.ensures.any_moment told last))

pub returns-clause-past : goal.returns-clause-past
returns-clause-past g c = λ told last. side-past (c.append_entry.ensures.any_moment told last)
