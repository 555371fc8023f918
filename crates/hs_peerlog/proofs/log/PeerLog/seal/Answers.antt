use Rattle.std.proofs.Common.{◌≡◌, ◌∙◌, ℕ, ◌+◌, List, [], ◌∷◌, length, length-append, ap, sym, refl, subst, Option, None, Some, IfSome, IsSome, is_some}
use Rattle.hs_entry.specs.declared.rank.Rank.{Rank}
use Rattle.hs_peerlog.specs.Images.{IsSole}
use Rattle.hs_peerlog.specs.Lists.{IsBlankBeside, Keeping, last_of, with_waiting}
use Rattle.hs_peerlog.proofs.AppendedLemmas.{seal-header}
use Rattle.hs_peerlog.proofs.ListLemmas.{some-waits, sealed, sealed-is, seal-leaves, seal-sole, seal-only}
use Rattle.hs_peerlog.proofs.ShownLemmas.{side-past}
use Rattle.hs_peerlog.proofs.StayLemmas.{beside-stays}
use Rattle.hs_peerlog.proofs.log.PeerLog.seal.Goals as goal

pub returns-in_err-seal-clause-any_moment : goal.returns-in_err-seal-clause-any_moment
returns-in_err-seal-clause-any_moment g c = λ told last list entry has.
    let view : c.self.inside.log ≡ c.args.self.now.log = ap (λ (k : Keeping). k.log) c.self.view_is in
    seal-leaves c.args.self.now.log.places list has.kept.listed last (g.met.D.Disk.since told c.args.disk.now) has.sole (g.met.D.Disk.stays told c.args.disk.now c.args.self.now.log.side)
    c.args.self.now.log.end (record { place = c.args.self.now.log.end; number = last_of list + 1; entry = entry }) has.kept.waits.opens (rw view at (c.seal.ensures.any_moment told last))

pub returns-clause-any_moment : goal.returns-clause-any_moment
returns-clause-any_moment g c = λ told last list entry has.
    let view : c.self.inside.log ≡ c.args.self.now.log = ap (λ (k : Keeping). k.log) c.self.view_is in
    seal-leaves c.args.self.now.log.places list has.kept.listed last (g.met.D.Disk.since told c.args.disk.now) has.sole (g.met.D.Disk.stays told c.args.disk.now c.args.self.now.log.side)
    c.args.self.now.log.end (record { place = c.args.self.now.log.end; number = last_of list + 1; entry = entry }) has.kept.waits.opens (rw view at (c.seal.ensures.any_moment told last))

pub returns-clause-ready : goal.returns-clause-ready
returns-clause-ready g c =
    let view : c.self.inside.log ≡ c.args.self.now.log = ap (λ (k : Keeping). k.log) c.self.view_is in
    let waits : c.args.self.now.waits ≡ Some c.in-Some.rank = ap (λ (k : Keeping). k.waits) (sym c.self.view_is) ∙ c.in-Some.is in
    let is = sealed-is c.args.self.now.log c.seal.new.self (sym c.requires.ready.waits ∙ ap (λ o. is_some o) waits) (rw view at c.in_ok-seal.ensures.value) in
    record {
      stands = c.in_ok-seal.ensures.stands;
      begun = subst (λ h. IsSome h) (sym is.head) c.requires.ready.begun;
      waits = ap (λ o. is_some o) (sym is.rests);
      counted = subst (λ (o : Option Rank). IfSome o (λ r. r.number ≡ c.args.self.now.rank.number + 1)) waits c.requires.ready.next
          ∙ ap (λ n. n + 1) c.requires.ready.counted ∙ sym (length-append c.args.self.now.log.places (c.args.self.now.log.end ∷ [])) ∙ sym (ap (λ (ps : List ℕ). length ps) is.places);
      next = tt;
      told = λ told.
          let some = c.requires.ready.told told in
          let kept = some-waits c.args.self.now _ some c.requires.waits in
          record {
            list = with_waiting some.list kept.entry;
            waiting = None;
            kept = sealed c.args.self.now _ (g.D.Disk.stands c.args.disk.now).seen (g.D.Disk.stands c.seal.new.disk).seen some.list kept.entry kept.kept is (rw view at (c.in_ok-seal.ensures.written told)) waits refl;
          };
    }

pub returns-clause-list : goal.returns-clause-list
returns-clause-list g c = λ told last list entry has.
    let view : c.self.inside.log ≡ c.args.self.now.log = ap (λ (k : Keeping). k.log) c.self.view_is in
    let waits : c.args.self.now.waits ≡ Some c.in-Some.rank = ap (λ (k : Keeping). k.waits) (sym c.self.view_is) ∙ c.in-Some.is in
    let is = sealed-is c.args.self.now.log c.seal.new.self (sym c.requires.ready.waits ∙ ap (λ o. is_some o) waits) (rw view at c.in_ok-seal.ensures.value) in
    let since = g.met.D.Disk.since told c.args.disk.now in
    let stays = g.met.D.Disk.stays told c.args.disk.now c.args.self.now.log.side in
    let run = rw view at (c.seal.ensures.any_moment told last) in
    record {
      kept = sealed c.args.self.now _ (g.D.Disk.stands c.args.disk.now).seen (g.D.Disk.stands c.seal.new.disk).seen list entry has.kept is (rw view at (c.in_ok-seal.ensures.written told)) waits refl;
      sole = subst (λ s. IsSole s (g.D.Disk.stands c.seal.new.disk)) (sym is.side)
          (seal-sole c.args.self.now.log.places list has.kept.listed last since has.sole stays c.args.self.now.log.end (record { place = c.args.self.now.log.end; number = last_of list + 1; entry = entry }) has.kept.waits.opens run);
      leaves = seal-only c.args.self.now.log.places list has.kept.listed last since has.sole stays c.args.self.now.log.end (record { place = c.args.self.now.log.end; number = last_of list + 1; entry = entry }) has.kept.waits.opens run
          (rw view at (c.in_ok-seal.ensures.durable told));
      beside = subst (λ s. IsBlankBeside s (g.D.Disk.stands c.seal.new.disk)) (sym is.side) (beside-stays c.args.self.now.log.side (g.D.Disk.stands c.args.disk.now) (g.D.Disk.stands c.seal.new.disk) run.other has.beside);
      headed = λ head same.
          (seal-header c.args.self.now.log.places list has.kept.listed has.sole (λ s. g.met.D.Disk.stays told c.args.disk.now s) head.0 (has.headed head (sym is.head ∙ same)) last since
          c.args.self.now.log.end (record { place = c.args.self.now.log.end; number = last_of list + 1; entry = entry }) has.kept.waits.opens run).standing;
    }

pub returns-clause-reads : goal.returns-clause-reads
returns-clause-reads g c = λ told list entry kept.
    let view : c.self.inside.log ≡ c.args.self.now.log = ap (λ (k : Keeping). k.log) c.self.view_is in
    let waits : c.args.self.now.waits ≡ Some c.in-Some.rank = ap (λ (k : Keeping). k.waits) (sym c.self.view_is) ∙ c.in-Some.is in
    let is = sealed-is c.args.self.now.log c.seal.new.self (sym c.requires.ready.waits ∙ ap (λ o. is_some o) waits) (rw view at c.in_ok-seal.ensures.value) in
    sealed c.args.self.now _ (g.D.Disk.stands c.args.disk.now).seen (g.D.Disk.stands c.seal.new.disk).seen list entry kept is (rw view at (c.in_ok-seal.ensures.written told)) waits refl

pub returns-in_err-seal-clause-headed : goal.returns-in_err-seal-clause-headed
returns-in_err-seal-clause-headed g c = λ told last list entry has head is.
    let view : c.self.inside.log ≡ c.args.self.now.log = ap (λ (k : Keeping). k.log) c.self.view_is in
    seal-header c.args.self.now.log.places list has.kept.listed has.sole (λ s. g.met.D.Disk.stays told c.args.disk.now s) head.0 (has.headed head is) last (g.met.D.Disk.since told c.args.disk.now)
    c.args.self.now.log.end (record { place = c.args.self.now.log.end; number = last_of list + 1; entry = entry }) has.kept.waits.opens (rw view at (c.seal.ensures.any_moment told last))

pub returns-in_err-seal-clause-past : goal.returns-in_err-seal-clause-past
returns-in_err-seal-clause-past g c = λ told last. side-past (c.seal.ensures.any_moment told last)

pub returns-clause-headed : goal.returns-clause-headed
returns-clause-headed g c = λ told last list entry has head is.
    let view : c.self.inside.log ≡ c.args.self.now.log = ap (λ (k : Keeping). k.log) c.self.view_is in
    seal-header c.args.self.now.log.places list has.kept.listed has.sole (λ s. g.met.D.Disk.stays told c.args.disk.now s) head.0 (has.headed head is) last (g.met.D.Disk.since told c.args.disk.now)
    c.args.self.now.log.end (record { place = c.args.self.now.log.end; number = last_of list + 1; entry = entry }) has.kept.waits.opens (rw view at (c.seal.ensures.any_moment told last))

pub returns-clause-past : goal.returns-clause-past
returns-clause-past g c = λ told last. side-past (c.seal.ensures.any_moment told last)

pub returns-clause-head : goal.returns-clause-head
returns-clause-head g c =
    let view : c.self.inside.log ≡ c.args.self.now.log = ap (λ (k : Keeping). k.log) c.self.view_is in
    let waits : c.args.self.now.waits ≡ Some c.in-Some.rank = ap (λ (k : Keeping). k.waits) (sym c.self.view_is) ∙ c.in-Some.is in
    (sealed-is c.args.self.now.log c.seal.new.self (sym c.requires.ready.waits ∙ ap (λ o. is_some o) waits) (rw view at c.in_ok-seal.ensures.value)).head
