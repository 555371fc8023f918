use Rattle.std.proofs.Common.{◌≡◌, ◌∙◌, sym, subst, inl, refl, None, Some}
use Rattle.hs_entry.specs.declared.entry.Entry.{Entry}
use Rattle.hs_peerlog.proofs.StayLemmas.{stays}
use Rattle.hs_peerlog.specs.Images.{IsOne, LeavesEach}
use Rattle.hs_peerlog.specs.Lists.{HasLog, with_waiting}
use Rattle.hs_taking.proofs.HeadLemmas.{header_still}
use Rattle.hs_taking.proofs.evening.fill_entry.Goals as goal

pub returns-in-Err-clause-moments : goal.returns-in-Err-clause-moments
returns-in-Err-clause-moments g c = λ told last list own entry kept is has.
    stays (g.D.Disk.stands c.args.disk.now) c.args.watch.now own (IsOne own (with_waiting own entry)) last (λ side m high. g.met.D.Disk.since told c.args.disk.now side m high) has.leaves (inl refl)

pub returns-in-Ok-write_entry-clause-has : goal.returns-in-Ok-write_entry-clause-has
returns-in-Ok-write_entry-clause-has g c = λ told last list own entry kept is has.
    let same : c.in-Ok.entry ≡ entry = some_is _ _ (sym (c.in-Ok.ensures.found told list kept) ∙ is) in
    subst (λ (e : Entry). HasLog c.write_entry.new.log (g.D.Disk.stands c.write_entry.new.disk) (with_waiting own e) None) same (c.in-Ok-write_entry.ensures.has told last own has)
  where
    some_is : (x y : Entry) → Some x ≡ Some y → x ≡ y
    some_is x y e = cc e

pub returns-in-Ok-write_entry-clause-moments : goal.returns-in-Ok-write_entry-clause-moments
returns-in-Ok-write_entry-clause-moments g c = λ told last list own entry kept is has.
    let same : c.in-Ok.entry ≡ entry = some_is _ _ (sym (c.in-Ok.ensures.found told list kept) ∙ is) in
    subst (λ (e : Entry). LeavesEach c.args.watch.now c.write_entry.new.watch (g.D.Disk.stands c.args.disk.now) (g.D.Disk.stands c.write_entry.new.disk) (IsOne own (with_waiting own e))) same (c.write_entry.ensures.moments told last own has)
  where
    some_is : (x y : Entry) → Some x ≡ Some y → x ≡ y
    some_is x y e = cc e

pub returns-clause-moments : goal.returns-clause-moments
returns-clause-moments g c = λ told last list own entry kept is has.
    let same : c.in-Ok.entry ≡ entry = some_is _ _ (sym (c.in-Ok.ensures.found told list kept) ∙ is) in
    subst (λ (e : Entry). LeavesEach c.args.watch.now c.write_entry.new.watch (g.D.Disk.stands c.args.disk.now) (g.D.Disk.stands c.write_entry.new.disk) (IsOne own (with_waiting own e))) same (c.write_entry.ensures.moments told last own has)
  where
    some_is : (x y : Entry) → Some x ≡ Some y → x ≡ y
    some_is x y e = cc e

pub returns-in-Err-clause-headed : goal.returns-in-Err-clause-headed
returns-in-Err-clause-headed g c = λ told last own has head is.
    header_still head.0 c.args.watch.now (g.D.Disk.stands c.args.disk.now) last (λ side m high. g.met.D.Disk.since told c.args.disk.now side m high) (has.headed head is)
