use Rattle.std.proofs.Common.{◌≡◌, ◌∙◌, ◌<◌, Some, None, List, arith, inl, inr, map, subst, sym}
use Rattle.hs_scrub.proofs.ShardLemmas.{any_other, fits_of, has_some}
use Rattle.hs_scrub.specs.Steps.{view_at}
use Rattle.hs_taking.specs.Disks.{DiskSeen, seen_as}
use Rattle.hs_scrub.proofs.shard.compare_at.Goals as goal

pub returns-in-Ok-clause-fits : goal.returns-in-Ok-clause-fits
returns-in-Ok-clause-fits g c = λ shape begun marks count looked low under.
    let f : g.row.D.Denot → DiskSeen = λ disk. seen_as (g.D.Disk.size disk) (g.D.Disk.stands disk) (g.D.Disk.faults disk) in
    let now : List DiskSeen = map f c.args.disks.now in
    let whole : view_at c.args.views.now c.args.taken ≡ Some c.in-Some.whole = any_other c.args.views.now c.args.taken None c.index-views-taken.result (omega (arith, c.requires.views, c.requires.within)) ∙ sym c.index-views-taken.is ∙ c.in-Some.is in
    let own : view_at c.args.views.now c.args.place ≡ Some c.in-Some-views.own = any_other c.args.views.now c.args.place None c.index-views-place.result (omega (arith, c.requires.views, c.requires.place)) ∙ sym c.index-views-place.is ∙ c.in-Some-views.is in
    fits_of g.D.Disk.tells shape begun now c.args.views.now marks count looked c.args.taken c.args.place c.in-Some.whole c.in-Some-views.own c.in-Ok.mark low under whole own c.in-Ok.ensures.read
    (λ told w l one two. c.in-Ok.ensures.marked told w l one two)

pub returns-in-Err-clause-outside : goal.returns-in-Err-clause-outside
returns-in-Err-clause-outside g c = λ shape begun marks count looked low told.
    let f : g.row.D.Denot → DiskSeen = λ disk. seen_as (g.D.Disk.size disk) (g.D.Disk.stands disk) (g.D.Disk.faults disk) in
    let now : List DiskSeen = map f c.args.disks.now in
    let whole : view_at c.args.views.now c.args.taken ≡ Some c.in-Some.whole = any_other c.args.views.now c.args.taken None c.index-views-taken.result (omega (arith, c.requires.views, c.requires.within)) ∙ sym c.index-views-taken.is ∙ c.in-Some.is in
    let own : view_at c.args.views.now c.args.place ≡ Some c.in-Some-views.own = any_other c.args.views.now c.args.place None c.index-views-place.result (omega (arith, c.requires.views, c.requires.place)) ∙ sym c.index-views-place.is ∙ c.in-Some-views.is in
    elim c.in-Err.ensures.one [
      | inl same ↦ let l = has_some g.D.Disk.tells shape begun now c.args.views.now marks count looked c.args.taken c.in-Some.whole (subst (λ p. p < count) same low) whole told in c.in-Err.ensures.outside_taken told l.0 l.1 same
      | inr same ↦ let l = has_some g.D.Disk.tells shape begun now c.args.views.now marks count looked c.args.place c.in-Some-views.own (subst (λ p. p < count) same low) own told in c.in-Err.ensures.outside_own told l.0 l.1 same
    ]
