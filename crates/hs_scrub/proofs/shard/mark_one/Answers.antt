use Rattle.std.proofs.Common.{◌≡◌, ◌∙◌, ◌<◌, List, None, ap, arith, inl, inr, length, map, subst, sym}
use Rattle.std.proofs.lemmas.Grind.{common_steps}
use Rattle.std.specs.Prelude.{is_some, slice_set}
use Rattle.hs_scrub.proofs.ShardLemmas.{fits_own, gone_at, is_equal, not_equal, state, touch_lost, touch_mark, touch_none}
use Rattle.hs_scrub.proofs.StillLemmas.{calm_none}
use Rattle.hs_scrub.specs.Scrubbed.{mark_at}
use Rattle.hs_scrub.specs.Steps.{Fits, Touches, view_at}
use Rattle.hs_taking.specs.Disks.{DiskSeen, seen_as, seen_at}
use Rattle.hs_scrub.proofs.shard.mark_one.Goals as goal

pub returns-then-place-taken-clause-goes : goal.returns-then-place-taken-clause-goes
returns-then-place-taken-clause-goes g c =
    λ e.
    let f : g.row.D.Denot → DiskSeen = λ disk. seen_as (g.D.Disk.size disk) (g.D.Disk.stands disk) (g.D.Disk.faults disk) in
    let old : List DiskSeen = map f c.args.disks.now in
    touch_none g.D.Disk.tells old old c.args.views.now c.args.marks.now c.requires.stands c.args.place (calm_none g.D.Disk.tells old)

pub returns-then-place-taken-clause-fits : goal.returns-then-place-taken-clause-fits
returns-then-place-taken-clause-fits g c = λ e shape begun count looked low under.
    let at : c.args.place ≡ c.args.taken = grind (arith, common_steps) in
    subst (λ p. Fits g.D.Disk.tells (seen_at begun c.args.taken) (seen_at begun p) (view_at c.args.views.now p) (mark_at c.args.marks.now p)) (sym at)
    (fits_own g.D.Disk.tells (seen_at begun c.args.taken) (view_at c.args.views.now c.args.taken) (mark_at c.args.marks.now c.args.taken) c.requires.same)

pub returns-in-Ok-None-clause-goes : goal.returns-in-Ok-None-clause-goes
returns-in-Ok-None-clause-goes g c =
    let f : g.row.D.Denot → DiskSeen = λ disk. seen_as (g.D.Disk.size disk) (g.D.Disk.stands disk) (g.D.Disk.faults disk) in
    let old : List DiskSeen = map f c.args.disks.now in
    let new : List DiskSeen = map f c.compare_at.new.disks in
    λ e. touch_none g.D.Disk.tells old new c.args.views.now c.args.marks.now c.requires.stands c.args.place c.in-Ok-None.ensures.still

pub returns-in-Ok-Some-clause-goes : goal.returns-in-Ok-Some-clause-goes
returns-in-Ok-Some-clause-goes g c =
    let f : g.row.D.Denot → DiskSeen = λ disk. seen_as (g.D.Disk.size disk) (g.D.Disk.stands disk) (g.D.Disk.faults disk) in
    let old : List DiskSeen = map f c.args.disks.now in
    let new : List DiskSeen = map f c.compare_at.new.disks in
    λ e. touch_mark g.D.Disk.tells old new c.args.views.now c.args.marks.now c.requires.stands c.args.place c.in-Ok-Some.mark (c.in-Ok-Some.ensures.some (ap is_some c.in-Ok-Some.field-0-is)) c.in-Ok-Some.ensures.still

pub returns-in-Some-clause-goes : goal.returns-in-Some-clause-goes
returns-in-Some-clause-goes g c =
    let f : g.row.D.Denot → DiskSeen = λ disk. seen_as (g.D.Disk.size disk) (g.D.Disk.stands disk) (g.D.Disk.faults disk) in
    let old : List DiskSeen = map f c.args.disks.now in
    let new : List DiskSeen = map f c.compare_at.new.disks in
    let low : c.in-Err.refused.peer < length c.args.views.now = elim c.in-Err.ensures.one [ inl same ↦ omega (arith, same, c.requires.within, c.requires.views) | inr same ↦ omega (arith, same, c.requires.place, c.requires.views) ] in
    let under : c.in-Err.refused.peer < length c.args.marks.now = omega (arith, low, c.requires.views, c.requires.marks) in
    let is = sym c.lost_mark.ensures ∙ c.in-Some.is in
    let touched : Touches g.D.Disk.tells c.in-Err.refused.peer (state old c.args.views.now c.args.marks.now) (state new (slice_set c.args.views.now c.in-Err.refused.peer None) (slice_set c.args.marks.now c.in-Err.refused.peer c.in-Some.mark))
    = touch_lost g.D.Disk.tells old new c.args.views.now c.args.marks.now c.requires.stands c.in-Err.refused.peer c.in-Some.mark c.in-Err.refused.fault low under c.in-Err.ensures.viewed is c.in-Err.ensures.lost
    (λ shape begun count looked less told. c.in-Err.ensures.outside shape begun c.args.marks.now count looked less told) in
    λ e.
    let at : c.in-Err.refused.peer ≡ c.args.place = elim c.in-Err.ensures.one [ inl same ↦ absurd (not_equal c.in-Err.refused.peer c.args.taken e same) | inr same ↦ same ] in
    subst (λ p. Touches g.D.Disk.tells p (state old c.args.views.now c.args.marks.now) (state new (slice_set c.args.views.now c.in-Err.refused.peer None) (slice_set c.args.marks.now c.in-Err.refused.peer c.in-Some.mark))) at touched

pub returns-in-Some-clause-ends : goal.returns-in-Some-clause-ends
returns-in-Some-clause-ends g c =
    let f : g.row.D.Denot → DiskSeen = λ disk. seen_as (g.D.Disk.size disk) (g.D.Disk.stands disk) (g.D.Disk.faults disk) in
    let old : List DiskSeen = map f c.args.disks.now in
    let new : List DiskSeen = map f c.compare_at.new.disks in
    let low : c.in-Err.refused.peer < length c.args.views.now = elim c.in-Err.ensures.one [ inl same ↦ omega (arith, same, c.requires.within, c.requires.views) | inr same ↦ omega (arith, same, c.requires.place, c.requires.views) ] in
    let under : c.in-Err.refused.peer < length c.args.marks.now = omega (arith, low, c.requires.views, c.requires.marks) in
    let is = sym c.lost_mark.ensures ∙ c.in-Some.is in
    let touched : Touches g.D.Disk.tells c.in-Err.refused.peer (state old c.args.views.now c.args.marks.now) (state new (slice_set c.args.views.now c.in-Err.refused.peer None) (slice_set c.args.marks.now c.in-Err.refused.peer c.in-Some.mark))
    = touch_lost g.D.Disk.tells old new c.args.views.now c.args.marks.now c.requires.stands c.in-Err.refused.peer c.in-Some.mark c.in-Err.refused.fault low under c.in-Err.ensures.viewed is c.in-Err.ensures.lost
    (λ shape begun count looked less told. c.in-Err.ensures.outside shape begun c.args.marks.now count looked less told) in
    λ e.
    let at : c.in-Err.refused.peer ≡ c.args.taken = is_equal c.in-Err.refused.peer c.args.taken e in (
      subst (λ p. Touches g.D.Disk.tells p (state old c.args.views.now c.args.marks.now) (state new (slice_set c.args.views.now c.in-Err.refused.peer None) (slice_set c.args.marks.now c.in-Err.refused.peer c.in-Some.mark))) at touched,
      subst (λ p. view_at (slice_set c.args.views.now c.in-Err.refused.peer None) p ≡ None) at (gone_at c.args.views.now c.in-Err.refused.peer low),
    )
