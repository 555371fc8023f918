use Rattle.std.proofs.Common.{◌≡◌, ◌∙◌, ◌++◌, List, ap, arith, drop, length, map, subst, sym, take}
use Rattle.std.proofs.lemmas.Grind.{common_steps}
use Rattle.hs_scrub.proofs.ScrubLemmas.{scrubbed_so, written_back}
use Rattle.hs_scrub.specs.declared.mark.PeerMark.{PeerMark}
use Rattle.hs_scrub.specs.Scrubbed.{HasScrubbed}
use Rattle.hs_scrub.specs.Steps.{AreLooked}
use Rattle.hs_scrub.specs.Text.{scrub_text}
use Rattle.hs_taking.specs.Disks.{DiskSeen, seen_as}
use Rattle.hs_scrub.proofs.scrubbing.scrub.Goals as goal

pub returns-in-Ok-put_text-clause-scrubbed : goal.returns-in-Ok-put_text-clause-scrubbed
returns-in-Ok-put_text-clause-scrubbed g c =
    let f : g.row.D.Denot → DiskSeen = λ disk. seen_as (g.D.Disk.size disk) (g.D.Disk.stands disk) (g.D.Disk.faults disk) in
    let old : List DiskSeen = map f c.args.disks.now in
    let mid : List DiskSeen = map f c.look_at_all.new.disks in
    let new : List DiskSeen = map f c.mark_all.new.disks in
    let n : c.in-Ok.looks.marks.len ≡ length c.in-Ok.looks.marks.items = grind (arith, common_steps) in
    let many : length c.mark_all.new.marks ≡ length c.in-Ok.looks.marks.items = c.mark_all.ensures.marks ∙ ap (λ (ms : List PeerMark). length ms) c.as_mut_slice-2.ensures.value in
    let back : take c.in-Ok.looks.marks.len (c.mark_all.new.marks ++ drop (length c.mark_all.new.marks) c.in-Ok.looks.marks.items) ≡ c.mark_all.new.marks
    = written_back c.mark_all.new.marks c.in-Ok.looks.marks.items c.in-Ok.looks.marks.len many n in
    let looked : AreLooked g.D.Disk.tells c.args.shape old mid c.as_mut_slice.result.now c.as_mut_slice-2.result.now (length c.args.disks.now)
    = subst (λ vs. AreLooked g.D.Disk.tells c.args.shape old mid vs c.as_mut_slice-2.result.now (length c.args.disks.now)) (sym c.as_mut_slice.ensures.value)
    (subst (λ ms. AreLooked g.D.Disk.tells c.args.shape old mid c.in-Ok.looks.views.items ms (length c.args.disks.now)) (sym c.as_mut_slice-2.ensures.value) c.in-Ok.ensures.looked) in
    subst (λ (ms : List PeerMark). HasScrubbed g.D.Disk.tells c.args.shape old new ms c.args.out.now.items c.put_text.new.out.items) (sym back) (record {
      lengths = c.in-Ok-mark_all.lengths.items;
      marked = scrubbed_so g.D.Disk.tells c.args.shape old mid new c.as_mut_slice.result.now c.as_mut_slice-2.result.now c.in-Ok-mark_all.lengths.items c.mark_all.new.views c.mark_all.new.marks (length c.args.disks.now)
          c.requires.count (many ∙ c.in-Ok.ensures.marks) c.in-Ok-mark_all.ensures.lengths looked c.in-Ok-mark_all.ensures.done;
      text = c.in-Ok-put_text.ensures.ok ∙ ap (λ ls. c.args.out.now.items ++ scrub_text c.args.shape.copies ls c.as_slice-2.result.now) c.as_slice.ensures.value
          ∙ ap (λ ms. c.args.out.now.items ++ scrub_text c.args.shape.copies c.in-Ok-mark_all.lengths.items ms) (c.as_slice-2.ensures.value ∙ back);
    })
