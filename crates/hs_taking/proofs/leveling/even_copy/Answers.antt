use Rattle.std.proofs.Common.{◌≡◌, ◌≢◌, ◌∙◌, map, sym, subst, refl}
use Rattle.hs_peerlog.specs.Views.{Viewing}
use Rattle.hs_taking.proofs.DiskLemmas.{seen_is, seen_there, one_called, seen_since}
use Rattle.hs_taking.proofs.LevelLemmas.{equal_made, equal_moved, slot_apart, step_none, still_same, view_apart}
use Rattle.hs_taking.specs.declared.slot.Slot.TheVariants.{Aside, Viewed, Equal}
use Rattle.hs_taking.specs.Disks.{DiskSeen, seen_as, seen_at}
use Rattle.hs_taking.specs.Slots.{IsSourceOf}
use Rattle.hs_taking.specs.Viewed.{IsViewOf}
use Rattle.hs_taking.proofs.HeadLemmas.{its_none, owns_none}
use Rattle.hs_side.specs.Headers.{own_header}
use Rattle.hs_taking.specs.Evens.{log_of}
use Rattle.hs_taking.specs.Headed.{KeepsItsHeader, OwnsLog}
use Rattle.hs_taking.specs.declared.slot.Slot.{Slot}
use Rattle.hs_taking.proofs.leveling.even_copy.Goals as goal

not_equal : {view : Viewing} → Equal view ≡ Aside → ⊥
not_equal e = cc e

not_viewed : {view : Viewing} → Viewed view ≡ Aside → ⊥
not_viewed e = cc e

pub recover_copy-requires : goal.recover_copy-requires
recover_copy-requires g c =
    let f : g.row.D.Denot → DiskSeen = λ disk. seen_as (g.D.Disk.size disk) (g.D.Disk.stands disk) (g.D.Disk.faults disk) in
    let is : Equal c.in-Equal.view ≡ c.args.slot.now = sym c.in-Equal.is ∙ c.replace.ensures.value in
    record {
      viewed = subst (λ (s : DiskSeen). IsViewOf g.D.Disk.tells c.args.shape c.args.peer s c.in-Equal.view) (seen_is f c.args.disks.now c.args.place c.index-disks-place.result c.requires.place)
          (view_apart g.D.Disk.tells c.args.shape c.args.peer c.args.place c.args.from (seen_at (map f c.args.disks.now) c.args.place) c.args.slot.now (Equal c.in-Equal.view) c.requires.apart c.requires.viewed is not_equal);
    }

pub level_copy-requires-clause-viewed : goal.level_copy-requires-clause-viewed
level_copy-requires-clause-viewed g c =
    let f : g.row.D.Denot → DiskSeen = λ disk. seen_as (g.D.Disk.size disk) (g.D.Disk.stands disk) (g.D.Disk.faults disk) in
    let is : Viewed c.in-Viewed.view ≡ c.args.slot.now = sym c.in-Viewed.is ∙ c.replace.ensures.value in
    view_apart g.D.Disk.tells c.args.shape c.args.peer c.args.place c.args.from (seen_at (map f c.args.disks.now) c.args.place) c.args.slot.now (Viewed c.in-Viewed.view) c.requires.apart c.requires.viewed is not_viewed

pub returns-in-Ok-clause-made : goal.returns-in-Ok-clause-made
returns-in-Ok-clause-made g c =
    let f : g.row.D.Denot → DiskSeen = λ disk. seen_as (g.D.Disk.size disk) (g.D.Disk.stands disk) (g.D.Disk.faults disk) in
    let is : c.args.slot.now ≡ Equal c.in-Equal.view = sym c.replace.ensures.value ∙ c.in-Equal.is in
    let apart : c.args.place ≢ c.args.from = slot_apart c.args.place c.args.from c.args.slot.now (Equal c.in-Equal.view) c.requires.apart (sym is) not_equal in
    equal_made f g.D.Disk.tells c.args.watch.now c.recover_copy.new.watch c.args.place c.args.from c.args.disks.now c.recover_copy.new.disk c.index-disks-place.result c.requires.place c.in-Equal.view c.args.slot.now is
    c.args.source.now c.args.source.now (IsSourceOf c.args.source.now (seen_at (map f c.args.disks.now) c.args.from)) c.in-Ok.made c.in-Ok.ensures.kept

pub returns-in-Ok-clause-source : goal.returns-in-Ok-clause-source
returns-in-Ok-clause-source g c =
    let f : g.row.D.Denot → DiskSeen = λ disk. seen_as (g.D.Disk.size disk) (g.D.Disk.stands disk) (g.D.Disk.faults disk) in
    let is : c.args.slot.now ≡ Equal c.in-Equal.view = sym c.replace.ensures.value ∙ c.in-Equal.is in
    let apart : c.args.place ≢ c.args.from = slot_apart c.args.place c.args.from c.args.slot.now (Equal c.in-Equal.view) c.requires.apart (sym is) not_equal in
    step_none g.D.Disk.tells c.recover_copy.new.watch _ _ c.args.source.now (seen_there f c.args.disks.now c.args.place c.args.from c.recover_copy.new.disk (λ same. apart (sym same)))

pub returns-in-Ok-clause-moved : goal.returns-in-Ok-clause-moved
returns-in-Ok-clause-moved g c =
    let f : g.row.D.Denot → DiskSeen = λ disk. seen_as (g.D.Disk.size disk) (g.D.Disk.stands disk) (g.D.Disk.faults disk) in
    let is : c.args.slot.now ≡ Equal c.in-Equal.view = sym c.replace.ensures.value ∙ c.in-Equal.is in
    let apart : c.args.place ≢ c.args.from = slot_apart c.args.place c.args.from c.args.slot.now (Equal c.in-Equal.view) c.requires.apart (sym is) not_equal in
    equal_moved f g.D.Disk.tells c.args.watch.now c.recover_copy.new.watch c.args.place c.args.from c.args.disks.now c.recover_copy.new.disk c.index-disks-place.result c.requires.place c.in-Equal.view c.args.slot.now is
    c.args.source.now (IsSourceOf c.args.source.now (seen_at (map f c.args.disks.now) c.args.from)) c.recover_copy.ensures.keeps

pub returns-in-Ok-clause-still : goal.returns-in-Ok-clause-still
returns-in-Ok-clause-still g c =
    let f : g.row.D.Denot → DiskSeen = λ disk. seen_as (g.D.Disk.size disk) (g.D.Disk.stands disk) (g.D.Disk.faults disk) in
    let is : c.args.slot.now ≡ Equal c.in-Equal.view = sym c.replace.ensures.value ∙ c.in-Equal.is in
    let apart : c.args.place ≢ c.args.from = slot_apart c.args.place c.args.from c.args.slot.now (Equal c.in-Equal.view) c.requires.apart (sym is) not_equal in
    still_same g.D.Disk.tells _ _ (seen_there f c.args.disks.now c.args.place c.args.from c.recover_copy.new.disk (λ same. apart (sym same)))

pub returns-in-Ok-clause-rest : goal.returns-in-Ok-clause-rest
returns-in-Ok-clause-rest g c = λ other a b.
    let f : g.row.D.Denot → DiskSeen = λ disk. seen_as (g.D.Disk.size disk) (g.D.Disk.stands disk) (g.D.Disk.faults disk) in
    seen_there f c.args.disks.now c.args.place other c.recover_copy.new.disk b

pub returns-in-Err-clause-moved : goal.returns-in-Err-clause-moved
returns-in-Err-clause-moved g c =
    let f : g.row.D.Denot → DiskSeen = λ disk. seen_as (g.D.Disk.size disk) (g.D.Disk.stands disk) (g.D.Disk.faults disk) in
    let is : c.args.slot.now ≡ Equal c.in-Equal.view = sym c.replace.ensures.value ∙ c.in-Equal.is in
    let apart : c.args.place ≢ c.args.from = slot_apart c.args.place c.args.from c.args.slot.now (Equal c.in-Equal.view) c.requires.apart (sym is) not_equal in
    equal_moved f g.D.Disk.tells c.args.watch.now c.recover_copy.new.watch c.args.place c.args.from c.args.disks.now c.recover_copy.new.disk c.index-disks-place.result c.requires.place c.in-Equal.view c.args.slot.now is
    c.args.source.now (IsSourceOf c.args.source.now (seen_at (map f c.args.disks.now) c.args.from)) c.recover_copy.ensures.keeps

pub returns-in-Err-clause-still : goal.returns-in-Err-clause-still
returns-in-Err-clause-still g c =
    let f : g.row.D.Denot → DiskSeen = λ disk. seen_as (g.D.Disk.size disk) (g.D.Disk.stands disk) (g.D.Disk.faults disk) in
    let is : c.args.slot.now ≡ Equal c.in-Equal.view = sym c.replace.ensures.value ∙ c.in-Equal.is in
    let apart : c.args.place ≢ c.args.from = slot_apart c.args.place c.args.from c.args.slot.now (Equal c.in-Equal.view) c.requires.apart (sym is) not_equal in
    still_same g.D.Disk.tells _ _ (seen_there f c.args.disks.now c.args.place c.args.from c.recover_copy.new.disk (λ same. apart (sym same)))

pub returns-in-Err-clause-rest : goal.returns-in-Err-clause-rest
returns-in-Err-clause-rest g c = λ other a b.
    let f : g.row.D.Denot → DiskSeen = λ disk. seen_as (g.D.Disk.size disk) (g.D.Disk.stands disk) (g.D.Disk.faults disk) in
    seen_there f c.args.disks.now c.args.place other c.recover_copy.new.disk b

pub returns-in-Aside-clause-headed : goal.returns-in-Aside-clause-headed
returns-in-Aside-clause-headed g c =
    let f : g.row.D.Denot → DiskSeen = λ disk. seen_as (g.D.Disk.size disk) (g.D.Disk.stands disk) (g.D.Disk.faults disk) in
    its_none g.D.Disk.tells (own_header c.args.shape c.args.peer) c.args.watch.now (seen_at (map f c.args.disks.now) c.args.place) (λ told. seen_since f (λ disk side m high. g.met.D.Disk.since told disk side m high) c.args.disks.now c.args.place)

pub returns-in-Aside-clause-own : goal.returns-in-Aside-clause-own
returns-in-Aside-clause-own g c = λ told owns. subst (λ (s : Slot). OwnsLog (own_header c.args.shape c.args.peer) (log_of s)) (sym c.replace.ensures.after) (owns_none (own_header c.args.shape c.args.peer))

pub returns-in-Kept-clause-headed : goal.returns-in-Kept-clause-headed
returns-in-Kept-clause-headed g c =
    let f : g.row.D.Denot → DiskSeen = λ disk. seen_as (g.D.Disk.size disk) (g.D.Disk.stands disk) (g.D.Disk.faults disk) in
    its_none g.D.Disk.tells (own_header c.args.shape c.args.peer) c.args.watch.now (seen_at (map f c.args.disks.now) c.args.place) (λ told. seen_since f (λ disk side m high. g.met.D.Disk.since told disk side m high) c.args.disks.now c.args.place)

pub returns-in-Kept-clause-own : goal.returns-in-Kept-clause-own
returns-in-Kept-clause-own g c = λ told owns. subst (λ (s : Slot). OwnsLog (own_header c.args.shape c.args.peer) (log_of s)) (sym c.replace.ensures.value ∙ c.in-Kept.is) owns

pub returns-in-Ok-clause-headed : goal.returns-in-Ok-clause-headed
returns-in-Ok-clause-headed g c =
    let f : g.row.D.Denot → DiskSeen = λ disk. seen_as (g.D.Disk.size disk) (g.D.Disk.stands disk) (g.D.Disk.faults disk) in
    one_called f c.args.disks.now c.args.place c.args.place c.recover_copy.new.disk c.index-disks-place.result refl c.requires.place
    (λ a b. KeepsItsHeader g.D.Disk.tells (own_header c.args.shape c.args.peer) c.args.watch.now c.recover_copy.new.watch a b) c.recover_copy.ensures.headed

pub returns-in-Err-clause-headed : goal.returns-in-Err-clause-headed
returns-in-Err-clause-headed g c =
    let f : g.row.D.Denot → DiskSeen = λ disk. seen_as (g.D.Disk.size disk) (g.D.Disk.stands disk) (g.D.Disk.faults disk) in
    one_called f c.args.disks.now c.args.place c.args.place c.recover_copy.new.disk c.index-disks-place.result refl c.requires.place
    (λ a b. KeepsItsHeader g.D.Disk.tells (own_header c.args.shape c.args.peer) c.args.watch.now c.recover_copy.new.watch a b) c.recover_copy.ensures.headed
