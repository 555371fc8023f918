use Rattle.std.proofs.Common.{◌≡◌, ◌≢◌, ◌∙◌, ◌<◌, ap, sym, subst, ℕ, List, map, length, refl, arith, rules}
use Rattle.std.proofs.lemmas.List.{get_or-set_other, get_or-set_same}
use Rattle.std.specs.Prelude.{slice_set}
use Rattle.hs_fold.specs.Shards.Setting.{Numbered}
use Rattle.hs_memory.specs.Forget.{apply_all}
use Rattle.hs_peerlog.proofs.ImageLemmas.{Since}
use Rattle.hs_shard.specs.Facts.{Catalogue, empty_catalogue}
use Rattle.hs_taking.proofs.DiskLemmas.{seen_since}
use Rattle.hs_taking.proofs.LevelLemmas.{still_same}
use Rattle.hs_taking.proofs.ShardLemmas.{moved_read, still_keeps}
use Rattle.hs_taking.proofs.SlotLemmas.{aside_is, bare_fresh, bare_moved, bare_viewed, none_viewed, shard_bare, shard_viewed, viewed_is}
use Rattle.hs_taking.proofs.StepLemmas.{at_any}
use Rattle.hs_taking.specs.declared.slot.Slot.{Slot}
use Rattle.hs_taking.specs.declared.slot.Slot.TheVariants.{Aside, Viewed}
use Rattle.hs_taking.specs.Disks.{DiskSeen, seen_as, seen_at}
use Rattle.hs_taking.specs.Evens.{viewed_of, log_of}
use Rattle.hs_taking.specs.Slots.{IsSlot, slot_at}
use Rattle.hs_taking.proofs.HeadLemmas.{owns_none, owns_set, their_none}
use Rattle.hs_side.specs.Headers.{own_header}
use Rattle.hs_taking.specs.Headed.{OwnsLog}
use Rattle.hs_taking.proofs.taking.take_shard.Goals as goal

pub take_viewed-requires-clause-taken : goal.take_viewed-requires-clause-taken
take_viewed-requires-clause-taken g c =
    let f : g.row.D.Denot → DiskSeen = λ disk. seen_as (g.D.Disk.size disk) (g.D.Disk.stands disk) (g.D.Disk.faults disk) in
    let d0 : List DiskSeen = map f c.args.disks.now in
    let slots : List Slot = c.args.slots.now.items in
    let i : ℕ = c.from-place.result in
    let at : i ≡ c.args.peer = c.from-place.ensures in
    let low : i < length slots = omega (arith, at, c.requires.within, c.requires.slots) in
    let bare : List Slot = slice_set slots i c.replace-slot.new.dest in
    let there : (peer : ℕ) → peer ≢ c.args.peer → slot_at bare peer ≡ slot_at slots peer = λ peer differs. get_or-set_other slots i peer c.replace-slot.new.dest Aside (λ same. differs (same ∙ at)) in
    let here : slot_at bare c.args.peer ≡ Aside = ap (λ n. slot_at bare n) (sym at) ∙ get_or-set_same slots i c.replace-slot.new.dest Aside low ∙ c.replace-slot.ensures.after in
    let was : slot_at slots c.args.peer ≡ c.replace-slot.result = ap (λ n. slot_at slots n) (sym at) ∙ sym (c.index_mut.ensures.value ∙ at_any slots i c.index_mut.result.now Aside low) ∙ sym c.replace-slot.ensures.value in
    let is : slot_at slots c.args.peer ≡ Viewed c.in-Some.view = was ∙ viewed_is c.replace-slot.result c.in-Some.view (sym c.viewed_of.ensures ∙ c.in-Some.is) in
    subst (λ (s : Slot). IsSlot g.D.Disk.tells c.args.shape c.args.peer (seen_at d0 c.args.peer) s) is (c.requires.viewed c.args.peer c.requires.peer)

pub take_viewed-requires-clause-viewed : goal.take_viewed-requires-clause-viewed
take_viewed-requires-clause-viewed g c =
    let f : g.row.D.Denot → DiskSeen = λ disk. seen_as (g.D.Disk.size disk) (g.D.Disk.stands disk) (g.D.Disk.faults disk) in
    let d0 : List DiskSeen = map f c.args.disks.now in
    let slots : List Slot = c.args.slots.now.items in
    let i : ℕ = c.from-place.result in
    let at : i ≡ c.args.peer = c.from-place.ensures in
    let low : i < length slots = omega (arith, at, c.requires.within, c.requires.slots) in
    let bare : List Slot = slice_set slots i c.replace-slot.new.dest in
    let there : (peer : ℕ) → peer ≢ c.args.peer → slot_at bare peer ≡ slot_at slots peer = λ peer differs. get_or-set_other slots i peer c.replace-slot.new.dest Aside (λ same. differs (same ∙ at)) in
    let here : slot_at bare c.args.peer ≡ Aside = ap (λ n. slot_at bare n) (sym at) ∙ get_or-set_same slots i c.replace-slot.new.dest Aside low ∙ c.replace-slot.ensures.after in
    let was : slot_at slots c.args.peer ≡ c.replace-slot.result = ap (λ n. slot_at slots n) (sym at) ∙ sym (c.index_mut.ensures.value ∙ at_any slots i c.index_mut.result.now Aside low) ∙ sym c.replace-slot.ensures.value in
    bare_viewed g.D.Disk.tells c.args.shape c.args.shard c.args.peer c.args.watch.now c.args.watch.now d0 d0 slots bare c.requires.peer there here c.requires.viewed

pub take_viewed-requires-clause-fresh : goal.take_viewed-requires-clause-fresh
take_viewed-requires-clause-fresh g c =
    let f : g.row.D.Denot → DiskSeen = λ disk. seen_as (g.D.Disk.size disk) (g.D.Disk.stands disk) (g.D.Disk.faults disk) in
    let d0 : List DiskSeen = map f c.args.disks.now in
    let slots : List Slot = c.args.slots.now.items in
    let i : ℕ = c.from-place.result in
    let at : i ≡ c.args.peer = c.from-place.ensures in
    let low : i < length slots = omega (arith, at, c.requires.within, c.requires.slots) in
    let bare : List Slot = slice_set slots i c.replace-slot.new.dest in
    let there : (peer : ℕ) → peer ≢ c.args.peer → slot_at bare peer ≡ slot_at slots peer = λ peer differs. get_or-set_other slots i peer c.replace-slot.new.dest Aside (λ same. differs (same ∙ at)) in
    let here : slot_at bare c.args.peer ≡ Aside = ap (λ n. slot_at bare n) (sym at) ∙ get_or-set_same slots i c.replace-slot.new.dest Aside low ∙ c.replace-slot.ensures.after in
    let was : slot_at slots c.args.peer ≡ c.replace-slot.result = ap (λ n. slot_at slots n) (sym at) ∙ sym (c.index_mut.ensures.value ∙ at_any slots i c.index_mut.result.now Aside low) ∙ sym c.replace-slot.ensures.value in
    bare_fresh g.D.Disk.tells c.args.shape c.args.shard c.args.peer c.args.watch.now c.args.watch.now d0 d0 slots bare c.requires.peer there here c.requires.fresh

pub take_viewed-requires-clause-aside : goal.take_viewed-requires-clause-aside
take_viewed-requires-clause-aside g c =
    let f : g.row.D.Denot → DiskSeen = λ disk. seen_as (g.D.Disk.size disk) (g.D.Disk.stands disk) (g.D.Disk.faults disk) in
    let d0 : List DiskSeen = map f c.args.disks.now in
    let slots : List Slot = c.args.slots.now.items in
    let i : ℕ = c.from-place.result in
    let at : i ≡ c.args.peer = c.from-place.ensures in
    let low : i < length slots = omega (arith, at, c.requires.within, c.requires.slots) in
    let bare : List Slot = slice_set slots i c.replace-slot.new.dest in
    let there : (peer : ℕ) → peer ≢ c.args.peer → slot_at bare peer ≡ slot_at slots peer = λ peer differs. get_or-set_other slots i peer c.replace-slot.new.dest Aside (λ same. differs (same ∙ at)) in
    let here : slot_at bare c.args.peer ≡ Aside = ap (λ n. slot_at bare n) (sym at) ∙ get_or-set_same slots i c.replace-slot.new.dest Aside low ∙ c.replace-slot.ensures.after in
    let was : slot_at slots c.args.peer ≡ c.replace-slot.result = ap (λ n. slot_at slots n) (sym at) ∙ sym (c.index_mut.ensures.value ∙ at_any slots i c.index_mut.result.now Aside low) ∙ sym c.replace-slot.ensures.value in
    here

pub returns-in-Some-clause-takes : goal.returns-in-Some-clause-takes
returns-in-Some-clause-takes g c =
    let f : g.row.D.Denot → DiskSeen = λ disk. seen_as (g.D.Disk.size disk) (g.D.Disk.stands disk) (g.D.Disk.faults disk) in
    let d0 : List DiskSeen = map f c.args.disks.now in
    let slots : List Slot = c.args.slots.now.items in
    let i : ℕ = c.from-place.result in
    let at : i ≡ c.args.peer = c.from-place.ensures in
    let low : i < length slots = omega (arith, at, c.requires.within, c.requires.slots) in
    let bare : List Slot = slice_set slots i c.replace-slot.new.dest in
    let there : (peer : ℕ) → peer ≢ c.args.peer → slot_at bare peer ≡ slot_at slots peer = λ peer differs. get_or-set_other slots i peer c.replace-slot.new.dest Aside (λ same. differs (same ∙ at)) in
    let here : slot_at bare c.args.peer ≡ Aside = ap (λ n. slot_at bare n) (sym at) ∙ get_or-set_same slots i c.replace-slot.new.dest Aside low ∙ c.replace-slot.ensures.after in
    let was : slot_at slots c.args.peer ≡ c.replace-slot.result = ap (λ n. slot_at slots n) (sym at) ∙ sym (c.index_mut.ensures.value ∙ at_any slots i c.index_mut.result.now Aside low) ∙ sym c.replace-slot.ensures.value in
    let is : slot_at slots c.args.peer ≡ Viewed c.in-Some.view = was ∙ viewed_is c.replace-slot.result c.in-Some.view (sym c.viewed_of.ensures ∙ c.in-Some.is) in
    let fold : Numbered → Catalogue = apply_all (g.A.Addresser.name c.args.naming.now) (empty_catalogue c.args.shape c.args.shard) in
    shard_viewed g.D.Disk.tells c.args.shape c.args.shard c.args.peer c.args.watch.now c.take_viewed.new.watch d0 (map f c.take_viewed.new.disks) slots bare c.requires.peer there here fold c.take_viewed.new.slots.items c.in-Some.view c.take_viewed.result is c.take_viewed.ensures.takes c.take_viewed.ensures.outside

pub returns-in-Some-clause-moved : goal.returns-in-Some-clause-moved
returns-in-Some-clause-moved g c =
    let f : g.row.D.Denot → DiskSeen = λ disk. seen_as (g.D.Disk.size disk) (g.D.Disk.stands disk) (g.D.Disk.faults disk) in
    let d0 : List DiskSeen = map f c.args.disks.now in
    let slots : List Slot = c.args.slots.now.items in
    let i : ℕ = c.from-place.result in
    let at : i ≡ c.args.peer = c.from-place.ensures in
    let low : i < length slots = omega (arith, at, c.requires.within, c.requires.slots) in
    let bare : List Slot = slice_set slots i c.replace-slot.new.dest in
    let there : (peer : ℕ) → peer ≢ c.args.peer → slot_at bare peer ≡ slot_at slots peer = λ peer differs. get_or-set_other slots i peer c.replace-slot.new.dest Aside (λ same. differs (same ∙ at)) in
    let here : slot_at bare c.args.peer ≡ Aside = ap (λ n. slot_at bare n) (sym at) ∙ get_or-set_same slots i c.replace-slot.new.dest Aside low ∙ c.replace-slot.ensures.after in
    let was : slot_at slots c.args.peer ≡ c.replace-slot.result = ap (λ n. slot_at slots n) (sym at) ∙ sym (c.index_mut.ensures.value ∙ at_any slots i c.index_mut.result.now Aside low) ∙ sym c.replace-slot.ensures.value in
    bare_moved g.D.Disk.tells c.args.shape c.args.shard c.args.peer c.args.watch.now c.take_viewed.new.watch d0 (map f c.take_viewed.new.disks) slots bare c.requires.peer there here c.take_viewed.ensures.moved

pub returns-in-None-clause-takes : goal.returns-in-None-clause-takes
returns-in-None-clause-takes g c =
    let f : g.row.D.Denot → DiskSeen = λ disk. seen_as (g.D.Disk.size disk) (g.D.Disk.stands disk) (g.D.Disk.faults disk) in
    let d0 : List DiskSeen = map f c.args.disks.now in
    let slots : List Slot = c.args.slots.now.items in
    let i : ℕ = c.from-place.result in
    let at : i ≡ c.args.peer = c.from-place.ensures in
    let low : i < length slots = omega (arith, at, c.requires.within, c.requires.slots) in
    let bare : List Slot = slice_set slots i c.replace-slot.new.dest in
    let there : (peer : ℕ) → peer ≢ c.args.peer → slot_at bare peer ≡ slot_at slots peer = λ peer differs. get_or-set_other slots i peer c.replace-slot.new.dest Aside (λ same. differs (same ∙ at)) in
    let here : slot_at bare c.args.peer ≡ Aside = ap (λ n. slot_at bare n) (sym at) ∙ get_or-set_same slots i c.replace-slot.new.dest Aside low ∙ c.replace-slot.ensures.after in
    let was : slot_at slots c.args.peer ≡ c.replace-slot.result = ap (λ n. slot_at slots n) (sym at) ∙ sym (c.index_mut.ensures.value ∙ at_any slots i c.index_mut.result.now Aside low) ∙ sym c.replace-slot.ensures.value in
    let is : slot_at slots c.args.peer ≡ Aside = aside_is (slot_at slots c.args.peer) (c.requires.fresh c.args.peer c.requires.peer) (ap (λ (s : Slot). viewed_of s) was ∙ sym c.viewed_of.ensures ∙ c.in-None.is) in
    let fold : Numbered → Catalogue = apply_all (g.A.Addresser.name c.args.naming.now) (empty_catalogue c.args.shape c.args.shard) in
    shard_bare g.D.Disk.tells c.args.shape c.args.shard c.args.peer c.args.watch.now c.args.watch.now d0 d0 slots bare c.requires.peer there here fold c.empty_share.result is refl (search rules) (search rules) (search rules) (search rules)

pub returns-in-None-clause-moved : goal.returns-in-None-clause-moved
returns-in-None-clause-moved g c =
    let f : g.row.D.Denot → DiskSeen = λ disk. seen_as (g.D.Disk.size disk) (g.D.Disk.stands disk) (g.D.Disk.faults disk) in
    let d0 : List DiskSeen = map f c.args.disks.now in
    let slots : List Slot = c.args.slots.now.items in
    let i : ℕ = c.from-place.result in
    let at : i ≡ c.args.peer = c.from-place.ensures in
    let low : i < length slots = omega (arith, at, c.requires.within, c.requires.slots) in
    let bare : List Slot = slice_set slots i c.replace-slot.new.dest in
    let there : (peer : ℕ) → peer ≢ c.args.peer → slot_at bare peer ≡ slot_at slots peer = λ peer differs. get_or-set_other slots i peer c.replace-slot.new.dest Aside (λ same. differs (same ∙ at)) in
    let here : slot_at bare c.args.peer ≡ Aside = ap (λ n. slot_at bare n) (sym at) ∙ get_or-set_same slots i c.replace-slot.new.dest Aside low ∙ c.replace-slot.ensures.after in
    let was : slot_at slots c.args.peer ≡ c.replace-slot.result = ap (λ n. slot_at slots n) (sym at) ∙ sym (c.index_mut.ensures.value ∙ at_any slots i c.index_mut.result.now Aside low) ∙ sym c.replace-slot.ensures.value in
    let since : (peer : ℕ) → g.D.Disk.tells → Since (seen_at d0 peer).stands = λ peer told. seen_since f (λ disk side m high. g.met.D.Disk.since told disk side m high) c.args.disks.now peer in
    moved_read g.D.Disk.tells c.args.shape c.args.shard c.args.peer c.args.watch.now c.args.watch.now d0 d0 slots (omega arith) since c.requires.viewed (λ peer differs. still_same g.D.Disk.tells (seen_at d0 peer) (seen_at d0 peer) refl)
    (still_keeps g.D.Disk.tells c.args.watch.now c.args.watch.now (seen_at d0 c.args.peer) (seen_at d0 c.args.peer) (omega arith) (since c.args.peer) (still_same g.D.Disk.tells (seen_at d0 c.args.peer) (seen_at d0 c.args.peer) refl))
    (λ peer not. refl)

pub returns-in-Some-clause-idle : goal.returns-in-Some-clause-idle
returns-in-Some-clause-idle g c = λ none.
    let slots : List Slot = c.args.slots.now.items in
    let i : ℕ = c.from-place.result in
    let at : i ≡ c.args.peer = c.from-place.ensures in
    let low : i < length slots = omega (arith, at, c.requires.within, c.requires.slots) in
    let was : slot_at slots c.args.peer ≡ c.replace-slot.result = ap (λ n. slot_at slots n) (sym at) ∙ sym (c.index_mut.ensures.value ∙ at_any slots i c.index_mut.result.now Aside low) ∙ sym c.replace-slot.ensures.value in
    absurd (none_viewed c.in-Some.view (sym none ∙ ap (λ (s : Slot). viewed_of s) was ∙ sym c.viewed_of.ensures ∙ c.in-Some.is))

pub returns-in-Some-clause-own : goal.returns-in-Some-clause-own
returns-in-Some-clause-own g c =
    let f : g.row.D.Denot → DiskSeen = λ disk. seen_as (g.D.Disk.size disk) (g.D.Disk.stands disk) (g.D.Disk.faults disk) in
    let slots : List Slot = c.args.slots.now.items in
    let i : ℕ = c.from-place.result in
    let at : i ≡ c.args.peer = c.from-place.ensures in
    let low : i < length slots = omega (arith, at, c.requires.within, c.requires.slots) in
    λ owns.
    let bare = owns_set g.D.Disk.tells c.args.shape slots i c.replace-slot.new.dest low owns (λ told. subst (λ (s : Slot). OwnsLog (own_header c.args.shape i) (log_of s)) (sym c.replace-slot.ensures.after) (owns_none (own_header c.args.shape i))) in
    c.take_viewed.ensures.own bare

pub returns-in-None-clause-own : goal.returns-in-None-clause-own
returns-in-None-clause-own g c =
    let f : g.row.D.Denot → DiskSeen = λ disk. seen_as (g.D.Disk.size disk) (g.D.Disk.stands disk) (g.D.Disk.faults disk) in
    let slots : List Slot = c.args.slots.now.items in
    let i : ℕ = c.from-place.result in
    let at : i ≡ c.args.peer = c.from-place.ensures in
    let low : i < length slots = omega (arith, at, c.requires.within, c.requires.slots) in
    λ owns.
    let bare = owns_set g.D.Disk.tells c.args.shape slots i c.replace-slot.new.dest low owns (λ told. subst (λ (s : Slot). OwnsLog (own_header c.args.shape i) (log_of s)) (sym c.replace-slot.ensures.after) (owns_none (own_header c.args.shape i))) in
    bare

pub returns-in-None-clause-headed : goal.returns-in-None-clause-headed
returns-in-None-clause-headed g c =
    let f : g.row.D.Denot → DiskSeen = λ disk. seen_as (g.D.Disk.size disk) (g.D.Disk.stands disk) (g.D.Disk.faults disk) in
    let d0 : List DiskSeen = map f c.args.disks.now in
    their_none g.D.Disk.tells c.args.shape c.args.watch.now d0 (λ peer told. seen_since f (λ disk side m high. g.met.D.Disk.since told disk side m high) c.args.disks.now peer)
