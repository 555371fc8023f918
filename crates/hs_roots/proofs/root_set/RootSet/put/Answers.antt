use Rattle.std.proofs.Common.{◌≡◌, ◌∙◌, ◌+◌, ap, sym, refl, List, None, subst}
use Rattle.hs_roots.specs.declared.root.RootRecord.{RootRecord}
use Rattle.hs_roots.specs.ByKey.{count_upto}
use Rattle.hs_roots.specs.Places.{AreKept, place_of}
use Rattle.hs_roots.specs.Roots.{Retention, insert_root, new_root, retained_of, retains}
use Rattle.hs_roots.proofs.PlaceLemmas.{somewhere}
use Rattle.hs_roots.proofs.RootLemmas.{map_none, put_kept}
use Rattle.hs_roots.proofs.root_set.RootSet.put.Goals as goal

pub invariant_of-self-2 : goal.invariant_of-self-2
invariant_of-self-2 c =
    let roots = c.self.inside.records.items in
    let key = c.args.key.now in
    let missed = map_none (λ (root : RootRecord). root.address) (retained_of key c.args.self.now.roots) (sym c.look.ensures ∙ c.in_default.is) in
    let free : place_of key roots ≡ None = somewhere (retains key) roots 0 (ap (λ (set : Retention). retained_of key set.roots) c.self.view_is ∙ missed) in
    let copied : c.in_ok-copy.field-0 ≡ key = c.in_ok-copy.ensures in
    let place = c.count_upto-place.ensures ∙ ap (λ (z : List RootRecord). count_upto (λ (root : RootRecord). root.key) key z) c.as_slice.ensures.value in
    let more : c.insert.new.self.items ≡ insert_root (new_root key c.args.address c.args.epoch) roots = rw (c.in_ok-insert.ensures.items, place, copied) refl in
    subst (λ (z : List RootRecord). AreKept z (c.self.inside.retained + 1)) (sym more) (put_kept roots c.self.inside.retained key c.args.address c.args.epoch c.self.invariant free)
