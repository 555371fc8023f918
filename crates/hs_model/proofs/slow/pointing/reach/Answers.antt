use Rattle.std.proofs.Common.{◌≡◌, ◌∙◌, ◌++◌, [], sym, ap, subst, arith, List, append-nil}
use Rattle.std.proofs.lemmas.Grind.{common_steps}
use Rattle.std.specs.BTreeSet.{contains}
use Rattle.hs_limits.specs.declared.address.Address.{Address}
use Rattle.hs_model.specs.Pointing.{pointing_store}
use Rattle.hs_model.specs.Reach.{IsReached}
use Rattle.hs_model.specs.Store.{address_cmp}
use Rattle.hs_model.proofs.PointingLemmas.{Covers, at, at_is, found, removed, covers_none, covers_more, covers_all, work_shrinks}
use Rattle.hs_model.proofs.SetLemmas.{listed_by_set}
use Rattle.hs_model.proofs.slow.pointing.reach.Goals as goal

pub loop-address-init : goal.loop-address-init
loop-address-init c =
    subst (λ z. Covers (λ a. contains address_cmp c.new-seen.result a) c.args.left.entries z (λ a. IsReached (pointing_store c.args.left.entries) c.args.from.now a)) (sym c.in_ok-work.ensures.items) (covers_none (λ a. contains address_cmp c.new-seen.result a) c.args.left.entries c.args.from.now (λ b. rw c.new-seen.ensures.empty))

pub loop-address-smaller-in-Some-remove : goal.loop-address-smaller-in-Some-remove
loop-address-smaller-in-Some-remove c =
    work_shrinks c.loop-address.left.entries c.remove.new.self.entries c.in-Some.address c.in-Some-remove.pointers c.loop-address.work.items c.extend_from_slice.new.self.items c.pop.new.self.items c.in-Some-remove.ensures.entries c.in-Some-remove.ensures.value c.in-Some.ensures.items (c.in_ok-extend_from_slice.ensures.items ∙ ap (λ (z : List Address). c.pop.new.self.items ++ z) c.as_slice.ensures)

pub loop-address-preserved-in-Some-remove : goal.loop-address-preserved-in-Some-remove
loop-address-preserved-in-Some-remove c =
    let a = c.in-Some.address in
    let m = c.loop-address.left.entries in
    let n = c.remove.new.self.entries in
    let before = subst (λ z. Covers (λ q. contains address_cmp c.loop-address.seen q) m z (λ q. IsReached (pointing_store c.args.left.entries) c.args.from.now q)) c.in-Some.ensures.items c.loop-address.invariant in
    let after = covers_more (λ q. contains address_cmp c.loop-address.seen q) (λ q. contains address_cmp c.insert.new.self q) m n c.pop.new.self.items a (λ q. IsReached (pointing_store c.args.left.entries) c.args.from.now q) c.in_ok-insert.ensures.updates.0 (removed m n a c.in-Some-remove.ensures.updates.0) before in
    let pointers : at m a ≡ c.as_slice.result.now = at_is m a ∙ ap (λ o. found o) (sym c.in-Some-remove.ensures.value) ∙ sym c.as_slice.ensures in
    let items : c.extend_from_slice.new.self.items ≡ c.pop.new.self.items ++ c.as_slice.result.now = c.in_ok-extend_from_slice.ensures.items in
    subst (λ z. Covers (λ q. contains address_cmp c.insert.new.self q) n z (λ q. IsReached (pointing_store c.args.left.entries) c.args.from.now q)) (ap (λ (z : List Address). c.pop.new.self.items ++ z) pointers ∙ sym items) after

pub loop-address-preserved : goal.loop-address-preserved
loop-address-preserved c =
    let a = c.in-Some.address in
    let m = c.loop-address.left.entries in
    let n = c.remove.new.self.entries in
    let before = subst (λ z. Covers (λ q. contains address_cmp c.loop-address.seen q) m z (λ q. IsReached (pointing_store c.args.left.entries) c.args.from.now q)) c.in-Some.ensures.items c.loop-address.invariant in
    let after = covers_more (λ q. contains address_cmp c.loop-address.seen q) (λ q. contains address_cmp c.insert.new.self q) m n c.pop.new.self.items a (λ q. IsReached (pointing_store c.args.left.entries) c.args.from.now q) c.in_ok-insert.ensures.updates.0 (removed m n a c.in_default-remove.ensures.updates.0) before in
    let pointers : at m a ≡ [] = at_is m a ∙ ap (λ o. found o) (sym c.in_default-remove.ensures.value) in
    subst (λ z. Covers (λ q. contains address_cmp c.insert.new.self q) n z (λ q. IsReached (pointing_store c.args.left.entries) c.args.from.now q)) (ap (λ (z : List Address). c.pop.new.self.items ++ z) pointers ∙ append-nil c.pop.new.self.items) after

pub returns : goal.returns
returns c =
    let none : c.loop-address.work.items ≡ [] = grind (arith, common_steps) in
    listed_by_set c.loop-address.seen.keys (λ q. IsReached (pointing_store c.args.left.entries) c.args.from.now q) (covers_all (λ q. contains address_cmp c.loop-address.seen q) c.loop-address.left.entries (λ q. IsReached (pointing_store c.args.left.entries) c.args.from.now q) (subst (λ z. Covers (λ q. contains address_cmp c.loop-address.seen q) c.loop-address.left.entries z (λ q. IsReached (pointing_store c.args.left.entries) c.args.from.now q)) none c.loop-address.invariant))
