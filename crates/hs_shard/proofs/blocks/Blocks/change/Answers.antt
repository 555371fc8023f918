use Rattle.std.proofs.Common.{cond, refl, sym, ap, subst, ◌∙◌, Some}
use Rattle.std.specs.BTreeMap.{is_at}
use Rattle.hs_model.specs.Store.{address_cmp}
use Rattle.hs_shard.specs.declared.facts.Facts.{Facts}
use Rattle.hs_shard.specs.Listed.{AreKept, goes_in, has}
use Rattle.hs_shard.proofs.KeptLemmas.{Lists, kept_changed, listed_at}
use Rattle.hs_shard.proofs.blocks.Blocks.change.Goals as goal

pub relist-requires : goal.relist-requires
relist-requires c =
    λ k q t. listed_at c.self.inside.known.entries c.self.inside.listed c.args.address.now (Some c.in-Some.facts.now) c.self.invariant.lists (sym c.in-Some.ensures.value) k q t
    ∙ ap (λ kind. goes_in k kind) (sym c.kind_as-from.ensures)

pub invariant_of-self-2 : goal.invariant_of-self-2
invariant_of-self-2 c =
    let change : Facts → Facts = λ f. record f { counted = c.args.counted; zero = c.args.zero; count = c.args.count } in
    let lists : Lists c.self.inside.listed c.relist.new.self c.args.address.now (Some (change c.in-Some.facts.now)) =
    λ k q. c.in_ok-relist.ensures.ok k q ∙ ap (λ kind. cond (is_at (address_cmp c.args.address.now) q) (goes_in k kind) (has k q c.self.inside.listed)) c.kind_as-to.ensures in
    subst (λ es. AreKept es c.self.inside.numbers.entries c.relist.new.self) (sym c.write.ensures)
    (kept_changed c.args.address.now c.in-Some.facts.now change c.self.inside.known.entries c.self.inside.numbers.entries c.self.inside.listed c.relist.new.self c.self.invariant
    (sym c.in-Some.ensures.value) refl c.requires lists)
