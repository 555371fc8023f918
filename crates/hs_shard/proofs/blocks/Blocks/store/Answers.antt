use Rattle.std.proofs.Common.{◌≡◌, ◌<◌, length, None, refl, sym, subst, arith}
use Rattle.hs_limits.specs.Limits.{greatest_limits}
use Rattle.hs_shard.specs.Clients.{new_facts}
use Rattle.hs_shard.specs.Facts.{facts_in, pointers_at}
use Rattle.hs_shard.specs.Listed.{AreKept, address_of}
use Rattle.hs_shard.proofs.KeptLemmas.{kept_alike, kept_stored, listed_nowhere, number_is_new}
use Rattle.hs_shard.proofs.blocks.Blocks.store.Goals as goal

pub relist-requires : goal.relist-requires
relist-requires c =
    let none : facts_in c.args.address c.self.inside.known.entries ≡ None = subst (λ bs. facts_in c.args.address bs ≡ None) (sym c.self.view_is) c.requires.absent in
    listed_nowhere c.self.inside.known.entries c.self.inside.listed c.args.address c.self.invariant.lists none

pub insert_both-requires : goal.insert_both-requires
insert_both-requires c =
    let unused : pointers_at c.args.number c.self.inside.known.entries ≡ None = subst (λ bs. pointers_at c.args.number bs ≡ None) (sym c.self.view_is) c.requires.number in
    number_is_new c.self.inside.known.entries c.self.inside.numbers.entries c.args.number c.self.invariant.numbered unused

pub invariant_of-self-in-Ok : goal.invariant_of-self-in-Ok
invariant_of-self-in-Ok c =
    let none : facts_in c.args.address c.self.inside.known.entries ≡ None = subst (λ bs. facts_in c.args.address bs ≡ None) (sym c.self.view_is) c.requires.absent in
    let unused : pointers_at c.args.number c.self.inside.known.entries ≡ None = subst (λ bs. pointers_at c.args.number bs ≡ None) (sym c.self.view_is) c.requires.number in
    let free : address_of c.args.number c.self.inside.numbers.entries ≡ None = number_is_new c.self.inside.known.entries c.self.inside.numbers.entries c.args.number c.self.invariant.numbered unused in
    kept_stored c.args.address (new_facts c.args.number c.args.epoch c.args.pointers) c.self.inside.known.entries c.insert_both.new.known.entries c.self.inside.numbers.entries c.insert_both.new.numbers.entries c.self.inside.listed c.relist.new.self
    c.self.invariant none free refl c.in-Ok.ensures.found c.in-Ok.ensures.counted c.in_ok-relist.ensures.ok
    (omega (arith, c.in-Ok.ensures.more, subst (λ bs. length bs < greatest_limits.blocks) (sym c.self.view_is) c.requires.room)) c.in-Ok.ensures.ordered

pub invariant_of-self-in-Err : goal.invariant_of-self-in-Err
invariant_of-self-in-Err c =
    let none : facts_in c.args.address c.self.inside.known.entries ≡ None = subst (λ bs. facts_in c.args.address bs ≡ None) (sym c.self.view_is) c.requires.absent in
    subst (λ es. AreKept es c.insert_both.new.numbers.entries c.unlist.new.self) (sym c.in-Err.ensures.same_known)
    (kept_alike c.args.address c.self.inside.known.entries c.self.inside.numbers.entries c.insert_both.new.numbers.entries c.self.inside.listed c.relist.new.self c.unlist.new.self
    c.self.invariant none c.in-Err.ensures.same_numbers c.in_ok-relist.ensures.ok c.unlist.ensures)
