use Rattle.std.proofs.Common.{ap, sym, ◌∙◌}
use Rattle.std.specs.Option.{option_map}
use Rattle.hs_shard.specs.Facts.{facts_in, pointers_at}
use Rattle.hs_shard.proofs.KeptLemmas.{pointers_by_address, pointers_unknown}
use Rattle.hs_shard.proofs.blocks.Blocks.pointers.Goals as goal

pub returns-in-Some : goal.returns-in-Some
returns-in-Some c =
    c.pointers_of.ensures
    ∙ ap (λ bs. option_map (λ f. f.pointers) (facts_in c.in-Some.address.now bs)) (sym c.self.view_is)
    ∙ pointers_by_address c.self.inside.known.entries c.self.inside.numbers.entries c.self.inside.listed c.args.number c.in-Some.address.now c.self.invariant (sym c.in-Some.ensures.value)
    ∙ ap (λ bs. pointers_at c.args.number bs) c.self.view_is

pub returns-in-None : goal.returns-in-None
returns-in-None c =
    sym (pointers_unknown c.self.inside.known.entries c.self.inside.numbers.entries c.self.inside.listed c.args.number c.self.invariant (sym c.in-None.ensures.value))
    ∙ ap (λ bs. pointers_at c.args.number bs) c.self.view_is
