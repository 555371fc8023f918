use Rattle.std.proofs.Common.{◌-◌, slice_index, subst, Contains}
use Rattle.std.proofs.lemmas.List.Elements.{Contains-get_or}
use Rattle.hs_peerlog.proofs.read.place_of.Goals as goal

pub returns-clause-inside : goal.returns-clause-inside
returns-clause-inside c =
    subst (λ ps. Contains ps (slice_index c.places-places.result.now (c.args.number - 1))) c.places-places.ensures
    (Contains-get_or c.places-places.result.now (c.args.number - 1) 0 c.if-number-places.false)
