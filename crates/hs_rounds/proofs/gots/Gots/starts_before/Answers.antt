use Rattle.std.proofs.Common.{sym, ◌∙◌, subst}
use Rattle.std.specs.BTreeMap.Range.{IsLeBy}
use Rattle.std.specs.Map.{keys_of}
use Rattle.std.specs.Prelude.{All}
use Rattle.hs_rounds.specs.Rounds.{GotList, place_cmp}
use Rattle.hs_rounds.proofs.PlaceLemmas.{none_before}
use Rattle.hs_rounds.proofs.gots.Gots.starts_before.Goals as goal

pub returns-in-Some-clause-none : goal.returns-in-Some-clause-none
returns-in-Some-clause-none c after =
    let P : GotList → Type 0 = λ gots. All (IsLeBy place_cmp c.in-Some.first.now) (keys_of gots) in
    none_before c.args.epoch c.args.round c.in-Some.first.now c.args.self.now (subst P c.self.view_is c.in-Some.ensures.all_from) (sym c.is_before.ensures ∙ after)
