use Rattle.std.proofs.Common.{◌≡◌, ◌∙◌, List, map, subst, sym, ap, arith}
use Rattle.std.proofs.lemmas.Grind.{common_steps}
use Rattle.hs_limits.specs.declared.address.Address.{Address}
use Rattle.hs_model.specs.declared.plain.PlainBlock.{PlainBlock}
use Rattle.hs_model.specs.Listed.{IsListOf}
use Rattle.hs_model.specs.Plain.{plain_of, entry_of}
use Rattle.hs_model.specs.Pointing.{pointing_store, pointers_in}
use Rattle.hs_model.specs.Reach.{IsReached}
use Rattle.hs_model.proofs.PointingLemmas.{reached_by_pointing}
use Rattle.hs_model.proofs.slow.reaching.reached.Goals as goal

pub returns-clause-exact : goal.returns-clause-exact
returns-clause-exact c =
    let keys : c.from_vec.result ≡ c.in_ok-seen.seen.keys = grind (arith, common_steps) in
    let left = c.in_ok-left.ensures ∙ ap (λ (z : List PlainBlock). pointers_in (map entry_of z)) c.as_slice.ensures in
    reached_by_pointing (plain_of c.args.store.now) c.args.anchors.now c.in_ok-left.left.entries c.from_vec.result left (subst (λ (z : List Address). IsListOf z (IsReached (pointing_store c.in_ok-left.left.entries) c.args.anchors.now)) (sym keys) c.in_ok-seen.ensures)
