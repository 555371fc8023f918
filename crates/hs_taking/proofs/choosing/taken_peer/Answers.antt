use Rattle.std.proofs.Common.{◌∙◌, ◌+◌, ap, arith, sym}
use Rattle.std.specs.Prelude.{unwrap_or}
use Rattle.hs_limits.specs.Shape.{peer_of}
use Rattle.hs_taking.proofs.ChoiceLemmas.{choice_is, part_is}
use Rattle.hs_taking.proofs.choosing.taken_peer.Goals as goal

pub returns-in-Some-clause-value : goal.returns-in-Some-clause-value
returns-in-Some-clause-value c =
    let chosen = choice_is _ _ c.choose.result c.choose.ensures.value (part_is c.args.ranks.now c.from-from.result (c.from-from.result + c.from.result) (peer_of c.args.shape c.args.shard 0) c.args.shape.copies (omega arith) (omega arith)) in
    c.peer_of.ensures ∙ ap (λ o. peer_of c.args.shape c.args.shard (unwrap_or o 0)) (sym (chosen ∙ c.in-Some.is))

pub returns-in-None-clause-value : goal.returns-in-None-clause-value
returns-in-None-clause-value c =
    let chosen = choice_is _ _ c.choose.result c.choose.ensures.value (part_is c.args.ranks.now c.from-from.result (c.from-from.result + c.from.result) (peer_of c.args.shape c.args.shard 0) c.args.shape.copies (omega arith) (omega arith)) in
    c.peer_of-first.ensures ∙ ap (λ o. peer_of c.args.shape c.args.shard (unwrap_or o 0)) (sym (chosen ∙ c.in-None.is))
