use Rattle.std.proofs.Common.{◌≡◌, ◌∙◌, ap, arith, ◌<◌, length}
use Rattle.std.proofs.lemmas.Grind.{common_steps}
use Rattle.hs_limits.specs.declared.limits.PeerStatus.TheVariants.{Down, Good}
use Rattle.hs_members.specs.Members.{become, status}
use Rattle.hs_core_state.proofs.StatusLemmas.{good_by_joining}
use Rattle.hs_core_state.proofs.statuses.become_good.Goals.{then-eq-2+in_ok-start, else-eq-2}
use Rattle.hs_core_state.proofs.statuses.become_good.Goals as goal

pub returns-clause-ok : goal.returns-clause-ok
returns-clause-ok c =
    let m = c.args.members.now in
    let peer = c.args.peer in
    let long : peer < length m.statuses = grind (arith, common_steps) in
    elim c.if-eq-2.branch [
      | then-eq-2+in_ok-start w ↦
          let down : status peer m ≡ Down = grind (arith, common_steps) in
          c.join.ensures ∙ ap (become peer Good) (w.members-is ∙ w.in_ok-start.ensures.ok) ∙ good_by_joining peer m long down
      | else-eq-2 w ↦ c.join.ensures ∙ ap (become peer Good) w.members-is
    ]
