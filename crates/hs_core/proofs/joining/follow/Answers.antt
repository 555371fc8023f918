use Rattle.std.proofs.Common.{◌≡◌, ◌∙◌, sym, ap, refl, arith, ◌+◌, ◌-◌, ◌<◌, ◌≤◌}
use Rattle.std.proofs.lemmas.Grind.{common_steps}
use Rattle.std.specs.List.{range_with_len}
use Rattle.hs_awaiting.specs.Words.{change_if, each}
use Rattle.hs_core_words.specs.Changing.{change_rejoin}
use Rattle.hs_core_words.specs.Looking.{status_of}
use Rattle.hs_core_words.specs.State.{Core}
use Rattle.hs_limits.specs.Shape.{peer_of}
use Rattle.hs_members.specs.Members.{is_joining, peers_of, status}
use Rattle.hs_rejoin.specs.Rejoin.{follow}
use Rattle.hs_core.proofs.JoinLemmas.{each_filter, range_from}
use Rattle.hs_core.proofs.KeptLemmas.{kept_then}
use Rattle.hs_core_state.proofs.RangeLemmas.{each_range_end, each_range_next}
use Rattle.hs_core.proofs.joining.follow.Goals as goal

pub loop-peer-preserved : goal.loop-peer-preserved
loop-peer-preserved c =
    let old : Core = c.args.core.now in
    let here : Core = c.loop-peer.core in
    let lead = c.args.lead in
    let peer = c.loop-peer.peer in
    let last = c.peer_of-first.result + c.shape-shape.result.copies in
    let less : peer < last = grind (arith, common_steps) in
    let same : is_joining (status_of peer here) ≡ is_joining (status_of peer old) = ap (λ m. is_joining (status peer m)) c.loop-peer.invariant.members in
    record {
      members = c.follow_if_joining.ensures.members ∙ c.loop-peer.invariant.members;
      kept = kept_then old here _ c.loop-peer.invariant.kept c.follow_if_joining.ensures.kept;
      told = ap (λ x. each (range_with_len (peer + 1) (last - (peer + 1))) (λ p. change_if (is_joining (status_of p old)) (change_rejoin p (follow lead))) x)
          (c.follow_if_joining.ensures.ok ∙ ap (λ b. change_if b (change_rejoin peer (follow lead)) here) same)
          ∙ sym (each_range_next (λ p. change_if (is_joining (status_of p old)) (change_rejoin p (follow lead))) peer last here less)
          ∙ c.loop-peer.invariant.told;
    }

pub returns-clause-ok : goal.returns-clause-ok
returns-clause-ok c =
    let old : Core = c.args.core.now in
    let here : Core = c.loop-peer.core in
    let lead = c.args.lead in
    let shape = old.members.shape in
    let first = c.peer_of-first.result in
    let peer = c.loop-peer.peer in
    let last = first + c.shape-shape.result.copies in
    let done : last ≤ peer = grind (arith, common_steps) in
    let at : first ≡ peer_of shape c.args.shard 0 = grind (arith, common_steps) in
    let count : c.shape-shape.result.copies ≡ shape.copies = grind (arith, common_steps) in
    let all : range_with_len first (last - first) ≡ peers_of shape c.args.shard = range_from first c.shape-shape.result.copies ∙ rw (at, count) refl in
    sym (each_range_end (λ p. change_if (is_joining (status_of p old)) (change_rejoin p (follow lead))) peer last here done)
    ∙ c.loop-peer.invariant.told
    ∙ ap (λ ps. each ps (λ p. change_if (is_joining (status_of p old)) (change_rejoin p (follow lead))) old) all
    ∙ sym (each_filter (λ p. is_joining (status_of p old)) (λ p. change_rejoin p (follow lead)) (peers_of shape c.args.shard) old)
