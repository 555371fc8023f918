use Rattle.std.proofs.Common.{◌≡◌, ◌∙◌, ap, ap₂, sym, ◌-◌, ℕ}
use Rattle.hs_awaiting.specs.Words.{times}
use Rattle.hs_core_words.specs.Effects.{commit_next}
use Rattle.hs_core_words.specs.Looking.{front_of, group_of}
use Rattle.hs_core_words.specs.State.{Core}
use Rattle.hs_core.proofs.CommitLemmas.{commit_still, times_still}
use Rattle.hs_core.proofs.effects.commit.Goals as goal
use Rattle.hs_replica.specs.Group.{commit_front}

-- the rounds that are left change nothing
pub returns-then-not-more-clause-ok : goal.returns-then-not-more-clause-ok
returns-then-not-more-clause-ok c =
    let shard = c.args.shard in
    let old : Core = c.args.core.now in
    let here : Core = c.loop-turn.core in
    let due : ℕ = c.saturating_sub-due.result in
    let still : commit_next shard here ≡ here = commit_still shard here (sym c.in_ok-more.ensures.more ∙ c.if-not-more.true) in
    let all : due ≡ commit_front (group_of shard old) - front_of shard old = c.saturating_sub-due.ensures ∙ ap₂ (λ (top low : ℕ). top - low) (c.commit_front.ensures ∙ ap commit_front c.group.ensures) c.front-front.ensures in
    c.in_ok-more.ensures.ok ∙ still ∙ sym (times_still (commit_next shard) here still (due - c.loop-turn._turn)) ∙ c.loop-turn.invariant.done
    ∙ ap (λ n. times n (commit_next shard) old) all
