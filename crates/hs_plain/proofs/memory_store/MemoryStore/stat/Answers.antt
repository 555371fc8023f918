use Rattle.std.proofs.Common.{◌≡◌, ◌∙◌, ap, arith, List, length}
use Rattle.std.proofs.lemmas.Grind.{common_steps}
use Rattle.hs_limits.specs.declared.address.Address.{Address}
use Rattle.hs_model.specs.declared.store.StoredBlock.{StoredBlock}
use Rattle.hs_model.specs.declared.reply.Reply.TheVariants as reply
use Rattle.hs_model.proofs.JudgeLemmas.{judge_counted}
use Rattle.hs_plain.proofs.memory_store.MemoryStore.stat.Goals as goal

pub returns-clause-reply : goal.returns-clause-reply
returns-clause-reply c = λ limits.
    let sessions : c.in-Ok.sessions ≡ length c.self.inside.sessions.entries = grind (arith, common_steps) in
    let blocks : c.len-2.result ≡ length c.self.inside.blocks.entries = c.len-2.ensures.len ∙ ap (λ (z : List (Address × StoredBlock)). length z) c.as_map.ensures in
    let epochs = c.from_vec.ensures ∙ c.in_ok-from_slice.ensures.items ∙ c.as_slice.ensures.value in
    let swept = c.from_vec-2.ensures ∙ c.in_ok-from_slice-2.ensures.items ∙ c.as_slice-2.ensures.value in
    rw (judge_counted limits c.args.self.now) (rw (← c.self.view_is) (λ i. reply.Stat (blocks i) (c.retained_count.ensures i) (sessions i) (epochs i) (swept i)))

pub returns-clause-deed : goal.returns-clause-deed
returns-clause-deed c = λ limits. rw (judge_counted limits c.args.self.now)

pub returns-clause-same : goal.returns-clause-same
returns-clause-same c = λ limits. rw (judge_counted limits c.args.self.now)
