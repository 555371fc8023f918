use Rattle.std.proofs.Common.{◌∙◌, refl}
use Rattle.hs_load.specs.Judged.{IsMismatch}
use Rattle.hs_load.proofs.JudgeLemmas.{differs_so, some_of}
use Rattle.hs_load.proofs.judgement.judge.Goals as goal

pub returns-in-Some-2 : goal.returns-in-Some-2
returns-in-Some-2 c = λ load start book sessions has.
    differs_so load.writers start c.args.joined.now book c.entries-journal.result.now c.as_slice-kept.result.now c.args.joined.now.peers.stored.items c.wants_memory.result c.as_slice.result.now c.torn_job.result _ has c.wants_memory.ensures c.if-wants_memory.false c.torn_job.ensures.none c.in_default.is c.as_slice.ensures.value c.in_default-apart.is c.in_default-ended.is
    (c.entries-journal.ensures ∙ c.journal.ensures) c.as_slice-kept.ensures.value refl
    (some_of (λ d. IsMismatch load.writers c.entries-journal.result.now c.as_slice-kept.result.now c.args.joined.now.peers.stored.items (record { session = d.session; place = d.place; said = d.told.value; had = d.kept.value }))
    c.in_ok-difference.field-0 c.in-Some-2.difference c.in-Some-2.is (c.in_ok-difference.ensures.some load.writers c.args.joined.now.peers.stored.items sessions))

pub returns-in-Some-3 : goal.returns-in-Some-3
returns-in-Some-3 c = λ load start book sessions has.
    differs_so load.writers start c.args.joined.now book c.entries-journal.result.now c.as_slice-kept.result.now c.args.joined.now.peers.stored.items c.wants_memory.result c.as_slice.result.now c.torn_job.result _ has c.wants_memory.ensures c.if-wants_memory.false c.torn_job.ensures.none c.in_default.is c.as_slice.ensures.value c.in_default-apart.is c.in_default-ended.is
    (c.entries-journal.ensures ∙ c.journal.ensures) c.as_slice-kept.ensures.value refl
    (some_of (λ d. IsMismatch load.writers c.entries-journal.result.now c.as_slice-kept.result.now c.args.joined.now.peers.stored.items (record { session = d.session; place = d.place; said = d.told.value; had = d.kept.value }))
    c.in_ok-difference-2.field-0 c.in-Some-3.difference c.in-Some-3.is (c.in_ok-difference-2.ensures.some load.writers c.entries-journal.result.now c.args.joined.now.peers.stored.items))

pub returns-in-Some-4 : goal.returns-in-Some-4
returns-in-Some-4 c = λ load start book sessions has.
    differs_so load.writers start c.args.joined.now book c.entries-journal.result.now c.as_slice-kept.result.now c.as_slice-2.result.now c.wants_memory.result c.as_slice.result.now c.torn_job.result _ has c.wants_memory.ensures c.if-wants_memory.false c.torn_job.ensures.none c.in_default.is c.as_slice.ensures.value c.in_default-apart.is c.in_default-ended.is
    (c.entries-journal.ensures ∙ c.journal.ensures) c.as_slice-kept.ensures.value c.as_slice-2.ensures.value
    (some_of (λ d. IsMismatch load.writers c.entries-journal.result.now c.as_slice-kept.result.now c.as_slice-2.result.now (record { session = d.session; place = d.place; said = d.told.value; had = d.kept.value }))
    c.in_ok-difference-3.field-0 c.in-Some-4.difference c.in-Some-4.is (c.in_ok-difference-3.ensures.some load.writers c.entries-journal.result.now c.as_slice-kept.result.now))
