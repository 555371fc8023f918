use Rattle.hs_clauses.proofs.kept.a_run_keeps.Goals as goal
use Rattle.hs_clauses.proofs.KeptLemmas.{PlainLaws, keeps_along}
use Rattle.hs_laws.specs.Valid.{IsValid}
use Rattle.hs_model.specs.Store.{Store}
use Rattle.hs_promise.specs.Entry.{entry_store}
use Rattle.std.proofs.Common.{subst, sym}

pub returns-clause-along : goal.returns-clause-along
returns-clause-along c = λ S entry r valid answers.
    let laws : PlainLaws = record { valid = c.legal_runs_keep_all.ensures.kept; rooted = c.what_is_kept_is_present.ensures.rooted; held = c.what_is_kept_is_present.ensures.held } in
    keeps_along laws S entry r valid answers

pub returns-clause-run : goal.returns-clause-run
returns-clause-run c = λ S r run sound.
    let laws : PlainLaws = record { valid = c.legal_runs_keep_all.ensures.kept; rooted = c.what_is_kept_is_present.ensures.rooted; held = c.what_is_kept_is_present.ensures.held } in
    keeps_along laws S (entry_store S r) r (c.a_run_is_answered.ensures.valid S r sound) (c.a_run_is_answered.ensures.answers S r run sound)

pub returns-clause-soundly : goal.returns-clause-soundly
returns-clause-soundly c = λ S r story run.
    let laws : PlainLaws = record { valid = c.legal_runs_keep_all.ensures.kept; rooted = c.what_is_kept_is_present.ensures.rooted; held = c.what_is_kept_is_present.ensures.held } in
    let valid : IsValid (entry_store S r) = subst (λ (s : Store). IsValid s) (sym run.begins.entry) run.begins.soundly.sound.sound.valid in
    keeps_along laws S (entry_store S r) r valid (c.a_run_is_answered.ensures.soundly S r story run)
