use Rattle.std.proofs.Common.{◌≡◌, ◌∙◌, sym, subst, ℕ, ◌+◌, ◌-◌, ◌<◌, arith, inl, inr, get_or}
use Rattle.std.proofs.lemmas.Bool.{cases_eq}
use Rattle.hs_rounds.proofs.ChangeLemmas.{Below, ascend_by_steps, no_delta}
use Rattle.hs_rounds.proofs.changes.ascend.Goals as goal

pub loop-index-preserved : goal.loop-index-preserved
loop-index-preserved c k h =
    let ds = c.args.deltas.now in
    let index = c.loop-index.index in
    let here : Below (get_or ds (index - 1) no_delta).address (get_or ds index no_delta).address = sym c.cmp.ensures ∙ c.in-Less.is in
    elim (cases_eq (k + 1) index) [
      | inl e ↦
          let before : k ≡ index - 1 = omega (arith, e) in
          let second : Below (get_or ds (index - 1) no_delta).address (get_or ds (k + 1) no_delta).address =
          subst (λ (j : ℕ). Below (get_or ds (index - 1) no_delta).address (get_or ds j no_delta).address) (sym e) here in
          subst (λ (i : ℕ). Below (get_or ds i no_delta).address (get_or ds (k + 1) no_delta).address) (sym before) second
      | inr d ↦ c.loop-index.invariant k (omega (arith, h, d))
    ]

pub returns-clause-only : goal.returns-clause-only
returns-clause-only c h = ascend_by_steps c.args.deltas.now no_delta (λ k less. c.loop-index.invariant k (omega (arith, less, c.loop-index-test.false)))
