use Rattle.std.proofs.Common.{◌≡◌, ◌∙◌, Some, sym, true, false}
use Rattle.std.proofs.lemmas.Result.{on_ok_weaker}
use Rattle.hs_awaiting.specs.Indexing.{found_in}
use Rattle.hs_awaiting.specs.Views.{is_within}
use Rattle.hs_awaiting.proofs.RestartLemmas.{again_none, again_stays, again_waits}
use Rattle.hs_awaiting.proofs.table.Table.restart_one.Goals as goal

pub returns-in_default-clause-map : goal.returns-in_default-clause-map
returns-in_default-clause-map c = again_none c.args.line c.args.last c.args.self.now.map.entries (sym c.in_default.ensures.value)

pub returns-then-is_within-clause-map : goal.returns-then-is_within-clause-map
returns-then-is_within-clause-map c =
    let w = c.in-Some.waiting.now in
    let es = c.args.self.now.map.entries in
    let found : found_in es c.args.line ≡ Some w = sym c.in-Some.ensures.value in
    let within : is_within c.args.last w.wait ≡ true = sym c.is_within.ensures ∙ c.if-is_within.true in
    again_stays c.args.line c.args.last es w found within

pub returns-clause-map : goal.returns-clause-map
returns-clause-map c =
    let w = c.in-Some.waiting.now in
    let es = c.args.self.now.map.entries in
    let found : found_in es c.args.line ≡ Some w = sym c.in-Some.ensures.value in
    let beyond : is_within c.args.last w.wait ≡ false = sym c.is_within.ensures ∙ c.if-is_within.false in
    on_ok_weaker c.set_wait.result (λ made. made ∙ again_waits c.args.line c.args.last es w found beyond) c.set_wait.ensures.map
