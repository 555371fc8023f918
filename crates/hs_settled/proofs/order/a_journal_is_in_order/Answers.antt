use Rattle.std.proofs.Common.{◌≡◌, sym, subst, Option, Some, None}
use Rattle.hs_settled.proofs.order.a_journal_is_in_order.Goals as goal
use Rattle.hs_settled.proofs.OrderLemmas.{in_order, nothing_in_order}
use Rattle.hs_settled.proofs.CausesRunLemmas.{last_kept}
use Rattle.hs_journal.specs.Events.{client_op}
use Rattle.hs_journal.specs.Order.{IsOrdered}
use Rattle.hs_promise.specs.Machine.{WentAs}
use Rattle.hs_promise.specs.Run.{Ran, Script}
use Rattle.hs_promise.specs.Story.{Story, last_core}

ordered_of : (S : Script) (r : Ran) (how : Option Story) → client_op (S.commands 0) ≡ None → WentAs S r how → IsOrdered S.commands r.journal
ordered_of S r None nobody never = nothing_in_order S.commands r.journal never.journal
ordered_of S r (Some story) nobody went =
    subst (λ es. IsOrdered S.commands es) (sym went.journal)
    (in_order S.commands nobody (last_core S story).journal (last_kept S r story went).turn.journal)

pub returns : goal.returns
returns c = λ S r how nobody went. ordered_of S r how nobody went
