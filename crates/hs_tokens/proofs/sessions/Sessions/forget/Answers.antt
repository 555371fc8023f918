use Rattle.std.proofs.Common.{◌∙◌, sym, ap, Some}
use Rattle.std.proofs.lemmas.Result.{on_err_weaker}
use Rattle.hs_tokens.proofs.SeatLemmas.{same_seat}
use Rattle.hs_tokens.proofs.sessions.Sessions.forget.Goals as goal

pub returns-clause-same : goal.returns-clause-same
returns-clause-same c =
    on_err_weaker c.forget.result (λ same.
    (c.get_mut.follows.holds c.forget.new.self).0
    ∙ same_seat c.args.name.now c.self.inside.seats.entries c.forget.new.self (sym c.in-Some.ensures.value ∙ ap (λ seat. Some seat) (sym same))
    ∙ ap (λ z. z.seats) c.self.view_is)
    c.forget.ensures.same
