use Rattle.std.proofs.Common.{◌∙◌, sym, ap, Some}
use Rattle.std.proofs.lemmas.Result.{on_err_weaker}
use Rattle.hs_tokens.proofs.SeatLemmas.{same_seat}
use Rattle.hs_tokens.proofs.sessions.Sessions.hold.Goals as goal

pub returns-then-held-limit-clause-same : goal.returns-then-held-limit-clause-same
returns-then-held-limit-clause-same c =
    (c.get_mut.follows.holds c.in-Some.seat.now).0
    ∙ same_seat c.args.name.now c.self.inside.seats.entries c.in-Some.seat.now (sym c.in-Some.ensures.value)
    ∙ ap (λ z. z.seats) c.self.view_is

pub returns-clause-same : goal.returns-clause-same
returns-clause-same c =
    on_err_weaker c.hold.result (λ same.
    (c.get_mut.follows.holds c.hold.new.self).0
    ∙ same_seat c.args.name.now c.self.inside.seats.entries c.hold.new.self (sym c.in-Some.ensures.value ∙ ap (λ seat. Some seat) (sym same))
    ∙ ap (λ z. z.seats) c.self.view_is)
    c.hold.ensures.same
