use Rattle.std.proofs.Common.{◌∙◌, ap}
use Rattle.hs_tokens.specs.Seats.{Seating, seat_of}
use Rattle.hs_tokens.proofs.SeatLemmas.{entry_is}
use Rattle.hs_tokens.proofs.sessions.Sessions.entry.Goals as goal

pub returns : goal.returns
returns c =
    entry_is (λ k. k.now) (λ s. s.now) c.args.name.now c.args.self.now.seats c.get_key_value.result c.get_key_value.ensures.same_key
    (c.get_key_value.ensures.value ∙ ap (λ (z : Seating). seat_of c.args.name.now z.seats) c.self.view_is)
