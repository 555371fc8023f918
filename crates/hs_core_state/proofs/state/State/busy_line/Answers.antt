use Rattle.hs_core_state.proofs.state.State.busy_line.Goals as goal

pub returns-in_ok-line_of-in-Some : goal.returns-in_ok-line_of-in-Some
returns-in_ok-line_of-in-Some c = rw (← c.self.view_is) (rw (← c.in-Some.ensures) c.in_ok-line_of-in-Some.ensures)
