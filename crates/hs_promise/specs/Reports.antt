-- That each report tells what its peer's disk has.
use Rattle.std.specs.Prelude.{IfSome, Some, [], take, ⊤, ◌∷◌}
use Rattle.hs_core_words.specs.declared.event.Event.{Event}
use Rattle.hs_events.specs.Asked.{report_in}
use Rattle.hs_events.specs.Due.{Events}
use Rattle.hs_events.specs.Reports.{TellsOf}
use Rattle.hs_events.specs.Whole.{Whole, floor, reach, step_whole}

-- what an event reports of a block is so of what its peer has sealed of its list by then, which a later stop leaves while the peer is good
abbrev pub TellsItsList : Whole → Event → Type 0
TellsItsList c e = IfSome (report_in e) (λ report. TellsOf report.1 (Some (take (floor c report.0) (reach c report.0))))

-- so does each of some
abbrev pub TellTheirLists : Whole → Events → Type 0
TellTheirLists c [] = ⊤
TellTheirLists c (e ∷ es) = TellsItsList c e.0 × TellTheirLists (step_whole e.0 e.1 c) es
