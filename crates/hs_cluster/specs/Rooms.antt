-- That a core which goes on has no more root records than it takes.
use Rattle.std.specs.Prelude.{None, [], ⊤, ◌≡◌, ◌∷◌}
use Rattle.hs_core_words.specs.Records.{HasRecordRoom}
use Rattle.hs_core_words.specs.State.{Core}
use Rattle.hs_core_words.specs.Step.{step}
use Rattle.hs_events.specs.Due.{Events}

-- each core that goes on behind one of some events
abbrev pub HaveRecordRoom : Core → Events → Type 0
HaveRecordRoom core [] = ⊤
HaveRecordRoom core (e ∷ es) = ((step e.0 e.1 core).ended ≡ None → HasRecordRoom (step e.0 e.1 core)) × HaveRecordRoom (step e.0 e.1 core) es
