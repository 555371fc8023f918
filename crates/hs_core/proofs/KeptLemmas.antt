-- What stays of a core, step by step.
use Rattle.std.proofs.Common.{◌∙◌}
use Rattle.hs_core_state.specs.Keeping.{KeepsCore}
use Rattle.hs_core_words.specs.State.{Core}

pub kept_then : (a b c : Core) → KeepsCore a b → KeepsCore b c → KeepsCore a c
kept_then a b c x y = record {
  journal = y.journal ∙ x.journal;
  limits = y.limits ∙ x.limits;
  moment = y.moment ∙ x.moment;
  last_line = y.last_line ∙ x.last_line;
  event_line = y.event_line ∙ x.event_line;
  refused = y.refused ∙ x.refused;
  shape = y.shape ∙ x.shape;
}
