-- Events one after another.
use Rattle.std.proofs.Common.{◌≡◌, ◌∙◌, ap, sym, [], ◌∷◌, ◌++◌, refl}
use Rattle.std.proofs.lemmas.List.{append_assoc}
use Rattle.hs_events.specs.Course.{event_items, items_of, steps}
use Rattle.hs_events.specs.Due.{Events}
use Rattle.hs_core_words.specs.State.{Core}
use Rattle.hs_core_words.specs.Step.{step}

pub steps_append : (core : Core) (es fs : Events) → steps core (es ++ fs) ≡ steps (steps core es) fs
steps_append core [] fs = refl
steps_append core (e ∷ es) fs = steps_append (step e.0 e.1 core) es fs

pub items_append : (core : Core) (es fs : Events) → items_of core (es ++ fs) ≡ items_of core es ++ items_of (steps core es) fs
items_append core [] fs = refl
items_append core (e ∷ es) fs =
    ap (λ xs. event_items core e ++ xs) (items_append (step e.0 e.1 core) es fs)
    ∙ sym (append_assoc (event_items core e) (items_of (step e.0 e.1 core) es) (items_of (steps (step e.0 e.1 core) es) fs))
