-- Whether a write is taken.
use Rattle.std.specs.Prelude.{◌≡◌, ℕ, List, Option, Some, None, map}
use Rattle.hs_plain.specs.declared.memory_store.write.Checked.{Checked}
use Rattle.hs_plain.specs.declared.memory_store.write.Checked.TheVariants as checked
use Rattle.hs_model.specs.declared.reply.Reply.{Reply}
use Rattle.hs_model.specs.Judge.{address_of}
use Rattle.hs_model.specs.Store.{Store}

-- it is refused for its first refusal, and else the addresses are those of its handles
abbrev pub IsChecked : Store → List ℕ → List ℕ → Option Reply → Checked → Type 0
IsChecked s name handles refusal (checked.Refused found) = refusal ≡ Some found
IsChecked s name handles refusal (checked.Taken pointers) = (refusal ≡ None) × (pointers ≡ map (λ handle. address_of s name handle) handles)
