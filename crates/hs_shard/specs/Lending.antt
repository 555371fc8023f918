-- What a catalogue is once the pointers that it lent are gone.
use Rattle.std.specs.Prelude.{◌≡◌, ⊤}
use Rattle.std.specs.Borrow.{Fml, MutBor, follows_so}
use mathlib.Core.Option.{none}
use Rattle.hs_shard.specs.contracts.catalogue.Catalogue.{the_row}
use Rattle.hs_shard.specs.Facts.{Catalogue}

-- what it was before
abbrev pub StaysAsItWas : MutBor Catalogue → Fml
StaysAsItWas c = follows_so the_row the_row c.ghost_name none (λ _ _. ⊤) (λ last. last ≡ c.now)
