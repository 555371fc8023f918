-- What a core has told so far, as deeds.
use Rattle.std.specs.Prelude.{◌≡◌, ℕ, true, List, [], map, Option, IsSome, is_some}
use Rattle.hs_core_words.specs.State.{Core}
use Rattle.hs_deeds.specs.Bare.{bare_store}
use Rattle.hs_deeds.specs.Told.{store_after}
use Rattle.hs_journal.specs.Deeds.{as_deed}
use Rattle.hs_journal.specs.Events.{client_op}
use Rattle.hs_limits.specs.declared.limits.Limits.{Limits}
use Rattle.hs_model.specs.declared.command.Command.{Command}
use Rattle.hs_model.specs.Deeds.{AreDeeds, DeedEntry}
use Rattle.hs_model.specs.Store.{Store}
use Rattle.hs_standing.specs.Telling.{told_so_far}

abbrev pub deeds_of : Core → List DeedEntry
deeds_of core = map as_deed (told_so_far core)

-- they are deeds from a store on, and leave the store of the core without data
pub record HasTold (limits : Limits) (start : Store) (core : Core) : Type 0 where
  pub deeds : AreDeeds limits start [] (deeds_of core)
  pub left : store_after start (deeds_of core) ≡ bare_store core

-- each line that has a command is a client's
abbrev pub AreClients : (ℕ → Option Command) → Type 0
AreClients commands = (n : ℕ) → IsSome (commands n) → is_some (client_op (commands n)) ≡ true
