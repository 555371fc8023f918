-- A line of nobody's has no event.
use Rattle.std.proofs.Common.{◌≡◌, refl, List, None, ℕ}
use Rattle.hs_journal.specs.Events.{line_event}
use Rattle.hs_limits.specs.declared.address.Address.{Address}
use Rattle.hs_model.specs.Store.{Store}
use Rattle.hs_model.specs.declared.reply.Reply.{Reply}
use Rattle.hs_model.specs.declared.reply.Reply.TheVariants as reply

pub none_asked : (name : List ℕ → Address) (s : Store) (told : Reply) → line_event name s None told ≡ None
none_asked name s (reply.Busy line) = refl
none_asked name s other = refl
