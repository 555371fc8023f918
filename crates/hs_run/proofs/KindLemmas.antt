-- Lines that are bad.
use Rattle.std.proofs.Common.{◌≡◌, ◌∙◌, ap, subst, Option, Some, None, Ok, true, false, refl}
use Rattle.std.proofs.lemmas.Bool.{true≢false}
use Rattle.hs_events.specs.Commands.{is_served}
use Rattle.hs_model.specs.declared.command.Command.{Command}
use Rattle.hs_model.specs.declared.command.Command.TheVariants as command
use Rattle.hs_script.specs.Answer.{IsFaultOf, Reads}
use Rattle.hs_script.specs.declared.fault.ScriptFault.{ScriptFault}
use Rattle.hs_script.specs.declared.fault.ScriptFault.TheVariants as fault
use Rattle.hs_script.specs.Reading.{Reading, bad, blank, says}
use Rattle.hs_script.specs.Scripts.{is_bad, is_unserved}

-- one that is outside the language
pub bad_said : (said : Reading) → said ≡ bad → is_bad said ≡ true
bad_said said is = ap is_bad is

unserved : (c : Command) → is_served c ≡ false → is_unserved c ≡ true
unserved (command.Client o) h = absurd (true≢false h)
unserved command.Settle h = absurd (true≢false h)
unserved (command.Turn peer) h = absurd (true≢false h)
unserved (command.Nudge peer) h = absurd (true≢false h)
unserved (command.Deliver message) h = absurd (true≢false h)
unserved (command.Lose message) h = absurd (true≢false h)
unserved (command.Repeat message) h = absurd (true≢false h)
unserved (command.Fail peer) h = absurd (true≢false h)
unserved (command.Start peer) h = absurd (true≢false h)
unserved (command.Reclaim peer) h = refl

-- and one that is not served
pub unserved_bad : (said : Reading) (c : Command) → said ≡ says c → is_served c ≡ false → is_bad said ≡ true
unserved_bad said c is h = ap is_bad is ∙ unserved c h

-- ---- what was read of a line

pub read_bad : (f : ScriptFault) (said : Reading) → f ≡ fault.BadLine → IsFaultOf f said → said ≡ bad
read_bad f said is h = subst (λ (f : ScriptFault). IsFaultOf f said) is h

pub read_none : (read : Option Command) (said : Reading) → read ≡ None → Reads (Ok read) said → said ≡ blank
read_none read said is h = subst (λ (o : Option Command). Reads (Ok o) said) is h

pub read_some : (read : Option Command) (said : Reading) (c : Command) → read ≡ Some c → Reads (Ok read) said → said ≡ says c
read_some read said c is h = subst (λ (o : Option Command). Reads (Ok o) said) is h
