-- What the program says of a line that is not in the script language.
use Rattle.std.specs.Prelude.{ℕ, List, [], Option, Some, None, codes}
use Rattle.hs_mistakes.specs.declared.bad_line.BadCause.{BadCause}
use Rattle.hs_mistakes.specs.declared.bad_line.BadCause.TheVariants as bad

-- the line on standard error, where a cause is known
abbrev pub cause_text : Option BadCause → List ℕ
cause_text None = []
cause_text (Some bad.Long) = codes "hydra: the line has more than 200000 bytes\n"
cause_text (Some bad.Return) = codes "hydra: the line ends with a carriage return\n"
cause_text (Some bad.Space) = codes "hydra: the line has a space too many\n"
cause_text (Some bad.Verb) = codes "hydra: the line begins with no verb of a script\n"
cause_text (Some bad.LaterVerb) = codes "hydra: the verb of the line is not served yet\n"
cause_text (Some bad.FewWords) = codes "hydra: the line has a word too few\n"
cause_text (Some bad.ManyWords) = codes "hydra: the line has a word too many\n"
cause_text (Some bad.Session) = codes "hydra: the session is not 1 to 16 of a-z 0-9\n"
cause_text (Some bad.Key) = codes "hydra: the key is not 1 to 64 of a-z 0-9 . _ -\n"
cause_text (Some bad.Handle) = codes "hydra: the handle is not h and a number\n"
cause_text (Some bad.Peer) = codes "hydra: the peer is not a number below 256\n"
cause_text (Some bad.Message) = codes "hydra: the message is not a number below 2^64\n"
cause_text (Some bad.Digit) = codes "hydra: the data have a byte that is no hexadecimal digit\n"
cause_text (Some bad.OddDigits) = codes "hydra: the data have an odd number of digits\n"
