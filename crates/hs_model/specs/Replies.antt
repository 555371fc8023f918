-- Kinds of replies.
use Rattle.std.specs.Prelude.{Bool, true, false}
use Rattle.hs_model.specs.declared.reply.Reply.{Reply}
use Rattle.hs_model.specs.declared.reply.Reply.TheVariants as reply

-- neither an answer nor a note that stands beside the answers
abbrev pub is_refusal : Reply → Bool
is_refusal reply.Ok = false
is_refusal (reply.New handle epoch) = false
is_refusal (reply.Dup handle epoch) = false
is_refusal (reply.Bytes bytes handles) = false
is_refusal (reply.Held handle epoch) = false
is_refusal (reply.Name address) = false
is_refusal (reply.Stat blocks roots sessions epochs swept) = false
is_refusal (reply.Run epoch) = false
is_refusal (reply.Enter epoch) = false
is_refusal (reply.Sweep epoch removed) = false
is_refusal (reply.Done epoch) = false
is_refusal (reply.Down peer line) = false
is_refusal (reply.Visits epoch count) = false
is_refusal refusal = true

-- what is printed behind a line's number: all but what is told after a dash
abbrev pub is_of_line : Reply → Bool
is_of_line (reply.Enter epoch) = false
is_of_line (reply.Sweep epoch removed) = false
is_of_line (reply.Done epoch) = false
is_of_line (reply.Down peer line) = false
is_of_line (reply.Visits epoch count) = false
is_of_line other = true
