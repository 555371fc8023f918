-- Kinds of replies. No public clause cites these.
use Rattle.std.specs.Prelude.{ℕ, Bool, true, false, List, [], ◌∷◌, codes}
use Rattle.hs_model.specs.declared.reply.Reply.{Reply}
use Rattle.hs_model.specs.declared.reply.Reply.TheVariants as reply

-- a reply without data, and not that of a write which was done
abbrev pub is_short : Reply → Bool
is_short (reply.Bytes bytes handles) = false
is_short (reply.New handle epoch) = false
is_short (reply.Dup handle epoch) = false
is_short other = true

-- the dash that stands for no data
abbrev pub dash_of : List ℕ → List ℕ
dash_of [] = codes "-"
dash_of (b ∷ bs) = []
