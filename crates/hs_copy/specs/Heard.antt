-- Operations that were asked for and answered, one after another.
use Rattle.std.specs.Prelude.{◌≡◌, List, [], ◌∷◌, ◌++◌, map}
use Rattle.hs_asking.specs.Shown.{Shown}
use Rattle.hs_model.specs.declared.op.Op.{Op}
use Rattle.hs_model.specs.declared.reply.Reply.{Reply}
use Rattle.hs_tree.specs.Calls.{Hears}

-- each was asked for behind the answer to the one before it, and answered with this
abbrev pub AreHeard : {tells : Type 0} → Shown tells → Shown tells → List (Op × Reply) → Type 0
AreHeard old new [] = new ≡ old
AreHeard {tells} old new (h ∷ hs) = (mid : Shown tells) × Hears old mid h.0 h.1 × AreHeard mid new hs

-- what was asked for
abbrev pub ops_of : List (Op × Reply) → List Op
ops_of hs = map (λ (h : Op × Reply). h.0) hs

-- several rows of them, one behind another
abbrev pub joined : List (List (Op × Reply)) → List (Op × Reply)
joined [] = []
joined (hs ∷ rows) = hs ++ joined rows
