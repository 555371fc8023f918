-- Deletions behind each second write, over a new beginning, and none where none is asked for.
use Rattle.std.proofs.Common.{◌≡◌, ℕ, true, false, [], ◌∷◌, Option, None, Some, refl}
use Rattle.hs_copy.specs.Due.{AreDue, Count}
use Rattle.hs_model.specs.declared.op.Op.{Op}
use Rattle.hs_model.specs.declared.op.Op.TheVariants as op
use Rattle.hs_model.specs.declared.reply.Reply.{Reply}
use Rattle.hs_model.specs.declared.reply.Reply.TheVariants as reply
use Rattle.hs_tree.specs.Storing.{our_session}

abbrev write : Op
write = op.Write our_session [] [] None

abbrev done : Op × Reply
done = (write, reply.New 0 0)

abbrev stale : Op × Reply
stale = (write, reply.Stale 0 0 2)

abbrev forgot : Op × Reply
forgot = (op.Forget our_session 0, reply.Ok)

abbrev deleted : Op × Reply
deleted = (op.Delete, reply.Running 1)

abbrev from_begin : Option ℕ → Count
from_begin every = record { every = every; since = 0; asked = 0 }

-- a deletion that was refused counts too
second_writes : AreDue (from_begin (Some 2)) (done ∷ done ∷ deleted ∷ done ∷ done ∷ deleted ∷ done ∷ [])
second_writes = (refl, (refl, (refl, (refl, (refl, (refl, (refl, tt)))))))

-- a write that was refused doesn't count, and what was counted stays over a new beginning
over_a_beginning : AreDue (from_begin (Some 2)) (done ∷ stale ∷ forgot ∷ done ∷ deleted ∷ [])
over_a_beginning = (refl, (refl, (refl, (refl, (refl, tt)))))

too_early : AreDue (from_begin (Some 2)) (done ∷ deleted ∷ []) → ⊥
too_early h = let wrong : true ≡ false = h.1.0 in cc wrong

left_out : AreDue (from_begin (Some 2)) (done ∷ done ∷ done ∷ []) → ⊥
left_out h = let wrong : false ≡ true = h.1.1.0 in cc wrong

none_asked_for : AreDue (from_begin None) (done ∷ done ∷ deleted ∷ []) → ⊥
none_asked_for h = let wrong : true ≡ false = h.1.1.0 in cc wrong

-- four are the most
after_four : AreDue (record { every = Some 1; since = 0; asked = 4 }) (done ∷ done ∷ [])
after_four = (refl, (refl, tt))
