-- What the definitions give for scripts of the rules: a block that is given again in a run, and one that is not.
use Rattle.std.proofs.Common.{◌≡◌, ℕ, true, false, [], ◌∷◌, map, replicate, Some, None, refl}
use Rattle.hs_limits.specs.declared.address.Address.{Address}
use Rattle.hs_marks.specs.Marks.{MarkList, mark_of, give, forget_mark, is_kept_in}

abbrev a : ℕ → Address
a byte = record { 0 = replicate 32 byte }

-- write a 61 in epoch 1: the mark counts in epochs 1 and 2
abbrev once : MarkList
once = give (a 4) 1 []

kept : map (λ epoch. is_kept_in epoch (mark_of (a 4) once)) (0 ∷ 1 ∷ 2 ∷ 3 ∷ []) ≡ true ∷ true ∷ true ∷ false ∷ []
kept = refl

-- written again in epoch 3, it has the mark 3
again : map (λ epoch. is_kept_in epoch (mark_of (a 4) (give (a 4) 3 once))) (3 ∷ 4 ∷ 5 ∷ []) ≡ true ∷ true ∷ false ∷ []
again = refl

-- the mark is that of the last epoch, and of its own address
marks : mark_of (a 4) (give (a 4) 2 (give (a 4) 3 once)) ∷ mark_of (a 5) (give (a 4) 3 once) ∷ mark_of (a 4) (forget_mark (a 4) once) ∷ [] ≡ Some 2 ∷ None ∷ None ∷ []
marks = refl
