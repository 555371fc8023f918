-- Command lines, and what they ask for; `delete` lines and complete lines.
use Rattle.std.specs.Prelude.{◌≡◌, refl, ℕ, List, [], ◌∷◌, Some, None, codes}
use Rattle.hs_limits.specs.Limits.{greatest_limits}
use Rattle.hs_script.specs.Lines.{lines_of}
use Rattle.hs_script.specs.Parts.{number_below}
use Rattle.hs_script.specs.Scripts.{complete_lines, delete_count}
use Rattle.hs_script.specs.CommandLine.{Wanted, invocation_of, task_of, wanted, wanted_of}

-- `script d 2 3` and some options
abbrev words : List (List ℕ) → List (List ℕ)
words options = codes "script" ∷ codes "d" ∷ codes "2" ∷ codes "3" ∷ options

abbrev whole : Wanted
whole = record { shape = record { shards = 2; copies = 3 }; limits = greatest_limits }

no_option_is_needed : wanted (words []) ≡ Some whole
unfolding wanted invocation_of task_of number_below
no_option_is_needed = refl

an_option_lowers_its_limit : wanted (words (codes "--pool" ∷ codes "16" ∷ codes "--ops" ∷ codes "9" ∷ []))
    ≡ Some (record whole { limits = record greatest_limits { pool = 16; ops = 9 } })
unfolding wanted invocation_of task_of number_below
an_option_lowers_its_limit = refl

a_pool_of_15_is_refused : wanted (words (codes "--pool" ∷ codes "15" ∷ [])) ≡ None
unfolding wanted invocation_of task_of number_below
a_pool_of_15_is_refused = refl

no_option_is_given_twice : wanted (words (codes "--ops" ∷ codes "9" ∷ codes "--ops" ∷ codes "9" ∷ [])) ≡ None
unfolding wanted invocation_of task_of number_below
no_option_is_given_twice = refl

an_option_has_a_value : wanted (words (codes "--ops" ∷ [])) ≡ None
unfolding wanted invocation_of task_of number_below
an_option_has_a_value = refl

three_shards_are_refused : wanted (codes "script" ∷ codes "d" ∷ codes "3" ∷ codes "1" ∷ []) ≡ None
unfolding wanted invocation_of task_of number_below
three_shards_are_refused = refl

five_copies_are_refused : wanted (codes "script" ∷ codes "d" ∷ codes "1" ∷ codes "5" ∷ []) ≡ None
unfolding wanted invocation_of task_of number_below
five_copies_are_refused = refl

-- there is a disk for each peer
six_disks_are_asked_for : wanted_of (words []) 5 ≡ None
unfolding wanted invocation_of task_of number_below
six_disks_are_asked_for = refl

-- of a script of three lines, the last of them without its line feed, two are complete, and one is `delete`
abbrev script : List ℕ
script = codes "stat\ndelete\nsettle"

two_are_complete : complete_lines script ≡ 2
two_are_complete = refl

one_is_delete : delete_count (lines_of script) ≡ 1
unfolding lines_of
one_is_delete = refl
