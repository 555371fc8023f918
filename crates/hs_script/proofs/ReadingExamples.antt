-- Lines of a script, computed: what each verb says, and where a bound is met and passed.
use Rattle.std.proofs.Common.{◌≡◌, ℕ, ◌<◌, List, [], ◌∷◌, length, Some, None, refl, arith}
use Rattle.std.specs.Prelude.{codes, replicate}
use Rattle.std.proofs.lemmas.Bool.Decides.{nat_tests}
use Rattle.hs_model.specs.declared.command.Command.TheVariants as command
use Rattle.hs_model.specs.declared.op.Op.TheVariants as op
use Rattle.hex.proofs.OnLiterals.{hex_on_literals}
use Rattle.hs_script.specs.Lines.{words_of}
use Rattle.hs_script.specs.Parts.{number_below, handle_of, handles_of, key_of, name_of}
use Rattle.hs_script.specs.Reading.{bad, blank, says, reading, line_of, driving_line}

-- what an example computes with
unfoldable computing : Unit {0}
unfolding reading words_of line_of driving_line handles_of number_below hex_on_literals
computing = tt

-- ---- what a client asks

an_open : reading (codes "open a") ≡ says (command.Client (op.Open (codes "a")))
unfolding computing
an_open = refl

a_close : reading (codes "close a") ≡ says (command.Client (op.Close (codes "a")))
unfolding computing
a_close = refl

a_write : reading (codes "write b7 6A6b") ≡ says (command.Client (op.Write (codes "b7") (106 ∷ 107 ∷ []) [] None))
unfolding computing
a_write = refl

a_write_of_nothing : reading (codes "write a -") ≡ says (command.Client (op.Write (codes "a") [] [] None))
unfolding computing
a_write_of_nothing = refl

a_write_with_handles : reading (codes "write a 61 h1 h0 h1") ≡ says (command.Client (op.Write (codes "a") (97 ∷ []) (1 ∷ 0 ∷ 1 ∷ []) None))
unfolding computing
a_write_with_handles = refl

a_read : reading (codes "read a h10") ≡ says (command.Client (op.Read (codes "a") 10))
unfolding computing
a_read = refl

a_look : reading (codes "look a k.1_-") ≡ says (command.Client (op.Look (codes "a") (codes "k.1_-")))
unfolding computing
a_look = refl

a_root : reading (codes "root a k h0") ≡ says (command.Client (op.Root (codes "a") (codes "k") 0))
unfolding computing
a_root = refl

a_drop : reading (codes "drop k") ≡ says (command.Client (op.Drop (codes "k")))
unfolding computing
a_drop = refl

a_forget : reading (codes "forget a h2") ≡ says (command.Client (op.Forget (codes "a") 2))
unfolding computing
a_forget = refl

a_name : reading (codes "name a h2") ≡ says (command.Client (op.Name (codes "a") 2))
unfolding computing
a_name = refl

a_delete : reading (codes "delete") ≡ says (command.Client (op.Delete))
unfolding computing
a_delete = refl

a_stat : reading (codes "stat") ≡ says (command.Client (op.Stat))
unfolding computing
a_stat = refl

-- ---- what drives the store

a_settle : reading (codes "settle") ≡ says (command.Settle)
unfolding computing
a_settle = refl

a_turn : reading (codes "turn 0") ≡ says (command.Turn 0)
unfolding computing
a_turn = refl

a_nudge : reading (codes "nudge 255") ≡ says (command.Nudge 255)
unfolding computing
a_nudge = refl

a_deliver : reading (codes "deliver 0") ≡ says (command.Deliver 0)
unfolding computing
a_deliver = refl

a_lose : reading (codes "lose 18446744073709551615") ≡ says (command.Lose 18446744073709551615)
unfolding computing
a_lose = refl

a_repeat : reading (codes "repeat 12") ≡ says (command.Repeat 12)
unfolding computing
a_repeat = refl

a_fail : reading (codes "fail 1") ≡ says (command.Fail 1)
unfolding computing
a_fail = refl

a_start : reading (codes "start 1") ≡ says (command.Start 1)
unfolding computing
a_start = refl

a_reclaim : reading (codes "reclaim 1") ≡ says (command.Reclaim 1)
unfolding computing
a_reclaim = refl

-- ---- what says nothing

an_empty_line : reading [] ≡ blank
unfolding computing
an_empty_line = refl

a_comment : reading (codes "# open a") ≡ blank
unfolding computing
a_comment = refl

-- ---- what is outside

no_verb : reading (codes "opens a") ≡ bad
unfolding computing
no_verb = refl

an_upper_verb : reading (codes "Open a") ≡ bad
unfolding computing
an_upper_verb = refl

a_verb_alone : reading (codes "open") ≡ bad
unfolding computing
a_verb_alone = refl

a_word_too_many : reading (codes "open a b") ≡ bad
unfolding computing
a_word_too_many = refl

two_spaces : reading (codes "open  a") ≡ bad
unfolding computing
two_spaces = refl

a_space_behind : reading (codes "stat ") ≡ bad
unfolding computing
a_space_behind = refl

a_space_before : reading (codes " stat") ≡ bad
unfolding computing
a_space_before = refl

an_upper_name : reading (codes "open A") ≡ bad
unfolding computing
an_upper_name = refl

an_upper_key : reading (codes "drop K") ≡ bad
unfolding computing
an_upper_key = refl

half_a_byte : reading (codes "write a 616") ≡ bad
unfolding computing
half_a_byte = refl

no_digit : reading (codes "write a 6g") ≡ bad
unfolding computing
no_digit = refl

no_data : reading (codes "write a") ≡ bad
unfolding computing
no_data = refl

data_for_a_handle : reading (codes "write a 61 62") ≡ bad
unfolding computing
data_for_a_handle = refl

a_number_for_a_handle : reading (codes "read a 0") ≡ bad
unfolding computing
a_number_for_a_handle = refl

a_leading_zero : reading (codes "read a h01") ≡ bad
unfolding computing
a_leading_zero = refl

a_sign : reading (codes "turn +1") ≡ bad
unfolding computing
a_sign = refl

a_peer_above : reading (codes "turn 256") ≡ bad
unfolding computing
a_peer_above = refl

a_message_above : reading (codes "lose 18446744073709551616") ≡ bad
unfolding computing
a_message_above = refl

-- ---- bounds, met and passed

a_greatest_handle : handle_of (codes "h4294967295") ≡ Some 4294967295
unfolding computing
a_greatest_handle = refl

a_handle_above : handle_of (codes "h4294967296") ≡ None
unfolding computing
a_handle_above = refl

a_longest_name : name_of (replicate 16 97) ≡ Some (replicate 16 97)
unfolding computing
a_longest_name = refl

a_name_above : name_of (replicate 17 97) ≡ None
unfolding computing
a_name_above = refl

a_longest_key : key_of (replicate 64 107) ≡ Some (replicate 64 107)
unfolding computing
a_longest_key = refl

a_key_above : key_of (replicate 65 107) ≡ None
unfolding computing
a_key_above = refl

-- a line of more than 200,000 bytes, whatever it says
a_line_above : (line : List ℕ) → 200000 < length line → reading line ≡ bad
unfolding reading
a_line_above line long = grind (arith, nat_tests)
