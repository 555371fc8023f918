-- One line more of a script is read.
use Rattle.std.proofs.Common.{◌≡◌, ℕ, ◌+◌, ◌-◌, ◌≤◌, Bool, true, false, List, [], ◌∷◌, length, take, drop, Option, Some, refl, sym, ap, ◌∙◌, arith, length-drop, ◌==◌, if◌then◌else◌}
use Rattle.std.specs.Option.{option_map}
use Rattle.std.proofs.lemmas.List.{drop-drop, drop_all}
use Rattle.hs_ports.specs.Source.{before}
use Rattle.hs_script.specs.Lines.{before_first, lines_of, line_at}
use Rattle.hs_script.specs.Reading.{reading}
use Rattle.hs_script.specs.Scripts.{IsBad, complete_lines, input_limit, is_bad}
use Rattle.hs_run.specs.Reader.{Spends}
use Rattle.hs_run.specs.Reading.{IsReadThrough}
use Rattle.hs_run.proofs.EndingLemmas.{tail_at, next_is, good_more}
use Rattle.hs_run.proofs.SpendsLemmas.{complete-append}
use Rattle.hs_run.proofs.TellingLemmas.{take-add}

-- ---- what is left of the script

some_lines : (lines : List (List ℕ)) → Some lines ≡ Some [] → lines ≡ []
some_lines lines e = cc

-- bytes without a line are none
no_bytes : (bytes : List ℕ) → lines_of bytes ≡ [] → bytes ≡ []
unfolding lines_of
no_bytes [] e = refl
no_bytes (b ∷ bs) e = absurd (go (b == 10) e)
  where
    led : (lines : List (List ℕ)) → before_first b lines ≡ [] → ⊥
    led [] k = cc
    led (line ∷ lines) k = cc

    go : (here : Bool) → (if here then [] ∷ lines_of bs else before_first b (lines_of bs)) ≡ [] → ⊥
    go true k = cc
    go false k = led (lines_of bs) k

-- what an advance leaves: the line that is next, and what is pending behind it
pub record Advanced (script : List ℕ) (pending : Option (List ℕ)) (cost : ℕ) (ended : Bool) (n : ℕ) (line : List ℕ) : Type 0 where
  pub left : pending ≡ Some (drop (input_limit - cost) script)
  pub low : cost ≤ input_limit
  pub high : input_limit - cost ≤ length script
  pub lines : lines_of (drop (input_limit - cost) script) ≡ drop (n + 1) (lines_of script)
  pub complete : ended ≡ false → complete_lines (take (input_limit - cost) script) ≡ n + 1
  pub at : line_at (lines_of script) (n + 1) ≡ Some line
  pub within : n + 1 ≤ length (lines_of script)

module _ (script : List ℕ) (n : ℕ) (pending pending' : Option (List ℕ)) (cost cost' count : ℕ) (ended ended' : Bool)
    (served : IsReadThrough script pending cost ended n) (spends : Spends ended' pending pending' cost cost' count) where
  -- how much of the script is behind
  behind : input_limit - cost' ≡ (input_limit - cost) + count
  behind = omega (arith, served.low, spends.spent)

  -- what is pending of the script
  pub left_more : pending' ≡ Some (drop (input_limit - cost') script)
  left_more =
      let skipped : drop count (drop (input_limit - cost) script) ≡ drop (input_limit - cost') script = drop-drop count (input_limit - cost) script ∙ ap (λ (k : ℕ). drop k script) (sym behind) in
      spends.moved ∙ rw served.left (ap (λ (all : List ℕ). Some all) skipped)

  pub low_more : cost' ≤ input_limit
  low_more = omega (arith, served.low, spends.spent)

  pub high_more : input_limit - cost' ≤ length script
  high_more =
      let enough : count ≤ length (drop (input_limit - cost) script) = rw served.left at spends.within in
      omega (arith, behind, served.high, length-drop (input_limit - cost) script)

  -- the next line
  pub advanced : (line : List ℕ) → option_map lines_of pending ≡ option_map (λ lines. line ∷ lines) (option_map lines_of pending') → (ended' ≡ false → ended ≡ false) → Advanced script pending' cost' ended' n line
  advanced line read stays =
      let told : Some (lines_of (drop (input_limit - cost) script)) ≡ Some (line ∷ lines_of (drop (input_limit - cost') script)) = rw (served.left, left_more) at read in
      let first : drop n (lines_of script) ≡ line ∷ lines_of (drop (input_limit - cost') script) = sym served.lines ∙ cc in
      record {
        left = left_more;
        low = low_more;
        high = high_more;
        lines = tail_at (lines_of script) n line _ first;
        complete = λ h. completed h (stays h);
        at = next_is (lines_of script) n line _ first;
        within = omega (arith, length-drop n (lines_of script), ap length first);
      }
    where
      completed : ended' ≡ false → ended ≡ false → complete_lines (take (input_limit - cost') script) ≡ n + 1
      completed h h' =
          let one : complete_lines (take count (drop (input_limit - cost) script)) ≡ 1 = rw served.left at (spends.one h) in
          let parts : complete_lines (take (input_limit - cost') script) ≡ complete_lines (take (input_limit - cost) script) + complete_lines (take count (drop (input_limit - cost) script)) =
          ap (λ (k : ℕ). complete_lines (take k script)) behind ∙ ap complete_lines (take-add (input_limit - cost) count script) ∙ complete-append (take (input_limit - cost) script) (take count (drop (input_limit - cost) script)) in
          omega (arith, parts, one, served.complete h')

  -- no line is left
  pub none_left : option_map lines_of pending ≡ option_map (λ lines. []) (option_map lines_of pending') → n ≡ length (lines_of script)
  none_left read =
      let told : Some (lines_of (drop (input_limit - cost) script)) ≡ Some [] = rw (served.left, left_more) at read in
      let nothing : drop n (lines_of script) ≡ [] = sym served.lines ∙ cc in
      omega (arith, served.within, length-drop n (lines_of script), ap length nothing)

  -- nor any byte
  pub nothing_left : option_map lines_of pending ≡ option_map (λ lines. []) (option_map lines_of pending') → pending' ≡ Some []
  nothing_left read =
      let told : Some (lines_of (drop (input_limit - cost) script)) ≡ Some [] = rw (served.left, left_more) at read in
      let none : drop (input_limit - cost) script ≡ [] = no_bytes (drop (input_limit - cost) script) (some_lines (lines_of (drop (input_limit - cost) script)) told) in
      spends.moved ∙ ap (option_map (λ all. drop count all)) (served.left ∙ ap (λ (all : List ℕ). Some all) none) ∙ ap (λ (all : List ℕ). Some all) (drop_all count [] (omega arith))

-- one more line is read
pub served_more : (script : List ℕ) (n n' : ℕ) (pending' : Option (List ℕ)) (cost' : ℕ) (ended' : Bool) (line : List ℕ) → ((k : ℕ) → k ≤ n → IsBad (lines_of script) k → ⊥) → Advanced script pending' cost' ended' n line → is_bad (reading line) ≡ false → n' ≡ n + 1
    → IsReadThrough script pending' cost' ended' n'
served_more script n n' pending' cost' ended' line before next good begun = rw begun (record {
  left = next.left;
  low = next.low;
  high = next.high;
  lines = next.lines;
  complete = next.complete;
  within = next.within;
  good = good_more (lines_of script) n line next.at good before;
})
