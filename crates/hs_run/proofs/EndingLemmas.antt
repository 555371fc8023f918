-- How a script's run ends, wherever it does.
use Rattle.std.proofs.Common.{◌≡◌, ℕ, zero, suc, ◌+◌, ◌-◌, ◌<◌, ◌≤◌, List, [], ◌∷◌, ◌++◌, length, take, drop, true, false, Option, Some, None, Result, refl, sym, ap, subst, ◌∙◌, append_assoc, arith, take-append-drop, length-append, length-take, inl, inr}
use Rattle.std.specs.List.{slice_get}
use Rattle.std.specs.Prelude.{⊤}
use Rattle.std.proofs.lemmas.Bool.{ne_eqb, cases_eq, false≢true, lt-ltb}
use Rattle.std.proofs.lemmas.List.{drop-drop}
use Rattle.hs_ports.specs.Source.{before}
use Rattle.hs_promise.specs.Ends.{HasEnded}
use Rattle.hs_script.specs.declared.read.TheConstants.{LONGEST_LINE}
use Rattle.hs_script.specs.Lines.{before_first, lines_of, line_at}
use Rattle.hs_script.specs.Reading.{reading}
use Rattle.hs_script.specs.Scripts.{IsBad, complete_lines, input_limit, is_bad}
use Rattle.hs_run.specs.declared.stop.Stop.{Stop}
use Rattle.hs_run.specs.Causes.{EndsBy}
use Rattle.hs_run.specs.Lines.{HasNoFeed}
use Rattle.hs_run.specs.Stopping.{status_of}
use Rattle.hs_run.proofs.CaseLemmas.{if_any}
use Rattle.hs_run.proofs.SpendsLemmas.{complete-none, complete-append}

-- ---- lists

-- the next line is the one at this place
pub head_at : {X : Type 0} (xs : List X) (n : ℕ) (x : X) (rest : List X) → drop n xs ≡ x ∷ rest → slice_get xs n ≡ Some x
head_at [] zero x rest e = absurd cc
head_at [] (suc n) x rest e = absurd cc
head_at (y ∷ ys) zero x rest e = cc
head_at (y ∷ ys) (suc n) x rest e = head_at ys n x rest e

-- and behind it are those from the next place on
pub tail_at : {X : Type 0} (xs : List X) (n : ℕ) (x : X) (rest : List X) → drop n xs ≡ x ∷ rest → rest ≡ drop (n + 1) xs
tail_at xs n x rest e = sym (ap (drop 1) e) ∙ drop-drop 1 n xs

-- ---- the bytes that were taken

-- what was read, what is held and what is left are the script
pub taken_is : (script held : List ℕ) (left : Option (List ℕ)) (t : ℕ) → before held left ≡ Some (drop t script) → before (take t script ++ held) left ≡ Some script
taken_is script held None t e = absurd cc
taken_is script held (Some rest) t e =
    let same : held ++ rest ≡ drop t script = cc in
    ap (λ (all : List ℕ). Some all) (append_assoc (take t script) held rest ∙ ap (λ (back : List ℕ). take t script ++ back) same ∙ take-append-drop t script)

-- no line ends in what is held
pub complete_taken : (script held : List ℕ) (t n : ℕ) → complete_lines (take t script) ≡ n → HasNoFeed held 0 (length held) → n ≡ complete_lines (take t script ++ held)
complete_taken script held t n e none = omega (arith, e, complete-append (take t script) held, complete-none held none)

-- how many bytes were taken
pub taken-length : (script held : List ℕ) (t : ℕ) → t ≤ length script → length (take t script ++ held) ≡ t + length held
taken-length script held t le = omega (arith, length-append (take t script) held, length-take t script)

-- ---- a line that is too long

-- a byte in front of the first line, or a first line of its own
led : (b : ℕ) (lines : List (List ℕ)) → (first : List ℕ) × (more : List (List ℕ)) × (before_first b lines ≡ first ∷ more) × (1 ≤ length first)
led b [] = (b ∷ [], [], refl, omega arith)
led b (line ∷ lines) = (b ∷ line, lines, refl, omega arith)

-- the first line has all the bytes up to the first line feed
pub first_line : (held rest : List ℕ) → 0 < length held → HasNoFeed held 0 (length held) → (first : List ℕ) × (more : List (List ℕ)) × (lines_of (held ++ rest) ≡ first ∷ more) × (length held ≤ length first)
unfolding lines_of
first_line [] rest some none = absurd (omega arith)
first_line (b ∷ []) rest some none = rw (ne_eqb b 10 (none 0 (omega arith) (omega arith))) (led b (lines_of rest))
first_line (b ∷ c ∷ bs) rest some none =
    let others : HasNoFeed (c ∷ bs) 0 (length (c ∷ bs)) = λ k low lt. none (suc k) (omega arith) (omega arith) in
    let behind = first_line (c ∷ bs) rest (omega arith) others in
    rw (ne_eqb b 10 (none 0 (omega arith) (omega arith)), behind.2) (b ∷ behind.0, behind.1, refl, omega (arith, behind.3))

-- a line of more than 200,000 bytes is bad
pub too_long : (line : List ℕ) → LONGEST_LINE < length line → is_bad (reading line) ≡ true
unfolding reading
too_long line long = rw (lt-ltb LONGEST_LINE (length line) long) refl

-- ---- the end of a run

-- where a run ends, by what is held and left
pub ends_at : (script held : List ℕ) (left : Option (List ℕ)) (cost line : ℕ) (result : Result ⊤ Stop) → before held left ≡ Some (drop (input_limit - cost) script) → cost ≤ input_limit → input_limit - cost ≤ length script → length held ≤ cost
    → ((k : ℕ) → k ≤ line → IsBad (lines_of script) k → ⊥) → line ≤ length (lines_of script)
    → ((rest : List ℕ) → left ≡ Some rest → length (take (input_limit - cost) script ++ held) ≤ input_limit → HasEnded (status_of result line) (lines_of script) line (take (input_limit - cost) script ++ held) rest) → EndsBy script left result line
ends_at script held left cost line result pending low high few good within cause = record {
  taken = take (input_limit - cost) script ++ held;
  parted = taken_is script held left (input_limit - cost) pending;
  good = good;
  within = within;
  cause = if_any (HasEnded (status_of result line) (lines_of script) line (take (input_limit - cost) script ++ held)) left (λ rest is. cause rest is (omega (arith, taken-length script held (input_limit - cost) high)));
}

-- by another name of the result and of the line
pub ends_as : (script : List ℕ) (left : Option (List ℕ)) (result was : Result ⊤ Stop) (line k : ℕ) → result ≡ was → line ≡ k → EndsBy script left was k → EndsBy script left result line
ends_as script left result was line k same here h = subst (λ (r : Result ⊤ Stop). EndsBy script left r line) (sym same) (subst (λ (n : ℕ). EndsBy script left was n) (sym here) h)

-- the next line, where lines are left
pub next_is : (lines : List (List ℕ)) (n : ℕ) (line : List ℕ) (more : List (List ℕ)) → drop n lines ≡ line ∷ more → line_at lines (n + 1) ≡ Some line
next_is lines n line more e = rw (ne_eqb (n + 1) 0 (λ same. omega arith)) (ap (slice_get lines) (omega arith) ∙ head_at lines n line more e)

-- one good line more
pub good_more : (lines : List (List ℕ)) (n : ℕ) (line : List ℕ) → line_at lines (n + 1) ≡ Some line → is_bad (reading line) ≡ false → ((k : ℕ) → k ≤ n → IsBad lines k → ⊥) → (k : ℕ) → k ≤ n + 1 → IsBad lines k → ⊥
good_more lines n line at good before k le is = elim (cases_eq k (n + 1)) [
  | inl same ↦
      let there : line_at lines (n + 1) ≡ Some is.line = subst (λ (m : ℕ). line_at lines m ≡ Some is.line) same is.at in
      let one : is.line ≡ line = cc in
      absurd (false≢true (sym good ∙ (ap (λ (l : List ℕ). is_bad (reading l)) (sym one) ∙ is.outside)))
  | inr differs ↦ before k (omega arith) is
]

-- ---- there is no line 0

is_not : (l : List ℕ) → None ≡ Some l → ⊥
is_not l e = cc

zero_is : (n : ℕ) → n ≤ 0 → n ≡ 0
zero_is n low = omega (arith, low)

pub none_bad : (lines : List (List ℕ)) (n : ℕ) (l : List ℕ) → n ≤ 0 → line_at lines n ≡ Some l → ⊥
none_bad lines n l low at = is_not l (ap (line_at lines) (sym (zero_is n low)) ∙ at)
