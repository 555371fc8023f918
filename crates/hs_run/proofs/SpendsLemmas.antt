-- How many bytes a line takes, and how many of them end a line.
use Rattle.std.proofs.Common.{◌≡◌, ℕ, suc, ◌+◌, ◌-◌, ◌<◌, ◌≤◌, Bool, true, eqb, cond, List, [], ◌∷◌, ◌++◌, length, take, drop, Option, Some, None, IfSome, refl, sym, ap, ◌∙◌, append_assoc, arith, length-append, length-drop, length-take}
use Rattle.std.specs.Option.{option_map}
use Rattle.std.proofs.lemmas.Bool.{ne_eqb, true≢false}
use Rattle.std.proofs.lemmas.List.Sums.{sum_by-append}
use Rattle.std.proofs.lemmas.List.{append-nil, get_or-drop, drop_at}
use Rattle.std.proofs.Math.Seq.{drop-length, take-append-add}
use Rattle.hs_ports.specs.Source.{before, IsEnded}
use Rattle.hs_script.specs.Lines.{lines_of}
use Rattle.hs_script.specs.Scripts.{complete_lines}
use Rattle.hs_run.specs.Lines.{HasNoFeed, IsFeedAt}
use Rattle.hs_run.specs.Reader.{Spends}
use Rattle.hs_run.proofs.LinesLemmas.{no_feed, parted}

-- ---- complete lines

-- no line ends in bytes without a line feed
pub complete-none : (bytes : List ℕ) → HasNoFeed bytes 0 (length bytes) → complete_lines bytes ≡ 0
complete-none [] none = refl
complete-none (b ∷ bs) none =
    let others : HasNoFeed bs 0 (length bs) = λ k low lt. none (suc k) (omega arith) (omega arith) in
    rw (ne_eqb b 10 (none 0 (omega arith) (omega arith))) (complete-none bs others)

-- those of two parts
pub complete-append : (a b : List ℕ) → complete_lines (a ++ b) ≡ complete_lines a + complete_lines b
complete-append a b = sum_by-append (λ x. cond (eqb x 10) 1 0) a b

-- ---- a line and its line feed

module _ (line rest : List ℕ) (none : HasNoFeed line 0 (length line)) where
  skipped : drop (length line + 1) (line ++ 10 ∷ rest) ≡ rest
  skipped = ap (drop (length line + 1)) (sym (append_assoc line (10 ∷ []) rest)) ∙ drop_at (line ++ 10 ∷ []) rest (length line + 1) (length-append line (10 ∷ []))

  one_line : complete_lines (take (length line + 1) (line ++ 10 ∷ rest)) ≡ 1
  one_line = ap complete_lines (take-append-add line (10 ∷ rest) 1) ∙ complete-append line (10 ∷ []) ∙ omega (arith, complete-none line none)

  enough : length line + 1 ≤ length (line ++ 10 ∷ rest)
  enough = omega (arith, length-append line (10 ∷ rest))

-- ---- what the reader spends

-- a line with its line feed, in front of the bytes
with_feed : (ended : Bool) (line rest : List ℕ) (cost cost' count : ℕ) → HasNoFeed line 0 (length line) → count ≡ length line + 1 → cost' + count ≡ cost → Spends ended (Some (line ++ 10 ∷ rest)) (Some rest) cost cost' count
with_feed ended line rest cost cost' count none e spent = rw e (record {
  moved = ap (λ (r : List ℕ). Some r) (sym (skipped line rest none));
  spent = rw (← e) spent;
  within = enough line rest none;
  one = λ h. one_line line rest none;
})

-- the next line is held
pub spends_held : (ended : Bool) (bytes : List ℕ) (from at : ℕ) (left : Option (List ℕ)) (cost cost' count : ℕ) → IsFeedAt bytes from at → count + from ≡ at + 1 → cost' + count ≡ cost
    → Spends ended (before (drop from bytes) left) (before (drop (at + 1) bytes) left) cost cost' count
spends_held ended bytes from at None cost cost' count found e spent = record { moved = refl; spent = spent; within = tt; one = λ h. tt }
spends_held ended bytes from at (Some rest) cost cost' count found e spent =
    let line = take (at - from) (drop from bytes) in
    let long : length line ≡ at - from = omega (arith, length-take (at - from) (drop from bytes), length-drop from bytes, found.within, found.from_on) in
    let whole : drop from bytes ++ rest ≡ line ++ 10 ∷ (drop (at + 1) bytes ++ rest) = ap (λ (b : List ℕ). b ++ rest) (parted bytes from at found) ∙ append_assoc line (10 ∷ drop (at + 1) bytes) rest in
    rw whole (with_feed ended line (drop (at + 1) bytes ++ rest) cost cost' count (no_feed bytes from at found) (omega (arith, long, found.from_on)) spent)

-- the last line, with nothing behind it
pub spends_last : (bytes : List ℕ) (left : Option (List ℕ)) (cost cost' count : ℕ) → IsEnded left → count ≡ length bytes → cost' + count ≡ cost
    → Spends true (before bytes left) (before (drop (length bytes) bytes) left) cost cost' count
spends_last bytes None cost cost' count ended e spent = record { moved = refl; spent = spent; within = tt; one = λ h. absurd (true≢false h) }
spends_last bytes (Some rest) cost cost' count ended e spent = record {
  moved = ap (λ (r : List ℕ). Some r) (rw (ended, e) (append-nil (drop (length bytes) bytes) ∙ ap (drop (length bytes)) (sym (append-nil bytes))));
  spent = spent;
  within = omega (arith, length-append bytes rest);
  one = λ h. absurd (true≢false h);
}

-- and nothing is pending behind it
pub nothing_pending : (bytes : List ℕ) (left : Option (List ℕ)) → IsEnded left → IfSome (before (drop (length bytes) bytes) left) (λ all. all ≡ [])
nothing_pending bytes None ended = tt
nothing_pending bytes (Some rest) ended = rw (ended, drop-length bytes) refl

-- where nothing is pending there is no line
pub no_lines : (pending : Option (List ℕ)) → IfSome pending (λ all. all ≡ []) → option_map lines_of pending ≡ option_map (λ lines. []) (option_map lines_of pending)
unfolding lines_of
no_lines None nothing = refl
no_lines (Some all) nothing = rw nothing refl

-- no line feed is held
pub none_held : (bytes : List ℕ) (from : ℕ) → HasNoFeed bytes from (length bytes) → HasNoFeed (drop from bytes) 0 (length (drop from bytes))
none_held bytes from none k low lt =
    let far : from + k < length bytes = omega (arith, length-drop from bytes) in
    λ same. none (from + k) (omega arith) far (sym (get_or-drop from bytes k 0) ∙ same)
