-- Lines that were read, and what they say.
use Rattle.std.proofs.Common.{◌≡◌, ◌⊎◌, inl, inr, ◌∙◌, ap, ℕ, zero, suc, ◌+◌, ◌-◌, ◌==◌, Bool, true, false, List, [], ◌∷◌, ◌++◌, Option, Some, None, refl, arith, length, if◌then◌else◌}
use Rattle.std.proofs.lemmas.List.{drop_at}
use Rattle.std.specs.List.{slice_get}
use Rattle.hs_model.specs.declared.command.Command.{Command}
use Rattle.hs_script.specs.Lines.{line_at, lines_of}
use Rattle.hs_script.specs.Reading.{command_in, commands, commands_of, reading}
use Rattle.hs_run.specs.Going.{AreRead}
use Rattle.hs_run.proofs.EndingLemmas.{next_is}

-- ---- places

get_front : {X : Type 0} (xs ys : List X) (k : ℕ) (x : X) → slice_get xs k ≡ Some x → slice_get (xs ++ ys) k ≡ Some x
get_front [] ys k x h = absurd cc
get_front (y ∷ xs) ys zero x h = h
get_front (y ∷ xs) ys (suc k) x h = get_front xs ys k x h

some_is : {X : Type 0} (a b : X) → Some a ≡ Some b → a ≡ b
some_is a b e = cc

-- of a list with one element more it is one of the list, or that
get_push : {X : Type 0} (xs : List X) (y : X) (k : ℕ) (x : X) → slice_get (xs ++ y ∷ []) k ≡ Some x → (slice_get xs k ≡ Some x) ⊎ ((k ≡ length xs) × (y ≡ x))
get_push [] y zero x h = inr (refl, some_is y x h)
get_push [] y (suc k) x h = absurd cc
get_push (z ∷ xs) y zero x h = inl h
get_push (z ∷ xs) y (suc k) x h = elim (get_push xs y k x h) [
  | inl there ↦ inl there
  | inr last ↦ inr (ap suc last.0, last.1)
]

line_front : (xs ys : List (List ℕ)) (n : ℕ) (line : List ℕ) → line_at xs n ≡ Some line → line_at (xs ++ ys) n ≡ Some line
line_front xs ys n line h = go (n == 0) h
  where
    go : (b : Bool) → (if b then None else slice_get xs (n - 1)) ≡ Some line → (if b then None else slice_get (xs ++ ys) (n - 1)) ≡ Some line
    go true k = k
    go false k = get_front xs ys (n - 1) line k

-- ---- one line more

-- the last of them
pub line_last : (read : List (List ℕ)) (line : List ℕ) → line_at (read ++ line ∷ []) (length read + 1) ≡ Some line
line_last read line = next_is (read ++ line ∷ []) (length read) line [] (drop_at read (line ∷ []) (length read) refl)

pub read_less : (commands : ℕ → Option Command) (read : List (List ℕ)) (line : List ℕ) → AreRead commands (read ++ line ∷ []) → AreRead commands read
read_less commands read line h = λ n l at. h n l (line_front read (line ∷ []) n l at)

pub read_last : (commands : ℕ → Option Command) (read : List (List ℕ)) (line : List ℕ) → AreRead commands (read ++ line ∷ []) → commands (length read + 1) ≡ command_in (reading line)
read_last commands read line h = h (length read + 1) line (line_last read line)

above : (n k : ℕ) → (n == 0) ≡ false → n - 1 ≡ k → n ≡ k + 1
above n k e place = grind arith

pub read_more : (commands : ℕ → Option Command) (read : List (List ℕ)) (line : List ℕ) → AreRead commands read → commands (length read + 1) ≡ command_in (reading line) → AreRead commands (read ++ line ∷ [])
read_more commands read line h says = λ n l at. go n l (n == 0) refl at
  where
    go : (n : ℕ) (l : List ℕ) (b : Bool) → (n == 0) ≡ b → (if b then None else slice_get (read ++ line ∷ []) (n - 1)) ≡ Some l → commands n ≡ command_in (reading l)
    go n l true e at = absurd cc
    go n l false e at = elim (get_push read line (n - 1) l at) [
      | inl there ↦ h n l (rw e there)
      | inr last ↦
          let place = last.0 in
          let number : n ≡ length read + 1 = above n (length read) e place in
          ap commands number ∙ says ∙ ap (λ (x : List ℕ). command_in (reading x)) last.1
    ]

-- ---- what they are

-- where nothing is told, these are their commands
pub read_untold : (read : List (List ℕ)) → AreRead (commands_of read) read
read_untold read = λ n line at. rw at refl

-- nothing is read yet
nowhere : (k : ℕ) (line : List ℕ) → slice_get {X = List ℕ} [] k ≡ Some line → ⊥
nowhere zero line h = cc
nowhere (suc k) line h = cc

pub read_none : (commands : ℕ → Option Command) → AreRead commands []
read_none commands = λ n line at. absurd (go n line (n == 0) at)
  where
    go : (n : ℕ) (line : List ℕ) (b : Bool) → (if b then None else slice_get {X = List ℕ} [] (n - 1)) ≡ Some line → ⊥
    go n line true h = cc
    go n line false h = nowhere (n - 1) line h

-- the command of a line of a script
pub command_next : (script : List ℕ) (n : ℕ) (line : List ℕ) → line_at (lines_of script) (n + 1) ≡ Some line → commands script (n + 1) ≡ command_in (reading line)
command_next script n line at = rw at refl
