-- What the reader of some words of a line answers. No public clause cites this.
use Rattle.std.specs.Prelude.{◌≡◌, ℕ, Bool, true, false, List, [], ◌∷◌, Option, Some, None, IsSome, Result, Ok, Err}
use Rattle.hex.specs.declared.error.FromHexError.{FromHexError}
use Rattle.hs_script.specs.declared.fault.ScriptFault.{ScriptFault}
use Rattle.hs_script.specs.declared.fault.ScriptFault.TheVariants.{BadLine, NoMemory}
use Rattle.hs_script.specs.Lines.{words_of}

-- the words of what stands behind a word: nothing, or a space and the others
abbrev pub more_words : List ℕ → List (List ℕ)
more_words [] = []
more_words (space ∷ words) = words_of words

-- words are refused as bad where they give nothing, and memory is wanted only where they give something
abbrev pub IsFaultIn : {A : Type 0} → ScriptFault → Option A → Type 0
IsFaultIn BadLine given = given ≡ None
IsFaultIn NoMemory given = IsSome given

-- what is read is what they give
abbrev pub Gives : {X A : Type 0} → (X → A) → Result X ScriptFault → Option A → Type 0
Gives f (Ok x) given = given ≡ Some (f x)
Gives f (Err fault) given = IsFaultIn fault given

-- digits are decoded into these bytes, or one is none
abbrev pub Decodes : Bool → Result (List ℕ) FromHexError → List ℕ → Type 0
Decodes true (Ok decoded) bytes = bytes ≡ decoded
Decodes false (Ok decoded) bytes = ⊥
Decodes true (Err fault) bytes = ⊥
Decodes false (Err fault) bytes = Unit {0}
