-- Options are read two words at a time, and no name is there twice.
use Rattle.std.proofs.Common.{◌≡◌, ◌∙◌, ap, sym, subst, ℕ, ◌-◌, ◌<◌, ◌≤◌, Bool, true, false, ◌==◌, if◌then◌else◌, List, [], ◌∷◌, length, take, drop, map, get_or, Option, None, bytes_eq, refl, arith, take_all}
use Rattle.std.specs.List.{list_any}
use Rattle.std.specs.Option.{option_and_then}
use Rattle.std.specs.Prelude.{◌||◌}
use Rattle.std.proofs.lemmas.Bool.{false≢true}
use Rattle.std.proofs.lemmas.Slice.Eq.{bytes_eq-Decides}
use Rattle.hs_script.specs.CommandLine.{with_option, with_options}
use Rattle.hs_script.specs.declared.invocation.CommandName.{CommandName}
use Rattle.hs_script.specs.declared.invocation.Options.{Options}
use Rattle.hs_wanted.specs.Asked.{is_named}

-- ---- what is given

-- a name is among some that were given, whatever word says it
abbrev IsGiven : List ℕ → List (List ℕ) → Type 0
IsGiven name given = (word : List ℕ) → bytes_eq word name ≡ true → list_any (bytes_eq word) given ≡ true

or_true : (b : Bool) → (b || true) ≡ true
or_true true = refl
or_true false = refl

given_first : (name : List ℕ) (given : List (List ℕ)) → IsGiven name (name ∷ given)
given_first name given word is = rw is refl

given_behind : (name other : List ℕ) (given : List (List ℕ)) → IsGiven name given → IsGiven name (other ∷ given)
given_behind name other given h word is = ap (λ (b : Bool). bytes_eq word other || b) (h word is) ∙ or_true (bytes_eq word other)

same_bytes : (word : List ℕ) → bytes_eq word word ≡ true
same_bytes word = (bytes_eq-Decides word word).1 refl

-- ---- options

-- no options stay none
pub none_stays : (which : CommandName) (given words : List (List ℕ)) → with_options which given words None ≡ None
none_stays which given [] = refl
none_stays which given (name ∷ []) = refl
none_stays which given (name ∷ value ∷ words) = go (list_any (bytes_eq name) given) (none_stays which (name ∷ given) words)
  where
    go : (b : Bool) → with_options which (name ∷ given) words None ≡ None → (if b then None else with_options which (name ∷ given) words None) ≡ None
    go true ih = refl
    go false ih = ih

-- an option of a name that was given makes none
given_twice : (which : CommandName) (name : List ℕ) (given words : List (List ℕ)) (options : Option Options) → IsGiven name given → is_named name words ≡ true → with_options which given words options ≡ None
given_twice which name given [] options h named = absurd (false≢true named)
given_twice which name given (word ∷ []) options h named = absurd (false≢true named)
given_twice which name given (word ∷ value ∷ words) options h named =
    go (λ is. given_twice which name (word ∷ given) words (option_and_then (with_option which word value) options) (given_behind name word given h) is) (bytes_eq word name) refl named
  where
    none : (b : Bool) → with_options which (word ∷ given) words (option_and_then (with_option which word value) options) ≡ None → (if b then None else with_options which (word ∷ given) words (option_and_then (with_option which word value) options)) ≡ None
    none true is = refl
    none false is = is

    go : (is_named name words ≡ true → with_options which (word ∷ given) words (option_and_then (with_option which word value) options) ≡ None) → (b : Bool) → bytes_eq word name ≡ b → (b || is_named name words) ≡ true
        → (if list_any (bytes_eq word) given then None else with_options which (word ∷ given) words (option_and_then (with_option which word value) options)) ≡ None
    go ih true is k = rw (h word is) refl
    go ih false is k = none (list_any (bytes_eq word) given) (ih k)

-- names that were given and are not among the words make no difference
given_apart : (which : CommandName) (given given' words : List (List ℕ)) (options : Option Options) → ((word : List ℕ) → is_named word words ≡ true → list_any (bytes_eq word) given ≡ list_any (bytes_eq word) given') → with_options which given words options ≡ with_options which given' words options
given_apart which given given' [] options h = refl
given_apart which given given' (name ∷ []) options h = refl
given_apart which given given' (name ∷ value ∷ words) options h =
    let first : list_any (bytes_eq name) given ≡ list_any (bytes_eq name) given' = h name (ap (λ (b : Bool). b || is_named name words) (same_bytes name)) in
    ap (λ (b : Bool). if b then None else with_options which (name ∷ given) words (option_and_then (with_option which name value) options)) first
    ∙ ap (λ (rest : Option Options). if list_any (bytes_eq name) given' then None else rest) (given_apart which (name ∷ given) (name ∷ given') words (option_and_then (with_option which name value) options) others)
  where
    others : (word : List ℕ) → is_named word words ≡ true → list_any (bytes_eq word) (name ∷ given) ≡ list_any (bytes_eq word) (name ∷ given')
    others word is = ap (λ (b : Bool). bytes_eq word name || b) (h word (ap (λ (b : Bool). bytes_eq name word || b) is ∙ or_true (bytes_eq name word)))

-- ---- the next option

-- its name is there again
pub twice : (which : CommandName) (name value : List ℕ) (words : List (List ℕ)) (options : Option Options) → is_named name words ≡ true → with_options which [] (name ∷ value ∷ words) options ≡ None
twice which name value words options named = given_twice which name (name ∷ []) words (option_and_then (with_option which name value) options) (given_first name []) named

-- it is not
pub once : (which : CommandName) (name value : List ℕ) (words : List (List ℕ)) (options : Option Options) → is_named name words ≡ false → with_options which [] (name ∷ value ∷ words) options ≡ with_options which [] words (option_and_then (with_option which name value) options)
once which name value words options apart = given_apart which (name ∷ []) [] words (option_and_then (with_option which name value) options) (λ word is. other word is (bytes_eq word name) refl)
  where
    other : (word : List ℕ) → is_named word words ≡ true → (b : Bool) → bytes_eq word name ≡ b → (bytes_eq word name || false) ≡ false
    other word is true same = absurd (false≢true (sym apart ∙ subst (λ (w : List ℕ). is_named w words ≡ true) ((bytes_eq-Decides word name).0 same) is))
    other word is false same = rw same refl

-- ---- two words of some, by what they say

module _ {X : Type 0} (f : X → List ℕ) where
  -- the words behind the first two
  abbrev pub behind : List X → List (List ℕ)
  behind xs = map f (take (length xs - 2) (drop 2 xs))

  all_behind : (x y : X) (xs : List X) → behind (x ∷ y ∷ xs) ≡ map f xs
  all_behind x y xs = ap (map f) (ap (λ n. take n xs) (omega arith) ∙ take_all (length xs) xs (omega arith))

  pub two_words : (xs : List X) (a b : X) → 2 ≤ length xs → a ≡ get_or xs 0 a → b ≡ get_or xs 1 b → map f xs ≡ f a ∷ f b ∷ behind xs
  two_words [] a b low first second = absurd (omega (arith, low))
  two_words (x ∷ []) a b low first second = absurd (omega (arith, low))
  two_words (x ∷ y ∷ xs) a b low first second = rw (first, second, all_behind x y xs) refl

  pub two_named : (name : List ℕ) (xs : List X) (a : X) → 2 ≤ length xs → a ≡ get_or xs 0 a → is_named name (map f xs) ≡ (bytes_eq (f a) name || is_named name (behind xs))
  two_named name [] a low first = absurd (omega (arith, low))
  two_named name (x ∷ []) a low first = absurd (omega (arith, low))
  two_named name (x ∷ y ∷ xs) a low first = rw (first, all_behind x y xs) refl

  -- a single word is no option
  pub few_named : (name : List ℕ) (xs : List X) → length xs < 2 → is_named name (map f xs) ≡ false
  few_named name [] h = refl
  few_named name (x ∷ []) h = refl
  few_named name (x ∷ y ∷ xs) h = absurd (omega (arith, h))

  pub few_options : (which : CommandName) (xs : List X) (options : Option Options) → length xs < 2 → with_options which [] (map f xs) options ≡ (if length xs == 0 then options else None)
  few_options which [] options h = refl
  few_options which (x ∷ []) options h = refl
  few_options which (x ∷ y ∷ xs) options h = absurd (omega (arith, h))
