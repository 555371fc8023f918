-- Handles one after another.
use Rattle.std.proofs.Common.{◌≡◌, ℕ, true, false, List, [], ◌∷◌, ◌++◌, Option, Some, None, is_some, refl, sym, ap, append_assoc}
use Rattle.std.specs.Prelude.{IsSome}
use Rattle.std.specs.Option.{option_map}
use Rattle.std.proofs.lemmas.List.{append-nil}
use Rattle.hs_script.specs.Parts.{handle_of, handles_of, with_handle}

-- ---- whether words are handles

is_some-with_handle : (handle : ℕ) (handles : Option (List ℕ)) → is_some (with_handle (Some handle) handles) ≡ is_some handles
is_some-with_handle handle None = refl
is_some-with_handle handle (Some hs) = refl

-- no word, a handle more, and a word that is none
pub handles_none : (words : List (List ℕ)) → words ≡ [] → is_some (handles_of words) ≡ true
unfolding handles_of
handles_none words e = rw e refl

pub handles_more : (words more : List (List ℕ)) (word : List ℕ) (handle : ℕ) → words ≡ word ∷ more → Some handle ≡ handle_of word → is_some (handles_of words) ≡ is_some (handles_of more)
unfolding handles_of
handles_more words more word handle e is = rw (e, ← is) (is_some-with_handle handle (handles_of more))

pub handles_bad : (words more : List (List ℕ)) (word : List ℕ) → words ≡ word ∷ more → None ≡ handle_of word → is_some (handles_of words) ≡ false
unfolding handles_of
handles_bad words more word e is = rw (e, ← is) refl

-- ---- the handles that words are

-- some handles, and those that come after them
abbrev pub after : List ℕ → Option (List ℕ) → Option (List ℕ)
after front handles = option_map (λ hs. front ++ hs) handles

after-with_handle : (front : List ℕ) (handle : ℕ) (handles : Option (List ℕ)) → after front (with_handle (Some handle) handles) ≡ after (front ++ handle ∷ []) handles
after-with_handle front handle None = refl
after-with_handle front handle (Some hs) = ap Some (sym (append_assoc front (handle ∷ []) hs))

pub after_none : (front : List ℕ) (words : List (List ℕ)) → words ≡ [] → after front (handles_of words) ≡ Some front
unfolding handles_of
after_none front words e = rw e (ap Some (append-nil front))

pub after_more : (front : List ℕ) (words more : List (List ℕ)) (word : List ℕ) (handle : ℕ) → words ≡ word ∷ more → Some handle ≡ handle_of word → after front (handles_of words) ≡ after (front ++ handle ∷ []) (handles_of more)
unfolding handles_of
after_more front words more word handle e is = rw (e, ← is) (after-with_handle front handle (handles_of more))

pub after_bad : (front : List ℕ) (words more : List (List ℕ)) (word : List ℕ) → words ≡ word ∷ more → None ≡ handle_of word → after front (handles_of words) ≡ None
unfolding handles_of
after_bad front words more word e is = rw (e, ← is) refl

-- what is wanting behind some handles is wanting with them
pub after_some : (front : List ℕ) (handles : Option (List ℕ)) → IsSome handles → IsSome (after front handles)
after_some front (Some hs) some = refl
after_some front None some = cc some
