-- The words of a line.
use Rattle.std.proofs.Common.{◌≡◌, ℕ, ◌+◌, ◌<◌, ◌≤◌, ◌==◌, suc, Bool, true, false, not, cond, List, [], ◌∷◌, Some, None, length, take, drop, slice_index, refl, sym, ap, ◌∙◌, arith}
use Rattle.std.specs.List.{slice_split, onto_first, position_or_len}
use Rattle.std.proofs.lemmas.List.{drop_more}
use Rattle.std.proofs.lemmas.List.Sums.{position_or_len_is}
use Rattle.std.proofs.lemmas.List.Splits.{slice_split_first}
use Rattle.memchr.specs.Find.{IsFirstByte, is_byte}
use Rattle.hs_script.specs.Giving.{more_words}
use Rattle.hs_script.specs.Lines.{words_of, before_first as before_piece}
use Rattle.hs_script.specs.Reading.{no_word, only}

-- a byte before pieces, in std's words
before_onto : (byte : ℕ) (pieces : List (List ℕ)) → before_piece byte pieces ≡ onto_first byte pieces
before_onto byte [] = refl
before_onto byte (piece ∷ pieces) = refl

-- the words are the parts between spaces
words_split : (line : List ℕ) → words_of line ≡ slice_split (λ byte. byte == 32) line
unfolding words_of
words_split [] = refl
words_split (byte ∷ line) = rw (words_split line, before_onto byte (slice_split (λ b. b == 32) line)) refl

-- where no byte is a space the line is one word
one_word : (line : List ℕ) → length line ≤ position_or_len (λ byte. byte == 32) line → words_of line ≡ line ∷ []
unfolding words_of
one_word [] h = refl
one_word (byte ∷ line) h = word_of (one_word line) (byte == 32) h
  where
    word_of : (length line ≤ position_or_len (λ byte. byte == 32) line → words_of line ≡ line ∷ []) → (space : Bool) → suc (length line) ≤ cond (not space) (1 + position_or_len (λ byte. byte == 32) line) 0 → cond space ([] ∷ words_of line) (before_piece byte (words_of line)) ≡ (byte ∷ line) ∷ []
    word_of again true h = absurd (omega arith)
    word_of again false h = rw (again (omega arith)) refl

-- the first space ends the first word
first_word : (line : List ℕ) → position_or_len (λ byte. byte == 32) line < length line → words_of line ≡ take (position_or_len (λ byte. byte == 32) line) line ∷ words_of (drop (position_or_len (λ byte. byte == 32) line + 1) line)
first_word line h =
    let p : ℕ = position_or_len (λ byte. byte == 32) line in
    words_split line ∙ slice_split_first (λ byte. byte == 32) line 0 h ∙ ap (λ ws. take p line ∷ ws) (sym (words_split (drop (p + 1) line)))

-- a test that does not pass fails
fails : (b : Bool) → (b ≡ true → ⊥) → b ≡ false
fails true h = absurd (h refl)
fails false h = refl

-- the place of the first space, or the line's length
place_none : (line : List ℕ) → IsFirstByte (is_byte 32) line None → position_or_len (λ byte. byte == 32) line ≡ length line
place_none line none =
    position_or_len_is (λ byte. byte == 32) line (length line) 0 (omega arith) (λ k below. fails (slice_index line k == 32) (none k (omega arith) below)) (λ past. absurd (omega (arith, past)))

place_found : (line : List ℕ) (end : ℕ) → IsFirstByte (is_byte 32) line (Some end) → position_or_len (λ byte. byte == 32) line ≡ end
place_found line end found =
    position_or_len_is (λ byte. byte == 32) line end 0 (omega (arith, found.0.high)) (λ k below. fails (slice_index line k == 32) (found.0.before k (omega arith) below)) (λ within. found.1)

-- the words where no space is found, and where one is
pub words_unparted : (line : List ℕ) → IsFirstByte (is_byte 32) line None → words_of line ≡ line ∷ []
words_unparted line none = one_word line (omega (arith, place_none line none))

pub words_parted : (line : List ℕ) (end : ℕ) → IsFirstByte (is_byte 32) line (Some end) → words_of line ≡ take end line ∷ more_words (drop end line)
words_parted line end found =
    let place = place_found line end found in
    let rest = drop_more line end 0 found.0.high in
    rw rest (rw place at (first_word line (omega (arith, place, found.0.high))))

-- ---- words behind a word

-- a byte before pieces leaves a piece
before_some : (byte : ℕ) (pieces : List (List ℕ)) → before_piece byte pieces ≡ [] → ⊥
before_some byte [] h = cc h
before_some byte (piece ∷ pieces) h = cc h

-- a line has a word
words_some : (line : List ℕ) → words_of line ≡ [] → ⊥
unfolding words_of
words_some [] h = cc h
words_some (byte ∷ line) h = some_of (byte == 32) h
  where
    some_of : (space : Bool) → cond space ([] ∷ words_of line) (before_piece byte (words_of line)) ≡ [] → ⊥
    some_of true h = cc h
    some_of false h = before_some byte (words_of line) h

-- what stands behind a word has a word, where it is something
more_some : (rest : List ℕ) → 0 < length rest → more_words rest ≡ [] → ⊥
more_some [] some h = absurd (omega arith)
more_some (space ∷ line) some h = words_some line h

no_word_some : (words : List (List ℕ)) → (words ≡ [] → ⊥) → no_word words ≡ None
no_word_some [] some = absurd (some refl)
no_word_some (word ∷ words) some = refl

pub no_word_more : (rest : List ℕ) → 0 < length rest → no_word (more_words rest) ≡ None
no_word_more rest some = no_word_some (more_words rest) (more_some rest some)

-- a word and others are not one alone
only_some : (word : List ℕ) (words : List (List ℕ)) → (words ≡ [] → ⊥) → only (λ (w : List ℕ). Some w) (word ∷ words) ≡ None
only_some word [] some = absurd (some refl)
only_some word (next ∷ words) some = refl

pub only_more : (words : List (List ℕ)) (word rest : List ℕ) → words ≡ word ∷ more_words rest → 0 < length rest → None ≡ only (λ (w : List ℕ). Some w) words
only_more words word rest e some = rw e (sym (only_some word (more_words rest) (more_some rest some)))
