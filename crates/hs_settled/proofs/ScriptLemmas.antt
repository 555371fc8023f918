-- A line that says `delete` is that word.
use Rattle.std.proofs.Common.{◌≡◌, ◌∙◌, ap, ℕ, Bool, true, false, cond, List, [], ◌∷◌, length, Option, Some, None, refl, bytes_eq, codes, nat_lt, ◌==◌}
use Rattle.hs_model.specs.declared.command.Command.{Command}
use Rattle.hs_model.specs.declared.command.Command.TheVariants as command
use Rattle.hs_model.specs.declared.op.Op.TheVariants as op
use Rattle.hs_script.specs.declared.read.TheConstants.{LONGEST_LINE}
use Rattle.hs_script.specs.Lines.{before_first, words_of}
use Rattle.hs_script.specs.Parts.{name_of, key_of, peer_number, message_number, handle_of, handles_of, payload_of}
use Rattle.hs_script.specs.Reading.{Reading, bad, blank, command_at, command_in, command_of, driving_line, leading, line_of, no_word, only, reading, reading_of, says_by}

-- a command is a deletion
abbrev pub deletes : Option Command → Bool
deletes (Some (command.Client op.Delete)) = true
deletes other = false

abbrev asks : Reading → Bool
asks r = deletes (command_in r)

says_no : {A : Type 0} (f : A → Command) (o : Option A) → ((x : A) → deletes (Some (f x)) ≡ false) → asks (says_by f o) ≡ false
says_no f None never = refl
says_no f (Some x) never = never x

neither : (b : Bool) (x y : Reading) → asks x ≡ false → asks y ≡ false → asks (cond b x y) ≡ false
neither true x y e f = e
neither false x y e f = f

later : (b : Bool) (x y : Reading) → asks x ≡ false → asks (cond b x y) ≡ true → asks y ≡ true
later true x y e f = absurd (cc (e, f))
later false x y e f = f

driving_no : (verb : List ℕ) (words : List (List ℕ)) → asks (driving_line verb words) ≡ false
unfolding driving_line
driving_no verb words =
    neither (bytes_eq verb (codes "settle")) _ _ (says_no (λ none. command.Settle) (no_word words) (λ x. refl))
    (neither (bytes_eq verb (codes "turn")) _ _ (says_no (λ peer. command.Turn peer) (only peer_number words) (λ x. refl))
    (neither (bytes_eq verb (codes "nudge")) _ _ (says_no (λ peer. command.Nudge peer) (only peer_number words) (λ x. refl))
    (neither (bytes_eq verb (codes "deliver")) _ _ (says_no (λ k. command.Deliver k) (only message_number words) (λ x. refl))
    (neither (bytes_eq verb (codes "lose")) _ _ (says_no (λ k. command.Lose k) (only message_number words) (λ x. refl))
    (neither (bytes_eq verb (codes "repeat")) _ _ (says_no (λ k. command.Repeat k) (only message_number words) (λ x. refl))
    (neither (bytes_eq verb (codes "fail")) _ _ (says_no (λ peer. command.Fail peer) (only peer_number words) (λ x. refl))
    (neither (bytes_eq verb (codes "start")) _ _ (says_no (λ peer. command.Start peer) (only peer_number words) (λ x. refl))
    (neither (bytes_eq verb (codes "reclaim")) _ _ (says_no (λ peer. command.Reclaim peer) (only peer_number words) (λ x. refl)) refl))))))))

alone : (words : List (List ℕ)) → asks (says_by (λ none. command.Client op.Delete) (no_word words)) ≡ true → words ≡ []
alone [] e = refl
alone (word ∷ words) e = cc e

last : (b : Bool) (words : List (List ℕ)) (y : Reading) → asks y ≡ false
    → asks (cond b (says_by (λ none. command.Client op.Delete) (no_word words)) y) ≡ true → (b ≡ true) × (words ≡ [])
last true words y never e = (refl, alone words e)
last false words y never e = absurd (cc (never, e))

line_asks : (verb : List ℕ) (words : List (List ℕ)) → asks (line_of verb words) ≡ true → (bytes_eq verb (codes "delete") ≡ true) × (words ≡ [])
unfolding line_of
line_asks verb words e =
    last (bytes_eq verb (codes "delete")) words
    (cond (bytes_eq verb (codes "stat")) (says_by (λ none. command.Client op.Stat) (no_word words)) (driving_line verb words))
    (neither (bytes_eq verb (codes "stat")) _ _ (says_no (λ none. command.Client op.Stat) (no_word words) (λ x. refl)) (driving_no verb words))
    (later (bytes_eq verb (codes "name")) _ _ (says_no (λ p. command.Client (op.Name p.0 p.1)) (leading name_of (only handle_of) words) (λ x. refl))
    (later (bytes_eq verb (codes "forget")) _ _ (says_no (λ p. command.Client (op.Forget p.0 p.1)) (leading name_of (only handle_of) words) (λ x. refl))
    (later (bytes_eq verb (codes "drop")) _ _ (says_no (λ key. command.Client (op.Drop key)) (only key_of words) (λ x. refl))
    (later (bytes_eq verb (codes "root")) _ _ (says_no (λ p. command.Client (op.Root p.0 p.1.0 p.1.1)) (leading name_of (leading key_of (only handle_of)) words) (λ x. refl))
    (later (bytes_eq verb (codes "look")) _ _ (says_no (λ p. command.Client (op.Look p.0 p.1)) (leading name_of (only key_of) words) (λ x. refl))
    (later (bytes_eq verb (codes "read")) _ _ (says_no (λ p. command.Client (op.Read p.0 p.1)) (leading name_of (only handle_of) words) (λ x. refl))
    (later (bytes_eq verb (codes "write")) _ _ (says_no (λ p. command.Client (op.Write p.0 p.1.0 p.1.1 None)) (leading name_of (leading payload_of handles_of) words) (λ x. refl))
    (later (bytes_eq verb (codes "close")) _ _ (says_no (λ s. command.Client (op.Close s)) (only name_of words) (λ x. refl))
    (later (bytes_eq verb (codes "open")) _ _ (says_no (λ s. command.Client (op.Open s)) (only name_of words) (λ x. refl)) e)))))))))

-- ---- one word

some_first : (byte : ℕ) (pieces : List (List ℕ)) → before_first byte pieces ≡ [] → ⊥
some_first byte [] e = cc e
some_first byte (piece ∷ pieces) e = cc e

some_words : (line : List ℕ) → words_of line ≡ [] → ⊥
unfolding words_of
some_words [] e = cc e
some_words (byte ∷ bytes) e = go (byte == 32) e
  where
    go : (space : Bool) → cond space ([] ∷ words_of bytes) (before_first byte (words_of bytes)) ≡ [] → ⊥
    go true f = cc f
    go false f = some_first byte (words_of bytes) f

behind : {X : Type 0} (x y : X) (xs ys : List X) → x ∷ xs ≡ y ∷ ys → (x ≡ y) × (xs ≡ ys)
behind x y xs ys e = (cc e, cc e)

single : (line verb : List ℕ) → words_of line ≡ verb ∷ [] → line ≡ verb
unfolding words_of
single [] verb e = (behind [] verb [] [] e).0
single (byte ∷ bytes) verb e = by_byte (λ v f. single bytes v f) (byte == 32) e
  where
    by_pieces : ((v : List ℕ) → words_of bytes ≡ v ∷ [] → bytes ≡ v) → (pieces : List (List ℕ)) → words_of bytes ≡ pieces → before_first byte pieces ≡ verb ∷ [] → byte ∷ bytes ≡ verb
    by_pieces less [] is f = absurd (some_words bytes is)
    by_pieces less (piece ∷ pieces) is f =
        let parts : (byte ∷ piece ≡ verb) × (pieces ≡ []) = behind (byte ∷ piece) verb pieces [] f in
        ap (λ t. byte ∷ t) (less piece (is ∙ ap (λ t. piece ∷ t) parts.1)) ∙ parts.0

    by_byte : ((v : List ℕ) → words_of bytes ≡ v ∷ [] → bytes ≡ v) → (space : Bool) → cond space ([] ∷ words_of bytes) (before_first byte (words_of bytes)) ≡ verb ∷ [] → byte ∷ bytes ≡ verb
    by_byte less true f = absurd (some_words bytes (behind [] verb (words_of bytes) [] f).1)
    by_byte less false f = by_pieces less (words_of bytes) refl f

words_ask : (line : List ℕ) → asks (command_of (words_of line)) ≡ true → bytes_eq line (codes "delete") ≡ true
words_ask line e = go (words_of line) refl e
  where
    go : (words : List (List ℕ)) → words_of line ≡ words → asks (command_of words) ≡ true → bytes_eq line (codes "delete") ≡ true
    go [] is f = absurd (some_words line is)
    go (verb ∷ words) is f =
        let said : (bytes_eq verb (codes "delete") ≡ true) × (words ≡ []) = line_asks verb words f in
        ap (λ v. bytes_eq v (codes "delete")) (single line verb (is ∙ ap (λ t. verb ∷ t) said.1)) ∙ said.0

reading_asks : (line : List ℕ) → asks (reading_of line) ≡ true → bytes_eq line (codes "delete") ≡ true
reading_asks [] e = cc e
reading_asks (first ∷ rest) e = go (first == 35) e
  where
    go : (b : Bool) → asks (cond b blank (command_of (words_of (first ∷ rest)))) ≡ true → bytes_eq (first ∷ rest) (codes "delete") ≡ true
    go true f = cc f
    go false f = words_ask (first ∷ rest) f

pub line_says_delete : (line : List ℕ) → deletes (command_at (Some line)) ≡ true → bytes_eq line (codes "delete") ≡ true
unfolding reading
line_says_delete line e = go (nat_lt LONGEST_LINE (length line)) e
  where
    go : (b : Bool) → asks (cond b bad (reading_of line)) ≡ true → bytes_eq line (codes "delete") ≡ true
    go true f = cc f
    go false f = reading_asks line f
