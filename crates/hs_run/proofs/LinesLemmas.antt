-- What the lines of some bytes are where a line feed was found, or none.
use Rattle.std.proofs.Common.{◌≡◌, ℕ, suc, ◌+◌, ◌-◌, ◌<◌, false, eqb, List, [], ◌∷◌, ◌++◌, length, Option, Some, None, nat_lt, Bool, true, get_or, take, drop, refl, ap, sym, ◌∙◌, arith, length-take, take-append-drop, append_assoc}
use Rattle.std.proofs.lemmas.Bool.{ne_eqb, lt-ltb}
use Rattle.std.proofs.lemmas.List.{append-nil, take_rest, get_or-take, get_or-drop, drop_more, drop-drop}
use Rattle.std.proofs.Math.Seq.{drop-length}
use Rattle.hs_script.specs.Lines.{lines_of}
use Rattle.hs_ports.specs.Source.{before, IsEnded}
use Rattle.std.specs.Option.{option_map}
use Rattle.hs_run.specs.Lines.{HasNoFeed, IsFeedAt}
use Rattle.hs_run.specs.Reader.{Reads}

-- a line, its line feed, and what follows
pub lines_of-line : (line rest : List ℕ) → HasNoFeed line 0 (length line) → lines_of (line ++ 10 ∷ rest) ≡ line ∷ lines_of rest
unfolding lines_of
lines_of-line [] rest none = refl
lines_of-line (b ∷ bs) rest none =
    let differs : eqb b 10 ≡ false = ne_eqb b 10 (none 0 (omega arith) (omega arith)) in
    let others : HasNoFeed bs 0 (length bs) = λ k low lt. none (suc k) (omega arith) (omega arith) in
    rw (differs, lines_of-line bs rest others) refl

-- bytes without a line feed are one line, if there are any
pub lines_of-last : (line : List ℕ) → 0 < length line → HasNoFeed line 0 (length line) → lines_of line ≡ line ∷ []
unfolding lines_of
lines_of-last [] some none = absurd (omega arith)
lines_of-last (b ∷ []) some none = rw (ne_eqb b 10 (none 0 (omega arith) (omega arith))) refl
lines_of-last (b ∷ c ∷ bs) some none =
    let differs : eqb b 10 ≡ false = ne_eqb b 10 (none 0 (omega arith) (omega arith)) in
    let others : HasNoFeed (c ∷ bs) 0 (length (c ∷ bs)) = λ k low lt. none (suc k) (omega arith) (omega arith) in
    rw (differs, lines_of-last (c ∷ bs) (omega arith) others) refl

-- no line feed stands before the first
pub no_feed : (bytes : List ℕ) (from at : ℕ) → IsFeedAt bytes from at → HasNoFeed (take (at - from) (drop from bytes)) 0 (length (take (at - from) (drop from bytes)))
no_feed bytes from at found k low lt =
    let short : k < at - from = omega (arith, length-take (at - from) (drop from bytes)) in
    let far : from + k < at = omega (arith, found.from_on) in
    let here : get_or (take (at - from) (drop from bytes)) k 0 ≡ get_or bytes (from + k) 0 = get_or-take (at - from) (drop from bytes) k 0 short ∙ get_or-drop from bytes k 0 in
    λ same. found.first (from + k) (omega arith) far (sym here ∙ same)

-- the bytes from a place on are those up to the first line feed, it, and those behind it
pub parted : (bytes : List ℕ) (from at : ℕ) → IsFeedAt bytes from at → drop from bytes ≡ take (at - from) (drop from bytes) ++ 10 ∷ drop (at + 1) bytes
parted bytes from at found =
    let there : from + (at - from) ≡ at = omega (arith, found.from_on) in
    let tail : drop (at - from) (drop from bytes) ≡ 10 ∷ drop (at + 1) bytes =
    drop-drop (at - from) from bytes ∙ ap (λ (n : ℕ). drop n bytes) there ∙ drop_more bytes at 0 found.within ∙ ap (λ (b : ℕ). b ∷ drop (at + 1) bytes) found.feed in
    sym (take-append-drop (at - from) (drop from bytes)) ∙ ap (λ (rest : List ℕ). take (at - from) (drop from bytes) ++ rest) tail

-- so the first line is what stands before it, and the other lines are those of what is behind it
pub lines_of-feed : (bytes after : List ℕ) (from at : ℕ) → IsFeedAt bytes from at
    → lines_of (drop from bytes ++ after) ≡ take (at - from) (drop from bytes) ∷ lines_of (drop (at + 1) bytes ++ after)
lines_of-feed bytes after from at found =
    let line = take (at - from) (drop from bytes) in
    let rest = drop (at + 1) bytes in
    ap (λ (b : List ℕ). lines_of (b ++ after)) (parted bytes from at found) ∙ ap lines_of (append_assoc line (10 ∷ rest) after)
    ∙ lines_of-line line (rest ++ after) (no_feed bytes from at found)

-- the next line is held
pub next_held : (bytes : List ℕ) (from at : ℕ) (left : Option (List ℕ)) → IsFeedAt bytes from at
    → option_map lines_of (before (drop from bytes) left) ≡ option_map (λ lines. take (at - from) (drop from bytes) ∷ lines) (option_map lines_of (before (drop (at + 1) bytes) left))
next_held bytes from at None found = refl
next_held bytes from at (Some rest) found = ap (λ (lines : List (List ℕ)). Some lines) (lines_of-feed bytes rest from at found)

-- the next line was gathered
pub next_gathered : (held bytes : List ℕ) (at : ℕ) (left left' : Option (List ℕ)) → before bytes left' ≡ before held left → IsFeedAt bytes 0 at
    → option_map lines_of (before held left) ≡ option_map (λ lines. take (at - 0) (drop 0 bytes) ∷ lines) (option_map lines_of (before (drop (at + 1) bytes) left'))
next_gathered held bytes at left left' stream found = ap (option_map lines_of) (sym stream) ∙ next_held bytes 0 at left' found

-- bytes without a line feed are the last line, and nothing is left behind them
last_line : (bytes : List ℕ) → 0 < length bytes → HasNoFeed bytes 0 (length bytes)
    → lines_of (bytes ++ []) ≡ take (length bytes - 0) bytes ∷ lines_of (drop (length bytes) bytes ++ [])
unfolding lines_of
last_line bytes some none =
    ap lines_of (append-nil bytes) ∙ lines_of-last bytes some none
    ∙ ap (λ (line : List ℕ). line ∷ []) (sym (take_rest bytes 0))
    ∙ ap (λ (rest : List ℕ). take (length bytes - 0) bytes ∷ lines_of (rest ++ [])) (sym (drop-length bytes))

-- where nothing is told, nothing is said of a line
untold : (more : Bool) (line : List ℕ) → Reads more None line None
untold true line = refl
untold false line = refl

-- the last line, or none
told : (bytes : List ℕ) → HasNoFeed bytes 0 (length bytes)
    → Reads (nat_lt 0 (length bytes)) (Some (lines_of (bytes ++ []))) (take (length bytes - 0) bytes) (Some (lines_of (drop (length bytes) bytes ++ [])))
unfolding lines_of
told [] none = refl
told (b ∷ bs) none = rw (lt-ltb 0 (length (b ∷ bs)) (omega arith)) (ap (λ (lines : List (List ℕ)). Some lines) (last_line (b ∷ bs) (omega arith) none))

-- no line feed is held and nothing is left: the last line, or none
pub last_gathered : (held bytes : List ℕ) (left left' : Option (List ℕ)) → before bytes left' ≡ before held left → HasNoFeed bytes 0 (length bytes) → IsEnded left'
    → Reads (nat_lt 0 (length bytes)) (option_map lines_of (before held left)) (take (length bytes - 0) (drop 0 bytes)) (option_map lines_of (before (drop (length bytes) bytes) left'))
last_gathered held bytes left left' stream none ended = rw (← stream) (by_left left' ended)
  where
    by_left : (after : Option (List ℕ)) → IsEnded after → Reads (nat_lt 0 (length bytes)) (option_map lines_of (before bytes after)) (take (length bytes - 0) (drop 0 bytes)) (option_map lines_of (before (drop (length bytes) bytes) after))
    by_left None e = untold (nat_lt 0 (length bytes)) (take (length bytes - 0) bytes)
    by_left (Some rest) e = rw e (told bytes none)
