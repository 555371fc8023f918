-- One line of a run among the others: what stands before its events, and behind them.
use Rattle.std.proofs.Common.{◌≡◌, ◌⊎◌, inl, inr, ◌∙◌, ap, sym, subst, ℕ, ◌+◌, ◌<◌, ◌≤◌, ◌++◌, Bool, true, List, [], ◌∷◌, Option, None, refl, arith, length}
use Rattle.std.proofs.lemmas.Bool.{cases_eq}
use Rattle.std.proofs.lemmas.List.{append_assoc}
use Rattle.std.specs.List.{AllByRecursion}
use Rattle.hs_settled.proofs.AskLemmas.{AllIts, line_its}
use Rattle.hs_settled.proofs.NotingLemmas.{all_append}
use Rattle.hs_core_words.specs.declared.event.Event.{Event}
use Rattle.hs_core_words.specs.State.{Core}
use Rattle.hs_core_words.specs.Step.{line_of, step}
use Rattle.hs_events.proofs.RunLemmas.{steps_append}
use Rattle.hs_events.specs.Course.{steps}
use Rattle.hs_events.specs.Due.{Events}
use Rattle.hs_standing.specs.Script.{AreLines, IsLine, Script, all_events}
use Rattle.hs_model.specs.declared.command.Command.{Command}

-- ---- places in lists

head_is : {X : Type 0} (x y : X) (xs ys : List X) → x ∷ xs ≡ y ∷ ys → x ≡ y
head_is x y xs ys e = cc e

tail_is : {X : Type 0} (x y : X) (xs ys : List X) → x ∷ xs ≡ y ∷ ys → xs ≡ ys
tail_is x y xs ys e = cc e

-- of two places in one list, how they stand to each other
pub data Order {X : Type 0} (us : List X) (s : X) (vs xs : List X) (t : X) (ys : List X) : Type 0 where
  Before : (mid : List X) → xs ≡ us ++ s ∷ mid → vs ≡ mid ++ t ∷ ys → Order us s vs xs t ys
  Same : us ≡ xs → s ≡ t → Order us s vs xs t ys
  Behind : (mid : List X) → us ≡ xs ++ t ∷ mid → ys ≡ mid ++ s ∷ vs → Order us s vs xs t ys

pub order : {X : Type 0} (us : List X) (s : X) (vs xs : List X) (t : X) (ys : List X) → us ++ s ∷ vs ≡ xs ++ t ∷ ys → Order us s vs xs t ys
order [] s vs [] t ys e = Same refl (head_is s t vs ys e)
order [] s vs (x ∷ xs) t ys e = Before xs (ap (λ y. y ∷ xs) (sym (head_is s x vs (xs ++ t ∷ ys) e))) (tail_is s x vs (xs ++ t ∷ ys) e)
order (u ∷ us) s vs [] t ys e = Behind us (ap (λ y. y ∷ us) (head_is u t (us ++ s ∷ vs) ys e)) (sym (tail_is u t (us ++ s ∷ vs) ys e))
order (u ∷ us) s vs (x ∷ xs) t ys e = more (head_is u x (us ++ s ∷ vs) (xs ++ t ∷ ys) e) (order us s vs xs t ys (tail_is u x (us ++ s ∷ vs) (xs ++ t ∷ ys) e))
  where
    more : u ≡ x → Order us s vs xs t ys → Order (u ∷ us) s vs (x ∷ xs) t ys
    more same (Before mid is rest) = Before mid (λ i. sym same i ∷ is i) rest
    more same (Same front is) = Same (λ i. same i ∷ front i) is
    more same (Behind mid front is) = Behind mid (λ i. same i ∷ front i) is

-- a place in a list of two parts is in the first, or in the second
pub data Side {X : Type 0} (us : List X) (s : X) (vs before after : List X) : Type 0 where
  Early : (mid : List X) → before ≡ us ++ s ∷ mid → vs ≡ mid ++ after → Side us s vs before after
  Late : (mid : List X) → us ≡ before ++ mid → after ≡ mid ++ s ∷ vs → Side us s vs before after

pub side : {X : Type 0} (us : List X) (s : X) (vs before after : List X) → us ++ s ∷ vs ≡ before ++ after → Side us s vs before after
side us s vs [] after e = Late us refl (sym e)
side [] s vs (x ∷ before) after e = Early before (ap (λ y. y ∷ before) (sym (head_is s x vs (before ++ after) e))) (tail_is s x vs (before ++ after) e)
side (u ∷ us) s vs (x ∷ before) after e = more (head_is u x (us ++ s ∷ vs) (before ++ after) e) (side us s vs before after (tail_is u x (us ++ s ∷ vs) (before ++ after) e))
  where
    more : u ≡ x → Side us s vs before after → Side (u ∷ us) s vs (x ∷ before) after
    more same (Early mid is rest) = Early mid (λ i. sym same i ∷ is i) rest
    more same (Late mid front is) = Late mid (λ i. same i ∷ front i) is

pub all_mid : {X : Type 0} (Q : X → Type 0) (xs : List X) (x : X) (ys : List X) → AllByRecursion Q (xs ++ x ∷ ys) → Q x
all_mid Q [] x ys h = h.0
all_mid Q (z ∷ xs) x ys h = all_mid Q xs x ys h.1

-- ---- events of other lines

abbrev pub NoneOf : ℕ → Events → Type 0
NoneOf k es = AllByRecursion (λ (e : Event × ℕ). line_of e.0 ≡ k → ⊥) es

pub its_none : (commands : ℕ → Option Command) (line : ℕ) (core : Core) (es : Events) → AllIts commands line core es → (k : ℕ) → 1 ≤ k → (k ≡ line → ⊥) → NoneOf k es
its_none commands line core [] its k one apart = tt
its_none commands line core (e ∷ es) its k one apart = (here its.0.of, its_none commands line (step e.0 e.1 core) es its.1 k one apart)
  where
    here : (line_of e.0 ≡ 0) ⊎ (line_of e.0 ≡ line) → line_of e.0 ≡ k → ⊥
    here (inl none) same = omega (arith, same, none, one)
    here (inr own) same = apart (sym same ∙ own)

-- lines from one on have none of an earlier one
pub lines_none : (s : Script) (line : ℕ) (core : Core) (lines : List Events) → AreLines s line core lines → (k : ℕ) → 1 ≤ k → k < line → NoneOf k (all_events lines)
lines_none s line core [] are k one low = tt
lines_none s line core (es ∷ []) are k one low =
    all_append (λ (e : Event × ℕ). line_of e.0 ≡ k → ⊥) es []
    (its_none s.commands line core es (line_its s.commands s.name (record { line = line; core = core; events = es; whole = s.past }) are.going are.events) k one (λ same. omega (arith, same, low))) tt
lines_none s line core (es ∷ next ∷ rest) are k one low =
    all_append (λ (e : Event × ℕ). line_of e.0 ≡ k → ⊥) es (all_events (next ∷ rest))
    (its_none s.commands line core es (line_its s.commands s.name (record { line = line; core = core; events = es; whole = true }) are.0.going are.0.events) k one (λ same. omega (arith, same, low)))
    (lines_none s (line + 1) (steps core es) (next ∷ rest) are.1 k one (omega (arith, low)))

-- ---- a line among others

-- the lines before it, which have no event of it; its events; and the lines behind it
pub record Parted (s : Script) (line : ℕ) (core : Core) (lines : List Events) (k : ℕ) : Type 0 where
  pub front : List Events
  pub own : Events
  pub rest : List Events
  pub is : all_events lines ≡ all_events front ++ (own ++ all_events rest)
  pub last : rest ≡ [] → k + 1 ≡ line + length lines
  pub first : NoneOf k (all_events front)
  pub here : AreLines s k (steps core (all_events front)) (own ∷ rest)

pub parted : (s : Script) (line : ℕ) (core : Core) (lines : List Events) → AreLines s line core lines → 1 ≤ line → (k : ℕ) → line ≤ k → k < line + length lines → Parted s line core lines k
parted s line core [] are one k from to = absurd (omega (arith, from, to))
parted s line core (es ∷ []) are one k from to =
    let here : line ≡ k = omega (arith, from, to) in
    subst (λ j. Parted s line core (es ∷ []) j) here (record { front = []; own = es; rest = []; is = refl; last = λ e. omega arith; first = tt; here = are })
parted s line core (es ∷ next ∷ rest) are one k from to = elim (cases_eq line k) [
  | inl same ↦ subst (λ j. Parted s line core (es ∷ next ∷ rest) j) same (record { front = []; own = es; rest = next ∷ rest; is = refl; last = λ e. absurd (cc e); first = tt; here = are })
  | inr apart ↦
      let p : Parted s (line + 1) (steps core es) (next ∷ rest) k = parted s (line + 1) (steps core es) (next ∷ rest) are.1 (omega arith) k (omega (arith, from, apart)) (omega (arith, to)) in
      let its : AllIts s.commands line core es = line_its s.commands s.name (record { line = line; core = core; events = es; whole = true }) are.0.going are.0.events in
      record {
        front = es ∷ p.front;
        own = p.own;
        rest = p.rest;
        is = ap (λ xs. es ++ xs) p.is ∙ sym (append_assoc es (all_events p.front) (p.own ++ all_events p.rest));
        last = λ e. (let n = p.last e in omega (arith, n));
        first = all_append (λ (e : Event × ℕ). line_of e.0 ≡ k → ⊥) es (all_events p.front) (its_none s.commands line core es its k (omega (arith, one, from)) (λ same. apart (sym same))) p.first;
        here = subst (λ (c : Core). AreLines s k c (p.own ∷ p.rest)) (sym (steps_append core es (all_events p.front))) p.here;
      }
]

-- its events are of its command; it was gone past, or is the last
pub record OwnLine (s : Script) (k : ℕ) (core : Core) (own : Events) (rest : List Events) : Type 0 where
  pub whole : Bool
  pub line : IsLine s (record { line = k; core = core; events = own; whole = whole })
  pub past : (whole ≡ true) ⊎ ((rest ≡ []) × (whole ≡ s.past))
  pub later : (k' : ℕ) → 1 ≤ k' → k' ≤ k → NoneOf k' (all_events rest)
  pub going : (rest ≡ [] → ⊥) → (steps core own).ended ≡ None

pub own_line : (s : Script) (k : ℕ) (core : Core) (own : Events) (rest : List Events) → AreLines s k core (own ∷ rest) → OwnLine s k core own rest
own_line s k core own [] are = record { whole = s.past; line = are; past = inr (refl, refl); later = λ j one low. tt; going = λ some. absurd (some refl) }
own_line s k core own (next ∷ rest) are = record {
  whole = true;
  line = are.0;
  past = inl refl;
  later = λ j one low. lines_none s (k + 1) (steps core own) (next ∷ rest) are.1 j one (omega (arith, low));
  going = λ some. next_on rest are.1;
}
  where
    next_on : (rest : List Events) → AreLines s (k + 1) (steps core own) (next ∷ rest) → (steps core own).ended ≡ None
    next_on [] a = a.going
    next_on (x ∷ xs) a = a.0.going
