-- Lists whose entries are numbered one after another.
use Rattle.std.proofs.Common.{◌≡◌, ℕ, ◌+◌, ◌<◌, ◌≤◌, inl, inr, List, [], ◌∷◌, ◌++◌, length, filter, true, false, refl, sym, ap, ◌∙◌, subst, nat_le, fold, arith}
use Rattle.std.proofs.lemmas.Bool.Decides.{nat_tests}
use Rattle.hs_model.proofs.Members.{Member}
use Rattle.hs_entry.specs.declared.entry.Entry.{Entry}
use Rattle.hs_entry.specs.declared.entry.Entry.TheVariants as kind
use Rattle.hs_entry.specs.declared.rank.Rank.{Rank}
use Rattle.hs_entry.specs.Entries.{rank_after, rank_of, is_of_base, IsPrefix}
use Rattle.hs_fold.specs.Prefix.{last_of, GoOn, IsNumbered}

-- ---- the last number

after : (rank : Rank) (number : ℕ) (entry : Entry) → is_of_base entry ≡ false → (rank_after rank number entry).number ≡ number
after rank number (kind.View view) f = refl
after rank number (kind.Block op least bytes) f = refl
after rank number (kind.Mark op least block address) f = refl
after rank number (kind.Root op held address key) f = refl
after rank number (kind.Drop op key) f = refl
after rank number (kind.Enter op epoch) f = refl
after rank number (kind.Got sender epoch round total deltas) f = refl
after rank number (kind.Base view epoch swept round frames) f = cc f
after rank number (kind.KeptBlock born mark flags count bytes) f = cc f
after rank number (kind.KeptRoot created dropped counted address key) f = cc f
after rank number (kind.KeptRound way other epoch round total deltas) f = cc f

pub folded : (rank : Rank) (es : List (ℕ × Entry)) → GoOn rank.number es → (fold (λ (r : Rank) (x : ℕ × Entry). rank_after r x.0 x.1) rank es).number ≡ rank.number + length es
folded rank [] g = omega arith
folded rank (e ∷ es) g =
    let next : Rank = rank_after rank e.0 e.1 in
    let number : next.number ≡ rank.number + 1 = after rank e.0 e.1 g.1 ∙ g.0 in
    let rest : GoOn next.number es = subst (λ n. GoOn n es) (sym number) g.2 in
    folded next es rest ∙ rw number (omega arith)

pub last-length : (es : List (ℕ × Entry)) → IsNumbered es → last_of es ≡ length es
unfolding rank_of
last-length es g = folded (record { view = 0; number = 0 }) es g ∙ omega arith

-- ---- one entry a number

-- no number up to the start is there
low-gone : (n : ℕ) (es : List (ℕ × Entry)) → GoOn n es → (k : ℕ) (a : Entry) → Member (k, a) es → n < k
low-gone n [] g k a m = elim m [ ]
low-gone n (e ∷ es) g k a (inl h) = let at : k ≡ n + 1 = ap (λ x. x.0) h ∙ g.0 in omega (arith, at)
low-gone n (e ∷ es) g k a (inr m) = let more : n + 1 < k = low-gone (n + 1) es g.2 k a m in omega (arith, more)

pub one-each : (n : ℕ) (es : List (ℕ × Entry)) → GoOn n es → (k : ℕ) (a b : Entry) → Member (k, a) es → Member (k, b) es → a ≡ b
one-each n [] g k a b p q = elim p [ ]
one-each n (e ∷ es) g k a b (inl p) (inl q) = ap (λ x. x.1) (p ∙ sym q)
one-each n (e ∷ es) g k a b (inl p) (inr q) = let at : k ≡ n + 1 = ap (λ x. x.0) p ∙ g.0 in let more : n + 1 < k = low-gone (n + 1) es g.2 k b q in absurd (omega (arith, at, more))
one-each n (e ∷ es) g k a b (inr p) (inl q) = let at : k ≡ n + 1 = ap (λ x. x.0) q ∙ g.0 in let more : n + 1 < k = low-gone (n + 1) es g.2 k a p in absurd (omega (arith, at, more))
one-each n (e ∷ es) g k a b (inr p) (inr q) = one-each (n + 1) es g.2 k a b p q

pub in-front : (front rest : List (ℕ × Entry)) (e : ℕ × Entry) → Member e front → Member e (front ++ rest)
in-front [] rest e m = elim m [ ]
in-front (x ∷ front) rest e (inl h) = inl h
in-front (x ∷ front) rest e (inr m) = inr (in-front front rest e m)

-- ---- the entries up to a number

none-up_to : (n k : ℕ) (es : List (ℕ × Entry)) → GoOn n es → k ≤ n → filter (λ e. nat_le e.0 k) es ≡ []
none-up_to n k [] g h = refl
none-up_to n k (e ∷ es) g h =
    let above : nat_le e.0 k ≡ false = rw g.0 (grind (arith, nat_tests, h)) in
    rw above (none-up_to (n + 1) k es g.2 (omega (arith, h)))

pub front-up_to : (n k : ℕ) (front rest : List (ℕ × Entry)) → GoOn n (front ++ rest) → k ≡ n + length front → filter (λ e. nat_le e.0 k) (front ++ rest) ≡ front
front-up_to n k [] rest g h = none-up_to n k rest g (omega (arith, h))
front-up_to n k (e ∷ front) rest g h =
    let within : nat_le e.0 k ≡ true = rw g.0 (grind (arith, nat_tests, h)) in
    rw within (ap (λ es. e ∷ es) (front-up_to (n + 1) k front rest g.2 (omega (arith, h))))

-- ---- prefixes

-- by the numbers alone
abbrev Agrees : List (ℕ × Entry) → List (ℕ × Entry) → Type 0
Agrees front all = (number : ℕ) (a b : Entry) → Member (number, a) front → Member (number, b) all → a ≡ b

pub list-prefix : (n : ℕ) (front all : List (ℕ × Entry)) → GoOn n front → GoOn n all → length front ≤ length all → Agrees front all → IsPrefix front all
list-prefix n [] all f g h same = (all, refl)
list-prefix n (x ∷ front) [] f g h same = absurd (omega (arith, h))
list-prefix n (x ∷ front) (y ∷ all) f g h same =
    let numbers : x.0 ≡ y.0 = f.0 ∙ sym g.0 in
    let entries : x.1 ≡ y.1 = same x.0 x.1 y.1 (inl refl) (inl (λ i. (numbers i, y.1))) in
    let more : length front ≤ length all = omega (arith, h) in
    let rest : IsPrefix front all = list-prefix (n + 1) front all f.2 g.2 more (λ k a b p q. same k a b (inr p) (inr q)) in
    (rest.0, λ i. (sym numbers i, sym entries i) ∷ rest.1 i)
