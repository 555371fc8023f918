-- The rank of a front of a list whose views never fall.
use Rattle.std.proofs.Common.{◌≡◌, ◌∙◌, ◌⊎◌, sym, inl, inr, ℕ, ◌+◌, ◌<◌, ◌≤◌, true, List, [], ◌∷◌, ◌++◌, drop, fold, length, take, refl, arith}
use Rattle.std.proofs.lemmas.Bool.Decides.{nat_tests}
use Rattle.std.proofs.lemmas.List.{append-nil, take-append-drop}
use Rattle.std.specs.List.{AllByRecursion}
use Rattle.hs_entry.specs.declared.entry.Entry.{Entry}
use Rattle.hs_entry.specs.declared.entry.Entry.TheVariants as kind
use Rattle.hs_entry.specs.declared.rank.Rank.{Rank}
use Rattle.hs_entry.specs.Entries.{IsPrefix, rank_after, rank_of}
use Rattle.hs_fold.proofs.PrefixLemmas.{last-length}
use Rattle.hs_fold.proofs.Shards.LawfulLemmas.{PairsBy, pairs-from}
use Rattle.hs_fold.specs.Opened.{outranks}
use Rattle.hs_fold.specs.Prefix.{GoOn, IsNumbered}
use Rattle.hs_fold.specs.Shards.Setting.{Numbered}
use Rattle.hs_fold.specs.Shards.Sound.{HasRisingViews, views_of, with_view}

-- ---- views

abbrev behind : Rank → Numbered → Rank
behind rank es = fold (λ (r : Rank) (x : ℕ × Entry). rank_after r x.0 x.1) rank es

abbrev AreUp : ℕ → List ℕ → Type 0
AreUp view views = AllByRecursion (λ (v : ℕ). view ≤ v) views

abbrev Rise : List ℕ → Type 0
Rise views = PairsBy (λ (earlier later : ℕ). earlier ≤ later) views

-- an entry more
record HasStepped (rank next : Rank) (views : List ℕ) : Type 0 where
  up : rank.view ≤ next.view
  low : AreUp next.view views
  rising : Rise views

same_step : (rank next : Rank) (views : List ℕ) → next.view ≡ rank.view → AreUp rank.view views → Rise views → HasStepped rank next views
same_step rank next views e low rising = record { up = omega (arith, e); low = rw e low; rising = rising }

view_step : (rank next : Rank) (v : ℕ) (views : List ℕ) → next.view ≡ v → AreUp rank.view (v ∷ views) → Rise (v ∷ views) → HasStepped rank next views
view_step rank next v views e low rising = record { up = let l = low.0 in omega (arith, e, l); low = rw e rising.0; rising = rising.1 }

step : (rank : Rank) (n : ℕ) (e : Entry) (views : List ℕ) → AreUp rank.view (with_view e views) → Rise (with_view e views) → HasStepped rank (rank_after rank n e) views
step rank n (kind.View view) views low rising = view_step rank (record { view = view; number = n }) view views refl low rising
step rank n (kind.Base view epoch swept round frames) views low rising = view_step rank (record { view = view; number = n }) view views refl low rising
step rank n (kind.Block op least bytes) views low rising = same_step rank (record { view = rank.view; number = n }) views refl low rising
step rank n (kind.Mark op least block address) views low rising = same_step rank (record { view = rank.view; number = n }) views refl low rising
step rank n (kind.Root op held address key) views low rising = same_step rank (record { view = rank.view; number = n }) views refl low rising
step rank n (kind.Drop op key) views low rising = same_step rank (record { view = rank.view; number = n }) views refl low rising
step rank n (kind.Enter op epoch) views low rising = same_step rank (record { view = rank.view; number = n }) views refl low rising
step rank n (kind.Got sender epoch round total deltas) views low rising = same_step rank (record { view = rank.view; number = n }) views refl low rising
step rank n (kind.KeptBlock born mark flags count bytes) views low rising = same_step rank rank views refl low rising
step rank n (kind.KeptRoot created dropped counted address key) views low rising = same_step rank rank views refl low rising
step rank n (kind.KeptRound way other epoch round total deltas) views low rising = same_step rank rank views refl low rising

-- the view does not fall
rest_up : (rank : Rank) (rest : Numbered) → AreUp rank.view (views_of rest) → Rise (views_of rest) → rank.view ≤ (behind rank rest).view
rest_up rank [] low rising = omega arith
rest_up rank (x ∷ rest) low rising =
    let s = step rank x.0 x.1 (views_of rest) low rising in
    let u = s.up in
    let r = rest_up (rank_after rank x.0 x.1) rest s.low s.rising in
    omega (arith, u, r)

front_up : (rank : Rank) (front rest : Numbered) → AreUp rank.view (views_of (front ++ rest)) → Rise (views_of (front ++ rest)) → (behind rank front).view ≤ (behind rank (front ++ rest)).view
front_up rank [] rest low rising = rest_up rank rest low rising
front_up rank (x ∷ front) rest low rising =
    let s = step rank x.0 x.1 (views_of (front ++ rest)) low rising in
    front_up (rank_after rank x.0 x.1) front rest s.low s.rising

all_up : (views : List ℕ) → AreUp 0 views
all_up [] = tt
all_up (v ∷ views) = (omega arith, all_up views)

front_view : (front rest : Numbered) → HasRisingViews (front ++ rest) → (rank_of front).view ≤ (rank_of (front ++ rest)).view
unfolding rank_of
front_view front rest rising = front_up (record { view = 0; number = 0 }) front rest (all_up (views_of (front ++ rest))) (pairs-from (λ (earlier later : ℕ). earlier ≤ later) (views_of (front ++ rest)) rising)

-- ---- numbers

front_numbered : (n : ℕ) (front rest : Numbered) → GoOn n (front ++ rest) → GoOn n front
front_numbered n [] rest g = tt
front_numbered n (x ∷ front) rest g = (g.0, g.1, front_numbered (n + 1) front rest g.2)

longer : (front rest : Numbered) (x : ℕ × Entry) → length front < length (front ++ x ∷ rest)
longer [] rest x = omega arith
longer (y ∷ front) rest x = let l = longer front rest x in omega (arith, l)

front_number : (front rest : Numbered) (x : ℕ × Entry) → IsNumbered (front ++ x ∷ rest) → (rank_of front).number < (rank_of (front ++ x ∷ rest)).number
front_number front rest x g =
    let a = last-length front (front_numbered 0 front (x ∷ rest) g) in
    let b = last-length (front ++ x ∷ rest) g in
    let l = longer front rest x in
    omega (arith, a, b, l)

-- ---- ranks

above : (a b : Rank) → b.view ≤ a.view → b.number < a.number → outranks a b ≡ true
above a b view number = grind (arith, nat_tests, view, number)

-- a front of a list has a lower rank, or is all of it
pub front_ranks : (list front : Numbered) → IsNumbered list → HasRisingViews list → IsPrefix front list → (front ≡ list) ⊎ (outranks (rank_of list) (rank_of front) ≡ true)
front_ranks list front numbered rising prefix = by prefix.0 (prefix.1)
  where
    by : (rest : Numbered) → list ≡ front ++ rest → (front ≡ list) ⊎ (outranks (rank_of list) (rank_of front) ≡ true)
    by [] e = inl (sym (e ∙ append-nil front))
    by (x ∷ rest) e =
        inr (rw e (above (rank_of (front ++ x ∷ rest)) (rank_of front) (front_view front (x ∷ rest) (rw e at rising)) (front_number front rest x (rw e at numbered))))

pub taken_front : (list : Numbered) (n : ℕ) → IsPrefix (take n list) list
taken_front list n = (drop n list, sym (take-append-drop n list))
