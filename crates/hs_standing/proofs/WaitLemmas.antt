-- What waits of a sane whole's lists: whose lines it is of, and how many root records it may add.
use Rattle.std.proofs.Common.{◌≡◌, ◌≢◌, ◌∙◌, ap, sym, subst, ℕ, zero, suc, ◌+◌, ◌<◌, ◌≤◌, cond, List, [], ◌∷◌, Option, Some, None, refl, arith, count_by}
use Rattle.std.proofs.lemmas.List.Elements.{All-from_recursion}
use Rattle.std.proofs.lemmas.List.Sums.{sum_by-cons}
use Rattle.std.specs.List.{AllByRecursion, enumerate_from}
use Rattle.std.specs.Prelude.{All, AllPairs, slice_get}
use Rattle.hs_effects.specs.Logged.{asked_by as asking_line}
use Rattle.hs_entry.specs.declared.entry.Entry.{Entry}
use Rattle.hs_entry.specs.declared.entry.Entry.TheVariants as kind
use Rattle.hs_fold.proofs.Shards.LawfulLemmas.{PairsBy, each-append, each-from, pairs-append, pairs-to}
use Rattle.hs_fold.specs.Pending.{asked_by}
use Rattle.hs_fold.specs.Shards.Setting.{Numbered}
use Rattle.hs_fold.specs.Shards.Fits.{puts_root}
use Rattle.hs_replica.specs.Kinds.{is_root}
use Rattle.hs_standing.specs.Lists.{Lists, waiting}
use Rattle.hs_standing.specs.Suffices.{all_asked, asked_lines, roots_in, with_asked}

-- ---- all that waits

-- what is so of each entry of a list is so of each under its number
pub each_numbered : (P : Entry → Type 0) (n : ℕ) (ws : List Entry) → ((place : ℕ) (entry : Entry) → slice_get ws place ≡ Some entry → P entry) → AllByRecursion (λ (e : ℕ × Entry). P e.1) (enumerate_from n ws)
each_numbered P n [] h = tt
each_numbered P n (w ∷ ws) h = (h 0 w refl, each_numbered P (n + 1) ws (λ place entry at. h (suc place) entry at))

pub all_waits : (P : Entry → Type 0) (n : ℕ) (ws : List Entry) (es : Numbered) → es ≡ enumerate_from n ws → ((place : ℕ) (entry : Entry) → slice_get ws place ≡ Some entry → P entry) → All (λ (e : ℕ × Entry). P e.1) es
all_waits P n ws es is h = subst (λ xs. All (λ (e : ℕ × Entry). P e.1) xs) (sym is) (All-from_recursion (λ (e : ℕ × Entry). P e.1) (enumerate_from n ws) (each_numbered P n ws h))

-- ---- root records

same_root : (entry : Entry) → puts_root entry ≡ is_root entry
same_root (kind.View view) = refl
same_root (kind.Block line least bytes) = refl
same_root (kind.Mark line least block address) = refl
same_root (kind.Root line held address key) = refl
same_root (kind.Drop line key) = refl
same_root (kind.Enter line epoch) = refl
same_root (kind.Got sender epoch round total deltas) = refl
same_root (kind.Base view epoch swept round frames) = refl
same_root (kind.KeptBlock born mark flags count bytes) = refl
same_root (kind.KeptRoot created dropped counted address key) = refl
same_root (kind.KeptRound way other epoch round total deltas) = refl

pub roots_are : (n : ℕ) (ws : List Entry) → roots_in (enumerate_from n ws) ≡ count_by is_root ws
roots_are n [] = refl
roots_are n (w ∷ ws) =
    ap (λ b. cond b 1 0 + roots_in (enumerate_from (n + 1) ws)) (same_root w)
    ∙ ap (λ m. cond (is_root w) 1 0 + m) (roots_are (n + 1) ws)
    ∙ sym (sum_by-cons (λ (x : Entry). cond (is_root x) 1 0) w ws)

-- ---- lines

-- the line that asked for an entry is the same in both words
pub same_asked : (entry : Entry) → asked_by entry ≡ asking_line entry
same_asked (kind.View view) = refl
same_asked (kind.Block line least bytes) = refl
same_asked (kind.Mark line least block address) = refl
same_asked (kind.Root line held address key) = refl
same_asked (kind.Drop line key) = refl
same_asked (kind.Enter line epoch) = refl
same_asked (kind.Got sender epoch round total deltas) = refl
same_asked (kind.Base view epoch swept round frames) = refl
same_asked (kind.KeptBlock born mark flags count bytes) = refl
same_asked (kind.KeptRoot created dropped counted address key) = refl
same_asked (kind.KeptRound way other epoch round total deltas) = refl

-- a line asked for the entry at a place of some list, from this place on
pub record IsFrom (ws : List Entry) (low line : ℕ) : Type 0 where
  pub place : ℕ
  pub high : low ≤ place
  pub entry : Entry
  pub at : slice_get ws place ≡ Some entry
  pub asks : asked_by entry ≡ Some line

-- two entries of one line stand at the same place
abbrev pub AreOnce : List Entry → Type 0
AreOnce ws = (i j line : ℕ) (one other : Entry) → slice_get ws i ≡ Some one → slice_get ws j ≡ Some other → asked_by one ≡ Some line → asked_by other ≡ Some line → i ≡ j

module _ (all : List Entry) where
  -- the rest of a list is all that stands from a place on
  abbrev IsRest : ℕ → List Entry → Type 0
  IsRest k ws = (i : ℕ) (entry : Entry) → slice_get ws i ≡ Some entry → slice_get all (k + i) ≡ Some entry

  rest_of : (k : ℕ) (w : Entry) (ws : List Entry) → IsRest k (w ∷ ws) → IsRest (k + 1) ws
  rest_of k w ws h i entry at = subst (λ n. slice_get all n ≡ Some entry) (shift k i) (h (suc i) entry at)
    where
      shift : (a b : ℕ) → a + suc b ≡ a + 1 + b
      shift a b = omega arith

  first_at : (k : ℕ) (w : Entry) (ws : List Entry) → IsRest k (w ∷ ws) → slice_get all k ≡ Some w
  first_at k w ws h = subst (λ n. slice_get all n ≡ Some w) (same k) (h 0 w refl)
    where
      same : (a : ℕ) → a + 0 ≡ a
      same a = omega arith

  later : (k line : ℕ) → IsFrom all (k + 1) line → IsFrom all k line
  later k line f = record { place = f.place; high = (let up = f.high in omega (arith, up)); entry = f.entry; at = f.at; asks = f.asks }

  lines_from : (n k : ℕ) (ws : List Entry) → IsRest k ws → AllByRecursion (λ line. IsFrom all k line) (asked_lines (enumerate_from n ws))
  lines_from n k [] h = tt
  lines_from n k (w ∷ ws) h = by_asked (asked_by w) refl (each-from (λ line. IsFrom all (k + 1) line) (λ line. IsFrom all k line) (asked_lines (enumerate_from (n + 1) ws)) (later k) (lines_from (n + 1) (k + 1) ws (rest_of k w ws h)))
    where
      by_asked : (o : Option ℕ) → asked_by w ≡ o → AllByRecursion (λ line. IsFrom all k line) (asked_lines (enumerate_from (n + 1) ws))
          → AllByRecursion (λ line. IsFrom all k line) (with_asked o (asked_lines (enumerate_from (n + 1) ws)))
      by_asked None e rest = rest
      by_asked (Some line) e rest = (record { place = k; high = omega arith; entry = w; at = first_at k w ws h; asks = e }, rest)

  lines_differ : AreOnce all → (n k : ℕ) (ws : List Entry) → IsRest k ws → PairsBy (λ (one other : ℕ). one ≢ other) (asked_lines (enumerate_from n ws))
  lines_differ once n k [] h = tt
  lines_differ once n k (w ∷ ws) h = by_asked (asked_by w) refl (lines_differ once (n + 1) (k + 1) ws (rest_of k w ws h))
    where
      by_asked : (o : Option ℕ) → asked_by w ≡ o → PairsBy (λ (one other : ℕ). one ≢ other) (asked_lines (enumerate_from (n + 1) ws))
          → PairsBy (λ (one other : ℕ). one ≢ other) (with_asked o (asked_lines (enumerate_from (n + 1) ws)))
      by_asked None e rest = rest
      by_asked (Some line) e rest = (
        each-from (λ other. IsFrom all (k + 1) other) (λ other. line ≢ other) (asked_lines (enumerate_from (n + 1) ws))
            (λ other f same.
            let up = f.high in
            let here : k ≡ f.place = once k f.place line w f.entry (first_at k w ws h) f.at e (f.asks ∙ ap (λ (m : ℕ). Some m) (sym same)) in
            omega (arith, up, here))
            (lines_from (n + 1) (k + 1) ws (rest_of k w ws h)),
        rest,
      )

all_rest : (all : List Entry) → (i : ℕ) (entry : Entry) → slice_get all i ≡ Some entry → slice_get all (0 + i) ≡ Some entry
all_rest all i entry at = subst (λ n. slice_get all n ≡ Some entry) (same i) at
  where
    same : (a : ℕ) → a ≡ 0 + a
    same a = omega arith

-- two entries of one line, in the lists of whatever shards, are the same
abbrev pub NoneTwice : (ℕ → List Entry) → ℕ → Type 0
NoneTwice ws count = (g h i j line : ℕ) (one other : Entry) → g < count → h < count → slice_get (ws g) i ≡ Some one → slice_get (ws h) j ≡ Some other → asked_by one ≡ Some line → asked_by other ≡ Some line → (g ≡ h) × (i ≡ j)

-- a line asked for an entry of a shard from this one on
record IsOfShard (ws : ℕ → List Entry) (low count line : ℕ) : Type 0 where
  pub shard : ℕ
  pub from : low ≤ shard
  pub within : shard < count
  pub of : IsFrom (ws shard) 0 line

module _ (lists : Lists) (ws : ℕ → List Entry) (number : ℕ → ℕ) (count : ℕ) (is : (g : ℕ) → g < count → waiting lists g ≡ enumerate_from (number g) (ws g)) where
  of_later : (k line : ℕ) → IsOfShard ws (k + 1) count line → IsOfShard ws k count line
  of_later k line f = record { shard = f.shard; from = (let up = f.from in omega (arith, up)); within = f.within; of = f.of }

  lines_here : (k : ℕ) → k < count → AllByRecursion (λ line. IsFrom (ws k) 0 line) (asked_lines (waiting lists k))
  lines_here k low = subst (λ es. AllByRecursion (λ line. IsFrom (ws k) 0 line) (asked_lines es)) (sym (is k low)) (lines_from (ws k) (number k) 0 (ws k) (all_rest (ws k)))

  lines_of : (k n : ℕ) → k + n ≡ count → AllByRecursion (λ line. IsOfShard ws k count line) (all_asked lists k n)
  lines_of k zero e = tt
  lines_of k (suc n) e =
      let low : k < count = omega (arith, e) in
      let next : k + 1 + n ≡ count = omega (arith, e) in
      each-append (λ line. IsOfShard ws k count line) (asked_lines (waiting lists k)) (all_asked lists (k + 1) n)
      (each-from (λ line. IsFrom (ws k) 0 line) (λ line. IsOfShard ws k count line) (asked_lines (waiting lists k)) (λ line f. record { shard = k; from = omega arith; within = low; of = f }) (lines_here k low))
      (each-from (λ line. IsOfShard ws (k + 1) count line) (λ line. IsOfShard ws k count line) (all_asked lists (k + 1) n) (of_later k) (lines_of (k + 1) n next))

  module _ (once : NoneTwice ws count) where
    pairs_of : (k n : ℕ) → k + n ≡ count → PairsBy (λ (one other : ℕ). one ≢ other) (all_asked lists k n)
    pairs_of k zero e = tt
    pairs_of k (suc n) e =
        let low : k < count = omega (arith, e) in
        let next : k + 1 + n ≡ count = omega (arith, e) in
        let here : PairsBy (λ (one other : ℕ). one ≢ other) (asked_lines (waiting lists k)) =
        subst (λ es. PairsBy (λ (one other : ℕ). one ≢ other) (asked_lines es)) (sym (is k low))
        (lines_differ (ws k) (λ i j line one other a b p q. (once k k i j line one other low low a b p q).1) (number k) 0 (ws k) (all_rest (ws k))) in
        pairs-append (λ (one other : ℕ). one ≢ other) (asked_lines (waiting lists k)) (all_asked lists (k + 1) n) here (pairs_of (k + 1) n next)
        (each-from (λ line. IsFrom (ws k) 0 line) (λ line. AllByRecursion (λ other. line ≢ other) (all_asked lists (k + 1) n)) (asked_lines (waiting lists k))
        (λ line f. each-from (λ other. IsOfShard ws (k + 1) count other) (λ other. line ≢ other) (all_asked lists (k + 1) n)
        (λ other g same.
        let up = g.from in
        let both = once k g.shard f.place g.of.place line f.entry g.of.entry low g.within f.at g.of.at f.asks (g.of.asks ∙ ap (λ (m : ℕ). Some m) (sym same)) in
        let here : k ≡ g.shard = both.0 in
        omega (arith, up, here))
        (lines_of (k + 1) n next))
        (lines_here k low))

    pub lines_apart : AllPairs (λ (one other : ℕ). one ≢ other) (all_asked lists 0 count)
    lines_apart = pairs-to (λ (one other : ℕ). one ≢ other) (all_asked lists 0 count) (pairs_of 0 count (omega arith))
