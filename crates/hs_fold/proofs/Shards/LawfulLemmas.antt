-- What waits of all shards comes lawfully behind what took effect.
use Rattle.std.proofs.Common.{◌≡◌, ◌≢◌, ℕ, zero, suc, ◌+◌, ◌<◌, ◌≤◌, ◌==◌, Bool, true, false, cond, List, [], ◌∷◌, ◌++◌, length, refl, sym, ap, ◌∙◌, subst, arith}
use Rattle.std.proofs.lemmas.Bool.{eq-eqb, ne_eqb}
use Rattle.std.proofs.lemmas.Grind.{common_steps}
use Rattle.std.proofs.lemmas.List.{append-nil}
use Rattle.std.proofs.lemmas.List.Elements.{All-get_or, All-from_get_or, All-from_recursion, recursion_from_All}
use Rattle.std.specs.List.{AllByRecursion}
use Rattle.std.specs.Prelude.{AllPairs}
use Rattle.hs_laws.proofs.ValidLemmas.{Valid}
use Rattle.hs_entry.specs.declared.entry.Entry.{Entry}
use Rattle.hs_fold.specs.Lawful.{Deed, Ascends, list_at}
use Rattle.hs_fold.specs.Prefix.{GoOn, last_of}
use Rattle.hs_fold.specs.Shards.Catalogue.{Catalogue}
use Rattle.hs_fold.specs.Shards.Fits.{MayCome}
use Rattle.hs_fold.specs.Shards.History.{follow, follow_all, entries_of, FitAll, AreLawful, no_entries}
use Rattle.hs_fold.specs.Shards.Mine.{AreMine}
use Rattle.hs_fold.specs.Shards.Opened.{store_of, catalogues}
use Rattle.hs_fold.specs.Shards.Parted.{Parted, back_at, done_lists, whole_lists, NamesUpTo, MayAllWait}
use Rattle.hs_fold.specs.Shards.Setting.{Numbered, Setting}
use Rattle.hs_fold.proofs.Shards.DeedLemmas.{AreOf, deed-mine, length-follow, AreBehind, whole-follows, length-catalogues, length-done}
use Rattle.hs_fold.proofs.Shards.KeepLemmas.{Onward}
use Rattle.hs_fold.proofs.Shards.LastLemmas.{Between, last-goes_on}
use Rattle.hs_fold.proofs.Shards.ListLemmas.{lists-mine}
use Rattle.hs_fold.proofs.Shards.WaitLemmas.{deed-keeps, may-still, is-other}

-- ---- lists of facts

pub each-append : {X : Type 0} (P : X → Type 0) (xs ys : List X) → AllByRecursion P xs → AllByRecursion P ys → AllByRecursion P (xs ++ ys)
each-append P [] ys h k = k
each-append P (x ∷ xs) ys h k = (h.0, each-append P xs ys h.1 k)

pub each-from : {X : Type 0} (P Q : X → Type 0) (xs : List X) → ((x : X) → P x → Q x) → AllByRecursion P xs → AllByRecursion Q xs
each-from P Q [] f h = tt
each-from P Q (x ∷ xs) f h = (f x h.0, each-from P Q xs f h.1)

abbrev pub PairsBy : {X : Type 0} → (X → X → Type 0) → List X → Type 0
PairsBy R [] = Unit {0}
PairsBy R (x ∷ xs) = AllByRecursion (R x) xs × PairsBy R xs

pub pairs-from : {X : Type 0} (R : X → X → Type 0) (xs : List X) → AllPairs R xs → PairsBy R xs
pairs-from R [] f = tt
pairs-from R (x ∷ xs) f = (
  recursion_from_All (R x) xs (All-from_get_or (R x) xs x (λ j l. f 0 (suc j) x (omega arith) (grind (arith, common_steps, l)))),
  pairs-from R xs (λ i j d l m. f (suc i) (suc j) d (omega (arith, l)) (grind (arith, common_steps, m))),
)

pub pairs-to : {X : Type 0} (R : X → X → Type 0) (xs : List X) → PairsBy R xs → AllPairs R xs
pairs-to R [] h i j d l m = absurd (omega (arith, m))
pairs-to R (x ∷ xs) h i zero d l m = absurd (omega (arith, l))
pairs-to R (x ∷ xs) h zero (suc j) d l m = All-get_or (R x) xs j d (grind (arith, common_steps, m)) (All-from_recursion (R x) xs h.0)
pairs-to R (x ∷ xs) h (suc i) (suc j) d l m = pairs-to R xs h.1 i j d (omega (arith, l)) (grind (arith, common_steps, m))

pub pairs-append : {X : Type 0} (R : X → X → Type 0) (xs ys : List X) → PairsBy R xs → PairsBy R ys → AllByRecursion (λ x. AllByRecursion (R x) ys) xs → PairsBy R (xs ++ ys)
pairs-append R [] ys h k c = k
pairs-append R (x ∷ xs) ys h k c = (each-append (R x) xs ys h.0 c.0, pairs-append R xs ys h.1 k c.1)

-- ---- histories go on

follow-append : (set : Setting) (cs : List Catalogue) (one more : List Deed) → follow_all set cs (one ++ more) ≡ follow_all set (follow_all set cs one) more
follow-append set cs [] more = refl
follow-append set cs (d ∷ one) more = follow-append set (follow set cs d) one more

fit-append : (set : Setting) (cs : List Catalogue) (one more : List Deed) → FitAll set cs one → FitAll set (follow_all set cs one) more → FitAll set cs (one ++ more)
fit-append set cs [] more f g = g
fit-append set cs (d ∷ one) more f g = (f.0, f.1, fit-append set (follow set cs d) one more f.2 g)

-- ---- what waits

-- an entry of a shard is behind the number up to which its shard took effect, names none behind that, and may come
pub record Waits (set : Setting) (front : ℕ → ℕ) (cs : List Catalogue) (deed : Deed) : Type 0 where
  pub of : deed.shard < set.shape.shards
  pub above : front deed.shard < deed.number
  pub names : NamesUpTo (front deed.shard) deed.entry
  pub may : MayCome cs deed.shard deed.entry

abbrev pub AllWait : Setting → (ℕ → ℕ) → List Catalogue → List Deed → Type 0
AllWait set front cs deeds = AllByRecursion (Waits set front cs) deeds

pub wait-of : (set : Setting) (front : ℕ → ℕ) (cs : List Catalogue) (deeds : List Deed) → AllWait set front cs deeds → AreOf set.shape.shards deeds
wait-of set front cs deeds w = each-from (Waits set front cs) (λ deed. deed.shard < set.shape.shards) deeds (λ deed x. x.of) w

-- behind one that waits the others wait still
wait-on : (set : Setting) (front : ℕ → ℕ) (cs : List Catalogue) (deed : Deed) → length cs ≡ set.shape.shards → AreMine set.shape.shards 0 cs → Waits set front cs deed → Onward (store_of cs) (store_of (follow set cs deed))
    → (deeds : List Deed) → AllWait set front cs deeds → AllWait set front (follow set cs deed) deeds
wait-on set front cs deed all mine w on deeds ws = each-from (Waits set front cs) (Waits set front (follow set cs deed)) deeds
    (λ d x. record {
      of = x.of;
      above = x.above;
      names = x.names;
      may = may-still set deed cs all w.of mine on d.shard d.entry (is-other set deed cs all w.of mine on front d.shard d.entry w.above x.names) x.may;
    }) ws

-- from some catalogues on, entries that wait leave a valid store, and fit
pub record Goes (set : Setting) (cs : List Catalogue) (deeds : List Deed) : Type 0 where
  pub valid : Valid (store_of (follow_all set cs deeds))
  pub fits : FitAll set cs deeds

pub waiting-go : (set : Setting) (front : ℕ → ℕ) (deeds : List Deed) (cs : List Catalogue) → length cs ≡ set.shape.shards → AreMine set.shape.shards 0 cs → Valid (store_of cs) → AllWait set front cs deeds → Goes set cs deeds
waiting-go set front [] cs all mine v ws = record { valid = v; fits = tt }
waiting-go set front (deed ∷ deeds) cs all mine v ws =
    let kept = deed-keeps set deed cs all ws.0.of mine v ws.0.may in
    let next = waiting-go set front deeds (follow set cs deed) (length-follow set cs deed ∙ all) (deed-mine set deed cs all ws.0.of mine) kept.0 (wait-on set front cs deed all mine ws.0 kept.1 deeds ws.1) in
    record { valid = next.valid; fits = (ws.0.of, (λ changed. ws.0.may), next.fits) }

-- ---- what is behind of all shards, as one history

abbrev pub deeds_of : ℕ → Numbered → List Deed
deeds_of shard [] = []
deeds_of shard (e ∷ es) = record { shard = shard; number = e.0; entry = e.1 } ∷ deeds_of shard es

abbrev pub behind_deeds : ℕ → List Parted → List Deed
behind_deeds shard [] = []
behind_deeds shard (x ∷ xs) = deeds_of shard x.back ++ behind_deeds (shard + 1) xs

entries-same : (g : ℕ) (es : Numbered) → entries_of g (deeds_of g es) ≡ es
entries-same g [] = refl
entries-same g (e ∷ es) = ap (λ b. cond b (e ∷ entries_of g (deeds_of g es)) (entries_of g (deeds_of g es))) (eq-eqb g g refl) ∙ ap (λ rest. e ∷ rest) (entries-same g es)

entries-other : (k g : ℕ) → g ≢ k → (es : Numbered) → entries_of k (deeds_of g es) ≡ []
entries-other k g differs [] = refl
entries-other k g differs (e ∷ es) = ap (λ b. cond b (e ∷ entries_of k (deeds_of g es)) (entries_of k (deeds_of g es))) (ne_eqb g k differs) ∙ entries-other k g differs es

entries-append : (k : ℕ) (one more : List Deed) → entries_of k (one ++ more) ≡ entries_of k one ++ entries_of k more
entries-append k [] more = refl
entries-append k (d ∷ one) more = go (entries-append k one more) (d.shard == k)
  where
    go : entries_of k (one ++ more) ≡ entries_of k one ++ entries_of k more → (b : Bool) → cond b ((d.number, d.entry) ∷ entries_of k (one ++ more)) (entries_of k (one ++ more)) ≡ cond b ((d.number, d.entry) ∷ entries_of k one) (entries_of k one) ++ entries_of k more
    go ih true = ap (λ rest. (d.number, d.entry) ∷ rest) ih
    go ih false = ih

-- none of an earlier shard
entries-none : (k g : ℕ) → k < g → (lists : List Parted) → entries_of k (behind_deeds g lists) ≡ []
entries-none k g low [] = refl
entries-none k g low (x ∷ lists) =
    entries-append k (deeds_of g x.back) (behind_deeds (g + 1) lists)
    ∙ ap (λ es. es ++ entries_of k (behind_deeds (g + 1) lists)) (entries-other k g (λ same. omega (arith, low, same)) x.back)
    ∙ entries-none k (g + 1) (omega (arith, low)) lists

entries-behind : (g : ℕ) (lists : List Parted) (k : ℕ) → k < length lists → entries_of (g + k) (behind_deeds g lists) ≡ back_at lists k
entries-behind g [] k low = absurd (omega (arith, low))
entries-behind g (x ∷ lists) zero low =
    ap (λ m. entries_of m (behind_deeds g (x ∷ lists))) (zero-right g)
    ∙ entries-append g (deeds_of g x.back) (behind_deeds (g + 1) lists)
    ∙ ap (λ es. es ++ entries_of g (behind_deeds (g + 1) lists)) (entries-same g x.back)
    ∙ ap (λ es. x.back ++ es) (entries-none g (g + 1) (omega arith) lists)
    ∙ append-nil x.back
  where
    zero-right : (m : ℕ) → m + 0 ≡ m
    zero-right m = omega arith
entries-behind g (x ∷ lists) (suc k) low =
    entries-append (g + suc k) (deeds_of g x.back) (behind_deeds (g + 1) lists)
    ∙ ap (λ es. es ++ entries_of (g + suc k) (behind_deeds (g + 1) lists)) (entries-other (g + suc k) g (λ same. omega (arith, same)) x.back)
    ∙ ap (λ m. entries_of m (behind_deeds (g + 1) lists)) (shift g k)
    ∙ entries-behind (g + 1) lists k (omega (arith, low))
  where
    shift : (a b : ℕ) → a + suc b ≡ a + 1 + b
    shift a b = omega arith

pub all-behind : (lists : List Parted) → AreBehind lists (behind_deeds 0 lists)
all-behind lists k low = ap (λ m. entries_of m (behind_deeds 0 lists)) (zero-left k) ∙ entries-behind 0 lists k low
  where
    zero-left : (m : ℕ) → m ≡ 0 + m
    zero-left m = omega arith

-- ---- what may wait

abbrev pub AllGoOn : List Parted → Type 0
AllGoOn [] = Unit {0}
AllGoOn (x ∷ xs) = GoOn (last_of x.done) x.back × AllGoOn xs

goes-on-each : (cs : List Catalogue) (g : ℕ) (lists : List Parted) → MayAllWait cs g lists → AllGoOn lists
goes-on-each cs g [] w = tt
goes-on-each cs g (x ∷ lists) w = (w.0.0, goes-on-each cs (g + 1) lists w.1)

list-waits : (set : Setting) (front : ℕ → ℕ) (cs : List Catalogue) (g n : ℕ) (es : Numbered) → g < set.shape.shards → front g ≤ n → GoOn n es
    → AllByRecursion (λ (e : ℕ × Entry). NamesUpTo (front g) e.1 × MayCome cs g e.1) es → AllWait set front cs (deeds_of g es)
list-waits set front cs g n [] low l goes w = tt
list-waits set front cs g n (e ∷ es) low l goes w =
    let number : e.0 ≡ n + 1 = goes.0 in
    (record { of = low; above = omega (arith, number, l); names = w.0.0; may = w.0.1 }, list-waits set front cs g (n + 1) es low (omega (arith, l)) goes.2 w.1)

lists-wait : (set : Setting) (front : ℕ → ℕ) (cs : List Catalogue) (g : ℕ) (lists : List Parted) → g + length lists ≡ set.shape.shards
    → ((k : ℕ) → k < length lists → front (g + k) ≡ last_of (list_at (done_lists lists) k)) → MayAllWait cs g lists → AllWait set front cs (behind_deeds g lists)
lists-wait set front cs g [] count f w = tt
lists-wait set front cs g (x ∷ lists) count f w =
    each-append (Waits set front cs) (deeds_of g x.back) (behind_deeds (g + 1) lists) here (lists-wait set front cs (g + 1) lists (omega (arith, count)) (λ k low. ap front (shift g k) ∙ f (suc k) (omega (arith, low))) w.1)
  where
    shift : (a b : ℕ) → a + 1 + b ≡ a + suc b
    shift a b = omega arith

    at : front g ≡ last_of x.done
    at = ap front (zero-right g) ∙ f 0 (omega arith)
      where
        zero-right : (m : ℕ) → m ≡ m + 0
        zero-right m = omega arith

    facts : AllByRecursion (λ (e : ℕ × Entry). NamesUpTo (front g) e.1 × MayCome cs g e.1) x.back
    facts = subst (λ m. AllByRecursion (λ (e : ℕ × Entry). NamesUpTo m e.1 × MayCome cs g e.1) x.back) (sym at) (recursion_from_All (λ (e : ℕ × Entry). NamesUpTo (last_of x.done) e.1 × MayCome cs g e.1) x.back w.0.1)

    here : AllWait set front cs (deeds_of g x.back)
    here = list-waits set front cs g (last_of x.done) x.back (omega (arith, count)) (omega (arith, at)) w.0.0 facts

-- ---- its numbers

of-shard : (g : ℕ) (es : Numbered) → AllByRecursion (λ (d : Deed). d.shard ≡ g) (deeds_of g es)
of-shard g [] = tt
of-shard g (e ∷ es) = (refl, of-shard g es)

of-later : (g : ℕ) (lists : List Parted) → AllByRecursion (λ (d : Deed). g ≤ d.shard) (behind_deeds g lists)
of-later g [] = tt
of-later g (x ∷ lists) = each-append (λ (d : Deed). g ≤ d.shard) (deeds_of g x.back) (behind_deeds (g + 1) lists)
    (each-from (λ (d : Deed). d.shard ≡ g) (λ (d : Deed). g ≤ d.shard) (deeds_of g x.back) (λ d same. omega (arith, same)) (of-shard g x.back))
    (each-from (λ (d : Deed). g + 1 ≤ d.shard) (λ (d : Deed). g ≤ d.shard) (behind_deeds (g + 1) lists) (λ d low. omega (arith, low)) (of-later (g + 1) lists))

numbers-of : (g low n high : ℕ) (es : Numbered) → low ≤ n → n + length es ≤ high → GoOn n es → AllByRecursion (λ (d : Deed). Between low high d.number) (deeds_of g es)
numbers-of g low n high [] l h goes = tt
numbers-of g low n high (e ∷ es) l h goes =
    let number : e.0 ≡ n + 1 = goes.0 in
    (record { above = omega (arith, number, l); within = omega (arith, number, h) }, numbers-of g low (n + 1) high es (omega (arith, l)) (omega (arith, h)) goes.2)

deeds-pairs : (g n : ℕ) (es : Numbered) → GoOn n es → PairsBy Ascends (deeds_of g es)
deeds-pairs g n [] goes = tt
deeds-pairs g n (e ∷ es) goes =
    let number : e.0 ≡ n + 1 = goes.0 in
    let first : Deed = record { shard = g; number = e.0; entry = e.1 } in (
      each-from (λ (d : Deed). Between (n + 1) (n + 1 + length es) d.number) (Ascends first) (deeds_of g es) (λ d b same. let up = b.above in omega (arith, number, up)) (numbers-of g (n + 1) (n + 1) (n + 1 + length es) es (omega arith) (omega arith) goes.2),
      deeds-pairs g (n + 1) es goes.2,
    )

pub behind-pairs : (g : ℕ) (lists : List Parted) → AllGoOn lists → PairsBy Ascends (behind_deeds g lists)
behind-pairs g [] goes = tt
behind-pairs g (x ∷ lists) goes = pairs-append Ascends (deeds_of g x.back) (behind_deeds (g + 1) lists) (deeds-pairs g (last_of x.done) x.back goes.0) (behind-pairs (g + 1) lists goes.1)
    (each-from (λ (d : Deed). d.shard ≡ g) (λ d. AllByRecursion (Ascends d) (behind_deeds (g + 1) lists)) (deeds_of g x.back)
    (λ first here. each-from (λ (d : Deed). g + 1 ≤ d.shard) (Ascends first) (behind_deeds (g + 1) lists) (λ d low same. absurd (omega (arith, here, low, same))) (of-later (g + 1) lists)) (of-shard g x.back))

-- the last numbers rise
pub last-rises : (lists : List Parted) → AllGoOn lists → (k : ℕ) → last_of (list_at (done_lists lists) k) ≤ last_of (list_at (whole_lists lists) k)
last-rises [] goes k = omega arith
last-rises (x ∷ lists) goes zero = let last = last-goes_on x.done x.back goes.0 in omega (arith, last)
last-rises (x ∷ lists) goes (suc k) = last-rises lists goes.1 k

pub behind-within : (high : ℕ → ℕ) (g : ℕ) (lists : List Parted) → ((k : ℕ) → k < length lists → last_of (list_at (whole_lists lists) k) ≤ high (g + k)) → AllGoOn lists
    → AllByRecursion (λ (d : Deed). d.number ≤ high d.shard) (behind_deeds g lists)
behind-within high g [] f goes = tt
behind-within high g (x ∷ lists) f goes = each-append (λ (d : Deed). d.number ≤ high d.shard) (deeds_of g x.back) (behind_deeds (g + 1) lists) here
    (behind-within high (g + 1) lists (λ k low. subst (λ m. last_of (list_at (whole_lists lists) k) ≤ high m) (shift g k) (f (suc k) (omega (arith, low)))) goes.1)
  where
    shift : (a b : ℕ) → a + suc b ≡ a + 1 + b
    shift a b = omega arith

    last : last_of (x.done ++ x.back) ≡ last_of x.done + length x.back
    last = last-goes_on x.done x.back goes.0

    top : last_of (x.done ++ x.back) ≤ high g
    top = subst (λ m. last_of (x.done ++ x.back) ≤ high m) (zero-right g) (f 0 (omega arith))
      where
        zero-right : (m : ℕ) → m + 0 ≡ m
        zero-right m = omega arith

    low-here : (shard number : ℕ) → shard ≡ g → number ≤ high g → number ≤ high shard
    low-here shard number same l = subst (λ m. number ≤ high m) (sym same) l

    numbered : (es : Numbered) (n : ℕ) → n + length es ≤ high g → GoOn n es → AllByRecursion (λ (d : Deed). d.number ≤ high d.shard) (deeds_of g es)
    numbered [] n h go = tt
    numbered (e ∷ es) n h go = let number : e.0 ≡ n + 1 = go.0 in (omega (arith, number, h), numbered es (n + 1) (omega (arith, h)) go.2)

    here : AllByRecursion (λ (d : Deed). d.number ≤ high d.shard) (deeds_of g x.back)
    here = numbered x.back (last_of x.done) (omega (arith, last, top)) goes.0

-- ---- all of it

module _ (set : Setting) (lists : List Parted) (count : length lists ≡ set.shape.shards) (waits : MayAllWait (catalogues set 0 (done_lists lists)) 0 lists) where
  abbrev done : List Catalogue
  done = catalogues set 0 (done_lists lists)

  abbrev whole : List Catalogue
  whole = catalogues set 0 (whole_lists lists)

  abbrev later : List Deed
  later = behind_deeds 0 lists

  abbrev front : ℕ → ℕ
  front k = last_of (list_at (done_lists lists) k)

  all : length done ≡ set.shape.shards
  all = length-catalogues set 0 (done_lists lists) ∙ length-done lists ∙ count

  pub all-wait : AllWait set front done later
  all-wait = lists-wait set front done 0 lists (zero-left (length lists) ∙ count) (λ k low. ap front (zero-left k)) waits
    where
      zero-left : (m : ℕ) → 0 + m ≡ m
      zero-left m = omega arith

  pub gives-whole : follow_all set done later ≡ whole
  gives-whole = whole-follows set lists later count (wait-of set front done later all-wait) (all-behind lists)

  pub goes : Valid (store_of done) → Goes set done later
  goes v = waiting-go set front later done all (lists-mine set 0 (done_lists lists)) v all-wait

  pub whole-valid : Valid (store_of done) → Valid (store_of whole)
  whole-valid v = subst (λ cs. Valid (store_of cs)) gives-whole (goes v).valid

  pub whole-lawful : Valid (store_of done) → AreLawful set (done_lists lists) done → AreLawful set (whole_lists lists) whole
  whole-lawful v l = record {
    history = l.history ++ later;
    ascends = pairs-to Ascends (l.history ++ later) (pairs-append Ascends l.history later (pairs-from Ascends l.history l.ascends) (behind-pairs 0 lists on) above);
    within = All-from_recursion (λ (d : Deed). d.number ≤ last d.shard) (l.history ++ later) (each-append (λ (d : Deed). d.number ≤ last d.shard) l.history later before (behind-within last 0 lists (λ k low. omega (arith, ap last (zero-left k))) on));
    fits = fit-append set (no_entries set) l.history later l.fits (subst (λ cs. FitAll set cs later) (sym l.gives) (goes v).fits);
    gives = follow-append set (no_entries set) l.history later ∙ ap (λ cs. follow_all set cs later) l.gives ∙ gives-whole;
  }
    where
      on : AllGoOn lists
      on = goes-on-each done 0 lists waits

      last : ℕ → ℕ
      last k = last_of (list_at (whole_lists lists) k)

      zero-left : (m : ℕ) → 0 + m ≡ m
      zero-left m = omega arith

      old : AllByRecursion (λ (d : Deed). d.number ≤ front d.shard) l.history
      old = recursion_from_All (λ (d : Deed). d.number ≤ front d.shard) l.history l.within

      before : AllByRecursion (λ (d : Deed). d.number ≤ last d.shard) l.history
      before = each-from (λ (d : Deed). d.number ≤ front d.shard) (λ (d : Deed). d.number ≤ last d.shard) l.history (λ d low. let rise = last-rises lists on d.shard in omega (arith, low, rise)) old

      above : AllByRecursion (λ d. AllByRecursion (Ascends d) later) l.history
      above = each-from (λ (d : Deed). d.number ≤ front d.shard) (λ d. AllByRecursion (Ascends d) later) l.history
          (λ first low. each-from (Waits set front done) (Ascends first) later (λ d w same. let up = w.above in let here : front first.shard ≡ front d.shard = ap front same in omega (arith, low, up, here)) all-wait) old
