-- A front of each shard's list that has all that took effect, parted into that and what waits.
use Rattle.std.proofs.Common.{◌≡◌, ℕ, suc, ◌+◌, ◌<◌, ◌≤◌, List, [], ◌∷◌, ◌++◌, length, take, drop, Option, Some, None, refl, sym, ap, ◌∙◌, subst, arith, append_assoc, length-append}
use Rattle.std.proofs.lemmas.List.{take-append-drop, take-append-le, drop-append-le, length-take-le}
use Rattle.std.proofs.lemmas.List.Elements.{All-from_recursion, recursion_from_All}
use Rattle.std.specs.List.{AllByRecursion}
use Rattle.std.specs.Prelude.{All, AllPairs}
use Rattle.hs_entry.specs.declared.entry.Entry.{Entry}
use Rattle.hs_entry.specs.declared.entry.Entry.TheVariants as kind
use Rattle.hs_entry.specs.Entries.{IsPrefix}
use Rattle.hs_fold.specs.Catalogue.{Shard}
use Rattle.hs_fold.specs.Pending.{asked_by, behind, up_to}
use Rattle.hs_fold.specs.Prefix.{GoOn, IsNumbered, last_of}
use Rattle.hs_fold.specs.Shards.Happening.{Happening}
use Rattle.hs_fold.specs.Shards.Parted.{NamesUpTo, Parted, done_lists, whole_lists}
use Rattle.hs_fold.specs.Shards.Pending.{changing_lines, with_line}
use Rattle.hs_fold.specs.Shards.Setting.{Numbered, Setting, shard_in}
use Rattle.hs_fold.specs.Shards.Sound.{HasRisingViews, views_of, with_view}
use Rattle.hs_fold.specs.Runs.Catalogue.{apply, apply_all, catalogue_of}
use Rattle.hs_fold.specs.Runs.Facts.{Catalogue}
use Rattle.hs_fold.specs.Runs.Happening.{happening_of, happens}
use Rattle.hs_fold.proofs.NumberedLemmas.{numbered-behind, numbered-up_to}
use Rattle.hs_fold.proofs.PrefixLemmas.{last-length}
use Rattle.hs_fold.proofs.Shards.LawfulLemmas.{each-append, pairs-from, pairs-to}
use Rattle.hs_waiting.specs.Lists.{MayAllWait}
use Rattle.hs_waiting.specs.Waits.{EntryWaits}
use Rattle.hs_standing.specs.Left.{AreFronts, MayBeLeft}
use Rattle.hs_standing.specs.Lists.{Lists, settled_catalogues, settled_from, waiting, whole_from}
use Rattle.hs_fold.specs.Shards.Outstanding.{MayPend, pending, pending_of}
use Rattle.hs_standing.proofs.ThinLemmas.{Thins, thins_append, thins_front, thins_pairs}
use Rattle.hs_standing.proofs.StopsWalkLemmas.{EachFew, few_along, pending_parts}

-- ---- numbered lists

pub goes_front : (n : ℕ) (xs more : Numbered) → GoOn n (xs ++ more) → GoOn n xs
goes_front n [] more g = tt
goes_front n (x ∷ xs) more g = (g.0, g.1, goes_front (n + 1) xs more g.2)

goes_back : (n k : ℕ) (xs more : Numbered) → GoOn n (xs ++ more) → n + length xs ≡ k → GoOn k more
goes_back n k [] more g e = subst (λ m. GoOn m more) (same n k e) g
  where
    same : (a b : ℕ) → a + 0 ≡ b → a ≡ b
    same a b h = omega (arith, h)
goes_back n k (x ∷ xs) more g e = goes_back (n + 1) k xs more g.2 (omega (arith, e))

pub one_pending : (at : Shard) (front : ℕ) (list : Numbered) → IsNumbered list → front ≤ length list → pending_of at front list ≡ happens at (catalogue_of at (take front list)) (drop front list)
one_pending at front list numbered low =
    let whole : take front list ++ drop front list ≡ list = take-append-drop front list in
    let count : length (take front list) ≡ front = length-take-le front list low in
    let parted : IsNumbered (take front list ++ drop front list) = subst (λ es. IsNumbered es) (sym whole) numbered in
    let up : up_to front list ≡ take front list = ap (λ n. up_to n list) (sym count) ∙ ap (λ es. up_to (length (take front list)) es) (sym whole) ∙ numbered-up_to (take front list) (drop front list) parted in
    let back : behind front list ≡ drop front list = ap (λ n. behind n list) (sym count) ∙ ap (λ es. behind (length (take front list)) es) (sym whole) ∙ numbered-behind (take front list) (drop front list) parted in
    ap (λ es. happens at (catalogue_of at es) (behind front list)) up ∙ ap (λ es. happens at (catalogue_of at (take front list)) es) back

pub waiting_number : (lists : Lists) (g : ℕ) (e : ℕ × Entry) (rest : Numbered) → IsNumbered (lists.whole g) → lists.front g ≤ length (lists.whole g) → waiting lists g ≡ e ∷ rest → e.0 ≡ lists.front g + 1
waiting_number lists g e rest numbered low is =
    let done : Numbered = take (lists.front g) (lists.whole g) in
    let parts : IsNumbered (done ++ waiting lists g) = subst (λ es. IsNumbered es) (sym (take-append-drop (lists.front g) (lists.whole g))) numbered in
    let count : length done ≡ lists.front g = length-take-le (lists.front g) (lists.whole g) low in
    let goes : GoOn (lists.front g) (waiting lists g) = goes_back 0 (lists.front g) done (waiting lists g) parts (omega (arith, count)) in
    (subst (λ es. GoOn (lists.front g) es) is goes).0

-- ---- fronts of lists of facts

each_front : {X : Type 0} (P : X → Type 0) (xs more : List X) → AllByRecursion P (xs ++ more) → AllByRecursion P xs
each_front P [] more h = tt
each_front P (x ∷ xs) more h = (h.0, each_front P xs more h.1)

all_front : {X : Type 0} (P : X → Type 0) (xs more all : List X) → all ≡ xs ++ more → All P all → All P xs
all_front P xs more all is h = All-from_recursion P xs (each_front P xs more (recursion_from_All P (xs ++ more) (subst (λ zs. All P zs) is h)))

view_append : (e : Entry) (xs ys : List ℕ) → with_view e xs ++ ys ≡ with_view e (xs ++ ys)
view_append (kind.View view) xs ys = refl
view_append (kind.Base view epoch swept round frames) xs ys = refl
view_append other xs ys = refl

views_append : (es more : Numbered) → views_of (es ++ more) ≡ views_of es ++ views_of more
views_append [] more = refl
views_append (e ∷ es) more = ap (λ vs. with_view e.1 vs) (views_append es more) ∙ sym (view_append e.1 (views_of es) (views_of more))

views_front : (list more whole : Numbered) → whole ≡ list ++ more → HasRisingViews whole → HasRisingViews list
views_front list more whole is h =
    pairs-to (λ earlier later. earlier ≤ later) (views_of list)
    (thins_pairs (λ earlier later. earlier ≤ later) (views_of list) (views_of list ++ views_of more) (thins_front (views_of list) (views_of more))
    (pairs-from (λ earlier later. earlier ≤ later) (views_of list ++ views_of more) (subst (λ vs. AllPairs (λ earlier later. earlier ≤ later) vs) (views_append list more) (subst (λ es. HasRisingViews es) is h))))

-- ---- what happens by entries, and whose lines they are

happens_append : (at : Shard) (c : Catalogue) (es more : Numbered) → happens at c (es ++ more) ≡ happens at c es ++ happens at (apply_all at c es) more
happens_append at c [] more = refl
happens_append at c (e ∷ es) more = ap (λ hs. (e.1, happening_of at c e.1) ∷ hs) (happens_append at (apply at c e) es more)

each_happens : (P : Entry → Type 0) (at : Shard) (c : Catalogue) (es : Numbered) → AllByRecursion (λ (e : ℕ × Entry). P e.1) es → AllByRecursion (λ (e : Entry × Option Happening). P e.0) (happens at c es)
each_happens P at c [] h = tt
each_happens P at c (e ∷ es) h = (h.0, each_happens P at (apply at c e) es h.1)

line_append : (asked : Option ℕ) (one : Option Happening) (xs ys : List ℕ) → with_line asked one xs ++ ys ≡ with_line asked one (xs ++ ys)
line_append None one xs ys = refl
line_append (Some line) None xs ys = refl
line_append (Some line) (Some one) xs ys = refl

pub lines_append : (xs ys : List (Entry × Option Happening)) → changing_lines (xs ++ ys) ≡ changing_lines xs ++ changing_lines ys
lines_append [] ys = refl
lines_append (x ∷ xs) ys = ap (λ lines. with_line (asked_by x.0) x.1 lines) (lines_append xs ys) ∙ sym (line_append (asked_by x.0) x.1 (changing_lines xs) (changing_lines ys))

-- ---- of each shard a front that has all that took effect

module _ (lists : Lists) where
  abbrev pub IsFine : ℕ → Numbered → Type 0
  IsFine g list = IsPrefix list (lists.whole g) × (lists.front g ≤ length list)

  abbrev pub parted : ℕ → List Numbered → List Parted
  parted g [] = []
  parted g (list ∷ some) = record { done = take (lists.front g) list; back = drop (lists.front g) list } ∷ parted (g + 1) some

  pub parted_whole : (g : ℕ) (some : List Numbered) → whole_lists (parted g some) ≡ some
  parted_whole g [] = refl
  parted_whole g (list ∷ some) = λ i. take-append-drop (lists.front g) list i ∷ parted_whole (g + 1) some i

  pub parted_count : (g : ℕ) (some : List Numbered) → length (parted g some) ≡ length some
  parted_count g [] = refl
  parted_count g (list ∷ some) = ap (λ n. suc n) (parted_count (g + 1) some)

  fine_done : (g : ℕ) (list : Numbered) → IsFine g list → take (lists.front g) list ≡ take (lists.front g) (lists.whole g)
  fine_done g list f = sym (ap (λ es. take (lists.front g) es) f.0.1 ∙ take-append-le (lists.front g) list f.0.0 f.1)

  fine_back : (g : ℕ) (list : Numbered) (f : IsFine g list) → waiting lists g ≡ drop (lists.front g) list ++ f.0.0
  fine_back g list f = ap (λ es. drop (lists.front g) es) f.0.1 ∙ drop-append-le (lists.front g) list f.0.0 f.1

  pub parted_done : (g : ℕ) (some : List Numbered) → AreFronts lists g some → done_lists (parted g some) ≡ settled_from lists g (length some)
  parted_done g [] fine = refl
  parted_done g (list ∷ some) fine = λ i. fine_done g list fine.0 i ∷ parted_done (g + 1) some fine.1 i

  pub each_done_length : (g : ℕ) (list : Numbered) → IsFine g list → length (take (lists.front g) list) ≡ lists.front g
  each_done_length g list f = length-take-le (lists.front g) list f.1

module _ (set : Setting) (Awaited : ℕ → Type 0) (lists : Lists) where
  -- what waits of each of these shards may be left
  abbrev pub AllLeft : ℕ → Type 0
  AllLeft end = (shard : ℕ) → shard < end → MayBeLeft set Awaited lists shard

  next : (g n end : ℕ) → g + suc n ≡ end → g + 1 + n ≡ end
  next g n end e = omega (arith, e)

  first : (g n end : ℕ) → g + suc n ≡ end → g < end
  first g n end e = omega (arith, e)

  pub parted_pending : (g end : ℕ) (some : List Numbered) → g + length some ≡ end → AreFronts lists g some → AllLeft end
      → pending set lists.front g some ≡ pending_parts set g (parted lists g some)
  parted_pending g end [] e fine h = refl
  parted_pending g end (list ∷ some) e fine h =
      let m = h g (first g (length some) end e) in
      let numbered : IsNumbered list = goes_front 0 list fine.0.0.0 (subst (λ es. IsNumbered es) fine.0.0.1 m.numbered) in
      let at : Shard = shard_in set g in
      ap (λ es. es ++ pending set lists.front (g + 1) some) (one_pending at (lists.front g) list numbered fine.0.1)
      ∙ ap (λ es. happens at (catalogue_of at (take (lists.front g) list)) (drop (lists.front g) list) ++ es) (parted_pending (g + 1) end some (next g (length some) end e) fine.1 h)

  pub parted_few : (g end : ℕ) (some : List Numbered) → g + length some ≡ end → AreFronts lists g some → AllLeft end → EachFew set g (parted lists g some)
  parted_few g end [] e fine h = tt
  parted_few g end (list ∷ some) e fine h =
      let m = h g (first g (length some) end e) in
      let front : ℕ = lists.front g in
      let whole : take front list ++ drop front list ≡ list = take-append-drop front list in
      let is : lists.whole g ≡ take front list ++ (drop front list ++ fine.0.0.0) = fine.0.0.1 ∙ ap (λ es. es ++ fine.0.0.0) (sym whole) ∙ append_assoc (take front list) (drop front list) fine.0.0.0 in
      let count : length (take front list) ≡ front = each_done_length lists g list fine.0 in
      let low : front ≤ length (take front list) = omega (arith, count) in
      ((m.few (take front list) (drop front list ++ fine.0.0.0, is) low, few_along set lists g m.few (take front list) (drop front list) fine.0.0.0 is low), parted_few (g + 1) end some (next g (length some) end e) fine.1 h)

  pub parted_views : (g end : ℕ) (some : List Numbered) → g + length some ≡ end → AreFronts lists g some → AllLeft end → AllByRecursion HasRisingViews some
  parted_views g end [] e fine h = tt
  parted_views g end (list ∷ some) e fine h =
      let m = h g (first g (length some) end e) in
      (views_front list fine.0.0.0 (lists.whole g) fine.0.0.1 m.views, parted_views (g + 1) end some (next g (length some) end e) fine.1 h)

  pub parted_wait : (g end : ℕ) (some : List Numbered) → g + length some ≡ end → AreFronts lists g some → AllLeft end → MayAllWait (settled_catalogues set lists) g (parted lists g some)
  parted_wait g end [] e fine h = tt
  parted_wait g end (list ∷ some) e fine h = (subst (λ n. GoOn n back × All (WaitsAt n) back) (sym last) (goes, waits), parted_wait (g + 1) end some (next g (length some) end e) fine.1 h)
    where
      m : MayBeLeft set Awaited lists g
      m = h g (first g (length some) end e)

      done : Numbered
      done = take (lists.front g) list

      back : Numbered
      back = drop (lists.front g) list

      WaitsAt : ℕ → ℕ × Entry → Type 0
      WaitsAt n e = NamesUpTo n e.1 × EntryWaits (settled_catalogues set lists) g e.1

      parts : IsNumbered (done ++ back)
      parts = subst (λ es. IsNumbered es) (sym (take-append-drop (lists.front g) list)) (goes_front 0 list fine.0.0.0 (subst (λ es. IsNumbered es) fine.0.0.1 m.numbered))

      last : last_of done ≡ lists.front g
      last = last-length done (goes_front 0 done back parts) ∙ each_done_length lists g list fine.0

      goes : GoOn (lists.front g) back
      goes = goes_back 0 (lists.front g) done back parts (let count = each_done_length lists g list fine.0 in omega (arith, count))

      waits : All (WaitsAt (lists.front g)) back
      waits = all_front (WaitsAt (lists.front g)) back fine.0.0.0 (waiting lists g) (fine_back lists g list fine.0) m.waits

  pub parted_awaited : (g end : ℕ) (some : List Numbered) → g + length some ≡ end → AreFronts lists g some → AllLeft end
      → AllByRecursion (λ (e : Entry × Option Happening). MayPend Awaited e.0) (pending_parts set g (parted lists g some))
  parted_awaited g end [] e fine h = tt
  parted_awaited g end (list ∷ some) e fine h =
      let m = h g (first g (length some) end e) in
      let at : Shard = shard_in set g in
      let back : Numbered = drop (lists.front g) list in
      let each = recursion_from_All (λ (x : ℕ × Entry). MayPend Awaited x.1) back (all_front (λ (x : ℕ × Entry). MayPend Awaited x.1) back fine.0.0.0 (waiting lists g) (fine_back lists g list fine.0) m.awaited) in
      each-append (λ (x : Entry × Option Happening). MayPend Awaited x.0) (happens at (catalogue_of at (take (lists.front g) list)) back) (pending_parts set (g + 1) (parted lists (g + 1) some))
      (each_happens (MayPend Awaited) at (catalogue_of at (take (lists.front g) list)) back each) (parted_awaited (g + 1) end some (next g (length some) end e) fine.1 h)

  -- the lines of what is pending of fronts are among those of all that waits
  pub parted_lines : (g end : ℕ) (some : List Numbered) → g + length some ≡ end → AreFronts lists g some → AllLeft end
      → Thins (changing_lines (pending_parts set g (parted lists g some))) (changing_lines (pending set lists.front g (whole_from lists g (length some))))
  parted_lines g end [] e fine h = refl
  parted_lines g end (list ∷ some) e fine h =
      subst (λ xs. Thins (changing_lines (happens at c back ++ rest)) xs) (sym whole_is)
      (subst (λ xs. Thins xs ((changing_lines (happens at c back) ++ changing_lines (happens at (apply_all at c back) fine.0.0.0)) ++ changing_lines more)) (sym (lines_append (happens at c back) rest))
      (thins_append (changing_lines (happens at c back)) (changing_lines (happens at c back) ++ changing_lines (happens at (apply_all at c back) fine.0.0.0)) (changing_lines rest) (changing_lines more)
      (thins_front (changing_lines (happens at c back)) (changing_lines (happens at (apply_all at c back) fine.0.0.0)))
      (parted_lines (g + 1) end some (next g (length some) end e) fine.1 h)))
    where
      m : MayBeLeft set Awaited lists g
      m = h g (first g (length some) end e)

      at : Shard
      at = shard_in set g

      back : Numbered
      back = drop (lists.front g) list

      c : Catalogue
      c = catalogue_of at (take (lists.front g) list)

      rest : List (Entry × Option Happening)
      rest = pending_parts set (g + 1) (parted lists (g + 1) some)

      more : List (Entry × Option Happening)
      more = pending set lists.front (g + 1) (whole_from lists (g + 1) (length some))

      low : lists.front g ≤ length (lists.whole g)
      low = let count = ap (λ (es : Numbered). length es) fine.0.0.1 ∙ length-append list fine.0.0.0 in let long = fine.0.1 in omega (arith, count, long)

      here : pending_of at (lists.front g) (lists.whole g) ≡ happens at c back ++ happens at (apply_all at c back) fine.0.0.0
      here =
          one_pending at (lists.front g) (lists.whole g) m.numbered low
          ∙ ap (λ es. happens at (catalogue_of at es) (waiting lists g)) (sym (fine_done lists g list fine.0))
          ∙ ap (λ es. happens at c es) (fine_back lists g list fine.0)
          ∙ happens_append at c back fine.0.0.0

      whole_is : changing_lines (pending set lists.front g (whole_from lists g (suc (length some)))) ≡ (changing_lines (happens at c back) ++ changing_lines (happens at (apply_all at c back) fine.0.0.0)) ++ changing_lines more
      whole_is =
          lines_append (pending_of at (lists.front g) (lists.whole g)) more
          ∙ ap (λ es. changing_lines es ++ changing_lines more) here
          ∙ ap (λ ls. ls ++ changing_lines more) (lines_append (happens at c back) (happens at (apply_all at c back) fine.0.0.0))
