-- A whole that opens well stands.
use Rattle.std.proofs.Common.{◌≡◌, ◌∙◌, ap, sym, subst, ℕ, zero, suc, ◌+◌, ◌-◌, ◌<◌, ◌≤◌, not, Bool, true, false, List, [], ◌∷◌, ◌++◌, Option, None, refl, arith, length, map, take, drop, take-append-drop}
use Rattle.std.proofs.lemmas.List.{take_at}
use Rattle.std.proofs.lemmas.List.Elements.{All-from_recursion, recursion_from_All}
use Rattle.std.proofs.lemmas.List.FromFn.{get_or-map-range_with_len, length-enumerate_from}
use Rattle.std.specs.List.{AllByRecursion, enumerate_from, range_with_len}
use Rattle.std.specs.Prelude.{AllPairs, fold, if◌then◌else◌, slice_index, slice_index_or}
use Rattle.hs_core_words.specs.Looking.{front_of, group_of, home, shape_of}
use Rattle.hs_core_words.specs.Opening.{Taken, first_view, new_core, open_core, taken_group}
use Rattle.hs_core_words.specs.State.{Core}
use Rattle.hs_entry.specs.declared.entry.Entry.{Entry}
use Rattle.hs_entry.specs.declared.entry.Entry.TheVariants as kind
use Rattle.hs_entry.specs.declared.rank.Rank.{Rank}
use Rattle.hs_entry.specs.Entries.{rank_after, rank_of}
use Rattle.hs_events.specs.Found.{Found, first_core, opened_list, opens_with, starts_good}
use Rattle.hs_events.specs.Sane.{IsFromOne, IsSane}
use Rattle.hs_events.specs.Whole.{grown, open_whole, reach}
use Rattle.hs_fold.proofs.Shards.LawfulLemmas.{PairsBy, each-from, pairs-append, pairs-from, pairs-to}
use Rattle.hs_fold.specs.Lawful.{Deed, list_at}
use Rattle.hs_fold.specs.Prefix.{last_of}
use Rattle.hs_fold.specs.Runs.Facts.{Catalogue as Folded}
use Rattle.hs_fold.specs.Runs.History.{no_entries}
use Rattle.hs_fold.specs.Runs.Opened.{catalogues}
use Rattle.hs_fold.specs.Shards.Images.{Stop}
use Rattle.hs_fold.specs.Shards.Setting.{Numbered, Setting}
use Rattle.hs_fold.specs.Shards.Sound.{HasRisingViews, views_of, with_view}
use Rattle.hs_journal.specs.Events.{client_op}
use Rattle.hs_limits.specs.declared.limits.Limits.{Limits}
use Rattle.hs_limits.specs.declared.shape.Shape.{Shape}
use Rattle.hs_members.specs.Members.{Members, has_good, members_at, view_of}
use Rattle.hs_model.specs.declared.command.Command.{Command}
use Rattle.hs_moments.proofs.AloneEventLemmas.{home_here}
use Rattle.hs_moments.proofs.OpeningLemmas.{opening_is_sane}
use Rattle.hs_moments.proofs.WorkLemmas.{last_is, reach_sane}
use Rattle.hs_moments.specs.WholeMachine.{whole_machine}
use Rattle.hs_replica.specs.Group.{Group, entries_above, length_of, new_group}
use Rattle.hs_sound.specs.Stay.{AreSoundAlong}
use Rattle.hs_standing.proofs.GoLemmas.{views_append}
use Rattle.hs_standing.proofs.SettleLemmas.{within_as}
use Rattle.hs_standing.proofs.ViewLemmas.{OpensOn, opens_on}
use Rattle.hs_standing.specs.Opening.{OpensWell, opened_folds, opened_lists}
use Rattle.hs_standing.specs.Settled.{AreSettled}
use Rattle.hs_standing.specs.Standing.{AreBegun, CoreStands, StandsWith}
use Rattle.hs_standing.proofs.SaneLemmas.{waits_in_core}
use Rattle.hs_standing.specs.Lists.{Lists, settled_from, whole_from}
use Rattle.hs_standing.specs.Stands.{lists_of}
use Rattle.hs_standing.specs.Start.{Start}
use Rattle.hs_told.specs.InTurn.{IsInTurn}

-- ---- views of a list never exceed that of its last View

-- behind a rank of no greater view than any of a list its views are up to the last one
record UpToLast (rank last : Rank) (views : List ℕ) : Type 0 where
  pub low : rank.view ≤ last.view
  pub each : AllByRecursion (λ (v : ℕ). v ≤ last.view) views

abbrev rank_behind : Rank → Numbered → Rank
rank_behind rank es = fold (λ (r : Rank) (x : ℕ × Entry). rank_after r x.0 x.1) rank es

same_view : (rank next last : Rank) (views : List ℕ) → next.view ≡ rank.view → UpToLast next last views → UpToLast rank last views
same_view rank next last views same u = record { low = (let l = u.low in omega (arith, l, same)); each = u.each }

as_low : (rank next : Rank) (views : List ℕ) → next.view ≡ rank.view → AllByRecursion (λ (v : ℕ). rank.view ≤ v) views → AllByRecursion (λ (v : ℕ). next.view ≤ v) views
as_low rank next views same h = each-from (λ (v : ℕ). rank.view ≤ v) (λ (v : ℕ). next.view ≤ v) views (λ v l. omega (arith, l, same)) h

abbrev Rising : List ℕ → Type 0
Rising views = PairsBy (λ (earlier later : ℕ). earlier ≤ later) views

-- one entry more, which has no view, or a view of its own
no_view : (rank next last : Rank) (views : List ℕ) → next.view ≡ rank.view → (Rising views → AllByRecursion (λ (v : ℕ). next.view ≤ v) views → UpToLast next last views)
    → Rising views → AllByRecursion (λ (v : ℕ). rank.view ≤ v) views → UpToLast rank last views
no_view rank next last views same rest rising low = same_view rank next last views same (rest rising (as_low rank next views same low))

a_view : (rank next last : Rank) (view : ℕ) (views : List ℕ) → next.view ≡ view → (Rising views → AllByRecursion (λ (v : ℕ). next.view ≤ v) views → UpToLast next last views)
    → Rising (view ∷ views) → AllByRecursion (λ (v : ℕ). rank.view ≤ v) (view ∷ views) → UpToLast rank last (view ∷ views)
a_view rank next last view views same rest rising low =
    let u = rest rising.1 (each-from (λ (v : ℕ). view ≤ v) (λ (v : ℕ). next.view ≤ v) views (λ v l. omega (arith, l, same)) rising.0) in
    let up = u.low in
    let first = low.0 in
    record { low = omega (arith, up, first, same); each = (omega (arith, up, same), u.each) }

views_up : (rank : Rank) (es : Numbered) → Rising (views_of es) → AllByRecursion (λ (v : ℕ). rank.view ≤ v) (views_of es) → UpToLast rank (rank_behind rank es) (views_of es)
views_up rank [] rising low = record { low = omega arith; each = tt }
views_up rank (e ∷ es) rising low = by_entry e.0 e.1 (λ next. views_up next es) rising low
  where
    Rest : Type 0
    Rest = (next : Rank) → Rising (views_of es) → AllByRecursion (λ (v : ℕ). next.view ≤ v) (views_of es) → UpToLast next (rank_behind next es) (views_of es)

    by_entry : (n : ℕ) (x : Entry) → Rest → Rising (with_view x (views_of es)) → AllByRecursion (λ (v : ℕ). rank.view ≤ v) (with_view x (views_of es)) → UpToLast rank (rank_behind (rank_after rank n x) es) (with_view x (views_of es))
    by_entry n (kind.View view) rest rising low = a_view rank (record { view = view; number = n }) (rank_behind (record { view = view; number = n }) es) view (views_of es) refl (rest (record { view = view; number = n })) rising low
    by_entry n (kind.Base view epoch swept round frames) rest rising low = a_view rank (record { view = view; number = n }) (rank_behind (record { view = view; number = n }) es) view (views_of es) refl (rest (record { view = view; number = n })) rising low
    by_entry n (kind.Block line least bytes) rest rising low = no_view rank (record { view = rank.view; number = n }) (rank_behind (record { view = rank.view; number = n }) es) (views_of es) refl (rest (record { view = rank.view; number = n })) rising low
    by_entry n (kind.Mark line least block address) rest rising low = no_view rank (record { view = rank.view; number = n }) (rank_behind (record { view = rank.view; number = n }) es) (views_of es) refl (rest (record { view = rank.view; number = n })) rising low
    by_entry n (kind.Root line held address key) rest rising low = no_view rank (record { view = rank.view; number = n }) (rank_behind (record { view = rank.view; number = n }) es) (views_of es) refl (rest (record { view = rank.view; number = n })) rising low
    by_entry n (kind.Drop line key) rest rising low = no_view rank (record { view = rank.view; number = n }) (rank_behind (record { view = rank.view; number = n }) es) (views_of es) refl (rest (record { view = rank.view; number = n })) rising low
    by_entry n (kind.Enter line epoch) rest rising low = no_view rank (record { view = rank.view; number = n }) (rank_behind (record { view = rank.view; number = n }) es) (views_of es) refl (rest (record { view = rank.view; number = n })) rising low
    by_entry n (kind.Got sender epoch round total deltas) rest rising low = no_view rank (record { view = rank.view; number = n }) (rank_behind (record { view = rank.view; number = n }) es) (views_of es) refl (rest (record { view = rank.view; number = n })) rising low
    by_entry n (kind.KeptBlock born mark flags count bytes) rest rising low = no_view rank rank (rank_behind rank es) (views_of es) refl (rest rank) rising low
    by_entry n (kind.KeptRoot created dropped counted address key) rest rising low = no_view rank rank (rank_behind rank es) (views_of es) refl (rest rank) rising low
    by_entry n (kind.KeptRound way other epoch round total deltas) rest rising low = no_view rank rank (rank_behind rank es) (views_of es) refl (rest rank) rising low

each_any : (xs : List ℕ) → AllByRecursion (λ (v : ℕ). 0 ≤ v) xs
each_any [] = tt
each_any (x ∷ xs) = (omega arith, each_any xs)

views_low : (es : Numbered) → HasRisingViews es → AllByRecursion (λ (v : ℕ). v ≤ (rank_of es).view) (views_of es)
unfolding rank_of
views_low es rising = (views_up (record { view = 0; number = 0 }) es (pairs-from (λ (earlier later : ℕ). earlier ≤ later) (views_of es) rising) (each_any (views_of es))).each

-- ---- with Views of one view behind it

module _ (view : ℕ) where
  views_same : (n : ℕ) (ws : List Entry) → AllByRecursion (λ (e : Entry). e ≡ kind.View view) ws → AllByRecursion (λ (v : ℕ). v ≡ view) (views_of (enumerate_from n ws))
  views_same n [] h = tt
  views_same n (w ∷ ws) h = subst (λ (x : Entry). AllByRecursion (λ (v : ℕ). v ≡ view) (with_view x (views_of (enumerate_from (n + 1) ws)))) (sym h.0) (refl, views_same (n + 1) ws h.1)

  same_rise : (vs : List ℕ) → AllByRecursion (λ (v : ℕ). v ≡ view) vs → PairsBy (λ (earlier later : ℕ). earlier ≤ later) vs
  same_rise [] h = tt
  same_rise (v ∷ vs) h = (let here = h.0 in each-from (λ (w : ℕ). w ≡ view) (λ (w : ℕ). v ≤ w) vs (λ w same. omega (arith, here, same)) h.1, same_rise vs h.1)

  pub rise_behind : (list : Numbered) (n : ℕ) (ws : List Entry) → HasRisingViews list → (rank_of list).view ≤ view → AllByRecursion (λ (e : Entry). e ≡ kind.View view) ws → HasRisingViews (list ++ enumerate_from n ws)
  rise_behind list n ws rising up are =
      let later : AllByRecursion (λ (v : ℕ). v ≡ view) (views_of (enumerate_from n ws)) = views_same n ws are in
      subst (λ vs. AllPairs (λ earlier later. earlier ≤ later) vs) (sym (views_append list (enumerate_from n ws)))
      (pairs-to (λ (earlier later : ℕ). earlier ≤ later) (views_of list ++ views_of (enumerate_from n ws))
      (pairs-append (λ (earlier later : ℕ). earlier ≤ later) (views_of list) (views_of (enumerate_from n ws)) (pairs-from (λ (earlier later : ℕ). earlier ≤ later) (views_of list) rising) (same_rise (views_of (enumerate_from n ws)) later)
      (each-from (λ (v : ℕ). v ≤ (rank_of list).view) (λ (v : ℕ). AllByRecursion (λ (w : ℕ). v ≤ w) (views_of (enumerate_from n ws))) (views_of list)
      (λ v low. each-from (λ (w : ℕ). w ≡ view) (λ (w : ℕ). v ≤ w) (views_of (enumerate_from n ws)) (λ w same. omega (arith, low, up, same)) later)
      (views_low list rising))))

-- ---- lists one for each shard

whole_at : (lists : Lists) (k n j : ℕ) → j < n → list_at (whole_from lists k n) j ≡ lists.whole (k + j)
whole_at lists k zero j low = absurd (omega (arith, low))
whole_at lists k (suc n) zero low = ap (λ m. lists.whole m) (zero_right k)
  where
    zero_right : (a : ℕ) → a ≡ a + 0
    zero_right a = omega arith
whole_at lists k (suc n) (suc j) low = whole_at lists (k + 1) n j (omega (arith, low)) ∙ ap (λ m. lists.whole m) (shift k j)
  where
    shift : (a b : ℕ) → a + 1 + b ≡ a + suc b
    shift a b = omega arith

-- all of them took effect
settled_whole : (one other : Lists) (k n : ℕ) → ((j : ℕ) → j < k + n → take (one.front j) (one.whole j) ≡ other.whole j) → settled_from one k n ≡ whole_from other k n
settled_whole one other k zero same = refl
settled_whole one other k (suc n) same =
    let here = same k (omega arith) in
    let rest = settled_whole one other (k + 1) n (λ j low. same j (omega (arith, low))) in
    λ i. here i ∷ rest i

each_whole : (P : Numbered → Type 0) (lists : Lists) (k n j : ℕ) → j < n → AllByRecursion P (whole_from lists k n) → P (lists.whole (k + j))
each_whole P lists k zero j low h = absurd (omega (arith, low))
each_whole P lists k (suc n) zero low h = subst (λ m. P (lists.whole m)) (zero_right k) h.0
  where
    zero_right : (a : ℕ) → a ≡ a + 0
    zero_right a = omega arith
each_whole P lists k (suc n) (suc j) low h = subst (λ m. P (lists.whole m)) (shift k j) (each_whole P lists (k + 1) n j (omega (arith, low)) h.1)
  where
    shift : (a b : ℕ) → a + 1 + b ≡ a + suc b
    shift a b = omega arith

-- views of sound lists never fall
pub opened_rises : (set : Setting) (found : Found) → AreSoundAlong set (whole_from (opened_lists set found) 0 set.shape.shards) → (g : ℕ) → g < set.shape.shards → HasRisingViews (opened_list set found g)
opened_rises set found sound g low =
    subst (λ k. HasRisingViews (opened_list set found k)) (zero_left g)
    (each_whole HasRisingViews (opened_lists set found) 0 set.shape.shards g low (recursion_from_All HasRisingViews (whole_from (opened_lists set found) 0 set.shape.shards) sound.sound.views))
  where
    zero_left : (a : ℕ) → 0 + a ≡ a
    zero_left a = omega arith

-- ---- as it opens

-- a core that opens is in turn, as hs_told has it
abbrev pub OpensInTurn : Type 0
OpensInTurn = (commands : ℕ → Option Command) (shape : Shape) (limits : Limits) (taken : Taken) (moment : ℕ) → client_op (commands 0) ≡ None → IsInTurn commands (open_core shape limits taken moment)

module _ (start : Start) (found : Found) (w : OpensWell start found) where
  abbrev set : Setting
  set = start.set

  abbrev first : Core
  first = first_core start.set found

  abbrev fresh : Core
  fresh = new_core start.set.shape start.set.limits (opens_with start.set found) found.opened

  -- its members, before views rise
  abbrev known : Members
  known = members_at start.set.shape (opens_with start.set found).views (opens_with start.set found).good

  sane : IsSane (open_whole start.set found)
  sane = opening_is_sane start.set found w.one w.going w.lists w.many

  zero_left : (a : ℕ) → 0 + a ≡ a
  zero_left a = omega arith

  -- ---- nothing waits before

  group_fresh : (g : ℕ) → g < start.set.shape.shards → group_of g fresh ≡ taken_group start.set.shape (opens_with start.set found) g
  group_fresh g low = get_or-map-range_with_len (taken_group start.set.shape (opens_with start.set found)) 0 start.set.shape.shards g g (new_group start.set.shape g 0 0 []) low (omega arith)

  none_waits : (g : ℕ) → (group_of g fresh).waiting ≡ []
  none_waits g = none_of (range_with_len 0 start.set.shape.shards) g
    where
      none_of : (shards : List ℕ) (i : ℕ) → (slice_index_or (map (taken_group start.set.shape (opens_with start.set found)) shards) i (new_group start.set.shape g 0 0 [])).waiting ≡ []
      none_of [] i = refl
      none_of (s ∷ shards) zero = refl
      none_of (s ∷ shards) (suc i) = none_of shards i

  opens : OpensOn fresh first
  opens = opens_on start.set.shape start.set.limits (opens_with start.set found) found.opened none_waits

  shape_is : shape_of first ≡ start.set.shape
  shape_is = ap (λ (m : Members). m.shape) opens.members

  low_in : (g : ℕ) → g < start.set.shape.shards → g < first.members.shape.shards
  low_in g low = subst (λ (x : Shape). g < x.shards) (sym shape_is) low

  -- ---- what took effect is the opened list

  long_is : (g : ℕ) → g < start.set.shape.shards → (rank_of (opened_list start.set found g)).number ≡ length (opened_list start.set found g)
  long_is g low =
      let l : IsFromOne (opened_list start.set found g) = w.lists g low in
      ap (λ (es : Numbered). (rank_of es).number) l.counted ∙ last_is l.entries l.plain ∙ sym (ap (λ (es : Numbered). length es) l.counted ∙ length-enumerate_from 1 l.entries)

  front_is : (g : ℕ) → g < start.set.shape.shards → front_of g first ≡ length (opened_list start.set found g)
  front_is g low =
      opens.front g ∙ ap (λ (y : Group). y.front) (group_fresh g low)
      ∙ get_or-map-range_with_len (λ shard. (rank_of (opened_list start.set found shard)).number) 0 start.set.shape.shards g g 0 low (omega arith)
      ∙ long_is g low

  good_is : (g : ℕ) → g < start.set.shape.shards → starts_good found g ≡ true
  good_is g low = by_good (starts_good found g) (sane.counted g (low_in g low))
    where
      by_good : (b : Bool) → not b ≡ false → b ≡ true
      by_good true h = refl
      by_good false h = absurd (cc h)

  list_is : (g : ℕ) → g < start.set.shape.shards → (open_whole start.set found).lists g ≡ grown (group_of g first) g (opened_list start.set found g)
  list_is g low =
      ap (λ b. if b then grown (group_of (home g first) first) g (opened_list start.set found (home g first)) else []) (good_is g low)
      ∙ ap (λ k. grown (group_of k first) g (opened_list start.set found k)) (home_here first g sane.alone.copies)

  begins_so : (g : ℕ) → g < start.set.shape.shards
      → reach (open_whole start.set found) g ≡ opened_list start.set found g ++ take (length_of (group_of g first) g - length (opened_list start.set found g)) (entries_above (length (opened_list start.set found g)) (group_of g first))
  begins_so g low = reach_sane (open_whole start.set found) g sane ∙ list_is g low

  taken_is : (g : ℕ) → g < start.set.shape.shards → take (front_of g first) (reach (open_whole start.set found) g) ≡ opened_list start.set found g
  taken_is g low =
      ap (λ (es : Numbered). take (front_of g first) es) (begins_so g low)
      ∙ take_at (opened_list start.set found g) (take (length_of (group_of g first) g - length (opened_list start.set found g)) (entries_above (length (opened_list start.set found g)) (group_of g first))) (front_of g first) (sym (front_is g low))

  whole_is : (g : ℕ) → g < start.set.shape.shards → reach (open_whole start.set found) g ≡ opened_list start.set found g ++ enumerate_from (front_of g first + 1) (group_of g first).waiting
  whole_is g low =
      sym (take-append-drop (front_of g first) (reach (open_whole start.set found) g))
      ∙ ap (λ (es : Numbered). es ++ drop (front_of g first) (reach (open_whole start.set found) g)) (taken_is g low)
      ∙ ap (λ (es : Numbered). opened_list start.set found g ++ es) (waits_in_core (open_whole start.set found) g sane (low_in g low))

  -- ---- views

  view_up : (g : ℕ) → g < start.set.shape.shards → (rank_of (opened_list start.set found g)).view ≤ view_of g fresh.members
  view_up g low = by_good (has_good g known) (first_is ∙ ap (λ n. if has_good g known then n + 1 else n) rank_is)
    where
      first_is : view_of g fresh.members ≡ first_view known (opens_with start.set found).views g
      first_is = get_or-map-range_with_len (first_view known (opens_with start.set found).views) 0 start.set.shape.shards g g 0 low (omega arith)

      rank_is : slice_index (opens_with start.set found).views g ≡ (rank_of (opened_list start.set found g)).view
      rank_is = get_or-map-range_with_len (λ shard. (rank_of (opened_list start.set found shard)).view) 0 start.set.shape.shards g g 0 low (omega arith)

      by_good : (b : Bool) → view_of g fresh.members ≡ (if b then (rank_of (opened_list start.set found g)).view + 1 else (rank_of (opened_list start.set found g)).view) → (rank_of (opened_list start.set found g)).view ≤ view_of g fresh.members
      by_good true e = omega (arith, e)
      by_good false e = omega (arith, e)

  views_are : (g : ℕ) → g < start.set.shape.shards → HasRisingViews (reach (open_whole start.set found) g)
  views_are g low =
      subst (λ (es : Numbered). HasRisingViews es) (sym (whole_is g low))
      (rise_behind (view_of g fresh.members) (opened_list start.set found g) (front_of g first + 1) (group_of g first).waiting (opened_rises start.set found w.sound g low) (view_up g low) (opens.views g))

  -- ---- what took effect

  settled_is : settled_from (lists_of whole_machine (open_whole start.set found)) 0 start.set.shape.shards ≡ whole_from (opened_lists start.set found) 0 start.set.shape.shards
  settled_is = settled_whole (lists_of whole_machine (open_whole start.set found)) (opened_lists start.set found) 0 start.set.shape.shards (λ j low. taken_is j (omega (arith, low)))

  last_is_front : (g : ℕ) → g < start.set.shape.shards → last_of (list_at (whole_from (opened_lists start.set found) 0 start.set.shape.shards) g) ≡ front_of g first
  last_is_front g low =
      ap (λ (es : Numbered). last_of es) (whole_at (opened_lists start.set found) 0 start.set.shape.shards g low ∙ ap (λ k. opened_list start.set found k) (zero_left g))
      ∙ long_is g low ∙ sym (front_is g low)

  opened_settled : AreSettled start.set (lists_of whole_machine (open_whole start.set found)) (opened_folds start.set found)
  opened_settled = record {
    folds = ap (λ ls. catalogues start.set 0 ls) settled_is;
    history = w.sound.sound.lawful.history;
    ascends = w.sound.sound.lawful.ascends;
    within = All-from_recursion (λ (d : Deed). d.number ≤ front_of d.shard first) w.sound.sound.lawful.history
        (within_as start.set (no_entries start.set) w.sound.sound.lawful.history (λ g. last_of (list_at (whole_from (opened_lists start.set found) 0 start.set.shape.shards) g)) (λ g. front_of g first) w.sound.sound.lawful.fits
        (λ g low. let e = last_is_front g low in omega (arith, e))
        (recursion_from_All (λ (d : Deed). d.number ≤ last_of (list_at (whole_from (opened_lists start.set found) 0 start.set.shape.shards) d.shard)) w.sound.sound.lawful.history w.sound.sound.lawful.within));
    fits = w.sound.sound.lawful.fits;
    records = w.sound.records;
    gives = w.sound.sound.lawful.gives;
  }

  -- no line was begun
  pub opened_begun : (stop : Stop) → AreBegun start stop (first_core start.set found)
  opened_begun stop line some low client = (let none = opens.line in absurd (omega (arith, some, low, none)))

  pub opened_stands : (P : Core → List Folded → Type 0) → ((core : Core) (cs : List Folded) → P core cs → CoreStands start core cs) → OpensInTurn → P (first_core start.set found) (opened_folds start.set found) → StandsWith start P (open_whole start.set found)
  opened_stands P suffices turn holds = record {
    whole = record {
      shape = shape_is;
      limits = opens.limits;
      sane = sane;
      turn = turn start.commands start.set.shape start.set.limits (opens_with start.set found) found.opened w.nobody;
      cs = opened_folds start.set found;
      stands = suffices (first_core start.set found) (opened_folds start.set found) holds;
      settled = opened_settled;
      views = views_are;
      few = w.few;
    };
    holds = holds;
  }
