-- Within an event the lists of a core go on from those with which it began, and its folds stay what took effect of them.
use Rattle.std.proofs.Common.{◌≡◌, ◌≢◌, ◌∙◌, ap, sym, subst, inl, inr, ℕ, zero, suc, ◌+◌, ◌-◌, ◌<◌, ◌≤◌, Bool, true, false, cond, List, [], ◌∷◌, ◌++◌, Option, Some, None, refl, arith, length, take, drop, append-nil, append_assoc, length-append, length-drop}
use Rattle.std.proofs.lemmas.Bool.{cases_eq, cases_lt, eq-eqb, ne_eqb}
use Rattle.std.proofs.lemmas.List.{drop-append-le, get_or-set_other, get_or-set_same, get_or_past, take-append-le}
use Rattle.std.proofs.lemmas.List.Elements.{All-append, All-cons, All-nil, All-weaker, recursion_from_All}
use Rattle.std.proofs.lemmas.List.FromFn.{length-enumerate_from}
use Rattle.std.specs.List.{AllByRecursion, enumerate_from}
use Rattle.std.specs.Option.{option_map, option_map_or}
use Rattle.std.specs.Prelude.{nat_lt, slice_get}
use Rattle.hs_core_words.specs.Looking.{front_of, group_of, shape_of}
use Rattle.hs_core_words.specs.State.{Core}
use Rattle.hs_effects.specs.Lawful.{MayFollow}
use Rattle.hs_effects.specs.Taking.{next_deed, setting_of, taken}
use Rattle.hs_entry.specs.declared.entry.Entry.{Entry}
use Rattle.hs_entry.specs.Entries.{IsPrefix}
use Rattle.hs_fold.proofs.Shards.LawfulLemmas.{each-from, pairs-append, pairs-from, pairs-to}
use Rattle.hs_fold.specs.Lawful.{Ascends, Deed}
use Rattle.hs_fold.specs.Runs.Facts.{Catalogue as Folded}
use Rattle.hs_fold.specs.Runs.History.{follow, follow_all, no_entries}
use Rattle.hs_fold.specs.Runs.Opened.{catalogues}
use Rattle.hs_fold.specs.Shards.Parted.{done_lists}
use Rattle.hs_fold.specs.Shards.Setting.{Numbered, Setting}
use Rattle.hs_fold.specs.Shards.Sound.{views_of, with_view}
use Rattle.hs_entry.specs.declared.entry.Entry.TheVariants as kind
use Rattle.hs_joint.specs.Along.{KeepFewRecords}
use Rattle.hs_limits.specs.declared.address.Address.{Address}
use Rattle.hs_limits.specs.declared.limits.Limits.{Limits}
use Rattle.hs_limits.specs.declared.shape.Shape.{Shape}
use Rattle.hs_moments.proofs.MoveLemmas.{enumerate_append}
use Rattle.hs_replica.specs.Group.{Group, commit_front, committed, new_group, take_committed}
use Rattle.hs_standing.proofs.ProposeLemmas.{Proposes}
use Rattle.hs_standing.proofs.QuietLemmas.{BringsNoView}
use Rattle.hs_standing.specs.Settled.{AreSettled}
use Rattle.hs_standing.proofs.StopsEffectLemmas.{back_there, later_back, later_fronts, one_deed, settled_count, there_low}
use Rattle.hs_standing.proofs.PartLemmas.{parted, parted_done, parted_whole}
use Rattle.hs_standing.specs.Effect.{one_more}
use Rattle.hs_standing.specs.Left.{AreFronts}
use Rattle.hs_standing.specs.Lists.{Lists, settled, settled_catalogues, settled_from, waiting}
use Rattle.hs_waiting.proofs.ListLemmas.{fit_append, follow_append, gives_whole}
use Rattle.hs_waiting.specs.Lists.{pending_deeds}

-- ---- what goes on

-- a shard's list: what took effect, and what waits, as the core has it; it begins with the old one and has its views
pub record ListGoesOn (old lists : Lists) (core : Core) (shard : ℕ) : Type 0 where
  pub front : lists.front shard ≡ front_of shard core
  pub within : lists.front shard ≤ length (lists.whole shard)
  pub waits : waiting lists shard ≡ enumerate_from (front_of shard core + 1) (group_of shard core).waiting
  pub grown : IsPrefix (old.whole shard) (lists.whole shard)
  pub views : views_of (lists.whole shard) ≡ views_of (old.whole shard)

pub record GoesOn (set : Setting) (old : Lists) (core : Core) (cs : List Folded) : Type 0 where
  pub limits : core.limits ≡ set.limits
  pub shape : shape_of core ≡ set.shape
  pub lists : Lists
  pub each : (shard : ℕ) → shard < set.shape.shards → ListGoesOn old lists core shard
  pub settled : AreSettled set lists cs

-- what a core is set up with
abbrev set_by : (List ℕ → Address) → Limits → Shape → Setting
set_by name limits shape = record { name = name; limits = limits; shape = shape }

pub setting_is : (set : Setting) (core : Core) → core.limits ≡ set.limits → shape_of core ≡ set.shape → setting_of set.name core ≡ set
setting_is set core limits shape = ap (λ (l : Limits). set_by set.name l (shape_of core)) limits ∙ ap (λ (s : Shape). set_by set.name set.limits s) shape

-- ---- views

view_append : (e : Entry) (xs ys : List ℕ) → with_view e xs ++ ys ≡ with_view e (xs ++ ys)
view_append (kind.View view) xs ys = refl
view_append (kind.Base view epoch swept round frames) xs ys = refl
view_append other xs ys = refl

pub views_append : (es more : Numbered) → views_of (es ++ more) ≡ views_of es ++ views_of more
views_append [] more = refl
views_append (e ∷ es) more = ap (λ vs. with_view e.1 vs) (views_append es more) ∙ sym (view_append e.1 (views_of es) (views_of more))

pub quiet_views : (n : ℕ) (es : List Entry) → AllByRecursion BringsNoView es → views_of (enumerate_from n es) ≡ []
quiet_views n [] q = refl
quiet_views n (e ∷ es) q = q.0 (views_of (enumerate_from (n + 1) es)) ∙ quiet_views (n + 1) es q.1

-- ---- entries come to the ends of lists

module _ (set : Setting) (old : Lists) (a b : Core) (cs : List Folded) (h : GoesOn set old a cs) (p : Proposes a b) where
  abbrev longer : Lists
  longer = record { whole = λ g. h.lists.whole g ++ enumerate_from (length (h.lists.whole g) + 1) (p.more g); front = h.lists.front }

  long_is : (g : ℕ) → g < set.shape.shards → length (h.lists.whole g) + 1 ≡ front_of g a + 1 + length (group_of g a).waiting
  long_is g low =
      let l = h.each g low in
      let within = l.within in
      let front = l.front in
      let count : length (waiting h.lists g) ≡ length (group_of g a).waiting = ap (λ (es : Numbered). length es) l.waits ∙ length-enumerate_from (front_of g a + 1) (group_of g a).waiting in
      let dropped : length (waiting h.lists g) ≡ length (h.lists.whole g) - h.lists.front g = length-drop (h.lists.front g) (h.lists.whole g) in
      omega (arith, within, front, count, dropped)

  each_longer : (g : ℕ) → g < set.shape.shards → ListGoesOn old longer b g
  each_longer g low = record {
    front = l.front ∙ sym (p.front g);
    within = let n = length-append whole extra in let w = l.within in omega (arith, n, w);
    waits = drop-append-le (h.lists.front g) whole extra l.within
        ∙ ap (λ es. es ++ extra) l.waits
        ∙ ap (λ n. enumerate_from (front_of g a + 1) ws ++ enumerate_from n (p.more g)) (long_is g low)
        ∙ sym (enumerate_append (front_of g a + 1) ws (p.more g))
        ∙ ap (λ es. enumerate_from (front_of g a + 1) es) (sym (p.waiting g))
        ∙ ap (λ n. enumerate_from (n + 1) (group_of g b).waiting) (sym (p.front g));
    grown = (l.grown.0 ++ extra, ap (λ es. es ++ extra) l.grown.1 ∙ append_assoc (old.whole g) l.grown.0 extra);
    views = views_append whole extra ∙ ap (λ vs. views_of whole ++ vs) (quiet_views (length whole + 1) (p.more g) (p.quiet g)) ∙ append-nil (views_of whole) ∙ l.views;
  }
    where
      l : ListGoesOn old h.lists a g
      l = h.each g low

      whole : Numbered
      whole = h.lists.whole g

      extra : Numbered
      extra = enumerate_from (length (h.lists.whole g) + 1) (p.more g)

      ws : List Entry
      ws = (group_of g a).waiting

  settled_same : (k n : ℕ) → ((j : ℕ) → j < k + n → h.lists.front j ≤ length (h.lists.whole j)) → settled_from longer k n ≡ settled_from h.lists k n
  settled_same k zero within = refl
  settled_same k (suc n) within =
      let one : take (h.lists.front k) (h.lists.whole k ++ enumerate_from (length (h.lists.whole k) + 1) (p.more k)) ≡ take (h.lists.front k) (h.lists.whole k) =
      take-append-le (h.lists.front k) (h.lists.whole k) (enumerate_from (length (h.lists.whole k) + 1) (p.more k)) (within k (omega arith)) in
      let rest = settled_same (k + 1) n (λ j low. within j (omega (arith, low))) in
      λ i. one i ∷ rest i

  pub goes_proposes : GoesOn set old b cs
  goes_proposes = record {
    limits = p.limits ∙ h.limits;
    shape = p.shape ∙ h.shape;
    lists = longer;
    each = each_longer;
    settled = record {
      folds = ap (λ ls. catalogues set 0 ls) (settled_same 0 set.shape.shards (λ j low. (h.each j (omega (arith, low))).within)) ∙ h.settled.folds;
      history = h.settled.history;
      ascends = h.settled.ascends;
      within = h.settled.within;
      fits = h.settled.fits;
      records = h.settled.records;
      gives = h.settled.gives;
    };
  }

-- ---- an entry that is committed

first_is : {X : Type 0} (xs : List X) (x : X) → slice_get xs 0 ≡ Some x → xs ≡ x ∷ drop 1 xs
first_is [] x e = absurd (cc e)
first_is (y ∷ ys) x e = let same : y ≡ x = cc e in ap (λ z. z ∷ ys) same

-- it stands first, under the next number, and is handed out
pub record IsFirst (group : Group) (number : ℕ) (entry : Entry) : Type 0 where
  pub numbered : number ≡ group.front + 1
  pub first : slice_get group.waiting 0 ≡ Some entry
  pub front : (take_committed group).front ≡ number
  pub rest : (take_committed group).waiting ≡ drop 1 group.waiting

pub committed_is : (group : Group) (number : ℕ) (entry : Entry) → committed group ≡ Some (number, entry) → IsFirst group number entry
committed_is group number entry e = by_front (nat_lt group.front (commit_front group)) e
  where
    by_first : (found : Option Entry) → slice_get group.waiting 0 ≡ found → option_map {U = ℕ × Entry} (λ (entry : Entry). (group.front + 1, entry)) found ≡ Some (number, entry) → IsFirst group number entry
    by_first None f n = absurd (cc n)
    by_first (Some x) f n =
        let same : (group.front + 1, x) ≡ (number, entry) = cc n in
        record {
          numbered = sym (ap (λ (y : ℕ × Entry). y.0) same);
          first = f ∙ ap (λ (y : ℕ × Entry). Some y.1) same;
          front = ap (λ (o : Option (ℕ × Entry)). (option_map_or (λ (x : ℕ × Entry). record group { front = x.0; waiting = drop 1 group.waiting }) o group).front) e;
          rest = ap (λ (o : Option (ℕ × Entry)). (option_map_or (λ (x : ℕ × Entry). record group { front = x.0; waiting = drop 1 group.waiting }) o group).waiting) e;
        }

    by_front : (b : Bool) → cond b (option_map {U = ℕ × Entry} (λ (entry : Entry). (group.front + 1, entry)) (slice_get group.waiting 0)) None ≡ Some (number, entry) → IsFirst group number entry
    by_front true n = by_first (slice_get group.waiting 0) refl n
    by_front false n = absurd (cc n)

few_append : (set : Setting) (cs : List Folded) (one more : List Deed) → KeepFewRecords set cs one → KeepFewRecords set (follow_all set cs one) more → KeepFewRecords set cs (one ++ more)
few_append set cs [] more f g = g
few_append set cs (d ∷ one) more f g = (f.0, few_append set (follow set cs d) one more f.1 g)

module _ (set : Setting) (old : Lists) (c : Core) (cs : List Folded) (h : GoesOn set old c cs) (shard number : ℕ) (entry : Entry) (low : shard < set.shape.shards)
    (is : committed (group_of shard c) ≡ Some (number, entry)) (may : MayFollow set cs (next_deed shard entry c)) where
  abbrev t : Core
  t = taken shard entry c

  abbrev deed : Deed
  deed = next_deed shard entry c

  abbrev e : ℕ × Entry
  e = (front_of shard c + 1, entry)

  abbrev none : ℕ → Group
  none g = new_group (shape_of c) g 0 0 []

  abbrev later : Lists
  later = one_more h.lists shard

  found : IsFirst (group_of shard c) number entry
  found = committed_is (group_of shard c) number entry is

  -- there is such a list: something waits in it
  listed : shard < length c.groups
  listed = elim (cases_lt shard (length c.groups)) [
    | inl within ↦ within
    | inr high ↦
        let empty : group_of shard c ≡ none shard = get_or_past c.groups shard (none shard) high in
        let bad : None ≡ Some entry = sym (ap (λ (y : Group). slice_get y.waiting 0) empty) ∙ found.first in
        absurd (cc bad)
  ]

  group_here : group_of shard t ≡ take_committed (group_of shard c)
  group_here = get_or-set_same c.groups shard (take_committed (group_of shard c)) (none shard) listed

  group_there : (g : ℕ) → g ≢ shard → group_of g t ≡ group_of g c
  group_there g differs = get_or-set_other c.groups shard g (take_committed (group_of shard c)) (none g) differs

  front_here : front_of shard t ≡ front_of shard c + 1
  front_here = ap (λ (y : Group). y.front) group_here ∙ found.front ∙ found.numbered

  rest_here : (group_of shard t).waiting ≡ drop 1 (group_of shard c).waiting
  rest_here = ap (λ (y : Group). y.waiting) group_here ∙ found.rest

  one : ListGoesOn old h.lists c shard
  one = h.each shard low

  abbrev rest : Numbered
  rest = enumerate_from (front_of shard c + 1 + 1) (drop 1 (group_of shard c).waiting)

  next_is : waiting h.lists shard ≡ (front_of shard c + 1, entry) ∷ enumerate_from (front_of shard c + 1 + 1) (drop 1 (group_of shard c).waiting)
  next_is = one.waits ∙ ap (λ es. enumerate_from (front_of shard c + 1) es) (first_is (group_of shard c).waiting entry found.first)

  -- ---- fronts

  raised : later.front shard ≡ h.lists.front shard + 1
  raised = ap (λ b. cond b (h.lists.front shard + 1) (h.lists.front shard)) (eq-eqb shard shard refl)

  stays : (k : ℕ) → k ≢ shard → later.front k ≡ h.lists.front k
  stays k differs = ap (λ b. cond b (h.lists.front k + 1) (h.lists.front k)) (ne_eqb k shard differs)

  -- ---- lists

  this_list : ListGoesOn old later t shard
  this_list = record {
    front = raised ∙ ap (λ n. n + 1) one.front ∙ sym front_here;
    within =
        let count = ap (λ (es : Numbered). length es) next_is in
        let dropped : length (waiting h.lists shard) ≡ length (h.lists.whole shard) - h.lists.front shard = length-drop (h.lists.front shard) (h.lists.whole shard) in
        let up = raised in
        omega (arith, count, dropped, up);
    waits = later_back h.lists shard e rest next_is one.within
        ∙ ap (λ n. enumerate_from (n + 1) (drop 1 (group_of shard c).waiting)) (sym front_here)
        ∙ ap (λ es. enumerate_from (front_of shard t + 1) es) (sym rest_here);
    grown = one.grown;
    views = one.views;
  }

  other_list : (k : ℕ) → k < set.shape.shards → k ≢ shard → ListGoesOn old later t k
  other_list k lk differs =
      let l = h.each k lk in
      let same : front_of k t ≡ front_of k c = ap (λ (y : Group). y.front) (group_there k differs) in
      record {
        front = stays k differs ∙ l.front ∙ sym same;
        within = let w = l.within in let n = stays k differs in omega (arith, w, n);
        waits = back_there h.lists shard e rest next_is one.within k differs ∙ l.waits
            ∙ ap (λ n. enumerate_from (n + 1) (group_of k c).waiting) (sym same)
            ∙ ap (λ (y : Group). enumerate_from (front_of k t + 1) y.waiting) (sym (group_there k differs));
        grown = l.grown;
        views = l.views;
      }

  each_later : (k : ℕ) → k < set.shape.shards → ListGoesOn old later t k
  each_later k lk = elim (cases_eq k shard) [
    | inl same ↦ subst (λ j. ListGoesOn old later t j) (sym same) this_list
    | inr differs ↦ other_list k lk differs
  ]

  -- ---- what took effect

  fine : AreFronts h.lists 0 (settled set later)
  fine = later_fronts h.lists shard e rest next_is one.within 0 set.shape.shards (λ j l. (h.each j (omega (arith, l))).within)

  deeds_are : pending_deeds 0 (parted h.lists 0 (settled set later)) ≡ deed ∷ []
  deeds_are = one_deed h.lists shard e rest next_is one.within 0 set.shape.shards (omega arith) (omega (arith, low))

  done_is : done_lists (parted h.lists 0 (settled set later)) ≡ settled set h.lists
  done_is = parted_done h.lists 0 (settled set later) fine ∙ ap (λ n. settled_from h.lists 0 n) (settled_count later 0 set.shape.shards)

  folds_later : settled_catalogues set later ≡ follow set cs deed
  folds_later =
      sym (ap (λ ls. catalogues set 0 ls) (parted_whole h.lists 0 (settled set later)))
      ∙ sym (gives_whole set (parted h.lists 0 (settled set later)))
      ∙ ap (λ ds. follow_all set (catalogues set 0 (done_lists (parted h.lists 0 (settled set later)))) ds) deeds_are
      ∙ ap (λ ls. follow set (catalogues set 0 ls) deed) done_is
      ∙ ap (λ ds. follow set ds deed) h.settled.folds

  there : MayFollow set (follow_all set (no_entries set) h.settled.history) deed
  there = subst (λ ds. MayFollow set ds deed) (sym h.settled.gives) may

  above : AllByRecursion (λ (d : Deed). AllByRecursion (Ascends d) (deed ∷ [])) h.settled.history
  above = each-from (λ (d : Deed). d.number ≤ h.lists.front d.shard) (λ d. AllByRecursion (Ascends d) (deed ∷ [])) h.settled.history
      (λ d up. (λ same. (let here : h.lists.front d.shard ≡ h.lists.front shard = ap h.lists.front same in let front = one.front in omega (arith, up, here, front)), tt))
      (recursion_from_All (λ (d : Deed). d.number ≤ h.lists.front d.shard) h.settled.history h.settled.within)

  settled_later : AreSettled set later (follow set cs deed)
  settled_later = record {
    folds = folds_later;
    history = h.settled.history ++ deed ∷ [];
    ascends = pairs-to Ascends (h.settled.history ++ deed ∷ []) (pairs-append Ascends h.settled.history (deed ∷ []) (pairs-from Ascends h.settled.history h.settled.ascends) (tt, tt) above);
    within = All-append (λ (d : Deed). d.number ≤ later.front d.shard) h.settled.history (deed ∷ [])
        (All-weaker (λ (d : Deed). d.number ≤ h.lists.front d.shard) (λ (d : Deed). d.number ≤ later.front d.shard) (λ d up. let more = there_low h.lists shard d.shard in omega (arith, up, more)) h.settled.history h.settled.within)
        (All-cons (λ (d : Deed). d.number ≤ later.front d.shard) deed [] (let up = raised in let front = one.front in omega (arith, up, front)) (All-nil (λ (d : Deed). d.number ≤ later.front d.shard)));
    fits = fit_append set (no_entries set) h.settled.history (deed ∷ []) h.settled.fits (there.of, there.rests, tt);
    records = few_append set (no_entries set) h.settled.history (deed ∷ []) h.settled.records (there.records, tt);
    gives = follow_append set (no_entries set) h.settled.history (deed ∷ []) ∙ ap (λ ds. follow set ds deed) h.settled.gives;
  }

  pub goes_taken : GoesOn set old (taken shard entry c) (follow set cs (next_deed shard entry c))
  goes_taken = record { limits = h.limits; shape = h.shape; lists = later; each = each_later; settled = settled_later }
