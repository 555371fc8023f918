-- One entry more comes to wait.
use Rattle.std.proofs.Common.{◌≡◌, ◌≢◌, inl, inr, ℕ, zero, suc, ◌+◌, ◌<◌, ◌≤◌, cond, List, [], ◌∷◌, ◌++◌, length, take, drop, refl, sym, ap, ◌∙◌, subst, arith, append-nil, length-append}
use Rattle.std.proofs.lemmas.Bool.{cases_eq, eq-eqb, ne_eqb}
use Rattle.std.proofs.lemmas.List.{take-append-le, drop-append-le}
use Rattle.std.proofs.lemmas.List.Elements.{All-push}
use Rattle.std.specs.Prelude.{All}
use Rattle.hs_entry.specs.declared.entry.Entry.{Entry}
use Rattle.hs_entry.specs.Entries.{IsPrefix}
use Rattle.hs_fold.specs.Prefix.{IsNumbered}
use Rattle.hs_fold.specs.Shards.Parted.{NamesUpTo}
use Rattle.hs_fold.specs.Shards.Setting.{Numbered, Setting, shard_in}
use Rattle.hs_fold.specs.Shards.Sound.{HasRisingViews, most_records}
use Rattle.hs_fold.specs.Runs.Catalogue.{catalogue_of}
use Rattle.hs_fold.specs.Runs.Opened.{catalogues, store_of}
use Rattle.hs_fold.proofs.NumberedLemmas.{numbered-more}
use Rattle.hs_journal.specs.declared.entry.JournalEntry.{JournalEntry}
use Rattle.hs_waiting.specs.Waits.{EntryWaits}
use Rattle.hs_standing.specs.Effect.{AreStanding, MayBeAdded, with_entry}
use Rattle.hs_standing.specs.Left.{HasFewRecords, MayBeLeft, TookEffect}
use Rattle.hs_standing.specs.Lists.{Lists, settled, settled_catalogues, settled_from, waiting}
use Rattle.hs_fold.specs.Shards.Outstanding.{MayPend}
use Rattle.hs_standing.specs.Start.{Start}
use Rattle.hs_standing.proofs.StopsListLemmas.{IsLawful}

-- what took effect may be told of other lists of which the same took effect
pub took_same : (start : Start) (journal : List JournalEntry) (lists others : Lists) → settled start.set others ≡ settled start.set lists → TookEffect start journal lists → TookEffect start journal others
took_same start journal lists others same took =
    let law : IsLawful start.set (settled start.set others) = subst (λ ls. IsLawful start.set ls) (sym same) (record { lawful = took.lawful; records = took.records }) in
    record { legal = took.legal; stood = ap (λ ls. store_of (catalogues start.set 0 ls)) same ∙ took.stood; lawful = law.lawful; records = law.records }

-- a front of a list with one entry more is all of it, or one of the list
front_within : (list front : Numbered) (x y : ℕ × Entry) (more : Numbered) → list ++ x ∷ [] ≡ front ++ (y ∷ more) → IsPrefix front list
front_within list [] x y more is = (list, refl)
front_within [] (z ∷ front) x y more is = (let n = ap (λ (es : Numbered). length es) is in let m = length-append front (y ∷ more) in absurd (omega (arith, n, m)))
front_within (a ∷ list) (z ∷ front) x y more is =
    let head : a ≡ z = cc is in
    let tail : list ++ x ∷ [] ≡ front ++ (y ∷ more) = cc is in
    let rest = front_within list front x y more tail in
    (rest.0, λ i. head i ∷ rest.1 i)

module _ (lists : Lists) (g : ℕ) (entry : Entry) where
  abbrev later : Lists
  later = with_entry lists g entry

  abbrev added : ℕ × Entry
  added = (length (lists.whole g) + 1, entry)

  same_there : (k : ℕ) → k ≢ g → later.whole k ≡ lists.whole k
  same_there k differs = ap (λ b. cond b (lists.whole k ++ (length (lists.whole k) + 1, entry) ∷ []) (lists.whole k)) (ne_eqb k g differs)

  more_here : later.whole g ≡ lists.whole g ++ added ∷ []
  more_here = ap (λ b. cond b (lists.whole g ++ added ∷ []) (lists.whole g)) (eq-eqb g g refl)

  taken_same : (k : ℕ) → lists.front k ≤ length (lists.whole k) → take (lists.front k) (later.whole k) ≡ take (lists.front k) (lists.whole k)
  taken_same k low = elim (cases_eq k g) [
    | inl same ↦ subst (λ j. lists.front j ≤ length (lists.whole j) → take (lists.front j) (later.whole j) ≡ take (lists.front j) (lists.whole j)) (sym same)
        (λ l. ap (λ es. take (lists.front g) es) more_here ∙ take-append-le (lists.front g) (lists.whole g) (added ∷ []) l) low
    | inr differs ↦ ap (λ es. take (lists.front k) es) (same_there k differs)
  ]

  settled_same : (k n : ℕ) → ((j : ℕ) → j < k + n → lists.front j ≤ length (lists.whole j)) → settled_from later k n ≡ settled_from lists k n
  settled_same k zero within = refl
  settled_same k (suc n) within =
      let one = taken_same k (within k (omega arith)) in
      let rest = settled_same (k + 1) n (λ j low. within j (omega (arith, low))) in
      λ i. one i ∷ rest i

  longer : (k : ℕ) → lists.front k ≤ length (lists.whole k) → lists.front k ≤ length (later.whole k)
  longer k low = elim (cases_eq k g) [
    | inl same ↦ subst (λ j. lists.front j ≤ length (lists.whole j) → lists.front j ≤ length (later.whole j)) (sym same)
        (λ l. let n = ap (λ (es : Numbered). length es) more_here ∙ length-append (lists.whole g) (added ∷ []) in omega (arith, n, l)) low
    | inr differs ↦ (let n = ap (λ (es : Numbered). length es) (same_there k differs) in omega (arith, n, low))
  ]

  few_here : (set : Setting) → HasFewRecords set lists g → length (catalogue_of (shard_in set g) (later.whole g)).roots ≤ most_records → HasFewRecords set later g
  few_here set few last list prefix high = go prefix.0 prefix.1
    where
      go : (more : Numbered) → later.whole g ≡ list ++ more → length (catalogue_of (shard_in set g) list).roots ≤ most_records
      go [] is = subst (λ es. length (catalogue_of (shard_in set g) es).roots ≤ most_records) (is ∙ append-nil list) last
      go (y ∷ more) is = few list (front_within (lists.whole g) list added y more (sym more_here ∙ is)) high

  waiting_more : lists.front g ≤ length (lists.whole g) → waiting later g ≡ waiting lists g ++ added ∷ []
  waiting_more low = ap (λ es. drop (lists.front g) es) more_here ∙ drop-append-le (lists.front g) (lists.whole g) (added ∷ []) low

  waiting_same : (k : ℕ) → k ≢ g → waiting later k ≡ waiting lists k
  waiting_same k differs = ap (λ es. drop (lists.front k) es) (same_there k differs)

module _ (start : Start) (Awaited : ℕ → Type 0) (journal : List JournalEntry) (lists : Lists) (s : AreStanding start Awaited journal lists) (g : ℕ) (low : g < start.set.shape.shards) (entry : Entry) (add : MayBeAdded start.set Awaited lists g entry) where
  abbrev set : Setting
  set = start.set

  abbrev n : ℕ
  n = set.shape.shards

  abbrev next : Lists
  next = with_entry lists g entry

  settled_is : settled set next ≡ settled set lists
  settled_is = settled_same lists g entry 0 n (λ j l. s.within j (omega (arith, l)))

  cats_are : settled_catalogues set next ≡ settled_catalogues set lists
  cats_are = ap (λ ls. catalogues set 0 ls) settled_is

  waits_in : (k : ℕ) (es : Numbered) → All (λ (e : ℕ × Entry). NamesUpTo (lists.front k) e.1 × EntryWaits (settled_catalogues set lists) k e.1) es → waiting next k ≡ es → All (λ (e : ℕ × Entry). NamesUpTo (lists.front k) e.1 × EntryWaits (settled_catalogues set next) k e.1) (waiting next k)
  waits_in k es h is = subst (λ cs. All (λ (e : ℕ × Entry). NamesUpTo (lists.front k) e.1 × EntryWaits cs k e.1) (waiting next k)) (sym cats_are) (subst (λ xs. All (λ (e : ℕ × Entry). NamesUpTo (lists.front k) e.1 × EntryWaits (settled_catalogues set lists) k e.1) xs) (sym is) h)

  left_there : (k : ℕ) → k < n → k ≢ g → MayBeLeft set Awaited next k
  left_there k lk differs =
      let m = s.left k lk in
      let whole = same_there lists g entry k differs in
      record {
        numbered = subst (λ es. IsNumbered es) (sym whole) m.numbered;
        views = subst (λ es. HasRisingViews es) (sym whole) m.views;
        few = λ list prefix high. m.few list (prefix.0, sym whole ∙ prefix.1) high;
        waits = waits_in k (waiting lists k) m.waits (waiting_same lists g entry k differs);
        awaited = subst (λ es. All (λ (e : ℕ × Entry). MayPend Awaited e.1) es) (sym (waiting_same lists g entry k differs)) m.awaited;
      }

  left_here : MayBeLeft set Awaited next g
  left_here =
      let m = s.left g low in
      let back = waiting_more lists g entry (s.within g low) in
      record {
        numbered = subst (λ es. IsNumbered es) (sym (more_here lists g entry)) (numbered-more (lists.whole g) entry m.numbered add.ordinary);
        views = add.views;
        few = few_here lists g entry set m.few add.few;
        waits = waits_in g (waiting lists g ++ (length (lists.whole g) + 1, entry) ∷ []) (All-push (λ (e : ℕ × Entry). NamesUpTo (lists.front g) e.1 × EntryWaits (settled_catalogues set lists) g e.1) (waiting lists g) (length (lists.whole g) + 1, entry) m.waits (add.names, add.waits)) back;
        awaited = subst (λ es. All (λ (e : ℕ × Entry). MayPend Awaited e.1) es) (sym back) (All-push (λ (e : ℕ × Entry). MayPend Awaited e.1) (waiting lists g) (length (lists.whole g) + 1, entry) m.awaited add.awaited);
      }

  pub stands_more : AreStanding start Awaited journal next
  stands_more = record {
    shape = s.shape;
    took = took_same start journal lists next settled_is s.took;
    within = λ k l. longer lists g entry k (s.within k l);
    left = λ k l. elim (cases_eq k g) [ inl same ↦ subst (λ j. MayBeLeft set Awaited next j) (sym same) left_here | inr differs ↦ left_there k l differs ];
  }
