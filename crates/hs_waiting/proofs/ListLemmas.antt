-- Lists of all shards behind what took effect of them.
use Rattle.std.proofs.Common.{◌≡◌, ℕ, zero, suc, ◌+◌, ◌<◌, ◌≤◌, List, [], ◌∷◌, ◌++◌, length, refl, sym, ap, ◌∙◌, subst, arith, replicate, slice_set}
use Rattle.std.proofs.lemmas.List.Elements.{All-from_recursion, recursion_from_All}
use Rattle.std.specs.List.{AllByRecursion}
use Rattle.std.specs.Prelude.{All}
use Rattle.hs_limits.specs.Shape.{IsShape}
use Rattle.hs_laws.proofs.ValidLemmas.{Valid}
use Rattle.hs_entry.specs.declared.entry.Entry.{Entry}
use Rattle.hs_fold.specs.Catalogue.{Shard}
use Rattle.hs_fold.specs.Lawful.{Deed, Ascends, list_at}
use Rattle.hs_fold.specs.Prefix.{last_of, GoOn}
use Rattle.hs_fold.specs.Shards.Parted.{Parted, NamesUpTo, done_lists, whole_lists}
use Rattle.hs_fold.specs.Shards.Setting.{Numbered, Setting, shard_in}
use Rattle.hs_fold.specs.Runs.Catalogue.{apply, apply_all, catalogue_of}
use Rattle.hs_fold.specs.Runs.Facts.{Catalogue, empty_catalogue}
use Rattle.hs_fold.specs.Runs.History.{follow, follow_all, FitAll, AreLawful, no_entries}
use Rattle.hs_fold.specs.Runs.Fits.{catalogue_at}
use Rattle.hs_fold.specs.Runs.Opened.{catalogues, store_of}
use Rattle.hs_fold.specs.Runs.Sound.{AreSent, HasRoom}
use Rattle.hs_fold.specs.Shards.Sound.{most_records}
use Rattle.hs_fold.proofs.Shards.LawfulLemmas.{PairsBy, each-append, each-from, pairs-from, pairs-to, pairs-append, AllGoOn, behind-pairs, last-rises, behind-within, behind_deeds}
use Rattle.hs_fold.proofs.Shards.LawfulLemmas.{deeds_of as deeds_there}
use Rattle.hs_fold.proofs.Shards.PlaceLemmas.{at-place, set-place}
use Rattle.hs_joint.specs.Along.{HaveFewRecords, KeepFewRecords}
use Rattle.hs_joint.proofs.HistoryLemmas.{shape_some, shape_few, history_goes}
use Rattle.hs_waiting.specs.Lists.{deeds_of, pending_deeds, MayAllWait}
use Rattle.hs_waiting.specs.Waits.{EntryWaits, AllWait}
use Rattle.hs_waiting.proofs.LoggedLemmas.{history_logged}
use Rattle.hs_waiting.proofs.RunLemmas.{all_beside, RunsAll, runs_all}

-- ---- histories go on

pub follow_append : (set : Setting) (cs : List Catalogue) (one more : List Deed) → follow_all set cs (one ++ more) ≡ follow_all set (follow_all set cs one) more
follow_append set cs [] more = refl
follow_append set cs (d ∷ one) more = follow_append set (follow set cs d) one more

pub fit_append : (set : Setting) (cs : List Catalogue) (one more : List Deed) → FitAll set cs one → FitAll set (follow_all set cs one) more → FitAll set cs (one ++ more)
fit_append set cs [] more f g = g
fit_append set cs (d ∷ one) more f g = (f.0, f.1, fit_append set (follow set cs d) one more f.2 g)

-- ---- the catalogues of whole lists

apply_append : (at : Shard) (c : Catalogue) (es more : Numbered) → apply_all at c (es ++ more) ≡ apply_all at (apply_all at c es) more
apply_append at c [] more = refl
apply_append at c (e ∷ es) more = apply_append at (apply at c e) es more

append_again : {X : Type 0} (front back : List X) (c : X) → (front ++ c ∷ []) ++ back ≡ front ++ c ∷ back
append_again [] back c = refl
append_again (x ∷ front) back c = ap (λ rest. x ∷ rest) (append_again front back c)

length_again : {X : Type 0} (front : List X) (c : X) → length (front ++ c ∷ []) ≡ length front + 1
length_again [] c = omega arith
length_again (x ∷ front) c = let rest = length_again front c in omega (arith, rest)

-- the entries of one shard, one after another
follow_shard : (set : Setting) (front back : List Catalogue) (c : Catalogue) (es : Numbered) → follow_all set (front ++ c ∷ back) (deeds_of (length front) es) ≡ front ++ apply_all (shard_in set (length front)) c es ∷ back
follow_shard set front back c [] = refl
follow_shard set front back c (e ∷ es) =
    let at : Shard = shard_in set (length front) in
    let one : follow set (front ++ c ∷ back) (record { shard = length front; number = e.0; entry = e.1 }) ≡ front ++ apply at c e ∷ back =
    ap (λ x. slice_set (front ++ c ∷ back) (length front) (apply at x e)) (at-place empty_catalogue front back c) ∙ set-place front back c (apply at c e) in
    ap (λ cs. follow_all set cs (deeds_of (length front) es)) one ∙ follow_shard set front back (apply at c e) es

follow_lists : (set : Setting) (front : List Catalogue) (lists : List Parted) → follow_all set (front ++ catalogues set (length front) (done_lists lists)) (pending_deeds (length front) lists) ≡ front ++ catalogues set (length front) (whole_lists lists)
follow_lists set front [] = refl
follow_lists set front (x ∷ lists) =
    let at : Shard = shard_in set (length front) in
    let whole : Catalogue = catalogue_of at (x.done ++ x.back) in
    let next : length (front ++ whole ∷ []) ≡ length front + 1 = length_again front whole in
    follow_append set (front ++ catalogue_of at x.done ∷ catalogues set (length front + 1) (done_lists lists)) (deeds_of (length front) x.back) (pending_deeds (length front + 1) lists)
    ∙ ap (λ cs. follow_all set cs (pending_deeds (length front + 1) lists)) (follow_shard set front (catalogues set (length front + 1) (done_lists lists)) (catalogue_of at x.done) x.back ∙ ap (λ c. front ++ c ∷ catalogues set (length front + 1) (done_lists lists)) (sym (apply_append at empty_catalogue x.done x.back)))
    ∙ ap (λ cs. follow_all set cs (pending_deeds (length front + 1) lists)) (sym (append_again front (catalogues set (length front + 1) (done_lists lists)) whole))
    ∙ subst (λ k. follow_all set ((front ++ whole ∷ []) ++ catalogues set k (done_lists lists)) (pending_deeds k lists) ≡ (front ++ whole ∷ []) ++ catalogues set k (whole_lists lists)) next (follow_lists set (front ++ whole ∷ []) lists)
    ∙ append_again front (catalogues set (length front + 1) (whole_lists lists)) whole

pub gives_whole : (set : Setting) (lists : List Parted) → follow_all set (catalogues set 0 (done_lists lists)) (pending_deeds 0 lists) ≡ catalogues set 0 (whole_lists lists)
gives_whole set lists = follow_lists set [] lists

-- ---- room behind a history

records_append : (set : Setting) (cs : List Catalogue) (one more : List Deed) → KeepFewRecords set cs one → KeepFewRecords set (follow_all set cs one) more → KeepFewRecords set cs (one ++ more)
records_append set cs [] more f g = g
records_append set cs (d ∷ one) more f g = (f.0, records_append set (follow set cs d) one more f.1 g)

records_end : (set : Setting) (cs : List Catalogue) (deeds : List Deed) → HaveFewRecords cs → KeepFewRecords set cs deeds → HaveFewRecords (follow_all set cs deeds)
records_end set cs [] now r = now
records_end set cs (d ∷ deeds) now r = records_end set (follow set cs d) deeds r.0 r.1

no_records : (n : ℕ) → AllByRecursion (λ (c : Catalogue). length c.roots ≤ most_records) (replicate n empty_catalogue)
no_records zero = tt
no_records (suc n) = (omega arith, no_records n)

each_room : (cs : List Catalogue) → ((k : ℕ) → k < length cs → length (catalogue_at cs k).blocks ≤ 16384) → AllByRecursion (λ (c : Catalogue). length c.roots ≤ most_records) cs → AllByRecursion (λ c. HasRoom c) cs
each_room [] blocks records = tt
each_room (c ∷ cs) blocks records = (record { blocks = blocks 0 (omega arith); records = records.0 }, each_room cs (λ k low. blocks (suc k) (omega (arith, low))) records.1)

pub history_room : (set : Setting) (history : List Deed) → IsShape set.shape → FitAll set (no_entries set) history → KeepFewRecords set (no_entries set) history → All HasRoom (follow_all set (no_entries set) history)
history_room set history shape fit records =
    let g = history_goes set (shape_some set.shape shape) (shape_few set.shape shape) history fit records in
    let each = g.standing.joined.each in
    let cs : List Catalogue = follow_all set (no_entries set) history in
    let begin = All-from_recursion (λ (c : Catalogue). length c.roots ≤ most_records) (no_entries set) (no_records set.shape.shards) in
    All-from_recursion (λ c. HasRoom c) cs (each_room cs (λ k low. g.standing.room k (omega (arith, low, each)))
    (recursion_from_All (λ (c : Catalogue). length c.roots ≤ most_records) cs (records_end set (no_entries set) history begin records)))

-- ---- the same deeds as without runs

same_deeds : (shard : ℕ) (es : Numbered) → deeds_of shard es ≡ deeds_there shard es
same_deeds shard [] = refl
same_deeds shard (e ∷ es) = ap (λ ds. record { shard = shard; number = e.0; entry = e.1 } ∷ ds) (same_deeds shard es)

same_pending : (shard : ℕ) (lists : List Parted) → pending_deeds shard lists ≡ behind_deeds shard lists
same_pending shard [] = refl
same_pending shard (x ∷ xs) = ap (λ ds. ds ++ pending_deeds (shard + 1) xs) (same_deeds shard x.back) ∙ ap (λ ds. deeds_there shard x.back ++ ds) (same_pending (shard + 1) xs)

goes_on_each : (cs : List Catalogue) (g : ℕ) (lists : List Parted) → MayAllWait cs g lists → AllGoOn lists
goes_on_each cs g [] w = tt
goes_on_each cs g (x ∷ lists) w = (w.0.0, goes_on_each cs (g + 1) lists w.1)

-- ---- each waits

wait_append : (set : Setting) (front : ℕ → ℕ) (cs : List Catalogue) (one more : List Deed) → AllWait set front cs one → AllWait set front cs more → AllWait set front cs (one ++ more)
wait_append set front cs [] more h k = k
wait_append set front cs (d ∷ one) more h k = (h.0, wait_append set front cs one more h.1 k)

list_waits : (set : Setting) (front : ℕ → ℕ) (cs : List Catalogue) (g n : ℕ) (es : Numbered) → g < set.shape.shards → front g ≤ n → GoOn n es
    → AllByRecursion (λ (e : ℕ × Entry). NamesUpTo (front g) e.1 × EntryWaits cs g e.1) es → AllWait set front cs (deeds_of g es)
list_waits set front cs g n [] low l goes w = tt
list_waits set front cs g n (e ∷ es) low l goes w =
    let number : e.0 ≡ n + 1 = goes.0 in
    (record { of = low; above = omega (arith, number, l); names = w.0.0; may = w.0.1 }, list_waits set front cs g (n + 1) es low (omega (arith, l)) goes.2 w.1)

lists_wait : (set : Setting) (front : ℕ → ℕ) (cs : List Catalogue) (g : ℕ) (lists : List Parted) → g + length lists ≡ set.shape.shards
    → ((k : ℕ) → k < length lists → front (g + k) ≡ last_of (list_at (done_lists lists) k)) → MayAllWait cs g lists → AllWait set front cs (pending_deeds g lists)
lists_wait set front cs g [] count f w = tt
lists_wait set front cs g (x ∷ lists) count f w =
    wait_append set front cs (deeds_of g x.back) (pending_deeds (g + 1) lists) here (lists_wait set front cs (g + 1) lists (omega (arith, count)) (λ k low. ap front (shift g k) ∙ f (suc k) (omega (arith, low))) w.1)
  where
    shift : (a b : ℕ) → a + 1 + b ≡ a + suc b
    shift a b = omega arith

    at : front g ≡ last_of x.done
    at = ap front (zero_right g) ∙ f 0 (omega arith)
      where
        zero_right : (m : ℕ) → m ≡ m + 0
        zero_right m = omega arith

    facts : AllByRecursion (λ (e : ℕ × Entry). NamesUpTo (front g) e.1 × EntryWaits cs g e.1) x.back
    facts = subst (λ m. AllByRecursion (λ (e : ℕ × Entry). NamesUpTo m e.1 × EntryWaits cs g e.1) x.back) (sym at) (recursion_from_All (λ (e : ℕ × Entry). NamesUpTo (last_of x.done) e.1 × EntryWaits cs g e.1) x.back w.0.1)

    here : AllWait set front cs (deeds_of g x.back)
    here = list_waits set front cs g (last_of x.done) x.back (omega (arith, count)) (omega (arith, at)) w.0.0 facts

above_front : (set : Setting) (front : ℕ → ℕ) (cs : List Catalogue) (deeds : List Deed) → AllWait set front cs deeds → AllByRecursion (λ (d : Deed). front d.shard < d.number) deeds
above_front set front cs [] w = tt
above_front set front cs (d ∷ deeds) w = (w.0.above, above_front set front cs deeds w.1)

-- ---- all of it

module _ (set : Setting) (lists : List Parted) (lawful : AreLawful set (done_lists lists) (catalogues set 0 (done_lists lists))) (shape : IsShape set.shape) (count : length lists ≡ set.shape.shards)
    (records : KeepFewRecords set (no_entries set) lawful.history) (waits : MayAllWait (catalogues set 0 (done_lists lists)) 0 lists) (more : KeepFewRecords set (catalogues set 0 (done_lists lists)) (pending_deeds 0 lists)) where
  abbrev done : List Catalogue
  done = catalogues set 0 (done_lists lists)

  abbrev whole : List Catalogue
  whole = catalogues set 0 (whole_lists lists)

  abbrev later : List Deed
  later = pending_deeds 0 lists

  abbrev front : ℕ → ℕ
  front k = last_of (list_at (done_lists lists) k)

  zero_left : (m : ℕ) → 0 + m ≡ m
  zero_left m = omega arith

  all_wait : AllWait set front done later
  all_wait = lists_wait set front done 0 lists (zero_left (length lists) ∙ count) (λ k low. ap front (zero_left k)) waits

  pub runs : RunsAll set (shape_some set.shape shape) done later
  runs =
      let some = shape_some set.shape shape in
      let g = history_goes set some (shape_few set.shape shape) lawful.history lawful.fits records in
      let there = subst (λ cs. AllWait set front cs later → KeepFewRecords set cs later → RunsAll set some cs later) lawful.gives (λ w k. runs_all set some (shape_few set.shape shape) front later (follow_all set (no_entries set) lawful.history) g.later g.standing g.valid (all_beside set some front (follow_all set (no_entries set) lawful.history) g.later g.standing later w) k) in
      there all_wait more

  pub whole_valid : Valid (store_of whole)
  whole_valid = subst (λ cs. Valid (store_of cs)) (gives_whole set lists) runs.valid

  pub whole_lawful : AreLawful set (whole_lists lists) whole
  whole_lawful = record {
    history = lawful.history ++ later;
    ascends = pairs-to Ascends (lawful.history ++ later) (pairs-append Ascends lawful.history later (pairs-from Ascends lawful.history lawful.ascends) later_pairs above);
    within = All-from_recursion (λ (d : Deed). d.number ≤ last d.shard) (lawful.history ++ later) (each-append (λ (d : Deed). d.number ≤ last d.shard) lawful.history later before later_within);
    fits = fit_append set (no_entries set) lawful.history later lawful.fits (subst (λ cs. FitAll set cs later) (sym lawful.gives) runs.fits);
    gives = follow_append set (no_entries set) lawful.history later ∙ ap (λ cs. follow_all set cs later) lawful.gives ∙ gives_whole set lists;
  }
    where
      on : AllGoOn lists
      on = goes_on_each done 0 lists waits

      last : ℕ → ℕ
      last k = last_of (list_at (whole_lists lists) k)

      later_pairs : PairsBy Ascends later
      later_pairs = subst (λ ds. PairsBy Ascends ds) (sym (same_pending 0 lists)) (behind-pairs 0 lists on)

      later_within : AllByRecursion (λ (d : Deed). d.number ≤ last d.shard) later
      later_within = subst (λ ds. AllByRecursion (λ (d : Deed). d.number ≤ last d.shard) ds) (sym (same_pending 0 lists)) (behind-within last 0 lists (λ k low. omega (arith, ap last (zero_left k))) on)

      old : AllByRecursion (λ (d : Deed). d.number ≤ front d.shard) lawful.history
      old = recursion_from_All (λ (d : Deed). d.number ≤ front d.shard) lawful.history lawful.within

      before : AllByRecursion (λ (d : Deed). d.number ≤ last d.shard) lawful.history
      before = each-from (λ (d : Deed). d.number ≤ front d.shard) (λ (d : Deed). d.number ≤ last d.shard) lawful.history (λ d low. let rise = last-rises lists on d.shard in omega (arith, low, rise)) old

      above : AllByRecursion (λ d. AllByRecursion (Ascends d) later) lawful.history
      above = each-from (λ (d : Deed). d.number ≤ front d.shard) (λ d. AllByRecursion (Ascends d) later) lawful.history
          (λ first low. each-from (λ (d : Deed). front d.shard < d.number) (Ascends first) later (λ d up same. let here : front first.shard ≡ front d.shard = ap front same in omega (arith, low, up, here)) (above_front set front done later all_wait)) old

  pub all_records : KeepFewRecords set (no_entries set) whole_lawful.history
  unfolding whole_lawful
  all_records = records_append set (no_entries set) lawful.history later records (subst (λ cs. KeepFewRecords set cs later) (sym lawful.gives) more)

  pub whole_sent : (shard : ℕ) → shard < set.shape.shards → AreSent whole shard
  whole_sent shard l = subst (λ cs. AreSent cs shard) whole_lawful.gives (history_logged set whole_lawful.history shard shape whole_lawful.fits all_records l)

  pub whole_room : All HasRoom whole
  whole_room = subst (λ cs. All HasRoom cs) whole_lawful.gives (history_room set whole_lawful.history shape whole_lawful.fits all_records)
