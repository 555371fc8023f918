-- One entry more takes effect: what took effect and what waits.
use Rattle.std.proofs.Common.{◌≡◌, inl, inr, ℕ, ◌<◌, ◌≤◌, List, [], ◌∷◌, length, sym, ap, ◌∙◌, subst, arith}
use Rattle.std.proofs.lemmas.Bool.{cases_eq}
use Rattle.std.proofs.lemmas.List.Elements.{All-from_recursion, recursion_from_All, All-tail, All-head}
use Rattle.std.specs.List.{AllByRecursion}
use Rattle.std.specs.Prelude.{All}
use Rattle.hs_limits.specs.Shape.{IsShape}
use Rattle.hs_model.specs.Run.{IsLegal}
use Rattle.hs_model.specs.Store.{reborn}
use Rattle.hs_entry.specs.declared.entry.Entry.{Entry}
use Rattle.hs_fold.specs.Lawful.{Deed}
use Rattle.hs_fold.specs.Shards.Happening.{happen_all, happen_by, happenings}
use Rattle.hs_fold.specs.Shards.Parted.{NamesUpTo, done_lists}
use Rattle.hs_fold.specs.Shards.Setting.{Numbered, Setting}
use Rattle.hs_fold.specs.Runs.Facts.{Catalogue}
use Rattle.hs_fold.specs.Runs.Fits.{catalogue_at}
use Rattle.hs_fold.specs.Runs.History.{follow, follow_all}
use Rattle.hs_fold.specs.Runs.Opened.{catalogues, store_of}
use Rattle.hs_joint.specs.Along.{HaveFewRecords, KeepFewRecords, happening_by}
use Rattle.hs_journal.specs.declared.entry.JournalEntry.{JournalEntry}
use Rattle.hs_sound.specs.Stay.{AreSoundAlong}
use Rattle.hs_waiting.specs.Lists.{pending_deeds}
use Rattle.hs_waiting.specs.Waits.{EntryWaits}
use Rattle.hs_waiting.proofs.ListLemmas.{gives_whole}
use Rattle.hs_standing.specs.Effect.{AreStillDue, IsStillDue, deed_of, one_more}
use Rattle.hs_standing.specs.Left.{AllWait, AreFronts, MayBeLeft, TookEffect}
use Rattle.hs_standing.specs.Lists.{Lists, settled, settled_catalogues, waiting}
use Rattle.hs_fold.specs.Shards.Outstanding.{pending}
use Rattle.hs_standing.specs.Start.{Start, events_in, store_after}
use Rattle.hs_standing.proofs.StopsEffectLemmas.{back_there, later_back, later_fronts, one_deed, settled_count, there_low}
use Rattle.hs_standing.proofs.StopsListLemmas.{lists_few, lists_happen, lists_sound, lists_stand, settled_is}
use Rattle.hs_standing.proofs.PartLemmas.{parted, parted_whole, waiting_number}
use Rattle.hs_standing.proofs.SessionLemmas.{all_left}
use Rattle.hs_standing.proofs.StillLemmas.{history_still, names_another, names_grow}
use Rattle.hs_standing.proofs.StopsWalkLemmas.{all_then, happened_along}

module _ (start : Start) (journal : List JournalEntry) (Awaited : ℕ → Type 0) (lists : Lists) (shape : IsShape start.set.shape) (took : TookEffect start journal lists)
    (left : (shard : ℕ) → shard < start.set.shape.shards → MayBeLeft start.set Awaited lists shard) (within : (shard : ℕ) → shard < start.set.shape.shards → lists.front shard ≤ length (lists.whole shard))
    (g : ℕ) (low : g < start.set.shape.shards) (e : ℕ × Entry) (rest : Numbered) (is : waiting lists g ≡ e ∷ rest) where
  abbrev set : Setting
  set = start.set

  abbrev n : ℕ
  n = set.shape.shards

  abbrev later : Lists
  later = one_more lists g

  abbrev some : List Numbered
  some = settled set later

  abbrev deed : Deed
  deed = deed_of g e

  abbrev cs : List Catalogue
  cs = settled_catalogues set lists

  count : length some ≡ n
  count = settled_count later 0 n

  fine : AreFronts lists 0 some
  fine = later_fronts lists g e rest is (within g low) 0 n (λ j l. within j (omega (arith, l)))

  deeds_are : pending_deeds 0 (parted lists 0 some) ≡ deed ∷ []
  deeds_are = one_deed lists g e rest is (within g low) 0 n (omega arith) (omega (arith, low))

  done_is : catalogues set 0 (done_lists (parted lists 0 some)) ≡ cs
  done_is = settled_is start journal Awaited lists shape took left some count fine

  -- ---- what took effect

  pub follow_later : follow set cs deed ≡ settled_catalogues set later
  follow_later =
      sym (ap (λ ds. follow_all set ds (deed ∷ [])) done_is)
      ∙ sym (ap (λ ds. follow_all set (catalogues set 0 (done_lists (parted lists 0 some))) ds) deeds_are)
      ∙ gives_whole set (parted lists 0 some)
      ∙ ap (λ ls. catalogues set 0 ls) (parted_whole lists 0 some)

  happens_later : happenings (pending set lists.front 0 some) ≡ happened_along set cs (deed ∷ [])
  happens_later =
      sym (lists_happen start journal Awaited lists shape took left some count fine)
      ∙ ap (λ ds. happened_along set (catalogues set 0 (done_lists (parted lists 0 some))) ds) deeds_are
      ∙ ap (λ ds. happened_along set ds (deed ∷ [])) done_is

  pub stood_later : store_of (settled_catalogues set later) ≡ happen_by (reborn (store_after start journal)) (happening_by set cs deed)
  stood_later =
      lists_stand start journal Awaited lists shape took left some count fine
      ∙ ap (λ hs. reborn (happen_all (store_after start journal) hs)) happens_later
      ∙ all_left (store_after start journal) (happened_along set cs (deed ∷ []))
      ∙ all_then (reborn (store_after start journal)) (happening_by set cs deed) []

  pub sound_later : AreSoundAlong set (settled set later)
  sound_later = lists_sound start journal Awaited lists shape took left some count fine

  pub took_later : (journal' : List JournalEntry) → IsLegal set.limits start.entry (events_in start journal') → reborn (store_after start journal') ≡ happen_by (reborn (store_after start journal)) (happening_by set cs deed) → TookEffect start journal' later
  took_later journal' legal behind = record { legal = legal; stood = stood_later ∙ sym behind; lawful = sound_later.sound.lawful; records = sound_later.records }

  -- ---- what waits

  few_later : HaveFewRecords (follow set cs deed)
  few_later = (subst (λ ds. KeepFewRecords set ds (deed ∷ [])) done_is (subst (λ ds. KeepFewRecords set (catalogues set 0 (done_lists (parted lists 0 some))) ds) deeds_are (lists_few start journal Awaited lists shape took left some count fine))).0

  above : lists.front g < e.0
  above = let number = waiting_number lists g e rest (left g low).numbered (within g low) is in omega (arith, number)

  still_one : (k : ℕ) → k < n → (x : ℕ × Entry) → NamesUpTo (lists.front k) x.1 × EntryWaits cs k x.1 → IsStillDue n (catalogue_at (settled_catalogues set later) k) x.1 → NamesUpTo (later.front k) x.1 × EntryWaits (settled_catalogues set later) k x.1
  still_one k lk x was due = (names_grow (lists.front k) (later.front k) x.1 (there_low lists g k) was.0, subst (λ ds. EntryWaits ds k x.1) follow_later (moved was.1 (subst (λ ds. IsStillDue n (catalogue_at ds k) x.1) (sym follow_later) due)))
    where
      first : EntryWaits cs g e.1
      first = (All-head (λ (y : ℕ × Entry). NamesUpTo (lists.front g) y.1 × EntryWaits cs g y.1) e rest (subst (λ es. All (λ (y : ℕ × Entry). NamesUpTo (lists.front g) y.1 × EntryWaits cs g y.1) es) is (left g low).waits)).1

      moved : EntryWaits cs k x.1 → IsStillDue n (catalogue_at (follow set cs deed) k) x.1 → EntryWaits (follow set cs deed) k x.1
      moved = subst (λ ds. EntryWaits ds g e.1 → HaveFewRecords (follow set ds deed) → EntryWaits ds k x.1 → IsStillDue n (catalogue_at (follow set ds deed) k) x.1 → EntryWaits (follow set ds deed) k x.1) took.lawful.gives
          (λ f few w d. history_still set took.lawful.history shape took.lawful.fits took.records deed low f few k lk x.1 (names_another lists.front g e.0 k x.1 above was.0) w d) first few_later

  each_still : (k : ℕ) → k < n → (es : Numbered) → AllByRecursion (λ (x : ℕ × Entry). NamesUpTo (lists.front k) x.1 × EntryWaits cs k x.1) es → AllByRecursion (λ (x : ℕ × Entry). IsStillDue n (catalogue_at (settled_catalogues set later) k) x.1) es
      → AllByRecursion (λ (x : ℕ × Entry). NamesUpTo (later.front k) x.1 × EntryWaits (settled_catalogues set later) k x.1) es
  each_still k lk [] was due = tt
  each_still k lk (x ∷ es) was due = (still_one k lk x was.0 due.0, each_still k lk es was.1 due.1)

  was_waiting : (k : ℕ) → k < n → All (λ (x : ℕ × Entry). NamesUpTo (lists.front k) x.1 × EntryWaits cs k x.1) (waiting later k)
  was_waiting k lk = elim (cases_eq k g) [
    | inl same ↦ subst (λ j. All (λ (x : ℕ × Entry). NamesUpTo (lists.front j) x.1 × EntryWaits cs j x.1) (waiting later j)) (sym same)
        (subst (λ es. All (λ (x : ℕ × Entry). NamesUpTo (lists.front g) x.1 × EntryWaits cs g x.1) es) (sym (later_back lists g e rest is (within g low)))
        (All-tail (λ (x : ℕ × Entry). NamesUpTo (lists.front g) x.1 × EntryWaits cs g x.1) e rest (subst (λ es. All (λ (x : ℕ × Entry). NamesUpTo (lists.front g) x.1 × EntryWaits cs g x.1) es) is (left g low).waits)))
    | inr differs ↦ subst (λ es. All (λ (x : ℕ × Entry). NamesUpTo (lists.front k) x.1 × EntryWaits cs k x.1) es) (sym (back_there lists g e rest is (within g low) k differs)) (left k lk).waits
  ]

  pub waits_later : (k : ℕ) → k < n → AreStillDue set later k → AllWait set later k
  waits_later k lk due =
      All-from_recursion (λ (x : ℕ × Entry). NamesUpTo (later.front k) x.1 × EntryWaits (settled_catalogues set later) k x.1) (waiting later k)
      (each_still k lk (waiting later k) (recursion_from_All (λ (x : ℕ × Entry). NamesUpTo (lists.front k) x.1 × EntryWaits cs k x.1) (waiting later k) (was_waiting k lk))
      (recursion_from_All (λ (x : ℕ × Entry). IsStillDue n (catalogue_at (settled_catalogues set later) k) x.1) (waiting later k) due))
