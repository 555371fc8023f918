-- Lists of which all took effect.
use Rattle.std.proofs.Common.{◌≡◌, inl, inr, ℕ, zero, suc, ◌+◌, ◌<◌, ◌≤◌, [], ◌∷◌, ◌++◌, length, take, drop, refl, sym, ap, ◌∙◌, subst, arith, append-nil, length-append}
use Rattle.std.proofs.Math.Seq.{take-length}
use Rattle.std.proofs.lemmas.Bool.{cases_eq}
use Rattle.std.proofs.lemmas.List.Elements.{All-nil, recursion_from_All}
use Rattle.std.specs.List.{AllByRecursion}
use Rattle.std.specs.Prelude.{All}
use Rattle.hs_model.specs.Store.{reborn}
use Rattle.hs_entry.specs.declared.entry.Entry.{Entry}
use Rattle.hs_fold.specs.Prefix.{IsNumbered}
use Rattle.hs_fold.specs.Shards.Parted.{NamesUpTo}
use Rattle.hs_fold.specs.Shards.Setting.{Numbered, Setting, shard_in}
use Rattle.hs_fold.specs.Shards.Sound.{HasRisingViews, most_records}
use Rattle.hs_fold.specs.Runs.Catalogue.{catalogue_of}
use Rattle.hs_fold.specs.Runs.Opened.{catalogues, store_of}
use Rattle.hs_fold.specs.Runs.Sound.{HasRoom}
use Rattle.hs_sound.specs.Stay.{AreSoundAlong}
use Rattle.hs_waiting.specs.Waits.{EntryWaits}
use Rattle.hs_standing.specs.Left.{MayBeLeft, TookEffect}
use Rattle.hs_standing.specs.Lists.{Lists, settled, settled_catalogues, settled_from, waiting, whole_from}
use Rattle.hs_fold.specs.Shards.Outstanding.{MayPend}
use Rattle.hs_standing.specs.Start.{Start}
use Rattle.hs_standing.proofs.StopsEffectLemmas.{front_gone}
use Rattle.hs_standing.proofs.StopsListLemmas.{IsLawful}

settled_whole : (lists : Lists) (k n : ℕ) → ((j : ℕ) → j < k + n → lists.front j ≡ length (lists.whole j)) → settled_from lists k n ≡ whole_from lists k n
settled_whole lists k zero all = refl
settled_whole lists k (suc n) all =
    let one : take (lists.front k) (lists.whole k) ≡ lists.whole k = ap (λ m. take m (lists.whole k)) (all k (omega arith)) ∙ take-length (lists.whole k) in
    let rest = settled_whole lists (k + 1) n (λ j low. all j (omega (arith, low))) in
    λ i. one i ∷ rest i

whole_at : (P : Numbered → Type 0) (lists : Lists) (k n : ℕ) → AllByRecursion P (whole_from lists k n) → (j : ℕ) → k ≤ j → j < k + n → P (lists.whole j)
whole_at P lists k zero h j low high = absurd (omega (arith, low, high))
whole_at P lists k (suc n) h j low high = elim (cases_eq k j) [
  | inl same ↦ subst (λ i. P (lists.whole i)) same h.0
  | inr differs ↦ whole_at P lists (k + 1) n h.1 j (omega (arith, low, differs)) (omega (arith, high))
]

room_at : (set : Setting) (lists : Lists) (k n : ℕ) → AllByRecursion (λ c. HasRoom c) (catalogues set k (whole_from lists k n)) → (j : ℕ) → k ≤ j → j < k + n → HasRoom (catalogue_of (shard_in set j) (lists.whole j))
room_at set lists k zero h j low high = absurd (omega (arith, low, high))
room_at set lists k (suc n) h j low high = elim (cases_eq k j) [
  | inl same ↦ subst (λ i. HasRoom (catalogue_of (shard_in set i) (lists.whole i))) same h.0
  | inr differs ↦ room_at set lists (k + 1) n h.1 j (omega (arith, low, differs)) (omega (arith, high))
]

-- a front that is no shorter is all of it
no_shorter : (list more : Numbered) → length (list ++ more) ≤ length list → list ++ more ≡ list
no_shorter list [] low = append-nil list
no_shorter list (x ∷ more) low = (let n = length-append list (x ∷ more) in absurd (omega (arith, n, low)))

module _ (start : Start) (lists : Lists) (all : (shard : ℕ) → shard < start.set.shape.shards → lists.front shard ≡ length (lists.whole shard))
    (along : AreSoundAlong start.set (whole_from lists 0 start.set.shape.shards)) where
  abbrev set : Setting
  set = start.set

  abbrev n : ℕ
  n = set.shape.shards

  whole_is : settled set lists ≡ whole_from lists 0 n
  whole_is = settled_whole lists 0 n (λ j low. all j (omega (arith, low)))

  law : IsLawful set (settled set lists)
  law = subst (λ ls. IsLawful set ls) (sym whole_is) (record { lawful = along.sound.lawful; records = along.records })

  pub opened_took : start.entry ≡ store_of (catalogues set 0 (whole_from lists 0 n)) → TookEffect start [] lists
  opened_took entry = record {
    legal = tt;
    stood = ap (λ ls. store_of (catalogues set 0 ls)) whole_is ∙ sym (ap (λ s. reborn s) entry);
    lawful = law.lawful;
    records = law.records;
  }

  pub opened_left : (Awaited : ℕ → Type 0) (shard : ℕ) → shard < n → IsNumbered (lists.whole shard) → MayBeLeft set Awaited lists shard
  opened_left Awaited shard low numbered = record {
    numbered = numbered;
    views = whole_at HasRisingViews lists 0 n (recursion_from_All HasRisingViews (whole_from lists 0 n) along.sound.views) shard (omega arith) (omega (arith, low));
    few = λ list prefix high. few list prefix.0 prefix.1 high;
    waits = subst (λ es. All (λ (e : ℕ × Entry). NamesUpTo (lists.front shard) e.1 × EntryWaits (settled_catalogues set lists) shard e.1) es) (sym none) (All-nil (λ (e : ℕ × Entry). NamesUpTo (lists.front shard) e.1 × EntryWaits (settled_catalogues set lists) shard e.1));
    awaited = subst (λ es. All (λ (e : ℕ × Entry). MayPend Awaited e.1) es) (sym none) (All-nil (λ (e : ℕ × Entry). MayPend Awaited e.1));
  }
    where
      whole : Numbered
      whole = lists.whole shard

      none : waiting lists shard ≡ []
      none = ap (λ es. drop (lists.front shard) es) (sym (ap (λ m. take m whole) (all shard low) ∙ take-length whole)) ∙ front_gone (lists.front shard) whole

      room : HasRoom (catalogue_of (shard_in set shard) whole)
      room = room_at set lists 0 n (recursion_from_All (λ c. HasRoom c) (catalogues set 0 (whole_from lists 0 n)) along.sound.room) shard (omega arith) (omega (arith, low))

      few : (list more : Numbered) → whole ≡ list ++ more → lists.front shard ≤ length list → length (catalogue_of (shard_in set shard) list).roots ≤ most_records
      few list more is high =
          let count = all shard low in
          let long = ap (λ (es : Numbered). length es) is in
          let same : whole ≡ list = is ∙ no_shorter list more (omega (arith, high, count, long)) in
          subst (λ es. length (catalogue_of (shard_in set shard) es).roots ≤ most_records) same room.records
