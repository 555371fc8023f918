-- Lists that are chosen, one of each shard, whichever peer has each, reopen.
use Rattle.std.proofs.Common.{◌≡◌, ◌∙◌, ap, sym, subst, ◌⊎◌, inl, inr, ℕ, zero, suc, ◌+◌, ◌<◌, ◌≤◌, false, List, [], ◌∷◌, ◌++◌, Some, None, refl, arith, length, map, take, drop, append_assoc, length-append, count_by}
use Rattle.std.proofs.lemmas.Bool.{cases_eq, cases_lt, ne_eqb}
use Rattle.std.proofs.lemmas.List.{length-take-le, take-append-le}
use Rattle.std.specs.List.{enumerate_from}
use Rattle.std.specs.Prelude.{if◌then◌else◌, slice_get}
use Rattle.hs_awaiting.specs.declared.waiting.Waiting.{Waiting}
use Rattle.hs_core_words.specs.State.{Core}
use Rattle.hs_effects.specs.Logged.{asked_by}
use Rattle.hs_entry.specs.declared.entry.Entry.{Entry}
use Rattle.hs_entry.specs.declared.entry.Entry.TheVariants as kind
use Rattle.hs_entry.specs.Entries.{IsPrefix, is_of_base}
use Rattle.hs_fold.specs.Prefix.{GoOn}
use Rattle.hs_fold.specs.Runs.Catalogue.{catalogue_of as fold_of}
use Rattle.hs_fold.specs.Runs.Facts.{Catalogue as Folded}
use Rattle.hs_fold.specs.Runs.Fits.{catalogue_at}
use Rattle.hs_fold.specs.Runs.Opened.{catalogues, store_of}
use Rattle.hs_fold.specs.Shards.Images.{Stop}
use Rattle.hs_fold.specs.Shards.Outstanding.{MayPend}
use Rattle.hs_fold.specs.Shards.Parted.{NamesUpTo}
use Rattle.hs_fold.specs.Shards.Setting.{Numbered, shard_in}
use Rattle.hs_journal.specs.declared.entry.JournalEntry.{JournalEntry}
use Rattle.hs_replica.specs.Kinds.{is_root}
use Rattle.hs_standing.proofs.SettleLemmas.{folds_at, settled_alike}
use Rattle.hs_standing.proofs.StopsListLemmas.{IsLawful}
use Rattle.hs_standing.proofs.StopsRecordLemmas.{few_wait, lines_once}
use Rattle.hs_standing.proofs.WaitLemmas.{NoneTwice, all_waits, lines_apart, roots_are, same_asked}
use Rattle.hs_standing.specs.Left.{AreFronts, EachLineOnce, HasFewRecords, MayBeLeft, TookEffect}
use Rattle.hs_standing.specs.Lists.{Lists, settled, settled_catalogues, waiting, whole_from}
use Rattle.hs_standing.specs.Start.{IsAwaited, Start}
use Rattle.hs_standing.specs.Suffices.{roots_in}
use Rattle.hs_tails.specs.Chosen.{AreChosen, Disks, IsGoodToChoose, MayBeChosen, TailsStand, tail_behind, took_of, with_chosen}
use Rattle.hs_waiting.specs.Waits.{EntryWaits}

-- ---- lists

taken_twice : {X : Type 0} (n : ℕ) (xs : List X) → take n (take n xs) ≡ take n xs
taken_twice zero xs = refl
taken_twice (suc n) [] = refl
taken_twice (suc n) (x ∷ xs) = ap (λ ys. x ∷ ys) (taken_twice n xs)

-- entries whose numbers go on are those with their numbers
going_numbered : (n : ℕ) (es : Numbered) → GoOn n es → es ≡ enumerate_from (n + 1) (map (λ (e : ℕ × Entry). e.1) es)
going_numbered n [] g = refl
going_numbered n (e ∷ es) g = λ i. (g.0 i, e.1) ∷ going_numbered (n + 1) es g.2 i

-- they go on behind so many of them
going_behind : (n k : ℕ) (es : Numbered) → GoOn n es → k ≤ length es → GoOn (n + k) (drop k es)
going_behind n zero es g low = subst (λ m. GoOn m es) (same n) g
  where
    same : (m : ℕ) → m ≡ m + 0
    same m = omega arith
going_behind n (suc k) [] g low = absurd (omega (arith, low))
going_behind n (suc k) (e ∷ es) g low = subst (λ m. GoOn m (drop k es)) (shift n k) (going_behind (n + 1) k es g.2 (omega (arith, low)))
  where
    shift : (m j : ℕ) → m + 1 + j ≡ m + suc j
    shift m j = omega arith

-- so many lists
whole_count : (lists : Lists) (k n : ℕ) → length (whole_from lists k n) ≡ n
whole_count lists k zero = refl
whole_count lists k (suc n) = ap (λ m. suc m) (whole_count lists (k + 1) n)

pub chosen_count : (lists : Lists) (n : ℕ) → length (whole_from lists 0 n) ≡ n
chosen_count lists n = whole_count lists 0 n

zero_left : (m : ℕ) → 0 + m ≡ m
zero_left m = omega arith

same_waiting : (v w : Waiting) → Some v ≡ Some w → v ≡ w
same_waiting v w e = cc e

module _ (start : Start) (stop : Stop) (journal : List JournalEntry) (disks : Disks) (lists : Lists) (core : Core) (s : TailsStand start stop journal disks lists core)
    (chosen : ℕ → Numbered) (may : AreChosen start.set.shape disks lists chosen) where
  abbrev n : ℕ
  n = start.set.shape.shards

  abbrev folds : List Folded
  folds = settled_catalogues start.set lists

  -- ---- whose list it is

  abbrev peer_by : (g : ℕ) → (g < start.set.shape.shards) ⊎ (start.set.shape.shards ≤ g) → ℕ
  peer_by g (inl low) = (may g low).peer
  peer_by g (inr high) = 0

  -- the peer of each shard whose list is chosen
  abbrev peer_at : ℕ → ℕ
  peer_at g = peer_by g (cases_lt g start.set.shape.shards)

  may_by : (g : ℕ) (c : (g < start.set.shape.shards) ⊎ (start.set.shape.shards ≤ g)) → g < start.set.shape.shards → (m : MayBeChosen start.set.shape disks lists g (chosen g)) × (m.peer ≡ peer_by g c)
  may_by g (inl low) l = (may g low, refl)
  may_by g (inr high) l = absurd (omega (arith, high, l))

  may_at : (g : ℕ) → g < start.set.shape.shards → (m : MayBeChosen start.set.shape disks lists g (chosen g)) × (m.peer ≡ peer_at g)
  may_at g low = may_by g (cases_lt g start.set.shape.shards) low

  -- the whole lists of those peers
  abbrev pub chosen_lists : Lists
  chosen_lists = record { whole = λ g. disks.reach (peer_at g); front = lists.front }

  -- a chosen list begins one
  begins : (g : ℕ) → g < start.set.shape.shards → IsPrefix (chosen g) (disks.reach (peer_at g))
  begins g low = let m = may_at g low in subst (λ p. IsPrefix (chosen g) (disks.reach p)) m.1 (m.0).begins

  -- which has all that took effect
  has : (g : ℕ) → g < start.set.shape.shards → IsPrefix (took_of lists g) (disks.reach (peer_at g))
  has g low =
      let m = (may_at g low).0 in
      let b = begins g low in
      (m.has.0 ++ b.0, b.1 ∙ ap (λ es. es ++ b.0) m.has.1 ∙ append_assoc (took_of lists g) m.has.0 b.0)

  good : (g : ℕ) → g < start.set.shape.shards → IsGoodToChoose start.set core folds g (lists.front g) (disks.reach (peer_at g))
  good g low =
      let m = may_at g low in
      subst (λ p. IsPrefix (took_of lists g) (disks.reach p) → IsGoodToChoose start.set core folds g (lists.front g) (disks.reach p)) m.1
      (λ h. s.tails (m.0).peer g (m.0).home low (m.0).counts h) (has g low)

  took_long : (g : ℕ) → g < start.set.shape.shards → length (took_of lists g) ≡ lists.front g
  took_long g low = length-take-le (lists.front g) (lists.whole g) (s.within g low)

  front_within : (g : ℕ) → g < start.set.shape.shards → lists.front g ≤ length (disks.reach (peer_at g))
  front_within g low =
      let h = has g low in
      let count = ap (λ (es : Numbered). length es) h.1 ∙ length-append (took_of lists g) h.0 in
      let long = took_long g low in
      omega (arith, count, long)

  same_took : (g : ℕ) → g < start.set.shape.shards → take (lists.front g) (disks.reach (peer_at g)) ≡ take (lists.front g) (lists.whole g)
  same_took g low =
      let h = has g low in
      let long = took_long g low in
      ap (λ es. take (lists.front g) es) h.1 ∙ take-append-le (lists.front g) (took_of lists g) h.0 (omega (arith, long)) ∙ taken_twice (lists.front g) (lists.whole g)

  same_settled : settled start.set chosen_lists ≡ settled start.set lists
  same_settled = settled_alike chosen_lists lists 0 start.set.shape.shards (λ j low. same_took j (omega (arith, low)))

  same_folds : settled_catalogues start.set chosen_lists ≡ settled_catalogues start.set lists
  same_folds = ap (λ ls. catalogues start.set 0 ls) same_settled

  -- ---- what took effect

  law : IsLawful start.set (settled start.set chosen_lists)
  law = subst (λ ls. IsLawful start.set ls) (sym same_settled) (record { lawful = s.took.lawful; records = s.took.records })

  pub chosen_took : TookEffect start journal chosen_lists
  chosen_took = record {
    legal = s.took.legal;
    stood = ap (λ cs. store_of cs) same_folds ∙ s.took.stood;
    lawful = law.lawful;
    records = law.records;
  }

  -- ---- what each has behind that

  waits_are : (g : ℕ) → g < start.set.shape.shards → waiting chosen_lists g ≡ enumerate_from (lists.front g + 1) (tail_behind (lists.front g) (disks.reach (peer_at g)))
  waits_are g low =
      let list : Numbered = disks.reach (peer_at g) in
      let goes : GoOn (lists.front g) (drop (lists.front g) list) = subst (λ m. GoOn m (drop (lists.front g) list)) (zero_left (lists.front g)) (going_behind 0 (lists.front g) list (good g low).numbered (front_within g low)) in
      going_numbered (lists.front g) (drop (lists.front g) list) goes

  few : (g : ℕ) → g < start.set.shape.shards → HasFewRecords start.set chosen_lists g
  few g low =
      let fold : length (catalogue_at folds g).roots ≡ length (fold_of (shard_in start.set g) (take (lists.front g) (disks.reach (peer_at g)))).roots =
      ap (λ (x : Folded). length x.roots) (folds_at start.set lists g low) ∙ ap (λ es. length (fold_of (shard_in start.set g) es).roots) (sym (same_took g low)) in
      let roots : roots_in (waiting chosen_lists g) ≡ count_by is_root (tail_behind (lists.front g) (disks.reach (peer_at g))) =
      ap (λ (es : Numbered). roots_in es) (waits_are g low) ∙ roots_are (lists.front g + 1) (tail_behind (lists.front g) (disks.reach (peer_at g))) in
      let room = (good g low).rests.few in
      few_wait start.set chosen_lists g (omega (arith, fold, roots, room))

  module _ (g : ℕ) (low : g < start.set.shape.shards) where
    awaits : (at line : ℕ) (entry : Entry) → slice_get (tail_behind (lists.front g) (disks.reach (peer_at g))) at ≡ Some entry → asked_by entry ≡ Some line → IsAwaited start stop journal line
    awaits at line entry there asks = let o = (good g low).lines.asked at line entry there asks in s.awaited line o.waiting o.at

    pends : (at : ℕ) (entry : Entry) → slice_get (tail_behind (lists.front g) (disks.reach (peer_at g))) at ≡ Some entry → is_of_base entry ≡ false → MayPend (IsAwaited start stop journal) entry
    pends at (kind.View view) there plain = tt
    pends at (kind.Block line least bytes) there plain = awaits at line (kind.Block line least bytes) there refl
    pends at (kind.Mark line least block address) there plain = awaits at line (kind.Mark line least block address) there refl
    pends at (kind.Root line held address key) there plain = awaits at line (kind.Root line held address key) there refl
    pends at (kind.Drop line key) there plain = awaits at line (kind.Drop line key) there refl
    pends at (kind.Enter line epoch) there plain = elim (cases_eq line 0) [
      | inl none ↦ inl none
      | inr some ↦ inr (awaits at line (kind.Enter line epoch) there (ap (λ b. if b then None else Some line) (ne_eqb line 0 some)))
    ]
    pends at (kind.Got sender epoch round total deltas) there plain = tt
    pends at (kind.Base view epoch swept round frames) there plain = absurd (cc plain)
    pends at (kind.KeptBlock born mark flags count bytes) there plain = absurd (cc plain)
    pends at (kind.KeptRoot created dropped counted address key) there plain = absurd (cc plain)
    pends at (kind.KeptRound way other epoch round total deltas) there plain = absurd (cc plain)

    pub may_be_left : MayBeLeft start.set (IsAwaited start stop journal) chosen_lists g
    may_be_left =
        let ws : List Entry = tail_behind (lists.front g) (disks.reach (peer_at g)) in
        let its = good g low in
        record {
          numbered = its.numbered;
          views = its.views;
          few = few g low;
          waits = all_waits (λ (x : Entry). NamesUpTo (lists.front g) x × EntryWaits (settled_catalogues start.set chosen_lists) g x) (lists.front g + 1) ws (waiting chosen_lists g) (waits_are g low)
              (λ at entry there. let r = its.rests.rests at entry there in
              (r.names, subst (λ cs. EntryWaits cs g entry) (sym same_folds) r.waits));
          awaited = all_waits (λ (x : Entry). MayPend (IsAwaited start stop journal) x) (lists.front g + 1) ws (waiting chosen_lists g) (waits_are g low)
              (λ at entry there. pends at entry there (its.rests.rests at entry there).ordinary);
        }

  -- ---- no line twice

  never_twice : NoneTwice (λ g. tail_behind (lists.front g) (disks.reach (peer_at g))) start.set.shape.shards
  never_twice g h i j line one other lg lh a b p q =
      let asks : asked_by one ≡ Some line = sym (same_asked one) ∙ p in
      let asks_too : asked_by other ≡ Some line = sym (same_asked other) ∙ q in
      let here = (good g lg).lines.asked i line one a asks in
      let there = (good h lh).lines.asked j line other b asks_too in
      let same : g ≡ h = sym here.judges ∙ ap (λ (w : Waiting). w.shard) (same_waiting here.waiting there.waiting (sym here.at ∙ there.at)) ∙ there.judges in
      (same, (good g lg).lines.once i j line one other a (subst (λ k. slice_get (tail_behind (lists.front k) (disks.reach (peer_at k))) j ≡ Some other) (sym same) b) asks asks_too)

  pub chosen_once : EachLineOnce start chosen_lists
  chosen_once =
      lines_once start chosen_lists (λ g low. ((good g low).numbered, front_within g low))
      (lines_apart chosen_lists (λ g. tail_behind (lists.front g) (disks.reach (peer_at g))) (λ g. lists.front g + 1) start.set.shape.shards (λ g low. waits_are g low) never_twice)

  -- ---- the chosen lists are fronts of them

  fronts_from : (k m : ℕ) → k + m ≡ start.set.shape.shards → AreFronts chosen_lists k (whole_from (with_chosen lists chosen) k m)
  fronts_from k zero e = tt
  fronts_from k (suc m) e =
      let low : k < start.set.shape.shards = omega (arith, e) in
      let c = (may_at k low).0 in
      let count = ap (λ (es : Numbered). length es) c.has.1 ∙ length-append (took_of lists k) c.has.0 in
      let long = took_long k low in
      ((begins k low, omega (arith, count, long)), fronts_from (k + 1) m (omega (arith, e)))

  pub chosen_fronts : AreFronts chosen_lists 0 (whole_from (with_chosen lists chosen) 0 start.set.shape.shards)
  chosen_fronts = fronts_from 0 start.set.shape.shards (omega arith)
