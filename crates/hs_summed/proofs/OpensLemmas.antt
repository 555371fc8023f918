-- A load over disks that tell their contents, whose lists are sound, opens soundly.
use Rattle.std.proofs.Common.{◌≡◌, ◌∙◌, refl, sym, ap, subst, length, inl, inr, ℕ, zero, suc, ◌+◌, ◌<◌, ◌≤◌, Bool, true, false, List, [], ◌∷◌, Option, Some, None, Ok, map, arith}
use Rattle.std.proofs.lemmas.Bool.{cases_lt, false≢true}
use Rattle.std.proofs.lemmas.List.{get_or-map, get_or_past, length-map}
use Rattle.std.specs.List.{AllByRecursion, list_any, range_with_len}
use Rattle.std.specs.Prelude.{IsSome, drop, if◌then◌else◌, slice_index_or, take, unwrap_or}
use Rattle.hs_clauses.proofs.AsideLemmas.{some_good}
use Rattle.hs_clauses.proofs.ReadLemmas.{BringsAll, applied_all, from_empty, read_brings, read_from_one}
use Rattle.hs_cluster.specs.Calls.{outcome_by}
use Rattle.hs_cluster.specs.Opens.{Finds}
use Rattle.hs_core_words.specs.State.{Core}
use Rattle.hs_desk.specs.declared.fault.CoreFault.{CoreFault}
use Rattle.hs_entry.specs.Entries.{rank_of}
use Rattle.hs_events.specs.Course.{steps}
use Rattle.hs_events.specs.Due.{Events}
use Rattle.hs_events.specs.Found.{Found, first_core, opened_catalogue, opened_list, starts_good}
use Rattle.hs_events.specs.Sane.{IsFromOne}
use Rattle.hs_events.specs.Taken.{or_blank, peer_count, taken_list, taken_lists}
use Rattle.hs_fold.specs.Opened.{chosen, chosen_each, outranks}
use Rattle.hs_fold.specs.Shards.Setting.{Numbered, Setting}
use Rattle.hs_limits.specs.Shape.{IsShape}
use Rattle.hs_members.specs.Members.{peers_of}
use Rattle.hs_peerlog.specs.Lists.{Keeping}
use Rattle.hs_ports.specs.declared.disk.Side.{Side}
use Rattle.hs_ports.specs.Fault.{HasRisen}
use Rattle.hs_ports.specs.MemoryDisk.{untold}
use Rattle.hs_shard.specs.Facts.{Catalogue, empty_catalogue}
use Rattle.hs_side.specs.Current.{list_in}
use Rattle.hs_sound.specs.Stay.{AreSoundAlong}
use Rattle.hs_standing.specs.Held.{GivesAddresses, KeepsAddresses}
use Rattle.hs_standing.proofs.AlongWalkLemmas.{steps_over}
use Rattle.hs_standing.specs.Lists.{Lists, whole_from}
use Rattle.hs_standing.specs.Opening.{OpensSoundly, opened_lists}
use Rattle.hs_summed.specs.Store.{logs_in}
use Rattle.hs_taking.specs.Disks.{DiskSeen, seen_at}
use Rattle.hs_taking.specs.Shares.{Span}

-- ---- of the lists that are chosen

module _ (P : Numbered → Type 0) (none : P []) where
  chosen_all : (lists : List Numbered) → AllByRecursion P lists → P (chosen lists)
  chosen_all [] all = none
  chosen_all (l ∷ ls) all = go (outranks (rank_of (chosen ls)) (rank_of l)) (chosen_all ls all.1)
    where
      go : (b : Bool) → P (chosen ls) → P (if b then chosen ls else l)
      go true h = h
      go false h = all.0

  taken_all : (n : ℕ) (lists : List Numbered) → AllByRecursion P lists → AllByRecursion P (take n lists)
  taken_all zero lists all = tt
  taken_all (suc n) [] all = tt
  taken_all (suc n) (l ∷ ls) all = (all.0, taken_all n ls all.1)

  dropped_all : (n : ℕ) (lists : List Numbered) → AllByRecursion P lists → AllByRecursion P (drop n lists)
  dropped_all zero lists all = all
  dropped_all (suc n) [] all = tt
  dropped_all (suc n) (l ∷ ls) all = dropped_all n ls all.1

  each_chosen : (n copies : ℕ) (lists : List Numbered) → AllByRecursion P lists → (k : ℕ) → P (slice_index_or (chosen_each n copies lists) k [])
  each_chosen zero copies lists all k = none
  each_chosen (suc n) copies lists all zero = chosen_all (take copies lists) (taken_all copies lists all)
  each_chosen (suc n) copies lists all (suc k) = each_chosen n copies (drop copies lists) (dropped_all copies lists all) k

  blanks_all : (logs : List (Option Numbered)) → ((peer : ℕ) → P (unwrap_or (slice_index_or logs peer None) [])) → AllByRecursion P (or_blank logs)
  blanks_all [] h = tt
  blanks_all (log ∷ logs) h = (h 0, blanks_all logs (λ peer. h (suc peer)))

-- ---- what disks were read as

disk_from_one : (seen : Side → List ℕ) → IsFromOne (unwrap_or (list_in seen) [])
disk_from_one seen = go (list_in seen) refl
  where
    go : (o : Option Numbered) → list_in seen ≡ o → IsFromOne (unwrap_or o [])
    go None e = from_empty
    go (Some list) e = read_from_one seen list e

each_range : (P : Catalogue → Type 0) (f : ℕ → Catalogue) (k n : ℕ) → ((j : ℕ) → k ≤ j → j < k + n → P (f j)) → AllByRecursion P (map f (range_with_len k n))
each_range P f k zero h = tt
each_range P f k (suc n) h = (h k (omega arith) (omega arith), each_range P f (k + 1) n (λ j low high. h j (omega (arith, low)) (omega (arith, high))))

module _ (tells : Type 0) (set : Setting) (span : Span) (found : Found) (slots : List (Option Keeping)) (finds : Finds tells set span found slots) (told : tells) where
  -- what is so of each list that is read, and of none, is so of that with which a shard opens
  opens_read : (P : Numbered → Type 0) → P [] → ((seen : Side → List ℕ) → P (unwrap_or (list_in seen) [])) → (shard : ℕ) → P (opened_list set found shard)
  opens_read P none of shard = go (list_any (starts_good found) (peers_of set.shape shard))
    where
      log : (peer : ℕ) → P (unwrap_or (slice_index_or found.logs peer None) [])
      log peer = elim (cases_lt peer (peer_count set.shape)) [
        | inl low ↦ elim ((finds.each peer low).read told) [
          | inl same ↦ subst (λ (o : Option Numbered). P (unwrap_or o [])) (sym same) (of (seen_at span.old peer).stands.seen)
          | inr failed ↦ subst (λ (o : Option Numbered). P (unwrap_or o [])) (sym failed.0) none
        ]
        | inr high ↦ subst (λ (o : Option Numbered). P (unwrap_or o [])) (sym (get_or_past found.logs peer None (let long = finds.logs in omega (arith, long, high)))) none
      ]

      go : (b : Bool) → P (if b then taken_list set.shape found.logs shard else [])
      go true = each_chosen P none set.shape.shards set.shape.copies (or_blank found.logs) (blanks_all P none found.logs log) shard
      go false = none

  module _ (names : GivesAddresses set.name) where
    brings : (g : ℕ) → BringsAll set.name names (opened_list set found g)
    brings g = opens_read (λ list. BringsAll set.name names list) tt (λ seen. go seen (list_in seen) refl) g
      where
        go : (seen : Side → List ℕ) (o : Option Numbered) → list_in seen ≡ o → BringsAll set.name names (unwrap_or o [])
        go seen None e = tt
        go seen (Some list) e = read_brings set.name names seen list e

    pub opens_soundly : IsShape set.shape → AreSoundAlong set (whole_from (opened_lists set found) 0 set.shape.shards) → OpensSoundly set found
    opens_soundly shape sound = record {
      shape = shape;
      names = names;
      many = finds.goods;
      lists = λ shard low. opens_read (λ list. IsFromOne list) from_empty disk_from_one shard;
      sound = sound;
      addressed = each_range KeepsAddresses (opened_catalogue set found) 0 set.shape.shards
          (λ g low high. applied_all set.name names (opened_list set found g) (empty_catalogue set.shape g) (brings g) (record { blocks = tt; roots = tt }));
    }

-- ---- where no disk failed as the core was opened, the lists are those at entry

chosen_long : (n copies : ℕ) (lists : List Numbered) → length (chosen_each n copies lists) ≡ n
chosen_long zero copies lists = refl
chosen_long (suc n) copies lists = ap (λ k. suc k) (chosen_long n copies (drop copies lists))

-- lists are the whole lists of so many shards where each is
as_whole : (lists : Lists) (xs : List Numbered) (k n : ℕ) → length xs ≡ n → ((j p : ℕ) → j < n → p ≡ k + j → slice_index_or xs j [] ≡ lists.whole p) → xs ≡ whole_from lists k n
as_whole lists [] k zero long h = refl
as_whole lists [] k (suc n) long h = absurd (omega (arith, long))
as_whole lists (x ∷ xs) k zero long h = absurd (omega (arith, long))
as_whole lists (x ∷ xs) k (suc n) long h =
    let first : x ≡ lists.whole k = h 0 k (omega arith) (omega arith) in
    let rest : xs ≡ whole_from lists (k + 1) n = as_whole lists xs (k + 1) n (omega (arith, long)) (λ j p low e. h (suc j) p (omega (arith, low)) (omega (arith, e))) in
    λ i. first i ∷ rest i

same_logs : (xs ys : List (Option Numbered)) → length xs ≡ length ys → ((k : ℕ) → k < length xs → slice_index_or xs k None ≡ slice_index_or ys k None) → xs ≡ ys
same_logs [] [] long each = refl
same_logs [] (y ∷ ys) long each = absurd (omega (arith, long))
same_logs (x ∷ xs) [] long each = absurd (omega (arith, long))
same_logs (x ∷ xs) (y ∷ ys) long each =
    let first : x ≡ y = each 0 (omega arith) in
    let rest : xs ≡ ys = same_logs xs ys (omega (arith, long)) (λ k low. each (suc k) (omega (arith, low))) in
    λ i. first i ∷ rest i

-- a core that is told to go on does
pub still_goes : (o : Option CoreFault) → Ok tt ≡ outcome_by o → o ≡ None
still_goes None e = refl
still_goes (Some fault) e = absurd (cc e)

pub still_none : (core : Core) (es : Events) → (steps core es).ended ≡ None → core.ended ≡ None
still_none core es going = by core.ended refl
  where
    by : (o : Option CoreFault) → core.ended ≡ o → o ≡ None
    by None is = refl
    by (Some fault) is = let both : Some fault ≡ None = sym is ∙ ap (λ (c : Core). c.ended) (sym (steps_over es core fault is)) ∙ going in absurd (cc both)

module _ (tells : Type 0) (set : Setting) (span : Span) (found : Found) (slots : List (Option Keeping)) (finds : Finds tells set span found slots) (told : tells) (shape : IsShape set.shape) (count : length span.old ≡ peer_count set.shape)
    (going : (first_core set found).ended ≡ None) (calm : (peer : ℕ) → HasRisen (seen_at span.old peer).faults (seen_at span.new peer).faults → ⊥) where
  abbrev unseen : DiskSeen
  unseen = record { size = λ side. 0; stands = untold; faults = 0 }

  each_log : (peer : ℕ) → peer < length found.logs → slice_index_or found.logs peer None ≡ slice_index_or (logs_in span.old) peer None
  each_log peer low =
      let many : length found.logs ≡ peer_count set.shape = finds.logs in
      let there : slice_index_or (logs_in span.old) peer None ≡ list_in (seen_at span.old peer).stands.seen = get_or-map (λ (disk : DiskSeen). list_in disk.stands.seen) span.old peer unseen None (omega (arith, low, many, count)) in
      elim ((finds.each peer (omega (arith, low, many))).read told) [
        | inl same ↦ same ∙ sym there
        | inr failed ↦ absurd (calm peer failed.1)
      ]

  logs_are : found.logs ≡ logs_in span.old
  logs_are = same_logs found.logs (logs_in span.old) (finds.logs ∙ sym count ∙ sym (length-map span.old (λ (disk : DiskSeen). list_in disk.stands.seen))) each_log

  opened_as : (shard : ℕ) → shard < set.shape.shards → opened_list set found shard ≡ taken_list set.shape (logs_in span.old) shard
  opened_as shard low =
      ap (λ (b : Bool). if b then taken_list set.shape found.logs shard else []) (some_good (record { set = set; commands = λ line. None }) found shape finds.logs (λ peer good. finds_log peer good) going shard low)
      ∙ ap (λ (logs : List (Option Numbered)). taken_list set.shape logs shard) logs_are
    where
      finds_log : (peer : ℕ) → starts_good found peer ≡ true → IsSome (slice_index_or found.logs peer None)
      finds_log peer good = elim (cases_lt peer (peer_count set.shape)) [
        | inl low ↦ (finds.each peer low).kept good
        | inr high ↦ absurd (false≢true (sym (get_or_past found.good peer false (let long = finds.goods in omega (arith, high, long))) ∙ good))
      ]

  pub opens_with_entry : taken_lists set.shape (logs_in span.old) ≡ whole_from (opened_lists set found) 0 set.shape.shards
  opens_with_entry = as_whole (opened_lists set found) (taken_lists set.shape (logs_in span.old)) 0 set.shape.shards (chosen_long set.shape.shards set.shape.copies (or_blank (logs_in span.old)))
      (λ j p low e. sym (opened_as j low) ∙ ap (opened_list set found) (let same : j ≡ p = omega (arith, e) in same))
