-- At a moment of a run that stands, what is pending of images that count is what its lines ask for.
use Rattle.std.proofs.Common.{◌≡◌, ◌∙◌, ap, sym, subst, refl, ℕ, ◌+◌, ◌*◌, ◌<◌, ◌≤◌, List, [], ◌∷◌, ◌++◌, Option, Some, length, take, drop, arith}
use Rattle.std.proofs.lemmas.List.{drop-append-le}
use Rattle.std.specs.List.{AllByRecursion}
use Rattle.std.specs.Prelude.{unwrap_or}
use Rattle.hs_asking.proofs.HandLemmas.{all_append}
use Rattle.hs_core_words.specs.Looking.{front_of, group_of}
use Rattle.hs_fold.specs.Pending.{asked_by}
use Rattle.hs_entry.specs.declared.entry.Entry.{Entry}
use Rattle.hs_events.specs.Taken.{or_blank, taken_lists}
use Rattle.hs_events.specs.Whole.{Whole}
use Rattle.hs_fold.specs.Catalogue.{Shard}
use Rattle.hs_fold.specs.Good.{taken_below}
use Rattle.hs_fold.specs.Images.{image_at}
use Rattle.hs_fold.specs.Prefix.{IsNumbered}
use Rattle.hs_fold.specs.Runs.Catalogue.{apply, catalogue_of}
use Rattle.hs_fold.specs.Runs.Facts.{Catalogue}
use Rattle.hs_fold.specs.Runs.Happening.{happens}
use Rattle.hs_fold.specs.Shards.Happening.{Happening}
use Rattle.hs_fold.specs.Shards.Images.{AreGoodImages, Image, IsGoodImage, Stop}
use Rattle.hs_fold.specs.Shards.Outstanding.{pending, pending_of}
use Rattle.hs_fold.specs.Shards.Setting.{Numbered, Setting, shard_in}
use Rattle.hs_fold.proofs.PrefixLemmas.{last-length}
use Rattle.hs_journal.specs.declared.entry.JournalEntry.{JournalEntry}
use Rattle.hs_journal.specs.Moments.{below}
use Rattle.hs_limits.specs.declared.shape.Shape.{Shape}
use Rattle.hs_model.specs.Store.{Store}
use Rattle.hs_moments.specs.Joint.{AtMoment}
use Rattle.hs_moments.specs.Moments.{GivesFine}
use Rattle.hs_moments.specs.WholeMachine.{last_of, whole_machine}
use Rattle.hs_standing.proofs.PartLemmas.{IsFine, goes_front, one_pending}
use Rattle.hs_standing.proofs.SaneLemmas.{front_sealed, good_counts, reach_numbered, waits_in_core}
use Rattle.hs_standing.proofs.WaitLemmas.{each_numbered}
use Rattle.hs_standing.specs.Left.{AreFronts}
use Rattle.hs_standing.specs.Lists.{Lists, waiting}
use Rattle.hs_standing.specs.Reopens.{image_logs, pending_at}
use Rattle.hs_standing.specs.Run.{IsRunning}
use Rattle.hs_standing.specs.Standing.{IsStateAt}
use Rattle.hs_standing.specs.Stands.{lists_of}
use Rattle.hs_standing.specs.Start.{Start, store_after}
use Rattle.hs_kept.proofs.PendingLemmas.{comes_next, puts_as}
use Rattle.hs_kept.proofs.RunningLemmas.{AllGood}
use Rattle.hs_kept.specs.Pending.{IsNextOf, IsPendingAs, PutsAs}
use Rattle.hs_standing.proofs.ImageLemmas.{chosen_of, fine_lists, list_of, logs_count, same_pending}

-- ---- what is pending of fronts is of what waits

module _ (start : Start) (s : Store) (journal : List JournalEntry) where
  -- an entry is what its line asks for, which comes next
  abbrev pub IsAsked : Entry → Type 0
  IsAsked entry = PutsAs start.commands s entry × ((line : ℕ) → asked_by entry ≡ Some line → IsNextOf start.commands journal line)

  abbrev AsPending : Entry × Option Happening → Type 0
  AsPending e = IsPendingAs start.commands s journal e

  each_front : (xs more : Numbered) → AllByRecursion (λ (e : ℕ × Entry). IsAsked e.1) (xs ++ more) → AllByRecursion (λ (e : ℕ × Entry). IsAsked e.1) xs
  each_front [] more h = tt
  each_front (x ∷ xs) more h = (h.0, each_front xs more h.1)

  each_happens : (at : Shard) (c : Catalogue) (es : Numbered) → AllByRecursion (λ (e : ℕ × Entry). IsAsked e.1) es → AllByRecursion AsPending (happens at c es)
  each_happens at c [] h = tt
  each_happens at c (e ∷ es) h = (record { puts = h.0.0; next = h.0.1; happens = (at, c, refl) }, each_happens at (apply at c e) es h.1)

  pub pending_each : (set : Setting) (lists : Lists) (g end : ℕ) (some : List Numbered) → g + length some ≡ end → AreFronts lists g some → ((shard : ℕ) → shard < end → IsNumbered (lists.whole shard))
      → ((shard : ℕ) → shard < end → AllByRecursion (λ (e : ℕ × Entry). IsAsked e.1) (waiting lists shard)) → AllByRecursion AsPending (pending set lists.front g some)
  pending_each set lists g end [] e fine numbered h = tt
  pending_each set lists g end (list ∷ some) e fine numbered h =
      all_append AsPending (pending_of (shard_in set g) (lists.front g) list) (pending set lists.front (g + 1) some)
      (subst (λ es. AllByRecursion AsPending es) (sym (one_pending (shard_in set g) (lists.front g) list here fine.0.1))
      (each_happens (shard_in set g) (catalogue_of (shard_in set g) (take (lists.front g) list)) (drop (lists.front g) list)
      (each_front (drop (lists.front g) list) fine.0.0.0 (subst (λ es. AllByRecursion (λ (e : ℕ × Entry). IsAsked e.1) es) back (h g low)))))
      (pending_each set lists (g + 1) end some (omega (arith, e)) fine.1 numbered h)
    where
      low : g < end
      low = omega (arith, e)

      here : IsNumbered list
      here = goes_front 0 list fine.0.0.0 (subst (λ es. IsNumbered es) fine.0.0.1 (numbered g low))

      back : waiting lists g ≡ drop (lists.front g) list ++ fine.0.0.0
      back = ap (λ es. drop (lists.front g) es) fine.0.0.1 ∙ drop-append-le (lists.front g) list fine.0.0.0 fine.0.1

-- ---- at a moment

module _ (start : Start) (stop : Stop) (journal : List JournalEntry) (one : start.set.shape.copies ≡ 1) (peers : length stop.disks ≡ start.set.shape.shards) (c : Whole)
    (at : AtMoment whole_machine (IsStateAt c) start.set.shape stop.course journal stop.moment stop.disks) (images : List Image) (good : AreGoodImages start.set.shape stop images) where
  abbrev n : ℕ
  n = start.set.shape.shards

  abbrev lists : Lists
  lists = lists_of whole_machine at.core

  abbrev some : List Numbered
  some = or_blank (image_logs images)

  images_count : length images ≡ n
  images_count = good.count ∙ peers

  count : length some ≡ n
  count = logs_count images ∙ images_count

  peer_is : (shard copy copies : ℕ) → copies ≡ 1 → copy < copies → shard * copies + copy ≡ shard
  peer_is shard copy copies e low = ap (λ k. shard * k + copy) e ∙ last
    where
      last : shard * 1 + copy ≡ shard
      last = omega (arith, e, low)

  all_peers : n * start.set.shape.copies ≡ n
  all_peers = ap (λ k. n * k) one ∙ times_one n
    where
      times_one : (k : ℕ) → k * 1 ≡ k
      times_one k = omega arith

  image_good : (shard : ℕ) → shard < n → IsGoodImage stop images shard
  image_good shard low = let g = good.shards shard low in subst (λ p. IsGoodImage stop images p) (peer_is shard g.0 start.set.shape.copies one g.1) g.2

  within : (shard : ℕ) → shard < n → shard < n * start.set.shape.copies
  within shard low = let all = all_peers in omega (arith, low, all)

  good_there : AllGood start at.core
  good_there g low = sym (at.tells.good g (within g low)) ∙ (image_good g low).good

  -- each shard has its good peer then
  pub good_then : AllGood start c
  good_then = subst (λ (d : Whole). AllGood start d) at.tells.sane good_there

  module _ (running : IsRunning start c) where
    there : IsRunning start at.core
    there = subst (λ (d : Whole). IsRunning start d) (sym at.tells.sane) running

    low_in : (g : ℕ) → g < start.set.shape.shards → g < at.core.core.members.shape.shards
    low_in g low = subst (λ (x : Shape). g < x.shards) (sym there.stands.whole.shape) low

    numbered : (g : ℕ) → g < start.set.shape.shards → IsNumbered (lists.whole g)
    numbered g low = reach_numbered at.core g there.stands.whole.sane (low_in g low)

    good_gives : (peer : ℕ) → peer < n → GivesFine whole_machine at.core peer (image_at images peer)
    good_gives peer low = at.lists peer (good_counts at.core there.stands.whole.sane peer (good_there peer low)) (image_at images peer) (image_good peer low).left

    fine_image : (shard : ℕ) → shard < n → IsFine lists shard (list_of (image_at images shard))
    fine_image shard low =
        let f = good_gives shard low in
        let last : last_of f.list ≡ length f.list = last-length f.list (goes_front 0 f.list f.front.0 (subst (λ es. IsNumbered es) f.front.1 (numbered shard low))) in
        let long = f.long in
        let sealed = front_sealed at.core shard there.stands.whole.sane (good_there shard low) in
        let high : lists.front shard ≤ length f.list = omega (arith, sealed, long, last) in
        subst (λ list. IsFine lists shard list) (sym (ap (λ found. unwrap_or found []) f.read)) (f.front, high)

    fine : AreFronts lists 0 some
    fine = fine_lists lists images 0 (λ k low shard e. subst (λ g. IsFine lists g (list_of (image_at images k))) (sym (e ∙ zero_left k)) (fine_image k (let all = images_count in omega (arith, low, all))))
      where
        zero_left : (k : ℕ) → 0 + k ≡ k
        zero_left k = omega arith

    taken_is : taken_lists start.set.shape (image_logs images) ≡ some
    taken_is = chosen_of n start.set.shape.copies some one count

    pending_is : pending_at start stop images ≡ pending start.set lists.front 0 some
    pending_is = ap (λ ls. pending start.set (taken_below stop.course stop.moment) 0 ls) taken_is ∙ same_pending start.set (taken_below stop.course stop.moment) lists.front 0 n some (zero_left (length some) ∙ count) at.tells.taken
      where
        zero_left : (k : ℕ) → 0 + k ≡ k
        zero_left k = omega arith

    waits : (g : ℕ) → g < n → AllByRecursion (λ (e : ℕ × Entry). IsAsked start (store_after start at.core.core.journal) at.core.core.journal e.1) (waiting lists g)
    waits g low =
        subst (λ es. AllByRecursion (λ (e : ℕ × Entry). IsAsked start (store_after start at.core.core.journal) at.core.core.journal e.1) es) (sym (waits_in_core at.core g there.stands.whole.sane (low_in g low)))
        (each_numbered (λ entry. IsAsked start (store_after start at.core.core.journal) at.core.core.journal entry) (front_of g at.core.core + 1) (group_of g at.core.core).waiting
        (λ place entry is. (puts_as start at.core there g place entry is, comes_next start at.core there g place entry is)))

    pub pending_asked : AllByRecursion (IsPendingAs start.commands (store_after start (below stop.moment journal)) (below stop.moment journal)) (pending_at start stop images)
    pending_asked =
        subst (λ (j : List JournalEntry). AllByRecursion (IsPendingAs start.commands (store_after start j) j) (pending_at start stop images)) at.tells.answered
        (subst (λ es. AllByRecursion (IsPendingAs start.commands (store_after start at.core.core.journal) at.core.core.journal) es) (sym pending_is)
        (pending_each start (store_after start at.core.core.journal) at.core.core.journal start.set lists 0 n some (zero_left (length some) ∙ count) fine numbered waits))
      where
        zero_left : (k : ℕ) → 0 + k ≡ k
        zero_left k = omega arith
