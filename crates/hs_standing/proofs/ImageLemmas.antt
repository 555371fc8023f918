-- What images that count at a moment amount to, of a store with one copy of each shard.
use Rattle.std.proofs.Common.{◌≡◌, ◌≢◌, ℕ, suc, ◌+◌, ◌*◌, ◌<◌, ◌≤◌, List, [], ◌∷◌, ◌++◌, length, Option, refl, sym, ap, ◌∙◌, subst, arith}
use Rattle.std.specs.Prelude.{All, AllPairs, IsSome, unwrap_or}
use Rattle.hs_limits.specs.Shape.{IsShape}
use Rattle.hs_model.specs.Store.{reborn}
use Rattle.hs_entry.specs.declared.entry.Entry.{Entry}
use Rattle.hs_events.specs.Taken.{or_blank, taken_lists}
use Rattle.hs_fold.specs.Good.{taken_below}
use Rattle.hs_fold.specs.Images.{image_at}
use Rattle.hs_fold.specs.Opened.{chosen, chosen_each}
use Rattle.hs_fold.specs.Prefix.{IsNumbered}
use Rattle.hs_fold.specs.Shards.Happening.{Happening, happen_all, happenings}
use Rattle.hs_fold.specs.Shards.Images.{AreGoodImages, Image, IsGoodImage, Stop}
use Rattle.hs_fold.specs.Shards.Pending.{AreOneRun, changing_lines}
use Rattle.hs_fold.specs.Shards.Setting.{Numbered, Setting, shard_in}
use Rattle.hs_fold.specs.Runs.Opened.{catalogues, store_of}
use Rattle.hs_fold.proofs.OneListLemmas.{one-chosen}
use Rattle.hs_fold.proofs.PrefixLemmas.{last-length}
use Rattle.hs_journal.specs.declared.entry.JournalEntry.{JournalEntry}
use Rattle.hs_journal.specs.Moments.{below}
use Rattle.hs_moments.specs.Joint.{AtMoment}
use Rattle.hs_moments.specs.Machine.{Machine}
use Rattle.hs_moments.specs.Moments.{GivesFine}
use Rattle.hs_moments.specs.WholeMachine.{last_of}
use Rattle.hs_side.specs.Current.{list_in}
use Rattle.hs_sound.specs.Stay.{AreSoundAlong}
use Rattle.hs_standing.specs.Left.{AreFronts, MayBeLeft}
use Rattle.hs_standing.specs.Lists.{Lists}
use Rattle.hs_fold.specs.Shards.Outstanding.{MayPend, pending, pending_of}
use Rattle.hs_standing.specs.Reopens.{Reopens, image_logs, pending_at}
use Rattle.hs_standing.specs.Stands.{GoodPeersCount, Stands, StandsWhereGood, lists_of}
use Rattle.hs_standing.specs.Start.{IsAwaited, Start, events_in, store_after}
use Rattle.hs_standing.proofs.StopsListLemmas.{lists_awaited, lists_legal, lists_once, lists_sound, lists_stand}
use Rattle.hs_standing.proofs.PartLemmas.{IsFine, goes_front}

-- ---- of one copy each that copy counts

pub one_each : (list : Numbered) → chosen (list ∷ []) ≡ list
one_each list = ap (λ lists. first lists) (one-chosen list)
  where
    first : List Numbered → Numbered
    first [] = []
    first (x ∷ xs) = x

pub all_chosen : (lists : List Numbered) → chosen_each (length lists) 1 lists ≡ lists
all_chosen [] = refl
all_chosen (list ∷ lists) = λ i. one_each list i ∷ all_chosen lists i

pub chosen_of : (shards copies : ℕ) (lists : List Numbered) → copies ≡ 1 → length lists ≡ shards → chosen_each shards copies lists ≡ lists
chosen_of shards copies lists one count = ap (λ n. chosen_each shards n lists) one ∙ ap (λ n. chosen_each n 1 lists) (sym count) ∙ all_chosen lists

-- ---- images and their lists

-- the list of an image; where it is no log, it counts as blank
abbrev pub list_of : Image → Numbered
list_of image = unwrap_or (list_in image) []

pub logs_count : (images : List Image) → length (or_blank (image_logs images)) ≡ length images
logs_count [] = refl
logs_count (image ∷ images) = ap (λ n. suc n) (logs_count images)

pub fine_lists : (lists : Lists) (images : List Image) (g : ℕ) → ((k : ℕ) → k < length images → (shard : ℕ) → shard ≡ g + k → IsFine lists shard (list_of (image_at images k)))
    → AreFronts lists g (or_blank (image_logs images))
fine_lists lists [] g f = tt
fine_lists lists (image ∷ images) g f = (f 0 (omega arith) g (zero_right g), fine_lists lists images (g + 1) (λ k low shard e. f (suc k) (omega (arith, low)) shard (shift g k shard e)))
  where
    zero_right : (a : ℕ) → a ≡ a + 0
    zero_right a = omega arith

    shift : (a b n : ℕ) → n ≡ a + 1 + b → n ≡ a + suc b
    shift a b n e = omega (arith, e)

-- what is pending goes by what took effect of these shards
pub same_pending : (set : Setting) (f h : ℕ → ℕ) (g end : ℕ) (some : List Numbered) → g + length some ≡ end → ((shard : ℕ) → shard < end → f shard ≡ h shard) → pending set f g some ≡ pending set h g some
same_pending set f h g end [] e same = refl
same_pending set f h g end (list ∷ some) e same =
    ap (λ n. pending_of (shard_in set g) n list ++ pending set f (g + 1) some) (same g (omega (arith, e)))
    ∙ ap (λ es. pending_of (shard_in set g) (h g) list ++ es) (same_pending set f h (g + 1) end some (omega (arith, e)) same)

-- ---- at a moment

module _ {State Event : Type 0} (M : Machine State Event) (Sane : State → Type 0) (start : Start) (stop : Stop) (journal : List JournalEntry)
    (at : AtMoment M Sane start.set.shape stop.course journal stop.moment stop.disks) where
  -- a good peer's image gives a list that is fine
  good_gives : (images : List Image) (peer : ℕ) → peer < start.set.shape.shards * start.set.shape.copies → GoodPeersCount M at.core → IsGoodImage stop images peer → GivesFine M at.core peer (image_at images peer)
  good_gives images peer low counted good = at.lists peer (counted peer (sym (at.tells.good peer low) ∙ good.good)) (image_at images peer) good.left

  pub good_image_is_log : (images : List Image) (peer : ℕ) → peer < start.set.shape.shards * start.set.shape.copies → GoodPeersCount M at.core → IsGoodImage stop images peer → IsSome (list_in (image_at images peer))
  good_image_is_log images peer low counted good = let f = good_gives images peer low counted good in subst (λ o. IsSome o) (sym f.read) refl

module _ {State Event : Type 0} (M : Machine State Event) (Sane : State → Type 0) (start : Start) (stop : Stop) (journal : List JournalEntry)
    (shape : IsShape start.set.shape) (one : start.set.shape.copies ≡ 1) (peers : length stop.disks ≡ start.set.shape.shards)
    (at : AtMoment M Sane start.set.shape stop.course journal stop.moment stop.disks) (owed : StandsWhereGood M start stop at.core) (images : List Image) (good : AreGoodImages start.set.shape stop images) where
  abbrev set : Setting
  set = start.set

  abbrev n : ℕ
  n = set.shape.shards

  abbrev c : State
  c = at.core

  abbrev lists : Lists
  lists = lists_of M c

  abbrev some : List Numbered
  some = or_blank (image_logs images)

  images_count : length images ≡ n
  images_count = good.count ∙ peers

  count : length some ≡ n
  count = logs_count images ∙ images_count

  peer_is : (shard copy copies : ℕ) → copies ≡ 1 → copy < copies → shard * copies + copy ≡ shard
  peer_is shard copy copies e low = ap (λ k. shard * k + copy) e ∙ last
    where
      last : shard * 1 + copy ≡ shard
      last = omega (arith, e, low)

  all_peers : n * set.shape.copies ≡ n
  all_peers = ap (λ k. n * k) one ∙ times_one n
    where
      times_one : (k : ℕ) → k * 1 ≡ k
      times_one k = omega arith

  image_good : (shard : ℕ) → shard < n → IsGoodImage stop images shard
  image_good shard low = let g = good.shards shard low in subst (λ p. IsGoodImage stop images p) (peer_is shard g.0 set.shape.copies one g.1) g.2

  within : (shard : ℕ) → shard < n → shard < n * set.shape.copies
  within shard low = let all = all_peers in omega (arith, low, all)

  stands : Stands M start stop c
  stands = owed (λ shard low. sym (at.tells.good shard (within shard low)) ∙ (image_good shard low).good)

  fine_image : (shard : ℕ) → shard < n → (image : Image) → GivesFine M c shard image → M.front c shard ≤ M.floor c shard → IsFine lists shard (list_of image)
  fine_image shard low image f sealed =
      let m : MayBeLeft set (IsAwaited start stop (M.journal c)) lists shard = stands.left shard low in
      let last : last_of f.list ≡ length f.list = last-length f.list (goes_front 0 f.list f.front.0 (subst (λ es. IsNumbered es) f.front.1 m.numbered)) in
      let long = f.long in
      let high : M.front c shard ≤ length f.list = omega (arith, sealed, long, last) in
      subst (λ list. IsFine lists shard list) (sym (ap (λ found. unwrap_or found []) f.read)) (f.front, high)

  fine : AreFronts lists 0 some
  fine = fine_lists lists images 0 (λ k low shard e. here k shard (e ∙ zero_left k) (let all = images_count in omega (arith, low, all)))
    where
      zero_left : (k : ℕ) → 0 + k ≡ k
      zero_left k = omega arith

      here : (k shard : ℕ) → shard ≡ k → k < n → IsFine lists shard (list_of (image_at images k))
      here k shard e low =
          let is = image_good k low in
          let gives = good_gives M Sane start stop journal at images k (within k low) stands.counted is in
          let sealed = stands.sealed k (sym (at.tells.good k (within k low)) ∙ is.good) in
          subst (λ g. IsFine lists g (list_of (image_at images k))) (sym e) (fine_image k low (image_at images k) gives sealed)

  taken_is : taken_lists set.shape (image_logs images) ≡ some
  taken_is = chosen_of n set.shape.copies some one count

  pending_is : pending_at start stop images ≡ pending set lists.front 0 some
  pending_is = ap (λ ls. pending set (taken_below stop.course stop.moment) 0 ls) taken_is ∙ same_pending set (taken_below stop.course stop.moment) lists.front 0 n some (zero_left (length some) ∙ count) at.tells.taken
    where
      zero_left : (k : ℕ) → 0 + k ≡ k
      zero_left k = omega arith

  along : AreSoundAlong set some
  along = lists_sound start (M.journal c) (IsAwaited start stop (M.journal c)) lists shape stands.took stands.left some count fine

  pub images_along : AreSoundAlong set (taken_lists set.shape (image_logs images))
  images_along = subst (λ ls. AreSoundAlong set ls) (sym taken_is) along

  reopen_there : Reopens start stop (M.journal c) images
  reopen_there = record {
    stands =
        ap (λ ls. store_of (catalogues set 0 ls)) taken_is
        ∙ lists_stand start (M.journal c) (IsAwaited start stop (M.journal c)) lists shape stands.took stands.left some count fine
        ∙ ap (λ es. reborn (happen_all (store_after start (M.journal c)) (happenings es))) (sym pending_is);
    legal = subst (λ es. AreOneRun set.limits start.entry (events_in start (M.journal c)) (happenings es)) (sym pending_is)
        (lists_legal start (M.journal c) (IsAwaited start stop (M.journal c)) lists shape stands.took stands.left some count fine);
    sound = images_along;
    awaited = subst (λ es. All (λ (e : Entry × Option Happening). MayPend (IsAwaited start stop (M.journal c)) e.0) es) (sym pending_is)
        (lists_awaited start (M.journal c) (IsAwaited start stop (M.journal c)) lists shape stands.took stands.left some count fine);
    once = subst (λ es. AllPairs (λ (one other : ℕ). one ≢ other) (changing_lines es)) (sym pending_is)
        (lists_once start (M.journal c) (IsAwaited start stop (M.journal c)) lists shape stands.took stands.left some count fine stands.once);
  }

  -- they reopen, and the next run may begin with them
  pub images_reopen : Reopens start stop (below stop.moment journal) images
  images_reopen = subst (λ j. Reopens start stop j images) at.tells.answered reopen_there
