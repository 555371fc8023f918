-- What images that count at a moment amount to, of a store of any number of copies: the list of greatest rank of each shard is taken.
use Rattle.std.proofs.Common.{◌≡◌, ◌≢◌, ◌⊎◌, ◌∙◌, ap, sym, subst, refl, inl, inr, arith, ℕ, zero, suc, ◌+◌, ◌*◌, ◌-◌, ◌/◌, ◌%◌, ◌<◌, ◌≤◌, not, Bool, true, false, List, [], ◌∷◌, ◌++◌, Option, Some, drop, get_or, length, take, unwrap_or}
use Rattle.std.proofs.lemmas.Bool.{cases_lt, eq-eqb, le-ltb, ne_eqb}
use Rattle.std.proofs.lemmas.List.{get_or-drop, get_or-take, length-drop, length-take-le}
use Rattle.std.proofs.lemmas.Nat.{div-add-mod', div-mul-add, mod_below}
use Rattle.std.specs.Prelude.{All, AllPairs, if◌then◌else◌, slice_index_or}
use Rattle.hs_copies.specs.Lists.{IsAtMost}
use Rattle.hs_core_copies.specs.InStep.{IsOf}
use Rattle.hs_core_words.specs.Looking.{shape_of, status_of}
use Rattle.hs_entry.specs.declared.entry.Entry.{Entry}
use Rattle.hs_entry.specs.declared.rank.Rank.{Rank}
use Rattle.hs_entry.specs.Entries.{IsPrefix, rank_of}
use Rattle.hs_events.specs.Taken.{or_blank, peer_count, taken_lists}
use Rattle.hs_events.specs.Whole.{Whole, counts, floor, reach}
use Rattle.hs_fold.proofs.PrefixLemmas.{last-length}
use Rattle.hs_fold.specs.Good.{taken_below}
use Rattle.hs_fold.specs.Images.{image_at}
use Rattle.hs_fold.specs.Opened.{chosen, chosen_each, outranks}
use Rattle.hs_fold.specs.Prefix.{IsNumbered, last_of}
use Rattle.hs_fold.specs.Runs.Opened.{catalogues, store_of}
use Rattle.hs_fold.specs.Shards.Happening.{Happening, happen_all, happenings}
use Rattle.hs_fold.specs.Shards.Images.{AreGoodImages, HasLeft, Image, IsBlank, Stop}
use Rattle.hs_fold.specs.Shards.Outstanding.{MayPend, pending, pending_of}
use Rattle.hs_fold.specs.Shards.Pending.{AreOneRun, changing_lines}
use Rattle.hs_fold.specs.Shards.Setting.{Numbered, Setting, shard_in}
use Rattle.hs_journal.specs.declared.entry.JournalEntry.{JournalEntry}
use Rattle.hs_journal.specs.Moments.{below}
use Rattle.hs_limits.specs.declared.limits.PeerStatus.{PeerStatus}
use Rattle.hs_limits.specs.declared.limits.PeerStatus.TheVariants.{Down, Good, Joining}
use Rattle.hs_limits.specs.declared.shape.Shape.{Shape}
use Rattle.hs_limits.specs.Shape.{peer_of}
use Rattle.hs_members.specs.Members.{home_of, is_good_status}
use Rattle.hs_model.specs.Store.{reborn}
use Rattle.hs_moments.specs.Joint.{AtMoment}
use Rattle.hs_moments.specs.Moments.{GivesFine}
use Rattle.hs_moments.specs.WholeMachine.{whole_machine}
use Rattle.hs_side.specs.Current.{current, list_in}
use Rattle.hs_side.specs.Reading.{log_of}
use Rattle.hs_sound.specs.Stay.{AreSoundAlong}
use Rattle.hs_standing.proofs.PartLemmas.{goes_front}
use Rattle.hs_standing.specs.Lists.{Lists, whole_from}
use Rattle.hs_standing.specs.Reopens.{Reopens, image_logs, pending_at}
use Rattle.hs_standing.specs.Start.{IsAwaited, Start, events_in, store_after}
use Rattle.hs_whole_copies.specs.Whole.{IsShardInStep, longest}
use Rattle.hs_tails.proofs.EntryLemmas.{is_numbered}
use Rattle.hs_tails.proofs.RankLemmas.{at_most, rank_none}
use Rattle.hs_tails.specs.Chosen.{lead_lists, took_of, with_chosen}
use Rattle.hs_tails.specs.Run.{HasGreatestRank, IsLeftOf, RunsWithTails}
use Rattle.hs_tails.specs.Stop.{AreGreatest, IsOutOfUse, ListsReopen, MayStopAside, fronts_of, greatest_lists}

-- ---- ranks

none_out : (p y : Rank) → IsAtMost p y → outranks p y ≡ false
none_out p y (inl less) = rw (le-ltb y.view p.view (omega (arith, less)), ne_eqb p.view y.view (λ e. omega (arith, e, less))) refl
none_out p y (inr same) =
    let e = same.0 in
    let n = same.1 in
    rw (le-ltb y.view p.view (omega (arith, e)), eq-eqb p.view y.view e, le-ltb y.number p.number n) refl

either : (x y : Rank) → IsAtMost x y ⊎ IsAtMost y x
either x y = elim (cases_lt x.view y.view) [
  | inl less ↦ inl (inl less)
  | inr more ↦ elim (cases_lt y.view x.view) [
    | inl less ↦ inr (inl less)
    | inr same ↦ elim (cases_lt x.number y.number) [
      | inl low ↦ inl (inr (omega (arith, more, same), omega (arith, low)))
      | inr high ↦ inr (inr (omega (arith, more, same), high))
    ]
  ]
]

above : (x y : Rank) → outranks x y ≡ true → IsAtMost y x
above x y e = elim (either x y) [
  | inl less ↦ (let wrong : true ≡ false = sym e ∙ none_out x y less in absurd (cc wrong))
  | inr most ↦ most
]

most_itself : (x : Rank) → IsAtMost x x
most_itself x = inr (refl, omega arith)

most_trans : (x y z : Rank) → IsAtMost x y → IsAtMost y z → IsAtMost x z
most_trans x y z (inl a) (inl b) = inl (omega (arith, a, b))
most_trans x y z (inl a) (inr b) = inl (let e = b.0 in omega (arith, a, e))
most_trans x y z (inr a) (inl b) = inl (let e = a.0 in omega (arith, b, e))
most_trans x y z (inr a) (inr b) = inr (a.0 ∙ b.0, (let m = a.1 in let n = b.1 in omega (arith, m, n)))

least : (x : Rank) → IsAtMost (rank_of []) x
least x = subst (λ r. IsAtMost r x) (sym rank_none) (go (cases_lt 0 x.view))
  where
    go : (0 < x.view) ⊎ (x.view ≤ 0) → IsAtMost (record { view = 0; number = 0 }) x
    go (inl some) = inl some
    go (inr none) = inr (omega (arith, none), omega arith)

-- ---- the list of greatest rank

abbrev best : List Numbered → ℕ
best [] = 0
best (list ∷ lists) = if outranks (rank_of (chosen lists)) (rank_of list) then suc (best lists) else 0

best_is : (lists : List Numbered) → 0 < length lists → (best lists < length lists) × (chosen lists ≡ get_or lists (best lists) [])
best_is [] some = absurd (omega (arith, some))
best_is (list ∷ lists) some = go (λ more. best_is lists more) (outranks (rank_of (chosen lists)) (rank_of list)) refl (cases_lt 0 (length lists))
  where
    none_left : (xs : List Numbered) → length xs ≤ 0 → outranks (rank_of (chosen xs)) (rank_of list) ≡ true → ⊥
    none_left [] low e = let wrong : true ≡ false = sym e ∙ none_out (rank_of []) (rank_of list) (least (rank_of list)) in cc wrong
    none_left (x ∷ xs) low e = absurd (omega (arith, low))

    go : (0 < length lists → (best lists < length lists) × (chosen lists ≡ get_or lists (best lists) []))
        → (b : Bool) → outranks (rank_of (chosen lists)) (rank_of list) ≡ b → (0 < length lists) ⊎ (length lists ≤ 0)
        → ((if b then suc (best lists) else 0) < length (list ∷ lists)) × ((if b then chosen lists else list) ≡ get_or (list ∷ lists) (if b then suc (best lists) else 0) [])
    go later false e more = (omega arith, refl)
    go later true e (inl more) = let h = later more in ((let low = h.0 in omega (arith, low)), h.1)
    go later true e (inr none) = absurd (none_left lists none e)

best_up : (lists : List Numbered) (i : ℕ) → i < length lists → IsAtMost (rank_of (get_or lists i [])) (rank_of (chosen lists))
best_up [] i low = absurd (omega (arith, low))
best_up (list ∷ lists) i low = go (λ j less. best_up lists j less) (outranks (rank_of (chosen lists)) (rank_of list)) refl i low
  where
    go : ((j : ℕ) → j < length lists → IsAtMost (rank_of (get_or lists j [])) (rank_of (chosen lists)))
        → (b : Bool) → outranks (rank_of (chosen lists)) (rank_of list) ≡ b → (j : ℕ) → j < length (list ∷ lists) → IsAtMost (rank_of (get_or (list ∷ lists) j [])) (rank_of (if b then chosen lists else list))
    go later true e zero low = above (rank_of (chosen lists)) (rank_of list) e
    go later true e (suc j) low = later j (omega (arith, low))
    go later false e zero low = most_itself (rank_of list)
    go later false e (suc j) low = most_trans (rank_of (get_or lists j [])) (rank_of (chosen lists)) (rank_of list) (later j (omega (arith, low))) (at_most (rank_of (chosen lists)) (rank_of list) e)

-- ---- the lists of all shards

abbrev no_lists : List Numbered
no_lists = []

drop_nil : (k : ℕ) → drop k no_lists ≡ no_lists
drop_nil zero = refl
drop_nil (suc k) = refl

drop_twice : (a b : ℕ) (xs : List Numbered) → drop a (drop b xs) ≡ drop (b + a) xs
drop_twice a zero xs = let e : a ≡ 0 + a = omega arith in ap (λ k. drop k xs) e
drop_twice a (suc b) [] = drop_nil a ∙ sym (drop_nil (suc b + a))
drop_twice a (suc b) (x ∷ xs) = let e : suc (b + a) ≡ suc b + a = omega arith in drop_twice a b xs ∙ ap (λ k. drop k (x ∷ xs)) e

-- those that these lists give, shard by shard
each_chosen : (lists : Lists) (c k n : ℕ) (xs : List Numbered) → ((j : ℕ) → j < n → lists.whole (k + j) ≡ chosen (take c (drop (j * c) xs))) → chosen_each n c xs ≡ whole_from lists k n
each_chosen lists c k zero xs same = refl
each_chosen lists c k (suc n) xs same = λ i. first i ∷ rest (each_chosen lists c (k + 1) n (drop c xs)) i
  where
    first : chosen (take c xs) ≡ lists.whole k
    first =
        let none : 0 * c ≡ 0 = omega arith in
        let here : k + 0 ≡ k = omega arith in
        sym (ap (λ m. chosen (take c (drop m xs))) none) ∙ sym (same 0 (omega arith)) ∙ ap (λ m. lists.whole m) here

    rest : (((j : ℕ) → j < n → lists.whole (k + 1 + j) ≡ chosen (take c (drop (j * c) (drop c xs)))) → chosen_each n c (drop c xs) ≡ whole_from lists (k + 1) n)
        → chosen_each n c (drop c xs) ≡ whole_from lists (k + 1) n
    rest later = later (λ j low. (
        let at : k + suc j ≡ k + 1 + j = omega arith in
        let far : suc j * c ≡ c + j * c = omega arith in
        ap (λ m. lists.whole m) (sym at) ∙ same (suc j) (omega (arith, low)) ∙ ap (λ m. chosen (take c (drop m xs))) far ∙ ap (λ ys. chosen (take c ys)) (sym (drop_twice (j * c) c xs))
        ))

-- what is pending goes by what took effect of these shards
same_pending : (set : Setting) (f h : ℕ → ℕ) (g end : ℕ) (some : List Numbered) → g + length some ≡ end → ((shard : ℕ) → shard < end → f shard ≡ h shard) → pending set f g some ≡ pending set h g some
same_pending set f h g end [] e same = refl
same_pending set f h g end (list ∷ some) e same =
    ap (λ n. pending_of (shard_in set g) n list ++ pending set f (g + 1) some) (same g (omega (arith, e)))
    ∙ ap (λ es. pending_of (shard_in set g) (h g) list ++ es) (same_pending set f h (g + 1) end some (omega (arith, e)) same)

whole_long : (lists : Lists) (k n : ℕ) → length (whole_from lists k n) ≡ n
whole_long lists k zero = refl
whole_long lists k (suc n) = ap (λ m. suc m) (whole_long lists (k + 1) n)

-- ---- images and their lists

abbrev list_of : Image → Numbered
list_of image = unwrap_or (list_in image) []

logs_count : (images : List Image) → length (or_blank (image_logs images)) ≡ length images
logs_count [] = refl
logs_count (image ∷ images) = ap (λ n. suc n) (logs_count images)

log_at : (images : List Image) (q : ℕ) → q < length images → slice_index_or (or_blank (image_logs images)) q [] ≡ list_of (image_at images q)
log_at [] q low = absurd (omega (arith, low))
log_at (image ∷ images) zero low = refl
log_at (image ∷ images) (suc q) low = log_at images q (omega (arith, low))

log_past : (images : List Image) (q : ℕ) → length images ≤ q → slice_index_or (or_blank (image_logs images)) q [] ≡ []
log_past [] q high = refl
log_past (image ∷ images) zero high = absurd (omega (arith, high))
log_past (image ∷ images) (suc q) high = log_past images q (omega (arith, high))

blank_list : (image : Image) → IsBlank image → list_of image ≡ []
unfolding log_of
blank_list image blank = rw (blank (current image)) refl

rows : (n k w : ℕ) → k < n → k * w + w ≤ n * w
rows n k w l = grind (arith, l)

-- a peer of a shard is among its own
between : (shape : Shape) (q g : ℕ) → 1 ≤ shape.copies → home_of shape q ≡ g → (g * shape.copies ≤ q) × (q < g * shape.copies + shape.copies)
between shape q g some h =
    let e : q / shape.copies * shape.copies + q % shape.copies ≡ q = div-add-mod' q shape.copies in
    let m : q % shape.copies < shape.copies = mod_below q shape.copies (omega (arith, some)) in
    let same : g * shape.copies ≡ q / shape.copies * shape.copies = ap (λ n. n * shape.copies) (sym h) in
    (omega (arith, e, same), omega (arith, e, m, same))

good_is : (x : PeerStatus) → is_good_status x ≡ true → x ≡ Good
good_is Good e = refl
good_is Joining e = absurd (cc e)
good_is Down e = absurd (cc e)

-- ---- at a moment

module _ (start : Start) (stop : Stop) (journal : List JournalEntry) (peers_are : length stop.disks ≡ peer_count start.set.shape)
    (at : AtMoment whole_machine (MayStopAside start stop) start.set.shape stop.course journal stop.moment stop.disks) (images : List Image) (good : AreGoodImages start.set.shape stop images) where
  abbrev c : Whole
  c = at.core

  abbrev shape : Shape
  shape = start.set.shape

  r : RunsWithTails start at.core
  r = at.tells.sane.may.runs.runs

  abbrev some : List Numbered
  some = or_blank (image_logs images)

  abbrev pub left : ℕ → Numbered
  left q = slice_index_or (or_blank (image_logs images)) q []

  abbrev part : ℕ → List Numbered
  part g = take start.set.shape.copies (drop (g * start.set.shape.copies) (or_blank (image_logs images)))

  abbrev pub peers : ℕ → ℕ
  peers g = g * start.set.shape.copies + best (part g)

  some_copy : 1 ≤ start.set.shape.copies
  some_copy = subst (λ (x : Shape). 1 ≤ x.copies) r.shape (r.whole.shape.some_copy)

  count : length images ≡ start.set.shape.shards * start.set.shape.copies
  count = good.count ∙ peers_are

  low_peer : (g i : ℕ) → g < start.set.shape.shards → i < start.set.shape.copies → g * start.set.shape.copies + i < start.set.shape.shards * start.set.shape.copies
  low_peer g i low less = let row = rows start.set.shape.shards g start.set.shape.copies low in omega (arith, row, less)

  home_here : (g i : ℕ) → i < start.set.shape.copies → IsOf (shape_of at.core.core) g (g * start.set.shape.copies + i)
  home_here g i less = subst (λ (x : Shape). home_of x (g * start.set.shape.copies + i) ≡ g) (sym r.shape) (div-mul-add g start.set.shape.copies i less)

  module _ (g : ℕ) (low : g < start.set.shape.shards) where
    part_long : length (part g) ≡ start.set.shape.copies
    part_long =
        let row = rows start.set.shape.shards g start.set.shape.copies low in
        let all = logs_count images in
        let n = count in
        let d = length-drop (g * start.set.shape.copies) (or_blank (image_logs images)) in
        length-take-le start.set.shape.copies (drop (g * start.set.shape.copies) (or_blank (image_logs images))) (omega (arith, row, all, n, d))

    part_at : (i : ℕ) → i < start.set.shape.copies → get_or (part g) i [] ≡ left (g * start.set.shape.copies + i)
    part_at i less = get_or-take start.set.shape.copies (drop (g * start.set.shape.copies) (or_blank (image_logs images))) i [] less ∙ get_or-drop (g * start.set.shape.copies) (or_blank (image_logs images)) i []

    best_here : (best (part g) < length (part g)) × (chosen (part g) ≡ get_or (part g) (best (part g)) [])
    best_here = let n = part_long in let one = some_copy in best_is (part g) (omega (arith, n, one))

    best_low : best (part g) < start.set.shape.copies
    best_low = let b = best_here.0 in let n = part_long in omega (arith, b, n)

    left_is : chosen (part g) ≡ left (peers g)
    left_is = best_here.1 ∙ part_at (best (part g)) best_low

    k : IsShardInStep g at.core (r.machines g)
    k = r.whole.each g (subst (λ (x : Shape). g < x.shards) (sym r.shape) low)

    -- of a disk that counts
    gives : (q : ℕ) → counts at.core q ≡ true → HasLeft stop images q → GivesFine whole_machine at.core q (image_at images q)
    gives q counted there = at.lists q counted (image_at images q) there

    prefix_of : (q : ℕ) → q < length images → GivesFine whole_machine at.core q (image_at images q) → IsPrefix (left q) (reach at.core q)
    prefix_of q less f = subst (λ (xs : Numbered). IsPrefix xs (reach at.core q)) (sym (log_at images q less ∙ ap (λ (o : Option Numbered). unwrap_or o []) f.read)) f.front

    none_of : (q : ℕ) → q < length images → IsBlank (image_at images q) → IsLeftOf at.core q (left q)
    none_of q less blank = inl (log_at images q less ∙ blank_list (image_at images q) blank)

    each_left : (q : ℕ) → IsLeftOf at.core q (left q)
    each_left q = elim (cases_lt q (length images)) [
      | inr past ↦ inl (log_past images q past)
      | inl less ↦ elim (good.others q (let n = good.count in omega (arith, less, n))) [
        | inr blank ↦ none_of q less blank
        | inl there ↦ by_count less there (counts at.core q) refl
      ]
    ]
      where
        out : q < length images → HasLeft stop images q → IsOutOfUse stop at.core q → IsLeftOf at.core q (left q)
        out less there (inl apart) = none_of q less (good.aside q apart.0 apart.1)
        out less there (inr took) =
            let l : (list : Numbered) × (list_in (image_at images q) ≡ Some list) × IsPrefix list (took_of (lead_lists at.core) (home_of (shape_of at.core.core) q)) = took (image_at images q) there in
            inr (inr (subst (λ (xs : Numbered). IsPrefix xs (took_of (lead_lists at.core) (home_of (shape_of at.core.core) q))) (sym (log_at images q less ∙ ap (λ (o : Option Numbered). unwrap_or o []) l.1)) l.2))

        by_count : q < length images → HasLeft stop images q → (b : Bool) → counts at.core q ≡ b → IsLeftOf at.core q (left q)
        by_count less there true e = inr (inl (e, prefix_of q less (gives q e there)))
        by_count less there false e = out less there (at.tells.sane.aside q e)

    -- the good one
    abbrev copy : ℕ
    copy = (good.shards g low).0

    abbrev p : ℕ
    p = peer_of start.set.shape g copy

    p_low : peer_of start.set.shape g (good.shards g low).0 < start.set.shape.shards * start.set.shape.copies
    p_low = low_peer g (good.shards g low).0 low (good.shards g low).1

    p_good : status_of (peer_of start.set.shape g (good.shards g low).0) at.core.core ≡ Good
    p_good = good_is (status_of p at.core.core) (sym (at.tells.good p p_low) ∙ (good.shards g low).2.good)

    p_counts : counts at.core (peer_of start.set.shape g (good.shards g low).0) ≡ true
    p_counts = go (at.core.aside p) refl
      where
        go : (b : Bool) → at.core.aside p ≡ b → not b ≡ true
        go false e = refl
        go true e = let wrong : true ≡ false = ap is_good_status (sym p_good) ∙ r.whole.aside p e in absurd (cc wrong)

    p_gives : GivesFine whole_machine at.core (peer_of start.set.shape g (good.shards g low).0) (image_at images (peer_of start.set.shape g (good.shards g low).0))
    p_gives = gives p p_counts (good.shards g low).2.left

    p_less : peer_of start.set.shape g (good.shards g low).0 < length images
    p_less = let n = count in let l = p_low in omega (arith, n, l)

    p_home : IsOf (shape_of at.core.core) g (peer_of start.set.shape g (good.shards g low).0)
    p_home = home_here g (good.shards g low).0 (good.shards g low).1

    p_sealed : floor at.core (peer_of start.set.shape g (good.shards g low).0) ≤ length (left (peer_of start.set.shape g (good.shards g low).0))
    p_sealed =
        let whole : IsNumbered (reach at.core p) = subst (λ (xs : Numbered). IsNumbered xs) (sym (k.reaches p p_home)) (is_numbered (longest p at.core.core (r.machines g)) (k.plain p p_home)) in
        let last : last_of p_gives.list ≡ length p_gives.list = last-length p_gives.list (goes_front 0 p_gives.list p_gives.front.0 (subst (λ es. IsNumbered es) p_gives.front.1 whole)) in
        let long = p_gives.long in
        let same : length (left p) ≡ length p_gives.list = ap (λ (xs : Numbered). length xs) (log_at images p p_less ∙ ap (λ (o : Option Numbered). unwrap_or o []) p_gives.read) in
        omega (arith, last, long, same)

    greatest_at : HasGreatestRank at.core g left (peers g)
    greatest_at = record {
      home = home_here g (best (part g)) best_low;
      each = λ q own. each_left q;
      greatest = λ q own. none_out (rank_of (left q)) (rank_of (left (peers g))) (subst (λ (xs : Numbered). IsAtMost (rank_of (left q)) (rank_of xs)) left_is (up q own));
      good = p;
      good_home = p_home;
      is_good = p_good;
      good_list = prefix_of p p_less p_gives;
      sealed = p_sealed;
    }
      where
        up : (q : ℕ) → IsOf (shape_of at.core.core) g q → IsAtMost (rank_of (left q)) (rank_of (chosen (part g)))
        up q own =
            let h : home_of start.set.shape q ≡ g = subst (λ (x : Shape). home_of x q ≡ g) r.shape own in
            let i : ℕ = q - g * start.set.shape.copies in
            let b = between start.set.shape q g some_copy h in
            let first = b.0 in
            let last = b.1 in
            let is : g * start.set.shape.copies + i ≡ q = omega (arith, first) in
            let less : i < start.set.shape.copies = omega (arith, first, last) in
            let n = part_long in
            subst (λ (xs : Numbered). IsAtMost (rank_of xs) (rank_of (chosen (part g)))) (part_at i less ∙ ap (λ m. left m) is) (best_up (part g) i (omega (arith, less, n)))

  pub all_greatest : AreGreatest start at.core left peers
  all_greatest g low = greatest_at g low

  taken_is : taken_lists start.set.shape (image_logs images) ≡ greatest_lists start at.core left peers
  taken_is = each_chosen (with_chosen (lead_lists at.core) (λ g. left (peers g))) start.set.shape.copies 0 start.set.shape.shards (or_blank (image_logs images))
      (λ j low. (let here : 0 + j ≡ j = omega arith in ap (λ m. left (peers m)) here ∙ sym (left_is j low)))

  pending_is : pending_at start stop images ≡ pending start.set (fronts_of at.core) 0 (greatest_lists start at.core left peers)
  pending_is =
      ap (λ ls. pending start.set (taken_below stop.course stop.moment) 0 ls) taken_is
      ∙ same_pending start.set (taken_below stop.course stop.moment) (fronts_of at.core) 0 start.set.shape.shards (greatest_lists start at.core left peers)
      (let n = whole_long (with_chosen (lead_lists at.core) (λ g. left (peers g))) 0 start.set.shape.shards in omega (arith, n)) (λ g low. at.tells.taken g low)

  -- where these lists reopen, so do the images
  pub images_reopen : ListsReopen start stop at.core.core.journal (fronts_of at.core) (greatest_lists start at.core left peers) → Reopens start stop (below stop.moment journal) images
  images_reopen h = subst (λ j. Reopens start stop j images) at.tells.answered (record {
    stands =
        ap (λ ls. store_of (catalogues start.set 0 ls)) taken_is ∙ h.stands
        ∙ ap (λ es. reborn (happen_all (store_after start at.core.core.journal) (happenings es))) (sym pending_is);
    legal = subst (λ es. AreOneRun start.set.limits start.entry (events_in start at.core.core.journal) (happenings es)) (sym pending_is) h.legal;
    sound = subst (λ ls. AreSoundAlong start.set ls) (sym taken_is) h.sound;
    awaited = subst (λ es. All (λ (e : Entry × Option Happening). MayPend (IsAwaited start stop at.core.core.journal) e.0) es) (sym pending_is) h.awaited;
    once = subst (λ es. AllPairs (λ (one other : ℕ). one ≢ other) (changing_lines es)) (sym pending_is) h.once;
  })
