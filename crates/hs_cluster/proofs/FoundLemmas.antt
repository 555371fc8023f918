-- What was taken of each shard, as what opening found.
use Rattle.std.proofs.Common.{◌≡◌, ◌∙◌, ◌⊎◌, inl, inr, ap, sym, subst, ℕ, zero, suc, ◌+◌, ◌*◌, ◌-◌, ◌<◌, ◌≤◌, ◌==◌, ◌&&◌, ◌||◌, not, Bool, true, false, List, [], ◌∷◌, ◌++◌, Option, Some, None, refl, arith, drop, length, map, is_some, take}
use Rattle.std.proofs.lemmas.Bool.{cases_lt, eq-eqb, eqb-true}
use Rattle.std.proofs.lemmas.List.{get_or-map, length-map}
use Rattle.std.proofs.lemmas.List.Folds.{flat_map-map}
use Rattle.std.proofs.lemmas.List.FromFn.{fill_by_all, get_or-map-range_with_len, length-map-range_with_len}
use Rattle.std.proofs.Math.Nat.{mul-le-mul_right, suc-mul}
use Rattle.std.specs.List.{range_with_len}
use Rattle.std.specs.Option.{option_map, option_map_or}
use Rattle.std.specs.Prelude.{Contains, IsSome, flat_map, if◌then◌else◌, slice_index_or, unwrap_or}
use Rattle.hs_cluster.proofs.TakenLemmas.{above_or_least, any_same, any_there, chosen_at, chosen_is, find_first, find_none, get_there, home_between, home_high, home_low, home_within, none_above, none_below, some_at}
use Rattle.hs_cluster.specs.Begins.{bad_of, begun_course, good_of, is_took, opened_with, took_of}
use Rattle.hs_cluster.specs.Opens.{Finds, IsFound, IsLeftBehind, IsLostLog}
use Rattle.hs_entry.specs.declared.rank.Rank.{Rank}
use Rattle.hs_entry.specs.Entries.{rank_of}
use Rattle.hs_events.proofs.RangeLemmas.{drop_range, take_range}
use Rattle.hs_events.specs.Beginning.{first_items}
use Rattle.hs_events.specs.Course.{change_item}
use Rattle.hs_events.specs.Found.{Found, opened_catalogue, opened_list, opens_with, starts_good}
use Rattle.hs_events.specs.Taken.{is_best, is_taken, or_blank, taken_items, taken_list, taken_peer}
use Rattle.hs_fold.specs.Opened.{chosen, outranks}
use Rattle.hs_fold.specs.Shards.Setting.{Numbered, Setting}
use Rattle.hs_limits.specs.declared.shape.Shape.{Shape}
use Rattle.hs_limits.specs.Shape.{peer_of}
use Rattle.hs_members.specs.Members.{all_peers, home_of, peers_of}
use Rattle.hs_memory.specs.Forget.{apply_all}
use Rattle.hs_model.specs.declared.course.CourseItem.{CourseItem}
use Rattle.hs_model.specs.declared.course.CourseItem.TheVariants as item
use Rattle.hs_peerlog.specs.Images.{IsAny}
use Rattle.hs_peerlog.specs.Lists.{HasLog, IsKept, Keeping}
use Rattle.hs_ports.specs.Fault.{HasRisen}
use Rattle.hs_shard.specs.Facts.{empty_catalogue}
use Rattle.hs_side.specs.Current.{list_in}
use Rattle.hs_taking.specs.Copies.{HasEvened, HasShard, IsCopy, IsHadOrFront, IsOf, IsLostOf, LeavesBy, begun_list}
use Rattle.hs_taking.specs.declared.shares.Share.{Share}
use Rattle.hs_taking.specs.Disks.{DiskSeen, log_at, seen_at}
use Rattle.hs_taking.specs.Shares.{KeepsDisk, Span, Taken, all_lost, lost_of, no_share, share_at}

false_is_not : false ≡ true → ⊥
false_is_not e = cc e

none_is_not : {A : Type 0} (x : A) → None ≡ Some x → ⊥
none_is_not x e = cc e

some_is : {A : Type 0} (x y : A) → Some x ≡ Some y → x ≡ y
some_is x y e = cc

both_true : (a b : Bool) → (a && b) ≡ true → (a ≡ true) × (b ≡ true)
both_true true true e = (refl, refl)
both_true true false e = absurd (false_is_not e)
both_true false b e = absurd (false_is_not e)

not_true : (b : Bool) → not b ≡ true → b ≡ false
not_true true e = absurd (false_is_not e)
not_true false e = refl

not_some : {A : Type 0} (o : Option A) → is_some o ≡ false → o ≡ None
not_some None e = refl
not_some (Some x) e = absurd (false_is_not (sym e))

some_of : {A : Type 0} (o : Option A) → is_some o ≡ true → (x : A) × (o ≡ Some x)
some_of None e = absurd (false_is_not e)
some_of (Some x) e = (x, refl)

some_mapped : (o : Option Numbered) → is_some (option_map (λ list. (rank_of list).number) o) ≡ is_some o
some_mapped None = refl
some_mapped (Some list) = refl

-- ---- what is told by each number of a range

flat_same : {A : Type 0} (f g : ℕ → List A) (from n : ℕ) → ((k : ℕ) → from ≤ k → k < from + n → f k ≡ g k) → flat_map f (range_with_len from n) ≡ flat_map g (range_with_len from n)
flat_same f g from zero h = refl
flat_same f g from (suc n) h =
    let first : f from ≡ g from = h from (omega arith) (omega arith) in
    ap (λ ys. ys ++ flat_map f (range_with_len (from + 1) n)) first
    ∙ ap (λ ys. g from ++ ys) (flat_same f g (from + 1) n (λ k low high. h k (omega (arith, low)) (omega (arith, high))))

map_same : (f g : ℕ → Numbered) (from n : ℕ) → ((k : ℕ) → from ≤ k → k < from + n → f k ≡ g k) → map f (range_with_len from n) ≡ map g (range_with_len from n)
map_same f g from zero h = refl
map_same f g from (suc n) h = λ i. h from (omega arith) (omega arith) i ∷ map_same f g (from + 1) n (λ k low high. h k (omega (arith, low)) (omega (arith, high))) i

drop_map : {A B : Type 0} (f : A → B) (k : ℕ) (xs : List A) → drop k (map f xs) ≡ map f (drop k xs)
drop_map f zero xs = refl
drop_map f (suc k) [] = refl
drop_map f (suc k) (x ∷ xs) = drop_map f k xs

take_map : {A B : Type 0} (f : A → B) (k : ℕ) (xs : List A) → take k (map f xs) ≡ map f (take k xs)
take_map f zero xs = refl
take_map f (suc k) [] = refl
take_map f (suc k) (x ∷ xs) = ap (λ ys. f x ∷ ys) (take_map f k xs)

map_twice : {A B C : Type 0} (f : B → C) (g : A → B) (xs : List A) → map f (map g xs) ≡ map (λ x. f (g x)) xs
map_twice f g [] = refl
map_twice f g (x ∷ xs) = ap (λ ys. f (g x) ∷ ys) (map_twice f g xs)

-- the items of the taken log of a shard
abbrev items_for : Shape → List (Option Numbered) → ℕ → ℕ → Option ℕ → List CourseItem
items_for shape logs moment shard None = []
items_for shape logs moment shard (Some peer) = item.Good peer moment ∷ item.Took shard (rank_of (taken_list shape logs shard)).number moment ∷ []

bad_items : (shares : List Share) → map (λ (peer : ℕ × ℕ). item.Bad peer.0 peer.1) (flat_map lost_of shares) ≡ flat_map bad_of shares
bad_items [] = refl
bad_items (share ∷ shares) = go share.lost (bad_items shares)
  where
    go : (o : Option ℕ) → map (λ (peer : ℕ × ℕ). item.Bad peer.0 peer.1) (flat_map lost_of shares) ≡ flat_map bad_of shares
        → map (λ (peer : ℕ × ℕ). item.Bad peer.0 peer.1) (option_map_or (λ moment. (share.peer, moment) ∷ []) o [] ++ flat_map lost_of shares) ≡ option_map_or (λ moment. item.Bad share.peer moment ∷ []) o [] ++ flat_map bad_of shares
    go None ih = ih
    go (Some moment) ih = ap (λ xs. item.Bad share.peer moment ∷ xs) ih

-- ---- all that was taken

module _ (tells : Type 0) (set : Setting) (span : Span) (taken : Taken) (some : 0 < set.shape.copies) (h : HasEvened tells set span taken) (shares : length taken.shares ≡ set.shape.shards) (logs : length taken.logs ≡ set.shape.shards * set.shape.copies) (ticks : span.before ≤ span.now) where
  abbrev pub count : ℕ
  count = set.shape.shards * set.shape.copies

  abbrev pub home : ℕ → ℕ
  home peer = home_of set.shape peer

  -- whose log is taken of a shard
  abbrev pub first : ℕ → ℕ
  first shard = (share_at taken shard).peer

  abbrev pub Has : ℕ → Type 0
  Has shard = HasShard tells set span taken shard

  pub has : (shard : ℕ) → shard < set.shape.shards → Has shard
  has shard low = h.each shard (omega (arith, low, shares))

  -- the log that was read of a peer
  abbrev pub logs_by : (shard : ℕ) → (shard < set.shape.shards) ⊎ (set.shape.shards ≤ shard) → ℕ → Option Numbered
  logs_by shard (inl low) = (has shard low).logs
  logs_by shard (inr high) = λ peer. None

  abbrev pub log_of : ℕ → Option Numbered
  log_of peer = logs_by (home peer) (cases_lt (home peer) set.shape.shards) peer

  -- a shard, with the logs of its peers
  pub record Shard (shard : ℕ) : Type 0 where
    pub is : Has shard
    pub same : (peer : ℕ) → home peer ≡ shard → log_of peer ≡ is.logs peer

  pub shard_at : (shard : ℕ) → shard < set.shape.shards → Shard shard
  shard_at shard low = record { is = (go (cases_lt shard set.shape.shards)).0; same = λ peer at. ap (λ k. logs_by k (cases_lt k set.shape.shards) peer) at ∙ (go (cases_lt shard set.shape.shards)).1 peer }
    where
      go : (o : (shard < set.shape.shards) ⊎ (set.shape.shards ≤ shard)) → (x : Has shard) × ((peer : ℕ) → logs_by shard o peer ≡ x.logs peer)
      go (inl below) = (has shard below, λ peer. refl)
      go (inr high) = absurd (omega (arith, low, high))

  abbrev pub found : Found
  found = record { logs = map log_of (range_with_len 0 count); lost = all_lost taken; good = map (λ log. is_some log) taken.logs; opened = span.now }

  pub log_there : (peer : ℕ) → peer < count → slice_index_or (map log_of (range_with_len 0 count)) peer None ≡ log_of peer
  log_there peer low = get_or-map-range_with_len log_of 0 count peer peer None low (omega arith)

  pub good_is : (peer : ℕ) → starts_good found peer ≡ is_some (log_at taken.logs peer)
  good_is peer = some_at taken.logs peer

  pub of_home : (peer : ℕ) → IsOf set.shape (home peer) peer
  of_home peer = record { from = home_low set.shape peer; to = home_high set.shape peer some }

  pub home_is : (shard peer : ℕ) → IsOf set.shape shard peer → home peer ≡ shard
  home_is shard peer of = home_between set.shape shard peer of.from of.to

  pub shard_low : (peer : ℕ) → peer < count → home peer < set.shape.shards
  shard_low peer low = home_within set.shape peer some low

  -- its peers are peers
  pub peer_low : (shard peer : ℕ) → shard < set.shape.shards → IsOf set.shape shard peer → peer < count
  peer_low shard peer low of =
      let m : (shard + 1) * set.shape.copies ≤ set.shape.shards * set.shape.copies = more (shard + 1) set.shape.shards (omega (arith, low)) in
      let to = of.to in
      let d : (shard + 1) * set.shape.copies ≡ shard * set.shape.copies + set.shape.copies = one_more shard set.shape.copies in
      omega (arith, m, to, d)
    where
      more : (a b : ℕ) → a ≤ b → a * set.shape.copies ≤ b * set.shape.copies
      more a b up = mul-le-mul_right set.shape.copies up

      one_more : (a c : ℕ) → (a + 1) * c ≡ a * c + c
      one_more a c = let e : a + 1 ≡ suc a = omega arith in ap (λ k. k * c) e ∙ suc-mul a c

  -- ---- one shard

  module _ (s : ℕ) (low : s < set.shape.shards) where
    abbrev pub x : Shard s
    x = shard_at s low

    abbrev pub k : ℕ
    k = first s

    -- its taken log
    abbrev pub top : Option Numbered
    top = x.is.logs k

    pub of_first : IsOf set.shape s k
    of_first = x.is.first.home

    pub log_at_peer : (peer : ℕ) → IsOf set.shape s peer → log_of peer ≡ x.is.logs peer
    log_at_peer peer of = x.same peer (home_is s peer of)

    pub found_log : (peer : ℕ) → IsOf set.shape s peer → slice_index_or found.logs peer None ≡ x.is.logs peer
    found_log peer of = log_there peer (peer_low s peer low of) ∙ log_at_peer peer of

    -- no log, no list
    abbrev pub list_of : ℕ → Numbered
    list_of peer = unwrap_or (x.is.logs peer) []

    pub none_at_all : top ≡ None → (peer : ℕ) → IsOf set.shape s peer → x.is.logs peer ≡ None
    none_at_all none peer of = go (x.is.logs peer) refl
      where
        go : (o : Option Numbered) → x.is.logs peer ≡ o → x.is.logs peer ≡ None
        go None is = is
        go (Some list) is = absurd (false_is_not (sym (ap is_some none) ∙ x.is.first.some peer of (ap is_some is)))

    pub best : (peer : ℕ) → IsOf set.shape s peer → outranks (rank_of (list_of peer)) (rank_of (list_of k)) ≡ false
    best peer of = go (x.is.logs peer) top refl refl
      where
        go : (o t : Option Numbered) → x.is.logs peer ≡ o → top ≡ t → outranks (rank_of (list_of peer)) (rank_of (list_of k)) ≡ false
        go None t is there = ap (λ (l : Numbered). outranks (rank_of l) (rank_of (list_of k))) (ap (λ (o : Option Numbered). unwrap_or o []) is) ∙ none_below (rank_of (list_of k))
        go (Some list) None is there = absurd (none_is_not list (sym (none_at_all there peer of) ∙ is))
        go (Some list) (Some t) is there =
            (λ i. outranks (rank_of (unwrap_or (is i) [])) (rank_of (unwrap_or (there i) []))) ∙ x.is.first.best peer of list t is there

    pub earlier : (peer : ℕ) → IsOf set.shape s peer → peer < k → (outranks (rank_of (list_of k)) (rank_of (list_of peer)) ≡ true) ⊎ (list_of peer ≡ list_of k)
    earlier peer of before = go (x.is.logs peer) top refl refl
      where
        list_is : (q : ℕ) (o : Option Numbered) → x.is.logs q ≡ o → list_of q ≡ unwrap_or o []
        list_is q o is = ap (λ (p : Option Numbered). unwrap_or p []) is

        go : (o t : Option Numbered) → x.is.logs peer ≡ o → top ≡ t → (outranks (rank_of (list_of k)) (rank_of (list_of peer)) ≡ true) ⊎ (list_of peer ≡ list_of k)
        go None None is there = inr (list_is peer None is ∙ sym (list_is k None there))
        go None (Some t) is there = elim (above_or_least (rank_of t)) [
          | inl above ↦ inl ((λ i. outranks (rank_of (list_is k (Some t) there i)) (rank_of (list_is peer None is i))) ∙ above)
          | inr least ↦ inr (list_is peer None is ∙ sym (x.is.blank t there least) ∙ sym (list_is k (Some t) there))
        ]
        go (Some list) None is there = absurd (none_is_not list (sym (none_at_all there peer of) ∙ is))
        go (Some list) (Some t) is there = inl ((λ i. outranks (rank_of (list_is k (Some t) there i)) (rank_of (list_is peer (Some list) is i))) ∙ x.is.first.first peer of before list t is there)

    -- the list that is taken is its list
    pub list_is : taken_list set.shape found.logs s ≡ list_of k
    list_is =
        chosen_at set.shape.shards s set.shape.copies (or_blank found.logs) low
        ∙ ap chosen lists
        ∙ chosen_is list_of (peer_of set.shape s 0) set.shape.copies k of_first.from of_first.to (λ j l u. best j (record { from = l; to = u })) (λ j l u. earlier j (record { from = l; to = let f = of_first.to in omega (arith, u, f) }) u)
      where
        blank_log : Option Numbered → Numbered
        blank_log o = unwrap_or o []

        from_is : 0 + s * set.shape.copies ≡ peer_of set.shape s 0
        from_is = omega arith

        within : s * set.shape.copies + set.shape.copies ≤ count
        within = let last = peer_low s (peer_of set.shape s 0 + (set.shape.copies - 1)) low (record { from = omega arith; to = omega (arith, some) }) in omega (arith, last, some)

        lists : take set.shape.copies (drop (s * set.shape.copies) (or_blank found.logs)) ≡ map list_of (range_with_len (peer_of set.shape s 0) set.shape.copies)
        lists =
            ap (λ xs. take set.shape.copies (drop (s * set.shape.copies) xs)) (map_twice (λ (o : Option Numbered). unwrap_or o []) log_of (range_with_len 0 count))
            ∙ ap (take set.shape.copies) (drop_map (λ p. unwrap_or (log_of p) []) (s * set.shape.copies) (range_with_len 0 count))
            ∙ take_map (λ p. unwrap_or (log_of p) []) set.shape.copies (drop (s * set.shape.copies) (range_with_len 0 count))
            ∙ ap (λ xs. map (λ p. unwrap_or (log_of p) []) (take set.shape.copies xs)) (drop_range (s * set.shape.copies) 0 count)
            ∙ ap (map (λ p. unwrap_or (log_of p) [])) (take_range set.shape.copies (0 + s * set.shape.copies) (count - s * set.shape.copies) (omega (arith, within)))
            ∙ ap (λ n. map (λ p. unwrap_or (log_of p) []) (range_with_len n set.shape.copies)) from_is
            ∙ map_same (λ p. unwrap_or (log_of p) []) list_of (peer_of set.shape s 0) set.shape.copies (λ j l u. ap (λ (o : Option Numbered). unwrap_or o []) (log_at_peer j (record { from = l; to = u })))

    pub best_is : (peer : ℕ) → IsOf set.shape s peer → is_best set.shape found.logs s peer ≡ option_map_or (λ log. not (outranks (rank_of (list_of k)) (rank_of log))) (x.is.logs peer) false
    best_is peer of = λ i. option_map_or (λ log. not (outranks (rank_of (list_is i)) (rank_of log))) (found_log peer of i) false

    pub peer_is : taken_peer set.shape found.logs s ≡ option_map (λ (list : Numbered). k) top
    peer_is = go top refl
      where
        go : (t : Option Numbered) → top ≡ t → taken_peer set.shape found.logs s ≡ option_map (λ (list : Numbered). k) top
        go None there =
            find_none (is_best set.shape found.logs s) (peer_of set.shape s 0) set.shape.copies
            (λ j l u. let of : IsOf set.shape s j = record { from = l; to = u } in best_is j of ∙ ap (λ (o : Option Numbered). option_map_or (λ log. not (outranks (rank_of (list_of k)) (rank_of log))) o false) (none_at_all there j of))
            ∙ ap (option_map (λ (list : Numbered). k)) (sym there)
        go (Some t) there =
            find_first (is_best set.shape found.logs s) (peer_of set.shape s 0) set.shape.copies k of_first.from of_first.to
            (best_is k of_first ∙ (λ i. option_map_or (λ log. not (outranks (rank_of (unwrap_or (there i) [])) (rank_of log))) (there i) false) ∙ ap not (none_above (rank_of t)))
            (λ j l u. let of : IsOf set.shape s j = record { from = l; to = let f = of_first.to in omega (arith, u, f) } in best_is j of ∙ not_best t there j of u)
            ∙ ap (option_map (λ (list : Numbered). k)) (sym there)
          where
            not_best : (t : Numbered) → top ≡ Some t → (j : ℕ) (of : IsOf set.shape s j) → j < k → option_map_or (λ log. not (outranks (rank_of (list_of k)) (rank_of log))) (x.is.logs j) false ≡ false
            not_best t there j of u = by (x.is.logs j) refl
              where
                by : (o : Option Numbered) → x.is.logs j ≡ o → option_map_or (λ log. not (outranks (rank_of (list_of k)) (rank_of log))) (x.is.logs j) false ≡ false
                by None is = ap (λ (o : Option Numbered). option_map_or (λ log. not (outranks (rank_of (list_of k)) (rank_of log))) o false) is
                by (Some list) is =
                    (λ i. option_map_or (λ log. not (outranks (rank_of (unwrap_or (there i) [])) (rank_of log))) (is i) false)
                    ∙ ap not (x.is.first.first j of u list t is there)

    pub opened_is : opened_list set found s ≡ begun_list set.shape taken top s
    opened_is = λ i. if any_same (starts_good found) (λ peer. is_some (log_at taken.logs peer)) (peers_of set.shape s) good_is i then list_is i else []

    -- where one of its logs is in use
    pub opened_kept : (peer : ℕ) → IsOf set.shape s peer → is_some (log_at taken.logs peer) ≡ true → opened_list set found s ≡ list_of k
    opened_kept peer of kept = opened_is ∙ ap (λ b. if b then list_of k else []) (any_there (λ p. is_some (log_at taken.logs p)) (peer_of set.shape s 0) set.shape.copies peer of.from of.to kept)

    pub catalogue_is : (share_at taken s).catalogue ≡ opened_catalogue set found s
    catalogue_is = x.is.catalogue ∙ ap (apply_all set.name (empty_catalogue set.shape s)) (sym opened_is)

    pub rank_is : (share_at taken s).rank ≡ rank_of (opened_list set found s)
    rank_is = x.is.rank ∙ ap rank_of (sym opened_is)

    pub took_some : is_some (share_at taken s).took ≡ is_some top
    took_some = ap is_some x.is.took ∙ some_mapped top

  pub opens_so : opens_with set found ≡ opened_with taken
  opens_so = λ i. record { catalogues = catalogues i; views = views i; lengths = lengths i; good = map (λ log. is_some log) taken.logs }
    where
      catalogues : map (opened_catalogue set found) (range_with_len 0 set.shape.shards) ≡ map (λ share. share.catalogue) taken.shares
      catalogues = sym (fill_by_all (opened_catalogue set found) (map (λ (share : Share). share.catalogue) taken.shares) set.shape.shards (empty_catalogue set.shape 0) (length-map taken.shares (λ (share : Share). share.catalogue) ∙ shares)
          (λ k low. get_or-map (λ (share : Share). share.catalogue) taken.shares k no_share (empty_catalogue set.shape 0) (omega (arith, low, shares)) ∙ catalogue_is k low))

      views : map (λ shard. (rank_of (opened_list set found shard)).view) (range_with_len 0 set.shape.shards) ≡ map (λ share. share.rank.view) taken.shares
      views = sym (fill_by_all (λ shard. (rank_of (opened_list set found shard)).view) (map (λ (share : Share). share.rank.view) taken.shares) set.shape.shards 0 (length-map taken.shares (λ (share : Share). share.rank.view) ∙ shares)
          (λ k low. get_or-map (λ (share : Share). share.rank.view) taken.shares k no_share 0 (omega (arith, low, shares)) ∙ ap (λ (r : Rank). r.view) (rank_is k low)))

      lengths : map (λ shard. (rank_of (opened_list set found shard)).number) (range_with_len 0 set.shape.shards) ≡ map (λ share. share.rank.number) taken.shares
      lengths = sym (fill_by_all (λ shard. (rank_of (opened_list set found shard)).number) (map (λ (share : Share). share.rank.number) taken.shares) set.shape.shards 0 (length-map taken.shares (λ (share : Share). share.rank.number) ∙ shares)
          (λ k low. get_or-map (λ (share : Share). share.rank.number) taken.shares k no_share 0 (omega (arith, low, shares)) ∙ ap (λ (r : Rank). r.number) (rank_is k low)))

  -- ---- how the course begins

  pub taken_is : (p : ℕ) (low : p < count) → is_taken set.shape found.logs p ≡ (is_some (share_at taken (home p)).took && first (home p) == p)
  taken_is p low =
      ap (λ (o : Option ℕ). option_map_or (λ q. q == p) o false) (peer_is (home p) (shard_low p low))
      ∙ go (top (home p) (shard_low p low)) ∙ ap (λ b. b && first (home p) == p) (sym (took_some (home p) (shard_low p low)))
    where
      go : (o : Option Numbered) → option_map_or (λ q. q == p) (option_map (λ (list : Numbered). first (home p)) o) false ≡ (is_some o && first (home p) == p)
      go None = refl
      go (Some list) = refl

  pub took_is : (p : ℕ) (low : p < count) → is_took set.shape taken.shares p ≡ is_taken set.shape found.logs p
  took_is p low =
      ap (λ (o : Option Share). option_map_or (λ share. is_some share.took && share.peer == p) o false) (get_there taken.shares (home p) no_share (let b = shard_low p low in omega (arith, b, shares)))
      ∙ sym (taken_is p low)

  module _ (entry : ℕ) where
    pub piece : (s : ℕ) (low : s < set.shape.shards) → items_for set.shape found.logs entry s (taken_peer set.shape found.logs s) ≡ took_of entry (share_at taken s)
    piece s low = ap (items_for set.shape found.logs entry s) (peer_is s low) ∙ from (top s low) (list_is s low) refl ∙ sym right
      where
        items : ℕ → ℕ → Option ℕ → List CourseItem
        items peer shard o = option_map_or (λ number. item.Good peer entry ∷ item.Took shard number entry ∷ []) o []

        from : (o : Option Numbered) → taken_list set.shape found.logs s ≡ list_of s low (first s) → top s low ≡ o → items_for set.shape found.logs entry s (option_map (λ (list : Numbered). first s) o) ≡ items (first s) s (option_map (λ (list : Numbered). (rank_of list).number) o)
        from None e is = refl
        from (Some list) e is = ap (λ (l : Numbered). item.Good (first s) entry ∷ item.Took s (rank_of l).number entry ∷ []) (e ∙ ap (λ (o : Option Numbered). unwrap_or o []) is)

        right : took_of entry (share_at taken s) ≡ items (first s) s (option_map (λ (list : Numbered). (rank_of list).number) (top s low))
        right = λ i. items (first s) ((shard_at s low).is.shard_is i) ((shard_at s low).is.took i)

    pub tooks : taken_items set.shape found.logs entry ≡ flat_map (took_of entry) taken.shares
    tooks =
        flat_same (λ s. items_for set.shape found.logs entry s (taken_peer set.shape found.logs s)) (λ s. took_of entry (share_at taken s)) 0 set.shape.shards (λ k low high. piece k (omega (arith, high)))
        ∙ sym (flat_map-map (took_of entry) (share_at taken) (range_with_len 0 set.shape.shards))
        ∙ ap (flat_map (took_of entry)) (sym (fill_by_all (share_at taken) taken.shares set.shape.shards no_share shares (λ k low. refl)))

    -- each other good peer
    pub other : (p : ℕ) → p < count → change_item (is_taken set.shape found.logs p) (is_taken set.shape found.logs p || starts_good found p) p span.now ≡ good_of set.shape taken span.now p
    other p low =
        ap (λ g. change_item (is_taken set.shape found.logs p) (is_taken set.shape found.logs p || g) p span.now) (good_is p)
        ∙ ap (λ b. change_item b (b || is_some (log_at taken.logs p)) p span.now) (sym (took_is p low))
        ∙ go (is_took set.shape taken.shares p) (is_some (log_at taken.logs p))
      where
        go : (b g : Bool) → change_item b (b || g) p span.now ≡ (if g && not b then item.Good p span.now ∷ [] else [])
        go true true = refl
        go true false = refl
        go false true = refl
        go false false = refl

    pub goods : flat_map (λ peer. change_item (is_taken set.shape found.logs peer) (is_taken set.shape found.logs peer || starts_good found peer) peer span.now) (all_peers set.shape) ≡ flat_map (good_of set.shape taken span.now) (all_peers set.shape)
    goods = flat_same (λ peer. change_item (is_taken set.shape found.logs peer) (is_taken set.shape found.logs peer || starts_good found peer) peer span.now) (good_of set.shape taken span.now) 0 count (λ k low high. other k (omega (arith, high)))

    pub begins_so : first_items set.shape found entry ≡ begun_course set.shape entry span.now taken
    begins_so = λ i. tooks i ++ (bad_items taken.shares i ++ goods i)

  -- ---- of one peer

  module _ (peer : ℕ) (low : peer < count) where
    abbrev old : DiskSeen
    old = seen_at span.old peer

    abbrev new : DiskSeen
    new = seen_at span.new peer

    abbrev slot : Option Keeping
    slot = log_at taken.logs peer

    abbrev s : ℕ
    s = home peer

    pub s_low : s < set.shape.shards
    s_low = shard_low peer low

    pub copy : IsCopy tells span.before span.now old new ((shard_at s s_low).is.logs peer) (list_of s s_low (first s)) slot (is_some (share_at taken s).lost)
    copy = (shard_at s s_low).is.each peer (of_home peer)

    pub log_here : slice_index_or found.logs peer None ≡ (shard_at s s_low).is.logs peer
    log_here = found_log s s_low peer (of_home peer)

    pub read : tells → (slice_index_or found.logs peer None ≡ list_in old.stands.seen) ⊎ ((slice_index_or found.logs peer None ≡ None) × HasRisen old.faults new.faults)
    read told = elim (copy.read told) [
      | inl same ↦ inl (log_here ∙ same)
      | inr failed ↦ inr (log_here ∙ failed.0, failed.1)
    ]

    pub has_log : starts_good found peer ≡ true → IsSome (slice_index_or found.logs peer None)
    has_log good = ap is_some log_here ∙ copy.kept (sym (good_is peer) ∙ good)

    pub left : is_some (share_at taken s).lost ≡ true → IsLeftBehind set found peer
    left lost =
        let there = h.all s (let b = s_low in omega (arith, b, shares)) lost in
        record { lost = (first s, there.0); among = there.1; same_shard = home_is s (first s) (of_first s s_low) }

    pub aside : starts_good found peer ≡ false → HasRisen old.faults new.faults ⊎ ((slice_index_or found.logs peer None ≡ None) ⊎ IsLeftBehind set found peer)
    aside bad = elim (copy.aside (not_some slot (sym (good_is peer) ∙ bad))) [
      | inl none ↦ inr (inl (log_here ∙ none))
      | inr why ↦ elim why [
        | inl rose ↦ inl rose
        | inr lost ↦ inr (inr (left lost))
      ]
    ]

    pub opened_here : (keeping : Keeping) → slot ≡ Some keeping → opened_list set found s ≡ list_of s s_low (first s)
    opened_here keeping at = opened_kept s s_low peer (of_home peer) (ap is_some at)

    pub log : tells → old.stands.last ≤ span.before → (keeping : Keeping) → slot ≡ Some keeping → HasLog keeping new.stands (opened_list set found s) None
    log told last keeping at = subst (λ l. HasLog keeping new.stands l None) (sym (opened_here keeping at)) (copy.has told last keeping at)

    -- ---- with one copy

    module _ (one : set.shape.copies ≡ 1) where
      pub first_is : first s ≡ peer
      first_is =
          let a = (of_first s s_low).from in let b = (of_first s s_low).to in
          let c = (of_home peer).from in let d = (of_home peer).to in
          omega (arith, a, b, c, d, one)

      -- the list of a log that is in use
      pub read_as : (keeping : Keeping) → slot ≡ Some keeping → tells → list_in old.stands.seen ≡ Some (opened_list set found s)
      read_as keeping at told = elim (copy.read told) [
        | inl same ↦ by ((shard_at s s_low).is.logs peer) refl same
        | inr failed ↦ absurd (false_is_not (sym (ap is_some failed.0) ∙ copy.kept (ap is_some at)))
      ]
        where
          by : (o : Option Numbered) → (shard_at s s_low).is.logs peer ≡ o → (shard_at s s_low).is.logs peer ≡ list_in old.stands.seen → list_in old.stands.seen ≡ Some (opened_list set found s)
          by None is same = absurd (false_is_not (sym (ap is_some is) ∙ copy.kept (ap is_some at)))
          by (Some list) is same =
              sym same ∙ is ∙ ap (λ (l : Numbered). Some l) (sym (opened_here keeping at ∙ ap (list_of s s_low) first_is ∙ ap (λ (o : Option Numbered). unwrap_or o []) is))

      pub reads : tells → (keeping : Keeping) → slot ≡ Some keeping → IsKept keeping (new.stands.seen keeping.log.side) (opened_list set found s) None
      reads told keeping at =
          subst (λ l. IsKept keeping (new.stands.seen keeping.log.side) l None) (sym (opened_here keeping at))
          (copy.reads told keeping at (read_as keeping at told ∙ ap (λ (l : Numbered). Some l) (opened_here keeping at)))

    -- ---- at each moment

    leaves : LeavesBy tells span.before span.now old new (IsHadOrFront (taken_list set.shape found.logs s))
    leaves = subst (λ l. LeavesBy tells span.before span.now old new (IsHadOrFront l)) (sym (list_is s s_low)) ((shard_at s s_low).is.leaves.others peer (of_home peer))

    its_own : is_taken set.shape found.logs peer ≡ true → LeavesBy tells span.before span.now old new IsAny
    its_own there =
        let parts = both_true (is_some (share_at taken s).took) (first s == peer) (sym (taken_is peer low) ∙ there) in
        subst (λ p. LeavesBy tells span.before span.now (seen_at span.old p) (seen_at span.new p) IsAny) (eqb-true (first s) peer parts.1) (shard_at s s_low).is.leaves.taken

    pub is_found : IsFound tells set span found taken.logs peer
    is_found = record {
      read = read;
      good = good_is peer;
      kept = has_log;
      aside = aside;
      calm = λ good. copy.calm (sym (good_is peer) ∙ good);
      log = log;
      reads = reads;
      past = copy.disk.past;
      disk = λ one. subst (λ p. KeepsDisk tells span.before span.now (seen_at span.old p) (seen_at span.new p)) (first_is one) (shard_at s s_low).is.disk;
      leaves = leaves;
      taken = its_own;
    }

    pub all_here : is_taken set.shape found.logs peer ≡ true → starts_good found peer ≡ false → (moment : ℕ) × Contains (all_lost taken) (peer, moment)
    all_here there bad =
        let parts = both_true (is_some (share_at taken s).took) (first s == peer) (sym (taken_is peer low) ∙ there) in
        let same : first s ≡ peer = eqb-true (first s) peer parts.1 in
        let gone : is_some (log_at taken.logs (first s)) ≡ false = ap (λ p. is_some (log_at taken.logs p)) same ∙ sym (good_is peer) ∙ bad in
        let lost : is_some (share_at taken s).lost ≡ true = (shard_at s s_low).is.lost ∙ (λ i. parts.0 i && not (gone i)) in
        let found_lost = h.all s (let b = s_low in omega (arith, b, shares)) lost in
        (found_lost.0, subst (λ p. Contains (all_lost taken) (p, found_lost.0)) same found_lost.1)

  -- ---- all of it

  pub was_read : (one : set.shape.copies ≡ 1) (peer : ℕ) → peer < count → (keeping : Keeping) → log_at taken.logs peer ≡ Some keeping → tells → list_in (seen_at span.old peer).stands.seen ≡ Some (opened_list set found (home peer))
  was_read one peer low = read_as peer low one

  pub lost_log : (x : ℕ × ℕ) → IsLostOf tells span taken x → IsLostLog tells set span found x
  lost_log x is = record {
    taken = taken_is x.0 low ∙ (λ i. parts.0 i && here i);
    bad = good_is x.0 ∙ ap (λ p. is_some (log_at taken.logs p)) is.peer ∙ not_true (is_some (log_at taken.logs (first is.shard))) parts.1;
    later = is.later;
    up_to = is.up_to;
    disk = is.disk;
  }
    where
      within : is.shard < set.shape.shards
      within = let w = is.within in omega (arith, w, shares)

      of : IsOf set.shape is.shard x.0
      of = subst (λ p. IsOf set.shape is.shard p) (sym is.peer) (of_first is.shard within)

      low : x.0 < count
      low = peer_low is.shard x.0 within of

      at : home x.0 ≡ is.shard
      at = home_is is.shard x.0 of

      whole : (is_some (share_at taken is.shard).took && not (is_some (log_at taken.logs (first is.shard)))) ≡ true
      whole = sym (shard_at is.shard within).is.lost ∙ ap is_some is.lost

      parts_there : (is_some (share_at taken is.shard).took ≡ true) × (not (is_some (log_at taken.logs (first is.shard))) ≡ true)
      parts_there = both_true (is_some (share_at taken is.shard).took) (not (is_some (log_at taken.logs (first is.shard)))) whole

      parts : (is_some (share_at taken (home x.0)).took ≡ true) × (not (is_some (log_at taken.logs (first is.shard))) ≡ true)
      parts = (ap (λ k. is_some (share_at taken k).took) at ∙ parts_there.0, parts_there.1)

      here : (first (home x.0) == x.0) ≡ true
      here = eq-eqb (first (home x.0)) x.0 (ap first at ∙ sym is.peer)

  pub finds : Finds tells set span found taken.logs
  finds = record {
    logs = length-map-range_with_len log_of 0 count;
    goods = length-map taken.logs (λ (log : Option Keeping). is_some log) ∙ logs;
    opened = refl;
    later = ticks;
    each = λ peer low. is_found peer low;
    lost = λ x among. lost_log x (h.lost x among);
    once = h.once;
    all_lost = λ peer low there bad. all_here peer low there bad;
  }
