-- Whom opening set aside, with any number of copies, where the core goes on: each peer that is not good then, but the peers of the taken logs.
use Rattle.std.proofs.Common.{◌≡◌, ◌∙◌, ap, sym, subst, ℕ, zero, suc, ◌+◌, ◌*◌, ◌<◌, ◌≤◌, ◌==◌, ◌&&◌, ◌||◌, not, Bool, true, false, List, [], ◌∷◌, ◌++◌, Option, Some, None, refl, length, map, take, arith, append_assoc, if◌then◌else◌}
use Rattle.std.proofs.lemmas.Bool.{eq-eqb, eqb-true, false≢true}
use Rattle.std.specs.List.{AllByRecursion, list_any, range_with_len}
use Rattle.std.specs.Option.{option_map_or}
use Rattle.std.specs.Prelude.{IsSome, flat_map, slice_index_or, unwrap_or}
use Rattle.hs_clauses.proofs.GreatestLemmas.{FoundFirst, taken_there}
use Rattle.hs_clauses.proofs.ListLemmas.{some_there}
use Rattle.hs_clauses.proofs.RowLemmas.{all_flat, bads_others, change_others, late_items, none_of, others_below, rows, rows_begin, rows_good, rows_other, taken_rows}
use Rattle.hs_clauses.proofs.ToldDownLemmas.{any_left, down_note, told_opening, told_steps}
use Rattle.hs_cluster.proofs.TakenLemmas.{home_between, home_within}
use Rattle.hs_core_copies.proofs.OpeningLemmas.{first_none}
use Rattle.hs_core_words.specs.Opening.{first_members}
use Rattle.hs_entry.specs.Entries.{rank_of}
use Rattle.hs_events.specs.Beginning.{first_items}
use Rattle.hs_events.specs.Course.{change_item, items_of}
use Rattle.hs_events.specs.Found.{Found, first_core, opens_with, starts_good}
use Rattle.hs_events.specs.Taken.{is_best, is_taken, taken_items, taken_list, taken_peer}
use Rattle.hs_fold.specs.Opened.{outranks}
use Rattle.hs_fold.specs.Shards.Course.{begins, is_good_below, is_good_of, was_good}
use Rattle.hs_fold.specs.Shards.Setting.{Numbered}
use Rattle.hs_journal.specs.declared.entry.JournalEntry.{JournalEntry}
use Rattle.hs_limits.specs.declared.limits.PeerStatus.TheVariants.{Down, Good}
use Rattle.hs_limits.specs.Shape.{IsShape, peer_of}
use Rattle.hs_members.specs.Members.{all_peers, has_good, home_of, is_good_status, peers_of, status}
use Rattle.hs_model.specs.declared.course.CourseItem.{CourseItem}
use Rattle.hs_model.specs.declared.course.CourseItem.TheVariants as item
use Rattle.hs_promise.specs.Entry.{is_aside, tells_aside}
use Rattle.hs_promise.specs.Machine.{Went}
use Rattle.hs_promise.specs.Run.{Ran, Script}
use Rattle.hs_promise.specs.Story.{Story, all_events}
use Rattle.hs_standing.proofs.AllLemmas.{all_append}

-- ---- who is good as the core opens

flag_is : (goods : List Bool) (x : ℕ) → is_good_status (slice_index_or (map (λ (b : Bool). if b then Good else Down) goods) x Down) ≡ slice_index_or goods x false
flag_is [] x = refl
flag_is (true ∷ goods) zero = refl
flag_is (false ∷ goods) zero = refl
flag_is (b ∷ goods) (suc x) = flag_is goods x

any_same : (p q : ℕ → Bool) (xs : List ℕ) → ((k : ℕ) → p k ≡ q k) → list_any p xs ≡ list_any q xs
any_same p q [] h = refl
any_same p q (x ∷ xs) h = λ i. h x i || any_same p q xs h i

-- what some passes there is
pub record Passes (p : ℕ → Bool) (k n : ℕ) : Type 0 where
  pub at : ℕ
  pub from : k ≤ at
  pub to : at < k + n
  pub is : p at ≡ true

pub passes_some : (p : ℕ → Bool) (k n : ℕ) → list_any p (range_with_len k n) ≡ true → Passes p k n
passes_some p k zero e = absurd (false≢true e)
passes_some p k (suc n) e = go (λ rest. passes_some p (k + 1) n rest) (p k) refl e
  where
    go : (list_any p (range_with_len (k + 1) n) ≡ true → Passes p (k + 1) n) → (b : Bool) → p k ≡ b → (b || list_any p (range_with_len (k + 1) n)) ≡ true → Passes p k (suc n)
    go again true is e = record { at = k; from = omega arith; to = omega arith; is = is }
    go again false is e =
        let later : Passes p (k + 1) n = again e in
        let f = later.from in
        let t = later.to in
        record { at = later.at; from = omega (arith, f); to = omega (arith, t); is = later.is }

-- ---- the beginning of its course

-- of each shard the log of one of its peers is taken
abbrev pub EachTaken : Script → Found → Type 0
EachTaken S found = (shard : ℕ) → shard < S.set.shape.shards → FoundFirst (is_best S.set.shape found.logs shard) (peer_of S.set.shape shard 0) S.set.shape.copies

-- who is good in its first core
pub status_is : (S : Script) (found : Found) (p : ℕ) → is_good_status (status p (first_members S.set.shape (opens_with S.set found))) ≡ starts_good found p
status_is S found p = flag_is found.good p

-- so it is where the core goes on
module _ (S : Script) (found : Found) (shape : IsShape S.set.shape) (count : length found.logs ≡ S.set.shape.shards * S.set.shape.copies) (kept : (peer : ℕ) → starts_good found peer ≡ true → IsSome (slice_index_or found.logs peer None)) (going : (first_core S.set found).ended ≡ None) where
  -- each shard has a good peer
  pub some_good : (shard : ℕ) → shard < S.set.shape.shards → list_any (starts_good found) (peers_of S.set.shape shard) ≡ true
  some_good shard low = go (has_good shard (first_members S.set.shape (opens_with S.set found))) refl
    where
      go : (b : Bool) → has_good shard (first_members S.set.shape (opens_with S.set found)) ≡ b → list_any (starts_good found) (peers_of S.set.shape shard) ≡ true
      go true e =
          sym (any_same (λ p. is_good_status (status p (first_members S.set.shape (opens_with S.set found)))) (starts_good found) (peers_of S.set.shape shard) (status_is S found)) ∙ e
      go false e = absurd (first_none S.set.shape S.set.limits (opens_with S.set found) found.opened shard low e going)

  -- so the log of one of its peers is taken
  pub each_taken : EachTaken S found
  each_taken shard low =
      let good : Passes (starts_good found) (peer_of S.set.shape shard 0) S.set.shape.copies = passes_some (starts_good found) (peer_of S.set.shape shard 0) S.set.shape.copies (some_good shard low) in
      let log : (list : Numbered) × (slice_index_or found.logs good.at None ≡ Some list) = some_there (slice_index_or found.logs good.at None) (kept good.at good.is) in
      taken_there S.set.shape found.logs count shard low good.at log.0 good.from good.to log.1

module _ (S : Script) (found : Found) (shape : IsShape S.set.shape) (taken_of : EachTaken S found) where
  -- that peer, as a function of the shard
  abbrev pub peer_in : ℕ → ℕ
  peer_in shard = unwrap_or (taken_peer S.set.shape found.logs shard) 0

  pub peer_is : (shard : ℕ) (low : shard < S.set.shape.shards) → peer_in shard ≡ (taken_of shard low).at
  peer_is shard low = ap (λ (o : Option ℕ). unwrap_or o 0) (taken_of shard low).is

  pub taken_some : (shard : ℕ) → shard < S.set.shape.shards → taken_peer S.set.shape found.logs shard ≡ Some (peer_in shard)
  taken_some shard low = (taken_of shard low).is ∙ ap (λ n. Some n) (sym (peer_is shard low))

  -- it is of its shard
  pub home_in : (shard : ℕ) → shard < S.set.shape.shards → home_of S.set.shape (peer_in shard) ≡ shard
  home_in shard low =
      let t : FoundFirst (is_best S.set.shape found.logs shard) (peer_of S.set.shape shard 0) S.set.shape.copies = taken_of shard low in
      ap (home_of S.set.shape) (peer_is shard low) ∙ home_between S.set.shape shard t.at t.from t.to

  -- a peer whose log is not taken is none of them
  pub not_taken : (p shard : ℕ) → is_taken S.set.shape found.logs p ≡ false → shard < S.set.shape.shards → peer_in shard ≡ p → ⊥
  not_taken p shard untaken low same =
      let home : home_of S.set.shape p ≡ shard = ap (home_of S.set.shape) (sym same) ∙ home_in shard low in
      let taken : is_taken S.set.shape found.logs p ≡ true =
      ap (λ g. option_map_or (λ q. q == p) (taken_peer S.set.shape found.logs g) false) home
      ∙ ap (λ (o : Option ℕ). option_map_or (λ q. q == p) o false) (taken_some shard low) ∙ eq-eqb (peer_in shard) p same in
      false≢true (sym untaken ∙ taken)

  -- and one whose log is, is that of its shard
  pub is_peer_in : (p : ℕ) → p < S.set.shape.shards * S.set.shape.copies → is_taken S.set.shape found.logs p ≡ true → peer_in (home_of S.set.shape p) ≡ p
  is_peer_in p low taken =
      let within : home_of S.set.shape p < S.set.shape.shards = home_within S.set.shape p (let c = shape.some_copy in omega (arith, c)) low in
      eqb-true (peer_in (home_of S.set.shape p)) p (sym (ap (λ (o : Option ℕ). option_map_or (λ q. q == p) o false) (taken_some (home_of S.set.shape p) within)) ∙ taken)

  no_log : (o : Option Numbered) (test : Numbered → Bool) → option_map_or test o false ≡ true → o ≡ None → ⊥
  no_log None test h e = false≢true h
  no_log (Some list) test h e = cc e

  -- a taken log is there
  pub taken_log : (p : ℕ) → p < S.set.shape.shards * S.set.shape.copies → is_taken S.set.shape found.logs p ≡ true → slice_index_or found.logs p None ≡ None → ⊥
  taken_log p low taken none =
      let within : home_of S.set.shape p < S.set.shape.shards = home_within S.set.shape p (let c = shape.some_copy in omega (arith, c)) low in
      let t : FoundFirst (is_best S.set.shape found.logs (home_of S.set.shape p)) (peer_of S.set.shape (home_of S.set.shape p) 0) S.set.shape.copies = taken_of (home_of S.set.shape p) within in
      let same : t.at ≡ p = sym (peer_is (home_of S.set.shape p) within) ∙ is_peer_in p low taken in
      no_log (slice_index_or found.logs t.at None) (λ log. not (outranks (rank_of (taken_list S.set.shape found.logs (home_of S.set.shape p))) (rank_of log))) t.passes
      (ap (λ q. slice_index_or found.logs q None) same ∙ none)

  -- the peer of a taken log is taken
  pub taken_at : (shard : ℕ) (low : shard < S.set.shape.shards) → is_taken S.set.shape found.logs (taken_of shard low).at ≡ true
  taken_at shard low =
      let t : FoundFirst (is_best S.set.shape found.logs shard) (peer_of S.set.shape shard 0) S.set.shape.copies = taken_of shard low in
      ap (λ g. option_map_or (λ q. q == t.at) (taken_peer S.set.shape found.logs g) false) (home_between S.set.shape shard t.at t.from t.to)
      ∙ ap (λ (o : Option ℕ). option_map_or (λ q. q == t.at) o false) t.is ∙ eq-eqb t.at t.at refl

  -- ---- what the first items are

  abbrev pub number_in : ℕ → ℕ
  number_in k = (rank_of (taken_list S.set.shape found.logs k)).number

  pub rows_in : (entry : ℕ) → taken_items S.set.shape found.logs entry ≡ rows (λ k. peer_in k) (λ k. number_in k) entry 0 S.set.shape.shards
  rows_in entry = taken_rows S.set.shape found.logs entry (λ k. peer_in k) taken_some

  pub front_in : (entry : ℕ) (rest : List CourseItem) → take (S.set.shape.shards + S.set.shape.shards) (first_items S.set.shape found entry ++ rest) ≡ rows (λ k. peer_in k) (λ k. number_in k) entry 0 S.set.shape.shards
  front_in entry rest =
      ap (λ (items : List CourseItem). take (S.set.shape.shards + S.set.shape.shards) items)
      (append_assoc (taken_items S.set.shape found.logs entry) _ rest ∙ ap (λ (items : List CourseItem). items ++ (others ++ rest)) (rows_in entry))
      ∙ rows_begin (λ k. peer_in k) (λ k. number_in k) entry S.set.shape.shards (others ++ rest)
    where
      others : List CourseItem
      others = map (λ peer. item.Bad peer.0 peer.1) found.lost ++ flat_map (λ peer. change_item (is_taken S.set.shape found.logs peer) (is_taken S.set.shape found.logs peer || starts_good found peer) peer found.opened) (all_peers S.set.shape)

  -- the taken peer's Good begins the course
  pub taken_begins : (entry : ℕ) (rest : List CourseItem) (p : ℕ) → p < S.set.shape.shards * S.set.shape.copies → is_taken S.set.shape found.logs p ≡ true → begins S.set.shape.shards (first_items S.set.shape found entry ++ rest) p ≡ true
  taken_begins entry rest p low taken =
      ap (λ (items : List CourseItem). list_any (is_good_of p) items) (front_in entry rest)
      ∙ rows_good (λ k. peer_in k) (λ k. number_in k) entry p 0 S.set.shape.shards (home_of S.set.shape p) (omega arith)
      (let within : home_of S.set.shape p < S.set.shape.shards = home_within S.set.shape p (let c = shape.some_copy in omega (arith, c)) low in omega (arith, within)) (is_peer_in p low taken)

  module _ (entry p : ℕ) (untaken : is_taken S.set.shape found.logs p ≡ false) (bad : starts_good found p ≡ false) where
    others_in : AllByRecursion (λ i. is_good_of p i ≡ false) (rows (λ k. peer_in k) (λ k. number_in k) entry 0 S.set.shape.shards)
    others_in = rows_other (λ k. peer_in k) (λ k. number_in k) entry p 0 S.set.shape.shards (λ j low high same. not_taken p j untaken (omega (arith, high)) same)

    -- a peer that is not good then, and whose log was not taken, has no Good there
    pub none_begins : (rest : List CourseItem) → begins S.set.shape.shards (first_items S.set.shape found entry ++ rest) p ≡ false
    none_begins rest = ap (λ (items : List CourseItem). list_any (is_good_of p) items) (front_in entry rest) ∙ none_of (is_good_of p) (rows (λ k. peer_in k) (λ k. number_in k) entry 0 S.set.shape.shards) others_in

    pub none_first : AllByRecursion (λ i. is_good_of p i ≡ false) (first_items S.set.shape found entry)
    none_first =
        all_append (λ i. is_good_of p i ≡ false) (taken_items S.set.shape found.logs entry) _
        (subst (λ (items : List CourseItem). AllByRecursion (λ i. is_good_of p i ≡ false) items) (sym (rows_in entry)) others_in)
        (all_append (λ i. is_good_of p i ≡ false) (map (λ (l : ℕ × ℕ). item.Bad l.0 l.1) found.lost) _ (bads_others p found.lost)
        (all_flat (λ i. is_good_of p i ≡ false) (λ q. change_item (is_taken S.set.shape found.logs q) (is_taken S.set.shape found.logs q || starts_good found q) q found.opened) (all_peers S.set.shape)
        (λ q. change_others p q found.opened (is_taken S.set.shape found.logs q) (starts_good found q) (λ same good. false≢true (sym bad ∙ ap (starts_good found) (sym same) ∙ good)))))

-- ---- a run

-- each peer that is not good as the core opens is told to be down, at that moment
abbrev pub TellsDown : Script → Ran → Story → Type 0
TellsDown S r story =
    (p : ℕ) → p < S.set.shape.shards * S.set.shape.copies → starts_good story.found p ≡ false → (test : JournalEntry → Bool) → test (down_note p story.found.opened) ≡ true → list_any test (r.journal ++ r.refused) ≡ true

-- so it is where the core goes on
pub tells_down : (S : Script) (r : Ran) (story : Story) → Went S r story → IsShape S.set.shape → (first_core S.set story.found).ended ≡ None → TellsDown S r story
tells_down S r story went shape going p low bad test passes =
    any_left test r.journal r.refused
    (ap (λ (es : List JournalEntry). list_any test es) went.journal
    ∙ told_steps test (all_events story) (first_core S.set story.found)
    (told_opening test S.set.shape S.set.limits (opens_with S.set story.found) story.found.opened p low passes
    (status_is S story.found p ∙ bad) going))

module _ (S : Script) (r : Ran) (story : Story) (went : Went S r story) (shape : IsShape S.set.shape) (there : EachTaken S story.found) where
  abbrev rest : List CourseItem
  rest = items_of (first_core S.set story.found) (all_events story)

  -- the peer of a taken log counts
  pub taken_counts : (p : ℕ) → p < S.set.shape.shards * S.set.shape.copies → is_taken S.set.shape story.found.logs p ≡ true → is_aside S r p ≡ false
  taken_counts p low taken =
      let first : begins S.set.shape.shards r.course p ≡ true =
      ap (λ (items : List CourseItem). begins S.set.shape.shards items p) went.course
      ∙ taken_begins S story.found shape there r.old.moment rest p low taken in
      ap (λ b. list_any (tells_aside r.course p) (r.journal ++ r.refused) && not b) first ∙ never (list_any (tells_aside r.course p) (r.journal ++ r.refused))
    where
      never : (b : Bool) → (b && false) ≡ false
      never true = refl
      never false = refl

  -- each other one that was not good then was set aside
  module _ (down : TellsDown S r story) (p : ℕ) (low : p < S.set.shape.shards * S.set.shape.copies) (untaken : is_taken S.set.shape story.found.logs p ≡ false) (bad : starts_good story.found p ≡ false) where
    -- no Good of it stands below the opening
    never_good : was_good r.course story.found.opened p ≡ false
    never_good =
        ap (λ (items : List CourseItem). list_any (is_good_below story.found.opened p) items) went.course
        ∙ none_of (is_good_below story.found.opened p) (first_items S.set.shape story.found r.old.moment ++ rest)
        (all_append (λ i. is_good_below story.found.opened p i ≡ false) (first_items S.set.shape story.found r.old.moment) rest
        (others_below story.found.opened p (first_items S.set.shape story.found r.old.moment) (none_first S story.found shape there r.old.moment p untaken bad))
        (late_items story.found.opened p story.found.opened r.new.moment (first_core S.set story.found) (all_events story) (omega arith) went.rises))

    passes : tells_aside r.course p (down_note p story.found.opened) ≡ true
    passes = ap (λ b. (b && true) && not (was_good r.course story.found.opened p)) (eq-eqb p p refl) ∙ ap (λ b. not b) never_good

    pub set_aside : is_aside S r p ≡ true
    set_aside =
        let noted : list_any (tells_aside r.course p) (r.journal ++ r.refused) ≡ true = down p low bad (tells_aside r.course p) passes in
        let later : begins S.set.shape.shards r.course p ≡ false =
        ap (λ (items : List CourseItem). begins S.set.shape.shards items p) went.course
        ∙ none_begins S story.found shape there r.old.moment p untaken bad rest in
        λ i. noted i && not (later i)
