-- How a core of one copy a shard goes on as it opens: nothing more is sealed, and the new jobs are those of new entries.
use Rattle.std.proofs.Common.{◌≡◌, ◌∙◌, ap, sym, subst, inl, inr, ℕ, ◌+◌, ◌*◌, ◌-◌, ◌<◌, ◌≤◌, ◌⊎◌, false, List, [], ◌++◌, None, refl, arith, length, replicate}
use Rattle.std.proofs.lemmas.Bool.{cases_lt}
use Rattle.std.proofs.lemmas.List.{append-nil, length-replicate}
use Rattle.std.proofs.lemmas.List.Elements.{All-replicate}
use Rattle.std.proofs.lemmas.List.FromFn.{get_or-map-range_with_len}
use Rattle.std.specs.List.{All, enumerate_from}
use Rattle.hs_core_words.specs.Looking.{group_of, tasks_of}
use Rattle.hs_core_words.specs.Opening.{new_core}
use Rattle.hs_core_words.specs.State.{Core}
use Rattle.hs_entry.specs.declared.entry.Entry.{Entry}
use Rattle.hs_entry.specs.declared.entry.Entry.TheVariants as kind
use Rattle.hs_entry.specs.Entries.{is_of_base, rank_of}
use Rattle.hs_events.specs.Alone.{AreAlone, AreJobs, IsAlone, IsCounted, IsSettled, face, own}
use Rattle.hs_events.specs.Found.{Found, first_core, opened_list, opens_with}
use Rattle.hs_events.specs.Sane.{IsSane}
use Rattle.hs_events.specs.Whole.{Whole}
use Rattle.hs_fold.specs.Shards.Setting.{Numbered, Setting}
use Rattle.hs_members.specs.Members.{Members}
use Rattle.hs_moments.proofs.OpeningLemmas.{alone_start as opens_alone, group_is as opened_group, moves_first as opens_moving, tasks_are as opened_tasks}
use Rattle.hs_moments.proofs.AloneLemmas.{alone}
use Rattle.hs_moments.proofs.JobLemmas.{above_front, are_grow, counts_on, settles}
use Rattle.hs_moments.proofs.MoveLemmas.{Goes, Moves}
use Rattle.hs_replica.specs.Group.{Group, entries_above, last_number}

module _ (set : Setting) (found : Found) (one : set.shape.copies ≡ 1) (many : length found.good ≡ set.shape.shards * set.shape.copies) (going : (first_core set found).ended ≡ None) where
  abbrev pub start : Core
  start = new_core set.shape set.limits (opens_with set found) found.opened

  pub moves_first : Moves (face start) (face (first_core set found))
  moves_first = opens_moving set found one many going

  alone_start : AreAlone (face start)
  alone_start = opens_alone set found one many going

  -- ---- what is sealed, and the jobs

  abbrev core : Core
  core = first_core set found

  pub same_members : core.members ≡ start.members
  same_members = moves_first.members

  alone_first : (g : ℕ) → g < set.shape.shards → IsAlone set.shape g (group_of g core)
  alone_first g low = subst (λ (m : Members). IsAlone m.shape g (group_of g core)) moves_first.members (moves_first.alone.each g (subst (λ (m : Members). g < m.shape.shards) (sym moves_first.members) low))

  pub sealed_first : (g : ℕ) → g < set.shape.shards → (own (group_of g core)).sealed ≡ (rank_of (opened_list set found g)).number
  sealed_first g low =
      (moves_first.each g low).sealed ∙ ap (λ (y : Group). (own y).sealed) (opened_group set found one many going g low)
      ∙ get_or-map-range_with_len (λ shard. (rank_of (opened_list set found shard)).number) 0 set.shape.shards g g 0 low (omega arith)

  pub jobs_first : (g : ℕ) → g < set.shape.shards → AreJobs (entries_above (own (group_of g core)).sealed (group_of g core)) (tasks_of g core)
  jobs_first g low =
      let is = opened_group set found one many going g low in
      let goes : Goes (group_of g start) (group_of g core) (tasks_of g start) (tasks_of g core) = moves_first.each g low in
      let settled : (own (group_of g start)).sealed ≡ (group_of g start).front = ap (λ (y : Group). (own y).sealed) is ∙ sym (ap (λ (y : Group). y.front) is) in
      let none : entries_above (own (group_of g start)).sealed (group_of g start) ≡ [] = above_front (group_of g start) (own (group_of g start)).sealed settled ∙ ap (λ (y : Group). enumerate_from (y.front + 1) y.waiting) is in
      let jobs : AreJobs (entries_above (own (group_of g start)).sealed (group_of g start)) (tasks_of g start) = record { queue = []; all = none; jobs = opened_tasks set found one many going g } in
      let within = (alone_start.each g low).within in let handed = (alone_first g low).handed in let same = goes.sealed in
      subst (λ s. AreJobs (entries_above s (group_of g core)) (tasks_of g core)) (sym same)
      (are_grow (group_of g start) (group_of g core) (tasks_of g start) (tasks_of g core) goes (own (group_of g start)).sealed (omega (arith, same, handed)) within jobs)

  -- ---- some lists that fit the core, whatever the disks tell

  settled_first : (g : ℕ) → g < set.shape.shards → IsSettled (group_of g core) (tasks_of g core)
  settled_first g low =
      let is = opened_group set found one many going g low in
      let settled : (own (group_of g start)).sealed ≡ (group_of g start).front = ap (λ (y : Group). (own y).sealed) is ∙ sym (ap (λ (y : Group). y.front) is) in
      let none : entries_above (own (group_of g start)).sealed (group_of g start) ≡ [] = above_front (group_of g start) (own (group_of g start)).sealed settled ∙ ap (λ (y : Group). enumerate_from (y.front + 1) y.waiting) is in
      let goes : Goes (group_of g start) (group_of g core) (tasks_of g start) (tasks_of g core) = moves_first.each g low in
      let up = goes.front in
      settles set.shape g (group_of g start) (group_of g core) (tasks_of g start) (tasks_of g core) (alone_start.each g low) (alone_first g low) goes (omega (arith, up, settled))
      (inl (record { queue = []; all = none; jobs = opened_tasks set found one many going g }))

  -- as many entries as took effect
  abbrev old_entries : ℕ → List Entry
  old_entries g = replicate (group_of g start).front (kind.View 0)

  abbrev list_by : (g : ℕ) → (g < set.shape.shards) ⊎ (set.shape.shards ≤ g) → Numbered
  list_by g (inl low) = enumerate_from 1 (old_entries g) ++ enumerate_from (last_number (group_of g start) + 1) (moves_first.each g low).more
  list_by g (inr high) = []

  counted_old : (g : ℕ) → g < set.shape.shards → IsCounted (enumerate_from 1 (old_entries g)) (group_of g start)
  counted_old g low =
      let none : old_entries g ++ (group_of g start).waiting ≡ old_entries g = ap (λ (y : Group). old_entries g ++ y.waiting) (opened_group set found one many going g low) ∙ append-nil (old_entries g) in
      record {
        taken = old_entries g;
        counted = ap (enumerate_from 1) (sym none);
        handed = length-replicate (group_of g start).front (kind.View 0);
        plain = subst (λ es. All (λ (e : Entry). is_of_base e ≡ false) es) (sym none) (All-replicate (λ (e : Entry). is_of_base e ≡ false) (group_of g start).front (kind.View 0) refl);
      }

  counted_by : (g : ℕ) → g < set.shape.shards → (d : (g < set.shape.shards) ⊎ (set.shape.shards ≤ g)) → IsCounted (list_by g d) (group_of g core)
  counted_by g low (inl there) = counts_on (group_of g start) (group_of g core) (tasks_of g start) (tasks_of g core) (enumerate_from 1 (old_entries g)) (moves_first.each g there) (counted_old g there)
  counted_by g low (inr high) = absurd (omega (arith, low, high))

  none_by : (g : ℕ) → set.shape.shards ≤ g → (d : (g < set.shape.shards) ⊎ (set.shape.shards ≤ g)) → list_by g d ≡ []
  none_by g high (inl low) = absurd (omega (arith, low, high))
  none_by g high (inr past) = refl

  abbrev pub alone_whole : Whole
  alone_whole = record { core = core; lists = λ g. list_by g (cases_lt g set.shape.shards); adds = λ g. []; aside = λ g. false }

  pub alone_sane : IsSane alone_whole
  alone_sane = record {
    going = going;
    alone = moves_first.alone;
    settled = λ g lt. settled_first g (within g lt);
    lists = λ g lt. counted_by g (within g lt) (cases_lt g set.shape.shards);
    past = λ g high. none_by g (subst (λ (m : Members). m.shape.shards ≤ g) moves_first.members high) (cases_lt g set.shape.shards);
    adds = λ g. refl;
    counted = λ g lt. refl;
  }
    where
      within : (g : ℕ) → g < core.members.shape.shards → g < set.shape.shards
      within g low = subst (λ (m : Members). g < m.shape.shards) moves_first.members low
