-- A core as it opens is in step, and keeps up.
use Rattle.std.proofs.Common.{◌≡◌, ◌≢◌, ◌∙◌, ap, sym, subst, refl, inl, inr, arith, ℕ, zero, suc, ◌+◌, ◌-◌, ◌<◌, ◌≤◌, if◌then◌else◌, not, Bool, true, false, List, [], ◌∷◌, Option, Some, None, length, take, drop}
use Rattle.std.proofs.lemmas.Bool.{cases_lt}
use Rattle.std.proofs.Math.ListN.{get_or-map}
use Rattle.std.proofs.lemmas.List.{get_or-drop, length-replicate, length-set}
use Rattle.std.proofs.lemmas.List.FromFn.{get_or-map-range_with_len, length-map-range_with_len}
use Rattle.std.proofs.lemmas.List.Elements.{All-nil}
use Rattle.std.specs.List.{range_with_len}
use Rattle.std.specs.Prelude.{slice_index, slice_index_or}
use Rattle.hs_awaiting.specs.Words.{change_if, change_with, each}
use Rattle.hs_copies.specs.Lists.{Item}
use Rattle.hs_copies.specs.Machine.{after_events}
use Rattle.hs_core_words.specs.Changing.{add_entry_tasks, change_group, note, post, set_viewed}
use Rattle.hs_core_words.specs.Looking.{group_of, lead_of, shape_of, shards_of, status_of}
use Rattle.hs_core_words.specs.Opening.{Taken, begin_views, first_members, good_copies, new_core, note_down, note_if_down, open_core, taken_group}
use Rattle.hs_core_words.specs.State.{Core}
use Rattle.hs_core_words.specs.Step.{end_event}
use Rattle.hs_core_words.specs.Views.{begin_view, change_view, restart}
use Rattle.hs_core_copies.proofs.OpeningLemmas.{opened_core_in_step, viewed_members}
use Rattle.hs_core_copies.proofs.PlaceLemmas.{group_other}
use Rattle.hs_core_copies.specs.Opening.{MayOpen, opened_with}
use Rattle.hs_entry.specs.declared.entry.Entry.{Entry}
use Rattle.hs_entry.specs.declared.entry.Entry.TheVariants as kind
use Rattle.hs_journal.specs.declared.entry.Who.TheVariants as who
use Rattle.hs_limits.specs.declared.limits.Limits.{Limits}
use Rattle.hs_limits.specs.declared.limits.PeerStatus.TheVariants.{Down, Good, Joining}
use Rattle.hs_limits.specs.declared.shape.Shape.{Shape}
use Rattle.hs_limits.specs.Shape.{peer_of}
use Rattle.hs_members.specs.Members.{Members, all_peers, has_good, is_good_status, status, view_of}
use Rattle.hs_model.specs.declared.deed.Deed.TheVariants as deed
use Rattle.hs_model.specs.declared.reply.Reply.TheVariants as reply
use Rattle.hs_replica.specs.declared.replica.Replica.{Replica}
use Rattle.hs_replica.specs.Group.{Group, first_peer, last_number, new_group, no_copy, propose, proposal, renew, renewal, whole_copy}
use Rattle.hs_quiet.specs.Keeping.{AreInStep, IsForGood, KeepsUp}
use Rattle.hs_quiet.proofs.CopyLemmas.{IsFit, copy_at, fit_renewed}
use Rattle.hs_quiet.proofs.FineLemmas.{Fine, NoOne, fine_same, fine_view}
use Rattle.hs_quiet.proofs.StartLemmas.{fit_none, past_of}
use Rattle.hs_quiet.proofs.StepLemmas.{fine_as, is_ended}

-- ---- a new group

module _ (m : Members) (shape : Shape) (shard view len : ℕ) (good : List Bool) where
  of_bool : Bool → Replica
  of_bool b = if b then whole_copy view len else no_copy

  new_at : (i : ℕ) → copy_at i (new_group shape shard view len good) ≡ of_bool (slice_index_or good i false)
  unfolding of_bool
  new_at i = get_or-map (λ b. if b then whole_copy view len else no_copy) good i false

  of_good : (b : Bool) → (of_bool b).good ≡ true → b ≡ true
  unfolding of_bool
  of_good true e = refl
  of_good false e = let wrong : false ≡ true = e in absurd (cc wrong)

  of_held : (b : Bool) → (of_bool b).sealed ≤ length (of_bool b).stamps
  unfolding of_bool
  of_held true = (let n = length-replicate len view in omega (arith, n))
  of_held false = omega arith

  of_known : (b : Bool) → (of_bool b).known ≡ (of_bool b).sealed
  unfolding of_bool
  of_known true = refl
  of_known false = refl

  pub new_held : (i : ℕ) → (copy_at i (new_group shape shard view len good)).sealed ≤ length (copy_at i (new_group shape shard view len good)).stamps
  new_held i = subst (λ (r : Replica). r.sealed ≤ length r.stamps) (sym (new_at i)) (of_held (slice_index_or good i false))

  new_known : (i : ℕ) → (copy_at i (new_group shape shard view len good)).known ≡ (copy_at i (new_group shape shard view len good)).sealed
  new_known i = ap (λ (r : Replica). r.known) (new_at i) ∙ of_known (slice_index_or good i false) ∙ ap (λ (r : Replica). r.sealed) (sym (new_at i))

  pub fit_new : ((i : ℕ) → slice_index_or good i false ≡ true → status (peer_of shape shard 0 + i) m ≡ Good) → IsFit m (new_group shape shard view len good)
  fit_new h = record {
    good = λ i e. h i (of_good (slice_index_or good i false) (sym (ap (λ (r : Replica). r.good) (new_at i)) ∙ e));
    held = λ i e. new_held i;
    known = λ i e. (let n = new_known i in omega (arith, n));
    leads = λ l e. inl (new_known (l - peer_of shape shard 0));
  }

-- ---- the first core

module _ (shape : Shape) (limits : Limits) (taken : Taken) (moment : ℕ) where
  abbrev first : Core
  first = new_core shape limits taken moment

  groups_long : length (new_core shape limits taken moment).groups ≡ shape.shards
  groups_long = length-map-range_with_len (taken_group shape taken) 0 shape.shards

  first_group : (g : ℕ) → g < shape.shards → group_of g (new_core shape limits taken moment) ≡ taken_group shape taken g
  first_group g low = get_or-map-range_with_len (taken_group shape taken) 0 shape.shards g g (new_group shape g 0 0 []) low (omega arith)

  status_is : (p : ℕ) → status p (first_members shape taken) ≡ (if slice_index_or taken.good p false then Good else Down)
  status_is p = get_or-map (λ b. if b then Good else Down) taken.good p false

  not_joining : (b : Bool) → (if b then Good else Down) ≡ Joining → ⊥
  not_joining true e = let wrong : Good ≡ Joining = e in cc wrong
  not_joining false e = let wrong : Down ≡ Joining = e in cc wrong

  -- nobody is joining
  none_joining : (p : ℕ) → status p (first_members shape taken) ≡ Joining → ⊥
  none_joining p e = not_joining (slice_index_or taken.good p false) (sym (status_is p) ∙ e)

  -- a copy that counts as good is of a peer that is
  in_take : (xs : List Bool) (n i : ℕ) → slice_index_or (take n xs) i false ≡ true → slice_index_or xs i false ≡ true
  in_take xs zero i e = let wrong : false ≡ true = e in absurd (cc wrong)
  in_take [] (suc n) i e = let wrong : false ≡ true = e in absurd (cc wrong)
  in_take (y ∷ xs) (suc n) zero e = e
  in_take (y ∷ xs) (suc n) (suc i) e = in_take xs n i e

  in_front : (xs : List Bool) (n k i : ℕ) → slice_index_or (take n (drop k xs)) i false ≡ true → slice_index_or xs (k + i) false ≡ true
  in_front xs n k i e = sym (get_or-drop k xs i false) ∙ in_take (drop k xs) n i e

  good_there : (g i : ℕ) → slice_index_or (good_copies shape taken.good g) i false ≡ true → status (peer_of shape g 0 + i) (first_members shape taken) ≡ Good
  good_there g i e = status_is (peer_of shape g 0 + i) ∙ ap (λ b. if b then Good else Down) (in_front taken.good shape.copies (peer_of shape g 0) i e)

  fine_first : Fine (new_core shape limits taken moment) NoOne NoOne (new_core shape limits taken moment)
  fine_first = record {
    shape = refl;
    seats = refl;
    receivers = All-nil (IsForGood (first_members shape taken));
    joins = λ p j. absurd (none_joining p j);
    fits = λ g. inr (elim (cases_lt g shape.shards) [
      | inl low ↦ subst (λ y. IsFit (first_members shape taken) y) (sym (first_group g low)) (fit_new (first_members shape taken) shape g (slice_index taken.views g) (slice_index taken.lengths g) (good_copies shape taken.good g) (good_there g))
      | inr high ↦
          let at : group_of g (new_core shape limits taken moment) ≡ new_group shape g 0 0 [] = past_of (new_core shape limits taken moment).groups g (new_group shape g 0 0 []) (let n = groups_long in omega (arith, n, high)) in
          fit_none (first_members shape taken) (group_of g (new_core shape limits taken moment)) (ap (λ (y : Group). y.copies) at)
    ]);
  }

  -- ---- the views

  -- a view is of its shard alone
  view_apart : (g x : ℕ) (c : Core) → g ≢ x → (group_of g (change_view x c) ≡ group_of g c) × (length (change_view x c).groups ≡ length c.groups)
  view_apart g x c n = go (has_good x c.members)
    where
      a : Core
      a = change_group x (renew c.members) (set_viewed x false c)

      e : Core
      e = post (renewal (group_of x (restart x (change_group x (renew c.members) (set_viewed x false c))))) (restart x (change_group x (renew c.members) (set_viewed x false c)))

      entry : Entry
      entry = kind.View (view_of x c.members)

      led : (o : Option ℕ) (y : Core) → group_of g (change_with o (λ peer. add_entry_tasks peer (last_number (group_of x y) + 1) (kind.View (view_of x c.members))) (post (proposal (kind.View (view_of x c.members)) (group_of x y)) (change_group x (propose (kind.View (view_of x c.members))) y))) ≡ group_of g (change_group x (propose (kind.View (view_of x c.members))) y)
      led None y = refl
      led (Some l) y = refl

      many : (o : Option ℕ) (y : Core) → length (change_with o (λ peer. add_entry_tasks peer (last_number (group_of x y) + 1) (kind.View (view_of x c.members))) (post (proposal (kind.View (view_of x c.members)) (group_of x y)) (change_group x (propose (kind.View (view_of x c.members))) y))).groups ≡ length y.groups
      many None y = length-set y.groups x (propose (kind.View (view_of x c.members)) (group_of x y))
      many (Some l) y = length-set y.groups x (propose (kind.View (view_of x c.members)) (group_of x y))

      go : (b : Bool) → (group_of g (change_if b (begin_view x) c) ≡ group_of g c) × (length (change_if b (begin_view x) c).groups ≡ length c.groups)
      go true = (
        led (lead_of x e) e ∙ group_other g x (propose (kind.View (view_of x c.members))) e n ∙ group_other g x (renew c.members) (set_viewed x false c) n,
        many (lead_of x e) e ∙ length-set c.groups x (renew c.members (group_of x c)),
      )
      go false = (refl, refl)

  loosen : (s : Core) (x : ℕ) (c : Core) → Fine s NoOne NoOne c → Fine s NoOne (λ g. g ≡ x) c
  loosen s x c f = record {
    shape = f.shape;
    seats = f.seats;
    receivers = f.receivers;
    joins = λ p j. elim (f.joins p j) [
      | inl none ↦ absurd none
      | inr k ↦ inr (record { rejoin = k.rejoin; is = k.is; less = k.less; leads = k.leads })
    ];
    fits = λ g. elim (f.fits g) [ inl none ↦ absurd none | inr k ↦ inr k ];
  }

  record Opens (from : ℕ) (c : Core) : Type 0 where
    pub fine : Fine (new_core shape limits taken moment) NoOne NoOne c
    pub members : c.members ≡ first_members shape taken
    pub long : length c.groups ≡ shape.shards
    pub later : (g : ℕ) → from ≤ g → g < shape.shards → group_of g c ≡ taken_group shape taken g

  view_opens : (x : ℕ) (c : Core) → x < shape.shards → Opens x c → Opens (x + 1) (change_view x c)
  view_opens x c low o = record {
    fine = by_good (has_good x c.members);
    members = viewed_members x c ∙ o.members;
    long = (view_apart (suc x) x c (λ e. omega (arith, e))).1 ∙ o.long;
    later = λ g above inside. (view_apart g x c (λ e. omega (arith, e, above))).0 ∙ o.later g (omega (arith, above)) inside;
  }
    where
      held : (i : ℕ) → status (first_peer (group_of x c) + i) c.members ≡ Good → (copy_at i (group_of x c)).sealed ≤ length (copy_at i (group_of x c)).stamps
      held i e =
          subst (λ (y : Group). (copy_at i y).sealed ≤ length (copy_at i y).stamps) (sym (o.later x (omega arith) low))
          (new_held (first_members shape taken) shape x (slice_index taken.views x) (slice_index taken.lengths x) (good_copies shape taken.good x) i)

      by_good : (b : Bool) → Fine (new_core shape limits taken moment) NoOne NoOne (change_if b (begin_view x) c)
      by_good true =
          fine_view (new_core shape limits taken moment) NoOne x c (let n = o.long in omega (arith, n, low)) (fit_renewed c.members (group_of x c) held) (loosen (new_core shape limits taken moment) x c o.fine)
      by_good false = o.fine

  views_open : (n from : ℕ) (c : Core) → from + n ≡ shape.shards → Opens from c → Fine (new_core shape limits taken moment) NoOne NoOne (each (range_with_len from n) change_view c)
  views_open zero from c all o = o.fine
  views_open (suc n) from c all o = views_open n (from + 1) (change_view from c) (omega (arith, all)) (view_opens from c (omega (arith, all)) o)

  all_views : Fine (new_core shape limits taken moment) NoOne NoOne (begin_views (new_core shape limits taken moment))
  all_views = views_open shape.shards 0 (new_core shape limits taken moment) (omega arith) (record { fine = fine_first; members = refl; long = groups_long; later = λ g above inside. first_group g inside })

  -- ---- those that are down are told of

  downs_fine : (s : Core) (ps : List ℕ) (c : Core) → Fine s NoOne NoOne c → Fine s NoOne NoOne (each ps note_if_down c)
  downs_fine s [] c f = f
  downs_fine s (p ∷ ps) c f = downs_fine s ps (note_if_down p c) (one (not (is_good_status (status_of p c))))
    where
      one : (b : Bool) → Fine s NoOne NoOne (change_if b (note who.Store deed.Nothing (reply.Down p 0)) c)
      one true = fine_same s NoOne NoOne c (note who.Store deed.Nothing (reply.Down p 0) c) refl refl refl (λ h. h) f
      one false = f

  downs_members : (ps : List ℕ) (c : Core) → (each ps note_if_down c).members ≡ c.members
  downs_members [] c = refl
  downs_members (p ∷ ps) c = downs_members ps (note_if_down p c) ∙ one (not (is_good_status (status_of p c)))
    where
      one : (b : Bool) → (change_if b (note who.Store deed.Nothing (reply.Down p 0)) c).members ≡ c.members
      one true = refl
      one false = refl

  views_members : (xs : List ℕ) (c : Core) → (each xs change_view c).members ≡ c.members
  views_members [] c = refl
  views_members (x ∷ xs) c = views_members xs (change_view x c) ∙ viewed_members x c

  pub opened_members : (open_core shape limits taken moment).members ≡ first_members shape taken
  opened_members =
      let a : Core = begin_views (new_core shape limits taken moment) in
      let b : Core = note_down a in
      (is_ended b).members ∙ downs_members (all_peers (shape_of a)) a ∙ views_members (shards_of (new_core shape limits taken moment)) (new_core shape limits taken moment)

  opened_fine : Fine (new_core shape limits taken moment) NoOne NoOne (open_core shape limits taken moment)
  opened_fine =
      let a : Core = begin_views (new_core shape limits taken moment) in
      let b : Core = note_down a in
      fine_as (new_core shape limits taken moment) b (end_event b) (is_ended b) (downs_fine (new_core shape limits taken moment) (all_peers (shape_of a)) a all_views)

  pub opened_up : KeepsUp (open_core shape limits taken moment)
  opened_up = record {
    receivers = opened_fine.receivers;
    joins = λ p j. absurd (none_joining p (sym (ap (λ (m : Members). status p m) opened_members) ∙ j));
    leads = λ g. elim (opened_fine.fits g) [ inl none ↦ absurd none | inr k ↦ k.leads ];
  }

  pub opened_all : 0 < shape.shards → ((g : ℕ) → g < shape.shards → (log : List (Item Entry)) × MayOpen shape taken g log) → (open_core shape limits taken moment).ended ≡ None → AreInStep (open_core shape limits taken moment)
  opened_all some may on = record {
    some = subst (λ (m : Members). 0 < m.shape.shards) (sym opened_members) some;
    each = λ g low.
        let k = may g (subst (λ (m : Members). g < m.shape.shards) opened_members low) in
        let o = opened_core_in_step shape limits taken moment g k.0 k.1 on in
        (after_events (opened_with shape taken g k.0 o.0) o.2.events, o.2.keeps);
  }
