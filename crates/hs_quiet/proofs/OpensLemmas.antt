-- As a core opens no operation waits, and each shard's View stands in its list.
use Rattle.std.proofs.Common.{◌≡◌, ◌∙◌, sym, ap, subst, ◌⊎◌, inl, inr, ℕ, zero, suc, ◌+◌, ◌<◌, ◌≤◌, Bool, true, false, not, map, List, [], ◌∷◌, length, Option, Some, None, refl, arith, nat_lt, slice_get}
use Rattle.std.proofs.lemmas.Bool.{cases_eq}
use Rattle.std.proofs.lemmas.List.{get_or-set_other, get_or-set_same, length-replicate, length-set}
use Rattle.std.proofs.lemmas.List.FromFn.{get_or-map-range_with_len, length-map-range_with_len}
use Rattle.std.specs.BTreeMap.{is_at}
use Rattle.std.specs.List.{range_with_len}
use Rattle.std.specs.Map.{lookup}
use Rattle.std.specs.Ordering.{nat_cmp}
use Rattle.std.specs.Prelude.{if◌then◌else◌, slice_index_or}
use Rattle.hs_awaiting.specs.declared.waiting.Waiting.{Waiting}
use Rattle.hs_awaiting.specs.Views.{restarted}
use Rattle.hs_awaiting.specs.Words.{change_if, each}
use Rattle.hs_core_words.specs.Changing.{change_group, note, post, set_viewed}
use Rattle.hs_core_words.specs.Looking.{group_of, operation_of, shape_of, shards_of, status_of}
use Rattle.hs_core_words.specs.Opening.{Taken, begin_views, first_members, new_core, note_down, note_if_down, open_core, taken_group}
use Rattle.hs_core_words.specs.Operating.{propose_entry}
use Rattle.hs_core_words.specs.State.{Core}
use Rattle.hs_core_words.specs.Step.{end_event, keep_entries, refuse_entries}
use Rattle.hs_core_words.specs.Views.{begin_view, change_view, restart}
use Rattle.hs_core_copies.proofs.OpeningLemmas.{first_none}
use Rattle.hs_effects.specs.Logged.{IsOrderly}
use Rattle.hs_quiet.specs.Causes.{AreCaused}
use Rattle.hs_effects.proofs.EventLemmas.{open_orderly}
use Rattle.hs_effects.proofs.GroupLemmas.{group_changed}
use Rattle.hs_effects.proofs.LookLemmas.{one_or_other}
use Rattle.hs_entry.specs.declared.entry.Entry.{Entry}
use Rattle.hs_entry.specs.declared.entry.Entry.TheVariants as kind
use Rattle.hs_quiet.proofs.GoingGoodLemmas.{Most, NoLine, NoShard, ViewWaits, all_most, most_stays}
use Rattle.hs_quiet.proofs.GoingListLemmas.{IsAmong}
use Rattle.hs_quiet.proofs.StayLemmas.{Stays, proposal_groups, proposal_operations, proposal_stays, proposal_there, stays_both, stays_by, stays_same}
use Rattle.hs_journal.specs.declared.entry.Who.TheVariants as who
use Rattle.hs_limits.specs.declared.address.Address.{Address}
use Rattle.hs_limits.specs.declared.limits.Limits.{Limits}
use Rattle.hs_limits.specs.declared.shape.Shape.{Shape}
use Rattle.hs_members.specs.Members.{Members, all_peers, has_good, is_good_status, view_of}
use Rattle.hs_model.specs.declared.deed.Deed.TheVariants as deed
use Rattle.hs_model.specs.declared.reply.Reply.TheVariants as reply
use Rattle.hs_replica.specs.Group.{Group, last_number, lead, lead_takes, new_group, propose, renew, renewal}

-- ---- a shard keeps its number

taken_shard : (l : Option ℕ) (entry : Entry) (group : Group) → (lead_takes l entry group).shard ≡ group.shard
taken_shard None entry group = refl
taken_shard (Some l) entry group = refl

changed_shard : (shard : ℕ) (f : Group → Group) (c : Core) → (f (group_of shard c)).shard ≡ (group_of shard c).shard → (g : ℕ) → (group_of g (change_group shard f c)).shard ≡ (group_of g c).shard
changed_shard shard f c e g = by_shard (group_changed shard f c g)
  where
    by_shard : (group_of g (change_group shard f c) ≡ group_of g c) ⊎ ((g ≡ shard) × (group_of g (change_group shard f c) ≡ f (group_of shard c))) → (group_of g (change_group shard f c)).shard ≡ (group_of g c).shard
    by_shard (inl s) = ap (λ (x : Group). x.shard) s
    by_shard (inr s) = ap (λ (x : Group). x.shard) s.1 ∙ e ∙ ap (λ k. (group_of k c).shard) (sym s.0)

-- ---- one view after another

-- nothing has begun but views, and of all shards but some the View waits
record Opens (un : ℕ → Type 0) (m : Members) (c : Core) : Type 0 where
  pub members : c.members ≡ m
  pub operations : c.operations ≡ []
  pub groups : length c.groups ≡ m.shape.shards
  pub views : length c.progress.viewed ≡ m.shape.shards
  pub each_own : (g : ℕ) → g < m.shape.shards → (group_of g c).shard ≡ g
  pub viewing : (g : ℕ) → g < m.shape.shards → slice_index_or c.progress.viewed g false ≡ false → un g ⊎ ViewWaits c g

module _ (s : ℕ) (ss : List ℕ) (m : Members) (c : Core) (o : Opens (λ g. IsAmong g (s ∷ ss)) m c) where
  -- the copies are told, and nothing starts again
  abbrev listed : Core
  listed = change_group s (renew c.members) (set_viewed s false c)

  abbrev told : Core
  told = post (renewal (group_of s (restart s listed))) (restart s listed)

  abbrev entry : Entry
  entry = kind.View (view_of s c.members)

  abbrev after : Core
  after = propose_entry s entry told

  within : (g : ℕ) → g < m.shape.shards → g < length c.groups
  within g low = subst (λ k. g < k) (sym o.groups) low

  told_group : (g : ℕ) → (g ≡ s → ⊥) → group_of g told ≡ group_of g c
  told_group g d = get_or-set_other c.groups s g (renew c.members (group_of s c)) (new_group (shape_of c) g 0 0 []) d

  told_here : s < m.shape.shards → group_of s told ≡ renew c.members (group_of s c)
  told_here low = get_or-set_same c.groups s (renew c.members (group_of s c)) (new_group (shape_of c) s 0 0 []) (within s low)

  after_group : (g : ℕ) → (g ≡ s → ⊥) → group_of g after ≡ group_of g c
  after_group g d = proposal_groups s g entry told ∙ get_or-set_other told.groups s g (propose entry (group_of s told)) (new_group (shape_of told) g 0 0 []) d ∙ told_group g d

  stays : Stays told after
  stays = proposal_stays s entry told

  shards_after : (g : ℕ) → g < m.shape.shards → (group_of g after).shard ≡ g
  shards_after g low =
      ap (λ (x : Group). x.shard) (proposal_groups s g entry told)
      ∙ changed_shard s (propose entry) told (taken_shard (lead (group_of s told)) entry (group_of s told)) g
      ∙ changed_shard s (renew c.members) (set_viewed s false c) refl g
      ∙ o.each_own g low

  -- the View of the shard waits
  own_view : s < m.shape.shards → ViewWaits after s
  own_view low = record {
    place = length (group_of s told).waiting;
    entry = entry;
    at = proposal_there s entry told (subst (λ k. s < k) (sym (length-set c.groups s (renew c.members (group_of s c)))) (within s low));
    is = ap (λ v. kind.View v) (sym (stays.view s ∙ ap (λ (x : Group). x.view) (told_here low) ∙ ap (λ k. view_of k c.members) (o.each_own s low)));
  }

  view_opens : Opens (λ g. IsAmong g ss) m after
  view_opens = record {
    members = stays.members ∙ o.members;
    operations = proposal_operations s entry told ∙ ap (λ (es : List (ℕ × Waiting)). map (λ (e : ℕ × Waiting). (e.0, restarted s (last_number (group_of s listed)) e.1)) es) o.operations;
    groups = stays.groups ∙ length-set c.groups s (renew c.members (group_of s c)) ∙ o.groups;
    views = ap (λ (vs : List Bool). length vs) stays.viewed ∙ length-set c.progress.viewed s false ∙ o.views;
    each_own = shards_after;
    viewing = λ g low off. by_shard g low off (one_or_other g s);
  }
    where
      by_other : (g : ℕ) → (g ≡ s → ⊥) → ((g ≡ s) ⊎ IsAmong g ss) ⊎ ViewWaits c g → IsAmong g ss ⊎ ViewWaits after g
      by_other g d (inl (inl is)) = absurd (d is)
      by_other g d (inl (inr left)) = inl left
      by_other g d (inr h) = inr (record {
        place = h.place;
        entry = h.entry;
        at = ap (λ (x : Group). slice_get x.waiting h.place) (after_group g d) ∙ h.at;
        is = h.is ∙ ap (λ (x : Group). kind.View x.view) (sym (after_group g d));
      })

      by_shard : (g : ℕ) → g < m.shape.shards → slice_index_or after.progress.viewed g false ≡ false → (g ≡ s) ⊎ (g ≡ s → ⊥) → IsAmong g ss ⊎ ViewWaits after g
      by_shard g low off (inl is) = inr (subst (λ k. ViewWaits after k) (sym is) (own_view (subst (λ k. k < m.shape.shards) is low)))
      by_shard g low off (inr d) =
          by_other g d (o.viewing g low (sym (get_or-set_other c.progress.viewed s g false false d) ∙ sym (ap (λ (vs : List Bool). slice_index_or vs g false) stays.viewed) ∙ off))

opens_each : (m : Members) → ((g : ℕ) → g < m.shape.shards → has_good g m ≡ true) → (ss : List ℕ) (c : Core) → Opens (λ g. IsAmong g ss) m c → Opens NoShard m (each ss change_view c)
opens_each m goods [] c o = record { members = o.members; operations = o.operations; groups = o.groups; views = o.views; each_own = o.each_own; viewing = o.viewing }
opens_each m goods (s ∷ ss) c o = opens_each m goods ss (change_view s c) (by_good (has_good s c.members) refl)
  where
    -- a shard without a good peer is none of them
    none : has_good s c.members ≡ false → (g : ℕ) → g < m.shape.shards → ((g ≡ s) ⊎ IsAmong g ss) ⊎ ViewWaits c g → IsAmong g ss ⊎ ViewWaits c g
    none e g low (inl (inl is)) = absurd (cc (sym e ∙ ap (λ (x : Members). has_good s x) o.members ∙ ap (λ k. has_good k m) (sym is) ∙ goods g low))
    none e g low (inl (inr left)) = inl left
    none e g low (inr h) = inr h

    by_good : (b : Bool) → has_good s c.members ≡ b → Opens (λ g. IsAmong g ss) m (change_if b (begin_view s) c)
    by_good true e = view_opens s ss m c o
    by_good false e = record { members = o.members; operations = o.operations; groups = o.groups; views = o.views; each_own = o.each_own; viewing = λ g low off. none e g low (o.viewing g low off) }

-- ---- statuses stay

view_members : (s : ℕ) (c : Core) → (change_view s c).members ≡ c.members
view_members s c = by_good (has_good s c.members)
  where
    by_good : (b : Bool) → (change_if b (begin_view s) c).members ≡ c.members
    by_good true =
        let listed : Core = change_group s (renew c.members) (set_viewed s false c) in
        let told : Core = post (renewal (group_of s (restart s listed))) (restart s listed) in
        (proposal_stays s (kind.View (view_of s c.members)) told).members
    by_good false = refl

each_members : (ss : List ℕ) (c : Core) → (each ss change_view c).members ≡ c.members
each_members [] c = refl
each_members (s ∷ ss) c = each_members ss (change_view s c) ∙ view_members s c

-- ---- what is told behind the views

record IsBehind (a b : Core) : Type 0 where
  pub stays : Stays a b
  pub operations : b.operations ≡ a.operations

noted : (peer : ℕ) (c : Core) → IsBehind c (note_if_down peer c)
noted peer c = by_good (not (is_good_status (status_of peer c)))
  where
    by_good : (b : Bool) → IsBehind c (change_if b (note who.Store deed.Nothing (reply.Down peer 0)) c)
    by_good true = record { stays = stays_by c (note who.Store deed.Nothing (reply.Down peer 0) c) refl refl refl refl; operations = refl }
    by_good false = record { stays = stays_same c; operations = refl }

all_noted : (peers : List ℕ) (c : Core) → IsBehind c (each peers note_if_down c)
all_noted [] c = record { stays = stays_same c; operations = refl }
all_noted (p ∷ peers) c =
    let one : IsBehind c (note_if_down p c) = noted p c in
    let rest : IsBehind (note_if_down p c) (each peers note_if_down (note_if_down p c)) = all_noted peers (note_if_down p c) in
    record { stays = stays_both c (note_if_down p c) (each peers note_if_down (note_if_down p c)) one.stays rest.stays; operations = rest.operations ∙ one.operations }

event_ended : (c : Core) → IsBehind c (end_event c)
event_ended c = by_room (nat_lt c.limits.ops (length c.journal + length c.entries))
  where
    by_room : (b : Bool) → IsBehind c (if b then refuse_entries c else keep_entries c)
    by_room true = record { stays = stays_by c (refuse_entries c) refl refl refl refl; operations = refl }
    by_room false = record { stays = stays_by c (keep_entries c) refl refl refl refl; operations = refl }

-- ---- the core as it begins

pub range_among : (from n g : ℕ) → from ≤ g → g < from + n → IsAmong g (range_with_len from n)
range_among from zero g low high = absurd (omega (arith, low, high))
range_among from (suc n) g low high = by_first (cases_eq g from) (λ above. range_among (from + 1) n g above (omega (arith, high)))
  where
    by_first : (g ≡ from) ⊎ (g ≡ from → ⊥) → (from + 1 ≤ g → IsAmong g (range_with_len (from + 1) n)) → (g ≡ from) ⊎ IsAmong g (range_with_len (from + 1) n)
    by_first (inl is) later = inl is
    by_first (inr d) later = inr (later (omega (arith, low, d)))

module _ (shape : Shape) (limits : Limits) (taken : Taken) (moment : ℕ) where
  abbrev new : Core
  new = new_core shape limits taken moment

  new_opens : Opens (λ g. IsAmong g (shards_of new)) new.members new
  new_opens = record {
    members = refl;
    operations = refl;
    groups = length-map-range_with_len (taken_group shape taken) 0 shape.shards;
    views = length-replicate shape.shards false;
    each_own = λ g low. ap (λ (x : Group). x.shard) (get_or-map-range_with_len (taken_group shape taken) 0 shape.shards g g (new_group shape g 0 0 []) low (omega arith));
    viewing = λ g low off. inl (in_range g low);
  }
    where
      in_range : (g : ℕ) → g < shape.shards → IsAmong g (range_with_len 0 shape.shards)
      in_range g low = range_among 0 shape.shards g (omega arith) (omega (arith, low))

  -- behind the views nothing changes of what waits
  behind : IsBehind (begin_views new) (open_core shape limits taken moment)
  behind =
      let viewed : Core = begin_views new in
      let told : IsBehind viewed (note_down viewed) = all_noted (all_peers (shape_of viewed)) viewed in
      let ended : IsBehind (note_down viewed) (end_event (note_down viewed)) = event_ended (note_down viewed) in
      record { stays = stays_both viewed (note_down viewed) (end_event (note_down viewed)) told.stays ended.stays; operations = ended.operations ∙ told.operations }

  pub opened_members : (open_core shape limits taken moment).members ≡ new.members
  opened_members = behind.stays.members ∙ each_members (shards_of new) new

  pub opened_most : (name : List ℕ → Address) → ((g : ℕ) → g < shape.shards → has_good g new.members ≡ true) → Most name NoLine NoShard (open_core shape limits taken moment)
  opened_most name goods =
      let o : Opens NoShard new.members (begin_views new) = opens_each new.members goods (shards_of new) new new_opens in
      let viewed : Most name NoLine NoShard (begin_views new) = record {
        views = o.views ∙ ap (λ (m : Members). m.shape.shards) (sym o.members);
        viewing = λ g low off. o.viewing g (subst (λ (m : Members). g < m.shape.shards) o.members low) off;
        caused = λ l w at. absurd (nobody l w o.operations at);
      } in
      most_stays name (begin_views new) (open_core shape limits taken moment) behind.stays NoLine NoShard behind.operations viewed
    where
      nobody : (l : ℕ) (w : Waiting) → (begin_views new).operations ≡ [] → operation_of l (begin_views new) ≡ Some w → ⊥
      nobody l w none at = cc (sym (ap (λ (es : List (ℕ × Waiting)). lookup (is_at (nat_cmp l)) es) none) ∙ at)

  -- where the core does not end at once each shard has a good peer
  pub opened_caused : (name : List ℕ → Address) → (open_core shape limits taken moment).ended ≡ None → IsOrderly name (open_core shape limits taken moment) × AreCaused name (open_core shape limits taken moment)
  opened_caused name on = (open_orderly name shape limits taken moment, all_most name (open_core shape limits taken moment) (opened_most name goods))
    where
      goods : (g : ℕ) → g < shape.shards → has_good g (first_members shape taken) ≡ true
      goods g low = go (has_good g (first_members shape taken)) refl
        where
          go : (b : Bool) → has_good g (first_members shape taken) ≡ b → has_good g (first_members shape taken) ≡ true
          go true e = e
          go false e = absurd (first_none shape limits taken moment g low e on)
