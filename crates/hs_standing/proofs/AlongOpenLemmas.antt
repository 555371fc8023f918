-- A core as it opens: what its first views and the changes beside a run keep.
use Rattle.std.proofs.Common.{◌≡◌, ◌∙◌, sym, ap, subst, ◌⊎◌, inl, inr, ℕ, zero, suc, ◌+◌, ◌<◌, ◌≤◌, Bool, true, false, not, List, [], ◌∷◌, arith, map, Option, Some, None, refl}
use Rattle.std.specs.List.{range_with_len}
use Rattle.std.specs.Prelude.{slice_index_or}
use Rattle.hs_standing.specs.Walks.{WalksOpen}
use Rattle.hs_standing.proofs.BesideLemmas.{beside_ended}
use Rattle.hs_awaiting.specs.declared.waiting.Waiting.{Waiting}
use Rattle.hs_awaiting.specs.Words.{change_if, change_with, each}
use Rattle.hs_core_words.specs.Changing.{add_entry_tasks, change_group, note, post, set_viewed}
use Rattle.hs_core_words.specs.Looking.{group_of, lead_of, shape_of, status_of}
use Rattle.hs_core_words.specs.Opening.{Taken, begin_views, new_core, note_down, note_if_down, open_core, taken_group}
use Rattle.hs_core_words.specs.State.{Core}
use Rattle.hs_core_words.specs.Step.{end_event}
use Rattle.hs_core_words.specs.Views.{begin_view, change_view, restart}
use Rattle.hs_effects.proofs.GroupLemmas.{group_changed}
use Rattle.hs_entry.specs.declared.entry.Entry.{Entry}
use Rattle.hs_entry.specs.declared.entry.Entry.TheVariants as kind
use Rattle.hs_journal.specs.declared.entry.Who.TheVariants as who
use Rattle.hs_limits.specs.declared.limits.Limits.{Limits}
use Rattle.hs_limits.specs.declared.shape.Shape.{Shape}
use Rattle.hs_members.specs.Members.{Members, all_peers, has_good, is_good_status, view_of}
use Rattle.hs_model.specs.declared.deed.Deed.TheVariants as deed
use Rattle.hs_model.specs.declared.op.Op.{Op}
use Rattle.hs_model.specs.declared.reply.Reply.TheVariants as reply
use Rattle.hs_replica.specs.Group.{Group, last_number, new_group, proposal, propose, renew, renewal}

-- ---- nothing waits

none_wait : (shape : Shape) (taken : Taken) (shards : List ℕ) (g : ℕ) (none : Group) → none.waiting ≡ [] → (slice_index_or (map (taken_group shape taken) shards) g none).waiting ≡ []
none_wait shape taken [] g none e = e
none_wait shape taken (s ∷ shards) zero none e = refl
none_wait shape taken (s ∷ shards) (suc g) none e = none_wait shape taken shards g none e

-- before the first view of a shard: nothing waits there or behind it, no operation is there, and nothing found the journal full
record IsNew (from : ℕ) (shape : Shape) (c : Core) : Type 0 where
  pub same_shape : shape_of c ≡ shape
  pub waits : (g : ℕ) → from ≤ g → (group_of g c).waiting ≡ []
  pub idle : c.operations ≡ []
  pub clean : c.refused ≡ []

other_list : (shard : ℕ) (f : Group → Group) (c : Core) (g : ℕ) → (g ≡ shard → ⊥) → group_of g (change_group shard f c) ≡ group_of g c
other_list shard f c g d = go (group_changed shard f c g)
  where
    go : (group_of g (change_group shard f c) ≡ group_of g c) ⊎ ((g ≡ shard) × (group_of g (change_group shard f c) ≡ f (group_of shard c))) → group_of g (change_group shard f c) ≡ group_of g c
    go (inl same) = same
    go (inr is) = absurd (d is.0)

-- the jobs of an entry are beside
record AddsJobs (a b : Core) : Type 0 where
  pub members : b.members ≡ a.members
  pub groups : b.groups ≡ a.groups
  pub operations : b.operations ≡ a.operations
  pub refused : b.refused ≡ a.refused

adds_jobs : (lead : Option ℕ) (number : ℕ) (entry : Entry) (c : Core) → AddsJobs c (change_with lead (λ peer. add_entry_tasks peer number entry) c)
adds_jobs None number entry c = record { members = refl; groups = refl; operations = refl; refused = refl }
adds_jobs (Some peer) number entry c = record { members = refl; groups = refl; operations = refl; refused = refl }

above : (from g : ℕ) → from + 1 ≤ g → g ≡ from → ⊥
above from g le same = absurd (omega (arith, le, same))

at_least : (from g : ℕ) → from + 1 ≤ g → from ≤ g
at_least from g le = omega (arith, le)

new_viewed : (from : ℕ) (shape : Shape) (c : Core) → IsNew from shape c → IsNew (from + 1) shape (begin_view from c)
new_viewed from shape c n = record {
  same_shape = ap (λ (m : Members). m.shape) jobs.members ∙ n.same_shape;
  waits = λ g le. same_list g le ∙ n.waits g (at_least from g le);
  idle = jobs.operations ∙ ap (λ (es : List (ℕ × Waiting)). (restart from (record told { operations = es })).operations) n.idle;
  clean = jobs.refused ∙ n.clean;
}
  where
    told : Core
    told = change_group from (renew c.members) (set_viewed from false c)

    restarted : Core
    restarted = restart from told

    sent : Core
    sent = post (renewal (group_of from restarted)) restarted

    entry : Entry
    entry = kind.View (view_of from sent.members)

    listed : Core
    listed = change_group from (propose entry) sent

    jobs : AddsJobs (post (proposal entry (group_of from sent)) listed) (begin_view from c)
    jobs = adds_jobs (lead_of from sent) (last_number (group_of from sent) + 1) entry (post (proposal entry (group_of from sent)) listed)

    same_list : (g : ℕ) → from + 1 ≤ g → (group_of g (begin_view from c)).waiting ≡ (group_of g c).waiting
    same_list g le =
        ap (λ (m : Members). (slice_index_or (begin_view from c).groups g (new_group m.shape g 0 0 [])).waiting) jobs.members
        ∙ ap (λ (gs : List Group). (slice_index_or gs g (new_group (shape_of listed) g 0 0 [])).waiting) jobs.groups
        ∙ ap (λ (x : Group). x.waiting) (other_list from (propose entry) sent g (above from g le))
        ∙ ap (λ (x : Group). x.waiting) (other_list from (renew c.members) (set_viewed from false c) g (above from g le))

new_passed : (from : ℕ) (shape : Shape) (c : Core) → IsNew from shape c → IsNew (from + 1) shape c
new_passed from shape c n = record { same_shape = n.same_shape; waits = λ g le. n.waits g (at_least from g le); idle = n.idle; clean = n.clean }

-- ---- a core as it opens

module _ {MayLine : ℕ → Op → Core → Type 0} {MayTell : ℕ → Option (List ℕ) → Waiting → Core → Type 0} {MayRefuse : ℕ → Type 0} {Q : Core → Type 0} (V : WalksOpen MayLine MayTell MayRefuse Q) where
  view_opens : (from : ℕ) (shape : Shape) (c : Core) → from < shape.shards → IsNew from shape c → Q c → Q (change_view from c) × IsNew (from + 1) shape (change_view from c)
  view_opens from shape c low n q = go (has_good from c.members)
    where
      go : (b : Bool) → Q (change_if b (begin_view from) c) × IsNew (from + 1) shape (change_if b (begin_view from) c)
      go true = (V.opens from c (subst (λ (s : Shape). from < s.shards) (sym n.same_shape) low) (n.waits from (omega arith)) n.idle q, new_viewed from shape c n)
      go false = (q, new_passed from shape c n)

  views_open : (from more : ℕ) (shape : Shape) (c : Core) → from + more ≤ shape.shards → IsNew from shape c → Q c → Q (each (range_with_len from more) change_view c) × ((each (range_with_len from more) change_view c).refused ≡ [])
  views_open from zero shape c low n q = (q, n.clean)
  views_open from (suc more) shape c low n q =
      let one = view_opens from shape c (omega (arith, low)) n q in
      views_open (from + 1) more shape (change_view from c) (omega (arith, low)) one.1 one.0

  downs_open : (peers : List ℕ) (c : Core) → c.refused ≡ [] → Q c → Q (each peers note_if_down c) × ((each peers note_if_down c).refused ≡ [])
  downs_open [] c none q = (q, none)
  downs_open (peer ∷ peers) c none q = let one = down (not (is_good_status (status_of peer c))) in downs_open peers (note_if_down peer c) one.1 one.0
    where
      down : (b : Bool) → Q (change_if b (note who.Store deed.Nothing (reply.Down peer 0)) c) × ((change_if b (note who.Store deed.Nothing (reply.Down peer 0)) c).refused ≡ [])
      down true = (V.walks.downed peer 0 c q, none)
      down false = (q, none)

  pub opens_core : (shape : Shape) (limits : Limits) (taken : Taken) (moment : ℕ) → Q (new_core shape limits taken moment) → Q (open_core shape limits taken moment)
  opens_core shape limits taken moment q =
      let new : Core = new_core shape limits taken moment in
      let viewed = views_open 0 shape.shards shape new (omega arith) (record { same_shape = refl; waits = λ g le. none_wait shape taken (range_with_len 0 shape.shards) g (new_group shape g 0 0 []) refl; idle = refl; clean = refl }) q in
      let noted = downs_open (all_peers (shape_of (begin_views new))) (begin_views new) viewed.1 viewed.0 in
      V.walks.beside (note_down (begin_views new)) (end_event (note_down (begin_views new))) (beside_ended (note_down (begin_views new)) noted.1) noted.0
