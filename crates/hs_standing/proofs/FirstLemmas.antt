-- What first views, notes and changes beside a run keep, a core keeps as it opens.
use Rattle.std.proofs.Common.{◌≡◌, ◌∙◌, ap, sym, subst, ℕ, zero, suc, ◌+◌, ◌<◌, not, Bool, true, false, List, [], ◌∷◌, Option, Some, None, refl, arith, map}
use Rattle.std.specs.List.{range_with_len}
use Rattle.hs_standing.proofs.BesideLemmas.{beside_ended}
use Rattle.hs_standing.specs.Changes.{IsBeside}
use Rattle.hs_awaiting.specs.declared.waiting.Waiting.{Waiting}
use Rattle.hs_awaiting.specs.Views.{restarted}
use Rattle.hs_awaiting.specs.Words.{change_if, change_with, each}
use Rattle.hs_core_words.specs.Changing.{add_entry_tasks, change_group, note, post, set_viewed}
use Rattle.hs_core_words.specs.Looking.{group_of, lead_of, shape_of, status_of}
use Rattle.hs_core_words.specs.Opening.{Taken, begin_views, new_core, note_down, note_if_down, open_core}
use Rattle.hs_core_words.specs.Operating.{propose_entry}
use Rattle.hs_core_words.specs.State.{Core}
use Rattle.hs_core_words.specs.Views.{begin_view, change_view, restart}
use Rattle.hs_entry.specs.declared.entry.Entry.{Entry}
use Rattle.hs_entry.specs.declared.entry.Entry.TheVariants as kind
use Rattle.hs_journal.specs.declared.entry.Who.TheVariants as who
use Rattle.hs_limits.specs.declared.limits.Limits.{Limits}
use Rattle.hs_limits.specs.declared.shape.Shape.{Shape}
use Rattle.hs_members.specs.Members.{all_peers, has_good, is_good_status, view_of}
use Rattle.hs_model.specs.declared.deed.Deed.TheVariants as deed
use Rattle.hs_model.specs.declared.reply.Reply.TheVariants as reply
use Rattle.hs_replica.specs.Group.{last_number, proposal, propose, renew, renewal}

-- ---- what a first view leaves

-- what no proposal changes
record LeavesRest (a b : Core) : Type 0 where
  pub shape : shape_of b ≡ shape_of a
  pub operations : b.operations ≡ a.operations
  pub refused : b.refused ≡ a.refused

leaves_tasks : (l : Option ℕ) (n : ℕ) (entry : Entry) (c : Core) → LeavesRest c (change_with l (λ peer. add_entry_tasks peer n entry) c)
leaves_tasks None n entry c = record { shape = refl; operations = refl; refused = refl }
leaves_tasks (Some peer) n entry c = record { shape = refl; operations = refl; refused = refl }

leaves_proposal : (shard : ℕ) (entry : Entry) (c : Core) → LeavesRest c (propose_entry shard entry c)
leaves_proposal shard entry c =
    let one : Core = post (proposal entry (group_of shard c)) (change_group shard (propose entry) c) in
    let l : LeavesRest one (propose_entry shard entry c) = leaves_tasks (lead_of shard c) (last_number (group_of shard c) + 1) entry one in
    record { shape = l.shape; operations = l.operations; refused = l.refused }

-- nothing was begun, and nothing found the journal full
pub record IsFresh (shape : Shape) (c : Core) : Type 0 where
  pub same : shape_of c ≡ shape
  pub idle : c.operations ≡ []
  pub clean : c.refused ≡ []

view_fresh : (shape : Shape) (shard : ℕ) (c : Core) → IsFresh shape c → IsFresh shape (begin_view shard c)
view_fresh shape shard c f =
    let cut : Core = change_group shard (renew c.members) (set_viewed shard false c) in
    let posted : Core = post (renewal (group_of shard (restart shard cut))) (restart shard cut) in
    let l : LeavesRest posted (begin_view shard c) = leaves_proposal shard (kind.View (view_of shard posted.members)) posted in
    record {
      same = l.shape ∙ f.same;
      idle = l.operations ∙ ap (λ (es : List (ℕ × Waiting)). map (λ e. (e.0, restarted shard (last_number (group_of shard cut)) e.1)) es) f.idle;
      clean = l.refused ∙ f.clean;
    }

-- ---- as it opens

pub record KeepsFirst (P : Core → Type 0) : Type 0 where
  pub beside : (a b : Core) → IsBeside a b → P a → P b
  pub downed : (peer : ℕ) (c : Core) → P c → P (note who.Store deed.Nothing (reply.Down peer 0) c)
  pub views : (shard : ℕ) (c : Core) → shard < (shape_of c).shards → c.operations ≡ [] → P c → P (begin_view shard c)

module _ (P : Core → Type 0) (keeps : KeepsFirst P) (shape : Shape) where
  record Held (c : Core) : Type 0 where
    pub fresh : IsFresh shape c
    pub holds : P c

  view_held : (shard : ℕ) (c : Core) → shard < shape.shards → Held c → Held (change_view shard c)
  view_held shard c low h = by_good (has_good shard c.members)
    where
      by_good : (b : Bool) → Held (change_if b (begin_view shard) c)
      by_good true = record { fresh = view_fresh shape shard c h.fresh; holds = keeps.views shard c (subst (λ (x : Shape). shard < x.shards) (sym h.fresh.same) low) h.fresh.idle h.holds }
      by_good false = h

  views_held : (from n : ℕ) (c : Core) → ((k : ℕ) → k < from + n → k < shape.shards) → Held c → Held (each (range_with_len from n) change_view c)
  views_held from zero c low h = h
  views_held from (suc n) c low h = views_held (from + 1) n (change_view from c) (λ k l. low k (omega (arith, l))) (view_held from c (low from (omega arith)) h)

  down_held : (peer : ℕ) (c : Core) → Held c → Held (note_if_down peer c)
  down_held peer c h = by_good (not (is_good_status (status_of peer c)))
    where
      by_good : (b : Bool) → Held (change_if b (note who.Store deed.Nothing (reply.Down peer 0)) c)
      by_good true = record { fresh = record { same = h.fresh.same; idle = h.fresh.idle; clean = h.fresh.clean }; holds = keeps.downed peer c h.holds }
      by_good false = h

  downs_held : (peers : List ℕ) (c : Core) → Held c → Held (each peers note_if_down c)
  downs_held [] c h = h
  downs_held (p ∷ peers) c h = downs_held peers (note_if_down p c) (down_held p c h)

  pub first_held : (limits : Limits) (taken : Taken) (moment : ℕ) → P (new_core shape limits taken moment) → P (open_core shape limits taken moment)
  first_held limits taken moment p =
      let a : Core = new_core shape limits taken moment in
      let viewed : Held (begin_views a) = views_held 0 shape.shards a (λ k low. omega (arith, low)) (record { fresh = record { same = refl; idle = refl; clean = refl }; holds = p }) in
      let noted : Held (note_down (begin_views a)) = downs_held (all_peers (shape_of (begin_views a))) (begin_views a) viewed in
      keeps.beside (note_down (begin_views a)) (open_core shape limits taken moment) (beside_ended (note_down (begin_views a)) noted.fresh.clean) noted.holds
