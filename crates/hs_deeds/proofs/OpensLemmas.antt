-- A core that opens has told deeds alone: that peers are down.
use Rattle.std.proofs.Common.{◌≡◌, ◌∙◌, sym, ap, subst, ℕ, Bool, true, false, not, List, [], ◌∷◌, ◌++◌, None, refl, Option, Some, length, nat_lt, ◌+◌, if◌then◌else◌}
use Rattle.hs_awaiting.specs.Words.{change_if, each, change_with}
use Rattle.hs_core_words.specs.Changing.{change_group, note, post, set_viewed, add_entry_tasks}
use Rattle.hs_core_words.specs.Looking.{group_of, shape_of, shards_of, status_of, lead_of}
use Rattle.hs_core_words.specs.Opening.{Taken, begin_views, new_core, note_down, note_if_down, open_core}
use Rattle.hs_core_words.specs.State.{Core}
use Rattle.hs_core_words.specs.Step.{end_event, refuse_entries, keep_entries}
use Rattle.hs_core_words.specs.Views.{begin_view, change_view, restart}
use Rattle.hs_deeds.proofs.GoOnLemmas.{tells_nothing}
use Rattle.hs_deeds.proofs.MarkedLemmas.{points_beside, points_new, points_opens}
use Rattle.hs_deeds.proofs.OnLemmas.{after_join, deeds_join}
use Rattle.hs_deeds.proofs.WalkLemmas.{began_told, deeds_more, same_told}
use Rattle.hs_deeds.specs.Bare.{bare_store}
use Rattle.hs_deeds.specs.History.{HasTold, deeds_of}
use Rattle.hs_deeds.specs.Points.{MarksPoint}
use Rattle.hs_deeds.specs.Told.{store_after}
use Rattle.hs_effects.proofs.QuietLemmas.{proposed_quiet}
use Rattle.hs_entry.specs.declared.entry.Entry.{Entry}
use Rattle.hs_entry.specs.declared.entry.Entry.TheVariants as kind
use Rattle.hs_journal.specs.declared.entry.JournalEntry.{JournalEntry}
use Rattle.hs_journal.specs.declared.entry.Who.TheVariants as who
use Rattle.hs_limits.specs.declared.limits.Limits.{Limits}
use Rattle.hs_limits.specs.declared.shape.Shape.{Shape}
use Rattle.hs_members.specs.Members.{all_peers, has_good, is_good_status, view_of}
use Rattle.hs_model.specs.declared.deed.Deed.TheVariants as deed
use Rattle.hs_model.specs.declared.reply.Reply.TheVariants as reply
use Rattle.hs_model.specs.Deeds.{AreDeeds, DeedEntry}
use Rattle.hs_model.specs.Store.{Store}
use Rattle.hs_replica.specs.Group.{renew, renewal, last_number, proposal, propose}
use Rattle.hs_standing.proofs.BesideLemmas.{beside_ended}
use Rattle.hs_standing.proofs.MuteLemmas.{Books, Words, proposed_books, proposed_words}
use Rattle.hs_standing.specs.Changes.{IsBeside}

each_keeps : {A B : Type 0} (P : A → Type 0) (f : B → A → A) → ((y : B) (x : A) → P x → P (f y x)) → (ys : List B) (x : A) → P x → P (each ys f x)
each_keeps P f keeps [] x p = p
each_keeps P f keeps (y ∷ ys) x p = each_keeps P f keeps ys (f y x) (keeps y x p)

-- that a peer is down is a deed
noted_told : (limits : Limits) (start : Store) (c : Core) (peer line : ℕ) → HasTold limits start c → HasTold limits start (note who.Store deed.Nothing (reply.Down peer line) c)
noted_told limits start c peer line its = record {
  deeds = subst (λ (es : List DeedEntry). AreDeeds limits start [] es) (sym all) (deeds_join limits start [] (deeds_of c) (d ∷ []) its.deeds (record { printed = refl; done = tt }, tt));
  left = ap (λ (es : List DeedEntry). store_after start es) all ∙ after_join start (deeds_of c) (d ∷ []) ∙ its.left;
}
  where
    entry : JournalEntry
    entry = record { who = who.Store; moment = c.moment; deed = deed.Nothing; reply = reply.Down peer line }

    d : DeedEntry
    d = record { line = None; deed = deed.Nothing; reply = reply.Down peer line }

    all : deeds_of (note who.Store deed.Nothing (reply.Down peer line) c) ≡ deeds_of c ++ d ∷ []
    all = deeds_more c (note who.Store deed.Nothing (reply.Down peer line) c) (entry ∷ []) refl refl refl

module _ (limits : Limits) (start : Store) where
  record HasOpened (c : Core) : Type 0 where
    points : MarksPoint c
    told : HasTold limits start c
    clean : c.refused ≡ []

  view_opens : (shard : ℕ) (c : Core) → HasOpened c → HasOpened (change_view shard c)
  view_opens shard c its = by (has_good shard c.members)
    where
      again : Core
      again = restart shard (change_group shard (renew c.members) (set_viewed shard false c))

      posted : Core
      posted = post (renewal (group_of shard again)) again

      by : (b : Bool) → HasOpened (change_if b (begin_view shard) c)
      by false = its
      by true = record {
        points = points_opens shard c its.points;
        told = same_told limits start c (begin_view shard c) (began_told shard c) (proposed_quiet shard (kind.View (view_of shard c.members)) posted).catalogues
            (ap (λ (x : Words). x.sessions) (proposed_words shard (kind.View (view_of shard c.members)) posted)) its.told;
        clean = ap (λ (x : Books). x.refused) (proposed_books shard (kind.View (view_of shard c.members)) posted) ∙ its.clean;
      }

  down_opens : (peer : ℕ) (c : Core) → HasOpened c → HasOpened (note_if_down peer c)
  down_opens peer c its = by (not (is_good_status (status_of peer c)))
    where
      by : (b : Bool) → HasOpened (change_if b (note who.Store deed.Nothing (reply.Down peer 0)) c)
      by false = its
      by true = record { points = its.points; told = noted_told limits start c peer 0 its.told; clean = its.clean }

  pub record IsOpenTelling (c : Core) : Type 0 where
    pub points : MarksPoint c
    pub told : HasTold limits start c

  ended : (c : Core) → HasOpened c → IsOpenTelling (end_event c)
  ended c its =
      let b : IsBeside c (end_event c) = beside_ended c its.clean in
      record { points = points_beside c (end_event c) b its.points; told = same_told limits start c (end_event c) b.told b.catalogues b.sessions its.told }

pub opens_telling : (shape : Shape) (limits : Limits) (taken : Taken) (moment : ℕ) → IsOpenTelling limits (bare_store (new_core shape limits taken moment)) (open_core shape limits taken moment)
opens_telling shape limits taken moment =
    ended limits start (note_down (begin_views new))
    (each_keeps (λ c. HasOpened limits start c) note_if_down (λ peer c its. down_opens limits start peer c its) (all_peers (shape_of (begin_views new))) (begin_views new)
    (each_keeps (λ c. HasOpened limits start c) change_view (λ shard c its. view_opens limits start shard c its) (shards_of new) new
    (record { points = points_new shape limits taken moment; told = tells_nothing limits new refl; clean = refl })))
  where
    new : Core
    new = new_core shape limits taken moment

    start : Store
    start = bare_store new

-- ---- no line was begun

pub record HasNoLine (c : Core) : Type 0 where
  pub event_line : c.progress.event_line ≡ 0
  pub last_line : c.progress.last_line ≡ 0

no_line_with : (a b : Core) → b.progress.event_line ≡ a.progress.event_line → b.progress.last_line ≡ a.progress.last_line → HasNoLine a → HasNoLine b
no_line_with a b e f its = record { event_line = e ∙ its.event_line; last_line = f ∙ its.last_line }

view_lines : (shard : ℕ) (c : Core) → HasNoLine c → HasNoLine (change_view shard c)
view_lines shard c its = by (has_good shard c.members)
  where
    again : Core
    again = restart shard (change_group shard (renew c.members) (set_viewed shard false c))

    posted : Core
    posted = post (renewal (group_of shard again)) again

    entry : Entry
    entry = kind.View (view_of shard c.members)

    jobs : (lead : Option ℕ) → HasNoLine (change_with lead (λ peer. add_entry_tasks peer (last_number (group_of shard posted) + 1) entry) (post (proposal entry (group_of shard posted)) (change_group shard (propose entry) posted)))
    jobs None = record { event_line = its.event_line; last_line = its.last_line }
    jobs (Some peer) = record { event_line = its.event_line; last_line = its.last_line }

    by : (b : Bool) → HasNoLine (change_if b (begin_view shard) c)
    by false = its
    by true = jobs (lead_of shard posted)

down_lines : (peer : ℕ) (c : Core) → HasNoLine c → HasNoLine (note_if_down peer c)
down_lines peer c its = by (not (is_good_status (status_of peer c)))
  where
    by : (b : Bool) → HasNoLine (change_if b (note who.Store deed.Nothing (reply.Down peer 0)) c)
    by false = its
    by true = record { event_line = its.event_line; last_line = its.last_line }

end_lines : (c : Core) → HasNoLine c → HasNoLine (end_event c)
end_lines c its = by (nat_lt c.limits.ops (length c.journal + length c.entries))
  where
    by : (full : Bool) → HasNoLine (if full then refuse_entries c else keep_entries c)
    by true = record { event_line = its.event_line; last_line = its.last_line }
    by false = record { event_line = its.event_line; last_line = its.last_line }

pub opens_lines : (shape : Shape) (limits : Limits) (taken : Taken) (moment : ℕ) → HasNoLine (open_core shape limits taken moment)
opens_lines shape limits taken moment =
    end_lines (note_down (begin_views new))
    (each_keeps HasNoLine note_if_down down_lines (all_peers (shape_of (begin_views new))) (begin_views new)
    (each_keeps HasNoLine change_view view_lines (shards_of new) new (record { event_line = refl; last_line = refl })))
  where
    new : Core
    new = new_core shape limits taken moment
