-- As a run begins no operation is there, no View has taken effect, and what disks may have is of the leads' lists.
use Rattle.std.proofs.Common.{◌≡◌, ◌∙◌, ap, sym, subst, refl, inl, inr, arith, ℕ, zero, suc, ◌+◌, ◌<◌, Bool, true, false, List, [], ◌∷◌, Option, Some, None, cond, length, not}
use Rattle.std.specs.BTreeMap.{is_at}
use Rattle.std.specs.Map.{lookup}
use Rattle.std.specs.Ordering.{nat_cmp}
use Rattle.std.specs.Prelude.{map, nat_lt, replicate, slice_index_or, slice_set}
use Rattle.hs_anatomy.proofs.AsideLemmas.{kept_propose}
use Rattle.hs_anatomy.proofs.LookLemmas.{one_or_other}
use Rattle.hs_anatomy.specs.Kept.{Kept}
use Rattle.hs_awaiting.specs.declared.waiting.Waiting.{Waiting}
use Rattle.hs_awaiting.specs.Views.{restarted}
use Rattle.hs_awaiting.specs.Words.{change_if, each}
use Rattle.hs_core_copies.specs.InStep.{IsOf}
use Rattle.hs_core_words.specs.Changing.{change_group, note, post, set_viewed}
use Rattle.hs_core_words.specs.Looking.{front_of, group_of, operation_of, shape_of, shards_of, status_of}
use Rattle.hs_core_words.specs.Opening.{Taken, begin_views, new_core, note_down, note_if_down, open_core}
use Rattle.hs_core_words.specs.Records.{HasRecordRoom}
use Rattle.hs_core_words.specs.State.{Core}
use Rattle.hs_core_words.specs.Step.{end_event, keep_entries, refuse_entries}
use Rattle.hs_core_words.specs.Views.{begin_view, change_view, restart}
use Rattle.hs_entry.specs.declared.entry.Entry.TheVariants as kind
use Rattle.hs_events.specs.Found.{Found, first_core, opens_with}
use Rattle.hs_events.specs.Whole.{open_whole, reach}
use Rattle.hs_fold.specs.Shards.Images.{Stop}
use Rattle.hs_fold.specs.Shards.Setting.{Numbered}
use Rattle.hs_journal.specs.declared.entry.Who.TheVariants as who
use Rattle.hs_limits.specs.declared.limits.Limits.{Limits}
use Rattle.hs_limits.specs.declared.shape.Shape.{Shape}
use Rattle.hs_members.specs.Members.{all_peers, has_good, is_good_status, view_of}
use Rattle.hs_model.specs.declared.deed.Deed.TheVariants as deed
use Rattle.hs_model.specs.declared.reply.Reply.TheVariants as reply
use Rattle.hs_replica.specs.Group.{last_number, renew, renewal}
use Rattle.hs_standing.proofs.RunLemmas.{LawsBelow}
use Rattle.hs_standing.specs.Run.{RunBegins}
use Rattle.hs_standing.specs.Standing.{AreBegun}
use Rattle.hs_standing.specs.Start.{Start}
use Rattle.hs_tails.proofs.BeginLemmas.{first_list, first_shape, first_stands, k, opened, tails_begin}
use Rattle.hs_tails.proofs.LinedLemmas.{cleared_at, set_elsewhere}
use Rattle.hs_tails.proofs.MovedLemmas.{proposed_operations}
use Rattle.hs_tails.proofs.OpenLinesLemmas.{lead_lines}
use Rattle.hs_tails.proofs.SameViewLemmas.{same_propose}
use Rattle.hs_tails.specs.Chosen.{tail_behind}
use Rattle.hs_tails.specs.Lines.{is_viewed}
use Rattle.hs_tails.specs.Run.{RunsWithOpenTails}
use Rattle.hs_tails.specs.Tails.{HasOpenLines}

-- no operation is there, no View has taken effect, and no line has come
record IsIdleCore (c : Core) : Type 0 where
  pub idle : c.operations ≡ []
  pub line : c.progress.event_line ≡ 0
  pub none : (g : ℕ) → is_viewed g c ≡ false

none_viewed : (n g : ℕ) → slice_index_or (replicate n false) g false ≡ false
none_viewed zero g = refl
none_viewed (suc n) zero = refl
none_viewed (suc n) (suc g) = none_viewed n g

idle_view : (shard : ℕ) (c : Core) → IsIdleCore c → IsIdleCore (begin_view shard c)
idle_view shard c h =
    let cut : Core = change_group shard (renew c.members) (set_viewed shard false c) in
    let posted : Core = post (renewal (group_of shard (restart shard cut))) (restart shard cut) in
    record {
      idle = proposed_operations shard (kind.View (view_of shard c.members)) posted ∙ ap (λ (es : List (ℕ × Waiting)). map (λ (e : ℕ × Waiting). (e.0, restarted shard (last_number (group_of shard cut)) e.1)) es) h.idle;
      line = ap (λ (x : Kept). x.event_line) (kept_propose shard (kind.View (view_of shard c.members)) posted) ∙ h.line;
      none = λ g. ap (λ vs. slice_index_or vs g false) (same_propose shard (kind.View (view_of shard c.members)) posted).viewed ∙ elim (one_or_other g shard) [
        | inl is ↦ ap (λ j. slice_index_or (slice_set c.progress.viewed shard false) j false) is ∙ cleared_at c.progress.viewed shard
        | inr apart ↦ set_elsewhere c.progress.viewed shard g false apart ∙ h.none g
      ];
    }

idle_if : (b : Bool) (f : Core → Core) (c : Core) → ((x : Core) → IsIdleCore x → IsIdleCore (f x)) → IsIdleCore c → IsIdleCore (change_if b f c)
idle_if true f c keep h = keep c h
idle_if false f c keep h = h

idle_each : (ys : List ℕ) (f : ℕ → Core → Core) (c : Core) → ((y : ℕ) (x : Core) → IsIdleCore x → IsIdleCore (f y x)) → IsIdleCore c → IsIdleCore (each ys f c)
idle_each [] f c keep h = h
idle_each (y ∷ ys) f c keep h = idle_each ys f (f y c) keep (keep y c h)

idle_change : (shard : ℕ) (c : Core) → IsIdleCore c → IsIdleCore (change_view shard c)
idle_change shard c h = idle_if (has_good shard c.members) (begin_view shard) c (λ x i. idle_view shard x i) h

idle_down : (peer : ℕ) (c : Core) → IsIdleCore c → IsIdleCore (note_if_down peer c)
idle_down peer c h = idle_if (not (is_good_status (status_of peer c))) (note who.Store deed.Nothing (reply.Down peer 0)) c (λ x i. record { idle = i.idle; line = i.line; none = i.none }) h

idle_end : (c : Core) → IsIdleCore c → IsIdleCore (end_event c)
idle_end c h = go (nat_lt c.limits.ops (length c.journal + length c.entries))
  where
    go : (t : Bool) → IsIdleCore (cond t (refuse_entries c) (keep_entries c))
    go true = record { idle = h.idle; line = h.line; none = h.none }
    go false = record { idle = h.idle; line = h.line; none = h.none }

idle_opens : (shape : Shape) (limits : Limits) (taken : Taken) (moment : ℕ) → IsIdleCore (open_core shape limits taken moment)
idle_opens shape limits taken moment =
    let a : Core = new_core shape limits taken moment in
    let viewed : IsIdleCore (begin_views a) = idle_each (shards_of a) change_view a idle_change (record { idle = refl; line = refl; none = λ g. none_viewed shape.shards g }) in
    idle_end (note_down (begin_views a)) (idle_each (all_peers (shape_of (begin_views a))) note_if_down (begin_views a) idle_down viewed)

-- so no line was begun
pub first_begun : (start : Start) (stop : Stop) (found : Found) → AreBegun start stop (first_core start.set found)
first_begun start stop found line some low client =
    let none = (idle_opens start.set.shape start.set.limits (opens_with start.set found) found.opened).line in
    absurd (omega (arith, some, low, none))

none_there : (w : Waiting) (o : Option Waiting) → o ≡ None → o ≡ Some w → ⊥
none_there w o none some = let wrong : None ≡ Some w = sym none ∙ some in cc wrong

module _ (below : LawsBelow) (start : Start) (found : Found) (b : RunBegins start found) (on : (first_core start.set found).ended ≡ None) (few : HasRecordRoom (first_core start.set found)) where
  first_idle : IsIdleCore (first_core start.set found)
  first_idle = idle_opens start.set.shape start.set.limits (opens_with start.set found) found.opened

  no_operation : (line : ℕ) → operation_of line (first_core start.set found) ≡ None
  no_operation line = ap (λ (es : List (ℕ × Waiting)). lookup (is_at (nat_cmp line)) es) first_idle.idle

  low_in : (g : ℕ) → g < (shape_of (first_core start.set found)).shards → g < start.set.shape.shards
  low_in g low = subst (λ (x : Shape). g < x.shards) (first_shape below start found b on few) low

  first_lines : (g q : ℕ) → g < (shape_of (first_core start.set found)).shards → IsOf (shape_of (first_core start.set found)) g q
      → HasOpenLines (first_core start.set found) g (tail_behind (front_of g (first_core start.set found)) (reach (open_whole start.set found) q))
  first_lines g q low own =
      let l = first_list below start found b on few g (low_in g low) q own in
      subst (λ (xs : Numbered). HasOpenLines (first_core start.set found) g (tail_behind (front_of g (first_core start.set found)) xs)) (sym l.1.0)
      (lead_lines below.alone start.set.name (first_core start.set found) (first_stands below start found b on few).orderly g ((opened below start found b on few).0 g) (k below start found b on few g (low_in g low)).in_step l.0 l.1.1)

  pub lines_begin : RunsWithOpenTails start (open_whole start.set found)
  lines_begin = record {
    runs = tails_begin below start found b on few;
    keeps = record {
      parked = record {
        begun = λ line w there. absurd (none_there w (operation_of line (first_core start.set found)) (no_operation line) there);
        waits = λ g line w low viewed there of. absurd (none_there w (operation_of line (first_core start.set found)) (no_operation line) there);
      };
      reached = λ g low viewed. (let wrong : true ≡ false = sym viewed ∙ first_idle.none g in absurd (cc wrong));
      lines = λ g q low own has. first_lines g q low own;
    };
  }
