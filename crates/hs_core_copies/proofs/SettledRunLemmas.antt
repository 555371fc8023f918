-- Along a run all that is known of every good peer of a shard has taken effect.
use Rattle.std.proofs.Common.{◌≡◌, ◌≢◌, ◌∙◌, ap, sym, subst, refl, inl, inr, arith, ℕ, zero, suc, ◌+◌, ◌*◌, ◌<◌, ◌≤◌, ◌==◌, ◌&&◌, not, nat_lt, Bool, true, false, if◌then◌else◌, List, [], ◌∷◌, Option, Some, None, is_none, length}
use Rattle.std.proofs.lemmas.Bool.{cases_eq}
use Rattle.std.specs.List.{range_with_len}
use Rattle.hs_awaiting.specs.Words.{change_if, each}
use Rattle.hs_copies.specs.Lists.{Item}
use Rattle.hs_copies.specs.Machine.{Copies, after_events}
use Rattle.hs_copies.specs.Stamps.{view_told}
use Rattle.hs_core_words.specs.Changing.{change_pool, note}
use Rattle.hs_core_words.specs.declared.event.Event.{Event}
use Rattle.hs_core_words.specs.Looking.{front_of, group_of, shape_of, status_of}
use Rattle.hs_core_words.specs.Opening.{Taken, begin_views, first_members, good_copies, new_core, note_down, note_if_down, open_core}
use Rattle.hs_core_words.specs.State.{Core}
use Rattle.hs_core_words.specs.Step.{begin_event, do_event, end_event, keep_entries, line_of, refuse_entries, run_event, step}
use Rattle.hs_core_words.specs.Views.{begin_view, change_view}
use Rattle.hs_desk.specs.declared.fault.CoreFault.{CoreFault}
use Rattle.hs_entry.specs.declared.entry.Entry.{Entry}
use Rattle.hs_entry.specs.declared.entry.Entry.TheVariants as kind
use Rattle.hs_journal.specs.declared.entry.Who.TheVariants as who
use Rattle.hs_limits.specs.declared.limits.Limits.{Limits}
use Rattle.hs_limits.specs.declared.shape.Shape.{Shape}
use Rattle.hs_limits.specs.Shape.{IsShape}
use Rattle.hs_members.specs.Members.{Members, all_peers, has_good, is_good_status, view_of}
use Rattle.hs_model.specs.declared.deed.Deed.TheVariants as deed
use Rattle.hs_model.specs.declared.reply.Reply.TheVariants as reply
use Rattle.hs_post.specs.Pool.{is_empty, restart_numbers}
use Rattle.hs_replica.specs.Group.{Group, commit_front, lead, new_group, on_view, renew, view_after}
use Rattle.hs_core_copies.proofs.BesideLemmas.{IsBeside, besides_both, besides_same}
use Rattle.hs_core_copies.proofs.RunLemmas.{goes_along, not_ended}
use Rattle.hs_core_copies.proofs.OpeningLemmas.{begun, first_none, first_up, group_is, opened_core_in_step, seated_first, viewed_members}
use Rattle.hs_core_copies.proofs.SettledLemmas.{IsUp, does_settle, still_view, up_still}
use Rattle.hs_core_copies.proofs.StepsLemmas.{begins, ends, lost_told, steps_on}
use Rattle.hs_core_copies.proofs.StillLemmas.{IsStill, still_both, still_group, takes_front}
use Rattle.hs_core_copies.proofs.UpLemmas.{front_known}
use Rattle.hs_core_copies.proofs.ViewLemmas.{views_apart}
use Rattle.hs_core_copies.specs.InStep.{GoesOn, IsInStep, IsSeated}
use Rattle.hs_core_copies.specs.Opening.{IsTakenLog, MayOpen, opened_with}
use Rattle.hs_core_copies.specs.Runs.{core_after}

-- ---- an event

begin_still : (g line at : ℕ) (c : Core) → IsStill g c (begin_event line at c)
begin_still g line at c = go ((c.progress.event_line == 0 && not (line == 0)) && is_empty c.pool)
  where
    go : (b : Bool) → IsStill g c (record (change_if b (change_pool restart_numbers) c) {
      moment = at;
      progress = record c.progress { event_line = if line == 0 then c.progress.event_line else line };
    })
    go true = still_group g c _ refl
    go false = still_group g c _ refl

end_still : (g : ℕ) (c : Core) → IsStill g c (end_event c)
end_still g c = go (nat_lt c.limits.ops (length c.journal + length c.entries))
  where
    go : (b : Bool) → IsStill g c (if b then refuse_entries c else keep_entries c)
    go true = still_group g c (refuse_entries c) refl
    go false = still_group g c (keep_entries c) refl

happens_up : (g : ℕ) (e : Event) (at : ℕ) (c : Core) (s : Copies Entry) → IsInStep g c s → IsUp g c → (end_event (do_event e (begin_event (line_of e) at c))).ended ≡ None
    → IsUp g (end_event (do_event e (begin_event (line_of e) at c)))
happens_up g e at c s st up on =
    let a : Core = begin_event (line_of e) at c in
    let b : Core = do_event e a in
    elim (does_settle g e a s (begins g (line_of e) at c s st) (up_still g c a (begin_still g (line_of e) at c) up)) [
      | inl h ↦ up_still g b (end_event b) (end_still g b) h
      | inr lost ↦ absurd (lost_told g b lost.low lost.none ((ends b).ended on))
    ]

pub step_up : (g : ℕ) (e : Event) (at : ℕ) (c : Core) (s : Copies Entry) → IsInStep g c s → IsUp g c → (step e at c).ended ≡ None → IsUp g (step e at c)
step_up g e at c s st up on = go c.ended refl
  where
    step_is : (o : Option CoreFault) → c.ended ≡ o → step e at c ≡ change_if (is_none o) (run_event e at) c
    step_is o i = ap (λ o. change_if (is_none o) (run_event e at) c) i

    go : (o : Option CoreFault) → c.ended ≡ o → IsUp g (step e at c)
    go None i = subst (IsUp g) (sym (step_is None i)) (happens_up g e at c s st up (ap (λ (y : Core). y.ended) (sym (step_is None i)) ∙ on))
    go (Some f) i = subst (IsUp g) (sym (step_is (Some f) i)) up

pub up_along : (g : ℕ) (es : List (Event × ℕ)) (c : Core) (s : Copies Entry) → IsInStep g c s → IsUp g c → (core_after es c).ended ≡ None → IsUp g (core_after es c)
up_along g [] c s st up on = up
up_along g (e ∷ es) c s st up on =
    let b : Core = step e.0 e.1 c in
    let going : b.ended ≡ None = not_ended es b on in
    let one : GoesOn g b s = steps_on g e.0 e.1 c s st going in
    up_along g es b (after_events s one.events) one.keeps (step_up g e.0 e.1 c s st up going) on

-- ---- all of it, and no more

pub exactly : (g : ℕ) (c : Core) (s : Copies Entry) → IsInStep g c s → IsUp g c → front_of g c ≡ commit_front (group_of g c)
exactly g c s st up = omega (arith, up, front_known g c s st)

-- ---- the opening

-- a view that begins with the taken log
view_up : (shape : Shape) (taken : Taken) (fits : IsShape shape) (count : length taken.good ≡ shape.shards * shape.copies) (limits : Limits) (moment g : ℕ) (low : g < shape.shards) (log : List (Item Entry))
    (is : IsTakenLog taken g log) (some : has_good g (first_members shape taken) ≡ true) (a : Core) (k : IsBeside g (new_core shape limits taken moment) a) (members : a.members ≡ first_members shape taken)
    → IsUp g (begin_view g a)
view_up shape taken fits count limits moment g low log is some a k members =
    let x : Group = new_group shape g (view_told view_after 0 log) (length log) (good_copies shape taken.good g) in
    let m : Members = first_members shape taken in
    let at : group_of g a ≡ x = group_is shape taken fits count limits moment g low log is some a k members in
    let v : group_of g (begin_view g a) ≡ on_view m x =
    (begun shape taken fits count limits moment g low log is some a k members).group ∙ ap (on_view a.members) at ∙ ap (λ n. on_view n x) members in
    let known : commit_front (group_of g (begin_view g a)) ≡ commit_front (on_view m x) = ap commit_front v in
    let front : front_of g (begin_view g a) ≡ (on_view m x).front = ap (λ (y : Group). y.front) v in
    let whole : (on_view m x).front ≡ length log = takes_front (lead (renew m x)) (kind.View (view_of x.shard m)) (renew m x) in
    omega (arith, known, front, whole, first_up shape taken fits count g low log is some)

-- the views of later shards
later_still : (g from n : ℕ) (c : Core) → g < from → IsSeated c → IsStill g c (each (range_with_len from n) change_view c)
later_still g from zero c above st = still_group g c c refl
later_still g from (suc n) c above st =
    let ne : g ≢ from = λ e. omega (arith, e, above) in
    still_both g c (change_view from c) (each (range_with_len (from + 1) n) change_view (change_view from c)) (still_view g from c ne st)
    (later_still g (from + 1) n (change_view from c) (omega (arith, above)) (views_apart g from c ne st).seated)

down_still : (g : ℕ) (ps : List ℕ) (c : Core) → IsStill g c (each ps note_if_down c)
down_still g [] c = still_group g c c refl
down_still g (p ∷ ps) c = still_both g c (note_if_down p c) (each ps note_if_down (note_if_down p c)) (one (not (is_good_status (status_of p c)))) (down_still g ps (note_if_down p c))
  where
    one : (b : Bool) → IsStill g c (change_if b (note who.Store deed.Nothing (reply.Down p 0)) c)
    one true = still_group g c (note who.Store deed.Nothing (reply.Down p 0) c) refl
    one false = still_group g c c refl

module _ (shape : Shape) (limits : Limits) (taken : Taken) (moment : ℕ) (fits : IsShape shape) (count : length taken.good ≡ shape.shards * shape.copies)
    (g : ℕ) (low : g < shape.shards) (log : List (Item Entry)) (is : IsTakenLog taken g log) (some : has_good g (first_members shape taken) ≡ true) where
  each_up : (n from : ℕ) → from ≤ g → g < from + n → (a : Core) → IsBeside g (new_core shape limits taken moment) a → a.members ≡ first_members shape taken
      → IsUp g (each (range_with_len from n) change_view a)
  each_up zero from above below a k members = absurd (omega (arith, above, below))
  each_up (suc n) from above below a k members = elim (cases_eq from g) [
    | inl e ↦ rw e (here n)
    | inr ne ↦ each_up n (from + 1) (omega (arith, above, ne)) (omega (arith, below)) (change_view from a)
        (besides_both g (new_core shape limits taken moment) a (change_view from a) (λ st. k) (views_apart g from a (λ i. ne (sym i))) (seated_first shape taken fits count limits moment))
        (viewed_members from a ∙ members)
  ]
    where
      here : (n : ℕ) → IsUp g (each (range_with_len (g + 1) n) change_view (change_view g a))
      here n =
          let b : Core = begin_view g a in
          let v = begun shape taken fits count limits moment g low log is some a k members in
          let up : IsUp g b = view_up shape taken fits count limits moment g low log is some a k members in
          subst (λ (t : Bool). IsUp g (each (range_with_len (g + 1) n) change_view (change_if t (begin_view g) a))) (sym (ap (has_good g) members ∙ some))
          (up_still g b (each (range_with_len (g + 1) n) change_view b) (later_still g (g + 1) n b (omega arith) v.seated) up)

  views_up : IsUp g (begin_views (new_core shape limits taken moment))
  views_up =
      each_up shape.shards 0 (omega arith) (omega (arith, low)) (new_core shape limits taken moment)
      (besides_same g (new_core shape limits taken moment) (seated_first shape taken fits count limits moment)) refl

  opened_up : IsUp g (open_core shape limits taken moment)
  opened_up =
      let a : Core = begin_views (new_core shape limits taken moment) in
      let b : Core = note_down a in
      up_still g a (end_event b) (still_both g a b (end_event b) (down_still g (all_peers (shape_of a)) a) (end_still g b)) views_up

-- ---- a run

pub settled_in_run : (shape : Shape) (limits : Limits) (taken : Taken) (moment g : ℕ) (log : List (Item Entry)) (es : List (Event × ℕ)) (core : Core) → MayOpen shape taken g log
    → core ≡ core_after es (open_core shape limits taken moment) → core.ended ≡ None → front_of g core ≡ commit_front (group_of g core)
settled_in_run shape limits taken moment g log es core may is on = rw is (go (has_good g (first_members shape taken)) refl)
  where
    going : (core_after es (open_core shape limits taken moment)).ended ≡ None
    going = rw is at on

    first : (open_core shape limits taken moment).ended ≡ None
    first = not_ended es (open_core shape limits taken moment) (rw is at on)

    go : (b : Bool) → has_good g (first_members shape taken) ≡ b → front_of g (core_after es (open_core shape limits taken moment)) ≡ commit_front (group_of g (core_after es (open_core shape limits taken moment)))
    go true some =
        let a : Core = open_core shape limits taken moment in
        let o = opened_core_in_step shape limits taken moment g log may first in
        let start : Copies Entry = after_events (opened_with shape taken g log o.0) o.2.events in
        let up : IsUp g a = opened_up shape limits taken moment may.fits may.count g may.here log may.log_is some in
        let run : GoesOn g (core_after es a) start = goes_along g es a start o.2.keeps going in
        exactly g (core_after es a) (after_events start run.events) run.keeps (up_along g es a start o.2.keeps up going)
    go false none = absurd (first_none shape limits taken moment g may.here none first)

pub settled_by : (g : ℕ) (e : Event) (at : ℕ) (c : Core) (s : Copies Entry) → IsInStep g c s → front_of g c ≡ commit_front (group_of g c) → (step e at c).ended ≡ None
    → front_of g (step e at c) ≡ commit_front (group_of g (step e at c))
settled_by g e at c s st is on =
    let k : GoesOn g (step e at c) s = steps_on g e at c s st on in
    exactly g (step e at c) (after_events s k.events) k.keeps (step_up g e at c s st (omega (arith, is)) on)
