-- One event at a moment is events of the machine of each shard's copies, until the core ends.
use Rattle.std.proofs.Common.{◌≡◌, ◌≢◌, ◌⊎◌, ◌∙◌, ap, sym, subst, refl, inl, inr, arith, ℕ, zero, suc, ◌+◌, ◌<◌, ◌≤◌, ◌==◌, ◌&&◌, not, nat_lt, Bool, true, false, if◌then◌else◌, List, Option, Some, None, is_none, length}
use Rattle.std.specs.List.{range_with_len}
use Rattle.std.specs.Option.{option_map}
use Rattle.std.specs.Prelude.{find}
use Rattle.hs_awaiting.specs.Words.{change_if}
use Rattle.hs_copies.specs.Lists.{Item}
use Rattle.hs_copies.specs.Machine.{Copies}
use Rattle.hs_core_words.specs.Changing.{change_pool}
use Rattle.hs_core_words.specs.declared.event.Event.{Event}
use Rattle.hs_core_words.specs.declared.event.Event.TheVariants as event
use Rattle.hs_core_words.specs.Looking.{lost_shard}
use Rattle.hs_core_words.specs.State.{Core}
use Rattle.hs_core_words.specs.Step.{begin_event, do_event, end_event, keep_entries, line_of, refuse_entries, run_event, step}
use Rattle.hs_desk.specs.declared.fault.CoreFault.{CoreFault}
use Rattle.hs_desk.specs.declared.fault.CoreFault.TheVariants as fault
use Rattle.hs_entry.specs.declared.entry.Entry.{Entry}
use Rattle.hs_members.specs.Members.{has_good}
use Rattle.hs_post.specs.Pool.{is_empty, restart_numbers}
use Rattle.hs_core_copies.proofs.GoingLemmas.{GoesTold, Keeps, Moves, goes_told, told_then}
use Rattle.hs_core_copies.proofs.BesideLemmas.{keeps_quiet, moves_quiet}
use Rattle.hs_core_copies.proofs.DeliverLemmas.{keeps_thinned}
use Rattle.hs_core_copies.proofs.EventLemmas.{does}
use Rattle.hs_core_copies.proofs.FallLemmas.{IsLost}
use Rattle.hs_core_copies.specs.InStep.{GoesOn, IsInStep}
use Rattle.hs_core_copies.specs.Lists.{lists_told}

-- ---- how an event begins, and how it ends

pub begins : (g line at : ℕ) (c : Core) → Keeps g c (begin_event line at c)
begins g line at c = go ((c.progress.event_line == 0 && not (line == 0)) && is_empty c.pool)
  where
    go : (b : Bool) → Keeps g c (record (change_if b (change_pool restart_numbers) c) {
      moment = at;
      progress = record c.progress { event_line = if line == 0 then c.progress.event_line else line };
    })
    go true =
        let a : Core = change_pool restart_numbers c in
        let b : Core = record a { moment = at; progress = record c.progress { event_line = if line == 0 then c.progress.event_line else line } } in
        λ s st. keeps_quiet g a b (record { members = refl; groups = refl; tasks = refl; rejoins = refl; pool = refl }) s (keeps_thinned g c (restart_numbers c.pool) (λ P h. h) s st)
    go false =
        let b : Core = record c { moment = at; progress = record c.progress { event_line = if line == 0 then c.progress.event_line else line } } in
        keeps_quiet g c b (record { members = refl; groups = refl; tasks = refl; rejoins = refl; pool = refl })

-- and changes nothing of what is told
begun_told : (g line at : ℕ) (e : Event) (c : Core) (s : Copies Entry) → lists_told g e (begin_event line at c) s ≡ lists_told g e c s
begun_told g line at e c s = go ((c.progress.event_line == 0 && not (line == 0)) && is_empty c.pool)
  where
    by_core : Bool → Core
    by_core b = record (change_if b (change_pool restart_numbers) c) {
      moment = at;
      progress = record c.progress { event_line = if line == 0 then c.progress.event_line else line };
    }

    at_once : (e : Event) (x : Core) → x.members ≡ c.members → x.groups ≡ c.groups → x.tasks ≡ c.tasks → x.progress.rejoins ≡ c.progress.rejoins → lists_told g e x s ≡ lists_told g e c s
    at_once (event.Line line o) x m gs ts rs = refl
    at_once (event.Report p d) x m gs ts rs = rw (m, gs, ts, rs) refl
    at_once (event.Turn line p) x m gs ts rs = refl
    at_once (event.Deliver line number) x m gs ts rs = refl
    at_once (event.Lose line number) x m gs ts rs = refl
    at_once (event.Repeat line number) x m gs ts rs = refl
    at_once (event.Nudge line p) x m gs ts rs = refl
    at_once (event.Fail line p) x m gs ts rs = refl
    at_once (event.Start line p) x m gs ts rs = refl

    go : (b : Bool) → lists_told g e (record (change_if b (change_pool restart_numbers) c) {
      moment = at;
      progress = record c.progress { event_line = if line == 0 then c.progress.event_line else line };
    }) s ≡ lists_told g e c s
    go true = at_once e (by_core true) refl refl refl refl
    go false = at_once e (by_core false) refl refl refl refl

-- the end touches no copies, and tells whether a shard is lost
pub record Ends (a b : Core) : Type 0 where
  pub moves : (g : ℕ) → Moves g a b
  pub members : b.members ≡ a.members
  pub ended : b.ended ≡ None → lost_shard a ≡ None

pub ends : (c : Core) → Ends c (end_event c)
ends c = go (nat_lt c.limits.ops (length c.journal + length c.entries))
  where
    none_lost : (o : Option ℕ) → option_map fault.ShardLost o ≡ None → o ≡ None
    none_lost None e = refl
    none_lost (Some shard) e = let wrong : Some (fault.ShardLost shard) ≡ None = e in absurd (cc wrong)

    go : (b : Bool) → Ends c (if b then refuse_entries c else keep_entries c)
    go true = record {
      moves = λ g. moves_quiet g c (refuse_entries c) (record { members = refl; groups = refl; tasks = refl; rejoins = refl; pool = refl });
      members = refl;
      ended = λ e. let wrong : Some fault.OpsFull ≡ None = e in absurd (cc wrong);
    }
    go false = record {
      moves = λ g. moves_quiet g c (keep_entries c) (record { members = refl; groups = refl; tasks = refl; rejoins = refl; pool = refl });
      members = refl;
      ended = none_lost (lost_shard c);
    }

-- ---- a shard that is lost is told

find_there : (test : ℕ → Bool) (from n k : ℕ) → from ≤ k → k < from + n → test k ≡ true → find test (range_with_len from n) ≡ None → ⊥
find_there test from zero k low high e none = absurd (omega (arith, low, high))
find_there test from (suc n) k low high e none = go (test from) refl (λ above rest. find_there test (from + 1) n k above (omega (arith, high)) e rest)
  where
    go : (b : Bool) → test from ≡ b → (from + 1 ≤ k → find test (range_with_len (from + 1) n) ≡ None → ⊥) → ⊥
    go true f h = let wrong : Some from ≡ None = rw f at none in cc wrong
    go false f h =
        let apart : k ≢ from = λ i. (let wrong : true ≡ false = sym e ∙ ap test i ∙ f in cc wrong) in
        let rest : find test (range_with_len (from + 1) n) ≡ None = rw f at none in
        h (omega (arith, low, apart)) rest

pub lost_told : (g : ℕ) (c : Core) → g < c.members.shape.shards → has_good g c.members ≡ false → lost_shard c ≡ None → ⊥
lost_told g c low none e = find_there (λ shard. not (has_good shard c.members)) 0 c.members.shape.shards g (omega arith) (omega (arith, low)) (ap not none) e

-- ---- the event

runs : (g : ℕ) (e : Event) (at : ℕ) (c : Core) (s : Copies Entry) → IsInStep g c s
    → GoesTold g (do_event e (begin_event (line_of e) at c)) s (lists_told g e c s) ⊎ IsLost g (do_event e (begin_event (line_of e) at c))
runs g e at c s st =
    let a : Core = begin_event (line_of e) at c in
    subst (λ (told : ℕ → List (Item Entry)). GoesTold g (do_event e a) s told ⊎ IsLost g (do_event e a)) (begun_told g (line_of e) at e c s) (does g e a s (begins g (line_of e) at c s st))

happens : (g : ℕ) (e : Event) (at : ℕ) (c : Core) (s : Copies Entry) → IsInStep g c s → c.ended ≡ None → (end_event (do_event e (begin_event (line_of e) at c))).ended ≡ None
    → GoesTold g (end_event (do_event e (begin_event (line_of e) at c))) s (lists_told g e c s)
happens g e at c s st going on =
    let b : Core = do_event e (begin_event (line_of e) at c) in
    let k : Ends b (end_event b) = ends b in
    elim (runs g e at c s st) [
      | inl one ↦ told_then g b (end_event b) s (lists_told g e c s) one (k.moves g)
      | inr lost ↦ absurd (lost_told g b lost.low lost.none (k.ended on))
    ]

pub steps_tell : (g : ℕ) (e : Event) (at : ℕ) (c : Core) (s : Copies Entry) → IsInStep g c s → c.ended ≡ None → (step e at c).ended ≡ None → GoesTold g (step e at c) s (lists_told g e c s)
steps_tell g e at c s st going on =
    let is : step e at c ≡ run_event e at c = ap (λ o. change_if (is_none o) (run_event e at) c) going in
    subst (λ (y : Core). GoesTold g y s (lists_told g e c s)) (sym is) (happens g e at c s st going (ap (λ (y : Core). y.ended) (sym is) ∙ on))

-- a core goes on from one that has not ended
pub was_going : (e : Event) (at : ℕ) (c : Core) → (step e at c).ended ≡ None → c.ended ≡ None
was_going e at c on = go c.ended refl
  where
    go : (o : Option CoreFault) → c.ended ≡ o → c.ended ≡ None
    go None i = i
    go (Some f) i =
        let is : step e at c ≡ c = ap (λ o. change_if (is_none o) (run_event e at) c) i in
        ap (λ (y : Core). y.ended) (sym is) ∙ on

pub steps_on : (g : ℕ) (e : Event) (at : ℕ) (c : Core) (s : Copies Entry) → IsInStep g c s → (step e at c).ended ≡ None → GoesOn g (step e at c) s
steps_on g e at c s st on = goes_told g (step e at c) s (lists_told g e c s) (steps_tell g e at c s st (was_going e at c on) on)
