-- Who falls was noted with the last line, or that is its `fail` line; with one copy a shard is lost by the event in which its peer falls.
use Rattle.std.proofs.Common.{◌≡◌, ◌⊎◌, inl, inr, ◌∙◌, ap, sym, subst, ℕ, ◌+◌, ◌*◌, ◌<◌, ◌≤◌, ◌==◌, ◌&&◌, ◌++◌, Bool, true, false, cond, not, List, [], ◌∷◌, Option, Some, None, IfSome, refl, arith, length}
use Rattle.std.proofs.lemmas.Bool.{eq-eqb, eqb-true}
use Rattle.std.specs.List.{AllByRecursion, slice_get}
use Rattle.hs_settled.proofs.AddingLemmas.{Grows, IsLate}
use Rattle.hs_settled.proofs.AskLemmas.{AllAsk, Asks}
use Rattle.hs_settled.proofs.CausesFirstLemmas.{IsFirst, line_first, members_first, told_first}
use Rattle.hs_settled.proofs.KeptLemmas.{Kept, grows_by, peers_of_shape, step_kept}
use Rattle.hs_settled.proofs.CausesListLemmas.{NoteAt, all_at, any_all, at_right, count_parts, find_low, find_none, find_true, range_each, some_note}
use Rattle.hs_settled.proofs.NoteLemmas.{Notes, note_is}
use Rattle.hs_settled.proofs.CausesRunLemmas.{last_kept, mute}
use Rattle.hs_settled.proofs.SeatLemmas.{FallsBy, Seated, peers_in, seats_run}
use Rattle.hs_core_words.specs.declared.event.Event.{Event}
use Rattle.hs_core_words.specs.declared.event.Event.TheVariants as event
use Rattle.hs_core_words.specs.Looking.{lost_shard, shape_of, shards_of, status_of}
use Rattle.hs_core_words.specs.Opening.{new_core}
use Rattle.hs_core_words.specs.State.{Core}
use Rattle.hs_core_words.specs.Step.{line_of, step}
use Rattle.hs_desk.specs.declared.done.Done.{Done}
use Rattle.hs_desk.specs.declared.done.Done.TheVariants as done
use Rattle.hs_desk.specs.declared.fault.CoreFault.{CoreFault}
use Rattle.hs_desk.specs.declared.fault.CoreFault.TheVariants as fault
use Rattle.hs_events.specs.Course.{steps}
use Rattle.hs_events.specs.Due.{Events}
use Rattle.hs_events.specs.Found.{first_core, opens_with}
use Rattle.hs_journal.specs.declared.entry.JournalEntry.{JournalEntry}
use Rattle.hs_journal.specs.declared.entry.Who.TheVariants as who
use Rattle.hs_journal.specs.Notes.{note_count}
use Rattle.hs_journal.specs.Telling.{IsDownAt}
use Rattle.hs_limits.specs.declared.limits.Limits.{Limits}
use Rattle.hs_limits.specs.declared.limits.PeerStatus.{PeerStatus}
use Rattle.hs_limits.specs.declared.limits.PeerStatus.TheVariants.{Down, Good, Joining}
use Rattle.hs_limits.specs.declared.shape.Shape.{Shape}
use Rattle.hs_limits.specs.Shape.{peer_of}
use Rattle.hs_standing.proofs.LinesStepLemmas.{step_ended, step_line}
use Rattle.hs_members.specs.Members.{Members, has_good, is_good_status, peers_of, status}
use Rattle.hs_model.specs.declared.command.Command.{Command}
use Rattle.hs_model.specs.declared.command.Command.TheVariants as command
use Rattle.hs_model.specs.declared.reply.Reply.TheVariants as reply
use Rattle.hs_moments.proofs.AloneEventLemmas.{has_good_is}
use Rattle.hs_settled.proofs.NotedCountLemmas.{step_counts, told_by}
use Rattle.hs_settled.proofs.NotedEventLemmas.{line_then}
use Rattle.hs_settled.proofs.NotedFirstLemmas.{first_notes}
use Rattle.hs_settled.specs.Noted.{IsAnswering}
use Rattle.hs_promise.specs.Machine.{Went}
use Rattle.hs_promise.specs.Run.{Ran, Script}
use Rattle.hs_promise.specs.Story.{Story, last_core}
use Rattle.hs_told.specs.InTurn.{AllMayCome, MayCome, OtherMay, told_of}

-- ---- shards and their peers

pub good_is : (s : PeerStatus) → is_good_status s ≡ true → s ≡ Good
good_is Good e = refl
good_is Joining e = absurd (cc e)
good_is Down e = absurd (cc e)

not_true : (b : Bool) → not b ≡ true → b ≡ false
not_true true e = absurd (cc e)
not_true false e = refl

not_false : (b : Bool) → not b ≡ false → b ≡ true
not_false true e = refl
not_false false e = absurd (cc e)

apart : true ≡ false → ⊥
apart e = cc e

pub lost_low : (c : Core) (g : ℕ) → lost_shard c ≡ Some g → g < (shape_of c).shards
lost_low c g e = let low : g < 0 + (shape_of c).shards = find_low (λ shard. not (has_good shard c.members)) (shape_of c).shards 0 g e in omega (arith, low)

-- of a core whose shards have one copy
module _ (c : Core) (one : (shape_of c).copies ≡ 1) where
  by_status : (x : ℕ) → has_good x c.members ≡ is_good_status (status_of x c)
  by_status x = has_good_is c.members x (status_of x c) one refl

  pub all_good : lost_shard c ≡ None → (x : ℕ) → x < (shape_of c).shards → status_of x c ≡ Good
  all_good none x low =
      let each : AllByRecursion (λ shard. not (has_good shard c.members) ≡ false) (shards_of c) = find_none (λ shard. not (has_good shard c.members)) (shards_of c) none in
      let here : not (has_good x c.members) ≡ false = range_each (λ shard. not (has_good shard c.members) ≡ false) (shape_of c).shards 0 x each (omega arith) (omega (arith, low)) in
      good_is (status_of x c) (sym (by_status x) ∙ not_false (has_good x c.members) here)

  pub lost_down : (g : ℕ) → lost_shard c ≡ Some g → is_good_status (status_of g c) ≡ false
  lost_down g e = sym (by_status g) ∙ not_true (has_good g c.members) (find_true (λ shard. not (has_good shard c.members)) (shards_of c) g e)

-- no peer of a shard that is lost is good
pub none_good_in : (c : Core) (g : ℕ) → lost_shard c ≡ Some g → (copy : ℕ) → copy < (shape_of c).copies → is_good_status (status_of (peer_of (shape_of c) g copy) c) ≡ false
none_good_in c g lost copy low =
    let none : has_good g c.members ≡ false = not_true (has_good g c.members) (find_true (λ shard. not (has_good shard c.members)) (shards_of c) g lost) in
    range_each (λ q. is_good_status (status_of q c) ≡ false) (shape_of c).copies (peer_of (shape_of c) g 0) (peer_of (shape_of c) g copy)
    (any_all (λ q. is_good_status (status_of q c)) (peers_of (shape_of c) g) none) (omega arith) (omega (arith, low))

pub steps_over : (c : Core) (es : Events) (f : CoreFault) → c.ended ≡ Some f → steps c es ≡ c
steps_over c [] f over = refl
steps_over c (e ∷ es) f over = ap (λ x. steps x es) (step_ended e.0 e.1 c f over) ∙ steps_over c es f over

-- ---- who falls

-- the note of a peer that is down has the last line, or that line is its `fail`
pub data Loss (commands : ℕ → Option Command) (g : ℕ) (c : Core) : Type 0 where
  IsNoted : (place : ℕ) → IsDownAt (told_of c) place g c.progress.event_line → Loss commands g c
  IsFailed : commands c.progress.event_line ≡ Some (command.Fail g) → Loss commands g c

pub line_up : (line : ℕ) (c : Core) → c.progress.event_line ≤ line → line_then line c ≡ line
line_up line c up = go (line == 0) refl
  where
    go : (b : Bool) → (line == 0) ≡ b → cond b c.progress.event_line line ≡ line
    go true t = let zero_line : line ≡ 0 = eqb-true line 0 t in omega (arith, up, zero_line)
    go false t = refl

pub costs_one : (peer g : ℕ) (c : Core) → told_by g (event.Report peer (done.Failed g)) c ≡ 1
costs_one peer g c = ap (λ b. cond (b && true) 1 0) (eq-eqb g g refl)

module _ (commands : ℕ → Option Command) (shape : Shape) (limits : Limits) where
  abbrev K : Core → Type 0
  K c = Kept commands shape limits c

  module _ (c : Core) (kept : K c) (going : c.ended ≡ None) (e : Event) (at : ℕ) (may : MayCome commands c e at) (asks : Asks commands c e) (g : ℕ) where
    abbrev after : Core
    after = step e at c

    grows : Grows (IsLate c.progress.event_line (line_then (line_of e) c)) c after
    grows = grows_by commands shape limits e at c kept going

    line_is : after.progress.event_line ≡ line_then (line_of e) c
    line_is = step_line e at c going

    -- the note of its disk comes with the report
    noted : (peer : ℕ) → e ≡ event.Report peer (done.Failed g) → Loss commands g after
    noted peer is =
        let one_more : note_count g (told_of after) ≡ note_count g (told_of c) + told_by g e c = step_counts commands c kept.noted going at g e (answers is) in
        let cost : told_by g e c ≡ 1 = ap (λ x. told_by g x c) is ∙ costs_one peer g c in
        let all : note_count g (told_of after) ≡ note_count g (told_of c) + note_count g grows.more = ap (λ (es : List JournalEntry). note_count g es) grows.told ∙ count_parts g (told_of c) grows.more in
        let n : NoteAt g grows.more = some_note g grows.more (omega (arith, one_more, cost, all)) in
        let tells : Notes g n.entry = note_is g n.entry n.note in
        let late : IsLate c.progress.event_line (line_then (line_of e) c) n.entry = all_at (IsLate c.progress.event_line (line_then (line_of e) c)) grows.more n.place n.entry grows.each n.at in
        let of : (n.entry.who ≡ who.Store) × (tells.line ≡ c.progress.event_line) × (line_then (line_of e) c ≡ c.progress.event_line) =
        subst (λ (o : Option (ℕ × ℕ)). IfSome o (λ d. (n.entry.who ≡ who.Store) × (d.1 ≡ c.progress.event_line) × (line_then (line_of e) c ≡ c.progress.event_line))) tells.in_it late in
        let line : tells.line ≡ after.progress.event_line = of.1 ∙ sym of.2 ∙ sym line_is in
        IsNoted (length (told_of c) + n.place) (record {
          note = n.entry;
          at = subst (λ es. slice_get es (length (told_of c) + n.place) ≡ Some n.entry) (sym grows.told) (at_right (told_of c) grows.more n.place n.entry n.at);
          store = of.0;
          told = tells.told ∙ ap (λ k. reply.Down g k) line;
        })
      where
        answers : e ≡ event.Report peer (done.Failed g) → IsAnswering c e
        answers same = subst (λ x. IsAnswering c x) (sym same) (subst (λ x. Asks commands c x) same asks)

    -- whoever falls by an event was noted with it, or it is of the `fail` line
    pub fell_loss : FallsBy e g → Loss commands g after
    fell_loss falls = by_event e refl falls
      where
        by_event : (x : Event) → e ≡ x → FallsBy x g → Loss commands g after
        by_event (event.Line line o) is f = absurd f
        by_event (event.Report peer d) is f = noted peer (is ∙ ap (λ (y : Done). event.Report peer y) f)
        by_event (event.Turn line peer) is f = absurd f
        by_event (event.Deliver line number) is f = absurd f
        by_event (event.Lose line number) is f = absurd f
        by_event (event.Repeat line number) is f = absurd f
        by_event (event.Nudge line peer) is f = absurd f
        by_event (event.Fail line peer) is f =
            let own : commands line ≡ Some (command.Fail peer) = subst (λ x. Asks commands c x) is asks in
            let other : OtherMay commands c line (event.Fail line peer) = (subst (λ x. MayCome commands c x at) is may).begins in
            let here : after.progress.event_line ≡ line = line_is ∙ ap (λ x. line_then (line_of x) c) is ∙ line_up line c other.upward in
            IsFailed (ap commands here ∙ own ∙ ap (λ p. Some (command.Fail p)) f)
        by_event (event.Start line peer) is f = absurd f

-- ---- with one copy a shard is lost by the last event, by which its peer falls

pub record FallsLast (g : ℕ) (es : Events) : Type 0 where
  pub before : Events
  pub last : Event × ℕ
  pub is : es ≡ before ++ last ∷ []
  pub falls : FallsBy last.0 g

module _ (commands : ℕ → Option Command) (shape : Shape) (limits : Limits) (one : shape.copies ≡ 1) where
  count_is : peers_of_shape shape ≡ shape.shards
  count_is = ap (λ k. shape.shards * k) one ∙ omega arith

  one_copy : (c : Core) → Kept commands shape limits c → (shape_of c).copies ≡ 1
  one_copy c kept = ap (λ (z : Shape). z.copies) kept.shaped ∙ one

  fell : (c : Core) → Kept commands shape limits c → c.ended ≡ None → (e : Event) (at : ℕ) → Kept commands shape limits (step e at c) → (g : ℕ) → lost_shard (step e at c) ≡ Some g → FallsBy e g
  fell c kept going e at behind g lost = elim (seated.good g low) [
    | inl falls ↦ falls
    | inr good ↦ absurd (apart (sym (ap is_good_status good) ∙ lost_down (step e at c) (one_copy (step e at c) behind) g lost))
  ]
    where
      low : g < peers_of_shape shape
      low = let l : g < (shape_of (step e at c)).shards = lost_low (step e at c) g lost in let s : (shape_of (step e at c)).shards ≡ shape.shards = ap (λ (z : Shape). z.shards) behind.shaped in
          let n : peers_of_shape shape ≡ shape.shards = count_is in omega (arith, l, s, n)

      each : (x : ℕ) → x < peers_of_shape shape → FallsBy e x ⊎ (status_of x c ≡ Good)
      each x l = inr (all_good c (one_copy c kept) (kept.ends.going going) x
          (let s : (shape_of c).shards ≡ shape.shards = ap (λ (z : Shape). z.shards) kept.shaped in let n : peers_of_shape shape ≡ shape.shards = count_is in omega (arith, l, s, n)))

      seated : Seated (peers_of_shape shape) (FallsBy e) (peers_in (step e at c))
      seated = seats_run (peers_of_shape shape) (FallsBy e) e at c (λ x falls l. falls)
          (record { statuses = kept.seats.statuses; count = kept.seats.count; good = each; tasks = kept.seats.tasks; rejoins = kept.seats.rejoins })

  pub falls_last : (c : Core) (es : Events) → Kept commands shape limits c → AllMayCome commands c es → AllAsk commands c es → (g : ℕ) → c.ended ≡ None → (steps c es).ended ≡ Some (fault.ShardLost g) → FallsLast g es
  falls_last c [] kept may ask g going over = let both : None ≡ Some (fault.ShardLost g) = sym going ∙ over in absurd (cc both)
  falls_last c (e ∷ es) kept may ask g going over = go (λ on. falls_last (step e.0 e.1 c) es next may.1 ask.1 g on over) (step e.0 e.1 c).ended refl
    where
      next : Kept commands shape limits (step e.0 e.1 c)
      next = step_kept commands shape limits e.0 e.1 c kept going (may.0 going) ask.0.1

      -- nothing comes to a core that has ended
      none_more : (f : CoreFault) → (step e.0 e.1 c).ended ≡ Some f → (xs : Events) → AllAsk commands (step e.0 e.1 c) xs → xs ≡ []
      none_more f is [] a = refl
      none_more f is (x ∷ xs) a = let both : None ≡ Some f = sym a.0.0 ∙ is in absurd (cc both)

      go : ((step e.0 e.1 c).ended ≡ None → FallsLast g es) → (o : Option CoreFault) → (step e.0 e.1 c).ended ≡ o → FallsLast g (e ∷ es)
      go ih None is = let r : FallsLast g es = ih is in record { before = e ∷ r.before; last = r.last; is = ap (λ xs. e ∷ xs) r.is; falls = r.falls }
      go ih (Some f) is =
          let same : steps (step e.0 e.1 c) es ≡ step e.0 e.1 c = steps_over (step e.0 e.1 c) es f is in
          let lost : (step e.0 e.1 c).ended ≡ Some (fault.ShardLost g) = ap (λ (x : Core). x.ended) (sym same) ∙ over in
          record { before = []; last = e; is = ap (λ xs. e ∷ xs) (none_more f is es ask.1); falls = fell c kept going e.0 e.1 next g (next.ends.lost g lost) }

-- ---- a run

-- of any number of copies: the shard is lost in the last core, and is one of the store
module _ (S : Script) (r : Ran) (story : Story) (went : Went S r story) (g : ℕ) (over : (last_core S story).ended ≡ Some (fault.ShardLost g)) where
  pub is_lost : lost_shard (last_core S story) ≡ Some g
  is_lost = (last_kept S r story went).ends.lost g over

  pub lost_within : g < S.set.shape.shards
  lost_within = let l : g < (shape_of (last_core S story)).shards = lost_low (last_core S story) g is_lost in
      let s : (shape_of (last_core S story)).shards ≡ S.set.shape.shards = ap (λ (z : Shape). z.shards) (last_kept S r story went).shaped in omega (arith, l, s)

-- a peer that is not good as the core opens was told of before any line
module _ (S : Script) (r : Ran) (story : Story) (went : Went S r story) (p : ℕ) (low : p < S.set.shape.shards * S.set.shape.copies) (down : is_good_status (status_of p (first_core S.set story.found)) ≡ false) where
  abbrev opened : Core
  opened = first_core S.set story.found

  pub first_loss : Loss (mute S.commands) p (first_core S.set story.found)
  first_loss =
      let members : opened.members ≡ (new_core S.set.shape S.set.limits (opens_with S.set story.found) story.found.opened).members =
      members_first S.set.shape S.set.limits (opens_with S.set story.found) story.found.opened went.found.goods in
      let count : note_count p (told_of opened) ≡ 1 =
      first_notes S.set.shape S.set.limits (opens_with S.set story.found) story.found.opened p low
      ∙ ap (λ (m : Members). cond (is_good_status (status p m)) 0 1) (sym members) ∙ ap (λ b. cond b 0 1) down in
      let n : NoteAt p (told_of opened) = some_note p (told_of opened) (omega (arith, count)) in
      let tells : Notes p n.entry = note_is p n.entry n.note in
      let first : IsFirst (S.set.shape.shards * S.set.shape.copies) n.entry =
      all_at (λ (e : JournalEntry). IsFirst (S.set.shape.shards * S.set.shape.copies) e) (told_of opened) n.place n.entry (told_first S.set.shape S.set.limits (opens_with S.set story.found) story.found.opened went.found.goods) n.at in
      let zero_line : opened.progress.event_line ≡ 0 = line_first S.set.shape S.set.limits (opens_with S.set story.found) story.found.opened went.found.goods in
      let line : tells.line ≡ 0 = line_of_note first.peer p tells.line (sym first.told ∙ tells.told) in
      IsNoted n.place (record { note = n.entry; at = n.at; store = first.store; told = tells.told ∙ ap (λ k. reply.Down p k) (line ∙ sym zero_line) })
    where
      line_of_note : (p q k : ℕ) → reply.Down p 0 ≡ reply.Down q k → k ≡ 0
      line_of_note p q k e = cc e
