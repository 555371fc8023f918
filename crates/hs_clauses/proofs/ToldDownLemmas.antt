-- Who is not good as a core opens is told to be down, at that moment; and what is told stays told.
use Rattle.std.proofs.Common.{◌≡◌, ◌∙◌, inl, inr, ap, sym, subst, ℕ, zero, suc, ◌+◌, ◌*◌, ◌<◌, ◌≤◌, ◌||◌, not, Bool, true, false, List, [], ◌∷◌, ◌++◌, None, refl, length, nat_lt, arith, is_none, if◌then◌else◌}
use Rattle.std.proofs.lemmas.Bool.{cases_eq}
use Rattle.std.specs.List.{list_any, range_with_len}
use Rattle.hs_awaiting.specs.Words.{change_if, each}
use Rattle.hs_clauses.proofs.NoteLemmas.{Silent, all_silent}
use Rattle.hs_core_words.specs.Changing.{note}
use Rattle.hs_core_words.specs.declared.event.Event.{Event}
use Rattle.hs_core_words.specs.Looking.{shards_of, status_of}
use Rattle.hs_core_words.specs.Opening.{Taken, begin_views, first_members, new_core, note_down, note_if_down, open_core}
use Rattle.hs_core_words.specs.State.{Core}
use Rattle.hs_core_words.specs.Step.{begin_event, do_event, keep_entries, line_of, refuse_entries, run_event, step}
use Rattle.hs_events.proofs.FrameLemmas.{Frame, frame_done}
use Rattle.hs_events.specs.Course.{steps}
use Rattle.hs_events.specs.Due.{Events}
use Rattle.hs_journal.specs.declared.entry.JournalEntry.{JournalEntry}
use Rattle.hs_journal.specs.declared.entry.Who.TheVariants as who
use Rattle.hs_limits.specs.declared.limits.Limits.{Limits}
use Rattle.hs_limits.specs.declared.shape.Shape.{Shape}
use Rattle.hs_members.specs.Members.{Members, all_peers, is_good_status, status}
use Rattle.hs_model.specs.declared.deed.Deed.TheVariants as deed
use Rattle.hs_model.specs.declared.reply.Reply.TheVariants as reply

-- ---- some entry passes a test

pub any_left : {X : Type 0} (p : X → Bool) (xs ys : List X) → list_any p xs ≡ true → list_any p (xs ++ ys) ≡ true
any_left p [] ys e = absurd (cc e)
any_left p (x ∷ xs) ys e = go (λ k. any_left p xs ys k) (p x) e
  where
    go : (list_any p xs ≡ true → list_any p (xs ++ ys) ≡ true) → (b : Bool) → (b || list_any p xs) ≡ true → (b || list_any p (xs ++ ys)) ≡ true
    go rest true k = refl
    go rest false k = rest k

pub any_right : {X : Type 0} (p : X → Bool) (xs ys : List X) → list_any p ys ≡ true → list_any p (xs ++ ys) ≡ true
any_right p [] ys e = e
any_right p (x ∷ xs) ys e = go (p x) (any_right p xs ys e)
  where
    go : (b : Bool) → list_any p (xs ++ ys) ≡ true → (b || list_any p (xs ++ ys)) ≡ true
    go true k = refl
    go false k = k

-- ---- notes as a core opens

-- that a peer is down, told before any line had an event
abbrev pub down_note : ℕ → ℕ → JournalEntry
down_note peer moment = record { who = who.Store; moment = moment; deed = deed.Nothing; reply = reply.Down peer 0 }

module _ (test : JournalEntry → Bool) where
  keeps_told : (peer : ℕ) (c : Core) → list_any test c.entries ≡ true → list_any test (note_if_down peer c).entries ≡ true
  keeps_told peer c told = go (not (is_good_status (status_of peer c)))
    where
      go : (b : Bool) → list_any test (change_if b (note who.Store deed.Nothing (reply.Down peer 0)) c).entries ≡ true
      go true = any_left test c.entries (down_note peer c.moment ∷ []) told
      go false = told

  all_keep_told : (peers : List ℕ) (c : Core) → list_any test c.entries ≡ true → list_any test (each peers note_if_down c).entries ≡ true
  all_keep_told [] c told = told
  all_keep_told (p ∷ peers) c told = all_keep_told peers (note_if_down p c) (keeps_told p c told)

  beside : (peer : ℕ) (c : Core) → ((note_if_down peer c).members ≡ c.members) × ((note_if_down peer c).moment ≡ c.moment)
  beside peer c = go (not (is_good_status (status_of peer c)))
    where
      go : (b : Bool) → ((change_if b (note who.Store deed.Nothing (reply.Down peer 0)) c).members ≡ c.members) × ((change_if b (note who.Store deed.Nothing (reply.Down peer 0)) c).moment ≡ c.moment)
      go true = (refl, refl)
      go false = (refl, refl)

  noted_here : (p : ℕ) (c : Core) → test (down_note p c.moment) ≡ true → is_good_status (status p c.members) ≡ false → list_any test (note_if_down p c).entries ≡ true
  noted_here p c passes bad =
      ap (λ b. list_any test (change_if (not b) (note who.Store deed.Nothing (reply.Down p 0)) c).entries) bad
      ∙ any_right test c.entries (down_note p c.moment ∷ []) (ap (λ b. b || false) passes)

  told_down : (p k n : ℕ) (c : Core) → test (down_note p c.moment) ≡ true → is_good_status (status p c.members) ≡ false → k ≤ p → p < k + n → list_any test (each (range_with_len k n) note_if_down c).entries ≡ true
  told_down p k zero c passes bad low high = absurd (omega (arith, low, high))
  told_down p k (suc n) c passes bad low high = elim (cases_eq k p) [
    | inl here ↦ all_keep_told (range_with_len (k + 1) n) (note_if_down k c) (subst (λ q. list_any test (note_if_down q c).entries ≡ true) (sym here) (noted_here p c passes bad))
    | inr other ↦ told_down p (k + 1) n (note_if_down k c) (subst (λ m. test (down_note p m) ≡ true) (sym (beside k c).1) passes)
        (subst (λ m. is_good_status (status p m) ≡ false) (sym (beside k c).0) bad) (omega (arith, low, other)) (omega (arith, high))
  ]

  -- where the core goes on these stand in its journal
  module _ (shape : Shape) (limits : Limits) (taken : Taken) (moment : ℕ) where
    abbrev views : Core
    views = begin_views (new_core shape limits taken moment)

    silent : Silent (new_core shape limits taken moment) (begin_views (new_core shape limits taken moment))
    silent = all_silent (shards_of (new_core shape limits taken moment)) (new_core shape limits taken moment)

    pub told_entries : (p : ℕ) → p < shape.shards * shape.copies → test (down_note p moment) ≡ true → is_good_status (status p (first_members shape taken)) ≡ false → list_any test (note_down (begin_views (new_core shape limits taken moment))).entries ≡ true
    told_entries p low passes bad =
        subst (λ (m : Members). list_any test (each (all_peers m.shape) note_if_down views).entries ≡ true) (sym silent.members)
        (told_down p 0 (shape.shards * shape.copies) views (subst (λ m. test (down_note p m) ≡ true) (sym silent.moment) passes)
        (subst (λ (m : Members). is_good_status (status p m) ≡ false) (sym silent.members) bad) (omega arith) (omega (arith, low)))

    pub told_opening : (p : ℕ) → p < shape.shards * shape.copies → test (down_note p moment) ≡ true → is_good_status (status p (first_members shape taken)) ≡ false
        → (open_core shape limits taken moment).ended ≡ None → list_any test (open_core shape limits taken moment).journal ≡ true
    told_opening p low passes bad going = by_room (nat_lt noted.limits.ops (length noted.journal + length noted.entries)) going
      where
        noted : Core
        noted = note_down (begin_views (new_core shape limits taken moment))

        entries : list_any test (note_down (begin_views (new_core shape limits taken moment))).entries ≡ true
        entries = told_entries p low passes bad

        by_room : (b : Bool) → (if b then refuse_entries noted else keep_entries noted).ended ≡ None → list_any test (if b then refuse_entries noted else keep_entries noted).journal ≡ true
        by_room true e = absurd (cc e)
        by_room false e = any_right test noted.journal noted.entries entries

-- ---- what is told stays told

-- an event's entries are put behind the journal as it ends
done_journal : (e : Event) (at : ℕ) (c : Core) → (do_event e (begin_event (line_of e) at c)).journal ≡ c.journal
done_journal e at c = ap (λ (f : Frame). f.journal) (frame_done e at c)

module _ (test : JournalEntry → Bool) where
  told_step : (e : Event) (at : ℕ) (c : Core) → list_any test c.journal ≡ true → list_any test (step e at c).journal ≡ true
  told_step e at c told = go (is_none c.ended)
    where
      done : Core
      done = do_event e (begin_event (line_of e) at c)

      still : list_any test (do_event e (begin_event (line_of e) at c)).journal ≡ true
      still = subst (λ (es : List JournalEntry). list_any test es ≡ true) (sym (done_journal e at c)) told

      by_room : (b : Bool) → list_any test (if b then refuse_entries done else keep_entries done).journal ≡ true
      by_room true = still
      by_room false = any_left test done.journal done.entries still

      go : (b : Bool) → list_any test (change_if b (run_event e at) c).journal ≡ true
      go true = by_room (nat_lt done.limits.ops (length done.journal + length done.entries))
      go false = told

  pub told_steps : (es : Events) (c : Core) → list_any test c.journal ≡ true → list_any test (steps c es).journal ≡ true
  told_steps [] c told = told
  told_steps (e ∷ es) c told = told_steps es (step e.0 e.1 c) (told_step e.0 e.1 c told)
