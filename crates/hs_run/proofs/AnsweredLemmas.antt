-- What events add to a journal: within its limit, and no later than they are.
use Rattle.std.proofs.Common.{◌≡◌, ◌∙◌, ap, sym, subst, ℕ, ◌+◌, ◌≤◌, Bool, true, false, List, [], ◌∷◌, ◌++◌, refl, arith, is_none, length, length-append, nat_lt}
use Rattle.std.proofs.lemmas.List.{append-nil, append_assoc}
use Rattle.std.proofs.lemmas.List.Elements.{All-append, All-nil, All-same, All-weaker}
use Rattle.std.specs.Prelude.{All}
use Rattle.hs_cluster.proofs.OpenedLemmas.{opens_so}
use Rattle.hs_core_words.specs.declared.event.Event.{Event}
use Rattle.hs_core_words.specs.Opening.{Taken, begin_views, new_core, note_down, open_core}
use Rattle.hs_core_words.specs.State.{Core}
use Rattle.hs_core_words.specs.Step.{end_event, step}
use Rattle.hs_events.proofs.FrameLemmas.{Frame, frame_opens}
use Rattle.hs_events.specs.Course.{steps}
use Rattle.hs_events.specs.Due.{Events, MomentsRise}
use Rattle.hs_journal.specs.declared.entry.JournalEntry.{JournalEntry}
use Rattle.hs_limits.specs.declared.limits.Limits.{Limits}
use Rattle.hs_limits.specs.declared.shape.Shape.{Shape}
use Rattle.hs_moments.proofs.CoreLemmas.{limits_at}
use Rattle.hs_moments.proofs.JournalLemmas.{AreAt, added_at, ended_entries, ended_journal, entries_after, journal_after, kept_at, opening_told}
use Rattle.hs_moments.specs.Answers.{added, before_end, kept_entries}
use Rattle.hs_run.specs.Going.{HasAnswered}
use Rattle.hs_run.proofs.RiseLemmas.{rise_le}

-- no entry is of a later moment
abbrev pub AreDatedBy : ℕ → List JournalEntry → Type 0
AreDatedBy now entries = All (λ (entry : JournalEntry). entry.moment ≤ now) entries

pub dated_on : (now later : ℕ) (entries : List JournalEntry) → now ≤ later → AreDatedBy now entries → AreDatedBy later entries
dated_on now later entries up h =
    All-weaker (λ (entry : JournalEntry). entry.moment ≤ now) (λ (entry : JournalEntry). entry.moment ≤ later) (λ entry low. up_to entry.moment low) entries h
  where
    up_to : (k : ℕ) → k ≤ now → k ≤ later
    up_to k low = omega (arith, low, up)

at_by : (at now : ℕ) (entries : List JournalEntry) → at ≤ now → AreAt at entries → AreDatedBy now entries
at_by at now entries up h =
    All-weaker (λ (entry : JournalEntry). entry.moment ≡ at) (λ (entry : JournalEntry). entry.moment ≤ now) (λ entry is. by_is entry.moment is) entries h
  where
    by_is : (k : ℕ) → k ≡ at → k ≤ now
    by_is k is = omega (arith, is, up)

-- ---- within its limit

not_below : (a b : ℕ) → nat_lt a b ≡ false → b ≤ a
not_below a b e = grind arith

-- at the end of an event, where the limit is this and the journal was this before it
fits_end : (c : Core) (limit : ℕ) (old : List JournalEntry) → c.limits.ops ≡ limit → length old ≤ limit → (end_event c).journal ≡ old ++ kept_entries c → length (end_event c).journal ≤ limit
fits_end c limit old same few is = go (nat_lt c.limits.ops (length c.journal + length c.entries)) refl
  where
    go : (b : Bool) → nat_lt c.limits.ops (length c.journal + length c.entries) ≡ b → length (end_event c).journal ≤ limit
    go true e =
        let none : kept_entries c ≡ [] = rw e refl in
        let long : length (end_event c).journal ≡ length old = ap length (is ∙ ap (λ (more : List JournalEntry). old ++ more) none ∙ append-nil old) in
        omega (arith, long, few)
    go false e =
        let low : length c.journal + length c.entries ≤ c.limits.ops = not_below c.limits.ops (length c.journal + length c.entries) e in
        let both : length (c.journal ++ c.entries) ≡ length c.journal + length c.entries = length-append c.journal c.entries in
        let within : length (c.journal ++ c.entries) ≤ limit = omega (arith, low, both, same) in
        rw e within

end_limits : (c : Core) → (end_event c).limits ≡ c.limits
end_limits c = go (nat_lt c.limits.ops (length c.journal + length c.entries)) refl
  where
    go : (b : Bool) → nat_lt c.limits.ops (length c.journal + length c.entries) ≡ b → (end_event c).limits ≡ c.limits
    go true e = rw e refl
    go false e = rw e refl

fits_after : (e : Event) (at limit : ℕ) (c : Core) → c.limits.ops ≡ limit → length c.journal ≤ limit → length (step e at c).journal ≤ limit
fits_after e at limit c same few = go (is_none c.ended) refl
  where
    go : (b : Bool) → is_none c.ended ≡ b → length (step e at c).journal ≤ limit
    go true h =
        let x : Core = before_end e at c in
        let stepped : step e at c ≡ end_event x = rw h refl in
        let kept : added e at c ≡ kept_entries x = rw h refl in
        let limits : x.limits ≡ c.limits = sym (end_limits x) ∙ ap (λ (d : Core). d.limits) (sym stepped) ∙ limits_at c e at in
        let journal : (end_event x).journal ≡ c.journal ++ kept_entries x = ap (λ (d : Core). d.journal) (sym stepped) ∙ journal_after e at c ∙ ap (λ (more : List JournalEntry). c.journal ++ more) kept in
        subst (λ (d : Core). length d.journal ≤ limit) (sym stepped) (fits_end x limit c.journal (ap (λ (l : Limits). l.ops) limits ∙ same) few journal)
    go false h =
        let stays : step e at c ≡ c = rw h refl in
        subst (λ (d : Core). length d.journal ≤ limit) (sym stays) few

-- ---- one event, and some

answered_step : (limit : ℕ) (c : Core) (now : ℕ) (e : Event) (at : ℕ) → now ≤ at → HasAnswered limit c now → HasAnswered limit (step e at c) at
answered_step limit c now e at up h = record {
  between = entries_after e at c h.between;
  limits = ap (λ (l : Limits). l.ops) (limits_at c e at) ∙ h.limits;
  fits = fits_after e at limit c h.limits h.fits;
  dated = All-same (λ (entry : JournalEntry). entry.moment ≤ at) (step e at c).journal (c.journal ++ added e at c) (journal_after e at c)
      (All-append (λ (entry : JournalEntry). entry.moment ≤ at) c.journal (added e at c) (dated_on now at c.journal up h.dated) (at_by at at (added e at c) (omega arith) (added_at e at c h.between)));
}

pub answered_on : (limit : ℕ) (c : Core) (now later : ℕ) → now ≤ later → HasAnswered limit c now → HasAnswered limit c later
answered_on limit c now later up h = record { between = h.between; limits = h.limits; fits = h.fits; dated = dated_on now later c.journal up h.dated }

pub answered_steps : (limit : ℕ) (c : Core) (es : Events) (from to : ℕ) → HasAnswered limit c from → MomentsRise from es to → HasAnswered limit (steps c es) to
answered_steps limit c [] from to h rise = answered_on limit c from to rise h
answered_steps limit c (e ∷ es) from to h rise = answered_steps limit (step e.0 e.1 c) es e.1 to (answered_step limit c from e.0 e.1 rise.0 h) rise.1

-- ---- what they add

pub record HasAdded (c : Core) (es : Events) (to : ℕ) : Type 0 where
  pub more : List JournalEntry
  pub is : (steps c es).journal ≡ c.journal ++ more
  pub dated : AreDatedBy to more

pub has_added : (c : Core) (es : Events) (from to : ℕ) → c.entries ≡ [] → MomentsRise from es to → HasAdded c es to
has_added c [] from to between rise = record { more = []; is = sym (append-nil c.journal); dated = All-nil (λ (entry : JournalEntry). entry.moment ≤ to) }
has_added c (e ∷ es) from to between rise =
    let rest : HasAdded (step e.0 e.1 c) es to = has_added (step e.0 e.1 c) es e.1 to (entries_after e.0 e.1 c between) rise.1 in
    record {
      more = added e.0 e.1 c ++ rest.more;
      is = rest.is ∙ ap (λ (j : List JournalEntry). j ++ rest.more) (journal_after e.0 e.1 c) ∙ append_assoc c.journal (added e.0 e.1 c) rest.more;
      dated = All-append (λ (entry : JournalEntry). entry.moment ≤ to) (added e.0 e.1 c) rest.more (at_by e.1 to (added e.0 e.1 c) (rise_le e.1 to es rise.1) (added_at e.0 e.1 c between)) rest.dated;
    }

-- ---- a core that opens

pub answered_opens : (shape : Shape) (limits : Limits) (taken : Taken) (moment : ℕ) → HasAnswered limits.ops (open_core shape limits taken moment) moment
answered_opens shape limits taken moment =
    let a : Core = new_core shape limits taken moment in
    let c : Core = note_down (begin_views a) in
    let limit : (end_event c).limits ≡ limits = (opens_so shape limits taken moment).limits in
    let journal : (end_event c).journal ≡ [] ++ kept_entries c = ended_journal c ∙ ap (λ (f : Frame). f.journal ++ kept_entries c) (frame_opens a) in
    record {
      between = ended_entries c;
      limits = ap (λ (l : Limits). l.ops) limit;
      fits = fits_end c limits.ops [] (ap (λ (f : Frame). f.limits.ops) (frame_opens a)) (omega arith) journal;
      dated = All-same (λ (entry : JournalEntry). entry.moment ≤ moment) (end_event c).journal (kept_entries c) journal (at_by moment moment (kept_entries c) (omega arith) (kept_at moment c (opening_told a refl)));
    }
