-- How an event ends: its entries come behind the journal, all of them or none.
use Rattle.std.proofs.Common.{◌≡◌, ◌∙◌, sym, ap, ◌⊎◌, inl, inr, ◌+◌, ◌++◌, Bool, true, false, cond, List, [], length, refl, append-nil, nat_lt}
use Rattle.hs_core_words.specs.declared.event.Event.{Event}
use Rattle.hs_core_words.specs.State.{Core}
use Rattle.hs_core_words.specs.Step.{do_event, end_event, keep_entries, refuse_entries}
use Rattle.hs_events.proofs.FrameLemmas.{Frame, frame_does}
use Rattle.hs_journal.specs.declared.entry.JournalEntry.{JournalEntry}
use Rattle.hs_told.specs.InTurn.{told_of}

-- ---- within an event the journal stays

pub record Keeps (a b : Core) : Type 0 where
  pub journal : b.journal ≡ a.journal
  pub refused : b.refused ≡ a.refused

pub does_keep : (e : Event) (c : Core) → Keeps c (do_event e c)
does_keep e c = record { journal = ap (λ (f : Frame). f.journal) (frame_does e c); refused = ap (λ (f : Frame). f.refused) (frame_does e c) }

-- ---- and at its end

-- nothing is left to tell; the journal has all that was told, or is as it was
pub record Ends (b d : Core) : Type 0 where
  pub quiet : d.entries ≡ []
  pub kept : (d.journal ≡ told_of d) ⊎ (d.journal ≡ b.journal)

pub ends : (b : Core) → b.refused ≡ [] → Ends b (end_event b)
ends b none = go (nat_lt b.limits.ops (length b.journal + length b.entries))
  where
    go : (full : Bool) → Ends b (cond full (refuse_entries b) (keep_entries b))
    go true = record { quiet = refl; kept = inr refl }
    go false = record { quiet = refl; kept = inl (sym (ap (λ (es : List JournalEntry). (b.journal ++ b.entries) ++ es) none ∙ append-nil (b.journal ++ b.entries))) }

-- nothing is left, also where something had found the journal full before
pub ended_quiet : (b : Core) → (end_event b).entries ≡ []
ended_quiet b = go (nat_lt b.limits.ops (length b.journal + length b.entries))
  where
    go : (full : Bool) → (cond full (refuse_entries b) (keep_entries b)).entries ≡ []
    go true = refl
    go false = refl
