-- What is asked of a machine.
use Rattle.std.specs.Prelude.{◌≡◌, ℕ, ◌≤◌, List, [], ◌∷◌, ◌++◌, All}
use Rattle.hs_journal.specs.declared.entry.JournalEntry.{JournalEntry}
use Rattle.hs_moments.specs.Machine.{Machine}

module _ {State Event : Type 0} (M : Machine State Event) (Sane : State → Type 0) (adds : State → Event → ℕ → List JournalEntry) where
  -- fronts never fall; an event's entries come behind those before and have its moment; and what is sane stays so
  pub record Obeys : Type 0 where
    pub rise : (c : State) (e : Event) (k g : ℕ) → M.front c g ≤ M.front (M.step c e k) g
    pub journal : (c : State) (e : Event) (k : ℕ) → Sane c → M.journal (M.step c e k) ≡ M.journal c ++ adds c e k
    pub moments : (c : State) (e : Event) (k : ℕ) → Sane c → All (λ entry. entry.moment ≡ k) (adds c e k)
    pub sane : (c : State) (e : Event) (k : ℕ) → Sane c → Sane (M.step c e k)

  -- the entries of some events
  abbrev pub entries_of : State → List (Event × ℕ) → List JournalEntry
  entries_of c [] = []
  entries_of c (e ∷ es) = adds c e.0 e.1 ++ entries_of (M.step c e.0 e.1) es
