-- What changes beside a run changes so in the core whose writes have payloads that tell their addresses.
use Rattle.std.proofs.Common.{◌≡◌, ◌∙◌, sym, ap, ℕ, zero, suc, true, List, [], ◌∷◌, map, Contains, refl}
use Rattle.std.proofs.lemmas.List.Elements.{All-weaker}
use Rattle.std.specs.Map.{values_of}
use Rattle.std.specs.Prelude.{slice_index_or}
use Rattle.hs_any_events.proofs.CodedCoreLemmas.{IsCoded, coded_operations, same_front, same_limits, same_sessions, waiting_alike}
use Rattle.hs_any_events.proofs.CodedEntryLemmas.{outline}
use Rattle.hs_any_events.proofs.CodedGroupLemmas.{group_outline}
use Rattle.hs_any_events.proofs.CodedLemmas.{Code}
use Rattle.hs_any_events.proofs.CodedListLemmas.{nil_from-map}
use Rattle.hs_any_events.proofs.CodedPoolLemmas.{round_there}
use Rattle.hs_awaiting.specs.declared.waiting.Waiting.{Waiting}
use Rattle.hs_core_words.specs.Looking.{group_of, shape_of}
use Rattle.hs_core_words.specs.State.{Core}
use Rattle.hs_entry.specs.declared.entry.Entry.{Entry}
use Rattle.hs_events.specs.Alone.{is_round}
use Rattle.hs_replica.specs.Group.{Group, new_group}
use Rattle.hs_standing.specs.Changes.{IsBeside}

-- ---- lists of shards in which other entries wait

abbrev pub with_waiting : (ℕ → List Entry) → List Group → List Group
with_waiting waiting [] = []
with_waiting waiting (g ∷ gs) = record g { waiting = waiting 0 } ∷ with_waiting (λ k. waiting (suc k)) gs

waiting_is : (waiting : ℕ → List Entry) (gs : List Group) (k : ℕ) (none : Group) → none.waiting ≡ [] → map outline (waiting k) ≡ map outline (slice_index_or gs k none).waiting
    → (slice_index_or (with_waiting waiting gs) k none).waiting ≡ waiting k
waiting_is waiting [] k none empty same = empty ∙ nil_from-map outline (waiting k) (sym (same ∙ ap (λ (es : List Entry). map outline es) empty))
waiting_is waiting (g ∷ gs) zero none empty same = refl
waiting_is waiting (g ∷ gs) (suc k) none empty same = waiting_is (λ j. waiting (suc j)) gs k none empty same

front_is : (waiting : ℕ → List Entry) (gs : List Group) (k : ℕ) (none : Group) → (slice_index_or (with_waiting waiting gs) k none).front ≡ (slice_index_or gs k none).front
front_is waiting [] k none = refl
front_is waiting (g ∷ gs) zero none = refl
front_is waiting (g ∷ gs) (suc k) none = front_is (λ j. waiting (suc j)) gs k none

outlines_are : (waiting : ℕ → List Entry) (gs : List Group) (none : ℕ → Group) → ((k : ℕ) → map outline (waiting k) ≡ map outline (slice_index_or gs k (none k)).waiting) → map group_outline (with_waiting waiting gs) ≡ map group_outline gs
outlines_are waiting [] none same = refl
outlines_are waiting (g ∷ gs) none same =
    let later = outlines_are (λ k. waiting (suc k)) gs (λ k. none (suc k)) (λ k. same (suc k)) in
    λ i. record { rest = record g { waiting = [] }; waiting = same 0 i } ∷ later i

-- ---- the core that changes so

module _ (code : Code) (a b : Core) (beside : IsBeside a b) (c : Core) (r : IsCoded code a c) where
  abbrev pub moved : Core
  moved = record b {
    operations = c.operations;
    groups = with_waiting (λ k. (group_of k c).waiting) b.groups;
    journal = c.journal;
    refused = c.refused;
    entries = c.entries;
  }

  same_waiting : (k : ℕ) → map outline (group_of k c).waiting ≡ map outline (group_of k b).waiting
  same_waiting k = waiting_alike code a c r k ∙ ap (λ (es : List Entry). map outline es) (sym (beside.waiting k))

  pub moved_beside : IsBeside c moved
  moved_beside = record {
    limits = beside.limits ∙ sym (same_limits code a c r);
    shape = beside.shape ∙ sym (ap (λ (x : Core). shape_of x) r.same);
    catalogues = beside.catalogues ∙ sym (ap (λ (x : Core). x.catalogues) r.same);
    sessions = beside.sessions ∙ sym (same_sessions code a c r);
    operations = refl;
    told = refl;
    waiting = λ g. waiting_is (λ k. (group_of k c).waiting) b.groups g (new_group (shape_of b) g 0 0 []) refl (same_waiting g);
    front = λ g. front_is (λ k. (group_of k c).waiting) b.groups g (new_group (shape_of b) g 0 0 []) ∙ beside.front g ∙ sym (same_front code a c r g);
    rounds = All-weaker (λ m. is_round m ≡ true → Contains (values_of a.pool.messages) m) (λ m. is_round m ≡ true → Contains (values_of c.pool.messages) m) (λ m was round. round_there a.pool c.pool r.pool m round (was round))
        (values_of b.pool.messages) beside.rounds;
  }

  pub moved_coded : IsCoded code b moved
  moved_coded = record {
    same = refl;
    operations = r.operations ∙ ap (λ (es : List (ℕ × Waiting)). coded_operations code es) (sym beside.operations);
    groups = outlines_are (λ k. (group_of k c).waiting) b.groups (λ k. new_group (shape_of b) k 0 0 []) same_waiting;
    pool = refl;
  }
