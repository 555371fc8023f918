-- On a sane store of one copy a shard what a peer is to read is in what is sealed of its list, along any events.
use Rattle.std.proofs.Common.{◌≡◌, ◌≢◌, ◌∙◌, sym, ap, subst, ◌⊎◌, inl, inr, ℕ, zero, suc, ◌+◌, ◌<◌, ◌≤◌, ◌==◌, ◌++◌, Bool, true, false, cond, find, List, [], ◌∷◌, Option, Some, None, is_none, is_some, refl, arith, eqb-true, length, take}
use Rattle.std.proofs.lemmas.Bool.{cases_eq, cases_lt}
use Rattle.std.proofs.lemmas.List.{length-append}
use Rattle.std.specs.List.{enumerate_from}
use Rattle.std.specs.Option.{option_map}
use Rattle.std.specs.Prelude.{Contains}
use Rattle.hs_cluster.specs.Kept.{AreStored, IsStored, sealed_front}
use Rattle.hs_awaiting.specs.Words.{change_if}
use Rattle.hs_core_words.specs.Looking.{catalogue_of, front_of, group_of, home, shape_of}
use Rattle.hs_core_words.specs.Step.{run_event, step}
use Rattle.hs_desk.specs.declared.fault.CoreFault.{CoreFault}
use Rattle.hs_desk.specs.declared.job.Job.TheVariants as job
use Rattle.hs_entry.specs.declared.entry.Entry.{Entry}
use Rattle.hs_events.specs.Due.{Events}
use Rattle.hs_events.specs.Sane.{IsSane}
use Rattle.hs_events.specs.Whole.{Whole, floor, reach, step_whole}
use Rattle.hs_fold.specs.Shards.Setting.{Numbered}
use Rattle.hs_limits.specs.declared.address.Address.{Address}
use Rattle.hs_model.proofs.Members.{Member, contains_from_member}
use Rattle.hs_moments.proofs.AloneEventLemmas.{home_here}
use Rattle.hs_moments.proofs.SaneLemmas.{sane_stays}
use Rattle.hs_moments.proofs.WorkLemmas.{floor_alone, job_within, reach_sane}
use Rattle.hs_shard.specs.declared.facts.Facts.{Facts}
use Rattle.hs_shard.specs.Facts.{BlockList, Catalogue, is_stored_by, pointers_at}
use Rattle.hs_clauses.proofs.EventLemmas.{numbers_run}
use Rattle.hs_clauses.specs.Numbered.{AreNumbered, AreWithin}

-- ---- numbers and entries

-- a number that a block carries
pub number_within : (front number : ℕ) (blocks : BlockList) → AreWithin front blocks → is_some (pointers_at number blocks) ≡ true → (1 ≤ number) × (number ≤ front)
number_within front number [] all some = absurd (cc some)
number_within front number (x ∷ blocks) all some = by (x.1.number == number) refl some (number_within front number blocks all.1)
  where
    by : (b : Bool) → (x.1.number == number) ≡ b → is_some (option_map (λ (e : Address × Facts). e.1.pointers) (cond b (Some x) (find (is_stored_by number) blocks))) ≡ true
        → (is_some (pointers_at number blocks) ≡ true → (1 ≤ number) × (number ≤ front)) → (1 ≤ number) × (number ≤ front)
    by true t h again = subst (λ n. (1 ≤ n) × (n ≤ front)) (eqb-true x.1.number number t) all.0
    by false t h again = again h

-- so many entries have each number up to there
pub entry_at : (m front : ℕ) (es : List Entry) → front ≤ length es → (n : ℕ) → m ≤ n → n < m + front → (x : Entry) × Member (n, x) (take front (enumerate_from m es))
entry_at m zero es long n low high = absurd (omega (arith, low, high))
entry_at m (suc front) [] long n low high = absurd (omega (arith, long))
entry_at m (suc front) (x ∷ es) long n low high = by (cases_eq n m) (λ d. entry_at (m + 1) front es (omega (arith, long)) n (omega (arith, low, d)) (omega (arith, high)))
  where
    Found : List (ℕ × Entry) → Type 0
    Found list = (y : Entry) × Member (n, y) list

    by : (n ≡ m) ⊎ (n ≢ m) → (n ≢ m → Found (take front (enumerate_from (m + 1) es))) → Found ((m, x) ∷ take front (enumerate_from (m + 1) es))
    by (inl is) again = (x, inl (ap (λ k. (k, x)) is))
    by (inr d) again = let rest = again d in (rest.0, inr rest.1)

-- ---- what is sealed of a peer's list

module _ (c : Whole) (sane : IsSane c) (peer : ℕ) (low : peer < (shape_of c.core).shards) where
  abbrev all : List Entry
  all = (sane.lists peer low).taken ++ (group_of peer c.core).waiting

  sealed_is : sealed_front c peer ≡ take (front_of peer c.core) (enumerate_from 1 ((sane.lists peer low).taken ++ (group_of peer c.core).waiting))
  sealed_is = λ i. take (floor_is i) (list_is i)
    where
      floor_is : floor c peer ≡ front_of peer c.core
      floor_is = floor_alone c peer sane.alone low ∙ (sane.settled peer low).settled

      list_is : reach c peer ≡ enumerate_from 1 ((sane.lists peer low).taken ++ (group_of peer c.core).waiting)
      list_is = reach_sane c peer sane ∙ (sane.lists peer low).counted

  -- it has an entry of each number up to what took effect
  pub sealed_has : (number : ℕ) → 1 ≤ number → number ≤ front_of peer c.core → (entry : Entry) × Member (number, entry) (sealed_front c peer)
  sealed_has number some few = (there.0, subst (λ (list : Numbered). Member (number, there.0) list) (sym sealed_is) there.1)
    where
      long : front_of peer c.core ≤ length ((sane.lists peer low).taken ++ (group_of peer c.core).waiting)
      long =
          let sum = length-append (sane.lists peer low).taken (group_of peer c.core).waiting in
          let handed = (sane.lists peer low).handed in
          omega (arith, sum, handed)

      there : (entry : Entry) × Member (number, entry) (take (front_of peer c.core) (enumerate_from 1 ((sane.lists peer low).taken ++ (group_of peer c.core).waiting)))
      there = entry_at 1 (front_of peer c.core) all long number some (omega (arith, few))

-- ---- what it is to read is there

is_stored : (c : Whole) → IsSane c → AreNumbered c.core → IsStored c
is_stored c sane numbers peer number todo some = by (cases_lt peer (shape_of c.core).shards)
  where
    mine : catalogue_of (home peer c.core) c.core ≡ catalogue_of peer c.core
    mine = ap (λ k. catalogue_of k c.core) (home_here c.core peer sane.alone.copies)

    here : is_some (pointers_at number (catalogue_of peer c.core).blocks) ≡ true
    here = ap (λ (d : Catalogue). is_some (pointers_at number d.blocks)) (sym mine) ∙ some

    by : (peer < (shape_of c.core).shards) ⊎ ((shape_of c.core).shards ≤ peer) → (entry : Entry) × Contains (sealed_front c peer) (number, entry)
    by (inl low) =
        let within : (1 ≤ number) × (number ≤ front_of peer c.core) = number_within (front_of peer c.core) number (catalogue_of peer c.core).blocks (numbers peer) here in
        let there : (entry : Entry) × Member (number, entry) (sealed_front c peer) = sealed_has c sane peer low number within.0 within.1 in
        (there.0, contains_from_member (number, there.0) (sealed_front c peer) there.1)
    by (inr high) = absurd (job_within c.core peer (job.Read number) sane.alone high todo)

-- ---- along events

-- a core that has ended reads nothing
over_stored : (c : Whole) (es : Events) (f : CoreFault) → c.core.ended ≡ Some f → AreStored c es
over_stored c [] f over = tt
over_stored c (e ∷ es) f over = (λ going. absurd (none (sym going ∙ over)), over_stored (step_whole e.0 e.1 c) es f (stays ∙ over))
  where
    none : None ≡ Some f → ⊥
    none bad = cc bad

    stays : (step e.0 e.1 c.core).ended ≡ c.core.ended
    stays = ap (λ (o : Option CoreFault). (change_if (is_none o) (run_event e.0 e.1) c.core).ended) over

pub all_stored : (c : Whole) (es : Events) → IsSane c → AreNumbered c.core → AreStored c es
all_stored c [] sane numbers = tt
all_stored c (e ∷ es) sane numbers = (
  λ going. is_stored c sane numbers,
  by (step e.0 e.1 c.core).ended refl (λ going. all_stored (step_whole e.0 e.1 c) es (sane_stays c e.0 e.1 sane going) (numbers_run e.0 e.1 c.core numbers)),
)
  where
    by : (o : Option CoreFault) → (step e.0 e.1 c.core).ended ≡ o → ((step e.0 e.1 c.core).ended ≡ None → AreStored (step_whole e.0 e.1 c) es) → AreStored (step_whole e.0 e.1 c) es
    by None is now = now is
    by (Some f) is now = over_stored (step_whole e.0 e.1 c) es f is
