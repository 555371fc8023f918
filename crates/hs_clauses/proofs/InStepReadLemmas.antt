-- Where the whole lists of a core are those of the machine of its copies, a peer that reads has sealed all that took effect of its shard.
use Rattle.std.proofs.Common.{◌≡◌, ◌∙◌, sym, ap, subst, inl, inr, ℕ, zero, suc, ◌+◌, ◌<◌, ◌≤◌, ◌++◌, List, [], ◌∷◌, Option, Some, None, length, map, refl, arith, take, if◌then◌else◌}
use Rattle.std.proofs.lemmas.List.{length-map}
use Rattle.std.specs.List.{enumerate_from}
use Rattle.std.specs.Option.{option_map}
use Rattle.std.specs.Prelude.{Contains}
use Rattle.hs_clauses.proofs.EventLemmas.{numbers_run}
use Rattle.hs_clauses.proofs.ReadsListLemmas.{one_entry, taken_member}
use Rattle.hs_clauses.proofs.SealedLemmas.{entry_at, number_within}
use Rattle.hs_clauses.specs.Home.{AreAtHome}
use Rattle.hs_clauses.specs.Numbered.{AreNumbered}
use Rattle.hs_clauses.specs.Run.{HasSealed, ReadStands, ReadsWhatIsSealed}
use Rattle.hs_cluster.specs.Kept.{AreStored, IsStored, sealed_front}
use Rattle.hs_copies.proofs.OpenedLemmas.{took_good}
use Rattle.hs_copies.specs.Lists.{IsFront, Item}
use Rattle.hs_copies.specs.Machine.{Copies, Good as GoodStage}
use Rattle.hs_copies.specs.Standing.{stage_of}
use Rattle.hs_core_copies.proofs.BesideLemmas.{home_of_peer}
use Rattle.hs_core_copies.proofs.KnowingLemmas.{knows}
use Rattle.hs_core_copies.proofs.NextLemmas.{first_is_next, front_take, map_take}
use Rattle.hs_core_copies.proofs.StepsLemmas.{was_going}
use Rattle.hs_core_copies.specs.InStep.{IsInStep, rejoin_at}
use Rattle.hs_core_copies.specs.Knowing.{IsKnown}
use Rattle.hs_core_copies.specs.Lists.{numbered}
use Rattle.hs_core_words.specs.declared.task.Task.{Task}
use Rattle.hs_core_words.specs.Looking.{catalogue_of as memory_at, first_task, front_of, group_of, home, sealed_of, shape_of, status_of}
use Rattle.hs_desk.specs.declared.job.Job.{Job}
use Rattle.hs_desk.specs.declared.job.Job.TheVariants as job
use Rattle.hs_entry.specs.declared.entry.Entry.{Entry}
use Rattle.hs_events.specs.Due.{Events}
use Rattle.hs_events.specs.Whole.{Whole, floor, reach, step_whole}
use Rattle.hs_fold.specs.Runs.Catalogue.{catalogue_of}
use Rattle.hs_fold.specs.Runs.Facts.{Catalogue as Folded}
use Rattle.hs_fold.specs.Runs.Fits.{catalogue_at}
use Rattle.hs_fold.specs.Shards.Setting.{Numbered, shard_in}
use Rattle.hs_known_copies.proofs.KnownLemmas.{peer_low}
use Rattle.hs_known_copies.specs.Known.{AreInStep}
use Rattle.hs_limits.specs.declared.limits.PeerStatus.TheVariants.{Good}
use Rattle.hs_members.specs.Members.{is_good_status}
use Rattle.hs_model.proofs.Members.{Member, contains_from_member, member_from_contains}
use Rattle.hs_replica.specs.Group.{copy_of}
use Rattle.hs_standing.specs.Start.{Start}
use Rattle.hs_whole_copies.proofs.AllLemmas.{all_stay}
use Rattle.hs_whole_copies.specs.Whole.{IsShardInStep, IsWholeInStep, longest}

-- ---- fronts

front_long : {X : Type 0} (xs ys more : List X) → IsFront xs ys → IsFront xs (ys ++ more)
front_long [] ys more f = tt
front_long (x ∷ xs) [] more f = absurd f
front_long (x ∷ xs) (y ∷ ys) more f = (f.0, front_long xs ys more f.1)

-- what stands among so many stands among more
more_members : {X : Type 0} (n m : ℕ) (xs : List X) (x : X) → n ≤ m → Member x (take n xs) → Member x (take m xs)
more_members zero m xs x low h = absurd h
more_members (suc n) zero xs x low h = absurd (omega (arith, low))
more_members (suc n) (suc m) [] x low h = absurd h
more_members (suc n) (suc m) (y ∷ xs) x low (inl is) = inl is
more_members (suc n) (suc m) (y ∷ xs) x low (inr rest) = inr (more_members n m xs x (omega (arith, low)) rest)

numbered_front : (k n : ℕ) (es : List Entry) → enumerate_from k (take n es) ≡ take n (enumerate_from k es)
numbered_front k zero es = refl
numbered_front k (suc n) [] = refl
numbered_front k (suc n) (e ∷ es) = ap (λ (xs : Numbered). (k, e) ∷ xs) (numbered_front (k + 1) n es)

-- a job that is first is of a task
some_job : (x y : Job) → Some x ≡ Some y → x ≡ y
some_job x y e = cc e

task_first : (o : Option Task) (number : ℕ) → option_map (λ (t : Task). t.job) o ≡ Some (job.Read number) → (line : ℕ) × (o ≡ Some (record { job = job.Read number; line = line }))
task_first None number e = absurd (cc e)
task_first (Some t) number e = (t.line, ap (λ (j : Job). Some (record { job = j; line = t.line })) (some_job t.job (job.Read number) e))

module _ (c : Whole) (machines : ℕ → Copies Entry) (k : IsWholeInStep c machines) where
  in_step : AreInStep c.core machines
  in_step = record { shape = k.shape; each = λ g low. (k.each g low).in_step }

  module _ (peer number line : ℕ) (first : first_task peer c.core ≡ Some (record { job = job.Read number; line = line })) where
    abbrev g : ℕ
    g = home peer c.core

    abbrev s : Copies Entry
    s = machines (home peer c.core)

    low : home peer c.core < (shape_of c.core).shards
    low = peer_low c.core machines in_step peer (record { job = job.Read number; line = line }) first

    shard : IsShardInStep (home peer c.core) c (machines (home peer c.core))
    shard = k.each g low

    st : IsInStep (home peer c.core) c.core (machines (home peer c.core))
    st = shard.in_step

    good : status_of peer c.core ≡ Good
    good = first_is_next g peer c.core s (job.Read number) st refl (ap (λ (o : Option Task). option_map (λ (t : Task). t.job) o) first)

    stage : ((machines (home peer c.core)).peers peer).stage ≡ GoodStage
    stage = st.stands.peers.stage peer (home_of_peer g c.core s st peer refl) ∙ ap (λ x. stage_of x (rejoin_at c.core peer).empty) good

    floor_is : floor c peer ≡ (copy_of (group_of (home peer c.core) c.core) peer).sealed
    floor_is = ap (λ x. if is_good_status x then sealed_of peer c.core else 0) good

    some : length (machines (home peer c.core)).took ≤ floor c peer
    some =
        let its : IsKnown (group_of g c.core) peer = (knows g c.core s st).each peer refl good in
        let front = st.stands.front in
        let effects = its.effects in
        let known = its.known in
        let is = floor_is in
        omega (arith, front, effects, known, is)

    begins : IsFront (machines (home peer c.core)).took (longest peer c.core (machines (home peer c.core)))
    begins = front_long s.took (s.peers peer).list _ (took_good s st.stands.faithful peer stage)

    -- what took effect, of the longest list that its disk may have
    took_is : numbered (machines (home peer c.core)).took ≡ take (length (machines (home peer c.core)).took) (reach c peer)
    took_is =
        ap (λ (xs : List (Item Entry)). numbered xs) (front_take s.took (longest peer c.core s) begins)
        ∙ ap (enumerate_from 1) (sym (map_take (λ (x : Item Entry). x.what) (length s.took) (longest peer c.core s)))
        ∙ numbered_front 1 (length s.took) (map (λ (x : Item Entry). x.what) (longest peer c.core s))
        ∙ ap (take (length s.took)) (sym (shard.reaches peer refl))

    all : (x : ℕ × Entry) → Contains (numbered (machines (home peer c.core)).took) x → Contains (sealed_front c peer) x
    all x has =
        contains_from_member x (sealed_front c peer)
        (more_members (length s.took) (floor c peer) (reach c peer) x some
        (subst (λ (es : Numbered). Member x es) took_is (member_from_contains x (numbered s.took) has)))

    among : (x : ℕ × Entry) → Contains (sealed_front c peer) x → Member x (enumerate_from 1 (map (λ (y : Item Entry). y.what) (longest peer c.core (machines (home peer c.core)))))
    among x has = subst (λ (es : Numbered). Member x es) (shard.reaches peer refl) (taken_member (floor c peer) (reach c peer) x (member_from_contains x (sealed_front c peer) has))

    has_sealed : HasSealed c peer (numbered (machines (home peer c.core)).took)
    has_sealed = record {
      good = good;
      low = low;
      all = all;
      once = λ n x y a b. one_entry 1 (map (λ (z : Item Entry). z.what) (longest peer c.core s)) n x y (among (n, x) a) (among (n, y) b);
    }

  pub in_step_reads : (start : Start) (folds : List Folded) → ReadStands start c.core folds → AreAtHome c.core
      → ((shard : ℕ) → shard < (shape_of c.core).shards → catalogue_at folds shard ≡ catalogue_of (shard_in start.set shard) (numbered (machines shard).took)) → ReadsWhatIsSealed start c
  in_step_reads start folds holds at_home settled = record {
    folds = folds;
    holds = holds;
    at_home = at_home;
    took = λ shard. numbered (machines shard).took;
    settled = settled;
    sealed = λ peer number line first. has_sealed peer number line first;
  }

  -- whatever the lists say, what a peer is to read is sealed there, where its shard has a block by that number
  in_step_stored : AreNumbered c.core → IsStored c
  in_step_stored numbers peer number todo some =
      let first = task_first (first_task peer c.core) number todo in
      let s : Copies Entry = machines (home peer c.core) in
      let within = number_within (front_of (home peer c.core) c.core) number (memory_at (home peer c.core) c.core).blocks (numbers (home peer c.core)) some in
      let front = (st peer number first.0 first.1).stands.front in
      let long = length-map s.took (λ (x : Item Entry). x.what) in
      let there = entry_at 1 (length s.took) (map (λ (x : Item Entry). x.what) s.took) (omega (arith, long)) number within.0 (let up = within.1 in omega (arith, front, up)) in
      (there.0, all peer number first.0 first.1 (number, there.0) (contains_from_member (number, there.0) (numbered s.took) (taken_member (length s.took) (numbered s.took) (number, there.0) there.1)))

-- so along events, as long as the core goes on
stored_along : (c : Whole) (es : Events) → (c.core.ended ≡ None → (machines : ℕ → Copies Entry) × IsWholeInStep c machines) → AreNumbered c.core → AreStored c es
stored_along c [] k numbers = tt
stored_along c (e ∷ es) k numbers = (
  λ going. in_step_stored c (k going).0 (k going).1 numbers,
  stored_along (step_whole e.0 e.1 c) es
      (λ on. (let was = k (was_going e.0 e.1 c.core on) in let stay = all_stay c e.0 e.1 was.0 was.1 on in (stay.machines, stay.keeps)))
      (numbers_run e.0 e.1 c.core numbers),
)

pub in_step_all_stored : (c : Whole) (machines : ℕ → Copies Entry) (es : Events) → IsWholeInStep c machines → AreNumbered c.core → AreStored c es
in_step_all_stored c machines es k numbers = stored_along c es (λ going. (machines, k)) numbers
