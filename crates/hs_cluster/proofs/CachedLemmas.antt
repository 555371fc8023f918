-- What is cached stays the blocks of what took effect.
use Rattle.std.proofs.Common.{◌≡◌, ◌∙◌, ◌⊎◌, inl, inr, ap, sym, subst, ℕ, zero, suc, ◌*◌, ◌/◌, ◌≤◌, true, false, List, [], ◌∷◌, ◌++◌, Contains, Option, Some, None, length, take, refl, arith}
use Rattle.std.proofs.lemmas.Bool.{cases_eq, cases_lt}
use Rattle.std.proofs.lemmas.List.{append-nil}
use Rattle.std.proofs.lemmas.List.Elements.{Contains-append_left}
use Rattle.std.proofs.Math.Nat.{div-mul-le_self, mul-le-mul_right}
use Rattle.std.specs.Option.{option_map_or}
use Rattle.std.specs.Prelude.{◌==◌}
use Rattle.hs_cache.specs.Cached.{Cached, pairs_of}
use Rattle.hs_cluster.specs.Cached.{AreBlocks, AreCached, HasEffect, KeepsRead, WasRead, effect_by, in_effect}
use Rattle.hs_cluster.specs.Kept.{sealed_front}
use Rattle.hs_core_words.specs.declared.event.Event.{Event}
use Rattle.hs_core_words.specs.declared.event.Event.TheVariants as event
use Rattle.hs_core_words.specs.Looking.{first_job, front_of, home}
use Rattle.hs_core_words.specs.State.{Core}
use Rattle.hs_core_words.specs.Step.{step}
use Rattle.hs_desk.specs.Answers.{answers}
use Rattle.hs_desk.specs.declared.done.Done.{Done}
use Rattle.hs_desk.specs.declared.done.Done.TheVariants as done
use Rattle.hs_desk.specs.declared.job.Job.{Job}
use Rattle.hs_desk.specs.declared.job.Job.TheVariants as job
use Rattle.hs_entry.specs.declared.entry.Entry.TheVariants as kind
use Rattle.hs_events.specs.Asked.{report_in}
use Rattle.hs_events.specs.Course.{is_refused}
use Rattle.hs_events.specs.Due.{is_answer}
use Rattle.hs_events.specs.Reports.{HasBlock, TellsOf}
use Rattle.hs_events.specs.Sane.{IsSane}
use Rattle.hs_events.specs.Whole.{Whole, floor, reach, step_whole}
use Rattle.hs_fold.specs.Shards.Setting.{Numbered}
use Rattle.hs_limits.specs.declared.shape.Shape.{Shape}
use Rattle.hs_members.specs.Members.{IsPeer, IsShard, home_of}
use Rattle.hs_moments.proofs.AloneEventLemmas.{home_here}
use Rattle.hs_moments.proofs.AloneStepLemmas.{lead_here}
use Rattle.hs_moments.proofs.CoreLemmas.{rises_at, shape_at}
use Rattle.hs_moments.proofs.SaneLemmas.{after_reports, growing_beside, growing_without_call, sane_stays}
use Rattle.hs_moments.proofs.WorkLemmas.{floor_alone, floor_within, reach_sane}
use Rattle.hs_moments.specs.WholeMachine.{IsFrontOf}

some_is : {A : Type 0} (x y : A) → Some x ≡ Some y → x ≡ y
some_is x y e = cc e

false_is_not : false ≡ true → ⊥
false_is_not e = cc e

contains_none : {A : Type 0} (x : A) → Contains [] x → ⊥
contains_none x there = omega (arith, there.1)

-- a longer list has its blocks
block_on : (number : ℕ) (bytes : List ℕ) (peer : ℕ) (list more : Numbered) → IsFrontOf peer list more → HasBlock number bytes (Some list) → HasBlock number bytes (Some more)
block_on number bytes peer list more front h = record {
  entries = more;
  listed = refl;
  line = h.line;
  least = h.least;
  block = subst (λ (l : Numbered). Contains l (number, kind.Block h.line h.least bytes)) (sym front.1)
      (Contains-append_left list front.0 (number, kind.Block h.line h.least bytes) (subst (λ (l : Numbered). Contains l (number, kind.Block h.line h.least bytes)) (sym (some_is list h.entries h.listed)) h.block));
}

-- a peer keeps a copy of some shard
home_shard : (shape : Shape) (peer : ℕ) → IsPeer shape peer → IsShard shape (home_of shape peer)
home_shard shape peer low = elim (cases_lt (home_of shape peer) shape.shards) [
  | inl inside ↦ inside
  | inr high ↦
      let up : peer / shape.copies * shape.copies ≤ peer = div-mul-le_self peer shape.copies in
      let row : shape.shards * shape.copies ≤ peer / shape.copies * shape.copies = mul-le-mul_right shape.copies high in
      absurd (omega (arith, low, up, row))
]

-- ---- what is cached

pub empty_cached : (c : Whole) (cache : Option Cached) → pairs_of cache ≡ [] → AreCached c cache
empty_cached c cache none = record {
  each = λ shard number bytes low there. absurd (contains_none ((shard, number), bytes) (subst (λ ps. Contains ps ((shard, number), bytes)) none there));
}

pub none_cached : (c : Whole) (cache : Option Cached) → cache ≡ None → AreCached c cache
none_cached c cache none = empty_cached c cache (ap pairs_of none)

pub cached_as : (c : Whole) (cache same : Option Cached) → same ≡ cache → AreCached c cache → AreCached c same
cached_as c cache same is has = subst (λ o. AreCached c o) (sym is) has

-- what took effect goes on
pub cached_on : (c new : Whole) (cache : Option Cached) → new.core.members.shape ≡ c.core.members.shape
    → ((shard : ℕ) → IsShard new.core.members.shape shard → IsFrontOf shard (in_effect c shard) (in_effect new shard)) → AreCached c cache → AreCached new cache
cached_on c new cache shape goes has = record {
  each = λ shard number bytes low there.
      block_on number bytes shard (in_effect c shard) (in_effect new shard) (goes shard low) (has.each shard number bytes (subst (λ (s : Shape). IsShard s shard) shape low) there);
}

-- a peer that has sealed what took effect has the blocks that are cached
pub cached_blocks : (c : Whole) (cache : Option Cached) (peer : ℕ) → IsPeer c.core.members.shape peer → HasEffect c peer → AreCached c cache → AreBlocks cache (home peer c.core) (sealed_front c peer)
cached_blocks c cache peer is effect has = λ number bytes there.
    block_on number bytes peer (in_effect c (home peer c.core)) (sealed_front c peer) effect.begins (has.each (home peer c.core) number bytes (home_shard c.core.members.shape peer is) there)

-- ---- a Read that its disk told

same_number : (a b : ℕ) → (a == b) ≡ true → a ≡ b
same_number a b h = grind arith

-- it is the first job
pub read_first : (core : Core) (peer number : ℕ) (bytes : List ℕ) → is_answer core peer (done.Bytes number bytes) ≡ true → first_job peer core ≡ Some (job.Read number)
read_first core peer number bytes answer = go (first_job peer core) refl answer
  where
    of_job : (j : Job) → answers peer j (done.Bytes number bytes) ≡ true → j ≡ job.Read number
    of_job (job.Append n entry) h = absurd (false_is_not h)
    of_job (job.Seal n) h = absurd (false_is_not h)
    of_job (job.Read n) h = ap (λ k. job.Read k) (sym (same_number number n h))
    of_job job.Reset h = absurd (false_is_not h)
    of_job (job.Copy from n) h = absurd (false_is_not h)
    of_job job.Reclaim h = absurd (false_is_not h)

    go : (o : Option Job) → first_job peer core ≡ o → option_map_or (λ j. answers peer j (done.Bytes number bytes)) o false ≡ true → first_job peer core ≡ Some (job.Read number)
    go None is h = absurd (false_is_not h)
    go (Some j) is h = is ∙ ap (λ x. Some x) (of_job j h)

-- what was cached, with what was read
pub cached_read : (c : Whole) (peer : ℕ) (told : Done) (cache behind : Option Cached) → is_answer c.core peer told ≡ true → ((number : ℕ) → first_job peer c.core ≡ Some (job.Read number) → HasEffect c peer)
    → TellsOf told (Some (sealed_front c peer)) → KeepsRead (home peer c.core) (front_of (home peer c.core) c.core) told cache behind → AreCached c cache → AreCached c behind
cached_read c peer told cache behind answer effect tells keeps has = record { each = λ shard number bytes low there. by shard number bytes low (keeps ((shard, number), bytes) there) }
  where
    read : (number : ℕ) (bytes : List ℕ) → told ≡ done.Bytes number bytes → number ≤ front_of (home peer c.core) c.core → HasBlock number bytes (Some (in_effect c (home peer c.core)))
    read number bytes is within =
        let has_it : HasEffect c peer = effect number (read_first c.core peer number bytes (subst (λ d. is_answer c.core peer d ≡ true) is answer)) in
        let block : HasBlock number bytes (Some (sealed_front c peer)) = subst (λ d. TellsOf d (Some (sealed_front c peer))) is tells in
        record {
          entries = in_effect c (home peer c.core);
          listed = refl;
          line = block.line;
          least = block.least;
          block = has_it.within number (kind.Block block.line block.least bytes) within
              (subst (λ (l : Numbered). Contains l (number, kind.Block block.line block.least bytes)) (sym (some_is (sealed_front c peer) block.entries block.listed)) block.block);
        }

    by : (shard number : ℕ) (bytes : List ℕ) → IsShard c.core.members.shape shard
        → Contains (pairs_of cache) ((shard, number), bytes) ⊎ WasRead (home peer c.core) (front_of (home peer c.core) c.core) told ((shard, number), bytes) → HasBlock number bytes (Some (in_effect c shard))
    by shard number bytes low (inl was) = has.each shard number bytes low was
    by shard number bytes low (inr r) = subst (λ s. HasBlock number bytes (Some (in_effect c s))) (sym r.of) (read number bytes r.is r.within)

-- ---- one copy a shard

-- what is taken of a list begins what more is taken of a longer one
front_more : (peer x y : ℕ) (xs rest : Numbered) → x ≤ y → x ≤ length xs → IsFrontOf peer (take x xs) (take y (xs ++ rest))
front_more peer zero y xs rest low within = (take y (xs ++ rest), refl)
front_more peer (suc x) y [] rest low within = absurd (omega (arith, within))
front_more peer (suc x) zero (e ∷ xs) rest low within = absurd (omega (arith, low))
front_more peer (suc x) (suc y) (e ∷ xs) rest low within = let more = front_more peer x y xs rest (omega (arith, low)) (omega (arith, within)) in (more.0, ap (λ l. e ∷ l) more.1)

whole_front : (peer : ℕ) (list : Numbered) → IsFrontOf peer list list
whole_front peer list = ([], sym (append-nil list))

module _ (c : Whole) (sane : IsSane c) where
  peers_are : c.core.members.shape.shards * c.core.members.shape.copies ≡ c.core.members.shape.shards
  peers_are = ap (λ n. c.core.members.shape.shards * n) sane.alone.copies ∙ omega arith

  -- what took effect, of the list of the only peer
  effect_is : (shard : ℕ) → IsShard c.core.members.shape shard → in_effect c shard ≡ take (front_of shard c.core) (c.lists shard)
  effect_is shard low = ap (effect_by c shard) (lead_here c.core shard sane.alone low)

  floor_is : (shard : ℕ) → IsShard c.core.members.shape shard → floor c shard ≡ front_of shard c.core
  floor_is shard low = floor_alone c shard sane.alone low ∙ (sane.settled shard low).settled

  sealed_is : (shard : ℕ) → IsShard c.core.members.shape shard → sealed_front c shard ≡ take (front_of shard c.core) (c.lists shard)
  sealed_is shard low = ap (λ n. take n (reach c shard)) (floor_is shard low) ∙ ap (take (front_of shard c.core)) (reach_sane c shard sane)

  front_within : (shard : ℕ) → IsShard c.core.members.shape shard → front_of shard c.core ≤ length (c.lists shard)
  front_within shard low = let within = floor_within c shard sane low in let same = floor_is shard low in let list = ap length (reach_sane c shard sane) in omega (arith, within, same, list)

  -- each peer has sealed just that
  pub sane_effect : (peer : ℕ) → IsPeer c.core.members.shape peer → HasEffect c peer
  sane_effect peer is =
      let low : IsShard c.core.members.shape peer = omega (arith, is, peers_are) in
      let same : in_effect c (home peer c.core) ≡ sealed_front c peer = ap (in_effect c) (home_here c.core peer sane.alone.copies) ∙ effect_is peer low ∙ sym (sealed_is peer low) in
      record {
        begins = ([], sym same ∙ sym (append-nil (in_effect c (home peer c.core))));
        within = λ number entry below there. subst (λ (l : Numbered). Contains l (number, entry)) (sym same) there;
      }

  -- by an event by which the core goes on
  module _ (e : Event) (now : ℕ) (going : (step e now c.core).ended ≡ None) where
    abbrev new : Whole
    new = step_whole e now c

    effect_goes : ((p : ℕ) → IsFrontOf p (reach c p) (reach new p)) → (shard : ℕ) → IsShard new.core.members.shape shard → IsFrontOf shard (in_effect c shard) (in_effect new shard)
    effect_goes longer shard low_now =
        let low : IsShard c.core.members.shape shard = subst (λ (s : Shape). IsShard s shard) (shape_at c.core e now) low_now in
        let sane_now : IsSane new = sane_stays c e now sane going in
        let lists : new.lists shard ≡ c.lists shard ++ (longer shard).0 = sym (reach_sane new shard sane_now) ∙ (longer shard).1 ∙ ap (λ l. l ++ (longer shard).0) (reach_sane c shard sane) in
        let behind : in_effect new shard ≡ take (front_of shard new.core) (new.lists shard) = ap (effect_by new shard) (lead_here new.core shard sane_now.alone low_now) in
        let more = front_more shard (front_of shard c.core) (front_of shard new.core) (c.lists shard) (longer shard).0 (rises_at c.core e now shard) (front_within shard low) in
        (more.0, behind ∙ ap (take (front_of shard new.core)) lists ∙ more.1 ∙ ap (λ l. l ++ more.0) (sym (effect_is shard low)))

    sane_cached : ((p : ℕ) → IsFrontOf p (reach c p) (reach new p)) → (cache : Option Cached) → AreCached c cache → AreCached new cache
    sane_cached longer cache has = cached_on c new cache (shape_at c.core e now) (effect_goes longer) has

  -- without a call
  pub quiet_cached : (e : Event) (now : ℕ) → report_in e ≡ None → (step e now c.core).ended ≡ None → (cache : Option Cached) → AreCached c cache → AreCached (step_whole e now c) cache
  quiet_cached e now quiet going cache has =
      sane_cached e now going (λ p. (growing_without_call c e now p sane quiet (ap is_refused going)).front (reach c p) (whole_front p (reach c p))) cache has

  -- by the report of a job
  pub report_cached : (peer : ℕ) (told : Done) (now : ℕ) → is_answer c.core peer told ≡ true → (step (event.Report peer told) now c.core).ended ≡ None → (cache : Option Cached) → AreCached c cache → AreCached (step_whole (event.Report peer told) now c) cache
  report_cached peer told now answer going cache has = sane_cached e now going longer cache has
    where
      e : Event
      e = event.Report peer told

      longer : (p : ℕ) → IsFrontOf p (reach c p) (reach (step_whole e now c) p)
      longer p = elim (cases_eq p peer) [
        | inl same ↦ subst (λ q. IsFrontOf q (reach c q) (reach (step_whole e now c) q)) (sym same) ((after_reports c told now peer sane answer (ap is_refused going)).front (reach c peer) (whole_front peer (reach c peer)))
        | inr differs ↦ (growing_beside c told now peer p sane answer differs (ap is_refused going)).front (reach c p) (whole_front p (reach c p))
      ]
