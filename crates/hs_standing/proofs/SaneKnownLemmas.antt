-- A sane store of one copy a shard knows of its copies what is asked of any number.
use Rattle.std.proofs.Common.{◌≡◌, ◌∙◌, sym, ap, subst, ℕ, ◌+◌, ◌-◌, ◌*◌, ◌<◌, ◌≤◌, ◌==◌, true, false, arith, [], ◌∷◌, length, Option, Some, refl, slice_index_or}
use Rattle.std.specs.Option.{option_map, option_map_or}
use Rattle.hs_core_words.specs.declared.task.Task.{Task}
use Rattle.hs_core_words.specs.Looking.{first_task, group_of, home, shape_of, status_of}
use Rattle.hs_core_words.specs.Reporting.{on_report}
use Rattle.hs_core_words.specs.State.{Core}
use Rattle.hs_desk.specs.Answers.{answers}
use Rattle.hs_desk.specs.declared.done.Done.{Done}
use Rattle.hs_desk.specs.declared.done.Done.TheVariants as done
use Rattle.hs_desk.specs.declared.job.Job.{Job}
use Rattle.hs_desk.specs.declared.job.Job.TheVariants as job
use Rattle.hs_events.specs.Alone.{AreAlone, IsAlone, face, group_in, own}
use Rattle.hs_events.specs.Sane.{IsSane}
use Rattle.hs_events.specs.Whole.{Whole}
use Rattle.hs_limits.specs.declared.limits.PeerStatus.TheVariants.{Good}
use Rattle.hs_limits.specs.declared.shape.Shape.{Shape}
use Rattle.hs_members.specs.Members.{Members, is_good_status}
use Rattle.hs_moments.proofs.AloneEventLemmas.{has_good_is, home_here}
use Rattle.hs_moments.proofs.AloneReportLemmas.{Answered, AreSettled, answered_within, is_answered, reports}
use Rattle.hs_post.specs.declared.message.Message.TheVariants as message
use Rattle.hs_replica.specs.declared.replica.Replica.{Replica}
use Rattle.hs_replica.specs.Group.{IsHome, commit_front, first_peer, last_number, least_known, no_copy}
use Rattle.hs_standing.proofs.AloneLemmas.{is_a_round}
use Rattle.hs_standing.specs.Copies.{IsSeated, IsWithinLists, KnowsCopies, KnowsItsCopies, is_of_joining}

-- ---- numbers

same_number : (n : ℕ) → (n == n) ≡ true
same_number n = grind arith

at_most : (n front front' long long' sealed : ℕ) → sealed ≡ n → sealed ≤ front' + long' → front' ≡ front → long' ≡ long → n ≤ front + long
at_most n front front' long long' sealed e h f l = omega (arith, e, h, f, l)

known_least : (front known sealed last : ℕ) → front ≡ known → known ≡ sealed → sealed ≤ last → front ≤ last
known_least front known sealed last e f h = omega (arith, e, f, h)

own_least : (sealed last long : ℕ) → sealed ≤ last → long ≡ last → sealed ≤ long
own_least sealed last long h e = omega (arith, h, e)

only_place : (first peer n : ℕ) → first ≤ peer → peer < first + n → n ≡ 1 → peer - first ≡ 0
only_place first peer n a b e = omega (arith, a, b, e)

-- what the lead knows of a copy that is the only one
own_front : (c : Replica) → c.good ≡ true → option_map_or (λ n. n) (least_known (c ∷ [])) 0 ≡ c.known
own_front c good = rw good refl

-- ---- a report

answered_is : (p : ℕ) (d : Done) (c : Core) (task : Task) → first_task p c ≡ Some task → answers p task.job d ≡ true → is_answered p d c ≡ true
answered_is p d c task first fits = ap (λ (o : Option Task). option_map_or (λ j. answers p j d) (option_map (λ (t : Task). t.job) o) false) first ∙ fits

module _ (c : Core) (h : AreAlone (face c)) (settled : AreSettled c) where
  -- an entry that is to be sealed waits
  seals_waiting : (p number : ℕ) → is_answered p (done.Sealed number) c ≡ true → number ≤ last_number (group_of p c)
  seals_waiting p number fits =
      let low : p < c.members.shape.shards = answered_within p (done.Sealed number) c h fits in
      let told : Answered c p (done.Sealed number) (on_report p (done.Sealed number) c) = reports p (done.Sealed number) c h settled fits in
      let from_low : p < told.from.members.shape.shards = subst (λ (m : Members). p < m.shape.shards) (sym told.start.members) low in
      let stands : IsAlone told.from.members.shape p (group_in p told.from) = told.start.alone.each p from_low in
      let same = told.start.lists p low in
      at_most number (group_of p c).front (group_in p told.from).front (length (group_of p c).waiting) (length (group_in p told.from).waiting) (own (group_in p told.from)).sealed
      told.left.0 stands.within same.0 (ap length same.1)

  seals_known : (p number : ℕ) (task : Task) → first_task p c ≡ Some task → task.job ≡ job.Seal number → number ≤ last_number (group_of (home p c) c)
  seals_known p number task first is =
      let fits : answers p task.job (done.Sealed number) ≡ true = ap (λ j. answers p j (done.Sealed number)) is ∙ same_number number in
      subst (λ g. number ≤ last_number (group_of g c)) (sym (home_here c p h.copies)) (seals_waiting p number (answered_is p (done.Sealed number) c task first fits))

  none_joins : (p : ℕ) (task : Task) → first_task p c ≡ Some task → is_of_joining task.job ≡ true → is_good_status (status_of p c) ≡ false
  none_joins p task first is = go task.job refl is
    where
      go : (j : Job) → task.job ≡ j → is_of_joining j ≡ true → is_good_status (status_of p c) ≡ false
      go job.Reset at is = absurd (reports p done.Emptied c h settled (answered_is p done.Emptied c task first (ap (λ j. answers p j done.Emptied) at)))
      go (job.Copy from n) at is = absurd (reports p (done.Copied n) c h settled (answered_is p (done.Copied n) c task first (ap (λ j. answers p j (done.Copied n)) at ∙ same_number n)))
      go other at is = absurd (cc is)

  -- ---- one shard

  alone_knows : (shard : ℕ) → shard < c.members.shape.shards → KnowsCopies shard c
  alone_knows shard low = record {
    same_shape = a.same_shape;
    same_shard = a.same_shard;
    copies = ap length a.copies ∙ sym h.copies;
    led = has_good_is c.members shard Good h.copies (h.good shard low);
    known =
        let front : commit_front (group_of shard c) ≡ (own (group_of shard c)).known = ap (λ cs. option_map_or (λ n. n) (least_known cs) 0) a.copies ∙ own_front (own (group_of shard c)) a.good in
        known_least (commit_front (group_of shard c)) (own (group_of shard c)).known (own (group_of shard c)).sealed (last_number (group_of shard c)) front a.known a.within;
    sealed = sealed;
  }
    where
      a : IsAlone c.members.shape shard (group_of shard c)
      a = h.each shard low

      sealed : (peer : ℕ) → IsHome (group_of shard c) peer → is_good_status (status_of peer c) ≡ true → IsWithinLists (group_of shard c) peer
      sealed peer own_home good = record {
        own = subst (λ k. (slice_index_or (group_of shard c).copies k no_copy).sealed ≤ length (slice_index_or (group_of shard c).copies k no_copy).stamps) (sym first) (own_least (own (group_of shard c)).sealed (last_number (group_of shard c)) (length (own (group_of shard c)).stamps) a.within a.long);
        all = subst (λ k. (slice_index_or (group_of shard c).copies k no_copy).sealed ≤ last_number (group_of shard c)) (sym first) a.within;
      }
        where
          first : peer - first_peer (group_of shard c) ≡ 0
          first =
              only_place (first_peer (group_of shard c)) peer (group_of shard c).shape.copies own_home.0 own_home.1 (ap (λ (s : Shape). s.copies) a.same_shape ∙ h.copies)

-- ---- all of it

pub sane_seated : (c : Whole) → IsSane c → IsSeated c.core
sane_seated c h = record {
  lists = h.alone.groups;
  peers = h.alone.statuses ∙ one ∙ ap (λ n. (shape_of c.core).shards * n) (sym h.alone.copies);
  copies = let copies = h.alone.copies in omega (arith, copies);
}
  where
    one : (shape_of c.core).shards ≡ (shape_of c.core).shards * 1
    one = omega arith

pub sane_knows : (c : Whole) → IsSane c → KnowsItsCopies c.core
sane_knows c h = record {
  each = alone_knows c.core h.alone h.settled;
  seals = seals_known c.core h.alone h.settled;
  haves = λ number shard from to view sealed there hears. absurd (cc (is_a_round c.core number (message.Have shard from to view sealed) h.alone there));
  joining = none_joins c.core h.alone h.settled;
}
