-- A peer of a shard that is in step: what its log has, its list, and what its first job asks for.
use Rattle.std.proofs.Common.{◌≡◌, ◌≢◌, ◌∙◌, ap, sym, refl, inl, inr, ℕ, zero, suc, ◌+◌, ◌-◌, ◌≤◌, Bool, true, false, if◌then◌else◌, List, [], ◌∷◌, ◌++◌, Option, Some, None, length, map, arith}
use Rattle.std.proofs.lemmas.List.{append-nil, append_cancel_left, length-map}
use Rattle.std.proofs.lemmas.List.FromFn.{length-enumerate_from}
use Rattle.std.specs.Option.{option_map}
use Rattle.std.specs.Prelude.{drop, slice_get, take, unwrap_or}
use Rattle.hs_cluster.specs.PeerLogs.{log_by, log_of_peer}
use Rattle.hs_cluster.specs.Sealed.{sealed_front}
use Rattle.hs_copies.proofs.StandLemmas.{length_is}
use Rattle.hs_copies.specs.Lists.{Item}
use Rattle.hs_copies.specs.Machine.{Copies, Good as GoodStage}
use Rattle.hs_copies.specs.Standing.{stage_of}
use Rattle.hs_core_copies.proofs.BesideLemmas.{home_of_peer}
use Rattle.hs_core_copies.proofs.NextLemmas.{first_is_next, unsealed_is}
use Rattle.hs_core_copies.proofs.StepLemmas.{held_in_step}
use Rattle.hs_core_copies.proofs.UnsealedLemmas.{IsFirst, IsHeld, between_first}
use Rattle.hs_core_copies.specs.InStep.{IsOf, copies_in, rejoin_at}
use Rattle.hs_core_copies.specs.Jobs.{unsealed}
use Rattle.hs_core_copies.specs.Lists.{numbered}
use Rattle.hs_core_words.specs.Looking.{first_job, group_of, rejoin_of, sealed_of, status_of}
use Rattle.hs_desk.specs.declared.job.Job.{Job}
use Rattle.hs_desk.specs.declared.job.Job.TheVariants as job
use Rattle.hs_entry.specs.declared.entry.Entry.{Entry}
use Rattle.hs_events.specs.Sane.{appended_of, next_entry}
use Rattle.hs_events.specs.Whole.{Whole, floor, reach}
use Rattle.hs_fold.specs.Shards.Setting.{Numbered}
use Rattle.hs_limits.specs.declared.limits.PeerStatus.{PeerStatus}
use Rattle.hs_limits.specs.declared.limits.PeerStatus.TheVariants.{Down, Good, Joining}
use Rattle.hs_members.specs.Members.{is_good_status}
use Rattle.hs_moments.specs.Working.{IsNextEntry}
use Rattle.hs_rejoin.specs.Rejoin.{Rejoin, new_rejoin}
use Rattle.hs_replica.specs.Group.{IsHome, copy_of, entries_above, length_of}
use Rattle.hs_whole_copies.proofs.ReachLemmas.{copies_not}
use Rattle.hs_whole_copies.proofs.ReportedLemmas.{IsOn}
use Rattle.hs_whole_copies.specs.Whole.{IsShardInStep, added_to, is_copying, longest}

-- ---- what is told of a log

-- that of a good peer, that of one that follows, or none
pub data LogSeen (c : Whole) (q : ℕ) : Type 0 where
  IsGood : status_of q c.core ≡ Good → log_of_peer c q ≡ Some (sealed_front c q) → LogSeen c q
  FollowsOn : status_of q c.core ≡ Joining → (rejoin_at c.core q).empty ≡ false → log_of_peer c q ≡ Some (c.lists q) → LogSeen c q
  IsOff : (IsOn q c.core → ⊥) → log_of_peer c q ≡ None → LogSeen c q

pub log_seen : (c : Whole) (q : ℕ) → LogSeen c q
log_seen c q = by_status (status_of q c.core) refl
  where
    by_empty : status_of q c.core ≡ Joining → (r : Rejoin) → rejoin_of q c.core ≡ Some r → (b : Bool) → r.empty ≡ b → LogSeen c q
    by_empty joins r came false e = FollowsOn joins (ap (λ (o : Option Rejoin). (unwrap_or o (new_rejoin 0)).empty) came ∙ e) (rw (joins, came, e) refl)
    by_empty joins r came true e = IsOff off (rw (joins, came, e) refl)
      where
        off : IsOn q c.core → ⊥
        off (inl good) = let wrong : Joining ≡ Good = sym joins ∙ good in cc wrong
        off (inr f) = let wrong : true ≡ false = sym (ap (λ (o : Option Rejoin). (unwrap_or o (new_rejoin 0)).empty) came ∙ e) ∙ f.1 in cc wrong

    by_rejoin : status_of q c.core ≡ Joining → (o : Option Rejoin) → rejoin_of q c.core ≡ o → LogSeen c q
    by_rejoin joins (Some r) came = by_empty joins r came r.empty refl
    by_rejoin joins None came = IsOff off (rw (joins, came) refl)
      where
        off : IsOn q c.core → ⊥
        off (inl good) = let wrong : Joining ≡ Good = sym joins ∙ good in cc wrong
        off (inr f) = let wrong : true ≡ false = sym (ap (λ (o : Option Rejoin). (unwrap_or o (new_rejoin 0)).empty) came) ∙ f.1 in cc wrong

    by_status : (x : PeerStatus) → status_of q c.core ≡ x → LogSeen c q
    by_status Good e = IsGood e (ap (λ x. log_by c q x (rejoin_of q c.core)) e)
    by_status Joining e = by_rejoin e (rejoin_of q c.core) refl
    by_status Down e = IsOff off (ap (λ x. log_by c q x (rejoin_of q c.core)) e)
      where
        off : IsOn q c.core → ⊥
        off (inl good) = let wrong : Down ≡ Good = sym e ∙ good in cc wrong
        off (inr f) = let wrong : Down ≡ Joining = sym e ∙ f.0 in cc wrong

pub log_good : (c : Whole) (q : ℕ) → status_of q c.core ≡ Good → log_of_peer c q ≡ Some (sealed_front c q)
log_good c q e = ap (λ x. log_by c q x (rejoin_of q c.core)) e

pub floor_good : (c : Whole) (q : ℕ) → status_of q c.core ≡ Good → floor c q ≡ sealed_of q c.core
floor_good c q e = ap (λ x. if is_good_status x then sealed_of q c.core else 0) e

pub floor_bad : (c : Whole) (q : ℕ) → is_good_status (status_of q c.core) ≡ false → floor c q ≡ 0
floor_bad c q e = ap (λ b. if b then sealed_of q c.core else 0) e

-- ---- lists

pub take_next : {X : Type 0} (n : ℕ) (xs : List X) (x : X) (rest : List X) → drop n xs ≡ x ∷ rest → take (suc n) xs ≡ take n xs ++ x ∷ []
take_next zero [] x rest e = let wrong : [] ≡ x ∷ rest = e in absurd (cc wrong)
take_next zero (y ∷ ys) x rest e = let same : y ≡ x = cc e in ap (λ z. z ∷ []) same
take_next (suc n) [] x rest e = let wrong : [] ≡ x ∷ rest = e in absurd (cc wrong)
take_next (suc n) (y ∷ ys) x rest e = ap (λ zs. y ∷ zs) (take_next n ys x rest e)

first_taken : {X : Type 0} (n : ℕ) (xs : List X) (x : X) (rest : List X) → take n xs ≡ x ∷ rest → slice_get xs 0 ≡ Some x
first_taken zero xs x rest e = let wrong : [] ≡ x ∷ rest = e in absurd (cc wrong)
first_taken (suc n) [] x rest e = let wrong : [] ≡ x ∷ rest = e in absurd (cc wrong)
first_taken (suc n) (y ∷ ys) x rest e = let same : y ≡ x = cc e in ap Some same

module _ (g q : ℕ) (c : Whole) (s : Copies Entry) (k : IsShardInStep g c s) (own : IsOf c.core.members.shape g q) where
  pub home_q : IsHome (group_of g c.core) q
  home_q = home_of_peer g c.core s k.in_step q own

  -- as long as its copy is
  pub long_q : length (c.lists q) ≡ length_of (group_of g c.core) q
  long_q =
      ap (λ (xs : Numbered). length xs) (k.lists q own) ∙ length-enumerate_from 1 (map (λ (x : Item Entry). x.what) (s.peers q).list) ∙ length-map (s.peers q).list (λ (x : Item Entry). x.what)
      ∙ sym (length_is (copies_in g k.in_step.sent c.core) s k.in_step.stands q home_q)

  pub sealed_is : sealed_of q c.core ≡ (copy_of (group_of g c.core) q).sealed
  sealed_is = ap (λ x. (copy_of (group_of x c.core) q).sealed) own

  pub sealed_held : sealed_of q c.core ≤ length (c.lists q)
  sealed_held =
      let e = (k.in_step.stands.peers.each q home_q).sealed in
      let l = length_is (copies_in g k.in_step.sent c.core) s k.in_step.stands q home_q in
      omega (arith, k.held q, e, l, long_q, sealed_is)

  -- what a disk has more, where nothing is copied to it
  pub adds_none : is_copying (first_job q c.core) ≡ false → (s.peers q).adding ≡ [] → c.adds q ≡ []
  adds_none idle nothing =
      let added : added_to q c.core s ≡ [] = rw idle nothing in
      let whole : longest q c.core s ≡ (s.peers q).list = ap (λ xs. (s.peers q).list ++ xs) added ∙ append-nil (s.peers q).list in
      append_cancel_left (c.lists q) (c.adds q) [] (k.reaches q own ∙ ap numbered whole ∙ sym (k.lists q own) ∙ sym (append-nil (c.lists q)))

  pub good_stage : status_of q c.core ≡ Good → (s.peers q).stage ≡ GoodStage
  good_stage good = k.in_step.stands.peers.stage q home_q ∙ ap (λ x. stage_of x (rejoin_at c.core q).empty) good

  pub adds_good : status_of q c.core ≡ Good → c.adds q ≡ []
  adds_good good = adds_none (copies_not g q c.core s k.in_step own (λ j. let wrong : Good ≡ Joining = sym good ∙ j in cc wrong)) (k.in_step.stands.faithful.good q (good_stage good)).nothing

  pub reach_good : status_of q c.core ≡ Good → reach c q ≡ c.lists q
  reach_good good = ap (λ xs. c.lists q ++ xs) (adds_good good) ∙ append-nil (c.lists q)

  pub floor_held : floor c q ≤ length (c.lists q)
  floor_held = by (is_good_status (status_of q c.core)) refl
    where
      by : (b : Bool) → is_good_status (status_of q c.core) ≡ b → floor c q ≤ length (c.lists q)
      by true e = let f : floor c q ≡ sealed_of q c.core = ap (λ b. if b then sealed_of q c.core else 0) e in omega (arith, f, sealed_held)
      by false e = let f = floor_bad c q e in omega (arith, f)

  -- ---- a good peer's next entry

  module _ (good : status_of q c.core ≡ Good) (first : ℕ × Entry) (others : Numbered) (all : unsealed q (group_of g c.core) ≡ first ∷ others) where
    -- what it has not sealed is the rest of its list
    pub rest_is : drop (sealed_of q c.core) (c.lists q) ≡ first ∷ others
    rest_is = ap (λ n. drop n (c.lists q)) sealed_is ∙ ap (drop (copy_of (group_of g c.core) q).sealed) (k.lists q own) ∙ sym (unsealed_is g c.core s k.in_step q own good) ∙ all

    pub number_is : first.0 ≡ sealed_of q c.core + 1
    number_is =
        let held : IsHeld (group_of g c.core) q = held_in_step g c.core s k.in_step q home_q good in
        let f : IsFirst (copy_of (group_of g c.core) q).sealed (length_of (group_of g c.core) q) (group_of g c.core) first others =
        between_first (copy_of (group_of g c.core) q).sealed (length_of (group_of g c.core) q) (group_of g c.core) first others held.front all in
        omega (arith, f.number, sealed_is)

    pub next_is : IsNextEntry c q first.0 first.1
    next_is =
        let n : ℕ = sealed_of q c.core in
        let one : first.0 ≡ suc n = omega (arith, number_is) in
        let f : floor c q ≡ n = floor_good c q good in
        record {
          next = omega (arith, number_is, f);
          list = ap (λ i. take i (reach c q)) one ∙ ap (take (suc n)) (reach_good good) ∙ take_next n (c.lists q) first others rest_is
              ∙ ap (λ xs. take n xs ++ first ∷ []) (sym (reach_good good)) ∙ ap (λ i. take i (reach c q) ++ first ∷ []) (sym f);
        }

    pub appended_is : (number : ℕ) → first_job q c.core ≡ Some (job.Seal number) → appended_of q c.core ≡ Some first.1
    appended_is number e =
        let at : slice_get (entries_above (copy_of (group_of g c.core) q).sealed (group_of g c.core)) 0 ≡ Some first =
        first_taken (length_of (group_of g c.core) q - (copy_of (group_of g c.core) q).sealed) (entries_above (copy_of (group_of g c.core) q).sealed (group_of g c.core)) first others all in
        let n : next_entry q c.core ≡ Some first.1 =
        ap (λ x. option_map (λ (y : ℕ × Entry). y.1) (slice_get (entries_above (copy_of (group_of x c.core) q).sealed (group_of x c.core)) 0)) own ∙ ap (option_map (λ (y : ℕ × Entry). y.1)) at in
        rw e n

  -- nothing waits at a peer that joins
  pub none_appended : status_of q c.core ≢ Good → appended_of q c.core ≡ None
  none_appended n = go (first_job q c.core) refl
    where
      go : (o : Option Job) → first_job q c.core ≡ o → appended_of q c.core ≡ None
      go None e = rw e refl
      go (Some (job.Append number entry)) e = rw e refl
      go (Some (job.Seal number)) e = absurd (n (first_is_next g q c.core s (job.Seal number) k.in_step own e).1.good)
      go (Some (job.Read number)) e = rw e refl
      go (Some job.Reset) e = rw e refl
      go (Some (job.Copy from number)) e = rw e refl
      go (Some job.Reclaim) e = rw e refl
