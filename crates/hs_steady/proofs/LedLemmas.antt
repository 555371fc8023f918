-- A good peer's list is a front of its lead's, and so is what a stop leaves of its disk at a moment of a run.
use Rattle.std.proofs.Common.{◌≡◌, ◌∙◌, ap, sym, subst, refl, inl, inr, ℕ, zero, suc, not, Bool, true, false, List, [], ◌∷◌, ◌++◌, Some, None}
use Rattle.std.proofs.lemmas.Bool.{cases_lt}
use Rattle.std.proofs.lemmas.List.{append_assoc}
use Rattle.std.specs.Prelude.{drop, take}
use Rattle.hs_cluster.proofs.GoingOnLemmas.{going_before}
use Rattle.hs_cluster.proofs.StretchLemmas.{runs_core}
use Rattle.hs_cluster.specs.Disks.{stands_of}
use Rattle.hs_cluster.specs.Kept.{LeavesLists, Span}
use Rattle.hs_copies.proofs.StandLemmas.{HasLead, stands_lead}
use Rattle.hs_copies.specs.Machine.{Copies}
use Rattle.hs_core_copies.proofs.LeadLemmas.{lead_is}
use Rattle.hs_core_copies.proofs.StepLemmas.{lead_in_step}
use Rattle.hs_core_copies.specs.InStep.{IsOf, copies_in}
use Rattle.hs_core_copies.specs.Lists.{numbered}
use Rattle.hs_core_words.specs.Looking.{home, lead_of, shape_of, status_of}
use Rattle.hs_core_words.specs.State.{Core}
use Rattle.hs_entry.specs.declared.entry.Entry.{Entry}
use Rattle.hs_entry.specs.Entries.{rank_of}
use Rattle.hs_events.specs.Course.{happened, steps}
use Rattle.hs_events.specs.Due.{Events}
use Rattle.hs_events.specs.Found.{Found, first_core}
use Rattle.hs_events.specs.Taken.{peer_count}
use Rattle.hs_events.specs.Whole.{Whole, counts, open_whole, reach}
use Rattle.hs_fold.specs.Images.{IsLeft}
use Rattle.hs_fold.specs.Shards.Setting.{Numbered, Setting}
use Rattle.hs_limits.specs.declared.limits.PeerStatus.TheVariants.{Down, Good}
use Rattle.hs_members.specs.Members.{IsPeer, is_good_status}
use Rattle.hs_moments.specs.Machine.{until}
use Rattle.hs_moments.specs.Moments.{GivesFine}
use Rattle.hs_moments.specs.WholeMachine.{IsFrontOf, whole_machine}
use Rattle.hs_ports.specs.declared.disk.Side.{Side}
use Rattle.hs_ports.specs.Moments.{disk_at}
use Rattle.hs_side.specs.Current.{list_in}
use Rattle.hs_whole_copies.proofs.OpenLemmas.{opens_whole}
use Rattle.hs_whole_copies.specs.Opening.{MayOpenWhole}
use Rattle.hs_whole_copies.specs.Whole.{IsShardInStep, IsWholeInStep}
use Rattle.hs_steady.proofs.EffectLemmas.{numbered_front}
use Rattle.hs_steady.proofs.PeerLemmas.{good_stage, reach_good}
use Rattle.hs_steady.proofs.ShowLemmas.{opened_shows, stays_along}
use Rattle.hs_steady.proofs.StampLemmas.{one_stamp}
use Rattle.hs_steady.proofs.SteadyLemmas.{its_shard, past_down}
use Rattle.hs_steady.specs.Moments.{IsMomentOf, ShowsOpened}

-- ---- a peer of a shard, and its lead

begins_leads : (g q lead : ℕ) (c : Whole) (s : Copies Entry) (k : IsShardInStep g c s) → IsOf c.core.members.shape g q → status_of q c.core ≡ Good → lead_of g c.core ≡ Some lead → (more : Numbered) × (c.lists lead ≡ c.lists q ++ more)
begins_leads g q lead c s k own good leads =
    let d : HasLead (copies_in g k.in_step.sent c.core) s = stands_lead (copies_in g k.in_step.sent c.core) s k.in_step.stands in
    let both : Some lead ≡ Some d.peer = sym leads ∙ lead_in_step g c.core s k.in_step ∙ d.is in
    let led : lead ≡ d.peer = cc both in
    let list : (s.peers lead).list ≡ s.log = ap (λ i. (s.peers i).list) led ∙ d.whole in
    let own_lead : IsOf c.core.members.shape g lead = (lead_is g c.core lead (k.in_step.seated.placed g).few leads).own in
    let r = numbered_front (s.peers q).list s.log (k.in_step.stands.faithful.good q (good_stage g q c s k own good)).prefix in
    (r.0, k.lists lead own_lead ∙ ap numbered list ∙ r.1 ∙ ap (λ xs. xs ++ r.0) (sym (k.lists q own)))

-- ---- at a moment of a run

module _ (set : Setting) (found : Found) (events : Events) (span : Span) (shows : ShowsOpened set found events span) (may : MayOpenWhole set found) (c : Whole) (moment : ℕ) (at : IsMomentOf set found events span c moment) where
  abbrev es : Events
  es = until moment (happened (first_core set found) events)

  goes : (steps (first_core set found) es).ended ≡ None
  goes = ap (λ (x : Core). x.ended) (sym (runs_core (open_whole set found) es)) ∙ ap (λ (x : Whole). x.core.ended) at.state ∙ at.going

  opens : (first_core set found).ended ≡ None
  opens = going_before (first_core set found) es goes

  shown : LeavesLists (open_whole set found) events span
  shown = opened_shows set found events span shows may opens

  in_step : (machines : ℕ → Copies Entry) × IsWholeInStep c machines
  in_step =
      let first = opens_whole set found may opens in
      subst (λ x. (machines : ℕ → Copies Entry) × IsWholeInStep x machines) at.state (stays_along (open_whole set found) es first.0 first.1 goes)

  pub fine_at : (peer : ℕ) → counts c peer ≡ true → (image : Side → List ℕ) → IsLeft (disk_at (stands_of span.left) peer) moment image → GivesFine whole_machine c peer image
  fine_at peer counted image left =
      subst (λ x. GivesFine whole_machine x peer image) at.state
      (shown.moments.fine moment peer at.above at.up_to at.early (subst (λ x. counts x peer ≡ true) (sym at.state) counted) image left)

  -- fronts of what two disks of a shard have
  pub stamps_one : (peer other : ℕ) → IsPeer c.core.members.shape peer → home peer c.core ≡ home other c.core → counts c peer ≡ true → counts c other ≡ true
      → (image its_image : Side → List ℕ) → IsLeft (disk_at (stands_of span.left) peer) moment image → IsLeft (disk_at (stands_of span.left) other) moment its_image
      → (list more : Numbered) → list_in image ≡ Some list → list_in its_image ≡ Some more → (n m : ℕ) → rank_of (take n list) ≡ rank_of (take m more) → take n list ≡ take m more
  stamps_one peer other low same one two image its_image left its_left list more read its_read n m rank =
      one_stamp c in_step.0 in_step.1 peer other low same (take n list) (take m more) (front_of peer list image (fine_at peer one image left) read n) (front_of other more its_image (fine_at other two its_image its_left) its_read m) rank
    where
      parted : (n : ℕ) (xs : Numbered) → xs ≡ take n xs ++ drop n xs
      parted zero xs = refl
      parted (suc n) [] = refl
      parted (suc n) (x ∷ xs) = ap (λ ys. x ∷ ys) (parted n xs)

      front_of : (p : ℕ) (list : Numbered) (image : Side → List ℕ) → GivesFine whole_machine c p image → list_in image ≡ Some list → (n : ℕ) → IsFrontOf p (take n list) (reach c p)
      front_of p list image fine read n =
          let both : Some fine.list ≡ Some list = sym fine.read ∙ read in
          let same : fine.list ≡ list = cc both in (
            drop n list ++ fine.front.0,
            fine.front.1 ∙ ap (λ xs. xs ++ fine.front.0) (same ∙ parted n list) ∙ append_assoc (take n list) (drop n list) fine.front.0,
          )

  module _ (peer lead : ℕ) (good : status_of peer c.core ≡ Good) (leads : lead_of (home peer c.core) c.core ≡ Some lead) where
    within : IsPeer c.core.members.shape peer
    within = elim (cases_lt peer (peer_count (shape_of c.core))) [
      | inl low ↦ low
      | inr high ↦ (let wrong : Good ≡ Down = sym good ∙ past_down c in_step.0 in_step.1 peer high in absurd (cc wrong))
    ]

    counted : counts c peer ≡ true
    counted = go (c.aside peer) refl
      where
        go : (b : Bool) → c.aside peer ≡ b → not b ≡ true
        go false e = refl
        go true e = let wrong : true ≡ false = sym (ap is_good_status good) ∙ in_step.1.aside peer e in absurd (cc wrong)

    shard : IsShardInStep (home peer c.core) c (in_step.0 (home peer c.core))
    shard = its_shard c in_step.0 in_step.1 peer within

    pub begins_lead : (image : Side → List ℕ) → IsLeft (disk_at (stands_of span.left) peer) moment image → (list : Numbered) → list_in image ≡ Some list
        → IsFrontOf peer list (c.lists lead)
    begins_lead image left list read =
        let fine : GivesFine whole_machine c peer image = fine_at peer counted image left in
        let both : Some list ≡ Some fine.list = sym read ∙ fine.read in
        let same : list ≡ fine.list = cc both in
        let more = begins_leads (home peer c.core) peer lead c (in_step.0 (home peer c.core)) shard refl good leads in
        let own : c.lists peer ≡ list ++ fine.front.0 = sym (reach_good (home peer c.core) peer c (in_step.0 (home peer c.core)) shard refl good) ∙ fine.front.1 ∙ ap (λ xs. xs ++ fine.front.0) (sym same) in
        (fine.front.0 ++ more.0, more.1 ∙ ap (λ xs. xs ++ more.0) own ∙ append_assoc list fine.front.0 more.0)
