-- Which entry a copying step adds, of the whole lists.
use Rattle.std.proofs.Common.{◌≡◌, ◌∙◌, ap, sym, refl, inl, inr, arith, ℕ, zero, suc, ◌+◌, ◌-◌, nat_lt, Bool, true, false, List, [], ◌∷◌, ◌++◌, Option, Some, None, length, map}
use Rattle.std.proofs.lemmas.List.{length-map, map-append}
use Rattle.std.proofs.lemmas.List.FromFn.{length-enumerate_from}
use Rattle.std.specs.List.{enumerate_from}
use Rattle.std.specs.Option.{option_map}
use Rattle.std.specs.Prelude.{drop, slice_get, take}
use Rattle.hs_copies.proofs.StandLemmas.{HasLead, stands_lead}
use Rattle.hs_copies.specs.Lists.{Item}
use Rattle.hs_copies.specs.Machine.{Copies}
use Rattle.hs_core_copies.proofs.LeadLemmas.{lead_is}
use Rattle.hs_core_copies.proofs.NextLemmas.{first_is_next}
use Rattle.hs_core_copies.proofs.ReportLemmas.{found, queued_copy}
use Rattle.hs_core_copies.proofs.StepLemmas.{lead_in_step}
use Rattle.hs_core_copies.proofs.UnsealedLemmas.{numbered_append}
use Rattle.hs_core_copies.specs.InStep.{IsOf, copies_in}
use Rattle.hs_core_copies.specs.Lists.{numbered}
use Rattle.hs_core_words.specs.declared.task.Task.{Task}
use Rattle.hs_core_words.specs.Looking.{first_job, first_task, group_of, lead_of, sealed_of}
use Rattle.hs_desk.specs.declared.job.Job.TheVariants as job
use Rattle.hs_entry.specs.declared.entry.Entry.{Entry}
use Rattle.hs_events.specs.Whole.{Whole}
use Rattle.hs_rejoin.specs.Rejoin.{Rejoin, next_job}
use Rattle.hs_replica.specs.Group.{copy_of}
use Rattle.hs_whole_copies.specs.Copying.{IsNextCopied}
use Rattle.hs_whole_copies.specs.Whole.{IsShardInStep, longest}

what : Item Entry → Entry
what x = x.what

-- the peer that a step copies from
steps_from : (lead_sealed from number : ℕ) (r : Rejoin) → next_job lead_sealed r ≡ Some (job.Copy from number) → r.from ≡ from
steps_from lead_sealed from number r e = go r.empty refl (nat_lt r.len lead_sealed) refl
  where
    go : (a : Bool) → r.empty ≡ a → (b : Bool) → nat_lt r.len lead_sealed ≡ b → r.from ≡ from
    go true f b h = let wrong : Some job.Reset ≡ Some (job.Copy from number) = rw f at e in absurd (cc wrong)
    go false f true h = let same : Some (job.Copy r.from (r.len + 1)) ≡ Some (job.Copy from number) = rw (f, h) at e in cc same
    go false f false h = let wrong : None ≡ Some (job.Copy from number) = rw (f, h) at e in absurd (cc wrong)

get_numbered : (k n : ℕ) (xs : List (Item Entry)) (x : Item Entry) → slice_get xs n ≡ Some x → slice_get (enumerate_from k (map (λ y. y.what) xs)) n ≡ Some (k + n, x.what)
get_numbered k n [] x e = let wrong : None ≡ Some x = e in absurd (cc wrong)
get_numbered k zero (y ∷ xs) x e = let same : y ≡ x = cc e in let z : k ≡ k + 0 = omega arith in ap (λ (i : Item Entry). Some (k, i.what)) same ∙ ap (λ i. Some (i, x.what)) z
get_numbered k (suc n) (y ∷ xs) x e = let z : k + 1 + n ≡ k + suc n = omega arith in get_numbered (k + 1) n xs x e ∙ ap (λ i. Some (i, x.what)) z

take_one : {X : Type 0} (n : ℕ) (xs : List X) (x : X) → slice_get xs n ≡ Some x → take 1 (drop n xs) ≡ x ∷ []
take_one n [] x e = let wrong : None ≡ Some x = e in absurd (cc wrong)
take_one zero (y ∷ xs) x e = let same : y ≡ x = cc e in ap (λ z. z ∷ []) same
take_one (suc n) (y ∷ xs) x e = take_one n xs x e

cancel : {X : Type 0} (xs ys zs : List X) → xs ++ ys ≡ xs ++ zs → ys ≡ zs
cancel [] ys zs e = e
cancel (x ∷ xs) ys zs e = cancel xs ys zs (ap (drop 1) e)

module _ (g : ℕ) (c : Whole) (s : Copies Entry) (k : IsShardInStep g c s) (p from number : ℕ) (own : IsOf c.core.members.shape g p) (first : first_job p c.core ≡ Some (job.Copy from number)) where
  leads_from : lead_of g c.core ≡ Some from
  leads_from = go (first_task p c.core) refl
    where
      go : (o : Option Task) → first_task p c.core ≡ o → lead_of g c.core ≡ Some from
      go None e = let wrong : None ≡ Some (job.Copy from number) = sym (ap (λ (o : Option Task). option_map (λ (t : Task). t.job) o) e) ∙ first in absurd (cc wrong)
      go (Some task) e =
          let same : Some task.job ≡ Some (job.Copy from number) = sym (ap (λ (o : Option Task). option_map (λ (t : Task). t.job) o) e) ∙ first in
          let is : task.job ≡ job.Copy from number = cc same in
          elim (found g p c.core s k.in_step own task e) [
            | inl q ↦ absurd (queued_copy g p c.core s k.in_step own task e from number q is)
            | inr t ↦ k.follows p t.rejoin own t.joins t.came ∙ ap Some (steps_from (sealed_of t.lead_now c.core) from number t.rejoin (t.next ∙ ap Some is))
          ]

  pub next_copied : IsNextCopied c p from number
  next_copied =
      let n = first_is_next g p c.core s (job.Copy from number) k.in_step own first in
      let same : Some from ≡ Some n.lead = sym leads_from ∙ n.leads in
      let is : from ≡ n.lead = cc same in
      let own_from : IsOf c.core.members.shape g from = (lead_is g c.core from (k.in_step.seated.placed g).few leads_from).own in
      let d : HasLead (copies_in g k.in_step.sent c.core) s = stands_lead (copies_in g k.in_step.sent c.core) s k.in_step.stands in
      let both : Some from ≡ Some d.peer = sym leads_from ∙ lead_in_step g c.core s k.in_step ∙ d.is in
      let led : from ≡ d.peer = cc both in
      let list : (s.peers from).list ≡ s.log = ap (λ i. (s.peers i).list) led ∙ d.whole in
      let long : length (c.lists p) ≡ length (s.peers p).list =
      ap (λ (xs : List (ℕ × Entry)). length xs) (k.lists p own) ∙ length-enumerate_from 1 (map (λ x. x.what) (s.peers p).list) ∙ length-map (s.peers p).list (λ (x : Item Entry). x.what) in
      let there : slice_get (s.peers from).list (length (s.peers p).list) ≡ Some n.item = ap (λ i. slice_get (s.peers i).list (length (s.peers p).list)) is ∙ n.there in
      let logged : take 1 (drop (length (s.peers p).list) s.log) ≡ n.item ∷ [] = take_one (length (s.peers p).list) s.log n.item (ap (λ xs. slice_get xs (length (s.peers p).list)) (sym list) ∙ there) in
      let added : longest p c.core s ≡ (s.peers p).list ++ n.item ∷ [] = rw first (ap (λ xs. (s.peers p).list ++ xs) logged) in
      let place : 1 + length (s.peers p).list ≡ number = omega (arith, n.next) in
      let all : c.lists p ++ c.adds p ≡ c.lists p ++ (number, n.item.what) ∷ [] =
      k.reaches p own ∙ ap numbered added
      ∙ ap (enumerate_from 1) (map-append (λ (x : Item Entry). x.what) (s.peers p).list (n.item ∷ []))
      ∙ numbered_append 1 (map (λ (x : Item Entry). x.what) (s.peers p).list) (n.item.what ∷ [])
      ∙ ap (λ i. numbered (s.peers p).list ++ enumerate_from (1 + i) (n.item.what ∷ [])) (length-map (s.peers p).list (λ (x : Item Entry). x.what))
      ∙ ap (λ i. numbered (s.peers p).list ++ (i, n.item.what) ∷ []) place
      ∙ ap (λ xs. xs ++ (number, n.item.what) ∷ []) (sym (k.lists p own)) in
      record {
        leads = ap (λ x. lead_of x c.core) own ∙ leads_from;
        next = omega (arith, n.next, long);
        sealed = (let e : sealed_of from c.core ≡ (copy_of (group_of g c.core) n.lead).sealed = ap (λ x. (copy_of (group_of x c.core) from).sealed) own_from ∙ ap (λ i. (copy_of (group_of g c.core) i).sealed) is in omega (arith, n.sealed, e));
        entry = n.item.what;
        there = ap (λ xs. slice_get xs (number - 1)) (k.lists from own_from)
            ∙ ap (slice_get (numbered (s.peers from).list)) (let z : number - 1 ≡ length (s.peers p).list = omega (arith, n.next) in z)
            ∙ get_numbered 1 (length (s.peers p).list) (s.peers from).list n.item there ∙ ap (λ i. Some (i, n.item.what)) place;
        adds = cancel (c.lists p) (c.adds p) ((number, n.item.what) ∷ []) all;
      }
