-- What is handed back one after another.
use Rattle.std.proofs.Common.{◌≡◌, ◌∙◌, ◌⊎◌, inl, inr, ap, sym, subst, ℕ, ◌+◌, ◌<◌, List, [], ◌∷◌, ◌++◌, Option, Some, None, Result, length, get_or, map, arith}
use Rattle.std.proofs.lemmas.Bool.{cases_eq}
use Rattle.std.specs.Prelude.{slice_get}
use Rattle.hs_peerlog.specs.Lists.{Keeping}
use Rattle.hs_ports.specs.declared.disk.Side.{Side}
use Rattle.hs_ports.specs.Disk.{Standing}
use Rattle.hs_ports.specs.MemoryDisk.{untold}
use Rattle.hs_promise.specs.declared.load.Kept.{Kept}
use Rattle.hs_promise.specs.declared.load.Stored.{Stored}
use Rattle.hs_script.specs.declared.sums.WriterSum.{WriterSum}
use Rattle.hs_taking.specs.Disks.{DiskSeen, log_at, seen_as, seen_at}
use Rattle.hs_workers.specs.declared.fault.WorkFault.{WorkFault}
use Rattle.hs_load.specs.declared.gathering.Answered.{Answered}
use Rattle.hs_load.specs.declared.gathering.Returned.{Returned}
use Rattle.hs_load.specs.Seating.{AreAskers, AreBack}
use Rattle.hs_load.specs.Team.{AskerEnds, PeerEnds, Task}
use Rattle.hs_load.proofs.ListLemmas.{at_before, at_last, item_at, map_length, map_snoc}

-- one who asked more
pub one_asker_more : (task : Task) (told : List (Option Answered)) (kept kept' : List Kept) (ends ends' : List (Result WriterSum WorkFault)) (n : ℕ) (a : Answered)
    → AreAskers task told → Some a ≡ get_or told n None → kept' ≡ kept ++ a.kept ∷ [] → ends' ≡ ends ++ a.end ∷ [] → length kept ≡ n → length ends ≡ n
    → ((k : ℕ) (d : Kept) (e : Result WriterSum WorkFault) → k < n → AskerEnds task k (get_or kept k d) (get_or ends k e))
    → (k : ℕ) (d : Kept) (e : Result WriterSum WorkFault) → k < n + 1 → AskerEnds task k (get_or kept' k d) (get_or ends' k e)
one_asker_more task told kept kept' ends ends' n a all at one two count both before k d e low = go (cases_eq k n)
  where
    go : (k ≡ n) ⊎ (k ≡ n → ⊥) → AskerEnds task k (get_or kept' k d) (get_or ends' k e)
    go (inl is) =
        subst (λ (x : Kept). AskerEnds task k x (get_or ends' k e)) (sym (at_last kept kept' a.kept d n k one count is))
        (subst (λ (x : Result WriterSum WorkFault). AskerEnds task k a.kept x) (sym (at_last ends ends' a.end e n k two both is))
        (subst (λ (m : ℕ). AskerEnds task m a.kept a.end) (sym is) (all.each n a (item_at told n a (sym at)))))
    go (inr other) =
        let here : k < n = omega (arith, low, other) in
        subst (λ (x : Kept). AskerEnds task k x (get_or ends' k e)) (sym (at_before kept kept' a.kept d n k one count here))
        (subst (λ (x : Result WriterSum WorkFault). AskerEnds task k (get_or kept k d) x) (sym (at_before ends ends' a.end e n k two both here)) (before k d e here))

abbrev no_disk : DiskSeen
no_disk = record { size = λ side. 0; stands = untold; faults = 0 }

-- one peer more
module _ {D : Type 0} (tells : Type 0) (size : D → Side → ℕ) (stands : D → Standing) (faults : D → ℕ) (slots : List (Option Keeping)) (old : List DiskSeen) where
  abbrev seen : D → DiskSeen
  seen disk = seen_as (size disk) (stands disk) (faults disk)

  abbrev Ends : ℕ → DiskSeen → Option Keeping → Stored → Option WorkFault → Type 0
  Ends peer disk log told stop = PeerEnds tells peer (log_at slots peer) (seen_at old peer) disk log told stop

  pub one_peer_more : (back : List (Option (Returned D))) (disks disks' : List D) (logs logs' : List (Option Keeping)) (told told' : List Stored) (stops stops' : List (Option WorkFault)) (n : ℕ) (r : Returned D)
      → AreBack tells size stands faults slots old back → Some r ≡ get_or back n None
      → disks' ≡ disks ++ r.disk ∷ [] → logs' ≡ logs ++ r.log ∷ [] → told' ≡ told ++ r.stored ∷ [] → stops' ≡ stops ++ r.stop ∷ []
      → length disks ≡ n → length logs ≡ n → length told ≡ n → length stops ≡ n
      → ((k : ℕ) (d : Stored) (e : Option WorkFault) → k < n → Ends k (seen_at (map seen disks) k) (log_at logs k) (get_or told k d) (get_or stops k e))
      → (k : ℕ) (d : Stored) (e : Option WorkFault) → k < n + 1 → Ends k (seen_at (map seen disks') k) (log_at logs' k) (get_or told' k d) (get_or stops' k e)
  one_peer_more back disks disks' logs logs' told told' stops stops' n r all at one two three four c1 c2 c3 c4 before k d e low = go (cases_eq k n)
    where
      mapped : map seen disks' ≡ map seen disks ++ seen r.disk ∷ []
      mapped = ap (λ (xs : List D). map seen xs) one ∙ map_snoc seen disks r.disk

      count : length (map seen disks) ≡ n
      count = map_length seen disks ∙ c1

      go : (k ≡ n) ⊎ (k ≡ n → ⊥) → Ends k (seen_at (map seen disks') k) (log_at logs' k) (get_or told' k d) (get_or stops' k e)
      go (inl is) =
          subst (λ (x : DiskSeen). Ends k x (log_at logs' k) (get_or told' k d) (get_or stops' k e)) (sym (at_last (map seen disks) (map seen disks') (seen r.disk) no_disk n k mapped count is))
          (subst (λ (x : Option Keeping). Ends k (seen r.disk) x (get_or told' k d) (get_or stops' k e)) (sym (at_last logs logs' r.log None n k two c2 is))
          (subst (λ (x : Stored). Ends k (seen r.disk) r.log x (get_or stops' k e)) (sym (at_last told told' r.stored d n k three c3 is))
          (subst (λ (x : Option WorkFault). Ends k (seen r.disk) r.log r.stored x) (sym (at_last stops stops' r.stop e n k four c4 is))
          (subst (λ (m : ℕ). Ends m (seen r.disk) r.log r.stored r.stop) (sym is) (all.each n r (item_at back n r (sym at)))))))
      go (inr other) =
          let here : k < n = omega (arith, low, other) in
          subst (λ (x : DiskSeen). Ends k x (log_at logs' k) (get_or told' k d) (get_or stops' k e)) (sym (at_before (map seen disks) (map seen disks') (seen r.disk) no_disk n k mapped count here))
          (subst (λ (x : Option Keeping). Ends k (seen_at (map seen disks) k) x (get_or told' k d) (get_or stops' k e)) (sym (at_before logs logs' r.log None n k two c2 here))
          (subst (λ (x : Stored). Ends k (seen_at (map seen disks) k) (log_at logs k) x (get_or stops' k e)) (sym (at_before told told' r.stored d n k three c3 here))
          (subst (λ (x : Option WorkFault). Ends k (seen_at (map seen disks) k) (log_at logs k) (get_or told k d) x) (sym (at_before stops stops' r.stop e n k four c4 here)) (before k d e here))))
