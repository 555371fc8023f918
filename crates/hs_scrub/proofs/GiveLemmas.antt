-- Giving a log one entry more of another list.
use Rattle.std.proofs.Common.{◌≡◌, ◌≢◌, ◌∙◌, ap, sym, subst, ℕ, ◌+◌, ◌<◌, ◌≤◌, List, map, length, Some, None}
use Rattle.std.specs.Prelude.{slice_index_or, slice_set}
use Rattle.hs_entry.specs.declared.entry.Entry.{Entry}
use Rattle.hs_peerlog.proofs.ImageLemmas.{Since}
use Rattle.hs_peerlog.specs.Images.{IsOne, LeavesEach}
use Rattle.hs_peerlog.specs.Lists.{HasLog, Keeping, numbered_entry, with_waiting}
use Rattle.hs_peerlog.specs.Past.{PastStays}
use Rattle.hs_peerlog.specs.Views.{HasView, Viewing}
use Rattle.hs_ports.specs.Fault.{HasRisen}
use Rattle.hs_scrub.proofs.CopyLemmas.{calls_put, calls_read, calls_then, each_weaker, front_one, front_stays, take_more}
use Rattle.hs_scrub.specs.CopySteps.{AreCalm, Calls, HasFronts, HasMore, IsFront, IsOpen}
use Rattle.hs_scrub.specs.Steps.{IsStill}
use Rattle.hs_taking.proofs.DiskLemmas.{seen_here, seen_is, seen_there}
use Rattle.hs_taking.specs.Disks.{DiskSeen, seen_at}
use Rattle.std.proofs.Common.{take}

-- nothing was put
pub fronts_none : (tells : Type 0) (source : Viewing) (now : ℕ) (from a b : DiskSeen) (log : Keeping) (index : ℕ) → b ≡ a → (tells → Since a.stands) → HasFronts tells source now now from a b log index
fronts_none tells source now from a b log index is since = λ told last whole has own.
    subst (λ (d : DiskSeen). LeavesEach now now a.stands d.stands (IsFront whole)) (sym is) (front_stays whole index log a.stands now last (since told) own)

module _ {A : Type 0} (f : A → DiskSeen) (tells : Type 0) (source : Viewing) (from place now later index : ℕ) (disks via : List A) (x d : A) (log log' : Keeping) (entry : Entry) (differ : from ≡ place → ⊥) (low : place < length via)
    (rest : (peer : ℕ) → peer ≢ from → seen_at (map f via) peer ≡ seen_at (map f disks) peer) where
  abbrev old : List DiskSeen
  old = map f disks

  abbrev new : List DiskSeen
  new = map f (slice_set via place x)

  -- the disk that gets the entry
  pub was : f (slice_index_or via place d) ≡ seen_at old place
  was = sym (seen_is f via place d low) ∙ rest place (λ is. differ (sym is))

  is : seen_at new place ≡ f x
  is = seen_here f via place x low

  there : seen_at new from ≡ seen_at (map f via) from
  there = seen_there f via place from x differ

  pub opens_there : IsOpen tells (seen_at old place) log → IsOpen tells (f (slice_index_or via place d)) log
  opens_there h = subst (λ (s : DiskSeen). IsOpen tells s log) (sym was) h

  pub put_calls : IsStill tells (seen_at old from) (seen_at (map f via) from) → (seen_at old from).faults ≤ (seen_at (map f via) from).faults
      → (tells → (f (slice_index_or via place d)).stands.last ≤ now → PastStays now later (f (slice_index_or via place d)).stands (f x).stands) → (f (slice_index_or via place d)).faults ≤ (f x).faults → now ≤ later → Calls tells from place now later old new
  put_calls still up past rises ticks = calls_then tells from place now now later old (map f via) new
      (calls_read tells from place now old (map f via) differ still up rest) (calls_put f tells from place now later via x d differ low past rises ticks)

  module _ (found : tells → (whole : List (ℕ × Entry)) → HasView source (seen_at old from).stands.seen whole → numbered_entry whole (index + 1) ≡ Some entry) (level : index ≡ log.rank.number) where
    -- the log of the disk as it is when the entry is put
    own_there : (whole : List (ℕ × Entry)) → HasLog log (seen_at old place).stands (take index whole) None → HasLog log (f (slice_index_or via place d)).stands (take index whole) None
    own_there whole own = subst (λ (s : DiskSeen). HasLog log s.stands (take index whole) None) (sym was) own

    last_there : (seen_at old place).stands.last ≤ now → (f (slice_index_or via place d)).stands.last ≤ now
    last_there last = subst (λ (s : DiskSeen). s.stands.last ≤ now) (sym was) last

    more : tells → (whole : List (ℕ × Entry)) → HasView source (seen_at old from).stands.seen whole → HasLog log (seen_at old place).stands (take index whole) None → with_waiting (take index whole) entry ≡ take (index + 1) whole
    more told whole has own = take_more whole index entry log (seen_at old place).stands source (seen_at old from).stands.seen has own level (found told whole has)

    pub put_fronts : (tells → (f (slice_index_or via place d)).stands.last ≤ now → (list : List (ℕ × Entry)) → HasLog log (f (slice_index_or via place d)).stands list None
        → LeavesEach now later (f (slice_index_or via place d)).stands (f x).stands (IsOne list (with_waiting list entry))) → HasFronts tells source now later (seen_at old from) (seen_at old place) (seen_at new place) log index
    put_fronts moments = λ told last whole has own.
        let one = moments told (last_there last) (take index whole) (own_there whole own) in
        let weak = each_weaker (IsOne (take index whole) (with_waiting (take index whole) entry)) (IsFront whole) (front_one whole (with_waiting (take index whole) entry) index (more told whole has own)) one in
        subst (λ (s : DiskSeen). LeavesEach now later s.stands (seen_at new place).stands (IsFront whole)) was
        (subst (λ (s : DiskSeen). LeavesEach now later (f (slice_index_or via place d)).stands s.stands (IsFront whole)) (sym is) weak)

    pub put_more : IsOpen tells (f x) log' → (tells → (f (slice_index_or via place d)).stands.last ≤ now → (list : List (ℕ × Entry)) → HasLog log (f (slice_index_or via place d)).stands list None → HasLog log' (f x).stands (with_waiting list entry) None)
        → HasMore tells source now (seen_at old from) (seen_at old place) (seen_at new place) log log' index
    put_more opens lists = record {
      opens = subst (λ (s : DiskSeen). IsOpen tells s log') (sym is) opens;
      list = λ told last whole has own.
          subst (λ (s : DiskSeen). HasLog log' s.stands (take (index + 1) whole) None) (sym is)
          (subst (λ es. HasLog log' (f x).stands es None) (more told whole has own) (lists told (last_there last) (take index whole) (own_there whole own)));
    }

  pub put_calm : (seen_at (map f via) from).faults ≡ (seen_at old from).faults → (f x).faults ≡ (f (slice_index_or via place d)).faults → AreCalm from place old new
  put_calm source target = record {
    source = ap (λ (s : DiskSeen). s.faults) there ∙ source;
    target = ap (λ (s : DiskSeen). s.faults) is ∙ target ∙ ap (λ (s : DiskSeen). s.faults) was;
  }

  pub put_risen : (seen_at (map f via) from).faults ≡ (seen_at old from).faults → HasRisen (f (slice_index_or via place d)).faults (f x).faults
      → HasRisen (seen_at old place).faults (seen_at new place).faults × ((seen_at new from).faults ≡ (seen_at old from).faults)
  put_risen source rose =
      (subst (λ (s : DiskSeen). HasRisen (seen_at old place).faults s.faults) (sym is) (subst (λ (s : DiskSeen). HasRisen s.faults (f x).faults) was rose), ap (λ (s : DiskSeen). s.faults) there ∙ source)
