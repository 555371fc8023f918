-- Reading the disks one after another.
use Rattle.std.proofs.Common.{◌≡◌, ◌≢◌, ◌∙◌, inl, inr, ap, sym, subst, ℕ, ◌+◌, ◌*◌, ◌<◌, List, [], ◌∷◌, ◌++◌, map, length, Option, Some, None, refl, arith}
use Rattle.std.proofs.lemmas.Bool.{cases_eq}
use Rattle.std.proofs.lemmas.List.{get_or_push}
use Rattle.std.proofs.Math.ListN.{get_or-append}
use Rattle.std.specs.Prelude.{slice_index_or, slice_set}
use Rattle.hs_limits.specs.declared.shape.Shape.{Shape}
use Rattle.hs_peerlog.specs.declared.fault.LogFault.TheVariants as log
use Rattle.hs_peerlog.specs.Opening.{refusal_in}
use Rattle.hs_peerlog.specs.Views.{Viewing}
use Rattle.hs_ports.specs.Fault.{HasRisen}
use Rattle.hs_scrub.specs.declared.fault.ScrubFault.{ScrubFault}
use Rattle.hs_scrub.specs.declared.fault.ScrubFault.TheVariants.{WrongShape, NoMemory}
use Rattle.hs_scrub.specs.declared.mark.PeerMark.{PeerMark}
use Rattle.hs_scrub.specs.declared.mark.PeerMark.TheVariants.{Same, Behind, Differs, NoLog, Fault}
use Rattle.hs_scrub.specs.Scrubbed.{IsOther, mark_at}
use Rattle.hs_scrub.specs.Steps.{AreLooked, IsLooked, IsOtherAt, view_at}
use Rattle.hs_side.specs.declared.header.Header.{Header}
use Rattle.hs_taking.proofs.DiskLemmas.{seen_here, seen_is, seen_there}
use Rattle.hs_taking.proofs.ViewLemmas.{AreRead}
use Rattle.hs_taking.specs.Disks.{DiskSeen, seen_at}
use Rattle.hs_taking.specs.Viewed.{IsFirstOther}

-- what holds of the other disks and of that which had a call
pub each_set : {A : Type 0} (f : A → DiskSeen) (disks : List A) (i : ℕ) (x : A) → i < length disks → (P : ℕ → DiskSeen → Type 0) (peer : ℕ)
    → (peer ≢ i → P peer (seen_at (map f disks) peer)) → (peer ≡ i → P i (f x)) → P peer (seen_at (map f (slice_set disks i x)) peer)
each_set f disks i x low P peer there here = elim (cases_eq peer i) [
  | inl same ↦ subst (λ p. P p (seen_at (map f (slice_set disks i x)) p)) (sym same) (subst (λ (s : DiskSeen). P i s) (sym (seen_here f disks i x low)) (here same))
  | inr differs ↦ subst (λ (s : DiskSeen). P peer s) (sym (seen_there f disks i peer x differs)) (there differs)
]

-- ---- an item more

long : {A : Type 0} (xs : List A) (x : A) → length (xs ++ x ∷ []) ≡ length xs + 1
long [] x = refl
long (y ∷ xs) x = let e = long xs x in omega (arith, e)

module _ {A : Type 0} (f : A → DiskSeen) (tells : Type 0) (shape : Shape) (before mid : ℕ) (old : List DiskSeen) (disks : List A) (i total : ℕ) (x d : A) (low : i < length disks) (read : AreRead tells before mid old (map f disks) i total) where
  abbrev after : List DiskSeen
  after = map f (slice_set disks i x)

  was : f (slice_index_or disks i d) ≡ seen_at old i
  was = sym (seen_is f disks i d low) ∙ read.rest i (omega arith)

  module _ (views : List (Option Viewing)) (marks : List PeerMark) (so_far : AreLooked tells shape old (map f disks) views marks i) where
    pub looked_more : (view : Option Viewing) (mark : PeerMark) → length views ≡ i → length marks ≡ i
        → IsLooked tells shape i (f (slice_index_or disks i d)) (f x) view mark → AreLooked tells shape old after (views ++ view ∷ []) (marks ++ mark ∷ []) (i + 1)
    looked_more view mark count many one = record {
      each = λ peer within. each_set f disks i x low (λ p (s : DiskSeen). IsLooked tells shape p (seen_at old p) s (view_at (views ++ view ∷ []) p) (mark_at (marks ++ mark ∷ []) p)) peer
          (λ differs.
          let less : peer < i = omega (arith, within, differs) in
          subst (λ v. IsLooked tells shape peer (seen_at old peer) (seen_at (map f disks) peer) v (mark_at (marks ++ mark ∷ []) peer)) (sym (get_or-append views (view ∷ []) None peer (omega (arith, less, count))))
          (subst (λ m. IsLooked tells shape peer (seen_at old peer) (seen_at (map f disks) peer) (view_at views peer) m) (sym (get_or-append marks (mark ∷ []) Fault peer (omega (arith, less, many)))) (so_far.each peer less)))
          (λ same.
          subst (λ v. IsLooked tells shape i (seen_at old i) (f x) v (mark_at (marks ++ mark ∷ []) i)) (sym (get_or_push views view None i count))
          (subst (λ m. IsLooked tells shape i (seen_at old i) (f x) view m) (sym (get_or_push marks mark Fault i many)) (subst (λ (s : DiskSeen). IsLooked tells shape i s (f x) view mark) was one)));
    }

    -- a disk of another store
    pub other_found : (fault : ScrubFault) → i < shape.shards * shape.copies → IsOtherAt tells shape i (f (slice_index_or disks i d)) (f x) fault → IsOther tells shape old after fault
    other_found NoMemory within is = tt
    other_found (WrongShape at found) within is =
        subst (λ p. IsFirstOther tells shape old after p found) (sym is.0) (record {
          within = within;
          told = λ told. subst (λ (s : DiskSeen). refusal_in shape i s.stands.seen ≡ Some (log.WrongShape found)) was (is.1 told);
          stands = ap (λ (s : DiskSeen). s.faults) (seen_here f disks i x low) ∙ is.2 ∙ ap (λ (s : DiskSeen). s.faults) was;
          first = λ told peer other less refused.
              subst (λ (s : DiskSeen). HasRisen (seen_at old peer).faults s.faults) (sym (seen_there f disks i peer x (λ same. omega (arith, less, same))))
              (rose peer told other refused (view_at views peer) (mark_at marks peer) (so_far.each peer less));
        })
      where
        none_is_not : {B : Type 0} (b : B) → None ≡ Some b → ⊥
        none_is_not b e = cc e

        no_log_not : (at : ℕ) (other : Header) → Some (log.NotALog at) ≡ Some (log.WrongShape other) → ⊥
        no_log_not at other e = cc e

        rose : (peer : ℕ) → tells → (other : Header) → refusal_in shape peer (seen_at old peer).stands.seen ≡ Some (log.WrongShape other) → (view : Option Viewing) (mark : PeerMark)
            → IsLooked tells shape peer (seen_at old peer) (seen_at (map f disks) peer) view mark → HasRisen (seen_at old peer).faults (seen_at (map f disks) peer).faults
        rose peer told other refused (Some view) mark is = absurd (none_is_not (log.WrongShape other) (sym (is.accepted told) ∙ refused))
        rose peer told other refused None Same is = absurd is
        rose peer told other refused None (Behind length) is = absurd is
        rose peer told other refused None (Differs number) is = absurd is
        rose peer told other refused None (NoLog at) is = absurd (no_log_not at other (sym (is.refused told) ∙ refused))
        rose peer told other refused None Fault is = is

pub none_looked : (tells : Type 0) (shape : Shape) (old new : List DiskSeen) (views : List (Option Viewing)) (marks : List PeerMark) → AreLooked tells shape old new views marks 0
none_looked tells shape old new views marks = record { each = λ peer low. absurd (omega (arith, low)) }
