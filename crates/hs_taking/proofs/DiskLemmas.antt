-- Logs and disks of several peers, of which one has a call.
use Rattle.std.proofs.Common.{◌≡◌, ◌≢◌, inl, inr, ◌∙◌, ap, sym, subst, ℕ, zero, suc, ◌<◌, List, [], ◌∷◌, Option, Some, None, map, length, refl, arith}
use Rattle.std.proofs.lemmas.List.{get_or-set_same, get_or-set_other, map-set}
use Rattle.std.proofs.lemmas.Bool.{cases_eq}
use Rattle.std.specs.Prelude.{slice_index_or, slice_set}
use Rattle.hs_peerlog.proofs.ImageLemmas.{Since}
use Rattle.hs_peerlog.specs.Lists.{IsReady, Keeping}
use Rattle.hs_ports.specs.MemoryDisk.{untold}
use Rattle.hs_taking.specs.Disks.{AreReady, DiskSeen, IsSlotReady, log_at, seen_at}

abbrev no_disk : DiskSeen
no_disk = record { size = λ side. 0; stands = untold; faults = 0 }

some_is : {A : Type 0} (x y : A) → Some x ≡ Some y → x ≡ y
some_is x y e = cc

none_is_not : {A : Type 0} (x : A) → None ≡ Some x → ⊥
none_is_not x e = grind arith

-- one of them may go on
pub slot_at : {A : Type 0} (tells : Type 0) (logs : List (Option Keeping)) (disks : List A) (f : A → DiskSeen) (peer : ℕ) (slot : Option Keeping) (d : A)
    → AreReady tells logs (map f disks) → slot ≡ log_at logs peer → peer < length disks → IsSlotReady tells slot (f (slice_index_or disks peer d)).size (f (slice_index_or disks peer d)).stands
slot_at tells logs disks f peer None d ready is low = tt
slot_at {A = A} tells logs disks f peer (Some keeping) d ready is low =
    subst (λ (s : DiskSeen). IsReady tells keeping (s.size keeping.log.side) s.stands) (at disks peer low) (ready.each peer keeping (sym is))
  where
    at : (xs : List A) (k : ℕ) → k < length xs → seen_at (map f xs) k ≡ f (slice_index_or xs k d)
    at [] k low = absurd (omega (arith, low))
    at (x ∷ xs) zero low = refl
    at (x ∷ xs) (suc k) low = at xs k (omega (arith, low))

-- the log of a peer went on, or is out of use, and its disk stands as that left it
pub ready_slot : {A : Type 0} (tells : Type 0) (logs : List (Option Keeping)) (disks : List A) (f : A → DiskSeen) (peer : ℕ) (slot : Option Keeping) (disk : A)
    → AreReady tells logs (map f disks) → peer < length logs → peer < length disks → IsSlotReady tells slot (f disk).size (f disk).stands
    → AreReady tells (slice_set logs peer slot) (map f (slice_set disks peer disk))
ready_slot {A = A} tells logs disks f peer slot disk ready low within here =
    subst (λ seen. AreReady tells (slice_set logs peer slot) seen) (sym (map-set f disks peer disk)) (record {
      each = λ other kept is. elim (cases_eq other peer) [
        | inl same ↦ at other kept is same
        | inr differs ↦ subst (λ (d : DiskSeen). IsReady tells kept (d.size kept.log.side) d.stands) (sym (get_or-set_other (map f disks) peer other (f disk) no_disk differs))
            (ready.each other kept (sym (get_or-set_other logs peer other slot None differs) ∙ is))
      ];
    })
  where
    long : (xs : List A) → length (map f xs) ≡ length xs
    long [] = refl
    long (x ∷ xs) = ap (λ n. suc n) (long xs)

    within_map : peer < length (map f disks)
    within_map = let e = long disks in omega (arith, within, e)

    by : (s : Option Keeping) (kept : Keeping) → s ≡ Some kept → IsSlotReady tells s (f disk).size (f disk).stands → IsReady tells kept ((f disk).size kept.log.side) (f disk).stands
    by None kept e h = absurd (none_is_not kept e)
    by (Some k) kept e h = subst (λ (l : Keeping). IsReady tells l ((f disk).size l.log.side) (f disk).stands) (some_is k kept e) h

    at : (other : ℕ) (kept : Keeping) → log_at (slice_set logs peer slot) other ≡ Some kept → other ≡ peer
        → IsReady tells kept ((seen_at (slice_set (map f disks) peer (f disk)) other).size kept.log.side) (seen_at (slice_set (map f disks) peer (f disk)) other).stands
    at other kept is same =
        let k : slot ≡ Some kept = sym (get_or-set_same logs peer slot None low) ∙ ap (λ p. log_at (slice_set logs peer slot) p) (sym same) ∙ is in
        let d : f disk ≡ seen_at (slice_set (map f disks) peer (f disk)) other = sym (get_or-set_same (map f disks) peer (f disk) no_disk within_map) ∙ ap (λ p. seen_at (slice_set (map f disks) peer (f disk)) p) (sym same) in
        subst (λ (s : DiskSeen). IsReady tells kept (s.size kept.log.side) s.stands) d (by slot kept k here)

-- the disk of a peer among them
pub seen_is : {A : Type 0} (f : A → DiskSeen) (disks : List A) (peer : ℕ) (d : A) → peer < length disks → seen_at (map f disks) peer ≡ f (slice_index_or disks peer d)
seen_is f [] peer d low = absurd (omega (arith, low))
seen_is f (x ∷ xs) zero d low = refl
seen_is f (x ∷ xs) (suc k) d low = seen_is f xs k d (omega (arith, low))

-- what holds of each disk holds of that of a peer
pub seen_each : {A : Type 0} (P : DiskSeen → Type 0) (f : A → DiskSeen) → ((x : A) → P (f x)) → (disks : List A) (peer : ℕ) → peer < length disks → P (seen_at (map f disks) peer)
seen_each P f each [] peer low = absurd (omega (arith, low))
seen_each P f each (x ∷ xs) zero low = each x
seen_each P f each (x ∷ xs) (suc k) low = seen_each P f each xs k (omega (arith, low))

pub seen_count : {A : Type 0} (f : A → DiskSeen) (disks : List A) → length (map f disks) ≡ length disks
seen_count f [] = refl
seen_count f (x ∷ xs) = ap (λ n. suc n) (seen_count f xs)

-- one disk had a call, and no other
pub seen_here : {A : Type 0} (f : A → DiskSeen) (disks : List A) (peer : ℕ) (disk : A) → peer < length disks → seen_at (map f (slice_set disks peer disk)) peer ≡ f disk
seen_here f disks peer disk low =
    let n = seen_count f disks in
    let low' : peer < length (map f disks) = omega (arith, low, n) in
    ap (λ ds. seen_at ds peer) (map-set f disks peer disk) ∙ get_or-set_same (map f disks) peer (f disk) no_disk low'

pub seen_there : {A : Type 0} (f : A → DiskSeen) (disks : List A) (peer other : ℕ) (disk : A) → other ≢ peer → seen_at (map f (slice_set disks peer disk)) other ≡ seen_at (map f disks) other
seen_there f disks peer other disk differs = ap (λ ds. seen_at ds other) (map-set f disks peer disk) ∙ get_or-set_other (map f disks) peer other (f disk) no_disk differs

-- ---- moments

-- after the last call of any of them nothing changes; one that is not there has none
pub seen_since : {A : Type 0} (f : A → DiskSeen) → ((x : A) → Since (f x).stands) → (disks : List A) (peer : ℕ) → Since (seen_at (map f disks) peer).stands
seen_since f each [] peer = none_since
  where
    none_since : Since untold
    none_since side m high = refl
seen_since f each (x ∷ xs) zero = each x
seen_since f each (x ∷ xs) (suc k) = seen_since f each xs k

-- what holds of a disk and its call holds of them among the others
pub one_called : {A : Type 0} (f : A → DiskSeen) (disks : List A) (i peer : ℕ) (x d : A) → i ≡ peer → i < length disks → (R : DiskSeen → DiskSeen → Type 0) → R (f (slice_index_or disks i d)) (f x) → R (seen_at (map f disks) peer) (seen_at (map f (slice_set disks i x)) peer)
one_called f disks i peer x d same low R h =
    subst (λ n. R (seen_at (map f disks) n) (seen_at (map f (slice_set disks i x)) n)) same
    (subst (λ (s : DiskSeen). R s (seen_at (map f (slice_set disks i x)) i)) (sym (seen_is f disks i d low)) (subst (λ (s : DiskSeen). R (f (slice_index_or disks i d)) s) (sym (seen_here f disks i x low)) h))
