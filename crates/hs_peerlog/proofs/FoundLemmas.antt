-- What a crash leaves while the log of a disk is taken: what it could leave before, or, of a blank disk, an empty log.
use Rattle.std.proofs.Common.{◌≡◌, ◌∙◌, ◌⊎◌, inl, inr, ℕ, ◌≤◌, List, [], Some, refl, ap, sym, subst}
use Rattle.hs_ports.specs.declared.disk.Side.{Side}
use Rattle.hs_ports.specs.Disk.{Standing, IsImage}
use Rattle.hs_entry.specs.declared.entry.Entry.{Entry}
use Rattle.hs_side.specs.declared.header.Header.{Header}
use Rattle.hs_side.specs.Current.{current, list_in}
use Rattle.hs_side.specs.Giving.{GivesEmpty}
use Rattle.hs_side.specs.Reading.{list_of, listed}
use Rattle.hs_side.proofs.BlankLemmas.{blank_log}
use Rattle.hs_peerlog.specs.Heads.{KeepsHeader, LeavesHeader}
use Rattle.hs_peerlog.specs.Images.{GivesList, Is, IsAny, IsStanding, LeavesAll, LeavesAny, LeavesEach, LeavesOnly}
use Rattle.hs_peerlog.specs.Steps.{IsKeptOrMade, CouldShow, ShowsEach}
use Rattle.hs_peerlog.proofs.HeaderLemmas.{empty-headed}
use Rattle.hs_peerlog.proofs.ImageLemmas.{Since}
use Rattle.hs_peerlog.proofs.ShownLemmas.{Lists, all-shown, image-header, image-lists, only-gives, shown-header, shown-lists, still-shown, then-shown, weaker-shown}

-- what a crash leaves of the disk then
pub record IsFound (disk : Standing) (header : Header) (bytes : List ℕ) : Type 0 where
  pub one : CouldShow disk bytes ⊎ ((list_in disk.seen ≡ Some []) × GivesEmpty header 1 bytes)

module _ (disk : Standing) (header : Header) (stays : (side : Side) → IsImage (disk.loose side) (disk.seen side)) where
  seen-stands : IsStanding disk disk.seen
  seen-stands = record { sides = stays }

  -- of what its current side had, or of an empty log
  pub kept-found : (side : Side) (seen : List ℕ) → current disk.seen ≡ side → seen ≡ disk.seen side → (bytes : List ℕ) → IsKeptOrMade seen header bytes → IsFound disk header bytes
  kept-found side seen is read bytes k = elim k.one [
    | inl same ↦ record { one = inl (record { image = disk.seen; stands = seen-stands; same = ap (λ s. disk.seen s) is ∙ sym read ∙ sym same }) }
    | inr made ↦ record {
      one = inr (ap (λ s. list_of (disk.seen s)) is ∙ ap (λ b. list_of b) (sym read) ∙ ap (λ r. listed r) (blank_log seen made.0), made.1);
    }
  ]

  pub shown-found : (bytes : List ℕ) → CouldShow disk bytes → IsFound disk header bytes
  shown-found bytes s = record { one = inl s }

  -- it has a list as each image had one before
  empty-lists : (bytes : List ℕ) → GivesEmpty header 1 bytes → list_of bytes ≡ Some []
  empty-lists bytes g = elim g.one [ inl e ↦ ap (λ r. listed r) e | inr e ↦ ap (λ r. listed r) e ]

  some_is : (a b : List (ℕ × Entry)) → Some a ≡ Some b → a ≡ b
  some_is a b e = cc e

  found-lists : {P : List (ℕ × Entry) → Type 0} → ((image : Side → List ℕ) → IsStanding disk image → GivesList P image) → (bytes : List ℕ) → IsFound disk header bytes → Lists P bytes
  found-lists {P} leaves bytes f = elim f.one [
    | inl s ↦ image-lists disk leaves bytes s
    | inr made ↦
        let g = leaves disk.seen seen-stands in
        record { list = []; read = empty-lists bytes made.1; holds = subst P (some_is g.list [] (sym g.read ∙ made.0)) g.holds }
  ]

  module _ {before now : ℕ} {new : Standing} (run : ShowsEach before now disk new (IsFound disk header)) where
    pub found-any : (lists : ℕ → List (ℕ × Entry)) → LeavesAny disk lists → LeavesEach before now disk new (IsAny lists)
    found-any lists leaves = shown-lists (weaker-shown run (λ bytes f. found-lists leaves bytes f))

    pub found-only : (list : List (ℕ × Entry)) → LeavesOnly disk list → LeavesEach before now disk new (Is list)
    found-only list leaves = shown-lists (weaker-shown run (λ bytes f. found-lists (only-gives disk list leaves) bytes f))

    pub found-header : LeavesHeader disk header → KeepsHeader before new header
    found-header leaves = shown-header (weaker-shown run (λ bytes f. elim f.one [ inl s ↦ image-header disk leaves bytes s | inr made ↦ empty-headed header 1 bytes made.1 ]))

  -- no call, the calls of opening, and those that make the log
  pub still-found : {now : ℕ} → disk.last ≤ now → Since disk → ShowsEach now now disk disk (IsFound disk header)
  still-found last since = still-shown last since (λ image left. record { one = inl (record { image = image; stands = left; same = refl }) })

  pub all-found : {before now : ℕ} {new : Standing} → LeavesAll before now disk new → ShowsEach before now disk new (IsFound disk header)
  all-found run = weaker-shown (all-shown run) shown-found

  pub then-found : {before middle now : ℕ} (side : Side) {mid new : Standing} → LeavesAll before middle disk mid → ((s : Side) → mid.seen s ≡ disk.seen s) → side ≡ current disk.seen → ShowsEach middle now mid new (IsKeptOrMade (mid.seen side) header)
      → ShowsEach before now disk new (IsFound disk header)
  then-found side {mid} one same is two = then-shown two (all-shown one) shown-found (kept-found side (mid.seen side) (sym is) (same side))
