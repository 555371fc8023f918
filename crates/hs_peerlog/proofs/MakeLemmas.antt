-- The log that a blank side gets.
use Rattle.std.proofs.Common.{◌≡◌, ◌∙◌, inl, inr, ℕ, ◌^◌, ◌<◌, ◌≤◌, List, [], Option, Some, None, IfSome, IsSome, MatchOption, is_some, true, false, refl, ap, sym, subst}
use Rattle.hs_ports.specs.declared.disk.Side.{Side}
use Rattle.hs_ports.specs.Disk.{Standing, IsImage, other_side, settled}
use Rattle.hs_ports.specs.Moments.{EachMoment}
use Rattle.hs_ports.proofs.Images.{settled_only}
use Rattle.hs_entry.specs.declared.entry.Entry.{Entry}
use Rattle.hs_side.specs.declared.header.Header.{Header}
use Rattle.hs_side.specs.Current.{current}
use Rattle.hs_side.specs.Giving.{GivesEmpty}
use Rattle.hs_side.specs.Reading.{is_blank, log_of, listed, list_of}
use Rattle.hs_side.specs.Spelling.{spelled}
use Rattle.hs_side.specs.Standing.{SideState, Stands, HasLog, HasNone}
use Rattle.hs_side.proofs.BlankLemmas.{empty_log, blank_log}
use Rattle.hs_peerlog.specs.Images.{IsAlone}
use Rattle.hs_peerlog.specs.Lists.{HasFrames, HasList}
use Rattle.hs_peerlog.specs.Opening.{HasOpened}
use Rattle.hs_peerlog.specs.Steps.{IsKeptOrMade, ShowsEach, current_bytes}
use Rattle.hs_peerlog.proofs.ImageLemmas.{Since, current-same, first-current, image-is, two-sides}
use Rattle.hs_peerlog.proofs.ListLemmas.{has-list}
use Rattle.hs_peerlog.proofs.ShownLemmas.{one-shown, still-shown}

pub none-if : (head : Option (Header × ℕ)) (generation : Option ℕ) → IfSome head (λ x. generation ≡ Some x.1) → is_some generation ≡ false → head ≡ None
none-if None generation some none = refl
none-if (Some x) generation some none = cc (sym (ap (λ g. is_some g) some) ∙ none)

pub some-if : (head : Option (Header × ℕ)) (generation : Option ℕ) → (head ≡ None → generation ≡ None) → is_some generation ≡ true → IsSome head
some-if None generation none some = absurd (cc (sym some ∙ ap (λ g. is_some g) (none refl)))
some-if (Some x) generation none some = refl

-- a side without a head is blank
pub blank-side : (tells : Type 0) (log : SideState) (size : ℕ) (disk : Standing) → Stands tells log size disk → tells → log.head ≡ None → is_blank (disk.seen log.side) ≡ true
blank-side tells log size disk s told e =
    let has : HasNone log (disk.seen log.side) (disk.loose log.side) = subst (λ h. MatchOption h (HasNone log (disk.seen log.side) (disk.loose log.side)) (λ head. HasLog 165 head.0 head.1 log (disk.seen log.side) (disk.loose log.side))) e (s.told told) in
    has.blank

-- an empty log has the empty list
pub formatted : (log : SideState) (seen : List ℕ) (header : Header) (generation : ℕ) → generation < 2 ^ 64 → log.places ≡ [] → seen ≡ spelled 165 header generation [] 0 [] → HasList log.places seen []
formatted log seen header generation fits places written = record {
  log = record { header = header; generation = generation; frames = [] };
  read = ap (λ bytes. log_of bytes) written ∙ empty_log header generation fits;
  listed = refl;
  placed = places;
}

-- a side that was opened gives its list
pub opened-list : (tells : Type 0) (log : SideState) (size : ℕ) (disk : Standing) (entries : List (ℕ × Entry)) → Stands tells log size disk → tells → HasOpened log (disk.seen log.side) entries → list_of (disk.seen log.side) ≡ Some entries
opened-list tells log size disk entries s told opened = go log.head refl
  where
    seen : List ℕ
    seen = disk.seen log.side

    go : (head : Option (Header × ℕ)) → log.head ≡ head → list_of seen ≡ Some entries
    go None e = ap (λ r. listed r) (blank_log seen (blank-side tells log size disk s told e)) ∙ ap (λ es. Some es) (sym (opened.blank e))
    go (Some x) e = has-list log.places seen entries (opened.begun (subst (λ h. IsSome h) (sym e) refl))

-- what is left while a blank side gets an empty log
pub first-shown : {before now : ℕ} {side : Side} {old new : Standing} (header : Header) → EachMoment before now side old new (GivesEmpty header 1) → old.last ≤ before → Since old → IsAlone side old → is_blank (old.seen side) ≡ true
    → ShowsEach before now old new (IsKeptOrMade (old.seen side) header)
first-shown {before} {now} {side} {old} {new} header run last since alone blank = one-shown run last since given
  where
    given : (image : Side → List ℕ) → GivesEmpty header 1 (image side) → IsImage (old.loose (other_side side)) (image (other_side side)) → IsKeptOrMade (old.seen side) header (current_bytes image)
    given image g left =
        let beside : image (other_side side) ≡ old.seen (other_side side) = settled_only (old.seen (other_side side)) (image (other_side side)) (subst (λ l. IsImage l (image (other_side side))) (alone.settled (other_side side)) left) in
        let is : current image ≡ side = first-current side old.seen (image side) alone.current blank image refl beside in
        subst (λ (s : Side). IsKeptOrMade (old.seen side) header (image s)) (sym is) (record { one = inr (blank, g) })

-- and while nothing is called
pub alone-shown : (side : Side) (disk : Standing) (now : ℕ) (header : Header) → disk.last ≤ now → Since disk → IsAlone side disk → ShowsEach now now disk disk (IsKeptOrMade (disk.seen side) header)
alone-shown side disk now header last since alone = still-shown last since (λ image left.
    let same = image-is disk image alone.settled left.sides in
    record { one = inl (ap (λ s. image s) (current-same disk.seen image same ∙ alone.current) ∙ same side) })

-- and after it both sides are at rest
pub first-alone : {before now : ℕ} {side : Side} {old new : Standing} {P : List ℕ → Type 0} (written : List ℕ) → EachMoment before now side old new P → IsAlone side old → is_blank (old.seen side) ≡ true → new.loose side ≡ settled written → new.seen side ≡ written → IsAlone side new
first-alone {before} {now} {side} {old} {new} {P} written run alone blank loose seen = record {
  current = first-current side old.seen (new.seen side) alone.current blank new.seen refl run.other.seen;
  settled = λ s. elim (two-sides side s) [
    | inl e ↦ subst (λ x. new.loose x ≡ settled (new.seen x)) e (loose ∙ ap (λ b. settled b) (sym seen))
    | inr e ↦ subst (λ x. new.loose x ≡ settled (new.seen x)) e (run.other.loose ∙ alone.settled (other_side side) ∙ ap (λ b. settled b) (sym run.other.seen))
  ];
}

-- and has its frames
pub opened-frames : (tells : Type 0) (log : SideState) (size : ℕ) (disk : Standing) (list : List (ℕ × Entry)) → Stands tells log size disk → tells → HasOpened log (disk.seen log.side) list → HasFrames log.places (disk.seen log.side) list
opened-frames tells log size disk list s told opened = go log.head refl
  where
    go : (head : Option (Header × ℕ)) → log.head ≡ head → HasFrames log.places (disk.seen log.side) list
    go None e =
        let has : HasNone log (disk.seen log.side) (disk.loose log.side) = subst (λ h. MatchOption h (HasNone log (disk.seen log.side) (disk.loose log.side)) (λ head. HasLog 165 head.0 head.1 log (disk.seen log.side) (disk.loose log.side))) e (s.told told) in
        inr (has.empty, opened.blank e)
    go (Some x) e = inl (opened.begun (subst (λ h. IsSome h) (sym e) refl))
