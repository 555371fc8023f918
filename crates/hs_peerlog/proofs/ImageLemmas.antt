-- Which side of an image is current, and its list.
use Rattle.std.proofs.Common.{◌≡◌, ◌∙◌, ◌⊎◌, inl, inr, ℕ, ◌<◌, Bool, true, false, cond, List, [], ◌∷◌, ◌++◌, take, drop, Option, Some, None, Result, Ok, refl, ap, sym, subst, arith, if◌then◌else◌}
use Rattle.std.proofs.lemmas.List.{drop-take, take-take}
use Rattle.std.specs.Int.{w64, from_be_bytes}
use Rattle.hs_ports.specs.declared.disk.Side.{Side}
use Rattle.hs_ports.specs.declared.disk.Side.TheVariants.{Zero, One}
use Rattle.hs_ports.specs.Disk.{Standing, IsImage, other_side, settled}
use Rattle.hs_ports.proofs.Images.{settled_only}
use Rattle.hs_limits.specs.Fields.{◌>>=◌}
use Rattle.hs_limits.proofs.FieldLemmas.{bind_ok}
use Rattle.hs_side.specs.declared.header.Header.{Header}
use Rattle.hs_side.specs.Follow.{start}
use Rattle.hs_side.specs.Current.{current, generation_in, later_side, list_in}
use Rattle.hs_side.specs.Reading.{Log, Frame, frames, head_of, generation_of, is_blank, list_of, log_of, with_frame}
use Rattle.hs_side.proofs.HeadLemmas.{head_is}

-- this side or the other
pub two-sides : (a b : Side) → (a ≡ b) ⊎ (other_side a ≡ b)
two-sides Zero Zero = inl refl
two-sides Zero One = inr refl
two-sides One Zero = inr refl
two-sides One One = inl refl

-- ---- the generation of a log

abbrev given : Log → Result (Option Log) ℕ
given log = Ok (Some log)

pub log-generation : (bytes : List ℕ) (log : Log) → log_of bytes ≡ Ok (Some log) → generation_in bytes ≡ Some log.generation
unfolding log_of
log-generation bytes log e = go (is_blank bytes) e
  where
    blank : Result (Option Log) ℕ
    blank = Ok None

    read : Result (Option Log) ℕ
    read = head_of (take 17 bytes) >>= λ head. frames 17 start 0 (drop 17 bytes) >>= λ found. Ok (Some (record { header = head.0; generation = head.1; frames = found }))

    field : generation_of (take 17 bytes) ≡ generation_of bytes
    field = ap (λ l. from_be_bytes w64 l) (ap (λ l. take 8 l) (drop-take 9 8 bytes) ∙ take-take 8 8 (drop 9 bytes) (omega arith))

    same : {a b : Log} → given a ≡ given b → a.generation ≡ b.generation
    same e = ap (λ (x : Result (Option Log) ℕ). generation_or x) e
      where
        generation_or : Result (Option Log) ℕ → ℕ
        generation_or (Ok (Some log)) = log.generation
        generation_or other = 0

    go : (b : Bool) → (if b then blank else read) ≡ Ok (Some log) → (if b then None else Some (generation_of bytes)) ≡ Some log.generation
    go true k = cc k
    go false k =
        let head = bind_ok (head_of (take 17 bytes)) (λ head. frames 17 start 0 (drop 17 bytes) >>= λ found. Ok (Some (record { header = head.0; generation = head.1; frames = found }))) (Some log) k in
        let found = bind_ok (frames 17 start 0 (drop 17 bytes)) (λ found. Ok (Some (record { header = head.0.0; generation = head.0.1; frames = found }))) (Some log) head.2 in
        let is = head_is (take 17 bytes) head.0 head.1 in
        ap (λ n. Some n) (sym field ∙ ap (λ (x : Header × ℕ). x.1) is.is ∙ same found.2)

-- a frame more has the same
pub frame-generation : (seen later : List ℕ) (log : Log) (frame : Frame) → log_of seen ≡ Ok (Some log) → log_of later ≡ with_frame frame (log_of seen) → generation_in later ≡ generation_in seen
frame-generation seen later log frame read e =
    log-generation later (record log { frames = log.frames ++ frame ∷ [] }) (e ∙ ap (λ r. with_frame frame r) read) ∙ sym (log-generation seen log read)

pub same-generation : (seen later : List ℕ) (log : Log) → log_of seen ≡ Ok (Some log) → log_of later ≡ log_of seen → generation_in later ≡ generation_in seen
same-generation seen later log read e = log-generation later log (e ∙ read) ∙ sym (log-generation seen log read)

-- ---- which side stays current

-- beside these bytes of the other side, this side is current with this content
abbrev pub StaysCurrent : Side → List ℕ → List ℕ → Type 0
StaysCurrent side beside content = (image : Side → List ℕ) → image side ≡ content → image (other_side side) ≡ beside → current image ≡ side

-- it is where the generation is the same
pub same-current : (side : Side) (seen : Side → List ℕ) (content : List ℕ) → current seen ≡ side → generation_in content ≡ generation_in (seen side) → StaysCurrent side (seen (other_side side)) content
same-current Zero seen content is same image here there =
    ap (λ g. later_side g (generation_in (image One))) (ap (λ b. generation_in b) here ∙ same)
    ∙ ap (λ b. later_side (generation_in (seen Zero)) (generation_in b)) there ∙ is
same-current One seen content is same image here there =
    ap (λ g. later_side (generation_in (image Zero)) g) (ap (λ b. generation_in b) here ∙ same)
    ∙ ap (λ b. later_side (generation_in b) (generation_in (seen One))) there ∙ is

-- and where the side was blank, whatever it has now
pub first-current : (side : Side) (seen : Side → List ℕ) (content : List ℕ) → current seen ≡ side → is_blank (seen side) ≡ true → StaysCurrent side (seen (other_side side)) content
first-current Zero seen content is blank image here there = go (generation_in (seen One)) refl (ap (λ b. cond b None (Some (generation_of (seen Zero)))) blank)
  where
    go : (other : Option ℕ) → generation_in (seen One) ≡ other → generation_in (seen Zero) ≡ None → current image ≡ Zero
    go None e none = ap (λ g. later_side (generation_in (image Zero)) g) (ap (λ b. generation_in b) there ∙ e) ∙ first (generation_in (image Zero))
      where
        first : (g : Option ℕ) → later_side g None ≡ Zero
        first None = refl
        first (Some n) = refl
    go (Some n) e none = cc (sym (ap (λ g. later_side g (generation_in (seen One))) none ∙ ap (λ g. later_side None g) e) ∙ is)
first-current One seen content is blank image here there = absurd (no (generation_in (seen Zero)) (sym (ap (λ b. later_side (generation_in (seen Zero)) (cond b None (Some (generation_of (seen One))))) blank) ∙ is))
  where
    no : (g : Option ℕ) → later_side g None ≡ One → ⊥
    no None e = cc e
    no (Some n) e = cc e

-- ---- images of a disk

abbrev pub Since : Standing → Type 0
Since disk = (side : Side) (m : ℕ) → disk.last < m → disk.past m side ≡ disk.loose side

-- the list of an image is that of the side that is current in it
pub list-there : (side : Side) (image : Side → List ℕ) (content : List ℕ) → image side ≡ content → current image ≡ side → list_in image ≡ list_of content
list-there side image content here is = ap (λ s. list_of (image s)) is ∙ ap (λ b. list_of b) here

-- what two disks read the same is current in both
pub current-same : (seen image : Side → List ℕ) → ((s : Side) → image s ≡ seen s) → current image ≡ current seen
current-same seen image same = ap (λ b. later_side (generation_in b) (generation_in (image One))) (same Zero) ∙ ap (λ b. later_side (generation_in (seen Zero)) (generation_in b)) (same One)

pub list-same : (seen image : Side → List ℕ) → ((s : Side) → image s ≡ seen s) → list_in image ≡ list_in seen
list-same seen image same = ap (λ s. list_of (image s)) (current-same seen image same) ∙ ap (λ b. list_of b) (same (current seen))

pub image-is : (disk : Standing) (image : Side → List ℕ) → ((s : Side) → disk.loose s ≡ settled (disk.seen s)) → ((s : Side) → IsImage (disk.loose s) (image s)) → (s : Side) → image s ≡ disk.seen s
image-is disk image rest left s = settled_only (disk.seen s) (image s) (subst (λ l. IsImage l (image s)) (rest s) (left s))
