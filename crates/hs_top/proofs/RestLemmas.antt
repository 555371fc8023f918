-- On which disks a run may begin.
use Rattle.std.proofs.Common.{◌≡◌, ◌∙◌, ◌⊎◌, inl, inr, ap, sym, subst, ℕ, zero, suc, ◌+◌, ◌<◌, Bool, true, false, List, [], ◌∷◌, length, take, drop, replicate, Option, Some, None, unwrap_or, refl, arith}
use Rattle.std.specs.Prelude.{⊤, if◌then◌else◌}
use Rattle.hs_entry.specs.Entries.{rank_of}
use Rattle.hs_events.specs.Taken.{or_blank, taken_lists}
use Rattle.hs_fold.specs.Images.{image_at}
use Rattle.hs_fold.specs.Opened.{chosen, chosen_each, outranks}
use Rattle.hs_fold.specs.Shards.Images.{Image, IsBlank}
use Rattle.hs_fold.specs.Shards.Setting.{Numbered}
use Rattle.hs_peerlog.proofs.ImageLemmas.{image-is, list-same}
use Rattle.hs_ports.specs.declared.disk.Side.{Side}
use Rattle.hs_ports.specs.Disk.{IsImage, Loose, Standing, settled}
use Rattle.hs_ports.specs.Moments.{disk_at}
use Rattle.hs_promise.specs.Entry.{MayStop, entry_logs, is_aside, logs_from}
use Rattle.hs_promise.specs.Run.{Ran, Script}
use Rattle.hs_promise.specs.Stops.{image_logs}
use Rattle.hs_side.proofs.BlankLemmas.{blank_log}
use Rattle.hs_side.specs.Current.{current, list_in}
use Rattle.hs_side.specs.Reading.{listed}
use Rattle.hs_sound.specs.Stay.{AreSoundAlong}
use Rattle.hs_top.specs.Rest.{AreAtRest, HasOneList, IsAtRest}

-- ---- disks at rest, whose lists are sound

pub rest_may : (S : Script) (r : Ran) (image : ℕ → Image) → AreAtRest image r.old → AreSoundAlong S.set (taken_lists S.set.shape (entry_logs S r)) → MayStop S r
rest_may S r image rest sound = record {
  sound = sound;
  one = λ peer counts left images. list-same (disk_at r.old.disks peer).seen left (image-is (disk_at r.old.disks peer) left (still peer) images);
  none = record { called = λ peer. (rest.each peer).last; put = rest.sink };
}
  where
    still : (peer : ℕ) (side : Side) → (disk_at r.old.disks peer).loose side ≡ settled ((disk_at r.old.disks peer).seen side)
    still peer side = (rest.each peer).loose side ∙ ap (λ (bytes : List ℕ). settled bytes) (sym ((rest.each peer).seen side))

-- a disk at rest has one list
settled_image : (bytes : List ℕ) → IsImage (settled bytes) bytes
settled_image bytes = record { no_shorter = omega arith; no_longer = omega arith; kept = λ i low out. refl }

pub rest_one : (image : Image) (moment : ℕ) (disk : Standing) → IsAtRest image moment disk → HasOneList disk
rest_one image moment disk rest = record {
  seen = λ side. subst (λ (loose : Loose). IsImage loose (disk.seen side)) (sym (still side)) (settled_image (disk.seen side));
  one = λ left images. list-same disk.seen left (image-is disk left still images);
}
  where
    still : (side : Side) → disk.loose side ≡ settled (disk.seen side)
    still side = rest.loose side ∙ ap (λ (bytes : List ℕ). settled bytes) (sym (rest.seen side))

-- ---- blank disks

abbrev AreEmpty : List Numbered → Type 0
AreEmpty [] = ⊤
AreEmpty (list ∷ lists) = (list ≡ []) × AreEmpty lists

empty_take : (n : ℕ) (lists : List Numbered) → AreEmpty lists → AreEmpty (take n lists)
empty_take zero lists h = tt
empty_take (suc n) [] h = tt
empty_take (suc n) (list ∷ lists) h = (h.0, empty_take n lists h.1)

empty_drop : (n : ℕ) (lists : List Numbered) → AreEmpty lists → AreEmpty (drop n lists)
empty_drop zero lists h = h
empty_drop (suc n) [] h = tt
empty_drop (suc n) (list ∷ lists) h = empty_drop n lists h.1

chosen_empty : (lists : List Numbered) → AreEmpty lists → chosen lists ≡ []
chosen_empty [] h = refl
chosen_empty (list ∷ lists) h = go (outranks (rank_of (chosen lists)) (rank_of list)) (chosen_empty lists h.1)
  where
    go : (b : Bool) → chosen lists ≡ [] → (if b then chosen lists else list) ≡ []
    go true rest = rest
    go false rest = h.0

each_empty : (shards copies : ℕ) (lists : List Numbered) → AreEmpty lists → chosen_each shards copies lists ≡ replicate shards []
each_empty zero copies lists h = refl
each_empty (suc shards) copies lists h =
    ap (λ (list : Numbered). list ∷ chosen_each shards copies (drop copies lists)) (chosen_empty (take copies lists) (empty_take copies lists h))
    ∙ ap (λ (rest : List Numbered). [] ∷ rest) (each_empty shards copies (drop copies lists) (empty_drop copies lists h))

pub blank_list : (image : Image) → IsBlank image → list_in image ≡ Some []
blank_list image blank = ap (λ log. listed log) (blank_log (image (current image)) (blank (current image)))

logs_empty : (S : Script) (r : Ran) (peer : ℕ) (disks : List Standing) → ((k : ℕ) → list_in (disk_at disks k).seen ≡ Some []) → AreEmpty (or_blank (logs_from S r peer disks))
logs_empty S r peer [] h = tt
logs_empty S r peer (disk ∷ disks) h = (go (is_aside S r peer), logs_empty S r (peer + 1) disks (λ k. h (suc k)))
  where
    go : (b : Bool) → unwrap_or (if b then None else list_in disk.seen) [] ≡ []
    go true = refl
    go false = ap (λ (log : Option Numbered). unwrap_or log []) (h 0)

pub blank_may : (S : Script) (r : Ran) (image : ℕ → Image) → AreSoundAlong S.set (replicate S.set.shape.shards []) → ((peer : ℕ) → IsBlank (image peer)) → AreAtRest image r.old → MayStop S r
blank_may S r image sound blank rest =
    rest_may S r image rest
    (subst (λ (lists : List Numbered). AreSoundAlong S.set lists)
    (sym (each_empty S.set.shape.shards S.set.shape.copies (or_blank (entry_logs S r)) (logs_empty S r 0 r.old.disks (λ k.
    list-same (image k) (disk_at r.old.disks k).seen (rest.each k).seen ∙ blank_list (image k) (blank k))))) sound)

-- ---- what a stop left

logs_are : (S : Script) (r : Ran) (peer : ℕ) (disks : List Standing) (images : List Image) → length disks ≡ length images → ((p : ℕ) → p < peer + length disks → is_aside S r p ≡ false)
    → ((k : ℕ) (side : Side) → (disk_at disks k).seen side ≡ image_at images k side) → logs_from S r peer disks ≡ image_logs images
logs_are S r peer [] [] same none h = refl
logs_are S r peer [] (image ∷ images) same none h = absurd (omega (arith, same))
logs_are S r peer (disk ∷ disks) [] same none h = absurd (omega (arith, same))
logs_are S r peer (disk ∷ disks) (image ∷ images) same none h =
    ap (λ (b : Bool). (if b then None else list_in disk.seen) ∷ logs_from S r (peer + 1) disks) (none peer (omega arith))
    ∙ ap (λ (log : Option Numbered). log ∷ logs_from S r (peer + 1) disks) (list-same image disk.seen (λ side. h 0 side))
    ∙ ap (λ (logs : List (Option Numbered)). list_in image ∷ logs) (logs_are S r (peer + 1) disks images (omega (arith, same)) (λ p low. none p (omega (arith, low))) (λ k side. h (suc k) side))

pub stopped_sound : (S : Script) (r : Ran) (images : List Image) → AreSoundAlong S.set (taken_lists S.set.shape (image_logs images)) → ((k : ℕ) (side : Side) → (disk_at r.old.disks k).seen side ≡ image_at images k side)
    → length r.old.disks ≡ length images → ((peer : ℕ) → peer < length r.old.disks → is_aside S r peer ≡ false) → AreSoundAlong S.set (taken_lists S.set.shape (entry_logs S r))
stopped_sound S r images sound seen same none =
    subst (λ (logs : List (Option Numbered)). AreSoundAlong S.set (taken_lists S.set.shape logs)) (sym (logs_are S r 0 r.old.disks images same (λ p low. none p (omega (arith, low))) seen)) sound

pub stopped_may : (S : Script) (r : Ran) (images : List Image) → AreSoundAlong S.set (taken_lists S.set.shape (image_logs images)) → AreAtRest (λ peer. image_at images peer) r.old
    → length r.old.disks ≡ length images → ((peer : ℕ) → peer < length r.old.disks → is_aside S r peer ≡ false) → MayStop S r
stopped_may S r images sound rest same none =
    rest_may S r (λ peer. image_at images peer) rest (stopped_sound S r images sound (λ k side. (rest.each k).seen side) same none)

-- ---- what a stop left of one shard of one copy

pub one_low : (n : ℕ) → n ≡ 1 → 0 < n
one_low n e = omega (arith, e)

abbrev blank_lists : ℕ → List Numbered
blank_lists n = replicate n []

-- the list of its only peer is taken
one_taken : (S : Script) (logs : List (Option Numbered)) → S.set.shape.shards ≡ 1 → S.set.shape.copies ≡ 1 → taken_lists S.set.shape logs ≡ chosen (take 1 (or_blank logs)) ∷ []
one_taken S logs shards copies = ap (λ (n : ℕ). chosen_each n S.set.shape.copies (or_blank logs)) shards ∙ ap (λ (n : ℕ). chosen_each 1 n (or_blank logs)) copies

-- and it is that of its image, or blank where the peer is set aside
abbrev IsLeftOrBlank : Script → Ran → List Standing → List Image → Type 0
IsLeftOrBlank S r disks images =
    (take 1 (or_blank (logs_from S r 0 disks)) ≡ take 1 (or_blank (image_logs images))) ⊎ (take 1 (or_blank (logs_from S r 0 disks)) ≡ [] ∷ [])

first_is : (S : Script) (r : Ran) (disks : List Standing) (images : List Image) → length disks ≡ length images → ((k : ℕ) (side : Side) → (disk_at disks k).seen side ≡ image_at images k side)
    → IsLeftOrBlank S r disks images
first_is S r [] [] same h = inl refl
first_is S r [] (image ∷ images) same h = absurd (omega (arith, same))
first_is S r (disk ∷ disks) [] same h = absurd (omega (arith, same))
first_is S r (disk ∷ disks) (image ∷ images) same h = go (is_aside S r 0) refl
  where
    go : (b : Bool) → is_aside S r 0 ≡ b → IsLeftOrBlank S r (disk ∷ disks) (image ∷ images)
    go true e = inr (ap (λ (b : Bool). unwrap_or (if b then None else list_in disk.seen) [] ∷ []) e)
    go false e = inl
        (ap (λ (b : Bool). unwrap_or (if b then None else list_in disk.seen) [] ∷ []) e
        ∙ ap (λ (log : Option Numbered). unwrap_or log [] ∷ []) (list-same image disk.seen (λ side. h 0 side)))

pub alone_sound : (S : Script) (r : Ran) (images : List Image) → S.set.shape.shards ≡ 1 → S.set.shape.copies ≡ 1 → AreSoundAlong S.set (replicate S.set.shape.shards [])
    → AreSoundAlong S.set (taken_lists S.set.shape (image_logs images)) → ((k : ℕ) (side : Side) → (disk_at r.old.disks k).seen side ≡ image_at images k side) → length r.old.disks ≡ length images
    → AreSoundAlong S.set (taken_lists S.set.shape (entry_logs S r))
alone_sound S r images shards copies blank sound seen same = go (first_is S r r.old.disks images same seen)
  where
    taken : taken_lists S.set.shape (entry_logs S r) ≡ chosen (take 1 (or_blank (entry_logs S r))) ∷ []
    taken = one_taken S (entry_logs S r) shards copies

    go : IsLeftOrBlank S r r.old.disks images → AreSoundAlong S.set (taken_lists S.set.shape (entry_logs S r))
    go (inl left) =
        subst (λ (lists : List Numbered). AreSoundAlong S.set lists)
        (sym (taken ∙ ap (λ (lists : List Numbered). chosen lists ∷ []) left ∙ sym (one_taken S (image_logs images) shards copies))) sound
    go (inr empty) =
        subst (λ (lists : List Numbered). AreSoundAlong S.set lists)
        (sym
        (taken
        ∙ ap (λ (lists : List Numbered). chosen lists ∷ []) empty
        ∙ ap (λ (list : Numbered). list ∷ []) (chosen_empty ([] ∷ []) (refl, tt))
        ∙ sym (ap blank_lists shards))) blank

pub alone_may : (S : Script) (r : Ran) (images : List Image) → S.set.shape.shards ≡ 1 → S.set.shape.copies ≡ 1 → AreSoundAlong S.set (replicate S.set.shape.shards [])
    → AreSoundAlong S.set (taken_lists S.set.shape (image_logs images)) → AreAtRest (λ peer. image_at images peer) r.old → length r.old.disks ≡ length images → MayStop S r
alone_may S r images shards copies blank sound rest same =
    rest_may S r (λ peer. image_at images peer) rest (alone_sound S r images shards copies blank sound (λ k side. (rest.each k).seen side) same)
