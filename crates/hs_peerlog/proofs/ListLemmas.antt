-- Which list a side has before and after an entry is appended and sealed.
use Rattle.std.proofs.Common.{◌≡◌, ◌∙◌, inl, inr, ℕ, ◌+◌, ◌≤◌, false, List, [], ◌∷◌, ◌++◌, length, Option, Some, None, IsSome, IfSome, is_some, true, refl, ap, sym, subst, arith}
use Rattle.std.proofs.lemmas.List.{length-map, map-append}
use Rattle.hs_ports.specs.declared.disk.Side.{Side}
use Rattle.hs_ports.specs.Disk.{Standing, IsImage, settled}
use Rattle.hs_ports.specs.Moments.{EachMoment}
use Rattle.hs_ports.proofs.Images.{settled_only}
use Rattle.hs_entry.specs.declared.entry.Entry.{Entry}
use Rattle.hs_entry.specs.declared.rank.Rank.{Rank}
use Rattle.hs_entry.specs.Entries.{is_of_base, rank_after, rank_of}
use Rattle.hs_entry.proofs.RankLemmas.{rank_more}
use Rattle.hs_side.specs.Giving.{GivesSame, GivesEither}
use Rattle.hs_side.specs.Reading.{Frame, log_of, entry_of, listed, list_of, with_frame}
use Rattle.hs_side.specs.Standing.{SideState, opened}
use Rattle.hs_peerlog.specs.Images.{Is, IsOne, IsSole, LeavesEach, LeavesOnly}
use Rattle.hs_peerlog.specs.Lists.{HasList, IsNumbered, IsKept, KeepsSome, Keeping, last_of, with_waiting}
use Rattle.hs_peerlog.proofs.EntryLemmas.{more-numbered, last-length}
use Rattle.hs_peerlog.proofs.ImageLemmas.{Since, frame-generation, list-there, same-generation}
use Rattle.hs_peerlog.proofs.SoleLemmas.{Gives, one-sole, sole-after}

-- ---- the list of a side

-- a side with a list gives it
pub has-list : (places seen : List ℕ) (entries : List (ℕ × Entry)) → HasList places seen entries → list_of seen ≡ Some entries
has-list places seen entries h = ap (λ r. listed r) h.read ∙ ap (λ es. Some es) h.listed

pub more-list : (places seen later : List ℕ) (entries : List (ℕ × Entry)) (frame : Frame) → HasList places seen entries → log_of later ≡ with_frame frame (log_of seen) → HasList (places ++ frame.place ∷ []) later (entries ++ entry_of frame ∷ [])
more-list places seen later entries frame h e = record {
  log = record h.log { frames = h.log.frames ++ frame ∷ [] };
  read = e ∙ ap (λ r. with_frame frame r) h.read;
  listed = map-append entry_of h.log.frames (frame ∷ []) ∙ ap (λ es. es ++ entry_of frame ∷ []) h.listed;
  placed = ap (λ ps. ps ++ frame.place ∷ []) h.placed ∙ sym (map-append (λ (f : Frame). f.place) h.log.frames (frame ∷ []));
}

pub kept-list : (places seen later : List ℕ) (entries : List (ℕ × Entry)) → HasList places seen entries → log_of later ≡ log_of seen → HasList places later entries
kept-list places seen later entries h e = record { log = h.log; read = e ∙ h.read; listed = h.listed; placed = h.placed }

-- there is a place for each entry
pub list-places : (places seen : List ℕ) (entries : List (ℕ × Entry)) → HasList places seen entries → length places ≡ length entries
list-places places seen entries h =
    ap (λ (ps : List ℕ). length ps) h.placed ∙ length-map h.log.frames (λ (f : Frame). f.place)
    ∙ sym (length-map h.log.frames entry_of) ∙ ap (λ (es : List (ℕ × Entry)). length es) h.listed

-- ---- what is kept

-- where none waits, none is kept as waiting
pub none-waits : (keeping : Keeping) (seen : List ℕ) (s : KeepsSome keeping seen) → keeping.waits ≡ None → IsKept keeping seen s.list None
none-waits keeping seen s none = go s.waiting s.kept
  where
    go : (waiting : Option Entry) → IsKept keeping seen s.list waiting → IsKept keeping seen s.list None
    go None kept = kept
    go (Some entry) kept = absurd (cc (sym none ∙ kept.waits.rank))

-- and where one does, it is
pub record Waits (keeping : Keeping) (seen : List ℕ) (list : List (ℕ × Entry)) : Type 0 where
  pub entry : Entry
  pub kept : IsKept keeping seen list (Some entry)

pub some-waits : (keeping : Keeping) (seen : List ℕ) (s : KeepsSome keeping seen) → IsSome keeping.waits → Waits keeping seen s.list
some-waits keeping seen s some = go s.waiting s.kept
  where
    go : (waiting : Option Entry) → IsKept keeping seen s.list waiting → Waits keeping seen s.list
    go None kept = absurd (cc (subst (λ (o : Option Rank). IsSome o) kept.waits some))
    go (Some entry) kept = record { entry = entry; kept = kept }

-- an entry was appended
pub append-kept : (old new : Keeping) (seen later : List ℕ) (list : List (ℕ × Entry)) (number : ℕ) (entry : Entry) → IsKept old seen list None → is_of_base entry ≡ false → number ≡ old.rank.number + 1
    → new.log.places ≡ old.log.places → new.log.end ≡ old.log.end → new.rank ≡ old.rank → new.waits ≡ Some (rank_after old.rank number entry)
    → log_of later ≡ log_of seen → log_of (opened old.log.end later) ≡ with_frame (record { place = old.log.end; number = number; entry = entry }) (log_of seen) → IsKept new later list (Some entry)
append-kept old new seen later list number entry kept plain next places end rank waits same opens =
    let named : number ≡ last_of list + 1 = next ∙ ap (λ (r : Rank). r.number + 1) kept.rank in
    record {
      listed = subst (λ ps. HasList ps later list) (sym places) (kept-list old.log.places seen later list kept.listed same);
      numbered = kept.numbered;
      rank = rank ∙ kept.rank;
      waits = record {
        plain = plain;
        rank = waits ∙ ap (λ r. Some (rank_after r number entry)) (sym rank) ∙ ap (λ n. Some (rank_after new.rank n entry)) named;
        opens = ap (λ at. log_of (opened at later)) end ∙ opens
            ∙ ap (λ at. with_frame (record { place = at; number = number; entry = entry }) (log_of seen)) (sym end)
            ∙ ap (λ n. with_frame (record { place = new.log.end; number = n; entry = entry }) (log_of seen)) named
            ∙ ap (λ r. with_frame (record { place = new.log.end; number = last_of list + 1; entry = entry }) r) (sym same);
      };
    }

-- the entry that waited was sealed
pub seal-kept : (old new : Keeping) (seen later : List ℕ) (list : List (ℕ × Entry)) (entry : Entry) → IsKept old seen list (Some entry) → later ≡ opened old.log.end seen
    → new.log.places ≡ old.log.places ++ old.log.end ∷ [] → IfSome old.waits (λ rank. new.rank ≡ rank) → new.waits ≡ None → IsKept new later (with_waiting list entry) None
seal-kept old new seen later list entry kept is places ranked none =
    let more = more-list old.log.places seen (opened old.log.end seen) list (record { place = old.log.end; number = last_of list + 1; entry = entry }) kept.listed kept.waits.opens in
    record {
      listed = subst (λ bytes. HasList new.log.places bytes (with_waiting list entry)) (sym is) (subst (λ ps. HasList ps (opened old.log.end seen) (with_waiting list entry)) (sym places) more);
      numbered = subst (λ n. IsNumbered (list ++ (n, entry) ∷ [])) (omega (arith, last-length list kept.numbered)) (more-numbered 0 list entry kept.numbered kept.waits.plain);
      rank = rank-is old.waits kept.waits.rank ranked ∙ ap (λ r. rank_after r (last_of list + 1) entry) kept.rank ∙ sym (rank_more list (last_of list + 1) entry);
      waits = none;
    }
  where
    rank-is : (waits : Option Rank) → waits ≡ Some (rank_after old.rank (last_of list + 1) entry) → IfSome waits (λ rank. new.rank ≡ rank) → new.rank ≡ rank_after old.rank (last_of list + 1) entry
    rank-is None e given = absurd cc
    rank-is (Some r) e given = given ∙ some_is e
      where
        some_is : {x y : Rank} → Some x ≡ Some y → x ≡ y
        some_is e = cc e

-- an entry was appended to the log of a disk
pub appended : (old new : Keeping) (seen later : Side → List ℕ) (next number : ℕ) (list : List (ℕ × Entry)) (entry : Entry) → IsKept old (seen old.log.side) list None → is_of_base entry ≡ false → number ≡ old.rank.number + 1
    → new.log ≡ record old.log { waiting = Some next } → new.rank ≡ old.rank → new.waits ≡ Some (rank_after old.rank number entry)
    → GivesSame (seen old.log.side) (later old.log.side)
    → log_of (opened old.log.end (later old.log.side)) ≡ with_frame (record { place = old.log.end; number = number; entry = entry }) (log_of (seen old.log.side)) → IsKept new (later new.log.side) list (Some entry)
appended old new seen later next number list entry kept plain named value rank waits same opens =
    subst (λ s. IsKept new (later s) list (Some entry)) (sym (ap (λ (k : SideState). k.side) value))
    (append-kept old new (seen old.log.side) (later old.log.side) list number entry kept plain named (ap (λ (k : SideState). k.places) value) (ap (λ (k : SideState). k.end) value) rank waits same.same opens)

-- the value of a side's log whose frame was sealed
pub record IsSealed (old new : SideState) : Type 0 where
  pub side : new.side ≡ old.side
  pub head : new.head ≡ old.head
  pub places : new.places ≡ old.places ++ old.end ∷ []
  pub rests : new.waiting ≡ None

pub sealed-is : (old new : SideState) → is_some old.waiting ≡ true → IfSome old.waiting (λ next. new ≡ record old { places = old.places ++ old.end ∷ []; end = next; waiting = None }) → IsSealed old new
sealed-is old new some value = go old.waiting some value
  where
    go : (waiting : Option ℕ) → is_some waiting ≡ true → IfSome waiting (λ next. new ≡ record old { places = old.places ++ old.end ∷ []; end = next; waiting = None }) → IsSealed old new
    go None some value = absurd cc
    go (Some next) some value = record { side = ap (λ (k : SideState). k.side) value; head = ap (λ (k : SideState). k.head) value; places = ap (λ (k : SideState). k.places) value; rests = ap (λ (k : SideState). k.waiting) value }

-- the entry that waited was sealed on the disk
pub sealed : (old new : Keeping) (seen later : Side → List ℕ) (list : List (ℕ × Entry)) (entry : Entry) → IsKept old (seen old.log.side) list (Some entry) → IsSealed old.log new.log → later old.log.side ≡ opened old.log.end (seen old.log.side)
    → old.waits ≡ Some new.rank → new.waits ≡ None → IsKept new (later new.log.side) (with_waiting list entry) None
sealed old new seen later list entry kept is written rank none =
    subst (λ s. IsKept new (later s) (with_waiting list entry) None) (sym is.side)
    (seal-kept old new (seen old.log.side) (later old.log.side) list entry kept written is.places (subst (λ (o : Option Rank). IfSome o (λ r. new.rank ≡ r)) (sym rank) refl) none)

-- ---- what is left

same-gives : (places seen content : List ℕ) (list : List (ℕ × Entry)) (Q : List (ℕ × Entry) → Type 0) → HasList places seen list → Q list → log_of content ≡ log_of seen → Gives seen Q content
same-gives places seen content list Q h q same = record {
  list = list;
  read = ap (λ r. listed r) same ∙ has-list places seen list h;
  holds = q;
  same = same-generation seen content h.log h.read same;
}

more-gives : (places seen content : List ℕ) (list : List (ℕ × Entry)) (frame : Frame) (Q : List (ℕ × Entry) → Type 0) → HasList places seen list → Q (list ++ entry_of frame ∷ []) → log_of content ≡ with_frame frame (log_of seen) → Gives seen Q content
more-gives places seen content list frame Q h q same = record {
  list = list ++ entry_of frame ∷ [];
  read = has-list (places ++ frame.place ∷ []) content (list ++ entry_of frame ∷ []) (more-list places seen content list frame h same);
  holds = q;
  same = frame-generation seen content h.log frame h.read same;
}

module _ {before now : ℕ} {side : Side} {old new : Standing} (places : List ℕ) (list : List (ℕ × Entry)) (has : HasList places (old.seen side) list) (last : old.last ≤ before) (since : Since old) (sole : IsSole side old) (seen : IsImage (old.loose side) (old.seen side)) where
  -- while an entry is appended
  module _ (run : EachMoment before now side old new (GivesSame (old.seen side))) where
    pub append-leaves : LeavesEach before now old new (Is list)
    append-leaves = one-sole side old sole seen (Is list) run last since (λ content g. same-gives places (old.seen side) content list (Is list) has refl g.same)

    pub append-sole : IsSole side new
    append-sole = sole-after side old sole seen (Is list) run last since (λ content g. same-gives places (old.seen side) content list (Is list) has refl g.same)

    pub append-only : LeavesOnly new list
    append-only image left = let g = append-leaves.standing image left in g.read ∙ ap (λ es. Some es) g.holds

  -- while it is sealed
  module _ (end : ℕ) (frame : Frame) (opens : log_of (opened end (old.seen side)) ≡ with_frame frame (log_of (old.seen side))) (run : EachMoment before now side old new (GivesEither (old.seen side) (opened end (old.seen side)))) where
    abbrev more : List (ℕ × Entry)
    more = list ++ entry_of frame ∷ []

    given : (content : List ℕ) → GivesEither (old.seen side) (opened end (old.seen side)) content → Gives (old.seen side) (IsOne list more) content
    given content g = elim g.one [
      | inl e ↦ same-gives places (old.seen side) content list (IsOne list more) has (inl refl) e
      | inr e ↦ more-gives places (old.seen side) content list frame (IsOne list more) has (inr refl) (e ∙ opens)
    ]

    pub seal-leaves : LeavesEach before now old new (IsOne list more)
    seal-leaves = one-sole side old sole seen (IsOne list more) run last since given

    pub seal-sole : IsSole side new
    seal-sole = sole-after side old sole seen (IsOne list more) run last since given

    pub seal-only : new.loose side ≡ settled (opened end (old.seen side)) → LeavesOnly new more
    seal-only loose image left =
        let here : image side ≡ opened end (old.seen side) = settled_only (opened end (old.seen side)) (image side) (subst (λ l. IsImage l (image side)) loose (left.sides side)) in
        list-there side image (opened end (old.seen side)) here (seal-sole image left)
        ∙ has-list (places ++ frame.place ∷ []) (opened end (old.seen side)) more (more-list places (old.seen side) (opened end (old.seen side)) list frame has opens)

-- a log that is empty
pub empty-kept : (keeping : Keeping) (seen : List ℕ) → HasList keeping.log.places seen [] → keeping.rank ≡ record { view = 0; number = 0 } → keeping.waits ≡ None → IsKept keeping seen [] None
unfolding rank_of
empty-kept keeping seen has rank waits = record { listed = has; numbered = tt; rank = rank; waits = waits }
