-- What a crash leaves while a log is emptied: one side is closed after the other, and an empty log is written.
use Rattle.std.proofs.Common.{◌≡◌, ◌∙◌, ◌⊎◌, inl, inr, ℕ, ◌^◌, ◌<◌, ◌≤◌, Bool, true, false, List, [], Option, Some, None, Result, Ok, Err, OnOk, refl, ap, sym, subst}
use Rattle.hs_ports.specs.declared.disk.Side.{Side}
use Rattle.hs_ports.specs.declared.disk.Side.TheVariants.{Zero, One}
use Rattle.hs_ports.specs.Disk.{Standing, IsImage, Untouched, other_side, settled}
use Rattle.hs_ports.specs.Moments.{EachMoment}
use Rattle.hs_ports.proofs.Images.{settled_only}
use Rattle.hs_entry.specs.declared.entry.Entry.{Entry}
use Rattle.hs_side.specs.declared.header.Header.{Header}
use Rattle.hs_side.specs.Current.{current, generation_in, later_side, list_in}
use Rattle.hs_side.specs.Giving.{GivesEmpty, IsBlankEverywhere}
use Rattle.hs_side.specs.Reading.{is_blank, list_of, listed, log_of}
use Rattle.hs_side.specs.Spelling.{spelled}
use Rattle.hs_side.proofs.BlankLemmas.{blank_log, empty_log}
use Rattle.hs_peerlog.specs.Heads.{IsBlankOrOf, KeepsHeader, LeavesHeader}
use Rattle.hs_peerlog.specs.Images.{GivesClosed, IsAlone, IsOne, IsSole, IsStanding, LeavesAll, LeavesEach, LeavesOnly}
use Rattle.hs_peerlog.specs.Lists.{HasList, IsBlankBeside}
use Rattle.hs_peerlog.specs.Steps.{CouldShow, CouldShowOrBlank, ShowsEach, current_bytes}
use Rattle.hs_peerlog.proofs.CloseLemmas.{settled_blank}
use Rattle.hs_peerlog.proofs.HeaderLemmas.{blank-headed, empty-headed}
use Rattle.hs_peerlog.proofs.ImageLemmas.{Since, log-generation, two-sides}
use Rattle.hs_peerlog.proofs.ShownLemmas.{Lists, all-shown, image-header, one-shown, shown-header, shown-lists, then-shown, weaker-shown}
use Rattle.hs_peerlog.proofs.SoleLemmas.{beside, beside-here, beside-there}

pub twice : (s : Side) → other_side (other_side s) ≡ s
twice Zero = refl
twice One = refl

-- ---- blank sides

pub blank-generation : (content : List ℕ) → is_blank content ≡ true → generation_in content ≡ None
blank-generation content blank = rw blank refl

blank-list : (content : List ℕ) → is_blank content ≡ true → list_of content ≡ Some []
blank-list content blank = ap (λ r. listed r) (blank_log content blank)

-- a side with a list is not blank
pub has-full : (places seen : List ℕ) (list : List (ℕ × Entry)) → HasList places seen list → is_blank seen ≡ false
has-full places seen list h = go (is_blank seen) refl
  where
    go : (b : Bool) → is_blank seen ≡ b → b ≡ false
    go false e = refl
    go true e = absurd (cc (sym (blank_log seen e) ∙ h.read))

-- both sides give the empty list, and so does the disk
pub both-empty : (side : Side) (image : Side → List ℕ) → list_of (image side) ≡ Some [] → list_of (image (other_side side)) ≡ Some [] → list_in image ≡ Some []
both-empty side image here there = elim (two-sides side (current image)) [
  | inl e ↦ ap (λ s. list_of (image s)) (sym e) ∙ here
  | inr e ↦ ap (λ s. list_of (image s)) (sym e) ∙ there
]

zero-first : (g : Option ℕ) → later_side g None ≡ Zero
zero-first None = refl
zero-first (Some n) = refl

-- beside a blank side the side that was current stays so
pub beside-blank : (side : Side) (seen image : Side → List ℕ) → current seen ≡ side → generation_in (image side) ≡ generation_in (seen side) → generation_in (image (other_side side)) ≡ None → current image ≡ side
beside-blank Zero seen image is same none = ap (λ g. later_side (generation_in (image Zero)) g) none ∙ zero-first (generation_in (image Zero))
beside-blank One seen image is same none = go (generation_in (seen One)) refl
  where
    go : (g : Option ℕ) → generation_in (seen One) ≡ g → current image ≡ One
    go (Some n) e = ap (λ g. later_side g (generation_in (image One))) none ∙ ap (λ g. later_side None g) (same ∙ e)
    go None e = absurd (cc (sym (ap (λ g. later_side (generation_in (seen Zero)) g) e ∙ zero-first (generation_in (seen Zero))) ∙ is))

-- ---- the other side is closed

module _ (side : Side) {a : Standing} (sole : IsSole side a) (stays : (s : Side) → IsImage (a.loose s) (a.seen s)) where
  -- this content of the side in use, beside what is read of the other
  mixed-left : (content : List ℕ) → IsImage (a.loose side) content → IsStanding a (beside side content (a.seen (other_side side)))
  mixed-left content left = record {
    sides = λ s. elim (two-sides side s) [
      | inl e ↦ subst (λ x. IsImage (a.loose x) (beside side content (a.seen (other_side side)) x)) e (subst (λ c. IsImage (a.loose side) c) (sym (beside-here side content (a.seen (other_side side)))) left)
      | inr e ↦ subst (λ x. IsImage (a.loose x) (beside side content (a.seen (other_side side)) x)) e (subst (λ c. IsImage (a.loose (other_side side)) c) (sym (beside-there side content (a.seen (other_side side)))) (stays (other_side side)))
    ];
  }

  -- each content of the side in use is shown by an image
  side-shown : (content : List ℕ) → IsImage (a.loose side) content → CouldShow a content
  side-shown content left =
      let mixed : Side → List ℕ = beside side content (a.seen (other_side side)) in
      let stands = mixed-left content left in
      record { image = mixed; stands = stands; same = ap (λ s. mixed s) (sole mixed stands) ∙ beside-here side content (a.seen (other_side side)) }

  -- and is current beside a blank side
  side-current : (image : Side → List ℕ) → IsImage (a.loose side) (image side) → is_blank (image (other_side side)) ≡ true → current image ≡ side
  side-current image left blank =
      let mixed : Side → List ℕ = beside side (image side) (a.seen (other_side side)) in
      beside-blank side mixed image (sole mixed (mixed-left (image side) left)) (ap (λ b. generation_in b) (sym (beside-here side (image side) (a.seen (other_side side))))) (blank-generation (image (other_side side)) blank)

  closed-shows : (image : Side → List ℕ) → GivesClosed (a.loose (other_side side)) (image (other_side side)) → IsImage (a.loose side) (image side) → CouldShow a (current_bytes image)
  closed-shows image g left = elim g.one [
    | inl blank ↦ subst (λ (s : Side). CouldShow a (image s)) (sym (side-current image left blank)) (side-shown (image side) left)
    | inr there ↦ record { image = image; stands = record { sides = λ s. elim (two-sides side s) [ inl e ↦ subst (λ x. IsImage (a.loose x) (image x)) e left | inr e ↦ subst (λ x. IsImage (a.loose x) (image x)) e there ] }; same = refl }
  ]

  pub other-closed : {before now : ℕ} {b : Standing} → EachMoment before now (other_side side) a b (GivesClosed (a.loose (other_side side))) → a.last ≤ before → Since a → ShowsEach before now a b (CouldShow a)
  other-closed {before} {now} {b} run last since = one-shown run last since (λ image g left. closed-shows image g (subst (λ s. IsImage (a.loose s) (image s)) (twice side) left))

-- then it is blank, whatever a crash leaves
pub closed-beside : (side : Side) (a b : Standing) → IsBlankBeside side a → (is_blank (a.seen (other_side side)) ≡ true → b ≡ a) → (is_blank (a.seen (other_side side)) ≡ false → IsBlankEverywhere (b.loose (other_side side))) → IsBlankEverywhere (b.loose (other_side side))
closed-beside side a b beside left closed = go (is_blank (a.seen (other_side side))) refl
  where
    go : (full : Bool) → is_blank (a.seen (other_side side)) ≡ full → IsBlankEverywhere (b.loose (other_side side))
    go true e = subst (λ (d : Standing). IsBlankEverywhere (d.loose (other_side side))) (sym (left e)) (beside e)
    go false e = closed e

-- ---- the side in use is closed, beside a blank one

-- what an image shows beside a blank side is its own, or blank
shows-one : (P : List ℕ → Type 0) (side : Side) (image : Side → List ℕ) → P (image side) → P (image (other_side side)) → P (current_bytes image)
shows-one P side image here there = elim (two-sides side (current image)) [
  | inl e ↦ subst (λ (s : Side). P (image s)) e here
  | inr e ↦ subst (λ (s : Side). P (image s)) e there
]

pub side-closed : {before now : ℕ} (side : Side) {b c : Standing} → IsBlankEverywhere (b.loose (other_side side)) → EachMoment before now side b c (GivesClosed (b.loose side)) → b.last ≤ before → Since b → ShowsEach before now b c (CouldShowOrBlank b)
side-closed {before} {now} side {b} {c} gone run last since = one-shown run last since given
  where
    given : (image : Side → List ℕ) → GivesClosed (b.loose side) (image side) → IsImage (b.loose (other_side side)) (image (other_side side)) → CouldShowOrBlank b (current_bytes image)
    given image g there = elim g.one [
      | inl blank ↦ shows-one (λ bytes. CouldShowOrBlank b bytes) side image (record { one = inr blank }) (record { one = inr (gone (image (other_side side)) there) })
      | inr left ↦ record {
        one = inl (record { image = image; stands = record { sides = λ s. elim (two-sides side s) [ inl e ↦ subst (λ x. IsImage (b.loose x) (image x)) e left | inr e ↦ subst (λ x. IsImage (b.loose x) (image x)) e there ] }; same = refl });
      }
    ]

-- ---- an empty log is written, beside a blank side

blank-empty : (header : Header) (generation : ℕ) (content : List ℕ) → is_blank content ≡ true → GivesEmpty header generation content
blank-empty header generation content blank = record { one = inl (blank_log content blank) }

pub side-empty : {before now : ℕ} (side : Side) {c d : Standing} (header : Header) (generation : ℕ) → IsBlankEverywhere (c.loose (other_side side)) → EachMoment before now side c d (GivesEmpty header generation) → c.last ≤ before → Since c
    → ShowsEach before now c d (GivesEmpty header generation)
side-empty side {c} {d} header generation gone run last since =
    one-shown run last since (λ image g there. shows-one (λ bytes. GivesEmpty header generation bytes) side image g (blank-empty header generation (image (other_side side)) (gone (image (other_side side)) there)))

module _ (side : Side) (d : Standing) (header : Header) (generation : ℕ) (fits : generation < 2 ^ 64) (gone : IsBlankEverywhere (d.loose (other_side side))) (loose : d.loose side ≡ settled (spelled 165 header generation [] 0 [])) where
  here-is : (image : Side → List ℕ) → IsStanding d image → image side ≡ spelled 165 header generation [] 0 []
  here-is image left = settled_only (spelled 165 header generation [] 0 []) (image side) (subst (λ l. IsImage l (image side)) loose (left.sides side))

  read-is : (image : Side → List ℕ) → IsStanding d image → log_of (image side) ≡ Ok (Some (record { header = header; generation = generation; frames = [] }))
  read-is image left = ap (λ b. log_of b) (here-is image left) ∙ empty_log header generation fits

  pub empty-sole : IsSole side d
  empty-sole image left = only side image generation (log-generation (image side) _ (read-is image left)) (blank-generation (image (other_side side)) (gone (image (other_side side)) (left.sides (other_side side))))
    where
      only : (s : Side) (image : Side → List ℕ) (n : ℕ) → generation_in (image s) ≡ Some n → generation_in (image (other_side s)) ≡ None → current image ≡ s
      only Zero image n some none = ap (λ g. later_side (generation_in (image Zero)) g) none ∙ zero-first (generation_in (image Zero))
      only One image n some none = ap (λ g. later_side g (generation_in (image One))) none ∙ ap (λ g. later_side None g) some

  pub empty-leaves : LeavesOnly d []
  empty-leaves image left = both-empty side image (ap (λ r. listed r) (read-is image left)) (blank-list (image (other_side side)) (gone (image (other_side side)) (left.sides (other_side side))))

pub gone-if : {T E : Type 0} (result : Result T E) (side : Side) (a b : Standing) → IsBlankBeside side a → (is_blank (a.seen (other_side side)) ≡ true → b ≡ a) → (is_blank (a.seen (other_side side)) ≡ false → OnOk result (IsBlankEverywhere (b.loose (other_side side)))) → OnOk result (IsBlankEverywhere (b.loose (other_side side)))
gone-if (Ok x) side a b beside left closed = closed-beside side a b beside left closed
gone-if (Err fault) side a b beside left closed = tt

pub gone-stays : (side : Side) (a b : Standing) → Untouched (other_side side) a b → IsBlankEverywhere (a.loose (other_side side)) → IsBlankEverywhere (b.loose (other_side side))
gone-stays side a b other gone = subst (λ l. IsBlankEverywhere l) (sym other.loose) gone

-- ---- a log is emptied

-- what a crash leaves of the disk then
pub record IsEmptied (disk : Standing) (header : Header) (generation : ℕ) (bytes : List ℕ) : Type 0 where
  pub one : CouldShow disk bytes ⊎ GivesEmpty header generation bytes

module _ (disk : Standing) (header : Header) (generation : ℕ) where
  shown-emptied : (bytes : List ℕ) → CouldShow disk bytes → IsEmptied disk header generation bytes
  shown-emptied bytes s = record { one = inl s }

  -- of what the disk shows behind calls that left it so
  closed-emptied : {before now : ℕ} {mid : Standing} → ShowsEach before now disk mid (CouldShow disk) → (bytes : List ℕ) → CouldShowOrBlank mid bytes → IsEmptied disk header generation bytes
  closed-emptied {before} {now} {mid} run bytes s = elim s.one [
    | inl there ↦ record { one = inl (subst (λ b. CouldShow disk b) there.same (run.standing there.image there.stands)) }
    | inr blank ↦ record { one = inr (blank-empty header generation bytes blank) }
  ]

  -- the other side is closed, and then the side in use, and then an empty log is written
  pub one-emptied : {first second : ℕ} {b : Standing} → ShowsEach first second disk b (CouldShow disk) → ShowsEach first second disk b (IsEmptied disk header generation)
  one-emptied one = weaker-shown one shown-emptied

  pub two-emptied : {first second third : ℕ} {b c : Standing} → ShowsEach first second disk b (CouldShow disk) → ShowsEach second third b c (CouldShowOrBlank b) → ShowsEach first third disk c (IsEmptied disk header generation)
  two-emptied one two = then-shown two one shown-emptied (closed-emptied one)

  pub all-emptied : {first second third last : ℕ} {b c d : Standing} → ShowsEach first second disk b (CouldShow disk) → ShowsEach second third b c (CouldShowOrBlank b) → ShowsEach third last c d (GivesEmpty header generation)
      → ShowsEach first last disk d (IsEmptied disk header generation)
  all-emptied one two three = then-shown three (two-emptied one two) (λ bytes s. s) (λ bytes g. record { one = inr g })

  module _ {before now : ℕ} {new : Standing} (run : ShowsEach before now disk new (IsEmptied disk header generation)) where
    -- it has the list that it had, or the empty one
    pub emptied-lists : (list : List (ℕ × Entry)) → LeavesOnly disk list → LeavesEach before now disk new (IsOne list [])
    emptied-lists list leaves = shown-lists (weaker-shown run given)
      where
        given : (bytes : List ℕ) → IsEmptied disk header generation bytes → Lists (IsOne list []) bytes
        given bytes s = elim s.one [
          | inl there ↦ record { list = list; read = ap (λ b. list_of b) (sym there.same) ∙ leaves there.image there.stands; holds = inl refl }
          | inr g ↦ record { list = []; read = elim g.one [ inl e ↦ ap (λ r. listed r) e | inr e ↦ ap (λ r. listed r) e ]; holds = inr refl }
        ]

    -- and its header
    pub emptied-header : LeavesHeader disk header → KeepsHeader before new header
    emptied-header leaves = shown-header (weaker-shown run (λ bytes s. elim s.one [ inl there ↦ image-header disk leaves bytes there | inr g ↦ empty-headed header generation bytes g ]))

-- ---- both sides are closed, whatever they had

-- a disk that was put on the medium: its other side is closed, and then the current one
pub read-headed : {before now : ℕ} {a b : Standing} (header : Header) → LeavesHeader a header → LeavesAll before now a b → ShowsEach before now a b (IsBlankOrOf header)
read-headed {a = a} header leaves one = weaker-shown (all-shown one) (λ bytes s. image-header a leaves bytes s)

pub other-headed : {before first now : ℕ} {a b c : Standing} (header : Header) → LeavesHeader a header → LeavesAll before first a b → ShowsEach first now b c (CouldShow b) → ShowsEach before now a c (IsBlankOrOf header)
other-headed {b = b} header leaves one two =
    let so_far = read-headed header leaves one in
    then-shown two so_far (λ bytes h. h) (λ bytes s. image-header b so_far.standing bytes s)

pub own-headed : {before first second now : ℕ} {a b c d : Standing} (header : Header) → LeavesHeader a header → LeavesAll before first a b → ShowsEach first second b c (CouldShow b) → ShowsEach second now c d (CouldShowOrBlank c) → ShowsEach before now a d (IsBlankOrOf header)
own-headed {c = c} header leaves one two three =
    let so_far = other-headed header leaves one two in
    then-shown three so_far (λ bytes h. h) (λ bytes s. elim s.one [ inl there ↦ image-header c so_far.standing bytes there | inr blank ↦ blank-headed header bytes blank ])

-- a disk at rest, before and behind a call of its other side: what reads as blank is blank, whatever a crash leaves
pub alone-beside : (side : Side) (disk : Standing) → IsAlone side disk → IsBlankBeside side disk
alone-beside side disk alone blank = settled_blank (disk.loose (other_side side)) (disk.seen (other_side side)) (alone.settled (other_side side)) blank

pub own-beside : (side : Side) (a b : Standing) → IsAlone side a → Untouched side a b → IsBlankBeside (other_side side) b
own-beside side a b alone other =
    subst (λ s. is_blank (b.seen s) ≡ true → IsBlankEverywhere (b.loose s)) (sym (twice side))
    (λ blank. settled_blank (b.loose side) (b.seen side) (other.loose ∙ alone.settled side ∙ ap (λ x. settled x) (sym other.seen)) blank)
