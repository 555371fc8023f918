-- Opening leaves all as it is.
use Rattle.std.proofs.Common.{◌≡◌, ◌∙◌, ◌⊎◌, inl, inr, true, ℕ, ◌<◌, ◌≤◌, List, [], map, Option, Some, None, Ok, IsSome, refl, ap, sym, subst, arith}
use Rattle.hs_limits.specs.declared.shape.Shape.{Shape}
use Rattle.hs_ports.specs.declared.disk.Side.{Side}
use Rattle.hs_ports.specs.declared.disk.Side.TheVariants.{Zero, One}
use Rattle.hs_ports.specs.Disk.{Standing, IsImage, Untouched, other_side, settled}
use Rattle.hs_ports.specs.Moments.{EachMoment}
use Rattle.hs_entry.specs.declared.entry.Entry.{Entry}
use Rattle.hs_entry.specs.declared.rank.Rank.{Rank}
use Rattle.hs_entry.specs.Entries.{rank_of}
use Rattle.hs_side.specs.Current.{current, generation_in, header_in, later_side, list_in}
use Rattle.hs_side.specs.Opening.{Shows}
use Rattle.hs_side.specs.Reading.{Log, is_blank, log_of, entry_of, entries_of, listed}
use Rattle.hs_side.specs.Standing.{SideState}
use Rattle.hs_peerlog.specs.Images.{IsAlone, LeavesAll}
use Rattle.hs_peerlog.specs.Opening.{HasOpened, IsOpened, refused_head, refused_log, refusal_in}
use Rattle.hs_peerlog.proofs.ImageLemmas.{Since, two-sides, current-same}
use Rattle.hs_peerlog.proofs.NumberedLemmas.{log-blank, log-numbered}

-- nothing was called
pub no-call : {now : ℕ} {disk : Standing} → disk.last ≤ now → Since disk → LeavesAll now now disk disk
no-call last since = record {
  later = omega arith;
  last = last;
  earlier = λ side m low fits. refl;
  each = λ side m high fits c image. rw (since side m (omega arith)) at image;
  standing = λ side c image. image;
}

-- one call on one side
pub one-call : {before now : ℕ} {side : Side} {old new : Standing} → old.last ≤ before → Since old → EachMoment before now side old new (IsImage (old.loose side)) → LeavesAll before now old new
one-call {before} {now} {side} {old} {new} last since each = record {
  later = each.later;
  last = each.last;
  earlier = λ s m low fits. elim (two-sides side s) [ inl e ↦ subst (λ x. new.past m x ≡ old.past m x) e (each.earlier m low fits) | inr e ↦ subst (λ x. new.past m x ≡ old.past m x) e (each.other.past m) ];
  each = λ s m high fits c image. elim (two-sides side s) [
    | inl e ↦ subst (λ x. IsImage (new.past m x) c → IsImage (old.loose x) c) e (each.each m high fits c) image
    | inr e ↦ subst (λ x. IsImage (new.past m x) c → IsImage (old.loose x) c) e (λ i. subst (λ l. IsImage l c) (each.other.past m ∙ since (other_side side) m (omega arith)) i) image
  ];
  standing = λ s c image. elim (two-sides side s) [
    | inl e ↦ subst (λ x. IsImage (new.loose x) c → IsImage (old.loose x) c) e (each.standing c) image
    | inr e ↦ subst (λ x. IsImage (new.loose x) c → IsImage (old.loose x) c) e (λ i. subst (λ l. IsImage l c) each.other.loose i) image
  ];
}

-- some calls, and then some
pub then-calls : {first middle last : ℕ} {a b c : Standing} → LeavesAll middle last b c → LeavesAll first middle a b → LeavesAll first last a c
then-calls {first} {middle} {last} {a} {b} {c} two one = record {
  later = omega (arith, one.later, two.later);
  last = two.last;
  earlier = λ side m low fits. two.earlier side m (omega (arith, low, one.later)) fits ∙ one.earlier side m low fits;
  each = λ side m high fits content image. elim (ordered m middle) [
    | inl low ↦ one.each side m high fits content (subst (λ l. IsImage l content) (two.earlier side m low fits) image)
    | inr up ↦ one.standing side content (two.each side m up fits content image)
  ];
  standing = λ side content image. one.standing side content (two.standing side content image);
}
  where
    ordered : (m n : ℕ) → (m ≤ n) ⊎ (n < m)
    ordered m n = grind arith

-- the calls of opening: those on both sides, one that is none, and that on the current side
pub open-calls : {first middle last : ℕ} {side : Side} {a b c d e : Standing} → LeavesAll first middle a b → c ≡ b → Since c → (c.last ≤ middle → EachMoment middle last side c d (IsImage (c.loose side))) → e ≡ d → LeavesAll first last a e
open-calls {first} {middle} {last} {side} {a} {b} {c} {d} {e} one same since two after =
    let here : c.last ≤ middle = subst (λ (x : Standing). x.last ≤ middle) (sym same) one.last in
    subst (λ x. LeavesAll first last a x) (sym after) (then-calls (one-call here since (two here)) (subst (λ x. LeavesAll first middle a x) (sym same) one))

-- what reads give of both sides stays
pub open-seen : (side : Side) (a b c d e : Standing) → ((s : Side) → b.seen s ≡ a.seen s) → c ≡ b → d.seen side ≡ c.seen side → Untouched (other_side side) c d → e ≡ d → (s : Side) → e.seen s ≡ a.seen s
open-seen side a b c d e one same here other after s =
    ap (λ (x : Standing). x.seen s) after
    ∙ elim (two-sides side s) [ inl is ↦ subst (λ x. d.seen x ≡ c.seen x) is here | inr is ↦ subst (λ x. d.seen x ≡ c.seen x) is other.seen ]
    ∙ ap (λ (x : Standing). x.seen s) same
    ∙ one s

-- both sides were put on the medium, one after the other
pub both-settled : (a b c : Standing) → b.loose Zero ≡ settled (a.seen Zero) → Untouched One a b → c.loose One ≡ settled (b.seen One) → Untouched Zero b c → (s : Side) → c.loose s ≡ settled (a.seen s)
both-settled a b c zero first one second Zero = second.loose ∙ zero
both-settled a b c zero first one second One = one ∙ ap (λ bytes. settled bytes) first.seen

-- and they still are behind the calls on the current side
pub open-settled : (side : Side) (a b c d e : Standing) → ((s : Side) → b.loose s ≡ settled (a.seen s)) → ((s : Side) → b.seen s ≡ a.seen s) → c ≡ b → d.loose side ≡ settled (c.seen side) → Untouched (other_side side) c d → e ≡ d → (s : Side) → e.loose s ≡ settled (a.seen s)
open-settled side a b c d e rests one same here other after s =
    ap (λ (x : Standing). x.loose s) after
    ∙ elim (two-sides side s) [
      | inl is ↦ subst (λ x. d.loose x ≡ settled (a.seen x)) is (here ∙ ap (λ bytes. settled bytes) (ap (λ (x : Standing). x.seen side) same ∙ one side))
      | inr is ↦ subst (λ x. d.loose x ≡ settled (a.seen x)) is (other.loose ∙ ap (λ (x : Standing). x.loose (other_side side)) same ∙ rests (other_side side))
    ]

-- so the disk is at rest, with the side that was read the current one
pub open-alone : (side : Side) (a e : Standing) → ((s : Side) → e.loose s ≡ settled (a.seen s)) → ((s : Side) → e.seen s ≡ a.seen s) → side ≡ current a.seen → IsAlone side e
open-alone side a e rests same is = record {
  current = current-same a.seen e.seen same ∙ sym is;
  settled = λ s. rests s ∙ ap (λ bytes. settled bytes) (sym (same s));
}

-- a current side that is blank is side zero
zero-side : (seen : Side → List ℕ) → is_blank (seen (current seen)) ≡ true → current seen ≡ Zero
zero-side seen blank = go (current seen) refl blank
  where
    none : is_blank (seen One) ≡ true → generation_in (seen One) ≡ None
    none b = rw b refl

    first : (g : Option ℕ) → later_side g None ≡ Zero
    first None = refl
    first (Some n) = refl

    go : (s : Side) → current seen ≡ s → is_blank (seen s) ≡ true → current seen ≡ Zero
    go Zero e b = e
    go One e b = ap (λ g. later_side (generation_in (seen Zero)) g) (none b) ∙ first (generation_in (seen Zero))

-- a disk of this peer is not refused
pub refusal-is : (shape : Shape) (peer : ℕ) (seen : Side → List ℕ) (content : Option Log) → refused_head shape peer (header_in (seen (current seen))) ≡ None → log_of (seen (current seen)) ≡ Ok content → refusal_in shape peer seen ≡ None
refusal-is shape peer seen content head read = ap (λ h. refused_log h (log_of (seen (current seen)))) head ∙ ap (λ r. refused_log None r) read

-- ---- what is open

pub open-value : (seen : Side → List ℕ) (log : SideState) (rank : Rank) (content : Option Log) → log_of (seen (current seen)) ≡ Ok content → Shows log content → rank ≡ rank_of (entries_of content) → log.side ≡ current seen → IsOpened log rank seen
open-value seen log rank None read shows ranked side = record {
  list = [];
  listed = ap (λ r. listed r) read;
  numbered = tt;
  rank_is = ranked;
  side = side;
  opened = record { begun = λ some. cc (subst (λ h. IsSome h) shows.head some); blank = λ none. refl };
  zero = λ none. side ∙ zero-side seen (log-blank (seen (current seen)) read);
}
open-value seen log rank (Some found) read shows ranked side = record {
  list = map entry_of found.frames;
  listed = ap (λ r. listed r) read;
  numbered = log-numbered (seen (current seen)) found read;
  rank_is = ranked;
  side = side;
  opened = record {
    begun = λ some. record { log = found; read = read; listed = refl; placed = shows.places };
    blank = λ none. cc (sym none ∙ shows.head);
  };
  zero = λ none. cc (sym none ∙ shows.head);
}

-- what was opened, in the words of the disk afterwards
pub opened-here : (log : SideState) (rank : Rank) (a e : Standing) (value : IsOpened log rank a.seen) → ((s : Side) → e.seen s ≡ a.seen s) → HasOpened log (e.seen log.side) value.list
opened-here log rank a e value same = subst (λ b. HasOpened log b value.list) (sym (same log.side ∙ ap (λ s. a.seen s) value.side)) value.opened

pub one-list : (log : SideState) (rank : Rank) (seen : Side → List ℕ) (value : IsOpened log rank seen) (list : List (ℕ × Entry)) → list_in seen ≡ Some list → value.list ≡ list
one-list log rank seen value list listed = some_is (sym value.listed ∙ listed)
  where
    some_is : {x y : List (ℕ × Entry)} → Some x ≡ Some y → x ≡ y
    some_is e = cc e
