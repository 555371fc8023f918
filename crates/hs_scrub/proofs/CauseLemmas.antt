-- No two marks have their causes.
use Rattle.std.proofs.Common.{◌≡◌, ◌∙◌, ap, sym, subst, ℕ, zero, suc, ◌+◌, ◌<◌, ◌≤◌, ◌⊎◌, ◌++◌, Bool, true, false, not, cond, eqb, List, [], ◌∷◌, length, Some, None, is_some, inl, inr, refl, arith}
use Rattle.std.proofs.lemmas.List.Sums.{sum_by-cons}
use Rattle.hs_entry.specs.declared.entry.Entry.{Entry}
use Rattle.hs_limits.specs.declared.shape.Shape.{Shape}
use Rattle.hs_peerlog.specs.declared.fault.LogFault.{LogFault}
use Rattle.hs_peerlog.specs.declared.fault.LogFault.TheVariants as log
use Rattle.hs_peerlog.specs.Lists.{last_of, numbered_entry}
use Rattle.hs_ports.specs.Fault.{HasRisen}
use Rattle.hs_scrub.specs.declared.mark.PeerMark.{PeerMark}
use Rattle.hs_scrub.specs.declared.mark.PeerMark.TheVariants.{Same, Behind, Differs, NoLog, Fault}
use Rattle.hs_scrub.specs.Marks.{IsBehind, IsFirstOther, IsMarked}
use Rattle.hs_scrub.specs.Scrubbed.{HasCause, IsListed, mark_at}
use Rattle.hs_scrub.specs.Text.{bad_of, is_same}
use Rattle.hs_taking.specs.Disks.{DiskSeen}

-- an entry of a front is one of the whole
in_front : (list rest : List (ℕ × Entry)) (number : ℕ) → is_some (numbered_entry list number) ≡ true → numbered_entry list number ≡ numbered_entry (list ++ rest) number
in_front [] rest number some = absurd (false_is_not some)
  where
    false_is_not : false ≡ true → ⊥
    false_is_not e = cc e
in_front (x ∷ list) rest number some = go (eqb x.0 number) (in_front list rest number) some
  where
    go : (b : Bool) → (is_some (numbered_entry list number) ≡ true → numbered_entry list number ≡ numbered_entry (list ++ rest) number)
        → is_some (cond b (Some x.1) (numbered_entry list number)) ≡ true → cond b (Some x.1) (numbered_entry list number) ≡ cond b (Some x.1) (numbered_entry (list ++ rest) number)
    go true ih some = refl
    go false ih some = ih some

-- one is below the other, or not
below_or : (a b : ℕ) → (a < b) ⊎ (b ≤ a)
below_or a zero = inr (omega arith)
below_or zero (suc b) = inl (omega arith)
below_or (suc a) (suc b) = elim (below_or a b) [
  | inl less ↦ inl (omega (arith, less))
  | inr up ↦ inr (omega (arith, up))
]

module _ (taken list : List (ℕ × Entry)) where
  same_behind : (count : ℕ) → list ≡ taken → IsBehind taken list count → ⊥
  same_behind count is h = let s = h.shorter in let e = ap last_of is in omega (arith, s, e)

  same_differs : (number : ℕ) → list ≡ taken → IsFirstOther taken list number → ⊥
  same_differs number is h = h.other (ap (λ es. numbered_entry es number) is)

  behind_differs : (count number : ℕ) → IsBehind taken list count → IsFirstOther taken list number → ⊥
  behind_differs count number h k = k.other (in_front list h.front.0 number k.kept ∙ ap (λ es. numbered_entry es number) (sym h.front.1))

  differs_once : (one other : ℕ) → IsFirstOther taken list one → IsFirstOther taken list other → one ≡ other
  differs_once one other h k = go (below_or one other) (below_or other one)
    where
      go : (one < other) ⊎ (other ≤ one) → (other < one) ⊎ (one ≤ other) → one ≡ other
      go (inl less) b = absurd (h.other (k.first one less))
      go (inr up) (inl less) = absurd (k.other (h.first other less))
      go (inr up) (inr down) = omega (arith, up, down)

  -- a list has one mark
  pub marked_once : (one other : PeerMark) → IsMarked taken one list → IsMarked taken other list → one ≡ other
  marked_once Same Same h k = refl
  marked_once Same (Behind count) h k = absurd (same_behind count h k)
  marked_once Same (Differs number) h k = absurd (same_differs number h k)
  marked_once (Behind count) Same h k = absurd (same_behind count k h)
  marked_once (Behind count) (Behind other) h k = ap (λ n. Behind n) (h.length ∙ sym k.length)
  marked_once (Behind count) (Differs number) h k = absurd (behind_differs count number h k)
  marked_once (Differs number) Same h k = absurd (same_differs number k h)
  marked_once (Differs number) (Behind count) h k = absurd (behind_differs count number k h)
  marked_once (Differs number) (Differs other) h k = ap (λ n. Differs n) (differs_once number other h k)
  marked_once (NoLog at) other h k = absurd h
  marked_once Fault other h k = absurd h
  marked_once Same (NoLog at) h k = absurd k
  marked_once Same Fault h k = absurd k
  marked_once (Behind count) (NoLog at) h k = absurd k
  marked_once (Behind count) Fault h k = absurd k
  marked_once (Differs number) (NoLog at) h k = absurd k
  marked_once (Differs number) Fault h k = absurd k

-- ---- the causes

some_is : (a b : List (ℕ × Entry)) → Some a ≡ Some b → a ≡ b
some_is a b e = cc e

at_is : (a b : ℕ) → Some (log.NotALog a) ≡ Some (log.NotALog b) → a ≡ b
at_is a b e = cc e

none_is_not : (fault : LogFault) → None ≡ Some fault → ⊥
none_is_not fault e = cc e

module _ (tells : Type 0) (told : tells) (shape : Shape) (peer : ℕ) (old new : DiskSeen) (taken : List (ℕ × Entry)) where
  -- two lists that were read are one
  listed_once : (one other : PeerMark) → IsListed tells shape peer old new (IsMarked taken one) → IsListed tells shape peer old new (IsMarked taken other) → one ≡ other
  listed_once one other h k =
      let a = h.gives told in
      let b = k.gives told in
      let same : a.list ≡ b.list = some_is a.list b.list (sym a.read ∙ b.read) in
      marked_once taken b.list one other (subst (λ es. IsMarked taken one es) same a.holds) b.holds

  -- what was read is a log
  listed_log : (P : List (ℕ × Entry) → Type 0) (at : ℕ) → IsListed tells shape peer old new P → HasCause tells shape peer old new taken (NoLog at) → ⊥
  listed_log P at h k = none_is_not (log.NotALog at) (sym (h.accepted told) ∙ k.refused told)

  pub caused_once : (one other : PeerMark) → (HasRisen old.faults new.faults → ⊥) → HasCause tells shape peer old new taken one → HasCause tells shape peer old new taken other → one ≡ other
  caused_once one Fault calm h k = absurd (calm k)
  caused_once Fault other calm h k = absurd (calm h)
  caused_once (NoLog at) (NoLog other) calm h k = ap (λ n. NoLog n) (at_is at other (sym (h.refused told) ∙ k.refused told))
  caused_once (NoLog at) Same calm h k = absurd (listed_log (IsMarked taken Same) at k h)
  caused_once (NoLog at) (Behind count) calm h k = absurd (listed_log (IsMarked taken (Behind count)) at k h)
  caused_once (NoLog at) (Differs number) calm h k = absurd (listed_log (IsMarked taken (Differs number)) at k h)
  caused_once Same (NoLog at) calm h k = absurd (listed_log (IsMarked taken Same) at h k)
  caused_once (Behind count) (NoLog at) calm h k = absurd (listed_log (IsMarked taken (Behind count)) at h k)
  caused_once (Differs number) (NoLog at) calm h k = absurd (listed_log (IsMarked taken (Differs number)) at h k)
  caused_once Same Same calm h k = refl
  caused_once Same (Behind other) calm h k = listed_once Same (Behind other) h k
  caused_once Same (Differs other) calm h k = listed_once Same (Differs other) h k
  caused_once (Behind count) Same calm h k = listed_once (Behind count) Same h k
  caused_once (Behind count) (Behind other) calm h k = listed_once (Behind count) (Behind other) h k
  caused_once (Behind count) (Differs other) calm h k = listed_once (Behind count) (Differs other) h k
  caused_once (Differs number) Same calm h k = listed_once (Differs number) Same h k
  caused_once (Differs number) (Behind other) calm h k = listed_once (Differs number) (Behind other) h k
  caused_once (Differs number) (Differs other) calm h k = listed_once (Differs number) (Differs other) h k

pub failed_so : (tells : Type 0) (shape : Shape) (peer : ℕ) (old new : DiskSeen) (taken : List (ℕ × Entry)) (mark : PeerMark) → (new.faults ≡ old.faults → ⊥) → HasCause tells shape peer old new taken mark → mark ≡ Fault
failed_so tells shape peer old new taken Same rose h = absurd (rose h.calm)
failed_so tells shape peer old new taken (Behind count) rose h = absurd (rose h.calm)
failed_so tells shape peer old new taken (Differs number) rose h = absurd (rose h.calm)
failed_so tells shape peer old new taken (NoLog at) rose h = absurd (rose h.calm)
failed_so tells shape peer old new taken Fault rose h = refl

-- ---- none is bad

same_mark : (mark : PeerMark) → is_same mark ≡ true → mark ≡ Same
same_mark Same e = refl
same_mark (Behind count) e = cc e
same_mark (Differs number) e = cc e
same_mark (NoLog at) e = cc e
same_mark Fault e = cc e

bad_more : (mark : PeerMark) (marks : List PeerMark) → bad_of (mark ∷ marks) ≡ cond (not (is_same mark)) 1 0 + bad_of marks
bad_more mark marks = sum_by-cons (λ m. cond (not (is_same m)) 1 0) mark marks

one_more : (n : ℕ) → 1 + n ≡ 0 → ⊥
one_more n e = omega (arith, e)

pub none_bad : (marks : List PeerMark) → bad_of marks ≡ 0 → (peer : ℕ) → peer < length marks → mark_at marks peer ≡ Same
none_bad [] e peer low = absurd (omega (arith, low))
none_bad (mark ∷ marks) e peer low = go mark peer low e (λ k l d. none_bad marks d k l)
  where
    go : (mark : PeerMark) (peer : ℕ) → peer < suc (length marks) → bad_of (mark ∷ marks) ≡ 0 → ((k : ℕ) → k < length marks → bad_of marks ≡ 0 → mark_at marks k ≡ Same) → mark_at (mark ∷ marks) peer ≡ Same
    go Same zero low e ih = refl
    go Same (suc k) low e ih = ih k (omega (arith, low)) e
    go (Behind count) peer low e ih = absurd (one_more (bad_of marks) (sym (bad_more (Behind count) marks) ∙ e))
    go (Differs number) peer low e ih = absurd (one_more (bad_of marks) (sym (bad_more (Differs number) marks) ∙ e))
    go (NoLog at) peer low e ih = absurd (one_more (bad_of marks) (sym (bad_more (NoLog at) marks) ∙ e))
    go Fault peer low e ih = absurd (one_more (bad_of marks) (sym (bad_more Fault marks) ∙ e))

pub all_same : (marks : List PeerMark) → ((peer : ℕ) → peer < length marks → mark_at marks peer ≡ Same) → bad_of marks ≡ 0
all_same [] h = refl
all_same (mark ∷ marks) h =
    let first : mark ≡ Same = h 0 (omega arith) in
    let rest = all_same marks (λ peer low. h (suc peer) (omega (arith, low))) in
    ap (λ m. bad_of (m ∷ marks)) first ∙ rest
