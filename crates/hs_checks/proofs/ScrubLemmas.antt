-- A scrub, from what its calls say.
use Rattle.std.proofs.Common.{◌≡◌, ◌∙◌, inl, inr, ap, sym, subst, refl, ℕ, ◌<◌, ◌≤◌, ◌++◌, Bool, true, false, List, [], Option, None, Some, length, arith}
use Rattle.std.proofs.lemmas.Bool.{cases_eq}
use Rattle.std.proofs.lemmas.List.{append-nil}
use Rattle.std.specs.Prelude.{Err, IsOkUnless, Ok, OnErr, OnOk, Result, is_err, slice_index_or}
use Rattle.hs_entry.specs.declared.entry.Entry.{Entry}
use Rattle.hs_limits.specs.declared.shape.Shape.{Shape}
use Rattle.hs_peerlog.proofs.ImageLemmas.{Since}
use Rattle.hs_peerlog.proofs.StayLemmas.{stays}
use Rattle.hs_peerlog.specs.Images.{LeavesEach}
use Rattle.hs_ports.specs.Disk.{Standing}
use Rattle.hs_ports.specs.Sink.{followed}
use Rattle.hs_promise.specs.Run.{Ran}
use Rattle.hs_run.proofs.PrintedLemmas.{followed_both}
use Rattle.hs_run.specs.Machine.{AreHanded}
use Rattle.hs_scrub.specs.Copied.{AreBeside, IsOldOrFront, KeepsFronts}
use Rattle.hs_scrub.specs.Marks.{is_read}
use Rattle.hs_scrub.specs.Scrubbed.{mark_at}
use Rattle.hs_scrub.specs.declared.mark.PeerMark.{PeerMark}
use Rattle.hs_scrub.specs.declared.mark.PeerMark.TheVariants.{Fault}
use Rattle.hs_side.specs.Current.{list_in}
use Rattle.hs_taking.proofs.StepLemmas.{at_any}
use Rattle.hs_taking.proofs.ViewLemmas.{only_then, only_wait}
use Rattle.hs_taking.specs.Disks.{DiskSeen, seen_at}
use Rattle.hs_taking.specs.Viewed.{IsOnlyRead}
use Rattle.hs_checks.specs.Compared.{EndsScrub, GetsCopy, IsCompared, Passing}
use Rattle.hs_checks.specs.Silent.{RunsNoScript}

some_is : {X : Type 0} (x y : X) → Some x ≡ Some y → x ≡ y
some_is x y is = cc

-- ---- what a call answered

not_both : true ≡ false → ⊥
not_both e = cc e

pub when_ok : {T E P : Type 0} (r : Result T E) → false ≡ is_err r → OnOk r P → P
when_ok (Ok x) e h = h
when_ok (Err fault) e h = absurd (not_both (sym e))

pub when_err : {T E P : Type 0} (r : Result T E) → true ≡ is_err r → OnErr r P → P
when_err (Ok x) e h = absurd (not_both e)
when_err (Err fault) e h = h

pub err_is : {T E : Type 0} (r : Result T E) (fault : E) → true ≡ is_err r → IsOkUnless r fault → r ≡ Err fault
err_is (Ok x) fault e h = absurd (not_both e)
err_is (Err other) fault e h = λ i. Err (h i)

pub none_is : (o : Option ℕ) → ((x : ℕ) → o ≡ Some x → ⊥) → o ≡ None
none_is None other = refl
none_is (Some x) other = absurd (other x refl)

-- the mark of a peer, as it is looked up
pub mark_read : (marks : List PeerMark) (place peer : ℕ) (mark : PeerMark) (b c : Bool) → place ≡ peer → peer < length marks → mark ≡ slice_index_or marks place mark → b ≡ is_read mark → b ≡ c → is_read (mark_at marks peer) ≡ c
mark_read marks place peer mark b c e low is reads so =
    let there : place < length marks = omega (arith, e, low) in
    let mine : mark ≡ mark_at marks peer = is ∙ at_any marks place mark Fault there ∙ ap (λ (k : ℕ). mark_at marks k) e in
    sym (ap (λ (m : PeerMark). is_read m) mine) ∙ sym reads ∙ so

-- ---- what was put

-- a text alone
pub put_alone : (got got' : Option (List ℕ)) (text said : List ℕ) → said ≡ text → got' ≡ followed got said → got' ≡ followed got (text ++ [])
put_alone got got' text said is put = put ∙ ap (λ (t : List ℕ). followed got t) (is ∙ sym (append-nil text))

-- a text, and lines behind it
pub put_both : (got mid got' : Option (List ℕ)) (text said lines told : List ℕ) → said ≡ text → told ≡ lines → mid ≡ followed got said → got' ≡ followed mid told → got' ≡ followed got (text ++ lines)
put_both got mid got' text said lines told is too first then =
    then ∙ ap (λ (m : Option (List ℕ)). followed m told) first ∙ followed_both got said told ∙ ap (λ (t : List ℕ). followed got (t ++ told)) is ∙ ap (λ (t : List ℕ). followed got (text ++ t)) too

-- ---- what a stop leaves

each_wait : {before mid now : ℕ} {a b : Standing} (R : List (ℕ × Entry) → Type 0) → mid ≤ now → LeavesEach before mid a b R → LeavesEach before now a b R
each_wait R up one = record {
  later = let l = one.later in omega (arith, l, up);
  last = let l = one.last in omega (arith, l, up);
  earlier = one.earlier;
  each = one.each;
  standing = one.standing;
}

-- a disk that is not called
pub kept : (tells : Type 0) (disk : DiskSeen) (before now : ℕ) (copied : List (ℕ × Entry)) → before ≤ now → (tells → Since disk.stands) → KeepsFronts tells before now disk disk copied
kept tells disk before now copied up since = λ told last held leaves.
    each_wait (IsOldOrFront held copied) up (stays disk.stands before held (IsOldOrFront held copied) last (since told) leaves (record { one = inl refl }))

-- time goes on
pub kept_on : (tells : Type 0) (old new : DiskSeen) (before mid now : ℕ) (copied : List (ℕ × Entry)) → mid ≤ now → KeepsFronts tells before mid old new copied → KeepsFronts tells before now old new copied
kept_on tells old new before mid now copied up keeps = λ told last held leaves. each_wait (IsOldOrFront held copied) up (keeps told last held leaves)

-- ---- nothing is copied

module _ (tells : Type 0) (shape : Shape) (from : Option ℕ) (r : Ran) (old mid : List DiskSeen) (moment : ℕ) (before : AreHanded r.old old) (behind : AreHanded r.new mid) (silent : RunsNoScript r)
    (up : moment ≤ r.new.moment) (read : (peer : ℕ) → peer < length old → IsOnlyRead tells r.old.moment moment (seen_at old peer) (seen_at mid peer)) where
  abbrev passing : Passing
  passing = record { old = old; mid = mid; new = mid; moment = moment }

  -- of a peer that gets a copy nothing is said here: it is shown by what it was given
  pub read_alone : EndsScrub tells shape from passing r
      → ((peer : ℕ) → peer < length old → GetsCopy shape from peer → (copied : List (ℕ × Entry)) → KeepsFronts tells moment r.new.moment (seen_at mid peer) (seen_at mid peer) copied)
      → IsCompared tells shape from r
  read_alone ends fronts = record {
    silent = silent;
    p = passing;
    before = before;
    behind = behind;
    ends = ends;
    compared = read;
    only = λ peer low none. only_wait tells r.old.moment moment r.new.moment (seen_at old peer) (seen_at mid peer) up (read peer low);
    fronts = λ peer low copy copied told. fronts peer low copy copied;
  }

-- ---- a list is copied

module _ (tells : Type 0) (shape : Shape) (source : ℕ) (r : Ran) (old mid new : List DiskSeen) (moment now : ℕ) (before : AreHanded r.old old) (behind : AreHanded r.new new) (silent : RunsNoScript r)
    (read : (peer : ℕ) → peer < length old → IsOnlyRead tells r.old.moment moment (seen_at old peer) (seen_at mid peer))
    (own : IsOnlyRead tells moment now (seen_at mid source) (seen_at new source))
    (others : (peer : ℕ) → (AreBeside shape source peer → ⊥) → seen_at new peer ≡ seen_at mid peer)
    (up : moment ≤ now) (then : now ≤ r.new.moment) where
  abbrev copying : Passing
  copying = record { old = old; mid = mid; new = new; moment = moment }

  only_read : (peer : ℕ) → peer < length old → (GetsCopy shape (Some source) peer → ⊥) → IsOnlyRead tells r.old.moment r.new.moment (seen_at old peer) (seen_at new peer)
  only_read peer low none = elim (cases_eq peer source) [
    | inl same ↦ subst (λ (k : ℕ). IsOnlyRead tells r.old.moment r.new.moment (seen_at old k) (seen_at new k)) (sym same)
        (only_wait tells r.old.moment now r.new.moment (seen_at old source) (seen_at new source) then
        (only_then tells r.old.moment moment now (seen_at old source) (seen_at mid source) (seen_at new source) (subst (λ (k : ℕ). IsOnlyRead tells r.old.moment moment (seen_at old k) (seen_at mid k)) same (read peer low)) own))
    | inr other ↦
        let away : seen_at new peer ≡ seen_at mid peer = others peer (λ beside. none (record { source = source; asked = λ i. Some source; beside = beside; other = other })) in
        subst (λ (d : DiskSeen). IsOnlyRead tells r.old.moment r.new.moment (seen_at old peer) d) (sym away)
        (only_wait tells r.old.moment moment r.new.moment (seen_at old peer) (seen_at mid peer) (omega (arith, up, then)) (read peer low))
  ]

  pub copied_too : EndsScrub tells shape (Some source) copying r
      → ((peer : ℕ) → peer < length old → (peer ≡ source → ⊥) → (copied : List (ℕ × Entry)) → (tells → list_in (seen_at mid source).stands.seen ≡ Some copied) → KeepsFronts tells moment r.new.moment (seen_at mid peer) (seen_at new peer) copied)
      → IsCompared tells shape (Some source) r
  copied_too ends fronts = record {
    silent = silent;
    p = copying;
    before = before;
    behind = behind;
    ends = ends;
    compared = read;
    only = only_read;
    fronts = λ peer low copy copied told.
        let is : copy.source ≡ source = some_is copy.source source (sym copy.asked) in
        fronts peer low (λ same. copy.other (same ∙ sym is)) copied (λ t. subst (λ (k : ℕ). list_in (seen_at mid k).stands.seen ≡ Some copied) is (told t));
  }
