-- Reading the disks one after another.
use Rattle.std.proofs.Common.{◌≡◌, ◌∙◌, inl, inr, ap, sym, subst, ℕ, ◌+◌, ◌*◌, ◌<◌, ◌≤◌, Bool, true, false, List, [], ◌∷◌, ◌++◌, take, drop, map, length, Option, Some, None, Result, Ok, Err, IsSome, refl, arith, if◌then◌else◌}
use Rattle.std.proofs.lemmas.Bool.{cases_eq}
use Rattle.std.proofs.lemmas.List.{get_or_push}
use Rattle.std.proofs.Math.ListN.{get_or-append}
use Rattle.std.specs.Prelude.{slice_index_or, slice_set, IfSome}
use Rattle.hs_limits.proofs.FieldLemmas.{bind_ok}
use Rattle.hs_limits.specs.declared.shape.Shape.{Shape}
use Rattle.hs_limits.specs.Fields.{◌>>=◌}
use Rattle.hs_peerlog.proofs.ImageLemmas.{Since, image-is, list-same}
use Rattle.hs_peerlog.proofs.OpenLemmas.{no-call, then-calls}
use Rattle.hs_peerlog.specs.declared.fault.LogFault.{LogFault}
use Rattle.hs_peerlog.specs.declared.fault.LogFault.TheVariants as log
use Rattle.hs_peerlog.specs.Opening.{is_own, refusal_in, refused_head, refused_log}
use Rattle.hs_peerlog.specs.Views.{Viewing}
use Rattle.hs_ports.specs.declared.disk.Side.{Side}
use Rattle.hs_ports.specs.Disk.{settled}
use Rattle.hs_side.specs.Current.{current, header_in, list_in}
use Rattle.hs_side.specs.declared.header.Header.{Header}
use Rattle.hs_side.specs.Follow.{start}
use Rattle.hs_side.specs.Reading.{Log, frames, head_of, is_blank, list_of, listed, log_of}
use Rattle.hs_taking.proofs.DiskLemmas.{seen_here, seen_is, seen_there}
use Rattle.hs_taking.specs.declared.fault.TakeFault.{TakeFault}
use Rattle.hs_taking.specs.declared.fault.TakeFault.TheVariants.{WrongShape, NoMemory}
use Rattle.hs_taking.specs.Disks.{DiskSeen, seen_at}
use Rattle.hs_taking.specs.Viewed.{HasViewed, IsFirstOther, IsOnlyRead, IsOther, IsOtherAt, IsViewed, IsViewOf}

-- ---- what is no log has no list

abbrev read_as : List ℕ → Result (Option Log) ℕ
read_as bytes = head_of (take 17 bytes) >>= λ head. frames 17 start 0 (drop 17 bytes) >>= λ found. Ok (Some (record { header = head.0; generation = head.1; frames = found }))

abbrev headed : List ℕ → Result (Option Header) ℕ
headed bytes = head_of (take 17 bytes) >>= λ head. Ok (Some head.0)

abbrev no_one : Result (Option Log) ℕ
no_one = Ok None

abbrev no_head : Result (Option Header) ℕ
no_head = Ok None

-- a log has a head, or its side is blank
header_of : (bytes : List ℕ) (l : Option Log) → log_of bytes ≡ Ok l → (h : Option Header) × (header_in bytes ≡ Ok h)
unfolding log_of
header_of bytes l e = go (is_blank bytes) e
  where
    go : (b : Bool) → (if b then no_one else read_as bytes) ≡ Ok l → (h : Option Header) × ((if b then no_head else headed bytes) ≡ Ok h)
    go true k = (None, refl)
    go false k =
        let head = bind_ok (head_of (take 17 bytes)) (λ head. frames 17 start 0 (drop 17 bytes) >>= λ found. Ok (Some (record { header = head.0; generation = head.1; frames = found }))) l k in
        (Some head.0.0, ap (λ (r : Result (Header × ℕ) ℕ). r >>= λ h. Ok (Some h.0)) head.1)

not_head : (shape : Shape) (peer at : ℕ) (h : Option Header) → refused_head shape peer (Ok h) ≡ Some (log.NotALog at) → ⊥
not_head shape peer at None e = cc e
not_head shape peer at (Some header) e = go (is_own shape peer header) e
  where
    go : (b : Bool) → (if b then None else Some (log.WrongShape header)) ≡ Some (log.NotALog at) → ⊥
    go true k = cc k
    go false k = cc k

no_list_in : (shape : Shape) (peer at : ℕ) (bytes : List ℕ) → refused_log (refused_head shape peer (header_in bytes)) (log_of bytes) ≡ Some (log.NotALog at) → list_of bytes ≡ None
no_list_in shape peer at bytes e = go (log_of bytes) refl
  where
    passes : (h : Option LogFault) (l : Option Log) → refused_log h (Ok l) ≡ h
    passes None l = refl
    passes (Some fault) l = refl

    go : (r : Result (Option Log) ℕ) → log_of bytes ≡ r → list_of bytes ≡ None
    go (Err place) is = ap (λ r. listed r) is
    go (Ok l) is =
        let head = header_of bytes l is in
        absurd (not_head shape peer at head.0
        (sym (ap (λ r. refused_head shape peer r) head.1) ∙ sym (passes (refused_head shape peer (header_in bytes)) l) ∙ sym (ap (λ r. refused_log (refused_head shape peer (header_in bytes)) r) is) ∙ e))

pub no_list : (shape : Shape) (peer at : ℕ) (seen : Side → List ℕ) → refusal_in shape peer seen ≡ Some (log.NotALog at) → list_in seen ≡ None
no_list shape peer at seen e = no_list_in shape peer at (seen (current seen)) e

-- so it has no view, and is of no other store
pub no_log_viewed : (tells : Type 0) (shape : Shape) (peer at : ℕ) (old new : DiskSeen) → (tells → refusal_in shape peer old.stands.seen ≡ Some (log.NotALog at)) → IsViewed tells shape peer old new None
no_log_viewed tells shape peer at old new refused = record {
  some = tt;
  none = λ e. inr (λ told. no_list shape peer at old.stands.seen (refused told));
  own = λ told found e. absurd (other_fault found (sym (refused told) ∙ e));
}
  where
    other_fault : (found : Header) → Some (log.NotALog at) ≡ Some (log.WrongShape found) → ⊥
    other_fault found e = cc e

-- ---- a disk that is only read

pub only_then : (tells : Type 0) (before mid now : ℕ) (a b c : DiskSeen) → IsOnlyRead tells before mid a b → IsOnlyRead tells mid now b c → IsOnlyRead tells before now a c
only_then tells before mid now a b c one two = record {
  seen = λ told side. two.seen told side ∙ one.seen told side;
  moments = λ told last. let m = one.moments told last in then-calls (two.moments told m.last) m;
  counted = omega (arith, one.counted, two.counted);
}

-- and time went on
pub only_wait : (tells : Type 0) (before mid now : ℕ) (a b : DiskSeen) → mid ≤ now → IsOnlyRead tells before mid a b → IsOnlyRead tells before now a b
only_wait tells before mid now a b up one = record {
  seen = one.seen;
  moments = λ told last. let m = one.moments told last in record {
    later = omega (arith, m.later, up);
    last = omega (arith, m.last, up);
    earlier = m.earlier;
    each = m.each;
    standing = m.standing;
  };
  counted = one.counted;
}

pub only_none : (tells : Type 0) (now : ℕ) (disk : DiskSeen) → (tells → Since disk.stands) → IsOnlyRead tells now now disk disk
only_none tells now disk since = record {
  seen = λ told side. refl;
  moments = λ told last. no-call last (since told);
  counted = omega arith;
}

-- ---- so far

-- of so many disks the first ones were read, and the others were not called
pub record AreRead (tells : Type 0) (before now : ℕ) (old new : List DiskSeen) (count total : ℕ) : Type 0 where
  pub read : (peer : ℕ) → peer < total → IsOnlyRead tells before now (seen_at old peer) (seen_at new peer)
  pub rest : (peer : ℕ) → count ≤ peer → seen_at new peer ≡ seen_at old peer

-- with their views
pub record AreViewed (tells : Type 0) (shape : Shape) (old new : List DiskSeen) (views : List (Option Viewing)) : Type 0 where
  pub each : (peer : ℕ) → peer < length views → IsViewed tells shape peer (seen_at old peer) (seen_at new peer) (slice_index_or views peer None)

pub none_viewed : (tells : Type 0) (shape : Shape) (old new : List DiskSeen) → AreViewed tells shape old new []
none_viewed tells shape old new = record { each = λ peer low. absurd (omega (arith, low)) }

pub none_read : (tells : Type 0) (now total : ℕ) (disks : List DiskSeen) → ((peer : ℕ) → peer < total → tells → Since (seen_at disks peer).stands) → AreRead tells now now disks disks 0 total
none_read tells now total disks since = record {
  read = λ peer low. only_none tells now (seen_at disks peer) (since peer low);
  rest = λ peer low. refl;
}

module _ {A : Type 0} (f : A → DiskSeen) (tells : Type 0) (shape : Shape) (before mid now : ℕ) (old : List DiskSeen) (disks : List A) (i total : ℕ) (x d : A) (low : i < length disks) where
  abbrev after : List DiskSeen
  after = map f (slice_set disks i x)

  was : AreRead tells before mid old (map f disks) i total → f (slice_index_or disks i d) ≡ seen_at old i
  was so_far = sym (seen_is f disks i d low) ∙ so_far.rest i (omega arith)

  pub read_more : AreRead tells before mid old (map f disks) i total → mid ≤ now → IsOnlyRead tells mid now (f (slice_index_or disks i d)) (f x) → AreRead tells before now old after (i + 1) total
  read_more so_far up one = record {
    read = λ peer within. elim (cases_eq peer i) [
      | inl same ↦ subst (λ p. IsOnlyRead tells before now (seen_at old p) (seen_at after p)) (sym same)
          (subst (λ (s : DiskSeen). IsOnlyRead tells before now (seen_at old i) s) (sym (seen_here f disks i x low))
          (only_then tells before mid now (seen_at old i) (seen_at (map f disks) i) (f x) (so_far.read i (subst (λ p. p < total) same within))
          (subst (λ (s : DiskSeen). IsOnlyRead tells mid now s (f x)) (sym (seen_is f disks i d low)) one)))
      | inr differs ↦ subst (λ (s : DiskSeen). IsOnlyRead tells before now (seen_at old peer) s) (sym (seen_there f disks i peer x differs))
          (only_wait tells before mid now (seen_at old peer) (seen_at (map f disks) peer) up (so_far.read peer within))
    ];
    rest = λ peer high. seen_there f disks i peer x (λ same. omega (arith, high, same)) ∙ so_far.rest peer (omega (arith, high));
  }

  -- its views stay, but for that of the disk that is read
  views_stay : (views : List (Option Viewing)) → AreViewed tells shape old (map f disks) views → length views ≤ i → AreViewed tells shape old after views
  views_stay views so_far short = record {
    each = λ peer within. subst (λ (s : DiskSeen). IsViewed tells shape peer (seen_at old peer) s (slice_index_or views peer None)) (sym (seen_there f disks i peer x (λ same. omega (arith, within, short, same)))) (so_far.each peer within);
  }

  pub view_more : (views : List (Option Viewing)) (view : Option Viewing) → AreRead tells before mid old (map f disks) i total → AreViewed tells shape old (map f disks) views → length views ≡ i
      → IsViewed tells shape i (f (slice_index_or disks i d)) (f x) view → AreViewed tells shape old after (views ++ view ∷ [])
  view_more views view read so_far count one =
      let stay : AreViewed tells shape old after views = views_stay views so_far (omega (arith, count)) in
      let here : IsViewed tells shape i (seen_at old i) (seen_at after i) view =
      subst (λ (s : DiskSeen). IsViewed tells shape i (seen_at old i) s view) (sym (seen_here f disks i x low)) (subst (λ (s : DiskSeen). IsViewed tells shape i s (f x) view) (was read) one) in
      record {
        each = λ peer within. elim (cases_eq peer i) [
          | inl same ↦ subst (λ p. IsViewed tells shape p (seen_at old p) (seen_at after p) (slice_index_or (views ++ view ∷ []) p None)) (sym same)
              (subst (λ v. IsViewed tells shape i (seen_at old i) (seen_at after i) v) (sym (get_or_push views view None i count)) here)
          | inr differs ↦
              let less : peer < length views = let l = long views view in omega (arith, within, differs, count, l) in
              subst (λ v. IsViewed tells shape peer (seen_at old peer) (seen_at after peer) v) (sym (get_or-append views (view ∷ []) None peer less)) (stay.each peer less)
        ];
      }
    where
      long : (views : List (Option Viewing)) (view : Option Viewing) → length (views ++ view ∷ []) ≡ length views + 1
      long [] view = refl
      long (v ∷ views) view = let e = long views view in omega (arith, e)

  -- a disk of another store
  pub other_found : (views : List (Option Viewing)) (fault : TakeFault) → AreRead tells before mid old (map f disks) i total → AreViewed tells shape old (map f disks) views → length views ≡ i → i < shape.shards * shape.copies
      → IsOtherAt tells shape i (f (slice_index_or disks i d)) (f x) fault → IsOther tells shape old after fault
  other_found views NoMemory read so_far count within is = tt
  other_found views (WrongShape at found) read so_far count within is =
      let stay : AreViewed tells shape old after views = views_stay views so_far (omega (arith, count)) in
      subst (λ p. IsFirstOther tells shape old after p found) (sym is.0) (record {
        within = within;
        told = λ told. subst (λ (s : DiskSeen). refusal_in shape i s.stands.seen ≡ Some (log.WrongShape found)) (was read) (is.1 told);
        stands = ap (λ (s : DiskSeen). s.faults) (seen_here f disks i x low) ∙ is.2 ∙ ap (λ (s : DiskSeen). s.faults) (was read);
        first = λ told peer other less refused. (stay.each peer (omega (arith, less, count))).own told other refused;
      })

-- ---- a view of the disk as it is afterwards

pub view_of : (tells : Type 0) (shape : Shape) (peer : ℕ) (old new : DiskSeen) (view : Option Viewing) → (tells → (side : Side) → new.stands.seen side ≡ old.stands.seen side) → IfSome view (HasViewed tells shape peer old new) → IfSome view (IsViewOf tells shape peer new)
view_of tells shape peer old new None seen is = tt
view_of tells shape peer old new (Some viewing) seen is =
    record {
      stands = is.stands;
      viewed = is.viewed;
      listed = λ told. subst (λ o. IsSome o) (sym (same told)) (is.listed told);
      has = λ told list e. is.has told list (sym (same told) ∙ e);
      accepted = λ told. ap (λ (s : Side → List ℕ). refusal_in shape peer s) (both told) ∙ is.accepted told;
      only = λ told list e image left. list-same new.stands.seen image (image-is new.stands image (λ side. is.durable told side ∙ ap (λ b. settled b) (sym (seen told side))) left.sides) ∙ e;
    }
  where
    both : tells → new.stands.seen ≡ old.stands.seen
    both told = λ i side. seen told side i

    same : tells → list_in new.stands.seen ≡ list_in old.stands.seen
    same told = ap (λ (s : Side → List ℕ). list_in s) (both told)
