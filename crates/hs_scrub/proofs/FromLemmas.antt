-- Copying from a peer, whose disk is read first.
use Rattle.std.proofs.Common.{◌≡◌, ◌∙◌, inl, inr, ap, sym, subst, ℕ, ◌*◌, ◌/◌, ◌<◌, ◌≤◌, ◌++◌, List, [], map, length, Option, Some, None, IsSome, refl, arith}
use Rattle.std.proofs.lemmas.Bool.{cases_eq}
use Rattle.std.specs.Prelude.{Contains, Err, IfErr, IfSome, Ok, OnOk, Result, slice_index_or, slice_set, unwrap_or}
use Rattle.hs_entry.specs.declared.entry.Entry.{Entry}
use Rattle.hs_limits.specs.declared.shape.Shape.{Shape}
use Rattle.hs_peerlog.proofs.ImageLemmas.{Since}
use Rattle.hs_peerlog.proofs.StayLemmas.{stays}
use Rattle.hs_peerlog.specs.Caused.{IsCalm}
use Rattle.hs_peerlog.specs.declared.fault.LogFault.{LogFault}
use Rattle.hs_peerlog.specs.declared.fault.LogFault.TheVariants as log
use Rattle.hs_peerlog.specs.Images.{LeavesEach, LeavesOnly}
use Rattle.hs_peerlog.specs.Opening.{refusal_in}
use Rattle.hs_peerlog.specs.Views.{HasView, Viewing}
use Rattle.hs_ports.specs.Fault.{HasRisen}
use Rattle.hs_scrub.proofs.AllLemmas.{each_wait}
use Rattle.hs_scrub.proofs.CopyLemmas.{each_then}
use Rattle.hs_scrub.proofs.ScrubLemmas.{only_called}
use Rattle.hs_scrub.specs.Copied.{AreBeside, HasCopied, HasCopy, HasEnded, IsLeft, IsOldOrFront, IsOtherSource, KeepsFronts}
use Rattle.hs_scrub.specs.CopySteps.{HasGiven, HasGot, HasWhole, IsStopped, Spares}
use Rattle.hs_scrub.specs.declared.fault.ScrubFault.{ScrubFault}
use Rattle.hs_scrub.specs.declared.fault.ScrubFault.TheVariants.{NoMemory, WrongShape}
use Rattle.hs_scrub.specs.declared.mark.PeerMark.{PeerMark}
use Rattle.hs_scrub.specs.declared.mark.PeerMark.TheVariants.{Same, Behind, Differs, NoLog, Fault}
use Rattle.hs_scrub.specs.Text.{line_of}
use Rattle.hs_side.specs.Current.{list_in}
use Rattle.hs_side.specs.declared.header.Header.{Header}
use Rattle.hs_side.specs.Standing.{Stands}
use Rattle.hs_taking.proofs.DiskLemmas.{seen_here, seen_is, seen_there}
use Rattle.hs_taking.proofs.ViewLemmas.{only_wait}
use Rattle.hs_taking.specs.Disks.{DiskSeen, seen_at}
use Rattle.hs_taking.specs.Viewed.{IsOnlyRead}

listed_of : (o : Option (List (ℕ × Entry))) → IsSome o → o ≡ Some (unwrap_or o [])
listed_of None h = cc h
listed_of (Some list) h = refl

-- want of memory tells of no store
pub memory_other : {X : Type 0} (tells : Type 0) (shape : Shape) (from : ℕ) (a b : DiskSeen) (r : Result X ScrubFault) → IfErr r (λ fault. fault ≡ NoMemory) → IfErr r (IsOtherSource tells shape from a b)
memory_other tells shape from a b (Ok x) h = tt
memory_other tells shape from a b (Err fault) h = subst (λ k. IsOtherSource tells shape from a b k) (sym h) tt

pub memory_unwritten : {X : Type 0} (P : ℕ → Type 0) (r : Result X ScrubFault) → IfErr r (λ fault. fault ≡ NoMemory) → IfErr r (λ fault. (at : ℕ) (found : Header) → fault ≡ WrongShape at found → (peer : ℕ) → P peer)
memory_unwritten P (Ok x) h = tt
memory_unwritten P (Err fault) h = λ at found e peer. absurd (not_so at found (sym h ∙ e))
  where
    not_so : (at : ℕ) (found : Header) → NoMemory ≡ WrongShape at found → ⊥
    not_so at found e = cc e

pub ok_so : {X E P Q : Type 0} (r : Result X E) → OnOk r P → (P → Q) → OnOk r Q
ok_so (Ok x) h f = f h
ok_so (Err fault) h f = tt

pub on_ok_any : {X E P : Type 0} (r : Result X E) → P → OnOk r P
on_ok_any (Ok x) p = p
on_ok_any (Err fault) p = tt

-- no call failed where the disk is told to be no log, or of another store
abbrev refused_view : LogFault → Result Viewing LogFault
refused_view fault = Err fault

pub view_no_log : (fault : LogFault) (at before now : ℕ) → fault ≡ log.NotALog at → IsCalm before now (refused_view fault) → now ≡ before
view_no_log fault at before now is calm = subst (λ k. IsCalm before now (refused_view k)) is calm

pub view_other : (fault : LogFault) (found : Header) (before now : ℕ) → fault ≡ log.WrongShape found → IsCalm before now (refused_view fault) → now ≡ before
view_other fault found before now is calm = subst (λ k. IsCalm before now (refused_view k)) is calm

pub no_log_not_wrong : (at : ℕ) (found : Header) → Some (log.NotALog at) ≡ Some (log.WrongShape found) → ⊥
no_log_not_wrong at found e = cc e

pub none_not_wrong : (found : Header) → None ≡ Some (log.WrongShape found) → ⊥
none_not_wrong found e = cc e

module _ {A : Type 0} (f : A → DiskSeen) (tells : Type 0) (shape : Shape) (from before mid now : ℕ) (disks : List A) (y d : A) (low : from < length disks) where
  abbrev old : List DiskSeen
  old = map f disks

  abbrev via : List DiskSeen
  via = map f (slice_set disks from y)

  was : f (slice_index_or disks from d) ≡ seen_at old from
  was = sym (seen_is f disks from d low)

  is : seen_at via from ≡ f y
  is = seen_here f disks from y low

  there : (peer : ℕ) → (peer ≡ from → ⊥) → seen_at via peer ≡ seen_at old peer
  there peer differ = seen_there f disks from peer y differ

  not_from : (peer : ℕ) → (AreBeside shape from peer → ⊥) → peer ≡ from → ⊥
  not_from peer out e = out (ap (λ p. p / shape.copies) e)

  -- ---- it was only looked at

  pub read_only : IsOnlyRead tells before mid (f (slice_index_or disks from d)) (f y) → IsOnlyRead tells before mid (seen_at old from) (seen_at via from)
  read_only h = subst (λ (s : DiskSeen). IsOnlyRead tells before mid (seen_at old from) s) (sym is) (subst (λ (s : DiskSeen). IsOnlyRead tells before mid s (f y)) was h)

  pub others_read : (peer : ℕ) → (AreBeside shape from peer → ⊥) → seen_at via peer ≡ seen_at old peer
  others_read peer out = there peer (not_from peer out)

  pub counted_read : (f (slice_index_or disks from d)).faults ≤ (f y).faults → (peer : ℕ) → (seen_at old peer).faults ≤ (seen_at via peer).faults
  counted_read h peer = elim (cases_eq peer from) [
    | inl same ↦ subst (λ (k : ℕ). (seen_at old k).faults ≤ (seen_at via k).faults) (sym same)
        (subst (λ (s : DiskSeen). (seen_at old from).faults ≤ s.faults) (sym is) (subst (λ (s : DiskSeen). s.faults ≤ (f y).faults) was h))
    | inr differ ↦ let e = ap (λ (s : DiskSeen). s.faults) (there peer differ) in omega (arith, e)
  ]

  pub unwritten_read : (peer : ℕ) → (peer ≡ from → ⊥) → seen_at via peer ≡ seen_at old peer
  unwritten_read peer differ = there peer differ

  pub fronts_read : (peer : ℕ) (copied : List (ℕ × Entry)) → before ≤ mid → (tells → Since (seen_at old peer).stands) → (peer ≡ from → ⊥) → KeepsFronts tells before mid (seen_at old peer) (seen_at via peer) copied
  fronts_read peer copied up since differ = λ told last held leaves.
      subst (λ (s : DiskSeen). LeavesEach before mid (seen_at old peer).stands s.stands (IsOldOrFront held copied)) (sym (there peer differ))
      (each_wait (IsOldOrFront held copied) up (stays (seen_at old peer).stands before held (IsOldOrFront held copied) last (since told) leaves (record { one = inl refl })))

  pub ended_read : (mark : PeerMark) (out out' : List ℕ) → HasEnded tells shape from (f (slice_index_or disks from d)) (f y) mark → out' ≡ out ++ line_of 0 from mark → HasCopied tells shape from before old via out out'
  ended_read mark out out' ended text = record {
    left = [];
    ended = Some mark;
    text = text;
    cause = subst (λ (s : DiskSeen). HasEnded tells shape from (seen_at old from) s mark) (sym is) (subst (λ (s : DiskSeen). HasEnded tells shape from s (f y) mark) was ended);
    told = λ peer in_it. absurd (none_in peer in_it);
    copied = [];
    source = λ told e. absurd (some_not e);
    done = λ e. absurd (some_not e);
  }
    where
      none_in : (peer : ℕ) → Contains {X = ℕ} [] peer → ⊥
      none_in peer h = let l = h.1 in absurd (omega (arith, l))

      some_not : Some mark ≡ None → ⊥
      some_not e = cc e

  pub stands_read : (source : Viewing) → Stands tells source.log ((f y).size source.log.side) (f y).stands → Stands tells source.log ((seen_at via from).size source.log.side) (seen_at via from).stands
  stands_read source h = subst (λ (s : DiskSeen). Stands tells source.log (s.size source.log.side) s.stands) (sym is) h

  -- where it is of another store it failed
  pub own_risen : HasRisen (f (slice_index_or disks from d)).faults (f y).faults → HasRisen (seen_at old from).faults (seen_at via from).faults
  own_risen h = subst (λ (s : DiskSeen). HasRisen (seen_at old from).faults s.faults) (sym is) (subst (λ (s : DiskSeen). HasRisen s.faults (f y).faults) was h)

  pub own_not : (o : Option LogFault) (found : Header) → (o ≡ Some (log.WrongShape found) → ⊥) → refusal_in shape from (f (slice_index_or disks from d)).stands.seen ≡ o → refusal_in shape from (seen_at old from).stands.seen ≡ Some (log.WrongShape found) → ⊥
  own_not o found not refused e = not (sym refused ∙ ap (λ (s : DiskSeen). refusal_in shape from s.stands.seen) was ∙ e)

  pub other_read : (found : Header) → (tells → refusal_in shape from (f (slice_index_or disks from d)).stands.seen ≡ Some (log.WrongShape found)) → (f y).faults ≡ (f (slice_index_or disks from d)).faults
      → IsOtherSource tells shape from (seen_at old from) (seen_at via from) (WrongShape from found)
  other_read found refused calm = (refl, λ told. sym (ap (λ (s : DiskSeen). refusal_in shape from s.stands.seen) was) ∙ refused told, ap (λ (s : DiskSeen). s.faults) is ∙ calm ∙ ap (λ (s : DiskSeen). s.faults) was)

  -- ---- and then its list was copied

  module _ (source : Viewing) (new : List DiskSeen) (listed : tells → IsSome (list_in (f (slice_index_or disks from d)).stands.seen))
      (has : tells → (list : List (ℕ × Entry)) → list_in (f (slice_index_or disks from d)).stands.seen ≡ Some list → HasView source (f y).stands.seen list)
      (calm : (f y).faults ≡ (f (slice_index_or disks from d)).faults) (up : before ≤ mid) (spares : Spares tells shape source from mid now (shape.shards * shape.copies) via new) where
    has_via : tells → (list : List (ℕ × Entry)) → list_in (seen_at old from).stands.seen ≡ Some list → HasView source (seen_at via from).stands.seen list
    has_via told list e = subst (λ (s : DiskSeen). HasView source s.stands.seen list) (sym is) (has told list (subst (λ (s : DiskSeen). list_in s.stands.seen ≡ Some list) (sym was) e))

    abbrev copied_list : List (ℕ × Entry)
    copied_list = unwrap_or (list_in (seen_at old from).stands.seen) []

    read_is : tells → list_in (seen_at old from).stands.seen ≡ Some copied_list
    read_is told = listed_of (list_in (seen_at old from).stands.seen) (subst (λ (s : DiskSeen). IsSome (list_in s.stands.seen)) was (listed told))

    calm_via : (seen_at via from).faults ≡ (seen_at old from).faults
    calm_via = ap (λ (s : DiskSeen). s.faults) is ∙ calm ∙ ap (λ (s : DiskSeen). s.faults) was

    ended_by : (mark : PeerMark) → IsStopped tells (HasView source (seen_at via from).stands.seen) (seen_at via from).faults (seen_at new from).faults mark → HasEnded tells shape from (seen_at old from) (seen_at new from) mark
    ended_by Same h = h
    ended_by (Behind count) h = h
    ended_by (Differs number) h = h
    ended_by (NoLog at) h = record { calm = h.0 ∙ calm_via; refused = λ told. absurd (h.1 told copied_list (has_via told copied_list (read_is told))) }
    ended_by Fault h = subst (λ n. HasRisen n (seen_at new from).faults) calm_via h

    cause_by : (o : Option PeerMark) → IfSome o (IsStopped tells (HasView source (seen_at via from).stands.seen) (seen_at via from).faults (seen_at new from).faults) → IfSome o (HasEnded tells shape from (seen_at old from) (seen_at new from))
    cause_by None h = tt
    cause_by (Some mark) h = ended_by mark h

    got_copy : (peer : ℕ) → (peer ≡ from → ⊥) → HasGot tells source mid (seen_at via from) (seen_at via peer) (seen_at new peer) → HasCopy tells before (seen_at old peer) (seen_at new peer) copied_list
    got_copy peer differ got =
        let whole : tells → (seen_at old peer).stands.last ≤ before → HasWhole (seen_at new peer) copied_list
        = λ told last. got.got.list told (subst (λ (s : DiskSeen). s.stands.last ≤ mid) (sym (there peer differ)) (omega (arith, last, up))) copied_list (has_via told copied_list (read_is told)) in
        record {
          calm = got.calm ∙ ap (λ (s : DiskSeen). s.faults) (there peer differ);
          gives = λ told last. (whole told last).gives;
          leaves = λ told last. (whole told last).leaves;
        }

    pub copied_so : (out out' : List ℕ) → HasGiven tells shape source from mid (shape.shards * shape.copies) via new out out' → HasCopied tells shape from before old new out out'
    copied_so out out' h = record {
      left = h.left;
      ended = h.ended;
      text = h.text;
      cause = cause_by h.ended h.stopped;
      told = λ peer in_it. let t = h.told peer in_it in (t.0, t.1, subst (λ (s : DiskSeen). IsLeft tells shape peer s (seen_at new peer)) (there peer t.1) t.2);
      copied = copied_list;
      source = λ told e. read_is told;
      done = λ e peer within beside differ. elim (h.done e peer within beside differ) [ inl left ↦ inl left | inr got ↦ inr (got_copy peer differ got) ];
    }

    pub source_copied : IsOnlyRead tells before mid (f (slice_index_or disks from d)) (f y) → IsOnlyRead tells before now (seen_at old from) (seen_at new from)
    source_copied h = only_called tells before now (seen_at old from) (seen_at via from) (seen_at new from) (only_wait tells before mid now (seen_at old from) (seen_at via from) spares.later (read_only h)) spares.still spares.read

    pub others_copied : (peer : ℕ) → (AreBeside shape from peer → ⊥) → seen_at new peer ≡ seen_at old peer
    others_copied peer out = spares.others peer out ∙ others_read peer out

    pub counted_copied : (f (slice_index_or disks from d)).faults ≤ (f y).faults → (peer : ℕ) → (seen_at old peer).faults ≤ (seen_at new peer).faults
    counted_copied h peer = let l = counted_read h peer in let m = spares.counted peer in omega (arith, l, m)

    pub fronts_copied : (peer : ℕ) → peer < shape.shards * shape.copies → (peer ≡ from → ⊥) → (tells → Since (seen_at old peer).stands) → (copied : List (ℕ × Entry)) → (tells → list_in (seen_at old from).stands.seen ≡ Some copied) → KeepsFronts tells before now (seen_at old peer) (seen_at new peer) copied
    fronts_copied peer within differ since copied read = λ told last held leaves.
        let first = each_wait (IsOldOrFront held copied) up (stays (seen_at old peer).stands before held (IsOldOrFront held copied) last (since told) leaves (record { one = inl refl })) in
        let second = spares.fronts peer within differ told (subst (λ (s : DiskSeen). s.stands.last ≤ mid) (sym (there peer differ)) (omega (arith, last, up))) copied (has_via told copied (read told)) held
        (subst (λ (s : DiskSeen). LeavesOnly s.stands held) (sym (there peer differ)) leaves) in
        each_then (IsOldOrFront held copied) first (subst (λ (s : DiskSeen). LeavesEach mid now s.stands (seen_at new peer).stands (IsOldOrFront held copied)) (there peer differ) second)
