-- What was read of all disks, and what is said of it.
use Rattle.std.proofs.Common.{◌≡◌, ◌∙◌, ◌+◌, ◌*◌, ◌-◌, ◌^◌, ◌++◌, ◌∷◌, [], ◌<◌, ◌≤◌, ◌⊎◌, inl, inr, ap, sym, subst, ℕ, zero, suc, List, Option, None, Some, length, map, refl, arith, get_or, is_some, take, drop, min, false, if◌then◌else◌}
use Rattle.std.proofs.Math.Nat.{suc-mul}
use Rattle.std.proofs.lemmas.Bool.{cases_lt, false≢true}
use Rattle.std.specs.List.{range_with_len}
use Rattle.std.specs.Prelude.{Err, IfSome, IsSome, unwrap_or}
use Rattle.hs_audit.proofs.GatherLemmas.{catalogues_long, map_same}
use Rattle.hs_audit.proofs.HollowLemmas.{same_report}
use Rattle.hs_audit.proofs.RereadLemmas.{risen_then}
use Rattle.hs_audit.specs.Audited.{Audits, CanBeAudited, CountsAs, HasGoodCopy, HaveOthersFailed, IsLostShard, IsAuditRefused, of_viewing}
use Rattle.hs_audit.specs.declared.fault.AuditFault.{AuditFault}
use Rattle.hs_audit.specs.declared.fault.AuditFault.TheVariants as fault
use Rattle.hs_audit.specs.Rereading.{AreReread, AreStill, HasShardView, IsFirstUnviewed, IsGathered, IsReread, IsStill, IsWithoutView, ran_out, shard_lists, viewing_at, viewed_list}
use Rattle.hs_audit.specs.Text.{lists_by, report}
use Rattle.hs_fold.specs.Opened.{chosen, chosen_each}
use Rattle.hs_fold.specs.Runs.Facts.{Catalogue as Folded, plain}
use Rattle.hs_fold.specs.Runs.Opened.{catalogues, store_of}
use Rattle.hs_fold.proofs.Runs.OwnLemmas.{lists-own}
use Rattle.hs_fold.specs.Shards.Opened.{store_of as listed}
use Rattle.hs_fold.specs.Shards.Setting.{Numbered, Setting}
use Rattle.hs_limits.specs.declared.shape.Shape.{Shape}
use Rattle.hs_limits.specs.Shape.{peer_of}
use Rattle.hs_memory.proofs.WholeLemmas.{whole}
use Rattle.hs_memory.specs.Whole.{add_folds}
use Rattle.hs_model.specs.declared.plain.PlainStore.{PlainStore}
use Rattle.hs_model.specs.Plain.{plain_of}
use Rattle.hs_model.specs.Store.{empty_store}
use Rattle.hs_peerlog.specs.declared.fault.LogFault.TheVariants as log
use Rattle.hs_peerlog.specs.Images.{LeavesAll}
use Rattle.hs_peerlog.specs.Opening.{refusal_in}
use Rattle.hs_peerlog.specs.Views.{Viewing}
use Rattle.hs_ports.specs.declared.disk.Side.{Side}
use Rattle.hs_ports.specs.Disk.{Standing}
use Rattle.hs_ports.specs.Fault.{HasRisen}
use Rattle.hs_side.specs.Current.{list_in}
use Rattle.hs_side.specs.declared.header.Header.{Header}
use Rattle.hs_taking.proofs.ChoiceLemmas.{shard_within}
use Rattle.hs_taking.specs.declared.fault.TakeFault.{TakeFault}
use Rattle.hs_taking.specs.declared.fault.TakeFault.TheVariants as take_fault
use Rattle.hs_taking.specs.Disks.{DiskSeen, seen_at}
use Rattle.hs_taking.specs.Viewed.{HasViewed, IsOnlyRead, IsOther, IsUnread, IsViewed}

-- the text of what was gathered is that of its lists
said_of : (set : Setting) (lists : List Numbered) (store : PlainStore) → length lists ≡ set.shape.shards
    → plain_of store ≡ add_folds set.shape 0 (catalogues set 0 lists) (empty_store set.shape.shards) → report (plain_of store) ≡ report (store_of (catalogues set 0 lists))
said_of set lists store one_each folded =
    let cs : List Folded = catalogues set 0 lists in
    let long : set.shape.shards ≡ length cs = sym (catalogues_long set 0 lists ∙ one_each) in
    ap report (folded ∙ ap (λ n. add_folds set.shape 0 cs (empty_store n)) long ∙ whole set.shape cs (lists-own set 0 lists)) ∙ same_report (listed (map plain cs))

-- ---- by shard the list that counts

drop_none : {A : Type 0} (n : ℕ) → drop {A = A} n [] ≡ []
drop_none zero = refl
drop_none (suc n) = refl

drop_more : {A : Type 0} (m n : ℕ) (xs : List A) → drop n (drop m xs) ≡ drop (m + n) xs
drop_more zero n xs = let e : 0 + n ≡ n = omega arith in ap (λ k. drop k xs) (sym e)
drop_more (suc m) n [] = let e : suc m + n ≡ suc (m + n) = omega arith in drop_none n ∙ ap (λ k. drop k []) (sym e)
drop_more (suc m) n (x ∷ xs) = let e : suc m + n ≡ suc (m + n) = omega arith in drop_more m n xs ∙ ap (λ k. drop k (x ∷ xs)) (sym e)

chosen_by_shard : (shards copies : ℕ) (lists all : List Numbered) → length lists ≡ shards → ((k : ℕ) → k < shards → get_or lists k [] ≡ chosen (take copies (drop (k * copies) all))) → lists ≡ chosen_each shards copies all
chosen_by_shard zero copies [] all long each = refl
chosen_by_shard zero copies (x ∷ lists) all long each = absurd (omega (arith, long))
chosen_by_shard (suc n) copies [] all long each = absurd (omega (arith, long))
chosen_by_shard (suc n) copies (x ∷ lists) all long each =
    let first : x ≡ chosen (take copies all) = each 0 (omega arith) ∙ (let z : 0 * copies ≡ 0 = omega arith in ap (λ m. chosen (take copies (drop m all))) z) in
    let rest = chosen_by_shard n copies lists (drop copies all) (omega (arith, long))
    (λ k low. each (suc k) (omega (arith, low)) ∙ ap (λ m. chosen (take copies (drop m all))) (let e : suc k * copies ≡ k * copies + copies = suc-mul k copies in let f : k * copies + copies ≡ copies + k * copies = omega arith in e ∙ f)
    ∙ ap (λ z. chosen (take copies z)) (sym (drop_more copies (k * copies) all))) in
    ap (λ y. y ∷ lists) first ∙ ap (λ ys. chosen (take copies all) ∷ ys) rest

drop_range : {A : Type 0} (f : ℕ → A) (from m n : ℕ) → drop m (map f (range_with_len from (m + n))) ≡ map f (range_with_len (from + m) n)
drop_range f from zero n = let e : from ≡ from + 0 = omega arith in let g : zero + n ≡ n = omega arith in ap (λ k. map f (range_with_len from k)) g ∙ ap (λ k. map f (range_with_len k n)) e
drop_range f from (suc m) n =
    let e : suc m + n ≡ suc (m + n) = omega arith in
    let g : from + 1 + m ≡ from + suc m = omega arith in
    ap (λ k. drop (suc m) (map f (range_with_len from k))) e ∙ drop_range f (from + 1) m n ∙ ap (λ k. map f (range_with_len k n)) g

take_range : {A : Type 0} (f : ℕ → A) (from m n : ℕ) → take m (map f (range_with_len from (m + n))) ≡ map f (range_with_len from m)
take_range f from zero n = refl
take_range f from (suc m) n =
    let e : suc m + n ≡ suc (m + n) = omega arith in
    ap (λ k. take (suc m) (map f (range_with_len from k))) e ∙ ap (λ z. f from ∷ z) (take_range f (from + 1) m n)

part_of_range : {A : Type 0} (f : ℕ → A) (total from n : ℕ) → from + n ≤ total → take n (drop from (map f (range_with_len 0 total))) ≡ map f (range_with_len from n)
part_of_range f total from n fits =
    let e : total ≡ from + (n + (total - (from + n))) = omega (arith, fits) in
    ap (λ k. take n (drop from (map f (range_with_len 0 k)))) e
    ∙ ap (λ z. take n z) (drop_range f 0 from (n + (total - (from + n))))
    ∙ take_range f (0 + from) n (total - (from + n))
    ∙ ap (λ k. map f (range_with_len k n)) (omega arith)

-- ---- one disk

risen_or : (tells : Type 0) (X : Type 0) (before now : ℕ) → (tells → HasRisen before now) → HasRisen before now ⊎ (tells → X)
risen_or tells X before now h = elim (cases_lt now (min (before + 1) (2 ^ 64 - 1))) [
  | inl below ↦ inr (λ told. let r = h told in absurd (omega (arith, below, r)))
  | inr rose ↦ inl rose
]

risen_from : (a b c : ℕ) → a ≤ b → HasRisen b c → HasRisen a c
risen_from a b c le h = omega (arith, le, h)

some_is : {A : Type 0} (o : Option A) → IsSome o → (x : A) × (o ≡ Some x)
some_is None h = absurd (false≢true h)
some_is (Some x) h = (x, refl)

module _ (tells : Type 0) (shape : Shape) (peer : ℕ) (entry viewed final : DiskSeen) (first last : Option Viewing) (before now : ℕ)
    (is : IsViewed tells shape peer entry viewed first) (read : IsOnlyRead tells before now entry viewed) (counted : viewed.faults ≤ final.faults) (reread : IsReread tells viewed final first last) where
  calm_of : (o : Option Viewing) → first ≡ o → IsSome o → viewed.faults ≡ entry.faults
  calm_of None e h = absurd (false≢true h)
  calm_of (Some v) e h = (subst (λ o. IfSome o (HasViewed tells shape peer entry viewed)) e is.some).calm

  listed_of : (o : Option Viewing) → first ≡ o → IsSome o → tells → IsSome (list_in entry.stands.seen)
  listed_of None e h = absurd (false≢true h)
  listed_of (Some v) e h = (subst (λ o. IfSome o (HasViewed tells shape peer entry viewed)) e is.some).listed

  -- the view stays: no call failed, and the disk has a list
  pub still_viewed : IsSome last → (final.faults ≡ entry.faults) × (tells → IsSome (list_in entry.stands.seen))
  still_viewed there = go reread
    where
      go : IsReread tells viewed final first last → (final.faults ≡ entry.faults) × (tells → IsSome (list_in entry.stands.seen))
      go (inl h) =
          let had : IsSome first = subst (λ o. IsSome o) h.0 there in
          (h.1 ∙ calm_of first refl had, listed_of first refl had)
      go (inr h) = absurd (false≢true (subst (λ o. IsSome o) h.0 there))

  -- there is none any more: the disk failed, or is no log
  pub unviewed : last ≡ None → IsUnread tells entry final
  unviewed none = go reread
    where
      from_first : IsUnread tells entry viewed → final.faults ≡ viewed.faults → IsUnread tells entry final
      from_first (inl rose) same = inl (subst (λ n. HasRisen entry.faults n) (sym same) rose)
      from_first (inr none_in) same = inr none_in

      go : IsReread tells viewed final first last → IsUnread tells entry final
      go (inl h) = from_first (is.none (sym h.0 ∙ none)) h.1
      go (inr h) = risen_or tells (list_in entry.stands.seen ≡ None) entry.faults final.faults (λ told. risen_from entry.faults viewed.faults final.faults read.counted (h.1 told))

  pub other_failed : tells → (found : Header) → refusal_in shape peer entry.stands.seen ≡ Some (log.WrongShape found) → HasRisen entry.faults final.faults
  other_failed told found refused = risen_then entry.faults viewed.faults final.faults (is.own told found refused) counted

  abbrev pub log_as : Option Viewing → Option Numbered
  log_as view = if is_some view then Some (unwrap_or (list_in entry.stands.seen) []) else None

  pub counts_as : CountsAs tells entry final (log_as last)
  counts_as = go last refl
    where
      there : (o : Option Numbered) → IsSome o → Some (unwrap_or o []) ≡ o
      there None h = absurd (false≢true h)
      there (Some list) h = refl

      no_log : (o : Option Numbered) → o ≡ None → IsUnread tells entry final → tells → (o ≡ list_in entry.stands.seen) ⊎ ((o ≡ None) × HasRisen entry.faults final.faults)
      no_log o e (inl rose) told = inr (e, rose)
      no_log o e (inr none_in) told = inl (e ∙ sym (none_in told))

      go : (o : Option Viewing) → last ≡ o → CountsAs tells entry final (log_as o)
      go None e = record { read = no_log None refl (unviewed e); calm = λ h. absurd (false≢true h) }
      go (Some v) e =
          let still = still_viewed (subst (λ o. IsSome o) (sym e) (some_there v)) in
          record { read = λ told. inl (there (list_in entry.stands.seen) (still.1 told)); calm = λ h. still.0 }
        where
          some_there : (v : Viewing) → IsSome (Some v)
          some_there v = refl

-- ---- all of them

module _ (tells : Type 0) (set : Setting) (entry viewed final : List DiskSeen) (first last : List (Option Viewing)) (before now : ℕ)
    (count : length entry ≡ set.shape.shards * set.shape.copies)
    (is : (peer : ℕ) → peer < length entry → IsViewed tells set.shape peer (seen_at entry peer) (seen_at viewed peer) (viewing_at first peer))
    (read : (peer : ℕ) → peer < length entry → IsOnlyRead tells before now (seen_at entry peer) (seen_at viewed peer))
    (still : AreStill tells (set.shape.shards * set.shape.copies) viewed final) (reread : AreReread tells (set.shape.shards * set.shape.copies) viewed final first last) where
  within : (shard copy : ℕ) → shard < set.shape.shards → copy < set.shape.copies → peer_of set.shape shard copy < length entry
  within shard copy low small = let w = shard_within set.shape shard low in omega (arith, w, small, count)

  abbrev log_of : ℕ → Option Numbered
  log_of peer = if is_some (viewing_at last peer) then Some (unwrap_or (list_in (seen_at entry peer).stands.seen) []) else None

  pub have_failed : HaveOthersFailed tells set.shape entry final
  have_failed = λ told peer found low refused.
      let less : peer < set.shape.shards * set.shape.copies = omega (arith, low, count) in
      other_failed tells set.shape peer (seen_at entry peer) (seen_at viewed peer) (seen_at final peer) (viewing_at first peer) (viewing_at last peer) before now (is peer low) (read peer low) (still peer less).counted (reread peer less) told found refused

  good_copy : (shard : ℕ) → shard < set.shape.shards → HasShardView set.shape last shard → HasGoodCopy tells set.shape entry final shard
  good_copy shard low h =
      let p : ℕ = peer_of set.shape shard h.copy in
      let in_all : p < length entry = within shard h.copy low h.within in
      let less : p < set.shape.shards * set.shape.copies = omega (arith, in_all, count) in
      let so = still_viewed tells set.shape p (seen_at entry p) (seen_at viewed p) (seen_at final p) (viewing_at first p) (viewing_at last p) before now (is p in_all) (read p in_all) (still p less).counted (reread p less) h.there in
      record { copy = h.copy; within = h.within; listed = so.1; calm = so.0 }

  -- the lists by peer, of a shard
  same_lists : tells → (shard : ℕ) → shard < set.shape.shards → shard_lists set.shape viewed last shard ≡ take set.shape.copies (drop (shard * set.shape.copies) (lists_by (length entry) log_of))
  same_lists told shard low =
      let from : peer_of set.shape shard 0 ≡ shard * set.shape.copies = omega arith in
      let fits : peer_of set.shape shard 0 + set.shape.copies ≤ length entry = let w = shard_within set.shape shard low in omega (arith, w, count) in
      map_same (viewed_list viewed last) (λ peer. unwrap_or (log_of peer) []) (peer_of set.shape shard 0) set.shape.copies (λ i small. one (peer_of set.shape shard 0 + i) (omega (arith, small, fits)))
      ∙ sym (part_of_range (λ peer. unwrap_or (log_of peer) []) (length entry) (peer_of set.shape shard 0) set.shape.copies fits)
      ∙ ap (λ n. take set.shape.copies (drop n (lists_by (length entry) log_of))) from
    where
      by : (o : Option Viewing) (a b : Option Numbered) → a ≡ b → (if is_some o then unwrap_or a [] else []) ≡ unwrap_or (if is_some o then Some (unwrap_or b []) else None) []
      by None a b e = refl
      by (Some v) a b e = ap (λ l. unwrap_or l []) e

      one : (peer : ℕ) → peer < length entry → viewed_list viewed last peer ≡ unwrap_or (log_of peer) []
      one peer in_all =
          let both : (seen_at viewed peer).stands.seen ≡ (seen_at entry peer).stands.seen = λ i side. (read peer in_all).seen told side i in
          by (viewing_at last peer) (list_in (seen_at viewed peer).stands.seen) (list_in (seen_at entry peer).stands.seen) (ap (λ (s : Side → List ℕ). list_in s) both)

  pub audited : (store : PlainStore) (text old new : List ℕ) → IsGathered tells set viewed last set.shape.shards store → text ≡ report (plain_of store) → new ≡ old ++ text → Audits tells set entry final old new
  audited store text old new gathered written put =
      let says : new ≡ old ++ report (store_of (catalogues set 0 gathered.lists)) = put ∙ ap (λ t. old ++ t) (written ∙ said_of set gathered.lists store gathered.one_each gathered.folded) in
      record {
        log = log_of;
        read = λ peer low.
            let less : peer < set.shape.shards * set.shape.copies = omega (arith, low, count) in
            counts_as tells set.shape peer (seen_at entry peer) (seen_at viewed peer) (seen_at final peer) (viewing_at first peer) (viewing_at last peer) before now (is peer low) (read peer low) (still peer less).counted (reread peer less);
        others = have_failed;
        shards = λ shard low. good_copy shard low (gathered.viewed shard low);
        told = λ told. says ∙ ap (λ (z : List Numbered). old ++ report (store_of (catalogues set 0 z)))
            (chosen_by_shard set.shape.shards set.shape.copies gathered.lists (lists_by (length entry) log_of) gathered.one_each (λ k low. gathered.told told k low ∙ ap chosen (same_lists told k low)));
        lists = gathered.lists;
        one_each = gathered.one_each;
        said = says;
      }

  pub lost : (shard : ℕ) → IsWithoutView set.shape last shard → IsLostShard tells set.shape entry final shard
  lost shard h = record {
    within = h.within;
    each = λ copy small.
        let p : ℕ = peer_of set.shape shard copy in
        let in_all : p < length entry = within shard copy h.within small in
        let less : p < set.shape.shards * set.shape.copies = omega (arith, in_all, count) in
        unviewed tells set.shape p (seen_at entry p) (seen_at viewed p) (seen_at final p) (viewing_at first p) (viewing_at last p) before now (is p in_all) (read p in_all) (still p less).counted (reread p less) (h.none copy small);
    first = λ k low. good_copy k (let w = h.within in omega (arith, low, w)) (h.first k low);
    others = have_failed;
  }

-- ---- where they can be audited

pub not_refused : (tells : Type 0) (shape : Shape) (old new : List DiskSeen) (why : AuditFault) → tells → length old ≡ shape.shards * shape.copies → CanBeAudited shape old new → IsAuditRefused tells shape old new why → why ≡ fault.NoMemory
not_refused tells shape old new (fault.WrongShape peer found) told count can h = absurd (can.own peer found h.within (h.told told))
not_refused tells shape old new fault.NoMemory told count can h = refl
not_refused tells shape old new (fault.ShardLost shard) told count can h =
    let r = can.read shard h.within in
    let p : ℕ = peer_of shape shard r.0 in
    let less : p < shape.shards * shape.copies = let w = shard_within shape shard h.within in let s = r.1 in omega (arith, w, s) in
    absurd (go p less r.2 (h.each r.0 r.1))
  where
    go : (p : ℕ) → p < shape.shards * shape.copies → IsSome (list_in (seen_at old p).stands.seen) → IsUnread tells (seen_at old p) (seen_at new p) → ⊥
    go p less there (inl rose) = can.calm p less rose
    go p less there (inr none_in) = false≢true (subst (λ o. IsSome o) (none_in told) there)

-- ---- the other clauses

-- reads behind the views leave a disk as it is
pub read_on : (tells : Type 0) (before now : ℕ) (a b c : DiskSeen) → IsOnlyRead tells before now a b → IsStill tells b c → IsOnlyRead tells before now a c
read_on tells before now a b c read still = record {
  seen = λ told side. ap (λ (s : Standing). s.seen side) (still.same told) ∙ read.seen told side;
  moments = λ told last. subst (λ (s : Standing). LeavesAll before now a.stands s) (sym (still.same told)) (read.moments told last);
  counted = let l = read.counted in let m = still.counted in omega (arith, l, m);
}

pub refused_by_viewing : (tells : Type 0) (shape : Shape) (old new : List DiskSeen) (why : TakeFault) → IsOther tells shape old new why → IsAuditRefused tells shape old new (of_viewing why)
refused_by_viewing tells shape old new (take_fault.WrongShape peer found) h = h
refused_by_viewing tells shape old new take_fault.NoMemory h = tt

pub refused_of : (tells T : Type 0) (set : Setting) (entry viewed final : List DiskSeen) (first last : List (Option Viewing)) (before now : ℕ)
    → length entry ≡ set.shape.shards * set.shape.copies
    → ((peer : ℕ) → peer < length entry → IsViewed tells set.shape peer (seen_at entry peer) (seen_at viewed peer) (viewing_at first peer))
    → ((peer : ℕ) → peer < length entry → IsOnlyRead tells before now (seen_at entry peer) (seen_at viewed peer))
    → AreStill tells (set.shape.shards * set.shape.copies) viewed final → (why : AuditFault)
    → (ran_out {T = T} (Err why) ≡ false → AreReread tells (set.shape.shards * set.shape.copies) viewed final first last)
    → IsFirstUnviewed set.shape last why → IsAuditRefused tells set.shape entry final why
refused_of tells T set entry viewed final first last before now count is read still (fault.WrongShape peer found) reread h = absurd h
refused_of tells T set entry viewed final first last before now count is read still (fault.ShardLost shard) reread h =
    lost tells set entry viewed final first last before now count is read still (reread refl) shard h
refused_of tells T set entry viewed final first last before now count is read still fault.NoMemory reread h = tt
