-- Why a listing stops, where its store is told.
use Rattle.std.proofs.Common.{◌≡◌, ◌∙◌, inl, inr, ℕ, ◌+◌, ◌<◌, ◌≤◌, List, [], ◌∷◌, ◌++◌, Some, None, false, refl, sym, ap, subst, arith, append-nil, append_assoc, drop, get_or, length, map, slice_get, take}
use Rattle.std.proofs.lemmas.List.{length-append, length-map}
use Rattle.std.specs.BTreeMap.{is_at}
use Rattle.std.specs.Map.{lookup}
use Rattle.hs_asking.specs.Alone.{IsLooked, looked, nothing}
use Rattle.hs_asking.specs.Judged.{IsJudged}
use Rattle.hs_asking.specs.Lawful.{AreAnswersOf}
use Rattle.hs_asking.specs.Shown.{Began, IfTold, Shown, store_now}
use Rattle.hs_asking.specs.Telling.{grants, is_bytes, is_held, is_ok}
use Rattle.hs_copy.proofs.AllLemmas.{began_so, first_of, holds_root, looked_at, starts}
use Rattle.hs_copy.proofs.BackLemmas.{cause_back}
use Rattle.hs_copy.proofs.ListingLemmas.{different_more, forget_one, its_address, split_at}
use Rattle.hs_copy.proofs.OwnLemmas.{judged_own, own-trans}
use Rattle.hs_copy.proofs.ReadLemmas.{judged_forget, judged_read, when_forgot, when_read}
use Rattle.hs_copy.proofs.StepLemmas.{split_with}
use Rattle.hs_copy.specs.Calls.{CallFails}
use Rattle.hs_copy.specs.Finding.{IsRootCause, Reads}
use Rattle.hs_copy.specs.Listing.{KeepsItsOwn}
use Rattle.hs_copy.specs.Whole.{HoldsRoot, IsHeldAddress, IsListCause, IsListing, ListFails, ListsSoFar, NumberFails, NumbersAll, NumbersFail, ReadFails, addresses_of}
use Rattle.hs_copy.specs.declared.fault.PartFault.{PartFault}
use Rattle.hs_copy.specs.declared.fault.PartFault.TheVariants as part
use Rattle.hs_copy.specs.declared.list.Found.{Found}
use Rattle.hs_copy.specs.declared.list.Listed.{Listed}
use Rattle.hs_limits.specs.Limits.{greatest_limits}
use Rattle.hs_limits.specs.declared.address.Address.{Address}
use Rattle.hs_model.proofs.Members.{member-append, member-append_left, member-append_right, member_from_contains, member_of_map}
use Rattle.hs_model.specs.Reach.{IsReached}
use Rattle.hs_model.specs.Store.{Root, Store, address_cmp, retained_at}
use Rattle.hs_model.specs.declared.op.Op.TheVariants as op
use Rattle.hs_model.specs.declared.reply.Reply.{Reply}
use Rattle.hs_model.specs.declared.reply.Reply.TheVariants as reply
use Rattle.hs_tree.proofs.FileReads.{looked_as, opened_as}
use Rattle.hs_tree.specs.Calls.{Hears}
use Rattle.hs_tree.specs.Fetching.{IsAlone}
use Rattle.hs_tree.specs.Storing.{our_session}
use Rattle.hs_tree.specs.Telling.{IsLookedAs}

-- a cause later is one before, where the store keeps its own meanwhile
cause_before : {tells : Type 0} (b : Began) (old mid : Shown tells) (key : List ℕ) (root : Root) (f : PartFault) → KeepsItsOwn (store_now b old) (store_now b mid) → retained_at (store_now b old) key ≡ Some root → IsListCause (store_now b mid) root.address f → IsListCause (store_now b old) root.address f
cause_before b old mid key root f own kept h = cause_back (store_now b old) (store_now b mid) root.address (own.blocks key root kept) f h

-- ---- one that waits is numbered

pub forget_fails : {tells : Type 0} (old new : Shown tells) (handle : ℕ) (numbers : List (Address × ℕ)) (found : List Found) (f : PartFault) → CallFails old new (op.Forget our_session handle) f → NumberFails old handle numbers found f
unfolding grants
forget_fails old new handle numbers found (part.Core core) c is key root listed k w rest same h = tt
forget_fails old new handle numbers found (part.Refused told) c is key root listed k w rest same h =
    let b : Began = old.began in
    let j = subst (λ z. IsJudged b.limits (store_now b old) (store_now b new) (op.Forget our_session z) told) (sym same) (c.0.judged is) in
    let g = forget_one b.limits (store_now b old) (store_now b new) h.next h.entries h.seat h.ahead w rest told h.held j in
    let z = subst (λ z. is_ok z ≡ false) g.is.told_is c.1 in
    cc z
forget_fails old new handle numbers found part.TooMany c is key root listed k w rest same h = absurd c
forget_fails old new handle numbers found part.NoMemory c is key root listed k w rest same h = tt

pub many_found : {tells : Type 0} (old : Shown tells) (handle : ℕ) (numbers : List (Address × ℕ)) (found : List Found) (a : Address) → IsHeldAddress old our_session handle a → lookup (is_at (address_cmp a)) numbers ≡ None → 4000 ≤ length found → NumberFails old handle numbers found part.TooMany
many_found old handle numbers found a stands none many is key root listed k w rest same h =
    let s : Store = store_now old.began old in
    let at : w.address ≡ a = its_address old handle numbers found a stands is key root listed k w rest same h in
    let new : lookup (is_at (address_cmp w.address)) numbers ≡ None = subst (λ z. lookup (is_at (address_cmp z)) numbers ≡ None) (sym at) none in
    let longer : length (addresses_of found ++ w.address ∷ []) ≡ length (addresses_of found) + 1 = length-append (addresses_of found) (w.address ∷ []) in
    let long : length (addresses_of found) ≡ length found = length-map found (λ (f : Found). f.address) in
    record {
      list = addresses_of found ++ w.address ∷ [];
      once = different_more (addresses_of found) w.address h.once (h.numbered.new w.address new);
      reached = λ b c. elim (member-append b (addresses_of found) (w.address ∷ []) (member_from_contains b (addresses_of found ++ w.address ∷ []) c)) [
        | inl m ↦ (let r = member_of_map (λ (f : Found). f.address) b found m in subst (λ z. IsReached s (root.address ∷ []) z) (sym r.2) (h.reached r.0 (member-append_left r.0 found (w ∷ rest) r.1)))
        | inr m ↦ elim m [ inl e ↦ subst (λ z. IsReached s (root.address ∷ []) z) (sym e) (h.reached w (member-append_right w found (w ∷ rest) (inl refl))) | inr n ↦ absurd n ]
      ];
      more = omega (arith, longer, long, many);
    }

-- one of several
pub numbers_fail : {tells : Type 0} (old mid : Shown tells) (handles : List ℕ) (i d : ℕ) (m0 m1 : List (Address × ℕ)) (f0 f1 : List Found) (ptrs : List ℕ) (f : PartFault) → i < length handles → Reads old mid 0 → NumbersAll old mid (take i handles) m0 m1 f0 f1 ptrs → NumberFails mid (get_or handles i d) m1 f1 f → NumbersFail old handles m0 f0 f
numbers_fail old mid handles i d m0 m1 f0 f1 ptrs f within reads h c is key root listed k ws rest e l =
    let b : Began = old.began in
    let sp = split_at ws (take i handles) (get_or handles i d) (drop (i + 1) handles) (e ∙ split_with handles i d within) in
    let row : ws ++ rest ≡ sp.front ++ (sp.at ∷ (sp.back ++ rest)) = ap (λ z. z ++ rest) sp.whole ∙ append_assoc sp.front (sp.at ∷ sp.back) rest in
    let first = h.goes is key root listed k sp.front (sp.at ∷ (sp.back ++ rest)) sp.handles (subst (λ z. IsListing (store_now b old) key root m0 f0 listed k z) row l) in
    let at : IsListing (store_now mid.began mid) key root m1 f1 listed k (sp.at ∷ (sp.back ++ rest)) = subst (λ (z : Began). IsListing (store_now z mid) key root m1 f1 listed k (sp.at ∷ (sp.back ++ rest))) (sym h.began) first.0 in
    let cause : IsListCause (store_now mid.began mid) root.address f = c is key root listed k sp.at (sp.back ++ rest) sp.is at in
    cause_before b old mid key root f (reads.keeps is l.seat.sane).0 l.kept (subst (λ (z : Began). IsListCause (store_now z mid) root.address f) h.began cause)

-- ---- a block is read

pub read_fails : {tells : Type 0} (old new : Shown tells) (handle : ℕ) (numbers : List (Address × ℕ)) (found : List Found) (f : PartFault) → CallFails old new (op.Read our_session handle) f → ReadFails old handle numbers found f
unfolding grants
read_fails old new handle numbers found (part.Core core) c is greatest few key root listed w at same h = tt
read_fails old new handle numbers found (part.Refused told) c is greatest few key root listed w at same h =
    let r = when_read old new new handle numbers found told c.0 is greatest few key root listed w at same h in
    let z = subst (λ z. is_bytes z ≡ false) r.told_is c.1 in
    cc z
read_fails old new handle numbers found part.TooMany c is greatest few key root listed w at same h = absurd c
read_fails old new handle numbers found part.NoMemory c is greatest few key root listed w at same h = tt

module _ {tells : Type 0} (old read : Shown tells) (handle : ℕ) (numbers : List (Address × ℕ)) (found : List Found) (bytes handles : List ℕ) (hears : Hears old read (op.Read our_session handle) (reply.Bytes bytes handles)) where
  pub unforgotten : (new : Shown tells) (f : PartFault) → CallFails read new (op.Forget our_session handle) f → ReadFails old handle numbers found f
  unfolding grants
  unforgotten new (part.Core core) c is greatest few key root listed w at same h = tt
  unforgotten new (part.Refused told) c is greatest few key root listed w at same h =
      let r = when_read old read new handle numbers found (reply.Bytes bytes handles) hears is greatest few key root listed w at same h in
      let g = when_forgot old read new handle numbers found (reply.Bytes bytes handles) hears told c.0 is greatest few key root listed w at same r.waiting r.listing in
      let z = subst (λ z. is_ok z ≡ false) g.told_is c.1 in
      cc z
  unforgotten new part.TooMany c is greatest few key root listed w at same h = absurd c
  unforgotten new part.NoMemory c is greatest few key root listed w at same h = tt

  pub unnumbered : (forgot : Shown tells) (f : PartFault) → Hears read forgot (op.Forget our_session handle) reply.Ok → NumbersFail forgot handles numbers found f → ReadFails old handle numbers found f
  unnumbered forgot f forgets c is greatest few key root listed w at same h =
      let b : Began = old.began in
      let told : Reply = reply.Bytes bytes handles in
      let began : forgot.began ≡ b = forgets.began ∙ hears.began in
      let r = when_read old read forgot handle numbers found told hears is greatest few key root listed w at same h in
      let g = when_forgot old read forgot handle numbers found told hears reply.Ok forgets is greatest few key root listed w at same r.waiting r.listing in
      let are : map (λ (f : Found). f.handle) r.waiting ≡ handles = told_handles bytes r.stored.bytes handles (map (λ (f : Found). f.handle) r.waiting) r.told_is in
      let waiting : IsListing (store_now forgot.began forgot) key root numbers found listed (length listed + 1) (r.waiting ++ []) = subst (λ (z : Began). IsListing (store_now z forgot) key root numbers found listed (length listed + 1) (r.waiting ++ [])) (sym began) (subst (λ z. IsListing (store_now b forgot) key root numbers found listed (length listed + 1) z) (sym (append-nil r.waiting)) g.listing) in
      let cause : IsListCause (store_now b forgot) root.address f = subst (λ (z : Began). IsListCause (store_now z forgot) root.address f) began (c is key root listed (length listed + 1) r.waiting [] are waiting) in
      let one = judged_own b.limits (store_now b old) (store_now b read) (op.Read our_session w.handle) told h.seat.sane (λ key. tt) (judged_read old read forgot handle numbers found told hears is w same) in
      let two = judged_own b.limits (store_now b read) (store_now b forgot) (op.Forget our_session w.handle) reply.Ok r.listing.seat.sane (λ key. tt) (judged_forget old read forgot handle numbers found told hears reply.Ok forgets is w same) in
      cause_before b old forgot key root f (own-trans (store_now b old) (store_now b read) (store_now b forgot) one.0 two.0) h.kept cause
    where
      told_handles : (bytes other : List ℕ) (handles those : List ℕ) → reply.Bytes bytes handles ≡ reply.Bytes other those → those ≡ handles
      told_handles bytes other handles those e = cc e

-- ---- a listing

pub begun_fails : {tells : Type 0} (old : Shown tells) (handle : ℕ) (none : List (Address × ℕ)) (empty : List Found) (f : PartFault) → none ≡ [] → empty ≡ [] → NumberFails old handle none empty f → ListFails old handle f
begun_fails old handle none empty f e g c is greatest key root holds =
    let s : Store = store_now old.began old in
    let w : Found = first_of root handle in
    c is key root [] 0 w [] refl (subst (λ z. IsListing s key root z empty [] 0 (w ∷ [])) (sym e) (subst (λ z. IsListing s key root [] z [] 0 (w ∷ [])) (sym g) (starts s key root handle holds)))

pub more_fails : {tells : Type 0} (old mid : Shown tells) (handle next n : ℕ) (numbers : List (Address × ℕ)) (found : List Found) (listed : List Listed) (w : Found) (f : PartFault) → length found ≤ 4000 → slice_get found (length listed) ≡ Some w → w.handle ≡ next → Reads old mid n → ListsSoFar old mid handle numbers found listed → ReadFails mid next numbers found f → ListFails old handle f
more_fails old mid handle next n numbers found listed w f few at same reads h c is greatest key root holds =
    let b : Began = old.began in
    let began : mid.began ≡ b = reads.began in
    let l : IsListing (store_now mid.began mid) key root numbers found listed (length listed) [] = subst (λ (z : Began). IsListing (store_now z mid) key root numbers found listed (length listed) []) (sym began) (h is greatest key root holds) in
    let cause = c is (ap (λ (z : Began). z.limits) began ∙ greatest) few key root listed w at same l in
    cause_before b old mid key root f (reads.keeps is holds.seat.sane).0 holds.kept (subst (λ (z : Began). IsListCause (store_now z mid) root.address f) began cause)

-- ---- with the look

module _ {tells : Type 0} (key : List ℕ) (old : Shown tells) (alone : IfTold old (λ b. IsAlone b old)) (law : IfTold old (λ b. AreAnswersOf b old)) where
  pub open_cause : (new : Shown tells) (f : PartFault) → CallFails old new (op.Open our_session) f → IfTold old (λ b. IsRootCause (store_now b old) key f)
  unfolding grants
  open_cause new (part.Core core) c is = tt
  open_cause new (part.Refused told) c is =
      let o = opened_as key old alone law new is old.began refl told c.0 in
      let z = subst (λ z. is_ok z ≡ false) o.told_is c.1 in
      absurd (cc z)
  open_cause new part.TooMany c is = absurd c
  open_cause new part.NoMemory c is = tt

  module _ (mid : Shown tells) (opened : Hears old mid (op.Open our_session) reply.Ok) where
    pub look_cause : (new : Shown tells) (f : PartFault) → CallFails mid new (op.Look our_session key) f → IfTold old (λ b. IsRootCause (store_now b old) key f)
    unfolding grants
    look_cause new (part.Core core) c is = tt
    look_cause new (part.Refused told) c is = which (looked_as key old alone law mid opened new is old.began refl told c.0)
      where
        which : IsLooked (store_now old.began mid) (store_now old.began new) our_session 0 [] key told → IsRootCause (store_now old.began old) key (part.Refused told)
        which (looked root epoch kept e goes) = let z = subst (λ z. is_held z ≡ false) e c.1 in absurd (cc z)
        which (nothing e none goes) = let o = opened_as key old alone law mid is old.began refl reply.Ok opened in (e, sym (goes.roots key ∙ o.goes.roots key) ∙ none)
    look_cause new part.TooMany c is = absurd c
    look_cause new part.NoMemory c is = tt

    module _ (now : Shown tells) (handle : ℕ) (w : IsLookedAs mid now (op.Look our_session key) handle) where
      pub list_cause : (f : PartFault) → ListFails now handle f → IfTold old (λ b. IsRootCause (store_now b old) key f)
      list_cause f c is =
          let b : Began = old.began in
          let l = looked_at key old mid now handle alone law opened w is in
          let began : now.began ≡ b = began_so key old mid now handle alone law opened w in
          let told = subst (λ (z : Began). z.limits ≡ greatest_limits → (key : List ℕ) (root : Root) → HoldsRoot (store_now z now) key root handle → IsListCause (store_now z now) root.address f) began (c is) in
          let cause = told (alone is).limits key l.root (holds_root key old mid now handle alone law opened w is) in
          of_root f (cause_back (store_now b old) (store_now b now) l.root.address l.stays f cause)
        where
          of_root : (f : PartFault) → IsListCause (store_now old.began old) (looked_at key old mid now handle alone law opened w is).root.address f → IsRootCause (store_now old.began old) key f
          of_root (part.Core core) h = tt
          of_root (part.Refused told) h = absurd h
          of_root part.TooMany h = ((looked_at key old mid now handle alone law opened w is).root, (looked_at key old mid now handle alone law opened w is).before, h)
          of_root part.NoMemory h = tt
