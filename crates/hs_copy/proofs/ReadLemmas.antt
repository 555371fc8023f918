-- A block is read, its handle forgotten, and what it points to numbered.
use Rattle.std.proofs.Common.{◌≡◌, ◌∙◌, ◌⊎◌, inl, inr, ℕ, ◌+◌, ◌≤◌, zero, suc, List, [], ◌∷◌, ◌++◌, Some, refl, sym, ap, subst, arith, append-nil, append_assoc, length, map, slice_get, Contains}
use Rattle.std.proofs.lemmas.List.{length-append, map-append}
use Rattle.std.specs.List.{AllZip, range_with_len}
use Rattle.hs_asking.proofs.AloneLemmas.{reads_alone}
use Rattle.hs_asking.specs.Alone.{IsRead}
use Rattle.hs_asking.specs.Judged.{IsJudged}
use Rattle.hs_asking.specs.Seats.{HasSeat, numbered}
use Rattle.hs_asking.specs.Shown.{Began, Shown, store_now}
use Rattle.hs_asking.specs.Staying.{Stays}
use Rattle.hs_copy.proofs.BackLemmas.{same_at}
use Rattle.hs_copy.proofs.BlockLemmas.{some_is}
use Rattle.hs_copy.proofs.CopiedLemmas.{reached_more}
use Rattle.hs_copy.proofs.ListingLemmas.{blocks_stay, first_stays, forget_one, reached_stays}
use Rattle.hs_copy.proofs.OwnLemmas.{judged_own}
use Rattle.hs_copy.proofs.PlaceLemmas.{get_front}
use Rattle.hs_copy.specs.Finding.{Reads}
use Rattle.hs_copy.specs.Whole.{HasListedAt, IsHeldAs, IsListing, NumbersAll, ReadsOne, addresses_of}
use Rattle.hs_copy.specs.declared.list.Found.{Found}
use Rattle.hs_copy.specs.declared.list.Listed.{Listed}
use Rattle.hs_limits.specs.Limits.{greatest_limits}
use Rattle.hs_limits.specs.declared.address.Address.{Address}
use Rattle.hs_limits.specs.declared.address.Held.{Held}
use Rattle.hs_limits.specs.declared.limits.Limits.{Limits}
use Rattle.hs_model.proofs.Members.{Member, contains_from_member, member-append, member-append_left, member-append_right}
use Rattle.hs_model.specs.Reach.{IsReached, pointers_of}
use Rattle.hs_model.specs.Store.{Root, Store, block_at, helds_of}
use Rattle.hs_model.specs.declared.op.Op.TheVariants as op
use Rattle.hs_model.specs.declared.reply.Reply.{Reply}
use Rattle.hs_model.specs.declared.reply.Reply.TheVariants as reply
use Rattle.hs_model.specs.declared.store.StoredBlock.{StoredBlock}
use Rattle.hs_tree.proofs.GrowLemmas.{zip_append, zip_length}
use Rattle.hs_tree.specs.Calls.{Hears}
use Rattle.hs_tree.specs.Storing.{our_session}

-- ---- rows

get_map : {X Y : Type 0} (f : X → Y) (xs : List X) (n : ℕ) (x : X) → slice_get xs n ≡ Some x → slice_get (map f xs) n ≡ Some (f x)
get_map f [] n x e = cc e
get_map f (y ∷ xs) zero x e = ap (λ z. Some (f z)) (some_is y x e)
get_map f (y ∷ xs) (suc n) x e = get_map f xs n x e

get_more : {X : Type 0} (xs : List X) (x : X) (n : ℕ) (y : X) → slice_get (xs ++ x ∷ []) n ≡ Some y → (slice_get xs n ≡ Some y) ⊎ (n ≡ length xs) × (x ≡ y)
get_more [] x zero y e = inr (refl, some_is x y e)
get_more [] x (suc n) y e = cc e
get_more (z ∷ xs) x zero y e = inl e
get_more (z ∷ xs) x (suc n) y e = elim (get_more xs x n y e) [ inl h ↦ inl h | inr h ↦ inr (ap (λ k. suc k) h.0, h.1) ]

-- the next one of those that were not read yet
next_ahead : (behind ahead : List Found) (w : Found) → slice_get (behind ++ ahead) (length behind) ≡ Some w → (rest : List Found) × (ahead ≡ w ∷ rest)
next_ahead [] [] w e = cc e
next_ahead [] (x ∷ ahead) w e = (ahead, ap (λ z. z ∷ ahead) (some_is x w e))
next_ahead (x ∷ behind) ahead w e = next_ahead behind ahead w e

-- ---- what a block points to

-- as it waits to be numbered
abbrev founds : ℕ → List Address → List Found
founds next [] = []
founds next (a ∷ pointers) = record { address = a; handle = next } ∷ founds (next + 1) pointers

founds_held : (next epoch : ℕ) (pointers : List Address) → AllZip IsHeldAs (founds next pointers) (numbered next (helds_of pointers epoch))
unfolding helds_of
founds_held next epoch [] = tt
founds_held next epoch (a ∷ pointers) = ((refl, refl), founds_held (next + 1) epoch pointers)

founds_handles : (next : ℕ) (pointers : List Address) → map (λ (w : Found). w.handle) (founds next pointers) ≡ range_with_len next (length pointers)
founds_handles next [] = refl
founds_handles next (a ∷ pointers) = ap (λ z. next ∷ z) (founds_handles (next + 1) pointers)

founds_addresses : (next : ℕ) (pointers : List Address) → map (λ (w : Found). Some w.address) (founds next pointers) ≡ map (λ a. Some a) pointers
founds_addresses next [] = refl
founds_addresses next (a ∷ pointers) = ap (λ z. Some a ∷ z) (founds_addresses (next + 1) pointers)

founds_among : (next : ℕ) (pointers : List Address) (f : Found) → Member f (founds next pointers) → Member f.address pointers
founds_among next [] f m = absurd m
founds_among next (a ∷ pointers) f (inl e) = inl (ap (λ (z : Found). z.address) e)
founds_among next (a ∷ pointers) f (inr m) = inr (founds_among (next + 1) pointers f m)

-- ---- one block

-- the block of what waited next was read, and what it points to waits
pub record IsReadNext (t : Store) (key : List ℕ) (root : Root) (numbers : List (Address × ℕ)) (found : List Found) (listed : List Listed) (k : ℕ) (w : Found) (told : Reply) : Type 0 where
  pub stored : StoredBlock
  pub present : block_at t w.address ≡ Some stored
  pub waiting : List Found
  pub addresses : map (λ (f : Found). Some f.address) waiting ≡ map (λ a. Some a) stored.pointers
  pub told_is : told ≡ reply.Bytes stored.bytes (map (λ (f : Found). f.handle) waiting)
  pub listing : IsListing t key root numbers found listed k waiting

-- its handle is forgotten
pub record IsForgotNext (t : Store) (key : List ℕ) (root : Root) (numbers : List (Address × ℕ)) (found : List Found) (listed : List Listed) (k : ℕ) (waiting : List Found) (told : Reply) : Type 0 where
  pub told_is : told ≡ reply.Ok
  pub listing : IsListing t key root numbers found listed (k + 1) waiting

module _ (limits : Limits) (room : limits.handles ≡ 4096) (key : List ℕ) (root : Root) (numbers : List (Address × ℕ)) (found : List Found) (few : length found ≤ 4000) (listed : List Listed) (k : ℕ) (w : Found) (at : slice_get found k ≡ Some w) where
  -- the next one of those that were found, and the others that were not read
  record NextIs (ahead : List Found) : Type 0 where
    rest : List Found
    is : ahead ≡ w ∷ rest

  next_of : (s : Store) (waiting : List Found) (h : IsListing s key root numbers found listed k waiting) → NextIs h.ahead
  next_of s waiting h =
      let n = next_ahead h.behind h.ahead w (subst (λ z. slice_get z (length h.behind) ≡ Some w) h.split (subst (λ z. slice_get found z ≡ Some w) (sym h.counted) at)) in
      record { rest = n.0; is = n.1 }

  its_place : slice_get (addresses_of found) k ≡ Some w.address
  its_place = get_map (λ (f : Found). f.address) found k w at

  reached_next : (s : Store) (waiting : List Found) → IsListing s key root numbers found listed k waiting → IsReached s (root.address ∷ []) w.address
  reached_next s waiting h =
      let n = next_of s waiting h in
      let m : Member w (h.behind ++ h.ahead) = member-append_right w h.behind h.ahead (subst (λ z. Member w z) (sym n.is) (inl refl)) in
      h.reached w (member-append_left w found waiting (subst (λ z. Member w z) (sym h.split) m))

  pub read_next : (s t : Store) (told : Reply) → IsListing s key root numbers found listed k [] → IsJudged limits s t (op.Read our_session w.handle) told → IsReadNext t key root numbers found listed k w told
  read_next s t told h j =
      let n = next_of s [] h in
      go n.rest n.is h.entries refl (subst (λ z. AllZip IsHeldAs z h.entries) (append-nil h.ahead ∙ n.is) h.held)
    where
      go : (rest : List Found) → h.ahead ≡ w ∷ rest → (es : List (ℕ × Held)) → h.entries ≡ es → AllZip IsHeldAs (w ∷ rest) es → IsReadNext t key root numbers found listed k w told
      go rest ahead [] same held = absurd held
      go rest ahead (x ∷ es) same held =
          let seat : HasSeat s our_session h.next (x ∷ es) = subst (λ z. HasSeat s our_session h.next z) same h.seat in
          let counted : suc (length rest) ≡ suc (length es) = zip_length IsHeldAs (w ∷ rest) (x ∷ es) held in
          let parts : length found ≡ length h.behind + suc (length rest) = ap (λ z. length z) h.split ∙ (length-append h.behind h.ahead ∙ ap (λ z. length h.behind + length z) ahead) in
          let fits : suc (length es) + 64 ≤ limits.handles = omega (arith, counted, parts, few, room) in
          let r : IsRead s t our_session h.next (x ∷ es) x.1 told = reads_alone limits s t our_session h.next (x ∷ es) seat x.0 x.1 told (inl refl) fits (subst (λ z. IsJudged limits s t (op.Read our_session z) told) held.0.0 j) in
          let own = judged_own limits s t (op.Read our_session w.handle) told h.seat.sane (λ key. tt) j in
          let st : Stays s t root.address = own.0.blocks key root h.kept in
          let present : block_at t w.address ≡ Some r.stored = subst (λ z. block_at t z ≡ Some r.stored) (sym held.0.1) r.present in
          let ws : List Found = founds h.next r.stored.pointers in
          let old : (f : Found) → Member f found → IsReached s (root.address ∷ []) f.address = λ f m. h.reached f (member-append_left f found [] m) in
          let top : IsReached t (root.address ∷ []) w.address = reached_stays s t root.address w.address st (reached_next s [] h) in
          let pointers : r.stored.pointers ≡ pointers_of (block_at t w.address) = ap (λ z. pointers_of z) (sym present) in
          record {
            stored = r.stored;
            present = present;
            waiting = ws;
            addresses = founds_addresses h.next r.stored.pointers;
            told_is = r.told_is ∙ ap (λ z. reply.Bytes r.stored.bytes z) (sym (founds_handles h.next r.stored.pointers));
            listing = record {
              kept = own.0.roots key root h.kept;
              numbered = h.numbered;
              once = h.once;
              first = first_stays found [] ws k w.address root.address its_place h.first;
              reached = λ f m. elim (member-append f found ws m) [
                | inl p ↦ reached_stays s t root.address f.address st (old f p)
                | inr p ↦ reached_more t root.address w.address f.address top (subst (λ z. Contains z f.address) pointers (contains_from_member f.address r.stored.pointers (founds_among h.next r.stored.pointers f p)))
              ];
              blocks = λ i y q. blocks_stay limits key root numbers found listed s t st old i y (h.blocks i y q);
              behind = h.behind;
              ahead = h.ahead;
              split = h.split;
              counted = h.counted;
              next = h.next + length r.stored.pointers;
              entries = (x ∷ es) ++ numbered h.next (helds_of r.stored.pointers x.1.epoch);
              seat = r.goes.seat;
              held = zip_append IsHeldAs h.ahead (x ∷ es) ws (numbered h.next (helds_of r.stored.pointers x.1.epoch)) (subst (λ z. AllZip IsHeldAs z (x ∷ es)) (sym ahead) held) (founds_held h.next x.1.epoch r.stored.pointers);
            };
          }

  pub forget_next : (s t : Store) (waiting : List Found) (told : Reply) → IsListing s key root numbers found listed k waiting → IsJudged limits s t (op.Forget our_session w.handle) told → IsForgotNext t key root numbers found listed k waiting told
  forget_next s t waiting told h j =
      let n = next_of s waiting h in
      let own = judged_own limits s t (op.Forget our_session w.handle) told h.seat.sane (λ key. tt) j in
      let st : Stays s t root.address = own.0.blocks key root h.kept in
      let f = forget_one limits s t h.next h.entries h.seat [] w (n.rest ++ waiting) told (subst (λ z. AllZip IsHeldAs (z ++ waiting) h.entries) n.is h.held) j in
      let one : length (h.behind ++ w ∷ []) ≡ length h.behind + 1 = length-append h.behind (w ∷ []) in
      let before : length h.behind ≡ k = h.counted in
      record {
        told_is = f.is.told_is;
        listing = record {
          kept = own.0.roots key root h.kept;
          numbered = h.numbered;
          once = h.once;
          first = h.first;
          reached = λ g m. reached_stays s t root.address g.address st (h.reached g m);
          blocks = λ i y q. blocks_stay limits key root numbers found listed s t st (λ g m. h.reached g (member-append_left g found waiting m)) i y (h.blocks i y q);
          behind = h.behind ++ w ∷ [];
          ahead = n.rest;
          split = h.split ∙ (ap (λ z. h.behind ++ z) n.is ∙ sym (append_assoc h.behind (w ∷ []) n.rest));
          counted = omega (arith, one, before);
          next = h.next;
          entries = f.left;
          seat = f.is.goes.seat;
          held = f.held;
        };
      }

-- ---- it is listed

listed_last : (t : Store) (key : List ℕ) (root : Root) (numbers : List (Address × ℕ)) (found : List Found) (listed : List Listed) (k : ℕ) (x : Listed) → IsListing t key root numbers found listed k [] → HasListedAt t (addresses_of found) (length listed) x → IsListing t key root numbers found (listed ++ x ∷ []) k []
listed_last t key root numbers found listed k x h at = record {
  kept = h.kept;
  numbered = h.numbered;
  once = h.once;
  first = h.first;
  reached = h.reached;
  blocks = λ n y e. elim (get_more listed x n y e) [
    | inl q ↦ h.blocks n y q
    | inr q ↦ subst (λ z. HasListedAt t (addresses_of found) n z) q.1 (subst (λ z. HasListedAt t (addresses_of found) z x) (sym q.0) at)
  ];
  behind = h.behind;
  ahead = h.ahead;
  split = h.split;
  counted = h.counted;
  next = h.next;
  entries = h.entries;
  seat = h.seat;
  held = h.held;
}

handles_of : (bytes other : List ℕ) (handles those : List ℕ) → reply.Bytes bytes handles ≡ reply.Bytes other those → (bytes ≡ other) × (handles ≡ those)
handles_of bytes other handles those e = (cc e, cc e)

module _ {tells : Type 0} (old read forgot : Shown tells) (handle : ℕ) (numbers : List (Address × ℕ)) (found : List Found) (told : Reply) (hears : Hears old read (op.Read our_session handle) told) where
  pub judged_read : tells → (w : Found) → w.handle ≡ handle → IsJudged old.began.limits (store_now old.began old) (store_now old.began read) (op.Read our_session w.handle) told
  judged_read is w same = subst (λ z. IsJudged old.began.limits (store_now old.began old) (store_now old.began read) (op.Read our_session z) told) (sym same) (hears.judged is)

  pub judged_forget : (ok : Reply) → Hears read forgot (op.Forget our_session handle) ok → tells → (w : Found) → w.handle ≡ handle → IsJudged old.began.limits (store_now old.began read) (store_now old.began forgot) (op.Forget our_session w.handle) ok
  judged_forget ok forgets is w same =
      subst (λ z. IsJudged old.began.limits (store_now old.began read) (store_now old.began forgot) (op.Forget our_session z) ok) (sym same)
      (subst (λ (b : Began). IsJudged b.limits (store_now b read) (store_now b forgot) (op.Forget our_session handle) ok) hears.began (forgets.judged is))

  -- so it is behind the read
  pub when_read : tells → old.began.limits ≡ greatest_limits → length found ≤ 4000 → (key : List ℕ) (root : Root) (listed : List Listed) (w : Found) (at : slice_get found (length listed) ≡ Some w) → w.handle ≡ handle → IsListing (store_now old.began old) key root numbers found listed (length listed) []
      → IsReadNext (store_now old.began read) key root numbers found listed (length listed) w told
  when_read is greatest few key root listed w at same h =
      read_next old.began.limits (ap (λ z. z.handles) greatest) key root numbers found few listed (length listed) w at (store_now old.began old) (store_now old.began read) told h (judged_read is w same)

  pub when_forgot : (ok : Reply) → Hears read forgot (op.Forget our_session handle) ok → tells → old.began.limits ≡ greatest_limits → length found ≤ 4000 → (key : List ℕ) (root : Root) (listed : List Listed) (w : Found) (at : slice_get found (length listed) ≡ Some w) → w.handle ≡ handle → (waiting : List Found)
      → IsListing (store_now old.began read) key root numbers found listed (length listed) waiting → IsForgotNext (store_now old.began forgot) key root numbers found listed (length listed) waiting ok
  when_forgot ok forgets is greatest few key root listed w at same waiting h =
      forget_next old.began.limits (ap (λ z. z.handles) greatest) key root numbers found few listed (length listed) w at (store_now old.began read) (store_now old.began forgot) waiting ok h (judged_forget ok forgets is w same)

pub reads_one : {tells : Type 0} (old read forgot new : Shown tells) (handle : ℕ) (numbers numbers' : List (Address × ℕ)) (found found' : List Found) (bytes handles ptrs : List ℕ) → Hears old read (op.Read our_session handle) (reply.Bytes bytes handles) → Hears read forgot (op.Forget our_session handle) reply.Ok → Reads forgot new 0
    → NumbersAll forgot new handles numbers numbers' found found' ptrs → ReadsOne old new handle numbers numbers' found found' (record { bytes = bytes; pointers = ptrs })
reads_one old read forgot new handle numbers numbers' found found' bytes handles ptrs hears forgets reads all is greatest few key root listed w at same h =
    let k : ℕ = length listed in
    let b : Began = old.began in
    let began : forgot.began ≡ old.began = forgets.began ∙ hears.began in
    let r = when_read old read forgot handle numbers found (reply.Bytes bytes handles) hears is greatest few key root listed w at same h in
    let f = when_forgot old read forgot handle numbers found (reply.Bytes bytes handles) hears reply.Ok forgets is greatest few key root listed w at same r.waiting r.listing in
    let told = handles_of bytes r.stored.bytes handles (map (λ (f : Found). f.handle) r.waiting) r.told_is in
    let waiting : IsListing (store_now forgot.began forgot) key root numbers found listed (k + 1) (r.waiting ++ []) = subst (λ (z : Began). IsListing (store_now z forgot) key root numbers found listed (k + 1) (r.waiting ++ [])) (sym began) (subst (λ z. IsListing (store_now b forgot) key root numbers found listed (k + 1) z) (sym (append-nil r.waiting)) f.listing) in
    let n = all.goes is key root listed (k + 1) r.waiting [] (sym told.1) waiting in
    let listing : IsListing (store_now b new) key root numbers' found' listed (k + 1) [] = subst (λ (z : Began). IsListing (store_now z new) key root numbers' found' listed (k + 1) []) began n.0 in
    let forgotten : IsListing (store_now forgot.began forgot) key root numbers found listed (k + 1) (r.waiting ++ []) = waiting in
    let own = reads.keeps is forgotten.seat.sane in
    let two : Stays (store_now b forgot) (store_now b new) root.address = subst (λ (z : Began). Stays (store_now z forgot) (store_now z new) root.address) began (own.0.blocks key root forgotten.kept) in
    let mid = judged_own b.limits (store_now b read) (store_now b forgot) (op.Forget our_session w.handle) reply.Ok r.listing.seat.sane (λ key. tt) (judged_forget old read forgot handle numbers found (reply.Bytes bytes handles) hears reply.Ok forgets is w same) in
    let one : Stays (store_now b read) (store_now b forgot) root.address = mid.0.blocks key root r.listing.kept in
    let top : IsReached (store_now b read) (root.address ∷ []) w.address = reached_next b.limits (ap (λ z. z.handles) greatest) key root numbers found few listed k w at (store_now b read) r.waiting r.listing in
    let top' : IsReached (store_now b forgot) (root.address ∷ []) w.address = reached_stays (store_now b read) (store_now b forgot) root.address w.address one top in
    let present : block_at (store_now b new) w.address ≡ Some r.stored = same_at (store_now b forgot) (store_now b new) root.address two w.address top' ∙ (same_at (store_now b read) (store_now b forgot) root.address one w.address top ∙ r.present) in
    let more : addresses_of found' ≡ addresses_of found ++ addresses_of all.more = ap (λ z. addresses_of z) all.grown ∙ map-append (λ (f : Found). f.address) found all.more in
    let place : slice_get (addresses_of found') k ≡ Some w.address = ap (λ z. slice_get z k) more ∙ get_front (addresses_of found) (addresses_of all.more) k w.address (its_place b.limits (ap (λ z. z.handles) greatest) key root numbers found few listed k w at) in
    listed_last (store_now b new) key root numbers' found' listed (k + 1) (record { bytes = bytes; pointers = ptrs }) listing (record {
      address = w.address;
      at = place;
      stored = r.stored;
      present = present;
      bytes = sym told.0;
      pointers = n.1 ∙ r.addresses;
    })
