-- What waits is numbered, one address after another.
use Rattle.std.proofs.Common.{◌≡◌, ◌∙◌, inl, inr, ℕ, Bool, true, false, List, [], ◌∷◌, ◌++◌, Some, None, refl, sym, ap, subst, append-nil, append_assoc, length, map, slice_get, Contains, ◌+◌, ◌<◌, get_or, take}
use Rattle.std.proofs.lemmas.List.{length-map, map-append}
use Rattle.std.specs.BTreeMap.{insert_entry, is_at}
use Rattle.std.specs.List.{AllZip}
use Rattle.std.specs.Map.{lookup}
use Rattle.hs_asking.proofs.AloneLemmas.{forgets_alone}
use Rattle.hs_asking.proofs.SeatLemmas.{seat_held}
use Rattle.hs_asking.specs.Alone.{IsForgot}
use Rattle.hs_asking.specs.Judged.{IsJudged}
use Rattle.hs_asking.specs.Seats.{HasSeat}
use Rattle.hs_asking.specs.Shown.{Began, Shown, store_now}
use Rattle.hs_asking.specs.Staying.{Stays}
use Rattle.hs_copy.proofs.BlockLemmas.{head_or, some_is, tail_of}
use Rattle.hs_copy.proofs.OwnLemmas.{judged_own}
use Rattle.hs_copy.proofs.PlaceLemmas.{get_front, get_last}
use Rattle.hs_copy.proofs.StepLemmas.{take_more}
use Rattle.hs_copy.proofs.WholeLemmas.{get_member}
use Rattle.hs_copy.specs.Listing.{AreDifferent}
use Rattle.hs_copy.specs.Whole.{AreNumbered, HasListedAt, IsHeldAddress, IsHeldAs, IsListing, NumbersAll, NumbersOne, addresses_of}
use Rattle.hs_copy.specs.declared.list.Found.{Found}
use Rattle.hs_copy.specs.declared.list.Listed.{Listed}
use Rattle.hs_laws.proofs.InsertLemmas.{lookup-insert_other, lookup-insert_same}
use Rattle.hs_limits.specs.declared.address.Address.{Address}
use Rattle.hs_limits.specs.declared.address.Held.{Held}
use Rattle.hs_limits.specs.declared.limits.Limits.{Limits}
use Rattle.hs_model.proofs.Members.{Member, contains_from_member, member-append, member-append_left, member-append_right, member_from_contains, member_of_map, same_from}
use Rattle.hs_model.specs.Reach.{IsReached, Leads, is_same}
use Rattle.hs_model.specs.Store.{Root, Store, address_cmp, held_at}
use Rattle.hs_model.specs.declared.op.Op.TheVariants as op
use Rattle.hs_model.specs.declared.reply.Reply.{Reply}
use Rattle.hs_model.specs.declared.reply.Reply.TheVariants as reply
use Rattle.hs_tree.proofs.GrowLemmas.{zip_append, zip_split}
use Rattle.hs_tree.specs.Calls.{Hears}
use Rattle.hs_tree.specs.Storing.{our_session}

-- ---- what is reached stays

pub from_top : (s : Store) (top a : Address) (r : IsReached s (top ∷ []) a) → Leads s top r.path a
from_top s top a r = subst (λ z. Leads s z r.path a) (elim (member_from_contains r.start (top ∷ []) r.anchored) [ inl e ↦ e | inr n ↦ absurd n ]) r.leads

pub reached_stays : (s t : Store) (top a : Address) → Stays s t top → IsReached s (top ∷ []) a → IsReached t (top ∷ []) a
reached_stays s t top a st r = record { start = top; path = r.path; anchored = contains_from_member top (top ∷ []) (inl refl); leads = st.leads r.path a (from_top s top a r) }

pub listed_stays : (s t : Store) (top : Address) (found : List Address) (n : ℕ) (x : Listed) → Stays s t top → ((a : Address) → Member a found → IsReached s (top ∷ []) a) → HasListedAt s found n x → HasListedAt t found n x
listed_stays s t top found n x st reached h =
    let r : IsReached s (top ∷ []) h.address = reached h.address (get_member found n h.address h.at) in
    record { address = h.address; at = h.at; stored = h.stored; present = st.blocks r.path h.address (from_top s top h.address r) ∙ h.present; bytes = h.bytes; pointers = h.pointers }

-- ---- one more address

pub different_more : (xs : List Address) (a : Address) → AreDifferent xs → (Contains xs a → ⊥) → AreDifferent (xs ++ a ∷ [])
different_more [] a d new = ((λ c. absurd (member_from_contains a [] c)), tt)
different_more (x ∷ xs) a d new = (
  (λ c. elim (member-append x xs (a ∷ []) (member_from_contains x (xs ++ a ∷ []) c)) [
    | inl m ↦ d.0 (contains_from_member x xs m)
    | inr m ↦ elim m [ inl e ↦ new (contains_from_member a (x ∷ xs) (inl (sym e))) | inr n ↦ absurd n ]
  ]),
  different_more xs a d.1 (λ c. new (contains_from_member a (x ∷ xs) (inr (member_from_contains a xs c)))),
)

pointers_more : (found : List Address) (a : Address) (ptrs : List ℕ) (pointers : List Address) → map (λ k. slice_get found k) ptrs ≡ map (λ b. Some b) pointers → map (λ k. slice_get (found ++ a ∷ []) k) ptrs ≡ map (λ b. Some b) pointers
pointers_more found a [] [] e = refl
pointers_more found a [] (b ∷ pointers) e = cc e
pointers_more found a (k ∷ ptrs) [] e = cc e
pointers_more found a (k ∷ ptrs) (b ∷ pointers) e =
    let here : slice_get (found ++ a ∷ []) k ≡ Some b = get_front found (a ∷ []) k b (ap (λ z. head_or None z) e) in
    let ih = pointers_more found a ptrs pointers (ap (λ z. tail_of z) e) in
    λ i. here i ∷ ih i

listed_more : (s : Store) (found : List Address) (a : Address) (n : ℕ) (x : Listed) → HasListedAt s found n x → HasListedAt s (found ++ a ∷ []) n x
listed_more s found a n x h = record { address = h.address; at = get_front found (a ∷ []) n h.address h.at; stored = h.stored; present = h.present; bytes = h.bytes; pointers = pointers_more found a x.pointers h.stored.pointers h.pointers }

numbered_more : (numbers : List (Address × ℕ)) (found : List Address) (a : Address) → AreNumbered numbers found → AreNumbered (insert_entry address_cmp numbers a (length found)) (found ++ a ∷ [])
numbered_more numbers found a h = record { stands = λ b n e. stands b n (is_same b a) refl e; new = λ b e c. new b (is_same b a) refl e c }
  where
    after : List (Address × ℕ)
    after = insert_entry address_cmp numbers a (length found)

    stands : (b : Address) (n : ℕ) (t : Bool) → is_same b a ≡ t → lookup (is_at (address_cmp b)) after ≡ Some n → slice_get (found ++ a ∷ []) n ≡ Some b
    stands b n true t e =
        let same : b ≡ a = same_from b a t in
        let here : lookup (is_at (address_cmp a)) after ≡ Some n = subst (λ z. lookup (is_at (address_cmp z)) after ≡ Some n) same e in
        let number : length found ≡ n = some_is (length found) n (sym (lookup-insert_same numbers a (length found)) ∙ here) in
        subst (λ z. slice_get (found ++ a ∷ []) z ≡ Some b) number (get_last found a ∙ ap (λ z. Some z) (sym same))
    stands b n false t e = get_front found (a ∷ []) n b (h.stands b n (sym (lookup-insert_other numbers a (length found) b t) ∙ e))

    new : (b : Address) (t : Bool) → is_same b a ≡ t → lookup (is_at (address_cmp b)) after ≡ None → Contains (found ++ a ∷ []) b → ⊥
    new b true t e c =
        let here : lookup (is_at (address_cmp a)) after ≡ None = subst (λ z. lookup (is_at (address_cmp z)) after ≡ None) (same_from b a t) e in
        let there = lookup-insert_same numbers a (length found) in
        cc (here, there)
    new b false t e c = elim (member-append b found (a ∷ []) (member_from_contains b (found ++ a ∷ []) c)) [
      | inl m ↦ h.new b (sym (lookup-insert_other numbers a (length found) b t) ∙ e) (contains_from_member b found m)
      | inr m ↦ elim m [ inl q ↦ apart q | inr n ↦ absurd n ]
    ]
      where
        apart : b ≡ a → ⊥
        apart q =
            let here : lookup (is_at (address_cmp a)) after ≡ lookup (is_at (address_cmp a)) numbers = subst (λ z. lookup (is_at (address_cmp z)) after ≡ lookup (is_at (address_cmp z)) numbers) q (lookup-insert_other numbers a (length found) b t) in
            let there = lookup-insert_same numbers a (length found) in
            let none : lookup (is_at (address_cmp a)) after ≡ None = subst (λ z. lookup (is_at (address_cmp z)) after ≡ None) q e in
            cc (none, there)

-- the first one stays where there is one
pub first_stays : (found xs ys : List Found) (n : ℕ) (a top : Address) → slice_get (addresses_of found) n ≡ Some a → slice_get (addresses_of (found ++ xs)) 0 ≡ Some top → slice_get (addresses_of (found ++ ys)) 0 ≡ Some top
first_stays [] xs ys n a top e h = cc e
first_stays (f ∷ found) xs ys n a top e h = h

-- one of those that a session holds is forgotten
pub record Forgets (s t : Store) (next : ℕ) (es : List (ℕ × Held)) (xs : List Found) (told : Reply) : Type 0 where
  pub left : List (ℕ × Held)
  pub is : IsForgot s t our_session next es left told
  pub held : AllZip IsHeldAs xs left

pub forget_one : (limits : Limits) (s t : Store) (next : ℕ) (es : List (ℕ × Held)) → HasSeat s our_session next es → (front : List Found) (w : Found) (back : List Found) (told : Reply) → AllZip IsHeldAs (front ++ w ∷ back) es → IsJudged limits s t (op.Forget our_session w.handle) told → Forgets s t next es (front ++ back) told
forget_one limits s t next es seat front w back told held j =
    let sp = zip_split IsHeldAs front (w ∷ back) es held in
    go sp.left sp.right sp.whole sp.first sp.second
  where
    go : (left right : List (ℕ × Held)) → es ≡ left ++ right → AllZip IsHeldAs front left → AllZip IsHeldAs (w ∷ back) right → Forgets s t next es (front ++ back) told
    go left [] whole first second = absurd second
    go left (x ∷ right) whole first second = record {
      left = left ++ right;
      is = forgets_alone limits s t our_session next es seat left x right told whole (subst (λ z. IsJudged limits s t (op.Forget our_session z) told) second.0.0 j);
      held = zip_append IsHeldAs front left back right first second.1;
    }

-- what a listing says of all that was found stays with what the root leads to
module _ (limits : Limits) (key : List ℕ) (root : Root) (numbers : List (Address × ℕ)) (found : List Found) (listed : List Listed) where
  pub blocks_stay : (s t : Store) → Stays s t root.address → ((f : Found) → Member f found → IsReached s (root.address ∷ []) f.address) → (n : ℕ) (x : Listed) → HasListedAt s (addresses_of found) n x → HasListedAt t (addresses_of found) n x
  blocks_stay s t st reached n x h = listed_stays s t root.address (addresses_of found) n x st
      (λ a m. let r = member_of_map (λ (f : Found). f.address) a found m in subst (λ z. IsReached s (root.address ∷ []) z) (sym r.2) (reached r.0 r.1)) h

  -- one that was found before is forgotten
  pub number_known : (k : ℕ) (w : Found) (rest : List Found) (s t : Store) (n : ℕ) (told : Reply) → IsListing s key root numbers found listed k (w ∷ rest) → lookup (is_at (address_cmp w.address)) numbers ≡ Some n → IsJudged limits s t (op.Forget our_session w.handle) told → IsListing t key root numbers found listed k rest
  number_known k w rest s t n told h e j =
      let own = judged_own limits s t (op.Forget our_session w.handle) told h.seat.sane (λ key. tt) j in
      let st : Stays s t root.address = own.0.blocks key root h.kept in
      let f = forget_one limits s t h.next h.entries h.seat h.ahead w rest told h.held j in
      record {
        kept = own.0.roots key root h.kept;
        numbered = h.numbered;
        once = h.once;
        first = first_stays found (w ∷ rest) rest n w.address root.address (h.numbered.stands w.address n e) h.first;
        reached = λ g m. reached_stays s t root.address g.address st (h.reached g (elim (member-append g found rest m) [ inl p ↦ member-append_left g found (w ∷ rest) p | inr p ↦ member-append_right g found (w ∷ rest) (inr p) ]));
        blocks = λ i x q. blocks_stay s t st (λ g m. h.reached g (member-append_left g found (w ∷ rest) m)) i x (h.blocks i x q);
        behind = h.behind;
        ahead = h.ahead;
        split = h.split;
        counted = h.counted;
        next = h.next;
        entries = f.left;
        seat = f.is.goes.seat;
        held = f.held;
      }

module _ (key : List ℕ) (root : Root) (numbers : List (Address × ℕ)) (found : List Found) (listed : List Listed) (k : ℕ) (w : Found) (rest : List Found) where
  -- one that was not found before
  pub number_new : (s : Store) → IsListing s key root numbers found listed k (w ∷ rest) → lookup (is_at (address_cmp w.address)) numbers ≡ None → IsListing s key root (insert_entry address_cmp numbers w.address (length found)) (found ++ w ∷ []) listed k rest
  number_new s h none =
      let names : addresses_of (found ++ w ∷ []) ≡ addresses_of found ++ w.address ∷ [] = map-append (λ (f : Found). f.address) found (w ∷ []) in
      let long : length (addresses_of found) ≡ length found = length-map found (λ (f : Found). f.address) in
      let same : (found ++ w ∷ []) ++ rest ≡ found ++ w ∷ rest = append_assoc found (w ∷ []) rest in
      record {
        kept = h.kept;
        numbered = subst (λ z. AreNumbered (insert_entry address_cmp numbers w.address (length found)) z) (sym names) (subst (λ z. AreNumbered (insert_entry address_cmp numbers w.address z) (addresses_of found ++ w.address ∷ [])) long (numbered_more numbers (addresses_of found) w.address h.numbered));
        once = subst AreDifferent (sym names) (different_more (addresses_of found) w.address h.once (h.numbered.new w.address none));
        first = ap (λ z. slice_get (addresses_of z) 0) same ∙ h.first;
        reached = λ f m. h.reached f (subst (λ z. Member f z) same m);
        blocks = λ n x e. subst (λ z. HasListedAt s z n x) (sym names) (listed_more s (addresses_of found) w.address n x (h.blocks n x e));
        behind = h.behind;
        ahead = h.ahead ++ w ∷ [];
        split = ap (λ z. z ++ w ∷ []) h.split ∙ append_assoc h.behind h.ahead (w ∷ []);
        counted = h.counted;
        next = h.next;
        entries = h.entries;
        seat = h.seat;
        held = subst (λ z. AllZip IsHeldAs z h.entries) (sym (append_assoc h.ahead (w ∷ []) rest)) h.held;
      }

-- what waits first stands for its address
pub waits_for : (key : List ℕ) (root : Root) (numbers : List (Address × ℕ)) (found : List Found) (listed : List Listed) (k : ℕ) (w : Found) (rest : List Found) (s : Store) → IsListing s key root numbers found listed k (w ∷ rest) → (held : Held) → Some held ≡ held_at s our_session w.handle → held.address ≡ w.address
waits_for key root numbers found listed k w rest s h held e =
    let sp = zip_split IsHeldAs h.ahead (w ∷ rest) h.entries h.held in
    go sp.left sp.right sp.whole sp.second
  where
    go : (front right : List (ℕ × Held)) → h.entries ≡ front ++ right → AllZip IsHeldAs (w ∷ rest) right → held.address ≡ w.address
    go front [] whole second = absurd second
    go front (x ∷ back) whole second =
        let there : held_at s our_session x.0 ≡ Some x.1 = seat_held s our_session h.next h.entries h.seat x (subst (λ z. Member x z) (sym whole) (member-append_right x front (x ∷ back) (inl refl))) in
        let is : held ≡ x.1 = some_is held x.1 (e ∙ (ap (λ z. held_at s our_session z) second.0.0 ∙ there)) in
        ap (λ (z : Held). z.address) is ∙ sym second.0.1

-- ---- one call

module _ {tells : Type 0} (old : Shown tells) (handle : ℕ) (numbers : List (Address × ℕ)) (found : List Found) (a : Address) (stands : IsHeldAddress old our_session handle a) where
  pub its_address : tells → (key : List ℕ) (root : Root) (listed : List Listed) (k : ℕ) (w : Found) (rest : List Found) → w.handle ≡ handle → IsListing (store_now old.began old) key root numbers found listed k (w ∷ rest) → w.address ≡ a
  its_address is key root listed k w rest same h =
      let x = stands is in
      sym (waits_for key root numbers found listed k w rest (store_now old.began old) h x.0 (x.1 ∙ ap (λ z. held_at (store_now old.began old) our_session z) (sym same))) ∙ x.2

  pub numbers_known : (new : Shown tells) (n : ℕ) → lookup (is_at (address_cmp a)) numbers ≡ Some n → Hears old new (op.Forget our_session handle) reply.Ok → NumbersOne old new handle numbers numbers found found n
  numbers_known new n e hears = record {
    more = [];
    grown = sym (append-nil found);
    goes = λ is key root listed k w rest same h.
        let at : w.address ≡ a = its_address is key root listed k w rest same h in
        let known : lookup (is_at (address_cmp w.address)) numbers ≡ Some n = subst (λ z. lookup (is_at (address_cmp z)) numbers ≡ Some n) (sym at) e in (
          number_known old.began.limits key root numbers found listed k w rest (store_now old.began old) (store_now old.began new) n reply.Ok h known
              (subst (λ z. IsJudged old.began.limits (store_now old.began old) (store_now old.began new) (op.Forget our_session z) reply.Ok) (sym same) (hears.judged is)),
          h.numbered.stands w.address n known,
        );
  }

  pub numbers_new : (numbers' : List (Address × ℕ)) (found' : List Found) (n : ℕ) → lookup (is_at (address_cmp a)) numbers ≡ None → n ≡ length found → numbers' ≡ insert_entry address_cmp numbers a n → found' ≡ found ++ record { address = a; handle = handle } ∷ [] → NumbersOne old old handle numbers numbers' found found' n
  numbers_new numbers' found' n e counted inserted pushed = record {
    more = record { address = a; handle = handle } ∷ [];
    grown = pushed;
    goes = λ is key root listed k w rest same h.
        let s : Store = store_now old.began old in
        let at : w.address ≡ a = its_address is key root listed k w rest same h in
        let new : lookup (is_at (address_cmp w.address)) numbers ≡ None = subst (λ z. lookup (is_at (address_cmp z)) numbers ≡ None) (sym at) e in
        let made : found ++ w ∷ [] ≡ found' = (λ i. found ++ record { address = at i; handle = same i } ∷ []) ∙ sym pushed in
        let put : insert_entry address_cmp numbers w.address (length found) ≡ numbers' = (λ i. insert_entry address_cmp numbers (at i) (sym counted i)) ∙ sym inserted in
        let names : addresses_of (found ++ w ∷ []) ≡ addresses_of found ++ w.address ∷ [] = map-append (λ (f : Found). f.address) found (w ∷ []) in
        let long : length (addresses_of found) ≡ length found = length-map found (λ (f : Found). f.address) in
        let last : slice_get (addresses_of (found ++ w ∷ [])) n ≡ Some w.address = ap (λ z. slice_get z n) names ∙ (ap (λ z. slice_get (addresses_of found ++ w.address ∷ []) z) (counted ∙ sym long) ∙ get_last (addresses_of found) w.address) in (
          subst (λ z. IsListing s key root z found' listed k rest) put (subst (λ z. IsListing s key root (insert_entry address_cmp numbers w.address (length found)) z listed k rest) made (number_new key root numbers found listed k w rest s h new)),
          subst (λ z. slice_get (addresses_of z) n ≡ Some w.address) made last,
        );
  }

-- ---- several

-- a row that waited, at one of its handles
pub record SplitAt (ws : List Found) (hs : List ℕ) (handle : ℕ) (more : List ℕ) : Type 0 where
  pub front : List Found
  pub at : Found
  pub back : List Found
  pub whole : ws ≡ front ++ at ∷ back
  pub handles : map (λ (w : Found). w.handle) front ≡ hs
  pub is : at.handle ≡ handle
  pub rest : map (λ (w : Found). w.handle) back ≡ more

pub split_at : (ws : List Found) (hs : List ℕ) (handle : ℕ) (more : List ℕ) → map (λ (w : Found). w.handle) ws ≡ hs ++ handle ∷ more → SplitAt ws hs handle more
split_at [] [] handle more e = cc e
split_at [] (h ∷ hs) handle more e = cc e
split_at (w ∷ ws) [] handle more e = record { front = []; at = w; back = ws; whole = refl; handles = refl; is = ap (λ z. head_or handle z) e; rest = ap (λ z. tail_of z) e }
split_at (w ∷ ws) (h ∷ hs) handle more e =
    let r = split_at ws hs handle more (ap (λ z. tail_of z) e) in
    let first : w.handle ≡ h = ap (λ z. head_or handle z) e in
    record { front = w ∷ r.front; at = r.at; back = r.back; whole = ap (λ z. w ∷ z) r.whole; handles = λ i. first i ∷ r.handles i; is = r.is; rest = r.rest }

none_left : (ws : List Found) → map (λ (w : Found). w.handle) ws ≡ [] → ws ≡ []
none_left [] e = refl
none_left (w ∷ ws) e = cc e

numbers_stay : (found more : List Address) (ptrs : List ℕ) (ws : List Found) → map (λ n. slice_get found n) ptrs ≡ map (λ (w : Found). Some w.address) ws → map (λ n. slice_get (found ++ more) n) ptrs ≡ map (λ (w : Found). Some w.address) ws
numbers_stay found more [] [] e = refl
numbers_stay found more [] (w ∷ ws) e = cc e
numbers_stay found more (n ∷ ptrs) [] e = cc e
numbers_stay found more (n ∷ ptrs) (w ∷ ws) e =
    let here : slice_get (found ++ more) n ≡ Some w.address = get_front found more n w.address (ap (λ z. head_or None z) e) in
    let ih = numbers_stay found more ptrs ws (ap (λ z. tail_of z) e) in
    λ i. here i ∷ ih i

pub numbers_none : {tells : Type 0} (old : Shown tells) (numbers : List (Address × ℕ)) (found : List Found) → NumbersAll old old [] numbers numbers found found []
numbers_none old numbers found = record { began = refl; more = []; grown = sym (append-nil found); goes = λ is key root listed k ws rest e h. none key root listed k ws rest e h }
  where
    none : (key : List ℕ) (root : Root) (listed : List Listed) (k : ℕ) (ws rest : List Found) → map (λ (w : Found). w.handle) ws ≡ [] → IsListing (store_now old.began old) key root numbers found listed k (ws ++ rest) → IsListing (store_now old.began old) key root numbers found listed k rest × (map (λ n. slice_get (addresses_of found) n) [] ≡ map (λ (w : Found). Some w.address) ws)
    none key root listed k [] rest e h = (h, refl)
    none key root listed k (w ∷ ws) rest e h = cc e

pub numbers_more : {tells : Type 0} (old mid new : Shown tells) (hs : List ℕ) (handle : ℕ) (m0 m1 m2 : List (Address × ℕ)) (f0 f1 f2 : List Found) (ptrs : List ℕ) (n : ℕ) → new.began ≡ mid.began → NumbersAll old mid hs m0 m1 f0 f1 ptrs → NumbersOne mid new handle m1 m2 f1 f2 n → NumbersAll old new (hs ++ handle ∷ []) m0 m2 f0 f2 (ptrs ++ n ∷ [])
numbers_more {tells} old mid new hs handle m0 m1 m2 f0 f1 f2 ptrs n began h o = record {
  began = began ∙ h.began;
  more = h.more ++ o.more;
  grown = o.grown ∙ (ap (λ z. z ++ o.more) h.grown ∙ append_assoc f0 h.more o.more);
  goes = λ is key root listed k ws rest e l.
      let sp = split_at ws hs handle [] e in
      let whole : ws ≡ sp.front ++ sp.at ∷ [] = sp.whole ∙ ap (λ z. sp.front ++ sp.at ∷ z) (none_left sp.back sp.rest) in
      let first = h.goes is key root listed k sp.front (sp.at ∷ rest) sp.handles (subst (λ z. IsListing (store_now old.began old) key root m0 f0 listed k z) (ap (λ z. z ++ rest) whole ∙ append_assoc sp.front (sp.at ∷ []) rest) l) in
      let at : IsListing (store_now mid.began mid) key root m1 f1 listed k (sp.at ∷ rest) = subst (λ (z : Began). IsListing (store_now z mid) key root m1 f1 listed k (sp.at ∷ rest)) (sym h.began) first.0 in
      let second = o.goes is key root listed k sp.at rest sp.is at in
      let names : addresses_of f2 ≡ addresses_of f1 ++ addresses_of o.more = ap (λ z. addresses_of z) o.grown ∙ map-append (λ (f : Found). f.address) f1 o.more in
      let before : map (λ n. slice_get (addresses_of f2) n) ptrs ≡ map (λ (w : Found). Some w.address) sp.front = subst (λ z. map (λ n. slice_get z n) ptrs ≡ map (λ (w : Found). Some w.address) sp.front) (sym names) (numbers_stay (addresses_of f1) (addresses_of o.more) ptrs sp.front first.1) in (
        subst (λ (z : Began). IsListing (store_now z new) key root m2 f2 listed k rest) h.began second.0,
        map-append (λ n. slice_get (addresses_of f2) n) ptrs (n ∷ []) ∙ (ap (λ z. z ++ slice_get (addresses_of f2) n ∷ []) before ∙ (ap (λ z. map (λ (w : Found). Some w.address) sp.front ++ z ∷ []) second.1 ∙ (sym (map-append (λ (w : Found). Some w.address) sp.front (sp.at ∷ [])) ∙ ap (λ z. map (λ (w : Found). Some w.address) z) (sym whole)))),
      );
}

pub numbers_step : {tells : Type 0} (old mid new : Shown tells) (handles : List ℕ) (i d : ℕ) (m0 m1 m2 : List (Address × ℕ)) (f0 f1 f2 : List Found) (ptrs after : List ℕ) (n : ℕ) → i < length handles → new.began ≡ mid.began → NumbersAll old mid (take i handles) m0 m1 f0 f1 ptrs → NumbersOne mid new (get_or handles i d) m1 m2 f1 f2 n → after ≡ ptrs ++ n ∷ [] → NumbersAll old new (take (i + 1) handles) m0 m2 f0 f2 after
numbers_step old mid new handles i d m0 m1 m2 f0 f1 f2 ptrs after n within began h o pushed =
    subst (λ z. NumbersAll old new z m0 m2 f0 f2 after) (sym (take_more handles i d within))
    (subst (λ z. NumbersAll old new (take i handles ++ get_or handles i d ∷ []) m0 m2 f0 f2 z) (sym pushed)
    (numbers_more old mid new (take i handles) (get_or handles i d) m0 m1 m2 f0 f1 f2 ptrs n began h o))
