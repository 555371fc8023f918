-- A listing from its beginning to its end: all that a key reaches.
use Rattle.std.proofs.Common.{◌≡◌, ◌∙◌, inl, inr, ℕ, ◌+◌, ◌≤◌, List, [], ◌∷◌, ◌++◌, Result, Ok, Err, Some, IfOk, refl, sym, ap, subst, arith, append-nil, length, slice_get}
use Rattle.std.proofs.lemmas.List.{length-append, length-map}
use Rattle.hs_asking.proofs.NamedLemmas.{answers_named}
use Rattle.hs_asking.specs.Lawful.{AreAnswersOf}
use Rattle.hs_asking.specs.Shown.{Began, IfTold, Shown, store_now}
use Rattle.hs_asking.specs.Staying.{Stays}
use Rattle.hs_copy.proofs.BackLemmas.{reached_top, whole_back}
use Rattle.hs_copy.proofs.WholeLemmas.{all_of_key}
use Rattle.hs_copy.specs.Listing.{AreAllOf, HasListed}
use Rattle.hs_copy.specs.Placing.{IsOrdered}
use Rattle.hs_copy.specs.Rounds.{blocks_of}
use Rattle.hs_copy.specs.Whole.{HoldsRoot, IsListing, IsWhole, ListsAll, ListsSoFar, NumbersOne, ReadsOne, addresses_of}
use Rattle.hs_copy.specs.declared.fault.PartFault.{PartFault}
use Rattle.hs_copy.specs.declared.list.Found.{Found}
use Rattle.hs_copy.specs.declared.list.Listed.{Listed}
use Rattle.hs_copy.specs.declared.order.Placed.{Placed}
use Rattle.hs_limits.specs.Limits.{greatest_limits}
use Rattle.hs_limits.specs.declared.address.Address.{Address}
use Rattle.hs_model.proofs.Members.{member-append_left, member_from_contains, member_of_map}
use Rattle.hs_model.specs.Reach.{IsReached}
use Rattle.hs_model.specs.Store.{Root, Store}
use Rattle.hs_model.specs.declared.op.Op.TheVariants as op
use Rattle.hs_model.specs.declared.reply.Reply.TheVariants as reply
use Rattle.hs_tree.proofs.FileReads.{HasLooked, has_looked}
use Rattle.hs_tree.specs.Calls.{Hears}
use Rattle.hs_tree.specs.Fetching.{IsAlone}
use Rattle.hs_tree.specs.Storing.{our_session}
use Rattle.hs_tree.specs.Telling.{IsLookedAs}

-- ---- the beginning

abbrev pub first_of : Root → ℕ → Found
first_of root handle = record { address = root.address; handle = handle }

pub starts : (s : Store) (key : List ℕ) (root : Root) (handle : ℕ) → HoldsRoot s key root handle → IsListing s key root [] [] [] 0 (first_of root handle ∷ [])
starts s key root handle h = record {
  kept = h.kept;
  numbered = record { stands = λ a n e. cc e; new = λ a e c. absurd (member_from_contains a [] c) };
  once = tt;
  first = refl;
  reached = λ f m. elim m [ inl e ↦ subst (λ (z : Found). IsReached s (root.address ∷ []) z.address) (sym e) (reached_top s root.address) | inr n ↦ absurd n ];
  blocks = λ n x e. cc e;
  behind = [];
  ahead = [];
  split = refl;
  counted = refl;
  next = h.next;
  entries = h.entry ∷ [];
  seat = h.seat;
  held = (h.is, tt);
}

pub lists_begun : {tells : Type 0} (old new : Shown tells) (handle : ℕ) (none numbers' : List (Address × ℕ)) (empty found' : List Found) (listed : List Listed) (n : ℕ) → none ≡ [] → empty ≡ [] → listed ≡ [] → NumbersOne old new handle none numbers' empty found' n → ListsSoFar old new handle numbers' found' listed
lists_begun old new handle none numbers' empty found' listed n e f g h is greatest key root holds =
    let w : Found = first_of root handle in
    let s : Store = store_now old.began old in
    let t : Store = store_now old.began new in
    let start : IsListing s key root none empty [] 0 (w ∷ []) = subst (λ z. IsListing s key root z empty [] 0 (w ∷ [])) (sym e) (subst (λ z. IsListing s key root [] z [] 0 (w ∷ [])) (sym f) (starts s key root handle holds)) in
    subst (λ z. IsListing t key root numbers' found' z (length z) []) (sym g) (h.goes is key root [] 0 w [] refl start).0

-- ---- on the way

pub lists_more : {tells : Type 0} (old mid new : Shown tells) (handle next : ℕ) (m1 m2 : List (Address × ℕ)) (f1 f2 : List Found) (listed listed' : List Listed) (x : Listed) (w : Found) → mid.began ≡ old.began → length f1 ≤ 4000 → slice_get f1 (length listed) ≡ Some w → w.handle ≡ next
    → ListsSoFar old mid handle m1 f1 listed → ReadsOne mid new next m1 m2 f1 f2 x → listed' ≡ listed ++ x ∷ [] → ListsSoFar old new handle m2 f2 listed'
lists_more {tells} old mid new handle next m1 m2 f1 f2 listed listed' x w began few at same h k pushed is greatest key root holds =
    let b : Began = old.began in
    let before : IsListing (store_now mid.began mid) key root m1 f1 listed (length listed) [] = subst (λ (z : Began). IsListing (store_now z mid) key root m1 f1 listed (length listed) []) (sym began) (h is greatest key root holds) in
    let after = k is (ap (λ (z : Began). z.limits) began ∙ greatest) few key root listed w at same before in
    let here : IsListing (store_now b new) key root m2 f2 (listed ++ x ∷ []) (length listed + 1) [] = subst (λ (z : Began). IsListing (store_now z new) key root m2 f2 (listed ++ x ∷ []) (length listed + 1) []) began after in
    let longer : length listed + 1 ≡ length listed' = sym (ap (λ z. length z) pushed ∙ length-append listed (x ∷ [])) in
    subst (λ z. IsListing (store_now b new) key root m2 f2 listed' z []) longer (subst (λ z. IsListing (store_now b new) key root m2 f2 z (length listed + 1) []) (sym pushed) here)

-- ---- the end

whole_now : (s : Store) (key : List ℕ) (root : Root) (numbers : List (Address × ℕ)) (found : List Found) (listed : List Listed) → IsListing s key root numbers found listed (length listed) [] → length found ≤ length listed → IsWhole s root.address (addresses_of found) listed
whole_now s key root numbers found listed h most =
    let parts : length found ≡ length h.behind + length h.ahead = ap (λ z. length z) h.split ∙ length-append h.behind h.ahead in
    let before : length h.behind ≡ length listed = h.counted in
    let long : length (addresses_of found) ≡ length found = length-map found (λ (f : Found). f.address) in
    record {
      first = subst (λ z. slice_get (addresses_of z) 0 ≡ Some root.address) (append-nil found) h.first;
      counted = omega (arith, parts, before, long, most);
      once = h.once;
      reached = λ a c. let r = member_of_map (λ (f : Found). f.address) a found (member_from_contains a (addresses_of found) c) in subst (λ z. IsReached s (root.address ∷ []) z) (sym r.2) (h.reached r.0 (member-append_left r.0 found [] r.1));
      blocks = h.blocks;
    }

pub lists_all : {tells : Type 0} (old new : Shown tells) (handle : ℕ) (numbers : List (Address × ℕ)) (found : List Found) (listed : List Listed) → length found ≤ length listed → ListsSoFar old new handle numbers found listed → ListsAll old new handle listed
lists_all old new handle numbers found listed most h is greatest key root holds = (addresses_of found, whole_now (store_now old.began new) key root numbers found listed (h is greatest key root holds) most)

-- ---- with the look

module _ {tells : Type 0} (key : List ℕ) (old mid now : Shown tells) (handle : ℕ) (alone : IfTold old (λ b. IsAlone b old)) (law : IfTold old (λ b. AreAnswersOf b old)) (opened : Hears old mid (op.Open our_session) reply.Ok) (w : IsLookedAs mid now (op.Look our_session key) handle) where
  -- the handle stands for the key's address, and no other one is held
  pub looked_at : tells → HasLooked key old now handle old.began
  looked_at is = has_looked key old alone law mid opened now handle w is old.began refl

  pub began_so : now.began ≡ old.began
  began_so = w.hears.began ∙ opened.began

  pub holds_root : (is : tells) → HoldsRoot (store_now old.began now) key (looked_at is).root handle
  holds_root is = let l = looked_at is in record { kept = l.kept; next = l.next; entry = l.x; seat = l.holds.seat; is = (sym l.handle, sym l.address) }

  pub root_listed : (new : Shown tells) (listed : List Listed) (placed : List Placed) (n : ℕ) → ListsAll now new handle listed → HasListed key old new n → IsOrdered listed placed → IfTold old (λ b. AreAllOf b.name (store_now b old) key (blocks_of b.name [] placed))
  root_listed new listed placed n all has ordered is =
      let b : Began = old.began in
      let l = looked_at is in
      let told = subst (λ (z : Began). z.limits ≡ greatest_limits → (key : List ℕ) (root : Root) → HoldsRoot (store_now z now) key root handle → (found : List Address) × IsWhole (store_now z new) root.address found listed) began_so (all is) in
      let whole = told (alone is).limits key l.root (holds_root is) in
      let st : Stays (store_now b old) (store_now b new) l.root.address = (has.keeps is).blocks key l.root l.before in
      all_of_key b.name (store_now b old) l.root.address whole.0 listed (whole_back (store_now b old) (store_now b new) l.root.address st whole.0 listed whole.1) (answers_named b old (law is)) key l.root placed l.before refl ordered

  pub ok_root_listed : {T : Type 0} (new : Shown tells) (seen listed : List Listed) (r : Result T PartFault) (items : T → List Placed) (n : ℕ) → seen ≡ listed → ListsAll now new handle listed → HasListed key old new n → IfOk r (λ x. IsOrdered seen (items x)) → IfOk r (λ x. IfTold old (λ b. AreAllOf b.name (store_now b old) key (blocks_of b.name [] (items x))))
  ok_root_listed new seen listed (Ok x) items n same all has o = root_listed new listed (items x) n all has (subst (λ z. IsOrdered z (items x)) same o)
  ok_root_listed new seen listed (Err f) items n same all has o = tt
