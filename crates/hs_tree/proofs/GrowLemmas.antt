-- What each call does to a tree that is being stored.
use Rattle.std.proofs.Common.{◌≡◌, ◌⊎◌, inl, inr, ℕ, zero, suc, ◌+◌, ◌≤◌, take, subst, length-append, List, [], ◌∷◌, ◌++◌, Some, None, true, ◌&&◌, refl, sym, ap, ◌∙◌, map, length, is_some, nat_le, arith, append_assoc, unwrap_or, if◌then◌else◌, slice_index}
use Rattle.std.proofs.Common.{tests}
use Rattle.std.proofs.lemmas.Bool.{and_from}
use Rattle.std.proofs.lemmas.List.{length-map, map-append}
use Rattle.std.specs.List.{AllByRecursion, AllZip, list_all}
use Rattle.hs_asking.proofs.HandLemmas.{all_append, find_member}
use Rattle.hs_asking.proofs.SeatLemmas.{IsUsable, member_all, seat_held}
use Rattle.hs_asking.specs.Seats.{HasSeat}
use Rattle.hs_asking.specs.Shown.{IfTold, Began, Shown, store_now}
use Rattle.hs_journal.specs.Events.{addressed, has_block}
use Rattle.hs_limits.specs.Block.{Block, spell}
use Rattle.hs_limits.specs.declared.address.Address.{Address}
use Rattle.hs_limits.specs.declared.address.Held.{Held}
use Rattle.hs_limits.specs.declared.spelling.TheConstants.{MOST_BYTES, MOST_POINTERS}
use Rattle.hs_model.proofs.Members.{Member}
use Rattle.hs_model.specs.Judge as judging
use Rattle.hs_model.specs.Judge.{address_of}
use Rattle.hs_model.specs.Store.{Store, held_at, held_in}
use Rattle.hs_model.specs.declared.op.Op.{Op}
use Rattle.hs_model.specs.declared.op.Op.TheVariants as op
use Rattle.hs_tree.proofs.RunsLemmas.{take-all}
use Rattle.hs_model.specs.declared.reply.Reply.{Reply}
use Rattle.hs_tree.specs.Calls.{Hears}
use Rattle.hs_tree.specs.Telling.{AreDone, IsDoneBy}
use Rattle.hs_tree.specs.Growing.{HasWorked, HoldsAtMost, IsNamedBy, IsWork, Matches, StandsFor, as_write, as_writes, forgets_in, write_above, writes_in}
use Rattle.hs_tree.specs.declared.grow.Node.{Node}

-- ---- lists side by side

pub zip_append : {A B : Type 0} (R : A → B → Type 0) (xs : List A) (ys : List B) (us : List A) (vs : List B) → AllZip R xs ys → AllZip R us vs → AllZip R (xs ++ us) (ys ++ vs)
zip_append R [] [] us vs h k = k
zip_append R [] (y ∷ ys) us vs h k = absurd h
zip_append R (x ∷ xs) [] us vs h k = absurd h
zip_append R (x ∷ xs) (y ∷ ys) us vs h k = (h.0, zip_append R xs ys us vs h.1 k)

-- a list beside two in a row is two in a row
pub record Split {A B : Type 0} (R : A → B → Type 0) (xs us : List A) (zs : List B) : Type 0 where
  pub left : List B
  pub right : List B
  pub whole : zs ≡ left ++ right
  pub first : AllZip R xs left
  pub second : AllZip R us right

pub zip_split : {A B : Type 0} (R : A → B → Type 0) (xs us : List A) (zs : List B) → AllZip R (xs ++ us) zs → Split R xs us zs
zip_split R [] us zs h = record { left = []; right = zs; whole = refl; first = tt; second = h }
zip_split R (x ∷ xs) us [] h = absurd h
zip_split R (x ∷ xs) us (z ∷ zs) h =
    let r = zip_split R xs us zs h.1 in
    record { left = z ∷ r.left; right = r.right; whole = ap (λ l. z ∷ l) r.whole; first = (h.0, r.first); second = r.second }

pub zip_length : {A B : Type 0} (R : A → B → Type 0) (xs : List A) (ys : List B) → AllZip R xs ys → length xs ≡ length ys
zip_length R [] [] h = refl
zip_length R [] (y ∷ ys) h = absurd h
zip_length R (x ∷ xs) [] h = absurd h
zip_length R (x ∷ xs) (y ∷ ys) h = let k = zip_length R xs ys h.1 in omega (arith, k)

-- ---- what was asked for

pub writes-append : (xs ys : List Op) → writes_in (xs ++ ys) ≡ writes_in xs ++ writes_in ys
writes-append [] ys = refl
writes-append (op.Open name ∷ xs) ys = writes-append xs ys
writes-append (op.Close name ∷ xs) ys = writes-append xs ys
writes-append (op.Write name payload handles address ∷ xs) ys = ap (λ z. (payload, address) ∷ z) (writes-append xs ys)
writes-append (op.Read name handle ∷ xs) ys = writes-append xs ys
writes-append (op.Look name key ∷ xs) ys = writes-append xs ys
writes-append (op.Root name key handle ∷ xs) ys = writes-append xs ys
writes-append (op.Drop key ∷ xs) ys = writes-append xs ys
writes-append (op.Forget name handle ∷ xs) ys = writes-append xs ys
writes-append (op.Name name handle ∷ xs) ys = writes-append xs ys
writes-append (op.Delete ∷ xs) ys = writes-append xs ys
writes-append (op.Stat ∷ xs) ys = writes-append xs ys

forgets-append : (xs ys : List Op) → forgets_in (xs ++ ys) ≡ forgets_in xs ++ forgets_in ys
forgets-append [] ys = refl
forgets-append (op.Open name ∷ xs) ys = forgets-append xs ys
forgets-append (op.Close name ∷ xs) ys = forgets-append xs ys
forgets-append (op.Write name payload handles address ∷ xs) ys = forgets-append xs ys
forgets-append (op.Read name handle ∷ xs) ys = forgets-append xs ys
forgets-append (op.Look name key ∷ xs) ys = forgets-append xs ys
forgets-append (op.Root name key handle ∷ xs) ys = forgets-append xs ys
forgets-append (op.Drop key ∷ xs) ys = forgets-append xs ys
forgets-append (op.Forget name handle ∷ xs) ys = ap (λ z. handle ∷ z) (forgets-append xs ys)
forgets-append (op.Name name handle ∷ xs) ys = forgets-append xs ys
forgets-append (op.Delete ∷ xs) ys = forgets-append xs ys
forgets-append (op.Stat ∷ xs) ys = forgets-append xs ys

-- ---- how many handles are held

take-last : (n : ℕ) (xs : List Op) (o : Op) → (take n (xs ++ o ∷ []) ≡ take n xs) ⊎ (take n (xs ++ o ∷ []) ≡ xs ++ o ∷ [])
take-last zero [] o = inl refl
take-last zero (x ∷ xs) o = inl refl
take-last (suc n) [] o = inr (ap (λ z. o ∷ z) (take-all n [] (omega arith)))
take-last (suc n) (x ∷ xs) o = elim (take-last n xs o) [ inl e ↦ inl (ap (λ z. x ∷ z) e) | inr e ↦ inr (ap (λ z. x ∷ z) e) ]

take-whole : (xs : List Op) → take (length xs) xs ≡ xs
take-whole [] = refl
take-whole (x ∷ xs) = ap (λ z. x ∷ z) (take-whole xs)

module _ (held : ℕ) (ops : List Op) (balance : length (writes_in ops) ≡ length (forgets_in ops) + held) (few : HoldsAtMost 81 ops) where
  -- so many are held, and at most 81
  pub held_few : held ≤ 81
  held_few =
      let whole : length (writes_in ops) ≤ length (forgets_in ops) + 81 = subst (λ z. length (writes_in z) ≤ length (forgets_in z) + 81) (take-whole ops) (few (length ops)) in
      omega (arith, whole, balance)

  -- one more operation
  module _ (o : Op) where
    counts : (length (writes_in (ops ++ o ∷ [])) ≡ length (writes_in ops) + length (writes_in (o ∷ []))) × (length (forgets_in (ops ++ o ∷ [])) ≡ length (forgets_in ops) + length (forgets_in (o ∷ [])))
    counts = (ap (λ z. length z) (writes-append ops (o ∷ [])) ∙ length-append (writes_in ops) (writes_in (o ∷ [])), ap (λ z. length z) (forgets-append ops (o ∷ [])) ∙ length-append (forgets_in ops) (forgets_in (o ∷ [])))

    pub few_more : held + length (writes_in (o ∷ [])) ≤ 81 → HoldsAtMost 81 (ops ++ o ∷ [])
    few_more room n =
        let w : length (writes_in (ops ++ o ∷ [])) ≡ length (writes_in ops) + length (writes_in (o ∷ [])) = counts.0 in
        let f : length (forgets_in (ops ++ o ∷ [])) ≡ length (forgets_in ops) + length (forgets_in (o ∷ [])) = counts.1 in
        let whole : length (writes_in (ops ++ o ∷ [])) ≤ length (forgets_in (ops ++ o ∷ [])) + 81 = omega (arith, w, f, balance, room) in
        elim (take-last n ops o) [
          | inl e ↦ subst (λ z. length (writes_in z) ≤ length (forgets_in z) + 81) (sym e) (few n)
          | inr e ↦ subst (λ z. length (writes_in z) ≤ length (forgets_in z) + 81) (sym e) whole
        ]

    pub balance_more : (after : ℕ) → held + length (writes_in (o ∷ [])) ≡ after + length (forgets_in (o ∷ [])) → length (writes_in (ops ++ o ∷ [])) ≡ length (forgets_in (ops ++ o ∷ [])) + after
    balance_more after e =
        let w : length (writes_in (ops ++ o ∷ [])) ≡ length (writes_in ops) + length (writes_in (o ∷ [])) = counts.0 in
        let f : length (forgets_in (ops ++ o ∷ [])) ≡ length (forgets_in ops) + length (forgets_in (o ∷ [])) = counts.1 in
        omega (arith, w, f, balance, e)

-- an open holds nothing
pub few_open : (session : List ℕ) (ops : List Op) → HoldsAtMost 81 ops → HoldsAtMost 81 (op.Open session ∷ ops)
few_open session ops h zero = omega arith
few_open session ops h (suc n) = h n

pub few_none : HoldsAtMost 81 []
few_none zero = omega arith
few_none (suc n) = omega arith

-- one more was done
pub done_more : {tells : Type 0} → (start old new : Shown tells) (ops : List Op) (o : Op) (told : Reply) → AreDone start old ops → Hears old new o told → IsDoneBy o told → AreDone start new (ops ++ o ∷ [])
done_more {tells} start old new [] o told h w d = (new, told, subst (λ (s : Shown tells). Hears s new o told) h w, d, refl)
done_more {tells} start old new (x ∷ xs) o told h w d = (h.0, h.1, h.2, h.3, done_more h.0 old new xs o told h.4 w d)

-- one more operation of work, which writes these
pub worked_more : {tells : Type 0} → (name : List ℕ → Address) (session : List ℕ) (start old new : Shown tells) (held after : ℕ) (done : List Block) (o : Op) (more : List Block) → HasWorked name session start old held done → (told : Reply) → Hears old new o told → IsDoneBy o told → IsWork session o → writes_in (o ∷ []) ≡ as_writes name more → held + length (writes_in (o ∷ [])) ≤ 81 → held + length (writes_in (o ∷ [])) ≡ after + length (forgets_in (o ∷ [])) → HasWorked name session start new after (done ++ more)
worked_more name session start old new held after done o more h told hears is work writes room count = record {
  ops = h.ops ++ o ∷ [];
  asked = hears.asked ∙ (ap (λ z. z ++ o ∷ []) h.asked ∙ append_assoc start.asked (op.Open session ∷ h.ops) (o ∷ []));
  work = all_append (IsWork session) h.ops (o ∷ []) h.work (work, tt);
  writes = writes-append h.ops (o ∷ []) ∙ (ap (λ z. z ++ writes_in (o ∷ [])) h.writes ∙ (ap (λ z. as_writes name done ++ z) writes ∙ sym (map-append (as_write name) done more)));
  done = done_more start old new (op.Open session ∷ h.ops) o told h.done hears is;
  balance = balance_more held h.ops h.balance h.few o after count;
  few = few_more held h.ops h.balance h.few o room;
}

-- ---- handles and nodes

-- entries that are among those of a seat stand for their nodes
module _ (s : Store) (session : List ℕ) (next : ℕ) (es : List (ℕ × Held)) (seat : HasSeat s session next es) where
  pub stand : (nodes : List Node) (fs : List (ℕ × Held)) → AllZip Matches nodes fs → ((e : ℕ × Held) → Member e fs → Member e es) → AllByRecursion (StandsFor s session) nodes
  stand [] [] h k = tt
  stand [] (f ∷ fs) h k = absurd h
  stand (n ∷ ns) [] h k = absurd h
  stand (n ∷ ns) (f ∷ fs) h k =
      let found : held_at s session f.0 ≡ Some f.1 = seat_held s session next es seat f (k f (inl refl)) in
      let same : f.1 ≡ record { address = n.address; epoch = f.1.epoch } = ap (λ (a : Address). record { address = a; epoch = f.1.epoch }) (sym h.0.1) in
      ((f.1.epoch, ap (λ z. held_at s session z) h.0.0 ∙ (found ∙ ap (λ (x : Held). Some x) same)), stand ns fs h.1 (λ e m. k e (inr m)))

  pub usable : (nodes : List Node) (fs : List (ℕ × Held)) → AllZip Matches nodes fs → ((e : ℕ × Held) → Member e fs → Member e es) → AllByRecursion (IsUsable s (record { next = next; handles = es })) (map (λ n. n.handle) nodes)
  usable [] [] h k = tt
  usable [] (f ∷ fs) h k = absurd h
  usable (n ∷ ns) [] h k = absurd h
  usable (n ∷ ns) (f ∷ fs) h k =
      let found : held_in (Some (record { next = next; handles = es })) f.0 ≡ Some f.1 = find_member 0 es f next seat.ascend (k f (inl refl)) in
      ((f.1, ap (λ z. held_in (Some (record { next = next; handles = es })) z) h.0.0 ∙ found, member_all (λ (x : ℕ × Held). slice_index s.epochs 0 ≤ x.1.epoch + 1) es f seat.fresh (k f (inl refl))), usable ns fs h.1 (λ e m. k e (inr m)))

-- ---- the write of a block above some nodes

stand-addresses : (s : Store) (session : List ℕ) (nodes : List Node) → AllByRecursion (StandsFor s session) nodes → map (λ handle. address_of s session handle) (map (λ n. n.handle) nodes) ≡ map (λ n. n.address) nodes
stand-addresses s session [] h = refl
stand-addresses s session (n ∷ ns) h =
    let here : address_of s session n.handle ≡ n.address = ap (λ x. (unwrap_or x judging.nothing).address) h.0.1 in
    let rest = stand-addresses s session ns h.1 in
    λ i. here i ∷ rest i

stand_all : (s : Store) (session : List ℕ) (nodes : List Node) → AllByRecursion (StandsFor s session) nodes → list_all (λ handle. is_some (held_at s session handle)) (map (λ n. n.handle) nodes) ≡ true
stand_all s session [] h = refl
stand_all s session (n ∷ ns) h =
    let here : is_some (held_at s session n.handle) ≡ true = ap (λ x. is_some x) h.0.1 in
    and_from (is_some (held_at s session n.handle)) (list_all (λ handle. is_some (held_at s session handle)) (map (λ n. n.handle) ns)) here (stand_all s session ns h.1)

le-true : (a b : ℕ) → a ≤ b → nat_le a b ≡ true
le-true a b h = grind (arith, tests, h)

pub written-above : (s : Store) (session : List ℕ) (nodes : List Node) (payload : List ℕ) → AllByRecursion (StandsFor s session) nodes → judging.written s session payload (map (λ n. n.handle) nodes) ≡ record { pointers = map (λ n. n.address) nodes; bytes = payload }
written-above s session nodes payload h = ap (λ (z : List Address). record { pointers = z; bytes = payload }) (stand-addresses s session nodes h)

pub write_named : (name : List ℕ → Address) (b : Began) (s : Store) (session : List ℕ) (nodes : List Node) (payload : List ℕ) → b.name ≡ name → length nodes ≤ MOST_POINTERS → length payload ≤ MOST_BYTES → AllByRecursion (StandsFor s session) nodes → addressed b.name s (write_above name session nodes payload) ≡ write_above name session nodes payload
write_named name b s session nodes payload named few short h =
    let handles : List ℕ = map (λ n. n.handle) nodes in
    let counted : length handles ≡ length nodes = length-map nodes (λ n. n.handle) in
    let has : has_block s session payload handles ≡ true =
    and_from (list_all (λ handle. is_some (held_at s session handle)) handles && nat_le (length handles) MOST_POINTERS) (nat_le (length payload) MOST_BYTES)
    (and_from (list_all (λ handle. is_some (held_at s session handle)) handles) (nat_le (length handles) MOST_POINTERS) (stand_all s session nodes h) (le-true (length handles) MOST_POINTERS (omega (arith, counted, few))))
    (le-true (length payload) MOST_BYTES short) in
    let block_is : judging.written s session payload handles ≡ record { pointers = map (λ n. n.address) nodes; bytes = payload } = written-above s session nodes payload h in
    let address_is : (if has_block s session payload handles then Some (b.name (spell (judging.written s session payload handles))) else None) ≡ Some (name (spell (record { pointers = map (λ n. n.address) nodes; bytes = payload }))) =
    ap (λ c. if c then Some (b.name (spell (judging.written s session payload handles))) else None) has ∙ (ap (λ (f : List ℕ → Address). Some (f (spell (judging.written s session payload handles)))) named ∙ ap (λ z. Some (name (spell z))) block_is) in
    ap (λ z. op.Write session payload handles z) address_is

-- what makes a write's condition
pub is_named : {tells : Type 0} → (name : List ℕ → Address) (session : List ℕ) (old : Shown tells) (nodes : List Node) (payload : List ℕ) → length nodes ≤ MOST_POINTERS → length payload ≤ MOST_BYTES → IsNamedBy name session old nodes → IfTold old (λ b. addressed b.name (store_now b old) (write_above name session nodes payload) ≡ write_above name session nodes payload)
is_named name session old nodes payload few short h = λ is. write_named name old.began (store_now old.began old) session nodes payload (h is).0 few short (h is).1
