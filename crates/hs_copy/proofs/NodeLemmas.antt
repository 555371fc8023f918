-- Nodes, and what their session holds.
use Rattle.std.proofs.Common.{◌≡◌, ◌∙◌, inl, inr, ℕ, ◌≤◌, Bool, true, ◌&&◌, if◌then◌else◌, List, [], ◌∷◌, Some, None, zero, suc, refl, sym, ap, subst, arith, tests, length, map, is_some, nat_le, slice_get, unwrap_or}
use Rattle.std.proofs.lemmas.List.{length-map}
use Rattle.std.specs.List.{AllByRecursion, AllZip, list_all}
use Rattle.hs_asking.proofs.HandLemmas.{find_member}
use Rattle.hs_asking.specs.Shown.{Began, IfTold, Shown, store_now}
use Rattle.hs_copy.proofs.HandsLemmas.{IsKnown}
use Rattle.hs_copy.specs.Hands.{HasHands}
use Rattle.hs_copy.specs.Rounds.{AreBelowOf, HoldsSo, IsNamedBy, Matches, StandsFor, block_above, write_above}
use Rattle.hs_copy.specs.declared.order.Placed.{Placed}
use Rattle.hs_copy.specs.declared.write.Node.{Node}
use Rattle.hs_journal.specs.Events.{addressed, has_block}
use Rattle.hs_limits.specs.Block.{spell}
use Rattle.hs_limits.specs.declared.address.Address.{Address}
use Rattle.hs_limits.specs.declared.address.Held.{Held}
use Rattle.hs_limits.specs.declared.spelling.TheConstants.{MOST_BYTES, MOST_POINTERS}
use Rattle.hs_model.proofs.Members.{Member}
use Rattle.hs_model.specs.Judge.{address_of, nothing, written}
use Rattle.hs_model.specs.Store.{Store, held_at, held_in}
use Rattle.hs_model.specs.declared.op.Op.TheVariants as op
use Rattle.hs_copy.proofs.BlockLemmas.{head_or, some_is, tail_of}
use Rattle.hs_tree.specs.Storing.{our_session}

-- ---- the entries of nodes

-- the entry of a node
pub record Entry (es : List (ℕ × Held)) (n : Node) : Type 0 where
  pub held : Held
  pub among : Member (n.handle, held) es
  pub same : n.address ≡ held.address

entry_at : (nodes : List Node) (es : List (ℕ × Held)) → AllZip Matches nodes es → (k : ℕ) (n : Node) → slice_get nodes k ≡ Some n → Entry es n
entry_at [] [] h k n e = cc e
entry_at [] (x ∷ es) h k n e = absurd h
entry_at (m ∷ nodes) [] h k n e = absurd h
entry_at (m ∷ nodes) (x ∷ es) h zero n e =
    let same : m ≡ n = some_is m n e in
    subst (λ z. Entry (x ∷ es) z) same (record { held = x.1; among = inl (λ i. (h.0.0 i, x.1)); same = h.0.1 })
entry_at (m ∷ nodes) (x ∷ es) h (suc k) n e =
    let r = entry_at nodes es h.1 k n e in
    record { held = r.held; among = inr r.among; same = r.same }

pub entries_below : (nodes : List Node) (es : List (ℕ × Held)) → AllZip Matches nodes es → (places : List ℕ) (below : List Node) → map (λ p. slice_get nodes p) places ≡ map (λ (n : Node). Some n) below → AllByRecursion (Entry es) below
entries_below nodes es h places [] e = tt
entries_below nodes es h [] (b ∷ below) e = cc e
entries_below nodes es h (p ∷ places) (b ∷ below) e =
    (entry_at nodes es h p b (ap (λ z. head_or None z) e), entries_below nodes es h places below (ap (λ z. tail_of z) e))

pub known_all : (next : ℕ) (es : List (ℕ × Held)) (below : List Node) → AllByRecursion (Entry es) below → AllByRecursion (IsKnown (record { next = next; handles = es })) (map (λ (n : Node). n.handle) below)
known_all next es [] h = tt
known_all next es (b ∷ below) h = ((h.0.held, h.0.among), known_all next es below h.1)

pub stand_all : (s : Store) (since next : ℕ) (es : List (ℕ × Held)) → HasHands s since next es → (below : List Node) → AllByRecursion (Entry es) below → AllByRecursion (StandsFor s our_session) below
stand_all s since next es hands [] h = tt
stand_all s since next es hands (b ∷ below) h =
    let found : held_at s our_session b.handle ≡ Some h.0.held = ap (λ x. held_in x b.handle) hands.opened ∙ find_member 0 es (b.handle, h.0.held) next hands.ascend h.0.among in
    let same : h.0.held ≡ record { address = b.address; epoch = h.0.held.epoch } = ap (λ (a : Address). record { address = a; epoch = h.0.held.epoch }) (sym h.0.same) in
    ((h.0.held.epoch, found ∙ ap (λ (x : Held). Some x) same), stand_all s since next es hands below h.1)

-- ---- the write of a block above some nodes

stand-addresses : (s : Store) (nodes : List Node) → AllByRecursion (StandsFor s our_session) nodes → map (λ handle. address_of s our_session handle) (map (λ (n : Node). n.handle) nodes) ≡ map (λ (n : Node). n.address) nodes
stand-addresses s [] h = refl
stand-addresses s (n ∷ ns) h =
    let here : address_of s our_session n.handle ≡ n.address = ap (λ x. (unwrap_or x nothing).address) h.0.1 in
    let rest = stand-addresses s ns h.1 in
    λ i. here i ∷ rest i

and_from : (a b : Bool) → a ≡ true → b ≡ true → (a && b) ≡ true
and_from a b e f = rw (e, f) refl

are_held : (s : Store) (nodes : List Node) → AllByRecursion (StandsFor s our_session) nodes → list_all (λ handle. is_some (held_at s our_session handle)) (map (λ (n : Node). n.handle) nodes) ≡ true
are_held s [] h = refl
are_held s (n ∷ ns) h =
    let here : is_some (held_at s our_session n.handle) ≡ true = ap (λ x. is_some x) h.0.1 in
    and_from (is_some (held_at s our_session n.handle)) (list_all (λ handle. is_some (held_at s our_session handle)) (map (λ (n : Node). n.handle) ns)) here (are_held s ns h.1)

le-true : (a b : ℕ) → a ≤ b → nat_le a b ≡ true
le-true a b h = grind (arith, tests, h)

pub written-above : (s : Store) (nodes : List Node) (payload : List ℕ) → AllByRecursion (StandsFor s our_session) nodes → written s our_session payload (map (λ (n : Node). n.handle) nodes) ≡ block_above nodes payload
written-above s nodes payload h = ap (λ (z : List Address). record { pointers = z; bytes = payload }) (stand-addresses s nodes h)

write_named : (name : List ℕ → Address) (b : Began) (s : Store) (nodes : List Node) (payload : List ℕ) → b.name ≡ name → length nodes ≤ MOST_POINTERS → length payload ≤ MOST_BYTES → AllByRecursion (StandsFor s our_session) nodes → addressed b.name s (write_above name our_session nodes payload) ≡ write_above name our_session nodes payload
write_named name b s nodes payload named few short h =
    let handles : List ℕ = map (λ (n : Node). n.handle) nodes in
    let counted : length handles ≡ length nodes = length-map nodes (λ (n : Node). n.handle) in
    let has : has_block s our_session payload handles ≡ true =
    and_from (list_all (λ handle. is_some (held_at s our_session handle)) handles && nat_le (length handles) MOST_POINTERS) (nat_le (length payload) MOST_BYTES)
    (and_from (list_all (λ handle. is_some (held_at s our_session handle)) handles) (nat_le (length handles) MOST_POINTERS) (are_held s nodes h) (le-true (length handles) MOST_POINTERS (omega (arith, counted, few))))
    (le-true (length payload) MOST_BYTES short) in
    let block_is : written s our_session payload handles ≡ block_above nodes payload = written-above s nodes payload h in
    let address_is : (if has_block s our_session payload handles then Some (b.name (spell (written s our_session payload handles))) else None) ≡ Some (name (spell (block_above nodes payload))) =
    ap (λ c. if c then Some (b.name (spell (written s our_session payload handles))) else None) has ∙ (ap (λ (f : List ℕ → Address). Some (f (spell (written s our_session payload handles)))) named ∙ ap (λ z. Some (name (spell z))) block_is) in
    ap (λ z. op.Write our_session payload handles z) address_is

pub is_named : {tells : Type 0} → (name : List ℕ → Address) (old : Shown tells) (nodes : List Node) (payload : List ℕ) → length nodes ≤ MOST_POINTERS → length payload ≤ MOST_BYTES → IsNamedBy name our_session old nodes → IfTold old (λ b. addressed b.name (store_now b old) (write_above name our_session nodes payload) ≡ write_above name our_session nodes payload)
is_named name old nodes payload few short h = λ is. write_named name old.began (store_now old.began old) nodes payload (h is).0 few short (h is).1

-- the operation as its parts make it
pub op_is : (name : List ℕ → Address) (session payload : List ℕ) (nodes : List Node) (addresses : List Address) (handles bytes : List ℕ) (a : Address) → addresses ≡ map (λ (n : Node). n.address) nodes → handles ≡ map (λ (n : Node). n.handle) nodes → bytes ≡ payload → a ≡ name (spell (record { pointers = addresses; bytes = payload })) → op.Write session bytes handles (Some a) ≡ write_above name session nodes payload
op_is name session payload nodes addresses handles bytes a e f g h =
    let addr : a ≡ name (spell (block_above nodes payload)) = h ∙ ap (λ (z : List Address). name (spell (record { pointers = z; bytes = payload }))) e in
    λ i. op.Write session (g i) (f i) (Some (addr i))

-- those below a place are named, where the nodes are held
pub below_named : {tells : Type 0} → (name : List ℕ → Address) (now : Shown tells) (nodes below : List Node) (q : Placed) → HoldsSo name now nodes → AreBelowOf nodes q below → IsNamedBy name our_session now below
below_named name now nodes below q holds are = λ is.
    let h = (holds is).1 in
    (h.named, stand_all (store_now now.began now) (holds is).0 h.next h.entries h.hands below (entries_below nodes h.entries h.matches q.below below are.found))
