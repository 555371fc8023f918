-- Entries that are counted by kind.
use Rattle.std.proofs.Common.{◌≡◌, ◌∙◌, sym, ap, subst, ℕ, ◌+◌, ◌<◌, ◌≤◌, Bool, true, false, cond, List, [], ◌∷◌, ◌++◌, length, drop, set, get_or, add-one, drop-cons, refl, arith}
use Rattle.std.proofs.lemmas.Bool.{and_from, and_parts, eq-eqb, eqb-true}
use Rattle.std.proofs.lemmas.List.{drop-append-le, drop-set-lt}
use Rattle.std.specs.BTreeMap.{is_at}
use Rattle.std.specs.Prelude.{count_by, ◌==◌, ◌&&◌}
use Rattle.hs_entry.specs.declared.entry.Entry.{Entry}
use Rattle.hs_replica.specs.declared.kinds.Kinds.{Kinds}
use Rattle.hs_replica.specs.Counting.{Adds, Counts, Holds, at_epoch, count_at, once, weight}
use Rattle.hs_replica.specs.Kinds.{enters, is_block, is_got, is_root, stores_for}
use Rattle.hs_rounds.specs.declared.place.Place.{Place}
use Rattle.hs_rounds.specs.Rounds.{place_cmp}
use Rattle.hs_rounds.proofs.PlaceLemmas.{same_place, tied_place}
use Rattle.hs_replica.proofs.CountLemmas.{count_back, count_front}

-- ---- places

same_bool : (a b : Bool) → (a ≡ true → b ≡ true) → (b ≡ true → a ≡ true) → a ≡ b
same_bool true b f g = sym (f refl)
same_bool false true f g = g refl
same_bool false false f g = refl

abbrev same : Place → Place → Bool
same p q = p.from == q.from && (p.epoch == q.epoch && p.round == q.round)

place_at : (p q : Place) → is_at (place_cmp p) q ≡ same p q
place_at p q = same_bool (is_at (place_cmp p) q) (same p q) there back
  where
    there : is_at (place_cmp p) q ≡ true → same p q ≡ true
    there at = subst (λ (x : Place). same p x ≡ true) (same_place p q at)
        (and_from _ _ (eq-eqb p.from p.from refl) (and_from _ _ (eq-eqb p.epoch p.epoch refl) (eq-eqb p.round p.round refl)))

    back : same p q ≡ true → is_at (place_cmp p) q ≡ true
    back e =
        let one = and_parts (p.from == q.from) (p.epoch == q.epoch && p.round == q.round) e in
        let two = and_parts (p.epoch == q.epoch) (p.round == q.round) one.1 in
        let f : p.from ≡ q.from = eqb-true _ _ one.0 in
        let g : p.epoch ≡ q.epoch = eqb-true _ _ two.0 in
        let h : p.round ≡ q.round = eqb-true _ _ two.1 in
        let at : p ≡ q = λ i. record { epoch = g i; round = h i; from = f i } in
        subst (λ (x : Place). is_at (place_cmp p) x ≡ true) at (tied_place p)

-- an Enter is counted at its epoch, a Block at its line, and a Got at its round
pub got_once : (p q : Place) → once p q ≡ weight (p.from == q.from && (p.epoch == q.epoch && p.round == q.round))
got_once p q = ap weight (place_at p q)

and_true : (b : Bool) → (true && (b && true)) ≡ b
and_true true = refl
and_true false = refl

pub enter_once : (a b : ℕ) → once (at_epoch a) (at_epoch b) ≡ weight (a == b)
enter_once a b = ap weight (place_at (at_epoch a) (at_epoch b) ∙ and_true (a == b))

-- ---- lists

pub counts_back : (entry : Entry) (entries : List Entry) (old new : Kinds) → Counts old entries → Adds entry old new → Counts new (entries ++ entry ∷ [])
counts_back entry entries old new c a = record {
  blocks = omega (arith, c.blocks, a.blocks, count_back is_block entry entries);
  roots = omega (arith, c.roots, a.roots, count_back is_root entry entries);
  stores = λ line. omega (arith, c.stores line, a.stores line, count_back (stores_for line) entry entries);
  enters = λ epoch. omega (arith, c.enters epoch, a.enters epoch, count_back (enters epoch) entry entries);
  gots = λ from epoch round. omega (arith, c.gots from epoch round, a.gots (record { epoch = epoch; round = round; from = from }), count_back (is_got from epoch round) entry entries);
}

-- the first of them, or the last, was counted
pub holds_front : (entry : Entry) (entries : List Entry) (kinds : Kinds) → Counts kinds (entry ∷ entries) → Holds entry kinds
holds_front entry entries kinds c = record {
  blocks = omega (arith, c.blocks, count_front is_block entry entries);
  roots = omega (arith, c.roots, count_front is_root entry entries);
  stores = λ line. omega (arith, c.stores line, count_front (stores_for line) entry entries);
  enters = λ epoch. omega (arith, c.enters epoch, count_front (enters epoch) entry entries);
  gots = λ place. omega (arith, c.gots place.from place.epoch place.round, count_front (is_got place.from place.epoch place.round) entry entries);
}

pub holds_back : (entry : Entry) (entries : List Entry) (kinds : Kinds) → Counts kinds (entries ++ entry ∷ []) → Holds entry kinds
holds_back entry entries kinds c = record {
  blocks = omega (arith, c.blocks, count_back is_block entry entries);
  roots = omega (arith, c.roots, count_back is_root entry entries);
  stores = λ line. omega (arith, c.stores line, count_back (stores_for line) entry entries);
  enters = λ epoch. omega (arith, c.enters epoch, count_back (enters epoch) entry entries);
  gots = λ place. omega (arith, c.gots place.from place.epoch place.round, count_back (is_got place.from place.epoch place.round) entry entries);
}

-- and without it the others are
pub counts_rest : (entry : Entry) (entries : List Entry) (old new : Kinds) → Counts old (entry ∷ entries) → Adds entry new old → Counts new entries
counts_rest entry entries old new c a = record {
  blocks = omega (arith, c.blocks, a.blocks, count_front is_block entry entries);
  roots = omega (arith, c.roots, a.roots, count_front is_root entry entries);
  stores = λ line. omega (arith, c.stores line, a.stores line, count_front (stores_for line) entry entries);
  enters = λ epoch. omega (arith, c.enters epoch, a.enters epoch, count_front (enters epoch) entry entries);
  gots = λ from epoch round. omega (arith, c.gots from epoch round, a.gots (record { epoch = epoch; round = round; from = from }), count_front (is_got from epoch round) entry entries);
}

pub counts_init : (entry : Entry) (entries : List Entry) (old new : Kinds) → Counts old (entries ++ entry ∷ []) → Adds entry new old → Counts new entries
counts_init entry entries old new c a = record {
  blocks = omega (arith, c.blocks, a.blocks, count_back is_block entry entries);
  roots = omega (arith, c.roots, a.roots, count_back is_root entry entries);
  stores = λ line. omega (arith, c.stores line, a.stores line, count_back (stores_for line) entry entries);
  enters = λ epoch. omega (arith, c.enters epoch, a.enters epoch, count_back (enters epoch) entry entries);
  gots = λ from epoch round. omega (arith, c.gots from epoch round, a.gots (record { epoch = epoch; round = round; from = from }), count_back (is_got from epoch round) entry entries);
}

-- the first of those behind a place is handed out
pub counts_popped : (items : List Entry) (gone : ℕ) (entry other : Entry) (old new : Kinds) → gone < length items → get_or items gone entry ≡ entry
    → Counts old (drop gone items) → (Holds entry old → Adds entry new old) → Counts new (drop (gone + 1) (set items gone other))
counts_popped items gone entry other old new h e c removes =
    let at : drop gone items ≡ get_or items gone entry ∷ drop (gone + 1) items = rw (add-one, drop-cons items gone entry) refl in
    let first : drop gone items ≡ entry ∷ drop (gone + 1) items = at ∙ ap (λ x. x ∷ drop (gone + 1) items) e in
    let all : Counts old (entry ∷ drop (gone + 1) items) = subst (λ xs. Counts old xs) first c in
    let rest : Counts new (drop (gone + 1) items) = counts_rest entry (drop (gone + 1) items) old new all (removes (holds_front entry (drop (gone + 1) items) old all)) in
    let same : drop (gone + 1) (set items gone other) ≡ drop (gone + 1) items = drop-set-lt (gone + 1) items gone other (omega arith) in
    subst (λ xs. Counts new xs) (sym same) rest

-- the last of them goes
pub counts_cut : (items rest : List Entry) (gone : ℕ) (entry : Entry) (old new : Kinds) → items ≡ rest ++ entry ∷ [] → gone ≤ length rest
    → Counts old (drop gone items) → (Holds entry old → Adds entry new old) → Counts new (drop gone rest)
counts_cut items rest gone entry old new e h c removes =
    let at : drop gone items ≡ drop gone rest ++ entry ∷ [] = ap (drop gone) e ∙ drop-append-le gone rest (entry ∷ []) h in
    let all : Counts old (drop gone rest ++ entry ∷ []) = subst (λ xs. Counts old xs) at c in
    counts_init entry (drop gone rest) old new all (removes (holds_back entry (drop gone rest) old all))
