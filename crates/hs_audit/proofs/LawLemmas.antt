-- What the text of an audit says of the store.
use Rattle.std.proofs.Common.{inl, inr, ◌≡◌, ◌∙◌, ◌+◌, ◌++◌, ◌∷◌, ◌<◌, ◌≤◌, ◌/◌, ◌%◌, ◌==◌, ◌&&◌, [], ℕ, zero, suc, List, Option, None, Some, Bool, true, false, cond, refl, sym, ap, subst, map, filter, length, is_none, is_some, arith, nat_lt, append_assoc}
use Rattle.std.proofs.lemmas.Bool.{false≢true}
use Rattle.std.proofs.lemmas.Bool.Decides.{nat_tests}
use Rattle.std.specs.BTreeMap.{insert_entry}
use Rattle.std.specs.BTreeSet.{insert_key}
use Rattle.std.specs.declared.cmp.Ordering.{Ordering}
use Rattle.std.specs.declared.cmp.Ordering.TheVariants.{Less, Equal, Greater}
use Rattle.std.specs.Fmt.{decimal, digit_glyph, digits, digits_onto}
use Rattle.std.specs.List.{IsDistinct, flat_map, range_with_len}
use Rattle.std.specs.List.Sorted.{IsStrictlySortedBy}
use Rattle.std.specs.Map.{keys_of}
use Rattle.std.specs.Ordering.{match_ordering}
use Rattle.std.specs.Prelude.{Contains, codes}
use Rattle.hs_audit.proofs.AscendingLemmas.{among-ascending, sorted-ascending, sorted-insert, sorted_none}
use Rattle.hs_audit.proofs.MissingLemmas.{among-filter}
use Rattle.hs_audit.specs.Laws.{AreMissing, EndsOk}
use Rattle.hs_audit.specs.Missing.{kept_by_roots, missing}
use Rattle.hs_audit.specs.Text.{last_line, missing_line, report, shard_line}
use Rattle.hs_fold.specs.Catalogue.{Present}
use Rattle.hs_fold.specs.Opened.{both}
use Rattle.hs_fold.specs.Runs.Opened.{store_of}
use Rattle.hs_fold.specs.Runs.Facts.{Catalogue as Folded, plain}
use Rattle.hs_fold.specs.Shards.Catalogue.{Catalogue}
use Rattle.hs_fold.specs.Shards.Opened.{all_present}
use Rattle.hs_laws.proofs.RunLemmas.{root_whole}
use Rattle.hs_laws.proofs.ValidLemmas.{valid_from_is}
use Rattle.hs_laws.specs.Reached.{IsWhole}
use Rattle.hs_laws.specs.Valid.{IsValid}
use Rattle.hs_limits.specs.declared.address.Address.{Address}
use Rattle.hs_model.proofs.Members.{Member, among_from_member, contains_from_member, member_from_contains, member_of_filter, member_of_map, member-filter, member-map}
use Rattle.hs_model.proofs.ReachLemmas.{is_listed, listed_is}
use Rattle.hs_model.proofs.SetLemmas.{distinct_from_sorted}
use Rattle.hs_model.specs.declared.store.StoredBlock.{StoredBlock}
use Rattle.hs_model.specs.Listed.{IsPresent}
use Rattle.hs_model.specs.Reach.{IsReached, is_among, is_same, reached_from}
use Rattle.hs_model.specs.Store.{Root, Store, address_cmp, block_at}

-- ---- the blocks of lists ascend

keys-insert : {V : Type 0} (es : List (Address × V)) (a : Address) (v : V) → keys_of (insert_entry address_cmp es a v) ≡ insert_key address_cmp (keys_of es) a
keys-insert [] a v = refl
keys-insert {V = V} (e ∷ es) a v = go (address_cmp a e.0) (keys-insert es a v)
  where
    go : (o : Ordering) → keys_of (insert_entry address_cmp es a v) ≡ insert_key address_cmp (keys_of es) a
        → keys_of (match_ordering o ((a, v) ∷ e ∷ es) ((e.0, v) ∷ es) (e ∷ insert_entry address_cmp es a v)) ≡ match_ordering o (a ∷ e.0 ∷ keys_of es) (e.0 ∷ keys_of es) (e.0 ∷ insert_key address_cmp (keys_of es) a)
    go Less ih = refl
    go Equal ih = refl
    go Greater ih = ap (λ z. e.0 ∷ z) ih

both_sorted : (es others : List (Address × Present)) → IsStrictlySortedBy address_cmp (keys_of others) → IsStrictlySortedBy address_cmp (keys_of (both es others))
both_sorted [] others s = s
both_sorted (e ∷ es) others s = subst (λ z. IsStrictlySortedBy address_cmp z) (sym (keys-insert (both es others) e.0 e.1)) (sorted-insert (keys_of (both es others)) e.0 (both_sorted es others s))

present_sorted : (cs : List Catalogue) → IsStrictlySortedBy address_cmp (keys_of (all_present cs))
present_sorted [] = sorted_none
present_sorted (c ∷ cs) = both_sorted c.blocks (all_present cs) (present_sorted cs)

keys_stored : (es : List (Address × Present)) → keys_of (map (λ e. (e.0, e.1.stored)) es) ≡ keys_of es
keys_stored [] = refl
keys_stored (e ∷ es) = ap (λ z. e.0 ∷ z) (keys_stored es)

pub are_distinct : (cs : List Folded) → IsDistinct is_same (keys_of (store_of cs).blocks)
are_distinct cs = subst (λ z. IsDistinct is_same z) (sym (keys_stored (all_present (map plain cs)))) (distinct_from_sorted (keys_of (all_present (map plain cs))) (present_sorted (map plain cs)))

-- ---- what is missing

both_true : (b c : Bool) → (b && c) ≡ true → (b ≡ true) × (c ≡ true)
both_true true c h = (refl, h)
both_true false c h = absurd (false≢true h)

missing_among : (s : Store) (a : Address) → is_among (missing s) a ≡ (is_none (block_at s a) && is_among (reached_from s (kept_by_roots s)) a)
unfolding missing
missing_among s a = among-ascending (filter (λ a. is_none (block_at s a)) (reached_from s (kept_by_roots s))) a ∙ among-filter (λ a. is_none (block_at s a)) (reached_from s (kept_by_roots s)) a

missing_sorted : (s : Store) → IsStrictlySortedBy address_cmp (missing s)
unfolding missing
missing_sorted s = sorted-ascending (filter (λ a. is_none (block_at s a)) (reached_from s (kept_by_roots s)))

none_not_some : (o : Option StoredBlock) → is_none o ≡ true → is_some o ≡ true → ⊥
none_not_some None e f = false≢true f
none_not_some (Some b) e f = false≢true e

none_where_not : (o : Option StoredBlock) → (is_some o ≡ true → ⊥) → is_none o ≡ true
none_where_not None f = refl
none_where_not (Some b) f = absurd (f refl)

pub are_missing : (s : Store) → IsDistinct is_same (keys_of s.blocks) → AreMissing s (missing s)
are_missing s d = record {
  listed = λ a. (
    λ h. let both = both_true (is_none (block_at s a)) (is_among (reached_from s (kept_by_roots s)) a) (sym (missing_among s a) ∙ h) in
        (listed_is s (kept_by_roots s) a d both.1, λ there. none_not_some (block_at s a) both.0 there),
    λ h. missing_among s a ∙ ap (λ b. b && is_among (reached_from s (kept_by_roots s)) a) (none_where_not (block_at s a) h.1) ∙ is_listed s (kept_by_roots s) a h.0,
  );
  ascending = missing_sorted s;
}

-- ---- the last line

-- the last byte but one
abbrev last_but_one : List ℕ → ℕ
last_but_one [] = 0
last_but_one (x ∷ []) = 0
last_but_one (x ∷ y ∷ []) = x
last_but_one (x ∷ y ∷ z ∷ zs) = last_but_one (y ∷ z ∷ zs)

last_of_more : (x : ℕ) (ys : List ℕ) → 2 ≤ length ys → last_but_one (x ∷ ys) ≡ last_but_one ys
last_of_more x [] h = absurd (omega (arith, h))
last_of_more x (y ∷ []) h = absurd (omega (arith, h))
last_of_more x (y ∷ z ∷ zs) h = refl

long_behind : (xs ys : List ℕ) → 2 ≤ length ys → 2 ≤ length (xs ++ ys)
long_behind [] ys h = h
long_behind (x ∷ xs) ys h = let l = long_behind xs ys h in omega (arith, l)

last_behind : (xs ys : List ℕ) → 2 ≤ length ys → last_but_one (xs ++ ys) ≡ last_but_one ys
last_behind [] ys h = refl
last_behind (x ∷ xs) ys h = last_of_more x (xs ++ ys) (long_behind xs ys h) ∙ last_behind xs ys h

-- the digits of a number end with one
record EndsWithDigit (text : List ℕ) : Type 0 where
  front : List ℕ
  digit : ℕ
  small : digit < 10
  is : text ≡ front ++ (48 + digit) ∷ []

onto_front : (k n : ℕ) (acc : List ℕ) → (front : List ℕ) × (digits_onto k 10 false n acc ≡ front ++ acc)
onto_front zero n acc = ([], refl)
onto_front (suc k) n acc = go (n / 10 == 0) (onto_front k (n / 10) (digit_glyph false (n % 10) ∷ acc))
  where
    go : (b : Bool) → (front : List ℕ) × (digits_onto k 10 false (n / 10) (digit_glyph false (n % 10) ∷ acc) ≡ front ++ (digit_glyph false (n % 10) ∷ acc))
        → (front : List ℕ) × (cond b (digit_glyph false (n % 10) ∷ acc) (digits_onto k 10 false (n / 10) (digit_glyph false (n % 10) ∷ acc)) ≡ front ++ acc)
    go true r = (digit_glyph false (n % 10) ∷ [], refl)
    go false r = (r.0 ++ digit_glyph false (n % 10) ∷ [], r.1 ∙ sym (append_assoc r.0 (digit_glyph false (n % 10) ∷ []) acc))

is_digit : (d : ℕ) → d < 10 → digit_glyph false d ≡ 48 + d
is_digit d low = ap (λ b. cond b (48 + d) (87 + d)) (passes d low)
  where
    passes : (d : ℕ) → d < 10 → nat_lt d 10 ≡ true
    passes d low = grind (arith, nat_tests)

digit_end : (k n : ℕ) → EndsWithDigit (digits_onto (suc k) 10 false n [])
digit_end k n =
    let small : n % 10 < 10 = omega arith in
    let glyph : digit_glyph false (n % 10) ≡ 48 + n % 10 = is_digit (n % 10) small in
    record {
      front = (parts (n / 10 == 0) (onto_front k (n / 10) (digit_glyph false (n % 10) ∷ []))).0;
      digit = n % 10;
      small = small;
      is = (parts (n / 10 == 0) (onto_front k (n / 10) (digit_glyph false (n % 10) ∷ []))).1 ∙ ap (λ x. (parts (n / 10 == 0) (onto_front k (n / 10) (digit_glyph false (n % 10) ∷ []))).0 ++ x ∷ []) glyph;
    }
  where
    parts : (b : Bool) → (front : List ℕ) × (digits_onto k 10 false (n / 10) (digit_glyph false (n % 10) ∷ []) ≡ front ++ digit_glyph false (n % 10) ∷ [])
        → (front : List ℕ) × (cond b (digit_glyph false (n % 10) ∷ []) (digits_onto k 10 false (n / 10) (digit_glyph false (n % 10) ∷ [])) ≡ front ++ digit_glyph false (n % 10) ∷ [])
    parts true r = ([], refl)
    parts false r = r

decimal_end : (n : ℕ) → EndsWithDigit (decimal n)
unfolding digits
decimal_end n = digit_end 63 n

bad_line_end : (a : Address) (rest : List Address) → (digit : ℕ) × (digit < 10) × (last_but_one (last_line (a ∷ rest)) ≡ 48 + digit) × (2 ≤ length (last_line (a ∷ rest)))
bad_line_end a rest =
    let number = decimal_end (length (a ∷ rest)) in
    let tail : decimal (length (a ∷ rest)) ++ 10 ∷ [] ≡ number.front ++ (48 + number.digit) ∷ 10 ∷ [] = ap (λ z. z ++ 10 ∷ []) number.is ∙ append_assoc number.front ((48 + number.digit) ∷ []) (10 ∷ []) in
    let two : 2 ≤ length ((48 + number.digit) ∷ 10 ∷ []) = omega arith in
    let long : 2 ≤ length (decimal (length (a ∷ rest)) ++ 10 ∷ []) = subst (λ z. 2 ≤ length z) (sym tail) (long_behind number.front ((48 + number.digit) ∷ 10 ∷ []) two) in (
      number.digit,
      number.small,
      last_behind (codes "audit bad ") (decimal (length (a ∷ rest)) ++ 10 ∷ []) long ∙ ap last_but_one tail ∙ last_behind number.front ((48 + number.digit) ∷ 10 ∷ []) two,
      long_behind (codes "audit bad ") (decimal (length (a ∷ rest)) ++ 10 ∷ []) long,
    )

-- a text with a line of what is missing does not end so
not_ok : (s : Store) (m : List Address) → missing s ≡ m → EndsOk (report s) → m ≡ []
unfolding report
not_ok s [] e h = refl
not_ok s (a ∷ rest) e h =
    let lines : List ℕ = flat_map (shard_line s) (range_with_len 0 (length s.epochs)) in
    let told : List ℕ = flat_map missing_line (missing s) in
    let bad = bad_line_end a rest in
    let line : last_line (missing s) ≡ last_line (a ∷ rest) = ap last_line e in
    let long : 2 ≤ length (last_line (missing s)) = subst (λ z. 2 ≤ length z) (sym line) bad.3 in
    let one : last_but_one (report s) ≡ 48 + bad.0 = last_behind lines (told ++ last_line (missing s)) (long_behind told (last_line (missing s)) long) ∙ last_behind told (last_line (missing s)) long ∙ ap last_but_one line ∙ bad.2 in
    let nine : length (codes "audit ok\n") ≡ 9 = refl in
    let letter : last_but_one (codes "audit ok\n") ≡ 107 = refl in
    let other : last_but_one (report s) ≡ 107 = ap last_but_one h.ends ∙ last_behind h.front (codes "audit ok\n") (omega (arith, nine)) ∙ letter in
    absurd (let small = bad.1 in omega (arith, one, other, small))

ends_ok : (s : Store) (m : List Address) → missing s ≡ m → m ≡ [] → EndsOk (report s)
unfolding report
ends_ok s m e none =
    let lines : List ℕ = flat_map (shard_line s) (range_with_len 0 (length s.epochs)) in
    record { front = lines; ends = ap (λ (z : List Address). lines ++ (flat_map missing_line z ++ last_line z)) (e ∙ none) }

-- ---- each tree is whole

none_among : (s : Store) (a : Address) → missing s ≡ [] → is_among (missing s) a ≡ true → ⊥
none_among s a e h = false≢true (sym (ap (λ z. is_among z a) e) ∙ h)

reached_from_root : (s : Store) (root : Root) (b : Address) → Contains s.roots root → root.dropped ≡ None → IsReached s (root.address ∷ []) b → IsReached s (kept_by_roots s) b
reached_from_root s root b there kept r =
    let m : Member root (filter (λ (x : Root). is_none x.dropped) s.roots) = member-filter (λ (x : Root). is_none x.dropped) root s.roots (member_from_contains root s.roots there) (ap (λ (o : Option ℕ). is_none o) kept) in
    record {
      start = r.start;
      path = r.path;
      anchored = contains_from_member r.start (kept_by_roots s) (subst (λ (z : Address). Member z (kept_by_roots s)) (sym (only (member_from_contains r.start (root.address ∷ []) r.anchored))) (member-map (λ (x : Root). x.address) root (filter (λ (x : Root). is_none x.dropped) s.roots) m));
      leads = r.leads;
    }
  where
    only : Member r.start (root.address ∷ []) → r.start ≡ root.address
    only (inl e) = e
    only (inr m) = absurd m

pub tree_is_whole : (s : Store) (root : Root) → IsDistinct is_same (keys_of s.blocks) → EndsOk (report s) → Contains s.roots root → root.dropped ≡ None → IsWhole s root.address
tree_is_whole s root d ok there kept = λ b r. go b (reached_from_root s root b there kept r) (is_some (block_at s b)) refl
  where
    go : (b : Address) → IsReached s (kept_by_roots s) b → (t : Bool) → is_some (block_at s b) ≡ t → is_some (block_at s b) ≡ true
    go b r true e = e
    go b r false e = absurd (none_among s b (not_ok s (missing s) refl ok) (((are_missing s d).listed b).1 (r, λ h. false≢true (sym e ∙ h))))

pub sound_is_ok : (s : Store) → IsDistinct is_same (keys_of s.blocks) → IsValid s → EndsOk (report s)
sound_is_ok s d v = ends_ok s (missing s) refl (go (missing s) refl)
  where
    whole : (a : Address) → IsReached s (kept_by_roots s) a → IsPresent s a
    whole a r =
        let from = member_of_map (λ (x : Root). x.address) r.start (filter (λ (x : Root). is_none x.dropped) s.roots) (member_from_contains r.start (kept_by_roots s) r.anchored) in
        let root : Root = from.0 in
        let kept = member_of_filter (λ (x : Root). is_none x.dropped) root s.roots from.1 in
        root_whole s (valid_from_is s v) root (contains_from_member root s.roots kept.0) (no_drop root.dropped kept.1) a
        (record { start = r.start; path = r.path; anchored = contains_from_member r.start (root.address ∷ []) (inl from.2); leads = r.leads })
      where
        no_drop : (o : Option ℕ) → is_none o ≡ true → o ≡ None
        no_drop None e = refl
        no_drop (Some d) e = absurd (false≢true e)

    go : (m : List Address) → missing s ≡ m → m ≡ []
    go [] e = refl
    go (a ∷ rest) e =
        let so = ((are_missing s d).listed a).0 (ap (λ z. is_among z a) e ∙ among_from_member a (a ∷ rest) (inl refl)) in
        absurd (so.1 (whole a so.0))
