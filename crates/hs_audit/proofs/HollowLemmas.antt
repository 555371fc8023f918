-- The text sees no data of blocks, and no root that counts in no epoch any more.
use Rattle.std.proofs.Common.{◌≡◌, ◌∙◌, ◌+◌, ◌<◌, ◌≤◌, ◌++◌, ℕ, zero, suc, List, [], ◌∷◌, Bool, true, false, not, ◌&&◌, ◌==◌, cond, refl, sym, ap, map, filter, length, is_none, arith, Option, None, Some, nat_le, nat_lt}
use Rattle.std.proofs.lemmas.Bool.{false≢true}
use Rattle.std.proofs.lemmas.Bool.Decides.{nat_tests}
use Rattle.std.proofs.lemmas.List.{length-map}
use Rattle.std.proofs.lemmas.List.Sums.{length-filter}
use Rattle.std.specs.Fmt.{decimal}
use Rattle.std.specs.List.{count_by, flat_map, list_all, range_with_len}
use Rattle.std.specs.Map.{keys_of}
use Rattle.std.specs.Option.{option_map}
use Rattle.std.specs.Prelude.{codes, slice_index}
use Rattle.hs_audit.proofs.MissingLemmas.{absent_is}
use Rattle.hs_audit.specs.Missing.{ascending, kept_by_roots, missing}
use Rattle.hs_audit.specs.Text.{last_line, missing_line, report, shard_line}
use Rattle.hs_fold.specs.Runs.Opened.{pruned}
use Rattle.hs_limits.specs.declared.address.Address.{Address}
use Rattle.hs_limits.specs.Shape.{shard_of, shard_of_key}
use Rattle.hs_model.proofs.SetLemmas.{filter_of_map, filter_same}
use Rattle.hs_model.specs.declared.store.StoredBlock.{StoredBlock}
use Rattle.hs_model.specs.Hollow.{hollow, hollow_blocks, without_bytes}
use Rattle.hs_model.specs.Inner.{stays}
use Rattle.hs_model.specs.Reach.{anchors, close, counts_in, is_among, is_swept, left, pick, pointers_of, reached_from, unreachable}
use Rattle.hs_model.specs.Store.{Root, Store, block_at, blocks_in, roots_in}

abbrev Blocks : Type 0
Blocks = List (Address × StoredBlock)

-- ---- filters

filter_twice : {A : Type 0} (p q : A → Bool) (xs : List A) → ((x : A) → p x ≡ true → q x ≡ true) → filter p (filter q xs) ≡ filter p xs
filter_twice p q [] h = refl
filter_twice p q (x ∷ xs) h = go (q x) refl (p x) refl (filter_twice p q xs h)
  where
    go : (b : Bool) → q x ≡ b → (c : Bool) → p x ≡ c → filter p (filter q xs) ≡ filter p xs → filter p (cond b (x ∷ filter q xs) (filter q xs)) ≡ cond c (x ∷ filter p xs) (filter p xs)
    go true e c f ih = ap (λ b. cond b (x ∷ filter p (filter q xs)) (filter p (filter q xs))) f ∙ ap (λ z. cond c (x ∷ z) z) ih
    go false e true f ih = absurd (false≢true (sym e ∙ h x f))
    go false e false f ih = ih

count_twice : {A : Type 0} (p q : A → Bool) (xs : List A) → ((x : A) → p x ≡ true → q x ≡ true) → count_by p (filter q xs) ≡ count_by p xs
count_twice p q xs h = sym (length-filter p (filter q xs)) ∙ ap (λ z. length z) (filter_twice p q xs h) ∙ length-filter p xs

length_mapped : (p : Address → Bool) (es : Blocks) → length (filter (λ e. p e.0) (hollow_blocks es)) ≡ length (filter (λ e. p e.0) es)
length_mapped p [] = refl
length_mapped p (e ∷ es) = go (p e.0) (length_mapped p es)
  where
    go : (b : Bool) → length (filter (λ e. p e.0) (hollow_blocks es)) ≡ length (filter (λ e. p e.0) es)
        → length (cond b ((e.0, without_bytes e.1) ∷ filter (λ e. p e.0) (hollow_blocks es)) (filter (λ e. p e.0) (hollow_blocks es))) ≡ length (cond b (e ∷ filter (λ e. p e.0) es) (filter (λ e. p e.0) es))
    go true ih = ap (λ n. suc n) ih
    go false ih = ih

count_mapped : (p : Address → Bool) (es : Blocks) → count_by (λ e. p e.0) (hollow_blocks es) ≡ count_by (λ e. p e.0) es
count_mapped p es = sym (length-filter (λ (e : Address × StoredBlock). p e.0) (hollow_blocks es)) ∙ length_mapped p es ∙ length-filter (λ (e : Address × StoredBlock). p e.0) es

-- ---- what is reached over blocks without data

pick_hollow : (es : Blocks) (seen : List Address) → pick (hollow_blocks es) seen ≡ option_map without_bytes (pick es seen)
pick_hollow [] seen = refl
pick_hollow (e ∷ es) seen = go (is_among seen e.0) (pick_hollow es seen)
  where
    go : (b : Bool) → pick (hollow_blocks es) seen ≡ option_map without_bytes (pick es seen) → cond b (Some (without_bytes e.1)) (pick (hollow_blocks es) seen) ≡ option_map without_bytes (cond b (Some e.1) (pick es seen))
    go true ih = refl
    go false ih = ih

left_hollow : (es : Blocks) (seen : List Address) → left (hollow_blocks es) seen ≡ hollow_blocks (left es seen)
left_hollow [] seen = refl
left_hollow (e ∷ es) seen = go (is_among seen e.0) (left_hollow es seen)
  where
    go : (b : Bool) → left (hollow_blocks es) seen ≡ hollow_blocks (left es seen) → cond b (hollow_blocks es) ((e.0, without_bytes e.1) ∷ left (hollow_blocks es) seen) ≡ hollow_blocks (cond b es (e ∷ left es seen))
    go true ih = refl
    go false ih = ap (λ z. (e.0, without_bytes e.1) ∷ z) ih

points_hollow : (o : Option StoredBlock) → pointers_of (option_map without_bytes o) ≡ pointers_of o
points_hollow None = refl
points_hollow (Some stored) = refl

close_hollow : (turns : ℕ) (es : Blocks) (seen : List Address) → close turns (hollow_blocks es) seen ≡ close turns es seen
close_hollow zero es seen = refl
close_hollow (suc turns) es seen =
    let points : pointers_of (pick (hollow_blocks es) seen) ≡ pointers_of (pick es seen) = ap pointers_of (pick_hollow es seen) ∙ points_hollow (pick es seen) in
    ap (λ z. close turns z (seen ++ pointers_of (pick (hollow_blocks es) seen))) (left_hollow es seen)
    ∙ ap (λ z. close turns (hollow_blocks (left es seen)) (seen ++ z)) points
    ∙ close_hollow turns (left es seen) (seen ++ pointers_of (pick es seen))

reached_hollow : (s : Store) (from : List Address) → reached_from (hollow s) from ≡ reached_from s from
reached_hollow s from =
    ap (λ n. close n (hollow_blocks s.blocks) from) (length-map s.blocks (λ (e : Address × StoredBlock). (e.0, without_bytes e.1)))
    ∙ close_hollow (length s.blocks) s.blocks from

keys_hollow : (es : Blocks) → keys_of (hollow_blocks es) ≡ keys_of es
keys_hollow [] = refl
keys_hollow (e ∷ es) = ap (λ z. e.0 ∷ z) (keys_hollow es)

absent_hollow : (s : Store) (a : Address) → is_none (block_at (hollow s) a) ≡ is_none (block_at s a)
absent_hollow s a = absent_is (hollow_blocks s.blocks) a ∙ ap (λ z. not (is_among z a)) (keys_hollow s.blocks) ∙ sym (absent_is s.blocks a)

-- ---- roots that are gone count for nothing

both : (b c : Bool) → (b && c) ≡ true → (b ≡ true) × (c ≡ true)
both true c h = (refl, h)
both false c h = absurd (false≢true h)

all_at : (p : ℕ → Bool) (xs : List ℕ) (i : ℕ) → i < length xs → list_all p xs ≡ true → p (slice_index xs i) ≡ true
all_at p [] i low h = absurd (omega (arith, low))
all_at p (x ∷ xs) zero low h = (both (p x) (list_all p xs) h).0
all_at p (x ∷ xs) (suc i) low h = all_at p xs i (omega (arith, low)) (both (p x) (list_all p xs) h).1

kept_stays : (s : Store) (root : Root) → is_none root.dropped ≡ true → stays s root ≡ true
kept_stays s root h = go root.dropped h
  where
    go : (o : Option ℕ) → is_none o ≡ true → stays s (record root { dropped = o }) ≡ true
    go None e = refl
    go (Some d) e = absurd (false≢true e)

counted_stays : (s : Store) (shard : ℕ) (root : Root) → shard < length s.epochs → counts_in (slice_index s.epochs shard + 1) root ≡ true → stays s root ≡ true
counted_stays s shard root low h = go root.dropped h
  where
    not_below : (d e : ℕ) → nat_le (e + 1) (d + 1) ≡ true → nat_le (d + 2) e ≡ true → ⊥
    not_below d e up below = grind (arith, nat_tests)

    by : (d : ℕ) → nat_le (slice_index s.epochs shard + 1) (d + 1) ≡ true → (b : Bool) → list_all (λ e. nat_le (d + 2) e) s.epochs ≡ b → not b ≡ true
    by d up true e = absurd (not_below d (slice_index s.epochs shard) up (all_at (λ e. nat_le (d + 2) e) s.epochs shard low e))
    by d up false e = refl

    go : (o : Option ℕ) → counts_in (slice_index s.epochs shard + 1) (record root { dropped = o }) ≡ true → stays s (record root { dropped = o }) ≡ true
    go None e = refl
    go (Some d) e = by d e (list_all (λ e. nat_le (d + 2) e) s.epochs) refl

-- ---- the lines

module _ (u : Store) where
  shard_blocks : (shard : ℕ) → blocks_in (hollow u) shard ≡ blocks_in (pruned u) shard
  shard_blocks shard = count_mapped (λ a. shard_of (length u.epochs) a == shard) u.blocks

  shard_roots : (shard : ℕ) → roots_in (hollow u) shard ≡ roots_in (pruned u) shard
  shard_roots shard = sym (count_twice (λ (root : Root). is_none root.dropped && shard_of_key (length u.epochs) root.key == shard) (stays u) u.roots (λ root e. kept_stays u root (both (is_none root.dropped) (shard_of_key (length u.epochs) root.key == shard) e).0))

  module _ (shard : ℕ) (low : shard < length u.epochs) where
    abbrev run : ℕ
    run = slice_index u.epochs shard + 1

    same_anchors : anchors u run ≡ anchors (pruned u) run
    same_anchors = ap (λ (z : List Root). map (λ (root : Root). root.address) z ++ map (λ (e : Address × ℕ). e.0) (filter (λ (e : Address × ℕ). nat_le run (e.1 + 1)) u.given))
        (sym (filter_twice (counts_in run) (stays u) u.roots (λ root e. counted_stays u shard root low e)))

    same_reached : reached_from (hollow u) (anchors (hollow u) run) ≡ reached_from (pruned u) (anchors (pruned u) run)
    same_reached = reached_hollow u (anchors u run) ∙ ap (λ z. reached_from u z) same_anchors

    same_swept : (e : Address × StoredBlock) → is_swept (hollow u) run shard e ≡ is_swept (pruned u) run shard e
    same_swept e = ap (λ z. (shard_of (length u.epochs) e.0 == shard && nat_lt e.1.born run) && not (is_among z e.0)) same_reached

    same_garbage : unreachable (hollow u) run shard ≡ unreachable (pruned u) run shard
    same_garbage =
        filter_of_map (λ (e : Address × StoredBlock). e.0) (is_swept (hollow u) run shard) (λ (e : Address × StoredBlock). (e.0, without_bytes e.1)) u.blocks
        ∙ ap (λ (z : Blocks). map (λ (e : Address × StoredBlock). e.0) z) (filter_same (is_swept (hollow u) run shard) (is_swept (pruned u) run shard) same_swept u.blocks)

    same_line : shard_line (hollow u) shard ≡ shard_line (pruned u) shard
    unfolding shard_line
    same_line =
        let text : ℕ → ℕ → ℕ → List ℕ = λ blocks roots garbage.
        codes "shard " ++ (decimal shard ++ (codes " epoch " ++ (decimal (slice_index u.epochs shard) ++ (codes " swept " ++ (decimal (slice_index u.swept shard)
        ++ (codes " blocks " ++ (decimal blocks ++ (codes " roots " ++ (decimal roots ++ (codes " garbage " ++ (decimal garbage ++ 10 ∷ []))))))))))) in
        λ i. text (shard_blocks shard i) (shard_roots shard i) (length (same_garbage i))

  same_kept : kept_by_roots u ≡ kept_by_roots (pruned u)
  same_kept = ap (λ (z : List Root). map (λ (root : Root). root.address) z) (sym (filter_twice (λ (root : Root). is_none root.dropped) (stays u) u.roots (λ root e. kept_stays u root e)))

  same_missing : missing (hollow u) ≡ missing (pruned u)
  unfolding missing
  same_missing =
      ap ascending (filter_same (λ a. is_none (block_at (hollow u) a)) (λ a. is_none (block_at u a)) (absent_hollow u) (reached_from (hollow u) (kept_by_roots u)))
      ∙ ap (λ z. ascending (filter (λ a. is_none (block_at u a)) z)) (reached_hollow u (kept_by_roots u) ∙ ap (λ z. reached_from u z) same_kept)

  flat_same : {A : Type 0} (f g : ℕ → List A) (from n : ℕ) → ((k : ℕ) → from ≤ k → k < from + n → f k ≡ g k) → flat_map f (range_with_len from n) ≡ flat_map g (range_with_len from n)
  flat_same f g from zero h = refl
  flat_same f g from (suc n) h =
      ap (λ ys. ys ++ flat_map f (range_with_len (from + 1) n)) (h from (omega arith) (omega arith))
      ∙ ap (λ ys. g from ++ ys) (flat_same f g (from + 1) n (λ k low high. h k (omega (arith, low)) (omega (arith, high))))

  pub same_report : report (hollow u) ≡ report (pruned u)
  unfolding report
  same_report =
      ap (λ z. z ++ (flat_map missing_line (missing (hollow u)) ++ last_line (missing (hollow u)))) (flat_same (shard_line (hollow u)) (shard_line (pruned u)) 0 (length u.epochs) (λ k low high. same_line k (omega (arith, high))))
      ∙ ap (λ m. flat_map (shard_line (pruned u)) (range_with_len 0 (length u.epochs)) ++ (flat_map missing_line m ++ last_line m)) same_missing
