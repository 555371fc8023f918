-- The logs of shards, folded and put into a plain store one after another.
use Rattle.std.proofs.Common.{◌≡◌, ◌∙◌, ◌+◌, ◌*◌, ◌++◌, ◌∷◌, [], ◌<◌, ◌≤◌, ◌⊎◌, inl, inr, ap, sym, subst, ℕ, zero, suc, List, Option, length, map, refl, arith, get_or, is_some, if◌then◌else◌}
use Rattle.std.proofs.Math.Nat.{suc-mul, mul-le-mul_right}
use Rattle.std.proofs.lemmas.Bool.{cases_lt}
use Rattle.std.specs.List.{range_with_len}
use Rattle.std.specs.Prelude.{IsSome, unwrap_or}
use Rattle.hs_audit.specs.Rereading.{AreStill, HasShardView, IsGathered, IsTakenOf, fold_in, shard_lists, viewing_at, viewed_list}
use Rattle.hs_fold.specs.Opened.{chosen}
use Rattle.hs_fold.specs.Runs.Catalogue.{catalogue_of}
use Rattle.hs_fold.specs.Runs.Facts.{Catalogue as Folded}
use Rattle.hs_fold.specs.Runs.Opened.{catalogues}
use Rattle.hs_fold.specs.Shards.Setting.{Numbered, Setting, shard_in}
use Rattle.hs_limits.specs.declared.shape.Shape.{Shape}
use Rattle.hs_limits.specs.Shape.{peer_of}
use Rattle.hs_memory.proofs.AgreeLemmas.{list_alike}
use Rattle.hs_memory.specs.Forget.{forget}
use Rattle.hs_memory.specs.Whole.{add_folds}
use Rattle.hs_model.specs.declared.plain.PlainStore.{PlainStore}
use Rattle.hs_model.specs.Plain.{plain_of}
use Rattle.hs_model.specs.Store.{Store, empty_store}
use Rattle.hs_peerlog.specs.Views.{Viewing}
use Rattle.hs_ports.specs.Disk.{Standing}
use Rattle.hs_shard.specs.Facts.{Catalogue}
use Rattle.hs_shard.specs.Plain.{add_shard}
use Rattle.hs_side.specs.Current.{list_in}
use Rattle.hs_taking.specs.Disks.{DiskSeen, seen_at}

-- ---- one shard more

add_more : (shape : Shape) (shard : ℕ) (cs : List Folded) (c : Folded) (s : Store) → add_folds shape shard (cs ++ c ∷ []) s ≡ add_shard (forget shape (shard + length cs) c) (add_folds shape shard cs s)
add_more shape shard [] c s = let e : shard ≡ shard + 0 = omega arith in ap (λ k. add_shard (forget shape k c) s) e
add_more shape shard (x ∷ cs) c s =
    let e : shard + 1 + length cs ≡ shard + suc (length cs) = omega arith in
    add_more shape (shard + 1) cs c (add_shard (forget shape shard x) s) ∙ ap (λ k. add_shard (forget shape k c) (add_folds shape (shard + 1) cs (add_shard (forget shape shard x) s))) e

catalogues_more : (set : Setting) (shard : ℕ) (lists : List Numbered) (list : Numbered) → catalogues set shard (lists ++ list ∷ []) ≡ catalogues set shard lists ++ catalogue_of (shard_in set (shard + length lists)) list ∷ []
catalogues_more set shard [] list = let e : shard ≡ shard + 0 = omega arith in ap (λ k. catalogue_of (shard_in set k) list ∷ []) e
catalogues_more set shard (x ∷ lists) list =
    let e : shard + 1 + length lists ≡ shard + suc (length lists) = omega arith in
    ap (λ z. catalogue_of (shard_in set shard) x ∷ z) (catalogues_more set (shard + 1) lists list ∙ ap (λ k. catalogues set (shard + 1) lists ++ catalogue_of (shard_in set k) list ∷ []) e)

pub catalogues_long : (set : Setting) (shard : ℕ) (lists : List Numbered) → length (catalogues set shard lists) ≡ length lists
catalogues_long set shard [] = refl
catalogues_long set shard (x ∷ lists) = ap (λ n. suc n) (catalogues_long set (shard + 1) lists)

folded_more : (set : Setting) (lists : List Numbered) (list : Numbered) (s : Store) → add_folds set.shape 0 (catalogues set 0 (lists ++ list ∷ [])) s ≡ add_shard (fold_in set (length lists) list) (add_folds set.shape 0 (catalogues set 0 lists) s)
folded_more set lists list s =
    let none : (n : ℕ) → 0 + n ≡ n = λ n. omega arith in
    ap (λ (cs : List Folded). add_folds set.shape 0 cs s) (catalogues_more set 0 lists list)
    ∙ add_more set.shape 0 (catalogues set 0 lists) (catalogue_of (shard_in set (0 + length lists)) list) s
    ∙ ap (λ k. add_shard (forget set.shape k (catalogue_of (shard_in set (0 + length lists)) list)) (add_folds set.shape 0 (catalogues set 0 lists) s)) (none (length (catalogues set 0 lists)) ∙ catalogues_long set 0 lists)
    ∙ ap (λ k. add_shard (forget set.shape (length lists) (catalogue_of (shard_in set k) list)) (add_folds set.shape 0 (catalogues set 0 lists) s)) (none (length lists))
    ∙ ap (λ (c : Catalogue). add_shard c (add_folds set.shape 0 (catalogues set 0 lists) s)) (sym (list_alike set.name set.shape (length lists) list))

-- ---- the lists of a shard

pub map_same : {A : Type 0} (f g : ℕ → A) (from n : ℕ) → ((i : ℕ) → i < n → f (from + i) ≡ g (from + i)) → map f (range_with_len from n) ≡ map g (range_with_len from n)
map_same f g from zero h = refl
map_same f g from (suc n) h =
    let e : from + 0 ≡ from = omega arith in
    let first : f from ≡ g from = ap f (sym e) ∙ h 0 (omega arith) ∙ ap g e in
    let rest = map_same f g (from + 1) n (λ i low. let k : from + 1 + i ≡ from + suc i = omega arith in ap f k ∙ h (suc i) (omega (arith, low)) ∙ ap g (sym k)) in
    ap (λ y. y ∷ map f (range_with_len (from + 1) n)) first ∙ ap (λ ys. g from ∷ ys) rest

-- what the disks have and which views there are is all that counts
pub lists_same : (tells : Type 0) (shape : Shape) (a b : List DiskSeen) (u v : List (Option Viewing)) (shard : ℕ)
    → ((i : ℕ) → i < shape.copies → list_in (seen_at b (peer_of shape shard 0 + i)).stands.seen ≡ list_in (seen_at a (peer_of shape shard 0 + i)).stands.seen)
    → ((i : ℕ) → i < shape.copies → viewing_at v (peer_of shape shard 0 + i) ≡ viewing_at u (peer_of shape shard 0 + i))
    → shard_lists shape b v shard ≡ shard_lists shape a u shard
lists_same tells shape a b u v shard seen views =
    map_same (viewed_list b v) (viewed_list a u) (peer_of shape shard 0) shape.copies
    (λ i low.
    let p : ℕ = peer_of shape shard 0 + i in
    ap (λ (o : Option Viewing). if is_some o then unwrap_or (list_in (seen_at b p).stands.seen) [] else []) (views i low)
    ∙ ap (λ (o : Option Numbered). if is_some (viewing_at u p) then unwrap_or o [] else []) (seen i low))

get_more : {A : Type 0} (xs : List A) (x d : A) → get_or (xs ++ x ∷ []) (length xs) d ≡ x
get_more [] x d = refl
get_more (y ∷ xs) x d = get_more xs x d

get_front : {A : Type 0} (xs : List A) (x d : A) (i : ℕ) → i < length xs → get_or (xs ++ x ∷ []) i d ≡ get_or xs i d
get_front [] x d i low = absurd (omega (arith, low))
get_front (y ∷ xs) x d zero low = refl
get_front (y ∷ xs) x d (suc i) low = get_front xs x d i (omega (arith, low))

long_more : {A : Type 0} (xs : List A) (x : A) → length (xs ++ x ∷ []) ≡ length xs + 1
long_more [] x = refl
long_more (y ∷ xs) x = let e = long_more xs x in omega (arith, e)

below_it : (copies k shard : ℕ) → k < shard → k * copies + copies ≤ shard * copies
below_it copies k shard low =
    let m : suc k * copies ≤ shard * copies = mul-le-mul_right copies (omega (arith, low)) in
    let d : suc k * copies ≡ k * copies + copies = suc-mul k copies in
    omega (arith, m, d)

-- ---- what was gathered

-- the views of a shard stay where those of a later one are given up
pub still_viewed_shard : (shape : Shape) (u v : List (Option Viewing)) (shard k : ℕ) → k < shard → ((peer : ℕ) → (peer < peer_of shape shard 0) ⊎ (peer_of shape shard shape.copies ≤ peer) → viewing_at v peer ≡ viewing_at u peer)
    → HasShardView shape u k → HasShardView shape v k
still_viewed_shard shape u v shard k before others had = record {
  copy = had.copy;
  within = had.within;
  there = subst (λ o. IsSome o) (sym (others (peer_of shape k had.copy) (inl (let m = below_it shape.copies k shard before in let w = had.within in omega (arith, w, m))))) had.there;
}

pub gathered_none : (tells : Type 0) (set : Setting) (disks : List DiskSeen) (views : List (Option Viewing)) (store : PlainStore) → plain_of store ≡ empty_store set.shape.shards → IsGathered tells set disks views 0 store
gathered_none tells set disks views store is = record {
  lists = [];
  one_each = refl;
  folded = is;
  told = λ told shard low. absurd (omega (arith, low));
  viewed = λ shard low. absurd (omega (arith, low));
}

pub gathered_more : (tells : Type 0) (set : Setting) (a b : List DiskSeen) (u v : List (Option Viewing)) (shard : ℕ) (catalogue : Catalogue) (old new : PlainStore)
    → shard < set.shape.shards → AreStill tells (set.shape.shards * set.shape.copies) a b
    → ((peer : ℕ) → (peer < peer_of set.shape shard 0) ⊎ (peer_of set.shape shard set.shape.copies ≤ peer) → viewing_at v peer ≡ viewing_at u peer)
    → IsGathered tells set a u shard old → IsTakenOf tells (fold_in set shard) set.shape b v shard catalogue → plain_of new ≡ add_shard catalogue (plain_of old)
    → IsGathered tells set a v (shard + 1) new
gathered_more tells set a b u v shard catalogue old new low still others so_far taken put =
    let one : length so_far.lists ≡ shard = so_far.one_each in
    record {
      lists = so_far.lists ++ taken.list ∷ [];
      one_each = let m = long_more so_far.lists taken.list in omega (arith, m, one);
      folded = put ∙ ap (λ (s : Store). add_shard catalogue s) so_far.folded
          ∙ ap (λ (c : Catalogue). add_shard c (add_folds set.shape 0 (catalogues set 0 so_far.lists) (empty_store set.shape.shards))) (taken.folded ∙ ap (λ k. fold_in set k taken.list) (sym one))
          ∙ sym (folded_more set so_far.lists taken.list (empty_store set.shape.shards));
      told = λ told k less. elim (cases_lt k shard) [
        | inl before ↦
            get_front so_far.lists taken.list [] k (omega (arith, before, one)) ∙ so_far.told told k before
            ∙ ap chosen (sym (lists_same tells set.shape a a u v k (λ i small. refl) (λ i small. others (peer_of set.shape k 0 + i) (inl (let m = below_it set.shape.copies k shard before in omega (arith, small, m))))))
        | inr after ↦
            let same : k ≡ shard = omega (arith, after, less) in
            ap (λ n. get_or (so_far.lists ++ taken.list ∷ []) n []) (same ∙ sym one) ∙ get_more so_far.lists taken.list [] ∙ taken.told told
            ∙ ap chosen (lists_same tells set.shape a b v v shard
            (λ i small. ap (λ (s : Standing). list_in s.seen) ((still (peer_of set.shape shard 0 + i) (let m = below_it set.shape.copies shard set.shape.shards low in omega (arith, small, m))).same told)) (λ i small. refl))
            ∙ ap (λ n. chosen (shard_lists set.shape a v n)) (sym same)
      ];
      viewed = λ k less. elim (cases_lt k shard) [
        | inl before ↦ still_viewed_shard set.shape u v shard k before others (so_far.viewed k before)
        | inr after ↦ subst (λ n. HasShardView set.shape v n) (sym (omega (arith, after, less))) taken.viewed
      ];
    }
