-- The items of one event.
use Rattle.std.proofs.Common.{◌≡◌, ◌∙◌, ap, sym, ℕ, ◌+◌, ◌*◌, ◌<◌, Bool, false, List, [], ◌∷◌, ◌++◌, Option, map, refl, subst, arith, zero, suc}
use Rattle.std.proofs.lemmas.List.{append_assoc}
use Rattle.std.specs.List.{range_with_len}
use Rattle.std.specs.Option.{option_map_or}
use Rattle.std.specs.Prelude.{flat_map, slice_index_or}
use Rattle.hs_events.specs.Course.{change_item, items_between, took_items}
use Rattle.hs_core_words.specs.Looking.{front_of, status_of}
use Rattle.hs_core_words.specs.State.{Core}
use Rattle.hs_members.specs.Members.{is_good_status}
use Rattle.hs_model.specs.declared.course.CourseItem.{CourseItem}
use Rattle.hs_model.specs.declared.course.CourseItem.TheVariants as item

at_range : {A : Type 0} (f : ℕ → A) (d : A) (s n k : ℕ) → k < n → slice_index_or (map f (range_with_len s n)) k d ≡ f (s + k)
at_range f d s zero k h = absurd (omega (arith, h))
at_range f d s (suc n) zero h =
    let a : s + 0 ≡ s = omega arith in
    rw a refl
at_range f d s (suc n) (suc k) h =
    let a : s + suc k ≡ (s + 1) + k = omega arith in
    rw a (at_range f d (s + 1) n k (omega (arith, h)))

-- what is told by each number of a range is told where it is told otherwise of no number of it
flat_same : {A : Type 0} (f g : ℕ → List A) (s n : ℕ) → ((k : ℕ) → k < n → f (s + k) ≡ g (s + k)) → flat_map f (range_with_len s n) ≡ flat_map g (range_with_len s n)
flat_same f g s zero h = refl
flat_same f g s (suc n) h =
    let a : s + 0 ≡ s = omega arith in
    let first : f s ≡ g s = subst (λ k. f k ≡ g k) a (h 0 (omega arith)) in
    let rest = flat_same f g (s + 1) n (λ k less. subst (λ i. f i ≡ g i) (next k) (h (suc k) (omega (arith, less)))) in
    λ i. first i ++ rest i
  where
    next : (k : ℕ) → s + suc k ≡ (s + 1) + k
    next k = omega arith

zero_plus : (k : ℕ) → 0 + k ≡ k
zero_plus k = omega arith

flat_from_zero : {A : Type 0} (f g : ℕ → List A) (n : ℕ) → ((k : ℕ) → k < n → f k ≡ g k) → flat_map f (range_with_len 0 n) ≡ flat_map g (range_with_len 0 n)
flat_from_zero f g n h = flat_same f g 0 n (λ k less. subst (λ i. f i ≡ g i) (sym (zero_plus k)) (h k less))

pub at_from_zero : {A : Type 0} (f : ℕ → A) (d : A) (xs : List A) (n k : ℕ) → xs ≡ map f (range_with_len 0 n) → k < n → slice_index_or xs k d ≡ f k
at_from_zero f d xs n k is less = ap (λ ys. slice_index_or ys k d) is ∙ at_range f d 0 n k less ∙ ap f (zero_plus k)

pub noted : (begun : Option ℕ) (before after : Core) (goods : List Bool) (fronts : List ℕ) (course one two three : List CourseItem) (peers shards moment : ℕ)
    → before.members.shape.shards * before.members.shape.copies ≡ peers → before.members.shape.shards ≡ shards
    → goods ≡ map (λ peer. is_good_status (status_of peer before)) (range_with_len 0 peers) → fronts ≡ map (λ shard. front_of shard before) (range_with_len 0 shards)
    → one ≡ course ++ option_map_or (λ line. item.Begun line moment ∷ []) begun []
    → two ≡ one ++ flat_map (λ peer. change_item (slice_index_or goods peer false) (is_good_status (status_of peer after)) peer moment) (range_with_len 0 peers)
    → three ≡ two ++ flat_map (λ shard. took_items shard (slice_index_or fronts shard 0) (front_of shard after) moment) (range_with_len 0 shards)
    → three ≡ course ++ items_between begun before after moment
noted begun before after goods fronts course one two three peers shards moment same_peers same_shards gs fs h1 h2 h3 =
    let line : List CourseItem = option_map_or (λ l. item.Begun l moment ∷ []) begun [] in
    let changes : List CourseItem = flat_map (λ peer. change_item (slice_index_or goods peer false) (is_good_status (status_of peer after)) peer moment) (range_with_len 0 peers) in
    let tooks : List CourseItem = flat_map (λ shard. took_items shard (slice_index_or fronts shard 0) (front_of shard after) moment) (range_with_len 0 shards) in
    let changes_are : changes ≡ flat_map (λ peer. change_item (is_good_status (status_of peer before)) (is_good_status (status_of peer after)) peer moment) (range_with_len 0 peers) =
    flat_from_zero (λ peer. change_item (slice_index_or goods peer false) (is_good_status (status_of peer after)) peer moment) (λ peer. change_item (is_good_status (status_of peer before)) (is_good_status (status_of peer after)) peer moment) peers
    (λ k less. ap (λ b. change_item b (is_good_status (status_of k after)) k moment) (at_from_zero (λ peer. is_good_status (status_of peer before)) false goods peers k gs less)) in
    let tooks_are : tooks ≡ flat_map (λ shard. took_items shard (front_of shard before) (front_of shard after) moment) (range_with_len 0 shards) =
    flat_from_zero (λ shard. took_items shard (slice_index_or fronts shard 0) (front_of shard after) moment) (λ shard. took_items shard (front_of shard before) (front_of shard after) moment) shards
    (λ k less. ap (λ n. took_items k n (front_of k after) moment) (at_from_zero (λ shard. front_of shard before) 0 fronts shards k fs less)) in
    h3 ∙ ap (λ xs. xs ++ tooks) (h2 ∙ ap (λ xs. xs ++ changes) h1)
    ∙ ap (λ xs. xs ++ tooks) (append_assoc course line changes)
    ∙ append_assoc course (line ++ changes) tooks
    ∙ ap (λ xs. course ++ xs) (append_assoc line changes tooks)
    ∙ ap (λ xs. course ++ (line ++ (xs ++ tooks))) changes_are
    ∙ ap (λ xs. course ++ (line ++ (flat_map (λ peer. change_item (is_good_status (status_of peer before)) (is_good_status (status_of peer after)) peer moment) (range_with_len 0 peers) ++ xs))) tooks_are
    ∙ ap (λ n. course ++ (line ++ (flat_map (λ peer. change_item (is_good_status (status_of peer before)) (is_good_status (status_of peer after)) peer moment) (range_with_len 0 n) ++ flat_map (λ shard. took_items shard (front_of shard before) (front_of shard after) moment) (range_with_len 0 shards)))) (sym same_peers)
    ∙ ap (λ n. course ++ (line ++ (flat_map (λ peer. change_item (is_good_status (status_of peer before)) (is_good_status (status_of peer after)) peer moment) (range_with_len 0 (before.members.shape.shards * before.members.shape.copies)) ++ flat_map (λ shard. took_items shard (front_of shard before) (front_of shard after) moment) (range_with_len 0 n)))) (sym same_shards)
