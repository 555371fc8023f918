-- What a sweep removes, by what was seen from its anchors.
use Rattle.std.proofs.Common.{◌≡◌, ℕ, ◌+◌, List, ◌++◌, Bool, true, false, not, ◌||◌, refl, sym, ap, ◌∙◌, map, filter, length, nat_le, slice_index, slice_set}
use Rattle.std.proofs.lemmas.Bool.{false≢true}
use Rattle.std.proofs.lemmas.List.Folds.{list_any-append}
use Rattle.std.specs.List.{IsDistinct}
use Rattle.std.specs.Map.{keys_of}
use Rattle.hs_limits.specs.declared.address.Address.{Address}
use Rattle.hs_limits.specs.declared.address.Held.{Held}
use Rattle.hs_model.specs.declared.plain.PlainBlock.{PlainBlock}
use Rattle.hs_model.specs.declared.plain.PlainRoot.{PlainRoot}
use Rattle.hs_model.specs.declared.plain.PlainStore.{PlainStore}
use Rattle.hs_model.specs.declared.slow.unreached.Run.{Run}
use Rattle.hs_model.specs.declared.store.StoredBlock.{StoredBlock}
use Rattle.hs_model.specs.Inner.{sweep}
use Rattle.hs_model.specs.Listed.{IsListOf}
use Rattle.hs_model.specs.Plain.{entry_of, root_of, plain_of}
use Rattle.hs_model.specs.Reach.{is_same, is_among, IsReached, reached_from, counts_in, anchors, is_swept, unreachable}
use Rattle.hs_model.specs.Store.{Store, Root}
use Rattle.hs_model.specs.Swept.{removes}
use Rattle.hs_model.proofs.Members.{contains_from_member, member_from_contains, among_from_member, member_from_among}
use Rattle.hs_model.proofs.ReachLemmas.{listed_is, is_listed}
use Rattle.hs_model.proofs.SetLemmas.{filter_of_map, filter_same}

pub anchors_are : (s : PlainStore) (run : ℕ) (rooted given all : List Address) → rooted ≡ map (λ (root : PlainRoot). root.address) (filter (λ (root : PlainRoot). counts_in run (root_of root)) s.roots) → given ≡ map (λ (held : Held). held.address) (filter (λ (held : Held). nat_le run (held.epoch + 1)) s.given) → all ≡ rooted ++ given → all ≡ anchors (plain_of s) run
anchors_are s run rooted given all r g e =
    e ∙ rw (r, g) (rw (filter_of_map (λ (root : Root). root.address) (counts_in run) root_of s.roots, filter_of_map (λ (e : Address × ℕ). e.0) (λ (e : Address × ℕ). nat_le run (e.1 + 1)) (λ (held : Held). (held.address, held.epoch)) s.given))

-- what was seen is what is listed as reached
pub seen_is_listed : (s : Store) (from seen : List Address) → IsDistinct is_same (keys_of s.blocks) → IsListOf seen (IsReached s from) → (a : Address) → is_among seen a ≡ is_among (reached_from s from) a
seen_is_listed s from seen d h a = go (is_among seen a) refl (is_among (reached_from s from) a) refl
  where
    go : (b : Bool) → is_among seen a ≡ b → (c : Bool) → is_among (reached_from s from) a ≡ c → is_among seen a ≡ is_among (reached_from s from) a
    go true e true f = e ∙ sym f
    go false e false f = e ∙ sym f
    go true e false f = let t : is_among (reached_from s from) a ≡ true = is_listed s from a ((h a).0 e) in absurd (false≢true (sym f ∙ t))
    go false e true f = let t : is_among seen a ≡ true = (h a).1 (listed_is s from a d f) in absurd (false≢true (sym e ∙ t))

pub removes_is : (s : Store) (run : Run) (seen : List Address) → IsDistinct is_same (keys_of s.blocks) → length s.epochs ≡ run.shape.shards → IsListOf seen (IsReached s (anchors s run.epoch)) → (e : Address × StoredBlock) → removes run seen e.0 e.1.born ≡ is_swept s run.epoch run.shard e
removes_is s run seen d l h e = rw (l, seen_is_listed s (anchors s run.epoch) seen d h e.0)

pub unreachable_is : (s : PlainStore) (run : Run) (seen list : List Address) → IsDistinct is_same (keys_of (plain_of s).blocks) → length s.epochs ≡ run.shape.shards → IsListOf seen (IsReached (plain_of s) (anchors (plain_of s) run.epoch)) → list ≡ map (λ (block : PlainBlock). block.address) (filter (λ (block : PlainBlock). removes run seen block.address block.born) s.blocks) → list ≡ unreachable (plain_of s) run.epoch run.shard
unreachable_is s run seen list d l h e =
    e ∙ ap (λ z. map (λ (block : PlainBlock). block.address) z) (filter_same (λ (block : PlainBlock). removes run seen block.address block.born) (λ (block : PlainBlock). is_swept (plain_of s) run.epoch run.shard (entry_of block)) (λ block. removes_is (plain_of s) run seen d l h (entry_of block)) s.blocks) ∙ sym (filter_of_map (λ (e : Address × StoredBlock). e.0) (is_swept (plain_of s) run.epoch run.shard) entry_of s.blocks)

-- ---- the same of a store in memory

-- the anchors are among those of its two parts
pub anchors_of_parts : (s : Store) (run : ℕ) (rooted given all : List Address) → ((a : Address) → is_among rooted a ≡ is_among (map (λ (root : Root). root.address) (filter (counts_in run) s.roots)) a) → given ≡ map (λ (e : Address × ℕ). e.0) (filter (λ (e : Address × ℕ). nat_le run (e.1 + 1)) s.given) → all ≡ rooted ++ given → (a : Address) → is_among all a ≡ is_among (anchors s run) a
anchors_of_parts s run rooted given all r g e a =
    let roots : List Address = map (λ (root : Root). root.address) (filter (counts_in run) s.roots) in
    let gifts : List Address = map (λ (e : Address × ℕ). e.0) (filter (λ (e : Address × ℕ). nat_le run (e.1 + 1)) s.given) in
    ap (λ (z : List Address). is_among z a) (e ∙ ap (λ (z : List Address). rooted ++ z) g)
    ∙ list_any-append (is_same a) rooted gifts
    ∙ ap (λ z. z || is_among gifts a) (r a)
    ∙ sym (list_any-append (is_same a) roots gifts)

-- what is reached hangs on what is among the anchors alone
reached_alike : (s : Store) (xs ys : List Address) → ((a : Address) → is_among xs a ≡ is_among ys a) → (b : Address) → IsReached s xs b → IsReached s ys b
reached_alike s xs ys same b r = record {
  start = r.start;
  path = r.path;
  anchored = contains_from_member r.start ys (member_from_among r.start ys (sym (same r.start) ∙ among_from_member r.start xs (member_from_contains r.start xs r.anchored)));
  leads = r.leads;
}

pub listed_alike : (s : Store) (xs ys seen : List Address) → ((a : Address) → is_among xs a ≡ is_among ys a) → IsListOf seen (IsReached s xs) → IsListOf seen (IsReached s ys)
listed_alike s xs ys seen same h a = (λ t. reached_alike s xs ys same a ((h a).0 t), λ r. (h a).1 (reached_alike s ys xs (λ b. sym (same b)) a r))

store_is : (s t : Store) → s.blocks ≡ t.blocks → s.given ≡ t.given → s.roots ≡ t.roots → s.epochs ≡ t.epochs → s.swept ≡ t.swept → s.sessions ≡ t.sessions → s ≡ t
store_is s t b g r e w n = λ i. record { blocks = b i; given = g i; roots = r i; epochs = e i; swept = w i; sessions = n i }

pub sweep_is : (s new : Store) (run : Run) (seen : List Address) → IsDistinct is_same (keys_of s.blocks) → length s.epochs ≡ run.shape.shards → run.epoch ≡ slice_index s.epochs run.shard → IsListOf seen (IsReached s (anchors s run.epoch)) → new.blocks ≡ filter (λ e. not (removes run seen e.0 e.1.born)) s.blocks → new.given ≡ filter (λ e. is_among (keys_of new.blocks) e.0) s.given → new.roots ≡ s.roots → new.epochs ≡ s.epochs → new.swept ≡ slice_set s.swept run.shard run.epoch → new.sessions ≡ s.sessions → new ≡ sweep s run.shard
sweep_is s new run seen d l now h b g r e w n = store_is new (sweep s run.shard) blocks given r e (w ∙ ap (λ z. slice_set s.swept run.shard z) now) n
  where
    at_epoch : (z : ℕ) → run.epoch ≡ z → new.blocks ≡ filter (λ (e : Address × StoredBlock). not (is_swept s z run.shard e)) s.blocks
    at_epoch z q = b ∙ filter_same (λ (e : Address × StoredBlock). not (removes run seen e.0 e.1.born)) (λ (e : Address × StoredBlock). not (is_swept s z run.shard e)) (λ e. ap (λ t. not t) (removes_is s run seen d l h e ∙ ap (λ k. is_swept s k run.shard e) q)) s.blocks

    blocks : new.blocks ≡ (sweep s run.shard).blocks
    blocks = at_epoch (slice_index s.epochs run.shard) now

    given : new.given ≡ (sweep s run.shard).given
    given = g ∙ ap (λ (z : List (Address × StoredBlock)). filter (λ (e : Address × ℕ). is_among (keys_of z) e.0) s.given) blocks
