-- What stands in the plain store stands in some shard's catalogue, and the other way round.
use Rattle.std.proofs.Common.{◌≡◌, ◌≢◌, ◌⊎◌, inl, inr, ℕ, zero, suc, ◌+◌, ◌<◌, List, [], ◌∷◌, length, map, Bool, true, false, cond, refl, sym, ap, ◌∙◌, subst, arith, is_gt, slice_index}
use Rattle.std.proofs.lemmas.Grind.{common_steps}
use Rattle.std.proofs.lemmas.Map.Keys.{sorted_tail}
use Rattle.std.specs.BTreeMap.{insert_entry}
use Rattle.std.specs.List.{AllByRecursion}
use Rattle.std.specs.List.Sorted.{IsStrictlySortedBy}
use Rattle.std.specs.Map.{keys_of}
use Rattle.hs_limits.specs.declared.address.Address.{Address}
use Rattle.hs_limits.specs.Shape.{shard_of}
use Rattle.hs_model.specs.Store.{Root, root_cmp, address_cmp, place_root}
use Rattle.hs_model.proofs.Members.{Member, member-map, member_of_map}
use Rattle.hs_laws.proofs.InsertLemmas.{insert-key, member-insert, insert-has}
use Rattle.hs_fold.specs.Catalogue.{Present}
use Rattle.hs_fold.specs.Shards.Catalogue.{Catalogue as Plain}
use Rattle.hs_fold.specs.Opened.{both}
use Rattle.hs_fold.specs.Shards.Opened.{both_roots, all_present, all_roots}
use Rattle.hs_fold.specs.Runs.Facts.{Facts, RootFacts, Catalogue, plain}
use Rattle.hs_fold.specs.Runs.Fits.{catalogue_at}
use Rattle.hs_fold.specs.Runs.Own.{AreOwn}
use Rattle.hs_fold.proofs.Runs.KeyLemmas.{one-entry}

-- ---- blocks

same-pair : (e x : Address × Present) → (e.0 ≡ x.0) × (e.1 ≡ x.1) → e ≡ x
same-pair e x p = λ i. (p.0 i, p.1 i)

both-in : (es others : List (Address × Present)) (e : Address × Present) → Member e (both es others) → Member e es ⊎ Member e others
both-in [] others e m = inr m
both-in (x ∷ es) others e m = elim (insert-key (both es others) x.0 x.1 e m) [
  | inl p ↦ inl (inl (same-pair e x p))
  | inr q ↦ elim (both-in es others e q) [ inl k ↦ inl (inr k) | inr k ↦ inr k ]
]

both-has : (es others : List (Address × Present)) (e : Address × Present) → IsStrictlySortedBy address_cmp (keys_of es) → Member e es → Member e (both es others)
both-has [] others e d m = elim m [ ]
both-has (x ∷ es) others e d (inl q) = subst (λ (y : Address × Present). Member y (insert_entry address_cmp (both es others) x.0 x.1)) (sym q) (insert-has (both es others) x.0 x.1)
both-has (x ∷ es) others e d (inr m) = elim (member-insert (both es others) x.0 x.1 e (both-has es others e (sorted_tail address_cmp x.0 (keys_of es) d) m)) [
  | inl k ↦ k
  | inr q ↦ (let is : e ≡ x = one-entry (x ∷ es) d e (inr m) x (inl refl) q in subst (λ (y : Address × Present). Member y (insert_entry address_cmp (both es others) x.0 x.1)) (sym is) (insert-has (both es others) x.0 x.1))
]

both-other : (es others : List (Address × Present)) (e : Address × Present) → AllByRecursion (λ k. e.0 ≢ k) (keys_of es) → Member e others → Member e (both es others)
both-other [] others e h m = m
both-other (x ∷ es) others e h m = elim (member-insert (both es others) x.0 x.1 e (both-other es others e h.1 m)) [ inl k ↦ k | inr q ↦ absurd (h.0 q) ]

all-members : {V : Type 0} (P : Address → Type 0) (es : List (Address × V)) → AllByRecursion P (keys_of es) → (e : Address × V) → Member e es → P e.0
all-members P [] h e m = elim m [ ]
all-members {V} P (x ∷ es) h e (inl q) = subst (λ (y : Address × V). P y.0) (sym q) h.0
all-members P (x ∷ es) h e (inr m) = all-members P es h.1 e m

other-keys : (shards from : ℕ) (a : Address) (es : List (Address × Present)) → shard_of shards a ≢ from → AllByRecursion (λ k. shard_of shards k ≡ from) (keys_of es) → AllByRecursion (λ k. a ≢ k) (keys_of es)
other-keys shards from a [] o h = tt
other-keys shards from a (x ∷ es) o h = ((λ q. o (ap (λ k. shard_of shards k) q ∙ h.0)), other-keys shards from a es o h.1)

pub record IsBlock (cs : List Catalogue) (e : Address × Present) : Type 0 where
  pub shard : ℕ
  pub within : shard < length cs
  pub facts : Facts
  pub kept : Member (e.0, facts) (catalogue_at cs shard).blocks
  pub same : facts.present ≡ e.1

pub in-present : (cs : List Catalogue) (e : Address × Present) → Member e (all_present (map plain cs)) → IsBlock cs e
in-present [] e m = elim m [ ]
in-present (c ∷ cs) e m = elim (both-in (plain c).blocks (all_present (map plain cs)) e m) [
  | inl k ↦ (
      let o = member_of_map (λ (x : Address × Facts). (x.0, x.1.present)) e c.blocks k in
      record { shard = 0; within = grind (arith, common_steps); facts = o.0.1; kept = subst (λ a. Member (a, o.0.1) c.blocks) (sym (ap (λ (x : Address × Present). x.0) o.2)) o.1; same = sym (ap (λ (x : Address × Present). x.1) o.2) }
      )
  | inr k ↦ (let b = in-present cs e k in record { shard = suc b.shard; within = grind (arith, common_steps, b.within); facts = b.facts; kept = b.kept; same = b.same })
]

pub block-shard : (shards from : ℕ) (cs : List Catalogue) → AreOwn shards from cs → (k : ℕ) → k < length cs → (e : Address × Facts) → Member e (catalogue_at cs k).blocks → shard_of shards e.0 ≡ from + k
block-shard shards from [] own k l e m = absurd (omega (arith, l))
block-shard shards from (c ∷ cs) own zero l e m =
    let s : shard_of shards e.0 ≡ from = all-members (λ k. shard_of shards k ≡ from) (plain c).blocks own.0.mine.blocks (e.0, e.1.present) (member-map (λ (x : Address × Facts). (x.0, x.1.present)) e c.blocks m) in
    omega (arith, s)
block-shard shards from (c ∷ cs) own (suc k) l e m = let s = block-shard shards (from + 1) cs own.1 k (grind (arith, common_steps, l)) e m in omega (arith, s)

pub out-present : (shards from : ℕ) (cs : List Catalogue) → AreOwn shards from cs → (k : ℕ) → k < length cs → (e : Address × Facts) → Member e (catalogue_at cs k).blocks → Member (e.0, e.1.present) (all_present (map plain cs))
out-present shards from [] own k l e m = absurd (omega (arith, l))
out-present shards from (c ∷ cs) own zero l e m = both-has (plain c).blocks (all_present (map plain cs)) (e.0, e.1.present) own.0.mine.ordered (member-map (λ (x : Address × Facts). (x.0, x.1.present)) e c.blocks m)
out-present shards from (c ∷ cs) own (suc k) l e m =
    let l' : k < length cs = grind (arith, common_steps, l) in
    let s = block-shard shards (from + 1) cs own.1 k l' e m in
    both-other (plain c).blocks (all_present (map plain cs)) (e.0, e.1.present) (other-keys shards from e.0 (plain c).blocks (λ q. omega (arith, s, q)) own.0.mine.blocks) (out-present shards (from + 1) cs own.1 k l' e m)

-- ---- roots

place-in : (q : Root) (rs : List Root) (r : Root) → Member r (place_root q rs) → (r ≡ q) ⊎ Member r rs
place-in q [] r (inl e) = inl e
place-in q [] r (inr m) = elim m [ ]
place-in q (x ∷ rs) r m = go (is_gt (root_cmp q x)) (place-in q rs r) m
  where
    go : (b : Bool) → (Member r (place_root q rs) → (r ≡ q) ⊎ Member r rs) → Member r (cond b (x ∷ place_root q rs) (q ∷ x ∷ rs)) → (r ≡ q) ⊎ Member r (x ∷ rs)
    go true ih (inl e) = inr (inl e)
    go true ih (inr m) = elim (ih m) [ inl e ↦ inl e | inr k ↦ inr (inr k) ]
    go false ih (inl e) = inl e
    go false ih (inr m) = inr m

place-has : (q : Root) (rs : List Root) → Member q (place_root q rs)
place-has q [] = inl refl
place-has q (x ∷ rs) = go (is_gt (root_cmp q x)) (place-has q rs)
  where
    go : (b : Bool) → Member q (place_root q rs) → Member q (cond b (x ∷ place_root q rs) (q ∷ x ∷ rs))
    go true ih = inr ih
    go false ih = inl refl

place-more : (q : Root) (rs : List Root) (r : Root) → Member r rs → Member r (place_root q rs)
place-more q [] r m = elim m [ ]
place-more q (x ∷ rs) r m = go (is_gt (root_cmp q x)) (place-more q rs r) m
  where
    go : (b : Bool) → (Member r rs → Member r (place_root q rs)) → Member r (x ∷ rs) → Member r (cond b (x ∷ place_root q rs) (q ∷ x ∷ rs))
    go true ih (inl e) = inl e
    go true ih (inr k) = inr (ih k)
    go false ih k = inr k

roots-in : (rs others : List Root) (r : Root) → Member r (both_roots rs others) → Member r rs ⊎ Member r others
roots-in [] others r m = inr m
roots-in (x ∷ rs) others r m = elim (place-in x (both_roots rs others) r m) [ inl e ↦ inl (inl e) | inr k ↦ elim (roots-in rs others r k) [ inl q ↦ inl (inr q) | inr q ↦ inr q ] ]

roots-left : (rs others : List Root) (r : Root) → Member r rs → Member r (both_roots rs others)
roots-left [] others r m = elim m [ ]
roots-left (x ∷ rs) others r (inl e) = subst (λ (y : Root). Member y (place_root x (both_roots rs others))) (sym e) (place-has x (both_roots rs others))
roots-left (x ∷ rs) others r (inr m) = place-more x (both_roots rs others) r (roots-left rs others r m)

roots-right : (rs others : List Root) (r : Root) → Member r others → Member r (both_roots rs others)
roots-right [] others r m = m
roots-right (x ∷ rs) others r m = place-more x (both_roots rs others) r (roots-right rs others r m)

pub record IsRoot (cs : List Catalogue) (r : Root) : Type 0 where
  pub shard : ℕ
  pub within : shard < length cs
  pub record_ : RootFacts
  pub kept : Member record_ (catalogue_at cs shard).roots
  pub same : record_.root ≡ r

pub in-roots : (cs : List Catalogue) (r : Root) → Member r (all_roots (map plain cs)) → IsRoot cs r
in-roots [] r m = elim m [ ]
in-roots (c ∷ cs) r m = elim (roots-in (plain c).roots (all_roots (map plain cs)) r m) [
  | inl k ↦ elim (roots-in (map (λ (x : RootFacts). x.root) c.roots) [] r k) [
    | inl q ↦ (let o = member_of_map (λ (x : RootFacts). x.root) r c.roots q in record { shard = 0; within = grind (arith, common_steps); record_ = o.0; kept = o.1; same = sym o.2 })
    | inr q ↦ elim q [ ]
  ]
  | inr k ↦ (let b = in-roots cs r k in record { shard = suc b.shard; within = grind (arith, common_steps, b.within); record_ = b.record_; kept = b.kept; same = b.same })
]

pub out-roots : (cs : List Catalogue) (k : ℕ) → k < length cs → (x : RootFacts) → Member x (catalogue_at cs k).roots → Member x.root (all_roots (map plain cs))
out-roots [] k l x m = absurd (omega (arith, l))
out-roots (c ∷ cs) zero l x m = roots-left (plain c).roots (all_roots (map plain cs)) x.root (roots-left (map (λ (x : RootFacts). x.root) c.roots) [] x.root (member-map (λ (x : RootFacts). x.root) x c.roots m))
out-roots (c ∷ cs) (suc k) l x m = roots-right (plain c).roots (all_roots (map plain cs)) x.root (out-roots cs k (grind (arith, common_steps, l)) x m)

pub at-map : (f : Catalogue → ℕ) (cs : List Catalogue) (k : ℕ) → k < length cs → slice_index (map f cs) k ≡ f (catalogue_at cs k)
at-map f [] k l = absurd (omega (arith, l))
at-map f (c ∷ cs) zero l = refl
at-map f (c ∷ cs) (suc k) l = at-map f cs k (grind (arith, common_steps, l))

pub epoch-at : (cs : List Catalogue) (k : ℕ) → k < length cs → slice_index (map (λ (p : Plain). p.epoch) (map plain cs)) k ≡ (catalogue_at cs k).epoch
epoch-at [] k l = absurd (omega (arith, l))
epoch-at (c ∷ cs) zero l = refl
epoch-at (c ∷ cs) (suc k) l = epoch-at cs k (grind (arith, common_steps, l))

pub epochs-length : (cs : List Catalogue) → length (map (λ (p : Plain). p.epoch) (map plain cs)) ≡ length cs
epochs-length [] = refl
epochs-length (c ∷ cs) = let rest = epochs-length cs in omega (arith, rest)
