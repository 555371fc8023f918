-- What a list amounts to: each block was stored by the Block entry of its number, whose bytes spell it.
use Rattle.std.proofs.Common.{◌≡◌, ◌∙◌, sym, ap, subst, ◌⊎◌, inl, inr, ℕ, zero, suc, ◌+◌, ◌≤◌, Bool, true, false, cond, List, [], ◌∷◌, Some, None, Ok, Err, Result, refl, arith, take}
use Rattle.std.specs.BTreeMap.{insert_entry, is_at}
use Rattle.std.specs.List.{enumerate_from}
use Rattle.std.specs.Map.{lookup}
use Rattle.hs_entry.specs.declared.entry.Entry.{Entry}
use Rattle.hs_entry.specs.declared.entry.Entry.TheVariants as kind
use Rattle.hs_fold.proofs.Runs.OwnLemmas.{apply-own, empty-own}
use Rattle.hs_fold.specs.Catalogue.{Shard, fresh_present}
use Rattle.hs_fold.specs.Runs.Catalogue.{apply, apply_all, catalogue_of}
use Rattle.hs_fold.specs.Runs.Clients.{new_facts, store_block}
use Rattle.hs_fold.specs.Runs.Facts.{Catalogue as Folded, Facts, empty_catalogue, facts_at, plain}
use Rattle.hs_fold.specs.Runs.Own.{IsOwn}
use Rattle.hs_fold.specs.Shards.Catalogue.{is_stored}
use Rattle.hs_fold.specs.Shards.Setting.{Numbered}
use Rattle.hs_laws.proofs.InsertLemmas.{lookup-insert_other, lookup-insert_same}
use Rattle.hs_limits.specs.Block.{Block}
use Rattle.hs_limits.specs.declared.address.Address.{Address}
use Rattle.hs_limits.specs.declared.spelling.SpellingFault.{SpellingFault}
use Rattle.hs_limits.specs.Reading.{read_block}
use Rattle.hs_model.proofs.Members.{Member, same_from}
use Rattle.hs_model.specs.Reach.{is_same}
use Rattle.hs_model.specs.Store.{address_cmp, block_of}
use Rattle.hs_waiting.proofs.WasLemmas.{WasThere, was-there}

some_is : {A : Type 0} (x y : A) → Some x ≡ Some y → x ≡ y
some_is x y e = cc e

-- ---- the entry that stored a block

pub record IsStoredBy (list : Numbered) (f : Facts) : Type 0 where
  pub line : ℕ
  pub least : ℕ
  pub bytes : List ℕ
  pub among : Member (f.present.number, kind.Block line least bytes) list
  pub spells : read_block bytes ≡ Ok (block_of f.present.stored)

one_more : (n : ℕ) → n ≡ n + 1 → ⊥
one_more n e = omega (arith, e)

itself : (es : List (Address × Facts)) (a : Address) (f : Facts) → lookup (is_at (address_cmp a)) es ≡ Some f → WasThere es a f
itself es a f e = record { old = f; found = e; number = refl; stored = refl }

module _ (at : Shard) (c : Folded) (own : IsOwn at.shards at.shard c) (a : Address) (f : Facts) where
  -- one entry: a block was there, or this entry stored it
  abbrev Was : Numbered → Type 0
  Was list = WasThere c.blocks a f ⊎ IsStoredBy list f

  by_other : (number : ℕ) (entry : Entry) → facts_at (apply at c (f.present.number + 1, entry)) a ≡ Some f → Was ((number, entry) ∷ [])
  by_other number entry e = inl (was-there at c own a f (f.present.number + 1) entry (one_more f.present.number) e)

  by_block : (number line least : ℕ) (bytes : List ℕ) (b : Address) (read : Result Block SpellingFault) → read_block bytes ≡ read → facts_at (store_block at c number least b read) a ≡ Some f → Was ((number, kind.Block line least bytes) ∷ [])
  by_block number line least bytes b (Err fault) reads e = inl (itself c.blocks a f e)
  by_block number line least bytes b (Ok block) reads e = by_test (is_stored at (plain c) least b) e
    where
      new : Facts
      new = new_facts (fresh_present c.epoch number block)

      is_new : f ≡ new_facts (fresh_present c.epoch number block) → IsStoredBy ((number, kind.Block line least bytes) ∷ []) f
      is_new is = record {
        line = line;
        least = least;
        bytes = bytes;
        among = inl (ap (λ (x : Facts). (x.present.number, kind.Block line least bytes)) is);
        spells = reads ∙ ap (λ (x : Facts). Ok (block_of x.present.stored)) (sym is);
      }

      by_place : (t : Bool) → is_same a b ≡ t → lookup (is_at (address_cmp a)) (insert_entry address_cmp c.blocks b (new_facts (fresh_present c.epoch number block))) ≡ Some f → Was ((number, kind.Block line least bytes) ∷ [])
      by_place true t g =
          let same : a ≡ b = same_from a b t in
          let here : lookup (is_at (address_cmp a)) (insert_entry address_cmp c.blocks b (new_facts (fresh_present c.epoch number block))) ≡ Some (new_facts (fresh_present c.epoch number block)) =
          subst (λ x. lookup (is_at (address_cmp x)) (insert_entry address_cmp c.blocks b (new_facts (fresh_present c.epoch number block))) ≡ Some (new_facts (fresh_present c.epoch number block))) (sym same)
          (lookup-insert_same c.blocks b (new_facts (fresh_present c.epoch number block))) in
          inr (is_new (some_is f (new_facts (fresh_present c.epoch number block)) (sym g ∙ here)))
      by_place false t g = inl (itself c.blocks a f (sym (lookup-insert_other c.blocks b (new_facts (fresh_present c.epoch number block)) a t) ∙ g))

      by_test : (s : Bool) → facts_at (cond s (record c { blocks = insert_entry address_cmp c.blocks b (new_facts (fresh_present c.epoch number block)) }) c) a ≡ Some f → Was ((number, kind.Block line least bytes) ∷ [])
      by_test true g = by_place (is_same a b) refl g
      by_test false g = inl (itself c.blocks a f g)

  one_stored : (number : ℕ) (entry : Entry) → facts_at (apply at c (number, entry)) a ≡ Some f → Was ((number, entry) ∷ [])
  one_stored number (kind.View view) e = by_other number (kind.View view) e
  one_stored number (kind.Block line least bytes) e = by_block number line least bytes (at.name bytes) (read_block bytes) refl e
  one_stored number (kind.Mark line least block b) e = by_other number (kind.Mark line least block b) e
  one_stored number (kind.Root line held b key) e = by_other number (kind.Root line held b key) e
  one_stored number (kind.Drop line key) e = by_other number (kind.Drop line key) e
  one_stored number (kind.Enter line epoch) e = by_other number (kind.Enter line epoch) e
  one_stored number (kind.Got sender epoch round total deltas) e = by_other number (kind.Got sender epoch round total deltas) e
  one_stored number (kind.Base view epoch swept round frames) e = by_other number (kind.Base view epoch swept round frames) e
  one_stored number (kind.KeptBlock born mark flags count bytes) e = by_other number (kind.KeptBlock born mark flags count bytes) e
  one_stored number (kind.KeptRoot created dropped counted address key) e = by_other number (kind.KeptRoot created dropped counted address key) e
  one_stored number (kind.KeptRound way other epoch round total deltas) e = by_other number (kind.KeptRound way other epoch round total deltas) e

stored_of : (list : Numbered) (f g : Facts) → g.present.number ≡ f.present.number → g.present.stored ≡ f.present.stored → IsStoredBy list g → IsStoredBy list f
stored_of list f g number stored s = record {
  line = s.line;
  least = s.least;
  bytes = s.bytes;
  among = subst (λ n. Member (n, kind.Block s.line s.least s.bytes) list) number s.among;
  spells = s.spells ∙ ap (λ x. Ok (block_of x)) stored;
}

among_more : (x : ℕ × Entry) (list : Numbered) (y : ℕ × Entry) → Member y (x ∷ []) → Member y (x ∷ list)
among_more x list y (inl is) = inl is
among_more x list y (inr none) = elim none [ ]

-- some entries, one after another
all_stored : (at : Shard) (c : Folded) (list : Numbered) → IsOwn at.shards at.shard c → (a : Address) (f : Facts) → facts_at (apply_all at c list) a ≡ Some f → WasThere c.blocks a f ⊎ IsStoredBy list f
all_stored at c [] own a f e = inl (itself c.blocks a f e)
all_stored at c (x ∷ list) own a f e = by (all_stored at (apply at c x) list (apply-own at c own x.0 x.1) a f e)
  where
    first : WasThere (apply at c x).blocks a f → WasThere c.blocks a f ⊎ IsStoredBy (x ∷ list) f
    first was = by_one (one_stored at c own a was.old x.0 x.1 was.found)
      where
        by_one : WasThere c.blocks a was.old ⊎ IsStoredBy (x ∷ []) was.old → WasThere c.blocks a f ⊎ IsStoredBy (x ∷ list) f
        by_one (inl old) = inl (record { old = old.old; found = old.found; number = old.number ∙ was.number; stored = old.stored ∙ was.stored })
        by_one (inr s) =
            let t : IsStoredBy (x ∷ []) f = stored_of (x ∷ []) f was.old was.number was.stored s in
            inr (record { line = t.line; least = t.least; bytes = t.bytes; among = among_more x list (f.present.number, kind.Block t.line t.least t.bytes) t.among; spells = t.spells })

    by : WasThere (apply at c x).blocks a f ⊎ IsStoredBy list f → WasThere c.blocks a f ⊎ IsStoredBy (x ∷ list) f
    by (inl was) = first was
    by (inr s) = inr (record { line = s.line; least = s.least; bytes = s.bytes; among = inr s.among; spells = s.spells })

nothing_was : (a : Address) (f : Facts) → WasThere [] a f → ⊥
nothing_was a f was = let e : None ≡ Some was.old = was.found in cc e

pub stored_by : (at : Shard) (list : Numbered) (a : Address) (f : Facts) → facts_at (catalogue_of at list) a ≡ Some f → IsStoredBy list f
stored_by at list a f e = by (all_stored at empty_catalogue list (empty-own at.shards at.shard) a f e)
  where
    by : WasThere [] a f ⊎ IsStoredBy list f → IsStoredBy list f
    by (inl was) = absurd (nothing_was a f was)
    by (inr s) = s

-- ---- a number stands once in a list

pub taken_member : {X : Type 0} (n : ℕ) (xs : List X) (x : X) → Member x (take n xs) → Member x xs
taken_member zero [] x m = elim m [ ]
taken_member zero (y ∷ xs) x m = elim m [ ]
taken_member (suc n) [] x m = elim m [ ]
taken_member (suc n) (y ∷ xs) x (inl e) = inl e
taken_member (suc n) (y ∷ xs) x (inr m) = inr (taken_member n xs x m)

member_above : (m : ℕ) (es : List Entry) (k : ℕ) (x : Entry) → Member (k, x) (enumerate_from m es) → m ≤ k
member_above m [] k x h = elim h [ ]
member_above m (e ∷ es) k x (inl is) = let n : k ≡ m = ap (λ (y : ℕ × Entry). y.0) is in omega (arith, n)
member_above m (e ∷ es) k x (inr h) = let up = member_above (m + 1) es k x h in omega (arith, up)

pub one_entry : (m : ℕ) (es : List Entry) (k : ℕ) (x y : Entry) → Member (k, x) (enumerate_from m es) → Member (k, y) (enumerate_from m es) → x ≡ y
one_entry m [] k x y a b = elim a [ ]
one_entry m (e ∷ es) k x y (inl a) (inl b) = ap (λ (z : ℕ × Entry). z.1) a ∙ sym (ap (λ (z : ℕ × Entry). z.1) b)
one_entry m (e ∷ es) k x y (inl a) (inr b) = let n : k ≡ m = ap (λ (z : ℕ × Entry). z.0) a in let up = member_above (m + 1) es k y b in absurd (omega (arith, n, up))
one_entry m (e ∷ es) k x y (inr a) (inl b) = let n : k ≡ m = ap (λ (z : ℕ × Entry). z.0) b in let up = member_above (m + 1) es k x a in absurd (omega (arith, n, up))
one_entry m (e ∷ es) k x y (inr a) (inr b) = one_entry (m + 1) es k x y a b
