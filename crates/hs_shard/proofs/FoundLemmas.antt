-- What a look-up finds among the blocks.
use Rattle.std.proofs.Common.{◌≡◌, [], ◌∷◌, Bool, true, false, cond, Option, Some, None, refl, sym, ap, subst, ◌∙◌, is_eq, Less}
use Rattle.std.proofs.lemmas.Cmp.{eq_by_cmp_equiv}
use Rattle.std.proofs.lemmas.Map.{lookup-set_value}
use Rattle.std.proofs.lemmas.Map.Keys.{sorted_head, sorted_tail}
use Rattle.std.specs.BTreeMap.{is_at}
use Rattle.std.specs.Cmp.{IsEquivalence}
use Rattle.std.specs.List.{AllByRecursion}
use Rattle.std.specs.List.Sorted.{IsStrictlySortedBy}
use Rattle.std.specs.Map.{keys_of, set_value}
use Rattle.std.specs.Option.{IsSome, option_map}
use Rattle.std.specs.Ordering.{eq_by_cmp, ordering_reverse}
use Rattle.hs_limits.specs.declared.address.Address.{Address}
use Rattle.hs_model.specs.Store.{address_cmp}
use Rattle.hs_model.proofs.Members.{at_is_same, same-refl, same_from}
use Rattle.hs_model.proofs.SetLemmas.{address_total}
use Rattle.hs_shard.specs.declared.facts.Facts.{Facts}
use Rattle.hs_shard.specs.Clients.{change_at, put_facts}
use Rattle.hs_shard.specs.Facts.{BlockList, facts_in}

pub laws : IsEquivalence (eq_by_cmp address_cmp)
laws = eq_by_cmp_equiv address_total

-- ---- addresses

pub same_at : (a q : Address) → is_at (address_cmp a) q ≡ true → a ≡ q
same_at a q e = same_from a q (sym (at_is_same a q) ∙ e)

pub at_itself : (a : Address) → is_at (address_cmp a) a ≡ true
at_itself a = at_is_same a a ∙ same-refl a

-- one that is below another is not at it
pub not_above : (a q : Address) → address_cmp a q ≡ Less → is_at (address_cmp q) a ≡ false
not_above a q l = ap is_eq (address_total.antisymm q a ∙ ap ordering_reverse l)

-- ---- a block that is changed

pub found_put : (a q : Address) (f : Facts) (blocks : BlockList) → IsSome (facts_in a blocks) → facts_in q (set_value (is_at (address_cmp a)) blocks f) ≡ cond (is_at (address_cmp a) q) (Some f) (facts_in q blocks)
found_put a q f blocks some = lookup-set_value laws (is_at (address_cmp a)) (λ x y e. laws.congr a x y e) q f blocks some

none_there : (a q : Address) (blocks : BlockList) → facts_in a blocks ≡ None → (b : Bool) → is_at (address_cmp a) q ≡ b → facts_in q blocks ≡ cond b None (facts_in q blocks)
none_there a q blocks none true e = subst (λ z. facts_in z blocks ≡ None) (same_at a q e) none
none_there a q blocks none false e = refl

pub found_change : (a q : Address) (change : Facts → Facts) (blocks : BlockList)
    → facts_in q (change_at a change blocks) ≡ cond (is_at (address_cmp a) q) (option_map change (facts_in a blocks)) (facts_in q blocks)
found_change a q change blocks = go (facts_in a blocks) refl
  where
    go : (o : Option Facts) → facts_in a blocks ≡ o → facts_in q (put_facts a (option_map change o) blocks) ≡ cond (is_at (address_cmp a) q) (option_map change o) (facts_in q blocks)
    go None e = none_there a q blocks e (is_at (address_cmp a) q) refl
    go (Some f) e = found_put a q (change f) blocks (subst (λ o. IsSome o) (sym e) refl)

-- ---- each entry is found at its key

-- each of some entries is found among the blocks
abbrev pub AreFound : BlockList → BlockList → Type 0
AreFound blocks es = AllByRecursion (λ e. facts_in e.0 blocks ≡ Some e.1) es

-- an entry below them all hides none of them
found_behind : (e : Address × Facts) (blocks es : BlockList) → AllByRecursion (λ q. address_cmp e.0 q ≡ Less) (keys_of es) → AreFound blocks es → AreFound (e ∷ blocks) es
found_behind e blocks [] below found = tt
found_behind e blocks (x ∷ es) below found =
    (ap (λ (b : Bool). cond b (Some e.1) (facts_in x.0 blocks)) (not_above e.0 x.0 below.0) ∙ found.0, found_behind e blocks es below.1 found.1)

pub all_found : (blocks : BlockList) → IsStrictlySortedBy address_cmp (keys_of blocks) → AreFound blocks blocks
all_found [] d = tt
all_found (e ∷ es) d =
    (ap (λ (b : Bool). cond b (Some e.1) (facts_in e.0 es)) (at_itself e.0), found_behind e es es (sorted_head address_cmp e.0 (keys_of es) d) (all_found es (sorted_tail address_cmp e.0 (keys_of es) d)))
