use Rattle.std.proofs.Common.{sym, ap, subst, ◌∙◌, arith}
use Rattle.std.proofs.lemmas.Map.{keys-set_value}
use Rattle.std.proofs.lemmas.Map.Steps.{set_value_same}
use Rattle.std.specs.BTreeMap.{is_at}
use Rattle.std.specs.List.Sorted.{IsStrictlySortedBy}
use Rattle.std.specs.Map.{keys_of}
use Rattle.hs_model.specs.Store.{address_cmp}
use Rattle.hs_shard.specs.Tally.{one_more}
use Rattle.hs_shard.proofs.TallyLemmas.{Some1, raised, some_insert, some_more}
use Rattle.hs_shard.proofs.tally.Tally.add.Goals as goal

-- no count changes
pub invariant_of-self : goal.invariant_of-self
invariant_of-self c =
    let same = (c.get_mut.follows.holds c.in-Some.count.now).0 ∙ set_value_same (is_at (address_cmp c.args.address)) c.self.inside.counts.entries c.in-Some.count.now (sym c.in-Some.ensures.value) in
    record {
      ordered = subst (λ es. IsStrictlySortedBy address_cmp (keys_of es)) (sym same) c.self.invariant.ordered;
      some = subst Some1 (sym same) c.self.invariant.some;
    }

-- the count of the address is one more
pub invariant_of-self-in-Some : goal.invariant_of-self-in-Some
invariant_of-self-in-Some c =
    let written = (c.get_mut.follows.holds c.in-Some-checked_add.more).0 in
    let keys = ap keys_of written ∙ keys-set_value (is_at (address_cmp c.args.address)) c.self.inside.counts.entries c.in-Some-checked_add.more in
    let counts = written ∙ raised c.args.address c.in-Some.count.now c.in-Some-checked_add.more c.self.inside.counts.entries c.self.invariant.ordered c.in-Some.ensures.value c.in-Some-checked_add.ensures.1 in
    record {
      ordered = subst (λ ks. IsStrictlySortedBy address_cmp ks) (sym keys) c.self.invariant.ordered;
      some = subst Some1 (sym counts) (some_more c.args.address c.self.inside.counts.entries c.self.invariant.some);
    }

pub returns-in-Some : goal.returns-in-Some
returns-in-Some c =
    (c.get_mut.follows.holds c.in-Some-checked_add.more).0
    ∙ raised c.args.address c.in-Some.count.now c.in-Some-checked_add.more c.self.inside.counts.entries c.self.invariant.ordered c.in-Some.ensures.value c.in-Some-checked_add.ensures.1
    ∙ ap (λ es. one_more c.args.address es) c.self.view_is

-- the first count of the address
pub invariant_of-self-2 : goal.invariant_of-self-2
invariant_of-self-2 c = record {
  ordered = c.in_ok-insert.ensures.ordered;
  some = subst Some1 (sym c.in_ok-insert.ensures.entries) (some_insert c.args.address 1 c.get_mut.follows.lender-at-none.entries (omega arith) (subst Some1 (ap (λ m. m.entries) (sym c.get_mut.follows.holds-at-none)) c.self.invariant.some));
}
