-- Of numbered lists a prefix is a front.
use Rattle.std.proofs.Common.{◌≡◌, ℕ, ◌+◌, ◌≤◌, inl, inr, [], ◌∷◌, ◌++◌, length, false, sym, ap, ◌∙◌, subst, arith, length-append}
use Rattle.hs_model.proofs.Members.{Member, contains_from_member, member_from_contains}
use Rattle.hs_entry.specs.declared.entry.Entry.{Entry}
use Rattle.hs_entry.specs.Entries.{is_of_base, IsPrefix}
use Rattle.hs_fold.specs.Prefix.{GoOn, IsNumbered, last_of}
use Rattle.hs_fold.specs.Shards.Prefix.{IsListPrefix}
use Rattle.hs_fold.specs.Shards.Setting.{Numbered}
use Rattle.hs_fold.proofs.PrefixLemmas.{last-length, one-each, in-front, front-up_to, list-prefix}

ordinary : (n : ℕ) (es : Numbered) → GoOn n es → (k : ℕ) (a : Entry) → Member (k, a) es → is_of_base a ≡ false
ordinary n [] g k a m = elim m [ ]
ordinary n (e ∷ es) g k a (inl h) = subst (λ (x : ℕ × Entry). is_of_base x.1 ≡ false) (sym h) g.1
ordinary n (e ∷ es) g k a (inr m) = ordinary (n + 1) es g.2 k a m

front-is : {X : Type 0} (amounts_to : Numbered → X) (front rest : Numbered) → IsNumbered front → IsNumbered (front ++ rest) → IsListPrefix amounts_to front (front ++ rest)
front-is amounts_to front rest f g = record {
  shorter = rw (last-length front f, last-length (front ++ rest) g) (grind (arith, length-append front rest));
  same = λ number a b kept. one-each 0 (front ++ rest) g number a b (in-front front rest (number, a) (member_from_contains (number, a) front kept.in_front)) (member_from_contains (number, b) (front ++ rest) kept.in_all);
  amounts = λ low. ap amounts_to (sym (front-up_to 0 (last_of front) front rest g (last-length front f ∙ omega arith)));
}

pub front-exact : {X : Type 0} (amounts_to : Numbered → X) (front all : Numbered) → IsNumbered front → IsNumbered all → (IsListPrefix amounts_to front all → IsPrefix front all) × (IsPrefix front all → IsListPrefix amounts_to front all)
front-exact amounts_to front all f g = (
  λ p. list-prefix 0 front all f g (subst (λ n. n ≤ length all) (last-length front f) (subst (λ n. last_of front ≤ n) (last-length all g) p.shorter))
      (λ k a b q r. p.same k a b (record {
        in_front = contains_from_member (k, a) front q;
        in_all = contains_from_member (k, b) all r;
        ordinary_in_front = ordinary 0 front f k a q;
        ordinary_in_all = ordinary 0 all g k b r;
      })),
  λ p. subst (λ es. IsListPrefix amounts_to front es) (sym p.1) (front-is amounts_to front p.0 f (subst (λ es. IsNumbered es) p.1 g)),
)
