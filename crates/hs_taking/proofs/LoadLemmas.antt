-- What a list amounts to, entry by entry.
use Rattle.std.proofs.Common.{◌≡◌, ◌∙◌, ap, sym, ℕ, zero, suc, ◌+◌, ◌<◌, ◌≤◌, ◌==◌, ◌&&◌, not, Bool, true, false, cond, eqb, List, [], ◌∷◌, ◌++◌, take, length, Some, None, refl, arith, inl, inr}
use Rattle.std.proofs.lemmas.Bool.{ne_eqb}
use Rattle.std.proofs.lemmas.Bool.Decides.{eqb_tells}
use Rattle.std.proofs.lemmas.List.{append-nil, append_assoc, length-append}
use Rattle.hs_entry.proofs.RankLemmas.{rank_more}
use Rattle.hs_entry.specs.declared.entry.Entry.{Entry}
use Rattle.hs_entry.specs.declared.entry.Entry.TheVariants as kind
use Rattle.hs_entry.specs.declared.rank.Rank.{Rank}
use Rattle.hs_entry.specs.Entries.{is_of_base, rank_after, rank_of}
use Rattle.hs_fold.specs.Shards.Setting.{Numbered}
use Rattle.hs_limits.specs.declared.address.Address.{Address}
use Rattle.hs_memory.specs.Forget.{apply_all, named}
use Rattle.hs_peerlog.specs.Lists.{GoOn, IsNumbered, numbered_entry}
use Rattle.hs_peerlog.specs.Views.{HasView, Viewing}
use Rattle.hs_ports.specs.declared.disk.Side.{Side}
use Rattle.hs_shard.specs.Apply.{apply}
use Rattle.hs_shard.specs.Facts.{Catalogue}

-- ---- one entry more

apply_more : (name : List ℕ → Address) (c : Catalogue) (es : Numbered) (n : ℕ) (e : Entry) → apply_all name c (es ++ (n, e) ∷ []) ≡ (apply n e (named name e) (apply_all name c es)).catalogue
apply_more name c [] n e = refl
apply_more name c (x ∷ es) n e = apply_more name (apply x.0 x.1 (named name x.1) c).catalogue es n e

-- ---- the entry of a number in a list that is numbered

same_number : (n : ℕ) → eqb n n ≡ true
same_number n = elim (eqb_tells n n) [ inl same ↦ same.0 | inr differ ↦ absurd (differ.1 refl) ]

some_is : {A : Type 0} (x y : A) → Some x ≡ Some y → x ≡ y
some_is x y e = cc

next_from : (n : ℕ) (es : Numbered) (i : ℕ) (e : Entry) → GoOn n es → numbered_entry es (n + i + 1) ≡ Some e → take (suc i) es ≡ take i es ++ (n + i + 1, e) ∷ []
next_from n [] i e g is = cc is
next_from n (x ∷ es) zero e g is =
    let k : n + 0 + 1 ≡ n + 1 = omega arith in
    let here : eqb x.0 (n + 0 + 1) ≡ true = ap (λ j. eqb j (n + 0 + 1)) (g.0 ∙ sym k) ∙ same_number (n + 0 + 1) in
    let entry : x.1 ≡ e = some_is x.1 e (sym (ap (λ b. cond b (Some x.1) (numbered_entry es (n + 0 + 1))) here) ∙ is) in
    let both : x ≡ (n + 0 + 1, e) = λ i. ((g.0 ∙ sym k) i, entry i) in
    ap (λ y. y ∷ []) both
next_from n (x ∷ es) (suc i) e g is =
    let no : eqb x.0 (n + suc i + 1) ≡ false = ne_eqb x.0 (n + suc i + 1) (λ same. omega (arith, same, g.0)) in
    let k : n + suc i + 1 ≡ n + 1 + i + 1 = omega arith in
    let rest : numbered_entry es (n + 1 + i + 1) ≡ Some e = ap (λ j. numbered_entry es j) (sym k) ∙ sym (ap (λ b. cond b (Some x.1) (numbered_entry es (n + suc i + 1))) no) ∙ is in
    ap (λ ys. x ∷ ys) (next_from (n + 1) es i e g.2 rest ∙ ap (λ j. take i es ++ (j, e) ∷ []) (sym k))

pub next_is : (es : Numbered) (i : ℕ) (e : Entry) → IsNumbered es → numbered_entry es (i + 1) ≡ Some e → take (i + 1) es ≡ take i es ++ (i + 1, e) ∷ []
next_is es i e g is =
    let k : 0 + i + 1 ≡ i + 1 = omega arith in
    let s : i + 1 ≡ suc i = omega arith in
    ap (λ j. take j es) s ∙ next_from 0 es i e g (ap (λ j. numbered_entry es j) k ∙ is) ∙ ap (λ j. take i es ++ (j, e) ∷ []) k

-- there is one up to its end
none_beyond : (n : ℕ) (es : Numbered) (i : ℕ) → GoOn n es → numbered_entry es (n + i + 1) ≡ None → length es ≤ i
none_beyond n [] i g is = omega arith
none_beyond n (x ∷ es) zero g is =
    let k : n + 0 + 1 ≡ n + 1 = omega arith in
    let here : eqb x.0 (n + 0 + 1) ≡ true = ap (λ j. eqb j (n + 0 + 1)) (g.0 ∙ sym k) ∙ same_number (n + 0 + 1) in
    absurd (some_not x.1 (sym (ap (λ b. cond b (Some x.1) (numbered_entry es (n + 0 + 1))) here) ∙ is))
  where
    some_not : (e : Entry) → Some e ≡ None → ⊥
    some_not e h = grind arith
none_beyond n (x ∷ es) (suc i) g is =
    let no : eqb x.0 (n + suc i + 1) ≡ false = ne_eqb x.0 (n + suc i + 1) (λ same. omega (arith, same, g.0)) in
    let k : n + suc i + 1 ≡ n + 1 + i + 1 = omega arith in
    let low = none_beyond (n + 1) es i g.2 (ap (λ j. numbered_entry es j) (sym k) ∙ sym (ap (λ b. cond b (Some x.1) (numbered_entry es (n + suc i + 1))) no) ∙ is) in
    omega (arith, low)

pub none_past : (es : Numbered) (i : ℕ) → IsNumbered es → numbered_entry es (i + 1) ≡ None → length es ≤ i
none_past es i g is = let k : i + 1 ≡ 0 + i + 1 = omega arith in none_beyond 0 es i g (ap (λ j. numbered_entry es j) (sym k) ∙ is)

-- ---- the number of the last entry is their count

plain_number : (r : Rank) (n : ℕ) (e : Entry) → is_of_base e ≡ false → (rank_after r n e).number ≡ n
plain_number r n (kind.View view) p = refl
plain_number r n (kind.Block op least bytes) p = refl
plain_number r n (kind.Mark op least block address) p = refl
plain_number r n (kind.Root op held address key) p = refl
plain_number r n (kind.Drop op key) p = refl
plain_number r n (kind.Enter op epoch) p = refl
plain_number r n (kind.Got sender epoch round total deltas) p = refl
plain_number r n (kind.Base view epoch swept round frames) p = cc p
plain_number r n (kind.KeptBlock born mark flags count bytes) p = cc p
plain_number r n (kind.KeptRoot created dropped counted address key) p = cc p
plain_number r n (kind.KeptRound way other epoch round total deltas) p = cc p

-- some entries behind others
count_from : (front es : Numbered) (n : ℕ) → (rank_of front).number ≡ n → GoOn n es → (rank_of (front ++ es)).number ≡ n + length es
count_from front [] n is g = let e : n + 0 ≡ n = omega arith in rw (append-nil front) (is ∙ sym e)
count_from front (x ∷ es) n is g =
    let more : (rank_of (front ++ x ∷ [])).number ≡ n + 1 = ap (λ (r : Rank). r.number) (rank_more front x.0 x.1) ∙ plain_number (rank_of front) x.0 x.1 g.1 ∙ g.0 in
    let k : n + 1 + length es ≡ n + suc (length es) = omega arith in
    ap (λ ys. (rank_of ys).number) (sym (append_assoc front (x ∷ []) es)) ∙ count_from (front ++ x ∷ []) es (n + 1) more g.2 ∙ k

none_is : (rank_of []).number ≡ 0
unfolding rank_of
none_is = refl

pub count_is : (es : Numbered) → IsNumbered es → (rank_of es).number ≡ length es
count_is es g = let e : 0 + length es ≡ length es = omega arith in count_from [] es 0 none_is g ∙ e

-- ---- so far

-- the entries so far, of which so many were read; where the disk tells they are the first ones of its list
pub record IsLoading (tells : Type 0) (name : List ℕ → Address) (start : Catalogue) (is_whole : Numbered → Type 0) (count : ℕ) (catalogue : Catalogue) (rank : Rank) : Type 0 where
  pub list : Numbered
  pub catalogue_is : catalogue ≡ apply_all name start list
  pub rank_is : rank ≡ rank_of list
  pub told : tells → (whole : Numbered) → is_whole whole → list ≡ take count whole
  pub counted : length list ≡ count

pub none_loaded : (tells : Type 0) (name : List ℕ → Address) (start : Catalogue) (is_whole : Numbered → Type 0) → IsLoading tells name start is_whole 0 start (record { view = 0; number = 0 })
unfolding rank_of
none_loaded tells name start is_whole = record { list = []; catalogue_is = refl; rank_is = refl; told = λ told whole is. refl; counted = refl }

pub one_loaded : (tells : Type 0) (name : List ℕ → Address) (start : Catalogue) (is_whole : Numbered → Type 0) (i : ℕ) (old new : Catalogue) (rank next : Rank) (e : Entry)
    → IsLoading tells name start is_whole i old rank → new ≡ (apply (i + 1) e (named name e) old).catalogue → next ≡ rank_after rank (i + 1) e
    → (tells → (whole : Numbered) → is_whole whole → IsNumbered whole × (numbered_entry whole (i + 1) ≡ Some e)) → IsLoading tells name start is_whole (i + 1) new next
one_loaded tells name start is_whole i old new rank next e before took after found = record {
  list = before.list ++ (i + 1, e) ∷ [];
  catalogue_is = took ∙ ap (λ c. (apply (i + 1) e (named name e) c).catalogue) before.catalogue_is ∙ sym (apply_more name start before.list (i + 1) e);
  rank_is = after ∙ ap (λ r. rank_after r (i + 1) e) before.rank_is ∙ sym (rank_more before.list (i + 1) e);
  told = λ told whole is. let f = found told whole is in ap (λ es. es ++ (i + 1, e) ∷ []) (before.told told whole is) ∙ sym (next_is whole i e f.0 f.1);
  counted = length-append before.list ((i + 1, e) ∷ []) ∙ ap (λ n. n + 1) before.counted;
}

-- where nothing was to be read there is nothing
pub none_counted : (list : Numbered) → length list ≤ 0 → list ≡ []
none_counted [] low = refl
none_counted (x ∷ xs) low = absurd (omega (arith, low))

-- a view tells how many they are
pub view_count : (v : Viewing) (seen : Side → List ℕ) (whole : Numbered) → HasView v seen whole → v.rank.number ≡ length whole
view_count v seen whole has = ap (λ (r : Rank). r.number) has.rank ∙ count_is whole has.numbered

pub take_all_of : {A : Type 0} (xs : List A) (n : ℕ) → length xs ≤ n → take n xs ≡ xs
take_all_of [] zero h = refl
take_all_of [] (suc n) h = refl
take_all_of (x ∷ xs) zero h = absurd (omega (arith, h))
take_all_of (x ∷ xs) (suc n) h = ap (λ ys. x ∷ ys) (take_all_of xs n (omega (arith, h)))

pub all_read : (v : Viewing) (seen : Side → List ℕ) (whole : Numbered) (n : ℕ) → HasView v seen whole → v.rank.number ≤ n → take n whole ≡ whole
all_read v seen whole n has low = let c = view_count v seen whole has in take_all_of whole n (omega (arith, low, c))

-- and none of them is wanting
pub none_wanting : (v : Viewing) (seen : Side → List ℕ) (whole : Numbered) (i : ℕ) → HasView v seen whole → i < v.rank.number → numbered_entry whole (i + 1) ≡ None → ⊥
none_wanting v seen whole i has low none =
    let c = view_count v seen whole has in
    let k : i + 1 ≡ 0 + i + 1 = omega arith in
    let beyond = none_beyond 0 whole i has.numbered (ap (λ j. numbered_entry whole j) (sym k) ∙ none) in
    omega (arith, c, low, beyond)

-- ranks that are told to differ
pub ranks_differ : (a b : Rank) (other : Bool) → other ≡ not ((a.view == b.view) && (a.number == b.number)) → other ≡ true → a ≡ b → ⊥
ranks_differ a b other is differ same =
    let v : (a.view == b.view) ≡ true = ap (λ n. a.view == n) (sym (ap (λ (r : Rank). r.view) same)) ∙ same_number a.view in
    let n : (a.number == b.number) ≡ true = ap (λ n. a.number == n) (sym (ap (λ (r : Rank). r.number) same)) ∙ same_number a.number in
    no_truth (sym differ ∙ is ∙ ap (λ (x : Bool). not (x && (a.number == b.number))) v ∙ ap (λ (x : Bool). not (true && x)) n)
  where
    no_truth : true ≡ false → ⊥
    no_truth e = cc e

-- or not to differ
pub numbers_same : (a b : Rank) (other : Bool) → other ≡ not ((a.view == b.view) && (a.number == b.number)) → other ≡ false → a.number ≡ b.number
numbers_same a b other is same = elim (eqb_tells a.number b.number) [
  | inl e ↦ e.1
  | inr apart ↦ absurd (differ (a.view == b.view) (sym same ∙ is ∙ ap (λ x. not ((a.view == b.view) && x)) apart.0))
]
  where
    differ : (x : Bool) → false ≡ not (x && false) → ⊥
    differ true e = cc e
    differ false e = cc e
