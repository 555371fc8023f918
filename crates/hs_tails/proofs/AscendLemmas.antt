-- A history in which the numbers of each shard ascend goes on with an entry that takes effect next.
use Rattle.std.proofs.Common.{◌≡◌, ◌∙◌, ap, sym, subst, ℕ, ◌+◌, ◌≤◌, List, [], ◌∷◌, ◌++◌, arith}
use Rattle.std.proofs.lemmas.List.Elements.{All-append, All-cons, All-nil, All-weaker, recursion_from_All}
use Rattle.std.specs.List.{AllByRecursion}
use Rattle.hs_effects.specs.Lawful.{MayFollow}
use Rattle.hs_fold.proofs.Shards.LawfulLemmas.{each-from, pairs-append, pairs-from, pairs-to}
use Rattle.hs_fold.specs.Lawful.{Ascends, Deed}
use Rattle.hs_fold.specs.Runs.Facts.{Catalogue as Folded}
use Rattle.hs_fold.specs.Runs.History.{follow, follow_all, no_entries}
use Rattle.hs_fold.specs.Shards.Setting.{Setting}
use Rattle.hs_joint.specs.Along.{KeepFewRecords}
use Rattle.hs_waiting.proofs.ListLemmas.{fit_append, follow_append}
use Rattle.hs_tails.specs.Tails.{AreAscending}

few_append : (set : Setting) (cs : List Folded) (one more : List Deed) → KeepFewRecords set cs one → KeepFewRecords set (follow_all set cs one) more → KeepFewRecords set cs (one ++ more)
few_append set cs [] more f g = g
few_append set cs (d ∷ one) more f g = (f.0, few_append set (follow set cs d) one more f.1 g)

-- with other fronts that are no lower
pub ascend_up : (set : Setting) (front other : ℕ → ℕ) (cs : List Folded) → ((g : ℕ) → front g ≤ other g) → AreAscending set front cs → AreAscending set other cs
ascend_up set front other cs up h = record {
  history = h.history;
  ascends = h.ascends;
  within = All-weaker (λ (d : Deed). d.number ≤ front d.shard) (λ (d : Deed). d.number ≤ other d.shard) (λ d low. let more = up d.shard in omega (arith, low, more)) h.history h.within;
  fits = h.fits;
  records = h.records;
  gives = h.gives;
}

-- with an entry more, behind the front of its shard
pub ascend_more : (set : Setting) (front other : ℕ → ℕ) (cs : List Folded) (deed : Deed) → MayFollow set cs deed → deed.number ≡ front deed.shard + 1 → ((g : ℕ) → front g ≤ other g) → deed.number ≤ other deed.shard
    → AreAscending set front cs → AreAscending set other (follow set cs deed)
ascend_more set front other cs deed may next up high h =
    let there : MayFollow set (follow_all set (no_entries set) h.history) deed = subst (λ ds. MayFollow set ds deed) (sym h.gives) may in
    let above : AllByRecursion (λ (d : Deed). AllByRecursion (Ascends d) (deed ∷ [])) h.history =
    each-from (λ (d : Deed). d.number ≤ front d.shard) (λ d. AllByRecursion (Ascends d) (deed ∷ [])) h.history
    (λ d low. (λ same. (let here = ap front same in omega (arith, low, here, next)), tt))
    (recursion_from_All (λ (d : Deed). d.number ≤ front d.shard) h.history h.within) in
    record {
      history = h.history ++ deed ∷ [];
      ascends = pairs-to Ascends (h.history ++ deed ∷ []) (pairs-append Ascends h.history (deed ∷ []) (pairs-from Ascends h.history h.ascends) (tt, tt) above);
      within = All-append (λ (d : Deed). d.number ≤ other d.shard) h.history (deed ∷ [])
          (All-weaker (λ (d : Deed). d.number ≤ front d.shard) (λ (d : Deed). d.number ≤ other d.shard) (λ d low. let more = up d.shard in omega (arith, low, more)) h.history h.within)
          (All-cons (λ (d : Deed). d.number ≤ other d.shard) deed [] high (All-nil (λ (d : Deed). d.number ≤ other d.shard)));
      fits = fit_append set (no_entries set) h.history (deed ∷ []) h.fits (there.of, there.rests, tt);
      records = few_append set (no_entries set) h.history (deed ∷ []) h.records (there.records, tt);
      gives = follow_append set (no_entries set) h.history (deed ∷ []) ∙ ap (λ ds. follow set ds deed) h.gives;
    }
