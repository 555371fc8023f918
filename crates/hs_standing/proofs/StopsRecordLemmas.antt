-- How many root records entries may add, and whose lines they are.
use Rattle.std.proofs.Common.{◌≡◌, ◌≢◌, ℕ, zero, suc, ◌+◌, ◌<◌, ◌≤◌, ◌==◌, ◌&&◌, Bool, true, false, cond, not, is_none, List, [], ◌∷◌, ◌++◌, length, map, take, drop, filter, inl, inr, Option, Some, None, Result, Ok, Err, refl, sym, ap, ◌∙◌, subst, arith}
use Rattle.std.proofs.lemmas.List.{take-append-drop, take-append-le, drop-append-le, length-map}
use Rattle.std.specs.BTreeMap.{insert_entry}
use Rattle.std.specs.Option.{option_map}
use Rattle.std.specs.Prelude.{AllPairs}
use Rattle.hs_limits.specs.declared.address.Address.{Address}
use Rattle.hs_limits.specs.declared.spelling.SpellingFault.{SpellingFault}
use Rattle.hs_limits.specs.Block.{Block}
use Rattle.hs_limits.specs.Reading.{read_block}
use Rattle.hs_limits.specs.Shape.{shard_of_key}
use Rattle.hs_entry.specs.declared.entry.Entry.{Entry}
use Rattle.hs_entry.specs.declared.entry.Entry.TheVariants as kind
use Rattle.hs_rounds.specs.declared.body.RoundBody.{RoundBody}
use Rattle.hs_rounds.specs.declared.place.Place.{Place}
use Rattle.hs_fold.proofs.Runs.InsertLemmas.{length-insert_root}
use Rattle.hs_fold.specs.Catalogue.{Shard, fresh_present}
use Rattle.hs_fold.specs.Pending.{asked_by}
use Rattle.hs_fold.specs.Prefix.{IsNumbered}
use Rattle.hs_fold.specs.Shards.Catalogue.{is_marked, is_rooted, is_stored, retained_in}
use Rattle.hs_fold.specs.Shards.Happening.{Happening}
use Rattle.hs_fold.specs.Shards.Pending.{changing_lines, with_line}
use Rattle.hs_fold.specs.Shards.Setting.{Numbered, Setting, shard_in}
use Rattle.hs_fold.specs.Shards.Sound.{most_records}
use Rattle.hs_fold.specs.Shards.Fits.{puts_root}
use Rattle.hs_model.specs.Store.{address_cmp}
use Rattle.hs_fold.specs.Runs.Catalogue.{apply, apply_all, catalogue_of}
use Rattle.hs_fold.specs.Runs.Clients.{drop_key, end_retention, give_block, keep_root, marked, new_facts, insert_root, new_root, store_block}
use Rattle.hs_fold.specs.Runs.Facts.{Catalogue, empty_catalogue, facts_at, plain}
use Rattle.hs_fold.specs.Runs.Happening.{happening_of, happens}
use Rattle.hs_fold.specs.Runs.Rounds.{advance, advanced, count_root, end_round, enter, enter_epoch, get_round, is_accepted, is_complete, is_last, is_released, log_got, may_enter, search, settled, sweep}
use Rattle.hs_fold.proofs.Shards.LawfulLemmas.{pairs-from, pairs-to}
use Rattle.hs_standing.specs.Left.{EachLineOnce, HasFewRecords}
use Rattle.hs_standing.specs.Lists.{Lists, waiting, whole_from}
use Rattle.hs_fold.specs.Shards.Outstanding.{pending, pending_of}
use Rattle.hs_standing.specs.Start.{Start}
use Rattle.hs_standing.specs.Suffices.{all_asked, asked_lines, roots_in, with_asked}
use Rattle.hs_standing.proofs.PartLemmas.{lines_append, one_pending}
use Rattle.hs_standing.proofs.ThinLemmas.{Thins, thins_append, thins_pairs}
use Rattle.hs_standing.proofs.StopsWalkLemmas.{apply_append}

-- ---- one entry adds at most one record, and only a Root does

filter_low : {X : Type 0} (p : X → Bool) (xs : List X) → length (filter p xs) ≤ length xs
filter_low p [] = omega arith
filter_low p (x ∷ xs) = go (p x) (filter_low p xs)
  where
    go : (b : Bool) → length (filter p xs) ≤ length xs → length (cond b (x ∷ filter p xs) (filter p xs)) ≤ length (x ∷ xs)
    go true h = omega (arith, h)
    go false h = omega (arith, h)

same_if : (b : Bool) (c d : Catalogue) → length d.roots ≤ length c.roots → length (cond b d c).roots ≤ length c.roots
same_if true c d h = h
same_if false c d h = omega arith

one_if : (b : Bool) (c d : Catalogue) → length d.roots ≤ length c.roots + 1 → length (cond b d c).roots ≤ length c.roots + 1
one_if true c d h = h
one_if false c d h = omega arith

store_roots : (at : Shard) (c : Catalogue) (number least : ℕ) (a : Address) (read : Result Block SpellingFault) → length (store_block at c number least a read).roots ≤ length c.roots
store_roots at c number least a (Err fault) = omega arith
store_roots at c number least a (Ok block) = same_if (is_stored at (plain c) least a) c (record c { blocks = insert_entry address_cmp c.blocks a (new_facts (fresh_present c.epoch number block)) }) (omega arith)

give_roots : (c : Catalogue) (least number : ℕ) (a : Address) → length (give_block c least number a).roots ≤ length c.roots
give_roots c least number a = same_if (is_marked (plain c) least number (option_map (λ f. f.present) (facts_at c a))) c (record c { blocks = marked c.epoch (facts_at c a) c.blocks a }) (omega arith)

keep_roots : (at : Shard) (c : Catalogue) (held : ℕ) (a : Address) (key : List ℕ) → length (keep_root at c held a key).roots ≤ length c.roots + 1
keep_roots at c held a key =
    let more = length-insert_root c.roots (new_root c.epoch a key) in
    one_if (is_rooted at (plain c) held a key && is_none (retained_in (plain c) key)) c (record c { roots = insert_root (new_root c.epoch a key) c.roots }) (omega (arith, more))

drop_roots : (at : Shard) (c : Catalogue) (key : List ℕ) → length (drop_key at c key).roots ≤ length c.roots
drop_roots at c key =
    let same = length-map c.roots (end_retention key c.epoch) in
    same_if (shard_of_key at.shards key == at.shard) c (record c { roots = map (end_retention key c.epoch) c.roots }) (omega (arith, same))

end_roots : (shards : ℕ) (c : Catalogue) → length (end_round shards c).roots ≤ length c.roots
end_roots shards c = go (is_last shards c)
  where
    go : (b : Bool) → length (cond b (sweep (settled shards c)) (search shards (settled shards c))).roots ≤ length c.roots
    go true = omega arith
    go false = filter_low (λ r. not (is_released (settled shards c) r)) c.roots

advance_roots : (shards turns : ℕ) (c : Catalogue) → length (advance shards turns c).roots ≤ length c.roots
advance_roots shards zero c = omega arith
advance_roots shards (suc turns) c =
    same_if (is_complete shards c) c (advance shards turns (end_round shards c))
    (let one = end_roots shards c in let rest = advance_roots shards turns (end_round shards c) in omega (arith, one, rest))

enter_roots : (shards epoch : ℕ) (c : Catalogue) → length (enter shards epoch c).roots ≤ length c.roots
enter_roots shards epoch c =
    let same = length-map c.roots (count_root (c.epoch + 1)) in
    let rest = advance_roots shards (length (enter_epoch shards c).got + 1) (enter_epoch shards c) in
    same_if (may_enter c epoch) c (advanced shards (enter_epoch shards c)) (omega (arith, same, rest))

got_roots : (shards : ℕ) (place : Place) (told : RoundBody) (c : Catalogue) → length (get_round shards place told c).roots ≤ length c.roots
got_roots shards place told c = same_if (is_accepted shards c place) c (advanced shards (log_got place told c)) (advance_roots shards (length (log_got place told c).got + 1) (log_got place told c))

abbrev added : Entry → ℕ
added entry = cond (puts_root entry) 1 0

none_more : (a b : ℕ) → a ≤ b → a ≤ b + 0
none_more a b h = omega (arith, h)

apply_roots : (at : Shard) (c : Catalogue) (number : ℕ) (entry : Entry) → length (apply at c (number, entry)).roots ≤ length c.roots + added entry
apply_roots at c number (kind.View view) = omega arith
apply_roots at c number (kind.Block op least bytes) = none_more (length (store_block at c number least (at.name bytes) (read_block bytes)).roots) (length c.roots) (store_roots at c number least (at.name bytes) (read_block bytes))
apply_roots at c number (kind.Mark op least block address) = none_more (length (give_block c least block address).roots) (length c.roots) (give_roots c least block address)
apply_roots at c number (kind.Root op held address key) = keep_roots at c held address key
apply_roots at c number (kind.Drop op key) = none_more (length (drop_key at c key).roots) (length c.roots) (drop_roots at c key)
apply_roots at c number (kind.Enter op epoch) = none_more (length (enter at.shards epoch c).roots) (length c.roots) (enter_roots at.shards epoch c)
apply_roots at c number (kind.Got sender epoch round total deltas) =
    let place : Place = record { epoch = epoch; round = round; from = sender } in
    let told : RoundBody = record { total = total; deltas = deltas } in
    none_more (length (get_round at.shards place told c).roots) (length c.roots) (got_roots at.shards place told c)
apply_roots at c number (kind.Base view epoch swept round frames) = omega arith
apply_roots at c number (kind.KeptBlock born mark flags count bytes) = omega arith
apply_roots at c number (kind.KeptRoot created dropped counted address key) = omega arith
apply_roots at c number (kind.KeptRound way other epoch round total deltas) = omega arith

all_roots : (at : Shard) (c : Catalogue) (es : Numbered) → length (apply_all at c es).roots ≤ length c.roots + roots_in es
all_roots at c [] = omega arith
all_roots at c (e ∷ es) =
    let one = apply_roots at c e.0 e.1 in
    let rest = all_roots at (apply at c e) es in
    omega (arith, one, rest)

roots_front : (es more : Numbered) → roots_in es ≤ roots_in (es ++ more)
roots_front [] more = omega arith
roots_front (e ∷ es) more = let rest = roots_front es more in omega (arith, rest)

pub few_wait : (set : Setting) (lists : Lists) (shard : ℕ) → length (catalogue_of (shard_in set shard) (take (lists.front shard) (lists.whole shard))).roots + roots_in (waiting lists shard) ≤ most_records → HasFewRecords set lists shard
few_wait set lists shard few list prefix low =
    let at : Shard = shard_in set shard in
    let n : ℕ = lists.front shard in
    let same : take n list ≡ take n (lists.whole shard) = sym (ap (λ es. take n es) prefix.1 ∙ take-append-le n list prefix.0 low) in
    let back : waiting lists shard ≡ drop n list ++ prefix.0 = ap (λ es. drop n es) prefix.1 ∙ drop-append-le n list prefix.0 low in
    let parts : catalogue_of at list ≡ apply_all at (catalogue_of at (take n list)) (drop n list) = ap (λ es. catalogue_of at es) (sym (take-append-drop n list)) ∙ apply_append at empty_catalogue (take n list) (drop n list) in
    let some = all_roots at (catalogue_of at (take n list)) (drop n list) in
    let count = ap (λ es. length (catalogue_of at es).roots) same in
    let rest = roots_front (drop n list) prefix.0 in
    let all = ap (λ es. roots_in es) back in
    let here = ap (λ (c : Catalogue). length c.roots) parts in
    omega (arith, few, some, count, rest, all, here)

-- ---- lines

lines_of : (at : Shard) (c : Catalogue) (es : Numbered) → Thins (changing_lines (happens at c es)) (asked_lines es)
lines_of at c [] = refl
lines_of at c (e ∷ es) = go (asked_by e.1) (happening_of at c e.1) (lines_of at (apply at c e) es)
  where
    go : (asked : Option ℕ) (one : Option Happening) → Thins (changing_lines (happens at (apply at c e) es)) (asked_lines es) → Thins (with_line asked one (changing_lines (happens at (apply at c e) es))) (with_asked asked (asked_lines es))
    go None one t = t
    go (Some line) None t = inl t
    go (Some line) (Some one) t = inr (changing_lines (happens at (apply at c e) es), refl, t)

all_lines : (set : Setting) (lists : Lists) (k n : ℕ) → ((j : ℕ) → j < k + n → IsNumbered (lists.whole j) × (lists.front j ≤ length (lists.whole j)))
    → Thins (changing_lines (pending set lists.front k (whole_from lists k n))) (all_asked lists k n)
all_lines set lists k zero h = refl
all_lines set lists k (suc n) h =
    let at : Shard = shard_in set k in
    let m = h k (omega arith) in
    let c : Catalogue = catalogue_of at (take (lists.front k) (lists.whole k)) in
    let rest = all_lines set lists (k + 1) n (λ j low. h j (omega (arith, low))) in
    let more : List ℕ = changing_lines (pending set lists.front (k + 1) (whole_from lists (k + 1) n)) in
    subst (λ xs. Thins xs (all_asked lists k (suc n)))
    (sym (lines_append (pending_of at (lists.front k) (lists.whole k)) (pending set lists.front (k + 1) (whole_from lists (k + 1) n)) ∙ ap (λ es. changing_lines es ++ more) (one_pending at (lists.front k) (lists.whole k) m.0 m.1)))
    (thins_append (changing_lines (happens at c (waiting lists k))) (asked_lines (waiting lists k)) more (all_asked lists (k + 1) n) (lines_of at c (waiting lists k)) rest)

pub lines_once : (start : Start) (lists : Lists) → ((shard : ℕ) → shard < start.set.shape.shards → IsNumbered (lists.whole shard) × (lists.front shard ≤ length (lists.whole shard)))
    → AllPairs (λ (one other : ℕ). one ≢ other) (all_asked lists 0 start.set.shape.shards) → EachLineOnce start lists
lines_once start lists h differ =
    pairs-to Other (changing_lines (pending start.set lists.front 0 (whole_from lists 0 start.set.shape.shards)))
    (thins_pairs Other (changing_lines (pending start.set lists.front 0 (whole_from lists 0 start.set.shape.shards))) (all_asked lists 0 start.set.shape.shards)
    (all_lines start.set lists 0 start.set.shape.shards (λ j low. h j (omega (arith, low)))) (pairs-from Other (all_asked lists 0 start.set.shape.shards) differ))
  where
    Other : ℕ → ℕ → Type 0
    Other one other = one ≢ other
