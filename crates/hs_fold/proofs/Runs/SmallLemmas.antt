-- Counts stay within 32 bits.
use Rattle.std.proofs.Common.{◌≡◌, inl, inr, ℕ, zero, suc, ◌+◌, ◌-◌, ◌^◌, ◌<◌, ◌==◌, ◌&&◌, Bool, true, false, cond, not, List, [], ◌∷◌, length, map, filter, Option, Some, None, is_none, Result, Ok, Err, nat_le, nat_lt, refl, sym, ap, ◌∙◌, arith}
use Rattle.std.proofs.lemmas.Bool.Decides.{nat_tests}
use Rattle.std.specs.BTreeMap.{insert_entry, is_at}
use Rattle.std.specs.List.{AllByRecursion}
use Rattle.std.specs.Map.{set_value}
use Rattle.std.specs.Option.{option_map}
use Rattle.hs_limits.specs.declared.address.Address.{Address}
use Rattle.hs_limits.specs.declared.delta.Delta.{Delta}
use Rattle.hs_limits.specs.declared.spelling.SpellingFault.{SpellingFault}
use Rattle.hs_limits.specs.Block.{Block}
use Rattle.hs_limits.specs.Reading.{read_block}
use Rattle.hs_limits.specs.Shape.{shard_of_key}
use Rattle.hs_model.specs.Reach.{is_same}
use Rattle.hs_model.specs.Store.{address_cmp}
use Rattle.hs_model.proofs.Members.{Member, member_of_map, member_of_filter}
use Rattle.hs_laws.proofs.InsertLemmas.{insert-value, set-value, entry_from_lookup}
use Rattle.hs_entry.specs.declared.entry.Entry.{Entry}
use Rattle.hs_entry.specs.declared.entry.Entry.TheVariants as kind
use Rattle.hs_fold.specs.Catalogue.{Shard, fresh_present}
use Rattle.hs_fold.specs.Shards.Catalogue.{is_stored, is_marked, is_rooted, retained_in}
use Rattle.hs_fold.specs.Shards.Setting.{Numbered}
use Rattle.hs_fold.specs.Runs.Catalogue.{apply, apply_all, catalogue_of}
use Rattle.hs_fold.specs.Runs.Clients.{new_facts, store_block, remark, marked, give_block, insert_root, new_root, keep_root, end_retention, drop_key}
use Rattle.hs_fold.specs.Runs.Facts.{Facts, Catalogue, empty_catalogue, facts_at, plain}
use Rattle.hs_rounds.specs.declared.body.RoundBody.{RoundBody}
use Rattle.hs_rounds.specs.declared.place.Place.{Place}
use Rattle.hs_fold.specs.Runs.Rounds.{is_new, count_block, may_enter, enter_epoch, enter, moved, moved_by, open_deltas, settled, is_new_zero, find_zero, search, is_gone, spare, sweep, is_last, is_complete, end_round, advance, advanced, is_accepted, log_got, get_round}

abbrev pub Small : ℕ → Type 0
Small count = count < 2 ^ 32

abbrev pub AllSmall : List (Address × Facts) → Type 0
AllSmall es = (e : Address × Facts) → Member e es → Small e.1.count

-- ---- lists

each-small : (f : Facts → Facts) → ((x : Facts) → (f x).count ≡ x.count) → (es : List (Address × Facts)) → AllSmall es → AllSmall (map {B = Address × Facts} (λ (e : Address × Facts). (e.0, f e.1)) es)
each-small f same es h e m =
    let old = member_of_map {Y = Address × Facts} (λ (x : Address × Facts). (x.0, f x.1)) e es m in
    let is : e.1.count ≡ old.0.1.count = ap (λ (x : Address × Facts). x.1.count) old.2 ∙ same old.0.1 in
    let small = h old.0 old.1 in
    omega (arith, is, small)

left-small : (test : Address × Facts → Bool) (es : List (Address × Facts)) → AllSmall es → AllSmall (filter test es)
left-small test es h e m = h e (member_of_filter test e es m).0

-- ---- clients' entries

store-small : (at : Shard) (c : Catalogue) (number least : ℕ) (a : Address) (read : Result Block SpellingFault) → AllSmall c.blocks → AllSmall (store_block at c number least a read).blocks
store-small at c number least a (Err fault) h = h
store-small at c number least a (Ok block) h = go (is_stored at (plain c) least a)
  where
    new : Facts
    new = new_facts (fresh_present c.epoch number block)

    go : (b : Bool) → AllSmall (cond b (record c { blocks = insert_entry address_cmp c.blocks a new }) c).blocks
    go false e m = h e m
    go true e m = elim (insert-value address_cmp c.blocks a new e m) [
      | inl is ↦ (let same : e.1.count ≡ 0 = ap (λ (x : Facts). x.count) is in omega (arith, same))
      | inr old ↦ h e old
    ]

give-small : (c : Catalogue) (least number : ℕ) (a : Address) → AllSmall c.blocks → AllSmall (give_block c least number a).blocks
give-small c least number a h = go (facts_at c a) refl (is_marked (plain c) least number (option_map (λ f. f.present) (facts_at c a)))
  where
    given : (f : Facts) → facts_at c a ≡ Some f → AllSmall (set_value (is_at (address_cmp a)) c.blocks (remark c.epoch f))
    given f found e m = elim (set-value (is_at (address_cmp a)) c.blocks (remark c.epoch f) e m) [
      | inl is ↦
          let old = entry_from_lookup (is_at (address_cmp a)) c.blocks f found in
          let same : e.1.count ≡ old.0.1.count = ap (λ (x : Facts). x.count) is ∙ ap (λ (x : Facts). x.count) (sym old.2) in
          let small = h old.0 old.1 in
          omega (arith, same, small)
      | inr old ↦ h e old
    ]

    go : (found : Option Facts) → facts_at c a ≡ found → (b : Bool) → AllSmall (cond b (record c { blocks = marked c.epoch found c.blocks a }) c).blocks
    go found e false = h
    go None e true = h
    go (Some f) e true = given f e

root-small : (at : Shard) (c : Catalogue) (held : ℕ) (a : Address) (key : List ℕ) → AllSmall c.blocks → AllSmall (keep_root at c held a key).blocks
root-small at c held a key h = go (is_rooted at (plain c) held a key && is_none (retained_in (plain c) key))
  where
    go : (b : Bool) → AllSmall (cond b (record c { roots = insert_root (new_root c.epoch a key) c.roots }) c).blocks
    go true = h
    go false = h

drop-small : (at : Shard) (c : Catalogue) (key : List ℕ) → AllSmall c.blocks → AllSmall (drop_key at c key).blocks
drop-small at c key h = go (shard_of_key at.shards key == at.shard)
  where
    go : (b : Bool) → AllSmall (cond b (record c { roots = map (end_retention key c.epoch) c.roots }) c).blocks
    go true = h
    go false = h

-- ---- rounds

moved-small : (round count amount : ℕ) → Small count → Small (moved round count amount)
moved-small round count amount h = go (round == 0) (nat_lt (count + amount) (2 ^ 32)) refl (nat_le amount count)
  where
    go : (a b : Bool) → nat_lt (count + amount) (2 ^ 32) ≡ b → (d : Bool) → Small (cond a (cond b (count + amount) count) (cond d (count - amount) count))
    go true true e d = grind (arith, nat_tests, e)
    go true false e d = h
    go false b e true = omega (arith, h)
    go false b e false = h

moved_by-small : (round : ℕ) (a : Address) (ds : List Delta) (count : ℕ) → Small count → Small (moved_by round a ds count)
moved_by-small round a [] count h = h
moved_by-small round a (d ∷ ds) count h = moved_by-small round a ds (cond (is_same d.address a) (moved round count d.amount) count) (go (is_same d.address a))
  where
    go : (b : Bool) → Small (cond b (moved round count d.amount) count)
    go true = moved-small round count d.amount h
    go false = h

settled-small : (n : ℕ) (c : Catalogue) → AllSmall c.blocks → AllSmall (settled n c).blocks
settled-small n c h e m =
    let old = member_of_map {Y = Address × Facts} (λ (x : Address × Facts). (x.0, record x.1 { count = moved_by c.round x.0 (open_deltas n c) x.1.count })) e c.blocks m in
    let is : e.1.count ≡ moved_by c.round old.0.0 (open_deltas n c) old.0.1.count = ap (λ (x : Address × Facts). x.1.count) old.2 in
    let small = moved_by-small c.round old.0.0 (open_deltas n c) old.0.1.count (h old.0 old.1) in
    omega (arith, is, small)

zero-count : (epoch : ℕ) (f : Facts) → (find_zero epoch f).count ≡ f.count
zero-count epoch f = go (is_new_zero epoch f)
  where
    go : (b : Bool) → (cond b (record f { zero = true }) f).count ≡ f.count
    go true = refl
    go false = refl

spare-count : (f : Facts) → (spare f).count ≡ f.count
spare-count f = go f.zero
  where
    go : (b : Bool) → (cond b (record f { counted = false; zero = false }) f).count ≡ f.count
    go true = refl
    go false = refl

counted-count : (epoch : ℕ) (f : Facts) → (count_block epoch f).count ≡ f.count
counted-count epoch f = go (is_new epoch f)
  where
    go : (b : Bool) → (cond b (record f { counted = true }) f).count ≡ f.count
    go true = refl
    go false = refl

end-small : (n : ℕ) (c : Catalogue) → AllSmall c.blocks → AllSmall (end_round n c).blocks
end-small n c h = go (is_last n c)
  where
    low : AllSmall (settled n c).blocks
    low = settled-small n c h

    go : (b : Bool) → AllSmall (cond b (sweep (settled n c)) (search n (settled n c))).blocks
    go true = each-small spare spare-count (filter (λ e. not (is_gone c.epoch e.1)) (settled n c).blocks) (left-small (λ e. not (is_gone c.epoch e.1)) (settled n c).blocks low)
    go false = each-small (find_zero c.epoch) (zero-count c.epoch) (settled n c).blocks low

advance-small : (n turns : ℕ) (c : Catalogue) → AllSmall c.blocks → AllSmall (advance n turns c).blocks
advance-small n zero c h = h
advance-small n (suc turns) c h = go (is_complete n c) (advance-small n turns (end_round n c) (end-small n c h))
  where
    go : (b : Bool) → AllSmall (advance n turns (end_round n c)).blocks → AllSmall (cond b (advance n turns (end_round n c)) c).blocks
    go true k = k
    go false k = h

got-small : (n : ℕ) (place : Place) (told : RoundBody) (c : Catalogue) → AllSmall c.blocks → AllSmall (get_round n place told c).blocks
got-small n place told c h = go (is_accepted n c place)
  where
    go : (b : Bool) → AllSmall (cond b (advanced n (log_got place told c)) c).blocks
    go true = advance-small n (length (log_got place told c).got + 1) (log_got place told c) h
    go false = h

enter-small : (n epoch : ℕ) (c : Catalogue) → AllSmall c.blocks → AllSmall (enter n epoch c).blocks
enter-small n epoch c h = go (may_enter c epoch)
  where
    go : (b : Bool) → AllSmall (cond b (advanced n (enter_epoch n c)) c).blocks
    go true = advance-small n (length (enter_epoch n c).got + 1) (enter_epoch n c) (each-small (count_block (c.epoch + 1)) (counted-count (c.epoch + 1)) c.blocks h)
    go false = h

-- ---- any entry

pub apply-small : (at : Shard) (c : Catalogue) (number : ℕ) (entry : Entry) → AllSmall c.blocks → AllSmall (apply at c (number, entry)).blocks
apply-small at c number (kind.View view) h = h
apply-small at c number (kind.Block op least bytes) h = store-small at c number least (at.name bytes) (read_block bytes) h
apply-small at c number (kind.Mark op least block a) h = give-small c least block a h
apply-small at c number (kind.Root op held a key) h = root-small at c held a key h
apply-small at c number (kind.Drop op key) h = drop-small at c key h
apply-small at c number (kind.Enter op epoch) h = enter-small at.shards epoch c h
apply-small at c number (kind.Got sender epoch round total deltas) h = got-small at.shards (record { epoch = epoch; round = round; from = sender }) (record { total = total; deltas = deltas }) c h
apply-small at c number (kind.Base view epoch swept round frames) h = h
apply-small at c number (kind.KeptBlock born mark flags count bytes) h = h
apply-small at c number (kind.KeptRoot created dropped counted address key) h = h
apply-small at c number (kind.KeptRound way other epoch round total deltas) h = h

all-small : (at : Shard) (c : Catalogue) (es : Numbered) → AllSmall c.blocks → AllSmall (apply_all at c es).blocks
all-small at c [] h = h
all-small at c (e ∷ es) h = all-small at (apply at c e) es (apply-small at c e.0 e.1 h)

pub list-small : (at : Shard) (list : Numbered) → AllSmall (catalogue_of at list).blocks
list-small at list = all-small at empty_catalogue list (λ e m. elim m [ ])

pub by-each : (P : Address × Facts → Type 0) (es : List (Address × Facts)) → ((e : Address × Facts) → Member e es → P e) → AllByRecursion P es
by-each P [] f = tt
by-each P (e ∷ es) f = (f e (inl refl), by-each P es (λ x m. f x (inr m)))
