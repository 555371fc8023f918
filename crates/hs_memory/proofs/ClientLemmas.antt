-- Clients' entries in memory and in the fold.
use Rattle.std.proofs.Common.{◌≡◌, ℕ, ◌+◌, ◌==◌, ◌&&◌, ◌||◌, not, nat_le, nat_lt, List, [], ◌∷◌, count_by, find, length, map, Bool, true, false, cond, Option, Some, None, is_none, is_some, Result, Ok, Err, bytes_eq, is_gt, refl, sym, ap, subst, ◌∙◌, arith}
use Rattle.std.proofs.lemmas.Bool.{false≢true}
use Rattle.std.proofs.lemmas.Bool.Decides.{Decides-eqb, nat_tests}
use Rattle.std.proofs.lemmas.Map.Made.{lookup-map_values}
use Rattle.std.specs.BTreeMap.{insert_entry, is_at}
use Rattle.std.specs.List.{AllByRecursion, insert}
use Rattle.std.specs.Option.{option_map, option_map_or}
use Rattle.hs_limits.specs.declared.address.Address.{Address}
use Rattle.hs_limits.specs.declared.shape.Shape.{Shape}
use Rattle.hs_limits.specs.declared.spelling.SpellingFault.{SpellingFault}
use Rattle.hs_limits.specs.Block.{Block}
use Rattle.hs_limits.specs.Limits.{greatest_limits}
use Rattle.hs_limits.specs.Shape.{shard_of, shard_of_key}
use Rattle.hs_desk.specs.declared.what.What.TheVariants.{Again, Dropped, Marked, Nothing, Refused, Rooted, Stored}
use Rattle.hs_model.specs.Refusals.{keeps_other}
use Rattle.hs_model.specs.Store.{Root, address_cmp, is_retained, place_root, root_cmp}
use Rattle.hs_model.proofs.MapLemmas.{map-insert_entry, map-set_value}
use Rattle.hs_roots.specs.declared.root.RootRecord.{RootRecord}
use Rattle.hs_roots.specs.declared.fault.RootFault.TheVariants.{KeyTaken, RootsFull}
use Rattle.hs_roots.specs.Refusals.{put_refusal}
use Rattle.hs_roots.specs.ByKey.{count_upto, is_upto}
use Rattle.hs_roots.proofs.InsertLemmas.{count_of_map, map_insert}
use Rattle.hs_roots.specs.Roots.{Retention, dropping, insert_root as insert_record, new_root as new_record, retained_count, retained_of}
use Rattle.hs_fold.specs.Catalogue.{Shard, fresh_present}
use Rattle.hs_fold.specs.Runs.Clients as fold
use Rattle.hs_fold.specs.Runs.Facts.{Catalogue as Folded, Facts as FoldedFacts, RootFacts, plain, roots_of}
use Rattle.hs_fold.specs.Runs.Facts.{facts_at as fold_facts}
use Rattle.hs_fold.specs.Runs.Own.{IsOwn, OneRetained}
use Rattle.hs_fold.specs.Shards.Catalogue.{is_marked, retained_in, takes_root}
use Rattle.hs_fold.specs.Shards.Catalogue.{retained_count as fold_count}
use Rattle.hs_fold.specs.Shards.Opened.{both_roots}
use Rattle.hs_fold.proofs.Runs.PlainLemmas.{same_key}
use Rattle.hs_fold.proofs.Shards.RootLemmas.{both-each, find-place, find-placed, passing, passing-both, passing-is}
use Rattle.hs_memory.specs.Forget.{forget, known_of, record_of}
use Rattle.hs_memory.proofs.MapLemmas.{count_map, known, length_map}
use Rattle.hs_shard.specs.Clients.{drop_root, give, mark_block, new_facts, only, put_facts, put_root, store_block, with_block}
use Rattle.hs_shard.specs.Facts.{Catalogue, facts_in}

-- ---- roots as they are looked up

retained_record : (key : List ℕ) (rs : List RootFacts) → retained_of key (map record_of rs) ≡ option_map record_of (find (λ r. is_retained key r.root) rs)
retained_record key [] = refl
retained_record key (r ∷ rs) = go (retained_record key rs) (is_retained key r.root)
  where
    go : retained_of key (map record_of rs) ≡ option_map record_of (find (λ r. is_retained key r.root) rs) → (b : Bool)
        → cond b (Some (record_of r)) (retained_of key (map record_of rs)) ≡ option_map record_of (cond b (Some r) (find (λ r. is_retained key r.root) rs))
    go ih true = refl
    go ih false = ih

retained_root : (key : List ℕ) (rs : List RootFacts) → find (is_retained key) (roots_of rs) ≡ option_map (λ r. r.root) (find (λ r. is_retained key r.root) rs)
retained_root key [] = refl
retained_root key (r ∷ rs) = go (retained_root key rs) (is_retained key r.root)
  where
    go : find (is_retained key) (roots_of rs) ≡ option_map (λ r. r.root) (find (λ r. is_retained key r.root) rs) → (b : Bool)
        → cond b (Some r.root) (find (is_retained key) (roots_of rs)) ≡ option_map (λ r. r.root) (cond b (Some r) (find (λ r. is_retained key r.root) rs))
    go ih true = refl
    go ih false = ih

-- where one root is retained under each key, the order makes no difference
others_none : (key : List ℕ) (r : Root) (rs : List Root) → is_retained key r ≡ true → AllByRecursion (λ q. is_retained r.key q ≡ false) rs → AllByRecursion (λ q. is_retained key q ≡ false) rs
others_none key r rs e none = subst (λ k. AllByRecursion (λ q. is_retained k q ≡ false) rs) (same_key key r e).0 none

never : (key : List ℕ) (r : Root) (ys : List Root) → AllByRecursion (λ q. is_retained key q ≡ false) ys → AllByRecursion (λ y. is_retained key y ≡ true → is_gt (root_cmp r y) ≡ false) ys
never key r [] none = tt
never key r (y ∷ ys) none = ((λ e. absurd (false≢true (sym none.0 ∙ e))), never key r ys none.1)

find_placed_once : (key : List ℕ) (rs : List Root) → OneRetained rs → find (is_retained key) (both_roots rs []) ≡ find (is_retained key) rs
find_placed_once key [] once = refl
find_placed_once key (r ∷ rs) once = go (find_placed_once key rs once.1) (is_retained key r) refl
  where
    go : find (is_retained key) (both_roots rs []) ≡ find (is_retained key) rs → (b : Bool) → is_retained key r ≡ b
        → find (is_retained key) (place_root r (both_roots rs [])) ≡ cond b (Some r) (find (is_retained key) rs)
    go ih true e =
        find-placed (is_retained key) (both_roots rs []) r
        (never key r (both_roots rs []) (both-each (λ q. is_retained key q ≡ false) rs [] (others_none key r rs e (once.0 (same_key key r e).1)) tt)) e
    go ih false e = find-place (is_retained key) (both_roots rs []) r e ∙ ih

count_placed : (rs : List RootFacts) → fold_count (both_roots (roots_of rs) []) ≡ count_by (λ r. is_none r.root.dropped) rs
count_placed rs =
    passing-is (λ (r : Root). is_none r.dropped) (both_roots (roots_of rs) [])
    ∙ passing-both (λ (r : Root). is_none r.dropped) (roots_of rs) []
    ∙ more (passing (λ (r : Root). is_none r.dropped) (roots_of rs))
    ∙ sym (passing-is (λ (r : Root). is_none r.dropped) (roots_of rs))
    ∙ count_map (λ (r : Root). is_none r.dropped) (λ (r : RootFacts). r.root) rs
  where
    more : (n : ℕ) → n + 0 ≡ n
    more n = omega arith

full_or_room : (n k : ℕ) → nat_le k n ≡ not (nat_lt n k)
full_or_room n k = grind (arith, nat_tests)

inserted : (rs : List RootFacts) (r : RootFacts) → map record_of (fold.insert_root r rs) ≡ insert_record (record_of r) (map record_of rs)
inserted rs r =
    map_insert record_of rs (count_upto (λ (x : RootFacts). x.root.key) r.root.key rs) r
    ∙ ap (λ n. insert (map record_of rs) n (record_of r)) (sym (count_of_map (λ (x : RootRecord). is_upto x.key r.root.key) record_of rs))

-- ---- a retention that ends

ended_records : (key : List ℕ) (epoch : ℕ) (rs : List RootFacts) → map (dropping key epoch) (map record_of rs) ≡ map record_of (map (fold.end_retention key epoch) rs)
ended_records key epoch [] = refl
ended_records key epoch (r ∷ rs) = ap (λ x. x ∷ map (dropping key epoch) (map record_of rs)) (go (is_retained key r.root)) ∙ ap (λ rest. record_of (fold.end_retention key epoch r) ∷ rest) (ended_records key epoch rs)
  where
    go : (b : Bool) → cond b (record (record_of r) { dropped = Some epoch }) (record_of r) ≡ record_of (cond b (record r { root = record r.root { dropped = Some epoch } }) r)
    go true = refl
    go false = refl

none_ended : (key : List ℕ) (epoch : ℕ) (rs : List RootFacts) → find (λ r. is_retained key r.root) rs ≡ None → map (fold.end_retention key epoch) rs ≡ rs
none_ended key epoch [] e = refl
none_ended key epoch (r ∷ rs) e = go (none_ended key epoch rs) (is_retained key r.root) e
  where
    go : (find (λ r. is_retained key r.root) rs ≡ None → map (fold.end_retention key epoch) rs ≡ rs) → (b : Bool) → cond b (Some r) (find (λ r. is_retained key r.root) rs) ≡ None
        → cond b (record r { root = record r.root { dropped = Some epoch } }) r ∷ map (fold.end_retention key epoch) rs ≡ r ∷ rs
    go ih true e = cc e
    go ih false e = ap (λ rest. r ∷ rest) (ih e)

unplace : (P : Root → Type 0) (q : Root) (rs : List Root) → AllByRecursion P (place_root q rs) → P q × AllByRecursion P rs
unplace P q [] h = (h.0, tt)
unplace P q (r ∷ rs) h = go (is_gt (root_cmp q r)) (unplace P q rs) h
  where
    go : (b : Bool) → (AllByRecursion P (place_root q rs) → P q × AllByRecursion P rs) → AllByRecursion P (cond b (r ∷ place_root q rs) (q ∷ r ∷ rs)) → P q × AllByRecursion P (r ∷ rs)
    go true ih h = let k = ih h.1 in (k.0, (h.0, k.1))
    go false ih h = (h.0, h.1)

unboth : (P : Root → Type 0) (rs : List RootFacts) → AllByRecursion P (both_roots (roots_of rs) []) → AllByRecursion (λ r. P r.root) rs
unboth P [] h = tt
unboth P (r ∷ rs) h = let k = unplace P r.root (both_roots (roots_of rs) []) h in (k.0, unboth P rs k.1)

-- a root that is retained under a key is of the key's shard
found_mine : (shards shard : ℕ) (key : List ℕ) (rs : List RootFacts) (x : RootFacts) → AllByRecursion (λ r. shard_of_key shards r.root.key ≡ shard) rs → find (λ r. is_retained key r.root) rs ≡ Some x → shard_of_key shards key ≡ shard
found_mine shards shard key [] x mine e = cc e
found_mine shards shard key (r ∷ rs) x mine e = go (λ h. found_mine shards shard key rs x mine.1 h) (is_retained key r.root) refl e
  where
    go : (find (λ r. is_retained key r.root) rs ≡ Some x → shard_of_key shards key ≡ shard) → (b : Bool) → is_retained key r.root ≡ b → cond b (Some r) (find (λ r. is_retained key r.root) rs) ≡ Some x → shard_of_key shards key ≡ shard
    go ih true t e = ap (λ k. shard_of_key shards k) (sym (same_key key r.root t).0) ∙ mine.0
    go ih false t e = ih e

-- ---- the entries

module _ (name : List ℕ → Address) (shape : Shape) (shard : ℕ) (c : Folded) (own : IsOwn shape.shards shard c) where
  abbrev at : Shard
  at = record { name = name; shards = shape.shards; shard = shard }

  abbrev to : Folded → Catalogue
  to d = forget shape shard d

  abbrev here : Address → Option FoldedFacts
  here a = fold_facts c a

  known_at : (a : Address) → facts_in a (known c.blocks) ≡ option_map known_of (here a)
  known_at a = lookup-map_values known_of (is_at (address_cmp a)) c.blocks

  pub stored_alike : (number least : ℕ) (a : Address) (read : Result Block SpellingFault) → (store_block number least a read (to c)).catalogue ≡ to (fold.store_block at c number least a read)
  stored_alike number least a (Err fault) = refl
  stored_alike number least a (Ok block) =
      ap (λ o. (cond (not mine || is_some o) (only Nothing (to c)) (cond (not (fresh && nat_lt (length (known c.blocks)) greatest_limits.blocks)) (only Refused (to c)) (only Stored stored))).catalogue) (known_at a)
      ∙ ap (λ n. (cond (not mine || is_some (option_map known_of (here a))) (only Nothing (to c)) (cond (not (fresh && nat_lt n greatest_limits.blocks)) (only Refused (to c)) (only Stored stored))).catalogue) (length_map (λ (e : Address × FoldedFacts). (e.0, known_of e.1)) c.blocks)
      ∙ go mine (here a) fresh (nat_lt (length c.blocks) greatest_limits.blocks)
      ∙ sym (ap (λ n. to (cond (((mine && is_none (option_map (λ f. f.present) (here a))) && fresh) && nat_lt n greatest_limits.blocks) more c)) (length_map (λ (e : Address × FoldedFacts). (e.0, e.1.present)) c.blocks))
      ∙ sym (ap (λ o. to (cond (((mine && is_none o) && fresh) && nat_lt (length (plain c).blocks) greatest_limits.blocks) more c)) (lookup-map_values (λ (f : FoldedFacts). f.present) (is_at (address_cmp a)) c.blocks))
    where
      mine : Bool
      mine = shard_of shape.shards a == shard

      fresh : Bool
      fresh = nat_le c.epoch (least + 1)

      stored : Catalogue
      stored = with_block a (new_facts number c.epoch block.pointers) (to c)

      more : Folded
      more = record c { blocks = insert_entry address_cmp c.blocks a (fold.new_facts (fresh_present c.epoch number block)) }

      go : (m : Bool) (o : Option FoldedFacts) (f r : Bool)
          → (cond (not m || is_some (option_map known_of o)) (only Nothing (to c)) (cond (not (f && r)) (only Refused (to c)) (only Stored (with_block a (new_facts number c.epoch block.pointers) (to c))))).catalogue
          ≡ to (cond (((m && is_none (option_map (λ f. f.present) o)) && f) && r) (record c { blocks = insert_entry address_cmp c.blocks a (fold.new_facts (fresh_present c.epoch number block)) }) c)
      go false o f r = refl
      go true (Some x) f r = refl
      go true None false r = refl
      go true None true false = refl
      go true None true true = ap (λ bs. record (to c) { blocks = bs }) (sym (map-insert_entry known_of address_cmp c.blocks a (fold.new_facts (fresh_present c.epoch number block))))

  pub marked_alike : (least number : ℕ) (a : Address) → (mark_block least number a (to c)).catalogue ≡ to (fold.give_block c least number a)
  marked_alike least number a =
      ap (λ o. (cond (not (option_map_or (λ f. f.number == number) o false)) (only Again (to c)) (cond (not (nat_le c.epoch (least + 1))) (only Refused (to c)) (only Marked (record (to c) { blocks = put_facts a (option_map (give c.epoch) o) (known c.blocks) })))).catalogue) (known_at a)
      ∙ go (here a)
    where
      one : (x : FoldedFacts) (b f : Bool)
          → (cond (not b) (only Again (to c)) (cond (not f) (only Refused (to c)) (only Marked (record (to c) { blocks = put_facts a (Some (give c.epoch (known_of x))) (known c.blocks) })))).catalogue
          ≡ to (cond (b && f) (record c { blocks = fold.marked c.epoch (Some x) c.blocks a }) c)
      one x false f = refl
      one x true false = refl
      one x true true = ap (λ bs. record (to c) { blocks = bs }) (sym (map-set_value known_of (is_at (address_cmp a)) c.blocks (fold.remark c.epoch x)))

      go : (o : Option FoldedFacts)
          → (cond (not (option_map_or (λ f. f.number == number) (option_map known_of o) false)) (only Again (to c)) (cond (not (nat_le c.epoch (least + 1))) (only Refused (to c)) (only Marked (record (to c) { blocks = put_facts a (option_map (give c.epoch) (option_map known_of o)) (known c.blocks) })))).catalogue
          ≡ to (cond (is_marked (plain c) least number (option_map (λ f. f.present) o)) (record c { blocks = fold.marked c.epoch o c.blocks a }) c)
      go None = refl
      go (Some x) = one x (x.present.number == number) (nat_le c.epoch (least + 1))

  abbrev rooted_at : List ℕ → Option RootFacts
  rooted_at key = find (λ r. is_retained key r.root) c.roots

  fold_retained : (key : List ℕ) → retained_in (plain c) key ≡ option_map (λ r. r.root) (rooted_at key)
  fold_retained key = find_placed_once key (roots_of c.roots) own.once ∙ retained_root key c.roots

  pub dropped_alike : (key : List ℕ) → (drop_root key (to c)).catalogue ≡ to (fold.drop_key at c key)
  dropped_alike key =
      ap (λ o. (cond (is_none o) (only Refused (to c)) (only Dropped (record (to c) { roots = map (dropping key c.epoch) (map record_of c.roots) }))).catalogue) (retained_record key c.roots)
      ∙ go (rooted_at key) refl (shard_of_key shape.shards key == shard) refl
    where
      go : (o : Option RootFacts) → rooted_at key ≡ o → (m : Bool) → (shard_of_key shape.shards key == shard) ≡ m
          → (cond (is_none (option_map record_of o)) (only Refused (to c)) (only Dropped (record (to c) { roots = map (dropping key c.epoch) (map record_of c.roots) }))).catalogue
          ≡ to (cond m (record c { roots = map (fold.end_retention key c.epoch) c.roots }) c)
      go None e true t = ap (λ rs. to (record c { roots = rs })) (sym (none_ended key c.epoch c.roots e))
      go None e false t = refl
      go (Some x) e true t = ap (λ rs. record (to c) { roots = rs }) (ended_records key c.epoch c.roots)
      go (Some x) e false t =
          let is : shard_of_key shape.shards key ≡ shard = found_mine shape.shards shard key c.roots x (unboth (λ r. shard_of_key shape.shards r.key ≡ shard) c.roots own.mine.roots) e in
          absurd (false≢true (sym t ∙ (Decides-eqb (shard_of_key shape.shards key) shard).1 is))

  pub rooted_alike : (held : ℕ) (a : Address) (key : List ℕ) → (put_root held a key (to c)).catalogue ≡ to (fold.keep_root at c held a key)
  rooted_alike held a key =
      ap (λ o. (cond (not mine) (only Nothing (to c)) (cond (not fresh || is_some (put_refusal set a o)) (only Refused (to c)) (only Rooted (record (to c) { roots = cond (is_some o) records (insert_record (new_record key a c.epoch) records) })))).catalogue) (retained_record key c.roots)
      ∙ go mine fresh (rooted_at key) (nat_lt count greatest_limits.roots) refl
      ∙ sym (ap (λ o. to (cond ((((mine && fresh) && not (keeps_other o a)) && takes_root (plain c).roots o) && is_none o) more c)) (fold_retained key))
    where
      mine : Bool
      mine = shard_of_key shape.shards key == shard

      fresh : Bool
      fresh = nat_le c.epoch (held + 1)

      records : List RootRecord
      records = map record_of c.roots

      set : Retention
      set = record { roots = map record_of c.roots; limit = greatest_limits.roots }

      count : ℕ
      count = count_by (λ r. is_none r.root.dropped) c.roots

      more : Folded
      more = record c { roots = fold.insert_root (fold.new_root c.epoch a key) c.roots }

      go : (m f : Bool) (o : Option RootFacts) (b : Bool) → nat_lt (count_by (λ r. is_none r.root.dropped) c.roots) greatest_limits.roots ≡ b
          → (cond (not m) (only Nothing (to c)) (cond (not f || is_some (put_refusal (record { roots = map record_of c.roots; limit = greatest_limits.roots }) a (option_map record_of o))) (only Refused (to c))
          (only Rooted (record (to c) { roots = cond (is_some (option_map record_of o)) (map record_of c.roots) (insert_record (new_record key a c.epoch) (map record_of c.roots)) })))).catalogue
          ≡ to (cond ((((m && f) && not (keeps_other (option_map (λ r. r.root) o) a)) && takes_root (plain c).roots (option_map (λ r. r.root) o)) && is_none (option_map (λ r. r.root) o)) (record c { roots = fold.insert_root (fold.new_root c.epoch a key) c.roots }) c)
      go false f o b e = refl
      go true false o b e = refl
      go true true (Some x) b e = taken (bytes_eq x.root.address.0 a.0)
        where
          taken : (k : Bool)
              → (cond (is_some (cond (not k) (Some (KeyTaken)) None)) (only Refused (to c)) (only Rooted (to c))).catalogue
              ≡ to (cond (((true && not (not k)) && true) && false) (record c { roots = fold.insert_root (fold.new_root c.epoch a key) c.roots }) c)
          taken true = refl
          taken false = refl
      go true true None b e =
          ap (λ full. (cond (is_some (cond full (Some (RootsFull greatest_limits.roots)) None)) (only Refused (to c)) (only Rooted (record (to c) { roots = insert_record (new_record key a c.epoch) (map record_of c.roots) }))).catalogue) (full ∙ ap not e)
          ∙ room b
          ∙ sym (ap (λ r. to (cond (r && true) (record c { roots = fold.insert_root (fold.new_root c.epoch a key) c.roots }) c)) (ap (λ n. nat_lt n greatest_limits.roots) (count_placed c.roots) ∙ e))
        where
          full : nat_le greatest_limits.roots (retained_count (map record_of c.roots)) ≡ not (nat_lt (count_by (λ r. is_none r.root.dropped) c.roots) greatest_limits.roots)
          full = ap (λ n. nat_le greatest_limits.roots n) (count_map (λ (r : RootRecord). is_none r.dropped) record_of c.roots) ∙ full_or_room (count_by (λ r. is_none r.root.dropped) c.roots) greatest_limits.roots

          room : (b : Bool) → (cond (is_some (cond (not b) (Some (RootsFull greatest_limits.roots)) None)) (only Refused (to c)) (only Rooted (record (to c) { roots = insert_record (new_record key a c.epoch) (map record_of c.roots) }))).catalogue
              ≡ to (cond (b && true) (record c { roots = fold.insert_root (fold.new_root c.epoch a key) c.roots }) c)
          room true = ap (λ rs. record (to c) { roots = rs }) (sym (inserted c.roots (fold.new_root c.epoch a key)))
          room false = refl
