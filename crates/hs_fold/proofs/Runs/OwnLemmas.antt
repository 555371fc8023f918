-- A catalogue keeps only what is of its shard, in order, and retains no key twice.
use Rattle.std.proofs.Common.{◌≡◌, ℕ, ◌+◌, ◌==◌, ◌&&◌, List, [], ◌∷◌, length, map, filter, Bool, true, false, cond, not, Option, Some, None, is_none, refl, sym, ap, ◌∙◌, subst, find, is_gt, bytes_eq, zero, suc, Result, Ok, Err}
use Rattle.std.proofs.lemmas.Slice.Eq.{bytes_eq-Decides}
use Rattle.std.specs.List.{AllByRecursion, insert}
use Rattle.std.specs.List.Sorted.{IsStrictlySortedBy}
use Rattle.std.specs.Map.{keys_of}
use Rattle.hs_limits.specs.declared.address.Address.{Address}
use Rattle.std.specs.BTreeMap.{insert_entry}
use Rattle.std.specs.Option.{option_map}
use Rattle.hs_limits.specs.Block.{Block}
use Rattle.hs_limits.specs.declared.spelling.SpellingFault.{SpellingFault}
use Rattle.hs_limits.specs.Shape.{shard_of, shard_of_key}
use Rattle.hs_model.specs.Store.{Root, address_cmp, root_cmp, is_retained, place_root}
use Rattle.hs_laws.proofs.OrderLemmas.{filter-sorted}
use Rattle.hs_entry.specs.declared.entry.Entry.{Entry}
use Rattle.hs_entry.specs.declared.entry.Entry.TheVariants as kind
use Rattle.hs_limits.specs.Reading.{read_block}
use Rattle.hs_roots.specs.ByKey.{count_upto}
use Rattle.hs_roots.proofs.InsertLemmas.{all_insert, map_insert}
use Rattle.hs_fold.proofs.Shards.MineLemmas.{apply-mine, empty-mine, to-rising}
use Rattle.hs_fold.proofs.Shards.RootLemmas.{both-rising, both-each}
use Rattle.hs_fold.proofs.Runs.PlainLemmas.{apply-plain, same_key}
use Rattle.hs_fold.proofs.Runs.StepLemmas.{counted-present, counted-root, same-each, same-kept, spared-present, zero-present}
use Rattle.hs_fold.specs.Catalogue.{Present, Shard, fresh_present}
use Rattle.hs_fold.specs.Runs.Catalogue.{apply, apply_all}
use Rattle.hs_fold.specs.Runs.Opened.{catalogues}
use Rattle.hs_fold.specs.Shards.Setting.{Numbered, Setting, shard_in}
use Rattle.hs_fold.specs.Runs.Clients.{keep_root, drop_key, new_facts, marked, store_block, give_block, end_retention, insert_root, new_root}
use Rattle.hs_fold.specs.Runs.Facts.{roots_of, Facts, RootFacts, Catalogue, empty_catalogue, plain, facts_at}
use Rattle.hs_fold.specs.Runs.Happening.{IsClients}
use Rattle.hs_fold.specs.Runs.Own.{OneRetained, IsOwn, AreOwn}
use Rattle.hs_rounds.specs.declared.body.RoundBody.{RoundBody}
use Rattle.hs_rounds.specs.declared.place.Place.{Place}
use Rattle.hs_fold.specs.Runs.Rounds.{enter_epoch, count_block, count_root, search, find_zero, is_released, sweep, spare, is_gone, moved_by, open_deltas, settled, is_last, is_complete, end_round, advance, advanced, is_accepted, log_got, get_round, may_enter, enter}
use Rattle.hs_fold.specs.Shards.Catalogue.{is_rooted, retained_in, is_stored, is_marked}
use Rattle.hs_fold.specs.Shards.Mine.{IsMine, IsRising}
use Rattle.hs_fold.specs.Shards.Opened.{both_roots}

-- ---- no key twice

keep-one : (test : RootFacts → Bool) (P : Root → Type 0) (ks : List RootFacts) → AllByRecursion P (roots_of ks) → AllByRecursion P (roots_of (filter test ks))
keep-one test P [] h = tt
keep-one test P (k ∷ ks) h = go (test k) (keep-one test P ks h.1)
  where
    go : (b : Bool) → AllByRecursion P (roots_of (filter test ks)) → AllByRecursion P (roots_of (cond b (k ∷ filter test ks) (filter test ks)))
    go true ih = (h.0, ih)
    go false ih = ih

filter-once : (test : RootFacts → Bool) (ks : List RootFacts) → OneRetained (roots_of ks) → OneRetained (roots_of (filter test ks))
filter-once test [] h = tt
filter-once test (k ∷ ks) h = go (test k) (filter-once test ks h.1)
  where
    go : (b : Bool) → OneRetained (roots_of (filter test ks)) → OneRetained (roots_of (cond b (k ∷ filter test ks) (filter test ks)))
    go true ih = ((λ u. keep-one test (λ q. is_retained k.root.key q ≡ false) ks (h.0 u)), ih)
    go false ih = ih

ended-stays : (key other : List ℕ) (epoch : ℕ) (ks : List RootFacts) → AllByRecursion (λ q. is_retained other q ≡ false) (roots_of ks) → AllByRecursion (λ q. is_retained other q ≡ false) (roots_of (map (end_retention key epoch) ks))
ended-stays key other epoch [] h = tt
ended-stays key other epoch (k ∷ ks) h = (go (is_retained key k.root), ended-stays key other epoch ks h.1)
  where
    go : (b : Bool) → is_retained other (cond b (record k { root = record k.root { dropped = Some epoch } }) k).root ≡ false
    go true = refl
    go false = h.0

ended-once : (key : List ℕ) (epoch : ℕ) (ks : List RootFacts) → OneRetained (roots_of ks) → OneRetained (roots_of (map (end_retention key epoch) ks))
ended-once key epoch [] h = tt
ended-once key epoch (k ∷ ks) h = (go (is_retained key k.root), ended-once key epoch ks h.1)
  where
    go : (b : Bool) → is_none (cond b (record k { root = record k.root { dropped = Some epoch } }) k).root.dropped ≡ true → AllByRecursion (λ q. is_retained (cond b (record k { root = record k.root { dropped = Some epoch } }) k).root.key q ≡ false) (roots_of (map (end_retention key epoch) ks))
    go true u = cc u
    go false u = ended-stays key k.root.key epoch ks (h.0 u)

pub none-found : (test : Root → Bool) (rs : List Root) → find test rs ≡ None → AllByRecursion (λ q. test q ≡ false) rs
none-found test [] e = tt
none-found test (r ∷ rs) e = go (test r) refl e (none-found test rs)
  where
    go : (b : Bool) → test r ≡ b → cond b (Some r) (find test rs) ≡ None → (find test rs ≡ None → AllByRecursion (λ q. test q ≡ false) rs) → (test r ≡ false) × AllByRecursion (λ q. test q ≡ false) rs
    go true t e ih = cc e
    go false t e ih = (t, ih e)

unplace : (P : Root → Type 0) (q : Root) (rs : List Root) → AllByRecursion P (place_root q rs) → P q × AllByRecursion P rs
unplace P q [] h = (h.0, tt)
unplace P q (r ∷ rs) h = go (is_gt (root_cmp q r)) (unplace P q rs) h
  where
    go : (b : Bool) → (AllByRecursion P (place_root q rs) → P q × AllByRecursion P rs) → AllByRecursion P (cond b (r ∷ place_root q rs) (q ∷ r ∷ rs)) → P q × AllByRecursion P (r ∷ rs)
    go true ih h = let k = ih h.1 in (k.0, (h.0, k.1))
    go false ih h = (h.0, h.1)

pub unboth : (P : Root → Type 0) (rs : List Root) → AllByRecursion P (both_roots rs []) → AllByRecursion P rs
unboth P [] h = tt
unboth P (r ∷ rs) h = let k = unplace P r (both_roots rs []) h in (k.0, unboth P rs k.1)

-- ---- a root that is put anywhere, where none is retained under its key

all-inserted : (P : Root → Type 0) (ks : List RootFacts) (i : ℕ) (r : RootFacts) → AllByRecursion P (roots_of ks) → P r.root → AllByRecursion P (roots_of (insert ks i r))
all-inserted P ks i r h p = subst (AllByRecursion P) (sym (map_insert (λ (k : RootFacts). k.root) ks i r)) (all_insert P (roots_of ks) i r.root p h)

other-key : (k r : Root) (key : List ℕ) → r.key ≡ key → is_none k.dropped ≡ true → is_retained key k ≡ false → is_retained k.key r ≡ false
other-key k r key same u none = go (is_retained k.key r) refl
  where
    go : (b : Bool) → is_retained k.key r ≡ b → is_retained k.key r ≡ false
    go true e =
        let is : k.key ≡ key = sym (same_key k.key r e).0 ∙ same in
        let both : bytes_eq k.key key ≡ true = (bytes_eq-Decides k.key key).1 is in
        let yes : is_retained key k ≡ true = rw (u, both) refl in
        cc (yes, none)
    go false e = e

put-once : (key : List ℕ) (ks : List RootFacts) (i : ℕ) (r : RootFacts) → r.root.key ≡ key → AllByRecursion (λ q. is_retained key q ≡ false) (roots_of ks) → OneRetained (roots_of ks) → OneRetained (roots_of (insert ks i r))
put-once key [] zero r same none h = ((λ u. tt), tt)
put-once key [] (suc i) r same none h = ((λ u. tt), tt)
put-once key (k ∷ ks) zero r same none h = ((λ u. subst (λ x. AllByRecursion (λ q. is_retained x q ≡ false) (roots_of (k ∷ ks))) (sym same) none), h)
put-once key (k ∷ ks) (suc i) r same none h =
    ((λ u. all-inserted (λ q. is_retained k.root.key q ≡ false) ks i r (h.0 u) (other-key k.root r.root key same u none.0)), put-once key ks i r same none.1 h.1)

-- ---- each kind of entry

module _ (at : Shard) (c : Catalogue) (h : IsOwn at.shards at.shard c) where
  abbrev Once : Catalogue → Type 0
  Once d = OneRetained (roots_of d.roots)

  root-once : (held : ℕ) (a : Address) (key : List ℕ) → Once (keep_root at c held a key)
  root-once held a key = go (is_rooted at (plain c) held a key) (retained_in (plain c) key) refl
    where
      go : (b : Bool) (found : Option Root) → retained_in (plain c) key ≡ found → Once (cond (b && is_none found) (record c { roots = insert_root (new_root c.epoch a key) c.roots }) c)
      go true None e = put-once key c.roots (count_upto (λ (r : RootFacts). r.root.key) key c.roots) (new_root c.epoch a key) refl (unboth (λ q. is_retained key q ≡ false) (roots_of c.roots) (none-found (is_retained key) (plain c).roots e)) h.once
      go true (Some r) e = h.once
      go false found e = h.once

  drop-once : (key : List ℕ) → Once (drop_key at c key)
  drop-once key = go (shard_of_key at.shards key == at.shard)
    where
      go : (b : Bool) → Once (cond b (record c { roots = map (end_retention key c.epoch) c.roots }) c)
      go true = ended-once key c.epoch c.roots h.once
      go false = h.once

  store-once : (number least : ℕ) (a : Address) (read : Result Block SpellingFault) → Once (store_block at c number least a read)
  store-once number least a (Err fault) = h.once
  store-once number least a (Ok block) = go (is_stored at (plain c) least a)
    where
      go : (b : Bool) → Once (cond b (record c { blocks = insert_entry address_cmp c.blocks a (new_facts (fresh_present c.epoch number block)) }) c)
      go true = h.once
      go false = h.once

  mark-once : (least number : ℕ) (a : Address) → Once (give_block c least number a)
  mark-once least number a = go (is_marked (plain c) least number (option_map (λ f. f.present) (facts_at c a)))
    where
      go : (b : Bool) → Once (cond b (record c { blocks = marked c.epoch (facts_at c a) c.blocks a }) c)
      go true = h.once
      go false = h.once

  client-once : (number : ℕ) (entry : Entry) → IsClients entry → Once (apply at c (number, entry))
  client-once number (kind.View view) u = h.once
  client-once number (kind.Block op least bytes) u = store-once number least (at.name bytes) (read_block bytes)
  client-once number (kind.Mark op least block address) u = mark-once least block address
  client-once number (kind.Root op held address key) u = root-once held address key
  client-once number (kind.Drop op key) u = drop-once key
  client-once number (kind.Enter op epoch) u = elim u [ ]
  client-once number (kind.Got sender epoch round total deltas) u = elim u [ ]
  client-once number (kind.Base view epoch swept round frames) u = h.once
  client-once number (kind.KeptBlock born mark flags count bytes) u = h.once
  client-once number (kind.KeptRoot created dropped counted address key) u = h.once
  client-once number (kind.KeptRound way other epoch round total deltas) u = h.once

  pub client-own : (number : ℕ) (entry : Entry) → IsClients entry → IsOwn at.shards at.shard (apply at c (number, entry))
  client-own number entry u = record { mine = subst (λ d. IsMine at.shards at.shard d) (sym (apply-plain at c h.once number entry u)) (apply-mine at (plain c) h.mine number entry); once = client-once number entry u }

  abbrev IsHere : Address → Type 0
  IsHere a = shard_of at.shards a ≡ at.shard

  abbrev IsHereRoot : Root → Type 0
  IsHereRoot r = shard_of_key at.shards r.key ≡ at.shard

  pub enter-own : (k : ℕ) → IsOwn at.shards at.shard (enter_epoch k c)
  enter-own k =
      let blocks = same-each (count_block (c.epoch + 1)) (counted-present (c.epoch + 1)) c.blocks in
      let roots = same-kept (count_root (c.epoch + 1)) (counted-root (c.epoch + 1)) c.roots in
      record {
        mine = record {
          ordered = subst (λ (es : List (Address × Present)). IsStrictlySortedBy address_cmp (keys_of es)) (sym blocks) h.mine.ordered;
          blocks = subst (λ (es : List (Address × Present)). AllByRecursion IsHere (keys_of es)) (sym blocks) h.mine.blocks;
          rising = subst (λ rs. IsRising (both_roots rs [])) (sym roots) h.mine.rising;
          roots = subst (λ rs. AllByRecursion IsHereRoot (both_roots rs [])) (sym roots) h.mine.roots;
        };
        once = subst OneRetained (sym roots) h.once;
      }

  pub search-own : (k : ℕ) → IsOwn at.shards at.shard (search k c)
  search-own k =
      let blocks = same-each (find_zero c.epoch) (zero-present c.epoch) c.blocks in
      let left : List Root = roots_of (filter (λ k. not (is_released c k)) c.roots) in
      let kept = keep-one (λ k. not (is_released c k)) IsHereRoot c.roots (unboth IsHereRoot (roots_of c.roots) h.mine.roots) in
      record {
        mine = record {
          ordered = subst (λ (es : List (Address × Present)). IsStrictlySortedBy address_cmp (keys_of es)) (sym blocks) h.mine.ordered;
          blocks = subst (λ (es : List (Address × Present)). AllByRecursion IsHere (keys_of es)) (sym blocks) h.mine.blocks;
          rising = to-rising (both_roots left []) (both-rising left [] tt);
          roots = both-each IsHereRoot left [] kept tt;
        };
        once = filter-once (λ k. not (is_released c k)) c.roots h.once;
      }

  left-keys : (test : Address × Facts → Bool) (es : List (Address × Facts)) → keys_of (map {B = Address × Present} (λ (e : Address × Facts). (e.0, e.1.present)) es) ≡ keys_of es
  left-keys test [] = refl
  left-keys test (e ∷ es) = ap (λ ks. e.0 ∷ ks) (left-keys test es)

  left-all : (P : Address → Type 0) (test : Address × Facts → Bool) (es : List (Address × Facts)) → AllByRecursion P (keys_of es) → AllByRecursion P (keys_of (filter test es))
  left-all P test [] k = tt
  left-all P test (e ∷ es) k = go (test e) (left-all P test es k.1)
    where
      go : (b : Bool) → AllByRecursion P (keys_of (filter test es)) → AllByRecursion P (keys_of (cond b (e ∷ filter test es) (filter test es)))
      go true ih = (k.0, ih)
      go false ih = ih

  pub sweep-own : IsOwn at.shards at.shard (sweep c)
  sweep-own =
      let test : Address × Facts → Bool = λ e. not (is_gone c.epoch e.1) in
      let keys : keys_of (plain (sweep c)).blocks ≡ keys_of (filter test c.blocks) = ap keys_of (same-each spare spared-present (filter test c.blocks)) ∙ left-keys test (filter test c.blocks) in
      let old : keys_of (plain c).blocks ≡ keys_of c.blocks = left-keys test c.blocks in
      record {
        mine = record {
          ordered = subst (λ ks. IsStrictlySortedBy address_cmp ks) (sym keys) (filter-sorted address_cmp test c.blocks (subst (λ ks. IsStrictlySortedBy address_cmp ks) old h.mine.ordered));
          blocks = subst (λ ks. AllByRecursion IsHere ks) (sym keys) (left-all IsHere test c.blocks (subst (λ ks. AllByRecursion IsHere ks) old h.mine.blocks));
          rising = h.mine.rising;
          roots = h.mine.roots;
        };
        once = h.once;
      }

-- ---- rounds

settled-present : (f : Address → Facts → ℕ) (es : List (Address × Facts))
    → map {B = Address × Present} (λ (e : Address × Facts). (e.0, e.1.present)) (map {B = Address × Facts} (λ (e : Address × Facts). (e.0, record e.1 { count = f e.0 e.1 })) es) ≡ map {B = Address × Present} (λ (e : Address × Facts). (e.0, e.1.present)) es
settled-present f [] = refl
settled-present f (e ∷ es) = ap (λ rest. (e.0, e.1.present) ∷ rest) (settled-present f es)

pub settled-plain : (n : ℕ) (c : Catalogue) → plain (settled n c) ≡ plain c
settled-plain n c = ap (λ bs. record (plain c) { blocks = bs }) (settled-present (λ a f. moved_by c.round a (open_deltas n c) f.count) c.blocks)

settled-own : (at : Shard) (n : ℕ) (c : Catalogue) → IsOwn at.shards at.shard c → IsOwn at.shards at.shard (settled n c)
settled-own at n c h = record { mine = subst (λ d. IsMine at.shards at.shard d) (sym (settled-plain n c)) h.mine; once = h.once }

pub end-own : (at : Shard) (n : ℕ) (c : Catalogue) → IsOwn at.shards at.shard c → IsOwn at.shards at.shard (end_round n c)
end-own at n c h = go (is_last n c)
  where
    go : (b : Bool) → IsOwn at.shards at.shard (cond b (sweep (settled n c)) (search n (settled n c)))
    go true = sweep-own at (settled n c) (settled-own at n c h)
    go false = search-own at (settled n c) (settled-own at n c h) n

advance-own : (at : Shard) (n turns : ℕ) (c : Catalogue) → IsOwn at.shards at.shard c → IsOwn at.shards at.shard (advance n turns c)
advance-own at n zero c h = h
advance-own at n (suc turns) c h = go (is_complete n c) (advance-own at n turns (end_round n c) (end-own at n c h))
  where
    go : (b : Bool) → IsOwn at.shards at.shard (advance n turns (end_round n c)) → IsOwn at.shards at.shard (cond b (advance n turns (end_round n c)) c)
    go true k = k
    go false k = h

got-own : (at : Shard) (c : Catalogue) → IsOwn at.shards at.shard c → (place : Place) (told : RoundBody) → IsOwn at.shards at.shard (get_round at.shards place told c)
got-own at c h place told = go (is_accepted at.shards c place)
  where
    logged : IsOwn at.shards at.shard (log_got place told c)
    logged = record { mine = h.mine; once = h.once }

    go : (b : Bool) → IsOwn at.shards at.shard (cond b (advanced at.shards (log_got place told c)) c)
    go true = advance-own at at.shards (length (log_got place told c).got + 1) (log_got place told c) logged
    go false = h

entered-own : (at : Shard) (c : Catalogue) → IsOwn at.shards at.shard c → (epoch : ℕ) → IsOwn at.shards at.shard (enter at.shards epoch c)
entered-own at c h epoch = go (may_enter c epoch)
  where
    go : (b : Bool) → IsOwn at.shards at.shard (cond b (advanced at.shards (enter_epoch at.shards c)) c)
    go true = advance-own at at.shards (length (enter_epoch at.shards c).got + 1) (enter_epoch at.shards c) (enter-own at c h at.shards)
    go false = h

-- any entry
pub apply-own : (at : Shard) (c : Catalogue) → IsOwn at.shards at.shard c → (number : ℕ) (entry : Entry) → IsOwn at.shards at.shard (apply at c (number, entry))
apply-own at c h number (kind.View view) = client-own at c h number (kind.View view) tt
apply-own at c h number (kind.Block op least bytes) = client-own at c h number (kind.Block op least bytes) tt
apply-own at c h number (kind.Mark op least block address) = client-own at c h number (kind.Mark op least block address) tt
apply-own at c h number (kind.Root op held address key) = client-own at c h number (kind.Root op held address key) tt
apply-own at c h number (kind.Drop op key) = client-own at c h number (kind.Drop op key) tt
apply-own at c h number (kind.Enter op epoch) = entered-own at c h epoch
apply-own at c h number (kind.Got sender epoch round total deltas) = got-own at c h (record { epoch = epoch; round = round; from = sender }) (record { total = total; deltas = deltas })
apply-own at c h number (kind.Base view epoch swept round frames) = h
apply-own at c h number (kind.KeptBlock born mark flags count bytes) = h
apply-own at c h number (kind.KeptRoot created dropped counted address key) = h
apply-own at c h number (kind.KeptRound way other epoch round total deltas) = h

pub empty-own : (n g : ℕ) → IsOwn n g empty_catalogue
empty-own n g = record { mine = empty-mine n g; once = tt }

pub all-own : (at : Shard) (c : Catalogue) (es : Numbered) → IsOwn at.shards at.shard c → IsOwn at.shards at.shard (apply_all at c es)
all-own at c [] h = h
all-own at c (e ∷ es) h = all-own at (apply at c e) es (apply-own at c h e.0 e.1)

pub lists-own : (set : Setting) (g : ℕ) (lists : List Numbered) → AreOwn set.shape.shards g (catalogues set g lists)
lists-own set g [] = tt
lists-own set g (list ∷ lists) = (all-own (shard_in set g) empty_catalogue list (empty-own set.shape.shards g), lists-own set (g + 1) lists)
