-- What a client's entry does that may come keeps the plain store valid, and so does what a shard does by itself.
use Rattle.std.proofs.Common.{◌≡◌, ℕ, ◌+◌, ◌<◌, ◌≤◌, ◌==◌, ◌&&◌, List, ◌∷◌, ◌++◌, length, map, Bool, true, false, cond, Option, Some, None, is_none, Result, Ok, Err, refl, sym, ap, ◌∙◌, subst, nat_le}
use Rattle.std.proofs.lemmas.Bool.{eqb-true}
use Rattle.std.specs.Option.{option_map}
use Rattle.hs_limits.specs.declared.address.Address.{Address}
use Rattle.hs_limits.specs.declared.spelling.SpellingFault.{SpellingFault}
use Rattle.hs_limits.specs.Block.{Block}
use Rattle.hs_limits.specs.Reading.{read_block}
use Rattle.hs_limits.specs.Shape.{shard_of, shard_of_key}
use Rattle.hs_model.specs.Inner.{enter}
use Rattle.hs_model.specs.Store.{Store, block_at, root_epoch}
use Rattle.hs_model.proofs.Members.{contains_from_member}
use Rattle.hs_model.proofs.ReachLemmas.{Reaches, reached_from_is}
use Rattle.hs_model.proofs.ReachLemmas.Reached.{start}
use Rattle.hs_laws.specs.Valid.{least_epoch, rests_on}
use Rattle.hs_laws.proofs.EnterLemmas.{enter_valid, enter-rests}
use Rattle.hs_laws.proofs.SweepKeeps.{sweep_valid, still_reached, may_sweep-gives}
use Rattle.hs_laws.proofs.ValidLemmas.{Valid, Reaches-more}
use Rattle.hs_entry.specs.declared.entry.Entry.{Entry}
use Rattle.hs_entry.specs.declared.entry.Entry.TheVariants as kind
use Rattle.hs_fold.specs.Catalogue.{Present, Shard}
use Rattle.hs_fold.specs.Lawful.{shard_at}
use Rattle.hs_fold.specs.Shards.Catalogue.{present_at}
use Rattle.hs_fold.specs.Shards.Catalogue.{Catalogue as Plain}
use Rattle.hs_fold.specs.Shards.Change.{stores, gives, keeps, drops, is_usable}
use Rattle.hs_fold.specs.Shards.Fits.{EachRests, BlockRests, MarkRests, RootRests}
use Rattle.hs_fold.specs.Shards.Happening.{Happening, changes, enters, sweeps, happen, MayHappen, happen_by, block_happens, mark_happens, key_happens}
use Rattle.hs_fold.specs.Shards.Mine.{AreMine}
use Rattle.hs_fold.specs.Runs.Facts.{Catalogue, empty_catalogue, plain}
use Rattle.hs_fold.specs.Runs.Fits.{catalogue_at, MayCome}
use Rattle.hs_fold.specs.Runs.Happening.{IsClients, happening_of}
use Rattle.hs_fold.specs.Runs.Opened.{store_of}
use Rattle.hs_fold.specs.Runs.Own.{AreOwn}
use Rattle.hs_fold.proofs.Runs.DeedLemmas.{by-plain, count-plain, mine-plain, length-plain}
use Rattle.hs_fold.proofs.Shards.KeepLemmas.{RestOn, MayChange, change-keeps}
use Rattle.hs_fold.proofs.Shards.PlaceLemmas.{at-place, on-place}
use Rattle.hs_fold.proofs.Shards.StoreLemmas.{all_shards, block-is, found-mine, usable-is, key-epoch}
use Rattle.hs_fold.proofs.Shards.StoreLemmas.{own as own_plain}
use Rattle.hs_joint.specs.Along.{MayHappenBy}

-- what rests on an epoch that is fresh at the least one rests on it still
abbrev pub FreshOnward : Store → Store → Type 0
FreshOnward s t = (least : ℕ) → least_epoch t ≤ least + 1 → (a : Address) → Reaches s.blocks (rests_on s least) a → Reaches t.blocks (rests_on t least) a

abbrev pub KeepsFresh : Store → Store → Type 0
KeepsFresh s t = Valid t × FreshOnward s t

-- a change where what it rests on is there, an inner event where it is allowed
abbrev pub AllowedBy : Store → Happening → Type 0
AllowedBy s (changes one) = MayChange s one
AllowedBy s (enters shard) = MayHappen s (enters shard)
AllowedBy s (sweeps shard) = MayHappen s (sweeps shard)

pub happen_keeps : (s : Store) → Valid s → (one : Happening) → AllowedBy s one → KeepsFresh s (happen s one)
happen_keeps s v (changes one) may = let k = change-keeps s v one may in (k.0, λ least l a r. k.1 least a r)
happen_keeps s v (enters shard) may = (enter_valid s v shard may, λ least l a r. Reaches-more s.blocks (rests_on s least) (rests_on (enter s shard) least) (λ b k. start (enter-rests s shard least v.epochs.some_shard l b k)) a r)
happen_keeps s v (sweeps shard) may = (sweep_valid s v shard may, λ least l a r. still_reached s v shard (may_sweep-gives s shard v.epochs.some_shard may) least l a r)

pub happens_keep : (s : Store) → Valid s → (found : Option Happening) → ((one : Happening) → found ≡ Some one → AllowedBy s one) → KeepsFresh s (happen_by s found)
happens_keep s v None may = (v, λ least l a r. r)
happens_keep s v (Some one) may = happen_keeps s v one (may one refl)

pub inside : (x y : Happening) → Some x ≡ Some y → x ≡ y
inside x y k = cc k

rest_on : (s : Store) (epoch : ℕ) (pointers : List Address) → EachRests s epoch pointers → RestOn s epoch pointers
rest_on s epoch pointers f = λ p m. reached_from_is s (rests_on s epoch) p (f p (contains_from_member p pointers m))

module _ (name : List ℕ → Address) (n : ℕ) (front back : List Catalogue) (c : Catalogue) (count : length front + (1 + length back) ≡ n) (own : AreOwn n 0 (front ++ c ∷ back)) where
  abbrev g : ℕ
  g = length front

  abbrev s : Store
  s = store_of (front ++ c ∷ back)

  abbrev at : Shard
  at = shard_at name n g

  abbrev pf : List Plain
  pf = map plain front

  abbrev pb : List Plain
  pb = map plain back

  mine : AreMine (all_shards pf pb) 0 (pf ++ plain c ∷ pb)
  mine = subst (λ m. AreMine m 0 (pf ++ plain c ∷ pb)) (sym (count-plain n front back count)) (mine-plain n front back c own)

  at_shard : (a : Address) → shard_of n a ≡ g → shard_of (all_shards pf pb) a ≡ length pf
  at_shard a h = ap (λ k. shard_of k a) (count-plain n front back count) ∙ h ∙ sym (length-plain front)

  block_in : (a : Address) → shard_of (all_shards pf pb) a ≡ length pf → block_at s a ≡ option_map (λ (k : Present). k.stored) (present_at (plain c) a)
  block_in a h = ap (λ (t : Store). block_at t a) (by-plain front back c c) ∙ block-is pf pb (plain c) mine a h

  usable_in : (a : Address) → shard_of (all_shards pf pb) a ≡ length pf → (least : ℕ) → is_usable s least a ≡ nat_le c.epoch (least + 1)
  usable_in a h least = ap (λ (t : Store). is_usable t least a) (by-plain front back c c) ∙ usable-is pf pb (plain c) mine a h least

  key_in : (key : List ℕ) → shard_of_key n key ≡ g → root_epoch s key ≡ c.epoch
  key_in key h = ap (λ (t : Store). root_epoch t key) (by-plain front back c c) ∙ key-epoch pf pb (plain c) mine key (ap (λ k. shard_of_key k key) (count-plain n front back count) ∙ h ∙ sym (length-plain front))

  may_block : (least : ℕ) (bytes : List ℕ) (a : Address) → BlockRests s (plain c) least bytes → (read : Result Block SpellingFault) → read_block bytes ≡ read → (one : Happening) → block_happens at (plain c) least a read ≡ Some one → AllowedBy s one
  may_block least bytes a rests (Err fault) is one e = cc e
  may_block least bytes a rests (Ok block) is one e = go (shard_of n a == g) refl (present_at (plain c) a) refl e
    where
      go : (p : Bool) → (shard_of n a == g) ≡ p → (found : Option Present) → present_at (plain c) a ≡ found → cond (p && is_none found) (Some (changes (stores least a block))) None ≡ Some one → AllowedBy s one
      go true here None none h =
          let of : shard_of (all_shards pf pb) a ≡ length pf = at_shard a (eqb-true (shard_of n a) g here) in
          subst (λ x. AllowedBy s x) (inside (changes (stores least a block)) one h) (
            block_in a of ∙ ap (λ f. option_map (λ (k : Present). k.stored) f) none,
            λ usable. rest_on s least block.pointers (rests (sym (usable_in a of least) ∙ usable) block is),
          )
      go true here (Some x) found h = cc h
      go false here found none h = cc h

  may_mark : (least number : ℕ) (a : Address) → MarkRests s (plain c) least number a → (found : Option Present) → present_at (plain c) a ≡ found → (one : Happening) → mark_happens found least number a ≡ Some one → AllowedBy s one
  may_mark least number a rests None is one e = cc e
  may_mark least number a rests (Some kept) is one e = go (kept.number == number) refl e
    where
      go : (t : Bool) → (kept.number == number) ≡ t → cond t (Some (changes (gives least a))) None ≡ Some one → AllowedBy s one
      go true same h =
          let here : shard_of (all_shards pf pb) a ≡ length pf = found-mine (all_shards pf pb) (length pf) (plain c).blocks a kept (own_plain pf pb (plain c) mine).blocks is in
          subst (λ x. AllowedBy s x) (inside (changes (gives least a)) one h) (
            kept.stored,
            block_in a here ∙ ap (λ f. option_map (λ (k : Present). k.stored) f) is,
            λ usable. rest_on s least kept.stored.pointers (rests (sym (usable_in a here least) ∙ usable) kept is (eqb-true kept.number number same)),
          )
      go false same h = cc h

  may_root : (held : ℕ) (a : Address) (key : List ℕ) → RootRests s (plain c) held a → (one : Happening) → key_happens at key (keeps held a key) ≡ Some one → AllowedBy s one
  may_root held a key rests one e = go (shard_of_key n key == g) refl e
    where
      go : (t : Bool) → (shard_of_key n key == g) ≡ t → cond t (Some (changes (keeps held a key))) None ≡ Some one → AllowedBy s one
      go true here h =
          let epoch : root_epoch s key ≡ c.epoch = key_in key (eqb-true (shard_of_key n key) g here) in
          subst (λ x. AllowedBy s x) (inside (changes (keeps held a key)) one h)
          (λ usable. reached_from_is s (rests_on s held) a (rests (ap (λ k. nat_le k (held + 1)) (sym epoch) ∙ usable)))
      go false here h = cc h

  may_drop : (key : List ℕ) (one : Happening) → key_happens at key (drops key) ≡ Some one → AllowedBy s one
  may_drop key one e = go (shard_of_key n key == g) e
    where
      go : (t : Bool) → cond t (Some (changes (drops key))) None ≡ Some one → AllowedBy s one
      go true h = subst (λ x. AllowedBy s x) (inside (changes (drops key)) one h) tt
      go false h = cc h

  may_here : (entry : Entry) → IsClients entry → MayCome (front ++ c ∷ back) g entry → (one : Happening) → happening_of at c entry ≡ Some one → AllowedBy s one
  may_here (kind.View view) u may one e = cc e
  may_here (kind.Block op least bytes) u may one e = may_block least bytes (name bytes) (subst (λ d. BlockRests s (plain d) least bytes) (at-place empty_catalogue front back c) may) (read_block bytes) refl one e
  may_here (kind.Mark op least number a) u may one e = may_mark least number a (subst (λ d. MarkRests s (plain d) least number a) (at-place empty_catalogue front back c) may) (present_at (plain c) a) refl one e
  may_here (kind.Root op held a key) u may one e = may_root held a key (subst (λ d. RootRests s (plain d) held a) (at-place empty_catalogue front back c) may) one e
  may_here (kind.Drop op key) u may one e = may_drop key one e
  may_here (kind.Enter op epoch) u may one e = elim u [ ]
  may_here (kind.Got sender epoch round total deltas) u may one e = elim u [ ]
  may_here (kind.Base view epoch swept round frames) u may one e = cc e
  may_here (kind.KeptBlock born mark flags count bytes) u may one e = cc e
  may_here (kind.KeptRoot created dropped counted address key) u may one e = cc e
  may_here (kind.KeptRound way other epoch round total deltas) u may one e = cc e

-- so for a shard of any number
pub client_allowed : (name : List ℕ → Address) (n : ℕ) (cs : List Catalogue) (g : ℕ) (entry : Entry) → length cs ≡ n → g < n → AreOwn n 0 cs → IsClients entry → MayCome cs g entry → (one : Happening) → happening_of (shard_at name n g) (catalogue_at cs g) entry ≡ Some one → AllowedBy (store_of cs) one
client_allowed name n cs g entry all low = on-place (λ ds k. AreOwn n 0 ds → IsClients entry → MayCome ds k entry → (one : Happening) → happening_of (shard_at name n k) (catalogue_at ds k) entry ≡ Some one → AllowedBy (store_of ds) one) n go cs g all low
  where
    go : (front back : List Catalogue) (c : Catalogue) → length front + (1 + length back) ≡ n → AreOwn n 0 (front ++ c ∷ back) → IsClients entry → MayCome (front ++ c ∷ back) (length front) entry → (one : Happening) → happening_of (shard_at name n (length front)) (catalogue_at (front ++ c ∷ back) (length front)) entry ≡ Some one → AllowedBy (store_of (front ++ c ∷ back)) one
    go front back c count own u may one e = may_here name n front back c count own entry u may one (ap (λ x. happening_of (shard_at name n (length front)) x entry) (sym (at-place empty_catalogue front back c)) ∙ e)

-- what is allowed may happen
pub may_by : (s : Store) (found : Option Happening) → ((one : Happening) → found ≡ Some one → AllowedBy s one) → MayHappenBy s found
may_by s None may = tt
may_by s (Some (changes one)) may = tt
may_by s (Some (enters shard)) may = may (enters shard) refl
may_by s (Some (sweeps shard)) may = may (sweeps shard) refl
