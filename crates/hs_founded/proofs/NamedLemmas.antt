-- Where Blocks spell their blocks, each block that the list of a shard amounts to is within the bounds of blocks, and stands at its name.
use Rattle.std.proofs.Common.{◌≡◌, ◌∙◌, ap, sym, subst, ℕ, zero, suc, ◌+◌, List, [], ◌∷◌, Bool, true, false, cond, Some, Result, Ok, Err, refl, arith}
use Rattle.std.specs.BTreeMap.{insert_entry, is_at}
use Rattle.std.specs.List.{AllByRecursion}
use Rattle.std.specs.Map.{lookup}
use Rattle.hs_entry.specs.declared.entry.Entry.{Entry}
use Rattle.hs_entry.specs.declared.entry.Entry.TheVariants as kind
use Rattle.hs_fold.proofs.Runs.OwnLemmas.{apply-own, empty-own}
use Rattle.hs_fold.specs.Catalogue.{Shard, fresh_present}
use Rattle.hs_fold.specs.Runs.Catalogue.{apply, apply_all, catalogue_of}
use Rattle.hs_fold.specs.Runs.Clients.{new_facts, store_block}
use Rattle.hs_fold.specs.Runs.Facts.{Catalogue, Facts, empty_catalogue, facts_at, plain}
use Rattle.hs_fold.specs.Runs.Fits.{catalogue_at}
use Rattle.hs_fold.specs.Runs.Opened.{catalogues}
use Rattle.hs_fold.specs.Runs.Own.{IsOwn}
use Rattle.hs_fold.specs.Shards.Catalogue.{is_stored}
use Rattle.hs_fold.specs.Shards.Setting.{Numbered, Setting, shard_in}
use Rattle.hs_laws.proofs.InsertLemmas.{lookup-insert_other, lookup-insert_same}
use Rattle.hs_limits.proofs.ReadingLemmas.{read_again}
use Rattle.hs_limits.specs.Block.{Block, IsBlock, IsSpelling, spell}
use Rattle.hs_limits.specs.Reading.{read_block}
use Rattle.hs_limits.specs.declared.address.Address.{Address}
use Rattle.hs_limits.specs.declared.spelling.SpellingFault.{SpellingFault}
use Rattle.hs_model.proofs.Members.{same_from}
use Rattle.hs_model.specs.Reach.{is_same}
use Rattle.hs_model.specs.Store.{address_cmp}
use Rattle.hs_model.specs.declared.store.StoredBlock.{StoredBlock}
use Rattle.hs_waiting.proofs.WasLemmas.{was-there}
use Rattle.hs_founded.specs.Spelled.{AreSpelled, IsSpelledEntry}
use Rattle.hs_founded.specs.Store.{IsAtItsName}

-- each block of a shard stands at its name
abbrev pub AreNamed : (List ℕ → Address) → Catalogue → Type 0
AreNamed name c = (a : Address) (f : Facts) → facts_at c a ≡ Some f → IsAtItsName name a f.present.stored

-- ---- one entry

differs : (n : ℕ) → n ≡ suc n → ⊥
differs n e = omega (arith, e)

ok_is : (x y : Block) → (let r : Result Block SpellingFault = Ok x in r) ≡ Ok y → x ≡ y
ok_is x y e = cc e

module _ (at : Shard) (c : Catalogue) (own : IsOwn at.shards at.shard c) (old : AreNamed at.name c) where
  -- behind an entry that stores no block what is found was there
  by_other : (number : ℕ) (entry : Entry) (a : Address) (f : Facts) → facts_at (apply at c (number, entry)) a ≡ Some f → (f.present.number ≡ number → ⊥) → IsAtItsName at.name a f.present.stored
  by_other number entry a f here other =
      let was = was-there at c own a f number entry other here in
      subst (λ (s : StoredBlock). IsAtItsName at.name a s) was.stored (old a was.old was.found)

  -- a Block stores the one that it spells
  module _ (number least : ℕ) (bytes : List ℕ) (spelled : IsSpelling bytes) where
    new_named : (epoch : ℕ) (block : Block) → read_block bytes ≡ Ok block → IsAtItsName at.name (at.name bytes) (fresh_present epoch number block).stored
    new_named epoch block read =
        let is : spelled.block ≡ block = ok_is spelled.block block (sym (read_again spelled.block spelled.bounds spelled.addressed) ∙ ap read_block (sym spelled.spelled) ∙ read) in
        record {
          bounds = subst (λ (b : Block). IsBlock (record { pointers = b.pointers; bytes = b.bytes })) is spelled.bounds;
          named = ap at.name spelled.spelled ∙ ap (λ (b : Block). at.name (spell (record { pointers = b.pointers; bytes = b.bytes }))) is;
        }

    by_block : AreNamed at.name (store_block at c number least (at.name bytes) (read_block bytes))
    by_block a f here = by_read (read_block bytes) refl here
      where
        look : (block : Block) → read_block bytes ≡ Ok block → (t : Bool) → is_same a (at.name bytes) ≡ t
            → lookup (is_at (address_cmp a)) (insert_entry address_cmp c.blocks (at.name bytes) (new_facts (fresh_present c.epoch number block))) ≡ Some f → IsAtItsName at.name a f.present.stored
        look block read true t e =
            let is : a ≡ at.name bytes = same_from a (at.name bytes) t in
            let there : lookup (is_at (address_cmp a)) (insert_entry address_cmp c.blocks (at.name bytes) (new_facts (fresh_present c.epoch number block))) ≡ Some (new_facts (fresh_present c.epoch number block)) =
            subst (λ x. lookup (is_at (address_cmp x)) (insert_entry address_cmp c.blocks (at.name bytes) (new_facts (fresh_present c.epoch number block))) ≡ Some (new_facts (fresh_present c.epoch number block))) (sym is)
            (lookup-insert_same c.blocks (at.name bytes) (new_facts (fresh_present c.epoch number block))) in
            let both : Some f ≡ Some (new_facts (fresh_present c.epoch number block)) = sym e ∙ there in
            let same : f ≡ new_facts (fresh_present c.epoch number block) = cc both in
            subst (λ (x : Facts). IsAtItsName at.name a x.present.stored) (sym same)
            (subst (λ x. IsAtItsName at.name x (fresh_present c.epoch number block).stored) (sym is) (new_named c.epoch block read))
        look block read false t e = old a f (sym (lookup-insert_other c.blocks (at.name bytes) (new_facts (fresh_present c.epoch number block)) a t) ∙ e)

        stores : (block : Block) → read_block bytes ≡ Ok block → (t : Bool)
            → facts_at (cond t (record c { blocks = insert_entry address_cmp c.blocks (at.name bytes) (new_facts (fresh_present c.epoch number block)) }) c) a ≡ Some f → IsAtItsName at.name a f.present.stored
        stores block read true e = look block read (is_same a (at.name bytes)) refl e
        stores block read false e = old a f e

        by_read : (r : Result Block SpellingFault) → read_block bytes ≡ r → facts_at (store_block at c number least (at.name bytes) r) a ≡ Some f → IsAtItsName at.name a f.present.stored
        by_read (Err fault) read e = old a f e
        by_read (Ok block) read e = stores block read (is_stored at (plain c) least (at.name bytes)) e

  -- of any kind; what another one does is the same under each number
  pub entry_named : (number : ℕ) (entry : Entry) → IsSpelledEntry entry → AreNamed at.name (apply at c (number, entry))
  entry_named number (kind.Block op least bytes) spelled = by_block number least bytes spelled
  entry_named number (kind.View view) spelled = λ a f e. by_other (suc f.present.number) (kind.View view) a f e (differs f.present.number)
  entry_named number (kind.Mark op least block b) spelled = λ a f e. by_other (suc f.present.number) (kind.Mark op least block b) a f e (differs f.present.number)
  entry_named number (kind.Root op held b key) spelled = λ a f e. by_other (suc f.present.number) (kind.Root op held b key) a f e (differs f.present.number)
  entry_named number (kind.Drop op key) spelled = λ a f e. by_other (suc f.present.number) (kind.Drop op key) a f e (differs f.present.number)
  entry_named number (kind.Enter op epoch) spelled = λ a f e. by_other (suc f.present.number) (kind.Enter op epoch) a f e (differs f.present.number)
  entry_named number (kind.Got sender epoch round total deltas) spelled = λ a f e. by_other (suc f.present.number) (kind.Got sender epoch round total deltas) a f e (differs f.present.number)
  entry_named number (kind.Base view epoch swept round frames) spelled = λ a f e. old a f e
  entry_named number (kind.KeptBlock born mark flags count bytes) spelled = λ a f e. old a f e
  entry_named number (kind.KeptRoot created dropped counted address key) spelled = λ a f e. old a f e
  entry_named number (kind.KeptRound way other epoch round total deltas) spelled = λ a f e. old a f e

-- ---- a list

entries_named : (at : Shard) (es : Numbered) (c : Catalogue) → IsOwn at.shards at.shard c → AreNamed at.name c → AreSpelled es → AreNamed at.name (apply_all at c es)
entries_named at [] c own old spelled = old
entries_named at (e ∷ es) c own old spelled = entries_named at es (apply at c e) (apply-own at c own e.0 e.1) (entry_named at c own old e.0 e.1 spelled.0) spelled.1

none_found : (a : Address) (f : Facts) → facts_at empty_catalogue a ≡ Some f → ⊥
none_found a f e = cc e

list_named : (at : Shard) (es : Numbered) → AreSpelled es → AreNamed at.name (catalogue_of at es)
list_named at es spelled = entries_named at es empty_catalogue (empty-own at.shards at.shard) (λ a f e. absurd (none_found a f e)) spelled

-- the lists of all shards
pub lists_named : (set : Setting) (shard : ℕ) (lists : List Numbered) → AllByRecursion AreSpelled lists → (k : ℕ) → AreNamed set.name (catalogue_at (catalogues set shard lists) k)
lists_named set shard [] spelled k = λ a f e. absurd (none_found a f e)
lists_named set shard (list ∷ lists) spelled zero = list_named (shard_in set shard) list spelled.0
lists_named set shard (list ∷ lists) spelled (suc k) = lists_named set (shard + 1) lists spelled.1 k
