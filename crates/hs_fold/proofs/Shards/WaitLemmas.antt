-- Entries that may come keep a store valid, and stay so behind any other entry.
use Rattle.std.proofs.Common.{◌≡◌, ◌≢◌, inl, inr, ℕ, ◌+◌, ◌<◌, ◌==◌, ◌&&◌, List, ◌∷◌, ◌++◌, length, Bool, true, false, cond, Option, Some, None, is_none, Result, Ok, Err, refl, sym, ap, ◌∙◌, subst, arith, nat_le}
use Rattle.std.proofs.lemmas.Bool.{cases_eq}
use Rattle.std.proofs.lemmas.Bool.Decides.{nat_tests}
use Rattle.std.specs.Prelude.{slice_set}
use Rattle.std.specs.Option.{option_map}
use Rattle.hs_limits.specs.declared.address.Address.{Address}
use Rattle.hs_limits.specs.declared.spelling.SpellingFault.{SpellingFault}
use Rattle.hs_limits.specs.Block.{Block}
use Rattle.hs_limits.specs.Reading.{read_block}
use Rattle.hs_limits.specs.Shape.{shard_of, shard_of_key}
use Rattle.hs_model.specs.Store.{Store, root_epoch}
use Rattle.hs_model.proofs.Members.{contains_from_member, member_from_contains}
use Rattle.hs_model.proofs.ReachLemmas.{reached_from_is, is_from_reached}
use Rattle.hs_laws.specs.Valid.{rests_on}
use Rattle.hs_laws.proofs.ValidLemmas.{Valid}
use Rattle.hs_entry.specs.declared.entry.Entry.{Entry}
use Rattle.hs_entry.specs.declared.entry.Entry.TheVariants as kind
use Rattle.hs_fold.specs.Catalogue.{Present, Shard}
use Rattle.hs_fold.specs.Lawful.{Deed, shard_at}
use Rattle.hs_fold.specs.Shards.Catalogue.{empty_catalogue, Catalogue, present_at, is_fresh, apply}
use Rattle.hs_fold.specs.Shards.Change.{stores, gives, keeps, drops}
use Rattle.hs_fold.specs.Shards.Fits.{catalogue_at, EachRests, BlockRests, MarkRests, RootRests, MayCome}
use Rattle.hs_fold.specs.Shards.Happening.{Happening, changes, enters, sweeps, happen_by, block_happens, mark_happens, key_happens, happening_of}
use Rattle.hs_fold.specs.Shards.History.{applied, follow}
use Rattle.hs_fold.specs.Shards.Mine.{IsMine, AreMine}
use Rattle.hs_fold.specs.Shards.Opened.{store_of}
use Rattle.hs_fold.specs.Shards.Parted.{NamesUpTo}
use Rattle.hs_fold.specs.Shards.Setting.{Setting}
use Rattle.hs_fold.proofs.Shards.KeepLemmas.{RestOn, Onward, Kept, MayChange, change-keeps}
use Rattle.hs_fold.proofs.Shards.MineLemmas.{mine-there}
use Rattle.hs_fold.proofs.Shards.PlaceLemmas.{at-place, set-place, on-place, same-at, other-at}
use Rattle.hs_fold.proofs.Shards.StayLemmas.{epoch-stays, was-there}
use Rattle.hs_fold.proofs.Shards.StoreLemmas.{all_shards, entry-step, block-is, found-mine, usable-is, key-epoch}

-- ---- the two ways to say that something rests

rest-on : (s : Store) (epoch : ℕ) (pointers : List Address) → EachRests s epoch pointers → RestOn s epoch pointers
rest-on s epoch pointers f = λ p m. reached_from_is s (rests_on s epoch) p (f p (contains_from_member p pointers m))

each-rests : (s : Store) (epoch : ℕ) (pointers : List Address) → RestOn s epoch pointers → EachRests s epoch pointers
each-rests s epoch pointers f = λ p k. is_from_reached s (rests_on s epoch) p (f p (member_from_contains p pointers k))

onward-rests : (s t : Store) → Onward s t → (epoch : ℕ) (pointers : List Address) → EachRests s epoch pointers → EachRests t epoch pointers
onward-rests s t on epoch pointers f = each-rests t epoch pointers (λ p m. on epoch p (rest-on s epoch pointers f p m))

same-is : (p q : ℕ) → (p == q) ≡ true → p ≡ q
same-is p q e = grind (arith, nat_tests, e)

-- what happens may: a change, where what it rests on is there
abbrev AllowedBy : Store → Happening → Type 0
AllowedBy s (changes one) = MayChange s one
AllowedBy s (enters shard) = ⊥
AllowedBy s (sweeps shard) = ⊥

-- ---- one entry of one shard among others

module _ (front back : List Catalogue) (c : Catalogue) (mine : AreMine (all_shards front back) 0 (front ++ c ∷ back)) (name : List ℕ → Address) where
  abbrev at : Shard
  at = shard_at name (all_shards front back) (length front)

  abbrev cs : List Catalogue
  cs = front ++ c ∷ back

  abbrev s : Store
  s = store_of cs

  own : IsMine at.shards at.shard c
  own = subst (λ k. IsMine at.shards k c) (zero-left (length front)) (mine-there at.shards 0 front back c mine)
    where
      zero-left : (k : ℕ) → 0 + k ≡ k
      zero-left k = omega arith

  inside : (x y : Happening) → Some x ≡ Some y → x ≡ y
  inside x y k = cc k

  may-block : (least : ℕ) (bytes : List ℕ) (a : Address) → BlockRests s c least bytes → (read : Result Block SpellingFault) → read_block bytes ≡ read → (one : Happening) → block_happens at c least a read ≡ Some one → AllowedBy s one
  may-block least bytes a rests (Err fault) is one e = cc e
  may-block least bytes a rests (Ok block) is one e = go (shard_of at.shards a == at.shard) refl (present_at c a) refl e
    where
      go : (p : Bool) → (shard_of at.shards a == at.shard) ≡ p → (found : Option Present) → present_at c a ≡ found → cond (p && is_none found) (Some (changes (stores least a block))) None ≡ Some one → AllowedBy s one
      go true here None none h =
          let of : shard_of at.shards a ≡ at.shard = same-is (shard_of at.shards a) at.shard here in
          subst (λ x. AllowedBy s x) (inside (changes (stores least a block)) one h) (
            block-is front back c mine a of ∙ ap (λ f. option_map (λ (k : Present). k.stored) f) none,
            λ usable. rest-on s least block.pointers (rests (sym (usable-is front back c mine a of least) ∙ usable) block is),
          )
      go true here (Some x) found h = cc h
      go false here found none h = cc h

  may-mark : (least number : ℕ) (a : Address) → MarkRests s c least number a → (found : Option Present) → present_at c a ≡ found → (one : Happening) → mark_happens found least number a ≡ Some one → AllowedBy s one
  may-mark least number a rests None is one e = cc e
  may-mark least number a rests (Some kept) is one e = go (kept.number == number) refl e
    where
      go : (t : Bool) → (kept.number == number) ≡ t → cond t (Some (changes (gives least a))) None ≡ Some one → AllowedBy s one
      go true same h =
          let here : shard_of at.shards a ≡ at.shard = found-mine at.shards at.shard c.blocks a kept own.blocks is in
          subst (λ x. AllowedBy s x) (inside (changes (gives least a)) one h) (
            kept.stored,
            block-is front back c mine a here ∙ ap (λ f. option_map (λ (k : Present). k.stored) f) is,
            λ usable. rest-on s least kept.stored.pointers (rests (sym (usable-is front back c mine a here least) ∙ usable) kept is (same-is kept.number number same)),
          )
      go false same h = cc h

  may-root : (held : ℕ) (a : Address) (key : List ℕ) → RootRests s c held a → (one : Happening) → key_happens at key (keeps held a key) ≡ Some one → AllowedBy s one
  may-root held a key rests one e = go (shard_of_key at.shards key == at.shard) refl e
    where
      go : (t : Bool) → (shard_of_key at.shards key == at.shard) ≡ t → cond t (Some (changes (keeps held a key))) None ≡ Some one → AllowedBy s one
      go true here h =
          let epoch : root_epoch s key ≡ c.epoch = key-epoch front back c mine key (same-is (shard_of_key at.shards key) at.shard here) in
          subst (λ x. AllowedBy s x) (inside (changes (keeps held a key)) one h)
          (λ usable. reached_from_is s (rests_on s held) a (rests (ap (λ n. nat_le n (held + 1)) (sym epoch) ∙ usable)))
      go false here h = cc h

  may-drop : (key : List ℕ) (one : Happening) → key_happens at key (drops key) ≡ Some one → AllowedBy s one
  may-drop key one e = go (shard_of_key at.shards key == at.shard) e
    where
      go : (t : Bool) → cond t (Some (changes (drops key))) None ≡ Some one → AllowedBy s one
      go true h = subst (λ x. AllowedBy s x) (inside (changes (drops key)) one h) tt
      go false h = cc h

  -- an entry that may come is allowed
  allowed : (entry : Entry) → MayCome cs (length front) entry → (one : Happening) → happening_of at c entry ≡ Some one → AllowedBy s one
  allowed (kind.View view) may one e = cc e
  allowed (kind.Block op least bytes) may one e = may-block least bytes (name bytes) (subst (λ d. BlockRests s d least bytes) (at-place empty_catalogue front back c) may) (read_block bytes) refl one e
  allowed (kind.Mark op least number a) may one e = may-mark least number a (subst (λ d. MarkRests s d least number a) (at-place empty_catalogue front back c) may) (present_at c a) refl one e
  allowed (kind.Root op held a key) may one e = may-root held a key (subst (λ d. RootRests s d held a) (at-place empty_catalogue front back c) may) one e
  allowed (kind.Drop op key) may one e = may-drop key one e
  allowed (kind.Enter op epoch) may one e = cc e
  allowed (kind.Got sender epoch round total deltas) may one e = cc e
  allowed (kind.Base view epoch swept round frames) may one e = cc e
  allowed (kind.KeptBlock born mark flags count bytes) may one e = cc e
  allowed (kind.KeptRoot created dropped counted address key) may one e = cc e
  allowed (kind.KeptRound way other epoch round total deltas) may one e = cc e

  kept-by : Valid s → (found : Option Happening) → ((one : Happening) → found ≡ Some one → AllowedBy s one) → Kept s (happen_by s found)
  kept-by v None may = (v, λ epoch b r. r)
  kept-by v (Some (changes one)) may = change-keeps s v one (may (changes one) refl)
  kept-by v (Some (enters shard)) may = absurd (may (enters shard) refl)
  kept-by v (Some (sweeps shard)) may = absurd (may (sweeps shard) refl)

  -- the store stays valid, and what rests on something does still
  pub entry-keeps : Valid s → (number : ℕ) (entry : Entry) → MayCome cs (length front) entry → Kept s (store_of (front ++ apply at c (number, entry) ∷ back))
  entry-keeps v number entry may = subst (λ t. Kept s t) (sym (entry-step front back c mine name number entry)) (kept-by v (happening_of at c entry) (allowed entry may))

-- so for a shard of any number
pub deed-keeps : (set : Setting) (deed : Deed) (cs : List Catalogue) → length cs ≡ set.shape.shards → deed.shard < set.shape.shards → AreMine set.shape.shards 0 cs → Valid (store_of cs) → MayCome cs deed.shard deed.entry → Kept (store_of cs) (store_of (follow set cs deed))
deed-keeps set deed cs all low = on-place (λ ds k. AreMine n 0 ds → Valid (store_of ds) → MayCome ds k deed.entry → Kept (store_of ds) (store_of (slice_set ds k (apply (shard_at set.name n k) (catalogue_at ds k) (deed.number, deed.entry))))) n go cs deed.shard all low
  where
    n : ℕ
    n = set.shape.shards

    go : (front back : List Catalogue) (c : Catalogue) → length front + (1 + length back) ≡ n → AreMine n 0 (front ++ c ∷ back) → Valid (store_of (front ++ c ∷ back)) → MayCome (front ++ c ∷ back) (length front) deed.entry
        → Kept (store_of (front ++ c ∷ back)) (store_of (slice_set (front ++ c ∷ back) (length front) (apply (shard_at set.name n (length front)) (catalogue_at (front ++ c ∷ back) (length front)) (deed.number, deed.entry))))
    go front back c count mine v may =
        let kept = subst (λ m. AreMine m 0 (front ++ c ∷ back) → Kept (store_of (front ++ c ∷ back)) (store_of (front ++ apply (shard_at set.name m (length front)) c (deed.number, deed.entry) ∷ back))) count (λ h. entry-keeps front back c h set.name v deed.number deed.entry may) mine in
        subst (λ ds. Kept (store_of (front ++ c ∷ back)) (store_of ds)) (sym (ap (λ x. slice_set (front ++ c ∷ back) (length front) (apply (shard_at set.name n (length front)) x (deed.number, deed.entry))) (at-place empty_catalogue front back c) ∙ set-place front back c (apply (shard_at set.name n (length front)) c (deed.number, deed.entry)))) kept

-- ---- what else may come may still

module _ (set : Setting) (deed : Deed) (cs : List Catalogue) (all : length cs ≡ set.shape.shards) (low : deed.shard < set.shape.shards) (mine : AreMine set.shape.shards 0 cs) (on : Onward (store_of cs) (store_of (follow set cs deed))) where
  abbrev ds : List Catalogue
  ds = follow set cs deed

  own-at : IsMine set.shape.shards deed.shard (catalogue_at cs deed.shard)
  own-at = on-place (λ es k. AreMine set.shape.shards 0 es → IsMine set.shape.shards k (catalogue_at es k)) set.shape.shards (λ front back c count h. subst (λ x. IsMine set.shape.shards (length front) x) (sym (at-place empty_catalogue front back c)) (subst (λ k. IsMine set.shape.shards k c) (zero-left (length front)) (mine-there set.shape.shards 0 front back c h))) cs deed.shard all low mine
    where
      zero-left : (k : ℕ) → 0 + k ≡ k
      zero-left k = omega arith

  now-at : catalogue_at ds deed.shard ≡ applied set cs deed
  now-at = same-at empty_catalogue cs deed.shard (applied set cs deed) (omega (arith, all, low))

  epoch-at : (k : ℕ) → (catalogue_at ds k).epoch ≡ (catalogue_at cs k).epoch
  epoch-at k = elim (cases_eq k deed.shard) [
    | inl same ↦
        ap (λ j. (catalogue_at ds j).epoch) same ∙ ap (λ (x : Catalogue). x.epoch) now-at
        ∙ epoch-stays (shard_at set.name set.shape.shards deed.shard) (catalogue_at cs deed.shard) deed.number deed.entry
        ∙ ap (λ j. (catalogue_at cs j).epoch) (sym same)
    | inr differs ↦ ap (λ (x : Catalogue). x.epoch) (other-at empty_catalogue cs deed.shard k (applied set cs deed) differs)
  ]

  fresh-at : (k least : ℕ) → is_fresh (catalogue_at ds k) least ≡ true → is_fresh (catalogue_at cs k) least ≡ true
  fresh-at k least fresh = ap (λ n. nat_le n (least + 1)) (sym (epoch-at k)) ∙ fresh

  abbrev pub IsOther : ℕ → Entry → Type 0
  IsOther k (kind.Mark op least block a) = k ≡ deed.shard → block ≢ deed.number
  IsOther k other = Unit {0}

  mark-stays : (k least block : ℕ) (a : Address) → (k ≡ deed.shard → block ≢ deed.number) → MarkRests (store_of cs) (catalogue_at cs k) least block a → MarkRests (store_of ds) (catalogue_at ds k) least block a
  mark-stays k least block a differs rests fresh kept found numbered = elim (cases_eq k deed.shard) [
    | inl same ↦
        let here : present_at (applied set cs deed) a ≡ Some kept = ap (λ d. present_at d a) (sym (ap (λ j. catalogue_at ds j) same ∙ now-at)) ∙ found in
        let was = was-there (catalogue_at cs deed.shard) a kept (shard_at set.name set.shape.shards deed.shard) own-at deed.number deed.entry (λ h. differs same (sym numbered ∙ h)) here in
        let before : present_at (catalogue_at cs k) a ≡ Some was.old = ap (λ j. present_at (catalogue_at cs j) a) same ∙ was.found in
        onward-rests (store_of cs) (store_of ds) on least kept.stored.pointers (subst (λ x. EachRests (store_of cs) least x.pointers) was.stored (rests (fresh-at k least fresh) was.old before (was.numbered ∙ numbered)))
    | inr other ↦
        let before : present_at (catalogue_at cs k) a ≡ Some kept = ap (λ d. present_at d a) (sym (other-at empty_catalogue cs deed.shard k (applied set cs deed) other)) ∙ found in
        onward-rests (store_of cs) (store_of ds) on least kept.stored.pointers (rests (fresh-at k least fresh) kept before numbered)
  ]

  pub may-still : (k : ℕ) (other : Entry) → IsOther k other → MayCome cs k other → MayCome ds k other
  may-still k (kind.View view) differs may = tt
  may-still k (kind.Block op least bytes) differs may = λ fresh block e. onward-rests (store_of cs) (store_of ds) on least block.pointers (may (fresh-at k least fresh) block e)
  may-still k (kind.Mark op least block a) differs may = mark-stays k least block a differs may
  may-still k (kind.Root op held a key) differs may = λ fresh. is_from_reached (store_of ds) (rests_on (store_of ds) held) a (on held a (reached_from_is (store_of cs) (rests_on (store_of cs) held) a (may (fresh-at k held fresh))))
  may-still k (kind.Drop op key) differs may = tt
  may-still k (kind.Enter op epoch) differs may = tt
  may-still k (kind.Got sender epoch round total deltas) differs may = tt
  may-still k (kind.Base view epoch swept round frames) differs may = tt
  may-still k (kind.KeptBlock born mark flags count bytes) differs may = tt
  may-still k (kind.KeptRoot created dropped counted address key) differs may = tt
  may-still k (kind.KeptRound way other_peer epoch round total deltas) differs may = tt

  -- a Mark that names an entry up to a number names none above it
  pub is-other : (front : ℕ → ℕ) (k : ℕ) (other : Entry) → front deed.shard < deed.number → NamesUpTo (front k) other → IsOther k other
  is-other front k (kind.View view) above up = tt
  is-other front k (kind.Block op least bytes) above up = tt
  is-other front k (kind.Mark op least block a) above up = λ same is. let here : front k ≡ front deed.shard = ap front same in omega (arith, above, up, here, is)
  is-other front k (kind.Root op held a key) above up = tt
  is-other front k (kind.Drop op key) above up = tt
  is-other front k (kind.Enter op epoch) above up = tt
  is-other front k (kind.Got sender epoch round total deltas) above up = tt
  is-other front k (kind.Base view epoch swept round frames) above up = tt
  is-other front k (kind.KeptBlock born mark flags count bytes) above up = tt
  is-other front k (kind.KeptRoot created dropped counted address key) above up = tt
  is-other front k (kind.KeptRound way other_peer epoch round total deltas) above up = tt
