-- How far a shard has swept changes by an Enter or a Got alone, and by these only where the shard sweeps.
use Rattle.std.proofs.Common.{◌≡◌, ◌∙◌, sym, ap, subst, ◌⊎◌, inl, inr, ℕ, zero, suc, ◌<◌, ◌==◌, ◌&&◌, ◌||◌, Bool, true, false, cond, not, List, [], ◌∷◌, length, Option, Some, None, refl, is_none, is_some, arith}
use Rattle.std.proofs.lemmas.Grind.{common_steps}
use Rattle.std.specs.Option.{option_map_or}
use Rattle.std.specs.Prelude.{Result, Ok, Err, slice_index, slice_index_or}
use Rattle.hs_core_words.specs.Looking.{catalogue_of, shape_of}
use Rattle.hs_core_words.specs.State.{Core}
use Rattle.hs_desk.specs.declared.what.What.TheVariants as what
use Rattle.hs_effects.proofs.FoldLemmas.{after_is, low_here, memory_at}
use Rattle.hs_effects.proofs.LawfulLemmas.{entry_part}
use Rattle.hs_effects.specs.Lawful.{IsLawful, MayFollow}
use Rattle.hs_effects.specs.Taking.{IsNamed, done_by, folds_behind, next_deed, setting_of}
use Rattle.hs_entry.specs.declared.entry.Entry.{Entry}
use Rattle.hs_entry.specs.declared.entry.Entry.TheVariants as kind
use Rattle.hs_fold.proofs.Shards.PlaceLemmas.{length-set, same-at}
use Rattle.hs_fold.specs.Runs.Facts.{Catalogue as Folded, empty_catalogue}
use Rattle.hs_fold.specs.Runs.Fits.{catalogue_at}
use Rattle.hs_fold.specs.Runs.Happening.{ends_run}
use Rattle.hs_fold.specs.Runs.History.{applied}
use Rattle.hs_fold.specs.Runs.Opened.{store_of}
use Rattle.hs_fold.specs.Runs.Rounds.{may_enter}
use Rattle.hs_fold.specs.Shards.Happening.{Happening, enters, happen_by, sweeps}
use Rattle.hs_joint.specs.Along.{DoesItsPart, happening_by}
use Rattle.hs_limits.specs.declared.address.Address.{Address}
use Rattle.hs_limits.specs.declared.spelling.SpellingFault.{SpellingFault}
use Rattle.hs_limits.specs.Block.{Block}
use Rattle.hs_limits.specs.Reading.{read_block}
use Rattle.hs_limits.specs.Shape.{shard_of_key}
use Rattle.hs_memory.specs.Forget.{forget}
use Rattle.hs_model.specs.Store.{Store}
use Rattle.hs_replica.specs.Kinds.{is_block}
use Rattle.hs_roots.specs.Roots.{drop_root as without_root, put_root as with_root, retained_of}
use Rattle.hs_shard.specs.Apply.{apply, named_as}
use Rattle.hs_shard.specs.Clients.{change_at, drop_root, give, mark_block, new_facts, only, put_root, root_refusal, store_block, with_block}
use Rattle.hs_shard.specs.declared.facts.Facts.{Facts}
use Rattle.hs_shard.specs.Facts.{Catalogue, facts_at, has_room, is_fresh, is_mine}

-- ---- what clients' entries leave

abbrev pub IsRound : Entry → Type 0
IsRound (kind.Enter op epoch) = Unit {0}
IsRound (kind.Got from epoch round total deltas) = Unit {0}
IsRound other = ⊥

abbrev SweptSame : Catalogue → Catalogue → Type 0
SweptSame c d = d.swept ≡ c.swept

stores : (number least : ℕ) (a : Address) (read : Result Block SpellingFault) (c : Catalogue) → SweptSame c (store_block number least a read c).catalogue
stores number least a (Err fault) c = refl
stores number least a (Ok block) c = go (not (is_mine a c) || is_some (facts_at a c)) (not (is_fresh least c && has_room c))
  where
    go : (p q : Bool) → SweptSame c (cond p (only what.Nothing c) (cond q (only what.Refused c) (only what.Stored (with_block a (new_facts number c.epoch block.pointers) c)))).catalogue
    go true q = refl
    go false true = refl
    go false false = refl

marks : (least number : ℕ) (a : Address) (c : Catalogue) → SweptSame c (mark_block least number a c).catalogue
marks least number a c = go (not (option_map_or (λ (f : Facts). f.number == number) (facts_at a c) false)) (not (is_fresh least c))
  where
    go : (p q : Bool) → SweptSame c (cond p (only what.Again c) (cond q (only what.Refused c) (only what.Marked (record c { blocks = change_at a (give c.epoch) c.blocks })))).catalogue
    go true q = refl
    go false true = refl
    go false false = refl

puts : (held : ℕ) (a : Address) (key : List ℕ) (c : Catalogue) → SweptSame c (put_root held a key c).catalogue
puts held a key c = go (not (shard_of_key c.shape.shards key == c.shard)) (not (is_fresh held c) || is_some (root_refusal a key c))
  where
    go : (p q : Bool) → SweptSame c (cond p (only what.Nothing c) (cond q (only what.Refused c) (only what.Rooted (record c { roots = with_root key a c.epoch c.roots })))).catalogue
    go true q = refl
    go false true = refl
    go false false = refl

drops : (key : List ℕ) (c : Catalogue) → SweptSame c (drop_root key c).catalogue
drops key c = go (is_none (retained_of key c.roots))
  where
    go : (p : Bool) → SweptSame c (cond p (only what.Refused c) (only what.Dropped (record c { roots = without_root key c.epoch c.roots }))).catalogue
    go true = refl
    go false = refl

-- an entry is an Enter or a Got, or a shard has swept as far as before
pub round_or_same : (number : ℕ) (entry : Entry) (address : Option Address) (c : Catalogue) → IsRound entry ⊎ ((apply number entry address c).catalogue.swept ≡ c.swept)
round_or_same number (kind.View view) address c = inr refl
round_or_same number (kind.Block op least bytes) address c = inr (stores number least (named_as address) (read_block bytes) c)
round_or_same number (kind.Mark op least block a) address c = inr (marks least block a c)
round_or_same number (kind.Root op held a key) address c = inr (puts held a key c)
round_or_same number (kind.Drop op key) address c = inr (drops key c)
round_or_same number (kind.Enter op epoch) address c = inl tt
round_or_same number (kind.Got from epoch round total deltas) address c = inl tt
round_or_same number (kind.Base view epoch swept round frames) address c = inr refl
round_or_same number (kind.KeptBlock born mark flags count bytes) address c = inr refl
round_or_same number (kind.KeptRoot created dropped counted a key) address c = inr refl
round_or_same number (kind.KeptRound way other epoch round total deltas) address c = inr refl

-- of these no address comes
pub round_called : (name : List ℕ → Address) (core : Core) (entry : Entry) → IsRound entry → IsNamed name entry core
round_called name core (kind.Enter op epoch) is = refl
round_called name core (kind.Got from epoch round total deltas) is = refl
round_called name core other is = absurd is

-- nor is one of them a Block
pub round_no_block : (entry : Entry) → IsRound entry → is_block entry ≡ false
round_no_block (kind.Enter op epoch) is = refl
round_no_block (kind.Got from epoch round total deltas) is = refl
round_no_block other is = absurd is

-- ---- in the plain store

swept_at : (cs : List Folded) (shard : ℕ) → shard < length cs → slice_index_or (store_of cs).swept shard 0 ≡ (catalogue_at cs shard).swept
swept_at [] shard low = absurd (omega (arith, low))
swept_at (c ∷ cs) zero low = refl
swept_at (c ∷ cs) (suc shard) low = swept_at cs shard (grind (arith, common_steps, low))

epoch_at : (cs : List Folded) (shard : ℕ) → shard < length cs → slice_index (store_of cs).epochs shard ≡ (catalogue_at cs shard).epoch
epoch_at [] shard low = absurd (omega (arith, low))
epoch_at (c ∷ cs) zero low = refl
epoch_at (c ∷ cs) (suc shard) low = epoch_at cs shard (grind (arith, common_steps, low))

swept_long : (cs : List Folded) → length (store_of cs).swept ≡ length cs
swept_long [] = refl
swept_long (c ∷ cs) = ap (λ n. suc n) (swept_long cs)

-- what happens by an Enter or a Got leaves what was swept, or is a sweep of its shard
enter_same : (shard : ℕ) (cs : List Folded) (b : Bool) → ((happen_by (store_of cs) (cond b (Some (enters shard)) None)).swept ≡ (store_of cs).swept) ⊎ (cond b (Some (enters shard)) None ≡ Some (sweeps shard))
enter_same shard cs true = inl refl
enter_same shard cs false = inl refl

got_sweeps : (shard : ℕ) (cs : List Folded) (b : Bool) → ((happen_by (store_of cs) (cond b (Some (sweeps shard)) None)).swept ≡ (store_of cs).swept) ⊎ (cond b (Some (sweeps shard)) None ≡ Some (sweeps shard))
got_sweeps shard cs true = inr refl
got_sweeps shard cs false = inl refl

module _ (name : List ℕ → Address) (cs : List Folded) (core : Core) (shard : ℕ) (its : IsLawful name core cs) where
  happens : (entry : Entry) → IsRound entry → ((happen_by (store_of cs) (happening_by (setting_of name core) cs (next_deed shard entry core))).swept ≡ (store_of cs).swept)
      ⊎ (happening_by (setting_of name core) cs (next_deed shard entry core) ≡ Some (sweeps shard))
  happens (kind.Enter op epoch) is = enter_same shard cs (may_enter (catalogue_at cs shard) epoch)
  happens (kind.Got from epoch round total deltas) is =
      got_sweeps shard cs (ends_run (shape_of core).shards (catalogue_at cs shard) (record { epoch = epoch; round = round; from = from }) (record { total = total; deltas = deltas }))
  happens other is = absurd is

  module _ (entry : Entry) (is : IsRound entry) (may : MayFollow (setting_of name core) cs (next_deed shard entry core)) where
    low : shard < length cs
    low = low_here name cs core shard entry its.folded may.of

    part : DoesItsPart (setting_of name core) cs (next_deed shard entry core)
    part = entry_part name cs core shard entry its may

    abbrev next : Folded
    next = applied (setting_of name core) cs (next_deed shard entry core)

    left : (done_by shard entry core).catalogue.swept ≡ slice_index_or (happen_by (store_of cs) (happening_by (setting_of name core) cs (next_deed shard entry core))).swept shard 0
    left =
        ap (λ (k : Catalogue). k.swept) (after_is name cs core shard entry its.folded may.of (round_called name core entry is))
        ∙ ap (λ (k : Folded). k.swept) (sym (same-at empty_catalogue cs shard next low))
        ∙ sym (swept_at (folds_behind name cs shard entry core) shard (subst (λ n. shard < n) (sym (length-set cs shard next)) low))
        ∙ ap (λ (s : Store). slice_index_or s.swept shard 0) part.store

    memory : catalogue_of shard core ≡ forget (shape_of core) shard (catalogue_at cs shard)
    memory = memory_at name cs core shard entry its.folded may.of

    -- by such an entry that may come next a shard has swept as far as before, or it sweeps
    pub round_sweeps : ((done_by shard entry core).catalogue.swept ≡ (catalogue_of shard core).swept) ⊎ (happening_by (setting_of name core) cs (next_deed shard entry core) ≡ Some (sweeps shard))
    round_sweeps = elim (happens entry is) [
      | inl same ↦ inl (left ∙ ap (λ ss. slice_index_or ss shard 0) same ∙ swept_at cs shard low ∙ ap (λ (k : Catalogue). k.swept) (sym memory))
      | inr sweeping ↦ inr sweeping
    ]

    -- up to its epoch
    pub sweeps_up_to : happening_by (setting_of name core) cs (next_deed shard entry core) ≡ Some (sweeps shard) → (done_by shard entry core).catalogue.swept ≡ (catalogue_of shard core).epoch
    sweeps_up_to sweeping =
        left
        ∙ ap (λ (o : Option Happening). slice_index_or (happen_by (store_of cs) o).swept shard 0) sweeping
        ∙ same-at 0 (store_of cs).swept shard (slice_index (store_of cs).epochs shard) (subst (λ n. shard < n) (sym (swept_long cs)) low)
        ∙ epoch_at cs shard low ∙ ap (λ (k : Catalogue). k.epoch) (sym memory)
