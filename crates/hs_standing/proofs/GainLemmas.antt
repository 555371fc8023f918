-- What an answer gives a session to hold.
use Rattle.std.proofs.Common.{◌≡◌, sym, subst, ℕ, Bool, true, false, cond, List, [], ◌∷◌, Option, Some, None, refl}
use Rattle.std.specs.BTreeMap.{is_at}
use Rattle.std.specs.List.{AllByRecursion}
use Rattle.std.specs.Option.{option_and_then, option_map_or}
use Rattle.hs_core_words.specs.Looking.{catalogue_of, shape_of}
use Rattle.hs_core_words.specs.Seeing.{pointers_for}
use Rattle.hs_core_words.specs.State.{Core}
use Rattle.hs_standing.specs.Held.{AreAddressed, GivesAddresses, Has32Bytes, KeepsAddresses}
use Rattle.hs_standing.proofs.AllLemmas.{all_index, all_map, each_found}
use Rattle.hs_standing.proofs.CatalogueLemmas.{RootsKeep, Stands}
use Rattle.hs_standing.proofs.HandleLemmas.{AreWhole, nothing_is}
use Rattle.hs_limits.specs.declared.address.Address.{Address}
use Rattle.hs_limits.specs.declared.address.Held.{Held}
use Rattle.hs_model.specs.declared.op.Op.{Op}
use Rattle.hs_model.specs.declared.op.Op.TheVariants as op
use Rattle.hs_model.specs.Judge.{given_address}
use Rattle.hs_model.specs.Store.{address_cmp, helds_of}
use Rattle.hs_ops.specs.Answers.{gained, root_address}
use Rattle.hs_ops.specs.Speaking.{wanted_address}
use Rattle.hs_ops.specs.Views.{OpView}
use Rattle.hs_roots.specs.Roots.{retained_of, retains}
use Rattle.hs_roots.specs.declared.root.RootRecord.{RootRecord}
use Rattle.hs_shard.specs.declared.facts.Facts.{Facts}
use Rattle.hs_shard.specs.Facts.{Catalogue, empty_catalogue, facts_at}
use Rattle.hs_tokens.specs.Seats.{found}

-- ---- what is looked up

pub shard_keeps : (core : Core) (shard : ℕ) → AreAddressed core → KeepsAddresses (catalogue_of shard core)
shard_keeps core shard its = all_index (λ (c : Catalogue). KeepsAddresses c) core.catalogues shard (empty_catalogue (shape_of core) shard) (record { blocks = tt; roots = tt }) its.catalogues

pub pointers_whole : (shard : ℕ) (o : Op) (core : Core) → AreAddressed core → AllByRecursion Has32Bytes (pointers_for shard o core)
pointers_whole shard o core its = by_wanted (wanted_address core.sessions o)
  where
    by_facts : (a : Address) (found : Option Facts) → facts_at a (catalogue_of shard core) ≡ found → AllByRecursion Has32Bytes (option_map_or (λ (f : Facts). f.pointers) found [])
    by_facts a None e = tt
    by_facts a (Some f) e = (each_found Stands (is_at (address_cmp a)) (catalogue_of shard core).blocks f e (shard_keeps core shard its).blocks).1.1

    by_wanted : (wanted : Option Address) → AllByRecursion Has32Bytes (option_map_or (λ (f : Facts). f.pointers) (option_and_then (λ a. facts_at a (catalogue_of shard core)) wanted) [])
    by_wanted None = tt
    by_wanted (Some a) = by_facts a (facts_at a (catalogue_of shard core)) refl

root_whole : (key : List ℕ) (roots : List RootRecord) → RootsKeep roots → Has32Bytes (root_address (retained_of key roots))
root_whole key [] h = nothing_is
root_whole key (root ∷ roots) h = go (retains key root) (root_whole key roots h.1)
  where
    go : (b : Bool) → Has32Bytes (root_address (retained_of key roots)) → Has32Bytes (root_address (cond b (Some root) (retained_of key roots)))
    go true ih = h.0
    go false ih = ih

helds_whole : (pointers : List Address) (epoch : ℕ) → AllByRecursion Has32Bytes pointers → AreWhole (helds_of pointers epoch)
unfolding helds_of
helds_whole pointers epoch h = all_map (λ (held : Held). Has32Bytes held.address) (λ (a : Address). Has32Bytes a) (λ (a : Address). record { address = a; epoch = epoch }) (λ a w. w) pointers h

-- ---- what is gained

-- a write's address has 32 bytes
abbrev pub IsGivenWhole : Op → Type 0
IsGivenWhole o = (session payload handles : List ℕ) (address : Option Address) → o ≡ op.Write session payload handles address → Has32Bytes (given_address address)

pub gained_whole : (v : OpView) (pointers : List Address) (o : Op) → AllByRecursion Has32Bytes pointers → RootsKeep v.roots → IsGivenWhole o → AreWhole (gained v pointers o)
unfolding gained
gained_whole v pointers (op.Open session) ps roots given = tt
gained_whole v pointers (op.Close session) ps roots given = tt
gained_whole v pointers (op.Write session payload handles address) ps roots given = (given session payload handles address refl, tt)
gained_whole v pointers (op.Read session handle) ps roots given = helds_whole pointers (found v.seats session handle).epoch ps
gained_whole v pointers (op.Look session key) ps roots given = (root_whole key v.roots roots, tt)
gained_whole v pointers (op.Root session key handle) ps roots given = tt
gained_whole v pointers (op.Drop key) ps roots given = tt
gained_whole v pointers (op.Forget session handle) ps roots given = tt
gained_whole v pointers (op.Name session handle) ps roots given = tt
gained_whole v pointers op.Delete ps roots given = tt
gained_whole v pointers op.Stat ps roots given = tt

-- a name that is given has them
pub name_whole : (name : List ℕ → Address) → GivesAddresses name → (bytes : List ℕ) (address : Option Address) → address ≡ Some (name bytes) → Has32Bytes (given_address address)
name_whole name names bytes address e = subst (λ (x : Option Address). Has32Bytes (given_address x)) (sym e) (names bytes)
