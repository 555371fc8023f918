-- A small journal of deeds, counted: a key that is kept and dropped, and two deletions that leave nothing.
use Rattle.std.specs.Prelude.{◌≡◌, ◌∷◌, refl, ℕ, zero, suc, List, [], ◌++◌, Some, None, replicate}
use Rattle.std.proofs.Common.{arith}
use Rattle.std.specs.List.{AllByRecursion}
use Rattle.hs_deeds.specs.Told.{store_after}
use Rattle.hs_limits.specs.declared.address.Address.{Address}
use Rattle.hs_loaded.specs.Counts.{dropped_in, entered_in, retained_count, rooted_in}
use Rattle.hs_loaded.specs.Leaving.{ChangesNothingHeld, HaveSweptTwice}
use Rattle.hs_model.specs.declared.deed.Deed.{Deed}
use Rattle.hs_model.specs.declared.deed.Deed.TheVariants as deed
use Rattle.hs_model.specs.declared.op.Asked.TheVariants as asked
use Rattle.hs_model.specs.declared.reply.Reply.{Reply}
use Rattle.hs_model.specs.declared.reply.Reply.TheVariants as reply
use Rattle.hs_model.specs.Deeds.{DeedEntry}
use Rattle.hs_model.specs.Store.{Store, empty_store}

abbrev ann : List ℕ
ann = 97 ∷ []

abbrev key : List ℕ
key = 107 ∷ []

-- of shard 0, and of shard 1
abbrev leaf : Address
leaf = record { 0 = replicate 31 0 ++ 2 ∷ [] }

abbrev top : Address
top = record { 0 = replicate 31 0 ++ 1 ∷ [] }

abbrev told : ℕ → Deed → Reply → DeedEntry
told line d r = record { line = Some line; deed = d; reply = r }

abbrev noted : Deed → Reply → DeedEntry
noted d r = record { line = None; deed = d; reply = r }

-- a leaf and what points to it are written, and the top is kept under a key
abbrev keeping : List DeedEntry
keeping = told 1 (deed.Opened ann) reply.Ok ∷ told 2 (deed.Wrote ann leaf [] 0) (reply.New 0 1) ∷ told 3 (deed.Wrote ann top (leaf ∷ []) 1) (reply.New 1 1) ∷ told 4 (deed.Rooted key top) reply.Ok ∷ []

abbrev giving_up : List DeedEntry
giving_up = told 5 (deed.Refused (asked.Read ann 7)) (reply.NoHandle 7) ∷ told 6 (deed.Dropped key) reply.Ok ∷ told 7 (deed.Closed ann) reply.Ok ∷ []

-- a deletion finds both given lately, the next one removes both
abbrev deleting : List DeedEntry
deleting = told 8 (deed.Entered 0) (reply.Run 2) ∷ noted (deed.Entered 1) (reply.Enter 2) ∷ noted (deed.Swept 0) (reply.Sweep 2 0) ∷ noted (deed.Swept 1) (reply.Sweep 2 0)
    ∷ noted deed.Nothing (reply.Done 2) ∷ told 9 (deed.Entered 0) (reply.Run 3) ∷ noted (deed.Entered 1) (reply.Enter 3) ∷ noted (deed.Swept 1) (reply.Sweep 3 1)
    ∷ noted (deed.Swept 0) (reply.Sweep 3 1) ∷ noted deed.Nothing (reply.Done 3) ∷ []

abbrev blank : Store
blank = empty_store 2

abbrev kept : Store
kept = store_after blank keeping

abbrev given_up : Store
given_up = store_after kept giving_up

abbrev deleted : Store
deleted = store_after given_up deleting

counts : (rooted_in (keeping ++ giving_up ++ deleting) ≡ 1) × (dropped_in (keeping ++ giving_up ++ deleting) ≡ 1) × (entered_in 0 (keeping ++ giving_up ++ deleting) ≡ 2) × (entered_in 1 (keeping ++ giving_up ++ deleting) ≡ 2)
counts = (refl, refl, refl, refl)

roots : (retained_count blank ≡ 0) × (retained_count kept ≡ 1) × (retained_count given_up ≡ 0)
roots = (refl, refl, refl)

left : (deleted.blocks ≡ []) × (deleted.epochs ≡ 3 ∷ 3 ∷ []) × (deleted.swept ≡ 3 ∷ 3 ∷ [])
left = (refl, refl, refl)

-- these are deletion runs alone, and what comes before is not
alone : AllByRecursion (λ e. ChangesNothingHeld e.deed) deleting
alone = (tt, (tt, (tt, (tt, (tt, (tt, (tt, (tt, (tt, (tt, tt))))))))))

not_alone : AllByRecursion (λ e. ChangesNothingHeld e.deed) giving_up → ⊥
not_alone h = h.1.0

-- each shard has swept two epochs more than the first
swept_twice : HaveSweptTwice deleted 1
swept_twice zero low = omega arith
swept_twice (suc zero) low = omega arith
swept_twice (suc (suc shard)) low = absurd (omega (arith, low))
