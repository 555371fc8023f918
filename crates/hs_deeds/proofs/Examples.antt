-- A few deeds, computed: a block that is found, a collision, and a new block of one who holds none; and, beside each, what is no deed.
use Rattle.std.specs.Prelude.{◌≡◌, ◌∷◌, ◌++◌, refl, ℕ, Bool, true, false, IsTrue, List, [], Some, replicate}
use Rattle.std.proofs.Common.{arith}
use Rattle.hs_deeds.specs.Told.{answered_as, store_after}
use Rattle.hs_limits.specs.declared.address.Address.{Address}
use Rattle.hs_limits.specs.declared.limits.Limits.{Limits}
use Rattle.hs_model.specs.declared.deed.Deed.{Deed}
use Rattle.hs_model.specs.declared.deed.Deed.TheVariants as deed
use Rattle.hs_model.specs.declared.op.Asked.{Asked}
use Rattle.hs_model.specs.declared.op.Asked.TheVariants as asked
use Rattle.hs_model.specs.declared.op.Op.TheVariants as op
use Rattle.hs_model.specs.declared.reply.Reply.{Reply}
use Rattle.hs_model.specs.declared.reply.Reply.TheVariants as reply
use Rattle.hs_model.specs.Deeds.{Busy, DeedEntry, IsDeed, MayBeRefused, Refused, is_there, refusals_told}
use Rattle.hs_model.specs.Judge.{granted, judge, refusals}
use Rattle.hs_model.specs.Refusals.{first, no_handle_in, stale_in}
use Rattle.hs_model.specs.Store.{Store, empty_store, helds_of}

abbrev limits : Limits
limits = record {
  blocks = 4;
  roots = 4;
  sessions = 2;
  handles = 4;
  pool = 16;
  epochs = 9;
  ops = 100;
}

abbrev ann : List ℕ
ann = 97 ∷ []

abbrev ben : List ℕ
ben = 98 ∷ []

-- of shard 0, of shard 1, and of shard 0 again
abbrev leaf : Address
leaf = record { 0 = replicate 31 0 ++ 2 ∷ [] }

abbrev top : Address
top = record { 0 = replicate 31 0 ++ 1 ∷ [] }

abbrev absent : Address
absent = record { 0 = replicate 31 0 ++ 4 ∷ [] }

abbrev told : ℕ → Deed → Reply → DeedEntry
told line d r = record { line = Some line; deed = d; reply = r }

-- ann writes a leaf and what points to it; ben is there too, and holds nothing
abbrev writing : List DeedEntry
writing = told 1 (deed.Opened ann) reply.Ok ∷ told 2 (deed.Wrote ann leaf [] 0) (reply.New 0 1) ∷ told 3 (deed.Wrote ann top (leaf ∷ []) 1) (reply.New 1 1) ∷ told 4 (deed.Opened ben) reply.Ok ∷ []

abbrev written : Store
written = store_after (empty_store 2) writing

abbrev IsNext : Deed → Reply → Type 0
IsNext d r = IsDeed limits written writing (told 5 d r)

-- ---- blocks that are found

-- ann, who holds the leaf, may find what points to it
found : IsNext (deed.Marked ann top 2) (reply.Dup 2 1)
unfolding helds_of
found = record { printed = refl; done = record { is_open = refl; present = refl; held = (record { handle = 0; epoch = 1; held = refl; fresh = omega arith }, tt); next = refl; reply = refl } }

-- ben can't: whatever he wrote is another block
another : IsNext (deed.Marked ben top 0) (reply.Dup 0 1) → ⊥
unfolding helds_of
another h = cc h.done.held.0.held

-- what he is told of a block without pointers at that address
judged : answered_as 5 (judge limits written (op.Write ben [] [] (Some top))) ≡ told 5 (deed.Refused (asked.Write ben 0 [] (Some top))) reply.Collision
unfolding judge refusals granted no_handle_in stale_in helds_of
judged = refl

-- ---- collisions

abbrev colliding : Address → Asked
colliding a = asked.Write ben 0 [] (Some a)

collides : IsNext (deed.Refused (colliding top)) reply.Collision
unfolding refusals_told no_handle_in stale_in helds_of
collides = record { printed = refl; done = Refused (record { collides = true; there = λ h. refl; first_of = refl }) }

-- there is none where no block is
nothing_there : IsNext (deed.Refused (colliding absent)) reply.Collision → ⊥
unfolding refusals_told no_handle_in stale_in helds_of
nothing_there h = by h.done
  where
    none : (c : Bool) → (IsTrue c → IsTrue (is_there written (colliding absent))) → first (refusals_told limits written (colliding absent) c) ≡ Some reply.Collision → ⊥
    none true there e = cc (there refl)
    none false there e = cc e

    by : MayBeRefused limits written writing (colliding absent) reply.Collision → ⊥
    by (Busy line e answered) = cc e
    by (Refused r) = none r.collides r.there r.first_of

-- ---- new blocks

new : IsNext (deed.Wrote ben absent [] 0) (reply.New 0 1)
unfolding refusals_told no_handle_in stale_in helds_of
new = record { printed = refl; done = record { is_open = refl; absent = refl; held = tt; granted = record { bytes = 1; handles = []; stand_for = refl; granted = refl }; next = refl; reply = refl } }

-- that with the handle that is ann's next is none of ben's
anns_handle : IsNext (deed.Wrote ben absent [] 2) (reply.New 2 1) → ⊥
unfolding helds_of
anns_handle h = omega (arith, h.done.next)
