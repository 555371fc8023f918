-- A small journal of deeds, and changed ones that are none.
use Rattle.std.specs.Prelude.{◌≡◌, refl, ℕ, true, false, List, [], ◌∷◌, ◌++◌, Some, None, replicate}
use Rattle.std.proofs.Common.{ap, arith, sym}
use Rattle.std.proofs.lemmas.Option.{none-some}
use Rattle.hs_limits.specs.declared.address.Address.{Address}
use Rattle.hs_limits.specs.declared.limits.Limits.{Limits}
use Rattle.hs_model.specs.declared.op.Asked.TheVariants as asked
use Rattle.hs_model.specs.declared.deed.Deed.{Deed}
use Rattle.hs_model.specs.declared.deed.Deed.TheVariants as deed
use Rattle.hs_model.specs.declared.reply.Reply.{Reply}
use Rattle.hs_model.specs.declared.reply.Reply.TheVariants as reply
use Rattle.hs_model.specs.Deeds.{AreDeeds, Busy, DeedEntry, MayBeRefused, Refused, deed_store, is_answered, refusals_told}
use Rattle.hs_model.specs.Refusals.{no_handle_in, stale_in}
use Rattle.hs_model.specs.Store.{Store, empty_store, helds_of}

abbrev limits : Limits
limits = record {
  blocks = 4;
  roots = 4;
  sessions = 2;
  handles = 4;
  pool = 16;
  epochs = 9;
  ops = 100;
}

abbrev ann : List ℕ
ann = 97 ∷ []

abbrev key : List ℕ
key = 107 ∷ []

-- of shard 0, and of shard 1
abbrev leaf : Address
leaf = record { 0 = replicate 31 0 ++ 2 ∷ [] }

abbrev top : Address
top = record { 0 = replicate 31 0 ++ 1 ∷ [] }

abbrev told : ℕ → Deed → Reply → DeedEntry
told line d r = record { line = Some line; deed = d; reply = r }

abbrev noted : Deed → Reply → DeedEntry
noted d r = record { line = None; deed = d; reply = r }

-- a leaf and what points to it are written, the leaf is found again, the top is kept under a key and read
abbrev writing : List DeedEntry
writing = told 1 (deed.Opened ann) reply.Ok ∷ told 2 (deed.Wrote ann leaf [] 0) (reply.New 0 1) ∷ told 3 (deed.Wrote ann top (leaf ∷ []) 1) (reply.New 1 1)
    ∷ told 4 (deed.Marked ann leaf 2) (reply.Dup 2 1) ∷ told 5 (deed.Rooted key top) reply.Ok ∷ told 6 (deed.Refused (asked.Read ann 7)) (reply.NoHandle 7)
    ∷ told 7 (deed.ReadBlock ann top 1 (3 ∷ [])) (reply.Bytes (1 ∷ 2 ∷ []) (3 ∷ [])) ∷ told 8 deed.Nothing (reply.Name leaf) ∷ told 9 (deed.Dropped key) reply.Ok
    ∷ told 10 (deed.Closed ann) reply.Ok ∷ []

-- a deletion finds both given lately, the next one removes both
abbrev deleting : List DeedEntry
deleting = told 11 (deed.Entered 0) (reply.Run 2) ∷ noted (deed.Entered 1) (reply.Enter 2) ∷ noted (deed.Swept 0) (reply.Sweep 2 0) ∷ noted (deed.Swept 1) (reply.Sweep 2 0)
    ∷ noted deed.Nothing (reply.Done 2) ∷ told 12 (deed.Entered 0) (reply.Run 3) ∷ noted (deed.Entered 1) (reply.Enter 3) ∷ noted (deed.Swept 1) (reply.Sweep 3 1)
    ∷ noted (deed.Swept 0) (reply.Sweep 3 1) ∷ noted deed.Nothing (reply.Done 3)
    ∷ told 13 deed.Nothing (reply.Stat 0 0 0 (3 ∷ 3 ∷ []) (3 ∷ 3 ∷ [])) ∷ []

-- the store after some deeds
abbrev after : Store → List DeedEntry → Store
after s [] = s
after s (e ∷ es) = after (deed_store s e.deed) es

abbrev blank : Store
blank = empty_store 2

abbrev written : Store
written = after blank writing

written_are_deeds : AreDeeds limits blank [] writing
unfolding refusals_told no_handle_in stale_in helds_of
written_are_deeds = (
  record { printed = refl; done = (refl, refl) },
  (
    record { printed = refl; done = record { is_open = refl; absent = refl; held = tt; granted = record { bytes = 1; handles = []; stand_for = refl; granted = refl }; next = refl; reply = refl } },
    (
      record { printed = refl; done = record { is_open = refl; absent = refl; held = (record { handle = 0; epoch = 1; held = refl; fresh = omega arith }, tt); granted = record { bytes = 0; handles = 0 ∷ []; stand_for = refl; granted = refl }; next = refl; reply = refl } },
      (
        record { printed = refl; done = record { is_open = refl; present = refl; held = tt; next = refl; reply = refl } },
        (
          record { printed = refl; done = record { held = record { name = ann; held = record { handle = 1; epoch = 1; held = refl; fresh = omega arith } }; granted = refl; reply = refl } },
          (
            record { printed = refl; done = Refused (record { collides = false; there = λ h. h; first_of = refl }) },
            (
              record { printed = refl; done = record { handle = 1; held = refl; fresh = omega arith; next = refl; bytes = 1 ∷ 2 ∷ []; reply = refl } },
              (
                record { printed = refl; done = record { name = ann; handle = 0; epoch = 1; held = refl } },
                (
                  record { printed = refl; done = (refl, refl) },
                  (
                    record { printed = refl; done = (refl, refl) },
                    tt,
                  ),
                ),
              ),
            ),
          ),
        ),
      ),
    ),
  ),
)

deleted_are_deeds : AreDeeds limits written writing deleting
unfolding refusals_told no_handle_in stale_in helds_of
deleted_are_deeds = (
  record { printed = refl; done = (refl, refl, refl) },
  (
    record { printed = refl; done = (omega arith, refl, refl) },
    (
      record { printed = refl; done = (omega arith, refl, refl) },
      (
        record { printed = refl; done = (omega arith, refl, refl) },
        (
          record { printed = refl; done = (refl, refl) },
          (
            record { printed = refl; done = (refl, refl, refl) },
            (
              record { printed = refl; done = (omega arith, refl, refl) },
              (
                record { printed = refl; done = (omega arith, refl, refl) },
                (
                  record { printed = refl; done = (omega arith, refl, refl) },
                  (
                    record { printed = refl; done = (refl, refl) },
                    (
                      record { printed = refl; done = refl },
                      tt,
                    ),
                  ),
                ),
              ),
            ),
          ),
        ),
      ),
    ),
  ),
)

-- ---- changed ones

-- a handle that is not the session's next
wrong_handle : AreDeeds limits blank [] (told 1 (deed.Opened ann) reply.Ok ∷ told 2 (deed.Wrote ann leaf [] 5) (reply.New 5 1) ∷ []) → ⊥
unfolding helds_of
wrong_handle h = omega (arith, h.1.0.done.next)

-- a shard sweeps that has not entered
abbrev entered : List DeedEntry
entered = told 11 (deed.Entered 0) (reply.Run 2) ∷ []

wrong_shard : AreDeeds limits (after written entered) (writing ++ entered) (noted (deed.Swept 1) (reply.Sweep 2 0) ∷ []) → ⊥
unfolding helds_of
wrong_shard h = let never : false ≡ true = h.0.done.1 in cc never

-- a handle is refused that the session holds
abbrev holding : List DeedEntry
holding = told 1 (deed.Opened ann) reply.Ok ∷ told 2 (deed.Wrote ann leaf [] 0) (reply.New 0 1) ∷ []

wrong_refusal : AreDeeds limits (after blank holding) holding (told 3 (deed.Refused (asked.Read ann 0)) (reply.NoHandle 0) ∷ []) → ⊥
unfolding refusals_told no_handle_in stale_in helds_of
wrong_refusal h = no h.0.done
  where
    no : MayBeRefused limits (after blank holding) holding (asked.Read ann 0) (reply.NoHandle 0) → ⊥
    no (Busy line e f) = cc e
    no (Refused r) = none-some (reply.NoHandle 0) r.first_of

-- a done that comes before the last sweep
abbrev half_swept : List DeedEntry
half_swept = told 11 (deed.Entered 0) (reply.Run 2) ∷ noted (deed.Entered 1) (reply.Enter 2) ∷ noted (deed.Swept 0) (reply.Sweep 2 0) ∷ []

early_done : AreDeeds limits (after written half_swept) half_swept (noted deed.Nothing (reply.Done 2) ∷ []) → ⊥
unfolding helds_of
early_done h = let never : false ≡ true = h.0.done.1 in cc never

-- a session is told to be busy with a line that has its answer
wrong_busy : AreDeeds limits (after blank holding) holding (told 3 (deed.Refused (asked.Read ann 0)) (reply.Busy 2) ∷ []) → ⊥
unfolding refusals_told no_handle_in stale_in helds_of
wrong_busy h = no h.0.done
  where
    line_in : Reply → ℕ
    line_in (reply.Busy line) = line
    line_in other = 0

    busy_is : {line : ℕ} → reply.Busy 2 ≡ reply.Busy line → 2 ≡ line
    busy_is e = ap line_in e

    no : MayBeRefused limits (after blank holding) holding (asked.Read ann 0) (reply.Busy 2) → ⊥
    no (Busy line e f) = let has : is_answered holding line ≡ true = ap (λ n. is_answered holding n) (sym (busy_is e)) in cc (has, f)
    no (Refused r) = none-some (reply.Busy 2) r.first_of
