-- Runs of the core that the check computes: one copy, and four of which one fails and one joins.
use Rattle.std.proofs.Common.{◌≡◌, ℕ, zero, suc, ◌<◌, true, false, if◌then◌else◌, List, [], ◌∷◌, inl, inr, refl, arith, map, Option, Some, None, Bool}
use Rattle.std.specs.Prelude.{slice_index_or}
use Rattle.hs_entry.specs.declared.entry.Entry.{Entry}
use Rattle.hs_entry.specs.declared.entry.Entry.TheVariants.{Drop, View}
use Rattle.hs_limits.specs.declared.limits.PeerStatus.TheVariants as is
use Rattle.hs_limits.specs.declared.shape.Shape.{Shape}
use Rattle.hs_limits.specs.Shape.{peer_of}
use Rattle.hs_members.specs.Members.{Members, status}
use Rattle.hs_rejoin.specs.Rejoin.{Rejoin, new_rejoin}
use Rattle.hs_replica.specs.declared.replica.Replica.{Replica}
use Rattle.hs_copies.specs.CoreCopies.{CoreCopies, core_open}
use Rattle.hs_copies.specs.CoreRuns.{Begins, Commits, CommitsAndAnswers, CoreCall, CopiesTo, Empties, Fails, Hears, Joins, MayCallAll, Proposes, Seals, Starts, TakesCopy, after_calls}
use Rattle.hs_copies.specs.Lines.{set_waits}
use Rattle.hs_copies.specs.Standing.{IsOpening}

-- of which line an entry is: here only drops are of one
abbrev line_of : Entry → Option ℕ
line_of (Drop op key) = Some op
line_of entry = None

-- no peer joins at opening
abbrev none_joins : ℕ → Rejoin
none_joins peer = new_rejoin 0

-- ---- one copy

abbrev single : Shape
single = record { shards = 1; copies = 1 }

abbrev one_member : Members
one_member = record { shape = single; views = 1 ∷ []; statuses = is.Good ∷ [] }

-- a blank shard is opened: the View of view 1 is proposed
abbrev one_opened : CoreCopies
one_opened = core_open single 0 0 0 (true ∷ []) one_member none_joins

one_is_an_opening : IsOpening single 0 [] (true ∷ []) one_member
one_is_an_opening = record {
  same = refl;
  valid = record { shape = record { shards = inl refl; some_copy = omega arith; copies = omega arith }; views = refl; statuses = refl };
  within = omega arith;
  copies = refl;
  ascends = tt;
  view = refl;
  each = first;
  some = refl;
}
  where
    first : (copy : ℕ) → copy < 1 → status (peer_of single 0 copy) one_member ≡ (if slice_index_or (true ∷ []) copy false then is.Good else is.Down)
    first zero l = refl
    first (suc n) l = absurd (omega (arith, l))

-- it is sealed and takes effect; so does an entry of line 7 that is proposed then, and the line is answered by it
abbrev one_calls : List CoreCall
one_calls = Seals 0 1 ∷ Commits ∷ Begins 7 ∷ Proposes (Drop 7 (97 ∷ [])) ∷ Seals 0 2 ∷ CommitsAndAnswers 7 ∷ []

-- line 7 has no answer once it began
waits_for_7 : (waits : ℕ → Bool) (k : ℕ) → Some 7 ≡ Some k → set_waits 7 true waits k ≡ true
waits_for_7 waits k e = let i : 7 ≡ k = cc e in rw (← i) refl

one_may : MayCallAll line_of one_calls one_opened
one_may = (
  ((omega arith, omega arith), refl, omega arith, omega arith),
  (
    tt,
    (
      tt,
      (
        ((λ view. refl), (λ k e. (waits_for_7 (λ j. false) k e, λ entry m f. m))),
        (
          ((omega arith, omega arith), refl, omega arith, omega arith),
          (((2, Drop 7 (97 ∷ [])), refl, refl), tt),
        ),
      ),
    ),
  ),
)

one_is_done : (after_calls one_calls one_opened).group.front ≡ 2
one_is_done = refl

-- ---- four copies, of which peer 3 is down at first

abbrev quad : Shape
quad = record { shards = 1; copies = 4 }

abbrev four_members : Members
four_members = record { shape = quad; views = 1 ∷ []; statuses = is.Good ∷ is.Good ∷ is.Good ∷ is.Down ∷ [] }

abbrev four_opened : CoreCopies
four_opened = core_open quad 0 0 0 (true ∷ true ∷ true ∷ false ∷ []) four_members none_joins

-- the View of view 1 takes effect; an entry is proposed, which peer 1 alone takes
abbrev first_calls : List CoreCall
first_calls =
    Seals 0 1
    ∷ TakesCopy 0 1 1 1 (View 1)
    ∷ Seals 1 1
    ∷ Hears 0 1 0 1 1
    ∷ TakesCopy 0 2 1 1 (View 1)
    ∷ Seals 2 1
    ∷ Hears 0 2 0 1 1
    ∷ Commits
    ∷ Begins 7
    ∷ Proposes (Drop 7 (97 ∷ []))
    ∷ TakesCopy 0 1 1 2 (Drop 7 (97 ∷ []))
    ∷ []

first_may : MayCallAll line_of first_calls four_opened
first_may = (
  ((omega arith, omega arith), refl, omega arith, omega arith),
  (
    ((omega arith, omega arith), inl refl),
    (
      ((omega arith, omega arith), refl, omega arith, omega arith),
      (
        ((omega arith, omega arith), inl refl),
        (
          ((omega arith, omega arith), inr (inr (inl refl))),
          (
            ((omega arith, omega arith), refl, omega arith, omega arith),
            (
              ((omega arith, omega arith), inl refl),
              (
                tt,
                (
                  tt,
                  (
                    ((λ view. refl), (λ k e. (waits_for_7 (λ j. false) k e, λ entry m f. m))),
                    (
                      ((omega arith, omega arith), inl refl),
                      tt,
                    ),
                  ),
                ),
              ),
            ),
          ),
        ),
      ),
    ),
  ),
)

abbrev first_state : CoreCopies
first_state = after_calls first_calls four_opened

first_is : (first_state.group.front ≡ 1) × (map (λ (c : Replica). c.stamps) first_state.group.copies ≡ (1 ∷ 1 ∷ []) ∷ (1 ∷ 1 ∷ []) ∷ (1 ∷ []) ∷ [] ∷ [])
first_is = (refl, refl)

-- the lead fails, and peer 1 leads; peer 3 joins
abbrev later_calls : List CoreCall
later_calls = Fails 0 ∷ Starts 3 ∷ Empties 3 ∷ CopiesTo 3 1 1 ∷ CopiesTo 3 2 1 ∷ CopiesTo 3 3 1 ∷ Joins 3 1 ∷ []

later_may : MayCallAll line_of later_calls first_state
later_may = (
  ((omega arith, omega arith), refl, refl),
  (
    ((omega arith, omega arith), refl),
    (
      ((omega arith, omega arith), refl, refl),
      (
        ((omega arith, omega arith), refl, refl, refl, refl, omega arith),
        (
          ((omega arith, omega arith), refl, refl, refl, refl, omega arith),
          (
            ((omega arith, omega arith), refl, refl, refl, refl, omega arith),
            (
              ((omega arith, omega arith), refl, refl, refl),
              tt,
            ),
          ),
        ),
      ),
    ),
  ),
)

abbrev later_state : CoreCopies
later_state = after_calls later_calls first_state

-- the copy that failed keeps its list, and the one that joined has the lead's
later_is : (later_state.group.view ≡ 3)
    × (later_state.members.statuses ≡ is.Down ∷ is.Good ∷ is.Good ∷ is.Good ∷ [])
    × (map (λ (c : Replica). c.stamps) later_state.group.copies ≡ (1 ∷ 1 ∷ []) ∷ (1 ∷ 1 ∷ 2 ∷ 3 ∷ []) ∷ (1 ∷ []) ∷ (1 ∷ 1 ∷ 2 ∷ []) ∷ [])
later_is = (refl, refl, refl)
