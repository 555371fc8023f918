-- A run over sound lists, of any number of copies, begins with what its disks may have being good.
use Rattle.std.proofs.Common.{◌≡◌, ◌∙◌, ap, sym, subst, refl, arith, ℕ, zero, suc, ◌+◌, ◌<◌, ◌≤◌, Bool, true, false, if◌then◌else◌, List, [], ◌++◌, None, length}
use Rattle.std.proofs.Math.ListN.{get_or-map}
use Rattle.std.proofs.lemmas.List.{length-map}
use Rattle.std.proofs.lemmas.List.Elements.{All-from_recursion, recursion_from_All}
use Rattle.std.proofs.lemmas.List.FromFn.{length-enumerate_from}
use Rattle.std.specs.Prelude.{map}
use Rattle.hs_copies.specs.Lists.{IsFront, Item}
use Rattle.hs_copies.specs.Machine.{Copies}
use Rattle.hs_core_copies.proofs.OpeningLemmas.{told_members}
use Rattle.hs_core_copies.proofs.StepsLemmas.{ends}
use Rattle.hs_core_copies.specs.InStep.{IsOf}
use Rattle.hs_core_copies.specs.Lists.{numbered}
use Rattle.hs_core_words.specs.Looking.{front_of, group_of, home, shape_of, status_of}
use Rattle.hs_core_words.specs.Opening.{begin_views, first_members, new_core, note_down}
use Rattle.hs_core_words.specs.Records.{HasRecordRoom}
use Rattle.hs_core_words.specs.State.{Core}
use Rattle.hs_entry.specs.declared.entry.Entry.{Entry}
use Rattle.hs_events.specs.Found.{Found, first_core, opened_list, opens_with, starts_good}
use Rattle.hs_events.specs.Sane.{IsFromOne}
use Rattle.hs_events.specs.Whole.{grown, open_whole, reach}
use Rattle.hs_fold.proofs.PrefixLemmas.{last-length}
use Rattle.hs_fold.specs.Lawful.{Deed, list_at}
use Rattle.hs_fold.specs.Prefix.{IsNumbered, last_of}
use Rattle.hs_fold.specs.Runs.Catalogue.{catalogue_of}
use Rattle.hs_fold.specs.Runs.Facts.{Catalogue as Folded}
use Rattle.hs_fold.specs.Runs.Fits.{catalogue_at}
use Rattle.hs_fold.specs.Runs.History.{no_entries}
use Rattle.hs_fold.specs.Runs.Opened.{catalogues, store_of}
use Rattle.hs_fold.specs.Shards.Setting.{Numbered, Setting, shard_in}
use Rattle.hs_fold.specs.Shards.Sound.{HasRisingViews}
use Rattle.hs_known_copies.proofs.KnownLemmas.{whole_opens}
use Rattle.hs_laws.specs.Valid.{IsValid}
use Rattle.hs_limits.specs.declared.limits.PeerStatus.TheVariants.{Down, Good}
use Rattle.hs_limits.specs.declared.shape.Shape.{Shape}
use Rattle.hs_members.specs.Members.{Members, status}
use Rattle.hs_model.specs.Store.{Store}
use Rattle.hs_standing.proofs.FirstLemmas.{first_held}
use Rattle.hs_standing.proofs.LegalOpenLemmas.{folds_valid, standing_new, standing_opens}
use Rattle.hs_standing.proofs.RunLemmas.{LawsBelow}
use Rattle.hs_standing.proofs.SettleLemmas.{within_as}
use Rattle.hs_standing.proofs.StandingLemmas.{standing_beside, standing_downed}
use Rattle.hs_standing.proofs.TakenLemmas.{may_open}
use Rattle.hs_standing.specs.Legal.{IsStanding}
use Rattle.hs_standing.specs.Lists.{Lists, whole_from}
use Rattle.hs_standing.specs.Opening.{opened_folds, opened_lists}
use Rattle.hs_standing.specs.Run.{RunBegins, RunStands}
use Rattle.hs_standing.specs.Standing.{judging_of}
use Rattle.hs_standing.specs.Start.{Start}
use Rattle.hs_answered.specs.Standing.{store_with}
use Rattle.hs_whole_copies.proofs.OpenLemmas.{opens_whole, took_first}
use Rattle.hs_whole_copies.specs.Whole.{IsShardInStep, IsWholeInStep, longest}
use Rattle.hs_tails.proofs.EntryLemmas.{numbered_from, what}
use Rattle.hs_tails.proofs.ReachLemmas.{good_front}
use Rattle.hs_tails.proofs.StepLemmas.{lead_rests}
use Rattle.hs_tails.proofs.ViewLemmas.{front_views}
use Rattle.hs_tails.specs.Chosen.{tail_behind}
use Rattle.hs_tails.specs.Run.{HasGoodTail, RunsWithTails, took_in}
use Rattle.hs_tails.specs.Tails.{AreAscending, RestsIn}

-- the store of folds has no session
no_sessions : (cs : List Folded) → store_of cs ≡ store_with cs []
no_sessions cs = refl

fold_from : (set : Setting) (lists : Lists) (k n j : ℕ) → j < n → catalogue_at (catalogues set k (whole_from lists k n)) j ≡ catalogue_of (shard_in set (k + j)) (lists.whole (k + j))
fold_from set lists k zero j low = absurd (omega (arith, low))
fold_from set lists k (suc n) zero low = let is : k ≡ k + 0 = omega arith in ap (λ m. catalogue_of (shard_in set m) (lists.whole m)) is
fold_from set lists k (suc n) (suc j) low =
    let is : k + 1 + j ≡ k + suc j = omega arith in
    fold_from set lists (k + 1) n j (omega (arith, low)) ∙ ap (λ m. catalogue_of (shard_in set m) (lists.whole m)) is

list_from : (lists : Lists) (k n j : ℕ) → j < n → list_at (whole_from lists k n) j ≡ lists.whole (k + j)
list_from lists k zero j low = absurd (omega (arith, low))
list_from lists k (suc n) zero low = let is : k ≡ k + 0 = omega arith in ap (λ m. lists.whole m) is
list_from lists k (suc n) (suc j) low =
    let is : k + 1 + j ≡ k + suc j = omega arith in
    list_from lists (k + 1) n j (omega (arith, low)) ∙ ap (λ m. lists.whole m) is

from_one : (list : Numbered) → IsFromOne list → IsNumbered list
from_one list l = subst (λ (es : Numbered). IsNumbered es) (sym l.counted) (numbered_from 0 l.entries l.plain)

module _ (below : LawsBelow) (start : Start) (found : Found) (b : RunBegins start found) (on : (first_core start.set found).ended ≡ None) (few : HasRecordRoom (first_core start.set found)) where
  abbrev first : Core
  first = first_core start.set found

  abbrev fresh : Core
  fresh = new_core start.set.shape start.set.limits (opens_with start.set found) found.opened

  entry_valid : IsValid start.entry
  entry_valid =
      subst (λ (s : Store). IsValid s) (sym (b.entry ∙ no_sessions (opened_folds start.set found)))
      (folds_valid start.set.name fresh (opened_folds start.set found) (may_open below.memory start.set found b.soundly start.commands).lawful)

  pub first_stands : RunStands start (first_core start.set found) (opened_folds start.set found)
  first_stands =
      first_held (λ core. RunStands start core (opened_folds start.set found))
      (record {
        beside = λ x y beside its. standing_beside below.views below.steps below.laws (judging_of start) b.soundly.names start.entry entry_valid x (opened_folds start.set found) its y beside;
        downed = λ peer x its. standing_downed below.views below.steps below.laws (judging_of start) b.soundly.names start.entry entry_valid x (opened_folds start.set found) its peer 0;
        views = λ shard x low none its. standing_opens (judging_of start) shard x start.entry (opened_folds start.set found) its low;
      })
      start.set.shape start.set.limits (opens_with start.set found) found.opened
      (subst (λ (s : Store). IsStanding (judging_of start) s fresh (opened_folds start.set found)) (sym (b.entry ∙ no_sessions (opened_folds start.set found)))
      (standing_new (judging_of start) start.set.shape (opens_with start.set found) found.opened (opened_folds start.set found) (may_open below.memory start.set found b.soundly start.commands)))

  members_are : (first_core start.set found).members ≡ first_members start.set.shape (opens_with start.set found)
  members_are = (ends (note_down (begin_views fresh))).members ∙ told_members start.set.shape start.set.limits (opens_with start.set found) found.opened

  pub first_shape : shape_of (first_core start.set found) ≡ start.set.shape
  first_shape = ap (λ (m : Members). m.shape) members_are

  pub status_at : (q : ℕ) → status_of q (first_core start.set found) ≡ (if starts_good found q then Good else Down)
  status_at q = ap (λ (m : Members). status q m) members_are ∙ get_or-map (λ g. if g then Good else Down) found.good q false

  pub opened : (machines : ℕ → Copies Entry) × IsWholeInStep (open_whole start.set found) machines
  opened = opens_whole start.set found (whole_opens start.set found b.soundly) on

  pub low_first : (g : ℕ) → g < start.set.shape.shards → g < (shape_of (first_core start.set found)).shards
  low_first g low = subst (λ (x : Shape). g < x.shards) (sym first_shape) low

  zero_left : (g : ℕ) → 0 + g ≡ g
  zero_left g = omega arith

  took_is : (g : ℕ) → g < start.set.shape.shards → took_in opened.0 g ≡ opened_list start.set found g
  took_is g low = took_first start.set found (whole_opens start.set found b.soundly) opened.0 opened.1 g low

  module _ (g : ℕ) (low : g < start.set.shape.shards) where
    pub k : IsShardInStep g (open_whole start.set found) (opened.0 g)
    k = opened.1.each g (low_first g low)

    front_is : last_of (opened_list start.set found g) ≡ front_of g (first_core start.set found)
    front_is =
        last-length (opened_list start.set found g) (from_one (opened_list start.set found g) (b.soundly.lists g low))
        ∙ ap (λ (es : Numbered). length es) (sym (took_is g low))
        ∙ length-enumerate_from 1 (map what (opened.0 g).took) ∙ length-map (opened.0 g).took what ∙ sym k.in_step.stands.front

    -- a front of the lead's list, which a disk may have
    good_first : (q : ℕ) (list : List (Item Entry)) → reach (open_whole start.set found) q ≡ numbered list → IsFront list (opened.0 g).log → HasGoodTail start (open_whole start.set found) opened.0 (opened_folds start.set found) g q
    good_first q list is front =
        let st = k.in_step.stands in
        record {
          views = subst (λ (xs : Numbered). HasRisingViews xs) (sym is) (front_views st.begun st.begun_at (opened.0 g) st.faithful st.told list front);
          rests = λ has. subst (λ (xs : Numbered). RestsIn start.set.name (first_core start.set found) (opened_folds start.set found) g (tail_behind (front_of g (first_core start.set found)) xs)) (sym is)
              (lead_rests (judging_of start) start.entry (first_core start.set found) (opened_folds start.set found) first_stands few g (low_first g low) (opened.0 g) k.in_step list front);
        }

    -- what a disk may have is a front of the lead's list
    pub first_list : (q : ℕ) → IsOf (shape_of (first_core start.set found)) g q → (list : List (Item Entry)) × ((reach (open_whole start.set found) q ≡ numbered list) × IsFront list (opened.0 g).log)
    first_list q own = go (starts_good found q) refl
      where
        go : (x : Bool) → starts_good found q ≡ x → (list : List (Item Entry)) × ((reach (open_whole start.set found) q ≡ numbered list) × IsFront list (opened.0 g).log)
        go true e = (
          longest q (first_core start.set found) (opened.0 g),
          (k.reaches q own, good_front g q (first_core start.set found) (opened.0 g) k.in_step own (status_at q ∙ ap (λ x. if x then Good else Down) e)),
        )
        go false e = (
          [],
          (ap (λ x. (if x then grown (group_of (home q (first_core start.set found)) (first_core start.set found)) q (opened_list start.set found (home q (first_core start.set found))) else []) ++ []) e, tt),
        )

    tails_first : (q : ℕ) → IsOf (shape_of (first_core start.set found)) g q → HasGoodTail start (open_whole start.set found) opened.0 (opened_folds start.set found) g q
    tails_first q own = let l = first_list q own in good_first q l.0 l.1.0 l.1.1

  history_first : AreAscending start.set (λ g. front_of g (first_core start.set found)) (opened_folds start.set found)
  history_first =
      let law = b.soundly.sound.sound.lawful in
      record {
        history = law.history;
        ascends = law.ascends;
        within = All-from_recursion (λ (d : Deed). d.number ≤ front_of d.shard (first_core start.set found)) law.history
            (within_as start.set (no_entries start.set) law.history (λ g. last_of (list_at (whole_from (opened_lists start.set found) 0 start.set.shape.shards) g)) (λ g. front_of g (first_core start.set found)) law.fits
            (λ g low. (let is = ap (λ (es : Numbered). last_of es) (list_from (opened_lists start.set found) 0 start.set.shape.shards g low ∙ ap (λ m. opened_list start.set found m) (zero_left g)) ∙ front_is g low in omega (arith, is)))
            (recursion_from_All (λ (d : Deed). d.number ≤ last_of (list_at (whole_from (opened_lists start.set found) 0 start.set.shape.shards) d.shard)) law.history law.within));
        fits = law.fits;
        records = b.soundly.sound.records;
        gives = law.gives;
      }

  pub tails_begin : RunsWithTails start (open_whole start.set found)
  tails_begin = record {
    names = b.soundly.names;
    valid = entry_valid;
    turn = below.opens start.commands start.set.shape start.set.limits (opens_with start.set found) found.opened b.nobody;
    shape = first_shape;
    machines = opened.0;
    whole = opened.1;
    folds = opened_folds start.set found;
    stands = first_stands;
    few = few;
    history = history_first;
    settled = λ g low. fold_from start.set (opened_lists start.set found) 0 start.set.shape.shards g low ∙ ap (λ m. catalogue_of (shard_in start.set m) (opened_list start.set found m)) (zero_left g)
        ∙ ap (λ es. catalogue_of (shard_in start.set g) es) (sym (took_is g low));
    tails = λ g q low own. tails_first g low q own;
  }
