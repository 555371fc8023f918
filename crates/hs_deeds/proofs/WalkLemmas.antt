-- Along changes of a core, whatever addresses writes bring and whatever bytes are told: what was told is deeds, up to the core's store without data.
use Rattle.std.proofs.Common.{◌≡◌, ◌∙◌, sym, ap, subst, ℕ, ◌+◌, ◌<◌, ◌≤◌, ◌&&◌, ◌||◌, Bool, true, false, not, List, [], ◌∷◌, ◌++◌, length, map, Option, Some, None, is_some, refl, append_assoc, nat_le, arith, slice_get}
use Rattle.std.proofs.lemmas.Bool.{and_parts}
use Rattle.std.specs.BTreeMap.{is_at}
use Rattle.std.specs.List.{list_all, list_any}
use Rattle.std.specs.Map.{lookup}
use Rattle.std.specs.Option.{option_map, option_map_or}
use Rattle.std.specs.Ordering.{nat_cmp}
use Rattle.hs_answered.proofs.ShownLemmas.{held_is}
use Rattle.hs_answered.specs.Asked.{IsAsked}
use Rattle.hs_answered.specs.Standing.{IsFolded, store_with}
use Rattle.hs_any_events.proofs.CodedChangeLemmas.{bytes_coded, effect_coded, goes_coded, line_coded}
use Rattle.hs_any_events.proofs.CodedCoreLemmas.{IsCoded, coded_waiting, group_alike, operation_is, same_sessions}
use Rattle.hs_any_events.proofs.CodedGroupLemmas.{IsCommitted, committed_alike}
use Rattle.hs_any_events.proofs.CodedLemmas.{Code, coded_name, coded_named, coded_op, short_coded}
use Rattle.hs_any_events.proofs.CodedOpLemmas.{coded_bytes}
use Rattle.hs_any_events.proofs.CodedWalkLemmas.{IsCodedSteady, IsTabled, IsTabledLine, few_there, low_there, views_coded, walks_coded}
use Rattle.hs_any_events.proofs.SteadyLemmas.{IsSteady, grounded_of, judging, again_like}
use Rattle.hs_awaiting.specs.Words.{change_with}
use Rattle.hs_awaiting.specs.declared.wait.Wait.TheVariants as wait
use Rattle.hs_awaiting.specs.declared.waiting.Waiting.{Waiting}
use Rattle.hs_core_words.specs.Plain.{add_shards}
use Rattle.hs_core_words.specs.Asking.{send_round}
use Rattle.hs_core_words.specs.Changing.{change_pool, note, refuse, add_operation, change_group, post, set_viewed}
use Rattle.hs_core_words.specs.Delivering.{is_new_round}
use Rattle.hs_core_words.specs.Effects.{round_messages}
use Rattle.hs_core_words.specs.Entering.{is_enter_due}
use Rattle.hs_core_words.specs.Looking.{catalogue_of, front_of, group_of, operation_of, shape_of}
use Rattle.hs_core_words.specs.Operating.{begin_line, go_on_with, propose_entry, resume, busy_line}
use Rattle.hs_core_words.specs.Seeing.{pointers_for, view_for}
use Rattle.hs_core_words.specs.State.{Core}
use Rattle.hs_core_words.specs.Views.{begin_view, restart}
use Rattle.hs_deeds.proofs.AddsLemmas.{bytes_adds, effect_adds, goes_adds, line_adds}
use Rattle.hs_deeds.proofs.AlikeLemmas.{answered_same, longer_entry}
use Rattle.hs_deeds.proofs.BytesDeedLemmas.{ReadsAnyBytes}
use Rattle.hs_deeds.proofs.CarryLemmas.{carried, folded_there, points_back, points_there}
use Rattle.hs_deeds.proofs.ChangeLemmas.{effect_tells, goes_tells, line_tells, told_tells}
use Rattle.hs_deeds.proofs.GivenDeedLemmas.{ByPointers}
use Rattle.hs_deeds.proofs.GoOnLemmas.{tells_on}
use Rattle.hs_deeds.proofs.MarkedLemmas.{points_again, points_beside, points_effect, points_goes, points_line, points_opens, points_own, points_round, points_told}
use Rattle.hs_deeds.proofs.OnLemmas.{map_join}
use Rattle.hs_deeds.specs.History.{HasTold, deeds_of}
use Rattle.hs_deeds.specs.On.{AreUnanswered, DeedsOn, Whatever}
use Rattle.hs_deeds.specs.Points.{MarksPoint}
use Rattle.hs_deeds.specs.Told.{store_after}
use Rattle.hs_effects.proofs.FoldLemmas.{quiet_folds}
use Rattle.hs_effects.proofs.EffectLemmas.{committed_named}
use Rattle.hs_effects.proofs.FreeLemmas.{are_addressed, is_bounded}
use Rattle.hs_effects.proofs.QuietLemmas.{going_quiet, proposed_quiet}
use Rattle.hs_effects.proofs.SweepLemmas.{ByViews}
use Rattle.hs_effects.specs.Answered.{HoldAddresses}
use Rattle.hs_effects.specs.Lawful.{MayFollow}
use Rattle.hs_effects.specs.Logged.{HasBlock, IsCalled, IsNewLine}
use Rattle.hs_effects.specs.Taking.{folds_behind, taken, IsNamed, done_by, setting_of, next_deed}
use Rattle.hs_entry.specs.declared.entry.Entry.{Entry}
use Rattle.hs_entry.specs.declared.entry.Entry.TheVariants as kind
use Rattle.hs_fold.specs.Runs.Facts.{Catalogue as Folded}
use Rattle.hs_fold.specs.Runs.Opened.{pruned}
use Rattle.hs_fold.specs.Shards.Parted.{NamesUpTo}
use Rattle.hs_fold.specs.Shards.Sound.{most_records}
use Rattle.hs_journal.specs.declared.entry.JournalEntry.{JournalEntry}
use Rattle.hs_journal.specs.declared.entry.Who.TheVariants as who
use Rattle.hs_journal.specs.Deeds.{as_deed}
use Rattle.hs_journal.specs.Events.{has_block}
use Rattle.hs_limits.specs.declared.address.Address.{Address}
use Rattle.hs_limits.specs.declared.address.Held.{Held}
use Rattle.hs_limits.specs.declared.delta.Delta.{Delta}
use Rattle.hs_limits.specs.declared.limits.Limits.{Limits}
use Rattle.hs_limits.specs.declared.shape.Shape.{Shape}
use Rattle.hs_limits.specs.declared.spelling.TheConstants.{MOST_BYTES, MOST_POINTERS}
use Rattle.hs_members.specs.Members.{view_of}
use Rattle.hs_model.specs.declared.deed.Deed.TheVariants as deed
use Rattle.hs_model.specs.declared.op.Op.{Op}
use Rattle.hs_model.specs.declared.op.Op.TheVariants as op
use Rattle.hs_model.specs.declared.reply.Reply.{Reply}
use Rattle.hs_model.specs.declared.reply.Reply.TheVariants as reply
use Rattle.hs_model.specs.Deeds.{AreDeeds, DeedEntry, is_answered}
use Rattle.hs_model.specs.Store.{Store, empty_store, held_at, with_sessions}
use Rattle.hs_ops.specs.Operations.{bytes_step, go_step, new_operation}
use Rattle.hs_ops.specs.Speaking.{asked_block, asked_pointers, judging_shard}
use Rattle.hs_ops.specs.declared.step.OpStep.{OpStep}
use Rattle.hs_post.specs.declared.message.Message.TheVariants as message
use Rattle.hs_post.specs.Pool.{message_at, without}
use Rattle.hs_replica.specs.Group.{committed, renewal, renew}
use Rattle.hs_rounds.specs.Rounds.{sent_back}
use Rattle.hs_shard.specs.Rounds.{messages}
use Rattle.hs_shown.specs.Showing.{as_sessions}
use Rattle.hs_standing.proofs.HandleLemmas.{hold_addresses}
use Rattle.hs_standing.proofs.HistoryLemmas.{told_folds}
use Rattle.hs_standing.proofs.Laws.{Entries, Steps}
use Rattle.hs_standing.proofs.LegalLineLemmas.{begun_quiet}
use Rattle.hs_standing.proofs.LegalOpenLemmas.{began_like, began_seats}
use Rattle.hs_standing.proofs.MuteLemmas.{Books, Words, at_once_books, books_of, going_books, proposed_books, proposed_words, step_books}
use Rattle.hs_standing.proofs.RestLemmas.{rests_follows}
use Rattle.hs_standing.specs.Changes.{IsBeside, IsIdle, told_at_once}
use Rattle.hs_standing.specs.Held.{GivesAddresses}
use Rattle.hs_standing.specs.Telling.{told_so_far}
use Rattle.hs_standing.specs.Walks.{Walks, WalksViews}
use Rattle.hs_tokens.specs.Seats.{Seats, seat_of}
use Rattle.hs_tokens.specs.Seats.{held_at as seat_held}
use Rattle.std.proofs.lemmas.Bool.Decides.{nat_tests}

-- ---- what stays where nothing is told

pub same_told : (limits : Limits) (start : Store) (a b : Core) → told_so_far b ≡ told_so_far a → b.catalogues ≡ a.catalogues → b.sessions ≡ a.sessions → HasTold limits start a → HasTold limits start b
same_told limits start a b told catalogues sessions its = record {
  deeds = subst (λ (es : List JournalEntry). AreDeeds limits start [] (map as_deed es)) (sym told) its.deeds;
  left =
      ap (λ (es : List JournalEntry). store_after start (map as_deed es)) told ∙ its.left
      ∙ sym (λ i. with_sessions (pruned (add_shards (catalogues i) (empty_store (length (catalogues i))))) (as_sessions (sessions i)));
}

told_by : (a b : Core) → books_of b ≡ books_of a → b.entries ≡ a.entries → told_so_far b ≡ told_so_far a
told_by a b books entries = λ i. ((books i).journal ++ (books i).refused) ++ entries i

proposed_told : (shard : ℕ) (entry : Entry) (c : Core) → told_so_far (propose_entry shard entry c) ≡ told_so_far c
proposed_told shard entry c = told_by c (propose_entry shard entry c) (proposed_books shard entry c) (ap (λ (x : Words). x.entries) (proposed_words shard entry c))

-- rounds that are sent again
again_told : (back shard : ℕ) (c : Core) → told_so_far (send_round back shard c) ≡ told_so_far c
again_told back shard c = by (sent_back back (catalogue_of shard c).run)
  where
    by : (at : Option (ℕ × ℕ)) → told_so_far (change_with at (λ x. post (round_messages shard (messages (catalogue_of shard c).shape.shards x.0 x.1 (catalogue_of shard c).run))) c) ≡ told_so_far c
    by None = refl
    by (Some x) = refl

again_seats : (back shard : ℕ) (c : Core) → (send_round back shard c).sessions ≡ c.sessions
again_seats back shard c = by (sent_back back (catalogue_of shard c).run)
  where
    by : (at : Option (ℕ × ℕ)) → (change_with at (λ x. post (round_messages shard (messages (catalogue_of shard c).shape.shards x.0 x.1 (catalogue_of shard c).run))) c).sessions ≡ c.sessions
    by None = refl
    by (Some x) = refl

-- a view that begins
pub began_told : (shard : ℕ) (c : Core) → told_so_far (begin_view shard c) ≡ told_so_far c
began_told shard c = proposed_told shard (kind.View (view_of shard c.members)) (post (renewal (group_of shard again)) again)
  where
    again : Core
    again = restart shard (change_group shard (renew c.members) (set_viewed shard false c))

-- a client's line that begins
begun_books : (line : ℕ) (o : Op) (c : Core) → books_of (begin_line line o c) ≡ books_of c
begun_books line o c = step_books line asking first at_line
  where
    asking : Waiting
    asking = record { operation = new_operation line o; shard = judging_shard (shape_of c).shards c.sessions o; wait = wait.View }

    at_line : Core
    at_line = add_operation line asking (record c { progress = record c.progress { last_line = line } })

    first : OpStep
    first = go_step (record (view_for (judging_shard (shape_of c).shards c.sessions o) o (record c { progress = record c.progress { last_line = line } })) { busy = busy_line o c }) asking.operation

-- ---- lines that are no client's

abbrev pub is_others : (ℕ → Bool) → DeedEntry → Bool
is_others clients e = option_map_or (λ (n : ℕ). not (clients n)) e.line false

-- no entry is of such a line
abbrev pub IsClean : (ℕ → Bool) → List DeedEntry → Type 0
IsClean clients es = list_any (is_others clients) es ≡ false

clean_before : (clients : ℕ → Bool) (es fs : List DeedEntry) → IsClean clients (es ++ fs) → IsClean clients es
clean_before clients [] fs clean = refl
clean_before clients (e ∷ es) fs clean = go (is_others clients e) (λ h. clean_before clients es fs h) clean
  where
    go : (b : Bool) → (IsClean clients (es ++ fs) → IsClean clients es) → (b || list_any (is_others clients) (es ++ fs)) ≡ false → (b || list_any (is_others clients) es) ≡ false
    go true ih h = absurd (cc h)
    go false ih h = ih h

unclean : (clients : ℕ → Bool) (es : List DeedEntry) (e : DeedEntry) → is_others clients e ≡ true → IsClean clients (es ++ e ∷ []) → ⊥
unclean clients [] e other clean = go (is_others clients e) other clean
  where
    go : (b : Bool) → b ≡ true → (b || false) ≡ false → ⊥
    go true e h = cc h
    go false e h = cc e
unclean clients (x ∷ es) e other clean = go (is_others clients x) (λ h. unclean clients es e other h) clean
  where
    go : (b : Bool) → (IsClean clients (es ++ e ∷ []) → ⊥) → (b || list_any (is_others clients) (es ++ e ∷ [])) ≡ false → ⊥
    go true ih h = cc h
    go false ih h = ih h

pub deeds_more : (a b : Core) (more : List JournalEntry) → b.journal ≡ a.journal → b.refused ≡ a.refused → b.entries ≡ a.entries ++ more → deeds_of b ≡ deeds_of a ++ map as_deed more
deeds_more a b more journal refused told =
    ap (λ (es : List JournalEntry). map as_deed es)
    (ap (λ (j : List JournalEntry). (j ++ b.refused) ++ b.entries) journal
    ∙ ap (λ (r : List JournalEntry). (a.journal ++ r) ++ b.entries) refused
    ∙ ap (λ (es : List JournalEntry). (a.journal ++ a.refused) ++ es) told
    ∙ sym (append_assoc (a.journal ++ a.refused) a.entries more))
    ∙ map_join as_deed (told_so_far a) more

-- ---- lines

all_alike : (f g : ℕ → Bool) → ((n : ℕ) → f n ≡ g n) → (ns : List ℕ) → list_all f ns ≡ list_all g ns
all_alike f g same [] = refl
all_alike f g same (n ∷ ns) = λ i. same n i && all_alike f g same ns i

le_from : (n m : ℕ) → nat_le n m ≡ true → n ≤ m
le_from n m h = grind (arith, nat_tests, h)

-- a write that comes without an address has no block
asked_by_table : (code : Code) (cs : List Folded) (seats : Seats) (o : Op) → IsTabled code seats o → IsAsked (store_with cs seats) (coded_op code o)
asked_by_table code cs seats (op.Write session payload handles (Some a)) tabled = tt
asked_by_table code cs seats (op.Write session payload handles None) tabled = go (has_block (store_with cs seats) session payload handles) refl
  where
    go : (b : Bool) → has_block (store_with cs seats) session payload handles ≡ b → has_block (store_with cs seats) session payload handles ≡ false
    go false e = e
    go true e =
        let outer = and_parts (list_all (λ handle. is_some (held_at (store_with cs seats) session handle)) handles && nat_le (length handles) MOST_POINTERS) (nat_le (length payload) MOST_BYTES) e in
        let inner = and_parts (list_all (λ handle. is_some (held_at (store_with cs seats) session handle)) handles) (nat_le (length handles) MOST_POINTERS) outer.0 in
        absurd (tabled (record {
          held = sym (all_alike (λ handle. is_some (held_at (store_with cs seats) session handle)) (λ handle. is_some (seat_held (seat_of session seats) handle)) (λ handle. ap (λ (x : Option Held). is_some x) (held_is (store_with cs seats) seats refl session handle)) handles) ∙ inner.0;
          few = le_from (length handles) MOST_POINTERS inner.1;
          short = le_from (length payload) MOST_BYTES outer.1;
        }))
asked_by_table code cs seats (op.Open name) tabled = tt
asked_by_table code cs seats (op.Close name) tabled = tt
asked_by_table code cs seats (op.Read name handle) tabled = tt
asked_by_table code cs seats (op.Look name key) tabled = tt
asked_by_table code cs seats (op.Root name key handle) tabled = tt
asked_by_table code cs seats (op.Drop key) tabled = tt
asked_by_table code cs seats (op.Forget name handle) tabled = tt
asked_by_table code cs seats (op.Name name handle) tabled = tt
asked_by_table code cs seats op.Delete tabled = tt
asked_by_table code cs seats op.Stat tabled = tt

called_by_table : (code : Code) (seats : Seats) → HoldAddresses seats → (o : Op) → IsTabled code seats o → IsCalled (coded_name code) seats (coded_op code o)
unfolding asked_block
called_by_table code seats holds (op.Write session payload handles (Some a)) tabled = λ has.
    let was : HasBlock seats session payload handles = record { held = has.held; few = has.few; short = short_coded code a payload has.short } in
    ap (λ (x : Address). Some x)
    (sym (coded_named code a (asked_pointers seats session handles) payload (tabled was) (is_bounded seats session payload handles was).pointers (are_addressed seats session payload holds handles) was.short))
called_by_table code seats holds (op.Write session payload handles None) tabled = λ has. absurd (tabled has)
called_by_table code seats holds other tabled = tt

-- ---- along changes

-- a client's line, as it comes: none that waits is answered yet
pub record MayComeHere (code : Code) (last line : ℕ) (o : Op) (c : Core) : Type 0 where
  pub tabled : IsTabledLine code last line o c
  pub unanswered : AreUnanswered c (deeds_of c)

pub record TellsDeeds (code : Code) (limits : Limits) (last : ℕ) (start : Store) (clients : ℕ → Bool) (c : Core) : Type 0 where
  pub its : IsCodedSteady code limits last c
  pub points : MarksPoint c
  pub told : IsClean clients (deeds_of c) → HasTold limits start c

module _ (views : ByViews) (shown : ByPointers) (steps : Steps) (reads : ReadsAnyBytes) (laws : Entries) (code : Code) (names : GivesAddresses (coded_name code)) (limits : Limits) (last : ℕ) (start : Store) (clients : ℕ → Bool) where
  abbrev Tells : Core → Type 0
  Tells c = TellsDeeds code limits last start clients c

  abbrev W : Walks (λ line o c. IsTabledLine code last line o c) (λ number bytes w c. Unit {0}) (λ line. Unit {0}) (λ c. IsCodedSteady code limits last c)
  W = walks_coded views steps reads laws code names limits last

  -- where a change tells deeds
  goes_by : (Known : List DeedEntry → Type 0) (cs behind : List Folded) (a b : Core) → IsFolded a cs → IsFolded b behind → DeedsOn Known limits cs behind a b → Known (deeds_of a) → (IsClean clients (deeds_of a) → HasTold limits start a) → IsClean clients (deeds_of b) → HasTold limits start b
  goes_by Known cs behind a b folded later on known told clean =
      tells_on Known limits start cs behind a b folded later on known
      (told (clean_before clients (deeds_of a) (map as_deed on.more) (subst (λ (es : List DeedEntry). IsClean clients es) (deeds_more a b on.more on.journal on.refused on.told) clean)))

  -- where it tells nothing
  quietly : (a b : Core) → told_so_far b ≡ told_so_far a → b.catalogues ≡ a.catalogues → b.sessions ≡ a.sessions → (IsClean clients (deeds_of a) → HasTold limits start a) → IsClean clients (deeds_of b) → HasTold limits start b
  quietly a b told catalogues sessions its clean = same_told limits start a b told catalogues sessions (its (subst (λ (es : List JournalEntry). IsClean clients (map as_deed es)) told clean))

  module _ (c : Core) (s : Tells c) where
    abbrev d : Core
    d = s.its.coded

    abbrev r : IsCoded code c s.its.coded
    r = s.its.beside

    abbrev cs : List Folded
    cs = s.its.steady.0

    abbrev steady : IsSteady (coded_name code) limits last s.its.coded s.its.steady.0
    steady = s.its.steady.1

    holds_d : HoldAddresses s.its.coded.sessions
    holds_d = hold_addresses s.its.coded.sessions steady.addressed.sessions

    holds_c : HoldAddresses c.sessions
    holds_c = subst (λ (seats : Seats). HoldAddresses seats) (same_sessions code c d r) holds_d

    folded_d : IsFolded s.its.coded s.its.steady.0
    folded_d = steady.lawful.folded

    folded_c : IsFolded c s.its.steady.0
    folded_c = folded_there code c d r cs folded_d

    points_d : MarksPoint s.its.coded
    points_d = points_there code c d r s.points

    -- ---- a client's line

    module _ (line : ℕ) (o : Op) (may : MayComeHere code last line o c) where
      abbrev a : Core
      a = begin_line line o c

      abbrev b : Core
      b = begin_line line (coded_op code o) s.its.coded

      tabled_d : IsTabled code s.its.coded.sessions o
      tabled_d = subst (λ (seats : Seats). IsTabled code seats o) (sym (same_sessions code c d r)) may.tabled.tabled

      newly : IsNewLine (coded_name code) s.its.coded line (coded_op code o)
      newly = record {
        new = operation_is code c d r line ∙ ap (λ (x : Option Waiting). option_map (coded_waiting code) x) may.tabled.new;
        counted = may.tabled.counted;
        called = called_by_table code d.sessions holds_d o tabled_d;
      }

      is_coded : IsCoded code (begin_line line o c) (begin_line line (coded_op code o) s.its.coded)
      is_coded = line_coded code c d r holds_c line o

      unanswered_there : (before : List DeedEntry) → AreUnanswered c before → AreUnanswered s.its.coded (map longer_entry before)
      unanswered_there before known l w at = by (operation_of l c) refl (sym (operation_is code c d r l) ∙ at)
        where
          by : (x : Option Waiting) → operation_of l c ≡ x → option_map (coded_waiting code) x ≡ Some w → is_answered (map longer_entry before) l ≡ false
          by None none e = absurd (cc e)
          by (Some u) was e = answered_same before l ∙ known l u was

      books_line : books_of (begin_line line o c) ≡ books_of c
      books_line = begun_books line o c

      line_on : DeedsOn (AreUnanswered c) limits s.its.steady.0 s.its.steady.0 c (begin_line line o c)
      line_on =
          carried (AreUnanswered c) (AreUnanswered d) code limits cs cs c a d b r is_coded (ap (λ (x : Books). x.journal) books_line) (ap (λ (x : Books). x.refused) books_line)
          (line_adds code c d r holds_c line o) unanswered_there
          (line_tells steps (coded_name code) limits cs d line (coded_op code o) steady.limited folded_d steady.orderly (asked_by_table code cs d.sessions o tabled_d))

      line_row : Tells (begin_line line o c)
      line_row = record {
        its = W.line line o c may.tabled s.its;
        points = points_back code a b is_coded (points_line (coded_name code) d steady.orderly points_d line (coded_op code o) newly);
        told = goes_by (AreUnanswered c) cs cs c a folded_c (quiet_folds c a cs (begun_quiet line o c) folded_c) line_on may.unanswered s.told;
      }

    -- ---- an operation goes on

    idle_there : (line : ℕ) → ((w : Waiting) → operation_of line c ≡ Some w → IsIdle w.wait) → (w : Waiting) → operation_of line s.its.coded ≡ Some w → IsIdle w.wait
    idle_there line idle w at = by (operation_of line c) refl (sym (operation_is code c d r line) ∙ at)
      where
        by : (x : Option Waiting) → operation_of line c ≡ x → option_map (coded_waiting code) x ≡ Some w → IsIdle w.wait
        by None there e = absurd (cc e)
        by (Some u) there e = let is : coded_waiting code u ≡ w = cc e in subst (λ (x : Waiting). IsIdle x.wait) is (idle u there)

    goes_row : (line : ℕ) → ((w : Waiting) → operation_of line c ≡ Some w → IsIdle w.wait) → Tells (resume line c)
    goes_row line idle = record {
      its = W.goes line c idle s.its;
      points = points_back code (resume line c) (resume line d) (goes_coded code c d r holds_c line) (points_goes (coded_name code) d steady.orderly points_d line (idle_there line idle));
      told = goes_by Whatever cs cs c (resume line c) folded_c (quiet_folds c (resume line c) cs (going_quiet go_step line c) folded_c)
          (carried Whatever Whatever code limits cs cs c (resume line c) d (resume line d) r (goes_coded code c d r holds_c line)
          (ap (λ (x : Books). x.journal) (going_books go_step line c)) (ap (λ (x : Books). x.refused) (going_books go_step line c))
          (goes_adds code c d r holds_c line) (λ before k. tt)
          (goes_tells steps (judging steady.commands (coded_name code) limits) cs d line steady.limited folded_d steady.orderly steady.commanded))
          tt s.told;
    }

    -- ---- one that waits for bytes is told them

    told_row : (line number : ℕ) (bytes : Option (List ℕ)) (w : Waiting) → operation_of line c ≡ Some w → w.wait ≡ wait.Bytes number → Tells (go_on_with (λ v o. bytes_step v bytes (pointers_for w.shard w.operation.op c) o) line c)
    told_row line number bytes w at waits = record {
      its = W.told line number bytes w c at waits tt s.its;
      points = points_back code mine theirs (bytes_coded code c d r holds_c line bytes w at) (points_told (coded_name code) d steady.orderly points_d line number other (coded_waiting code w) at_there waits);
      told = goes_by Whatever cs cs c mine folded_c (quiet_folds c mine cs (going_quiet (λ v o. bytes_step v bytes (pointers_for w.shard w.operation.op c) o) line c) folded_c)
          (carried Whatever Whatever code limits cs cs c mine d theirs r (bytes_coded code c d r holds_c line bytes w at)
          (ap (λ (x : Books). x.journal) (going_books (λ v o. bytes_step v bytes (pointers_for w.shard w.operation.op c) o) line c)) (ap (λ (x : Books). x.refused) (going_books (λ v o. bytes_step v bytes (pointers_for w.shard w.operation.op c) o) line c))
          (bytes_adds code c d r holds_c line bytes w at) (λ before k. tt)
          (told_tells views steps reads (judging steady.commands (coded_name code) limits) cs d line other (coded_waiting code w) steady.limited folded_d steady.orderly steady.commanded at_there))
          tt s.told;
    }
      where
        other : Option (List ℕ)
        other = coded_bytes code c.sessions w.operation.op bytes

        mine : Core
        mine = go_on_with (λ v o. bytes_step v bytes (pointers_for w.shard w.operation.op c) o) line c

        theirs : Core
        theirs = go_on_with (λ v o. bytes_step v (coded_bytes code c.sessions w.operation.op bytes) (pointers_for w.shard (coded_op code w.operation.op) s.its.coded) o) line s.its.coded

        at_there : operation_of line s.its.coded ≡ Some (coded_waiting code w)
        at_there = operation_is code c d r line ∙ ap (λ (x : Option Waiting). option_map (coded_waiting code) x) at

    -- ---- an entry takes effect

    module _ (shard number : ℕ) (entry : Entry) (low : shard < (shape_of c).shards) (leads : committed (group_of shard c) ≡ Some (number, entry)) (few : (g : ℕ) → length (catalogue_of g (taken shard entry c)).roots ≤ most_records) where
      abbrev there : IsCommitted (group_of shard c) (group_of shard s.its.coded) (group_alike code c s.its.coded s.its.beside shard) number entry
      there = committed_alike (group_of shard c) (group_of shard d) (group_alike code c d r shard) number entry leads

      abbrev other : Entry
      other = there.other

      low_d : shard < (shape_of s.its.coded).shards
      low_d = low_there code limits last c s.its shard low

      may : MayFollow (setting_of (coded_name code) s.its.coded) s.its.steady.0 (next_deed shard other s.its.coded)
      may = rests_follows (coded_name code) cs d (grounded_of (coded_name code) limits last d cs steady) shard number other low_d there.leads (few_there code limits last c s.its shard entry other there.alike few)

      called : IsNamed (coded_name code) other s.its.coded
      called = committed_named (coded_name code) d shard number other steady.orderly there.leads

      abbrev mine : Core
      mine = told_at_once shard entry c

      abbrev theirs : Core
      theirs = told_at_once shard other s.its.coded

      abbrev after : List Folded
      after = folds_behind (coded_name code) s.its.steady.0 shard other s.its.coded

      is_coded_then : IsCoded code (told_at_once shard entry c) (told_at_once shard other s.its.coded)
      is_coded_then = effect_coded code c d r holds_c shard entry other there.alike

      folded_then : IsFolded (told_at_once shard entry c) (folds_behind (coded_name code) s.its.steady.0 shard other s.its.coded)
      folded_then = folded_there code mine theirs is_coded_then after (told_folds (coded_name code) cs d shard other steady.lawful called may)

      names_d : (place : ℕ) (e : Entry) → slice_get (group_of shard s.its.coded).waiting place ≡ Some e → NamesUpTo (front_of shard s.its.coded) e
      names_d place e at = (steady.resting shard place e at).names

      books_then : books_of (told_at_once shard entry c) ≡ books_of c
      books_then = at_once_books shard entry (done_by shard entry c).effect (taken shard entry c)

      effect_on : DeedsOn Whatever limits s.its.steady.0 (folds_behind (coded_name code) s.its.steady.0 shard other s.its.coded) c (told_at_once shard entry c)
      effect_on =
          carried Whatever Whatever code limits cs after c mine d theirs r is_coded_then (ap (λ (x : Books). x.journal) books_then) (ap (λ (x : Books). x.refused) books_then)
          (effect_adds code c d r holds_c shard entry other there.alike) (λ before k. tt)
          (effect_tells views shown steps laws (judging steady.commands (coded_name code) limits) cs d shard number other steady.limited steady.lawful steady.orderly holds_d steady.commanded steady.epochs points_d there.leads may)

      effect_row : Tells (told_at_once shard entry c)
      effect_row = record {
        its = W.effect shard number entry c low leads few s.its;
        points = points_back code mine theirs is_coded_then (points_effect (coded_name code) cs d folded_d steady.orderly points_d shard number other low_d there.leads names_d);
        told = goes_by Whatever cs after c mine folded_c folded_then effect_on tt s.told;
      }

    -- ---- where nothing is told

    beside_row : (b : Core) → IsBeside c b → Tells b
    beside_row b beside = record {
      its = W.beside c b beside s.its;
      points = points_beside c b beside s.points;
      told = quietly c b beside.told beside.catalogues beside.sessions s.told;
    }

    due_row : (shard : ℕ) → shard < (shape_of c).shards → is_enter_due shard c ≡ true → Tells (propose_entry shard (kind.Enter 0 ((catalogue_of shard c).epoch + 1)) c)
    due_row shard low due = record {
      its = W.due shard c low due s.its;
      points = points_own c s.points shard 0 ((catalogue_of shard c).epoch + 1);
      told = quietly c (propose_entry shard (kind.Enter 0 ((catalogue_of shard c).epoch + 1)) c) (proposed_told shard (kind.Enter 0 ((catalogue_of shard c).epoch + 1)) c)
          (proposed_quiet shard (kind.Enter 0 ((catalogue_of shard c).epoch + 1)) c).catalogues (ap (λ (x : Words). x.sessions) (proposed_words shard (kind.Enter 0 ((catalogue_of shard c).epoch + 1)) c)) s.told;
    }

    round_row : (number from to epoch round total : ℕ) (deltas : List Delta) → to < (shape_of c).shards → message_at number c.pool ≡ Some (message.Round from to epoch round total deltas)
        → is_new_round to from epoch round (change_pool (without number) c) ≡ true → Tells (propose_entry to (kind.Got from epoch round total deltas) (change_pool (without number) c))
    round_row number from to epoch round total deltas low at new = record {
      its = W.round number from to epoch round total deltas c low at new s.its;
      points = points_round c s.points number from to epoch round total deltas;
      told = quietly c (propose_entry to (kind.Got from epoch round total deltas) (change_pool (without number) c)) (proposed_told to (kind.Got from epoch round total deltas) (change_pool (without number) c))
          (proposed_quiet to (kind.Got from epoch round total deltas) (change_pool (without number) c)).catalogues
          (ap (λ (x : Words). x.sessions) (proposed_words to (kind.Got from epoch round total deltas) (change_pool (without number) c))) s.told;
    }

    again_row : (back shard : ℕ) → Tells (send_round back shard c)
    again_row back shard = record {
      its = W.again back shard c s.its;
      points = points_again c s.points back shard;
      told = quietly c (send_round back shard c) (again_told back shard c) (again_like back shard c).catalogues (again_seats back shard c) s.told;
    }

    view_row : (shard : ℕ) → shard < (shape_of c).shards → 1 < (shape_of c).copies → Tells (begin_view shard c)
    view_row shard low more = record {
      its = views_coded views steps reads laws code names limits last (shape_of c) shard c refl low more s.its;
      points = points_opens shard c s.points;
      told = quietly c (begin_view shard c) (began_told shard c) (began_like (judging steady.commands (coded_name code) limits) shard c).catalogues (began_seats (judging steady.commands (coded_name code) limits) shard c) s.told;
    }

    -- ---- what is no client's

    downed_row : (peer line : ℕ) → Tells (note who.Store deed.Nothing (reply.Down peer line) c)
    downed_row peer line = record {
      its = W.downed peer line c s.its;
      points = s.points;
      told = goes_by Whatever cs cs c (note who.Store deed.Nothing (reply.Down peer line) c) folded_c (record { valid = folded_c.valid; shards = folded_c.shards; own = folded_c.own; catalogues = folded_c.catalogues }) (record {
        more = record { who = who.Store; moment = c.moment; deed = deed.Nothing; reply = reply.Down peer line } ∷ [];
        journal = refl;
        refused = refl;
        told = refl;
        deeds = λ before k. (record { printed = refl; done = tt }, tt);
        left = refl;
      }) tt s.told;
    }

    refused_row : (line : ℕ) (refusal : Reply) → clients line ≡ false → Tells (refuse line refusal c)
    refused_row line refusal other_line = record {
      its = W.refused line refusal c tt s.its;
      points = s.points;
      told = λ clean. absurd (unclean clients (deeds_of c) (as_deed told) (ap (λ (b : Bool). not b) other_line)
          (subst (λ (es : List DeedEntry). IsClean clients es) (deeds_more c (refuse line refusal c) (told ∷ []) refl refl refl) clean));
    }
      where
        told : JournalEntry
        told = record { who = who.Line line; moment = c.moment; deed = deed.Nothing; reply = refusal }

  pub views_tell : (shape : Shape) → WalksViews shape (λ c. TellsDeeds code limits last start clients c)
  views_tell shape = λ shard c same low more s. view_row c s shard low more

  pub walks_tell : Walks (λ line o c. MayComeHere code last line o c) (λ number bytes w c. Unit {0}) (λ line. clients line ≡ false) (λ c. TellsDeeds code limits last start clients c)
  walks_tell = record {
    once = λ c s. W.once c s.its;
    line_beside = λ line o a b beside may. record {
      tabled = W.line_beside line o a b beside may.tabled;
      unanswered = λ l w at.
          ap (λ (es : List JournalEntry). is_answered (map as_deed es) l) beside.told
          ∙ may.unanswered l w (sym (ap (λ (es : List (ℕ × Waiting)). lookup (is_at (nat_cmp l)) es) beside.operations) ∙ at);
    };
    tell_beside = λ number bytes w a b beside may. tt;
    beside = λ a b beside s. beside_row a s b beside;
    downed = λ peer line c s. downed_row c s peer line;
    refused = λ line refusal c other s. refused_row c s line refusal other;
    line = λ line o c may s. line_row c s line o may;
    goes = λ line c idle s. goes_row c s line idle;
    told = λ line number bytes w c at waits any s. told_row c s line number bytes w at waits;
    effect = λ shard number entry c low leads few s. effect_row c s shard number entry low leads few;
    due = λ shard c low due s. due_row c s shard low due;
    round = λ number from to epoch round total deltas c low at new s. round_row c s number from to epoch round total deltas low at new;
    again = λ back shard c s. again_row c s back shard;
  }
