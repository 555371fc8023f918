-- How many entries of lines, and how many notes, a journal has.
use Rattle.std.proofs.Common.{◌≡◌, ◌∙◌, sym, ap, subst, ◌⊎◌, inl, inr, ℕ, zero, suc, ◌+◌, ◌-◌, ◌<◌, ◌≤◌, ◌==◌, Bool, true, false, cond, List, [], ◌∷◌, length, Option, Some, None, refl, arith, tests, is_none, is_some, count_by, nat_le, slice_get}
use Rattle.std.specs.List.{AllByRecursion}
use Rattle.std.specs.Option.{option_map, option_map_or}
use Rattle.hs_settled.proofs.EndsCountLemmas.{at_key, from_key, keyed, keyed_sum, many, many-counted, many_le, many_none, many_once, one, sum_from}
use Rattle.hs_settled.proofs.DoneLemmas.{is_done, is_down}
use Rattle.hs_settled.proofs.StepLemmas.{is_entered, is_of_line, is_swept}
use Rattle.hs_events.specs.Taken.{peer_count}
use Rattle.hs_journal.specs.declared.entry.JournalEntry.{JournalEntry}
use Rattle.hs_journal.specs.declared.entry.Who.{Who}
use Rattle.hs_journal.specs.declared.entry.Who.TheVariants as who
use Rattle.hs_journal.specs.Events.{client_op}
use Rattle.hs_journal.specs.Notes.{down_in, is_note, note_count}
use Rattle.hs_journal.specs.Order.{IsOfLine}
use Rattle.hs_journal.specs.Telling.{IsOfStore, Done, Down}
use Rattle.hs_model.specs.declared.command.Command.TheVariants as command
use Rattle.hs_model.specs.declared.deed.Deed.{Deed}
use Rattle.hs_model.specs.declared.deed.Deed.TheVariants as deed
use Rattle.hs_model.specs.declared.op.Op.{Op}
use Rattle.hs_model.specs.declared.op.Op.TheVariants as op
use Rattle.hs_model.specs.declared.reply.Reply.{Reply}
use Rattle.hs_promise.specs.Answers.{IsEntry}
use Rattle.hs_promise.specs.Run.{Script}

-- ---- each entry is of one kind

parts_kind : (S : Script) (last : ℕ) (w : Who) (m : ℕ) (d : Deed) (r : Reply) → IsEntry S last (record { who = w; moment = m; deed = d; reply = r }) → let e : JournalEntry = record { who = w; moment = m; deed = d; reply = r } in
    1 ≤ one (is_of_line (λ o. true) S e) + one (is_entered e) + one (is_swept e) + one (is_done e) + one (is_down e)
parts_kind S last (who.Line n) m d r is = omega arith
parts_kind S last (who.Shard g) m d r is = go is.1
  where
    e : Deed → JournalEntry
    e x = record { who = who.Shard g; moment = m; deed = x; reply = r }

    Kinds : Deed → Type 0
    Kinds x = 1 ≤ one (is_of_line (λ o. true) S (e x)) + one (is_entered (e x)) + one (is_swept (e x)) + one (is_done (e x)) + one (is_down (e x))

    go : (d ≡ deed.Entered g) ⊎ (d ≡ deed.Swept g) → Kinds d
    go (inl did) = subst Kinds (sym did) (omega arith)
    go (inr did) = subst Kinds (sym did) (omega arith)
parts_kind S last who.Store m d r is = go (down_in r)
  where
    go : (o : Option (ℕ × ℕ)) → 1 ≤ 0 + 0 + 0 + one (is_none o) + one (is_some o)
    go None = omega arith
    go (Some at) = omega arith

pub all_kinds : (S : Script) (last : ℕ) (entries : List JournalEntry) → AllByRecursion (IsEntry S last) entries
    → length entries ≤ many (is_of_line (λ o. true) S) entries + many is_entered entries + many is_swept entries + many is_done entries + many is_down entries
all_kinds S last [] each = omega arith
all_kinds S last (e ∷ entries) each =
    let here : 1 ≤ one (is_of_line (λ o. true) S e) + one (is_entered e) + one (is_swept e) + one (is_done e) + one (is_down e) = parts_kind S last e.who e.moment e.deed e.reply each.0 in
    omega (arith, here, all_kinds S last entries each.1)

-- ---- entries of lines

abbrev key_by : (Option Op → Bool) → Script → Who → Option ℕ
key_by test S (who.Line n) = cond (test (client_op (S.commands n))) (Some n) None
key_by test S (who.Shard g) = None
key_by test S who.Store = None

abbrev key_of : (Option Op → Bool) → Script → JournalEntry → Option ℕ
key_of test S e = key_by test S e.who

-- the number of a line, where the entry is of one whose operation passes the test
record IsKeyed (test : Option Op → Bool) (S : Script) (n : ℕ) (e : JournalEntry) : Type 0 where
  line : e.who ≡ who.Line n
  passes : test (client_op (S.commands n)) ≡ true

key_line : (test : Option Op → Bool) (S : Script) (P : ℕ → Bool) (e : JournalEntry) → option_map_or P (key_of test S e) false ≡ true → (n : ℕ) × IsKeyed test S n e × (P n ≡ true)
key_line test S P e is = by_who e.who refl is
  where
    by_test : (n : ℕ) → e.who ≡ who.Line n → (b : Bool) → test (client_op (S.commands n)) ≡ b → option_map_or P (cond b (Some n) None) false ≡ true → (k : ℕ) × IsKeyed test S k e × (P k ≡ true)
    by_test n of true t f = (n, record { line = of; passes = t }, f)
    by_test n of false t f = absurd (cc f)

    by_who : (w : Who) → e.who ≡ w → option_map_or P (key_by test S w) false ≡ true → (k : ℕ) × IsKeyed test S k e × (P k ≡ true)
    by_who (who.Line n) of f = by_test n of (test (client_op (S.commands n))) refl f
    by_who (who.Shard g) of f = absurd (cc f)
    by_who who.Store of f = absurd (cc f)

of_line_keyed : (test : Option Op → Bool) (S : Script) (e : JournalEntry) → is_of_line test S e ≡ true → (n : ℕ) × IsKeyed test S n e
of_line_keyed test S e is = by_who e.who refl is
  where
    by_who : (w : Who) → e.who ≡ w → is_of_line test S (record { who = w; moment = e.moment; deed = e.deed; reply = e.reply }) ≡ true → (n : ℕ) × IsKeyed test S n e
    by_who (who.Line n) of f = (n, record { line = of; passes = f })
    by_who (who.Shard g) of f = absurd (cc f)
    by_who who.Store of f = absurd (cc f)

keyed_from : (test : Option Op → Bool) (S : Script) (low n : ℕ) (e : JournalEntry) → IsKeyed test S n e → low ≤ n → from_key (key_of test S) low e ≡ true
keyed_from test S low n e is above =
    ap (λ (w : Who). option_map_or (λ k. nat_le low k) (key_by test S w) false) is.line
    ∙ ap (λ (b : Bool). option_map_or (λ k. nat_le low k) (cond b (Some n) None) false) is.passes
    ∙ grind (arith, tests, above)

zero_below : (k : ℕ) → nat_le 0 k ≡ true
zero_below k = grind (arith, tests)

module _ (S : Script) {X : Type 0} (lines : List X) (entries : List JournalEntry)
    (within : (i n : ℕ) → IsOfLine entries i n → (1 ≤ n) × (n < 1 + length lines)) (once : (i j n : ℕ) → IsOfLine entries i n → IsOfLine entries j n → i ≡ j) where
  -- entries of lines that pass a test are no more than the lines of which there is such an entry
  pub lines_by : (test : Option Op → Bool) (passes : X → Bool)
      → ((i : ℕ) (line : X) → slice_get lines i ≡ Some line → (j : ℕ) → IsOfLine entries j (1 + i) → test (client_op (S.commands (1 + i))) ≡ true → passes line ≡ true)
      → many (is_of_line test S) entries ≤ count_by passes lines
  lines_by test passes marks =
      let all : many (is_of_line test S) entries ≤ many (from_key (key_of test S) 1) entries = many_le (is_of_line test S) (from_key (key_of test S) 1) entries first in
      let most : many (from_key (key_of test S) 1) entries ≤ many passes lines = keyed (key_of test S) passes entries lines 1 caps (many_none (from_key (key_of test S) (1 + length lines)) entries none) in
      let counted : many passes lines ≡ count_by passes lines = many-counted passes lines in
      omega (arith, all, most, counted)
    where
      first : (i : ℕ) (e : JournalEntry) → slice_get entries i ≡ Some e → is_of_line test S e ≡ true → from_key (key_of test S) 1 e ≡ true
      first i e at is =
          let n = of_line_keyed test S e is in
          keyed_from test S 1 n.0 e n.1 (within i n.0 (record { entry = e; at = at; line = n.1.line })).0

      none : (i : ℕ) (e : JournalEntry) → slice_get entries i ≡ Some e → from_key (key_of test S) (1 + length lines) e ≡ true → ⊥
      none i e at is =
          let n = key_line test S (λ k. nat_le (1 + length lines) k) e is in
          let low = (within i n.0 (record { entry = e; at = at; line = n.1.line })).1 in
          let above : 1 + length lines ≤ n.0 = grind (arith, tests, n.2) in
          omega (arith, low, above)

      same_number : (k n : ℕ) → (k == n) ≡ true → k ≡ n
      same_number k n is = grind (arith, tests, is)

      keyed_at : (n : ℕ) (e : JournalEntry) → at_key (key_of test S) n e ≡ true → IsKeyed test S n e
      keyed_at n e is = let k = key_line test S (λ k. k == n) e is in subst (λ j. IsKeyed test S j e) (same_number k.0 n k.2) k.1

      caps : (i : ℕ) (line : X) → slice_get lines i ≡ Some line → many (at_key (key_of test S) (1 + i)) entries ≤ cond (passes line) 1 0
      caps i line there = go (passes line) refl
        where
          go : (b : Bool) → passes line ≡ b → many (at_key (key_of test S) (1 + i)) entries ≤ cond b 1 0
          go true p = many_once (at_key (key_of test S) (1 + i)) entries (λ j k x y first second is too.
              once j k (1 + i) (record { entry = x; at = first; line = (keyed_at (1 + i) x is).line }) (record { entry = y; at = second; line = (keyed_at (1 + i) y too).line }))
          go false p =
              let nobody = many_none (at_key (key_of test S) (1 + i)) entries (λ j x first is. cc (marks i line there j (record { entry = x; at = first; line = (keyed_at (1 + i) x is).line }) (keyed_at (1 + i) x is).passes, p)) in
              omega (arith, nobody)

  -- so they are no more than the lines that pass it
  pub lines_most : (test : Option Op → Bool) (passes : X → Bool)
      → ((i : ℕ) (line : X) → slice_get lines i ≡ Some line → test (client_op (S.commands (1 + i))) ≡ true → passes line ≡ true)
      → many (is_of_line test S) entries ≤ count_by passes lines
  lines_most test passes marks = lines_by test passes (λ i line at j of is. marks i line at is)

-- ---- notes

abbrev note_by : Who → Reply → Option ℕ
note_by (who.Line n) r = None
note_by (who.Shard g) r = None
note_by who.Store r = option_map (λ (d : ℕ × ℕ). d.0) (down_in r)

abbrev note_of : JournalEntry → Option ℕ
note_of e = note_by e.who e.reply

module _ (S : Script) (last : ℕ) (entries : List JournalEntry) (each : AllByRecursion (IsEntry S last) entries) where
  at_each : (P : JournalEntry → Type 0) (xs : List JournalEntry) → AllByRecursion P xs → (i : ℕ) (e : JournalEntry) → slice_get xs i ≡ Some e → P e
  at_each P [] all i e at = absurd (cc at)
  at_each P (x ∷ xs) all zero e at = subst P (cc at) all.0
  at_each P (x ∷ xs) all (suc i) e at = at_each P xs all.1 i e at

  is_noted : (peer : ℕ) (e : JournalEntry) → at_key note_of peer e ≡ true → is_note peer e ≡ true
  is_noted peer e is = by_who e.who is
    where
      by_down : (o : Option (ℕ × ℕ)) → option_map_or (λ k. k == peer) (option_map (λ (d : ℕ × ℕ). d.0) o) false ≡ true → option_map_or (λ (d : ℕ × ℕ). d.0 == peer) o false ≡ true
      by_down None f = cc f
      by_down (Some d) f = f

      by_who : (w : Who) → option_map_or (λ k. k == peer) (note_by w e.reply) false ≡ true → is_note peer e ≡ true
      by_who (who.Line n) f = absurd (cc f)
      by_who (who.Shard g) f = absurd (cc f)
      by_who who.Store f = by_down (down_in e.reply) f

  downs : (e : JournalEntry) → is_down e ≡ true → from_key note_of 0 e ≡ true
  downs e is = by_who e.who is
    where
      by_down : (o : Option (ℕ × ℕ)) → is_some o ≡ true → option_map_or (λ k. nat_le 0 k) (option_map (λ (d : ℕ × ℕ). d.0) o) false ≡ true
      by_down None f = cc f
      by_down (Some d) f = zero_below d.0

      by_who : (w : Who) → is_down (record { who = w; moment = e.moment; deed = e.deed; reply = e.reply }) ≡ true → option_map_or (λ k. nat_le 0 k) (note_by w e.reply) false ≡ true
      by_who (who.Line n) f = absurd (cc f)
      by_who (who.Shard g) f = absurd (cc f)
      by_who who.Store f = by_down (down_in e.reply) f

  low : (e : JournalEntry) → IsEntry S last e → from_key note_of (0 + peer_count S.set.shape) e ≡ true → ⊥
  low e is above = by_parts e.who e.moment e.deed e.reply is above
    where
      by_told : (r : Reply) → IsOfStore S.set.shape last r → option_map_or (λ k. nat_le (0 + peer_count S.set.shape) k) (option_map (λ (d : ℕ × ℕ). d.0) (down_in r)) false ≡ true → ⊥
      by_told r (Done epoch told) f =
          let other : option_map_or (λ k. nat_le (0 + peer_count S.set.shape) k) (option_map (λ (d : ℕ × ℕ). d.0) (down_in r)) false ≡ false =
          ap (λ (x : Reply). option_map_or (λ k. nat_le (0 + peer_count S.set.shape) k) (option_map (λ (d : ℕ × ℕ). d.0) (down_in x)) false) told in
          cc (other, f)
      by_told r (Down peer line told within late) f =
          let is : option_map_or (λ k. nat_le (0 + peer_count S.set.shape) k) (option_map (λ (d : ℕ × ℕ). d.0) (down_in r)) false ≡ nat_le (0 + peer_count S.set.shape) peer =
          ap (λ (x : Reply). option_map_or (λ k. nat_le (0 + peer_count S.set.shape) k) (option_map (λ (d : ℕ × ℕ). d.0) (down_in x)) false) told in
          let above : nat_le (0 + peer_count S.set.shape) peer ≡ true = sym is ∙ f in
          let at_least : 0 + peer_count S.set.shape ≤ peer = grind (arith, tests, above) in
          omega (arith, at_least, within)

      by_parts : (w : Who) (m : ℕ) (d : Deed) (r : Reply) → IsEntry S last (record { who = w; moment = m; deed = d; reply = r }) → option_map_or (λ k. nat_le (0 + peer_count S.set.shape) k) (note_by w r) false ≡ true → ⊥
      by_parts (who.Line n) m d r is f = cc f
      by_parts (who.Shard g) m d r is f = cc f
      by_parts who.Store m d r is f = by_told r is.1 f

  pub all_downs : (caps : ℕ → ℕ) → ((peer : ℕ) → peer < peer_count S.set.shape → note_count peer entries ≤ caps peer) → many is_down entries ≤ sum_from 0 (peer_count S.set.shape) caps
  all_downs caps notes =
      let all : many is_down entries ≤ many (from_key note_of 0) entries = many_le is_down (from_key note_of 0) entries (λ i e at is. downs e is) in
      let most : many (from_key note_of 0) entries ≤ sum_from 0 (peer_count S.set.shape) caps =
      keyed_sum note_of caps entries 0 (peer_count S.set.shape)
      (λ i low_i.
      let counted : many (is_note (0 + i)) entries ≡ note_count (0 + i) entries = many-counted (is_note (0 + i)) entries in
      let fewer : many (at_key note_of (0 + i)) entries ≤ many (is_note (0 + i)) entries = many_le (at_key note_of (0 + i)) (is_note (0 + i)) entries (λ j e there is. is_noted (0 + i) e is) in
      let few : note_count (0 + i) entries ≤ caps (0 + i) = notes (0 + i) (omega (arith, low_i)) in
      omega (arith, counted, fewer, few))
      (many_none (from_key note_of (0 + peer_count S.set.shape)) entries (λ i e at is. low e (at_each (IsEntry S last) entries each i e at) is)) in
      omega (arith, all, most)
