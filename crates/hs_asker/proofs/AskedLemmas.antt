-- An asker behind an operation.
use Rattle.std.specs.List.{AllByRecursion}
use Rattle.std.proofs.Common.{◌≡◌, ◌∙◌, ap, sym, subst, ℕ, ◌+◌, ◌*◌, ◌≤◌, List, [], ◌∷◌, ◌++◌, Option, Some, None, Result, Ok, Err, refl, append-nil, arith, length, drop}
use Rattle.std.proofs.lemmas.List.{append_assoc}
use Rattle.std.specs.Prelude.{IfErr, IfOk, OnOk, ⊤}
use Rattle.hs_asking.specs.Asked.{HasAsked, HasBegun}
use Rattle.hs_asking.specs.Telling.{MayBeTold}
use Rattle.hs_desk.specs.declared.fault.CoreFault.{CoreFault}
use Rattle.hs_desk.specs.declared.fault.CoreFault.TheVariants as core
use Rattle.hs_asking.proofs.HandLemmas.{all_append}
use Rattle.hs_cluster.specs.declared.fault.ClusterFault.{ClusterFault}
use Rattle.hs_cluster.specs.declared.fault.ClusterFault.TheVariants as cluster
use Rattle.hs_events.specs.Due.{Events}
use Rattle.hs_journal.specs.declared.entry.JournalEntry.{JournalEntry}
use Rattle.hs_journal.specs.declared.entry.Who.TheVariants as who
use Rattle.hs_limits.specs.Shape.{IsShape}
use Rattle.hs_limits.specs.declared.address.Address.{Address}
use Rattle.hs_model.specs.declared.command.Command.{Command}
use Rattle.hs_model.specs.declared.command.Command.TheVariants as command
use Rattle.hs_model.specs.declared.op.Op.{Op}
use Rattle.hs_model.specs.declared.reply.Reply.{Reply}
use Rattle.hs_run.specs.Between.{IsReadyAt, Point}
use Rattle.hs_run.specs.Going.{Begun, HasShown}
use Rattle.hs_asker.specs.Answer.{HasAnswer, IsUpTo}
use Rattle.hs_asker.specs.Asked.{Asks, Broken, DoesAsk, Heard, Unasked, Undriven, Unheard, core_of}
use Rattle.hs_asker.specs.Driven.{Cut, Drives, HasDriven, Onward, Still, Wanting, Whole}
use Rattle.hs_asker.specs.Going.{AtEntry, HasDone, HasStopped, Inside, IsAsker, IsGoing, RunsAlone, at_of, begun_by}
use Rattle.hs_asker.specs.Lines.{AreAsked, IsDriving, IsOfAsker, command_at, ops_of}
use Rattle.hs_asker.specs.Shows.{Asking, shows_of}
use Rattle.hs_asker.proofs.DoneLemmas.{done_more}
use Rattle.hs_asker.proofs.JournalLemmas.{adds, behind_it, two_more, unused, up_to_answer, up_to_both, up_to_more}
use Rattle.hs_asker.proofs.LinesLemmas.{all_of_asker, are_asked, asked_front, asks_other, asks_there, command_within, command_zero, ops_more}
use Rattle.hs_asker.proofs.ShownLemmas.{shown_more}
use Rattle.hs_asker.proofs.StopLemmas.{stops_between, stops_within}

module _ (tells : Type 0) (e : AtEntry) (shape : IsShape e.set.shape) (count : length e.disks ≡ e.set.shape.shards * e.set.shape.copies) (said : List Command) (o : Op) (old : Point) (going : IsGoing tells e said old) where
  abbrev b : Begun
  b = begun_by e going.found going.first going.opening

  abbrev asking : List Command
  asking = said ++ command.Client o ∷ []

  -- ---- lines that were gone past

  -- these were, and so much was answered behind a point
  record IsPast (mid : Point) (past : List Command) (at : Point) : Type 0 where
    lines : List Events
    done : HasDone b past lines at
    shows : HasShown tells b lines at
    later : mid.line ≤ at.line
    more : List JournalEntry
    adds : at.cluster.core.journal ≡ mid.cluster.core.journal ++ more

  past_same : (mid at : Point) (one two : List Command) → one ≡ two → IsPast mid one at → IsPast mid two at
  past_same mid at one two same p = subst (λ (past : List Command). IsPast mid past at) same p

  past_more : (mid at new : Point) (past : List Command) (c : Command) → IsPast mid past at → RunsAlone tells e.set.name c at new (Ok tt) → IsPast mid (past ++ c ∷ []) new
  past_more mid at new past c p runs =
      let x = adds tells e going.found going.first going.opening past p.lines at new c (Ok tt) p.done runs in
      record {
        lines = p.lines ++ runs.runs.events ∷ [];
        done = done_more tells e going.found going.first going.opening past p.lines at new c (Ok tt) p.done runs refl;
        shows = shown_more tells e going.found going.first going.opening past p.lines at new c (Ok tt) p.done runs p.shows refl;
        later = (let one = p.later in let two = runs.line in omega (arith, one, two));
        more = p.more ++ x.0;
        adds = two_more mid.cluster.core.journal at.cluster.core.journal new.cluster.core.journal p.more x.0 p.adds x.1;
      }

  past_none : IsPast old said old
  past_none = record {
    lines = going.lines;
    done = going.done;
    shows = going.shows;
    later = omega arith;
    more = [];
    adds = sym (append-nil old.cluster.core.journal);
  }

  past_driven : (mid at new : Point) (past more : List Command) → IsPast mid past at → Drives tells e.set.name at more new → IsPast mid (past ++ more) new
  past_driven mid at new past more p Still = past_same mid at past (past ++ []) (sym (append-nil past)) p
  past_driven mid at new past more p (Onward {front = front} {mid = last} c d h runs) =
      past_same mid new ((past ++ front) ++ c ∷ []) (past ++ (front ++ c ∷ [])) (append_assoc past front (c ∷ [])) (past_more mid last new (past ++ front) c (past_driven mid at last past front p d) runs)

  -- ---- all of them were

  module _ (mid new : Point) (more : List Command) (asks : RunsAlone tells e.set.name (command.Client o) old mid (Ok tt)) (drives : Drives tells e.set.name mid more new) where
    past : IsPast old (asking ++ more) new
    past = past_driven old mid new asking more (past_more old old mid said (command.Client o) past_none asks) drives

    past_mid : IsPast mid asking mid
    past_mid = record {
      lines = going.lines ++ asks.runs.events ∷ [];
      done = done_more tells e going.found going.first going.opening said going.lines old mid (command.Client o) (Ok tt) going.done asks refl;
      shows = shown_more tells e going.found going.first going.opening said going.lines old mid (command.Client o) (Ok tt) going.done asks going.shows refl;
      later = omega arith;
      more = [];
      adds = sym (append-nil mid.cluster.core.journal);
    }

    next : old.line + 1 ≤ new.line
    next =
        let one = asks.line in
        let two = (past_driven mid mid new asking more past_mid drives).later in
        omega (arith, one, two)

    pub journal_now : new.cluster.core.journal ≡ old.cluster.core.journal ++ drop (length old.cluster.core.journal) new.cluster.core.journal
    journal_now = behind_it old.cluster.core.journal new.cluster.core.journal past.more past.adds

    pub wanting_behind : length new.disks ≡ length e.disks → HasStopped tells e (asking ++ more) new core.NoMemory
    wanting_behind left = stops_between tells e going.found going.first going.opening shape count (command_at (asking ++ more)) (asking ++ more) past.lines new (Some core.NoMemory) tt left (command_zero (asking ++ more)) (are_asked (asking ++ more)) past.done past.shows

    -- it may be asked on
    pub goes_on : (told : Reply) → HasAnswer (drop (length old.cluster.core.journal) new.cluster.core.journal) (old.line + 1) told → IsReadyAt tells new → IsGoing tells e (asking ++ more) new
    goes_on told answer ready = record {
      found = going.found;
      first = going.first;
      opening = going.opening;
      lines = past.lines;
      done = past.done;
      shows = past.shows;
      ready = ready;
      up_to = subst (λ (j : List JournalEntry). AllByRecursion (IsUpTo new.line) j) (sym journal_now)
          (up_to_both new.line old.cluster.core.journal (drop (length old.cluster.core.journal) new.cluster.core.journal) (up_to_more old.line new.line old.cluster.core.journal past.later going.up_to)
          (up_to_answer (old.line + 1) new.line (drop (length old.cluster.core.journal) new.cluster.core.journal) told next answer));
    }

    -- and this is shown of it
    pub has_asked : (was now : Option CoreFault) (told : Reply) → AllByRecursion IsDriving more → HasAnswer (drop (length old.cluster.core.journal) new.cluster.core.journal) (old.line + 1) told → MayBeTold o told
        → HasAsked (shows_of tells e (record { said = said; journal = old.cluster.core.journal; ended = was })) (shows_of tells e (record { said = asking ++ more; journal = new.cluster.core.journal; ended = now })) o told
    has_asked was now told driving answer may = record {
      line = length said + 1;
      front = answer.front;
      entry = answer.entry;
      back = answer.back;
      journal = journal_now ∙ ap (λ (x : List JournalEntry). old.cluster.core.journal ++ x) answer.is;
      before = answer.before;
      behind = answer.behind;
      of_line = answer.of_line ∙ ap (λ (n : ℕ). who.Line (n + 1)) number;
      unused = unused old.line (length said + 1) old.cluster.core.journal (omega (arith, number)) going.up_to;
      asks = asks_there said more o driving;
      others = λ n other. asks_other said more o n driving other;
      answer = answer.tells;
      may = may;
    }
      where
        number : old.line ≡ length said
        number = going.done.line ∙ sym going.done.each

  -- ---- where it stopped

  none_cut : (f : ClusterFault) → ◌≡◌ {A = Result ⊤ ClusterFault} (Err f) (Ok tt) → ⊥
  none_cut f e = cc

  fault_is : (f g : ClusterFault) → ◌≡◌ {A = Result ⊤ ClusterFault} (Err f) (Err g) → f ≡ g
  fault_is f g e = cc

  -- behind its line
  driven_stops : (mid new : Point) (more : List Command) (fault : ClusterFault) → RunsAlone tells e.set.name (command.Client o) old mid (Ok tt) → HasDriven tells e.set.name mid new more (Err fault) → length new.disks ≡ length e.disks → HasStopped tells e (asking ++ more) new (core_of fault)
  driven_stops mid new more fault asks (Whole d is) left = absurd (none_cut fault is)
  driven_stops mid new more fault asks (Wanting d is) left =
      subst (λ (f : ClusterFault). HasStopped tells e (asking ++ more) new (core_of f)) (sym (fault_is fault cluster.NoMemory is)) (wanting_behind mid new more asks d left)
  driven_stops mid new more fault asks (Cut last front c cut d h runs same is) left =
      let p : IsPast old (asking ++ front) last = past_driven old mid last asking front (past_more old old mid said (command.Client o) past_none asks) d in
      let all : (asking ++ front) ++ c ∷ [] ≡ asking ++ more = append_assoc asking front (c ∷ []) ∙ ap (λ (rest : List Command). asking ++ rest) (sym same) in
      subst (λ (f : ClusterFault). HasStopped tells e (asking ++ more) new (core_of f)) (sym (fault_is fault cut is))
      (stops_within tells e going.found going.first going.opening shape count (command_at (asking ++ more)) (asking ++ front) p.lines last new c cut left (command_zero (asking ++ more))
      (subst (λ (past : List Command). AreAsked (command_at (asking ++ more)) past) (sym all) (are_asked (asking ++ more))) p.done p.shows runs)

  abbrev StopsSo : Point → List Command → Result Reply CoreFault → Type 0
  StopsSo new more result = IfErr result (λ fault. HasStopped tells e (asking ++ more) new fault)

  pub asked_stops : (new : Point) (more : List Command) (result : Result Reply CoreFault) → DoesAsk tells e.set.name o old new more result → length new.disks ≡ length e.disks → StopsSo new more result
  asked_stops new more result (Unasked same is) left =
      subst (λ (r : Result Reply CoreFault). StopsSo new more r) (sym is)
      (subst (λ (p : Point). HasStopped tells e (asking ++ more) p core.NoMemory) (sym same)
      (stops_between tells e going.found going.first going.opening shape count (command_at (asking ++ more)) said going.lines old (Some core.NoMemory) tt (ap (λ (p : Point). length p.disks) (sym same) ∙ left) (command_zero (asking ++ more))
      (λ n c at. asked_front asking more n c (asked_front said (command.Client o ∷ []) n c at)) going.done going.shows))
  asked_stops new more result (Broken fault asks is) left =
      subst (λ (r : Result Reply CoreFault). StopsSo new more r) (sym is)
      (stops_within tells e going.found going.first going.opening shape count (command_at (asking ++ more)) said going.lines old new (command.Client o) fault left (command_zero (asking ++ more)) (asked_front asking more) going.done going.shows asks)
  asked_stops new more result (Undriven mid fault asks drives is) left = subst (λ (r : Result Reply CoreFault). StopsSo new more r) (sym is) (driven_stops mid new more fault asks drives left)
  asked_stops new more result (Unheard mid asks drives told is answer may) left = subst (λ (r : Result Reply CoreFault). StopsSo new more r) (sym is) (wanting_behind mid new more asks drives left)
  asked_stops new more result (Heard mid asks drives told is answer may) left = subst (λ (r : Result Reply CoreFault). StopsSo new more r) (sym is) tt

  -- ---- whether it was answered or not

  -- how the journal goes on
  abbrev Grows : Point → Type 0
  Grows new = (entries : List JournalEntry) × (new.cluster.core.journal ≡ old.cluster.core.journal ++ entries)

  driven_grows : (mid new : Point) (more : List Command) (fault : ClusterFault) → RunsAlone tells e.set.name (command.Client o) old mid (Ok tt) → HasDriven tells e.set.name mid new more (Err fault) → Grows new
  driven_grows mid new more fault asks (Whole d is) = let p = past mid new more asks d in (p.more, p.adds)
  driven_grows mid new more fault asks (Wanting d is) = let p = past mid new more asks d in (p.more, p.adds)
  driven_grows mid new more fault asks (Cut last front c cut d h runs same is) =
      let p : IsPast old (asking ++ front) last = past_driven old mid last asking front (past_more old old mid said (command.Client o) past_none asks) d in
      let x = adds tells e going.found going.first going.opening (asking ++ front) p.lines last new c (Err cut) p.done runs in
      (p.more ++ x.0, two_more old.cluster.core.journal last.cluster.core.journal new.cluster.core.journal p.more x.0 p.adds x.1)

  grows : (new : Point) (more : List Command) (result : Result Reply CoreFault) → DoesAsk tells e.set.name o old new more result → Grows new
  grows new more result (Unasked same is) = ([], ap (λ (p : Point). p.cluster.core.journal) same ∙ sym (append-nil old.cluster.core.journal))
  grows new more result (Broken fault asks is) = adds tells e going.found going.first going.opening said going.lines old new (command.Client o) (Err fault) going.done asks
  grows new more result (Undriven mid fault asks drives is) = driven_grows mid new more fault asks drives
  grows new more result (Unheard mid asks drives told is answer may) = let p = past mid new more asks drives in (p.more, p.adds)
  grows new more result (Heard mid asks drives told is answer may) = let p = past mid new more asks drives in (p.more, p.adds)

  pub has_begun : (new : Point) (more : List Command) (result : Result Reply CoreFault) (was now : Option CoreFault) → AllByRecursion IsDriving more → DoesAsk tells e.set.name o old new more result
      → HasBegun (shows_of tells e (record { said = said; journal = old.cluster.core.journal; ended = was })) (shows_of tells e (record { said = asking ++ more; journal = new.cluster.core.journal; ended = now })) o
  has_begun new more result was now driving does = record {
    line = length said + 1;
    more = (grows new more result does).0;
    above = λ n some. let low = command_within said n some in omega (arith, low);
    journal = (grows new more result does).1;
    unused = unused old.line (length said + 1) old.cluster.core.journal (omega (arith, number)) going.up_to;
    asks = asks_there said more o driving;
    others = λ n other. asks_other said more o n driving other;
  }
    where
      number : old.line ≡ length said
      number = going.done.line ∙ sym going.done.each

  -- ---- where it was answered

  -- with its answer, all lines
  pub record IsHeard (new : Point) (more : List Command) (told : Reply) : Type 0 where
    pub mid : Point
    pub asks : RunsAlone tells e.set.name (command.Client o) old mid (Ok tt)
    pub drives : Drives tells e.set.name mid more new
    pub answer : HasAnswer (drop (length old.cluster.core.journal) new.cluster.core.journal) (old.line + 1) told
    pub may : MayBeTold o told

  ok_is : (x y : Reply) → ◌≡◌ {A = Result Reply CoreFault} (Ok x) (Ok y) → x ≡ y
  ok_is x y e = cc

  err_ok : (f : CoreFault) (x : Reply) → ◌≡◌ {A = Result Reply CoreFault} (Err f) (Ok x) → ⊥
  err_ok f x e = cc

  pub heard : (new : Point) (more : List Command) (result : Result Reply CoreFault) (told : Reply) → result ≡ Ok told → DoesAsk tells e.set.name o old new more result → IsHeard new more told
  heard new more result told ok (Unasked same is) = absurd (err_ok core.NoMemory told (sym is ∙ ok))
  heard new more result told ok (Broken fault asks is) = absurd (err_ok (core_of fault) told (sym is ∙ ok))
  heard new more result told ok (Undriven mid fault asks drives is) = absurd (err_ok (core_of fault) told (sym is ∙ ok))
  heard new more result told ok (Unheard mid asks drives reply is answer may) = absurd (err_ok core.NoMemory told (sym is ∙ ok))
  heard new more result told ok (Heard mid asks drives reply is answer may) =
      subst (λ (r : Reply). IsHeard new more r) (ok_is reply told (sym is ∙ ok)) (record { mid = mid; asks = asks; drives = drives; answer = answer; may = may })

-- ---- as an asker

none_some : (f : CoreFault) → None ≡ Some f → ⊥
none_some f e = cc

some_is : (f x : CoreFault) → Some f ≡ Some x → f ≡ x
some_is f x e = cc

module _ (tells : Type 0) (name : List ℕ → Address) (e : AtEntry) (s : Inside) (o : Op) (next : Inside) (h : IsAsker tells name e s) (none : s.ended ≡ None) (count : length next.disks ≡ length s.disks) where
  by_name : (more : List Command) (result : Result Reply CoreFault) → DoesAsk tells name o (at_of s) (at_of next) more result → DoesAsk tells e.set.name o (at_of s) (at_of next) more result
  by_name more result does = subst (λ (f : List ℕ → Address). DoesAsk tells f o (at_of s) (at_of next) more result) (sym h.named) does

  askers_on : (more : List Command) → next.said ≡ (s.said ++ command.Client o ∷ []) ++ more → AllByRecursion IsDriving more → AllByRecursion IsOfAsker next.said
  askers_on more same driving =
      subst (λ (said : List Command). AllByRecursion IsOfAsker said) (sym same)
      (all_append IsOfAsker (s.said ++ command.Client o ∷ []) more (all_append IsOfAsker s.said (command.Client o ∷ []) h.askers (tt, tt)) (all_of_asker more driving))

  -- behind it the asker came from what it was handed too
  pub asker_on : (result : Result Reply CoreFault) → Asks tells name o (at_of s) (at_of next) s.said next.said result → OnOk result (IsReadyAt tells (at_of next)) → OnOk result (next.ended ≡ None) → IfErr result (λ fault. next.ended ≡ Some fault) → IsAsker tells name e next
  asker_on (Ok told) a ready still ended =
      let k : IsHeard tells e h.shape h.count s.said o (at_of s) (h.going none) (at_of next) a.more told = heard tells e h.shape h.count s.said o (at_of s) (h.going none) (at_of next) a.more (Ok told) told refl (by_name a.more (Ok told) a.does) in
      record {
        named = h.named;
        shape = h.shape;
        count = h.count;
        left = count ∙ h.left;
        askers = askers_on a.more a.said a.driving;
        going = λ on. subst (λ (said : List Command). IsGoing tells e said (at_of next)) (sym a.said) (goes_on tells e h.shape h.count s.said o (at_of s) (h.going none) k.mid (at_of next) a.more k.asks k.drives told k.answer ready);
        ended = λ fault is. absurd (none_some fault (sym still ∙ is));
      }
  asker_on (Err fault) a ready still ended = record {
    named = h.named;
    shape = h.shape;
    count = h.count;
    left = count ∙ h.left;
    askers = askers_on a.more a.said a.driving;
    going = λ on. absurd (none_some fault (sym on ∙ ended));
    ended = λ other is. subst (λ (f : CoreFault). HasStopped tells e next.said (at_of next) f) (some_is fault other (sym ended ∙ is))
        (subst (λ (said : List Command). HasStopped tells e said (at_of next) fault) (sym a.said)
        (asked_stops tells e h.shape h.count s.said o (at_of s) (h.going none) (at_of next) a.more (Err fault) (by_name a.more (Err fault) a.does) (count ∙ h.left)));
  }

  -- and this is shown of it
  pub asked_so : (was now : Asking) → was ≡ record { said = s.said; journal = s.cluster.core.journal; ended = s.ended } → now ≡ record { said = next.said; journal = next.cluster.core.journal; ended = next.ended }
      → (result : Result Reply CoreFault) → Asks tells name o (at_of s) (at_of next) s.said next.said result → IfOk result (λ told. HasAsked (shows_of tells e was) (shows_of tells e now) o told)
  asked_so was now old new (Ok told) a =
      let k : IsHeard tells e h.shape h.count s.said o (at_of s) (h.going none) (at_of next) a.more told = heard tells e h.shape h.count s.said o (at_of s) (h.going none) (at_of next) a.more (Ok told) told refl (by_name a.more (Ok told) a.does) in
      subst (λ (a : Asking). HasAsked (shows_of tells e a) (shows_of tells e now) o told) (sym old)
      (subst (λ (a : Asking). HasAsked (shows_of tells e (record { said = s.said; journal = s.cluster.core.journal; ended = s.ended })) (shows_of tells e a) o told) (sym new)
      (subst (λ (said : List Command). HasAsked (shows_of tells e (record { said = s.said; journal = s.cluster.core.journal; ended = s.ended })) (shows_of tells e (record { said = said; journal = next.cluster.core.journal; ended = next.ended })) o told) (sym a.said)
      (has_asked tells e h.shape h.count s.said o (at_of s) (h.going none) k.mid (at_of next) a.more k.asks k.drives s.ended next.ended told a.driving k.answer k.may)))
  asked_so was now old new (Err fault) a = tt

  pub begun_so : (was now : Asking) → was ≡ record { said = s.said; journal = s.cluster.core.journal; ended = s.ended } → now ≡ record { said = next.said; journal = next.cluster.core.journal; ended = next.ended }
      → (result : Result Reply CoreFault) → Asks tells name o (at_of s) (at_of next) s.said next.said result → HasBegun (shows_of tells e was) (shows_of tells e now) o
  begun_so was now old new result a =
      subst (λ (a : Asking). HasBegun (shows_of tells e a) (shows_of tells e now) o) (sym old)
      (subst (λ (a : Asking). HasBegun (shows_of tells e (record { said = s.said; journal = s.cluster.core.journal; ended = s.ended })) (shows_of tells e a) o) (sym new)
      (subst (λ (said : List Command). HasBegun (shows_of tells e (record { said = s.said; journal = s.cluster.core.journal; ended = s.ended })) (shows_of tells e (record { said = said; journal = next.cluster.core.journal; ended = next.ended })) o) (sym a.said)
      (has_begun tells e h.shape h.count s.said o (at_of s) (h.going none) (at_of next) a.more result s.ended next.ended a.driving (by_name a.more result a.does))))

  -- what was asked for is one operation more
  pub ops_on : (was now : Asking) → was ≡ record { said = s.said; journal = s.cluster.core.journal; ended = s.ended } → now ≡ record { said = next.said; journal = next.cluster.core.journal; ended = next.ended }
      → (result : Result Reply CoreFault) → Asks tells name o (at_of s) (at_of next) s.said next.said result → ops_of now.said ≡ ops_of was.said ++ o ∷ []
  ops_on was now old new result a =
      ap (λ (a : Asking). ops_of a.said) new ∙ ap ops_of a.said ∙ ops_more s.said a.more o a.driving ∙ ap (λ (a : Asking). ops_of a.said ++ o ∷ []) (sym old)

-- there is room where it goes on
pub room_on : (result : Result Reply CoreFault) (ended : Option CoreFault) (R : Type 0) → OnOk result R → IfErr result (λ fault. ended ≡ Some fault) → ended ≡ None → R
room_on (Ok told) ended R room fault none = room
room_on (Err f) ended R room fault none = absurd (none_some f (sym none ∙ fault))
