-- What single jobs do, and jobs one after another.
use Rattle.std.proofs.Common.{◌≡◌, ◌≤◌, zero, suc, ℕ, ◌+◌, Bool, cond, ◌==◌, true, false, not, List, [], ◌∷◌, ◌++◌, length, map, Option, Some, None, Result, Ok, Err, IfSome, IsSome, refl, sym, ap, subst, arith, append_assoc, length-append, ◌∙◌, inl, inr}
use Rattle.std.proofs.lemmas.List.{append-nil}
use Rattle.std.proofs.lemmas.List.Elements.{All-append}
use Rattle.std.specs.List.{range_with_len}
use Rattle.std.specs.Prelude.{All, get_or}
use Rattle.hs_entry.specs.declared.entry.Entry.{Entry}
use Rattle.hs_entry.specs.declared.entry.Entry.TheVariants as entry
use Rattle.hs_entry.specs.declared.rank.Rank.{Rank}
use Rattle.hs_peerlog.specs.Lists.{last_of, numbered_entry, with_waiting}
use Rattle.hs_desk.specs.Slips.{is_own_job, reported, work_of}
use Rattle.hs_desk.specs.declared.done.Done.{Done}
use Rattle.hs_desk.specs.declared.done.Done.TheVariants as done
use Rattle.hs_desk.specs.declared.fault.CoreFault.{CoreFault}
use Rattle.hs_desk.specs.declared.job.Job.{Job}
use Rattle.hs_desk.specs.declared.job.Job.TheVariants as job
use Rattle.hs_desk.specs.declared.job.Work.{Work}
use Rattle.hs_desk.specs.declared.job.Work.TheVariants as work
use Rattle.hs_desk.specs.declared.slip.Slip.{Slip}
use Rattle.hs_workers.specs.Work.{Bench, Came, WorkEnds, GivesJob, GoesOnBy, Grows, GrowsAndStops, Has, ShowsBlock, HasDone, IsInPlace, RefusesWork, WorkStops, WorksOn, is_failed, next_to_seal, shown_of}
use Rattle.hs_workers.specs.declared.fault.WorkFault.{WorkFault}
use Rattle.hs_workers.specs.declared.fault.WorkFault.TheVariants as fault

-- ---- lists that go on

numbered_front : (xs ys : List (ℕ × Entry)) (n : ℕ) (e : Entry) → numbered_entry xs n ≡ Some e → numbered_entry (xs ++ ys) n ≡ Some e
numbered_front [] ys n e at = absurd (cc at)
numbered_front (x ∷ xs) ys n e at = go (x.0 == n) at (numbered_front xs ys n e)
  where
    go : (b : Bool) → cond b (Some x.1) (numbered_entry xs n) ≡ Some e → (numbered_entry xs n ≡ Some e → numbered_entry (xs ++ ys) n ≡ Some e)
        → cond b (Some x.1) (numbered_entry (xs ++ ys) n) ≡ Some e
    go true is later = is
    go false is later = later is

-- blocks that a list shows are shown by a longer one
shows_front : (list more : List (ℕ × Entry)) (pairs : List (ℕ × List ℕ)) → All (ShowsBlock list) pairs → All (ShowsBlock (list ++ more)) pairs
shows_front list more pairs each k d below =
    let h = each k d below in
    record { op = h.op; least = h.least; entry = numbered_front list more (get_or pairs k d).0 _ h.entry }

shows_none : (list : List (ℕ × Entry)) → All (ShowsBlock list) []
shows_none list k d below = absurd (omega (arith, below))

range_on : (a m n : ℕ) → range_with_len a (m + n) ≡ range_with_len a m ++ range_with_len (a + m) n
range_on a zero n =
    let sum : 0 + n ≡ n = omega arith in
    let far : a ≡ a + 0 = omega arith in
    ap (λ (k : ℕ). range_with_len a k) sum ∙ ap (λ (k : ℕ). range_with_len k n) far
range_on a (suc m) n =
    let sum : suc m + n ≡ suc (m + n) = omega arith in
    let far : (a + 1) + m ≡ a + suc m = omega arith in
    ap (λ (k : ℕ). range_with_len a k) sum
    ∙ ap (λ (xs : List ℕ). a ∷ xs) (range_on (a + 1) m n ∙ ap (λ (k : ℕ). range_with_len (a + 1) m ++ range_with_len k n) far)

map_on : (xs ys : List (ℕ × Entry)) → map (λ (e : ℕ × Entry). e.0) (xs ++ ys) ≡ map (λ (e : ℕ × Entry). e.0) xs ++ map (λ (e : ℕ × Entry). e.0) ys
map_on [] ys = refl
map_on (x ∷ xs) ys = ap (λ (ns : List ℕ). x.0 ∷ ns) (map_on xs ys)

-- ---- single jobs

pub appended : (tells : Type 0) (a b : Bench) (entry : Entry)
    → b.log.rank ≡ a.log.rank → b.faults ≡ a.faults → a.log.waits ≡ None
    → (tells → (list : List (ℕ × Entry)) → Has a list None → Has b list (Some entry))
    → WorksOn tells a b [] []
appended tells a b entry rank calm none list = record {
  last = ap (λ (r : Rank). r.number) rank ∙ sym (omega arith);
  numbers = refl;
  calm = calm;
  list = on;
}
  where
    on : tells → (l : List (ℕ × Entry)) (waiting : Option Entry) → Has a l waiting → GoesOnBy b l [] []
    on told l None has = record {
      more = [];
      numbers = refl;
      waiting = Some entry;
      has = subst (λ (xs : List (ℕ × Entry)). Has b xs (Some entry)) (sym (append-nil l)) (list told l has);
      shows = shows_none (l ++ []);
    }
    on told l (Some w) has = absurd (let h = has.waits.rank in cc (none, h))

pub stays : (tells : Type 0) (a b : Bench) (shown : List (ℕ × List ℕ))
    → b.log ≡ a.log → b.faults ≡ a.faults → (tells → b.disk ≡ a.disk)
    → (tells → (list : List (ℕ × Entry)) (waiting : Option Entry) → Has a list waiting → All (ShowsBlock list) shown)
    → WorksOn tells a b [] shown
stays tells a b shown log calm disk told = record {
  last = ap (λ k. k.rank.number) log ∙ sym (omega arith);
  numbers = refl;
  calm = calm;
  list = λ t l waiting has. record {
    more = [];
    numbers = refl;
    waiting = waiting;
    has = subst (λ (xs : List (ℕ × Entry)). Has b xs waiting) (sym (append-nil l)) (rw (log, disk t) has);
    shows = subst (λ (xs : List (ℕ × Entry)). All (ShowsBlock xs) shown) (sym (append-nil l)) (told t l waiting has);
  };
}

pub sealed_one : (tells : Type 0) (a b : Bench) (number : ℕ) (waits : Option Rank)
    → a.log.waits ≡ waits → number ≡ next_to_seal a.log → IsSome waits
    → IfSome waits (λ rank. rank.number ≡ a.log.rank.number + 1) → IfSome waits (λ rank. b.log.rank ≡ rank)
    → b.faults ≡ a.faults
    → (tells → (list : List (ℕ × Entry)) (entry : Entry) → Has a list (Some entry) → Has b (with_waiting list entry) None)
    → WorksOn tells a b (number ∷ []) []
sealed_one tells a b number None is here some next rank calm list = absurd (cc some)
sealed_one tells a b number (Some r) is here some next rank calm list = record {
  last = ap (λ (k : Rank). k.number) rank ∙ next;
  numbers = ap (λ (n : ℕ). n ∷ []) one;
  calm = calm;
  list = on;
}
  where
    one : number ≡ a.log.rank.number + 1
    one = here ∙ (rw is next)

    on : tells → (l : List (ℕ × Entry)) (waiting : Option Entry) → Has a l waiting → GoesOnBy b l (number ∷ []) []
    on told l None has = absurd (let h = has.waits in cc (is, h))
    on told l (Some w) has = record {
      more = (last_of l + 1, w) ∷ [];
      numbers = ap (λ (n : ℕ). n ∷ []) (sym (one ∙ ap (λ (k : Rank). k.number + 1) has.rank));
      waiting = None;
      has = list told l w has;
      shows = shows_none (with_waiting l w);
    }

shows_one : (list : List (ℕ × Entry)) (n op least : ℕ) (bytes : List ℕ) → numbered_entry list n ≡ Some (entry.Block op least bytes) → All (ShowsBlock list) ((n, bytes) ∷ [])
shows_one list n op least bytes is zero d below = record { op = op; least = least; entry = is }
shows_one list n op least bytes is (suc k) d below = absurd (omega (arith, below))

-- what was read of an entry
pub read_done : (tells : Type 0) (a b : Bench) (n : ℕ) (e : Entry)
    → b.log ≡ a.log → b.faults ≡ a.faults → (tells → b.disk ≡ a.disk)
    → (tells → (list : List (ℕ × Entry)) (waiting : Option Entry) → Has a list waiting → numbered_entry list n ≡ Some e)
    → HasDone tells a b (shown_of n e)
unfolding shown_of
read_done tells a b n (entry.View view) log calm disk told = (stays tells a b [] log calm disk (λ t l w has. shows_none l), λ t l w has bytes shown. cc (told t l w has, shown.entry))
read_done tells a b n (entry.Block op least bytes) log calm disk told = stays tells a b ((n, bytes) ∷ []) log calm disk (λ t l w has. shows_one l n op least bytes (told t l w has))
read_done tells a b n (entry.Mark op least block address) log calm disk told = (stays tells a b [] log calm disk (λ t l w has. shows_none l), λ t l w has bytes shown. cc (told t l w has, shown.entry))
read_done tells a b n (entry.Root op held address key) log calm disk told = (stays tells a b [] log calm disk (λ t l w has. shows_none l), λ t l w has bytes shown. cc (told t l w has, shown.entry))
read_done tells a b n (entry.Drop op key) log calm disk told = (stays tells a b [] log calm disk (λ t l w has. shows_none l), λ t l w has bytes shown. cc (told t l w has, shown.entry))
read_done tells a b n (entry.Enter op epoch) log calm disk told = (stays tells a b [] log calm disk (λ t l w has. shows_none l), λ t l w has bytes shown. cc (told t l w has, shown.entry))
read_done tells a b n (entry.Got sender epoch round total deltas) log calm disk told = (stays tells a b [] log calm disk (λ t l w has. shows_none l), λ t l w has bytes shown. cc (told t l w has, shown.entry))
read_done tells a b n (entry.Base view epoch swept round frames) log calm disk told = (stays tells a b [] log calm disk (λ t l w has. shows_none l), λ t l w has bytes shown. cc (told t l w has, shown.entry))
read_done tells a b n (entry.KeptBlock born mark flags count bytes) log calm disk told = (stays tells a b [] log calm disk (λ t l w has. shows_none l), λ t l w has bytes shown. cc (told t l w has, shown.entry))
read_done tells a b n (entry.KeptRoot created dropped counted address key) log calm disk told = (stays tells a b [] log calm disk (λ t l w has. shows_none l), λ t l w has bytes shown. cc (told t l w has, shown.entry))
read_done tells a b n (entry.KeptRound way other epoch round total deltas) log calm disk told = (stays tells a b [] log calm disk (λ t l w has. shows_none l), λ t l w has bytes shown. cc (told t l w has, shown.entry))

-- no entry of that number is kept
pub gone_done : (tells : Type 0) (a b : Bench) (n : ℕ) → b.log ≡ a.log → b.faults ≡ a.faults → (tells → b.disk ≡ a.disk)
    → (tells → (list : List (ℕ × Entry)) (waiting : Option Entry) → Has a list waiting → numbered_entry list n ≡ None)
    → HasDone tells a b (done.Gone n)
gone_done tells a b n log calm disk told = (stays tells a b [] log calm disk (λ t l w has. shows_none l), λ t l w has bytes shown. cc (told t l w has, shown.entry))

-- ---- jobs one after another

pub working_none : (tells : Type 0) (a : Bench) → WorksOn tells a a [] []
working_none tells a = stays tells a a [] refl refl (λ t. refl) (λ t l w has. shows_none l)

pub working_more : (tells : Type 0) (a b c : Bench) (stored more : List ℕ) (shown further : List (ℕ × List ℕ))
    → WorksOn tells a b stored shown → WorksOn tells b c more further → WorksOn tells a c (stored ++ more) (shown ++ further)
working_more tells a b c stored more shown further one two = record {
  last = let e = length-append stored more in let p = one.last in let q = two.last in omega arith;
  numbers = numbers;
  calm = two.calm ∙ one.calm;
  list = on;
}
  where
    numbers : (stored ++ more) ≡ range_with_len (a.log.rank.number + 1) (length (stored ++ more))
    numbers =
        let n : ℕ = a.log.rank.number + 1 in
        let at : b.log.rank.number + 1 ≡ n + length stored = (let p = one.last in omega arith) in
        ap (λ (xs : List ℕ). xs ++ more) one.numbers
        ∙ (ap (λ (xs : List ℕ). range_with_len n (length stored) ++ xs) (two.numbers ∙ ap (λ (k : ℕ). range_with_len k (length more)) at)
        ∙ (sym (range_on n (length stored) (length more)) ∙ ap (λ (k : ℕ). range_with_len n k) (sym (length-append stored more))))

    on : tells → (l : List (ℕ × Entry)) (waiting : Option Entry) → Has a l waiting → GoesOnBy c l (stored ++ more) (shown ++ further)
    on told l waiting has =
        let first : GoesOnBy b l stored shown = one.list told l waiting has in
        let second : GoesOnBy c (l ++ first.more) more further = two.list told (l ++ first.more) first.waiting first.has in
        record {
          more = first.more ++ second.more;
          numbers = map_on first.more second.more ∙ (ap (λ (xs : List ℕ). xs ++ map (λ (e : ℕ × Entry). e.0) second.more) first.numbers ∙ ap (λ (xs : List ℕ). stored ++ xs) second.numbers);
          waiting = second.waiting;
          has = subst (λ (xs : List (ℕ × Entry)). Has c xs second.waiting) (append_assoc l first.more second.more) second.has;
          shows = All-append (ShowsBlock (l ++ (first.more ++ second.more))) shown further
              (subst (λ (xs : List (ℕ × Entry)). All (ShowsBlock xs) shown) (append_assoc l first.more second.more) (shows_front (l ++ first.more) second.more shown first.shows))
              (subst (λ (xs : List (ℕ × Entry)). All (ShowsBlock xs) further) (append_assoc l first.more second.more) second.shows);
        }

-- ---- what the slip tells

pub grows_none : (tells : Type 0) (slip slip' : Slip) (a : Bench) → slip'.peer ≡ slip.peer → slip'.stored ≡ slip.stored → slip'.shown ≡ slip.shown → Grows tells slip slip' a a
grows_none tells slip slip' a peer stored shown = record {
  stored = [];
  shown = [];
  peer = peer;
  noted_stored = stored ∙ sym (append-nil slip.stored);
  noted_shown = shown ∙ sym (append-nil slip.shown);
  done = working_none tells a;
}

pub grows_more : (tells : Type 0) (s t u : Slip) (a b c : Bench) → Grows tells s t a b → Grows tells t u b c → Grows tells s u a c
grows_more tells s t u a b c one two = record {
  stored = one.stored ++ two.stored;
  shown = one.shown ++ two.shown;
  peer = two.peer ∙ one.peer;
  noted_stored = two.noted_stored ∙ (ap (λ (xs : List ℕ). xs ++ two.stored) one.noted_stored ∙ append_assoc s.stored one.stored two.stored);
  noted_shown = two.noted_shown ∙ (ap (λ (xs : List (ℕ × List ℕ)). xs ++ two.shown) one.noted_shown ∙ append_assoc s.shown one.shown two.shown);
  done = working_more tells a b c one.stored two.stored one.shown two.shown one.done two.done;
}

-- one report that is taken
pub came : (tells : Type 0) (slip slip' : Slip) (a b : Bench) (d : Done) → slip' ≡ reported d (Ok tt) slip → HasDone tells a b d
    → (is_failed d ≡ false → IsInPlace tells b) → a.faults ≤ b.faults → Came tells slip slip' a b (not (is_failed d))
came tells slip slip' a b (done.Stored number) noted did place later = (ap (λ (s : Slip). s.fault) noted, (record { stored = []; shown = []; peer = ap (λ (s : Slip). s.peer) noted; noted_stored = ap (λ (s : Slip). s.stored) noted; noted_shown = ap (λ (s : Slip). s.shown) noted; done = did }, place refl))
came tells slip slip' a b (done.Sealed number) noted did place later = (ap (λ (s : Slip). s.fault) noted, (record { stored = number ∷ []; shown = []; peer = ap (λ (s : Slip). s.peer) noted; noted_stored = ap (λ (s : Slip). s.stored) noted; noted_shown = ap (λ (s : Slip). s.shown) noted; done = did }, place refl))
came tells slip slip' a b (done.Bytes number bytes) noted did place later = (ap (λ (s : Slip). s.fault) noted, (record { stored = []; shown = (number, bytes) ∷ []; peer = ap (λ (s : Slip). s.peer) noted; noted_stored = ap (λ (s : Slip). s.stored) noted; noted_shown = ap (λ (s : Slip). s.shown) noted; done = did }, place refl))
came tells slip slip' a b (done.Gone number) noted did place later = (ap (λ (s : Slip). s.fault) noted, (record { stored = []; shown = []; peer = ap (λ (s : Slip). s.peer) noted; noted_stored = ap (λ (s : Slip). s.stored) noted; noted_shown = ap (λ (s : Slip). s.shown) noted; done = did.0 }, place refl))
came tells slip slip' a b done.Emptied noted did place later = absurd did
came tells slip slip' a b (done.Copied number) noted did place later = absurd did
came tells slip slip' a b (done.Stepped switched) noted did place later = absurd did
came tells slip slip' a b (done.Failed disk) noted did place later = (
  ap (λ (s : Slip). s.fault) noted,
  record {
    before = slip;
    between = a;
    grows = grows_none tells slip slip a refl refl refl;
    peer = ap (λ (s : Slip). s.peer) noted;
    stored = ap (λ (s : Slip). s.stored) noted;
    shown = ap (λ (s : Slip). s.shown) noted ∙ append-nil slip.shown;
    later = later;
    cause = did.0;
    kept = did.1;
  },
)

own_work : (j : Job) → is_own_job j ≡ true → (w : Work) × (work_of j ≡ Some w)
own_work (job.Append number entry) own = (work.Append number, refl)
own_work (job.Seal number) own = (work.Seal number, refl)
own_work (job.Read number) own = (work.Read number, refl)
own_work job.Reset own = absurd (cc own)
own_work (job.Copy from number) own = absurd (cc own)
own_work job.Reclaim own = absurd (cc own)

refused_stops : (tells : Type 0) (slip : Slip) (w : Work) (a b : Bench) (why : WorkFault) → slip.work ≡ Some w → RefusesWork w a b slip.stored why → WorkStops tells slip a b why
refused_stops tells slip w a b (fault.Core f) at not_so = absurd not_so
refused_stops tells slip w a b (fault.Torn place told kept) at torn = (torn.0, torn.1, (w, at, torn.2))
refused_stops tells slip w a b fault.NoMemory at same = inr (same, (w, at))

-- a job was not done
pub stops_refused : (tells : Type 0) (slip : Slip) (a b : Bench) (j : Job) (why : WorkFault) → slip.work ≡ work_of j → is_own_job j ≡ true
    → ((stored : List ℕ) (w : Work) → stored ≡ slip.stored → work_of j ≡ Some w → RefusesWork w a b stored why) → a.faults ≤ b.faults
    → GrowsAndStops tells slip slip a b why
stops_refused tells slip a b j why at own told later =
    let w = own_work j own in
    record { between = a; grows = grows_none tells slip slip a refl refl refl; later = later; cause = refused_stops tells slip w.0 a b why (at ∙ w.1) (told slip.stored w.0 refl w.1) }

-- or its report not taken
pub stops_untaken : (tells : Type 0) (slip slip' : Slip) (a b : Bench) (d : Done) (f : CoreFault) → slip' ≡ reported d (Err f) slip → HasDone tells a b d → a.faults ≤ b.faults
    → GrowsAndStops tells slip slip' a b (fault.Core f)
stops_untaken tells slip slip' a b d f noted did later = record {
  between = a;
  grows = grows_none tells slip slip' a (ap (λ (s : Slip). s.peer) noted) (ap (λ (s : Slip). s.stored) noted) (ap (λ (s : Slip). s.shown) noted);
  later = later;
  cause = (ap (λ (s : Slip). s.fault) noted, inr (d, did));
}

-- ---- a peer's work

given_grows : (tells : Type 0) (s t : Slip) (b : Bench) (given : Result (Option Job) WorkFault) → GivesJob s t given → Grows tells s t b b
given_grows tells s t b (Ok (Some j)) is = grows_none tells s t b (ap (λ (x : Slip). x.peer) is.0) (ap (λ (x : Slip). x.stored) is.0) (ap (λ (x : Slip). x.shown) is.0)
given_grows tells s t b (Ok None) is = grows_none tells s t b (ap (λ (x : Slip). x.peer) is) (ap (λ (x : Slip). x.stored) is) (ap (λ (x : Slip). x.shown) is)
given_grows tells s t b (Err (fault.Core f)) is = grows_none tells s t b (ap (λ (x : Slip). x.peer) is) (ap (λ (x : Slip). x.stored) is) (ap (λ (x : Slip). x.shown) is)
given_grows tells s t b (Err (fault.Torn place told kept)) is = absurd is
given_grows tells s t b (Err fault.NoMemory) is = grows_none tells s t b (ap (λ (x : Slip). x.peer) is) (ap (λ (x : Slip). x.stored) is) (ap (λ (x : Slip). x.shown) is)

given_stops : (tells : Type 0) (s t : Slip) (b : Bench) (why : WorkFault) → GivesJob s t (Err why) → WorkStops tells t b b why
given_stops tells s t b (fault.Core f) is = (ap (λ (x : Slip). x.fault) is, inl refl)
given_stops tells s t b (fault.Torn place told kept) is = absurd is
given_stops tells s t b fault.NoMemory is = inl refl

-- what a peer's work keeps on its way
pub record Goes (tells : Type 0) (slip slip' : Slip) (a b : Bench) : Type 0 where
  pub grows : Grows tells slip slip' a b
  pub in_place : IsInPlace tells b
  pub calm : slip'.fault ≡ slip.fault

pub goes_none : (tells : Type 0) (slip : Slip) (a : Bench) → IsInPlace tells a → Goes tells slip slip a a
goes_none tells slip a place = record { grows = grows_none tells slip slip a refl refl refl; in_place = place; calm = refl }

-- one job more
pub goes_more : (tells : Type 0) (s t u v : Slip) (a b c : Bench) (given : Result (Option Job) WorkFault) (j : Job) → Goes tells s t a b → GivesJob t u given → given ≡ Ok (Some j)
    → (on : Bool) → on ≡ true → Came tells u v b c on → Goes tells s v a c
goes_more tells s t u v a b c given j goes gives is on goes_on came_on =
    let did : Came tells u v b c true = subst (λ (x : Bool). Came tells u v b c x) goes_on came_on in
    let gave : GivesJob t u (Ok (Some j)) = subst (λ (x : Result (Option Job) WorkFault). GivesJob t u x) is gives in
    record {
      grows = grows_more tells s u v a b c (grows_more tells s t u a b b goes.grows (given_grows tells t u b (Ok (Some j)) gave)) did.1.0;
      in_place = did.1.1;
      calm = did.0 ∙ (ap (λ (x : Slip). x.fault) gave.0 ∙ goes.calm);
    }

-- its disk failed
pub ends_failed : (tells : Type 0) (s t u v : Slip) (a b c : Bench) (given : Result (Option Job) WorkFault) (j : Job) → Goes tells s t a b → GivesJob t u given → given ≡ Ok (Some j)
    → (on : Bool) → on ≡ false → Came tells u v b c on → WorkEnds tells s v a c (Ok tt)
ends_failed tells s t u v a b c given j goes gives is on fails_on came_on =
    let did : Came tells u v b c false = subst (λ (x : Bool). Came tells u v b c x) fails_on came_on in
    let gave : GivesJob t u (Ok (Some j)) = subst (λ (x : Result (Option Job) WorkFault). GivesJob t u x) is gives in
    let fails = did.1 in (
      did.0 ∙ (ap (λ (x : Slip). x.fault) gave.0 ∙ goes.calm),
      inr (record {
        before = fails.before;
        between = fails.between;
        grows = grows_more tells s u fails.before a b fails.between (grows_more tells s t u a b b goes.grows (given_grows tells t u b (Ok (Some j)) gave)) fails.grows;
        peer = fails.peer;
        stored = fails.stored;
        shown = fails.shown;
        later = fails.later;
        cause = fails.cause;
        kept = fails.kept;
      }),
    )

-- it is idle
pub ends_idle : (tells : Type 0) (s t u : Slip) (a b : Bench) (given : Result (Option Job) WorkFault) → Goes tells s t a b → GivesJob t u given → given ≡ Ok None
    → b.log.waits ≡ None → WorkEnds tells s u a b (Ok tt)
ends_idle tells s t u a b given goes gives is sealed =
    let gave : GivesJob t u (Ok None) = subst (λ (x : Result (Option Job) WorkFault). GivesJob t u x) is gives in (
      ap (λ (x : Slip). x.fault) gave ∙ goes.calm,
      inl (grows_more tells s t u a b b goes.grows (given_grows tells t u b (Ok None) gave), record { idle = ap (λ (x : Slip). x.idle) gave; sealed = sealed; in_place = goes.in_place }),
    )

-- it is idle, and an entry waits
pub ends_waiting : (tells : Type 0) (s t u : Slip) (a b : Bench) (given : Result (Option Job) WorkFault) → Goes tells s t a b → GivesJob t u given
    → WorkEnds tells s u a b (Err fault.NoMemory)
ends_waiting tells s t u a b given goes gives =
    record { between = b; grows = grows_more tells s t u a b b goes.grows (given_grows tells t u b given gives); later = omega arith; cause = inl refl }

-- no job was taken
pub ends_untaken : (tells : Type 0) (s t u : Slip) (a b : Bench) (given : Result (Option Job) WorkFault) (why : WorkFault) → Goes tells s t a b → GivesJob t u given → given ≡ Err why
    → WorkEnds tells s u a b (Err why)
ends_untaken tells s t u a b given why goes gives is =
    let gave : GivesJob t u (Err why) = subst (λ (x : Result (Option Job) WorkFault). GivesJob t u x) is gives in
    record { between = b; grows = grows_more tells s t u a b b goes.grows (given_grows tells t u b (Err why) gave); later = omega arith; cause = given_stops tells t u b why gave }

-- a job was not done, or its report not taken
pub ends_stopped : (tells : Type 0) (s t u v : Slip) (a b c : Bench) (given : Result (Option Job) WorkFault) (why : WorkFault) → Goes tells s t a b → GivesJob t u given
    → GrowsAndStops tells u v b c why → WorkEnds tells s v a c (Err why)
ends_stopped tells s t u v a b c given why goes gives stops = record {
  between = stops.between;
  grows = grows_more tells s u v a b stops.between (grows_more tells s t u a b b goes.grows (given_grows tells t u b given gives)) stops.grows;
  later = stops.later;
  cause = stops.cause;
}
