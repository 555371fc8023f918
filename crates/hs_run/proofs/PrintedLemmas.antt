-- What a sink has got of the text of a journal, as the journal goes on.
use Rattle.std.proofs.Common.{◌≡◌, ◌∙◌, ap, sym, subst, inl, inr, ℕ, ◌+◌, ◌-◌, ◌^◌, ◌<◌, ◌≤◌, true, List, [], ◌∷◌, ◌++◌, Option, Some, None, refl, arith, length, min, take, nat_lt}
use Rattle.std.proofs.lemmas.Bool.{cases_lt}
use Rattle.std.proofs.lemmas.Grind.{flat_map-append}
use Rattle.std.proofs.lemmas.List.{append-nil, append_assoc, take-append-le, take_min}
use Rattle.std.proofs.lemmas.List.Elements.{All-append, All-head, All-map, All-nil, All-tail, All-weaker, filter-append}
use Rattle.std.proofs.Math.Seq.{take-append-add}
use Rattle.std.specs.Prelude.{All, Ok, Result, ⊤}
use Rattle.hs_journal.specs.declared.entry.JournalEntry.{JournalEntry}
use Rattle.hs_journal.specs.Moments.{below}
use Rattle.hs_ports.specs.Objects.{IsSinkBehind, Objects}
use Rattle.hs_ports.specs.Putting.{PutsFront, got_by}
use Rattle.hs_ports.specs.Sink.{bytes_of, followed, stamped}
use Rattle.hs_ports.specs.Watch.{next_moment}
use Rattle.hs_script.specs.Text.{entry_text, text}
use Rattle.hs_run.specs.declared.stop.Stop.{Stop}
use Rattle.hs_run.specs.Going.{IsPrinted, IsPutSoFar}
use Rattle.hs_run.specs.Puts.{IsStamped, Puts, PutsLate}
use Rattle.hs_run.proofs.AnsweredLemmas.{AreDatedBy}
use Rattle.hs_run.proofs.LateLemmas.{followed_none, front_none}
use Rattle.hs_run.proofs.TellingLemmas.{followed_twice}

-- ---- stamps

-- two parts one after the other, of any bytes
pub followed_both : {A : Type 0} (got : Option (List A)) (a b : List A) → followed (followed got a) b ≡ followed got (a ++ b)
followed_both None a b = refl
followed_both {A} (Some got) a b = ap (λ (bytes : List A). Some bytes) (append_assoc got a b)

pub followed_nothing : {A : Type 0} (got : Option (List A)) → followed got [] ≡ got
followed_nothing None = refl
followed_nothing {A} (Some got) = ap (λ (bytes : List A). Some bytes) (append-nil got)

-- top: the moment at which a watch stands still
pub least : (top a b k : ℕ) → a ≤ b → min (b + 1) top ≤ k → min (a + 1) top ≤ k
least top a b k low is = omega (arith, low, is)

-- stamps of a later part are of an earlier one too, and the other way about
wider : (first before now later : ℕ) (more : List (ℕ × ℕ)) → first ≤ before → now ≤ later → All (λ (byte : ℕ × ℕ). (next_moment before ≤ byte.1) × (byte.1 ≤ now)) more
    → All (λ (byte : ℕ × ℕ). (next_moment first ≤ byte.1) × (byte.1 ≤ later)) more
wider first before now later more low up h =
    All-weaker (λ (byte : ℕ × ℕ). (next_moment before ≤ byte.1) × (byte.1 ≤ now)) (λ (byte : ℕ × ℕ). (next_moment first ≤ byte.1) × (byte.1 ≤ later))
    (λ byte is. (lower byte.1 is.0, upper byte.1 is.1)) more h
  where
    lower : (k : ℕ) → next_moment before ≤ k → next_moment first ≤ k
    lower k is = least (2 ^ 64 - 1) first before k low is

    upper : (k : ℕ) → k ≤ now → k ≤ later
    upper k is = omega (arith, is, up)

pub stamped_none : (now : ℕ) (got : Option (List (ℕ × ℕ))) → IsStamped now now got got
stamped_none now got = record { more = []; put = sym (followed_nothing got); stamped = All-nil (λ (byte : ℕ × ℕ). (next_moment now ≤ byte.1) × (byte.1 ≤ now)) }

pub stamped_on : (before now later : ℕ) (got got' : Option (List (ℕ × ℕ))) → now ≤ later → IsStamped before now got got' → IsStamped before later got got'
stamped_on before now later got got' up h = record { more = h.more; put = h.put; stamped = wider before before now later h.more (omega arith) up h.stamped }

pub stamped_both : (first now before later : ℕ) (got got' got'' : Option (List (ℕ × ℕ))) → first ≤ before → now ≤ later → IsStamped first now got got' → IsStamped before later got' got'' → IsStamped first later got got''
stamped_both first now before later got got' got'' low up h k = record {
  more = h.more ++ k.more;
  put = k.put ∙ ap (λ (g : Option (List (ℕ × ℕ))). followed g k.more) h.put ∙ followed_both got h.more k.more;
  stamped = All-append (λ (byte : ℕ × ℕ). (next_moment first ≤ byte.1) × (byte.1 ≤ later)) h.more k.more (wider first first now later h.more (omega arith) up h.stamped) (wider first before later later k.more low (omega arith) k.stamped);
}

-- one more piece, at the next moment
at_next : (top a b k : ℕ) → a ≤ b → k ≡ min (b + 1) top → min (a + 1) top ≤ k
at_next top a b k low is = omega (arith, low, is)

pub stamped_piece : (before now next : ℕ) (got got' got'' : Option (List (ℕ × ℕ))) (piece : List ℕ) → before ≤ now → next ≡ next_moment now → now ≤ next → got'' ≡ followed got' (stamped next piece) → IsStamped before now got got' → IsStamped before next got got''
stamped_piece before now next got got' got'' piece low tick on put h = record {
  more = h.more ++ stamped next piece;
  put = put ∙ ap (λ (g : Option (List (ℕ × ℕ))). followed g (stamped next piece)) h.put ∙ followed_both got h.more (stamped next piece);
  stamped = All-append (λ (byte : ℕ × ℕ). (next_moment before ≤ byte.1) × (byte.1 ≤ next)) h.more (stamped next piece) (wider before before now next h.more (omega arith) on h.stamped)
      (All-map (λ (byte : ℕ × ℕ). (next_moment before ≤ byte.1) × (byte.1 ≤ next)) (λ (byte : ℕ). (byte, next)) piece (λ i d short. (at_next (2 ^ 64 - 1) before now next low tick, omega arith)));
}

-- ---- fronts

-- a front of a text is one of a longer text
pub front_longer : (got got' : Option (List ℕ)) (a b : List ℕ) → PutsFront got a got' → PutsFront got (a ++ b) got'
front_longer got got' a b front = record {
  count = min front.count (length a);
  put = front.put ∙ ap (followed got) (sym (take_min front.count a) ∙ sym (take-append-le (min front.count (length a)) a b (omega arith)));
}

-- a text, and then a front of another
pub front_behind : (got0 got got' : Option (List ℕ)) (a b : List ℕ) → got ≡ followed got0 a → PutsFront got b got' → PutsFront got0 (a ++ b) got'
front_behind got0 got got' a b so_far front = record {
  count = length a + front.count;
  put = front.put ∙ ap (λ (g : Option (List ℕ)). followed g (take front.count b)) so_far ∙ followed_twice got0 a (take front.count b) ∙ ap (followed got0) (sym (take-append-add a b front.count));
}

-- ---- texts

pub text_both : (a b : List JournalEntry) → text (a ++ b) ≡ text a ++ text b
text_both a b = flat_map-append entry_text a b

-- the text of what was answered below a moment, in two parts
below_both : (m : ℕ) (a b : List JournalEntry) → text (below m (a ++ b)) ≡ text (below m a) ++ text (below m b)
below_both m a b = ap text (filter-append (λ (entry : JournalEntry). nat_lt entry.moment m) a b) ∙ text_both (below m a) (below m b)

-- what was answered before a moment is all below it
pub below_all : (m now : ℕ) (entries : List JournalEntry) → now < m → AreDatedBy now entries → below m entries ≡ entries
below_all m now [] lt h = refl
below_all m now (e ∷ es) lt h =
    let first : e.moment ≤ now = All-head (λ (entry : JournalEntry). entry.moment ≤ now) e es h in
    let here : nat_lt e.moment m ≡ true = is_below e.moment (omega (arith, first, lt)) in
    rw here (ap (λ (rest : List JournalEntry). e ∷ rest) (below_all m now es lt (All-tail (λ (entry : JournalEntry). entry.moment ≤ now) e es h)))
  where
    is_below : (k : ℕ) → k < m → nat_lt k m ≡ true
    is_below k low = grind arith

-- ---- nothing was put yet

pub printed_none : (old : Objects) → IsPrinted old old.moment old.got []
printed_none old = record {
  so_far = record {
    front = front_none (bytes_of old.got) (bytes_of old.got) [] refl;
    in_time = λ m behind above early. front_none (bytes_of old.got) (bytes_of (got_by m old.got)) [] (ap bytes_of (behind m (omega (arith, above))));
    stamped = stamped_none old.moment old.got;
  };
  put = sym (followed_none (bytes_of old.got));
  whole = λ m behind le early. ap bytes_of (behind m le) ∙ sym (followed_none (bytes_of old.got));
}

-- time went on
pub printed_on : (old : Objects) (now later : ℕ) (got : Option (List (ℕ × ℕ))) (journal : List JournalEntry) → now ≤ later → IsPrinted old now got journal → IsPrinted old later got journal
printed_on old now later got journal up h = record {
  so_far = record { front = h.so_far.front; in_time = h.so_far.in_time; stamped = stamped_on old.moment now later old.got got up h.so_far.stamped };
  put = h.put;
  whole = λ m behind le early. h.whole m behind (omega (arith, le, up)) early;
}

-- ---- more was answered, and put, or a front of it

module _ (old : Objects) (now mid later : ℕ) (got got' : Option (List (ℕ × ℕ))) (journal more : List JournalEntry) (since : old.moment ≤ now) (up : now ≤ mid)
    (dated : AreDatedBy now journal) (new : AreDatedBy mid more) (printed : IsPrinted old now got journal) where
  in_time_more : PutsLate mid later (text more) got got' → (m : ℕ) → IsSinkBehind old → old.moment < m → m < 2 ^ 64 - 1 → PutsFront (bytes_of old.got) (text (below m (journal ++ more))) (bytes_of (got_by m got'))
  in_time_more late m behind above early = elim (cases_lt mid m) [
    | inl lt ↦
        let first : below m journal ≡ journal = below_all m now journal (omega (arith, lt, up)) dated in
        let second : below m more ≡ more = below_all m mid more lt new in
        let parts : text (below m (journal ++ more)) ≡ text journal ++ text more =
        below_both m journal more ∙ ap (λ (j : List JournalEntry). text j ++ text (below m more)) first ∙ ap (λ (j : List JournalEntry). text journal ++ text j) second in
        subst (λ (bytes : List ℕ). PutsFront (bytes_of old.got) bytes (bytes_of (got_by m got'))) (sym parts)
        (front_behind (bytes_of old.got) (bytes_of (got_by m got)) (bytes_of (got_by m got')) (text journal) (text more) (printed.whole m behind (omega (arith, lt, up)) early) (late.front m early))
    | inr le ↦
        subst (λ (bytes : List ℕ). PutsFront (bytes_of old.got) bytes (bytes_of (got_by m got'))) (sym (below_both m journal more))
        (subst (λ (g : Option (List (ℕ × ℕ))). PutsFront (bytes_of old.got) (text (below m journal) ++ text (below m more)) (bytes_of g)) (sym (late.same m le early))
        (front_longer (bytes_of old.got) (bytes_of (got_by m got)) (text (below m journal)) (text (below m more)) (printed.so_far.in_time m behind above early)))
  ]

  pub put_more_so_far : (put : Result ⊤ Stop) → Puts mid later (text more) got got' put → IsPutSoFar old later got' (journal ++ more)
  put_more_so_far put puts = record {
    front = subst (λ (bytes : List ℕ). PutsFront (bytes_of old.got) bytes (bytes_of got')) (sym (text_both journal more))
        (front_behind (bytes_of old.got) (bytes_of got) (bytes_of got') (text journal) (text more) printed.put puts.front);
    in_time = in_time_more puts.late;
    stamped = stamped_both old.moment now mid later old.got got got' (omega (arith, since, up)) (omega (arith, up, puts.late.later)) printed.so_far.stamped puts.stamped;
  }

  pub printed_more : Puts mid later (text more) got got' (Ok tt) → IsPrinted old later got' (journal ++ more)
  printed_more puts = record {
    so_far = put_more_so_far (Ok tt) puts;
    put = puts.whole ∙ ap (λ (g : Option (List ℕ)). followed g (text more)) printed.put ∙ followed_twice (bytes_of old.got) (text journal) (text more) ∙ ap (followed (bytes_of old.got)) (sym (text_both journal more));
    whole = λ m behind le early.
        puts.all m le early ∙ ap (λ (g : Option (List ℕ)). followed g (text more)) (printed.whole m behind (omega (arith, le, up, puts.late.later)) early)
        ∙ followed_twice (bytes_of old.got) (text journal) (text more) ∙ ap (followed (bytes_of old.got)) (sym (text_both journal more));
  }
