-- Why a script's run ended, wherever it did.
use Rattle.std.proofs.Common.{◌≡◌, ℕ, ◌+◌, ◌-◌, ◌<◌, ◌≤◌, Bool, true, false, List, [], ◌∷◌, ◌++◌, length, take, drop, Option, Some, None, Result, Ok, Err, refl, sym, ap, subst, ◌∙◌, arith, length-append, length-take, inl, inr}
use Rattle.std.proofs.lemmas.Bool.{cases_lt, false≢true, true≢false}
use Rattle.std.proofs.lemmas.List.{get_or-take}
use Rattle.std.proofs.Math.Seq.{take-append-add}
use Rattle.std.specs.Prelude.{IfErr, ⊤, is_ok}
use Rattle.hs_cluster.specs.Calls.{outcome_by, ran_out}
use Rattle.hs_cluster.specs.declared.fault.ClusterFault.{ClusterFault}
use Rattle.hs_cluster.specs.declared.fault.ClusterFault.TheVariants as cluster
use Rattle.hs_desk.specs.declared.fault.CoreFault.{CoreFault}
use Rattle.hs_desk.specs.declared.fault.CoreFault.TheVariants as core
use Rattle.hs_events.specs.Commands.{is_served}
use Rattle.hs_limits.specs.declared.address.Address.{Address}
use Rattle.hs_model.specs.declared.command.Command.{Command}
use Rattle.hs_model.specs.declared.command.Command.TheVariants as command
use Rattle.hs_ports.specs.Source.{before}
use Rattle.hs_promise.specs.Ends.{HasEnded}
use Rattle.hs_side.specs.declared.header.Header.{Header}
use Rattle.hs_run.specs.Between.{Point}
use Rattle.hs_script.specs.declared.read.TheConstants.{LONGEST_LINE}
use Rattle.hs_script.specs.Lines.{lines_of}
use Rattle.hs_script.specs.Reading.{Reading, reading, says}
use Rattle.hs_script.specs.Scripts.{IsBad, complete_lines, input_limit, is_bad, is_unserved}
use Rattle.hs_run.specs.declared.stop.Stop.{Stop}
use Rattle.hs_run.specs.declared.stop.Stop.TheVariants as stop
use Rattle.hs_run.specs.Causes.{EndsBy}
use Rattle.hs_run.specs.Lines.{HasNoFeed, Overflows, Halts}
use Rattle.hs_run.specs.OneLine.{Bad, Blank, Commanded, DoesLine, IsOpeningPut, Printing, Stretch, Unread}
use Rattle.hs_run.specs.Reading.{IsReadThrough}
use Rattle.hs_run.specs.Stopping.{IsPutStop, end_of, status_of}
use Rattle.hs_cluster.specs.Running.{Running}
use Rattle.hs_run.proofs.AdvanceLemmas.{Advanced}
use Rattle.hs_run.proofs.CaseLemmas.{if_any}
use Rattle.hs_run.proofs.EndingLemmas.{complete_taken, ends_as, ends_at, first_line, good_more, next_is, none_bad, taken_is, too_long}
use Rattle.hs_run.proofs.SpendsLemmas.{complete-append, complete-none}

-- ---- the input ended

-- where nothing is pending, nothing is left
none_left_of : (held : List ℕ) (left : Option (List ℕ)) → before held left ≡ Some [] → (rest : List ℕ) → left ≡ Some rest → rest ≡ []
none_left_of held left nothing rest is = go held (some_is (held ++ rest) (ap (before held) (sym is) ∙ nothing))
  where
    some_is : (xs : List ℕ) → Some xs ≡ Some [] → xs ≡ []
    some_is xs e = cc

    go : (xs : List ℕ) → xs ++ rest ≡ [] → rest ≡ []
    go [] e = e
    go (x ∷ xs) e = absurd cc

pub ends_done : (script : List ℕ) (n : ℕ) (pending : Option (List ℕ)) (cost cost' : ℕ) (ended : Bool) (held : List ℕ) (left : Option (List ℕ))
    → IsReadThrough script pending cost ended n → before held left ≡ Some (drop (input_limit - cost') script) → cost' ≤ input_limit → input_limit - cost' ≤ length script → length held ≤ cost'
    → n ≡ length (lines_of script) → before held left ≡ Some [] → EndsBy script left (Ok tt) n
ends_done script n pending cost cost' ended held left read pending' low high few whole nothing =
    ends_at script held left cost' n (Ok tt) pending' low high few read.good read.within (λ rest is le. (whole, none_left_of held left nothing rest is, le))

-- ---- no line was found

-- no line feed stands in a front of the bytes before the last
front_no_feed : (count : ℕ) (held : List ℕ) → length held ≡ count + 1 → HasNoFeed held 0 (length held - 1) → HasNoFeed (take count held) 0 (length (take count held))
front_no_feed count held long none k low lt =
    let short : k < count = omega (arith, length-take count held) in
    λ same. none k low (omega arith) (sym (get_or-take count held k 0 short) ∙ same)

-- one byte more than the limit was taken, and the lines that end within the limit are those that were read
overflow_is : (limit cost n : ℕ) (script held : List ℕ) → cost ≤ limit → limit - cost ≤ length script → length held ≡ cost + 1 → HasNoFeed held 0 (length held - 1) → complete_lines (take (limit - cost) script) ≡ n
    → (n ≡ complete_lines (take limit (take (limit - cost) script ++ held))) × (length (take (limit - cost) script ++ held) ≡ limit + 1)
overflow_is limit cost n script held low high long none read =
    let front : List ℕ = take (limit - cost) script in
    let exact : length front ≡ limit - cost = omega (arith, length-take (limit - cost) script) in
    let whole : limit ≡ length front + cost = omega arith in
    let parts : take limit (front ++ held) ≡ front ++ take cost held = ap (λ (k : ℕ). take k (front ++ held)) whole ∙ take-append-add front held cost in
    let none_more : complete_lines (take cost held) ≡ 0 = complete-none (take cost held) (front_no_feed cost held long none) in (
      sym (ap complete_lines parts ∙ complete-append front (take cost held) ∙ omega (arith, none_more, read)),
      length-append front held ∙ omega arith,
    )

module _ (script : List ℕ) (n : ℕ) (held : List ℕ) (left : Option (List ℕ)) (budget : ℕ) (held' : List ℕ) (left' : Option (List ℕ)) (budget' : ℕ)
    (read : IsReadThrough script (before held left) (budget + length held) false n) where
  -- what is pending of the script after some bytes moved
  moved : before held' left' ≡ before held left → before held' left' ≡ Some (drop (input_limit - (budget + length held)) script)
  moved stream = stream ∙ read.left

  -- the next line is too long
  long_is_bad : (rest : Option (List ℕ)) → before held' rest ≡ Some (drop (input_limit - (budget + length held)) script) → HasNoFeed held' 0 (length held') → LONGEST_LINE < length held' → IsBad (lines_of script) (n + 1)
  long_is_bad None pending no_feed long = absurd cc
  long_is_bad (Some rest) pending no_feed long =
      let same : drop (input_limit - (budget + length held)) script ≡ held' ++ rest = cc in
      let first = first_line held' rest (omega arith) no_feed in
      let there : drop n (lines_of script) ≡ first.0 ∷ first.1 = sym read.lines ∙ ap lines_of same ∙ first.2 in
      record { line = first.0; at = next_is (lines_of script) n first.0 first.1 there; outside = too_long first.0 (omega (arith, first.3)) }

  -- one byte too many came
  overflows : Overflows left held budget left' held' budget' → HasNoFeed held' 0 (length held' - 1) → EndsBy script left' (Err stop.InputFull) n
  overflows over no_feed = record {
    taken = take (input_limit - (budget + length held)) script ++ held';
    parted = taken_is script held' left' (input_limit - (budget + length held)) (moved over.stream);
    good = read.good;
    within = read.within;
    cause = if_any (HasEnded (status_of (Err stop.InputFull) n) (lines_of script) n (take (input_limit - (budget + length held)) script ++ held')) left'
        (λ rest is. overflow_is input_limit (budget + length held) n script held' read.low read.high over.spent no_feed (read.complete refl));
  }

  pub ends_halt : (halt : Stop) → Halts halt left held budget left' held' budget' → EndsBy script left' (Err halt) n
  ends_halt stop.ReadFault halts = ends_at script held' left' (budget + length held) n (Err stop.ReadFault) (moved halts.0.stream) read.low read.high (omega (arith, halts.0.spent)) read.good read.within
      (λ rest is le. (complete_taken script held' (input_limit - (budget + length held)) n (read.complete refl) halts.1, le))
  ends_halt stop.NoMemory halts = ends_at script held' left' (budget + length held) n (Err stop.NoMemory) (moved halts.stream) read.low read.high (omega (arith, halts.spent)) read.good read.within (λ rest is le. le)
  ends_halt stop.BadLine halts = ends_at script held' left' (budget + length held) n (Err stop.BadLine) (moved halts.0.stream) read.low read.high (omega (arith, halts.0.spent)) read.good read.within
      (λ rest is le. (refl, long_is_bad left' (moved halts.0.stream) halts.1 halts.2, le))
  ends_halt stop.InputFull halts = overflows halts.0 halts.1
  ends_halt stop.WriteFault halts = absurd halts
  ends_halt stop.OpsFull halts = absurd halts
  ends_halt (stop.ShardLost shard) halts = absurd halts
  ends_halt (stop.WrongShape peer found) halts = absurd halts

-- no line was found, with what the bytes cost and whether the input has ended as they are told
pub ends_halted : (script : List ℕ) (n : ℕ) (held : List ℕ) (left : Option (List ℕ)) (budget cost : ℕ) (ended : Bool) (held' : List ℕ) (left' : Option (List ℕ)) (budget' : ℕ)
    → IsReadThrough script (before held left) cost ended n → ended ≡ false → cost ≡ budget + length held → (halt : Stop) → Halts halt left held budget left' held' budget' → EndsBy script left' (Err halt) n
ends_halted script n held left budget cost ended held' left' budget' read still same halt halts = ends_halt script n held left budget held' left' budget' (rw (still, same) at read) halt halts

-- ---- a command that was cut short

-- it stops so
abbrev pub IsWithin : Result ⊤ Stop → Type 0
IsWithin (Ok x) = ⊥
IsWithin (Err (stop.WrongShape peer found)) = ⊥
IsWithin (Err (stop.ShardLost shard)) = ⊤
IsWithin (Err stop.BadLine) = ⊥
IsWithin (Err stop.ReadFault) = ⊥
IsWithin (Err stop.WriteFault) = ⊤
IsWithin (Err stop.NoMemory) = ⊤
IsWithin (Err stop.OpsFull) = ⊤
IsWithin (Err stop.InputFull) = ⊥

put_within : (halt : Stop) → IsPutStop halt → IsWithin (Err halt)
put_within (stop.WrongShape peer found) h = h
put_within (stop.ShardLost shard) h = absurd h
put_within stop.BadLine h = h
put_within stop.ReadFault h = h
put_within stop.WriteFault h = h
put_within stop.NoMemory h = h
put_within stop.OpsFull h = absurd h
put_within stop.InputFull h = h

-- a core never answers that a disk is of another store
pub no_shape : (o : Option CoreFault) (peer : ℕ) (found : Header) → Err (cluster.WrongShape peer found) ≡ outcome_by o → ⊥
no_shape None peer found e = cc
no_shape (Some core.OpsFull) peer found e = cc
no_shape (Some (core.ShardLost shard)) peer found e = cc
no_shape (Some core.NoMemory) peer found e = cc

did_within : (did : Result ⊤ ClusterFault) (y : ⊤) (ended : Option CoreFault) → (ran_out did ≡ false → did ≡ outcome_by ended) → is_ok (end_of did (Ok y)) ≡ false → IsWithin (end_of did (Ok y))
did_within (Ok x) y ended told cut = absurd (true≢false cut)
did_within (Err (cluster.WrongShape peer found)) y ended told cut = absurd (no_shape ended peer found (told refl))
did_within (Err (cluster.ShardLost shard)) y ended told cut = tt
did_within (Err cluster.OpsFull) y ended told cut = tt
did_within (Err cluster.NoMemory) y ended told cut = tt

pub end_within : (did : Result ⊤ ClusterFault) (put : Result ⊤ Stop) (ended : Option CoreFault) → (ran_out did ≡ false → did ≡ outcome_by ended) → IfErr put IsPutStop → is_ok (end_of did put) ≡ false → IsWithin (end_of did put)
end_within did (Ok x) ended told only cut = did_within did x ended told cut
end_within did (Err halt) ended told only cut = put_within halt only

-- behind a line that was begun
within_ended : (result : Result ⊤ Stop) (lines : List (List ℕ)) (line : ℕ) (taken rest : List ℕ) → IsWithin result → (line ≡ 0 → taken ≡ []) → length taken ≤ input_limit → HasEnded (status_of result line) lines line taken rest
within_ended (Ok x) lines line taken rest h none le = absurd h
within_ended (Err (stop.WrongShape peer found)) lines line taken rest h none le = absurd h
within_ended (Err (stop.ShardLost shard)) lines line taken rest h none le = (none, le)
within_ended (Err stop.BadLine) lines line taken rest h none le = absurd h
within_ended (Err stop.ReadFault) lines line taken rest h none le = absurd h
within_ended (Err stop.WriteFault) lines line taken rest h none le = (none, le)
within_ended (Err stop.NoMemory) lines line taken rest h none le = le
within_ended (Err stop.OpsFull) lines line taken rest h none le = (none, le)
within_ended (Err stop.InputFull) lines line taken rest h none le = absurd h

-- ---- a line was not done

-- what is served is no bad line
served_good : (c : Command) → is_served c ≡ true → is_unserved c ≡ false
served_good (command.Client o) h = refl
served_good command.Settle h = refl
served_good (command.Turn peer) h = refl
served_good (command.Nudge peer) h = refl
served_good (command.Deliver message) h = refl
served_good (command.Lose message) h = refl
served_good (command.Repeat message) h = refl
served_good (command.Fail peer) h = refl
served_good (command.Start peer) h = refl
served_good (command.Reclaim peer) h = absurd (false≢true h)

pub says_good : (said : Reading) (c : Command) → said ≡ says c → is_served c ≡ true → is_bad said ≡ false
says_good said c is served = ap is_bad is ∙ served_good c served

module _ (script : List ℕ) (line : List ℕ) (n : ℕ) (held : List ℕ) (left : Option (List ℕ)) (cost : ℕ) (ended : Bool)
    (next : Advanced script (before held left) cost ended n line) (few : length held ≤ cost) (good : (k : ℕ) → k ≤ n → IsBad (lines_of script) k → ⊥) where
  -- how the run ends behind some lines
  ends_behind : (k : ℕ) (result : Result ⊤ Stop) → k ≤ n + 1 → (n < k → is_bad (reading line) ≡ false)
      → ((rest : List ℕ) → length (take (input_limit - cost) script ++ held) ≤ input_limit → HasEnded (status_of result k) (lines_of script) k (take (input_limit - cost) script ++ held) rest) → EndsBy script left result k
  ends_behind k result le last cause = ends_at script held left cost k result next.left next.low next.high few good_ones (omega (arith, next.within)) (λ rest is short. cause rest short)
    where
      good_ones : (j : ℕ) → j ≤ k → IsBad (lines_of script) j → ⊥
      good_ones j low is = elim (cases_lt n j) [
        | inl lt ↦ good_more (lines_of script) n line next.at (last (omega arith)) good j (omega arith) is
        | inr le' ↦ good j le' is
      ]

  pub ends_line : (tells : Type 0) (name : List ℕ → Address) (part : Stretch) → part.old.line ≡ n → is_ok part.result ≡ false → DoesLine tells name (reading line) part → EndsBy script left part.result part.new.line
  ends_line tells name part here cut (Bad wrong same is) =
      ends_as script left part.result (Err stop.BadLine) part.new.line n is (ap (λ (p : Point). p.line) same ∙ here)
      (ends_behind n (Err stop.BadLine) (omega arith) (λ lt. absurd (omega (arith, lt))) (λ rest le. (refl, record { line = line; at = next.at; outside = wrong }, le)))
  ends_line tells name part here cut (Unread same is) =
      ends_as script left part.result (Err stop.NoMemory) part.new.line n is (ap (λ (p : Point). p.line) same ∙ here)
      (ends_behind n (Err stop.NoMemory) (omega arith) (λ lt. absurd (omega (arith, lt))) (λ rest le. le))
  ends_line tells name part here cut (Blank said same is) = absurd (true≢false (ap (λ (r : Result ⊤ Stop). is_ok r) (sym is) ∙ cut))
  ends_line tells name part here cut (Commanded asked said runs) =
      let stops : IsWithin part.result = subst (λ (r : Result ⊤ Stop). IsWithin r) (sym runs.ended) (end_within runs.did runs.put part.new.cluster.core.ended runs.runs.does.outcome runs.only (ap (λ (r : Result ⊤ Stop). is_ok r) (sym runs.ended) ∙ cut)) in
      let number : part.new.line ≡ n + 1 = runs.line ∙ ap (λ (k : ℕ). k + 1) here in
      ends_behind part.new.line part.result (omega (arith, number)) (λ lt. says_good (reading line) asked said runs.served)
      (λ rest le. within_ended part.result (lines_of script) part.new.line (take (input_limit - cost) script ++ held) rest stops (λ zero. absurd (omega (arith, number, zero))) le)

-- ---- opening was not told whole, or the core had ended

pub ends_opening : (script : List ℕ) (left : Option (List ℕ)) (did : Result ⊤ ClusterFault) (running : Running) (part : Printing) (result : Result ⊤ Stop) (line : ℕ) → (ran_out did ≡ false → did ≡ outcome_by running.core.ended) → left ≡ Some script → line ≡ 0
    → is_ok result ≡ false → IsOpeningPut did running part result → EndsBy script left result line
ends_opening script left did running part result line outcome told zero cut put =
    let stops : IsWithin result = subst (λ (r : Result ⊤ Stop). IsWithin r) (sym put.ended)
    (end_within did put.put running.core.ended outcome put.only (ap (λ (r : Result ⊤ Stop). is_ok r) (sym put.ended) ∙ cut)) in
    record {
      taken = [];
      parted = ap (before []) told;
      good = λ n low bad. none_bad (lines_of script) n bad.line (omega (arith, low, zero)) bad.at;
      within = omega (arith, zero);
      cause = if_any (HasEnded (status_of result line) (lines_of script) line []) left (λ rest is. within_ended result (lines_of script) line [] rest stops (λ same. refl) (omega arith));
    }

-- memory was wanting before the first line
pub ends_unread : (script : List ℕ) (left : Option (List ℕ)) (halt : Stop) (line : ℕ) → left ≡ Some script → line ≡ 0 → halt ≡ stop.NoMemory → EndsBy script left (Err halt) line
ends_unread script left halt line told zero is = record {
  taken = [];
  parted = ap (before []) told;
  good = λ n low bad. none_bad (lines_of script) n bad.line (omega (arith, low, zero)) bad.at;
  within = omega (arith, zero);
  cause = if_any (HasEnded (status_of (Err halt) line) (lines_of script) line []) left
      (λ rest there. within_ended (Err halt) (lines_of script) line [] rest (subst (λ s. IsWithin (Err s)) (sym is) tt) (λ same. refl) (omega arith));
}
