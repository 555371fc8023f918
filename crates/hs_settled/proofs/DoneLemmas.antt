-- How often the store tells that a run is done: each time more is swept by every shard than before.
use Rattle.std.proofs.Common.{◌≡◌, ◌∙◌, sym, ap, subst, ℕ, zero, suc, ◌+◌, ◌≤◌, Bool, true, false, cond, List, [], ◌∷◌, Some, refl, arith, tests, is_none, is_some, nat_le, slice_get, take, All}
use Rattle.std.proofs.lemmas.List.Elements.{All-from_recursion, recursion_from_All}
use Rattle.hs_settled.proofs.EndsCountLemmas.{AllAbove, above_less, many, one}
use Rattle.hs_settled.proofs.StepLemmas.{Fits, Steps, event_in, fits_head, fits_tail, is_delete, is_entered, is_swept, next_store}
use Rattle.hs_journal.specs.declared.entry.JournalEntry.{JournalEntry}
use Rattle.hs_journal.specs.declared.entry.Who.{Who}
use Rattle.hs_journal.specs.declared.entry.Who.TheVariants as who
use Rattle.hs_journal.specs.Notes.{down_in}
use Rattle.hs_journal.specs.Telling.{IsOfStore, Done, Down}
use Rattle.hs_model.specs.declared.deed.Deed.{Deed}
use Rattle.hs_model.specs.declared.reply.Reply.{Reply}
use Rattle.hs_model.specs.declared.reply.Reply.TheVariants as reply
use Rattle.hs_model.specs.Run.{run}
use Rattle.hs_model.specs.Store.{Store}
use Rattle.hs_promise.specs.Answers.{IsEntry, events_in}
use Rattle.hs_promise.specs.Deletes.{Deletes, EndsRun}
use Rattle.hs_promise.specs.Run.{Ran, Script}
use Rattle.hs_swept.proofs.ExactLemmas.{run_with}

abbrev done_by : Who → Reply → Bool
done_by (who.Line n) r = false
done_by (who.Shard g) r = false
done_by who.Store r = is_none (down_in r)

abbrev down_by : Who → Reply → Bool
down_by (who.Line n) r = false
down_by (who.Shard g) r = false
down_by who.Store r = is_some (down_in r)

-- the store tells of no peer, so that a run is done; or it does
abbrev pub is_done : JournalEntry → Bool
is_done e = done_by e.who e.reply

abbrev pub is_down : JournalEntry → Bool
is_down e = down_by e.who e.reply

-- ---- the rule

abbrev at_place : Script → Store → List JournalEntry → ℕ → Store
at_place S s entries place = run S.set.limits s (events_in S s (take place entries))

-- before a done of an epoch: at the front of entries, that more is swept than so much; elsewhere, that the entry before it has swept the epoch
abbrev pub HasCame : Script → Store → ℕ → List JournalEntry → ℕ → ℕ → Type 0
HasCame S s q entries zero epoch = AllAbove (suc q) s.swept
HasCame S s q entries (suc before) epoch = (AllAbove epoch (at_place S s entries before).swept → ⊥) × AllAbove epoch (at_place S s entries (suc before)).swept

abbrev pub EachCame : Script → Store → ℕ → List JournalEntry → Type 0
EachCame S s q entries = (place epoch : ℕ) (e : JournalEntry) → slice_get entries place ≡ Some e → e.reply ≡ reply.Done epoch → HasCame S s q entries place epoch

-- from what is promised of deletion
pub came_first : (S : Script) (entry : Store) (q : ℕ) (r : Ran) → Deletes S entry r → EachCame S entry q r.journal
came_first S entry q r deletes place epoch e at tells = go place at (deletes.only_done place epoch (record { entry = e; at = at; tells = tells }))
  where
    go : (p : ℕ) → slice_get r.journal p ≡ Some e → (before : ℕ) × (p ≡ before + 1) × EndsRun S entry r before epoch → HasCame S entry q r.journal p epoch
    go zero is found = absurd (let same = found.1 in omega (arith, same))
    go (suc before) is found =
        let same : found.0 ≡ before = let next = found.1 in omega (arith, next) in
        let next : found.0 + 1 ≡ suc before = omega (arith, same) in (
          λ all. found.2.before (subst (λ k. All (λ n. epoch ≤ n) (at_place S entry r.journal k).swept) (sym same) (All-from_recursion (λ n. epoch ≤ n) _ all)),
          recursion_from_All (λ n. epoch ≤ n) _ (subst (λ k. All (λ n. epoch ≤ n) (at_place S entry r.journal k).swept) next found.2.after),
        )

module _ (S : Script) (s : Store) (e : JournalEntry) (entries : List JournalEntry) where
  abbrev t : Store
  t = next_store S s e

  shifted : (k : ℕ) → at_place S s (e ∷ entries) (suc k) ≡ at_place S (next_store S s e) entries k
  shifted k = run_with S.set.limits s (event_in S s e) (events_in S (next_store S s e) (take k entries))

  -- more is swept behind what was not swept before
  above_next : (q epoch : ℕ) (xs ys : List ℕ) → AllAbove q xs → (AllAbove epoch xs → ⊥) → AllAbove epoch ys → AllAbove (suc q) ys
  above_next q epoch xs ys all none then = go (nat_le epoch q) refl
    where
      go : (b : Bool) → nat_le epoch q ≡ b → AllAbove (suc q) ys
      go true f = absurd (none (above_less epoch q xs (grind (arith, tests, f)) all))
      go false f = above_less (suc q) epoch ys (grind (arith, tests, f)) then

  came_on : (q : ℕ) → AllAbove q s.swept → EachCame S s q (e ∷ entries) → EachCame S (next_store S s e) q entries
  came_on q all came zero epoch x at tells =
      let before = came (suc zero) epoch x at tells in
      above_next q epoch s.swept (next_store S s e).swept all before.0 (subst (λ (u : Store). AllAbove epoch u.swept) (shifted zero) before.1)
  came_on q all came (suc place) epoch x at tells =
      let before = came (suc (suc place)) epoch x at tells in (
        λ more. before.0 (subst (λ (u : Store). AllAbove epoch u.swept) (sym (shifted place)) more),
        subst (λ (u : Store). AllAbove epoch u.swept) (shifted (suc place)) before.1,
      )

  -- no two stand behind one another
  came_past : (q : ℕ) → next_store S s e ≡ s → EachCame S s q (e ∷ entries) → EachCame S (next_store S s e) (suc q) entries
  came_past q same came zero epoch x at tells =
      let before = came (suc zero) epoch x at tells in
      absurd (before.0 (subst (λ (u : Store). AllAbove epoch u.swept) (shifted zero ∙ same) before.1))
  came_past q same came (suc place) epoch x at tells =
      let before = came (suc (suc place)) epoch x at tells in (
        λ more. before.0 (subst (λ (u : Store). AllAbove epoch u.swept) (sym (shifted place)) more),
        subst (λ (u : Store). AllAbove epoch u.swept) (shifted (suc place)) before.1,
      )

-- an entry that is a done: the store tells it, which leaves the plain store as it was, and is above the ground
record IsAtDone (S : Script) (s : Store) (q : ℕ) (e : JournalEntry) : Type 0 where
  same : next_store S s e ≡ s
  above : AllAbove (suc q) s.swept

at_done : (S : Script) (last : ℕ) (s : Store) (q : ℕ) (e : JournalEntry) → IsEntry S last e → ((epoch : ℕ) → e.reply ≡ reply.Done epoch → AllAbove (suc q) s.swept) → is_done e ≡ true → IsAtDone S s q e
at_done S last s q e is came done = by_parts e.who e.moment e.deed e.reply is came done
  where
    by_told : (m : ℕ) (d : Deed) (r : Reply) → IsOfStore S.set.shape last r → ((epoch : ℕ) → r ≡ reply.Done epoch → AllAbove (suc q) s.swept) → is_none (down_in r) ≡ true
        → IsAtDone S s q (record { who = who.Store; moment = m; deed = d; reply = r })
    by_told m d r (Done epoch told) after f = record { same = refl; above = after epoch told }
    by_told m d r (Down peer line told low late) after f =
        let other : is_none (down_in r) ≡ false = ap (λ (x : Reply). is_none (down_in x)) told in absurd (cc (other, f))

    by_parts : (w : Who) (m : ℕ) (d : Deed) (r : Reply) → IsEntry S last (record { who = w; moment = m; deed = d; reply = r }) → ((epoch : ℕ) → r ≡ reply.Done epoch → AllAbove (suc q) s.swept) → done_by w r ≡ true
        → IsAtDone S s q (record { who = w; moment = m; deed = d; reply = r })
    by_parts (who.Line n) m d r is after f = absurd (cc f)
    by_parts (who.Shard g) m d r is after f = absurd (cc f)
    by_parts who.Store m d r is after f = by_told m d r is.1 after f

pub done_swept : (S : Script) (last : ℕ) (entries : List JournalEntry) (s : Store) (q : ℕ) → Fits S last s entries → AllAbove q s.swept → EachCame S s q entries
    → AllAbove (q + many is_done entries) (run S.set.limits s (events_in S s entries)).swept
done_swept S last [] s q fits all came = let same : q + 0 ≡ q = omega arith in subst (λ k. AllAbove k s.swept) (sym same) all
done_swept S last (e ∷ entries) s q fits all came =
    subst (λ (u : Store). AllAbove (q + many is_done (e ∷ entries)) u.swept) (sym (run_with S.set.limits s (event_in S s e) (events_in S (next_store S s e) entries)))
    (go (λ k above each. done_swept S last entries (next_store S s e) k (fits_tail S last s e entries fits) above each) (is_done e) refl)
  where
    steps : Steps s (next_store S s e) (one (is_entered e)) (one (is_swept e)) (one (is_delete S e))
    steps = fits_head S last s e entries fits

    go : ((k : ℕ) → AllAbove k (next_store S s e).swept → EachCame S (next_store S s e) k entries → AllAbove (k + many is_done entries) (run S.set.limits (next_store S s e) (events_in S (next_store S s e) entries)).swept)
        → (b : Bool) → is_done e ≡ b → AllAbove (q + (cond b 1 0 + many is_done entries)) (run S.set.limits (next_store S s e) (events_in S (next_store S s e) entries)).swept
    go rest true is =
        let done : IsAtDone S s q e = at_done S last s q e fits.each.0 (λ epoch told. came zero epoch e refl told) is in
        let sum : suc q + many is_done entries ≡ q + (1 + many is_done entries) = omega arith in
        subst (λ k. AllAbove k (run S.set.limits (next_store S s e) (events_in S (next_store S s e) entries)).swept) sum
        (rest (suc q) (subst (λ (u : Store). AllAbove (suc q) u.swept) (sym done.same) done.above) (came_past S s e entries q done.same came))
    go rest false is =
        let sum : q + many is_done entries ≡ q + (0 + many is_done entries) = omega arith in
        subst (λ k. AllAbove k (run S.set.limits (next_store S s e) (events_in S (next_store S s e) entries)).swept) sum
        (rest q (steps.still q all) (came_on S s e entries q all came))
