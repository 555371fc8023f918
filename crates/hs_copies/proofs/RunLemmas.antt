-- What a stop leaves is chosen rightly.
use Rattle.std.proofs.Common.{◌≡◌, ℕ, zero, suc, ◌≤◌, ◌<◌, Bool, true, false, List, [], ◌∷◌, ◌++◌, inl, inr, refl, arith, length, Option, Some, None, ap}
use Rattle.std.specs.Prelude.{slice_get}
use Rattle.hs_copies.specs.Lists.{Item, IsFront, IsAtMost}
use Rattle.hs_copies.specs.Machine.{TakesEffect, item, told_copy}
use Rattle.hs_copies.specs.Invariant.{reach, AreFaithful}
use Rattle.hs_copies.specs.Lines.{IsLineEntry, AreLinesOpen, LinedCopies, LineEvent, Step, Begin, Answer, AnswerBy, CanComeToLines, after_line_event}
use Rattle.hs_copies.specs.Stamps.{rank_told, view_told, AreStampsTold}
use Rattle.hs_copies.specs.Images.{AreImages}
use Rattle.hs_copies.specs.Opened.{stamped_alike}
use Rattle.hs_copies.specs.Opened.{copy_with, opened_copies}
use Rattle.hs_copies.specs.Runs.{EntryReading, TellsLineView, CanComeAllToLines, after_line_events, IsSinceOpening, IsChosen}
use Rattle.hs_copies.proofs.ListLemmas.{front_refl, front_trans, front_both, append_nil}
use Rattle.hs_copies.proofs.PeerLemmas.{put_cases, reach_none}
use Rattle.hs_copies.proofs.OpenedLemmas.{opened_right, took_good, settled_right}
use Rattle.hs_copies.proofs.LineLemmas.{does_owned, get_prefix, get_end}
use Rattle.hs_copies.proofs.StampLemmas.{tells_after, told_lineage}
use Rattle.hs_copies.proofs.OpeningLemmas.{opened_tells, alike_rises, alike_below}
use Rattle.hs_copies.proofs.ImageLemmas.{keeps_good}

pub record WorldRight {X : Type 0} (e : EntryReading X) (start : List (Item X)) (v : ℕ) (w : LinedCopies X) : Type 0 where
  pub right : AreFaithful w.copies
  pub owned : AreLinesOpen e.line w.waits w.copies
  pub tells : AreStampsTold e.tells start v w.copies

module _ {X : Type 0} (e : EntryReading X) (start : List (Item X)) (v : ℕ) where
  does_tells : (w : LinedCopies X) (d : LineEvent X) → WorldRight e start v w → CanComeToLines e.line w d → TellsLineView e w d → AreStampsTold e.tells start v (after_line_event d w).copies
  does_tells w (Step d) r m t = tells_after e.tells start v w.copies r.right r.tells d m.0 t
  does_tells w (Begin k) r m t = r.tells
  does_tells w (Answer k) r m t = r.tells
  does_tells w (AnswerBy x k) r m t = tells_after e.tells start v w.copies r.right r.tells (TakesEffect x) m.0 tt

  does_right : (w : LinedCopies X) (d : LineEvent X) → WorldRight e start v w → CanComeToLines e.line w d → TellsLineView e w d → WorldRight e start v (after_line_event d w)
  does_right w d r m t =
      let k = does_owned e.line w d r.right r.owned m in
      record { right = k.0; owned = k.1; tells = does_tells w d r m t }

  all_right : (ds : List (LineEvent X)) (w : LinedCopies X) → WorldRight e start v w → CanComeAllToLines e w ds → WorldRight e start v (after_line_events ds w)
  all_right [] w r m = r
  all_right (d ∷ ds) w r m = all_right ds (after_line_event d w) (does_right w d r m.0 m.1) m.2

  pub chosen : (w : LinedCopies X) → WorldRight e start v w → (p y : ℕ) (images : ℕ → List (Item X)) → AreImages w.copies p images → ((q : ℕ) → IsAtMost (rank_told e.tells (images q)) (rank_told e.tells (images y))) → IsChosen e w (images y)
  chosen w r p y images g h =
      record {
        has = has;
        waits = λ n k a. r.owned.waiting y n k (up n k a);
        once = λ m n k a b. r.owned.once y m n k (up m k a) (up n k b);
        settled = λ s. settled_right w.copies r.right s y (images y) here has;
      }
    where
      c : AreFaithful w.copies
      c = r.right

      here : IsFront (images y) (reach (w.copies.peers y))
      here = elim (g.others y) [ inl k ↦ k.front | inr k ↦ rw k tt ]

      low : (w.copies.peers p).sealed ≤ length (images p)
      low = g.of_good.sealed (keeps_good (w.copies.peers p).stage g.is_good)

      front : IsFront (images p) (w.copies.peers p).list
      front = rw (← reach_none (w.copies.peers p) (r.right.good p g.is_good).nothing) g.of_good.front

      much : length w.copies.took ≤ length (images p)
      much = omega (arith, low, (r.right.good p g.is_good).told, (r.right.good p g.is_good).front)

      has : IsFront w.copies.took (images y)
      has =
          front_trans w.copies.took (images p) (images y)
          (front_both w.copies.took (images p) (w.copies.peers p).list (took_good w.copies r.right p g.is_good) front much)
          (told_lineage e.tells start v w.copies r.right r.tells p y (images p) (images y) g.is_good front much here (h p))

      up : (n k : ℕ) → IsLineEntry e.line w.copies.took (images y) n k → IsLineEntry e.line w.copies.took (reach (w.copies.peers y)) n k
      up n k a =
          record { entry = a.entry; has = front_trans w.copies.took (images y) (reach (w.copies.peers y)) a.has here; above = a.above; here = get_prefix (images y) (reach (w.copies.peers y)) n a.entry here a.here; of_line = a.of_line }

-- an opened shard has no entry of a line above what took effect
module _ {X : Type 0} (line : X → Option ℕ) (view : ℕ) (log : List (Item X)) (good : ℕ → Bool) (lead : ℕ) (x : X) (leads : good lead ≡ true) (none : line x ≡ None) where
  not_above : (xs : List (Item X)) (n k : ℕ) → length xs ≤ length log → IsLineEntry line log xs n k → ⊥
  not_above xs n k l a = omega (arith, l, a.above, get_within xs n a.entry a.here)
    where
      get_within : (xs : List (Item X)) (n : ℕ) (y : Item X) → slice_get xs n ≡ Some y → n < length xs
      get_within [] n y e = absurd (cc e)
      get_within (z ∷ xs) zero y e = omega arith
      get_within (z ∷ xs) (suc n) y e = omega (arith, get_within xs n y e)

  short : (b : Bool) → length (reach (copy_with log b)) ≤ length log
  short true = omega (arith, ap (λ k. length k) (append_nil log))
  short false = omega arith

  lead_list : (b : Bool) → b ≡ true → reach (record (told_copy (copy_with log b)) { list = (copy_with log b).list ++ item (suc view) x ∷ [] }) ≡ log ++ item (suc view) x ∷ []
  lead_list true e = append_nil (log ++ item (suc view) x ∷ [])
  lead_list false e = absurd (cc e)

  none_pending : (q n k : ℕ) → IsLineEntry line log (reach ((opened_copies view log good lead x).peers q)) n k → ⊥
  none_pending q n k =
      put_cases (λ j. IsLineEntry line log (reach j) n k → ⊥) lead (record (told_copy (copy_with log (good lead))) { list = (copy_with log (good lead)).list ++ item (suc view) x ∷ [] }) (λ q. told_copy (copy_with log (good q))) q
      (λ i a. get_lead (rw (lead_list (good lead) leads) at a))
      (λ i a. not_above (reach (copy_with log (good q))) n k (short (good q)) a)
    where
      get_lead : IsLineEntry line log (log ++ item (suc view) x ∷ []) n k → ⊥
      get_lead a = elim (get_end log (item (suc view) x) n a.entry a.here) [
        | inl e ↦ not_above log n k (omega arith) (record { entry = a.entry; has = front_refl log; above = a.above; here = e; of_line = a.of_line })
        | inr e ↦ (let w : line x ≡ Some k = rw (ap (λ (j : Item X). line j.what) e.1) a.of_line in cc (w, none))
      ]

  pub opened_owned : (waits : ℕ → Bool) → AreLinesOpen line waits (opened_copies view log good lead x)
  opened_owned waits =
      record { waiting = λ y n k a. absurd (none_pending y n k a); once = λ y m n k a b. absurd (none_pending y m k a) }

pub stop_since : {X : Type 0} (e : EntryReading X) (log : List (Item X)) (w : LinedCopies X) → IsSinceOpening e log w → (p y : ℕ) (images : ℕ → List (Item X)) → AreImages w.copies p images → ((q : ℕ) → IsAtMost (rank_told e.tells (images q)) (rank_told e.tells (images y))) → IsChosen e w (images y)
stop_since {X = X} e log w s p y images g h =
    chosen e (stamped_alike (view_told e.tells 0 log) log) (view_told e.tells 0 log) w (rw (← s.here) (all_right e (stamped_alike (view_told e.tells 0 log) log) (view_told e.tells 0 log) s.deeds begin begun s.may)) p y images g h
  where
    v : ℕ
    v = view_told e.tells 0 log

    begin : LinedCopies X
    begin = record { copies = opened_copies (view_told e.tells 0 log) (stamped_alike (view_told e.tells 0 log) log) s.good s.lead s.what; waits = λ k. false }

    begun : WorldRight e (stamped_alike (view_told e.tells 0 log) log) (view_told e.tells 0 log) begin
    begun =
        record {
          right = opened_right (view_told e.tells 0 log) (stamped_alike (view_told e.tells 0 log) log) s.good s.lead s.what (alike_rises (view_told e.tells 0 log) 0 log (omega arith)) (alike_below (view_told e.tells 0 log) log) s.leads;
          owned = opened_owned e.line (view_told e.tells 0 log) (stamped_alike (view_told e.tells 0 log) log) s.good s.lead s.what s.leads s.no_line (λ k. false);
          tells = opened_tells e.tells log s.good s.lead s.what (view_told e.tells 0 log) s.ascends refl s.leads s.tells;
        }
