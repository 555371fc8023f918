-- The sessions after an answer.
use Rattle.std.proofs.Common.{◌≡◌, ◌∙◌, sym, ap, ℕ, Bool, true, false, List, [], ◌∷◌, Option, Some, None, refl, if◌then◌else◌}
use Rattle.std.proofs.lemmas.Map.Steps.{set_value_same}
use Rattle.std.specs.BTreeMap.{is_at}
use Rattle.std.specs.Map.{set_value}
use Rattle.hs_awaiting.proofs.EntryLemmas.{find_set, set_twice}
use Rattle.hs_core_state.specs.Going.{hold_each, seats_by}
use Rattle.hs_limits.specs.declared.address.Held.{Held}
use Rattle.hs_model.specs.declared.deed.Deed.TheVariants as deed
use Rattle.hs_model.specs.declared.op.Op.{Op}
use Rattle.hs_model.specs.declared.op.Op.TheVariants as op
use Rattle.hs_model.specs.declared.reply.Reply.{Reply}
use Rattle.hs_model.specs.Judge.{asked_of, given_address, written_deed}
use Rattle.hs_ops.specs.Answers.{deed_of, done_deed, handle_in, is_done, is_dup, seated, seats_after}
use Rattle.hs_ops.specs.Speaking.{asked_pointers}
use Rattle.hs_tokens.specs.Seats.{Seat, Seats, hold, name_cmp, seat_of, with_held, with_helds}

-- one after another is all at once
pub hold_each_is : (name : List ℕ) (helds : List Held) (seats : Seats) → hold_each name helds seats ≡ hold name helds seats
hold_each_is name [] seats = go (seat_of name seats) refl
  where
    go : (o : Option Seat) → seat_of name seats ≡ o → seats ≡ hold name [] seats
    go None e = rw e refl
    go (Some seat) e = rw e (sym (set_value_same (is_at (name_cmp name)) seats seat e))
hold_each_is name (held ∷ rest) seats = go (seat_of name seats) refl (hold_each_is name rest)
  where
    go : (o : Option Seat) → seat_of name seats ≡ o → ((s : Seats) → hold_each name rest s ≡ hold name rest s)
        → hold_each name rest (hold name (held ∷ []) seats) ≡ hold name (held ∷ rest) seats
    go None e ih =
        let one : hold name (held ∷ []) seats ≡ seats = rw e refl in
        let some : hold name rest seats ≡ seats = rw e refl in
        let all : hold name (held ∷ rest) seats ≡ seats = rw e refl in
        ap (hold_each name rest) one ∙ ih seats ∙ some ∙ sym all
    go (Some seat) e ih =
        let test = is_at (name_cmp name) in
        let first : Seats = set_value test seats (with_held held seat) in
        let last : Seat = with_helds rest (with_held held seat) in
        let one : hold name (held ∷ []) seats ≡ first = rw e refl in
        let found : seat_of name first ≡ Some (with_held held seat) = find_set test seats seat (with_held held seat) e in
        let some : hold name rest first ≡ set_value test first last = rw found refl in
        let all : hold name (held ∷ rest) seats ≡ set_value test seats last = rw e refl in
        ap (hold_each name rest) one ∙ ih first ∙ some ∙ set_twice test seats (with_held held seat) last ∙ sym all

-- the deed tells what the operation and its reply do
done_seats : (helds : List Held) (o : Op) (r : Reply) (seats : Seats) → seats_by (done_deed seats o r) helds seats ≡ seated helds o seats
done_seats helds (op.Open name) r seats = refl
done_seats helds (op.Close name) r seats = refl
done_seats helds (op.Write name payload handles address) r seats = go (is_dup r)
  where
    go : (dup : Bool) → seats_by (written_deed dup name (given_address address) (asked_pointers seats name handles) (handle_in r)) helds seats ≡ hold name helds seats
    go true = refl
    go false = refl
done_seats helds (op.Read name handle) r seats = refl
done_seats helds (op.Look name key) r seats = refl
done_seats helds (op.Root name key handle) r seats = refl
done_seats helds (op.Drop key) r seats = refl
done_seats helds (op.Forget name handle) r seats = refl
done_seats helds (op.Name name handle) r seats = refl
done_seats helds op.Delete r seats = refl
done_seats helds op.Stat r seats = refl

pub seats_told : (helds : List Held) (o : Op) (r : Reply) (seats : Seats) → seats_by (deed_of seats o r) helds seats ≡ seats_after helds o r seats
unfolding deed_of seats_after
seats_told helds o r seats = go (is_done r)
  where
    go : (done : Bool) → seats_by (if done then done_deed seats o r else deed.Refused (asked_of o)) helds seats ≡ (if done then seated helds o seats else seats)
    go true = done_seats helds o r seats
    go false = refl
