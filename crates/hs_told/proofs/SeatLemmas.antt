-- Sessions that are open stay open, but for the one that is closed.
use Rattle.std.proofs.Common.{◌≡◌, ℕ, Bool, true, false, cond, List, [], ◌∷◌, Option, Some, None, IsSome, refl, sym, ◌∙◌, Ordering, Less, Equal, Greater}
use Rattle.std.proofs.lemmas.Map.Text.{is_eq-slice_cmp}
use Rattle.std.proofs.lemmas.Slice.Eq.{bytes_eq-Decides}
use Rattle.std.specs.BTreeMap.{insert_entry, is_at}
use Rattle.std.specs.Map.{remove_entry, set_value}
use Rattle.std.specs.Option.{option_map}
use Rattle.std.specs.Ordering.{match_ordering}
use Rattle.std.specs.Prelude.{bytes_eq}
use Rattle.hs_limits.specs.declared.address.Held.{Held}
use Rattle.hs_model.specs.declared.op.Op.{Op}
use Rattle.hs_model.specs.declared.op.Op.TheVariants as op
use Rattle.hs_model.specs.declared.reply.Reply.{Reply}
use Rattle.hs_ops.specs.Answers.{is_done, seated, seats_after}
use Rattle.hs_tokens.specs.Seats.{Seat, Seats, name_cmp, new_seat, put_seat, seat_of, with_helds, without_handle}

-- ---- names

name_at : (q x : List ℕ) → is_at (name_cmp q) x ≡ bytes_eq q x
name_at q x = is_eq-slice_cmp q x

same_name : (q x : List ℕ) → is_at (name_cmp q) x ≡ true → q ≡ x
same_name q x e = (bytes_eq-Decides q x).0 (sym (name_at q x) ∙ e)

pub own_name : (q : List ℕ) → bytes_eq q q ≡ true
own_name q = (bytes_eq-Decides q q).1 refl

pub is_name : (q x : List ℕ) → bytes_eq q x ≡ true → q ≡ x
is_name q x e = (bytes_eq-Decides q x).0 e

-- ---- sessions by name

set_stays : (seats : Seats) (name q : List ℕ) (seat : Seat) → IsSome (seat_of q seats) → IsSome (seat_of q (set_value (is_at (name_cmp name)) seats seat))
set_stays [] name q seat h = h
set_stays (x ∷ seats) name q seat h = go (is_at (name_cmp q) x.0) (is_at (name_cmp name) x.0) refl h (set_stays seats name q seat)
  where
    go : (b c : Bool) → is_at (name_cmp q) x.0 ≡ b → IsSome (cond b (Some x.1) (seat_of q seats)) → (IsSome (seat_of q seats) → IsSome (seat_of q (set_value (is_at (name_cmp name)) seats seat)))
        → IsSome (seat_of q (cond c ((x.0, seat) ∷ seats) (x ∷ set_value (is_at (name_cmp name)) seats seat)))
    go true true f k ih = rw f refl
    go true false f k ih = rw f refl
    go false true f k ih = rw f k
    go false false f k ih = rw f (ih k)

insert_stays : (seats : Seats) (name q : List ℕ) (seat : Seat) → IsSome (seat_of q seats) → IsSome (seat_of q (insert_entry name_cmp seats name seat))
insert_stays [] name q seat h = absurd (cc h)
insert_stays (x ∷ seats) name q seat h = go (name_cmp name x.0) (is_at (name_cmp q) x.0) refl h (insert_stays seats name q seat)
  where
    before : (b : Bool) → IsSome (cond b (Some seat) (seat_of q (x ∷ seats)))
    before true = refl
    before false = h

    go : (r : Ordering) (b : Bool) → is_at (name_cmp q) x.0 ≡ b → IsSome (cond b (Some x.1) (seat_of q seats)) → (IsSome (seat_of q seats) → IsSome (seat_of q (insert_entry name_cmp seats name seat)))
        → IsSome (seat_of q (match_ordering r ((name, seat) ∷ x ∷ seats) ((x.0, seat) ∷ seats) (x ∷ insert_entry name_cmp seats name seat)))
    go Less b f k ih = before (is_at (name_cmp q) name)
    go Equal true f k ih = rw f refl
    go Equal false f k ih = rw f k
    go Greater true f k ih = rw f refl
    go Greater false f k ih = rw f (ih k)

remove_stays : (seats : Seats) (name q : List ℕ) → (name ≡ q → ⊥) → IsSome (seat_of q seats) → IsSome (seat_of q (remove_entry (is_at (name_cmp name)) seats))
remove_stays [] name q d h = h
remove_stays (x ∷ seats) name q d h = go (is_at (name_cmp q) x.0) (is_at (name_cmp name) x.0) refl refl h (remove_stays seats name q d)
  where
    go : (b c : Bool) → is_at (name_cmp q) x.0 ≡ b → is_at (name_cmp name) x.0 ≡ c → IsSome (cond b (Some x.1) (seat_of q seats)) → (IsSome (seat_of q seats) → IsSome (seat_of q (remove_entry (is_at (name_cmp name)) seats)))
        → IsSome (seat_of q (cond c seats (x ∷ remove_entry (is_at (name_cmp name)) seats)))
    go true true f g k ih = absurd (d (same_name name x.0 g ∙ sym (same_name q x.0 f)))
    go true false f g k ih = rw f refl
    go false true f g k ih = k
    go false false f g k ih = rw f (ih k)

put_stays : (name q : List ℕ) (seat : Option Seat) (seats : Seats) → IsSome (seat_of q seats) → IsSome (seat_of q (put_seat name seat seats))
put_stays name q None seats h = h
put_stays name q (Some seat) seats h = set_stays seats name q seat h

-- ---- after an answer

-- an operation closes a session
abbrev pub Closes : Op → List ℕ → Type 0
Closes (op.Close name) q = name ≡ q
Closes other q = ⊥

seated_stays : (helds : List Held) (o : Op) (seats : Seats) (q : List ℕ) → (Closes o q → ⊥) → IsSome (seat_of q seats) → IsSome (seat_of q (seated helds o seats))
seated_stays helds (op.Open name) seats q d h = insert_stays seats name q new_seat h
seated_stays helds (op.Close name) seats q d h = remove_stays seats name q d h
seated_stays helds (op.Write name payload handles address) seats q d h = put_stays name q (option_map (with_helds helds) (seat_of name seats)) seats h
seated_stays helds (op.Read name handle) seats q d h = put_stays name q (option_map (with_helds helds) (seat_of name seats)) seats h
seated_stays helds (op.Look name key) seats q d h = put_stays name q (option_map (with_helds helds) (seat_of name seats)) seats h
seated_stays helds (op.Root name key handle) seats q d h = h
seated_stays helds (op.Drop key) seats q d h = h
seated_stays helds (op.Forget name handle) seats q d h = put_stays name q (option_map (without_handle handle) (seat_of name seats)) seats h
seated_stays helds (op.Name name handle) seats q d h = h
seated_stays helds op.Delete seats q d h = h
seated_stays helds op.Stat seats q d h = h

pub seats_stay : (helds : List Held) (o : Op) (told : Reply) (seats : Seats) (q : List ℕ) → (Closes o q → ⊥) → IsSome (seat_of q seats) → IsSome (seat_of q (seats_after helds o told seats))
unfolding seats_after
seats_stay helds o told seats q d h = go (is_done told)
  where
    go : (b : Bool) → IsSome (seat_of q (cond b (seated helds o seats) seats))
    go true = seated_stays helds o seats q d h
    go false = h
