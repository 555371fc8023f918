-- The addresses that the writes of some events bring: a table of them has that of each write that has a block.
use Rattle.std.proofs.Common.{◌≡◌, ◌==◌, Bool, true, false, cond, inl, List, [], ◌∷◌, ◌++◌, length, Some, None, refl}
use Rattle.std.proofs.lemmas.Bool.{eq-eqb, eqb-true}
use Rattle.std.specs.List.{AllByRecursion}
use Rattle.std.specs.Prelude.{if◌then◌else◌}
use Rattle.hs_any_events.proofs.CodedLemmas.{Code}
use Rattle.hs_any_events.proofs.CodedWalkLemmas.{IsTabled}
use Rattle.hs_any_events.specs.Events.{BringsAddress}
use Rattle.hs_core_words.specs.declared.event.Event.{Event}
use Rattle.hs_core_words.specs.declared.event.Event.TheVariants as event
use Rattle.hs_events.specs.Due.{Events}
use Rattle.hs_limits.specs.declared.address.Address.{Address}
use Rattle.hs_model.proofs.Members.{Member}
use Rattle.hs_model.specs.declared.op.Op.{Op}
use Rattle.hs_model.specs.declared.op.Op.TheVariants as op
use Rattle.hs_standing.specs.Held.{Has32Bytes}
use Rattle.hs_tokens.specs.Seats.{Seats}

-- what a write brings, where it is an address
abbrev pub brought : Op → List Address
brought (op.Write session payload handles (Some a)) = if length a.0 == 32 then a ∷ [] else []
brought other = []

abbrev pub brought_by : Event → List Address
brought_by (event.Line line o) = brought o
brought_by other = []

-- all that some events bring
abbrev pub table_of : Events → List Address
table_of [] = []
table_of (e ∷ es) = brought_by e.0 ++ table_of es

-- ---- each is an address

all_behind : (one more : List Address) → AllByRecursion Has32Bytes one → AllByRecursion Has32Bytes more → AllByRecursion Has32Bytes (one ++ more)
all_behind [] more all rest = rest
all_behind (a ∷ one) more all rest = (all.0, all_behind one more all.1 rest)

tested : (a : Address) (b : Bool) → (length a.0 == 32) ≡ b → AllByRecursion Has32Bytes (cond b (a ∷ []) [])
tested a true e = (eqb-true (length a.0) 32 e, tt)
tested a false e = tt

brought_whole : (o : Op) → AllByRecursion Has32Bytes (brought o)
brought_whole (op.Write session payload handles (Some a)) = tested a (length a.0 == 32) refl
brought_whole (op.Write session payload handles None) = tt
brought_whole other = tt

event_whole : (e : Event) → AllByRecursion Has32Bytes (brought_by e)
event_whole (event.Line line o) = brought_whole o
event_whole other = tt

pub table_whole : (es : Events) → AllByRecursion Has32Bytes (table_of es)
table_whole [] = tt
table_whole (e ∷ es) = all_behind (brought_by e.0) (table_of es) (event_whole e.0) (table_whole es)

-- ---- that of each write is there

is_brought : (a : Address) (b : Bool) → (length a.0 == 32) ≡ b → Has32Bytes a → Member a (cond b (a ∷ []) [])
is_brought a true e whole = inl refl
is_brought a false e whole = absurd (cc (e, eq-eqb (length a.0) 32 whole))

pub is_tabled : (code : Code) (seats : Seats) (o : Op) → ((a : Address) → Member a (brought o) → Member a code.table) → BringsAddress seats o → IsTabled code seats o
is_tabled code seats (op.Write session payload handles (Some a)) within given = λ has. within a (is_brought a (length a.0 == 32) refl (given has))
is_tabled code seats (op.Write session payload handles None) within given = λ has. given has
is_tabled code seats other within given = tt
