-- What is judged where an operation is refused, and where it is not.
use Rattle.std.proofs.Common.{◌≡◌, ℕ, List, [], ◌∷◌, Option, Some, None, map}
use Rattle.hs_limits.specs.declared.address.Address.{Address}
use Rattle.hs_limits.specs.declared.limits.Limits.{Limits}
use Rattle.hs_model.specs.declared.op.Op.{Op}
use Rattle.hs_model.specs.declared.op.Op.TheVariants as op
use Rattle.hs_model.specs.declared.reply.Reply.{Reply}
use Rattle.hs_model.specs.Judge.{judge, refused, refusals, granted, opened, closed, wrote, read, looked, rooted, dropped, forgot, named, counted, deleted, given_address, address_of, held_or}
use Rattle.hs_model.specs.Refusals.{first, no_session, no_handle, stale, handles_full, no_key, key_taken, roots_full}
use Rattle.hs_model.specs.Store.{Store, root_epoch}

pub judge_refused : (limits : Limits) (s : Store) (o : Op) (r : Reply) → first (refusals limits s o) ≡ Some r → judge limits s o ≡ refused o s r
unfolding judge
judge_refused limits s o r e = rw e

pub judge_granted : (limits : Limits) (s : Store) (o : Op) → first (refusals limits s o) ≡ None → judge limits s o ≡ granted s o
unfolding judge
judge_granted limits s o e = rw e

pub judge_opened : (limits : Limits) (s : Store) (name : List ℕ) → first (refusals limits s (op.Open name)) ≡ None → judge limits s (op.Open name) ≡ opened s name
unfolding judge granted
judge_opened limits s name e = rw e

pub judge_wrote : (limits : Limits) (s : Store) (name payload handles : List ℕ) (address : Option Address) (a : Address) (pointers : List Address) → first (refusals limits s (op.Write name payload handles address)) ≡ None → a ≡ given_address address → pointers ≡ map (λ handle. address_of s name handle) handles → judge limits s (op.Write name payload handles address) ≡ wrote s name a (record { pointers = pointers; bytes = payload })
unfolding judge granted
judge_wrote limits s name payload handles address a pointers e f g = rw (e, f, g)

pub judge_read : (limits : Limits) (s : Store) (name : List ℕ) (handle : ℕ) → first (refusals limits s (op.Read name handle)) ≡ None → judge limits s (op.Read name handle) ≡ read s name (held_or s name handle)
unfolding judge granted
judge_read limits s name handle e = rw e

pub close_refused : (limits : Limits) (s : Store) (name : List ℕ) (r : Reply) → first (no_session s name ∷ []) ≡ Some r → judge limits s (op.Close name) ≡ refused (op.Close name) s r
unfolding judge refusals
close_refused limits s name r e = rw e

pub judge_closed : (limits : Limits) (s : Store) (name : List ℕ) → first (no_session s name ∷ []) ≡ None → judge limits s (op.Close name) ≡ closed s name
unfolding judge refusals granted
judge_closed limits s name e = rw e

pub look_refused : (limits : Limits) (s : Store) (name key : List ℕ) (r : Reply) → first (no_session s name ∷ handles_full limits s name 1 ∷ no_key s key ∷ []) ≡ Some r → judge limits s (op.Look name key) ≡ refused (op.Look name key) s r
unfolding judge refusals
look_refused limits s name key r e = rw e

pub judge_looked : (limits : Limits) (s : Store) (name key : List ℕ) → first (no_session s name ∷ handles_full limits s name 1 ∷ no_key s key ∷ []) ≡ None → judge limits s (op.Look name key) ≡ looked s name key
unfolding judge refusals granted
judge_looked limits s name key e = rw e

abbrev pub root_refusals : Limits → Store → List ℕ → List ℕ → ℕ → List (Option Reply)
root_refusals limits s name key handle = no_session s name ∷ no_handle s name (handle ∷ []) ∷ stale s name (root_epoch s key) (handle ∷ []) ∷ key_taken s key (address_of s name handle) ∷ roots_full limits s key ∷ []

pub root_refused : (limits : Limits) (s : Store) (name key : List ℕ) (handle : ℕ) (r : Reply) → first (root_refusals limits s name key handle) ≡ Some r → judge limits s (op.Root name key handle) ≡ refused (op.Root name key handle) s r
unfolding judge refusals
root_refused limits s name key handle r e = rw e

pub judge_rooted : (limits : Limits) (s : Store) (name key : List ℕ) (handle : ℕ) (a : Address) → first (root_refusals limits s name key handle) ≡ None → a ≡ address_of s name handle → judge limits s (op.Root name key handle) ≡ rooted s key a
unfolding judge refusals granted
judge_rooted limits s name key handle a e f = rw (e, f)

pub drop_refused : (limits : Limits) (s : Store) (key : List ℕ) (r : Reply) → no_key s key ≡ Some r → judge limits s (op.Drop key) ≡ refused (op.Drop key) s r
unfolding judge refusals
drop_refused limits s key r e = rw e

pub judge_dropped : (limits : Limits) (s : Store) (key : List ℕ) → no_key s key ≡ None → judge limits s (op.Drop key) ≡ dropped s key
unfolding judge refusals granted
judge_dropped limits s key e = rw e

pub forget_refused : (limits : Limits) (s : Store) (name : List ℕ) (handle : ℕ) (r : Reply) → first (no_session s name ∷ no_handle s name (handle ∷ []) ∷ []) ≡ Some r → judge limits s (op.Forget name handle) ≡ refused (op.Forget name handle) s r
unfolding judge refusals
forget_refused limits s name handle r e = rw e

pub judge_forgot : (limits : Limits) (s : Store) (name : List ℕ) (handle : ℕ) → first (no_session s name ∷ no_handle s name (handle ∷ []) ∷ []) ≡ None → judge limits s (op.Forget name handle) ≡ forgot s name handle
unfolding judge refusals granted
judge_forgot limits s name handle e = rw e

pub name_refused : (limits : Limits) (s : Store) (name : List ℕ) (handle : ℕ) (r : Reply) → first (no_session s name ∷ no_handle s name (handle ∷ []) ∷ []) ≡ Some r → judge limits s (op.Name name handle) ≡ refused (op.Name name handle) s r
unfolding judge refusals
name_refused limits s name handle r e = rw e

pub judge_named : (limits : Limits) (s : Store) (name : List ℕ) (handle : ℕ) (a : Address) → first (no_session s name ∷ no_handle s name (handle ∷ []) ∷ []) ≡ None → a ≡ address_of s name handle → judge limits s (op.Name name handle) ≡ named s a
unfolding judge refusals granted
judge_named limits s name handle a e f = rw (e, f)

pub judge_deleted : (limits : Limits) (s : Store) → first (refusals limits s op.Delete) ≡ None → judge limits s op.Delete ≡ deleted s
unfolding judge granted
judge_deleted limits s e = rw e

pub judge_counted : (limits : Limits) (s : Store) → judge limits s op.Stat ≡ counted s
unfolding judge granted refusals
judge_counted limits s = λ i. counted s
