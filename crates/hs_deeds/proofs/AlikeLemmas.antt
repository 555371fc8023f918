-- Whether a refused write has no data bytes or one makes no difference to a journal of deeds.
use Rattle.std.proofs.Common.{◌≡◌, ◌∙◌, sym, ap, subst, ℕ, zero, suc, ◌==◌, ◌||◌, Bool, false, List, [], ◌∷◌, ◌++◌, map, Some, None, refl}
use Rattle.std.specs.Option.{option_map_or}
use Rattle.hs_deeds.proofs.OnLemmas.{map_join}
use Rattle.hs_deeds.specs.Told.{store_after}
use Rattle.hs_limits.specs.declared.limits.Limits.{Limits}
use Rattle.hs_model.specs.declared.deed.Deed.{Deed}
use Rattle.hs_model.specs.declared.deed.Deed.TheVariants as deed
use Rattle.hs_model.specs.declared.op.Asked.{Asked}
use Rattle.hs_model.specs.declared.op.Asked.TheVariants as asked
use Rattle.hs_model.specs.declared.reply.Reply.{Reply}
use Rattle.hs_model.specs.declared.reply.Reply.TheVariants as reply
use Rattle.hs_model.specs.Deeds.{AreDeeds, Busy, DeedEntry, IsDeedOf, IsNote, MayBeRefused, Refused, deed_store, is_answered, is_done_of, is_sweep_of, is_there, last_reply, refusals_told}
use Rattle.hs_model.specs.Refusals.{first}
use Rattle.hs_model.specs.Store.{Store}

-- one byte at least
abbrev pub one_at_least : ℕ → ℕ
one_at_least zero = 1
one_at_least (suc n) = suc n

abbrev pub some_bytes : Asked → Asked
some_bytes (asked.Write name bytes handles (Some a)) = asked.Write name (one_at_least bytes) handles (Some a)
some_bytes other = other

abbrev pub longer : Deed → Deed
longer (deed.Refused o) = deed.Refused (some_bytes o)
longer other = other

abbrev pub longer_entry : DeedEntry → DeedEntry
longer_entry e = record e { deed = longer e.deed }

-- ---- what is looked up before

pub answered_same : (es : List DeedEntry) (line : ℕ) → is_answered (map longer_entry es) line ≡ is_answered es line
answered_same [] line = refl
answered_same (e ∷ es) line = ap (λ (b : Bool). option_map_or (λ (n : ℕ). n == line) e.line false || b) (answered_same es line)

last_same : (es : List DeedEntry) → last_reply (map longer_entry es) ≡ last_reply es
last_same [] = refl
last_same (e ∷ []) = refl
last_same (e ∷ f ∷ es) = last_same (f ∷ es)

-- ---- refusals

told_same : (limits : Limits) (s : Store) (o : Asked) (collides : Bool) → refusals_told limits s (some_bytes o) collides ≡ refusals_told limits s o collides
unfolding refusals_told
told_same limits s (asked.Write name zero handles (Some a)) collides = refl
told_same limits s (asked.Write name (suc n) handles (Some a)) collides = refl
told_same limits s (asked.Write name n handles None) collides = refl
told_same limits s (asked.Open name) collides = refl
told_same limits s (asked.Close name) collides = refl
told_same limits s (asked.Read name handle) collides = refl
told_same limits s (asked.Look name key) collides = refl
told_same limits s (asked.Root name key handle) collides = refl
told_same limits s (asked.Drop key) collides = refl
told_same limits s (asked.Forget name handle) collides = refl
told_same limits s (asked.Name name handle) collides = refl
told_same limits s asked.Delete collides = refl
told_same limits s asked.Stat collides = refl

there_same : (s : Store) (o : Asked) → is_there s (some_bytes o) ≡ is_there s o
there_same s (asked.Write name n handles (Some a)) = refl
there_same s (asked.Write name n handles None) = refl
there_same s (asked.Open name) = refl
there_same s (asked.Close name) = refl
there_same s (asked.Read name handle) = refl
there_same s (asked.Look name key) = refl
there_same s (asked.Root name key handle) = refl
there_same s (asked.Drop key) = refl
there_same s (asked.Forget name handle) = refl
there_same s (asked.Name name handle) = refl
there_same s asked.Delete = refl
there_same s asked.Stat = refl

refused_back : (limits : Limits) (s : Store) (before : List DeedEntry) (o : Asked) (r : Reply) → MayBeRefused limits s (map longer_entry before) (some_bytes o) r → MayBeRefused limits s before o r
refused_back limits s before o r (Busy line told unanswered) = Busy line told (sym (answered_same before line) ∙ unanswered)
refused_back limits s before o r (Refused its) = Refused (record {
  collides = its.collides;
  there = λ h. sym (there_same s o) ∙ its.there h;
  first_of = ap (λ rs. first rs) (sym (told_same limits s o its.collides)) ∙ its.first_of;
})

-- ---- deeds

note_back : (s : Store) (before : List DeedEntry) (r : Reply) → IsNote s (map longer_entry before) r → IsNote s before r
note_back s before (reply.Done epoch) its = (ap (λ o. option_map_or (is_sweep_of epoch) o false) (sym (last_same before)) ∙ its.0, its.1)
note_back s before (reply.Visits epoch count) its = ap (λ o. option_map_or (is_done_of epoch) o false) (sym (last_same before)) ∙ its
note_back s before (reply.Name a) its = its
note_back s before (reply.Stat blocks roots sessions epochs swept) its = its
note_back s before (reply.Down peer line) its = its
note_back s before (reply.NoPeer peer) its = its
note_back s before (reply.NotUp peer) its = its
note_back s before (reply.NotDown peer) its = its
note_back s before (reply.NoMessage message) its = its
note_back s before (reply.PoolFull limit) its = its
note_back s before other its = absurd its

of_back : (limits : Limits) (s : Store) (before : List DeedEntry) (d : Deed) (r : Reply) → IsDeedOf limits s (map longer_entry before) (longer d) r → IsDeedOf limits s before d r
of_back limits s before (deed.Refused o) r its = refused_back limits s before o r its
of_back limits s before deed.Nothing r its = note_back s before r its
of_back limits s before (deed.Opened name) r its = its
of_back limits s before (deed.Closed name) r its = its
of_back limits s before (deed.Wrote name a pointers handle) r its = its
of_back limits s before (deed.Marked name a handle) r its = its
of_back limits s before (deed.ReadBlock name a epoch handles) r its = its
of_back limits s before (deed.Looked name key handle) r its = its
of_back limits s before (deed.Rooted key a) r its = its
of_back limits s before (deed.Dropped key) r its = its
of_back limits s before (deed.Forgot name handle) r its = its
of_back limits s before (deed.Entered shard) r its = its
of_back limits s before (deed.Swept shard) r its = its

store_same : (s : Store) (d : Deed) → deed_store s (longer d) ≡ deed_store s d
store_same s (deed.Refused o) = refl
store_same s deed.Nothing = refl
store_same s (deed.Opened name) = refl
store_same s (deed.Closed name) = refl
store_same s (deed.Wrote name a pointers handle) = refl
store_same s (deed.Marked name a handle) = refl
store_same s (deed.ReadBlock name a epoch handles) = refl
store_same s (deed.Looked name key handle) = refl
store_same s (deed.Rooted key a) = refl
store_same s (deed.Dropped key) = refl
store_same s (deed.Forgot name handle) = refl
store_same s (deed.Entered shard) = refl
store_same s (deed.Swept shard) = refl

pub after_same : (s : Store) (es : List DeedEntry) → store_after s (map longer_entry es) ≡ store_after s es
after_same s [] = refl
after_same s (e ∷ es) = ap (λ (t : Store). store_after t (map longer_entry es)) (store_same s e.deed) ∙ after_same (deed_store s e.deed) es

pub deeds_back : (limits : Limits) (s : Store) (before es : List DeedEntry) → AreDeeds limits s (map longer_entry before) (map longer_entry es) → AreDeeds limits s before es
deeds_back limits s before [] its = tt
deeds_back limits s before (e ∷ es) its = (
  record { printed = its.0.printed; done = of_back limits s before e.deed e.reply its.0.done },
  deeds_back limits (deed_store s e.deed) (before ++ e ∷ []) es
      (subst (λ (b : List DeedEntry). AreDeeds limits (deed_store s e.deed) b (map longer_entry es)) (sym (map_join longer_entry before (e ∷ [])))
      (subst (λ (t : Store). AreDeeds limits t (map longer_entry before ++ longer_entry e ∷ []) (map longer_entry es)) (store_same s e.deed) its.1)),
)
