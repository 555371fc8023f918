-- What a core beside a named one tells in one change is deeds, where that of the named one is; and its Marks point where those of the named one do.
use Rattle.std.proofs.Common.{◌≡◌, ◌∙◌, sym, ap, subst, ℕ, zero, suc, List, [], ◌∷◌, map, Option, Some, None, refl, slice_get}
use Rattle.std.proofs.lemmas.List.{append_cancel_left}
use Rattle.std.specs.Option.{option_map}
use Rattle.hs_answered.specs.Standing.{IsFolded, forget_all, store_with}
use Rattle.hs_any_events.proofs.CodedCoreLemmas.{IsCoded, coded_waiting, operation_is, same_catalogue, same_sessions, waiting_alike}
use Rattle.hs_any_events.proofs.CodedEntryLemmas.{Outline, outline, same_entry}
use Rattle.hs_any_events.proofs.CodedLemmas.{Code, coded_op, coded_payload}
use Rattle.hs_awaiting.specs.declared.waiting.Waiting.{Waiting}
use Rattle.hs_core_words.specs.Looking.{group_of, operation_of, shape_of}
use Rattle.hs_core_words.specs.State.{Core}
use Rattle.hs_deeds.proofs.AddsLemmas.{AddsAlike}
use Rattle.hs_deeds.proofs.AlikeLemmas.{after_same, deeds_back, longer_entry}
use Rattle.hs_deeds.specs.On.{DeedsOn}
use Rattle.hs_deeds.specs.Points.{MarksPoint}
use Rattle.hs_deeds.specs.Told.{store_after}
use Rattle.hs_entry.specs.declared.entry.Entry.{Entry}
use Rattle.hs_entry.specs.declared.entry.Entry.TheVariants as kind
use Rattle.hs_fold.specs.Runs.Facts.{Catalogue as Folded}
use Rattle.hs_fold.specs.Runs.Own.{AreOwn}
use Rattle.hs_limits.specs.Shape.{IsShape}
use Rattle.hs_journal.specs.declared.entry.JournalEntry.{JournalEntry}
use Rattle.hs_journal.specs.Deeds.{as_deed}
use Rattle.hs_limits.specs.declared.address.Address.{Address}
use Rattle.hs_limits.specs.declared.limits.Limits.{Limits}
use Rattle.hs_model.specs.declared.op.Op.{Op}
use Rattle.hs_model.specs.declared.op.Op.TheVariants as op
use Rattle.hs_model.specs.Deeds.{AreDeeds, DeedEntry}
use Rattle.hs_model.specs.Hollow.{hollow}
use Rattle.hs_ops.specs.Speaking.{asked_pointers}
use Rattle.hs_shard.specs.Facts.{Catalogue, facts_at}
use Rattle.hs_tokens.specs.Seats.{Seats}

-- ---- folds

pub folded_there : (code : Code) (c d : Core) → IsCoded code c d → (cs : List Folded) → IsFolded d cs → IsFolded c cs
folded_there code c d r cs its = record {
  valid = subst (λ (x : Core). IsShape (shape_of x)) r.same its.valid;
  shards = its.shards ∙ ap (λ (x : Core). (shape_of x).shards) r.same;
  own = subst (λ (x : Core). AreOwn (shape_of x).shards 0 cs) r.same its.own;
  catalogues = sym (ap (λ (x : Core). x.catalogues) r.same) ∙ its.catalogues ∙ ap (λ (x : Core). forget_all (shape_of x) 0 cs) r.same;
}

-- ---- what is told

module _ (Known Other : List DeedEntry → Type 0) (code : Code) (limits : Limits) (cs behind : List Folded) (c a d b : Core) where
  pub carried : IsCoded code c d → IsCoded code a b → a.journal ≡ c.journal → a.refused ≡ c.refused → AddsAlike c.entries a.entries d.entries b.entries → ((before : List DeedEntry) → Known before → Other (map longer_entry before))
      → DeedsOn Other limits cs behind d b → DeedsOn Known limits cs behind c a
  carried was is journal refused adds known on = record {
    more = adds.mine;
    journal = journal;
    refused = refused;
    told = adds.told;
    deeds = λ before k.
        deeds_back limits (hollow (store_with cs c.sessions)) before (map as_deed adds.mine)
        (subst (λ (seats : Seats). AreDeeds limits (hollow (store_with cs seats)) (map longer_entry before) (map longer_entry (map as_deed adds.mine))) (same_sessions code c d was)
        (subst (λ (es : List DeedEntry). AreDeeds limits (hollow (store_with cs d.sessions)) (map longer_entry before) es) theirs_are (on.deeds (map longer_entry before) (known before k))));
    left =
        sym (after_same (hollow (store_with cs c.sessions)) (map as_deed adds.mine))
        ∙ ap (λ (es : List DeedEntry). store_after (hollow (store_with cs c.sessions)) es) (sym theirs_are)
        ∙ ap (λ (seats : Seats). store_after (hollow (store_with cs seats)) (map as_deed on.more)) (sym (same_sessions code c d was))
        ∙ on.left ∙ ap (λ (seats : Seats). hollow (store_with behind seats)) (same_sessions code a b is);
  }
    where
      more_is : on.more ≡ adds.theirs
      more_is = append_cancel_left d.entries on.more adds.theirs (sym on.told ∙ adds.also)

      theirs_are : map as_deed on.more ≡ map longer_entry (map as_deed adds.mine)
      theirs_are = ap (λ (es : List JournalEntry). map as_deed es) more_is ∙ adds.alike

-- ---- Marks

-- what a write names
abbrev session_in : Op → List ℕ
session_in (op.Write session payload handles address) = session
session_in other = []

abbrev handles_in : Op → List ℕ
handles_in (op.Write session payload handles address) = handles
handles_in other = []

abbrev address_in : Op → Option Address
address_in (op.Write session payload handles address) = address
address_in other = None

place_outline : (es : List Entry) (place : ℕ) → slice_get (map outline es) place ≡ option_map outline (slice_get es place)
place_outline [] place = refl
place_outline (e ∷ es) zero = refl
place_outline (e ∷ es) (suc place) = place_outline es place

some_outline : (x y : Outline) → Some x ≡ Some y → x ≡ y
some_outline x y e = cc e

-- an entry of the outline of a Mark is that Mark
mark_of : (x : Option Entry) (line least number : ℕ) (a : Address) → option_map outline x ≡ Some (outline (kind.Mark line least number a)) → x ≡ Some (kind.Mark line least number a)
mark_of None line least number a e = absurd (cc e)
mark_of (Some entry) line least number a e = ap (λ (y : Entry). Some y) (same_entry (kind.Mark line least number a) entry (some_outline (outline entry) (outline (kind.Mark line least number a)) e) refl)

module _ (code : Code) (c d : Core) (r : IsCoded code c d) where
  mark_waits : (g place line least number : ℕ) (a : Address) → slice_get (group_of g d).waiting place ≡ Some (kind.Mark line least number a) → slice_get (group_of g c).waiting place ≡ Some (kind.Mark line least number a)
  mark_waits g place line least number a at =
      mark_of (slice_get (group_of g c).waiting place) line least number a
      (sym (place_outline (group_of g c).waiting place) ∙ sym (ap (λ es. slice_get es place) (waiting_alike code c d r g)) ∙ place_outline (group_of g d).waiting place ∙ ap (λ (x : Option Entry). option_map outline x) at)

  mark_waits_there : (g place line least number : ℕ) (a : Address) → slice_get (group_of g c).waiting place ≡ Some (kind.Mark line least number a) → slice_get (group_of g d).waiting place ≡ Some (kind.Mark line least number a)
  mark_waits_there g place line least number a at =
      mark_of (slice_get (group_of g d).waiting place) line least number a
      (sym (place_outline (group_of g d).waiting place) ∙ ap (λ es. slice_get es place) (waiting_alike code c d r g) ∙ place_outline (group_of g c).waiting place ∙ ap (λ (x : Option Entry). option_map outline x) at)

  -- a write of the coded operation is of the operation, with another payload
  record IsWriteToo (o : Op) (session handles : List ℕ) (a : Address) : Type 0 where
    payload : List ℕ
    is : o ≡ op.Write session payload handles (Some a)

  uncoded : (o : Op) (session payload handles : List ℕ) (a : Address) → coded_op code o ≡ op.Write session payload handles (Some a) → IsWriteToo o session handles a
  uncoded (op.Write s p hs (Some b)) session payload handles a e = record { payload = p; is = λ i. op.Write (session_in (e i)) p (handles_in (e i)) (address_in (e i)) }
  uncoded (op.Write s p hs None) session payload handles a e = absurd (cc e)
  uncoded (op.Open name) session payload handles a e = absurd (cc e)
  uncoded (op.Close name) session payload handles a e = absurd (cc e)
  uncoded (op.Read name handle) session payload handles a e = absurd (cc e)
  uncoded (op.Look name key) session payload handles a e = absurd (cc e)
  uncoded (op.Root name key handle) session payload handles a e = absurd (cc e)
  uncoded (op.Drop key) session payload handles a e = absurd (cc e)
  uncoded (op.Forget name handle) session payload handles a e = absurd (cc e)
  uncoded (op.Name name handle) session payload handles a e = absurd (cc e)
  uncoded op.Delete session payload handles a e = absurd (cc e)
  uncoded op.Stat session payload handles a e = absurd (cc e)

  pub points_there : MarksPoint c → MarksPoint d
  points_there its g place line least number a w at of session payload handles f is there numbered = by (operation_of line c) refl (sym (operation_is code c d r line) ∙ of)
    where
      by : (x : Option Waiting) → operation_of line c ≡ x → option_map (coded_waiting code) x ≡ Some w → f.pointers ≡ asked_pointers d.sessions session handles
      by None none e = absurd (cc e)
      by (Some u) was e =
          let same : coded_waiting code u ≡ w = cc e in
          let write : IsWriteToo u.operation.op session handles a = uncoded u.operation.op session payload handles a (ap (λ (x : Waiting). x.operation.op) same ∙ is) in
          its g place line least number a u (mark_waits g place line least number a at) was session write.payload handles f write.is (ap (λ (k : Catalogue). facts_at a k) (sym (same_catalogue code c d r g)) ∙ there) numbered
          ∙ ap (λ (seats : Seats). asked_pointers seats session handles) (sym (same_sessions code c d r))

  pub points_back : MarksPoint d → MarksPoint c
  points_back its g place line least number a w at of session payload handles f is there numbered =
      its g place line least number a (coded_waiting code w) (mark_waits_there g place line least number a at) (operation_is code c d r line ∙ ap (λ (x : Option Waiting). option_map (coded_waiting code) x) of)
      session (coded_payload code a payload) handles f (ap (λ (o : Op). coded_op code o) is) (ap (λ (k : Catalogue). facts_at a k) (same_catalogue code c d r g) ∙ there) numbered
      ∙ ap (λ (seats : Seats). asked_pointers seats session handles) (same_sessions code c d r)
