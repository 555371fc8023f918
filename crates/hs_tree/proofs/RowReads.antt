-- A row that is read part by part: how it begins, goes on, stops and ends.
use Rattle.std.proofs.Common.{◌≡◌, ℕ, ◌+◌, ◌-◌, ◌<◌, ◌≤◌, ◌==◌, List, [], ◌∷◌, None, Bool, true, false, refl, ◌∙◌, subst, map, min, length, drop, get_or}
use Rattle.std.proofs.lemmas.List.{drop_all, drop_more}
use Rattle.hs_asking.specs.Shown.{Began, Shown, store_now}
use Rattle.hs_limits.specs.declared.address.Held.{Held}
use Rattle.hs_tree.proofs.CallLemmas.{few_none, few_then, last_behind}
use Rattle.hs_tree.proofs.FetchLemmas.{reads_more, reads_none}
use Rattle.hs_tree.proofs.RowLemmas.{tree_stays}
use Rattle.hs_tree.proofs.RowSteps.{goes_on, goes_wrong, is_over, starts}
use Rattle.hs_tree.proofs.RunsLemmas.{span-positive}
use Rattle.hs_tree.specs.Calls.{AsksWithFew}
use Rattle.hs_tree.specs.Rows.{HoldsPart, HoldsRow, IsNoRow, IsReadFault, PartStops, ReadsPart, ReadsRow, RowAt, RowIs, RowSoFar, RowStops}
use Rattle.hs_tree.specs.Trees.{span, stored_cut}
use Rattle.hs_tree.specs.declared.fault.TreeFault.{TreeFault}

module _ {tells : Type 0} (session : List ℕ) (old : Shown tells) (h : ℕ) (handles : List ℕ) (bytes : ℕ) (before : List ℕ) where
  pub row_starts : old.ended ≡ None → RowSoFar session old old h handles bytes before handles bytes before
  row_starts going = record {
    reads = reads_none session old;
    going = going;
    told = λ sure b e next front row held. (row, held.these, starts (store_now b old) session h front row bytes before next held.seat held.few);
    few = λ sure b e next front row held. few_none b session 193 old;
  }

  pub row_over : (now : Shown tells) (left : ℕ) (out : List ℕ) (good : Bool) → good ≡ (left == 0) → RowSoFar session old now h handles bytes before [] left out → ReadsRow session old now h handles bytes before out good
  row_over now left out good is f = record {
    reads = f.reads;
    going = f.going;
    told = λ sure b e next front row held. let r = f.told sure b e next front row held in over b front row r.0 r.1 r.2;
    few = f.few;
  }
    where
      over : (b : Began) (front row rest : List (ℕ × Held)) → map (λ (e : ℕ × Held). e.0) rest ≡ [] → RowAt (store_now b old) (store_now b now) session h front row bytes before rest left out → RowIs (store_now b old) (store_now b now) session h front row bytes before out good
      over b front row [] e r = is_over (store_now b old) session h front row bytes before (store_now b now) left out r good is
      over b front row (x ∷ rest) e r = cc e

  module _ (mid new : Shown tells) (handle : ℕ) (behind : List ℕ) (left : ℕ) (out : List ℕ) (f : RowSoFar session old mid h handles bytes before (handle ∷ behind) left out) where
    -- the first that is left is a part
    with_first : (C : Type 0) → tells → (b : Began) → old.began ≡ b → (next : ℕ) (front row : List (ℕ × Held)) → HoldsRow b (store_now b old) session next h front row handles
        → ((x : ℕ × Held) (rest : List (ℕ × Held)) (at : ℕ) → x.0 ≡ handle → map (λ (e : ℕ × Held). e.0) rest ≡ behind → RowAt (store_now b old) (store_now b mid) session h front row bytes before (x ∷ rest) left out → HoldsPart b (store_now b mid) session at h front x rest → C) → C
    with_first C sure b e next front row held go = let r = f.told sure b e next front row held in which r.0 r.1 r.2
      where
        which : (rest : List (ℕ × Held)) → map (λ (e : ℕ × Held). e.0) rest ≡ handle ∷ behind → RowAt (store_now b old) (store_now b mid) session h front row bytes before rest left out → C
        which [] e r = cc e
        which (x ∷ rest) e r = go x rest r.next (cc e) (cc e) r (record { limit = held.limit; seat = r.seat; few = r.few })

    row_few : (tells → (b : Began) → mid.began ≡ b → (next : ℕ) (front rest : List (ℕ × Held)) (x : ℕ × Held) → x.0 ≡ handle → HoldsPart b (store_now b mid) session next h front x rest → AsksWithFew b session 193 mid new)
        → tells → (b : Began) → old.began ≡ b → (next : ℕ) (front row : List (ℕ × Held)) → HoldsRow b (store_now b old) session next h front row handles → AsksWithFew b session 193 old new
    row_few few sure b e next front row held = with_first (AsksWithFew b session 193 old new) sure b e next front row held
        (λ x rest at first others r holds. few_then b session 193 old mid new (f.few sure b e next front row held) (few sure b (f.reads.began ∙ e) at front rest x first holds))

    pub row_goes : (part : ℕ) (after : List ℕ) → part ≡ min left (span stored_cut h) → ReadsPart session mid new h handle part out after true → RowSoFar session old new h handles bytes before behind (left - part) after
    row_goes part after is p = record {
      reads = reads_more session old mid new f.reads p.reads;
      going = p.going;
      told = λ sure b e next front row held. with_first ((rest : List (ℕ × Held)) × (map (λ (e : ℕ × Held). e.0) rest ≡ behind) × RowAt (store_now b old) (store_now b new) session h front row bytes before rest (left - part) after) sure b e next front row held
          (λ x rest at first others r holds. (rest, others, goes_on (store_now b old) session h front row bytes before (store_now b mid) (store_now b new) x rest left out after part is r (p.told sure b (f.reads.began ∙ e) at front rest x first holds)));
      few = row_few p.few;
    }

    pub row_wrong : (part : ℕ) (after : List ℕ) → part ≡ min left (span stored_cut h) → ReadsPart session mid new h handle part out after false → ReadsRow session old new h handles bytes before after false
    row_wrong part after is p = record {
      reads = reads_more session old mid new f.reads p.reads;
      going = p.going;
      told = λ sure b e next front row held. with_first (IsNoRow (store_now b old) (store_now b new) h front row bytes) sure b e next front row held
          (λ x rest at first others r holds. goes_wrong (store_now b old) session h front row bytes before (store_now b mid) (store_now b new) x rest left out part is (span-positive h) r (p.told sure b (f.reads.began ∙ e) at front rest x first holds) (λ s t a c. tree_stays s t h a c));
      few = row_few p.few;
    }

    pub row_stops : (fault : TreeFault) → PartStops session mid new h handle fault → RowStops session old new h handles fault
    row_stops fault p = record {
      reads = reads_more session old mid new f.reads p.reads;
      ended = p.ended;
      kind = p.kind;
      last = last_behind old mid new f.reads.ops fault f.reads.asked p.last;
      cause = λ sure b e next front row held. with_first (IsReadFault fault) sure b e next front row held (λ x rest at first others r holds. p.cause sure b (f.reads.began ∙ e) at front rest x first holds);
    }

-- ---- the same at a place of the row

module _ {tells : Type 0} (session : List ℕ) (old mid new : Shown tells) (h : ℕ) (handles : List ℕ) (bytes : ℕ) (before : List ℕ) (i d left : ℕ) (out : List ℕ) (f : RowSoFar session old mid h handles bytes before (drop i handles) left out) where
  module _ (l : i < length handles) where
    here : RowSoFar session old mid h handles bytes before (get_or handles i d ∷ drop (i + 1) handles) left out
    here = subst (λ z. RowSoFar session old mid h handles bytes before z left out) (drop_more handles i d l) f

    pub goes_at : (part : ℕ) (after : List ℕ) (good : Bool) → good ≡ true → part ≡ min left (span stored_cut h) → ReadsPart session mid new h (get_or handles i d) part out after good → RowSoFar session old new h handles bytes before (drop (i + 1) handles) (left - part) after
    goes_at part after good e is p = row_goes session old h handles bytes before mid new (get_or handles i d) (drop (i + 1) handles) left out here part after is (subst (λ z. ReadsPart session mid new h (get_or handles i d) part out after z) e p)

    pub wrong_at : (part : ℕ) (after : List ℕ) (good : Bool) → good ≡ false → part ≡ min left (span stored_cut h) → ReadsPart session mid new h (get_or handles i d) part out after good → ReadsRow session old new h handles bytes before after false
    wrong_at part after good e is p = row_wrong session old h handles bytes before mid new (get_or handles i d) (drop (i + 1) handles) left out here part after is (subst (λ z. ReadsPart session mid new h (get_or handles i d) part out after z) e p)

    pub stops_at : (fault : TreeFault) → PartStops session mid new h (get_or handles i d) fault → RowStops session old new h handles fault
    stops_at fault p = row_stops session old h handles bytes before mid new (get_or handles i d) (drop (i + 1) handles) left out here fault p

  pub over_at : length handles ≤ i → ReadsRow session old mid h handles bytes before out (left == 0)
  over_at l = row_over session old h handles bytes before mid left out (left == 0) refl (subst (λ z. RowSoFar session old mid h handles bytes before z left out) (drop_all i handles l) f)
