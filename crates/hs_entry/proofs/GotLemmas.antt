-- A Got: what is read is spelled so, and what is spelled so is read, up to what stands behind it.
use Rattle.std.proofs.Common.{◌≡◌, ℕ, ◌+◌, ◌*◌, ◌≤◌, eqb, leb, List, [], ◌∷◌, ◌++◌, length, None, Result, Ok, refl, sym, ap, subst, ◌∙◌, append_assoc, arith}
use Rattle.std.specs.Int.{w32}
use Rattle.std.specs.List.{flat_map}
use Rattle.std.proofs.lemmas.Bool.{leb-true, le-leb}
use Rattle.std.proofs.lemmas.List.Elements.{All-from_recursion, recursion_from_All}
use Rattle.hs_limits.specs.declared.delta.Delta.{Delta}
use Rattle.hs_limits.specs.Fields.{◌>>=◌, check, byte_at, number_at}
use Rattle.hs_limits.proofs.FieldLemmas.{IsBytes, bind_ok, check_ok, ok_is, Takes, Takes-then}
use Rattle.hs_entry.specs.declared.entry.Entry.{Entry}
use Rattle.hs_entry.specs.declared.entry.Entry.TheVariants.{Got}
use Rattle.hs_entry.specs.declared.fault.EntryFault.{EntryFault}
use Rattle.hs_entry.specs.declared.fault.EntryFault.TheVariants.{Short, BadField, Trailing}
use Rattle.hs_entry.specs.Payload.{four, eight, delta_field, deltas_field, fields_of}
use Rattle.hs_entry.specs.Reading.{IsDelta, IsReadable, epoch_at, deltas_at, got_at}
use Rattle.hs_entry.proofs.DeltaLemmas.{any_first, deltas_take, deltas_again}
use Rattle.hs_entry.proofs.KindLemmas.{AreFields, ends, whole_is, four_parts}
use Rattle.hs_entry.proofs.PartLemmas.{one_takes, four_takes, four_again, epoch_takes, epoch_again}

behind_deltas : ℕ → ℕ → ℕ → ℕ → ℕ → List Delta × List ℕ → Result Entry EntryFault
behind_deltas sender epoch round total count deltas = ends deltas.1 (30 + 36 * count) (Got sender epoch round total deltas.0)

behind_count : ℕ → ℕ → ℕ → ℕ → ℕ → ℕ × List ℕ → Result Entry EntryFault
behind_count whole sender epoch round total count = check (leb count.0 16665) (BadField 26) >>= λ _. deltas_at whole 30 count.0 None count.1 >>= behind_deltas sender epoch round total count.0

behind_got_epoch : ℕ → ℕ → ℕ × List ℕ → Result Entry EntryFault
behind_got_epoch whole sender epoch = number_at (Short whole) w32 epoch.1 >>= λ round. number_at (Short whole) w32 round.1 >>= λ total. number_at (Short whole) w32 total.1 >>= behind_count whole sender epoch.0 round.0 total.0

pub got_takes : (whole : ℕ) (bytes : List ℕ) (entry : Entry) → IsBytes bytes → got_at whole bytes ≡ Ok entry → AreFields 7 bytes entry
unfolding got_at behind_got_epoch behind_count behind_deltas
got_takes whole bytes entry fit e =
    let b1 = bind_ok (byte_at (Short whole) bytes) (λ sender. epoch_at whole 10 sender.1 >>= behind_got_epoch whole sender.0) entry e in
    let t1 = one_takes whole bytes b1.0 fit b1.1 in
    let b2 = bind_ok (epoch_at whole 10 b1.0.1) (behind_got_epoch whole b1.0.0) entry b1.2 in
    let t2 = epoch_takes whole 10 b1.0.1 b2.0 t1.0.rest_fits b2.1 in
    let b3 = bind_ok (number_at (Short whole) w32 b2.0.1) (λ round. number_at (Short whole) w32 round.1 >>= λ total. number_at (Short whole) w32 total.1 >>= behind_count whole b1.0.0 b2.0.0 round.0 total.0) entry b2.2 in
    let t3 = four_takes whole b2.0.1 b3.0 t2.0.rest_fits b3.1 in
    let b4 = bind_ok (number_at (Short whole) w32 b3.0.1) (λ total. number_at (Short whole) w32 total.1 >>= behind_count whole b1.0.0 b2.0.0 b3.0.0 total.0) entry b3.2 in
    let t4 = four_takes whole b3.0.1 b4.0 t3.0.rest_fits b4.1 in
    let b5 = bind_ok (number_at (Short whole) w32 b4.0.1) (behind_count whole b1.0.0 b2.0.0 b3.0.0 b4.0.0) entry b4.2 in
    let t5 = four_takes whole b4.0.1 b5.0 t4.0.rest_fits b5.1 in
    let c1 = check_ok (leb b5.0.0 16665) (BadField 26) (deltas_at whole 30 b5.0.0 None b5.0.1 >>= behind_deltas b1.0.0 b2.0.0 b3.0.0 b4.0.0 b5.0.0) entry b5.2 in
    let b6 = bind_ok (deltas_at whole 30 b5.0.0 None b5.0.1) (behind_deltas b1.0.0 b2.0.0 b3.0.0 b4.0.0 b5.0.0) entry c1.1 in
    let t6 = deltas_take whole 30 b5.0.0 None b5.0.1 b6.0 t5.0.rest_fits b6.1 in
    let got : Entry = Got b1.0.0 b2.0.0 b3.0.0 b4.0.0 b6.0.0 in
    let c2 = check_ok (eqb (length b6.0.1) 0) (Trailing (30 + 36 * b5.0.0)) (Ok got) entry b6.2 in
    let two = Takes-then bytes (b1.0.0 ∷ []) b1.0.1 (eight b2.0.0) b2.0.1 t1.0 t2.0 in
    let three = Takes-then bytes ((b1.0.0 ∷ []) ++ eight b2.0.0) b2.0.1 (four b3.0.0) b3.0.1 two t3.0 in
    let more = Takes-then bytes ((b1.0.0 ∷ []) ++ eight b2.0.0 ++ four b3.0.0) b3.0.1 (four b4.0.0) b4.0.1 three t4.0 in
    let counted : Takes b4.0.1 (deltas_field b6.0.0) b6.0.1 =
    Takes-then b4.0.1 (four (length b6.0.0)) b5.0.1 (flat_map delta_field b6.0.0) b6.0.1 (subst (λ (n : ℕ). Takes b4.0.1 (four n) b5.0.1) (sym t6.count) t5.0) t6.taken in
    let all = Takes-then bytes ((b1.0.0 ∷ []) ++ eight b2.0.0 ++ four b3.0.0 ++ four b4.0.0) b4.0.1 (deltas_field b6.0.0) b6.0.1 more counted in
    let few : length b6.0.0 ≤ 16665 = subst (λ (n : ℕ). n ≤ 16665) (sym t6.count) (leb-true _ _ c1.0) in
    subst (λ (y : Entry). AreFields 7 bytes y) (ok_is {E = EntryFault} got entry c2.1)
    (record { kind_is = refl; readable = (t1.1, t2.1, t2.2, t3.1, t4.1, record { few = few; each = All-from_recursion IsDelta b6.0.0 t6.each; ascend = t6.ascend }); spelled = whole_is bytes _ b6.0.1 all c2.0 })

got_parts : (sender : ℕ) (a b c d e rest : List ℕ) → (sender ∷ a ++ b ++ c ++ (d ++ e)) ++ rest ≡ sender ∷ (a ++ (b ++ (c ++ (d ++ (e ++ rest)))))
got_parts sender a b c d e rest = ap (λ (t : List ℕ). sender ∷ t) (four_parts a b c (d ++ e) rest ∙ ap (λ (t : List ℕ). a ++ (b ++ (c ++ t))) (append_assoc d e rest))

pub got_again : (whole sender epoch round total : ℕ) (deltas : List Delta) (rest : List ℕ) → IsReadable (Got sender epoch round total deltas)
    → got_at whole (fields_of (Got sender epoch round total deltas) ++ rest) ≡ ends rest (30 + 36 * length deltas) (Got sender epoch round total deltas)
unfolding got_at
got_again whole sender epoch round total deltas rest fits =
    let text : List ℕ = flat_map delta_field deltas in
    let are = fits.5 in
    ap (got_at whole) (got_parts sender (eight epoch) (four round) (four total) (four (length deltas)) text rest) ∙
    rw (
      epoch_again whole 10 epoch (four round ++ (four total ++ (four (length deltas) ++ (text ++ rest)))) fits.1 fits.2,
      four_again whole round (four total ++ (four (length deltas) ++ (text ++ rest))) fits.3,
      four_again whole total (four (length deltas) ++ (text ++ rest)) fits.4,
      four_again whole (length deltas) (text ++ rest) (omega (arith, are.few)),
      le-leb (length deltas) 16665 are.few,
      deltas_again whole 30 None deltas rest (recursion_from_All IsDelta deltas are.each) are.ascend (any_first _),
    ) refl
