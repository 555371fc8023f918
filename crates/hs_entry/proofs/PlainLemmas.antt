-- No entry that is read is a Base or kept behind one.
use Rattle.std.proofs.Common.{◌≡◌, ℕ, ◌+◌, ◌*◌, Bool, true, false, eqb, leb, cond, List, length, None, Result, is_ok, Ok, Err, refl, ap, subst}
use Rattle.std.specs.Int.{w32, w64}
use Rattle.hs_limits.specs.Fields.{◌>>=◌, check, byte_at, bytes_at, number_at}
use Rattle.hs_limits.specs.Reading.{read_block}
use Rattle.hs_limits.proofs.FieldLemmas.{bind_ok, check_ok, ok_is}
use Rattle.hs_entry.specs.declared.entry.Entry.{Entry}
use Rattle.hs_entry.specs.declared.fault.EntryFault.{EntryFault}
use Rattle.hs_entry.specs.declared.fault.EntryFault.TheVariants.{Short, BadKind, BadField, Trailing}
use Rattle.hs_entry.specs.Entries.{is_of_base}
use Rattle.hs_entry.specs.Reading.{is_kind, epoch_at, key_at, deltas_at, view_at, block_at, mark_at, root_at, drop_at, enter_at, got_at, fields_at, entry_at}

-- where an entry is read, it is an ordinary one
record IsPlain (read : Result Entry EntryFault) : Type 0 where
  plain : (entry : Entry) → read ≡ Ok entry → is_of_base entry ≡ false

behind : {A : Type 0} (read : Result A EntryFault) (f : A → Result Entry EntryFault) → ((x : A) → IsPlain (f x)) → IsPlain (read >>= f)
behind read f h = record { plain = λ entry e. let b = bind_ok read f entry e in (h b.0).plain entry b.2 }

gives : (entry : Entry) → is_of_base entry ≡ false → IsPlain (Ok entry)
gives entry own = record { plain = λ other e. subst (λ (x : Entry). is_of_base x ≡ false) (ok_is {E = EntryFault} entry other e) own }

stops : (fault : EntryFault) → IsPlain (Err fault)
stops fault = record { plain = λ entry e. absurd cc }

either : (b : Bool) (x y : Result Entry EntryFault) → IsPlain x → IsPlain y → IsPlain (cond b x y)
either true x y one other = one
either false x y one other = other

view_plain : (whole : ℕ) (bytes : List ℕ) → IsPlain (view_at whole bytes)
unfolding view_at
view_plain whole bytes =
    behind (number_at (Short whole) w64 bytes) _ (λ view. behind (check (leb 1 view.0) (BadField 9)) _ (λ _. behind (check (eqb (length view.1) 0) (Trailing 17)) _ (λ _. gives _ refl)))

block_plain : (whole : ℕ) (bytes : List ℕ) → IsPlain (block_at whole bytes)
unfolding block_at
block_plain whole bytes =
    behind (number_at (Short whole) w64 bytes) _ (λ op. behind (epoch_at whole 17 op.1) _ (λ least. behind (check (is_ok (read_block least.1)) (BadField 25)) _ (λ _. gives _ refl)))

mark_plain : (whole : ℕ) (bytes : List ℕ) → IsPlain (mark_at whole bytes)
unfolding mark_at
mark_plain whole bytes =
    behind (number_at (Short whole) w64 bytes) _ (λ op. behind (epoch_at whole 17 op.1) _ (λ least. behind (number_at (Short whole) w64 least.1) _ (λ block. behind (bytes_at (Short whole) 32 block.1) _ (λ address. behind (check (eqb (length address.1) 0) (Trailing 65)) _ (λ _. gives _ refl)))))

root_plain : (whole : ℕ) (bytes : List ℕ) → IsPlain (root_at whole bytes)
unfolding root_at
root_plain whole bytes =
    behind (number_at (Short whole) w64 bytes) _ (λ op. behind (epoch_at whole 17 op.1) _ (λ held. behind (bytes_at (Short whole) 32 held.1) _ (λ address. behind (key_at whole 57 address.1) _ (λ key. behind (check (eqb (length key.1) 0) (Trailing (58 + length key.0))) _ (λ _. gives _ refl)))))

drop_plain : (whole : ℕ) (bytes : List ℕ) → IsPlain (drop_at whole bytes)
unfolding drop_at
drop_plain whole bytes =
    behind (number_at (Short whole) w64 bytes) _ (λ op. behind (key_at whole 17 op.1) _ (λ key. behind (check (eqb (length key.1) 0) (Trailing (18 + length key.0))) _ (λ _. gives _ refl)))

enter_plain : (whole : ℕ) (bytes : List ℕ) → IsPlain (enter_at whole bytes)
unfolding enter_at
enter_plain whole bytes =
    behind (number_at (Short whole) w64 bytes) _ (λ op. behind (epoch_at whole 17 op.1) _ (λ epoch. behind (check (eqb (length epoch.1) 0) (Trailing 25)) _ (λ _. gives _ refl)))

got_plain : (whole : ℕ) (bytes : List ℕ) → IsPlain (got_at whole bytes)
unfolding got_at
got_plain whole bytes =
    behind (byte_at (Short whole) bytes) _ (λ sender. behind (epoch_at whole 10 sender.1) _ (λ epoch. behind (number_at (Short whole) w32 epoch.1) _ (λ round. behind (number_at (Short whole) w32 round.1) _ (λ total. behind (number_at (Short whole) w32 total.1) _ (λ count. behind (check (leb count.0 16665) (BadField 26)) _ (λ _. behind (deltas_at whole 30 count.0 None count.1) _ (λ deltas. behind (check (eqb (length deltas.1) 0) (Trailing (30 + 36 * count.0))) _ (λ _. gives _ refl))))))))

fields_plain : (kind whole : ℕ) (bytes : List ℕ) → IsPlain (fields_at kind whole bytes)
unfolding fields_at
fields_plain kind whole bytes =
    either (eqb kind 1) _ _ (view_plain whole bytes)
    (either (eqb kind 2) _ _ (block_plain whole bytes)
    (either (eqb kind 3) _ _ (mark_plain whole bytes)
    (either (eqb kind 4) _ _ (root_plain whole bytes)
    (either (eqb kind 5) _ _ (drop_plain whole bytes)
    (either (eqb kind 6) _ _ (enter_plain whole bytes)
    (either (eqb kind 7) _ _ (got_plain whole bytes) (stops _)))))))

pub entry_plain : (bytes : List ℕ) (number : ℕ) (entry : Entry) → entry_at bytes ≡ Ok (number, entry) → is_of_base entry ≡ false
unfolding entry_at
entry_plain bytes number entry e =
    let whole : ℕ = length bytes in
    let b1 = bind_ok (byte_at (Short whole) bytes) (λ kind. check (is_kind kind.0) (BadKind kind.0) >>= λ _. number_at (Short whole) w64 kind.1 >>= λ number. fields_at kind.0 whole number.1 >>= λ entry. Ok (number.0, entry)) (number, entry) e in
    let c1 = check_ok (is_kind b1.0.0) (BadKind b1.0.0) (number_at (Short whole) w64 b1.0.1 >>= λ number. fields_at b1.0.0 whole number.1 >>= λ entry. Ok (number.0, entry)) (number, entry) b1.2 in
    let b2 = bind_ok (number_at (Short whole) w64 b1.0.1) (λ number. fields_at b1.0.0 whole number.1 >>= λ entry. Ok (number.0, entry)) (number, entry) c1.1 in
    let b3 = bind_ok (fields_at b1.0.0 whole b2.0.1) (λ entry. Ok (b2.0.0, entry)) (number, entry) b2.2 in
    let same : b3.0 ≡ entry = ap (λ (x : ℕ × Entry). x.1) (ok_is {E = EntryFault} (b2.0.0, b3.0) (number, entry) b3.2) in
    subst (λ (x : Entry). is_of_base x ≡ false) same ((fields_plain b1.0.0 whole b2.0.1).plain b3.0 b3.1)
