-- For each kind: what is read is spelled so, and what is spelled so is read, up to what stands behind it.
use Rattle.std.proofs.Common.{◌≡◌, ℕ, true, ◌+◌, eqb, leb, List, ◌++◌, length, Result, Ok, is_ok, refl, ap, subst, ◌∙◌, append_assoc}
use Rattle.std.specs.Int.{w64}
use Rattle.std.proofs.lemmas.Bool.{eqb-true, leb-true, le-leb}
use Rattle.std.proofs.lemmas.List.{append-nil, nil_from_length}
use Rattle.hs_limits.specs.declared.address.Address.{Address}
use Rattle.hs_limits.specs.Block.{IsSpelling}
use Rattle.hs_limits.specs.Fields.{◌>>=◌, check, bytes_at, number_at}
use Rattle.hs_limits.specs.Reading.{read_block}
use Rattle.hs_limits.proofs.FieldLemmas.{IsBytes, bind_ok, check_ok, ok_is, Takes, Takes-then, bytes_takes, bytes_again}
use Rattle.hs_limits.proofs.ReadingLemmas.{spelling_from_ok, spelling_is_ok}
use Rattle.hs_entry.specs.declared.entry.Entry.{Entry}
use Rattle.hs_entry.specs.declared.entry.Entry.TheVariants.{View, Block, Mark, Root, Drop, Enter}
use Rattle.hs_entry.specs.declared.fault.EntryFault.{EntryFault}
use Rattle.hs_entry.specs.declared.fault.EntryFault.TheVariants.{Short, BadField, Trailing}
use Rattle.hs_entry.specs.Payload.{eight, key_field, kind_of, fields_of}
use Rattle.hs_entry.specs.Reading.{IsReadable, epoch_at, key_at, view_at, block_at, mark_at, root_at, drop_at, enter_at}
use Rattle.hs_entry.proofs.PartLemmas.{eight_takes, eight_again, epoch_takes, epoch_again, key_takes, key_again}

-- the bytes are the fields of this entry of this kind
pub record AreFields (kind : ℕ) (bytes : List ℕ) (entry : Entry) : Type 0 where
  pub kind_is : kind_of entry ≡ kind
  pub readable : IsReadable entry
  pub spelled : bytes ≡ fields_of entry

-- the entry, where nothing stands behind it
abbrev pub ends : List ℕ → ℕ → Entry → Result Entry EntryFault
ends rest at entry = check (eqb (length rest) 0) (Trailing at) >>= λ _. Ok entry

-- all was taken, and nothing stands behind it
pub whole_is : (bytes text rest : List ℕ) → Takes bytes text rest → eqb (length rest) 0 ≡ true → bytes ≡ text
whole_is bytes text rest taken ended =
    taken.parts ∙ ap (λ (r : List ℕ). text ++ r) (nil_from_length rest (eqb-true _ _ ended)) ∙ append-nil text

-- ---- View

pub view_takes : (whole : ℕ) (bytes : List ℕ) (entry : Entry) → IsBytes bytes → view_at whole bytes ≡ Ok entry → AreFields 1 bytes entry
unfolding view_at
view_takes whole bytes entry fit e =
    let b1 = bind_ok (number_at (Short whole) w64 bytes) (λ view. check (leb 1 view.0) (BadField 9) >>= λ _. ends view.1 17 (View view.0)) entry e in
    let t1 = eight_takes whole bytes b1.0 fit b1.1 in
    let c1 = check_ok (leb 1 b1.0.0) (BadField 9) (ends b1.0.1 17 (View b1.0.0)) entry b1.2 in
    let c2 = check_ok (eqb (length b1.0.1) 0) (Trailing 17) (Ok (View b1.0.0)) entry c1.1 in
    subst (λ (y : Entry). AreFields 1 bytes y) (ok_is {E = EntryFault} (View b1.0.0) entry c2.1)
    (record { kind_is = refl; readable = (leb-true _ _ c1.0, t1.1); spelled = whole_is bytes (eight b1.0.0) b1.0.1 t1.0 c2.0 })

pub view_again : (whole view : ℕ) (rest : List ℕ) → IsReadable (View view) → view_at whole (fields_of (View view) ++ rest) ≡ ends rest 17 (View view)
unfolding view_at
view_again whole view rest fits = rw (eight_again whole view rest fits.1, le-leb 1 view fits.0) refl

-- ---- Block

behind_block_least : ℕ → ℕ × List ℕ → Result Entry EntryFault
behind_block_least op least = check (is_ok (read_block least.1)) (BadField 25) >>= λ _. Ok (Block op least.0 least.1)

pub block_takes : (whole : ℕ) (bytes : List ℕ) (entry : Entry) → IsBytes bytes → block_at whole bytes ≡ Ok entry → AreFields 2 bytes entry
unfolding block_at behind_block_least
block_takes whole bytes entry fit e =
    let b1 = bind_ok (number_at (Short whole) w64 bytes) (λ op. epoch_at whole 17 op.1 >>= behind_block_least op.0) entry e in
    let t1 = eight_takes whole bytes b1.0 fit b1.1 in
    let b2 = bind_ok (epoch_at whole 17 b1.0.1) (behind_block_least b1.0.0) entry b1.2 in
    let t2 = epoch_takes whole 17 b1.0.1 b2.0 t1.0.rest_fits b2.1 in
    let c1 = check_ok (is_ok (read_block b2.0.1)) (BadField 25) (Ok (Block b1.0.0 b2.0.0 b2.0.1)) entry b2.2 in
    let spelling : IsSpelling b2.0.1 = spelling_from_ok b2.0.1 (read_block b2.0.1) t2.0.rest_fits refl c1.0 in
    let both = Takes-then bytes (eight b1.0.0) b1.0.1 (eight b2.0.0) b2.0.1 t1.0 t2.0 in
    subst (λ (y : Entry). AreFields 2 bytes y) (ok_is {E = EntryFault} (Block b1.0.0 b2.0.0 b2.0.1) entry c1.1)
    (record { kind_is = refl; readable = (t1.1, t2.1, t2.2, spelling); spelled = both.parts })

pub block_again : (whole op least : ℕ) (bytes : List ℕ) → IsReadable (Block op least bytes) → block_at whole (fields_of (Block op least bytes)) ≡ Ok (Block op least bytes)
unfolding block_at
block_again whole op least bytes fits =
    ap (block_at whole) (append_assoc (eight op) (eight least) bytes) ∙
    rw (eight_again whole op (eight least ++ bytes) fits.0, epoch_again whole 17 least bytes fits.1 fits.2, spelling_is_ok bytes fits.3) refl

-- ---- Mark

behind_address : ℕ → ℕ → ℕ → List ℕ × List ℕ → Result Entry EntryFault
behind_address op least block address = ends address.1 65 (Mark op least block (record { 0 = address.0 }))

behind_mark_least : ℕ → ℕ → ℕ × List ℕ → Result Entry EntryFault
behind_mark_least whole op least = number_at (Short whole) w64 least.1 >>= λ block. bytes_at (Short whole) 32 block.1 >>= behind_address op least.0 block.0

pub four_parts : (a b c d rest : List ℕ) → (a ++ b ++ c ++ d) ++ rest ≡ a ++ (b ++ (c ++ (d ++ rest)))
four_parts a b c d rest = simp append_assoc

pub mark_takes : (whole : ℕ) (bytes : List ℕ) (entry : Entry) → IsBytes bytes → mark_at whole bytes ≡ Ok entry → AreFields 3 bytes entry
unfolding mark_at behind_mark_least behind_address
mark_takes whole bytes entry fit e =
    let b1 = bind_ok (number_at (Short whole) w64 bytes) (λ op. epoch_at whole 17 op.1 >>= behind_mark_least whole op.0) entry e in
    let t1 = eight_takes whole bytes b1.0 fit b1.1 in
    let b2 = bind_ok (epoch_at whole 17 b1.0.1) (behind_mark_least whole b1.0.0) entry b1.2 in
    let t2 = epoch_takes whole 17 b1.0.1 b2.0 t1.0.rest_fits b2.1 in
    let b3 = bind_ok (number_at (Short whole) w64 b2.0.1) (λ block. bytes_at (Short whole) 32 block.1 >>= behind_address b1.0.0 b2.0.0 block.0) entry b2.2 in
    let t3 = eight_takes whole b2.0.1 b3.0 t2.0.rest_fits b3.1 in
    let b4 = bind_ok (bytes_at (Short whole) 32 b3.0.1) (behind_address b1.0.0 b2.0.0 b3.0.0) entry b3.2 in
    let t4 = bytes_takes (Short whole) 32 b3.0.1 b4.0 t3.0.rest_fits b4.1 in
    let address : Address = record { 0 = b4.0.0 } in
    let c1 = check_ok (eqb (length b4.0.1) 0) (Trailing 65) (Ok (Mark b1.0.0 b2.0.0 b3.0.0 address)) entry b4.2 in
    let two = Takes-then bytes (eight b1.0.0) b1.0.1 (eight b2.0.0) b2.0.1 t1.0 t2.0 in
    let three = Takes-then bytes (eight b1.0.0 ++ eight b2.0.0) b2.0.1 (eight b3.0.0) b3.0.1 two t3.0 in
    let all = Takes-then bytes (eight b1.0.0 ++ eight b2.0.0 ++ eight b3.0.0) b3.0.1 b4.0.0 b4.0.1 three t4.0 in
    subst (λ (y : Entry). AreFields 3 bytes y) (ok_is {E = EntryFault} (Mark b1.0.0 b2.0.0 b3.0.0 address) entry c1.1)
    (record { kind_is = refl; readable = (t1.1, t2.1, t2.2, t3.1, t4.1); spelled = whole_is bytes _ b4.0.1 all c1.0 })

pub mark_again : (whole op least block : ℕ) (address : Address) (rest : List ℕ) → IsReadable (Mark op least block address)
    → mark_at whole (fields_of (Mark op least block address) ++ rest) ≡ ends rest 65 (Mark op least block address)
unfolding mark_at
mark_again whole op least block address rest fits =
    ap (mark_at whole) (four_parts (eight op) (eight least) (eight block) address.0 rest) ∙
    rw (
      eight_again whole op (eight least ++ (eight block ++ (address.0 ++ rest))) fits.0,
      epoch_again whole 17 least (eight block ++ (address.0 ++ rest)) fits.1 fits.2,
      eight_again whole block (address.0 ++ rest) fits.3,
      bytes_again (Short whole) 32 address.0 rest fits.4,
    ) refl

-- ---- Root

behind_root_key : ℕ → ℕ → Address → List ℕ × List ℕ → Result Entry EntryFault
behind_root_key op held address key = ends key.1 (58 + length key.0) (Root op held address key.0)

behind_held : ℕ → ℕ → ℕ × List ℕ → Result Entry EntryFault
behind_held whole op held = bytes_at (Short whole) 32 held.1 >>= λ address. key_at whole 57 address.1 >>= behind_root_key op held.0 (record { 0 = address.0 })

pub root_takes : (whole : ℕ) (bytes : List ℕ) (entry : Entry) → IsBytes bytes → root_at whole bytes ≡ Ok entry → AreFields 4 bytes entry
unfolding root_at behind_held behind_root_key
root_takes whole bytes entry fit e =
    let b1 = bind_ok (number_at (Short whole) w64 bytes) (λ op. epoch_at whole 17 op.1 >>= behind_held whole op.0) entry e in
    let t1 = eight_takes whole bytes b1.0 fit b1.1 in
    let b2 = bind_ok (epoch_at whole 17 b1.0.1) (behind_held whole b1.0.0) entry b1.2 in
    let t2 = epoch_takes whole 17 b1.0.1 b2.0 t1.0.rest_fits b2.1 in
    let b3 = bind_ok (bytes_at (Short whole) 32 b2.0.1) (λ address. key_at whole 57 address.1 >>= behind_root_key b1.0.0 b2.0.0 (record { 0 = address.0 })) entry b2.2 in
    let t3 = bytes_takes (Short whole) 32 b2.0.1 b3.0 t2.0.rest_fits b3.1 in
    let address : Address = record { 0 = b3.0.0 } in
    let b4 = bind_ok (key_at whole 57 b3.0.1) (behind_root_key b1.0.0 b2.0.0 address) entry b3.2 in
    let t4 = key_takes whole 57 b3.0.1 b4.0 t3.0.rest_fits b4.1 in
    let c1 = check_ok (eqb (length b4.0.1) 0) (Trailing (58 + length b4.0.0)) (Ok (Root b1.0.0 b2.0.0 address b4.0.0)) entry b4.2 in
    let two = Takes-then bytes (eight b1.0.0) b1.0.1 (eight b2.0.0) b2.0.1 t1.0 t2.0 in
    let three = Takes-then bytes (eight b1.0.0 ++ eight b2.0.0) b2.0.1 b3.0.0 b3.0.1 two t3.0 in
    let all = Takes-then bytes (eight b1.0.0 ++ eight b2.0.0 ++ b3.0.0) b3.0.1 (key_field b4.0.0) b4.0.1 three t4.0 in
    subst (λ (y : Entry). AreFields 4 bytes y) (ok_is {E = EntryFault} (Root b1.0.0 b2.0.0 address b4.0.0) entry c1.1)
    (record { kind_is = refl; readable = (t1.1, t2.1, t2.2, t3.1, t4.1); spelled = whole_is bytes _ b4.0.1 all c1.0 })

pub root_again : (whole op held : ℕ) (address : Address) (key rest : List ℕ) → IsReadable (Root op held address key)
    → root_at whole (fields_of (Root op held address key) ++ rest) ≡ ends rest (58 + length key) (Root op held address key)
unfolding root_at
root_again whole op held address key rest fits =
    ap (root_at whole) (four_parts (eight op) (eight held) address.0 (key_field key) rest) ∙
    rw (
      eight_again whole op (eight held ++ (address.0 ++ (key_field key ++ rest))) fits.0,
      epoch_again whole 17 held (address.0 ++ (key_field key ++ rest)) fits.1 fits.2,
      bytes_again (Short whole) 32 address.0 (key_field key ++ rest) fits.3,
      key_again whole 57 key rest fits.4,
    ) refl

-- ---- Drop

behind_drop_key : ℕ → List ℕ × List ℕ → Result Entry EntryFault
behind_drop_key op key = ends key.1 (18 + length key.0) (Drop op key.0)

pub drop_takes : (whole : ℕ) (bytes : List ℕ) (entry : Entry) → IsBytes bytes → drop_at whole bytes ≡ Ok entry → AreFields 5 bytes entry
unfolding drop_at behind_drop_key
drop_takes whole bytes entry fit e =
    let b1 = bind_ok (number_at (Short whole) w64 bytes) (λ op. key_at whole 17 op.1 >>= behind_drop_key op.0) entry e in
    let t1 = eight_takes whole bytes b1.0 fit b1.1 in
    let b2 = bind_ok (key_at whole 17 b1.0.1) (behind_drop_key b1.0.0) entry b1.2 in
    let t2 = key_takes whole 17 b1.0.1 b2.0 t1.0.rest_fits b2.1 in
    let c1 = check_ok (eqb (length b2.0.1) 0) (Trailing (18 + length b2.0.0)) (Ok (Drop b1.0.0 b2.0.0)) entry b2.2 in
    let all = Takes-then bytes (eight b1.0.0) b1.0.1 (key_field b2.0.0) b2.0.1 t1.0 t2.0 in
    subst (λ (y : Entry). AreFields 5 bytes y) (ok_is {E = EntryFault} (Drop b1.0.0 b2.0.0) entry c1.1)
    (record { kind_is = refl; readable = (t1.1, t2.1); spelled = whole_is bytes _ b2.0.1 all c1.0 })

pub drop_again : (whole op : ℕ) (key rest : List ℕ) → IsReadable (Drop op key) → drop_at whole (fields_of (Drop op key) ++ rest) ≡ ends rest (18 + length key) (Drop op key)
unfolding drop_at
drop_again whole op key rest fits =
    ap (drop_at whole) (append_assoc (eight op) (key_field key) rest) ∙
    rw (eight_again whole op (key_field key ++ rest) fits.0, key_again whole 17 key rest fits.1) refl

-- ---- Enter

behind_epoch : ℕ → ℕ × List ℕ → Result Entry EntryFault
behind_epoch op epoch = ends epoch.1 25 (Enter op epoch.0)

pub enter_takes : (whole : ℕ) (bytes : List ℕ) (entry : Entry) → IsBytes bytes → enter_at whole bytes ≡ Ok entry → AreFields 6 bytes entry
unfolding enter_at behind_epoch
enter_takes whole bytes entry fit e =
    let b1 = bind_ok (number_at (Short whole) w64 bytes) (λ op. epoch_at whole 17 op.1 >>= behind_epoch op.0) entry e in
    let t1 = eight_takes whole bytes b1.0 fit b1.1 in
    let b2 = bind_ok (epoch_at whole 17 b1.0.1) (behind_epoch b1.0.0) entry b1.2 in
    let t2 = epoch_takes whole 17 b1.0.1 b2.0 t1.0.rest_fits b2.1 in
    let c1 = check_ok (eqb (length b2.0.1) 0) (Trailing 25) (Ok (Enter b1.0.0 b2.0.0)) entry b2.2 in
    let all = Takes-then bytes (eight b1.0.0) b1.0.1 (eight b2.0.0) b2.0.1 t1.0 t2.0 in
    subst (λ (y : Entry). AreFields 6 bytes y) (ok_is {E = EntryFault} (Enter b1.0.0 b2.0.0) entry c1.1)
    (record { kind_is = refl; readable = (t1.1, t2.1, t2.2); spelled = whole_is bytes _ b2.0.1 all c1.0 })

pub enter_again : (whole op epoch : ℕ) (rest : List ℕ) → IsReadable (Enter op epoch) → enter_at whole (fields_of (Enter op epoch) ++ rest) ≡ ends rest 25 (Enter op epoch)
unfolding enter_at
enter_again whole op epoch rest fits =
    ap (enter_at whole) (append_assoc (eight op) (eight epoch) rest) ∙
    rw (eight_again whole op (eight epoch ++ rest) fits.0, epoch_again whole 17 epoch rest fits.1 fits.2) refl
