-- What a Block's fields lend: its bytes stand behind the first 16.
use Rattle.std.proofs.Common.{◌≡◌, ◌∙◌, ℕ, ◌≤◌, Bool, true, false, cond, ltb, List, length, take, drop, Result, Ok, Err, is_ok, refl, sym, ap, arith, length-drop}
use Rattle.std.specs.Int.{w64, from_be_bytes}
use Rattle.std.proofs.lemmas.Bool.{ltb-false}
use Rattle.std.proofs.lemmas.List.{drop-drop}
use Rattle.hs_limits.specs.Fields.{◌>>=◌, check, bytes_at, number_at}
use Rattle.hs_limits.specs.Reading.{read_block}
use Rattle.hs_limits.proofs.FieldLemmas.{bind_ok, check_ok, ok_is}
use Rattle.hs_entry.specs.declared.entry.Entry.{Entry}
use Rattle.hs_entry.specs.declared.entry.Entry.TheVariants.{Block}
use Rattle.hs_entry.specs.declared.fault.EntryFault.{EntryFault}
use Rattle.hs_entry.specs.declared.fault.EntryFault.TheVariants.{Short, BadField}
use Rattle.hs_entry.specs.Reading.{is_epoch, epoch_at, block_at}

-- so many bytes are there, and the rest stands behind them
record Lends (n : ℕ) (bytes rest : List ℕ) : Type 0 where
  pub there : n ≤ length bytes
  pub behind : rest ≡ drop n bytes

bytes_lent : {E : Type 0} (short : E) (n : ℕ) (bytes : List ℕ) (x : List ℕ × List ℕ) → bytes_at short n bytes ≡ Ok x → Lends n bytes x.1
bytes_lent {E} short n bytes x e = go (ltb (length bytes) n) refl e
  where
    go : (b : Bool) → ltb (length bytes) n ≡ b → cond b (Err short) (Ok (take n bytes, drop n bytes)) ≡ Ok x → Lends n bytes x.1
    go true is fails = absurd cc
    go false is gave = record { there = ltb-false _ _ is; behind = ap (λ (y : List ℕ × List ℕ). y.1) (sym (ok_is {E = E} (take n bytes, drop n bytes) x gave)) }

eight_lent : (whole : ℕ) (bytes : List ℕ) (x : ℕ × List ℕ) → number_at (Short whole) w64 bytes ≡ Ok x → Lends 8 bytes x.1
eight_lent whole bytes x e =
    let b = bind_ok (bytes_at (Short whole) 8 bytes) (λ field. Ok (from_be_bytes w64 field.0, field.1)) x e in
    let l = bytes_lent (Short whole) 8 bytes b.0 b.1 in
    record { there = l.there; behind = ap (λ (y : ℕ × List ℕ). y.1) (sym (ok_is {E = EntryFault} (from_be_bytes w64 b.0.0, b.0.1) x b.2)) ∙ l.behind }

epoch_lent : (whole at : ℕ) (bytes : List ℕ) (x : ℕ × List ℕ) → epoch_at whole at bytes ≡ Ok x → Lends 8 bytes x.1
unfolding epoch_at
epoch_lent whole at bytes x e =
    let b = bind_ok (number_at (Short whole) w64 bytes) (λ number. check (is_epoch number.0) (BadField at) >>= λ _. Ok number) x e in
    let c = check_ok (is_epoch b.0.0) (BadField at) (Ok b.0) x b.2 in
    let l = eight_lent whole bytes b.0 b.1 in
    record { there = l.there; behind = ap (λ (y : ℕ × List ℕ). y.1) (sym (ok_is {E = EntryFault} b.0 x c.1)) ∙ l.behind }

behind_least : ℕ → ℕ × List ℕ → Result Entry EntryFault
behind_least op least = check (is_ok (read_block least.1)) (BadField 25) >>= λ _. Ok (Block op least.0 least.1)

spelling_of : Entry → List ℕ → List ℕ
spelling_of (Block op least bytes) other = bytes
spelling_of entry other = other

pub block_lent : (whole op least : ℕ) (bytes rest : List ℕ) → block_at whole bytes ≡ Ok (Block op least rest) → (16 ≤ length bytes) × (rest ≡ drop 16 bytes)
unfolding block_at behind_least spelling_of
block_lent whole op least bytes rest e =
    let entry : Entry = Block op least rest in
    let b1 = bind_ok (number_at (Short whole) w64 bytes) (λ op. epoch_at whole 17 op.1 >>= behind_least op.0) entry e in
    let one = eight_lent whole bytes b1.0 b1.1 in
    let b2 = bind_ok (epoch_at whole 17 b1.0.1) (behind_least b1.0.0) entry b1.2 in
    let two = epoch_lent whole 17 b1.0.1 b2.0 b2.1 in
    let c = check_ok (is_ok (read_block b2.0.1)) (BadField 25) (Ok (Block b1.0.0 b2.0.0 b2.0.1)) entry b2.2 in
    let last : b2.0.1 ≡ rest = ap (λ (y : Entry). spelling_of y rest) (ok_is {E = EntryFault} (Block b1.0.0 b2.0.0 b2.0.1) entry c.1) in
    let left : length b1.0.1 ≡ length (drop 8 bytes) = ap (λ (l : List ℕ). length l) one.behind in (
      omega (arith, one.there, two.there, left, length-drop 8 bytes),
      sym last ∙ two.behind ∙ ap (λ (l : List ℕ). drop 8 l) one.behind ∙ drop-drop 8 8 bytes,
    )
