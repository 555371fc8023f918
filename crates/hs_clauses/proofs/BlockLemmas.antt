-- What is read has addresses of 32 bytes: the pointers of a block, and what an entry brings. No entry that is read is of an epoch past the last.
use Rattle.std.proofs.Common.{◌≡◌, ap, subst, ℕ, zero, suc, ◌+◌, ◌*◌, ◌-◌, ◌^◌, ◌<◌, ◌≤◌, Bool, true, false, cond, eqb, leb, ltb, List, length, take, drop, None, Result, is_ok, Ok, Err, refl, arith}
use Rattle.std.proofs.lemmas.Bool.{and_parts, ltb-false, ltb-true}
use Rattle.std.proofs.lemmas.List.{length-drop, length-take}
use Rattle.std.specs.Int.{w16, w32, w64}
use Rattle.std.specs.List.{AllByRecursion}
use Rattle.hs_entry.specs.declared.entry.Entry.{Entry}
use Rattle.hs_entry.specs.declared.entry.Entry.TheVariants as kind
use Rattle.hs_entry.specs.declared.fault.EntryFault.{EntryFault}
use Rattle.hs_entry.specs.declared.fault.EntryFault.TheVariants as faults
use Rattle.hs_entry.specs.Reading.{is_kind, is_epoch, epoch_at, key_at, deltas_at, view_at, block_at, mark_at, root_at, drop_at, enter_at, got_at, fields_at, entry_at}
use Rattle.hs_standing.proofs.CatalogueLemmas.{Brings}
use Rattle.hs_standing.specs.Held.{GivesAddresses, Has32Bytes}
use Rattle.hs_limits.proofs.FieldLemmas.{bind_ok, check_ok, ok_is}
use Rattle.hs_limits.specs.Block.{Block}
use Rattle.hs_limits.specs.declared.address.Address.{Address}
use Rattle.hs_limits.specs.declared.limits.TheConstants.{LAST_EPOCH}
use Rattle.hs_limits.specs.declared.spelling.SpellingFault.{SpellingFault}
use Rattle.hs_limits.specs.declared.spelling.SpellingFault.TheVariants as spelling
use Rattle.hs_limits.specs.Fields.{◌>>=◌, check, byte_at, bytes_at, number_at}
use Rattle.hs_limits.specs.Reading.{addresses, read_block}
use Rattle.hs_limits.specs.Reading.{block_at as block_in}
use Rattle.hs_memory.specs.Forget.{named}

abbrev given : ℕ × Entry → Result (ℕ × Entry) EntryFault
given x = Ok x

-- so many bytes are so many
bytes_long : {E : Type 0} (short : E) (n : ℕ) (bytes : List ℕ) (x : List ℕ × List ℕ) → bytes_at short n bytes ≡ Ok x → length x.0 ≡ n
bytes_long {E} short n bytes x e =
    let taken : (b : Bool) → ltb (length bytes) n ≡ b → cond b (Err short) (Ok (take n bytes, drop n bytes)) ≡ Ok x → length x.0 ≡ n =
    λ b. elim b as (λ v. ltb (length bytes) n ≡ v → cond v (Err short) (Ok (take n bytes, drop n bytes)) ≡ Ok x → length x.0 ≡ n) [
      | true ↦ λ is fails. absurd (cc)
      | false ↦ λ is gave.
          let long : n ≤ length bytes = ltb-false _ _ is in
          subst (λ (y : List ℕ × List ℕ). length y.0 ≡ n) (ok_is {E = E} (take n bytes, drop n bytes) x gave) (omega (arith, length-take n bytes))
    ] in
    taken (ltb (length bytes) n) refl e

-- ---- a block

whole_ones : (n : ℕ) (bytes : List ℕ) → length bytes ≡ 32 * n → AllByRecursion Has32Bytes (addresses n bytes)
unfolding addresses
whole_ones zero bytes long = tt
whole_ones (suc n) bytes long = (omega (arith, long, length-take 32 bytes), whole_ones n (drop 32 bytes) (omega (arith, long, length-drop 32 bytes)))

-- where a block is read, its pointers are such addresses
record IsPointed (read : Result (Block × List ℕ) SpellingFault) : Type 0 where
  points : (x : Block × List ℕ) → read ≡ Ok x → AllByRecursion Has32Bytes x.0.pointers

block_behind : {A : Type 0} (read : Result A SpellingFault) (f : A → Result (Block × List ℕ) SpellingFault) → ((x : A) → read ≡ Ok x → IsPointed (f x)) → IsPointed (read >>= f)
block_behind read f h = record { points = λ x e. let b = bind_ok read f x e in (h b.0 b.1).points x b.2 }

block_gives : (x : Block × List ℕ) → AllByRecursion Has32Bytes x.0.pointers → IsPointed (Ok x)
block_gives x own = record { points = λ other e. subst (λ (y : Block × List ℕ). AllByRecursion Has32Bytes y.0.pointers) (ok_is {E = SpellingFault} x other e) own }

block_points : (whole : ℕ) (bytes : List ℕ) → IsPointed (block_in whole bytes)
unfolding block_in
block_points whole bytes =
    block_behind (byte_at (spelling.Short whole) bytes) _ (λ version v.
    block_behind (check (eqb version.0 1) (spelling.BadVersion version.0)) _ (λ known k.
    block_behind (number_at (spelling.Short whole) w16 version.1) _ (λ count c.
    block_behind (check (leb count.0 64) (spelling.TooMany count.0)) _ (λ few f.
    block_behind (bytes_at (spelling.Short whole) (32 * count.0) count.1) _ (λ pointers p.
    block_behind (number_at (spelling.Short whole) w32 pointers.1) _ (λ len l.
    block_behind (check (leb len.0 65536) (spelling.TooLong len.0)) _ (λ small s.
    block_behind (bytes_at (spelling.Short whole) len.0 len.1) _ (λ content t.
    block_gives (record { pointers = addresses count.0 pointers.0; bytes = content.0 }, content.1) (whole_ones count.0 pointers.0 (bytes_long (spelling.Short whole) (32 * count.0) count.1 pointers p))))))))))

pub read_points : (bytes : List ℕ) (block : Block) → read_block bytes ≡ Ok block → AllByRecursion Has32Bytes block.pointers
unfolding read_block
read_points bytes block e =
    let b = bind_ok (block_in (length bytes) bytes) (λ x. check (eqb (length x.1) 0) (spelling.Trailing (length bytes - length x.1)) >>= λ _. Ok x.0) block e in
    let c = check_ok (eqb (length b.0.1) 0) (spelling.Trailing (length bytes - length b.0.1)) (Ok b.0.0) block b.2 in
    subst (λ (y : Block). AllByRecursion Has32Bytes y.pointers) (ok_is {E = SpellingFault} b.0.0 block c.1) ((block_points (length bytes) bytes).points b.0 b.1)

-- ---- an entry

-- the address of a Root is such a one, and the epochs of an Enter and of a Got are not past the last
abbrev pub HasFields : Entry → Type 0
HasFields (kind.View view) = Unit {0}
HasFields (kind.Block line least bytes) = Unit {0}
HasFields (kind.Mark line least block a) = Unit {0}
HasFields (kind.Root line held a key) = Has32Bytes a
HasFields (kind.Drop line key) = Unit {0}
HasFields (kind.Enter line epoch) = epoch ≤ LAST_EPOCH
HasFields (kind.Got from epoch round total deltas) = epoch ≤ LAST_EPOCH
HasFields (kind.Base view epoch swept round frames) = Unit {0}
HasFields (kind.KeptBlock born mark flags count bytes) = Unit {0}
HasFields (kind.KeptRoot created dropped counted address key) = Unit {0}
HasFields (kind.KeptRound way other epoch round total deltas) = Unit {0}

record ReadsFields (read : Result Entry EntryFault) : Type 0 where
  has : (entry : Entry) → read ≡ Ok entry → HasFields entry

behind : {A : Type 0} (read : Result A EntryFault) (f : A → Result Entry EntryFault) → ((x : A) → read ≡ Ok x → ReadsFields (f x)) → ReadsFields (read >>= f)
behind read f h = record { has = λ entry e. let b = bind_ok read f entry e in (h b.0 b.1).has entry b.2 }

gives : (entry : Entry) → HasFields entry → ReadsFields (Ok entry)
gives entry own = record { has = λ other e. subst (λ (x : Entry). HasFields x) (ok_is {E = EntryFault} entry other e) own }

stops : (fault : EntryFault) → ReadsFields (Err fault)
stops fault = record { has = λ entry e. absurd cc }

either : (b : Bool) (x y : Result Entry EntryFault) → ReadsFields x → ReadsFields y → ReadsFields (cond b x y)
either true x y one other = one
either false x y one other = other

-- an epoch that is read
epoch_low : (whole at : ℕ) (bytes : List ℕ) (x : ℕ × List ℕ) → epoch_at whole at bytes ≡ Ok x → x.0 ≤ LAST_EPOCH
unfolding epoch_at
epoch_low whole at bytes x e =
    let b = bind_ok (number_at (faults.Short whole) w64 bytes) (λ number. check (is_epoch number.0) (faults.BadField at) >>= λ _. Ok number) x e in
    let c = check_ok (is_epoch b.0.0) (faults.BadField at) (Ok b.0) x b.2 in
    let high : ltb b.0.0 (2 ^ 48) ≡ true = (and_parts (leb 1 b.0.0) (ltb b.0.0 (2 ^ 48)) c.0).1 in
    let low : b.0.0 < 2 ^ 48 = ltb-true _ _ high in
    let same : b.0.0 ≡ x.0 = ap (λ (y : ℕ × List ℕ). y.0) (ok_is {E = EntryFault} b.0 x c.1) in
    omega (arith, low, same)

view_has : (whole : ℕ) (bytes : List ℕ) → ReadsFields (view_at whole bytes)
unfolding view_at
view_has whole bytes =
    behind (number_at (faults.Short whole) w64 bytes) _ (λ view v. behind (check (leb 1 view.0) (faults.BadField 9)) _ (λ valid l. behind (check (eqb (length view.1) 0) (faults.Trailing 17)) _ (λ ended n. gives (kind.View view.0) tt)))

block_has : (whole : ℕ) (bytes : List ℕ) → ReadsFields (block_at whole bytes)
unfolding block_at
block_has whole bytes =
    behind (number_at (faults.Short whole) w64 bytes) _ (λ op o. behind (epoch_at whole 17 op.1) _ (λ least l. behind (check (is_ok (read_block least.1)) (faults.BadField 25)) _ (λ spelled s. gives (kind.Block op.0 least.0 least.1) tt)))

mark_has : (whole : ℕ) (bytes : List ℕ) → ReadsFields (mark_at whole bytes)
unfolding mark_at
mark_has whole bytes =
    behind (number_at (faults.Short whole) w64 bytes) _ (λ op o. behind (epoch_at whole 17 op.1) _ (λ least l. behind (number_at (faults.Short whole) w64 least.1) _ (λ block b. behind (bytes_at (faults.Short whole) 32 block.1) _ (λ address a.
    behind (check (eqb (length address.1) 0) (faults.Trailing 65)) _ (λ ended n. gives (kind.Mark op.0 least.0 block.0 (record { 0 = address.0 })) tt)))))

root_has : (whole : ℕ) (bytes : List ℕ) → ReadsFields (root_at whole bytes)
unfolding root_at
root_has whole bytes =
    behind (number_at (faults.Short whole) w64 bytes) _ (λ op o. behind (epoch_at whole 17 op.1) _ (λ held h. behind (bytes_at (faults.Short whole) 32 held.1) _ (λ address a. behind (key_at whole 57 address.1) _ (λ key k.
    behind (check (eqb (length key.1) 0) (faults.Trailing (58 + length key.0))) _ (λ ended n. gives (kind.Root op.0 held.0 (record { 0 = address.0 }) key.0) (bytes_long (faults.Short whole) 32 held.1 address a))))))

drop_has : (whole : ℕ) (bytes : List ℕ) → ReadsFields (drop_at whole bytes)
unfolding drop_at
drop_has whole bytes =
    behind (number_at (faults.Short whole) w64 bytes) _ (λ op o. behind (key_at whole 17 op.1) _ (λ key k. behind (check (eqb (length key.1) 0) (faults.Trailing (18 + length key.0))) _ (λ ended n. gives (kind.Drop op.0 key.0) tt)))

enter_has : (whole : ℕ) (bytes : List ℕ) → ReadsFields (enter_at whole bytes)
unfolding enter_at
enter_has whole bytes =
    behind (number_at (faults.Short whole) w64 bytes) _ (λ op o. behind (epoch_at whole 17 op.1) _ (λ epoch p. behind (check (eqb (length epoch.1) 0) (faults.Trailing 25)) _ (λ ended n. gives (kind.Enter op.0 epoch.0) (epoch_low whole 17 op.1 epoch p))))

got_has : (whole : ℕ) (bytes : List ℕ) → ReadsFields (got_at whole bytes)
unfolding got_at
got_has whole bytes =
    behind (byte_at (faults.Short whole) bytes) _ (λ sender s. behind (epoch_at whole 10 sender.1) _ (λ epoch p. behind (number_at (faults.Short whole) w32 epoch.1) _ (λ round r. behind (number_at (faults.Short whole) w32 round.1) _ (λ total t.
    behind (number_at (faults.Short whole) w32 total.1) _ (λ count c. behind (check (leb count.0 16665) (faults.BadField 26)) _ (λ few f. behind (deltas_at whole 30 count.0 None count.1) _ (λ deltas d.
    behind (check (eqb (length deltas.1) 0) (faults.Trailing (30 + 36 * count.0))) _ (λ ended n. gives (kind.Got sender.0 epoch.0 round.0 total.0 deltas.0) (epoch_low whole 10 sender.1 epoch p)))))))))

fields_have : (of whole : ℕ) (bytes : List ℕ) → ReadsFields (fields_at of whole bytes)
unfolding fields_at
fields_have of whole bytes =
    either (eqb of 1) _ _ (view_has whole bytes)
    (either (eqb of 2) _ _ (block_has whole bytes)
    (either (eqb of 3) _ _ (mark_has whole bytes)
    (either (eqb of 4) _ _ (root_has whole bytes)
    (either (eqb of 5) _ _ (drop_has whole bytes)
    (either (eqb of 6) _ _ (enter_has whole bytes)
    (either (eqb of 7) _ _ (got_has whole bytes) (stops _)))))))

same_fields : (x y : ℕ × Entry) → given x ≡ given y → HasFields x.1 → HasFields y.1
same_fields x y e own = subst (λ (z : ℕ × Entry). HasFields z.1) (ok_is {E = EntryFault} x y e) own

pub has_fields : (bytes : List ℕ) (number : ℕ) (entry : Entry) → entry_at bytes ≡ Ok (number, entry) → HasFields entry
unfolding entry_at
has_fields bytes number entry e =
    let whole : ℕ = length bytes in
    let b1 = bind_ok (byte_at (faults.Short whole) bytes) (λ kind. check (is_kind kind.0) (faults.BadKind kind.0) >>= λ _. number_at (faults.Short whole) w64 kind.1 >>= λ number. fields_at kind.0 whole number.1 >>= λ entry. Ok (number.0, entry)) (number, entry) e in
    let c1 = check_ok (is_kind b1.0.0) (faults.BadKind b1.0.0) (number_at (faults.Short whole) w64 b1.0.1 >>= λ number. fields_at b1.0.0 whole number.1 >>= λ entry. Ok (number.0, entry)) (number, entry) b1.2 in
    let b2 = bind_ok (number_at (faults.Short whole) w64 b1.0.1) (λ number. fields_at b1.0.0 whole number.1 >>= λ entry. Ok (number.0, entry)) (number, entry) c1.1 in
    let b3 = bind_ok (fields_at b1.0.0 whole b2.0.1) (λ entry. Ok (b2.0.0, entry)) (number, entry) b2.2 in
    same_fields (b2.0.0, b3.0) (number, entry) b3.2 ((fields_have b1.0.0 whole b2.0.1).has b3.0 b3.1)

-- ---- what is read

-- an entry is of no epoch past the last
abbrev pub IsLow : Entry → Type 0
IsLow entry = (line epoch : ℕ) → entry ≡ kind.Enter line epoch → epoch ≤ LAST_EPOCH

pub entry_low : (bytes : List ℕ) (number : ℕ) (entry : Entry) → entry_at bytes ≡ Ok (number, entry) → IsLow entry
entry_low bytes number entry e line epoch is = subst (λ (x : Entry). HasFields x) is (has_fields bytes number entry e)

-- what an entry that is read brings, where names are such addresses
pub entry_brings : (name : List ℕ → Address) → GivesAddresses name → (bytes : List ℕ) (number : ℕ) (entry : Entry) → entry_at bytes ≡ Ok (number, entry) → Brings (named name entry) entry
entry_brings name names bytes number entry e = go entry (has_fields bytes number entry e)
  where
    go : (x : Entry) → HasFields x → Brings (named name x) x
    go (kind.View view) own = tt
    go (kind.Block line least spelled) own = (names spelled, λ block read. read_points spelled block read)
    go (kind.Mark line least block a) own = tt
    go (kind.Root line held a key) own = own
    go (kind.Drop line key) own = tt
    go (kind.Enter line epoch) own = tt
    go (kind.Got from epoch round total deltas) own = tt
    go (kind.Base view epoch swept round frames) own = tt
    go (kind.KeptBlock born mark flags count spelled) own = tt
    go (kind.KeptRoot created dropped counted address key) own = tt
    go (kind.KeptRound way other epoch round total deltas) own = tt
