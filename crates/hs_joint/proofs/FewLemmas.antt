-- No block of a catalogue has more pointers than a block takes, whatever its list holds.
use Rattle.std.proofs.Common.{◌≡◌, inl, inr, ℕ, zero, suc, ◌≤◌, ◌*◌, ◌-◌, ◌+◌, ◌==◌, eqb, leb, Bool, true, false, cond, ◌&&◌, not, List, length, map, filter, Option, Some, None, is_none, Result, Ok, Err, refl, sym, ap, subst, arith}
use Rattle.std.proofs.lemmas.Bool.{leb-true}
use Rattle.std.specs.BTreeMap.{insert_entry, is_at}
use Rattle.std.specs.Int.{w16, w32}
use Rattle.std.specs.Option.{option_map}
use Rattle.hs_limits.specs.declared.address.Address.{Address}
use Rattle.hs_limits.specs.declared.spelling.SpellingFault.{SpellingFault}
use Rattle.hs_limits.specs.declared.spelling.SpellingFault.TheVariants.{Short, BadVersion, TooMany, TooLong, Trailing}
use Rattle.hs_limits.specs.Block.{Block}
use Rattle.hs_limits.specs.Fields.{◌>>=◌, check, byte_at, bytes_at, number_at}
use Rattle.hs_limits.specs.Reading.{addresses, block_at, read_block}
use Rattle.hs_limits.specs.Shape.{shard_of_key}
use Rattle.hs_limits.proofs.FieldLemmas.{bind_ok, check_ok, ok_is}
use Rattle.hs_limits.proofs.ReadingLemmas.{length-addresses}
use Rattle.hs_model.specs.Store.{address_cmp}
use Rattle.hs_model.proofs.Members.{Member, member_of_map, member_of_filter}
use Rattle.hs_laws.proofs.InsertLemmas.{insert-value, set-value}
use Rattle.hs_laws.proofs.SweepLemmas.{member_from_found}
use Rattle.hs_entry.specs.declared.entry.Entry.{Entry}
use Rattle.hs_entry.specs.declared.entry.Entry.TheVariants as kind
use Rattle.hs_rounds.specs.declared.body.RoundBody.{RoundBody}
use Rattle.hs_rounds.specs.declared.place.Place.{Place}
use Rattle.hs_fold.specs.Catalogue.{Present, Shard, fresh_present}
use Rattle.hs_fold.specs.Shards.Catalogue.{is_stored, is_marked, is_rooted, retained_in}
use Rattle.hs_fold.specs.Runs.Catalogue.{apply}
use Rattle.hs_fold.specs.Runs.Clients.{store_block, new_facts, marked, remark, give_block, insert_root, new_root, keep_root, drop_key, end_retention}
use Rattle.hs_fold.specs.Runs.Facts.{Facts, Catalogue, plain, facts_at}
use Rattle.hs_fold.specs.Runs.Rounds.{count_block, enter_epoch, is_accepted, is_complete, is_last, moved_by, open_deltas, settled, find_zero, search, is_gone, spare, sweep, end_round, advance, advanced, log_got, get_round, may_enter}
use Rattle.hs_fold.specs.Runs.Rounds.{enter as enter_here}
use Rattle.hs_fold.proofs.Runs.StepLemmas.{counted-present, zero-present, spared-present}

-- ---- what is read

abbrev AtBlock : Type 0
AtBlock = Result (Block × List ℕ) SpellingFault

abbrev behind_content : ℕ → List ℕ → List ℕ × List ℕ → AtBlock
behind_content count pointers content = Ok (record { pointers = addresses count pointers; bytes = content.0 }, content.1)

abbrev behind_len : ℕ → ℕ → List ℕ → ℕ × List ℕ → AtBlock
behind_len whole count pointers len = check (leb len.0 65536) (TooLong len.0) >>= λ _. bytes_at (Short whole) len.0 len.1 >>= behind_content count pointers

abbrev behind_pointers : ℕ → ℕ → List ℕ × List ℕ → AtBlock
behind_pointers whole count pointers = number_at (Short whole) w32 pointers.1 >>= behind_len whole count pointers.0

abbrev behind_count : ℕ → ℕ × List ℕ → AtBlock
behind_count whole count = check (leb count.0 64) (TooMany count.0) >>= λ _. bytes_at (Short whole) (32 * count.0) count.1 >>= behind_pointers whole count.0

abbrev behind_version : ℕ → ℕ × List ℕ → AtBlock
behind_version whole version = check (eqb version.0 1) (BadVersion version.0) >>= λ _. number_at (Short whole) w16 version.1 >>= behind_count whole

few_at : (whole : ℕ) (bytes : List ℕ) (x : Block × List ℕ) → block_at whole bytes ≡ Ok x → length x.0.pointers ≤ 64
unfolding block_at
few_at whole bytes x e =
    let b1 = bind_ok (byte_at (Short whole) bytes) (behind_version whole) x e in
    let c1 = check_ok (eqb b1.0.0 1) (BadVersion b1.0.0) (number_at (Short whole) w16 b1.0.1 >>= behind_count whole) x b1.2 in
    let b2 = bind_ok (number_at (Short whole) w16 b1.0.1) (behind_count whole) x c1.1 in
    let c2 = check_ok (leb b2.0.0 64) (TooMany b2.0.0) (bytes_at (Short whole) (32 * b2.0.0) b2.0.1 >>= behind_pointers whole b2.0.0) x b2.2 in
    let b3 = bind_ok (bytes_at (Short whole) (32 * b2.0.0) b2.0.1) (behind_pointers whole b2.0.0) x c2.1 in
    let b4 = bind_ok (number_at (Short whole) w32 b3.0.1) (behind_len whole b2.0.0 b3.0.0) x b3.2 in
    let c4 = check_ok (leb b4.0.0 65536) (TooLong b4.0.0) (bytes_at (Short whole) b4.0.0 b4.0.1 >>= behind_content b2.0.0 b3.0.0) x b4.2 in
    let b5 = bind_ok (bytes_at (Short whole) b4.0.0 b4.0.1) (behind_content b2.0.0 b3.0.0) x c4.1 in
    let block : Block = record { pointers = addresses b2.0.0 b3.0.0; bytes = b5.0.0 } in
    let made : block ≡ x.0 = ap (λ (y : Block × List ℕ). y.0) (ok_is {E = SpellingFault} (block, b5.0.1) x b5.2) in
    let low : length (addresses b2.0.0 b3.0.0) ≤ 64 = omega (arith, length-addresses b2.0.0 b3.0.0, leb-true b2.0.0 64 c2.0) in
    subst (λ (y : Block). length y.pointers ≤ 64) made low

few_read : (bytes : List ℕ) (block : Block) → read_block bytes ≡ Ok block → length block.pointers ≤ 64
unfolding read_block
few_read bytes block e =
    let b = bind_ok (block_at (length bytes) bytes) (λ x. check (eqb (length x.1) 0) (Trailing (length bytes - length x.1)) >>= λ _. Ok x.0) block e in
    let c = check_ok (eqb (length b.0.1) 0) (Trailing (length bytes - length b.0.1)) (Ok b.0.0) block b.2 in
    let same : b.0.0 ≡ block = ok_is {E = SpellingFault} b.0.0 block c.1 in
    subst (λ (y : Block). length y.pointers ≤ 64) same (few_at (length bytes) bytes b.0 b.1)

-- ---- what is kept

abbrev pub HasFew : Address × Facts → Type 0
HasFew e = length e.1.present.stored.pointers ≤ 64

abbrev pub HaveFew : Catalogue → Type 0
HaveFew c = (e : Address × Facts) → Member e c.blocks → length e.1.present.stored.pointers ≤ 64

pub few_each : (f : Address × Facts → Address × Facts) → ((e : Address × Facts) → (f e).1.present ≡ e.1.present) → (es : List (Address × Facts)) → ((e : Address × Facts) → Member e es → HasFew e) → (e : Address × Facts) → Member e (map f es) → HasFew e
few_each f same es h e m =
    let o = member_of_map f e es m in
    subst (λ (x : Address × Facts). HasFew x) (sym o.2) (subst (λ (p : Present). length p.stored.pointers ≤ 64) (sym (same o.0)) (h o.0 o.1))

few_store : (at : Shard) (c : Catalogue) (number least : ℕ) (a : Address) (read : Result Block SpellingFault) → ((block : Block) → read ≡ Ok block → length block.pointers ≤ 64) → HaveFew c → HaveFew (store_block at c number least a read)
few_store at c number least a (Err fault) r h = h
few_store at c number least a (Ok block) r h = go (is_stored at (plain c) least a)
  where
    go : (b : Bool) → HaveFew (cond b (record c { blocks = insert_entry address_cmp c.blocks a (new_facts (fresh_present c.epoch number block)) }) c)
    go true = λ e m. elim (insert-value address_cmp c.blocks a (new_facts (fresh_present c.epoch number block)) e m) [
      | inl same ↦ subst (λ (f : Facts). length f.present.stored.pointers ≤ 64) (sym same) (r block refl)
      | inr k ↦ h e k
    ]
    go false = h

few_give : (c : Catalogue) (least number : ℕ) (a : Address) → HaveFew c → HaveFew (give_block c least number a)
few_give c least number a h = go (facts_at c a) refl (is_marked (plain c) least number (option_map (λ f. f.present) (facts_at c a)))
  where
    given : (found : Option Facts) → facts_at c a ≡ found → HaveFew (record c { blocks = marked c.epoch found c.blocks a })
    given None e = h
    given (Some f) e = λ x m. elim (set-value (is_at (address_cmp a)) c.blocks (remark c.epoch f) x m) [
      | inl same ↦ subst (λ (y : Facts). length y.present.stored.pointers ≤ 64) (sym same) (h (a, f) (member_from_found c.blocks a f e))
      | inr k ↦ h x k
    ]

    go : (found : Option Facts) → facts_at c a ≡ found → (b : Bool) → HaveFew (cond b (record c { blocks = marked c.epoch (facts_at c a) c.blocks a }) c)
    go found e true = given (facts_at c a) refl
    go found e false = h

few_root : (at : Shard) (c : Catalogue) (held : ℕ) (a : Address) (key : List ℕ) → HaveFew c → HaveFew (keep_root at c held a key)
few_root at c held a key h = go (is_rooted at (plain c) held a key && is_none (retained_in (plain c) key))
  where
    go : (b : Bool) → HaveFew (cond b (record c { roots = insert_root (new_root c.epoch a key) c.roots }) c)
    go true = h
    go false = h

few_drop : (at : Shard) (c : Catalogue) (key : List ℕ) → HaveFew c → HaveFew (drop_key at c key)
few_drop at c key h = go (shard_of_key at.shards key == at.shard)
  where
    go : (b : Bool) → HaveFew (cond b (record c { roots = map (end_retention key c.epoch) c.roots }) c)
    go true = h
    go false = h

-- ---- rounds

few_settled : (n : ℕ) (c : Catalogue) → HaveFew c → HaveFew (settled n c)
few_settled n c h = few_each (λ e. (e.0, record e.1 { count = moved_by c.round e.0 (open_deltas n c) e.1.count })) (λ e. refl) c.blocks h

pub few_end : (n : ℕ) (c : Catalogue) → HaveFew c → HaveFew (end_round n c)
few_end n c h = go (is_last n c)
  where
    low : HaveFew (settled n c)
    low = few_settled n c h

    go : (b : Bool) → HaveFew (cond b (sweep (settled n c)) (search n (settled n c)))
    go true = few_each (λ e. (e.0, spare e.1)) (λ e. spared-present e.1) (filter (λ e. not (is_gone c.epoch e.1)) (settled n c).blocks) (λ e m. low e (member_of_filter (λ e. not (is_gone c.epoch e.1)) e (settled n c).blocks m).0)
    go false = few_each (λ e. (e.0, find_zero c.epoch e.1)) (λ e. zero-present c.epoch e.1) (settled n c).blocks low

few_advance : (n turns : ℕ) (c : Catalogue) → HaveFew c → HaveFew (advance n turns c)
few_advance n zero c h = h
few_advance n (suc turns) c h = go (is_complete n c) (few_advance n turns (end_round n c) (few_end n c h))
  where
    go : (b : Bool) → HaveFew (advance n turns (end_round n c)) → HaveFew (cond b (advance n turns (end_round n c)) c)
    go true k = k
    go false k = h

few_got : (n : ℕ) (place : Place) (told : RoundBody) (c : Catalogue) → HaveFew c → HaveFew (get_round n place told c)
few_got n place told c h = go (is_accepted n c place)
  where
    go : (b : Bool) → HaveFew (cond b (advanced n (log_got place told c)) c)
    go true = few_advance n (length (log_got place told c).got + 1) (log_got place told c) h
    go false = h

few_enter : (n epoch : ℕ) (c : Catalogue) → HaveFew c → HaveFew (enter_here n epoch c)
few_enter n epoch c h = go (may_enter c epoch)
  where
    go : (b : Bool) → HaveFew (cond b (advanced n (enter_epoch n c)) c)
    go true = few_advance n (length (enter_epoch n c).got + 1) (enter_epoch n c) (few_each (λ e. (e.0, count_block (c.epoch + 1) e.1)) (λ e. counted-present (c.epoch + 1) e.1) c.blocks h)
    go false = h

-- ---- any entry

pub few_apply : (at : Shard) (c : Catalogue) (number : ℕ) (entry : Entry) → HaveFew c → HaveFew (apply at c (number, entry))
few_apply at c number (kind.View view) h = h
few_apply at c number (kind.Block op least bytes) h = few_store at c number least (at.name bytes) (read_block bytes) (few_read bytes) h
few_apply at c number (kind.Mark op least block a) h = few_give c least block a h
few_apply at c number (kind.Root op held a key) h = few_root at c held a key h
few_apply at c number (kind.Drop op key) h = few_drop at c key h
few_apply at c number (kind.Enter op epoch) h = few_enter at.shards epoch c h
few_apply at c number (kind.Got sender epoch round total deltas) h = few_got at.shards (record { epoch = epoch; round = round; from = sender }) (record { total = total; deltas = deltas }) c h
few_apply at c number (kind.Base view epoch swept round frames) h = h
few_apply at c number (kind.KeptBlock born mark flags count bytes) h = h
few_apply at c number (kind.KeptRoot created dropped counted address key) h = h
few_apply at c number (kind.KeptRound way other epoch round total deltas) h = h
