-- The tree at a root, from its top.
use Rattle.std.proofs.Common.{◌≡◌, inl, ℕ, ◌+◌, ◌<◌, ◌≤◌, List, [], ◌∷◌, ◌++◌, suc, Some, None, Bool, true, false, Result, Ok, Err, IfOk, IfErr, OnOk, refl, sym, ap, ◌∙◌, subst, nat_le, length, arith, tests}
use Rattle.std.specs.Int.{to_be_bytes, w64}
use Rattle.std.specs.List.{range_with_len}
use Rattle.hs_asking.specs.Seats.{numbered}
use Rattle.hs_asking.specs.Shown.{Began, Shown, store_now}
use Rattle.hs_limits.specs.declared.address.Address.{Address}
use Rattle.hs_limits.specs.declared.address.Held.{Held}
use Rattle.hs_model.specs.Store.{Store, helds_of}
use Rattle.hs_model.specs.declared.op.Op.TheVariants as op
use Rattle.hs_model.specs.declared.reply.Reply.TheVariants as reply
use Rattle.hs_tree.proofs.CallLemmas.{few_then, last_behind, told_last}
use Rattle.hs_tree.proofs.FetchLemmas.{IsTold, addresses_are, fails_cause, fails_kind, fails_reads, read_never, reads_more}
use Rattle.hs_tree.proofs.OneFileLemmas.{same_block}
use Rattle.hs_tree.proofs.PartReads.{first, is_piece_at, is_run_at, no_row, row_held, told_of, reads_few}
use Rattle.hs_tree.proofs.RowLemmas.{tree_stays, tree_was}
use Rattle.hs_tree.proofs.RowSteps.{keeps_trans}
use Rattle.hs_tree.proofs.RunsLemmas.{height-0, height-1, height-2}
use Rattle.hs_tree.specs.Calls.{AsksWithFew, CallFails, Hears}
use Rattle.hs_tree.specs.Rows.{HoldsPart, HoldsTop, IsRowOf, ReadsRow, ReadsTop, RowIs, RowStops, TopIs, TopStops}
use Rattle.hs_tree.specs.Trees.{IsTreeAt, IsTreeBelow, height, stored_cut}
use Rattle.hs_tree.specs.declared.fault.TreeFault.{TreeFault}
use Rattle.hs_tree.specs.declared.fault.TreeFault.TheVariants as fault

-- ---- what a told top says

module _ (s t : Store) (session : List ℕ) (next : ℕ) (es : List (ℕ × Held)) (held : Held) (content below : List ℕ) (d : IsTold s t session next es held content below) where
  -- one without pointers is a piece
  leaf_at : length below ≡ 0 → (length content ≤ 67108864) × IsTreeAt t held.address content
  leaf_at none =
      let bytes : d.block.stored.bytes ≡ content = d.block.bytes in
      let short : length d.block.stored.bytes ≤ 65536 = (d.seat.sane.blocks held.address d.block.stored d.block.present).bytes in
      let counted : length d.block.stored.bytes ≡ length content = ap (λ z. length z) bytes in
      let fits : length content ≤ 65536 = omega (arith, counted, short) in
      (omega (arith, fits), subst (λ h. IsTreeBelow t h held.address content) (sym (height-0 (length content) fits)) (is_piece_at s t session next es held content below d none))

  above : (h : ℕ) (c : List ℕ) → IsTreeBelow t (suc h) held.address c → content ≡ to_be_bytes w64 (length c)
  unfolding IsTreeBelow
  above h c tree = (same_block t held.address (record { pointers = d.pointers; bytes = content }) (record { pointers = tree.0; bytes = to_be_bytes w64 (length c) }) d.block tree.1).0

  alone : (c : List ℕ) → IsTreeBelow t 0 held.address c → length below ≡ 0
  unfolding IsTreeBelow
  alone c tree =
      let none : d.pointers ≡ [] = (same_block t held.address (record { pointers = d.pointers; bytes = content }) (record { pointers = []; bytes = c }) d.block tree).1 in
      ap (λ z. length z) d.handles ∙ ap (λ (z : List Address). length (range_with_len next (length z))) none

  -- one with pointers has the number of its file's bytes, which are more than a piece's
  number_at : (length below ≡ 0 → ⊥) → (c : List ℕ) → IsTreeAt t held.address c → (65536 < length c) × (content ≡ to_be_bytes w64 (length c))
  number_at some c tree = go (nat_le (length c) 65536) refl (nat_le (length c) 4194304) refl
    where
      go : (p : Bool) → nat_le (length c) 65536 ≡ p → (q : Bool) → nat_le (length c) 4194304 ≡ q → (65536 < length c) × (content ≡ to_be_bytes w64 (length c))
      go true e q k =
          let short : length c ≤ 65536 = grind (arith, tests, e) in
          absurd (some (alone c (subst (λ h. IsTreeBelow t h held.address c) (height-0 (length c) short) tree)))
      go false e true k =
          let long : 65536 < length c = grind (arith, tests, e) in
          let most : length c ≤ 4194304 = grind (arith, tests, k) in
          (long, above 0 c (subst (λ h. IsTreeBelow t h held.address c) (height-1 (length c) long most) tree))
      go false e false k =
          let long : 65536 < length c = grind (arith, tests, e) in
          let more : 4194304 < length c = grind (arith, tests, k) in
          (long, above 1 c (subst (λ h. IsTreeBelow t h held.address c) (height-2 (length c) more) tree))

-- ---- the read of a top

as_part : (b : Began) (s : Store) (session : List ℕ) (next h : ℕ) (x : ℕ × Held) → h ≤ 2 → HoldsTop b s session next x → HoldsPart b s session next h [] x []
as_part b s session next h x few held = record { limit = held.limit; seat = held.seat; few = omega (arith, few) }

module _ {tells : Type 0} (session : List ℕ) (old : Shown tells) (k : ℕ) (going : old.ended ≡ None) where
  pub unread_top : (new : Shown tells) (f : TreeFault) → CallFails old new (op.Read session k) f → TopStops session old new k f
  unread_top new f c =
      let r = fails_reads session old new (op.Read session k) f refl going c in
      record {
        reads = r.0;
        ended = r.1;
        kind = fails_kind old new (op.Read session k) f c;
        last = told_last old new (op.Read session k) f c;
        cause = λ sure b e next x same held. fails_cause old new (op.Read session k) f (read_never session old new sure b e next 0 [] [] x k same (as_part b (store_now b old) session next 0 x (omega arith) held)) c;
      }

module _ {tells : Type 0} (session : List ℕ) (old mid : Shown tells) (k : ℕ) (content below : List ℕ) (hears : Hears old mid (op.Read session k) (reply.Bytes content below)) where
  told_top : tells → (b : Began) → old.began ≡ b → (next : ℕ) (x : ℕ × Held) → x.0 ≡ k → HoldsTop b (store_now b old) session next x → IsTold (store_now b old) (store_now b mid) session next (x ∷ []) x.1 content below
  told_top sure b e next x same held = told_of session old mid 0 k content below hears sure b e next [] [] x same (as_part b (store_now b old) session next 0 x (omega arith) held)

  top_few : tells → (b : Began) → old.began ≡ b → (next : ℕ) (x : ℕ × Held) → x.0 ≡ k → HoldsTop b (store_now b old) session next x → AsksWithFew b session 193 old mid
  top_few sure b e next x same held = reads_few session old mid 0 k content below hears sure b e next [] [] x same (as_part b (store_now b old) session next 0 x (omega arith) held)

  -- a piece alone
  pub reads_leaf : length below ≡ 0 → (out after : List ℕ) → after ≡ out ++ content → ReadsTop session old mid k out after true
  reads_leaf none out after more = record {
    reads = first session old mid 0 k content below hears;
    going = hears.going;
    told = λ sure b e next x same held.
        let s : Store = store_now b old in
        let t : Store = store_now b mid in
        let d = told_top sure b e next x same held in
        let leaf = leaf_at s t session next (x ∷ []) x.1 content below d none in
        record { file = content; given = more; fits = leaf.0; tree = tree_was s t (height stored_cut (length content)) x.1.address content (d.keeps.stays x (inl refl)) leaf.1; keeps = d.keeps };
    few = top_few;
  }

  pub unput : TopStops session old mid k fault.NoMemory
  unput = record { reads = first session old mid 0 k content below hears; ended = hears.going; kind = tt; last = tt; cause = λ sure b e next x same held. tt }

  -- no number of a file's bytes
  module _ (some : length below ≡ 0 → ⊥) where
    pub reads_nothing : (out : List ℕ) → ((n : ℕ) → 65536 < n → n ≤ 67108864 → content ≡ to_be_bytes w64 n → ⊥) → ReadsTop session old mid k out out false
    reads_nothing out never = record {
      reads = first session old mid 0 k content below hears;
      going = hears.going;
      told = λ sure b e next x same held.
          let s : Store = store_now b old in
          let t : Store = store_now b mid in
          let d = told_top sure b e next x same held in
          record {
            none = λ c fits tree.
                let n = number_at s t session next (x ∷ []) x.1 content below d some c (tree_stays s t (height stored_cut (length c)) x.1.address c (d.keeps.stays x (inl refl)) tree) in
                never (length c) n.0 fits n.1;
            keeps = d.keeps;
          };
      few = top_few;
    }

    -- a row below it
    module _ (h n : ℕ) (few : suc h ≤ 2) (level : height stored_cut n ≡ suc h) (fits : n ≤ 67108864) (is : content ≡ to_be_bytes w64 n) (only : (m : ℕ) → m ≤ 67108864 → content ≡ to_be_bytes w64 m → n ≡ m) (new : Shown tells) where
      pub top_stops : (f : TreeFault) → RowStops session mid new h below f → TopStops session old new k f
      top_stops f r = record {
        reads = reads_more session old mid new (first session old mid 0 k content below hears) r.reads;
        ended = r.ended;
        kind = r.kind;
        last = last_behind old mid new (op.Read session k ∷ []) f hears.asked r.last;
        cause = λ sure b e next x same held.
            let d = told_top sure b e next x same held in
            r.cause sure b (hears.began ∙ e) (next + length d.pointers) (x ∷ []) (numbered next (helds_of d.pointers x.1.epoch))
            (row_held session old mid h k n content below [] hears b next [] [] x (as_part b (store_now b old) session next (suc h) x few held) d);
      }

      pub reads_row : (out after : List ℕ) (good : Bool) → ReadsRow session mid new h below n out after good → ReadsTop session old new k out after good
      reads_row out after good r = record {
        reads = reads_more session old mid new (first session old mid 0 k content below hears) r.reads;
        going = r.going;
        told = λ sure b e next x same held.
            let d = told_top sure b e next x same held in
            which b next x held d good
            (r.told sure b (hears.began ∙ e) (next + length d.pointers) (x ∷ []) (numbered next (helds_of d.pointers x.1.epoch))
            (row_held session old mid h k n content below [] hears b next [] [] x (as_part b (store_now b old) session next (suc h) x few held) d));
        few = λ sure b e next x same held.
            let d = told_top sure b e next x same held in
            few_then b session 193 old mid new (top_few sure b e next x same held)
            (r.few sure b (hears.began ∙ e) (next + length d.pointers) (x ∷ []) (numbered next (helds_of d.pointers x.1.epoch))
            (row_held session old mid h k n content below [] hears b next [] [] x (as_part b (store_now b old) session next (suc h) x few held) d));
      }
        where
          which : (b : Began) (next : ℕ) (x : ℕ × Held) → HoldsTop b (store_now b old) session next x → (d : IsTold (store_now b old) (store_now b mid) session next (x ∷ []) x.1 content below) → (good : Bool)
              → RowIs (store_now b mid) (store_now b new) session h (x ∷ []) (numbered next (helds_of d.pointers x.1.epoch)) n out after good → TopIs (store_now b old) (store_now b new) x out after good
          which b next x held d true row =
              let s : Store = store_now b old in
              let t : Store = store_now b mid in
              let u : Store = store_now b new in
              let there = is_run_at s t session next (x ∷ []) x.1 content below d h n row.file is (subst (λ z. IsRowOf t h z n row.file) (addresses_are next x.1.epoch d.pointers) row.is) in
              let long : length row.file ≡ n = there.0 in
              let levels : height stored_cut (length row.file) ≡ suc h = ap (λ z. height stored_cut z) long ∙ level in
              record {
                file = row.file;
                given = row.given;
                fits = omega (arith, long, fits);
                tree = subst (λ z. IsTreeBelow s z x.1.address row.file) (sym levels) (tree_was s t (suc h) x.1.address row.file (d.keeps.stays x (inl refl)) there.1);
                keeps = keeps_trans s t u (x ∷ []) d.keeps row.keeps;
              }
          which b next x held d false row =
              let s : Store = store_now b old in
              let t : Store = store_now b mid in
              let u : Store = store_now b new in
              record {
                none = λ c most tree.
                    let stays = tree_stays s t (height stored_cut (length c)) x.1.address c (d.keeps.stays x (inl refl)) tree in
                    let number = number_at s t session next (x ∷ []) x.1 content below d some c stays in
                    let long : n ≡ length c = only (length c) most number.1 in
                    let positive : 0 < n = let more : 65536 < length c = number.0 in omega (arith, long, more) in
                    no_row s t session next (x ∷ []) x.1 content below d n c positive (sym long) h
                    (λ file q. row.none file (subst (λ z. IsRowOf t h z n file) (sym (addresses_are next x.1.epoch d.pointers)) q))
                    (subst (λ z. IsTreeBelow t z x.1.address c) (ap (λ z. height stored_cut z) (sym long) ∙ level) stays);
                keeps = keeps_trans s t u (x ∷ []) d.keeps row.keeps;
              }

-- ---- the same of results

pub row_ok : (r : Result Bool TreeFault) (P Q : Bool → Type 0) → ((good : Bool) → P good → Q good) → IfOk r P → IfOk r Q
row_ok (Ok good) P Q f h = f good h
row_ok (Err e) P Q f h = tt

pub row_err : {T : Type 0} (r : Result T TreeFault) (P Q : TreeFault → Type 0) → ((e : TreeFault) → P e → Q e) → IfErr r P → IfErr r Q
row_err (Ok x) P Q f h = tt
row_err (Err e) P Q f h = f e h

pub both_ok : {T : Type 0} (r : Result T TreeFault) (P Q R : Type 0) → (P → Q → R) → OnOk r P → OnOk r Q → OnOk r R
both_ok (Ok x) P Q R f h k = f h k
both_ok (Err e) P Q R f h k = tt

pub some_is : (m n : ℕ) → Some m ≡ Some n → m ≡ n
some_is m n e = cc e
