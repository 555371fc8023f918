-- A piece that is read, or a run of them, and then forgotten.
use Rattle.std.proofs.Common.{◌≡◌, ℕ, ◌+◌, ◌*◌, ◌<◌, ◌≤◌, List, [], ◌∷◌, ◌++◌, suc, None, true, false, refl, sym, ap, ◌∙◌, subst, length, arith, append-nil, length-append}
use Rattle.std.specs.Int.{to_be_bytes, w64}
use Rattle.std.specs.List.{AllZip, range_with_len}
use Rattle.hs_asking.specs.Seats.{HasSeat, numbered}
use Rattle.hs_asking.specs.Shown.{Began, Shown, store_now}
use Rattle.hs_laws.specs.Written.{IsBlockAt}
use Rattle.hs_limits.specs.declared.address.Address.{Address}
use Rattle.hs_limits.specs.declared.address.Held.{Held}
use Rattle.hs_model.specs.Store.{Store, helds_of}
use Rattle.hs_model.specs.declared.op.Op.TheVariants as op
use Rattle.hs_model.specs.declared.reply.Reply.TheVariants as reply
use Rattle.hs_tree.proofs.CallLemmas.{few_one, few_then, last_behind, told_last}
use Rattle.hs_tree.proofs.FetchLemmas.{IsTold, addresses_are, fails_cause, fails_kind, fails_reads, forget_never, forget_told, no_pointers, numbered-length, numbers_are, read_told, reads_more, reads_one, told_read}
use Rattle.hs_tree.proofs.OneFileLemmas.{same_block}
use Rattle.hs_tree.proofs.RowLemmas.{row_from_runs, runs_from_row, tree_stays, tree_was}
use Rattle.hs_tree.proofs.RowSteps.{goes_keeps, keeps_trans, keeps_within, the_one, without_one}
use Rattle.hs_tree.specs.Calls.{AsksWithFew, CallFails, Hears}
use Rattle.hs_tree.specs.Rows.{HoldsPart, HoldsRow, IsNoRow, IsRow, IsRowOf, KeepsFront, OnlyReads, PartStops, ReadsPart, ReadsRow, RowStops}
use Rattle.hs_tree.specs.Trees.{IsTreeBelow, runs, span, stored_cut}
use Rattle.hs_tree.specs.declared.fault.TreeFault.{TreeFault}

-- ---- what a block that was told is not

module _ (s t : Store) (session : List ℕ) (next : ℕ) (es : List (ℕ × Held)) (held : Held) (content below : List ℕ) (d : IsTold s t session next es held content below) (part : ℕ) (c : List ℕ) (some : 0 < part) (long : length c ≡ part) where
  no_piece : (0 < part → length below ≡ 0 → length content ≡ part → ⊥) → IsTreeBelow t 0 held.address c → ⊥
  unfolding IsTreeBelow
  no_piece isnt tree =
      let same = same_block t held.address (record { pointers = d.pointers; bytes = content }) (record { pointers = []; bytes = c }) d.block tree in
      let none : length below ≡ 0 = ap (λ z. length z) d.handles ∙ ap (λ (z : List Address). length (range_with_len next (length z))) same.1 in
      isnt some none (ap (λ z. length z) same.0 ∙ long)

  no_run : (h : ℕ) → (0 < part → content ≡ to_be_bytes w64 part → ⊥) → IsTreeBelow t (suc h) held.address c → ⊥
  unfolding IsTreeBelow
  no_run h isnt tree =
      let same = same_block t held.address (record { pointers = d.pointers; bytes = content }) (record { pointers = tree.0; bytes = to_be_bytes w64 (length c) }) d.block tree.1 in
      isnt some (same.0 ∙ ap (λ z. to_be_bytes w64 z) long)

  pub no_row : (h : ℕ) → ((file : List ℕ) → IsRowOf t h d.pointers part file → ⊥) → IsTreeBelow t (suc h) held.address c → ⊥
  unfolding IsTreeBelow
  no_row h none tree =
      let same = same_block t held.address (record { pointers = d.pointers; bytes = content }) (record { pointers = tree.0; bytes = to_be_bytes w64 (length c) }) d.block tree.1 in
      let row : IsRowOf t h d.pointers (length c) c = row_from_runs t h d.pointers c (subst (λ z. AllZip (IsTreeBelow t h) z (runs (span stored_cut h) c)) (sym same.1) tree.2) in
      none c (subst (λ z. IsRowOf t h d.pointers z c) long row)

-- ---- and what it is

module _ (s t : Store) (session : List ℕ) (next : ℕ) (es : List (ℕ × Held)) (held : Held) (content below : List ℕ) (d : IsTold s t session next es held content below) where
  pub is_piece_at : length below ≡ 0 → IsTreeBelow t 0 held.address content
  unfolding IsTreeBelow
  is_piece_at none = subst (λ z. IsBlockAt t held.address (record { pointers = z; bytes = content })) (no_pointers next below d.pointers d.handles none) d.block

  pub is_run_at : (h part : ℕ) (file : List ℕ) → content ≡ to_be_bytes w64 part → IsRowOf t h d.pointers part file → (length file ≡ part) × IsTreeBelow t (suc h) held.address file
  unfolding IsTreeBelow
  is_run_at h part file e row =
      let r = runs_from_row t h d.pointers part file row in
      (r.0, (d.pointers, subst (λ z. IsBlockAt t held.address (record { pointers = d.pointers; bytes = z })) (e ∙ ap (λ z. to_be_bytes w64 z) (sym r.0)) d.block, r.1))

-- ---- a part before its handle is forgotten

pub record IsGiven (s t : Store) (session : List ℕ) (h : ℕ) (front : List (ℕ × Held)) (x : ℕ × Held) (rest : List (ℕ × Held)) (part : ℕ) (before after : List ℕ) : Type 0 where
  pub bytes : List ℕ
  pub given : after ≡ before ++ bytes
  pub some : 0 < part
  pub long : length bytes ≡ part
  pub tree : IsTreeBelow s h x.1.address bytes
  pub next : ℕ
  pub seat : HasSeat t session next (front ++ x ∷ rest)
  pub keeps : KeepsFront s t (front ++ x ∷ rest)

pub record GivesPart {tells : Type 0} (session : List ℕ) (old new : Shown tells) (h k part : ℕ) (before after : List ℕ) : Type 0 where
  pub reads : OnlyReads session old new
  pub going : new.ended ≡ None
  pub told : tells → (b : Began) → old.began ≡ b → (next : ℕ) (front rest : List (ℕ × Held)) (x : ℕ × Held) → x.0 ≡ k → HoldsPart b (store_now b old) session next h front x rest
      → IsGiven (store_now b old) (store_now b new) session h front x rest part before after
  pub few : tells → (b : Began) → old.began ≡ b → (next : ℕ) (front rest : List (ℕ × Held)) (x : ℕ × Held) → x.0 ≡ k → HoldsPart b (store_now b old) session next h front x rest → AsksWithFew b session 193 old new

module _ {tells : Type 0} (session : List ℕ) (old mid new : Shown tells) (h k part : ℕ) (before after : List ℕ) (g : GivesPart session old mid h k part before after) where
  pub forgets_part : Hears mid new (op.Forget session k) reply.Ok → ReadsPart session old new h k part before after true
  forgets_part hears = record {
    reads = reads_more session old mid new g.reads (reads_one session mid new (op.Forget session k) reply.Ok refl hears);
    going = hears.going;
    told = λ sure b e next front rest x same held.
        let i = g.told sure b e next front rest x same held in
        let f = forget_told session mid new sure b (g.reads.began ∙ e) i.next front rest x k same i.seat reply.Ok hears in
        record {
          bytes = i.bytes;
          given = i.given;
          some = i.some;
          long = i.long;
          tree = i.tree;
          next = i.next;
          seat = f.goes.seat;
          keeps = keeps_trans (store_now b old) (store_now b mid) (store_now b new) (front ++ rest) (keeps_within (store_now b old) (store_now b mid) (front ++ x ∷ rest) (front ++ rest) (without_one front x rest) i.keeps)
              (goes_keeps (store_now b mid) (store_now b new) session (front ++ x ∷ rest) i.next (front ++ rest) (front ++ rest) f.goes (without_one front x rest) (λ y m. m));
        };
    few = λ sure b e next front rest x same held.
        let i = g.told sure b e next front rest x same held in
        let f = forget_told session mid new sure b (g.reads.began ∙ e) i.next front rest x k same i.seat reply.Ok hears in
        let before : length (front ++ x ∷ rest) ≡ length front + length (x ∷ rest) = length-append front (x ∷ rest) in
        let after : length (front ++ rest) ≡ length front + length rest = length-append front rest in
        let room : length (front ++ x ∷ rest) + 64 * (h + 1) ≤ 193 = held.few in
        few_then b session 193 old mid new (g.few sure b e next front rest x same held)
        (few_one b session 193 mid new (op.Forget session k) reply.Ok hears (record { next = i.next; handles = front ++ rest; seat = f.goes.seat; few = omega (arith, before, after, room) }));
  }

  pub unforgotten : (f : TreeFault) → CallFails mid new (op.Forget session k) f → PartStops session old new h k f
  unforgotten f c =
      let r = fails_reads session mid new (op.Forget session k) f refl g.going c in
      record {
        reads = reads_more session old mid new g.reads r.0;
        ended = r.1;
        kind = fails_kind mid new (op.Forget session k) f c;
        last = last_behind old mid new g.reads.ops f g.reads.asked (told_last mid new (op.Forget session k) f c);
        cause = λ sure b e next front rest x same held.
            let i = g.told sure b e next front rest x same held in
            fails_cause mid new (op.Forget session k) f (forget_never session mid new sure b (g.reads.began ∙ e) i.next front rest x k same i.seat) c;
      }

-- ---- behind a read

module _ {tells : Type 0} (session : List ℕ) (old mid : Shown tells) (h k : ℕ) (content below : List ℕ) (hears : Hears old mid (op.Read session k) (reply.Bytes content below)) where
  pub first : OnlyReads session old mid
  first = reads_one session old mid (op.Read session k) (reply.Bytes content below) refl hears

  pub told_of : tells → (b : Began) → old.began ≡ b → (next : ℕ) (front rest : List (ℕ × Held)) (x : ℕ × Held) → x.0 ≡ k → HoldsPart b (store_now b old) session next h front x rest → IsTold (store_now b old) (store_now b mid) session next (front ++ x ∷ rest) x.1 content below
  told_of sure b e next front rest x same held = told_read (store_now b old) (store_now b mid) session next (front ++ x ∷ rest) x.1 content below (read_told session old mid sure b e next h front rest x k same held (reply.Bytes content below) hears)

  -- its pointers are held beside what was held
  pub reads_few : tells → (b : Began) → old.began ≡ b → (next : ℕ) (front rest : List (ℕ × Held)) (x : ℕ × Held) → x.0 ≡ k → HoldsPart b (store_now b old) session next h front x rest → AsksWithFew b session 193 old mid
  reads_few sure b e next front rest x same held =
      let d = told_of sure b e next front rest x same held in
      let es : List (ℕ × Held) = front ++ x ∷ rest in
      let row : List (ℕ × Held) = numbered next (helds_of d.pointers x.1.epoch) in
      let both : length (es ++ row) ≡ length es + length row = length-append es row in
      let counted : length row ≡ length d.pointers = numbered-length next x.1.epoch d.pointers in
      let most : length d.pointers ≤ 64 = d.few in
      let room : length es + 64 * (h + 1) ≤ 193 = held.few in
      few_one b session 193 old mid (op.Read session k) (reply.Bytes content below) hears (record { next = next + length d.pointers; handles = es ++ row; seat = d.seat; few = omega (arith, both, counted, most, room) })

  reads_wrong : (part : ℕ) (out : List ℕ)
      → ((s t : Store) (next : ℕ) (es : List (ℕ × Held)) (held : Held) → IsTold s t session next es held content below → (c : List ℕ) → 0 < part → length c ≡ part → IsTreeBelow t h held.address c → ⊥)
      → ReadsPart session old mid h k part out out false
  reads_wrong part out never = record {
    reads = first;
    going = hears.going;
    told = λ sure b e next front rest x same held.
        let d = told_of sure b e next front rest x same held in
        record {
          none = λ c some long tree. never (store_now b old) (store_now b mid) next (front ++ x ∷ rest) x.1 d c some long (tree_stays (store_now b old) (store_now b mid) h x.1.address c (d.keeps.stays x (the_one front x rest)) tree);
          keeps = keeps_within (store_now b old) (store_now b mid) (front ++ x ∷ rest) (front ++ rest) (without_one front x rest) d.keeps;
        };
    few = reads_few;
  }

-- ---- a piece

no_more : (next epoch : ℕ) (es : List (ℕ × Held)) → es ++ numbered next (helds_of [] epoch) ≡ es
unfolding helds_of
no_more next epoch es = append-nil es

module _ {tells : Type 0} (session : List ℕ) (old mid : Shown tells) (k part : ℕ) (content below out : List ℕ) (hears : Hears old mid (op.Read session k) (reply.Bytes content below)) where
  pub piece_wrong : (0 < part → length below ≡ 0 → length content ≡ part → ⊥) → ReadsPart session old mid 0 k part out out false
  piece_wrong isnt = reads_wrong session old mid 0 k content below hears part out (λ s t next es held d c some long tree. no_piece s t session next es held content below d part c some long isnt tree)

  piece_given : (0 < part) × (length below ≡ 0) × (length content ≡ part) → (after : List ℕ) → after ≡ out ++ content → GivesPart session old mid 0 k part out after
  piece_given is after more = record {
    reads = first session old mid 0 k content below hears;
    going = hears.going;
    told = λ sure b e next front rest x same held.
        let s : Store = store_now b old in
        let t : Store = store_now b mid in
        let d = told_of session old mid 0 k content below hears sure b e next front rest x same held in
        let none = no_pointers next below d.pointers d.handles is.1 in
        let all : (front ++ x ∷ rest) ++ numbered next (helds_of d.pointers x.1.epoch) ≡ front ++ x ∷ rest = ap (λ (z : List Address). (front ++ x ∷ rest) ++ numbered next (helds_of z x.1.epoch)) none ∙ no_more next x.1.epoch (front ++ x ∷ rest) in
        record {
          bytes = content;
          given = more;
          some = is.0;
          long = is.2;
          tree = tree_was s t 0 x.1.address content (d.keeps.stays x (the_one front x rest)) (is_piece_at s t session next (front ++ x ∷ rest) x.1 content below d is.1);
          next = next + length d.pointers;
          seat = subst (λ z. HasSeat t session (next + length d.pointers) z) all d.seat;
          keeps = d.keeps;
        };
    few = reads_few session old mid 0 k content below hears;
  }

  -- as slices of the block have it
  pub gives_piece : (bytes handles put : List ℕ) → bytes ≡ content → handles ≡ below → put ≡ content → (0 < part) × (length handles ≡ 0) × (length bytes ≡ part) → (after : List ℕ) → after ≡ out ++ put → GivesPart session old mid 0 k part out after
  gives_piece bytes handles put e f g is after more = piece_given (is.0, ap (λ z. length z) (sym f) ∙ is.1, ap (λ z. length z) (sym e) ∙ is.2) after (more ∙ ap (λ z. out ++ z) g)

-- ---- a run

module _ {tells : Type 0} (session : List ℕ) (old mid : Shown tells) (h k part : ℕ) (content below out : List ℕ) (hears : Hears old mid (op.Read session k) (reply.Bytes content below)) where
  pub run_wrong : (0 < part → content ≡ to_be_bytes w64 part → ⊥) → ReadsPart session old mid (suc h) k part out out false
  run_wrong isnt = reads_wrong session old mid (suc h) k content below hears part out (λ s t next es held d c some long tree. no_run s t session next es held content below d part c some long h isnt tree)

  -- its handles are a row, for which there is room
  pub row_held : (b : Began) (next : ℕ) (front rest : List (ℕ × Held)) (x : ℕ × Held) → HoldsPart b (store_now b old) session next (suc h) front x rest → (d : IsTold (store_now b old) (store_now b mid) session next (front ++ x ∷ rest) x.1 content below)
      → HoldsRow b (store_now b mid) session (next + length d.pointers) h (front ++ x ∷ rest) (numbered next (helds_of d.pointers x.1.epoch)) below
  row_held b next front rest x held d =
      let row : List (ℕ × Held) = numbered next (helds_of d.pointers x.1.epoch) in
      let es : List (ℕ × Held) = front ++ x ∷ rest in
      let both : length (es ++ row) ≡ length es + length row = length-append es row in
      let counted : length row ≡ length d.pointers = numbered-length next x.1.epoch d.pointers in
      let most : length d.pointers ≤ 64 = d.few in
      let few : length es + 64 * (suc h + 1) ≤ 193 = held.few in
      record {
        limit = held.limit;
        seat = d.seat;
        these = numbers_are next x.1.epoch d.pointers ∙ sym d.handles;
        few = omega (arith, both, counted, most, few);
      }

  module _ (new : Shown tells) where
    pub run_stops : (f : TreeFault) → RowStops session mid new h below f → PartStops session old new (suc h) k f
    run_stops f r = record {
      reads = reads_more session old mid new (first session old mid (suc h) k content below hears) r.reads;
      ended = r.ended;
      kind = r.kind;
      last = last_behind old mid new (op.Read session k ∷ []) f hears.asked r.last;
      cause = λ sure b e next front rest x same held.
          let d = told_of session old mid (suc h) k content below hears sure b e next front rest x same held in
          r.cause sure b (hears.began ∙ e) (next + length d.pointers) (front ++ x ∷ rest) (numbered next (helds_of d.pointers x.1.epoch)) (row_held b next front rest x held d);
    }

    run_few : (tells → (b : Began) → mid.began ≡ b → (next : ℕ) (front row : List (ℕ × Held)) → HoldsRow b (store_now b mid) session next h front row below → AsksWithFew b session 193 mid new)
        → tells → (b : Began) → old.began ≡ b → (next : ℕ) (front rest : List (ℕ × Held)) (x : ℕ × Held) → x.0 ≡ k → HoldsPart b (store_now b old) session next (suc h) front x rest → AsksWithFew b session 193 old new
    run_few few sure b e next front rest x same held =
        let d = told_of session old mid (suc h) k content below hears sure b e next front rest x same held in
        few_then b session 193 old mid new (reads_few session old mid (suc h) k content below hears sure b e next front rest x same held)
        (few sure b (hears.began ∙ e) (next + length d.pointers) (front ++ x ∷ rest) (numbered next (helds_of d.pointers x.1.epoch)) (row_held b next front rest x held d))

    pub run_no_row : (after : List ℕ) → ReadsRow session mid new h below part out after false → ReadsPart session old new (suc h) k part out after false
    run_no_row after r = record {
      reads = reads_more session old mid new (first session old mid (suc h) k content below hears) r.reads;
      going = r.going;
      told = λ sure b e next front rest x same held.
          let s : Store = store_now b old in
          let t : Store = store_now b mid in
          let u : Store = store_now b new in
          let es : List (ℕ × Held) = front ++ x ∷ rest in
          let d = told_of session old mid (suc h) k content below hears sure b e next front rest x same held in
          let row : List (ℕ × Held) = numbered next (helds_of d.pointers x.1.epoch) in
          let n : IsNoRow t u h es row part = r.told sure b (hears.began ∙ e) (next + length d.pointers) es row (row_held b next front rest x held d) in
          record {
            none = λ c some long tree. no_row s t session next es x.1 content below d part c some long h (λ file q. n.none file (subst (λ z. IsRowOf t h z part file) (sym (addresses_are next x.1.epoch d.pointers)) q)) (tree_stays s t (suc h) x.1.address c (d.keeps.stays x (the_one front x rest)) tree);
            keeps = keeps_within s u es (front ++ rest) (without_one front x rest) (keeps_trans s t u es d.keeps n.keeps);
          };
      few = run_few r.few;
    }

    pub run_given : (after : List ℕ) → (0 < part) × (content ≡ to_be_bytes w64 part) → ReadsRow session mid new h below part out after true → GivesPart session old new (suc h) k part out after
    run_given after is r = record {
      reads = reads_more session old mid new (first session old mid (suc h) k content below hears) r.reads;
      going = r.going;
      told = λ sure b e next front rest x same held.
          let s : Store = store_now b old in
          let t : Store = store_now b mid in
          let u : Store = store_now b new in
          let es : List (ℕ × Held) = front ++ x ∷ rest in
          let d = told_of session old mid (suc h) k content below hears sure b e next front rest x same held in
          let row : List (ℕ × Held) = numbered next (helds_of d.pointers x.1.epoch) in
          let n : IsRow t u session h es row part out after = r.told sure b (hears.began ∙ e) (next + length d.pointers) es row (row_held b next front rest x held d) in
          let there = is_run_at s t session next es x.1 content below d h part n.file is.1 (subst (λ z. IsRowOf t h z part n.file) (addresses_are next x.1.epoch d.pointers) n.is) in
          record {
            bytes = n.file;
            given = n.given;
            some = is.0;
            long = there.0;
            tree = tree_was s t (suc h) x.1.address n.file (d.keeps.stays x (the_one front x rest)) there.1;
            next = n.next;
            seat = n.seat;
            keeps = keeps_trans s t u es d.keeps n.keeps;
          };
      few = run_few r.few;
    }
