-- A write that is told the bytes of its block's entry is answered as the plain store's judge says.
use Rattle.std.proofs.Common.{◌≡◌, inl, inr, ℕ, ◌&&◌, ◌==◌, Bool, true, false, not, List, [], ◌∷◌, map, Option, Some, None, is_none, is_some, bytes_eq, refl, sym, ap, subst, ◌∙◌, arith}
use Rattle.std.proofs.lemmas.Bool.Decides.{nat_tests}
use Rattle.std.proofs.lemmas.Slice.Eq.{bytes_eq-Decides, slice_eq-Decides}
use Rattle.std.specs.Bool.{Decides}
use Rattle.std.specs.Cmp.Lexicographic.{pointwise}
use Rattle.std.specs.Option.{option_map_or}
use Rattle.std.specs.Prelude.{if◌then◌else◌, unwrap_or}
use Rattle.hs_answered.proofs.AnswerLemmas.{ByTheBytes, ByTheView, refused_leaves}
use Rattle.hs_answered.proofs.ShownLemmas.{held_is}
use Rattle.hs_answered.proofs.StepLemmas.{Judges, go_sees, refused_at_once, sees_judged, split_step}
use Rattle.hs_answered.specs.Asked.{HasBytes}
use Rattle.hs_limits.specs.Block.{Block, spell}
use Rattle.hs_limits.specs.declared.address.Address.{Address}
use Rattle.hs_limits.specs.declared.address.Held.{Held}
use Rattle.hs_limits.specs.declared.limits.Limits.{Limits}
use Rattle.hs_model.specs.declared.op.Op.TheVariants as op
use Rattle.hs_model.specs.declared.reply.Reply.{Reply}
use Rattle.hs_model.specs.declared.reply.Reply.TheVariants as reply
use Rattle.hs_model.specs.declared.store.StoredBlock.{StoredBlock}
use Rattle.hs_model.specs.Hollow.{looks_at}
use Rattle.hs_model.specs.Judge.{address_of, given_address, judge, nothing, pointers_at, written}
use Rattle.hs_model.specs.Reach.{pointers_of}
use Rattle.hs_model.specs.Refusals.{is_block}
use Rattle.hs_model.specs.Store.{Store, block_at, block_of}
use Rattle.hs_ops.specs.declared.step.OpStep.TheVariants.{Answer, Propose}
use Rattle.hs_ops.specs.Going.{compared, go, is_reported, is_same_block, mark_entry, on_bytes}
use Rattle.hs_ops.specs.Refusals.{refusal_of}
use Rattle.hs_ops.specs.Speaking.{asked_block}
use Rattle.hs_ops.specs.Views.{OpView}
use Rattle.hs_shown.specs.Showing.{Shows}
use Rattle.hs_tokens.specs.Seats.{found}

-- what hs_shown says of a write of another block
abbrev pub ByCollision : Type 0
ByCollision = (limits : Limits) (s : Store) (v : OpView) (name payload handles : List ℕ) (address : Option Address) (stored : StoredBlock)
    → Shows limits s (op.Write name payload handles address) v → refusal_of v (op.Write name payload handles address) ≡ None
    → block_at s (given_address address) ≡ Some stored → is_block stored (written s name payload handles) ≡ false
    → (judge limits s (op.Write name payload handles address)).reply ≡ reply.Collision

-- ---- tests

both_true : (a b : Bool) → (a && b) ≡ true → (a ≡ true) × (b ≡ true)
both_true true b e = (refl, e)
both_true false b e = absurd (cc e)

pointers_decide : (ps qs : List Address) → Decides (pointwise (λ p q. bytes_eq p.0 q.0) ps qs) (ps ≡ qs)
pointers_decide ps qs = slice_eq-Decides (λ p q. ((λ h i. record { 0 = (bytes_eq-Decides p.0 q.0).0 h i }), (λ e. (bytes_eq-Decides p.0 q.0).1 (ap (λ z. z.0) e)))) ps qs (pointwise (λ p q. bytes_eq p.0 q.0) ps qs) refl

-- a stored block that is this one has its bytes and its pointers
is_it : (stored : StoredBlock) (block : Block) → is_block stored block ≡ true → block ≡ block_of stored
is_it stored block e =
    let both = both_true (pointwise (λ p q. bytes_eq p.0 q.0) stored.pointers block.pointers) (bytes_eq stored.bytes block.bytes) e in
    let ps : stored.pointers ≡ block.pointers = (pointers_decide stored.pointers block.pointers).0 both.0 in
    let bs : stored.bytes ≡ block.bytes = (bytes_eq-Decides stored.bytes block.bytes).0 both.1 in
    λ i. record { pointers = sym ps i; bytes = sym bs i }

-- its own spelling and pointers compare as the same
its_own : (block : Block) → is_same_block block (Some (spell block)) block.pointers ≡ true
unfolding is_same_block
its_own block = rw ((bytes_eq-Decides (spell block) (spell block)).1 refl) ((pointers_decide block.pointers block.pointers).1 refl)

-- ---- a write

module _ (limits : Limits) (s : Store) (v : OpView) (name payload handles : List ℕ) (address : Option Address) (shows : Shows limits s (op.Write name payload handles address) v) where
  -- the block that it asks for is the store's
  asked_same : asked_block v.seats name payload handles ≡ written s name payload handles
  unfolding asked_block
  asked_same = ap (λ (ps : List Address). record { pointers = ps; bytes = payload }) (each handles)
    where
      one : (handle : ℕ) → (found v.seats name handle).address ≡ address_of s name handle
      one handle = ap (λ (held : Option Held). (unwrap_or held nothing).address) (sym (held_is s v.seats shows.sessions name handle))

      each : (hs : List ℕ) → map (λ held. held.address) (map (λ handle. found v.seats name handle) hs) ≡ map (λ handle. address_of s name handle) hs
      each [] = refl
      each (h ∷ hs) = ap (λ (a : Address). a ∷ map (λ held. held.address) (map (λ handle. found v.seats name handle) hs)) (one h) ∙ ap (λ (rest : List Address). address_of s name h ∷ rest) (each hs)

  -- where it compares as another, it is another
  other_block : (stored : StoredBlock) → is_same_block (asked_block v.seats name payload handles) (Some (spell (block_of stored))) stored.pointers ≡ false → is_block stored (written s name payload handles) ≡ false
  other_block stored e = go (is_block stored (written s name payload handles)) refl
    where
      go : (b : Bool) → is_block stored (written s name payload handles) ≡ b → is_block stored (written s name payload handles) ≡ false
      go false f = f
      go true f =
          let same : asked_block v.seats name payload handles ≡ block_of stored = asked_same ∙ is_it stored (written s name payload handles) f in
          let yes : is_same_block (asked_block v.seats name payload handles) (Some (spell (block_of stored))) stored.pointers ≡ true =
          subst (λ (block : Block). is_same_block block (Some (spell (block_of stored))) stored.pointers ≡ true) (sym same) (its_own (block_of stored)) in
          let no : true ≡ false = sym yes ∙ e in absurd (cc no)

-- a block is reported where the wanted entry's is present
reported_number : (present : Option ℕ) (number : ℕ) (told : Bool) → (option_map_or (λ k. k == number) present false && told) ≡ true → present ≡ Some number
reported_number None number told e = absurd (cc e)
reported_number (Some k) number told e =
    let t : (k == number) ≡ true = (both_true (k == number) told e).0 in
    let same : k ≡ number = grind (arith, nat_tests, t) in
    ap (λ n. Some n) same

there : (p : Option ℕ) (number : ℕ) (block : Option StoredBlock) → p ≡ Some number → is_some p ≡ is_some block → (stored : StoredBlock) × (block ≡ Some stored)
there p number None e f = let g : is_some p ≡ true = ap (λ (x : Option ℕ). is_some x) e in absurd (cc (f, g))
there p number (Some stored) e f = (stored, refl)

module _ (by_view : ByTheView) (by_bytes : ByTheBytes) (by_collision : ByCollision) (limits : Limits) (s : Store) (v : OpView) (pointers : List Address) where
  pub write_judged : (line number : ℕ) (bytes : Option (List ℕ)) (name payload handles : List ℕ) (address : Option Address) (r : Reply) → Shows limits s (op.Write name payload handles address) v
      → ((a : Address) → looks_at s (op.Write name payload handles address) ≡ Some a → pointers ≡ pointers_at s a)
      → (v.present ≡ Some number → HasBytes (block_at s (given_address address)) bytes)
      → on_bytes v line (record { number = number; bytes = bytes; pointers = pointers }) (op.Write name payload handles address) ≡ Answer r → Judges limits s (op.Write name payload handles address) v pointers r
  unfolding on_bytes compared
  write_judged line number bytes name payload handles address r shows alike true_bytes e =
      elim (split_step (refusal_of v (op.Write name payload handles address)) (compared v line (record { number = number; bytes = bytes; pointers = pointers }) (op.Write name payload handles address)) r e) [
        | inl h ↦ sees_judged by_view by_bytes limits s v pointers (op.Write name payload handles address) r shows alike (inl (refused_at_once v (op.Write name payload handles address) r h))
        | inr h ↦ by_tests h.0 (is_reported v number bytes) refl (is_same_block (asked_block v.seats name payload handles) bytes pointers) refl h.1
      ]
    where
      a : Address
      a = given_address address

      answer_is : Answer reply.Collision ≡ Answer r → r ≡ reply.Collision
      answer_is f = cc f

      collides : refusal_of v (op.Write name payload handles address) ≡ None → is_reported v number bytes ≡ true → is_same_block (asked_block v.seats name payload handles) bytes pointers ≡ false
          → (judge limits s (op.Write name payload handles address)).reply ≡ reply.Collision
      collides free told other = by_block it.0 it.1 (subst (λ block. HasBytes block bytes) it.1 (true_bytes present))
        where
          present : v.present ≡ Some number
          present = reported_number v.present number (not (is_none bytes)) told

          it : (stored : StoredBlock) × (block_at s a ≡ Some stored)
          it = there v.present number (block_at s a) present (shows.present a refl)

          by_block : (stored : StoredBlock) → block_at s a ≡ Some stored → HasBytes (Some stored) bytes → (judge limits s (op.Write name payload handles address)).reply ≡ reply.Collision
          by_block stored f h =
              let ps : pointers ≡ stored.pointers = alike a refl ∙ ap (λ (block : Option StoredBlock). pointers_of block) f in
              let no : is_same_block (asked_block v.seats name payload handles) (Some (spell (block_of stored))) stored.pointers ≡ false =
              sym (ap (λ b. is_same_block (asked_block v.seats name payload handles) b pointers) h.0 ∙ ap (λ q. is_same_block (asked_block v.seats name payload handles) (Some (spell (block_of stored))) q) ps) ∙ other in
              by_collision limits s v name payload handles address stored shows free f (other_block limits s v name payload handles address shows stored no)

      by_tests : refusal_of v (op.Write name payload handles address) ≡ None → (told : Bool) → is_reported v number bytes ≡ told → (same : Bool) → is_same_block (asked_block v.seats name payload handles) bytes pointers ≡ same
          → (if not told then go v line (op.Write name payload handles address) else (if same then Propose (mark_entry v line number name handles address) else Answer reply.Collision)) ≡ Answer r
          → Judges limits s (op.Write name payload handles address) v pointers r
      by_tests free false f same g h = sees_judged by_view by_bytes limits s v pointers (op.Write name payload handles address) r shows alike (go_sees v line (op.Write name payload handles address) r h)
      by_tests free true f true g h = absurd (cc h)
      by_tests free true f false g h =
          let q : r ≡ reply.Collision = answer_is h in
          let replied : (judge limits s (op.Write name payload handles address)).reply ≡ reply.Collision = collides free f g in
          subst (λ t. Judges limits s (op.Write name payload handles address) v pointers t) (sym q)
          (record { reply = replied; leaves = refused_leaves limits s v pointers (op.Write name payload handles address) reply.Collision shows.sessions refl replied })
