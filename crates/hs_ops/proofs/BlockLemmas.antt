-- The block that a write asks for.
use Rattle.std.proofs.Common.{◌≡◌, ℕ, Bool, true, false, List, ◌∷◌, ◌++◌, Option, Some, None, length, map, take, drop, bytes_eq, ◌&&◌, refl, sym, ap, ◌∙◌}
use Rattle.std.specs.Cmp.Lexicographic.{pointwise}
use Rattle.std.specs.Option.{option_or}
use Rattle.std.proofs.lemmas.Bool.{false_from_ne_true, ltb-false}
use Rattle.std.proofs.lemmas.Bool.Decides.{Decides-like, not_from_Decides, same_from_decides}
use Rattle.std.proofs.lemmas.List.{drop_at, length-map, take-append-drop, take_at}
use Rattle.std.proofs.lemmas.Slice.Eq.{bytes_eq-Decides}
use Rattle.hs_entry.specs.declared.entry.Entry.TheVariants as kind
use Rattle.hs_limits.specs.Block.{Block, IsBlock, spell}
use Rattle.hs_limits.specs.declared.address.Address.{Address}
use Rattle.hs_limits.specs.declared.spelling.TheConstants.{MOST_POINTERS, MOST_BYTES}
use Rattle.hs_model.specs.Refusals.{first, refused_when, too_long, too_many}
use Rattle.hs_model.specs.declared.op.Op.{Op}
use Rattle.hs_model.specs.declared.op.Op.TheVariants as op
use Rattle.hs_model.specs.declared.reply.Reply.{Reply}
use Rattle.hs_ops.specs.Going.{at_once, block_entry, is_same_block, judged_in}
use Rattle.hs_ops.specs.Refusals.{is_busy, not_open, refusal_of, refusals_of}
use Rattle.hs_ops.specs.Speaking.{asked_block, helds, least_epoch}
use Rattle.hs_ops.specs.Views.{OpView}
use Rattle.hs_tokens.specs.Seats.{Seats, found}

-- ---- from the addresses of its handles

pub asked_is : (seats : Seats) (name payload handles : List ℕ) (pointers : List Address) → pointers ≡ map (λ held. held.address) (helds seats name handles) → record { pointers = pointers; bytes = payload } ≡ asked_block seats name payload handles
unfolding asked_block
asked_is seats name payload handles pointers e = rw e

pub is_spelled : (block other : Block) → block ≡ other → IsBlock other → IsBlock block
is_spelled block other e h = rw e h

pub same_is : (block other : Block) (joined same : Bool) (spelled bytes : List ℕ) (pointers : List Address) (told : Option (List ℕ)) → block ≡ other → told ≡ Some bytes → spelled ≡ spell block
    → joined ≡ bytes_eq spelled bytes → same ≡ (joined && pointwise (λ p q. bytes_eq p.0 q.0) block.pointers pointers)
    → same ≡ is_same_block other told pointers
unfolding is_same_block
same_is block other joined same spelled bytes pointers told e f g h k = k ∙ rw (h, g ∙ ap spell e) (rw f (rw e refl))

-- bytes with the head in front are the whole where the rest is the payload
pub joined_found : (head payload bytes rest : List ℕ) → bytes_eq (take (length head) bytes) head ≡ true → rest ≡ drop (length head) bytes → bytes_eq rest payload ≡ bytes_eq (head ++ payload) bytes
joined_found head payload bytes rest e behind =
    let front : take (length head) bytes ≡ head = (bytes_eq-Decides (take (length head) bytes) head).0 e in
    let whole : head ++ rest ≡ bytes =
    ap (λ (xs : List ℕ). xs ++ rest) (sym front) ∙ ap (λ (xs : List ℕ). take (length head) bytes ++ xs) behind ∙ take-append-drop (length head) bytes in
    let there : rest ≡ payload → head ++ payload ≡ bytes = λ same. ap (λ (xs : List ℕ). head ++ xs) (sym same) ∙ whole in
    let back : head ++ payload ≡ bytes → rest ≡ payload = λ all. behind ∙ ap (λ (xs : List ℕ). drop (length head) xs) (sym all) ∙ drop_at head payload (length head) refl in
    same_from_decides (bytes_eq rest payload) (bytes_eq (head ++ payload) bytes)
    (bytes_eq-Decides rest payload) (Decides-like (bytes_eq (head ++ payload) bytes) back there (bytes_eq-Decides (head ++ payload) bytes))

-- bytes without the head in front are not the whole
pub joined_none : (head payload bytes : List ℕ) → bytes_eq (take (length head) bytes) head ≡ false → false ≡ bytes_eq (head ++ payload) bytes
joined_none head payload bytes e =
    let begins : head ++ payload ≡ bytes → take (length head) bytes ≡ head = λ all. ap (λ (xs : List ℕ). take (length head) xs) (sym all) ∙ take_at head payload (length head) refl in
    let other = not_from_Decides (bytes_eq (take (length head) bytes) head) (bytes_eq-Decides (take (length head) bytes) head) e in
    sym (false_from_ne_true (bytes_eq (head ++ payload) bytes) (λ t. other (begins ((bytes_eq-Decides (head ++ payload) bytes).0 t))))

pub entry_is : (v : OpView) (line : ℕ) (name payload handles : List ℕ) (block : Block) (least : ℕ) (bytes : List ℕ) → block ≡ asked_block v.seats name payload handles → least ≡ least_epoch (helds v.seats name handles) → bytes ≡ spell block → kind.Block line least bytes ≡ block_entry v line name payload handles
unfolding block_entry
entry_is v line name payload handles block least bytes e f g = rw (f, g, e)

-- ---- one that is not refused keeps the bounds of blocks

head_none : (o : Option Reply) (rest : List (Option Reply)) → first (o ∷ rest) ≡ None → o ≡ None
head_none None rest e = refl
head_none (Some r) rest e = cc

rest_none : (o : Option Reply) (rest : List (Option Reply)) → first (o ∷ rest) ≡ None → first rest ≡ None
rest_none None rest e = e
rest_none (Some r) rest e = cc

not_when : (b : Bool) (r : Reply) → refused_when b r ≡ None → b ≡ false
not_when true r e = cc
not_when false r e = refl

pub write_fits : (v : OpView) (name payload handles : List ℕ) (address : Option Address) → refusal_of v (op.Write name payload handles address) ≡ None → IsBlock (asked_block v.seats name payload handles)
unfolding refusals_of asked_block
write_fits v name payload handles address e =
    let unbusy = rest_none (is_busy v) _ (rest_none (not_open v name) _ e) in
    let short = head_none (too_long payload) _ unbusy in
    let few = head_none (too_many handles) _ (rest_none (too_long payload) _ unbusy) in
    record {
      pointers = rw (length-map (helds v.seats name handles) (λ held. held.address), length-map handles (λ handle. found v.seats name handle)) (ltb-false MOST_POINTERS (length handles) (not_when _ _ few));
      bytes = ltb-false MOST_BYTES (length payload) (not_when _ _ short);
    }

pub not_refused : (v : OpView) (o : Op) → judged_in v o ≡ None → refusal_of v o ≡ None
unfolding judged_in
not_refused v o e = go (refusal_of v o) (at_once v o) e
  where
    go : (a b : Option Reply) → option_or a b ≡ None → a ≡ None
    go None b e = refl
    go (Some r) b e = cc
