-- How a tree grows by each call, and how it stops.
use Rattle.std.proofs.Common.{◌≡◌, ◌⊎◌, inl, inr, ℕ, ◌+◌, ◌≤◌, List, [], ◌∷◌, ◌++◌, Some, false, refl, sym, ap, ◌∙◌, subst, map, length, arith, append-nil, append_assoc, length-append}
use Rattle.std.proofs.lemmas.List.{length-map, map-append}
use Rattle.std.specs.List.{AllZip}
use Rattle.hs_asking.proofs.AloneLemmas.{forgets_alone, writes_alone}
use Rattle.hs_asking.proofs.HandLemmas.{all_append, all_left, all_right}
use Rattle.hs_asking.specs.Alone.{IsForgot, IsWritten, unwritten, written}
use Rattle.hs_asking.specs.Judged.{IsJudged}
use Rattle.hs_asking.specs.Seats.{HasSeat}
use Rattle.hs_asking.specs.Shown.{Began, Shown, store_now}
use Rattle.hs_asking.specs.Staying.{Stays}
use Rattle.hs_asking.specs.Telling.{grants, is_written}
use Rattle.hs_laws.specs.Written.{IsBlockAt}
use Rattle.hs_limits.specs.Block.{Block, spell}
use Rattle.hs_limits.specs.declared.address.Address.{Address}
use Rattle.hs_limits.specs.declared.address.Held.{Held}
use Rattle.hs_limits.specs.declared.spelling.TheConstants.{MOST_BYTES, MOST_POINTERS}
use Rattle.hs_model.proofs.Members.{Member, member-append, member-append_left, member-append_right}
use Rattle.hs_model.specs.Judge as judging
use Rattle.hs_model.specs.Store.{Store}
use Rattle.hs_model.specs.declared.op.Op.TheVariants as op
use Rattle.hs_model.specs.declared.reply.Reply.{Reply}
use Rattle.hs_model.specs.declared.reply.Reply.TheVariants as reply
use Rattle.hs_tree.proofs.CallLemmas.{few_one, few_then}
use Rattle.hs_tree.proofs.GrowLemmas.{Split, held_few, stand, usable, worked_more, written-above, zip_append, zip_length, zip_split}
use Rattle.hs_tree.proofs.PlantLemmas.{planted_stays}
use Rattle.hs_tree.specs.Calls.{AsksWithFew, Hears, HoldsFew}
use Rattle.hs_tree.specs.Growing.{ArePlanted, HasPlanted, HasWorked, IsGrowing, IsOurs, IsPlanted, IsStoreRefusal, KeepsRoots, Matches, Place, block_of, name_of, write_above}
use Rattle.hs_tree.specs.Telling.{GivesWritten, IsWrittenAs}
use Rattle.hs_tree.specs.declared.grow.Node.{Node}

-- ---- where the store is told

-- one told fact from another, under one beginning
pub where_told : {tells : Type 0} (P Q : Began → Type 0) (old new : Began) → new ≡ old → ((b : Began) → P b → Q b) → (tells → P old) → tells → Q new
where_told P Q old new e f h = λ is. subst Q (sym e) (f old (h is))

pub both_told : {tells : Type 0} (P Q R : Began → Type 0) (old new : Began) → new ≡ old → ((b : Began) → P b → Q b → R b) → (tells → P old) → (tells → Q old) → tells → R new
both_told P Q R old new e f h k = λ is. subst R (sym e) (f old (h is) (k is))

pub both_at : {tells : Type 0} (P Q : Began → Type 0) (b : Began) → (tells → P b) → (tells → Q b) → tells → P b × Q b
both_at P Q b h k = λ is. (h is, k is)

-- ---- what stays of the places

names_zip : (name : List ℕ → Address) (nodes : List Node) (places : List Place) → map (λ n. n.address) nodes ≡ map (name_of name) places → AllZip (λ n p. n.address ≡ name_of name p) nodes places
names_zip name [] [] e = tt
names_zip name [] (p ∷ ps) e = cc e
names_zip name (n ∷ ns) [] e = cc e
names_zip name (n ∷ ns) (p ∷ ps) e = (cc e, names_zip name ns ps (cc e))

-- places whose addresses an entry stands for, as all that it leads to stays
places_stay : (name : List ℕ → Address) (s t : Store) (nodes : List Node) (fs : List (ℕ × Held)) (places : List Place) → AllZip (λ n p. n.address ≡ name_of name p) nodes places → AllZip Matches nodes fs → ((e : ℕ × Held) → Member e fs → Stays s t e.1.address) → ArePlanted name s places → ArePlanted name t places
places_stay name s t [] fs [] z m stays p = tt
places_stay name s t [] fs (q ∷ qs) z m stays p = absurd z
places_stay name s t (n ∷ ns) fs [] z m stays p = absurd z
places_stay name s t (n ∷ ns) [] (q ∷ qs) z m stays p = absurd m
places_stay name s t (n ∷ ns) (f ∷ fs) (q ∷ qs) z m stays p =
    let same : f.1.address ≡ name_of name q = sym m.0.1 ∙ z.0 in
    (planted_stays name s t q.height q.bytes p.0 (subst (λ a. Stays s t a) same (stays f (inl refl))), places_stay name s t ns fs qs z.1 m.1 (λ e k. stays e (inr k)) p.1)

-- the session holds as many handles as nodes
pub planted_few : (name : List ℕ → Address) (b : Began) (s : Store) (session : List ℕ) (front spare last : List Node) (places : List Place) → HasPlanted name b s session front spare last places → length front + length spare + length last ≤ 81 → HoldsFew s session 81
planted_few name b s session front spare last places k few =
    let fore : length front ≡ length k.fore = zip_length Matches front k.fore k.fronts in
    let middle : length spare ≡ length k.middle = zip_length Matches spare k.middle k.spares in
    let back : length last ≡ length k.back = zip_length Matches last k.back k.lasts in
    let inner : length (k.middle ++ k.back) ≡ length k.middle + length k.back = length-append k.middle k.back in
    let all : length (k.fore ++ (k.middle ++ k.back)) ≡ length k.fore + length (k.middle ++ k.back) = length-append k.fore (k.middle ++ k.back) in
    record { next = k.next; handles = k.fore ++ (k.middle ++ k.back); seat = k.seat; few = omega (arith, fore, middle, back, inner, all, few) }

-- ---- a write

module _ {tells : Type 0} (name : List ℕ → Address) (session : List ℕ) (start old new : Shown tells) where
  -- a block was written above the last nodes, at a place whose children are present
  module _ (front run : List Node) (written_before : List Block) (fp rp : List Place) (p : Place) (payload : List ℕ) (handle : ℕ)
      (same_length : length front ≡ length fp)
      (is_block : record { pointers = map (λ (n : Node). n.address) run; bytes = payload } ≡ block_of name p)
      (children : (s : Store) → ArePlanted name s rp → IsBlockAt s (name_of name p) (block_of name p) → IsPlanted name s p.height p.bytes)
      (few : length run ≤ MOST_POINTERS) (short : length payload ≤ MOST_BYTES) (room : length (front ++ run) + 1 ≤ 81) where
    abbrev pub m : Node
    m = record { handle = handle; address = name_of name p }

    split_names : map (λ (n : Node). n.address) (front ++ run) ≡ map (name_of name) (fp ++ rp) → (map (λ (n : Node). n.address) front ≡ map (name_of name) fp) × (map (λ (n : Node). n.address) run ≡ map (name_of name) rp)
    split_names e = go front fp same_length e
      where
        go : (ns : List Node) (ps : List Place) → length ns ≡ length ps → map (λ (n : Node). n.address) (ns ++ run) ≡ map (name_of name) (ps ++ rp) → (map (λ (n : Node). n.address) ns ≡ map (name_of name) ps) × (map (λ (n : Node). n.address) run ≡ map (name_of name) rp)
        go [] [] l e = (refl, e)
        go [] (q ∷ ps) l e = absurd (omega (arith, l))
        go (n ∷ ns) [] l e = absurd (omega (arith, l))
        go (n ∷ ns) (q ∷ ps) l e =
            let here : n.address ≡ name_of name q = cc e in
            let more : map (λ (n : Node). n.address) (ns ++ run) ≡ map (name_of name) (ps ++ rp) = cc e in
            let r = go ns ps (omega (arith, l)) more in
            ((λ i. here i ∷ r.0 i), r.1)

    abbrev at : List (ℕ × Held) → ℕ → ℕ → ℕ × Held
    at held next epoch = (next, record { address = name (spell (record { pointers = map (λ (n : Node). n.address) run; bytes = payload })); epoch = epoch })

    gives_next : (told : Reply) (next epoch : ℕ) → GivesWritten told handle → (told ≡ reply.New next epoch) ⊎ (told ≡ reply.Dup next epoch) → handle ≡ next
    gives_next told next epoch g (inl e) = subst (λ z. GivesWritten z handle) e g
    gives_next told next epoch g (inr e) = subst (λ z. GivesWritten z handle) e g

    not_refused : (told : Reply) (limit : ℕ) → GivesWritten told handle → (told ≡ reply.Collision) ⊎ (told ≡ reply.ShardFull limit) → ⊥
    not_refused told limit g (inl e) = subst (λ z. GivesWritten z handle) e g
    not_refused told limit g (inr e) = subst (λ z. GivesWritten z handle) e g

    told_from : (b : Began) → IsOurs name b → (next : ℕ) (left right : List (ℕ × Held)) → AllZip Matches front left → AllZip Matches run right
        → (map (λ (n : Node). n.address) front ≡ map (name_of name) fp) × (map (λ (n : Node). n.address) run ≡ map (name_of name) rp)
        → ArePlanted name (store_now b old) (fp ++ rp) → (block : Block) → block ≡ block_of name p → (told : Reply) → GivesWritten told handle
        → IsWritten b.limits (store_now b old) (store_now b new) session next (left ++ right) (name (spell (record { pointers = map (λ (n : Node). n.address) run; bytes = payload }))) block told
        → HasPlanted name b (store_now b new) session front run (m ∷ []) (fp ++ p ∷ [])
    told_from b ours next left right mf mr names planted block e told gives (unwritten which goes) = absurd (not_refused told b.limits.blocks gives which)
    told_from b ours next left right mf mr names planted block e told gives (written epoch which goes there) =
        let s : Store = store_now b old in
        let t : Store = store_now b new in
        let last : ℕ × Held = at (left ++ right) next epoch in
        let addr_is : name_of name p ≡ last.1.address = ap (λ z. name (spell z)) (sym is_block) in
        let stays : (x : ℕ × Held) → Member x (left ++ right) → Stays s t x.1.address = λ x k. goes.stays x k (member-append_left x (left ++ right) (last ∷ []) k) in
        let fp_here : ArePlanted name s fp = all_left (λ (q : Place). IsPlanted name s q.height q.bytes) fp rp planted in
        let rp_here : ArePlanted name s rp = all_right (λ (q : Place). IsPlanted name s q.height q.bytes) fp rp planted in
        let fp_there : ArePlanted name t fp = places_stay name s t front left fp (names_zip name front fp names.0) mf (λ x k. stays x (member-append_left x left right k)) fp_here in
        let rp_there : ArePlanted name t rp = places_stay name s t run right rp (names_zip name run rp names.1) mr (λ x k. stays x (member-append_right x left right k)) rp_here in
        let there_at : IsBlockAt t (name_of name p) (block_of name p) = subst (λ z. IsBlockAt t z (block_of name p)) (sym addr_is) (subst (λ z. IsBlockAt t last.1.address z) e there) in
        record {
          ours = ours;
          next = next + 1;
          fore = left;
          middle = right;
          back = last ∷ [];
          seat = subst (λ z. HasSeat t session (next + 1) z) (append_assoc left right (last ∷ [])) goes.seat;
          fronts = mf;
          spares = mr;
          lasts = ((gives_next told next epoch gives which, addr_is), tt);
          planted = all_append (λ (q : Place). IsPlanted name t q.height q.bytes) fp (p ∷ []) fp_there (children t rp_there there_at, tt);
        }

    no_entries : (xs ys : List (ℕ × Held)) → AllZip Matches [] xs → AllZip Matches [] ys → xs ++ ys ≡ []
    no_entries [] [] h k = refl
    no_entries [] (y ∷ ys) h k = absurd k
    no_entries (x ∷ xs) ys h k = absurd h

    -- what the write comes to where the store is told
    pub outcome : {C : Type 0} → (b : Began) → HasPlanted name b (store_now b old) session (front ++ run) [] [] (fp ++ rp)
        → (told : Reply) → IsJudged b.limits (store_now b old) (store_now b new) (write_above name session run payload) told
        → ((next : ℕ) (left right : List (ℕ × Held)) → AllZip Matches front left → AllZip Matches run right → (block : Block) → block ≡ block_of name p
        → IsWritten b.limits (store_now b old) (store_now b new) session next (left ++ right) (name (spell (record { pointers = map (λ (n : Node). n.address) run; bytes = payload }))) block told → C) → C
    outcome b h told j k =
        let s : Store = store_now b old in
        let t : Store = store_now b new in
        let parts : Split Matches front run h.fore = zip_split Matches front run h.fore h.fronts in
        let empty : h.middle ++ h.back ≡ [] = no_entries h.middle h.back h.spares h.lasts in
        let all_is : h.fore ++ (h.middle ++ h.back) ≡ parts.left ++ parts.right = ap (λ z. h.fore ++ z) empty ∙ (append-nil h.fore ∙ parts.whole) in
        let seat : HasSeat s session h.next (parts.left ++ parts.right) = subst (λ z. HasSeat s session h.next z) all_is h.seat in
        let counted : length (parts.left ++ parts.right) ≡ length (front ++ run) = ap (λ z. length z) (sym parts.whole) ∙ sym (zip_length Matches (front ++ run) h.fore h.fronts) in
        let within : (e : ℕ × Held) → Member e parts.right → Member e (parts.left ++ parts.right) = λ e m. member-append_right e parts.left parts.right m in
        let limit : b.limits.handles ≡ 4096 = h.ours.handles in
        let addr : Address = name (spell (record { pointers = map (λ (n : Node). n.address) run; bytes = payload })) in
        let w : IsWritten b.limits s t session h.next (parts.left ++ parts.right) addr (judging.written s session payload (map (λ (n : Node). n.handle) run)) told =
        writes_alone b.limits s t session h.next (parts.left ++ parts.right) seat payload (map (λ (n : Node). n.handle) run) addr told short
        (subst (λ z. z ≤ MOST_POINTERS) (sym (length-map run (λ (n : Node). n.handle))) few)
        (omega (arith, counted, limit, room))
        (usable s session h.next (parts.left ++ parts.right) seat run parts.right parts.second within) j in
        let block_is : judging.written s session payload (map (λ (n : Node). n.handle) run) ≡ block_of name p = written-above s session run payload (stand s session h.next (parts.left ++ parts.right) seat run parts.right parts.second within) ∙ is_block in
        k h.next parts.left parts.right parts.first parts.second (judging.written s session payload (map (λ (n : Node). n.handle) run)) block_is w

    -- where the store is told
    told_written : (b : Began) → HasPlanted name b (store_now b old) session (front ++ run) [] [] (fp ++ rp) → map (λ (n : Node). n.address) (front ++ run) ≡ map (name_of name) (fp ++ rp)
        → (told : Reply) → GivesWritten told handle → IsJudged b.limits (store_now b old) (store_now b new) (write_above name session run payload) told
        → HasPlanted name b (store_now b new) session front run (m ∷ []) (fp ++ p ∷ [])
    told_written b h names told gives j = outcome b h told j (λ next left right mf mr block e w. told_from b h.ours next left right mf mr (split_names names) h.planted block e told gives w)

    -- a refusal is one of its block
    pub refused_written : (b : Began) → HasPlanted name b (store_now b old) session (front ++ run) [] [] (fp ++ rp) → (told : Reply) → IsJudged b.limits (store_now b old) (store_now b new) (write_above name session run payload) told → grants (write_above name session run payload) told ≡ false → (key : List ℕ) → IsStoreRefusal key told × KeepsRoots (store_now b old) (store_now b new)
    unfolding grants
    refused_written b h told j refusal key = outcome b h told j (λ next left right mf mr block e w. which w)
      where
        which : {next : ℕ} {held : List (ℕ × Held)} {a : Address} {block : Block} → IsWritten b.limits (store_now b old) (store_now b new) session next held a block told → IsStoreRefusal key told × KeepsRoots (store_now b old) (store_now b new)
        which (written epoch (inl e) goes there) = let k = subst (λ z. is_written z ≡ false) e refusal in cc k
        which (written epoch (inr e) goes there) = let k = subst (λ z. is_written z ≡ false) e refusal in cc k
        which (unwritten (inl e) goes) = (subst (λ z. IsStoreRefusal key z) (sym e) tt, goes.roots)
        which (unwritten (inr e) goes) = (subst (λ z. IsStoreRefusal key z) (sym e) tt, goes.roots)

    -- a write leaves each key its root
    roots_written : (b : Began) → HasPlanted name b (store_now b old) session (front ++ run) [] [] (fp ++ rp) → (told : Reply) → IsJudged b.limits (store_now b old) (store_now b new) (write_above name session run payload) told → KeepsRoots (store_now b old) (store_now b new)
    roots_written b h told j = outcome b h told j (λ next left right mf mr block e w. which w)
      where
        which : {next : ℕ} {held : List (ℕ × Held)} {a : Address} {block : Block} → IsWritten b.limits (store_now b old) (store_now b new) session next held a block told → KeepsRoots (store_now b old) (store_now b new)
        which (written epoch how goes there) = goes.roots
        which (unwritten how goes) = goes.roots

    pub grows_above : IsGrowing name session start old (front ++ run) [] [] written_before (fp ++ rp) → IsWrittenAs old new (write_above name session run payload) handle → IsGrowing name session start new front run (m ∷ []) (written_before ++ block_of name p ∷ []) (fp ++ p ∷ [])
    grows_above h w =
        let names_all : map (λ (n : Node). n.address) (front ++ run) ≡ map (name_of name) (fp ++ rp) = ap (λ z. map (λ (n : Node). n.address) z) (sym (append-nil (front ++ run))) ∙ h.names in
        let addr_is : name (spell (record { pointers = map (λ (n : Node). n.address) run; bytes = payload })) ≡ name_of name p = ap (λ z. name (spell z)) is_block in
        let bytes_are : payload ≡ (block_of name p).bytes = ap (λ (z : Block). z.bytes) is_block in
        let nodes : length (front ++ run) ≡ length front + length run = length-append front run in
        record {
          worked = worked_more name session start old new (length (front ++ run) + 0 + 0) (length front + length run + 1) written_before (write_above name session run payload) (block_of name p ∷ []) h.worked w.told w.hears (handle, w.gives) refl (λ i. (bytes_are i, Some (addr_is i)) ∷ []) (omega (arith, room)) (omega (arith, nodes));
          going = w.hears.going;
          began = w.hears.began ∙ h.began;
          names = map-append (λ (n : Node). n.address) front (m ∷ []) ∙ (ap (λ z. z ++ name_of name p ∷ []) (split_names names_all).0 ∙ sym (map-append (name_of name) fp (p ∷ [])));
          told = both_told (λ b. HasPlanted name b (store_now b old) session (front ++ run) [] [] (fp ++ rp)) (λ b. IsJudged b.limits (store_now b old) (store_now b new) (write_above name session run payload) w.told) (λ b. HasPlanted name b (store_now b new) session front run (m ∷ []) (fp ++ p ∷ [])) old.began new.began w.hears.began (λ b x y. told_written b x names_all w.told w.gives y) h.told w.hears.judged;
          held = both_told (λ b. HasPlanted name b (store_now b old) session (front ++ run) [] [] (fp ++ rp) × AsksWithFew b session 81 start old) (λ b. IsJudged b.limits (store_now b old) (store_now b new) (write_above name session run payload) w.told) (λ b. AsksWithFew b session 81 start new) old.began new.began w.hears.began
              (λ b x y. few_then b session 81 start old new x.1 (few_one b session 81 old new (write_above name session run payload) w.told w.hears (planted_few name b (store_now b new) session front run (m ∷ []) (fp ++ p ∷ []) (told_written b x.0 names_all w.told w.gives y) (omega (arith, nodes, room)))))
              (both_at (λ b. HasPlanted name b (store_now b old) session (front ++ run) [] [] (fp ++ rp)) (λ b. AsksWithFew b session 81 start old) old.began h.told h.held) w.hears.judged;
          roots = both_told (λ b. HasPlanted name b (store_now b old) session (front ++ run) [] [] (fp ++ rp) × KeepsRoots (store_now b start) (store_now b old)) (λ b. IsJudged b.limits (store_now b old) (store_now b new) (write_above name session run payload) w.told) (λ b. KeepsRoots (store_now b start) (store_now b new)) old.began new.began w.hears.began
              (λ b x y key. roots_written b x.0 w.told y key ∙ x.1 key) (both_at (λ b. HasPlanted name b (store_now b old) session (front ++ run) [] [] (fp ++ rp)) (λ b. KeepsRoots (store_now b start) (store_now b old)) old.began h.told h.roots) w.hears.judged;
        }

  -- ---- a forget

  pub forget_told : (b : Began) (front : List Node) (x : Node) (spare last : List Node) (places : List Place) → HasPlanted name b (store_now b old) session front (x ∷ spare) last places → map (λ (n : Node). n.address) (front ++ last) ≡ map (name_of name) places → (told : Reply) → IsJudged b.limits (store_now b old) (store_now b new) (op.Forget session x.handle) told → (told ≡ reply.Ok) × HasPlanted name b (store_now b new) session front spare last places × KeepsRoots (store_now b old) (store_now b new)
  forget_told b front x spare last places h names told j = go h.middle h.spares h.seat
    where
      s : Store
      s = store_now b old

      t : Store
      t = store_now b new

      go : (middle : List (ℕ × Held)) → AllZip Matches (x ∷ spare) middle → HasSeat s session h.next (h.fore ++ (middle ++ h.back)) → (told ≡ reply.Ok) × HasPlanted name b t session front spare last places × KeepsRoots s t
      go [] z seat = absurd z
      go (e ∷ middle) z seat =
          let judged : IsJudged b.limits s t (op.Forget session e.0) told = subst (λ n. IsJudged b.limits s t (op.Forget session n) told) z.0.0 j in
          let f : IsForgot s t session h.next (h.fore ++ (e ∷ middle ++ h.back)) (h.fore ++ (middle ++ h.back)) told = forgets_alone b.limits s t session h.next (h.fore ++ (e ∷ middle ++ h.back)) seat h.fore e (middle ++ h.back) told refl judged in
          let kept : AllZip Matches (front ++ last) (h.fore ++ h.back) = zip_append Matches front h.fore last h.back h.fronts h.lasts in
          let old_member : (y : ℕ × Held) → Member y (h.fore ++ h.back) → Member y (h.fore ++ (e ∷ middle ++ h.back)) = λ y k. elim (member-append y h.fore h.back k) [ inl q ↦ member-append_left y h.fore (e ∷ middle ++ h.back) q | inr q ↦ member-append_right y h.fore (e ∷ middle ++ h.back) (inr (member-append_right y middle h.back q)) ] in
          let new_member : (y : ℕ × Held) → Member y (h.fore ++ h.back) → Member y (h.fore ++ (middle ++ h.back)) = λ y k. elim (member-append y h.fore h.back k) [ inl q ↦ member-append_left y h.fore (middle ++ h.back) q | inr q ↦ member-append_right y h.fore (middle ++ h.back) (member-append_right y middle h.back q) ] in (
            f.told_is,
            record {
              ours = h.ours;
              next = h.next;
              fore = h.fore;
              middle = middle;
              back = h.back;
              seat = f.goes.seat;
              fronts = h.fronts;
              spares = z.1;
              lasts = h.lasts;
              planted = places_stay name s t (front ++ last) (h.fore ++ h.back) places (names_zip name (front ++ last) places names) kept (λ y k. f.goes.stays y (old_member y k) (new_member y k)) h.planted;
            },
            f.goes.roots,
          )

  pub forgets_one : (front : List Node) (x : Node) (spare last : List Node) (written_before : List Block) (places : List Place) → IsGrowing name session start old front (x ∷ spare) last written_before places → Hears old new (op.Forget session x.handle) reply.Ok → IsGrowing name session start new front spare last written_before places
  forgets_one front x spare last written_before places h w = record {
    worked = subst (λ z. HasWorked name session start new (length front + length spare + length last) z) (append-nil written_before) (worked_more name session start old new (length front + length (x ∷ spare) + length last) (length front + length spare + length last) written_before (op.Forget session x.handle) [] h.worked reply.Ok w refl refl refl (let few = held_few (length front + length (x ∷ spare) + length last) h.worked.ops h.worked.balance h.worked.few in omega (arith, few)) (omega arith));
    going = w.going;
    began = w.began ∙ h.began;
    names = h.names;
    told = both_told (λ b. HasPlanted name b (store_now b old) session front (x ∷ spare) last places) (λ b. IsJudged b.limits (store_now b old) (store_now b new) (op.Forget session x.handle) reply.Ok) (λ b. HasPlanted name b (store_now b new) session front spare last places) old.began new.began w.began (λ b y z. (forget_told b front x spare last places y h.names reply.Ok z).1) h.told w.judged;
    held = both_told (λ b. HasPlanted name b (store_now b old) session front (x ∷ spare) last places × AsksWithFew b session 81 start old) (λ b. IsJudged b.limits (store_now b old) (store_now b new) (op.Forget session x.handle) reply.Ok) (λ b. AsksWithFew b session 81 start new) old.began new.began w.began
        (λ b y z. few_then b session 81 start old new y.1 (few_one b session 81 old new (op.Forget session x.handle) reply.Ok w (planted_few name b (store_now b new) session front spare last places (forget_told b front x spare last places y.0 h.names reply.Ok z).1 (let few = held_few (length front + length (x ∷ spare) + length last) h.worked.ops h.worked.balance h.worked.few in omega (arith, few)))))
        (both_at (λ b. HasPlanted name b (store_now b old) session front (x ∷ spare) last places) (λ b. AsksWithFew b session 81 start old) old.began h.told h.held) w.judged;
    roots = both_told (λ b. HasPlanted name b (store_now b old) session front (x ∷ spare) last places × KeepsRoots (store_now b start) (store_now b old)) (λ b. IsJudged b.limits (store_now b old) (store_now b new) (op.Forget session x.handle) reply.Ok) (λ b. KeepsRoots (store_now b start) (store_now b new)) old.began new.began w.began
        (λ b y z key. (forget_told b front x spare last places y.0 h.names reply.Ok z).2 key ∙ y.1 key) (both_at (λ b. HasPlanted name b (store_now b old) session front (x ∷ spare) last places) (λ b. KeepsRoots (store_now b start) (store_now b old)) old.began h.told h.roots) w.judged;
  }

  -- ---- the last is one of the rest

  pub joins : (front last : List Node) (written_before : List Block) (places : List Place) → IsGrowing name session start old front [] last written_before places → IsGrowing name session start old (front ++ last) [] [] written_before places
  joins front last written_before places h = record {
    worked = subst (λ n. HasWorked name session start old n written_before) (let both : length (front ++ last) ≡ length front + length last = length-append front last in omega (arith, both)) h.worked;
    going = h.going;
    began = h.began;
    names = ap (λ z. map (λ (n : Node). n.address) z) (append-nil (front ++ last)) ∙ h.names;
    told = where_told (λ b. HasPlanted name b (store_now b old) session front [] last places) (λ b. HasPlanted name b (store_now b old) session (front ++ last) [] [] places) old.began old.began refl (λ b k. joined b k) h.told;
    roots = h.roots;
    held = h.held;
  }
    where
      joined : (b : Began) → HasPlanted name b (store_now b old) session front [] last places → HasPlanted name b (store_now b old) session (front ++ last) [] [] places
      joined b k = go k.middle k.spares k.seat
        where
          go : (middle : List (ℕ × Held)) → AllZip Matches [] middle → HasSeat (store_now b old) session k.next (k.fore ++ (middle ++ k.back)) → HasPlanted name b (store_now b old) session (front ++ last) [] [] places
          go (e ∷ middle) z seat = absurd z
          go [] z seat = record {
            ours = k.ours;
            next = k.next;
            fore = k.fore ++ k.back;
            middle = [];
            back = [];
            seat = subst (λ z. HasSeat (store_now b old) session k.next z) (sym (append-nil (k.fore ++ k.back))) seat;
            fronts = zip_append Matches front k.fore last k.back k.fronts k.lasts;
            spares = tt;
            lasts = tt;
            planted = k.planted;
          }
