-- What each part of a storing does, from what its calls do.
use Rattle.std.proofs.Common.{◌≡◌, ℕ, ◌+◌, ◌<◌, ◌≤◌, List, [], ◌∷◌, ◌++◌, zero, suc, Some, refl, sym, ap, ◌∙◌, subst, map, length, take, drop, get_or, arith, append-nil, append_assoc}
use Rattle.std.proofs.lemmas.Grind.{common_steps}
use Rattle.std.proofs.lemmas.List.{map-append}
use Rattle.std.specs.Int.{to_be_bytes, w64}
use Rattle.std.specs.List.{AllByRecursion, concat, flat_map}
use Rattle.hs_asking.specs.Asked.{IsNamed}
use Rattle.hs_asking.specs.Shown.{Began, Shown, store_now}
use Rattle.hs_limits.specs.Block.{Block, spell}
use Rattle.hs_limits.specs.declared.address.Address.{Address}
use Rattle.hs_limits.specs.declared.spelling.TheConstants.{MOST_BYTES, MOST_POINTERS}
use Rattle.hs_model.proofs.Members.{Member, member-append_left, member-append_right}
use Rattle.hs_model.specs.declared.op.Op.TheVariants as op
use Rattle.hs_model.specs.declared.reply.Reply.TheVariants as reply
use Rattle.hs_tree.proofs.GrowLemmas.{is_named, stand, zip_split}
use Rattle.hs_tree.proofs.StepLemmas.{forgets_one, joins, refused_written, where_told}
use Rattle.hs_tree.proofs.StopLemmas.{fails_halts, fails_stops, forget_halts, halts_quietly, written_last}
use Rattle.hs_tree.proofs.TreeSteps.{grows_piece, grows_run, leaf_blocks, leaf_is, leaf_planted, node_is, run_blocks, run_names, run_planted}
use Rattle.hs_tree.specs.Calls.{CallFails, Hears}
use Rattle.hs_tree.specs.Growing.{HasPlanted, IsGrowing, IsGrown, IsNamedBy, Matches, Place, StandsFor, as_write, as_writes, block_of, name_of, piece_at, places_at, run_at, tree_below, write_above}
use Rattle.hs_tree.specs.Steps.{AddsPiece, CloseStops, ClosesRun, ForgetStops, Forgets, IsRun, Stops, WritesNode}
use Rattle.hs_tree.specs.Telling.{IsWrittenAs}
use Rattle.hs_tree.specs.declared.fault.TreeFault.{TreeFault}
use Rattle.hs_tree.specs.declared.fault.TreeFault.TheVariants as fault
use Rattle.hs_tree.specs.declared.grow.Node.{Node}

-- ---- a node

op_is : (name : List ℕ → Address) (session payload : List ℕ) (nodes : List Node) (addresses : List Address) (handles : List ℕ) (a : Address) → addresses ≡ map (λ (n : Node). n.address) nodes → handles ≡ map (λ (n : Node). n.handle) nodes → a ≡ name (spell (record { pointers = addresses; bytes = payload })) → op.Write session payload handles (Some a) ≡ write_above name session nodes payload
op_is name session payload nodes addresses handles a e f h =
    let addr : a ≡ name (spell (record { pointers = map (λ (n : Node). n.address) nodes; bytes = payload })) = h ∙ ap (λ (z : List Address). name (spell (record { pointers = z; bytes = payload }))) e in
    λ i. op.Write session payload (f i) (Some (addr i))

pub may_write : {tells : Type 0} → (name : List ℕ → Address) (session payload : List ℕ) (old : Shown tells) (nodes : List Node) (addresses : List Address) (handles : List ℕ) (a : Address) → length nodes ≤ MOST_POINTERS → length payload ≤ MOST_BYTES → IsNamedBy name session old nodes → addresses ≡ map (λ (n : Node). n.address) nodes → handles ≡ map (λ (n : Node). n.handle) nodes → a ≡ name (spell (record { pointers = addresses; bytes = payload })) → IsNamed old (op.Write session payload handles (Some a))
may_write name session payload old nodes addresses handles a few short named e f h =
    subst (IsNamed old) (sym (op_is name session payload nodes addresses handles a e f h)) (refl, is_named name session old nodes payload few short named)

pub wrote_node : {tells : Type 0} → (name : List ℕ → Address) (session payload : List ℕ) (old new : Shown tells) (nodes : List Node) (addresses : List Address) (handles : List ℕ) (a : Address) (handle : ℕ) → addresses ≡ map (λ (n : Node). n.address) nodes → handles ≡ map (λ (n : Node). n.handle) nodes → a ≡ name (spell (record { pointers = addresses; bytes = payload })) → IsWrittenAs old new (op.Write session payload handles (Some a)) handle → WritesNode name session old new nodes payload (record { handle = handle; address = a })
wrote_node name session payload old new nodes addresses handles a handle e f h w = record {
  answered = subst (λ z. IsWrittenAs old new z handle) (op_is name session payload nodes addresses handles a e f h) w;
  named = h ∙ ap (λ (z : List Address). name (spell (record { pointers = z; bytes = payload }))) e;
}

pub write_failed : {tells : Type 0} → (name : List ℕ → Address) (session payload : List ℕ) (old new : Shown tells) (nodes : List Node) (addresses : List Address) (handles : List ℕ) (a : Address) (f : TreeFault) → addresses ≡ map (λ (n : Node). n.address) nodes → handles ≡ map (λ (n : Node). n.handle) nodes → a ≡ name (spell (record { pointers = addresses; bytes = payload })) → CallFails old new (op.Write session payload handles (Some a)) f → CallFails old new (write_above name session nodes payload) f
write_failed name session payload old new nodes addresses handles a f e k h c = subst (λ z. CallFails old new z f) (op_is name session payload nodes addresses handles a e k h) c

-- ---- forgets in a row

take-more : (nodes : List Node) (i : ℕ) (x d : Node) → i < length nodes → x ≡ get_or nodes i d → take (i + 1) nodes ≡ take i nodes ++ x ∷ []
take-more [] i x d h e = absurd (omega (arith, h))
take-more (n ∷ ns) zero x d h e = ap (λ z. z ∷ []) (sym e)
take-more (n ∷ ns) (suc i) x d h e =
    let next : suc i + 1 ≡ suc (i + 1) = omega arith in
    ap (λ k. take k (n ∷ ns)) next ∙ ap (λ z. n ∷ z) (take-more ns i x d (omega (arith, h)) e)

drop-at : (nodes : List Node) (i : ℕ) (x d : Node) → i < length nodes → x ≡ get_or nodes i d → nodes ≡ take i nodes ++ x ∷ drop (i + 1) nodes
drop-at [] i x d h e = absurd (omega (arith, h))
drop-at (n ∷ ns) zero x d h e = ap (λ z. z ∷ ns) (sym e)
drop-at (n ∷ ns) (suc i) x d h e =
    let next : suc (i + 1) ≡ suc i + 1 = omega arith in
    ap (λ z. n ∷ z) (drop-at ns i x d (omega (arith, h)) e) ∙ ap (λ k. n ∷ (take i ns ++ x ∷ drop k (n ∷ ns))) next

take-whole : (nodes : List Node) (i : ℕ) → length nodes ≤ i → take i nodes ≡ nodes
take-whole [] i h = grind (arith, common_steps)
take-whole (n ∷ ns) zero h = absurd (omega (arith, h))
take-whole (n ∷ ns) (suc i) h = ap (λ z. n ∷ z) (take-whole ns i (omega (arith, h)))

pub forgets_none : {tells : Type 0} → (session : List ℕ) (old : Shown tells) → Forgets session old old []
forgets_none session old name start front spare last blocks places h = h

pub forgets_next : {tells : Type 0} → (session : List ℕ) (old mid new : Shown tells) (nodes : List Node) (i : ℕ) (d : Node) → i < length nodes → Forgets session old mid (take i nodes) → Hears mid new (op.Forget session (get_or nodes i d).handle) reply.Ok → Forgets session old new (take (i + 1) nodes)
forgets_next session old mid new nodes i d l f w name start front spare last blocks places h =
    let x : Node = get_or nodes i d in
    let more : take (i + 1) nodes ++ spare ≡ take i nodes ++ (x ∷ spare) = ap (λ z. z ++ spare) (take-more nodes i x d l refl) ∙ append_assoc (take i nodes) (x ∷ []) spare in
    forgets_one name session start mid new front x spare last blocks places (f name start front (x ∷ spare) last blocks places (subst (λ z. IsGrowing name session start old front z last blocks places) more h)) w

pub forgets_all : {tells : Type 0} → (session : List ℕ) (old new : Shown tells) (nodes : List Node) (i : ℕ) → length nodes ≤ i → Forgets session old new (take i nodes) → Forgets session old new nodes
forgets_all session old new nodes i h f = subst (λ z. Forgets session old new z) (take-whole nodes i h) f

pub forget_stopped : {tells : Type 0} → (session : List ℕ) (old mid new : Shown tells) (nodes : List Node) (i : ℕ) (d : Node) (f : TreeFault) → i < length nodes → Forgets session old mid (take i nodes) → CallFails mid new (op.Forget session (get_or nodes i d).handle) f → ForgetStops session old new nodes f
forget_stopped session old mid new nodes i d f l g c name key start front spare last blocks places h =
    let x : Node = get_or nodes i d in
    let parts : nodes ++ spare ≡ take i nodes ++ (x ∷ (drop (i + 1) nodes ++ spare)) = ap (λ z. z ++ spare) (drop-at nodes i x d l refl) ∙ append_assoc (take i nodes) (x ∷ drop (i + 1) nodes) spare in
    let there = g name start front (x ∷ (drop (i + 1) nodes ++ spare)) last blocks places (subst (λ z. IsGrowing name session start old front z last blocks places) parts h) in
    forget_halts name session key start mid new front x (drop (i + 1) nodes ++ spare) last blocks places f there c

-- ---- a piece

module _ {tells : Type 0} (name : List ℕ → Address) (session : List ℕ) (old new : Shown tells) (piece : List ℕ) (run : List Node) (short : length piece ≤ MOST_BYTES) where
  pub adds_piece : (made : Node) (after : List Node) → WritesNode name session old new [] piece made → after ≡ run ++ made ∷ [] → AddsPiece name session old new piece run after
  adds_piece made after w e start front places fit h =
      let grown = grows_piece name session start old new (front ++ run) places piece made.handle made.address fit.counted short fit.room h w.answered w.named in
      let nodes : (front ++ run) ++ made ∷ [] ≡ front ++ after = append_assoc front run (made ∷ []) ∙ ap (λ z. front ++ z) (sym e) in
      subst (λ z. IsGrown name session start new z (places ++ piece_at piece ∷ [])) nodes grown

  pub piece_unpushed : (made : Node) → WritesNode name session old new [] piece made → Stops name session old new piece run fault.NoMemory
  piece_unpushed made w key start front places fit h =
      let grown = adds_piece made (run ++ made ∷ []) w refl start front places fit h in
      let all : List Block = flat_map (tree_below name) (places ++ piece_at piece ∷ []) in
      halts_quietly name session key start new (front ++ (run ++ made ∷ [])) [] [] all (places ++ piece_at piece ∷ []) all fault.NoMemory tt grown [] (append-nil (as_writes name all))

  pub piece_unwritten : (f : TreeFault) → CallFails old new (write_above name session [] piece) f → Stops name session old new piece run f
  piece_unwritten f c key start front places fit h =
      let nodes : List Node = front ++ run in
      let none : nodes ++ [] ≡ nodes = append-nil nodes in
      let none_places : places ++ [] ≡ places = append-nil places in
      let before : IsGrowing name session start old (nodes ++ []) [] [] (flat_map (tree_below name) places) (places ++ []) =
      subst (λ z. IsGrowing name session start old z [] [] (flat_map (tree_below name) places) (places ++ [])) (sym none) (subst (λ z. IsGrowing name session start old nodes [] [] (flat_map (tree_below name) places) z) (sym none_places) h) in
      let room_there : length (nodes ++ []) + 1 ≤ 81 = subst (λ (z : List Node). length z + 1 ≤ 81) (sym none) fit.room in
      let written : List Block = flat_map (tree_below name) places in
      let all : List Block = flat_map (tree_below name) (places ++ piece_at piece ∷ []) in
      fails_halts name session key start old new (nodes ++ []) [] [] written (places ++ []) (write_above name session [] piece) all before refl [] (written_last name session piece [] (piece_at piece) written all (leaf_is name piece) (leaf_blocks name places piece)) f c
      (fails_stops name session key start old new (nodes ++ []) [] [] written (places ++ []) (write_above name session [] piece) f before refl (omega (arith, room_there))
      (λ b x told j refusal. refused_written name session start old new nodes [] (flat_map (tree_below name) places) places [] (piece_at piece) piece 0 fit.counted (leaf_is name piece) (λ s n there. leaf_planted name piece s n there) (omega arith) short room_there b x told j refusal key) c)

-- ---- a run

module _ {tells : Type 0} (name : List ℕ → Address) (session : List ℕ) (old : Shown tells) (bytes : ℕ) (run above : List Node) (payload : List ℕ) (counts : payload ≡ to_be_bytes w64 bytes) (few : length run ≤ MOST_POINTERS) (short : length payload ≤ MOST_BYTES) where
  run_payload : (fp : List Place) (h : ℕ) (cs : List (List ℕ)) → IsRun above fp h cs bytes → payload ≡ to_be_bytes w64 (length (concat cs))
  run_payload fp h cs r = counts ∙ ap (λ z. to_be_bytes w64 z) r.below

  written_run : (mid : Shown tells) (made : Node) → WritesNode name session old mid run payload made → (start : Shown tells) (fp : List Place) (h : ℕ) (cs : List (List ℕ)) → IsRun above fp h cs bytes → length (above ++ run) + 1 ≤ 81 → IsGrown name session start old (above ++ run) (fp ++ places_at h cs)
      → IsGrowing name session start mid above run (made ∷ []) (flat_map (tree_below name) (fp ++ run_at h cs ∷ [])) (fp ++ run_at h cs ∷ [])
  written_run mid made w start fp h cs r room g = grows_run name session start old mid above run fp h cs payload made.handle made.address r.counted r.cut (run_payload fp h cs r) few short room g w.answered w.named

  forgotten_run : (mid new : Shown tells) (made : Node) → WritesNode name session old mid run payload made → Forgets session mid new run → (start : Shown tells) (fp : List Place) (h : ℕ) (cs : List (List ℕ)) → IsRun above fp h cs bytes → length (above ++ run) + 1 ≤ 81 → IsGrown name session start old (above ++ run) (fp ++ places_at h cs)
      → IsGrown name session start new (above ++ made ∷ []) (fp ++ run_at h cs ∷ [])
  forgotten_run mid new made w f start fp h cs r room g =
      let there = written_run mid made w start fp h cs r room g in
      let ps : List Place = fp ++ run_at h cs ∷ [] in
      let blocks : List Block = flat_map (tree_below name) ps in
      let left = f name start above [] (made ∷ []) blocks ps (subst (λ z. IsGrowing name session start mid above z (made ∷ []) blocks ps) (sym (append-nil run)) there) in
      joins name session start new new above (made ∷ []) blocks ps left

  pub closes_run : (mid new : Shown tells) (made : Node) (after : List Node) → WritesNode name session old mid run payload made → Forgets session mid new run → after ≡ above ++ made ∷ [] → ClosesRun name session old new bytes run above after
  closes_run mid new made after w f e start fp h cs r room g = subst (λ z. IsGrown name session start new z (fp ++ run_at h cs ∷ [])) (sym e) (forgotten_run mid new made w f start fp h cs r room g)

  pub run_unpushed : (mid new : Shown tells) (made : Node) → WritesNode name session old mid run payload made → Forgets session mid new run → CloseStops name session old new bytes run above fault.NoMemory
  run_unpushed mid new made w f key start fp h cs r room g =
      let all : List Block = flat_map (tree_below name) (fp ++ run_at h cs ∷ []) in
      halts_quietly name session key start new (above ++ made ∷ []) [] [] all (fp ++ run_at h cs ∷ []) all fault.NoMemory tt (forgotten_run mid new made w f start fp h cs r room g) [] (append-nil (as_writes name all))

  pub run_unforgotten : (mid new : Shown tells) (made : Node) (f : TreeFault) → WritesNode name session old mid run payload made → ForgetStops session mid new run f → CloseStops name session old new bytes run above f
  run_unforgotten mid new made f w s key start fp h cs r room g =
      let there = written_run mid made w start fp h cs r room g in
      let ps : List Place = fp ++ run_at h cs ∷ [] in
      let blocks : List Block = flat_map (tree_below name) ps in
      s name key start above [] (made ∷ []) blocks ps (subst (λ z. IsGrowing name session start mid above z (made ∷ []) blocks ps) (sym (append-nil run)) there)

  pub run_unwritten : (new : Shown tells) (f : TreeFault) → CallFails old new (write_above name session run payload) f → CloseStops name session old new bytes run above f
  run_unwritten new f c key start fp h cs r room g =
      let rp : List Place = places_at h cs in
      let names_all : map (λ (n : Node). n.address) (above ++ run) ≡ map (name_of name) (fp ++ rp) = ap (λ z. map (λ (n : Node). n.address) z) (sym (append-nil (above ++ run))) ∙ g.names in
      let pointers : map (λ (n : Node). n.address) run ≡ map (name_of name) rp = run_names name above run fp rp r.counted names_all in
      let is_block : record { pointers = map (λ (n : Node). n.address) run; bytes = payload } ≡ block_of name (run_at h cs) = ap (λ (z : List ℕ). record { pointers = map (λ (n : Node). n.address) run; bytes = z }) (run_payload fp h cs r) ∙ node_is name h cs (map (λ (n : Node). n.address) run) r.cut pointers in
      let written : List Block = flat_map (tree_below name) (fp ++ rp) in
      let all : List Block = flat_map (tree_below name) (fp ++ run_at h cs ∷ []) in
      fails_halts name session key start old new (above ++ run) [] [] written (fp ++ rp) (write_above name session run payload) all g refl [] (written_last name session payload run (run_at h cs) written all is_block (run_blocks name fp h cs r.cut)) f c
      (fails_stops name session key start old new (above ++ run) [] [] written (fp ++ rp) (write_above name session run payload) f g refl (omega (arith, room))
      (λ b x told j refusal. refused_written name session start old new above run (flat_map (tree_below name) (fp ++ rp)) fp rp (run_at h cs) payload 0 r.counted is_block (λ s below there. run_planted name h cs s r.cut below there) few short room b x told j refusal key) c)

pub run_unstarted : {tells : Type 0} → (name : List ℕ → Address) (session : List ℕ) (old : Shown tells) (bytes : ℕ) (run above : List Node) → CloseStops name session old old bytes run above fault.NoMemory
run_unstarted name session old bytes run above key start fp h cs r room g =
    let written : List Block = flat_map (tree_below name) (fp ++ places_at h cs) in
    let all : List Block = flat_map (tree_below name) (fp ++ run_at h cs ∷ []) in
    halts_quietly name session key start old (above ++ run) [] [] written (fp ++ places_at h cs) all fault.NoMemory tt g (as_writes name (block_of name (run_at h cs) ∷ [])) (sym (map-append (as_write name) written (block_of name (run_at h cs) ∷ [])) ∙ ap (λ z. as_writes name z) (run_blocks name fp h cs r.cut))

pub eight_short : (payload : List ℕ) (bytes : ℕ) → payload ≡ to_be_bytes w64 bytes → length payload ≤ MOST_BYTES
eight_short payload bytes e =
    let eight : length payload ≡ 8 = ap (λ z. length z) e in
    omega (arith, eight)

-- ---- a condition of what comes next

-- the last nodes of a tree are held
pub grown_named : {tells : Type 0} → (name : List ℕ → Address) (session : List ℕ) (start now : Shown tells) (front run : List Node) (places : List Place) → IsGrown name session start now (front ++ run) places → IsNamedBy name session now run
grown_named name session start now front run places h = where_told (λ b. HasPlanted name b (store_now b now) session (front ++ run) [] [] places) (λ b. (b.name ≡ name) × AllByRecursion (StandsFor (store_now b now) session) run) now.began now.began refl go h.told
  where
    go : (b : Began) → HasPlanted name b (store_now b now) session (front ++ run) [] [] places → (b.name ≡ name) × AllByRecursion (StandsFor (store_now b now) session) run
    go b k =
        let parts = zip_split Matches front run k.fore k.fronts in
        (k.ours.named, stand (store_now b now) session k.next (k.fore ++ (k.middle ++ k.back)) k.seat run parts.right parts.second (λ e m. member-append_left e k.fore (k.middle ++ k.back) (subst (λ z. Member e z) (sym parts.whole) (member-append_right e parts.left parts.right m))))
