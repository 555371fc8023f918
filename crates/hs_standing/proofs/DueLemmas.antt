-- What is due is not refused.
use Rattle.std.proofs.Common.{◌≡◌, ◌⊎◌, inl, inr, ◌∙◌, ap, sym, subst, ℕ, ◌≤◌, ◌==◌, Bool, true, false, not, ◌||◌, List, [], ◌∷◌, Option, Some, None, refl, length, nat_le, is_some, arith}
use Rattle.std.proofs.lemmas.Bool.Decides.{nat_tests}
use Rattle.std.proofs.lemmas.Cmp.{nat_cmp_total, tied_itself}
use Rattle.std.proofs.lemmas.List.{get_or_past}
use Rattle.std.specs.BTreeMap.{is_at}
use Rattle.std.specs.Map.{lookup}
use Rattle.std.specs.Option.{option_map, option_map_or, option_or}
use Rattle.std.specs.Ordering.{nat_cmp, is_eq}
use Rattle.std.specs.Prelude.{drop, filter_map, find, if◌then◌else◌, slice_get, take, ◌++◌}
use Rattle.hs_core_words.specs.Asking.{no_peer, not_up}
use Rattle.hs_core_words.specs.declared.event.Event.{Event}
use Rattle.hs_core_words.specs.declared.event.Event.TheVariants as event
use Rattle.hs_core_words.specs.Looking.{first_job, leads_of, oldest_message, open_work, shape_of, status_of}
use Rattle.hs_core_words.specs.State.{Core}
use Rattle.hs_core_words.specs.Step.{line_of}
use Rattle.hs_desk.specs.declared.job.Job.{Job}
use Rattle.hs_events.specs.declared.due.Due.{Due}
use Rattle.hs_events.specs.declared.due.Due.TheVariants.{Reporting, Handling, Nudging}
use Rattle.hs_events.specs.declared.due.Place.{Place}
use Rattle.hs_events.specs.Due.{is_it, is_same_due, next_due, next_good, next_nudge, next_nudger, next_turn, turn_behind, turn_of}
use Rattle.hs_limits.specs.declared.limits.PeerStatus.{PeerStatus}
use Rattle.hs_limits.specs.declared.limits.PeerStatus.TheVariants.{Good, Joining, Down}
use Rattle.hs_members.specs.Members.{all_peers, is_down, is_good_status}
use Rattle.hs_model.specs.Refusals.{first}
use Rattle.hs_post.specs.declared.message.Message.{Message}
use Rattle.hs_post.specs.Pool.{is_for, message_at}
use Rattle.hs_told.specs.InTurn.{message_refusal}

-- the message that is due is there, and the peer that is nudged is up
abbrev pub Fits : Core → Due → Type 0
Fits core (Reporting peer) = Unit {0}
Fits core (Handling peer number) = message_refusal number (message_at number core.pool) ≡ None
Fits core (Nudging peer) = first (no_peer peer core ∷ not_up peer core ∷ []) ≡ None

-- ---- lists

found_at : (q : Message → Bool) (es : List (ℕ × Message)) (n : ℕ) → option_map (λ e. e.0) (find (λ e. q e.1) es) ≡ Some n → message_refusal n (lookup (is_at (nat_cmp n)) es) ≡ None
found_at q [] n h = absurd (cc h)
found_at q ((k, m) ∷ es) n h = by_key (λ g. found_at q es n g) (is_at (nat_cmp n) k) refl
  where
    by_test : (option_map (λ e. e.0) (find (λ e. q e.1) es) ≡ Some n → message_refusal n (lookup (is_at (nat_cmp n)) es) ≡ None)
        → (b : Bool) → q m ≡ b → is_at (nat_cmp n) k ≡ false → message_refusal n (lookup (is_at (nat_cmp n)) es) ≡ None
    by_test again true t off =
        let first_one : Some k ≡ Some n = subst (λ b. option_map (λ e. e.0) (if b then Some (k, m) else find (λ e. q e.1) es) ≡ Some n) t h in
        let same : k ≡ n = cc first_one in
        let here : is_at (nat_cmp n) n ≡ true = ap is_eq (tied_itself nat_cmp_total n) in
        let both : true ≡ false = sym here ∙ ap (λ j. is_at (nat_cmp n) j) (sym same) ∙ off in
        absurd (cc both)
    by_test again false t off = again (subst (λ b. option_map (λ e. e.0) (if b then Some (k, m) else find (λ e. q e.1) es) ≡ Some n) t h)

    by_key : (option_map (λ e. e.0) (find (λ e. q e.1) es) ≡ Some n → message_refusal n (lookup (is_at (nat_cmp n)) es) ≡ None)
        → (b : Bool) → is_at (nat_cmp n) k ≡ b → message_refusal n (lookup (is_at (nat_cmp n)) ((k, m) ∷ es)) ≡ None
    by_key again true at = rw at refl
    by_key again false off = rw off (by_test again (q m) refl off)

find_holds : (q : ℕ → Bool) (xs : List ℕ) (x : ℕ) → find q xs ≡ Some x → q x ≡ true
find_holds q [] x h = absurd (cc h)
find_holds q (y ∷ ys) x h = go (λ g. find_holds q ys x g) (q y) refl
  where
    go : (find q ys ≡ Some x → q x ≡ true) → (b : Bool) → q y ≡ b → q x ≡ true
    go again true t = let same : Some y ≡ Some x = subst (λ b. (if b then Some y else find q ys) ≡ Some x) t h in ap q (sym (let s : y ≡ x = cc same in s)) ∙ t
    go again false t = again (subst (λ b. (if b then Some y else find q ys) ≡ Some x) t h)

keeps_some : (f : ℕ → Option Due) (x : ℕ) (xs : List ℕ) (y : Due) → f x ≡ Some y → filter_map f (x ∷ xs) ≡ y ∷ filter_map f xs
keeps_some f x xs y e = rw e refl

drops_none : (f : ℕ → Option Due) (x : ℕ) (xs : List ℕ) → f x ≡ None → filter_map f (x ∷ xs) ≡ filter_map f xs
drops_none f x xs e = rw e refl

first_some : (f : ℕ → Option Due) (d : Due) (xs : List ℕ) → slice_get (filter_map f xs) 0 ≡ Some d → (x : ℕ) × (f x ≡ Some d)
first_some f d [] h = absurd (cc h)
first_some f d (x ∷ xs) h = go (λ g. first_some f d xs g) (f x) refl
  where
    go : (slice_get (filter_map f xs) 0 ≡ Some d → (x : ℕ) × (f x ≡ Some d)) → (o : Option Due) → f x ≡ o → (x : ℕ) × (f x ≡ Some d)
    go again (Some y) e = let head : Some y ≡ Some d = subst (λ ys. slice_get ys 0 ≡ Some d) (keeps_some f x xs y e) h in (x, e ∙ head)
    go again None e = again (subst (λ ys. slice_get ys 0 ≡ Some d) (drops_none f x xs e) h)

-- ---- turns

turn_fits : (core : Core) (peer : ℕ) (d : Due) → turn_of core peer ≡ Some d → Fits core d
turn_fits core peer d h = go (first_job peer core) (oldest_message peer core) refl h
  where
    go : (j : Option Job) (m : Option ℕ) → oldest_message peer core ≡ m → option_or (option_map (λ job. Reporting peer) j) (option_map (Handling peer) m) ≡ Some d → Fits core d
    go (Some job) m e k = let same : Reporting peer ≡ d = cc k in subst (λ x. Fits core x) same tt
    go None (Some n) e k = let same : Handling peer n ≡ d = cc k in subst (λ x. Fits core x) same (found_at (is_for peer (leads_of core)) core.pool.messages n e)
    go None None e k = absurd (cc k)

pub behind_fits : (peer : ℕ) (core : Core) (d : Due) → turn_behind peer core ≡ Some d → Fits core d
behind_fits peer core d h = go (is_some core.ended || is_some (first (no_peer peer core ∷ not_up peer core ∷ []))) refl
  where
    go : (b : Bool) → (is_some core.ended || is_some (first (no_peer peer core ∷ not_up peer core ∷ []))) ≡ b → Fits core d
    go true e = let none : None ≡ Some d = subst (λ b. (if b then None else turn_of core peer) ≡ Some d) e h in absurd (cc none)
    go false e = turn_fits core peer d (subst (λ b. (if b then None else turn_of core peer) ≡ Some d) e h)

-- ---- passes and nudges

good_up : (s : PeerStatus) → is_good_status s ≡ true → is_down s ≡ false
good_up Good h = refl
good_up Joining h = refl
good_up Down h = absurd (cc h)

nudge_fits : (core : Core) (peer : ℕ) → is_good_status (status_of peer core) ≡ true → Fits core (Nudging peer)
nudge_fits core peer good = go (nat_le (length core.members.statuses) peer) refl
  where
    go : (b : Bool) → nat_le (length core.members.statuses) peer ≡ b → Fits core (Nudging peer)
    go true e =
        let past : length core.members.statuses ≤ peer = grind (arith, nat_tests, e) in
        let down : status_of peer core ≡ Down = get_or_past core.members.statuses peer Down past in
        let both : false ≡ true = ap is_good_status (sym down) ∙ good in
        absurd (cc both)
    go false e = rw (e, good_up (status_of peer core) good) refl

good_next : (core : Core) (from peer : ℕ) → next_good from core ≡ Some peer → is_good_status (status_of peer core) ≡ true
good_next core from peer h = find_holds (λ p. is_good_status (status_of p core)) (drop from (all_peers (shape_of core))) peer h

good_nudger : (core : Core) (place : Place) (peer : ℕ) → next_nudger place core ≡ Some peer → is_good_status (status_of peer core) ≡ true
good_nudger core place peer h = go (next_good place.nudger core) place.progress refl h
  where
    go : (o : Option ℕ) (b : Bool) → next_good place.nudger core ≡ o → option_or o (if b then next_good 0 core else None) ≡ Some peer → is_good_status (status_of peer core) ≡ true
    go (Some p) b e k = good_next core place.nudger peer (e ∙ k)
    go None true e k = good_next core 0 peer k
    go None false e k = absurd (cc k)

pub next_fits : (place : Place) (core : Core) (d : Due) → next_due place core ≡ Some d → Fits core d
next_fits place core d h = by_turn (next_turn place core) refl h
  where
    of_turn : (b : Bool) → is_some core.ended ≡ b → next_turn place core ≡ Some d → Fits core d
    of_turn true e k = let none : None ≡ Some d = subst (λ b. (if b then None else slice_get (filter_map (turn_of core) (drop place.peer (all_peers (shape_of core)) ++ take place.peer (all_peers (shape_of core)))) 0) ≡ Some d) e k in absurd (cc none)
    of_turn false e k =
        let found : (x : ℕ) × (turn_of core x ≡ Some d) = first_some (turn_of core) d (drop place.peer (all_peers (shape_of core)) ++ take place.peer (all_peers (shape_of core))) (subst (λ b. (if b then None else slice_get (filter_map (turn_of core) (drop place.peer (all_peers (shape_of core)) ++ take place.peer (all_peers (shape_of core)))) 0) ≡ Some d) e k) in
        turn_fits core found.0 d found.1

    of_nudger : (o : Option ℕ) → next_nudger place core ≡ o → option_map Nudging o ≡ Some d → Fits core d
    of_nudger None e k = absurd (cc k)
    of_nudger (Some p) e k = let same : Nudging p ≡ d = cc k in subst (λ x. Fits core x) same (nudge_fits core p (good_nudger core place p e))

    of_nudge : (b : Bool) → (if b then None else option_map Nudging (next_nudger place core)) ≡ Some d → Fits core d
    of_nudge true k = absurd (cc k)
    of_nudge false k = of_nudger (next_nudger place core) refl k

    by_turn : (o : Option Due) → next_turn place core ≡ o → option_or o (next_nudge place core) ≡ Some d → Fits core d
    by_turn (Some x) e k = of_turn (is_some core.ended) refl (e ∙ k)
    by_turn None e k = of_nudge (is_some core.ended || not (open_work core)) k

-- ---- an event that is what is due

-- it is a report, or a message or a nudge of its line
abbrev pub IsPart : ℕ → Core → Event → Type 0
IsPart line core (event.Report peer d) = Unit {0}
IsPart line core (event.Deliver l number) = (l ≡ line) × (message_refusal number (message_at number core.pool) ≡ None)
IsPart line core (event.Nudge l peer) = (l ≡ line) × (first (no_peer peer core ∷ not_up peer core ∷ []) ≡ None)
IsPart line core other = ⊥

eqb_is : (m n : ℕ) → (m == n) ≡ true → m ≡ n
eqb_is m n h = grind (arith, nat_tests, h)

pub is_part : (line : ℕ) (core : Core) (d : Due) (e : Event) → Fits core d → is_it line core d e ≡ true → IsPart line core e
is_part line core d (event.Line l o) fits h = absurd (cc h)
is_part line core d (event.Report peer r) fits h = tt
is_part line core d (event.Turn l peer) fits h = absurd (cc h)
is_part line core d (event.Lose l number) fits h = absurd (cc h)
is_part line core d (event.Repeat l number) fits h = absurd (cc h)
is_part line core d (event.Fail l peer) fits h = absurd (cc h)
is_part line core d (event.Start l peer) fits h = absurd (cc h)
is_part line core d (event.Deliver l number) fits h = by_line (l == line) refl h
  where
    by_due : (x : Due) → Fits core x → is_same_due x (Handling 0 number) ≡ true → message_refusal number (message_at number core.pool) ≡ None
    by_due (Reporting p) f k = absurd (cc k)
    by_due (Handling p n) f k = subst (λ n. message_refusal n (message_at n core.pool) ≡ None) (eqb_is n number k) f
    by_due (Nudging p) f k = absurd (cc k)

    by_line : (b : Bool) → (l == line) ≡ b → option_map_or (is_same_due d) (if b then Some (Handling 0 number) else None) false ≡ true → IsPart line core (event.Deliver l number)
    by_line true e k = (eqb_is l line e, by_due d fits k)
    by_line false e k = absurd (cc k)
is_part line core d (event.Nudge l peer) fits h = by_line (l == line) refl h
  where
    by_due : (x : Due) → Fits core x → is_same_due x (Nudging peer) ≡ true → first (no_peer peer core ∷ not_up peer core ∷ []) ≡ None
    by_due (Reporting p) f k = absurd (cc k)
    by_due (Handling p n) f k = absurd (cc k)
    by_due (Nudging p) f k = subst (λ p. first (no_peer p core ∷ not_up p core ∷ []) ≡ None) (eqb_is p peer k) f

    by_line : (b : Bool) → (l == line) ≡ b → option_map_or (is_same_due d) (if b then Some (Nudging peer) else None) false ≡ true → IsPart line core (event.Nudge l peer)
    by_line true e k = (eqb_is l line e, by_due d fits k)
    by_line false e k = absurd (cc k)

pub part_line : (line : ℕ) (core : Core) (e : Event) → IsPart line core e → (line_of e ≡ 0) ⊎ (line_of e ≡ line)
part_line line core (event.Line l o) p = absurd p
part_line line core (event.Report peer r) p = inl refl
part_line line core (event.Turn l peer) p = absurd p
part_line line core (event.Deliver l number) p = inr p.0
part_line line core (event.Lose l number) p = absurd p
part_line line core (event.Repeat l number) p = absurd p
part_line line core (event.Nudge l peer) p = inr p.0
part_line line core (event.Fail l peer) p = absurd p
part_line line core (event.Start l peer) p = absurd p
