-- What a root keeps stays, as long as its key is not dropped.
use Rattle.std.proofs.Common.{◌≡◌, ℕ, ◌+◌, List, [], ◌∷◌, Option, Some, None, Bool, true, false, refl, sym, ap, ◌∙◌, subst, is_none, bytes_eq, ◌&&◌, if◌then◌else◌, slice_index, slice_set}
use Rattle.std.proofs.lemmas.Bool.{and_parts}
use Rattle.std.proofs.lemmas.Slice.Eq.{bytes_eq-Decides}
use Rattle.std.specs.List.{AllByRecursion}
use Rattle.std.specs.Option.{option_map}
use Rattle.std.specs.Ordering.{is_gt}
use Rattle.std.specs.Prelude.{find}
use Rattle.hs_asking.proofs.SaneLemmas.{step_more, step_sane}
use Rattle.hs_asking.proofs.SeatLemmas.{put-roots}
use Rattle.hs_asking.proofs.StayLemmas.{find-filter, kept_whole, retained_stays, stays-refl, stays-trans, stays_where_both}
use Rattle.hs_asking.specs.Seats.{IsSane}
use Rattle.hs_asking.specs.Staying.{NeverDrops, NotDropping, Stays, by_root}
use Rattle.hs_laws.proofs.ValidLemmas.{valid_from_is}
use Rattle.hs_limits.specs.declared.address.Address.{Address}
use Rattle.hs_limits.specs.declared.limits.Limits.{Limits}
use Rattle.hs_model.proofs.JudgeLemmas.{judge_granted, judge_refused}
use Rattle.hs_model.specs.Inner.{enter, stays}
use Rattle.hs_model.specs.Judge.{address_of, drop_root, given_address, granted, judge, refusals, roots_with, written}
use Rattle.hs_model.specs.Refusals.{first}
use Rattle.hs_model.specs.Run.{Event, IsLegal, asks, enters, run, step, sweeps}
use Rattle.hs_model.specs.Store.{Root, Session, Store, epoch_at, holding_all, is_retained, place_root, put_session, retained_at, root_cmp, root_epoch, session_at, with_block, without_first}
use Rattle.hs_model.specs.declared.op.Op.{Op}
use Rattle.hs_model.specs.declared.op.Op.TheVariants as op
use Rattle.hs_model.specs.declared.reply.Reply.{Reply}

pub enter_retained : (s : Store) (shard : ℕ) (key : List ℕ) → retained_at (enter s shard) key ≡ retained_at s key
enter_retained s shard key =
    let entered : Store = record s { epochs = slice_set s.epochs shard (slice_index s.epochs shard + 1) } in
    find-filter (is_retained key) (stays entered) (λ root t. retained_stays entered key root t) s.roots

find_past_placed : (test : Root → Bool) (root : Root) → test root ≡ false → (roots : List Root) → find test (place_root root roots) ≡ find test roots
find_past_placed test root t [] = rw t refl
find_past_placed test root t (r ∷ roots) = go (find_past_placed test root t roots) (is_gt (root_cmp root r)) (test r) refl
  where
    go : find test (place_root root roots) ≡ find test roots → (c : Bool) → (b : Bool) → test r ≡ b → find test (if c then r ∷ place_root root roots else root ∷ r ∷ roots) ≡ find test (r ∷ roots)
    go ih true true e = rw e refl
    go ih true false e = rw e ih
    go ih false b e = rw t refl

find_placed_behind : (test : Root → Bool) (root kept : Root) → (roots : List Root) → find test roots ≡ Some kept → test root ≡ false → find test (place_root root roots) ≡ Some kept
find_placed_behind test root kept roots h t = find_past_placed test root t roots ∙ h

find_without : (test other : Root → Bool) → ((r : Root) → other r ≡ true → test r ≡ false) → (roots : List Root) → find test (without_first other roots) ≡ find test roots
find_without test other f [] = refl
find_without test other f (r ∷ roots) = go (find_without test other f roots) (other r) refl (test r) refl
  where
    go : find test (without_first other roots) ≡ find test roots → (c : Bool) → other r ≡ c → (b : Bool) → test r ≡ b → find test (without_first other (r ∷ roots)) ≡ find test (r ∷ roots)
    go ih true e true t = let k = f r e in cc (k, t)
    go ih true e false t = rw (e, t) refl
    go ih false e true t = rw (e, t) refl
    go ih false e false t = rw (e, t) ih

other_key : (key taken : List ℕ) → (taken ≡ key → ⊥) → (r : Root) → is_retained taken r ≡ true → is_retained key r ≡ false
other_key key taken n r t = go (bytes_eq r.key key) refl
  where
    both : bytes_eq r.key taken ≡ true
    both = (and_parts (is_none r.dropped) (bytes_eq r.key taken) t).1

    go : (b : Bool) → bytes_eq r.key key ≡ b → is_retained key r ≡ false
    go true e = absurd (n (sym ((bytes_eq-Decides r.key taken).0 both) ∙ (bytes_eq-Decides r.key key).0 e))
    go false e = and_no (is_none r.dropped) (bytes_eq r.key key) e
      where
        and_no : (a b : Bool) → b ≡ false → (a && b) ≡ false
        and_no true b e = e
        and_no false b e = refl

put_retained : (t : Store) (name key : List ℕ) (session : Option Session) → retained_at (put_session t name session) key ≡ retained_at t key
put_retained t name key session = ap (λ x. find (is_retained key) x) (put-roots t name session)

-- a root that is retained stays so
module _ (limits : Limits) (s : Store) (key : List ℕ) (root : Root) (kept : retained_at s key ≡ Some root) where
  drops : (taken : List ℕ) → (taken ≡ key → ⊥) → (found : Option Root) → find (is_retained key) (drop_root found s.roots taken (root_epoch s taken)) ≡ Some root
  drops taken n None = kept
  drops taken n (Some r) = find_past_placed (is_retained key) (record r { dropped = Some (root_epoch s taken) }) refl (without_first (is_retained taken) s.roots) ∙ (find_without (is_retained key) (is_retained taken) (other_key key taken n) s.roots ∙ kept)

  roots_it : (taken : List ℕ) (a : Address) → (b : Bool) → bytes_eq taken key ≡ b → (found : Option Root) → retained_at s taken ≡ found → find (is_retained key) (roots_with found s.roots (record { key = taken; address = a; dropped = None })) ≡ Some root
  roots_it taken a b e (Some r) f = kept
  roots_it taken a false e None f = find_past_placed (is_retained key) (record { key = taken; address = a; dropped = None }) e s.roots ∙ kept
  roots_it taken a true e None f =
      let same : taken ≡ key = (bytes_eq-Decides taken key).0 e in
      let none : retained_at s key ≡ None = subst (λ k. retained_at s k ≡ None) same f in
      cc (none, kept)

  granted_keeps : (o : Op) → NotDropping key o → retained_at (granted s o).store key ≡ Some root
  unfolding granted
  granted_keeps (op.Open name) n = kept
  granted_keeps (op.Close name) n = kept
  granted_keeps (op.Write name payload handles address) n = put_retained (with_block s (given_address address) (written s name payload handles)) name key (option_map (holding_all (record { address = given_address address; epoch = epoch_at s (given_address address) } ∷ [])) (session_at s name)) ∙ kept
  granted_keeps (op.Read name handle) n = ap (λ x. find (is_retained key) x) (put-roots s name _) ∙ kept
  granted_keeps (op.Look name k) n = ap (λ x. find (is_retained key) x) (put-roots s name _) ∙ kept
  granted_keeps (op.Root name k handle) n = roots_it k (address_of s name handle) (bytes_eq k key) refl (retained_at s k) refl
  granted_keeps (op.Drop k) n = drops k n (retained_at s k)
  granted_keeps (op.Forget name handle) n = ap (λ x. find (is_retained key) x) (put-roots s name _) ∙ kept
  granted_keeps (op.Name name handle) n = kept
  granted_keeps op.Delete n = enter_retained s 0 key ∙ kept
  granted_keeps op.Stat n = kept

  judge_keeps : (o : Op) → NotDropping key o → retained_at (judge limits s o).store key ≡ Some root
  judge_keeps o n = go (first (refusals limits s o)) refl
    where
      go : (found : Option Reply) → first (refusals limits s o) ≡ found → retained_at (judge limits s o).store key ≡ Some root
      go (Some r) e = ap (λ x. retained_at x.store key) (judge_refused limits s o r e) ∙ kept
      go None e = ap (λ x. retained_at x.store key) (judge_granted limits s o e) ∙ granted_keeps o n

  pub step_keeps : (e : Event) → NeverDrops key e → retained_at (step limits s e).store key ≡ Some root
  step_keeps (asks o) n = judge_keeps o n
  step_keeps (enters shard) n = enter_retained s shard key ∙ kept
  step_keeps (sweeps shard) n = kept

-- and all that it leads to
pub root_stays : (limits : Limits) (s : Store) (es : List Event) (key : List ℕ) (root : Root) → IsSane s → IsLegal limits s es → AllByRecursion (NeverDrops key) es → retained_at s key ≡ Some root → (retained_at (run limits s es) key ≡ Some root) × Stays s (run limits s es) root.address
root_stays limits s [] key root sane legal never kept = (kept, stays-refl s root.address)
root_stays limits s (e ∷ es) key root sane legal never kept =
    let t : Store = (step limits s e).store in
    let after : IsSane t = step_sane limits s e legal.0 sane in
    let there : retained_at t key ≡ Some root = step_keeps limits s key root kept e never.0 in
    let once : Stays s t root.address = stays_where_both s t root.address (kept_whole s (valid_from_is s sane.valid) root.address (by_root key root kept refl)) (kept_whole t (valid_from_is t after.valid) root.address (by_root key root there refl)) (step_more limits s e sane.distinct).same in
    let rest = root_stays limits t es key root after legal.1 never.1 there in
    (rest.0, stays-trans s t (run limits t es) root.address once rest.1)
