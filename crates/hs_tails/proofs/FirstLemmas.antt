-- What takes effect by an event waited first as it began: what single changes of lists keep of that.
use Rattle.std.proofs.Common.{◌≡◌, ◌∙◌, ap, sym, subst, ◌⊎◌, inl, inr, ℕ, suc, ◌+◌, ◌-◌, ◌<◌, ◌≤◌, Bool, true, false, cond, List, [], ◌∷◌, ◌++◌, Some, None, refl, arith, append_assoc, append-nil, drop, length, length-append, take, nat_lt}
use Rattle.std.proofs.lemmas.Bool.{ltb-true}
use Rattle.std.proofs.lemmas.List.{take-append-drop, take-append-le}
use Rattle.std.specs.Option.{option_map, option_map_or}
use Rattle.std.specs.Prelude.{slice_get}
use Rattle.hs_core_words.specs.Changing.{change_group, post, set_viewed}
use Rattle.hs_core_words.specs.Looking.{front_of, group_of, shape_of}
use Rattle.hs_core_words.specs.State.{Core}
use Rattle.hs_core_words.specs.Views.{begin_view, restart}
use Rattle.hs_effects.proofs.EffectLemmas.{taken_here}
use Rattle.hs_effects.proofs.GroupLemmas.{IsFirst, committed_first, group_changed}
use Rattle.hs_effects.specs.Taking.{taken}
use Rattle.hs_entry.specs.declared.entry.Entry.{Entry}
use Rattle.hs_entry.specs.declared.entry.Entry.TheVariants as kind
use Rattle.hs_fold.proofs.Shards.PlaceLemmas.{other-at}
use Rattle.hs_members.specs.Members.{view_of}
use Rattle.hs_replica.specs.Group.{Group, commit_front, committed, last_number, lead, length_of, new_group, renew, renewal, take_committed, told}
use Rattle.hs_standing.proofs.GrownLemmas.{Grown, grown_proposes}
use Rattle.hs_standing.proofs.KnownLemmas.{taken_front, viewed_known}
use Rattle.hs_standing.proofs.RoomyLemmas.{IsGoodCopy}

-- what is committed of a shard is there, and with what took effect it waited first as an event began
pub record IsListed (s : Core) (took : List Entry) (g : ℕ) (a : Core) : Type 0 where
  pub within : commit_front (group_of g a) ≤ last_number (group_of g a)
  pub rest : List Entry
  pub parts : (group_of g s).waiting ≡ took ++ (take (commit_front (group_of g a) - front_of g a) (group_of g a).waiting ++ rest)

-- ---- entries come behind

grown_left : (k f k' f' : ℕ) → k' ≡ k → f' ≡ f → k' - f' ≡ k - f
grown_left k f k' f' a b = omega (arith, a, b)

pub listed_grown : (s : Core) (took : List Entry) (g : ℕ) (a b : Core) → Grown a b → IsListed s took g a → IsListed s took g b
listed_grown s took g a b p h =
    let more = p.waiting g in
    let left : ℕ = commit_front (group_of g a) - front_of g a in
    let known = p.known g in
    let front = p.front g in
    let long : length (group_of g b).waiting ≡ length (group_of g a).waiting + length more.0 = ap (λ (ws : List Entry). length ws) more.1 ∙ length-append (group_of g a).waiting more.0 in
    let within = h.within in
    let same : take (commit_front (group_of g b) - front_of g b) (group_of g b).waiting ≡ take left (group_of g a).waiting =
    ap (λ k. take k (group_of g b).waiting) (grown_left (commit_front (group_of g a)) (front_of g a) (commit_front (group_of g b)) (front_of g b) known front)
    ∙ ap (λ (ws : List Entry). take left ws) more.1 ∙ take-append-le left (group_of g a).waiting more.0 (omega (arith, within)) in
    record {
      within = omega (arith, within, known, front, long);
      rest = h.rest;
      parts = h.parts ∙ ap (λ (ws : List Entry). took ++ (ws ++ h.rest)) (sym same);
    }

-- ---- an entry takes effect

some_entry : (x y : Entry) → Some x ≡ Some y → x ≡ y
some_entry x y e = cc e

pub first_is : (entries : List Entry) (entry : Entry) → slice_get entries 0 ≡ Some entry → entries ≡ entry ∷ drop 1 entries
first_is [] entry e = absurd (cc e)
first_is (x ∷ entries) entry e = ap (λ y. y ∷ entries) (some_entry x entry e)

pub committed_known : (group : Group) (x : ℕ × Entry) → committed group ≡ Some x → group.front < commit_front group
committed_known group x next = go (nat_lt group.front (commit_front group)) refl next
  where
    go : (b : Bool) → nat_lt group.front (commit_front group) ≡ b → cond b (option_map (λ (entry : Entry). (group.front + 1, entry)) (slice_get group.waiting 0)) None ≡ Some x → group.front < commit_front group
    go true low e = ltb-true group.front (commit_front group) low
    go false high e = absurd (cc e)

one_left : (k f k' f' : ℕ) → f < k → k' ≡ k → f' ≡ f + 1 → k - f ≡ suc (k' - f')
one_left k f k' f' low a b = omega (arith, low, a, b)

module _ (s : Core) (shard number : ℕ) (entry : Entry) (c : Core) (next : committed (group_of shard c) ≡ Some (number, entry)) where
  one : IsFirst (group_of shard c) number entry
  one = committed_first (group_of shard c) number entry next

  waits : (group_of shard c).waiting ≡ entry ∷ drop 1 (group_of shard c).waiting
  waits = first_is (group_of shard c).waiting entry one.first

  waits_then : (group_of shard (taken shard entry c)).waiting ≡ drop 1 (group_of shard c).waiting
  waits_then = ap (λ (x : Group). x.waiting) (taken_here shard number entry c next) ∙ one.taken.waiting

  front_then : front_of shard (taken shard entry c) ≡ front_of shard c + 1
  front_then = ap (λ (x : Group). x.front) (taken_here shard number entry c next) ∙ one.taken.front

  known_then : commit_front (group_of shard (taken shard entry c)) ≡ commit_front (group_of shard c)
  known_then = ap commit_front (taken_here shard number entry c next) ∙ taken_front (group_of shard c)

  pub listed_taken : (took : List Entry) → IsListed s took shard c → IsListed s (took ++ entry ∷ []) shard (taken shard entry c)
  listed_taken took h =
      let then : Core = taken shard entry c in
      let left : ℕ = commit_front (group_of shard then) - front_of shard then in
      let rest : List Entry = drop 1 (group_of shard c).waiting in
      let more : commit_front (group_of shard c) - front_of shard c ≡ suc (commit_front (group_of shard then) - front_of shard then) =
      one_left (commit_front (group_of shard c)) (front_of shard c) (commit_front (group_of shard then)) (front_of shard then) (committed_known (group_of shard c) (number, entry) next) known_then front_then in
      let all : take (commit_front (group_of shard c) - front_of shard c) (group_of shard c).waiting ≡ entry ∷ take left (group_of shard then).waiting =
      ap (λ k. take k (group_of shard c).waiting) more ∙ ap (λ (ws : List Entry). take (suc left) ws) waits ∙ ap (λ (ws : List Entry). entry ∷ take left ws) (sym waits_then) in
      let within = h.within in
      let known = known_then in
      let front = front_then in
      let long = ap (λ (ws : List Entry). length ws) waits in
      let long_then = ap (λ (ws : List Entry). length ws) waits_then in
      record {
        within = omega (arith, within, known, front, long, long_then);
        rest = h.rest;
        parts = h.parts ∙ ap (λ (ws : List Entry). took ++ (ws ++ h.rest)) all ∙ sym (append_assoc took (entry ∷ []) (take left (group_of shard then).waiting ++ h.rest));
      }

  pub listed_other : (g : ℕ) → (g ≡ shard → ⊥) → (took : List Entry) → IsListed s took g c → IsListed s took g (taken shard entry c)
  listed_other g apart took h =
      let same : group_of g (taken shard entry c) ≡ group_of g c = other-at (new_group (shape_of c) g 0 0 []) c.groups shard g (take_committed (group_of shard c)) apart in
      record {
        within = subst (λ (x : Group). commit_front x ≤ last_number x) (sym same) h.within;
        rest = h.rest;
        parts = subst (λ (x : Group). (group_of g s).waiting ≡ took ++ (take (commit_front x - x.front) x.waiting ++ h.rest)) (sym same) h.parts;
      }

-- ---- what comes first: nothing has taken effect yet, and what is committed is of the list that is left of the old one

pub record IsFresh (s : Core) (g : ℕ) (b : Core) : Type 0 where
  pub front : front_of g b ≡ front_of g s
  pub kept : List Entry
  pub new : List Entry
  pub rest : List Entry
  pub waits : (group_of g b).waiting ≡ kept ++ new
  pub was : (group_of g s).waiting ≡ kept ++ rest
  pub known : commit_front (group_of g b) ≤ front_of g b + length kept

pub fresh_listed : (s : Core) (g : ℕ) (b : Core) → IsFresh s g b → IsListed s [] g b
fresh_listed s g b f =
    let left : ℕ = commit_front (group_of g b) - front_of g b in
    let known = f.known in
    let long : length (group_of g b).waiting ≡ length f.kept + length f.new = ap (λ (ws : List Entry). length ws) f.waits ∙ length-append f.kept f.new in
    let same : take left (group_of g b).waiting ≡ take left f.kept = ap (λ (ws : List Entry). take left ws) f.waits ∙ take-append-le left f.kept f.new (omega (arith, known)) in
    record {
      within = omega (arith, known, long);
      rest = drop left f.kept ++ f.rest;
      parts = f.was ∙ ap (λ (ws : List Entry). ws ++ f.rest) (sym (take-append-drop left f.kept)) ∙ append_assoc (take left f.kept) (drop left f.kept) f.rest
          ∙ ap (λ (ws : List Entry). ws ++ (drop left f.kept ++ f.rest)) (sym same);
    }

-- the list is as it was
pub fresh_same : (s : Core) (g : ℕ) (b : Core) → (group_of g b).waiting ≡ (group_of g s).waiting → front_of g b ≡ front_of g s → commit_front (group_of g b) ≤ last_number (group_of g b) → IsFresh s g b
fresh_same s g b waits front within = record {
  front = front;
  kept = (group_of g s).waiting;
  new = [];
  rest = [];
  waits = waits ∙ sym (append-nil (group_of g s).waiting);
  was = sym (append-nil (group_of g s).waiting);
  known = (let long = ap (λ (ws : List Entry). length ws) waits in omega (arith, within, long));
}

pub fresh_grown : (s : Core) (g : ℕ) (a b : Core) → Grown a b → IsFresh s g a → IsFresh s g b
fresh_grown s g a b p f =
    let more = p.waiting g in
    let known = p.known g in
    let front = p.front g in
    let before = f.known in
    record {
      front = front ∙ f.front;
      kept = f.kept;
      new = f.new ++ more.0;
      rest = f.rest;
      waits = more.1 ∙ ap (λ (ws : List Entry). ws ++ more.0) f.waits ∙ append_assoc f.kept f.new more.0;
      was = f.was;
      known = omega (arith, known, front, before);
    }

-- a view begins in a shard that has a good copy, before anything has taken effect or come to wait
pub fresh_view : (s : Core) (shard place : ℕ) (c : Core) → ((g : ℕ) → (group_of g c).waiting ≡ (group_of g s).waiting) → ((g : ℕ) → front_of g c ≡ front_of g s) → ((g : ℕ) → commit_front (group_of g c) ≤ last_number (group_of g c))
    → IsGoodCopy (group_of shard c) c.members place → (g : ℕ) → IsFresh s g (begin_view shard c)
fresh_view s shard place c waits fronts within copy g = fresh_grown s g posted (begin_view shard c) (grown_proposes shard (kind.View (view_of shard c.members)) posted) (cut_by (group_changed shard (renew c.members) (set_viewed shard false c) g))
  where
    cut : Core
    cut = change_group shard (renew c.members) (set_viewed shard false c)

    posted : Core
    posted = post (renewal (group_of shard (restart shard cut))) (restart shard cut)

    cut_by : (group_of g (change_group shard (renew c.members) (set_viewed shard false c)) ≡ group_of g c) ⊎ ((g ≡ shard) × (group_of g (change_group shard (renew c.members) (set_viewed shard false c)) ≡ renew c.members (group_of shard c))) → IsFresh s g posted
    cut_by (inl is) =
        fresh_same s g posted (ap (λ (x : Group). x.waiting) is ∙ waits g) (ap (λ (x : Group). x.front) is ∙ fronts g) (subst (λ (x : Group). commit_front x ≤ last_number x) (sym is) (within g))
    cut_by (inr is) =
        let x : Group = group_of shard c in
        let n : ℕ = option_map_or (length_of (told c.members x)) (lead (told c.members x)) 0 - x.front in
        let old : (group_of g s).waiting ≡ x.waiting = ap (λ k. (group_of k s).waiting) is.0 ∙ sym (waits shard) in
        record {
          front = ap (λ (y : Group). y.front) is.1 ∙ fronts shard ∙ ap (λ k. front_of k s) (sym is.0);
          kept = take n x.waiting;
          new = [];
          rest = drop n x.waiting;
          waits = ap (λ (y : Group). y.waiting) is.1 ∙ sym (append-nil (take n x.waiting));
          was = old ∙ sym (take-append-drop n x.waiting);
          known = subst (λ (y : Group). commit_front y ≤ y.front + length (take n x.waiting)) (sym is.1) (viewed_known c.members x place copy.low copy.good copy.own copy.all);
        }
