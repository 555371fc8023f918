-- Room for entries that wait: what each change leaves of it.
use Rattle.std.proofs.Common.{◌≡◌, ◌∙◌, sym, ap, subst, ◌⊎◌, inl, inr, ℕ, ◌+◌, ◌<◌, ◌≤◌, Bool, true, false, cond, not, ◌||◌, List, [], ◌∷◌, length, drop, take, count_by, Some, None, refl, arith, nat_lt, slice_get}
use Rattle.std.proofs.lemmas.Bool.{ltb-true}
use Rattle.std.proofs.lemmas.List.Sums.{sum_by-cons, sum_by-take-drop, sum_by-take-le, sum_by_push}
use Rattle.hs_core_words.specs.Changing.{change_group}
use Rattle.hs_core_words.specs.Looking.{catalogue_of, group_of}
use Rattle.hs_core_words.specs.Pending.{is_coming, is_crowded, is_pending}
use Rattle.hs_core_words.specs.State.{Core}
use Rattle.hs_effects.specs.Logged.{IsEntryOf, asked_by}
use Rattle.hs_effects.specs.Room.{Fit, HasRoom}
use Rattle.hs_effects.proofs.GroupLemmas.{IsTaken, group_changed, taken_or_same}
use Rattle.hs_entry.specs.declared.entry.Entry.{Entry}
use Rattle.hs_entry.specs.declared.entry.Entry.TheVariants as kind
use Rattle.hs_limits.specs.declared.address.Address.{Address}
use Rattle.hs_limits.specs.declared.limits.Limits.{Limits}
use Rattle.hs_model.specs.declared.op.Op.{Op}
use Rattle.hs_model.specs.declared.op.Op.TheVariants as op
use Rattle.hs_replica.specs.Group.{Group, propose, take_committed}
use Rattle.hs_replica.specs.Kinds.{is_block, is_root}
use Rattle.hs_roots.specs.Roots.{retained_count}
use Rattle.hs_shard.specs.Facts.{Catalogue}
use Rattle.hs_tokens.specs.Seats.{Seats}

-- ---- what fits

fewer : (less more held limit : ℕ) → less ≤ more → Fit more held limit → Fit less held limit
fewer less more held limit low (inl none) = inl (omega (arith, low, none))
fewer less more held limit low (inr fits) = inr (omega (arith, low, fits))

fit_is : (m n h k l x : ℕ) → n ≡ m → k ≡ h → x ≡ l → Fit m h l → Fit n k x
fit_is m n h k l x em eh el (inl none) = inl (em ∙ none)
fit_is m n h k l x em eh el (inr fits) = inr (omega (arith, em, eh, el, fits))

grown : (b : Bool) (more held limit : ℕ) → (b ≡ true → held + more < limit) → Fit more held limit → Fit (more + cond b 1 0) held limit
grown true more held limit low fits = let l = low refl in inr (omega (arith, l))
grown false more held limit low fits = fewer (more + 0) more held limit (omega arith) fits

-- the first of those that wait is held
pub one_less : (rest one held now limit : ℕ) → now ≤ held + one → Fit (one + rest) held limit → Fit rest now limit
one_less rest one held now limit low (inl none) = inl (omega (arith, none))
one_less rest one held now limit low (inr fits) = inr (omega (arith, low, fits))

-- where one waits, it fits
pub one_fits : (rest held limit : ℕ) → Fit (1 + rest) held limit → held < limit
one_fits rest held limit (inl none) = absurd (omega (arith, none))
one_fits rest held limit (inr fits) = omega (arith, fits)

pub first_counts : (p : Entry → Bool) (xs : List Entry) (x : Entry) → slice_get xs 0 ≡ Some x → count_by p xs ≡ cond (p x) 1 0 + count_by p (drop 1 xs)
first_counts p [] x e = absurd (cc e)
first_counts p (y ∷ xs) x e =
    let is : y ≡ x = cc e in
    sum_by-cons (λ z. cond (p z) 1 0) y xs ∙ ap (λ z. cond (p z) 1 0 + count_by p xs) is

drop_counts : (p : Entry → Bool) (xs : List Entry) → count_by p (drop 1 xs) ≤ count_by p xs
drop_counts p xs = let all = sum_by-take-drop (λ z. cond (p z) 1 0) xs 1 in omega (arith, all)

-- ---- each shard

abbrev pub AreRoomy : Core → Type 0
AreRoomy core = (shard : ℕ) → HasRoom core shard

pub alike_room : (a b : Core) (g : ℕ) → b.limits ≡ a.limits → (group_of g b).waiting ≡ (group_of g a).waiting → catalogue_of g b ≡ catalogue_of g a → HasRoom a g → HasRoom b g
alike_room a b g limits waiting catalogue r = record {
  blocks = fit_is _ _ _ _ _ _ (ap (λ es. count_by is_block es) waiting) (ap (λ (c : Catalogue). length c.blocks) catalogue) (ap (λ (l : Limits). l.blocks) limits) r.blocks;
  roots = fit_is _ _ _ _ _ _ (ap (λ es. count_by is_root es) waiting) (ap (λ (c : Catalogue). retained_count c.roots) catalogue) (ap (λ (l : Limits). l.roots) limits) r.roots;
}

-- fewer wait
fewer_room : (a b : Core) (g : ℕ) → b.limits ≡ a.limits → catalogue_of g b ≡ catalogue_of g a
    → count_by is_block (group_of g b).waiting ≤ count_by is_block (group_of g a).waiting → count_by is_root (group_of g b).waiting ≤ count_by is_root (group_of g a).waiting → HasRoom a g → HasRoom b g
fewer_room a b g limits catalogue blocks roots r = record {
  blocks = fit_is _ _ _ _ _ _ refl (ap (λ (c : Catalogue). length c.blocks) catalogue) (ap (λ (l : Limits). l.blocks) limits) (fewer _ _ _ _ blocks r.blocks);
  roots = fit_is _ _ _ _ _ _ refl (ap (λ (c : Catalogue). retained_count c.roots) catalogue) (ap (λ (l : Limits). l.roots) limits) (fewer _ _ _ _ roots r.roots);
}

-- ---- an entry more

-- there is room for an entry beside those that wait
pub record HasPlace (core : Core) (shard : ℕ) (entry : Entry) : Type 0 where
  pub blocks : is_block entry ≡ true → length (catalogue_of shard core).blocks + count_by is_block (group_of shard core).waiting < core.limits.blocks
  pub roots : is_root entry ≡ true → retained_count (catalogue_of shard core).roots + count_by is_root (group_of shard core).waiting < core.limits.roots

pub listed_room : (shard : ℕ) (entry : Entry) (c : Core) → HasPlace c shard entry → AreRoomy c → AreRoomy (change_group shard (propose entry) c)
listed_room shard entry c place its g = go (group_changed shard (propose entry) c g)
  where
    new : Core
    new = change_group shard (propose entry) c

    more : (p : Entry → Bool) → group_of shard new ≡ propose entry (group_of shard c) → count_by p (group_of shard new).waiting ≡ count_by p (group_of shard c).waiting + cond (p entry) 1 0
    more p is = ap (λ (x : Group). count_by p x.waiting) is ∙ sum_by_push (λ z. cond (p z) 1 0) (group_of shard c).waiting entry

    here : group_of shard new ≡ propose entry (group_of shard c) → HasRoom new shard
    here is = record {
      blocks = fit_is _ _ _ _ _ _ (more is_block is) refl refl (grown (is_block entry) (count_by is_block (group_of shard c).waiting) _ _ place.blocks (its shard).blocks);
      roots = fit_is _ _ _ _ _ _ (more is_root is) refl refl (grown (is_root entry) (count_by is_root (group_of shard c).waiting) _ _ place.roots (its shard).roots);
    }

    go : (group_of g (change_group shard (propose entry) c) ≡ group_of g c) ⊎ ((g ≡ shard) × (group_of g (change_group shard (propose entry) c) ≡ propose entry (group_of shard c))) → HasRoom (change_group shard (propose entry) c) g
    go (inl same) = alike_room c new g refl (ap (λ (x : Group). x.waiting) same) refl (its g)
    go (inr is) = subst (λ j. HasRoom (change_group shard (propose entry) c) j) (sym is.0) (here (ap (λ k. group_of k new) (sym is.0) ∙ is.1))

-- one that no operation asked for needs none
pub own_place : (c : Core) (shard : ℕ) (entry : Entry) → asked_by entry ≡ None → HasPlace c shard entry
own_place c shard entry none = record { blocks = λ e. absurd (no_block entry none e); roots = λ e. absurd (no_root entry none e) }
  where
    no_block : (x : Entry) → asked_by x ≡ None → is_block x ≡ true → ⊥
    no_block (kind.Block line least bytes) n e = cc n
    no_block (kind.View view) n e = cc e
    no_block (kind.Mark line least block a) n e = cc e
    no_block (kind.Root line held a key) n e = cc e
    no_block (kind.Drop line key) n e = cc e
    no_block (kind.Enter line epoch) n e = cc e
    no_block (kind.Got from epoch round total deltas) n e = cc e
    no_block (kind.Base view epoch swept round frames) n e = cc e
    no_block (kind.KeptBlock born mark flags count bytes) n e = cc e
    no_block (kind.KeptRoot created dropped counted address key) n e = cc e
    no_block (kind.KeptRound way other epoch round total deltas) n e = cc e

    no_root : (x : Entry) → asked_by x ≡ None → is_root x ≡ true → ⊥
    no_root (kind.Root line held a key) n e = cc n
    no_root (kind.Block line least bytes) n e = cc e
    no_root (kind.View view) n e = cc e
    no_root (kind.Mark line least block a) n e = cc e
    no_root (kind.Drop line key) n e = cc e
    no_root (kind.Enter line epoch) n e = cc e
    no_root (kind.Got from epoch round total deltas) n e = cc e
    no_root (kind.Base view epoch swept round frames) n e = cc e
    no_root (kind.KeptBlock born mark flags count bytes) n e = cc e
    no_root (kind.KeptRoot created dropped counted address key) n e = cc e
    no_root (kind.KeptRound way other epoch round total deltas) n e = cc e

-- ---- one that an operation proposes

-- an entry that stores a block or puts a root
abbrev pub takes_place : Entry → Bool
takes_place entry = is_block entry || is_root entry

or_right : (a b : Bool) → (a || b) ≡ false → b ≡ false
or_right true b e = absurd (cc e)
or_right false b e = e

by_block : (b r : Bool) → b ≡ true → (b || r) ≡ true
by_block true r e = refl
by_block false r e = absurd (cc e)

by_root : (b r : Bool) → r ≡ true → (b || r) ≡ true
by_root true r e = refl
by_root false r e = e

below : (m n : ℕ) → not (nat_lt m n) ≡ false → m < n
below m n e = go (nat_lt m n) refl e
  where
    go : (b : Bool) → nat_lt m n ≡ b → not b ≡ false → m < n
    go true f g = ltb-true m n f
    go false f g = absurd (cc g)

never : (p : Entry → Bool) (a entry : Entry) → entry ≡ a → p a ≡ false → p entry ≡ true → ⊥
never p a entry is not_it it_is = cc (sym not_it ∙ ap p (sym is) ∙ it_is)

neither : (c : Core) (shard : ℕ) (a entry : Entry) → entry ≡ a → is_block a ≡ false → is_root a ≡ false → HasPlace c shard entry
neither c shard a entry is b r = record { blocks = λ e. absurd (never is_block a entry is b e); roots = λ e. absurd (never is_root a entry is r e) }

-- where it doesn't wait for room, there is
pub placed : (name : List ℕ → Address) (seats : Seats) (line : ℕ) (c : Core) (shard : ℕ) (o : Op) (entry : Entry) → IsEntryOf name seats line o entry → (takes_place entry ≡ true → is_pending shard o c ≡ false) → HasPlace c shard entry
placed name seats line c shard (op.Write session payload handles address) entry (inl is) free = record {
  blocks = λ e. below _ _ (or_right (is_coming shard address c) (is_crowded shard (op.Write session payload handles address) c) (free (by_block (is_block entry) (is_root entry) e)));
  roots = λ e. absurd (never is_root _ entry is.0 refl e);
}
placed name seats line c shard (op.Write session payload handles address) entry (inr is) free = neither c shard _ entry is.1 refl refl
placed name seats line c shard (op.Root session key handle) entry is free = record {
  blocks = λ e. absurd (never is_block _ entry is refl e);
  roots = λ e. below _ _ (free (by_root (is_block entry) (is_root entry) e));
}
placed name seats line c shard (op.Drop key) entry is free = neither c shard (kind.Drop line key) entry is refl refl
placed name seats line c shard op.Delete entry is free = neither c shard (kind.Enter line is.0) entry is.1 refl refl
placed name seats line c shard (op.Open session) entry is free = absurd is
placed name seats line c shard (op.Close session) entry is free = absurd is
placed name seats line c shard (op.Read session handle) entry is free = absurd is
placed name seats line c shard (op.Look session key) entry is free = absurd is
placed name seats line c shard (op.Forget session handle) entry is free = absurd is
placed name seats line c shard (op.Name session handle) entry is free = absurd is
placed name seats line c shard op.Stat entry is free = absurd is

-- ---- entries fewer

pub committed_room : (shard : ℕ) (c : Core) → AreRoomy c → AreRoomy (change_group shard take_committed c)
committed_room shard c its g = go (group_changed shard take_committed c g)
  where
    new : Core
    new = change_group shard take_committed c

    same : group_of g new ≡ group_of g c → HasRoom new g
    same e = alike_room c new g refl (ap (λ (x : Group). x.waiting) e) refl (its g)

    less : (p : Entry → Bool) → (group_of g new).waiting ≡ drop 1 (group_of g c).waiting → count_by p (group_of g new).waiting ≤ count_by p (group_of g c).waiting
    less p e = subst (λ es. count_by p es ≤ count_by p (group_of g c).waiting) (sym e) (drop_counts p (group_of g c).waiting)

    cut : (group_of g new).waiting ≡ drop 1 (group_of g c).waiting → HasRoom new g
    cut e = fewer_room c new g refl refl (less is_block e) (less is_root e) (its g)

    by : (g ≡ shard) → group_of g new ≡ take_committed (group_of shard c) → (take_committed (group_of shard c) ≡ group_of shard c) ⊎ IsTaken (group_of shard c) (take_committed (group_of shard c)) → HasRoom new g
    by is e (inl stays) = same (e ∙ stays ∙ ap (λ k. group_of k c) (sym is))
    by is e (inr t) = cut (ap (λ (x : Group). x.waiting) e ∙ t.waiting ∙ ap (λ k. drop 1 (group_of k c).waiting) (sym is))

    go : (group_of g (change_group shard take_committed c) ≡ group_of g c) ⊎ ((g ≡ shard) × (group_of g (change_group shard take_committed c) ≡ take_committed (group_of shard c))) → HasRoom (change_group shard take_committed c) g
    go (inl e) = same e
    go (inr is) = by is.0 is.1 (taken_or_same (group_of shard c))

-- a list that is cut
pub cut_room : (shard k : ℕ) (f : Group → Group) (c : Core) → (f (group_of shard c)).waiting ≡ take k (group_of shard c).waiting → AreRoomy c → AreRoomy (change_group shard f c)
cut_room shard k f c cuts its g = go (group_changed shard f c g)
  where
    new : Core
    new = change_group shard f c

    less : (p : Entry → Bool) → (group_of g new).waiting ≡ take k (group_of g c).waiting → count_by p (group_of g new).waiting ≤ count_by p (group_of g c).waiting
    less p e = subst (λ es. count_by p es ≤ count_by p (group_of g c).waiting) (sym e) (sum_by-take-le (λ z. cond (p z) 1 0) (group_of g c).waiting k)

    cut : (group_of g new).waiting ≡ take k (group_of g c).waiting → HasRoom new g
    cut e = fewer_room c new g refl refl (less is_block e) (less is_root e) (its g)

    go : (group_of g (change_group shard f c) ≡ group_of g c) ⊎ ((g ≡ shard) × (group_of g (change_group shard f c) ≡ f (group_of shard c))) → HasRoom (change_group shard f c) g
    go (inl e) = alike_room c new g refl (ap (λ (x : Group). x.waiting) e) refl (its g)
    go (inr is) = cut (ap (λ (x : Group). x.waiting) is.1 ∙ cuts ∙ ap (λ j. take k (group_of j c).waiting) (sym is.0))
