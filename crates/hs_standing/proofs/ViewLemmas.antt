-- The core as it opens has nothing but Views in its lists that wait, of the first view of each shard.
use Rattle.std.proofs.Common.{◌≡◌, ◌⊎◌, ◌∙◌, ap, sym, subst, inl, inr, ℕ, zero, suc, ◌+◌, ◌-◌, not, Bool, true, false, List, [], ◌∷◌, Option, Some, None, refl, length, take, nat_lt}
use Rattle.std.proofs.lemmas.Bool.{cases_eq, cases_lt}
use Rattle.std.proofs.lemmas.List.{get_or-set_other, get_or-set_same, set_past}
use Rattle.std.specs.List.{AllByRecursion}
use Rattle.std.specs.Option.{option_map_or}
use Rattle.std.specs.Prelude.{if◌then◌else◌, slice_index_or}
use Rattle.hs_awaiting.specs.Words.{change_if, change_with, each}
use Rattle.hs_core_words.specs.Changing.{add_entry_tasks, change_group, note, post, set_viewed}
use Rattle.hs_core_words.specs.Looking.{front_of, group_of, lead_of, shape_of, shards_of, status_of}
use Rattle.hs_core_words.specs.Opening.{Taken, begin_views, new_core, note_down, note_if_down, open_core}
use Rattle.hs_core_words.specs.Operating.{propose_entry}
use Rattle.hs_core_words.specs.State.{Core}
use Rattle.hs_core_words.specs.Step.{end_event, keep_entries, refuse_entries}
use Rattle.hs_core_words.specs.Views.{begin_view, change_view, restart}
use Rattle.hs_entry.specs.declared.entry.Entry.{Entry}
use Rattle.hs_entry.specs.declared.entry.Entry.TheVariants as kind
use Rattle.hs_fold.proofs.Shards.LawfulLemmas.{each-append}
use Rattle.hs_journal.specs.declared.entry.Who.TheVariants as who
use Rattle.hs_limits.specs.declared.limits.Limits.{Limits}
use Rattle.hs_limits.specs.declared.shape.Shape.{Shape}
use Rattle.hs_members.specs.Members.{Members, all_peers, has_good, is_good_status, view_of}
use Rattle.hs_model.specs.declared.deed.Deed.TheVariants as deed
use Rattle.hs_model.specs.declared.reply.Reply.TheVariants as reply
use Rattle.hs_replica.specs.Group.{Group, last_number, lead, lead_takes, length_of, new_group, proposal, propose, renew, renewal, told}

-- ---- one list changes

group_changed : (shard : ℕ) (f : Group → Group) (c : Core) (g : ℕ)
    → (group_of g (change_group shard f c) ≡ group_of g c) ⊎ ((g ≡ shard) × (group_of g (change_group shard f c) ≡ f (group_of g c)))
group_changed shard f c g = elim (cases_eq g shard) [
  | inl same ↦ elim (cases_lt shard (length c.groups)) [
    | inl low ↦ inr (same, subst (λ k. group_of k (change_group shard f c) ≡ f (group_of k c)) (sym same) (get_or-set_same c.groups shard (f (group_of shard c)) (new_group (shape_of c) shard 0 0 []) low))
    | inr high ↦ inl (ap (λ gs. slice_index_or gs g (new_group (shape_of c) g 0 0 [])) (set_past c.groups shard (f (group_of shard c)) high))
  ]
  | inr differs ↦ inl (get_or-set_other c.groups shard g (f (group_of shard c)) (new_group (shape_of c) g 0 0 []) differs)
]

propose_front : (entry : Entry) (group : Group) → (propose entry group).front ≡ group.front
propose_front entry group = by_lead (lead group)
  where
    by_lead : (l : Option ℕ) → (lead_takes l entry group).front ≡ group.front
    by_lead None = refl
    by_lead (Some l) = refl

each_take : {X : Type 0} (P : X → Type 0) (n : ℕ) (xs : List X) → AllByRecursion P xs → AllByRecursion P (take n xs)
each_take P zero xs h = tt
each_take P (suc n) [] h = tt
each_take P (suc n) (x ∷ xs) h = (h.0, each_take P n xs h.1)

-- ---- as it opens

-- the View of a shard's view
abbrev pub IsFirstView : Members → ℕ → Entry → Type 0
IsFirstView members g entry = entry ≡ kind.View (view_of g members)

-- members and limits are the same, what took effect too, and what waits are Views
pub record OpensOn (a b : Core) : Type 0 where
  pub members : b.members ≡ a.members
  pub limits : b.limits ≡ a.limits
  pub line : b.progress.event_line ≡ a.progress.event_line
  pub front : (g : ℕ) → front_of g b ≡ front_of g a
  pub views : (g : ℕ) → AllByRecursion (IsFirstView a.members g) (group_of g b).waiting

opens_alike : (a b d : Core) → OpensOn a b → d.members ≡ b.members → d.limits ≡ b.limits → d.progress.event_line ≡ b.progress.event_line → ((g : ℕ) → group_of g d ≡ group_of g b) → OpensOn a d
opens_alike a b d o members limits line same = record {
  members = members ∙ o.members;
  limits = limits ∙ o.limits;
  line = line ∙ o.line;
  front = λ g. ap (λ (y : Group). y.front) (same g) ∙ o.front g;
  views = λ g. subst (λ (y : Group). AllByRecursion (IsFirstView a.members g) y.waiting) (sym (same g)) (o.views g);
}

-- all copies are told
opens_renew : (a b : Core) (s : ℕ) → OpensOn a b → OpensOn a (change_group s (renew b.members) b)
opens_renew a b s o = record {
  members = o.members;
  limits = o.limits;
  line = o.line;
  front = λ g. elim (group_changed s (renew b.members) b g) [
    | inl same ↦ ap (λ (y : Group). y.front) same ∙ o.front g
    | inr is ↦ ap (λ (y : Group). y.front) is.1 ∙ o.front g
  ];
  views = λ g. elim (group_changed s (renew b.members) b g) [
    | inl same ↦ subst (λ (y : Group). AllByRecursion (IsFirstView a.members g) y.waiting) (sym same) (o.views g)
    | inr is ↦ subst (λ (y : Group). AllByRecursion (IsFirstView a.members g) y.waiting) (sym is.1)
        (each_take (IsFirstView a.members g) (option_map_or (length_of (told b.members (group_of g b))) (lead (told b.members (group_of g b))) 0 - (group_of g b).front) (group_of g b).waiting (o.views g))
  ];
}

-- a View is proposed
module _ (a b : Core) (s : ℕ) (o : OpensOn a b) where
  abbrev entry : Entry
  entry = kind.View (view_of s b.members)

  abbrev one : Core
  one = change_group s (propose (kind.View (view_of s b.members))) b

  view_is : (g : ℕ) → g ≡ s → IsFirstView a.members g (kind.View (view_of s b.members))
  view_is g same = ap (λ (m : Members). kind.View (view_of s m)) o.members ∙ ap (λ k. kind.View (view_of k a.members)) (sym same)

  proposed : OpensOn a (change_group s (propose (kind.View (view_of s b.members))) b)
  proposed = record {
    members = o.members;
    limits = o.limits;
    line = o.line;
    front = λ g. elim (group_changed s (propose (kind.View (view_of s b.members))) b g) [
      | inl same ↦ ap (λ (y : Group). y.front) same ∙ o.front g
      | inr is ↦ ap (λ (y : Group). y.front) is.1 ∙ propose_front (kind.View (view_of s b.members)) (group_of g b) ∙ o.front g
    ];
    views = λ g. elim (group_changed s (propose (kind.View (view_of s b.members))) b g) [
      | inl same ↦ subst (λ (y : Group). AllByRecursion (IsFirstView a.members g) y.waiting) (sym same) (o.views g)
      | inr is ↦ subst (λ (y : Group). AllByRecursion (IsFirstView a.members g) y.waiting) (sym is.1)
          (each-append (IsFirstView a.members g) (group_of g b).waiting (kind.View (view_of s b.members) ∷ []) (o.views g) (view_is g is.0, tt))
    ];
  }

  opens_lead : (l : Option ℕ) → OpensOn a (change_with l (λ peer. add_entry_tasks peer (last_number (group_of s b) + 1) (kind.View (view_of s b.members))) (post (proposal (kind.View (view_of s b.members)) (group_of s b)) one))
  opens_lead None = opens_alike a one (post (proposal (kind.View (view_of s b.members)) (group_of s b)) one) proposed refl refl refl (λ g. refl)
  opens_lead (Some peer) =
      opens_alike a one (add_entry_tasks peer (last_number (group_of s b) + 1) (kind.View (view_of s b.members)) (post (proposal (kind.View (view_of s b.members)) (group_of s b)) one)) proposed refl refl refl (λ g. refl)

  opens_propose : OpensOn a (propose_entry s (kind.View (view_of s b.members)) b)
  opens_propose = opens_lead (lead_of s b)

opens_begin : (a b : Core) (s : ℕ) → OpensOn a b → OpensOn a (begin_view s b)
opens_begin a b s o =
    let x : Core = set_viewed s false b in
    let y : Core = change_group s (renew x.members) x in
    let z : Core = restart s y in
    let w : Core = post (renewal (group_of s z)) z in
    let at_x : OpensOn a x = opens_alike a b x o refl refl refl (λ g. refl) in
    let at_y : OpensOn a y = opens_renew a x s at_x in
    let at_w : OpensOn a w = opens_alike a y w at_y refl refl refl (λ g. refl) in
    opens_propose a w s at_w

opens_if : (v : Bool) (f : Core → Core) (a b : Core) → (OpensOn a b → OpensOn a (f b)) → OpensOn a b → OpensOn a (change_if v f b)
opens_if true f a b h o = h o
opens_if false f a b h o = o

opens_each : {Y : Type 0} (ys : List Y) (f : Y → Core → Core) (a b : Core) → ((y : Y) (x : Core) → OpensOn a x → OpensOn a (f y x)) → OpensOn a b → OpensOn a (each ys f b)
opens_each [] f a b h o = o
opens_each (y ∷ ys) f a b h o = opens_each ys f a (f y b) h (h y b o)

opens_end : (a b : Core) → OpensOn a b → OpensOn a (end_event b)
opens_end a b o = by_room (nat_lt b.limits.ops (length b.journal + length b.entries))
  where
    by_room : (full : Bool) → OpensOn a (if full then refuse_entries b else keep_entries b)
    by_room true = opens_alike a b (refuse_entries b) o refl refl refl (λ g. refl)
    by_room false = opens_alike a b (keep_entries b) o refl refl refl (λ g. refl)

pub opens_on : (shape : Shape) (limits : Limits) (taken : Taken) (moment : ℕ) → ((g : ℕ) → (group_of g (new_core shape limits taken moment)).waiting ≡ []) → OpensOn (new_core shape limits taken moment) (open_core shape limits taken moment)
opens_on shape limits taken moment none =
    let a : Core = new_core shape limits taken moment in
    let b : Core = begin_views a in
    let d : Core = note_down b in
    let new : OpensOn a a = record { members = refl; limits = refl; line = refl; front = λ g. refl; views = λ g. subst (λ es. AllByRecursion (IsFirstView a.members g) es) (sym (none g)) tt } in
    let viewed : OpensOn a b = opens_each (shards_of a) change_view a a (λ s x o. opens_if (has_good s x.members) (begin_view s) a x (opens_begin a x s) o) new in
    let noted : OpensOn a d = opens_each (all_peers (shape_of b)) note_if_down a b
    (λ p x o. opens_if (not (is_good_status (status_of p x))) (note who.Store deed.Nothing (reply.Down p 0)) a x (λ k. opens_alike a x (note who.Store deed.Nothing (reply.Down p 0) x) k refl refl refl (λ g. refl)) o) viewed in
    opens_end a d noted
