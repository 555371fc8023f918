-- What is known to be sealed of a shard, and how much of it took effect: by most changes neither is changed, or more takes effect.
use Rattle.std.proofs.Common.{◌≡◌, ◌∙◌, ap, sym, refl, inl, inr, arith, ℕ, zero, suc, ◌+◌, ◌-◌, ◌<◌, ◌≤◌, min, nat_lt, Bool, true, false, if◌then◌else◌, List, [], ◌∷◌, Option, Some, None, length}
use Rattle.std.proofs.lemmas.Bool.{cases_eq, cases_lt}
use Rattle.std.specs.Option.{option_map_or}
use Rattle.std.specs.Prelude.{slice_index_or, slice_set}
use Rattle.hs_awaiting.specs.Words.{change_with}
use Rattle.hs_core_words.specs.Changing.{add_entry_tasks, change_group, post}
use Rattle.hs_core_words.specs.Looking.{front_of, group_of, lead_of}
use Rattle.hs_core_words.specs.Operating.{add_read, propose_entry}
use Rattle.hs_core_words.specs.State.{Core}
use Rattle.hs_entry.specs.declared.entry.Entry.{Entry}
use Rattle.hs_replica.specs.declared.replica.Replica.{Replica}
use Rattle.hs_replica.specs.Group.{Group, commit_front, first_peer, last_number, lead, lead_takes, least_known, lower, no_copy, on_copied, on_emptied, proposal, propose, take_committed, take_entry}
use Rattle.hs_core_copies.proofs.PlaceLemmas.{group_here, group_other, group_past}
use Rattle.hs_core_copies.proofs.WalkLemmas.{StepLeaves}

-- ---- the least that is known

-- another copy that is good alike and known alike
same_at : (cs : List Replica) (i : ℕ) (new : Replica) → new.good ≡ (slice_index_or cs i no_copy).good → new.known ≡ (slice_index_or cs i no_copy).known
    → least_known (slice_set cs i new) ≡ least_known cs
same_at [] i new g k = refl
same_at (c ∷ cs) zero new g k = rw (g, k) refl
same_at (c ∷ cs) (suc i) new g k = ap (λ r. if c.good then Some (lower c.known r) else r) (same_at cs i new g k)

-- where a copy is good there is one
pub some_known : (cs : List Replica) (i : ℕ) → i < length cs → (slice_index_or cs i no_copy).good ≡ true → (least_known cs ≡ None → ⊥)
some_known [] i l g e = omega (arith, l)
some_known (d ∷ ds) zero l g e =
    let wrong : Some (lower d.known (least_known ds)) ≡ None = sym (ap (λ b. if b then Some (lower d.known (least_known ds)) else least_known ds) g) ∙ e in cc wrong
some_known (d ∷ ds) (suc i) l g e = next d.good e (some_known ds i (omega (arith, l)) g)
  where
    next : (b : Bool) → (if b then Some (lower d.known (least_known ds)) else least_known ds) ≡ None → (least_known ds ≡ None → ⊥) → ⊥
    next true e h = let wrong : Some (lower d.known (least_known ds)) ≡ None = e in cc wrong
    next false e h = h e

-- it is no less than what each good copy is known to have sealed at least
pub least_above : (f : ℕ) (cs : List Replica) → ((i : ℕ) → i < length cs → (slice_index_or cs i no_copy).good ≡ true → f ≤ (slice_index_or cs i no_copy).known)
    → (n : ℕ) → least_known cs ≡ Some n → f ≤ n
least_above f [] h n e = let wrong : None ≡ Some n = e in absurd (cc wrong)
least_above f (c ∷ cs) h n e = go c.good refl (least_known cs) refl (λ m i. least_above f cs (λ k l g. h (suc k) (omega (arith, l)) g) m i)
  where
    go : (b : Bool) → c.good ≡ b → (o : Option ℕ) → least_known cs ≡ o → ((m : ℕ) → least_known cs ≡ Some m → f ≤ m) → f ≤ n
    go false g o i rest = rest n (sym (ap (λ b. if b then Some (lower c.known (least_known cs)) else least_known cs) g) ∙ e)
    go true g None i rest =
        let k : Some c.known ≡ Some n = sym (ap (λ b. if b then Some (lower c.known (least_known cs)) else least_known cs) g ∙ ap (λ o. Some (lower c.known o)) i) ∙ e in
        let is : c.known ≡ n = cc k in omega (arith, is, h 0 (omega arith) g)
    go true g (Some m) i rest =
        let k : Some (min c.known m) ≡ Some n = sym (ap (λ b. if b then Some (lower c.known (least_known cs)) else least_known cs) g ∙ ap (λ o. Some (lower c.known o)) i) ∙ e in
        let is : min c.known m ≡ n = cc k in omega (arith, is, h 0 (omega arith) g, rest m i)

-- a good copy is known to have sealed no less
pub least_below : (cs : List Replica) (i : ℕ) → i < length cs → (slice_index_or cs i no_copy).good ≡ true → option_map_or (λ n. n) (least_known cs) 0 ≤ (slice_index_or cs i no_copy).known
least_below [] i l g = absurd (omega (arith, l))
least_below (c ∷ cs) zero l g = go (least_known cs)
  where
    low : (o : Option ℕ) → lower c.known o ≤ c.known
    low None = omega arith
    low (Some x) = omega arith

    go : (o : Option ℕ) → option_map_or (λ n. n) (least_known (c ∷ cs)) 0 ≤ c.known
    go o = let is : least_known (c ∷ cs) ≡ Some (lower c.known (least_known cs)) = ap (λ b. if b then Some (lower c.known (least_known cs)) else least_known cs) g in rw is (low (least_known cs))
least_below (c ∷ cs) (suc i) l g = go c.good (least_known cs) refl (least_below cs i (omega (arith, l)) g) (some_known cs i (omega (arith, l)) g)
  where
    go : (b : Bool) (o : Option ℕ) → least_known cs ≡ o → option_map_or (λ n. n) (least_known cs) 0 ≤ (slice_index_or cs i no_copy).known → (least_known cs ≡ None → ⊥)
        → option_map_or (λ n. n) (if b then Some (lower c.known (least_known cs)) else least_known cs) 0 ≤ (slice_index_or cs i no_copy).known
    go false o e h some = h
    go true None e h some = absurd (some e)
    go true (Some x) e h some = let k : x ≤ (slice_index_or cs i no_copy).known = rw e at h in rw e (omega (arith, k))

-- ---- what the calls leave of it

pub takes_known : (o : Option ℕ) (entry : Entry) (x : Group) → commit_front (lead_takes o entry x) ≡ commit_front x
takes_known None entry x = refl
takes_known (Some l) entry x = ap (λ o. option_map_or (λ n. n) o 0) (same_at x.copies (l - first_peer x) _ refl refl)

pub takes_front : (o : Option ℕ) (entry : Entry) (x : Group) → (lead_takes o entry x).front ≡ x.front
takes_front None entry x = refl
takes_front (Some l) entry x = refl

-- ---- neither is changed, or more takes effect

pub record IsStill (g : ℕ) (a b : Core) : Type 0 where
  pub front : front_of g a ≤ front_of g b
  pub known : commit_front (group_of g b) ≡ commit_front (group_of g a)

pub still_group : (g : ℕ) (a b : Core) → group_of g b ≡ group_of g a → IsStill g a b
still_group g a b e = record { front = (let k : front_of g b ≡ front_of g a = ap (λ (x : Group). x.front) e in omega (arith, k)); known = ap commit_front e }

pub still_both : (g : ℕ) (a b c : Core) → IsStill g a b → IsStill g b c → IsStill g a c
still_both g a b c h k = record { front = omega (arith, h.front, k.front); known = k.known ∙ h.known }

pub record KeepsKnown (x y : Group) : Type 0 where
  pub front : x.front ≤ y.front
  pub known : commit_front y ≡ commit_front x

pub still_change : (g x : ℕ) (f : Group → Group) (c : Core) → (g ≡ x → KeepsKnown (group_of x c) (f (group_of x c))) → IsStill g c (change_group x f c)
still_change g x f c h = elim (cases_eq g x) [
  | inl e ↦ rw e (here (h e))
  | inr n ↦ still_group g c (change_group x f c) (group_other g x f c n)
]
  where
    here : KeepsKnown (group_of x c) (f (group_of x c)) → IsStill x c (change_group x f c)
    here k = elim (cases_lt x (length c.groups)) [
      | inl low ↦
          let is : group_of x (change_group x f c) ≡ f (group_of x c) = group_here x f c low in
          let same : front_of x (change_group x f c) ≡ (f (group_of x c)).front = ap (λ (y : Group). y.front) is in
          record { front = omega (arith, same, k.front); known = ap commit_front is ∙ k.known }
      | inr high ↦ still_group x c (change_group x f c) (group_past x f c high)
    ]

pub still_proposes : (g x : ℕ) (entry : Entry) (c : Core) → IsStill g c (propose_entry x entry c)
still_proposes g x entry c = go (lead_of x c)
  where
    one : IsStill g c (change_group x (propose entry) c)
    one = still_change g x (propose entry) c (λ e. let k = takes_front (lead (group_of x c)) entry (group_of x c) in record { front = omega (arith, k); known = takes_known (lead (group_of x c)) entry (group_of x c) })

    go : (o : Option ℕ) → IsStill g c (change_with o (λ peer. add_entry_tasks peer (last_number (group_of x c) + 1) entry) (post (proposal entry (group_of x c)) (change_group x (propose entry) c)))
    go None = record { front = one.front; known = one.known }
    go (Some l) = record { front = one.front; known = one.known }

pub still_takes : (g x p : ℕ) (entry : Entry) (c : Core) → IsStill g c (change_group x (take_entry p entry) c)
still_takes g x p entry c = still_change g x (take_entry p entry) c (λ e. record { front = omega arith; known = takes_known (Some p) entry (group_of x c) })

pub still_emptied : (g x p : ℕ) (c : Core) → IsStill g c (change_group x (on_emptied p) c)
still_emptied g x p c =
    still_change g x (on_emptied p) c (λ e. record { front = omega arith; known = ap (λ o. option_map_or (λ n. n) o 0) (same_at (group_of x c).copies (p - first_peer (group_of x c)) _ refl refl) })

pub still_copied : (g x p number : ℕ) (c : Core) → IsStill g c (change_group x (on_copied p number) c)
still_copied g x p number c =
    still_change g x (on_copied p number) c (λ e. record { front = omega arith; known = ap (λ o. option_map_or (λ n. n) o 0) (same_at (group_of x c).copies (p - first_peer (group_of x c)) _ refl refl) })

handed : (x : Group) → KeepsKnown x (take_committed x)
handed x = go (nat_lt x.front (commit_front x)) refl x.waiting refl
  where
    go : (b : Bool) → nat_lt x.front (commit_front x) ≡ b → (ws : List Entry) → x.waiting ≡ ws → KeepsKnown x (take_committed x)
    go false e ws f = rw e (record { front = omega arith; known = refl })
    go true e [] f = rw (e, f) (record { front = omega arith; known = refl })
    go true e (w ∷ ws) f = rw (e, f) (record { front = omega arith; known = refl })

still_commits : (g x : ℕ) (c : Core) → IsStill g c (change_group x take_committed c)
still_commits g x c = still_change g x take_committed c (λ e. handed (group_of x c))

pub still_reads : (g x number line : ℕ) (c : Core) → IsStill g c (change_with (lead_of x c) (add_read number line) c)
still_reads g x number line c = go (lead_of x c)
  where
    go : (o : Option ℕ) → IsStill g c (change_with o (add_read number line) c)
    go None = still_group g c c refl
    go (Some l) = still_group g c (add_read number line l c) refl

pub steps_still : (g : ℕ) → StepLeaves (IsStill g)
steps_still g = record {
  same = λ c. still_group g c c refl;
  both = still_both g;
  catalogue = λ x y c. still_group g c _ refl;
  viewed = λ x y c. still_group g c _ refl;
  operations = λ x c. still_group g c _ refl;
  sessions = λ x c. still_group g c _ refl;
  noted = λ of did told c. still_group g c _ refl;
  proposes = λ x entry c plain. still_proposes g x entry c;
  reads = still_reads g;
  sends = λ x sent c. still_group g c _ refl;
  commits = still_commits g;
}
