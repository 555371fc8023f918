-- Ranks as disks tell them, and lineage by these.
use Rattle.std.proofs.Common.{◌≡◌, ◌∙◌, ap, sym, subst, refl, inl, inr, arith, ℕ, suc, ◌+◌, ◌≤◌, nat_lt, Bool, true, false, List, [], ◌∷◌, ◌++◌, length}
use Rattle.std.proofs.lemmas.Bool.{cases_lt, eq-eqb, ltb-false}
use Rattle.std.proofs.lemmas.List.{length-map}
use Rattle.std.proofs.lemmas.List.Elements.{All-cons, All-head, All-nil, All-tail}
use Rattle.std.proofs.lemmas.List.FromFn.{length-enumerate_from}
use Rattle.std.specs.List.{enumerate_from}
use Rattle.std.specs.Prelude.{fold, map, take}
use Rattle.hs_copies.proofs.ListLemmas.{front_append, front_first, front_trans}
use Rattle.hs_copies.proofs.StampLemmas.{told_lineage}
use Rattle.hs_copies.specs.Invariant.{reach as longest_of}
use Rattle.hs_copies.specs.Lists.{IsAtMost, IsFront, Item}
use Rattle.hs_copies.specs.Machine.{Copies, Good as GoodStage}
use Rattle.hs_copies.specs.Stamps.{rank_told, view_told}
use Rattle.hs_copies.specs.Standing.{stage_of}
use Rattle.hs_core_copies.proofs.BesideLemmas.{home_of_peer}
use Rattle.hs_core_copies.proofs.NextLemmas.{map_take}
use Rattle.hs_core_copies.proofs.UnsealedLemmas.{numbered_take}
use Rattle.hs_core_copies.specs.InStep.{IsInStep, IsOf, rejoin_at}
use Rattle.hs_core_copies.specs.Lists.{numbered}
use Rattle.hs_core_words.specs.Looking.{front_of, status_of}
use Rattle.hs_entry.specs.declared.entry.Entry.{Entry}
use Rattle.hs_entry.specs.declared.entry.Entry.TheVariants as kind
use Rattle.hs_entry.specs.declared.rank.Rank.{Rank}
use Rattle.hs_entry.specs.Entries.{IsPrefix, is_of_base, rank_after, rank_of}
use Rattle.hs_events.specs.Whole.{Whole, reach}
use Rattle.hs_fold.specs.Opened.{outranks}
use Rattle.hs_fold.specs.Shards.Setting.{Numbered}
use Rattle.hs_limits.specs.declared.limits.PeerStatus.TheVariants.{Good}
use Rattle.hs_replica.specs.Group.{view_after}
use Rattle.hs_whole_copies.proofs.ReachLemmas.{longest_front}
use Rattle.hs_whole_copies.specs.Whole.{ArePlain, IsShardInStep, added_to, longest}

abbrev what : Item Entry → Entry
what x = x.what

-- ---- ranks

-- one that another does not outrank is no less
pub at_most : (p y : Rank) → outranks p y ≡ false → IsAtMost p y
at_most p y e = elim (cases_lt p.view y.view) [
  | inl low ↦ inl low
  | inr high ↦ by_view (nat_lt y.view p.view) refl high
]
  where
    by_number : (b : Bool) → nat_lt y.number p.number ≡ b → p.view ≡ y.view → nat_lt y.view p.view ≡ false → IsAtMost p y
    by_number true n same v = let wrong : true ≡ false = rw (v, eq-eqb p.view y.view same, n) at e in absurd (cc wrong)
    by_number false n same v = inr (same, ltb-false y.number p.number n)

    by_view : (b : Bool) → nat_lt y.view p.view ≡ b → y.view ≤ p.view → IsAtMost p y
    by_view true v high = let wrong : true ≡ false = rw v at e in absurd (cc wrong)
    by_view false v high = let low = ltb-false y.view p.view v in by_number (nat_lt y.number p.number) refl (omega (arith, low, high)) v

rank_by : (v n : ℕ) (x : Entry) → is_of_base x ≡ false → rank_after (record { view = v; number = n }) (n + 1) x ≡ record { view = view_after v x; number = n + 1 }
rank_by v n (kind.View view) plain = refl
rank_by v n (kind.Block line least bytes) plain = refl
rank_by v n (kind.Mark line least block address) plain = refl
rank_by v n (kind.Root line held address key) plain = refl
rank_by v n (kind.Drop line key) plain = refl
rank_by v n (kind.Enter line epoch) plain = refl
rank_by v n (kind.Got sender epoch round total deltas) plain = refl
rank_by v n (kind.Base view epoch swept round frames) plain = absurd (cc plain)
rank_by v n (kind.KeptBlock born mark flags count bytes) plain = absurd (cc plain)
rank_by v n (kind.KeptRoot created dropped counted address key) plain = absurd (cc plain)
rank_by v n (kind.KeptRound way other epoch round total deltas) plain = absurd (cc plain)

rank_from : (v n : ℕ) (xs : List (Item Entry)) → ArePlain (map what xs) → fold (λ (rank : Rank) (x : ℕ × Entry). rank_after rank x.0 x.1) (record { view = v; number = n }) (enumerate_from (n + 1) (map what xs)) ≡ record { view = view_told view_after v xs; number = n + length xs }
rank_from v n [] plain = let same : n ≡ n + 0 = omega arith in ap (λ m. record { view = v; number = m }) same
rank_from v n (x ∷ xs) plain =
    let count : n + 1 + length xs ≡ n + suc (length xs) = omega arith in
    ap (λ (rank : Rank). fold (λ (r : Rank) (y : ℕ × Entry). rank_after r y.0 y.1) rank (enumerate_from (n + 1 + 1) (map what xs))) (rank_by v n x.what (All-head (λ e. is_of_base e ≡ false) x.what (map what xs) plain))
    ∙ rank_from (view_after v x.what) (n + 1) xs (All-tail (λ e. is_of_base e ≡ false) x.what (map what xs) plain)
    ∙ ap (λ m. record { view = view_told view_after (view_after v x.what) xs; number = m }) count

-- the rank of a list with its numbers is what its entries tell
pub rank_is : (xs : List (Item Entry)) → ArePlain (map what xs) → rank_of (numbered xs) ≡ rank_told view_after xs
unfolding rank_of
rank_is xs plain = let same : 0 + length xs ≡ length xs = omega arith in rank_from 0 0 xs plain ∙ ap (λ m. record { view = view_told view_after 0 xs; number = m }) same

-- ---- lists with their numbers

pub numbered_long : (xs : List (Item Entry)) → length (numbered xs) ≡ length xs
numbered_long xs = length-enumerate_from 1 (map what xs) ∙ length-map xs what

-- a front of a list, with numbers, begins it
prefix_from : (n : ℕ) (xs ys : List (Item Entry)) → IsFront xs ys → IsPrefix (enumerate_from n (map what xs)) (enumerate_from n (map what ys))
prefix_from n [] ys f = (enumerate_from n (map what ys), refl)
prefix_from n (x ∷ xs) [] f = absurd f
prefix_from n (x ∷ xs) (y ∷ ys) f =
    let rest = prefix_from (n + 1) xs ys f.1 in
    (rest.0, ap (λ (z : Item Entry). (n, z.what) ∷ enumerate_from (n + 1) (map what ys)) (sym f.0) ∙ ap (λ (zs : Numbered). (n, x.what) ∷ zs) rest.1)

-- a list that begins one with numbers is the front of it of that length
prefix_takes : (list : Numbered) (xs : List (Item Entry)) → IsPrefix list (numbered xs) → list ≡ numbered (take (length list) xs)
prefix_takes list xs p =
    sym (first_of list p.0) ∙ ap (λ (es : Numbered). take (length list) es) (sym p.1) ∙ numbered_take (length list) 1 (map what xs) ∙ ap (λ es. enumerate_from 1 es) (map_take what (length list) xs)
  where
    first_of : {X : Type 0} (ys zs : List X) → take (length ys) (ys ++ zs) ≡ ys
    first_of [] zs = refl
    first_of (y ∷ ys) zs = ap (λ ws. y ∷ ws) (first_of ys zs)

plain_front : (xs ys : List (Item Entry)) → IsFront xs ys → ArePlain (map what ys) → ArePlain (map what xs)
plain_front [] ys f plain = All-nil (λ e. is_of_base e ≡ false)
plain_front (x ∷ xs) [] f plain = absurd f
plain_front (x ∷ xs) (y ∷ ys) f plain =
    All-cons (λ e. is_of_base e ≡ false) x.what (map what xs)
    (subst (λ (z : Item Entry). is_of_base z.what ≡ false) (sym f.0) (All-head (λ e. is_of_base e ≡ false) y.what (map what ys) plain))
    (plain_front xs ys f.1 (All-tail (λ e. is_of_base e ≡ false) y.what (map what ys) plain))

-- ---- lineage

module _ (g : ℕ) (c : Whole) (s : Copies Entry) (k : IsShardInStep g c s) (p q : ℕ) (front list : Numbered) (own : IsOf c.core.members.shape g p) (good : status_of p c.core ≡ Good) (other : IsOf c.core.members.shape g q)
    (begins : IsPrefix front (c.lists p)) (has : front_of g c.core ≤ length front) (left : IsPrefix list (reach c q)) (least : outranks (rank_of front) (rank_of list) ≡ false) where
  st : IsInStep g c.core s
  st = k.in_step

  stage : (s.peers p).stage ≡ GoodStage
  stage = k.in_step.stands.peers.stage p (home_of_peer g c.core s k.in_step p own) ∙ ap (λ x. stage_of x (rejoin_at c.core p).empty) good

  -- the two lists, as the machine has them
  abbrev fs : List (Item Entry)
  fs = take (length front) (s.peers p).list

  abbrev hs : List (Item Entry)
  hs = take (length list) (longest q c.core s)

  fs_are : front ≡ numbered (take (length front) (s.peers p).list)
  fs_are = prefix_takes front (s.peers p).list (subst (λ (xs : Numbered). IsPrefix front xs) (k.lists p own) begins)

  hs_are : list ≡ numbered (take (length list) (longest q c.core s))
  hs_are = prefix_takes list (longest q c.core s) (subst (λ (xs : Numbered). IsPrefix list xs) (k.reaches q other) left)

  fs_front : IsFront (take (length front) (s.peers p).list) (s.peers p).list
  fs_front = front_first (length front) (s.peers p).list

  rank_front : rank_of front ≡ rank_told view_after (take (length front) (s.peers p).list)
  rank_front =
      ap (λ (xs : Numbered). rank_of xs) fs_are
      ∙ rank_is (take (length front) (s.peers p).list)
      (plain_front (take (length front) (s.peers p).list) (longest p c.core s) (front_trans (take (length front) (s.peers p).list) (s.peers p).list (longest p c.core s) fs_front (front_append (s.peers p).list (added_to p c.core s))) (k.plain p own))

  rank_list : rank_of list ≡ rank_told view_after (take (length list) (longest q c.core s))
  rank_list =
      ap (λ (xs : Numbered). rank_of xs) hs_are
      ∙ rank_is (take (length list) (longest q c.core s)) (plain_front (take (length list) (longest q c.core s)) (longest q c.core s) (front_first (length list) (longest q c.core s)) (k.plain q other))

  goes_on : IsFront (take (length front) (s.peers p).list) (take (length list) (longest q c.core s))
  goes_on =
      let m = longest_front g q c.core s k.in_step other in
      let within : IsFront (take (length list) (longest q c.core s)) (longest_of (s.peers m.0)) =
      front_trans (take (length list) (longest q c.core s)) (longest q c.core s) (longest_of (s.peers m.0)) (front_first (length list) (longest q c.core s)) m.1 in
      let ranks : IsAtMost (rank_told view_after (take (length front) (s.peers p).list)) (rank_told view_after (take (length list) (longest q c.core s))) =
      subst (λ a. IsAtMost a (rank_told view_after (take (length list) (longest q c.core s)))) rank_front (subst (λ a. IsAtMost (rank_of front) a) rank_list (at_most (rank_of front) (rank_of list) least)) in
      let took = k.in_step.stands.front in
      let long = ap (λ (xs : Numbered). length xs) fs_are ∙ numbered_long (take (length front) (s.peers p).list) in
      told_lineage view_after k.in_step.stands.begun k.in_step.stands.begun_at s k.in_step.stands.faithful k.in_step.stands.told p m.0
      (take (length front) (s.peers p).list) (take (length list) (longest q c.core s)) stage fs_front (omega (arith, took, long, has)) within ranks

  pub goes_on_as_told : IsPrefix front list
  goes_on_as_told =
      subst (λ (xs : Numbered). IsPrefix xs list) (sym fs_are)
      (subst (λ (xs : Numbered). IsPrefix (numbered (take (length front) (s.peers p).list)) xs) (sym hs_are)
      (prefix_from 1 (take (length front) (s.peers p).list) (take (length list) (longest q c.core s)) goes_on))
