-- Lists of one rank are one, where disks of one shard may have them.
use Rattle.std.proofs.Common.{◌≡◌, ◌∙◌, ap, sym, subst, refl, inl, inr, ℕ, zero, suc, ◌+◌, ◌<◌, ◌≤◌, true, false, List, [], ◌∷◌, ◌++◌, Some, None, length, map, fold, arith}
use Rattle.std.proofs.lemmas.Bool.{cases_lt}
use Rattle.std.proofs.lemmas.List.{take-map, take_at}
use Rattle.std.proofs.lemmas.List.Elements.{All-head, All-tail}
use Rattle.std.specs.List.{enumerate_from}
use Rattle.std.specs.Prelude.{slice_get, take}
use Rattle.hs_copies.proofs.ListLemmas.{front_both, front_first, front_length, front_trans, front_whole}
use Rattle.hs_copies.proofs.StampLemmas.{log_tells, stamped_prefix}
use Rattle.hs_copies.specs.Invariant.{reach as longest_of}
use Rattle.hs_copies.specs.Lists.{Agree, IsFront, Item, end_view}
use Rattle.hs_copies.specs.Machine.{Copies}
use Rattle.hs_copies.specs.Stamps.{AreStamped, AreStampsTold, view_told}
use Rattle.hs_core_copies.proofs.UnsealedLemmas.{numbered_take}
use Rattle.hs_core_copies.specs.InStep.{IsOf}
use Rattle.hs_core_copies.specs.Lists.{numbered}
use Rattle.hs_core_words.specs.Looking.{home}
use Rattle.hs_entry.specs.declared.entry.Entry.{Entry}
use Rattle.hs_entry.specs.declared.entry.Entry.TheVariants as kind
use Rattle.hs_entry.specs.declared.rank.Rank.{Rank}
use Rattle.hs_entry.specs.Entries.{is_of_base, rank_after, rank_of}
use Rattle.hs_events.specs.Whole.{Whole, reach}
use Rattle.hs_fold.specs.Shards.Setting.{Numbered}
use Rattle.hs_members.specs.Members.{IsPeer}
use Rattle.hs_moments.specs.WholeMachine.{IsFrontOf}
use Rattle.hs_replica.specs.Group.{view_after}
use Rattle.hs_whole_copies.proofs.LineageLemmas.{one_to}
use Rattle.hs_whole_copies.proofs.ReachLemmas.{longest_front}
use Rattle.hs_whole_copies.specs.Whole.{ArePlain, IsShardInStep, IsWholeInStep, longest}
use Rattle.hs_steady.proofs.SteadyLemmas.{its_shard}

-- ---- what entries tell

abbrev what : Item Entry → Entry
what x = x.what

rank_step : (r : Rank) (n : ℕ) (x : Entry) → is_of_base x ≡ false → rank_after r n x ≡ record { view = view_after r.view x; number = n }
rank_step r n (kind.View view) e = refl
rank_step r n (kind.Block op least bytes) e = refl
rank_step r n (kind.Mark op least block address) e = refl
rank_step r n (kind.Root op held address key) e = refl
rank_step r n (kind.Drop op key) e = refl
rank_step r n (kind.Enter op epoch) e = refl
rank_step r n (kind.Got sender epoch round total deltas) e = refl
rank_step r n (kind.Base view epoch swept round frames) e = let wrong : true ≡ false = e in absurd (cc wrong)
rank_step r n (kind.KeptBlock born mark flags count bytes) e = let wrong : true ≡ false = e in absurd (cc wrong)
rank_step r n (kind.KeptRoot created dropped counted address key) e = let wrong : true ≡ false = e in absurd (cc wrong)
rank_step r n (kind.KeptRound way other epoch round total deltas) e = let wrong : true ≡ false = e in absurd (cc wrong)

-- of a front of plain entries
ranks : (k : ℕ) (xs : List (Item Entry)) → ArePlain (map what xs) → (r : Rank) (n : ℕ) → r.number ≡ n
    → (fold (λ (rank : Rank) (x : ℕ × Entry). rank_after rank x.0 x.1) r (enumerate_from (n + 1) (map what (take k xs)))).view ≡ view_told view_after r.view (take k xs)
    × ((fold (λ (rank : Rank) (x : ℕ × Entry). rank_after rank x.0 x.1) r (enumerate_from (n + 1) (map what (take k xs)))).number ≡ n + length (take k xs))
ranks zero xs plain r n e = (refl, e ∙ omega arith)
ranks (suc k) [] plain r n e = (refl, e ∙ omega arith)
ranks (suc k) (x ∷ xs) plain r n e =
    let one : rank_after r (n + 1) x.what ≡ record { view = view_after r.view x.what; number = n + 1 } = rank_step r (n + 1) x.what (All-head (λ y. is_of_base y ≡ false) x.what (map what xs) plain) in
    let rest = ranks k xs (All-tail (λ y. is_of_base y ≡ false) x.what (map what xs) plain) (rank_after r (n + 1) x.what) (n + 1) (ap (λ (y : Rank). y.number) one) in
    (rest.0 ∙ ap (λ (y : Rank). view_told view_after y.view (take k xs)) one, rest.1 ∙ omega arith)

rank_told : (k : ℕ) (xs : List (Item Entry)) → ArePlain (map what xs) → ((rank_of (numbered (take k xs))).view ≡ view_told view_after 0 (take k xs)) × ((rank_of (numbered (take k xs))).number ≡ length (take k xs))
unfolding rank_of
rank_told k xs plain = let h = ranks k xs plain (record { view = 0; number = 0 }) 0 refl in (h.0, h.1 ∙ omega arith)

-- ---- what comes behind the list of opening is stamped as it tells

same_behind : (v : ℕ) (xs : List (Item Entry)) → AreStamped view_after 0 v xs → view_told view_after v xs ≡ end_view v xs
same_behind v [] t = refl
same_behind v (x ∷ xs) t = rw (← t.0) (same_behind x.view xs t.1)

told_same : (d v : ℕ) (start xs : List (Item Entry)) → view_told view_after d start ≡ v → AreStamped view_after (length start) v xs → IsFront start xs → view_told view_after d xs ≡ end_view v xs
told_same d v [] xs e t p = rw e (same_behind v xs t)
told_same d v (y ∷ start) [] e t p = absurd p
told_same d v (y ∷ start) (x ∷ xs) e t p =
    let w : view_after d y.what ≡ view_after d x.what = ap (λ (k : Item Entry). view_after d k.what) p.0 in
    rw (← w, t.0) (told_same (view_after d y.what) v start xs e t.1 p.1)

-- lists that agree begin alike
agree_front : (v : ℕ) (start xs log : List (Item Entry)) → AreStamped view_after (length start) v xs → AreStamped view_after (length start) v log → IsFront start log → Agree xs log → IsFront (take (length start) xs) start
agree_front v [] [] log t u p a = tt
agree_front v [] (x ∷ xs) log t u p a = tt
agree_front v (y ∷ start) [] log t u p a = tt
agree_front v (y ∷ start) (x ∷ xs) [] t u p a = absurd p
agree_front v (y ∷ start) (x ∷ xs) (l ∷ log) t u p (inl a) = (a.0 ∙ sym p.0, agree_front v start xs log t.1 u.1 p.1 a.1)
agree_front v (y ∷ start) (x ∷ xs) (l ∷ log) t u p (inr a) = absurd (a.0 (t.0 ∙ sym u.0))

take_long : {X : Type 0} (n m : ℕ) (zs : List X) → m ≤ n → m ≤ length zs → m ≤ length (take n zs)
take_long zero m zs a b = omega (arith, a)
take_long (suc n) m [] a b = b
take_long (suc n) zero (z ∷ zs) a b = omega arith
take_long (suc n) (suc m) (z ∷ zs) a b = let r = take_long n m zs (omega (arith, a)) (omega (arith, b)) in omega (arith, r)

front_has : {X : Type 0} (xs ys : List X) (n : ℕ) (x : X) → IsFront xs ys → slice_get xs n ≡ Some x → slice_get ys n ≡ Some x
front_has [] ys n x f e = let wrong : None ≡ Some x = e in absurd (cc wrong)
front_has (z ∷ xs) [] n x f e = absurd f
front_has (z ∷ xs) (y ∷ ys) zero x f e = ap Some (sym f.0) ∙ e
front_has (z ∷ xs) (y ∷ ys) (suc n) x f e = front_has xs ys n x f.1 e

front_takes : {X : Type 0} (xs ys : List X) (n : ℕ) → IsFront xs ys → n ≤ length xs → take n xs ≡ take n ys
front_takes xs ys zero f l = refl
front_takes [] ys (suc n) f l = absurd (omega (arith, l))
front_takes (x ∷ xs) [] (suc n) f l = absurd f
front_takes (x ∷ xs) (y ∷ ys) (suc n) f l = ap (λ z. z ∷ take n xs) f.0 ∙ ap (λ zs. y ∷ zs) (front_takes xs ys n f.1 (omega (arith, l)))

-- the last item of a list
record IsLast (v : ℕ) (xs : List (Item Entry)) : Type 0 where
  place : ℕ
  item : Item Entry
  long : length xs ≡ suc place
  there : slice_get xs place ≡ Some item
  view : end_view v xs ≡ item.view

last_item : (v : ℕ) (x : Item Entry) (xs : List (Item Entry)) → IsLast v (x ∷ xs)
last_item v x [] = record { place = 0; item = x; long = refl; there = refl; view = refl }
last_item v x (y ∷ xs) =
    let r = last_item x.view y xs in
    record { place = suc r.place; item = r.item; long = ap suc r.long; there = r.there; view = r.view }

-- ---- of a shard in step

module _ (g : ℕ) (c : Whole) (s : Copies Entry) (k : IsShardInStep g c s) where
  abbrev start : List (Item Entry)
  start = k.in_step.stands.begun

  abbrev v : ℕ
  v = k.in_step.stands.begun_at

  told : AreStampsTold view_after start v s
  told = k.in_step.stands.told

  -- a list that a disk may have begins that of opening, or goes on from there and tells its stamps
  data Begins (xs : List (Item Entry)) : Type 0 where
    Early : IsFront xs start → Begins xs
    Late : length start < length xs → view_told view_after 0 xs ≡ end_view v xs → Begins xs

  begins : (p : ℕ) (xs : List (Item Entry)) → IsOf c.core.members.shape g p → IsFront xs (longest p c.core s) → Begins xs
  begins p xs own f = elim (cases_lt (length start) (length xs)) [
    | inl late ↦
        let all : take (length start) whole ≡ start = front_whole (take (length start) whole) start first (take_long (length start) (length start) whole (omega arith) (let m = front_length xs whole within in omega (arith, m, late))) in
        let from : IsFront start whole = subst (λ ys. IsFront ys whole) all (front_first (length start) whole) in
        Late late (told_same 0 v start xs told.ends (stamped_prefix view_after (length start) v xs whole within (told.each near.0)) (front_both start xs whole from within (omega (arith, late))))
    | inr early ↦ Early (front_trans xs (take (length start) whole) start
        (front_both xs (take (length start) whole) whole within (front_first (length start) whole) (take_long (length start) (length xs) whole early (front_length xs whole within))) first)
  ]
    where
      near : (y : ℕ) × IsFront (longest p c.core s) (longest_of (s.peers y))
      near = longest_front g p c.core s k.in_step own

      whole : List (Item Entry)
      whole = longest_of (s.peers near.0)

      within : IsFront xs whole
      within = front_trans xs (longest p c.core s) whole f near.1

      log_reach : longest_of (s.peers k.in_step.stands.faithful.led.0) ≡ s.log
      log_reach = none_added (s.peers k.in_step.stands.faithful.led.0).list (s.peers k.in_step.stands.faithful.led.0).adding (k.in_step.stands.faithful.good k.in_step.stands.faithful.led.0 k.in_step.stands.faithful.led.1).nothing ∙ k.in_step.stands.faithful.led.2
        where
          nil_last : (xs : List (Item Entry)) → xs ++ [] ≡ xs
          nil_last [] = refl
          nil_last (x ∷ xs) = ap (λ ys. x ∷ ys) (nil_last xs)

          none_added : (xs ys : List (Item Entry)) → ys ≡ [] → xs ++ ys ≡ xs
          none_added xs ys e = ap (λ zs. xs ++ zs) e ∙ nil_last xs

      first : IsFront (take (length start) whole) start
      first = agree_front v start whole s.log (told.each near.0) (log_tells view_after start v s k.in_step.stands.faithful told) (front_trans start s.took s.log told.opening k.in_step.stands.faithful.took)
          (subst (λ ys. Agree whole ys) log_reach (k.in_step.stands.faithful.agree near.0 k.in_step.stands.faithful.led.0))

  -- two such lists that tell one view, and are as long, are one
  one_rank : (p q : ℕ) (xs ys : List (Item Entry)) → IsOf c.core.members.shape g p → IsOf c.core.members.shape g q → IsFront xs (longest p c.core s) → IsFront ys (longest q c.core s)
      → view_told view_after 0 xs ≡ view_told view_after 0 ys → length xs ≡ length ys → xs ≡ ys
  one_rank p q xs ys own other f h views long = by (begins p xs own f) (begins q ys other h)
    where
      few : (zs : List (Item Entry)) → IsFront zs start → length start < length zs → ⊥
      few zs e l = let n = front_length zs start e in omega (arith, n, l)

      late : (xs ys : List (Item Entry)) → IsFront xs (longest p c.core s) → IsFront ys (longest q c.core s) → length xs ≡ length ys → end_view v xs ≡ end_view v ys → xs ≡ ys
      late [] [] f h long same = refl
      late [] (y ∷ ys) f h long same = absurd (omega (arith, long))
      late (x ∷ xs) [] f h long same = absurd (omega (arith, long))
      late (x ∷ xs) (y ∷ ys) f h long same =
          let a : IsLast v (x ∷ xs) = last_item v x xs in
          let b : IsLast v (y ∷ ys) = last_item v y ys in
          let place : b.place ≡ a.place = (let n = a.long in let m = b.long in omega (arith, n, m, long)) in
          let there : slice_get (y ∷ ys) a.place ≡ Some b.item = subst (λ i. slice_get (y ∷ ys) i ≡ Some b.item) place b.there in
          let one : take (suc a.place) (longest p c.core s) ≡ take (suc a.place) (longest q c.core s) =
          one_to g c s k p q a.place a.item b.item own other (front_has (x ∷ xs) (longest p c.core s) a.place a.item f a.there) (front_has (y ∷ ys) (longest q c.core s) a.place b.item h there) (sym a.view ∙ same ∙ b.view) in
          let mine : take (suc a.place) (x ∷ xs) ≡ take (suc a.place) (longest p c.core s) = front_takes (x ∷ xs) (longest p c.core s) (suc a.place) f (let n = a.long in omega (arith, n)) in
          let its : take (suc a.place) (y ∷ ys) ≡ take (suc a.place) (longest q c.core s) = front_takes (y ∷ ys) (longest q c.core s) (suc a.place) h (let n = a.long in omega (arith, n, long)) in
          sym (all (suc a.place) (x ∷ xs) (sym a.long)) ∙ mine ∙ one ∙ sym its ∙ all (suc a.place) (y ∷ ys) (sym a.long ∙ long)
        where
          all : (n : ℕ) (zs : List (Item Entry)) → n ≡ length zs → take n zs ≡ zs
          all zero [] e = refl
          all zero (z ∷ zs) e = absurd (omega (arith, e))
          all (suc n) [] e = absurd (omega (arith, e))
          all (suc n) (z ∷ zs) e = ap (λ ws. z ∷ ws) (all n zs (omega (arith, e)))

      by : Begins xs → Begins ys → xs ≡ ys
      by (Early e) (Early i) = front_whole xs ys (front_both xs ys start e i (omega (arith, long))) (omega (arith, long))
      by (Early e) (Late l w) = absurd (few xs e (omega (arith, l, long)))
      by (Late l w) (Early i) = absurd (few ys i (omega (arith, l, long)))
      by (Late l w) (Late m u) = late xs ys f h long (sym w ∙ views ∙ u)

  -- a list as it stands on a disk
  record IsOn (p : ℕ) (list : Numbered) : Type 0 where
    items : List (Item Entry)
    front : IsFront items (longest p c.core s)
    is : list ≡ numbered items
    view : (rank_of list).view ≡ view_told view_after 0 items
    number : (rank_of list).number ≡ length items

  is_on : (p : ℕ) (list : Numbered) → IsOf c.core.members.shape g p → IsFrontOf p list (reach c p) → IsOn p list
  is_on p list own f =
      let n : ℕ = length list in
      let same : list ≡ numbered (take n (longest p c.core s)) =
      sym (ap (take n) f.1 ∙ take_at list f.0 n refl) ∙ ap (take n) (k.reaches p own) ∙ numbered_take n 1 (map what (longest p c.core s)) ∙ ap (enumerate_from 1) (take-map what n (longest p c.core s)) in
      let rank = rank_told n (longest p c.core s) (k.plain p own) in
      record {
        items = take n (longest p c.core s);
        front = front_first n (longest p c.core s);
        is = same;
        view = ap (λ (xs : Numbered). (rank_of xs).view) same ∙ rank.0;
        number = ap (λ (xs : Numbered). (rank_of xs).number) same ∙ rank.1;
      }

  pub shard_one : (p q : ℕ) (list other : Numbered) → IsOf c.core.members.shape g p → IsOf c.core.members.shape g q → IsFrontOf p list (reach c p) → IsFrontOf q other (reach c q) → rank_of list ≡ rank_of other → list ≡ other
  shard_one p q list other own of f h rank =
      let a : IsOn p list = is_on p list own f in
      let b : IsOn q other = is_on q other of h in
      a.is
      ∙ ap numbered (one_rank p q a.items b.items own of a.front b.front (sym a.view ∙ ap (λ (r : Rank). r.view) rank ∙ b.view) (sym a.number ∙ ap (λ (r : Rank). r.number) rank ∙ b.number))
      ∙ sym b.is

pub one_stamp : (c : Whole) (machines : ℕ → Copies Entry) → IsWholeInStep c machines → (p q : ℕ) → IsPeer c.core.members.shape p → home p c.core ≡ home q c.core → (list other : Numbered) → IsFrontOf p list (reach c p) → IsFrontOf q other (reach c q)
    → rank_of list ≡ rank_of other → list ≡ other
one_stamp c machines w p q low same list other f h rank = shard_one (home p c.core) c (machines (home p c.core)) (its_shard c machines w p low) p q list other refl (sym same) f h rank
