-- The lead of a shard: what the longest of some lists is.
use Rattle.std.proofs.Common.{◌≡◌, ℕ, zero, suc, ◌+◌, ◌<◌, ◌≤◌, Bool, true, false, List, [], ◌∷◌, length, drop, get_or, filter, Option, Some, None, is_some, leb, refl, ap, sym, ◌∙◌, arith}
use Rattle.std.proofs.lemmas.Bool.{leb-true}
use Rattle.std.proofs.lemmas.Bool.Decides.{leb_tells}
use Rattle.std.specs.List.{enumerate_from, list_any, range_with_len}
use Rattle.std.specs.Option.{IfSome, MatchOption, option_map}
use Rattle.hs_limits.specs.declared.limits.PeerStatus.{PeerStatus}
use Rattle.hs_limits.specs.declared.limits.PeerStatus.TheVariants.{Good, Joining, Down}
use Rattle.hs_limits.specs.Shape.{peer_of}
use Rattle.hs_members.specs.Members.{Members, IsLead, good_lengths, has_good, is_good_status, lead_by, longer, longest, status}

-- the good peers from this copy on, with the lengths of their lists
abbrev pub good_from : ℕ → List ℕ → Members → ℕ → List (ℕ × ℕ)
good_from shard lengths m copy =
    filter (λ x. is_good_status (status x.0 m)) (enumerate_from (peer_of m.shape shard copy) (drop copy lengths))

-- those of the peers from n on that pass the test, with their lengths
abbrev pub passing : (ℕ → Bool) → ℕ → List ℕ → List (ℕ × ℕ)
passing p n xs = filter (λ x. p x.0) (enumerate_from n xs)

-- one is found where one passes
pub found_where_any : (p : ℕ → Bool) (n : ℕ) (xs : List ℕ) → is_some (longest (passing p n xs)) ≡ list_any p (range_with_len n (length xs))
found_where_any p n [] = refl
found_where_any p n (x ∷ xs) = go (p n) refl (found_where_any p (n + 1) xs)
  where
    go : (b : Bool) → p n ≡ b → is_some (longest (passing p (n + 1) xs)) ≡ list_any p (range_with_len (n + 1) (length xs))
        → is_some (longest (passing p n (x ∷ xs))) ≡ list_any p (range_with_len n (length (x ∷ xs)))
    go true e h = rw e
    go false e h = rw e h

-- of the peers from n on that pass the test, this has the longest list, and no lower one has one as long
pub record IsBest (p : ℕ → Bool) (n : ℕ) (xs : List ℕ) (best : ℕ × ℕ) : Type 0 where
  pub place : ℕ
  pub within : place < length xs
  pub number : best.0 ≡ n + place
  pub passes : p best.0 ≡ true
  pub long : best.1 ≡ get_or xs place 0
  pub longest : (i peer : ℕ) → peer ≡ n + i → i < length xs → p peer ≡ true → get_or xs i 0 ≤ best.1
  pub lowest : (i peer : ℕ) → peer ≡ n + i → i < place → p peer ≡ true → get_or xs i 0 < best.1

-- no peer passes, or the longest is the best
abbrev pub IsJudged : (ℕ → Bool) → ℕ → List ℕ → Option (ℕ × ℕ) → Type 0
IsJudged p n xs r = MatchOption r ((i peer : ℕ) → peer ≡ n + i → i < length xs → p peer ≡ false) (IsBest p n xs)

-- where the first fails the test, the peers that fail
all_fail : (p : ℕ → Bool) (n : ℕ) (x : ℕ) (xs : List ℕ) → p n ≡ false → ((i peer : ℕ) → peer ≡ n + 1 + i → i < length xs → p peer ≡ false)
    → (i peer : ℕ) → peer ≡ n + i → i < length (x ∷ xs) → p peer ≡ false
all_fail p n x xs e h zero peer q l = let at : peer ≡ n = omega arith in ap p at ∙ e
all_fail p n x xs e h (suc i) peer q l = h i peer (omega arith) (omega arith)

-- where the first is no longer than this, none is
none_longer : (p : ℕ → Bool) (n x : ℕ) (xs : List ℕ) (long : ℕ) → (p n ≡ true → x ≤ long) → ((i peer : ℕ) → peer ≡ n + 1 + i → i < length xs → p peer ≡ true → get_or xs i 0 ≤ long)
    → (i peer : ℕ) → peer ≡ n + i → i < length (x ∷ xs) → p peer ≡ true → get_or (x ∷ xs) i 0 ≤ long
none_longer p n x xs long first h zero peer q l t = let at : peer ≡ n = omega arith in first (sym (ap p at) ∙ t)
none_longer p n x xs long first h (suc i) peer q l t = h i peer (omega arith) (omega arith) t

-- where the first is shorter, each lower one is
lower_shorter : (p : ℕ → Bool) (n x : ℕ) (xs : List ℕ) (long place : ℕ) → (p n ≡ true → x < long) → ((i peer : ℕ) → peer ≡ n + 1 + i → i < place → p peer ≡ true → get_or xs i 0 < long)
    → (i peer : ℕ) → peer ≡ n + i → i < suc place → p peer ≡ true → get_or (x ∷ xs) i 0 < long
lower_shorter p n x xs long place first h zero peer q l t = let at : peer ≡ n = omega arith in first (sym (ap p at) ∙ t)
lower_shorter p n x xs long place first h (suc i) peer q l t = h i peer (omega arith) (omega arith) t

-- the best of the others, where it is longer than the first or the first fails the test
still_best : (p : ℕ → Bool) (n x : ℕ) (xs : List ℕ) (best : ℕ × ℕ) → (p n ≡ true → x < best.1) → IsBest p (n + 1) xs best → IsBest p n (x ∷ xs) best
still_best p n x xs best first h = record {
  place = suc h.place;
  within = omega (arith, h.within);
  number = omega (arith, h.number);
  passes = h.passes;
  long = h.long;
  longest = none_longer p n x xs best.1 (λ t. let l : x < best.1 = first t in omega arith) h.longest;
  lowest = lower_shorter p n x xs best.1 h.place first h.lowest;
}

-- the first, where it passes the test and no other is longer
first_best : (p : ℕ → Bool) (n x : ℕ) (xs : List ℕ) → p n ≡ true → ((i peer : ℕ) → peer ≡ n + 1 + i → i < length xs → p peer ≡ true → get_or xs i 0 ≤ x)
    → IsBest p n (x ∷ xs) (n, x)
first_best p n x xs e h = record {
  place = 0;
  within = omega arith;
  number = omega arith;
  passes = e;
  long = refl;
  longest = none_longer p n x xs x (λ t. omega arith) h;
  lowest = λ i peer q l t. absurd (omega (arith, l));
}

-- one peer more in front that fails the test
skipped : (p : ℕ → Bool) (n x : ℕ) (xs : List ℕ) (r : Option (ℕ × ℕ)) → p n ≡ false → IsJudged p (n + 1) xs r → IsJudged p n (x ∷ xs) r
skipped p n x xs None e h = all_fail p n x xs e h
skipped p n x xs (Some best) e h = still_best p n x xs best (λ t. let wrong : false ≡ true = sym e ∙ t in cc) h

-- one that passes
added : (p : ℕ → Bool) (n x : ℕ) (xs : List ℕ) (r : Option (ℕ × ℕ)) → p n ≡ true → IsJudged p (n + 1) xs r → IsJudged p n (x ∷ xs) (Some (longer (n, x) r))
added p n x xs None e h = first_best p n x xs e (λ i peer q l t. let wrong : false ≡ true = sym (h i peer q l) ∙ t in cc)
added p n x xs (Some best) e h = go (leb best.1 x) refl
  where
    go : (b : Bool) → leb best.1 x ≡ b → IsBest p n (x ∷ xs) (longer (n, x) (Some best))
    go true f = rw f (first_best p n x xs e (λ i peer q l t. let at : get_or xs i 0 ≤ best.1 = h.longest i peer q l t in omega (arith, leb-true best.1 x f)))
    go false f = rw f (still_best p n x xs best (λ t. grind (arith, leb_tells best.1 x)) h)

pub longest_is_judged : (p : ℕ → Bool) (n : ℕ) (xs : List ℕ) → IsJudged p n xs (longest (passing p n xs))
longest_is_judged p n [] = λ i peer e h. absurd (omega arith)
longest_is_judged p n (x ∷ xs) = go (p n) refl (longest_is_judged p (n + 1) xs)
  where
    go : (b : Bool) → p n ≡ b → IsJudged p (n + 1) xs (longest (passing p (n + 1) xs)) → IsJudged p n (x ∷ xs) (longest (passing p n (x ∷ xs)))
    go true e h = rw e (added p n x xs _ e h)
    go false e h = rw e (skipped p n x xs _ e h)

good_only : (s : PeerStatus) → is_good_status s ≡ true → s ≡ Good
good_only Good e = refl
good_only Joining e = cc
good_only Down e = cc

-- the lead has the longest list
pub lead_is_lead : (shard : ℕ) (lengths : List ℕ) (m : Members) (best : ℕ × ℕ) → length lengths ≡ m.shape.copies → longest (good_lengths shard lengths m) ≡ Some best → IsLead shard lengths m best.0
lead_is_lead shard lengths m best l e =
    let h : IsBest (λ peer. is_good_status (status peer m)) (peer_of m.shape shard 0) lengths best = rw e at (longest_is_judged (λ peer. is_good_status (status peer m)) (peer_of m.shape shard 0) lengths) in
    record {
      copy = h.place;
      home = (omega (arith, h.within), omega (arith, h.number));
      good = good_only _ h.passes;
      longest = λ other within good. omega (arith, h.long, h.longest other (peer_of m.shape shard other) (omega arith) (omega arith) (ap is_good_status good));
      lowest = λ other below good. omega (arith, h.long, h.lowest other (peer_of m.shape shard other) (omega arith) (omega arith) (ap is_good_status good));
    }

-- it is there where a peer is good
pub lead_is_found : (shard : ℕ) (lengths : List ℕ) (m : Members) → length lengths ≡ m.shape.copies → is_some (longest (good_lengths shard lengths m)) ≡ has_good shard m
lead_is_found shard lengths m l =
    found_where_any (λ peer. is_good_status (status peer m)) (peer_of m.shape shard 0) lengths ∙ ap (λ n. list_any (λ peer. is_good_status (status peer m)) (range_with_len (peer_of m.shape shard 0) n)) l

-- what `lead_by` gives is the lead, and is there where a peer is good
pub lead_by_found : (shard : ℕ) (lengths : List ℕ) (m : Members) (lead : Option ℕ) → length lengths ≡ m.shape.copies → lead ≡ lead_by shard lengths m → is_some lead ≡ has_good shard m
lead_by_found shard lengths m lead l e = ap is_some e ∙ (is_some_map _ ∙ lead_is_found shard lengths m l)
  where
    is_some_map : (o : Option (ℕ × ℕ)) → is_some (option_map (λ x. x.0) o) ≡ is_some o
    is_some_map None = refl
    is_some_map (Some x) = refl

pub lead_by_is_lead : (shard : ℕ) (lengths : List ℕ) (m : Members) (lead : Option ℕ) → length lengths ≡ m.shape.copies → lead ≡ lead_by shard lengths m → IfSome lead (IsLead shard lengths m)
lead_by_is_lead shard lengths m lead l e = rw e (go (longest (good_lengths shard lengths m)) refl)
  where
    go : (o : Option (ℕ × ℕ)) → longest (good_lengths shard lengths m) ≡ o → IfSome (option_map (λ x. x.0) o) (IsLead shard lengths m)
    go None f = tt
    go (Some x) f = lead_is_lead shard lengths m x l f
