-- Along a lawful history, from the empty store on.
use Rattle.std.proofs.Common.{◌≡◌, inl, inr, ℕ, zero, suc, ◌+◌, ◌<◌, ◌≤◌, List, [], ◌∷◌, length, replicate, refl, sym, ap, subst, arith}
use Rattle.hs_limits.specs.declared.shape.Shape.{Shape}
use Rattle.hs_limits.specs.Shape.{IsShape}
use Rattle.hs_model.proofs.Members.{member_from_contains}
use Rattle.hs_laws.proofs.ValidLemmas.{Valid, valid_from_is, is_from_valid}
use Rattle.hs_deletion.specs.Machine.{Layout, Machine, empty_machine}
use Rattle.hs_deletion.specs.Following.{IsFollowing}
use Rattle.hs_deletion.proofs.HistoryKeeps.{made_empty}
use Rattle.hs_deletion.proofs.SameLemmas.{same_none}
use Rattle.hs_fold.specs.Lawful.{Deed}
use Rattle.hs_fold.specs.Shards.Setting.{Setting}
use Rattle.hs_fold.specs.Runs.Facts.{Catalogue, empty_catalogue}
use Rattle.hs_fold.specs.Runs.Fits.{catalogue_at}
use Rattle.hs_fold.specs.Runs.History.{follow, follow_all, FitAll, no_entries}
use Rattle.hs_fold.specs.Runs.Opened.{catalogues, store_of}
use Rattle.hs_fold.specs.Runs.Own.{AreOwn}
use Rattle.hs_fold.proofs.Runs.BlankLemmas.{blank-sound}
use Rattle.hs_fold.proofs.Runs.OwnLemmas.{empty-own}
use Rattle.hs_joint.specs.Along.{KeepFewRecords, EachDoesItsPart}
use Rattle.hs_joint.specs.Joined.{IsSentSo, KeepsTheLast}
use Rattle.hs_joint.specs.Seen.{layout_of, seen}
use Rattle.hs_joint.proofs.BoundLemmas.{bounded_empty}
use Rattle.hs_joint.proofs.DeedLemmas.{arrives}
use Rattle.hs_joint.proofs.FewLemmas.{HaveFew}
use Rattle.hs_joint.proofs.StandLemmas.{IsStanding}

-- ---- shapes

pub shape_some : (shape : Shape) → IsShape shape → 0 < shape.shards
shape_some shape is = elim is.shards [ inl e ↦ omega (arith, e) | inr (inl e) ↦ omega (arith, e) | inr (inr (inl e)) ↦ omega (arith, e) | inr (inr (inr e)) ↦ omega (arith, e) ]

pub shape_few : (shape : Shape) → IsShape shape → shape.shards ≤ 8
shape_few shape is = elim is.shards [ inl e ↦ omega (arith, e) | inr (inl e) ↦ omega (arith, e) | inr (inr (inl e)) ↦ omega (arith, e) | inr (inr (inr e)) ↦ omega (arith, e) ]

-- ---- the beginning

empty_at : (n k : ℕ) → catalogue_at (replicate n empty_catalogue) k ≡ empty_catalogue
empty_at zero k = refl
empty_at (suc n) zero = refl
empty_at (suc n) (suc k) = empty_at n k

empty_length : (n : ℕ) → length (replicate n empty_catalogue) ≡ n
empty_length zero = refl
empty_length (suc n) = let rest = empty_length n in omega (arith, rest)

empty_own : (n from k : ℕ) → AreOwn n from (replicate k empty_catalogue)
empty_own n from zero = tt
empty_own n from (suc k) = (empty-own n from, empty_own n (from + 1) k)

pub empty_standing : (set : Setting) (some : 0 < set.shape.shards) → IsStanding set some (no_entries set) empty_machine
empty_standing set some = record {
  joined = record {
    each = empty_length n;
    own = empty_own n 0 n;
    followed = record { made = made_empty L; each = λ k lk. subst (λ c. IsFollowing L empty_machine k (seen k c)) (sym (empty_at n k)) (blank k) };
    sent = λ k lk. subst (λ c. IsSentSo L empty_machine k c.sent) (sym (empty_at n k)) (λ kept among to told tells. elim (member_from_contains kept [] among) [ ]);
    last = λ k lk. subst (λ c. KeepsTheLast L empty_machine k c.sent) (sym (empty_at n k)) (record { rows = λ place kept e. cc e; there = λ place two low. absurd (omega (arith, low)) });
  };
  bounded = bounded_empty L;
  room = λ k lk. subst (λ c. length c.blocks ≤ 16384) (sym (empty_at n k)) (omega arith);
  few = λ k lk. subst (λ c. HaveFew c) (sym (empty_at n k)) (λ e m. elim m [ ]);
}
  where
    n : ℕ
    n = set.shape.shards

    L : Layout
    L = layout_of n some

    blank : (k : ℕ) → IsFollowing L empty_machine k (seen k empty_catalogue)
    blank k = record { blocks = same_none; roots = same_none; epoch = refl; swept = refl; round = λ r. refl; got = λ sender epoch round body q. cc q }

blank_catalogues : (set : Setting) (g n : ℕ) → catalogues set g (replicate n []) ≡ replicate n empty_catalogue
blank_catalogues set g zero = refl
blank_catalogues set g (suc n) = ap (λ cs. empty_catalogue ∷ cs) (blank_catalogues set (g + 1) n)

pub empty_valid : (set : Setting) → 0 < set.shape.shards → Valid (store_of (no_entries set))
empty_valid set some = subst (λ cs. Valid (store_of cs)) (blank_catalogues set 0 set.shape.shards) (valid_from_is _ (blank-sound set some).valid)

-- ---- one entry after another

pub record GoesAll (set : Setting) (some : 0 < set.shape.shards) (cs : List Catalogue) (deeds : List Deed) : Type 0 where
  pub later : Machine
  pub standing : IsStanding set some (follow_all set cs deeds) later
  pub valid : Valid (store_of (follow_all set cs deeds))
  pub parts : EachDoesItsPart set cs deeds

pub goes_all : (set : Setting) (some : 0 < set.shape.shards) → set.shape.shards ≤ 8 → (deeds : List Deed) (cs : List Catalogue) (m : Machine) → IsStanding set some cs m → Valid (store_of cs) → FitAll set cs deeds → KeepFewRecords set cs deeds → GoesAll set some cs deeds
goes_all set some few [] cs m st v fit records = record { later = m; standing = st; valid = v; parts = tt }
goes_all set some few (deed ∷ deeds) cs m st v fit records =
    let one = arrives set some cs m st deed.shard fit.0 deed.number deed.entry few fit.1 records.0 in
    let kept = one.keeps v in
    let rest = goes_all set some few deeds (follow set cs deed) one.later one.standing kept.0 fit.2 records.1 in
    record {
      later = rest.later;
      standing = rest.standing;
      valid = rest.valid;
      parts = (record { store = one.store; allowed = one.allowed; valid = is_from_valid (store_of (follow set cs deed)) kept.0 }, rest.parts);
    }

pub history_goes : (set : Setting) (some : 0 < set.shape.shards) → set.shape.shards ≤ 8 → (history : List Deed) → FitAll set (no_entries set) history → KeepFewRecords set (no_entries set) history → GoesAll set some (no_entries set) history
history_goes set some few history fit records = goes_all set some few history (no_entries set) empty_machine (empty_standing set some) (empty_valid set some) fit records
