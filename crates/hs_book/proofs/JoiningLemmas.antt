-- Whether a peer is joining, one after another.
use Rattle.std.proofs.Common.{◌≡◌, ap, ℕ, zero, suc, ◌+◌, ◌*◌, ◌<◌, ◌≤◌, ◌⊎◌, inl, inr, false, List, [], ◌∷◌, length, refl, subst, arith}
use Rattle.std.specs.Prelude.{slice_index_or}
use Rattle.hs_book.specs.History.{NobodyJoins}
use Rattle.hs_core_state.specs.Keeping.{IsCore}
use Rattle.hs_core_words.specs.Looking.{status_of}
use Rattle.hs_core_words.specs.State.{Core}
use Rattle.hs_limits.specs.declared.limits.PeerStatus.{PeerStatus}
use Rattle.hs_limits.specs.declared.limits.PeerStatus.TheVariants.{Down}
use Rattle.hs_members.specs.Members.{is_joining}

-- none of the peers below this one
abbrev pub AreCalm : ℕ → Core → Type 0
AreCalm n core = (peer : ℕ) → peer < n → is_joining (status_of peer core) ≡ false

behind_all : (statuses : List PeerStatus) (peer : ℕ) → length statuses ≤ peer → slice_index_or statuses peer Down ≡ Down
behind_all [] peer h = refl
behind_all (s ∷ statuses) zero h = absurd (omega arith)
behind_all (s ∷ statuses) (suc peer) h = behind_all statuses peer (omega arith)

cases_below : (m n : ℕ) → (m < n) ⊎ (n ≤ m)
cases_below m zero = inr (omega arith)
cases_below zero (suc n) = inl (omega arith)
cases_below (suc m) (suc n) = up (cases_below m n)
  where
    up : (m < n) ⊎ (n ≤ m) → (suc m < suc n) ⊎ (suc n ≤ suc m)
    up (inl h) = inl (omega arith)
    up (inr h) = inr (omega arith)

pub one_more_is_calm : (n : ℕ) (core : Core) → AreCalm n core → is_joining (status_of n core) ≡ false → AreCalm (n + 1) core
one_more_is_calm n core h here = λ peer less. by (cases_below peer n) less
  where
    by : {peer : ℕ} → (peer < n) ⊎ (n ≤ peer) → peer < n + 1 → is_joining (status_of peer core) ≡ false
    by {peer} (inl below) less = h peer below
    by {peer} (inr above) less =
        let same : n ≡ peer = omega arith in
        subst (λ p. is_joining (status_of p core) ≡ false) same here

pub all_are_calm : (n : ℕ) (core : Core) → IsCore core → n ≡ core.members.shape.shards * core.members.shape.copies → AreCalm n core → NobodyJoins core
all_are_calm n core is all h = λ peer. by peer (cases_below peer n)
  where
    by : (peer : ℕ) → (peer < n) ⊎ (n ≤ peer) → is_joining (status_of peer core) ≡ false
    by peer (inl below) = h peer below
    by peer (inr above) =
        let long : length core.members.statuses ≤ peer = omega (arith, is.members.statuses) in
        ap is_joining (behind_all core.members.statuses peer long)
