-- When a list of entries is a prefix of another.
use Rattle.std.specs.Prelude.{◌≡◌, ℕ, ◌≤◌, false, Contains, fold}
use Rattle.hs_entry.specs.declared.entry.Entry.{Entry}
use Rattle.hs_entry.specs.declared.entry.Entry.TheVariants as kind
use Rattle.hs_entry.specs.Entries.{is_of_base}
use Rattle.hs_fold.specs.Pending.{up_to}
use Rattle.hs_fold.specs.Prefix.{last_of}
use Rattle.hs_fold.specs.Shards.Setting.{Numbered}

-- the number of the last Base behind a frame more
abbrev pub base_after : ℕ → ℕ → Entry → ℕ
base_after base number (kind.Base view epoch swept round frames) = number
base_after base number other = base

-- the number of the last Base, 0 where there is none: from there on what a list amounts to can be told
unfoldable pub base_of : Numbered → ℕ
base_of entries = fold (λ base x. base_after base x.0 x.1) 0 entries

-- both keep an ordinary entry under a number: neither is a Base or kept behind one
pub record AreKept (front all : Numbered) (number : ℕ) (a b : Entry) : Type 0 where
  pub in_front : Contains front (number, a)
  pub in_all : Contains all (number, b)
  pub ordinary_in_front : is_of_base a ≡ false
  pub ordinary_in_all : is_of_base b ≡ false

-- it ends no later; both have the same entry under each number that both keep as an ordinary one; and what it amounts to is what the other does up to its end, where the other one's Base is not behind that
pub record IsListPrefix {X : Type 0} (amounts_to : Numbered → X) (front all : Numbered) : Type 0 where
  pub shorter : last_of front ≤ last_of all
  pub same : (number : ℕ) (a b : Entry) → AreKept front all number a b → a ≡ b
  pub amounts : base_of all ≤ last_of front → amounts_to front ≡ amounts_to (up_to (last_of front) all)
