-- Which lists a run may begin with.
use Rattle.std.specs.Prelude.{ℕ, ◌≤◌, List, [], ◌∷◌, length, All, AllPairs}
use Rattle.hs_limits.specs.Limits.{greatest_limits}
use Rattle.hs_laws.specs.Valid.{IsValid}
use Rattle.hs_entry.specs.declared.entry.Entry.{Entry}
use Rattle.hs_entry.specs.declared.entry.Entry.TheVariants as kind
use Rattle.hs_fold.specs.Shards.Catalogue.{Catalogue}
use Rattle.hs_fold.specs.Shards.History.{AreLawful}
use Rattle.hs_fold.specs.Shards.Opened.{catalogues, store_of}
use Rattle.hs_fold.specs.Shards.Setting.{Numbered, Setting}

-- the most root records of a shard, retained and dropped
abbrev pub most_records : ℕ
most_records = 16777216

-- a view more, where an entry has one
abbrev pub with_view : Entry → List ℕ → List ℕ
with_view (kind.View view) views = view ∷ views
with_view (kind.Base view epoch swept round frames) views = view ∷ views
with_view other views = views

-- the views of the View entries and of the Base of a list
abbrev pub views_of : Numbered → List ℕ
views_of [] = []
views_of (e ∷ es) = with_view e.1 (views_of es)

-- they never fall
abbrev pub HasRisingViews : Numbered → Type 0
HasRisingViews list = AllPairs (λ earlier later. earlier ≤ later) (views_of list)

-- what a shard takes: no more blocks, and no more root records
pub record HasRoom (c : Catalogue) : Type 0 where
  pub blocks : length c.blocks ≤ greatest_limits.blocks
  pub records : length c.roots ≤ most_records

-- lists that a run may begin with, one for each shard
pub record AreSound (set : Setting) (lists : List Numbered) : Type 0 where
  -- their store is valid, and each shard has room for what it has
  pub valid : IsValid (store_of (catalogues set 0 lists))
  pub room : All HasRoom (catalogues set 0 lists)
  -- (that counts are right, and Gots what their senders sent, has its place here)
  pub lawful : AreLawful set lists (catalogues set 0 lists)
  pub views : All HasRisingViews lists
