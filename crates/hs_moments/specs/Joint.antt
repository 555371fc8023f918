-- What the top call needs of the cluster: at each moment a core, what the course and the journal say of it, and the lists of the disks then.
use Rattle.std.specs.Prelude.{◌≡◌, ℕ, ◌*◌, ◌-◌, ◌^◌, ◌<◌, ◌≤◌, ◌+◌, true, List, [], ◌∷◌, ◌++◌, Option, None, Some, All}
use Rattle.hs_limits.specs.declared.shape.Shape.{Shape}
use Rattle.hs_model.specs.declared.course.CourseItem.{CourseItem}
use Rattle.hs_model.specs.declared.course.CourseItem.TheVariants as item
use Rattle.hs_ports.specs.declared.disk.Side.{Side}
use Rattle.hs_ports.specs.Disk.{Standing}
use Rattle.hs_ports.specs.Moments.{disk_at}
use Rattle.hs_journal.specs.Moments.{below}
use Rattle.hs_journal.specs.declared.entry.JournalEntry.{JournalEntry}
use Rattle.hs_fold.specs.Good.{is_good, taken_below}
use Rattle.hs_fold.specs.Images.{IsLeft}
use Rattle.hs_moments.specs.Machine.{Machine}
use Rattle.hs_moments.specs.Moments.{Keeps, GivesFine}

-- the moment of an item
abbrev pub moment_of : CourseItem → ℕ
moment_of (item.Begun line moment) = moment
moment_of (item.Good peer moment) = moment
moment_of (item.Bad peer moment) = moment
moment_of (item.Took shard number moment) = moment

module _ {State Event : Type 0} (M : Machine State Event) (Sane : State → Type 0) (shape : Shape) where
  -- the course and the journal say of a moment what this core is; Sane: what a law of the core's machine asks of a state
  pub record Tells (course : List CourseItem) (journal : List JournalEntry) (moment : ℕ) (c : State) : Type 0 where
    pub sane : Sane c
    pub answered : M.journal c ≡ below moment journal
    pub good : (peer : ℕ) → peer < shape.shards * shape.copies → is_good course moment peer ≡ M.good c peer
    pub taken : (shard : ℕ) → shard < shape.shards → taken_below course moment shard ≡ M.front c shard

  -- a moment of a run
  pub record AtMoment (course : List CourseItem) (journal : List JournalEntry) (moment : ℕ) (disks : List Standing) : Type 0 where
    pub core : State
    pub tells : Tells course journal moment core
    pub lists : (peer : ℕ) → M.counts core peer ≡ true → (image : Side → List ℕ) → IsLeft (disk_at disks peer) moment image → GivesFine M core peer image

  -- between two lines: at each later moment the core is as it stands, and so are the disks
  pub record Rests (course : List CourseItem) (journal : List JournalEntry) (now : ℕ) (disks : List Standing) (c : State) : Type 0 where
    pub keeps : Keeps M c now disks
    pub tells : (m : ℕ) → now < m → Tells course journal m c

  -- one line, or opening: what came to the journal and the course, each moment of it, and how it rests then
  pub record Advances (before now : ℕ) (course course' : List CourseItem) (journal journal' : List JournalEntry) (disks disks' : List Standing) (c' : State) : Type 0 where
    pub later : before ≤ now
    pub more : List JournalEntry
    pub added : journal' ≡ journal ++ more
    pub entered : All (λ entry. before ≤ entry.moment) more
    pub noted : List CourseItem
    pub gone_on : course' ≡ course ++ noted
    pub items : All (λ i. before ≤ moment_of i) noted
    pub earlier : (peer m : ℕ) (side : Side) → m ≤ before → m < 2 ^ 64 - 1 → (disk_at disks' peer).past m side ≡ (disk_at disks peer).past m side
    pub moments : (m : ℕ) → before < m → m ≤ now → m < 2 ^ 64 - 1 → AtMoment course' journal' m disks'
    pub rests : Rests course' journal' now disks' c'

  -- what is so of every moment so far
  pub record Holds (before now : ℕ) (course : List CourseItem) (journal : List JournalEntry) (disks : List Standing) : Type 0 where
    pub moments : (m : ℕ) → before < m → m ≤ now → m < 2 ^ 64 - 1 → AtMoment course journal m disks

-- the course begins so: of each shard whose log was taken, the peer and the number of its last entry
abbrev pub entry_course : ℕ → ℕ → List (Option (ℕ × ℕ)) → List CourseItem
entry_course moment shard [] = []
entry_course moment shard (None ∷ takens) = entry_course moment (shard + 1) takens
entry_course moment shard (Some (peer, number) ∷ takens) = item.Good peer moment ∷ item.Took shard number moment ∷ entry_course moment (shard + 1) takens

module _ {State Event : Type 0} (M : Machine State Event) (Sane : State → Type 0) (shape : Shape) where
  -- opening: which logs were taken, and then as a line
  pub record Opens (before now : ℕ) (takens : List (Option (ℕ × ℕ))) (course : List CourseItem) (journal : List JournalEntry) (disks' : List Standing) (c : State) : Type 0 where
    pub rest : List CourseItem
    pub begins : course ≡ entry_course before 0 takens ++ rest
    pub moments : (m : ℕ) → before < m → m ≤ now → m < 2 ^ 64 - 1 → AtMoment M Sane shape course journal m disks'
    pub rests : Rests M Sane shape course journal now disks' c
