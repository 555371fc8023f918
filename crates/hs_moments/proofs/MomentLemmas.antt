-- How the lists at each moment go on by an event.
use Rattle.std.proofs.Common.{◌≡◌, ◌≢◌, inl, inr, ℕ, ◌-◌, ◌^◌, ◌<◌, ◌≤◌, true, false, cond, List, [], ◌∷◌, ◌++◌, refl, sym, ap, subst, ◌∙◌, arith, nat_lt}
use Rattle.std.proofs.lemmas.Bool.{cases_lt, cases_eq}
use Rattle.std.proofs.lemmas.Bool.Decides.{nat_tests}
use Rattle.hs_ports.specs.declared.disk.Side.{Side}
use Rattle.hs_ports.specs.Disk.{IsImage, Standing}
use Rattle.hs_ports.specs.Moments.{disk_at}
use Rattle.hs_fold.specs.Images.{IsLeft}
use Rattle.hs_moments.specs.Machine.{Machine, runs, until, state_at, Rises}
use Rattle.hs_moments.specs.Moments.{IsStanding, EachImageOfOne, Since, GivesFine, Keeps, ListsAtMoments, Grows}

pub lt-is : (k m : ℕ) → k < m → nat_lt k m ≡ true
lt-is k m h = grind (arith, nat_tests, h)

pub le-is : (k m : ℕ) → m ≤ k → nat_lt k m ≡ false
le-is k m h = grind (arith, nat_tests, h)

module _ {State Event : Type 0} (M : Machine State Event) where
  -- ---- the events below a moment

  -- an event at a moment that is no lower is none of them
  until-more : (m : ℕ) (es : List (Event × ℕ)) (e : Event) (k : ℕ) → m ≤ k → until m (es ++ (e, k) ∷ []) ≡ until m es
  until-more m [] e k le = rw (le-is k m le) refl
  until-more m (x ∷ es) e k le = ap (λ rest. cond (nat_lt x.1 m) (x ∷ rest) []) (until-more m es e k le)

  pub until-all : (m from to : ℕ) (es : List (Event × ℕ)) → Rises M from es to → to < m → until m es ≡ es
  until-all m from to [] r lt = refl
  until-all m from to (x ∷ es) r lt = rw (lt-is x.1 m (low x.1 es r.1)) (ap (λ rest. x ∷ rest) (until-all m x.1 to es r.1 lt))
    where
      low : (k : ℕ) (es : List (Event × ℕ)) → Rises M k es to → k < m
      low k [] h = omega (arith, h, lt)
      low k (y ∷ es) h = let next = low y.1 es h.1 in omega (arith, h.0, next)

  steps-more : (c : State) (es : List (Event × ℕ)) (e : Event) (k : ℕ) → runs M c (es ++ (e, k) ∷ []) ≡ M.step (runs M c es) e k
  steps-more c [] e k = refl
  steps-more c (x ∷ es) e k = steps-more (M.step c x.0 x.1) es e k

  -- ---- what is kept between events

  fine-grows : (c c' : State) (peer : ℕ) (image : Side → List ℕ) → Grows M c c' peer → GivesFine M c peer image → GivesFine M c' peer image
  fine-grows c c' peer image g f = record { list = f.list; read = f.read; front = g.front f.list f.front; long = let low = f.long in let no_more = g.long in omega (arith, low, no_more) }

  -- an event that speaks of no disk
  pub quiet-keeps : (c c' : State) (now : ℕ) (disks : List Standing) → ((peer : ℕ) → Grows M c c' peer) → Keeps M c now disks → Keeps M c' now disks
  quiet-keeps c c' now disks g k = record {
    called = k.called;
    fine = λ peer counted image stands. fine-grows c c' peer image (g peer) (k.fine peer ((g peer).counted counted) image stands);
  }

  -- time goes on
  pub later-keeps : (c : State) (now now' : ℕ) (disks : List Standing) → now ≤ now' → Keeps M c now disks → Keeps M c now' disks
  later-keeps c now now' disks le k = record { called = λ peer. let low = k.called peer in omega (arith, low, le); fine = k.fine }

  -- calls on the disk of one peer, and the event that tells of them
  pub call-keeps : (c c' : State) (before now peer : ℕ) (disks disks' : List Standing) (P : (Side → List ℕ) → Type 0) → ((other : ℕ) → other ≢ peer → Grows M c c' other)
      → EachImageOfOne before now peer disks disks' P → (M.counts c' peer ≡ true → (image : Side → List ℕ) → IsStanding (disk_at disks' peer) image → GivesFine M c' peer image)
      → Keeps M c before disks → Keeps M c' now disks'
  call-keeps c c' before now peer disks disks' P g call told k = record {
    called = λ other. elim (cases_eq other peer) [
      | inl same ↦ subst (λ p. (disk_at disks' p).last ≤ now) (sym same) call.last
      | inr differs ↦ let low = k.called other in let le = call.later in subst (λ (d : Standing). d.last ≤ now) (sym (call.others other differs)) (omega (arith, low, le))
    ];
    fine = λ other counted image stands. elim (cases_eq other peer) [
      | inl same ↦ subst (λ p. GivesFine M c' p image) (sym same) (told (subst (λ p. M.counts c' p ≡ true) same counted) image (subst (λ p. IsStanding (disk_at disks' p) image) same stands))
      | inr differs ↦ fine-grows c c' other image (g other differs) (k.fine other ((g other differs).counted counted) image (subst (λ d. IsStanding d image) (call.others other differs) stands))
    ];
  }

  -- ---- moments

  module _ (c0 : State) (events : List (Event × ℕ)) (from before now : ℕ) (disks : List Standing) (rises : Rises M from events before) (since : Since disks) where
    abbrev c : State
    c = runs M c0 events

    here : (m : ℕ) → before < m → state_at M c0 events m ≡ c
    here m lt = ap (λ es. runs M c0 es) (until-all m from before events rises lt)

    stands-now : (k : ℕ) (m : ℕ) → before < m → Keeps M c before disks → (image : Side → List ℕ) → IsLeft (disk_at disks k) m image → IsStanding (disk_at disks k) image
    stands-now k m lt keeps image left = record { sides = λ side. subst (λ l. IsImage l (image side)) (since k side m (let low = keeps.called k in omega (arith, low, lt))) (left.sides side) }

    -- calls on one disk from before to now, in which each image is fine for the core as it stands; then the event that tells of them
    pub moments-call : (first peer : ℕ) (disks' : List Standing) (e : Event) → Keeps M c before disks → EachImageOfOne before now peer disks disks' (λ image. M.counts c peer ≡ true → GivesFine M c peer image)
        → ListsAtMoments M c0 events (record { before = first; now = before; disks = disks }) → ListsAtMoments M c0 (events ++ (e, now) ∷ []) (record { before = first; now = now; disks = disks' })
    moments-call first peer disks' e keeps call lists = record {
      fine = λ m k low high fits counted image left.
          let same : state_at M c0 (events ++ (e, now) ∷ []) m ≡ state_at M c0 events m = ap (λ es. runs M c0 es) (until-more m events e now high) in
          subst (λ s. GivesFine M s k image) (sym same) (at m k low high fits (subst (λ s. M.counts s k ≡ true) same counted) image left);
    }
      where
        old : (m k : ℕ) → first < m → m ≤ before → m < 2 ^ 64 - 1 → M.counts (state_at M c0 events m) k ≡ true → (image : Side → List ℕ) → IsLeft (disk_at disks' k) m image → GivesFine M (state_at M c0 events m) k image
        old m k low le fits counted image left = lists.fine m k low le fits counted image (elim (cases_eq k peer) [
          | inl same ↦ record { sides = λ side. subst (λ l. IsImage l (image side)) (ap (λ p. (disk_at disks' p).past m side) same ∙ call.earlier side m le fits ∙ ap (λ p. (disk_at disks p).past m side) (sym same)) (left.sides side) }
          | inr differs ↦ subst (λ d. IsLeft d m image) (call.others k differs) left
        ])

        new : (m k : ℕ) → before < m → m < 2 ^ 64 - 1 → M.counts c k ≡ true → (image : Side → List ℕ) → IsLeft (disk_at disks' k) m image → GivesFine M c k image
        new m k lt fits counted image left = elim (cases_eq k peer) [
          | inl same ↦ subst (λ p. GivesFine M c p image) (sym same) (call.each m lt fits image (subst (λ p. IsLeft (disk_at disks' p) m image) same left) (subst (λ p. M.counts c p ≡ true) same counted))
          | inr differs ↦ keeps.fine k counted image (stands-now k m lt keeps image (subst (λ d. IsLeft d m image) (call.others k differs) left))
        ]

        at : (m k : ℕ) → first < m → m ≤ now → m < 2 ^ 64 - 1 → M.counts (state_at M c0 events m) k ≡ true → (image : Side → List ℕ) → IsLeft (disk_at disks' k) m image → GivesFine M (state_at M c0 events m) k image
        at m k low high fits counted image left = elim (cases_lt before m) [
          | inl above ↦ subst (λ s. GivesFine M s k image) (sym (here m above)) (new m k above fits (subst (λ s. M.counts s k ≡ true) (here m above) counted) image left)
          | inr le ↦ old m k low le fits counted image left
        ]

    -- time goes on without a call on a disk, and then an event comes
    pub moments-quiet : (first : ℕ) (e : Event) → before ≤ now → Keeps M c before disks → ListsAtMoments M c0 events (record { before = first; now = before; disks = disks }) → ListsAtMoments M c0 (events ++ (e, now) ∷ []) (record { before = first; now = now; disks = disks })
    moments-quiet first e le keeps lists = record {
      fine = λ m k low high fits counted image left.
          let same : state_at M c0 (events ++ (e, now) ∷ []) m ≡ state_at M c0 events m = ap (λ es. runs M c0 es) (until-more m events e now high) in
          subst (λ s. GivesFine M s k image) (sym same) (at m k low fits (subst (λ s. M.counts s k ≡ true) same counted) image left);
    }
      where
        at : (m k : ℕ) → first < m → m < 2 ^ 64 - 1 → M.counts (state_at M c0 events m) k ≡ true → (image : Side → List ℕ) → IsLeft (disk_at disks k) m image → GivesFine M (state_at M c0 events m) k image
        at m k low fits counted image left = elim (cases_lt before m) [
          | inl above ↦ subst (λ s. GivesFine M s k image) (sym (here m above)) (keeps.fine k (subst (λ s. M.counts s k ≡ true) (here m above) counted) image (stands-now k m above keeps image left))
          | inr le ↦ lists.fine m k low le fits counted image left
        ]

    -- or the line is printed, and no event comes
    pub moments-pass : (first : ℕ) → before ≤ now → Keeps M c before disks → ListsAtMoments M c0 events (record { before = first; now = before; disks = disks }) → ListsAtMoments M c0 events (record { before = first; now = now; disks = disks })
    moments-pass first le keeps lists = record {
      fine = λ m k low high fits counted image left. elim (cases_lt before m) [
        | inl above ↦ subst (λ s. GivesFine M s k image) (sym (here m above)) (keeps.fine k (subst (λ s. M.counts s k ≡ true) (here m above) counted) image (stands-now k m above keeps image left))
        | inr le ↦ lists.fine m k low le fits counted image left
      ];
    }
