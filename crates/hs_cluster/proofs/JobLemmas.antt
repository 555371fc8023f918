-- What a job leaves of a log, by what the log's calls leave.
use Rattle.std.proofs.Common.{◌≡◌, ◌∙◌, inl, ap, sym, subst, ℕ, ◌<◌, ◌≤◌, Bool, true, false, List, [], ◌∷◌, length, Option, Some, None, refl, arith, zero, suc}
use Rattle.std.specs.Option.{option_map}
use Rattle.std.specs.Prelude.{Contains, IfOk, Result, Ok, Err, ◌==◌, if◌then◌else◌, slice_index_or}
use Rattle.hs_cluster.specs.Jobs.{Leaves, LeavesLog, ReadsLog, ReadsOn, Try, list_after, sealed_list, waiting_after}
use Rattle.hs_desk.specs.declared.done.Done.{Done}
use Rattle.hs_desk.specs.declared.done.Done.TheVariants as done
use Rattle.hs_desk.specs.declared.job.Job.{Job}
use Rattle.hs_desk.specs.declared.job.Job.TheVariants as job
use Rattle.hs_entry.specs.declared.entry.Entry.{Entry}
use Rattle.hs_entry.specs.declared.entry.Entry.TheVariants.{Block}
use Rattle.hs_entry.specs.declared.rank.Rank.{Rank}
use Rattle.hs_events.specs.Asked.{failed_disk}
use Rattle.hs_events.specs.Reports.{TellsOf}
use Rattle.hs_fold.specs.Shards.Setting.{Numbered}
use Rattle.hs_peerlog.specs.Images.{GivesList, Is, IsOne, LeavesAll, LeavesEach, LeavesOnly}
use Rattle.hs_peerlog.specs.Lists.{HasLog, IsKept, Keeping, numbered_entry}
use Rattle.hs_ports.specs.declared.disk.Side.{Side}
use Rattle.hs_ports.specs.Disk.{IsImage, Standing}

none_is_not : {A : Type 0} (x : A) → None ≡ Some x → ⊥
none_is_not x e = grind arith

some_is : {A : Type 0} (x y : A) → Some x ≡ Some y → x ≡ y
some_is x y e = cc

-- ---- the entry that waits

pub none_waits : (keeping : Keeping) (seen : List ℕ) (list : Numbered) (waiting : Option Entry) → IsKept keeping seen list waiting → keeping.waits ≡ None → waiting ≡ None
none_waits keeping seen list None kept h = refl
none_waits keeping seen list (Some entry) kept h = absurd (none_is_not _ (sym h ∙ kept.waits.rank))

pub some_waits : (keeping : Keeping) (seen : List ℕ) (list : Numbered) (waiting : Option Entry) → IsKept keeping seen list waiting → (rank : Rank) → keeping.waits ≡ Some rank → (entry : Entry) × (waiting ≡ Some entry)
some_waits keeping seen list None kept rank h = absurd (none_is_not rank (sym kept.waits ∙ h))
some_waits keeping seen list (Some entry) kept rank h = (entry, refl)

-- where its number is told
pub told_waits : (keeping : Keeping) (seen : List ℕ) (list : Numbered) (waiting : Option Entry) → IsKept keeping seen list waiting → (number : ℕ) → option_map (λ (r : Rank). r.number) keeping.waits ≡ Some number
    → (entry : Entry) × (waiting ≡ Some entry)
told_waits keeping seen list waiting kept number h = go keeping.waits refl h
  where
    go : (o : Option Rank) → keeping.waits ≡ o → option_map (λ (r : Rank). r.number) o ≡ Some number → (entry : Entry) × (waiting ≡ Some entry)
    go None e h = absurd (none_is_not number h)
    go (Some rank) e h = some_waits keeping seen list waiting kept rank e

-- ---- what each moment leaves

pub weaker : (before now : ℕ) (old new : Standing) (P Q : Numbered → Type 0) → ((list : Numbered) → P list → Q list) → LeavesEach before now old new P → LeavesEach before now old new Q
weaker before now old new P Q f run = record {
  later = run.later;
  last = run.last;
  earlier = run.earlier;
  each = λ m above fits image left. gives image (run.each m above fits image left);
  standing = λ image left. gives image (run.standing image left);
}
  where
    gives : (image : Side → List ℕ) → GivesList P image → GivesList Q image
    gives image g = record { list = g.list; read = g.read; holds = f g.list g.holds }

pub first_of_two : (before now : ℕ) (old new : Standing) (list other : Numbered) → LeavesEach before now old new (Is list) → LeavesEach before now old new (IsOne list other)
first_of_two before now old new list other run = weaker before now old new (Is list) (IsOne list other) (λ l h. inl h) run

-- nothing was called
abbrev pub Since : Standing → Type 0
Since disk = (side : Side) (m : ℕ) → disk.last < m → disk.past m side ≡ disk.loose side

pub stays_is : (disk : Standing) (now : ℕ) (list : Numbered) → disk.last ≤ now → Since disk → LeavesOnly disk list → LeavesEach now now disk disk (Is list)
stays_is disk now list last since leaves = record {
  later = omega arith;
  last = last;
  earlier = λ side m low fits. refl;
  each = λ m high fits image left. record {
    list = list;
    read = leaves image (record { sides = λ side. subst (λ l. IsImage l (image side)) (since side m (omega (arith, last, high))) (left side) });
    holds = refl;
  };
  standing = λ image left. record { list = list; read = leaves image left; holds = refl };
}

pub stays_one : (disk : Standing) (now : ℕ) (list other : Numbered) → disk.last ≤ now → Since disk → LeavesOnly disk list → LeavesEach now now disk disk (IsOne list other)
stays_one disk now list other last since leaves = first_of_two now now disk disk list other (stays_is disk now list last since leaves)

pub stays_all : (disk : Standing) (now : ℕ) → disk.last ≤ now → Since disk → LeavesAll now now disk disk
stays_all disk now last since = record {
  later = omega arith;
  last = last;
  earlier = λ side m low fits. refl;
  each = λ side m high fits content image. subst (λ l. IsImage l content) (since side m (omega (arith, last, high))) image;
  standing = λ side content image. image;
}

-- ---- one call on the log

-- an append has nothing that waits before it
pub appends_list : {P : Type 0} (keeping : Keeping) (disk : Standing) (list : Numbered) (waiting : Option Entry) → HasLog keeping disk list waiting → keeping.waits ≡ None → (HasLog keeping disk list None → P) → P
appends_list keeping disk list waiting has none f =
    f (subst (λ w. HasLog keeping disk list w) (none_waits keeping (disk.seen keeping.log.side) list waiting has.kept none) has)

pub appends_kept : {P : Type 0} (keeping : Keeping) (seen : List ℕ) (list : Numbered) (waiting : Option Entry) → IsKept keeping seen list waiting → keeping.waits ≡ None → (IsKept keeping seen list None → P) → P
appends_kept keeping seen list waiting kept none f = f (subst (λ w. IsKept keeping seen list w) (none_waits keeping seen list waiting kept none) kept)

-- a seal has an entry that waits
pub seals_list : (P : Numbered → Type 0) (keeping : Keeping) (disk : Standing) (list : Numbered) (waiting : Option Entry) (number : ℕ) → HasLog keeping disk list waiting → option_map (λ (r : Rank). r.number) keeping.waits ≡ Some number
    → ((entry : Entry) → HasLog keeping disk list (Some entry) → P (sealed_list list (Some entry))) → P (sealed_list list waiting)
seals_list P keeping disk list waiting number has some f =
    let entry = told_waits keeping (disk.seen keeping.log.side) list waiting has.kept number some in
    subst (λ w. P (sealed_list list w)) (sym entry.1) (f entry.0 (subst (λ w. HasLog keeping disk list w) entry.1 has))

pub seals_kept : (P : Numbered → Type 0) (keeping : Keeping) (seen : List ℕ) (list : Numbered) (waiting : Option Entry) (number : ℕ) → IsKept keeping seen list waiting → option_map (λ (r : Rank). r.number) keeping.waits ≡ Some number
    → ((entry : Entry) → IsKept keeping seen list (Some entry) → P (sealed_list list (Some entry))) → P (sealed_list list waiting)
seals_kept P keeping seen list waiting number kept some f =
    let entry = told_waits keeping seen list waiting kept number some in
    subst (λ w. P (sealed_list list w)) (sym entry.1) (f entry.0 (subst (λ w. IsKept keeping seen list w) entry.1 kept))

-- ---- the entry of a number

pub numbered_there : (list : Numbered) (number : ℕ) (entry : Entry) → numbered_entry list number ≡ Some entry → Contains list (number, entry)
numbered_there [] number entry h = absurd (none_is_not entry h)
numbered_there (e ∷ es) number entry h = go (numbered_there es number entry) (e.0 == number) refl h
  where
    there : (a b : ℕ) → (a == b) ≡ true → a ≡ b
    there a b h = grind arith

    go : (numbered_entry es number ≡ Some entry → Contains es (number, entry)) → (b : Bool) → (e.0 == number) ≡ b → (if b then Some e.1 else numbered_entry es number) ≡ Some entry → Contains (e ∷ es) (number, entry)
    go ih true is h = (0, omega arith, pair (there e.0 number is) (some_is e.1 entry h))
      where
        pair : e.0 ≡ number → e.1 ≡ entry → e ≡ (number, entry)
        pair p q = ap (λ n. (n, e.1)) p ∙ ap (λ x. (number, x)) q
    go ih false is h = let later = ih h in (suc later.0, omega (arith, later.1), later.2)

pub numbered_nowhere : (list : Numbered) (number : ℕ) → numbered_entry list number ≡ None → (entry : Entry) → Contains list (number, entry) → ⊥
numbered_nowhere [] number h entry there = absurd (omega (arith, there.1))
numbered_nowhere (e ∷ es) number h entry there = go (numbered_nowhere es number) (e.0 == number) refl h there.0 there.1 there.2
  where
    differs : (a b : ℕ) → (a == b) ≡ false → a ≡ b → ⊥
    differs a b h e = grind arith

    number_of : (x y : ℕ × Entry) → x ≡ y → x.0 ≡ y.0
    number_of x y e = ap (λ (p : ℕ × Entry). p.0) e

    go : (numbered_entry es number ≡ None → (entry : Entry) → Contains es (number, entry) → ⊥) → (b : Bool) → (e.0 == number) ≡ b → (if b then Some e.1 else numbered_entry es number) ≡ None
        → (k : ℕ) → k < length (e ∷ es) → slice_index_or (e ∷ es) k (number, entry) ≡ (number, entry) → ⊥
    go ih true is h k low at = none_is_not e.1 (sym h)
    go ih false is h zero low at = differs e.0 number is (number_of e (number, entry) at)
    go ih false is h (suc k) low at = ih h entry (k, omega (arith, low), at)

-- ---- what a Read tells

pub tells_block : (list : Numbered) (number op least : ℕ) (bytes : List ℕ) (told : Done) → numbered_entry list number ≡ Some (Block op least bytes) → told ≡ done.Bytes number bytes → TellsOf told (Some list)
tells_block list number op least bytes told h is =
    subst (λ t. TellsOf t (Some list)) (sym is) (record { entries = list; listed = refl; line = op; least = least; block = numbered_there list number (Block op least bytes) h })

pub tells_gone : (list : Numbered) (number : ℕ) → numbered_entry list number ≡ None → TellsOf (done.Gone number) (Some list)
tells_gone list number h = numbered_nowhere list number h

pub tells_found : (list : Numbered) (number : ℕ) (entry : Entry) (E : Type 0) (result : Result Done E) → numbered_entry list number ≡ Some entry
    → IfOk result (λ told. (op : ℕ) × (least : ℕ) × (bytes : List ℕ) × (entry ≡ Block op least bytes) × (told ≡ done.Bytes number bytes)) → IfOk result (λ told. TellsOf told (Some list))
tells_found list number entry E (Err fault) there h = tt
tells_found list number entry E (Ok told) there h = tells_block list number h.0 h.1 h.2 told (there ∙ ap (λ e. Some e) h.3) h.4

-- ---- what a job leaves

-- it was not done
pub leaves_err : {E : Type 0} (t : Try) (j : Job) (list : Numbered) (waiting : Option Entry) (result : Result Done E) (fault : E) → result ≡ Err fault → LeavesEach t.before t.now t.old t.new (IsOne list (list_after j list waiting)) → Leaves t j list waiting result
leaves_err {E = E} t j list waiting result fault is moments =
    subst (λ r. Leaves {E = E} t j list waiting r) (sym is) (record { moments = moments; log = tt })

-- it was
pub leaves_ok : {E : Type 0} (t : Try) (j k : Job) (list : Numbered) (waiting : Option Entry) (done : Done) (keeping : Keeping) → j ≡ k → t.kept ≡ Some keeping → failed_disk done ≡ None
    → LeavesEach t.before t.now t.old t.new (IsOne list (list_after j list waiting)) → HasLog keeping t.new (list_after k list waiting) (waiting_after k waiting) → Leaves {E = E} t j list waiting (Ok done)
leaves_ok t j k list waiting done keeping is kept fine moments has = record {
  moments = moments;
  log = subst (λ o. LeavesLog o t j list waiting) (sym fine) (keeping, kept, subst (λ x. HasLog keeping t.new (list_after x list waiting) (waiting_after x waiting)) (sym is) has);
}

-- it only read
pub leaves_read : {E : Type 0} (now number : ℕ) (keeping : Keeping) (old new : Standing) (j : Job) (list : Numbered) (waiting : Option Entry) (result : Result Done E) → j ≡ job.Read number → new ≡ old → old.last ≤ now → Since old
    → HasLog keeping old list waiting → IfOk result (λ done. failed_disk done ≡ None)
    → Leaves {E = E} (record { before = now; now = now; slot = Some keeping; kept = Some keeping; old = old; new = new }) j list waiting result
leaves_read {E = E} now number keeping old new j list waiting result is same last since has fine =
    subst (λ d. Leaves {E = E} (record { before = now; now = now; slot = Some keeping; kept = Some keeping; old = old; new = d }) j list waiting result) (sym same) (go result fine)
  where
    moments : LeavesEach now now old old (IsOne list (list_after j list waiting))
    moments = stays_one old now list (list_after j list waiting) last since has.leaves

    go : (r : Result Done E) → IfOk r (λ done. failed_disk done ≡ None) → Leaves {E = E} (record { before = now; now = now; slot = Some keeping; kept = Some keeping; old = old; new = old }) j list waiting r
    go (Err fault) fine = leaves_err (record { before = now; now = now; slot = Some keeping; kept = Some keeping; old = old; new = old }) j list waiting (Err fault) fault refl moments
    go (Ok done) fine = leaves_ok (record { before = now; now = now; slot = Some keeping; kept = Some keeping; old = old; new = old }) j (job.Read number) list waiting done keeping is refl fine moments has

-- ---- what reads give behind it

pub reads_ok : (slot : Option Keeping) (keeping : Keeping) (disk : Standing) (j k : Job) (list : Numbered) (waiting : Option Entry) (done : Done) → j ≡ k → slot ≡ Some keeping → failed_disk done ≡ None
    → IsKept keeping (disk.seen keeping.log.side) (list_after k list waiting) (waiting_after k waiting) → TellsOf done (Some list) → ReadsOn slot disk j list waiting done
reads_ok slot keeping disk j k list waiting done is at fine kept told = record {
  log = subst (λ o. ReadsLog o slot disk j list waiting) (sym fine) (keeping, at, subst (λ x. IsKept keeping (disk.seen keeping.log.side) (list_after x list waiting) (waiting_after x waiting)) (sym is) kept);
  told = told;
}

-- it only read
pub reads_read : {E : Type 0} (number : ℕ) (keeping : Keeping) (old new : Standing) (j : Job) (list : Numbered) (waiting : Option Entry) (result : Result Done E) → j ≡ job.Read number → new ≡ old
    → IsKept keeping (old.seen keeping.log.side) list waiting → IfOk result (λ done. failed_disk done ≡ None) → IfOk result (λ done. TellsOf done (Some list)) → IfOk result (λ done. ReadsOn (Some keeping) new j list waiting done)
reads_read number keeping old new j list waiting (Err fault) is same kept fine told = tt
reads_read number keeping old new j list waiting (Ok done) is same kept fine told =
    reads_ok (Some keeping) keeping new j (job.Read number) list waiting done is refl fine (subst (λ (d : Standing). IsKept keeping (d.seen keeping.log.side) list waiting) (sym same) kept) told
