-- Why peers are set aside, and that the count of each disk rose by all failures that its reports tell.
use Rattle.std.proofs.Common.{◌≡◌, ◌∙◌, ◌⊎◌, inl, inr, ap, sym, subst, ℕ, ◌+◌, ◌-◌, ◌*◌, ◌<◌, ◌≤◌, ◌==◌, ◌&&◌, ◌||◌, ◌++◌, Bool, cond, is_none, not, List, [], ◌∷◌, Option, Some, None, false, true, refl, length, arith}
use Rattle.std.proofs.lemmas.List.Sums.{sum_by-cons}
use Rattle.std.specs.List.{list_any}
use Rattle.std.specs.Option.{option_map_or}
use Rattle.std.specs.Prelude.{IsSome, if◌then◌else◌, slice_index_or, unwrap_or}
use Rattle.hs_clauses.proofs.ListLemmas.{log_counts, opened_is}
use Rattle.hs_clauses.proofs.ReadLemmas.{from_empty, read_from_one}
use Rattle.hs_clauses.specs.Shown.{IsShown, OnDisks}
use Rattle.hs_moments.proofs.OpeningLemmas.{all_good}
use Rattle.hs_cluster.specs.Kept.{AreStored}
use Rattle.hs_events.specs.Found.{first_core, opened_list, starts_good}
use Rattle.hs_events.specs.Reports.{failures}
use Rattle.hs_events.specs.Sane.{IsFromOne}
use Rattle.hs_events.specs.Whole.{open_whole}
use Rattle.hs_fold.specs.Shards.Course.{begins, was_good}
use Rattle.hs_fold.specs.Shards.Setting.{Numbered}
use Rattle.hs_journal.specs.declared.entry.JournalEntry.{JournalEntry}
use Rattle.hs_journal.specs.Notes.{down_in, is_first_note, is_note, note_count}
use Rattle.hs_model.specs.declared.course.CourseItem.{CourseItem}
use Rattle.hs_ports.specs.declared.disk.Side.{Side}
use Rattle.hs_ports.specs.Moments.{disk_at}
use Rattle.hs_ports.specs.Objects.{faults_at}
use Rattle.hs_promise.specs.Entry.{is_aside, tells_aside}
use Rattle.hs_promise.specs.Found.{IsReadAs}
use Rattle.hs_promise.specs.Lost.{AsideCause, NotesCause, extra_note, lost_taken}
use Rattle.hs_promise.specs.Machine.{NeverOpened, loss_count}
use Rattle.hs_promise.specs.Run.{DiskRose, Ran, Script}
use Rattle.hs_promise.specs.Story.{Story, all_events}
use Rattle.hs_run.specs.Machine.{RunsOnDisks}
use Rattle.hs_settled.proofs.CausesCountLemmas.{rose_less}
use Rattle.hs_side.specs.Current.{list_in}
use Rattle.hs_top.proofs.LawLemmas.{Laws}

-- ---- a peer that was set aside

abbrev pub WhyAside : Ran → ℕ → Type 0
WhyAside r p = DiskRose r 1 p ⊎ (list_in (disk_at r.old.disks p).seen ≡ None)

pub never_aside : (S : Script) (r : Ran) → NeverOpened r → (p : ℕ) → is_aside S r p ≡ true → WhyAside r p
never_aside S r never p is =
    let empty : r.journal ++ r.refused ≡ [] = λ i. never.journal i ++ never.refused i in
    let none_told : false ≡ true = subst (λ (es : List JournalEntry). (list_any (tells_aside r.course p) es && not (begins S.set.shape.shards r.course p)) ≡ true) empty is in
    absurd (cc)

pub why_aside : (S : Script) (r : Ran) (story : Story) (on : OnDisks S r) (shown : IsShown S r story) (p : ℕ) → p < length r.old.disks → is_aside S r p ≡ true → WhyAside r p
why_aside S r story on shown p low is = by_log (slice_index_or story.found.logs p None) refl
  where
    below : p < S.set.shape.shards
    below = let disks = on.disks in omega (arith, low, disks)

    by_read : slice_index_or story.found.logs p None ≡ None → IsReadAs r story p → DiskRose r 1 p ⊎ (list_in (disk_at r.old.disks p).seen ≡ None)
    by_read e (inl same) = inr (sym same ∙ e)
    by_read e (inr failed) = inl failed.1

    by_log : (o : Option Numbered) → slice_index_or story.found.logs p None ≡ o → DiskRose r 1 p ⊎ (list_in (disk_at r.old.disks p).seen ≡ None)
    by_log None e = by_read e (shown.read p (let all = ap (λ n. S.set.shape.shards * n) on.one in omega (arith, below, all)))
    by_log (Some list) e =
        let counts : is_aside S r p ≡ false = log_counts S r story shown.went on.one p below (subst (λ (o : Option Numbered). IsSome o) (sym e) refl) in
        let both : false ≡ true = sym counts ∙ is in
        absurd (cc)

-- ---- what it is to read stands in its list, so that it counted each failure

disk_from_one : (seen : Side → List ℕ) → IsFromOne (unwrap_or (list_in seen) [])
disk_from_one seen = go (list_in seen) refl
  where
    go : (o : Option Numbered) → list_in seen ≡ o → IsFromOne (unwrap_or o [])
    go None e = from_empty
    go (Some list) e = read_from_one seen list e

module _ (laws : Laws) (S : Script) (r : Ran) (story : Story) (on : OnDisks S r) (shown : IsShown S r story) (going : (first_core S.set story.found).ended ≡ None) where
  good : (p : ℕ) → p < S.set.shape.shards → starts_good story.found p ≡ true
  good p low = all_good S.set story.found on.one shown.went.found.goods going p low

  lists : (shard : ℕ) → shard < S.set.shape.shards → IsFromOne (opened_list S.set story.found shard)
  lists p low =
      subst (λ (list : Numbered). IsFromOne list) (sym (opened_is S r story shown.went on.one shown.read on.disks good p low))
      (disk_from_one (disk_at r.old.disks p).seen)

  stored_by : AreStored (open_whole S.set story.found) (all_events story)
  stored_by = laws.stored S.set story.found (all_events story) on.one going lists shown.went.found.goods

  pub failed_by : (tells : Type 0) → tells → RunsOnDisks tells S r story
      → (disk : ℕ) → DiskRose r (failures true disk (first_core S.set story.found) (all_events story) + loss_count story disk) disk
  failed_by tells t runs disk = runs.failed t (runs.shown.read on.one t going stored_by) disk

-- ---- a peer that was set aside, with any number of copies

first_is : (peer : ℕ) (e : JournalEntry) → is_first_note peer e ≡ true → is_note peer e ≡ true
first_is peer e is = by (down_in e.reply) is
  where
    left : (a b : Bool) → (a && b) ≡ true → a ≡ true
    left true b h = refl
    left false b h = h

    by : (o : Option (ℕ × ℕ)) → option_map_or (λ (d : ℕ × ℕ). d.0 == peer && d.1 == 0) o false ≡ true → option_map_or (λ (d : ℕ × ℕ). d.0 == peer) o false ≡ true
    by None h = h
    by (Some d) h = left (d.0 == peer) (d.1 == 0) h

-- it is told to be down
some_told : (course : List CourseItem) (peer : ℕ) (es : List JournalEntry) → list_any (tells_aside course peer) es ≡ true → 1 ≤ note_count peer es
some_told course peer [] h = absurd (cc h)
some_told course peer (e ∷ es) h = by (λ k. some_told course peer es k) (is_note peer e) refl
  where
    more : note_count peer (e ∷ es) ≡ cond (is_note peer e) 1 0 + note_count peer es
    more = sum_by-cons (λ (x : JournalEntry). cond (is_note peer x) 1 0) e es

    and_left : (a b : Bool) → (a && b) ≡ true → a ≡ true
    and_left true b k = refl
    and_left false b k = k

    later : is_note peer e ≡ false → (b : Bool) → tells_aside course peer e ≡ b → (b || list_any (tells_aside course peer) es) ≡ true → list_any (tells_aside course peer) es ≡ true
    later none true t k = let wrong : false ≡ true = sym none ∙ first_is peer e (and_left (is_first_note peer e) (not (was_good course e.moment peer)) t) in absurd (cc wrong)
    later none false t k = k

    counts : (b : Bool) → is_note peer e ≡ b → cond b 1 0 + note_count peer es ≡ note_count peer (e ∷ es)
    counts b is = sym (more ∙ ap (λ (b : Bool). cond b 1 0 + note_count peer es) is)

    by : (list_any (tells_aside course peer) es ≡ true → 1 ≤ note_count peer es) → (b : Bool) → is_note peer e ≡ b → 1 ≤ note_count peer (e ∷ es)
    by rest true is = let sum : 1 + note_count peer es ≡ note_count peer (e ∷ es) = counts true is in omega (arith, sum)
    by rest false is = let sum : 0 + note_count peer es ≡ note_count peer (e ∷ es) = counts false is in let low = rest (later is (tells_aside course peer e) refl h) in omega (arith, sum, low)

-- so why is one of the causes of notes
pub aside_caused : (S : Script) (r : Ran) → NotesCause S r → AsideCause S r
aside_caused S r notes peer is = by_list (list_in (disk_at r.old.disks peer).seen) refl
  where
    both : (a b : Bool) → (a && b) ≡ true → a ≡ true
    both true b h = refl
    both false b h = h

    some : 1 ≤ note_count peer (r.journal ++ r.refused)
    some = some_told r.course peer (r.journal ++ r.refused) (both (list_any (tells_aside r.course peer) (r.journal ++ r.refused)) (not (begins S.set.shape.shards r.course peer)) is)

    by_loss : (list : Numbered) → list_in (disk_at r.old.disks peer).seen ≡ Some list → (b : Bool) → lost_taken S r peer ≡ b
        → DiskRose r 1 peer ⊎ ((list_in (disk_at r.old.disks peer).seen ≡ None) ⊎ (lost_taken S r peer ≡ true))
    by_loss list has true lost = inr (inr lost)
    by_loss list has false lost =
        let none : extra_note S r peer ≡ 0 = (λ i. if is i && (is_none (has i) || lost i) then 1 else 0) in
        let one : 1 ≤ note_count peer (r.journal ++ r.refused) - extra_note S r peer = omega (arith, some, none) in
        inl (rose_less 1 (note_count peer (r.journal ++ r.refused) - extra_note S r peer) (faults_at r.old.disk_faults peer) (faults_at r.new.disk_faults peer) one (notes peer))

    by_list : (o : Option Numbered) → list_in (disk_at r.old.disks peer).seen ≡ o → DiskRose r 1 peer ⊎ ((list_in (disk_at r.old.disks peer).seen ≡ None) ⊎ (lost_taken S r peer ≡ true))
    by_list None has = inr (inl has)
    by_list (Some list) has = by_loss list has (lost_taken S r peer) refl
