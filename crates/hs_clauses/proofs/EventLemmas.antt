-- Each event leaves the blocks of a shard those of entries that took effect.
use Rattle.std.proofs.Common.{◌≡◌, ◌∙◌, ap, subst, sym, ℕ, ◌+◌, ◌==◌, Bool, true, false, cond, length, Option, Some, None, refl, is_none, nat_lt}
use Rattle.std.specs.Prelude.{slice_index_or}
use Rattle.hs_anatomy.proofs.EventLemmas.{does_acts, opening_acts}
use Rattle.hs_anatomy.proofs.ListLemmas.{fronts_still}
use Rattle.hs_anatomy.proofs.SizeLemmas.{sizes_still}
use Rattle.hs_anatomy.proofs.StillLemmas.{kept_still, strokes_keep}
use Rattle.hs_anatomy.proofs.StrokeLemmas.{strokes_of}
use Rattle.hs_anatomy.specs.Kept.{Kept, kept_of}
use Rattle.hs_anatomy.specs.Sizes.{Sizes, sizes_of}
use Rattle.hs_anatomy.specs.Strokes.{Adds, Answers, IsStill, Notes, Renews, Stroke, TakesOut, Waits}
use Rattle.hs_awaiting.specs.Words.{change_if}
use Rattle.hs_core_words.specs.Changing.{change_pool, set_viewed}
use Rattle.hs_core_words.specs.declared.event.Event.{Event}
use Rattle.hs_core_words.specs.Looking.{catalogue_of, front_of, shape_of}
use Rattle.hs_core_words.specs.Opening.{begin_views, note_down}
use Rattle.hs_core_words.specs.State.{Core}
use Rattle.hs_core_words.specs.Step.{begin_event, do_event, end_event, keep_entries, line_of, refuse_entries, run_event, step}
use Rattle.hs_desk.specs.declared.fault.CoreFault.{CoreFault}
use Rattle.hs_post.specs.Pool.{restart_numbers}
use Rattle.hs_replica.specs.Group.{renew}
use Rattle.hs_shard.specs.Facts.{empty_catalogue}
use Rattle.hs_clauses.proofs.StoredFrontLemmas.{numbers_group, numbers_taken}
use Rattle.hs_clauses.specs.Numbered.{AreNumbered, AreWithin}

-- where catalogues, the shape and the fronts stay
numbers_same : (a b : Core) → kept_of b ≡ kept_of a → sizes_of b ≡ sizes_of a → ((g : ℕ) → front_of g b ≡ front_of g a) → AreNumbered a → AreNumbered b
numbers_same a b kept sizes front its g =
    subst (λ n. AreWithin n (catalogue_of g b).blocks) (sym (front g))
    (subst (λ c. AreWithin (front_of g a) c.blocks)
    (sym (ap (λ (z : Sizes). slice_index_or b.catalogues g (empty_catalogue z.shape g)) sizes ∙ ap (λ (k : Kept). slice_index_or k.catalogues g (empty_catalogue (shape_of a) g)) kept)) (its g))

module _ {s : Core} {e : Option Event} where
  numbers_stroke : (a b : Core) → Stroke s e a b → AreNumbered a → AreNumbered b
  numbers_stroke a b (IsStill x) its = numbers_same a b (kept_still x) (sizes_still x) (fronts_still x) its
  numbers_stroke a b (Notes by) its = its
  numbers_stroke a b (Adds line o start is) its = its
  numbers_stroke a b (Waits line w was at one) its = its
  numbers_stroke a b (Answers line w was told at one by) its = its
  numbers_stroke a b (TakesOut shard number entry next) its = numbers_taken shard number entry a next its
  numbers_stroke a b (Renews shard) its = numbers_group shard (renew a.members) (set_viewed shard false a) refl its

-- what a core makes of that with which it opens
pub numbers_opening : (c : Core) → AreNumbered c → AreNumbered (note_down (begin_views c))
numbers_opening c its = strokes_keep (λ x. AreNumbered x) numbers_stroke (note_down (begin_views c)) (strokes_of (opening_acts c)) its

numbers_do : (e : Event) (c : Core) → AreNumbered c → AreNumbered (do_event e c)
numbers_do e c its = strokes_keep (λ x. AreNumbered x) numbers_stroke (do_event e c) (strokes_of (does_acts c e)) its

numbers_begin : (line moment : ℕ) (c : Core) → AreNumbered c → AreNumbered (begin_event line moment c)
numbers_begin line moment c its = go _
  where
    go : (b : Bool) → AreNumbered (record (change_if b (change_pool restart_numbers) c) { moment = moment; progress = record c.progress { event_line = cond (line == 0) c.progress.event_line line } })
    go true = its
    go false = its

pub numbers_end : (c : Core) → AreNumbered c → AreNumbered (end_event c)
numbers_end c its = go (nat_lt c.limits.ops (length c.journal + length c.entries))
  where
    go : (b : Bool) → AreNumbered (cond b (refuse_entries c) (keep_entries c))
    go true = its
    go false = its

pub numbers_run : (e : Event) (moment : ℕ) (c : Core) → AreNumbered c → AreNumbered (step e moment c)
numbers_run e moment c its = go c.ended
  where
    go : (x : Option CoreFault) → AreNumbered (change_if (is_none x) (run_event e moment) c)
    go None = numbers_end (do_event e (begin_event (line_of e) moment c)) (numbers_do e (begin_event (line_of e) moment c) (numbers_begin (line_of e) moment c its))
    go (Some f) = its
