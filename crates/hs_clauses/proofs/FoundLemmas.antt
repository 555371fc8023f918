-- What opening found, of one copy each, and what the beginning of the course tells of it.
use Rattle.std.proofs.Common.{◌≡◌, ◌∙◌, sym, ap, ℕ, ◌+◌, ◌*◌, ◌<◌, ◌==◌, ◌||◌, ◌++◌, Bool, true, false, List, [], ◌∷◌, refl, length, map, append_assoc, true≢false, arith}
use Rattle.std.proofs.lemmas.Bool.{ne_eqb}
use Rattle.std.proofs.lemmas.List.Elements.{recursion_from_All}
use Rattle.std.specs.List.{AllByRecursion, list_any}
use Rattle.std.specs.Prelude.{flat_map, take}
use Rattle.hs_clauses.proofs.CourseLemmas.{bads_false, bads_other, bads_took, changes_good, changes_took, good_gone, good_there, pairs, pairs_begin, taken_pairs, took_there}
use Rattle.hs_clauses.proofs.TakenLemmas.{has_log, peer_is, taken_is}
use Rattle.hs_entry.specs.Entries.{rank_of}
use Rattle.hs_events.specs.Beginning.{first_items}
use Rattle.hs_events.specs.Course.{change_item}
use Rattle.hs_events.specs.Found.{starts_good}
use Rattle.hs_events.specs.Taken.{is_taken, taken_items, taken_list}
use Rattle.hs_fold.specs.Good.{good_from, taken_from}
use Rattle.hs_fold.specs.Shards.Course.{begins, is_good_of}
use Rattle.hs_members.specs.Members.{all_peers}
use Rattle.hs_model.specs.declared.course.CourseItem.{CourseItem}
use Rattle.hs_model.specs.declared.course.CourseItem.TheVariants as item
use Rattle.hs_moments.proofs.CourseLemmas.{good-append, taken-append}
use Rattle.hs_promise.specs.Found.{HasFound, IsLostBefore}
use Rattle.hs_promise.specs.Run.{Ran, Script}
use Rattle.hs_promise.specs.Story.{Story}

absorb : (a b : Bool) → (b ≡ true → a ≡ true) → a ≡ (a || b)
absorb true b h = refl
absorb false true h = h refl
absorb false false h = refl

-- who is good as the core opens was not lost
module _ (S : Script) (r : Ran) (story : Story) (found : HasFound S r story) where
  lost_others : (p : ℕ) → starts_good story.found p ≡ true → (lost : List (ℕ × ℕ)) → AllByRecursion (IsLostBefore S r story) lost → list_any (λ (l : ℕ × ℕ). l.0 == p) lost ≡ false
  lost_others p good [] h = refl
  lost_others p good (l ∷ lost) h =
      let other : (l.0 == p) ≡ false = ne_eqb l.0 p (λ same. true≢false (sym good ∙ ap (λ q. starts_good story.found q) (sym same) ∙ h.0.bad)) in
      ap (λ b. b || list_any (λ (x : ℕ × ℕ). x.0 == p) lost) other ∙ lost_others p good lost h.1

  pub not_lost : (p : ℕ) → starts_good story.found p ≡ true → list_any (λ (l : ℕ × ℕ). l.0 == p) story.found.lost ≡ false
  not_lost p good = lost_others p good story.found.lost (recursion_from_All (IsLostBefore S r story) story.found.lost found.lost)

module _ (S : Script) (r : Ran) (story : Story) (found : HasFound S r story) (one : S.set.shape.copies ≡ 1) where
  pub many : length story.found.logs ≡ S.set.shape.shards
  many = found.logs ∙ ap (λ n. S.set.shape.shards * n) one ∙ omega arith

  -- the number of the last entry of what was taken
  abbrev pub number_at : ℕ → ℕ
  number_at p = (rank_of (taken_list S.set.shape story.found.logs p)).number

  pub first_pairs : taken_items S.set.shape story.found.logs r.old.moment ≡ pairs (λ p. has_log story.found.logs p) (λ p. number_at p) r.old.moment 0 S.set.shape.shards
  first_pairs = taken_pairs S.set.shape story.found.logs r.old.moment (λ p. has_log story.found.logs p) (peer_is S.set.shape story.found.logs one many)

  abbrev bads : List CourseItem
  bads = map (λ peer. item.Bad peer.0 peer.1) story.found.lost

  abbrev changes : List CourseItem
  changes = flat_map (λ peer. change_item (is_taken S.set.shape story.found.logs peer) (is_taken S.set.shape story.found.logs peer || starts_good story.found peer) peer story.found.opened) (all_peers S.set.shape)

  -- no peer becomes good as the core opens: who is good has the taken log
  unchanged : (p : ℕ) → p < S.set.shape.shards → is_taken S.set.shape story.found.logs p ≡ (is_taken S.set.shape story.found.logs p || starts_good story.found p)
  unchanged p low = absorb (is_taken S.set.shape story.found.logs p) (starts_good story.found p) (λ good. taken_is S.set.shape story.found.logs one many p low ∙ found.kept p good)

  -- ---- what the first items tell

  first_good : (m p : ℕ) → good_from false (first_items S.set.shape story.found r.old.moment) m p
      ≡ good_from (good_from (good_from false (pairs (λ p. has_log story.found.logs p) (λ p. number_at p) r.old.moment 0 S.set.shape.shards) m p) bads m p) changes m p
  first_good m p =
      good-append false (taken_items S.set.shape story.found.logs r.old.moment) (bads ++ changes) m p
      ∙ ap (λ (items : List CourseItem). good_from (good_from false items m p) (bads ++ changes) m p) first_pairs
      ∙ good-append (good_from false (pairs (λ p. has_log story.found.logs p) (λ p. number_at p) r.old.moment 0 S.set.shape.shards) m p) bads changes m p

  -- a peer that is good at the opening of the core is good from entry on
  pub opens_good : (m p : ℕ) → r.old.moment < m → p < S.set.shape.shards → starts_good story.found p ≡ true → good_from false (first_items S.set.shape story.found r.old.moment) m p ≡ true
  opens_good m p below low good =
      first_good m p
      ∙ ap (λ x. good_from (good_from x bads m p) changes m p)
      (good_there (λ p. has_log story.found.logs p) (λ p. number_at p) r.old.moment m p 0 S.set.shape.shards false below (found.kept p good) (omega arith) (omega (arith, low)))
      ∙ ap (λ x. good_from x changes m p) (bads_other story.found.lost m p true (not_lost S r story found p good))
      ∙ changes_good (λ q. is_taken S.set.shape story.found.logs q) (λ q. is_taken S.set.shape story.found.logs q || starts_good story.found q) story.found.opened m p (all_peers S.set.shape) true (unchanged p low)

  -- one without a log is not
  pub opens_bad : (m p : ℕ) → p < S.set.shape.shards → has_log story.found.logs p ≡ false → good_from false (first_items S.set.shape story.found r.old.moment) m p ≡ false
  opens_bad m p low lacks =
      first_good m p
      ∙ ap (λ x. good_from (good_from x bads m p) changes m p) (good_gone (λ p. has_log story.found.logs p) (λ p. number_at p) r.old.moment m p 0 S.set.shape.shards false lacks)
      ∙ ap (λ x. good_from x changes m p) (bads_false story.found.lost m p)
      ∙ changes_good (λ q. is_taken S.set.shape story.found.logs q) (λ q. is_taken S.set.shape story.found.logs q || starts_good story.found q) story.found.opened m p (all_peers S.set.shape) false (unchanged p low)

  -- what took effect by them
  pub opens_took : (m p : ℕ) → r.old.moment < m → p < S.set.shape.shards → has_log story.found.logs p ≡ true → taken_from 0 (first_items S.set.shape story.found r.old.moment) m p ≡ number_at p
  opens_took m p below low is =
      taken-append 0 (taken_items S.set.shape story.found.logs r.old.moment) (bads ++ changes) m p
      ∙ ap (λ (items : List CourseItem). taken_from (taken_from 0 items m p) (bads ++ changes) m p) first_pairs
      ∙ ap (λ x. taken_from x (bads ++ changes) m p) (took_there (λ p. has_log story.found.logs p) (λ p. number_at p) r.old.moment m p 0 S.set.shape.shards 0 below is (omega arith) (omega (arith, low)))
      ∙ taken-append (number_at p) bads changes m p
      ∙ ap (λ x. taken_from x changes m p) (bads_took story.found.lost m p (number_at p))
      ∙ changes_took (λ q. is_taken S.set.shape story.found.logs q) (λ q. is_taken S.set.shape story.found.logs q || starts_good story.found q) story.found.opened m p (all_peers S.set.shape) (number_at p)

  -- the peer of a log begins the course
  pub opens_begins : (p : ℕ) (rest : List CourseItem) → p < S.set.shape.shards → has_log story.found.logs p ≡ true → begins S.set.shape.shards (first_items S.set.shape story.found r.old.moment ++ rest) p ≡ true
  opens_begins p rest low is =
      ap (λ (items : List CourseItem). list_any (is_good_of p) (take (S.set.shape.shards + S.set.shape.shards) items))
      (append_assoc (taken_items S.set.shape story.found.logs r.old.moment) (bads ++ changes) rest ∙ ap (λ (items : List CourseItem). items ++ ((bads ++ changes) ++ rest)) first_pairs)
      ∙ pairs_begin (λ p. has_log story.found.logs p) (λ p. number_at p) r.old.moment p 0 S.set.shape.shards ((bads ++ changes) ++ rest) (S.set.shape.shards + S.set.shape.shards) is (omega arith) (omega (arith, low)) (omega arith)
