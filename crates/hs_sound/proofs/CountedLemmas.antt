-- Behind a lawful history the counters of all shards are right.
use Rattle.std.proofs.Common.{◌≡◌, ℕ, ◌+◌, ◌<◌, List, subst, arith}
use Rattle.std.proofs.lemmas.List.Elements.{All-from_recursion}
use Rattle.std.specs.List.{AllByRecursion}
use Rattle.std.specs.Prelude.{All}
use Rattle.hs_limits.specs.declared.address.Address.{Address}
use Rattle.hs_limits.specs.Shape.{IsShape}
use Rattle.hs_model.proofs.Members.{Member, member-map}
use Rattle.hs_deletion.specs.Counts.{raised_on_way, lowered_on_way}
use Rattle.hs_deletion.specs.Following.{named_in}
use Rattle.hs_deletion.specs.Machine.{Layout, Machine}
use Rattle.hs_deletion.proofs.FollowCounts.{counts_follow}
use Rattle.hs_fold.specs.Lawful.{Deed}
use Rattle.hs_fold.specs.Shards.Setting.{Setting}
use Rattle.hs_fold.specs.Runs.Counts.{AreCounted, indegree, raised, lowered}
use Rattle.hs_fold.specs.Runs.Facts.{Facts, Catalogue}
use Rattle.hs_fold.specs.Runs.Fits.{catalogue_at}
use Rattle.hs_fold.specs.Runs.History.{follow_all, FitAll, no_entries}
use Rattle.hs_joint.specs.Along.{KeepFewRecords}
use Rattle.hs_joint.specs.Seen.{layout_of, seen_block, all_seen}
use Rattle.hs_joint.proofs.HistoryLemmas.{shape_some, shape_few, history_goes}
use Rattle.hs_joint.proofs.ReachedLemmas.{there_at}
use Rattle.hs_joint.proofs.StandLemmas.{IsStanding, right}
use Rattle.hs_sound.proofs.KeptLemmas.{Tells, history_tells}
use Rattle.hs_sound.proofs.NamedLemmas.{indegree_is}
use Rattle.hs_sound.proofs.PlaceLemmas.{each_member, each_at}
use Rattle.hs_sound.proofs.WayLemmas.{raised_is, lowered_is}

module _ (set : Setting) (some : 0 < set.shape.shards) (cs : List Catalogue) (m : Machine) (st : IsStanding set some cs m) (tells : AllByRecursion (Tells set.shape.shards) cs) where
  abbrev n : ℕ
  n = set.shape.shards

  abbrev L : Layout
  L = layout_of n some

  abbrev IsCountedIn : Catalogue → Address × Facts → Type 0
  IsCountedIn c e = e.1.count + raised e.0 c cs ≡ indegree e.0 cs + lowered e.0 c cs

  counted_at : (k : ℕ) → k < n → (e : Address × Facts) → Member e (catalogue_at cs k).blocks → IsCountedIn (catalogue_at cs k) e
  counted_at k l e mem =
      let home = (there_at n some cs st.joined.each st.joined.own m st.joined.followed.each k l e mem).1 in
      let there : e.1.count + raised_on_way L m e.0 ≡ named_in L (all_seen cs) e.0 + lowered_on_way L m e.0 = counts_follow L m (right set some cs m st) (all_seen cs) st.joined.followed.each k l (seen_block e) (member-map seen_block e (catalogue_at cs k).blocks mem) in
      let up = raised_is set some cs m st tells e.0 in
      let down = lowered_is set some cs m st tells e.0 in
      let named = indegree_is n some cs st.joined.each e.0 in
      subst (λ j. IsCountedIn (catalogue_at cs j) e) home (omega (arith, there, up, down, named))

  pub all_counted : All (AreCounted cs) cs
  all_counted = All-from_recursion (AreCounted cs) cs (each_at (AreCounted cs) cs (λ k low. (
      let each = st.joined.each in
      All-from_recursion (IsCountedIn (catalogue_at cs k)) (catalogue_at cs k).blocks
      (each_member (IsCountedIn (catalogue_at cs k)) (catalogue_at cs k).blocks (λ e mem. counted_at k (omega (arith, low, each)) e mem))
      )))

pub history_counted : (set : Setting) (history : List Deed) → IsShape set.shape → FitAll set (no_entries set) history → KeepFewRecords set (no_entries set) history → All (AreCounted (follow_all set (no_entries set) history)) (follow_all set (no_entries set) history)
history_counted set history shape fit records =
    let some = shape_some set.shape shape in
    let g = history_goes set some (shape_few set.shape shape) history fit records in
    all_counted set some (follow_all set (no_entries set) history) g.later g.standing (history_tells set history)
