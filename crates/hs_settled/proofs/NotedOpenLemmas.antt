-- A core that opens is noted.
use Rattle.std.proofs.Common.{◌≡◌, ◌∙◌, sym, subst, ℕ, zero, suc, ◌+◌, ◌*◌, ◌<◌, ◌≤◌, Bool, true, false, not, length, List, [], ◌∷◌, Option, refl, arith}
use Rattle.std.proofs.lemmas.List.{length-map}
use Rattle.std.proofs.lemmas.List.FromFn.{length-map-range_with_len}
use Rattle.std.specs.List.{AllByRecursion, range_with_len}
use Rattle.std.specs.Prelude.{if◌then◌else◌}
use Rattle.hs_awaiting.specs.Words.{change_if, each}
use Rattle.hs_core_words.specs.Changing.{note}
use Rattle.hs_core_words.specs.Looking.{shape_of, shards_of, status_of}
use Rattle.hs_core_words.specs.Opening.{Taken, begin_views, new_core, note_down, note_if_down, open_core, taken_group}
use Rattle.hs_core_words.specs.State.{Core}
use Rattle.hs_core_words.specs.Views.{change_view}
use Rattle.hs_journal.specs.declared.entry.Who.TheVariants as who
use Rattle.hs_limits.specs.declared.limits.Limits.{Limits}
use Rattle.hs_limits.specs.declared.limits.PeerStatus.TheVariants.{Down, Good}
use Rattle.hs_limits.specs.declared.shape.Shape.{Shape}
use Rattle.hs_members.specs.Members.{all_peers, is_good_status}
use Rattle.hs_model.specs.declared.command.Command.{Command}
use Rattle.hs_model.specs.declared.deed.Deed.TheVariants as deed
use Rattle.hs_model.specs.declared.reply.Reply.TheVariants as reply
use Rattle.hs_settled.proofs.NotedEventLemmas.{ended}
use Rattle.hs_settled.proofs.NotingLemmas.{During, during_tells, on_down}
use Rattle.hs_settled.proofs.NotedWalkLemmas.{stays_change_view, stays_each}
use Rattle.hs_settled.specs.Noted.{IsNoted}

-- numbers of a range are below its end
range_low : (n from top : ℕ) → from + n ≤ top → AllByRecursion (λ k. k < top) (range_with_len from n)
range_low zero from top le = tt
range_low (suc n) from top le = (omega (arith, le), range_low n (from + 1) top (omega (arith, le)))

module _ (commands : ℕ → Option Command) (shape : Shape) (limits : Limits) (found : Taken) (moment : ℕ) (peers : length found.good ≡ shape.shards * shape.copies) where
  abbrev D : Core → Type 0
  D c = During commands shape limits 0 c

  new : D (new_core shape limits found moment)
  new = record {
    shaped = refl;
    limited = refl;
    groups = length-map-range_with_len (taken_group shape found) 0 shape.shards;
    peers = length-map found.good (λ (b : Bool). if b then Good else Down) ∙ peers;
    pool = refl;
    line = refl;
    asking = λ n w at. absurd (cc at);
    journal = tt;
    refused = refl;
    entries = tt;
  }

  viewed : D (begin_views (new_core shape limits found moment))
  viewed = stays_each (during_tells commands shape limits 0) (shards_of (new_core shape limits found moment)) change_view (new_core shape limits found moment)
      (λ shard x q. stays_change_view (during_tells commands shape limits 0) shard x q) new

  down_one : (peer : ℕ) (c : Core) → peer < shape.shards * shape.copies → D c → D (note_if_down peer c)
  down_one peer c low p = go (not (is_good_status (status_of peer c)))
    where
      go : (b : Bool) → D (change_if b (note who.Store deed.Nothing (reply.Down peer 0)) c)
      go true = on_down commands shape limits 0 peer 0 c low (omega arith) p
      go false = p

  down_all : (ys : List ℕ) (c : Core) → AllByRecursion (λ peer. peer < shape.shards * shape.copies) ys → D c → D (each ys note_if_down c)
  down_all [] c low p = p
  down_all (y ∷ ys) c low p = down_all ys (note_if_down y c) low.1 (down_one y c low.0 p)

  noted : D (note_down (begin_views (new_core shape limits found moment)))
  noted =
      let c : Core = begin_views (new_core shape limits found moment) in
      down_all (all_peers (shape_of c)) c
      (subst (λ (z : Shape). AllByRecursion (λ peer. peer < shape.shards * shape.copies) (all_peers z)) (sym viewed.shaped) (range_low (shape.shards * shape.copies) 0 (shape.shards * shape.copies) (omega arith))) viewed

  pub opened_noted : IsNoted commands (open_core shape limits found moment)
  opened_noted = ended commands shape limits 0 (note_down (begin_views (new_core shape limits found moment))) noted
