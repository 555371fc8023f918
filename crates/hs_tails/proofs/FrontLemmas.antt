-- A front of a tail is as good as the tail.
use Rattle.std.proofs.Common.{◌≡◌, ℕ, zero, suc, List, [], ◌∷◌, ◌++◌, Some, arith}
use Rattle.std.specs.Prelude.{slice_get}
use Rattle.hs_core_words.specs.State.{Core}
use Rattle.hs_entry.specs.declared.entry.Entry.{Entry}
use Rattle.hs_fold.specs.Runs.Facts.{Catalogue as Folded}
use Rattle.hs_fold.specs.Shards.Setting.{Setting}
use Rattle.hs_standing.proofs.KnownLemmas.{more_roots}
use Rattle.hs_standing.specs.Sent.{got_of}
use Rattle.hs_tails.specs.Tails.{HasOpenLines, TailRests}

-- what stands in a front stands there in all of it
pub get_front : {X : Type 0} (xs ys : List X) (at : ℕ) (x : X) → slice_get xs at ≡ Some x → slice_get (xs ++ ys) at ≡ Some x
get_front [] ys at x e = absurd (cc e)
get_front (y ∷ xs) ys zero x e = e
get_front (y ∷ xs) ys (suc at) x e = get_front xs ys at x e

pub front_rests : (set : Setting) (cs : List Folded) (shard front : ℕ) (tail more : List Entry) → TailRests set cs shard front (tail ++ more) → TailRests set cs shard front tail
front_rests set cs shard front tail more t = record {
  lawful = t.lawful;
  rests = λ at x there. t.rests at x (get_front tail more at x there);
  gots = λ at place told there. t.gots at place told (get_front tail more at (got_of place told) there);
  due = λ at place told there. t.due at place told (get_front tail more at (got_of place told) there);
  once = λ at other place told body a b. t.once at other place told body (get_front tail more at (got_of place told) a) (get_front tail more other (got_of place body) b);
  few = (let room = t.few in let both = more_roots tail more in omega (arith, room, both));
}

pub front_open : (core : Core) (shard : ℕ) (tail more : List Entry) → HasOpenLines core shard (tail ++ more) → HasOpenLines core shard tail
front_open core shard tail more t = record {
  asked = λ at line x there asks. t.asked at line x (get_front tail more at x there) asks;
  once = λ at other line one x a b p q. t.once at other line one x (get_front tail more at one a) (get_front tail more other x b) p q;
}
