-- What waits in the lead's list is a tail, in a core that stands.
use Rattle.std.proofs.Common.{◌≡◌, ◌∙◌, ap, ℕ, ◌<◌, List, arith, length}
use Rattle.std.proofs.lemmas.List.{length-map}
use Rattle.hs_answered.specs.Telling.{Judging}
use Rattle.hs_core_words.specs.Looking.{catalogue_of, group_of, shape_of}
use Rattle.hs_core_words.specs.Records.{HasRecordRoom}
use Rattle.hs_core_words.specs.State.{Core}
use Rattle.hs_effects.proofs.FoldLemmas.{memory_at}
use Rattle.hs_effects.specs.Logged.{IsOrderly}
use Rattle.hs_entry.specs.declared.entry.Entry.TheVariants as kind
use Rattle.hs_fold.specs.Runs.Facts.{Catalogue as Folded}
use Rattle.hs_fold.specs.Runs.Fits.{catalogue_at}
use Rattle.hs_limits.specs.declared.address.Address.{Address}
use Rattle.hs_memory.specs.Forget.{record_of}
use Rattle.hs_model.specs.Store.{Store}
use Rattle.hs_shard.specs.Facts.{Catalogue}
use Rattle.hs_standing.proofs.StandLemmas.{NoLineWaitsTwice}
use Rattle.hs_standing.specs.Legal.{IsStanding}
use Rattle.hs_tails.specs.Tails.{HasOpenLines, RestsIn}

pub waits_rest : (by : Judging) (start : Store) (core : Core) (cs : List Folded) → IsStanding by start core cs → HasRecordRoom core → (shard : ℕ) → shard < (shape_of core).shards → RestsIn by.name core cs shard (group_of shard core).waiting
waits_rest by start core cs its room shard low = record {
  lawful = its.lawful.lawful;
  rests = λ at x there. its.resting shard at x there;
  gots = λ at place told there. its.sent.gots shard at place told there;
  due = λ at place told there. its.sent.due shard at place told cs its.lawful.lawful.gives there;
  once = λ at other place told more a b. its.sent.once shard at other place told more a b;
  few =
      let memory : length (catalogue_of shard core).roots ≡ length (catalogue_at cs shard).roots =
      ap (λ (x : Catalogue). length x.roots) (memory_at by.name cs core shard (kind.View 0) its.lawful.folded low) ∙ length-map (catalogue_at cs shard).roots record_of in
      let few = room shard in
      omega (arith, memory, few);
}

pub waits_open : NoLineWaitsTwice → (name : List ℕ → Address) (core : Core) → IsOrderly name core → (shard : ℕ) → HasOpenLines core shard (group_of shard core).waiting
waits_open alone name core orderly shard = record {
  asked = λ at line x there asks. (let h = orderly.asked shard at line x there asks in record { waiting = h.waiting; at = h.at; judges = h.judges });
  once = λ at other line one more a b p q. (alone name core orderly shard at one shard other more line a b p q).1;
}
