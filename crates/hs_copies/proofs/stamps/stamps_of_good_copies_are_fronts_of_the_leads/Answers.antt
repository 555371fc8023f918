use Rattle.hs_copies.proofs.CoreLemmas.{front_within, good_stamps, last_is_leads}
use Rattle.hs_copies.proofs.stamps.stamps_of_good_copies_are_fronts_of_the_leads.Goals as goal

pub returns : goal.returns
returns c = record {
  stamps = λ line c s peer leads st own good e. good_stamps c s st peer leads own good e;
  effects = λ line c s peer st own good. front_within c s st peer own good;
  waiting = λ line c s leads st e. last_is_leads c s st leads e;
}
