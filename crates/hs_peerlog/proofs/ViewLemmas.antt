-- The log of a disk that stands as a view found it.
use Rattle.std.proofs.Common.{◌≡◌, ◌∙◌, ℕ, true, false, List, [], map, Option, Some, None, Result, Ok, Err, IfSome, IsSome, MatchOption, refl, ap, sym, subst, if◌then◌else◌}
use Rattle.std.specs.Option.{option_map}
use Rattle.hs_limits.specs.declared.shape.Shape.{Shape}
use Rattle.hs_ports.specs.declared.disk.Side.{Side}
use Rattle.hs_ports.specs.Disk.{Standing}
use Rattle.hs_entry.specs.declared.entry.Entry.{Entry}
use Rattle.hs_side.specs.declared.header.Header.{Header}
use Rattle.hs_side.specs.Current.{current, generation_in, header_in, list_in}
use Rattle.hs_side.specs.Headers.{own_header}
use Rattle.hs_side.specs.Reading.{Log, entry_of, list_of, listed, log_of}
use Rattle.hs_side.specs.Standing.{HasLog, HasNone, SideState, Stands}
use Rattle.hs_side.proofs.BlankLemmas.{blank_log}
use Rattle.hs_side.proofs.CrashLemmas.{log_is}
use Rattle.hs_peerlog.specs.declared.fault.LogFault.TheVariants.{WrongShape}
use Rattle.hs_peerlog.specs.Heads.{head_found}
use Rattle.hs_peerlog.specs.Images.{IsAlone}
use Rattle.hs_peerlog.specs.Lists.{HasList}
use Rattle.hs_peerlog.specs.Opening.{HasOpened, is_own, refused_head, refused_log, refusal_in}
use Rattle.hs_peerlog.specs.Views.{HasSomeView, HasView, Viewing}
use Rattle.hs_peerlog.proofs.HeaderLemmas.{blank-header, own_is, stands-header}
use Rattle.hs_peerlog.proofs.ImageLemmas.{log-generation}
use Rattle.hs_peerlog.proofs.MakeLemmas.{blank-side}

module _ (tells : Type 0) (log : SideState) (size : ℕ) (disk : Standing) (stands : Stands tells log size disk) (told : tells) (alone : IsAlone log.side disk) where
  here : disk.seen (current disk.seen) ≡ disk.seen log.side
  here = ap (λ s. disk.seen s) alone.current

  -- the header of the current side is that of the log
  pub view-header : (head : Header × ℕ) → log.head ≡ Some head → header_in (disk.seen (current disk.seen)) ≡ Ok (Some head.0)
  view-header head is = ap (λ b. header_in b) here ∙ stands-header tells log size disk head stands told is

  none-header : log.head ≡ None → header_in (disk.seen (current disk.seen)) ≡ Ok None
  none-header is = ap (λ b. header_in b) here ∙ blank-header (disk.seen log.side) (blank-side tells log size disk stands told is)

  generation-is : (head : Header × ℕ) → log.head ≡ Some head → generation_in (disk.seen (current disk.seen)) ≡ Some head.1
  generation-is head is = ap (λ b. generation_in b) here ∙ log-generation (disk.seen log.side) _ (log_is head.0 head.1 log (disk.seen log.side) (disk.loose log.side) has)
    where
      has : HasLog 165 head.0 head.1 log (disk.seen log.side) (disk.loose log.side)
      has = subst (λ h. MatchOption h (HasNone log (disk.seen log.side) (disk.loose log.side)) (λ x. HasLog 165 x.0 x.1 log (disk.seen log.side) (disk.loose log.side))) is (stands.told told)

  -- a log of this peer has the head that is found on the disk
  pub view-head : (shape : Shape) (peer : ℕ) → IfSome log.head (λ head. is_own shape peer head.0 ≡ true) → log.head ≡ head_found shape peer disk.seen
  view-head shape peer own = go log.head refl own
    where
      found : Option ℕ → Option (Header × ℕ)
      found g = option_map (λ generation. (own_header shape peer, generation)) g

      go : (head : Option (Header × ℕ)) → log.head ≡ head → IfSome head (λ head. is_own shape peer head.0 ≡ true) → log.head ≡ head_found shape peer disk.seen
      go None is own =
          let none : generation_in (disk.seen (current disk.seen)) ≡ None = ap (λ b. generation_in b) here ∙ rw (blank-side tells log size disk stands told is) refl in
          is ∙ sym (ap found none)
      go (Some head) is own = is ∙ ap (λ (h : Header). Some (h, head.1)) (own_is shape peer head.0 own) ∙ sym (ap found (generation-is head is))

  -- and its disk is not refused
  pub view-accepted : (shape : Shape) (peer : ℕ) (list : List (ℕ × Entry)) → list_in disk.seen ≡ Some list → IfSome log.head (λ head. is_own shape peer head.0 ≡ true) → refusal_in shape peer disk.seen ≡ None
  view-accepted shape peer list read own = ap (λ h. refused_log h (log_of (disk.seen (current disk.seen)))) (go log.head refl own) ∙ whole (log_of (disk.seen (current disk.seen))) read
    where
      go : (head : Option (Header × ℕ)) → log.head ≡ head → IfSome head (λ head. is_own shape peer head.0 ≡ true) → refused_head shape peer (header_in (disk.seen (current disk.seen))) ≡ None
      go None is own = ap (λ h. refused_head shape peer h) (none-header is)
      go (Some head) is own =
          ap (λ h. refused_head shape peer h) (view-header head is)
          ∙ ap (λ b. if b then None else Some (WrongShape head.0)) own

      whole : (r : Result (Option Log) ℕ) → listed r ≡ Some list → refused_log None r ≡ None
      whole (Ok content) e = refl
      whole (Err at) e = cc e

  -- one of another peer, or of another store, has its disk refused
  pub view-refused : (shape : Shape) (peer : ℕ) (head : Header × ℕ) → log.head ≡ Some head → is_own shape peer head.0 ≡ false → refusal_in shape peer disk.seen ≡ Some (WrongShape head.0)
  view-refused shape peer head is other =
      ap (λ h. refused_log (refused_head shape peer h) (log_of (disk.seen (current disk.seen)))) (view-header head is)
      ∙ ap (λ b. refused_log (if b then None else Some (WrongShape head.0)) (log_of (disk.seen (current disk.seen)))) other

  -- the log has the list that the disk reads as
  pub view-opened : (list : List (ℕ × Entry)) → list_in disk.seen ≡ Some list → HasOpened log (disk.seen log.side) list
  view-opened list read = record {
    begun = λ some. go log.head refl some;
    blank = λ none. some_is list [] (sym there ∙ ap (λ r. listed r) (blank_log (disk.seen log.side) (blank-side tells log size disk stands told none)));
  }
    where
      there : list_of (disk.seen log.side) ≡ Some list
      there = sym (ap (λ b. list_of b) here) ∙ read

      some_is : (a b : List (ℕ × Entry)) → Some a ≡ Some b → a ≡ b
      some_is a b e = cc e

      go : (head : Option (Header × ℕ)) → log.head ≡ head → IsSome head → HasList log.places (disk.seen log.side) list
      go None is some = cc some
      go (Some head) is some =
          let has : HasLog 165 head.0 head.1 log (disk.seen log.side) (disk.loose log.side) =
          subst (λ h. MatchOption h (HasNone log (disk.seen log.side) (disk.loose log.side)) (λ x. HasLog 165 x.0 x.1 log (disk.seen log.side) (disk.loose log.side))) is (stands.told told) in
          let found = log_is head.0 head.1 log (disk.seen log.side) (disk.loose log.side) has in
          record {
            log = record { header = head.0; generation = head.1; frames = has.found };
            read = found;
            listed = some_is (map entry_of has.found) list (sym (ap (λ r. listed r) found) ∙ there);
            placed = has.places;
          }

-- the list of a view is the one that the disk reads as
pub one-view : (viewing : Viewing) (seen : Side → List ℕ) (some : HasSomeView viewing seen) (list : List (ℕ × Entry)) → list_in seen ≡ Some list → HasView viewing seen list
one-view viewing seen some list read = subst (λ (es : List (ℕ × Entry)). HasView viewing seen es) (some_is some.list list (sym some.has.listed ∙ read)) some.has
  where
    some_is : (a b : List (ℕ × Entry)) → Some a ≡ Some b → a ≡ b
    some_is a b e = cc e
