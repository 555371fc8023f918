use Rattle.std.proofs.Common.{◌≡◌, ◌∙◌, ℕ, List, [], length, ap, sym, refl, subst, Some, None, IsSome, is_some}
use Rattle.std.specs.Prelude.{unwrap_or}
use Rattle.hs_side.specs.declared.header.Header.{Header}
use Rattle.hs_side.specs.Headers.{own_header}
use Rattle.hs_side.specs.Standing.{SideState, Stands}
use Rattle.hs_peerlog.specs.Images.{IsAlone, IsSole}
use Rattle.hs_peerlog.specs.Lists.{HasList, IsBlankBeside}
use Rattle.hs_peerlog.specs.Opening.{IsRefusal, refusal_in}
use Rattle.hs_peerlog.specs.Views.{Viewing}
use Rattle.hs_peerlog.proofs.FoundLemmas.{found-any, found-header, found-only, kept-found, still-found}
use Rattle.hs_peerlog.proofs.HeaderLemmas.{alone-headed, found-head}
use Rattle.hs_peerlog.proofs.ListLemmas.{has-list}
use Rattle.hs_peerlog.proofs.ShownLemmas.{shown-past, weaker-shown}
use Rattle.hs_peerlog.proofs.StayLemmas.{alone-beside, alone-sole, alone-leaves}
use Rattle.hs_peerlog.proofs.ViewLemmas.{one-view, view-accepted, view-head, view-opened, view-refused}
use Rattle.hs_peerlog.proofs.log.PeerLog.from_view.Goals as goal

pub returns-in-Err-clause-any_moment : goal.returns-in-Err-clause-any_moment
returns-in-Err-clause-any_moment g c = λ told last list leaves.
    let disk = g.D.Disk.stands c.args.disk.now in
    let found = still-found disk (own_header c.args.shape c.args.peer) (λ s. g.met.D.Disk.stays told c.args.disk.now s) last (g.met.D.Disk.since told c.args.disk.now) in
    found-only disk (own_header c.args.shape c.args.peer) (λ s. g.met.D.Disk.stays told c.args.disk.now s) found list leaves

pub returns-in-Err-clause-any_of : goal.returns-in-Err-clause-any_of
returns-in-Err-clause-any_of g c = λ told last lists leaves.
    let disk = g.D.Disk.stands c.args.disk.now in
    let found = still-found disk (own_header c.args.shape c.args.peer) (λ s. g.met.D.Disk.stays told c.args.disk.now s) last (g.met.D.Disk.since told c.args.disk.now) in
    found-any disk (own_header c.args.shape c.args.peer) (λ s. g.met.D.Disk.stays told c.args.disk.now s) found lists leaves

pub returns-in-Err-clause-headed : goal.returns-in-Err-clause-headed
returns-in-Err-clause-headed g c = λ told last leaves.
    let disk = g.D.Disk.stands c.args.disk.now in
    let found = still-found disk (own_header c.args.shape c.args.peer) (λ s. g.met.D.Disk.stays told c.args.disk.now s) last (g.met.D.Disk.since told c.args.disk.now) in
    found-header disk (own_header c.args.shape c.args.peer) (λ s. g.met.D.Disk.stays told c.args.disk.now s) found leaves

pub returns-in-Err-make_log-clause-any_moment : goal.returns-in-Err-make_log-clause-any_moment
returns-in-Err-make_log-clause-any_moment g c = λ told last list leaves.
    let disk = g.D.Disk.stands c.args.disk.now in
    let is : c.args.view.log ≡ c.view.inside.log = sym (ap (λ (k : Viewing). k.log) c.view.view_is) in
    let alone : IsAlone c.view.inside.log.side disk = subst (λ (k : SideState). IsAlone k.side disk) is (c.requires.alone told) in
    let made = rw c.own_header-header.ensures at (c.make_log.ensures.shown told last alone) in
    let found = weaker-shown made (kept-found disk (own_header c.args.shape c.args.peer) (λ s. g.met.D.Disk.stays told c.args.disk.now s) c.view.inside.log.side (disk.seen c.view.inside.log.side) alone.current refl) in
    found-only disk (own_header c.args.shape c.args.peer) (λ s. g.met.D.Disk.stays told c.args.disk.now s) found list leaves

pub returns-in-Err-make_log-clause-any_of : goal.returns-in-Err-make_log-clause-any_of
returns-in-Err-make_log-clause-any_of g c = λ told last lists leaves.
    let disk = g.D.Disk.stands c.args.disk.now in
    let is : c.args.view.log ≡ c.view.inside.log = sym (ap (λ (k : Viewing). k.log) c.view.view_is) in
    let alone : IsAlone c.view.inside.log.side disk = subst (λ (k : SideState). IsAlone k.side disk) is (c.requires.alone told) in
    let made = rw c.own_header-header.ensures at (c.make_log.ensures.shown told last alone) in
    let found = weaker-shown made (kept-found disk (own_header c.args.shape c.args.peer) (λ s. g.met.D.Disk.stays told c.args.disk.now s) c.view.inside.log.side (disk.seen c.view.inside.log.side) alone.current refl) in
    found-any disk (own_header c.args.shape c.args.peer) (λ s. g.met.D.Disk.stays told c.args.disk.now s) found lists leaves

pub returns-in-Err-make_log-clause-headed : goal.returns-in-Err-make_log-clause-headed
returns-in-Err-make_log-clause-headed g c = λ told last leaves.
    let disk = g.D.Disk.stands c.args.disk.now in
    let is : c.args.view.log ≡ c.view.inside.log = sym (ap (λ (k : Viewing). k.log) c.view.view_is) in
    let alone : IsAlone c.view.inside.log.side disk = subst (λ (k : SideState). IsAlone k.side disk) is (c.requires.alone told) in
    let made = rw c.own_header-header.ensures at (c.make_log.ensures.shown told last alone) in
    let found = weaker-shown made (kept-found disk (own_header c.args.shape c.args.peer) (λ s. g.met.D.Disk.stays told c.args.disk.now s) c.view.inside.log.side (disk.seen c.view.inside.log.side) alone.current refl) in
    found-header disk (own_header c.args.shape c.args.peer) (λ s. g.met.D.Disk.stays told c.args.disk.now s) found leaves

pub returns-in-Err-make_log-clause-past : goal.returns-in-Err-make_log-clause-past
returns-in-Err-make_log-clause-past g c = λ told last.
    let disk = g.D.Disk.stands c.args.disk.now in
    let is : c.args.view.log ≡ c.view.inside.log = sym (ap (λ (k : Viewing). k.log) c.view.view_is) in
    let alone : IsAlone c.view.inside.log.side disk = subst (λ (k : SideState). IsAlone k.side disk) is (c.requires.alone told) in
    let made = rw c.own_header-header.ensures at (c.make_log.ensures.shown told last alone) in
    shown-past made

pub returns-clause-any_moment : goal.returns-clause-any_moment
returns-clause-any_moment g c = λ told last list leaves.
    let disk = g.D.Disk.stands c.args.disk.now in
    let is : c.args.view.log ≡ c.view.inside.log = sym (ap (λ (k : Viewing). k.log) c.view.view_is) in
    let alone : IsAlone c.view.inside.log.side disk = subst (λ (k : SideState). IsAlone k.side disk) is (c.requires.alone told) in
    let made = rw c.own_header-header.ensures at (c.make_log.ensures.shown told last alone) in
    let found = weaker-shown made (kept-found disk (own_header c.args.shape c.args.peer) (λ s. g.met.D.Disk.stays told c.args.disk.now s) c.view.inside.log.side (disk.seen c.view.inside.log.side) alone.current refl) in
    found-only disk (own_header c.args.shape c.args.peer) (λ s. g.met.D.Disk.stays told c.args.disk.now s) found list leaves

pub returns-clause-any_of : goal.returns-clause-any_of
returns-clause-any_of g c = λ told last lists leaves.
    let disk = g.D.Disk.stands c.args.disk.now in
    let is : c.args.view.log ≡ c.view.inside.log = sym (ap (λ (k : Viewing). k.log) c.view.view_is) in
    let alone : IsAlone c.view.inside.log.side disk = subst (λ (k : SideState). IsAlone k.side disk) is (c.requires.alone told) in
    let made = rw c.own_header-header.ensures at (c.make_log.ensures.shown told last alone) in
    let found = weaker-shown made (kept-found disk (own_header c.args.shape c.args.peer) (λ s. g.met.D.Disk.stays told c.args.disk.now s) c.view.inside.log.side (disk.seen c.view.inside.log.side) alone.current refl) in
    found-any disk (own_header c.args.shape c.args.peer) (λ s. g.met.D.Disk.stays told c.args.disk.now s) found lists leaves

pub returns-clause-headed : goal.returns-clause-headed
returns-clause-headed g c = λ told last leaves.
    let disk = g.D.Disk.stands c.args.disk.now in
    let is : c.args.view.log ≡ c.view.inside.log = sym (ap (λ (k : Viewing). k.log) c.view.view_is) in
    let alone : IsAlone c.view.inside.log.side disk = subst (λ (k : SideState). IsAlone k.side disk) is (c.requires.alone told) in
    let made = rw c.own_header-header.ensures at (c.make_log.ensures.shown told last alone) in
    let found = weaker-shown made (kept-found disk (own_header c.args.shape c.args.peer) (λ s. g.met.D.Disk.stays told c.args.disk.now s) c.view.inside.log.side (disk.seen c.view.inside.log.side) alone.current refl) in
    found-header disk (own_header c.args.shape c.args.peer) (λ s. g.met.D.Disk.stays told c.args.disk.now s) found leaves

pub returns-clause-past : goal.returns-clause-past
returns-clause-past g c = λ told last.
    let disk = g.D.Disk.stands c.args.disk.now in
    let is : c.args.view.log ≡ c.view.inside.log = sym (ap (λ (k : Viewing). k.log) c.view.view_is) in
    let alone : IsAlone c.view.inside.log.side disk = subst (λ (k : SideState). IsAlone k.side disk) is (c.requires.alone told) in
    let made = rw c.own_header-header.ensures at (c.make_log.ensures.shown told last alone) in
    shown-past made

pub returns-in-Err-clause-refused : goal.returns-in-Err-clause-refused
returns-in-Err-clause-refused g c = λ told.
    let disk = g.D.Disk.stands c.args.disk.now in
    let is : c.args.view.log ≡ c.view.inside.log = sym (ap (λ (k : Viewing). k.log) c.view.view_is) in
    let alone : IsAlone c.view.inside.log.side disk = subst (λ (k : SideState). IsAlone k.side disk) is (c.requires.alone told) in
    let stands = subst (λ (k : SideState). Stands g.D.Disk.tells k (g.D.Disk.size c.args.disk.now k.side) disk) is c.requires.stands in
    let other = c.in-Err.ensures.other in
    subst (λ fault. IsRefusal fault (refusal_in c.args.shape c.args.peer disk.seen)) (sym other.3) (view-refused g.D.Disk.tells c.view.inside.log (g.D.Disk.size c.args.disk.now c.view.inside.log.side) disk stands told alone c.args.shape c.args.peer other.0 other.1 other.2)

pub returns-clause-ready : goal.returns-clause-ready
returns-clause-ready g c =
    let disk = g.D.Disk.stands c.args.disk.now in
    let is : c.args.view.log ≡ c.view.inside.log = sym (ap (λ (k : Viewing). k.log) c.view.view_is) in
    let made = c.in-Ok-make_log.log in
    record {
      stands = c.in-Ok-make_log.ensures.stands;
      begun = subst (λ h. IsSome h) (sym c.in-Ok-make_log.ensures.head) refl;
      waits = ap (λ o. is_some o) (sym c.in-Ok-make_log.ensures.rests);
      counted = ap (λ (k : Viewing). k.rank.number) c.view.view_is ∙ c.requires.counted ∙ ap (λ (k : SideState). length k.places) is ∙ ap (λ (ps : List ℕ). length ps) (sym c.in-Ok-make_log.ensures.places);
      next = tt;
      told = λ told.
          let some = c.requires.told told in
          let now = g.D.Disk.stands c.make_log.new.disk in
          let stands = subst (λ (k : SideState). Stands g.D.Disk.tells k (g.D.Disk.size c.args.disk.now k.side) disk) is c.requires.stands in
          let alone : IsAlone c.view.inside.log.side disk = subst (λ (k : SideState). IsAlone k.side disk) is (c.requires.alone told) in
          record {
            list = some.list;
            waiting = None;
            kept = record {
              listed = subst (λ s. HasList made.places (now.seen s) some.list) (sym c.in-Ok-make_log.ensures.side) (c.in-Ok-make_log.ensures.list told some.list (view-opened g.D.Disk.tells c.view.inside.log (g.D.Disk.size c.args.disk.now c.view.inside.log.side) disk stands told alone some.list some.has.listed));
              numbered = some.has.numbered;
              rank = ap (λ (k : Viewing). k.rank) c.view.view_is ∙ some.has.rank;
              waits = refl;
            };
          };
    }

pub returns-clause-list : goal.returns-clause-list
returns-clause-list g c = λ told last list listed.
    let disk = g.D.Disk.stands c.args.disk.now in
    let is : c.args.view.log ≡ c.view.inside.log = sym (ap (λ (k : Viewing). k.log) c.view.view_is) in
    let alone : IsAlone c.view.inside.log.side disk = subst (λ (k : SideState). IsAlone k.side disk) is (c.requires.alone told) in
    let stands = subst (λ (k : SideState). Stands g.D.Disk.tells k (g.D.Disk.size c.args.disk.now k.side) disk) is c.requires.stands in
    let now = g.D.Disk.stands c.make_log.new.disk in
    let has = one-view c.args.view disk.seen (c.requires.told told) list listed in
    let made = c.in-Ok-make_log.log in
    let side : made.side ≡ c.view.inside.log.side = c.in-Ok-make_log.ensures.side in
    let rests = c.in-Ok-make_log.ensures.alone told last alone in
    let there : HasList made.places (now.seen c.view.inside.log.side) list = c.in-Ok-make_log.ensures.list told list (view-opened g.D.Disk.tells c.view.inside.log (g.D.Disk.size c.args.disk.now c.view.inside.log.side) disk stands told alone list listed) in
    record {
      kept = record {
        listed = subst (λ s. HasList made.places (now.seen s) list) (sym side) there;
        numbered = has.numbered;
        rank = ap (λ (k : Viewing). k.rank) c.view.view_is ∙ has.rank;
        waits = refl;
      };
      sole = subst (λ s. IsSole s now) (sym side) (alone-sole c.view.inside.log.side now rests);
      leaves = alone-leaves c.view.inside.log.side now list rests (has-list made.places (now.seen c.view.inside.log.side) list there);
      beside = subst (λ s. IsBlankBeside s now) (sym side) (alone-beside c.view.inside.log.side now rests);
      headed = alone-headed g.D.Disk.tells made (g.D.Disk.size c.make_log.new.disk made.side) now c.in-Ok-make_log.ensures.stands told (subst (λ s. IsAlone s now) (sym side) rests);
    }

pub returns-clause-reads : goal.returns-clause-reads
returns-clause-reads g c = λ told list listed.
    let disk = g.D.Disk.stands c.args.disk.now in
    let is : c.args.view.log ≡ c.view.inside.log = sym (ap (λ (k : Viewing). k.log) c.view.view_is) in
    let alone : IsAlone c.view.inside.log.side disk = subst (λ (k : SideState). IsAlone k.side disk) is (c.requires.alone told) in
    let stands = subst (λ (k : SideState). Stands g.D.Disk.tells k (g.D.Disk.size c.args.disk.now k.side) disk) is c.requires.stands in
    let now = g.D.Disk.stands c.make_log.new.disk in
    let has = one-view c.args.view disk.seen (c.requires.told told) list listed in
    let made = c.in-Ok-make_log.log in
    let side : made.side ≡ c.view.inside.log.side = c.in-Ok-make_log.ensures.side in
    let there : HasList made.places (now.seen c.view.inside.log.side) list = c.in-Ok-make_log.ensures.list told list (view-opened g.D.Disk.tells c.view.inside.log (g.D.Disk.size c.args.disk.now c.view.inside.log.side) disk stands told alone list listed) in
    record {
      listed = subst (λ s. HasList made.places (now.seen s) list) (sym side) there;
      numbered = has.numbered;
      rank = ap (λ (k : Viewing). k.rank) c.view.view_is ∙ has.rank;
      waits = refl;
    }

pub returns-clause-head : goal.returns-clause-head
returns-clause-head g c = λ told.
    let disk = g.D.Disk.stands c.args.disk.now in
    let is : c.args.view.log ≡ c.view.inside.log = sym (ap (λ (k : Viewing). k.log) c.view.view_is) in
    let alone : IsAlone c.view.inside.log.side disk = subst (λ (k : SideState). IsAlone k.side disk) is (c.requires.alone told) in
    let stands = subst (λ (k : SideState). Stands g.D.Disk.tells k (g.D.Disk.size c.args.disk.now k.side) disk) is c.requires.stands in
    c.in-Ok-make_log.ensures.head ∙ ap (λ (h : Header). Some (unwrap_or c.view.inside.log.head (h, 1))) c.own_header-header.ensures
    ∙ found-head c.args.shape c.args.peer disk.seen c.view.inside.log.head (view-head g.D.Disk.tells c.view.inside.log (g.D.Disk.size c.args.disk.now c.view.inside.log.side) disk stands told alone c.args.shape c.args.peer c.in-Ok.ensures.own)

pub returns-clause-accepted : goal.returns-clause-accepted
returns-clause-accepted g c = λ told.
    let disk = g.D.Disk.stands c.args.disk.now in
    let is : c.args.view.log ≡ c.view.inside.log = sym (ap (λ (k : Viewing). k.log) c.view.view_is) in
    let alone : IsAlone c.view.inside.log.side disk = subst (λ (k : SideState). IsAlone k.side disk) is (c.requires.alone told) in
    let stands = subst (λ (k : SideState). Stands g.D.Disk.tells k (g.D.Disk.size c.args.disk.now k.side) disk) is c.requires.stands in
    let some = c.requires.told told in
    view-accepted g.D.Disk.tells c.view.inside.log (g.D.Disk.size c.args.disk.now c.view.inside.log.side) disk stands told alone c.args.shape c.args.peer some.list some.has.listed c.in-Ok.ensures.own

pub make_log-requires-clause-empty : goal.make_log-requires-clause-empty
make_log-requires-clause-empty g c =
    let is : c.args.view.log ≡ c.view.inside.log = sym (ap (λ (k : Viewing). k.log) c.view.view_is) in
    subst (λ (k : SideState). k.head ≡ None → k.places ≡ []) is c.requires.empty
