-- How a fetch opens its session, looks its key up, and ends.
use Rattle.std.proofs.Common.{◌≡◌, Bool, ℕ, ◌≤◌, List, [], ◌∷◌, ◌++◌, Some, None, IfSome, false, true, refl, sym, ap, ◌∙◌, subst, inl, length, arith, append-nil, append_assoc}
use Rattle.hs_asking.proofs.AloneLemmas.{looks_alone, opens_alone}
use Rattle.hs_asking.proofs.SaneLemmas.{answers_sane}
use Rattle.hs_asking.proofs.SeatLemmas.{seat_held}
use Rattle.hs_asking.proofs.StayLemmas.{stays-trans}
use Rattle.hs_asking.specs.Alone.{IsLooked, IsOpened, looked, nothing}
use Rattle.hs_asking.specs.Judged.{IsJudged}
use Rattle.hs_asking.specs.Lawful.{AreAnswersOf}
use Rattle.hs_asking.specs.Shown.{Began, IfTold, Shown, store_now}
use Rattle.hs_asking.specs.Staying.{Stays}
use Rattle.hs_asking.specs.Telling.{grants, is_held, is_ok}
use Rattle.hs_limits.specs.declared.address.Address.{Address}
use Rattle.hs_limits.specs.declared.address.Held.{Held}
use Rattle.hs_model.specs.Store.{Root, Store, held_at, retained_at}
use Rattle.hs_model.specs.declared.op.Op.TheVariants as op
use Rattle.hs_model.specs.declared.reply.Reply.{Reply}
use Rattle.hs_model.specs.declared.reply.Reply.TheVariants as reply
use Rattle.hs_tree.proofs.CallLemmas.{few_one, few_then, last_behind, told_last}
use Rattle.hs_tree.proofs.RootReads.{judged_stays}
use Rattle.hs_tree.proofs.RowLemmas.{tree_stays, tree_was}
use Rattle.hs_tree.specs.Calls.{AsksWithFew, CallFails, Hears, IsAskFault}
use Rattle.hs_tree.specs.Fetching.{HasFetched, IsAlone, IsFetchCause, IsFetchFault, IsFetchStopped, IsFileOf, IsNoFile}
use Rattle.hs_tree.specs.Rows.{HoldsTop, IsNoTop, IsReadFault, IsTop, IsUnput, OnlyReads, ReadsTop, TopStops}
use Rattle.hs_tree.specs.Storing.{our_session}
use Rattle.hs_tree.specs.Telling.{GivesLooked, IsLookedAs}
use Rattle.hs_tree.specs.Trees.{IsTreeAt, height, stored_cut}
use Rattle.hs_tree.specs.declared.fault.TreeFault.{TreeFault}
use Rattle.hs_tree.specs.declared.fault.TreeFault.TheVariants as fault

-- ---- where the store is told

-- what holds under a beginning that is told
pub told_at : {tells : Type 0} → (P : Began → Type 0) (s : Shown tells) (b : Began) → tells → s.began ≡ b → IfTold s P → P b
told_at P s b sure e h = subst P e (h sure)

pub where_began : {tells : Type 0} → (P : Began → Type 0) (s : Shown tells) → (tells → (b : Began) → s.began ≡ b → P b) → IfTold s P
where_began P s f = λ sure. f sure s.began refl

-- ---- an open and a look

-- behind them the session holds the key's address alone
pub record HasLooked {tells : Type 0} (key : List ℕ) (old now : Shown tells) (k : ℕ) (b : Began) : Type 0 where
  pub root : Root
  pub kept : retained_at (store_now b now) key ≡ Some root
  pub before : retained_at (store_now b old) key ≡ Some root
  pub stays : Stays (store_now b old) (store_now b now) root.address
  pub x : ℕ × Held
  pub handle : x.0 ≡ k
  pub address : x.1.address ≡ root.address
  pub next : ℕ
  pub holds : HoldsTop b (store_now b now) our_session next x

module _ {tells : Type 0} (key : List ℕ) (old : Shown tells) (alone : IfTold old (λ b. IsAlone b old)) (law : IfTold old (λ b. AreAnswersOf b old)) where
  pub opened_as : (mid : Shown tells) → tells → (b : Began) → old.began ≡ b → (told : Reply) → Hears old mid (op.Open our_session) told → IsOpened (store_now b old) (store_now b mid) our_session told
  opened_as mid sure b e told hears =
      let a : IsAlone b old = told_at (λ b. IsAlone b old) old b sure e alone in
      let sessions : b.limits.sessions ≡ 64 = ap (λ l. l.sessions) a.limits in
      let none : length (store_now b old).sessions ≡ 0 = ap (λ z. length z) a.none_open in
      opens_alone b.limits (store_now b old) (store_now b mid) our_session told (answers_sane b old (told_at (λ b. AreAnswersOf b old) old b sure e law)) none (omega (arith, sessions))
      (told_at (λ b. IsJudged b.limits (store_now b old) (store_now b mid) (op.Open our_session) told) old b sure e hears.judged)

  handles_of : tells → (b : Began) → old.began ≡ b → b.limits.handles ≡ 4096
  handles_of sure b e = ap (λ l. l.handles) (told_at (λ b. IsAlone b old) old b sure e alone).limits

  pub open_stops : (mid : Shown tells) (f : TreeFault) → old.ended ≡ None → CallFails old mid (op.Open our_session) f → IsFetchStopped key old mid f
  unfolding grants
  open_stops mid (fault.Core core) going c = record { ops = op.Open our_session ∷ []; asked = c.asked; kinds = refl; began = c.began; ended = c.ended; kind = tt; last = told_last old mid (op.Open our_session) (fault.Core core) c; cause_before = where_began (λ b. Unit {0}) old (λ sure b e. tt); cause = where_began (λ b. Unit {0}) mid (λ sure b e. tt) }
  open_stops mid fault.Read going c = absurd c
  open_stops mid fault.InputFull going c = absurd c
  open_stops mid (fault.Refused told) going c = record {
    ops = op.Open our_session ∷ [];
    asked = c.0.asked;
    kinds = refl;
    began = c.0.began;
    ended = c.0.going;
    kind = tt;
    last = told_last old mid (op.Open our_session) (fault.Refused told) c;
    cause_before = where_began (λ b. IsFetchCause (store_now b old) key (fault.Refused told)) old (λ sure b e. absurd (never sure b e));
    cause = where_began (λ b. IsFetchCause (store_now b mid) key (fault.Refused told)) mid (λ sure b e. absurd (never sure b (sym c.0.began ∙ e)));
  }
    where
      never : tells → (b : Began) → old.began ≡ b → ⊥
      never sure b e = let o = opened_as mid sure b e told c.0 in let k = subst (λ z. is_ok z ≡ false) o.told_is c.1 in cc k
  open_stops mid (fault.NotATree address) going c = absurd c
  open_stops mid fault.NoMemory going c = subst (λ z. IsFetchStopped key old z fault.NoMemory) (sym c) (record { ops = []; asked = sym (append-nil old.asked); kinds = tt; began = refl; ended = going; kind = tt; last = tt; cause_before = where_began (λ b. Unit {0}) old (λ sure b e. tt); cause = where_began (λ b. Unit {0}) old (λ sure b e. tt) })

  module _ (mid : Shown tells) (opened : Hears old mid (op.Open our_session) reply.Ok) where
    pub looked_as : (now : Shown tells) → tells → (b : Began) → old.began ≡ b → (told : Reply) → Hears mid now (op.Look our_session key) told → IsLooked (store_now b mid) (store_now b now) our_session 0 [] key told
    looked_as now sure b e told hears =
        let o = opened_as mid sure b e reply.Ok opened in
        let limit : b.limits.handles ≡ 4096 = handles_of sure b e in
        looks_alone b.limits (store_now b mid) (store_now b now) our_session 0 [] o.goes.seat key told (omega (arith, limit))
        (told_at (λ b. IsJudged b.limits (store_now b mid) (store_now b now) (op.Look our_session key) told) mid b sure (opened.began ∙ e) hears.judged)

    both_asked : (now : Shown tells) → now.asked ≡ mid.asked ++ op.Look our_session key ∷ [] → now.asked ≡ old.asked ++ op.Open our_session ∷ (op.Look our_session key ∷ [])
    both_asked now e = e ∙ (ap (λ z. z ++ op.Look our_session key ∷ []) opened.asked ∙ append_assoc old.asked (op.Open our_session ∷ []) (op.Look our_session key ∷ []))

    pub look_stops : (now : Shown tells) (f : TreeFault) → CallFails mid now (op.Look our_session key) f → IsFetchStopped key old now f
    unfolding grants
    look_stops now (fault.Core core) c = record { ops = op.Open our_session ∷ (op.Look our_session key ∷ []); asked = both_asked now c.asked; kinds = (refl, refl, tt); began = c.began ∙ opened.began; ended = c.ended; kind = tt; last = last_behind old mid now (op.Open our_session ∷ []) (fault.Core core) opened.asked (told_last mid now (op.Look our_session key) (fault.Core core) c); cause_before = where_began (λ b. Unit {0}) old (λ sure b e. tt); cause = where_began (λ b. Unit {0}) now (λ sure b e. tt) }
    look_stops now fault.Read c = absurd c
    look_stops now fault.InputFull c = absurd c
    look_stops now (fault.Refused told) c = record {
      ops = op.Open our_session ∷ (op.Look our_session key ∷ []);
      asked = both_asked now c.0.asked;
      kinds = (refl, refl, tt);
      began = c.0.began ∙ opened.began;
      ended = c.0.going;
      kind = tt;
      last = last_behind old mid now (op.Open our_session ∷ []) (fault.Refused told) opened.asked (told_last mid now (op.Look our_session key) (fault.Refused told) c);
      cause_before = where_began (λ b. IsFetchCause (store_now b old) key (fault.Refused told)) old (λ sure b e. let w = no_key sure b e in (w.0, w.1));
      cause = where_began (λ b. IsFetchCause (store_now b now) key (fault.Refused told)) now (λ sure b e. let w = no_key sure b (sym (c.0.began ∙ opened.began) ∙ e) in (w.0, w.2));
    }
      where
        which : tells → (b : Began) → old.began ≡ b → IsLooked (store_now b mid) (store_now b now) our_session 0 [] key told → (told ≡ reply.NoKey key) × (retained_at (store_now b old) key ≡ None) × (retained_at (store_now b now) key ≡ None)
        which sure b e (looked root epoch kept is goes) = let k = subst (λ z. is_held z ≡ false) is c.1 in cc k
        which sure b e (nothing is none goes) = let o = opened_as mid sure b e reply.Ok opened in (is, sym (goes.roots key ∙ o.goes.roots key) ∙ none, none)

        no_key : tells → (b : Began) → old.began ≡ b → (told ≡ reply.NoKey key) × (retained_at (store_now b old) key ≡ None) × (retained_at (store_now b now) key ≡ None)
        no_key sure b e = which sure b e (looked_as now sure b e told c.0)
    look_stops now (fault.NotATree address) c = absurd c
    look_stops now fault.NoMemory c = subst (λ z. IsFetchStopped key old z fault.NoMemory) (sym c) (record { ops = op.Open our_session ∷ []; asked = opened.asked; kinds = refl; began = opened.began; ended = opened.going; kind = tt; last = tt; cause_before = where_began (λ b. Unit {0}) old (λ sure b e. tt); cause = where_began (λ b. Unit {0}) mid (λ sure b e. tt) })

    module _ (now : Shown tells) (k : ℕ) (w : IsLookedAs mid now (op.Look our_session key) k) where
      pub has_looked : tells → (b : Began) → old.began ≡ b → HasLooked key old now k b
      has_looked sure b e = which (looked_as now sure b e w.told w.hears) w.gives
        where
          which : IsLooked (store_now b mid) (store_now b now) our_session 0 [] key w.told → GivesLooked w.told k → HasLooked key old now k b
          which (nothing is none goes) gives = absurd (subst (λ z. GivesLooked z k) is gives)
          which (looked root epoch kept is goes) gives =
              let first : k ≡ 0 = subst (λ z. GivesLooked z k) is gives in
              let o = opened_as mid sure b e reply.Ok opened in
              let there : retained_at (store_now b mid) key ≡ Some root = sym (goes.roots key) ∙ kept in
              let before : retained_at (store_now b old) key ≡ Some root = sym (o.goes.roots key) ∙ there in
              record {
                root = root;
                kept = kept;
                before = before;
                stays = stays-trans (store_now b old) (store_now b mid) (store_now b now) root.address
                    (judged_stays b.limits (store_now b old) (store_now b mid) (op.Open our_session) reply.Ok key root (answers_sane b old (told_at (λ b. AreAnswersOf b old) old b sure e law)) tt (told_at (λ b. IsJudged b.limits (store_now b old) (store_now b mid) (op.Open our_session) reply.Ok) old b sure e opened.judged) before)
                    (judged_stays b.limits (store_now b mid) (store_now b now) (op.Look our_session key) w.told key root o.goes.seat.sane tt (told_at (λ b. IsJudged b.limits (store_now b mid) (store_now b now) (op.Look our_session key) w.told) mid b sure (opened.began ∙ e) w.hears.judged) there);
                x = (0, record { address = root.address; epoch = epoch });
                handle = sym first;
                address = refl;
                next = 1;
                holds = record { limit = handles_of sure b e; seat = goes.seat };
              }

      -- what the handle stands for is the key's address
      pub address_is : (address : Address) → IfTold now (λ b. IfSome (held_at (store_now b now) our_session k) (λ held. address ≡ held.address)) → (sure : tells) (b : Began) (e : old.began ≡ b) → (has_looked sure b e).root.address ≡ address
      address_is address h sure b e =
          let l = has_looked sure b e in
          let here : held_at (store_now b now) our_session l.x.0 ≡ Some l.x.1 = seat_held (store_now b now) our_session l.next (l.x ∷ []) l.holds.seat l.x (inl refl) in
          let at_k : held_at (store_now b now) our_session k ≡ Some l.x.1 = ap (λ z. held_at (store_now b now) our_session z) (sym l.handle) ∙ here in
          let told = told_at (λ b. IfSome (held_at (store_now b now) our_session k) (λ held. address ≡ held.address)) now b sure ((w.hears.began ∙ opened.began) ∙ e) h in
          let same : address ≡ l.x.1.address = subst (λ z. IfSome z (λ held. address ≡ held.address)) at_k told in
          sym (same ∙ l.address)

      -- ---- behind the tree

      module _ (new : Shown tells) (reads : OnlyReads our_session now new) where
        all_asked : new.asked ≡ old.asked ++ op.Open our_session ∷ (op.Look our_session key ∷ reads.ops)
        all_asked = reads.asked ∙ (ap (λ z. z ++ reads.ops) (both_asked now w.hears.asked) ∙ append_assoc old.asked (op.Open our_session ∷ (op.Look our_session key ∷ [])) reads.ops)

        began_as : new.began ≡ old.began
        began_as = reads.began ∙ (w.hears.began ∙ opened.began)

      pub top_fails : (new : Shown tells) (f : TreeFault) → TopStops our_session now new k f → IsFetchStopped key old new f
      top_fails new f t = record {
        ops = op.Open our_session ∷ (op.Look our_session key ∷ t.reads.ops);
        asked = all_asked new t.reads;
        kinds = (refl, refl, t.reads.kinds);
        began = began_as new t.reads;
        ended = t.ended;
        kind = ask_fetch f t.kind;
        last = last_behind old now new (op.Open our_session ∷ (op.Look our_session key ∷ [])) f (both_asked now w.hears.asked) t.last;
        cause_before = where_began (λ b. IsFetchCause (store_now b old) key f) old (λ sure b e. read_cause (store_now b old) f (is_read sure b e));
        cause = where_began (λ b. IsFetchCause (store_now b new) key f) new (λ sure b e. read_cause (store_now b new) f (is_read sure b (sym (began_as new t.reads) ∙ e)));
      }
        where
          is_read : tells → (b : Began) → old.began ≡ b → IsReadFault f
          is_read sure b e = let l = has_looked sure b e in t.cause sure b ((w.hears.began ∙ opened.began) ∙ e) l.next l.x l.handle l.holds

          ask_fetch : (f : TreeFault) → IsAskFault f → IsFetchFault f
          ask_fetch (fault.Core core) h = tt
          ask_fetch fault.Read h = absurd h
          ask_fetch fault.InputFull h = absurd h
          ask_fetch (fault.Refused told) h = tt
          ask_fetch (fault.NotATree address) h = absurd h
          ask_fetch fault.NoMemory h = tt

          read_cause : (s : Store) (f : TreeFault) → IsReadFault f → IsFetchCause s key f
          read_cause s (fault.Core core) h = tt
          read_cause s fault.Read h = absurd h
          read_cause s fault.InputFull h = absurd h
          read_cause s (fault.Refused told) h = absurd h
          read_cause s (fault.NotATree address) h = absurd h
          read_cause s fault.NoMemory h = tt

      no_tree : (new : Shown tells) (before after : List ℕ) (address : Address) → IfTold now (λ b. IfSome (held_at (store_now b now) our_session k) (λ held. address ≡ held.address)) → ReadsTop our_session now new k before after false → IsFetchStopped key old new (fault.NotATree address)
      no_tree new before after address h t = record {
        ops = op.Open our_session ∷ (op.Look our_session key ∷ t.reads.ops);
        asked = all_asked new t.reads;
        kinds = (refl, refl, t.reads.kinds);
        began = began_as new t.reads;
        ended = t.going;
        kind = tt;
        last = tt;
        cause_before = where_began (λ b. IsNoFile (store_now b old) key address) old (λ sure b e.
            let l = has_looked sure b e in
            let s : Store = store_now b now in
            let u : Store = store_now b new in
            let n = no_top sure b e in
            let first : l.root.address ≡ address = address_is address h sure b e in
            record {
              root = l.root;
              kept = l.before;
              first = first;
              none = λ file fits tree. n.none file fits (subst (λ a. IsTreeAt s a file) (sym l.address) (tree_stays (store_now b old) s (height stored_cut (length file)) l.root.address file l.stays (subst (λ a. IsTreeAt (store_now b old) a file) (sym first) tree)));
            });
        cause = where_began (λ b. IsNoFile (store_now b new) key address) new (λ sure b e.
            let e' : old.began ≡ b = sym (began_as new t.reads) ∙ e in
            let l = has_looked sure b e' in
            let s : Store = store_now b now in
            let u : Store = store_now b new in
            let n = no_top sure b e' in
            let first : l.root.address ≡ address = address_is address h sure b e' in
            record {
              root = l.root;
              kept = n.keeps.roots key ∙ l.kept;
              first = first;
              none = λ file fits tree. n.none file fits (tree_was s u (height stored_cut (length file)) l.x.1.address file (n.keeps.stays l.x (inl refl)) (subst (λ a. IsTreeAt u a file) (sym first ∙ sym l.address) tree));
            });
      }
        where
          no_top : (sure : tells) (b : Began) (e : old.began ≡ b) → IsNoTop (store_now b now) (store_now b new) (has_looked sure b e).x
          no_top sure b e = let l = has_looked sure b e in t.told sure b ((w.hears.began ∙ opened.began) ∙ e) l.next l.x l.handle l.holds

      module _ (new : Shown tells) (file : List ℕ) (t : ReadsTop our_session now new k [] file true) where
        is_top : (sure : tells) (b : Began) (e : old.began ≡ b) → IsTop (store_now b now) (store_now b new) (has_looked sure b e).x [] file
        is_top sure b e = let l = has_looked sure b e in t.told sure b ((w.hears.began ∙ opened.began) ∙ e) l.next l.x l.handle l.holds

        at_top : (sure : tells) (b : Began) (e : old.began ≡ b) → (length file ≤ 67108864) × IsTreeAt (store_now b now) (has_looked sure b e).root.address file
        at_top sure b e =
            let l = has_looked sure b e in
            let n = is_top sure b e in
            let counted : length file ≡ length n.file = ap (λ z. length z) n.given in
            let most : length n.file ≤ 67108864 = n.fits in
            (omega (arith, counted, most), subst (λ a. IsTreeAt (store_now b now) a file) l.address (subst (λ z. IsTreeAt (store_now b now) l.x.1.address z) (sym n.given) n.tree))

        pub has_fetched : (before after : List ℕ) → after ≡ before ++ file → HasFetched key old new before after
        has_fetched before after more = record {
          file = file;
          given = more;
          ops = t.reads.ops;
          asked = all_asked new t.reads;
          reads = t.reads.kinds;
          going = t.going;
          began = began_as new t.reads;
          few = where_began (λ b. AsksWithFew b our_session 193 old new) old (λ sure b e.
              let o = opened_as mid sure b e reply.Ok opened in
              let l = has_looked sure b e in
              few_then b our_session 193 old mid new (few_one b our_session 193 old mid (op.Open our_session) reply.Ok opened (record { next = 0; handles = []; seat = o.goes.seat; few = omega arith }))
              (few_then b our_session 193 mid now new (few_one b our_session 193 mid now (op.Look our_session key) w.told w.hears (record { next = l.next; handles = l.x ∷ []; seat = l.holds.seat; few = omega arith }))
              (t.few sure b ((w.hears.began ∙ opened.began) ∙ e) l.next l.x l.handle l.holds)));
          found_before = where_began (λ b. IsFileOf (store_now b old) key file) old (λ sure b e.
              let l = has_looked sure b e in
              let n = is_top sure b e in
              let here = at_top sure b e in
              record { root = l.root; kept = l.before; fits = here.0; tree = tree_was (store_now b old) (store_now b now) (height stored_cut (length file)) l.root.address file l.stays here.1 });
          found = where_began (λ b. IsFileOf (store_now b new) key file) new (λ sure b e.
              let e' : old.began ≡ b = sym (began_as new t.reads) ∙ e in
              let l = has_looked sure b e' in
              let n = is_top sure b e' in
              let here = at_top sure b e' in
              let stays : Stays (store_now b now) (store_now b new) l.root.address = subst (λ a. Stays (store_now b now) (store_now b new) a) l.address (n.keeps.stays l.x (inl refl)) in
              record { root = l.root; kept = n.keeps.roots key ∙ l.kept; fits = here.0; tree = tree_stays (store_now b now) (store_now b new) (height stored_cut (length file)) l.root.address file stays here.1 });
        }

        unkept : IsFetchStopped key old new fault.NoMemory
        unkept = record {
          ops = op.Open our_session ∷ (op.Look our_session key ∷ t.reads.ops);
          asked = all_asked new t.reads;
          kinds = (refl, refl, t.reads.kinds);
          began = began_as new t.reads;
          ended = t.going;
          kind = tt;
          last = tt;
          cause_before = where_began (λ b. Unit {0}) old (λ sure b e. tt);
          cause = where_began (λ b. Unit {0}) new (λ sure b e. tt);
        }

      -- ---- what was read, put or not

      pub unput_stops : (new : Shown tells) (file : List ℕ) (good : Bool) (address : Address) → IfTold now (λ b. IfSome (held_at (store_now b now) our_session k) (λ held. address ≡ held.address)) → ReadsTop our_session now new k [] file good → (f : TreeFault) → IsUnput good address f → IsFetchStopped key old new f
      unput_stops new file good address h t (fault.Core core) u = absurd u
      unput_stops new file good address h t fault.Read u = absurd u
      unput_stops new file good address h t fault.InputFull u = absurd u
      unput_stops new file good address h t (fault.Refused told) u = absurd u
      unput_stops new file good address h t (fault.NotATree found) u = subst (λ a. IsFetchStopped key old new (fault.NotATree a)) (sym u.1) (no_tree new [] file address h (subst (λ z. ReadsTop our_session now new k [] file z) u.0 t))
      unput_stops new file good address h t fault.NoMemory u = unkept new file (subst (λ z. ReadsTop our_session now new k [] file z) u t)
