-- What an entry sends as it takes effect in memory: rounds that the run behind it keeps as sent.
use Rattle.std.proofs.Common.{◌≡◌, ◌∙◌, sym, ap, subst, inl, inr, ℕ, zero, suc, ◌+◌, ◌==◌, ◌&&◌, ◌||◌, Bool, true, false, cond, not, List, [], ◌∷◌, ◌++◌, find, length, slice_get, Option, Some, None, is_none, is_some, Result, Ok, Err, refl, arith, nat_lt}
use Rattle.std.proofs.lemmas.Bool.{and_parts, eqb-true, lt-ltb}
use Rattle.std.specs.List.{range_with_len}
use Rattle.std.specs.Option.{option_and_then, option_map_or}
use Rattle.hs_desk.specs.declared.what.What.TheVariants.{Again, Dropped, Marked, Nothing, Refused, Rooted, Stored}
use Rattle.hs_entry.specs.declared.entry.Entry.{Entry}
use Rattle.hs_entry.specs.declared.entry.Entry.TheVariants as kind
use Rattle.hs_limits.specs.declared.address.Address.{Address}
use Rattle.hs_limits.specs.declared.delta.Delta.{Delta}
use Rattle.hs_limits.specs.declared.shape.Shape.{Shape}
use Rattle.hs_limits.specs.declared.spelling.SpellingFault.{SpellingFault}
use Rattle.hs_limits.specs.Block.{Block}
use Rattle.hs_limits.specs.Reading.{read_block}
use Rattle.hs_limits.specs.Shape.{shard_of_key}
use Rattle.hs_model.proofs.Members.{Member, contains_from_member}
use Rattle.hs_roots.specs.Roots.{retained_of}
use Rattle.hs_roots.specs.Roots.{drop_root as without_root, put_root as with_root}
use Rattle.hs_rounds.specs.declared.body.RoundBody.{RoundBody}
use Rattle.hs_rounds.specs.declared.place.Place.{Place}
use Rattle.hs_rounds.specs.declared.sending.SentRound.{SentRound}
use Rattle.hs_rounds.specs.Rounds.{Run, body_at, complete, finish, from_round, go_on, got, have_told, is_round, open_at, outgoing}
use Rattle.hs_rounds.specs.Rounds.{is_last as is_last_run}
use Rattle.hs_fold.specs.Runs.Catalogue.{apply as fold_entry}
use Rattle.hs_fold.specs.Runs.Facts.{Catalogue as Folded}
use Rattle.hs_fold.specs.Runs.Fits.{HasSent}
use Rattle.hs_fold.specs.Runs.Own.{IsOwn}
use Rattle.hs_fold.specs.Runs.Rounds as fold
use Rattle.hs_fold.specs.Runs.Rounds.{run_of}
use Rattle.hs_fold.proofs.Runs.MemoryLemmas.{run-complete, run-got, run-last}
use Rattle.hs_memory.specs.Forget.{forget, reading}
use Rattle.hs_memory.proofs.RunLemmas.{entered_alike, got_alike}
use Rattle.hs_shard.specs.declared.effect.Sent.{Sent}
use Rattle.hs_shard.specs.Apply.{apply, named_as}
use Rattle.hs_shard.specs.Clients.{Applied, change_at, drop_root, give, mark_block, new_facts, only, put_root, root_refusal, store_block, with_block}
use Rattle.hs_shard.specs.Facts.{Catalogue, facts_at, has_room, is_fresh, is_mine}
use Rattle.hs_shard.specs.Rounds.{advance, advanced, end_open, end_round, enter, enter_epoch, entered, get_round, is_accepted, is_due, log_got, may_enter, message_to, messages, next_deltas, next_total, searched, settled, swept}
use Rattle.hs_shard.proofs.AdvanceLemmas.{advance_done, advance_more}
use Rattle.hs_standing.specs.Sent.{got_of}
use Rattle.hs_standing.proofs.PoolLemmas.{of_all}

-- each of some rounds for a shard is one of those that are kept as sent
abbrev pub AreKept : List SentRound → List Sent → Type 0
AreKept kept sends = (s : Sent) → Member s sends → HasSent kept s.to s.epoch s.round s.body

none_kept : (kept : List SentRound) (sends : List Sent) → sends ≡ [] → AreKept kept sends
none_kept kept sends none = subst (λ (ss : List Sent). AreKept kept ss) (sym none) (λ s m. elim m [ ])

-- ---- the messages of a round

found : {X : Type 0} (test : X → Bool) (xs : List X) (x : X) → find test xs ≡ Some x → Member x xs × (test x ≡ true)
found test [] x e = absurd (cc e)
found test (y ∷ ys) x e = go (test y) refl e (found test ys x)
  where
    go : (b : Bool) → test y ≡ b → cond b (Some y) (find test ys) ≡ Some x → (find test ys ≡ Some x → Member x ys × (test x ≡ true)) → Member x (y ∷ ys) × (test x ≡ true)
    go true t f ih = let is : y ≡ x = cc f in (inl (sym is), ap test (sym is) ∙ t)
    go false t f ih = let r = ih f in (inr r.0, r.1)

outgoing_kept : (epoch round to : ℕ) (run : Run) (body : RoundBody) → outgoing epoch round to run ≡ Some body → HasSent run.sent to epoch round body
outgoing_kept epoch round to run body e = go (find (is_round epoch round) run.sent) refl e
  where
    go : (o : Option SentRound) → find (is_round epoch round) run.sent ≡ o → option_and_then (λ (s : SentRound). slice_get s.bodies to) o ≡ Some body → HasSent run.sent to epoch round body
    go None f q = absurd (cc q)
    go (Some kept) f q =
        let is = found (is_round epoch round) run.sent kept f in
        let p = and_parts (kept.epoch == epoch) (kept.round == round) is.1 in
        record { kept = kept; among = contains_from_member kept run.sent is.0; of_epoch = eqb-true kept.epoch epoch p.0; of_round = eqb-true kept.round round p.1; tells = q }

abbrev sent_as : ℕ → ℕ → ℕ → RoundBody → List Sent
sent_as epoch round to body = record { to = to; epoch = epoch; round = round; body = body } ∷ []

pub messages_kept : (shards epoch round : ℕ) (run : Run) → AreKept run.sent (messages shards epoch round run)
messages_kept shards epoch round run s m =
    of_all (λ (x : Sent). HasSent run.sent x.to x.epoch x.round x.body) (message_to epoch round run) (λ to x k. one to (outgoing epoch round to run) refl x k) (range_with_len 0 shards) s m
  where
    one : (to : ℕ) (o : Option RoundBody) → outgoing epoch round to run ≡ o → (x : Sent) → Member x (option_map_or (sent_as epoch round to) o []) → HasSent run.sent x.to x.epoch x.round x.body
    one to None e x k = elim k [ ]
    one to (Some body) e x (inl is) = subst (λ (y : Sent). HasSent run.sent y.to y.epoch y.round y.body) (sym is) (outgoing_kept epoch round to run body e)
    one to (Some body) e x (inr k) = elim k [ ]

-- ---- clients' entries send nothing

stores : (number least : ℕ) (a : Address) (read : Result Block SpellingFault) (c : Catalogue) → (store_block number least a read c).effect.sends ≡ []
stores number least a (Err fault) c = refl
stores number least a (Ok block) c = go (not (is_mine a c) || is_some (facts_at a c)) (not (is_fresh least c && has_room c))
  where
    go : (b r : Bool) → (cond b (only Nothing c) (cond r (only Refused c) (only Stored (with_block a (new_facts number c.epoch block.pointers) c)))).effect.sends ≡ []
    go true r = refl
    go false true = refl
    go false false = refl

marks : (least number : ℕ) (a : Address) (c : Catalogue) → (mark_block least number a c).effect.sends ≡ []
marks least number a c = go (not (option_map_or (λ f. f.number == number) (facts_at a c) false)) (not (is_fresh least c))
  where
    go : (b r : Bool) → (cond b (only Again c) (cond r (only Refused c) (only Marked (record c { blocks = change_at a (give c.epoch) c.blocks })))).effect.sends ≡ []
    go true r = refl
    go false true = refl
    go false false = refl

roots : (held : ℕ) (a : Address) (key : List ℕ) (c : Catalogue) → (put_root held a key c).effect.sends ≡ []
roots held a key c = go (not (shard_of_key c.shape.shards key == c.shard)) (not (is_fresh held c) || is_some (root_refusal a key c))
  where
    go : (b r : Bool) → (cond b (only Nothing c) (cond r (only Refused c) (only Rooted (record c { roots = with_root key a c.epoch c.roots })))).effect.sends ≡ []
    go true r = refl
    go false true = refl
    go false false = refl

drops : (key : List ℕ) (c : Catalogue) → (drop_root key c).effect.sends ≡ []
drops key c = go (is_none (retained_of key c.roots))
  where
    go : (b : Bool) → (cond b (only Refused c) (only Dropped (record c { roots = without_root key c.epoch c.roots }))).effect.sends ≡ []
    go true = refl
    go false = refl

-- ---- the end of a round

-- a run that goes on opens the next round
went_on : (run : Run) (total : ℕ) (deltas : List Delta) (at : ℕ × ℕ) → run.opened ≡ Some at → go_on total deltas run ≡ open_at at.0 (at.1 + 1) total deltas run
went_on run total deltas at e = subst (λ (o : Option (ℕ × ℕ)). go_on total deltas (record run { opened = o }) ≡ open_at at.0 (at.1 + 1) total deltas (record run { opened = o })) (sym e) refl

finished : (run : Run) → complete (finish run) ≡ false
finished run = go run.opened
  where
    go : (o : Option (ℕ × ℕ)) → complete (finish (record run { opened = o })) ≡ false
    go None = refl
    go (Some at) = refl

module _ (turns : ℕ) (a : Applied) (epoch round : ℕ) (none : a.effect.sends ≡ []) (opened : a.catalogue.run.opened ≡ Some (epoch, round))
    (next : is_last_run a.catalogue.run ≡ false → have_told a.catalogue.run.shape.shards epoch (round + 1) (from_round epoch (round + 1) a.catalogue.run.gots) ≡ false) where
  abbrev over : Applied
  over = swept epoch a.effect (settled round a.catalogue)

  abbrev on : Applied
  on = searched epoch round a.effect (settled round a.catalogue)

  over_kept : AreKept (advance turns over).catalogue.run.sent (advance turns over).effect.sends
  over_kept =
      let closed : complete over.catalogue.run ≡ false = finished a.catalogue.run in
      subst (λ (x : Applied). AreKept x.catalogue.run.sent x.effect.sends) (sym (advance_done turns over closed)) (none_kept over.catalogue.run.sent over.effect.sends none)

  on_kept : is_last_run a.catalogue.run ≡ false → AreKept (advance turns on).catalogue.run.sent (advance turns on).effect.sends
  on_kept goes =
      let s : Catalogue = settled round a.catalogue in
      let opens : on.catalogue.run ≡ open_at epoch (round + 1) (next_total epoch round s) (next_deltas epoch round s) a.catalogue.run = went_on a.catalogue.run (next_total epoch round s) (next_deltas epoch round s) (epoch, round) opened in
      let waits : complete on.catalogue.run ≡ false = ap (λ (r : Run). complete r) opens ∙ next goes in
      let sends : AreKept on.catalogue.run.sent (messages a.catalogue.shape.shards epoch (round + 1) on.catalogue.run) = messages_kept a.catalogue.shape.shards epoch (round + 1) on.catalogue.run in
      subst (λ (x : Applied). AreKept x.catalogue.run.sent x.effect.sends) (sym (advance_done turns on waits))
      (subst (λ (before : List Sent). AreKept on.catalogue.run.sent (before ++ messages a.catalogue.shape.shards epoch (round + 1) on.catalogue.run)) (sym none) sends)

  ended_kept : AreKept (advance turns (end_round epoch round a)).catalogue.run.sent (advance turns (end_round epoch round a)).effect.sends
  ended_kept = go (is_last_run a.catalogue.run) refl
    where
      go : (b : Bool) → is_last_run a.catalogue.run ≡ b → AreKept (advance turns (cond b over on)).catalogue.run.sent (advance turns (cond b over on)).effect.sends
      go true e = over_kept
      go false e = on_kept e

-- one round ends at most, and what it sends is kept
one_end : (turns : ℕ) (a : Applied) (epoch round : ℕ) → a.effect.sends ≡ [] → a.catalogue.run.opened ≡ Some (epoch, round)
    → (complete a.catalogue.run ≡ true → is_last_run a.catalogue.run ≡ false → have_told a.catalogue.run.shape.shards epoch (round + 1) (from_round epoch (round + 1) a.catalogue.run.gots) ≡ false)
    → AreKept (advance turns a).catalogue.run.sent (advance turns a).effect.sends
one_end zero a epoch round none opened next = none_kept a.catalogue.run.sent a.effect.sends none
one_end (suc turns) a epoch round none opened next = go (complete a.catalogue.run) refl
  where
    go : (b : Bool) → complete a.catalogue.run ≡ b → AreKept (advance (suc turns) a).catalogue.run.sent (advance (suc turns) a).effect.sends
    go false e = subst (λ (x : Applied). AreKept x.catalogue.run.sent x.effect.sends) (sym (advance_done (suc turns) a e)) (none_kept a.catalogue.run.sent a.effect.sends none)
    go true e =
        let is : advance (suc turns) a ≡ advance turns (end_round epoch round a) = advance_more turns a e ∙ ap (λ (o : Option (ℕ × ℕ)). advance turns (end_open o a)) opened in
        subst (λ (x : Applied). AreKept x.catalogue.run.sent x.effect.sends) (sym is) (ended_kept turns a epoch round none opened (next e))

-- ---- Gots and Enters

-- what is known of the fold: its Enter ends no round at once, and its Got ends one round at most
pub record EndsOnce (shards : ℕ) (c : Folded) (entry : Entry) : Type 0 where
  pub enters : fold.is_complete shards (fold.enter_epoch shards c) ≡ false
  pub gets : (place : Place) (told : RoundBody) → entry ≡ got_of place told → fold.is_accepted shards c place ≡ true → fold.is_complete shards (fold.log_got place told c) ≡ true → fold.is_last shards (fold.log_got place told c) ≡ false
      → have_told shards c.epoch (c.round + 1) (from_round c.epoch (c.round + 1) (fold.log_got place told c).got) ≡ false

pub second_false : (a b : Bool) → a ≡ true → a && b ≡ false → b ≡ false
second_false true b e f = f
second_false false b e f = cc e

module _ (name : List ℕ → Address) (shape : Shape) (shard : ℕ) where
  abbrev to : Folded → Catalogue
  to c = forget shape shard c

  pub due_alike : (c : Folded) (place : Place) → is_due place (to c) ≡ fold.is_due c place.epoch place.round
  due_alike c place = go (fold.is_running c)
    where
      go : (r : Bool) → (option_map_or (λ (o : ℕ × ℕ). place.epoch == o.0 && (place.round == o.1 || place.round == o.1 + 1)) (cond r (Some (c.epoch, c.round)) None) false || place.epoch == c.epoch + 1 && place.round == 0)
          ≡ (r && (place.epoch == c.epoch && (place.round == c.round || place.round == c.round + 1)) || place.epoch == c.epoch + 1 && place.round == 0)
      go true = refl
      go false = refl

  logged_kept : (c : Folded) (place : Place) (told : RoundBody) → fold.is_accepted shape.shards c place ≡ true
      → (fold.is_complete shape.shards (fold.log_got place told c) ≡ true → fold.is_last shape.shards (fold.log_got place told c) ≡ false
      → have_told shape.shards c.epoch (c.round + 1) (from_round c.epoch (c.round + 1) (fold.log_got place told c).got) ≡ false)
      → AreKept (advanced (only Nothing (log_got place told (to c)))).catalogue.run.sent (advanced (only Nothing (log_got place told (to c)))).effect.sends
  logged_kept c place told ok next = go (fold.is_running c) refl
    where
      a : Applied
      a = only Nothing (log_got place told (to c))

      D : Folded
      D = fold.log_got place told c

      is : got place told (run_of shape shard c) ≡ run_of shape shard (fold.log_got place told c)
      is = sym (run-got shape shard c place told ok)

      go : (r : Bool) → fold.is_running c ≡ r → AreKept (advanced (only Nothing (log_got place told (to c)))).catalogue.run.sent (advanced (only Nothing (log_got place told (to c)))).effect.sends
      go false r =
          let stays : complete (run_of shape shard D) ≡ false = ap (λ (b : Bool). complete (record (run_of shape shard D) { opened = cond b (Some (c.epoch, c.round)) None })) r in
          subst (λ (x : Applied). AreKept x.catalogue.run.sent x.effect.sends) (sym (advance_done (length a.catalogue.run.gots + 1) a (ap (λ (x : Run). complete x) is ∙ stays))) (none_kept a.catalogue.run.sent a.effect.sends refl)
      go true r =
          let opened : a.catalogue.run.opened ≡ Some (c.epoch, c.round) = ap (λ (x : Run). x.opened) is ∙ ap (λ (b : Bool). cond b (Some (c.epoch, c.round)) None) r in
          one_end (length a.catalogue.run.gots + 1) a c.epoch c.round refl opened (λ whole goes.
          ap (λ (x : Run). have_told x.shape.shards c.epoch (c.round + 1) (from_round c.epoch (c.round + 1) x.gots)) is
          ∙ next (sym (run-complete shape shard D r) ∙ sym (ap (λ (x : Run). complete x) is) ∙ whole) (sym (run-last shape shard D r) ∙ sym (ap (λ (x : Run). is_last_run x) is) ∙ goes))

  got_kept : (c : Folded) (place : Place) (told : RoundBody)
      → (fold.is_accepted shape.shards c place ≡ true → fold.is_complete shape.shards (fold.log_got place told c) ≡ true → fold.is_last shape.shards (fold.log_got place told c) ≡ false
      → have_told shape.shards c.epoch (c.round + 1) (from_round c.epoch (c.round + 1) (fold.log_got place told c).got) ≡ false)
      → AreKept (get_round place told (to c)).catalogue.run.sent (get_round place told (to c)).effect.sends
  got_kept c place told next = go (is_accepted place (to c)) refl
    where
      same : is_accepted place (to c) ≡ fold.is_accepted shape.shards c place
      same = ap (λ (due : Bool). nat_lt place.from shape.shards && (is_none (body_at place c.got) && due)) (due_alike c place)

      go : (b : Bool) → is_accepted place (to c) ≡ b
          → AreKept (cond b (advanced (only Nothing (log_got place told (to c)))) (only Nothing (to c))).catalogue.run.sent (cond b (advanced (only Nothing (log_got place told (to c)))) (only Nothing (to c))).effect.sends
      go false e = none_kept (only Nothing (to c)).catalogue.run.sent (only Nothing (to c)).effect.sends refl
      go true e = let ok = sym same ∙ e in logged_kept c place told ok (next ok)

  enter_kept : (c : Folded) (epoch : ℕ) → fold.is_complete shape.shards (fold.enter_epoch shape.shards c) ≡ false → AreKept (enter epoch (to c)).catalogue.run.sent (enter epoch (to c)).effect.sends
  enter_kept c epoch waits = go (may_enter epoch (to c)) refl
    where
      go : (b : Bool) → may_enter epoch (to c) ≡ b → AreKept (cond b (advanced (entered epoch (to c))) (only Refused (to c))).catalogue.run.sent (cond b (advanced (entered epoch (to c))) (only Refused (to c))).effect.sends
      go false e = none_kept (only Refused (to c)).catalogue.run.sent (only Refused (to c)).effect.sends refl
      go true e =
          let parts = and_parts (epoch == c.epoch + 1) (c.swept == c.epoch) e in
          let next : epoch ≡ c.epoch + 1 = eqb-true epoch (c.epoch + 1) parts.0 in
          let idle : c.swept ≡ c.epoch = eqb-true c.swept c.epoch parts.1 in
          let untold : have_told shape.shards (c.epoch + 1) 0 (from_round (c.epoch + 1) 0 c.got) ≡ false = second_false (nat_lt c.swept (c.epoch + 1)) (have_told shape.shards (c.epoch + 1) 0 (from_round (c.epoch + 1) 0 c.got)) (runs c.swept c.epoch idle) waits in
          let closed : complete (entered epoch (to c)).catalogue.run ≡ false = ap (λ k. have_told shape.shards k 0 (from_round k 0 c.got)) next ∙ untold in
          subst (λ (x : Applied). AreKept x.catalogue.run.sent x.effect.sends) (sym (advance_done (length (entered epoch (to c)).catalogue.run.gots + 1) (entered epoch (to c)) closed)) (messages_kept shape.shards epoch 0 (enter_epoch epoch (to c)).run)
        where
          runs : (s k : ℕ) → s ≡ k → nat_lt s (k + 1) ≡ true
          runs s k idle = lt-ltb s (k + 1) (omega (arith, idle))

  -- ---- any entry

  pub entry_kept : (c : Folded) → IsOwn shape.shards shard c → (number : ℕ) (entry : Entry) (named : Option Address) → EndsOnce shape.shards c entry
      → AreKept (fold_entry (reading name shape shard) c (number, entry)).sent (apply number entry named (to c)).effect.sends
  entry_kept c own number (kind.View view) named ends = λ s m. elim m [ ]
  entry_kept c own number (kind.Block op least bytes) named ends = none_kept (fold_entry (reading name shape shard) c (number, kind.Block op least bytes)).sent (apply number (kind.Block op least bytes) named (to c)).effect.sends (stores number least (named_as named) (read_block bytes) (to c))
  entry_kept c own number (kind.Mark op least block a) named ends = none_kept (fold_entry (reading name shape shard) c (number, kind.Mark op least block a)).sent (apply number (kind.Mark op least block a) named (to c)).effect.sends (marks least block a (to c))
  entry_kept c own number (kind.Root op held a key) named ends = none_kept (fold_entry (reading name shape shard) c (number, kind.Root op held a key)).sent (apply number (kind.Root op held a key) named (to c)).effect.sends (roots held a key (to c))
  entry_kept c own number (kind.Drop op key) named ends = none_kept (fold_entry (reading name shape shard) c (number, kind.Drop op key)).sent (apply number (kind.Drop op key) named (to c)).effect.sends (drops key (to c))
  entry_kept c own number (kind.Enter op epoch) named ends =
      subst (λ (k : Catalogue). AreKept k.run.sent (enter epoch (to c)).effect.sends) (entered_alike name shape shard c own epoch) (enter_kept c epoch ends.enters)
  entry_kept c own number (kind.Got from epoch round total deltas) named ends =
      let place : Place = record { epoch = epoch; round = round; from = from } in
      let told : RoundBody = record { total = total; deltas = deltas } in
      subst (λ (k : Catalogue). AreKept k.run.sent (get_round place told (to c)).effect.sends) (got_alike name shape shard c own place told) (got_kept c place told (ends.gets place told refl))
  entry_kept c own number (kind.Base view epoch swept round frames) named ends = λ s m. elim m [ ]
  entry_kept c own number (kind.KeptBlock born mark flags count bytes) named ends = λ s m. elim m [ ]
  entry_kept c own number (kind.KeptRoot created dropped counted address key) named ends = λ s m. elim m [ ]
  entry_kept c own number (kind.KeptRound way other epoch round total deltas) named ends = λ s m. elim m [ ]
