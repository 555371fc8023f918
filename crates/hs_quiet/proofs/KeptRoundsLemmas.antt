-- Of a core that stands each Round that is under way or kept is for the store's shards.
use Rattle.hs_events.specs.Due.{Events}
use Rattle.hs_events.specs.Course.{steps}
use Rattle.hs_core_words.specs.Step.{step}
use Rattle.std.proofs.Common.{◌≡◌, ◌∙◌, sym, ap, subst, ℕ, zero, suc, ◌*◌, ◌<◌, List, [], ◌∷◌, Some, None, arith, length, slice_get, slice_index_or, ◌++◌, refl}
use Rattle.std.proofs.lemmas.List.Elements.{All-weaker}
use Rattle.std.specs.List.{AllByRecursion}
use Rattle.std.specs.Map.{values_of}
use Rattle.hs_answered.specs.Telling.{Judging}
use Rattle.hs_core_words.specs.Looking.{catalogue_of, shape_of}
use Rattle.hs_core_words.specs.State.{Core}
use Rattle.hs_effects.specs.Taking.{setting_of}
use Rattle.hs_fold.specs.Lawful.{Deed}
use Rattle.hs_fold.specs.Runs.Facts.{Catalogue as Folded}
use Rattle.hs_fold.specs.Runs.Fits.{catalogue_at}
use Rattle.hs_memory.specs.Forget.{forget}
use Rattle.hs_model.specs.Store.{Store}
use Rattle.hs_post.specs.declared.message.Message.{Message}
use Rattle.hs_post.specs.declared.message.Message.TheVariants as message
use Rattle.hs_rounds.specs.declared.sending.SentRound.{SentRound}
use Rattle.hs_shard.specs.Facts.{Catalogue, empty_catalogue}
use Rattle.hs_sound.proofs.KeptLemmas.{Tells, history_tells}
use Rattle.hs_sound.proofs.PlaceLemmas.{here_each}
use Rattle.hs_sound.specs.Told.{TellsEachItsOwn}
use Rattle.hs_standing.proofs.SettleLemmas.{forget_at}
use Rattle.hs_standing.proofs.WasLemmas.{told_low}
use Rattle.hs_standing.specs.Legal.{IsStanding}
use Rattle.hs_standing.specs.Sent.{IsOfSent}
use Rattle.hs_quiet.specs.Settled.{HasRounds, IsToShard, HaveRounds}

-- what is so of each is so of one
all_at : {X : Type 0} (P : X → Type 0) (xs : List X) (i : ℕ) (x : X) → slice_get xs i ≡ Some x → AllByRecursion P xs → P x
all_at P [] i x e h = absurd (let wrong : None ≡ Some x = e in cc wrong)
all_at P (y ∷ xs) zero x e h = subst P (let same : y ≡ x = cc e in same) h.0
all_at P (y ∷ xs) (suc i) x e h = all_at P xs i x e h.1

module _ (by : Judging) (start : Store) (c : Core) (cs : List Folded) (k : IsStanding by start c cs) (room : 2 * (shape_of c).shards < c.pool.limit) where
  abbrev history : List Deed
  history = k.lawful.lawful.history

  there : (x : ℕ) → x < (shape_of c).shards → catalogue_of x c ≡ forget (shape_of c) x (catalogue_at cs x)
  there x low =
      ap (λ (xs : List Catalogue). slice_index_or xs x (empty_catalogue (shape_of c) x)) k.lawful.folded.catalogues
      ∙ forget_at (shape_of c) cs x (let e = k.lawful.folded.shards in omega (arith, low, e)) (empty_catalogue (shape_of c) x)

  tells : AllByRecursion (Tells (shape_of c).shards) cs
  tells = subst (λ (ds : List Folded). AllByRecursion (Tells (shape_of c).shards) ds) k.lawful.lawful.gives (history_tells (setting_of by.name c) k.lawful.lawful.history)

  bodies : (x place : ℕ) (kept : SentRound) → x < (shape_of c).shards → slice_get (catalogue_of x c).run.sent place ≡ Some kept → length kept.bodies ≡ (shape_of c).shards
  bodies x place kept low at =
      let one : TellsEachItsOwn (shape_of c).shards kept =
      all_at (TellsEachItsOwn (shape_of c).shards) (catalogue_at cs x).sent place kept (sym (ap (λ (y : Catalogue). slice_get y.run.sent place) (there x low)) ∙ at) (here_each (Tells (shape_of c).shards) cs tells tt x) in
      one.each

  low_of : (m : Message) → IsOfSent (setting_of by.name c) k.lawful.lawful.history m → IsToShard (shape_of c) m
  low_of (message.Copy shard to view number entry) w = tt
  low_of (message.Have shard from to view sealed) w = tt
  low_of (message.Round from to epoch round total deltas) w =
      told_low (setting_of by.name c) k.lawful.lawful.history to (record { epoch = epoch; round = round; from = from }) (record { total = total; deltas = deltas }) w

  pub has_rounds : HasRounds c
  has_rounds = record {
    low = All-weaker (IsOfSent (setting_of by.name c) k.lawful.lawful.history) (IsToShard (shape_of c)) low_of (values_of c.pool.messages) k.sent.messages;
    shape = λ x low. ap (λ (y : Catalogue). y.shape.shards) (there x low);
    bodies = bodies;
    room = room;
  }

-- along some events, where it stands behind each front of them
pub have_rounds : (by : Judging) (start : Store) (es : Events) (c : Core)
    → ((before after : Events) → es ≡ before ++ after → (cs : List Folded) × IsStanding by start (steps c before) cs × (2 * (shape_of (steps c before)).shards < (steps c before).pool.limit)) → HaveRounds c es
have_rounds by start [] c h = let k = h [] [] refl in has_rounds by start c k.0 k.1 k.2
have_rounds by start (e ∷ es) c h =
    let k = h [] (e ∷ es) refl in
    (has_rounds by start c k.0 k.1 k.2, have_rounds by start es (step e.0 e.1 c) (λ before after is. h (e ∷ before) after (ap (λ xs. e ∷ xs) is)))
