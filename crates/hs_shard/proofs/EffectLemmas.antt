-- What an effect tells of the catalogue.
use Rattle.std.proofs.Common.{◌≡◌, ℕ, zero, suc, ◌+◌, ◌==◌, ◌&&◌, ◌||◌, not, length, Bool, true, false, cond, Option, Some, None, is_none, is_some, Result, Ok, Err, List, refl, sym, ◌∙◌}
use Rattle.std.specs.Option.{option_map_or}
use Rattle.hs_desk.specs.declared.what.What.{What}
use Rattle.hs_desk.specs.declared.what.What.TheVariants.{Again, Dropped, Marked, Nothing, Refused, Rooted, Stored}
use Rattle.hs_entry.specs.declared.entry.Entry.{Entry}
use Rattle.hs_entry.specs.declared.entry.Entry.TheVariants as kind
use Rattle.hs_limits.specs.declared.address.Address.{Address}
use Rattle.hs_limits.specs.declared.spelling.SpellingFault.{SpellingFault}
use Rattle.hs_limits.specs.Block.{Block}
use Rattle.hs_limits.specs.Reading.{read_block}
use Rattle.hs_limits.specs.Shape.{shard_of_key}
use Rattle.hs_roots.specs.Roots.{retained_of}
use Rattle.hs_roots.specs.Roots.{put_root as with_root, drop_root as without_root}
use Rattle.hs_rounds.specs.declared.body.RoundBody.{RoundBody}
use Rattle.hs_rounds.specs.declared.place.Place.{Place}
use Rattle.hs_rounds.specs.Rounds.{complete, is_last}
use Rattle.hs_shard.specs.Apply.{apply, named_as}
use Rattle.hs_shard.specs.Clients.{Applied, change_at, drop_root, give, mark_block, new_facts, only, put_root, root_refusal, store_block, with_block}
use Rattle.hs_shard.specs.Facts.{Catalogue, facts_at, has_room, is_fresh, is_mine}
use Rattle.hs_shard.specs.Rounds.{advance, advanced, end_open, enter, entered, get_round, is_accepted, log_got, may_enter, searched, settled, swept}

-- where an entry did nothing that changes the catalogue
abbrev pub Leaves : Catalogue → Applied → Type 0
Leaves c a = (a.effect.what ≡ Refused → a.catalogue ≡ c) × (a.effect.what ≡ Again → a.catalogue ≡ c) × (a.effect.removed ≡ None → a.catalogue.swept ≡ c.swept)

unchanged : (c : Catalogue) (what : What) → Leaves c (only what c)
unchanged c what = ((λ e. refl), (λ e. refl), (λ e. refl))

-- ---- clients

stores : (number least : ℕ) (a : Address) (read : Result Block SpellingFault) (c : Catalogue) → Leaves c (store_block number least a read c)
stores number least a (Err fault) c = unchanged c Nothing
stores number least a (Ok block) c = go (not (is_mine a c) || is_some (facts_at a c)) (not (is_fresh least c && has_room c))
  where
    go : (b r : Bool) → Leaves c (cond b (only Nothing c) (cond r (only Refused c) (only Stored (with_block a (new_facts number c.epoch block.pointers) c))))
    go true r = unchanged c Nothing
    go false true = unchanged c Refused
    go false false = ((λ e. cc e), (λ e. cc e), (λ e. refl))

marks : (least number : ℕ) (a : Address) (c : Catalogue) → Leaves c (mark_block least number a c)
marks least number a c = go (not (option_map_or (λ f. f.number == number) (facts_at a c) false)) (not (is_fresh least c))
  where
    go : (b r : Bool) → Leaves c (cond b (only Again c) (cond r (only Refused c) (only Marked (record c { blocks = change_at a (give c.epoch) c.blocks }))))
    go true r = unchanged c Again
    go false true = unchanged c Refused
    go false false = ((λ e. cc e), (λ e. cc e), (λ e. refl))

roots : (held : ℕ) (a : Address) (key : List ℕ) (c : Catalogue) → Leaves c (put_root held a key c)
roots held a key c = go (not (shard_of_key c.shape.shards key == c.shard)) (not (is_fresh held c) || is_some (root_refusal a key c))
  where
    go : (b r : Bool) → Leaves c (cond b (only Nothing c) (cond r (only Refused c) (only Rooted (record c { roots = with_root key a c.epoch c.roots }))))
    go true r = unchanged c Nothing
    go false true = unchanged c Refused
    go false false = ((λ e. cc e), (λ e. cc e), (λ e. refl))

drops : (key : List ℕ) (c : Catalogue) → Leaves c (drop_root key c)
drops key c = go (is_none (retained_of key c.roots))
  where
    go : (b : Bool) → Leaves c (cond b (only Refused c) (only Dropped (record c { roots = without_root key c.epoch c.roots })))
    go true = unchanged c Refused
    go false = ((λ e. cc e), (λ e. cc e), (λ e. refl))

-- ---- rounds

-- a step keeps what was said, and where it tells no removal, none was told and nothing was swept
abbrev Keeps : Applied → Applied → Type 0
Keeps a b = (b.effect.what ≡ a.effect.what) × (b.effect.removed ≡ None → (a.effect.removed ≡ None) × (b.catalogue.swept ≡ a.catalogue.swept))

end_keeps : (o : Option (ℕ × ℕ)) (a : Applied) → Keeps a (end_open o a)
end_keeps None a = (refl, (λ e. (e, refl)))
end_keeps (Some at) a = go (is_last a.catalogue.run)
  where
    go : (b : Bool) → Keeps a (cond b (swept at.0 a.effect (settled at.1 a.catalogue)) (searched at.0 at.1 a.effect (settled at.1 a.catalogue)))
    go true = (refl, (λ e. cc e))
    go false = (refl, (λ e. (e, refl)))

advance_keeps : (turns : ℕ) (a : Applied) → Keeps a (advance turns a)
advance_keeps zero a = (refl, (λ e. (e, refl)))
advance_keeps (suc turns) a = go (end_keeps a.catalogue.run.opened a) (advance_keeps turns (end_open a.catalogue.run.opened a)) (complete a.catalogue.run)
  where
    go : Keeps a (end_open a.catalogue.run.opened a) → Keeps (end_open a.catalogue.run.opened a) (advance turns (end_open a.catalogue.run.opened a)) → (b : Bool) → Keeps a (cond b (advance turns (end_open a.catalogue.run.opened a)) a)
    go one more true = (more.0 ∙ one.0, (λ e. let then = more.1 e in let first = one.1 then.0 in (first.0, then.1 ∙ first.1)))
    go one more false = (refl, (λ e. (e, refl)))

enters : (epoch : ℕ) (c : Catalogue) → Leaves c (enter epoch c)
enters epoch c = go (may_enter epoch c) (advance_keeps (length (entered epoch c).catalogue.run.gots + 1) (entered epoch c))
  where
    go : (b : Bool) → Keeps (entered epoch c) (advanced (entered epoch c)) → Leaves c (cond b (advanced (entered epoch c)) (only Refused c))
    go true keeps = ((λ e. let no = sym keeps.0 ∙ e in cc no), (λ e. let no = sym keeps.0 ∙ e in cc no), (λ e. (keeps.1 e).1))
    go false keeps = unchanged c Refused

gets : (place : Place) (told : RoundBody) (c : Catalogue) → Leaves c (get_round place told c)
gets place told c = go (is_accepted place c) (advance_keeps (length (log_got place told c).run.gots + 1) (only Nothing (log_got place told c)))
  where
    go : (b : Bool) → Keeps (only Nothing (log_got place told c)) (advanced (only Nothing (log_got place told c))) → Leaves c (cond b (advanced (only Nothing (log_got place told c))) (only Nothing c))
    go true keeps = ((λ e. let no = sym keeps.0 ∙ e in cc no), (λ e. let no = sym keeps.0 ∙ e in cc no), (λ e. (keeps.1 e).1))
    go false keeps = unchanged c Nothing

-- ---- entries of all kinds

pub entry_leaves : (number : ℕ) (entry : Entry) (named : Option Address) (c : Catalogue) → Leaves c (apply number entry named c)
entry_leaves number (kind.View view) named c = ((λ e. cc e), (λ e. cc e), (λ e. refl))
entry_leaves number (kind.Block op least bytes) named c = stores number least (named_as named) (read_block bytes) c
entry_leaves number (kind.Mark op least block address) named c = marks least block address c
entry_leaves number (kind.Root op held address key) named c = roots held address key c
entry_leaves number (kind.Drop op key) named c = drops key c
entry_leaves number (kind.Enter op epoch) named c = enters epoch c
entry_leaves number (kind.Got sender epoch round total deltas) named c = gets (record { epoch = epoch; round = round; from = sender }) (record { total = total; deltas = deltas }) c
entry_leaves number (kind.Base view epoch swept round frames) named c = unchanged c Nothing
entry_leaves number (kind.KeptBlock born mark flags count bytes) named c = unchanged c Nothing
entry_leaves number (kind.KeptRoot created dropped counted address key) named c = unchanged c Nothing
entry_leaves number (kind.KeptRound way other epoch round total deltas) named c = unchanged c Nothing
