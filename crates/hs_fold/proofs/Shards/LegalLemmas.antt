-- What happens by entries so far is changes alone, which are always legal.
use Rattle.std.proofs.Common.{ℕ, ◌+◌, ◌==◌, ◌&&◌, List, [], ◌∷◌, ◌++◌, Bool, true, false, cond, Option, Some, None, is_none, Result, Ok, Err}
use Rattle.hs_limits.specs.declared.address.Address.{Address}
use Rattle.hs_limits.specs.declared.spelling.SpellingFault.{SpellingFault}
use Rattle.hs_limits.specs.Block.{Block}
use Rattle.hs_limits.specs.Reading.{read_block}
use Rattle.hs_limits.specs.Shape.{shard_of, shard_of_key}
use Rattle.hs_model.specs.Store.{Store}
use Rattle.hs_entry.specs.declared.entry.Entry.{Entry}
use Rattle.hs_entry.specs.declared.entry.Entry.TheVariants as kind
use Rattle.hs_fold.specs.Catalogue.{Present, Shard}
use Rattle.hs_fold.specs.Shards.Catalogue.{Catalogue, present_at, apply, catalogue_of}
use Rattle.hs_fold.specs.Shards.Change.{Change, stores, gives, keeps, drops}
use Rattle.hs_fold.specs.Shards.Happening.{Happening, changes, enters, sweeps, happen, AreLegal, block_happens, mark_happens, happening_of, and_then, happens, happenings}
use Rattle.hs_fold.specs.Shards.Parted.{Parted, behind_happenings}
use Rattle.hs_fold.specs.Shards.Setting.{Numbered, Setting, shard_in}

abbrev pub IsChange : Happening → Type 0
IsChange (changes one) = Unit {0}
IsChange (enters shard) = ⊥
IsChange (sweeps shard) = ⊥

abbrev pub MayBeChange : Option Happening → Type 0
MayBeChange None = Unit {0}
MayBeChange (Some one) = IsChange one

abbrev pub AllChanges : List Happening → Type 0
AllChanges [] = Unit {0}
AllChanges (one ∷ rest) = IsChange one × AllChanges rest

if-change : (b : Bool) (one : Change) → MayBeChange (cond b (Some (changes one)) None)
if-change true one = tt
if-change false one = tt

block-changes : (at : Shard) (c : Catalogue) (least : ℕ) (a : Address) (read : Result Block SpellingFault) → MayBeChange (block_happens at c least a read)
block-changes at c least a (Err fault) = tt
block-changes at c least a (Ok block) = if-change (shard_of at.shards a == at.shard && is_none (present_at c a)) (stores least a block)

mark-changes : (found : Option Present) (least number : ℕ) (a : Address) → MayBeChange (mark_happens found least number a)
mark-changes None least number a = tt
mark-changes (Some kept) least number a = if-change (kept.number == number) (gives least a)

pub one-changes : (at : Shard) (c : Catalogue) (entry : Entry) → MayBeChange (happening_of at c entry)
one-changes at c (kind.View view) = tt
one-changes at c (kind.Block op least bytes) = block-changes at c least (at.name bytes) (read_block bytes)
one-changes at c (kind.Mark op least block a) = mark-changes (present_at c a) least block a
one-changes at c (kind.Root op held a key) = if-change (shard_of_key at.shards key == at.shard) (keeps held a key)
one-changes at c (kind.Drop op key) = if-change (shard_of_key at.shards key == at.shard) (drops key)
one-changes at c (kind.Enter op epoch) = tt
one-changes at c (kind.Got sender epoch round total deltas) = tt
one-changes at c (kind.Base view epoch swept round frames) = tt
one-changes at c (kind.KeptBlock born mark flags count bytes) = tt
one-changes at c (kind.KeptRoot created dropped counted address key) = tt
one-changes at c (kind.KeptRound way other epoch round total deltas) = tt

then-changes : (one : Option Happening) (rest : List Happening) → MayBeChange one → AllChanges rest → AllChanges (and_then one rest)
then-changes None rest h k = k
then-changes (Some one) rest h k = (h, k)

list-changes : (at : Shard) (c : Catalogue) (es : Numbered) → AllChanges (happenings (happens at c es))
list-changes at c [] = tt
list-changes at c (e ∷ es) = then-changes (happening_of at c e.1) (happenings (happens at (apply at c e) es)) (one-changes at c e.1) (list-changes at (apply at c e) es)

append-changes : (xs ys : List Happening) → AllChanges xs → AllChanges ys → AllChanges (xs ++ ys)
append-changes [] ys h k = k
append-changes (x ∷ xs) ys h k = (h.0, append-changes xs ys h.1 k)

pub behind-changes : (set : Setting) (g : ℕ) (lists : List Parted) → AllChanges (behind_happenings set g lists)
behind-changes set g [] = tt
behind-changes set g (x ∷ lists) = append-changes (happenings (happens (shard_in set g) (catalogue_of (shard_in set g) x.done) x.back)) (behind_happenings set (g + 1) lists)
    (list-changes (shard_in set g) (catalogue_of (shard_in set g) x.done) x.back) (behind-changes set (g + 1) lists)

changes-legal : (s : Store) (hs : List Happening) → AllChanges hs → AreLegal s hs
changes-legal s [] h = tt
changes-legal s (changes one ∷ rest) h = (tt, changes-legal (happen s (changes one)) rest h.1)
changes-legal s (enters shard ∷ rest) h = absurd h.0
changes-legal s (sweeps shard ∷ rest) h = absurd h.0

pub behind-legal : (s : Store) (set : Setting) (lists : List Parted) → AreLegal s (behind_happenings set 0 lists)
behind-legal s set lists = changes-legal s (behind_happenings set 0 lists) (behind-changes set 0 lists)
