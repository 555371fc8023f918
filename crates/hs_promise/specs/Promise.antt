-- All that is promised of a run of a script, in the words of the plain store.
use Rattle.std.specs.Prelude.{IfSome, [], length, ℕ, ◌≡◌}
use Rattle.hs_script.specs.Reading.{commands}
use Rattle.hs_promise.specs.Answers.{Answers, Prints}
use Rattle.hs_promise.specs.Calm.{EndsCalm}
use Rattle.hs_promise.specs.Causes.{Cause, FullCause}
use Rattle.hs_promise.specs.Completes.{EndsWell, FullBeyond, HasPrompt, MayEndWell, SettlesEach}
use Rattle.hs_promise.specs.Deletes.{Deletes}
use Rattle.hs_promise.specs.Ends.{Ends}
use Rattle.hs_promise.specs.Entry.{IsSoundAtEntry, MayStop, entry_store}
use Rattle.hs_promise.specs.Kept.{KeepsAlong}
use Rattle.hs_promise.specs.Lost.{NotesCause}
use Rattle.hs_promise.specs.Run.{IsNoLoad, Ran, Script}
use Rattle.hs_promise.specs.Shapes.{ShapeCause}
use Rattle.hs_promise.specs.Stops.{Stops}
use Rattle.hs_promise.specs.declared.status.Status.TheVariants as status
use Rattle.hs_ports.specs.Objects.{CountsStand, KeepsPast, KeepsTime}

-- answers, what is kept, deletion, and what a settle and a run come to: from the store at entry, where the disks are sound
pub record Clauses (S : Script) (r : Ran) : Type 0 where
  pub answers : Answers S (entry_store S r) r.journal
  pub full : FullCause S (entry_store S r) r
  pub keeps : KeepsAlong S (entry_store S r) r
  pub deletes : Deletes S (entry_store S r) r
  pub settles : SettlesEach S (entry_store S r) r
  pub room : FullBeyond S r
  pub ends : IfSome r.old.left (λ script. MayEndWell S script r → EndsWell S r)

-- over disks that tell their contents
pub record WhereTold (S : Script) (r : Ran) : Type 0 where
  pub clauses : IsSoundAtEntry S r → Clauses S r
  pub stops : MayStop S r → Stops S (entry_store S r) r
  pub past : KeepsPast r.old r.new
  pub shape : ShapeCause S r
  pub notes : NotesCause S r

-- the commands are the script's, where the source tells it
abbrev pub AreOfScript : Script → Ran → Type 0
AreOfScript S r = IfSome r.old.left (λ script. (n : ℕ) → S.commands n ≡ commands script n)

-- all of it: what stands whatever the objects tell, and what stands where they do
pub record Promise (tells : Type 0) (S : Script) (r : Ran) : Type 0 where
  pub script : AreOfScript S r
  pub handed_back : length r.new.disks ≡ length r.old.disks
  pub prints : Prints S r
  pub prompt : (line : ℕ) → HasPrompt S r line
  pub time : KeepsTime r.old r.new
  pub counts : CountsStand r.old r.new
  pub no_load : IsNoLoad r
  pub cause : Cause S r r.ending
  pub calm : EndsCalm S r
  pub ends : IfSome r.old.left (λ script. IfSome r.new.left (Ends r script))
  pub told : tells → WhereTold S r

-- a faulty command line: nothing was read, answered or put, and nothing changed
pub record IsUsage (r : Ran) : Type 0 where
  pub ending : r.ending ≡ status.Usage
  pub same : r.new ≡ r.old
  pub journal : r.journal ≡ []
  pub no_load : IsNoLoad r
  pub refused : r.refused ≡ []
  pub course : r.course ≡ []
  pub line : r.line ≡ 0
