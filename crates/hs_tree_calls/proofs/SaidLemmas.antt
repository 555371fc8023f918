-- One more operation, and its answer.
use Rattle.std.proofs.Common.{◌≡◌, ℕ, ◌+◌, ◌<◌, ◌≤◌, List, [], ◌∷◌, ◌++◌, zero, suc, IsSome, Some, refl, sym, ap, subst, ◌∙◌, append-nil, arith, length, Result, Ok, Err, IfOk, OnErr}
use Rattle.std.specs.List.{AllByRecursion}
use Rattle.hs_asking.specs.Asked.{HasAsked, HasBegun, IsOfAnother}
use Rattle.hs_asking.specs.Telling.{MayBeTold}
use Rattle.hs_desk.specs.declared.fault.CoreFault.{CoreFault}
use Rattle.hs_journal.specs.Events.{client_op}
use Rattle.hs_journal.specs.declared.entry.JournalEntry.{JournalEntry}
use Rattle.hs_journal.specs.declared.entry.Who.TheVariants as who
use Rattle.hs_model.specs.declared.op.Op.{Op}
use Rattle.hs_model.specs.declared.reply.Reply.{Reply}
use Rattle.hs_tree_calls.specs.Said.{Asking, command_at, entries_from, entry_of, shows_of}

entries-last : (n : ℕ) (told : List Reply) (r : Reply) → entries_from n (told ++ r ∷ []) ≡ entries_from n told ++ entry_of (n + length told) r ∷ []
entries-last n [] r = ap (λ z. entry_of z r ∷ []) (let e : n ≡ n + 0 = omega arith in e)
entries-last n (t ∷ told) r =
    let next : n + 1 + length told ≡ n + length (t ∷ told) = omega arith in
    ap (λ z. entry_of n t ∷ z) (entries-last (n + 1) told r ∙ ap (λ z. entries_from (n + 1) told ++ entry_of z r ∷ []) next)

line_is : (m n : ℕ) → who.Line m ≡ who.Line n → m ≡ n
line_is m n e = cc e

entries_other : (n line : ℕ) (told : List Reply) → n + length told ≤ line → AllByRecursion (IsOfAnother line) (entries_from n told)
entries_other n line [] h = tt
entries_other n line (t ∷ told) h = (λ e. let k : n ≡ line = line_is n line e in omega (arith, h, k), entries_other (n + 1) line told (omega (arith, h)))

command-last : (ops : List Op) (o : Op) → client_op (command_at (ops ++ o ∷ []) (length ops)) ≡ Some o
command-last [] o = refl
command-last (p ∷ ops) o = command-last ops o

command-other : (ops : List Op) (o : Op) (n : ℕ) → (n ≡ length ops → ⊥) → client_op (command_at (ops ++ o ∷ []) n) ≡ client_op (command_at ops n)
command-other [] o zero h = absurd (h refl)
command-other [] o (suc n) h = refl
command-other (p ∷ ops) o zero h = refl
command-other (p ∷ ops) o (suc n) h = command-other ops o n (λ e. h (ap (λ z. suc z) e))

pub asks_one : (a b : Asking) (o : Op) (r : Reply) → b.asked ≡ a.asked ++ o ∷ [] → b.told ≡ a.told ++ r ∷ [] → length a.told ≡ length a.asked → MayBeTold o r → HasAsked (shows_of a) (shows_of b) o r
asks_one a b o r asked told same may =
    let line : ℕ = length a.asked in
    let counted : 0 + length a.told ≡ line = omega (arith, same) in
    record {
      line = line;
      front = [];
      entry = entry_of line r;
      back = [];
      journal = ap (λ z. entries_from 0 z) told ∙ (entries-last 0 a.told r ∙ ap (λ z. entries_from 0 a.told ++ entry_of z r ∷ []) counted);
      before = tt;
      behind = tt;
      of_line = refl;
      unused = entries_other 0 line a.told (omega (arith, same));
      asks = ap (λ z. client_op (command_at z line)) asked ∙ command-last a.asked o;
      others = λ other h. ap (λ z. client_op (command_at z other)) asked ∙ command-other a.asked o other h;
      answer = refl;
      may = may;
    }

pub asks_ok : (r : Result Reply CoreFault) (a b : Asking) (o : Op) → b.asked ≡ a.asked ++ o ∷ [] → IfOk r (λ x. b.told ≡ a.told ++ x ∷ []) → length a.told ≡ length a.asked → IfOk r (λ x. MayBeTold o x) → IfOk r (λ x. HasAsked (shows_of a) (shows_of b) o x)
asks_ok (Ok x) a b o asked told same may = asks_one a b o x asked told same may
asks_ok (Err e) a b o asked told same may = tt

-- ---- whether it was answered or not

command-within : (ops : List Op) (n : ℕ) → IsSome (client_op (command_at ops n)) → n < length ops
command-within [] n some = absurd (cc some)
command-within (p ∷ ops) zero some = omega arith
command-within (p ∷ ops) (suc n) some = let low = command-within ops n some in omega (arith, low)

begins : (r : Result Reply CoreFault) (a b : Asking) (o : Op) → b.asked ≡ a.asked ++ o ∷ [] → IfOk r (λ x. b.told ≡ a.told ++ x ∷ []) → OnErr r (b.told ≡ a.told) → length a.told ≡ length a.asked → HasBegun (shows_of a) (shows_of b) o
begins r a b o asked told kept same = record {
  line = length a.asked;
  more = (more_of r told kept).0;
  above = λ n some. command-within a.asked n some;
  journal = (more_of r told kept).1;
  unused = entries_other 0 (length a.asked) a.told (omega (arith, same));
  asks = ap (λ z. client_op (command_at z (length a.asked))) asked ∙ command-last a.asked o;
  others = λ other h. ap (λ z. client_op (command_at z other)) asked ∙ command-other a.asked o other h;
}
  where
    more_of : (r : Result Reply CoreFault) → IfOk r (λ x. b.told ≡ a.told ++ x ∷ []) → OnErr r (b.told ≡ a.told) → (more : List JournalEntry) × (entries_from 0 b.told ≡ entries_from 0 a.told ++ more)
    more_of (Ok x) told kept = (entry_of (0 + length a.told) x ∷ [], ap (λ z. entries_from 0 z) told ∙ entries-last 0 a.told x)
    more_of (Err e) told kept = ([], ap (λ z. entries_from 0 z) kept ∙ sym (append-nil (entries_from 0 a.told)))

-- the same, of what an asker tells before
pub begun_so : (r : Result Reply CoreFault) (v a b : Asking) (o : Op) → a ≡ v → b.asked ≡ a.asked ++ o ∷ [] → IfOk r (λ x. b.told ≡ a.told ++ x ∷ []) → OnErr r (b.told ≡ a.told) → length a.told ≡ length a.asked → HasBegun (shows_of v) (shows_of b) o
begun_so r v a b o e asked told kept same = subst (λ z. HasBegun (shows_of z) (shows_of b) o) e (begins r a b o asked told kept same)
