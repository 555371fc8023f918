-- A core that opens is in turn.
use Rattle.std.proofs.Common.{◌≡◌, ℕ, [], Option, Some, None, refl, ap, ◌∙◌, arith}
use Rattle.hs_core_words.specs.Opening.{Taken, begin_views, new_core, note_down, open_core}
use Rattle.hs_core_words.specs.State.{Core}
use Rattle.hs_journal.specs.declared.entry.JournalEntry.{JournalEntry}
use Rattle.hs_journal.specs.Events.{client_op}
use Rattle.hs_journal.specs.Order.{IsAt, IsOfLine, IsOrdered}
use Rattle.hs_limits.specs.declared.limits.Limits.{Limits}
use Rattle.hs_limits.specs.declared.shape.Shape.{Shape}
use Rattle.hs_model.specs.declared.command.Command.{Command}
use Rattle.hs_model.specs.declared.op.Op.{Op}
use Rattle.hs_told.proofs.DuringLemmas.{During, stirs}
use Rattle.hs_told.proofs.OrderLemmas.{ended}
use Rattle.hs_told.proofs.StirLemmas.{stays_open}
use Rattle.hs_told.specs.InTurn.{IsInTurn}
use Rattle.hs_told.specs.Part.{asking, part_of}
use Rattle.hs_told.specs.Turns.{Turns}

pub nothing_at : (i : ℕ) (e : JournalEntry) → IsAt [] i e → ⊥
nothing_at i e at = cc at

pub no_line : (i n : ℕ) → IsOfLine [] i n → ⊥
no_line i n x = nothing_at i x.entry x.at

pub nothing_told : (commands : ℕ → Option Command) → IsOrdered commands []
nothing_told commands = record {
  named = λ i n x. absurd (no_line i n x);
  once = λ i j n x y. absurd (no_line i n x);
  alone = λ i k session x s d l m v w. absurd (no_line i k x);
  busy = λ i k session f a h s d l v. absurd (nothing_at i f a);
  only_busy = λ i k l f a h b. absurd (nothing_at i f a);
  prompt = λ i j k m x p y lt. absurd (no_line i k x);
  prompt_busy = λ i j k m l f a h b y lt. absurd (nothing_at i f a);
  moments = λ i j f g a b le. absurd (nothing_at i f a);
}

nobody : (n : ℕ) (o : Op) → asking [] n ≡ Some o → ⊥
nobody n o h = cc h

first_turns : (commands : ℕ → Option Command) (moment : ℕ) → client_op (commands 0) ≡ None → Turns commands 1 moment [] (asking [])
first_turns commands moment none = record {
  ordered = nothing_told commands;
  begun = λ i n x. absurd (no_line i n x);
  until = λ i e a. absurd (nothing_at i e a);
  below = λ n o h. absurd (nobody n o h);
  unanswered = λ n o h i x. nobody n o h;
  each = λ k o low h. absurd (let e : k ≡ 0 = omega (arith, low) in let f : client_op (commands k) ≡ None = ap (λ n. client_op (commands n)) e ∙ none in cc (f, h));
  asked = λ n o h. absurd (nobody n o h);
  alone = λ m n o p name h i s t. absurd (nobody m o h);
}

pub opened_turn : (commands : ℕ → Option Command) (shape : Shape) (limits : Limits) (taken : Taken) (moment : ℕ) → client_op (commands 0) ≡ None → IsInTurn commands (open_core shape limits taken moment)
opened_turn commands shape limits taken moment none = ended commands 0 (note_down (begin_views core)) noted
  where
    core : Core
    core = new_core shape limits taken moment

    new : During commands 1 0 (part_of core)
    new = record {
      turns = first_turns commands moment none;
      journal = nothing_told commands;
      apart = tt;
      opened = λ n o name h s. absurd (nobody n o h);
      clean = refl;
      at = refl;
    }

    noted : During commands 1 0 (part_of (note_down (begin_views core)))
    noted = stays_open (stirs commands 1 0) core new
