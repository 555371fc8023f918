-- Behind the joins the core of a book that goes on may go on, with the logs and the disks of its peers.
use Rattle.std.proofs.Common.{◌≡◌, ◌≤◌, ◌∙◌, ap, sym, subst, refl, ℕ, ◌*◌, [], ◌∷◌, None, arith}
use Rattle.hs_book.proofs.CalmLemmas.{still_calm}
use Rattle.hs_book.specs.Book.{Book}
use Rattle.hs_book.specs.Calls.{is_out_of_memory}
use Rattle.hs_book.specs.Events.{AreBookSteps}
use Rattle.hs_book.specs.History.{History, IsBook}
use Rattle.hs_cluster.proofs.StretchLemmas.{steps_shape}
use Rattle.hs_core_words.specs.State.{Core}
use Rattle.hs_core_words.specs.Step.{step}
use Rattle.hs_events.specs.Course.{steps}
use Rattle.hs_events.specs.Due.{Events}
use Rattle.hs_limits.specs.declared.shape.Shape.{Shape}
use Rattle.hs_moments.proofs.CoreLemmas.{moment_at}
use Rattle.hs_load.specs.Joined.{MayGoOn}

-- the events of a book have the moment of its core
book_moment : (es : Events) (c : Core) → AreBookSteps c es → (steps c es).moment ≡ c.moment
book_moment [] c may = refl
book_moment (e ∷ es) c may = book_moment es (step e.0 e.1 c) may.1 ∙ moment_at c e.0 e.1 may.0.going ∙ may.0.moment

pub may_go_on : (start : Core) (book : Book) (logs disks now : ℕ) → IsBook start book → logs ≡ start.members.shape.shards * start.members.shape.copies → disks ≡ start.members.shape.shards * start.members.shape.copies
    → start.moment ≤ now → book.ended ≡ None → MayGoOn book.core logs disks now
may_go_on start book logs disks now is many count later going =
    let it : History start book = is (ap is_out_of_memory going) in
    let shape : start.members.shape ≡ book.core.members.shape = sym (ap (λ (c : Core). c.members.shape) it.led ∙ steps_shape it.events start) in
    let moment : book.core.moment ≡ start.moment = ap (λ (c : Core). c.moment) it.led ∙ book_moment it.events start it.may in
    record {
      going = sym it.ended ∙ going;
      calm = still_calm start book is (ap is_out_of_memory going);
      logs = many ∙ ap (λ (s : Shape). s.shards * s.copies) shape;
      disks = count ∙ ap (λ (s : Shape). s.shards * s.copies) shape;
      moment = omega (arith, later, moment);
    }

-- so may one that is the same
pub may_there : (core other : Core) (logs disks now l d n : ℕ) → MayGoOn core logs disks now → other ≡ core → l ≡ logs → d ≡ disks → n ≡ now → MayGoOn other l d n
may_there core other logs disks now l d n may same one two three =
    subst (λ (k : Core). MayGoOn k l d n) (sym same) (subst (λ m. MayGoOn core m d n) (sym one) (subst (λ m. MayGoOn core logs m n) (sym two) (subst (λ m. MayGoOn core logs disks m) (sym three) may)))
