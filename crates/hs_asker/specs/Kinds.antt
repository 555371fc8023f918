-- Which replies an operation of a kind may be told.
use Rattle.std.specs.Prelude.{ℕ, Bool, ◌==◌, ◌||◌, List, [], ◌∷◌}
use Rattle.std.specs.List.{list_any}
use Rattle.hs_asking.specs.Telling.{is_bytes, is_held, is_name, is_ok, is_run, is_stat, is_written, refusal_number}
use Rattle.hs_asker.specs.declared.kinds.Kind.{Kind}
use Rattle.hs_asker.specs.declared.kinds.Kind.TheVariants as kind
use Rattle.hs_model.specs.declared.op.Op.{Op}
use Rattle.hs_model.specs.declared.op.Op.TheVariants as op
use Rattle.hs_model.specs.declared.reply.Reply.{Reply}

abbrev pub kind_of : Op → Kind
kind_of (op.Open name) = kind.Open
kind_of (op.Close name) = kind.Close
kind_of (op.Write name payload handles address) = kind.Write
kind_of (op.Read name handle) = kind.Read
kind_of (op.Look name key) = kind.Look
kind_of (op.Root name key handle) = kind.Root
kind_of (op.Drop key) = kind.Drop
kind_of (op.Forget name handle) = kind.Forget
kind_of (op.Name name handle) = kind.Name
kind_of op.Delete = kind.Delete
kind_of op.Stat = kind.Stat

abbrev pub kind_grants : Kind → Reply → Bool
kind_grants kind.Open told = is_ok told
kind_grants kind.Close told = is_ok told
kind_grants kind.Write told = is_written told
kind_grants kind.Read told = is_bytes told
kind_grants kind.Look told = is_held told
kind_grants kind.Root told = is_ok told
kind_grants kind.Drop told = is_ok told
kind_grants kind.Forget told = is_ok told
kind_grants kind.Name told = is_name told
kind_grants kind.Delete told = is_run told
kind_grants kind.Stat told = is_stat told

abbrev pub kind_refusals : Kind → List ℕ
kind_refusals kind.Open = 2 ∷ 3 ∷ []
kind_refusals kind.Close = 1 ∷ []
kind_refusals kind.Write = 1 ∷ 5 ∷ 6 ∷ 7 ∷ 8 ∷ 9 ∷ 10 ∷ 11 ∷ []
kind_refusals kind.Read = 1 ∷ 7 ∷ 9 ∷ 8 ∷ []
kind_refusals kind.Look = 1 ∷ 8 ∷ 13 ∷ []
kind_refusals kind.Root = 1 ∷ 7 ∷ 9 ∷ 12 ∷ 14 ∷ []
kind_refusals kind.Drop = 13 ∷ []
kind_refusals kind.Forget = 1 ∷ 7 ∷ []
kind_refusals kind.Name = 1 ∷ 7 ∷ []
kind_refusals kind.Delete = 15 ∷ 16 ∷ []
kind_refusals kind.Stat = []

abbrev pub kind_may : Kind → Reply → Bool
kind_may k told = kind_grants k told || list_any (λ n. n == refusal_number told) (kind_refusals k)
