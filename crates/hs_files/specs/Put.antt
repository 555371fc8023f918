-- What is put of a file.
use Rattle.std.specs.Prelude.{List, Option, ℕ, ◌≡◌}
use Rattle.hs_ports.specs.Fault.{HasRisen}
use Rattle.hs_ports.specs.Putting.{PutsFront}
use Rattle.hs_ports.specs.Sink.{bytes_of, followed}
use Rattle.hs_promise.specs.declared.status.Status.{Status}
use Rattle.hs_promise.specs.declared.status.Status.TheVariants as status

-- all of it, or a front where the count of the sink rose, and how that ends
pub data IsPutAs (file : List ℕ) (got got' : Option (List (ℕ × ℕ))) (faults faults' : ℕ) (ending : Status) : Type 0 where
  Whole : bytes_of got' ≡ followed (bytes_of got) file → ending ≡ status.Done → IsPutAs file got got' faults faults' ending
  Front : PutsFront (bytes_of got) file (bytes_of got') → HasRisen faults faults' → ending ≡ status.WriteFault → IsPutAs file got got' faults faults' ending
