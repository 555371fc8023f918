-- What holds of an outcome, said in another way.
use Rattle.std.specs.Prelude.{IfOk, Ok, Err, Result}

pub if_ok_map : {T E : Type 0} (r : Result T E) (P Q : T → Type 0) → ((x : T) → P x → Q x) → IfOk r P → IfOk r Q
if_ok_map (Ok x) P Q f h = f x h
if_ok_map (Err e) P Q f h = h
