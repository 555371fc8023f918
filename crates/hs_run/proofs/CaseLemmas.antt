-- What holds of a result or of what may be untold, by cases.
use Rattle.std.proofs.Common.{◌≡◌, true, Option, Some, None, Result, Ok, Err, refl, subst}
use Rattle.std.proofs.lemmas.Bool.{false≢true}
use Rattle.std.specs.Prelude.{IfErr, IfSome, OnErr, OnOk, is_ok}

-- ---- results

pub on_ok : {T E : Type 0} (r : Result T E) (P Q : Type 0) → OnOk r P → (P → Q) → OnOk r Q
on_ok (Ok x) P Q h f = f h
on_ok (Err e) P Q h f = tt

pub on_err : {T E : Type 0} (r : Result T E) (P Q : Type 0) → OnErr r P → (P → Q) → OnErr r Q
on_err (Ok x) P Q h f = tt
on_err (Err e) P Q h f = f h

pub an_err : {T E : Type 0} (r : Result T E) (P : Type 0) → P → OnErr r P
an_err (Ok x) P h = tt
an_err (Err e) P h = h

-- of one that came to its end
pub on_fine : {T E : Type 0} (P : Type 0) (r : Result T E) → is_ok r ≡ true → OnOk r P → P
on_fine P (Ok x) fine h = h
on_fine P (Err fault) fine h = absurd (false≢true fine)

pub if_err : {T E : Type 0} (r : Result T E) (P Q : E → Type 0) → IfErr r P → ((e : E) → P e → Q e) → IfErr r Q
if_err (Ok x) P Q h f = tt
if_err (Err e) P Q h f = f e h

-- of the fault that it is
pub err_at : {T E : Type 0} (P : E → Type 0) (r : Result T E) (e : E) → r ≡ Err e → IfErr r P → P e
err_at P r e is h = subst (λ r. IfErr r P) is h

-- ---- what may be untold

pub if_any : {X : Type 0} (P : X → Type 0) (o : Option X) → ((x : X) → o ≡ Some x → P x) → IfSome o P
if_any P None h = tt
if_any P (Some x) h = h x refl

-- from what holds of a value that is told
pub if_told : {X : Type 0} (P Q : X → Type 0) (o : Option X) → IfSome o P → ((x : X) → P x → Q x) → IfSome o Q
if_told P Q None h f = tt
if_told P Q (Some x) h f = f x h

-- and from two
pub if_both : {X : Type 0} (P Q R : X → Type 0) (o : Option X) → IfSome o P → IfSome o Q → ((x : X) → P x → Q x → R x) → IfSome o R
if_both P Q R None h k f = tt
if_both P Q R (Some x) h k f = f x h k

-- of the value that is told
pub if_at : {X : Type 0} (P : X → Type 0) (o : Option X) (x : X) → o ≡ Some x → IfSome o P → P x
if_at P o x e h = subst (λ o. IfSome o P) e h
