-- What the exit of a `?` and a last call return.
use Rattle.std.proofs.Common.{◌≡◌, Result, Ok, Err, sym, subst, IfErr, IsErrAnd, OnOk, OnErr}
use Rattle.regions.specs.declared.types.Halt.{Halt}

pub err_told : {T : Type 0} (r : Result T Halt) (P : Halt → Type 0) (halt : Halt) → IsErrAnd r (λ y. y ≡ halt) → P halt → IfErr r P
err_told (Ok x) P halt is told = absurd is
err_told (Err y) P halt is told = subst P (sym is) told

pub on_ok_as : {T E P Q : Type 0} (r : Result T E) → (P → Q) → OnOk r P → OnOk r Q
on_ok_as (Ok x) f is = f is
on_ok_as (Err y) f is = tt

pub on_err_as : {T E P Q : Type 0} (r : Result T E) → (P → Q) → OnErr r P → OnErr r Q
on_err_as (Ok x) f is = tt
on_err_as (Err y) f is = f is
