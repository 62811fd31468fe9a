-- What is said of a limit where a fault is handed on.
use Rattle.std.proofs.Common.{◌≡◌, ◌∙◌, Result, Ok, Err, IfErr, sym}
use Rattle.std.specs.Result.{IsErrAnd}
use Rattle.strategy_tables.specs.declared.fault.TableFault.{TableFault}
use Rattle.strategy_tables.specs.declared.fault.TableFault.TheVariants.{Limit}

pub limit_by : {V : Type 0} (r : Result V TableFault) (f : TableFault) (P : Type 0) → IsErrAnd r (λ y. y ≡ f) → (f ≡ Limit → P) → IfErr r (λ y. y ≡ Limit → P)
limit_by (Ok x) f P is then = absurd is
limit_by (Err y) f P is then = λ full. then (sym is ∙ full)

pub limit_then : {V : Type 0} (r : Result V TableFault) (P Q : Type 0) → (P → Q) → IfErr r (λ y. y ≡ Limit → P) → IfErr r (λ y. y ≡ Limit → Q)
limit_then (Ok x) P Q then is = tt
limit_then (Err y) P Q then is = λ full. then (is full)
