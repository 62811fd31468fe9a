-- A fault that `?` hands on is the one that it was given.
use Rattle.std.proofs.Common.{◌≡◌, sym, ap, ◌∙◌}
use Rattle.std.specs.Prelude.{Result, Ok, Err, IsErrOf, IsErrAnd}
use Rattle.std.proofs.lemmas.Result.{err_from_is_err_and}
use Rattle.pattern_rows.specs.declared.fault.RowFault.{RowFault}
use Rattle.pattern_rows.specs.declared.fault.RowFault.TheVariants.{Memory}

abbrev fault_in : {T : Type 0} → Result T RowFault → RowFault
fault_in (Ok x) = Memory
fault_in (Err e) = e

pub handed_on : {T U : Type 0} (r : Result T RowFault) (e f : RowFault) → IsErrAnd r (λ y. y ≡ e) → IsErrOf r f → IsErrOf {T = U} {E = RowFault} (Err e) f
handed_on r e f made is = let p = err_from_is_err_and r made in let same : p.0 ≡ f = ap fault_in (sym p.1 ∙ is) in ap Err (sym p.2 ∙ same)
