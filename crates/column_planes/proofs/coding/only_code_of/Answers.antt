use Rattle.std.proofs.Common.{◌≡◌, ◌==◌, ℕ, IfSome, sym, subst, arith}
use Rattle.spec_model.specs.Values.{same_value}
use Rattle.column_planes.specs.Columns.{value_of_code}
use Rattle.column_planes.proofs.Coded.{domain_of-variable}
use Rattle.column_planes.proofs.coding.only_code_of.Goals as goal

pub returns : goal.returns
returns c =
    let same = domain_of-variable c.args.vars.now c.args.k c.index-vars-k.result (omega (arith, c.if-vars-k.false)) in
    subst (λ d. IfSome c.only_code.result (λ code. (n : ℕ) → (n == code) ≡ same_value (value_of_code d n) c.args.value)) (sym same) c.only_code.ensures
