-- Lists of trees that are the same have the same length.
use Rattle.std.proofs.Common.{◌≡◌, ◌≢◌, suc, false, List, [], ◌∷◌, map, length, refl, sym, ap}
use Rattle.std.proofs.Math.Bool.{and-false}
use Rattle.spec_model.specs.declared.expr.Expr.{Expr}
use Rattle.spec_model.specs.Views.{formula}
use Rattle.spec_model.specs.Sizes.{same_formula, same_formulas}
use Rattle.spec_model.specs.Syntax.{formulas}

pub lengths_differ : (xs ys : List Expr) → length xs ≢ length ys → false ≡ same_formulas (formulas (map formula xs)) (formulas (map formula ys))
lengths_differ [] [] other = absurd (other refl)
lengths_differ [] (y ∷ ys) other = refl
lengths_differ (x ∷ xs) [] other = refl
lengths_differ (x ∷ xs) (y ∷ ys) other =
    rw (← lengths_differ xs ys (λ e. other (ap suc e))) (sym (and-false (same_formula (formula x) (formula y))))
