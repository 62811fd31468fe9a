-- The operations on whole numbers.
use Rattle.std.specs.Prelude.{ℤ, ◌+ℤ◌, ◌-ℤ◌, ◌*ℤ◌}
use Rattle.spec_model.specs.Syntax.{Formula, Sum, Difference, Product}
use Rattle.column_planes.specs.declared.numbers.Operation.{Operation}
use Rattle.column_planes.specs.declared.numbers.Operation.TheVariants as operation

abbrev pub computed : Operation → ℤ → ℤ → ℤ
computed operation.Sum a b = a +ℤ b
computed operation.Difference a b = a -ℤ b
computed operation.Product a b = a *ℤ b

-- the formula that is computed by an operation
abbrev pub computation : Operation → Formula → Formula → Formula
computation operation.Sum a b = Sum a b
computation operation.Difference a b = Difference a b
computation operation.Product a b = Product a b
