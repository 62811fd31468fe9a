-- What a separation says of a specification.
use Rattle.spec_model.specs.Syntax.{Specification}
use Rattle.spec_model.specs.Cores.{forced}
use Rattle.solve.specs.declared.separation.Separation.{Separation}
use Rattle.solve.specs.declared.separation.Separation.TheVariants.{Separated, Forced}
use Rattle.solve.specs.Winners.{IsWonBySystem, IsWonByEnvironment}

-- who wins with the one guarantee that can never be met, and with which numbers
abbrev pub IsSeparationOf : Specification → Separation → Type 0
IsSeparationOf s (Separated n m) = IsWonByEnvironment (forced s) n m
IsSeparationOf s (Forced k) = IsWonBySystem (forced s) k
