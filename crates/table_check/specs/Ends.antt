-- How a check ends, and what a table claims.
use Rattle.std.specs.Prelude.{nat_lt, if◌then◌else◌, length, Option, Some, None}
use Rattle.spec_model.specs.Syntax.{Specification}
use Rattle.spec_model.specs.Moves.{rules_of}
use Rattle.spec_model.specs.Realizable.{IsRealizable}
use Rattle.spec_model.specs.Unrealizable.{IsUnrealizable}
use Rattle.spec_model.specs.Games.{GameData, inputs_of, outputs_of}
use Rattle.strategy_tables.specs.Rules.{Check, system_checks, environment_checks, first_flaw}
use Rattle.strategy_tables.specs.Games.{TableData, OfSystem, OfEnvironment}
use Rattle.table_check.specs.declared.checking.CheckEnd.{CheckEnd}
use Rattle.table_check.specs.declared.checking.CheckEnd.TheVariants.{Sound, Flaw, Limit}

-- by the first check that fails, if there is one
abbrev pub end_of : Option Check → CheckEnd
end_of None = Sound
end_of (Some c) = Flaw c.rule c.node

-- first the limit on the moves that rows are compared with, then the checks in their order
abbrev pub check_end : GameData → TableData → CheckEnd
check_end g (OfSystem t) = if nat_lt 1024 (length (inputs_of g)) then Limit else end_of (first_flaw (system_checks g t))
check_end g (OfEnvironment t) = if nat_lt 1024 (length (outputs_of g)) then Limit else end_of (first_flaw (environment_checks g t))

-- the specification is realizable with the table's k, or unrealizable with its n and m
abbrev pub Claims : Specification → TableData → Type 0
Claims s (OfSystem t) = IsRealizable (rules_of s) t.k
Claims s (OfEnvironment t) = IsUnrealizable (rules_of s) t.n t.m
