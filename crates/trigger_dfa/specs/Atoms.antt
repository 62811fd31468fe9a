-- The different formulas of a trigger's brackets.
use Rattle.std.specs.Prelude.{if◌then◌else◌, List, [], ◌∷◌, ◌++◌}
use Rattle.std.specs.List.{list_any}
use Rattle.spec_model.specs.Syntax.{Formula}
use Rattle.spec_model.specs.Sizes.{same_formula}

-- the formulas, and then those of the others that don't stand before
abbrev pub with_atoms : List Formula → List Formula → List Formula
with_atoms atoms [] = atoms
with_atoms atoms (e ∷ es) = with_atoms (if list_any (λ a. same_formula a e) atoms then atoms else atoms ++ e ∷ []) es
