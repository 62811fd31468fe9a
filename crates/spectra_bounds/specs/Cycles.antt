-- Types and definitions that are used in their own bodies.
use Rattle.spectra_trees.specs.Faults.{Cycle, number_of}
use Rattle.std.specs.Prelude.{ℕ, Bool, List, [], ◌∷◌, ◌++◌, map}
use Rattle.std.specs.List.{enumerate_from}
use Rattle.spectra_resolved.specs.declared.spot.Spot.{Spot}
use Rattle.spectra_resolved.specs.declared.findings.Finding.{Finding}
use Rattle.spectra_resolved.specs.Texts.{ResolvedType, TypeNumber, ResolvedAlias}
use Rattle.spectra_judge.specs.Findings.{fault_if}
use Rattle.spectra_bounds.specs.ByUses.{is_on_cycle}

-- for each of several definitions whether it is used in its own body
abbrev pub on_cycles : (uses : List (List ℕ)) → List Bool
on_cycles uses = map (λ u. is_on_cycle uses u.0) (enumerate_from 0 uses)

-- each definition that is used in its own body, at the place of its name
abbrev pub cycle_faults : (on_cycle : List Bool) → List Spot → List Finding
cycle_faults (b ∷ bs) (at ∷ ats) = fault_if b (number_of Cycle) at ++ cycle_faults bs ats
cycle_faults _ _ = []

-- the declared type that a type is a name for
abbrev pub type_uses : ResolvedType → List ℕ
type_uses (TypeNumber k) = k ∷ []
type_uses _ = []

-- the types whose names go round
abbrev pub type_cycles : List ResolvedAlias → List Finding
type_cycles types = cycle_faults (on_cycles (map (λ (a : ResolvedAlias). type_uses a.body) types)) (map (λ (a : ResolvedAlias). a.name.at) types)
