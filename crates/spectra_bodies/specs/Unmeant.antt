-- Ranges without numbers where nothing else is wrong.
use Rattle.spectra_trees.specs.Faults.{TooLarge, number_of}
use Rattle.std.specs.Prelude.{List, [], ◌++◌, flat_map}
use Rattle.spectra_resolved.specs.declared.findings.Finding.{Finding}
use Rattle.spectra_resolved.specs.Texts.{ResolvedType, RangeOf, ResolvedVariable, ResolvedAlias, ResolvedDefinition, ResolvedPattern, ResolvedText}
use Rattle.spectra_judge.specs.Findings.{fault_if}
use Rattle.spectra_holes.specs.Holed.{is_anything}
use Rattle.spectra_bounds.specs.Numbers.{Constants}
use Rattle.spectra_bounds.specs.Types.{own_kind}

-- a range whose bounds have no numbers
abbrev pub unmeant : Constants → ResolvedType → List Finding
unmeant c (RangeOf at low high) = fault_if (is_anything (own_kind c (RangeOf at low high))) (number_of TooLarge) at
unmeant c _ = []

abbrev pub each_unmeant : Constants → List ResolvedType → List Finding
each_unmeant c ts = flat_map (unmeant c) ts

-- those among the types of variables, declared types, and the types of parameters and of patterns' own variables
abbrev pub all_unmeant : Constants → ResolvedText → List Finding
all_unmeant c text =
    flat_map (λ (v : ResolvedVariable). unmeant c v.domain) text.variables
    ++ (flat_map (λ (a : ResolvedAlias). unmeant c a.body) text.types
    ++ (flat_map (λ (d : ResolvedDefinition). each_unmeant c d.params) text.definitions ++ flat_map (λ (p : ResolvedPattern). each_unmeant c p.own) text.patterns))
