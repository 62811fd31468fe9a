use Rattle.std.proofs.Common.{◌≡◌, ◌++◌, map, drop}
use Rattle.spec_model.specs.Views.{formula}
use Rattle.spectra_resolved.specs.Views.{resolved_data}
use Rattle.spectra_judge.specs.KindViews.{known_data}
use Rattle.spectra_cases.specs.Formulas.{formula_of}
use Rattle.spectra_lines.proofs.meaning.formulas.Given as goal

-- those so far and those of what is left are all
abbrev pub invariant-loop-t : goal.invariant-loop-t
invariant-loop-t l = map formula l.es.items ++ map (formula_of (known_data l.by.known) l.by.params) (map resolved_data (drop l.t-index l.ts)) ≡ map (formula_of (known_data l.by.known) l.by.params) (map resolved_data l.ts)
