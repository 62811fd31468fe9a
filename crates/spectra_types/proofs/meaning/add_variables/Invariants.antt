use Rattle.std.proofs.Common.{◌≡◌, ◌++◌, map}
use Rattle.spec_model.specs.Views.{variable_data}
use Rattle.spectra_resolved.specs.TextViews.{text_data, variable_data as resolved_variable}
use Rattle.spectra_cases.specs.Formulas.{numbers_below}
use Rattle.spectra_types.specs.Meanings.{element_of}
use Rattle.spectra_types.proofs.meaning.add_variables.Given as goal

-- so many elements stand behind the others
abbrev pub invariant-loop-number : goal.invariant-loop-number
invariant-loop-number l =
    map variable_data l.all.items ≡ map variable_data l.fn.all.items ++ map (element_of (text_data l.text) (resolved_variable l.declared)) (numbers_below 0 l.number)
