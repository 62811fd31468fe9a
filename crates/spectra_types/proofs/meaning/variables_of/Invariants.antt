use Rattle.std.proofs.Common.{drop, map}
use Rattle.spec_model.specs.Views.{variable_data}
use Rattle.spectra_resolved.specs.TextViews.{text_data, variable_data as resolved_variable}
use Rattle.spectra_judge.specs.KindViews.{kind_data}
use Rattle.spectra_types.proofs.VariableSteps.{Left}
use Rattle.spectra_types.proofs.meaning.variables_of.Given as goal

-- those so far and those that are left are all
abbrev pub invariant-loop-declared : goal.invariant-loop-declared
invariant-loop-declared l = Left (text_data l.text) (map kind_data l.kinds) (map variable_data l.all.items) (map resolved_variable (drop l.declared-index l.text.variables.items))
