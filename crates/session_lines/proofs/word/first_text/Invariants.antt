use Rattle.std.proofs.Common.{◌≡◌, length}
use Rattle.spec_model.specs.Views.{variable_data}
use Rattle.session_lines.specs.Reading.{words, texts_given}
use Rattle.session_lines.proofs.word.first_text.Given as goal

-- what is left gives the variable what the line gives it
abbrev pub invariant-loop-rest : goal.invariant-loop-rest
invariant-loop-rest l = texts_given (variable_data l.var) (words l.line) ≡ texts_given (variable_data l.var) (words l.rest)

abbrev pub decreases-loop-rest : goal.decreases-loop-rest
decreases-loop-rest l = length l.rest
