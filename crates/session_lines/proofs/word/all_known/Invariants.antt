use Rattle.std.proofs.Common.{◌≡◌, length, map}
use Rattle.std.specs.List.{list_all}
use Rattle.spec_model.specs.Views.{variable_data}
use Rattle.session_lines.specs.Reading.{words, names_one}
use Rattle.session_lines.proofs.word.all_known.Given as goal

-- the line's words are known where those of what is left are
abbrev pub invariant-loop-rest : goal.invariant-loop-rest
invariant-loop-rest l = list_all (names_one (map variable_data l.vars)) (words l.line) ≡ list_all (names_one (map variable_data l.vars)) (words l.rest)

abbrev pub decreases-loop-rest : goal.decreases-loop-rest
decreases-loop-rest l = length l.rest
