use Rattle.std.proofs.Common.{◌≡◌, ◌++◌, ◌∷◌, [], drop, map, string_bytes}
use Rattle.spec_model.specs.Views.{variable_data}
use Rattle.spectra_talks.specs.Endings.{names_text, order_text}
use Rattle.spectra_talks.specs.Orders.{names_by}
use Rattle.spectra_talks.proofs.saying.order_line.Given as goal

-- the line so far, and the names of what is left, are all
abbrev pub invariant-loop-number : goal.invariant-loop-number
invariant-loop-number l =
    string_bytes l.line ++ (names_text (names_by (map variable_data l.vars) (drop l.number-index l.order)) ++ 10 ∷ []) ≡ order_text (names_by (map variable_data l.vars) l.order)
