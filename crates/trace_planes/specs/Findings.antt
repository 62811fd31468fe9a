-- The first broken line of a run, and where.
use Rattle.std.specs.Prelude.{suc, [], ◌∷◌, ◌++◌, length, Option, Some, None, option_map}
use Rattle.spec_model.specs.declared.game.Label.{Label}
use Rattle.spec_model.specs.Syntax.{Specification}
use Rattle.spec_model.specs.Rules.{Position, Run, line_label}
use Rattle.spec_model.specs.Moves.{broken_assumption, broken_guarantee}
use Rattle.trace_planes.specs.declared.finding.Finding.{Finding}

-- the first, if there is one, or else the second
abbrev pub or_else : {X : Type 0} → Option X → Option X → Option X
or_else None b = b
or_else (Some a) b = Some a

-- ---- at one position

-- the first line of a specification that a position breaks after a run, in the same order
abbrev pub broken_in : Specification → Run → Position → Option Label
broken_in s h p = or_else (option_map line_label (broken_assumption s h p.input)) (option_map line_label (broken_guarantee s h p.input p.output))

-- ---- on a run

-- what is found at the position after a run; positions are counted from 1
abbrev pub found_after : Run → Option Label → Option Finding
found_after h broken = option_map (λ l. record { label = l; position = suc (length h) }) broken

-- the first finding at the positions that follow a run
abbrev pub first_from : (Run → Position → Option Label) → Run → Run → Option Finding
first_from broken h [] = None
first_from broken h (p ∷ ps) = or_else (found_after h (broken h p)) (first_from broken (h ++ p ∷ []) ps)

abbrev pub first_finding_in : Specification → Run → Option Finding
first_finding_in s h = first_from (broken_in s) [] h
