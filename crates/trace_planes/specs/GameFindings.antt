-- The first broken line of a run of a game.
use Rattle.std.specs.Prelude.{[], Option}
use Rattle.spec_model.specs.declared.game.Label.{Label}
use Rattle.spec_model.specs.Rules.{Position, Run}
use Rattle.spec_model.specs.Games.{GameData}
use Rattle.spec_model.specs.GameRules.{last_state}
use Rattle.spec_model.specs.Steps.{Before}
use Rattle.spec_model.specs.FirstBroken.{first_broken, first_broken_output}
use Rattle.trace_planes.specs.declared.finding.Finding.{Finding}
use Rattle.trace_planes.specs.Findings.{or_else, first_from}

-- ---- at one position

-- the first line of a game that a position breaks after a state: an assumption by its input, or else a guarantee or monitor's
-- line by its output
abbrev pub broken_after : GameData → Before → Position → Option Label
broken_after g b p = or_else (first_broken g b p.input) (first_broken_output g b p.input p.output)

abbrev pub broken_in_game : GameData → Run → Position → Option Label
broken_in_game g h p = broken_after g (last_state g h) p

-- ---- on a run

abbrev pub first_finding : GameData → Run → Option Finding
first_finding g h = first_from (broken_in_game g) [] h
