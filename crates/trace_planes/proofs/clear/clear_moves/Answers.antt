use Rattle.std.proofs.Common.{sym, ◌∙◌, arith}
use Rattle.trace_planes.proofs.clear.clear_moves.Goals as goal

pub returns-in-Some-clause-clear : goal.returns-in-Some-clause-clear
returns-in-Some-clause-clear c = λ j below g r s move.
    sym (c.all_lines.ensures.plane c.if-not-all_lines.false j (omega (arith, below, c.in-Some.ensures.0)) g r s move) ∙ c.in-Some.ensures.2 j below

pub returns-in-None-clause-clear : goal.returns-in-None-clause-clear
returns-in-None-clause-clear c = λ j below g r s move.
    sym (c.all_lines.ensures.plane c.if-not-all_lines.false j below g r s move) ∙ c.in-None.ensures j below
