use Rattle.trace_planes.proofs.passing.judge_row.Goals as goal

pub returns-then-is_clear : goal.returns-then-is_clear
returns-then-is_clear c = λ g h st p is clear.
    let parts = c.is_clear.ensures c.if-is_clear.true in
    c.pass.ensures.pushed g h st p is (clear parts.0 parts.1)

pub returns-else-is_clear : goal.returns-else-is_clear
returns-else-is_clear c = λ g h st p is clear. c.push.ensures.pushed g h st p is
