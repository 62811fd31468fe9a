use Rattle.session_lines.proofs.Assigned.{unassigned}
use Rattle.session_lines.proofs.value.are_values.Goals as goal

pub returns-then-vars-values : goal.returns-then-vars-values
returns-then-vars-values c = unassigned c.args.vars.now c.args.values.now c.if-vars-values.true
