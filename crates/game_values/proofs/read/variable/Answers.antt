use Rattle.std.proofs.Common.{sym, ◌∙◌}
use Rattle.spec_model.proofs.Among.{among_inputs, among_outputs, among_none}
use Rattle.game_values.proofs.read.variable.Goals as goal

pub returns-in-Env : goal.returns-in-Env
returns-in-Env c =
    c.value_or.ensures ∙ rw (c.count_inputs.ensures)
    (sym (among_inputs c.args.vars.now (record { input = c.args.input.now; output = c.args.output.now }) c.args.k c.index-vars-k.result c.if-k-vars.true c.index-vars-k.is c.in-Env.is))

pub returns-in-Sys : goal.returns-in-Sys
returns-in-Sys c =
    c.value_or-in-Sys.ensures ∙ rw (c.count_outputs.ensures)
    (sym (among_outputs c.args.vars.now (record { input = c.args.input.now; output = c.args.output.now }) c.args.k c.index-vars-k.result c.if-k-vars.true c.index-vars-k.is c.in-Sys.is))

pub returns-else-k-vars : goal.returns-else-k-vars
returns-else-k-vars c = sym (among_none c.args.vars.now (record { input = c.args.input.now; output = c.args.output.now }) c.args.k c.if-k-vars.false)
