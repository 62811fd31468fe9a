use Rattle.std.proofs.Common.{sym, ◌∙◌}
use Rattle.spec_model.proofs.Among.{among_inputs, among_outputs}
use Rattle.trace_planes.proofs.columns.value_of.Goals as goal

pub returns-in-Env : goal.returns-in-Env
returns-in-Env c =
    c.value_or.ensures ∙ rw (c.requires.inputs)
    (sym (among_inputs c.args.vars.now (record { input = c.args.input.now; output = c.args.output.now }) c.args.k c.index-vars-k.result c.requires.within c.index-vars-k.is c.in-Env.is))

pub returns-in-Sys : goal.returns-in-Sys
returns-in-Sys c =
    c.value_or-in-Sys.ensures ∙ rw (c.requires.outputs)
    (sym (among_outputs c.args.vars.now (record { input = c.args.input.now; output = c.args.output.now }) c.args.k c.index-vars-k.result c.requires.within c.index-vars-k.is c.in-Sys.is))
