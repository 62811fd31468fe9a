use Rattle.std.proofs.Common.{ap, ◌∙◌, arith}
use Rattle.spec_model.specs.Views.{domain_data}
use Rattle.column_planes.proofs.Coded.{domain_of-variable}
use Rattle.column_planes.proofs.coding.is_truth.Goals as goal

pub returns-in-Boolean : goal.returns-in-Boolean
returns-in-Boolean c = λ read. domain_of-variable c.args.vars.now c.args.k c.index-vars-k.result (omega (arith, c.if-vars-k.false)) ∙ ap domain_data c.in-Boolean.is
