use Rattle.std.proofs.Common.{◌≤◌, length, map, flat_map, arith}
use Rattle.spec_model.specs.Views.{spec_data}
use Rattle.spec_model.specs.Sizes.{past_trees, formulas_of}
use Rattle.past_bits.specs.Bits.{tree_of}
use Rattle.past_bits.proofs.Collected.{collected}
use Rattle.past_bits.proofs.operators.Operators.of_spec.Goals as goal

pub returns : goal.returns
returns c =
    let test = c.loop-line-test.false in
    let past : length c.args.spec.now.lines.items ≤ c.loop-line.line-index = grind arith in
    collected (λ line. flat_map past_trees (formulas_of (spec_data c.args.spec.now) line.content)) (map tree_of c.loop-line.operators) c.args.spec.now.lines.items c.loop-line.line-index past c.loop-line.invariant
