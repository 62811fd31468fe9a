use Rattle.std.proofs.Common.{◌≡◌, [], map, drop, flat_map}
use Rattle.spec_model.specs.Views.{line_data, spec_data}
use Rattle.spec_model.specs.Sizes.{past_trees, formulas_of}
use Rattle.past_bits.specs.Entries.{added}
use Rattle.past_bits.specs.Bits.{tree_of}
use Rattle.past_bits.proofs.operators.Operators.of_spec.Given as goal

-- what is left leads to the answer
abbrev pub invariant-loop-line : goal.invariant-loop-line
invariant-loop-line l =
    added (map tree_of l.operators) (flat_map (λ line. flat_map past_trees (formulas_of (spec_data l.spec) line.content)) (map line_data (drop l.line-index l.spec.lines.items)))
    ≡ added [] (flat_map (λ line. flat_map past_trees (formulas_of (spec_data l.spec) line.content)) (map line_data l.spec.lines.items))
