use Rattle.std.proofs.Common.{◌≡◌, ◌≤◌, map, drop, flat_map}
use Rattle.spec_model.specs.declared.expr.Regex.{size-Regex}
use Rattle.spec_model.specs.Views.{regular}
use Rattle.spec_model.specs.Syntax.{regulars}
use Rattle.spec_model.specs.Sizes.{past_trees, atoms_of, atoms_of_all}
use Rattle.past_bits.specs.Entries.{added}
use Rattle.past_bits.specs.Bits.{tree_of}
use Rattle.past_bits.proofs.operators.Operators.+regexes.Given as goal

-- what is left has the brackets of all
abbrev pub invariant-collect_regex-repeats : goal.invariant-collect_regex-repeats
invariant-collect_regex-repeats l = record {
  same : atoms_of (regular l.part) ≡ atoms_of (regular l.r);
  unchanged : l.self ≡ l.initial.self;
  no_larger : size-Regex l.part ≤ size-Regex l.r;
}

-- what is left leads to the answer
abbrev pub invariant-collect_regexes-loop-r : goal.invariant-collect_regexes-loop-r
invariant-collect_regexes-loop-r l =
    added (map tree_of l.self) (flat_map past_trees (atoms_of_all (regulars (map regular (drop l.r-index l.rs))))) ≡ added (map tree_of l.fn.self) (flat_map past_trees (atoms_of_all (regulars (map regular l.rs))))
