use Rattle.std.proofs.Common.{◌≡◌, ◌≤◌, ◌*◌, min, map, take}
use Rattle.spec_model.specs.declared.expr.Regex.{size-Regex}
use Rattle.spec_model.specs.Syntax.{regulars}
use Rattle.spec_model.specs.Views.{regular}
use Rattle.trigger_dfa.specs.Sides.{size_in, size_in_each}
use Rattle.trigger_dfa.proofs.counting.+counting.Given as goal

-- so many copies of what is left are all
abbrev pub invariant-positions_in-repeats : goal.invariant-positions_in-repeats
invariant-positions_in-repeats l = record {
  same : min 65 (l.copies * size_in (regular l.part)) ≡ min 65 (size_in (regular l.r));
  few : l.copies ≤ 65;
  no_larger : size-Regex l.part ≤ size-Regex l.r;
}

abbrev pub invariant-positions_in_each-loop-r : goal.invariant-positions_in_each-loop-r
invariant-positions_in_each-loop-r l = l.count ≡ min 65 (size_in_each (regulars (map regular (take l.r-index l.rs))))
