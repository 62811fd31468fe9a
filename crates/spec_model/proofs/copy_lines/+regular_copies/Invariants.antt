use Rattle.std.proofs.Common.{◌≡◌, ◌≤◌, map, take}
use Rattle.spec_model.specs.declared.expr.Regex.{size-Regex}
use Rattle.spec_model.specs.Views.{regular}
use Rattle.spec_model.specs.Around.{around}
use Rattle.spec_model.proofs.copy_lines.+regular_copies.Given as goal

-- what is left, with the repeats so far around it, is all
abbrev pub invariant-copy_regex-repeats : goal.invariant-copy_regex-repeats
invariant-copy_regex-repeats l = record {
  same : around l.repeats.items (regular l.part) ≡ regular l.r;
  no_larger : size-Regex l.part ≤ size-Regex l.r;
}

abbrev pub invariant-copy_regexes-loop-r : goal.invariant-copy_regexes-loop-r
invariant-copy_regexes-loop-r l = map regular l.copies.items ≡ map regular (take l.r-index l.rs)
