use Rattle.std.proofs.Common.{None, map}
use Rattle.spectra_resolved.specs.TextViews.{definition_data}
use Rattle.spectra_judge.specs.Kinds.{Anything}
use Rattle.spectra_judge.specs.KindViews.{kind_data}
use Rattle.spectra_bounds.specs.Numbers.{constants}
use Rattle.spectra_bounds.proofs.Made.{HasMade}
use Rattle.spectra_bounds.proofs.constants.constants_of.Given as goal

-- what stood in the order so far has its number and its span
abbrev pub invariant-loop-k : goal.invariant-loop-k
invariant-loop-k l =
    record {
      numbers : HasMade None (constants (map definition_data l.definitions)).numbers l.order.numbers.items l.k-index l.constants.numbers.items;
      kinds : HasMade Anything (constants (map definition_data l.definitions)).kinds l.order.numbers.items l.k-index (map kind_data l.constants.kinds.items);
    }
