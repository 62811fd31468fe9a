use Rattle.std.proofs.Common.{◌≡◌, ◌+◌, map, drop}
use Rattle.spectra_lines.specs.Parts.{leading}
use Rattle.spectra_lines.specs.Views.{typed_data}
use Rattle.spectra_lines.proofs.order.leading.Given as goal

-- all so far come before the place
abbrev pub invariant-loop-typed : goal.invariant-loop-typed
invariant-loop-typed l =
    record {
      count : l.count ≡ l.typed-index;
      all : l.count + leading l.at (map typed_data (drop l.typed-index l.patterns)) ≡ leading l.at (map typed_data l.patterns);
    }
