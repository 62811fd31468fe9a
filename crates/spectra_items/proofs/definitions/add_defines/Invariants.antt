use Rattle.std.proofs.Common.{◌≡◌, ◌++◌, drop, map, flat_map}
use Rattle.spectra_resolved.specs.Findings.{with_faults}
use Rattle.spectra_resolved.specs.Reports.{found_in}
use Rattle.spectra_resolved.specs.TextViews.{definition_data}
use Rattle.spectra_items.specs.Meanings.{define_of, define_faults}
use Rattle.spectra_items.specs.ItemViews.{define_data}
use Rattle.spectra_items.specs.Steps.{look_by}
use Rattle.spectra_items.proofs.definitions.add_defines.Given as goal

-- those so far and those of what is left are all
abbrev pub invariant-loop-written : goal.invariant-loop-written
invariant-loop-written l = record {
  same : map definition_data l.all.items ++ map (define_of (look_by l.resolver) l.resolver.file) (map define_data (drop l.written-index l.defines))
      ≡ map definition_data l.fn.all.items ++ map (define_of (look_by l.resolver) l.resolver.file) (map define_data l.defines);
  found : with_faults (found_in l.findings) (flat_map (define_faults (look_by l.resolver) l.resolver.file) (map define_data (drop l.written-index l.defines)))
      ≡ with_faults (found_in l.fn.findings) (flat_map (define_faults (look_by l.resolver) l.resolver.file) (map define_data l.defines));
}
