use Rattle.std.proofs.Common.{◌≡◌, ◌++◌, map, drop}
use Rattle.spectra_resolved.specs.declared.stand.Stand.TheVariants as stand
use Rattle.spectra_resolved.specs.Views.{resolved_data}
use Rattle.spectra_lines.specs.Contents.{tree_put}
use Rattle.spectra_lines.specs.Limits.{all_fit}
use Rattle.spectra_lines.specs.Views.{facts_data}
use Rattle.spectra_lines.proofs.putting.put_arguments.Given as goal

-- those so far and those of what is left are all, and what is left decides whether all fit
abbrev pub invariant-loop-t : goal.invariant-loop-t
invariant-loop-t l =
    record {
      made : map resolved_data l.made.items ++ map (tree_put (facts_data l.facts) stand.Argument) (map resolved_data (drop l.t-index l.ts)) ≡ map (tree_put (facts_data l.facts) stand.Argument) (map resolved_data l.ts);
      fit : all_fit (map (tree_put (facts_data l.facts) stand.Argument) (map resolved_data (drop l.t-index l.ts))) ≡ all_fit (map (tree_put (facts_data l.facts) stand.Argument) (map resolved_data l.ts));
    }
