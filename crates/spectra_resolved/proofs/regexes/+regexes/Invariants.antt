use Rattle.std.proofs.Common.{◌≡◌, ◌≤◌, ◌*◌, ◌+◌, ◌++◌, map, drop, reverse}
use denote.Param.Weighed.{most}
use Rattle.spectra_trees.specs.declared.tree.RegexTree.{size-RegexTree}
use Rattle.spectra_trees.specs.Data as written
use Rattle.spectra_trees.specs.Views.{regex_data as tree_regex}
use Rattle.spectra_resolved.specs.Findings.{with_faults}
use Rattle.spectra_resolved.specs.Reports.{found_in}
use Rattle.spectra_resolved.specs.Chained.{repeated, regex_list}
use Rattle.spectra_resolved.specs.Views.{regex_data}
use Rattle.spectra_resolved.specs.Regexes.{regex_misuses, misuses_of_regexes}
use Rattle.spectra_resolved.specs.ResolverViews.{regex_by, regexes_by}
use Rattle.spectra_resolved.proofs.regexes.+regexes.Given as goal

abbrev pub decreases-regex : goal.decreases-regex
decreases-regex l = 3 * size-RegexTree l.r.now + 1

abbrev pub decreases-part_of : goal.decreases-part_of
decreases-part_of l = 3 * size-RegexTree l.r.now

abbrev pub decreases-regexes : goal.decreases-regexes
decreases-regexes l = 3 * most (λ r. size-RegexTree r) l.rs.now + 1 + 1

-- with the repeats so far behind it, what is left is all
abbrev pub invariant-regex-repeats : goal.invariant-regex-repeats
invariant-regex-repeats l = record {
  same : repeated (regex_by l.resolver (tree_regex l.part)) (reverse l.times.items) ≡ regex_by l.resolver (tree_regex l.r);
  found : regex_misuses (regex_by l.resolver (tree_regex l.part)) ≡ regex_misuses (regex_by l.resolver (tree_regex l.r));
  no_larger : size-RegexTree l.part ≤ size-RegexTree l.r;
}

abbrev pub decreases-regex-repeats : goal.decreases-regex-repeats
decreases-regex-repeats l = size-RegexTree l.part

-- those so far and those of what is left are all
abbrev pub invariant-regexes-loop-r : goal.invariant-regexes-loop-r
invariant-regexes-loop-r l = record {
  same : map regex_data l.made.items ++ regex_list (regexes_by l.resolver (written.regexes (map tree_regex (drop l.r-index l.rs)))) ≡ regex_list (regexes_by l.resolver (written.regexes (map tree_regex l.rs)));
  found : with_faults (found_in l.findings) (misuses_of_regexes (regexes_by l.resolver (written.regexes (map tree_regex (drop l.r-index l.rs))))) ≡ with_faults (found_in l.fn.findings) (misuses_of_regexes (regexes_by l.resolver (written.regexes (map tree_regex l.rs))));
}
