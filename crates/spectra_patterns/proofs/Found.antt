-- What is found in the lines of a pattern.
use Rattle.std.proofs.Common.{◌≡◌, ℕ, ◌+◌, ◌<◌, List, length, map, drop, get_or, flat_map, Option, sym, ap, ◌∙◌}
use Rattle.spectra_resolved.specs.declared.text.PatternLine.{PatternLine}
use Rattle.spectra_resolved.specs.TextViews.{pattern_line_data}
use Rattle.spectra_resolved.specs.declared.findings.Finding.{Finding}
use Rattle.spectra_resolved.specs.Findings.{with_faults}
use Rattle.spectra_resolved.proofs.First.{with_faults_append}
use Rattle.spectra_judge.specs.Known.{Known}
use Rattle.spectra_judge.proofs.Lists.{mapped_left}
use Rattle.spectra_patterns.specs.Patterns.{line_faults}

-- what is found in one of a pattern's lines and what is left
pub line_left : (known : Known) (ls : List PatternLine) (k : ℕ) (l : PatternLine) → k < length ls → l ≡ get_or ls k l → (found : Option Finding)
    → with_faults (with_faults found (line_faults known (pattern_line_data l))) (flat_map (line_faults known) (map pattern_line_data (drop (k + 1) ls)))
    ≡ with_faults found (flat_map (line_faults known) (map pattern_line_data (drop k ls)))
line_left known ls k l below is found =
    sym (with_faults_append found (line_faults known (pattern_line_data l)) (flat_map (line_faults known) (map pattern_line_data (drop (k + 1) ls))))
    ∙ ap (λ xs. with_faults found (flat_map (line_faults known) xs)) (sym (mapped_left pattern_line_data ls k l below is))
