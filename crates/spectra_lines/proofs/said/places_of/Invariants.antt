use Rattle.std.proofs.Common.{◌≡◌, ◌++◌, map, drop}
use Rattle.spectra_resolved.specs.Texts.{ResolvedLine}
use Rattle.spectra_resolved.specs.TextViews.{line_data}
use Rattle.spectra_lines.proofs.said.places_of.Given as goal

-- those so far and those of what is left are all
abbrev pub invariant-loop-line : goal.invariant-loop-line
invariant-loop-line l = l.places.items ++ map (λ (l : ResolvedLine). l.item) (map line_data (drop l.line-index l.lines)) ≡ map (λ (l : ResolvedLine). l.item) (map line_data l.lines)
