use Rattle.std.proofs.Common.{sym, ap, subst}
use Rattle.spectra_lines.specs.Steps.{ReadsPart}
use Rattle.spectra_lines.specs.Views.{facts_data, part_data}
use Rattle.spectra_lines.proofs.reading.read_part.Goals as goal

pub returns-in_ok-read_pattern-in-Pattern-clause-read : goal.returns-in_ok-read_pattern-in-Pattern-clause-read
returns-in_ok-read_pattern-in-Pattern-clause-read c =
    let f = facts_data c.args.facts.now in
    subst (λ p. ReadsPart f p c.args.read.now c.read_pattern.new.read) (ap part_data (sym c.in-Pattern.is)) (c.in_ok-read_pattern-in-Pattern.ensures.read)
