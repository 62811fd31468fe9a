use Rattle.std.proofs.Common.{sym, ◌∙◌}
use Rattle.spectra_resolved.specs.Reports.{found_in}
use Rattle.spectra_judge.proofs.Found.{some_first, none_first}
use Rattle.spectra_judge.proofs.reporting.report_first.Goals as goal

pub returns-in-Some : goal.returns-in-Some
returns-in-Some c = λ fs e. c.report.ensures.put ∙ some_first (found_in c.args.findings.now) fs c.in-Some.first (sym e ∙ c.in-Some.is)

pub returns-in-None : goal.returns-in-None
returns-in-None c = λ fs e. none_first (found_in c.args.findings.now) fs (sym e ∙ c.in-None.is)
